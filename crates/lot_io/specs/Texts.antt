-- How the faults of files and of output are written.
use Rattle.std.specs.Prelude.{ℕ, List, codes}
use Rattle.lot_io.specs.declared.files.ReadFault.{ReadFault}
use Rattle.lot_io.specs.declared.files.ReadFault.TheVariants as read
use Rattle.lot_io.specs.declared.shelf.ShelfFault.{ShelfFault}
use Rattle.lot_io.specs.declared.shelf.ShelfFault.TheVariants as shelf

abbrev pub shelf_fault_text : ShelfFault → List ℕ
shelf_fault_text shelf.Missing = codes "there is no such file"
shelf_fault_text shelf.Failed = codes "the file could not be read"

abbrev pub read_fault_text : ReadFault → List ℕ
read_fault_text read.Missing = codes "there is no such file"
read_fault_text read.Failed = codes "the file could not be read"
read_fault_text read.TooLong = codes "the file is too long"
read_fault_text read.Memory = codes "out of memory"
