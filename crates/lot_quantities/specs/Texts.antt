-- How the fault of a table is written.
use Rattle.std.specs.Prelude.{ℕ, List, ◌++◌, codes, decimal}
use Rattle.lot_quantities.specs.declared.fault.QuantityFault.{QuantityFault}
use Rattle.lot_quantities.specs.declared.fault.QuantityFault.TheVariants as fault

abbrev pub quantity_fault_text : QuantityFault → List ℕ
quantity_fault_text fault.Header = codes "plan header"
quantity_fault_text fault.RowCount = codes "plan count"
quantity_fault_text (fault.Row n) = codes "plan row " ++ decimal n
quantity_fault_text (fault.Number n c) = codes "plan number " ++ (decimal n ++ (codes " " ++ decimal c))
quantity_fault_text fault.Memory = codes "out of memory"
