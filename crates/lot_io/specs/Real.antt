-- What the machine's files and output show: their counts alone.
use Rattle.std.specs.Prelude.{false, None, [], ℕ, List, Option}
use Rattle.lot_io.specs.Outside.{Printed, Shelved}
use Rattle.lot_io.specs.declared.real.DiskShelf.{DiskShelf}
use Rattle.lot_io.specs.declared.real.StdSink.{StdSink}

-- the files aren't told
abbrev pub shelved : {R : Type 0} → DiskShelf R → Shelved
shelved s = record { told = false; file = λ _. None; faults = s.faults; write_faults = s.write_faults; misses = s.misses; given = s.given; starts = s.starts; appends = s.appends }

-- nor is what was put
abbrev pub printed : {W : Type 0} → StdSink W → Printed
printed s = record { told = false; bytes = []; puts = s.puts; faults = s.faults }

-- what its writer holds, where the writer says so
abbrev pub written_in : {W : Type 0} → (W → Option (List ℕ)) → StdSink W → Option (List ℕ)
written_in contents s = contents s.out
