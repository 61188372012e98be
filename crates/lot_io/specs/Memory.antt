-- What a shelf and a sink in memory show, and which call comes next.
use Rattle.std.specs.Prelude.{true, List, ℕ, Option, option_map, Vec, String, min, length, take, ◌+◌, ◌/◌}
use Rattle.std.specs.declared.alloc.Global.{Global}
use Rattle.std.specs.BTreeMap.{BTreeMap, get_by_text}
use Rattle.lot_io.specs.declared.memory.MemoryShelf.{MemoryShelf}
use Rattle.lot_io.specs.declared.memory.MemorySink.{MemorySink}
use Rattle.lot_io.specs.Outside.{Files, Printed, Shelved, last_count}

-- the bytes of each file
abbrev pub file_in : BTreeMap (String Global) (Vec ℕ Global) → Files
file_in files name = option_map (λ v. v.items) (get_by_text files name)

-- the number of the next call, where so many were made
abbrev pub next_count : ℕ → ℕ
next_count n = min (n + 1) last_count

-- the first half of a piece, rounded down
abbrev pub half_of : List ℕ → List ℕ
half_of piece = take (length piece / 2) piece

-- a shelf in memory tells all
abbrev pub shelved : MemoryShelf → Shelved
shelved s = record { told = true; file = file_in s.files; faults = s.faults; write_faults = s.write_faults; misses = s.misses; given = s.given; starts = s.starts; appends = s.appends }

-- and so does a sink
abbrev pub printed : MemorySink → Printed
printed s = record { told = true; bytes = s.bytes.items; puts = s.puts; faults = s.faults }
