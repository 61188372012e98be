use Rattle.std.proofs.Common.{◌<◌, ◌^◌, ◌∷◌, map, take}
use Rattle.std.specs.List.{All}
use Rattle.csv_records.specs.Written.{HasWritten}
use Rattle.pegging.specs.Texts.{header, peg_fields}
use Rattle.pegging.proofs.writing.write_pegs.Given as goal

-- the header and the records of the pegs so far are written, and their quantities fit 64 bits
abbrev pub invariant-loop-peg : goal.invariant-loop-peg
invariant-loop-peg l = record {
  rows : HasWritten l.writer (header ∷ map (peg_fields l.instance) (take l.peg-index l.pegs));
  fit : All (λ peg. peg.quantity < 2 ^ 64) (take l.peg-index l.pegs);
}
