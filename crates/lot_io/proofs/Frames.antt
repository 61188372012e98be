-- What two calls leave, one after the other.
use Rattle.std.proofs.Common.{◌∙◌, arith}
use Rattle.lot_io.specs.Outside.{Shelved, Finds, OnlyReads}

pub reads_on : {old mid new : Shelved} → OnlyReads old mid → OnlyReads mid new → OnlyReads old new
reads_on a b = record {
  told = b.told ∙ a.told;
  files = b.files ∙ a.files;
  starts = b.starts ∙ a.starts;
  appends = b.appends ∙ a.appends;
  write_faults = b.write_faults ∙ a.write_faults;
  faults = omega (arith, a.faults, b.faults);
  misses = omega (arith, a.misses, b.misses);
  given = omega (arith, a.given, b.given);
}

pub finds_on : {old mid new : Shelved} → Finds old mid → Finds mid new → Finds old new
finds_on a b = record { misses = b.misses ∙ a.misses; faults = b.faults ∙ a.faults }
