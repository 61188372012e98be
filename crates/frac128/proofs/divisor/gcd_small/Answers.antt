use Rattle.std.proofs.lemmas.Nat.Gcd.{IsGcd-from_mod, IsGcd-swap}
use Rattle.frac128.proofs.divisor.gcd_small.Goals as goal

pub returns-else-rest-eq0 : goal.returns-else-rest-eq0
returns-else-rest-eq0 c = IsGcd-from_mod _ _ _ (IsGcd-swap _ _ _ c.gcd_halved.ensures)

pub returns-else-rest-eq0-2 : goal.returns-else-rest-eq0-2
returns-else-rest-eq0-2 c = IsGcd-swap _ _ _ (IsGcd-from_mod _ _ _ c.gcd_halved-else-rest-eq0-2.ensures)
