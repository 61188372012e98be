use Rattle.std.proofs.lemmas.Nat.Gcd.{IsGcd-from_mod, IsGcd-swap}
use Rattle.frac128.proofs.divisor.gcd.Goals as goal

pub returns-then-b : goal.returns-then-b
returns-then-b c = IsGcd-from_mod _ _ _ (IsGcd-swap _ _ _ c.gcd_small-then-b.ensures)

pub returns-then-a-2 : goal.returns-then-a-2
returns-then-a-2 c = IsGcd-swap _ _ _ (IsGcd-from_mod _ _ _ c.gcd_small-then-a-2.ensures)
