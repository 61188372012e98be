use Rattle.std.proofs.lemmas.Int.{to_z-of_z}
use Rattle.frac128.proofs.LeastCommon.{fits_small}
use Rattle.frac128.proofs.denominators.grown.Goals as goal

pub returns-in-None : goal.returns-in-None
returns-in-None c =
    let f1 = c.ranges.den in
    let f2 = c.ranges.other in
    λ _. (simp to_z-of_z at c.in-None.ensures) (fits_small c.args.den c.args.other c.requires.den_positive c.requires.other_positive c.requires.den_small c.requires.other_small)
