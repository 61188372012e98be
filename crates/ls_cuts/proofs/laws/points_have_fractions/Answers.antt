use Rattle.ls_cuts.proofs.Shapes.{have_fractions}
use Rattle.ls_cuts.proofs.laws.points_have_fractions.Goals as goal

pub returns : goal.returns
returns c = λ m weight i e of q x all l high. have_fractions m weight i e of q x all l high
