use Rattle.std.proofs.Common.{arith, false, refl, sym}
use Rattle.bill.proofs.Members.{missing_item}
use Rattle.bill.proofs.reach.add.Goals as goal

pub returns-clause-grown : goal.returns-clause-grown
returns-clause-grown c = λ _. missing_item c.args.set.now c.args.item false c.requires.low c.requires.high (sym c.if-set-place.false) refl

pub returns-clause-fewer : goal.returns-clause-fewer
returns-clause-fewer c = omega (arith, missing_item c.args.set.now c.args.item false c.requires.low c.requires.high (sym c.if-set-place.false) refl)
