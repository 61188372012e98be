use Rattle.std.proofs.Common.{arith, subst}
use Rattle.std.proofs.lemmas.List.{take_all}
use Rattle.std.proofs.lemmas.List.Elements.{All-more}
use Rattle.cert_meaning.specs.Named.{names}
use Rattle.cert_meaning.specs.Parts.{AreParts, IsPart}
use Rattle.cert_checker.specs.Leaves.{no_part}
use Rattle.cert_checker.proofs.parts.test_parts.Goals as goal

pub loop-place-preserved : goal.loop-place-preserved
loop-place-preserved c = λ total.
    let n = names c.args.instance.now total c.args.cuts.now c.args.path.now in
    All-more (IsPart n) c.args.parts.now c.loop-place.place no_part c.loop-place-test.true (c.loop-place.invariant total) (c.in-Ok.ensures.part total)

pub returns-clause-parts : goal.returns-clause-parts
returns-clause-parts c = λ total.
    let n = names c.args.instance.now total c.args.cuts.now c.args.path.now in
    subst (AreParts n) (take_all c.loop-place.place c.args.parts.now c.loop-place-test.false) (c.loop-place.invariant total)

pub returns-in-Err-clause-fault : goal.returns-in-Err-clause-fault
returns-in-Err-clause-fault c = λ total. record {
  place = c.loop-place.place;
  exists = c.loop-place-test.true;
  before = c.loop-place.invariant total;
  wrong = c.in-Err.ensures.wrong total;
  number = omega arith;
}
