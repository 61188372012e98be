use Rattle.std.proofs.Common.{subst}
use Rattle.std.proofs.lemmas.List.{take_all}
use Rattle.cert_meaning.specs.Named.{names}
use Rattle.cert_checker.specs.Leaves.{no_part}
use Rattle.cert_checker.specs.Named.{AreSumsOf}
use Rattle.cert_checker.proofs.Sums.{not_small, small_next, sums_next}
use Rattle.cert_checker.proofs.named.NamedSums.sum_parts.Goals as goal

pub returns-in-Err-clause-large : goal.returns-in-Err-clause-large
returns-in-Err-clause-large c = λ large total totals.
    let n = names c.args.instance.now total c.args.cuts.now c.args.path.now in
    not_small n c.args.parts.now c.loop-place.place no_part c.loop-place.self.sums c.loop-place-test.true (c.loop-place.invariant.so_far total totals) (c.in-Err.ensures.passed large total totals)

pub loop-place-preserved : goal.loop-place-preserved
loop-place-preserved c =
    let parts = c.args.parts.now in
    let k = c.loop-place.place in
    let old = c.loop-place.self.sums in
    let new = c.add_part.new.self.sums in
    record {
      ready = c.add_part.ensures.ready;
      so_far = λ total totals. sums_next (names c.args.instance.now total c.args.cuts.now c.args.path.now) parts k no_part old c.loop-place-test.true (c.loop-place.invariant.so_far total totals) new (c.in-Ok.ensures.added total totals);
      small = λ total totals. small_next (names c.args.instance.now total c.args.cuts.now c.args.path.now) parts k no_part old c.loop-place-test.true (c.loop-place.invariant.so_far total totals) new (c.in-Ok.ensures.added total totals);
    }

pub returns-clause-sums : goal.returns-clause-sums
returns-clause-sums c = λ total totals.
    let n = names c.args.instance.now total c.args.cuts.now c.args.path.now in
    subst (λ ps. AreSumsOf n ps c.loop-place.self.sums) (take_all c.loop-place.place c.args.parts.now c.loop-place-test.false) (c.loop-place.invariant.so_far total totals)
