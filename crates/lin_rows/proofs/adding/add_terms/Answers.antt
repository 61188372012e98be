use Rattle.std.proofs.Common.{◌≡◌, ◌∙◌, take, slice_index_or}
use mir.Facts.{to_z-of_z}
use mir.Val.{to_z, of_z}
use mir.Syntax.{w128}
use Rattle.lin_rows.specs.Sums.{AddsTerms, AddsTerm}
use Rattle.lin_rows.proofs.Coefficients.{add_next, no_term, room_next, term_read}
use Rattle.lin_rows.proofs.adding.add_terms.Goals as goal

pub add_term-requires-clause-room : goal.add_term-requires-clause-room
add_term-requires-clause-room c =
    let ts = c.args.terms.now in
    let k = c.loop-place.place in
    let e : to_z w128 (of_z w128 c.args.times) ≡ c.args.times = to_z-of_z c.ranges.times in
    let adds : AddsTerms c.args.sums.now c.loop-place.sums (take k ts) c.args.times = rw e at c.loop-place.invariant.adds in
    rw e (room_next c.args.sums.now c.loop-place.sums ts k (slice_index_or ts k no_term) c.args.times c.requires.terms c.loop-place-test.true (term_read ts k c.loop-place-test.true) adds c.requires.room)

pub loop-place-preserved : goal.loop-place-preserved
loop-place-preserved c =
    let ts = c.args.terms.now in
    let k = c.loop-place.place in
    let e : to_z w128 (of_z w128 c.args.times) ≡ c.args.times = to_z-of_z c.ranges.times in
    let so_far : AddsTerms c.args.sums.now c.loop-place.sums (take k ts) c.args.times = rw e at c.loop-place.invariant.adds in
    let adds : AddsTerm c.loop-place.sums c.add_term.new.self (slice_index_or ts k no_term) c.args.times = rw e at c.add_term.ensures.adds in
    record {
      adds = rw e (add_next c.args.sums.now c.loop-place.sums c.add_term.new.self ts k (slice_index_or ts k no_term) c.args.times c.requires.terms c.loop-place-test.true (term_read ts k c.loop-place-test.true) so_far adds);
      shape = (c.add_term.ensures.shape.0 ∙ c.loop-place.invariant.shape.0, c.add_term.ensures.shape.1 ∙ c.loop-place.invariant.shape.1);
      right = c.add_term.ensures.right ∙ c.loop-place.invariant.right;
    }
