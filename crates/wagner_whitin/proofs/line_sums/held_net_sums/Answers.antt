use Rattle.std.proofs.Common.{◌<◌, ◌-◌, ◌*◌, ap, arith, length, slice_index_or}
use Rattle.lot_sizing.specs.Single.{position_count}
use Rattle.echelon.specs.Views.{single_of_item}
use Rattle.wagner_whitin.specs.Lines.{held_at}
use Rattle.wagner_whitin.proofs.Adding.{next_net, held_read, more, held_net_fits}
use Rattle.wagner_whitin.proofs.line_sums.held_net_sums.Goals as goal

pub overflow_sub-before : goal.overflow_sub-before
overflow_sub-before c =
    let s = single_of_item c.args.single.now in
    let p = c.loop-place.place in
    let some : p < position_count s = omega (arith, ap length c.requires.needed) in
    let next = next_net s c.args.needed.now p c.requires.within c.requires.needed some in
    next.low

pub index-net-requires : goal.index-net-requires
index-net-requires c =
    let s = single_of_item c.args.single.now in
    let p = c.loop-place.place in
    let some : p < position_count s = omega (arith, ap length c.requires.needed) in
    let next = next_net s c.args.needed.now p c.requires.within c.requires.needed some in
    omega (arith, next.low, next.high, c.args.single.now.net.ok)

pub bounds-held-before : goal.bounds-held-before
bounds-held-before c =
    let s = single_of_item c.args.single.now in
    let p = c.loop-place.place in
    let some : p < position_count s = omega (arith, ap length c.requires.needed) in
    let next = next_net s c.args.needed.now p c.requires.within c.requires.needed some in
    omega (arith, next.low, next.high, c.requires.held.size)

pub overflow_mul-sum : goal.overflow_mul-sum
overflow_mul-sum c =
    let s = single_of_item c.args.single.now in
    let p = c.loop-place.place in
    let some : p < position_count s = omega (arith, ap length c.requires.needed) in
    let next = next_net s c.args.needed.now p c.requires.within c.requires.needed some in
    let read = held_read s p (slice_index_or c.args.needed.now p 0) c.index-net.result.now c.args.held.now next c.requires.held c.index-net.ensures in
    omega (arith, held_net_fits s p (c.index-net.result.now * slice_index_or c.args.held.now ((slice_index_or c.args.needed.now p 0) - 1) 0) c.loop-place.sum c.requires.within some c.loop-place.invariant.sum read)

pub overflow_add-sum : goal.overflow_add-sum
overflow_add-sum c =
    let s = single_of_item c.args.single.now in
    let p = c.loop-place.place in
    let some : p < position_count s = omega (arith, ap length c.requires.needed) in
    let next = next_net s c.args.needed.now p c.requires.within c.requires.needed some in
    let read = held_read s p (slice_index_or c.args.needed.now p 0) c.index-net.result.now c.args.held.now next c.requires.held c.index-net.ensures in
    omega (arith, held_net_fits s p (c.index-net.result.now * slice_index_or c.args.held.now ((slice_index_or c.args.needed.now p 0) - 1) 0) c.loop-place.sum c.requires.within some c.loop-place.invariant.sum read)

pub loop-place-preserved : goal.loop-place-preserved
loop-place-preserved c =
    let s = single_of_item c.args.single.now in
    let p = c.loop-place.place in
    let some : p < position_count s = omega (arith, ap length c.requires.needed) in
    let next = next_net s c.args.needed.now p c.requires.within c.requires.needed some in
    let read = held_read s p (slice_index_or c.args.needed.now p 0) c.index-net.result.now c.args.held.now next c.requires.held c.index-net.ensures in
    let grown = more p (c.index-net.result.now * slice_index_or c.args.held.now ((slice_index_or c.args.needed.now p 0) - 1) 0) c.loop-place.sum (held_at s) c.loop-place.sums.items c.push-in-loop-place.new.self.items c.loop-place.invariant.table c.loop-place.invariant.sum read c.in_ok-push-2.ensures.items in
    record { high = omega (arith, some); table = grown.table; sum = grown.total }
