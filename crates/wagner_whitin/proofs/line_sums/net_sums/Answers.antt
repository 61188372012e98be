use Rattle.std.proofs.Common.{◌<◌, ap, arith, length, slice_index_or}
use Rattle.lot_sizing.specs.Single.{position_count}
use Rattle.echelon.specs.Views.{single_of_item}
use Rattle.wagner_whitin.specs.Lines.{net_at}
use Rattle.wagner_whitin.proofs.Adding.{next_net, net_read, more, net_fits}
use Rattle.wagner_whitin.proofs.line_sums.net_sums.Goals as goal

pub overflow_sub-needed : goal.overflow_sub-needed
overflow_sub-needed c =
    let s = single_of_item c.args.single.now in
    let p = c.loop-place.place in
    let some : p < position_count s = omega (arith, ap length c.requires.needed) in
    let next = next_net s c.args.needed.now p c.requires.within c.requires.needed some in
    next.low

pub index-requires : goal.index-requires
index-requires c =
    let s = single_of_item c.args.single.now in
    let p = c.loop-place.place in
    let some : p < position_count s = omega (arith, ap length c.requires.needed) in
    let next = next_net s c.args.needed.now p c.requires.within c.requires.needed some in
    omega (arith, next.low, next.high, c.args.single.now.net.ok)

pub overflow_cast-sum : goal.overflow_cast-sum
overflow_cast-sum c =
    let s = single_of_item c.args.single.now in
    let p = c.loop-place.place in
    let some : p < position_count s = omega (arith, ap length c.requires.needed) in
    let next = next_net s c.args.needed.now p c.requires.within c.requires.needed some in
    let read = net_read s p (slice_index_or c.args.needed.now p 0) c.index.result.now next c.index.ensures in
    omega (arith, read, next.small)

pub overflow_add-sum : goal.overflow_add-sum
overflow_add-sum c =
    let s = single_of_item c.args.single.now in
    let p = c.loop-place.place in
    let some : p < position_count s = omega (arith, ap length c.requires.needed) in
    let next = next_net s c.args.needed.now p c.requires.within c.requires.needed some in
    let read = net_read s p (slice_index_or c.args.needed.now p 0) c.index.result.now next c.index.ensures in
    omega (arith, net_fits s p c.index.result.now c.loop-place.sum c.requires.within some c.loop-place.invariant.sum read)

pub loop-place-preserved : goal.loop-place-preserved
loop-place-preserved c =
    let s = single_of_item c.args.single.now in
    let p = c.loop-place.place in
    let some : p < position_count s = omega (arith, ap length c.requires.needed) in
    let next = next_net s c.args.needed.now p c.requires.within c.requires.needed some in
    let read = net_read s p (slice_index_or c.args.needed.now p 0) c.index.result.now next c.index.ensures in
    let grown = more p c.index.result.now c.loop-place.sum (net_at s) c.loop-place.sums.items c.push-in-loop-place.new.self.items c.loop-place.invariant.table c.loop-place.invariant.sum read c.in_ok-push-2.ensures.items in
    record { high = omega (arith, some); table = grown.table; sum = grown.total }
