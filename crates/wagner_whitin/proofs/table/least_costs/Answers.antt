use Rattle.std.proofs.Common.{◌≡◌, ◌≤◌, ◌<◌, ◌+◌, ◌∙◌, ◌∷◌, ◌++◌, [], ap, subst, sym, arith, ℕ, length, drop, Some, IfSome}
use Rattle.std.proofs.lemmas.List.{take_at}
use Rattle.lot_sizing.specs.Single.{IsServer, position_count}
use Rattle.echelon.specs.Views.{single_of_item}
use Rattle.wagner_whitin.specs.Tables.{AreServerBlocks, IsTable, BlockCostsAtMost, block_at}
use Rattle.wagner_whitin.proofs.Serving.{positions_small}
use Rattle.wagner_whitin.proofs.Tabled.{period_read, blocks_kept, some_block, table_more}
use Rattle.wagner_whitin.proofs.table.least_costs.Goals as goal

pub last_server-limit-requires-clause-low : goal.last_server-limit-requires-clause-low
last_server-limit-requires-clause-low c = (period_read (single_of_item c.args.single.now) c.in_ok-needed.needed.items c.loop-place.place c.index-period.result.now c.requires.within c.in_ok-needed.ensures.positions (omega (arith, ap length c.in_ok-needed.ensures.positions)) c.index-period.ensures).low

pub last_server-limit-requires-clause-high : goal.last_server-limit-requires-clause-high
last_server-limit-requires-clause-high c = (period_read (single_of_item c.args.single.now) c.in_ok-needed.needed.items c.loop-place.place c.index-period.result.now c.requires.within c.in_ok-needed.ensures.positions (omega (arith, ap length c.in_ok-needed.ensures.positions)) c.index-period.ensures).high

pub serve-requires-clause-count : goal.serve-requires-clause-count
serve-requires-clause-count c = omega (arith, positions_small (single_of_item c.args.single.now) c.requires.within, c.loop-place.invariant.table.size, c.deref.ensures.len, ap length c.in_ok-needed.ensures.positions)

pub serve-requires-clause-low : goal.serve-requires-clause-low
serve-requires-clause-low c = (period_read (single_of_item c.args.single.now) c.in_ok-needed.needed.items c.loop-place.place c.index-period.result.now c.requires.within c.in_ok-needed.ensures.positions (omega (arith, ap length c.in_ok-needed.ensures.positions)) c.index-period.ensures).low

pub unreachable-requires : goal.unreachable-requires
unreachable-requires c =
    let s = single_of_item c.args.single.now in
    let g = c.loop-place.potentials.items in
    let p = c.loop-place.place in
    let inv = c.loop-place.invariant in
    let some : p < position_count s = omega (arith, ap length c.in_ok-needed.ensures.positions) in
    let per = period_read s c.in_ok-needed.needed.items p c.index-period.result.now c.requires.within c.in_ok-needed.ensures.positions some c.index-period.ensures in
    let blocks = c.serve.new.blocks in
    let size : length c.deref.result.now ≡ p = omega (arith, c.deref.ensures.len, inv.table.size) in
    let are : AreServerBlocks s g (p + 1) blocks = subst (λ k. AreServerBlocks s g (k + 1) blocks) size (subst (λ xs. AreServerBlocks s xs (length c.deref.result.now + 1) blocks) c.deref.ensures.value c.serve.ensures) in
    let back = take_at blocks (drop (length blocks) c.loop-place.blocks.items) c.loop-place.blocks.len (omega (arith, are.size, inv.blocks.size)) in
    let lent : c.deref-in-loop-place.result.now ≡ blocks = c.deref-in-loop-place.ensures.value ∙ back in
    let limit = c.last_server-limit.result in
    let low : 1 ≤ limit = omega (arith, per.low, c.last_server-limit.ensures.self_serves) in
    let may = subst (IsServer s limit) per.same ((c.last_server-limit.ensures.servers limit low).1 (omega arith)) in
    let found = some_block s g (p + 1) limit blocks are (omega arith) may in
    subst (λ o. BlockCostsAtMost o found.0) c.in_default.is (c.cheapest.ensures.least limit found.0 low (omega arith) (subst (λ xs. BlockCostsAtMost (block_at xs limit) found.0) (sym lent) found.1))

pub overflow_cast-place : goal.overflow_cast-place
overflow_cast-place c = omega (arith, positions_small (single_of_item c.args.single.now) c.requires.within, c.loop-place.invariant.high)

pub overflow_add-place : goal.overflow_add-place
overflow_add-place c = omega (arith, positions_small (single_of_item c.args.single.now) c.requires.within, c.loop-place.invariant.high)

pub loop-place-preserved : goal.loop-place-preserved
loop-place-preserved c =
    let s = single_of_item c.args.single.now in
    let g = c.loop-place.potentials.items in
    let p = c.loop-place.place in
    let inv = c.loop-place.invariant in
    let some : p < position_count s = omega (arith, ap length c.in_ok-needed.ensures.positions) in
    let per = period_read s c.in_ok-needed.needed.items p c.index-period.result.now c.requires.within c.in_ok-needed.ensures.positions some c.index-period.ensures in
    let blocks = c.serve.new.blocks in
    let size : length c.deref.result.now ≡ p = omega (arith, c.deref.ensures.len, inv.table.size) in
    let are : AreServerBlocks s g (p + 1) blocks = subst (λ k. AreServerBlocks s g (k + 1) blocks) size (subst (λ xs. AreServerBlocks s xs (length c.deref.result.now + 1) blocks) c.deref.ensures.value c.serve.ensures) in
    let back = take_at blocks (drop (length blocks) c.loop-place.blocks.items) c.loop-place.blocks.len (omega (arith, are.size, inv.blocks.size)) in
    let lent : c.deref-in-loop-place.result.now ≡ blocks = c.deref-in-loop-place.ensures.value ∙ back in
    let block = c.in-Some.best in
    let limit = c.last_server-limit.result in
    let least = λ (v x : ℕ) (low : 1 ≤ v) (high : v ≤ limit) (at : BlockCostsAtMost (block_at blocks v) x). subst (λ o. BlockCostsAtMost o x) c.in-Some.is (c.cheapest.ensures.least v x low high (subst (λ xs. BlockCostsAtMost (block_at xs v) x) (sym lent) at)) in
    let kept : (u : ℕ) × (1 ≤ u) × (u ≤ limit) × (block_at blocks u ≡ Some block) = subst (λ xs. (u : ℕ) × (1 ≤ u) × (u ≤ limit) × (block_at xs u ≡ Some block)) lent (subst (λ o. IfSome o (λ r. (u : ℕ) × (1 ≤ u) × (u ≤ limit) × (block_at c.deref-in-loop-place.result.now u ≡ Some r))) c.in-Some.is c.cheapest.ensures.kept) in
    let more = table_more s p g c.loop-place.lasts.items blocks c.index-period.result.now limit kept.0 block inv.table some per.same c.last_server-limit.ensures.servers are kept.1 kept.2 kept.3 least in
    let costs : c.push-in-loop-place.new.self.items ≡ g ++ block.cost ∷ [] = c.in_ok-push-2.ensures.items in
    let lasts : c.push.new.self.items ≡ c.loop-place.lasts.items ++ record { first = block.first; last = p + 1; server = block.server } ∷ [] = c.in_ok-push.ensures.items in
    record {
      high = omega (arith, some);
      table = subst (λ xs. IsTable s (p + 1) xs c.push.new.self.items) (sym costs) (subst (IsTable s (p + 1) (g ++ block.cost ∷ [])) (sym lasts) more);
      blocks = subst (λ xs. AreServerBlocks s c.push-in-loop-place.new.self.items (p + 1) xs) (sym back) (subst (λ xs. AreServerBlocks s xs (p + 1) blocks) (sym costs) (blocks_kept s g block.cost (p + 1) blocks (omega (arith, inv.table.size)) are));
    }

pub returns : goal.returns
returns c =
    let s = single_of_item c.args.single.now in
    let e : c.loop-place.place ≡ position_count s = omega (arith, c.loop-place.invariant.high, ap length c.in_ok-needed.ensures.positions) in
    subst (λ k. IsTable s k c.loop-place.potentials.items c.loop-place.lasts.items) e c.loop-place.invariant.table
