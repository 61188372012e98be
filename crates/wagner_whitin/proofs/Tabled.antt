-- The table of least costs takes a position more.
use Rattle.std.proofs.Common.{◌≡◌, ◌≤◌, ◌<◌, ◌+◌, ◌-◌, ◌*◌, ◌∙◌, ⊎_elim, ℕ, zero, suc, refl, sym, ap, subst, arith, List, [], ◌∷◌, ◌++◌, length, slice_index_or, Option, Some, None}
use Rattle.std.specs.Prelude.{◌↔◌}
use Rattle.std.proofs.lemmas.List.{length_push, get_or_push, get_or_append_left, get_or_default}
use Rattle.std.proofs.lemmas.Bool.{cases_lt}
use Rattle.lot_sizing.specs.Problem.{AllAtMost}
use Rattle.lot_sizing.specs.declared.Block.{Block}
use Rattle.lot_sizing.specs.Laws.{BlocksServe, LastPotentialIsFloor}
use Rattle.lot_sizing.specs.Single.{Single, IsWithinBounds, IsServer, ArePotentials, Cover, IsLeastNetCost, blocks_plan, blocks_cost, period_count, position_count, positions, period_of, block_cost, potential}
use Rattle.lot_sizing.proofs.Blocks.{periods_rise}
use Rattle.wagner_whitin.specs.declared.plain.Candidate.{Candidate}
use Rattle.wagner_whitin.specs.declared.server_blocks.ServerBlock.{ServerBlock}
use Rattle.wagner_whitin.specs.Solution.{IsSolution}
use Rattle.echelon.specs.declared.single.Blocks.{Blocks}
use Rattle.wagner_whitin.specs.Tables.{IsCheapestLast, IsServerBlock, IsServerBlockOrNone, AreServerBlocks, BlockCostsAtMost, IsTable, IsLastBlock, most_for_one, last_block, most_cost, no_block, block_at}
use Rattle.wagner_whitin.proofs.Sums.{IsRead, read_is}
use Rattle.wagner_whitin.proofs.Serving.{period_in, positions_small}

-- the potentials that were there stay
pub potential_kept : (g : List ℕ) (x k : ℕ) → k ≤ length g → potential (g ++ x ∷ []) k ≡ potential g k
potential_kept g x zero h = refl
potential_kept g x (suc k) h = get_or_append_left g (x ∷ []) 0 (suc k - 1) (omega (arith, h))

pub potential_new : (g : List ℕ) (x : ℕ) → potential (g ++ x ∷ []) (suc (length g)) ≡ x
potential_new g x = get_or_push g x 0 (suc (length g) - 1) (omega arith)

block_kept : (s : Single) (g : List ℕ) (x u p : ℕ) (block : ServerBlock) → p ≤ suc (length g) → IsServerBlock s g u p block → IsServerBlock s (g ++ x ∷ []) u p block
block_kept s g x u p block h has = record {
  own = has.own;
  low = has.low;
  high = has.high;
  server = has.server;
  cost = omega (arith, has.cost, potential_kept g x (block.first - 1) (omega (arith, has.high, h)));
  least = λ a low high may. omega (arith, has.least a low high may, potential_kept g x (a - 1) (omega (arith, high, h)));
  small = has.small;
}

block_or_none_kept : (s : Single) (g : List ℕ) (x u p : ℕ) (old : Option ServerBlock) → p ≤ suc (length g) → IsServerBlockOrNone s g u p old → IsServerBlockOrNone s (g ++ x ∷ []) u p old
block_or_none_kept s g x u p None h closed = closed
block_or_none_kept s g x u p (Some block) h has = block_kept s g x u p block h has

pub blocks_kept : (s : Single) (g : List ℕ) (x p : ℕ) (blocks : List (Option ServerBlock)) → p ≤ suc (length g) → AreServerBlocks s g p blocks → AreServerBlocks s (g ++ x ∷ []) p blocks
blocks_kept s g x p blocks h are = record {
  size = are.size;
  each = λ u low high. block_or_none_kept s g x u p (block_at blocks u) h (are.each u low high);
}

-- the block of a server that may serve the position
has_at : (s : Single) (g : List ℕ) (p u : ℕ) (old : Option ServerBlock) → IsServerBlockOrNone s g u p old → 1 ≤ p → IsServer s u (period_of s p) → (block : ServerBlock) × (old ≡ Some block) × IsServerBlock s g u p block
has_at s g p u None closed low may = absurd (closed p low (omega arith) may)
has_at s g p u (Some block) has low may = (block, refl, has)

-- some server has a block
pub some_block : (s : Single) (g : List ℕ) (p u : ℕ) (blocks : List (Option ServerBlock)) → AreServerBlocks s g p blocks → 1 ≤ p → IsServer s u (period_of s p) → (x : ℕ) × BlockCostsAtMost (block_at blocks u) x
some_block s g p u blocks are low may =
    let has = has_at s g p u (block_at blocks u) (are.each u may.low may.high) low may in
    (has.0.cost, subst (λ o. BlockCostsAtMost o has.0.cost) (sym has.1) (omega arith))

-- the cheapest block makes the next potential
pub table_more : (s : Single) (p : ℕ) (g : List ℕ) (lasts : List Block) (blocks : List (Option ServerBlock)) (t limit u : ℕ) (block : ServerBlock) → IsTable s p g lasts → p < position_count s → t ≡ period_of s (p + 1) → ((v : ℕ) → 1 ≤ v → (IsServer s v t ↔ (v ≤ limit))) → AreServerBlocks s g (p + 1) blocks → 1 ≤ u → u ≤ limit → block_at blocks u ≡ Some block → ((v x : ℕ) → 1 ≤ v → v ≤ limit → BlockCostsAtMost (block_at blocks v) x → block.cost ≤ x) → IsTable s (p + 1) (g ++ block.cost ∷ []) (lasts ++ record { first = block.first; last = p + 1; server = block.server } ∷ [])
table_more s p g lasts blocks t limit u block table some same servers are low high kept least =
    let x = block.cost in
    let b : Block = record { first = block.first; last = p + 1; server = block.server } in
    let at = λ (v : ℕ) (v_low : 1 ≤ v) (v_high : v ≤ limit). subst (IsServer s v) same ((servers v v_low).1 v_high) in
    let has : IsServerBlock s g u (p + 1) block = subst (IsServerBlockOrNone s g u (p + 1)) kept (are.each u low (at u low high).high) in
    let own_cost : block_cost s b ≡ block_cost s (record { first = block.first; last = p + 1; server = u }) = ap (λ k. block_cost s (record { first = block.first; last = p + 1; server = k })) has.own in
    let e : suc (length g) ≡ p + 1 = omega (arith, table.size) in
    let new : potential (g ++ x ∷ []) (p + 1) ≡ x = ap (potential (g ++ x ∷ [])) (sym e) ∙ potential_new g x in
    record {
      size = omega (arith, length_push g x, table.size);
      blocks = omega (arith, length_push lasts b, table.blocks);
      floor = λ c is_block c_last. ⊎_elim
          (λ before. omega (arith, table.floor c is_block (omega (arith, before)), potential_kept g x c.last (omega (arith, before, table.size)), potential_kept g x (c.first - 1) (omega (arith, is_block.order, before, table.size))))
          (λ no.
          let last : c.last ≡ p + 1 = omega (arith, no, c_last) in
          let v = c.server in
          let rise = periods_rise s c.first (p + 1) is_block.low (omega (arith, is_block.order, last)) (omega (arith, some)) in
          let may : IsServer s v (period_of s (p + 1)) = record { low = is_block.server.low; high = is_block.server.high; in_time = λ none. omega (arith, is_block.server.in_time none, rise) } in
          let v_high = (servers v is_block.server.low).0 (subst (IsServer s v) (sym same) may) in
          let has_v = has_at s g (p + 1) v (block_at blocks v) (are.each v may.low may.high) (omega arith) may in
          omega (
            arith,
            ap (potential (g ++ x ∷ [])) last,
            new,
            least v has_v.0.cost is_block.server.low v_high (subst (λ o. BlockCostsAtMost o has_v.0.cost) (sym has_v.1) (omega arith)),
            has_v.2.least c.first is_block.low (omega (arith, is_block.order, last)) is_block.server,
            potential_kept g x (c.first - 1) (omega (arith, is_block.order, last, table.size)),
            ap (λ k. block_cost s (record { first = c.first; last = k; server = v })) last,
          ))
          (cases_lt c.last (p + 1));
      last = λ k k_low k_high. ⊎_elim
          (λ before.
          let old = table.last k k_low (omega (arith, before)) in
          let here : last_block (lasts ++ b ∷ []) k ≡ last_block lasts k = get_or_append_left lasts (b ∷ []) no_block (k - 1) (omega (arith, before, k_low, table.blocks)) in
          subst (IsLastBlock s (g ++ x ∷ []) k) (sym here) (record { block = old.block; ends = old.ends; cost = omega (arith, old.cost, potential_kept g x k (omega (arith, before, table.size)), potential_kept g x ((last_block lasts k).first - 1) (omega (arith, old.block.order, old.ends, before, table.size))) }))
          (λ no.
          let i : k ≡ p + 1 = omega (arith, no, k_high) in
          let here : last_block (lasts ++ b ∷ []) k ≡ b = get_or_push lasts b no_block (k - 1) (omega (arith, i, table.blocks)) in
          subst (IsLastBlock s (g ++ x ∷ []) k) (sym here) (record {
            block = record { low = has.low; order = has.high; high = omega (arith, some); server = subst (λ k. IsServer s k (period_of s block.first)) (sym has.own) has.server };
            ends = sym i;
            cost = omega (arith, ap (potential (g ++ x ∷ [])) i, new, has.cost, own_cost, potential_kept g x (block.first - 1) (omega (arith, has.high, table.size)));
          }))
          (cases_lt k (p + 1));
      small = λ k k_high. ⊎_elim
          (λ before. omega (arith, potential_kept g x k (omega (arith, before, table.size)), table.small k (omega (arith, before))))
          (λ no. let i : k ≡ p + 1 = omega (arith, no, k_high) in omega (arith, ap (potential (g ++ x ∷ [])) i, new, has.small, ap (λ j. j * most_for_one) i))
          (cases_lt k (p + 1));
    }

-- a position's period, as it is read
pub record IsPeriodOf (s : Single) (p t : ℕ) : Type 0 where
  pub same : t ≡ period_of s (p + 1)
  pub low : 1 ≤ t
  pub high : t ≤ period_count s

pub period_read : (s : Single) (periods : List ℕ) (p t : ℕ) → IsWithinBounds s → periods ≡ positions s → p < position_count s → IsRead periods p t → IsPeriodOf s p t
period_read s periods p t within same high read =
    let is = read_is periods p t (omega (arith, ap length same, high)) read in
    let d : p + 1 - 1 ≡ p = omega arith in
    let here : t ≡ period_of s (p + 1) = is ∙ ap (λ xs. slice_index_or xs p 0) same ∙ ap (λ k. slice_index_or (positions s) k 0) (sym d) in
    let in_range = period_in s (p + 1) within (omega arith) (omega (arith, high)) in
    record { same = here; low = omega (arith, here, in_range.low); high = omega (arith, here, in_range.high) }

-- the whole table proves its last potential a floor
pub are_potentials : (s : Single) (g : List ℕ) (lasts : List Block) → IsTable s (position_count s) g lasts → ArePotentials s g
are_potentials s g lasts table = record { size = table.size; blocks = λ b is_block. table.floor b is_block is_block.high }

-- the cost is the last potential
pub last_is : (s : Single) (g : List ℕ) (lasts : List Block) (read : List ℕ) (cost : ℕ) → IsTable s (position_count s) g lasts → read ≡ g → cost ≡ potential read (length read) → potential g (position_count s) ≡ cost
last_is s g lasts read cost table same is =
    let e : length read ≡ position_count s = ap length same ∙ table.size in
    sym (is ∙ ap (λ xs. potential xs (length xs)) same ∙ ap (potential g) table.size)

-- potentials and blocks of one cost make it the least
pub least_is : (s : Single) (g : List ℕ) (blocks : List Block) (cost : ℕ) → ArePotentials s g → Cover s blocks → blocks_cost s blocks ≡ cost → potential g (position_count s) ≡ cost → LastPotentialIsFloor → BlocksServe → IsLeastNetCost s cost
least_is s g blocks cost pots cover costs last floor serve =
    let served = serve s blocks cover in
    record {
      some = (blocks_plan s blocks, served.0, omega (arith, served.1, costs, last, floor s g pots (blocks_plan s blocks) served.0));
      least = λ p plan. omega (arith, last, floor s g pots p plan);
    }

bounded_by : (s : Single) (g : List ℕ) (lasts : List Block) → IsWithinBounds s → IsTable s (position_count s) g lasts → AllAtMost most_cost g
bounded_by s g lasts within table = λ k d h.
    let e : suc k - 1 ≡ k = omega arith in
    omega (arith, get_or_default g k d 0 h, ap (λ j. slice_index_or g j 0) e, table.small (suc k) (omega (arith, h, table.size)), positions_small s within, h, table.size)

-- what the whole table and the blocks that are read off it give
pub solution_is : (s : Single) (lasts : List Block) (found : Blocks) → IsWithinBounds s → IsTable s (position_count s) found.potentials.items lasts → Cover s found.blocks.items → blocks_cost s found.blocks.items ≡ potential found.potentials.items (position_count s) → potential found.potentials.items (position_count s) ≡ found.cost → LastPotentialIsFloor → BlocksServe → IsSolution s found
solution_is s lasts found within table cover costs last floor serve =
    let g = found.potentials.items in
    let pots = are_potentials s g lasts table in
    record {
      least = least_is s g found.blocks.items found.cost pots cover (costs ∙ last) last floor serve;
      cover = cover;
      cost = costs ∙ last;
      potentials = pots;
      last = last;
      small = omega (arith, last, table.small (position_count s) (omega arith), positions_small s within);
      bounded = bounded_by s g lasts within table;
    }

-- a cheapest last block makes the next potential
pub table_by_last : (s : Single) (p : ℕ) (g : List ℕ) (lasts : List Block) (c : Candidate) → IsTable s p g lasts → IsCheapestLast s g (p + 1) c → IsTable s (p + 1) (g ++ c.cost ∷ []) (lasts ++ c.block ∷ [])
table_by_last s p g lasts c table best =
    let x = c.cost in
    let e : suc (length g) ≡ p + 1 = omega (arith, table.size) in
    let new : potential (g ++ x ∷ []) (p + 1) ≡ x = ap (potential (g ++ x ∷ [])) (sym e) ∙ potential_new g x in
    record {
      size = omega (arith, length_push g x, table.size);
      blocks = omega (arith, length_push lasts c.block, table.blocks);
      floor = λ b is_block b_last. ⊎_elim
          (λ before. omega (arith, table.floor b is_block (omega (arith, before)), potential_kept g x b.last (omega (arith, before, table.size)), potential_kept g x (b.first - 1) (omega (arith, is_block.order, before, table.size))))
          (λ no.
          let last : b.last ≡ p + 1 = omega (arith, no, b_last) in
          omega (arith, ap (potential (g ++ x ∷ [])) last, new, best.least b is_block last, potential_kept g x (b.first - 1) (omega (arith, is_block.order, last, table.size))))
          (cases_lt b.last (p + 1));
      last = λ k k_low k_high. ⊎_elim
          (λ before.
          let old = table.last k k_low (omega (arith, before)) in
          let here : last_block (lasts ++ c.block ∷ []) k ≡ last_block lasts k = get_or_append_left lasts (c.block ∷ []) no_block (k - 1) (omega (arith, before, k_low, table.blocks)) in
          subst (IsLastBlock s (g ++ x ∷ []) k) (sym here) (record { block = old.block; ends = old.ends; cost = omega (arith, old.cost, potential_kept g x k (omega (arith, before, table.size)), potential_kept g x ((last_block lasts k).first - 1) (omega (arith, old.block.order, old.ends, before, table.size))) }))
          (λ no.
          let i : k ≡ p + 1 = omega (arith, no, k_high) in
          let here : last_block (lasts ++ c.block ∷ []) k ≡ c.block = get_or_push lasts c.block no_block (k - 1) (omega (arith, i, table.blocks)) in
          subst (IsLastBlock s (g ++ x ∷ []) k) (sym here) (record {
            block = best.block;
            ends = best.ends ∙ sym i;
            cost = omega (arith, ap (potential (g ++ x ∷ [])) i, new, best.cost, potential_kept g x (c.block.first - 1) (omega (arith, best.block.order, best.ends, table.size)));
          }))
          (cases_lt k (p + 1));
      small = λ k k_high. ⊎_elim
          (λ before. omega (arith, potential_kept g x k (omega (arith, before, table.size)), table.small k (omega (arith, before))))
          (λ no. let i : k ≡ p + 1 = omega (arith, no, k_high) in omega (arith, ap (potential (g ++ x ∷ [])) i, new, best.small, ap (λ j. j * most_for_one) i))
          (cases_lt k (p + 1));
    }
