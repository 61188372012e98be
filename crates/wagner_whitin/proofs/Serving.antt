-- Runs of servers, and the table of least costs.
use Rattle.std.proofs.Common.{◌≡◌, ◌≤◌, ◌<◌, ◌+◌, ◌-◌, ◌*◌, ◌^◌, ◌∙◌, ⊎_elim, ℕ, zero, suc, refl, sym, ap, subst, arith, List, length, Option, Some, None, IfSome}
use Rattle.std.specs.Prelude.{◌↔◌, slice_set}
use Rattle.std.proofs.lemmas.List.{get_or-set_same, get_or-set_other, length-set}
use Rattle.std.proofs.lemmas.Nat.{mul-le}
use Rattle.std.proofs.lemmas.Bool.{cases_lt}
use Rattle.lot_sizing.specs.Sums.{sum_from}
use Rattle.lot_sizing.specs.Problem.{entry}
use Rattle.lot_sizing.specs.declared.Block.{Block}
use Rattle.lot_sizing.specs.Single.{Single, IsWithinBounds, IsServer, period_count, position_count, net_demand, period_of, serving_cost, block_cost, unit_price, potential}
use Rattle.lot_sizing.proofs.Sums.{sum_to_at, sum_to-front}
use Rattle.lot_sizing.proofs.Positions.{count, count_idle, count_next, place}
use Rattle.lot_sizing.proofs.Blocks.{periods_rise}
use Rattle.wagner_whitin.specs.declared.server_blocks.ServerBlock.{ServerBlock}
use Rattle.wagner_whitin.specs.Tables.{IsServerBlock, IsClosed, IsServerBlockOrNone, AreServerBlocks, most_for_one, block_at}
use Rattle.wagner_whitin.proofs.Sums.{IsRead, read_is, entry_small}

abbrev block_of : ℕ → ℕ → ℕ → Block
block_of a p u = record { first = a; last = p; server = u }

-- a block that serves one position more
block_more : (s : Single) (a p u : ℕ) → a ≤ suc p → block_cost s (block_of a (suc p) u) ≡ block_cost s (block_of a p u) + serving_cost s u (suc p)
block_more s a p u h =
    let e : suc (suc p) - a ≡ suc (suc p - a) = omega (arith, h) in
    let i : a + (suc p - a) ≡ suc p = omega (arith, h) in
    omega (arith, ap (λ k. sum_from a k (serving_cost s u)) e, ap (serving_cost s u) i)

-- a block of no position
block_none : (s : Single) (p u : ℕ) → block_cost s (block_of (suc p) p u) ≡ entry s.setup u
block_none s p u = let e : suc p - suc p ≡ 0 = omega arith in omega (arith, ap (λ k. sum_from (suc p) k (serving_cost s u)) e)

-- a block that began earlier costs no less up to the last position
earlier_dearer : (s : Single) (g : List ℕ) (u p a x : ℕ) (old : Option ServerBlock) → IsServerBlockOrNone s g u p old → IfSome old (λ block. x ≤ block.cost) → 1 ≤ a → a ≤ p → IsServer s u (period_of s a) → x ≤ potential g (a - 1) + block_cost s (block_of a p u)
earlier_dearer s g u p a x None closed dearer low high may = absurd (closed a low high may)
earlier_dearer s g u p a x (Some block) has dearer low high may = omega (arith, dearer, has.least a low high may)

begins : (s : Single) (g : List ℕ) (u p cost : ℕ) (old : Option ServerBlock) → IsServer s u (period_of s (suc p)) → IsServerBlockOrNone s g u p old → IfSome old (λ block. potential g p + entry s.setup u ≤ block.cost) → cost ≡ potential g p + entry s.setup u + serving_cost s u (suc p) → cost ≤ suc p * most_for_one → IsServerBlock s g u (suc p) (record { cost = cost; first = suc p; server = u })
begins s g u p cost old server before dearer is small =
    let d : suc p - 1 ≡ p = omega arith in
    record {
      own = refl;
      low = omega arith;
      high = omega arith;
      server = server;
      cost = omega (arith, is, block_more s (suc p) p u (omega arith), block_none s p u, ap (potential g) d);
      least = λ a low high may. ⊎_elim
          (λ earlier. omega (arith, is, earlier_dearer s g u p a (potential g p + entry s.setup u) old before dearer low (omega (arith, earlier)) may, block_more s a p u high))
          (λ here. let e : a ≡ suc p = omega (arith, here, high) in omega (arith, is, block_more s (suc p) p u (omega arith), block_none s p u, ap (potential g) d, ap (λ k. potential g (k - 1)) e, ap (λ k. block_cost s (block_of k (suc p) u)) e))
          (cases_lt a (suc p));
      small = small;
    }

goes_on : (s : Single) (g : List ℕ) (u p cost : ℕ) (block : ServerBlock) → IsServer s u (period_of s (suc p)) → IsServerBlock s g u p block → block.cost ≤ potential g p + entry s.setup u → cost ≡ block.cost + serving_cost s u (suc p) → cost ≤ suc p * most_for_one → IsServerBlock s g u (suc p) (record { cost = cost; first = block.first; server = u })
goes_on s g u p cost block server has cheaper is small =
    let d : suc p - 1 ≡ p = omega arith in
    record {
      own = refl;
      low = has.low;
      high = omega (arith, has.high);
      server = has.server;
      cost = omega (arith, is, has.cost, block_more s block.first p u (omega (arith, has.high)));
      least = λ a low high may. ⊎_elim
          (λ earlier. omega (arith, is, has.least a low (omega (arith, earlier)) may, block_more s a p u high))
          (λ here. let e : a ≡ suc p = omega (arith, here, high) in omega (arith, is, cheaper, block_more s (suc p) p u (omega arith), block_none s p u, ap (potential g) d, ap (λ k. potential g (k - 1)) e, ap (λ k. block_cost s (block_of k (suc p) u)) e))
          (cases_lt a (suc p));
      small = small;
    }

-- no more positions than periods
pub count_small : (s : Single) (t : ℕ) → count s t ≤ t
count_small s zero = omega arith
count_small s (suc t) = ⊎_elim (λ some. omega (arith, count_next s t some, count_small s t)) (λ none. omega (arith, count_idle s t (omega (arith, none)), count_small s t)) (cases_lt 0 (net_demand s (suc t)))

pub positions_small : (s : Single) → IsWithinBounds s → position_count s ≤ 120
positions_small s within = omega (arith, count_small s (period_count s), within.periods)

-- the period of a position
pub record IsPeriod (s : Single) (t : ℕ) : Type 0 where
  pub low : 1 ≤ t
  pub high : t ≤ period_count s
  pub net : net_demand s t ≤ 10 ^ 12

pub period_in : (s : Single) (p : ℕ) → IsWithinBounds s → 1 ≤ p → p ≤ position_count s → IsPeriod s (period_of s p)
period_in s p within low high =
    let found = place s p low high in
    let t = period_of s p in
    let t_low : 1 ≤ t = omega (arith, found.3) in
    let t_high : t ≤ period_count s = omega (arith, found.1, found.3) in
    record { low = t_low; high = t_high; net = omega (arith, sum_to_at t (net_demand s) t_low, sum_to-front t (period_count s) (net_demand s) t_high, within.net) }

-- serving a position costs less than the most for one
pub serving_small : (net price : ℕ) → net ≤ 10 ^ 12 → price ≤ 121 * 10 ^ 9 → net * price ≤ 121 * 10 ^ 21
serving_small net price a b = omega (arith, mul-le net price (10 ^ 12) (121 * 10 ^ 9) a b)

pub net_small : (s : Single) (t x : ℕ) → IsWithinBounds s → 1 ≤ t → t ≤ period_count s → IsRead s.net (t - 1) x → x ≤ 10 ^ 12
net_small s t x within low high read = omega (arith, read_is s.net (t - 1) x (omega (arith, low, high)) read, sum_to_at t (net_demand s) low, sum_to-front t (period_count s) (net_demand s) high, within.net)

-- what a server costs a position more
serving_is : (s : Single) (u p t serving : ℕ) → t ≡ period_of s (p + 1) → serving ≡ net_demand s t * unit_price s u t → serving ≡ serving_cost s u (suc p)
serving_is s u p t serving same value =
    let e : p + 1 ≡ suc p = omega arith in
    value ∙ ap (λ k. net_demand s k * unit_price s u k) (same ∙ ap (period_of s) e)

pub fresh_block : (s : Single) (g : List ℕ) (u t : ℕ) (old : Option ServerBlock) (before setup serving : ℕ) → IsWithinBounds s → length g < 120 → t ≡ period_of s (length g + 1) → IsServer s u t → IsServerBlockOrNone s g u (length g) old → potential g (length g) ≤ length g * most_for_one → before ≡ potential g (length g) → IsRead s.setup (u - 1) setup → serving ≡ net_demand s t * unit_price s u t → serving ≤ 121 * 10 ^ 21 → IfSome old (λ block. before + setup ≤ block.cost) → IsServerBlock s g u (length g + 1) (record { cost = before + setup + serving; first = length g + 1; server = u })
fresh_block s g u t old before setup serving within count same server had small is read value few dearer =
    let p = length g in
    let e : suc p ≡ p + 1 = omega arith in
    let setup_is = read_is s.setup (u - 1) setup (omega (arith, within.setup.size, server.low, server.high)) read in
    let setup_small = entry_small (period_count s) s.setup within.setup u server.low server.high in
    let here : IsServer s u (period_of s (suc p)) = subst (IsServer s u) (same ∙ ap (period_of s) (sym e)) server in
    let starts : before + setup ≡ potential g p + entry s.setup u = omega (arith, is, setup_is) in
    let cost_small : before + setup + serving ≤ suc p * most_for_one = omega (arith, small, is, setup_is, setup_small, few) in
    subst (λ q. IsServerBlock s g u q (record { cost = before + setup + serving; first = q; server = u })) e (begins s g u p (before + setup + serving) old here had (subst (λ k. IfSome old (λ block. k ≤ block.cost)) starts dearer) (omega (arith, is, setup_is, serving_is s u p t serving same value)) cost_small)

pub kept_block : (s : Single) (g : List ℕ) (u t : ℕ) (block : ServerBlock) (before setup serving : ℕ) → IsWithinBounds s → t ≡ period_of s (length g + 1) → IsServer s u t → IsServerBlock s g u (length g) block → before ≡ potential g (length g) → IsRead s.setup (u - 1) setup → serving ≡ net_demand s t * unit_price s u t → serving ≤ 121 * 10 ^ 21 → block.cost ≤ before + setup → IsServerBlock s g u (length g + 1) (record { cost = block.cost + serving; first = block.first; server = u })
kept_block s g u t block before setup serving within same server has is read value few cheaper =
    let p = length g in
    let e : suc p ≡ p + 1 = omega arith in
    let setup_is = read_is s.setup (u - 1) setup (omega (arith, within.setup.size, server.low, server.high)) read in
    let here : IsServer s u (period_of s (suc p)) = subst (IsServer s u) (same ∙ ap (period_of s) (sym e)) server in
    subst (λ q. IsServerBlock s g u q (record { cost = block.cost + serving; first = block.first; server = u })) e (goes_on s g u p (block.cost + serving) block here has (omega (arith, cheaper, is, setup_is)) (omega (arith, serving_is s u p t serving same value)) (omega (arith, has.small, few)))

-- a list of blocks with one set anew
pub block_here : (blocks : List (Option ServerBlock)) (v : ℕ) (x : Option ServerBlock) → 1 ≤ v → v ≤ length blocks → block_at (slice_set blocks (v - 1) x) v ≡ x
block_here blocks v x low high = get_or-set_same blocks (v - 1) x None (omega (arith, low, high))

pub block_other : (blocks : List (Option ServerBlock)) (v u : ℕ) (x : Option ServerBlock) → 1 ≤ v → 1 ≤ u → (u ≡ v → ⊥) → block_at (slice_set blocks (v - 1) x) u ≡ block_at blocks u
block_other blocks v u x low u_low apart = get_or-set_other blocks (v - 1) (u - 1) x None (λ same. apart (omega (arith, same, low, u_low)))

pub set_length : (blocks : List (Option ServerBlock)) (i : ℕ) (x : Option ServerBlock) → length (slice_set blocks i x) ≡ length blocks
set_length blocks i x = length-set blocks i x

-- a server that may not serve a position may serve no earlier one
still_closed : (s : Single) (t u p : ℕ) → p < position_count s → t ≡ period_of s (p + 1) → (IsServer s u t → ⊥) → IsClosed s u (p + 1)
still_closed s t u p some same closed a low high may =
    let rise = periods_rise s a (p + 1) low high (omega (arith, some)) in
    closed (record { low = may.low; high = may.high; in_time = λ none. omega (arith, may.in_time none, rise, same) })

closed_block : (s : Single) (g : List ℕ) (t u p : ℕ) (old : Option ServerBlock) → p < position_count s → t ≡ period_of s (p + 1) → (IsServer s u t → ⊥) → IsServerBlockOrNone s g u p old → IsServerBlockOrNone s g u (p + 1) old
closed_block s g t u p None some same closed before = still_closed s t u p some same closed
closed_block s g t u p (Some block) some same closed has = absurd (still_closed s t u p some same closed block.first has.low (omega (arith, has.high)) has.server)

-- servers past the limit have no block, and the others have one
pub closed_blocks : (s : Single) (g : List ℕ) (t limit v : ℕ) (blocks : List (Option ServerBlock)) → length g < position_count s → t ≡ period_of s (length g + 1) → ((u : ℕ) → 1 ≤ u → (IsServer s u t ↔ (u ≤ limit))) → limit < v → length blocks ≡ period_count s → ((u : ℕ) → 1 ≤ u → u < v → IsServerBlockOrNone s g u (length g + 1) (block_at blocks u)) → ((u : ℕ) → v ≤ u → u ≤ period_count s → IsServerBlockOrNone s g u (length g) (block_at blocks u)) → AreServerBlocks s g (length g + 1) blocks
closed_blocks s g t limit v blocks some same servers past size done rest = record {
  size = size;
  each = λ u low high. ⊎_elim
      (λ before. done u low before)
      (λ no. closed_block s g t u (length g) (block_at blocks u) some same (λ may. omega (arith, (servers u low).0 may, past, no)) (rest u no high))
      (cases_lt u v);
}
