-- Blocks that are added up position by position.
use Rattle.std.proofs.Common.{◌≡◌, ◌≤◌, ◌+◌, ◌-◌, ◌*◌, ⊎_elim, ◌⊎◌, ℕ, suc, sym, ap, subst, arith, List, slice_index_or}
use Rattle.lot_sizing.specs.Sums.{sum_from}
use Rattle.lot_sizing.specs.Problem.{entry}
use Rattle.lot_sizing.specs.declared.Block.{Block}
use Rattle.lot_sizing.specs.Single.{Single, IsWithinBounds, IsServer, IsBlock, period_count, block_cost, potential, position_count, positions, net_demand, period_of, serving_cost, unit_price}
use Rattle.lot_sizing.proofs.Blocks.{periods_rise}
use Rattle.wagner_whitin.specs.declared.plain.Candidate.{Candidate}
use Rattle.wagner_whitin.specs.Tables.{IsCandidate, most_for_one}
use Rattle.wagner_whitin.proofs.Serving.{period_in}

-- a position's period, in the list of periods
pub record IsAt (s : Single) (p t : ℕ) : Type 0 where
  pub same : t ≡ period_of s p
  pub low : 1 ≤ t
  pub high : t ≤ period_count s

pub period_at : (s : Single) (periods : List ℕ) (p : ℕ) → IsWithinBounds s → periods ≡ positions s → 1 ≤ p → p ≤ position_count s → IsAt s p (slice_index_or periods (p - 1) 0)
period_at s periods p within same low high =
    let here : slice_index_or periods (p - 1) 0 ≡ period_of s p = ap (λ xs. slice_index_or xs (p - 1) 0) same in
    let range = period_in s p within low high in
    record { same = here; low = omega (arith, here, range.low); high = omega (arith, here, range.high) }

-- a block's server may serve each of its positions
pub may_serve : (s : Single) (b : Block) (p t : ℕ) → IsBlock s b → b.first ≤ p → p ≤ b.last → t ≡ period_of s p → IsServer s b.server t
may_serve s b p t is_block low high same =
    let rise = periods_rise s b.first p is_block.low low (omega (arith, high, is_block.high)) in
    record { low = is_block.server.low; high = is_block.server.high; in_time = λ none. omega (arith, is_block.server.in_time none, rise, same) }

-- a position more
pub sum_more : (s : Single) (u first place t serving cost : ℕ) → first ≤ place → t ≡ period_of s place → serving ≡ net_demand s t * unit_price s u t → cost ≡ entry s.setup u + sum_from first (place - first) (serving_cost s u) → cost + serving ≡ entry s.setup u + sum_from first (place + 1 - first) (serving_cost s u)
sum_more s u first place t serving cost low same value so_far =
    let e : place + 1 - first ≡ suc (place - first) = omega (arith, low) in
    let i : first + (place - first) ≡ place = omega (arith, low) in
    omega (arith, so_far, value, ap (λ k. net_demand s k * unit_price s u k) same, ap (λ k. sum_from first k (serving_cost s u)) e, ap (serving_cost s u) i)

-- a block from a server of its first position
pub block_from : (s : Single) (first last u t : ℕ) → IsAt s first t → 1 ≤ first → first ≤ last → last ≤ position_count s → IsServer s u t → IsBlock s (record { first = first; last = last; server = u })
block_from s first last u t at low order high may = record { low = low; order = order; high = high; server = subst (IsServer s u) at.same may }

-- the first position's own period serves a block
pub own_block : (s : Single) (first last t : ℕ) → IsAt s first t → 1 ≤ first → first ≤ last → last ≤ position_count s → IsBlock s (record { first = first; last = last; server = t })
own_block s first last t at low order high = block_from s first last t t at low order high (record { low = at.low; high = at.high; in_time = λ none. omega arith })

-- a block of these positions, and what it costs after what was spent before
pub record IsOffer (s : Single) (before first last : ℕ) (c : Candidate) : Type 0 where
  pub block : IsBlock s c.block
  pub begins : c.block.first ≡ first
  pub ends : c.block.last ≡ last
  pub cost : c.cost ≡ before + block_cost s c.block
  pub small : c.cost ≤ before + (last + 1 - first) * most_for_one

pub offer_of : (s : Single) (before first last : ℕ) (one other chosen : Candidate) → (chosen ≡ one) ⊎ (chosen ≡ other) → IsOffer s before first last one → IsOffer s before first last other → IsOffer s before first last chosen
offer_of s before first last one other chosen either a b = ⊎_elim (λ same. subst (IsOffer s before first last) (sym same) a) (λ same. subst (IsOffer s before first last) (sym same) b) either

-- a block that ends with position p, and what all up to it costs
pub record IsLast (s : Single) (g : List ℕ) (p : ℕ) (c : Candidate) : Type 0 where
  pub block : IsBlock s c.block
  pub ends : c.block.last ≡ p
  pub cost : c.cost ≡ potential g (c.block.first - 1) + block_cost s c.block
  pub small : c.cost ≤ p * most_for_one

pub last_of : (s : Single) (g : List ℕ) (p : ℕ) (one other chosen : Candidate) → (chosen ≡ one) ⊎ (chosen ≡ other) → IsLast s g p one → IsLast s g p other → IsLast s g p chosen
last_of s g p one other chosen either a b = ⊎_elim (λ same. subst (IsLast s g p) (sym same) a) (λ same. subst (IsLast s g p) (sym same) b) either

pub candidate_last : (s : Single) (g : List ℕ) (before first last : ℕ) (c : Candidate) → before ≡ potential g (first - 1) → IsCandidate s before first last c → first ≤ last → before ≤ (first - 1) * most_for_one → IsLast s g last c
candidate_last s g before first last c is cand order small = record {
  block = cand.block;
  ends = cand.ends;
  cost = omega (arith, cand.cost, is, ap (λ k. potential g (k - 1)) cand.begins);
  small = omega (arith, cand.small, small, order, cand.begins, cand.block.low);
}
