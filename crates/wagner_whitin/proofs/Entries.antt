-- The first position that a server may serve, and the lines from there.
use Rattle.std.proofs.Common.{◌≤◌, ◌+◌, ◌-◌, ◌⊎◌, ⊎_elim, inl, inr, ℕ, arith}
use Rattle.std.specs.Prelude.{IsNone}
use Rattle.std.proofs.lemmas.Bool.{cases_lt}
use Rattle.lot_sizing.specs.Problem.{entry}
use Rattle.lot_sizing.specs.Single.{Single, IsServer, period_count, position_count, period_of, serving_cost, potential}
use Rattle.lot_sizing.proofs.Positions.{count_le, count_next, place, later}
use Rattle.wagner_whitin.specs.Lines.{entry_of, IsNoDearer, LinesArePotentials}
use Rattle.wagner_whitin.proofs.Floors
use Rattle.wagner_whitin.proofs.Floors.{AreLeast, floor}
use Rattle.wagner_whitin.proofs.Costs.{no_dearer, held_before}

pub entry_serves : (s : Single) (u a : ℕ) → IsNone s.back → 1 ≤ u → u ≤ period_count s → entry_of s u ≤ a → a ≤ position_count s → IsServer s u (period_of s a)
entry_serves s u a no_backlog low high begun a_high = record { low = low; high = high; in_time = λ none. omega (arith, later s (u - 1) a (omega (arith, begun)) a_high) }

pub serves_entry : (s : Single) (u a : ℕ) → IsNone s.back → 1 ≤ a → a ≤ position_count s → IsServer s u (period_of s a) → entry_of s u ≤ a
serves_entry s u a no_backlog low high may =
    let found = place s a low high in
    let k = found.0 in
    omega (arith, count_le s (u - 1) k (omega (arith, may.in_time no_backlog, found.3, may.low)), count_next s k found.2.some, found.2.count)

pub slopes_order : (s : Single) (u w : ℕ) → 1 ≤ u → 1 ≤ w → IsNoDearer s u w ⊎ IsNoDearer s w u
slopes_order s u w u_low w_low =
    ⊎_elim
    (λ less. inl (no_dearer s u w u_low w_low (omega (arith, less))))
    (λ more. inr (no_dearer s w u w_low u_low more))
    (cases_lt (entry s.unit u + held_before s w) (entry s.unit w + held_before s u))

-- of two servers one is nowhere dearer, among the positions that both may serve
pub orders : (s : Single) (m u w : ℕ) → IsNone s.back → m ≤ position_count s → 1 ≤ u → u ≤ period_count s → 1 ≤ w → w ≤ period_count s → Floors.IsNoDearer (entry_of s) (serving_cost s) m u w ⊎ Floors.IsNoDearer (entry_of s) (serving_cost s) m w u
orders s m u w no_backlog m_high u_low u_high w_low w_high =
    let opened : (v a : ℕ) → 1 ≤ v → v ≤ period_count s → entry_of s v ≤ a → a ≤ position_count s → v ≤ period_of s a = λ v a low high begun a_high. (entry_serves s v a no_backlog low high begun a_high).in_time no_backlog in
    ⊎_elim
    (λ a. inl (λ p u_open w_open high. a p (omega (arith, u_open)) (omega (arith, high, m_high)) (opened u p u_low u_high u_open (omega (arith, high, m_high))) (opened w p w_low w_high w_open (omega (arith, high, m_high)))))
    (λ b. inr (λ p w_open u_open high. b p (omega (arith, u_open)) (omega (arith, high, m_high)) (opened w p w_low w_high w_open (omega (arith, high, m_high))) (opened u p u_low u_high u_open (omega (arith, high, m_high)))))
    (slopes_order s u w u_low w_low)

pub lines_are_potentials : LinesArePotentials
lines_are_potentials s g no_backlog are =
    let least : AreLeast (λ u. (1 ≤ u) × (u ≤ period_count s)) (position_count s) (potential g) (entry s.setup) (entry_of s) (serving_cost s) = record {
      low = λ u one. omega arith;
      least = λ u p one begun high. are.least u p one.0 one.1 begun high;
      some = λ p low high. let found = are.some p low high in (found.0, (found.1, found.2), found.3, found.4);
      order = λ u w one_u one_w. orders s (position_count s) u w no_backlog (omega arith) one_u.0 one_u.1 one_w.0 one_w.1;
    } in
    record {
      size = are.size;
      blocks = λ b is_block. omega (arith, floor (λ u. (1 ≤ u) × (u ≤ period_count s)) (position_count s) (potential g) (entry s.setup) (entry_of s) (serving_cost s) least b.first b.server b.last (is_block.server.low, is_block.server.high) (serves_entry s b.server b.first no_backlog is_block.low (omega (arith, is_block.order, is_block.high)) is_block.server) is_block.order is_block.high);
    }
