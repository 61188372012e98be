-- The shares of a resource's time.
use Rattle.std.proofs.Common.{◌≡◌, ◌≤◌, ◌*◌, ℕ, max, subst, arith}
use Rattle.std.proofs.Math.Nat.{div-le_of_le-mul, mul-div-le}
use Rattle.lot_sizing.specs.Problem.{capacity}
use Rattle.lot_sizing.specs.Plan.{time_used}
use Rattle.plan_report.specs.Figures.{number_of, percent}
use Rattle.plan_report.specs.Laws.{LoadsAreShares}

at_most : (part whole : ℕ) → part ≤ whole → percent part whole ≤ 100
unfolding percent
at_most part whole h = div-le_of_le-mul (max whole 1) (omega (arith, h))

where_full : (part whole : ℕ) → part ≤ whole → percent part whole ≡ 100 → part ≡ whole
unfolding percent
where_full part whole h is =
    let most : max whole 1 * 100 ≤ part * 100 = subst (λ q. max whole 1 * q ≤ part * 100) is (mul-div-le (part * 100) (max whole 1)) in
    omega (arith, h, most)

pub are_shares : LoadsAreShares
unfolding number_of
are_shares m p feasible k t low high period_low period_high =
    let within : time_used m p k t ≤ capacity m k t = feasible.capacity k t low high period_low period_high in
    record {
      whole = omega (arith, within);
      most = at_most (time_used m p k t) (capacity m k t) within;
      full = where_full (time_used m p k t) (capacity m k t) within;
    }
