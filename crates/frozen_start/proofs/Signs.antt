-- The least stocks and backlogs by a signed number, and what stays in the rest.
use Rattle.std.proofs.Common.{◌≡◌, ◌≤◌, ◌+◌, ◌-◌, ◌∙◌, ◌⊎◌, ⊎_elim, inl, inr, ℕ, zero, suc, ap, refl, sym, subst, arith, List, [], ◌∷◌, length, Option, Some, None}
use Rattle.std.specs.Prelude.{pos, ◌-ℤ◌, IsNone, drop, option_map}
use Rattle.std.proofs.lemmas.Int.{ints}
use Rattle.std.proofs.lemmas.Bool.{cases_lt}
use Rattle.lot_sizing.specs.Problem.{IsUncoupled, IsWithinLimits, Problem, item_at, item_count}
use Rattle.lot_sizing.specs.Plan.{Plan, Table}
use Rattle.lot_sizing.specs.Least.{least_backlog, least_stock, outflow, supply}
use Rattle.lot_sizing.proofs.Lots.{arriving_now}
use Rattle.frozen_start.specs.Starts.{left_or_owed}
use Rattle.frozen_start.specs.Rests.{IsRestOf, more_in_front}

in_all : (m : Problem) (make : Table) (i t : ℕ) → (item_at m i).lead ≡ 0 → left_or_owed m make i t ≡ pos (supply m make i t) -ℤ pos (outflow m make i t)
in_all m make i zero none = omega (arith, ints)
in_all m make i (suc t) none = omega (arith, ints, in_all m make i t none, arriving_now m make i (suc t) none (omega arith))

apart : (a b : ℕ) → pos a -ℤ pos b ≡ pos (a - b) -ℤ pos (b - a)
apart a b = omega (arith, ints)

pub signed : (m : Problem) (make : Table) (i t : ℕ) → (item_at m i).lead ≡ 0 → left_or_owed m make i t ≡ pos (least_stock m make i t) -ℤ pos (least_backlog m make i t)
signed m make i t none = in_all m make i t none ∙ apart (supply m make i t) (outflow m make i t)

pub one_zero : (m : Problem) (make : Table) (i t : ℕ) → (least_stock m make i t ≡ 0) ⊎ (least_backlog m make i t ≡ 0)
one_zero m make i t = ⊎_elim (λ less. inl (omega (arith, less))) (λ more. inr (omega (arith, more))) (cases_lt (supply m make i t) (outflow m make i t))

pub uncoupled_there : (m : Problem) (p : Plan) (first : ℕ) (rest : Problem) → IsRestOf m p first rest → IsUncoupled m → IsUncoupled rest
uncoupled_there m p first rest r u =
    let inside : (i : ℕ) → i ≤ item_count rest → i ≤ item_count m = λ i high. omega (arith, high, r.item_count) in
    record {
      uses = λ i low high. (r.items i low (inside i high)).uses ∙ u.uses i low (inside i high);
      needs = λ i low high. (r.items i low (inside i high)).needs ∙ u.needs i low (inside i high);
      plain = λ i low high.
          let is = r.items i low (inside i high) in
          let plain = u.plain i low (inside i high) in
          record { lead = is.lead ∙ plain.lead; min_lot = is.min_lot ∙ plain.min_lot; max_lot = subst (λ o. IsNone o) (sym is.max_lot) plain.max_lot };
    }

pub uncoupled_back : (m : Problem) (p : Plan) (first : ℕ) (rest : Problem) → IsRestOf m p first rest → IsUncoupled rest → IsUncoupled m
uncoupled_back m p first rest r u =
    let inside : (i : ℕ) → i ≤ item_count m → i ≤ item_count rest = λ i high. omega (arith, high, r.item_count) in
    record {
      uses = λ i low high. sym (r.items i low high).uses ∙ u.uses i low (inside i high);
      needs = λ i low high. sym (r.items i low high).needs ∙ u.needs i low (inside i high);
      plain = λ i low high.
          let is = r.items i low high in
          let plain = u.plain i low (inside i high) in
          record { lead = sym is.lead ∙ plain.lead; min_lot = sym is.min_lot ∙ plain.min_lot; max_lot = subst (λ o. IsNone o) is.max_lot plain.max_lot };
    }

nothing_more : (owed : ℕ) (xs : List ℕ) → owed ≡ 0 → 1 ≤ length xs → xs ≡ more_in_front owed (drop 0 xs)
nothing_more owed [] none some = absurd (omega (arith, some))
nothing_more owed (x ∷ xs) none some = let e : x ≡ x + owed = omega (arith, none) in ap (λ y. y ∷ xs) e

all_prices : (prices : Option (List ℕ)) → prices ≡ option_map (drop 0) prices
all_prices None = refl
all_prices (Some xs) = refl

pub whole_rest : (m : Problem) (p : Plan) → IsWithinLimits m → IsRestOf m p 0 m
whole_rest m p limits = record {
  some_later = omega (arith, limits.some_period);
  periods = omega arith;
  resource_count = refl;
  item_count = refl;
  resources = λ k low high. record { name = refl; capacity = refl };
  items = λ i low high.
      let size = (limits.each_item i low high).lists.demand.size in
      record {
        name = refl;
        demand = nothing_more (least_backlog m p.make i 0) (item_at m i).demand (omega arith) (omega (arith, size, limits.some_period));
        unit_cost = refl;
        setup_cost = refl;
        hold_cost = refl;
        backlog_cost = all_prices (item_at m i).backlog_cost;
        opening = omega arith;
        end_min = refl;
        end_max = refl;
        lead = refl;
        min_lot = refl;
        max_lot = refl;
        needs = refl;
        uses = refl;
      };
}
