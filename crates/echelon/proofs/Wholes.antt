-- What is asked of an echelon, added up.
use Rattle.std.proofs.Common.{◌≡◌, ◌≤◌, ◌+◌, ◌-◌, ◌*◌, ◌^◌, ◌∙◌, ⊎_elim, ℕ, refl, sym, ap, subst, arith, List, [], ◌∷◌, ◌++◌, length, slice_index_or, IsTrue, false}
use Rattle.std.specs.Prelude.{◌↔◌, Bool, if◌then◌else◌, ◌==◌}
use Rattle.std.proofs.lemmas.Bool.{cases_lt}
use Rattle.std.proofs.lemmas.List.{length_push, get_or_default, get_or_push, get_or_append_left}
use Rattle.std.proofs.lemmas.Nat.{mul-le}
use Rattle.lot_sizing.specs.Sums.{sum_to}
use Rattle.lot_sizing.specs.Problem.{IsWithinLimits, Problem, demand, entry, item_count, item_at}
use Rattle.lot_sizing.specs.Echelon.{asked_in_echelon, in_echelon}
use Rattle.lot_sizing.proofs.Bounds.{demand_small}
use Rattle.lot_sizing.proofs.Sums.{sum_to_more, sum_to-bound, sum_to-same}
use Rattle.echelon.specs.Views.{IsEchelonWithinBounds}
use Rattle.echelon.specs.Weights.{AreBacks, AsksAs, HasBack, IsEchelonOf}
use Rattle.echelon.specs.declared.net.EchelonItem.{EchelonItem}

-- what has been added up, and that it is small
pub record IsSumTo (f : ℕ → ℕ) (n sum : ℕ) : Type 0 where
  pub whole : sum ≡ sum_to n f
  pub small : sum ≤ n * 10 ^ 21

pub sum_more : (weight value : ℕ → ℕ) (j units x sum : ℕ) → 1 ≤ j → units ≡ weight j → units ≤ 10 ^ 12 → x ≡ value j → x ≤ 10 ^ 9 → IsSumTo (λ k. weight k * value k) (j - 1) sum → IsSumTo (λ k. weight k * value k) (j + 1 - 1) (sum + units * x)
sum_more weight value j units x sum low is_units units_small is_x x_small so_far =
    let product = mul-le units x (10 ^ 12) (10 ^ 9) units_small x_small in
    record {
      whole = omega (arith, so_far.whole, sum_to_more j (λ k. weight k * value k) low, ap (λ y. y * x) is_units, ap (λ y. weight j * y) is_x);
      small = omega (arith, so_far.small, product, low);
    }

pub backs_more : (m : Problem) (i : ℕ) (x : Bool) (list : List Bool) → 1 ≤ i → IsTrue x ↔ HasBack m i → AreBacks m (i - 1) list → AreBacks m (i + 1 - 1) (list ++ x ∷ [])
backs_more m i x list low is b = record {
  size = omega (arith, length_push list x, b.size, low);
  each = λ j j_low j_high. ⊎_elim
      (λ before. subst (λ y. IsTrue y ↔ HasBack m j) (sym (get_or_append_left list (x ∷ []) false (j - 1) (omega (arith, before, j_low, b.size)))) (b.each j j_low (omega (arith, before))))
      (λ no.
      let e : i ≡ j = omega (arith, no, j_high, low) in
      subst (λ y. IsTrue y ↔ HasBack m j) (sym (get_or_push list x false (j - 1) (omega (arith, no, j_high, b.size, low)))) (subst (λ k. IsTrue x ↔ HasBack m k) e is))
      (cases_lt j i);
}

-- all that is weighed in an echelon is small
in_echelon_small : (m : Problem) (weight : ℕ → ℕ → ℕ) (i : ℕ) (f : ℕ → ℕ) → IsWithinLimits m → ((k : ℕ) → 1 ≤ k → k ≤ item_count m → weight i k ≤ 10 ^ 12) → ((k : ℕ) → 1 ≤ k → k ≤ item_count m → f k ≤ 10 ^ 9) → in_echelon m weight i f ≤ item_count m * 10 ^ 21
in_echelon_small m weight i f within small f_small = sum_to-bound (item_count m) (10 ^ 21) (λ k. weight i k * f k) (λ k low high. mul-le (weight i k) (f k) (10 ^ 12) (10 ^ 9) (small k low high) (f_small k low high))

pub asks_as : (m : Problem) (weight : ℕ → ℕ → ℕ) (i : ℕ) (e : EchelonItem) → IsEchelonOf m weight i e → AsksAs m weight i e
asks_as m weight i e is t high =
    let a = asked_in_echelon m weight i in
    let demands : sum_to t (entry e.demand.items) ≡ sum_to t a.demand = sum_to-same t (entry e.demand.items) a.demand (λ k k_low k_high. is.demand.each k k_low (omega (arith, k_high, high))) in
    let ends : (if t == length e.demand.items then e.end_min else 0) ≡ (if t == m.periods then a.end_min else 0) = rw (is.demand.size, is.end_min) refl in
    omega (arith, demands, ends)

-- what is asked of the echelon is far below the limit
pub echelon_within : (m : Problem) (weight : ℕ → ℕ → ℕ) (i : ℕ) (e : EchelonItem) → IsWithinLimits m → 1 ≤ i → i ≤ item_count m → ((k : ℕ) → 1 ≤ k → k ≤ item_count m → weight i k ≤ 10 ^ 12) → IsEchelonOf m weight i e → IsEchelonWithinBounds e
echelon_within m weight i e within low high small is =
    let a = asked_in_echelon m weight i in
    let each : (t : ℕ) → 1 ≤ t → t ≤ m.periods → entry e.demand.items t ≤ 40 * 10 ^ 21 = λ t low high.
    let one = in_echelon_small m weight i (λ k. demand m k t) within small (λ k k_low k_high. demand_small m within k t k_low k_high low high) in
    omega (arith, is.demand.each t low high, one, within.items) in
    let demands = sum_to-bound m.periods (40 * 10 ^ 21) (entry e.demand.items) each in
    let opening = in_echelon_small m weight i (λ k. (item_at m k).opening) within small (λ k low high. (within.each_item k low high).opening) in
    let end_min = in_echelon_small m weight i (λ k. (item_at m k).end_min) within small (λ k low high. (within.each_item k low high).end_min) in
    record {
      item = (omega (arith, is.item, low), omega (arith, is.item, high, is.weights.size));
      items = omega (arith, is.weights.size, within.items);
      periods = omega (arith, is.demand.size, within.periods);
      backs = is.backs.size ∙ sym is.weights.size;
      weights = λ k d less.
          let e1 : k + 1 - 1 ≡ k = omega arith in
          let read : entry e.weights.items (k + 1) ≡ weight i (k + 1) = is.weights.each (k + 1) (omega arith) (omega (arith, less, is.weights.size)) in
          let plain : slice_index_or e.weights.items k d ≡ entry e.weights.items (k + 1) = get_or_default e.weights.items k d 0 less ∙ ap (λ n. slice_index_or e.weights.items n 0) (sym e1) in
          omega (arith, plain, read, small (k + 1) (omega arith) (omega (arith, less, is.weights.size)));
      asked = omega (arith, ap (λ n. sum_to n (entry e.demand.items)) is.demand.size, demands, is.opening, opening, is.end_min, end_min, within.periods, within.items);
      agree = (
        λ owed.
            let (j, j_low, j_high, counts, back) = is.backlogged.0 owed in
            (j, j_low, omega (arith, j_high, is.weights.size), omega (arith, counts, is.weights.each j j_low j_high), (is.backs.each j j_low j_high).1 back),
        λ some.
            let (j, j_low, j_less, counts, back) = some in
            let j_high : j ≤ item_count m = omega (arith, j_less, is.weights.size) in
            is.backlogged.1 (j, j_low, j_high, omega (arith, counts, is.weights.each j j_low j_high), (is.backs.each j j_low j_high).0 back),
      );
    }
