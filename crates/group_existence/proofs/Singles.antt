-- The least cost of an item by itself: quantities that can be gone through.
use Rattle.std.proofs.Common.{◌≡◌, ◌≤◌, ◌<◌, ◌+◌, ◌-◌, ◌*◌, ◌⊎◌, ⊎_elim, inl, inr, ℕ, zero, suc, refl, sym, subst, ap, arith}
use Rattle.lot_sizing.specs.Sums.{sum_to}
use Rattle.lot_sizing.specs.Problem.{Problem}
use Rattle.lot_sizing.specs.Plan.{Table}
use Rattle.lot_sizing.specs.Single.{NetPlan}
use Rattle.lot_sizing.proofs.Sums.{sum_to-le, sum_to-same}
use Rattle.lin_rows.specs.declared.column.Column.{Column}
use Rattle.lin_rows.specs.declared.column.Column.TheVariants.{X, Y}
use Rattle.quantity_dp.specs.Lots.{HasNoChoice, IsChoice, IsLeastPrice, Lots, price, price_at}
use Rattle.reduced_groups.specs.Groups.{IsItemChoice, made_cost}
use Rattle.reduced_groups.specs.Numbers.{IsLeastItem}
use Rattle.existence.proofs.Deciding.{Decided, both_or_not, le_or_not, lt_or_not}
use Rattle.group_existence.proofs.Least.{at_most_one, cut, cut_high, cut_low, each_or_not, least_of, one_if_some, one_of_some, one_of_sum, quantities, reaches, some_at_most}

-- quantities of periods, with a setup wherever something is made
unfoldable pub plan_of : (ℕ → ℕ) → NetPlan
plan_of f = record { make = f; setup = λ t. one_if_some (f t) }

-- what must have been started has been
abbrev HasStarted : ℕ → (ℕ → ℕ) → (ℕ → ℕ) → Type 0
HasStarted n need f = (t : ℕ) → 1 ≤ t → t ≤ n → need t ≤ sum_to t f

-- no quantity is past the limit of its period
abbrev AreWithin : ℕ → (ℕ → ℕ) → (ℕ → ℕ) → Type 0
AreWithin n most f = (t : ℕ) → 1 ≤ t → t ≤ n → f t ≤ most t

-- the same quantities
abbrev AreSame : ℕ → (ℕ → ℕ) → (ℕ → ℕ) → Type 0
AreSame n f g = (t : ℕ) → 1 ≤ t → t ≤ n → f t ≡ g t

started_or_not : (n : ℕ) (need f : ℕ → ℕ) → Decided (HasStarted n need f)
started_or_not n need f = each_or_not n (λ t. need t ≤ sum_to t f) (λ t. le_or_not (need t) (sum_to t f))

within_or_not : (n : ℕ) (most f : ℕ → ℕ) → Decided (AreWithin n most f)
within_or_not n most f = each_or_not n (λ t. f t ≤ most t) (λ t. le_or_not (f t) (most t))

-- quantities within the limits that have started enough
abbrev IsGood : ℕ → (need most : ℕ → ℕ) → (ℕ → ℕ) → Type 0
IsGood n need most f = AreWithin n most f × HasStarted n need f

-- a cost by period tells quantities by those of its own and earlier periods alone
abbrev IsByQuantities : ℕ → ((ℕ → ℕ) → ℕ → ℕ) → Type 0
IsByQuantities n cost = (f g : ℕ → ℕ) → AreSame n f g → (t : ℕ) → 1 ≤ t → t ≤ n → cost f t ≡ cost g t

module _ (n : ℕ) (need most : ℕ → ℕ) where
  good_same : (f g : ℕ → ℕ) → AreSame n f g → IsGood n need most f → IsGood n need most g
  good_same f g same good = (
    λ t low high. omega (arith, same t low high, good.0 t low high),
    λ t low high. omega (arith, good.1 t low high, sum_to-same t f g (λ k k_low k_high. same k k_low (omega (arith, k_high, high)))),
  )

  good_or_not : (f : ℕ → ℕ) → Decided (IsGood n need most f)
  good_or_not f = both_or_not (within_or_not n most f) (started_or_not n need f)

  few : (f : ℕ → ℕ) → IsGood n need most f → (t : ℕ) → 1 ≤ t → t ≤ n → f t ≤ sum_to n most
  few f good t low high = omega (arith, good.0 t low high, one_of_sum n t most low high)

  -- some quantities are good, or none
  pub some_or_none : ((f : ℕ → ℕ) × IsGood n need most f) ⊎ ((f : ℕ → ℕ) → IsGood n need most f → ⊥)
  some_or_none =
      ⊎_elim
      (λ found. inl found)
      (λ none. inr (λ f good. none f (few f good) good))
      (quantities n (sum_to n most) (IsGood n need most) (λ f. IsGood n need most f → ⊥) good_or_not
      (λ f g same bad good. bad (good_same g f (λ t low high. sym (same t low high)) good)))

  -- good quantities
  abbrev Good : Type 0
  Good = (f : ℕ → ℕ) × IsGood n need most f

  module _ (cost : (ℕ → ℕ) → ℕ → ℕ) (by : IsByQuantities n cost) where
    below : (c : ℕ) → ((a : Good) × (sum_to n (cost a.0) < c)) ⊎ ((a : Good) → sum_to n (cost a.0) < c → ⊥)
    below c =
        ⊎_elim
        (λ found. inl ((found.0, found.1.0), found.1.1))
        (λ none. inr (λ a less. none a.0 (few a.0 a.1) (a.1, less)))
        (quantities n (sum_to n most) (λ f. IsGood n need most f × (sum_to n (cost f) < c)) (λ f. IsGood n need most f × (sum_to n (cost f) < c) → ⊥)
        (λ f. both_or_not (good_or_not f) (lt_or_not (sum_to n (cost f)) c))
        (λ f g same bad good. bad (good_same g f (λ t low high. sym (same t low high)) good.0, omega (arith, good.1, sum_to-same n (cost f) (cost g) (by f g same)))))

    -- of least cost, where there are any
    pub least_good : Good → (a : Good) × ((b : Good) → sum_to n (cost a.0) ≤ sum_to n (cost b.0))
    least_good a = least_of Good (λ b. sum_to n (cost b.0)) below (sum_to n (cost a.0)) a (omega arith)

-- ---- an item by what must have been started
module _ (m : Problem) (start : Table) (cost : Column → ℕ) (i : ℕ) where
  abbrev bound : ℕ
  bound = sum_to m.periods (start i)

  -- what a setup and so many units cost
  abbrev item_cost : (ℕ → ℕ) → ℕ → ℕ
  item_cost f t = cost (Y i t) * one_if_some (f t) + cost (X i t) * f t

  item_by : IsByQuantities m.periods item_cost
  item_by f g same t low high = ap (λ x. cost (Y i t) * one_if_some x + cost (X i t) * x) (same t low high)

  abbrev Quantities : Type 0
  Quantities = Good m.periods (start i) (λ t. bound)

  item_choice : (f : ℕ → ℕ) → HasStarted m.periods (start i) f → IsItemChoice m start i (plan_of f)
  unfolding plan_of
  item_choice f started = record {
    setup = λ t low high. at_most_one (f t);
    made = λ t low high some. one_of_some (f t) some;
    started = started;
  }

  plan_cost : (f : ℕ → ℕ) → made_cost m cost i (plan_of f) ≡ sum_to m.periods (item_cost f)
  unfolding plan_of
  plan_cost f = refl

  -- what is made of a choice, cut off
  cut_off : (q : NetPlan) → IsItemChoice m start i q → Quantities
  cut_off q is = (
    λ t. cut bound (q.make t),
    (
      λ t low high. cut_high bound (q.make t),
      λ t low high. reaches bound t (start i t) q.make (is.started t low high) (one_of_sum m.periods t (start i) low high),
    ),
  )

  cheaper : (q : NetPlan) (is : IsItemChoice m start i q) → sum_to m.periods (item_cost (cut_off q is).0) ≤ made_cost m cost i q
  unfolding cut_off
  cheaper q is =
      sum_to-le m.periods (item_cost (cut_off q is).0) (λ t. cost (Y i t) * q.setup t + cost (X i t) * q.make t)
      (λ t low high. cost_low t (some_at_most (cut bound (q.make t)) (q.setup t) (λ some. set t low high some)) (cut_low bound (q.make t)))
    where
      set : (t : ℕ) → 1 ≤ t → t ≤ m.periods → 0 < cut bound (q.make t) → 1 ≤ q.setup t
      set t low high some = omega (arith, is.made t low high (omega (arith, some, cut_low bound (q.make t))))

      cost_low : (t : ℕ) → one_if_some (cut bound (q.make t)) ≤ q.setup t → cut bound (q.make t) ≤ q.make t → item_cost (λ u. cut bound (q.make u)) t ≤ cost (Y i t) * q.setup t + cost (X i t) * q.make t
      cost_low t one other = products (cost (Y i t)) (cost (X i t)) _ _ _ _ one other
        where
          products : (f g a b c d : ℕ) → a ≤ b → c ≤ d → f * a + g * c ≤ f * b + g * d
          products f g a b c d one other = grind (arith, one, other)

  all_at_once : Quantities
  all_at_once = (
    λ t. bound,
    (λ t low high. omega arith, λ t low high. omega (arith, one_of_sum m.periods t (start i) low high, one_of_sum t t (λ u. bound) low (omega arith))),
  )

  pub item_number : (amount : ℕ) × IsLeastItem m start cost i amount
  item_number =
      let least = least_good m.periods (start i) (λ t. bound) item_cost item_by all_at_once in (
        sum_to m.periods (item_cost least.0.0),
        record {
          some = (plan_of least.0.0, item_choice least.0.0 least.0.1.1, plan_cost least.0.0);
          least = λ q is. omega (arith, least.1 (cut_off q is), cheaper q is);
        },
      )

-- ---- lots in whole quantities
module _ (a : Lots) where
  -- a setup, so many units, and those that fall short of what is asked
  abbrev lot_cost : (ℕ → ℕ) → ℕ → ℕ
  lot_cost f t = a.setup t * one_if_some (f t) + a.unit t * f t + a.share t * (a.asked t - sum_to t f)

  lot_by : IsByQuantities a.periods lot_cost
  lot_by f g same t low high =
      terms (a.setup t) (a.unit t) (a.share t) (a.asked t) _ _ _ _ (same t low high) (sum_to-same t f g (λ k k_low k_high. same k k_low (omega (arith, k_high, high))))
    where
      terms : (e u s n x y v w : ℕ) → x ≡ y → v ≡ w → e * one_if_some x + u * x + s * (n - v) ≡ e * one_if_some y + u * y + s * (n - w)
      terms e u s n x y v w one other = cc (one, other)

  abbrev Kept : Type 0
  Kept = Good a.periods a.need a.largest

  lot_low : (x l : ℕ) → x ≤ l → x ≤ l * one_if_some x
  lot_low zero l le = omega arith
  lot_low (suc x) l le = omega (arith, le)

  lot_choice : (f : ℕ → ℕ) → AreWithin a.periods a.largest f → HasStarted a.periods a.need f → IsChoice a (plan_of f)
  unfolding plan_of
  lot_choice f within started = record {
    setup = λ t low high. at_most_one (f t);
    lots = λ t low high. lot_low (f t) (a.largest t) (within t low high);
    started = started;
  }

  lot_price : (f : ℕ → ℕ) → price a (plan_of f) ≡ sum_to a.periods (lot_cost f)
  unfolding plan_of
  lot_price f = refl

  lot_high : (x l s : ℕ) → s ≤ 1 → x ≤ l * s → x ≤ l
  lot_high x l zero small le = omega (arith, le)
  lot_high x l (suc s) small le = let e : s ≡ 0 = omega (arith, small) in lot_one e
    where
      lot_one : s ≡ 0 → x ≤ l
      lot_one e = let le_one : x ≤ l * 1 = subst (λ k. x ≤ l * suc k) e le in omega (arith, le_one)

  lot_set : (x l s : ℕ) → x ≤ l * s → 0 < x → 1 ≤ s
  lot_set x l zero le some = omega (arith, le, some)
  lot_set x l (suc s) le some = omega arith

  kept : (q : NetPlan) → IsChoice a q → Kept
  kept q is = (q.make, (λ t low high. lot_high (q.make t) (a.largest t) (q.setup t) (is.setup t low high) (is.lots t low high), is.started))

  lots_cheaper : (q : NetPlan) (is : IsChoice a q) → sum_to a.periods (lot_cost q.make) ≤ price a q
  lots_cheaper q is =
      sum_to-le a.periods (lot_cost q.make) (price_at a q)
      (λ t low high. products (a.setup t) (a.unit t * q.make t) (a.share t * (a.asked t - sum_to t q.make)) _ _ (some_at_most (q.make t) (q.setup t) (lot_set (q.make t) (a.largest t) (q.setup t) (is.lots t low high))))
    where
      products : (f g h x y : ℕ) → x ≤ y → f * x + g + h ≤ f * y + g + h
      products f g h x y le = grind (arith, le)

  pub lots_number : ((amount : ℕ) × IsLeastPrice a amount) ⊎ HasNoChoice a
  unfolding kept
  lots_number =
      ⊎_elim
      (λ found. inl (number (least_good a.periods a.need a.largest lot_cost lot_by found)))
      (λ none. inr (λ q is. none (kept q is).0 (kept q is).1))
      (some_or_none a.periods a.need a.largest)
    where
      number : (f : Kept) × ((g : Kept) → sum_to a.periods (lot_cost f.0) ≤ sum_to a.periods (lot_cost g.0)) → (amount : ℕ) × IsLeastPrice a amount
      number least = (
        sum_to a.periods (lot_cost least.0.0),
        record {
          some = (plan_of least.0.0, lot_choice least.0.0 least.0.1.0 least.0.1.1, lot_price least.0.0);
          least = λ q is. omega (arith, least.1 (kept q is), lots_cheaper q is);
        },
      )
