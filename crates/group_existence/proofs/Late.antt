-- The least cost of an item that may fall short: quantities that can be gone through.
use Rattle.std.proofs.Common.{◌≡◌, ◌≤◌, ◌<◌, ◌+◌, ◌-◌, ◌*◌, ◌⊎◌, ⊎_elim, inl, inr, ℕ, refl, sym, arith}
use Rattle.lot_sizing.specs.Sums.{sum_to}
use Rattle.lot_sizing.specs.Single.{NetPlan}
use Rattle.lot_sizing.proofs.Sums.{sum_to-le, sum_to-same}
use Rattle.late_starts.specs.Choices.{IsLateChoice, LateLots, late_price}
use Rattle.reduced_groups.specs.Numbers.{IsLeastLate}
use Rattle.existence.proofs.Deciding.{Decided, both_or_not, if_or_not, le_or_not, lt_or_not}
use Rattle.group_existence.proofs.Least.{at_most_one, cut, cut_high, cut_low, each_or_not, least_of, one_if_some, one_of_some, one_of_sum, quantities, reaches, some_at_most}
use Rattle.group_existence.proofs.Singles.{plan_of}

module _ (a : LateLots) where
  -- all that is on time, added over the periods: no quantity need be more
  abbrev bound : ℕ
  bound = sum_to a.periods a.need

  -- the least that falls short at these quantities
  abbrev short_of : (ℕ → ℕ) → ℕ → ℕ
  short_of f t = a.need t - sum_to t f

  -- nothing falls short once it may not
  abbrev IsSettled : (ℕ → ℕ) → Type 0
  IsSettled f = (t : ℕ) → 1 ≤ t → t ≤ a.periods → a.settled ≤ t → a.need t ≤ sum_to t f

  abbrev cost_in : (ℕ → ℕ) → ℕ → ℕ
  cost_in f t = a.setup t * one_if_some (f t) + a.unit t * f t + a.share t * short_of f t

  abbrev total : (ℕ → ℕ) → ℕ
  total f = sum_to a.periods (cost_in f)

  -- ---- the same quantities do the same
  abbrev AreSame : (ℕ → ℕ) → (ℕ → ℕ) → Type 0
  AreSame f g = (t : ℕ) → 1 ≤ t → t ≤ a.periods → f t ≡ g t

  sums_same : (f g : ℕ → ℕ) → AreSame f g → (t : ℕ) → t ≤ a.periods → sum_to t f ≡ sum_to t g
  sums_same f g same t high = sum_to-same t f g (λ k k_low k_high. same k k_low (omega (arith, k_high, high)))

  settled_same : (f g : ℕ → ℕ) → AreSame f g → IsSettled f → IsSettled g
  settled_same f g same is = λ t low high late. omega (arith, is t low high late, sums_same f g same t high)

  total_same : (f g : ℕ → ℕ) → AreSame f g → total f ≡ total g
  total_same f g same =
      sum_to-same a.periods (cost_in f) (cost_in g) (λ t low high. terms (a.setup t) (a.unit t) (a.share t) (a.need t) _ _ _ _ (same t low high) (sums_same f g same t high))
    where
      terms : (e u s n x y v w : ℕ) → x ≡ y → v ≡ w → e * one_if_some x + u * x + s * (n - v) ≡ e * one_if_some y + u * y + s * (n - w)
      terms e u s n x y v w one other = cc (one, other)

  -- ---- choices
  settled_or_not : (f : ℕ → ℕ) → Decided (IsSettled f)
  settled_or_not f = each_or_not a.periods (λ t. a.settled ≤ t → a.need t ≤ sum_to t f) (λ t. if_or_not (le_or_not a.settled t) (le_or_not (a.need t) (sum_to t f)))

  abbrev LateChoice : Type 0
  LateChoice = (q : NetPlan) × (short : ℕ → ℕ) × IsLateChoice a q short

  price_of : LateChoice → ℕ
  price_of b = late_price a b.0 b.1

  choice_with : (f : ℕ → ℕ) → IsSettled f → LateChoice
  unfolding plan_of
  choice_with f is = (
    plan_of f,
    short_of f,
    record {
      setup = λ t low high. at_most_one (f t);
      made = λ t low high some. one_of_some (f t) some;
      started = λ t low high. omega arith;
      settled = λ t low high late. omega (arith, is t low high late);
    },
  )

  -- ---- what is made of a choice, cut off
  abbrev cut_make : NetPlan → ℕ → ℕ
  cut_make q t = cut bound (q.make t)

  -- it starts as much, but for what falls short
  cut_started : (q : NetPlan) (short : ℕ → ℕ) → IsLateChoice a q short → (t : ℕ) → 1 ≤ t → t ≤ a.periods → a.need t ≤ sum_to t (cut_make q) + short t
  cut_started q short is t low high =
      omega (
        arith,
        reaches bound t (a.need t - short t) q.make (omega (arith, is.started t low high)) (omega (arith, one_of_sum a.periods t a.need low high)),
      )

  cut_settled : (q : NetPlan) (short : ℕ → ℕ) → IsLateChoice a q short → IsSettled (cut_make q)
  cut_settled q short is = λ t low high late. omega (arith, cut_started q short is t low high, is.settled t low high late)

  cheaper : (q : NetPlan) (short : ℕ → ℕ) → IsLateChoice a q short → total (cut_make q) ≤ late_price a q short
  cheaper q short is =
      sum_to-le a.periods (cost_in (cut_make q)) (λ t. a.setup t * q.setup t + a.unit t * q.make t + a.share t * short t)
      (λ t low high. terms (a.setup t) (a.unit t) (a.share t) _ _ _ _ _ _
      (some_at_most (cut_make q t) (q.setup t) (λ some. omega (arith, is.made t low high (omega (arith, some, cut_low bound (q.make t))))))
      (cut_low bound (q.make t))
      (omega (arith, cut_started q short is t low high)))
    where
      more : (k x y : ℕ) → x ≤ y → k * x ≤ k * y
      more k x y le = grind (arith, le)

      terms : (e u s x y v w b c : ℕ) → x ≤ y → v ≤ w → b ≤ c → e * x + u * v + s * b ≤ e * y + u * w + s * c
      terms e u s x y v w b c one other last = omega (arith, more e x y one, more u v w other, more s b c last)

  -- ---- the least price
  below : (c : ℕ) → ((b : LateChoice) × (price_of b < c)) ⊎ ((b : LateChoice) → price_of b < c → ⊥)
  unfolding price_of choice_with plan_of
  below c =
      ⊎_elim
      (λ found. inl (choice_with found.0 found.1.0, found.1.1))
      (λ none. inr (no_choice none))
      (quantities a.periods bound (λ f. IsSettled f × (total f < c)) (λ f. IsSettled f × (total f < c) → ⊥)
      (λ f. both_or_not (settled_or_not f) (lt_or_not (total f) c))
      (λ f g same bad good. bad (settled_same g f (λ t low high. sym (same t low high)) good.0, omega (arith, good.1, total_same f g same))))
    where
      no_choice : ((f : ℕ → ℕ) → ((t : ℕ) → 1 ≤ t → t ≤ a.periods → f t ≤ bound) → IsSettled f × (total f < c) → ⊥) → (b : LateChoice) → price_of b < c → ⊥
      no_choice none (q, short, is) less = none (cut_make q) (λ t low high. cut_high bound (q.make t)) (cut_settled q short is, omega (arith, cheaper q short is, less))

  all_at_once : LateChoice
  all_at_once = choice_with (λ t. bound) (λ t low high late. omega (arith, one_of_sum a.periods t a.need low high, one_of_sum t t (λ u. bound) low (omega arith)))

  pub late_number : (amount : ℕ) × IsLeastLate a amount
  unfolding price_of
  late_number =
      let least = least_of LateChoice price_of below (price_of all_at_once) all_at_once (omega arith) in (
        price_of least.0,
        record {
          some = (least.0.0, least.0.1, least.0.2, refl);
          least = λ q short is. least.1 (q, short, is);
        },
      )
