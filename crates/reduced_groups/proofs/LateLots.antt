-- The number of an item that may fall short of what is on time of it.
use Rattle.std.proofs.Common.{◌≡◌, ◌≤◌, ◌<◌, ◌+◌, ◌-◌, ◌*◌, ◌∙◌, ⊎_elim, ℕ, refl, sym, ap, arith, List, [], ◌∷◌, ◌++◌, length}
use Rattle.std.specs.Prelude.{◌^◌}
use Rattle.std.proofs.lemmas.Bool.{cases_lt}
use Rattle.std.proofs.lemmas.List.{length_push, get_or_append_left, get_or_push}
use Rattle.std.proofs.lemmas.Nat.{mul-le}
use Rattle.lot_sizing.specs.Sums.{sum_to}
use Rattle.lot_sizing.specs.Problem.{Problem, item_at}
use Rattle.lot_sizing.specs.Plan.{Table}
use Rattle.lot_sizing.specs.Single.{NetPlan}
use Rattle.lot_sizing.specs.Totals.{IsRanking}
use Rattle.lot_sizing.specs.declared.limits.TheConstants.{MAX_PERIODS, MAX_TOTAL}
use Rattle.lot_sizing.proofs.Sums.{sum_to-bound, sum_to-same, sum_to_at}
use Rattle.lin_rows.specs.declared.column.Column.{Column}
use Rattle.must_start.specs.Rows.{start_in}
use Rattle.late_starts.specs.declared.lots.LateLot.{LateLot}
use Rattle.late_starts.specs.OnTime.{OnTimeIsOne, OnTimeRises}
use Rattle.late_starts.specs.Choices.{AreSameLots, IsLateChoice, IsLeastUpTo, LateLots, late_price}
use Rattle.late_starts.specs.Pricing.{IsRising, late_lots_of, lot_at, no_lot}
use Rattle.late_starts.specs.Rows.{IsOnTimeOf}
use Rattle.late_starts.proofs.Choosing.{floors_agree}
use Rattle.quantity_dp.specs.declared.limits.TheConstants.{MAX_PRICE}
use Rattle.reduced_groups.specs.Groups.{LateGroup, late_lots_in}
use Rattle.reduced_groups.specs.Numbers.{IsLeastLate, IsNumberOf}
use Rattle.reduced_groups.specs.Apart.{IsItem}
use Rattle.reduced_groups.specs.Floors.{AreLateLotsFor, HasSmallPricesOf, WhateverIsKnown, late_lot}

-- lots that are the same, period by period, have the same choices at the same prices
module _ (a b : LateLots) (same : AreSameLots a b) where
  choice_same : (q : NetPlan) (short : ℕ → ℕ) → IsLateChoice a q short → IsLateChoice b q short
  choice_same q short is = record {
    setup = λ t low high. is.setup t low (omega (arith, high, same.periods));
    made = λ t low high some. is.made t low (omega (arith, high, same.periods)) some;
    started = λ t low high. let h : t ≤ a.periods = omega (arith, high, same.periods) in omega (arith, is.started t low h, same.need t low h);
    settled = λ t low high late. is.settled t low (omega (arith, high, same.periods)) (omega (arith, late, same.settled));
  }

  price_same : (q : NetPlan) (short : ℕ → ℕ) → late_price a q short ≡ late_price b q short
  price_same q short =
      sum_to-same a.periods (λ t. a.setup t * q.setup t + a.unit t * q.make t + a.share t * short t) (λ t. b.setup t * q.setup t + b.unit t * q.make t + b.share t * short t) (λ t low high.
      omega (arith, ap (λ k. k * q.setup t) (same.setup t low high), ap (λ k. k * q.make t) (same.unit t low high), ap (λ k. k * short t) (same.share t low high)))
      ∙ ap (λ n. sum_to n (λ t. b.setup t * q.setup t + b.unit t * q.make t + b.share t * short t)) same.periods

  pub least_late_same : (c : ℕ) → IsLeastLate a c → IsLeastLate b c
  least_late_same c is = record {
    some = let (q, short, choice, costs) = is.some in (q, short, choice_same q short choice, sym (price_same q short) ∙ costs);
    least = floors_agree a b c same is.least;
  }

-- a setup in each period and as many units as are on time by its end: nothing falls short
abbrev all_made : LateLots → NetPlan
all_made a = record { make = a.need; setup = λ t. 1 }

abbrev none_short : ℕ → ℕ
none_short t = 0

all_chosen : (a : LateLots) → IsLateChoice a (all_made a) none_short
all_chosen a = record {
  setup = λ t low high. omega arith;
  made = λ t low high some. refl;
  started = λ t low high. omega (arith, sum_to_at t a.need low);
  settled = λ t low high late. refl;
}

-- prices and quantities within the limits
pub record IsSmallLot (a : LateLots) (t : ℕ) : Type 0 where
  pub setup : a.setup t ≤ MAX_PRICE
  pub unit : a.unit t ≤ MAX_PRICE
  pub need : a.need t ≤ MAX_TOTAL

-- at these the greatest number of 128 bits is too dear
never_dear : (periods c : ℕ) → periods ≤ MAX_PERIODS → c ≤ periods * (MAX_PRICE + MAX_PRICE * MAX_TOTAL) → c < 2 ^ 128 - 1
never_dear periods c few within = omega (arith, within, mul-le periods (MAX_PRICE + MAX_PRICE * MAX_TOTAL) MAX_PERIODS (MAX_PRICE + MAX_PRICE * MAX_TOTAL) few (omega arith))

least_exact : (a : LateLots) (c : ℕ) → a.periods ≤ MAX_PERIODS → ((t : ℕ) → 1 ≤ t → t ≤ a.periods → IsSmallLot a t) → IsLeastUpTo a (2 ^ 128 - 1) c → IsLeastLate a c
least_exact a c few small is = record {
  some = is.some (never_dear a.periods c few (omega (
    arith,
    is.floor (all_made a) none_short (all_chosen a),
    sum_to-bound a.periods (MAX_PRICE + MAX_PRICE * MAX_TOTAL) (λ t. a.setup t * 1 + a.unit t * a.need t + a.share t * 0) (λ t low high.
        let lot = small t low high in
        omega (arith, lot.setup, mul-le (a.unit t) (a.need t) MAX_PRICE MAX_TOTAL lot.unit lot.need)),
  )));
  least = is.floor;
}

-- a lot is the same where its parts are
abbrev lot : (setup unit share need : ℕ) → LateLot
lot setup unit share need = record { setup = setup; unit = unit; share = share; need = need }

pub lot_same : (x y : LateLot) → x.setup ≡ y.setup → x.unit ≡ y.unit → x.share ≡ y.share → x.need ≡ y.need → x ≡ y
lot_same x y setup unit share need =
    ap (λ k. lot k x.unit x.share x.need) setup
    ∙ ap (λ k. lot y.setup k x.share x.need) unit
    ∙ ap (λ k. lot y.setup y.unit k x.need) share
    ∙ ap (λ k. lot y.setup y.unit y.share k) need

-- the late lots of the next period
pub late_lots_next : (start : Table) (price : Column → ℕ) (i : ℕ) (shares : List ℕ) (n k : ℕ) (x : LateLot) (xs : List LateLot) → k ≡ n + 1 → AreLateLotsFor start price i shares n xs → x ≡ late_lot start price i shares k → AreLateLotsFor start price i shares k (xs ++ x ∷ [])
late_lots_next start price i shares n k x xs next has is = record {
  size = omega (arith, length_push xs x, has.size, next);
  each = λ t low high. ⊎_elim
      (λ before. get_or_append_left xs (x ∷ []) no_lot (t - 1) (omega (arith, before, low, has.size, next)) ∙ has.each t low (omega (arith, before, next)))
      (λ last. let e : t ≡ k = omega (arith, last, high) in get_or_push xs x no_lot (t - 1) (omega (arith, e, low, has.size, next)) ∙ is ∙ ap (late_lot start price i shares) (sym e))
      (cases_lt t k);
}

pub late_lots_none : (start : Table) (price : Column → ℕ) (i : ℕ) (shares : List ℕ) (xs : List LateLot) → xs ≡ [] → AreLateLotsFor start price i shares 0 xs
late_lots_none start price i shares xs none = record { size = ap length none; each = λ t low high. absurd (omega (arith, low, high)) }

module _ (m : Problem) (rank : ℕ → ℕ) (ranks : IsRanking m rank) (rows : List (List ℕ)) (is : IsOnTimeOf m rows) (price : Column → ℕ) (i : ℕ) (shares : List ℕ) (item : IsItem m i) (lots : List LateLot) (are : AreLateLotsFor (start_in rows) price i shares m.periods lots) where
  need_is : (t : ℕ) → 1 ≤ t → t ≤ m.periods → (lot_at lots t).need ≡ start_in rows i t
  need_is t low high = ap (λ x. x.need) (are.each t low high)

  pub late_rises : OnTimeRises → IsRising (late_lots_of lots 0)
  late_rises rises = λ t low high.
      let h : t ≤ m.periods = omega (arith, high, are.size) in
      omega (
        arith,
        need_is t (omega (arith, low)) h,
        need_is (t - 1) (omega (arith, low)) (omega (arith, h)),
        rises m rank (start_in rows) ranks is.starts i t item.0 item.1 (omega (arith, low)) h,
      )

  -- whatever is known of the problem, what is on time is one number
  pub late_known : (until c : ℕ) → m.periods ≤ MAX_PERIODS → OnTimeIsOne → HasSmallPricesOf m price i → until ≡ m.periods - (item_at m i).lead → IsLeastUpTo (late_lots_of lots until) (2 ^ 128 - 1) c → WhateverIsKnown m (λ known. IsNumberOf m known price (LateGroup i shares) c)
  late_known until c few one small settled least = λ total known totals known_are.
      least_late_same (late_lots_of lots until) (late_lots_in m known price i shares)
      (record {
        periods = are.size;
        settled = settled;
        setup = λ t low high. ap (λ x. x.setup) (are.each t low (omega (arith, high, are.size)));
        unit = λ t low high. ap (λ x. x.unit) (are.each t low (omega (arith, high, are.size)));
        share = λ t low high. ap (λ x. x.share) (are.each t low (omega (arith, high, are.size)));
        need = λ t low high.
            let h : t ≤ m.periods = omega (arith, high, are.size) in
            need_is t low h ∙ one m rank (start_in rows) known.on_time ranks is.starts known_are.on_time i t item.0 item.1 low h;
      })
      c
      (least_exact (late_lots_of lots until) c (omega (arith, few, are.size)) (λ t low high.
      let h : t ≤ m.periods = omega (arith, high, are.size) in
      record {
        setup = omega (arith, ap (λ x. x.setup) (are.each t low h), (small t low h).0);
        unit = omega (arith, ap (λ x. x.unit) (are.each t low h), (small t low h).1);
        need = omega (arith, need_is t low h, is.small i t item.0 item.1 low h);
      })
      least)
