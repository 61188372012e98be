-- Up to a greatest number the recursion says what some choice costs.
use Rattle.std.proofs.Common.{◌≡◌, ◌≤◌, ◌<◌, ◌+◌, ◌-◌, ◌*◌, ◌∙◌, ⊎_elim, inr, ℕ, zero, suc, refl, sym, ap, arith, Bool, true, false}
use Rattle.std.specs.Prelude.{max, min, if◌then◌else◌, ◌==◌, ◌&&◌, nat_lt}
use Rattle.std.proofs.lemmas.Bool.{cases_eq, cases_lt}
use Rattle.lot_sizing.specs.Sums.{sum_to, sum_from}
use Rattle.lot_sizing.specs.Single.{NetPlan}
use Rattle.lot_sizing.proofs.Sums.{sum_to-add, sum_to-le, sum_to-same, sum_to-zero}
use Rattle.must_start.proofs.LargestLots.{term_le}
use Rattle.late_starts.specs.Choices.{IsLateChoice, IsLeastUpTo, LateLots, late_price}
use Rattle.late_starts.specs.Pricing.{HasPartial, HasPartialWith, IsPartial, IsRising, IsRowOfPrices, MayServe, need_by, price_from, units_in}
use Rattle.late_starts.proofs.Covering.{elsewhere, here, one_here}
use Rattle.late_starts.proofs.Servers.{IsStep, floor_end, floor_next, need_up_to, price_parts, units_next}

-- nothing serves nothing
min_zero : (w : ℕ) → min w 0 ≡ 0
min_zero w = grind arith

min_high : (w t : ℕ) → min w t ≤ t
min_high w t = grind arith

min_here : (w t : ℕ) → w ≤ t → min w t ≡ w
min_here w t h = grind (arith, h)

min_there : (w t : ℕ) → t ≤ w → min w t ≡ t
min_there w t h = grind (arith, h)

abbrev nothing : NetPlan
nothing = record { make = λ w. 0; setup = λ w. 0 }

none_paid : (a : LateLots) → late_price a nothing (λ w. 0) ≡ 0
none_paid a = sum_to-same a.periods (λ t. a.setup t * 0 + a.unit t * 0 + a.share t * 0) (λ t. 0) (λ t low high. omega arith) ∙ sum_to-zero a.periods

none_partial : (a : LateLots) (t price : ℕ) → IsRising a → t ≤ a.periods → need_by a.need t ≡ 0 → HasPartial a t price
none_partial a t price rises high none = (
  nothing,
  (λ w. 0),
  record {
    setup = λ w. omega arith;
    made = λ w some. absurd (omega (arith, some));
    started = λ w low w_high. omega (arith, none, need_up_to a rises (min w t) t (min_high w t) high);
    settled = λ w late. refl;
    within = omega (arith, none_paid a);
  },
)

-- a setup more
abbrev set_up : ℕ → (ℕ → ℕ) → ℕ → ℕ
set_up u y w = if u == w then 1 else y w

set_le : (b : Bool) (y : ℕ) → y ≤ 1 → (if b then 1 else y) ≤ 1
set_le true y h = omega arith
set_le false y h = h

set_kept : (b : Bool) (y : ℕ) → y ≡ 1 → (if b then 1 else y) ≡ 1
set_kept true y h = refl
set_kept false y h = h

set_here : (u : ℕ) (y : ℕ → ℕ) → set_up u y u ≡ 1
set_here u y = grind arith

set_paid : (b : Bool) (f y : ℕ) → f * (if b then 1 else y) ≤ f * y + (if b then 1 else 0) * f
set_paid true f y = omega arith
set_paid false f y = omega arith

setups_paid : (a : LateLots) (u : ℕ) (y : ℕ → ℕ) → 1 ≤ u → u ≤ a.periods → sum_to a.periods (λ t. a.setup t * set_up u y t) ≤ sum_to a.periods (λ t. a.setup t * y t) + a.setup u
setups_paid a u y low high =
    omega (
      arith,
      sum_to-le a.periods (λ t. a.setup t * set_up u y t) (λ t. a.setup t * y t + (if u == t then 1 else 0) * a.setup t) (λ t t_low t_high. set_paid (u == t) (a.setup t) (y t)),
      sum_to-add a.periods (λ t. a.setup t * y t) (λ t. (if u == t then 1 else 0) * a.setup t),
      one_here a.periods u 1 a.setup low high,
    )

enter_partial : (a : LateLots) (t price u : ℕ) → 1 ≤ u → u ≤ a.periods → HasPartial a t price → HasPartialWith a t u (price + a.setup u)
enter_partial a t price u low high some =
    let (q, short, is) = some in
    let p : NetPlan = record { make = q.make; setup = set_up u q.setup } in (
      p,
      short,
      record {
        setup = λ w. set_le (u == w) (q.setup w) (is.setup w);
        made = λ w made. set_kept (u == w) (q.setup w) (is.made w made);
        started = is.started;
        settled = is.settled;
        within = omega (arith, is.within, price_parts a q short, price_parts a p short, setups_paid a u q.setup low high);
      },
      set_here u q.setup,
    )

-- units more from a period with a setup
abbrev more : ℕ → ℕ → (ℕ → ℕ) → ℕ → ℕ
more u n make w = make w + (if u == w then n else 0)

abbrev shorter : ℕ → ℕ → ℕ → (ℕ → ℕ) → ℕ → ℕ
shorter t u n short w = short w + (if nat_lt t w && nat_lt w u then n else 0)

units_paid : (a : LateLots) (u n : ℕ) (make : ℕ → ℕ) → 1 ≤ u → u ≤ a.periods → sum_to a.periods (λ t. a.unit t * more u n make t) ≡ sum_to a.periods (λ t. a.unit t * make t) + n * a.unit u
units_paid a u n make low high =
    omega (
      arith,
      sum_to-same a.periods (λ t. a.unit t * more u n make t) (λ t. a.unit t * make t + (if u == t then n else 0) * a.unit t) (λ t t_low t_high. omega arith),
      sum_to-add a.periods (λ t. a.unit t * make t) (λ t. (if u == t then n else 0) * a.unit t),
      one_here a.periods u n a.unit low high,
    )

-- the units fall short in a window of periods
in_window : (t w u n : ℕ) → t < w → w < u → (if nat_lt t w && nat_lt w u then n else 0) ≡ n
in_window t w u n h k = grind (arith, h, k)

past_window : (t w u n : ℕ) → u ≤ w → (if nat_lt t w && nat_lt w u then n else 0) ≡ 0
past_window t w u n h = grind (arith, h)

before_window : (t w u n : ℕ) → w ≤ t → (if nat_lt t w && nat_lt w u then n else 0) ≡ 0
before_window t w u n h = grind (arith, h)

window_paid : (b : ℕ → ℕ) (t u n k : ℕ) → sum_to k (λ w. (if nat_lt t w && nat_lt w u then n else 0) * b w) ≤ n * sum_from (suc t) (min (suc k) u - suc t) b
window_paid b t u n zero = omega arith
window_paid b t u n (suc k) =
    let w = suc k in
    let before = window_paid b t u n k in
    let term = if nat_lt t w && nat_lt w u then n else 0 in
    ⊎_elim
    (λ less. ⊎_elim
    (λ within.
    let first : min (suc k) u - suc t ≡ k - t = omega (arith, min_here (suc k) u (omega (arith, less)), within) in
    let next : min (suc w) u - suc t ≡ suc (k - t) = omega (arith, min_here (suc w) u less, within) in
    let at : suc t + (k - t) ≡ w = omega (arith, within) in
    omega (
      arith,
      before,
      ap (λ j. n * sum_from (suc t) j b) first,
      ap (λ j. n * sum_from (suc t) j b) next,
      ap (λ j. n * b j) at,
      ap (λ x. x * b w) (in_window t w u n within less),
    ))
    (λ early.
    let first : min (suc k) u - suc t ≡ 0 = omega (arith, min_here (suc k) u (omega (arith, less)), early) in
    omega (arith, before, ap (λ j. n * sum_from (suc t) j b) first, ap (λ x. x * b w) (before_window t w u n (omega (arith, early)))))
    (cases_lt t w))
    (λ past.
    let same : min (suc k) u - suc t ≡ min (suc w) u - suc t = omega (arith, min_there (suc k) u (omega (arith, past)), min_there (suc w) u (omega (arith, past))) in
    omega (arith, before, ap (λ j. n * sum_from (suc t) j b) same, ap (λ x. x * b w) (past_window t w u n (omega (arith, past)))))
    (cases_lt w u)

shares_paid : (a : LateLots) (t u n : ℕ) (short : ℕ → ℕ) → u ≤ a.periods → sum_to a.periods (λ w. a.share w * shorter t u n short w) ≤ sum_to a.periods (λ w. a.share w * short w) + n * sum_from (suc t) (u - suc t) a.share
shares_paid a t u n short high =
    let all : min (suc a.periods) u - suc t ≡ u - suc t = omega (arith, min_there (suc a.periods) u (omega (arith, high))) in
    omega (
      arith,
      sum_to-same a.periods (λ w. a.share w * shorter t u n short w) (λ w. a.share w * short w + (if nat_lt t w && nat_lt w u then n else 0) * a.share w) (λ w low w_high. omega arith),
      sum_to-add a.periods (λ w. a.share w * short w) (λ w. (if nat_lt t w && nat_lt w u then n else 0) * a.share w),
      window_paid a.share t u n a.periods,
      ap (λ j. n * sum_from (suc t) j a.share) all,
    )

more_le : (u n k : ℕ) (make : ℕ → ℕ) → sum_to k make ≤ sum_to k (more u n make)
more_le u n k make = sum_to-le k make (more u n make) (λ w low high. omega arith)

more_all : (u n k : ℕ) (make : ℕ → ℕ) → 1 ≤ u → u ≤ k → sum_to k make + n ≤ sum_to k (more u n make)
more_all u n k make low high = omega (arith, sum_to-add k make (λ w. if u == w then n else 0), term_le k u (λ w. if u == w then n else 0) low high, here u u n refl)

made_more : (q : NetPlan) (u n w : ℕ) → q.setup u ≡ 1 → (0 < q.make w → q.setup w ≡ 1) → 0 < more u n q.make w → q.setup w ≡ 1
made_more q u n w set made some =
    ⊎_elim
    (λ same. sym (ap q.setup same) ∙ set)
    (λ apart. made (omega (arith, some, elsewhere u w n apart)))
    (cases_eq u w)

max_le : (x y z : ℕ) → x ≤ z → y ≤ z → max x y ≤ z
max_le x y z h k = grind (arith, h, k)

settled_more : (t s u w n : ℕ) → u ≤ max (suc t) s → s ≤ w → (if nat_lt t w && nat_lt w u then n else 0) ≡ 0
settled_more t s u w n within late =
    ⊎_elim
    (λ early. before_window t w u n (omega (arith, early)))
    (λ past. past_window t w u n (let last : max (suc t) s ≤ w = max_le (suc t) s w past late in omega (arith, within, last)))
    (cases_lt w (suc t))

more_started : (a : LateLots) (t price u : ℕ) (q : NetPlan) (short : ℕ → ℕ) → IsRising a → suc t ≤ a.periods → 1 ≤ u → IsPartial a t price q short → (w : ℕ) → 1 ≤ w → w ≤ a.periods → need_by a.need (min w (suc t)) ≤ sum_to w (more u (units_in a.need (suc t)) q.make) + shorter t u (units_in a.need (suc t)) short w
more_started a t price u q short rises high low is w w_low w_high =
    let n = units_in a.need (suc t) in
    ⊎_elim
    (λ early. omega (arith, is.started w w_low w_high, ap (need_by a.need) (min_here w t (omega (arith, early))), ap (need_by a.need) (min_here w (suc t) (omega (arith, early))), more_le u n w q.make))
    (λ late.
    let had : need_by a.need (min w (suc t)) ≤ sum_to w q.make + short w + n = omega (arith, is.started w w_low w_high, ap (need_by a.need) (min_there w t (omega (arith, late))), ap (need_by a.need) (min_there w (suc t) late), units_next a rises t high) in
    ⊎_elim
    (λ short_yet. omega (arith, had, more_le u n w q.make, in_window t w u n (omega (arith, late)) short_yet))
    (λ there. omega (arith, had, more_all u n w q.make low (omega (arith, there))))
    (cases_lt w u))
    (cases_lt w (suc t))

serve_partial : (a : LateLots) (t price u : ℕ) → IsRising a → suc t ≤ a.periods → MayServe a u (suc t) → HasPartialWith a t u price → HasPartialWith a (suc t) u (price + units_in a.need (suc t) * price_from a u (suc t))
serve_partial a t price u rises high may some =
    let (q, short, is, set) = some in
    let n = units_in a.need (suc t) in
    let p : NetPlan = record { make = more u n q.make; setup = q.setup } in (
      p,
      shorter t u n short,
      record {
        setup = is.setup;
        made = λ w made. made_more q u n w set (is.made w) made;
        started = more_started a t price u q short rises high may.low is;
        settled = λ w late. omega (arith, is.settled w late, settled_more t a.settled u w n may.in_time late);
        within = omega (
          arith,
          is.within,
          price_parts a q short,
          price_parts a p (shorter t u n short),
          units_paid a u n q.make may.low may.high,
          shares_paid a t u n short may.high,
        );
      },
      set,
    )

dearer : (a : LateLots) (t price more : ℕ) (q : NetPlan) (short : ℕ → ℕ) → price ≤ more → IsPartial a t price q short → IsPartial a t more q short
dearer a t price more q short h is = record { setup = is.setup; made = is.made; started = is.started; settled = is.settled; within = omega (arith, is.within, h) }

dearer_with : (a : LateLots) (t u price more : ℕ) → price ≤ more → HasPartialWith a t u price → HasPartialWith a t u more
dearer_with a t u price more h some = let (q, short, is, set) = some in (q, short, dearer a t price more q short h is, set)

-- the first row
none_serves : (a : LateLots) (u : ℕ) (P : Type 0) → MayServe a u 0 → P
none_serves a u P may = absurd (omega (arith, may.some))

pub rows_first : (a : LateLots) (most : ℕ) (row : ℕ → ℕ) → IsRising a → IsRowOfPrices a most 0 row 0
rows_first a most row rises = record {
  any = λ u may. none_serves a u (0 ≤ row u) may;
  floor = λ q short is. inr (record { none = λ v may set. none_serves a v ⊥ may; need = refl; free = refl });
  found = λ less. none_partial a 0 0 rises (omega arith) refl;
  from = λ u may less. none_serves a u (HasPartialWith a 0 u (row u)) may;
}

-- the next one
from_next : (a : LateLots) (most t : ℕ) (row : ℕ → ℕ) (least : ℕ) (next : ℕ → ℕ) (next_least u : ℕ) → IsStep a most t row least next next_least → IsRowOfPrices a most t row least → MayServe a u (suc t) → next u < most → HasPartialWith a (suc t) u (next u)
from_next a most t row least next next_least u step is may less =
    let cost = units_in a.need (suc t) * price_from a u (suc t) in
    ⊎_elim
    (λ enter. dearer_with a (suc t) u (least + a.setup u + cost) (next u) (omega (arith, enter)) (serve_partial a t (least + a.setup u) u step.rises step.high may (enter_partial a t least u may.low may.high (is.found (omega (arith, enter, less))))))
    (λ stay. dearer_with a (suc t) u (row u + cost) (next u) (omega (arith, stay.1)) (serve_partial a t (row u) u step.rises step.high may (is.from u stay.0 (omega (arith, stay.1, less)))))
    ((step.row_next u may).some less)

pub rows_next : (a : LateLots) (most t : ℕ) (row : ℕ → ℕ) (least : ℕ) (next : ℕ → ℕ) (next_least : ℕ) → IsStep a most t row least next next_least → IsRowOfPrices a most t row least → IsRowOfPrices a most (suc t) next next_least
rows_next a most t row least next next_least step is = record {
  any = step.least_next.any;
  floor = λ q short chosen. floor_next a most t row least next next_least q short step chosen (is.floor q short chosen);
  found = λ less. ⊎_elim
      (λ none. none_partial a (suc t) next_least step.rises step.high none)
      (λ some.
      let (u, may, within) = some in
      let (q, short, made, set) = from_next a most t row least next next_least u step is may (omega (arith, within, less)) in
      (q, short, dearer a (suc t) (next u) next_least q short within made))
      (step.least_next.some less);
  from = λ u may less. from_next a most t row least next next_least u step is may less;
}

-- at the end
need_at : (a : LateLots) (t : ℕ) → 1 ≤ t → a.need t ≡ need_by a.need t
need_at a zero h = absurd (omega (arith, h))
need_at a (suc t) h = refl

pub rows_end : (a : LateLots) (most : ℕ) (row : ℕ → ℕ) (least : ℕ) → a.settled ≤ a.periods → IsRowOfPrices a most a.periods row least → IsLeastUpTo a most least
rows_end a most row least within is =
    let low = floor_end a most row least within is in
    record {
      floor = low;
      some = λ less.
          let (q, short, made) = is.found less in
          let chosen : IsLateChoice a q short = record {
            setup = λ t t_low t_high. made.setup t;
            made = λ t t_low t_high some. made.made t some;
            started = λ t t_low t_high. omega (arith, made.started t t_low t_high, need_at a t t_low, ap (need_by a.need) (min_here t a.periods t_high));
            settled = λ t t_low t_high late. made.settled t late;
          } in
          (q, short, chosen, omega (arith, low q short chosen, made.within));
    }
