-- A row of the table has the least prices of the first periods.
use Rattle.std.proofs.Common.{◌≡◌, ◌≢◌, ◌≤◌, ◌<◌, ◌+◌, ◌-◌, ◌*◌, ◌∙◌, ⊎_elim, ℕ, zero, suc, refl, sym, ap, subst, arith, List, [], ◌∷◌, ◌++◌, length, slice_index_or, Option, Some, None}
use Rattle.std.specs.Prelude.{max, min, IfSome, if◌then◌else◌, ◌==◌, MatchOption}
use Rattle.std.proofs.lemmas.Bool.{cases_eq, cases_lt}
use Rattle.std.proofs.Math.Nat.{mul-le-mul_left}
use Rattle.std.proofs.lemmas.Nat.{mul-le}
use Rattle.std.proofs.lemmas.List.{get_or_append_left, get_or_push, length_push}
use Rattle.lot_sizing.specs.Sums.{sum_to}
use Rattle.lot_sizing.specs.Single.{NetPlan}
use Rattle.lot_sizing.proofs.Sums.{sum_to-same}
use Rattle.quantity_dp.specs.declared.lots.LotPeriod.{LotPeriod}
use Rattle.quantity_dp.specs.Lots.{HasNoChoice, IsChoiceTo, IsLeastPrice, Lots, lot_at, lots_of, no_lot, price_at, price_to}
use Rattle.quantity_dp.specs.Limits.{IsPriced, IsWithinLimits}
use Rattle.quantity_dp.specs.declared.limits.TheConstants.{MAX_ENTRIES, MAX_PRICE}
use Rattle.quantity_dp.specs.Table.{AreSmall, HasFirst, IsGreatestNeed, IsLeastTo, IsNextEntry, IsNextSome, IsNextTo, IsRow, IsStep, IsWayTo, lot_price, most_in, price_in, step_price}
use Rattle.quantity_dp.specs.Window.{IsLeastIn}
use Rattle.quantity_dp.proofs.Entries.{min_left, min_right, most_price}

-- the least of a sum and the most
min_twice : (s x e : ℕ) → min (s + x) e ≡ min (min s e + x) e
min_twice s x e = grind arith

min_zero : (e : ℕ) → min 0 e ≡ 0
min_zero e = grind arith

-- as much falls short where what goes past the most counts no more
short_same : (asked s most z : ℕ) → asked ≤ most → min s most ≡ z → asked - z ≡ asked - s
short_same asked s most z h e = grind (arith, h, e)

min_need : (s x e n : ℕ) → n ≤ s + x → n ≤ e → n ≤ min s e + x
min_need s x e n h k = grind (arith, h, k)

-- a choice of the first periods is one of fewer
fewer : (a : Lots) (n : ℕ) (q : NetPlan) → IsChoiceTo a (suc n) q → IsChoiceTo a n q
fewer a n q choice = record {
  setup = λ t low high. choice.setup t low (omega (arith, high));
  lots = λ t low high. choice.lots t low (omega (arith, high));
  started = λ t low high. choice.started t low (omega (arith, high));
}

-- a lot with its setup pays its price, and is no larger than the largest
lot_paid : (lot : LotPeriod) (x y : ℕ) → x ≤ lot.largest * y → y ≤ 1 → lot_price lot x ≤ lot.setup * y + lot.unit * x
lot_paid lot zero y most small = omega arith
lot_paid lot (suc x) zero most small = absurd (omega (arith, most))
lot_paid lot (suc x) (suc y) most small = omega arith

within_lot : (lot x y : ℕ) → y ≤ 1 → x ≤ lot * y → x ≤ lot
within_lot lot x zero h most = omega (arith, most)
within_lot lot x (suc y) h most = let e : y ≡ 0 = omega (arith, h) in omega (arith, most, ap (λ k. lot * suc k) e)

-- the least of some ways is no more than one of them
way_least : (a : Lots) (n most z : ℕ) (o : Option ℕ) (q : NetPlan) → IsLeastTo a n most z o → IsWayTo a n most z q → (b : ℕ) × (o ≡ Some b) × (b ≤ price_to a n q)
way_least a n most z None q is way = absurd (is q way)
way_least a n most z (Some b) q is way = (b, refl, is.least q way)

-- the step that a way takes in its last period
record LastStep (lots : List LotPeriod) (n most z : ℕ) (row : List (Option ℕ)) (q : NetPlan) : Type 0 where
  from : ℕ
  price : ℕ
  in_row : from < length row
  step : IsStep (lot_at lots (suc n)) (most_in row) from (q.make (suc n)) z
  before : price_in row from ≡ Some price
  costs : price + step_price (lot_at lots (suc n)) (q.make (suc n)) z ≤ price_to (lots_of lots) (suc n) q

last_step : (lots : List LotPeriod) (n most z : ℕ) (row : List (Option ℕ)) (q : NetPlan) → IsRow (lots_of lots) n most row → (lot_at lots (suc n)).need ≤ most → (lot_at lots (suc n)).asked ≤ most → IsWayTo (lots_of lots) (suc n) most z q → LastStep lots n most z row q
last_step lots n most z row q row_is fits fits_asked way =
    let a = lots_of lots in
    let lot = lot_at lots (suc n) in
    let s = sum_to n q.make in
    let x = q.make (suc n) in
    let from = min s most in
    let most_is : most_in row ≡ most = omega (arith, row_is.size) in
    let setup : q.setup (suc n) ≤ 1 = way.choice.setup (suc n) (omega arith) (omega arith) in
    let lot_most : x ≤ lot.largest * q.setup (suc n) = way.choice.lots (suc n) (omega arith) (omega arith) in
    let need : lot.need ≤ s + x = way.choice.started (suc n) (omega arith) (omega arith) in
    let (b, before, least) = way_least a n most from (price_in row from) q (row_is.each from (min_right s most)) (record { choice = fewer a n q way.choice; total = refl }) in
    record {
      from = from;
      price = b;
      in_row = omega (arith, row_is.size, min_right s most);
      step = record {
        within = within_lot lot.largest x (q.setup (suc n)) setup lot_most;
        need = min_need s x most lot.need need fits;
        total = sym way.total ∙ min_twice s x most ∙ ap (min (from + x)) (sym most_is);
      };
      before = before;
      costs = omega (arith, least, lot_paid lot x (q.setup (suc n)) lot_most setup, ap (λ k. lot.share * k) (short_same lot.asked (s + x) most z fits_asked way.total));
    }

-- a choice with another quantity in one period
setup_for : ℕ → ℕ
setup_for zero = 0
setup_for (suc x) = 1

abbrev pub put : (ℕ → ℕ) → ℕ → ℕ → ℕ → ℕ
put f t x u = if u == t then x else f u

put_here : (f : ℕ → ℕ) (t x u : ℕ) → u ≡ t → put f t x u ≡ x
put_here f t x u h = grind (arith, h)

put_else : (f : ℕ → ℕ) (t x u : ℕ) → u ≢ t → put f t x u ≡ f u
put_else f t x u h = grind (arith, h)

setup_small : (x : ℕ) → setup_for x ≤ 1
unfolding setup_for
setup_small zero = omega arith
setup_small (suc x) = omega arith

lot_some : (lot x : ℕ) → x ≤ lot → x ≤ lot * setup_for x
unfolding setup_for
lot_some lot zero h = omega arith
lot_some lot (suc x) h = omega (arith, h)

price_is : (lot : LotPeriod) (x : ℕ) → lot.setup * setup_for x + lot.unit * x ≡ lot_price lot x
unfolding setup_for
price_is lot zero = omega arith
price_is lot (suc x) = omega arith

-- a way that takes a step in its last period
record NextWay (lots : List LotPeriod) (n most z price : ℕ) : Type 0 where
  q : NetPlan
  way : IsWayTo (lots_of lots) (suc n) most z q
  costs : price_to (lots_of lots) (suc n) q ≡ price

next_way : (lots : List LotPeriod) (n most from x z b : ℕ) (q : NetPlan) → IsWayTo (lots_of lots) n most from q → price_to (lots_of lots) n q ≡ b → IsStep (lot_at lots (suc n)) most from x z → (lot_at lots (suc n)).asked ≤ most → NextWay lots n most z (b + step_price (lot_at lots (suc n)) x z)
next_way lots n most from x z b q way costs step fits =
    let a = lots_of lots in
    let lot = lot_at lots (suc n) in
    let t = suc n in
    let y = setup_for x in
    let make = put q.make t x in
    let setup = put q.setup t y in
    let r : NetPlan = record { make = make; setup = setup } in
    let x_here : make t ≡ x = put_here q.make t x t refl in
    let y_here : setup t ≡ y = put_here q.setup t y t refl in
    let x_else = λ (u : ℕ) (u_high : u ≤ n). put_else q.make t x u (λ s. omega (arith, s, u_high)) in
    let y_else = λ (u : ℕ) (u_high : u ≤ n). put_else q.setup t y u (λ s. omega (arith, s, u_high)) in
    let sums = λ (k : ℕ) (k_high : k ≤ n). sum_to-same k make q.make (λ u u_low u_high. x_else u (omega (arith, u_high, k_high))) in
    let pays : price_to a n r ≡ price_to a n q = sum_to-same n (price_at a r) (price_at a q) (λ u u_low u_high. omega (arith, ap (λ k. a.setup u * k) (y_else u u_high), ap (λ k. a.unit u * k) (x_else u u_high), ap (λ k. a.share u * (a.asked u - k)) (sums u u_high))) in
    let all : sum_to t make ≡ sum_to n q.make + x = omega (arith, sums n (omega arith), x_here) in
    let last_or = λ (u : ℕ) (u_high : u ≤ t) (P : ℕ → Type 0) (here : P t) (else_ : u ≤ n → P u). ⊎_elim (λ (s : u ≡ t). subst P (sym s) here) (λ (s : u ≢ t). else_ (omega (arith, s, u_high))) (cases_eq u t) in
    let total : min (sum_to t make) most ≡ z = ap (λ k. min k most) all ∙ min_twice (sum_to n q.make) x most ∙ ap (λ k. min (k + x) most) way.total ∙ sym step.total in
    record {
      q = r;
      way = record {
        choice = record {
          setup = λ u u_low u_high. last_or u u_high (λ k. setup k ≤ 1) (omega (arith, y_here, setup_small x)) (λ u_less. omega (arith, y_else u u_less, way.choice.setup u u_low u_less));
          lots = λ u u_low u_high. last_or u u_high (λ k. make k ≤ a.largest k * setup k)
              (omega (arith, x_here, ap (λ k. lot.largest * k) y_here, lot_some lot.largest x step.within))
              (λ u_less. omega (arith, x_else u u_less, ap (λ k. a.largest u * k) (y_else u u_less), way.choice.lots u u_low u_less));
          started = λ u u_low u_high. last_or u u_high (λ k. a.need k ≤ sum_to k make)
              (omega (arith, all, step.need, way.total, min_left (sum_to n q.make) most))
              (λ u_less. omega (arith, sums u u_less, way.choice.started u u_low u_less));
        };
        total = total;
      };
      costs = omega (arith, pays, costs, price_is lot x, ap (λ k. lot.setup * k) y_here, ap (λ k. lot.unit * k) x_here, ap (λ k. lot.share * k) (short_same lot.asked (sum_to t make) most z fits total));
    }

-- an entry of the next row is the least of the ways to it
next_least : (lots : List LotPeriod) (n most z : ℕ) (row : List (Option ℕ)) (o : Option ℕ) → IsRow (lots_of lots) n most row → (lot_at lots (suc n)).need ≤ most → (lot_at lots (suc n)).asked ≤ most → z ≤ most → IsNextEntry (lot_at lots (suc n)) row z o → IsLeastTo (lots_of lots) (suc n) most z o
next_least lots n most z row None row_is fits fits_asked high is = λ q way.
    let s = last_step lots n most z row q row_is fits fits_asked way in
    is s.from (q.make (suc n)) s.price s.in_row s.step s.before
next_least lots n most z row (Some c) row_is fits fits_asked high is =
    let a = lots_of lots in
    let r = is.reached in
    let most_is : most_in row ≡ most = omega (arith, row_is.size) in
    let floor : (q : NetPlan) → IsWayTo a (suc n) most z q → c ≤ price_to a (suc n) q = λ q way.
    let s = last_step lots n most z row q row_is fits fits_asked way in
    omega (arith, is.least s.from (q.make (suc n)) s.price s.in_row s.step s.before, s.costs) in
    let from_least : IsLeastTo a n most r.from (Some r.price) = subst (IsLeastTo a n most r.from) r.before (row_is.each r.from (omega (arith, r.sum, high))) in
    let (q, way, costs) = from_least.some in
    let step = subst (λ k. IsStep (lot_at lots (suc n)) k r.from r.x z) most_is r.step in
    let next = next_way lots n most r.from r.x z r.price q way costs step fits_asked in
    record {
      some = (next.q, next.way, omega (arith, next.costs, r.costs, floor next.q next.way));
      least = floor;
    }

pub row_next : (lots : List LotPeriod) (n most : ℕ) (lot : LotPeriod) (row next : List (Option ℕ)) → lot ≡ lot_at lots (suc n) → lot.need ≤ most → lot.asked ≤ most → IsRow (lots_of lots) n most row → IsNextTo lot row (length row) next → IsRow (lots_of lots) (suc n) most next
row_next lots n most lot row next same fits fits_asked row_is is = record {
  size = is.size ∙ row_is.size;
  each = λ z high. next_least lots n most z row (price_in next z) row_is (omega (arith, ap (λ (l : LotPeriod). l.need) same, fits)) (omega (arith, ap (λ (l : LotPeriod). l.asked) same, fits_asked)) high (subst (λ l. IsNextEntry l row z (price_in next z)) same (is.each z (omega (arith, high, row_is.size))));
}

-- the first row
no_way : (a : Lots) (most z : ℕ) (q : NetPlan) → 0 < z → IsWayTo a 0 most z q → ⊥
no_way a most z q some way = omega (arith, some, way.total, min_zero most)

pub row_first : (a : Lots) (most : ℕ) (row : List (Option ℕ)) → HasFirst most row → IsRow a 0 most row
row_first a most row is = record {
  size = is.size;
  each = λ z high. ⊎_elim
      (λ some. subst (IsLeastTo a 0 most z) (sym (is.none z some)) (λ q way. no_way a most z q some way))
      (λ none.
      let e : z ≡ 0 = omega (arith, none) in
      let q : NetPlan = record { make = λ u. 0; setup = λ u. 0 } in
      let zero_is : IsLeastTo a 0 most 0 (Some 0) = record {
        some = (q, record { choice = record { setup = λ t low up. absurd (omega (arith, low, up)); lots = λ t low up. absurd (omega (arith, low, up)); started = λ t low up. absurd (omega (arith, low, up)) }; total = min_zero most }, refl);
        least = λ r way. omega arith;
      } in
      subst (λ k. IsLeastTo a 0 most k (price_in row k)) (sym e) (subst (IsLeastTo a 0 most 0) (sym is.first) zero_is))
      (cases_lt 0 z);
}

-- so the least of the last row is the least price
last_least : (lots : List LotPeriod) (most : ℕ) (row : List (Option ℕ)) (o : Option ℕ) → IsRow (lots_of lots) (length lots) most row → IsLeastIn (price_in row) 0 (length row) o → MatchOption o (HasNoChoice (lots_of lots)) (IsLeastPrice (lots_of lots))
last_least lots most row None row_is is = λ q choice.
    let z = min (sum_to (length lots) q.make) most in
    let high : z ≤ most = min_right (sum_to (length lots) q.make) most in
    let (b, there, less) = way_least (lots_of lots) (length lots) most z (price_in row z) q (row_is.each z high) (record { choice = choice; total = refl }) in
    is z b (omega arith) (omega (arith, high, row_is.size)) there
last_least lots most row (Some c) row_is is = record {
  some =
      let (z, low, in_row, there) = is.some in
      let least : IsLeastTo (lots_of lots) (length lots) most z (Some c) = subst (IsLeastTo (lots_of lots) (length lots) most z) there (row_is.each z (omega (arith, in_row, row_is.size))) in
      let (q, way, costs) = least.some in
      (q, way.choice, costs);
  least = λ q choice.
      let z = min (sum_to (length lots) q.make) most in
      let high : z ≤ most = min_right (sum_to (length lots) q.make) most in
      let (b, there, less) = way_least (lots_of lots) (length lots) most z (price_in row z) q (row_is.each z high) (record { choice = choice; total = refl }) in
      omega (arith, less, is.least z b (omega arith) (omega (arith, high, row_is.size)) there);
}

-- no price grows by more than a setup and all units at the highest price
pub small_next : (lot : LotPeriod) (row next : List (Option ℕ)) (most price : ℕ) → lot.setup ≤ price → lot.unit ≤ price → lot.share ≤ price → lot.asked < length row → AreSmall most row → IsNextTo lot row (length row) next → AreSmall (most + price * length row) next
small_next lot row next most price setup unit share asked small is = λ k c less there.
    let some : IsNextSome lot row k c = subst (IsNextEntry lot row k) there (is.each k (omega (arith, less, is.size))) in
    let r = some.reached in
    let in_row : r.from < length row = omega (arith, r.sum, less, is.size) in
    let least = some.least r.from r.x r.price in_row r.step r.before in
    let units = mul-le lot.unit r.x price r.x unit (omega arith) in
    let short = mul-le lot.share (lot.asked - k) price (lot.asked - k) share (omega arith) in
    let few = mul-le-mul_left price (few_steps r.from r.x k lot.asked (length row) r.sum (omega (arith, less, is.size)) asked) in
    omega (arith, least, most_price lot r.x, units, short, setup, few, small r.from r.price in_row r.before)
  where
    few_steps : (from x k asked n : ℕ) → from + x ≡ k → k < n → asked < n → 1 + x + (asked - k) ≤ n
    few_steps from x k asked n e h j = omega (arith, e, h, j)

-- the first entries of the next row, one after the other
pub next_none : (lot : LotPeriod) (row next : List (Option ℕ)) → next ≡ [] → IsNextTo lot row 0 next
next_none lot row next none = record {
  size = ap length none;
  each = λ to less. absurd (omega (arith, less));
}

pub next_push : (lot : LotPeriod) (row : List (Option ℕ)) (n : ℕ) (next : List (Option ℕ)) (o : Option ℕ) → IsNextTo lot row n next → IsNextEntry lot row n o → IsNextTo lot row (n + 1) (next ++ o ∷ [])
next_push lot row n next o is entry = record {
  size = omega (arith, length_push next o, is.size);
  each = λ to less. ⊎_elim
      (λ before. subst (IsNextEntry lot row to) (sym (get_or_append_left next (o ∷ []) None to (omega (arith, before, is.size)))) (is.each to before))
      (λ no.
      let e : to ≡ n = omega (arith, no, less) in
      subst (IsNextEntry lot row to) (sym (get_or_push next o None to (omega (arith, e, is.size)))) (subst (λ k. IsNextEntry lot row k o) (sym e) entry))
      (cases_lt to n);
}

-- a row of small prices, counted by periods
pub small_more : (n most price c : ℕ) → c ≤ n * (price * most) + price * most → c ≤ (n + 1) * (price * most)
small_more n most price c h = omega (arith, h)

-- the table has no more entries than it may
pub entries_within : (lots : List LotPeriod) (most : ℕ) → IsWithinLimits lots → IsGreatestNeed lots most → length lots * (most + 1) ≤ MAX_ENTRIES
entries_within lots most within greatest =
    ⊎_elim
    (λ some.
    let (t, low, high, is) = greatest.some some in
    omega (arith, within.each.small t low high, ap (λ k. length lots * (k + 1)) is))
    (λ none. let e : most ≡ 0 = omega (arith, none) in omega (arith, ap (λ k. length lots * (k + 1)) e, within.periods))
    (cases_lt 0 most)

-- the lots of a period, as a loop over them reads them
at_next : (i : ℕ) → suc i - 1 ≡ i
at_next i = omega arith

lot_next : (lots : List LotPeriod) (i : ℕ) → slice_index_or lots i no_lot ≡ lot_at lots (suc i)
lot_next lots i = ap (λ k. slice_index_or lots k no_lot) (sym (at_next i))

lot_fits : (lots : List LotPeriod) (i most : ℕ) → i < length lots → IsGreatestNeed lots most → max (slice_index_or lots i no_lot).need (slice_index_or lots i no_lot).asked ≤ most
lot_fits lots i most less greatest = subst (λ (l : LotPeriod). max l.need l.asked ≤ most) (sym (lot_next lots i)) (greatest.each (suc i) (omega arith) (omega (arith, less)))

need_within : (lots : List LotPeriod) (i most : ℕ) → i < length lots → IsGreatestNeed lots most → (slice_index_or lots i no_lot).need ≤ most
need_within lots i most less greatest = grind (arith, lot_fits lots i most less greatest)

asked_within : (lots : List LotPeriod) (i most : ℕ) → i < length lots → IsGreatestNeed lots most → (slice_index_or lots i no_lot).asked ≤ most
asked_within lots i most less greatest = grind (arith, lot_fits lots i most less greatest)

pub need_fits : (lots : List LotPeriod) (i most : ℕ) (row : List (Option ℕ)) → i < length lots → IsGreatestNeed lots most → length row ≡ most + 1 → (slice_index_or lots i no_lot).need ≤ most_in row
need_fits lots i most row less greatest size = omega (arith, need_within lots i most less greatest, size)

pub asked_fits : (lots : List LotPeriod) (i most : ℕ) (row : List (Option ℕ)) → i < length lots → IsGreatestNeed lots most → length row ≡ most + 1 → (slice_index_or lots i no_lot).asked ≤ most_in row
asked_fits lots i most row less greatest size = omega (arith, asked_within lots i most less greatest, size)

pub lot_priced : (lots : List LotPeriod) (i : ℕ) → i < length lots → IsWithinLimits lots → IsPriced (slice_index_or lots i no_lot)
lot_priced lots i less within = subst IsPriced (sym (lot_next lots i)) (within.each.priced (suc i) (omega arith) (omega (arith, less)))

pub small_up : (a b : ℕ) (row : List (Option ℕ)) → a ≤ b → AreSmall a row → AreSmall b row
small_up a b row h small = λ k c less there. omega (arith, h, small k c less there)

pub small_first : (most : ℕ) (row : List (Option ℕ)) → HasFirst most row → AreSmall 0 row
small_first most row is = λ k c less there. ⊎_elim
    (λ some. absurd (cc (sym (is.none k some) ∙ there)))
    (λ none. let e : k ≡ 0 = omega (arith, none) in omega (arith, zero_price c (sym is.first ∙ ap (price_in row) (sym e) ∙ there)))
    (cases_lt 0 k)
  where
    zero_price : (c : ℕ) → Some 0 ≡ Some c → 0 ≡ c
    zero_price c e = cc e

-- the next row of the table, and how large its prices are
pub table_next : (lots : List LotPeriod) (i most : ℕ) (row next : List (Option ℕ)) → i < length lots → IsGreatestNeed lots most → IsRow (lots_of lots) i most row → IsNextTo (slice_index_or lots i no_lot) row (length row) next → IsRow (lots_of lots) (i + 1) most next
table_next lots i most row next less greatest row_is is =
    let e : suc i ≡ i + 1 = omega arith in
    subst (λ n. IsRow (lots_of lots) n most next) e
    (row_next lots i most (slice_index_or lots i no_lot) row next (lot_next lots i) (need_within lots i most less greatest) (asked_within lots i most less greatest) row_is is)

pub table_small : (lots : List LotPeriod) (i most : ℕ) (row next : List (Option ℕ)) → i < length lots → IsWithinLimits lots → IsGreatestNeed lots most → length row ≡ most + 1 → AreSmall (i * (MAX_PRICE * (most + 1))) row → IsNextTo (slice_index_or lots i no_lot) row (length row) next → AreSmall ((i + 1) * (MAX_PRICE * (most + 1))) next
table_small lots i most row next less within greatest size small is =
    let priced = lot_priced lots i less within in
    small_up (i * (MAX_PRICE * (most + 1)) + MAX_PRICE * length row) ((i + 1) * (MAX_PRICE * (most + 1))) next
    (small_more i (most + 1) MAX_PRICE (i * (MAX_PRICE * (most + 1)) + MAX_PRICE * length row) (omega (arith, ap (λ k. MAX_PRICE * k) size)))
    (small_next (slice_index_or lots i no_lot) row next (i * (MAX_PRICE * (most + 1))) MAX_PRICE priced.setup priced.unit priced.share (omega (arith, size, asked_within lots i most less greatest)) small is)

-- all prices of the table are small
pub table_bound : (lots : List LotPeriod) (n most : ℕ) → n ≤ length lots → IsWithinLimits lots → IsGreatestNeed lots most → n * (MAX_PRICE * (most + 1)) ≤ MAX_ENTRIES * MAX_PRICE
table_bound lots n most high within greatest =
    let entries = entries_within lots most within greatest in
    let fewer = mul-le n (most + 1) (length lots) (most + 1) high (omega arith) in
    bound n (most + 1) (omega (arith, entries, fewer))
  where
    bound : (n k : ℕ) → n * k ≤ MAX_ENTRIES → n * (MAX_PRICE * k) ≤ MAX_ENTRIES * MAX_PRICE
    bound n k h = omega (arith, h)

-- the last row
pub table_last : (lots : List LotPeriod) (n most : ℕ) (row : List (Option ℕ)) (o : Option ℕ) → n ≡ length lots → IsLeastIn (price_in row) 0 (length row) o → IsRow (lots_of lots) n most row → MatchOption o (HasNoChoice (lots_of lots)) (IsLeastPrice (lots_of lots))
table_last lots n most row o all least row_is = last_least lots most row o (subst (λ k. IsRow (lots_of lots) k most row) all row_is) least

pub table_last_small : (lots : List LotPeriod) (n most : ℕ) (row : List (Option ℕ)) (o : Option ℕ) → n ≤ length lots → IsWithinLimits lots → IsGreatestNeed lots most → AreSmall (n * (MAX_PRICE * (most + 1))) row → IsLeastIn (price_in row) 0 (length row) o → IfSome o (λ c. c ≤ MAX_ENTRIES * MAX_PRICE)
table_last_small lots n most row None high within greatest small least = tt
table_last_small lots n most row (Some c) high within greatest small least =
    let (k, low, in_row, there) = least.some in
    omega (arith, small k c in_row there, table_bound lots n most high within greatest)
