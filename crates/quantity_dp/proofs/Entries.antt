-- An entry of the next row is the least over all steps to it.
use Rattle.std.proofs.Common.{◌≡◌, ◌≤◌, ◌<◌, ◌+◌, ◌-◌, ◌*◌, ◌∙◌, ◌⊎◌, ⊎_elim, inl, inr, ℕ, zero, suc, refl, sym, ap, subst, arith, List, length, Option, Some, None}
use Rattle.std.specs.Prelude.{IfSome, min}
use Rattle.std.proofs.lemmas.Bool.{cases_lt}
use Rattle.std.proofs.Math.Nat.{mul-le-mul_left}
use Rattle.std.proofs.lemmas.Nat.{mul-le}
use Rattle.quantity_dp.specs.declared.lots.LotPeriod.{LotPeriod}
use Rattle.quantity_dp.specs.declared.limits.TheConstants.{MAX_ENTRIES, MAX_PRICE}
use Rattle.quantity_dp.specs.Limits.{IsPriced}
use Rattle.quantity_dp.specs.Window.{IsLeastIn}
use Rattle.quantity_dp.specs.Table.{AreSmall, IsLesser, IsNextEntry, IsStep, brought, brought_in, lot_price, made_by, most_in, price_in}

-- some step costs no more, without what falls short after it
pub record IsStarted (lot : LotPeriod) (row : List (Option ℕ)) (to c : ℕ) : Type 0 where
  pub from : ℕ
  pub x : ℕ
  pub price : ℕ
  pub sum : from + x ≡ to
  pub step : IsStep lot (most_in row) from x to
  pub before : price_in row from ≡ Some price
  pub costs : price + lot_price lot x ≤ c

-- the least of the steps of some lots, without what falls short after them
abbrev pub IsPart : LotPeriod → List (Option ℕ) → ℕ → (ℕ → Type 0) → Option ℕ → Type 0
IsPart lot row to F None = (from x b : ℕ) → F x → from < length row → IsStep lot (most_in row) from x to → price_in row from ≡ Some b → ⊥
IsPart lot row to F (Some c) = IsStarted lot row to c × ((from x b : ℕ) → F x → from < length row → IsStep lot (most_in row) from x to → price_in row from ≡ Some b → c ≤ b + lot_price lot x)

abbrev pub IsNothing : ℕ → Type 0
IsNothing x = x ≡ 0

abbrev pub IsSomething : ℕ → Type 0
IsSomething x = 0 < x

abbrev pub IsAny : ℕ → Type 0
IsAny x = Unit {0}

none_or_any : (x : ℕ) → IsNothing x ⊎ IsSomething x
none_or_any zero = inl refl
none_or_any (suc x) = inr (omega arith)

pub min_left : (a b : ℕ) → min a b ≤ a
min_left a b = grind arith

pub min_right : (a b : ℕ) → min a b ≤ b
min_right a b = grind arith

pub min_some : (a b : ℕ) → (min a b ≡ a) ⊎ (min a b ≡ b)
min_some a b = ⊎_elim (λ less. inl (first a b less)) (λ no. inr (second a b no)) (cases_lt a b)
  where
    first : (a b : ℕ) → a < b → min a b ≡ a
    first a b h = grind (arith, h)

    second : (a b : ℕ) → b ≤ a → min a b ≡ b
    second a b h = grind (arith, h)

started_min : (lot : LotPeriod) (row : List (Option ℕ)) (to c d : ℕ) → IsStarted lot row to c → IsStarted lot row to d → IsStarted lot row to (min c d)
started_min lot row to c d one other = ⊎_elim (λ e. subst (IsStarted lot row to) (sym e) one) (λ e. subst (IsStarted lot row to) (sym e) other) (min_some c d)

-- the lesser of what stays and what is made
joined : (lot : LotPeriod) (row : List (Option ℕ)) (to : ℕ) (stays made o : Option ℕ) → IsPart lot row to IsNothing stays → IsPart lot row to IsSomething made → IsLesser stays made o → IsPart lot row to IsAny o
joined lot row to None None o a b is = subst (IsPart lot row to IsAny) (sym is) (λ from x price every in_row step before. ⊎_elim (λ none. a from x price none in_row step before) (λ any. b from x price any in_row step before) (none_or_any x))
joined lot row to None (Some d) o a b is = subst (IsPart lot row to IsAny) (sym is) (
  b.0,
  λ from x price every in_row step before. ⊎_elim (λ none. absurd (a from x price none in_row step before)) (λ any. b.1 from x price any in_row step before) (none_or_any x),
)
joined lot row to (Some c) None o a b is = subst (IsPart lot row to IsAny) (sym is) (
  a.0,
  λ from x price every in_row step before. ⊎_elim (λ none. a.1 from x price none in_row step before) (λ any. absurd (b from x price any in_row step before)) (none_or_any x),
)
joined lot row to (Some c) (Some d) o a b is = subst (IsPart lot row to IsAny) (sym is) (
  started_min lot row to c d a.0 b.0,
  λ from x price every in_row step before. ⊎_elim
      (λ none. omega (arith, min_left c d, a.1 from x price none in_row step before))
      (λ any. omega (arith, min_right c d, b.1 from x price any in_row step before))
      (none_or_any x),
)

-- all steps to a quantity have the same units that fall short
short_paid : (lot : LotPeriod) (row : List (Option ℕ)) (to : ℕ) (o : Option ℕ) → IsPart lot row to IsAny o → IsNextEntry lot row to (brought o (lot.share * (lot.asked - to)))
short_paid lot row to None is = λ from x b in_row step before. is from x b tt in_row step before
short_paid lot row to (Some c) is = record {
  reached = record { from = is.0.from; x = is.0.x; price = is.0.price; sum = is.0.sum; step = is.0.step; before = is.0.before; costs = omega (arith, is.0.costs) };
  least = λ from x b in_row step before. omega (arith, is.1 from x b tt in_row step before);
}

-- a quantity that is below what is needed has no step
step_far : (lot : LotPeriod) (most from x to : ℕ) → IsStep lot most from x to → lot.need ≤ most → lot.need ≤ to
step_far lot most from x to step fits = far lot.need (from + x) most to step.need fits step.total
  where
    far : (n s most to : ℕ) → n ≤ s → n ≤ most → to ≡ min s most → n ≤ to
    far n s most to h k e = grind (arith, h, k, e)

pub entry_none : (lot : LotPeriod) (row : List (Option ℕ)) (to : ℕ) → lot.need ≤ most_in row → to < lot.need → IsNextEntry lot row to None
entry_none lot row to fits short = λ from x b in_row step before. omega (arith, short, step_far lot (most_in row) from x to step fits)

-- how a step goes
step_up : (lot : LotPeriod) (most from x to : ℕ) → IsStep lot most from x to → from ≤ most → (from ≤ to) × (to ≤ from + x) × (to - lot.largest ≤ from)
step_up lot most from x to step high =
    let up = goes from x most to high step.total in
    (up.0, up.1, omega (arith, up.1, step.within))
  where
    goes : (from x most to : ℕ) → from ≤ most → to ≡ min (from + x) most → (from ≤ to) × (to ≤ from + x)
    goes from x most to h e = (grind (arith, h, e), grind (arith, h, e))

step_same : (lot : LotPeriod) (most from x to : ℕ) → IsStep lot most from x to → from ≤ most → x ≡ 0 → to ≡ from
step_same lot most from x to step high none = same from x most to high step.total none
  where
    same : (from x most to : ℕ) → from ≤ most → to ≡ min (from + x) most → x ≡ 0 → to ≡ from
    same from x most to h e none = grind (arith, h, e, none)

step_of : (lot : LotPeriod) (most from x to : ℕ) → from + x ≡ to → to ≤ most → x ≤ lot.largest → lot.need ≤ to → IsStep lot most from x to
step_of lot most from x to sum high small need = record {
  within = small;
  need = omega (arith, need, sum);
  total = whole (from + x) most to sum high;
}
  where
    whole : (s most to : ℕ) → s ≡ to → to ≤ most → to ≡ min s most
    whole s most to e h = grind (arith, e, h)

pub price_same : (a b : ℕ) → Some a ≡ Some b → a ≡ b
price_same a b e = cc e

-- what stays costs what it did
stays_part : (lot : LotPeriod) (row : List (Option ℕ)) (to : ℕ) (o : Option ℕ) → price_in row to ≡ o → to < length row → lot.need ≤ to → IsPart lot row to IsNothing o
stays_part lot row to None is in_row need = λ from x b none from_row step before.
    let same = step_same lot (most_in row) from x to step (omega (arith, from_row)) none in
    cc (sym is ∙ ap (price_in row) same ∙ before)
stays_part lot row to (Some c) is in_row need = (
  record {
    from = to;
    x = 0;
    price = c;
    sum = omega arith;
    step = step_of lot (most_in row) to 0 to (omega arith) (omega (arith, in_row)) (omega arith) need;
    before = is;
    costs = omega arith;
  },
  λ from x b none from_row step before.
      let same = step_same lot (most_in row) from x to step (omega (arith, from_row)) none in
      omega (arith, price_same c b (sym is ∙ ap (price_in row) same ∙ before)),
)

-- what is brought to the most, and back
brought_some : (o : Option ℕ) (more v : ℕ) → brought o more ≡ Some v → (b : ℕ) × (o ≡ Some b) × (v ≡ b + more)
brought_some None more v is = absurd (cc is)
brought_some (Some b) more v is = (b, refl, sym (price_same (b + more) v is))

split : (unit a b c : ℕ) → c ≡ a + b → unit * c ≡ unit * a + unit * b
split unit a b c e = omega (arith, ap (λ k. unit * k) e)

any_price : (lot : LotPeriod) (x : ℕ) → 0 < x → lot_price lot x ≡ lot.setup + lot.unit * x
any_price lot zero h = absurd (omega (arith, h))
any_price lot (suc x) h = refl

pub most_price : (lot : LotPeriod) (x : ℕ) → lot_price lot x ≤ lot.setup + lot.unit * x
most_price lot zero = omega arith
most_price lot (suc x) = omega arith

few_units : (from x k n : ℕ) → from + x ≡ k → k < n → 1 + x ≤ n
few_units from x k n e h = omega (arith, e, h)

-- what a setup makes costs no more than any step with a lot
made_part : (lot : LotPeriod) (row : List (Option ℕ)) (to : ℕ) (least : Option ℕ) → to < length row → lot.need ≤ to → IsLeastIn (brought_in row lot.unit) (to - lot.largest) (to + 1) least → IsPart lot row to IsSomething (made_by lot row to least)
made_part lot row to None in_row need is = λ from x b any from_row step before.
    let up = step_up lot (most_in row) from x to step (omega (arith, from_row)) in
    is from (b + lot.unit * (most_in row - from)) up.2 (omega (arith, up.0)) (ap (λ o. brought o (lot.unit * (most_in row - from))) before)
made_part lot row to (Some v) in_row need is = (
  (
      let (k, low, high, there) = is.some in
      let (b, before, sum) = brought_some (price_in row k) (lot.unit * (most_in row - k)) v there in
      let x = to - k in
      let parts = split lot.unit (most_in row - to) x (most_in row - k) (omega (arith, in_row, high)) in
      record {
        from = k;
        x = x;
        price = b;
        sum = omega (arith, high);
        step = step_of lot (most_in row) k x to (omega (arith, high)) (omega (arith, in_row)) (omega (arith, low, high)) need;
        before = before;
        costs = omega (arith, sum, parts, most_price lot x);
      }
      ),
  λ from x b any from_row step before.
      let up = step_up lot (most_in row) from x to step (omega (arith, from_row)) in
      let most = is.least from (b + lot.unit * (most_in row - from)) up.2 (omega (arith, up.0)) (ap (λ o. brought o (lot.unit * (most_in row - from))) before) in
      let parts = split lot.unit (most_in row - to) (to - from) (most_in row - from) (omega (arith, in_row, up.0)) in
      let more = mul-le-mul_left lot.unit (made_most from x to up.1) in
      omega (arith, most, parts, more, any_price lot x any),
)
  where
    made_most : (from x to : ℕ) → to ≤ from + x → to - from ≤ x
    made_most from x to h = omega (arith, h)

-- and so what has been started
started_some : (lot : LotPeriod) (row : List (Option ℕ)) (to : ℕ) (least made o : Option ℕ) → to < length row → lot.need ≤ to → IsLeastIn (brought_in row lot.unit) (to - lot.largest) (to + 1) least → made ≡ made_by lot row to least → IsLesser (price_in row to) made o → IsPart lot row to IsAny o
started_some lot row to least made o in_row need is is_made lesser =
    joined lot row to (price_in row to) made o (stays_part lot row to (price_in row to) refl in_row need) (subst (IsPart lot row to IsSomething) (sym is_made) (made_part lot row to least in_row need is)) lesser

-- and the entry
pub entry_some : (lot : LotPeriod) (row : List (Option ℕ)) (to : ℕ) (least made o : Option ℕ) → to < length row → lot.need ≤ to → IsLeastIn (brought_in row lot.unit) (to - lot.largest) (to + 1) least → made ≡ made_by lot row to least → IsLesser (price_in row to) made o → IsNextEntry lot row to (brought o (lot.share * (lot.asked - to)))
entry_some lot row to least made o in_row need is is_made lesser =
    short_paid lot row to o (started_some lot row to least made o in_row need is is_made lesser)

-- what has been started costs at most a setup and all units above a price of the row
part_small : (lot : LotPeriod) (row : List (Option ℕ)) (to most price size top : ℕ) (o : Option ℕ) → to < length row → length row ≤ size → lot.setup ≤ price → lot.unit ≤ price → most + price * size ≤ top → AreSmall most row → IsPart lot row to IsAny o → IfSome o (λ c. c ≤ top)
part_small lot row to most price size top None in_row fits setup unit high small is = tt
part_small lot row to most price size top (Some c) in_row fits setup unit high small is =
    let r = is.0 in
    let from_row : r.from < length row = omega (arith, r.sum, in_row) in
    let least = is.1 r.from r.x r.price tt from_row r.step r.before in
    let units = mul-le lot.unit r.x price r.x unit (omega arith) in
    let few = mul-le-mul_left price (few_units r.from r.x to size r.sum (omega (arith, in_row, fits))) in
    omega (arith, least, most_price lot r.x, units, setup, few, high, small r.from r.price from_row r.before)

pub started_small : (lot : LotPeriod) (row : List (Option ℕ)) (to : ℕ) (least made o : Option ℕ) → to < length row → length row ≤ MAX_ENTRIES → lot.need ≤ to → IsPriced lot → AreSmall (MAX_ENTRIES * MAX_PRICE) row → IsLeastIn (brought_in row lot.unit) (to - lot.largest) (to + 1) least → made ≡ made_by lot row to least → IsLesser (price_in row to) made o → IfSome o (λ c. c ≤ 2 * (MAX_ENTRIES * MAX_PRICE))
started_small lot row to least made o in_row fits need priced small is is_made lesser =
    part_small lot row to (MAX_ENTRIES * MAX_PRICE) MAX_PRICE MAX_ENTRIES (2 * (MAX_ENTRIES * MAX_PRICE)) o in_row fits priced.setup priced.unit (omega arith) small (started_some lot row to least made o in_row need is is_made lesser)

-- the least of the window is no less than what its units are brought to
pub brought_least : (lot : LotPeriod) (row : List (Option ℕ)) (to v : ℕ) → to < length row → IsLeastIn (brought_in row lot.unit) (to - lot.largest) (to + 1) (Some v) → lot.unit * (most_in row - to) ≤ v
brought_least lot row to v in_row is =
    let (k, low, high, there) = is.some in
    let (b, before, sum) = brought_some (price_in row k) (lot.unit * (most_in row - k)) v there in
    omega (arith, sum, split lot.unit (most_in row - to) (to - k) (most_in row - k) (omega (arith, in_row, high)))
