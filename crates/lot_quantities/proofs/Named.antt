-- Columns by their names.
use Rattle.std.proofs.Common.{◌≡◌, ◌<◌, ◌≤◌, ◌+◌, ⊎_elim, ℕ, arith, IfNone, IfSome, List, Option, Some, None, codes, length}
use Rattle.std.proofs.lemmas.Bool.{cases_lt}
use Rattle.csv_records.specs.Records.{Record}
use Rattle.lot_quantities.specs.Columns.{HasColumns, HasText, IsColumn, IsNoColumn, IsTwice, NoneBetween}
use Rattle.lot_quantities.specs.declared.columns.Columns.{Columns}

-- a text that stands in one column, and neither before nor after it
pub only : (r : Record) (text : List ℕ) (c : ℕ) → 0 < c → c ≤ length r → HasText r c text → NoneBetween r text 0 c → NoneBetween r text c (length r + 1) → IsColumn r text c
only r text c low high here before after = record {
  low = omega (arith, low);
  high = high;
  here = here;
  alone = λ d d_low d_high has.
      ⊎_elim
      (λ less. absurd (before d (omega (arith, d_low)) less has))
      (λ no. ⊎_elim (λ more. absurd (after d more (omega (arith, d_high)) has)) (λ no2. omega (arith, no, no2)) (cases_lt c d))
      (cases_lt d c);
}

pub nowhere : (r : Record) (text : List ℕ) → NoneBetween r text 0 (length r + 1) → IsNoColumn r text
nowhere r text none d low high has = none d (omega (arith, low)) (omega (arith, high)) has

-- a text that stands nowhere or twice has no column of its own
pub none_nowhere : (r : Record) (text : List ℕ) (c : ℕ) → IsNoColumn r text → IsColumn r text c → ⊥
none_nowhere r text c none is = none c is.low is.high is.here

pub none_twice : (r : Record) (text : List ℕ) (a b c : ℕ) → IsTwice r text a b → IsColumn r text c → ⊥
none_twice r text a b c two is =
    let first : a ≡ c = is.alone a two.low (omega (arith, two.less, two.high)) two.here in
    let second : b ≡ c = is.alone b (omega (arith, two.low, two.less)) two.high two.there in
    omega (arith, two.less, first, second)

neither : (r : Record) (text : List ℕ) (a b : ℕ) (s : Option ℕ) → IsTwice r text a b → IfSome s (IsColumn r text) → IfNone s (IsNoColumn r text) → ⊥
neither r text a b (Some c) two some none = none_twice r text a b c two some
neither r text a b None two some none = none a two.low (omega (arith, two.less, two.high)) two.here

pub setups_twice : (r : Record) (a b : ℕ) (k : Columns) → IsTwice r (codes "setup") a b → HasColumns r k → ⊥
setups_twice r a b k two has = neither r (codes "setup") a b k.setup two has.setup has.no_setup
