-- Where the columns of a table stand, by the names in its first record.
use Rattle.std.specs.Prelude.{◌≡◌, ℕ, ◌≤◌, ◌<◌, IfNone, IfSome, IsTrue, List, codes, length}
use Rattle.std.specs.Str.{bytes_eq}
use Rattle.csv_records.specs.Records.{Record, field}
use Rattle.lot_quantities.specs.declared.columns.Columns.{Columns}
use Rattle.lot_quantities.specs.declared.columns.Found.{Found}
use Rattle.lot_quantities.specs.declared.columns.Found.TheVariants as found

-- the record has this text in this column; columns are counted from 1
abbrev pub HasText : Record → ℕ → List ℕ → Type 0
HasText r c text = IsTrue (bytes_eq (field r c) text)

-- it has it in this column and in no other
pub record IsColumn (r : Record) (text : List ℕ) (c : ℕ) : Type 0 where
  pub low : 1 ≤ c
  pub high : c ≤ length r
  pub here : HasText r c text
  pub alone : (d : ℕ) → 1 ≤ d → d ≤ length r → HasText r d text → d ≡ c

-- it has it in no column after this one and before that one
abbrev pub NoneBetween : Record → List ℕ → ℕ → ℕ → Type 0
NoneBetween r text after before = (d : ℕ) → after < d → d < before → HasText r d text → ⊥

-- it has it in no column
abbrev pub IsNoColumn : Record → List ℕ → Type 0
IsNoColumn r text = (d : ℕ) → 1 ≤ d → d ≤ length r → HasText r d text → ⊥

-- the record names each column once, and these are their places; that of the setups may be absent
pub record HasColumns (r : Record) (k : Columns) : Type 0 where
  pub width : k.width ≡ length r
  pub item : IsColumn r (codes "item") k.item
  pub period : IsColumn r (codes "period") k.period
  pub make : IsColumn r (codes "make") k.make
  pub setup : IfSome k.setup (IsColumn r (codes "setup"))
  pub no_setup : IfNone k.setup (IsNoColumn r (codes "setup"))

-- a text stands in two columns
pub record IsTwice (r : Record) (text : List ℕ) (c d : ℕ) : Type 0 where
  pub low : 1 ≤ c
  pub less : c < d
  pub high : d ≤ length r
  pub here : HasText r c text
  pub there : HasText r d text

-- where a text stands
abbrev pub IsFound : Record → List ℕ → Found → Type 0
IsFound r text found.Nowhere = IsNoColumn r text
IsFound r text (found.At c) = IsColumn r text c
IsFound r text found.Twice = (c d : ℕ) × IsTwice r text c d
