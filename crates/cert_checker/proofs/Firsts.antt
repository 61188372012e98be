-- The first of some columns whose sum is too large.
use Rattle.std.proofs.Common.{◌≡◌, ◌<◌, ◌+◌, ◌*◌, ◌^◌, ◌∙◌, ⊎_elim, ℕ, refl, sym, subst, arith, true}
use Rattle.std.specs.Prelude.{◌==◌, ◌&&◌, ℤ, Option, Some, None, IfSome}
use Rattle.std.proofs.lemmas.Bool.{cases_eq, cases_order}
use Rattle.lot_sizing.specs.Problem.{Problem, item_count}
use Rattle.lin_rows.specs.declared.column.Column.{Column}
use Rattle.lin_rows.specs.declared.column.Column.TheVariants.{X, Y, S, R}
use Rattle.lin_rows.specs.Columns.{IsCell, IsColumn, order_of}
use Rattle.lin_rows.specs.Sums.{Summed, item_of, kind_of, period_of}
use Rattle.lin_rows.proofs.Below.{one_by_parts}
use Rattle.cert_meaning.proofs.Columns.{one_column, order_is}
use Rattle.cert_checker.specs.Named.{IsAny, IsFirstLarge, IsLarge, IsOfItem, IsOfKind, IsWithinCost, place_of}
use Rattle.cert_checker.specs.declared.columns.Kind.{Kind}
use Rattle.cert_checker.specs.declared.columns.Kind.TheVariants as kinds

column_cell : (m : Problem) (c : Column) → IsColumn m c → IsCell m (item_of c) (period_of c)
column_cell m (X i t) is = is
column_cell m (Y i t) is = is
column_cell m (S i t) is = is
column_cell m (R i t) is = is.0

module _ (m : Problem) (den : ℤ) (s : Summed) where
  -- ---- periods of an item
  pub none_of_item : (kind : Kind) (item : ℕ) (d : Column) → IsOfItem kind item d → period_of d < 1 → IsWithinCost m den s d
  none_of_item kind item d of low has = let cell = column_cell m d has in absurd (omega (arith, low, cell.2))

  pub one_of_item : (kind : Kind) (item period : ℕ) (c d : Column) → kind_of c ≡ place_of kind → item_of c ≡ item → period_of c ≡ period → IsWithinCost m den s c → ((e : Column) → IsOfItem kind item e → period_of e < period → IsWithinCost m den s e) → IsOfItem kind item d → period_of d < period + 1 → IsWithinCost m den s d
  one_of_item kind item period c d k i t here before of low =
      ⊎_elim
      (λ same. subst (IsWithinCost m den s) (one_column c d (k ∙ sym of.0) (i ∙ sym of.1) (t ∙ sym same)) here)
      (λ apart. before d of (omega (arith, low, apart)))
      (cases_eq (period_of d) period)

  pub all_of_item : (kind : Kind) (item past : ℕ) (d : Column) → m.periods < past → ((e : Column) → IsOfItem kind item e → period_of e < past → IsWithinCost m den s e) → IsOfItem kind item d → IsWithinCost m den s d
  all_of_item kind item past d end before of has = let cell = column_cell m d has in before d of (omega (arith, end, cell.3)) has

  pub first_of_item : (kind : Kind) (item period : ℕ) (c : Column) → kind_of c ≡ place_of kind → item_of c ≡ item → period_of c ≡ period → item < 2 ^ 32 → period < 2 ^ 32 → IsLarge m den s c → ((e : Column) → IsOfItem kind item e → period_of e < period → IsWithinCost m den s e) → IsFirstLarge m den s (IsOfItem kind item) c
  first_of_item kind item period c k i t i_small t_small large before = record {
    among = (k, i);
    item_small = omega (arith, i, i_small);
    period_small = omega (arith, t, t_small);
    large = large;
    before = λ d of less. before d of (omega (arith, less, order_is c, order_is d, k, i, t, of.0, of.1));
  }

  -- ---- items of a kind
  pub none_of_kind : (kind : Kind) (d : Column) → IsOfKind kind d → item_of d < 1 → IsWithinCost m den s d
  none_of_kind kind d of low has = let cell = column_cell m d has in absurd (omega (arith, low, cell.0))

  pub one_of_kind : (kind : Kind) (item : ℕ) (d : Column) → ((e : Column) → IsOfItem kind item e → IsWithinCost m den s e) → ((e : Column) → IsOfKind kind e → item_of e < item → IsWithinCost m den s e) → IsOfKind kind d → item_of d < item + 1 → IsWithinCost m den s d
  one_of_kind kind item d here before of low =
      ⊎_elim (λ same. here d (of, same)) (λ apart. before d of (omega (arith, low, apart))) (cases_eq (item_of d) item)

  pub all_of_kind : (kind : Kind) (past : ℕ) (d : Column) → item_count m < past → ((e : Column) → IsOfKind kind e → item_of e < past → IsWithinCost m den s e) → IsOfKind kind d → IsWithinCost m den s d
  all_of_kind kind past d end before of has = let cell = column_cell m d has in before d of (omega (arith, end, cell.1)) has

  pub first_of_kind : (kind : Kind) (item : ℕ) (c : Column) → IsFirstLarge m den s (IsOfItem kind item) c → ((e : Column) → IsOfKind kind e → item_of e < item → IsWithinCost m den s e) → IsFirstLarge m den s (IsOfKind kind) c
  first_of_kind kind item c first before = record {
    among = first.among.0;
    item_small = first.item_small;
    period_small = first.period_small;
    large = first.large;
    before = λ d of less.
        let k = first.among.0 in
        let i = first.among.1 in
        ⊎_elim
        (λ same. first.before d (of, same) less)
        (λ apart. ⊎_elim
        (λ lower. before d of lower)
        (λ higher. absurd (omega (arith, less, higher, order_is c, order_is d, k, i, of, first.period_small)))
        apart)
        (cases_order (item_of d) item);
  }

  -- ---- kinds
  -- no sum of a column of the kind is too large
  abbrev pub AreWithin : Kind → Type 0
  AreWithin kind = (d : Column) → IsOfKind kind d → IsWithinCost m den s d

  pub before_x : (d : Column) → kind_of d < place_of kinds.X → IsWithinCost m den s d
  before_x d low = absurd (omega (arith, low))

  pub before_y : AreWithin kinds.X → (d : Column) → kind_of d < place_of kinds.Y → IsWithinCost m den s d
  before_y in_x (X i t) low = in_x (X i t) refl
  before_y in_x (Y i t) low = absurd (omega (arith, low))
  before_y in_x (S i t) low = absurd (omega (arith, low))
  before_y in_x (R i t) low = absurd (omega (arith, low))

  pub before_s : AreWithin kinds.X → AreWithin kinds.Y → (d : Column) → kind_of d < place_of kinds.S → IsWithinCost m den s d
  before_s in_x in_y (X i t) low = in_x (X i t) refl
  before_s in_x in_y (Y i t) low = in_y (Y i t) refl
  before_s in_x in_y (S i t) low = absurd (omega (arith, low))
  before_s in_x in_y (R i t) low = absurd (omega (arith, low))

  pub before_r : AreWithin kinds.X → AreWithin kinds.Y → AreWithin kinds.S → (d : Column) → kind_of d < place_of kinds.R → IsWithinCost m den s d
  before_r in_x in_y in_s (X i t) low = in_x (X i t) refl
  before_r in_x in_y in_s (Y i t) low = in_y (Y i t) refl
  before_r in_x in_y in_s (S i t) low = in_s (S i t) refl
  before_r in_x in_y in_s (R i t) low = absurd (omega (arith, low))

  pub all_kinds : AreWithin kinds.X → AreWithin kinds.Y → AreWithin kinds.S → AreWithin kinds.R → (d : Column) → IsWithinCost m den s d
  all_kinds in_x in_y in_s in_r (X i t) = in_x (X i t) refl
  all_kinds in_x in_y in_s in_r (Y i t) = in_y (Y i t) refl
  all_kinds in_x in_y in_s in_r (S i t) = in_s (S i t) refl
  all_kinds in_x in_y in_s in_r (R i t) = in_r (R i t) refl

  pub first_of_all : (kind : Kind) (c : Column) → IsFirstLarge m den s (IsOfKind kind) c → ((e : Column) → kind_of e < place_of kind → IsWithinCost m den s e) → IsFirstLarge m den s IsAny c
  first_of_all kind c first before = record {
    among = tt;
    item_small = first.item_small;
    period_small = first.period_small;
    large = first.large;
    before = λ d _ less.
        let k = first.among in
        ⊎_elim
        (λ same. first.before d same less)
        (λ apart. ⊎_elim
        (λ lower. before d lower)
        (λ higher. absurd (omega (arith, less, higher, order_is c, order_is d, k, first.item_small, first.period_small)))
        apart)
        (cases_order (kind_of d) (place_of kind));
  }

  -- the same of what was found, if anything was
  pub first_found : (kind : Kind) (found : Option Column) → IfSome found (IsFirstLarge m den s (IsOfKind kind)) → ((e : Column) → kind_of e < place_of kind → IsWithinCost m den s e) → IfSome found (IsFirstLarge m den s IsAny)
  first_found kind None first before = tt
  first_found kind (Some c) first before = first_of_all kind c first before
