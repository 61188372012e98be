-- Multipliers of the program's rows are multipliers of the named rows.
use Rattle.std.proofs.Common.{◌≡◌, ◌<◌, ◌∙◌, ℕ, zero, suc, refl, sym, ap, subst, arith, Bool, true, false, List, [], ◌∷◌, ◌++◌, length, slice_index_or}
use Rattle.std.specs.Prelude.{map, ℤ, pos, ◌*ℤ◌, ◌≤ℤ◌, ⊤}
use Rattle.algebra.proofs.Integers.{mul_neg, neg_mul}
use Rattle.algebra.proofs.Sums.{sum-first}
use Rattle.rational.specs.Rational.{whole, ◌+ℚ◌, ◌*ℚ◌}
use Rattle.rational.proofs.Rationals.{rational_ring, whole-add, whole-mul}
use Rattle.lot_sizing.specs.Problem.{Problem}
use Rattle.lin_rows.specs.declared.base.RowName.{RowName}
use Rattle.lin_rows.specs.Rows.{LinRow}
use Rattle.tableau.specs.Program.{Inequality, empty_row, sum_ℚ}
use Rattle.lin_rows.specs.Combining.{AreSigned, sum_of}
use Rattle.lp_relaxation.specs.declared.program.Side.{Side}
use Rattle.lp_relaxation.specs.Sides.{all_sides, side_inequality, side_rows, side_times, sides_of, turn}

-- each of a list of sides
abbrev pub EachSide : (Side → Type 0) → List Side → Type 0
EachSide P [] = ⊤
EachSide P (s ∷ sides) = P s × EachSide P sides

turn_mid : (b : Bool) (z y : ℤ) → z *ℤ turn b y ≡ turn b z *ℤ y
turn_mid true z y = mul_neg z y ∙ sym (neg_mul z y)
turn_mid false z y = refl

module _ (m : Problem) (row : RowName → LinRow) (F : Inequality → ℤ) (G : LinRow → ℤ) where
  abbrev pub IsTurned : Side → Type 0
  IsTurned s = F (side_inequality m row s) ≡ turn s.turned (G (row s.name))

  -- the sum over the program's rows is that over the rows of the sides
  pub combined : (sides : List Side) (z : ℕ → ℤ) → EachSide IsTurned sides
      → sum_ℚ (length (map (side_inequality m row) sides)) (λ k. whole (z k) *ℚ whole (F (slice_index_or (map (side_inequality m row) sides) k empty_row))) ≡ whole (sum_of (side_rows row sides) (side_times sides z) G)
  combined [] z each = refl
  combined (s ∷ sides) z each =
      let rows = map (side_inequality m row) sides in
      let g = G (row s.name) in
      sum-first rational_ring (length rows) (λ k. whole (z k) *ℚ whole (F (slice_index_or (side_inequality m row s ∷ rows) k empty_row)))
      ∙ ap (λ y. whole (z zero) *ℚ whole (F (side_inequality m row s)) +ℚ y) (combined sides (λ k. z (suc k)) each.1)
      ∙ ap (λ y. y +ℚ whole (sum_of (side_rows row sides) (side_times sides (λ k. z (suc k))) G)) (sym (whole-mul (z zero) (F (side_inequality m row s))) ∙ ap whole (ap (λ y. z zero *ℤ y) each.0 ∙ turn_mid s.turned (z zero) g))
      ∙ sym (whole-add (turn s.turned (z zero) *ℤ g) (sum_of (side_rows row sides) (side_times sides (λ k. z (suc k))) G))

-- what holds of the sides of each row
pub each_side : (row : RowName → LinRow) (P : Side → Type 0) (names : List RowName) → ((name : RowName) (e : Bool) (rest : List Side) → (row name).equal ≡ e → EachSide P rest → EachSide P (sides_of name e ++ rest)) → EachSide P (all_sides row names)
each_side row P [] more = tt
each_side row P (name ∷ names) more = more name (row name).equal (all_sides row names) refl (each_side row P names more)

-- ---- signs
abbrev pub IsRight : (RowName → LinRow) → Side → Type 0
IsRight row s = (row s.name).equal ≡ false → s.turned ≡ false

right_sides : (row : RowName → LinRow) (name : RowName) (e : Bool) (rest : List Side) → (row name).equal ≡ e → EachSide (IsRight row) rest → EachSide (IsRight row) (sides_of name e ++ rest)
right_sides row name true rest is each = (λ _. refl, ((λ no. cc (sym is ∙ no)), each))
right_sides row name false rest is each = (λ _. refl, each)

pub turn_sign : (b : Bool) (z : ℤ) → b ≡ false → pos 0 ≤ℤ z → pos 0 ≤ℤ turn b z
turn_sign b z is low = subst (λ c. pos 0 ≤ℤ turn c z) (sym is) low

signed : (row : RowName → LinRow) (sides : List Side) (z : ℕ → ℤ) → EachSide (IsRight row) sides → ((k : ℕ) → k < length sides → pos 0 ≤ℤ z k) → AreSigned (side_rows row sides) (side_times sides z)
signed row [] z each low = tt
signed row (s ∷ sides) z each low = (λ no. turn_sign s.turned (z zero) (each.0 no) (low zero (omega arith)), signed row sides (λ k. z (suc k)) each.1 (λ k less. low (suc k) (omega (arith, less))))

pub sides_signed : (row : RowName → LinRow) (names : List RowName) (z : ℕ → ℤ) → ((k : ℕ) → k < length (all_sides row names) → pos 0 ≤ℤ z k) → AreSigned (side_rows row (all_sides row names)) (side_times (all_sides row names) z)
sides_signed row names z low = signed row (all_sides row names) z (each_side row (IsRight row) names (right_sides row)) low
