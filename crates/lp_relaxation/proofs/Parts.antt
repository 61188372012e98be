-- The parts of a leaf.
use Rattle.std.proofs.Common.{◌≡◌, ◌<◌, ◌∙◌, ◌⊎◌, ⊎_elim, inl, inr, ℕ, zero, suc, refl, sym, ap, arith, Bool, true, false, List, [], ◌∷◌, ◌++◌, length}
use Rattle.std.specs.Prelude.{ℤ, pos, negsuc, ◌+ℤ◌, ◌*ℤ◌, ◌≤ℤ◌}
use Rattle.std.specs.List.{All}
use Rattle.std.proofs.lemmas.List.Elements.{All-cons, All-head, All-nil, All-tail}
use Rattle.algebra.proofs.Integers.{zero_add, zero_mul}
use Rattle.lin_rows.specs.declared.base.RowName.{RowName}
use Rattle.lin_rows.specs.Base.{is_some_term}
use Rattle.lin_rows.specs.Combining.{sum_of}
use Rattle.lin_rows.specs.Rows.{LinRow}
use Rattle.cert_meaning.specs.Named.{IsNamed, Named, row_named}
use Rattle.cert_meaning.specs.Parts.{AreParts, IsPart, rows_of, times_of}
use Rattle.lp_relaxation.specs.declared.program.Side.{Side}
use Rattle.lp_relaxation.specs.Sides.{all_sides, parts_of, side_rows, side_times, sides_of, turn}
use Rattle.lp_relaxation.proofs.Numbering.{turn_zero}
use Rattle.lp_relaxation.proofs.Combining.{EachSide, IsRight, turn_sign}

none_or_some : (z : ℤ) → (is_some_term z ≡ true) ⊎ ((is_some_term z ≡ false) × (z ≡ pos 0))
none_or_some (pos zero) = inr (refl, refl)
none_or_some (pos (suc n)) = inl refl
none_or_some (negsuc n) = inl refl

module _ (n : Named) where
  -- sides that are taken 0 times add nothing
  pub parts_add : (sides : List Side) (z : ℕ → ℤ) (f : LinRow → ℤ) → sum_of (rows_of n (parts_of sides z)) (times_of (parts_of sides z)) f ≡ sum_of (side_rows (row_named n) sides) (side_times sides z) f
  parts_add [] z f = refl
  parts_add (s ∷ sides) z f =
      let rest = parts_add sides (λ k. z (suc k)) f in
      ⊎_elim
      (λ some. rw some (ap (λ y. turn s.turned (z zero) *ℤ f (row_named n s.name) +ℤ y) rest))
      (λ none. rw none.0 (rest ∙ sym (zero_add _) ∙ ap (λ y. y +ℤ sum_of (side_rows (row_named n) sides) (side_times sides (λ k. z (suc k))) f) (sym (ap (λ y. turn s.turned y *ℤ f (row_named n s.name)) none.1 ∙ ap (λ y. y *ℤ f (row_named n s.name)) (turn_zero s.turned) ∙ zero_mul (f (row_named n s.name))))))
      (none_or_some (z zero))

  -- what holds of a side
  abbrev IsSide : Side → Type 0
  IsSide s = IsNamed n s.name × IsRight (row_named n) s

  each_part : (sides : List Side) (z : ℕ → ℤ) → EachSide IsSide sides → ((k : ℕ) → k < length sides → pos 0 ≤ℤ z k) → AreParts n (parts_of sides z)
  each_part [] z each low = All-nil (IsPart n)
  each_part (s ∷ sides) z each low =
      let rest = each_part sides (λ k. z (suc k)) each.1 (λ k less. low (suc k) (omega (arith, less))) in
      let here : IsPart n (record { row = s.name; times = turn s.turned (z zero) }) = record { named = each.0.0; signed = λ apart. turn_sign s.turned (z zero) (each.0.1 apart) (low zero (omega arith)) } in
      ⊎_elim
      (λ some. rw some (All-cons (IsPart n) (record { row = s.name; times = turn s.turned (z zero) }) (parts_of sides (λ k. z (suc k))) here rest))
      (λ none. rw none.0 rest)
      (none_or_some (z zero))

  named_sides : (name : RowName) (e : Bool) (rest : List Side) → (row_named n name).equal ≡ e → IsNamed n name → EachSide IsSide rest → EachSide IsSide (sides_of name e ++ rest)
  named_sides name true rest is has each = ((has, λ _. refl), ((has, λ apart. cc (sym is ∙ apart)), each))
  named_sides name false rest is has each = ((has, λ _. refl), each)

  each_named : (list : List RowName) → All (IsNamed n) list → EachSide IsSide (all_sides (row_named n) list)
  each_named [] named = tt
  each_named (name ∷ list) named = named_sides name (row_named n name).equal (all_sides (row_named n) list) refl (All-head (IsNamed n) name list named) (each_named list (All-tail (IsNamed n) name list named))

  pub parts_are : (list : List RowName) (z : ℕ → ℤ) → All (IsNamed n) list → ((k : ℕ) → k < length (all_sides (row_named n) list) → pos 0 ≤ℤ z k) → AreParts n (parts_of (all_sides (row_named n) list) z)
  parts_are list z named low = each_part (all_sides (row_named n) list) z (each_named list named) low
