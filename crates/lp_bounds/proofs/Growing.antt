-- The program of the path is that of the root's first round with one row more for each bound.
use Rattle.std.proofs.Common.{◌≡◌, ◌+◌, ◌-◌, ◌∙◌, ℕ, suc, refl, sym, ap, subst, arith, false, List, [], ◌∷◌, ◌++◌, slice_index_or, append_assoc}
use Rattle.std.proofs.lemmas.List.{map-append}
use Rattle.lot_sizing.specs.Problem.{Problem}
use Rattle.lin_rows.specs.declared.base.RowName.{RowName}
use Rattle.lin_rows.specs.declared.base.RowName.TheVariants.{Path}
use Rattle.lin_rows.specs.declared.bound.Bound.{Bound}
use Rattle.lin_rows.specs.Bounds.{bound_row}
use Rattle.lin_rows.specs.Columns.{column_count}
use Rattle.lin_rows.specs.Rows.{LinRow}
use Rattle.tableau.specs.Program.{IsProgram, Program, column_count as width_of, with_row}
use Rattle.cert_trees.specs.Paths.{no_bound}
use Rattle.cert_meaning.specs.Named.{row_named}
use Rattle.lp_relaxation.specs.declared.program.Side.{Side}
use Rattle.lp_relaxation.specs.declared.rounds.RoundProgram.{RoundProgram}
use Rattle.lp_relaxation.specs.Names.{BaseNamesAre, base_names, names_to}
use Rattle.lp_relaxation.specs.Rounds.{IsFirstRound, IsRound, at_root}
use Rattle.lp_relaxation.specs.Sides.{all_sides, program_rows, side, side_inequality, sides_of, turned_row}
use Rattle.lp_relaxation.proofs.Growing.{rows_same, sides_same}
use Rattle.lp_bounds.specs.Path.{on_path, path_names}
use Rattle.lp_bounds.specs.Steps.{IsMadeOf, IsReadyTo}
use Rattle.lp_bounds.proofs.Naming.{base_named, each_name}

-- ---- sides and rows of names, one after the other
sides_join : (row : RowName → LinRow) (xs ys : List RowName) → all_sides row (xs ++ ys) ≡ all_sides row xs ++ all_sides row ys
sides_join row [] ys = refl
sides_join row (x ∷ xs) ys = ap (λ ss. sides_of x (row x).equal ++ ss) (sides_join row xs ys) ∙ sym (append_assoc (sides_of x (row x).equal) (all_sides row xs) (all_sides row ys))

module _ (m : Problem) (total : ℕ → ℕ) (path : List Bound) where
  abbrev here : RowName → LinRow
  here = row_named (on_path m total path)

  -- ---- the root's first round has no bound yet
  first : BaseNamesAre m → (p : Program) (list : List Side) → IsRound m total [] p list → IsMadeOf m total path 0 p list
  first names p list is =
      let root = row_named (at_root m total []) in
      let agree = each_name (λ name. root name ≡ here name) m 0 names (λ name has. base_named m total [] name has ∙ sym (base_named m total path name has)) (λ k low high. absurd (omega (arith, low, high))) in
      record {
        program = record {
          costs_are = is.program.costs_are;
          rows_are = is.program.rows_are ∙ rows_same m root here (path_names m 0) agree;
        };
        sides_are = is.sides_are ∙ sides_same root here (path_names m 0) agree;
      }

  -- ---- one bound more
  module _ (n : ℕ) (b : Bound) (is_next : b ≡ slice_index_or path n no_bound) where
    last_is : here (Path (suc n)) ≡ bound_row b
    last_is = ap (λ k. bound_row (slice_index_or path k no_bound)) place ∙ ap bound_row (sym is_next)
      where
        place : suc n - 1 ≡ n
        place = omega arith

    sides_more : all_sides here (path_names m (suc n)) ≡ all_sides here (path_names m n) ++ (side (Path (suc n)) false ∷ [])
    sides_more = ap (all_sides here) (sym (append_assoc (base_names m) (names_to n (λ k. Path k)) (Path (suc n) ∷ []))) ∙ sides_join here (path_names m n) (Path (suc n) ∷ [])

    rows_more : program_rows m here (all_sides here (path_names m (suc n))) ≡ program_rows m here (all_sides here (path_names m n)) ++ (turned_row m false (bound_row b) ∷ [])
    rows_more =
        ap (program_rows m here) sides_more ∙ map-append (side_inequality m here) (all_sides here (path_names m n)) (side (Path (suc n)) false ∷ [])
        ∙ ap (λ r. program_rows m here (all_sides here (path_names m n)) ++ (turned_row m false r ∷ [])) last_is

    more : (p : Program) (list : List Side) → IsMadeOf m total path n p list → IsMadeOf m total path (suc n) (with_row p (turned_row m false (bound_row b))) (list ++ (side (Path (suc n)) false ∷ []))
    more p list is = record {
      program = record {
        costs_are = is.program.costs_are;
        rows_are = ap (λ rs. rs ++ (turned_row m false (bound_row b) ∷ [])) is.program.rows_are ∙ sym rows_more;
      };
      sides_are = ap (λ ss. ss ++ (side (Path (suc n)) false ∷ [])) is.sides_are ∙ sym sides_more;
    }

pub ready_first : (m : Problem) (path : List Bound) (program : RoundProgram) → BaseNamesAre m → IsFirstRound m program.lp program.sides.items → IsProgram program.lp → width_of program.lp ≡ column_count m → IsReadyTo m path 0 program
ready_first m path program names round fits width = record {
  made = λ total totals. first m total path names program.lp program.sides.items (round total totals);
  fits = fits;
  width = width;
}

pub ready_more : (m : Problem) (path : List Bound) (n number : ℕ) (b : Bound) (old new : RoundProgram) → b ≡ slice_index_or path n no_bound → number ≡ n + 1 → IsReadyTo m path n old → new.lp ≡ with_row old.lp (turned_row m false (bound_row b)) → new.sides.items ≡ old.sides.items ++ (side (Path number) false ∷ []) → IsProgram new.lp → IsReadyTo m path (n + 1) new
ready_more m path n number b old new is_next is ready lp sides fits =
    let next : suc n ≡ n + 1 = omega arith in
    let all : number ≡ suc n = omega (arith, is) in
    subst (λ k. IsReadyTo m path k new) next (record {
      made = λ total totals.
          subst (λ p. IsMadeOf m total path (suc n) p new.sides.items) (sym lp)
          (subst (IsMadeOf m total path (suc n) (with_row old.lp (turned_row m false (bound_row b)))) (sym (sides ∙ ap (λ k. old.sides.items ++ (side (Path k) false ∷ [])) all))
          (more m total path n b is_next old.lp old.sides.items (ready.made total totals)));
      fits = fits;
      width = ap width_of lp ∙ ready.width;
    })
