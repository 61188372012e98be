-- How costs, parts and programs are made, one after the other.
use Rattle.std.proofs.Common.{◌≡◌, ◌≤◌, ◌<◌, ◌+◌, ◌-◌, ◌∙◌, ⊎_elim, ℕ, zero, suc, sym, ap, subst, arith, Bool, List, [], ◌∷◌, ◌++◌, length, slice_index_or, take, append_assoc, append-nil}
use Rattle.std.specs.Prelude.{map, ℤ}
use Rattle.std.specs.List.{All}
use Rattle.std.proofs.lemmas.Bool.{cases_lt}
use Rattle.std.proofs.lemmas.List.{get_or_append_left, get_or_push, length_push, length-take-le, take_more}
use Rattle.std.proofs.lemmas.List.Elements.{All-same}
use Rattle.lot_sizing.specs.Problem.{IsWithinLimits, Problem}
use Rattle.lot_sizing.specs.Totals.{AreLargestTotals}
use Rattle.lin_rows.specs.declared.column.Column.{Column}
use Rattle.lin_rows.specs.declared.base.RowName.{RowName}
use Rattle.lin_rows.specs.Base.{HasRow, row_of}
use Rattle.lin_rows.specs.Columns.{IsColumnAt, column_cost, column_count, number_of}
use Rattle.lin_rows.specs.Rows.{LinRow}
use Rattle.lin_rows.proofs.Ranks.{among}
use Rattle.tableau.specs.declared.program.LpTerm.{LpTerm}
use Rattle.tableau.specs.Program.{AreRows, Inequality, IsProgram, IsRow, Program, column_count as width_of, row_count, with_row}
use Rattle.cert_meaning.specs.Named.{row_named}
use Rattle.cert_lines.specs.declared.parts.Part.{Part}
use Rattle.lp_relaxation.specs.declared.limits.TheConstants.{MAX_ROUND_SIZE}
use Rattle.lp_relaxation.specs.declared.program.Side.{Side}
use Rattle.lp_relaxation.specs.Costs.{AreCosts, AreFirstCosts, IsCostAt}
use Rattle.lp_relaxation.specs.Laws.{IsSized}
use Rattle.lp_relaxation.specs.Names.{base_names, round_names}
use Rattle.lp_relaxation.specs.Rounds.{IsRound, at_root}
use Rattle.lp_relaxation.specs.Sides.{all_sides, lp_term, part_of, parts_of, program_rows, sides_of, turn, turned_row}
use Rattle.lp_relaxation.proofs.Growing.{base_named, rows_append, rows_same, sides_append, sides_same}
use Rattle.lp_relaxation.proofs.Naming.{names_are}
use Rattle.lp_relaxation.proofs.Numbering.{one_number}

abbrev pub inequality_with : List LpTerm → ℤ → Inequality
inequality_with terms right = record { terms = terms; right = right }

abbrev pub program_with : List ℕ → List Inequality → Program
program_with costs rows = record { costs = costs; rows = rows }

-- ---- costs
pub cost_of : (m : Problem) (number cost : ℕ) (c : Column) → IsWithinLimits m → IsColumnAt m number c → cost ≡ column_cost m c → IsCostAt m number cost
cost_of m number cost c within (has, is) value d other same = value ∙ ap (column_cost m) (one_number m c d within has other (is ∙ sym same))

pub costs_more : (m : Problem) (n cost : ℕ) (costs new : List ℕ) → 1 ≤ n → AreFirstCosts m (n - 1) costs → IsCostAt m n cost → new ≡ costs ++ (cost ∷ []) → AreFirstCosts m (n + 1 - 1) new
costs_more m n cost costs new low first at more =
    subst (AreFirstCosts m (n + 1 - 1)) (sym more)
    (record {
      size = omega (arith, length_push costs cost, first.size, low);
      each = λ c has high.
          ⊎_elim
          (λ earlier.
          let number = among m c has in
          get_or_append_left costs (cost ∷ []) 0 (number_of m c - 1) (omega (arith, number.0, earlier, first.size)) ∙ first.each c has (omega (arith, earlier)))
          (λ last.
          let here : number_of m c ≡ n = omega (arith, last, high, low) in
          get_or_push costs cost 0 (number_of m c - 1) (omega (arith, first.size, here)) ∙ at c has here)
          (cases_lt (number_of m c) n);
    })

pub all_costs : (m : Problem) (n : ℕ) (costs : List ℕ) → n ≡ column_count m → AreFirstCosts m n costs → AreCosts m costs
all_costs m n costs is first = record {
  size = first.size ∙ is;
  each = λ c has. first.each c has (omega (arith, is, (among m c has).1));
}

-- ---- parts
parts_push : (sides : List Side) (s : Side) (z : ℕ → ℤ) → parts_of (sides ++ (s ∷ [])) z ≡ parts_of sides z ++ part_of s (z (length sides))
parts_push [] s z = append-nil (part_of s (z zero))
parts_push (a ∷ sides) s z =
    ap (λ ps. part_of a (z zero) ++ ps) (parts_push sides s (λ k. z (suc k)))
    ∙ sym (append_assoc (part_of a (z zero)) (parts_of sides (λ k. z (suc k))) (part_of s (z (suc (length sides)))))

pub parts_more : (sides : List Side) (z : ℕ → ℤ) (k : ℕ) (d : Side) (times : ℤ) (old new : List Part) → k < length sides → times ≡ z k → old ≡ parts_of (take k sides) z → new ≡ old ++ part_of (slice_index_or sides k d) times → new ≡ parts_of (take (k + 1) sides) z
parts_more sides z k d times old new less read before more =
    let one = slice_index_or sides k d in
    let long : length (take k sides) ≡ k = length-take-le k sides (omega (arith, less)) in
    more ∙ ap (λ ps. ps ++ part_of one times) before ∙ ap (λ t. parts_of (take k sides) z ++ part_of one t) (read ∙ ap z (sym long))
    ∙ sym (ap (λ list. parts_of list z) (take_more sides k d less) ∙ parts_push (take k sides) one z)

-- ---- rows
pub rows_push : (n : ℕ) (rows : List Inequality) (r : Inequality) → AreRows n rows → IsRow n r → AreRows n (rows ++ (r ∷ []))
rows_push n [] r are is = (is, tt)
rows_push n (a ∷ rows) r are is = (are.0, rows_push n rows r are.1 is)

-- a program with one row more
pub pushed_fits : (p : Program) (r : Inequality) → IsProgram p → IsRow (width_of p) r → width_of p + row_count p ≤ MAX_ROUND_SIZE → IsProgram (with_row p r)
pushed_fits p r is fits few = record { few = omega (arith, few, length_push p.rows r); rows = rows_push (width_of p) p.rows r is.rows fits }

pub same_inequality : (m : Problem) (turned : Bool) (r : LinRow) (terms : List LpTerm) (right : ℤ) → terms ≡ map (lp_term m turned) r.terms → right ≡ turn turned r.right → inequality_with terms right ≡ turned_row m turned r
same_inequality m turned r terms right first second = ap (λ ts. inequality_with ts right) first ∙ ap (inequality_with (map (lp_term m turned) r.terms)) second

-- the sides of one name more
pub sides_more : (row : RowName → LinRow) (names : List RowName) (k : ℕ) (d : RowName) (r : LinRow) (old new : List Side) → k < length names → r ≡ row (slice_index_or names k d) → old ≡ all_sides row (take k names) → new ≡ old ++ sides_of (slice_index_or names k d) r.equal → new ≡ all_sides row (take (k + 1) names)
sides_more row names k d r old new less is before more =
    let name = slice_index_or names k d in
    more ∙ ap (λ ss. ss ++ sides_of name r.equal) before ∙ ap (λ s. all_sides row (take k names) ++ sides_of name s.equal) is
    ∙ sym (ap (all_sides row) (take_more names k d less) ∙ sides_append row (take k names) name)

pub rows_more : (m : Problem) (row : RowName → LinRow) (names : List RowName) (k : ℕ) (d : RowName) (r : LinRow) (old new : List Inequality) → k < length names → r ≡ row (slice_index_or names k d) → old ≡ program_rows m row (all_sides row (take k names)) → new ≡ old ++ map (λ s. turned_row m s.turned r) (sides_of (slice_index_or names k d) r.equal) → new ≡ program_rows m row (all_sides row (take (k + 1) names))
rows_more m row names k d r old new less is before more =
    let name = slice_index_or names k d in
    more ∙ ap (λ rs. rs ++ map (λ s. turned_row m s.turned r) (sides_of name r.equal)) before
    ∙ ap (λ q. program_rows m row (all_sides row (take k names)) ++ map (λ s. turned_row m s.turned q) (sides_of name q.equal)) is
    ∙ sym (ap (λ ns. program_rows m row (all_sides row ns)) (take_more names k d less) ∙ rows_append m row (take k names) name)

-- ---- the first round
-- the rows of names that the rules make are those of the round's names
pub base_round : (m : Problem) (total : ℕ → ℕ) (names : List RowName) (list : List Side) (p : Program) → names ≡ base_names m → AreCosts m p.costs → list ≡ all_sides (row_of m total) names → p.rows ≡ program_rows m (row_of m total) (all_sides (row_of m total) names) → IsRound m total [] p list
base_round m total names list p is costs sides rows = record {
  program = record {
    costs_are = costs;
    rows_are = rows ∙ rows_same m (row_of m total) named names agree ∙ ap (λ ns. program_rows m named (all_sides named ns)) all;
  };
  sides_are = sides ∙ sides_same (row_of m total) named names agree ∙ ap (all_sides named) all;
}
  where
    named : RowName → LinRow
    named = row_named (at_root m total [])

    all : names ≡ round_names m 0
    all = is ∙ sym (append-nil (base_names m))

    agree : All (λ name. row_of m total name ≡ named name) names
    agree k d less = sym (base_named m total [] (slice_index_or names k d) (All-same (HasRow m) names (base_names m) is (names_are m).each k d less))

pub first_round : (m : Problem) (names : List RowName) (costs : List ℕ) (list : List Side) (rows : List Inequality) → names ≡ base_names m → AreCosts m costs → ((total : ℕ → ℕ) → AreLargestTotals m total → list ≡ all_sides (row_of m total) names) → ((total : ℕ → ℕ) → AreLargestTotals m total → rows ≡ program_rows m (row_of m total) (all_sides (row_of m total) names)) → (total : ℕ → ℕ) → AreLargestTotals m total → IsRound m total [] (program_with costs rows) list
first_round m names costs list rows is are sides inequalities total totals = base_round m total names list (program_with costs rows) is are (sides total totals) (inequalities total totals)

pub base_fits : (m : Problem) (total : ℕ → ℕ) (p : Program) (list : List Side) → IsRound m total [] p list → IsSized p list → AreRows (column_count m) p.rows → IsProgram p
base_fits m total p list is sized rows = record {
  few = omega (arith, sized.few);
  rows = subst (λ n. AreRows n p.rows) (sym is.program.costs_are.size) rows;
}
