-- The worked certificate by cuts is accepted, by what acceptance means.
use Rattle.std.proofs.Common.{◌≡◌, ◌≤◌, ◌<◌, ◌+◌, ◌-◌, ◌^◌, ⊎_elim, ℕ, refl, subst, sym, arith, true, false, List, [], ◌∷◌}
use Rattle.std.specs.Prelude.{Some, pos, ◌≤ℤ◌, ◌*ℤ◌}
use Rattle.std.proofs.lemmas.List.Elements.{All-from_recursion}
use Rattle.algebra.proofs.Order.{linear}
use Rattle.lot_sizing.specs.Problem.{item_at}
use Rattle.lot_sizing.specs.Single.{ArePotentials, Single, block_cost, period_of, potential}
use Rattle.echelon.specs.Views.{marked}
use Rattle.lin_rows.specs.declared.base.RowName.TheVariants.{Balance, Link, Capacity, Cut}
use Rattle.lin_rows.specs.declared.column.Column.{Column}
use Rattle.lin_rows.specs.declared.column.Column.TheVariants.{Y}
use Rattle.lin_rows.specs.Base.{term}
use Rattle.lin_rows.specs.Columns.{IsColumn, column_cost}
use Rattle.lin_rows.specs.Combining.{AreOfProblem}
use Rattle.lin_rows.specs.Rows.{LinRow}
use Rattle.lin_rows.specs.Sums.{coefficient}
use Rattle.lin_rows.proofs.Terms.{all_one}
use Rattle.round_cuts.specs.Rounding.{IsCeiling, IsRounded, column_amount}
use Rattle.echelon_rows.specs.declared.limits.TheConstants.{MAX_PRICE, MAX_STEP}
use Rattle.echelon_rows.specs.Rows.{ArePriced, Echelon, priced}
use Rattle.ls_cuts.specs.Rows.{ls_row}
use Rattle.facility_form.specs.PriceRow.{price_row}
use Rattle.backlog_dp.specs.BlockRow.{block_row}
use Rattle.cert_lines.specs.Shapes.{LsCut}
use Rattle.cert_meaning.specs.declared.says.LeafSays.TheVariants.{AtLeast}
use Rattle.cert_meaning.specs.Named.{Named, names}
use Rattle.cert_meaning.specs.Parts.{AreParts, AreSmall, IsPart, rows_of, sum_of_column, times_of}
use Rattle.cert_meaning.specs.Says.{IsLinear}
use Rattle.cert_meaning.specs.CutRows.{AreCutRows, HasEchelon, IsBlockCut, IsLsCut, IsPriceCut, IsRoundCut, echelon_at}
use Rattle.cert_meaning.specs.Worked.{IsAcceptedHere, by_cuts, cuts, model, plan, rounded, total, weight, whole, zeros}
use Rattle.cert_meaning.proofs.Rows.{summed_or_none, taken_or_none}
use Rattle.cert_meaning.proofs.Cuts.{cut_columns, cuts_columns}
use Rattle.cert_meaning.proofs.Examples.{columns, goes, one, small_columns, taken, two}
use Rattle.cert_meaning.proofs.Leaves.{parts_columns}
use Rattle.cert_trees.specs.Ranges.{IsChoice, whole_ranges}
use Rattle.cert_meaning.specs.Accepts.{Fits, IsAccepted}
use Rattle.std.proofs.lemmas.List.Elements.{All-nil}

abbrev E : Echelon
E = echelon_at model weight 1

abbrev ones : List ℕ
ones = 1 ∷ (1 ∷ [])

abbrev tens : List ℕ
tens = 10 ∷ (10 ∷ [])

abbrev prices : List ℕ
prices = 5 ∷ (2 ∷ [])

abbrev steps : List ℕ
steps = 10 ∷ (18 ∷ [])

-- the rows of the cuts
abbrev first_row : LinRow
first_row = ls_row E 1 (marked (true ∷ []))

abbrev second_row : LinRow
second_row = record { terms = term (Y 1 2) (pos 1) ∷ []; right = pos 1; equal = false }

abbrev third_row : LinRow
third_row = price_row E prices zeros ones zeros

abbrev fourth_row : LinRow
fourth_row = block_row E tens zeros ones zeros steps

abbrev rows : List LinRow
rows = first_row ∷ (second_row ∷ (third_row ∷ (fourth_row ∷ [])))

has : HasEchelon model weight 1
has = record { low = omega arith; high = omega arith; lead_free = λ j low high goes. one (λ k. (item_at model k).lead ≡ 0) refl j low high }

first_is : IsLsCut model weight 1 1 (true ∷ [])
first_is = record { echelon = has; low = omega arith; high = omega arith; size = refl }

-- ---- the rounding row
abbrev at_second : Named
at_second = names model total (first_row ∷ []) []

second_parts : AreParts at_second rounded
second_parts = All-from_recursion (IsPart at_second) rounded ((taken at_second (Balance 1 1) 1 (omega arith, omega arith, omega arith, omega arith)), ((taken at_second (Balance 1 2) 1 (omega arith, omega arith, omega arith, omega arith)), ((taken at_second (Link 1 2) 1 (omega arith, omega arith, omega arith, omega arith)), ((taken at_second (Capacity 1 1) 1 (omega arith, omega arith, omega arith, omega arith)), tt))))

second_is : IsRoundCut at_second 10 rounded
second_is = record { low = omega arith; high = omega arith; parts_exist = second_parts }

first_of : AreOfProblem model (first_row ∷ [])
first_of = (cut_columns model total weight [] (LsCut 1 1 (true ∷ [])) first_row (omega arith) (first_is, refl) tt, tt)

-- how many times the sum takes a column, divided and rounded up
abbrev IsOne : Column → Type 0
IsOne c = IsCeiling 10 (sum_of_column at_second rounded c) (coefficient second_row.terms c)

own : (c : Column) → IsColumn model c → IsOne c
own = columns IsOne
    (record { above = omega (arith, linear); least = omega (arith, linear) })
    (record { above = omega (arith, linear); least = omega (arith, linear) })
    (record { above = omega (arith, linear); least = omega (arith, linear) })
    (record { above = omega (arith, linear); least = omega (arith, linear) })
    (record { above = omega (arith, linear); least = omega (arith, linear) })
    (record { above = omega (arith, linear); least = omega (arith, linear) })

each : (c : Column) → IsOne c
each c =
    ⊎_elim
    (λ is. own c is)
    (λ none. ⊎_elim
    (λ is. own c is)
    (λ lacks. subst (λ a. IsCeiling 10 a (coefficient second_row.terms c)) (sym none) (subst (IsCeiling 10 (pos 0)) (sym lacks) (record { above = omega (arith, linear); least = omega (arith, linear) })))
    (taken_or_none model second_row.terms c (all_one (λ a. IsColumn model a.column) (term (Y 1 2) (pos 1)) (omega arith, omega arith, omega arith, omega arith))))
    (summed_or_none model (rows_of at_second rounded) (times_of rounded) c (parts_columns at_second rounded (record { some = omega arith; cuts = first_of; path = All-nil (λ b. IsChoice model b.column) }) second_parts))

second_row_is : IsRounded (rows_of at_second rounded) (times_of rounded) 10 second_row
second_row_is = record {
  terms = (omega arith, λ none. cc none, tt);
  columns = each;
  right = record { above = omega (arith, linear); least = omega (arith, linear) };
  equal = refl;
}

-- ---- prices and potentials
none_large : ArePriced 2 zeros ones zeros
none_large = record {
  unit = record { size = refl; small = All-from_recursion (λ x. x ≤ MAX_PRICE) zeros (omega arith, (omega arith, tt)) };
  hold = record { size = refl; small = All-from_recursion (λ x. x ≤ MAX_PRICE) ones (omega arith, (omega arith, tt)) };
  back = record { size = refl; small = All-from_recursion (λ x. x ≤ MAX_PRICE) zeros (omega arith, (omega arith, tt)) };
}

third_is : IsPriceCut model weight 1 (record { price = prices; unit = zeros; hold = ones; back = zeros })
third_is = record {
  echelon = has;
  price = record { size = refl; small = All-from_recursion (λ x. x ≤ MAX_PRICE) prices (omega arith, (omega arith, tt)) };
  prices = none_large;
}

abbrev alone : Single
alone = priced E tens zeros ones zeros

-- the potentials rise over a block by no more than it costs
abbrev Rises : ℕ → ℕ → ℕ → Type 0
Rises f l u = f ≤ l → u ≤ period_of alone f → potential steps l ≤ potential steps (f - 1) + block_cost alone (record { first = f; last = l; server = u })

rise : (f l u : ℕ) → 1 ≤ f → f ≤ 2 → 1 ≤ l → l ≤ 2 → 1 ≤ u → u ≤ 2 → Rises f l u
rise f l u f_low f_high l_low l_high u_low u_high =
    two (λ k. Rises k l u)
    (two (λ k. Rises 1 k u)
    (two (Rises 1 1) (λ order time. omega (arith, order, time)) (λ order time. omega (arith, order, time)) u u_low u_high)
    (two (Rises 1 2) (λ order time. omega (arith, order, time)) (λ order time. omega (arith, order, time)) u u_low u_high)
    l l_low l_high)
    (two (λ k. Rises 2 k u)
    (two (Rises 2 1) (λ order time. omega (arith, order, time)) (λ order time. omega (arith, order, time)) u u_low u_high)
    (two (Rises 2 2) (λ order time. omega (arith, order, time)) (λ order time. omega (arith, order, time)) u u_low u_high)
    l l_low l_high)
    f f_low f_high

potentials : ArePotentials alone steps
potentials = record {
  size = refl;
  blocks = λ b is.
      rise b.first b.last b.server is.low (omega (arith, is.order, is.high)) (omega (arith, is.low, is.order)) is.high
      is.server.low is.server.high is.order (is.server.in_time refl);
}

fourth_is : IsBlockCut model weight 1 (record { setup = tens; unit = zeros; hold = ones; back = zeros; steps = steps })
fourth_is = record {
  echelon = has;
  setup = record { size = refl; small = All-from_recursion (λ x. x ≤ MAX_PRICE) tens (omega arith, (omega arith, tt)) };
  prices = none_large;
  steps = All-from_recursion (λ x. x ≤ MAX_STEP) steps (omega arith, (omega arith, tt));
  potentials = potentials;
}

rows_are : AreCutRows model total weight [] cuts rows
rows_are = ((first_is, refl), ((second_is, second_row_is), ((third_is, refl), ((fourth_is, refl), tt))))

-- ---- the leaf
abbrev at_root : Named
at_root = names model total rows []

whole_parts : AreParts at_root whole
whole_parts = All-from_recursion (IsPart at_root) whole ((taken at_root (Balance 1 2) 1 (omega arith, omega arith, omega arith, omega arith)), ((taken at_root (Capacity 1 2) 1 (omega arith, omega arith, omega arith, omega arith)), ((taken at_root (Cut 1) 5 (omega arith, omega arith)), ((taken at_root (Cut 2) 11 (omega arith, omega arith)), tt))))

whole_says : IsLinear at_root (pos 1) whole 23
whole_says = record {
  positive = omega (arith, linear);
  parts_exist = whole_parts;
  columns = columns (λ c. sum_of_column at_root whole c ≤ℤ (pos 1 *ℤ pos (column_cost model c))) (omega (arith, linear)) (omega (arith, linear)) (omega (arith, linear)) (omega (arith, linear)) (omega (arith, linear)) (omega (arith, linear));
  right = record { above = omega (arith, linear); least = λ k most. omega (arith, linear, most) };
}

cuts_accepted : IsAccepted model total weight (whole_ranges total) by_cuts (Some plan)
cuts_accepted = record {
  rows = rows;
  cuts = rows_are;
  tree = tt;
  leaves = (AtLeast 23, whole_says, omega arith);
  plan = goes;
}

-- ---- small sums
second_small : AreSmall at_second rounded
second_small = record {
  columns = small_columns (first_row ∷ []) [] rounded first_of (All-nil (λ d. IsChoice model d.column)) second_parts
      (columns (λ c. column_amount (rows_of at_second rounded) (times_of rounded) c < 2 ^ 127) (omega arith) (omega arith) (omega arith) (omega arith) (omega arith) (omega arith));
  right = omega arith;
}

whole_small : AreSmall at_root whole
whole_small = record {
  columns = small_columns rows [] whole (cuts_columns model total weight [] cuts rows (omega arith) rows_are tt) (All-nil (λ d. IsChoice model d.column)) whole_parts
      (columns (λ c. column_amount (rows_of at_root whole) (times_of whole) c < 2 ^ 127) (omega arith) (omega arith) (omega arith) (omega arith) (omega arith) (omega arith));
  right = omega arith;
}

cuts_fit : Fits model total rows by_cuts
cuts_fit = record { cuts = (tt, (second_small, (tt, (tt, tt)))); leaves = whole_small }

pub cuts_here : IsAcceptedHere by_cuts
unfolding cuts_accepted
cuts_here = (cuts_accepted, cuts_fit)
