use Rattle.std.proofs.Common.{◌≡◌, ◌^◌, ◌*◌, ◌≤◌, ◌∙◌, ℕ, rules, sym, subst, arith}
use Rattle.std.specs.Prelude.{unsigned_abs}
use Rattle.std.specs.List.{All}
use Rattle.std.proofs.lemmas.List.Elements.{All-filter}
use mir.Facts.{to_z-of_z}
use mir.Val.{SFits}
use mir.Syntax.{w128}
use Rattle.lot_sizing.specs.declared.limits.TheConstants.{MAX_END_STOCK, MAX_TOTAL}
use Rattle.lot_sizing.specs.Problem.{item_count}
use Rattle.lin_rows.specs.Columns.{IsColumn}
use Rattle.lin_rows.specs.Rows.{AreTerms, HoldsIn}
use Rattle.lin_rows.specs.Base.{HasRow, all_terms, is_equality, is_some_term, right_side, some_terms}
use Rattle.lin_rows.proofs.Terms.{are_terms, same_row}
use Rattle.lin_rows.proofs.Columns.{base_exists, base_rise}
use Rattle.lin_rows.proofs.Holding.{row_holds}
use Rattle.lin_rows.proofs.Same.{one_row}
use Rattle.lin_rows.proofs.Small.{base_small, right_small}
use Rattle.lin_rows.proofs.base.base_row.Goals as goal

pub new-requires : goal.new-requires
new-requires c =
    let m = c.args.instance.now in
    let has : HasRow m c.args.name = search rules in
    let (total, totals, terms) = c.in_ok-terms.ensures.terms in
    record { terms = subst (AreTerms 0) (sym terms) (are_terms (all_terms m total c.args.name) 0 (4 * 2 ^ 64) (base_rise m total c.args.name c.in_ok-terms.ensures.instance.limits has)) }

pub returns-clause-holds : goal.returns-clause-holds
returns-clause-holds c p f =
    let m = c.args.instance.now in
    let name = c.args.name in
    let has : HasRow m name = search rules in
    let (total, totals, terms) = c.in_ok-terms.ensures.terms in
    let (rank, ranks) = c.in_ok-terms.ensures.instance.ranked in
    let some = c.in_ok-terms.ensures.instance.limits.some_period in
    let fits : SFits w128 c.right_of.result = search rules in
    let right : c.new.result.right ≡ right_side m name = simp (to_z-of_z fits) at c.new.ensures.right ∙ c.right_of.ensures in
    let same = same_row c.new.result (some_terms (all_terms m total name)) (right_side m name) (is_equality name) (c.new.ensures.terms ∙ terms) right (c.new.ensures.equal ∙ c.is_equality.ensures) in
    subst (HoldsIn p) (sym same) (row_holds m p total name f some (c.totals_are_bounded.ensures m rank total some ranks totals p f) has)

pub returns-clause-columns_exist : goal.returns-clause-columns_exist
returns-clause-columns_exist c =
    let m = c.args.instance.now in
    let has : HasRow m c.args.name = search rules in
    let (total, totals, terms) = c.in_ok-terms.ensures.terms in
    subst (All (λ a. IsColumn m a.column)) (sym (c.new.ensures.terms ∙ terms))
    (All-filter (λ a. is_some_term a.times) (λ a. IsColumn m a.column) (all_terms m total c.args.name) (base_exists m total c.args.name c.in_ok-terms.ensures.instance.limits.some_period has))

pub returns-clause-small : goal.returns-clause-small
returns-clause-small c =
    let m = c.args.instance.now in
    let name = c.args.name in
    let has : HasRow m name = search rules in
    let is = c.in_ok-terms.ensures.instance in
    let (total, totals, terms) = c.in_ok-terms.ensures.terms in
    let (rank, ranks) = is.ranked in
    let (other, others, others_small) = is.totals in
    let small : (i : ℕ) → 1 ≤ i → i ≤ item_count m → total i ≤ MAX_TOTAL = λ i low high. omega (arith, c.totals_are_one.ensures m rank total other ranks totals others i low high, others_small i) in
    let fits : SFits w128 c.right_of.result = search rules in
    let right : c.new.result.right ≡ right_side m name = simp (to_z-of_z fits) at c.new.ensures.right ∙ c.right_of.ensures in
    record {
      times = subst (All (λ a. unsigned_abs a.times ≤ MAX_TOTAL)) (sym (c.new.ensures.terms ∙ terms))
          (All-filter (λ a. is_some_term a.times) (λ a. unsigned_abs a.times ≤ MAX_TOTAL) (all_terms m total name) (base_small m total name is.limits small has));
      right = subst (λ z. unsigned_abs z ≤ MAX_END_STOCK) (sym right) (right_small m name is.limits has);
    }

pub returns-clause-one : goal.returns-clause-one
returns-clause-one c other others =
    let m = c.args.instance.now in
    let name = c.args.name in
    let has : HasRow m name = search rules in
    let (total, totals, terms) = c.in_ok-terms.ensures.terms in
    let (rank, ranks) = c.in_ok-terms.ensures.instance.ranked in
    let fits : SFits w128 c.right_of.result = search rules in
    let right : c.new.result.right ≡ right_side m name = simp (to_z-of_z fits) at c.new.ensures.right ∙ c.right_of.ensures in
    same_row c.new.result (some_terms (all_terms m total name)) (right_side m name) (is_equality name) (c.new.ensures.terms ∙ terms) right (c.new.ensures.equal ∙ c.is_equality.ensures)
    ∙ one_row m total other name (c.totals_are_one.ensures m rank total other ranks totals others) has
