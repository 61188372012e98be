use Rattle.std.proofs.Common.{◌≡◌, ◌∙◌, refl, rules, sym, ap, subst}
use Rattle.std.specs.Prelude.{pos}
use mir.Facts.{to_z-of_z}
use mir.Val.{SFits}
use mir.Syntax.{w128}
use Rattle.lin_rows.specs.Combining.{AreSigned}
use Rattle.round_cuts.specs.Merging.{ceiling, rounded_terms}
use Rattle.round_cuts.specs.Rounding.{HasShortColumns, IsRounded}
use Rattle.round_cuts.proofs.Ceilings.{are_rounded_terms, is_rounded, rounded_holds}
use Rattle.round_cuts.proofs.Unique.{one_rounded}
use Rattle.round_cuts.proofs.rounding.round_row.Goals as goal

pub new-requires : goal.new-requires
new-requires c = record { terms = are_rounded_terms c.args.rows.now c.args.multipliers.now c.args.divisor c.in_ok-terms.terms.items c.deref.result.now c.in_ok-terms-2.terms.items c.in_ok-terms.ensures.sums c.deref.ensures.value c.in_ok-terms-2.ensures.terms }

-- the row that is made
row_is : (c : goal.After-drop-terms-2) → IsRounded c.args.rows.now c.args.multipliers.now c.args.divisor c.new.result
row_is c =
    let right_fits : SFits w128 c.in-Some.right.sum = search rules in
    let ceiling_fits : SFits w128 c.ceiling.result = search rules in
    let terms : c.new.result.terms ≡ rounded_terms (pos c.args.divisor) c.in_ok-terms.terms.items = c.new.ensures.terms ∙ c.in_ok-terms-2.ensures.terms ∙ ap (rounded_terms (pos c.args.divisor)) c.deref.ensures.value in
    let right : c.new.result.right ≡ ceiling (pos c.args.divisor) c.in-Some.right.sum = simp (to_z-of_z ceiling_fits) at c.new.ensures.right ∙ simp (to_z-of_z right_fits) at c.ceiling.ensures in
    is_rounded c.args.rows.now c.args.multipliers.now c.args.divisor c.in_ok-terms.terms.items c.in-Some.right.sum c.new.result c.requires.least c.in_ok-terms.ensures.sums c.in-Some.ensures.sum terms right c.new.ensures.equal

pub returns-clause-rounded : goal.returns-clause-rounded
returns-clause-rounded c = row_is c

pub returns-clause-one : goal.returns-clause-one
returns-clause-one c = λ other short is.
    let own : HasShortColumns c.new.result.terms = subst HasShortColumns (sym c.new.ensures.terms) c.in_ok-terms-2.ensures.short in
    one_rounded c.args.rows.now c.args.multipliers.now c.args.divisor c.new.result other c.requires.least own short (row_is c) is

pub returns-clause-holds : goal.returns-clause-holds
returns-clause-holds c = λ q one hold.
    let signed : AreSigned c.args.rows.now c.args.multipliers.now = c.if-not-are_signed.ensures.0 refl in
    rounded_holds c.sums_hold.ensures c.args.rows.now c.args.multipliers.now c.args.divisor c.new.result c.requires.least signed (row_is c) q one hold
