use Rattle.std.proofs.Common.{rules, ◌≡◌, ◌∙◌, false}
use Rattle.std.specs.Prelude.{pos}
use mir.Facts.{to_z-of_z}
use mir.Val.{SFits}
use mir.Syntax.{w128}
use Rattle.lin_rows.specs.Base.{some_terms}
use Rattle.lin_rows.proofs.Terms.{same_row}
use Rattle.echelon_rows.specs.Rows.{echelon_in}
use Rattle.facility_form.specs.PriceRow.{price_right, price_terms}
use Rattle.facility_form.proofs.price_rows.row_by.Goals as goal

pub returns : goal.returns
returns c =
    let E = echelon_in c.args.echelon.now in
    let p = c.args.prices.now in
    let total = price_right E.asked p.price.items p.hold.items in
    let fits : SFits w128 c.right_of-right.result = search rules in
    let right : c.new.result.right ≡ pos total = simp (to_z-of_z fits) at c.new.ensures.right ∙ c.right_of-right.ensures in
    same_row c.new.result (some_terms (price_terms E p.price.items p.unit.items p.hold.items p.back.items)) (pos total) false (c.new.ensures.terms ∙ c.in_ok-terms.ensures) right c.new.ensures.equal
