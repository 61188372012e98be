use Rattle.std.proofs.Common.{rules, ◌≡◌, ◌∙◌, sym, subst, ap, arith, length, false}
use mir.Facts.{to_z-of_z}
use mir.Val.{SFits}
use mir.Syntax.{w128}
use Rattle.echelon.specs.Views.{asked_of_echelon, marked}
use Rattle.lin_rows.specs.Rows.{AreTerms, HoldsIn}
use Rattle.lin_rows.proofs.Terms.{same_row}
use Rattle.echelon_rows.specs.Rows.{echelon_in}
use Rattle.echelon_rows.specs.Plans.{AreColumnsOf}
use Rattle.ls_cuts.specs.Rows.{ls_right, ls_row}
use Rattle.ls_cuts.proofs.row.ls_row.Goals as goal

pub new-requires : goal.new-requires
new-requires c =
    let e = c.args.echelon.now in
    let chosen = c.args.chosen.now in
    let size : length chosen ≡ c.args.l = omega arith in
    let terms : c.in_ok-terms.terms.items ≡ (ls_row (echelon_in e) c.args.l (marked chosen)).terms = c.in_ok-terms.ensures ∙ ap (λ l. (ls_row (echelon_in e) l (marked chosen)).terms) size in
    record { terms = subst (AreTerms 0) (sym terms) (c.ls_rows_are_rows.ensures e c.requires.within c.args.l (marked chosen) (omega arith)).0 }

pub returns-clause-row : goal.returns-clause-row
returns-clause-row c =
    let e = c.args.echelon.now in
    let chosen = c.args.chosen.now in
    let size : length chosen ≡ c.args.l = omega arith in
    let row = ls_row (echelon_in e) c.args.l (marked chosen) in
    let terms : c.in_ok-terms.terms.items ≡ row.terms = c.in_ok-terms.ensures ∙ ap (λ l. (ls_row (echelon_in e) l (marked chosen)).terms) size in
    let fits : SFits w128 c.right_of.result = search rules in
    let right : c.new.result.right ≡ ls_right (asked_of_echelon e) c.args.l = simp (to_z-of_z fits) at c.new.ensures.right ∙ c.right_of.ensures in
    same_row c.new.result row.terms (ls_right (asked_of_echelon e) c.args.l) false (c.new.ensures.terms ∙ terms) right c.new.ensures.equal

pub returns-clause-holds : goal.returns-clause-holds
returns-clause-holds c m weight i of p plan = subst (HoldsIn p) (sym (returns-clause-row c)) (c.ls_rows_hold.ensures c.args.echelon.now m weight i of p plan c.args.l (marked c.args.chosen.now) (omega arith) (omega arith))

pub returns-clause-columns : goal.returns-clause-columns
returns-clause-columns c = subst (λ row. AreColumnsOf c.args.echelon.now row.terms) (sym (returns-clause-row c)) (c.ls_rows_are_rows.ensures c.args.echelon.now c.requires.within c.args.l (marked c.args.chosen.now) (omega arith)).1
