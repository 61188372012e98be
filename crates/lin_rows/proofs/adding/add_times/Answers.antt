use Rattle.std.proofs.Common.{◌≡◌, ◌∙◌, inr, refl, rules, sym, ap, subst}
use Rattle.std.specs.Prelude.{◌*ℤ◌, ◌↔◌, IsTrue, true}
use mir.Facts.{to_z-of_z}
use mir.Val.{SFits, to_z, of_z}
use mir.Syntax.{w128}
use Rattle.lin_rows.specs.Sums.{AddsTerms, EachHasRoom, FitsAdded, LacksRoom, with_more}
use Rattle.lin_rows.proofs.Coefficients.{all_room, passes_by}
use Rattle.lin_rows.proofs.adding.add_times.Goals.{then-not-fits_added-via-then-not-fits_added, then-not-fits_added-via-else-not-fits_added+then-not-has_room_for_right}
use Rattle.lin_rows.proofs.adding.add_times.Goals as goal

pub returns-then-not-fits_added-clause-passed : goal.returns-then-not-fits_added-clause-passed
returns-then-not-fits_added-clause-passed c = λ _.
    let e : to_z w128 (of_z w128 c.args.times) ≡ c.args.times = to_z-of_z c.ranges.times in
    elim c.then-not-fits_added.branch [
      | then-not-fits_added-via-then-not-fits_added w ↦
          let lacks : LacksRoom c.args.sums.now c.terms-terms.result.now c.args.times = rw e at w.if-not-fits_added.ensures.none refl in
          passes_by c.args.sums.now c.args.row.now c.terms-terms.result.now c.args.times c.terms-terms.ensures.value c.terms-terms.ensures.rising lacks
      | then-not-fits_added-via-else-not-fits_added+then-not-has_room_for_right w ↦
          let fits : SFits w128 w.right.result = search rules in
          let value : IsTrue w.has_room_for_right.result ↔ FitsAdded c.args.sums.now.right (c.args.times *ℤ w.right.result) = rw (e, to_z-of_z fits) at w.has_room_for_right.ensures.value in
          inr (λ room. cc (sym w.if-not-has_room_for_right.true ∙ value.1 (subst (λ z. FitsAdded c.args.sums.now.right (c.args.times *ℤ z)) (sym w.right.ensures) room)))
    ]

pub returns-clause-added : goal.returns-clause-added
returns-clause-added c =
    let e : to_z w128 (of_z w128 c.args.times) ≡ c.args.times = to_z-of_z c.ranges.times in
    let fits : SFits w128 c.right-2.result = search rules in
    let adds : AddsTerms c.args.sums.now c.add_terms.new.sums c.terms-terms.result.now c.args.times = rw e at c.add_terms.ensures.adds in
    record {
      shape = (c.add_right.ensures.shape.0 ∙ c.add_terms.ensures.shape.0, c.add_right.ensures.shape.1 ∙ c.add_terms.ensures.shape.1);
      terms = λ d. c.add_right.ensures.columns d ∙ subst (λ ts. AddsTerms c.args.sums.now c.add_terms.new.sums ts c.args.times) c.terms-terms.ensures.value adds d;
      right = (rw (e, to_z-of_z fits) at c.add_right.ensures.right) ∙ ap (λ t. with_more t (c.args.times *ℤ c.right-2.result)) c.add_terms.ensures.right ∙ ap (λ z. with_more c.args.sums.now.right (c.args.times *ℤ z)) c.right-2.ensures;
    }

pub returns-clause-room : goal.returns-clause-room
returns-clause-room c =
    let e : to_z w128 (of_z w128 c.args.times) ≡ c.args.times = to_z-of_z c.ranges.times in
    let each : EachHasRoom c.args.sums.now c.terms-terms.result.now c.args.times = rw e at c.if-not-fits_added.ensures.all refl in
    let fits : SFits w128 c.right.result = search rules in
    let value : IsTrue true ↔ FitsAdded c.args.sums.now.right (c.args.times *ℤ c.right.result) = rw (e, to_z-of_z fits) at c.if-not-has_room_for_right.ensures.value in
    record {
      columns = all_room c.args.sums.now c.args.row.now.terms 0 c.args.times c.terms-terms.ensures.rising (subst (λ ts. EachHasRoom c.args.sums.now ts c.args.times) c.terms-terms.ensures.value each) c.if-not-has_room_for_right.ensures.small;
      right = subst (λ z. FitsAdded c.args.sums.now.right (c.args.times *ℤ z)) c.right.ensures (value.0 refl);
    }
