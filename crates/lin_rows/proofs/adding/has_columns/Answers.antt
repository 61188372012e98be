use Rattle.std.proofs.Common.{refl, subst}
use Rattle.std.proofs.lemmas.List.{take_all}
use Rattle.lin_rows.specs.Sums.{AreWithin, IsColumnWithin}
use Rattle.lin_rows.proofs.Coefficients.{all_more}
use Rattle.lin_rows.proofs.adding.has_columns.Goals as goal

pub loop-place-preserved : goal.loop-place-preserved
loop-place-preserved c =
    let s = c.args.sums.now in
    all_more (λ a. IsColumnWithin s.items s.periods a.column) c.args.terms.now c.loop-place.place c.loop-place-test.true c.loop-place.invariant (c.if-not-has_column.ensures.0 refl)

pub returns : goal.returns
returns c =
    let each = subst (AreWithin c.args.sums.now) (take_all c.loop-place.place c.args.terms.now c.loop-place-test.false) c.loop-place.invariant in
    (λ _. each, λ _. refl)
