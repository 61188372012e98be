use Rattle.std.proofs.Common.{◌≡◌, ◌∙◌, ℕ, refl, ap, Err}
use Rattle.lin_rows.specs.Rows.{whole_point}
use Rattle.lin_rows.specs.Columns.{value_in}
use Rattle.cert_meaning.specs.Parts.{times_of}
use Rattle.cert_checker.specs.Cuts.{AreRowsOf}
use Rattle.cert_meaning.proofs.Rows.{rounded_columns}
use Rattle.cert_checker.proofs.CutParts.{are_signed, are_small, have_names, not_small, rounded_is, same_length}
use Rattle.cert_checker.proofs.cut_rounding.rounded.Goals as goal

pub rows_of-requires-clause-named : goal.rows_of-requires-clause-named
rows_of-requires-clause-named c = have_names c.args.instance.now (λ (_ : ℕ). 0) c.args.earlier.now c.args.parts.now (c.requires.parts (λ _. 0))

pub returns-in-Ok-clause-row : goal.returns-in-Ok-clause-row
returns-in-Ok-clause-row c = λ total weight totals weights.
    let rows = c.deref.result.now in
    let times = c.deref-2.result.now in
    let are : AreRowsOf c.args.instance.now c.args.earlier.now c.args.parts.now rows = rw c.deref.ensures.value c.in_ok-rows.ensures.rows in
    let times_are : times ≡ times_of c.args.parts.now = c.deref-2.ensures.value ∙ c.in_ok-times.ensures in
    rounded_is c.args.instance.now total totals c.args.earlier.now c.args.parts.now (c.requires.parts total) rows times are times_are c.args.divisor c.in-Ok.row weight c.requires.least c.requires.most c.in-Ok.ensures.rounded

pub returns-in-Ok-clause-small : goal.returns-in-Ok-clause-small
returns-in-Ok-clause-small c = λ total totals.
    let rows = c.deref.result.now in
    let times = c.deref-2.result.now in
    let are : AreRowsOf c.args.instance.now c.args.earlier.now c.args.parts.now rows = rw c.deref.ensures.value c.in_ok-rows.ensures.rows in
    let times_are : times ≡ times_of c.args.parts.now = c.deref-2.ensures.value ∙ c.in_ok-times.ensures in
    are_small c.args.instance.now total totals c.args.earlier.now c.args.parts.now (c.requires.parts total) rows times are times_are c.in-Ok.ensures.room

pub returns-in-Ok-clause-holds : goal.returns-in-Ok-clause-holds
returns-in-Ok-clause-holds c = λ p f hold.
    let are : AreRowsOf c.args.instance.now c.args.earlier.now c.args.parts.now c.deref.result.now = rw c.deref.ensures.value c.in_ok-rows.ensures.rows in
    c.in-Ok.ensures.holds (whole_point (value_in p)) refl (are.hold p f hold)

pub returns-in-Ok-clause-columns_exist : goal.returns-in-Ok-clause-columns_exist
returns-in-Ok-clause-columns_exist c =
    let are : AreRowsOf c.args.instance.now c.args.earlier.now c.args.parts.now c.deref.result.now = rw c.deref.ensures.value c.in_ok-rows.ensures.rows in
    rounded_columns c.args.instance.now c.deref.result.now c.deref-2.result.now c.args.divisor c.in-Ok.row c.requires.least are.columns c.in-Ok.ensures.rounded

pub returns-in-Err-TooLarge-clause-fault : goal.returns-in-Err-TooLarge-clause-fault
returns-in-Err-TooLarge-clause-fault c = λ total weight totals weights.
    let rows = c.deref.result.now in
    let times = c.deref-2.result.now in
    let are : AreRowsOf c.args.instance.now c.args.earlier.now c.args.parts.now rows = rw c.deref.ensures.value c.in_ok-rows.ensures.rows in
    let times_are : times ≡ times_of c.args.parts.now = c.deref-2.ensures.value ∙ c.in_ok-times.ensures in
    let large = c.in-Err-TooLarge.ensures.large (ap Err c.in-Err-TooLarge.field-0-is) in
    (refl, c.requires.parts total, not_small c.args.instance.now total totals c.args.earlier.now c.args.parts.now (c.requires.parts total) rows times are times_are large.2)

pub unreachable-requires : goal.unreachable-requires
unreachable-requires c =
    let (total, totals, small) = c.requires.instance.totals in
    let rows = c.deref.result.now in
    let times = c.deref-2.result.now in
    let are : AreRowsOf c.args.instance.now c.args.earlier.now c.args.parts.now rows = rw c.deref.ensures.value c.in_ok-rows.ensures.rows in
    let times_are : times ≡ times_of c.args.parts.now = c.deref-2.ensures.value ∙ c.in_ok-times.ensures in
    c.in-Err-Length.ensures.length.0 (ap Err c.in-Err-Length.field-0-is) (same_length c.args.instance.now total totals c.args.earlier.now c.args.parts.now (c.requires.parts total) rows times are times_are)

pub unreachable-requires-in-Err-Sign : goal.unreachable-requires-in-Err-Sign
unreachable-requires-in-Err-Sign c =
    let (total, totals, small) = c.requires.instance.totals in
    let rows = c.deref.result.now in
    let times = c.deref-2.result.now in
    let are : AreRowsOf c.args.instance.now c.args.earlier.now c.args.parts.now rows = rw c.deref.ensures.value c.in_ok-rows.ensures.rows in
    let times_are : times ≡ times_of c.args.parts.now = c.deref-2.ensures.value ∙ c.in_ok-times.ensures in
    let sign = c.in-Err-Sign.ensures.sign.0 (ap Err c.in-Err-Sign.field-0-is) in
    sign.1 (are_signed c.args.instance.now total totals c.args.earlier.now c.args.parts.now (c.requires.parts total) rows times are times_are)
