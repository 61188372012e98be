use Rattle.std.proofs.Common.{◌≡◌, ◌<◌, ◌-◌, ◌∙◌, sym, subst, arith, length, slice_index_or}
use Rattle.std.proofs.lemmas.List.{get_or_default}
use Rattle.lin_rows.specs.declared.base.RowName.TheVariants.{Cut}
use Rattle.cert_meaning.specs.Named.{HasName, no_row}
use Rattle.cert_checker.specs.Cuts.{IsRowNamed}
use Rattle.cert_checker.proofs.CutParts.{base_named, earlier_named, has_row}
use Rattle.cert_checker.proofs.cut_rounding.row_by.Goals as goal

pub returns-in_ok-copy_of-in-Cut-clause-row : goal.returns-in_ok-copy_of-in-Cut-clause-row
returns-in_ok-copy_of-in-Cut-clause-row c =
    let m = c.args.instance.now in
    let earlier = c.args.earlier.now in
    let k = c.in-Cut.number in
    let row = c.in_ok-copy_of-in-Cut.field-0 in
    let named : HasName m (length earlier) 0 (Cut k) = subst (HasName m (length earlier) 0) c.in-Cut.is c.requires.named in
    let less : k - 1 < length earlier = omega (arith, named.0, named.1) in
    let here : row ≡ slice_index_or earlier (k - 1) no_row = c.in_ok-copy_of-in-Cut.ensures ∙ c.index-earlier-number.is ∙ get_or_default earlier (k - 1) c.index-earlier-number.result no_row less in
    subst (λ name. IsRowNamed m earlier name row) (sym c.in-Cut.is) (earlier_named m earlier k row c.requires.earlier named here)

pub returns-in-Ok-clause-row : goal.returns-in-Ok-clause-row
returns-in-Ok-clause-row c =
    let is = c.in-Ok.ensures in
    base_named c.args.instance.now c.args.earlier.now c.args.name c.in-Ok.row is.some is.one is.holds is.columns_exist

pub unreachable-requires : goal.unreachable-requires
unreachable-requires c = c.in-Err-NoSuchRow.ensures.none c.in-Err-NoSuchRow.field-0-is (has_row c.args.instance.now (length c.args.earlier.now) c.args.name c.requires.named c.in_default.not-Cut)
