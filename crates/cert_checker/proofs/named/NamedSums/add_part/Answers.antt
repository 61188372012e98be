use Rattle.std.proofs.Common.{rules, ◌≡◌, ◌<◌, ◌-◌, ◌∙◌, ℕ, refl, sym, subst, arith, length}
use mir.Facts.{to_z-of_z}
use mir.Val.{SFits, of_z, to_z}
use mir.Syntax.{w128}
use Rattle.std.specs.List.{All}
use Rattle.std.proofs.lemmas.List.{get_or_default}
use Rattle.lin_rows.specs.Columns.{IsColumn}
use Rattle.lin_rows.specs.Rows.{LinRow}
use Rattle.lin_rows.specs.Base.{row_of}
use Rattle.cert_trees.specs.Ranges.{WithTotals}
use Rattle.cert_meaning.specs.Named.{HasName, names, no_row, row_named}
use Rattle.cert_checker.specs.Named.{AddsPart, AddsWithin}
use Rattle.cert_meaning.proofs.Rows.{columns_at}
use Rattle.cert_checker.proofs.Sums.{adds_same, base_named, if_ok, passes_same}
use Rattle.cert_checker.proofs.named.NamedSums.add_part.Goals as goal

pub add_row-requires-clause-columns : goal.add_row-requires-clause-columns
add_row-requires-clause-columns c =
    let m = c.args.instance.now in
    let cuts = c.args.cuts.now in
    let k = c.in-Cut.number - 1 in
    let named = subst (HasName m (length cuts) (length c.args.path.now)) c.in-Cut.is c.requires.name in
    let less : k < length cuts = omega (arith, named.0, named.1) in
    let P = λ (r : LinRow). All (λ a. IsColumn m a.column) r.terms in
    subst P (sym (c.index-cuts-number.is ∙ get_or_default cuts k c.index-cuts-number.result no_row less)) (columns_at m cuts k less c.requires.cuts)

pub returns-in_default : goal.returns-in_default
returns-in_default c =
    let m = c.args.instance.now in
    let cuts = c.args.cuts.now in
    let path = c.args.path.now in
    let part = c.args.part in
    let old = c.args.self.now.sums in
    let new = c.add_base.new.self.sums in
    let times = to_z w128 (of_z w128 part.times) in
    let fits : SFits w128 part.times = search rules in
    let same : times ≡ part.times = to_z-of_z fits in
    let named = λ (total : ℕ → ℕ). base_named m total cuts path part.row c.in_default.not-Path c.in_default.not-Cut in
    record {
      ready = c.add_base.ensures.ready;
      added = if_ok c.add_base.result (WithTotals m (λ total. AddsWithin old new (row_of m total part.row) times)) (WithTotals m (λ total. AddsPart old new part (names m total cuts path)))
          (λ added total totals. adds_same old new (row_of m total part.row) (row_named (names m total cuts path) part.row) times part.times (named total) same (added total totals)) c.add_base.ensures.added;
      passed = λ passed total totals. passes_same old old (row_of m total part.row) (row_named (names m total cuts path) part.row) times part.times refl (named total) same (c.add_base.ensures.passed passed total totals);
    }
