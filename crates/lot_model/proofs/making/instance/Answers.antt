use Rattle.std.proofs.Common.{◌≡◌, ◌∙◌, subst, sym, None}
use Rattle.lot_sizing.specs.Problem.{entry}
use Rattle.lot_draft.specs.Raw.{raw_model}
use Rattle.lot_draft.specs.Refusals.{plain_fault}
use Rattle.lot_draft.specs.Meaning.{problem_of}
use Rattle.lot_model.specs.Views.{AreKept, IsInstance}
use Rattle.lot_model.proofs.Validity.{valid}
use Rattle.lot_model.proofs.making.instance.Goals as goal

pub invariant_of-result : goal.invariant_of-result
invariant_of-result c =
    let m = raw_model c.args.draft.now in
    let q = problem_of m in
    let plain : plain_fault m ≡ None = sym c.plain_fault.ensures.value ∙ c.in_default.is in
    let v = valid m plain c.in-Ok.ensures.later in
    let ranks = c.in-Ok.ensures.found.ranks in
    let totals = c.in-Ok.ensures.found.totals in
    let instance : IsInstance q = record {
      limits = c.in-Ok.ensures.limits;
      lines = c.in-Ok.ensures.lines;
      ranked = (entry c.in-Ok.field-0.ranks.items, ranks.ranks);
      totals = (entry c.in-Ok.field-0.totals.totals, totals.totals, totals.small);
      within = totals.bounded;
      names = v.names;
      resource_names = v.resource_names;
      needs_once = v.needs_once;
      uses_once = v.uses_once;
      no_backlogs = v.no_backlogs;
    } in
    subst (λ p. AreKept p c.in-Ok.field-0.totals.totals c.in-Ok.field-0.totals.weights c.in-Ok.field-0.ranks.items) (sym c.in_ok-parts.ensures) (record {
      instance = instance;
      totals_size = totals.totals_size;
      weights_size = totals.weights_size;
      row_sizes = totals.row_sizes;
      rows_small = totals.rows_small;
      all = totals.all;
      totals = totals.totals;
      small = totals.small;
      ranks_size = ranks.size;
      ranks_small = ranks.small;
      ranks = ranks.ranks;
    })

pub returns-in-Ok : goal.returns-in-Ok
returns-in-Ok c =
    let m = raw_model c.args.draft.now in (
      c.in_ok-parts.ensures,
      record {
        plain = sym c.plain_fault.ensures.value ∙ c.in_default.is;
        ranked = (entry c.in-Ok.field-0.ranks.items, c.in-Ok.ensures.found.ranks.ranks);
        later = c.in-Ok.ensures.later;
        bounded = c.in-Ok.ensures.found.totals.bounded;
      },
    )
