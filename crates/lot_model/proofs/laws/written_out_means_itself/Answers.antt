use Rattle.std.proofs.Common.{sym, subst}
use Rattle.lot_model.specs.Meaning.{IsBounded, IsRanked}
use Rattle.lot_model.specs.Valid.{IsValid}
use Rattle.lot_model.proofs.Accepts.{later_passes, plain_passes, read_back}
use Rattle.lot_model.proofs.laws.written_out_means_itself.Goals as goal

pub returns : goal.returns
returns c = λ p is.
    let valid : IsValid p = record { names = is.names; resource_names = is.resource_names; needs_once = is.needs_once; uses_once = is.uses_once; no_backlogs = is.no_backlogs } in (
      sym (read_back p is.limits valid),
      record {
        plain = plain_passes p is.limits is.lines valid;
        ranked = subst IsRanked (sym (read_back p is.limits valid)) is.ranked;
        later = later_passes p is.limits valid;
        bounded = subst IsBounded (sym (read_back p is.limits valid)) is.within;
      },
    )
