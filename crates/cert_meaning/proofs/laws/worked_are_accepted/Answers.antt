use Rattle.std.proofs.Common.{arith, refl}
use Rattle.std.specs.Prelude.{Some}
use Rattle.cert_meaning.specs.Worked.{by_branches, model, plan, rank, total, weight}
use Rattle.cert_meaning.proofs.Cutting.{cuts_here}
use Rattle.cert_meaning.proofs.Examples.{best_by, branches_accepted, branches_here, known_model}
use Rattle.cert_meaning.proofs.Reducing.{reduced_here}
use Rattle.cert_meaning.proofs.laws.worked_are_accepted.Goals as goal

pub returns : goal.returns
returns c =
    let known = known_model in
    record {
      known = known;
      branches = branches_here;
      cuts = cuts_here;
      reduced = reduced_here c.reduced_sums_are_one.ensures.one;
      best = best_by (c.accepted_is_true.ensures model rank total weight (omega arith) known.ranks known.totals known.weights by_branches (Some plan) branches_accepted);
      costs = refl;
    }
