use Rattle.std.proofs.Common.{◌∙◌, arith, refl}
use Rattle.certificate.specs.declared.tree.Certificate.{Certificate}
use Rattle.branching.specs.Knowing.{ranges_in}
use Rattle.branching.specs.SearchWithin.{IsProvedWithin}
use Rattle.branching.proofs.Finished.{IsTreeOf, finished, found_proved}
use Rattle.branching.proofs.Proved.{Grounds}
use Rattle.branching.proofs.LeastVersion.{same_lines}
use Rattle.branching.proofs.finishing.finish.Goals as goal

pub in_least_version-requires : goal.in_least_version-requires
in_least_version-requires c = omega (arith, c.usual_version-usual.ensures.at_most, c.requires.oldest)

pub returns-clause-proved : goal.returns-clause-proved
returns-clause-proved c =
    let g = c.args.model.now in
    let m = g.instance.now in
    let s = c.args.searched in
    let t = c.in_ok-tree.tree in
    let (budget, limits, stopping, rs, is) = c.requires.searched in
    let counted = c.shapes_are_counted.ensures t in
    let by : Grounds m = record {
      instance = c.an_instance_breaks_no_rule.ensures;
      totals_are_one = c.totals_are_one.ensures;
      accepted_over_ranges = c.accepted_over_ranges.ensures;
      made_is_writable = c.made_is_writable.ensures.shapes;
      few_lines = c.few_lines.ensures;
      figures = c.requires.figures;
    } in
    let of : IsTreeOf s t = record { stripped = c.in_ok-tree.ensures.stripped; nodes = counted.0 ∙ c.in_ok-tree.ensures.nodes; longest = counted.1 ∙ c.in_ok-tree.ensures.longest } in
    let least = c.in_least_version.ensures in
    let made : Certificate = record { version = g.version; claim = s.claim; cuts = c.args.known.cuts; tree = t } in
    let same = same_lines c.in_least_version.result made least.claim least.cuts least.tree in
    found_proved g c.args.known budget limits stopping rs s t _ by is of (omega arith) same least.written c.best_plan.ensures refl

pub returns-clause-version : goal.returns-clause-version
returns-clause-version c =
    let found : IsProvedWithin c.args.model.now.instance.now (ranges_in c.args.model.now) _ = returns-clause-proved c in
    record {
      usual = c.usual_version-usual.result;
      is_usual = c.usual_version-usual.ensures.usual;
      from = c.in_least_version.ensures.from;
      at_most = c.in_least_version.ensures.at_most;
      written = found.writable;
      least = c.in_least_version.ensures.least;
    }

pub returns-clause-shown : goal.returns-clause-shown
returns-clause-shown c = λ budget limits stopping rs is.
    let g = c.args.model.now in
    let s = c.args.searched in
    let t = c.in_ok-tree.tree in
    let (total, weight, totals, weights) = c.requires.figures in
    let counted = c.shapes_are_counted.ensures t in
    let of : IsTreeOf s t = record { stripped = c.in_ok-tree.ensures.stripped; nodes = counted.0 ∙ c.in_ok-tree.ensures.nodes; longest = counted.1 ∙ c.in_ok-tree.ensures.longest } in
    let least = c.in_least_version.ensures in
    finished g c.args.known budget limits stopping rs s t _ c.whole_is_measured.ensures c.says_are_one.ensures total totals is of least.claim least.cuts least.tree c.best_plan.ensures refl refl
