use Rattle.std.proofs.Common.{refl}
use Rattle.branching.proofs.Emptied.{none_proved}
use Rattle.branching.proofs.Proved.{Grounds}
use Rattle.node_domains.specs.Within.{given_ranges}
use Rattle.branching.proofs.impossible.none_found.Goals as goal

pub returns-clause-proved : goal.returns-clause-proved
returns-clause-proved c =
    let m = c.args.instance.now in
    let by : Grounds m = record {
      instance = c.an_instance_breaks_no_rule.ensures;
      totals_are_one = c.totals_are_one.ensures;
      accepted_over_ranges = c.accepted_over_ranges.ensures;
      made_is_writable = c.made_is_writable.ensures.shapes;
      few_lines = c.few_lines.ensures;
      figures = c.requires.root.figures;
    } in
    none_proved m (given_ranges c.args.ranges.now) c.args.version c.args.root c.tree_of-tree.result _ by c.requires.inside c.requires.root c.requires.none c.requires.version c.tree_of-tree.ensures refl refl refl
