use Rattle.std.proofs.Common.{◌∙◌, ap, length, sym}
use Rattle.std.proofs.lemmas.Result.{IfOk-weaker}
use Rattle.lp_bounds.specs.Steps.{IsFarkasFound, IsSaid}
use Rattle.lp_bounds.proofs.Found.{farkas_said, rows_are}
use Rattle.lp_bounds.proofs.relaxing.empty_says.Goals as goal

pub farkas_leaf-requires-clause-size : goal.farkas_leaf-requires-clause-size
farkas_leaf-requires-clause-size c =
    c.requires.ends.size ∙ sym (ap length c.deref.ensures.value ∙ rows_are c.args.instance.now c.args.path.now c.args.program.now c.requires.ready c.an_instance_breaks_no_rule.ensures)

pub returns : goal.returns
returns c =
    let m = c.args.instance.now in
    let path = c.args.path.now in
    let program = c.args.program.now in
    let ys = c.args.multipliers.now in
    let found = rw c.deref.ensures.value at c.farkas_leaf.ensures in
    IfOk-weaker c.farkas_leaf.result (IsFarkasFound m path program.sides.items ys) (IsSaid m path)
    (farkas_said m path program c.requires.ready c.an_instance_breaks_no_rule.ensures c.base_names_are_all.ensures c.requires.choices c.requires.short ys c.requires.ends.size c.empty_is_said.ensures c.requires.ends) found
