use Rattle.std.proofs.Common.{IsTrue}
use Rattle.std.specs.Prelude.{◌↔◌}
use Rattle.echelon.specs.Views.{HasMarked}
use Rattle.echelon.proofs.Marks.{agree_where}
use Rattle.echelon.proofs.net.marks_agree.Goals as goal

pub returns : goal.returns
returns c =
    let tells : IsTrue c.has_marked-marked.result ↔ HasMarked c.args.echelon.now.weights.items c.args.echelon.now.backs.items = rw (c.deref.ensures.value, c.deref-2.ensures.value) at c.has_marked-marked.ensures in
    agree_where c.args.echelon.now.backlogged c.has_marked-marked.result (HasMarked c.args.echelon.now.weights.items c.args.echelon.now.backs.items) tells
