use Rattle.std.proofs.Common.{refl, subst}
use Rattle.std.proofs.lemmas.List.{take_all}
use Rattle.std.proofs.lemmas.List.Elements.{All-more}
use Rattle.std.specs.List.{All}
use Rattle.cert_lines.specs.Shapes.{GroupLine}
use Rattle.cert_lines.specs.Line.{HasLine}
use Rattle.certificate.proofs.limits.have_group_lines.Goals as goal

pub loop-group-preserved : goal.loop-group-preserved
loop-group-preserved c =
    let line = subst (λ g. HasLine c.args.version (GroupLine g)) c.group-item.is (c.if-not-is_group_line.ensures.0 refl) in
    All-more (λ g. HasLine c.args.version (GroupLine g)) c.args.groups.now c.loop-group.group-index c.group-item.result c.loop-group-test.true c.loop-group.invariant line

pub returns : goal.returns
returns c = (λ _. subst (All (λ g. HasLine c.args.version (GroupLine g))) (take_all c.loop-group.group-index c.args.groups.now c.loop-group-test.false) c.loop-group.invariant, λ _. refl)
