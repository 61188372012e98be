use Rattle.std.proofs.Common.{◌∙◌, ◌<◌, arith, length, refl, sym, ap₂}
use Rattle.clap.specs.Words.{with_rule}
use Rattle.command_line.proofs.Rows.{argument_more}
use Rattle.command_line.proofs.grammar.placed.Goals as goal

pub loop-argument-preserved : goal.loop-argument-preserved
loop-argument-preserved c =
    let e = c.in_ok-command.ensures in
    let given = c.required.ensures in
    let inside : c.loop-argument.argument-index < length c.args.row.arguments.now = omega arith in (
      e.shape given.local ∙ ap₂ with_rule c.loop-argument.invariant.0 given.rule ∙ sym (argument_more c.args.row.name.now c.args.row.arguments.now c.loop-argument.argument-index _ inside),
      e.globals ∙ rw (c.loop-argument.invariant.1, given.local) refl,
    )
