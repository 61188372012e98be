use Rattle.std.proofs.Common.{◌∙◌, ◌<◌, arith, length, map, refl, sym, ap₂}
use Rattle.clap.specs.Words.{with_rule}
use Rattle.command_line.proofs.Rows.{option_more}
use Rattle.command_line.proofs.grammar.command.Goals as goal

pub loop-option-preserved : goal.loop-option-preserved
loop-option-preserved c =
    let e = c.in_ok-command-2.ensures in
    let given = c.optional.ensures in
    let inside : c.loop-option.option-index < length c.args.row.options.now = omega arith in (
      e.shape given.local ∙ ap₂ with_rule c.loop-option.invariant.0 given.rule ∙ sym (option_more c.args.row.name.now (map (λ a. a.id.now) c.args.row.arguments.now) c.args.row.options.now c.loop-option.option-index _ inside),
      e.globals ∙ rw (c.loop-option.invariant.1, given.local) refl,
    )
