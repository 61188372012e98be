use Rattle.std.proofs.Common.{◌∙◌, arith, ap, ap₂, sym}
use Rattle.clap.specs.Words.{with_subcommand}
use Rattle.command_line.proofs.Rows.{row_more}
use Rattle.command_line.proofs.grammar.planner.Goals as goal

pub loop-row-preserved : goal.loop-row-preserved
loop-row-preserved c =
    c.in_ok-program-2.ensures.shape c.in_ok-command.ensures.local
    ∙ ap₂ with_subcommand c.loop-row.invariant (ap (λ a. a.top) c.in_ok-command.ensures.shape)
    ∙ sym (row_more _ c.loop-row.row-index _ (omega arith))
