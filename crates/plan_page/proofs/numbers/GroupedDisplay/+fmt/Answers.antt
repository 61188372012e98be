use Rattle.std.proofs.Common.{refl, subst, sym}
use Rattle.std.proofs.Output.{has_written_append, has_written_of_eq}
use Rattle.std.specs.Fmt.{HasWritten}
use Rattle.plan_page.proofs.Grouping.{grouped-large, grouped-small}
use Rattle.plan_page.proofs.numbers.GroupedDisplay.+fmt.Goals as goal

pub returns-then-number-lt1000-clause-writes : goal.returns-then-number-lt1000-clause-writes
returns-then-number-lt1000-clause-writes g t c =
    let e = grouped-small c.args.self.now.0 c.if-number-lt1000.true in
    λ plain ok. subst (λ text. HasWritten {W = g.row.W.Denot} g.W.Write.write_str_gives c.args.f.now text c.write.new.self) (sym e) (c.write.ensures.writes plain ok)

pub returns-clause-writes : goal.returns-clause-writes
returns-clause-writes g t c =
    let e = grouped-large c.args.self.now.0 c.if-number-lt1000.false in
    λ plain ok.
    let first = c.in_ok-fmt.ensures.writes plain refl in
    let second = c.write-2.ensures.writes first.plain ok in
    has_written_of_eq _ _ _ _ _ (sym e) (has_written_append _ _ _ _ _ _ first second)
