use Rattle.std.proofs.Common.{◌≡◌, ◌<◌, ℕ, length, ◌⊎◌, subst, true}
use Rattle.std.specs.List.{All}
use Rattle.bill.specs.Lines.{IsLine, Names, line_at}
use Rattle.bill.specs.Sets.{has}
use Rattle.bill.proofs.Paths.{closed_from, sound_from}
use Rattle.bill.proofs.reach.spread_from.Goals as goal

pub returns-clause-sound : goal.returns-clause-sound
returns-clause-sound c = λ j all.
    let read = c.needs.ensures.value in
    sound_from c.args.lines.now c.args.item c.args.set.now c.add_lines.new.set (subst (All (IsLine (length c.args.lines.now))) read c.needs.ensures.lines) c.requires.low c.requires.high c.if-not-set-item.false (λ i low some. subst (λ xs. (has c.args.set.now i ≡ true) ⊎ Names xs i) read (c.add_lines.ensures.only i low some)) j all

pub returns-clause-closed : goal.returns-clause-closed
returns-clause-closed c = λ same some. closed_from c.args.lines.now c.args.item c.add_lines.new.set (subst (λ xs. (n : ℕ) → n < length xs → has c.add_lines.new.set (line_at xs n).item ≡ true) c.needs.ensures.value c.add_lines.ensures.named)
