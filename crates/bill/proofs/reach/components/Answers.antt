use Rattle.std.proofs.Common.{◌≡◌, ◌<◌, ◌∙◌, ◌⊎◌, ℕ, length, drop, ap, subst, sym, true, arith}
use Rattle.std.specs.List.{All}
use Rattle.std.proofs.lemmas.List.{take_at}
use Rattle.bill.specs.Lines.{IsLine, Names, bill_of_lines, line_at}
use Rattle.bill.specs.Sets.{AllGoInto, AreComponents, HasLinesOf, has}
use Rattle.bill.proofs.Paths.{are_components, closed_from, first_from}
use Rattle.bill.proofs.reach.components.Goals as goal

pub loop-init : goal.loop-init
loop-init c =
    let L = c.args.lines.now in
    let b = bill_of_lines L in
    let new = c.add_lines.new.set in
    let back = take_at new (drop (length new) c.in_ok-set.set.items) c.in_ok-set.set.len (omega (arith, c.add_lines.ensures.size, c.deref_mut.ensures.len)) in
    let read = c.needs.ensures.value in
    let none = λ (i : ℕ). ap (λ xs. has xs i) c.deref_mut.ensures.value ∙ c.in_ok-set.ensures.none i in
    record {
      size = ap length back ∙ c.add_lines.ensures.size ∙ ap length c.deref_mut.ensures.value ∙ c.in_ok-set.ensures.size ∙ c.items.ensures.value;
      sound = subst (AllGoInto b c.args.item) (sym back) (first_from L c.args.item c.deref_mut.result.now new (subst (All (IsLine (length L))) read c.needs.ensures.lines) none (λ i low some. subst (λ xs. (has c.deref_mut.result.now i ≡ true) ⊎ Names xs i) read (c.add_lines.ensures.only i low some)));
      first = subst (HasLinesOf b c.args.item) (sym back) (closed_from L c.args.item new (subst (λ xs. (n : ℕ) → n < length xs → has new (line_at xs n).item ≡ true) read c.add_lines.ensures.named));
    }

pub loop-preserved : goal.loop-preserved
loop-preserved c =
    let b = bill_of_lines c.args.lines.now in
    let new = c.spread.new.set in
    let old = c.deref_mut-in-loop.ensures.value in
    let inv = c.loop.invariant in
    let back = take_at new (drop (length new) c.loop.set.items) c.loop.set.len (omega (arith, c.spread.ensures.size, c.deref_mut-in-loop.ensures.len)) in
    record {
      size = ap length back ∙ c.spread.ensures.size ∙ ap length old ∙ inv.size;
      sound = subst (AllGoInto b c.args.item) (sym back) (c.spread.ensures.sound c.args.item (subst (AllGoInto b c.args.item) (sym old) inv.sound));
      first = subst (HasLinesOf b c.args.item) (sym back) (λ i low high some. c.spread.ensures.keeps i (ap (λ xs. has xs i) old ∙ inv.first i low high some));
    }

pub returns : goal.returns
returns c =
    let L = c.args.lines.now in
    let b = bill_of_lines L in
    let new = c.spread.new.set in
    let old = c.deref_mut-in-loop.ensures.value in
    let inv = c.loop.invariant in
    let back = take_at new (drop (length new) c.loop.set.items) c.loop.set.len (omega (arith, c.spread.ensures.size, c.deref_mut-in-loop.ensures.len)) in
    let size : length new ≡ length L = c.spread.ensures.size ∙ ap length old ∙ inv.size in
    let sound = c.spread.ensures.sound c.args.item (subst (AllGoInto b c.args.item) (sym old) inv.sound) in
    let first : HasLinesOf b c.args.item new = λ i low high some. c.spread.ensures.keeps i (ap (λ xs. has xs i) old ∙ inv.first i low high some) in
    subst (AreComponents b c.args.item) (sym back) (are_components b c.args.item new size sound first (λ k low high. c.spread.ensures.closed c.loop-test.false k low high))
