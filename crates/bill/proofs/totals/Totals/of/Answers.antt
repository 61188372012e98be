use Rattle.std.proofs.Common.{◌≤◌, ℕ, length, arith, subst}
use Rattle.std.specs.Prelude.{MatchOption}
use Rattle.lot_sizing.specs.Problem.{entry}
use Rattle.bill.specs.Lines.{bill_of_lines}
use Rattle.bill.specs.Steps.{HasNoneStuck, IsFirstStuck, weights_in}
use Rattle.bill.proofs.Settling.{first_over, has_all}
use Rattle.bill.proofs.totals.Totals.of.Goals as goal

pub returns-in-Some-clause-refused : goal.returns-in-Some-clause-refused
returns-in-Some-clause-refused c = λ total weight are_totals are_weights.
    let b = bill_of_lines c.args.lines.now in
    let known = c.loop-rank.known in
    let settled = λ (j : ℕ) (low : 1 ≤ j) (high : j ≤ length c.args.lines.now). c.loop-rank.invariant.before j low high (omega (arith, c.requires.small j)) total weight are_totals are_weights in
    let stuck = subst (λ o. MatchOption o (HasNoneStuck b c.deref.result.now) (IsFirstStuck b c.deref.result.now)) c.in-Some.is c.first_stuck.ensures in
    first_over b total weight known.done.items known.totals.items (weights_in known) c.in-Some.item (c.loop-rank.invariant.progress total weight are_totals are_weights) settled (subst (λ xs. IsFirstStuck b xs c.in-Some.item) c.deref.ensures.value stuck)

pub returns-clause-ok : goal.returns-clause-ok
returns-clause-ok c = λ total weight are_totals are_weights.
    let b = bill_of_lines c.args.lines.now in
    let known = c.loop-rank.known in
    let none = subst (λ o. MatchOption o (HasNoneStuck b c.deref.result.now) (IsFirstStuck b c.deref.result.now)) c.in_default.is c.first_stuck.ensures in
    has_all b total weight known.done.items known.totals.items (weights_in known) (entry c.args.ranks.now) c.requires.ranks (c.loop-rank.invariant.progress total weight are_totals are_weights) (subst (HasNoneStuck b) c.deref.ensures.value none)
