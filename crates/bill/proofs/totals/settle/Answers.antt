use Rattle.std.proofs.Common.{◌≡◌, ◌≤◌, ◌∙◌, inl, inr, ap, subst, sym, IfSome}
use Rattle.lot_sizing.specs.declared.limits.TheConstants.{MAX_TOTAL}
use Rattle.lot_sizing.specs.Problem.{entry}
use Rattle.bill.specs.Lines.{bill_of_lines}
use Rattle.bill.specs.Sets.{has}
use Rattle.bill.specs.Steps.{AreDone, IsRowOf, total_by, weights_in}
use Rattle.bill.proofs.Settling.{below_undone, clear_is, kept_known, past_bound, right}
use Rattle.bill.proofs.totals.settle.Goals as goal

pub returns-then-not-users_done-clause-settled : goal.returns-then-not-users_done-clause-settled
returns-then-not-users_done-clause-settled c = λ total weight are_totals are_weights.
    let found = c.users_done.ensures.some c.if-not-users_done.true in
    inr (inl (below_undone (bill_of_lines c.args.lines.now) total weight c.args.known.now.done.items c.args.item found.0 found.1 found.2 found.3 (sym (ap (λ xs. has xs found.0) c.deref.ensures.value) ∙ found.4) (c.requires.users found.0 found.1 found.2 found.3 total weight are_totals are_weights)))

pub returns-in-Some-clause-progress : goal.returns-in-Some-clause-progress
returns-in-Some-clause-progress c = λ total weight are_totals are_weights.
    let b = bill_of_lines c.args.lines.now in
    let old = c.args.known.now in
    let same = c.numbers_of.ensures.same in
    let others = c.keep.ensures.others in
    let known = c.requires.progress total weight are_totals are_weights in
    let done : AreDone b old.done.items c.args.item = λ k low high some. sym (ap (λ xs. has xs k) c.deref.ensures.value) ∙ c.users_done.ensures.all c.if-not-users_done.false k low high some in
    let is_right = right b (entry c.args.asked.now) (entry c.args.there.now) total weight old.done.items old.totals.items (weights_in old) c.args.item are_totals are_weights known done c.requires.low c.requires.high in
    let clear = clear_is b total weight old.done.items old.totals.items (weights_in old) c.args.item known done in
    let number = subst (λ o. IfSome o (λ n. n ≡ total_by b (entry c.args.asked.now c.args.item) (entry c.args.there.now c.args.item) old.totals.items c.args.item)) c.in-Some.is c.numbers_of.ensures.total in
    let small = subst (λ o. IfSome o (λ n. n ≤ MAX_TOTAL)) c.in-Some.is c.numbers_of.ensures.small in
    let row = subst (λ o. IfSome o (λ _. IsRowOf b (weights_in old) c.args.item c.numbers_of.new.known.row.items)) c.in-Some.is c.numbers_of.ensures.row in
    kept_known b (entry c.args.asked.now) (entry c.args.there.now) total weight old.done.items c.keep.new.known.done.items old.totals.items c.keep.new.known.totals.items (weights_in old) (weights_in c.keep.new.known) c.numbers_of.new.known.row.items c.args.item c.in-Some.total known is_right clear number small row c.keep.ensures.total c.keep.ensures.row (λ j low apart. (
      others.done j low apart ∙ ap (λ xs. has xs j) same.done,
      others.totals j low apart ∙ ap (λ xs. entry xs j) same.totals,
      search (others.weights j low apart, same.weights),
    ))

pub returns-in_default-clause-progress : goal.returns-in_default-clause-progress
returns-in_default-clause-progress c = λ total weight are_totals are_weights.
    let b = bill_of_lines c.args.lines.now in
    let same = c.numbers_of.ensures.same in
    let known = c.requires.progress total weight are_totals are_weights in
    rw (same.done, same.totals, same.weights) known

pub returns-in_default-clause-settled : goal.returns-in_default-clause-settled
returns-in_default-clause-settled c = λ total weight are_totals are_weights.
    let b = bill_of_lines c.args.lines.now in
    let old = c.args.known.now in
    let known = c.requires.progress total weight are_totals are_weights in
    let done : AreDone b old.done.items c.args.item = λ k low high some. sym (ap (λ xs. has xs k) c.deref.ensures.value) ∙ c.users_done.ensures.all c.if-not-users_done.false k low high some in
    let is_right = right b (entry c.args.asked.now) (entry c.args.there.now) total weight old.done.items old.totals.items (weights_in old) c.args.item are_totals are_weights known done c.requires.low c.requires.high in
    inr (inr (past_bound b (entry c.args.asked.now) (entry c.args.there.now) total weight old.totals.items (weights_in old) c.args.item is_right (c.numbers_of.ensures.none c.in_default.is)))
