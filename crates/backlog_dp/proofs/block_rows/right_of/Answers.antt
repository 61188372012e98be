use Rattle.std.proofs.Common.{rules, ◌≡◌, ◌+◌, ◌*◌, ◌∙◌, ℕ, ap, arith, length}
use Rattle.std.specs.Prelude.{pos}
use mir.Syntax.{w128}
use mir.Val.{to_z}
use Rattle.lot_sizing.specs.Sums.{sum_to}
use Rattle.lot_sizing.specs.Problem.{entry}
use Rattle.lot_sizing.specs.Single.{position_count, potential}
use Rattle.lot_sizing.specs.Net.{left_after}
use Rattle.lot_sizing.proofs.Sums.{sum_to-same}
use Rattle.echelon.specs.Views.{asked_of_echelon}
use Rattle.echelon_rows.specs.Rows.{echelon_in}
use Rattle.backlog_dp.specs.BlockRow.{priced_by}
use Rattle.backlog_dp.proofs.block_rows.right_of.Goals as goal

pub returns : goal.returns
returns c =
    let e = c.args.echelon.now in
    let left = c.args.left.now in
    let p = c.args.potentials.now in
    let T = length e.demand.items in
    let m = position_count (priced_by (echelon_in e) p) in
    let f : ℕ → ℕ = λ t. entry p.hold.items t * left_after (asked_of_echelon e) t in
    let g : ℕ → ℕ = λ t. entry p.hold.items t * entry left t in
    let same : sum_to T g ≡ sum_to T f = sum_to-same T g f (λ t low high. ap (λ k. entry p.hold.items t * k) (c.requires.left.each t low high)) in
    let held : c.held_of-held.result ≡ sum_to T f = c.held_of-held.ensures.value ∙ ap (λ k. sum_to k (λ t. entry c.deref-2.result.now t * entry left t)) c.requires.left.size ∙ ap (λ hs. sum_to T (λ t. entry hs t * entry left t)) c.deref-2.ensures.value ∙ same in
    let last : c.last_potential-last.result ≡ potential p.steps.items m = c.last_potential-last.ensures.value ∙ ap (λ ss. potential ss (length ss)) c.deref.ensures.value ∙ ap (potential p.steps.items) c.requires.steps in
    let sum : c.last_potential-last.result + c.held_of-held.result ≡ potential p.steps.items m + sum_to T f = omega (arith, last, held) in
    let whole : to_z w128 (c.last_potential-last.result + c.held_of-held.result) ≡ pos (c.last_potential-last.result + c.held_of-held.result) = search rules in
    whole ∙ ap pos sum
