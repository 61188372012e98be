use Rattle.std.proofs.Common.{◌≡◌, ◌≤◌, ◌<◌, ◌^◌, ◌∙◌, sym, subst, arith, rules}
use Rattle.std.specs.List.{All}
use Rattle.std.proofs.lemmas.List.Sorted.{All-permutation}
use Rattle.lin_rows.specs.declared.column.Column.{Column}
use Rattle.round_cuts.specs.Merging.{AreSums, IsMerged, IsSmallTerm, amount_in}
use Rattle.round_cuts.specs.Rounding.{column_amount}
use Rattle.round_cuts.proofs.Stretches.{are_sums, amounts_are, map_ok}
use Rattle.round_cuts.proofs.rounding.summed.Goals as goal

pub merged-requires-clause-small : goal.merged-requires-clause-small
merged-requires-clause-small c = subst (All IsSmallTerm) (sym c.deref.ensures.value) (All-permutation IsSmallTerm c.in_ok-terms.terms.items c.sort.new.terms.items c.sort.ensures.permutation c.in_ok-terms.ensures.products.small)

pub returns-clause-sums : goal.returns-clause-sums
returns-clause-sums c =
    map_ok c.merged.result _ _ (λ done is.
    are_sums c.args.rows.now c.args.multipliers.now c.in_ok-terms.terms.items c.sort.new.terms.items c.deref.result.now done.items c.in_ok-terms.ensures.products c.sort.ensures.permutation c.deref.ensures.value is) c.merged.ensures.merged

pub returns-clause-room : goal.returns-clause-room
returns-clause-room c =
    map_ok c.merged.result _ _ (λ done small x.
    subst (λ n. n < 2 ^ 127) (amounts_are c.args.rows.now c.args.multipliers.now c.in_ok-terms.terms.items c.sort.new.terms.items c.deref.result.now x c.in_ok-terms.ensures.products c.sort.ensures.permutation c.deref.ensures.value) (small x)) c.merged.ensures.room

pub returns-clause-large : goal.returns-clause-large
returns-clause-large c large =
    let (x, most) = c.merged.ensures.large large in
    (x, subst (λ n. 2 ^ 127 ≤ n) (amounts_are c.args.rows.now c.args.multipliers.now c.in_ok-terms.terms.items c.sort.new.terms.items c.deref.result.now x c.in_ok-terms.ensures.products c.sort.ensures.permutation c.deref.ensures.value) most)
