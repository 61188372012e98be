use Rattle.std.proofs.Common.{rules}
use Rattle.std.proofs.lemmas.List.Sorted.{IsNonDecreasingBy-from_sort_by_key}
use Rattle.lin_rows.specs.Columns.{order_of}
use Rattle.round_cuts.proofs.merging.sort.Goals as goal

pub returns-clause-rising : goal.returns-clause-rising
returns-clause-rising c = IsNonDecreasingBy-from_sort_by_key (λ a. order_of a.column) _ c.sort_unstable_by_key.ensures.sorted (λ a r q k. search rules)
