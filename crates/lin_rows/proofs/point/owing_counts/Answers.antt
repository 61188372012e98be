use Rattle.std.specs.Prelude.{replicate}
use Rattle.std.proofs.lemmas.List.{length-set}
use Rattle.std.proofs.Common.{◌≡◌, ◌≤◌, ◌<◌, ◌+◌, ◌-◌, ◌∙◌, ℕ, List, refl, ap, arith, length, slice_index_or}
use Rattle.lin_rows.proofs.Pointing.{counts_next, counts_none, counts_small, none_counted}
use Rattle.lin_rows.proofs.point.owing_counts.Goals as goal

-- the counts at first
abbrev none_first : List ℕ
none_first = replicate 41 0

none_at : (n : ℕ) → slice_index_or none_first n 0 ≡ 0
none_at n = counts_none none_first n refl

pub loop-item-init : goal.loop-item-init
loop-item-init c = record {
  size = refl;
  counts = λ n low. none_counted c.args.instance.now n _ low (none_at n);
  small = λ n. omega (arith, none_at n);
}

pub loop-item-preserved : goal.loop-item-preserved
loop-item-preserved c =
    let i = c.loop-item.item in
    let counts = c.loop-item.counts in
    let low : 1 ≤ i = omega arith in
    let less : i < length counts = omega (arith, c.loop-item.invariant.size) in
    record {
      size = length-set counts i _ ∙ c.loop-item.invariant.size;
      counts = counts_next c.args.instance.now counts i _ low less (ap (λ k. slice_index_or counts (i - 1) 0 + k) c.owes.ensures.value) c.loop-item.invariant.counts;
      small = counts_small counts i _ low less (omega (arith, c.loop-item.invariant.small (i - 1))) c.loop-item.invariant.small;
    }
