use Rattle.std.proofs.Common.{◌≡◌, ◌≤◌, ◌<◌, ◌+◌, ◌∙◌, sym, ap, arith, length, map, vec_len, ℕ, false}
use Rattle.std.specs.Prelude.{nat_le}
use Rattle.std.specs.List.{sum_by}
use Rattle.std.proofs.lemmas.List.{length-map}
use Rattle.std.proofs.lemmas.List.Sums.{sum_by-take-le}
use Rattle.lot_draft.specs.Raw.{RawItem, raw_item, raw_need}
use Rattle.lot_draft.proofs.Members.{not_few, sum_more}
use Rattle.lot_draft.proofs.checks.has_few_lines.Goals as goal

pub loop-at-preserved : goal.loop-at-preserved
loop-at-preserved c =
    let more = sum_more raw_item (λ i. length i.needs) c.args.items.now c.loop-at.at c.index-items-at.result c.loop-at-test.true c.index-items-at.is in
    let lines = length-map c.index-items-at.result.needs.items raw_need in
    record {
      count = omega (arith, c.loop-at.invariant.count, more, lines, c.len-lines.ensures, ap (λ x. vec_len x.needs) c.index-items-at.is, c.index-items-at.result.needs.ok);
      few = omega (arith, c.loop-at.invariant.few, c.if-lines-count.false);
    }

pub returns-then-lines-count : goal.returns-then-lines-count
returns-then-lines-count c =
    let more = sum_more raw_item (λ i. length i.needs) c.args.items.now c.loop-at.at c.index-items-at.result c.loop-at-test.true c.index-items-at.is in
    let lines = length-map c.index-items-at.result.needs.items raw_need in
    let part = sum_by-take-le (λ i. length i.needs) (map raw_item c.args.items.now) (c.loop-at.at + 1) in
    not_few (sum_by (λ i. length i.needs) (map raw_item c.args.items.now)) (omega (arith, part, more, lines, c.loop-at.invariant.count, c.loop-at.invariant.few, c.if-lines-count.true, c.len-lines.ensures, ap (λ x. vec_len x.needs) c.index-items-at.is, c.index-items-at.result.needs.ok))
