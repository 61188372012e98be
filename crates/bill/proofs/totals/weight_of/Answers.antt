use Rattle.std.proofs.Common.{◌≡◌, ◌-◌, ◌*◌, ℕ, ap, arith, slice_index_or}
use Rattle.std.proofs.lemmas.Nat.{mul-le}
use Rattle.lot_sizing.proofs.Sums.{sum_to_more}
use Rattle.lot_sizing.specs.declared.limits.TheConstants.{MAX_BILL_LINES, MAX_QUANTITY, MAX_TOTAL}
use Rattle.bill.specs.Lines.{bill_of_lines}
use Rattle.bill.specs.Over.{row_entry}
use Rattle.bill.proofs.Rows.{rows_of, row_read}
use Rattle.bill.proofs.totals.weight_of.Goals as goal

pub loop-other-preserved : goal.loop-other-preserved
loop-other-preserved c =
    let b = bill_of_lines c.args.lines.now in
    let W = rows_of c.args.weights.now in
    let j = c.loop-other.other in
    let k = c.args.whole in
    let inv = c.loop-other.invariant in
    let read = row_read c.args.weights.now j c.index-weights-other.result c.deref-row.result.now c.loop-other.auto.other (omega arith) c.index-weights-other.is c.deref-row.ensures.value in
    let x = slice_index_or c.deref-row.result.now (k - 1) 0 in
    let same : x ≡ row_entry W j k = ap (λ xs. slice_index_or xs (k - 1) 0) read in
    let f = λ (i : ℕ). b.units c.args.item i * row_entry W i k in
    let more = sum_to_more j f c.loop-other.auto.other in
    let product = mul-le c.units_of.result x (MAX_BILL_LINES * MAX_QUANTITY) MAX_TOTAL c.units_of.ensures.small (omega (arith, same, c.requires.small j k)) in
    record {
      sum = omega (arith, inv.sum, more, ap (λ u. u * x) c.units_of.ensures.value, ap (λ y. b.units c.args.item j * y) same);
      small = omega (arith, inv.small, product);
    }
