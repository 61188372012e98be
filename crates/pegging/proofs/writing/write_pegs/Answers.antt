use Rattle.std.proofs.Common.{◌<◌, ◌^◌, ◌∷◌, ◌∙◌, [], arith, map, subst, take}
use Rattle.std.specs.List.{All}
use Rattle.std.proofs.lemmas.List.{take_all}
use Rattle.csv_records.specs.Records.{Record}
use Rattle.csv_records.specs.Written.{HasWritten}
use Rattle.pegging.specs.Texts.{header, peg_fields}
use Rattle.pegging.proofs.Rows.{fit_next, pegs_written, rows_all, rows_next}
use Rattle.pegging.proofs.writing.write_pegs.Goals as goal

pub loop-peg-init : goal.loop-peg-init
loop-peg-init c = record {
  rows = subst (λ (r : Record). HasWritten c.add_record.new.writer (r ∷ [])) c.header.ensures (c.in_ok-add_record.ensures [] c.new_writer-writer.ensures);
  fit = λ k d less. absurd (omega (arith, less));
}

pub loop-peg-preserved : goal.loop-peg-preserved
loop-peg-preserved c =
    let m = c.args.instance.now in
    let pegs = c.args.pegs.now in
    let n = c.loop-peg.peg-index in
    record {
      rows = subst (HasWritten c.add_row.new.writer) (rows_next m pegs n _ c.loop-peg-test.true) (c.in_ok-add_row.ensures.row (header ∷ map (peg_fields m) (take n pegs)) c.loop-peg.invariant.rows);
      fit = fit_next pegs n _ c.loop-peg-test.true c.loop-peg.invariant.fit c.in_ok-add_row.ensures.fits;
    }

pub returns : goal.returns
returns c =
    let m = c.args.instance.now in
    let pegs = c.args.pegs.now in
    let fit : All (λ peg. peg.quantity < 2 ^ 64) pegs = subst (All (λ peg. peg.quantity < 2 ^ 64)) (take_all c.loop-peg.peg-index pegs c.loop-peg-test.false) c.loop-peg.invariant.fit in
    record { text = c.in_ok-bytes.ensures (header ∷ map (peg_fields m) pegs) (subst (HasWritten c.loop-peg.writer) (rows_all m pegs c.loop-peg.peg-index c.loop-peg-test.false) c.loop-peg.invariant.rows) ∙ pegs_written m c.an_instance_breaks_no_rule.ensures.limits pegs c.requires fit }
