use Rattle.std.proofs.Common.{◌≤◌, ◌∷◌, ◌∙◌, [], arith, below_more, length, subst, sym}
use Rattle.lot_schedule.specs.Slots.{slot_at}
use Rattle.csv_records.specs.Records.{Record, records_of}
use Rattle.csv_records.specs.Written.{HasWritten}
use Rattle.lot_schedule.specs.Records.{AreRowsOf, TimesFit, schedule_records}
use Rattle.plan_file.specs.declared.limits.TheConstants.{MAX_FILE}
use Rattle.lot_schedule.proofs.Sizes.{text_short}
use Rattle.lot_schedule.proofs.Readback.{AllTimesFit, rows_all, rows_next, text_is, text_read}
use Rattle.lot_schedule.proofs.writing.write_schedule.Goals as goal

pub loop-slot-init : goal.loop-slot-init
loop-slot-init c = record {
  rows = subst (λ (r : Record). HasWritten c.add_record.new.writer (r ∷ [])) c.header.ensures (c.in_ok-add_record.ensures [] c.new_writer-writer.ensures);
  times = λ n less. absurd (omega (arith, less));
}

pub loop-slot-preserved : goal.loop-slot-preserved
loop-slot-preserved c =
    let m = c.args.instance.now in
    let xs = c.args.slots.now in
    let n = c.loop-slot.slot-index in
    record {
      rows = subst (HasWritten c.add_row.new.writer) (rows_next m xs n c.loop-slot-test.true) (c.in_ok-add_row.ensures.row _ c.loop-slot.invariant.rows);
      times = below_more (λ k. TimesFit (slot_at xs k)) n c.loop-slot.invariant.times c.in_ok-add_row.ensures.times;
    }

all_fit : (c : goal.In_ok-bytes) → AllTimesFit c.args.slots.now
all_fit c = λ n less. c.loop-slot.invariant.times n (omega (arith, less, c.loop-slot-test.false))

pub returns-clause-text : goal.returns-clause-text
returns-clause-text c =
    let m = c.args.instance.now in
    let xs = c.args.slots.now in
    c.in_ok-bytes.ensures (schedule_records m xs) (subst (HasWritten c.loop-slot.writer) (rows_all m xs c.loop-slot.slot-index c.loop-slot-test.false) c.loop-slot.invariant.rows) ∙ text_is m xs c.an_instance_breaks_no_rule.ensures.limits c.requires (all_fit c)

pub returns-clause-read : goal.returns-clause-read
returns-clause-read c =
    let m = c.args.instance.now in
    let xs = c.args.slots.now in
    subst (λ bytes. AreRowsOf m (records_of bytes) xs) (sym (returns-clause-text c)) (text_read m xs c.an_instance_breaks_no_rule.ensures.limits c.requires (all_fit c))

pub returns-clause-short : goal.returns-clause-short
returns-clause-short c = λ few. subst (λ bytes. length bytes ≤ MAX_FILE) (sym (returns-clause-text c)) (text_short c.args.instance.now c.args.slots.now c.an_instance_breaks_no_rule.ensures.limits c.requires (all_fit c) few)
