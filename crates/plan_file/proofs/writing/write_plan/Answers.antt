use Rattle.std.proofs.Common.{◌≡◌, ◌≤◌, ◌-◌, ◌∷◌, ◌∙◌, [], ⊎_elim, length, sym, subst, arith}
use Rattle.std.proofs.lemmas.Bool.{cases_lt}
use Rattle.lot_sizing.specs.Problem.{item_count}
use Rattle.lot_sizing.specs.Plan.{EachCell}
use Rattle.plan_rules.specs.Held.{plan_of}
use Rattle.csv_records.specs.Records.{Record, records_of}
use Rattle.csv_records.specs.Written.{HasWritten}
use Rattle.plan_file.specs.Records.{IsPlanOf, header}
use Rattle.plan_file.specs.Written.{FitIn64, lists_to, plan_records, records_of_item}
use Rattle.plan_file.specs.declared.limits.TheConstants.{MAX_FILE}
use Rattle.plan_file.proofs.Lengths.{texts_are_short}
use Rattle.plan_file.proofs.Written.{lists_to_more, plan_written, text_read}
use Rattle.plan_file.proofs.writing.write_plan.Goals as goal

pub loop-item-init : goal.loop-item-init
loop-item-init c = record {
  rows = subst (λ (r : Record). HasWritten c.add_record.new.writer (r ∷ [])) c.header.ensures (c.in_ok-add_record.ensures [] c.new_writer-writer.ensures);
  fit = λ i t low high t_low t_high. absurd (omega (arith, low, high));
}

pub loop-item-preserved : goal.loop-item-preserved
loop-item-preserved c =
    let m = c.args.instance.now in
    let p = plan_of c.args.plan.now in
    let i = c.loop-item.item in
    record {
      rows = subst (λ rs. HasWritten c.add_item.new.writer (header ∷ rs)) (sym (lists_to_more i (records_of_item m p) c.loop-item.auto.item)) (c.in_ok-add_item.ensures.rows (header ∷ lists_to (i - 1) (records_of_item m p)) c.loop-item.invariant.rows);
      fit = λ j t low high t_low t_high. ⊎_elim (λ before. c.loop-item.invariant.fit j t low before t_low t_high) (λ no. let e : j ≡ i = omega (arith, no, high) in subst (λ k. FitIn64 p k t) (sym e) (c.in_ok-add_item.ensures.fit t t_low t_high)) (cases_lt j i);
    }

fit_all : (c : goal.In_ok-bytes) → EachCell c.args.instance.now (FitIn64 (plan_of c.args.plan.now))
fit_all c = λ i t low high t_low t_high. c.loop-item.invariant.fit i t low (omega (arith, c.loop-item-test.false, c.items-item-end.ensures.value, high)) t_low t_high

pub returns-clause-text : goal.returns-clause-text
returns-clause-text c =
    let m = c.args.instance.now in
    let p = plan_of c.args.plan.now in
    let e : c.loop-item.item - 1 ≡ item_count m = omega (arith, c.loop-item-test.false, c.loop-item.auto.item-end, c.items-item-end.ensures.value) in
    c.in_ok-bytes.ensures (plan_records m p) (subst (λ n. HasWritten c.loop-item.writer (header ∷ lists_to n (records_of_item m p))) e c.loop-item.invariant.rows) ∙ plan_written m p c.an_instance_breaks_no_rule.ensures.limits (fit_all c)

pub returns-clause-short : goal.returns-clause-short
returns-clause-short c = subst (λ bytes. length bytes ≤ MAX_FILE) (sym (returns-clause-text c)) (texts_are_short c.args.instance.now (plan_of c.args.plan.now) c.an_instance_breaks_no_rule.ensures.limits (fit_all c))

pub returns-clause-read : goal.returns-clause-read
returns-clause-read c =
    let m = c.args.instance.now in
    let p = plan_of c.args.plan.now in
    subst (λ bytes. IsPlanOf m (records_of bytes) p) (sym (returns-clause-text c)) (text_read m p c.an_instance_breaks_no_rule.ensures.limits (fit_all c))
