use Rattle.std.proofs.Common.{◌≡◌, ◌-◌, ◌∷◌, [], ⊎_elim, sym, subst, arith}
use Rattle.std.proofs.lemmas.Bool.{cases_lt}
use Rattle.plan_rules.specs.Held.{plan_of}
use Rattle.csv_records.specs.Written.{HasAdded}
use Rattle.csv_records.proofs.ReadBack.{added_more}
use Rattle.plan_file.specs.Written.{FitIn64, list_to, record_of}
use Rattle.plan_file.proofs.Written.{list_to_more}
use Rattle.plan_file.proofs.writing.add_item.Goals as goal

pub loop-period-preserved : goal.loop-period-preserved
loop-period-preserved c =
    let t = c.loop-period.period in
    let p = plan_of c.args.plan.now in
    let f = record_of c.args.instance.now p c.args.item in
    record {
      rows = subst (HasAdded c.args.writer.now c.add_row.new.writer) (sym (list_to_more t f c.loop-period.auto.period)) (added_more c.args.writer.now c.loop-period.writer c.add_row.new.writer (list_to (t - 1) f) (f t ∷ []) c.loop-period.invariant.rows c.in_ok-add_row.ensures.row);
      fit = λ u low high. ⊎_elim (λ before. c.loop-period.invariant.fit u low before) (λ no. let e : u ≡ t = omega (arith, no, high) in subst (FitIn64 p c.args.item) (sym e) c.in_ok-add_row.ensures.fit) (cases_lt u t);
    }
