use Rattle.std.proofs.Common.{ℕ, ◌+◌, ◌-◌, ◌*◌, ◌^◌, ◌∙◌, ap}
use Rattle.std.specs.Prelude.{min}
use Rattle.lot_sizing.specs.Problem.{per_unit}
use Rattle.late_starts.specs.Rows.{cell_in}
use Rattle.late_starts.proofs.Loading.{put_next}
use Rattle.late_starts.proofs.charging.load_of.Goals as goal

pub loop-component-preserved : goal.loop-component-preserved
loop-component-preserved c =
    let m = c.args.instance.now in
    let k = c.loop-component.component in
    let f = λ (i : ℕ). per_unit m i c.args.item * cell_in c.args.arriving.now i c.args.period in
    put_next (2 ^ 128 - 1) k c.args.share c.loop-component.load c.from-units.result c.at.result c.saturating_add-load.result f c.loop-component.auto.component c.loop-component.invariant
    (ap (λ x. x * c.at.result) (c.from-units.ensures ∙ c.per_unit.ensures.value) ∙ ap (λ x. per_unit m k c.args.item * x) c.at.ensures)
    (c.saturating_add-load.ensures ∙ ap (λ x. min (c.loop-component.load + x) (2 ^ 128 - 1)) c.saturating_mul.ensures)
