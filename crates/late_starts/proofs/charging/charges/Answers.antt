use Rattle.std.proofs.Common.{map}
use Rattle.lot_model.proofs.Bills.{map_ok}
use Rattle.must_start.specs.Rows.{start_in}
use Rattle.late_starts.specs.Rows.{AreCappedCharges, cell_in}
use Rattle.late_starts.specs.Steps.{HaveCharges}
use Rattle.late_starts.proofs.Loading.{charged_all}
use Rattle.late_starts.proofs.charging.charges.Goals as goal

pub returns : goal.returns
returns c =
    let m = c.args.instance.now in
    let start = start_in c.args.on_time.now in
    let share = cell_in (map (λ v. v.items) c.args.shares.now) in
    map_ok c.rows_of.result (λ found. HaveCharges m c.in_ok-arriving.arriving (map (λ v. v.items) found.items)) (λ found. AreCappedCharges m start share (map (λ v. v.items) found.items)) (λ found have. charged_all m start share c.in_ok-arriving.arriving (map (λ v. v.items) found.items) c.in_ok-arriving.ensures have) c.rows_of.ensures
