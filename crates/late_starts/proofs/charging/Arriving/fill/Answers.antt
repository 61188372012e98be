use Rattle.std.proofs.Common.{◌≡◌, ◌+◌, sym, subst, map, arith}
use Rattle.lot_sizing.specs.Problem.{entry}
use Rattle.must_start.specs.Rows.{row_in, start_in}
use Rattle.late_starts.specs.Rows.{capped, cell_in}
use Rattle.late_starts.specs.Steps.{HasEach, IsLoadedTo, depth_by, load_by}
use Rattle.late_starts.proofs.Loading.{loaded_more}
use Rattle.late_starts.proofs.Places.{row_read}
use Rattle.late_starts.specs.Charges.{arriving_load}
use Rattle.std.proofs.lemmas.List.{length-map}
use Rattle.late_starts.proofs.charging.Arriving.fill.Goals as goal

pub returns : goal.returns
returns c =
    let m = c.args.instance.now in
    let rows = map (λ v. v.items) c.args.shares.now in
    let rank = entry c.args.ranks.now in
    let j = c.args.item in
    let row : c.deref-row.result.now ≡ row_in rows j = row_read c.args.shares.now j c.index-shares-item.result c.deref-row.result.now c.requires.low (omega (arith, length-map c.args.shares.now (λ v. v.items), c.requires.shares.size, c.requires.high)) c.index-shares-item.is c.deref-row.ensures.value in
    let found = subst (λ r. HasEach m.periods (λ v. capped (arriving_load m (start_in c.args.on_time.now) (λ _. entry r) j v)) c.in_ok-row.row.items) c.deref.ensures.value c.in_ok-row.ensures in
    let loads = subst (λ r. HasEach m.periods (λ v. capped (load_by m c.args.self.now (entry r v) j v)) c.in_ok-loads.loads.items) row c.in_ok-loads.ensures in
    subst (IsLoadedTo m (start_in c.args.on_time.now) (cell_in rows) (depth_by m rank) (depth_by m rank j) (j + 1)) (sym c.put.ensures)
    (loaded_more m (start_in c.args.on_time.now) (cell_in rows) rank j c.args.self.now c.in_ok-loads.loads.items c.in_ok-row.row.items c.requires.ranks c.requires.small c.requires.low c.requires.high c.requires.before loads found)
