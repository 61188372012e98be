use Rattle.std.proofs.Common.{◌≡◌, ◌-◌, subst, arith}
use Rattle.lp_relaxation.specs.Names.{PutNames, cell_names, count_in, name_in}
use Rattle.lp_relaxation.proofs.Listing.{put_cells, put_none}
use Rattle.lp_relaxation.proofs.names.put_kind.Goals as goal

pub loop-first-init : goal.loop-first-init
loop-first-init c = put_none c.args.instance.now c.args.names.now.items

pub loop-first-preserved : goal.loop-first-preserved
loop-first-preserved c =
    put_cells c.args.instance.now c.args.instance.now.periods (name_in c.args.kind) c.loop-first.first c.args.names.now.items c.loop-first.names.items c.put_periods.new.names.items c.loop-first.auto.first c.loop-first.invariant c.in_ok-put_periods.ensures

pub returns : goal.returns
returns c =
    let e : c.loop-first.first - 1 ≡ count_in c.args.instance.now c.args.kind = omega (arith, c.loop-first-test.false, c.loop-first.auto.first-end, c.loop-first.auto.first, c.count_in-first-end.ensures.value) in
    subst (λ n. PutNames c.args.instance.now c.args.names.now.items (cell_names n c.args.instance.now.periods (name_in c.args.kind)) c.loop-first.names.items) e c.loop-first.invariant
