use Rattle.std.proofs.Common.{◌≡◌, ◌-◌, subst, arith}
use Rattle.lp_relaxation.specs.Names.{PutNames, name_in, names_to}
use Rattle.lp_relaxation.proofs.Listing.{put_names, put_none}
use Rattle.lp_relaxation.proofs.names.put_periods.Goals as goal

pub loop-period-init : goal.loop-period-init
loop-period-init c = put_none c.args.instance.now c.args.names.now.items

pub loop-period-preserved : goal.loop-period-preserved
loop-period-preserved c =
    put_names c.args.instance.now (name_in c.args.kind c.args.first) c.loop-period.period c.args.names.now.items c.loop-period.names.items c.put_name.new.names.items c.loop-period.auto.period c.loop-period.invariant c.in_ok-put_name.ensures

pub returns : goal.returns
returns c =
    let e : c.loop-period.period - 1 ≡ c.args.instance.now.periods = omega (arith, c.loop-period-test.false, c.loop-period.auto.period-end, c.loop-period.auto.period, c.periods-period-end.ensures.value) in
    subst (λ n. PutNames c.args.instance.now c.args.names.now.items (names_to n (name_in c.args.kind c.args.first)) c.loop-period.names.items) e c.loop-period.invariant
