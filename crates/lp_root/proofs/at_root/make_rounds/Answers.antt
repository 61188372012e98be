use Rattle.std.proofs.Common.{◌≡◌, ◌-◌, ap, arith, subst}
use Rattle.std.specs.Prelude.{map, IfSome}
use Rattle.cert_lines.specs.Shapes.{cut_shape}
use Rattle.lp_root.specs.declared.at_root.TheConstants.{MAX_ROUNDS}
use Rattle.lp_root.specs.RootSteps.{EndsRounds, shapes}
use Rattle.lp_root.proofs.RootRounds.{figured}
use Rattle.lp_root.proofs.RootWhole.{last_stops, rounds_mean, rounds_writable}
use Rattle.lp_root.proofs.at_root.make_rounds.Goals as goal

pub returns-in-Some : goal.returns-in-Some
returns-in-Some c =
    let m = c.args.instance.now in
    let list = c.make_round.new.state.list in
    let v = c.in-Some.verdict in
    let figures = figured m c.in_ok-explosion.explosion c.in_ok-explosion.ensures in
    let ends = subst (λ end. IfSome end (λ v. EndsRounds m v (shapes list) list.rows.items)) c.in-Some.is c.in_ok-verdict.ensures.ends in
    let r = c.root_of.result in
    let same = ap (λ v. map cut_shape v.items) c.root_of.ensures.cuts in
    record {
      means = rounds_mean m figures c.requires.tried v (shapes list) list.rows.items ends r c.root_of.ensures.says same c.root_of.ensures.leaf;
      writable = rounds_writable m figures c.requires.tried c.in_ok-explosion.ensures.instance.limits v (shapes list) list.rows.items ends r same c.root_of.ensures.leaf;
    }

pub returns : goal.returns
returns c =
    let m = c.args.instance.now in
    let state = c.loop-round.state in
    let v = c.without_leaf-stopped.result in
    let figures = figured m c.in_ok-explosion.explosion c.in_ok-explosion.ensures in
    let last : c.loop-round.round - 1 ≡ MAX_ROUNDS = omega (arith, c.loop-round-test.false, c.loop-round.auto.round-end) in
    let ends = last_stops m figures (c.loop-round.round - 1) last state c.loop-round.invariant v c.without_leaf-stopped.ensures.says c.without_leaf-stopped.ensures.leaf in
    let r = c.root_of-2.result in
    let same = ap (λ v. map cut_shape v.items) c.root_of-2.ensures.cuts in
    record {
      means = rounds_mean m figures c.requires.tried v (shapes state.list) state.list.rows.items ends r c.root_of-2.ensures.says same c.root_of-2.ensures.leaf;
      writable = rounds_writable m figures c.requires.tried c.in_ok-explosion.ensures.instance.limits v (shapes state.list) state.list.rows.items ends r same c.root_of-2.ensures.leaf;
    }
