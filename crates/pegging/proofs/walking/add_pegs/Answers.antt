use Rattle.std.proofs.Common.{◌≤◌, ◌+◌, ◌-◌, ◌++◌, ℕ, List, get_or, arith, sym, subst}
use Rattle.std.specs.List.{All}
use Rattle.std.proofs.lemmas.List.{get_or_default}
use Rattle.plan_rules.specs.Held.{plan_of}
use Rattle.pegging.specs.declared.pegs.Peg.{Peg}
use Rattle.pegging.specs.declared.pegs.Supply.TheVariants.{Opening}
use Rattle.pegging.specs.declared.pegs.Target.TheVariants.{Demand}
use Rattle.pegging.specs.Pegs.{needed, peg_of, pegs_of_item, supplied}
use Rattle.pegging.specs.Sums.{IsSupplyOf, IsTargetOf}
use Rattle.pegging.proofs.Timing.{supplies_exist, targets_exist}
use Rattle.pegging.proofs.Walk.{IsWalked, need_goes, needs_end, supply_goes}
use Rattle.pegging.proofs.walking.add_pegs.Goals as goal

pub supplied-requires-clause-supply : goal.supplied-requires-clause-supply
supplied-requires-clause-supply c =
    let m = c.args.instance.now in
    subst (λ list. All (IsSupplyOf m) list) (sym c.requires.supplies) (supplies_exist m) c.loop-supply.supply Opening c.loop-supply-test.true

pub needed-requires-clause-target : goal.needed-requires-clause-target
needed-requires-clause-target c =
    let m = c.args.instance.now in
    subst (λ list. All (IsTargetOf m) list) (sym c.requires.targets) (targets_exist m) c.loop-supply.target (Demand 0) c.if-target-targets.true

pub loop-supply-preserved-then-left-asked : goal.loop-supply-preserved-then-left-asked
loop-supply-preserved-then-left-asked c =
    let m = c.args.instance.now in
    let p = plan_of c.args.plan.now in
    let i = c.args.item in
    let s = supplied m p i in
    let t = needed m p i in
    let xs = c.args.supplies.now in
    let ys = c.args.targets.now in
    let a = c.loop-supply.supply in
    let b = c.loop-supply.target in
    let u = c.loop-supply.used in
    let v = c.loop-supply.met in
    let pegs = c.loop-supply.pegs.items in
    let whole = c.args.pegs.now.items ++ pegs_of_item m p i in
    let x = get_or xs a Opening in
    let y = get_or ys b (Demand 0) in
    let a_in = c.loop-supply-test.true in
    let b_in = c.if-target-targets.true in
    let less : s x - u ≤ t y - v = omega (arith, c.if-left-asked.true, c.supplied.ensures, c.needed.ensures) in
    let goes = supply_goes i s t xs ys whole a b u v pegs x y a_in b_in (get_or_default xs a Opening x a_in) (get_or_default ys b (Demand 0) y b_in) less c.loop-supply.invariant in
    let left : ℕ → List Peg → Type 0 = λ n list. IsWalked i s t xs ys whole (a + 1) b 0 (v + (n - u)) list in
    subst (λ list. left c.supplied.result list) (sym c.in_ok-add_peg.ensures) (subst (λ n. left n (pegs ++ peg_of i x y (n - u))) (sym c.supplied.ensures) goes)

pub loop-supply-preserved : goal.loop-supply-preserved
loop-supply-preserved c =
    let m = c.args.instance.now in
    let p = plan_of c.args.plan.now in
    let i = c.args.item in
    let s = supplied m p i in
    let t = needed m p i in
    let xs = c.args.supplies.now in
    let ys = c.args.targets.now in
    let a = c.loop-supply.supply in
    let b = c.loop-supply.target in
    let u = c.loop-supply.used in
    let v = c.loop-supply.met in
    let pegs = c.loop-supply.pegs.items in
    let whole = c.args.pegs.now.items ++ pegs_of_item m p i in
    let x = get_or xs a Opening in
    let y = get_or ys b (Demand 0) in
    let a_in = c.loop-supply-test.true in
    let b_in = c.if-target-targets.true in
    let less : t y - v ≤ s x - u = omega (arith, c.if-left-asked.false, c.supplied.ensures, c.needed.ensures) in
    let goes = need_goes i s t xs ys whole a b u v pegs x y a_in b_in (get_or_default xs a Opening x a_in) (get_or_default ys b (Demand 0) y b_in) less c.loop-supply.invariant in
    let asked : ℕ → List Peg → Type 0 = λ n list. IsWalked i s t xs ys whole a (b + 1) (u + (n - v)) 0 list in
    subst (λ list. asked c.needed.result list) (sym c.in_ok-add_peg-2.ensures) (subst (λ n. asked n (pegs ++ peg_of i x y (n - v))) (sym c.needed.ensures) goes)

pub returns-else-target-targets : goal.returns-else-target-targets
returns-else-target-targets c =
    let m = c.args.instance.now in
    let p = plan_of c.args.plan.now in
    let i = c.args.item in
    needs_end i (supplied m p i) (needed m p i) c.args.supplies.now c.args.targets.now (c.args.pegs.now.items ++ pegs_of_item m p i) c.loop-supply.supply c.loop-supply.target c.loop-supply.used c.loop-supply.met c.loop-supply.pegs.items c.if-target-targets.false c.loop-supply.invariant
