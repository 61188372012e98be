use Rattle.std.proofs.Common.{◌≡◌, ◌-◌, refl, arith, subst}
use Rattle.lot_sizing.specs.Problem.{item_count}
use Rattle.echelon.specs.Weights.{weight_in}
use Rattle.item_bound.specs.Steps.{AreApartTo}
use Rattle.item_bound.proofs.Adding.{none_yet}
use Rattle.item_bound.proofs.Whole.{whole_amount, whole_columns, whole_cuts, whole_floor, whole_hold, whole_leaf, whole_small}
use Rattle.item_bound.proofs.bound.apart.Goals as goal

pub loop-item-init : goal.loop-item-init
loop-item-init c = none_yet c.args.instance.now _ (weight_in c.in_ok-explosion.explosion) c.in_ok-explosion.ensures.rows.weights refl c.new.ensures.items c.new-2.ensures.items

pub returns-clause-amount : goal.returns-clause-amount
returns-clause-amount c =
    let m = c.args.instance.now in
    let e : c.loop-item.item - 1 ≡ item_count m = omega arith in
    whole_amount m c.in_ok-explosion.ensures.instance.limits c.loop-item.found (subst (λ n. AreApartTo m n c.loop-item.found) e c.loop-item.invariant)

pub returns-clause-floor : goal.returns-clause-floor
returns-clause-floor c =
    let m = c.args.instance.now in
    let instance = c.in_ok-explosion.ensures.instance in
    let e : c.loop-item.item - 1 ≡ item_count m = omega arith in
    whole_floor m instance.limits c.loop-item.found (subst (λ n. AreApartTo m n c.loop-item.found) e c.loop-item.invariant) c.leaves_bound.ensures c.plans_are_within.ensures instance

pub returns-clause-small : goal.returns-clause-small
returns-clause-small c =
    let m = c.args.instance.now in
    let e : c.loop-item.item - 1 ≡ item_count m = omega arith in
    whole_small m c.in_ok-explosion.ensures.instance.limits c.loop-item.found (subst (λ n. AreApartTo m n c.loop-item.found) e c.loop-item.invariant)

pub returns-clause-cuts : goal.returns-clause-cuts
returns-clause-cuts c =
    let m = c.args.instance.now in
    let e : c.loop-item.item - 1 ≡ item_count m = omega arith in
    whole_cuts m c.in_ok-explosion.ensures.instance.limits c.loop-item.found (subst (λ n. AreApartTo m n c.loop-item.found) e c.loop-item.invariant)

pub returns-clause-hold : goal.returns-clause-hold
returns-clause-hold c =
    let m = c.args.instance.now in
    let e : c.loop-item.item - 1 ≡ item_count m = omega arith in
    whole_hold m c.in_ok-explosion.ensures.instance.limits c.loop-item.found (subst (λ n. AreApartTo m n c.loop-item.found) e c.loop-item.invariant)

pub returns-clause-columns_exist : goal.returns-clause-columns_exist
returns-clause-columns_exist c =
    let m = c.args.instance.now in
    let e : c.loop-item.item - 1 ≡ item_count m = omega arith in
    whole_columns m c.in_ok-explosion.ensures.instance.limits c.loop-item.found (subst (λ n. AreApartTo m n c.loop-item.found) e c.loop-item.invariant)

pub returns-clause-leaf : goal.returns-clause-leaf
returns-clause-leaf c =
    let m = c.args.instance.now in
    let e : c.loop-item.item - 1 ≡ item_count m = omega arith in
    whole_leaf m c.in_ok-explosion.ensures.instance.limits c.loop-item.found (subst (λ n. AreApartTo m n c.loop-item.found) e c.loop-item.invariant)
