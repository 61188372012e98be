use Rattle.std.proofs.Common.{◌≡◌, ◌∙◌, ap, sym, subst, arith, IfSome}
use Rattle.lot_sizing.specs.Problem.{IsSeries}
use Rattle.lot_sizing.specs.Single.{ArePotentials, Cover, IsLeastNetCost, Single, blocks_cost, blocks_plan, period_count, position_count, potential}
use Rattle.lot_sizing.specs.Net.{IsBestChoice, IsSingleOf, choice}
use Rattle.lot_sizing.specs.declared.limits.TheConstants.{MAX_AMOUNT}
use Rattle.plan_rules.specs.Cells.{table_of}
use Rattle.echelon.specs.Views.{single_in, single_of_item}
use Rattle.echelon.proofs.Singles.{is_single}
use Rattle.uncoupled.proofs.Items.{blocks_best, next_best, same_best}
use Rattle.uncoupled.proofs.planning.plan_item.Goals as goal

pub set_lots-requires-clause-make : goal.set_lots-requires-clause-make
set_lots-requires-clause-make c =
    let size = ap period_count c.in_ok-single.ensures.single ∙ (is_single c.args.instance.now c.args.item).periods in
    let fits = c.requires.before.make_fits in
    record { low = c.requires.low; high = omega (arith, c.requires.high, fits.items); size = fits.periods ∙ sym size }

pub set_lots-requires-clause-setup : goal.set_lots-requires-clause-setup
set_lots-requires-clause-setup c =
    let size = ap period_count c.in_ok-single.ensures.single ∙ (is_single c.args.instance.now c.args.item).periods in
    let fits = c.requires.before.setup_fits in
    record { low = c.requires.low; high = omega (arith, c.requires.high, fits.items); size = fits.periods ∙ sym size }

pub owing_costs-requires : goal.owing_costs-requires
owing_costs-requires c =
    let s = single_of_item c.in_ok-single.single in
    let size = ap period_count c.in_ok-single.ensures.single ∙ (is_single c.args.instance.now c.args.item).periods ∙ sym c.periods.ensures.value in
    subst (λ n. IfSome s.back (IsSeries n MAX_AMOUNT)) size c.in_ok-single.ensures.within.back

pub returns-clause-rows : goal.returns-clause-rows
returns-clause-rows c =
    let m = c.args.instance.now in
    let i = c.args.item in
    let s = single_of_item c.in_ok-single.single in
    let same : s ≡ single_in m i = c.in_ok-single.ensures.single in
    let blocks = c.deref-2.result.now in
    let cover : Cover s blocks = subst (Cover s) (sym c.deref-2.ensures.value) c.in_ok-found.ensures.solution.cover in
    let costs = ap (blocks_cost s) c.deref-2.ensures.value ∙ c.in_ok-found.ensures.solution.cost in
    let single : IsSingleOf m i s = subst (IsSingleOf m i) (sym same) (is_single m i) in
    let row = choice (table_of c.set_lots.new.make) (table_of c.set_lots.new.setup) i in
    let best = same_best m i s (blocks_plan s blocks) row (record { make = c.set_lots.ensures.make; setup = c.set_lots.ensures.setup }) (blocks_best m i s blocks c.in_ok-found.found.cost c.blocks_serve.ensures single cover c.in_ok-found.ensures.solution.least costs) in
    next_best m c.args.make.now c.args.setup.now c.set_lots.new.make c.set_lots.new.setup i c.requires.before c.requires.high c.set_lots.ensures.make_items c.set_lots.ensures.make_periods c.set_lots.ensures.setup_items c.set_lots.ensures.setup_periods c.set_lots.ensures.other_makes c.set_lots.ensures.other_setups (subst (λ x. IsBestChoice m i x row) same best)

pub returns-clause-proves : goal.returns-clause-proves
returns-clause-proves c =
    let m = c.args.instance.now in
    let i = c.args.item in
    let s = single_of_item c.in_ok-single.single in
    let same : s ≡ single_in m i = c.in_ok-single.ensures.single in
    let is = c.in_ok-found.ensures.solution in
    let steps = c.in_ok-found.found.potentials.items in
    record {
      proves = record {
        setup = ap (λ (x : Single). x.setup) same;
        unit = ap (λ (x : Single). x.unit) same;
        hold = ap (λ (x : Single). x.hold) same;
        back = subst (λ o. IfSome o (λ own. c.in_ok-back.back.items ≡ own)) (ap (λ (x : Single). x.back) same) c.in_ok-back.ensures.own;
        backs = subst (λ n. IsSeries n MAX_AMOUNT c.in_ok-back.back.items) c.periods.ensures.value c.in_ok-back.ensures.series;
        steps = λ k d less. omega (arith, is.bounded k d less);
        potentials = subst (λ x. ArePotentials x steps) same is.potentials;
      };
      least = subst (λ x. IsLeastNetCost x (potential steps (position_count x))) same (subst (IsLeastNetCost s) (sym is.last) is.least);
    }
