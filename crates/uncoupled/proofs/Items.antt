-- Best rows of items.
use Rattle.std.proofs.Common.{◌≡◌, ◌≢◌, ◌≤◌, ◌+◌, ◌∙◌, ⊎_elim, ℕ, refl, sym, subst, arith, List}
use Rattle.std.proofs.lemmas.Bool.{cases_lt}
use Rattle.lot_sizing.specs.Sums.{sum_to}
use Rattle.lot_sizing.specs.Problem.{Problem, item_count}
use Rattle.lot_sizing.specs.declared.Block.{Block}
use Rattle.lot_sizing.specs.Single.{Cover, IsLeastNetCost, IsNetPlan, NetPlan, Single, blocks_cost, blocks_plan, net_cost, net_cost_at, period_count}
use Rattle.lot_sizing.specs.Net.{IsBestChoice, IsSingleOf, choice}
use Rattle.lot_sizing.specs.Laws.{BlocksServe}
use Rattle.lot_sizing.proofs.Sums.{sum_to-same}
use Rattle.plan_rules.specs.Cells.{Cells, table_of}
use Rattle.plan_rules.specs.Rows.{OtherRowsSame}
use Rattle.echelon.specs.Views.{single_in}
use Rattle.echelon.proofs.Singles.{is_single}
use Rattle.uncoupled.specs.Rows.{AreBestBefore, IsBestRow}

-- the same quantities and setups in each period
pub record IsSameChoice (s : Single) (p q : NetPlan) : Type 0 where
  pub make : (t : ℕ) → 1 ≤ t → t ≤ period_count s → q.make t ≡ p.make t
  pub setup : (t : ℕ) → 1 ≤ t → t ≤ period_count s → q.setup t ≡ p.setup t

made_to : (s : Single) (p q : NetPlan) → IsSameChoice s p q → (t : ℕ) → t ≤ period_count s → sum_to t q.make ≡ sum_to t p.make
made_to s p q same t h = sum_to-same t q.make p.make (λ u low high. same.make u low (omega (arith, high, h)))

same_plan : (s : Single) (p q : NetPlan) → IsSameChoice s p q → IsNetPlan s p → IsNetPlan s q
same_plan s p q same plan = record {
  setup = λ t low high. omega (arith, same.setup t low high, plan.setup t low high);
  made = λ t low high some. same.setup t low high ∙ plan.made t low high (omega (arith, some, same.make t low high));
  served = omega (arith, plan.served, made_to s p q same (period_count s) (omega arith));
  in_time = λ none t low high. omega (arith, plan.in_time none t low high, made_to s p q same t high);
}

same_cost_at : (s : Single) (p q : NetPlan) → IsSameChoice s p q → (t : ℕ) → 1 ≤ t → t ≤ period_count s → net_cost_at s q t ≡ net_cost_at s p t
same_cost_at s p q same t low high = rw (same.setup t low high, same.make t low high, made_to s p q same t high) refl

same_cost : (s : Single) (p q : NetPlan) → IsSameChoice s p q → net_cost s q ≡ net_cost s p
same_cost s p q same = sum_to-same (period_count s) (net_cost_at s q) (net_cost_at s p) (same_cost_at s p q same)

pub same_best : (m : Problem) (i : ℕ) (s : Single) (p q : NetPlan) → IsSameChoice s p q → IsBestChoice m i s p → IsBestChoice m i s q
same_best m i s p q same best = record {
  serves = record {
    single = best.serves.single;
    plan = same_plan s p q same best.serves.plan;
    even = made_to s p q same (period_count s) (omega arith) ∙ best.serves.even;
  };
  least = λ other net. omega (arith, same_cost s p q same, best.least other net);
}

-- blocks of least cost make a best choice
pub blocks_best : (m : Problem) (i : ℕ) (s : Single) (blocks : List Block) (c : ℕ) → BlocksServe → IsSingleOf m i s → Cover s blocks → IsLeastNetCost s c → blocks_cost s blocks ≡ c → IsBestChoice m i s (blocks_plan s blocks)
blocks_best m i s blocks c serve single cover least costs =
    let (plan, most, even) = serve s blocks cover in
    record { serves = record { single = single; plan = plan; even = even }; least = λ other net. omega (arith, most, costs, least.least other net) }

-- one more row is best
pub next_best : (m : Problem) (make setup make_new setup_new : Cells) (item : ℕ) → AreBestBefore m make setup item → item ≤ item_count m → make_new.items ≡ make.items → make_new.periods ≡ make.periods → setup_new.items ≡ setup.items → setup_new.periods ≡ setup.periods → OtherRowsSame make make_new item → OtherRowsSame setup setup_new item → IsBestRow m make_new setup_new item → AreBestBefore m make_new setup_new (item + 1)
next_best m make setup make_new setup_new item before some mi mp si sp other_makes other_setups best = record {
  make_fits = record { items = mi ∙ before.make_fits.items; periods = mp ∙ before.make_fits.periods };
  setup_fits = record { items = si ∙ before.setup_fits.items; periods = sp ∙ before.setup_fits.periods };
  best = λ i low high.
      ⊎_elim
      (λ earlier.
      let s = single_in m i in
      let single = is_single m i in
      let apart : i ≢ item = λ e. omega (arith, e, earlier) in
      same_best m i s (choice (table_of make) (table_of setup) i) (choice (table_of make_new) (table_of setup_new) i) (record {
        make = λ t t_low t_high. other_makes i t low (omega (arith, high, some, before.make_fits.items)) t_low (omega (arith, t_high, single.periods, before.make_fits.periods)) apart;
        setup = λ t t_low t_high. other_setups i t low (omega (arith, high, some, before.setup_fits.items)) t_low (omega (arith, t_high, single.periods, before.setup_fits.periods)) apart;
      }) (before.best i low earlier))
      (λ here. let e : i ≡ item = omega (arith, here, high) in subst (IsBestRow m make_new setup_new) (sym e) best)
      (cases_lt i item);
  no_make = λ i low after high t t_low t_high. other_makes i t low (omega (arith, high, before.make_fits.items)) t_low (omega (arith, t_high, mp)) (λ e. omega (arith, e, after)) ∙ before.no_make i low (omega (arith, after)) high t t_low (omega (arith, t_high, mp));
  no_setup = λ i low after high t t_low t_high. other_setups i t low (omega (arith, high, before.setup_fits.items)) t_low (omega (arith, t_high, sp)) (λ e. omega (arith, e, after)) ∙ before.no_setup i low (omega (arith, after)) high t t_low (omega (arith, t_high, sp));
}
