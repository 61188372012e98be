-- Rows of states in numbers of 64 bits are tables of the levels that their lists are of.
use Rattle.std.proofs.Common.{◌≡◌, ◌≤◌, ◌<◌, ◌+◌, ◌*◌, ⊎_elim, inl, inr, ℕ, suc, refl, subst, arith, List, length}
use Rattle.chain_dp.specs.declared.lists.LevelLists.{LevelLists}
use Rattle.chain_dp.specs.Chains.{Level}
use Rattle.chain_dp.specs.Numbers.{most}
use Rattle.chain_dp.specs.Lists.{AreListsOf, asked_between, at, cell, mid_at, plane_of, row_of, top_at}
use Rattle.chain_dp.specs.Tables.{AreStretches}
use Rattle.chain_dp.specs.States.{AreTables, IsMove, IsNarrowEnd, IsStateRow, ending, most_64, moving, opening, state}
use Rattle.chain_dp.specs.Costs.{IsCostOfThree, IsLeastOfThree}
use Rattle.chain_dp.proofs.Prices.{IsChainEnd, IsChainTable, asked, lot_fee, mid_price, top_price}
use Rattle.chain_dp.proofs.Steps.{AreStretchSteps, HasChainSteps, IsEndStep, IsPlaneStep}
use Rattle.chain_dp.proofs.Bounds.{chain_bound}
use Rattle.chain_dp.proofs.Choices.{chain_reached}
use Rattle.chain_dp.proofs.Tabled.{asked_is, chain_of, fee_is, mid_is, product, steps_are, stretches_are, top_is}

-- what the code has of three levels
pub record AreNarrow (low mid top : LevelLists) (stretches : List (List ℕ)) (table : List (List (List ℕ))) (lots G : ℕ) : Type 0 where
  pub count : length stretches ≡ lots
  pub wide : (v : ℕ) → v < lots → length (row_of stretches v) ≡ lots + 1
  pub rows : AreStretches low stretches
  pub width : length top.asked.items ≡ lots + 1
  pub states : AreTables low mid top stretches lots table
  pub end : IsNarrowEnd low mid stretches table lots lots G

row_at : (low mid top : LevelLists) (stretches : List (List ℕ)) (table : List (List (List ℕ))) (periods G : ℕ) → AreNarrow low mid top stretches table (suc periods) G → (b v : ℕ) → v ≤ b → b ≤ periods
    → IsStateRow low mid top stretches table b v (row_of (plane_of table b) v)
row_at low mid top stretches table periods G are b v order high = (are.states.each b (omega (arith, high))).each v (omega (arith, order))

-- the costs of steps, and of an end
moving_is : (periods : ℕ) (l m : Level) (low mid : LevelLists) (stretches : List (List ℕ)) (table : List (List (List ℕ))) → AreListsOf periods l low → AreListsOf periods m mid → (v b z u e : ℕ) → u ≤ e → e < b → b ≤ periods
    → moving low mid stretches table b v z u e ≡ state table e u z + mid_price l m l.per_next e u * asked m e b + cell stretches u v + m.setup_cost b
moving_is periods l m low mid stretches table is_low is_mid v b z u e order before high =
    omega (
      arith,
      product (mid_at low mid u e) (mid_price l m l.per_next e u) (asked_between mid e b) (asked m e b) (mid_is periods l m low mid is_low is_mid u e (omega (arith, order, before, high)) (omega (arith, before, high))) (asked_is periods m mid is_mid e b (omega (arith, before, high)) (omega (arith, high))),
      is_mid.setup_cost b (omega (arith, before)) high,
    )

opening_is : (periods : ℕ) (l m t : Level) (low mid top : LevelLists) (row : List ℕ) → AreListsOf periods l low → AreListsOf periods m mid → AreListsOf periods t top → (b v z k : ℕ) → v ≤ b → b ≤ k → k < z → z ≤ suc periods
    → opening low mid top row b v z k ≡ at row k + lot_fee t k + top_price (chain_of l m t) k b v * asked t k z
opening_is periods l m t low mid top row is_low is_mid is_top b v z k order before first high =
    omega (
      arith,
      product (top_at low mid top v b k) (top_price (chain_of l m t) k b v) (asked_between top k z) (asked t k z) (top_is periods l m t low mid top is_low is_mid is_top v b k (omega (arith, order, before, first, high)) (omega (arith, before, first, high)) (omega (arith, first, high))) (asked_is periods t top is_top k z (omega (arith, first, high)) high),
      fee_is periods t top is_top k (omega (arith, first, high)),
    )

ending_is : (periods : ℕ) (l m : Level) (low mid : LevelLists) (stretches : List (List ℕ)) (table : List (List (List ℕ))) → AreListsOf periods l low → AreListsOf periods m mid → (b v : ℕ) → v ≤ b → b ≤ periods
    → ending low mid stretches table (suc periods) b v ≡ state table b v (suc periods) + (mid_price l m l.per_next b v * asked m b (suc periods) + cell stretches v (suc periods))
ending_is periods l m low mid stretches table is_low is_mid b v order high =
    omega (
      arith,
      product (mid_at low mid v b) (mid_price l m l.per_next b v) (asked_between mid b (suc periods)) (asked m b (suc periods)) (mid_is periods l m low mid is_low is_mid v b (omega (arith, order, high)) high) (asked_is periods m mid is_mid b (suc periods) (omega (arith, high)) (omega arith)),
    )

narrow_table : (periods : ℕ) (l m t : Level) (low mid top : LevelLists) (stretches : List (List ℕ)) (table : List (List (List ℕ))) (G : ℕ) → AreListsOf periods l low → AreListsOf periods m mid → AreListsOf periods t top → AreNarrow low mid top stretches table (suc periods) G
    → IsChainTable periods (chain_of l m t) (λ v z. cell stretches v z) (λ v b z. state table b v z)
narrow_table periods l m t low mid top stretches table G is_low is_mid is_top are = record {
  stretches = stretches_are periods l low stretches is_low are.count are.wide are.rows;
  start = (row_at low mid top stretches table periods G are 0 0 (omega arith) (omega arith)).start refl;
  planes = λ z some high. record {
    next = λ v b w k order before within first last.
        omega (
          arith,
          (row_at low mid top stretches table periods G are k w last (omega (arith, within))).enter v b z order before first (omega (arith, within)) (omega (arith, high, are.width)),
          moving_is periods l m low mid stretches table is_low is_mid w k z v b order before (omega (arith, within)),
        );
  };
  top = λ v b k z order opened before high.
      omega (
        arith,
        (row_at low mid top stretches table periods G are b v order (omega (arith, opened, before, high))).opens k z opened before (omega (arith, high, are.width)),
        opening_is periods l m t low mid top (row_of (plane_of table b) v) is_low is_mid is_top b v z k order opened before high,
      );
}

fewer_steps : (periods : ℕ) (l : Level) (A : ℕ → ℕ → ℕ) → AreStretchSteps most periods l A → AreStretchSteps most_64 periods l A
fewer_steps periods l A are v h = record {
  next = λ z low high small. (are v h).next z low high (omega (arith, small));
  last = λ small. (are v h).last (omega (arith, small));
}

move_of : (periods : ℕ) (l m : Level) (low mid : LevelLists) (stretches : List (List ℕ)) (table : List (List (List ℕ))) → AreListsOf periods l low → AreListsOf periods m mid → (v b z x : ℕ) → b ≤ periods → IsMove low mid stretches table b v z x
    → IsPlaneStep l m l.per_next (λ u k. cell stretches u k) (λ u e. state table e u z) v b x
move_of periods l m low mid stretches table is_low is_mid v b z x high move = record {
  served = move.served;
  lot = move.lot;
  order = move.order;
  before = move.before;
  within = move.within;
  cost = omega (arith, move.cost, moving_is periods l m low mid stretches table is_low is_mid v b z move.served move.lot move.order move.before high);
}

narrow_steps : (periods : ℕ) (l m t : Level) (low mid top : LevelLists) (stretches : List (List ℕ)) (table : List (List (List ℕ))) (G : ℕ) → AreListsOf periods l low → AreListsOf periods m mid → AreListsOf periods t top → AreNarrow low mid top stretches table (suc periods) G
    → HasChainSteps most_64 periods (chain_of l m t) (λ v z. cell stretches v z) (λ v b z. state table b v z)
narrow_steps periods l m t low mid top stretches table G is_low is_mid is_top are = record {
  stretches = fewer_steps periods l (λ v z. cell stretches v z) (steps_are periods l low stretches is_low are.count are.wide are.rows);
  steps = λ v b z order before high some last small.
      ⊎_elim
      (λ step. inl (record {
        lot = step.0;
        low = step.1;
        high = step.2;
        cost = omega (arith, step.3, opening_is periods l m t low mid top (row_of (plane_of table b) v) is_low is_mid is_top b v z step.0 order step.1 step.2 last);
      }))
      (λ move. inr (move_of periods l m low mid stretches table is_low is_mid v b z (state table b v z) high move))
      ((row_at low mid top stretches table periods G are b v order high).some z some before (omega (arith, last, are.width)) small);
}

narrow_end : (periods : ℕ) (l m t : Level) (low mid top : LevelLists) (stretches : List (List ℕ)) (table : List (List (List ℕ))) (G : ℕ) → AreListsOf periods l low → AreListsOf periods m mid → AreNarrow low mid top stretches table (suc periods) G
    → IsChainEnd periods (chain_of l m t) (λ v z. cell stretches v z) (λ v b z. state table b v z) G
narrow_end periods l m t low mid top stretches table G is_low is_mid are v b order high =
    omega (arith, are.end.within b v order (omega (arith, high)), ending_is periods l m low mid stretches table is_low is_mid b v order high)

narrow_end_step : (periods : ℕ) (l m : Level) (low mid top : LevelLists) (stretches : List (List ℕ)) (table : List (List (List ℕ))) (G : ℕ) → AreListsOf periods l low → AreListsOf periods m mid → AreNarrow low mid top stretches table (suc periods) G → G < most_64
    → IsEndStep periods l m l.per_next (λ v z. cell stretches v z) (λ v b. state table b v (suc periods)) G
narrow_end_step periods l m low mid top stretches table G is_low is_mid are small =
    let found = are.end.some small in
    record {
      served = found.1;
      lot = found.0;
      order = found.2;
      high = omega (arith, found.3);
      cost = omega (arith, found.4, ending_is periods l m low mid stretches table is_low is_mid found.0 found.1 found.2 (omega (arith, found.3)));
    }

narrow_at : (periods : ℕ) (l m t : Level) (low mid top : LevelLists) (stretches : List (List ℕ)) (table : List (List (List ℕ))) (G : ℕ) → AreListsOf periods l low → AreListsOf periods m mid → AreListsOf periods t top → AreNarrow low mid top stretches table (suc periods) G → G < most_64
    → IsLeastOfThree periods l m t G
narrow_at periods l m t low mid top stretches table G is_low is_mid is_top are small =
    let A = λ (v z : ℕ). cell stretches v z in
    let S = λ (v b z : ℕ). state table b v z in
    let is = narrow_table periods l m t low mid top stretches table G is_low is_mid is_top are in
    record {
      some = λ within.
          let all = chain_reached most_64 periods (chain_of l m t) A S G is.stretches (narrow_steps periods l m t low mid top stretches table G is_low is_mid is_top are) (narrow_end_step periods l m low mid top stretches table G is_low is_mid are small) small in
          (all.first, all.second, all.third, all.low_made, all.mid_made, all.top_made, all.cost);
      least = λ w u x low_made mid_made top_made. chain_bound periods (chain_of l m t) A S G is (narrow_end periods l m t low mid top stretches table G is_low is_mid are) w u x low_made mid_made top_made;
    }

pub narrow_three : (low mid top : LevelLists) (stretches : List (List ℕ)) (table : List (List (List ℕ))) (lots G : ℕ) → AreNarrow low mid top stretches table lots G → G < most_64 → IsCostOfThree low mid top G
narrow_three low mid top stretches table lots G are small periods l m t is_low is_mid is_top =
    let e : lots ≡ suc periods = omega (arith, are.width, is_top.needs) in
    narrow_at periods l m t low mid top stretches table G is_low is_mid is_top (subst (λ n. AreNarrow low mid top stretches table n G) e are) small
