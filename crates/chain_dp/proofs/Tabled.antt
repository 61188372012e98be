-- Lists are tables of the levels that they are of.
use Rattle.std.proofs.Common.{◌≡◌, ◌≤◌, ◌<◌, ◌+◌, ◌*◌, ⊎_elim, inl, inr, ◌∙◌, ℕ, zero, suc, refl, ap, subst, arith, List, [], ◌∷◌, length}
use Rattle.chain_dp.specs.declared.lists.LevelLists.{LevelLists}
use Rattle.chain_dp.specs.Chains.{Level}
use Rattle.chain_dp.specs.Numbers.{most}
use Rattle.chain_dp.specs.Lists.{AreListsOf, asked_between, at, cell, mid_at, plane_of, price_at, row_of, top_at}
use Rattle.chain_dp.specs.Tables.{AreChainPlanes, AreFirsts, AreStretches, IsLeastEnd, IsPairPlane, IsPairStep, IsStretchRow, end_cost, lots_up_to, pair_step, step_cost, top_step}
use Rattle.chain_dp.specs.Costs.{IsCostOfOne, IsCostOfThree, IsCostOfTwo, IsLeastOfOne, IsLeastOfThree, IsLeastOfTwo}
use Rattle.chain_dp.proofs.Prices.{Chain, IsChainTable, IsPairEnd, IsPairTable, IsStretchTable, asked, lot_fee, lot_price, low_price, mid_price, top_price}
use Rattle.chain_dp.proofs.Steps.{AreStretchSteps, HasChainSteps, HasPairSteps, HasStretchSteps, IsEndStep, IsPlaneStep}
use Rattle.chain_dp.proofs.Bounds.{chain_bound, one_level_bound, pair_bound}
use Rattle.chain_dp.proofs.Choices.{chain_reached, one_reached, pair_reached}

-- PRICES

pub product : (p q a b : ℕ) → p ≡ q → a ≡ b → p * a ≡ q * b
product p q a b e i = ap (λ k. k * a) e ∙ ap (λ k. q * k) i

price_is : (periods : ℕ) (l : Level) (x : LevelLists) (into sub a below : ℕ) → AreListsOf periods l x → into * sub ≡ a * below → (t : ℕ) → t ≤ periods → price_at x into sub t ≡ lot_price l t (a * below)
price_is periods l x into sub a below is same zero h = is.opening_price
price_is periods l x into sub a below is same (suc t) h = omega (arith, is.unit_cost (suc t) (omega arith) h, same)

low_is : (periods : ℕ) (l : Level) (x : LevelLists) → AreListsOf periods l x → (t : ℕ) → t ≤ periods → at x.unit_cost.items t ≡ low_price l t
low_is periods l x is zero h = is.opening_price
low_is periods l x is (suc t) h = omega (arith, is.unit_cost (suc t) (omega arith) h)

pub fee_is : (periods : ℕ) (l : Level) (x : LevelLists) → AreListsOf periods l x → (t : ℕ) → t ≤ periods → at x.setup_cost.items t ≡ lot_fee l t
fee_is periods l x is zero h = is.first_cost
fee_is periods l x is (suc t) h = is.setup_cost (suc t) (omega arith) h

pub asked_is : (periods : ℕ) (l : Level) (x : LevelLists) → AreListsOf periods l x → (w z : ℕ) → w ≤ suc periods → z ≤ suc periods → asked_between x w z ≡ asked l w z
asked_is periods l x is w z low high = omega (arith, is.asked w low, is.asked z high)

pub mid_is : (periods : ℕ) (l m : Level) (low mid : LevelLists) → AreListsOf periods l low → AreListsOf periods m mid → (v b : ℕ) → v ≤ periods → b ≤ periods → mid_at low mid v b ≡ mid_price l m l.per_next b v
mid_is periods l m low mid is_low is_mid v b first second =
    price_is periods m mid low.per_next (at low.unit_cost.items v) l.per_next (low_price l v) is_mid (product low.per_next l.per_next (at low.unit_cost.items v) (low_price l v) is_low.per_next (low_is periods l low is_low v first)) b second

abbrev pub chain_of : Level → Level → Level → Chain
chain_of l m t = record { low = l; mid = m; top = t; into_mid = l.per_next; into_top = m.per_next }

pub top_is : (periods : ℕ) (l m t : Level) (low mid top : LevelLists) → AreListsOf periods l low → AreListsOf periods m mid → AreListsOf periods t top → (v b k : ℕ) → v ≤ periods → b ≤ periods → k ≤ periods
    → top_at low mid top v b k ≡ top_price (chain_of l m t) k b v
top_is periods l m t low mid top is_low is_mid is_top v b k first second third =
    price_is periods t top mid.per_next (mid_at low mid v b) m.per_next (mid_price l m l.per_next b v) is_top (product mid.per_next m.per_next (mid_at low mid v b) (mid_price l m l.per_next b v) is_mid.per_next (mid_is periods l m low mid is_low is_mid v b first second)) k third

-- ONE LEVEL

step_is : (periods : ℕ) (l : Level) (x : LevelLists) (row : List ℕ) → AreListsOf periods l x → (w z : ℕ) → w ≤ periods → z ≤ suc periods → step_cost row x z w ≡ at row w + low_price l w * asked l w z
step_is periods l x row is w z low high =
    omega (arith, product (at x.unit_cost.items w) (low_price l w) (asked_between x w z) (asked l w z) (low_is periods l x is w low) (asked_is periods l x is w z (omega (arith, low)) high))

row_next : (periods : ℕ) (l : Level) (x : LevelLists) (row : List ℕ) (v : ℕ) → AreListsOf periods l x → IsStretchRow x v row → length row ≡ suc (suc periods) → (w z : ℕ) → v ≤ w → w < z → z ≤ periods → at row z ≤ at row w + low_price l w * asked l w z + l.setup_cost z
row_next periods l x row v is table long w z order before high =
    omega (
      arith,
      (table.next z (omega (arith, order, before)) (omega (arith, long, high))).within w order before,
      step_is periods l x row is w z (omega (arith, before, high)) (omega (arith, high)),
      is.setup_cost z (omega (arith, before)) high,
    )

row_last : (periods : ℕ) (l : Level) (x : LevelLists) (row : List ℕ) (v : ℕ) → AreListsOf periods l x → IsStretchRow x v row → length row ≡ suc (suc periods) → (w : ℕ) → v ≤ w → w ≤ periods → at row (suc periods) ≤ at row w + low_price l w * asked l w (suc periods)
row_last periods l x row v is table long w order high =
    omega (
      arith,
      (table.next (suc periods) (omega (arith, order, high)) (omega (arith, long))).within w order (omega (arith, high)),
      step_is periods l x row is w (suc periods) high (omega arith),
      is.last_cost,
    )

row_steps : (periods : ℕ) (l : Level) (x : LevelLists) (rows : List (List ℕ)) (v : ℕ) → AreListsOf periods l x → IsStretchRow x v (row_of rows v) → length (row_of rows v) ≡ suc (suc periods) → v ≤ periods → HasStretchSteps most periods l (λ w z. cell rows w z) v
row_steps periods l x rows v is table long inside = record {
  next = λ z low high small.
      let found = (table.next z low (omega (arith, long, high))).some small in
      record {
        last = found.0;
        low = found.1;
        high = found.2;
        cost = omega (arith, found.3, step_is periods l x (row_of rows v) is found.0 z (omega (arith, found.2, high)) (omega (arith, high)), is.setup_cost z (omega (arith, low)) high);
      };
  last = λ small.
      let found = (table.next (suc periods) (omega (arith, inside)) (omega (arith, long))).some small in
      record {
        last = found.0;
        low = found.1;
        high = found.2;
        cost = omega (arith, found.3, step_is periods l x (row_of rows v) is found.0 (suc periods) (omega (arith, found.2)) (omega arith), is.last_cost);
      };
}

one_none : (x : LevelLists) (row : List ℕ) → IsStretchRow x 0 row → (v : ℕ) → cell (row ∷ []) v v ≡ 0
one_none x row is zero = is.none
one_none x row is (suc v) = refl

one_next : (periods : ℕ) (l : Level) (x : LevelLists) (row : List ℕ) → AreListsOf periods l x → IsStretchRow x 0 row → length row ≡ suc (suc periods) → (v w z : ℕ) → v ≤ w → w < z → z ≤ periods → cell (row ∷ []) v z ≤ cell (row ∷ []) v w + low_price l w * asked l w z + l.setup_cost z
one_next periods l x row is table long zero w z order before high = row_next periods l x row 0 is table long w z order before high
one_next periods l x row is table long (suc v) w z order before high = omega arith

one_last : (periods : ℕ) (l : Level) (x : LevelLists) (row : List ℕ) → AreListsOf periods l x → IsStretchRow x 0 row → length row ≡ suc (suc periods) → (v w : ℕ) → v ≤ w → w ≤ periods → cell (row ∷ []) v (suc periods) ≤ cell (row ∷ []) v w + low_price l w * asked l w (suc periods)
one_last periods l x row is table long zero w order high = row_last periods l x row 0 is table long w order high
one_last periods l x row is table long (suc v) w order high = omega arith

-- the first row is all that is needed
one_table : (periods : ℕ) (l : Level) (x : LevelLists) (row : List ℕ) → AreListsOf periods l x → IsStretchRow x 0 row → length row ≡ suc (suc periods) → IsStretchTable periods l (λ v z. cell (row ∷ []) v z)
one_table periods l x row is table long = record {
  none = λ v h. one_none x row table v;
  next = λ v w z order before high. one_next periods l x row is table long v w z order before high;
  last = λ v w order high. one_last periods l x row is table long v w order high;
}

pub one_cost : (x : LevelLists) (row : List ℕ) (last : ℕ) → IsStretchRow x 0 row → length row ≡ length x.asked.items → last + 1 ≡ length x.asked.items → IsCostOfOne x (at row last)
one_cost x row last table long end periods l is =
    let e : suc periods ≡ last = omega (arith, end, is.needs) in
    let size : length row ≡ suc (suc periods) = omega (arith, long, is.needs) in
    let stretches = one_table periods l x row is table size in
    subst (λ n. IsLeastOfOne periods l (at row n)) e (record {
      some = λ small.
          let all = one_reached most periods l (λ v z. cell (row ∷ []) v z) stretches (row_steps periods l x (row ∷ []) 0 is table size (omega arith)) small in
          (all.lots, all.made, all.cost);
      least = one_level_bound periods l (λ v z. cell (row ∷ []) v z) stretches;
    })

-- rows of all lots
pub stretches_are : (periods : ℕ) (l : Level) (x : LevelLists) (rows : List (List ℕ)) → AreListsOf periods l x → length rows ≡ suc periods → ((v : ℕ) → v < suc periods → length (row_of rows v) ≡ suc periods + 1) → AreStretches x rows → IsStretchTable periods l (λ v z. cell rows v z)
stretches_are periods l x rows is size wide table = record {
  none = λ v h. (table v (omega (arith, h, size))).none;
  next = λ v w z order before high. row_next periods l x (row_of rows v) v is (table v (omega (arith, order, before, high, size))) (omega (arith, wide v (omega (arith, order, before, high)))) w z order before high;
  last = λ v w order high. row_last periods l x (row_of rows v) v is (table v (omega (arith, order, high, size))) (omega (arith, wide v (omega (arith, order, high)))) w order high;
}

pub steps_are : (periods : ℕ) (l : Level) (x : LevelLists) (rows : List (List ℕ)) → AreListsOf periods l x → length rows ≡ suc periods → ((v : ℕ) → v < suc periods → length (row_of rows v) ≡ suc periods + 1) → AreStretches x rows → AreStretchSteps most periods l (λ v z. cell rows v z)
steps_are periods l x rows is size wide table v h =
    row_steps periods l x rows v is (table v (omega (arith, h, size))) (omega (arith, wide v (omega (arith, h)))) h

-- TWO LEVELS

-- the cost of a step, and of an end
pair_step_is : (periods : ℕ) (l m : Level) (low mid : LevelLists) (stretches plane : List (List ℕ)) → AreListsOf periods l low → AreListsOf periods m mid → (v b u e : ℕ) → u ≤ e → e < b → b ≤ periods
    → pair_step low mid stretches plane v b u e ≡ cell plane e u + mid_price l m l.per_next e u * asked m e b + cell stretches u v + m.setup_cost b
pair_step_is periods l m low mid stretches plane is_low is_mid v b u e order before high =
    omega (
      arith,
      product (mid_at low mid u e) (mid_price l m l.per_next e u) (asked_between mid e b) (asked m e b) (mid_is periods l m low mid is_low is_mid u e (omega (arith, order, before, high)) (omega (arith, before, high))) (asked_is periods m mid is_mid e b (omega (arith, before, high)) (omega (arith, high))),
      is_mid.setup_cost b (omega (arith, before)) high,
    )

end_is : (periods : ℕ) (l m : Level) (low mid : LevelLists) (stretches plane : List (List ℕ)) → AreListsOf periods l low → AreListsOf periods m mid → (b v : ℕ) → v ≤ b → b ≤ periods
    → end_cost low mid stretches plane (suc periods) b v ≡ cell plane b v + (mid_price l m l.per_next b v * asked m b (suc periods) + cell stretches v (suc periods))
end_is periods l m low mid stretches plane is_low is_mid b v order high =
    omega (
      arith,
      product (mid_at low mid v b) (mid_price l m l.per_next b v) (asked_between mid b (suc periods)) (asked m b (suc periods)) (mid_is periods l m low mid is_low is_mid v b (omega (arith, order, high)) high) (asked_is periods m mid is_mid b (suc periods) (omega (arith, high)) (omega arith)),
    )

step_of : (periods : ℕ) (l m : Level) (low mid : LevelLists) (stretches plane : List (List ℕ)) → AreListsOf periods l low → AreListsOf periods m mid → (v b x : ℕ) → b ≤ periods → IsPairStep low mid stretches plane v b x
    → IsPlaneStep l m l.per_next (λ u z. cell stretches u z) (λ u e. cell plane e u) v b x
step_of periods l m low mid stretches plane is_low is_mid v b x high step = record {
  served = step.served;
  lot = step.lot;
  order = step.order;
  before = step.before;
  within = step.within;
  cost = omega (arith, step.cost, pair_step_is periods l m low mid stretches plane is_low is_mid v b step.served step.lot step.order step.before high);
}

pair_end : (periods : ℕ) (l m : Level) (low mid : LevelLists) (stretches plane : List (List ℕ)) (G : ℕ) → AreListsOf periods l low → AreListsOf periods m mid → IsLeastEnd low mid stretches plane (suc periods) (suc periods) G
    → IsPairEnd periods l m l.per_next (λ v z. cell stretches v z) (λ v b. cell plane b v) G
pair_end periods l m low mid stretches plane G is_low is_mid end v b order high =
    omega (arith, end.within b v order (omega (arith, high)), end_is periods l m low mid stretches plane is_low is_mid b v order high)

end_step : (periods : ℕ) (l m : Level) (low mid : LevelLists) (stretches plane : List (List ℕ)) (G : ℕ) → AreListsOf periods l low → AreListsOf periods m mid → IsLeastEnd low mid stretches plane (suc periods) (suc periods) G → G < most
    → IsEndStep periods l m l.per_next (λ v z. cell stretches v z) (λ v b. cell plane b v) G
end_step periods l m low mid stretches plane G is_low is_mid end small =
    let found = end.some small in
    record {
      served = found.1;
      lot = found.0;
      order = found.2;
      high = omega (arith, found.3);
      cost = omega (arith, found.4, end_is periods l m low mid stretches plane is_low is_mid found.0 found.1 found.2 (omega (arith, found.3)));
    }

-- what the code has of two levels
pub record AreTwo (low mid : LevelLists) (stretches firsts plane : List (List ℕ)) (lots G : ℕ) : Type 0 where
  pub count : length stretches ≡ lots
  pub wide : (v : ℕ) → v < lots → length (row_of stretches v) ≡ lots + 1
  pub rows : AreStretches low stretches
  pub begins : AreFirsts lots firsts
  pub table : IsPairPlane low mid stretches firsts lots plane
  pub end : IsLeastEnd low mid stretches plane lots lots G

pair_table : (periods : ℕ) (l m : Level) (low mid : LevelLists) (stretches firsts plane : List (List ℕ)) (G : ℕ) → AreListsOf periods l low → AreListsOf periods m mid → AreTwo low mid stretches firsts plane (suc periods) G
    → IsPairTable periods l m l.per_next (λ v z. cell stretches v z) (λ v b. cell plane b v)
pair_table periods l m low mid stretches firsts plane G is_low is_mid two = record {
  stretches = stretches_are periods l low stretches is_low two.count two.wide two.rows;
  start = omega (arith, ((two.table.each 0 (omega arith)).each 0 (omega arith)).start, two.begins.start);
  plane = record {
    next = λ v b w z order before high first last.
        omega (
          arith,
          ((two.table.each z (omega (arith, high))).each w last).enter v b order before first,
          pair_step_is periods l m low mid stretches plane is_low is_mid w z v b order before high,
        );
  };
}

pair_steps : (periods : ℕ) (l m : Level) (low mid : LevelLists) (stretches firsts plane : List (List ℕ)) (G : ℕ) → AreListsOf periods l low → AreListsOf periods m mid → AreTwo low mid stretches firsts plane (suc periods) G
    → HasPairSteps most periods l m l.per_next (λ v z. cell stretches v z) (λ v b. cell plane b v)
pair_steps periods l m low mid stretches firsts plane G is_low is_mid two = record {
  stretches = steps_are periods l low stretches is_low two.count two.wide two.rows;
  steps = λ v b order low_b high small.
      ⊎_elim
      (λ begins. absurd (omega (arith, begins, small, two.begins.others b v low_b (omega (arith, high)) order)))
      (λ step. step_of periods l m low mid stretches plane is_low is_mid v b (cell plane b v) high step)
      (((two.table.each b (omega (arith, high))).each v order).some small);
}

two_at : (periods : ℕ) (l m : Level) (low mid : LevelLists) (stretches firsts plane : List (List ℕ)) (G : ℕ) → AreListsOf periods l low → AreListsOf periods m mid → AreTwo low mid stretches firsts plane (suc periods) G
    → IsLeastOfTwo periods l m G
two_at periods l m low mid stretches firsts plane G is_low is_mid two =
    let A = λ (v z : ℕ). cell stretches v z in
    let S = λ (v b : ℕ). cell plane b v in
    let table = pair_table periods l m low mid stretches firsts plane G is_low is_mid two in
    let end = pair_end periods l m low mid stretches plane G is_low is_mid two.end in
    record {
      some = λ small.
          let all = pair_reached most periods l m l.per_next A S G table (pair_steps periods l m low mid stretches firsts plane G is_low is_mid two) (end_step periods l m low mid stretches plane G is_low is_mid two.end small) small in
          (all.first, all.second, all.low_made, all.mid_made, all.cost);
      least = λ w u low_made mid_made. pair_bound periods l m l.per_next A S G table end w u low_made mid_made;
    }

pub two_cost : (low mid : LevelLists) (stretches firsts plane : List (List ℕ)) (lots G : ℕ) → lots + 1 ≡ length mid.asked.items → AreTwo low mid stretches firsts plane lots G → IsCostOfTwo low mid G
two_cost low mid stretches firsts plane lots G size two periods l m is_low is_mid =
    let e : lots ≡ suc periods = omega (arith, size, is_mid.needs) in
    two_at periods l m low mid stretches firsts plane G is_low is_mid (subst (λ n. AreTwo low mid stretches firsts plane n G) e two)

-- THREE LEVELS

-- what the code has of three levels
pub record AreThree (low mid top : LevelLists) (stretches : List (List ℕ)) (planes : List (List (List ℕ))) (lots G : ℕ) : Type 0 where
  pub count : length stretches ≡ lots
  pub wide : (v : ℕ) → v < lots → length (row_of stretches v) ≡ lots + 1
  pub rows : AreStretches low stretches
  pub size : length planes ≡ lots + 1
  pub tables : AreChainPlanes low mid top stretches (lots + 1) planes
  pub end : IsLeastEnd low mid stretches (plane_of planes lots) lots lots G

top_step_is : (periods : ℕ) (l m t : Level) (low mid top : LevelLists) (planes : List (List (List ℕ))) → AreListsOf periods l low → AreListsOf periods m mid → AreListsOf periods t top → (z b v k : ℕ) → v ≤ b → b ≤ k → k < z → z ≤ suc periods
    → top_step low mid top planes z b v k ≡ cell (plane_of planes k) b v + lot_fee t k + top_price (chain_of l m t) k b v * asked t k z
top_step_is periods l m t low mid top planes is_low is_mid is_top z b v k order before first high =
    omega (
      arith,
      product (top_at low mid top v b k) (top_price (chain_of l m t) k b v) (asked_between top k z) (asked t k z) (top_is periods l m t low mid top is_low is_mid is_top v b k (omega (arith, order, before, first, high)) (omega (arith, before, first, high)) (omega (arith, first, high))) (asked_is periods t top is_top k z (omega (arith, first, high)) high),
      fee_is periods t top is_top k (omega (arith, first, high)),
    )

in_plane : (periods z b : ℕ) → b ≤ z → b ≤ periods → b < lots_up_to (suc periods + 1) z
in_plane periods z b first second = omega (arith, first, second)

chain_table : (periods : ℕ) (l m t : Level) (low mid top : LevelLists) (stretches : List (List ℕ)) (planes : List (List (List ℕ))) (G : ℕ) → AreListsOf periods l low → AreListsOf periods m mid → AreListsOf periods t top → AreThree low mid top stretches planes (suc periods) G
    → IsChainTable periods (chain_of l m t) (λ v z. cell stretches v z) (λ v b z. cell (plane_of planes z) b v)
chain_table periods l m t low mid top stretches planes G is_low is_mid is_top three = record {
  stretches = stretches_are periods l low stretches is_low three.count three.wide three.rows;
  start = (three.tables 0 (omega (arith, three.size))).start refl;
  planes = λ z some high. record {
    next = λ v b w k order before within first last.
        omega (
          arith,
          ((three.tables z (omega (arith, three.size, high))).each k w some (in_plane periods z k (omega (arith, within)) (omega (arith, within))) last).enter v b order before first,
          pair_step_is periods l m low mid stretches (plane_of planes z) is_low is_mid w k v b order before (omega (arith, within)),
        );
  };
  top = λ v b k z order opened before high.
      omega (
        arith,
        ((three.tables z (omega (arith, three.size, high))).each b v (omega (arith, before)) (in_plane periods z b (omega (arith, opened, before)) (omega (arith, opened, before, high))) order).opens k opened before,
        top_step_is periods l m t low mid top planes is_low is_mid is_top z b v k order opened before high,
      );
}

chain_steps : (periods : ℕ) (l m t : Level) (low mid top : LevelLists) (stretches : List (List ℕ)) (planes : List (List (List ℕ))) (G : ℕ) → AreListsOf periods l low → AreListsOf periods m mid → AreListsOf periods t top → AreThree low mid top stretches planes (suc periods) G
    → HasChainSteps most periods (chain_of l m t) (λ v z. cell stretches v z) (λ v b z. cell (plane_of planes z) b v)
chain_steps periods l m t low mid top stretches planes G is_low is_mid is_top three = record {
  stretches = steps_are periods l low stretches is_low three.count three.wide three.rows;
  steps = λ v b z order before high some last small.
      ⊎_elim
      (λ step. inl (record {
        lot = step.0;
        low = step.1;
        high = step.2;
        cost = omega (arith, step.3, top_step_is periods l m t low mid top planes is_low is_mid is_top z b v step.0 order step.1 step.2 last);
      }))
      (λ step. inr (step_of periods l m low mid stretches (plane_of planes z) is_low is_mid v b (cell (plane_of planes z) b v) high step))
      (((three.tables z (omega (arith, three.size, last))).each b v some (in_plane periods z b before high) order).some small);
}

three_at : (periods : ℕ) (l m t : Level) (low mid top : LevelLists) (stretches : List (List ℕ)) (planes : List (List (List ℕ))) (G : ℕ) → AreListsOf periods l low → AreListsOf periods m mid → AreListsOf periods t top → AreThree low mid top stretches planes (suc periods) G
    → IsLeastOfThree periods l m t G
three_at periods l m t low mid top stretches planes G is_low is_mid is_top three =
    let A = λ (v z : ℕ). cell stretches v z in
    let S = λ (v b z : ℕ). cell (plane_of planes z) b v in
    let table = chain_table periods l m t low mid top stretches planes G is_low is_mid is_top three in
    let end = pair_end periods l m low mid stretches (plane_of planes (suc periods)) G is_low is_mid three.end in
    record {
      some = λ small.
          let all = chain_reached most periods (chain_of l m t) A S G table.stretches (chain_steps periods l m t low mid top stretches planes G is_low is_mid is_top three) (end_step periods l m low mid stretches (plane_of planes (suc periods)) G is_low is_mid three.end small) small in
          (all.first, all.second, all.third, all.low_made, all.mid_made, all.top_made, all.cost);
      least = λ w u x low_made mid_made top_made. chain_bound periods (chain_of l m t) A S G table end w u x low_made mid_made top_made;
    }

pub three_cost : (low mid top : LevelLists) (stretches : List (List ℕ)) (planes : List (List (List ℕ))) (lots G : ℕ) → lots + 1 ≡ length top.asked.items → AreThree low mid top stretches planes lots G → IsCostOfThree low mid top G
three_cost low mid top stretches planes lots G size three periods l m t is_low is_mid is_top =
    let e : lots ≡ suc periods = omega (arith, size, is_top.needs) in
    three_at periods l m t low mid top stretches planes G is_low is_mid is_top (subst (λ n. AreThree low mid top stretches planes n G) e three)
