-- Each entry below `cap` is what some lots cost.
use Rattle.std.proofs.Common.{◌≡◌, ◌≤◌, ◌<◌, ◌+◌, ◌*◌, ⊎_elim, ℕ, zero, suc, refl, ap, subst, arith, min}
use Rattle.std.proofs.lemmas.Bool.{cases_eq}
use Rattle.chain_dp.specs.Chains.{Level, Lots, lots_cost, used_by}
use Rattle.chain_dp.specs.Costs.{IsMadeAtOnce, unused}
use Rattle.chain_dp.specs.Lists.{asked_before}
use Rattle.chain_dp.proofs.Prices.{Chain, IsPairTable, IsStretchTable, asked, lot_fee, mid_price, rest_of, top_price}
use Rattle.chain_dp.proofs.Steps.{HasChainSteps, HasPairSteps, AreStretchSteps, HasStretchSteps, IsEndStep}
use Rattle.chain_dp.proofs.Changes.{price_splits, setup_cost, taken, units_cost, with_setup, with_units}
use Rattle.chain_dp.proofs.Parts.{IsOpen, IsPairPart, IsPart, is_set_up, pair_cost, pair_served, pair_units, pair_used, serve_need, set_up, uses_more, whole}

-- lots of one level that serve up to lot z, which is open, and cost at most so much
pub record IsServedTo (periods : ℕ) (l : Level) (used : ℕ → ℕ) (z most : ℕ) : Type 0 where
  pub lots : Lots
  pub part : IsPart periods l used z lots
  pub open_ : IsOpen lots z
  pub cost : lots_cost periods l lots ≤ most

-- STRETCHES

fee_is : (l : Level) (z : ℕ) → 1 ≤ z → lot_fee l z ≡ l.setup_cost z
fee_is l zero h = absurd (omega (arith, h))
fee_is l (suc z) h = refl

-- lots that serve up to lot v, and a stretch to lot z
stretch_in : (n cap periods : ℕ) (l : Level) (A : ℕ → ℕ → ℕ) (used : ℕ → ℕ) (v most : ℕ) → IsStretchTable periods l A → HasStretchSteps cap periods l A v → IsServedTo periods l used v most →
    (z : ℕ) → z < n → v ≤ z → z ≤ periods → A v z < cap → IsServedTo periods l used z (most + A v z)
stretch_in zero cap periods l A used v most is steps from z fuel order high small = absurd (omega (arith, fuel))
stretch_in (suc n) cap periods l A used v most is steps from z fuel order high small =
    ⊎_elim
    (λ same. subst (λ k. IsServedTo periods l used k (most + A v k)) same (record {
      lots = from.lots;
      part = from.part;
      open_ = from.open_;
      cost = omega (arith, from.cost);
    }))
    (λ apart.
    let step = steps.next z (omega (arith, order, apart)) high small in
    let k = step.last in
    let before = stretch_in n cap periods l A used v most is steps from k (omega (arith, step.high, fuel)) step.low (omega (arith, step.high, high)) (omega (arith, step.cost, small)) in
    let w = with_units before.lots k (asked l k z) in
    record {
      lots = with_setup w z;
      part = set_up periods l used z z w (serve_need periods l used k z before.lots before.part before.open_ (omega (arith, step.high)));
      open_ = is_set_up w z;
      cost = omega (arith, before.cost, step.cost, units_cost periods l before.lots k (asked l k z), setup_cost periods l w z, fee_is l z (omega (arith, step.high)));
    })
    (cases_eq v z)

pub stretch_to : (cap periods : ℕ) (l : Level) (A : ℕ → ℕ → ℕ) (used : ℕ → ℕ) (v most z : ℕ) → IsStretchTable periods l A → HasStretchSteps cap periods l A v → IsServedTo periods l used v most → v ≤ z → z ≤ periods → A v z < cap →
    IsServedTo periods l used z (most + A v z)
stretch_to cap periods l A used v most z is steps from order high small = stretch_in (suc z) cap periods l A used v most is steps from z (omega arith) order high small

-- lots that serve all
pub record IsServed (periods : ℕ) (l : Level) (used : ℕ → ℕ) (most : ℕ) : Type 0 where
  pub lots : Lots
  pub made : IsMadeAtOnce periods l used lots
  pub cost : lots_cost periods l lots ≤ most

pub stretch_end : (cap periods : ℕ) (l : Level) (A : ℕ → ℕ → ℕ) (used : ℕ → ℕ) (v most : ℕ) → IsStretchTable periods l A → HasStretchSteps cap periods l A v → IsServedTo periods l used v most → v ≤ periods → A v (suc periods) < cap →
    IsServed periods l used (most + A v (suc periods))
stretch_end cap periods l A used v most is steps from high small =
    let step = steps.last small in
    let k = step.last in
    let before = stretch_to cap periods l A used v most k is steps from step.low (omega (arith, step.high)) (omega (arith, step.cost, small)) in
    let w = with_units before.lots k (asked l k (suc periods)) in
    record {
      lots = w;
      made = whole periods l used w (serve_need periods l used k (suc periods) before.lots before.part before.open_ (omega (arith, step.high)));
      cost = omega (arith, before.cost, step.cost, units_cost periods l before.lots k (asked l k (suc periods)));
    }

-- NOTHING IS MADE

abbrev pub no_lots : Lots
no_lots = record { make = λ t. 0; setup = λ t. 0 }

none_used : (a t : ℕ) → used_by a no_lots t ≡ 0
none_used a zero = omega arith
none_used a (suc t) = omega (arith, none_used a t)

none_cost : (periods : ℕ) (l : Level) → lots_cost periods l no_lots ≡ 0
none_cost zero l = omega arith
none_cost (suc n) l = omega (arith, none_cost n l)

none_before : (t : ℕ) → min (suc t) 0 ≡ 0
none_before t = omega arith

-- before lot 0 nothing is asked
none_part : (periods : ℕ) (l : Level) (used : ℕ → ℕ) → ((t : ℕ) → used t ≡ 0) → IsPart periods l used 0 no_lots
none_part periods l used none = record {
  once = λ t. omega arith;
  setup = λ t low some. absurd (omega (arith, some));
  served = λ t h. omega (arith, none t, ap (asked_before l) (none_before t));
}

none_open : IsOpen no_lots 0
none_open low = absurd (omega (arith, low))

pub start_one : (periods : ℕ) (l : Level) → IsServedTo periods l unused 0 0
start_one periods l = record {
  lots = no_lots;
  part = none_part periods l unused (λ t. refl);
  open_ = none_open;
  cost = omega (arith, none_cost periods l);
}

-- ONE LEVEL

pub one_reached : (cap periods : ℕ) (l : Level) (A : ℕ → ℕ → ℕ) → IsStretchTable periods l A → HasStretchSteps cap periods l A 0 → A 0 (suc periods) < cap → IsServed periods l unused (A 0 (suc periods))
one_reached cap periods l A is steps small =
    let all = stretch_end cap periods l A unused 0 0 is steps (start_one periods l) (omega arith) small in
    record { lots = all.lots; made = all.made; cost = omega (arith, all.cost) }

-- TWO LEVELS

-- lots of two levels, of which lots v and b are open, and serve what is asked before them
pub record IsPairReached (periods : ℕ) (low mid : Level) (a : ℕ) (used : ℕ → ℕ) (v b most : ℕ) : Type 0 where
  pub first : Lots
  pub second : Lots
  pub part : IsPairPart periods low mid a used v b b first second
  pub cost : pair_cost periods low mid first second ≤ most

pub start_pair : (periods : ℕ) (low mid : Level) (a : ℕ) (used : ℕ → ℕ) → ((t : ℕ) → used t ≡ 0) → IsPairReached periods low mid a used 0 0 0
start_pair periods low mid a used none = record {
  first = no_lots;
  second = no_lots;
  part = record {
    first_part = none_part periods low (used_by a no_lots) (λ t. none_used a t);
    first_open = none_open;
    second_part = none_part periods mid used none;
    second_open = none_open;
  };
  cost = omega (arith, none_cost periods low, none_cost periods mid);
}

-- a step to the next lot of the second level
pub pair_enters : (cap periods : ℕ) (low mid : Level) (a : ℕ) (A : ℕ → ℕ → ℕ) (used : ℕ → ℕ) (u e v b most : ℕ) → IsStretchTable periods low A → AreStretchSteps cap periods low A →
    IsPairReached periods low mid a used u e most → u ≤ e → e < b → b ≤ periods → u ≤ v → v ≤ b → A u v < cap →
    IsPairReached periods low mid a used v b (most + mid_price low mid a e u * asked mid e b + A u v + mid.setup_cost b)
pair_enters cap periods low mid a A used u e v b most is steps from order before high within first small =
    let q = asked mid e b in
    let w = with_units from.first u (taken a q e) in
    let z = with_units from.second e q in
    let part = pair_served periods low mid a used u e b from.first from.second order (omega (arith, before)) from.part in
    let here : IsServedTo periods low (used_by a z) u (lots_cost periods low w) = record { lots = w; part = part.first_part; open_ = part.first_open; cost = omega arith } in
    let on = stretch_to cap periods low A (used_by a z) u (lots_cost periods low w) v is (steps u (omega (arith, order, before, high))) here within (omega (arith, first, high)) small in
    record {
      first = on.lots;
      second = with_setup z b;
      part = record {
        first_part = on.part;
        first_open = on.open_;
        second_part = set_up periods mid used b b z part.second_part;
        second_open = is_set_up z b;
      };
      cost = omega (arith, from.cost, on.cost, pair_units periods low mid a u e q from.first from.second, setup_cost periods mid z b, fee_is mid b (omega (arith, before)));
    }

-- lots of two levels that serve all
pub record IsPairServed (periods : ℕ) (low mid : Level) (a : ℕ) (used : ℕ → ℕ) (most : ℕ) : Type 0 where
  pub first : Lots
  pub second : Lots
  pub low_made : IsMadeAtOnce periods low (used_by a second) first
  pub mid_made : IsMadeAtOnce periods mid used second
  pub cost : pair_cost periods low mid first second ≤ most

-- and the end
pub pair_ends : (cap periods : ℕ) (low mid : Level) (a : ℕ) (A : ℕ → ℕ → ℕ) (used : ℕ → ℕ) (v b most : ℕ) → IsStretchTable periods low A → AreStretchSteps cap periods low A →
    IsPairReached periods low mid a used v b most → v ≤ b → b ≤ periods → A v (suc periods) < cap →
    IsPairServed periods low mid a used (most + rest_of periods low mid a A v b)
pair_ends cap periods low mid a A used v b most is steps from order high small =
    let q = asked mid b (suc periods) in
    let w = with_units from.first v (taken a q b) in
    let z = with_units from.second b q in
    let part = pair_served periods low mid a used v b (suc periods) from.first from.second order (omega (arith, high)) from.part in
    let here : IsServedTo periods low (used_by a z) v (lots_cost periods low w) = record { lots = w; part = part.first_part; open_ = part.first_open; cost = omega arith } in
    let on = stretch_end cap periods low A (used_by a z) v (lots_cost periods low w) is (steps v (omega (arith, order, high))) here (omega (arith, order, high)) small in
    record {
      first = on.lots;
      second = z;
      low_made = on.made;
      mid_made = whole periods mid used z part.second_part;
      cost = omega (arith, from.cost, on.cost, pair_units periods low mid a v b q from.first from.second);
    }

pairs_in : (n cap periods : ℕ) (low mid : Level) (a : ℕ) (A S : ℕ → ℕ → ℕ) → IsPairTable periods low mid a A S → HasPairSteps cap periods low mid a A S →
    (v b : ℕ) → b < n → v ≤ b → b ≤ periods → S v b < cap → IsPairReached periods low mid a unused v b (S v b)
pairs_in zero cap periods low mid a A S is steps v b fuel order high small = absurd (omega (arith, fuel))
pairs_in (suc n) cap periods low mid a A S is steps v zero fuel order high small =
    let first : 0 ≡ v = omega (arith, order) in
    let start = start_pair periods low mid a unused (λ t. refl) in
    subst (λ k. IsPairReached periods low mid a unused k 0 (S k 0)) first (record { first = start.first; second = start.second; part = start.part; cost = omega (arith, start.cost) })
pairs_in (suc n) cap periods low mid a A S is steps v (suc b) fuel order high small =
    let step = steps.steps v (suc b) order (omega arith) high small in
    let from = pairs_in n cap periods low mid a A S is steps step.served step.lot (omega (arith, step.before, fuel)) step.order (omega (arith, step.before, high)) (omega (arith, step.cost, small)) in
    let next = pair_enters cap periods low mid a A unused step.served step.lot v (suc b) (S step.served step.lot) is.stretches steps.stretches from step.order step.before high step.within order (omega (arith, step.cost, small)) in
    record { first = next.first; second = next.second; part = next.part; cost = omega (arith, next.cost, step.cost) }

pub pair_reached : (cap periods : ℕ) (low mid : Level) (a : ℕ) (A S : ℕ → ℕ → ℕ) (G : ℕ) → IsPairTable periods low mid a A S → HasPairSteps cap periods low mid a A S → IsEndStep periods low mid a A S G → G < cap →
    IsPairServed periods low mid a unused G
pair_reached cap periods low mid a A S G is steps end small =
    let v = end.served in
    let b = end.lot in
    let from = pairs_in (suc b) cap periods low mid a A S is steps v b (omega arith) end.order end.high (omega (arith, end.cost, small)) in
    let all = pair_ends cap periods low mid a A unused v b (S v b) is.stretches steps.stretches from end.order end.high (omega (arith, end.cost, small)) in
    record { first = all.first; second = all.second; low_made = all.low_made; mid_made = all.mid_made; cost = omega (arith, all.cost, end.cost) }

-- THREE LEVELS

-- lots of three levels: lot z of the third level is next, and what is asked of it before z is served
pub record IsChainReached (periods : ℕ) (c : Chain) (v b z most : ℕ) : Type 0 where
  pub third : Lots
  pub top : IsPart periods c.top unused z third
  pub pair_most : ℕ
  pub pair : IsPairReached periods c.low c.mid c.into_mid (used_by c.into_top third) v b pair_most
  pub cost : pair_most + lots_cost periods c.top third ≤ most

start_chain : (periods : ℕ) (c : Chain) (most : ℕ) → IsChainReached periods c 0 0 0 most
start_chain periods c most = record {
  third = no_lots;
  top = none_part periods c.top unused (λ t. refl);
  pair_most = 0;
  pair = start_pair periods c.low c.mid c.into_mid (used_by c.into_top no_lots) (λ t. none_used c.into_top t);
  cost = omega (arith, none_cost periods c.top);
}

-- lot t of the third level is opened, and serves up to lot z
chain_opens : (periods : ℕ) (c : Chain) (v b t z most : ℕ) → IsChainReached periods c v b t most → v ≤ b → b ≤ t → t < z →
    IsChainReached periods c v b z (most + lot_fee c.top t + top_price c t b v * asked c.top t z)
chain_opens periods c v b t z most from order before high =
    let q = asked c.top t z in
    let y = with_setup from.third t in
    let x = with_units y t q in
    let k = taken c.into_top q t in
    let pair = from.pair in
    record {
      third = x;
      top = serve_need periods c.top unused t z y (set_up periods c.top unused t t from.third from.top) (is_set_up from.third t) (omega (arith, high));
      pair_most = from.pair_most + mid_price c.low c.mid c.into_mid b v * k;
      pair = record {
        first = with_units pair.first v (taken c.into_mid k b);
        second = with_units pair.second b k;
        part = pair_used periods c.low c.mid c.into_mid (used_by c.into_top from.third) (used_by c.into_top x) v b b k t pair.first pair.second order before (uses_more c.into_top y t q) pair.part;
        cost = omega (arith, pair.cost, pair_units periods c.low c.mid c.into_mid v b k pair.first pair.second);
      };
      cost = omega (
        arith,
        from.cost,
        setup_cost periods c.top from.third t,
        units_cost periods c.top y t q,
        price_splits c.top c.into_top (mid_price c.low c.mid c.into_mid b v) q t,
      );
    }

-- the next lot of the second level is opened
chain_enters : (cap periods : ℕ) (c : Chain) (A : ℕ → ℕ → ℕ) (u e v b z most : ℕ) → IsStretchTable periods c.low A → AreStretchSteps cap periods c.low A →
    IsChainReached periods c u e z most → u ≤ e → e < b → b ≤ periods → u ≤ v → v ≤ b → A u v < cap →
    IsChainReached periods c v b z (most + mid_price c.low c.mid c.into_mid e u * asked c.mid e b + A u v + c.mid.setup_cost b)
chain_enters cap periods c A u e v b z most is steps from order before high within first small = record {
  third = from.third;
  top = from.top;
  pair_most = from.pair_most + mid_price c.low c.mid c.into_mid e u * asked c.mid e b + A u v + c.mid.setup_cost b;
  pair = pair_enters cap periods c.low c.mid c.into_mid A (used_by c.into_top from.third) u e v b from.pair_most is steps from.pair order before high within first small;
  cost = omega (arith, from.cost);
}

less_reached : (periods : ℕ) (c : Chain) (v b z more most : ℕ) → more ≤ most → IsChainReached periods c v b z more → IsChainReached periods c v b z most
less_reached periods c v b z more most less is = record {
  third = is.third;
  top = is.top;
  pair_most = is.pair_most;
  pair = is.pair;
  cost = omega (arith, is.cost, less);
}

chains_in : (n cap periods : ℕ) (c : Chain) (A : ℕ → ℕ → ℕ) (S : ℕ → ℕ → ℕ → ℕ) → IsStretchTable periods c.low A → HasChainSteps cap periods c A S →
    (v b z : ℕ) → z + b < n → v ≤ b → b ≤ z → b ≤ periods → z ≤ suc periods → S v b z < cap → IsChainReached periods c v b z (S v b z)
chains_in zero cap periods c A S is steps v b z fuel order before high last small = absurd (omega (arith, fuel))
chains_in (suc n) cap periods c A S is steps v b zero fuel order before high last small =
    let lot : 0 ≡ b = omega (arith, before) in
    let served : 0 ≡ v = omega (arith, order, before) in
    subst (λ k. IsChainReached periods c v k 0 (S v k 0)) lot (subst (λ k. IsChainReached periods c k 0 0 (S k 0 0)) served (start_chain periods c (S 0 0 0)))
chains_in (suc n) cap periods c A S is steps v b (suc z) fuel order before high last small =
    ⊎_elim
    (λ step.
    let from = chains_in n cap periods c A S is steps v b step.lot (omega (arith, step.high, fuel)) order step.low high (omega (arith, step.high, last)) (omega (arith, step.cost, small)) in
    less_reached periods c v b (suc z) (S v b step.lot + lot_fee c.top step.lot + top_price c step.lot b v * asked c.top step.lot (suc z)) (S v b (suc z)) step.cost
    (chain_opens periods c v b step.lot (suc z) (S v b step.lot) from order step.low step.high))
    (λ step.
    let from = chains_in n cap periods c A S is steps step.served step.lot (suc z) (omega (arith, step.before, fuel)) step.order (omega (arith, step.before, before)) (omega (arith, step.before, high)) last (omega (arith, step.cost, small)) in
    less_reached periods c v b (suc z) (S step.served step.lot (suc z) + mid_price c.low c.mid c.into_mid step.lot step.served * asked c.mid step.lot b + A step.served v + c.mid.setup_cost b) (S v b (suc z)) step.cost
    (chain_enters cap periods c A step.served step.lot v b (suc z) (S step.served step.lot (suc z)) is steps.stretches from step.order step.before high step.within order (omega (arith, step.cost, small))))
    (steps.steps v b (suc z) order before high (omega arith) last small)

-- lots of three levels that serve all
pub record IsChainServed (periods : ℕ) (c : Chain) (most : ℕ) : Type 0 where
  pub first : Lots
  pub second : Lots
  pub third : Lots
  pub low_made : IsMadeAtOnce periods c.low (used_by c.into_mid second) first
  pub mid_made : IsMadeAtOnce periods c.mid (used_by c.into_top third) second
  pub top_made : IsMadeAtOnce periods c.top unused third
  pub cost : lots_cost periods c.low first + lots_cost periods c.mid second + lots_cost periods c.top third ≤ most

pub chain_reached : (cap periods : ℕ) (c : Chain) (A : ℕ → ℕ → ℕ) (S : ℕ → ℕ → ℕ → ℕ) (G : ℕ) → IsStretchTable periods c.low A → HasChainSteps cap periods c A S
    → IsEndStep periods c.low c.mid c.into_mid A (λ v b. S v b (suc periods)) G → G < cap → IsChainServed periods c G
chain_reached cap periods c A S G is steps end small =
    let v = end.served in
    let b = end.lot in
    let from = chains_in (suc (suc periods + b)) cap periods c A S is steps v b (suc periods) (omega arith) end.order (omega (arith, end.high)) end.high (omega arith) (omega (arith, end.cost, small)) in
    let all = pair_ends cap periods c.low c.mid c.into_mid A (used_by c.into_top from.third) v b from.pair_most is steps.stretches from.pair end.order end.high (omega (arith, end.cost, small)) in
    record {
      first = all.first;
      second = all.second;
      third = from.third;
      low_made = all.low_made;
      mid_made = all.mid_made;
      top_made = whole periods c.top unused from.third from.top;
      cost = omega (arith, all.cost, from.cost, end.cost);
    }
