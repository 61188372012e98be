-- Lots that serve what is asked of a level before some lot.
use Rattle.std.proofs.Common.{◌≡◌, ◌≤◌, ◌<◌, ◌+◌, ◌*◌, ⊎_elim, ℕ, suc, sym, ap, subst, arith, min}
use Rattle.std.proofs.lemmas.Bool.{cases_eq, cases_lt}
use Rattle.chain_dp.specs.Chains.{Level, Lots, lots_cost, made, used_by}
use Rattle.chain_dp.specs.Costs.{IsMadeAtOnce}
use Rattle.chain_dp.specs.Lists.{asked_before}
use Rattle.chain_dp.proofs.Prices.{asked, low_price, mid_price}
use Rattle.chain_dp.proofs.Walks.{asked_rises}
use Rattle.chain_dp.proofs.Changes.{made_after, made_before, made_more, price_splits, raised_other, setup_is, setup_or, taken, units_cost, used_before, used_more, with_setup, with_units}

-- what is asked before lot z is served
pub record IsPart (periods : ℕ) (l : Level) (used : ℕ → ℕ) (z : ℕ) (w : Lots) : Type 0 where
  pub once : (t : ℕ) → w.setup t ≤ 1
  pub setup : (t : ℕ) → 1 ≤ t → 0 < w.make t → 1 ≤ w.setup t
  pub served : (t : ℕ) → t ≤ periods → used t + asked_before l (min (suc t) z) ≤ made w t

-- a lot may be made: it is set up, or lot 0
abbrev pub IsOpen : Lots → ℕ → Type 0
IsOpen w s = 1 ≤ s → 1 ≤ w.setup s

same_min : (t y z : ℕ) → t < y → y ≤ z → min (suc t) z ≡ min (suc t) y
same_min t y z h order = omega (arith, h, order)

last_min : (t y : ℕ) → y ≤ t → min (suc t) y ≡ y
last_min t y h = omega (arith, h)

-- what is asked by a period is served as far as lot z, where q is asked from lot s to lot z
asked_later : (l : Level) (t s z : ℕ) → s ≤ t → s ≤ z → asked_before l (min (suc t) z) ≤ asked_before l (min (suc t) s) + asked l s z
asked_later l t s z h order =
    let low = asked_rises l (min (suc t) z) z (omega arith) in
    let between = asked_rises l s z order in
    omega (arith, low, between, ap (asked_before l) (last_min t s h))

may_make : (w : Lots) (s q : ℕ) → ((t : ℕ) → 1 ≤ t → 0 < w.make t → 1 ≤ w.setup t) → IsOpen w s → (t : ℕ) → 1 ≤ t → 0 < (with_units w s q).make t → 1 ≤ w.setup t
may_make w s q before is_open t low some =
    ⊎_elim
    (λ same. subst (λ k. 1 ≤ w.setup k) (sym same) (is_open (omega (arith, same, low))))
    (λ apart. before t low (omega (arith, some, raised_other w.make s q t apart)))
    (cases_eq t s)

-- an open lot serves up to lot z
pub serve_need : (periods : ℕ) (l : Level) (used : ℕ → ℕ) (s z : ℕ) (w : Lots) → IsPart periods l used s w → IsOpen w s → s ≤ z → IsPart periods l used z (with_units w s (asked l s z))
serve_need periods l used s z w is is_open order = record {
  once = is.once;
  setup = λ t low some. may_make w s (asked l s z) is.setup is_open t low some;
  served = λ t h.
      ⊎_elim
      (λ before. omega (arith, is.served t h, ap (asked_before l) (same_min t s z before order), made_before w s (asked l s z) t before))
      (λ after. omega (arith, is.served t h, asked_later l t s z after order, made_after w s (asked l s z) t after))
      (cases_lt t s);
}

-- more is used from lot b on, at most q units
pub record IsMoreUsed (used more : ℕ → ℕ) (b q : ℕ) : Type 0 where
  pub before : (t : ℕ) → t < b → more t ≡ used t
  pub all : (t : ℕ) → more t ≤ used t + q

-- an open lot serves what more is used
pub serve_use : (periods : ℕ) (l : Level) (used more : ℕ → ℕ) (b q s z : ℕ) (w : Lots) → IsPart periods l used z w → IsOpen w s → s ≤ b → IsMoreUsed used more b q → IsPart periods l more z (with_units w s q)
serve_use periods l used more b q s z w is is_open order used_more = record {
  once = is.once;
  setup = λ t low some. may_make w s q is.setup is_open t low some;
  served = λ t h.
      ⊎_elim
      (λ before. omega (arith, is.served t h, used_more.before t (omega (arith, before, order)), made_more w s q t))
      (λ after. omega (arith, is.served t h, used_more.all t, made_after w s q t after))
      (cases_lt t s);
}

-- another lot is set up
pub set_up : (periods : ℕ) (l : Level) (used : ℕ → ℕ) (s z : ℕ) (w : Lots) → IsPart periods l used z w → IsPart periods l used z (with_setup w s)
set_up periods l used s z w is = record {
  once = λ t. ⊎_elim (λ one. omega (arith, one)) (λ same. omega (arith, same, is.once t)) (setup_or w s t);
  setup = λ t low some. ⊎_elim (λ one. omega (arith, one)) (λ same. omega (arith, same, is.setup t low some)) (setup_or w s t);
  served = is.served;
}

pub is_set_up : (w : Lots) (s : ℕ) → IsOpen (with_setup w s) s
is_set_up w s low = omega (arith, setup_is w s)

-- lots that take more of the level below
pub uses_more : (into : ℕ) (w : Lots) (s q : ℕ) → IsMoreUsed (used_by into w) (used_by into (with_units w s q)) s (taken into q s)
uses_more into w s q = record {
  before = λ t h. used_before into w s q t h;
  all = λ t. used_more into w s q t;
}

all_before : (t n : ℕ) → t ≤ n → min (suc t) (suc n) ≡ suc t
all_before t n h = omega (arith, h)

-- all is served
pub whole : (periods : ℕ) (l : Level) (used : ℕ → ℕ) (w : Lots) → IsPart periods l used (suc periods) w → IsMadeAtOnce periods l used w
whole periods l used w is = record {
  once = λ t low high. is.once t;
  setup = λ t low high some. is.setup t low some;
  served = λ t h. omega (arith, is.served t h, ap (asked_before l) (all_before t periods h));
}

-- two levels: lot b of the second one is open and serves up to lot y, and lot v of the first one is open
pub record IsPairPart (periods : ℕ) (low mid : Level) (a : ℕ) (used : ℕ → ℕ) (v b y : ℕ) (w u : Lots) : Type 0 where
  pub first_part : IsPart periods low (used_by a u) v w
  pub first_open : IsOpen w v
  pub second_part : IsPart periods mid used y u
  pub second_open : IsOpen u b

abbrev pub pair_cost : ℕ → Level → Level → Lots → Lots → ℕ
pair_cost periods low mid w u = lots_cost periods low w + lots_cost periods mid u

-- both levels make q units more
pub pair_units : (periods : ℕ) (low mid : Level) (a v b q : ℕ) (w u : Lots) →
    pair_cost periods low mid (with_units w v (taken a q b)) (with_units u b q) ≤ pair_cost periods low mid w u + mid_price low mid a b v * q
pair_units periods low mid a v b q w u =
    omega (arith, units_cost periods low w v (taken a q b), units_cost periods mid u b q, price_splits mid a (low_price low v) q b)

-- what the third level uses more is served
pub pair_used : (periods : ℕ) (low mid : Level) (a : ℕ) (used more : ℕ → ℕ) (v b y q s : ℕ) (w u : Lots) → v ≤ b → b ≤ s → IsMoreUsed used more s q → IsPairPart periods low mid a used v b y w u →
    IsPairPart periods low mid a more v b y (with_units w v (taken a q b)) (with_units u b q)
pair_used periods low mid a used more v b y q s w u order before grows is = record {
  first_part = serve_use periods low (used_by a u) (used_by a (with_units u b q)) b (taken a q b) v v w is.first_part is.first_open order (uses_more a u b q);
  first_open = is.first_open;
  second_part = serve_use periods mid used more s q b y u is.second_part is.second_open before grows;
  second_open = is.second_open;
}

-- the open lot of the second level serves up to lot z
pub pair_served : (periods : ℕ) (low mid : Level) (a : ℕ) (used : ℕ → ℕ) (v b z : ℕ) (w u : Lots) → v ≤ b → b ≤ z → IsPairPart periods low mid a used v b b w u →
    IsPairPart periods low mid a used v b z (with_units w v (taken a (asked mid b z) b)) (with_units u b (asked mid b z))
pair_served periods low mid a used v b z w u order before is = record {
  first_part = serve_use periods low (used_by a u) (used_by a (with_units u b (asked mid b z))) b (taken a (asked mid b z) b) v v w is.first_part is.first_open order (uses_more a u b (asked mid b z));
  first_open = is.first_open;
  second_part = serve_need periods mid used b z u is.second_part is.second_open before;
  second_open = is.second_open;
}
