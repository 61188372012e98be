-- The least cost of a chain: quantities of all levels that can be gone through.
use Rattle.std.proofs.Common.{◌≡◌, ◌≤◌, ◌<◌, ◌+◌, ◌-◌, ◌*◌, ◌∙◌, ◌⊎◌, ⊎_elim, inl, inr, ℕ, zero, suc, refl, sym, ap, arith, List, [], ◌∷◌}
use Rattle.std.specs.Prelude.{⊤}
use Rattle.lot_sizing.specs.Sums.{sum_to}
use Rattle.lot_sizing.proofs.Sums.{sum_to-bound, sum_to-front, sum_to-le, sum_to-same}
use Rattle.chain_dp.specs.Chains.{IsChainMade, IsLeastChainCost, IsMade, Level, Lots, chain_cost, lots_cost, made, used_by_next}
use Rattle.existence.proofs.Deciding.{Decided, all_or_first, both_or_not, if_or_not, le_or_not, lt_or_not}
use Rattle.group_existence.proofs.Least.{at_most_one, cut, cut_high, cut_low, each_or_not, least_of, one_if_some, one_of_some, quantities, reaches_with, some_at_most}

-- the lots of a level, lot 0 first, with a setup wherever something is made
abbrev lots_with : (ℕ → ℕ) → Lots
lots_with g = record { make = λ t. g (t + 1); setup = λ t. one_if_some (g (t + 1)) }

-- what a level need never make more of: all that is asked of it, and all that the next level can take of it
abbrev bound_of : ℕ → List Level → ℕ
bound_of n [] = 0
bound_of n (l ∷ ls) = l.per_next * (n * bound_of n ls) + sum_to n l.need

-- the same lots in the first periods
abbrev AreSame : ℕ → Lots → Lots → Type 0
AreSame n v w = ((t : ℕ) → t ≤ n → v.make t ≡ w.make t) × ((t : ℕ) → 1 ≤ t → t ≤ n → v.setup t ≡ w.setup t)

abbrev AreAlike : ℕ → List Lots → List Lots → Type 0
AreAlike n [] [] = ⊤
AreAlike n [] (w ∷ ws) = ⊥
AreAlike n (v ∷ vs) [] = ⊥
AreAlike n (v ∷ vs) (w ∷ ws) = AreSame n v w × AreAlike n vs ws

-- no lot is past the bound of its level, and there is a setup just where something is made
abbrev AreWithin : ℕ → List Level → List Lots → Type 0
AreWithin n [] [] = ⊤
AreWithin n [] (w ∷ ws) = ⊥
AreWithin n (l ∷ ls) [] = ⊥
AreWithin n (l ∷ ls) (w ∷ ws) =
    ((t : ℕ) → t ≤ n → w.make t ≤ bound_of n (l ∷ ls)) × ((t : ℕ) → 1 ≤ t → t ≤ n → w.setup t ≡ one_if_some (w.make t)) × AreWithin n ls ws

alike_self : (n : ℕ) (ws : List Lots) → AreAlike n ws ws
alike_self n [] = tt
alike_self n (w ∷ ws) = ((λ t high. refl, λ t low high. refl), alike_self n ws)

alike_back : (n : ℕ) (vs ws : List Lots) → AreAlike n vs ws → AreAlike n ws vs
alike_back n [] [] is = tt
alike_back n [] (w ∷ ws) is = absurd is
alike_back n (v ∷ vs) [] is = absurd is
alike_back n (v ∷ vs) (w ∷ ws) is = ((λ t high. sym (is.0.0 t high), λ t low high. sym (is.0.1 t low high)), alike_back n vs ws is.1)

-- ---- going through the lots of all levels
pub search : (n : ℕ) (ls : List Level) (Good Bad : List Lots → Type 0) → ((ws : List Lots) → Good ws ⊎ Bad ws) → ((vs ws : List Lots) → AreAlike n vs ws → Bad vs → Bad ws)
    → ((ws : List Lots) × Good ws) ⊎ ((ws : List Lots) → AreWithin n ls ws → Bad ws)
search n [] Good Bad either keep = ⊎_elim (λ good. inl ([], good)) (λ bad. inr (only bad)) (either [])
  where
    only : Bad [] → (ws : List Lots) → AreWithin n [] ws → Bad ws
    only bad [] within = bad
    only bad (w ∷ ws) within = absurd within
search n (l ∷ ls) Good Bad either keep =
    ⊎_elim
    (λ found. inl (lots_with found.0 ∷ found.1.0, found.1.1))
    (λ none. inr (all none))
    (quantities (n + 1) (bound_of n (l ∷ ls))
    (λ g. (ws : List Lots) × Good (lots_with g ∷ ws))
    (λ g. (ws : List Lots) → AreWithin n ls ws → Bad (lots_with g ∷ ws))
    (λ g. search n ls (λ ws. Good (lots_with g ∷ ws)) (λ ws. Bad (lots_with g ∷ ws)) (λ ws. either (lots_with g ∷ ws))
    (λ vs ws alike. keep (lots_with g ∷ vs) (lots_with g ∷ ws) ((λ t high. refl, λ t low high. refl), alike)))
    (λ g h same bad ws within. keep (lots_with g ∷ ws) (lots_with h ∷ ws)
    ((λ t high. same (t + 1) (omega arith) (omega (arith, high)), λ t low high. ap one_if_some (same (t + 1) (omega arith) (omega (arith, high)))), alike_self n ws)
    (bad ws within)))
  where
    all : ((g : ℕ → ℕ) → ((t : ℕ) → 1 ≤ t → t ≤ n + 1 → g t ≤ bound_of n (l ∷ ls)) → (ws : List Lots) → AreWithin n ls ws → Bad (lots_with g ∷ ws)) → (ws : List Lots) → AreWithin n (l ∷ ls) ws → Bad ws
    all none [] within = absurd within
    all none (w ∷ ws) within =
        keep (lots_with (λ t. w.make (t - 1)) ∷ ws) (w ∷ ws)
        ((λ t high. ap w.make (back t), λ t low high. ap (λ u. one_if_some (w.make u)) (back t) ∙ sym (within.1 t low high)), alike_self n ws)
        (none (λ t. w.make (t - 1)) (λ t low high. within.0 (t - 1) (omega (arith, high))) ws within.2)
      where
        back : (t : ℕ) → t + 1 - 1 ≡ t
        back t = omega arith

-- ---- whether lots serve a chain
served_or_not : (n : ℕ) (l : Level) (used : ℕ → ℕ) (w : Lots) → Decided ((t : ℕ) → t ≤ n → used t + sum_to t l.need ≤ made w (t - l.lead))
served_or_not n l used w =
    ⊎_elim
    (λ none. ⊎_elim
    (λ all. inl (each none all))
    (λ first. inr (λ served. first.3 (served first.0 first.2)))
    (all_or_first (λ t. used t + sum_to t l.need ≤ made w (t - l.lead)) (λ t. le_or_not (used t + sum_to t l.need) (made w (t - l.lead))) n))
    (λ no. inr (λ served. no (served 0 (omega arith))))
    (le_or_not (used 0 + sum_to 0 l.need) (made w (0 - l.lead)))
  where
    each : used 0 + sum_to 0 l.need ≤ made w (0 - l.lead) → ((t : ℕ) → 1 ≤ t → t ≤ n → used t + sum_to t l.need ≤ made w (t - l.lead)) → (t : ℕ) → t ≤ n → used t + sum_to t l.need ≤ made w (t - l.lead)
    each none all zero high = none
    each none all (suc t) high = all (suc t) (omega arith) high

made_or_not : (n : ℕ) (l : Level) (used : ℕ → ℕ) (w : Lots) → Decided (IsMade n l used w)
made_or_not n l used w =
    ⊎_elim
    (λ all. inl (record { once = all.0; setup = all.1.0; served = all.1.1 }))
    (λ no. inr (λ is. no (is.once, (is.setup, is.served))))
    (both_or_not (each_or_not n (λ t. w.setup t ≤ 1) (λ t. le_or_not (w.setup t) 1))
    (both_or_not (each_or_not n (λ t. 0 < w.make t → 1 ≤ w.setup t) (λ t. if_or_not (lt_or_not 0 (w.make t)) (le_or_not 1 (w.setup t)))) (served_or_not n l used w)))

chain_or_not : (n : ℕ) (ls : List Level) (ws : List Lots) → Decided (IsChainMade n ls ws)
chain_or_not n [] [] = inl tt
chain_or_not n [] (w ∷ ws) = inr (λ is. is)
chain_or_not n (l ∷ ls) [] = inr (λ is. is)
chain_or_not n (l ∷ ls) (w ∷ ws) = both_or_not (made_or_not n l (used_by_next l.per_next ws) w) (chain_or_not n ls ws)

-- ---- the same lots do the same
made_same : (n t : ℕ) (v w : Lots) → AreSame n v w → t ≤ n → made v t ≡ made w t
made_same n t v w is high = omega (arith, is.0 0 (omega arith), sum_to-same t v.make w.make (λ u low u_high. is.0 u (omega (arith, u_high, high))))

used_same : (n t units : ℕ) (vs ws : List Lots) → AreAlike n vs ws → t ≤ n → used_by_next units vs t ≡ used_by_next units ws t
used_same n t units [] [] is high = refl
used_same n t units [] (w ∷ ws) is high = absurd is
used_same n t units (v ∷ vs) [] is high = absurd is
used_same n t units (v ∷ vs) (w ∷ ws) is high = ap (λ x. units * x) (sum_to-same t v.make w.make (λ u low u_high. is.0.0 u (omega (arith, u_high, high))))

level_same : (n : ℕ) (l : Level) (used other : ℕ → ℕ) (v w : Lots) → AreSame n v w → ((t : ℕ) → t ≤ n → used t ≡ other t) → IsMade n l used v → IsMade n l other w
level_same n l used other v w is uses made_v = record {
  once = λ t low high. omega (arith, is.1 t low high, made_v.once t low high);
  setup = λ t low high some. omega (arith, is.1 t low high, made_v.setup t low high (omega (arith, some, is.0 t high)));
  served = λ t high. omega (arith, uses t high, made_v.served t high, made_same n (t - l.lead) v w is (omega (arith, high)));
}

chain_same : (n : ℕ) (ls : List Level) (vs ws : List Lots) → AreAlike n vs ws → IsChainMade n ls vs → IsChainMade n ls ws
chain_same n [] [] [] is chain = chain
chain_same n [] [] (w ∷ ws) is chain = absurd is
chain_same n [] (v ∷ vs) ws is chain = absurd chain
chain_same n (l ∷ ls) [] ws is chain = absurd chain
chain_same n (l ∷ ls) (v ∷ vs) [] is chain = absurd is
chain_same n (l ∷ ls) (v ∷ vs) (w ∷ ws) is chain =
    (level_same n l (used_by_next l.per_next vs) (used_by_next l.per_next ws) v w is.0 (λ t high. used_same n t l.per_next vs ws is.1 high) chain.0, chain_same n ls vs ws is.1 chain.1)

level_cost_same : (n : ℕ) (l : Level) (v w : Lots) → AreSame n v w → lots_cost n l v ≡ lots_cost n l w
level_cost_same n l v w is =
    sums (sum_to-same n (λ t. l.setup_cost t * v.setup t + l.unit_cost t * v.make t) (λ t. l.setup_cost t * w.setup t + l.unit_cost t * w.make t)
    (λ t low high. terms (l.setup_cost t) (l.unit_cost t) _ _ _ _ (is.1 t low high) (is.0 t high)))
    (ap (λ x. l.opening_price * x) (is.0 0 (omega arith)))
  where
    terms : (f g a b c d : ℕ) → a ≡ b → c ≡ d → f * a + g * c ≡ f * b + g * d
    terms f g a b c d one other = cc (one, other)

    sums : {a b c d : ℕ} → a ≡ b → c ≡ d → a + c ≡ b + d
    sums one other = cc (one, other)

chain_cost_same : (n : ℕ) (ls : List Level) (vs ws : List Lots) → AreAlike n vs ws → chain_cost n ls vs ≡ chain_cost n ls ws
chain_cost_same n [] vs ws is = refl
chain_cost_same n (l ∷ ls) [] [] is = refl
chain_cost_same n (l ∷ ls) [] (w ∷ ws) is = absurd is
chain_cost_same n (l ∷ ls) (v ∷ vs) [] is = absurd is
chain_cost_same n (l ∷ ls) (v ∷ vs) (w ∷ ws) is = omega (arith, level_cost_same n l v w is.0, chain_cost_same n ls vs ws is.1)

-- ---- lots that are cut off
abbrev cut_level : ℕ → Lots → Lots
cut_level most w = record { make = λ t. cut most (w.make t); setup = λ t. one_if_some (cut most (w.make t)) }

abbrev cut_chain : ℕ → List Level → List Lots → List Lots
cut_chain n [] ws = []
cut_chain n (l ∷ ls) [] = []
cut_chain n (l ∷ ls) (w ∷ ws) = cut_level (bound_of n (l ∷ ls)) w ∷ cut_chain n ls ws

cut_within : (n : ℕ) (ls : List Level) (ws : List Lots) → IsChainMade n ls ws → AreWithin n ls (cut_chain n ls ws)
cut_within n [] ws is = tt
cut_within n (l ∷ ls) [] is = absurd is
cut_within n (l ∷ ls) (w ∷ ws) is = (λ t high. cut_high (bound_of n (l ∷ ls)) (w.make t), λ t low high. refl, cut_within n ls ws is.1)

-- the next level takes no more, and no more than it ever can
cut_uses_less : (n t units : ℕ) (ls : List Level) (ws : List Lots) → IsChainMade n ls ws → used_by_next units (cut_chain n ls ws) t ≤ used_by_next units ws t
cut_uses_less n t units [] [] is = omega arith
cut_uses_less n t units [] (w ∷ ws) is = absurd is
cut_uses_less n t units (l ∷ ls) [] is = absurd is
cut_uses_less n t units (l ∷ ls) (w ∷ ws) is = more units _ _ (sum_to-le t (λ u. cut (bound_of n (l ∷ ls)) (w.make u)) w.make (λ u low high. cut_low (bound_of n (l ∷ ls)) (w.make u)))
  where
    more : (k a b : ℕ) → a ≤ b → k * a ≤ k * b
    more k a b le = grind (arith, le)

cut_uses_few : (n t units : ℕ) (ls : List Level) (ws : List Lots) → IsChainMade n ls ws → t ≤ n → used_by_next units (cut_chain n ls ws) t ≤ units * (n * bound_of n ls)
cut_uses_few n t units [] [] is high = omega arith
cut_uses_few n t units [] (w ∷ ws) is high = absurd is
cut_uses_few n t units (l ∷ ls) [] is high = absurd is
cut_uses_few n t units (l ∷ ls) (w ∷ ws) is high =
    more units t n (bound_of n (l ∷ ls)) _ high (sum_to-bound t (bound_of n (l ∷ ls)) (λ u. cut (bound_of n (l ∷ ls)) (w.make u)) (λ u low u_high. cut_high (bound_of n (l ∷ ls)) (w.make u)))
  where
    one : (a b c : ℕ) → a ≤ b → a * c ≤ b * c
    one a b c le = grind (arith, le)

    other : (k a b : ℕ) → a ≤ b → k * a ≤ k * b
    other k a b le = grind (arith, le)

    more : (k t n b x : ℕ) → t ≤ n → x ≤ t * b → k * x ≤ k * (n * b)
    more k t n b x high le = other k x (n * b) (omega (arith, le, one t n b high))

cut_level_made : (n most : ℕ) (l : Level) (used other : ℕ → ℕ) (w : Lots) → IsMade n l used w → ((t : ℕ) → t ≤ n → other t ≤ used t) → ((t : ℕ) → t ≤ n → other t + sum_to t l.need ≤ most) → IsMade n l other (cut_level most w)
cut_level_made n most l used other w is less few = record {
  once = λ t low high. at_most_one (cut most (w.make t));
  setup = λ t low high some. omega (arith, one_of_some (cut most (w.make t)) some);
  served = λ t high. reaches_with most (t - l.lead) (other t + sum_to t l.need) (w.make 0) w.make (omega (arith, less t high, is.served t high)) (few t high);
}

cut_made : (n : ℕ) (ls : List Level) (ws : List Lots) → IsChainMade n ls ws → IsChainMade n ls (cut_chain n ls ws)
cut_made n [] [] is = is
cut_made n [] (w ∷ ws) is = absurd is
cut_made n (l ∷ ls) [] is = absurd is
cut_made n (l ∷ ls) (w ∷ ws) is = (
  cut_level_made n (bound_of n (l ∷ ls)) l (used_by_next l.per_next ws) (used_by_next l.per_next (cut_chain n ls ws)) w is.0
      (λ t high. cut_uses_less n t l.per_next ls ws is.1)
      (λ t high. omega (arith, cut_uses_few n t l.per_next ls ws is.1 high, sum_to-front t n l.need high)),
  cut_made n ls ws is.1,
)

cut_level_cost : (n most : ℕ) (l : Level) (used : ℕ → ℕ) (w : Lots) → IsMade n l used w → lots_cost n l (cut_level most w) ≤ lots_cost n l w
cut_level_cost n most l used w is =
    sums (sum_to-le n (λ t. l.setup_cost t * one_if_some (cut most (w.make t)) + l.unit_cost t * cut most (w.make t)) (λ t. l.setup_cost t * w.setup t + l.unit_cost t * w.make t)
    (λ t low high. terms (l.setup_cost t) (l.unit_cost t) _ _ _ _ (some_at_most (cut most (w.make t)) (w.setup t) (λ some. is.setup t low high (omega (arith, some, cut_low most (w.make t))))) (cut_low most (w.make t))))
    (more l.opening_price _ _ (cut_low most (w.make 0)))
  where
    terms : (f g a b c d : ℕ) → a ≤ b → c ≤ d → f * a + g * c ≤ f * b + g * d
    terms f g a b c d one other = grind (arith, one, other)

    more : (k a b : ℕ) → a ≤ b → k * a ≤ k * b
    more k a b le = grind (arith, le)

    sums : {a b c d : ℕ} → a ≤ b → c ≤ d → a + c ≤ b + d
    sums one other = omega (arith, one, other)

cut_cost : (n : ℕ) (ls : List Level) (ws : List Lots) → IsChainMade n ls ws → chain_cost n ls (cut_chain n ls ws) ≤ chain_cost n ls ws
cut_cost n [] ws is = omega arith
cut_cost n (l ∷ ls) [] is = absurd is
cut_cost n (l ∷ ls) (w ∷ ws) is = omega (arith, cut_level_cost n (bound_of n (l ∷ ls)) l (used_by_next l.per_next ws) w is.0, cut_cost n ls ws is.1)

-- ---- all that is asked for is there before the first period
abbrev at_first : ℕ → ℕ → ℕ
at_first x zero = x
at_first x (suc t) = 0

abbrev lot_0 : ℕ → Level → Lots
lot_0 n l = record { make = at_first (sum_to n l.need); setup = λ t. 0 }

abbrev lots_0 : ℕ → List Level → List Lots
lots_0 n [] = []
lots_0 n (l ∷ ls) = lot_0 n l ∷ lots_0 n ls

nothing_made : (n t : ℕ) (l : Level) → sum_to t (lot_0 n l).make ≡ 0
nothing_made n zero l = refl
nothing_made n (suc t) l = omega (arith, nothing_made n t l)

nothing_used : (n t units : ℕ) (ls : List Level) → used_by_next units (lots_0 n ls) t ≡ 0
nothing_used n t units [] = refl
nothing_used n t units (l ∷ ls) = none units _ (nothing_made n t l)
  where
    none : (k x : ℕ) → x ≡ 0 → k * x ≡ 0
    none k x is = grind (arith, is)

lots_0_made : (n : ℕ) (ls : List Level) → IsChainMade n ls (lots_0 n ls)
lots_0_made n [] = tt
lots_0_made n (l ∷ ls) = (
  record {
    once = λ t low high. omega arith;
    setup = λ t low high some. absurd (none t low some);
    served = λ t high. omega (arith, nothing_used n t l.per_next ls, sum_to-front t n l.need high, nothing_made n (t - l.lead) l);
  },
  lots_0_made n ls,
)
  where
    none : (t : ℕ) → 1 ≤ t → 0 < (lot_0 n l).make t → ⊥
    none zero low some = omega (arith, low)
    none (suc t) low some = omega (arith, some)

-- ---- the least cost
module _ (n : ℕ) (ls : List Level) where
  abbrev Chain : Type 0
  Chain = (ws : List Lots) × IsChainMade n ls ws

  cost_of : Chain → ℕ
  cost_of a = chain_cost n ls a.0

  below : (c : ℕ) → ((a : Chain) × (cost_of a < c)) ⊎ ((a : Chain) → cost_of a < c → ⊥)
  unfolding cost_of
  below c =
      ⊎_elim
      (λ found. inl ((found.0, found.1.0), found.1.1))
      (λ none. inr (λ a less. none (cut_chain n ls a.0) (cut_within n ls a.0 a.1) (cut_made n ls a.0 a.1, omega (arith, cut_cost n ls a.0 a.1, less))))
      (search n ls (λ ws. IsChainMade n ls ws × (chain_cost n ls ws < c)) (λ ws. IsChainMade n ls ws × (chain_cost n ls ws < c) → ⊥)
      (λ ws. both_or_not (chain_or_not n ls ws) (lt_or_not (chain_cost n ls ws) c))
      (λ vs ws alike bad good. bad (chain_same n ls ws vs (alike_back n vs ws alike) good.0, omega (arith, good.1, chain_cost_same n ls vs ws alike))))

  pub chain_number : (cost : ℕ) × IsLeastChainCost n ls cost
  unfolding cost_of
  chain_number =
      let first : Chain = (lots_0 n ls, lots_0_made n ls) in
      let least = least_of Chain cost_of below (cost_of first) first (omega arith) in (
        chain_cost n ls least.0.0,
        record { some = (least.0.0, least.0.1, refl); least = λ ws is. least.1 (ws, is) },
      )
