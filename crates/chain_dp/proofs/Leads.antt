-- Levels with lead times, and the levels whose lots arrive at once in their place.
use Rattle.std.proofs.Common.{◌≡◌, ◌≤◌, ◌<◌, ◌+◌, ◌-◌, ◌*◌, ◌⊎◌, ◌∙◌, ⊎_elim, inl, inr, ℕ, zero, suc, refl, ap, arith, List, [], ◌∷◌, min}
use Rattle.std.specs.Prelude.{if◌then◌else◌, nat_le}
use Rattle.std.proofs.Math.Nat.{mul-le-mul_left}
use Rattle.std.proofs.lemmas.Bool.{cases_eq, cases_lt}
use Rattle.lot_sizing.specs.Sums.{sum_to}
use Rattle.lot_sizing.proofs.Sums.{sum_to-front, sum_to-le, sum_to-same, sum_to-times}
use Rattle.chain_dp.specs.Chains.{IsChainMade, IsMade, Level, Lots, chain_cost, lots_cost, made, used_by}
use Rattle.chain_dp.specs.Numbers.{most}
use Rattle.chain_dp.specs.Lists.{moved, moved_level}
use Rattle.chain_dp.specs.Costs.{IsLeastOfOne, IsLeastOfThree, IsLeastOfTwo, IsMadeAtOnce, unused}

-- NUMBERS THAT ARE MOVED

-- where a period lies
place : (n periods : ℕ) → ((n ≡ 0) ⊎ (periods < n)) ⊎ ((1 ≤ n) × (n ≤ periods))
place n periods =
    ⊎_elim
    (λ first. inl (inl first))
    (λ apart. ⊎_elim
    (λ past. inl (inr past))
    (λ within. inr (omega (arith, apart), within))
    (cases_lt periods n))
    (cases_eq n 0)

pub moved_out : (other shift periods : ℕ) (f : ℕ → ℕ) (t : ℕ) → (t - shift ≡ 0) ⊎ (periods < t - shift) → moved other shift periods f t ≡ other
moved_out other shift periods f t out = grind (arith, out)

pub moved_in : (other shift periods : ℕ) (f : ℕ → ℕ) (t : ℕ) → 1 ≤ t - shift → t - shift ≤ periods → moved other shift periods f t ≡ f (t - shift)
moved_in other shift periods f t low high = grind (arith, low, high)

moved_sum : (shift periods n : ℕ) (f : ℕ → ℕ) → sum_to n (moved 0 shift periods f) ≡ sum_to (min (n - shift) periods) f
moved_sum shift periods zero f =
    let e : 0 ≡ min (0 - shift) periods = omega arith in
    ap (λ k. sum_to k f) e
moved_sum shift periods (suc n) f =
    let before = moved_sum shift periods n f in
    ⊎_elim
    (λ out.
    let e : min (suc n - shift) periods ≡ min (n - shift) periods = omega (arith, out) in
    omega (arith, before, moved_out 0 shift periods f (suc n) out, ap (λ k. sum_to k f) e))
    (λ within.
    let e : min (suc n - shift) periods ≡ suc (n - shift) = omega (arith, within.0, within.1) in
    let i : min (n - shift) periods ≡ n - shift = omega (arith, within.0, within.1) in
    let o : suc n - shift ≡ suc (n - shift) = omega (arith, within.0) in
    omega (arith, before, moved_in 0 shift periods f (suc n) within.0 within.1, ap (λ k. sum_to k f) e, ap (λ k. sum_to k f) i, ap f o))
    (place (suc n - shift) periods)

-- a number for lot 0, and others
abbrev pub first_then : ℕ → (ℕ → ℕ) → ℕ → ℕ
first_then a g zero = a
first_then a g (suc t) = g (suc t)

pub then_is : (a : ℕ) (g : ℕ → ℕ) (t : ℕ) → 1 ≤ t → first_then a g t ≡ g t
then_is a g zero low = absurd (omega (arith, low))
then_is a g (suc t) low = refl

pub then_sum : (a n : ℕ) (g : ℕ → ℕ) → sum_to n (first_then a g) ≡ sum_to n g
then_sum a n g = sum_to-same n (first_then a g) g (λ k low high. then_is a g k low)

-- LOTS THAT ARE MOVED

abbrev moved_lots : (shift periods : ℕ) → Lots → Lots
moved_lots shift periods w = record {
  make = first_then (w.make 0) (moved 0 shift periods w.make);
  setup = moved 0 shift periods w.setup;
}

moved_made : (shift periods n : ℕ) (w : Lots) → made (moved_lots shift periods w) n ≡ w.make 0 + sum_to (min (n - shift) periods) w.make
moved_made shift periods n w = omega (arith, then_sum (w.make 0) n (moved 0 shift periods w.make), moved_sum shift periods n w.make)

moved_used : (units shift periods n : ℕ) (w : Lots) → used_by units (moved_lots shift periods w) n ≡ used_by units w (min (n - shift) periods)
moved_used units shift periods n w =
    ap (λ k. units * k) (omega (arith, then_sum (w.make 0) n (moved 0 shift periods w.make), moved_sum shift periods n w.make))

-- a lead time counts up to the number of periods
abbrev pub IsLead : (periods : ℕ) → Level → ℕ → Type 0
IsLead periods l lead = (t : ℕ) → t ≤ periods → t - l.lead ≡ t - lead

moved_is_made : (periods horizon lead next shift : ℕ) (l : Level) (used more : ℕ → ℕ) (w : Lots) → IsLead periods l lead → shift ≡ lead + next → ((n : ℕ) → more n ≡ used (min (n - next) periods)) → IsMade periods l used w
    → IsMadeAtOnce horizon (moved_level shift next periods l) more (moved_lots shift periods w)
moved_is_made periods horizon lead next shift l used more w same_lead is_shift uses is = record {
  once = λ t low high.
      ⊎_elim
      (λ out. omega (arith, moved_out 0 shift periods w.setup t out))
      (λ within. omega (arith, moved_in 0 shift periods w.setup t within.0 within.1, is.once (t - shift) within.0 within.1))
      (place (t - shift) periods);
  setup = λ t low high some.
      ⊎_elim
      (λ out. absurd (omega (arith, some, then_is (w.make 0) (moved 0 shift periods w.make) t low, moved_out 0 shift periods w.make t out)))
      (λ within.
      let made_then : 0 < w.make (t - shift) = omega (arith, some, then_is (w.make 0) (moved 0 shift periods w.make) t low, moved_in 0 shift periods w.make t within.0 within.1) in
      omega (arith, moved_in 0 shift periods w.setup t within.0 within.1, is.setup (t - shift) within.0 within.1 made_then))
      (place (t - shift) periods);
  served = λ n h.
      let t = min (n - next) periods in
      let inside : t ≤ periods = omega arith in
      let earlier : t - lead ≤ min (n - shift) periods = omega (arith, is_shift) in
      omega (
        arith,
        uses n,
        is.served t inside,
        moved_sum next periods n l.need,
        moved_made shift periods n w,
        ap (λ k. sum_to k w.make) (same_lead t inside),
        sum_to-front (t - lead) (min (n - shift) periods) w.make earlier,
      );
}

moved_cost : (periods shift t : ℕ) (l : Level) (w : Lots) → 1 ≤ t →
    moved 0 shift periods l.setup_cost t * moved 0 shift periods w.setup t + moved l.opening_price shift periods l.unit_cost t * first_then (w.make 0) (moved 0 shift periods w.make) t
    ≡ moved 0 shift periods (λ k. l.setup_cost k * w.setup k + l.unit_cost k * w.make k) t
moved_cost periods shift t l w low =
    let none = then_is (w.make 0) (moved 0 shift periods w.make) t low in
    ⊎_elim
    (λ out. rw (none, moved_out 0 shift periods w.setup t out, moved_out 0 shift periods w.make t out, moved_out 0 shift periods (λ k. l.setup_cost k * w.setup k + l.unit_cost k * w.make k) t out) (omega arith))
    (λ within. rw (
      none,
      moved_in 0 shift periods w.setup t within.0 within.1,
      moved_in 0 shift periods w.make t within.0 within.1,
      moved_in 0 shift periods l.setup_cost t within.0 within.1,
      moved_in l.opening_price shift periods l.unit_cost t within.0 within.1,
      moved_in 0 shift periods (λ k. l.setup_cost k * w.setup k + l.unit_cost k * w.make k) t within.0 within.1,
    ) refl)
    (place (t - shift) periods)

moved_costs : (periods horizon shift next : ℕ) (l : Level) (w : Lots) → lots_cost horizon (moved_level shift next periods l) (moved_lots shift periods w) ≤ lots_cost periods l w
moved_costs periods horizon shift next l w =
    let g = λ (k : ℕ). l.setup_cost k * w.setup k + l.unit_cost k * w.make k in
    omega (
      arith,
      sum_to-same horizon (λ t. moved 0 shift periods l.setup_cost t * moved 0 shift periods w.setup t + moved l.opening_price shift periods l.unit_cost t * first_then (w.make 0) (moved 0 shift periods w.make) t) (moved 0 shift periods g) (λ k low high. moved_cost periods shift k l w low),
      moved_sum shift periods horizon g,
      sum_to-front (min (horizon - shift) periods) periods g (omega arith),
    )

-- LOTS THAT ARE MOVED BACK

abbrev cut : (shift horizon : ℕ) → (ℕ → ℕ) → ℕ → ℕ
cut shift horizon f s = if nat_le (s + shift) horizon then f (s + shift) else 0

cut_in : (shift horizon : ℕ) (f : ℕ → ℕ) (s : ℕ) → s + shift ≤ horizon → cut shift horizon f s ≡ f (s + shift)
cut_in shift horizon f s h = grind (arith, h)

cut_out : (shift horizon : ℕ) (f : ℕ → ℕ) (s : ℕ) → horizon < s + shift → cut shift horizon f s ≡ 0
cut_out shift horizon f s h = grind (arith, h)

cut_sum : (shift horizon t : ℕ) (f : ℕ → ℕ) → sum_to (min (t + shift) horizon) f ≡ sum_to (min shift horizon) f + sum_to t (cut shift horizon f)
cut_sum shift horizon zero f =
    let e : min (0 + shift) horizon ≡ min shift horizon = omega arith in
    omega (arith, ap (λ k. sum_to k f) e)
cut_sum shift horizon (suc t) f =
    let before = cut_sum shift horizon t f in
    ⊎_elim
    (λ past.
    let e : min (suc t + shift) horizon ≡ min (t + shift) horizon = omega (arith, past) in
    omega (arith, before, cut_out shift horizon f (suc t) past, ap (λ k. sum_to k f) e))
    (λ within.
    let e : min (suc t + shift) horizon ≡ suc (t + shift) = omega (arith, within) in
    let i : min (t + shift) horizon ≡ t + shift = omega (arith, within) in
    let o : suc t + shift ≡ suc (t + shift) = omega arith in
    omega (arith, before, cut_in shift horizon f (suc t) within, ap (λ k. sum_to k f) e, ap (λ k. sum_to k f) i, ap f o))
    (cases_lt horizon (suc t + shift))

-- lots that come before the first period are taken from lot 0
abbrev back_lots : (shift horizon : ℕ) → Lots → Lots
back_lots shift horizon w = record {
  make = first_then (w.make 0 + sum_to (min shift horizon) w.make) (cut shift horizon w.make);
  setup = cut shift horizon w.setup;
}

back_made : (shift horizon t : ℕ) (w : Lots) → made (back_lots shift horizon w) t ≡ w.make 0 + sum_to (min (t + shift) horizon) w.make
back_made shift horizon t w = omega (arith, then_sum (w.make 0 + sum_to (min shift horizon) w.make) t (cut shift horizon w.make), cut_sum shift horizon t w.make)

back_used : (units shift horizon t : ℕ) (w : Lots) → t + shift ≤ horizon → used_by units (back_lots shift horizon w) t ≤ used_by units w (t + shift)
back_used units shift horizon t w h =
    let e : min (t + shift) horizon ≡ t + shift = omega (arith, h) in
    mul-le-mul_left units (omega (arith, then_sum (w.make 0 + sum_to (min shift horizon) w.make) t (cut shift horizon w.make), cut_sum shift horizon t w.make, ap (λ k. sum_to k w.make) e))

back_is_made : (periods horizon lead next shift : ℕ) (l : Level) (used more : ℕ → ℕ) (w : Lots) → IsLead periods l lead → shift ≡ lead + next → periods + next ≤ horizon → ((t : ℕ) → t ≤ periods → used t ≤ more (t + next))
    → IsMadeAtOnce horizon (moved_level shift next periods l) more w → IsMade periods l used (back_lots shift horizon w)
back_is_made periods horizon lead next shift l used more w same_lead is_shift long uses is = record {
  once = λ t low high.
      ⊎_elim
      (λ past. omega (arith, cut_out shift horizon w.setup t past))
      (λ within. omega (arith, cut_in shift horizon w.setup t within, is.once (t + shift) (omega (arith, low)) within))
      (cases_lt horizon (t + shift));
  setup = λ t low high some.
      let own = then_is (w.make 0 + sum_to (min shift horizon) w.make) (cut shift horizon w.make) t low in
      ⊎_elim
      (λ past. absurd (omega (arith, some, own, cut_out shift horizon w.make t past)))
      (λ within.
      let made_then : 0 < w.make (t + shift) = omega (arith, some, own, cut_in shift horizon w.make t within) in
      omega (arith, cut_in shift horizon w.setup t within, is.setup (t + shift) (omega (arith, low)) within made_then))
      (cases_lt horizon (t + shift));
  served = λ t h.
      let e : min (t + next - next) periods ≡ t = omega (arith, h) in
      let later : t + next ≤ min (t - l.lead + shift) horizon = omega (arith, same_lead t h, is_shift, long, h) in
      omega (
        arith,
        uses t h,
        is.served (t + next) (omega (arith, long, h)),
        moved_sum next periods (t + next) l.need,
        ap (λ k. sum_to k l.need) e,
        back_made shift horizon (t - l.lead) w,
        sum_to-front (t + next) (min (t - l.lead + shift) horizon) w.make later,
      );
}

back_cost : (periods horizon shift s : ℕ) (l : Level) (w : Lots) (a : ℕ) → 1 ≤ s → s ≤ periods →
    l.setup_cost s * cut shift horizon w.setup s + l.unit_cost s * first_then a (cut shift horizon w.make) s
    ≡ cut shift horizon (λ t. moved 0 shift periods l.setup_cost t * w.setup t + moved l.opening_price shift periods l.unit_cost t * w.make t) s
back_cost periods horizon shift s l w a low high =
    let F = λ (t : ℕ). moved 0 shift periods l.setup_cost t * w.setup t + moved l.opening_price shift periods l.unit_cost t * w.make t in
    let own = then_is a (cut shift horizon w.make) s low in
    ⊎_elim
    (λ past. rw (own, cut_out shift horizon w.setup s past, cut_out shift horizon w.make s past, cut_out shift horizon F s past) (omega arith))
    (λ within.
    let e : s + shift - shift ≡ s = omega arith in
    let price : moved 0 shift periods l.setup_cost (s + shift) ≡ l.setup_cost s = moved_in 0 shift periods l.setup_cost (s + shift) (omega (arith, low)) (omega (arith, high)) ∙ ap l.setup_cost e in
    let unit : moved l.opening_price shift periods l.unit_cost (s + shift) ≡ l.unit_cost s = moved_in l.opening_price shift periods l.unit_cost (s + shift) (omega (arith, low)) (omega (arith, high)) ∙ ap l.unit_cost e in
    rw (own, cut_in shift horizon w.setup s within, cut_in shift horizon w.make s within, cut_in shift horizon F s within, price, unit) refl)
    (cases_lt horizon (s + shift))

early_cost : (periods horizon shift : ℕ) (l : Level) (w : Lots) →
    l.opening_price * sum_to (min shift horizon) w.make ≤ sum_to (min shift horizon) (λ t. moved 0 shift periods l.setup_cost t * w.setup t + moved l.opening_price shift periods l.unit_cost t * w.make t)
early_cost periods horizon shift l w =
    omega (
      arith,
      sum_to-times (min shift horizon) l.opening_price w.make,
      sum_to-le (min shift horizon) (λ t. l.opening_price * w.make t) (λ t. moved 0 shift periods l.setup_cost t * w.setup t + moved l.opening_price shift periods l.unit_cost t * w.make t) (λ k low high.
          omega (arith, ap (λ p. p * w.make k) (moved_out l.opening_price shift periods l.unit_cost k (inl (omega (arith, high)))))),
    )

back_costs : (periods horizon shift next : ℕ) (l : Level) (w : Lots) → lots_cost periods l (back_lots shift horizon w) ≤ lots_cost horizon (moved_level shift next periods l) w
back_costs periods horizon shift next l w =
    let F = λ (t : ℕ). moved 0 shift periods l.setup_cost t * w.setup t + moved l.opening_price shift periods l.unit_cost t * w.make t in
    let a = w.make 0 + sum_to (min shift horizon) w.make in
    omega (
      arith,
      sum_to-same periods (λ s. l.setup_cost s * cut shift horizon w.setup s + l.unit_cost s * first_then a (cut shift horizon w.make) s) (cut shift horizon F) (λ k low high. back_cost periods horizon shift k l w a low high),
      cut_sum shift horizon periods F,
      sum_to-front (min (periods + shift) horizon) horizon F (omega arith),
      early_cost periods horizon shift l w,
    )

-- CHAINS

-- the least cost of a chain, or `most` where that is greater
pub record IsCappedCost (periods : ℕ) (levels : List Level) (cost : ℕ) : Type 0 where
  pub some : cost < most → (ws : List Lots) × IsChainMade periods levels ws × (chain_cost periods levels ws ≤ cost)
  pub least : (ws : List Lots) → IsChainMade periods levels ws → cost ≤ chain_cost periods levels ws

one_least : (periods lead : ℕ) (l : Level) (cost : ℕ) → IsLead periods l lead → IsLeastOfOne periods (moved_level lead 0 periods l) cost → (ws : List Lots) → IsChainMade periods (l ∷ []) ws → cost ≤ chain_cost periods (l ∷ []) ws
one_least periods lead l cost same is [] made = absurd made
one_least periods lead l cost same is (a ∷ []) made =
    omega (
      arith,
      is.least (moved_lots lead periods a) (moved_is_made periods periods lead 0 lead l unused unused a same (omega arith) (λ n. refl) made.0),
      moved_costs periods periods lead 0 l a,
    )
one_least periods lead l cost same is (a ∷ b ∷ ws) made = absurd made.1

pub one_capped : (periods lead : ℕ) (l : Level) (cost : ℕ) → IsLead periods l lead → IsLeastOfOne periods (moved_level lead 0 periods l) cost → IsCappedCost periods (l ∷ []) cost
one_capped periods lead l cost same is = record {
  some = λ small.
      let found = is.some small in
      let a = back_lots lead periods found.0 in
      let a_made = back_is_made periods periods lead 0 lead l unused unused found.0 same (omega arith) (omega arith) (λ t h. omega arith) found.1 in
      (a ∷ [], (a_made, tt), omega (arith, found.2, back_costs periods periods lead 0 l found.0));
  least = one_least periods lead l cost same is;
}

two_least : (periods horizon lead_1 lead_2 shift : ℕ) (l m : Level) (cost : ℕ) → IsLead periods l lead_1 → IsLead periods m lead_2 → shift ≡ lead_1 + lead_2 → horizon ≡ periods + lead_2 → IsLeastOfTwo horizon (moved_level shift lead_2 periods l) (moved_level lead_2 0 periods m) cost
    → (ws : List Lots) → IsChainMade periods (l ∷ m ∷ []) ws → cost ≤ chain_cost periods (l ∷ m ∷ []) ws
two_least periods horizon lead_1 lead_2 shift l m cost same_1 same_2 is_shift long is [] made = absurd made
two_least periods horizon lead_1 lead_2 shift l m cost same_1 same_2 is_shift long is (a ∷ []) made = absurd made.1
two_least periods horizon lead_1 lead_2 shift l m cost same_1 same_2 is_shift long is (a ∷ b ∷ []) made =
    let x = moved_lots shift periods a in
    let y = moved_lots lead_2 periods b in
    let x_made = moved_is_made periods horizon lead_1 lead_2 shift l (used_by l.per_next b) (used_by l.per_next y) a same_1 is_shift (λ n. moved_used l.per_next lead_2 periods n b) made.0 in
    let y_made = moved_is_made periods horizon lead_2 0 lead_2 m unused unused b same_2 (omega arith) (λ n. refl) made.1.0 in
    omega (arith, is.least x y x_made y_made, moved_costs periods horizon shift lead_2 l a, moved_costs periods horizon lead_2 0 m b)
two_least periods horizon lead_1 lead_2 shift l m cost same_1 same_2 is_shift long is (a ∷ b ∷ c ∷ ws) made = absurd made.1.1

pub two_capped : (periods horizon lead_1 lead_2 shift : ℕ) (l m : Level) (cost : ℕ) → IsLead periods l lead_1 → IsLead periods m lead_2 → shift ≡ lead_1 + lead_2 → horizon ≡ periods + lead_2 → IsLeastOfTwo horizon (moved_level shift lead_2 periods l) (moved_level lead_2 0 periods m) cost
    → IsCappedCost periods (l ∷ m ∷ []) cost
two_capped periods horizon lead_1 lead_2 shift l m cost same_1 same_2 is_shift long is = record {
  some = λ small.
      let found = is.some small in
      let a = back_lots shift horizon found.0 in
      let b = back_lots lead_2 horizon found.1 in
      let a_made = back_is_made periods horizon lead_1 lead_2 shift l (used_by l.per_next b) (used_by l.per_next found.1) found.0 same_1 is_shift (omega (arith, long)) (λ t h. back_used l.per_next lead_2 horizon t found.1 (omega (arith, h, long))) found.2 in
      let b_made = back_is_made periods horizon lead_2 0 lead_2 m unused unused found.1 same_2 (omega arith) (omega (arith, long)) (λ t h. omega arith) found.3 in
      (a ∷ b ∷ [], (a_made, (b_made, tt)), omega (arith, found.4, back_costs periods horizon shift lead_2 l found.0, back_costs periods horizon lead_2 0 m found.1));
  least = two_least periods horizon lead_1 lead_2 shift l m cost same_1 same_2 is_shift long is;
}

-- three levels with their shifts, and how far the lots go
pub record AreMoved (periods horizon : ℕ) (l m t : Level) (lead_1 lead_2 lead_3 shift_1 shift_2 : ℕ) : Type 0 where
  pub same_1 : IsLead periods l lead_1
  pub same_2 : IsLead periods m lead_2
  pub same_3 : IsLead periods t lead_3
  pub is_shift_1 : shift_1 ≡ lead_1 + shift_2
  pub is_shift_2 : shift_2 ≡ lead_2 + lead_3
  pub long : horizon ≡ periods + shift_2

three_least : (periods horizon : ℕ) (l m t : Level) (lead_1 lead_2 lead_3 shift_1 shift_2 cost : ℕ) → AreMoved periods horizon l m t lead_1 lead_2 lead_3 shift_1 shift_2
    → IsLeastOfThree horizon (moved_level shift_1 shift_2 periods l) (moved_level shift_2 lead_3 periods m) (moved_level lead_3 0 periods t) cost
    → (ws : List Lots) → IsChainMade periods (l ∷ m ∷ t ∷ []) ws → cost ≤ chain_cost periods (l ∷ m ∷ t ∷ []) ws
three_least periods horizon l m t lead_1 lead_2 lead_3 shift_1 shift_2 cost are is [] made = absurd made
three_least periods horizon l m t lead_1 lead_2 lead_3 shift_1 shift_2 cost are is (a ∷ []) made = absurd made.1
three_least periods horizon l m t lead_1 lead_2 lead_3 shift_1 shift_2 cost are is (a ∷ b ∷ []) made = absurd made.1.1
three_least periods horizon l m t lead_1 lead_2 lead_3 shift_1 shift_2 cost are is (a ∷ b ∷ c ∷ []) made =
    let x = moved_lots shift_1 periods a in
    let y = moved_lots shift_2 periods b in
    let z = moved_lots lead_3 periods c in
    let x_made = moved_is_made periods horizon lead_1 shift_2 shift_1 l (used_by l.per_next b) (used_by l.per_next y) a are.same_1 are.is_shift_1 (λ n. moved_used l.per_next shift_2 periods n b) made.0 in
    let y_made = moved_is_made periods horizon lead_2 lead_3 shift_2 m (used_by m.per_next c) (used_by m.per_next z) b are.same_2 are.is_shift_2 (λ n. moved_used m.per_next lead_3 periods n c) made.1.0 in
    let z_made = moved_is_made periods horizon lead_3 0 lead_3 t unused unused c are.same_3 (omega arith) (λ n. refl) made.1.1.0 in
    omega (arith, is.least x y z x_made y_made z_made, moved_costs periods horizon shift_1 shift_2 l a, moved_costs periods horizon shift_2 lead_3 m b, moved_costs periods horizon lead_3 0 t c)
three_least periods horizon l m t lead_1 lead_2 lead_3 shift_1 shift_2 cost are is (a ∷ b ∷ c ∷ d ∷ ws) made = absurd made.1.1.1

pub three_capped : (periods horizon : ℕ) (l m t : Level) (lead_1 lead_2 lead_3 shift_1 shift_2 cost : ℕ) → AreMoved periods horizon l m t lead_1 lead_2 lead_3 shift_1 shift_2
    → IsLeastOfThree horizon (moved_level shift_1 shift_2 periods l) (moved_level shift_2 lead_3 periods m) (moved_level lead_3 0 periods t) cost
    → IsCappedCost periods (l ∷ m ∷ t ∷ []) cost
three_capped periods horizon l m t lead_1 lead_2 lead_3 shift_1 shift_2 cost are is = record {
  some = λ small.
      let found = is.some small in
      let a = back_lots shift_1 horizon found.0 in
      let b = back_lots shift_2 horizon found.1 in
      let c = back_lots lead_3 horizon found.2 in
      let a_made =
      back_is_made periods horizon lead_1 shift_2 shift_1 l (used_by l.per_next b) (used_by l.per_next found.1) found.0 are.same_1 are.is_shift_1 (omega (arith, are.long))
      (λ k h. back_used l.per_next shift_2 horizon k found.1 (omega (arith, h, are.long))) found.3 in
      let b_made =
      back_is_made periods horizon lead_2 lead_3 shift_2 m (used_by m.per_next c) (used_by m.per_next found.2) found.1 are.same_2 are.is_shift_2 (omega (arith, are.long, are.is_shift_2))
      (λ k h. back_used m.per_next lead_3 horizon k found.2 (omega (arith, h, are.long, are.is_shift_2))) found.4 in
      let c_made = back_is_made periods horizon lead_3 0 lead_3 t unused unused found.2 are.same_3 (omega arith) (omega (arith, are.long)) (λ k h. omega arith) found.5 in
      (a ∷ b ∷ c ∷ [], (a_made, (b_made, (c_made, tt))), omega (arith, found.6, back_costs periods horizon shift_1 shift_2 l found.0, back_costs periods horizon shift_2 lead_3 m found.1, back_costs periods horizon lead_3 0 t found.2));
  least = three_least periods horizon l m t lead_1 lead_2 lead_3 shift_1 shift_2 cost are is;
}
