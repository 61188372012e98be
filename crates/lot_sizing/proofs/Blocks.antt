-- Some net plan costs no more than blocks that cover all positions.
use Rattle.std.proofs.Common.{◌≡◌, ◌≢◌, ◌≤◌, ◌<◌, ◌+◌, ◌-◌, ◌*◌, ◌∙◌, ◌⊎◌, ⊎_elim, inl, inr, ℕ, zero, suc, refl, sym, ap, subst, arith, List, [], ◌∷◌, min}
use Rattle.std.specs.Prelude.{IsNone, if◌then◌else◌, ◌==◌, ◌||◌, nat_le, Bool, true, false}
use Rattle.std.specs.List.{list_any}
use Rattle.std.proofs.lemmas.Nat.{mul-le}
use Rattle.std.proofs.lemmas.Bool.{cases_lt, cases_eq}
use Rattle.std.proofs.lemmas.List.Sums.{sum_by-cons}
use Rattle.lot_sizing.specs.Sums.{sum_to, sum_from}
use Rattle.lot_sizing.specs.Problem.{entry, backlog_price}
use Rattle.lot_sizing.specs.declared.Block.{Block}
use Rattle.lot_sizing.specs.Single.{Single, NetPlan, IsNetPlan, IsServer, IsBlock, CoverFrom, Cover, period_count, net_demand, net_cost, position_count, period_of, unit_price, serving_cost, block_cost, blocks_cost, block_lot, lot_in, setup_in, blocks_plan}
use Rattle.lot_sizing.proofs.Sums.{sum_to-same}
use Rattle.lot_sizing.proofs.Positions.{count, count_le, count_next, place, period_of_count, later}

-- one number of the first n is greater by a
record IsBumped (n : ℕ) (more less : ℕ → ℕ) (at a : ℕ) : Type 0 where
  low : 1 ≤ at
  here : more at ≡ less at + a
  others : (k : ℕ) → 1 ≤ k → k ≤ n → k ≢ at → more k ≡ less k

bumped_later : (n : ℕ) (more less : ℕ → ℕ) (at a t : ℕ) → IsBumped n more less at a → t ≤ n → t < at → sum_to t more ≡ sum_to t less
bumped_later n more less at a t bump h later = sum_to-same t more less (λ k low high. bump.others k low (omega arith) (λ same. omega (arith, same, high, later)))

bumped : (n : ℕ) (more less : ℕ → ℕ) (at a t : ℕ) → IsBumped n more less at a → t ≤ n → at ≤ t → sum_to t more ≡ sum_to t less + a
bumped n more less at a zero bump h before = absurd (omega (arith, before, bump.low))
bumped n more less at a (suc t) bump h before =
    ⊎_elim
    (λ same.
    omega (arith, bumped_later n more less at a t bump (omega (arith, h)) (omega (arith, same)), bump.here, ap more same, ap less same))
    (λ apart.
    omega (arith, bumped n more less at a t bump (omega (arith, h)) (omega (arith, before, apart)), bump.others (suc t) (omega arith) h (λ same. apart (sym same))))
    (cases_eq at (suc t))

-- f u + .. + f t, before w
abbrev window : (ℕ → ℕ) → ℕ → ℕ → ℕ → ℕ
window f u w t = sum_from u (min (suc t) w - u) f

window_in : (f : ℕ → ℕ) (u w t : ℕ) → u ≤ suc t → suc t < w → window f u w (suc t) ≡ window f u w t + f (suc t)
window_in f u w t low high =
    let e : min (suc (suc t)) w - u ≡ suc (min (suc t) w - u) = omega (arith, low, high) in
    let i : u + (min (suc t) w - u) ≡ suc t = omega (arith, low, high) in
    omega (arith, ap (λ k. sum_from u k f) e, ap f i)

window_out : (f : ℕ → ℕ) (u w t : ℕ) → (suc t < u) ⊎ (w ≤ suc t) → window f u w (suc t) ≡ window f u w t
window_out f u w t out =
    ⊎_elim
    (λ before. let e : min (suc (suc t)) w - u ≡ min (suc t) w - u = omega (arith, before) in ap (λ k. sum_from u k f) e)
    (λ after. let e : min (suc (suc t)) w - u ≡ min (suc t) w - u = omega (arith, after) in ap (λ k. sum_from u k f) e)
    out

-- a sum that grows by a from period at on
record Grows (more less at a t : ℕ) : Type 0 where
  from : at ≤ t → more ≡ less + a
  before : t < at → more ≡ less

grows : (n : ℕ) (more less : ℕ → ℕ) (at a t : ℕ) → IsBumped n more less at a → t ≤ n → Grows (sum_to t more) (sum_to t less) at a t
grows n more less at a t bump h = record { from = λ low. bumped n more less at a t bump h low; before = λ low. bumped_later n more less at a t bump h low }

-- what is over grows in the window alone
drift : (f : ℕ → ℕ) (made net made' net' u w a t : ℕ) → Grows made' made u a (suc t) → Grows net' net w a (suc t) → f (suc t) * (made' - net') + a * window f u w t ≤ f (suc t) * (made - net) + a * window f u w (suc t)
drift f made net made' net' u w a t more_made more_net =
    ⊎_elim
    (λ u_late. ⊎_elim
    (λ w_late.
    let e : made' - net' ≡ made - net = omega (arith, more_made.before u_late, more_net.before w_late) in
    omega (arith, ap (λ k. f (suc t) * k) e, ap (λ k. a * k) (window_out f u w t (inl u_late))))
    (λ w_here.
    let h : made' - net' ≤ made - net = omega (arith, more_made.before u_late, more_net.from w_here) in
    omega (arith, mul-le (f (suc t)) (made' - net') (f (suc t)) (made - net) (omega arith) h, ap (λ k. a * k) (window_out f u w t (inl u_late))))
    (cases_lt (suc t) w))
    (λ u_here. ⊎_elim
    (λ w_late.
    let h : made' - net' ≤ (made - net) + a = omega (arith, more_made.from u_here, more_net.before w_late) in
    omega (arith, mul-le (f (suc t)) (made' - net') (f (suc t)) ((made - net) + a) (omega arith) h, ap (λ k. a * k) (window_in f u w t u_here w_late)))
    (λ w_here.
    let e : made' - net' ≡ made - net = omega (arith, more_made.from u_here, more_net.from w_here) in
    omega (arith, ap (λ k. f (suc t) * k) e, ap (λ k. a * k) (window_out f u w t (inr w_here))))
    (cases_lt (suc t) w))
    (cases_lt (suc t) u)

-- what is made grows in its period alone
lot_drift : (f more less : ℕ → ℕ) (n u a t : ℕ) → IsBumped n more less u a → suc t ≤ n → f (suc t) * more (suc t) + a * window f u (suc u) t ≡ f (suc t) * less (suc t) + a * window f u (suc u) (suc t)
lot_drift f more less n u a t bump h =
    ⊎_elim
    (λ same.
    let e : more (suc t) ≡ less (suc t) + a = omega (arith, ap more same, ap less same, bump.here) in
    omega (arith, ap (λ k. f (suc t) * k) e, ap (λ k. a * k) (window_in f u (suc u) t (omega (arith, same)) (omega (arith, same)))))
    (λ apart.
    let out : (suc t < u) ⊎ (suc u ≤ suc t) = ⊎_elim inl (λ no. inr (omega (arith, no, apart))) (cases_lt (suc t) u) in
    omega (arith, ap (λ k. f (suc t) * k) (bump.others (suc t) (omega arith) h (λ same. apart (sym same))), ap (λ k. a * k) (window_out f u (suc u) t out)))
    (cases_eq u (suc t))

-- what the first t periods of a plan cost that serves other demands
abbrev cost_with : Single → (ℕ → ℕ) → NetPlan → ℕ → ℕ
cost_with s n p t = sum_to t (λ k. entry s.setup k * p.setup k + entry s.unit k * p.make k + entry s.hold k * (sum_to k p.make - sum_to k n) + backlog_price s.back k * (sum_to k n - sum_to k p.make))

-- a units more are made in u and asked for in w
more_units : (s : Single) (n n' make make' setup : ℕ → ℕ) (u w a : ℕ) → IsBumped (period_count s) make' make u a → IsBumped (period_count s) n' n w a → (t : ℕ) → t ≤ period_count s → cost_with s n' (record { make = make'; setup = setup }) t ≤ cost_with s n (record { make = make; setup = setup }) t + a * (window (entry s.unit) u (suc u) t + window (entry s.hold) u w t + window (backlog_price s.back) w u t)
more_units s n n' make make' setup u w a more_made more_net zero h = omega arith
more_units s n n' make make' setup u w a more_made more_net (suc t) h =
    let all = period_count s in
    let m = grows all make' make u a (suc t) more_made h in
    let d = grows all n' n w a (suc t) more_net h in
    omega (
      arith,
      more_units s n n' make make' setup u w a more_made more_net t (omega (arith, h)),
      lot_drift (entry s.unit) make' make all u a t more_made h,
      drift (entry s.hold) (sum_to (suc t) make) (sum_to (suc t) n) (sum_to (suc t) make') (sum_to (suc t) n') u w a t m d,
      drift (backlog_price s.back) (sum_to (suc t) n) (sum_to (suc t) make) (sum_to (suc t) n') (sum_to (suc t) make') w u a t d m,
    )

-- the same with u set up
with_setup : (ℕ → ℕ) → ℕ → ℕ → ℕ
with_setup y u k = if k == u then 1 else y k

set_here : (y : ℕ → ℕ) (u : ℕ) → with_setup y u u ≡ 1
unfolding with_setup
set_here y u = grind arith

set_other : (y : ℕ → ℕ) (u k : ℕ) → k ≢ u → with_setup y u k ≡ y k
unfolding with_setup
set_other y u k apart = grind (arith, apart)

set_step : (f y : ℕ → ℕ) (u t : ℕ) → f (suc t) * with_setup y u (suc t) + window f u (suc u) t ≤ f (suc t) * y (suc t) + window f u (suc u) (suc t)
set_step f y u t =
    ⊎_elim
    (λ same.
    let e : with_setup y u (suc t) ≡ 1 = ap (with_setup y u) same ∙ set_here y u in
    omega (arith, ap (λ k. f (suc t) * k) e, window_in f u (suc u) t (omega (arith, same)) (omega (arith, same))))
    (λ apart.
    let out : (suc t < u) ⊎ (suc u ≤ suc t) = ⊎_elim inl (λ no. inr (omega (arith, no, apart))) (cases_lt (suc t) u) in
    omega (arith, ap (λ k. f (suc t) * k) (set_other y u (suc t) apart), window_out f u (suc u) t out))
    (cases_eq (suc t) u)

more_setup : (s : Single) (n make y : ℕ → ℕ) (u t : ℕ) → cost_with s n (record { make = make; setup = with_setup y u }) t ≤ cost_with s n (record { make = make; setup = y }) t + window (entry s.setup) u (suc u) t
more_setup s n make y u zero = omega arith
more_setup s n make y u (suc t) = omega (arith, more_setup s n make y u t, set_step (entry s.setup) y u t)

-- the net demands of the first k positions
demand_to : Single → ℕ → ℕ → ℕ
demand_to s k t = if nat_le (count s t) k then net_demand s t else 0

demand_in : (s : Single) (k t : ℕ) → count s t ≤ k → demand_to s k t ≡ net_demand s t
unfolding demand_to
demand_in s k t h = grind (arith, h)

demand_out : (s : Single) (k t : ℕ) → k < count s t → demand_to s k t ≡ 0
unfolding demand_to
demand_out s k t h = grind (arith, h)

-- one position more
demand_next : (s : Single) (k : ℕ) → suc k ≤ position_count s → IsBumped (period_count s) (demand_to s (suc k)) (demand_to s k) (period_of s (suc k)) (net_demand s (period_of s (suc k)))
demand_next s k h =
    let found = place s (suc k) (omega arith) h in
    let w = period_of s (suc k) in
    let here : count s w ≡ suc k = ap (count s) found.3 ∙ found.2.count in
    record {
      low = omega (arith, found.3);
      here = omega (arith, demand_in s (suc k) w (omega (arith, here)), demand_out s k w (omega (arith, here)));
      others = λ t low high apart. ⊎_elim
          (λ few. demand_in s (suc k) t (omega (arith, few)) ∙ sym (demand_in s k t (omega (arith, few))))
          (λ no. ⊎_elim
          (λ same. ⊎_elim
          (λ some. absurd (apart (
          let e : suc (t - 1) ≡ t = omega (arith, low) in
          sym e ∙ sym (period_of_count s (t - 1) (omega (arith, e, high)) (omega (arith, some, ap (net_demand s) e))) ∙ ap (λ j. period_of s (count s j)) e ∙ ap (period_of s) same)))
          (λ none. omega (arith, none, demand_in s (suc k) t (omega (arith, same)), demand_out s k t (omega (arith, same))))
          (cases_lt 0 (net_demand s t)))
          (λ many. demand_out s (suc k) t (omega (arith, no, many)) ∙ sym (demand_out s k t (omega (arith, no, many))))
          (cases_eq (count s t) (suc k)))
          (cases_lt (count s t) (suc k));
    }

-- a plan that serves the first k positions for at most c
record IsPlanTo (s : Single) (k c : ℕ) (p : NetPlan) : Type 0 where
  setup : (t : ℕ) → p.setup t ≤ 1
  made : (t : ℕ) → 0 < p.make t → p.setup t ≡ 1
  total : sum_to (period_count s) p.make ≡ sum_to (period_count s) (demand_to s k)
  in_time : IsNone s.back → (t : ℕ) → t ≤ period_count s → sum_to t (demand_to s k) ≤ sum_to t p.make
  costs : cost_with s (demand_to s k) p (period_count s) ≤ c

with_lot : (ℕ → ℕ) → ℕ → ℕ → ℕ → ℕ
with_lot x u a k = if k == u then x k + a else x k

lot_bump : (n : ℕ) (x : ℕ → ℕ) (u a : ℕ) → 1 ≤ u → IsBumped n (with_lot x u a) x u a
unfolding with_lot
lot_bump n x u a low = record { low = low; here = grind arith; others = λ k k_low high apart. grind (arith, apart) }

lot_here : (x : ℕ → ℕ) (u a k : ℕ) → k ≢ u → with_lot x u a k ≡ x k
unfolding with_lot
lot_here x u a k apart = grind (arith, apart)

-- the windows over all periods
all_windows : (s : Single) (u w a : ℕ) → u ≤ period_count s → w ≤ period_count s → a * (window (entry s.unit) u (suc u) (period_count s) + window (entry s.hold) u w (period_count s) + window (backlog_price s.back) w u (period_count s)) ≡ a * unit_price s u w
all_windows s u w a u_high w_high =
    let T = period_count s in
    let e : min (suc T) (suc u) - u ≡ 1 = omega (arith, u_high) in
    let i : u + 0 ≡ u = omega arith in
    let f : min (suc T) w - u ≡ w - u = omega (arith, w_high) in
    let g : min (suc T) u - w ≡ u - w = omega (arith, u_high) in
    let sum : window (entry s.unit) u (suc u) T + window (entry s.hold) u w T + window (backlog_price s.back) w u T ≡ unit_price s u w = omega (arith, ap (λ k. sum_from u k (entry s.unit)) e, ap (entry s.unit) i, ap (λ k. sum_from u k (entry s.hold)) f, ap (λ k. sum_from w k (backlog_price s.back)) g) in
    ap (λ k. a * k) sum

-- a server makes what one position more asks for
one_more : (s : Single) (k c u : ℕ) (p : NetPlan) → suc k ≤ position_count s → IsServer s u (period_of s (suc k)) → p.setup u ≡ 1 → IsPlanTo s k c p → IsPlanTo s (suc k) (c + serving_cost s u (suc k)) (record { make = with_lot p.make u (net_demand s (period_of s (suc k))); setup = p.setup })
one_more s k c u p high server set to =
    let T = period_count s in
    let w = period_of s (suc k) in
    let a = net_demand s w in
    let w_high : w ≤ T = (let found = place s (suc k) (omega arith) high in omega (arith, found.1, found.3)) in
    let lot = lot_bump T p.make u a server.low in
    let asked = demand_next s k high in
    record {
      setup = to.setup;
      made = λ t some. ⊎_elim
          (λ same. ap p.setup same ∙ set)
          (λ apart. to.made t (omega (arith, some, lot_here p.make u a t apart)))
          (cases_eq t u);
      total = omega (arith, to.total, bumped T _ _ u a T lot (omega arith) server.high, bumped T _ _ w a T asked (omega arith) w_high);
      in_time = λ none t t_high. ⊎_elim
          (λ w_late. ⊎_elim
          (λ u_late. omega (arith, to.in_time none t t_high, bumped_later T _ _ w a t asked t_high w_late, bumped_later T _ _ u a t lot t_high u_late))
          (λ u_here. omega (arith, to.in_time none t t_high, bumped_later T _ _ w a t asked t_high w_late, bumped T _ _ u a t lot t_high u_here))
          (cases_lt t u))
          (λ w_here. omega (arith, to.in_time none t t_high, bumped T _ _ w a t asked t_high w_here, bumped T _ _ u a t lot t_high (omega (arith, w_here, server.in_time none))))
          (cases_lt t w);
      costs = omega (arith, to.costs, more_units s (demand_to s k) (demand_to s (suc k)) p.make (with_lot p.make u a) p.setup u w a lot asked T (omega arith), all_windows s u w a server.high w_high);
    }

-- a period is set up
set_up : (s : Single) (k c u : ℕ) (p : NetPlan) → u ≤ period_count s → IsPlanTo s k c p → IsPlanTo s k (c + entry s.setup u) (record { make = p.make; setup = with_setup p.setup u })
set_up s k c u p high to =
    let T = period_count s in
    let e : min (suc T) (suc u) - u ≡ 1 = omega (arith, high) in
    let i : u + 0 ≡ u = omega arith in
    record {
      setup = λ t. ⊎_elim
          (λ same. omega (arith, ap (with_setup p.setup u) same, set_here p.setup u))
          (λ apart. omega (arith, set_other p.setup u t apart, to.setup t))
          (cases_eq t u);
      made = λ t some. ⊎_elim
          (λ same. ap (with_setup p.setup u) same ∙ set_here p.setup u)
          (λ apart. set_other p.setup u t apart ∙ to.made t some)
          (cases_eq t u);
      total = to.total;
      in_time = to.in_time;
      costs = omega (arith, to.costs, more_setup s (demand_to s k) p.make p.setup u T, ap (λ k. sum_from u k (entry s.setup)) e, ap (entry s.setup) i);
    }

-- later positions stand later
pub periods_rise : (s : Single) (p q : ℕ) → 1 ≤ p → p ≤ q → q ≤ position_count s → period_of s p ≤ period_of s q
periods_rise s p q low order high =
    ⊎_elim
    (λ less.
    let found = place s p low (omega (arith, order, high)) in
    omega (arith, later s (period_of s p) q (omega (arith, ap (count s) found.3, found.2.count, less)) high))
    (λ no. let e : p ≡ q = omega (arith, no, order) in omega (arith, ap (period_of s) e))
    (cases_lt p q)

lot_is : (x : ℕ → ℕ) (u a k : ℕ) → with_lot x u a k ≡ x k + (if u == k then a else 0)
unfolding with_lot
lot_is x u a k = ⊎_elim (λ same. grind (arith, same)) (λ apart. grind (arith, apart)) (cases_eq u k)

if_more : (u k a b : ℕ) → (if u == k then a else 0) + (if u == k then b else 0) ≡ (if u == k then a + b else 0)
if_more u k a b = ⊎_elim (λ same. grind (arith, same)) (λ apart. grind (arith, apart)) (cases_eq u k)

-- what n positions after k ask for
abbrev asked_by : Single → ℕ → ℕ → ℕ
asked_by s k n = sum_from (suc k) n (λ j. net_demand s (period_of s j))

-- a plan that serves n positions more from u
record IsPlanMore (s : Single) (k c u n : ℕ) (p q : NetPlan) : Type 0 where
  to : IsPlanTo s (k + n) (c + sum_from (suc k) n (serving_cost s u)) q
  make : (j : ℕ) → q.make j ≡ p.make j + (if u == j then asked_by s k n else 0)
  setup : (j : ℕ) → q.setup j ≡ p.setup j

-- a server that is set up makes what n positions more ask for
some_more : (s : Single) (k c u : ℕ) (p : NetPlan) (n : ℕ) → k + n ≤ position_count s → (0 < n → IsServer s u (period_of s (suc k))) → p.setup u ≡ 1 → IsPlanTo s k c p → (q : NetPlan) × IsPlanMore s k c u n p q
some_more s k c u p zero high server set to = (
  p,
  record {
    to = subst (λ j. IsPlanTo s j (c + 0) p) (omega arith) (subst (λ j. IsPlanTo s k j p) (omega arith) to);
    make = λ j. grind arith;
    setup = λ j. refl;
  },
)
some_more s k c u p (suc n) high server set to =
    let before = some_more s k c u p n (omega (arith, high)) (λ some. server (omega arith)) set to in
    let q = before.0 in
    let first = server (omega arith) in
    let e : suc k + n ≡ suc (k + n) = omega arith in
    let i : suc (k + n) ≡ k + suc n = omega arith in
    let rise = periods_rise s (suc k) (suc (k + n)) (omega arith) (omega arith) (omega (arith, high)) in
    let a = net_demand s (period_of s (suc (k + n))) in
    let more = one_more s (k + n) (c + sum_from (suc k) n (serving_cost s u)) u q (omega (arith, high)) (record { low = first.low; high = first.high; in_time = λ none. omega (arith, first.in_time none, rise) }) (before.1.setup u ∙ set) before.1.to in
    let sum : c + sum_from (suc k) n (serving_cost s u) + serving_cost s u (suc (k + n)) ≡ c + sum_from (suc k) (suc n) (serving_cost s u) = omega (arith, ap (serving_cost s u) e) in
    let r : NetPlan = record { make = with_lot q.make u a; setup = q.setup } in
    let asked : asked_by s k n + a ≡ asked_by s k (suc n) = ap (λ j. asked_by s k n + net_demand s (period_of s j)) (sym e) in (
      r,
      record {
        to = subst (λ j. IsPlanTo s j (c + sum_from (suc k) (suc n) (serving_cost s u)) r) i (subst (λ j. IsPlanTo s (suc (k + n)) j r) sum more);
        make = λ j. omega (arith, lot_is q.make u a j, before.1.make j, if_more u j (asked_by s k n) a, ap (λ x. if u == j then x else 0) asked);
        setup = before.1.setup;
      },
    )

-- a plan that serves the positions of blocks more
record IsPlanWith (s : Single) (k c : ℕ) (blocks : List Block) (p q : NetPlan) : Type 0 where
  to : IsPlanTo s k c q
  make : (j : ℕ) → q.make j ≡ p.make j + lot_in s blocks j
  setup : (j : ℕ) → q.setup j ≡ (if list_any (λ b. b.server == j) blocks then 1 else p.setup j)

set_is : (y : ℕ → ℕ) (u k : ℕ) → with_setup y u k ≡ (if u == k then 1 else y k)
unfolding with_setup
set_is y u k = ⊎_elim (λ same. grind (arith, same)) (λ apart. grind (arith, apart)) (cases_eq u k)

-- one block more
block_more : (s : Single) (k c : ℕ) (b : Block) (p : NetPlan) → b.first ≡ k + 1 → IsBlock s b → IsPlanTo s k c p → (q : NetPlan) × IsPlanTo s b.last (c + block_cost s b) q × ((j : ℕ) → q.make j ≡ p.make j + (if b.server == j then block_lot s b else 0)) × ((j : ℕ) → q.setup j ≡ (if b.server == j then 1 else p.setup j))
block_more s k c b p first is_block to =
    let u = b.server in
    let n = suc b.last - b.first in
    let e : b.first ≡ suc k = omega (arith, first) in
    let i : k + n ≡ b.last = omega (arith, first, is_block.order) in
    let set = set_up s k c u p is_block.server.high to in
    let found = some_more s k (c + entry s.setup u) u (record { make = p.make; setup = with_setup p.setup u }) n (omega (arith, i, is_block.high)) (λ some. subst (λ j. IsServer s u (period_of s j)) e is_block.server) (set_here p.setup u) set in
    let sum : c + entry s.setup u + sum_from (suc k) n (serving_cost s u) ≡ c + block_cost s b = omega (arith, ap (λ j. sum_from j n (serving_cost s u)) e) in (
      found.0,
      subst (λ j. IsPlanTo s j (c + block_cost s b) found.0) i (subst (λ j. IsPlanTo s (k + n) j found.0) sum found.1.to),
      λ j. found.1.make j ∙ ap (λ f. p.make j + (if u == j then sum_from f n (λ x. net_demand s (period_of s x)) else 0)) (sym e),
      λ j. found.1.setup j ∙ set_is p.setup u j,
    )

any_setup : (t : Bool) (rest : Bool) (y : ℕ) → (if rest then 1 else if t then 1 else y) ≡ (if t || rest then 1 else y)
any_setup true true y = refl
any_setup true false y = refl
any_setup false true y = refl
any_setup false false y = refl

all_blocks : (s : Single) (k c : ℕ) (blocks : List Block) (p : NetPlan) → CoverFrom s k blocks → IsPlanTo s k c p → (q : NetPlan) × IsPlanWith s (position_count s) (c + blocks_cost s blocks) blocks p q
all_blocks s k c [] p cover to = (
  p,
  record {
    to = subst (λ j. IsPlanTo s j (c + 0) p) cover (subst (λ j. IsPlanTo s k j p) (omega arith) to);
    make = λ j. omega arith;
    setup = λ j. refl;
  },
)
all_blocks s k c (b ∷ rest) p cover to =
    let more = block_more s k c b p cover.0 cover.1 to in
    let all = all_blocks s b.last (c + block_cost s b) rest more.0 cover.2 more.1 in
    let sum : c + block_cost s b + blocks_cost s rest ≡ c + blocks_cost s (b ∷ rest) = omega (arith, sum_by-cons (block_cost s) b rest) in (
      all.0,
      record {
        to = subst (λ j. IsPlanTo s (position_count s) j all.0) sum all.1.to;
        make = λ j. omega (arith, all.1.make j, more.2 j, sum_by-cons (λ x. if x.server == j then block_lot s x else 0) b rest);
        setup = λ j. all.1.setup j ∙ ap (λ y. if list_any (λ x. x.server == j) rest then 1 else y) (more.3 j) ∙ any_setup (b.server == j) (list_any (λ x. x.server == j) rest) (p.setup j);
      },
    )

-- the first periods without a position ask for nothing
nothing_asked : (s : Single) (t : ℕ) → sum_to t (demand_to s 0) ≡ 0
nothing_asked s zero = refl
nothing_asked s (suc t) =
    ⊎_elim
    (λ some. omega (arith, nothing_asked s t, demand_out s 0 (suc t) (omega (arith, count_next s t some))))
    (λ none. ⊎_elim
    (λ few. omega (arith, nothing_asked s t, demand_out s 0 (suc t) few))
    (λ no. omega (arith, nothing_asked s t, demand_in s 0 (suc t) no, none))
    (cases_lt 0 (count s (suc t))))
    (cases_lt 0 (net_demand s (suc t)))

no_lots : NetPlan
no_lots = record { make = λ _. 0; setup = λ _. 0 }

none_made : (t : ℕ) → sum_to t no_lots.make ≡ 0
unfolding no_lots
none_made zero = refl
none_made (suc t) = omega (arith, none_made t)

no_cost : (s : Single) (t : ℕ) → cost_with s (demand_to s 0) no_lots t ≡ 0
unfolding no_lots
no_cost s zero = refl
no_cost s (suc t) =
    let left : sum_to (suc t) no_lots.make - sum_to (suc t) (demand_to s 0) ≡ 0 = omega (arith, none_made (suc t)) in
    let short : sum_to (suc t) (demand_to s 0) - sum_to (suc t) no_lots.make ≡ 0 = omega (arith, nothing_asked s (suc t)) in
    omega (arith, no_cost s t, ap (λ k. entry s.hold (suc t) * k) left, ap (λ k. backlog_price s.back (suc t) * k) short)

no_lot_more : (s : Single) (blocks : List Block) (j : ℕ) → no_lots.make j + lot_in s blocks j ≡ lot_in s blocks j
unfolding no_lots
no_lot_more s blocks j = omega arith

no_setup_more : (blocks : List Block) (j : ℕ) → (if list_any (λ b. b.server == j) blocks then 1 else no_lots.setup j) ≡ setup_in blocks j
unfolding no_lots
no_setup_more blocks j = refl

nothing_served : (s : Single) → IsPlanTo s 0 0 no_lots
unfolding no_lots
nothing_served s = record {
  setup = λ t. omega arith;
  made = λ t some. absurd (omega (arith, some));
  total = omega (arith, none_made (period_count s), nothing_asked s (period_count s));
  in_time = λ none t h. omega (arith, nothing_asked s t);
  costs = omega (arith, no_cost s (period_count s));
}

all_asked : (s : Single) (t : ℕ) → t ≤ period_count s → sum_to t (demand_to s (position_count s)) ≡ sum_to t (net_demand s)
all_asked s t h = sum_to-same t _ _ (λ k low high. demand_in s (position_count s) k (count_le s k (period_count s) (omega (arith, high, h))))

-- a plan that serves all that is asked for, and no more
pub record ServesAll (s : Single) (c : ℕ) (p : NetPlan) : Type 0 where
  pub plan : IsNetPlan s p
  pub even : sum_to (period_count s) p.make ≡ sum_to (period_count s) (net_demand s)
  pub costs : net_cost s p ≤ c

all_served : (s : Single) (c : ℕ) (p : NetPlan) → IsPlanTo s (position_count s) c p → ServesAll s c p
all_served s c p to =
    let T = period_count s in
    let m = position_count s in
    record {
      plan = record {
        setup = λ t low high. to.setup t;
        made = λ t low high. to.made t;
        served = omega (arith, to.total, all_asked s T (omega arith));
        in_time = λ none t low high. omega (arith, to.in_time none t high, all_asked s t high);
      };
      even = omega (arith, to.total, all_asked s T (omega arith));
      costs = omega (
        arith,
        to.costs,
        sum_to-same T
            (λ k. entry s.setup k * p.setup k + entry s.unit k * p.make k + entry s.hold k * (sum_to k p.make - sum_to k (demand_to s m)) + backlog_price s.back k * (sum_to k (demand_to s m) - sum_to k p.make))
            (λ k. entry s.setup k * p.setup k + entry s.unit k * p.make k + entry s.hold k * (sum_to k p.make - sum_to k (net_demand s)) + backlog_price s.back k * (sum_to k (net_demand s) - sum_to k p.make))
            (λ k low high. ap (λ n. entry s.setup k * p.setup k + entry s.unit k * p.make k + entry s.hold k * (sum_to k p.make - n) + backlog_price s.back k * (n - sum_to k p.make)) (all_asked s k high)),
      );
    }

same_plan : (p q : NetPlan) → ((j : ℕ) → p.make j ≡ q.make j) → ((j : ℕ) → p.setup j ≡ q.setup j) → p ≡ q
same_plan p q make setup = λ i. record { make = λ j. make j i; setup = λ j. setup j i }

-- the plan of the blocks costs no more than the blocks
pub blocks_serve : (s : Single) (blocks : List Block) → Cover s blocks → ServesAll s (blocks_cost s blocks) (blocks_plan s blocks)
blocks_serve s blocks cover =
    let found = all_blocks s 0 0 blocks no_lots cover (nothing_served s) in
    let same = same_plan found.0 (blocks_plan s blocks) (λ j. found.1.make j ∙ no_lot_more s blocks j) (λ j. found.1.setup j ∙ no_setup_more blocks j) in
    let done = subst (ServesAll s (0 + blocks_cost s blocks)) same (all_served s (0 + blocks_cost s blocks) found.0 found.1.to) in
    record { plan = done.plan; even = done.even; costs = omega (arith, done.costs) }
