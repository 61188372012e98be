-- No net plan costs less than the last potential.
use Rattle.std.proofs.Common.{◌≡◌, ◌≤◌, ◌<◌, ◌+◌, ◌-◌, ◌*◌, ◌∙◌, ◌⊎◌, ⊎_elim, inl, inr, ℕ, zero, suc, refl, sym, ap, subst, arith, List, Option}
use Rattle.std.specs.Prelude.{IsNone, is_some}
use Rattle.std.proofs.lemmas.Nat.{mul-le}
use Rattle.std.proofs.lemmas.Bool.{cases_lt, cases_eq, cases_Bool}
use Rattle.lot_sizing.specs.Sums.{sum_to, sum_from}
use Rattle.lot_sizing.specs.Problem.{entry, backlog_price}
use Rattle.lot_sizing.specs.declared.Block.{Block}
use Rattle.lot_sizing.specs.Single.{Single, NetPlan, IsNetPlan, IsServer, IsBlock, ArePotentials, period_count, net_demand, excess, shortage, net_cost, net_cost_at, position_count, period_of, unit_price, serving_cost, potential}
use Rattle.lot_sizing.proofs.Sums.{sum_to-front, sum_to_at}
use Rattle.lot_sizing.proofs.Prices.{kept, owed, own}
use Rattle.lot_sizing.proofs.Positions.{count, count_idle, count_next, count_up, count_le, period_of_count, later}

-- what it costs that period u serves the n periods after a
abbrev pub serving : Single → ℕ → ℕ → ℕ → ℕ
serving s u a n = sum_from (suc a) n (λ t. net_demand s t * unit_price s u t)

pub serving_more : (s : Single) (u a t : ℕ) → a ≤ t → serving s u a (suc t - a) ≡ serving s u a (t - a) + net_demand s (suc t) * unit_price s u (suc t)
serving_more s u a t h =
    let e : suc t - a ≡ suc (t - a) = omega arith in
    let i : suc a + (t - a) ≡ suc t = omega arith in
    omega (arith, ap (serving s u a) e, ap (λ k. net_demand s k * unit_price s u k) i)

-- the same by positions
pub by_positions : (s : Single) (u a n : ℕ) → a + n ≤ period_count s → sum_from (suc (count s a)) (count s (a + n) - count s a) (serving_cost s u) ≡ serving s u a n
by_positions s u a zero h =
    let e : a + 0 ≡ a = omega arith in
    let d : count s (a + 0) - count s a ≡ 0 = omega (arith, ap (count s) e) in
    ap (λ k. sum_from (suc (count s a)) k (serving_cost s u)) d
by_positions s u a (suc n) h =
    let e : a + suc n ≡ suc (a + n) = omega arith in
    let i : suc a + n ≡ suc (a + n) = omega arith in
    let before = by_positions s u a n (omega arith) in
    let up = count_up s a n in
    ⊎_elim
    (λ some.
    let next = count_next s (a + n) some in
    let d : count s (a + suc n) - count s a ≡ suc (count s (a + n) - count s a) = omega (arith, ap (count s) e, next, up) in
    let at : suc (count s a) + (count s (a + n) - count s a) ≡ count s (suc (a + n)) = omega (arith, next, up) in
    let here : period_of s (suc (count s a) + (count s (a + n) - count s a)) ≡ suc a + n = ap (period_of s) at ∙ period_of_count s (a + n) (omega arith) some ∙ sym i in
    omega (arith, before, ap (λ k. sum_from (suc (count s a)) k (serving_cost s u)) d, ap (λ k. net_demand s k * unit_price s u k) here))
    (λ none.
    let free : net_demand s (suc (a + n)) ≡ 0 = omega arith in
    let d : count s (a + suc n) - count s a ≡ count s (a + n) - count s a = omega (arith, ap (count s) e, count_idle s (a + n) free) in
    let nothing : net_demand s (suc a + n) ≡ 0 = ap (net_demand s) i ∙ free in
    omega (arith, before, ap (λ k. sum_from (suc (count s a)) k (serving_cost s u)) d, ap (λ k. k * unit_price s u (suc a + n)) nothing))
    (cases_lt 0 (net_demand s (suc (a + n))))

-- what a block may add, by periods
pub by_block : (s : Single) (g : List ℕ) → ArePotentials s g → (u a n : ℕ) → a + n ≤ period_count s → IsServer s u (suc a) → potential g (count s (a + n)) ≤ potential g (count s a) + entry s.setup u + serving s u a n
by_block s g pots u a n h server =
    ⊎_elim
    (λ some.
    let b : Block = record { first = suc (count s a); last = count s (a + n); server = u } in
    let high = count_le s (a + n) (period_count s) h in
    let is_block : IsBlock s b = record {
      low = omega arith;
      order = omega arith;
      high = high;
      server = record { low = server.low; high = server.high; in_time = λ none. omega (arith, server.in_time none, later s a (suc (count s a)) (omega arith) (omega (arith, high))) };
    } in
    let e : suc (count s a) - 1 ≡ count s a = omega arith in
    let d : suc (count s (a + n)) - suc (count s a) ≡ count s (a + n) - count s a = omega arith in
    omega (arith, pots.blocks b is_block, ap (potential g) e, ap (λ k. sum_from (suc (count s a)) k (serving_cost s u)) d, by_positions s u a n h))
    (λ none.
    let e : count s (a + n) ≡ count s a = omega (arith, count_up s a n) in
    omega (arith, ap (potential g) e))
    (cases_lt (count s a) (count s (a + n)))

-- a period is set up and may serve another one
pub record IsOpen (s : Single) (p : NetPlan) (u t : ℕ) : Type 0 where
  pub server : IsServer s u t
  pub setup : p.setup u ≡ 1

pub record IsCheapest (s : Single) (p : NetPlan) (u t : ℕ) : Type 0 where
  pub is_open : IsOpen s p u t
  pub least : (v : ℕ) → IsOpen s p v t → unit_price s u t ≤ unit_price s v t

none_or_some : {A : Type 0} (o : Option A) → (IsNone o) ⊎ (IsNone o → ⊥)
none_or_some o = ⊎_elim (λ yes. inr (λ none. cc (yes, none))) inl (cases_Bool (is_some o))

may_serve : (s : Single) (u t : ℕ) → 1 ≤ u → u ≤ period_count s → IsServer s u t ⊎ (IsServer s u t → ⊥)
may_serve s u t low high =
    ⊎_elim
    (λ none. ⊎_elim
    (λ late. inr (λ server. omega (arith, late, server.in_time none)))
    (λ early. inl (record { low = low; high = high; in_time = λ _. omega (arith, early) }))
    (cases_lt t u))
    (λ some. inl (record { low = low; high = high; in_time = λ none. absurd (some none) }))
    (none_or_some s.back)

open_or_not : (s : Single) (p : NetPlan) (u t : ℕ) → 1 ≤ u → u ≤ period_count s → IsOpen s p u t ⊎ (IsOpen s p u t → ⊥)
open_or_not s p u t low high =
    ⊎_elim
    (λ set. ⊎_elim
    (λ server. inl (record { server = server; setup = set }))
    (λ no. inr (λ is_open. no is_open.server))
    (may_serve s u t low high))
    (λ not_set. inr (λ is_open. not_set is_open.setup))
    (cases_eq (p.setup u) 1)

-- of the first n periods either none is open or one is cheapest
cheapest_to : (s : Single) (p : NetPlan) (t n : ℕ) → n ≤ period_count s → ((v : ℕ) → v ≤ n → IsOpen s p v t → ⊥) ⊎ ((u : ℕ) × IsOpen s p u t × ((v : ℕ) → v ≤ n → IsOpen s p v t → unit_price s u t ≤ unit_price s v t))
cheapest_to s p t zero h = inl (λ v low is_open. omega (arith, low, is_open.server.low))
cheapest_to s p t (suc n) h =
    ⊎_elim
    (λ here. ⊎_elim
    (λ none. inr (
      suc n,
      here,
      λ v low is_open. ⊎_elim
          (λ before. absurd (none v (omega (arith, before)) is_open))
          (λ last. let e : v ≡ suc n = omega (arith, last, low) in omega (arith, ap (λ k. unit_price s k t) e))
          (cases_lt v (suc n)),
    ))
    (λ found. ⊎_elim
    (λ cheaper. inr (
      suc n,
      here,
      λ v low is_open. ⊎_elim
          (λ before. omega (arith, cheaper, found.2 v (omega (arith, before)) is_open))
          (λ last. let e : v ≡ suc n = omega (arith, last, low) in omega (arith, ap (λ k. unit_price s k t) e))
          (cases_lt v (suc n)),
    ))
    (λ dearer. inr (
      found.0,
      found.1,
      λ v low is_open. ⊎_elim
          (λ before. found.2 v (omega (arith, before)) is_open)
          (λ last. let e : v ≡ suc n = omega (arith, last, low) in omega (arith, dearer, ap (λ k. unit_price s k t) e))
          (cases_lt v (suc n)),
    ))
    (cases_lt (unit_price s (suc n) t) (unit_price s found.0 t)))
    (cheapest_to s p t n (omega arith)))
    (λ not_here. ⊎_elim
    (λ none. inl (λ v low is_open. ⊎_elim
    (λ before. none v (omega (arith, before)) is_open)
    (λ last. let e : v ≡ suc n = omega (arith, last, low) in not_here (subst (λ k. IsOpen s p k t) e is_open))
    (cases_lt v (suc n))))
    (λ found. inr (
      found.0,
      found.1,
      λ v low is_open. ⊎_elim
          (λ before. found.2 v (omega (arith, before)) is_open)
          (λ last. let e : v ≡ suc n = omega (arith, last, low) in absurd (not_here (subst (λ k. IsOpen s p k t) e is_open)))
          (cases_lt v (suc n)),
    ))
    (cheapest_to s p t n (omega arith)))
    (open_or_not s p (suc n) t (omega arith) h)

cheapest : (s : Single) (p : NetPlan) (t : ℕ) → ((v : ℕ) → IsOpen s p v t → ⊥) ⊎ ((u : ℕ) × IsCheapest s p u t)
cheapest s p t =
    ⊎_elim
    (λ none. inl (λ v is_open. none v is_open.server.high is_open))
    (λ found. inr (found.0, record { is_open = found.1; least = λ v is_open. found.2 v is_open.server.high is_open }))
    (cheapest_to s p t (period_count s) (omega arith))

-- what quantities, stocks and backlogs of the first t periods cost, setups aside
abbrev spent : Single → NetPlan → ℕ → ℕ
spent s p t = sum_to t (λ k. entry s.unit k * p.make k + entry s.hold k * excess s p k + backlog_price s.back k * shortage s p k)

abbrev setups : Single → NetPlan → ℕ → ℕ
setups s p t = sum_to t (λ k. entry s.setup k * p.setup k)

net_to : Single → ℕ → ℕ
net_to s t = sum_to t (net_demand s)

-- after period t the server u of the periods after a is the cheapest one for the next period, and what is left or owed has been paid
record Spans (s : Single) (p : NetPlan) (g : List ℕ) (t u a : ℕ) : Type 0 where
  server : IsServer s u (suc a)
  cheapest : IsCheapest s p u (suc t)
  before : a ≤ t
  paid : potential g (count s a) + entry s.setup u + serving s u a (t - a) + unit_price s u (suc t) * sum_to t p.make ≤ spent s p t + setups s p u + unit_price s u (suc t) * sum_to t (net_demand s)

-- no period may serve the next one yet, and nothing was asked for or made
record IsIdle (s : Single) (p : NetPlan) (t : ℕ) : Type 0 where
  closed : (v : ℕ) → IsOpen s p v (suc t) → ⊥
  net : sum_to t (net_demand s) ≡ 0
  make : sum_to t p.make ≡ 0

Goes : Single → NetPlan → List ℕ → ℕ → Type 0
Goes s p g t = IsIdle s p t ⊎ ((u : ℕ) × (a : ℕ) × Spans s p g t u a)

-- a price and what is owed or left change from one period to the next
carry_price : (c d h b made net paid sum : ℕ) → paid + c * made ≤ sum + c * net → d ≤ c + h → (c ≤ d + b) ⊎ (net ≤ made) → paid + d * made ≤ sum + h * (made - net) + b * (net - made) + d * net
carry_price c d h b made net paid sum before rise fall =
    ⊎_elim
    (λ owed.
    let z = net - made in
    let e : net ≡ made + z = omega (arith, owed) in
    let none : made - net ≡ 0 = omega (arith, owed) in
    ⊎_elim
    (λ falls. omega (arith, before, ap (λ k. c * k) e, ap (λ k. d * k) e, ap (λ k. h * k) none, mul-le c z (d + b) z falls (omega arith)))
    (λ no. absurd (omega (arith, owed, no)))
    fall)
    (λ left.
    let z = made - net in
    let e : made ≡ net + z = omega (arith, left) in
    let none : net - made ≡ 0 = omega (arith, left) in
    omega (arith, before, ap (λ k. c * k) e, ap (λ k. d * k) e, ap (λ k. b * k) none, mul-le d z (c + h) z rise (omega arith)))
    (cases_lt made net)

-- what is made costs at least the price of the cheapest server
made_at : (s : Single) (p : NetPlan) → IsNetPlan s p → (u t : ℕ) → suc t ≤ period_count s → IsCheapest s p u (suc t) → unit_price s u (suc t) * p.make (suc t) ≤ entry s.unit (suc t) * p.make (suc t)
made_at s p plan u t high cheap =
    ⊎_elim
    (λ some.
    let here : IsOpen s p (suc t) (suc t) = record { server = record { low = omega arith; high = high; in_time = λ _. omega arith }; setup = plan.made (suc t) (omega arith) high some } in
    mul-le (unit_price s u (suc t)) (p.make (suc t)) (entry s.unit (suc t)) (p.make (suc t)) (omega (arith, cheap.least (suc t) here, own s (suc t))) (omega arith))
    (λ none. let e : p.make (suc t) ≡ 0 = omega arith in omega (arith, ap (λ k. unit_price s u (suc t) * k) e))
    (cases_lt 0 (p.make (suc t)))

-- an open period is open for the next period
stays_open : (s : Single) (p : NetPlan) (u t : ℕ) → IsOpen s p u t → IsOpen s p u (suc t)
stays_open s p u t is_open = record { server = record { low = is_open.server.low; high = is_open.server.high; in_time = λ none. omega (arith, is_open.server.in_time none) }; setup = is_open.setup }

price_rise : (s : Single) (u t : ℕ) → unit_price s u (suc t) ≤ unit_price s u t + entry s.hold t
price_rise s u t = ⊎_elim (λ later. omega (arith, owed s u t later)) (λ no. omega (arith, kept s u t (omega arith))) (cases_lt t u)

price_fall : (s : Single) (u t : ℕ) → unit_price s u t ≤ unit_price s u (suc t) + backlog_price s.back t
price_fall s u t = ⊎_elim (λ later. omega (arith, owed s u t later)) (λ no. omega (arith, kept s u t (omega arith))) (cases_lt t u)

-- a later server that is no dearer stays no dearer
order_of_servers : (s : Single) (u v t : ℕ) → u < v → unit_price s v t ≤ unit_price s u t → unit_price s v (suc t) ≤ unit_price s u (suc t)
order_of_servers s u v t less cheaper =
    ⊎_elim
    (λ v_later. ⊎_elim
    (λ u_later. omega (arith, cheaper, owed s v t v_later, owed s u t u_later))
    (λ u_here. omega (arith, cheaper, owed s v t v_later, kept s u t (omega arith)))
    (cases_lt t u))
    (λ v_here. omega (arith, cheaper, kept s v t (omega arith), kept s u t (omega (arith, less))))
    (cases_lt t v)

-- the setups up to a later open period
more_setups : (s : Single) (p : NetPlan) (u v : ℕ) → u < v → p.setup v ≡ 1 → setups s p u + entry s.setup v ≤ setups s p v
more_setups s p u v less set =
    let f = λ (k : ℕ). entry s.setup k * p.setup k in
    omega (arith, sum_to_at v f (omega (arith, less)), sum_to-front u (v - 1) f (omega (arith, less)), ap (λ k. entry s.setup v * k) set)

-- what was paid after the quantities of period suc t
served_next : (s : Single) (p : NetPlan) (g : List ℕ) → IsNetPlan s p → (t u a : ℕ) → suc t ≤ period_count s → Spans s p g t u a → potential g (count s a) + entry s.setup u + serving s u a (suc t - a) + unit_price s u (suc t) * sum_to (suc t) p.make ≤ spent s p t + entry s.unit (suc t) * p.make (suc t) + setups s p u + unit_price s u (suc t) * sum_to (suc t) (net_demand s)
served_next s p g plan t u a high runs = omega (arith, runs.paid, serving_more s u a t runs.before, made_at s p plan u t high runs.cheapest)

-- a price of what is owed falls by no more than the backlog cost, or nothing is owed
falls : (s : Single) (p : NetPlan) → IsNetPlan s p → (t u v : ℕ) → suc t ≤ period_count s → IsCheapest s p u (suc t) → IsOpen s p v (suc (suc t)) → (unit_price s u (suc t) ≤ unit_price s v (suc (suc t)) + backlog_price s.back (suc t)) ⊎ (sum_to (suc t) (net_demand s) ≤ sum_to (suc t) p.make)
falls s p plan t u v high cheap next =
    ⊎_elim
    (λ none. inr (plan.in_time none (suc t) (omega arith) high))
    (λ some.
    let now : IsOpen s p v (suc t) = record { server = record { low = next.server.low; high = next.server.high; in_time = λ none. absurd (some none) }; setup = next.setup } in
    inl (omega (arith, cheap.least v now, price_fall s v (suc t))))
    (none_or_some s.back)

from_run : (s : Single) (p : NetPlan) (g : List ℕ) → ArePotentials s g → IsNetPlan s p → (t u a : ℕ) → suc t ≤ period_count s → Spans s p g t u a → Goes s p g (suc t)
unfolding Goes
from_run s p g pots plan t u a high runs =
    let w = suc t in
    let served = served_next s p g plan t u a high runs in
    let u_open = stays_open s p u w runs.cheapest.is_open in
    ⊎_elim
    (λ none. absurd (none u u_open))
    (λ found.
    let v = found.0 in
    let v_open = found.1.is_open in
    ⊎_elim
    (λ cheaper.
    let u_before_v : u < v =
    ⊎_elim
    (λ v_before. absurd (omega (arith, cheaper, order_of_servers s v u w v_before (runs.cheapest.least v (record { server = record { low = v_open.server.low; high = v_open.server.high; in_time = λ none. omega (arith, v_before, runs.cheapest.is_open.server.in_time none) }; setup = v_open.setup })))))
    (λ no. ⊎_elim (λ same. absurd (omega (arith, cheaper, ap (λ k. unit_price s k (suc w)) same))) (λ apart. omega (arith, no, apart)) (cases_eq u v))
    (cases_lt v u) in
    let carried = carry_price (unit_price s u w) (unit_price s v (suc w)) (entry s.hold w) (backlog_price s.back w) (sum_to w p.make) (sum_to w (net_demand s)) (potential g (count s a) + entry s.setup u + serving s u a (w - a)) (spent s p t + entry s.unit w * p.make w + setups s p u) served (omega (arith, cheaper, price_rise s u w)) (falls s p plan t u v high runs.cheapest v_open) in
    let e : a + (w - a) ≡ w = omega (arith, runs.before) in
    let block = by_block s g pots u a (w - a) (omega (arith, e, high)) runs.server in
    let z : w - w ≡ 0 = omega arith in
    inr (
      v,
      w,
      record {
        server = record { low = v_open.server.low; high = v_open.server.high; in_time = v_open.server.in_time };
        cheapest = found.1;
        before = omega arith;
        paid = omega (arith, carried, block, ap (λ k. potential g (count s k)) e, ap (serving s v w) z, more_setups s p u v u_before_v v_open.setup);
      },
    ))
    (λ same.
    let carried = carry_price (unit_price s u w) (unit_price s u (suc w)) (entry s.hold w) (backlog_price s.back w) (sum_to w p.make) (sum_to w (net_demand s)) (potential g (count s a) + entry s.setup u + serving s u a (w - a)) (spent s p t + entry s.unit w * p.make w + setups s p u) served (price_rise s u w) (inl (price_fall s u w)) in
    inr (
      u,
      a,
      record {
        server = runs.server;
        cheapest = record { is_open = u_open; least = λ k is_open. omega (arith, same, found.1.least k is_open) };
        before = omega (arith, runs.before);
        paid = omega (arith, carried);
      },
    ))
    (cases_lt (unit_price s v (suc w)) (unit_price s u (suc w))))
    (cheapest s p (suc w))

zero_count : (s : Single) (t : ℕ) → sum_to t (net_demand s) ≡ 0 → count s t ≡ 0
zero_count s zero h = refl
zero_count s (suc t) h = omega (arith, zero_count s t (omega (arith, h)), count_idle s t (omega (arith, h)))

-- where nothing was asked for or made
begins : (s : Single) (p : NetPlan) (g : List ℕ) (t : ℕ) → sum_to t (net_demand s) ≡ 0 → sum_to t p.make ≡ 0 → Goes s p g t
unfolding Goes
begins s p g t net make =
    ⊎_elim
    (λ none. inl (record { closed = none; net = net; make = make }))
    (λ found.
    let u = found.0 in
    let u_open = found.1.is_open in
    let z : t - t ≡ 0 = omega arith in
    let f = λ (k : ℕ). entry s.setup k * p.setup k in
    inr (
      u,
      t,
      record {
        server = u_open.server;
        cheapest = found.1;
        before = omega arith;
        paid = omega (arith, ap (potential g) (zero_count s t net), ap (serving s u t) z, sum_to_at u f u_open.server.low, ap (λ k. entry s.setup u * k) u_open.setup, ap (λ k. unit_price s u (suc t) * k) make, ap (λ k. unit_price s u (suc t) * k) net);
      },
    ))
    (cheapest s p (suc t))

none_made : (s : Single) (p : NetPlan) → IsNetPlan s p → (t : ℕ) → (IsNone s.back → ⊥) → ((v : ℕ) → IsOpen s p v t → ⊥) → (n : ℕ) → n ≤ period_count s → sum_to n p.make ≡ 0
none_made s p plan t some closed zero h = refl
none_made s p plan t some closed (suc n) h =
    ⊎_elim
    (λ made. absurd (closed (suc n) (record { server = record { low = omega arith; high = h; in_time = λ none. absurd (some none) }; setup = plan.made (suc n) (omega arith) h made })))
    (λ no. omega (arith, no, none_made s p plan t some closed n (omega (arith, h))))
    (cases_lt 0 (p.make (suc n)))

from_idle : (s : Single) (p : NetPlan) (g : List ℕ) → IsNetPlan s p → (t : ℕ) → suc t ≤ period_count s → IsIdle s p t → Goes s p g (suc t)
from_idle s p g plan t high idle =
    let no_lot : p.make (suc t) ≡ 0 =
    ⊎_elim
    (λ made. absurd (idle.closed (suc t) (record { server = record { low = omega arith; high = high; in_time = λ _. omega arith }; setup = plan.made (suc t) (omega arith) high made })))
    (λ no. omega (arith, no))
    (cases_lt 0 (p.make (suc t))) in
    let make : sum_to (suc t) p.make ≡ 0 = omega (arith, no_lot, idle.make) in
    let net : sum_to (suc t) (net_demand s) ≡ 0 =
    ⊎_elim
    (λ none. omega (arith, plan.in_time none (suc t) (omega arith) high, make))
    (λ some. omega (arith, none_made s p plan (suc t) some idle.closed (period_count s) (omega arith), plan.served, sum_to-front (suc t) (period_count s) (net_demand s) high))
    (none_or_some s.back) in
    begins s p g (suc t) net make

goes : (s : Single) (p : NetPlan) (g : List ℕ) → ArePotentials s g → IsNetPlan s p → (t : ℕ) → t ≤ period_count s → Goes s p g t
unfolding Goes
goes s p g pots plan zero h = begins s p g 0 refl refl
goes s p g pots plan (suc t) h =
    ⊎_elim
    (λ idle. from_idle s p g plan t h idle)
    (λ runs. from_run s p g pots plan t runs.0 runs.1 h runs.2)
    (goes s p g pots plan t (omega (arith, h)))

-- the cost is that of the setups and the rest
two_sums : (s : Single) (p : NetPlan) (t : ℕ) → sum_to t (net_cost_at s p) ≡ spent s p t + setups s p t
two_sums s p zero = refl
two_sums s p (suc t) = omega (arith, two_sums s p t)

pub floor_holds : (s : Single) (g : List ℕ) → ArePotentials s g → (p : NetPlan) → IsNetPlan s p → potential g (position_count s) ≤ net_cost s p
unfolding Goes
floor_holds s g pots p plan =
    let n = period_count s in
    ⊎_elim
    (λ idle. omega (arith, ap (potential g) (zero_count s n idle.net)))
    (λ ran.
    let u = ran.0 in
    let a = ran.1 in
    let runs = ran.2 in
    let e : a + (n - a) ≡ n = omega (arith, runs.before) in
    let block = by_block s g pots u a (n - a) (omega (arith, e)) runs.server in
    let f = λ (k : ℕ). entry s.setup k * p.setup k in
    let served = mul-le (unit_price s u (suc n)) (sum_to n (net_demand s)) (unit_price s u (suc n)) (sum_to n p.make) (omega arith) plan.served in
    omega (arith, runs.paid, block, ap (λ k. potential g (count s k)) e, two_sums s p n, served, sum_to-front u n f runs.cheapest.is_open.server.high))
    (goes s p g pots plan n (omega arith))
