-- What lines and servers cost.
use Rattle.std.proofs.Common.{◌≡◌, ◌≤◌, ◌<◌, ◌+◌, ◌-◌, ◌*◌, ◌^◌, ◌∙◌, ℕ, zero, suc, ap, arith, List}
use Rattle.std.specs.Prelude.{IsNone}
use Rattle.std.proofs.lemmas.Nat.{mul-le}
use Rattle.lot_sizing.specs.Sums.{sum_to, sum_from}
use Rattle.lot_sizing.specs.Problem.{entry, backlog_price}
use Rattle.lot_sizing.specs.Single.{Single, IsWithinBounds, period_count, position_count, period_of, net_demand, unit_price, serving_cost}
use Rattle.lot_sizing.proofs.Blocks.{periods_rise}
use Rattle.lot_sizing.proofs.Sums.{sum_to-front, sum_to-bound}
use Rattle.wagner_whitin.specs.Tables.{AreSums}
use Rattle.wagner_whitin.proofs.Sums.{IsRead, read_is, entry_small}
use Rattle.wagner_whitin.proofs.Serving.{period_in, positions_small}
use Rattle.wagner_whitin.specs.declared.lines.Line.{Line}
use Rattle.wagner_whitin.specs.declared.lines.LineSums.{LineSums}
use Rattle.wagner_whitin.specs.Lines.{line_cost, IsLine, net_at, held_at, AreLineSums, IsNoDearer}
use Rattle.wagner_whitin.proofs.Floors.{span, span_parts, span_le}

-- a sum in two parts
sum_parts : (a n : ℕ) (f : ℕ → ℕ) → sum_to (a + n) f ≡ sum_to a f + sum_from (suc a) n f
sum_parts a zero f = let e : a + 0 ≡ a = omega arith in omega (arith, ap (λ k. sum_to k f) e)
sum_parts a (suc n) f =
    let e : a + suc n ≡ suc (a + n) = omega arith in
    let i : suc a + n ≡ suc (a + n) = omega arith in
    omega (arith, ap (λ k. sum_to k f) e, sum_parts a n f, ap f i)

-- a span is the difference of two sums
pub span_is : (a b : ℕ) (f : ℕ → ℕ) → 1 ≤ a → a ≤ suc b → sum_to b f ≡ sum_to (a - 1) f + span a b f
span_is a b f low order =
    let e : a - 1 + (suc b - a) ≡ b = omega (arith, low, order) in
    let i : suc (a - 1) ≡ a = omega (arith, low) in
    omega (arith, ap (λ k. sum_to k f) e, sum_parts (a - 1) (suc b - a) f, ap (λ k. sum_from k (suc b - a) f) i)

-- the costs of holding a unit, up to before a period
abbrev pub held_before : Single → ℕ → ℕ
held_before s t = sum_to (t - 1) (entry s.hold)

-- a unit's price, with what is held before its server
pub price_is : (s : Single) (u t : ℕ) → 1 ≤ u → u ≤ t → unit_price s u t + held_before s u ≡ entry s.unit u + held_before s t
price_is s u t low order =
    let e : u - 1 + (t - u) ≡ t - 1 = omega (arith, low, order) in
    let i : suc (u - 1) ≡ u = omega (arith, low) in
    let none : u - t ≡ 0 = omega (arith, order) in
    omega (arith, ap (λ k. sum_to k (entry s.hold)) e, sum_parts (u - 1) (t - u) (entry s.hold), ap (λ k. sum_from k (t - u) (entry s.hold)) i, ap (λ k. sum_from t k (backlog_price s.back)) none)

-- the server with the lesser slope is nowhere dearer
pub no_dearer : (s : Single) (u w : ℕ) → 1 ≤ u → 1 ≤ w → entry s.unit u + held_before s w ≤ entry s.unit w + held_before s u → IsNoDearer s u w
no_dearer s u w u_low w_low slopes p p_low p_high u_open w_open =
    let t = period_of s p in
    mul-le (net_demand s t) (unit_price s u t) (net_demand s t) (unit_price s w t) (omega arith) (omega (arith, slopes, price_is s u t u_low u_open, price_is s w t w_low w_open))

-- what serving some positions costs, with what holding before the server would cost
serving_by : (s : Single) (u a n : ℕ) → 1 ≤ u → ((k : ℕ) → a ≤ k → k < a + n → u ≤ period_of s k) → sum_from a n (serving_cost s u) + sum_from a n (net_at s) * held_before s u ≡ sum_from a n (net_at s) * entry s.unit u + sum_from a n (held_at s)
serving_by s u a zero low open_at = omega arith
serving_by s u a (suc n) low open_at =
    let t = period_of s (a + n) in
    let price = price_is s u t low (open_at (a + n) (omega arith) (omega arith)) in
    omega (arith, serving_by s u a n low (λ k k_low k_high. open_at k k_low (omega (arith, k_high))), ap (λ x. net_demand s t * x) price)

-- a server may serve all positions after its first one
pub opens : (s : Single) (l : Line) (from k : ℕ) → IsNone s.back → IsLine s from l → l.first ≤ k → k ≤ position_count s → l.server ≤ period_of s k
opens s l from k no_backlog line low high = omega (arith, line.server.in_time no_backlog, periods_rise s l.first k line.low low high)

-- a sum as it is read
pub read_sum : (n : ℕ) (f : ℕ → ℕ) (sums : List ℕ) (k x : ℕ) → AreSums n f sums → k ≤ n → IsRead sums k x → x ≡ sum_to k f
read_sum n f sums k x table high read = read_is sums k x (omega (arith, table.size, high)) read ∙ table.each k high

pub held_small : (s : Single) (t : ℕ) → IsWithinBounds s → t ≤ period_count s → held_before s t ≤ 120 * 10 ^ 9
held_small s t within high = omega (arith, sum_to-bound (t - 1) (10 ^ 9) (entry s.hold) (λ k k_low k_high. entry_small (period_count s) s.hold within.hold k k_low (omega (arith, k_high, high))), within.periods, high)

pub net_small : (s : Single) (p : ℕ) → IsWithinBounds s → p ≤ position_count s → sum_to p (net_at s) ≤ 120 * 10 ^ 12
net_small s p within high = omega (arith, sum_to-bound p (10 ^ 12) (net_at s) (λ k k_low k_high. (period_in s k within k_low (omega (arith, k_high, high))).net), positions_small s within, high)

pub held_net_small : (s : Single) (p : ℕ) → IsWithinBounds s → p ≤ position_count s → sum_to p (held_at s) ≤ 120 * (120 * 10 ^ 21)
held_net_small s p within high =
    omega (
      arith,
      sum_to-bound p (120 * 10 ^ 21) (held_at s) (λ k k_low k_high.
          let period = period_in s k within k_low (omega (arith, k_high, high)) in
          omega (arith, mul-le (net_at s k) (held_before s (period_of s k)) (10 ^ 12) (120 * 10 ^ 9) period.net (held_small s (period_of s k) within period.high))),
      positions_small s within,
      high,
    )

-- sums rise
pub sums_order : (n : ℕ) (f : ℕ → ℕ) (sums : List ℕ) (a p low high : ℕ) → AreSums n f sums → 1 ≤ a → a ≤ p → p ≤ n → IsRead sums (a - 1) low → IsRead sums p high → low ≤ high
sums_order n f sums a p low high table a_low order p_high read_low read_high =
    omega (arith, read_sum n f sums (a - 1) low table (omega (arith, order, p_high)) read_low, read_sum n f sums p high table p_high read_high, sum_to-front (a - 1) p f (omega (arith, order)))

-- what a line costs at a position, from what was read
pub record IsCost (s : Single) (l : Line) (p units_to units_from held_to held_from unit before : ℕ) : Type 0 where
  pub units : units_from ≤ units_to
  pub held : held_from ≤ held_to
  pub order : (units_to - units_from) * before ≤ (units_to - units_from) * unit + (held_to - held_from)
  pub value : l.before + ((units_to - units_from) * unit + (held_to - held_from) - (units_to - units_from) * before) ≡ line_cost s l p
  pub small : l.before + ((units_to - units_from) * unit + (held_to - held_from)) ≤ 10 ^ 30

pub cost_is : (s : Single) (sums : LineSums) (l : Line) (p units_to units_from held_to held_from unit before : ℕ) → IsWithinBounds s → IsNone s.back → AreLineSums s sums → IsLine s p l → p ≤ position_count s → IsRead sums.net.items p units_to → IsRead sums.net.items (l.first - 1) units_from → IsRead sums.held_net.items p held_to → IsRead sums.held_net.items (l.first - 1) held_from → IsRead s.unit (l.server - 1) unit → IsRead sums.held.items (l.server - 1) before → IsCost s l p units_to units_from held_to held_from unit before
cost_is s sums l p units_to units_from held_to held_from unit before within no_backlog are line high read_units_to read_units_from read_held_to read_held_from read_unit read_before =
    let early : l.first - 1 ≤ position_count s = omega (arith, line.begun, high) in
    let a = read_sum (position_count s) (net_at s) sums.net.items p units_to are.net high read_units_to in
    let b = read_sum (position_count s) (net_at s) sums.net.items (l.first - 1) units_from are.net early read_units_from in
    let d = read_sum (position_count s) (held_at s) sums.held_net.items p held_to are.held_net high read_held_to in
    let e = read_sum (position_count s) (held_at s) sums.held_net.items (l.first - 1) held_from are.held_net early read_held_from in
    let f = read_is s.unit (l.server - 1) unit (omega (arith, within.unit.size, line.server.low, line.server.high)) read_unit in
    let h = read_sum (period_count s) (entry s.hold) sums.held.items (l.server - 1) before are.held (omega (arith, line.server.high)) read_before in
    let net_span = span_is l.first p (net_at s) line.low (omega (arith, line.begun)) in
    let held_span = span_is l.first p (held_at s) line.low (omega (arith, line.begun)) in
    let units : units_to - units_from ≡ span l.first p (net_at s) = omega (arith, a, b, net_span) in
    let held : held_to - held_from ≡ span l.first p (held_at s) = omega (arith, d, e, held_span) in
    let serving = serving_by s l.server l.first (suc p - l.first) line.server.low (λ k k_low k_high. opens s l p k no_backlog line k_low (omega (arith, k_high, k_low, high, line.begun))) in
    let times_before : (units_to - units_from) * before ≡ span l.first p (net_at s) * held_before s l.server = ap (λ x. x * before) units ∙ ap (λ x. span l.first p (net_at s) * x) h in
    let times_unit : (units_to - units_from) * unit ≡ span l.first p (net_at s) * entry s.unit l.server = ap (λ x. x * unit) units ∙ ap (λ x. span l.first p (net_at s) * x) f in
    record {
      units = omega (arith, a, b, net_span);
      held = omega (arith, d, e, held_span);
      order = omega (arith, times_before, times_unit, held, serving);
      value = omega (arith, times_before, times_unit, held, serving);
      small = omega (arith, line.small, d, held_net_small s p within high, mul-le (units_to - units_from) unit (120 * 10 ^ 12) (10 ^ 9) (omega (arith, a, net_small s p within high)) (omega (arith, f, entry_small (period_count s) s.unit within.unit l.server line.server.low line.server.high)));
    }

pub slope_small : (s : Single) (sums : LineSums) (u w unit held : ℕ) → IsWithinBounds s → AreLineSums s sums → 1 ≤ u → u ≤ period_count s → 1 ≤ w → w ≤ period_count s → IsRead s.unit (u - 1) unit → IsRead sums.held.items (w - 1) held → unit + held ≤ 10 ^ 12
slope_small s sums u w unit held within are u_low u_high w_low w_high read_unit read_held =
    let a = read_is s.unit (u - 1) unit (omega (arith, within.unit.size, u_low, u_high)) read_unit in
    let d = read_sum (period_count s) (entry s.hold) sums.held.items (w - 1) held are.held (omega (arith, w_high)) read_held in
    omega (arith, a, d, entry_small (period_count s) s.unit within.unit u u_low u_high, held_small s w within w_high)

-- two slopes, from what was read
pub record AreSlopes (s : Single) (u w unit_u held_w unit_w held_u : ℕ) : Type 0 where
  pub yes : unit_u + held_w ≤ unit_w + held_u → IsNoDearer s u w
  pub no : unit_w + held_u ≤ unit_u + held_w → IsNoDearer s w u
  pub small : unit_w + held_u ≤ 10 ^ 12

pub slopes_are : (s : Single) (sums : LineSums) (u w unit_u held_w unit_w held_u : ℕ) → IsWithinBounds s → AreLineSums s sums → 1 ≤ u → u ≤ period_count s → 1 ≤ w → w ≤ period_count s → IsRead s.unit (u - 1) unit_u → IsRead sums.held.items (w - 1) held_w → IsRead s.unit (w - 1) unit_w → IsRead sums.held.items (u - 1) held_u → AreSlopes s u w unit_u held_w unit_w held_u
slopes_are s sums u w unit_u held_w unit_w held_u within are u_low u_high w_low w_high read_unit_u read_held_w read_unit_w read_held_u =
    let a = read_is s.unit (u - 1) unit_u (omega (arith, within.unit.size, u_low, u_high)) read_unit_u in
    let b = read_is s.unit (w - 1) unit_w (omega (arith, within.unit.size, w_low, w_high)) read_unit_w in
    let d = read_sum (period_count s) (entry s.hold) sums.held.items (w - 1) held_w are.held (omega (arith, w_high)) read_held_w in
    let e = read_sum (period_count s) (entry s.hold) sums.held.items (u - 1) held_u are.held (omega (arith, u_high)) read_held_u in
    record {
      yes = λ h. no_dearer s u w u_low w_low (omega (arith, h, a, b, d, e));
      no = λ h. no_dearer s w u w_low u_low (omega (arith, h, a, b, d, e));
      small = slope_small s sums w u unit_w held_u within are w_low w_high u_low u_high read_unit_w read_held_u;
    }

-- a line from a position to a later one
pub line_parts : (s : Single) (l : Line) (p m : ℕ) → l.first ≤ suc p → p ≤ m → line_cost s l m ≡ line_cost s l p + span (suc p) m (serving_cost s l.server)
line_parts s l p m begun order = omega (arith, span_parts l.first p m (serving_cost s l.server) begun order)

pub cheaper_before : (s : Single) (from m : ℕ) (kept rest : Line) → IsNone s.back → IsLine s from kept → IsLine s from rest → m ≤ position_count s → line_cost s kept m ≤ line_cost s rest m → IsNoDearer s rest.server kept.server → (p : ℕ) → from ≤ p → p ≤ m → line_cost s kept p ≤ line_cost s rest p
cheaper_before s from m kept rest no_backlog kept_line rest_line high order slopes p begun early =
    let a = line_parts s kept p m (omega (arith, kept_line.begun, begun)) early in
    let b = line_parts s rest p m (omega (arith, rest_line.begun, begun)) early in
    let d = span_le (suc p) m (serving_cost s rest.server) (serving_cost s kept.server) (λ k k_low k_high. slopes k (omega arith) (omega (arith, k_high, high)) (opens s rest from k no_backlog rest_line (omega (arith, k_low, begun, rest_line.begun)) (omega (arith, k_high, high))) (opens s kept from k no_backlog kept_line (omega (arith, k_low, begun, kept_line.begun)) (omega (arith, k_high, high)))) in
    omega (arith, a, b, d, order)

pub cheaper_after : (s : Single) (from m : ℕ) (kept rest : Line) → IsNone s.back → IsLine s from kept → IsLine s from rest → from ≤ m → line_cost s kept m ≤ line_cost s rest m → IsNoDearer s kept.server rest.server → (p : ℕ) → m ≤ p → p ≤ position_count s → line_cost s kept p ≤ line_cost s rest p
cheaper_after s from m kept rest no_backlog kept_line rest_line begun order slopes p late high =
    let a = line_parts s kept m p (omega (arith, kept_line.begun, begun)) late in
    let b = line_parts s rest m p (omega (arith, rest_line.begun, begun)) late in
    let d = span_le (suc m) p (serving_cost s kept.server) (serving_cost s rest.server) (λ k k_low k_high. slopes k (omega arith) (omega (arith, k_high, high)) (opens s kept from k no_backlog kept_line (omega (arith, k_low, begun, kept_line.begun)) (omega (arith, k_high, high))) (opens s rest from k no_backlog rest_line (omega (arith, k_low, begun, rest_line.begun)) (omega (arith, k_high, high)))) in
    omega (arith, a, b, d, order)
