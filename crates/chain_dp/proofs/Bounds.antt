-- No way of a chain costs less than what its tables say.
use Rattle.std.proofs.Common.{◌≡◌, ◌≤◌, ◌+◌, ◌*◌, ⊎_elim, ℕ, zero, suc, refl, sym, subst, arith, min}
use Rattle.lot_sizing.specs.Sums.{sum_to}
use Rattle.chain_dp.specs.Chains.{Level, Lots, lots_cost, used_by}
use Rattle.chain_dp.specs.Costs.{IsMadeAtOnce, unused}
use Rattle.chain_dp.proofs.Prices.{Chain, IsChainEnd, IsChainTable, IsPairEnd, IsPairTable, IsStretchTable, lot_fee, low_price, top_price}
use Rattle.chain_dp.proofs.Servers.{opened, paid, server, server_early, server_step}
use Rattle.chain_dp.proofs.Serving.{level_pays, price_of}
use Rattle.chain_dp.proofs.Walks.{IsReached, fee_once, left, mid_now, pair_opened, plane, stretch_out}

none_sum : (n : ℕ) (f : ℕ → ℕ) → sum_to n (λ t. 0 * f t) ≡ 0
none_sum zero f = refl
none_sum (suc n) f = omega (arith, none_sum n f)

-- the last level of a chain
top_pays : (periods : ℕ) (l : Level) (w : Lots) (below : ℕ → ℕ) → IsMadeAtOnce periods l unused w →
    paid l w.setup (price_of l below) (server w.setup (price_of l below)) periods ≤ lots_cost periods l w + sum_to periods (λ t. below t * w.make t)
top_pays periods l w below is =
    omega (arith, level_pays periods l w 0 unused below (record { once = is.once; setup = is.setup; served = λ t h. omega (arith, is.served t h) }))

-- and the lowest one
low_pays : (periods : ℕ) (l : Level) (w u : Lots) (a : ℕ) → IsMadeAtOnce periods l (used_by a u) w →
    paid l w.setup (low_price l) (server w.setup (low_price l)) periods + sum_to periods (λ t. a * low_price l (server w.setup (low_price l) t) * u.make t) ≤ lots_cost periods l w
low_pays periods l w u a is = omega (arith, level_pays periods l w a u.make (λ t. 0) is, none_sum periods w.make)

only_pays : (periods : ℕ) (l : Level) (w : Lots) → IsMadeAtOnce periods l unused w → paid l w.setup (low_price l) (server w.setup (low_price l)) periods ≤ lots_cost periods l w
only_pays periods l w is = omega (arith, top_pays periods l w (λ t. 0) is, none_sum periods w.make)

pub one_level_bound : (periods : ℕ) (l : Level) (A : ℕ → ℕ → ℕ) → IsStretchTable periods l A → (w : Lots) → IsMadeAtOnce periods l unused w → A 0 (suc periods) ≤ lots_cost periods l w
one_level_bound periods l A is w made = omega (arith, stretch_out periods l A w.setup is 0 (omega arith), only_pays periods l w made)

-- where the last state is reached, each end is within what is paid
ends : (periods : ℕ) (low mid : Level) (a : ℕ) (A S : ℕ → ℕ → ℕ) (y z : ℕ → ℕ) (G more : ℕ) → IsStretchTable periods low A → IsPairEnd periods low mid a A S G → IsReached low mid a S y z more periods →
    G ≤ paid low y (low_price low) (server y (low_price low)) periods + paid mid z (mid_now low mid a y) (server z (mid_now low mid a y)) periods + more
ends periods low mid a A S y z G more is end reached =
    let n = low_price low in
    let p = mid_now low mid a y in
    let v = server y n in
    let b = server z p in
    let early = server_early z p periods in
    omega (
      arith,
      reached,
      end (v (b periods)) (b periods) (server_early y n (b periods)) early,
      left mid z p periods,
      stretch_out periods low A y is (b periods) early,
    )

pub pair_bound : (periods : ℕ) (low mid : Level) (a : ℕ) (A S : ℕ → ℕ → ℕ) (G : ℕ) → IsPairTable periods low mid a A S → IsPairEnd periods low mid a A S G
    → (w u : Lots) → IsMadeAtOnce periods low (used_by a u) w → IsMadeAtOnce periods mid unused u → G ≤ lots_cost periods low w + lots_cost periods mid u
pair_bound periods low mid a A S G is end w u low_made mid_made =
    let start : IsReached low mid a S w.setup u.setup 0 0 = omega (arith, is.start) in
    let reached = plane periods periods low mid a A S w.setup u.setup is.stretches is.plane (omega arith) 0 0 periods (omega arith) (omega arith) start in
    omega (
      arith,
      ends periods low mid a A S w.setup u.setup G 0 is.stretches end reached,
      low_pays periods low w u a low_made,
      top_pays periods mid u (λ t. a * low_price low (server w.setup (low_price low) t)) mid_made,
    )

-- prices of the third level's lots
abbrev top_now : Chain → (y z : ℕ → ℕ) → ℕ → ℕ
top_now c y z t = top_price c t (server z (mid_now c.low c.mid c.into_mid y) t) (server y (low_price c.low) (server z (mid_now c.low c.mid c.into_mid y) t))

-- the state in which lot k of the third level is next costs no more, with its fee, than what is paid when it is opened
abbrev IsOpened : Chain → (S : ℕ → ℕ → ℕ → ℕ) → (y z x : ℕ → ℕ) → ℕ → Type 0
IsOpened c S y z x k =
    S (server y (low_price c.low) (server z (mid_now c.low c.mid c.into_mid y) k)) (server z (mid_now c.low c.mid c.into_mid y) k) k + lot_fee c.top k
    ≤ pair_opened c.low c.mid c.into_mid y z (server z (mid_now c.low c.mid c.into_mid y) k) + opened c.top x (top_now c y z) (server x (top_now c y z)) k

-- from the open lot of the third level to the next one, or to the end
leaves : (periods : ℕ) (c : Chain) (A : ℕ → ℕ → ℕ) (S : ℕ → ℕ → ℕ → ℕ) (y z x : ℕ → ℕ) → IsChainTable periods c A S → (t : ℕ) → t ≤ periods → IsOpened c S y z x (server x (top_now c y z) t) →
    IsReached c.low c.mid c.into_mid (λ v b. S v b (suc t)) y z (paid c.top x (top_now c y z) (server x (top_now c y z)) t) (server x (top_now c y z) t)
leaves periods c A S y z x is t h from =
    let p = mid_now c.low c.mid c.into_mid y in
    let q = top_now c y z in
    let k = server x q t in
    let b = server z p k in
    let v = server y (low_price c.low) b in
    let early = server_early x q t in
    omega (
      arith,
      from,
      is.top v b k (suc t) (server_early y (low_price c.low) b) (server_early z p k) (omega (arith, early)) (omega (arith, h)),
      left c.top x q t,
    )

opens : (periods : ℕ) (c : Chain) (A : ℕ → ℕ → ℕ) (S : ℕ → ℕ → ℕ → ℕ) (y z x : ℕ → ℕ) → IsChainTable periods c A S → (t : ℕ) → t ≤ periods → IsOpened c S y z x (server x (top_now c y z) t)
opens periods c A S y z x is zero h = omega (arith, is.start)
opens periods c A S y z x is (suc t) h =
    let p = mid_now c.low c.mid c.into_mid y in
    let q = top_now c y z in
    let so_far = opens periods c A S y z x is t (omega (arith, h)) in
    ⊎_elim
    (λ kept. subst (λ k. IsOpened c S y z x k) (sym kept.same) so_far)
    (λ taken.
    let early = server_early x q t in
    let more = paid c.top x q (server x q) t in
    let at = is.planes (suc t) (omega arith) (omega (arith, h)) in
    let reached =
    plane periods (min (suc t) periods) c.low c.mid c.into_mid A (λ v b. S v b (suc t)) y z is.stretches at (omega arith) more (server x q t) (suc t) (omega (arith, early)) (omega (arith, h))
    (leaves periods c A S y z x is t (omega (arith, h)) so_far) in
    let here : IsOpened c S y z x (suc t) = omega (arith, reached, fee_once (c.top.setup_cost (suc t)) (x (suc t)) taken.made) in
    subst (λ k. IsOpened c S y z x k) (sym taken.new) here)
    (server_step x q t)

pub chain_bound : (periods : ℕ) (c : Chain) (A : ℕ → ℕ → ℕ) (S : ℕ → ℕ → ℕ → ℕ) (G : ℕ) → IsChainTable periods c A S → IsChainEnd periods c A S G
    → (low mid top : Lots) → IsMadeAtOnce periods c.low (used_by c.into_mid mid) low → IsMadeAtOnce periods c.mid (used_by c.into_top top) mid → IsMadeAtOnce periods c.top unused top
    → G ≤ lots_cost periods c.low low + lots_cost periods c.mid mid + lots_cost periods c.top top
chain_bound periods c A S G is end low mid top low_made mid_made top_made =
    let y = low.setup in
    let z = mid.setup in
    let x = top.setup in
    let n = low_price c.low in
    let p = mid_now c.low c.mid c.into_mid y in
    let q = top_now c y z in
    let more = paid c.top x q (server x q) periods in
    let last = is.planes (suc periods) (omega arith) (omega arith) in
    let reached =
    plane periods (min (suc periods) periods) c.low c.mid c.into_mid A (λ v b. S v b (suc periods)) y z is.stretches last (omega arith) more (server x q periods) periods (server_early x q periods) (omega arith)
    (leaves periods c A S y z x is periods (omega arith) (opens periods c A S y z x is periods (omega arith))) in
    omega (
      arith,
      ends periods c.low c.mid c.into_mid A (λ v b. S v b (suc periods)) y z G more is.stretches end reached,
      low_pays periods c.low low mid c.into_mid low_made,
      level_pays periods c.mid mid c.into_top top.make (λ t. c.into_mid * n (server y n t)) mid_made,
      top_pays periods c.top top (λ t. c.into_top * p (server z p t)) top_made,
    )
