-- Sums over the positions take the next one.
use Rattle.std.proofs.Common.{◌≡◌, ◌≤◌, ◌<◌, ◌+◌, ◌-◌, ◌*◌, ◌^◌, ◌∙◌, ℕ, suc, sym, ap, subst, arith, List, [], ◌∷◌, ◌++◌, slice_index_or}
use Rattle.lot_sizing.specs.Sums.{sum_to}
use Rattle.lot_sizing.specs.Problem.{entry}
use Rattle.lot_sizing.specs.Single.{Single, IsWithinBounds, period_count, position_count, positions, period_of}
use Rattle.wagner_whitin.specs.Tables.{AreSums}
use Rattle.wagner_whitin.proofs.Sums.{IsRead, read_is, sums_more}
use Rattle.wagner_whitin.proofs.Serving.{period_in}
use Rattle.wagner_whitin.specs.Lines.{net_at, held_at}
use Rattle.wagner_whitin.proofs.Costs.{net_small, held_net_small, held_before}

-- the next position's period, and its net demand
pub record IsNextNet (s : Single) (p t : ℕ) : Type 0 where
  pub same : t ≡ period_of s (suc p)
  pub low : 1 ≤ t
  pub high : t ≤ period_count s
  pub small : net_at s (suc p) ≤ 10 ^ 12

pub next_net : (s : Single) (periods : List ℕ) (p : ℕ) → IsWithinBounds s → periods ≡ positions s → p < position_count s → IsNextNet s p (slice_index_or periods p 0)
next_net s periods p within same some =
    let d : suc p - 1 ≡ p = omega arith in
    let here : slice_index_or periods p 0 ≡ period_of s (suc p) = ap (λ xs. slice_index_or xs p 0) same ∙ ap (λ k. slice_index_or (positions s) k 0) (sym d) in
    let period = period_in s (suc p) within (omega arith) (omega (arith, some)) in
    record { same = here; low = omega (arith, here, period.low); high = omega (arith, here, period.high); small = period.net }

pub net_read : (s : Single) (p t x : ℕ) → IsNextNet s p t → IsRead s.net (t - 1) x → x ≡ net_at s (suc p)
net_read s p t x next read = read_is s.net (t - 1) x (omega (arith, next.low, next.high)) read ∙ ap (λ k. slice_index_or s.net (k - 1) 0) next.same

pub held_read : (s : Single) (p t net : ℕ) (held : List ℕ) → IsNextNet s p t → AreSums (period_count s) (entry s.hold) held → IsRead s.net (t - 1) net → net * slice_index_or held (t - 1) 0 ≡ held_at s (suc p)
held_read s p t net held next table read_net =
    let a = net_read s p t net next read_net in
    let price = slice_index_or held (t - 1) 0 in
    let b : price ≡ held_before s (period_of s (suc p)) = table.each (t - 1) (omega (arith, next.high)) ∙ ap (λ k. sum_to (k - 1) (entry s.hold)) next.same in
    ap (λ k. k * price) a ∙ ap (λ k. net_at s (suc p) * k) b

-- a table of sums that takes the next one
pub record IsMore (n : ℕ) (f : ℕ → ℕ) (now : ℕ) (sums : List ℕ) : Type 0 where
  pub table : AreSums n f sums
  pub total : now ≡ sum_to n f

pub more : (p x sum : ℕ) (f : ℕ → ℕ) (sums new : List ℕ) → AreSums p f sums → sum ≡ sum_to p f → x ≡ f (suc p) → new ≡ sums ++ (sum + x) ∷ [] → IsMore (p + 1) f (sum + x) new
more p x sum f sums new table is next pushed =
    let e : suc p ≡ p + 1 = omega arith in
    let total : sum + x ≡ sum_to (suc p) f = omega (arith, is, next) in
    record {
      table = subst (AreSums (p + 1) f) (sym pushed) (subst (λ k. AreSums k f (sums ++ (sum + x) ∷ [])) e (sums_more p (sum + x) f sums table total));
      total = omega (arith, total, ap (λ k. sum_to k f) e);
    }

pub net_fits : (s : Single) (p x sum : ℕ) → IsWithinBounds s → p < position_count s → sum ≡ sum_to p (net_at s) → x ≡ net_at s (suc p) → sum + x ≤ 120 * 10 ^ 12
net_fits s p x sum within some is next = omega (arith, net_small s (suc p) within (omega (arith, some)), is, next)

pub held_net_fits : (s : Single) (p x sum : ℕ) → IsWithinBounds s → p < position_count s → sum ≡ sum_to p (held_at s) → x ≡ held_at s (suc p) → sum + x ≤ 120 * (120 * 10 ^ 21)
held_net_fits s p x sum within some is next = omega (arith, held_net_small s (suc p) within (omega (arith, some)), is, next)
