-- The (l,S) inequality, by the first chosen period with a setup.
use Rattle.std.proofs.Common.{◌≡◌, ◌≤◌, ◌+◌, ◌-◌, ◌*◌, ◌∙◌, ◌⊎◌, ⊎_elim, inl, inr, ℕ, zero, suc, ap, arith, Bool, true, false}
use Rattle.std.specs.Prelude.{if◌then◌else◌}
use Rattle.std.proofs.lemmas.Bool.{cases_lt, cases_Bool}
use Rattle.lot_sizing.specs.Sums.{sum_to, sum_from}
use Rattle.lot_sizing.specs.Net.{Asked}
use Rattle.lot_sizing.proofs.Prices.{sum_from-front}
use Rattle.valid_inequalities.specs.Trajectory.{IsTrajectory, Trajectory}
use Rattle.valid_inequalities.specs.Inequalities.{HoldsLs, demand_between, ls_part}

-- a sum and what follows it
pub sum_to-split : (t n : ℕ) (f : ℕ → ℕ) → sum_to (t + n) f ≡ sum_to t f + sum_from (suc t) n f
sum_to-split t zero f = let e : t + 0 ≡ t = omega arith in omega (arith, ap (λ k. sum_to k f) e)
sum_to-split t (suc n) f =
    let e : t + suc n ≡ suc (t + n) = omega arith in
    let i : suc t + n ≡ suc (t + n) = omega arith in
    omega (arith, ap (λ k. sum_to k f) e, ap f i, sum_to-split t n f)

-- what is asked for up to l, cut at a period
pub demand_split : (a : Asked) (t l : ℕ) → t ≤ l → demand_between a 1 l ≡ sum_to t a.demand + demand_between a (suc t) l
demand_split a t l h =
    let e : t + (suc l - suc t) ≡ l = omega (arith, h) in
    let i : 0 + (suc l - 1) ≡ l = omega arith in
    omega (arith, sum_to-split t (suc l - suc t) a.demand, ap (λ k. sum_to k a.demand) e, sum_to-split 0 (suc l - 1) a.demand, ap (λ k. sum_to k a.demand) i)

pub demand_all : (a : Asked) (l : ℕ) → demand_between a 1 l ≡ sum_to l a.demand
demand_all a l =
    let i : 0 + (suc l - 1) ≡ l = omega arith in
    omega (arith, sum_to-split 0 (suc l - 1) a.demand, ap (λ k. sum_to k a.demand) i)

-- and from a period on
pub demand_first : (a : Asked) (t l : ℕ) → t ≤ l → demand_between a t l ≡ a.demand t + demand_between a (t + 1) l
demand_first a t l h =
    let e : suc l - t ≡ suc (l - t) = omega (arith, h) in
    let n : suc t ≡ t + 1 = omega arith in
    let i : l - t ≡ suc l - (t + 1) = omega (arith, h) in
    ap (λ k. sum_from t k a.demand) e ∙ sum_from-front t (l - t) a.demand ∙ ap (λ k. a.demand t + sum_from k (l - t) a.demand) n ∙ ap (λ k. a.demand t + sum_from (t + 1) k a.demand) i

-- what was there and was made was asked for, up to what is left or owed
pub so_far : (a : Asked) (owing : Bool) (f : Trajectory) → IsTrajectory a owing f → (t : ℕ) → t ≤ a.periods → f.stock t + sum_to t a.demand ≡ a.opening + sum_to t f.make + f.backlog t
so_far a owing f is zero h = omega (arith, is.opening, is.nothing_owed)
so_far a owing f is (suc t) h =
    let e : suc t - 1 ≡ t = omega arith in
    omega (arith, so_far a owing f is t (omega (arith, h)), is.balance (suc t) (omega arith) h, ap f.stock e, ap f.backlog e)

part_chosen : (a : Asked) (f : Trajectory) (l : ℕ) (chosen : ℕ → Bool) (t : ℕ) → chosen (suc t) ≡ true → ls_part a f l chosen (suc t) ≡ demand_between a (suc t) l * f.setup (suc t) + f.backlog t
part_chosen a f l chosen t is =
    let e : suc t - 1 ≡ t = omega arith in
    ap (λ b. if b then demand_between a (suc t) l * f.setup (suc t) + f.backlog (suc t - 1) else f.make (suc t)) is ∙ ap (λ k. demand_between a (suc t) l * f.setup (suc t) + f.backlog k) e

part_made : (a : Asked) (f : Trajectory) (l : ℕ) (chosen : ℕ → Bool) (t : ℕ) → chosen (suc t) ≡ false → ls_part a f l chosen (suc t) ≡ f.make (suc t)
part_made a f l chosen t is = ap (λ b. if b then demand_between a (suc t) l * f.setup (suc t) + f.backlog (suc t - 1) else f.make (suc t)) is

-- the first periods cover what was made there, or all that is asked for
Covers : Asked → Trajectory → ℕ → (ℕ → Bool) → ℕ → Type 0
Covers a f l chosen t = (sum_to t f.make ≤ sum_to t (ls_part a f l chosen)) ⊎ (demand_between a 1 l ≤ a.opening + sum_to t (ls_part a f l chosen))

covers : (a : Asked) (owing : Bool) (f : Trajectory) → IsTrajectory a owing f → (l : ℕ) (chosen : ℕ → Bool) → l ≤ a.periods → (t : ℕ) → t ≤ l → Covers a f l chosen t
unfolding Covers
covers a owing f is l chosen high zero h = inl (omega arith)
covers a owing f is l chosen high (suc t) h =
    ⊎_elim
    (λ made. ⊎_elim
    (λ yes.
    let part = part_chosen a f l chosen t yes in
    ⊎_elim
    (λ some.
    let set : f.setup (suc t) ≡ 1 = is.made (suc t) (omega arith) (omega (arith, h, high)) some in
    let before = so_far a owing f is t (omega (arith, h, high)) in
    inr (omega (arith, made, part, ap (λ k. demand_between a (suc t) l * k) set, before, demand_split a t l (omega (arith, h)))))
    (λ none. inl (omega (arith, made, none)))
    (cases_lt 0 (f.make (suc t))))
    (λ no. inl (omega (arith, made, part_made a f l chosen t no)))
    (cases_Bool (chosen (suc t))))
    (λ all. inr (omega (arith, all)))
    (covers a owing f is l chosen high t (omega (arith, h)))

pub ls_holds : (a : Asked) (owing : Bool) (f : Trajectory) → IsTrajectory a owing f → (l : ℕ) (chosen : ℕ → Bool) → 1 ≤ l → l ≤ a.periods → HoldsLs a f l chosen
unfolding Covers
ls_holds a owing f is l chosen low high =
    ⊎_elim
    (λ made.
    let z : suc l - suc l ≡ 0 = omega arith in
    omega (arith, made, so_far a owing f is l high, demand_split a l l (omega arith), ap (λ k. sum_from (suc l) k a.demand) z))
    (λ all. omega (arith, all))
    (covers a owing f is l chosen high l (omega arith))
