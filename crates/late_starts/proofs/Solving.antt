-- Tables in which each cell follows from those of other items that come before its own: there is one, and one only.
use Rattle.std.proofs.Common.{◌≡◌, ◌≤◌, ◌<◌, ◌∙◌, ℕ, zero, suc, sym, arith}
use Rattle.lot_sizing.specs.Problem.{Problem, item_count}
use Rattle.lot_sizing.specs.Plan.{EachCell, Table}

-- a cell goes by the cells of items of a lesser depth
abbrev pub GoesBy : Problem → (ℕ → ℕ) → (Table → Table) → Type 0
GoesBy m depth next =
    (a b : Table) (i t : ℕ) → 1 ≤ i → i ≤ item_count m → 1 ≤ t → t ≤ m.periods
    → ((j u : ℕ) → 1 ≤ j → j ≤ item_count m → 1 ≤ u → u ≤ m.periods → depth j < depth i → a j u ≡ b j u) → next a i t ≡ next b i t

-- the table after so many rounds
abbrev pub rounds : (Table → Table) → ℕ → Table
rounds next zero = λ i t. 0
rounds next (suc n) = next (rounds next n)

abbrev pub solution : (ℕ → ℕ) → (Table → Table) → Table
solution depth next = λ i t. rounds next (suc (depth i)) i t

-- more rounds change nothing
rounds_same : (m : Problem) (depth : ℕ → ℕ) (next : Table → Table) → GoesBy m depth next → (n k i t : ℕ) → 1 ≤ i → i ≤ item_count m → 1 ≤ t → t ≤ m.periods → depth i < n → depth i < k → rounds next n i t ≡ rounds next k i t
rounds_same m depth next goes zero k i t low high t_low t_high below_n below_k = absurd (omega (arith, below_n))
rounds_same m depth next goes (suc n) zero i t low high t_low t_high below_n below_k = absurd (omega (arith, below_k))
rounds_same m depth next goes (suc n) (suc k) i t low high t_low t_high below_n below_k =
    goes (rounds next n) (rounds next k) i t low high t_low t_high (λ j u j_low j_high u_low u_high less. rounds_same m depth next goes n k j u j_low j_high u_low u_high (omega (arith, less, below_n)) (omega (arith, less, below_k)))

pub solution_solves : (m : Problem) (depth : ℕ → ℕ) (next : Table → Table) → GoesBy m depth next → EachCell m (λ i t. solution depth next i t ≡ next (solution depth next) i t)
solution_solves m depth next goes = λ i t low high t_low t_high.
    goes (rounds next (depth i)) (solution depth next) i t low high t_low t_high (λ j u j_low j_high u_low u_high less. rounds_same m depth next goes (depth i) (suc (depth j)) j u j_low j_high u_low u_high less (omega arith))

-- two that solve it agree
agree_below : (m : Problem) (depth : ℕ → ℕ) (next : Table → Table) (a b : Table) → GoesBy m depth next → EachCell m (λ i t. a i t ≡ next a i t) → EachCell m (λ i t. b i t ≡ next b i t) → (n i t : ℕ) → 1 ≤ i → i ≤ item_count m → 1 ≤ t → t ≤ m.periods → depth i < n → a i t ≡ b i t
agree_below m depth next a b goes is_a is_b zero i t low high t_low t_high below = absurd (omega (arith, below))
agree_below m depth next a b goes is_a is_b (suc n) i t low high t_low t_high below =
    is_a i t low high t_low t_high
    ∙ goes a b i t low high t_low t_high (λ j u j_low j_high u_low u_high less. agree_below m depth next a b goes is_a is_b n j u j_low j_high u_low u_high (omega (arith, less, below)))
    ∙ sym (is_b i t low high t_low t_high)

pub solutions_agree : (m : Problem) (depth : ℕ → ℕ) (next : Table → Table) (a b : Table) → GoesBy m depth next → EachCell m (λ i t. a i t ≡ next a i t) → EachCell m (λ i t. b i t ≡ next b i t) → EachCell m (λ i t. a i t ≡ b i t)
solutions_agree m depth next a b goes is_a is_b = λ i t low high t_low t_high. agree_below m depth next a b goes is_a is_b (suc (depth i)) i t low high t_low t_high (omega arith)
