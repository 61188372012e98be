-- An echelon balances in every feasible plan, in its own fields.
use Rattle.std.proofs.Common.{◌≡◌, ◌≤◌, ◌<◌, ◌+◌, ◌-◌, ◌*◌, ◌∙◌, ⊎_elim, ℕ, zero, suc, refl, sym, ap, subst, arith, length, Option, Some, None, IsSome, IsNone, IsTrue, false}
use Rattle.std.specs.Prelude.{Bool}
use Rattle.std.proofs.lemmas.Bool.{cases_lt}
use Rattle.std.proofs.Math.Nat.{mul-le-mul_left}
use Rattle.lot_sizing.specs.Sums.{sum_to}
use Rattle.lot_sizing.specs.Problem.{Problem, EachItem, entry, item_at, item_count}
use Rattle.lot_sizing.specs.Plan.{Plan, IsFeasible, backlog_after, stock_after}
use Rattle.lot_sizing.specs.Bill.{AreWeights, bill_of}
use Rattle.lot_sizing.specs.Totals.{AreLargestTotals, IsRanking}
use Rattle.lot_sizing.specs.Net.{asked_to, needed_to, net_in}
use Rattle.lot_sizing.specs.Echelon.{IsLeadFree, asked_in_echelon, in_echelon}
use Rattle.lot_sizing.proofs.Echelon.{echelon_balance, net_at_most}
use Rattle.lot_sizing.proofs.Plans.{backlog_after_some, stock_after_some}
use Rattle.lot_sizing.proofs.Reduction.{net_so_far}
use Rattle.lot_sizing.proofs.Sums.{sum_to-le, sum_to-same, sum_to-zero}
use Rattle.echelon.specs.Views.{asked_of_echelon, net_of_all}
use Rattle.echelon.specs.Weights.{HasBack, IsBacklogged, IsEchelonOf}
use Rattle.echelon.specs.Balance.{IsBalancedIn, backlog_in, stock_in, weighed}
use Rattle.echelon.specs.declared.net.EchelonItem.{EchelonItem}
use Rattle.echelon.proofs.Wholes.{asks_as}

-- by the weights of the echelon or by those of the problem
weighed_is : (m : Problem) (weight : ℕ → ℕ → ℕ) (i : ℕ) (e : EchelonItem) (f : ℕ → ℕ) → IsEchelonOf m weight i e → weighed e f ≡ in_echelon m weight i f
weighed_is m weight i e f is =
    ap (λ n. sum_to n (λ j. entry e.weights.items j * f j)) is.weights.size
    ∙ sum_to-same (item_count m) (λ j. entry e.weights.items j * f j) (λ j. weight i j * f j) (λ j low high. ap (λ w. w * f j) (is.weights.each j low high))

none_where_not_some : (A : Type 0) (x : Option A) → (IsSome x → ⊥) → IsNone x
none_where_not_some A None never = refl
none_where_not_some A (Some y) never = absurd (never refl)

not_both : (b : Bool) → b ≡ false → IsTrue b → ⊥
not_both b never is = cc (never, is)

-- where no item that counts may be owed, nothing is
nothing_owed : (m : Problem) (weight : ℕ → ℕ → ℕ) (p : Plan) (i t : ℕ) → IsFeasible m p → (IsBacklogged m weight i → ⊥) → 1 ≤ t → t ≤ m.periods → in_echelon m weight i (λ j. backlog_after p j t) ≡ 0
nothing_owed m weight p i t f never t_low t_high =
    sum_to-same (item_count m) (λ j. weight i j * backlog_after p j t) (λ _. 0) (λ j low high.
    ⊎_elim
    (λ counts.
    let none = (f.backlog j t low high t_low t_high).0 (none_where_not_some _ (item_at m j).backlog_cost (λ back. never (j, low, high, counts, back))) in
    omega (arith, ap (λ x. weight i j * x) (backlog_after_some p j t t_low ∙ none)))
    (λ no. let e : weight i j ≡ 0 = omega (arith, no) in omega (arith, ap (λ x. x * backlog_after p j t) e))
    (cases_lt 0 (weight i j)))
    ∙ sum_to-zero (item_count m)

-- nothing is owed before the first period, and in the end
settled_at : (m : Problem) (weight : ℕ → ℕ → ℕ) (p : Plan) (i t : ℕ) → ((j : ℕ) → 1 ≤ j → j ≤ item_count m → backlog_after p j t ≡ 0) → in_echelon m weight i (λ j. backlog_after p j t) ≡ 0
settled_at m weight p i t none =
    sum_to-same (item_count m) (λ j. weight i j * backlog_after p j t) (λ _. 0) (λ j low high. omega (arith, ap (λ x. weight i j * x) (none j low high)))
    ∙ sum_to-zero (item_count m)

in_time_at : (m : Problem) (weight : ℕ → ℕ → ℕ) (p : Plan) (i t : ℕ) → IsFeasible m p → (IsBacklogged m weight i → ⊥) → t ≤ m.periods → in_echelon m weight i (λ j. backlog_after p j t) ≡ 0
in_time_at m weight p i zero f never high = settled_at m weight p i 0 (λ j low j_high. refl)
in_time_at m weight p i (suc t) f never high = nothing_owed m weight p i (suc t) f never (omega arith) high

pub balanced_in : (m : Problem) (weight : ℕ → ℕ → ℕ) (rank : ℕ → ℕ) (i : ℕ) (e : EchelonItem) → 1 ≤ m.periods → AreWeights (bill_of m) weight → IsRanking m rank → 1 ≤ i → i ≤ item_count m → IsLeadFree m weight i → IsEchelonOf m weight i e → (p : Plan) → IsFeasible m p → IsBalancedIn m p e
balanced_in m weight rank i e some are ranks low high free is p f =
    let T = length e.demand.items in
    let size : T ≡ m.periods = is.demand.size in
    record {
      opening = weighed_is m weight i e (λ j. stock_after m p j 0) is ∙ sym is.opening;
      balance = λ t t_low t_high.
          let t_last : t ≤ m.periods = omega (arith, t_high, size) in
          omega (
            arith,
            echelon_balance m weight rank are ranks p f i t low high t_low t_last free,
            weighed_is m weight i e (λ j. stock_after m p j (t - 1)) is,
            weighed_is m weight i e (λ j. backlog_after p j t) is,
            weighed_is m weight i e (λ j. stock_after m p j t) is,
            weighed_is m weight i e (λ j. backlog_after p j (t - 1)) is,
            is.demand.each t t_low t_last,
            ap (λ k. p.make k t) is.item,
          );
      in_time = λ never t t_high.
          weighed_is m weight i e (λ j. backlog_after p j t) is
          ∙ in_time_at m weight p i t f (λ owed. not_both e.backlogged never (is.backlogged.1 owed)) (omega (arith, t_high, size));
      settled =
          ap (backlog_in p e) size
          ∙ weighed_is m weight i e (λ j. backlog_after p j m.periods) is
          ∙ settled_at m weight p i m.periods (λ j j_low j_high. backlog_after_some p j m.periods some ∙ (f.backlog j m.periods j_low j_high some (omega arith)).1 refl);
      end_stock =
          omega (
            arith,
            is.end_min,
            sum_to-le (item_count m) (λ j. weight i j * (item_at m j).end_min) (λ j. weight i j * stock_after m p j m.periods) (λ j j_low j_high. mul-le-mul_left (weight i j) (omega (arith, stock_after_some m p j m.periods some, (f.end_stock j j_low j_high).0))),
            weighed_is m weight i e (λ j. stock_after m p j m.periods) is,
            ap (stock_in m p e) size,
          );
    }

-- the net demands of an echelon add to at most the largest total
pub net_within : (m : Problem) (weight : ℕ → ℕ → ℕ) (rank total : ℕ → ℕ) (i : ℕ) (e : EchelonItem) → 1 ≤ m.periods → AreWeights (bill_of m) weight → IsRanking m rank → AreLargestTotals m total → EachItem m (λ j. (item_at m j).end_min ≤ (item_at m j).end_max) → 1 ≤ i → i ≤ item_count m → IsEchelonOf m weight i e → net_of_all e ≤ total i
net_within m weight rank total i e some are ranks totals ends low high is =
    let a = asked_of_echelon e in
    let T = length e.demand.items in
    let asked : asked_to a T ≡ asked_to (asked_in_echelon m weight i) m.periods = ap (asked_to a) is.demand.size ∙ asks_as m weight i e is m.periods (omega arith) in
    omega (
      arith,
      net_so_far a (omega (arith, some, is.demand.size)) T (omega arith),
      asked,
      is.opening,
      net_at_most m weight rank total are ranks totals ends i low high,
    )
