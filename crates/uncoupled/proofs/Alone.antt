-- Without coupling the echelon of an item is the item: it asks for what the item is asked for, and has the item's prices.
use Rattle.std.proofs.Common.{◌≡◌, ◌≢◌, ◌≤◌, ◌+◌, ◌-◌, ◌*◌, ◌∙◌, ℕ, zero, suc, refl, ap, arith, Bool, true, false, List, ◌++◌, [], ◌∷◌}
use Rattle.std.specs.Prelude.{if◌then◌else◌, ◌==◌, nat_lt, is_some, Option, Some, None, IfSome}
use Rattle.std.specs.List.{sum_by}
use Rattle.lot_sizing.specs.Problem.{IsUncoupled, Problem, demand, entry, hold_cost, item_at, item_count, per_unit}
use Rattle.lot_sizing.specs.Bill.{AreWeights, bill_of, one_if_same}
use Rattle.lot_sizing.specs.Totals.{IsRanking}
use Rattle.lot_sizing.specs.Echelon.{asked_in_echelon, in_echelon}
use Rattle.lot_sizing.specs.Single.{Single, position_count, potential}
use Rattle.lot_sizing.specs.Net.{Asked, asked_of, asked_to, held_left, left_after, needed_to, net_in}
use Rattle.lot_sizing.proofs.Sums.{sum_to-same}
use Rattle.echelon.specs.Views.{list_to, single_in}
use Rattle.lin_rows.specs.declared.prices.Potentials.{Potentials}
use Rattle.valid_inequalities.specs.Inequalities.{left_cost}
use Rattle.backlog_dp.specs.BlockRow.{block_right, priced_by}
use Rattle.cert_meaning.specs.CutRows.{backs_in, echelon_at}
use Rattle.item_bound.proofs.Taken.{all_none, only_one, one_of_itself, none_of_others}
use Rattle.uncoupled.specs.Items.{ProvesItem, item_floor}
use Rattle.uncoupled.specs.Blocks.{IsItsEchelon, IsSameAsked}

-- ---- weights
none_needed : (m : Problem) → IsUncoupled m → (i j : ℕ) → 1 ≤ j → j ≤ item_count m → per_unit m i j ≡ 0
none_needed m free i j low high = ap (λ needs. sum_by (λ need. if need.item == i then need.quantity else 0) needs) (free.needs j low high)

-- no item is its own component
pub any_ranks : (m : Problem) → IsUncoupled m → (rank : ℕ → ℕ) → IsRanking m rank
any_ranks m free rank i j low high j_low j_high goes = absurd (omega (arith, goes, none_needed m free i j j_low j_high))

weighs : (m : Problem) (weight : ℕ → ℕ → ℕ) → IsUncoupled m → AreWeights (bill_of m) weight → (i j : ℕ) → 1 ≤ i → i ≤ item_count m → 1 ≤ j → j ≤ item_count m → weight i j ≡ one_if_same i j
weighs m weight free are i j low high j_low j_high =
    let none = all_none (item_count m) (λ k. per_unit m i k * weight k j) (λ k k_low k_high. omega (arith, ap (λ n. n * weight k j) (none_needed m free i k k_low k_high))) in
    omega (arith, are i j low high j_low j_high, none)

-- ---- what is asked for
owing_is : (b : Bool) (w x : ℕ) → x ≡ (if b then w else 0) → w ≡ 1 → nat_lt 0 x ≡ b
owing_is true w x is one = ap (nat_lt 0) (is ∙ one)
owing_is false w x is one = ap (nat_lt 0) is

not_counted : (b : Bool) (w : ℕ) → w ≡ 0 → (if b then w else 0) ≡ 0
not_counted true w none = none
not_counted false w none = refl

pub its_echelon : (m : Problem) (weight : ℕ → ℕ → ℕ) (i : ℕ) → IsUncoupled m → AreWeights (bill_of m) weight → 1 ≤ i → i ≤ item_count m → IsItsEchelon m weight i
its_echelon m weight i free are low high =
    let n = item_count m in
    let own : weight i i ≡ 1 = weighs m weight free are i i low high low high ∙ one_of_itself i in
    let others : (j : ℕ) → 1 ≤ j → j ≤ n → j ≢ i → weight i j ≡ 0 = λ j j_low j_high apart. weighs m weight free are i j low high j_low j_high ∙ none_of_others i j apart in
    let has : (f : ℕ → ℕ) → in_echelon m weight i f ≡ f i = λ f.
    omega (
      arith,
      only_one n i (λ j. weight i j * f j) low high (λ j j_low j_high apart. omega (arith, ap (λ k. k * f j) (others j j_low j_high apart))),
      ap (λ k. k * f i) own,
    ) in
    let backs : backs_in m weight i ≡ (if is_some (item_at m i).backlog_cost then weight i i else 0) =
    only_one n i (λ j. if is_some (item_at m j).backlog_cost then weight i j else 0) low high (λ j j_low j_high apart. not_counted (is_some (item_at m j).backlog_cost) (weight i j) (others j j_low j_high apart)) in
    record {
      weights = λ j j_low j_high. weighs m weight free are i j low high j_low j_high;
      has = has;
      asked = record { periods = refl; demand = λ t. has (λ j. demand m j t); opening = has (λ j. (item_at m j).opening); end_min = has (λ j. (item_at m j).end_min) };
      lead_free = λ j j_low j_high some. (free.plain j j_low j_high).lead;
      owing = owing_is (is_some (item_at m i).backlog_cost) (weight i i) (backs_in m weight i) backs own;
    }

-- the same is asked for, needed and left
asked_same : (a b : Asked) → IsSameAsked a b → (t : ℕ) → asked_to a t ≡ asked_to b t
asked_same a b same t =
    omega (
      arith,
      sum_to-same t a.demand b.demand (λ u low high. same.demand u),
      ap (λ n. if t == n then a.end_min else 0) same.periods,
      ap (λ k. if t == b.periods then k else 0) same.end_min,
    )

needed_same : (a b : Asked) → IsSameAsked a b → (t : ℕ) → needed_to a t ≡ needed_to b t
needed_same a b same t = ap (λ k. k - a.opening) (asked_same a b same t) ∙ ap (λ k. asked_to b t - k) same.opening

net_same : (a b : Asked) → IsSameAsked a b → (t : ℕ) → net_in a t ≡ net_in b t
net_same a b same t = ap (λ k. k - needed_to a (t - 1)) (needed_same a b same t) ∙ ap (λ k. needed_to b t - k) (needed_same a b same (t - 1))

left_same : (a b : Asked) → IsSameAsked a b → (t : ℕ) → left_after a t ≡ left_after b t
left_same a b same t =
    omega (
      arith,
      ap (λ k. k - asked_to a t) same.opening,
      ap (λ k. b.opening - k) (asked_same a b same t),
      ap (λ n. if t == n then a.end_min else 0) same.periods,
      ap (λ k. if t == b.periods then k else 0) same.end_min,
    )

list_same : (n : ℕ) (f g : ℕ → ℕ) → ((t : ℕ) → f t ≡ g t) → list_to n f ≡ list_to n g
list_same zero f g same = refl
list_same (suc n) f g same = ap (λ xs. xs ++ (f (suc n) ∷ [])) (list_same n f g same) ∙ ap (λ x. list_to n g ++ (x ∷ [])) (same (suc n))

-- ---- prices
abbrev single_of : List ℕ → List ℕ → List ℕ → List ℕ → Option (List ℕ) → Single
single_of net setup unit hold back = record { net = net; setup = setup; unit = unit; hold = hold; back = back }

own_backs : (o : Option (List ℕ)) (owing : Bool) (xs : List ℕ) → owing ≡ is_some o → IfSome o (λ costs. xs ≡ costs) → (if owing then Some xs else None) ≡ o
own_backs None owing xs is has = ap (λ b. if b then Some xs else None) is
own_backs (Some costs) owing xs is has = ap (λ b. if b then Some xs else None) is ∙ ap Some has

-- the echelon by itself with the item's own prices is the item by itself
pub priced_is : (m : Problem) (weight : ℕ → ℕ → ℕ) (i : ℕ) (p : Potentials) → IsItsEchelon m weight i → ProvesItem m i p → priced_by (echelon_at m weight i) p ≡ single_in m i
priced_is m weight i p its proves =
    let a = asked_in_echelon m weight i in
    let own = item_at m i in
    let back = if (echelon_at m weight i).owing then Some p.back.items else None in
    let net = list_to m.periods (net_in (asked_of m i)) in
    ap (λ xs. single_of xs p.setup.items p.unit.items p.hold.items back) (list_same m.periods (net_in a) (net_in (asked_of m i)) (net_same a (asked_of m i) its.asked))
    ∙ ap (λ xs. single_of net xs p.unit.items p.hold.items back) proves.setup
    ∙ ap (λ xs. single_of net own.setup_cost xs p.hold.items back) proves.unit
    ∙ ap (λ xs. single_of net own.setup_cost own.unit_cost xs back) proves.hold
    ∙ ap (λ o. single_of net own.setup_cost own.unit_cost own.hold_cost o) (own_backs own.backlog_cost (echelon_at m weight i).owing p.back.items its.owing proves.back)

-- so what is left costs what it costs of the item
left_is : (m : Problem) (weight : ℕ → ℕ → ℕ) (i : ℕ) (p : Potentials) → IsItsEchelon m weight i → ProvesItem m i p → left_cost (echelon_at m weight i).asked (priced_by (echelon_at m weight i) p) ≡ held_left m i
left_is m weight i p its proves =
    let a = asked_in_echelon m weight i in
    sum_to-same m.periods (λ t. entry p.hold.items t * left_after a t) (λ t. hold_cost m i t * left_after (asked_of m i) t) (λ t low high.
    ap (λ xs. entry xs t * left_after a t) proves.hold ∙ ap (λ k. hold_cost m i t * k) (left_same a (asked_of m i) its.asked t))

-- and the row's right side is the item's floor
pub right_is : (m : Problem) (weight : ℕ → ℕ → ℕ) (i : ℕ) (p : Potentials) → IsItsEchelon m weight i → ProvesItem m i p → block_right (echelon_at m weight i) p ≡ item_floor m i p
right_is m weight i p its proves =
    let s = priced_by (echelon_at m weight i) p in
    ap (λ x. potential p.steps.items (position_count x) + left_cost (echelon_at m weight i).asked s) (priced_is m weight i p its proves)
    ∙ ap (λ k. potential p.steps.items (position_count (single_in m i)) + k) (left_is m weight i p its proves)
