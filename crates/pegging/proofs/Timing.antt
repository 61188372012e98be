-- The pegs of a plan name what exists, and a lot serves only what comes once it has arrived.
use Rattle.std.proofs.Common.{◌≡◌, ◌≤◌, ◌<◌, ◌+◌, ◌-◌, ◌++◌, ◌∙◌, ⊎_elim, ℕ, zero, suc, cond, ◌==◌, false, List, [], ◌∷◌, map, ap, arith, ne_eqb}
use Rattle.std.specs.Prelude.{IsNone, ⊤}
use Rattle.std.specs.List.{All, flat_map, range_with_len, sum_by}
use Rattle.std.proofs.lemmas.Bool.{cases_lt}
use Rattle.std.proofs.lemmas.List.Sums.{sum_by-cons}
use Rattle.std.proofs.lemmas.List.Elements.{All-append, All-cons, All-map, All-nil, All-same, All-weaker}
use Rattle.lot_sizing.specs.Sums.{sum_to}
use Rattle.lot_sizing.specs.Problem.{Problem, demand, item_at, item_count}
use Rattle.lot_sizing.specs.Plan.{IsFeasible, Plan}
use Rattle.lot_sizing.specs.Least.{outflow}
use Rattle.lot_sizing.proofs.Sums.{sum_to-front, sum_to_more}
use Rattle.lot_sizing.proofs.Plans.{backlog_after_some}
use Rattle.lot_sizing.proofs.Lots.{arrived}
use Rattle.lot_sizing.proofs.Least.{balance_so_far, outflow_more}
use Rattle.pegging.specs.declared.pegs.Peg.{Peg}
use Rattle.pegging.specs.declared.pegs.Supply.{Supply}
use Rattle.pegging.specs.declared.pegs.Supply.TheVariants.{Opening, Lot}
use Rattle.pegging.specs.declared.pegs.Target.{Target}
use Rattle.pegging.specs.declared.pegs.Target.TheVariants.{Demand, Part, End}
use Rattle.pegging.specs.Pegs.{Interval, intervals, needed, overlap, peg_of, pegs_along, pegs_of, pegs_of_item, supplied, supplies, targets, targets_in}
use Rattle.pegging.specs.Sums.{Arrives, IsInTime, IndicesExist, IsSupplyOf, IsTargetOf}
use Rattle.pegging.proofs.Ranges.{all_flat, all_range, sum_listed}
use Rattle.pegging.proofs.Totals.{total_in}

-- the supplies and needs that are listed exist
pub supplies_exist : (m : Problem) → All (IsSupplyOf m) (supplies m)
supplies_exist m =
    let lots = range_with_len 1 m.periods in
    All-cons (IsSupplyOf m) Opening (map (λ t. Lot t) lots) tt (All-map (IsSupplyOf m) (λ t. Lot t) lots (all_range (λ t. IsSupplyOf m (Lot t)) 1 m.periods (λ t low high. (low, omega (arith, high)))))

pub targets_exist : (m : Problem) → All (IsTargetOf m) (targets m)
targets_exist m =
    let listed = range_with_len 1 m.periods in
    let items = range_with_len 1 (item_count m) in
    All-append (IsTargetOf m) (flat_map (targets_in m) listed) (End ∷ [])
    (all_flat (IsTargetOf m) (targets_in m) listed (all_range (λ t. All (IsTargetOf m) (targets_in m t)) 1 m.periods (λ t low high.
    All-cons (IsTargetOf m) (Demand t) (map (λ j. Part j t) items) (low, omega (arith, high))
    (All-map (IsTargetOf m) (λ j. Part j t) items (all_range (λ j. IsTargetOf m (Part j t)) 1 (item_count m) (λ j j_low j_high. ((j_low, omega (arith, j_high)), (low, omega (arith, high)))))))))
    (All-cons (IsTargetOf m) End [] tt (All-nil (IsTargetOf m)))

-- a lot begins on the line where what came before it ends
abbrev Begins : Problem → Plan → ℕ → Supply → ℕ → Type 0
Begins m p i Opening at = ⊤
Begins m p i (Lot u) at = (item_at m i).opening + sum_to (u - 1) (p.make i) ≤ at

-- a need ends within what was asked for up to its period
abbrev Ends : Problem → Plan → ℕ → Target → ℕ → Type 0
Ends m p i (Demand t) at = at ≤ outflow m p.make i t
Ends m p i (Part j t) at = at ≤ outflow m p.make i t
Ends m p i End at = ⊤

record Starts (m : Problem) (p : Plan) (i : ℕ) (a : Interval Supply) : Type 0 where
  exists : IsSupplyOf m a.what
  begins : Begins m p i a.what a.start

record Stops (m : Problem) (p : Plan) (i : ℕ) (b : Interval Target) : Type 0 where
  exists : IsTargetOf m b.what
  ends : Ends m p i b.what b.end

lots_start : (m : Problem) (p : Plan) (i n u here : ℕ) → 1 ≤ u → u + n ≡ m.periods + 1 → (item_at m i).opening + sum_to (u - 1) (p.make i) ≤ here → All (Starts m p i) (intervals (supplied m p i) here (map (λ t. Lot t) (range_with_len u n)))
lots_start m p i zero u here low count begins = All-nil (Starts m p i)
lots_start m p i (suc n) u here low count begins =
    let first : Interval Supply = record { what = Lot u; start = here; end = here + p.make i u } in
    All-cons (Starts m p i) first (intervals (supplied m p i) (here + p.make i u) (map (λ t. Lot t) (range_with_len (u + 1) n)))
    (record { exists = (low, omega (arith, count)); begins = begins })
    (lots_start m p i n (u + 1) (here + p.make i u) (omega arith) (omega (arith, count)) (omega (arith, sum_to_more u (p.make i) low, begins)))

supplies_start : (m : Problem) (p : Plan) (i : ℕ) → All (Starts m p i) (intervals (supplied m p i) 0 (supplies m))
supplies_start m p i =
    let first : Interval Supply = record { what = Opening; start = 0; end = 0 + (item_at m i).opening } in
    All-cons (Starts m p i) first (intervals (supplied m p i) (0 + (item_at m i).opening) (map (λ t. Lot t) (range_with_len 1 m.periods)))
    (record { exists = tt; begins = tt })
    (lots_start m p i m.periods 1 (0 + (item_at m i).opening) (omega arith) (omega arith) (omega arith))

intervals-append : {A : Type 0} (size : A → ℕ) (here : ℕ) (xs ys : List A) → intervals size here (xs ++ ys) ≡ intervals size here xs ++ intervals size (here + sum_by size xs) ys
intervals-append size here [] ys = ap (λ n. intervals size n ys) (omega arith)
intervals-append {A} size here (x ∷ xs) ys =
    let first : Interval A = record { what = x; start = here; end = here + size x } in
    let e : here + size x + sum_by size xs ≡ here + sum_by size (x ∷ xs) = omega (arith, sum_by-cons size x xs) in
    ap (λ v. first ∷ v) (intervals-append size (here + size x) xs ys ∙ ap (λ n. intervals size (here + size x) xs ++ intervals size n ys) e)

parts_stop : (m : Problem) (p : Plan) (i t n j here : ℕ) → 1 ≤ t → t ≤ m.periods → 1 ≤ j → j + n ≡ item_count m + 1 → here + sum_by (needed m p i) (map (λ k. Part k t) (range_with_len j n)) ≤ outflow m p.make i t
    → All (Stops m p i) (intervals (needed m p i) here (map (λ k. Part k t) (range_with_len j n)))
parts_stop m p i t zero j here t_low t_high low count within = All-nil (Stops m p i)
parts_stop m p i t (suc n) j here t_low t_high low count within =
    let size = needed m p i (Part j t) in
    let later = map (λ k. Part k t) (range_with_len (j + 1) n) in
    let first : Interval Target = record { what = Part j t; start = here; end = here + size } in
    let more = sum_by-cons (needed m p i) (Part j t) later in
    All-cons (Stops m p i) first (intervals (needed m p i) (here + size) later)
    (record { exists = ((low, omega (arith, count)), (t_low, t_high)); ends = omega (arith, within, more) })
    (parts_stop m p i t n (j + 1) (here + size) t_low t_high (omega arith) (omega (arith, count)) (omega (arith, within, more)))

period_stops : (m : Problem) (p : Plan) (i t here : ℕ) → 1 ≤ t → t ≤ m.periods → here ≤ outflow m p.make i (t - 1) → All (Stops m p i) (intervals (needed m p i) here (targets_in m t))
period_stops m p i t here low high before =
    let items = map (λ k. Part k t) (range_with_len 1 (item_count m)) in
    let first : Interval Target = record { what = Demand t; start = here; end = here + demand m i t } in
    let more = outflow_more m p.make i t low in
    All-cons (Stops m p i) first (intervals (needed m p i) (here + demand m i t) items)
    (record { exists = (low, high); ends = omega (arith, before, more) })
    (parts_stop m p i t (item_count m) 1 (here + demand m i t) low high (omega arith) (omega arith) (omega (arith, before, more, sum_listed (needed m p i) (λ k. Part k t) (item_count m))))

periods_stop : (m : Problem) (p : Plan) (i n t here : ℕ) → 1 ≤ t → t + n ≡ m.periods + 1 → here ≤ outflow m p.make i (t - 1) → All (Stops m p i) (intervals (needed m p i) here (flat_map (targets_in m) (range_with_len t n)))
periods_stop m p i zero t here low count before = All-nil (Stops m p i)
periods_stop m p i (suc n) t here low count before =
    let size = needed m p i in
    let later = flat_map (targets_in m) (range_with_len (t + 1) n) in
    let there = here + sum_by size (targets_in m t) in
    let e : t + 1 - 1 ≡ t = omega arith in
    All-same (Stops m p i) (intervals size here (targets_in m t ++ later)) (intervals size here (targets_in m t) ++ intervals size there later) (intervals-append size here (targets_in m t) later)
    (All-append (Stops m p i) (intervals size here (targets_in m t)) (intervals size there later)
    (period_stops m p i t here low (omega (arith, count)) before)
    (periods_stop m p i n (t + 1) there (omega arith) (omega (arith, count)) (omega (arith, before, total_in m p i t, outflow_more m p.make i t low, ap (λ k. outflow m p.make i k) e))))

targets_stop : (m : Problem) (p : Plan) (i : ℕ) → All (Stops m p i) (intervals (needed m p i) 0 (targets m))
targets_stop m p i =
    let size = needed m p i in
    let first = flat_map (targets_in m) (range_with_len 1 m.periods) in
    let there = 0 + sum_by size first in
    let last : Interval Target = record { what = End; start = there; end = there + p.stock i m.periods } in
    All-same (Stops m p i) (intervals size 0 (targets m)) (intervals size 0 first ++ intervals size there (End ∷ [])) (intervals-append size 0 first (End ∷ []))
    (All-append (Stops m p i) (intervals size 0 first) (last ∷ [])
    (periods_stop m p i m.periods 1 0 (omega arith) (omega arith) (omega arith))
    (All-cons (Stops m p i) last [] (record { exists = tt; ends = tt }) (All-nil (Stops m p i))))

-- a peg has a quantity
peg_holds : (P : Peg → Type 0) (i : ℕ) (from : Supply) (to : Target) (q : ℕ) → (0 < q → P (record { item = i; from = from; to = to; quantity = q })) → All P (peg_of i from to q)
peg_holds P i from to q holds =
    let one : Peg = record { item = i; from = from; to = to; quantity = q } in
    ⊎_elim
    (λ some.
    let apart : (q == 0) ≡ false = ne_eqb q 0 (λ e. absurd (omega (arith, e, some))) in
    All-same P (peg_of i from to q) (one ∷ []) (ap (λ b. cond b [] (one ∷ [])) apart) (All-cons P one [] (holds some) (All-nil P)))
    (λ none.
    let e : q ≡ 0 = omega (arith, none) in
    All-same P (peg_of i from to q) [] (ap (λ n. peg_of i from to n) e) (All-nil P))
    (cases_lt 0 q)

-- what holds of each supply with each need that it overlaps holds of all pegs
pegs_hold : (m : Problem) (p : Plan) (P : Peg → Type 0)
    → ((i : ℕ) → 1 ≤ i → i ≤ item_count m → (a : Interval Supply) (b : Interval Target) → Starts m p i a → Stops m p i b → a.start < b.end → P (record { item = i; from = a.what; to = b.what; quantity = overlap a b }))
    → All P (pegs_of m p)
pegs_hold m p P holds =
    all_flat P (pegs_of_item m p) (range_with_len 1 (item_count m)) (all_range (λ i. All P (pegs_of_item m p i)) 1 (item_count m) (λ i low high.
    let given = intervals (supplied m p i) 0 (supplies m) in
    let taken = intervals (needed m p i) 0 (targets m) in
    all_flat P (pegs_along i taken) given (All-weaker (Starts m p i) (λ a. All P (pegs_along i taken a)) (λ a starts.
    all_flat P (λ b. peg_of i a.what b.what (overlap a b)) taken (All-weaker (Stops m p i) (λ b. All P (peg_of i a.what b.what (overlap a b))) (λ b stops.
    peg_holds P i a.what b.what (overlap a b) (λ some. holds i low (omega (arith, high)) a b starts stops (omega (arith, some))))
    taken (targets_stop m p i)))
    given (supplies_start m p i))))

pub pegs_exist : (m : Problem) (p : Plan) → All (IndicesExist m) (pegs_of m p)
pegs_exist m p = pegs_hold m p (IndicesExist m) (λ i low high a b starts stops over. record { item = (low, high); from = starts.exists; to = stops.exists })

-- a lot that begins before what was asked for ends has arrived, where nothing is owed
lot_arrives : (m : Problem) (p : Plan) (i u t : ℕ) → IsFeasible m p → 1 ≤ i → i ≤ item_count m → IsNone (item_at m i).backlog_cost → 1 ≤ u → 1 ≤ t → t ≤ m.periods → (item_at m i).opening + sum_to (u - 1) (p.make i) < outflow m p.make i t → u + (item_at m i).lead ≤ t
lot_arrives m p i u t f low high none u_low t_low t_high begins =
    let lead = (item_at m i).lead in
    ⊎_elim
    (λ early. absurd (omega (arith, begins, balance_so_far m p i low high f.balance t t_high, backlog_after_some p i t t_low, (f.backlog i t low high t_low t_high).0 none, arrived m p.make i t, sum_to-front (t - lead) (u - 1) (p.make i) (omega (arith, early, u_low)))))
    (λ late. late)
    (cases_lt t (u + lead))

arrives : (m : Problem) (p : Plan) (i : ℕ) → IsFeasible m p → 1 ≤ i → i ≤ item_count m → IsNone (item_at m i).backlog_cost → (from : Supply) (to : Target) (start end : ℕ) → IsSupplyOf m from → IsTargetOf m to → Begins m p i from start → Ends m p i to end → start < end → Arrives (item_at m i).lead from to
arrives m p i f low high none Opening to start end from_is to_is begins ends over = tt
arrives m p i f low high none (Lot u) (Demand t) start end from_is to_is begins ends over = lot_arrives m p i u t f low high none from_is.0 to_is.0 to_is.1 (omega (arith, begins, ends, over))
arrives m p i f low high none (Lot u) (Part j t) start end from_is to_is begins ends over = lot_arrives m p i u t f low high none from_is.0 to_is.1.0 to_is.1.1 (omega (arith, begins, ends, over))
arrives m p i f low high none (Lot u) End start end from_is to_is begins ends over = tt

pub pegs_in_time : (m : Problem) (p : Plan) → IsFeasible m p → All (IsInTime m) (pegs_of m p)
pegs_in_time m p f = pegs_hold m p (IsInTime m) (λ i low high a b starts stops over none. arrives m p i f low high none a.what b.what a.start b.end starts.exists stops.exists starts.begins stops.ends over)
