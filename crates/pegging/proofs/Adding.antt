-- The pegs of each supply add up to it, and those of each need to what it takes.
use Rattle.std.proofs.Common.{◌≡◌, ◌≤◌, ◌+◌, ◌-◌, ◌++◌, ◌∙◌, ⊎_elim, ℕ, Bool, true, false, cond, ◌==◌, ◌&&◌, List, [], ◌∷◌, map, min, max, refl, sym, ap, arith, eq-eqb, eqb-true, ne_eqb}
use Rattle.std.specs.List.{flat_map, range_with_len, sum_by}
use Rattle.std.proofs.lemmas.Bool.{and_from, and_left, and_parts, and_right, cases_lt, cond-false, cond-true, false_from_ne_true}
use Rattle.std.proofs.lemmas.List.Sums.{sum_by-append, sum_by-cons}
use Rattle.lot_sizing.specs.Problem.{Problem, item_count}
use Rattle.lot_sizing.specs.Plan.{IsFeasible, Plan}
use Rattle.pegging.specs.declared.pegs.Peg.{Peg}
use Rattle.pegging.specs.declared.pegs.Supply.{Supply}
use Rattle.pegging.specs.declared.pegs.Supply.TheVariants.{Opening, Lot}
use Rattle.pegging.specs.declared.pegs.Target.{Target}
use Rattle.pegging.specs.declared.pegs.Target.TheVariants.{Demand, Part, End}
use Rattle.pegging.specs.Pegs.{Interval, intervals, needed, overlap, peg_of, pegs_along, pegs_of, pegs_of_item, supplied, supplies, targets, targets_in}
use Rattle.pegging.specs.Sums.{IsSupplyOf, IsTargetOf, MeetNeeds, UseSupplies, same_supply, same_target}
use Rattle.pegging.proofs.Ranges.{sum_flat, sum_map, sum_none, sum_one}
use Rattle.pegging.proofs.Totals.{as_much}
use Rattle.pegging.proofs.Walk.{none_needed}

-- a number, where it is picked
abbrev picked : Bool → ℕ → ℕ
picked c n = cond c n 0

-- nothing, picked or not
nothing_picked : (c : Bool) → picked c 0 ≡ 0
nothing_picked true = refl
nothing_picked false = refl

picked_both : (c : Bool) (x y : ℕ) → cond c x 0 + cond c y 0 ≡ cond c (x + y) 0
picked_both true x y = refl
picked_both false x y = refl

sum_zero : {X : Type 0} (f : X → ℕ) (xs : List X) → ((x : X) → f x ≡ 0) → sum_by f xs ≡ 0
sum_zero f [] none = refl
sum_zero f (x ∷ xs) none = omega (arith, sum_by-cons f x xs, none x, sum_zero f xs none)

-- what a peg counts, where it is picked by its supply and its need
peg_counts : (f : Peg → ℕ) (i : ℕ) (from : Supply) (to : Target) (c : Bool) → ((q : ℕ) → f (record { item = i; from = from; to = to; quantity = q }) ≡ cond c q 0) → (q : ℕ) → sum_by f (peg_of i from to q) ≡ cond c q 0
peg_counts f i from to c counts q =
    let one : ℕ → Peg = λ n. record { item = i; from = from; to = to; quantity = n } in
    ⊎_elim
    (λ some.
    let apart : (q == 0) ≡ false = ne_eqb q 0 (λ e. absurd (omega (arith, e, some))) in
    let kept : sum_by f (peg_of i from to q) ≡ sum_by f (one q ∷ []) = ap (λ b. sum_by f (cond b [] (one q ∷ []))) apart in
    omega (arith, kept, counts q))
    (λ none.
    let e : q ≡ 0 = omega (arith, none) in
    ap (λ n. sum_by f (peg_of i from to n)) e ∙ sym (nothing_picked c) ∙ ap (λ n. cond c n 0) (sym e))
    (cases_lt 0 q)

-- what the pegs of a supply count, where it is picked
along_taken : (f : Peg → ℕ) (i : ℕ) (pick : Supply → Bool) → ((from : Supply) (to : Target) (q : ℕ) → f (record { item = i; from = from; to = to; quantity = q }) ≡ cond (pick from) q 0)
    → (a : Interval Supply) (taken : List (Interval Target)) → sum_by f (pegs_along i taken a) ≡ cond (pick a.what) (sum_by (λ b. overlap a b) taken) 0
along_taken f i pick counts a [] = sym (nothing_picked (pick a.what))
along_taken f i pick counts a (b ∷ taken) =
    let c = pick a.what in
    sum_by-append f (peg_of i a.what b.what (overlap a b)) (pegs_along i taken a)
    ∙ ap (λ n. n + sum_by f (pegs_along i taken a)) (peg_counts f i a.what b.what c (counts a.what b.what) (overlap a b))
    ∙ ap (λ n. cond c (overlap a b) 0 + n) (along_taken f i pick counts a taken)
    ∙ picked_both c (overlap a b) (sum_by (λ d. overlap a d) taken)
    ∙ ap (λ n. cond c n 0) (sym (sum_by-cons (λ d. overlap a d) b taken))

-- how much of a supply lies over all needs
row_total : (a : Interval Supply) (t : Target → ℕ) (here : ℕ) (ys : List Target) → a.start ≤ a.end → sum_by (λ b. overlap a b) (intervals t here ys) ≡ min a.end (here + sum_by t ys) - max a.start here
row_total a t here [] order = omega (arith, order)
row_total a t here (y ∷ ys) order =
    let b : Interval Target = record { what = y; start = here; end = here + t y } in
    omega (arith, sum_by-cons (λ d. overlap a d) b (intervals t (here + t y) ys), sum_by-cons t y ys, row_total a t (here + t y) ys order, order)

-- and of a need over all supplies
column_total : (b : Interval Target) (s : Supply → ℕ) (here : ℕ) (xs : List Supply) → b.start ≤ b.end → sum_by (λ a. overlap a b) (intervals s here xs) ≡ min (here + sum_by s xs) b.end - max here b.start
column_total b s here [] order = omega (arith, order)
column_total b s here (x ∷ xs) order =
    let a : Interval Supply = record { what = x; start = here; end = here + s x } in
    omega (arith, sum_by-cons (λ d. overlap d b) a (intervals s (here + s x) xs), sum_by-cons s x xs, column_total b s (here + s x) xs order, order)

-- where the needs take at least as much, the pegs of an item count what its picked supplies have
item_taken : (f : Peg → ℕ) (i : ℕ) (pick : Supply → Bool) → ((from : Supply) (to : Target) (q : ℕ) → f (record { item = i; from = from; to = to; quantity = q }) ≡ cond (pick from) q 0)
    → (s : Supply → ℕ) (t : Target → ℕ) (ys : List Target) (here : ℕ) (xs : List Supply) → here + sum_by s xs ≤ sum_by t ys
    → sum_by f (flat_map (pegs_along i (intervals t 0 ys)) (intervals s here xs)) ≡ sum_by (λ x. cond (pick x) (s x) 0) xs
item_taken f i pick counts s t ys here [] enough = refl
item_taken f i pick counts s t ys here (x ∷ xs) enough =
    let a : Interval Supply = record { what = x; start = here; end = here + s x } in
    let all = intervals t 0 ys in
    let others = flat_map (pegs_along i all) (intervals s (here + s x) xs) in
    let within : here + s x + sum_by s xs ≤ sum_by t ys = omega (arith, enough, sum_by-cons s x xs) in
    let whole : sum_by (λ b. overlap a b) all ≡ s x =
    row_total a t 0 ys (omega arith) ∙ (let e : min (here + s x) (0 + sum_by t ys) - max here 0 ≡ s x = omega (arith, within) in e) in
    sum_by-append f (pegs_along i all a) others
    ∙ ap (λ n. n + sum_by f others) (along_taken f i pick counts a all ∙ ap (λ n. cond (pick x) n 0) whole)
    ∙ ap (λ n. cond (pick x) (s x) 0 + n) (item_taken f i pick counts s t ys (here + s x) xs within)
    ∙ sym (sum_by-cons (λ z. cond (pick z) (s z) 0) x xs)

-- what the pegs of a need count, where it is picked
across_given : (f : Peg → ℕ) (i : ℕ) (pick : Target → Bool) → ((from : Supply) (to : Target) (q : ℕ) → f (record { item = i; from = from; to = to; quantity = q }) ≡ cond (pick to) q 0)
    → (b : Interval Target) (given : List (Interval Supply)) → sum_by f (flat_map (λ a. peg_of i a.what b.what (overlap a b)) given) ≡ cond (pick b.what) (sum_by (λ a. overlap a b) given) 0
across_given f i pick counts b [] = sym (nothing_picked (pick b.what))
across_given f i pick counts b (a ∷ given) =
    let c = pick b.what in
    let others = flat_map (λ (d : Interval Supply). peg_of i d.what b.what (overlap d b)) given in
    sum_by-append f (peg_of i a.what b.what (overlap a b)) others
    ∙ ap (λ n. n + sum_by f others) (peg_counts f i a.what b.what c (counts a.what b.what) (overlap a b))
    ∙ ap (λ n. cond c (overlap a b) 0 + n) (across_given f i pick counts b given)
    ∙ picked_both c (overlap a b) (sum_by (λ d. overlap d b) given)
    ∙ ap (λ n. cond c n 0) (sym (sum_by-cons (λ d. overlap d b) a given))

-- a sum over lists of two parts each
sum_parts : {X : Type 0} (f : Peg → ℕ) (g h : X → List Peg) (xs : List X) → sum_by f (flat_map (λ x. g x ++ h x) xs) ≡ sum_by f (flat_map g xs) + sum_by f (flat_map h xs)
sum_parts f g h [] = refl
sum_parts f g h (x ∷ xs) =
    omega (arith, sum_by-append f (g x ++ h x) (flat_map (λ z. g z ++ h z) xs), sum_by-append f (g x) (h x), sum_by-append f (g x) (flat_map g xs), sum_by-append f (h x) (flat_map h xs), sum_parts f g h xs)

-- where the supplies have at least as much, the pegs of an item count what its picked needs take
item_given : (f : Peg → ℕ) (i : ℕ) (pick : Target → Bool) → ((from : Supply) (to : Target) (q : ℕ) → f (record { item = i; from = from; to = to; quantity = q }) ≡ cond (pick to) q 0)
    → (s : Supply → ℕ) (t : Target → ℕ) (xs : List Supply) (here : ℕ) (ys : List Target) → here + sum_by t ys ≤ sum_by s xs
    → sum_by f (flat_map (pegs_along i (intervals t here ys)) (intervals s 0 xs)) ≡ sum_by (λ y. cond (pick y) (t y) 0) ys
item_given f i pick counts s t xs here [] enough = ap (λ pegs. sum_by f pegs) (none_needed i (intervals s 0 xs))
item_given f i pick counts s t xs here (y ∷ ys) enough =
    let b : Interval Target = record { what = y; start = here; end = here + t y } in
    let all = intervals s 0 xs in
    let later = intervals t (here + t y) ys in
    let within : here + t y + sum_by t ys ≤ sum_by s xs = omega (arith, enough, sum_by-cons t y ys) in
    let whole : sum_by (λ a. overlap a b) all ≡ t y =
    column_total b s 0 xs (omega arith) ∙ (let e : min (0 + sum_by s xs) (here + t y) - max 0 here ≡ t y = omega (arith, within) in e) in
    sum_parts f (λ a. peg_of i a.what y (overlap a b)) (pegs_along i later) all
    ∙ ap (λ n. n + sum_by f (flat_map (pegs_along i later) all)) (across_given f i pick counts b all ∙ ap (λ n. cond (pick y) n 0) whole)
    ∙ ap (λ n. cond (pick y) (t y) 0 + n) (item_given f i pick counts s t xs (here + t y) ys within)
    ∙ sym (sum_by-cons (λ z. cond (pick z) (t z) 0) y ys)

-- each supply is listed once
supplies_one : (m : Problem) (f : Supply → ℕ) (s : Supply) → IsSupplyOf m s → ((x : Supply) → (x ≡ s → ⊥) → f x ≡ 0) → sum_by f (supplies m) ≡ f s
supplies_one m f Opening is others =
    let lots = range_with_len 1 m.periods in
    omega (arith, sum_by-cons f Opening (map (λ t. Lot t) lots), sum_map f (λ t. Lot t) lots, sum_none (λ t. f (Lot t)) 1 m.periods (λ t low high. others (Lot t) (λ e. cc e)))
supplies_one m f (Lot u) is others =
    let lots = range_with_len 1 m.periods in
    omega (arith, sum_by-cons f Opening (map (λ t. Lot t) lots), others Opening (λ e. cc e), sum_map f (λ t. Lot t) lots, sum_one (λ t. f (Lot t)) u 1 m.periods is.0 (omega (arith, is.1)) (λ t low high apart. others (Lot t) (λ e. apart (cc e))))

-- and each need
in_period : (m : Problem) (f : Target → ℕ) (t : ℕ) → sum_by f (targets_in m t) ≡ f (Demand t) + sum_by (λ j. f (Part j t)) (range_with_len 1 (item_count m))
in_period m f t =
    let items = range_with_len 1 (item_count m) in
    sum_by-cons f (Demand t) (map (λ j. Part j t) items) ∙ ap (λ n. f (Demand t) + n) (sum_map f (λ j. Part j t) items)

none_in_period : (m : Problem) (f : Target → ℕ) (t : ℕ) → f (Demand t) ≡ 0 → ((j : ℕ) → f (Part j t) ≡ 0) → sum_by f (targets_in m t) ≡ 0
none_in_period m f t demanded parts = omega (arith, in_period m f t, demanded, sum_none (λ j. f (Part j t)) 1 (item_count m) (λ j low high. parts j))

in_all : (m : Problem) (f : Target → ℕ) → sum_by f (targets m) ≡ sum_by (λ t. sum_by f (targets_in m t)) (range_with_len 1 m.periods) + f End
in_all m f =
    let listed = range_with_len 1 m.periods in
    omega (arith, sum_by-append f (flat_map (targets_in m) listed) (End ∷ []), sum_flat f (targets_in m) listed)

targets_one : (m : Problem) (f : Target → ℕ) (d : Target) → IsTargetOf m d → ((x : Target) → (x ≡ d → ⊥) → f x ≡ 0) → sum_by f (targets m) ≡ f d
targets_one m f (Demand u) is others =
    omega (arith, in_all m f, others End (λ e. cc e), sum_one (λ t. sum_by f (targets_in m t)) u 1 m.periods is.0 (omega (arith, is.1)) (λ t low high apart. none_in_period m f t (others (Demand t) (λ e. apart (cc e))) (λ j. others (Part j t) (λ e. cc e))), in_period m f u, sum_none (λ j. f (Part j u)) 1 (item_count m) (λ j low high. others (Part j u) (λ e. cc e)))
targets_one m f (Part j u) is others =
    omega (arith, in_all m f, others End (λ e. cc e), sum_one (λ t. sum_by f (targets_in m t)) u 1 m.periods is.1.0 (omega (arith, is.1.1)) (λ t low high apart. none_in_period m f t (others (Demand t) (λ e. cc e)) (λ k. others (Part k t) (λ e. apart (cc e)))), in_period m f u, others (Demand u) (λ e. cc e), sum_one (λ k. f (Part k u)) j 1 (item_count m) is.0.0 (omega (arith, is.0.1)) (λ k low high apart. others (Part k u) (λ e. apart (cc e))))
targets_one m f End is others =
    omega (arith, in_all m f, sum_none (λ t. sum_by f (targets_in m t)) 1 m.periods (λ t low high. none_in_period m f t (others (Demand t) (λ e. cc e)) (λ j. others (Part j t) (λ e. cc e))))

supply_itself : (s : Supply) → same_supply s s ≡ true
supply_itself Opening = refl
supply_itself (Lot t) = eq-eqb t t refl

supply_apart : (x s : Supply) → (x ≡ s → ⊥) → same_supply x s ≡ false
supply_apart Opening Opening apart = absurd (apart refl)
supply_apart Opening (Lot u) apart = refl
supply_apart (Lot t) Opening apart = refl
supply_apart (Lot t) (Lot u) apart = ne_eqb t u (λ e. apart (ap (λ n. Lot n) e))

target_itself : (d : Target) → same_target d d ≡ true
target_itself (Demand t) = eq-eqb t t refl
target_itself (Part j t) = and_from (j == j) (t == t) (eq-eqb j j refl) (eq-eqb t t refl)
target_itself End = refl

target_apart : (x d : Target) → (x ≡ d → ⊥) → same_target x d ≡ false
target_apart (Demand t) (Demand u) apart = ne_eqb t u (λ e. apart (ap (λ n. Demand n) e))
target_apart (Demand t) (Part k u) apart = refl
target_apart (Demand t) End apart = refl
target_apart (Part j t) (Demand u) apart = refl
target_apart (Part j t) (Part k u) apart =
    false_from_ne_true ((j == k) && (t == u)) (λ both.
    let parts = and_parts (j == k) (t == u) both in
    apart (ap (λ n. Part n t) (eqb-true j k parts.0) ∙ ap (λ n. Part k n) (eqb-true t u parts.1)))
target_apart (Part j t) End apart = refl
target_apart End (Demand u) apart = refl
target_apart End (Part k u) apart = refl
target_apart End End apart = absurd (apart refl)

-- each supply is used up
pub supplies_used : (m : Problem) (p : Plan) → IsFeasible m p → 1 ≤ m.periods → UseSupplies m p (pegs_of m p)
supplies_used m p f some i low high s is =
    let counts : Peg → ℕ = λ peg. cond ((peg.item == i) && same_supply peg.from s) peg.quantity 0 in
    let pick : ℕ → Supply → Bool = λ j x. (j == i) && same_supply x s in
    let of_item : (j : ℕ) → 1 ≤ j → j ≤ item_count m → sum_by counts (pegs_of_item m p j) ≡ sum_by (λ x. cond (pick j x) (supplied m p j x) 0) (supplies m) =
    λ j j_low j_high. item_taken counts j (pick j) (λ from to q. refl) (supplied m p j) (needed m p j) (targets m) 0 (supplies m) (omega (arith, as_much m p j f some j_low j_high)) in
    sum_flat counts (pegs_of_item m p) (range_with_len 1 (item_count m))
    ∙ sum_one (λ j. sum_by counts (pegs_of_item m p j)) i 1 (item_count m) low (omega (arith, high))
    (λ j j_low j_high apart. of_item j j_low (omega (arith, j_high)) ∙ sum_zero (λ x. cond (pick j x) (supplied m p j x) 0) (supplies m) (λ x. cond-false (pick j x) (supplied m p j x) 0 (and_left (j == i) (same_supply x s) (ne_eqb j i apart))))
    ∙ of_item i low high
    ∙ supplies_one m (λ x. cond (pick i x) (supplied m p i x) 0) s is (λ x apart. cond-false (pick i x) (supplied m p i x) 0 (and_right (i == i) (same_supply x s) (supply_apart x s apart)))
    ∙ cond-true (pick i s) (supplied m p i s) 0 (and_from (i == i) (same_supply s s) (eq-eqb i i refl) (supply_itself s))

-- each need is met
pub needs_met : (m : Problem) (p : Plan) → IsFeasible m p → 1 ≤ m.periods → MeetNeeds m p (pegs_of m p)
needs_met m p f some i low high d is =
    let counts : Peg → ℕ = λ peg. cond ((peg.item == i) && same_target peg.to d) peg.quantity 0 in
    let pick : ℕ → Target → Bool = λ j x. (j == i) && same_target x d in
    let of_item : (j : ℕ) → 1 ≤ j → j ≤ item_count m → sum_by counts (pegs_of_item m p j) ≡ sum_by (λ x. cond (pick j x) (needed m p j x) 0) (targets m) =
    λ j j_low j_high. item_given counts j (pick j) (λ from to q. refl) (supplied m p j) (needed m p j) (supplies m) 0 (targets m) (omega (arith, as_much m p j f some j_low j_high)) in
    sum_flat counts (pegs_of_item m p) (range_with_len 1 (item_count m))
    ∙ sum_one (λ j. sum_by counts (pegs_of_item m p j)) i 1 (item_count m) low (omega (arith, high))
    (λ j j_low j_high apart. of_item j j_low (omega (arith, j_high)) ∙ sum_zero (λ x. cond (pick j x) (needed m p j x) 0) (targets m) (λ x. cond-false (pick j x) (needed m p j x) 0 (and_left (j == i) (same_target x d) (ne_eqb j i apart))))
    ∙ of_item i low high
    ∙ targets_one m (λ x. cond (pick i x) (needed m p i x) 0) d is (λ x apart. cond-false (pick i x) (needed m p i x) 0 (and_right (i == i) (same_target x d) (target_apart x d apart)))
    ∙ cond-true (pick i d) (needed m p i d) 0 (and_from (i == i) (same_target d d) (eq-eqb i i refl) (target_itself d))
