-- The rows that the rules of plans make hold at every feasible plan.
use Rattle.std.proofs.Common.{◌≡◌, ◌≢◌, ◌≤◌, ◌<◌, ◌+◌, ◌-◌, ◌*◌, ◌∙◌, ◌⊎◌, ⊎_elim, inl, inr, ℕ, zero, suc, refl, sym, ap, subst, arith, Bool, true, false, List, [], ◌∷◌, ◌++◌}
use Rattle.std.specs.Prelude.{◌&&◌, ◌==◌, nat_le, nat_lt, if◌then◌else◌, Option, Some, None, IfSome, IsNone, is_some, ℤ, pos, negsuc, ◌+ℤ◌, ◌-ℤ◌, ◌*ℤ◌, neg_ℤ, ◌≤ℤ◌}
use Rattle.std.proofs.lemmas.Bool.{cases_eq, cases_lt}
use Rattle.std.proofs.Math.Nat.{le-min}
use Rattle.algebra.proofs.Rings.{int_ring, con, ◌⊕◌, ◌⊖◌, ◌⊗◌, ◌⊜◌, ring5}
use Rattle.algebra.proofs.Integers.{add_assoc, add_zero, minus_one, mul_one, mul_zero, neg_mul, one_mul}
use Rattle.algebra.proofs.Order.{linear}
use Rattle.lot_sizing.specs.Sums.{sum_to}
use Rattle.lot_sizing.specs.Problem.{Problem, capacity, demand, item_at, item_count, per_unit, resource_count, unit_time, setup_time}
use Rattle.lot_sizing.specs.Plan.{Plan, IsFeasible, arriving, backlog_after, stock_after, time_used, used_up}
use Rattle.lot_sizing.specs.Bill.{one_if_same}
use Rattle.lot_sizing.proofs.Lots.{arriving_none, arriving_now, arriving_some}
use Rattle.lot_sizing.proofs.Plans.{backlog_after_some}
use Rattle.lot_sizing.proofs.Sums.{sum_to-add, sum_to-front, sum_to_at}
use Rattle.lin_rows.specs.declared.row.Term.{Term}
use Rattle.lin_rows.specs.declared.base.RowName.{RowName}
use Rattle.lin_rows.specs.declared.base.RowName.TheVariants.{Balance, Link, Capacity, EndMin, EndMax, Top, Least, Late, Path, Cut}
use Rattle.lin_rows.specs.declared.column.Column.TheVariants.{X, Y, R}
use Rattle.lin_rows.specs.Columns.{value_in}
use Rattle.lin_rows.specs.Rows.{HoldsIn, IsHeld, Values, sum_at}
use Rattle.lin_rows.specs.Base.{HasRow, all_terms, arrives_now, earlier_terms, is_equality, is_owing, made_terms, most_made, opening_at, owing_terms, right_side, row_of, setup_terms, stock_terms, term, terms_to, unit_terms, within_bound}
use Rattle.lin_rows.proofs.Terms.{sum_append, sum_some}

-- an item's own lots, and when they arrive
self_is : (i : ℕ) → (i == i) ≡ true
self_is i = grind arith

other_is : (i j : ℕ) → i ≢ j → (i == j) ≡ false
other_is i j apart = grind (arith, apart)

earlier_is : (lead t : ℕ) → 1 ≤ lead → lead < t → (nat_le 1 lead && nat_lt lead t) ≡ true
earlier_is lead t low high = grind (arith, low, high)

earlier_now : (lead t : ℕ) → lead ≡ 0 → (nat_le 1 lead && nat_lt lead t) ≡ false
earlier_now lead t none = grind (arith, none)

earlier_none : (lead t : ℕ) → t ≤ lead → (nat_le 1 lead && nat_lt lead t) ≡ false
earlier_none lead t high = grind (arith, high)

now_one : (lead i : ℕ) → lead ≡ 0 → (if lead == 0 then one_if_same i i else 0) ≡ 1
now_one lead i none = grind (arith, none)

now_none : (lead i : ℕ) → 1 ≤ lead → (if lead == 0 then one_if_same i i else 0) ≡ 0
now_none lead i low = grind (arith, low)

now_other : (lead i j : ℕ) → i ≢ j → (if lead == 0 then one_if_same i j else 0) ≡ 0
now_other lead i j apart = grind (arith, apart)

-- one more term of what is made less what goes into others
made_step : (s : ℤ) (o a x g : ℕ) → (s +ℤ ((pos o -ℤ pos a) *ℤ pos x +ℤ pos 0)) +ℤ (pos g +ℤ pos a *ℤ pos x) ≡ (s +ℤ pos g) +ℤ pos o *ℤ pos x
made_step s o a x g = ring5 int_ring (λ s o a x g. (s ⊕ ((o ⊖ a) ⊗ x ⊕ con (pos 0))) ⊕ (g ⊕ a ⊗ x) ⊜ (s ⊕ g) ⊕ o ⊗ x) refl s (pos o) (pos a) (pos x) (pos g)

-- what lots of another item give of an item
abbrev given_terms : Problem → ℕ → ℕ → ℕ → List Term
given_terms m i t j = if i == j then earlier_terms m i t else []

made_next : (m : Problem) (p : Plan) (i t n : ℕ) → sum_at (value_in p) (terms_to (suc n) (made_terms m i t)) +ℤ pos (sum_to (suc n) (λ j. per_unit m i j * p.make j t)) ≡ ((sum_at (value_in p) (terms_to n (made_terms m i t)) +ℤ sum_at (value_in p) (given_terms m i t (suc n))) +ℤ pos (sum_to n (λ j. per_unit m i j * p.make j t))) +ℤ pos (arrives_now m i (suc n)) *ℤ pos (p.make (suc n) t)
made_next m p i t n =
    let v = value_in p in
    let so_far = terms_to n (made_terms m i t) in
    let given = given_terms m i t (suc n) in
    let taken = term (X (suc n) t) (pos (arrives_now m i (suc n)) -ℤ pos (per_unit m i (suc n))) ∷ [] in
    ap (λ z. z +ℤ pos (sum_to (suc n) (λ j. per_unit m i j * p.make j t))) (sum_append v so_far (given ++ taken) ∙ ap (λ z. sum_at v so_far +ℤ z) (sum_append v given taken) ∙ sym (add_assoc (sum_at v so_far) (sum_at v given) (sum_at v taken)))
    ∙ made_step (sum_at v so_far +ℤ sum_at v given) (arrives_now m i (suc n)) (per_unit m i (suc n)) (p.make (suc n) t) (sum_to n (λ j. per_unit m i j * p.make j t))

plus_none : (s e used z : ℤ) (o x : ℕ) → e ≡ pos 0 → o ≡ 0 → s +ℤ used ≡ z → ((s +ℤ e) +ℤ used) +ℤ pos o *ℤ pos x ≡ z
plus_none s e used z o x none absent h = omega (arith, linear, none, h, ap (λ k. k * x) absent)

plus_own : (s e used : ℤ) (o x c : ℕ) → e +ℤ pos o *ℤ pos x ≡ pos c → s +ℤ used ≡ pos 0 → ((s +ℤ e) +ℤ used) +ℤ pos o *ℤ pos x ≡ pos c
plus_own s e used o x c own h = omega (arith, linear, own, h)

-- other items give none
given_other : (m : Problem) (p : Plan) (i t j : ℕ) → i ≢ j → sum_at (value_in p) (given_terms m i t j) ≡ pos 0
given_other m p i t j apart = ap (λ b. sum_at (value_in p) (if b then earlier_terms m i t else [])) (other_is i j apart)

now_parts : (e : ℤ) (o x c : ℕ) → e ≡ pos 0 → o ≡ 1 → c ≡ x → e +ℤ pos o *ℤ pos x ≡ pos c
now_parts e o x c none one same = omega (arith, linear, none, same, ap (λ k. k * x) one)

earlier_parts : (e : ℤ) (o x y c : ℕ) → e ≡ pos 1 *ℤ pos y +ℤ pos 0 → o ≡ 0 → c ≡ y → e +ℤ pos o *ℤ pos x ≡ pos c
earlier_parts e o x y c is none same = omega (arith, linear, is, same, ap (λ k. k * x) none)

none_parts : (e : ℤ) (o x c : ℕ) → e ≡ pos 0 → o ≡ 0 → c ≡ 0 → e +ℤ pos o *ℤ pos x ≡ pos c
none_parts e o x c is none same = omega (arith, linear, is, same, ap (λ k. k * x) none)

-- the item's own lot arrives
given_own : (m : Problem) (p : Plan) (i t : ℕ) → 1 ≤ t → sum_at (value_in p) (given_terms m i t i) +ℤ pos (arrives_now m i i) *ℤ pos (p.make i t) ≡ pos (arriving m p.make i t)
given_own m p i t t_low =
    let v = value_in p in
    let lead = (item_at m i).lead in
    let x = p.make i t in
    let own : sum_at v (given_terms m i t i) ≡ sum_at v (earlier_terms m i t) = ap (λ b. sum_at v (if b then earlier_terms m i t else [])) (self_is i) in
    let early = λ (b : Bool). sum_at v (if b then term (X i (t - lead)) (pos 1) ∷ [] else []) in
    ⊎_elim
    (λ now. now_parts (sum_at v (given_terms m i t i)) (arrives_now m i i) x (arriving m p.make i t) (own ∙ ap early (earlier_now lead t now)) (now_one lead i now) (arriving_now m p.make i t now t_low))
    (λ later. ⊎_elim
    (λ before. earlier_parts (sum_at v (given_terms m i t i)) (arrives_now m i i) x (p.make i (t - lead)) (arriving m p.make i t) (own ∙ ap early (earlier_is lead t (omega (arith, later)) before)) (now_none lead i (omega (arith, later))) (arriving_some m p.make i t before))
    (λ after. none_parts (sum_at v (given_terms m i t i)) (arrives_now m i i) x (arriving m p.make i t) (own ∙ ap early (earlier_none lead t (omega (arith, after)))) (now_none lead i (omega (arith, later))) (arriving_none m p.make i t (omega (arith, after))))
    (cases_lt lead t))
    (cases_eq lead 0)

-- before the item, and from it on
pub made_early : (m : Problem) (p : Plan) (i t n : ℕ) → n < i → sum_at (value_in p) (terms_to n (made_terms m i t)) +ℤ pos (sum_to n (λ j. per_unit m i j * p.make j t)) ≡ pos 0
made_early m p i t zero h = refl
made_early m p i t (suc n) h =
    let v = value_in p in
    let apart : i ≢ suc n = λ same. omega (arith, same, h) in
    made_next m p i t n
    ∙ plus_none (sum_at v (terms_to n (made_terms m i t))) (sum_at v (given_terms m i t (suc n))) (pos (sum_to n (λ j. per_unit m i j * p.make j t))) (pos 0) (arrives_now m i (suc n)) (p.make (suc n) t)
    (given_other m p i t (suc n) apart) (now_other (item_at m i).lead i (suc n) apart) (made_early m p i t n (omega (arith, h)))

pub made_all : (m : Problem) (p : Plan) (i t n : ℕ) → 1 ≤ t → 1 ≤ i → i ≤ n → sum_at (value_in p) (terms_to n (made_terms m i t)) +ℤ pos (sum_to n (λ j. per_unit m i j * p.make j t)) ≡ pos (arriving m p.make i t)
made_all m p i t zero t_low low high = absurd (omega (arith, low, high))
made_all m p i t (suc n) t_low low high =
    let v = value_in p in
    let c = arriving m p.make i t in
    let so_far = sum_at v (terms_to n (made_terms m i t)) in
    let given = sum_at v (given_terms m i t (suc n)) in
    let used = sum_to n (λ j. per_unit m i j * p.make j t) in
    made_next m p i t n
    ∙ ⊎_elim
    (λ same.
    let own = given_own m p i t t_low in
    plus_own so_far given (pos used) (arrives_now m i (suc n)) (p.make (suc n) t) c (subst (λ j. sum_at v (given_terms m i t j) +ℤ pos (arrives_now m i j) *ℤ pos (p.make j t) ≡ pos c) same own) (made_early m p i t n (omega (arith, same))))
    (λ apart. plus_none so_far given (pos used) (pos c) (arrives_now m i (suc n)) (p.make (suc n) t) (given_other m p i t (suc n) apart) (now_other (item_at m i).lead i (suc n) apart) (made_all m p i t n t_low low (omega (arith, high, apart))))
    (cases_eq i (suc n))

both_taken : (g k : ℕ) → neg_ℤ (pos g) +ℤ neg_ℤ (pos k) ≡ neg_ℤ (pos (g + k))
both_taken g k = omega (arith, linear)

-- one more term that is taken away
taken_step : (v : Values) (ts : List Term) (a : Term) (g u x : ℕ) → sum_at v ts ≡ neg_ℤ (pos g) → a.times ≡ neg_ℤ (pos u) → v a.column ≡ x → sum_at v (ts ++ a ∷ []) ≡ neg_ℤ (pos (g + u * x))
taken_step v ts a g u x so_far is_times is_value =
    sum_append v ts (a ∷ []) ∙ ap (λ z. z +ℤ (a.times *ℤ pos (v a.column) +ℤ pos 0)) so_far
    ∙ ap (λ z. neg_ℤ (pos g) +ℤ (z *ℤ pos (v a.column) +ℤ pos 0)) is_times
    ∙ ap (λ k. neg_ℤ (pos g) +ℤ (neg_ℤ (pos u) *ℤ pos k +ℤ pos 0)) is_value
    ∙ ap (λ z. neg_ℤ (pos g) +ℤ z) (add_zero (neg_ℤ (pos u) *ℤ pos x) ∙ neg_mul (pos u) (pos x)) ∙ both_taken g (u * x)

zero_plus : (x : ℕ) → 0 + x ≡ x
zero_plus x = omega arith

one_times : (x : ℕ) → 1 * x ≡ x
one_times x = omega arith

one_stock : (x : ℕ) → 1 * x + 0 + 0 ≡ x
one_stock x = omega arith

-- the time that units and setups take
pub unit_sum : (m : Problem) (p : Plan) (k t n : ℕ) → sum_at (value_in p) (terms_to n (unit_terms m k t)) ≡ neg_ℤ (pos (sum_to n (λ i. unit_time m i k * p.make i t)))
unit_sum m p k t zero = refl
unit_sum m p k t (suc n) = taken_step (value_in p) (terms_to n (unit_terms m k t)) (term (X (suc n) t) (neg_ℤ (pos (unit_time m (suc n) k)))) (sum_to n (λ i. unit_time m i k * p.make i t)) (unit_time m (suc n) k) (p.make (suc n) t) (unit_sum m p k t n) refl refl

pub setup_sum : (m : Problem) (p : Plan) (k t n : ℕ) → sum_at (value_in p) (terms_to n (setup_terms m k t)) ≡ neg_ℤ (pos (sum_to n (λ i. setup_time m i k * p.setup i t)))
setup_sum m p k t zero = refl
setup_sum m p k t (suc n) = taken_step (value_in p) (terms_to n (setup_terms m k t)) (term (Y (suc n) t) (neg_ℤ (pos (setup_time m (suc n) k)))) (sum_to n (λ i. setup_time m i k * p.setup i t)) (setup_time m (suc n) k) (p.setup (suc n) t) (setup_sum m p k t n) refl refl

-- the stock before a period, or the opening stock on the other side
pub stock_side : (m : Problem) (p : Plan) (i t : ℕ) → sum_at (value_in p) (stock_terms i t (pos 1)) +ℤ pos (opening_at m i t) ≡ pos (stock_after m p i t)
stock_side m p i zero = ap pos (zero_plus (item_at m i).opening)
stock_side m p i (suc t) = ap pos (one_stock (p.stock i (suc t)))

-- the stock after a period
pub stock_left : (p : Plan) (i t : ℕ) → 1 ≤ t → sum_at (value_in p) (stock_terms i t (negsuc 0)) ≡ neg_ℤ (pos (p.stock i t))
stock_left p i zero low = absurd (omega (arith, low))
stock_left p i (suc t) low = add_zero (negsuc 0 *ℤ pos (p.stock i (suc t))) ∙ ap (λ k. neg_ℤ (pos k)) (one_times (p.stock i (suc t)))

is_owing_true : (t n : ℕ) (some : Bool) → 1 ≤ t → t < n → some ≡ true → (nat_le 1 t && (nat_lt t n && some)) ≡ true
is_owing_true t n some low high is = grind (arith, low, high, is)

is_owing_low : (t n : ℕ) (some : Bool) → (nat_le 1 t && (nat_lt t n && some)) ≡ true → 1 ≤ t
is_owing_low t n some is = grind (arith, is)

some_or_none : (o : Option (List ℕ)) → (is_some o ≡ true) ⊎ IsNone o
some_or_none None = inr refl
some_or_none (Some x) = inl refl

-- a backlog that is no column is 0
owing_none : (m : Problem) (p : Plan) (i t : ℕ) → IsFeasible m p → 1 ≤ i → i ≤ item_count m → 1 ≤ t → t ≤ m.periods → is_owing m i t ≡ false → p.backlog i t ≡ 0
owing_none m p i t f low high t_low t_high free =
    let allowed = f.backlog i t low high t_low t_high in
    ⊎_elim
    (λ before. ⊎_elim (λ some. cc (sym free ∙ is_owing_true t m.periods (is_some (item_at m i).backlog_cost) t_low before some)) (λ none. allowed.0 none) (some_or_none (item_at m i).backlog_cost))
    (λ last. allowed.1 (omega (arith, last, t_high)))
    (cases_lt t m.periods)

owing_by : (m : Problem) (p : Plan) (i t : ℕ) (times : ℤ) (b : Bool) → IsFeasible m p → 1 ≤ i → i ≤ item_count m → t ≤ m.periods → is_owing m i t ≡ b → sum_at (value_in p) (if b then term (R i t) times ∷ [] else []) ≡ times *ℤ pos (backlog_after p i t)
owing_by m p i t times true f low high t_high is = add_zero (times *ℤ pos (p.backlog i t)) ∙ ap (λ k. times *ℤ pos k) (sym (backlog_after_some p i t (is_owing_low t m.periods (is_some (item_at m i).backlog_cost) is)))
owing_by m p i zero times false f low high t_high is = sym (mul_zero times)
owing_by m p i (suc t) times false f low high t_high is = sym (mul_zero times) ∙ ap (λ k. times *ℤ pos k) (sym (owing_none m p i (suc t) f low high (omega arith) t_high is))

pub owing_sum : (m : Problem) (p : Plan) (i t : ℕ) (times : ℤ) → IsFeasible m p → 1 ≤ i → i ≤ item_count m → t ≤ m.periods → sum_at (value_in p) (owing_terms m i t times) ≡ times *ℤ pos (backlog_after p i t)
owing_sum m p i t times f low high t_high = owing_by m p i t times (is_owing m i t) f low high t_high refl

neg_one : (z : ℤ) → negsuc 0 *ℤ z ≡ neg_ℤ z
neg_one z = sym (add_zero (negsuc 0 *ℤ z)) ∙ minus_one z

-- the parts of a balance
balance_parts : (s made used before opened after owed_before owed d stock stock_before back_before back : ℤ) → s +ℤ used ≡ made → before +ℤ opened ≡ stock_before → after ≡ neg_ℤ stock → owed_before ≡ negsuc 0 *ℤ back_before → owed ≡ pos 1 *ℤ back → (stock_before +ℤ made) +ℤ back ≡ ((d +ℤ used) +ℤ stock) +ℤ back_before → s +ℤ (before +ℤ (after +ℤ (owed_before +ℤ owed))) ≡ (d -ℤ opened) *ℤ pos 1
balance_parts s made used before opened after owed_before owed d stock stock_before back_before back is_s is_before is_after is_owed_before is_owed balance = omega (arith, linear, is_s, is_before, is_after, is_owed_before, is_owed, balance, mul_one (d -ℤ opened), neg_one back_before, one_mul back)

-- the balance of an item in a period
pub balance_holds : (m : Problem) (p : Plan) (total : ℕ → ℕ) (i t : ℕ) → IsFeasible m p → 1 ≤ i → i ≤ item_count m → 1 ≤ t → t ≤ m.periods → sum_at (value_in p) (all_terms m total (Balance i t)) ≡ (pos (demand m i t) -ℤ pos (opening_at m i (t - 1))) *ℤ pos 1
balance_holds m p total i t f low high t_low t_high =
    let v = value_in p in
    let made = terms_to (item_count m) (made_terms m i t) in
    let before = stock_terms i (t - 1) (pos 1) in
    let after = stock_terms i t (negsuc 0) in
    let owed_before = owing_terms m i (t - 1) (negsuc 0) in
    let owed = owing_terms m i t (pos 1) in
    let sums : sum_at v (made ++ (before ++ (after ++ (owed_before ++ owed)))) ≡ sum_at v made +ℤ (sum_at v before +ℤ (sum_at v after +ℤ (sum_at v owed_before +ℤ sum_at v owed))) =
    sum_append v made (before ++ (after ++ (owed_before ++ owed))) ∙ ap (λ z. sum_at v made +ℤ z) (sum_append v before (after ++ (owed_before ++ owed)) ∙ ap (λ z. sum_at v before +ℤ z) (sum_append v after (owed_before ++ owed) ∙ ap (λ z. sum_at v after +ℤ z) (sum_append v owed_before owed))) in
    sums ∙ balance_parts (sum_at v made) (pos (arriving m p.make i t)) (pos (used_up m p.make i t)) (sum_at v before) (pos (opening_at m i (t - 1))) (sum_at v after) (sum_at v owed_before) (sum_at v owed) (pos (demand m i t)) (pos (p.stock i t)) (pos (stock_after m p i (t - 1))) (pos (backlog_after p i (t - 1))) (pos (backlog_after p i t))
    (made_all m p i t (item_count m) t_low low high) (stock_side m p i (t - 1)) (stock_left p i t t_low) (owing_sum m p i (t - 1) (negsuc 0) f low high (omega (arith, t_high))) (owing_sum m p i t (pos 1) f low high t_high)
    (ap (λ k. pos (stock_after m p i (t - 1) + arriving m p.make i t + k)) (backlog_after_some p i t t_low) ∙ ap pos (f.balance i t low high t_low t_high))

-- what is made is at most the largest total and the largest lot, and nothing without a setup
link_parts : (x y u : ℕ) → x ≤ u * y → (pos 0 *ℤ pos 1) ≤ℤ (negsuc 0 *ℤ pos x +ℤ (pos u *ℤ pos y +ℤ pos 0))
link_parts x y u h = omega (arith, linear, h, neg_one (pos x))

within_both : (x n : ℕ) (bound : Option ℕ) → x ≤ n → IfSome bound (λ most. x ≤ most) → x ≤ within_bound n bound
within_both x n None h k = h
within_both x n (Some most) h k = le-min h k

pub link_holds : (m : Problem) (p : Plan) (total : ℕ → ℕ) (i t : ℕ) → IsFeasible m p → sum_to m.periods (p.make i) ≤ total i → 1 ≤ i → i ≤ item_count m → 1 ≤ t → t ≤ m.periods → (pos 0 *ℤ pos 1) ≤ℤ sum_at (value_in p) (all_terms m total (Link i t))
link_holds m p total i t f most low high t_low t_high =
    let x = p.make i t in
    let y = p.setup i t in
    let u = most_made m total i in
    let below : x ≤ total i = omega (arith, sum_to_at t (p.make i) t_low, sum_to-front t m.periods (p.make i) t_high, most) in
    let within : x ≤ u = within_both x (total i) (item_at m i).max_lot below (f.lots i t low high t_low t_high).1 in
    link_parts x y u
    (⊎_elim
    (λ made. let e : y ≡ 1 = f.made i t low high t_low t_high made in omega (arith, within, ap (λ k. u * k) e))
    (λ none. omega (arith, none))
    (cases_lt 0 x))

-- a setup makes at least the least lot
least_parts : (x y low : ℕ) → low * y ≤ x → (pos 0 *ℤ pos 1) ≤ℤ (pos 1 *ℤ pos x +ℤ (neg_ℤ (pos low) *ℤ pos y +ℤ pos 0))
least_parts x y low h = omega (arith, linear, h, neg_mul (pos low) (pos y))

-- nothing is made that would arrive after the last period
late_parts : (x : ℕ) → x ≡ 0 → (pos 0 *ℤ pos 1) ≤ℤ (negsuc 0 *ℤ pos x +ℤ pos 0)
late_parts x none = omega (arith, linear, none, neg_one (pos x))

-- the time that a resource is used is at most its capacity
capacity_parts : (a b used most : ℕ) → used ≡ a + b → used ≤ most → (neg_ℤ (pos most) *ℤ pos 1) ≤ℤ (neg_ℤ (pos a) +ℤ neg_ℤ (pos b))
capacity_parts a b used most is h = omega (arith, linear, is, h, mul_one (neg_ℤ (pos most)))

pub capacity_holds : (m : Problem) (p : Plan) (total : ℕ → ℕ) (k t : ℕ) → IsFeasible m p → 1 ≤ k → k ≤ resource_count m → 1 ≤ t → t ≤ m.periods → (neg_ℤ (pos (capacity m k t)) *ℤ pos 1) ≤ℤ sum_at (value_in p) (all_terms m total (Capacity k t))
capacity_holds m p total k t f low high t_low t_high =
    let n = item_count m in
    let v = value_in p in
    let f1 = λ (i : ℕ). unit_time m i k * p.make i t in
    let f2 = λ (i : ℕ). setup_time m i k * p.setup i t in
    let sums : sum_at v (all_terms m total (Capacity k t)) ≡ neg_ℤ (pos (sum_to n f1)) +ℤ neg_ℤ (pos (sum_to n f2)) =
    sum_append v (terms_to n (unit_terms m k t)) (terms_to n (setup_terms m k t)) ∙ ap (λ z. z +ℤ sum_at v (terms_to n (setup_terms m k t))) (unit_sum m p k t n) ∙ ap (λ z. neg_ℤ (pos (sum_to n f1)) +ℤ z) (setup_sum m p k t n) in
    subst (λ z. (neg_ℤ (pos (capacity m k t)) *ℤ pos 1) ≤ℤ z) (sym sums) (capacity_parts (sum_to n f1) (sum_to n f2) (time_used m p k t) (capacity m k t) (sum_to-add n f1 f2) (f.capacity k t low high t_low t_high))

-- rows of one column
low_parts : (x least : ℕ) → least ≤ x → (pos least *ℤ pos 1) ≤ℤ (pos 1 *ℤ pos x +ℤ pos 0)
low_parts x least h = omega (arith, linear, h)

high_parts : (x most : ℕ) → x ≤ most → (neg_ℤ (pos most) *ℤ pos 1) ≤ℤ (negsuc 0 *ℤ pos x +ℤ pos 0)
high_parts x most h = omega (arith, linear, h, mul_one (neg_ℤ (pos most)), neg_one (pos x))

-- a row of an instance holds at a feasible plan
pub base_holds : (m : Problem) (p : Plan) (total : ℕ → ℕ) (name : RowName) → IsFeasible m p → 1 ≤ m.periods → ((i : ℕ) → 1 ≤ i → i ≤ item_count m → sum_to m.periods (p.make i) ≤ total i) → HasRow m name → IsHeld (is_equality name) (sum_at (value_in p) (all_terms m total name)) (right_side m name *ℤ pos 1)
base_holds m p total (Balance i t) f some most h = balance_holds m p total i t f h.0 h.1 h.2 h.3
base_holds m p total (Link i t) f some most h = link_holds m p total i t f (most i h.0 h.1) h.0 h.1 h.2 h.3
base_holds m p total (Capacity k t) f some most h = capacity_holds m p total k t f h.0 h.1 h.2 h.3
base_holds m p total (EndMin i) f some most h = low_parts (p.stock i m.periods) (item_at m i).end_min (f.end_stock i h.0 h.1).0
base_holds m p total (EndMax i) f some most h = high_parts (p.stock i m.periods) (item_at m i).end_max (f.end_stock i h.0 h.1).1
base_holds m p total (Top i t) f some most h = high_parts (p.setup i t) 1 (f.setup i t h.0 h.1 h.2 h.3)
base_holds m p total (Least i t) f some most h = least_parts (p.make i t) (p.setup i t) (item_at m i).min_lot (f.lots i t h.0.0 h.0.1 h.0.2 h.0.3).0
base_holds m p total (Late i t) f some most h = late_parts (p.make i t) (f.horizon i t h.0.0 h.0.1 h.0.2 h.0.3 h.1)
base_holds m p total (Path n) f some most h = absurd h
base_holds m p total (Cut n) f some most h = absurd h

pub row_holds : (m : Problem) (p : Plan) (total : ℕ → ℕ) (name : RowName) → IsFeasible m p → 1 ≤ m.periods → ((i : ℕ) → 1 ≤ i → i ≤ item_count m → sum_to m.periods (p.make i) ≤ total i) → HasRow m name → HoldsIn p (row_of m total name)
row_holds m p total name f some most h = subst (λ z. IsHeld (is_equality name) z (right_side m name *ℤ pos 1)) (sym (sum_some (value_in p) (all_terms m total name))) (base_holds m p total name f some most h)
