-- Why the balances of an item without room, and its largest end stock, can't hold together.
use Rattle.std.proofs.Common.{◌≡◌, ◌≤◌, ◌<◌, ◌+◌, ◌-◌, ◌*◌, ◌^◌, ◌∙◌, ⊎_elim, ℕ, zero, suc, refl, sym, ap, subst, arith, Bool, true, false, List, [], ◌∷◌, ◌++◌}
use Rattle.std.specs.Prelude.{if◌then◌else◌, ◌&&◌, ◌==◌, nat_le, nat_lt, is_some, None, ℤ, pos, negsuc, neg_ℤ, ◌+ℤ◌, ◌-ℤ◌, ◌*ℤ◌, ◌≤ℤ◌, ◌<ℤ◌, unsigned_abs}
use Rattle.std.specs.List.{sum_by}
use Rattle.std.proofs.lemmas.Bool.{cases_Bool, cases_lt, le-ltb}
use Rattle.std.proofs.lemmas.Int.{ints}
use Rattle.std.proofs.lemmas.List.Elements.{All-nil, All-push}
use Rattle.algebra.proofs.Integers.{add_assoc, add_zero, minus_one, one_mul, zero_add}
use Rattle.algebra.proofs.Order.{linear}
use Rattle.lot_sizing.specs.Sums.{sum_to}
use Rattle.lot_sizing.specs.Problem.{IsUncoupled, IsWithinLimits, Problem, demand, item_at, item_count, per_unit}
use Rattle.lin_rows.specs.declared.column.Column.{Column}
use Rattle.lin_rows.specs.declared.column.Column.TheVariants.{X, S, R}
use Rattle.lin_rows.specs.declared.row.Term.{Term}
use Rattle.lin_rows.specs.declared.base.RowName.TheVariants.{Balance, EndMax}
use Rattle.lin_rows.specs.Base.{all_terms, arrives_now, earlier_terms, is_owing, is_some_term, made_terms, opening_at, owing_terms, right_side, row_of, some_terms, stock_terms, term, terms_to}
use Rattle.lin_rows.specs.Combining.{sum_of}
use Rattle.lin_rows.specs.Rows.{LinRow}
use Rattle.lin_rows.specs.Sums.{coefficient, same_column}
use Rattle.lin_rows.proofs.Below.{coefficient_append}
use Rattle.round_cuts.specs.Rounding.{amount_of}
use Rattle.cert_lines.specs.declared.parts.Part.{Part}
use Rattle.cert_meaning.specs.declared.says.LeafSays.TheVariants.{NoPlan}
use Rattle.cert_meaning.specs.Named.{Named, names, row_named}
use Rattle.cert_meaning.specs.Parts.{AreParts, AreSmall, IsPart, rows_of, times_of}
use Rattle.cert_meaning.specs.Says.{IsFarkas}
use Rattle.uncoupled.specs.Items.{HasNoRoom}
use Rattle.cert_checker.specs.Checks.{IsCertified}
use Rattle.uncoupled.specs.NoRoom.{balances, no_room_parts, no_room_shape, part}

-- ---- sums of parts
abbrev sum_at : Named → List Part → (LinRow → ℤ) → ℤ
sum_at n parts f = sum_of (rows_of n parts) (times_of parts) f

abbrev amount_at : Named → List Part → (LinRow → ℤ) → ℕ
amount_at n parts f = amount_of (rows_of n parts) (times_of parts) f

-- one more part
sum_more : (n : Named) (f : LinRow → ℤ) (parts : List Part) (a : Part) → sum_at n (parts ++ (a ∷ [])) f ≡ sum_at n parts f +ℤ a.times *ℤ f (row_named n a.row)
sum_more n f [] a = add_zero (a.times *ℤ f (row_named n a.row)) ∙ sym (zero_add (a.times *ℤ f (row_named n a.row)))
sum_more n f (p ∷ parts) a =
    ap (λ x. p.times *ℤ f (row_named n p.row) +ℤ x) (sum_more n f parts a)
    ∙ sym (add_assoc (p.times *ℤ f (row_named n p.row)) (sum_at n parts f) (a.times *ℤ f (row_named n a.row)))

amount_more : (n : Named) (f : LinRow → ℤ) (parts : List Part) (a : Part) → amount_at n (parts ++ (a ∷ [])) f ≡ amount_at n parts f + unsigned_abs (a.times *ℤ f (row_named n a.row))
amount_more n f [] a = omega arith
amount_more n f (p ∷ parts) a = omega (arith, amount_more n f parts a)

minus : (z : ℤ) → negsuc 0 *ℤ z ≡ neg_ℤ z
minus z = sym (add_zero (negsuc 0 *ℤ z)) ∙ minus_one z

abs_most : (z : ℤ) (k : ℕ) → z ≤ℤ pos k → neg_ℤ (pos k) ≤ℤ z → unsigned_abs z ≤ k
abs_most (pos n) k high low = omega (arith, ints)
abs_most (negsuc n) k high low = omega (arith, ints)

-- ---- how often terms take a column
-- terms that are 0 times their column take none of it
none_added : (z : ℤ) (b : Bool) → is_some_term z ≡ false → (if b then z else pos 0) ≡ pos 0
none_added (pos zero) true none = refl
none_added (pos zero) false none = refl
none_added (pos (suc n)) b none = cc none
none_added (negsuc n) b none = cc none

some_take : (ts : List Term) (c : Column) → coefficient (some_terms ts) c ≡ coefficient ts c
some_take [] c = refl
some_take (a ∷ ts) c =
    ⊎_elim
    (λ some. rw some (ap (λ z. (if same_column a.column c then a.times else pos 0) +ℤ z) (some_take ts c)))
    (λ none. rw none (some_take ts c ∙ sym (zero_add (coefficient ts c)) ∙ ap (λ z. z +ℤ coefficient ts c) (sym (none_added a.times (same_column a.column c) none))))
    (cases_Bool (is_some_term a.times))

-- of a column, what a period's stock takes, what its backlog takes, and what lots give
abbrev stocked : ℕ → ℕ → Column → ℤ
stocked i t c = coefficient (stock_terms i t (pos 1)) c

abbrev owed : Problem → ℕ → ℕ → Column → ℤ
owed m i t c = coefficient (owing_terms m i t (pos 1)) c

abbrev made : Problem → ℕ → ℕ → ℕ → Column → ℤ
made m i t n c = coefficient (terms_to n (made_terms m i t)) c

-- from 0 to 1
abbrev IsUnit : ℤ → Type 0
IsUnit z = (pos 0 ≤ℤ z) × (z ≤ℤ pos 1)

unit_taken : (b : Bool) (z : ℤ) → IsUnit z → IsUnit ((if b then z else pos 0) +ℤ pos 0)
unit_taken true z is = (omega (arith, linear, is.0), omega (arith, linear, is.1))
unit_taken false z is = (omega (arith, linear), omega (arith, linear))

one_is : IsUnit (pos 1)
one_is = (omega (arith, linear), omega (arith, linear))

none_is : IsUnit (pos 0)
none_is = (omega (arith, linear), omega (arith, linear))

less_taken : (b : Bool) → (if b then negsuc 0 else pos 0) +ℤ pos 0 ≡ neg_ℤ ((if b then pos 1 else pos 0) +ℤ pos 0)
less_taken true = refl
less_taken false = refl

stock_less : (i t : ℕ) (c : Column) → coefficient (stock_terms i t (negsuc 0)) c ≡ neg_ℤ (stocked i t c)
stock_less i zero c = refl
stock_less i (suc t) c = less_taken (same_column (S i (suc t)) c)

stock_unit : (i t : ℕ) (c : Column) → IsUnit (stocked i t c)
stock_unit i zero c = none_is
stock_unit i (suc t) c = unit_taken (same_column (S i (suc t)) c) (pos 1) one_is

owing_less : (b : Bool) (i t : ℕ) (c : Column) → coefficient (if b then term (R i t) (negsuc 0) ∷ [] else []) c ≡ neg_ℤ (coefficient (if b then term (R i t) (pos 1) ∷ [] else []) c)
owing_less true i t c = less_taken (same_column (R i t) c)
owing_less false i t c = refl

owing_unit : (b : Bool) (i t : ℕ) (c : Column) → IsUnit (coefficient (if b then term (R i t) (pos 1) ∷ [] else []) c)
owing_unit true i t c = unit_taken (same_column (R i t) c) (pos 1) one_is
owing_unit false i t c = none_is

-- a balance takes what lots give, the stock before and the backlog, less the stock and the backlog before
balance_takes : (m : Problem) (total : ℕ → ℕ) (i t : ℕ) (c : Column) → coefficient (row_of m total (Balance i t)).terms c ≡ made m i t (item_count m) c +ℤ ((stocked i (t - 1) c -ℤ stocked i t c) +ℤ (owed m i t c -ℤ owed m i (t - 1) c))
balance_takes m total i t c =
    let lots = terms_to (item_count m) (made_terms m i t) in
    let before = stock_terms i (t - 1) (pos 1) in
    let after = stock_terms i t (negsuc 0) in
    let owed_before = owing_terms m i (t - 1) (negsuc 0) in
    let owed_after = owing_terms m i t (pos 1) in
    omega (
      arith,
      linear,
      some_take (all_terms m total (Balance i t)) c,
      coefficient_append lots (before ++ (after ++ (owed_before ++ owed_after))) c,
      coefficient_append before (after ++ (owed_before ++ owed_after)) c,
      coefficient_append after (owed_before ++ owed_after) c,
      coefficient_append owed_before owed_after c,
      stock_less i t c,
      owing_less (is_owing m i (t - 1)) i (t - 1) c,
    )

-- ---- lots of an uncoupled problem
earlier_none : (m : Problem) (i t : ℕ) → (item_at m i).lead ≡ 0 → earlier_terms m i t ≡ []
earlier_none m i t now =
    ap (λ b. if b then term (X i (t - (item_at m i).lead)) (pos 1) ∷ [] else []) (ap (λ lead. nat_le 1 lead && nat_lt lead t) now)

either_none : (b : Bool) (ts : List Term) → ts ≡ [] → (if b then ts else []) ≡ []
either_none true ts none = none
either_none false ts none = refl

arrives_few : (a b : Bool) → (if a then (if b then 1 else 0) else 0) ≤ 1
arrives_few true true = omega arith
arrives_few true false = omega arith
arrives_few false b = omega arith

none_needed : (m : Problem) (i j : ℕ) → IsUncoupled m → 1 ≤ j → j ≤ item_count m → per_unit m i j ≡ 0
none_needed m i j apart low high = ap (sum_by (λ need. if need.item == i then need.quantity else 0)) (apart.needs j low high)

lot_unit : (m : Problem) (i t j : ℕ) (c : Column) → (item_at m i).lead ≡ 0 → per_unit m i j ≡ 0 → IsUnit (coefficient (made_terms m i t j) c)
lot_unit m i t j c now none =
    let few : arrives_now m i j ≤ 1 = arrives_few ((item_at m i).lead == 0) (i == j) in
    let times = pos (arrives_now m i j) -ℤ pos (per_unit m i j) in
    let unit : IsUnit times = (omega (arith, linear, none), omega (arith, linear, few, none)) in
    let one = term (X j t) times ∷ [] in
    let e : made_terms m i t j ≡ one = ap (λ ts. ts ++ one) (either_none (i == j) (earlier_terms m i t) (earlier_none m i t now)) in
    subst (λ ts. IsUnit (coefficient ts c)) (sym e) (unit_taken (same_column (X j t) c) times unit)

-- an item that has no room, in an uncoupled problem
record Ground (m : Problem) (i : ℕ) : Type 0 where
  limits : IsWithinLimits m
  apart : IsUncoupled m
  none : HasNoRoom m i

lots_few : (m : Problem) (i t n : ℕ) (c : Column) → Ground m i → n ≤ item_count m → (pos 0 ≤ℤ made m i t n c) × (made m i t n c ≤ℤ pos n)
lots_few m i t zero c g high = (omega (arith, linear), omega (arith, linear))
lots_few m i t (suc n) c g high =
    let e = coefficient_append (terms_to n (made_terms m i t)) (made_terms m i t (suc n)) c in
    let before = lots_few m i t n c g (omega (arith, high)) in
    let one = lot_unit m i t (suc n) c (g.apart.plain i g.none.low g.none.high).lead (none_needed m i (suc n) g.apart (omega arith) high) in
    (omega (arith, linear, e, before.0, one.0), omega (arith, linear, e, before.1, one.1))

-- ---- the columns
abbrev plain : Problem → (ℕ → ℕ) → Named
plain m total = names m total [] []

abbrev taking : Column → LinRow → ℤ
taking c r = coefficient r.terms c

-- the balances so far take no more of a column than the last stock does, less the last backlog
below : (m : Problem) (total : ℕ → ℕ) (i t : ℕ) (c : Column) → Ground m i → sum_at (plain m total) (balances i t) (taking c) ≤ℤ (stocked i t c -ℤ owed m i t c)
below m total i zero c g = omega (arith, linear)
below m total i (suc t) c g =
    let e : suc t - 1 ≡ t = omega arith in
    omega (
      arith,
      linear,
      below m total i t c g,
      sum_more (plain m total) (taking c) (balances i t) (part (Balance i (suc t)) (negsuc 0)),
      minus (coefficient (row_of m total (Balance i (suc t))).terms c),
      balance_takes m total i (suc t) c,
      ap (λ k. stocked i k c) e,
      ap (λ k. owed m i k c) e,
      (lots_few m i (suc t) (item_count m) c g (omega arith)).0,
    )

-- each takes a column a few times
balance_few : (m : Problem) (total : ℕ → ℕ) (i t : ℕ) (c : Column) → Ground m i → unsigned_abs (negsuc 0 *ℤ coefficient (row_of m total (Balance i t)).terms c) ≤ 42
balance_few m total i t c g =
    let z = coefficient (row_of m total (Balance i t)).terms c in
    let takes = balance_takes m total i t c in
    let lots = lots_few m i t (item_count m) c g (omega arith) in
    let before = stock_unit i (t - 1) c in
    let after = stock_unit i t c in
    let owed_before = owing_unit (is_owing m i (t - 1)) i (t - 1) c in
    let owed_after = owing_unit (is_owing m i t) i t c in
    let few = g.limits.items in
    abs_most (negsuc 0 *ℤ z) 42
    (omega (arith, linear, minus z, takes, lots.0, before.0, after.1, owed_before.1, owed_after.0))
    (omega (arith, linear, minus z, takes, lots.1, before.1, after.0, owed_before.0, owed_after.1, few))

amounts_few : (m : Problem) (total : ℕ → ℕ) (i t : ℕ) (c : Column) → Ground m i → amount_at (plain m total) (balances i t) (taking c) ≤ 42 * t
amounts_few m total i zero c g = omega arith
amounts_few m total i (suc t) c g =
    omega (arith, amounts_few m total i t c g, amount_more (plain m total) (taking c) (balances i t) (part (Balance i (suc t)) (negsuc 0)), balance_few m total i (suc t) c g)

-- no backlog of the last period is a column
and_false : (a : Bool) → (a && false) ≡ false
and_false true = refl
and_false false = refl

none_last : (t : ℕ) (a b : Bool) → (a && (nat_lt t t && b)) ≡ false
none_last t a b = ap (λ x. a && (x && b)) (le-ltb t t (omega arith)) ∙ and_false a

owed_last : (m : Problem) (i : ℕ) (c : Column) → owed m i m.periods c ≡ pos 0
owed_last m i c =
    ap (λ b. coefficient (if b then term (R i m.periods) (pos 1) ∷ [] else []) c) (none_last m.periods (nat_le 1 m.periods) (is_some (item_at m i).backlog_cost))

end_takes : (i t : ℕ) (c : Column) → 1 ≤ t → coefficient (term (S i t) (negsuc 0) ∷ []) c ≡ neg_ℤ (stocked i t c)
end_takes i zero c some = absurd (omega (arith, some))
end_takes i (suc t) c some = less_taken (same_column (S i (suc t)) c)

columns : (m : Problem) (total : ℕ → ℕ) (i : ℕ) (c : Column) → Ground m i → sum_at (plain m total) (no_room_parts m.periods i) (taking c) ≤ℤ pos 0
columns m total i c g =
    omega (
      arith,
      linear,
      below m total i m.periods c g,
      sum_more (plain m total) (taking c) (balances i m.periods) (part (EndMax i) (pos 1)),
      one_mul (coefficient (term (S i m.periods) (negsuc 0) ∷ []) c),
      end_takes i m.periods c g.limits.some_period,
      owed_last m i c,
    )

columns_small : (m : Problem) (total : ℕ → ℕ) (i : ℕ) (c : Column) → Ground m i → amount_at (plain m total) (no_room_parts m.periods i) (taking c) < 2 ^ 127
columns_small m total i c g =
    let z = coefficient (term (S i m.periods) (negsuc 0) ∷ []) c in
    let unit = stock_unit i m.periods c in
    let is = end_takes i m.periods c g.limits.some_period in
    let one : unsigned_abs (pos 1 *ℤ z) ≤ 1 = abs_most (pos 1 *ℤ z) 1 (omega (arith, linear, one_mul z, is, unit.0)) (omega (arith, linear, one_mul z, is, unit.1)) in
    omega (arith, amounts_few m total i m.periods c g, amount_more (plain m total) (taking c) (balances i m.periods) (part (EndMax i) (pos 1)), one, g.limits.periods)

-- ---- the right sides
abbrev right_of : LinRow → ℤ
right_of r = r.right

-- the opening stock once the first period is past
abbrev began : Problem → ℕ → ℕ → ℕ
began m i zero = 0
began m i (suc t) = (item_at m i).opening

began_next : (m : Problem) (i t : ℕ) → began m i (suc t) ≡ began m i t + opening_at m i t
began_next m i zero = omega arith
began_next m i (suc t) = omega arith

began_last : (m : Problem) (i t : ℕ) → 1 ≤ t → began m i t ≡ (item_at m i).opening
began_last m i zero some = absurd (omega (arith, some))
began_last m i (suc t) some = refl

rights : (m : Problem) (total : ℕ → ℕ) (i t : ℕ) → sum_at (plain m total) (balances i t) right_of +ℤ pos (sum_to t (demand m i)) ≡ pos (began m i t)
rights m total i zero = refl
rights m total i (suc t) =
    let e : suc t - 1 ≡ t = omega arith in
    omega (
      arith,
      linear,
      rights m total i t,
      sum_more (plain m total) right_of (balances i t) (part (Balance i (suc t)) (negsuc 0)),
      minus (right_side m (Balance i (suc t))),
      ap (opening_at m i) e,
      began_next m i t,
    )

apart_few : (a b : ℕ) → unsigned_abs (negsuc 0 *ℤ (pos a -ℤ pos b)) ≤ a + b
apart_few a b =
    let z = pos a -ℤ pos b in
    abs_most (negsuc 0 *ℤ z) (a + b) (omega (arith, linear, minus z)) (omega (arith, linear, minus z))

rights_few : (m : Problem) (total : ℕ → ℕ) (i t : ℕ) → amount_at (plain m total) (balances i t) right_of ≤ sum_to t (demand m i) + began m i t
rights_few m total i zero = omega arith
rights_few m total i (suc t) =
    let e : suc t - 1 ≡ t = omega arith in
    omega (
      arith,
      rights_few m total i t,
      amount_more (plain m total) right_of (balances i t) (part (Balance i (suc t)) (negsuc 0)),
      apart_few (demand m i (suc t)) (opening_at m i (suc t - 1)),
      ap (opening_at m i) e,
      began_next m i t,
    )

-- more is left than the end allows
left : (m : Problem) (i : ℕ) → Ground m i → sum_to m.periods (demand m i) + (item_at m i).end_max < (item_at m i).opening
left m i g = ⊎_elim (λ more. more) (λ room. absurd (g.none.no_room room)) (cases_lt (sum_to m.periods (demand m i) + (item_at m i).end_max) (item_at m i).opening)

right : (m : Problem) (total : ℕ → ℕ) (i : ℕ) → Ground m i → pos 0 <ℤ sum_at (plain m total) (no_room_parts m.periods i) right_of
right m total i g =
    omega (
      arith,
      linear,
      rights m total i m.periods,
      sum_more (plain m total) right_of (balances i m.periods) (part (EndMax i) (pos 1)),
      one_mul (neg_ℤ (pos (item_at m i).end_max)),
      began_last m i m.periods g.limits.some_period,
      left m i g,
    )

right_small : (m : Problem) (total : ℕ → ℕ) (i : ℕ) → Ground m i → amount_at (plain m total) (no_room_parts m.periods i) right_of < 2 ^ 127
right_small m total i g =
    let most = (item_at m i).end_max in
    let z = neg_ℤ (pos most) in
    let end : unsigned_abs (pos 1 *ℤ z) ≤ most = abs_most (pos 1 *ℤ z) most (omega (arith, linear, one_mul z)) (omega (arith, linear, one_mul z)) in
    omega (
      arith,
      rights_few m total i m.periods,
      amount_more (plain m total) right_of (balances i m.periods) (part (EndMax i) (pos 1)),
      end,
      began_last m i m.periods g.limits.some_period,
      left m i g,
      (g.limits.each_item i g.none.low g.none.high).opening,
    )

-- ---- the certificate
balances_exist : (m : Problem) (total : ℕ → ℕ) (i t : ℕ) → Ground m i → t ≤ m.periods → AreParts (plain m total) (balances i t)
balances_exist m total i zero g high = All-nil (IsPart (plain m total))
balances_exist m total i (suc t) g high =
    All-push (IsPart (plain m total)) (balances i t) (part (Balance i (suc t)) (negsuc 0)) (balances_exist m total i t g (omega (arith, high)))
    (record { named = (g.none.low, g.none.high, omega arith, high); signed = λ free. cc free })

parts_exist : (m : Problem) (total : ℕ → ℕ) (i : ℕ) → Ground m i → AreParts (plain m total) (no_room_parts m.periods i)
parts_exist m total i g =
    All-push (IsPart (plain m total)) (balances i m.periods) (part (EndMax i) (pos 1)) (balances_exist m total i m.periods g (omega arith))
    (record { named = (g.none.low, g.none.high); signed = λ free. omega (arith, linear) })

refuted : (m : Problem) (total : ℕ → ℕ) (i : ℕ) → Ground m i → IsFarkas (plain m total) (no_room_parts m.periods i)
refuted m total i g = record { parts_exist = parts_exist m total i g; columns = λ c is. columns m total i c g; right = right m total i g }

small : (m : Problem) (total : ℕ → ℕ) (i : ℕ) → Ground m i → AreSmall (plain m total) (no_room_parts m.periods i)
small m total i g = record { columns = λ c. columns_small m total i c g; right = right_small m total i g }

pub no_room_certified : (m : Problem) (total : ℕ → ℕ) (weight : ℕ → ℕ → ℕ) (i : ℕ) → IsWithinLimits m → IsUncoupled m → HasNoRoom m i → IsCertified m total weight (no_room_shape m i) None
no_room_certified m total weight i limits apart none =
    let g : Ground m i = record { limits = limits; apart = apart; none = none } in
    record {
      accepted = record { rows = []; cuts = tt; tree = tt; leaves = (NoPlan, refuted m total i g, tt); plan = tt };
      fits = record { cuts = tt; leaves = small m total i g };
      plan = tt;
    }
