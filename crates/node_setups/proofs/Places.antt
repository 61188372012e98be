-- Lists of lists that are seen through a map, and what one change leaves of them.
use Rattle.std.specs.Prelude.{◌≡◌, ◌≢◌, ℕ, zero, suc, ◌+◌, ◌-◌, ◌<◌, ◌≤◌, List, [], ◌∷◌, ◌++◌, drop, length, replicate, Bool, true, false, ◌==◌, ◌&&◌, if◌then◌else◌, map, slice_index_or, slice_set, get_or}
use Rattle.std.proofs.Common.{◌∙◌, ap, arith, refl, sym, subst}
use Rattle.std.proofs.lemmas.List.{drop_all, map_push, replicate_more, get_or-map, get_or-replicate, length-replicate, get_or-set_other, get_or-set_same, length-set, map-set}
use Rattle.std.proofs.lemmas.Bool.{eqb-false, eqb-true}
use Rattle.node_setups.specs.Holding.{IsHeld, HasCell, IsPutOver, held_at, held_or, line_of, last_held, or_held, says, held_by, held_of, with_held}
use Rattle.std.proofs.Math.Seq.{drop-cons}
use Rattle.lin_rows.specs.declared.bound.Bound.{Bound}
use Rattle.lin_rows.specs.declared.column.Column.TheVariants.{Y}
use Rattle.node_setups.specs.declared.fixed.Held.{Held}
use Rattle.node_setups.specs.declared.fixed.Held.TheVariants.{AtLeastOne, AtMostZero, Free}

pub line_map : {X Y : Type 0} (f : X → List Y) (xs : List X) (i : ℕ) (d : X) → i < length xs → slice_index_or (map f xs) i [] ≡ f (get_or xs i d)
line_map f xs i d lt = get_or-map f xs i d [] lt

pub set_map : {X Y : Type 0} (f : X → List Y) (xs : List X) (i : ℕ) (x : X) → map f (slice_set xs i x) ≡ slice_set (map f xs) i (f x)
set_map f xs i x = map-set f xs i x

-- the first of three in an order
pub or_held_assoc : (a b c : Held) → or_held (or_held a b) c ≡ or_held a (or_held b c)
or_held_assoc Free b c = refl
or_held_assoc (AtLeastOne n) b c = refl
or_held_assoc (AtMostZero n) b c = refl

-- the line of another item, and of the same one
pub line_other : (lines : List (List Held)) (item period i : ℕ) (held : Held) → 1 ≤ i → 1 ≤ item → i ≢ item → line_of (with_held lines item period held) i ≡ line_of lines i
line_other lines item period i held low here apart = get_or-set_other lines (item - 1) (i - 1) _ [] (λ e. apart (omega (arith, e, low, here)))

pub line_same : (lines : List (List Held)) (item period : ℕ) (held : Held) → 1 ≤ item → item ≤ length lines → line_of (with_held lines item period held) item ≡ slice_set (line_of lines item) (period - 1) held
line_same lines item period held low high = get_or-set_same lines (item - 1) _ [] (omega (arith, low, high))

-- by cases of two tests
pub by_tests : {X : Type 0} (a b : Bool) (x y z : X) → (a ≡ true → b ≡ true → z ≡ x) → (a ≡ false → z ≡ y) → (a ≡ true → b ≡ false → z ≡ y) → z ≡ (if a && b then x else y)
by_tests true true x y z f g h = f refl refl
by_tests true false x y z f g h = h refl refl
by_tests false b x y z f g h = g refl

-- the same of equal numbers
pub by_places : {X : Type 0} (i item t period : ℕ) (x y z : X) → (i ≡ item → t ≡ period → z ≡ x) → (i ≢ item → z ≡ y) → (i ≡ item → t ≢ period → z ≡ y) → z ≡ (if (i == item) && (t == period) then x else y)
by_places i item t period x y z f g h =
    by_tests (i == item) (t == period) x y z
    (λ a b. f (eqb-true i item a) (eqb-true t period b))
    (λ a. g (eqb-false i item a))
    (λ a b. h (eqb-true i item a) (eqb-false t period b))

pub line_length : (lines : List (List Held)) (item period i : ℕ) (held : Held) (test : Bool) → (i == item) ≡ test → 1 ≤ i → 1 ≤ item → item ≤ length lines → length (line_of (with_held lines item period held) i) ≡ length (line_of lines i)
line_length lines item period i held true e low first last =
    subst (λ k. length (line_of (with_held lines item period held) k) ≡ length (line_of lines k)) (sym (eqb-true i item e))
    (ap length (line_same lines item period held first last) ∙ length-set (line_of lines item) (period - 1) held)
line_length lines item period i held false e low first last = ap length (line_other lines item period i held low first (eqb-false i item e))

pub held_same : (lines : List (List Held)) (item period : ℕ) (held : Held) → HasCell lines item period → held_at (with_held lines item period held) item period ≡ held
held_same lines item period held place =
    ap (λ line. slice_index_or line (period - 1) Free) (line_same lines item period held place.0 place.1) ∙ get_or-set_same (line_of lines item) (period - 1) held Free (omega (arith, place))

pub held_apart : (lines : List (List Held)) (item period t : ℕ) (held : Held) → HasCell lines item period → 1 ≤ t → t ≢ period → held_at (with_held lines item period held) item t ≡ held_at lines item t
held_apart lines item period t held place low apart =
    ap (λ line. slice_index_or line (t - 1) Free) (line_same lines item period held place.0 place.1) ∙ get_or-set_other (line_of lines item) (period - 1) (t - 1) held Free (λ same. apart (omega (arith, same, place, low)))

pub held_here : (lines : List (List Held)) (item period : ℕ) (held : Held) → HasCell lines item period → IsHeld lines item period held (with_held lines item period held)
held_here lines item period held place i t there = (
  (there.0, omega (arith, there, length-set lines (item - 1) (slice_set (line_of lines item) (period - 1) held)), there.2, omega (arith, there, line_length lines item period i held (i == item) refl there.0 place.0 place.1)),
  by_places i item t period held (held_at lines i t) (held_at (with_held lines item period held) i t)
      (λ a b. subst (λ k. held_at (with_held lines item period held) k t ≡ held) (sym a) (subst (λ k. held_at (with_held lines item period held) item k ≡ held) (sym b) (held_same lines item period held place)))
      (λ a. ap (λ line. slice_index_or line (t - 1) Free) (line_other lines item period i held there.0 place.0 a))
      (λ a b. subst (λ k. held_at (with_held lines item period held) k t ≡ held_at lines k t) (sym a) (held_apart lines item period t held place there.2 b)),
)

pub held_outside : (lines : List (List Held)) (item period : ℕ) (held : Held) → (HasCell lines item period → ⊥) → IsHeld lines item period held lines
held_outside lines item period held none i t there = (
  there,
  by_places i item t period held (held_at lines i t) (held_at lines i t)
      (λ a b. absurd (none (subst (λ k. HasCell lines k period) a (subst (λ k. HasCell lines i k) b there))))
      (λ a. refl)
      (λ a b. refl),
)

pub put_by_tests : (a b : Bool) (held before : Held) → or_held held before ≡ held → (if a && b then held else before) ≡ or_held (if a && b then held else Free) before
put_by_tests true true held before e = sym e
put_by_tests true false held before e = refl
put_by_tests false b held before e = refl

-- what a bound says of its own column, before what was said of each setup
pub put_held : (item period i t : ℕ) (held before : Held) → (held ≡ Free → ⊥) → held_or item period held i t before ≡ or_held (held_of (Y item period) held i t) before
put_held item period i t Free before some = absurd (some refl)
put_held item period i t (AtLeastOne n) before some = put_by_tests (i == item) (t == period) (AtLeastOne n) before refl
put_held item period i t (AtMostZero n) before some = put_by_tests (i == item) (t == period) (AtMostZero n) before refl

pub put_one : (item period : ℕ) (held : Held) (lines found : List (List Held)) → (held ≡ Free → ⊥) → IsHeld lines item period held found → IsPutOver (Y item period) held lines found
put_one item period held lines found some is i t place = ((is i t place).0, (is i t place).1 ∙ put_held item period i t held (held_at lines i t) some)

pub free_tests : (a b : Bool) (before : Held) → before ≡ or_held (if a && b then Free else Free) before
free_tests true true before = refl
free_tests true false before = refl
free_tests false b before = refl

pub put_none : (item period : ℕ) (lines : List (List Held)) → IsPutOver (Y item period) Free lines lines
put_none item period lines i t place = (place, free_tests (i == item) (t == period) (held_at lines i t))

-- one line more
pub lines_more : {X Y : Type 0} (f : X → Y) (xs : List X) (x : X) (n : ℕ) (y : Y) → map f xs ≡ replicate n y → f x ≡ y → map f (xs ++ (x ∷ [])) ≡ replicate (n + 1) y
lines_more f xs x n y e g = map_push f xs x ∙ ap (λ ys. ys ++ (f x ∷ [])) e ∙ ap (λ z. replicate n y ++ (z ∷ [])) g ∙ replicate_more n y

pub or_held_free : (held : Held) → or_held held Free ≡ held
or_held_free Free = refl
or_held_free (AtLeastOne n) = refl
or_held_free (AtMostZero n) = refl

-- before the first bound nothing is said
pub put_first : (items periods : ℕ) (path : List Bound) (i t : ℕ) → 1 ≤ i → i ≤ items → 1 ≤ t → t ≤ periods → HasCell (replicate items (replicate periods Free)) i t × (or_held (last_held path 1 i t) (held_at (replicate items (replicate periods Free)) i t) ≡ last_held path 1 i t)
put_first items periods path i t a b c d = (
  (a, omega (arith, b, length-replicate items (replicate periods Free)), c, omega (arith, d, ap length line, length-replicate periods Free)),
  ap (or_held (last_held path 1 i t)) (ap (λ l. slice_index_or l (t - 1) Free) line ∙ get_or-replicate periods (t - 1) Free Free (omega (arith, c, d))) ∙ or_held_free (last_held path 1 i t),
)
  where
    line : line_of (replicate items (replicate periods Free)) i ≡ replicate periods Free
    line = get_or-replicate items (i - 1) (replicate periods Free) [] (omega (arith, a, b))

-- one bound more
pub put_next : (path : List Bound) (k i t : ℕ) (d : Bound) (before after all : Held) → k < length path → or_held (last_held (drop k path) (k + 1) i t) before ≡ all → after ≡ or_held (says (get_or path k d) (k + 1) i t) before → or_held (last_held (drop (k + 1) path) (k + 1 + 1) i t) after ≡ all
put_next path k i t d before after all lt e f =
    ap (or_held rest) f ∙ sym (or_held_assoc rest (says (get_or path k d) (k + 1) i t) before) ∙ ap (λ bs. or_held (last_held bs (k + 1) i t) before) (sym (drop-cons path k d lt ∙ ap (λ n. get_or path k d ∷ drop n path) next)) ∙ e
  where
    rest : Held
    rest = last_held (drop (k + 1) path) (k + 1 + 1) i t

    next : suc k ≡ k + 1
    next = omega arith

-- the same where the element is given by another name
pub put_after : (path : List Bound) (k number i t : ℕ) (d b : Bound) (lines found : List (List Held)) (all : Held) → k < length path → number ≡ k + 1 → b ≡ get_or path k d → IsPutOver b.column (held_by b.most b.number number) lines found → HasCell lines i t → or_held (last_held (drop k path) (k + 1) i t) (held_at lines i t) ≡ all → HasCell found i t × (or_held (last_held (drop (k + 1) path) (k + 1 + 1) i t) (held_at found i t) ≡ all)
put_after path k number i t d b lines found all lt num same put place e = (
  (put i t place).0,
  put_next path k i t d (held_at lines i t) (held_at found i t) all lt e
      (subst (λ c. held_at found i t ≡ or_held (says c (k + 1) i t) (held_at lines i t)) same
      (subst (λ n. held_at found i t ≡ or_held (says b n i t) (held_at lines i t)) num (put i t place).1)),
)

-- after the last bound nothing more is said
pub put_last : (path : List Bound) (k i t : ℕ) (before all : Held) → length path ≤ k → or_held (last_held (drop k path) (k + 1) i t) before ≡ all → before ≡ all
put_last path k i t before all past e = subst (λ bs. or_held (last_held bs (k + 1) i t) before ≡ all) (drop_all k path past) e
