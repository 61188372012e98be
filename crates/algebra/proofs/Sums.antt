-- Finite sums over any commutative ring, and their order.
use Rattle.std.proofs.Common.{Bool, true, false, cond, ◌≡◌, ℕ, ◌+◌, ◌<◌, zero, suc, arith, ap, ◌∙◌, sym, refl, inl, inr}
use mathlib.Core.Bool.{not}
use mathlib.Core.Logic.{◌⊎◌, ◌≢◌}
use native.Mathlib.Nat.{add-zero, add-suc, le_refl, le_step, eq-or-lt_of_le}
use lib.IntN.{pos, ◌+ℤ◌}
use Rattle.std.proofs.lemmas.List.{take_more}
use mathlib.Core.List.{List, [], ◌∷◌, ◌++◌}
use lib.ListN.{length, get_or, take}
use Rattle.algebra.specs.Sums.{sum_with, list_sum_with}
use Rattle.algebra.proofs.Claims.{from, le2, le3, so}
use Rattle.algebra.proofs.Rings as C
use Rattle.algebra.proofs.Rings.{CommRing, int_ring, Expr, con, ◌⊕◌, ◌⊖◌, ◌⊗◌, ◌⊜◌, ring1, ring2, ring3, ring4, ring5}
use Rattle.algebra.proofs.Ordered as O
use Rattle.algebra.proofs.Ordered.{OrderedRing}

module _ {A : Type 0} (R : CommRing A) where
  open R use {add, mul, neg, of_int}

  abbrev pub sum : ℕ → (ℕ → A) → A
  sum n f = sum_with add (of_int (pos 0)) n f

  pub sum-same : (n : ℕ) (f g : ℕ → A) → ((i : ℕ) → i < n → f i ≡ g i) → sum n f ≡ sum n g
  sum-same zero f g h = refl
  sum-same (suc n) f g h = ap (λ x. add x (f n)) (sum-same n f g (λ i l. h i (le_step l))) ∙ ap (add (sum n g)) (h n (le_refl (suc n)))

  pub sum-zero : (n : ℕ) (f : ℕ → A) → ((i : ℕ) → i < n → f i ≡ of_int (pos 0)) → sum n f ≡ of_int (pos 0)
  sum-zero zero f h = refl
  sum-zero (suc n) f h = ap (λ x. add x (f n)) (sum-zero n f (λ i l. h i (le_step l))) ∙ R.zero_add (f n) ∙ h n (le_refl (suc n))

  pub sum-add : (n : ℕ) (f g : ℕ → A) → sum n (λ i. add (f i) (g i)) ≡ add (sum n f) (sum n g)
  sum-add zero f g = sym (R.zero_add _)
  sum-add (suc n) f g = ap (λ x. add x (add (f n) (g n))) (sum-add n f g) ∙ ring4 R (λ s t a b. s ⊕ t ⊕ (a ⊕ b) ⊜ s ⊕ a ⊕ (t ⊕ b)) refl (sum n f) (sum n g) (f n) (g n)

  pub sum-sub : (n : ℕ) (f g : ℕ → A) → sum n (λ i. add (f i) (neg (g i))) ≡ add (sum n f) (neg (sum n g))
  sum-sub zero f g = ring2 R (λ a b. con (pos 0) ⊜ con (pos 0) ⊖ con (pos 0)) refl (of_int (pos 0)) (of_int (pos 0))
  sum-sub (suc n) f g = ap (λ x. add x (add (f n) (neg (g n)))) (sum-sub n f g) ∙ ring4 R (λ s t a b. (s ⊖ t) ⊕ (a ⊖ b) ⊜ (s ⊕ a) ⊖ (t ⊕ b)) refl (sum n f) (sum n g) (f n) (g n)

  pub sum-scale : (n : ℕ) (c : A) (f : ℕ → A) → sum n (λ i. mul c (f i)) ≡ mul c (sum n f)
  sum-scale zero c f = sym (C.mul_zero R c)
  sum-scale (suc n) c f = ap (λ x. add x (mul c (f n))) (sum-scale n c f) ∙ sym (R.mul_add c (sum n f) (f n))

  pub sum-swap : (n m : ℕ) (f : ℕ → ℕ → A) → sum n (λ i. sum m (λ j. f i j)) ≡ sum m (λ j. sum n (λ i. f i j))
  sum-swap zero m f = sym (sum-zero m (λ j. of_int (pos 0)) (λ i l. refl))
  sum-swap (suc n) m f = ap (λ x. add x (sum m (λ j. f n j))) (sum-swap n m f) ∙ sym (sum-add m (λ j. sum n (λ i. f i j)) (λ j. f n j))

  pub sum-split : (m n : ℕ) (f : ℕ → A) → sum (m + n) f ≡ add (sum m f) (sum n (λ i. f (m + i)))
  sum-split m zero f = rw add-zero (sym (C.add_zero R (sum m f)))
  sum-split m (suc n) f = rw add-suc (ap (λ x. add x (f (m + n))) (sum-split m n f) ∙ R.add_assoc _ _ _)

  pub sum-change : (n k : ℕ) (f g : ℕ → A) → k < n → ((i : ℕ) → i < n → i ≢ k → f i ≡ g i) → add (sum n f) (g k) ≡ add (sum n g) (f k)
  sum-change zero k f g l h = absurd (omega arith)
  sum-change (suc n) k f g l h = by (eq-or-lt_of_le l) (sum-change n k f g)
    where
      by : (suc k ≡ suc n) ⊎ (suc k < suc n) → (k < n → ((i : ℕ) → i < n → i ≢ k → f i ≡ g i) → add (sum n f) (g k) ≡ add (sum n g) (f k)) → add (add (sum n f) (f n)) (g k) ≡ add (add (sum n g) (g n)) (f k)
      by (inl e) ih =
          let s : sum n f ≡ sum n g = sum-same n f g (λ i b. h i (le_step b) (omega arith)) in
          let q : k ≡ n = omega arith in
          rw (q, s) (ring3 R (λ s a b. s ⊕ a ⊕ b ⊜ s ⊕ b ⊕ a) refl (sum n g) (f n) (g n))
      by (inr m) ih =
          let s = ih (omega arith) (λ i b ne. h i (le_step b) ne) in
          let t : f n ≡ g n = h n (le_refl (suc n)) (omega arith) in
          ring3 R (λ s a b. s ⊕ a ⊕ b ⊜ s ⊕ b ⊕ a) refl (sum n f) (f n) (g k) ∙ ap (λ x. add x (f n)) s ∙ ap (add (add (sum n g) (f k))) t ∙ ring3 R (λ s a b. s ⊕ a ⊕ b ⊜ s ⊕ b ⊕ a) refl (sum n g) (f k) (g n)

  -- only the term at k is not zero
  pub sum-only : (n k : ℕ) (f : ℕ → A) → k < n → ((i : ℕ) → i < n → i ≢ k → f i ≡ of_int (pos 0)) → sum n f ≡ f k
  sum-only n k f l h =
      let z : ℕ → A = λ i. of_int (pos 0) in
      sym (C.add_zero R (sum n f)) ∙ sum-change n k f z l h ∙ ap (λ x. add x (f k)) (sum-zero n z (λ i b. refl)) ∙ R.zero_add (f k)

  pub sum-first : (n : ℕ) (f : ℕ → A) → sum (suc n) f ≡ add (f 0) (sum n (λ i. f (suc i)))
  sum-first zero f = R.add_comm _ _
  sum-first (suc n) f = ap (λ x. add x (f (suc n))) (sum-first n f) ∙ R.add_assoc (f 0) (sum n (λ i. f (suc i))) (f (suc n))

  pub sum-telescope : (n : ℕ) (f : ℕ → A) → sum n (λ i. add (f (suc i)) (neg (f i))) ≡ add (f n) (neg (f 0))
  sum-telescope zero f = ring1 R (λ a. con (pos 0) ⊜ a ⊖ a) refl (f 0)
  sum-telescope (suc n) f = ap (λ x. add x (add (f (suc n)) (neg (f n)))) (sum-telescope n f) ∙ ring3 R (λ a b c. (a ⊖ c) ⊕ (b ⊖ a) ⊜ b ⊖ c) refl (f n) (f (suc n)) (f 0)

  -- one pivot: a row times the pivot element, less a multiple of the pivot row
  abbrev pub dot : ℕ → (ℕ → A) → (ℕ → A) → A
  dot n f x = sum n (λ j. mul (f j) (x j))

  pub dot-combine : (n : ℕ) (row prow x : ℕ → A) (p a : A) → dot n (λ j. add (mul p (row j)) (neg (mul a (prow j)))) x ≡ add (mul p (dot n row x)) (neg (mul a (dot n prow x)))
  dot-combine n row prow x p a =
      sum-same n _ (λ j. add (mul p (mul (row j) (x j))) (neg (mul a (mul (prow j) (x j))))) (λ j l. ring5 R (λ p r a q x. (p ⊗ r ⊖ a ⊗ q) ⊗ x ⊜ p ⊗ (r ⊗ x) ⊖ a ⊗ (q ⊗ x)) refl p (row j) a (prow j) (x j))
      ∙ sum-sub n (λ j. mul p (mul (row j) (x j))) (λ j. mul a (mul (prow j) (x j)))
      ∙ ap (λ s. add s (neg (sum n (λ j. mul a (mul (prow j) (x j)))))) (sum-scale n p (λ j. mul (row j) (x j)))
      ∙ ap (λ s. add (mul p (dot n row x)) (neg s)) (sum-scale n a (λ j. mul (prow j) (x j)))

module _ {A : Type 0} (R : OrderedRing A) where
  open R use {add, mul, neg, of_int, le, ring}

  pub sum-le : (n : ℕ) (f g : ℕ → A) → ((i : ℕ) → i < n → le (f i) (g i)) → le (sum ring n f) (sum ring n g)
  sum-le zero f g h = R.le_refl _
  sum-le (suc n) f g h = O.add_le_both R _ _ _ _ (sum-le n f g (λ i l. h i (le_step l))) (h n (le_refl (suc n)))

  pub sum-nonneg : (n : ℕ) (f : ℕ → A) → ((i : ℕ) → i < n → le (of_int (pos 0)) (f i)) → le (of_int (pos 0)) (sum ring n f)
  sum-nonneg zero f h = R.le_refl _
  sum-nonneg (suc n) f h = O.add_nonneg R _ _ (sum-nonneg n f (λ i l. h i (le_step l))) (h n (le_refl (suc n)))

  -- a term is within a sum of terms that are not negative
  pub term-le-sum : (n k : ℕ) (f : ℕ → A) → k < n → ((i : ℕ) → i < n → le (of_int (pos 0)) (f i)) → le (f k) (sum ring n f)
  term-le-sum zero k f l h = absurd (omega arith)
  term-le-sum (suc n) k f l h = by (eq-or-lt_of_le l) (term-le-sum n k f)
    where
      by : (suc k ≡ suc n) ⊎ (suc k < suc n) → (k < n → ((i : ℕ) → i < n → le (of_int (pos 0)) (f i)) → le (f k) (sum ring n f)) → le (f k) (add (sum ring n f) (f n))
      by (inl e) ih =
          let q : k ≡ n = omega arith in
          rw q (le2 R (λ s x. from 1 (con (pos 0)) s (so x (s ⊕ x))) refl (sum ring n f) (f n) (sum-nonneg n f (λ i b. h i (le_step b))))
      by (inr m) ih =
          le3 R (λ a s x. from 1 a s (from 1 (con (pos 0)) x (so a (s ⊕ x)))) refl (f k) (sum ring n f) (f n) (ih (omega arith) (λ i b. h i (le_step b))) (h n (le_refl (suc n)))

  -- y · (A x) is (y A) · x
  pub dot-swap : (m n : ℕ) (a : ℕ → ℕ → A) (y x : ℕ → A) → dot ring m y (λ i. dot ring n (a i) x) ≡ dot ring n (λ j. sum ring m (λ i. mul (y i) (a i j))) x
  dot-swap m n a y x =
      sum-same ring m _ (λ i. sum ring n (λ j. mul (y i) (mul (a i j) (x j)))) (λ i l. sym (sum-scale ring n (y i) (λ j. mul (a i j) (x j))))
      ∙ sum-swap ring m n (λ i j. mul (y i) (mul (a i j) (x j)))
      ∙ sum-same ring n _ (λ j. mul (sum ring m (λ i. mul (y i) (a i j))) (x j)) (λ j l.
      sum-same ring m _ (λ i. mul (x j) (mul (y i) (a i j))) (λ i k. ring3 ring (λ y a x. y ⊗ (a ⊗ x) ⊜ x ⊗ (y ⊗ a)) refl (y i) (a i j) (x j))
      ∙ sum-scale ring m (x j) (λ i. mul (y i) (a i j)) ∙ R.mul_comm _ _)

  -- weak duality: y A ≤ c, A x ≡ b and 0 ≤ x give y b ≤ c x
  pub weak_duality : (m n : ℕ) (a : ℕ → ℕ → A) (b y c x : ℕ → A)
      → ((i : ℕ) → i < m → dot ring n (a i) x ≡ b i)
      → ((j : ℕ) → j < n → le (of_int (pos 0)) (x j))
      → ((j : ℕ) → j < n → le (sum ring m (λ i. mul (y i) (a i j))) (c j))
      → le (dot ring m y b) (dot ring n c x)
  weak_duality m n a b y c x rows above dual =
      let e : dot ring m y b ≡ dot ring n (λ j. sum ring m (λ i. mul (y i) (a i j))) x = sum-same ring m (λ i. mul (y i) (b i)) (λ i. mul (y i) (dot ring n (a i) x)) (λ i l. ap (mul (y i)) (sym (rows i l))) ∙ dot-swap m n a y x in
      rw e (sum-le n _ _ (λ j l. O.mul_le_right R (x j) _ _ (above j l) (dual j l)))

-- the terms whose index passes a test
module _ {A : Type 0} (R : CommRing A) where
  open R use {add, of_int}

  abbrev pub sum_where : ℕ → (ℕ → Bool) → (ℕ → A) → A
  sum_where n p f = sum R n (λ i. cond (p i) (f i) (of_int (pos 0)))

  pub sum_where-split : (n : ℕ) (p : ℕ → Bool) (f : ℕ → A) → add (sum_where n p f) (sum_where n (λ i. not (p i)) f) ≡ sum R n f
  sum_where-split zero p f = R.zero_add _
  sum_where-split (suc n) p f = by (p n) (sum_where-split n p f)
    where
      by : (t : Bool) → add (sum_where n p f) (sum_where n (λ i. not (p i)) f) ≡ sum R n f
          → add (add (sum_where n p f) (cond t (f n) (of_int (pos 0)))) (add (sum_where n (λ i. not (p i)) f) (cond (not t) (f n) (of_int (pos 0)))) ≡ add (sum R n f) (f n)
      by true h = ring3 R (λ s t x. s ⊕ x ⊕ (t ⊕ con (pos 0)) ⊜ s ⊕ t ⊕ x) refl (sum_where n p f) (sum_where n (λ i. not (p i)) f) (f n) ∙ ap (λ x. add x (f n)) h
      by false h = ring3 R (λ s t x. s ⊕ con (pos 0) ⊕ (t ⊕ x) ⊜ s ⊕ t ⊕ x) refl (sum_where n p f) (sum_where n (λ i. not (p i)) f) (f n) ∙ ap (λ x. add x (f n)) h

-- ---- over a list
module _ {A X : Type 0} (R : CommRing A) where
  open R use {add, of_int}

  abbrev pub list_sum : (X → A) → List X → A
  list_sum f xs = list_sum_with add (of_int (pos 0)) f xs

  pub list_sum-append : (f : X → A) (xs ys : List X) → list_sum f (xs ++ ys) ≡ add (list_sum f xs) (list_sum f ys)
  list_sum-append f [] ys = sym (R.zero_add (list_sum f ys))
  list_sum-append f (x ∷ xs) ys = ap (add (f x)) (list_sum-append f xs ys) ∙ sym (R.add_assoc (f x) (list_sum f xs) (list_sum f ys))

  -- the sum over the places of the list
  pub list_sum-places : (f : X → A) (xs : List X) (d : X) → list_sum f xs ≡ sum R (length xs) (λ i. f (get_or xs i d))
  list_sum-places f [] d = refl
  list_sum-places f (x ∷ xs) d = ap (add (f x)) (list_sum-places f xs d) ∙ sym (sum-first R (length xs) (λ i. f (get_or (x ∷ xs) i d)))

  -- a loop's step
  pub list_sum-more : (f : X → A) (xs : List X) (i : ℕ) (d : X) → i < length xs → list_sum f (take (i + 1) xs) ≡ add (list_sum f (take i xs)) (f (get_or xs i d))
  list_sum-more f xs i d l = rw (take_more xs i d l) (list_sum-append f (take i xs) (get_or xs i d ∷ []) ∙ ap (add (list_sum f (take i xs))) (C.add_zero R (f (get_or xs i d))))

-- a sum of naturals as one of integers
pub pos-sum : (n : ℕ) (f : ℕ → ℕ) → pos (sum_with ◌+◌ 0 n f) ≡ sum int_ring n (λ i. pos (f i))
pos-sum zero f = refl
pos-sum (suc n) f = ap (λ x. x +ℤ pos (f n)) (pos-sum n f)
