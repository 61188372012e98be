-- A solver for equations between polynomials over any commutative ring, as ℤ or the rationals.
use Rattle.std.proofs.Common.{◌≡◌, ℕ, zero, suc, ap, ◌∙◌, sym, refl, List, [], ◌∷◌, Bool, true, false, eqb, ltb, eqb→eq}
use lib.Dec.{T}
use mathlib.Core.Path.{subst}
use lib.IntN.{ℤ, pos, negsuc, ◌+ℤ◌, ◌*ℤ◌, neg_ℤ}
use Rattle.algebra.proofs.Integers as Z

pub record CommRing (A : Type 0) : Type 0 where
  pub add : A → A → A
  pub mul : A → A → A
  pub neg : A → A
  pub of_int : ℤ → A
  pub add_comm : (a b : A) → add a b ≡ add b a
  pub add_assoc : (a b c : A) → add (add a b) c ≡ add a (add b c)
  pub zero_add : (a : A) → add (of_int (pos 0)) a ≡ a
  pub neg_add : (a : A) → add (neg a) a ≡ of_int (pos 0)
  pub mul_comm : (a b : A) → mul a b ≡ mul b a
  pub mul_assoc : (a b c : A) → mul (mul a b) c ≡ mul a (mul b c)
  pub one_mul : (a : A) → mul (of_int (pos 1)) a ≡ a
  pub mul_add : (a b c : A) → mul a (add b c) ≡ add (mul a b) (mul a c)
  pub of_add : (m n : ℤ) → of_int (m +ℤ n) ≡ add (of_int m) (of_int n)
  pub of_mul : (m n : ℤ) → of_int (m *ℤ n) ≡ mul (of_int m) (of_int n)

abbrev pub int_ring : CommRing ℤ
int_ring = record { add = ◌+ℤ◌; mul = ◌*ℤ◌; neg = neg_ℤ; of_int = λ n. n; add_comm = Z.add_comm; add_assoc = Z.add_assoc; zero_add = Z.zero_add; neg_add = Z.neg_add; mul_comm = Z.mul_comm; mul_assoc = Z.mul_assoc; one_mul = Z.one_mul; mul_add = Z.mul_add; of_add = λ m n. refl; of_mul = λ m n. refl }

infixl 6 ◌⊕◌ ◌⊖◌
infixl 7 ◌⊗◌
pub data Expr : Type 0 where
  var : ℕ → Expr
  con : ℤ → Expr
  ◌⊕◌ : Expr → Expr → Expr
  ◌⊖◌ : Expr → Expr → Expr
  ◌⊗◌ : Expr → Expr → Expr

pub data Equation : Type 0 where
  ◌⊜◌ : Expr → Expr → Equation

infix 5 ◌⊜◌
-- a product of variables, in order
abbrev pub Mono : Type 0
Mono = List ℕ

pub data Poly : Type 0 where
  none : Poly
  more : ℤ → Mono → Poly → Poly

pub data Order : Type 0 where
  less same greater : Order

abbrev pub compare_mono : Mono → Mono → Order
compare_mono [] [] = same
compare_mono [] (j ∷ n) = less
compare_mono (i ∷ m) [] = greater
compare_mono (i ∷ m) (j ∷ n) = elim (ltb i j) [ true ↦ less | false ↦ elim (eqb i j) [ true ↦ compare_mono m n | false ↦ greater ] ]

abbrev pub put_var : ℕ → Mono → Mono
put_var i [] = i ∷ []
put_var i (j ∷ m) = elim (ltb j i) [ true ↦ j ∷ put_var i m | false ↦ i ∷ j ∷ m ]

abbrev pub times_mono : Mono → Mono → Mono
times_mono [] n = n
times_mono (i ∷ m) n = put_var i (times_mono m n)

abbrev pub put_term : ℤ → Mono → Poly → Poly
put_term c m none = more c m none
put_term c m (more d n p) = elim (compare_mono m n) [ less ↦ more c m (more d n p) | same ↦ more (c +ℤ d) m p | greater ↦ more d n (put_term c m p) ]

abbrev pub plus : Poly → Poly → Poly
plus none q = q
plus (more c m p) q = put_term c m (plus p q)

abbrev pub times_term : ℤ → Mono → Poly → Poly → Poly
times_term c m none r = r
times_term c m (more d n q) r = put_term (c *ℤ d) (times_mono m n) (times_term c m q r)

abbrev pub times : Poly → Poly → Poly
times none q = none
times (more c m p) q = times_term c m q (times p q)

abbrev pub norm : Expr → Poly
norm (var i) = more (pos 1) (i ∷ []) none
norm (con n) = more n [] none
norm (a ⊕ b) = plus (norm a) (norm b)
norm (a ⊖ b) = plus (norm a) (times_term (negsuc 0) [] (norm b) none)
norm (a ⊗ b) = times (norm a) (norm b)

abbrev pub is_zero : ℤ → Bool
is_zero (pos n) = eqb n 0
is_zero (negsuc n) = false

-- the terms whose coefficient is not 0
abbrev pub nonzero : Poly → Poly
nonzero none = none
nonzero (more c m p) = elim (is_zero c) [ true ↦ nonzero p | false ↦ more c m (nonzero p) ]

-- what the two sides differ by: `solve` wants that it is `none`, and a refusal shows it
abbrev pub residue : Equation → Poly
residue (a ⊜ b) = nonzero (norm (a ⊖ b))

eqb_true : (m n : ℕ) → eqb m n ≡ true → m ≡ n
eqb_true m n e = eqb→eq m n (subst T (sym e) tt)

same-out : (m n : Mono) → compare_mono m n ≡ same → m ≡ n
same-out [] [] e = refl
same-out [] (j ∷ n) e = cc
same-out (i ∷ m) [] e = cc
same-out (i ∷ m) (j ∷ n) e = by (ltb i j) (same-out m n) e
  where
    by_eq : (t : Bool) → eqb i j ≡ t → (compare_mono m n ≡ same → m ≡ n) → (elim t as (λ x. Order) [ true ↦ compare_mono m n | false ↦ greater ]) ≡ same → (i ∷ m) ≡ (j ∷ n)
    by_eq true q h f = cc (eqb_true i j q, h f)
    by_eq false q h f = cc

    by : (t : Bool) → (compare_mono m n ≡ same → m ≡ n) → (elim t as (λ x. Order) [ true ↦ less | false ↦ elim (eqb i j) [ true ↦ compare_mono m n | false ↦ greater ] ]) ≡ same → (i ∷ m) ≡ (j ∷ n)
    by true h f = cc
    by false h f = by_eq (eqb i j) refl h f

is_zero-out : (c : ℤ) → is_zero c ≡ true → c ≡ pos 0
is_zero-out (pos n) e = ap pos (eqb_true n 0 e)
is_zero-out (negsuc n) e = cc

-- ---- values
module _ {A : Type 0} (R : CommRing A) where
  open R use {add, mul, neg, of_int}

  abbrev pub value : List A → ℕ → A
  value [] i = of_int (pos 0)
  value (x ∷ xs) zero = x
  value (x ∷ xs) (suc i) = value xs i

  abbrev pub eval : List A → Expr → A
  eval xs (var i) = value xs i
  eval xs (con n) = of_int n
  eval xs (a ⊕ b) = add (eval xs a) (eval xs b)
  eval xs (a ⊖ b) = add (eval xs a) (neg (eval xs b))
  eval xs (a ⊗ b) = mul (eval xs a) (eval xs b)

  abbrev pub Holds : List A → Equation → Type 0
  Holds xs (a ⊜ b) = eval xs a ≡ eval xs b

  abbrev mono : List A → Mono → A
  mono xs [] = of_int (pos 1)
  mono xs (i ∷ m) = mul (value xs i) (mono xs m)

  abbrev poly : List A → Poly → A
  poly xs none = of_int (pos 0)
  poly xs (more c m p) = add (mul (of_int c) (mono xs m)) (poly xs p)

  -- ---- laws that follow
  pub add_zero : (a : A) → add a (of_int (pos 0)) ≡ a
  add_zero a = R.add_comm _ _ ∙ R.zero_add a

  pub add_swap : (a b c : A) → add a (add b c) ≡ add b (add a c)
  add_swap a b c = sym (R.add_assoc a b c) ∙ ap (λ x. add x c) (R.add_comm a b) ∙ R.add_assoc b a c

  pub add_cancel : (a b c : A) → add a b ≡ add a c → b ≡ c
  add_cancel a b c e = sym (back b) ∙ ap (λ x. add (neg a) x) e ∙ back c
    where
      back : (x : A) → add (neg a) (add a x) ≡ x
      back x = sym (R.add_assoc (neg a) a x) ∙ ap (λ y. add y x) (R.neg_add a) ∙ R.zero_add x

  pub add_mul : (a b c : A) → mul (add a b) c ≡ add (mul a c) (mul b c)
  add_mul a b c = R.mul_comm _ _ ∙ R.mul_add c a b ∙ ap (λ x. add x (mul c b)) (R.mul_comm c a) ∙ ap (λ x. add (mul a c) x) (R.mul_comm c b)

  pub zero_mul : (a : A) → mul (of_int (pos 0)) a ≡ of_int (pos 0)
  zero_mul a =
      let z = of_int (pos 0) in
      add_cancel (mul z a) (mul z a) z (sym (add_mul z z a) ∙ ap (λ x. mul x a) (R.zero_add z) ∙ sym (add_zero (mul z a)))

  pub mul_zero : (a : A) → mul a (of_int (pos 0)) ≡ of_int (pos 0)
  mul_zero a = R.mul_comm _ _ ∙ zero_mul a

  pub mul_one : (a : A) → mul a (of_int (pos 1)) ≡ a
  mul_one a = R.mul_comm _ _ ∙ R.one_mul a

  pub mul_swap : (a b c : A) → mul a (mul b c) ≡ mul b (mul a c)
  mul_swap a b c = sym (R.mul_assoc a b c) ∙ ap (λ x. mul x c) (R.mul_comm a b) ∙ R.mul_assoc b a c

  pub mul_cross : (a b c d : A) → mul (mul a b) (mul c d) ≡ mul (mul a c) (mul b d)
  mul_cross a b c d = R.mul_assoc a b _ ∙ ap (λ x. mul a x) (mul_swap b c d) ∙ sym (R.mul_assoc a c _)

  pub minus_one : (a : A) → mul (of_int (negsuc 0)) a ≡ neg a
  minus_one a = add_cancel a _ _ (ap (λ x. add x (mul (of_int (negsuc 0)) a)) (sym (R.one_mul a)) ∙ sym (add_mul (of_int (pos 1)) (of_int (negsuc 0)) a)
      ∙ ap (λ x. mul x a) (sym (R.of_add (pos 1) (negsuc 0))) ∙ zero_mul a ∙ sym (R.neg_add a) ∙ R.add_comm _ _)

  pub from_difference : (a b : A) → add a (neg b) ≡ of_int (pos 0) → a ≡ b
  from_difference a b e = add_cancel (neg b) a b (R.add_comm _ _ ∙ e ∙ sym (R.neg_add b))

  -- ---- each step keeps the value
  put_var-is : (xs : List A) (i : ℕ) (m : Mono) → mono xs (put_var i m) ≡ mul (value xs i) (mono xs m)
  put_var-is xs i [] = refl
  put_var-is xs i (j ∷ m) = by (ltb j i) (put_var-is xs i m)
    where
      by : (t : Bool) → mono xs (put_var i m) ≡ mul (value xs i) (mono xs m) → mono xs (elim t as (λ x. Mono) [ true ↦ j ∷ put_var i m | false ↦ i ∷ j ∷ m ]) ≡ mul (value xs i) (mul (value xs j) (mono xs m))
      by true h = ap (λ x. mul (value xs j) x) h ∙ mul_swap (value xs j) (value xs i) (mono xs m)
      by false h = refl

  times_mono-is : (xs : List A) (m n : Mono) → mono xs (times_mono m n) ≡ mul (mono xs m) (mono xs n)
  times_mono-is xs [] n = sym (R.one_mul (mono xs n))
  times_mono-is xs (i ∷ m) n = put_var-is xs i (times_mono m n) ∙ ap (λ x. mul (value xs i) x) (times_mono-is xs m n) ∙ sym (R.mul_assoc (value xs i) (mono xs m) (mono xs n))

  abbrev term : List A → ℤ → Mono → A
  term xs c m = mul (of_int c) (mono xs m)

  put_term-is : (xs : List A) (c : ℤ) (m : Mono) (p : Poly) → poly xs (put_term c m p) ≡ add (term xs c m) (poly xs p)
  put_term-is xs c m none = refl
  put_term-is xs c m (more d n p) = by (compare_mono m n) refl (put_term-is xs c m p)
    where
      by : (o : Order) → compare_mono m n ≡ o → poly xs (put_term c m p) ≡ add (term xs c m) (poly xs p)
          → poly xs (elim o as (λ x. Poly) [ less ↦ more c m (more d n p) | same ↦ more (c +ℤ d) m p | greater ↦ more d n (put_term c m p) ]) ≡ add (term xs c m) (add (term xs d n) (poly xs p))
      by less e h = refl
      by same e h = ap (λ x. add (mul x (mono xs m)) (poly xs p)) (R.of_add c d) ∙ ap (λ x. add x (poly xs p)) (add_mul (of_int c) (of_int d) (mono xs m)) ∙ R.add_assoc (term xs c m) (term xs d m) (poly xs p) ∙ ap (λ x. add (term xs c m) (add (term xs d x) (poly xs p))) (same-out m n e)
      by greater e h = ap (λ x. add (term xs d n) x) h ∙ add_swap (term xs d n) (term xs c m) (poly xs p)

  plus-is : (xs : List A) (p q : Poly) → poly xs (plus p q) ≡ add (poly xs p) (poly xs q)
  plus-is xs none q = sym (R.zero_add (poly xs q))
  plus-is xs (more c m p) q = put_term-is xs c m (plus p q) ∙ ap (λ x. add (term xs c m) x) (plus-is xs p q) ∙ sym (R.add_assoc (term xs c m) (poly xs p) (poly xs q))

  -- c m · (d n + q) + r, where the first product is merged
  step : (c d m n q r : A) → add (mul (mul c d) (mul m n)) (add (mul (mul c m) q) r) ≡ add (mul (mul c m) (add (mul d n) q)) r
  step c d m n q r = ap (λ x. add x (add (mul (mul c m) q) r)) (mul_cross c d m n) ∙ sym (R.add_assoc (mul (mul c m) (mul d n)) (mul (mul c m) q) r) ∙ ap (λ x. add x r) (sym (R.mul_add (mul c m) (mul d n) q))

  times_term-is : (xs : List A) (c : ℤ) (m : Mono) (q r : Poly) → poly xs (times_term c m q r) ≡ add (mul (term xs c m) (poly xs q)) (poly xs r)
  times_term-is xs c m none r = sym (ap (λ x. add x (poly xs r)) (mul_zero (term xs c m)) ∙ R.zero_add (poly xs r))
  times_term-is xs c m (more d n q) r =
      put_term-is xs (c *ℤ d) (times_mono m n) (times_term c m q r)
      ∙ ap (λ x. add (mul x (mono xs (times_mono m n))) (poly xs (times_term c m q r))) (R.of_mul c d)
      ∙ ap (λ x. add (mul (mul (of_int c) (of_int d)) x) (poly xs (times_term c m q r))) (times_mono-is xs m n)
      ∙ ap (λ x. add (mul (mul (of_int c) (of_int d)) (mul (mono xs m) (mono xs n))) x) (times_term-is xs c m q r)
      ∙ step (of_int c) (of_int d) (mono xs m) (mono xs n) (poly xs q) (poly xs r)

  times-is : (xs : List A) (p q : Poly) → poly xs (times p q) ≡ mul (poly xs p) (poly xs q)
  times-is xs none q = sym (zero_mul (poly xs q))
  times-is xs (more c m p) q = times_term-is xs c m q (times p q) ∙ ap (λ x. add (mul (term xs c m) (poly xs q)) x) (times-is xs p q) ∙ sym (add_mul (term xs c m) (poly xs p) (poly xs q))

  norm-is : (xs : List A) (e : Expr) → poly xs (norm e) ≡ eval xs e
  norm-is xs (var i) = add_zero _ ∙ R.one_mul _ ∙ mul_one (value xs i)
  norm-is xs (con n) = add_zero _ ∙ mul_one (of_int n)
  norm-is xs (a ⊕ b) = plus-is xs (norm a) (norm b) ∙ ap (λ x. add x (poly xs (norm b))) (norm-is xs a) ∙ ap (λ x. add (eval xs a) x) (norm-is xs b)
  norm-is xs (a ⊖ b) =
      plus-is xs (norm a) (times_term (negsuc 0) [] (norm b) none)
      ∙ ap (λ x. add (poly xs (norm a)) x) (times_term-is xs (negsuc 0) [] (norm b) none ∙ add_zero _ ∙ ap (λ x. mul x (poly xs (norm b))) (mul_one (of_int (negsuc 0))) ∙ minus_one (poly xs (norm b)))
      ∙ ap (λ x. add x (neg (poly xs (norm b)))) (norm-is xs a) ∙ ap (λ x. add (eval xs a) (neg x)) (norm-is xs b)
  norm-is xs (a ⊗ b) = times-is xs (norm a) (norm b) ∙ ap (λ x. mul x (poly xs (norm b))) (norm-is xs a) ∙ ap (λ x. mul (eval xs a) x) (norm-is xs b)

  nonzero-is : (xs : List A) (p : Poly) → poly xs (nonzero p) ≡ poly xs p
  nonzero-is xs none = refl
  nonzero-is xs (more c m p) = by (is_zero c) refl (nonzero-is xs p)
    where
      by : (t : Bool) → is_zero c ≡ t → poly xs (nonzero p) ≡ poly xs p → poly xs (elim t as (λ x. Poly) [ true ↦ nonzero p | false ↦ more c m (nonzero p) ]) ≡ add (term xs c m) (poly xs p)
      by true q h = h ∙ sym (ap (λ x. add (mul (of_int x) (mono xs m)) (poly xs p)) (is_zero-out c q) ∙ ap (λ x. add x (poly xs p)) (zero_mul (mono xs m)) ∙ R.zero_add (poly xs p))
      by false q h = ap (λ x. add (term xs c m) x) h

  pub solve : (xs : List A) (q : Equation) → residue q ≡ none → Holds xs q
  solve xs (a ⊜ b) e = from_difference (eval xs a) (eval xs b) (sym (norm-is xs (a ⊖ b)) ∙ sym (nonzero-is xs (norm (a ⊖ b))) ∙ ap (poly xs) e)

  -- the same, with the variables as the arguments of a λ
  pub ring1 : (q : Expr → Equation) → residue (q (var 0)) ≡ none → (a : A) → Holds (a ∷ []) (q (var 0))
  ring1 q t a = solve (a ∷ []) (q (var 0)) t

  pub ring2 : (q : Expr → Expr → Equation) → residue (q (var 0) (var 1)) ≡ none → (a b : A) → Holds (a ∷ b ∷ []) (q (var 0) (var 1))
  ring2 q t a b = solve (a ∷ b ∷ []) (q (var 0) (var 1)) t

  pub ring3 : (q : Expr → Expr → Expr → Equation) → residue (q (var 0) (var 1) (var 2)) ≡ none → (a b c : A) → Holds (a ∷ b ∷ c ∷ []) (q (var 0) (var 1) (var 2))
  ring3 q t a b c = solve (a ∷ b ∷ c ∷ []) (q (var 0) (var 1) (var 2)) t

  pub ring4 : (q : Expr → Expr → Expr → Expr → Equation) → residue (q (var 0) (var 1) (var 2) (var 3)) ≡ none → (a b c d : A) → Holds (a ∷ b ∷ c ∷ d ∷ []) (q (var 0) (var 1) (var 2) (var 3))
  ring4 q t a b c d = solve (a ∷ b ∷ c ∷ d ∷ []) (q (var 0) (var 1) (var 2) (var 3)) t

  pub ring5 : (q : Expr → Expr → Expr → Expr → Expr → Equation) → residue (q (var 0) (var 1) (var 2) (var 3) (var 4)) ≡ none → (a b c d e : A) → Holds (a ∷ b ∷ c ∷ d ∷ e ∷ []) (q (var 0) (var 1) (var 2) (var 3) (var 4))
  ring5 q t a b c d e = solve (a ∷ b ∷ c ∷ d ∷ e ∷ []) (q (var 0) (var 1) (var 2) (var 3) (var 4)) t

  pub ring6 : (q : Expr → Expr → Expr → Expr → Expr → Expr → Equation) → residue (q (var 0) (var 1) (var 2) (var 3) (var 4) (var 5)) ≡ none → (a b c d e f : A) → Holds (a ∷ b ∷ c ∷ d ∷ e ∷ f ∷ []) (q (var 0) (var 1) (var 2) (var 3) (var 4) (var 5))
  ring6 q t a b c d e f = solve (a ∷ b ∷ c ∷ d ∷ e ∷ f ∷ []) (q (var 0) (var 1) (var 2) (var 3) (var 4) (var 5)) t

  pub ring7 : (q : Expr → Expr → Expr → Expr → Expr → Expr → Expr → Equation) → residue (q (var 0) (var 1) (var 2) (var 3) (var 4) (var 5) (var 6)) ≡ none → (a b c d e f g : A) → Holds (a ∷ b ∷ c ∷ d ∷ e ∷ f ∷ g ∷ []) (q (var 0) (var 1) (var 2) (var 3) (var 4) (var 5) (var 6))
  ring7 q t a b c d e f g = solve (a ∷ b ∷ c ∷ d ∷ e ∷ f ∷ g ∷ []) (q (var 0) (var 1) (var 2) (var 3) (var 4) (var 5) (var 6)) t

  pub ring8 : (q : Expr → Expr → Expr → Expr → Expr → Expr → Expr → Expr → Equation) → residue (q (var 0) (var 1) (var 2) (var 3) (var 4) (var 5) (var 6) (var 7)) ≡ none → (a b c d e f g h : A) → Holds (a ∷ b ∷ c ∷ d ∷ e ∷ f ∷ g ∷ h ∷ []) (q (var 0) (var 1) (var 2) (var 3) (var 4) (var 5) (var 6) (var 7))
  ring8 q t a b c d e f g h = solve (a ∷ b ∷ c ∷ d ∷ e ∷ f ∷ g ∷ h ∷ []) (q (var 0) (var 1) (var 2) (var 3) (var 4) (var 5) (var 6) (var 7)) t
