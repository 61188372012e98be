-- Comparisons from comparisons in an ordered ring: what follows is written once, as a claim over variables, and the check computes that the differences of the sides add up.
use Rattle.std.proofs.Common.{◌≡◌, ◌+◌, arith, ℕ, zero, suc, ap, ◌∙◌, sym, refl, subst, List, [], ◌∷◌, ⊎_elim}
use lib.IntN.{pos}
use Rattle.algebra.proofs.Rings as C
use Rattle.algebra.proofs.Rings.{CommRing, Expr, var, con, ◌⊕◌, ◌⊖◌, ◌⊗◌, ◌⊜◌, eval, residue, none, solve, ring1, ring2, ring3, ring4}
use Rattle.algebra.proofs.Ordered as O
use Rattle.algebra.proofs.Ordered.{OrderedRing}

pub data Claim : Type 0 where
  -- a ≤ b
  so : Expr → Expr → Claim
  -- from a ≤ b, taken n times
  from : ℕ → Expr → Expr → Claim → Claim
  -- from 0 ≤ c and a ≤ b, taken c times
  from_times : Expr → Expr → Expr → Claim → Claim
  -- from a ≡ b, taken c times
  from_same : Expr → Expr → Expr → Claim → Claim

-- what the conclusion's difference has beyond the premises'
abbrev pub gap : Claim → Expr
gap (so a b) = b ⊖ a
gap (from n a b q) = gap q ⊖ con (pos n) ⊗ (b ⊖ a)
gap (from_times c a b q) = gap q ⊖ c ⊗ (b ⊖ a)
gap (from_same c a b q) = gap q ⊖ c ⊗ (b ⊖ a)

pub data SameClaim : Type 0 where
  so : Expr → Expr → SameClaim
  from : Expr → Expr → Expr → SameClaim → SameClaim

abbrev pub same_gap : SameClaim → Expr
same_gap (so a b) = b ⊖ a
same_gap (from c a b q) = same_gap q ⊖ c ⊗ (b ⊖ a)

module _ {A : Type 0} (R : CommRing A) where
  open R use {add, mul, neg, of_int}

  abbrev pub SaysSame : List A → SameClaim → Type 0
  SaysSame xs (so a b) = eval R xs a ≡ eval R xs b
  SaysSame xs (from c a b q) = eval R xs a ≡ eval R xs b → SaysSame xs q

  drop_same : (g c a b : A) → add g (neg (mul c (add b (neg a)))) ≡ of_int (pos 0) → a ≡ b → g ≡ of_int (pos 0)
  drop_same g c a b e h = C.from_difference R g (of_int (pos 0)) (ring2 R (λ g z. g ⊖ con (pos 0) ⊜ g) refl g a ∙ ring3 R (λ g c a. g ⊜ g ⊖ c ⊗ (a ⊖ a)) refl g c a ∙ ap (λ x. add g (neg (mul c (add x (neg a))))) h ∙ e)

  prove_same : (xs : List A) (q : SameClaim) → eval R xs (same_gap q) ≡ of_int (pos 0) → SaysSame xs q
  prove_same xs (so a b) e = sym (C.from_difference R (eval R xs b) (eval R xs a) e)
  prove_same xs (from c a b q) e = λ h. prove_same xs q (drop_same (eval R xs (same_gap q)) (eval R xs c) (eval R xs a) (eval R xs b) e h)

  pub same2 : (q : Expr → Expr → SameClaim) → residue (same_gap (q (var 0) (var 1)) ⊜ con (pos 0)) ≡ none → (a b : A) → SaysSame (a ∷ b ∷ []) (q (var 0) (var 1))
  same2 q t a b = prove_same (a ∷ b ∷ []) (q (var 0) (var 1)) (solve R (a ∷ b ∷ []) (same_gap (q (var 0) (var 1)) ⊜ con (pos 0)) t)

  pub same3 : (q : Expr → Expr → Expr → SameClaim) → residue (same_gap (q (var 0) (var 1) (var 2)) ⊜ con (pos 0)) ≡ none → (a b c : A) → SaysSame (a ∷ b ∷ c ∷ []) (q (var 0) (var 1) (var 2))
  same3 q t a b c = prove_same (a ∷ b ∷ c ∷ []) (q (var 0) (var 1) (var 2)) (solve R (a ∷ b ∷ c ∷ []) (same_gap (q (var 0) (var 1) (var 2)) ⊜ con (pos 0)) t)

  pub same4 : (q : Expr → Expr → Expr → Expr → SameClaim) → residue (same_gap (q (var 0) (var 1) (var 2) (var 3)) ⊜ con (pos 0)) ≡ none → (a b c d : A) → SaysSame (a ∷ b ∷ c ∷ d ∷ []) (q (var 0) (var 1) (var 2) (var 3))
  same4 q t a b c d = prove_same (a ∷ b ∷ c ∷ d ∷ []) (q (var 0) (var 1) (var 2) (var 3)) (solve R (a ∷ b ∷ c ∷ d ∷ []) (same_gap (q (var 0) (var 1) (var 2) (var 3)) ⊜ con (pos 0)) t)

  pub same5 : (q : Expr → Expr → Expr → Expr → Expr → SameClaim) → residue (same_gap (q (var 0) (var 1) (var 2) (var 3) (var 4)) ⊜ con (pos 0)) ≡ none → (a b c d e : A) → SaysSame (a ∷ b ∷ c ∷ d ∷ e ∷ []) (q (var 0) (var 1) (var 2) (var 3) (var 4))
  same5 q t a b c d e = prove_same (a ∷ b ∷ c ∷ d ∷ e ∷ []) (q (var 0) (var 1) (var 2) (var 3) (var 4)) (solve R (a ∷ b ∷ c ∷ d ∷ e ∷ []) (same_gap (q (var 0) (var 1) (var 2) (var 3) (var 4)) ⊜ con (pos 0)) t)

  pub same6 : (q : Expr → Expr → Expr → Expr → Expr → Expr → SameClaim) → residue (same_gap (q (var 0) (var 1) (var 2) (var 3) (var 4) (var 5)) ⊜ con (pos 0)) ≡ none → (a b c d e f : A) → SaysSame (a ∷ b ∷ c ∷ d ∷ e ∷ f ∷ []) (q (var 0) (var 1) (var 2) (var 3) (var 4) (var 5))
  same6 q t a b c d e f = prove_same (a ∷ b ∷ c ∷ d ∷ e ∷ f ∷ []) (q (var 0) (var 1) (var 2) (var 3) (var 4) (var 5)) (solve R (a ∷ b ∷ c ∷ d ∷ e ∷ f ∷ []) (same_gap (q (var 0) (var 1) (var 2) (var 3) (var 4) (var 5)) ⊜ con (pos 0)) t)

  pub same7 : (q : Expr → Expr → Expr → Expr → Expr → Expr → Expr → SameClaim) → residue (same_gap (q (var 0) (var 1) (var 2) (var 3) (var 4) (var 5) (var 6)) ⊜ con (pos 0)) ≡ none → (a b c d e f g : A) → SaysSame (a ∷ b ∷ c ∷ d ∷ e ∷ f ∷ g ∷ []) (q (var 0) (var 1) (var 2) (var 3) (var 4) (var 5) (var 6))
  same7 q t a b c d e f g = prove_same (a ∷ b ∷ c ∷ d ∷ e ∷ f ∷ g ∷ []) (q (var 0) (var 1) (var 2) (var 3) (var 4) (var 5) (var 6)) (solve R (a ∷ b ∷ c ∷ d ∷ e ∷ f ∷ g ∷ []) (same_gap (q (var 0) (var 1) (var 2) (var 3) (var 4) (var 5) (var 6)) ⊜ con (pos 0)) t)

  pub same8 : (q : Expr → Expr → Expr → Expr → Expr → Expr → Expr → Expr → SameClaim) → residue (same_gap (q (var 0) (var 1) (var 2) (var 3) (var 4) (var 5) (var 6) (var 7)) ⊜ con (pos 0)) ≡ none → (a b c d e f g h : A) → SaysSame (a ∷ b ∷ c ∷ d ∷ e ∷ f ∷ g ∷ h ∷ []) (q (var 0) (var 1) (var 2) (var 3) (var 4) (var 5) (var 6) (var 7))
  same8 q t a b c d e f g h = prove_same (a ∷ b ∷ c ∷ d ∷ e ∷ f ∷ g ∷ h ∷ []) (q (var 0) (var 1) (var 2) (var 3) (var 4) (var 5) (var 6) (var 7)) (solve R (a ∷ b ∷ c ∷ d ∷ e ∷ f ∷ g ∷ h ∷ []) (same_gap (q (var 0) (var 1) (var 2) (var 3) (var 4) (var 5) (var 6) (var 7)) ⊜ con (pos 0)) t)

one-add : (n : ℕ) → 1 + n ≡ suc n
one-add n = omega arith

module _ {A : Type 0} (R : OrderedRing A) where
  open R use {add, mul, neg, of_int, le, ring}

  abbrev Zero : A
  Zero = of_int (pos 0)

  abbrev pub Says : List A → Claim → Type 0
  Says xs (so a b) = le (eval ring xs a) (eval ring xs b)
  Says xs (from n a b q) = le (eval ring xs a) (eval ring xs b) → Says xs q
  Says xs (from_times c a b q) = le Zero (eval ring xs c) → le (eval ring xs a) (eval ring xs b) → Says xs q
  Says xs (from_same c a b q) = eval ring xs a ≡ eval ring xs b → Says xs q

  pub one_nonneg : le Zero (of_int (pos 1))
  one_nonneg = ⊎_elim (λ h. h)
      (λ h. let m : le Zero (add Zero (neg (of_int (pos 1)))) = O.to_difference_le R (of_int (pos 1)) Zero h in
      subst (λ x. le Zero x) (ring1 ring (λ a. (con (pos 0) ⊖ con (pos 1)) ⊗ (con (pos 0) ⊖ con (pos 1)) ⊜ con (pos 1)) refl Zero) (R.mul_nonneg _ _ m m))
      (R.le_total Zero (of_int (pos 1)))

  pub of_nonneg : (n : ℕ) → le Zero (of_int (pos n))
  of_nonneg zero = R.le_refl Zero
  of_nonneg (suc n) = subst (λ x. le Zero x) (sym (R.of_add (pos 1) (pos n)) ∙ ap (λ (k : ℕ). of_int (pos k)) (one-add n)) (O.add_nonneg R _ _ one_nonneg (of_nonneg n))

  drop_le : (g c a b : A) → le Zero (add g (neg (mul c (add b (neg a))))) → le Zero c → le a b → le Zero g
  drop_le g c a b h p q = subst (λ x. le Zero x) (ring4 ring (λ g c a b. g ⊖ c ⊗ (b ⊖ a) ⊕ c ⊗ (b ⊖ a) ⊜ g) refl g c a b) (O.add_nonneg R _ _ h (R.mul_nonneg c _ p (O.to_difference_le R a b q)))

  prove : (xs : List A) (q : Claim) → le Zero (eval ring xs (gap q)) → Says xs q
  prove xs (so a b) g = O.from_difference_le R (eval ring xs a) (eval ring xs b) g
  prove xs (from n a b q) g = λ h. prove xs q (drop_le (eval ring xs (gap q)) (of_int (pos n)) (eval ring xs a) (eval ring xs b) g (of_nonneg n) h)
  prove xs (from_times c a b q) g = λ p h. prove xs q (drop_le (eval ring xs (gap q)) (eval ring xs c) (eval ring xs a) (eval ring xs b) g p h)
  prove xs (from_same c a b q) g = λ h. prove xs q (subst (λ x. le Zero x)
      (ap (λ x. add (eval ring xs (gap q)) (neg (mul (eval ring xs c) (add x (neg (eval ring xs a)))))) (sym h) ∙ ring3 ring (λ g c a. g ⊖ c ⊗ (a ⊖ a) ⊜ g) refl (eval ring xs (gap q)) (eval ring xs c) (eval ring xs a)) g)

  nonneg : (x : A) → x ≡ Zero → le Zero x
  nonneg x e = subst (λ y. le Zero y) (sym e) (R.le_refl Zero)

  pub le2 : (q : Expr → Expr → Claim) → residue (gap (q (var 0) (var 1)) ⊜ con (pos 0)) ≡ none → (a b : A) → Says (a ∷ b ∷ []) (q (var 0) (var 1))
  le2 q t a b = prove (a ∷ b ∷ []) (q (var 0) (var 1)) (nonneg _ (solve ring (a ∷ b ∷ []) (gap (q (var 0) (var 1)) ⊜ con (pos 0)) t))

  pub le3 : (q : Expr → Expr → Expr → Claim) → residue (gap (q (var 0) (var 1) (var 2)) ⊜ con (pos 0)) ≡ none → (a b c : A) → Says (a ∷ b ∷ c ∷ []) (q (var 0) (var 1) (var 2))
  le3 q t a b c = prove (a ∷ b ∷ c ∷ []) (q (var 0) (var 1) (var 2)) (nonneg _ (solve ring (a ∷ b ∷ c ∷ []) (gap (q (var 0) (var 1) (var 2)) ⊜ con (pos 0)) t))

  pub le4 : (q : Expr → Expr → Expr → Expr → Claim) → residue (gap (q (var 0) (var 1) (var 2) (var 3)) ⊜ con (pos 0)) ≡ none → (a b c d : A) → Says (a ∷ b ∷ c ∷ d ∷ []) (q (var 0) (var 1) (var 2) (var 3))
  le4 q t a b c d = prove (a ∷ b ∷ c ∷ d ∷ []) (q (var 0) (var 1) (var 2) (var 3)) (nonneg _ (solve ring (a ∷ b ∷ c ∷ d ∷ []) (gap (q (var 0) (var 1) (var 2) (var 3)) ⊜ con (pos 0)) t))

  pub le5 : (q : Expr → Expr → Expr → Expr → Expr → Claim) → residue (gap (q (var 0) (var 1) (var 2) (var 3) (var 4)) ⊜ con (pos 0)) ≡ none → (a b c d e : A) → Says (a ∷ b ∷ c ∷ d ∷ e ∷ []) (q (var 0) (var 1) (var 2) (var 3) (var 4))
  le5 q t a b c d e = prove (a ∷ b ∷ c ∷ d ∷ e ∷ []) (q (var 0) (var 1) (var 2) (var 3) (var 4)) (nonneg _ (solve ring (a ∷ b ∷ c ∷ d ∷ e ∷ []) (gap (q (var 0) (var 1) (var 2) (var 3) (var 4)) ⊜ con (pos 0)) t))

  pub le6 : (q : Expr → Expr → Expr → Expr → Expr → Expr → Claim) → residue (gap (q (var 0) (var 1) (var 2) (var 3) (var 4) (var 5)) ⊜ con (pos 0)) ≡ none → (a b c d e f : A) → Says (a ∷ b ∷ c ∷ d ∷ e ∷ f ∷ []) (q (var 0) (var 1) (var 2) (var 3) (var 4) (var 5))
  le6 q t a b c d e f = prove (a ∷ b ∷ c ∷ d ∷ e ∷ f ∷ []) (q (var 0) (var 1) (var 2) (var 3) (var 4) (var 5)) (nonneg _ (solve ring (a ∷ b ∷ c ∷ d ∷ e ∷ f ∷ []) (gap (q (var 0) (var 1) (var 2) (var 3) (var 4) (var 5)) ⊜ con (pos 0)) t))

  pub le7 : (q : Expr → Expr → Expr → Expr → Expr → Expr → Expr → Claim) → residue (gap (q (var 0) (var 1) (var 2) (var 3) (var 4) (var 5) (var 6)) ⊜ con (pos 0)) ≡ none → (a b c d e f g : A) → Says (a ∷ b ∷ c ∷ d ∷ e ∷ f ∷ g ∷ []) (q (var 0) (var 1) (var 2) (var 3) (var 4) (var 5) (var 6))
  le7 q t a b c d e f g = prove (a ∷ b ∷ c ∷ d ∷ e ∷ f ∷ g ∷ []) (q (var 0) (var 1) (var 2) (var 3) (var 4) (var 5) (var 6)) (nonneg _ (solve ring (a ∷ b ∷ c ∷ d ∷ e ∷ f ∷ g ∷ []) (gap (q (var 0) (var 1) (var 2) (var 3) (var 4) (var 5) (var 6)) ⊜ con (pos 0)) t))

  pub le8 : (q : Expr → Expr → Expr → Expr → Expr → Expr → Expr → Expr → Claim) → residue (gap (q (var 0) (var 1) (var 2) (var 3) (var 4) (var 5) (var 6) (var 7)) ⊜ con (pos 0)) ≡ none → (a b c d e f g h : A) → Says (a ∷ b ∷ c ∷ d ∷ e ∷ f ∷ g ∷ h ∷ []) (q (var 0) (var 1) (var 2) (var 3) (var 4) (var 5) (var 6) (var 7))
  le8 q t a b c d e f g h = prove (a ∷ b ∷ c ∷ d ∷ e ∷ f ∷ g ∷ h ∷ []) (q (var 0) (var 1) (var 2) (var 3) (var 4) (var 5) (var 6) (var 7)) (nonneg _ (solve ring (a ∷ b ∷ c ∷ d ∷ e ∷ f ∷ g ∷ h ∷ []) (gap (q (var 0) (var 1) (var 2) (var 3) (var 4) (var 5) (var 6) (var 7)) ⊜ con (pos 0)) t))
