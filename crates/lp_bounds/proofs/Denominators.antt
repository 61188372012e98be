-- Finitely many fractions have a least common denominator, of any size.
use Rattle.std.proofs.Common.{◌≡◌, ◌⊎◌, ⊎_elim, inl, inr, ◌≤◌, ◌<◌, ◌+◌, ◌*◌, ◌-◌, ◌∙◌, ℕ, zero, suc, refl, sym, ap, subst, arith}
use Rattle.std.specs.Prelude.{ℤ, pos, ◌*ℤ◌, ◌≤ℤ◌, ◌<ℤ◌, unsigned_abs}
use Rattle.std.proofs.lemmas.Bool.{cases_eq}
use Rattle.std.proofs.lemmas.Int.{by_lt_z, ints}
use Rattle.std.proofs.Math.Nat.{mul-le-mul_right}
use Rattle.algebra.proofs.Order.{mul_pos}
use Rattle.algebra.proofs.Rings.{int_ring, con, ◌⊗◌, ◌⊜◌, ring2, ring3}
use Rattle.rational.specs.Rational.{ℚ, floor_ℚ, make, whole, ◌*ℚ◌, ◌≤ℚ◌}
use Rattle.rational.proofs.Rationals.{den_above, le_antisym, le_refl, make-parts, make-same, mul-make, one_above, rational_ring, whole-mul}
use Rattle.rational.proofs.Facts.{is_floor, whole-le}
use Rattle.tableau.specs.Leaves.{AreOfLeaf, AreWholeTimes}

-- ---- whether a fraction is whole
abbrev IsWhole : ℚ → Type 0
IsWhole x = (z : ℤ) × (whole z ≡ x)

above_not : (a b : ℤ) → b <ℤ a → a ≤ℤ b → ⊥
above_not a b less le = omega (arith, ints, less, le)

le_or_not : (x y : ℚ) → (x ≤ℚ y) ⊎ (x ≤ℚ y → ⊥)
le_or_not x y = by_lt_z (y.num *ℤ x.den) (x.num *ℤ y.den) (λ less. inr (λ le. above_not (x.num *ℤ y.den) (y.num *ℤ x.den) less le.cross)) (λ le. inl (record { cross = le }))

-- where it is, it is the whole number next below it
whole_or_not : (x : ℚ) → IsWhole x ⊎ (IsWhole x → ⊥)
whole_or_not x =
    let floor = is_floor x in
    ⊎_elim
    (λ most. inl (floor_ℚ x, le_antisym (whole (floor_ℚ x)) x floor.below most))
    (λ more. inr (λ is. more (subst (λ y. y ≤ℚ whole (floor_ℚ x)) is.1 (whole-le is.0 (floor_ℚ x) (floor.greatest is.0 (subst (λ y. whole is.0 ≤ℚ y) is.1 (le_refl (whole is.0))))))))
    (le_or_not x (whole (floor_ℚ x)))

-- a fraction times its denominator is its numerator
times_own : (n d : ℤ) → pos 0 <ℤ d → whole d *ℚ make n d ≡ whole n
unfolding whole
times_own n d above =
    mul-make d (pos 1) n d one_above above
    ∙ make-same (d *ℤ n) (pos 1 *ℤ d) n (pos 1) (mul_pos (pos 1) d one_above above) one_above (ring2 int_ring (λ n d. d ⊗ n ⊗ con (pos 1) ⊜ n ⊗ (con (pos 1) ⊗ d)) refl n d)

own_den : (x : ℚ) → (e : ℕ) × (1 ≤ e) × IsWhole (whole (pos e) *ℚ x)
own_den x =
    let above = den_above x in
    let is : pos (unsigned_abs x.den) ≡ x.den = own x.den above in
    (unsigned_abs x.den, omega (arith, ints, is, above), (x.num, sym (times_own x.num x.den above) ∙ ap (λ v. whole x.den *ℚ v) (make-parts x) ∙ ap (λ d. whole d *ℚ x) (sym is)))
  where
    own : (z : ℤ) → pos 0 <ℤ z → pos (unsigned_abs z) ≡ z
    own z above = omega (arith, ints, above)

-- ---- whether a number is a common denominator
module _ (count : ℕ) (y : ℕ → ℚ) where
  abbrev AllWhole : ℕ → ℕ → Type 0
  AllWhole n to = (k : ℕ) → k < to → IsWhole (whole (pos n) *ℚ y k)

  all_or_not : (n to : ℕ) → AllWhole n to ⊎ (AllWhole n to → ⊥)
  all_or_not n zero = inl (λ k less. absurd (omega (arith, less)))
  all_or_not n (suc to) =
      ⊎_elim
      (λ before. ⊎_elim
      (λ last. inl (λ k less. ⊎_elim
      (λ same. subst (λ j. IsWhole (whole (pos n) *ℚ y j)) (sym same) last)
      (λ other. before k (omega (arith, less, other)))
      (cases_eq k to)))
      (λ none. inr (λ all. none (all to (omega arith))))
      (whole_or_not (whole (pos n) *ℚ y to)))
      (λ none. inr (λ all. none (λ k less. all k (omega (arith, less)))))
      (all_or_not n to)

  of_times : (n : ℕ) (w : ℕ → ℤ) → AreWholeTimes count y n w → AllWhole n count
  of_times n w times k less = (w k, times.each k less)

  -- their numerators, by the whole number next below
  numerators : (n : ℕ) → 1 ≤ n → AllWhole n count → AreWholeTimes count y n (λ k. floor_ℚ (whole (pos n) *ℚ y k))
  numerators n some all = record {
    positive = some;
    each = λ k less.
        let x = whole (pos n) *ℚ y k in
        let is = all k less in
        let floor = is_floor x in
        le_antisym (whole (floor_ℚ x)) x floor.below (subst (λ v. v ≤ℚ whole (floor_ℚ x)) is.1 (whole-le is.0 (floor_ℚ x) (floor.greatest is.0 (subst (λ v. whole is.0 ≤ℚ v) is.1 (le_refl (whole is.0))))));
  }

  -- ---- the least one, from one that none is below, so far, to one that is one
  search : (more n : ℕ) → 1 ≤ n → ((k : ℕ) (w : ℕ → ℤ) → AreWholeTimes count y k w → n ≤ k) → AllWhole (n + more) count → (den : ℕ) × (z : ℕ → ℤ) × AreOfLeaf count y den z
  search zero n some none all = (n, λ k. floor_ℚ (whole (pos n) *ℚ y k), record { times = numerators n some (subst (λ j. AllWhole j count) (last n) all); least = none })
    where
      last : (n : ℕ) → n + 0 ≡ n
      last n = omega arith
  search (suc more) n some none all =
      ⊎_elim
      (λ here. (n, λ k. floor_ℚ (whole (pos n) *ℚ y k), record { times = numerators n some here; least = none }))
      (λ not. search more (n + 1) (omega (arith, some)) (λ k w times. ⊎_elim
      (λ same. absurd (not (subst (λ j. AllWhole j count) same (of_times k w times))))
      (λ other. let low = none k w times in omega (arith, low, other))
      (cases_eq k n)) (subst (λ j. AllWhole j count) (next n more) all))
      (all_or_not n count)
    where
      next : (n more : ℕ) → n + suc more ≡ n + 1 + more
      next n more = omega arith

  -- ---- some one
  -- one fraction more, which the number e makes whole
  more_whole : (n e to : ℕ) → AllWhole n to → IsWhole (whole (pos e) *ℚ y to) → AllWhole (n * e) (suc to)
  more_whole n e to before last k less =
      ⊎_elim
      (λ same. (
        pos n *ℤ last.0,
        whole-mul (pos n) last.0 ∙ ap (λ v. whole (pos n) *ℚ v) last.1
            ∙ ring3 rational_ring (λ n e x. n ⊗ (e ⊗ x) ⊜ n ⊗ e ⊗ x) refl (whole (pos n)) (whole (pos e)) (y to)
            ∙ ap (λ v. v *ℚ y to) (sym (whole-mul (pos n) (pos e))) ∙ ap (λ j. whole (pos (n * e)) *ℚ y j) (sym same),
      ))
      (λ other.
      let here = before k (omega (arith, less, other)) in (
        here.0 *ℤ pos e,
        whole-mul here.0 (pos e) ∙ ap (λ v. v *ℚ whole (pos e)) here.1
            ∙ ring3 rational_ring (λ n e x. n ⊗ x ⊗ e ⊜ n ⊗ e ⊗ x) refl (whole (pos n)) (whole (pos e)) (y k)
            ∙ ap (λ v. v *ℚ y k) (sym (whole-mul (pos n) (pos e))),
      ))
      (cases_eq k to)

  common : (to : ℕ) → (n : ℕ) × (1 ≤ n) × AllWhole n to
  common zero = (1, omega arith, λ k less. absurd (omega (arith, less)))
  common (suc to) =
      let (n, some, all) = common to in
      let (e, e_some, is) = own_den (y to) in
      (n * e, omega (arith, mul-le-mul_right e some, e_some), more_whole n e to all is)

  pub has_leaf : (den : ℕ) × (z : ℕ → ℤ) × AreOfLeaf count y den z
  has_leaf =
      let (den, some, all) = common count in
      search (den - 1) 1 (omega arith) (λ k w times. times.positive) (subst (λ j. AllWhole j count) (whole_of den some) all)
    where
      whole_of : (d : ℕ) → 1 ≤ d → d ≡ 1 + (d - 1)
      whole_of d some = omega (arith, some)
