-- The least price of a row is found by going through it.
use Rattle.std.proofs.Common.{◌≡◌, ◌≤◌, ◌<◌, ◌+◌, ◌∙◌, ⊎_elim, ℕ, sym, ap, subst, arith, Option, Some, None}
use Rattle.std.proofs.lemmas.Bool.{cases_lt}
use Rattle.quantity_dp.specs.Window.{IsLeastIn}
use Rattle.quantity_dp.specs.Table.{IsLesser}
use Rattle.quantity_dp.proofs.Entries.{min_left, min_right, min_some, price_same}

-- the price at the end of a window is that of its last quantity
at_end : (w : ℕ → Option ℕ) (n k d : ℕ) (p : Option ℕ) → w n ≡ p → k < n + 1 → n ≤ k → w k ≡ Some d → p ≡ Some d
at_end w n k d p is high past there = let e : k ≡ n = omega (arith, high, past) in sym is ∙ ap w (sym e) ∙ there

pub least_next : (w : ℕ → Option ℕ) (n : ℕ) (least price o : Option ℕ) → IsLeastIn w 0 n least → w n ≡ price → IsLesser least price o → IsLeastIn w 0 (n + 1) o
least_next w n None None o is here lesser = subst (IsLeastIn w 0 (n + 1)) (sym lesser) (λ k d low high there. ⊎_elim
    (λ less. is k d low less there)
    (λ past. absurd (cc (at_end w n k d None here high past there)))
    (cases_lt k n))
least_next w n None (Some c) o is here lesser = subst (IsLeastIn w 0 (n + 1)) (sym lesser) (record {
  some = (n, omega arith, omega arith, here);
  least = λ k d low high there. ⊎_elim
      (λ less. absurd (is k d low less there))
      (λ past. omega (arith, price_same c d (at_end w n k d (Some c) here high past there)))
      (cases_lt k n);
})
least_next w n (Some b) None o is here lesser = subst (IsLeastIn w 0 (n + 1)) (sym lesser) (record {
  some = let (k, low, high, there) = is.some in (k, low, omega (arith, high), there);
  least = λ k d low high there. ⊎_elim
      (λ less. is.least k d low less there)
      (λ past. absurd (cc (at_end w n k d None here high past there)))
      (cases_lt k n);
})
least_next w n (Some b) (Some c) o is here lesser = subst (IsLeastIn w 0 (n + 1)) (sym lesser) (record {
  some = ⊎_elim
      (λ e. let (k, low, high, there) = is.some in (k, low, omega (arith, high), there ∙ ap Some (sym e)))
      (λ e. (n, omega arith, omega arith, here ∙ ap Some (sym e)))
      (min_some b c);
  least = λ k d low high there. ⊎_elim
      (λ less. omega (arith, min_left b c, is.least k d low less there))
      (λ past. omega (arith, min_right b c, price_same c d (at_end w n k d (Some c) here high past there)))
      (cases_lt k n);
})
