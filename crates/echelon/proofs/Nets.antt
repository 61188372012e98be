-- Lists with a number for each period.
use Rattle.std.proofs.Common.{◌≡◌, ◌≤◌, ◌+◌, ◌-◌, ◌∙◌, ⊎_elim, ℕ, suc, sym, ap, arith, List, [], ◌∷◌, ◌++◌, length, slice_index_or, take}
use Rattle.std.specs.Prelude.{if◌then◌else◌, ◌==◌}
use Rattle.std.proofs.lemmas.Bool.{cases_lt}
use Rattle.std.proofs.lemmas.Grind.{get_or_default_zero}
use Rattle.std.proofs.lemmas.List.{length_push, get_or_push, get_or_append_left, take_more}
use Rattle.lot_sizing.specs.Sums.{sum_to}
use Rattle.lot_sizing.specs.Problem.{entry}
use Rattle.lot_sizing.specs.Net.{Asked, asked_to, needed_to}
use Rattle.lot_sizing.proofs.Sums.{sum_to_at}
use Rattle.echelon.specs.Views.{HasEach}

-- a list takes the number of the next period
pub each_more : (n m x : ℕ) (f : ℕ → ℕ) (xs : List ℕ) → m ≡ suc n → HasEach n f xs → x ≡ f m → HasEach m f (xs ++ x ∷ [])
each_more n m x f xs next has is = record {
  size = omega (arith, length_push xs x, has.size, next);
  each = λ t low high. ⊎_elim
      (λ before. get_or_append_left xs (x ∷ []) 0 (t - 1) (omega (arith, before, low, has.size)) ∙ has.each t low (omega (arith, before)))
      (λ no. let e : t ≡ m = omega (arith, no, high, next) in get_or_push xs x 0 (t - 1) (omega (arith, e, has.size, next)) ∙ is ∙ ap f (sym e))
      (cases_lt t (suc n));
}

-- the required end stock in the last period
abbrev pub end_in : Asked → ℕ → ℕ
end_in a t = if t == a.periods then a.end_min else 0

-- what is asked for up to a period, as it is added up
pub record IsAsked (a : Asked) (t asked needed : ℕ) : Type 0 where
  pub whole : asked ≡ asked_to a t
  pub rest : needed ≡ needed_to a t

pub asked_now : (a : Asked) (demands : List ℕ) (t demand read end asked needed : ℕ) → a.demand ≡ entry demands → 1 ≤ t → t ≤ length demands → demand ≡ sum_to (t - 1) (entry demands) → read ≡ slice_index_or demands (t - 1) read → end ≡ end_in a t → asked ≡ demand + read + end → needed ≡ asked - a.opening → IsAsked a t asked needed
asked_now a demands t demand read end asked needed same low high so_far is_read is_end is_asked is_needed =
    let here = is_read ∙ get_or_default_zero demands (t - 1) read (omega (arith, low, high)) in
    let whole : asked ≡ asked_to a t = omega (arith, is_asked, is_end, so_far, here, sum_to_at t (entry demands) low, ap (λ f. sum_to t f) same) in
    record { whole = whole; rest = omega (arith, is_needed, whole) }

pub end_small : (a : Asked) (t : ℕ) → end_in a t ≤ a.end_min
end_small a t = grind arith

-- the first entries of a list, one after the other
pub take_next : (all xs : List ℕ) (t x : ℕ) → 1 ≤ t → t ≤ length all → xs ≡ take (t - 1) all → x ≡ entry all t → xs ++ x ∷ [] ≡ take (t + 1 - 1) all
take_next all xs t x low high so_far is =
    let next : t + 1 - 1 ≡ t - 1 + 1 = omega arith in
    ap (λ ys. ys ++ x ∷ []) so_far ∙ ap (λ y. take (t - 1) all ++ y ∷ []) is ∙ sym (take_more all (t - 1) 0 (omega (arith, low, high))) ∙ ap (λ k. take k all) (sym next)
