-- Rows put in place item by item, in the order of depths.
use Rattle.std.proofs.Common.{◌≡◌, ◌≢◌, ◌≤◌, ◌<◌, ◌+◌, ◌-◌, ◌∙◌, ⊎_elim, inl, inr, ℕ, sym, ap, arith, List, [], ◌∷◌, ◌++◌, length, map, slice_index_or, Vec, Global}
use Rattle.std.specs.Prelude.{slice_set}
use Rattle.std.proofs.lemmas.Bool.{cases_eq, cases_lt}
use Rattle.std.proofs.lemmas.List.{length_push, get_or-set_same, get_or-set_other, get_or_push, get_or_append_left, get_or-map}
use Rattle.lot_sizing.specs.Problem.{EachItem, Problem, item_count}
use Rattle.must_start.specs.Rows.{row_in}
use Rattle.late_starts.specs.Steps.{EachBefore, HasEach}

-- before the first place nothing has to be right
pub before_none : (m : Problem) (depth : ℕ → ℕ) (R : ℕ → Type 0) → EachBefore m depth 0 1 R
before_none m depth R = λ i low high before. absurd (⊎_elim (λ less. omega (arith, less)) (λ same. omega (arith, same.1, low)) before)

-- an item of another depth is passed over
not_last : (depth : ℕ → ℕ) (b i j : ℕ) → depth j ≢ b → depth i ≡ b → i < j + 1 → i < j
not_last depth b i j other same less = ⊎_elim (λ e. absurd (other (ap depth (sym e) ∙ same))) (λ no. omega (arith, no, less)) (cases_eq i j)

pub before_pass : (m : Problem) (depth : ℕ → ℕ) (R : ℕ → Type 0) (b j : ℕ) → depth j ≢ b → EachBefore m depth b j R → EachBefore m depth b (j + 1) R
before_pass m depth R b j other each = λ i low high before. each i low high (⊎_elim (λ less. inl less) (λ same. inr (same.0, not_last depth b i j other same.0 same.1)) before)

-- after the last item comes the next depth
pub before_next : (m : Problem) (depth : ℕ → ℕ) (R : ℕ → Type 0) (b : ℕ) → EachBefore m depth b (item_count m + 1) R → EachBefore m depth (b + 1) 1 R
before_next m depth R b each = λ i low high before. each i low high (⊎_elim
    (λ less. ⊎_elim (λ earlier. inl earlier) (λ late. inr (omega (arith, late, less), omega (arith, high))) (cases_lt (depth i) b))
    (λ same. absurd (omega (arith, same.1, low)))
    before)

pub before_all : (m : Problem) (depth : ℕ → ℕ) (R : ℕ → Type 0) (b : ℕ) → b ≡ item_count m + 1 → ((i : ℕ) → depth i ≤ item_count m) → EachBefore m depth b 1 R → EachItem m R
before_all m depth R b all small each = λ i low high. each i low high (inl (omega (arith, small i, all)))

-- the rows after one is put in place
pub put_here : (rows : List (List ℕ)) (row : List ℕ) (i j : ℕ) → i ≡ j → 1 ≤ j → j ≤ length rows → row_in (slice_set rows (j - 1) row) i ≡ row
put_here rows row i j same low high = ap (λ k. row_in (slice_set rows (j - 1) row) k) same ∙ get_or-set_same rows (j - 1) row [] (omega (arith, low, high))

pub put_else : (rows : List (List ℕ)) (row : List ℕ) (i j : ℕ) → i ≢ j → 1 ≤ i → 1 ≤ j → row_in (slice_set rows (j - 1) row) i ≡ row_in rows i
put_else rows row i j other i_low low = get_or-set_other rows (j - 1) (i - 1) row [] (λ same. other (omega (arith, same, i_low, low)))

-- a list takes the number of the next period
pub has_more : (n k x : ℕ) (f : ℕ → ℕ) (xs : List ℕ) → k ≡ n + 1 → HasEach n f xs → x ≡ f k → HasEach k f (xs ++ x ∷ [])
has_more n k x f xs next has is = record {
  size = omega (arith, length_push xs x, has.size, next);
  each = λ t low high. ⊎_elim
      (λ before. get_or_append_left xs (x ∷ []) 0 (t - 1) (omega (arith, before, low, has.size, next)) ∙ has.each t low (omega (arith, before, next)))
      (λ no. let e : t ≡ k = omega (arith, no, high) in get_or_push xs x 0 (t - 1) (omega (arith, e, has.size, next)) ∙ is ∙ ap f (sym e))
      (cases_lt t k);
}

pub has_none : (f : ℕ → ℕ) (xs : List ℕ) → xs ≡ [] → HasEach 0 f xs
has_none f xs none = record { size = ap length none; each = λ t low high. absurd (omega (arith, low, high)) }

-- a row of lists as it is read
pub row_read : (vs : List (Vec ℕ Global)) (j : ℕ) (v : Vec ℕ Global) (read : List ℕ) → 1 ≤ j → j ≤ length vs → v ≡ slice_index_or vs (j - 1) v → read ≡ v.items → read ≡ row_in (map (λ w. w.items) vs) j
row_read vs j v read low high is same = same ∙ ap (λ w. w.items) is ∙ sym (get_or-map (λ w. w.items) vs (j - 1) v [] (omega (arith, low, high)))
