-- Rows that are put together from lists.
use Rattle.std.proofs.Common.{◌≡◌, ◌*◌, ◌∙◌, ℕ, ap, subst, List, [], ◌++◌, length}
use Rattle.std.specs.Prelude.{pos, Bool}
use Rattle.lot_sizing.specs.Problem.{entry}
use Rattle.echelon.specs.declared.net.EchelonItem.{EchelonItem}
use Rattle.echelon.specs.Views.{HasEach, marked}
use Rattle.lin_rows.specs.declared.column.Column.{Column}
use Rattle.lin_rows.specs.declared.column.Column.TheVariants.{X, Y, S, R}
use Rattle.lin_rows.specs.declared.row.Term.{Term}
use Rattle.lin_rows.specs.Base.{some_terms, term}
use Rattle.lin_rows.specs.Made.{PutTerms}
use Rattle.lin_rows.proofs.Terms.{put_then}
use Rattle.echelon_rows.specs.Rows.{cells_to, cost_terms, echelon_in, owed_by, owed_times, periods_to}
use Rattle.echelon_rows.proofs.Lists.{cells_same, periods_same}

-- a list by periods, as terms
pub list_terms : (n : ℕ) (f : ℕ → ℕ) (xs : List ℕ) (c : ℕ → Column) → HasEach n f xs → periods_to (length xs) (λ t. term (c t) (pos (entry xs t))) ≡ periods_to n (λ t. term (c t) (pos (f t)))
list_terms n f xs c has = ap (λ k. periods_to k (λ t. term (c t) (pos (entry xs t)))) has.size ∙ periods_same n (λ t. term (c t) (pos (entry xs t))) (λ t. term (c t) (pos (f t))) (λ t low high. ap (λ x. term (c t) (pos x)) (has.each t low high))

-- and weighed item by item
pub list_cells : (items n : ℕ) (f : ℕ → ℕ) (k : ℕ → ℕ → ℕ) (xs : List ℕ) (c : ℕ → ℕ → Column) → HasEach n f xs → cells_to items (length xs) (λ j t. term (c j t) (pos (entry xs t * k j t))) ≡ cells_to items n (λ j t. term (c j t) (pos (f t * k j t)))
list_cells items n f k xs c has = ap (λ m. cells_to items m (λ j t. term (c j t) (pos (entry xs t * k j t)))) has.size ∙ cells_same items n (λ j t. term (c j t) (pos (entry xs t * k j t))) (λ j t. term (c j t) (pos (f t * k j t))) (λ j t j_low j_high low high. ap (λ x. term (c j t) (pos (x * k j t))) (has.each t low high))

-- terms that were put one after the other
pub put_three : (a b c first second third : List Term) → PutTerms [] a first → PutTerms first b second → PutTerms second c third → third ≡ some_terms (a ++ (b ++ c))
put_three a b c first second third one two three = put_then [] a first (b ++ c) third one (put_then first b second c third two three)

pub put_four : (a b c d first second third fourth : List Term) → PutTerms [] a first → PutTerms first b second → PutTerms second c third → PutTerms third d fourth → fourth ≡ some_terms (a ++ (b ++ (c ++ d)))
put_four a b c d first second third fourth one two three four = put_then [] a first (b ++ (c ++ d)) fourth one (put_then first b second (c ++ d) fourth two (put_then second c third d fourth three four))

-- the terms of costs, put over lists that were lent
pub cost_put : (e : EchelonItem) (times : ℕ → ℕ) (setup unit hold back : List ℕ) (start first second third fourth : List Term) (vs ws : List ℕ) (marks : List Bool) (T : ℕ)
    → HasEach (length e.demand.items) times setup → length unit ≡ length e.demand.items → length hold ≡ length e.demand.items → length back ≡ length e.demand.items
    → start ≡ [] → vs ≡ e.weights.items → ws ≡ e.weights.items → marks ≡ e.backs.items → T ≡ length e.demand.items
    → PutTerms start (periods_to (length unit) (λ t. term (X e.item t) (pos (entry unit t)))) first
    → PutTerms first (periods_to (length setup) (λ t. term (Y e.item t) (pos (entry setup t)))) second
    → PutTerms second (cells_to (length vs) (length hold) (λ j t. term (S j t) (pos (entry hold t * entry vs j)))) third
    → PutTerms third (cells_to (length ws) (length back) (λ j t. term (R j t) (pos (entry back t * owed_by T (marked marks j) (entry ws j) t)))) fourth
    → fourth ≡ some_terms (cost_terms (echelon_in e) times (entry unit) (entry hold) (entry back))
cost_put e times setup unit hold back start first second third fourth vs ws marks T has size_u size_h size_b none is_v is_w is_m is_T one two three four =
    let E = echelon_in e in
    let n = E.asked.periods in
    put_four (periods_to n (λ t. term (X e.item t) (pos (entry unit t)))) (periods_to n (λ t. term (Y e.item t) (pos (times t)))) (cells_to E.items n (λ j t. term (S j t) (pos (entry hold t * E.weight j)))) (cells_to E.items n (λ j t. term (R j t) (pos (entry back t * owed_times E j t)))) first second third fourth
    (subst (λ k. PutTerms [] (periods_to k (λ t. term (X e.item t) (pos (entry unit t)))) first) size_u (subst (λ old. PutTerms old (periods_to (length unit) (λ t. term (X e.item t) (pos (entry unit t)))) first) none one))
    (subst (λ ts. PutTerms first ts second) (list_terms n times setup (λ t. Y e.item t) has) two)
    (subst (λ k. PutTerms second (cells_to E.items k (λ j t. term (S j t) (pos (entry hold t * E.weight j)))) third) size_h (subst (λ list. PutTerms second (cells_to (length list) (length hold) (λ j t. term (S j t) (pos (entry hold t * entry list j)))) third) is_v three))
    (subst (λ k. PutTerms third (cells_to E.items k (λ j t. term (R j t) (pos (entry back t * owed_times E j t)))) fourth) size_b
    (subst (λ k. PutTerms third (cells_to (length e.weights.items) (length back) (λ j t. term (R j t) (pos (entry back t * owed_by k (marked e.backs.items j) (entry e.weights.items j) t)))) fourth) is_T
    (subst (λ list. PutTerms third (cells_to (length e.weights.items) (length back) (λ j t. term (R j t) (pos (entry back t * owed_by T (marked list j) (entry e.weights.items j) t)))) fourth) is_m
    (subst (λ list. PutTerms third (cells_to (length list) (length back) (λ j t. term (R j t) (pos (entry back t * owed_by T (marked marks j) (entry list j) t)))) fourth) is_w four))))
