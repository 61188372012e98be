-- The row's terms by lists of how often each column is taken.
use Rattle.std.proofs.Common.{◌≡◌, ◌≤◌, ◌*◌, ◌∙◌, ℕ, zero, suc, sym, ap, subst, arith, Bool, true, false, List, [], ◌++◌, length, Vec, Global}
use Rattle.std.specs.Prelude.{if◌then◌else◌, pos, Result, Ok, Err, IfOk}
use Rattle.lot_sizing.specs.Problem.{AllAtMost, entry}
use Rattle.lot_sizing.proofs.Sums.{sum_to-front}
use Rattle.echelon.specs.declared.net.EchelonItem.{EchelonItem}
use Rattle.echelon.specs.declared.net.TheConstants.{MAX_ASKED}
use Rattle.echelon.specs.Views.{HasEach, IsEchelonWithinBounds, asked_of_echelon, marked}
use Rattle.lin_rows.specs.declared.column.Column.TheVariants.{X, Y, R}
use Rattle.lin_rows.specs.declared.row.Term.{Term}
use Rattle.lin_rows.specs.Base.{some_terms, term}
use Rattle.lin_rows.specs.Made.{PutTerms}
use Rattle.valid_inequalities.specs.Inequalities.{demand_between}
use Rattle.valid_inequalities.proofs.Ls.{demand_all, demand_split}
use Rattle.echelon_rows.specs.Rows.{cells_to, echelon_in, owed_by, owed_times, periods_to}
use Rattle.echelon_rows.proofs.Built.{list_cells, list_terms, put_three}
use Rattle.echelon_rows.proofs.Lists.{each_at_most}
use Rattle.ls_cuts.specs.Rows.{Periods, backlog_times, ls_row, ls_terms, setup_times, unit_times}

-- terms that were put one after the other, over lists that were lent
pub ls_put : (e : EchelonItem) (units setups backlogs : List ℕ) (start first second third : List Term) (ws : List ℕ) (marks : List Bool) (T : ℕ)
    → start ≡ [] → ws ≡ e.weights.items → marks ≡ e.backs.items → T ≡ length e.demand.items
    → PutTerms start (periods_to (length units) (λ t. term (X e.item t) (pos (entry units t)))) first
    → PutTerms first (periods_to (length setups) (λ t. term (Y e.item t) (pos (entry setups t)))) second
    → PutTerms second (cells_to (length ws) (length backlogs) (λ j t. term (R j t) (pos (entry backlogs t * owed_by T (marked marks j) (entry ws j) t)))) third
    → third ≡ some_terms (periods_to (length units) (λ t. term (X e.item t) (pos (entry units t))) ++ (periods_to (length setups) (λ t. term (Y e.item t) (pos (entry setups t))) ++ cells_to (length e.weights.items) (length backlogs) (λ j t. term (R j t) (pos (entry backlogs t * owed_times (echelon_in e) j t)))))
ls_put e units setups backlogs start first second third ws marks T none is_w is_m is_T one two three =
    let n = length backlogs in
    put_three (periods_to (length units) (λ t. term (X e.item t) (pos (entry units t)))) (periods_to (length setups) (λ t. term (Y e.item t) (pos (entry setups t)))) (cells_to (length e.weights.items) n (λ j t. term (R j t) (pos (entry backlogs t * owed_times (echelon_in e) j t)))) first second third
    (subst (λ old. PutTerms old (periods_to (length units) (λ t. term (X e.item t) (pos (entry units t)))) first) none one)
    two
    (subst (λ k. PutTerms second (cells_to (length e.weights.items) n (λ j t. term (R j t) (pos (entry backlogs t * owed_by k (marked e.backs.items j) (entry e.weights.items j) t)))) third) is_T
    (subst (λ list. PutTerms second (cells_to (length e.weights.items) n (λ j t. term (R j t) (pos (entry backlogs t * owed_by T (marked list j) (entry e.weights.items j) t)))) third) is_m
    (subst (λ list. PutTerms second (cells_to (length list) n (λ j t. term (R j t) (pos (entry backlogs t * owed_by T (marked marks j) (entry list j) t)))) third) is_w three)))

-- those lists have what the row takes
ls_listed : (e : EchelonItem) (l : ℕ) (chosen : Periods) (xs ys rs us vs ts : List ℕ) (terms : List Term)
    → us ≡ xs → vs ≡ ys → ts ≡ rs → HasEach l (unit_times chosen) xs → HasEach l (setup_times (asked_of_echelon e) l chosen) ys → HasEach l (backlog_times l chosen) rs
    → terms ≡ some_terms (periods_to (length us) (λ t. term (X e.item t) (pos (entry us t))) ++ (periods_to (length vs) (λ t. term (Y e.item t) (pos (entry vs t))) ++ cells_to (length e.weights.items) (length ts) (λ j t. term (R j t) (pos (entry ts t * owed_times (echelon_in e) j t)))))
    → terms ≡ some_terms (ls_terms (echelon_in e) l chosen)
ls_listed e l chosen xs ys rs us vs ts terms is_u is_v is_t has_x has_y has_r is =
    let E = echelon_in e in
    let A = λ (zs : List ℕ). periods_to (length zs) (λ t. term (X e.item t) (pos (entry zs t))) in
    let B = λ (zs : List ℕ). periods_to (length zs) (λ t. term (Y e.item t) (pos (entry zs t))) in
    let C = λ (zs : List ℕ). cells_to (length e.weights.items) (length zs) (λ j t. term (R j t) (pos (entry zs t * owed_times E j t))) in
    let a : A us ≡ periods_to l (λ t. term (X e.item t) (pos (unit_times chosen t))) = ap A is_u ∙ list_terms l (unit_times chosen) xs (λ t. X e.item t) has_x in
    let b : B vs ≡ periods_to l (λ t. term (Y e.item t) (pos (setup_times E.asked l chosen t))) = ap B is_v ∙ list_terms l (setup_times E.asked l chosen) ys (λ t. Y e.item t) has_y in
    let c : C ts ≡ cells_to E.items l (λ j t. term (R j t) (pos (backlog_times l chosen t * owed_times E j t))) = ap C is_t ∙ list_cells E.items l (backlog_times l chosen) (owed_times E) rs (λ j t. R j t) has_r in
    is ∙ ap (λ zs. some_terms (zs ++ (B vs ++ C ts))) a
    ∙ ap (λ zs. some_terms (periods_to l (λ t. term (X e.item t) (pos (unit_times chosen t))) ++ (zs ++ C ts))) b
    ∙ ap (λ zs. some_terms (periods_to l (λ t. term (X e.item t) (pos (unit_times chosen t))) ++ (periods_to l (λ t. term (Y e.item t) (pos (setup_times E.asked l chosen t))) ++ zs))) c

pub listed_result : {F : Type 0} (e : EchelonItem) (l : ℕ) (chosen : Periods) (xs ys rs us vs ts : List ℕ)
    → us ≡ xs → vs ≡ ys → ts ≡ rs → HasEach l (unit_times chosen) xs → HasEach l (setup_times (asked_of_echelon e) l chosen) ys → HasEach l (backlog_times l chosen) rs
    → (r : Result (Vec Term Global) F)
    → IfOk r (λ terms. terms.items ≡ some_terms (periods_to (length us) (λ t. term (X e.item t) (pos (entry us t))) ++ (periods_to (length vs) (λ t. term (Y e.item t) (pos (entry vs t))) ++ cells_to (length e.weights.items) (length ts) (λ j t. term (R j t) (pos (entry ts t * owed_times (echelon_in e) j t))))))
    → IfOk r (λ terms. terms.items ≡ (ls_row (echelon_in e) l chosen).terms)
listed_result e l chosen xs ys rs us vs ts is_u is_v is_t has_x has_y has_r (Ok terms) is = ls_listed e l chosen xs ys rs us vs ts terms.items is_u is_v is_t has_x has_y has_r is
listed_result e l chosen xs ys rs us vs ts is_u is_v is_t has_x has_y has_r (Err fault) is = is

-- ---- the numbers are small
between_most : (e : EchelonItem) (t l : ℕ) → IsEchelonWithinBounds e → 1 ≤ t → t ≤ l → l ≤ length e.demand.items → demand_between (asked_of_echelon e) t l ≤ MAX_ASKED
between_most e zero l within low high last = absurd (omega (arith, low))
between_most e (suc t) l within low high last =
    let a = asked_of_echelon e in
    omega (arith, demand_split a t l (omega (arith, high)), demand_all a l, sum_to-front l (length e.demand.items) (entry e.demand.items) last, within.asked)

chosen_most : (b : Bool) (n most : ℕ) → n ≤ most → (if b then n else 0) ≤ most
chosen_most true n most h = h
chosen_most false n most h = omega arith

pub setups_small : (e : EchelonItem) (l : ℕ) (chosen : Periods) (ys vs : List ℕ) → IsEchelonWithinBounds e → l ≤ length e.demand.items → vs ≡ ys → HasEach l (setup_times (asked_of_echelon e) l chosen) ys → AllAtMost MAX_ASKED vs
setups_small e l chosen ys vs within last is has = subst (AllAtMost MAX_ASKED) (sym is) (each_at_most l MAX_ASKED (setup_times (asked_of_echelon e) l chosen) ys has (λ t low high. chosen_most (chosen t) (demand_between (asked_of_echelon e) t l) MAX_ASKED (between_most e t l within low high last)))

owed_most : (l : ℕ) (chosen : Periods) (t : ℕ) → backlog_times l chosen t ≤ 1
owed_most l chosen t = grind arith

pub backlogs_small : (l : ℕ) (chosen : Periods) (rs ts : List ℕ) → ts ≡ rs → HasEach l (backlog_times l chosen) rs → AllAtMost 1 ts
backlogs_small l chosen rs ts is has = subst (AllAtMost 1) (sym is) (each_at_most l 1 (backlog_times l chosen) rs has (λ t low high. owed_most l chosen t))
