-- Runs as sequences of dictionaries.
use Rattle.std.proofs.Common.{◌≡◌, ◌≢◌, ◌≤◌, ◌<◌, ◌+◌, ◌-◌, ◌∙◌, ⊎_elim, ℕ, zero, suc, refl, sym, ap, subst, arith}
use Rattle.std.proofs.lemmas.Bool.{cases_eq}
use Rattle.std.specs.Prelude.{◌^◌, if◌then◌else◌, ◌==◌}
use Rattle.tableau.specs.Program.{Program}
use Rattle.tableau.specs.Dictionary.{Dictionary, IsStart}
use Rattle.tableau.specs.Meaning.{IsDictionaryOf}
use Rattle.tableau.specs.Run.{IsLeastIndex, IsStep, Runs}
use Rattle.tableau.specs.Laws.{DictionariesAreKept}
use Rattle.least_index.specs.Basis.{HasSameBasis, Leads, is_basic, variable_count}
use Rattle.least_index.specs.Laws.{NoBasisComesTwice, RunsAreShort}
use Rattle.least_index.proofs.Numbers.{if_other, if_same}
use Rattle.least_index.proofs.Sequences.{mask, mask_less, mask_same, pigeons}
use Rattle.least_index.proofs.Cycles.{IsPath, no_return}

-- the dictionaries from one to another
pub record IsWay (d : Dictionary) (n : ℕ) (e : Dictionary) (f : ℕ → Dictionary) : Type 0 where
  pub first : f 0 ≡ d
  pub last : f n ≡ e
  pub steps : (k : ℕ) → k < n → IsStep IsLeastIndex (f k) (f (k + 1))

way_more : (n : ℕ) (d m e : Dictionary) (f : ℕ → Dictionary) → IsWay d n m f → IsStep IsLeastIndex m e → IsWay d (suc n) e (λ k. if k == suc n then e else f k)
way_more n d m e f way step = record {
  first = if_other 0 (suc n) e (f 0) (λ z. omega (arith, z)) ∙ way.first;
  last = if_same (suc n) (suc n) e (f (suc n)) refl;
  steps = λ k less. ⊎_elim
      (λ same. subst (λ x. IsStep IsLeastIndex x (new (k + 1))) (sym (if_other k (suc n) e (f k) (λ z. omega (arith, z, same)))) (subst (IsStep IsLeastIndex (f k)) (sym (if_same (k + 1) (suc n) e (f (k + 1)) (omega (arith, same)))) (subst (λ x. IsStep IsLeastIndex x e) (sym (ap f same ∙ way.last)) step)))
      (λ apart. subst (λ x. IsStep IsLeastIndex x (new (k + 1))) (sym (if_other k (suc n) e (f k) (λ z. omega (arith, z, less)))) (subst (IsStep IsLeastIndex (f k)) (sym (if_other (k + 1) (suc n) e (f (k + 1)) (λ z. omega (arith, z, apart)))) (way.steps k (omega (arith, less, apart)))))
      (cases_eq k n);
}
  where
    new : ℕ → Dictionary
    new k = if k == suc n then e else f k

pub way_of : (d : Dictionary) (n : ℕ) (e : Dictionary) → Leads IsLeastIndex d n e → (f : ℕ → Dictionary) × IsWay d n e f
way_of d zero e is = ((λ k. d), record { first = refl; last = sym is; steps = λ k less. absurd (omega (arith, less)) })
way_of d (suc n) e leads =
    let (m, before, step) = leads in
    let (f, way) = way_of d n m before in
    ((λ k. if k == suc n then e else f k), way_more n d m e f way step)

-- a run leads from the first dictionary
pub run_leads : (p : Program) (n : ℕ) (e : Dictionary) → Runs IsLeastIndex p n e → (d : Dictionary) × IsStart p d × Leads IsLeastIndex d n e
run_leads p zero e start = (e, start, refl)
run_leads p (suc n) e run =
    let (m, before, step) = run in
    let (d, start, leads) = run_leads p n m before in
    (d, start, (m, leads, step))

module _ (kept : DictionariesAreKept) (p : Program) where
  one_step : (d e : Dictionary) → IsDictionaryOf p d → IsStep IsLeastIndex d e → IsDictionaryOf p e
  one_step d e is step = (kept p).pivot d e step.row step.column is (record {
    low = step.chosen.leaving.low;
    high = step.chosen.leaving.high;
    candidate = step.chosen.entering.candidate;
    least = step.chosen.entering.least;
    pivoted = step.pivoted;
  })

  pub run_is : (n : ℕ) (d : Dictionary) → Runs IsLeastIndex p n d → IsDictionaryOf p d
  run_is zero d start = (kept p).start d start
  run_is (suc n) e run = let (d, before, step) = run in one_step d e (run_is n d before) step

  module _ (n : ℕ) (d e : Dictionary) (f : ℕ → Dictionary) (is : IsDictionaryOf p d) (way : IsWay d n e f) where
    are : (k : ℕ) → k ≤ n → IsDictionaryOf p (f k)
    are zero high = subst (IsDictionaryOf p) (sym way.first) is
    are (suc k) high = subst (λ m. IsDictionaryOf p (f m)) (next k) (one_step (f k) (f (k + 1)) (are k (omega (arith, high))) (way.steps k (omega (arith, high))))
      where
        next : (k : ℕ) → k + 1 ≡ suc k
        next k = omega arith

    part : (from to : ℕ) → from ≤ to → to ≤ n → IsPath p (to - from) (λ k. f (from + k))
    part from to up high = record {
      are = λ k small. are (from + k) (omega (arith, small, up, high));
      steps = λ k less. subst (λ m. IsStep IsLeastIndex (f (from + k)) (f m)) (place from k) (way.steps (from + k) (omega (arith, less, up, high)));
    }
      where
        place : (from k : ℕ) → from + k + 1 ≡ from + (k + 1)
        place from k = omega arith

    -- two of them have different bases
    pub bases_apart : (from to : ℕ) → from < to → to ≤ n → HasSameBasis p (f from) (f to) → ⊥
    bases_apart from to up high same = no_return p (to - from) (λ k. f (from + k)) (part from to (omega (arith, up)) high) both (omega (arith, up))
      where
        start : from + 0 ≡ from
        start = omega arith

        end : from + (to - from) ≡ to
        end = omega (arith, up)

        both : HasSameBasis p (f (from + 0)) (f (from + (to - from)))
        both v low v_high = ap (λ m. is_basic (f m) v) start ∙ same v low v_high ∙ ap (λ m. is_basic (f m) v) (sym end)

    -- the number of a basis
    abbrev basis : ℕ → ℕ
    basis k = mask (variable_count p) (λ v. is_basic (f k) (v + 1))

    pub few : n < 2 ^ variable_count p
    few = omega (arith, pigeons (2 ^ variable_count p) (n + 1) basis (λ k less. mask_less (variable_count p) (λ v. is_basic (f k) (v + 1))) apart)
      where
        apart : (k h : ℕ) → k < h → h < n + 1 → basis k ≢ basis h
        apart k h less high same = bases_apart k h less (omega (arith, high)) both
          where
            both : HasSameBasis p (f k) (f h)
            both v low v_high =
                let is : v - 1 + 1 ≡ v = omega (arith, low) in
                ap (is_basic (f k)) (sym is) ∙ mask_same (variable_count p) (λ u. is_basic (f k) (u + 1)) (λ u. is_basic (f h) (u + 1)) same (v - 1) (omega (arith, low, v_high)) ∙ ap (is_basic (f h)) is

pub twice : DictionariesAreKept → NoBasisComesTwice
twice kept p before between d e run leads some same =
    let (f, way) = way_of d between e leads in
    bases_apart kept p between d e f (run_is kept p before d run) way 0 between (omega (arith, some)) (omega arith)
    (λ v low high. ap (λ g. is_basic g v) way.first ∙ same v low high ∙ ap (λ g. is_basic g v) (sym way.last))

pub short : DictionariesAreKept → RunsAreShort
short kept p pivots e run =
    let (d, start, leads) = run_leads p pivots e run in
    let (f, way) = way_of d pivots e leads in
    few kept p pivots d e f ((kept p).start d start) way
