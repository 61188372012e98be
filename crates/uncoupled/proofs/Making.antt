-- The steps of the loops that make cuts and parts: what is made, and what is left to make, is the whole.
use Rattle.std.proofs.Common.{◌≡◌, ◌≤◌, ◌<◌, ◌+◌, ◌-◌, ◌∙◌, ℕ, suc, sym, ap, arith, List, [], ◌∷◌, ◌++◌, append_assoc, append-nil}
use Rattle.std.specs.Prelude.{pos, negsuc}
use Rattle.lin_rows.specs.declared.base.RowName.TheVariants.{Balance, Cut}
use Rattle.lin_rows.specs.declared.prices.Potentials.{Potentials}
use Rattle.cert_lines.specs.declared.parts.Part.{Part}
use Rattle.cert_lines.specs.Shapes.{BlockCut, CutShape, block_lists}
use Rattle.uncoupled.specs.Blocks.{block_cuts, each_once}
use Rattle.uncoupled.specs.NoRoom.{balances, part}

-- ---- block cuts
pub cuts_next : (done new all : List CutShape) (i : ℕ) (p : Potentials) (rest : List Potentials) → done ++ block_cuts i (p ∷ rest) ≡ all → new ≡ done ++ (BlockCut i (block_lists p) ∷ []) → new ++ block_cuts (i + 1) rest ≡ all
cuts_next done new all i p rest before is =
    let e : i + 1 ≡ suc i = omega arith in
    ap (λ xs. xs ++ block_cuts (i + 1) rest) is
    ∙ append_assoc done (BlockCut i (block_lists p) ∷ []) (block_cuts (i + 1) rest)
    ∙ ap (λ k. done ++ (BlockCut i (block_lists p) ∷ block_cuts k rest)) e
    ∙ before

-- ---- cuts that are taken once
pub once_next : (done new : List Part) (k count : ℕ) → k < count + 1 → done ++ each_once k (count + 1 - k) ≡ each_once 1 count → new ≡ done ++ (part (Cut k) (pos 1) ∷ []) → new ++ each_once (k + 1) (count + 1 - (k + 1)) ≡ each_once 1 count
once_next done new k count less before is =
    let left = count + 1 - (k + 1) in
    let e : suc left ≡ count + 1 - k = omega (arith, less) in
    let next : k + 1 ≡ suc k = omega arith in
    ap (λ xs. xs ++ each_once (k + 1) left) is
    ∙ append_assoc done (part (Cut k) (pos 1) ∷ []) (each_once (k + 1) left)
    ∙ ap (λ j. done ++ (part (Cut k) (pos 1) ∷ each_once j left)) next
    ∙ ap (λ n. done ++ each_once k n) e
    ∙ before

pub once_first : (count : ℕ) → each_once 1 (count + 1 - 1) ≡ each_once 1 count
once_first count = let e : count + 1 - 1 ≡ count = omega arith in ap (each_once 1) e

pub once_last : (done : List Part) (k count : ℕ) → count + 1 ≤ k → done ++ each_once k (count + 1 - k) ≡ each_once 1 count → done ≡ each_once 1 count
once_last done k count most all =
    let e : count + 1 - k ≡ 0 = omega (arith, most) in
    sym (append-nil done) ∙ sym (ap (λ n. done ++ each_once k n) e) ∙ all

-- ---- balances
pub balances_next : (done new : List Part) (i t : ℕ) → 1 ≤ t → done ≡ balances i (t - 1) → new ≡ done ++ (part (Balance i t) (negsuc 0) ∷ []) → new ≡ balances i (t + 1 - 1)
balances_next done new i t low before is =
    let e : suc (t - 1) ≡ t = omega (arith, low) in
    let same : suc (t - 1) ≡ t + 1 - 1 = omega (arith, low) in
    is ∙ ap (λ xs. xs ++ (part (Balance i t) (negsuc 0) ∷ [])) before
    ∙ ap (λ k. balances i (t - 1) ++ (part (Balance i k) (negsuc 0) ∷ [])) (sym e)
    ∙ ap (balances i) same
