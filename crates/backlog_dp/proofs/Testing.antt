-- What the test of potentials over lists says of the echelon.
use Rattle.std.proofs.Common.{◌≡◌, ◌≤◌, ◌+◌, ◌-◌, ◌∙◌, ℕ, refl, sym, ap, subst, arith, List, slice_index_or}
use Rattle.std.specs.Prelude.{Option, Result, Ok, Err, IfErr}
use Rattle.std.proofs.lemmas.Grind.{same_number_lists}
use Rattle.lot_sizing.specs.declared.Block.{Block}
use Rattle.lot_sizing.specs.Single.{position_count}
use Rattle.lot_sizing.specs.Net.{net_in}
use Rattle.echelon.specs.Views.{HasEach, list_to}
use Rattle.echelon.proofs.Singles.{list_each}
use Rattle.echelon_rows.specs.Rows.{Echelon, priced, single_with}
use Rattle.lin_rows.specs.declared.prices.Potentials.{Potentials}
use Rattle.lin_rows.specs.declared.fault.CutFault.{CutFault}
use Rattle.lin_rows.specs.declared.fault.CutFault.TheVariants.{Length, TooLarge, Potential, Sign, Memory}
use Rattle.backlog_dp.specs.Broken.{IsFirstBrokenOrNone}
use Rattle.backlog_dp.specs.BlockRow.{IsAllowed, IsBlockFault}

-- a list with a number for each period is that of these numbers
is_list : (n : ℕ) (f : ℕ → ℕ) (xs : List ℕ) → HasEach n f xs → xs ≡ list_to n f
is_list n f xs has =
    let other = list_each f n in
    same_number_lists xs (list_to n f) (has.size ∙ sym other.size) (λ k h.
    let e : k + 1 - 1 ≡ k = omega arith in
    let low : 1 ≤ k + 1 = omega arith in
    let high : k + 1 ≤ n = omega (arith, h, has.size) in
    subst (λ j. slice_index_or xs j 0 ≡ slice_index_or (list_to n f) j 0) e (has.each (k + 1) low high ∙ sym (other.each (k + 1) low high)))

-- the test over listed net demands is one over the echelon
pub on_echelon : (e : Echelon) (net setup unit hold back steps : List ℕ) (o : Option Block) → HasEach e.asked.periods (net_in e.asked) net → IsFirstBrokenOrNone (single_with net setup unit hold back e.owing) steps o → IsFirstBrokenOrNone (priced e setup unit hold back) steps o
on_echelon e net setup unit hold back steps o has found = subst (λ ns. IsFirstBrokenOrNone (single_with ns setup unit hold back e.owing) steps o) (is_list e.asked.periods (net_in e.asked) net has) found

-- there are as many positions
pub as_many : (e : Echelon) (net setup unit hold back : List ℕ) → HasEach e.asked.periods (net_in e.asked) net → position_count (single_with net setup unit hold back e.owing) ≡ position_count (priced e setup unit hold back)
as_many e net setup unit hold back has = ap (λ ns. position_count (single_with ns setup unit hold back e.owing)) (is_list e.asked.periods (net_in e.asked) net has)

-- where all is allowed, only memory can be wanting
pub memory_alone : (e : Echelon) (p : Potentials) (fault : CutFault) → IsBlockFault e p fault → IsAllowed e p → fault ≡ Memory
memory_alone e p Length why allowed = absurd (why allowed.lengths)
memory_alone e p TooLarge why allowed = absurd (why.1 allowed.small)
memory_alone e p (Potential first last server) why allowed = absurd (why.2.broken (allowed.blocks.blocks (record { first = first; last = last; server = server }) why.2.block))
memory_alone e p Sign why allowed = absurd why
memory_alone e p Memory why allowed = refl

pub memory_for : {A : Type 0} (e : Echelon) (p : Potentials) (result : Result A CutFault) → IfErr result (IsBlockFault e p) → IfErr result (λ fault. IsAllowed e p → fault ≡ Memory)
memory_for e p (Ok row) why = tt
memory_for e p (Err fault) why = memory_alone e p fault why
