-- Pegs as records.
use Rattle.std.proofs.Common.{◌≡◌, ◌≤◌, ◌<◌, ◌+◌, ◌^◌, ◌∙◌, ℕ, List, [], ◌∷◌, ◌++◌, decimal, map, length, slice_index_or, refl, ap, sym, subst, arith, take}
use Rattle.std.specs.Prelude.{codes}
use Rattle.std.specs.List.{All, flat_map}
use Rattle.std.proofs.lemmas.List.{map-append, take_all, take_more}
use Rattle.std.proofs.lemmas.List.Elements.{All-append, All-cons, All-head, All-nil, All-tail}
use Rattle.lot_sizing.specs.Problem.{IsWithinLimits, Problem, item_at}
use Rattle.csv_records.specs.Records.{Record}
use Rattle.csv_records.specs.Written.{IsPlain, IsPlainRecord, line_of, records_text}
use Rattle.csv_records.proofs.Names.{plain_name}
use Rattle.csv_records.proofs.Plain.{plain_both, plain_number, rows_are_lines}
use Rattle.pegging.specs.Sums.{IndicesExist, IsItemOf, IsSupplyOf, IsTargetOf}
use Rattle.pegging.specs.Texts.{header, peg_fields, peg_record, pegs_header, pegs_text, supply_text, target_text}
use Rattle.pegging.specs.declared.pegs.Peg.{Peg}
use Rattle.pegging.specs.declared.pegs.Supply.{Supply}
use Rattle.pegging.specs.declared.pegs.Supply.TheVariants.{Opening, Lot}
use Rattle.pegging.specs.declared.pegs.Target.{Target}
use Rattle.pegging.specs.declared.pegs.Target.TheVariants.{Demand, Part, End}

-- one record more
pub rows_next : (m : Problem) (pegs : List Peg) (i : ℕ) (none : Peg) → i < length pegs → (header ∷ map (peg_fields m) (take i pegs)) ++ (peg_fields m (slice_index_or pegs i none) ∷ []) ≡ header ∷ map (peg_fields m) (take (i + 1) pegs)
rows_next m pegs i none less = ap (λ (rs : List Record). header ∷ rs) (sym (map-append (peg_fields m) (take i pegs) (slice_index_or pegs i none ∷ [])) ∙ ap (map (peg_fields m)) (sym (take_more pegs i none less)))

pub rows_all : (m : Problem) (pegs : List Peg) (i : ℕ) → length pegs ≤ i → header ∷ map (peg_fields m) (take i pegs) ≡ header ∷ map (peg_fields m) pegs
rows_all m pegs i all = ap (λ ys. header ∷ map (peg_fields m) ys) (take_all i pegs all)

pub fit_next : (pegs : List Peg) (i : ℕ) (none : Peg) → i < length pegs → All (λ peg. peg.quantity < 2 ^ 64) (take i pegs) → (slice_index_or pegs i none).quantity < 2 ^ 64 → All (λ peg. peg.quantity < 2 ^ 64) (take (i + 1) pegs)
fit_next pegs i none less before here =
    let P = λ (peg : Peg). peg.quantity < 2 ^ 64 in
    subst (All P) (sym (take_more pegs i none less)) (All-append P (take i pegs) (slice_index_or pegs i none ∷ []) before (All-cons P (slice_index_or pegs i none) [] here (All-nil P)))

-- no field needs quotes
module _ (m : Problem) (limits : IsWithinLimits m) where
  item_plain : (i : ℕ) → IsItemOf m i → IsPlain (item_at m i).name
  item_plain i is = plain_name (item_at m i).name (limits.each_item i is.0 is.1).name

  period_plain : (t : ℕ) → t ≤ m.periods → IsPlain (decimal t)
  period_plain t high = plain_number t (omega (arith, high, limits.periods))

  supply_plain : (s : Supply) → IsSupplyOf m s → IsPlain (supply_text s)
  supply_plain Opening is = refl
  supply_plain (Lot t) is = plain_both (codes "lot ") (decimal t) refl (period_plain t is.1)

  target_plain : (d : Target) → IsTargetOf m d → IsPlain (target_text m d)
  target_plain (Demand t) is = plain_both (codes "demand ") (decimal t) refl (period_plain t is.1)
  target_plain (Part j t) is = plain_both (codes "use ") ((item_at m j).name ++ (codes " " ++ decimal t)) refl (plain_both (item_at m j).name (codes " " ++ decimal t) (item_plain j is.0) (plain_both (codes " ") (decimal t) refl (period_plain t is.1.1)))
  target_plain End is = refl

  peg_plain : (peg : Peg) → IndicesExist m peg → IsPlain (decimal peg.quantity) → IsPlainRecord (peg_fields m peg)
  peg_plain peg exist quantity = record {
    some = λ e. cc e;
    shown = λ e. cc e;
    plain = rw (item_plain peg.item exist.item, supply_plain peg.from exist.from, target_plain peg.to exist.to, quantity) refl;
  }

  rows_plain : (pegs : List Peg) → All (IndicesExist m) pegs → All (λ peg. peg.quantity < 2 ^ 64) pegs → All IsPlainRecord (map (peg_fields m) pegs)
  rows_plain [] exist fit = All-nil IsPlainRecord
  rows_plain (x ∷ pegs) exist fit =
      All-cons IsPlainRecord (peg_fields m x) (map (peg_fields m) pegs)
      (peg_plain x (All-head (IndicesExist m) x pegs exist) (plain_number x.quantity (omega (arith, All-head (λ peg. peg.quantity < 2 ^ 64) x pegs fit))))
      (rows_plain pegs (All-tail (IndicesExist m) x pegs exist) (All-tail (λ peg. peg.quantity < 2 ^ 64) x pegs fit))

  header_plain : IsPlainRecord header
  header_plain = record { some = λ e. cc e; shown = λ e. cc e; plain = refl }

  lines_are : (pegs : List Peg) → flat_map line_of (map (peg_fields m) pegs) ≡ flat_map (peg_record m) pegs
  lines_are [] = refl
  lines_are (x ∷ pegs) = ap (λ t. peg_record m x ++ t) (lines_are pegs)

  -- the text of the records
  pub pegs_written : (pegs : List Peg) → All (IndicesExist m) pegs → All (λ peg. peg.quantity < 2 ^ 64) pegs → records_text (header ∷ map (peg_fields m) pegs) ≡ pegs_text m pegs
  pegs_written pegs exist fit =
      rows_are_lines (header ∷ map (peg_fields m) pegs) (All-cons IsPlainRecord header (map (peg_fields m) pegs) header_plain (rows_plain pegs exist fit)) ∙ ap (λ t. pegs_header ++ t) (lines_are pegs)
