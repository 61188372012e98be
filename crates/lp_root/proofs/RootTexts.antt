-- The lines of the root's cuts and of its leaf are within the limits of a certificate's text.
use Rattle.std.proofs.Common.{◌≡◌, ◌≤◌, ◌<◌, ◌+◌, ◌^◌, ℕ, zero, suc, refl, sym, subst, arith, Bool, true, false, List, [], ◌∷◌, ◌++◌, length, length-append, slice_index_or}
use Rattle.std.specs.Prelude.{codes, decimal, ℤ, pos, negsuc, ◌≤ℤ◌, unsigned_abs, Option, Some, None, IfSome, IsNone, IsSomeAnd}
use Rattle.std.specs.Fmt.{signed_decimal}
use Rattle.std.specs.List.{All}
use Rattle.std.proofs.lemmas.Fmt.{length-decimal-le_wide}
use Rattle.std.proofs.lemmas.Int.{ints}
use Rattle.std.proofs.lemmas.List.Elements.{All-append, All-cons, All-nil}
use Rattle.frac128.specs.Limits.{IsSmall}
use Rattle.lot_sizing.specs.Problem.{IsPlain, IsWithinLimits, Problem}
use Rattle.lot_sizing.specs.Bill.{AreWeights, bill_of}
use Rattle.lot_sizing.specs.Totals.{AreLargestTotals}
use Rattle.lin_rows.specs.declared.base.RowName.{RowName}
use Rattle.lin_rows.specs.declared.base.RowName.TheVariants.{Balance, Link, Capacity, EndMin, EndMax, Top, Least, Late, Path, Cut as CutRow}
use Rattle.lin_rows.specs.Columns.{IsCell}
use Rattle.lin_rows.specs.Rows.{LinRow}
use Rattle.lin_rows.specs.Texts.{name_text, one_text, two_text}
use Rattle.cert_lines.specs.declared.limits.TheConstants.{MAX_CUTS, MAX_PARTS}
use Rattle.cert_lines.specs.declared.parts.Leaf.{Leaf}
use Rattle.cert_lines.specs.declared.parts.Part.{Part}
use Rattle.cert_lines.specs.Limits.{Is32, Is127, IsSmallPart}
use Rattle.cert_lines.specs.Line.{HasLine, IsFirstName, IsSmallName}
use Rattle.cert_lines.specs.Shapes.{CutShape, FarkasLeaf, FarkasLine, LeafShape, LinearLeaf, LinearLine, LsCut, PartLine, PriceCut, BlockCut, RoundCut, leaf_shape}
use Rattle.cert_lines.specs.Text.{bits_text}
use Rattle.cert_lines.proofs.Joins.{bits_length as bits_long}
use Rattle.certificate.specs.Values.{AreLines, all_cut_values, cut_values, leaf_values, part_values}
use Rattle.certificate.proofs.Shorts.{lines_join, parts_join}
use Rattle.cert_meaning.specs.declared.says.LeafSays.{LeafSays}
use Rattle.cert_meaning.specs.declared.says.LeafSays.TheVariants.{NoPlan, AtLeast}
use Rattle.cert_meaning.specs.CutRows.{IsCutRow}
use Rattle.cert_meaning.specs.Named.{HasName}
use Rattle.cert_meaning.specs.Parts.{AreParts}
use Rattle.lp_relaxation.specs.declared.program.Side.{Side}
use Rattle.lp_relaxation.specs.Rounds.{IsLs, at_root, round_sides}
use Rattle.lp_relaxation.specs.Sides.{part_of, parts_of, turn}
use Rattle.lp_bounds.proofs.Writing.{count_short}
use Rattle.search_result.specs.declared.found.RootSays.{RootSays}
use Rattle.search_result.specs.declared.found.RootSays.TheVariants as root
use Rattle.lp_root.specs.Root.{HasFigures, HasLeafLines, HaveCutLines, IsVersionFor, SaysSmall}
use Rattle.lp_root.specs.RootSteps.{AreRootCuts, IsJudged}
use Rattle.lp_root.proofs.RootCounts.{few_sides}

-- ---- how long numbers are
one_short : (k n : ℕ) → 0 < k → n < 10 ^ k → n < 10 ^ 64 → length (one_text n) ≤ k + 1
one_short k n some less small = omega (arith, length-append (codes " ") (decimal n), length-decimal-le_wide k n some less small)

-- the number of an item, a resource, a period or a cut
number_short : (n : ℕ) → n ≤ MAX_CUTS → length (one_text n) ≤ 6
number_short n most = one_short 5 n (omega arith) (omega (arith, most)) (omega (arith, most))

signed_short : (z : ℤ) → Is127 (unsigned_abs z) → length (signed_decimal z) ≤ 40
signed_short (pos n) small = omega (arith, length-decimal-le_wide 39 n (omega arith) (omega (arith, small)) (omega (arith, small)))
signed_short (negsuc n) small = omega (arith, length-decimal-le_wide 39 (suc n) (omega arith) (omega (arith, small)) (omega (arith, small)))

-- ---- names of rows
two_fit : (word : List ℕ) (a b : ℕ) → length word ≤ 8 → a ≤ MAX_CUTS → b ≤ MAX_CUTS → (Is32 a × Is32 b) × (length (word ++ two_text a b) ≤ 20)
two_fit word a b few first second = (
  (omega (arith, first), omega (arith, second)),
  omega (arith, length-append word (two_text a b), length-append (one_text a) (one_text b), few, number_short a first, number_short b second),
)

one_fits : (word : List ℕ) (a : ℕ) → length word ≤ 8 → a ≤ MAX_CUTS → Is32 a × (length (word ++ one_text a) ≤ 20)
one_fits word a few most = (omega (arith, most), omega (arith, length-append word (one_text a), few, number_short a most))

module _ (m : Problem) (limits : IsWithinLimits m) (cuts : ℕ) (most : cuts ≤ MAX_CUTS) where
  cell_fits : (word : List ℕ) (i t : ℕ) → length word ≤ 8 → IsCell m i t → (Is32 i × Is32 t) × (length (word ++ two_text i t) ≤ 20)
  cell_fits word i t few cell = two_fit word i t few (omega (arith, cell.1, limits.items)) (omega (arith, cell.3, limits.periods))

  name_fits : (name : RowName) → HasName m cuts 0 name → IsSmallName name × (length (name_text name) ≤ 20)
  name_fits (Balance i t) has = cell_fits (codes "balance") i t (omega arith) has
  name_fits (Link i t) has = cell_fits (codes "link") i t (omega arith) has
  name_fits (Capacity k t) has = two_fit (codes "capacity") k t (omega arith) (omega (arith, has.1, limits.resources)) (omega (arith, has.3, limits.periods))
  name_fits (EndMin i) has = one_fits (codes "endmin") i (omega arith) (omega (arith, has.1, limits.items))
  name_fits (EndMax i) has = one_fits (codes "endmax") i (omega arith) (omega (arith, has.1, limits.items))
  name_fits (Top i t) has = cell_fits (codes "top") i t (omega arith) has
  name_fits (Least i t) has = cell_fits (codes "least") i t (omega arith) has.0
  name_fits (Late i t) has = cell_fits (codes "late") i t (omega arith) has.0
  name_fits (Path n) has = absurd (omega (arith, has.0, has.1))
  name_fits (CutRow n) has = one_fits (codes "cut") n (omega arith) (omega (arith, has.1, most))

-- a plain problem has no rows of least or late lots
plain_name : (m : Problem) → IsPlain m → (cuts : ℕ) (name : RowName) → HasName m cuts 0 name → IsFirstName name
plain_name m plain cuts (Least i t) has =
    let cell = has.0 in
    omega (arith, (plain i cell.0 cell.1).min_lot, has.1)
plain_name m plain cuts (Late i t) has =
    let cell = has.0 in
    omega (arith, (plain i cell.0 cell.1).lead, cell.3, has.1)
plain_name m plain cuts _ has = tt

-- ---- parts of sides
turn_small : (turned : Bool) (z : ℤ) → IsSmall z → Is127 (unsigned_abs (turn turned z))
turn_small true z small = omega (arith, ints, small)
turn_small false z small = small

part_small : (s : Side) (z : ℤ) → IsSmall z → All IsSmallPart (part_of s z)
part_small s (pos zero) small = All-nil IsSmallPart
part_small s (pos (suc n)) small = All-cons IsSmallPart (record { row = s.name; times = turn s.turned (pos (suc n)) }) [] (turn_small s.turned (pos (suc n)) small) (All-nil IsSmallPart)
part_small s (negsuc n) small = All-cons IsSmallPart (record { row = s.name; times = turn s.turned (negsuc n) }) [] (turn_small s.turned (negsuc n) small) (All-nil IsSmallPart)

pub parts_small : (sides : List Side) (z : ℕ → ℤ) → ((k : ℕ) → k < length sides → IsSmall (z k)) → All IsSmallPart (parts_of sides z)
parts_small [] z small = All-nil IsSmallPart
parts_small (s ∷ sides) z small =
    let rest = parts_small sides (λ k. z (suc k)) (λ k less. small (suc k) (omega (arith, less))) in
    All-append IsSmallPart (part_of s (z zero)) (parts_of sides (λ k. z (suc k))) (part_small s (z zero) (small zero (omega arith))) rest

-- ---- the lines of a leaf
linear_is : (version : ℕ) (den : ℤ) (n : ℕ) → pos 1 ≤ℤ den → Is127 (unsigned_abs den) → n ≤ MAX_PARTS → HasLine version (LinearLine den n)
linear_is version den n low small few = record {
  text = refl;
  form = record {
    small = (low, small, few);
    short = omega (arith, length-append (codes "linear ") (signed_decimal den ++ one_text n), length-append (signed_decimal den) (one_text n), signed_short den small, count_short n few);
  };
  known = tt;
}

farkas_is : (version n : ℕ) → n ≤ MAX_PARTS → HasLine version (FarkasLine n)
farkas_is version n few = record {
  text = refl;
  form = record { small = few; short = omega (arith, length-append (codes "farkas") (one_text n), count_short n few) };
  known = tt;
}

part_is : (version : ℕ) (part : Part) → IsSmallName part.row × (length (name_text part.row) ≤ 20) → IsSmallPart part → (version ≡ 1 → IsFirstName part.row) → HasLine version (PartLine part)
part_is version part fits small first = record {
  text = refl;
  form = record {
    small = (fits.0, small);
    short = omega (
      arith,
      length-append (codes "part ") (name_text part.row ++ (codes " " ++ signed_decimal part.times)),
      length-append (name_text part.row) (codes " " ++ signed_decimal part.times),
      length-append (codes " ") (signed_decimal part.times),
      fits.1,
      signed_short part.times small,
    );
  };
  known = first;
}

module _ (m : Problem) (limits : IsWithinLimits m) (total : ℕ → ℕ) (totals : AreLargestTotals m total) (rows : List LinRow) (most : length rows ≤ MAX_CUTS) (parts : List Part) (small : All IsSmallPart parts) (few : length parts ≤ length (round_sides m total rows)) (version : ℕ) (known : IsVersionFor m version) where
  parts_are : AreParts (at_root m total rows) parts → AreLines version (part_values parts)
  parts_are exist =
      parts_join {version = version} parts (λ k d less.
      let has = (exist k d less).named in
      part_is version (slice_index_or parts k d) (name_fits m limits (length rows) most (slice_index_or parts k d).row has) (small k d less) (λ one. plain_name m (known one) (length rows) (slice_index_or parts k d).row has))

  count_few : length parts ≤ MAX_PARTS
  count_few = omega (arith, few, few_sides m limits total rows most)

  pub linear_lines : (den : ℕ) → Is127 den → (says : LeafSays) → SaysSmall m rows (LinearLeaf (pos den) parts) says → AreLines version (leaf_values (LinearLeaf (pos den) parts))
  linear_lines den den_small NoPlan says = absurd (says.said total totals)
  linear_lines den den_small (AtLeast c) says =
      let is = says.said total totals in
      (linear_is version (pos den) (length parts) is.positive den_small count_few, lines_join version (part_values parts) [] (parts_are is.parts_exist) tt)

  pub farkas_lines : (says : LeafSays) → SaysSmall m rows (FarkasLeaf parts) says → AreLines version (leaf_values (FarkasLeaf parts))
  farkas_lines NoPlan says = (farkas_is version (length parts) count_few, lines_join version (part_values parts) [] (parts_are (says.said total totals).parts_exist) tt)
  farkas_lines (AtLeast c) says = absurd (says.said total totals)

-- a leaf that isn't there
pub no_lines : (m : Problem) (leaf : Option Leaf) → IsNone leaf → HasLeafLines m leaf
no_lines m None none version known = tt
no_lines m (Some a) none version known = absurd (cc none)

kept_lines : (leaf : Option Leaf) (shape : LeafShape) (version : ℕ) → AreLines version (leaf_values shape) → IsSomeAnd leaf (λ a. leaf_shape a ≡ shape) → IfSome leaf (λ a. AreLines version (leaf_values (leaf_shape a)))
kept_lines None shape version are kept = absurd kept
kept_lines (Some a) shape version are kept = subst (λ s. AreLines version (leaf_values s)) (sym kept) are

-- one that is judged
pub judged_lines : (m : Problem) (rows : List LinRow) (shape : LeafShape) (round : ℕ) → ((said : LeafSays) → SaysSmall m rows shape said → (version : ℕ) → IsVersionFor m version → AreLines version (leaf_values shape)) → (says : RootSays) (leaf : Option Leaf) → IsJudged m rows shape round says leaf → HasLeafLines m leaf
judged_lines m rows shape round lines root.Uncoupled leaf judged = absurd judged
judged_lines m rows shape round lines (root.Skipped cells) leaf judged = absurd judged
judged_lines m rows shape round lines (root.Closed c) leaf judged = λ version known. kept_lines leaf shape version (lines (AtLeast c) judged.0 version known) judged.1
judged_lines m rows shape round lines root.Empty leaf judged = λ version known. kept_lines leaf shape version (lines NoPlan judged.0 version known) judged.1
judged_lines m rows shape round lines (root.Stopped at) leaf judged = absurd judged
judged_lines m rows shape round lines (root.Passed at place) leaf judged = no_lines m leaf judged.3

module _ (m : Problem) (limits : IsWithinLimits m) (version : ℕ) where
  cut_is : (total : ℕ → ℕ) (weight : ℕ → ℕ → ℕ) (c : CutShape) (r : LinRow) → IsLs c → IsCutRow m total weight [] c r → AreLines version (cut_values c)
  cut_is total weight (LsCut item last chosen) r ls row =
      let is = row.0 in
      let item_most : item ≤ MAX_CUTS = omega (arith, is.echelon.high, limits.items) in
      let last_most : last ≤ 120 = omega (arith, is.high, limits.periods) in (
        record {
          text = refl;
          form = record {
            small = (omega (arith, item_most), is.low, omega (arith, last_most), is.size);
            short = omega (
              arith,
              length-append (codes "ls") (one_text item ++ (one_text last ++ (codes " " ++ bits_text chosen))),
              length-append (one_text item) (one_text last ++ (codes " " ++ bits_text chosen)),
              length-append (one_text last) (codes " " ++ bits_text chosen),
              length-append (codes " ") (bits_text chosen),
              number_short item item_most,
              number_short last (omega (arith, last_most)),
              bits_long chosen,
              is.size,
              last_most,
            );
          };
          known = tt;
        },
        tt,
      )
  cut_is total weight (PriceCut item a) r ls row = absurd ls
  cut_is total weight (BlockCut item a) r ls row = absurd ls
  cut_is total weight (RoundCut divisor parts) r ls row = absurd ls

  cuts_are : (total : ℕ → ℕ) (weight : ℕ → ℕ → ℕ) → AreLargestTotals m total → AreWeights (bill_of m) weight → (cuts : List CutShape) (rows : List LinRow) → AreRootCuts m cuts rows → AreLines version (all_cut_values cuts)
  cuts_are total weight totals weights [] rows are = tt
  cuts_are total weight totals weights (c ∷ cuts) [] are = absurd are
  cuts_are total weight totals weights (c ∷ cuts) (r ∷ rows) are =
      lines_join version (cut_values c) (all_cut_values cuts) (cut_is total weight c r are.0.ls (are.0.row [] total weight totals weights))
      (cuts_are total weight totals weights cuts rows are.1)

pub cut_lines : (m : Problem) → IsWithinLimits m → HasFigures m → (cuts : List CutShape) (rows : List LinRow) → AreRootCuts m cuts rows → HaveCutLines cuts
cut_lines m limits (total, weight, totals, weights) cuts rows are version = cuts_are m limits version total weight totals weights cuts rows are
