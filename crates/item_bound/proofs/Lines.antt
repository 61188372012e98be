-- Block cuts, and parts of cuts, have lines in texts of every version.
use Rattle.std.proofs.Common.{◌≡◌, ◌≤◌, ◌<◌, ◌+◌, ◌*◌, ◌^◌, ℕ, zero, suc, refl, sym, ap, subst, arith, Bool, true, false, List, [], ◌∷◌, ◌++◌, length}
use Rattle.std.specs.Prelude.{if◌then◌else◌, ◌==◌, codes, decimal, pos}
use Rattle.std.specs.Fmt.{signed_decimal}
use Rattle.std.specs.List.{All}
use Rattle.std.proofs.lemmas.Fmt.{length-decimal-le_wide}
use Rattle.std.proofs.lemmas.List.{length-append}
use Rattle.std.proofs.lemmas.List.Elements.{All-cons, All-head, All-nil, All-tail, All-weaker}
use Rattle.algebra.proofs.Order.{linear}
use Rattle.lot_sizing.specs.Problem.{AllAtMost, IsSeries}
use Rattle.lot_sizing.specs.Single.{Single, net_demand, position_count, positions_to}
use Rattle.lot_sizing.specs.declared.limits.TheConstants.{MAX_AMOUNT}
use Rattle.lin_rows.specs.declared.base.RowName.TheVariants.{Cut}
use Rattle.lin_rows.specs.declared.prices.Potentials.{Potentials}
use Rattle.lin_rows.specs.Texts.{name_text, one_text}
use Rattle.echelon_rows.specs.declared.limits.TheConstants.{MAX_STEP}
use Rattle.cert_lines.specs.declared.limits.TheConstants.{MAX_LINE, MAX_PARTS}
use Rattle.cert_lines.specs.declared.parts.Part.{Part}
use Rattle.cert_lines.specs.Limits.{Is64, Is127}
use Rattle.cert_lines.specs.Line.{HasLine}
use Rattle.cert_lines.specs.Shapes.{BlockCut, LinearLine, PartLine, block_lists}
use Rattle.cert_lines.specs.Text.{block_line, list_text, part_line}
use Rattle.certificate.specs.Values.{AreLines, cut_values, leaf_values, part_values}
use Rattle.certificate.proofs.Shorts.{lines_join, parts_join}
use Rattle.item_bound.specs.Cuts.{leaf_from, once_from}

-- ---- how long numbers are
-- below 10^k, after a space
one_short : (k n : ℕ) → 0 < k → n < 10 ^ k → n < 10 ^ 64 → length (one_text n) ≤ k + 1
one_short k n some less small =
    omega (arith, length-append (codes " ") (decimal n), length-decimal-le_wide k n some less small)

pub amount_short : (x : ℕ) → x ≤ MAX_AMOUNT → length (one_text x) ≤ 11
amount_short x most = one_short 10 x (omega arith) (omega (arith, most)) (omega (arith, most))

pub step_short : (x : ℕ) → x ≤ MAX_STEP → length (one_text x) ≤ 38
step_short x most = one_short 37 x (omega arith) (omega (arith, most)) (omega (arith, most))

-- a number of 32 bits
short_32 : (x : ℕ) → x < 2 ^ 32 → length (one_text x) ≤ 11
short_32 x less = one_short 10 x (omega arith) (omega (arith, less)) (omega (arith, less))

-- numbers that are each so short
pub list_short : (most wide : ℕ) (xs : List ℕ) → ((x : ℕ) → x ≤ most → length (one_text x) ≤ wide) → AllAtMost most xs → length (list_text xs) ≤ wide * length xs
list_short most wide [] each are = omega arith
list_short most wide (x ∷ xs) each are =
    let here = each x (All-head (λ y. y ≤ most) x xs are) in
    let rest = list_short most wide xs each (All-tail (λ y. y ≤ most) x xs are) in
    omega (arith, length-append (one_text x) (list_text xs), here, rest)

-- ---- the lines of parts
pub one_digit : length (decimal 1) ≤ 1
one_digit = length-decimal-le_wide 1 1 (omega arith) (omega arith) (omega arith)

abbrev taken_once : ℕ → Part
taken_once k = record { row = Cut k; times = pos 1 }

cut_short : (k : ℕ) → k < 2 ^ 32 → length (part_line (taken_once k)) ≤ MAX_LINE
cut_short k less =
    omega (
      arith,
      length-append (codes "part ") (name_text (Cut k) ++ (codes " " ++ signed_decimal (pos 1))),
      length-append (name_text (Cut k)) (codes " " ++ signed_decimal (pos 1)),
      length-append (codes " ") (signed_decimal (pos 1)),
      length-append (codes "cut") (one_text k),
      short_32 k less,
      one_digit,
    )

cut_line : (version k : ℕ) → k < 2 ^ 32 → HasLine version (PartLine (taken_once k))
cut_line version k less = record {
  text = refl;
  form = record { small = (less, omega arith); short = cut_short k less };
  known = λ first. tt;
}

once_lines : (version k n : ℕ) → k + n ≤ 2 ^ 32 → All (λ p. HasLine version (PartLine p)) (once_from k n)
once_lines version k zero most = All-nil (λ p. HasLine version (PartLine p))
once_lines version k (suc n) most =
    All-cons (λ p. HasLine version (PartLine p)) (taken_once k) (once_from (suc k) n) (cut_line version k (omega (arith, most))) (once_lines version (suc k) n (omega (arith, most)))

once_count : (k n : ℕ) → length (once_from k n) ≡ n
once_count k zero = refl
once_count k (suc n) = ap suc (once_count (suc k) n)

linear_is : (version n : ℕ) → n ≤ MAX_PARTS → HasLine version (LinearLine (pos 1) n)
linear_is version n most = record {
  text = refl;
  form = record {
    small = (omega (arith, linear), omega arith, most);
    short = omega (arith, length-append (codes "linear ") (signed_decimal (pos 1) ++ one_text n), length-append (signed_decimal (pos 1)) (one_text n), one_digit, short_32 n (omega (arith, most)));
  };
  known = tt;
}

pub leaf_lines : (version before count : ℕ) → before + count < 2 ^ 32 → count ≤ MAX_PARTS → AreLines version (leaf_values (leaf_from before count))
leaf_lines version before count less most = (
  subst (λ n. HasLine version (LinearLine (pos 1) n)) (sym (once_count (suc before) count)) (linear_is version count most),
  lines_join version (part_values (once_from (suc before) count)) [] (parts_join {version = version} (once_from (suc before) count) (once_lines version (suc before) count (omega (arith, less)))) tt,
)

-- ---- the lines of block cuts
pub one_or_none : (b : Bool) (x : ℕ) → length (if b then [] else x ∷ []) ≤ 1
one_or_none true x = omega arith
one_or_none false x = omega arith

-- no more positions than periods
pub few_positions : (s : Single) (t : ℕ) → length (positions_to s t) ≤ t
few_positions s zero = omega arith
few_positions s (suc t) =
    omega (arith, length-append (positions_to s t) (if net_demand s (suc t) == 0 then [] else suc t ∷ []), few_positions s t, one_or_none (net_demand s (suc t) == 0) (suc t))

pub few_steps : (s : Single) → position_count s ≤ length s.net
few_steps s = few_positions s (length s.net)

pub block_length : (head a b c d e : List ℕ) → length (head ++ (a ++ (codes " g" ++ (b ++ (codes " h" ++ (c ++ (codes " b" ++ (d ++ (codes " p" ++ e))))))))) ≡ length head + length a + length b + length c + length d + length e + 8
block_length head a b c d e = simp length-append (omega arith)

pub fit_64 : (xs : List ℕ) → AllAtMost MAX_AMOUNT xs → All Is64 xs
fit_64 xs are = All-weaker (λ x. x ≤ MAX_AMOUNT) Is64 (λ x most. omega (arith, most)) xs are

pub fit_127 : (xs : List ℕ) → AllAtMost MAX_STEP xs → All Is127 xs
fit_127 xs are = All-weaker (λ x. x ≤ MAX_STEP) Is127 (λ x most. omega (arith, most)) xs are

-- the lists of a cut, each of a number for each period
pub record AreSeries (periods : ℕ) (p : Potentials) : Type 0 where
  pub setup : IsSeries periods MAX_AMOUNT p.setup.items
  pub unit : IsSeries periods MAX_AMOUNT p.unit.items
  pub hold : IsSeries periods MAX_AMOUNT p.hold.items
  pub back : IsSeries periods MAX_AMOUNT p.back.items
  pub few : length p.steps.items ≤ periods
  pub steps : AllAtMost MAX_STEP p.steps.items

block_short : (i periods : ℕ) (p : Potentials) → i < 2 ^ 32 → periods ≤ 120 → AreSeries periods p → length (block_line i (block_lists p)) ≤ MAX_LINE
block_short i periods p less few are =
    let head = codes "block" ++ (one_text i ++ codes " f") in
    omega (
      arith,
      block_length head (list_text p.setup.items) (list_text p.unit.items) (list_text p.hold.items) (list_text p.back.items) (list_text p.steps.items),
      length-append (codes "block") (one_text i ++ codes " f"),
      length-append (one_text i) (codes " f"),
      short_32 i less,
      list_short MAX_AMOUNT 11 p.setup.items amount_short are.setup.small,
      list_short MAX_AMOUNT 11 p.unit.items amount_short are.unit.small,
      list_short MAX_AMOUNT 11 p.hold.items amount_short are.hold.small,
      list_short MAX_AMOUNT 11 p.back.items amount_short are.back.small,
      list_short MAX_STEP 38 p.steps.items step_short are.steps,
      are.setup.size,
      are.unit.size,
      are.hold.size,
      are.back.size,
      are.few,
      few,
    )

pub block_lines : (version i periods : ℕ) (p : Potentials) → i < 2 ^ 32 → periods ≤ 120 → AreSeries periods p → AreLines version (cut_values (BlockCut i (block_lists p)))
block_lines version i periods p less few are = (
  record {
    text = refl;
    form = record {
      small = (less, (fit_64 p.setup.items are.setup.small, fit_64 p.unit.items are.unit.small, fit_64 p.hold.items are.hold.small, fit_64 p.back.items are.back.small, fit_127 p.steps.items are.steps));
      short = block_short i periods p less few are;
    };
    known = tt;
  },
  tt,
)
