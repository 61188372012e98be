-- Both kinds of certificates are within the limits of texts.
use Rattle.std.proofs.Common.{◌≡◌, ◌≤◌, ◌<◌, ◌+◌, ◌^◌, ℕ, zero, suc, refl, sym, ap, subst, arith, List, [], ◌∷◌, ◌++◌, length}
use Rattle.std.specs.Prelude.{codes, decimal, ℤ, pos, negsuc}
use Rattle.std.specs.Fmt.{signed_decimal}
use Rattle.std.specs.List.{All}
use Rattle.std.proofs.lemmas.Fmt.{length-decimal-le_wide}
use Rattle.std.proofs.lemmas.List.{length-append, length-map, length_push}
use Rattle.std.proofs.lemmas.List.Elements.{All-cons, All-nil, All-push}
use Rattle.algebra.proofs.Order.{linear}
use Rattle.lot_sizing.specs.Problem.{AllAtMost, IsSeries, IsWithinLimits, Problem, item_count}
use Rattle.lot_sizing.specs.Net.{asked_of, net_in}
use Rattle.lot_sizing.specs.Single.{position_count}
use Rattle.lot_sizing.specs.declared.limits.TheConstants.{MAX_AMOUNT}
use Rattle.echelon.specs.Views.{list_to, single_in}
use Rattle.lin_rows.specs.declared.base.RowName.{RowName}
use Rattle.lin_rows.specs.declared.base.RowName.TheVariants.{Balance, Cut, EndMax}
use Rattle.lin_rows.specs.declared.prices.Potentials.{Potentials}
use Rattle.lin_rows.specs.Texts.{name_text, one_text}
use Rattle.echelon_rows.specs.declared.limits.TheConstants.{MAX_STEP}
use Rattle.cert_lines.specs.declared.limits.TheConstants.{MAX_LINE}
use Rattle.cert_lines.specs.declared.parts.Part.{Part}
use Rattle.cert_lines.specs.Line.{HasLine}
use Rattle.cert_lines.specs.Shapes.{BlockCut, CutLine, EndLine, FarkasLine, LinearLine, PartLine, block_lists}
use Rattle.cert_lines.specs.Text.{block_line, list_text, part_line}
use Rattle.certificate.specs.Limits.{IsWritable}
use Rattle.certificate.specs.Shapes.{Shape}
use Rattle.certificate.specs.Values.{AreLines, all_cut_values, part_values}
use Rattle.certificate.proofs.Shorts.{end_line, lines_join, parts_join}
use Rattle.cert_checker.specs.Checks.{line_count}
use Rattle.item_bound.proofs.Lines.{amount_short, step_short, list_short, one_digit, few_positions, block_length, fit_64, fit_127}
use Rattle.uncoupled.specs.Items.{ProveFrom, ProvesItem}
use Rattle.uncoupled.specs.Blocks.{block_cuts, blocks_shape, each_once}
use Rattle.uncoupled.specs.NoRoom.{balances, no_room_parts, no_room_shape, part}

-- a certificate has a text, and it has few lines
pub record HasText (s : Shape) : Type 0 where
  pub writable : IsWritable s
  pub lines : line_count s < 2 ^ 63

-- ---- how long numbers are
-- below 10^k, after a space
one_short : (k n : ℕ) → 0 < k → n < 10 ^ k → n < 10 ^ 64 → length (one_text n) ≤ k + 1
one_short k n some less small =
    omega (arith, length-append (codes " ") (decimal n), length-decimal-le_wide k n some less small)

-- the number of an item, a cut or a period
small_short : (x : ℕ) → x ≤ 121 → length (one_text x) ≤ 4
small_short x most = one_short 3 x (omega arith) (omega (arith, most)) (omega (arith, most))

-- ---- the lines of parts
part_short : (row : RowName) (times : ℤ) → length (name_text row) ≤ 20 → length (signed_decimal times) ≤ 2 → length (part_line (part row times)) ≤ MAX_LINE
part_short row times name digits =
    omega (
      arith,
      length-append (codes "part ") (name_text row ++ (codes " " ++ signed_decimal times)),
      length-append (name_text row) (codes " " ++ signed_decimal times),
      length-append (codes " ") (signed_decimal times),
      name,
      digits,
    )

-- the name of a row with two numbers, and one with one
two_short : (word : List ℕ) (a b : ℕ) → length word ≤ 10 → a ≤ 121 → b ≤ 121 → length (word ++ (one_text a ++ one_text b)) ≤ 20
two_short word a b few a_most b_most =
    omega (arith, length-append word (one_text a ++ one_text b), length-append (one_text a) (one_text b), few, small_short a a_most, small_short b b_most)

single_short : (word : List ℕ) (a : ℕ) → length word ≤ 10 → a ≤ 121 → length (word ++ one_text a) ≤ 20
single_short word a few most = omega (arith, length-append word (one_text a), few, small_short a most)

balance_line : (i t : ℕ) → i ≤ 121 → t ≤ 121 → HasLine 1 (PartLine (part (Balance i t) (negsuc 0)))
balance_line i t i_most t_most = record {
  text = refl;
  form = record {
    small = ((omega (arith, i_most), omega (arith, t_most)), omega arith);
    short = part_short (Balance i t) (negsuc 0) (two_short (codes "balance") i t (omega arith) i_most t_most) (omega (arith, one_digit));
  };
  known = λ first. tt;
}

end_max_line : (i : ℕ) → i ≤ 121 → HasLine 1 (PartLine (part (EndMax i) (pos 1)))
end_max_line i most = record {
  text = refl;
  form = record {
    small = (omega (arith, most), omega arith);
    short = part_short (EndMax i) (pos 1) (single_short (codes "endmax") i (omega arith) most) (omega (arith, one_digit));
  };
  known = λ first. tt;
}

cut_line : (k : ℕ) → k ≤ 121 → HasLine 1 (PartLine (part (Cut k) (pos 1)))
cut_line k most = record {
  text = refl;
  form = record {
    small = (omega (arith, most), omega arith);
    short = part_short (Cut k) (pos 1) (single_short (codes "cut") k (omega arith) most) (omega (arith, one_digit));
  };
  known = λ first. tt;
}

balance_lines : (i t : ℕ) → i ≤ 121 → t ≤ 121 → All (λ p. HasLine 1 (PartLine p)) (balances i t)
balance_lines i zero i_most t_most = All-nil (λ p. HasLine 1 (PartLine p))
balance_lines i (suc t) i_most t_most =
    All-push (λ p. HasLine 1 (PartLine p)) (balances i t) (part (Balance i (suc t)) (negsuc 0)) (balance_lines i t i_most (omega (arith, t_most))) (balance_line i (suc t) i_most t_most)

once_lines : (k n : ℕ) → k + n ≤ 121 → All (λ p. HasLine 1 (PartLine p)) (each_once k n)
once_lines k zero most = All-nil (λ p. HasLine 1 (PartLine p))
once_lines k (suc n) most =
    All-cons (λ p. HasLine 1 (PartLine p)) (part (Cut k) (pos 1)) (each_once (suc k) n) (cut_line k (omega (arith, most))) (once_lines (suc k) n (omega (arith, most)))

balance_count : (i t : ℕ) → length (balances i t) ≡ t
balance_count i zero = refl
balance_count i (suc t) = omega (arith, balance_count i t, length_push (balances i t) (part (Balance i (suc t)) (negsuc 0)))

once_count : (k n : ℕ) → length (each_once k n) ≡ n
once_count k zero = refl
once_count k (suc n) = ap suc (once_count (suc k) n)

-- ---- the certificate without room
farkas_is : (n : ℕ) → n ≤ 121 → HasLine 1 (FarkasLine n)
farkas_is n most = record {
  text = refl;
  form = record { small = omega (arith, most); short = omega (arith, length-append (codes "farkas") (one_text n), small_short n most) };
  known = tt;
}

-- the lines of a leaf and of the end
leaf_count : (parts : List Part) (n : ℕ) → length parts ≡ n → length ((part_values parts ++ []) ++ (EndLine ∷ [])) ≡ n + 1
leaf_count parts n few = omega (arith, length-append (part_values parts ++ []) (EndLine ∷ []), length-append (part_values parts) [], length-map parts (λ p. PartLine p), few)

pub no_room_text : (m : Problem) (i : ℕ) → IsWithinLimits m → i ≤ item_count m → HasText (no_room_shape m i)
no_room_text m i limits high =
    let parts = no_room_parts m.periods i in
    let periods = limits.periods in
    let items = limits.items in
    let i_most : i ≤ 121 = omega (arith, high, items) in
    let count : length parts ≡ m.periods + 1 = omega (arith, length_push (balances i m.periods) (part (EndMax i) (pos 1)), balance_count i m.periods) in
    let few : length parts ≤ 121 = omega (arith, count, periods) in
    let taken = All-push (λ p. HasLine 1 (PartLine p)) (balances i m.periods) (part (EndMax i) (pos 1)) (balance_lines i m.periods i_most (omega (arith, periods))) (end_max_line i i_most) in
    record {
      writable = record {
        version = (omega arith, omega arith);
        amount = tt;
        few = omega arith;
        paths = omega arith;
        lines = lines_join 1 (FarkasLine (length parts) ∷ (part_values parts ++ [])) (EndLine ∷ []) (farkas_is (length parts) few, lines_join 1 (part_values parts) [] (parts_join {version = 1} parts taken) tt) (end_line {version = 1}, tt);
      };
      lines = omega (arith, leaf_count parts (m.periods + 1) count, periods);
    }

listed : (n : ℕ) (f : ℕ → ℕ) → length (list_to n f) ≡ n
listed zero f = refl
listed (suc n) f = omega (arith, length_push (list_to n f) (f (suc n)), listed n f)

few_steps : (m : Problem) (i : ℕ) → position_count (single_in m i) ≤ m.periods
few_steps m i = omega (arith, few_positions (single_in m i) (length (single_in m i).net), listed m.periods (net_in (asked_of m i)))

-- the lists of an item, each of a number for each period
record AreSeries (periods : ℕ) (p : Potentials) : Type 0 where
  setup : IsSeries periods MAX_AMOUNT p.setup.items
  unit : IsSeries periods MAX_AMOUNT p.unit.items
  hold : IsSeries periods MAX_AMOUNT p.hold.items
  back : IsSeries periods MAX_AMOUNT p.back.items
  few : length p.steps.items ≤ periods
  steps : AllAtMost MAX_STEP p.steps.items

are_series : (m : Problem) (i : ℕ) (p : Potentials) → IsWithinLimits m → 1 ≤ i → i ≤ item_count m → ProvesItem m i p → AreSeries m.periods p
are_series m i p limits low high proves =
    let lists = (limits.each_item i low high).lists in
    record {
      setup = subst (IsSeries m.periods MAX_AMOUNT) (sym proves.setup) lists.setup_cost;
      unit = subst (IsSeries m.periods MAX_AMOUNT) (sym proves.unit) lists.unit_cost;
      hold = subst (IsSeries m.periods MAX_AMOUNT) (sym proves.hold) lists.hold_cost;
      back = proves.backs;
      few = omega (arith, proves.potentials.size, few_steps m i);
      steps = proves.steps;
    }

block_short : (i periods : ℕ) (p : Potentials) → i ≤ 121 → periods ≤ 120 → AreSeries periods p → length (block_line i (block_lists p)) ≤ MAX_LINE
block_short i periods p most few are =
    let head = codes "block" ++ (one_text i ++ codes " f") in
    omega (
      arith,
      block_length head (list_text p.setup.items) (list_text p.unit.items) (list_text p.hold.items) (list_text p.back.items) (list_text p.steps.items),
      length-append (codes "block") (one_text i ++ codes " f"),
      length-append (one_text i) (codes " f"),
      small_short i most,
      list_short MAX_AMOUNT 11 p.setup.items amount_short are.setup.small,
      list_short MAX_AMOUNT 11 p.unit.items amount_short are.unit.small,
      list_short MAX_AMOUNT 11 p.hold.items amount_short are.hold.small,
      list_short MAX_AMOUNT 11 p.back.items amount_short are.back.small,
      list_short MAX_STEP 38 p.steps.items step_short are.steps,
      are.setup.size,
      are.unit.size,
      are.hold.size,
      are.back.size,
      are.few,
      few,
    )

block_is : (m : Problem) (i : ℕ) (p : Potentials) → IsWithinLimits m → 1 ≤ i → i ≤ item_count m → ProvesItem m i p → HasLine 1 (CutLine (BlockCut i (block_lists p)))
block_is m i p limits low high proves =
    let are = are_series m i p limits low high proves in
    let items = limits.items in
    record {
      text = refl;
      form = record {
        small = (omega (arith, high, items), (fit_64 p.setup.items are.setup.small, fit_64 p.unit.items are.unit.small, fit_64 p.hold.items are.hold.small, fit_64 p.back.items are.back.small, fit_127 p.steps.items are.steps));
        short = block_short i m.periods p (omega (arith, high, items)) limits.periods are;
      };
      known = tt;
    }

blocks_are : (m : Problem) (i : ℕ) (list : List Potentials) → IsWithinLimits m → 1 ≤ i → i + length list ≤ item_count m + 1 → ProveFrom m i list → AreLines 1 (all_cut_values (block_cuts i list))
blocks_are m i [] limits low few prove = tt
blocks_are m i (p ∷ list) limits low few prove =
    (block_is m i p limits low (omega (arith, few)) prove.0, blocks_are m (suc i) list limits (omega arith) (omega (arith, few)) prove.1)

cut_count : (i : ℕ) (list : List Potentials) → length (block_cuts i list) ≡ length list
cut_count i [] = refl
cut_count i (p ∷ list) = ap suc (cut_count (suc i) list)

cut_lines_count : (i : ℕ) (list : List Potentials) → length (all_cut_values (block_cuts i list)) ≡ length list
cut_lines_count i [] = refl
cut_lines_count i (p ∷ list) = ap suc (cut_lines_count (suc i) list)

linear_is : (n : ℕ) → n ≤ 121 → HasLine 1 (LinearLine (pos 1) n)
linear_is n most = record {
  text = refl;
  form = record {
    small = (omega (arith, linear), omega arith, omega (arith, most));
    short = omega (arith, length-append (codes "linear ") (signed_decimal (pos 1) ++ one_text n), length-append (signed_decimal (pos 1)) (one_text n), one_digit, small_short n most);
  };
  known = tt;
}

pub blocks_text : (m : Problem) (amount : ℕ) (list : List Potentials) → IsWithinLimits m → amount < 2 ^ 127 → length list ≡ item_count m → ProveFrom m 1 list → HasText (blocks_shape amount list)
blocks_text m amount list limits less each prove =
    let items = limits.items in
    let parts = each_once 1 (length list) in
    let count = once_count 1 (length list) in
    let cuts = all_cut_values (block_cuts 1 list) in
    let leaf = LinearLine (pos 1) (length parts) ∷ (part_values parts ++ []) in
    record {
      writable = record {
        version = (omega arith, omega arith);
        amount = less;
        few = omega (arith, cut_count 1 list, each, items);
        paths = omega arith;
        lines = lines_join 1 cuts (leaf ++ (EndLine ∷ [])) (blocks_are m 1 list limits (omega arith) (omega (arith, each)) prove)
            (lines_join 1 leaf (EndLine ∷ []) (linear_is (length parts) (omega (arith, count, each, items)), lines_join 1 (part_values parts) [] (parts_join {version = 1} parts (once_lines 1 (length list) (omega (arith, each, items)))) tt) (end_line {version = 1}, tt));
      };
      lines = omega (arith, length-append cuts (leaf ++ (EndLine ∷ [])), cut_lines_count 1 list, leaf_count parts (length list) count, each, items);
    }
