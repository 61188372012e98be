-- What the numbers of a writable certificate are, and how many lines it has.
use Rattle.std.proofs.Common.{◌≡◌, ◌≤◌, ◌+◌, ℕ, ap, arith, codes, List, [], ◌∷◌, ◌++◌, length, length-append}
use Rattle.std.specs.List.{All}
use Rattle.std.proofs.lemmas.List.{length-map}
use Rattle.std.proofs.lemmas.List.Elements.{All-cons, All-nil}
use Rattle.cert_lines.specs.declared.head.HeadLine.{HeadLine}
use Rattle.cert_lines.specs.Head.{head_line}
use Rattle.cert_lines.specs.Line.{HasLine, later_line}
use Rattle.cert_lines.specs.Shapes.{BlockCut, CutShape, EndLine, FarkasLeaf, GroupLine, LeafShape, LinearLeaf, ListLine, LsCut, PartLine, PointLeaf, PriceCut, ReducedLeaf, RoundCut, cut_first, cut_parts, leaf_first, leaf_groups, leaf_lists, leaf_parts}
use Rattle.cert_lines.specs.Text.{line_text}
use Rattle.certificate.specs.Limits.{IsWritable}
use Rattle.certificate.specs.Shapes.{End, Shape, Split, TreeShape}
use Rattle.certificate.specs.Text.{certificate_text, head_text, head_values, heads_text}
use Rattle.certificate.specs.Values.{AreLines, Values, all_cut_values, body_values, cut_values, group_values, leaf_values, list_values, part_values, tree_values, value_text, values_text}
use Rattle.cert_checker.specs.Checks.{HaveDenominators, first_line, line_count}
use Rattle.cert_checker.specs.Cuts.{HasDivisor}
use Rattle.cert_checker.specs.Leaves.{HasDenominator}

lines_left : (version : ℕ) (a b : Values) → AreLines version (a ++ b) → AreLines version a
lines_left version [] b are = tt
lines_left version (l ∷ a) b are = (are.0, lines_left version a b are.1)

lines_right : (version : ℕ) (a b : Values) → AreLines version (a ++ b) → AreLines version b
lines_right version [] b are = are
lines_right version (l ∷ a) b are = lines_right version a b are.1

den_of : (version : ℕ) (leaf : LeafShape) → HasLine version (leaf_first leaf) → HasDenominator leaf
den_of version (LinearLeaf den parts) is = is.form.small.0
den_of version (FarkasLeaf parts) is = tt
den_of version PointLeaf is = tt
den_of version (ReducedLeaf den parts lists groups) is = tt

dens_of : (version : ℕ) (t : TreeShape) → AreLines version (tree_values t) → HaveDenominators t
dens_of version (Split c n low high) are = (
  dens_of version low (lines_left version (tree_values low) (tree_values high) are.1),
  dens_of version high (lines_right version (tree_values low) (tree_values high) are.1),
)
dens_of version (End leaf) are = den_of version leaf are.0

divisor_of : (version : ℕ) (cut : CutShape) → HasLine version (cut_first cut) → HasDivisor cut
divisor_of version (LsCut item last chosen) is = tt
divisor_of version (PriceCut item a) is = tt
divisor_of version (BlockCut item a) is = tt
divisor_of version (RoundCut divisor parts) is = (is.form.small.0, is.form.small.1)

divisors_of : (version : ℕ) (cuts : List CutShape) → AreLines version (all_cut_values cuts) → All HasDivisor cuts
divisors_of version [] are = All-nil HasDivisor
divisors_of version (c ∷ cuts) are =
    All-cons HasDivisor c cuts (divisor_of version c are.0)
    (divisors_of version cuts (lines_right version (part_values (cut_parts c)) (all_cut_values cuts) are.1))

-- of a writable certificate
pub divisors : (s : Shape) → IsWritable s → All HasDivisor s.cuts
divisors s is = divisors_of s.version s.cuts (lines_left s.version (all_cut_values s.cuts) (tree_values s.tree ++ (EndLine ∷ [])) is.lines)

pub denominators : (s : Shape) → IsWritable s → HaveDenominators s.tree
denominators s is =
    dens_of s.version s.tree (lines_left s.version (tree_values s.tree) (EndLine ∷ []) (lines_right s.version (all_cut_values s.cuts) (tree_values s.tree ++ (EndLine ∷ [])) is.lines))

-- the lines of the cuts and of the tree
pub lines_in_all : (s : Shape) → line_count s ≡ first_line + length (all_cut_values s.cuts) + length (tree_values s.tree)
lines_in_all s =
    omega (arith, length-append (all_cut_values s.cuts) (tree_values s.tree ++ (EndLine ∷ [])), length-append (tree_values s.tree) (EndLine ∷ []))

-- those of a cut, without the first
pub lines_of_cut : (c : CutShape) → length (cut_values c) ≡ length (cut_parts c) + 1
lines_of_cut c = omega (arith, length-map (cut_parts c) (λ part. PartLine part))

-- those of a leaf: its first line, its parts, its lists and its groups
pub lines_of_leaf : (l : LeafShape) → length (leaf_values l) ≡ 1 + length (leaf_parts l) + length (leaf_lists l) + length (leaf_groups l)
lines_of_leaf l =
    omega (
      arith,
      length-append (part_values (leaf_parts l)) (list_values (leaf_lists l) ++ group_values (leaf_groups l)),
      length-append (list_values (leaf_lists l)) (group_values (leaf_groups l)),
      length-map (leaf_parts l) (λ part. PartLine part),
      length-map (leaf_lists l) (λ a. ListLine a),
      length-map (leaf_groups l) (λ g. GroupLine g),
    )

-- each line has its line feed
line_has_byte : (line : List ℕ) → 1 ≤ length (line_text line)
line_has_byte line = omega (arith, length-append line (codes "\n"))

lines_in_values : (ls : Values) → length ls ≤ length (values_text ls)
lines_in_values [] = omega arith
lines_in_values (l ∷ ls) = omega (arith, lines_in_values ls, line_has_byte (later_line l), length-append (value_text l) (values_text ls))

lines_in_heads : (hs : List HeadLine) → length hs ≤ length (heads_text hs)
lines_in_heads [] = omega arith
lines_in_heads (h ∷ hs) = omega (arith, lines_in_heads hs, line_has_byte (head_line h), length-append (head_text h) (heads_text hs))

pub lines_in_text : (bytes : List ℕ) (s : Shape) → bytes ≡ certificate_text s → line_count s ≤ length bytes
lines_in_text bytes s is =
    let heads = head_values s.version s.claim (length s.cuts) in
    omega (arith, ap length is, length-append (heads_text heads) (values_text (body_values s)), lines_in_heads heads, lines_in_values (body_values s))
