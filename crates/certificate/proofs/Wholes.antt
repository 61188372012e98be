-- A certificate that was read.
use Rattle.std.proofs.Common.{◌≡◌, ◌≤◌, ◌∙◌, ℕ, sym, ap, subst, arith, List, [], ◌∷◌, ◌++◌, length}
use Rattle.cert_lines.specs.declared.parts.Claim.{Claim}
use Rattle.cert_lines.specs.declared.limits.TheConstants.{MAX_BRANCHES}
use Rattle.cert_lines.specs.Shapes.{CutShape, EndLine}
use Rattle.certificate.specs.declared.fault.CertTextFault.{CertTextFault}
use Rattle.certificate.specs.declared.fault.CertTextFault.TheVariants as fault
use Rattle.certificate.specs.declared.line_numbers.TheConstants.{FIRST_CUT_LINE}
use Rattle.certificate.specs.declared.rest.Rest.{Rest}
use Rattle.certificate.specs.Shapes.{Shape, TreeShape}
use Rattle.certificate.specs.Counts.{longest_path}
use Rattle.certificate.specs.Text.{certificate_text, head_values, heads_text}
use Rattle.certificate.specs.Limits.{IsTextOf, IsWritable}
use Rattle.certificate.specs.Values.{AreLines, all_cut_values, body_values, tree_values, values_text}
use Rattle.certificate.specs.Dues.{IsFaultFrom, a_tree, the_end}
use Rattle.certificate.specs.Faults.{AreHeads, IsBodyFault, IsCertTextFault, body_dues}
use Rattle.certificate.specs.Rest.{AreRead}
use Rattle.certificate.proofs.Joins.{body_text}
use Rattle.certificate.proofs.Shorts.{lines_join}
use Rattle.certificate.proofs.Needed.{cuts_taken, fault_later, tree_taken}

-- its text
whole_text : (bytes rest mid last : List ℕ) (s : Shape) (count : ℕ) → bytes ≡ heads_text (head_values s.version s.claim count) ++ rest → length s.cuts ≡ count → rest ≡ values_text (all_cut_values s.cuts) ++ mid → mid ≡ values_text (tree_values s.tree) ++ last → last ≡ values_text (EndLine ∷ []) → bytes ≡ certificate_text s
whole_text bytes rest mid last s count head same cuts tree end =
    let body : rest ≡ values_text (body_values s) = cuts ∙ ap (λ t. values_text (all_cut_values s.cuts) ++ t) (tree ∙ ap (λ t. values_text (tree_values s.tree) ++ t) end) ∙ sym (body_text s) in
    head ∙ ap (λ n. heads_text (head_values s.version s.claim n) ++ rest) (sym same) ∙ ap (λ t. heads_text (head_values s.version s.claim (length s.cuts)) ++ t) body

-- and its limits
whole_writable : (s : Shape) (count : ℕ) → AreHeads 1 (head_values s.version s.claim count) → length s.cuts ≡ count → AreLines s.version (all_cut_values s.cuts) → AreLines s.version (tree_values s.tree) → AreLines s.version (EndLine ∷ []) → longest_path s.tree ≤ MAX_BRANCHES → IsWritable s
whole_writable s count heads same cuts tree end paths = record {
  version = heads.0.small;
  amount = heads.1.0.small;
  few = omega (arith, same, heads.1.1.0.small);
  paths = paths;
  lines = lines_join s.version (all_cut_values s.cuts) (tree_values s.tree ++ EndLine ∷ []) cuts (lines_join s.version (tree_values s.tree) (EndLine ∷ []) tree end);
}

pub whole : (bytes : List ℕ) (a b d e : Rest) (s : Shape) (count : ℕ) → bytes ≡ heads_text (head_values s.version s.claim count) ++ a.text.now → AreHeads 1 (head_values s.version s.claim count) → length s.cuts ≡ count → AreRead s.version a b (all_cut_values s.cuts) → AreRead s.version b d (tree_values s.tree) → longest_path s.tree ≤ MAX_BRANCHES → AreRead s.version d e (EndLine ∷ []) → d.text.now ≡ values_text (EndLine ∷ []) → IsTextOf bytes s
whole bytes a b d e s count head heads same cuts tree paths end text = record {
  text = whole_text bytes a.text.now b.text.now d.text.now s count head same cuts.text tree.text text;
  writable = whole_writable s count heads same cuts.lines tree.lines end.lines paths;
}

-- ---- faults after the first three lines
pub body_fault : (text : List ℕ) (f : CertTextFault) → IsBodyFault text f → IsCertTextFault text f
body_fault text (fault.Header n) b = absurd b.fault.stop
body_fault text (fault.Line n) b = b
body_fault text (fault.Shape n) b = b
body_fault text (fault.Deep n) b = b
body_fault text fault.Memory b = tt

pub cuts_fault : (bytes : List ℕ) (a : Rest) (version : ℕ) (claim : Claim) (count : ℕ) (f : CertTextFault) → bytes ≡ heads_text (head_values version claim count) ++ a.text.now → AreHeads 1 (head_values version claim count) → a.line ≡ FIRST_CUT_LINE → IsFaultFrom version (body_dues count) a.text.now a.line f → IsCertTextFault bytes f
cuts_fault bytes a version claim count f text heads four fault = body_fault bytes f (record {
  version = version;
  claim = claim;
  count = count;
  rest = a.text.now;
  text = text;
  lines = heads;
  fault = subst (λ n. IsFaultFrom version (body_dues count) a.text.now n f) four fault;
})

pub tree_fault : {version : ℕ} (a b : Rest) (cuts : List CutShape) (count : ℕ) (f : CertTextFault) → AreRead version a b (all_cut_values cuts) → length cuts ≡ count → IsFaultFrom version (a_tree 0 ∷ the_end ∷ []) b.text.now b.line f → IsFaultFrom version (body_dues count) a.text.now a.line f
tree_fault {version = version} a b cuts count f read same fault = fault_later a b (body_dues count) (a_tree 0 ∷ the_end ∷ []) (all_cut_values cuts) f read (cuts_taken cuts count (a_tree 0 ∷ the_end ∷ []) same) fault

pub end_fault : {version : ℕ} (a b : Rest) (tree : TreeShape) (f : CertTextFault) → AreRead version a b (tree_values tree) → longest_path tree ≤ MAX_BRANCHES → IsFaultFrom version (the_end ∷ []) b.text.now b.line f → IsFaultFrom version (a_tree 0 ∷ the_end ∷ []) a.text.now a.line f
end_fault {version = version} a b tree f read paths fault = fault_later a b (a_tree 0 ∷ the_end ∷ []) (the_end ∷ []) (tree_values tree) f read (tree_taken tree 0 (the_end ∷ []) (omega (arith, paths))) fault
