-- What is read of a text, and what is needed then.
use Rattle.std.proofs.Common.{◌≡◌, ◌≢◌, ◌≤◌, ◌<◌, ◌+◌, ◌-◌, ◌∙◌, ℕ, zero, suc, refl, sym, ap, subst, arith, List, [], ◌∷◌, ◌++◌, append_assoc, append-nil, length, inr}
use Rattle.std.specs.Prelude.{ℤ, map, replicate}
use Rattle.lin_rows.specs.declared.column.Column.{Column}
use Rattle.std.proofs.lemmas.Grind.{flat_map-append}
use Rattle.std.proofs.lemmas.List.{length-append, length-map, map-append}
use Rattle.item_groups.specs.declared.group.Group.{Group}
use Rattle.cert_lines.specs.declared.parts.Part.{Part}
use Rattle.cert_lines.specs.declared.parts.PartList.{PartList}
use Rattle.cert_lines.specs.declared.line.CertLine.{CertLine}
use Rattle.cert_lines.specs.declared.line.CertLine.TheVariants as line
use Rattle.cert_lines.specs.declared.parts.Cut.{Cut}
use Rattle.cert_lines.specs.declared.limits.TheConstants.{MAX_BRANCHES}
use Rattle.cert_lines.specs.Shapes.{BlockCut, BranchLine, CutShape, EndLine, FarkasLeaf, GroupLine, LeafShape, LineShape, LinearLeaf, ListLine, ListShape, LsCut, PartLine, PointLeaf, PriceCut, ReducedLeaf, RoundCut, cut_shape, line_shape, list_shape}
use Rattle.certificate.specs.Shapes.{Split, End, TreeShape}
use Rattle.certificate.specs.declared.fault.CertTextFault.{CertTextFault}
use Rattle.certificate.specs.declared.fault.CertTextFault.TheVariants.{Shape, Deep, Memory}
use Rattle.certificate.specs.declared.rest.Rest.{Rest}
use Rattle.certificate.specs.declared.reading.Node.{Node}
use Rattle.certificate.specs.declared.reading.Node.TheVariants as node
use Rattle.certificate.specs.Nodes.{IsHigh, node_values}
use Rattle.certificate.specs.Counts.{longest_path}
use Rattle.cert_lines.specs.Line.{HasLine}
use Rattle.certificate.specs.Values.{Values, all_cut_values, cut_values, group_values, leaf_values, list_values, part_values, tree_values, value_text, values_text}
use Rattle.certificate.specs.Dues.{IsDeep, IsFaultFrom, IsStop, Due, TakesAll, Takes, a_cut, a_group, a_list, a_part, a_tree, after, row_dues, the_end}
use Rattle.certificate.specs.Rest.{AreRead}
use Rattle.certificate.proofs.Joins.{values_append}
use Rattle.certificate.proofs.Shorts.{lines_join}

pub taken_join : (dues mid left : List Due) (xs ys : Values) → TakesAll dues xs mid → TakesAll mid ys left → TakesAll dues (xs ++ ys) left
taken_join dues mid left [] ys a b = subst (λ ns. TakesAll ns ys left) (sym a) b
taken_join [] mid left (x ∷ xs) ys a b = absurd a
taken_join (due ∷ later) mid left (x ∷ xs) ys a b = (a.0, a.1, taken_join (after due x ++ later) mid left xs ys a.2 b)

-- ---- what each part of a certificate meets
-- lines of one kind, each of which needs nothing more
abbrev pub AreOf : {A : Type 0} → Due → (A → LineShape) → Type 0
AreOf {A = A} due line_of = (x : A) → Takes due (line_of x) × (IsDeep due (line_of x) → ⊥) × (after due (line_of x) ≡ [])

part_lines : AreOf a_part (λ part. PartLine part)
part_lines part = (tt, λ no_depth. no_depth, refl)

list_lines : AreOf a_list (λ a. ListLine a)
list_lines a = (tt, λ no_depth. no_depth, refl)

group_lines : AreOf a_group (λ g. GroupLine g)
group_lines g = (tt, λ no_depth. no_depth, refl)

-- the first of so many of them
pub lines_so_far : {A : Type 0} (due : Due) (line_of : A → LineShape) → AreOf due line_of → (xs : List A) (count m : ℕ) (later : List Due) → count ≡ length xs + m → TakesAll (replicate count due ++ later) (map line_of xs) (replicate m due ++ later)
lines_so_far due line_of are [] count m later e = ap (λ k. replicate k due ++ later) (omega (arith, e))
lines_so_far due line_of are (x ∷ xs) zero m later e = absurd (omega (arith, e))
lines_so_far due line_of are (x ∷ xs) (suc count) m later e =
    let next : TakesAll (replicate count due ++ later) (map line_of xs) (replicate m due ++ later) = lines_so_far due line_of are xs count m later (omega (arith, e)) in
    ((are x).0, (are x).1, subst (λ ns. TakesAll (ns ++ (replicate count due ++ later)) (map line_of xs) (replicate m due ++ later)) (sym (are x).2) next)

pub lines_taken : {A : Type 0} (due : Due) (line_of : A → LineShape) → AreOf due line_of → (xs : List A) (count : ℕ) (later : List Due) → length xs ≡ count → TakesAll (replicate count due ++ later) (map line_of xs) later
lines_taken due line_of are xs count later e = lines_so_far due line_of are xs count 0 later (omega (arith, e))

pub parts_taken : (parts : List Part) (count : ℕ) (later : List Due) → length parts ≡ count → TakesAll (replicate count a_part ++ later) (part_values parts) later
parts_taken parts count later e = lines_taken a_part (λ part. PartLine part) part_lines parts count later e

pub lists_taken : (lists : List ListShape) (count : ℕ) (later : List Due) → length lists ≡ count → TakesAll (replicate count a_list ++ later) (list_values lists) later
lists_taken lists count later e = lines_taken a_list (λ a. ListLine a) list_lines lists count later e

pub groups_taken : (groups : List Group) (count : ℕ) (later : List Due) → length groups ≡ count → TakesAll (replicate count a_group ++ later) (group_values groups) later
groups_taken groups count later e = lines_taken a_group (λ g. GroupLine g) group_lines groups count later e

-- the dues of three kinds, one after the other
pub dues_apart : (p q r later : List Due) → (p ++ (q ++ r)) ++ later ≡ p ++ (q ++ (r ++ later))
dues_apart p q r later = append_assoc p (q ++ r) later ∙ ap (λ ns. p ++ ns) (append_assoc q r later)

pub rows_taken : (parts : List Part) (lists : List ListShape) (groups : List Group) (later : List Due) → TakesAll (row_dues (length parts) (length lists) (length groups) ++ later) (part_values parts ++ (list_values lists ++ group_values groups)) later
rows_taken parts lists groups later =
    let p = replicate (length parts) a_part in
    let q = replicate (length lists) a_list in
    let r = replicate (length groups) a_group in
    subst (λ ns. TakesAll ns (part_values parts ++ (list_values lists ++ group_values groups)) later) (sym (dues_apart p q r later))
    (taken_join (p ++ (q ++ (r ++ later))) (q ++ (r ++ later)) later (part_values parts) (list_values lists ++ group_values groups) (parts_taken parts (length parts) (q ++ (r ++ later)) refl)
    (taken_join (q ++ (r ++ later)) (r ++ later) later (list_values lists) (group_values groups) (lists_taken lists (length lists) (r ++ later) refl) (groups_taken groups (length groups) later refl)))

pub cut_taken : (c : CutShape) (later : List Due) → TakesAll (a_cut ∷ later) (cut_values c) later
cut_taken (LsCut item last chosen) later = (tt, λ no_depth. no_depth, refl)
cut_taken (PriceCut item prices) later = (tt, λ no_depth. no_depth, refl)
cut_taken (BlockCut item potentials) later = (tt, λ no_depth. no_depth, refl)
cut_taken (RoundCut divisor parts) later = (tt, λ no_depth. no_depth, parts_taken parts (length parts) later refl)

-- the first of so many cuts
pub cuts_so_far : (cuts : List CutShape) (count m : ℕ) (later : List Due) → count ≡ length cuts + m → TakesAll (replicate count a_cut ++ later) (all_cut_values cuts) (replicate m a_cut ++ later)
cuts_so_far [] count m later e = ap (λ k. replicate k a_cut ++ later) (omega (arith, e))
cuts_so_far (c ∷ cs) zero m later e = absurd (omega (arith, e))
cuts_so_far (c ∷ cs) (suc count) m later e =
    let rest = replicate count a_cut ++ later in
    taken_join (a_cut ∷ rest) rest (replicate m a_cut ++ later) (cut_values c) (all_cut_values cs) (cut_taken c rest) (cuts_so_far cs count m later (omega (arith, e)))

pub cuts_taken : (cuts : List CutShape) (count : ℕ) (later : List Due) → length cuts ≡ count → TakesAll (replicate count a_cut ++ later) (all_cut_values cuts) later
cuts_taken cuts count later e = cuts_so_far cuts count 0 later (omega (arith, e))

-- parts, and neither lists nor groups
parts_alone_taken : (parts : List Part) (later : List Due) → TakesAll (replicate (length parts) a_part ++ later) (part_values parts ++ []) later
parts_alone_taken parts later = subst (λ ls. TakesAll (replicate (length parts) a_part ++ later) ls later) (sym (append-nil (part_values parts))) (parts_taken parts (length parts) later refl)

pub leaf_taken : (l : LeafShape) (above : ℕ) (later : List Due) → TakesAll (a_tree above ∷ later) (leaf_values l) later
leaf_taken (LinearLeaf den parts) above later = (tt, λ no_depth. no_depth, parts_alone_taken parts later)
leaf_taken (FarkasLeaf parts) above later = (tt, λ no_depth. no_depth, parts_alone_taken parts later)
leaf_taken PointLeaf above later = (tt, λ no_depth. no_depth, refl)
leaf_taken (ReducedLeaf den parts lists groups) above later = (tt, λ no_depth. no_depth, rows_taken parts lists groups later)

pub tree_taken : (t : TreeShape) (above : ℕ) (later : List Due) → above + longest_path t ≤ MAX_BRANCHES → TakesAll (a_tree above ∷ later) (tree_values t) later
tree_taken (Split column at low high) above later fits =
    let next = a_tree (above + 1) in (
      tt,
      λ deep. omega (arith, deep, fits),
      taken_join (next ∷ next ∷ later) (next ∷ later) later (tree_values low) (tree_values high)
          (tree_taken low (above + 1) (next ∷ later) (omega (arith, fits)))
          (tree_taken high (above + 1) later (omega (arith, fits))),
    )
tree_taken (End l) above later fits = leaf_taken l above later

-- ---- one reading after the other
pub read_none : {version : ℕ} (a b : Rest) → a.text.now ≡ b.text.now → b.line ≡ a.line → AreRead version a b []
read_none {version = version} a b text number = record { lines = tt; text = text; number = omega (arith, number) }

pub read_join : {version : ℕ} (a b c : Rest) (xs ys : Values) → AreRead version a b xs → AreRead version b c ys → AreRead version a c (xs ++ ys)
read_join {version = version} a b c xs ys low high = record {
  lines = lines_join version xs ys low.lines high.lines;
  text = low.text ∙ ap (λ t. values_text xs ++ t) high.text ∙ sym (append_assoc (values_text xs) (values_text ys) c.text.now) ∙ ap (λ t. t ++ c.text.now) (sym (values_append xs ys));
  number = omega (arith, low.number, high.number, length-append xs ys);
}

-- ---- faults
pub fault_here : {version : ℕ} (dues : List Due) (text : List ℕ) (n : ℕ) (f : CertTextFault) → IsStop version dues text n f → IsFaultFrom version dues text n f
fault_here {version = version} dues text n f stop = record {
  read = [];
  rest = text;
  left = dues;
  text = refl;
  lines = tt;
  taken = refl;
  stop = subst (λ k. IsStop version dues text k f) (omega arith) stop;
}

pub fault_memory : {version : ℕ} (dues : List Due) (text : List ℕ) (n : ℕ) → IsFaultFrom version dues text n Memory
fault_memory {version = version} dues text n = fault_here {version = version} dues text n Memory tt

-- a fault of what is left
pub fault_later : {version : ℕ} (a b : Rest) (dues mid : List Due) (xs : Values) (f : CertTextFault) → AreRead version a b xs → TakesAll dues xs mid → IsFaultFrom version mid b.text.now b.line f → IsFaultFrom version dues a.text.now a.line f
fault_later {version = version} a b dues mid xs f read taken g = record {
  read = xs ++ g.read;
  rest = g.rest;
  left = g.left;
  text = read.text ∙ ap (λ t. values_text xs ++ t) g.text ∙ sym (append_assoc (values_text xs) (values_text g.read) g.rest) ∙ ap (λ t. t ++ g.rest) (sym (values_append xs g.read));
  lines = lines_join version xs g.read read.lines g.lines;
  taken = taken_join dues mid g.left xs g.read taken g.taken;
  stop = subst (λ k. IsStop version g.left g.rest k f) (omega (arith, read.number, length-append xs g.read)) g.stop;
}

-- the next line is another one
pub fault_shape : {version : ℕ} (text rest : List ℕ) (n : ℕ) (due : Due) (later : List Due) (l : LineShape) → text ≡ value_text l ++ rest → HasLine version l → (Takes due l → ⊥) → IsFaultFrom version (due ∷ later) text n (Shape n)
fault_shape {version = version} text rest n due later l is line other = fault_here {version = version} (due ∷ later) text n (Shape n) (refl, inr (l, record { rest = rest; text = is; line = line }, other))

pub some_due : (due : Due) (later : List Due) → due ∷ later ≢ []
some_due due later e = cc e

-- ---- one part or cut after the other
pub read_line_more : {version : ℕ} {A : Type 0} (line_of : A → LineShape) (a b d : Rest) (xs more : List A) (x : A) → AreRead version a b (map line_of xs) → AreRead version b d (line_of x ∷ []) → more ≡ xs ++ x ∷ [] → AreRead version a d (map line_of more)
read_line_more {version = version} line_of a b d xs more x low high is =
    subst (λ ys. AreRead version a d (map line_of ys)) (sym is) (subst (AreRead version a d) (sym (map-append line_of xs (x ∷ []))) (read_join a b d (map line_of xs) (line_of x ∷ []) low high))

pub read_part_more : {version : ℕ} (a b d : Rest) (parts more : List Part) (p : Part) → AreRead version a b (part_values parts) → AreRead version b d (PartLine p ∷ []) → more ≡ parts ++ p ∷ [] → AreRead version a d (part_values more)
read_part_more a b d parts more p low high is = read_line_more (λ part. PartLine part) a b d parts more p low high is

pub read_list_more : {version : ℕ} (a b d : Rest) (lists more : List PartList) (l : PartList) → AreRead version a b (list_values (map list_shape lists)) → AreRead version b d (ListLine (list_shape l) ∷ []) → more ≡ lists ++ l ∷ [] → AreRead version a d (list_values (map list_shape more))
read_list_more a b d lists more l low high is = read_line_more (λ x. ListLine x) a b d (map list_shape lists) (map list_shape more) (list_shape l) low high (ap (map list_shape) is ∙ map-append list_shape lists (l ∷ []))

pub read_group_more : {version : ℕ} (a b d : Rest) (groups more : List Group) (g : Group) → AreRead version a b (group_values groups) → AreRead version b d (GroupLine g ∷ []) → more ≡ groups ++ g ∷ [] → AreRead version a d (group_values more)
read_group_more a b d groups more g low high is = read_line_more (λ x. GroupLine x) a b d groups more g low high is

-- the next one of so many is wrong
pub lines_fault : {version : ℕ} {A : Type 0} (due : Due) (line_of : A → LineShape) → AreOf due line_of → (a b : Rest) (xs : List A) (count : ℕ) (f : CertTextFault) → AreRead version a b (map line_of xs) → length xs < count → ((later : List Due) → IsFaultFrom version (due ∷ later) b.text.now b.line f) → (later : List Due) → IsFaultFrom version (replicate count due ++ later) a.text.now a.line f
lines_fault due line_of are a b xs count f read less fault later =
    let m = count - length xs - 1 in
    fault_later a b (replicate count due ++ later) (replicate (suc m) due ++ later) (map line_of xs) f read (lines_so_far due line_of are xs count (suc m) later (omega (arith, less))) (fault (replicate m due ++ later))

pub part_fault : {version : ℕ} (a b : Rest) (parts : List Part) (count : ℕ) (f : CertTextFault) → AreRead version a b (part_values parts) → length parts < count → ((later : List Due) → IsFaultFrom version (a_part ∷ later) b.text.now b.line f) → (later : List Due) → IsFaultFrom version (replicate count a_part ++ later) a.text.now a.line f
part_fault a b parts count f read less fault later = lines_fault a_part (λ part. PartLine part) part_lines a b parts count f read less fault later

pub list_fault : {version : ℕ} (a b : Rest) (lists : List PartList) (count : ℕ) (f : CertTextFault) → AreRead version a b (list_values (map list_shape lists)) → length lists < count → ((later : List Due) → IsFaultFrom version (a_list ∷ later) b.text.now b.line f) → (later : List Due) → IsFaultFrom version (replicate count a_list ++ later) a.text.now a.line f
list_fault a b lists count f read less fault later = lines_fault a_list (λ x. ListLine x) list_lines a b (map list_shape lists) count f read (omega (arith, less, length-map lists list_shape)) fault later

pub group_fault : {version : ℕ} (a b : Rest) (groups : List Group) (count : ℕ) (f : CertTextFault) → AreRead version a b (group_values groups) → length groups < count → ((later : List Due) → IsFaultFrom version (a_group ∷ later) b.text.now b.line f) → (later : List Due) → IsFaultFrom version (replicate count a_group ++ later) a.text.now a.line f
group_fault a b groups count f read less fault later = lines_fault a_group (λ x. GroupLine x) group_lines a b groups count f read less fault later

-- ---- the rows of a leaf over reduced costs
pub rows_read : {version : ℕ} (a b d e : Rest) (parts : List Part) (lists : List ListShape) (groups : List Group) → AreRead version a b (part_values parts) → AreRead version b d (list_values lists) → AreRead version d e (group_values groups) → AreRead version a e (part_values parts ++ (list_values lists ++ group_values groups))
rows_read {version = version} a b d e parts lists groups first second third =
    read_join a b e (part_values parts) (list_values lists ++ group_values groups) first (read_join b d e (list_values lists) (group_values groups) second third)

-- the fault stands in its parts, in its lists, or in its groups
pub row_parts_fault : {version : ℕ} (a : Rest) (p l g : ℕ) (f : CertTextFault) → ((later : List Due) → IsFaultFrom version (replicate p a_part ++ later) a.text.now a.line f) → (later : List Due) → IsFaultFrom version (row_dues p l g ++ later) a.text.now a.line f
row_parts_fault {version = version} a p l g f fault later =
    let q = replicate l a_list in
    let r = replicate g a_group in
    subst (λ ns. IsFaultFrom version ns a.text.now a.line f) (sym (dues_apart (replicate p a_part) q r later)) (fault (q ++ (r ++ later)))

pub row_lists_fault : {version : ℕ} (a b : Rest) (parts : List Part) (p l g : ℕ) (f : CertTextFault) → AreRead version a b (part_values parts) → length parts ≡ p → ((later : List Due) → IsFaultFrom version (replicate l a_list ++ later) b.text.now b.line f) → (later : List Due) → IsFaultFrom version (row_dues p l g ++ later) a.text.now a.line f
row_lists_fault {version = version} a b parts p l g f read same fault later =
    let q = replicate l a_list in
    let r = replicate g a_group in
    subst (λ ns. IsFaultFrom version ns a.text.now a.line f) (sym (dues_apart (replicate p a_part) q r later))
    (fault_later a b (replicate p a_part ++ (q ++ (r ++ later))) (q ++ (r ++ later)) (part_values parts) f read (parts_taken parts p (q ++ (r ++ later)) same) (fault (r ++ later)))

pub row_groups_fault : {version : ℕ} (a b d : Rest) (parts : List Part) (lists : List PartList) (p l g : ℕ) (f : CertTextFault) → AreRead version a b (part_values parts) → length parts ≡ p → AreRead version b d (list_values (map list_shape lists)) → length lists ≡ l → ((later : List Due) → IsFaultFrom version (replicate g a_group ++ later) d.text.now d.line f) → (later : List Due) → IsFaultFrom version (row_dues p l g ++ later) a.text.now a.line f
row_groups_fault {version = version} a b d parts lists p l g f first same second as_many fault later =
    let q = replicate l a_list in
    let r = replicate g a_group in
    let shapes = map list_shape lists in
    subst (λ ns. IsFaultFrom version ns a.text.now a.line f) (sym (dues_apart (replicate p a_part) q r later))
    (fault_later a b (replicate p a_part ++ (q ++ (r ++ later))) (q ++ (r ++ later)) (part_values parts) f first (parts_taken parts p (q ++ (r ++ later)) same)
    (fault_later b d (q ++ (r ++ later)) (r ++ later) (list_values shapes) f second (lists_taken shapes l (r ++ later) (omega (arith, as_many, length-map lists list_shape))) (fault later)))

pub read_cut_more : {version : ℕ} (a b d : Rest) (cuts more : List Cut) (c : Cut) → AreRead version a b (all_cut_values (map cut_shape cuts)) → AreRead version b d (cut_values (cut_shape c)) → more ≡ cuts ++ c ∷ [] → AreRead version a d (all_cut_values (map cut_shape more))
read_cut_more {version = version} a b d cuts more c low high is =
    let shapes = map cut_shape cuts in
    let joined : all_cut_values (shapes ++ cut_shape c ∷ []) ≡ all_cut_values shapes ++ cut_values (cut_shape c) = flat_map-append cut_values shapes (cut_shape c ∷ []) ∙ ap (λ t. all_cut_values shapes ++ t) (append-nil (cut_values (cut_shape c))) in
    let all : all_cut_values (map cut_shape (cuts ++ c ∷ [])) ≡ all_cut_values shapes ++ cut_values (cut_shape c) = ap all_cut_values (map-append cut_shape cuts (c ∷ [])) ∙ joined in
    subst (λ cs. AreRead version a d (all_cut_values (map cut_shape cs))) (sym is) (subst (AreRead version a d) (sym all) (read_join a b d (all_cut_values shapes) (cut_values (cut_shape c)) low high))

pub cut_fault : {version : ℕ} (a b : Rest) (cuts : List Cut) (count : ℕ) (f : CertTextFault) → AreRead version a b (all_cut_values (map cut_shape cuts)) → length cuts < count → ((later : List Due) → IsFaultFrom version (a_cut ∷ later) b.text.now b.line f) → (later : List Due) → IsFaultFrom version (replicate count a_cut ++ later) a.text.now a.line f
cut_fault {version = version} a b cuts count f read less fault later =
    let m = count - length cuts - 1 in
    fault_later a b (replicate count a_cut ++ later) (replicate (suc m) a_cut ++ later) (all_cut_values (map cut_shape cuts)) f read (cuts_so_far (map cut_shape cuts) count (suc m) later (omega (arith, less, length-map cuts cut_shape))) (fault (replicate m a_cut ++ later))

-- ---- a line, and the parts after it
pub read_line_of : {version : ℕ} (a b : Rest) (l : LineShape) → HasLine version l → a.text.now ≡ value_text l ++ b.text.now → b.line ≡ a.line + 1 → AreRead version a b (l ∷ [])
read_line_of {version = version} a b l line text number = record {
  lines = (line, tt);
  text = text ∙ ap (λ t. t ++ b.text.now) (sym (append-nil (value_text l)));
  number = omega (arith, number);
}

pub line_then : {version : ℕ} (a b d : Rest) (l : LineShape) (ls : Values) → AreRead version a b (l ∷ []) → AreRead version b d ls → AreRead version a d (l ∷ ls)
line_then {version = version} a b d l ls first rest = read_join a b d (l ∷ []) ls first rest

-- a fault after a line that is as needed
pub line_fault : {version : ℕ} (a b : Rest) (due : Due) (l : LineShape) (more : List Due) (f : CertTextFault) → AreRead version a b (l ∷ []) → Takes due l → (IsDeep due l → ⊥) → after due l ≡ more → ((later : List Due) → IsFaultFrom version (more ++ later) b.text.now b.line f) → (later : List Due) → IsFaultFrom version (due ∷ later) a.text.now a.line f
line_fault {version = version} a b due l more f read takes shallow same fault later =
    fault_later a b (due ∷ later) (more ++ later) (l ∷ []) f read (takes, shallow, ap (λ ms. ms ++ later) same) (fault later)

pub not_cut : (l : CertLine) → ((c : Cut) → l ≢ line.Cut c) → ((divisor parts : ℕ) → l ≢ line.Round divisor parts) → Takes a_cut (line_shape l) → ⊥
not_cut (line.Cut c) other round takes = other c refl
not_cut (line.Round divisor parts) other round takes = round divisor parts refl
not_cut (line.Part part) other round takes = takes
not_cut (line.Branch column at) other round takes = takes
not_cut (line.Linear den parts) other round takes = takes
not_cut (line.Farkas parts) other round takes = takes
not_cut line.Point other round takes = takes
not_cut (line.Reduced den parts lists groups) other round takes = takes
not_cut (line.List a) other round takes = takes
not_cut (line.Group g) other round takes = takes
not_cut line.End other round takes = takes

pub not_tree : (l : CertLine) (above : ℕ) → ((column : Column) (at : ℕ) → l ≢ line.Branch column at) → ((den : ℤ) (parts : ℕ) → l ≢ line.Linear den parts) → ((parts : ℕ) → l ≢ line.Farkas parts) → l ≢ line.Point → ((den parts lists groups : ℕ) → l ≢ line.Reduced den parts lists groups) → Takes (a_tree above) (line_shape l) → ⊥
not_tree (line.Cut c) above branch linear farkas point reduced takes = takes
not_tree (line.Round divisor parts) above branch linear farkas point reduced takes = takes
not_tree (line.Part part) above branch linear farkas point reduced takes = takes
not_tree (line.Branch column at) above branch linear farkas point reduced takes = branch column at refl
not_tree (line.Linear den parts) above branch linear farkas point reduced takes = linear den parts refl
not_tree (line.Farkas parts) above branch linear farkas point reduced takes = farkas parts refl
not_tree line.Point above branch linear farkas point reduced takes = point refl
not_tree (line.Reduced den parts lists groups) above branch linear farkas point reduced takes = reduced den parts lists groups refl
not_tree (line.List a) above branch linear farkas point reduced takes = takes
not_tree (line.Group g) above branch linear farkas point reduced takes = takes
not_tree line.End above branch linear farkas point reduced takes = takes

-- a branch with too many branches above it
pub fault_deep : {version : ℕ} (text rest : List ℕ) (n above : ℕ) (later : List Due) (column : Column) (at : ℕ) (l : CertLine) → l ≡ line.Branch column at → text ≡ value_text (line_shape l) ++ rest → HasLine version (line_shape l) → MAX_BRANCHES ≤ above → IsFaultFrom version (a_tree above ∷ later) text n (Deep n)
fault_deep {version = version} text rest n above later column at l same is line deep =
    fault_here {version = version} (a_tree above ∷ later) text n (Deep n) (refl, (line_shape l, record { rest = rest; text = is; line = line }, subst (λ x. IsDeep (a_tree above) (line_shape x)) (sym same) deep))

pub not_end : (l : CertLine) → l ≢ line.End → Takes the_end (line_shape l) → ⊥
not_end (line.Cut c) other takes = takes
not_end (line.Round divisor parts) other takes = takes
not_end (line.Part part) other takes = takes
not_end (line.Branch column at) other takes = takes
not_end (line.Linear den parts) other takes = takes
not_end (line.Farkas parts) other takes = takes
not_end line.Point other takes = takes
not_end (line.Reduced den parts lists groups) other takes = takes
not_end (line.List a) other takes = takes
not_end (line.Group g) other takes = takes
not_end line.End other takes = other refl

-- something after the last line
pub fault_past : {version : ℕ} (a b : Rest) (f : CertTextFault) → AreRead version a b (EndLine ∷ []) → IsStop version [] b.text.now b.line f → IsFaultFrom version (the_end ∷ []) a.text.now a.line f
fault_past {version = version} a b f read stop = fault_later a b (the_end ∷ []) [] (EndLine ∷ []) f read (tt, λ no_depth. no_depth, refl) (fault_here {version = version} [] b.text.now b.line f stop)

pub stop_past : {version : ℕ} (text rest : List ℕ) (n : ℕ) (l : LineShape) → text ≡ value_text l ++ rest → HasLine version l → IsStop version [] text n (Shape n)
stop_past {version = version} text rest n l is line = (refl, inr (l, record { rest = rest; text = is; line = line }, tt))

-- ---- a branch, its low side and its high side
pub low_fault : {version : ℕ} (a b : Rest) (above : ℕ) (column : Column) (at : ℕ) (f : CertTextFault) → AreRead version a b (BranchLine column at ∷ []) → above < MAX_BRANCHES → ((later : List Due) → IsFaultFrom version (a_tree (above + 1) ∷ later) b.text.now b.line f) → (later : List Due) → IsFaultFrom version (a_tree above ∷ later) a.text.now a.line f
low_fault {version = version} a b above column at f read less fault =
    let next = a_tree (above + 1) in
    line_fault a b (a_tree above) (BranchLine column at) (next ∷ next ∷ []) f read tt (λ deep. omega (arith, deep, less)) refl (λ later. fault (next ∷ later))

pub high_fault : {version : ℕ} (a b d : Rest) (above : ℕ) (column : Column) (at : ℕ) (low : TreeShape) (f : CertTextFault) → AreRead version a b (BranchLine column at ∷ []) → above < MAX_BRANCHES → AreRead version b d (tree_values low) → above + 1 + longest_path low ≤ MAX_BRANCHES → ((later : List Due) → IsFaultFrom version (a_tree (above + 1) ∷ later) d.text.now d.line f) → (later : List Due) → IsFaultFrom version (a_tree above ∷ later) a.text.now a.line f
high_fault {version = version} a b d above column at low f read less low_read fits fault =
    let next = a_tree (above + 1) in
    line_fault a b (a_tree above) (BranchLine column at) (next ∷ next ∷ []) f read tt (λ deep. omega (arith, deep, less)) refl (λ later. fault_later b d (next ∷ next ∷ later) (next ∷ later) (tree_values low) f low_read (tree_taken low (above + 1) (next ∷ later) fits) (fault later))

pub tree_read : {version : ℕ} (a b d e : Rest) (column : Column) (at : ℕ) (low high : TreeShape) → AreRead version a b (BranchLine column at ∷ []) → AreRead version b d (tree_values low) → AreRead version d e (tree_values high) → AreRead version a e (BranchLine column at ∷ (tree_values low ++ tree_values high))
tree_read {version = version} a b d e column at low high first low_read high_read = line_then a b e (BranchLine column at) (tree_values low ++ tree_values high) first (read_join b d e (tree_values low) (tree_values high) low_read high_read)

pub node_read : {version : ℕ} (a b : Rest) (n : Node) (column : Column) (at : ℕ) → n ≡ node.Branch column at → AreRead version a b (node_values n) → AreRead version a b (BranchLine column at ∷ [])
node_read {version = version} a b n column at is read = subst (λ n. AreRead version a b (node_values n)) is read

pub node_high : (above : ℕ) (n : Node) (column : Column) (at : ℕ) → n ≡ node.Branch column at → IsHigh above n → above < MAX_BRANCHES
node_high above n column at is high = subst (IsHigh above) is high
