-- The texts of lines that are put one after the other.
use Rattle.std.proofs.Common.{◌≡◌, ◌∙◌, refl, sym, ap, ℕ, List, [], ◌∷◌, ◌++◌, append_assoc, append-nil}
use Rattle.std.specs.Prelude.{map, pos}
use Rattle.std.specs.List.{flat_map}
use Rattle.std.proofs.lemmas.Grind.{flat_map-append}
use Rattle.lin_rows.specs.declared.base.RowName.TheVariants.{Balance}
use Rattle.item_groups.specs.declared.group.Group.{Group}
use Rattle.cert_lines.specs.declared.parts.Part.{Part}
use Rattle.cert_lines.specs.declared.parts.PartList.{PartList}
use Rattle.cert_lines.specs.declared.parts.Cut.{Cut}
use Rattle.cert_lines.specs.Shapes.{EndLine, LineShape, cut_shape, list_shape}
use Rattle.cert_lines.specs.Text.{group_line, line_text, list_line, part_line}
use Rattle.certificate.specs.Shapes.{Shape}
use Rattle.certificate.specs.Values.{Values, all_cut_values, body_values, cut_values, group_values, list_values, part_values, tree_values, value_text, values_text}

pub values_append : (xs ys : Values) → values_text (xs ++ ys) ≡ values_text xs ++ values_text ys
values_append xs ys = flat_map-append value_text xs ys

-- a part with its line feed
abbrev pub part_text : Part → List ℕ
part_text part = line_text (part_line part)

pub parts_text : (parts : List Part) → flat_map part_text parts ≡ values_text (part_values parts)
parts_text [] = refl
parts_text (p ∷ ps) = ap (λ t. part_text p ++ t) (parts_text ps)

abbrev pub no_part : Part
no_part = record { row = Balance 0 0; times = pos 0 }

-- a list and a group with their line feeds
abbrev pub list_text : PartList → List ℕ
list_text a = line_text (list_line (list_shape a))

pub lists_text : (lists : List PartList) → flat_map list_text lists ≡ values_text (list_values (map list_shape lists))
lists_text [] = refl
lists_text (a ∷ rest) = ap (λ t. list_text a ++ t) (lists_text rest)

abbrev pub group_text : Group → List ℕ
group_text g = line_text (group_line g)

pub groups_text : (groups : List Group) → flat_map group_text groups ≡ values_text (group_values groups)
groups_text [] = refl
groups_text (g ∷ rest) = ap (λ t. group_text g ++ t) (groups_text rest)

-- the text of a cut
abbrev pub cut_text : Cut → List ℕ
cut_text c = values_text (cut_values (cut_shape c))

pub cuts_text : (cs : List Cut) → flat_map cut_text cs ≡ values_text (all_cut_values (map cut_shape cs))
cuts_text [] = refl
cuts_text (c ∷ cs) = ap (λ t. cut_text c ++ t) (cuts_text cs) ∙ sym (values_append (cut_values (cut_shape c)) (all_cut_values (map cut_shape cs)))

five_joined : (a b c d e : List ℕ) → (((a ++ b) ++ c) ++ d) ++ e ≡ a ++ (b ++ (c ++ (d ++ e)))
five_joined a b c d e = simp append_assoc refl

-- pieces that are put one after the other
pub line_joined : (old : List ℕ) (l : LineShape) (ls : Values) → (old ++ value_text l) ++ values_text ls ≡ old ++ values_text (l ∷ ls)
line_joined old l ls = append_assoc old (value_text l) (values_text ls)

pub leaf_joined : (old : List ℕ) (l : LineShape) (parts lists groups : Values) → (((old ++ value_text l) ++ values_text parts) ++ values_text lists) ++ values_text groups ≡ old ++ values_text (l ∷ (parts ++ (lists ++ groups)))
leaf_joined old l parts lists groups =
    let three : values_text (parts ++ (lists ++ groups)) ≡ values_text parts ++ (values_text lists ++ values_text groups) = values_append parts (lists ++ groups) ∙ ap (λ t. values_text parts ++ t) (values_append lists groups) in
    five_joined old (value_text l) (values_text parts) (values_text lists) (values_text groups) ∙ ap (λ t. old ++ (value_text l ++ t)) (sym three)

pub tree_joined : (old : List ℕ) (l : LineShape) (low high : Values) → ((old ++ value_text l) ++ values_text low) ++ values_text high ≡ old ++ values_text (l ∷ (low ++ high))
tree_joined old l low high =
    append_assoc (old ++ value_text l) (values_text low) (values_text high) ∙ append_assoc old (value_text l) (values_text low ++ values_text high)
    ∙ ap (λ t. old ++ (value_text l ++ t)) (sym (values_append low high))

pub body_text : (s : Shape) → values_text (body_values s) ≡ values_text (all_cut_values s.cuts) ++ (values_text (tree_values s.tree) ++ values_text (EndLine ∷ []))
body_text s = values_append (all_cut_values s.cuts) (tree_values s.tree ++ EndLine ∷ []) ∙ ap (λ t. values_text (all_cut_values s.cuts) ++ t) (values_append (tree_values s.tree) (EndLine ∷ []))

six_joined : (a b c d t e : List ℕ) → ((((a ++ b) ++ c) ++ d) ++ t) ++ e ≡ (a ++ (b ++ (c ++ []))) ++ (d ++ (t ++ (e ++ [])))
six_joined a b c d t e = simp (append_assoc, append-nil) refl

pub certificate_joined : (s : Shape) (h c k : List ℕ) → ((((h ++ c) ++ k) ++ values_text (all_cut_values s.cuts)) ++ values_text (tree_values s.tree)) ++ value_text EndLine ≡ (h ++ (c ++ (k ++ []))) ++ values_text (body_values s)
certificate_joined s h c k =
    six_joined h c k (values_text (all_cut_values s.cuts)) (values_text (tree_values s.tree)) (value_text EndLine) ∙ ap (λ t. (h ++ (c ++ (k ++ []))) ++ t) (sym (body_text s))
