-- Values that have lines, put together.
use Rattle.std.proofs.Common.{◌≡◌, ℕ, zero, suc, refl, sym, subst, arith, List, [], ◌∷◌, ◌++◌}
use Rattle.std.specs.Prelude.{map}
use Rattle.std.specs.List.{All}
use Rattle.item_groups.specs.declared.group.Group.{Group}
use Rattle.cert_lines.specs.declared.parts.Part.{Part}
use Rattle.cert_lines.specs.declared.parts.PartList.{PartList}
use Rattle.cert_lines.specs.declared.parts.Cut.{Cut}
use Rattle.cert_lines.specs.Shapes.{BlockCut, CutShape, EndLine, GroupLine, LeafShape, LineShape, ListLine, LsCut, PartLine, PriceCut, RoundCut, cut_first, cut_shape, leaf_first, leaf_groups, leaf_lists, leaf_parts, list_shape}
use Rattle.cert_lines.specs.Line.{HasForm, HasLine}
use Rattle.certificate.specs.Values.{AreLines, Values, all_cut_values, cut_values, group_values, leaf_values, list_values, part_values}

pub lines_join : (version : ℕ) (xs ys : Values) → AreLines version xs → AreLines version ys → AreLines version (xs ++ ys)
lines_join version [] ys a b = b
lines_join version (x ∷ xs) ys a b = (a.0, lines_join version xs ys a.1 b)

pub lines_split : (version : ℕ) (xs ys : Values) → AreLines version (xs ++ ys) → AreLines version xs × AreLines version ys
lines_split version [] ys a = (tt, a)
lines_split version (x ∷ xs) ys a = let (low, high) = lines_split version xs ys a.1 in ((a.0, low), high)

pub end_line : {version : ℕ} → HasLine version EndLine
end_line = record { text = refl; form = record { small = tt; short = omega arith }; known = tt }

-- parts and cuts, one by one or as a list
pub parts_join : {version : ℕ} (ps : List Part) → All (λ p. HasLine version (PartLine p)) ps → AreLines version (part_values ps)
parts_join {version = version} [] h = tt
parts_join {version = version} (p ∷ ps) h = (h zero p (omega arith), parts_join {version = version} ps (λ k d less. h (suc k) d (omega (arith, less))))

pub parts_split : {version : ℕ} (ps : List Part) → AreLines version (part_values ps) → All (λ p. HasLine version (PartLine p)) ps
parts_split {version = version} [] h k d less = absurd (omega (arith, less))
parts_split {version = version} (p ∷ ps) h zero d less = h.0
parts_split {version = version} (p ∷ ps) h (suc k) d less = parts_split {version = version} ps h.1 k d (omega (arith, less))

pub lists_join : {version : ℕ} (xs : List PartList) → All (λ a. HasLine version (ListLine (list_shape a))) xs → AreLines version (list_values (map list_shape xs))
lists_join {version = version} [] h = tt
lists_join {version = version} (a ∷ xs) h = (h zero a (omega arith), lists_join {version = version} xs (λ k d less. h (suc k) d (omega (arith, less))))

pub lists_split : {version : ℕ} (xs : List PartList) → AreLines version (list_values (map list_shape xs)) → All (λ a. HasLine version (ListLine (list_shape a))) xs
lists_split {version = version} [] h k d less = absurd (omega (arith, less))
lists_split {version = version} (a ∷ xs) h zero d less = h.0
lists_split {version = version} (a ∷ xs) h (suc k) d less = lists_split {version = version} xs h.1 k d (omega (arith, less))

pub groups_join : {version : ℕ} (gs : List Group) → All (λ g. HasLine version (GroupLine g)) gs → AreLines version (group_values gs)
groups_join {version = version} [] h = tt
groups_join {version = version} (g ∷ gs) h = (h zero g (omega arith), groups_join {version = version} gs (λ k d less. h (suc k) d (omega (arith, less))))

pub groups_split : {version : ℕ} (gs : List Group) → AreLines version (group_values gs) → All (λ g. HasLine version (GroupLine g)) gs
groups_split {version = version} [] h k d less = absurd (omega (arith, less))
groups_split {version = version} (g ∷ gs) h zero d less = h.0
groups_split {version = version} (g ∷ gs) h (suc k) d less = groups_split {version = version} gs h.1 k d (omega (arith, less))

pub cuts_join : {version : ℕ} (cs : List Cut) → All (λ c. AreLines version (cut_values (cut_shape c))) cs → AreLines version (all_cut_values (map cut_shape cs))
cuts_join {version = version} [] h = tt
cuts_join {version = version} (c ∷ cs) h = lines_join version (cut_values (cut_shape c)) (all_cut_values (map cut_shape cs)) (h zero c (omega arith)) (cuts_join {version = version} cs (λ k d less. h (suc k) d (omega (arith, less))))

pub cuts_split : {version : ℕ} (cs : List Cut) → AreLines version (all_cut_values (map cut_shape cs)) → All (λ c. AreLines version (cut_values (cut_shape c))) cs
cuts_split {version = version} [] h k d less = absurd (omega (arith, less))
cuts_split {version = version} (c ∷ cs) h zero d less = (lines_split version (cut_values (cut_shape c)) (all_cut_values (map cut_shape cs)) h).0
cuts_split {version = version} (c ∷ cs) h (suc k) d less = cuts_split {version = version} cs (lines_split version (cut_values (cut_shape c)) (all_cut_values (map cut_shape cs)) h).1 k d (omega (arith, less))

-- the lines of a branch
pub branch_split : {version : ℕ} (lines : Values) (l : LineShape) (low high : Values) → lines ≡ l ∷ (low ++ high) → AreLines version lines → HasLine version l × AreLines version low × AreLines version high
branch_split {version = version} lines l low high is are = let s = subst (AreLines version) is are in let (a, b) = lines_split version low high s.1 in (s.0, a, b)

pub branch_join : {version : ℕ} (lines : Values) (l : LineShape) (low high : Values) → lines ≡ l ∷ (low ++ high) → HasLine version l → AreLines version low → AreLines version high → AreLines version lines
branch_join {version = version} lines l low high is first a b = subst (AreLines version) (sym is) (first, lines_join version low high a b)

-- the first line of a cut is known to each version
pub cut_line : {version : ℕ} (c : CutShape) → HasForm (cut_first c) → HasLine version (cut_first c)
cut_line (LsCut item last chosen) form = record { text = refl; form = form; known = tt }
cut_line (PriceCut item lists) form = record { text = refl; form = form; known = tt }
cut_line (BlockCut item lists) form = record { text = refl; form = form; known = tt }
cut_line (RoundCut divisor parts) form = record { text = refl; form = form; known = tt }

-- the lines of a leaf
pub leaf_join : {version : ℕ} (l : LeafShape) → HasLine version (leaf_first l) → AreLines version (part_values (leaf_parts l)) → AreLines version (list_values (leaf_lists l)) → AreLines version (group_values (leaf_groups l)) → AreLines version (leaf_values l)
leaf_join {version = version} l first parts lists groups =
    let part_lines = part_values (leaf_parts l) in
    let list_lines = list_values (leaf_lists l) in
    let group_lines = group_values (leaf_groups l) in
    (first, lines_join version part_lines (list_lines ++ group_lines) parts (lines_join version list_lines group_lines lists groups))

pub leaf_split : {version : ℕ} (l : LeafShape) → AreLines version (leaf_values l) → HasLine version (leaf_first l) × AreLines version (part_values (leaf_parts l)) × AreLines version (list_values (leaf_lists l)) × AreLines version (group_values (leaf_groups l))
leaf_split {version = version} l are =
    let part_lines = part_values (leaf_parts l) in
    let list_lines = list_values (leaf_lists l) in
    let group_lines = group_values (leaf_groups l) in
    let (parts, rest) = lines_split version part_lines (list_lines ++ group_lines) are.1 in
    let (lists, groups) = lines_split version list_lines group_lines rest in
    (are.0, parts, lists, groups)
