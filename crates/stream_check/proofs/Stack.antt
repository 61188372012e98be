-- The path to a node as the stack of a walk over a tree.
use Rattle.std.proofs.Common.{◌≡◌, ◌≤◌, ◌<◌, ◌+◌, ◌⊎◌, ⊎_elim, ◌∙◌, ℕ, inl, inr, sym, ap, subst, arith, List, [], ◌∷◌, ◌++◌, append_assoc, append-nil, true, false, ◌^◌, IsTrue, Some}
use Rattle.std.proofs.lemmas.Bool.{cases_lt}
use Rattle.std.proofs.lemmas.List.Elements.{All-cons, All-nil, All-pop, All-push}
use Rattle.lot_sizing.specs.Problem.{Problem}
use Rattle.lot_sizing.specs.Plan.{IsFeasible, Plan}
use Rattle.lin_rows.specs.declared.bound.Bound.{Bound}
use Rattle.lin_rows.specs.declared.column.Column.{Column}
use Rattle.lin_rows.specs.Columns.{value_in}
use Rattle.lin_rows.specs.Rows.{Values}
use Rattle.cert_lines.specs.declared.parts.Claim.{Claim}
use Rattle.cert_trees.specs.Paths.{AreChoices, AreMet, IsMet, at_least, at_most}
use Rattle.cert_trees.specs.Ranges.{IsChoice}
use Rattle.cert_trees.specs.Trees.{high_path, low_path}
use Rattle.stream_check.specs.Nodes.{AreCovered, AreSmall, IsSafe, MeetsOne, later, later_from, trees_due, other_side}

later_from_more : (before path : List Bound) (b : Bound) → later_from before (path ++ (b ∷ [])) ≡ other_side b.most (before ++ path) b ++ later_from before path
later_from_more before [] b =
    ap (λ p. other_side b.most p b) (sym (append-nil before)) ∙ sym (append-nil (other_side b.most (before ++ []) b))
later_from_more before (x ∷ path) b =
    let deeper = before ++ (x ∷ []) in
    let own = other_side x.most before x in
    ap (λ ps. ps ++ own) (later_from_more deeper path b) ∙ append_assoc (other_side b.most (deeper ++ path) b) (later_from deeper path) own
    ∙ ap (λ p. other_side b.most p b ++ (later_from deeper path ++ own)) (append_assoc before (x ∷ []) path)

-- one bound more
pub later_more : (path : List Bound) (b : Bound) → later (path ++ (b ∷ [])) ≡ other_side b.most path b ++ later path
later_more path b = later_from_more [] path b

-- after a high side nothing more is needed than after its branch
pub later_high : (path : List Bound) (b : Bound) → b.most ≡ false → later (path ++ (b ∷ [])) ≡ later path
later_high path b is = later_more path b ∙ ap (λ most. other_side most path b ++ later path) is

-- after a low side its high side is
pub later_low : (path : List Bound) (b : Bound) → b.most ≡ true → later (path ++ (b ∷ [])) ≡ trees_due true (path ++ (at_least b.column (b.number + 1) ∷ []))
later_low path b is =
    let over = at_least b.column (b.number + 1) in
    later_more path b ∙ ap (λ most. other_side most path b ++ later path) is ∙ ap (λ ps. (path ++ (over ∷ [])) ∷ ps) (sym (later_more path over))

-- both sides of a branch are
pub needed_sides : (path : List Bound) (c : Column) (n : ℕ) → trees_due true (low_path path c n) ≡ low_path path c n ∷ high_path path c n ∷ later path
needed_sides path c n = ap (λ ps. low_path path c n ∷ ps) (later_more path (at_most c n))

-- ---- plans
meets_side : (v : Values) (path : List Bound) (c : Column) (n : ℕ) → AreMet v path → AreMet v (low_path path c n) ⊎ AreMet v (high_path path c n)
meets_side v path c n met =
    ⊎_elim
    (λ (less : v c < n + 1). inl (All-push (IsMet v) path (at_most c n) met (omega (arith, less))))
    (λ (more : n + 1 ≤ v c). inr (All-push (IsMet v) path (at_least c (n + 1)) met more))
    (cases_lt (v c) (n + 1))

-- values that meet the path to a branch meet that to one of its sides
pub covered_sides : (m : Problem) (claim : Claim) (path : List Bound) (c : Column) (n : ℕ) → AreCovered m claim (trees_due true path) → AreCovered m claim (trees_due true (low_path path c n))
covered_sides m claim path c n covered = λ p feasible.
    let v = value_in p in
    subst (λ paths. IsSafe m claim p ⊎ MeetsOne v paths) (sym (needed_sides path c n))
    (⊎_elim (λ safe. inl safe) (λ meets. inr (
    ⊎_elim (λ met. ⊎_elim (λ low. inl low) (λ high. inr (inl high)) (meets_side v path c n met)) (λ more. inr (inr more)) meets)) (covered p feasible))

-- a leaf that says enough is done
pub covered_leaf : (m : Problem) (claim : Claim) (path : List Bound) → ((p : Plan) → IsFeasible m p → AreMet (value_in p) path → IsSafe m claim p) → AreCovered m claim (trees_due true path) → AreCovered m claim (later path)
covered_leaf m claim path safe covered = λ p feasible.
    ⊎_elim (λ is. inl is) (λ meets. ⊎_elim (λ met. inl (safe p feasible met)) (λ more. inr more) meets) (covered p feasible)

-- at first one path, without bounds
pub covered_first : (m : Problem) (claim : Claim) → AreCovered m claim (trees_due true [])
covered_first m claim = λ p feasible. inr (inl (All-nil (IsMet (value_in p))))

-- in the end no path is left
pub covered_last : (m : Problem) (claim : Claim) → AreCovered m claim [] → (p : Plan) → IsFeasible m p → IsSafe m claim p
covered_last m claim covered p feasible = ⊎_elim (λ safe. safe) (λ none. absurd none) (covered p feasible)

-- ---- bounds of a path that is shorter by one
pub small_over : (b : Bound) → AreSmall ((at_least b.column (b.number + 1)) ∷ [])
small_over b = All-cons (λ d. IsTrue d.most → d.number + 1 < 2 ^ 64) (at_least b.column (b.number + 1)) [] (λ most. absurd (cc)) (All-nil (λ d. IsTrue d.most → d.number + 1 < 2 ^ 64))

pub small_popped : (path rest : List Bound) (b : Bound) → path ≡ rest ++ (b ∷ []) → AreSmall path → AreSmall rest
small_popped path rest b is small = (All-pop (λ d. IsTrue d.most → d.number + 1 < 2 ^ 64) path rest (Some b) is small).0

pub choices_popped : (m : Problem) (path rest : List Bound) (b : Bound) → path ≡ rest ++ (b ∷ []) → AreChoices m path → AreChoices m rest
choices_popped m path rest b is choices = (All-pop (λ d. IsChoice m d.column) path rest (Some b) is choices).0

pub choices_over : (m : Problem) (path rest over : List Bound) (b d : Bound) → path ≡ rest ++ (b ∷ []) → over ≡ rest ++ (d ∷ []) → d.column ≡ b.column → AreChoices m path → AreChoices m over
choices_over m path rest over b d is is_over same choices =
    let both = All-pop (λ x. IsChoice m x.column) path rest (Some b) is choices in
    subst (AreChoices m) (sym is_over) (All-push (λ x. IsChoice m x.column) rest d both.0 (subst (IsChoice m) (sym same) both.1))
