-- From the least number that a leaf says to the claim.
use Rattle.std.proofs.Common.{◌≡◌, ◌≤◌, ◌<◌, ◌+◌, ◌*◌, ◌∙◌, ⊎_elim, inl, inr, ℕ, sym, subst, arith, List, [], length, Option, Some, None}
use Rattle.std.proofs.lemmas.Bool.{cases_lt}
use Rattle.cert_lines.specs.declared.limits.TheConstants.{MAX_BRANCHES}
use Rattle.tree_search.specs.declared.sought.Sought.{Sought as Tree}
use Rattle.tree_search.specs.declared.sought.Sought.TheVariants.{Branch', Leaf as LeafOf}
use Rattle.cert_lines.specs.declared.parts.Claim.{Claim}
use Rattle.cert_lines.specs.declared.parts.Claim.TheVariants.{Optimal, Infeasible, Bound}
use Rattle.tree_search.specs.Counts.{longest, nodes}
use Rattle.tree_search.specs.declared.node.Range.{Range}
use Rattle.lin_rows.specs.declared.bound.Bound.{Bound as BoundOf}
use Rattle.tree_search.specs.Ranges.{AreOrdered, height, high_side, low_side, volume}
use Rattle.tree_search.specs.Costs.{IsAtMost, IsBelow}
use Rattle.tree_search.specs.Trees.{EachLeaf, Rules, SomeLeaf, high_path, least_said, low_path}
use Rattle.tree_search.proofs.Trees.{IsGrown, IsOpenApart}
use Rattle.tree_search.specs.Claims.{IsBound, IsOpenDeep, IsLeastClaim, IsShown, IsUndecided}
use Rattle.tree_search.proofs.Ranges.{point_of_height}
use Rattle.tree_search.proofs.Endless.{at_most-refl, lesser-one}
use Rattle.tree_search.proofs.Trees.{IsClosed, closed_least, decided, each_both, each_map, high_path-length, least_first, low_path-length, ordered_leaves, shallow}

-- some leaf says the least number
pub least_some : (rules : Rules) (m : Option ℕ) (rs : List Range) (path : List BoundOf) (tree : Tree) → least_said tree ≡ m → SomeLeaf rules.place (λ rs path leaf. leaf.says ≡ m) rs path tree
least_some rules m rs path (Branch' c spot at p low q high) e =
    ⊎_elim
    (λ l. inl (least_some rules m (low_side rs (rules.place c) at) (low_path path c at) low (sym l ∙ e)))
    (λ l. inr (least_some rules m (high_side rs (rules.place c) at) (high_path path c at) high (sym l ∙ e)))
    (lesser-one (least_said low) (least_said high))
least_some rules m rs path (LeafOf leaf) e = e

-- a cost that is not above a number that isn't below it
not_below : (a b : Option ℕ) → (IsBelow a b → ⊥) → IsAtMost b a
not_below None b h = tt
not_below (Some a) None h = absurd (h tt)
not_below (Some a) (Some b) h = ⊎_elim (λ l. absurd (h l)) (λ l. l) (cases_lt a b)

pub shown : (rules : Rules) (best least : Option ℕ) (rs : List Range) (tree : Tree) (claim : Claim) → least_said tree ≡ least → IsLeastClaim best least claim → IsShown rules best rs tree claim
shown rules best least rs tree (Optimal cost) e h =
    let known : IsAtMost (Some cost) (least_said tree) = subst (λ x. IsAtMost x (least_said tree)) h.0 (subst (IsAtMost best) (sym e) (not_below least best h.1)) in
    (h.0, least_first rules (Some cost) rs [] tree known)
shown rules best least rs tree Infeasible e h =
    let known : IsAtMost None (least_said tree) = subst (λ x. IsAtMost x (least_said tree)) h.0 (subst (IsAtMost best) (sym e) (not_below least best h.1)) in
    (h.0, least_first rules None rs [] tree known)
shown rules best least rs tree (Bound bound) e h =
    let is : least_said tree ≡ Some bound = e ∙ h.0 in (
      subst (λ x. IsBelow x best) h.0 h.1,
      least_first rules (Some bound) rs [] tree (subst (IsAtMost (Some bound)) (sym is) (at_most-refl (Some bound))),
      least_some rules (Some bound) rs [] tree is,
    )

-- a bound is open
pub bound_open : (rules : Rules) (best least : Option ℕ) (tree : Tree) (claim : Claim) → least_said tree ≡ least → IsLeastClaim best least claim → IsBound claim → IsBelow (least_said tree) best
bound_open rules best least tree (Optimal cost) e h b = absurd b
bound_open rules best least tree Infeasible e h b = absurd b
bound_open rules best least tree (Bound bound) e h b = subst (λ x. IsBelow x best) (sym e) h.1

-- where no path is as long as this, no leaf is as deep
long_paths : (rules : Rules) (best : Option ℕ) (most : ℕ) (rs : List Range) (path : List BoundOf) (tree : Tree) → length path + longest tree < most → EachLeaf rules.place (λ rs path leaf. IsBelow leaf.says best → most ≤ length path) rs path tree → EachLeaf rules.place (IsClosed rules best) rs path tree
long_paths rules best most rs path (Branch' c spot at p low q high) less h = (
  long_paths rules best most (low_side rs (rules.place c) at) (low_path path c at) low (omega (arith, less, low_path-length path c at)) h.0,
  long_paths rules best most (high_side rs (rules.place c) at) (high_path path c at) high (omega (arith, less, high_path-length path c at)) h.1,
)
long_paths rules best most rs path (LeafOf leaf) less h = λ below. let d = h below in omega (arith, d, less)

pub no_bound : (rules : Rules) (best least : Option ℕ) (budget : ℕ) (rs : List Range) (tree : Tree) (claim : Claim) → AreOrdered rs → IsGrown rules best budget rs [] tree → least_said tree ≡ least → IsLeastClaim best least claim → 2 * volume rs ≤ budget + 1 → height rs ≤ MAX_BRANCHES → IsBound claim → ⊥
no_bound rules best least budget rs tree claim o g e h enough low b =
    closed_least rules best rs [] tree (decided rules best budget rs [] tree o g enough (omega (arith, low))) (bound_open rules best least tree claim e h b)

-- deep leaves are more than the height allows
deep_high : (rules : Rules) (best : Option ℕ) (budget : ℕ) (rs : List Range) (tree : Tree) → AreOrdered rs → IsGrown rules best budget rs [] tree → EachLeaf rules.place (IsOpenDeep rules best) rs [] tree → height rs ≤ MAX_BRANCHES → EachLeaf rules.place (IsClosed rules best) rs [] tree
deep_high rules best budget rs tree o g deep low =
    each_map rules.place
    (λ rs path leaf. ((length path + height rs ≤ MAX_BRANCHES) × AreOrdered rs) × (IsOpenApart rules best rs path leaf × IsOpenDeep rules best rs path leaf))
    (IsClosed rules best)
    (λ rs path leaf h below. h.1.0 below (point_of_height rs h.0.1 (let d = h.1.1 below in let s = h.0.0 in omega (arith, d, s))))
    rs [] tree
    (each_both rules.place
    (λ rs path leaf. (length path + height rs ≤ MAX_BRANCHES) × AreOrdered rs)
    (λ rs path leaf. IsOpenApart rules best rs path leaf × IsOpenDeep rules best rs path leaf)
    rs [] tree
    (each_both rules.place (λ rs path leaf. length path + height rs ≤ MAX_BRANCHES) (λ rs path leaf. AreOrdered rs) rs [] tree (shallow rules.place rs [] tree g.allowed (omega (arith, low))) (ordered_leaves rules.place rs [] tree o g.split))
    (each_both rules.place (IsOpenApart rules best) (IsOpenDeep rules best) rs [] tree g.apart deep))

pub cause : (rules : Rules) (best least : Option ℕ) (budget : ℕ) (rs : List Range) (tree : Tree) (claim : Claim) → AreOrdered rs → IsGrown rules best budget rs [] tree → least_said tree ≡ least → IsLeastClaim best least claim → IsBound claim → IsUndecided rules best budget rs tree
cause rules best least budget rs tree claim o g e h b =
    let gap = bound_open rules best least tree claim e h b in
    ⊎_elim
    (λ much. inl much)
    (λ little.
    let deep = g.deep little in
    let long : MAX_BRANCHES ≤ longest tree =
    ⊎_elim
    (λ less. absurd (closed_least rules best rs [] tree (long_paths rules best MAX_BRANCHES rs [] tree (omega (arith, less)) deep) gap))
    (λ enough. enough)
    (cases_lt (longest tree) MAX_BRANCHES) in
    let short : longest tree ≤ MAX_BRANCHES = omega (arith, g.short) in
    let high : MAX_BRANCHES < height rs =
    ⊎_elim
    (λ more. more)
    (λ low. absurd (closed_least rules best rs [] tree (deep_high rules best budget rs tree o g deep low) gap))
    (cases_lt MAX_BRANCHES (height rs)) in
    inr (omega (arith, long, short), high, deep))
    (cases_lt budget (nodes tree + 2))
