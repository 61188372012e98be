use Rattle.std.proofs.Common.{◌≡◌, ◌+◌, ◌-◌, ◌∷◌, ◌++◌, ◌∙◌, [], suc, ap, arith, rules, length, refl, set, slice_index_or, take}
use Rattle.certificate.specs.Dues.{a_tree}
use Rattle.certificate.proofs.Piles.{dues_of, last_first, last_set, tree_first}
use Rattle.certificate.proofs.dues.Dues.split_last.Goals as goal

pub returns-then-above-ge-MAX_BRANCHES-clause-deep : goal.returns-then-above-ge-MAX_BRANCHES-clause-deep
returns-then-above-ge-MAX_BRANCHES-clause-deep c =
    let s = c.args.self.now in
    let k = c.len-last.result - 1 in
    let is : length s.trees.items ≡ suc k = search rules in
    let above : slice_index_or s.trees.items k c.index-above.result.now ≡ c.index-above.result.now = search rules in
    λ _. (
      slice_index_or s.trees.items k c.index-above.result.now,
      dues_of s.parts s.lists s.groups s.cuts (take k s.trees.items) s.end,
      last_first s.parts s.lists s.groups s.cuts s.trees.items k c.index-above.result.now s.end c.requires.parts c.requires.lists c.requires.groups c.requires.cuts is,
      omega (arith, above, c.if-above-ge-MAX_BRANCHES.true),
    )

pub returns-clause-split : goal.returns-clause-split
returns-clause-split c =
    let s = c.args.self.now in
    let k = c.len-last.result - 1 in
    let x = c.index-above.result.now in
    let front = take k s.trees.items in
    let is : length s.trees.items ≡ suc k = search rules in
    let above : slice_index_or s.trees.items k x ≡ x = search rules in
    let first : dues_of s.parts s.lists s.groups s.cuts s.trees.items s.end ≡ a_tree x ∷ dues_of s.parts s.lists s.groups s.cuts front s.end =
    last_first s.parts s.lists s.groups s.cuts s.trees.items k x s.end c.requires.parts c.requires.lists c.requires.groups c.requires.cuts is ∙ ap (λ n. a_tree n ∷ dues_of s.parts s.lists s.groups s.cuts front s.end) above in
    let now : set c.push.new.self.items k (x + 1) ≡ (front ++ (x + 1) ∷ []) ++ (x + 1) ∷ [] = ap (λ ns. set ns k (x + 1)) c.in_ok-push.ensures.items ∙ last_set s.trees.items k (x + 1) (x + 1) is in
    let one : dues_of s.parts s.lists s.groups s.cuts (front ++ (x + 1) ∷ []) s.end ≡ a_tree (x + 1) ∷ dues_of s.parts s.lists s.groups s.cuts front s.end =
    tree_first s.parts s.lists s.groups s.cuts front (front ++ (x + 1) ∷ []) (x + 1) s.end c.requires.parts c.requires.lists c.requires.groups c.requires.cuts refl in
    let two : dues_of s.parts s.lists s.groups s.cuts (set c.push.new.self.items k (x + 1)) s.end ≡ a_tree (x + 1) ∷ dues_of s.parts s.lists s.groups s.cuts (front ++ (x + 1) ∷ []) s.end =
    tree_first s.parts s.lists s.groups s.cuts (front ++ (x + 1) ∷ []) (set c.push.new.self.items k (x + 1)) (x + 1) s.end c.requires.parts c.requires.lists c.requires.groups c.requires.cuts now in
    (x, dues_of s.parts s.lists s.groups s.cuts front s.end, first, omega (arith, c.if-above-ge-MAX_BRANCHES.false), two ∙ ap (λ ns. a_tree (x + 1) ∷ ns) one)
