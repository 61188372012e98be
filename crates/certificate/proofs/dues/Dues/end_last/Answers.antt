use Rattle.std.proofs.Common.{◌≡◌, ◌-◌, ◌∷◌, ◌++◌, ◌∙◌, [], ap, option_to_list, rules, slice_index_or}
use Rattle.certificate.proofs.Piles.{tree_first}
use Rattle.certificate.proofs.dues.Dues.end_last.Goals as goal

pub returns-clause-ends : goal.returns-clause-ends
returns-clause-ends c =
    let s = c.args.self.now in
    let left = c.pop-last.new.self.items in
    let e = c.pop-last.ensures in
    let above = slice_index_or s.trees.items (s.trees.len - 1) 0 in
    let is : s.trees.items ≡ left ++ above ∷ [] = e.items ∙ ap (λ r. left ++ option_to_list r) (e.value 0 (search rules)) in
    (above, tree_first s.parts s.lists s.groups s.cuts left s.trees.items above s.end c.requires.parts c.requires.lists c.requires.groups c.requires.cuts is)
