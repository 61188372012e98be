use Rattle.std.proofs.Common.{◌≡◌, ◌-◌, ◌∷◌, suc, arith, rules, length, slice_index_or, subst, sym, take}
use Rattle.cert_lines.specs.Shapes.{line_shape}
use Rattle.certificate.specs.Dues.{IsUnwanted, Takes, a_tree}
use Rattle.certificate.specs.Stacks.{dues_in}
use Rattle.certificate.proofs.Piles.{dues_of, last_first}
use Rattle.certificate.proofs.dues.Dues.take_tree.Goals as goal

pub returns-in_default-clause-unwanted : goal.returns-in_default-clause-unwanted
returns-in_default-clause-unwanted c =
    let s = c.args.self.now in
    let k = length s.trees.items - 1 in
    let is : length s.trees.items ≡ suc k = omega (arith, c.requires.some) in
    let x = slice_index_or s.trees.items k 0 in
    let first : dues_in s ≡ a_tree x ∷ dues_of s.parts s.lists s.groups s.cuts (take k s.trees.items) s.end =
    last_first s.parts s.lists s.groups s.cuts s.trees.items k 0 s.end c.requires.parts c.requires.lists c.requires.groups c.requires.cuts is in
    let apart : Takes (a_tree x) (line_shape c.args.line.now) → ⊥ = search rules in
    λ _. subst (λ ns. IsUnwanted ns (line_shape c.args.line.now)) (sym first) apart
