use Rattle.std.proofs.Common.{arith}
use Rattle.certificate.proofs.Piles.{some_cut, some_group, some_list, some_part, some_tree}
use Rattle.certificate.proofs.dues.Dues.are_met.Goals as goal

pub returns-then-self-gt0 : goal.returns-then-self-gt0
returns-then-self-gt0 c = let s = c.args.self.now in (λ no. cc no, λ none. absurd (some_part s.parts s.lists s.groups s.cuts s.trees.items s.end c.if-self-gt0.true none))

pub returns-then-self-gt0-2 : goal.returns-then-self-gt0-2
returns-then-self-gt0-2 c = let s = c.args.self.now in (λ no. cc no, λ none. absurd (some_list s.parts s.lists s.groups s.cuts s.trees.items s.end (omega (arith, c.if-self-gt0.false)) c.if-self-gt0-2.true none))

pub returns-then-self-gt0-3 : goal.returns-then-self-gt0-3
returns-then-self-gt0-3 c =
    let s = c.args.self.now in
    (λ no. cc no, λ none. absurd (some_group s.parts s.lists s.groups s.cuts s.trees.items s.end (omega (arith, c.if-self-gt0.false)) (omega (arith, c.if-self-gt0-2.false)) c.if-self-gt0-3.true none))

pub returns-then-self-gt0-4 : goal.returns-then-self-gt0-4
returns-then-self-gt0-4 c =
    let s = c.args.self.now in
    (λ no. cc no, λ none. absurd (some_cut s.parts s.lists s.groups s.cuts s.trees.items s.end (omega (arith, c.if-self-gt0.false)) (omega (arith, c.if-self-gt0-2.false)) (omega (arith, c.if-self-gt0-3.false)) c.if-self-gt0-4.true none))

pub returns-then-len-gt0 : goal.returns-then-len-gt0
returns-then-len-gt0 c =
    let s = c.args.self.now in
    (λ no. cc no, λ none. absurd (some_tree s.parts s.lists s.groups s.cuts s.trees.items s.end (omega (arith, c.if-self-gt0.false)) (omega (arith, c.if-self-gt0-2.false)) (omega (arith, c.if-self-gt0-3.false)) (omega (arith, c.if-self-gt0-4.false)) (omega (arith, c.if-len-gt0.true, c.len.ensures, s.trees.ok)) none))
