use Rattle.std.proofs.Common.{rules, ◌≡◌, ◌+◌, ◌∙◌, ℕ, arith, length, map, subst, sym}
use Rattle.std.specs.Prelude.{pos}
use mir.Facts.{to_z-of_z}
use mir.Val.{SFits, of_z, to_z}
use mir.Syntax.{w128}
use Rattle.std.proofs.lemmas.List.{length-map}
use Rattle.cert_lines.specs.Shapes.{LinearLeaf, ReducedLeaf, list_shape}
use Rattle.cert_trees.specs.Ranges.{WithTotals}
use Rattle.cert_meaning.specs.Named.{names}
use Rattle.cert_meaning.specs.Parts.{AreParts}
use Rattle.cert_meaning.specs.Lists.{all_parts}
use Rattle.cert_checker.specs.declared.fault.Why.{Why}
use Rattle.cert_checker.specs.Leaves.{IfRejected, IsFaultOfLeaf, IsFirstWrongList, IsGoodSum, IsLeafFault, IsSaidBy, IsShortBy, LeafIsSmall, LeafSaysThis, WithNames, linear_most}
use Rattle.cert_checker.specs.Named.{AreSumsOf}
use Rattle.cert_checker.proofs.CheckRefusals.{rejected_weaker}
use Rattle.cert_checker.proofs.Leaves.{if_err_with, if_ok_with}
use Rattle.cert_checker.proofs.Listed.{listed}
use Rattle.cert_checker.proofs.Reduced.{fault_line, fault_refused, none_says, none_small, refused_list, refused_sum, sum_says, sum_short, sum_small}
use Rattle.cert_checker.proofs.leaf_reduced.reduced_leaf.Goals as goal

pub returns-in_err-all-clause-fault : goal.returns-in_err-all-clause-fault
returns-in_err-all-clause-fault c =
    let m = c.args.instance.now in
    let cuts = c.args.cuts.now in
    let path = c.args.path.now in
    let den = c.args.den in
    let parts = c.args.parts.now in
    let shapes = map list_shape c.args.lists.now in
    let groups = c.args.groups.now in
    let line = c.args.line in
    let f = c.in_err-all.field-0.0 in
    let P : ℕ → Why → Type 0 = λ at w. (total : ℕ → ℕ) → IsFirstWrongList (names m total cuts path) shapes (line + length parts) at w in
    let Q : ℕ → Why → Type 0 = λ at w. WithNames m cuts path (λ n ranges. IsLeafFault n ranges (ReducedLeaf den parts shapes groups) line at w) in
    let why : IfRejected f Q =
    rejected_weaker f P Q
    (λ at w bad total totals. refused_list (names m total cuts path) den parts shapes groups line at w (c.in_default.ensures.parts total) (bad total))
    c.in_err-all.ensures.fault in
    search (rules, why)

pub sum_within_costs-requires-clause-parts : goal.sum_within_costs-requires-clause-parts
sum_within_costs-requires-clause-parts c = λ total.
    let n = names c.args.instance.now total c.args.cuts.now c.args.path.now in
    let parts = c.args.parts.now in
    let shapes = map list_shape c.args.lists.now in
    subst (AreParts n) (sym (c.deref.ensures.value ∙ c.in_ok-all.ensures.all)) (listed n parts shapes (c.in_default.ensures.parts total) (c.in_ok-all.ensures.lists total)).parts_exist

pub returns-in_err-sum_within_costs-clause-fault : goal.returns-in_err-sum_within_costs-clause-fault
returns-in_err-sum_within_costs-clause-fault c =
    let m = c.args.instance.now in
    let cuts = c.args.cuts.now in
    let path = c.args.path.now in
    let den = c.args.den in
    let parts = c.args.parts.now in
    let shapes = map list_shape c.args.lists.now in
    let all = all_parts parts shapes in
    let groups = c.args.groups.now in
    let line = c.args.line in
    let f = c.in_err-sum_within_costs.field-0.0 in
    let P : ℕ → Why → Type 0 = λ at w. WithNames m cuts path (λ n ranges. IsLeafFault n ranges (LinearLeaf (pos den) all) line at w) in
    let Q : ℕ → Why → Type 0 = λ at w. WithNames m cuts path (λ n ranges. IsLeafFault n ranges (ReducedLeaf den parts shapes groups) line at w) in
    let whole : to_z w128 den ≡ pos den = search rules in
    let sum : IfRejected f P = rw (c.deref.ensures.value, c.in_ok-all.ensures.all, whole) at c.in_err-sum_within_costs.ensures.fault in
    let why : IfRejected f Q =
    rejected_weaker f P Q
    (λ at w bad total totals. refused_sum (names m total cuts path) den parts shapes groups line at w (c.in_default.ensures.parts total) (c.in_ok-all.ensures.lists total) (bad total totals))
    sum in
    search (rules, why)

pub returns-in-Ok-Sum-clause-says : goal.returns-in-Ok-Sum-clause-says
returns-in-Ok-Sum-clause-says c =
    let m = c.args.instance.now in
    let cuts = c.args.cuts.now in
    let path = c.args.path.now in
    let den = c.args.den in
    let parts = c.args.parts.now in
    let shapes = map list_shape c.args.lists.now in
    let all = all_parts parts shapes in
    let s = c.sum_within_costs.new.named.sums in
    let whole : to_z w128 den ≡ pos den = search rules in
    let good : WithTotals m (λ total. IsGoodSum (names m total cuts path) (linear_most (names m total cuts path) (pos den)) all) = rw (c.deref.ensures.value, c.in_ok-all.ensures.all, whole) at c.in_ok-sum_within_costs.ensures.good in
    let sums : WithTotals m (λ total. AreSumsOf (names m total cuts path) all s) = rw (c.deref.ensures.value, c.in_ok-all.ensures.all) at c.in_ok-sum_within_costs.ensures.sums in
    let sum = c.in-Ok-Sum.sum in
    let fits : SFits w128 sum = search rules in
    let same : to_z w128 (of_z w128 sum) ≡ sum = to_z-of_z fits in
    if_ok_with c.said_by.result (IsSaidBy den sum) (LeafSaysThis m cuts path (ReducedLeaf den parts shapes c.args.groups.now))
    (λ says said. sum_says m cuts path den parts shapes c.args.groups.now c.args.line s c.an_instance_breaks_no_rule.ensures.ranked c.in_default.ensures.parts c.in_ok-all.ensures.lists good sums sum says (rw c.in-Ok-Sum.field-0-is at c.in-Ok-Sum.ensures.answer) said)
    (rw same at c.said_by.ensures.says)

pub returns-in-Ok-Sum-clause-small : goal.returns-in-Ok-Sum-clause-small
returns-in-Ok-Sum-clause-small c =
    let m = c.args.instance.now in
    let cuts = c.args.cuts.now in
    let path = c.args.path.now in
    let den = c.args.den in
    let parts = c.args.parts.now in
    let shapes = map list_shape c.args.lists.now in
    let all = all_parts parts shapes in
    let s = c.sum_within_costs.new.named.sums in
    let whole : to_z w128 den ≡ pos den = search rules in
    let good : WithTotals m (λ total. IsGoodSum (names m total cuts path) (linear_most (names m total cuts path) (pos den)) all) = rw (c.deref.ensures.value, c.in_ok-all.ensures.all, whole) at c.in_ok-sum_within_costs.ensures.good in
    let sums : WithTotals m (λ total. AreSumsOf (names m total cuts path) all s) = rw (c.deref.ensures.value, c.in_ok-all.ensures.all) at c.in_ok-sum_within_costs.ensures.sums in
    let sum = c.in-Ok-Sum.sum in
    let fits : SFits w128 sum = search rules in
    let same : to_z w128 (of_z w128 sum) ≡ sum = to_z-of_z fits in
    if_ok_with c.said_by.result (IsSaidBy den sum) (λ _. LeafIsSmall m cuts path (ReducedLeaf den parts shapes c.args.groups.now))
    (λ says said. sum_small m cuts path den parts shapes c.args.groups.now c.args.line s c.an_instance_breaks_no_rule.ensures.ranked c.in_default.ensures.parts c.in_ok-all.ensures.lists good sums sum c.reduced_sums_are_one.ensures.one (rw c.in-Ok-Sum.field-0-is at c.in-Ok-Sum.ensures.answer))
    (rw same at c.said_by.ensures.says)

pub returns-in-Ok-Sum-clause-fault : goal.returns-in-Ok-Sum-clause-fault
returns-in-Ok-Sum-clause-fault c =
    let m = c.args.instance.now in
    let cuts = c.args.cuts.now in
    let path = c.args.path.now in
    let den = c.args.den in
    let parts = c.args.parts.now in
    let shapes = map list_shape c.args.lists.now in
    let all = all_parts parts shapes in
    let s = c.sum_within_costs.new.named.sums in
    let whole : to_z w128 den ≡ pos den = search rules in
    let good : WithTotals m (λ total. IsGoodSum (names m total cuts path) (linear_most (names m total cuts path) (pos den)) all) = rw (c.deref.ensures.value, c.in_ok-all.ensures.all, whole) at c.in_ok-sum_within_costs.ensures.good in
    let sums : WithTotals m (λ total. AreSumsOf (names m total cuts path) all s) = rw (c.deref.ensures.value, c.in_ok-all.ensures.all) at c.in_ok-sum_within_costs.ensures.sums in
    let sum = c.in-Ok-Sum.sum in
    let fits : SFits w128 sum = search rules in
    let same : to_z w128 (of_z w128 sum) ≡ sum = to_z-of_z fits in
    if_err_with c.said_by.result (λ f. IfRejected f (IsShortBy den sum c.args.line)) (IsFaultOfLeaf m cuts path (ReducedLeaf den parts shapes c.args.groups.now) c.args.line)
    (λ f bad. sum_short m cuts path den parts shapes c.args.groups.now c.args.line s c.an_instance_breaks_no_rule.ensures.ranked c.in_default.ensures.parts c.in_ok-all.ensures.lists good sums sum f (rw c.in-Ok-Sum.field-0-is at c.in-Ok-Sum.ensures.answer) bad)
    (rw same at c.said_by.ensures.short)

pub returns-in-Ok-NoChoice-clause-says : goal.returns-in-Ok-NoChoice-clause-says
returns-in-Ok-NoChoice-clause-says c =
    let m = c.args.instance.now in
    let cuts = c.args.cuts.now in
    let path = c.args.path.now in
    let den = c.args.den in
    let parts = c.args.parts.now in
    let shapes = map list_shape c.args.lists.now in
    let all = all_parts parts shapes in
    let s = c.sum_within_costs.new.named.sums in
    let whole : to_z w128 den ≡ pos den = search rules in
    let good : WithTotals m (λ total. IsGoodSum (names m total cuts path) (linear_most (names m total cuts path) (pos den)) all) = rw (c.deref.ensures.value, c.in_ok-all.ensures.all, whole) at c.in_ok-sum_within_costs.ensures.good in
    let sums : WithTotals m (λ total. AreSumsOf (names m total cuts path) all s) = rw (c.deref.ensures.value, c.in_ok-all.ensures.all) at c.in_ok-sum_within_costs.ensures.sums in
    none_says m cuts path den parts shapes c.args.groups.now c.args.line s c.an_instance_breaks_no_rule.ensures.ranked c.in_default.ensures.parts c.in_ok-all.ensures.lists good sums (rw c.in-Ok-NoChoice.field-0-is at c.in-Ok-NoChoice.ensures.answer)

pub returns-in-Ok-NoChoice-clause-small : goal.returns-in-Ok-NoChoice-clause-small
returns-in-Ok-NoChoice-clause-small c =
    let m = c.args.instance.now in
    let cuts = c.args.cuts.now in
    let path = c.args.path.now in
    let den = c.args.den in
    let parts = c.args.parts.now in
    let shapes = map list_shape c.args.lists.now in
    let all = all_parts parts shapes in
    let s = c.sum_within_costs.new.named.sums in
    let whole : to_z w128 den ≡ pos den = search rules in
    let good : WithTotals m (λ total. IsGoodSum (names m total cuts path) (linear_most (names m total cuts path) (pos den)) all) = rw (c.deref.ensures.value, c.in_ok-all.ensures.all, whole) at c.in_ok-sum_within_costs.ensures.good in
    let sums : WithTotals m (λ total. AreSumsOf (names m total cuts path) all s) = rw (c.deref.ensures.value, c.in_ok-all.ensures.all) at c.in_ok-sum_within_costs.ensures.sums in
    none_small m cuts path den parts shapes c.args.groups.now c.args.line s c.an_instance_breaks_no_rule.ensures.ranked c.in_default.ensures.parts c.in_ok-all.ensures.lists good sums c.reduced_sums_are_one.ensures.choices (rw c.in-Ok-NoChoice.field-0-is at c.in-Ok-NoChoice.ensures.answer)

pub refusal-requires : goal.refusal-requires
refusal-requires c =
    let m = c.args.instance.now in
    let cuts = c.args.cuts.now in
    let path = c.args.path.now in
    let den = c.args.den in
    let parts = c.args.parts.now in
    let shapes = map list_shape c.args.lists.now in
    let all = all_parts parts shapes in
    let s = c.sum_within_costs.new.named.sums in
    let whole : to_z w128 den ≡ pos den = search rules in
    let good : WithTotals m (λ total. IsGoodSum (names m total cuts path) (linear_most (names m total cuts path) (pos den)) all) = rw (c.deref.ensures.value, c.in_ok-all.ensures.all, whole) at c.in_ok-sum_within_costs.ensures.good in
    let sums : WithTotals m (λ total. AreSumsOf (names m total cuts path) all s) = rw (c.deref.ensures.value, c.in_ok-all.ensures.all) at c.in_ok-sum_within_costs.ensures.sums in
    let totals = c.an_instance_breaks_no_rule.ensures.totals in
    fault_line m cuts path den parts shapes c.args.groups.now c.args.line s c.an_instance_breaks_no_rule.ensures.ranked c.in_default.ensures.parts c.in_ok-all.ensures.lists good sums c.in-Err-reduced_sum.fault (c.args.line + length parts + 1 + length c.args.lists.now) totals.0 totals.1 c.in-Err-reduced_sum.ensures.fault (omega (arith, c.requires.lines))

pub returns-clause-fault : goal.returns-clause-fault
returns-clause-fault c =
    let m = c.args.instance.now in
    let cuts = c.args.cuts.now in
    let path = c.args.path.now in
    let den = c.args.den in
    let parts = c.args.parts.now in
    let shapes = map list_shape c.args.lists.now in
    let all = all_parts parts shapes in
    let s = c.sum_within_costs.new.named.sums in
    let whole : to_z w128 den ≡ pos den = search rules in
    let good : WithTotals m (λ total. IsGoodSum (names m total cuts path) (linear_most (names m total cuts path) (pos den)) all) = rw (c.deref.ensures.value, c.in_ok-all.ensures.all, whole) at c.in_ok-sum_within_costs.ensures.good in
    let sums : WithTotals m (λ total. AreSumsOf (names m total cuts path) all s) = rw (c.deref.ensures.value, c.in_ok-all.ensures.all) at c.in_ok-sum_within_costs.ensures.sums in
    let first = c.args.line + length parts + 1 + length c.args.lists.now in
    let place : first ≡ c.args.line + 1 + length parts + length shapes = omega (arith, length-map c.args.lists.now list_shape) in
    fault_refused m cuts path den parts shapes c.args.groups.now c.args.line s c.an_instance_breaks_no_rule.ensures.ranked c.in_default.ensures.parts c.in_ok-all.ensures.lists good sums c.in-Err-reduced_sum.fault first c.refusal.result place c.in-Err-reduced_sum.ensures.fault c.refusal.ensures
