use Rattle.std.proofs.Common.{rules, ◌≡◌, ◌∙◌, ℕ, inr, length, refl, subst, sym}
use Rattle.cert_lines.specs.Shapes.{list_shape}
use Rattle.cert_meaning.specs.Named.{names}
use Rattle.cert_meaning.specs.Parts.{AreParts}
use Rattle.cert_checker.specs.declared.fault.Why.{Why}
use Rattle.cert_checker.specs.Leaves.{IfRejected, IsFirstWrong, IsWrongList}
use Rattle.cert_checker.proofs.leaf_reduced.list_parts.Goals as goal

pub returns-in-Ok-clause-list : goal.returns-in-Ok-clause-list
returns-in-Ok-clause-list c = λ total.
    let n = names c.args.instance.now total c.args.cuts.now c.args.path.now in
    let each : length c.args.list.now.times.items ≡ c.args.instance.now.periods = search rules in
    record {
      each = each;
      parts_exist = subst (AreParts n) (c.deref.ensures.value ∙ c.in_ok-parts.ensures) (c.in-Ok.ensures.parts total);
    }

pub returns-in-Err-clause-wrong : goal.returns-in-Err-clause-wrong
returns-in-Err-clause-wrong c =
    let m = c.args.instance.now in
    let cuts = c.args.cuts.now in
    let path = c.args.path.now in
    let shape = list_shape c.args.list.now in
    let r = c.in-Err.rejected in
    let each : length c.args.list.now.times.items ≡ m.periods = search rules in
    let P : ℕ → Why → Type 0 = λ at w. (at ≡ c.args.line) × ((total : ℕ → ℕ) → IsWrongList (names m total cuts path) shape w) in
    subst (λ f. IfRejected f P) (sym c.refused-in-Err.ensures) (
      refl,
      λ total. inr (
        each,
        r.line,
        subst (λ ps. IsFirstWrong (names m total cuts path) ps 0 r.line r.why) (c.deref.ensures.value ∙ c.in_ok-parts.ensures) (c.in-Err.ensures.fault total),
      ),
    )
