use Rattle.std.proofs.Common.{◌≡◌, ◌++◌, ◌∷◌, [], Err, subst, sym}
use Rattle.std.specs.Prelude.{option_copied}
use Rattle.cert_lines.specs.Shapes.{EndLine}
use Rattle.certificate.specs.Values.{tree_values}
use Rattle.cert_trees.specs.Ranges.{WithTotals}
use Rattle.cert_meaning.specs.Laws.{HoldAtPlans}
use Rattle.cert_checker.specs.Checks.{IsGoodTree, IsTreeFault, ground}
use Rattle.stream_check.specs.Passes.{IsRefusal}
use Rattle.stream_check.proofs.Files.{end_on}
use Rattle.stream_check.proofs.Ways.{err_is, on_on}
use Rattle.stream_check.proofs.Whole.{certified, claim_true, tree_refused}
use Rattle.stream_check.proofs.pass.check_text.Goals as goal

pub check_tree-requires-clause-hold : goal.check_tree-requires-clause-hold
check_tree-requires-clause-hold g c = subst (HoldAtPlans c.args.instance.now) (sym c.deref.ensures.value) c.in_ok-rows.ensures.hold

pub returns-in_err-check_tree-clause-awaited : goal.returns-in_err-check_tree-clause-awaited
returns-in_err-check_tree-clause-awaited g c =
    let m = c.args.instance.now in
    let claim = c.in_ok-heads.heads.claim in
    let line = c.read_rows.new.reader.number in
    let f = c.in_err-check_tree.field-0.0 in
    let is : c.from_residual-in_err-check_tree.result ≡ Err f = err_is c.from_residual-in_err-check_tree.result f c.from_residual-in_err-check_tree.ensures.1 in
    rw is (λ s told text.
    let heads = c.in_ok-heads.ensures.awaited s told text in
    let rows = c.in_ok-rows.ensures.awaited s.cuts (tree_values s.tree ++ EndLine ∷ []) heads.count heads.awaits in
    let refused = c.in_err-check_tree.ensures.awaited s.tree text.writable.paths rows.2 in
    tree_refused m s (option_copied c.args.plan) claim heads.claim f c.in_ok-rows.rows.items line c.in_default.ensures.comes rows.0 rows.1
    (subst (λ rs. IsRefusal (λ at w. WithTotals m (λ total. IsTreeFault (ground m total rs claim) [] s.tree line at w)) f) c.deref.ensures.value refused))

pub returns-clause-claim : goal.returns-clause-claim
returns-clause-claim g c = claim_true c.args.instance.now c.in_ok-heads.heads.claim (option_copied c.args.plan) c.in_default.ensures.comes c.in_ok-check_tree.ensures.safe

pub returns-clause-awaited : goal.returns-clause-awaited
returns-clause-awaited g c = λ s told text.
    let m = c.args.instance.now in
    let claim = c.in_ok-heads.heads.claim in
    let heads = c.in_ok-heads.ensures.awaited s told text in
    let rows = c.in_ok-rows.ensures.awaited s.cuts (tree_values s.tree ++ EndLine ∷ []) heads.count heads.awaits in
    let tree = c.in_ok-check_tree.ensures.awaited s.tree text.writable.paths rows.2 in (
      sym heads.claim,
      certified m s (option_copied c.args.plan) claim heads.claim c.plans_are_within.ensures c.in_ok-explosion.ensures.instance c.in_ok-rows.rows.items c.in_default.ensures.comes rows.0
          (subst (λ rs. WithTotals m (λ total. IsGoodTree (ground m total rs claim) [] s.tree)) c.deref.ensures.value tree.0),
    )

pub returns-clause-ends : goal.returns-clause-ends
returns-clause-ends g c = λ told.
    let on = on_on (on_on c.in_ok-heads.ensures.step.on c.in_ok-rows.ensures.step.on) c.in_ok-check_tree.ensures.step.on in
    end_on on.goes_on.reads c.args.name.now c.read_end.new.reader.at c.in_ok-read_end.ensures.ends told
