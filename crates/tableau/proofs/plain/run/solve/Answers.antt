use Rattle.std.proofs.Common.{ap, arith, refl, subst, sym}
use Rattle.std.proofs.lemmas.List.{length-map}
use Rattle.tableau.specs.Held.{inequality_of}
use Rattle.tableau.specs.Program.{column_count, row_count}
use Rattle.tableau.specs.Dictionary.{height, width}
use Rattle.tableau.specs.Run.{IsPrimalFeasible, IsLeaving}
use Rattle.tableau.specs.Steps.{HasNoneTo}
use Rattle.tableau.specs.Outcomes.{GivesEmpty, GivesLeast, IsCertain, IsOutcome}
use Rattle.tableau.proofs.Steps.{columns_are_apart, empty_given, if_ok, is_nowhere, least_given, rows_are_apart, run_more, same_dictionary}
use Rattle.tableau.proofs.plain.run.solve.Goals as goal

pub least-requires-clause-rows_apart : goal.least-requires-clause-rows_apart
least-requires-clause-rows_apart c = rows_are_apart c.args.lp.now c.loop-made.made c.step.new.self (same_dictionary c.args.lp.now c.loop-made.made c.loop-made.tableau c.step.new.self c.in-Last.ensures.1 c.loop-made.invariant)

pub least-requires-clause-columns_apart : goal.least-requires-clause-columns_apart
least-requires-clause-columns_apart c = columns_are_apart c.args.lp.now c.loop-made.made c.step.new.self (same_dictionary c.args.lp.now c.loop-made.made c.loop-made.tableau c.step.new.self c.in-Last.ensures.1 c.loop-made.invariant)

pub returns-in-Last-clause-outcome : goal.returns-in-Last-clause-outcome
returns-in-Last-clause-outcome c = if_ok (GivesLeast c.step.new.self c.len-columns.result c.len-rows.result) (IsOutcome c.args.lp.now c.args.pivots) c.least.result (λ o given. (least_given c.args.lp.now c.args.pivots c.loop-made.made c.len-columns.result c.len-rows.result c.step.new.self o (same_dictionary c.args.lp.now c.loop-made.made c.loop-made.tableau c.step.new.self c.in-Last.ensures.1 c.loop-made.invariant) (omega (arith, c.loop-made-test.true)) (subst IsPrimalFeasible (sym c.in-Last.ensures.1) c.in-Last.ensures.0) (omega (arith, c.len-columns.ensures, c.lp.inside.costs.ok.0, ap column_count c.lp.view_is)) (omega (arith, c.len-rows.ensures, c.lp.inside.rows.ok.0, length-map c.lp.inside.rows.items inequality_of, ap row_count c.lp.view_is)) given).0) c.least.ensures

pub returns-in-Last-clause-certain : goal.returns-in-Last-clause-certain
returns-in-Last-clause-certain c = if_ok (GivesLeast c.step.new.self c.len-columns.result c.len-rows.result) (IsCertain c.args.lp.now) c.least.result (λ o given. (least_given c.args.lp.now c.args.pivots c.loop-made.made c.len-columns.result c.len-rows.result c.step.new.self o (same_dictionary c.args.lp.now c.loop-made.made c.loop-made.tableau c.step.new.self c.in-Last.ensures.1 c.loop-made.invariant) (omega (arith, c.loop-made-test.true)) (subst IsPrimalFeasible (sym c.in-Last.ensures.1) c.in-Last.ensures.0) (omega (arith, c.len-columns.ensures, c.lp.inside.costs.ok.0, ap column_count c.lp.view_is)) (omega (arith, c.len-rows.ensures, c.lp.inside.rows.ok.0, length-map c.lp.inside.rows.items inequality_of, ap row_count c.lp.view_is)) given).1) c.least.ensures

pub empty-requires-clause-columns_apart : goal.empty-requires-clause-columns_apart
empty-requires-clause-columns_apart c = columns_are_apart c.args.lp.now c.loop-made.made c.step.new.self (same_dictionary c.args.lp.now c.loop-made.made c.loop-made.tableau c.step.new.self c.in-Empty.ensures.2 c.loop-made.invariant)

pub empty-requires-clause-own : goal.empty-requires-clause-own
empty-requires-clause-own c = is_nowhere c.args.lp.now c.loop-made.made c.in-Empty.row c.step.new.self (same_dictionary c.args.lp.now c.loop-made.made c.loop-made.tableau c.step.new.self c.in-Empty.ensures.2 c.loop-made.invariant) (omega (arith, c.in-Empty.ensures.0.high, ap height c.in-Empty.ensures.2))

pub returns-in-Empty-clause-outcome : goal.returns-in-Empty-clause-outcome
returns-in-Empty-clause-outcome c = if_ok (GivesEmpty c.step.new.self c.in-Empty.row c.len-columns.result c.len-rows.result) (IsOutcome c.args.lp.now c.args.pivots) c.empty.result (λ o given. (empty_given c.args.lp.now c.args.pivots c.loop-made.made c.len-columns.result c.len-rows.result c.in-Empty.row c.step.new.self o (same_dictionary c.args.lp.now c.loop-made.made c.loop-made.tableau c.step.new.self c.in-Empty.ensures.2 c.loop-made.invariant) (omega (arith, c.loop-made-test.true)) (subst (λ x. IsLeaving x c.in-Empty.row) (sym c.in-Empty.ensures.2) c.in-Empty.ensures.0) (subst (λ x. HasNoneTo x c.in-Empty.row (width x)) (sym c.in-Empty.ensures.2) c.in-Empty.ensures.1) (omega (arith, c.len-columns.ensures, c.lp.inside.costs.ok.0, ap column_count c.lp.view_is)) (omega (arith, c.len-rows.ensures, c.lp.inside.rows.ok.0, length-map c.lp.inside.rows.items inequality_of, ap row_count c.lp.view_is)) given).0) c.empty.ensures

pub returns-in-Empty-clause-certain : goal.returns-in-Empty-clause-certain
returns-in-Empty-clause-certain c = if_ok (GivesEmpty c.step.new.self c.in-Empty.row c.len-columns.result c.len-rows.result) (IsCertain c.args.lp.now) c.empty.result (λ o given. (empty_given c.args.lp.now c.args.pivots c.loop-made.made c.len-columns.result c.len-rows.result c.in-Empty.row c.step.new.self o (same_dictionary c.args.lp.now c.loop-made.made c.loop-made.tableau c.step.new.self c.in-Empty.ensures.2 c.loop-made.invariant) (omega (arith, c.loop-made-test.true)) (subst (λ x. IsLeaving x c.in-Empty.row) (sym c.in-Empty.ensures.2) c.in-Empty.ensures.0) (subst (λ x. HasNoneTo x c.in-Empty.row (width x)) (sym c.in-Empty.ensures.2) c.in-Empty.ensures.1) (omega (arith, c.len-columns.ensures, c.lp.inside.costs.ok.0, ap column_count c.lp.view_is)) (omega (arith, c.len-rows.ensures, c.lp.inside.rows.ok.0, length-map c.lp.inside.rows.items inequality_of, ap row_count c.lp.view_is)) given).1) c.empty.ensures

pub loop-made-preserved : goal.loop-made-preserved
loop-made-preserved c = run_more c.args.lp.now c.loop-made.made c.loop-made.tableau c.step.new.self c.loop-made.invariant c.in-Pivoted.ensures

pub empty-requires-else-has_candidate-clause-columns_apart : goal.empty-requires-else-has_candidate-clause-columns_apart
empty-requires-else-has_candidate-clause-columns_apart c = columns_are_apart c.args.lp.now c.loop-made.made c.loop-made.tableau c.loop-made.invariant

pub empty-requires-else-has_candidate-clause-own : goal.empty-requires-else-has_candidate-clause-own
empty-requires-else-has_candidate-clause-own c = is_nowhere c.args.lp.now c.loop-made.made c.in-Some.row c.loop-made.tableau c.loop-made.invariant c.in-Some.ensures.some.high

pub returns-in-Some-clause-outcome : goal.returns-in-Some-clause-outcome
returns-in-Some-clause-outcome c = if_ok (GivesEmpty c.loop-made.tableau c.in-Some.row c.len-columns.result c.len-rows.result) (IsOutcome c.args.lp.now c.args.pivots) c.empty-else-has_candidate.result (λ o given. (empty_given c.args.lp.now c.args.pivots c.loop-made.made c.len-columns.result c.len-rows.result c.in-Some.row c.loop-made.tableau o c.loop-made.invariant (omega (arith, c.loop-made.auto.made-end)) c.in-Some.ensures.some (λ t high candidate. c.if-has_candidate.ensures.none refl t candidate) (omega (arith, c.len-columns.ensures, c.lp.inside.costs.ok.0, ap column_count c.lp.view_is)) (omega (arith, c.len-rows.ensures, c.lp.inside.rows.ok.0, length-map c.lp.inside.rows.items inequality_of, ap row_count c.lp.view_is)) given).0) c.empty-else-has_candidate.ensures

pub returns-in-Some-clause-certain : goal.returns-in-Some-clause-certain
returns-in-Some-clause-certain c = if_ok (GivesEmpty c.loop-made.tableau c.in-Some.row c.len-columns.result c.len-rows.result) (IsCertain c.args.lp.now) c.empty-else-has_candidate.result (λ o given. (empty_given c.args.lp.now c.args.pivots c.loop-made.made c.len-columns.result c.len-rows.result c.in-Some.row c.loop-made.tableau o c.loop-made.invariant (omega (arith, c.loop-made.auto.made-end)) c.in-Some.ensures.some (λ t high candidate. c.if-has_candidate.ensures.none refl t candidate) (omega (arith, c.len-columns.ensures, c.lp.inside.costs.ok.0, ap column_count c.lp.view_is)) (omega (arith, c.len-rows.ensures, c.lp.inside.rows.ok.0, length-map c.lp.inside.rows.items inequality_of, ap row_count c.lp.view_is)) given).1) c.empty-else-has_candidate.ensures

pub least-requires-in-None-clause-rows_apart : goal.least-requires-in-None-clause-rows_apart
least-requires-in-None-clause-rows_apart c = rows_are_apart c.args.lp.now c.loop-made.made c.loop-made.tableau c.loop-made.invariant

pub least-requires-in-None-clause-columns_apart : goal.least-requires-in-None-clause-columns_apart
least-requires-in-None-clause-columns_apart c = columns_are_apart c.args.lp.now c.loop-made.made c.loop-made.tableau c.loop-made.invariant

pub returns-clause-outcome : goal.returns-clause-outcome
returns-clause-outcome c = if_ok (GivesLeast c.loop-made.tableau c.len-columns.result c.len-rows.result) (IsOutcome c.args.lp.now c.args.pivots) c.least-in-None.result (λ o given. (least_given c.args.lp.now c.args.pivots c.loop-made.made c.len-columns.result c.len-rows.result c.loop-made.tableau o c.loop-made.invariant (omega (arith, c.loop-made.auto.made-end)) (c.in-None.ensures.none refl) (omega (arith, c.len-columns.ensures, c.lp.inside.costs.ok.0, ap column_count c.lp.view_is)) (omega (arith, c.len-rows.ensures, c.lp.inside.rows.ok.0, length-map c.lp.inside.rows.items inequality_of, ap row_count c.lp.view_is)) given).0) c.least-in-None.ensures

pub returns-clause-certain : goal.returns-clause-certain
returns-clause-certain c = if_ok (GivesLeast c.loop-made.tableau c.len-columns.result c.len-rows.result) (IsCertain c.args.lp.now) c.least-in-None.result (λ o given. (least_given c.args.lp.now c.args.pivots c.loop-made.made c.len-columns.result c.len-rows.result c.loop-made.tableau o c.loop-made.invariant (omega (arith, c.loop-made.auto.made-end)) (c.in-None.ensures.none refl) (omega (arith, c.len-columns.ensures, c.lp.inside.costs.ok.0, ap column_count c.lp.view_is)) (omega (arith, c.len-rows.ensures, c.lp.inside.rows.ok.0, length-map c.lp.inside.rows.items inequality_of, ap row_count c.lp.view_is)) given).1) c.least-in-None.ensures
