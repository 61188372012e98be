use Rattle.std.proofs.Common.{ap, arith, refl}
use Rattle.std.proofs.lemmas.List.{length-map}
use Rattle.tableau.specs.Held.{inequality_of}
use Rattle.tableau.specs.Program.{column_count, row_count}
use Rattle.tableau.specs.Outcomes.{GivesEmpty, GivesLeast, IsCertain, IsOutcome}
use Rattle.tableau.specs.Stepwise.{IsEndOf}
use Rattle.tableau.proofs.Steps.{columns_are_apart, if_ok, is_nowhere, rows_are_apart}
use Rattle.tableau.proofs.Stepwise.{empty_after, empty_ends, least_after, least_ends, run_after, run_to}
use Rattle.tableau.proofs.run.Run.finish.Goals as goal

pub empty-requires-clause-columns_apart : goal.empty-requires-clause-columns_apart
empty-requires-clause-columns_apart c =
    let to = run_to c.args.lp.now c.args.self c.self.inside.tableau c.self.inside.refused c.self.view_is c.requires in
    columns_are_apart c.args.lp.now to.made c.self.inside.tableau to.run

pub empty-requires-clause-own : goal.empty-requires-clause-own
empty-requires-clause-own c =
    let to = run_to c.args.lp.now c.args.self c.self.inside.tableau c.self.inside.refused c.self.view_is c.requires in
    is_nowhere c.args.lp.now to.made c.in-Some.row c.self.inside.tableau to.run c.in-Some.ensures.some.high

pub returns-in-Some-clause-outcome : goal.returns-in-Some-clause-outcome
returns-in-Some-clause-outcome c =
    let to = run_to c.args.lp.now c.args.self c.self.inside.tableau c.self.inside.refused c.self.view_is c.requires in
    if_ok (GivesEmpty c.self.inside.tableau c.in-Some.row c.len-columns.result c.len-rows.result) (IsEndOf c.args.lp.now) c.empty.result
    (λ o given. (empty_ends c.args.lp.now c.len-columns.result c.len-rows.result c.in-Some.row c.self.inside.tableau o to c.in-Some.ensures.some (omega (arith, c.len-columns.ensures, c.lp.inside.costs.ok.0, ap column_count c.lp.view_is)) (omega (arith, c.len-rows.ensures, c.lp.inside.rows.ok.0, length-map c.lp.inside.rows.items inequality_of, ap row_count c.lp.view_is)) given).0)
    c.empty.ensures

pub returns-in-Some-clause-certain : goal.returns-in-Some-clause-certain
returns-in-Some-clause-certain c =
    let to = run_to c.args.lp.now c.args.self c.self.inside.tableau c.self.inside.refused c.self.view_is c.requires in
    if_ok (GivesEmpty c.self.inside.tableau c.in-Some.row c.len-columns.result c.len-rows.result) (IsCertain c.args.lp.now) c.empty.result
    (λ o given. (empty_ends c.args.lp.now c.len-columns.result c.len-rows.result c.in-Some.row c.self.inside.tableau o to c.in-Some.ensures.some (omega (arith, c.len-columns.ensures, c.lp.inside.costs.ok.0, ap column_count c.lp.view_is)) (omega (arith, c.len-rows.ensures, c.lp.inside.rows.ok.0, length-map c.lp.inside.rows.items inequality_of, ap row_count c.lp.view_is)) given).1)
    c.empty.ensures

pub least-requires-clause-rows_apart : goal.least-requires-clause-rows_apart
least-requires-clause-rows_apart c =
    let to = run_to c.args.lp.now c.args.self c.self.inside.tableau c.self.inside.refused c.self.view_is c.requires in
    rows_are_apart c.args.lp.now to.made c.self.inside.tableau to.run

pub least-requires-clause-columns_apart : goal.least-requires-clause-columns_apart
least-requires-clause-columns_apart c =
    let to = run_to c.args.lp.now c.args.self c.self.inside.tableau c.self.inside.refused c.self.view_is c.requires in
    columns_are_apart c.args.lp.now to.made c.self.inside.tableau to.run

pub returns-clause-outcome : goal.returns-clause-outcome
returns-clause-outcome c =
    let to = run_to c.args.lp.now c.args.self c.self.inside.tableau c.self.inside.refused c.self.view_is c.requires in
    if_ok (GivesLeast c.self.inside.tableau c.len-columns.result c.len-rows.result) (IsEndOf c.args.lp.now) c.least.result
    (λ o given. (least_ends c.args.lp.now c.len-columns.result c.len-rows.result c.self.inside.tableau o to (c.in-None.ensures.none refl) (omega (arith, c.len-columns.ensures, c.lp.inside.costs.ok.0, ap column_count c.lp.view_is)) (omega (arith, c.len-rows.ensures, c.lp.inside.rows.ok.0, length-map c.lp.inside.rows.items inequality_of, ap row_count c.lp.view_is)) given).0)
    c.least.ensures

pub returns-clause-certain : goal.returns-clause-certain
returns-clause-certain c =
    let to = run_to c.args.lp.now c.args.self c.self.inside.tableau c.self.inside.refused c.self.view_is c.requires in
    if_ok (GivesLeast c.self.inside.tableau c.len-columns.result c.len-rows.result) (IsCertain c.args.lp.now) c.least.result
    (λ o given. (least_ends c.args.lp.now c.len-columns.result c.len-rows.result c.self.inside.tableau o to (c.in-None.ensures.none refl) (omega (arith, c.len-columns.ensures, c.lp.inside.costs.ok.0, ap column_count c.lp.view_is)) (omega (arith, c.len-rows.ensures, c.lp.inside.rows.ok.0, length-map c.lp.inside.rows.items inequality_of, ap row_count c.lp.view_is)) given).1)
    c.least.ensures

pub returns-in-Some-clause-length : goal.returns-in-Some-clause-length
returns-in-Some-clause-length c = λ made end.
    let to = run_after c.args.lp.now made c.args.self c.self.inside.tableau c.self.inside.refused c.self.view_is end in
    if_ok (GivesEmpty c.self.inside.tableau c.in-Some.row c.len-columns.result c.len-rows.result) (IsOutcome c.args.lp.now made) c.empty.result
    (λ o given. empty_after c.args.lp.now made c.len-columns.result c.len-rows.result c.in-Some.row c.self.inside.tableau o to c.in-Some.ensures.some (omega (arith, c.len-columns.ensures, c.lp.inside.costs.ok.0, ap column_count c.lp.view_is)) (omega (arith, c.len-rows.ensures, c.lp.inside.rows.ok.0, length-map c.lp.inside.rows.items inequality_of, ap row_count c.lp.view_is)) given)
    c.empty.ensures

pub returns-clause-length : goal.returns-clause-length
returns-clause-length c = λ made end.
    let to = run_after c.args.lp.now made c.args.self c.self.inside.tableau c.self.inside.refused c.self.view_is end in
    if_ok (GivesLeast c.self.inside.tableau c.len-columns.result c.len-rows.result) (IsOutcome c.args.lp.now made) c.least.result
    (λ o given. least_after c.args.lp.now made c.len-columns.result c.len-rows.result c.self.inside.tableau o to (c.in-None.ensures.none refl) (omega (arith, c.len-columns.ensures, c.lp.inside.costs.ok.0, ap column_count c.lp.view_is)) (omega (arith, c.len-rows.ensures, c.lp.inside.rows.ok.0, length-map c.lp.inside.rows.items inequality_of, ap row_count c.lp.view_is)) given)
    c.least.ensures
