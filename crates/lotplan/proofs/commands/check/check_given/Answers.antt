use Rattle.std.specs.Prelude.{option_copied}
use Rattle.std.proofs.lemmas.Result.{IfOk-weaker}
use Rattle.lotplan.specs.Checking.{GivenExplains, IsRefusal, check_meant}
use Rattle.lotplan.proofs.Checked.{given_refused}
use Rattle.lotplan.proofs.Fetched.{refused_fetches}
use Rattle.lotplan.proofs.commands.check.check_given.Goals as goal

pub returns-in-Err-clause-answer : goal.returns-in-Err-clause-answer
returns-in-Err-clause-answer g c =
    let m = c.args.instance.now in
    let given = option_copied c.args.given in
    let name = c.args.certificate.now in
    let old = g.S.Shelf.shown c.args.shelf.now in
    let new = g.S.Shelf.shown c.check_stream.new.shelf in
    IfOk-weaker c.refusal.result (λ a. IsRefusal name c.in-Err.fault (check_meant a)) (λ a. GivenExplains m given name old new (check_meant a))
    (λ a is. given_refused m given name old new c.in-Err.fault (check_meant a) c.in-Err.ensures.fault is)
    c.refusal.ensures

pub returns-in-Err-clause-found : goal.returns-in-Err-clause-found
returns-in-Err-clause-found g c = refused_fetches (g.S.Shelf.shown c.args.shelf.now) (g.S.Shelf.shown c.check_stream.new.shelf) c.args.certificate.now c.in-Err.fault c.refusal.result c.in-Err.ensures.counts c.refusal.ensures
