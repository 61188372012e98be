use Rattle.std.proofs.Common.{rules}
use Rattle.certificate.specs.Shapes.{shape_of}
use Rattle.std.specs.Prelude.{option_copied}
use Rattle.cert_checker.specs.Checks.{HasFault}
use Rattle.cert_checker.proofs.CheckLines.{denominators, divisors}
use Rattle.cert_checker.proofs.CheckWhole.{certified, trees_fault}
use Rattle.cert_checker.proofs.checking.examine.Goals as goal

pub cut_rows-requires-clause-divisors : goal.cut_rows-requires-clause-divisors
cut_rows-requires-clause-divisors c = rw c.deref.ensures.value (divisors (shape_of c.args.certificate.now) c.requires.writable)

pub walk-requires-clause-dens : goal.walk-requires-clause-dens
walk-requires-clause-dens c = denominators (shape_of c.args.certificate.now) c.requires.writable

pub returns-in_err-walk-clause-fault : goal.returns-in_err-walk-clause-fault
returns-in_err-walk-clause-fault c =
    let m = c.args.instance.now in
    let s = shape_of c.args.certificate.now in
    let rows = c.in_ok-cuts.cuts.rows.items in
    let why : HasFault m s (option_copied c.args.plan) c.in_err-walk.field-0.0 =
    trees_fault m s (option_copied c.args.plan) c.in_err-walk.field-0.0 rows c.in_ok-cuts.cuts.next (c.in_default.ensures.comes) (rw c.deref.ensures.value at c.in_ok-cuts.ensures.good) (rw c.deref.ensures.value at c.in_ok-cuts.ensures.next)
    (rw (c.deref-2.ensures.value, c.new-path.ensures.items) at c.in_err-walk.ensures.fault) in
    search (rules, why)

pub returns-clause-certified : goal.returns-clause-certified
returns-clause-certified c =
    let m = c.args.instance.now in
    let s = shape_of c.args.certificate.now in
    let rows = c.in_ok-cuts.cuts.rows.items in
    certified m s (option_copied c.args.plan) c.plans_are_within.ensures c.in_ok-explosion.ensures.instance rows c.in_default.ensures.comes (rw c.deref.ensures.value at c.in_ok-cuts.ensures.good)
    (rw (c.deref-2.ensures.value, c.new-path.ensures.items) at c.in_ok-walk.ensures.good)
