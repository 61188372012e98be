use Rattle.std.proofs.Common.{◌≡◌, ◌≤◌, ◌<◌, ◌+◌, ◌-◌, ◌∙◌, sym, ap, arith, map, take, None}
use Rattle.lot_draft.specs.Raw.{raw_resource, raw_use}
use Rattle.lot_draft.specs.Refusals.{first_in, is_among, resource_names, use_fault, use_names}
use Rattle.lot_draft.proofs.Apart.{known_few, known_next}
use Rattle.lot_draft.proofs.Faults.{use_known, use_new}
use Rattle.lot_draft.proofs.Members.{name_count, name_read}
use Rattle.lot_draft.proofs.Scans.{found_in, passed_in}
use Rattle.lot_draft.proofs.checks.uses_fault.Goals as goal

pub overflow_cast-at : goal.overflow_cast-at
overflow_cast-at c =
    omega (arith, c.loop-at.invariant.known, known_few (take c.loop-at.at (use_names (map raw_use c.args.uses.now))) (resource_names (map raw_resource c.args.resources.now)), name_count raw_resource (λ r. r.name) c.args.resources.now, c.requires.few)

pub overflow_add-at : goal.overflow_add-at
overflow_add-at c =
    omega (arith, c.loop-at.invariant.known, known_few (take c.loop-at.at (use_names (map raw_use c.args.uses.now))) (resource_names (map raw_resource c.args.resources.now)), name_count raw_resource (λ r. r.name) c.args.resources.now, c.requires.few)

pub returns-in-Some : goal.returns-in-Some
returns-in-Some c =
    let f = use_fault (resource_names (map raw_resource c.args.resources.now)) c.args.item (map raw_use c.args.uses.now) in
    found_in raw_use f (first_in f 1 (map raw_use c.args.uses.now)) c.use_fault.result c.loop-at.at c.args.uses.now c.index-uses-at.result c.in-Some.found c.loop-at.invariant.scan c.loop-at-test.true c.index-uses-at.is c.use_fault.ensures c.in-Some.is

pub loop-at-preserved : goal.loop-at-preserved
loop-at-preserved c =
    let names = resource_names (map raw_resource c.args.resources.now) in
    let lines = map raw_use c.args.uses.now in
    let f = use_fault names c.args.item lines in
    let k = c.loop-at.at in
    let a = raw_use c.index-uses-at.result in
    let none : f (k + 1) a ≡ None = sym c.use_fault.ensures ∙ c.in_default.is in
    let e : (k + 1) - 1 ≡ k = omega arith in
    record {
      scan = passed_in raw_use f (first_in f 1 lines) c.use_fault.result k c.args.uses.now c.index-uses-at.result c.loop-at.invariant.scan c.loop-at-test.true c.index-uses-at.is c.use_fault.ensures c.in_default.is;
      known = known_next (use_names lines) names k a.resource (omega (arith, c.loop-at-test.true, name_count raw_use (λ u. u.resource) c.args.uses.now)) (name_read raw_use (λ u. u.resource) c.args.uses.now k c.index-uses-at.result c.loop-at-test.true c.index-uses-at.is) (ap (λ n. is_among (take n (use_names lines)) a.resource) (sym e) ∙ use_new names c.args.item lines (k + 1) a none) (use_known names c.args.item lines (k + 1) a none) c.loop-at.invariant.known;
    }
