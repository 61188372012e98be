use Rattle.std.proofs.Common.{◌≡◌, ◌+◌, ◌∙◌, sym, ap, map}
use Rattle.lot_draft.specs.Raw.{raw_resource}
use Rattle.lot_draft.specs.Refusals.{resource_name_fault, first_in}
use Rattle.lot_draft.proofs.Scans.{found_in, passed_in}
use Rattle.lot_draft.proofs.checks.resource_names_fault.Goals as goal

pub returns-in-Some : goal.returns-in-Some
returns-in-Some c = found_in raw_resource resource_name_fault (first_in resource_name_fault 1 (map raw_resource c.args.resources.now)) c.resource_name_fault.result c.loop-at.at c.args.resources.now c.index-resources-at.result c.in-Some.found c.loop-at.invariant c.loop-at-test.true c.index-resources-at.is c.resource_name_fault.ensures c.in-Some.is

pub loop-at-preserved : goal.loop-at-preserved
loop-at-preserved c = passed_in raw_resource resource_name_fault (first_in resource_name_fault 1 (map raw_resource c.args.resources.now)) c.resource_name_fault.result c.loop-at.at c.args.resources.now c.index-resources-at.result c.loop-at.invariant c.loop-at-test.true c.index-resources-at.is c.resource_name_fault.ensures c.in_default.is
