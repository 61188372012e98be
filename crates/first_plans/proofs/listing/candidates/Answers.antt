use Rattle.first_plans.proofs.Lists.{own_stays}
use Rattle.first_plans.proofs.listing.candidates.Goals as goal

pub loop-pattern-init : goal.loop-pattern-init
loop-pattern-init c = record {
  each = c.in_ok-keep_everywhere.ensures.each;
  own = own_stays c.args.instance.now c.in_ok-list.list.items c.keep_everywhere.new.list.items c.in_ok-list.ensures.own c.in_ok-keep_everywhere.ensures.longer;
}

pub loop-pattern-preserved : goal.loop-pattern-preserved
loop-pattern-preserved c = record {
  each = c.in_ok-keep_pattern.ensures.each;
  own = own_stays c.args.instance.now c.loop-pattern.list.items c.keep_pattern.new.list.items c.loop-pattern.invariant.own c.in_ok-keep_pattern.ensures.longer;
}

pub returns-clause-own : goal.returns-clause-own
returns-clause-own c = own_stays c.args.instance.now c.loop-pattern.list.items c.keep_improved.new.list.items c.loop-pattern.invariant.own c.in_ok-keep_improved.ensures.longer
