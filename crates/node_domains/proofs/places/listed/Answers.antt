use Rattle.node_domains.proofs.Filled.{given_list, given_listed, given_node, given_ordered}
use Rattle.node_domains.proofs.places.listed.Goals as goal

pub returns-clause-node : goal.returns-clause-node
returns-clause-node c =
    let m = c.args.instance.now in
    let r = c.args.ranges.now in
    given_node m r c.push_grids-2.new.ranges.items (given_list c.new-list.result.items c.push_grids.new.ranges.items c.push_grids-2.new.ranges.items m r c.new-list.ensures.items c.in_ok-push_grids.ensures c.in_ok-push_grids-2.ensures)

pub returns-clause-ordered : goal.returns-clause-ordered
returns-clause-ordered c =
    let m = c.args.instance.now in
    let r = c.args.ranges.now in
    given_ordered m r c.push_grids-2.new.ranges.items c.requires.given (given_list c.new-list.result.items c.push_grids.new.ranges.items c.push_grids-2.new.ranges.items m r c.new-list.ensures.items c.in_ok-push_grids.ensures c.in_ok-push_grids-2.ensures)

pub returns-clause-listed : goal.returns-clause-listed
returns-clause-listed c =
    let m = c.args.instance.now in
    let r = c.args.ranges.now in
    given_listed m r c.push_grids-2.new.ranges.items c.whole_is_measured.ensures c.requires.given (given_list c.new-list.result.items c.push_grids.new.ranges.items c.push_grids-2.new.ranges.items m r c.new-list.ensures.items c.in_ok-push_grids.ensures c.in_ok-push_grids-2.ensures)
