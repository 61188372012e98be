use Rattle.node_setups.proofs.Places.{put_one}
use Rattle.node_setups.proofs.fixed.Fixed.put.Goals as goal

pub returns-in_default : goal.returns-in_default
returns-in_default c = put_one c.args.item c.args.period c.args.held c.args.self.now c.hold.new.self c.in_default.not-Free c.hold.ensures
