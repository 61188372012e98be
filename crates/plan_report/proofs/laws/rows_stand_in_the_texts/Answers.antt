use Rattle.plan_report.proofs.Stands.{free_stands, item_stands, loads_stand, lots_stand, resource_stands, stocks_stand}
use Rattle.plan_report.proofs.laws.rows_stand_in_the_texts.Goals as goal

pub returns : goal.returns
returns c = record { items = item_stands; resources = resource_stands; lots = lots_stand; stocks = stocks_stand; loads = loads_stand; free = free_stands }
