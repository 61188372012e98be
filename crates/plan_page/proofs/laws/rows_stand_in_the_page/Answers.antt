use Rattle.plan_page.proofs.Parts.{item_row_stands, load_row_stands}
use Rattle.plan_page.proofs.laws.rows_stand_in_the_page.Goals as goal

pub returns : goal.returns
returns c = record { items = item_row_stands; resources = load_row_stands }
