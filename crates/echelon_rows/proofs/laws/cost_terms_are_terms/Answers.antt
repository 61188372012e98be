use Rattle.echelon_rows.proofs.Shapes.{cost_terms_exist, cost_terms_rise}
use Rattle.echelon_rows.proofs.laws.cost_terms_are_terms.Goals as goal

pub returns : goal.returns
returns c = λ e within setup unit hold back. (cost_terms_rise e within setup unit hold back, cost_terms_exist e setup unit hold back)
