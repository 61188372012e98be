use Rattle.std.proofs.lemmas.List.Elements.{All-filter}
use Rattle.lin_rows.specs.Base.{all_terms, is_some_term}
use Rattle.lin_rows.specs.Columns.{IsColumn}
use Rattle.lin_rows.proofs.Columns.{base_exists}
use Rattle.lin_rows.proofs.laws.base_columns_exist.Goals as goal

pub returns : goal.returns
returns c = λ m total some name has. All-filter (λ a. is_some_term a.times) (λ a. IsColumn m a.column) (all_terms m total name) (base_exists m total name some has)
