use Rattle.std.proofs.Common.{inr}
use Rattle.lot_model.specs.Drafted.{written_out}
use Rattle.instance_reader.specs.Written.{model_table}
use Rattle.instance_reader.proofs.ReadBack.{model_back}
use Rattle.instance_reader.proofs.laws.model_texts_are_read.Goals as goal

pub returns : goal.returns
returns c = λ p bytes is text. inr (model_table p, text, record { model = written_out p; is_read = model_back p is.limits.some_period is.limits.periods; means = c.written_out_means_itself.ensures p is })
