use Rattle.answers_exist.proofs.Texts.{text_out}
use Rattle.answers_exist.proofs.texts_come_out.Goals as goal

pub returns : goal.returns
returns c = text_out c.taken_are_bodies.ensures
