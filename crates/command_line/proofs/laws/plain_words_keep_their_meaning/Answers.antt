use Rattle.command_line.proofs.Plain.{plain_words}
use Rattle.command_line.proofs.laws.plain_words_keep_their_meaning.Goals as goal

pub returns : goal.returns
returns c = plain_words
