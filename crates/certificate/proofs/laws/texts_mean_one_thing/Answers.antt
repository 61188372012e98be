use Rattle.certificate.proofs.Single.{means_one}
use Rattle.certificate.proofs.laws.texts_mean_one_thing.Goals as goal

pub returns : goal.returns
returns c = means_one
