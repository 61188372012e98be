use Rattle.cert_meaning.proofs.Plain.{AreLaws, bound_linear, farkas_refuted, linear_bound, refuted_farkas}
use Rattle.cert_meaning.proofs.laws.plain_is_linear.Goals as goal

pub returns : goal.returns
returns c = λ n ranges parts lists ranked each.
    let laws : AreLaws = record { known = c.known_exists.ensures; charges = c.charges_cover.ensures.exist; none = c.charges_cover.ensures.none } in (
      λ den bound. (bound_linear laws n parts lists ranked each den bound, linear_bound laws n parts lists ranked each den bound),
      (refuted_farkas laws n parts lists ranked each, farkas_refuted laws n parts lists ranked each),
    )
