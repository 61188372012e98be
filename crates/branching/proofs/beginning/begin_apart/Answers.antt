use Rattle.std.proofs.Common.{◌∙◌, ap, arith, length, refl}
use Rattle.cert_lines.specs.Shapes.{leaf_shape}
use Rattle.branching.proofs.Openings.{apart_begins}
use Rattle.branching.proofs.beginning.begin_apart.Goals as goal

pub count_of-count-requires : goal.count_of-count-requires
count_of-count-requires c = omega (arith, ap length c.deref.ensures.value, c.requires)

pub apart_leaf-requires : goal.apart_leaf-requires
apart_leaf-requires c = omega (arith, c.count_of-count.ensures, ap length c.deref.ensures.value, c.requires)

pub returns-clause-begins : goal.returns-clause-begins
returns-clause-begins c = λ m version known is.
    apart_begins m version c.args.apart _ c.count_of-count.result known is refl refl refl c.proposal_of.ensures.says (ap leaf_shape c.proposal_of.ensures.leaf ∙ c.in_ok-leaf.ensures.shape) (c.count_of-count.ensures ∙ ap length c.deref.ensures.value)
    (c.in_ok-leaf.ensures.lines (omega (arith, c.count_of-count.ensures, ap length c.deref.ensures.value, c.requires)) version)
