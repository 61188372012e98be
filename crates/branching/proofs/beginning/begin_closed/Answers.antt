use Rattle.std.proofs.Common.{refl, subst, sym}
use Rattle.std.specs.Prelude.{map}
use Rattle.std.specs.List.{All}
use Rattle.cert_lines.specs.Shapes.{cut_shape}
use Rattle.cert_checker.specs.Checks.{HaveGoodRows}
use Rattle.lp_relaxation.specs.Rounds.{IsLs}
use Rattle.branching.proofs.Openings.{closed_begins, ls_each}
use Rattle.branching.proofs.beginning.begin_closed.Goals as goal

pub rows_of-requires : goal.rows_of-requires
rows_of-requires c = subst (λ list. All (λ x. IsLs (cut_shape x)) list) (sym c.deref.ensures.value) (ls_each c.args.cuts.items c.requires.have.are_ls)

pub returns-clause-begins : goal.returns-clause-begins
returns-clause-begins c = λ version known.
    let m = c.args.instance.now in
    let good = subst (λ list. HaveGoodRows m (map cut_shape list) c.in_ok-rows.rows.items) c.deref.ensures.value c.in_ok-rows.ensures.rows in
    closed_begins m version c.args.cuts.items c.args.leaf c.args.amount _ c.cut_rows_are_one.ensures c.an_instance_breaks_no_rule.ensures.limits known c.requires good c.in_ok-rows.ensures.columns_exist refl refl c.proposal_of.ensures.says c.proposal_of.ensures.leaf
