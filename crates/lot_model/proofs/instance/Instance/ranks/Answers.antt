use Rattle.std.proofs.Common.{◌∙◌, sym, ap, subst, arith, length}
use Rattle.lot_sizing.specs.Problem.{entry, item_count}
use Rattle.lot_sizing.specs.Totals.{IsRanking}
use Rattle.lot_model.proofs.instance.Instance.ranks.Goals as goal

pub returns-clause-size : goal.returns-clause-size
returns-clause-size c = ap length c.deref.ensures.value ∙ c.self.invariant.ranks_size ∙ ap item_count c.self.view_is

pub returns-clause-small : goal.returns-clause-small
returns-clause-small c i = omega (arith, ap (λ xs. entry xs i) c.deref.ensures.value, c.self.invariant.ranks_small i, ap item_count c.self.view_is)

pub returns-clause-ranks : goal.returns-clause-ranks
returns-clause-ranks c = subst (λ xs. IsRanking c.args.self.now (entry xs)) (sym c.deref.ensures.value) (subst (λ m. IsRanking m (entry c.self.inside.ranks.items)) c.self.view_is c.self.invariant.ranks)
