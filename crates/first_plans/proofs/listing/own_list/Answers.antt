use Rattle.std.proofs.Common.{◌≡◌, ◌++◌, ◌∙◌, [], ap, sym, subst}
use Rattle.first_plans.specs.Made.{HasOwn, those}
use Rattle.first_plans.proofs.Lists.{own_first}
use Rattle.first_plans.proofs.listing.own_list.Goals as goal

pub returns-clause-own : goal.returns-clause-own
returns-clause-own c =
    let m = c.args.instance.now in
    let one : c.keep.new.list.items ≡ [] ++ those c.in_ok-own.own = c.in_ok-keep.ensures ∙ ap (λ l. l ++ those c.in_ok-own.own) c.new-list.ensures.items in
    let e = c.in_ok-own.ensures in
    subst (HasOwn m) (sym one) (own_first m c.in_ok-own.own e.own e.one e.none)
