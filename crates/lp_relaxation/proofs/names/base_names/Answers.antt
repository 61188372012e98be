use Rattle.std.proofs.Common.{subst}
use Rattle.lp_relaxation.specs.declared.names.Kind.TheVariants as kind
use Rattle.lp_relaxation.specs.Names.{PutNames, kind_names}
use Rattle.lp_relaxation.proofs.Listing.{base_put}
use Rattle.lp_relaxation.proofs.names.base_names.Goals as goal

pub returns : goal.returns
returns c =
    let m = c.args.instance.now in
    let first = subst (λ ns. PutNames m ns (kind_names m kind.Balance) c.put_kind.new.names.items) c.new-names.ensures.items c.in_ok-put_kind.ensures in
    base_put m c.put_kind.new.names.items c.put_kind-2.new.names.items c.put_kind-3.new.names.items c.put_ends.new.names.items c.put_ends-2.new.names.items c.put_kind-4.new.names.items c.put_kind-5.new.names.items c.put_kind-6.new.names.items
    first c.in_ok-put_kind-2.ensures c.in_ok-put_kind-3.ensures c.in_ok-put_ends.ensures c.in_ok-put_ends-2.ensures c.in_ok-put_kind-4.ensures c.in_ok-put_kind-5.ensures c.in_ok-put_kind-6.ensures
