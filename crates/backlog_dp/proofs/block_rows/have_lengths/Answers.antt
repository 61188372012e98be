use Rattle.std.proofs.Common.{◌∙◌, sym, ap, length}
use Rattle.echelon_rows.specs.Rows.{echelon_in}
use Rattle.backlog_dp.proofs.Testing.{as_many}
use Rattle.backlog_dp.proofs.block_rows.have_lengths.Goals as goal

pub returns : goal.returns
returns c =
    let p = c.args.potentials.now in
    let count = as_many (echelon_in c.args.echelon.now) c.args.net.now p.setup.items p.unit.items p.hold.items p.back.items c.requires.net in
    let given = ap length c.deref.ensures.value in (
      λ yes. record { prices = c.requires.prices; steps = sym given ∙ c.in_ok-found.ensures.0 yes ∙ count },
      λ have. c.in_ok-found.ensures.1 (given ∙ have.steps ∙ sym count),
    )
