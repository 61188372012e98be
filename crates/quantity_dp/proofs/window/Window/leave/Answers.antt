use Rattle.std.proofs.Common.{ap, arith}
use Rattle.std.proofs.lemmas.List.{get_or_read}
use Rattle.quantity_dp.specs.declared.window.Priced.{Priced}
use Rattle.quantity_dp.specs.Window.{no_price}
use Rattle.quantity_dp.proofs.Queues.{stays}
use Rattle.quantity_dp.proofs.window.Window.leave.Goals.{else-self-len-via-then-self-len+else-index-least, else-self-len-via-else-self-len}
use Rattle.quantity_dp.proofs.window.Window.leave.Goals as goal

pub returns-else-self-len : goal.returns-else-self-len
returns-else-self-len c = elim c.else-self-len.branch [
  | else-self-len-via-then-self-len+else-index-least v ↦ λ w low high queue order near. stays w low high c.args.self.now.first c.args.least c.args.self.now.rising.items queue order (λ some.
      omega (arith, v.if-index-least.false, ap (λ (e : Priced). e.quantity) (get_or_read c.args.self.now.rising.items c.args.self.now.first v.index.result.now some v.index.ensures no_price)))
  | else-self-len-via-else-self-len v ↦ λ w low high queue order near. stays w low high c.args.self.now.first c.args.least c.args.self.now.rising.items queue order (λ some. absurd (omega (arith, v.if-self-len.false, c.len.ensures, some, c.args.self.now.rising.ok.0)))
]
