use Rattle.std.proofs.Common.{◌≡◌, ◌+◌, ◌∙◌, [], ◌∷◌, ◌++◌, ap, refl, sym, subst, take}
use Rattle.quantity_dp.specs.declared.window.Priced.{Priced}
use Rattle.quantity_dp.specs.Window.{IsQueue, KeepsCheaper}
use Rattle.quantity_dp.proofs.Queues.{taken}
use Rattle.quantity_dp.proofs.window.Window.take.Goals as goal

pub returns : goal.returns
returns c = λ w low queue order priced.
    let first = c.args.self.now.first in
    let list = c.args.self.now.rising.items in
    let kept = c.cheaper_than-kept.result in
    let x : Priced = record { quantity = c.args.quantity; price = c.in-Some.price } in
    let keeps : KeepsCheaper list first c.in-Some.price kept = subst (λ l. KeepsCheaper l first c.in-Some.price kept) c.deref.ensures.value c.cheaper_than-kept.ensures in
    let items : c.push.new.self.items ≡ take kept list ++ x ∷ [] = c.in_ok-push.ensures.items ∙ ap (λ l. l ++ x ∷ []) c.truncate.ensures.items in
    subst (IsQueue w low (c.args.quantity + 1) first) (sym items) (taken w low c.args.quantity first kept list x queue order keeps refl (priced ∙ c.in-Some.is))
