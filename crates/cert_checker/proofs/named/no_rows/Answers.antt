use Rattle.std.proofs.Common.{sym, subst, [], ◌∷◌, None}
use Rattle.std.specs.List.{All}
use Rattle.std.proofs.lemmas.List.Elements.{All-append, All-cons, All-nil}
use Rattle.cert_checker.specs.Named.{IsMade}
use Rattle.cert_checker.proofs.named.no_rows.Goals as goal

pub loop-preserved : goal.loop-preserved
loop-preserved c = λ m.
    subst (All (IsMade m)) (sym c.in_ok-push.ensures.items) (All-append (IsMade m) c.loop.made.items (None ∷ []) (c.loop.invariant m) (All-cons (IsMade m) None [] tt (All-nil (IsMade m))))
