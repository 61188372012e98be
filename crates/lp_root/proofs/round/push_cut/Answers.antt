use Rattle.std.proofs.Common.{◌≡◌, ◌+◌, ◌∙◌, ap, sym, subst, false, [], ◌∷◌, ◌++◌, length}
use Rattle.lin_rows.specs.declared.base.RowName.TheVariants.{Cut}
use Rattle.tableau.specs.Program.{with_row}
use Rattle.lp_relaxation.specs.Rounds.{IsRound}
use Rattle.lp_relaxation.specs.Sides.{side, turned_row}
use Rattle.lp_root.proofs.round.push_cut.Goals as goal

pub returns-clause-round : goal.returns-clause-round
returns-clause-round c = λ total rows is number.
    let m = c.args.instance.now in
    let r = c.args.cut.now in
    let p = c.args.round.now.lp in
    let list = c.args.round.now.sides.items in
    let sides : c.push_row.new.round.sides.items ≡ list ++ (side (Cut (length rows + 1)) false ∷ []) = c.in_ok-push_row.ensures.sides ∙ ap (λ n. list ++ (side (Cut n) false ∷ [])) number in
    subst (λ q. IsRound m total (rows ++ (r ∷ [])) q c.push_row.new.round.sides.items) (sym c.in_ok-push_row.ensures.lp)
    (subst (IsRound m total (rows ++ (r ∷ [])) (with_row p (turned_row m false r))) (sym sides) (c.rounds_grow.ensures m total rows p list r c.requires.unequal is))
