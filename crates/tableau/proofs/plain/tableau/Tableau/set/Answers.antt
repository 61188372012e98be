use Rattle.std.proofs.Common.{◌≡◌, ◌<◌, ◌+◌, ◌*◌, subst, sym, length, rules}
use Rattle.std.specs.Prelude.{slice_set}
use Rattle.tableau.specs.Dictionary.{Dictionary, height, width}
use Rattle.tableau.specs.Steps.{IsSet}
use Rattle.tableau.proofs.Cells.{set_is}
use Rattle.tableau.proofs.plain.tableau.Tableau.set.Goals as goal

pub returns : goal.returns
returns c =
    let b = c.self.inside.basic.items in
    let n = c.self.inside.nonbasic.items in
    let cs = c.self.inside.cells.items in
    let w : c.len-width.result ≡ length n = search (rules, c.len-width.ensures) in
    let row : c.args.row < length b = subst (λ d. c.args.row < height d) (sym c.self.view_is) c.requires.row in
    let column : c.args.column < length n = subst (λ d. c.args.column < width d) (sym c.self.view_is) c.requires.column in
    let old : Dictionary = record { basic = b; nonbasic = n; cells = cs } in
    let new : Dictionary = record { basic = b; nonbasic = n; cells = slice_set cs (c.args.row * c.len-width.result + c.args.column) c.args.value } in
    let is : IsSet old c.args.row c.args.column c.args.value new = subst (λ k. IsSet old c.args.row c.args.column c.args.value (record { basic = b; nonbasic = n; cells = slice_set cs (c.args.row * k + c.args.column) c.args.value })) (sym w) (set_is b n cs c.args.row c.args.column c.args.value row column c.self.invariant.0) in
    subst (λ d. IsSet d c.args.row c.args.column c.args.value new) c.self.view_is is
