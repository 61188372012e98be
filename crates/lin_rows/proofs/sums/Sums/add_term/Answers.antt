use Rattle.std.proofs.Common.{◌≡◌, ◌∙◌, rules, sym, ap, subst}
use Rattle.std.specs.Prelude.{◌*ℤ◌}
use Rattle.std.proofs.lemmas.List.{length-set}
use Rattle.std.proofs.lemmas.List.Elements.{All-set}
use Rattle.std.specs.Vec.{with_item}
use mir.Facts.{to_z-of_z}
use mir.Val.{SFits}
use mir.Syntax.{w128}
use Rattle.lin_rows.specs.Sums.{AddsTerm, IsTotal, IsColumnWithin, cell_of, sums_in, total_of, with_more}
use Rattle.lin_rows.proofs.Cells.{adds_term, place_small}
use Rattle.lin_rows.proofs.sums.Sums.add_term.Goals as goal

pub index_mut-requires : goal.index_mut-requires
index_mut-requires c =
    let a = c.self.inside in
    let within : IsColumnWithin a.items a.periods c.args.term.column = subst (λ s. IsColumnWithin s.items s.periods c.args.term.column) (sym c.self.view_is) c.requires.within in
    let place = c.cell-place.ensures.value ∙ ap (λ s. cell_of s.items s.periods c.args.term.column) (sym c.self.view_is) in
    place_small (sums_in a) a.cells.len a.cells.items c.args.term.column c.cell-place.result c.self.invariant.size within place a.cells.ok.0

pub invariant_of-self : goal.invariant_of-self
invariant_of-self c =
    let a = c.self.inside in
    record {
      items = c.self.invariant.items;
      periods = c.self.invariant.periods;
      size = length-set a.cells.items c.cell-place.result c.with_more-more.result ∙ c.self.invariant.size;
      cells = All-set IsTotal a.cells.items c.cell-place.result c.with_more-more.result c.with_more-more.ensures.total c.self.invariant.cells;
      right = c.self.invariant.right;
    }

pub returns-clause-adds : goal.returns-clause-adds
returns-clause-adds c =
    let a = c.self.inside in
    let times_fit : SFits w128 c.args.times = search rules in
    let term_fits : SFits w128 c.args.term.times = search rules in
    let within : IsColumnWithin a.items a.periods c.args.term.column = subst (λ s. IsColumnWithin s.items s.periods c.args.term.column) (sym c.self.view_is) c.requires.within in
    let place = c.cell-place.ensures.value ∙ ap (λ s. cell_of s.items s.periods c.args.term.column) (sym c.self.view_is) in
    let value : c.with_more-more.result ≡ with_more (total_of (sums_in a) c.args.term.column) (c.args.times *ℤ c.args.term.times) =
    simp (to_z-of_z times_fit, to_z-of_z term_fits) at c.with_more-more.ensures.value ∙ ap (λ t. with_more t (c.args.times *ℤ c.args.term.times)) (c.total.ensures.value ∙ ap (λ s. total_of s c.args.term.column) (sym c.self.view_is)) in
    subst (λ s. AddsTerm s (sums_in (record { items = a.items; periods = a.periods; cells = with_item a.cells c.cell-place.result c.with_more-more.result; right = a.right })) c.args.term c.args.times) c.self.view_is (adds_term (sums_in a) c.args.term c.args.times c.cell-place.result c.with_more-more.result c.self.invariant.size within place value)
