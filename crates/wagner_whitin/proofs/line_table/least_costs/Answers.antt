use Rattle.std.proofs.Common.{◌≡◌, ◌<◌, ◌+◌, ◌∙◌, ◌∷◌, ◌++◌, [], ap, subst, sym, inr, arith, length, drop, slice_index_or}
use Rattle.std.proofs.lemmas.List.{take_at}
use Rattle.lot_sizing.specs.Single.{position_count, potential}
use Rattle.echelon.specs.Views.{single_of_item}
use Rattle.wagner_whitin.specs.Tables.{IsTable}
use Rattle.wagner_whitin.proofs.Serving.{positions_small}
use Rattle.wagner_whitin.specs.Lines.{BeginAtEntries, IsCheapest, IsHull, line_cost}
use Rattle.wagner_whitin.proofs.Progress.{hull_later, next_period, next_table, period_here, steps_of_position, steps_within}
use Rattle.wagner_whitin.proofs.line_table.least_costs.Goals as goal

pub enter-requires-clause-small : goal.enter-requires-clause-small
enter-requires-clause-small g' c =
    let s = single_of_item c.args.single.now in
    let g = c.loop-place.potentials.items in
    let p = c.loop-place.place in
    let inv = c.loop-place.invariant in
    let some : p < position_count s = omega (arith, ap length c.requires.needed) in
    let here = period_here s c.args.needed.now p c.requires.within c.requires.needed some in
    omega (arith, ap (λ xs. potential xs (length xs)) c.deref.ensures.value, ap (potential g) inv.table.size, inv.table.small p (omega arith), positions_small s c.requires.within, some)

pub enter-requires-clause-order : goal.enter-requires-clause-order
enter-requires-clause-order g' c =
    let s = single_of_item c.args.single.now in
    let g = c.loop-place.potentials.items in
    let p = c.loop-place.place in
    let inv = c.loop-place.invariant in
    let some : p < position_count s = omega (arith, ap length c.requires.needed) in
    let here = period_here s c.args.needed.now p c.requires.within c.requires.needed some in
    let next = next_period s p c.loop-place.entered (slice_index_or c.args.needed.now p 0) c.requires.no_backlog some here.same here.high inv.come in
    next.order

pub enter-requires-clause-high : goal.enter-requires-clause-high
enter-requires-clause-high g' c =
    let s = single_of_item c.args.single.now in
    let g = c.loop-place.potentials.items in
    let p = c.loop-place.place in
    let inv = c.loop-place.invariant in
    let some : p < position_count s = omega (arith, ap length c.requires.needed) in
    let here = period_here s c.args.needed.now p c.requires.within c.requires.needed some in
    here.high

pub enter-requires-clause-entries : goal.enter-requires-clause-entries
enter-requires-clause-entries g' c u low high =
    let s = single_of_item c.args.single.now in
    let g = c.loop-place.potentials.items in
    let p = c.loop-place.place in
    let inv = c.loop-place.invariant in
    let some : p < position_count s = omega (arith, ap length c.requires.needed) in
    let here = period_here s c.args.needed.now p c.requires.within c.requires.needed some in
    let next = next_period s p c.loop-place.entered (slice_index_or c.args.needed.now p 0) c.requires.no_backlog some here.same here.high inv.come in
    omega (arith, next.entries u low high, c.deref.ensures.len, inv.table.size)

pub overflow_cast-last : goal.overflow_cast-last
overflow_cast-last g' c = omega (arith, positions_small (single_of_item c.args.single.now) c.requires.within, c.loop-place.invariant.high)

pub overflow_add-last : goal.overflow_add-last
overflow_add-last g' c = omega (arith, positions_small (single_of_item c.args.single.now) c.requires.within, c.loop-place.invariant.high)

pub returns-in_err-push-clause-steps : goal.returns-in_err-push-clause-steps
returns-in_err-push-clause-steps g' c =
    let s = single_of_item c.args.single.now in
    let g = c.loop-place.potentials.items in
    let p = c.loop-place.place in
    let inv = c.loop-place.invariant in
    let some : p < position_count s = omega (arith, ap length c.requires.needed) in
    let here = period_here s c.args.needed.now p c.requires.within c.requires.needed some in
    let next = next_period s p c.loop-place.entered (slice_index_or c.args.needed.now p 0) c.requires.no_backlog some here.same here.high inv.come in
    steps_within s (slice_index_or c.args.needed.now p 0) p c.args.level c.args.steps.now c.cheapest_line-line.new.steps here.high some (steps_of_position c.loop-place.entered (slice_index_or c.args.needed.now p 0) p c.args.level c.args.steps.now c.loop-place.steps c.enter.new.steps c.cheapest_line-line.new.steps next.order inv.steps c.enter.ensures.steps c.cheapest_line-line.ensures.steps)

pub returns-in_err-push-2-clause-steps : goal.returns-in_err-push-2-clause-steps
returns-in_err-push-2-clause-steps g' c =
    let s = single_of_item c.args.single.now in
    let g = c.loop-place.potentials.items in
    let p = c.loop-place.place in
    let inv = c.loop-place.invariant in
    let some : p < position_count s = omega (arith, ap length c.requires.needed) in
    let here = period_here s c.args.needed.now p c.requires.within c.requires.needed some in
    let next = next_period s p c.loop-place.entered (slice_index_or c.args.needed.now p 0) c.requires.no_backlog some here.same here.high inv.come in
    steps_within s (slice_index_or c.args.needed.now p 0) p c.args.level c.args.steps.now c.cheapest_line-line.new.steps here.high some (steps_of_position c.loop-place.entered (slice_index_or c.args.needed.now p 0) p c.args.level c.args.steps.now c.loop-place.steps c.enter.new.steps c.cheapest_line-line.new.steps next.order inv.steps c.enter.ensures.steps c.cheapest_line-line.ensures.steps)

pub loop-place-preserved : goal.loop-place-preserved
loop-place-preserved g' c =
    let s = single_of_item c.args.single.now in
    let g = c.loop-place.potentials.items in
    let p = c.loop-place.place in
    let inv = c.loop-place.invariant in
    let some : p < position_count s = omega (arith, ap length c.requires.needed) in
    let here = period_here s c.args.needed.now p c.requires.within c.requires.needed some in
    let next = next_period s p c.loop-place.entered (slice_index_or c.args.needed.now p 0) c.requires.no_backlog some here.same here.high inv.come in
    let t = slice_index_or c.args.needed.now p 0 in
    let l = c.cheapest_line-line.result in
    let x = line_cost s l (p + 1) in
    let slots = c.enter.new.slots in
    let hull : IsHull s g t (p + 1) c.args.level slots = subst (λ k. IsHull s g t (k + 1) c.args.level slots) inv.table.size (subst (λ xs. IsHull s xs t (length xs + 1) c.args.level slots) c.deref.ensures.value c.enter.ensures.hull) in
    let cheapest : IsCheapest s g (p + 1) l = subst (λ k. IsCheapest s g (k + 1) l) inv.table.size (subst (λ xs. IsCheapest s xs (length xs + 1) l) c.deref-in-loop-place.ensures.value c.cheapest_line-line.ensures.cheapest) in
    let more = next_table s p g c.loop-place.lasts.items l c.requires.within c.requires.no_backlog inv.table inv.begins some cheapest in
    let costs : c.push-in-loop-place.new.self.items ≡ g ++ x ∷ [] = c.in_ok-push-2.ensures.items ∙ ap (λ k. g ++ k ∷ []) c.cost_at.ensures.value in
    let lasts : c.push.new.self.items ≡ c.loop-place.lasts.items ++ record { first = l.first; last = p + 1; server = l.server } ∷ [] = c.in_ok-push.ensures.items in
    let back = take_at slots (drop (length slots) c.loop-place.slots.items) c.loop-place.slots.len (omega (arith, hull.size, inv.hull.size)) in
    record {
      high = omega (arith, some);
      table = subst (λ xs. IsTable s (p + 1) xs c.push.new.self.items) (sym costs) (subst (IsTable s (p + 1) (g ++ x ∷ [])) (sym lasts) more.table);
      begins = subst (BeginAtEntries s (p + 1)) (sym lasts) more.begins;
      hull = subst (IsHull s c.push-in-loop-place.new.self.items t (p + 1 + 1) c.args.level) (sym back) (subst (λ xs. IsHull s xs t (p + 1 + 1) c.args.level slots) (sym costs) (hull_later s g x t (p + 1) c.args.level slots (omega (arith, inv.table.size)) hull));
      come = inr (omega arith, here.same);
      top = here.high;
      steps = steps_of_position c.loop-place.entered (slice_index_or c.args.needed.now p 0) p c.args.level c.args.steps.now c.loop-place.steps c.enter.new.steps c.cheapest_line-line.new.steps next.order inv.steps c.enter.ensures.steps c.cheapest_line-line.ensures.steps;
    }
