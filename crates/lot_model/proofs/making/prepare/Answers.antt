use Rattle.std.proofs.Common.{◌∙◌, ap, arith, length, map, subst}
use Rattle.std.proofs.lemmas.List.{length-map}
use Rattle.bill.specs.Sets.{IsReachOf}
use Rattle.lot_model.specs.Held.{needs_in, problem_of_parts}
use Rattle.lot_model.proofs.Bills.{bill_is, lines_are}
use Rattle.lot_model.proofs.making.prepare.Goals as goal

pub bill_lines-requires : goal.bill_lines-requires
bill_lines-requires c = lines_are (problem_of_parts c.args.parts.now) (map (λ a. a.needs) c.deref.result.now) (ap (map (λ a. a.needs)) c.deref.ensures.value) c.requires.needs c.requires.few

pub returns : goal.returns
returns c =
    let p = problem_of_parts c.args.parts.now in
    let lines = c.in_ok-lines.ensures ∙ ap (map (λ a. a.needs)) c.deref.ensures.value in
    let count = ap length lines ∙ length-map p.items (λ a. a.needs) in
    record {
      lines = lines;
      reach = subst (λ b. IsReachOf b c.in_ok-ranking.ranking) (bill_is p c.in_ok-lines.lines lines) c.in_ok-ranking.ensures;
      tables = omega (arith, c.in_ok-tables.ensures, c.items.ensures.value, count);
      asked = omega (arith, c.in_ok-asked.ensures, c.items-2.ensures.value, count);
      there = omega (arith, c.in_ok-there.ensures, c.items-3.ensures.value, count);
    }
