use Rattle.std.proofs.Common.{◌≡◌, ◌∙◌, ap, arith, length, subst, Some}
use Rattle.std.specs.List.{All}
use Rattle.plan_rules.specs.Held.{plan_of}
use Rattle.pegging.specs.Pegs.{pegs_of}
use Rattle.pegging.specs.Sums.{IsInTime, MeetNeeds, UseSupplies}
use Rattle.pegging.specs.Texts.{pegs_text}
use Rattle.lotplan.specs.Pegging.{Pegged, pegged_word}
use Rattle.lotplan.proofs.Extracted.{says_extract}
use Rattle.lotplan.proofs.Appended.{extract_appends}
use Rattle.lotplan.proofs.commands.peg.write_pegged.Goals as goal

pub returns-clause-said : goal.returns-clause-said
returns-clause-said g c =
    let problem = c.args.instance.now in
    let plan = plan_of c.args.given.now in
    let same = c.in_ok-pegs.ensures.pegs in
    let text = c.as_slice.ensures.value ∙ (c.in_ok-bytes.ensures.text ∙ ap (pegs_text problem) (c.deref.ensures.value ∙ same)) in
    let counted : c.len.result ≡ length (pegs_of problem plan) = omega (arith, c.len.ensures, c.in_ok-pegs.pegs.ok.0, ap length same) in
    says_extract (Pegged c.args.file.now) pegged_word problem plan c.args.file.now c.as_slice.result.now c.len.result (g.S.Shelf.shown c.args.shelf.now) (g.S.Shelf.shown c.write_extract.new.shelf) c.write_extract.result (λ written t. record {
      written = written t ∙ ap Some text;
      supplies = subst (UseSupplies problem plan) same c.in_ok-pegs.ensures.supplies;
      needs = subst (MeetNeeds problem plan) same c.in_ok-pegs.ensures.needs;
      in_time = subst (All (IsInTime problem)) same c.in_ok-pegs.ensures.in_time;
      counted = counted;
    }) c.write_extract.ensures.said

pub returns-clause-appended : goal.returns-clause-appended
returns-clause-appended g c = extract_appends pegged_word c.len.result c.args.file.now c.as_slice.result.now (g.S.Shelf.shown c.args.shelf.now) (g.S.Shelf.shown c.write_extract.new.shelf) c.write_extract.result c.write_extract.ensures.said
