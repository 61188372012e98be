use Rattle.std.proofs.Common.{◌≡◌, ◌∙◌, arith, length, sym, subst}
use Rattle.plan_file.specs.Records.{records_of}
use Rattle.plan_rules.specs.Held.{plan_of}
use Rattle.lot_schedule.specs.Records.{AreRowsOf}
use Rattle.lot_schedule.specs.Slots.{AllExist}
use Rattle.lot_schedule.specs.Texts.{schedule_text}
use Rattle.lotplan.specs.Scheduling.{Laid, scheduled_word}
use Rattle.lotplan.proofs.Extracted.{says_extract}
use Rattle.lotplan.proofs.Appended.{extract_appends}
use Rattle.lotplan.proofs.commands.schedule.write_laid.Goals as goal

pub write_schedule-requires : goal.write_schedule-requires
write_schedule-requires g c = subst (AllExist c.args.instance.now) (sym c.deref.ensures.value) c.in_ok-slots.ensures.exist

pub returns-clause-said : goal.returns-clause-said
returns-clause-said g c =
    let problem = c.args.instance.now in
    let slots = c.in_ok-slots.slots.items in
    let held = c.in_ok-bytes.bytes.items in
    let text = subst (λ xs. held ≡ schedule_text problem xs) c.deref.ensures.value c.in_ok-bytes.ensures.text in
    let read = subst (λ xs. AreRowsOf problem (records_of held) xs) c.deref.ensures.value c.in_ok-bytes.ensures.read in
    let counted : c.len.result ≡ length slots = omega (arith, c.len.ensures, c.in_ok-slots.slots.ok.0) in
    says_extract (Laid c.args.file.now) scheduled_word problem (plan_of c.args.given.now) c.args.file.now c.as_slice.result.now c.len.result (g.S.Shelf.shown c.args.shelf.now) (g.S.Shelf.shown c.write_extract.new.shelf) c.write_extract.result (λ written t. record {
      slots = slots;
      bytes = c.as_slice.result.now;
      written = written t;
      text = c.as_slice.ensures.value ∙ text;
      read = subst (λ bs. AreRowsOf problem (records_of bs) slots) (sym c.as_slice.ensures.value) read;
      schedule = c.in_ok-slots.ensures.schedule;
      order = c.in_ok-slots.ensures.order;
      least = c.in_ok-slots.ensures.least;
      ties = c.in_ok-slots.ensures.ties;
      counted = counted;
    }) c.write_extract.ensures.said

pub returns-clause-appended : goal.returns-clause-appended
returns-clause-appended g c = extract_appends scheduled_word c.len.result c.args.file.now c.as_slice.result.now (g.S.Shelf.shown c.args.shelf.now) (g.S.Shelf.shown c.write_extract.new.shelf) c.write_extract.result c.write_extract.ensures.said
