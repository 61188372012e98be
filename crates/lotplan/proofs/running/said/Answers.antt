use Rattle.std.proofs.Common.{refl, sym, subst, map, string_bytes, IfOk, OnErr, Ok}
use Rattle.command_line.specs.Meant.{request_by}
use Rattle.command_line.specs.Words.{command_of}
use Rattle.lotplan.specs.Run.{Leaves, SaysFor, reads_of, writes_of}
use Rattle.lotplan.proofs.Explained.{leaves_same}
use Rattle.lotplan.specs.Fetching.{FetchesAs}
use Rattle.lotplan.proofs.Fetched.{still}
use Rattle.lotplan.specs.Writing.{AppendsAs}
use Rattle.lotplan.proofs.Readings.{same_reads}
use Rattle.lotplan.proofs.Appended.{reads_append}
use Rattle.lotplan.proofs.running.said.Goals as goal

pub said_of-requires : goal.said_of-requires
said_of-requires g c =
    let request = rw (c.in-Ok-Command.field-0-is) at c.in-Ok-Command.ensures.means in
    c.commands_are_allowed.ensures (map string_bytes c.args.words.now) (request_by c.in-Ok-Command.command) (sym request)

pub returns-in-Ok-Command-clause-said : goal.returns-in-Ok-Command-clause-said
returns-in-Ok-Command-clause-said g c =
    let request = rw (c.in-Ok-Command.field-0-is) at c.in-Ok-Command.ensures.means in
    subst (λ a. IfOk c.said_of.result (SaysFor a (g.S.Shelf.shown c.args.shelf.now) (g.S.Shelf.shown c.said_of.new.shelf))) request c.said_of.ensures.said

pub returns-in-Ok-Command-clause-memory : goal.returns-in-Ok-Command-clause-memory
returns-in-Ok-Command-clause-memory g c =
    let request = rw (c.in-Ok-Command.field-0-is) at c.in-Ok-Command.ensures.means in
    subst (λ a. OnErr c.said_of.result (Leaves (reads_of a) (g.S.Shelf.shown c.args.shelf.now) (g.S.Shelf.shown c.said_of.new.shelf))) request c.said_of.ensures.memory

pub returns-in-Ok-Text-clause-said : goal.returns-in-Ok-Text-clause-said
returns-in-Ok-Text-clause-said g c =
    let request = rw (c.in-Ok-Text.field-0-is) at c.in-Ok-Text.ensures.means in
    let old = g.S.Shelf.shown c.args.shelf.now in
    subst (λ a. SaysFor a old old c.of.result) request (record { same = refl; ends = c.of.ensures.status })

pub returns-in-Err-clause-memory : goal.returns-in-Err-clause-memory
returns-in-Err-clause-memory g c = leaves_same (reads_of (command_of (map string_bytes c.args.words.now))) (g.S.Shelf.shown c.args.shelf.now)

pub returns-in-Ok-Text-clause-found : goal.returns-in-Ok-Text-clause-found
returns-in-Ok-Text-clause-found g c =
    let old = g.S.Shelf.shown c.args.shelf.now in
    subst (λ s. FetchesAs s old old) (sym c.of.ensures.status) (still old)

pub returns-in-Ok-Command-clause-appended : goal.returns-in-Ok-Command-clause-appended
returns-in-Ok-Command-clause-appended g c =
    let request = rw (c.in-Ok-Command.field-0-is) at c.in-Ok-Command.ensures.means in
    subst (λ a. IfOk c.said_of.result (λ said. AppendsAs (writes_of a) said.status (g.S.Shelf.shown c.args.shelf.now) (g.S.Shelf.shown c.said_of.new.shelf))) request c.said_of.ensures.appended

pub returns-in-Ok-Text-clause-appended : goal.returns-in-Ok-Text-clause-appended
returns-in-Ok-Text-clause-appended g c =
    let old = g.S.Shelf.shown c.args.shelf.now in
    reads_append (writes_of (command_of (map string_bytes c.args.words.now))) old old (Ok c.of.result) (same_reads old old refl)
