use Rattle.std.proofs.Common.{refl}
use Rattle.cert_lines.specs.declared.head.HeadLine.TheVariants.{Claim, Cuts, Mark}
use Rattle.certificate.proofs.Heads.{second_fault, third_fault}
use Rattle.cert_stream.specs.Reader.{rest_in}
use Rattle.cert_stream.proofs.Starts.{head_given, head_is, no_such_head}
use Rattle.cert_stream.proofs.Opening.{first_line, not_elsewhere, same_three, second_line, third_line}
use Rattle.cert_stream.proofs.Steps.{told_on}
use Rattle.cert_stream.proofs.heads.read_heads.Goals as goal

pub returns-in_default-claim_of-clause-refused : goal.returns-in_default-claim_of-clause-refused
returns-in_default-claim_of-clause-refused g c = λ told.
    let name = c.args.name.now in
    let a = c.args.reader.now in
    let b = c.next_head.new.reader in
    let d = c.next_head-2.new.reader in
    let text = rest_in (g.S.Shelf.shown c.args.shelf.now) name a in
    let mid = rest_in (g.S.Shelf.shown c.next_head.new.shelf) name b in
    let rest = rest_in (g.S.Shelf.shown c.next_head-2.new.shelf) name d in
    let told_then = told_on c.next_head.ensures.reads told in
    let mark = Mark c.in-Some.version in
    let one = c.in_ok-next_head.field-0 in
    let two = c.in_ok-next_head-2.field-0 in
    second_fault text mid mark (head_is 1 one mark text mid c.in-Some.ensures.some (c.in_ok-next_head.ensures.head told)) (head_given 1 one mark a b c.in-Some.ensures.some c.in_ok-next_head.ensures.given)
    (no_such_head 2 two mid rest b d (c.in_default-claim_of.ensures.none refl) c.in_ok-next_head-2.ensures.given (c.in_ok-next_head-2.ensures.head told_then))

pub returns-in_default-count_of-clause-refused : goal.returns-in_default-count_of-clause-refused
returns-in_default-count_of-clause-refused g c = λ told.
    let name = c.args.name.now in
    let a = c.args.reader.now in
    let b = c.next_head.new.reader in
    let d = c.next_head-2.new.reader in
    let e = c.next_head-3.new.reader in
    let text = rest_in (g.S.Shelf.shown c.args.shelf.now) name a in
    let mid = rest_in (g.S.Shelf.shown c.next_head.new.shelf) name b in
    let rest = rest_in (g.S.Shelf.shown c.next_head-2.new.shelf) name d in
    let last = rest_in (g.S.Shelf.shown c.next_head-3.new.shelf) name e in
    let told_then = told_on c.next_head.ensures.reads told in
    let told_last = told_on c.next_head-2.ensures.reads told_then in
    let mark = Mark c.in-Some.version in
    let claim = Claim c.in-Some-claim_of.claim in
    let one = c.in_ok-next_head.field-0 in
    let two = c.in_ok-next_head-2.field-0 in
    let three = c.in_ok-next_head-3.field-0 in
    third_fault text mid rest mark claim
    (head_is 1 one mark text mid c.in-Some.ensures.some (c.in_ok-next_head.ensures.head told))
    (head_is 2 two claim mid rest c.in-Some-claim_of.ensures.some (c.in_ok-next_head-2.ensures.head told_then))
    (head_given 1 one mark a b c.in-Some.ensures.some c.in_ok-next_head.ensures.given)
    (head_given 2 two claim b d c.in-Some-claim_of.ensures.some c.in_ok-next_head-2.ensures.given)
    (no_such_head 3 three rest last d e (c.in_default-count_of.ensures.none refl) c.in_ok-next_head-3.ensures.given (c.in_ok-next_head-3.ensures.head told_last))

pub returns-in_default-clause-awaited : goal.returns-in_default-clause-awaited
returns-in_default-clause-awaited g c = λ told h more here e.
    let name = c.args.name.now in
    let text = rest_in (g.S.Shelf.shown c.args.shelf.now) name c.args.reader.now in
    let mid = rest_in (g.S.Shelf.shown c.next_head.new.shelf) name c.next_head.new.reader in
    let one = c.in_ok-next_head.field-0 in
    not_elsewhere 1 one (Mark h.version) (first_line h one text mid more here e (c.in_ok-next_head.ensures.awaited told)).0 refl (c.in_default.ensures.none refl)

pub returns-in_default-claim_of-clause-awaited : goal.returns-in_default-claim_of-clause-awaited
returns-in_default-claim_of-clause-awaited g c = λ told h more here e.
    let name = c.args.name.now in
    let text = rest_in (g.S.Shelf.shown c.args.shelf.now) name c.args.reader.now in
    let mid = rest_in (g.S.Shelf.shown c.next_head.new.shelf) name c.next_head.new.reader in
    let rest = rest_in (g.S.Shelf.shown c.next_head-2.new.shelf) name c.next_head-2.new.reader in
    let told_then = told_on c.next_head.ensures.reads told in
    let one = c.in_ok-next_head.field-0 in
    let two = c.in_ok-next_head-2.field-0 in
    not_elsewhere 2 two (Claim h.claim) (second_line h one two text mid rest more here e (c.in_ok-next_head.ensures.awaited told) (c.in_ok-next_head-2.ensures.awaited told_then)).0 refl (c.in_default-claim_of.ensures.none refl)

pub returns-in_default-count_of-clause-awaited : goal.returns-in_default-count_of-clause-awaited
returns-in_default-count_of-clause-awaited g c = λ told h more here e.
    let name = c.args.name.now in
    let text = rest_in (g.S.Shelf.shown c.args.shelf.now) name c.args.reader.now in
    let mid = rest_in (g.S.Shelf.shown c.next_head.new.shelf) name c.next_head.new.reader in
    let rest = rest_in (g.S.Shelf.shown c.next_head-2.new.shelf) name c.next_head-2.new.reader in
    let last = rest_in (g.S.Shelf.shown c.next_head-3.new.shelf) name c.next_head-3.new.reader in
    let told_then = told_on c.next_head.ensures.reads told in
    let told_last = told_on c.next_head-2.ensures.reads told_then in
    let one = c.in_ok-next_head.field-0 in
    let two = c.in_ok-next_head-2.field-0 in
    let three = c.in_ok-next_head-3.field-0 in
    not_elsewhere 3 three (Cuts h.count) (third_line h one two three text mid rest last more here e (c.in_ok-next_head.ensures.awaited told) (c.in_ok-next_head-2.ensures.awaited told_then) (c.in_ok-next_head-3.ensures.awaited told_last)).0 refl (c.in_default-count_of.ensures.none refl)

pub returns-clause-awaited : goal.returns-clause-awaited
returns-clause-awaited g c = λ told h more here e.
    let name = c.args.name.now in
    let text = rest_in (g.S.Shelf.shown c.args.shelf.now) name c.args.reader.now in
    let mid = rest_in (g.S.Shelf.shown c.next_head.new.shelf) name c.next_head.new.reader in
    let rest = rest_in (g.S.Shelf.shown c.next_head-2.new.shelf) name c.next_head-2.new.reader in
    let last = rest_in (g.S.Shelf.shown c.next_head-3.new.shelf) name c.next_head-3.new.reader in
    let told_then = told_on c.next_head.ensures.reads told in
    let told_last = told_on c.next_head-2.ensures.reads told_then in
    let one = c.in_ok-next_head.field-0 in
    let two = c.in_ok-next_head-2.field-0 in
    let three = c.in_ok-next_head-3.field-0 in
    let given = c.in_ok-next_head.ensures.awaited told in
    let then = c.in_ok-next_head-2.ensures.awaited told_then in
    let finally = third_line h one two three text mid rest last more here e given then (c.in_ok-next_head-3.ensures.awaited told_last) in
    let mark = (first_line h one text mid more here e given).0 in
    let claim = (second_line h one two text mid rest more here e given then).0 in
    (same_three h one two three c.in-Some.version c.in-Some-claim_of.claim c.in-Some-count_of.count c.in-Some.ensures.some c.in-Some-claim_of.ensures.some c.in-Some-count_of.ensures.some mark claim finally.0, finally.1)
