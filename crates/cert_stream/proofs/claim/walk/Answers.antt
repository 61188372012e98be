use Rattle.std.proofs.Common.{◌≡◌, ◌++◌, subst}
use Rattle.std.specs.Prelude.{IfOk, IsTrue, OnOk}
use Rattle.certificate.specs.Stacks.{dues_in}
use Rattle.certificate.specs.Text.{head_values}
use Rattle.certificate.specs.Faults.{AreHeads}
use Rattle.cert_stream.specs.Claims.{AreAll}
use Rattle.cert_stream.specs.Heads.{heads_of}
use Rattle.cert_stream.specs.Reader.{rest_in}
use Rattle.cert_stream.proofs.Steps.{told_on}
use Rattle.cert_stream.proofs.Taken.{claimed}
use Rattle.cert_stream.proofs.claim.walk.Goals as goal

pub returns-in-Ok-2-clause-text : goal.returns-in-Ok-2-clause-text
returns-in-Ok-2-clause-text g c = λ told.
    let name = c.args.name.now in
    let heads = c.in-Ok.heads in
    let text = rest_in (g.S.Shelf.shown c.args.shelf.now) name c.args.reader.now in
    let rest = rest_in (g.S.Shelf.shown c.read_heads.new.shelf) name c.read_heads.new.reader in
    let lines : AreHeads 1 (head_values heads.version heads.claim heads.count) = subst (λ r. IfOk r (λ h. AreHeads 1 (head_values h.version h.claim h.count))) c.in-Ok.is c.in_ok-heads.ensures.lines in
    let is : text ≡ heads_of heads ++ rest = subst (λ r. IfOk r (λ h. IsTrue (g.S.Shelf.shown c.args.shelf.now).told → text ≡ heads_of h ++ rest)) c.in-Ok.is c.in_ok-heads.ensures.text told in
    let all = subst (λ r. OnOk r (IsTrue (g.S.Shelf.shown c.read_heads.new.shelf).told → AreAll heads.version (dues_in c.in_ok-dues.dues) rest)) c.in-Ok-2.is c.in_ok-read_body.ensures.all (told_on c.read_heads.ensures.reads told) in
    claimed heads text rest lines is (subst (λ dues. AreAll heads.version dues rest) c.in_ok-dues.ensures all)
