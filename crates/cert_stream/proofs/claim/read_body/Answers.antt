use Rattle.std.proofs.Common.{subst}
use Rattle.certificate.specs.Stacks.{dues_in}
use Rattle.cert_stream.specs.Claims.{AreTaken, IsStep}
use Rattle.cert_stream.specs.Reader.{rest_in}
use Rattle.cert_stream.proofs.Steps.{goes_on, told_on}
use Rattle.cert_stream.proofs.Taken.{taken_on}
use Rattle.cert_stream.proofs.claim.read_body.Goals as goal

pub loop-fault-preserved : goal.loop-fault-preserved
loop-fault-preserved g c =
    let name = c.args.name.now in
    let a = c.loop-fault.reader in
    let b = c.take_line.new.reader in
    let before = dues_in c.loop-fault.dues in
    let after = dues_in c.take_line.new.dues in
    let text = rest_in (g.S.Shelf.shown c.loop-fault.shelf) name a in
    let rest = rest_in (g.S.Shelf.shown c.take_line.new.shelf) name b in
    let known = c.loop-fault.invariant in
    record {
      sound = c.in_ok-take_line.ensures.sound;
      taken = λ told.
          let one : AreTaken c.args.version before text a.number after rest b.number = subst (λ s. IsStep c.args.version before text a.number s after rest b.number) c.in-Taken.is (c.in_ok-take_line.ensures.step (told_on known.goes.reads told)) in
          taken_on (known.taken told) one;
      goes = goes_on known.goes c.in_ok-take_line.ensures.goes_on;
    }
