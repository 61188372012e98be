use Rattle.std.proofs.Common.{◌+◌, ◌<◌, ◌^◌, IsTrue, subst, sym, true}
use Rattle.std.proofs.lemmas.List.Elements.{All-nil}
use Rattle.lot_io.specs.Outside.{Shelved}
use Rattle.cert_trees.specs.Paths.{AreChoices}
use Rattle.cert_trees.specs.Ranges.{IsChoice}
use Rattle.stream_check.specs.Nodes.{AreCovered, AreLeft, AreSmall, trees_due}
use Rattle.stream_check.proofs.Stack.{covered_first}
use Rattle.stream_check.proofs.Walk.{whole_left}
use Rattle.stream_check.proofs.Ways.{on_none, on_on}
use Rattle.stream_check.proofs.nodes.check_tree.Goals as goal

pub loop-more-init : goal.loop-more-init
loop-more-init g c =
    let m = c.args.instance.now in
    let a = c.args.reader.now in
    let shelf : Shelved = g.S.Shelf.shown c.args.shelf.now in
    let none = sym c.new-path.ensures.items in
    record {
      on = on_none c.args.text.name.now shelf a c.requires.sound;
      ready = c.in_ok-named.ensures;
      choices = subst (AreChoices m) none (All-nil (λ d. IsChoice m d.column));
      small = subst AreSmall none (All-nil (λ d. IsTrue d.most → d.number + 1 < 2 ^ 64));
      covered = subst (λ path. AreCovered m c.args.claim (trees_due true path)) none (covered_first m c.args.claim);
      awaited = λ tree short awaits. subst (λ path. AreLeft m c.args.rows.now c.args.claim tree a.number (trees_due true path) c.args.text.version shelf c.args.text.name.now a) none (whole_left m c.args.rows.now c.args.claim tree c.args.text.version shelf c.args.text.name.now a short awaits);
    }

pub loop-more-preserved : goal.loop-more-preserved
loop-more-preserved g c =
    let m = c.args.instance.now in
    let so_far = c.loop-more.invariant in
    let path = c.loop-more.path.items in
    let now : Shelved = g.S.Shelf.shown c.loop-more.shelf in
    record {
      on = on_on so_far.on c.in_ok-more.ensures.step.on;
      ready = c.in_ok-more.ensures.ready;
      choices = c.in_ok-more.ensures.choices;
      small = c.in_ok-more.ensures.small;
      covered = c.in_ok-more.ensures.covered (subst (λ more. AreCovered m c.args.claim (trees_due more path)) c.loop-more-test.true so_far.covered);
      awaited = λ tree short awaits.
          c.in_ok-more.ensures.awaited tree c.args.reader.now.number
          (subst (λ more. AreLeft m c.args.rows.now c.args.claim tree c.args.reader.now.number (trees_due more path) c.args.text.version now c.args.text.name.now c.loop-more.reader) c.loop-more-test.true (so_far.awaited tree short awaits));
    }
