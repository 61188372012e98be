use Rattle.std.proofs.Common.{◌≡◌, ◌<◌, ◌+◌, ◌∙◌, IsTrue, ap, sym, arith, vec_len, length, take, drop, Some, ◌++◌, ℕ}
use Rattle.std.proofs.lemmas.List.{length-take, take_at}
use Rattle.lot_io.proofs.Frames.{finds_on, reads_on}
use Rattle.lot_io.proofs.Reading.{read_whole, read_more}
use Rattle.lot_io.proofs.files.read_file.Goals as goal

pub returns-then-got-eq0-clause-bytes : goal.returns-then-got-eq0-clause-bytes
returns-then-got-eq0-clause-bytes g c = λ t.
    let told : IsTrue (g.S.Shelf.shown c.loop-got.shelf).told = rw c.loop-got.invariant.reads.told t in
    let f = c.in-Ok.ensures.bytes told in
    let same = ap (λ files. files c.args.name.now) (sym c.loop-got.invariant.reads.files) ∙ f.1 in
    let room : 0 < length c.fetch.new.room = omega arith in
    same ∙ ap Some (sym (read_whole f.2 c.if-got-eq0.true room _ _ c.len.ensures (c.loop-got.invariant.read t f.0 same)))

pub returns-then-len-got-clause-too_long : goal.returns-then-len-got-clause-too_long
returns-then-len-got-clause-too_long g c = λ _ t.
    let told : IsTrue (g.S.Shelf.shown c.loop-got.shelf).told = rw c.loop-got.invariant.reads.told t in
    let f = c.in-Ok.ensures.bytes told in
    let same = ap (λ files. files c.args.name.now) (sym c.loop-got.invariant.reads.files) ∙ f.1 in
    (f.0, same, omega (arith, f.2.some))

pub loop-got-preserved : goal.loop-got-preserved
loop-got-preserved g c =
    let len : vec_len c.extend_from_slice.new.self ≡ vec_len c.loop-got.bytes + c.in-Ok.got =
    omega (arith, c.in_ok-extend_from_slice.ensures.len, c.in-Ok.ensures.bound, length-take {A = ℕ}) in
    record {
      read = λ t file is.
          let told : IsTrue (g.S.Shelf.shown c.loop-got.shelf).told = rw c.loop-got.invariant.reads.told t in
          let f = c.in-Ok.ensures.bytes told in
          let same = ap (λ files. files c.args.name.now) (sym c.loop-got.invariant.reads.files) ∙ f.1 in
          let one : f.0 ≡ file = cc in
          let more = read_more f.2 _ _ c.len.ensures (c.loop-got.invariant.read t f.0 same) in
          let items : c.extend_from_slice.new.self.items ≡ c.loop-got.bytes.items ++ take c.in-Ok.got c.fetch.new.room =
          c.in_ok-extend_from_slice.ensures.items ∙ ap (λ room. c.loop-got.bytes.items ++ take c.in-Ok.got room) (c.deref.ensures.value ∙ take_at c.fetch.new.room (drop (length c.fetch.new.room) c.loop-got.room.items) c.loop-got.room.len (omega arith)) in
          items ∙ more ∙ ap (λ n. take n f.0) (sym len) ∙ ap (λ bytes. take (vec_len c.extend_from_slice.new.self) bytes) one;
      within = omega arith;
      room = omega arith;
      given = omega (arith, c.in-Ok.ensures.given);
      found = finds_on c.loop-got.invariant.found c.in-Ok.ensures.found;
      reads = reads_on c.loop-got.invariant.reads c.fetch.ensures.reads;
    }
