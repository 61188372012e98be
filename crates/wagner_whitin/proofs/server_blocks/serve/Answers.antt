use Rattle.std.proofs.Common.{◌≡◌, ◌+◌, ◌-◌, ⊎_elim, subst, sym, arith, length, slice_set, Some}
use Rattle.std.proofs.lemmas.Bool.{cases_lt}
use Rattle.echelon.specs.Views.{single_of_item}
use Rattle.wagner_whitin.specs.Tables.{IsServerBlockOrNone, block_at}
use Rattle.wagner_whitin.proofs.Serving.{closed_blocks, block_here, block_other, set_length}
use Rattle.wagner_whitin.proofs.server_blocks.serve.Goals as goal

pub extended-requires-clause-server : goal.extended-requires-clause-server
extended-requires-clause-server c = (c.requires.servers c.loop-server.server c.loop-server.auto.server).1 (omega arith)

pub loop-server-preserved : goal.loop-server-preserved
loop-server-preserved c =
    let s = single_of_item c.args.single.now in
    let g = c.args.potentials.now in
    let v = c.loop-server.server in
    let blocks = c.loop-server.blocks in
    let next = slice_set blocks (v - 1) (Some c.extended.result) in
    let inv = c.loop-server.invariant in
    record {
      size = omega (arith, set_length blocks (v - 1) (Some c.extended.result), inv.size);
      done = λ u low high. ⊎_elim
          (λ before. subst (IsServerBlockOrNone s g u (length g + 1)) (sym (block_other blocks v u (Some c.extended.result) c.loop-server.auto.server low (λ same. omega (arith, same, before)))) (inv.done u low before))
          (λ no. let e : u ≡ v = omega (arith, no, high) in subst (λ k. IsServerBlockOrNone s g k (length g + 1) (block_at next k)) (sym e) (subst (IsServerBlockOrNone s g v (length g + 1)) (sym (block_here blocks v (Some c.extended.result) c.loop-server.auto.server (omega (arith, inv.size)))) c.extended.ensures))
          (cases_lt u v);
      rest = λ u low high. subst (IsServerBlockOrNone s g u (length g)) (sym (block_other blocks v u (Some c.extended.result) c.loop-server.auto.server (omega (arith, low)) (λ same. omega (arith, same, low)))) (inv.rest u (omega (arith, low)) high);
    }

pub returns : goal.returns
returns c =
    let s = single_of_item c.args.single.now in
    let inv = c.loop-server.invariant in
    closed_blocks s c.args.potentials.now c.args.period c.args.limit c.loop-server.server c.loop-server.blocks c.requires.some c.requires.period c.requires.servers (omega arith) inv.size inv.done inv.rest
