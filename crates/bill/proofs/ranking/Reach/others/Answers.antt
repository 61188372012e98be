use Rattle.std.proofs.Common.{◌≡◌, ◌-◌, ℕ, ap, length, arith}
use Rattle.std.specs.Prelude.{if◌then◌else◌}
use Rattle.lot_sizing.specs.Sums.{sum_to}
use Rattle.bill.specs.Sets.{has, set_of}
use Rattle.bill.proofs.ranking.Reach.others.Goals as goal

pub returns-clause-count : goal.returns-clause-count
returns-clause-count c =
    let sets = c.args.self.now in
    let f : ℕ → ℕ = λ i. if has (set_of sets c.args.item) i then 0 else 1 in
    let same : c.loop-one.one - 1 ≡ length (set_of sets c.args.item) = omega (arith, c.items-one-end.ensures.square.each c.args.item c.requires.low c.requires.high) in
    omega (arith, c.loop-one.invariant.count, ap (λ n. sum_to n f) same)
