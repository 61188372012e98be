use Rattle.std.proofs.Common.{take}
use Rattle.cert_trees.specs.Ranges.{WithTotals}
use Rattle.cert_meaning.specs.Named.{names}
use Rattle.cert_meaning.specs.Parts.{AreSmall}
use Rattle.cert_checker.specs.Named.{AreSumsOf, IsReadyFor}
use Rattle.cert_checker.proofs.named.NamedSums.sum_parts.Given as goal

abbrev pub invariant-loop-place : goal.invariant-loop-place
invariant-loop-place l = record {
  ready : IsReadyFor l.instance l.self;
  so_far : WithTotals l.instance (λ total. AreSumsOf (names l.instance total l.cuts l.path) (take l.place l.parts) l.self.sums);
  small : WithTotals l.instance (λ total. AreSmall (names l.instance total l.cuts l.path) (take l.place l.parts));
}
