-- All that holds of what a search finds.
use Rattle.std.specs.Prelude.{◌≡◌, ◌↔◌, ◌≤◌, Bool, IfSome}
use Rattle.lot_sizing.specs.Problem.{IsUncoupled, Problem}
use Rattle.cert_lines.specs.declared.limits.TheConstants.{LOTS_CERT_VERSION, MAX_CERT_VERSION}
use Rattle.certificate.specs.Shapes.{shape_of}
use Rattle.search_result.specs.declared.found.Found.{Found}
use Rattle.search_result.specs.declared.found.RootSays.TheVariants.{Uncoupled}
use Rattle.search_result.specs.Found.{IsProved}
use Rattle.cert_trees.specs.Ranges.{Ranges}
use Rattle.lp_root.specs.declared.round_leaf.Root.{Root}
use Rattle.lp_root.specs.Root.{AreWritable, BoundsPlans, HasFigures, RootMeans, root_cuts}
use Rattle.branching.specs.Search.{DecidesSmall, GoesTogether, HasEvidence, IfBound, IsNoLessThanApart, IsSaidAtRoot, IsUndecided, IsVersionOf, KeepsFirst, KeepsOwn, UsesRoot, WithRows}
use Rattle.incumbent.specs.Good.{IsGoodPlan, IsGoodWithin}
use Rattle.branching.specs.SearchWithin.{HasEvidenceWithin, IsProvedWithin, IsUndecidedWithin}
use Rattle.branching.specs.Beginning.{AreApart}
use Rattle.branching.specs.declared.wanted.Start.{Start}
use Rattle.branching.specs.declared.wanted.Wanted.{Wanted}
use Rattle.node_domains.specs.Within.{AreGiven, IsWhole, given_ranges}

-- what the root promises
pub record IsRootOf (m : Problem) (r : Root) : Type 0 where
  pub means : RootMeans m r
  pub writable : AreWritable m (root_cuts r) r.leaf
  pub uncoupled : r.says ≡ Uncoupled ↔ IsUncoupled m
  pub bounds : BoundsPlans m r.says
  pub figures : HasFigures m

-- a search is asked within ranges of the problem: with room for a node, with a version of certificates that names each problem's rows, with a plan within the ranges to begin with, if one was given, after what was said at the root and what the items cost apart
pub record StartsWell (s : Start) (w : Wanted) : Type 0 where
  pub room : 1 ≤ w.budget
  pub oldest : LOTS_CERT_VERSION ≤ w.newest
  pub latest : w.newest ≤ MAX_CERT_VERSION
  pub given : AreGiven s.instance.now s.ranges.now
  pub good : IfSome w.first (IsGoodWithin s.instance.now (given_ranges s.ranges.now))
  pub root : IsRootOf s.instance.now s.said
  pub apart : AreApart s.instance.now s.apart

-- over all ranges
pub record IsAnswer (m : Problem) (w : Wanted) (stopping : Bool) (found : Found) : Type 0 where
  pub proved : IsProved m found
  pub plan : IfSome found.plan (IsGoodPlan m)
  pub within : found.nodes ≤ w.budget
  pub kept : KeepsFirst m w.first found.plan
  pub own : KeepsOwn m found.plan
  pub goes : GoesTogether m found.certificate.claim found.plan
  pub cause : IfBound found.certificate.claim (λ amount. WithRows m found (IsUndecided m w.budget w.limits stopping found))
  pub evidence : IfBound found.certificate.claim (λ amount. WithRows m found (HasEvidence m found amount))
  pub root : IsSaidAtRoot m found.root
  pub uncoupled : found.root ≡ Uncoupled ↔ IsUncoupled m
  pub uses : UsesRoot found found.root
  pub apart : IsNoLessThanApart m found.certificate.claim
  pub complete : DecidesSmall m w.budget w.limits stopping found.certificate.claim
  pub version : IsVersionOf m w.newest (shape_of found.certificate)

-- over ranges that were given; and all of the above where they are the whole ones
pub record IsAnswerWithin (m : Problem) (ranges : Ranges) (w : Wanted) (stopping : Bool) (found : Found) : Type 0 where
  pub proved : IsProvedWithin m ranges found
  pub plan : IfSome found.plan (IsGoodWithin m ranges)
  pub within : found.nodes ≤ w.budget
  pub kept : KeepsFirst m w.first found.plan
  pub goes : GoesTogether m found.certificate.claim found.plan
  pub cause : IfBound found.certificate.claim (λ amount. WithRows m found (IsUndecidedWithin m ranges w.budget w.limits stopping found))
  pub evidence : IfBound found.certificate.claim (λ amount. WithRows m found (HasEvidenceWithin m ranges found amount))
  pub root : IsSaidAtRoot m found.root
  pub uncoupled : found.root ≡ Uncoupled ↔ IsUncoupled m
  pub apart : IsNoLessThanApart m found.certificate.claim
  pub version : IsVersionOf m w.newest (shape_of found.certificate)
  pub whole : IsWhole m ranges → IsAnswer m w stopping found
