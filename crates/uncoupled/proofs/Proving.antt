-- A certificate of one of the two shapes proves what it claims.
use Rattle.std.proofs.Common.{◌≡◌, ◌<◌, ◌^◌, ℕ, refl, sym, ap, subst}
use Rattle.std.specs.Prelude.{Some, None}
use Rattle.lot_sizing.specs.Problem.{IsUncoupled, IsWithinLimits, Problem}
use Rattle.lot_sizing.specs.Laws.{PlansHaveRoom}
use Rattle.plan_rules.specs.Held.{plan_of}
use Rattle.cert_lines.specs.declared.parts.Claim.TheVariants.{Optimal}
use Rattle.certificate.specs.declared.tree.Certificate.{Certificate}
use Rattle.certificate.specs.Counts.{node_count}
use Rattle.certificate.specs.Limits.{IsWritable}
use Rattle.certificate.specs.Shapes.{Shape, shape_of}
use Rattle.cert_meaning.specs.Accepts.{IsTrueOf}
use Rattle.uncoupled.specs.declared.planning.ItemPlans.{ItemPlans}
use Rattle.uncoupled.specs.Items.{AreBestPlans, HasNoRoom}
use Rattle.cert_checker.specs.Checks.{ComesWith, IsGoodCertificate, line_count}
use Rattle.search_result.specs.declared.found.Found.{Found}
use Rattle.search_result.specs.declared.found.RootSays.TheVariants as root
use Rattle.uncoupled.specs.Blocks.{BlockLeavesAreCertified, blocks_shape}
use Rattle.search_result.specs.Found.{GoesWithPlan, IsDecidedAlone, IsProved}
use Rattle.uncoupled.specs.NoRoom.{NoRoomIsCertified, no_room_shape}
use Rattle.uncoupled.proofs.Lengths.{blocks_text, no_room_text}

-- ---- a best plan
abbrev pub with_plans : ItemPlans → Certificate → Found
with_plans plans made = record { certificate = made; plan = Some plans.plan; root = root.Uncoupled; nodes = 1 }

pub best_proved : (m : Problem) (plans : ItemPlans) (made : Certificate) → BlockLeavesAreCertified → IsUncoupled m → IsWithinLimits m → AreBestPlans m plans → shape_of made ≡ blocks_shape plans.cost plans.potentials.items → IsProved m (with_plans plans made)
best_proved m plans made law apart limits best is =
    let list = plans.potentials.items in
    let given = Some plans.plan in
    let text = blocks_text m plans.cost list limits best.small best.one_each best.prove in
    let comes : ComesWith m (Optimal plans.cost) given = (best.fits, best.best.feasible, sym best.costs) in
    let good : IsGoodCertificate m (blocks_shape plans.cost list) given =
    λ total weight totals weights. law m total weight list plans.cost plans.plan apart limits totals weights best.one_each best.prove best.floors best.small comes in
    record {
      writable = subst IsWritable (sym is) text.writable;
      lines = subst (λ (s : Shape). line_count s < 2 ^ 63) (sym is) text.lines;
      certified = subst (λ (s : Shape). IsGoodCertificate m s given) (sym is) good;
      claim = subst (λ (s : Shape). IsTrueOf m s.claim (Some (plan_of plans.plan))) (sym is) (plan_of plans.plan, refl, best.best, sym best.costs);
      nodes = sym (ap (λ (s : Shape). node_count s.tree) is);
    }

pub best_decided : (plans : ItemPlans) (made : Certificate) → shape_of made ≡ blocks_shape plans.cost plans.potentials.items → IsDecidedAlone (with_plans plans made)
best_decided plans made is = record {
  decided = subst (λ (s : Shape). GoesWithPlan s.claim (Some plans.plan)) (sym is) refl;
  root = refl;
  alone = refl;
  version = ap (λ (s : Shape). s.version) is;
}

-- ---- no plan
abbrev pub without_plan : Certificate → Found
without_plan made = record { certificate = made; plan = None; root = root.Uncoupled; nodes = 1 }

pub none_proved : (m : Problem) (i : ℕ) (made : Certificate) → NoRoomIsCertified → PlansHaveRoom → IsUncoupled m → IsWithinLimits m → HasNoRoom m i → shape_of made ≡ no_room_shape m i → IsProved m (without_plan made)
none_proved m i made law rooms apart limits none is =
    let text = no_room_text m i limits none.high in
    let good : IsGoodCertificate m (no_room_shape m i) None = λ total weight totals weights. law m total weight i limits apart none in
    record {
      writable = subst IsWritable (sym is) text.writable;
      lines = subst (λ (s : Shape). line_count s < 2 ^ 63) (sym is) text.lines;
      certified = subst (λ (s : Shape). IsGoodCertificate m s None) (sym is) good;
      claim = subst (λ (s : Shape). IsTrueOf m s.claim None) (sym is) (λ p feasible. none.no_room (rooms m p apart limits.some_period feasible i none.low none.high));
      nodes = sym (ap (λ (s : Shape). node_count s.tree) is);
    }

pub none_decided : (m : Problem) (i : ℕ) (made : Certificate) → shape_of made ≡ no_room_shape m i → IsDecidedAlone (without_plan made)
none_decided m i made is = record {
  decided = subst (λ (s : Shape). GoesWithPlan s.claim None) (sym is) refl;
  root = refl;
  alone = refl;
  version = ap (λ (s : Shape). s.version) is;
}
