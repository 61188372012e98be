-- Without groups a leaf over reduced costs says what linear duality or Farkas' lemma says of its parts.
use Rattle.std.proofs.Common.{◌≡◌, ⊎_elim, inr, ℕ, refl, sym, subst, arith, List, [], ◌∷◌}
use Rattle.std.specs.Prelude.{ℤ, pos, negsuc, ◌*ℤ◌, ◌≤ℤ◌, ◌<ℤ◌, unsigned_abs}
use Rattle.std.specs.List.{All}
use Rattle.std.proofs.lemmas.List.Elements.{All-nil}
use Rattle.algebra.proofs.Integers.{add_zero}
use Rattle.algebra.proofs.Order.{linear}
use Rattle.lot_sizing.specs.Problem.{Problem}
use Rattle.lot_sizing.specs.Plan.{EachCell, Table}
use Rattle.lot_sizing.specs.Totals.{IsRanking}
use Rattle.lin_rows.specs.declared.column.Column.{Column}
use Rattle.lin_rows.specs.Columns.{IsColumn, column_cost}
use Rattle.late_starts.specs.Charges.{ChargesExist, NoShareIsCharged}
use Rattle.reduced_groups.specs.Groups.{Known}
use Rattle.reduced_groups.specs.Numbers.{AreNumbersOf, sum_of}
use Rattle.reduced_groups.specs.Apart.{AreApart, AreCharged, IsGroupOf, share_in}
use Rattle.reduced_groups.specs.Floors.{IsWithinWork}
use Rattle.reduced_groups.specs.Rows.{reduced_cost}
use Rattle.reduced_leaf.specs.Laws.{KnownExists}
use Rattle.cert_lines.specs.declared.parts.Part.{Part}
use Rattle.cert_lines.specs.Shapes.{ListShape}
use Rattle.cert_meaning.specs.Named.{Named}
use Rattle.cert_meaning.specs.Parts.{rows_of, sum_of_column, sum_of_right, times_of}
use Rattle.cert_meaning.specs.Lists.{HasEach, all_parts}
use Rattle.cert_meaning.specs.Says.{IsFarkas, IsLinear, IsRanked, IsReducedBound, IsReducedRefuted, IsRoundedUp, IsSumOf}

-- a number of at least 0
natural_is : (z : ℤ) → pos 0 ≤ℤ z → z ≡ pos (unsigned_abs z)
natural_is (pos k) some = refl
natural_is (negsuc k) some = absurd (omega (arith, linear, some))

-- no groups have no numbers
none_is : (known : Known) (n : Named) (price : Column → ℕ) (amounts : List ℕ) → AreNumbersOf n.problem known price [] amounts → sum_of amounts ≡ 0
none_is known n price [] are = refl
none_is known n price (a ∷ amounts) are = absurd are

-- the sum of no groups is the right side, and no reduced cost is below 0
sum_is : (n : Named) (den : ℕ) (parts : List Part) (sum : ℤ) → IsSumOf n den parts [] sum → sum ≡ sum_of_right n parts
sum_is n den parts sum is =
    let by = is.groups in
    omega (arith, linear, is.sum_is, none_is by.known n by.price is.amounts is.numbers)

within_costs : (n : Named) (den : ℕ) (parts : List Part) (sum : ℤ) → IsSumOf n den parts [] sum → (c : Column) → IsColumn n.problem c → sum_of_column n parts c ≤ℤ (pos den *ℤ pos (column_cost n.problem c))
within_costs n den parts sum is c has = omega (arith, linear, is.groups.reduced c has)

-- what is known of problems: what must have been started of them, and what shares charge
pub record AreLaws : Type 0 where
  pub known : KnownExists
  pub charges : ChargesExist
  pub none : NoShareIsCharged

-- no groups lie apart: they have no shares, so that nothing is charged
none_charged : AreLaws → (m : Problem) (rank : ℕ → ℕ) (known : Known) (price : Column → ℕ) → IsRanking m rank → AreCharged m known price []
none_charged laws m rank known price ranks =
    let share : Table = share_in [] in
    let (charge, charges) = laws.charges m rank known.on_time share ranks in
    let no_share : EachCell m (λ i t. share i t ≡ 0) = λ i t low high t_low t_high. refl in
    let nothing : EachCell m (λ i t. charge i t ≡ 0) = laws.none m rank known.on_time share charge ranks no_share charges in
    record { charge = charge; charges = charges; within = λ i t is. omega (arith, nothing i t (is.0).0 (is.0).1 (is.0).2 (is.0).3) }

none_apart : AreLaws → (m : Problem) (rank : ℕ → ℕ) (known : Known) (price : Column → ℕ) → IsRanking m rank → AreApart m known price []
none_apart laws m rank known price ranks = record {
  lie = record { groups = All-nil (IsGroupOf m); once = λ i. omega arith };
  charged = none_charged laws m rank known price ranks;
}

-- and where none is, the right side is a sum
plain_sum : AreLaws → (n : Named) (den : ℕ) (parts : List Part) → IsRanked n.problem n.total → ((c : Column) → IsColumn n.problem c → sum_of_column n parts c ≤ℤ (pos den *ℤ pos (column_cost n.problem c))) → IsSumOf n den parts [] (sum_of_right n parts)
plain_sum laws n den parts ranked within =
    let m = n.problem in
    let (known, are) = laws.known m ranked.rank n.total ranked.ranks ranked.totals in
    let price = λ (c : Column). unsigned_abs (reduced_cost m (rows_of n parts) (times_of parts) den c) in
    record {
      groups = record {
        known = known;
        is_known = are;
        price = price;
        reduced = λ c has. natural_is (reduced_cost m (rows_of n parts) (times_of parts) den c) (omega (arith, linear, within c has));
        apart = none_apart laws m ranked.rank known price ranked.ranks;
        within = All-nil (IsWithinWork m known.start known.on_time price);
      };
      amounts = [];
      numbers = tt;
      sum_is = sym (add_zero (sum_of_right n parts));
    }

module _ (laws : AreLaws) (n : Named) (parts : List Part) (lists : List ListShape) (ranked : IsRanked n.problem n.total) (each : All (HasEach n) lists) where
  pub bound_linear : (den bound : ℕ) → IsReducedBound n den parts lists [] bound → IsLinear n (pos den) (all_parts parts lists) bound
  bound_linear den bound is =
      let all = all_parts parts lists in
      record {
        positive = omega (arith, linear, is.positive);
        parts_exist = is.listed.parts_exist;
        columns = within_costs n den all is.sum is.adds;
        right = subst (λ sum. IsRoundedUp (pos den) sum bound) (sum_is n den all is.sum is.adds) is.right;
      }

  pub linear_bound : (den bound : ℕ) → IsLinear n (pos den) (all_parts parts lists) bound → IsReducedBound n den parts lists [] bound
  linear_bound den bound is =
      let all = all_parts parts lists in
      record {
        ranked = ranked;
        listed = record { parts_exist = is.parts_exist; each = each };
        positive = omega (arith, linear, is.positive);
        sum = sum_of_right n all;
        adds = plain_sum laws n den all ranked is.columns;
        right = is.right;
      }

  pub refuted_farkas : IsReducedRefuted n 0 parts lists [] → IsFarkas n (all_parts parts lists)
  refuted_farkas is =
      let all = all_parts parts lists in
      ⊎_elim
      (λ lacks. absurd lacks.lacks)
      (λ has.
      let (none, sum, adds, more) = has in
      record {
        parts_exist = is.listed.parts_exist;
        columns = λ c has. omega (arith, linear, within_costs n 0 all sum adds c has);
        right = subst (λ z. pos 0 <ℤ z) (sum_is n 0 all sum adds) more;
      })
      is.refuted

  pub farkas_refuted : IsFarkas n (all_parts parts lists) → IsReducedRefuted n 0 parts lists []
  farkas_refuted is =
      let all = all_parts parts lists in
      record {
        ranked = ranked;
        listed = record { parts_exist = is.parts_exist; each = each };
        refuted = inr (refl, sum_of_right n all, plain_sum laws n 0 all ranked (λ c has. omega (arith, linear, is.columns c has)), is.right);
      }
