-- The item apart as a program has it, and the block cut of its potentials.
use Rattle.std.proofs.Common.{◌≡◌, ◌≤◌, ◌+◌, ◌-◌, ◌*◌, ◌∙◌, ⊎_elim, ℕ, zero, suc, sym, ap, subst, arith, List, length}
use Rattle.std.specs.Prelude.{if◌then◌else◌, Option, Some, None, IfSome, pos, unsigned_abs}
use Rattle.std.proofs.lemmas.Bool.{cases_lt}
use Rattle.std.proofs.lemmas.List.{get_or_past}
use Rattle.std.proofs.Math.Nat.{mul-le-mul_left, mul-le-mul_right}
use Rattle.lot_sizing.specs.Sums.{sum_to}
use Rattle.lot_sizing.specs.Problem.{AllAtMost, IsSeries, Problem, entry, item_at}
use Rattle.lot_sizing.specs.Bill.{AreWeights, bill_of}
use Rattle.lot_sizing.specs.Net.{Asked, left_after, net_in}
use Rattle.lot_sizing.specs.Single.{IsLeastNetCost, IsWithinBounds, Single, net_demand, period_count, position_count, potential}
use Rattle.lot_sizing.specs.declared.limits.TheConstants.{MAX_AMOUNT, MAX_PERIODS}
use Rattle.lot_sizing.proofs.Sums.{sum_to-bound, sum_to-same}
use Rattle.echelon.specs.declared.net.EchelonItem.{EchelonItem}
use Rattle.echelon.specs.declared.net.TheConstants.{MAX_ASKED}
use Rattle.echelon.specs.declared.single.Blocks.{Blocks}
use Rattle.echelon.specs.Views.{HasEach, asked_of_echelon, list_to}
use Rattle.echelon.proofs.Singles.{list_each, same_numbers}
use Rattle.lin_rows.specs.declared.prices.Potentials.{Potentials}
use Rattle.lin_rows.specs.Rows.{LinRow}
use Rattle.wagner_whitin.specs.Solution.{IsSolution}
use Rattle.valid_inequalities.specs.Inequalities.{left_cost}
use Rattle.echelon_rows.specs.Rows.{Echelon, echelon_in, priced}
use Rattle.echelon_rows.specs.declared.limits.TheConstants.{MAX_PRICE, MAX_STEP}
use Rattle.backlog_dp.specs.BlockRow.{IsAllowed, block_right, block_row_of, priced_by}
use Rattle.backlog_dp.specs.Laws.{SolutionsAreAllowed}
use Rattle.cert_lines.specs.Shapes.{block_lists}
use Rattle.cert_meaning.specs.CutRows.{echelon_at}
use Rattle.cert_meaning.specs.Laws.{EchelonRowsAreOne}
use Rattle.cert_checker.specs.Cuts.{HasItsColumns, HoldsAlways, IsBlockForm}
use Rattle.item_bound.specs.Apart.{CostsApart, apart_single, held_apart, left_apart, owed_apart}
use Rattle.item_bound.specs.Steps.{IsOwnCut, IsOwnEchelon, most_apart, own_single}
use Rattle.item_bound.proofs.Echelons.{block_is}

-- ---- the item by itself
-- a list with the net demand of each period is the list of these
pub net_list : (e : EchelonItem) (net : List ℕ) → HasEach (length e.demand.items) (net_in (asked_of_echelon e)) net → net ≡ list_to (length e.demand.items) (net_in (asked_of_echelon e))
net_list e net has = same_numbers (length e.demand.items) (net_in (asked_of_echelon e)) net (list_to (length e.demand.items) (net_in (asked_of_echelon e))) has (list_each (net_in (asked_of_echelon e)) (length e.demand.items))

abbrev made : List ℕ → List ℕ → List ℕ → List ℕ → Option (List ℕ) → Single
made net setup unit hold back = record { net = net; setup = setup; unit = unit; hold = hold; back = back }

pub single_is : (E : Echelon) (net setup unit hold : List ℕ) (back : Option (List ℕ)) (A B H O : List ℕ) → net ≡ list_to E.asked.periods (net_in E.asked) → setup ≡ A → unit ≡ B → hold ≡ H → back ≡ (if E.owing then Some O else None) → made net setup unit hold back ≡ priced E A B H O
single_is E net setup unit hold back A B H O nets setups units holds backs =
    let N = list_to E.asked.periods (net_in E.asked) in
    ap (λ xs. made xs setup unit hold back) nets
    ∙ ap (λ xs. made N xs unit hold back) setups
    ∙ ap (λ xs. made N A xs hold back) units
    ∙ ap (λ xs. made N A B xs back) holds
    ∙ ap (made N A B H) backs

-- the lists of the item apart, before its potentials are known
pub record AreOwnLists (m : Problem) (i : ℕ) (setup unit hold back : List ℕ) : Type 0 where
  pub setup_is : setup ≡ (item_at m i).setup_cost
  pub unit_is : unit ≡ (item_at m i).unit_cost
  pub hold_is : hold ≡ held_apart m i
  pub back_is : back ≡ owed_apart m i
  pub setups : IsSeries m.periods MAX_AMOUNT setup
  pub units : IsSeries m.periods MAX_AMOUNT unit
  pub holds : IsSeries m.periods MAX_AMOUNT hold
  pub backs : IsSeries m.periods MAX_AMOUNT back

pub own_within : (m : Problem) (i : ℕ) (e : EchelonItem) (s : Single) → IsOwnEchelon m i e → HasEach (length e.demand.items) (net_in (asked_of_echelon e)) s.net → IsSeries m.periods MAX_AMOUNT s.setup → IsSeries m.periods MAX_AMOUNT s.unit → IsSeries m.periods MAX_AMOUNT s.hold → IfSome s.back (IsSeries m.periods MAX_AMOUNT) → IsWithinBounds s
own_within m i e s own has setup unit hold back =
    let size : m.periods ≡ period_count s = sym (has.size ∙ (own.echelon.of_item own.echelon.own.0 own.echelon.own.1).echelon.demand.size) in
    let f = net_in (asked_of_echelon e) in
    record {
      periods = omega (arith, has.size, own.echelon.within.periods);
      setup = subst (λ n. IsSeries n MAX_AMOUNT s.setup) size setup;
      unit = subst (λ n. IsSeries n MAX_AMOUNT s.unit) size unit;
      hold = subst (λ n. IsSeries n MAX_AMOUNT s.hold) size hold;
      back = subst (λ n. IfSome s.back (IsSeries n MAX_AMOUNT)) size back;
      net = omega (arith, ap (λ n. sum_to n (net_demand s)) has.size, sum_to-same (length e.demand.items) (net_demand s) f has.each, own.net);
    }

pub own_lists : (m : Problem) (i : ℕ) (e : EchelonItem) (s : Single) (back : List ℕ) → IsOwnEchelon m i e → s ≡ own_single m i e → IsWithinBounds s → back ≡ owed_apart m i → IsSeries m.periods MAX_AMOUNT back → AreOwnLists m i s.setup s.unit s.hold back
own_lists m i e s back own single within back_is backs =
    let nets = (list_each (net_in (asked_of_echelon e)) (length e.demand.items)).size in
    let size : period_count s ≡ m.periods = ap period_count single ∙ nets ∙ (own.echelon.of_item own.echelon.own.0 own.echelon.own.1).echelon.demand.size in
    record {
      setup_is = ap (λ (x : Single). x.setup) single;
      unit_is = ap (λ (x : Single). x.unit) single;
      hold_is = ap (λ (x : Single). x.hold) single;
      back_is = back_is;
      setups = subst (λ n. IsSeries n MAX_AMOUNT s.setup) size within.setup;
      units = subst (λ n. IsSeries n MAX_AMOUNT s.unit) size within.unit;
      holds = subst (λ n. IsSeries n MAX_AMOUNT s.hold) size within.hold;
      backs = backs;
    }

-- ---- the potentials make a row
pub larger : (low high : ℕ) (xs : List ℕ) → low ≤ high → AllAtMost low xs → AllAtMost high xs
larger low high xs h all = λ k d less. omega (arith, all k d less, h)

price_series : (T : ℕ) (xs : List ℕ) → IsSeries T MAX_AMOUNT xs → IsSeries T MAX_PRICE xs
price_series T xs is = record { size = is.size; small = larger MAX_AMOUNT MAX_PRICE xs (omega arith) is.small }

-- ---- what is left is small
entry_small : (most t : ℕ) (xs : List ℕ) → AllAtMost most xs → entry xs t ≤ most
entry_small most t xs is =
    ⊎_elim
    (λ inside. is (t - 1) 0 inside)
    (λ past. omega (arith, get_or_past xs (t - 1) 0 past))
    (cases_lt (t - 1) (length xs))

left_few : (a : Asked) (t most : ℕ) → a.opening + a.end_min ≤ most → left_after a t ≤ most
left_few a t most few = grind (arith, few)

product_most : (a b most wide : ℕ) → a ≤ most → b ≤ wide → a * b ≤ most * wide
product_most a b most wide x y = omega (arith, mul-le-mul_left a y, mul-le-mul_right wide x)

left_small : (e : EchelonItem) (s : Single) → length e.demand.items ≤ MAX_PERIODS → e.opening + e.end_min ≤ MAX_ASKED → AllAtMost MAX_AMOUNT s.hold → left_cost (asked_of_echelon e) s ≤ MAX_PERIODS * (MAX_AMOUNT * MAX_ASKED)
left_small e s few asked hold =
    let T = length e.demand.items in
    let bound = sum_to-bound T (MAX_AMOUNT * MAX_ASKED) (λ t. entry s.hold t * left_after (asked_of_echelon e) t) (λ t low high. product_most (entry s.hold t) (left_after (asked_of_echelon e) t) MAX_AMOUNT MAX_ASKED (entry_small MAX_AMOUNT t s.hold hold) (left_few (asked_of_echelon e) t MAX_ASKED asked)) in
    omega (arith, bound, few)

potential_small : (steps : List ℕ) (k : ℕ) → AllAtMost MAX_STEP steps → potential steps k ≤ MAX_STEP
potential_small steps zero are = omega arith
potential_small steps (suc k) are = entry_small MAX_STEP (suc k) steps are

-- ---- the cut
module _ (m : Problem) (i : ℕ) (e : EchelonItem) (own : IsOwnEchelon m i e) (p : Potentials) (lists : AreOwnLists m i p.setup.items p.unit.items p.hold.items p.back.items) (s : Single) (single : s ≡ own_single m i e) (found : Blocks) (solves : IsSolution s found) (steps : p.steps.items ≡ found.potentials.items) where
  periods : m.periods ≡ length e.demand.items
  periods = sym (own.echelon.of_item own.echelon.own.0 own.echelon.own.1).echelon.demand.size

  -- by any echelon the prices are the item's own
  same_prices : (E : Echelon) → priced E p.setup.items p.unit.items p.hold.items p.back.items ≡ priced E (item_at m i).setup_cost (item_at m i).unit_cost (held_apart m i) (owed_apart m i)
  same_prices E =
      let A = (item_at m i).setup_cost in
      let B = (item_at m i).unit_cost in
      ap (λ xs. priced E xs p.unit.items p.hold.items p.back.items) lists.setup_is
      ∙ ap (λ xs. priced E A xs p.hold.items p.back.items) lists.unit_is
      ∙ ap (λ xs. priced E A B xs p.back.items) lists.hold_is
      ∙ ap (λ xs. priced E A B (held_apart m i) xs) lists.back_is

  solves_here : IsSolution (priced_by (echelon_in e) p) found
  solves_here = subst (λ x. IsSolution x found) (single ∙ sym (same_prices (echelon_in e))) solves

  pub own_allowed : SolutionsAreAllowed → IsAllowed (echelon_in e) p
  own_allowed law =
      law (echelon_in e) p found
      (record { setup = lists.setups.size ∙ periods; unit = lists.units.size ∙ periods; hold = lists.holds.size ∙ periods; back = lists.backs.size ∙ periods })
      (record { setup = larger MAX_AMOUNT MAX_PRICE p.setup.items (omega arith) lists.setups.small; unit = larger MAX_AMOUNT MAX_PRICE p.unit.items (omega arith) lists.units.small; hold = larger MAX_AMOUNT MAX_PRICE p.hold.items (omega arith) lists.holds.small; back = larger MAX_AMOUNT MAX_PRICE p.back.items (omega arith) lists.backs.small })
      solves_here
      steps

  module _ (one : EchelonRowsAreOne) (row : LinRow) (allowed : IsAllowed (echelon_in e) p) (is : row ≡ block_row_of (echelon_in e) p) where
    form : IsBlockForm m i (block_lists p)
    form = record {
      item_exists = own.item;
      setup = price_series m.periods p.setup.items lists.setups;
      prices = record { unit = price_series m.periods p.unit.items lists.units; hold = price_series m.periods p.hold.items lists.holds; back = price_series m.periods p.back.items lists.backs };
      steps = allowed.small.steps;
    }

    right_here : row.right ≡ pos (block_right (echelon_in e) p)
    right_here = ap (λ (r : LinRow). r.right) is

    right_small : block_right (echelon_in e) p ≤ most_apart
    right_small = omega (
      arith,
      potential_small p.steps.items (position_count (priced_by (echelon_in e) p)) allowed.small.steps,
      left_small e (priced_by (echelon_in e) p) own.echelon.within.periods (omega (arith, own.echelon.within.asked)) lists.holds.small,
    )

    module _ (weight : ℕ → ℕ → ℕ) (are : AreWeights (bill_of m) weight) where
      rows_same : row ≡ block_row_of (echelon_at m weight i) p
      rows_same = is ∙ (one m weight i e (own.echelon.of_item weight are).echelon).2 p.setup.items p.unit.items p.hold.items p.back.items p.steps.items

      -- the item apart, by these weights
      apart_is : s ≡ apart_single m weight i
      apart_is = single ∙ (one m weight i e (own.echelon.of_item weight are).echelon).3 (item_at m i).setup_cost (item_at m i).unit_cost (held_apart m i) (owed_apart m i)

      right_is : row.right ≡ pos (potential p.steps.items (position_count (apart_single m weight i)) + left_apart m weight i)
      right_is =
          let F = echelon_at m weight i in
          ap (λ (r : LinRow). r.right) rows_same
          ∙ ap (λ (x : Single). pos (potential p.steps.items (position_count x) + left_cost F.asked x)) (same_prices F)

      costs : CostsApart m weight i (unsigned_abs row.right)
      costs =
          let A = apart_single m weight i in
          let last : potential p.steps.items (position_count s) ≡ found.cost = ap (λ g. potential g (position_count s)) steps ∙ solves.last in
          record {
            plan_cost = potential p.steps.items (position_count A);
            least = subst (λ x. IsLeastNetCost x (potential p.steps.items (position_count x))) apart_is (subst (IsLeastNetCost s) (sym last) solves.least);
            sum = ap unsigned_abs right_is;
          }

    pub is_own_cut : HoldsAlways m row → HasItsColumns m row → IsOwnCut m i p row
    is_own_cut holds columns = record {
      setup = lists.setup_is;
      unit = lists.unit_is;
      hold = lists.hold_is;
      back = lists.back_is;
      held = lists.holds;
      owed = lists.backs;
      row_is = block_is m i e own.echelon one p row form allowed is;
      holds = holds;
      columns_exist = columns;
      right = right_here ∙ ap pos (sym (ap unsigned_abs right_here));
      small = omega (arith, ap unsigned_abs right_here, right_small);
      costs = λ weight are. costs weight are;
    }
