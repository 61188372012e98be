-- The certificate of a plan that is made item by item is accepted: block cuts of all items, and one leaf which takes each once.
use Rattle.std.proofs.Common.{◌≡◌, ◌≤◌, ◌<◌, ◌+◌, ◌-◌, ◌^◌, ◌∙◌, ⊎_elim, ℕ, zero, suc, refl, sym, ap, subst, arith, List, [], ◌∷◌, ◌++◌, append_assoc, length, slice_index_or}
use Rattle.std.specs.Prelude.{Some, ℤ, pos}
use Rattle.std.proofs.lemmas.Bool.{cases_eq}
use Rattle.std.proofs.lemmas.List.Elements.{All-cons, All-nil}
use Rattle.std.proofs.Math.Seq.{get_or-append_seam}
use Rattle.algebra.proofs.Order.{linear}
use Rattle.lot_sizing.specs.Problem.{IsSeries, IsUncoupled, IsWithinLimits, Problem, item_at, item_count}
use Rattle.lot_sizing.specs.Bill.{AreWeights, bill_of}
use Rattle.lot_sizing.specs.Single.{ArePotentials}
use Rattle.lot_sizing.specs.Totals.{AreLargestTotals}
use Rattle.lot_sizing.specs.declared.limits.TheConstants.{MAX_AMOUNT}
use Rattle.plan_rules.specs.declared.plan.Plan.{Plan}
use Rattle.plan_rules.specs.Held.{plan_of}
use Rattle.lin_rows.specs.declared.base.RowName.TheVariants.{Cut}
use Rattle.lin_rows.specs.declared.column.Column.{Column}
use Rattle.lin_rows.specs.declared.prices.Potentials.{Potentials}
use Rattle.lin_rows.specs.Columns.{column_cost}
use Rattle.lin_rows.specs.Combining.{column_sum, right_sum}
use Rattle.lin_rows.specs.Rows.{LinRow}
use Rattle.lin_rows.specs.Sums.{coefficient, item_of}
use Rattle.round_cuts.specs.Rounding.{column_amount, right_amount}
use Rattle.echelon_rows.specs.declared.limits.TheConstants.{MAX_PRICE}
use Rattle.backlog_dp.specs.BlockRow.{block_row_of}
use Rattle.cert_lines.specs.declared.parts.Claim.TheVariants.{Optimal}
use Rattle.cert_lines.specs.declared.parts.Part.{Part}
use Rattle.cert_lines.specs.Shapes.{block_lists}
use Rattle.cert_trees.specs.Laws.{PlansAreWithin}
use Rattle.cert_trees.specs.Ranges.{whole_ranges}
use Rattle.cert_meaning.specs.declared.says.LeafSays.TheVariants.{AtLeast}
use Rattle.cert_meaning.specs.Accepts.{AreSmallCuts, GoesWith}
use Rattle.cert_meaning.specs.CutRows.{AreCutRows, IsBlockCut, echelon_at}
use Rattle.cert_meaning.specs.Named.{Named, names, no_row}
use Rattle.cert_meaning.specs.Parts.{AreParts, AreSmall, IsPart, rows_of, times_of}
use Rattle.cert_meaning.specs.Says.{IsLinear}
use Rattle.cert_checker.specs.Checks.{ComesWith, IsCertified}
use Rattle.item_bound.proofs.Own.{larger}
use Rattle.item_bound.proofs.Says.{once_more, amount_more, pushed_count, at_most_cost, rounded_up}
use Rattle.uncoupled.specs.Items.{ProveFrom, floors_from, item_floor}
use Rattle.uncoupled.specs.Blocks.{EchelonsAreItems, block_cuts, block_rows, blocks_shape, each_once}
use Rattle.uncoupled.proofs.Alone.{any_ranks, priced_is, right_is}
use Rattle.uncoupled.proofs.Taken.{IsOwnCut, TakesOwn, takes_own}

-- lists that prove the items of an uncoupled problem from this one on; there is one of each
pub record ProveItems (m : Problem) (weight : ℕ → ℕ → ℕ) (i : ℕ) (list : List Potentials) : Type 0 where
  pub free : IsUncoupled m
  pub within : IsWithinLimits m
  pub weights : AreWeights (bill_of m) weight
  pub low : 1 ≤ i
  pub count : i + length list ≡ item_count m + 1
  pub prove : ProveFrom m i list

first_of : EchelonsAreItems → (m : Problem) (weight : ℕ → ℕ → ℕ) (i : ℕ) (p : Potentials) (rest : List Potentials) → ProveItems m weight i (p ∷ rest) → IsOwnCut m weight i p
first_of echelons m weight i p rest all =
    let high : i ≤ item_count m = omega (arith, all.count) in
    record { low = all.low; high = high; its = echelons m weight i all.free all.weights all.low high; proves = all.prove.0 }

rest_of : (m : Problem) (weight : ℕ → ℕ → ℕ) (i : ℕ) (p : Potentials) (rest : List Potentials) → ProveItems m weight i (p ∷ rest) → ProveItems m weight (suc i) rest
rest_of m weight i p rest all = record { free = all.free; within = all.within; weights = all.weights; low = omega arith; count = omega (arith, all.count); prove = all.prove.1 }

priced_within : (T : ℕ) (xs ys : List ℕ) → xs ≡ ys → IsSeries T MAX_AMOUNT ys → IsSeries T MAX_PRICE xs
priced_within T xs ys same is = subst (IsSeries T MAX_PRICE) (sym same) (record { size = is.size; small = larger MAX_AMOUNT MAX_PRICE ys (omega arith) is.small })

is_block_cut : (m : Problem) (weight : ℕ → ℕ → ℕ) (i : ℕ) (p : Potentials) → IsWithinLimits m → IsOwnCut m weight i p → IsBlockCut m weight i (block_lists p)
is_block_cut m weight i p within is =
    let lists = (within.each_item i is.low is.high).lists in
    let proves = is.proves in
    record {
      echelon = record { low = is.low; high = is.high; lead_free = is.its.lead_free };
      setup = priced_within m.periods p.setup.items (item_at m i).setup_cost proves.setup lists.setup_cost;
      prices = record {
        unit = priced_within m.periods p.unit.items (item_at m i).unit_cost proves.unit lists.unit_cost;
        hold = priced_within m.periods p.hold.items (item_at m i).hold_cost proves.hold lists.hold_cost;
        back = priced_within m.periods p.back.items p.back.items refl proves.backs;
      };
      steps = proves.steps;
      potentials = subst (λ s. ArePotentials s p.steps.items) (sym (priced_is m weight i p is.its proves)) proves.potentials;
    }

are_cut_rows : EchelonsAreItems → (m : Problem) (total : ℕ → ℕ) (weight : ℕ → ℕ → ℕ) (earlier : List LinRow) (i : ℕ) (list : List Potentials) → ProveItems m weight i list → AreCutRows m total weight earlier (block_cuts i list) (block_rows m weight i list)
are_cut_rows echelons m total weight earlier i [] all = tt
are_cut_rows echelons m total weight earlier i (p ∷ rest) all =
    ((is_block_cut m weight i p all.within (first_of echelons m weight i p rest all), refl), are_cut_rows echelons m total weight (earlier ++ (block_row_of (echelon_at m weight i) p ∷ [])) (suc i) rest (rest_of m weight i p rest all))

are_small_cuts : (m : Problem) (total : ℕ → ℕ) (weight : ℕ → ℕ → ℕ) (earlier : List LinRow) (i : ℕ) (list : List Potentials) → AreSmallCuts m total earlier (block_cuts i list) (block_rows m weight i list)
are_small_cuts m total weight earlier i [] = tt
are_small_cuts m total weight earlier i (p ∷ rest) = (tt, are_small_cuts m total weight (earlier ++ (block_row_of (echelon_at m weight i) p ∷ [])) (suc i) rest)

-- ---- the parts
rows_count : (m : Problem) (weight : ℕ → ℕ → ℕ) (i : ℕ) (list : List Potentials) → length (block_rows m weight i list) ≡ length list
rows_count m weight i [] = refl
rows_count m weight i (p ∷ rest) = ap suc (rows_count m weight (suc i) rest)

are_parts : (n : Named) (k count : ℕ) → 1 ≤ k → k + count ≤ length n.cuts + 1 → AreParts n (each_once k count)
are_parts n k zero low high = All-nil (IsPart n)
are_parts n k (suc count) low high =
    All-cons (IsPart n) (record { row = Cut k; times = pos 1 }) (each_once (suc k) count)
    (record { named = (low, omega (arith, high)); signed = λ _. omega (arith, linear) })
    (are_parts n (suc k) count (omega arith) (omega (arith, high)))

these_rows : (m : Problem) (total : ℕ → ℕ) (earlier rows : List LinRow) → rows_of (names m total (earlier ++ rows) []) (each_once (suc (length earlier)) (length rows)) ≡ rows
these_rows m total earlier [] = refl
these_rows m total earlier (r ∷ rows) =
    let place : suc (length earlier) - 1 ≡ length earlier = omega arith in
    let first : slice_index_or (earlier ++ (r ∷ rows)) (suc (length earlier) - 1) no_row ≡ r = ap (λ k. slice_index_or (earlier ++ (r ∷ rows)) k no_row) place ∙ get_or-append_seam earlier r rows no_row in
    let later : rows_of (names m total (earlier ++ (r ∷ rows)) []) (each_once (suc (suc (length earlier))) (length rows)) ≡ rows =
    ap (λ k. rows_of (names m total (earlier ++ (r ∷ rows)) []) (each_once (suc k) (length rows))) (sym (pushed_count earlier r))
    ∙ ap (λ cuts. rows_of (names m total cuts []) (each_once (suc (length (earlier ++ (r ∷ [])))) (length rows))) (sym (append_assoc earlier (r ∷ []) rows))
    ∙ these_rows m total (earlier ++ (r ∷ [])) rows in
    ap (λ x. x ∷ rows_of (names m total (earlier ++ (r ∷ rows)) []) (each_once (suc (suc (length earlier))) (length rows))) first ∙ ap (λ xs. r ∷ xs) later

all_rows : (m : Problem) (total : ℕ → ℕ) (weight : ℕ → ℕ → ℕ) (list : List Potentials) → rows_of (names m total (block_rows m weight 1 list) []) (each_once 1 (length list)) ≡ block_rows m weight 1 list
all_rows m total weight list =
    let rows = block_rows m weight 1 list in
    ap (λ n. rows_of (names m total rows []) (each_once 1 n)) (sym (rows_count m weight 1 list)) ∙ these_rows m total [] rows

-- rows that are each taken once take a column so many times, in sum and in absolute values: no more often than one of it costs, and never a column of an earlier item
record TakeOnce (m : Problem) (i : ℕ) (rows : List LinRow) (times : List ℤ) (d : Column) : Type 0 where
  all : ℕ
  sum : column_sum rows times d ≡ pos all
  amount : column_amount rows times d ≡ all
  cheap : all ≤ column_cost m d
  small : all ≤ MAX_AMOUNT
  later : item_of d < i → all ≡ 0

take_once : EchelonsAreItems → (m : Problem) (weight : ℕ → ℕ → ℕ) (i : ℕ) (list : List Potentials) (k : ℕ) → ProveItems m weight i list → (d : Column) → TakeOnce m i (block_rows m weight i list) (times_of (each_once k (length list))) d
take_once echelons m weight i [] k all d = record { all = 0; sum = refl; amount = refl; cheap = omega arith; small = omega arith; later = λ _. refl }
take_once echelons m weight i (p ∷ rest) k all d =
    let rows = block_rows m weight (suc i) rest in
    let times = times_of (each_once (suc k) (length rest)) in
    let here : TakesOwn m weight i p d = takes_own m weight i p all.within (first_of echelons m weight i p rest all) d in
    let others : TakeOnce m (suc i) rows times d = take_once echelons m weight (suc i) rest (suc k) (rest_of m weight i p rest all) d in
    let none : item_of d ≡ i → others.all ≡ 0 = λ same. others.later (omega (arith, same)) in
    record {
      all = here.times + others.all;
      sum = once_more here.times others.all (coefficient (block_row_of (echelon_at m weight i) p).terms d) (column_sum rows times d) here.is others.sum;
      amount = omega (arith, amount_more here.times (coefficient (block_row_of (echelon_at m weight i) p).terms d) here.is, others.amount);
      cheap = ⊎_elim (λ same. omega (arith, here.cheap, none same)) (λ apart. omega (arith, here.own apart, others.cheap)) (cases_eq (item_of d) i);
      small = ⊎_elim (λ same. omega (arith, here.small, none same)) (λ apart. omega (arith, here.own apart, others.small)) (cases_eq (item_of d) i);
      later = λ before. omega (arith, here.own (λ same. omega (arith, same, before)), others.later (omega (arith, before)));
    }

-- their right sides add to the floors of the items
record AddFloors (m : Problem) (i : ℕ) (list : List Potentials) (rows : List LinRow) (times : List ℤ) : Type 0 where
  sum : right_sum rows times ≡ pos (floors_from m i list)
  amount : right_amount rows times ≡ floors_from m i list

add_floors : EchelonsAreItems → (m : Problem) (weight : ℕ → ℕ → ℕ) (i : ℕ) (list : List Potentials) (k : ℕ) → ProveItems m weight i list → AddFloors m i list (block_rows m weight i list) (times_of (each_once k (length list)))
add_floors echelons m weight i [] k all = record { sum = refl; amount = refl }
add_floors echelons m weight i (p ∷ rest) k all =
    let rows = block_rows m weight (suc i) rest in
    let times = times_of (each_once (suc k) (length rest)) in
    let cut = first_of echelons m weight i p rest all in
    let here : (block_row_of (echelon_at m weight i) p).right ≡ pos (item_floor m i p) = ap pos (right_is m weight i p cut.its cut.proves) in
    let others : AddFloors m (suc i) rest rows times = add_floors echelons m weight (suc i) rest (suc k) (rest_of m weight i p rest all) in
    record {
      sum = once_more (item_floor m i p) (floors_from m (suc i) rest) (block_row_of (echelon_at m weight i) p).right (right_sum rows times) here others.sum;
      amount = omega (arith, amount_more (item_floor m i p) (block_row_of (echelon_at m weight i) p).right here, others.amount);
    }

-- ---- the leaf
-- each row of the cuts is taken once
record IsOnce (n : Named) (rows : List LinRow) (parts : List Part) : Type 0 where
  are : AreParts n parts
  rows_are : rows_of n parts ≡ rows

once_of : (m : Problem) (total : ℕ → ℕ) (weight : ℕ → ℕ → ℕ) (list : List Potentials) → IsOnce (names m total (block_rows m weight 1 list) []) (block_rows m weight 1 list) (each_once 1 (length list))
once_of m total weight list = record {
  are = are_parts (names m total (block_rows m weight 1 list) []) 1 (length list) (omega arith) (omega (arith, rows_count m weight 1 list));
  rows_are = all_rows m total weight list;
}

says_amount : EchelonsAreItems → (m : Problem) (total : ℕ → ℕ) (weight : ℕ → ℕ → ℕ) (list : List Potentials) (amount : ℕ) → ProveItems m weight 1 list → amount ≡ floors_from m 1 list → IsLinear (names m total (block_rows m weight 1 list) []) (pos 1) (each_once 1 (length list)) amount
says_amount echelons m total weight list amount all adds =
    let rows = block_rows m weight 1 list in
    let parts = each_once 1 (length list) in
    let n = names m total rows [] in
    let once = once_of m total weight list in
    let right : right_sum (rows_of n parts) (times_of parts) ≡ pos amount = ap (λ rs. right_sum rs (times_of parts)) once.rows_are ∙ (add_floors echelons m weight 1 list 1 all).sum ∙ ap pos (sym adds) in
    record {
      positive = omega (arith, linear);
      parts_exist = once.are;
      columns = λ d is.
          let takes = take_once echelons m weight 1 list 1 all d in
          at_most_cost takes.all (column_cost m d) (column_sum (rows_of n parts) (times_of parts) d) (ap (λ rs. column_sum rs (times_of parts) d) once.rows_are ∙ takes.sum) takes.cheap;
      right = record {
        above = at_most_cost amount amount (right_sum (rows_of n parts) (times_of parts)) right (omega arith);
        least = λ k most. rounded_up amount k (right_sum (rows_of n parts) (times_of parts)) right most;
      };
    }

sums_small : EchelonsAreItems → (m : Problem) (total : ℕ → ℕ) (weight : ℕ → ℕ → ℕ) (list : List Potentials) (amount : ℕ) → ProveItems m weight 1 list → amount ≡ floors_from m 1 list → amount < 2 ^ 127 → AreSmall (names m total (block_rows m weight 1 list) []) (each_once 1 (length list))
sums_small echelons m total weight list amount all adds small =
    let parts = each_once 1 (length list) in
    let once = once_of m total weight list in
    record {
      columns = λ d.
          let takes = take_once echelons m weight 1 list 1 all d in
          omega (arith, ap (λ rs. column_amount rs (times_of parts) d) once.rows_are, takes.amount, takes.small);
      right = omega (arith, ap (λ rs. right_amount rs (times_of parts)) once.rows_are, (add_floors echelons m weight 1 list 1 all).amount, adds, small);
    }

-- ---- the certificate
goes_with : PlansAreWithin → (m : Problem) (total : ℕ → ℕ) (amount : ℕ) (plan : Plan) → IsUncoupled m → IsWithinLimits m → AreLargestTotals m total → ComesWith m (Optimal amount) (Some plan) → GoesWith m (whole_ranges total) (Optimal amount) (Some (plan_of plan))
goes_with plans m total amount plan free within totals comes =
    let rank : ℕ → ℕ = λ _. 0 in
    (plan_of plan, refl, comes.1, plans m rank total within.some_period (any_ranks m free rank) totals (plan_of plan) comes.1, comes.2)

pub certified : EchelonsAreItems → PlansAreWithin → (m : Problem) (total : ℕ → ℕ) (weight : ℕ → ℕ → ℕ) (list : List Potentials) (amount : ℕ) (plan : Plan) → IsUncoupled m → IsWithinLimits m → AreLargestTotals m total → AreWeights (bill_of m) weight → length list ≡ item_count m → ProveFrom m 1 list → amount ≡ floors_from m 1 list → amount < 2 ^ 127 → ComesWith m (Optimal amount) (Some plan) → IsCertified m total weight (blocks_shape amount list) (Some plan)
certified echelons plans m total weight list amount plan free within totals weights count prove adds small comes =
    let all : ProveItems m weight 1 list = record { free = free; within = within; weights = weights; low = omega arith; count = omega (arith, count); prove = prove } in
    record {
      accepted = record {
        rows = block_rows m weight 1 list;
        cuts = are_cut_rows echelons m total weight [] 1 list all;
        tree = tt;
        leaves = (AtLeast amount, says_amount echelons m total weight list amount all adds, omega arith);
        plan = goes_with plans m total amount plan free within totals comes;
      };
      fits = record { cuts = are_small_cuts m total weight [] 1 list; leaves = sums_small echelons m total weight list amount all adds small };
      plan = comes;
    }
