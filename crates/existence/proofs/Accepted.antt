-- A model means a problem exactly where it meets the rules.
use Rattle.std.proofs.Common.{◌≡◌, ◌+◌, ⊎_elim, Some, None, Result, Ok, Err}
use Rattle.std.specs.Prelude.{IfSome, Option, pos, length}
use Rattle.std.specs.List.{All}
use Rattle.bill.specs.Laws.{TotalsExist, WeightsExist}
use Rattle.lot_sizing.specs.Sums.{sum_to}
use Rattle.lot_sizing.specs.Problem.{Problem, demand, item_at}
use Rattle.lot_sizing.specs.Bill.{bill_of}
use Rattle.lot_sizing.specs.declared.limits.TheConstants.{MAX_AMOUNT}
use Rattle.lot_draft.specs.Raw.{RawModel}
use Rattle.lot_draft.specs.Meaning.{problem_of}
use Rattle.lot_draft.specs.Refusals.{later_fault, plain_fault}
use Rattle.lot_draft.specs.declared.fault.ModelFault.{ModelFault}
use Rattle.lot_model.specs.Meaning.{BreaksFirst, BreaksNone, IsPastBound, Means}
use Rattle.lot_model.specs.Laws.{MeansSomething}
use Rattle.lot_model.proofs.Bills.{no_cycle}
use Rattle.existence.specs.Rules.{AcceptedExactly, HasSmallTotals, HasSmallWeights, IsFrom, MeetsRules}
use Rattle.existence.proofs.Passing.{IsGoodList}
use Rattle.existence.proofs.Parts.{later_is, plain_is}

-- what the laws below say
pub record Grounds : Type 0 where
  pub totals : TotalsExist
  pub weights : WeightsExist
  pub something : MeansSomething

-- a list that may be left out
in_some : {A : Type 0} (P Q : A → Type 0) (o : Option A) → ((x : A) → P x → Q x) → IfSome o P → IfSome o Q
in_some P Q None each h = tt
in_some P Q (Some x) each h = each x h

both_some : {A : Type 0} (P Q : A → Type 0) (o : Option A) → IfSome o P → IfSome o Q → IfSome o (λ x. P x × Q x)
both_some P Q None h i = tt
both_some P Q (Some x) h i = (h, i)

rules_of : Grounds → (m : RawModel) → BreaksNone m → MeetsRules m
rules_of by m none =
    let p = problem_of m in
    let b = bill_of p in
    let plain = (plain_is m).0 none.plain in
    let counts = plain.0 in
    let rest = plain.1.1.1 in
    let series = rest.0.0 in
    let items = rest.0.1 in
    let lines = rest.1 in
    let later = (later_is m).0 none.later in
    let rank = none.ranked.0 in
    let ranks = none.ranked.1 in
    let total = by.totals b (λ i. sum_to p.periods (demand p i) + (item_at p i).end_max) (λ i. (item_at p i).opening) rank ranks in
    let weight = by.weights b rank ranks in
    let within = none.bounded total.0 weight.0 total.1 weight.1 in
    record {
      periods = counts.0;
      few_resources = counts.1.0;
      some_item = counts.1.1.0.0;
      few_items = counts.1.1.0.1;
      few_needs = counts.1.1.1;
      resource_names = plain.1.0.0;
      item_names = plain.1.0.1;
      resources_differ = plain.1.1.0.0;
      items_differ = plain.1.1.0.1;
      lengths = record {
        capacity = λ k d less. (series k d less).0;
        demand = λ k d less. (items k d less).0.0.0;
        unit_cost = λ k d less. (items k d less).0.1.0.0;
        setup_cost = λ k d less. (items k d less).0.1.1.0.0;
        hold_cost = λ k d less. (items k d less).0.1.1.1.0.0;
        backlog_cost = λ k d less. in_some (IsGoodList m.periods) (λ xs. pos (length xs) ≡ m.periods) _ (λ xs good. good.0) (items k d less).0.1.1.1.1;
      };
      amounts = record {
        capacity = λ k d less. (series k d less).1;
        demand = λ k d less. (items k d less).0.0.1;
        unit_cost = λ k d less. (items k d less).0.1.0.1;
        setup_cost = λ k d less. (items k d less).0.1.1.0.1;
        hold_cost = λ k d less. (items k d less).0.1.1.1.0.1;
        backlog_cost = λ k d less. in_some (IsGoodList m.periods) (All (IsFrom 0 MAX_AMOUNT)) _ (λ xs good. good.1) (items k d less).0.1.1.1.1;
      };
      numbers = λ k d less. (items k d less).1;
      components_known = λ k d less. (lines k d less).0.0;
      resources_known = λ k d less. (lines k d less).1.0;
      components_differ = λ k d less. (lines k d less).0.1.0;
      uses_differ = λ k d less. (lines k d less).1.1.0;
      quantities = λ k d less. (lines k d less).0.1.1;
      unit_times = λ k d less j e few. ((lines k d less).1.1.1 j e few).0;
      setup_times = λ k d less j e few. ((lines k d less).1.1.1 j e few).1;
      no_cycle = no_cycle b rank ranks;
      no_backlogs = later.0;
      ends = later.1.0;
      lots = later.1.1;
      totals = (total.0, total.1, λ i low high. (within i low high).in_all);
      weights = (weight.0, weight.1, λ i low high. (within i low high).each);
    }

plain_of : (m : RawModel) → MeetsRules m → plain_fault m ≡ None
plain_of m rules =
    let lengths = rules.lengths in
    let amounts = rules.amounts in
    (plain_is m).1 (
      (rules.periods, (rules.few_resources, ((rules.some_item, rules.few_items), rules.few_needs))),
      (
        (rules.resource_names, rules.item_names),
        (
          (rules.resources_differ, rules.items_differ),
          (
            (
              λ k d less. (lengths.capacity k d less, amounts.capacity k d less),
              λ k d less. (
                (
                  (lengths.demand k d less, amounts.demand k d less),
                  (
                    (lengths.unit_cost k d less, amounts.unit_cost k d less),
                    (
                      (lengths.setup_cost k d less, amounts.setup_cost k d less),
                      (
                        (lengths.hold_cost k d less, amounts.hold_cost k d less),
                        both_some (λ xs. pos (length xs) ≡ m.periods) (All (IsFrom 0 MAX_AMOUNT)) _ (lengths.backlog_cost k d less) (amounts.backlog_cost k d less),
                      ),
                    ),
                  ),
                ),
                rules.numbers k d less,
              ),
            ),
            λ k d less. (
              (rules.components_known k d less, (rules.components_differ k d less, rules.quantities k d less)),
              (rules.resources_known k d less, (rules.uses_differ k d less, λ j e few. (rules.unit_times k d less j e few, rules.setup_times k d less j e few))),
            ),
          ),
        ),
      ),
    )

later_of : (m : RawModel) → MeetsRules m → later_fault m ≡ None
later_of m rules = (later_is m).1 (rules.no_backlogs, (rules.ends, rules.lots))

no_fault : {A : Type 0} (o : Option ModelFault) (f : ModelFault) → o ≡ None → o ≡ Some f → A
no_fault o f none some = absurd (cc (none, some))

not_past : (p : Problem) (f : ModelFault) → HasSmallTotals p → HasSmallWeights p → IsPastBound p f → ⊥
not_past p f totals weights past =
    let i = past.0 in
    let first = past.1 totals.0 weights.0 totals.1 weights.1 in
    first.over (record { in_all = totals.2 i first.low first.high; each = weights.2 i first.low first.high })

-- a model that meets the rules has no first rule that it breaks
not_first : (m : RawModel) (f : ModelFault) → MeetsRules m → BreaksFirst m f → ⊥
not_first m f rules first =
    let p = problem_of m in
    ⊎_elim
    (λ plain. no_fault (plain_fault m) f (plain_of m rules) plain)
    (λ rest. ⊎_elim
    (λ cycle. rules.no_cycle cycle.0 cycle.1.low cycle.1.high cycle.1.cycle)
    (λ ranked. ⊎_elim
    (λ later. no_fault (later_fault m) f (later_of m rules) later)
    (λ past. not_past p f rules.totals rules.weights past.1)
    ranked.1)
    rest.1)
    first

breaks_none : (m : RawModel) → MeetsRules m → (r : Result Problem ModelFault) → Means m r → BreaksNone m
breaks_none m rules (Ok p) means = means.1
breaks_none m rules (Err f) means = absurd (not_first m f rules means)

pub accepted : Grounds → AcceptedExactly
accepted by m p = (
  λ means. (means.0, rules_of by m means.1),
  λ both. (both.0, let found = by.something m in breaks_none m both.1 found.0 found.1),
)
