-- A worked example: a problem, a plan, and three certificates that no plan costs less.
--
-- One item has demands of 2 and 8. A setup costs 10 and takes 1 hour, as each unit does; a unit in stock costs 1. There
-- are 6 hours in each period, so no more than 5 units are made in one: both periods need a setup, 5 units are made in
-- each, and 3 of the first 5 stay in stock. That costs 23.
use Rattle.std.specs.Prelude.{ℕ, true, Some, None, List, [], ◌∷◌, codes, ℤ, pos, negsuc, ◌==◌, if◌then◌else◌}
use Rattle.lot_sizing.specs.Problem.{IsWithinLimits, Problem}
use Rattle.lot_sizing.specs.Plan.{Plan}
use Rattle.lot_sizing.specs.Bill.{AreWeights, bill_of}
use Rattle.lot_sizing.specs.Totals.{AreLargestTotals, IsRanking}
use Rattle.lin_rows.specs.declared.column.Column.TheVariants.{Y}
use Rattle.lin_rows.specs.declared.base.RowName.{RowName}
use Rattle.lin_rows.specs.declared.base.RowName.TheVariants.{Balance, Link, Capacity, Path, Cut}
use Rattle.item_groups.specs.declared.group.Group.TheVariants.{Quantities}
use Rattle.cert_lines.specs.declared.limits.TheConstants.{FIRST_CERT_VERSION, REDUCED_CERT_VERSION}
use Rattle.cert_lines.specs.declared.parts.Claim.TheVariants.{Optimal}
use Rattle.cert_lines.specs.declared.parts.ListKind.TheVariants as kind
use Rattle.cert_lines.specs.declared.parts.Part.{Part}
use Rattle.cert_lines.specs.Shapes.{CutShape, FarkasLeaf, LinearLeaf, ListShape, LsCut, PriceCut, BlockCut, ReducedLeaf, RoundCut}
use Rattle.certificate.specs.Shapes.{End, Shape, Split, TreeShape}
use Rattle.cert_trees.specs.Ranges.{whole_ranges}
use Rattle.cert_meaning.specs.Accepts.{Fits, IsAccepted}

abbrev pub model : Problem
model = record {
  periods = 2;
  resources = record { name = codes "m"; capacity = 6 ∷ (6 ∷ []) } ∷ [];
  items = record {
    name = codes "A";
    demand = 2 ∷ (8 ∷ []);
    unit_cost = 0 ∷ (0 ∷ []);
    setup_cost = 10 ∷ (10 ∷ []);
    hold_cost = 1 ∷ (1 ∷ []);
    backlog_cost = None;
    opening = 0;
    end_min = 0;
    end_max = 0;
    lead = 0;
    min_lot = 0;
    max_lot = None;
    needs = [];
    uses = record { resource = 1; unit = 1; setup = 1 } ∷ [];
  } ∷ [];
}

-- its ranks, largest totals and weights
abbrev pub rank : ℕ → ℕ
rank i = 0

abbrev pub total : ℕ → ℕ
total i = 10

abbrev pub weight : ℕ → ℕ → ℕ
weight i k = 1

pub record IsKnownModel : Type 0 where
  pub limits : IsWithinLimits model
  pub ranks : IsRanking model rank
  pub totals : AreLargestTotals model total
  pub weights : AreWeights (bill_of model) weight

abbrev pub plan : Plan
plan = record { make = λ i t. 5; setup = λ i t. 1; stock = λ i t. if t == 1 then 3 else 0; backlog = λ i t. 0 }

abbrev pub part : RowName → ℤ → Part
part row times = record { row = row; times = times }

-- by branches: there is no plan without a setup in period 1, none without one in period 2, and with both none costs less than 23
abbrev pub first : List Part
first = part (Link 1 1) (pos 1) ∷ (part (Path 1) (pos 10) ∷ (part (Balance 1 1) (pos 1) ∷ []))

abbrev pub second : List Part
second =
    part (Link 1 2) (pos 1) ∷ (part (Path 2) (pos 10) ∷ (part (Balance 1 2) (pos 1) ∷ (part (Capacity 1 1) (pos 1) ∷ (part (Balance 1 1) (pos 1) ∷ []))))

abbrev pub third : List Part
third =
    part (Balance 1 2) (pos 1) ∷ (part (Capacity 1 2) (pos 1) ∷ (part (Path 1) (pos 10) ∷ (part (Path 2) (pos 11) ∷ [])))

abbrev pub tree : TreeShape
tree =
    Split (Y 1 1) 0 (End (FarkasLeaf first)) (Split (Y 1 2) 0 (End (FarkasLeaf second)) (End (LinearLeaf (pos 1) third)))

abbrev pub by_branches : Shape
by_branches = record { version = FIRST_CERT_VERSION; claim = Optimal 23; cuts = []; tree = tree }

-- by cuts: the (l,S) row says 2*y[1] >= 2, the rounding row y[2] >= 1; the price row and the block row are not needed
abbrev pub rounded : List Part
rounded =
    part (Balance 1 1) (pos 1) ∷ (part (Balance 1 2) (pos 1) ∷ (part (Link 1 2) (pos 1) ∷ (part (Capacity 1 1) (pos 1) ∷ [])))

abbrev pub zeros : List ℕ
zeros = 0 ∷ (0 ∷ [])

abbrev pub cuts : List CutShape
cuts =
    LsCut 1 1 (true ∷ [])
    ∷ (RoundCut 10 rounded
    ∷ (PriceCut 1 (record { price = 5 ∷ (2 ∷ []); unit = zeros; hold = 1 ∷ (1 ∷ []); back = zeros })
    ∷ (BlockCut 1 (record { setup = 10 ∷ (10 ∷ []); unit = zeros; hold = 1 ∷ (1 ∷ []); back = zeros; steps = 10 ∷ (18 ∷ []) })
    ∷ [])))

abbrev pub whole : List Part
whole =
    part (Balance 1 2) (pos 1) ∷ (part (Capacity 1 2) (pos 1) ∷ (part (Cut 1) (pos 5) ∷ (part (Cut 2) (pos 11) ∷ [])))

abbrev pub by_cuts : Shape
by_cuts = record { version = FIRST_CERT_VERSION; claim = Optimal 23; cuts = cuts; tree = End (LinearLeaf (pos 1) whole) }

-- by reduced costs: by the balances a unit that is made in period 1 has the price 2, one in period 2 the price 1, and the stocks have none; their right sides add to - 12. No lot is above 5, so both periods make 5, which is 20 for setups and 15 for units; and 35 - 12 is 23
abbrev pub balances : ListShape
balances = record { kind = kind.Balance; index = 1; times = negsuc 1 ∷ (negsuc 0 ∷ []) }

abbrev pub by_reduced_costs : Shape
by_reduced_costs = record {
  version = REDUCED_CERT_VERSION;
  claim = Optimal 23;
  cuts = [];
  tree = End (ReducedLeaf 1 [] (balances ∷ []) (Quantities 1 ∷ []));
}

-- a certificate is accepted with the plan, and its sums are small
abbrev pub IsAcceptedHere : Shape → Type 0
IsAcceptedHere c = (is : IsAccepted model total weight (whole_ranges total) c (Some plan)) × Fits model total is.rows c
