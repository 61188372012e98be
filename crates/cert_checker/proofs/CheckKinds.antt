-- What each kind of refusal says, one cause after the other.
use Rattle.std.proofs.Common.{◌≡◌, ◌≢◌, ◌⊎◌, ℕ, inl, inr, refl, sym, ap, List, Some, None}
use Rattle.std.specs.Prelude.{ℤ, pos, ◌<ℤ◌, false, Ok, Err}
use Rattle.lot_sizing.specs.declared.Block.{Block}
use Rattle.lot_sizing.specs.Echelon.{IsLeadFree}
use Rattle.lot_sizing.specs.Problem.{Problem}
use Rattle.plan_rules.specs.declared.broken.Broken.{Broken}
use Rattle.plan_rules.specs.declared.plan.Plan.{Plan}
use Rattle.plan_rules.specs.Broken.{IsJudged}
use Rattle.lin_rows.specs.declared.column.Column.{Column}
use Rattle.backlog_dp.specs.Broken.{IsFirstBroken}
use Rattle.cert_lines.specs.declared.parts.Part.{Part}
use Rattle.cert_lines.specs.Shapes.{BlockLists}
use Rattle.cert_trees.specs.Ranges.{Ranges}
use Rattle.cert_meaning.specs.Named.{IsNamed, Named, row_named}
use Rattle.cert_meaning.specs.Parts.{AreParts, AreSmall}
use Rattle.cert_meaning.specs.Says.{IsPoint}
use Rattle.cert_checker.specs.declared.fault.Why.{Why}
use Rattle.cert_checker.specs.declared.fault.Why.TheVariants as why
use Rattle.cert_checker.specs.Cuts.{HasSteps, IsBlockCutFault, IsBlockForm, IsFormFault, IsRoundFault, single_priced}
use Rattle.cert_checker.specs.Leaves.{IsFarkasFault, IsFirstColumn, IsFirstWrong, IsPointFault, IsShortSum, IsSumFault, IsWrongPart, farkas_most}
use Rattle.cert_checker.specs.Checks.{IsOptimalFault}

-- a part
pub record IsUnnamed (n : Named) (part : Part) (w : Why) : Type 0 where
  pub cause : w ≡ why.Range
  pub none : IsNamed n part.row → ⊥

pub record IsUnsigned (n : Named) (part : Part) (w : Why) : Type 0 where
  pub cause : w ≡ why.Sign
  pub named : IsNamed n part.row
  pub unequal : (row_named n part.row).equal ≡ false
  pub negative : part.times <ℤ pos 0

pub part_kind : (n : Named) (part : Part) (w : Why) → IsWrongPart n part w → IsUnnamed n part w ⊎ IsUnsigned n part w
part_kind n part why.Range is = inl (record { cause = refl; none = is })
part_kind n part why.Sign is = inr (record { cause = refl; named = is.0; unequal = is.1; negative = is.2 })
part_kind n part (why.Column d) is = absurd is
part_kind n part (why.Short says) is = absurd is
part_kind n part why.NotPoint is = absurd is
part_kind n part (why.Block first last server) is = absurd is
part_kind n part why.TooLarge is = absurd is
part_kind n part (why.Plan broken) is = absurd is
part_kind n part (why.Costs plan claim) is = absurd is
part_kind n part why.PlanMissing is = absurd is
part_kind n part why.Lead is = absurd is
part_kind n part why.Work is = absurd is

-- a sum
pub record IsLargeSum (n : Named) (parts : List Part) (line at : ℕ) (w : Why) : Type 0 where
  pub cause : w ≡ why.TooLarge
  pub place : at ≡ line
  pub parts_exist : AreParts n parts
  pub large : AreSmall n parts → ⊥

pub record IsLargeColumn (n : Named) (most : Column → ℤ) (parts : List Part) (line at : ℕ) (w : Why) : Type 0 where
  pub column : Column
  pub cause : w ≡ why.Column column
  pub place : at ≡ line
  pub parts_exist : AreParts n parts
  pub small : AreSmall n parts
  pub first : IsFirstColumn n most parts column

pub sum_kind : (n : Named) (most : Column → ℤ) (parts : List Part) (line at : ℕ) (w : Why) → IsSumFault n most parts line at w → IsFirstWrong n parts line at w ⊎ (IsLargeSum n parts line at w ⊎ IsLargeColumn n most parts line at w)
sum_kind n most parts line at why.Range is = inl is
sum_kind n most parts line at why.Sign is = inl is
sum_kind n most parts line at (why.Column d) is = inr (inr (record { column = d; cause = refl; place = is.0; parts_exist = is.1; small = is.2; first = is.3 }))
sum_kind n most parts line at (why.Short says) is = absurd is
sum_kind n most parts line at why.NotPoint is = absurd is
sum_kind n most parts line at (why.Block first last server) is = absurd is
sum_kind n most parts line at why.TooLarge is = inr (inl (record { cause = refl; place = is.0; parts_exist = is.1; large = is.2 }))
sum_kind n most parts line at (why.Plan broken) is = absurd is
sum_kind n most parts line at (why.Costs plan claim) is = absurd is
sum_kind n most parts line at why.PlanMissing is = absurd is
sum_kind n most parts line at why.Lead is = absurd is
sum_kind n most parts line at why.Work is = absurd is

-- a leaf by Farkas' lemma
pub record IsShortFarkas (n : Named) (parts : List Part) (line at : ℕ) (w : Why) : Type 0 where
  pub cause : w ≡ why.Short 0
  pub place : at ≡ line
  pub short : IsShortSum n parts

pub farkas_kind : (n : Named) (parts : List Part) (line at : ℕ) (w : Why) → IsFarkasFault n parts line at w → IsShortFarkas n parts line at w ⊎ IsSumFault n farkas_most parts line at w
farkas_kind n parts line at why.Range is = inr is
farkas_kind n parts line at why.Sign is = inr is
farkas_kind n parts line at (why.Column d) is = inr is
farkas_kind n parts line at (why.Short says) is = inl (record { cause = ap why.Short is.1; place = is.0; short = is.2 })
farkas_kind n parts line at why.NotPoint is = inr is
farkas_kind n parts line at (why.Block first last server) is = inr is
farkas_kind n parts line at why.TooLarge is = inr is
farkas_kind n parts line at (why.Plan broken) is = inr is
farkas_kind n parts line at (why.Costs plan claim) is = inr is
farkas_kind n parts line at why.PlanMissing is = inr is
farkas_kind n parts line at why.Lead is = inr is
farkas_kind n parts line at why.Work is = inr is

-- a point
pub record IsNoPoint (n : Named) (ranges : Ranges) (line at : ℕ) (w : Why) : Type 0 where
  pub cause : w ≡ why.NotPoint
  pub place : at ≡ line
  pub none : IsPoint n ranges → ⊥

pub point_kind : (n : Named) (ranges : Ranges) (line at : ℕ) (w : Why) → IsPointFault n ranges line at w → IsNoPoint n ranges line at w
point_kind n ranges line at why.Range is = absurd is
point_kind n ranges line at why.Sign is = absurd is
point_kind n ranges line at (why.Column d) is = absurd is
point_kind n ranges line at (why.Short says) is = absurd is
point_kind n ranges line at why.NotPoint is = record { cause = refl; place = is.0; none = is.1 }
point_kind n ranges line at (why.Block first last server) is = absurd is
point_kind n ranges line at why.TooLarge is = absurd is
point_kind n ranges line at (why.Plan broken) is = absurd is
point_kind n ranges line at (why.Costs plan claim) is = absurd is
point_kind n ranges line at why.PlanMissing is = absurd is
point_kind n ranges line at why.Lead is = absurd is
point_kind n ranges line at why.Work is = absurd is

-- an (l,S) or price cut
pub record IsFormless (Form : Type 0) (line at : ℕ) (w : Why) : Type 0 where
  pub cause : w ≡ why.Range
  pub place : at ≡ line
  pub none : Form → ⊥

pub record IsLeading (Form LeadFree : Type 0) (line at : ℕ) (w : Why) : Type 0 where
  pub cause : w ≡ why.Lead
  pub place : at ≡ line
  pub form : Form
  pub leads : LeadFree → ⊥

pub form_kind : (Form LeadFree : Type 0) (line at : ℕ) (w : Why) → IsFormFault Form LeadFree line at w → IsFormless Form line at w ⊎ IsLeading Form LeadFree line at w
form_kind Form LeadFree line at why.Range is = inl (record { cause = refl; place = is.0; none = is.1 })
form_kind Form LeadFree line at why.Sign is = absurd is
form_kind Form LeadFree line at (why.Column d) is = absurd is
form_kind Form LeadFree line at (why.Short says) is = absurd is
form_kind Form LeadFree line at why.NotPoint is = absurd is
form_kind Form LeadFree line at (why.Block first last server) is = absurd is
form_kind Form LeadFree line at why.TooLarge is = absurd is
form_kind Form LeadFree line at (why.Plan broken) is = absurd is
form_kind Form LeadFree line at (why.Costs plan claim) is = absurd is
form_kind Form LeadFree line at why.PlanMissing is = absurd is
form_kind Form LeadFree line at why.Lead is = inr (record { cause = refl; place = is.0; form = is.1; leads = is.2 })
form_kind Form LeadFree line at why.Work is = absurd is

-- a block cut
module _ (m : Problem) (weight : ℕ → ℕ → ℕ) (item : ℕ) (a : BlockLists) (line at : ℕ) where
  pub record IsMisfit (w : Why) : Type 0 where
    pub cause : w ≡ why.Range
    pub place : at ≡ line
    pub form : IsBlockForm m item a
    pub free : IsLeadFree m weight item
    pub none : HasSteps m weight item a → ⊥

  pub record IsRising (w : Why) : Type 0 where
    pub block : Block
    pub cause : w ≡ why.Block block.first block.last block.server
    pub place : at ≡ line
    pub form : IsBlockForm m item a
    pub free : IsLeadFree m weight item
    pub steps : HasSteps m weight item a
    pub first : IsFirstBroken (single_priced m weight item a) a.steps block

  abbrev pub BlockKind : Why → Type 0
  BlockKind w =
      IsFormless (IsBlockForm m item a) line at w
      ⊎ (IsLeading (IsBlockForm m item a) (IsLeadFree m weight item) line at w ⊎ (IsMisfit w ⊎ IsRising w))

  unformed : (IsBlockForm m item a → ⊥) ⊎ (IsBlockForm m item a × IsLeadFree m weight item × (HasSteps m weight item a → ⊥)) → at ≡ line → BlockKind why.Range
  unformed (inl none) place = inl (record { cause = refl; place = place; none = none })
  unformed (inr other) place = inr (inr (inl (record { cause = refl; place = place; form = other.0; free = other.1; none = other.2 })))

  pub block_kind : (w : Why) → IsBlockCutFault m weight item a line at w → BlockKind w
  block_kind why.Range is = unformed is.1 is.0
  block_kind why.Sign is = absurd is
  block_kind (why.Column d) is = absurd is
  block_kind (why.Short says) is = absurd is
  block_kind why.NotPoint is = absurd is
  block_kind (why.Block first last server) is = inr (inr (inr (record { block = record { first = first; last = last; server = server }; cause = refl; place = is.0; form = is.1; free = is.2; steps = is.3; first = is.4 })))
  block_kind why.TooLarge is = absurd is
  block_kind (why.Plan broken) is = absurd is
  block_kind (why.Costs plan claim) is = absurd is
  block_kind why.PlanMissing is = absurd is
  block_kind why.Lead is = inr (inl (record { cause = refl; place = is.0; form = is.1; leads = is.2 }))
  block_kind why.Work is = absurd is

-- a rounding cut
pub round_kind : (n : Named) (parts : List Part) (line at : ℕ) (w : Why) → IsRoundFault n parts line at w → IsFirstWrong n parts line at w ⊎ IsLargeSum n parts line at w
round_kind n parts line at why.Range is = inl is
round_kind n parts line at why.Sign is = inl is
round_kind n parts line at (why.Column d) is = absurd is
round_kind n parts line at (why.Short says) is = absurd is
round_kind n parts line at why.NotPoint is = absurd is
round_kind n parts line at (why.Block first last server) is = absurd is
round_kind n parts line at why.TooLarge is = inr (record { cause = refl; place = is.0; parts_exist = is.1; large = is.2 })
round_kind n parts line at (why.Plan broken) is = absurd is
round_kind n parts line at (why.Costs plan claim) is = absurd is
round_kind n parts line at why.PlanMissing is = absurd is
round_kind n parts line at why.Lead is = absurd is
round_kind n parts line at why.Work is = absurd is

-- the plan that goes with an optimal cost
pub record IsBrokenPlan (m : Problem) (p : Plan) (w : Why) : Type 0 where
  pub broken : Broken
  pub cause : w ≡ why.Plan broken
  pub judged : IsJudged m p (Err broken)

pub record IsOtherCost (m : Problem) (c : ℕ) (p : Plan) (w : Why) : Type 0 where
  pub amount : ℕ
  pub cause : w ≡ why.Costs amount c
  pub judged : IsJudged m p (Ok amount)
  pub other : amount ≢ c

pub missing_kind : (m : Problem) (c : ℕ) (w : Why) → IsOptimalFault m c None w → w ≡ why.PlanMissing
missing_kind m c why.Range is = absurd is
missing_kind m c why.Sign is = absurd is
missing_kind m c (why.Column d) is = absurd is
missing_kind m c (why.Short says) is = absurd is
missing_kind m c why.NotPoint is = absurd is
missing_kind m c (why.Block first last server) is = absurd is
missing_kind m c why.TooLarge is = absurd is
missing_kind m c (why.Plan broken) is = absurd is
missing_kind m c (why.Costs plan claim) is = absurd is
missing_kind m c why.PlanMissing is = refl
missing_kind m c why.Lead is = absurd is
missing_kind m c why.Work is = absurd is

pub plan_kind : (m : Problem) (c : ℕ) (p : Plan) (w : Why) → IsOptimalFault m c (Some p) w → IsBrokenPlan m p w ⊎ IsOtherCost m c p w
plan_kind m c p why.Range is = absurd is
plan_kind m c p why.Sign is = absurd is
plan_kind m c p (why.Column d) is = absurd is
plan_kind m c p (why.Short says) is = absurd is
plan_kind m c p why.NotPoint is = absurd is
plan_kind m c p (why.Block first last server) is = absurd is
plan_kind m c p why.TooLarge is = absurd is
plan_kind m c p (why.Plan broken) is = inl (record { broken = broken; cause = refl; judged = is })
plan_kind m c p (why.Costs plan claim) is = inr (record { amount = plan; cause = ap (why.Costs plan) is.3; judged = (is.0, is.1, sym is.2); other = is.4 })
plan_kind m c p why.PlanMissing is = absurd is
plan_kind m c p why.Lead is = absurd is
plan_kind m c p why.Work is = absurd is
