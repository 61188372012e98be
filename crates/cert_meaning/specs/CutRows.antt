-- The rows of cuts, each of which names rows of the problem and of earlier cuts alone.
use Rattle.std.specs.Prelude.{◌≡◌, ℕ, ◌≤◌, nat_lt, is_some, Bool, List, [], ◌∷◌, ◌++◌, length, ⊤, if◌then◌else◌}
use Rattle.lot_sizing.specs.Sums.{sum_to}
use Rattle.lot_sizing.specs.Problem.{AllAtMost, IsSeries, Problem, item_at, item_count}
use Rattle.lot_sizing.specs.Single.{ArePotentials}
use Rattle.lot_sizing.specs.Echelon.{IsLeadFree, asked_in_echelon}
use Rattle.echelon.specs.Views.{marked}
use Rattle.lin_rows.specs.Rows.{LinRow}
use Rattle.round_cuts.specs.declared.rounding.TheConstants.{MAX_DIVISOR}
use Rattle.round_cuts.specs.Rounding.{IsRounded}
use Rattle.echelon_rows.specs.declared.limits.TheConstants.{MAX_PRICE, MAX_STEP}
use Rattle.echelon_rows.specs.Rows.{ArePriced, Echelon, priced}
use Rattle.ls_cuts.specs.Rows.{ls_row}
use Rattle.facility_form.specs.PriceRow.{price_row}
use Rattle.backlog_dp.specs.BlockRow.{block_row}
use Rattle.cert_lines.specs.declared.parts.Part.{Part}
use Rattle.cert_lines.specs.Shapes.{BlockLists, CutShape, LsCut, PriceCut, BlockCut, RoundCut, PriceLists}
use Rattle.cert_meaning.specs.Named.{Named, names}
use Rattle.cert_meaning.specs.Parts.{AreParts, rows_of, times_of}

-- the units of an item in those items that have a backlog cost
abbrev pub backs_in : Problem → (ℕ → ℕ → ℕ) → ℕ → ℕ
backs_in m weight i = sum_to (item_count m) (λ j. if is_some (item_at m j).backlog_cost then weight i j else 0)

-- the echelon of an item, by the problem's weights; it may be owed where an item that counts in it has a backlog cost
abbrev pub echelon_at : Problem → (ℕ → ℕ → ℕ) → ℕ → Echelon
echelon_at m weight i = record {
  item = i;
  items = item_count m;
  asked = asked_in_echelon m weight i;
  weight = weight i;
  back = λ j. is_some (item_at m j).backlog_cost;
  owing = nat_lt 0 (backs_in m weight i);
}

-- an item of the problem that is lead-free: its echelon balances in every feasible plan
pub record HasEchelon (m : Problem) (weight : ℕ → ℕ → ℕ) (i : ℕ) : Type 0 where
  pub low : 1 ≤ i
  pub high : i ≤ item_count m
  pub lead_free : IsLeadFree m weight i

-- l is a period, and there is a mark for each period up to it
pub record IsLsCut (m : Problem) (weight : ℕ → ℕ → ℕ) (item last : ℕ) (chosen : List Bool) : Type 0 where
  pub echelon : HasEchelon m weight item
  pub low : 1 ≤ last
  pub high : last ≤ m.periods
  pub size : length chosen ≡ last

-- each list has an entry for each period, none past the largest price
pub record IsPriceCut (m : Problem) (weight : ℕ → ℕ → ℕ) (item : ℕ) (a : PriceLists) : Type 0 where
  pub echelon : HasEchelon m weight item
  pub price : IsSeries m.periods MAX_PRICE a.price
  pub prices : ArePriced m.periods a.unit a.hold a.back

-- the same of the prices; and potentials, none past the largest step, that rise over no block by more than it costs
pub record IsBlockCut (m : Problem) (weight : ℕ → ℕ → ℕ) (item : ℕ) (a : BlockLists) : Type 0 where
  pub echelon : HasEchelon m weight item
  pub setup : IsSeries m.periods MAX_PRICE a.setup
  pub prices : ArePriced m.periods a.unit a.hold a.back
  pub steps : AllAtMost MAX_STEP a.steps
  pub potentials : ArePotentials (priced (echelon_at m weight item) a.setup a.unit a.hold a.back) a.steps

-- a divisor within its limit, and parts among the problem's rows and the rows of earlier cuts
pub record IsRoundCut (n : Named) (divisor : ℕ) (parts : List Part) : Type 0 where
  pub low : 1 ≤ divisor
  pub high : divisor ≤ MAX_DIVISOR
  pub parts_exist : AreParts n parts

-- the row of a cut, after the rows of earlier ones
abbrev pub IsCutRow : Problem → (ℕ → ℕ) → (ℕ → ℕ → ℕ) → List LinRow → CutShape → LinRow → Type 0
IsCutRow m total weight earlier (LsCut item last chosen) row =
    IsLsCut m weight item last chosen × (row ≡ ls_row (echelon_at m weight item) last (marked chosen))
IsCutRow m total weight earlier (PriceCut item a) row =
    IsPriceCut m weight item a × (row ≡ price_row (echelon_at m weight item) a.price a.unit a.hold a.back)
IsCutRow m total weight earlier (BlockCut item a) row =
    IsBlockCut m weight item a × (row ≡ block_row (echelon_at m weight item) a.setup a.unit a.hold a.back a.steps)
IsCutRow m total weight earlier (RoundCut divisor parts) row =
    let n = names m total earlier [] in
    IsRoundCut n divisor parts × IsRounded (rows_of n parts) (times_of parts) divisor row

-- one row of each cut, in their order
abbrev pub AreCutRows : Problem → (ℕ → ℕ) → (ℕ → ℕ → ℕ) → List LinRow → List CutShape → List LinRow → Type 0
AreCutRows m total weight earlier [] [] = ⊤
AreCutRows m total weight earlier [] (r ∷ rows) = ⊥
AreCutRows m total weight earlier (c ∷ cuts) [] = ⊥
AreCutRows m total weight earlier (c ∷ cuts) (r ∷ rows) = IsCutRow m total weight earlier c r × AreCutRows m total weight (earlier ++ (r ∷ [])) cuts rows
