-- Each cut has a row, or a fault, and so have lists of cuts: whichever largest totals and weights are taken.
use Rattle.std.proofs.Common.{◌≡◌, ◌≤◌, ◌<◌, ◌+◌, ◌-◌, ◌*◌, ◌^◌, ◌∙◌, ◌⊎◌, ⊎_elim, inl, inr, ℕ, refl, sym, ap, subst, arith, Bool, true, false, IsTrue, List, [], ◌∷◌, ◌++◌, length, take, slice_index_or, append_assoc, append-nil, Vec, Global}
use Rattle.std.specs.Prelude.{is_some}
use Rattle.std.specs.List.{All}
use Rattle.std.proofs.lemmas.Bool.{cases_eq}
use Rattle.std.proofs.lemmas.List.{length-append}
use Rattle.std.proofs.lemmas.List.Elements.{All-head, All-nil, All-tail}
use Rattle.std.proofs.Math.Seq.{get_or-append_seam}
use denote.RawPtr.{null_ptr}
use Rattle.lot_sizing.specs.declared.Block.{Block}
use Rattle.lot_sizing.specs.Problem.{AllAtMost, EachItem, IsSeries, IsWithinLimits, Problem, demand, item_at, item_count}
use Rattle.lot_sizing.specs.Bill.{AreWeights, bill_of}
use Rattle.lot_sizing.specs.Echelon.{IsLeadFree, asked_in_echelon, in_echelon}
use Rattle.lot_sizing.specs.Laws.{TotalsAreOne, WeightsAreOne}
use Rattle.lot_sizing.specs.Single.{ArePotentials, IsBlock, Single, period_count, period_of, position_count, block_cost, potential}
use Rattle.lot_sizing.specs.Totals.{AreLargestTotals, IsRanking}
use Rattle.lot_sizing.proofs.Sums.{sum_to-same}
use Rattle.echelon.specs.declared.net.EchelonItem.{EchelonItem}
use Rattle.echelon.specs.Views.{marked}
use Rattle.echelon.specs.Weights.{HasBack, IsBacklogged, IsEchelonOf}
use Rattle.lin_rows.specs.Combining.{AreOfProblem}
use Rattle.lin_rows.specs.Rows.{LinRow}
use Rattle.round_cuts.specs.Rounding.{IsRounded}
use Rattle.echelon_rows.specs.declared.limits.TheConstants.{MAX_PRICE, MAX_STEP}
use Rattle.echelon_rows.specs.Rows.{ArePriced, echelon_in, priced}
use Rattle.ls_cuts.specs.Rows.{ls_row}
use Rattle.facility_form.specs.PriceRow.{price_row}
use Rattle.backlog_dp.specs.BlockRow.{block_row}
use Rattle.backlog_dp.specs.Broken.{HoldsOver, IsFirstBroken}
use Rattle.cert_lines.specs.declared.parts.Part.{Part}
use Rattle.cert_lines.specs.Shapes.{BlockCut, BlockLists, CutShape, LsCut, PriceCut, PriceLists, RoundCut}
use Rattle.certificate.specs.Values.{all_cut_values}
use Rattle.cert_trees.specs.Paths.{AreChoices}
use Rattle.cert_trees.specs.Ranges.{IsChoice, WithTotals}
use Rattle.lin_rows.specs.declared.bound.Bound.{Bound}
use Rattle.cert_meaning.specs.Named.{names}
use Rattle.cert_meaning.specs.Parts.{rows_of, times_of}
use Rattle.cert_meaning.specs.CutRows.{AreCutRows, HasEchelon, IsCutRow}
use Rattle.cert_meaning.specs.Accepts.{AreSmallCuts, IsSmallCut}
use Rattle.cert_meaning.specs.Laws.{CutRowsGoOn, CutsHold, EchelonRowsAreOne, SmallCutsGoOn}
use Rattle.cert_checker.specs.declared.fault.Why.{Why}
use Rattle.cert_checker.specs.declared.fault.Why.TheVariants as why
use Rattle.cert_checker.specs.Cuts.{HasDivisor, IsBlockForm, IsCutFault, IsItem, IsLsForm, IsPriceForm, OfProblem, single_priced}
use Rattle.cert_checker.specs.Checks.{HaveGoodRows, IsCutsFault, first_line, no_cut}
use Rattle.existence.proofs.Deciding.{Decided, all_or_first, both_or_not, if_or_not, le_or_not, lt_or_not, none_or_not}
use Rattle.group_existence.proofs.Judged.{all_or_not}
use Rattle.answers_exist.proofs.Columns.{some_or_not}
use Rattle.answers_exist.proofs.Listing.{list_is, list_of, list_size}
use Rattle.answers_exist.proofs.Sums.{has_rounded, parts_out, parts_same, range_wrong, rows_are, rows_same, sign_wrong, small_back, small_or_not, small_same}

at_most_or_not : (most : ℕ) (xs : List ℕ) → Decided (AllAtMost most xs)
at_most_or_not most xs = all_or_not (λ x. x ≤ most) (λ x. le_or_not x most) xs

series_or_not : (periods most : ℕ) (xs : List ℕ) → Decided (IsSeries periods most xs)
series_or_not periods most xs =
    ⊎_elim
    (λ size. ⊎_elim (λ small. inl (record { size = size; small = small })) (λ none. inr (λ is. none is.small)) (at_most_or_not most xs))
    (λ none. inr (λ is. none is.size))
    (cases_eq (length xs) periods)

priced_or_not : (periods : ℕ) (unit hold back : List ℕ) → Decided (ArePriced periods unit hold back)
priced_or_not periods unit hold back =
    ⊎_elim
    (λ a. ⊎_elim
    (λ b. ⊎_elim (λ c. inl (record { unit = a; hold = b; back = c })) (λ none. inr (λ is. none is.back)) (series_or_not periods MAX_PRICE back))
    (λ none. inr (λ is. none is.hold))
    (series_or_not periods MAX_PRICE hold))
    (λ none. inr (λ is. none is.unit))
    (series_or_not periods MAX_PRICE unit)

-- a list that a program could have
vec_of : (A : Type 0) (xs : List A) → length xs < 2 ^ 63 → Vec A Global
vec_of A xs small = record { items = xs; ptr = null_ptr; len = length xs; cap = length xs; alloc = record { memory = record { seal = tt } }; ok = (refl, omega arith); small = small }

-- ---- blocks of positions
module _ (s : Single) (g : List ℕ) where
  abbrev block_at : ℕ → ℕ → ℕ → Block
  block_at first last server = record { first = first; last = last; server = server }

  abbrev Holds : ℕ → ℕ → ℕ → Type 0
  Holds first last server = IsBlock s (block_at first last server) → HoldsOver s g (block_at first last server)

  block_or_not : (b : Block) → Decided (IsBlock s b)
  block_or_not b =
      ⊎_elim
      (λ low. ⊎_elim
      (λ order. ⊎_elim
      (λ high. ⊎_elim
      (λ server_low. ⊎_elim
      (λ server_high. ⊎_elim
      (λ in_time. inl (record { low = low; order = order; high = high; server = record { low = server_low; high = server_high; in_time = in_time } }))
      (λ none. inr (λ is. none is.server.in_time))
      (if_or_not (none_or_not s.back) (le_or_not b.server (period_of s b.first))))
      (λ none. inr (λ is. none is.server.high))
      (le_or_not b.server (period_count s)))
      (λ none. inr (λ is. none is.server.low))
      (le_or_not 1 b.server))
      (λ none. inr (λ is. none is.high))
      (le_or_not b.last (position_count s)))
      (λ none. inr (λ is. none is.order))
      (le_or_not b.first b.last))
      (λ none. inr (λ is. none is.low))
      (le_or_not 1 b.first)

  holds_or_not : (first last server : ℕ) → Decided (Holds first last server)
  holds_or_not first last server = if_or_not (block_or_not (block_at first last server)) (le_or_not (potential g last) (potential g (first - 1) + block_cost s (block_at first last server)))

  abbrev ServersHold : ℕ → ℕ → Type 0
  ServersHold first last = (u : ℕ) → 1 ≤ u → u ≤ period_count s → Holds first last u

  abbrev LastsHold : ℕ → Type 0
  LastsHold first = (l : ℕ) → 1 ≤ l → l ≤ position_count s → ServersHold first l

  servers_out : (first last : ℕ) → ServersHold first last ⊎ ((u : ℕ) × (1 ≤ u) × (u ≤ period_count s) × (Holds first last u → ⊥) × ((k : ℕ) → 1 ≤ k → k < u → Holds first last k))
  servers_out first last = all_or_first (Holds first last) (holds_or_not first last) (period_count s)

  servers_or_not : (first last : ℕ) → Decided (ServersHold first last)
  servers_or_not first last = ⊎_elim (λ all. inl all) (λ found. inr (λ all. found.3 (all found.0 found.1 found.2))) (servers_out first last)

  lasts_out : (first : ℕ) → LastsHold first ⊎ ((l : ℕ) × (1 ≤ l) × (l ≤ position_count s) × (ServersHold first l → ⊥) × ((k : ℕ) → 1 ≤ k → k < l → ServersHold first k))
  lasts_out first = all_or_first (ServersHold first) (servers_or_not first) (position_count s)

  lasts_or_not : (first : ℕ) → Decided (LastsHold first)
  lasts_or_not first = ⊎_elim (λ all. inl all) (λ found. inr (λ all. found.3 (all found.0 found.1 found.2))) (lasts_out first)

  -- at one that doesn't hold there is a first block
  first_block : (f l u : ℕ) → ((k : ℕ) → 1 ≤ k → k < f → LastsHold k) → ((k : ℕ) → 1 ≤ k → k < l → ServersHold f k) → ((k : ℕ) → 1 ≤ k → k < u → Holds f l k) → (Holds f l u → ⊥) → IsFirstBroken s g (block_at f l u)
  first_block f l u firsts lasts servers broken =
      ⊎_elim
      (λ is. record {
        block = is;
        broken = λ holds. broken (λ _. holds);
        before = λ c block sooner. ⊎_elim
            (λ less. firsts c.first block.low less c.last (omega (arith, block.low, block.order)) block.high c.server block.server.low block.server.high block)
            (λ same. ⊎_elim
            (λ less. at_first c block same.0 less)
            (λ both. at_last c block same.0 both.0 both.1)
            same.1)
            sooner;
      })
      (λ none. absurd (broken (λ is. absurd (none is))))
      (block_or_not (block_at f l u))
    where
      at_first : (c : Block) → IsBlock s c → c.first ≡ f → c.last < l → HoldsOver s g c
      at_first c block same less = subst (λ k. ServersHold k c.last) (sym same) (lasts c.last (omega (arith, block.low, block.order)) less) c.server block.server.low block.server.high block

      at_last : (c : Block) → IsBlock s c → c.first ≡ f → c.last ≡ l → c.server < u → HoldsOver s g c
      at_last c block same other less = subst (λ k. Holds k c.last c.server) (sym same) (subst (λ k. Holds f k c.server) (sym other) (servers c.server block.server.low less)) block

  pub blocks_out : ((b : Block) → IsBlock s b → HoldsOver s g b) ⊎ ((f l u : ℕ) × IsFirstBroken s g (block_at f l u))
  blocks_out =
      ⊎_elim
      (λ all. inl (λ b block. all b.first block.low (omega (arith, block.order, block.high)) b.last (omega (arith, block.low, block.order)) block.high b.server block.server.low block.server.high block))
      (λ one. ⊎_elim
      (λ all. absurd (one.3 all))
      (λ two. ⊎_elim
      (λ all. absurd (two.3 all))
      (λ three. inr (one.0, two.0, three.0, first_block one.0 two.0 three.0 one.4 two.4 three.4 three.3))
      (servers_out one.0 two.0))
      (lasts_out one.0))
      (all_or_first LastsHold lasts_or_not (position_count s))

-- what the laws below say
pub record CutGrounds : Type 0 where
  pub totals : TotalsAreOne
  pub weights : WeightsAreOne
  pub echelons : EchelonRowsAreOne
  pub hold : CutsHold
  pub go_on : CutRowsGoOn
  pub small : SmallCutsGoOn

module _
    (by : CutGrounds) (m : Problem) (limits : IsWithinLimits m) (rank : ℕ → ℕ) (ranks : IsRanking m rank) (a : ℕ → ℕ) (are : AreLargestTotals m a)
    (v : ℕ → ℕ → ℕ) (weigh : AreWeights (bill_of m) v) where
  pub one_total : (b : ℕ → ℕ) → AreLargestTotals m b → EachItem m (λ i. a i ≡ b i)
  one_total b totals = by.totals m rank a b ranks are totals

  abbrev SameAt : ℕ → (ℕ → ℕ → ℕ) → Type 0
  SameAt i w = EachItem m (λ k. v i k ≡ w i k)

  one_weight : (w : ℕ → ℕ → ℕ) → AreWeights (bill_of m) w → (i : ℕ) → IsItem m i → SameAt i w
  one_weight w weights i is = by.weights m rank v w ranks weigh weights i is.0 is.1

  -- ---- lead times
  lead_or_not : (i : ℕ) → Decided (IsLeadFree m v i)
  lead_or_not i =
      ⊎_elim (λ all. inl all) (λ found. inr (λ free. found.3 (free found.0 found.1 found.2)))
      (all_or_first (λ j. 0 < v i j → (item_at m j).lead ≡ 0) (λ j. if_or_not (lt_or_not 0 (v i j)) (cases_eq (item_at m j).lead 0)) (item_count m))

  lead_to : (i : ℕ) (w : ℕ → ℕ → ℕ) → SameAt i w → IsLeadFree m v i → IsLeadFree m w i
  lead_to i w same free j low high some = free j low high (omega (arith, some, same j low high))

  lead_from : (i : ℕ) (w : ℕ → ℕ → ℕ) → SameAt i w → IsLeadFree m w i → IsLeadFree m v i
  lead_from i w same free j low high some = free j low high (omega (arith, some, same j low high))

  -- ---- an echelon that a program could have
  abbrev has_back : ℕ → Bool
  has_back j = is_some (item_at m j).backlog_cost

  backed_or_not : (i : ℕ) → Decided (IsBacklogged m v i)
  backed_or_not i =
      ⊎_elim
      (λ none. inr (λ is. none is.0 is.1 is.2 (is.3, is.4)))
      (λ found. inl (whole found.0 found.1 found.2 found.3))
      (all_or_first (λ j. (0 < v i j) × HasBack m j → ⊥) (λ j. ⊎_elim (λ is. inr (λ none. none is)) (λ none. inl none) (both_or_not (lt_or_not 0 (v i j)) (some_or_not (item_at m j).backlog_cost))) (item_count m))
    where
      whole : (j : ℕ) → 1 ≤ j → j ≤ item_count m → (((0 < v i j) × HasBack m j → ⊥) → ⊥) → IsBacklogged m v i
      whole j low high some =
          ⊎_elim (λ is. (j, low, high, is.0, is.1)) (λ none. absurd (some none)) (both_or_not (lt_or_not 0 (v i j)) (some_or_not (item_at m j).backlog_cost))

  bit_of : {A : Type 0} → Decided A → Bool
  bit_of (inl is) = true
  bit_of (inr none) = false

  bit_is : {A : Type 0} (x : Decided A) → IsTrue (bit_of x) → A
  unfolding bit_of
  bit_is (inl is) e = is
  bit_is (inr none) e = cc e

  is_bit : {A : Type 0} (x : Decided A) → A → IsTrue (bit_of x)
  unfolding bit_of
  is_bit (inl is) here = refl
  is_bit (inr none) here = absurd (none here)

  abbrev demands : ℕ → List ℕ
  demands i = list_of ℕ 0 (asked_in_echelon m v i).demand m.periods

  abbrev weights_at : ℕ → List ℕ
  weights_at i = list_of ℕ 0 (v i) (item_count m)

  abbrev backs_at : List Bool
  backs_at = list_of Bool false has_back (item_count m)

  echelon : ℕ → EchelonItem
  echelon i = record {
    item = i;
    demand = vec_of ℕ (demands i) (omega (arith, list_size ℕ 0 (asked_in_echelon m v i).demand m.periods, limits.periods));
    opening = (asked_in_echelon m v i).opening;
    end_min = (asked_in_echelon m v i).end_min;
    weights = vec_of ℕ (weights_at i) (omega (arith, list_size ℕ 0 (v i) (item_count m), limits.items));
    backs = vec_of Bool backs_at (omega (arith, list_size Bool false has_back (item_count m), limits.items));
    backlogged = bit_of (backed_or_not i);
  }

  is_echelon : (i : ℕ) (w : ℕ → ℕ → ℕ) → SameAt i w → IsEchelonOf m w i (echelon i)
  unfolding echelon vec_of
  is_echelon i w same = record {
    item = refl;
    demand = record {
      size = list_size ℕ 0 (asked_in_echelon m v i).demand m.periods;
      each = λ t low high. list_is ℕ 0 (asked_in_echelon m v i).demand m.periods t low high ∙ weighed (λ j. demand m j t);
    };
    opening = weighed (λ j. (item_at m j).opening);
    end_min = weighed (λ j. (item_at m j).end_min);
    weights = record { size = list_size ℕ 0 (v i) (item_count m); each = λ k low high. list_is ℕ 0 (v i) (item_count m) k low high ∙ same k low high };
    backs = record {
      size = list_size Bool false has_back (item_count m);
      each = λ k low high.
          let e = list_is Bool false has_back (item_count m) k low high in
          ((λ is. sym e ∙ is), (λ is. e ∙ is));
    };
    backlogged = (
      (λ is. let old = bit_is (backed_or_not i) is in (old.0, old.1, old.2, omega (arith, old.3, same old.0 old.1 old.2), old.4)),
      (λ is. is_bit (backed_or_not i) (is.0, is.1, is.2, omega (arith, is.3, same is.0 is.1 is.2), is.4)),
    );
  }
    where
      weighed : (f : ℕ → ℕ) → in_echelon m v i f ≡ in_echelon m w i f
      weighed f = sum_to-same (item_count m) (λ j. v i j * f j) (λ j. w i j * f j) (λ j low high. ap (λ k. k * f j) (same j low high))

  -- ---- one cut
  item_or_not : (i : ℕ) → Decided (IsItem m i)
  item_or_not i = both_or_not (le_or_not 1 i) (le_or_not i (item_count m))

  lead_free : (i : ℕ) (w : ℕ → ℕ → ℕ) → IsItem m i → SameAt i w → IsLeadFree m v i → HasEchelon m w i
  lead_free i w is same free = record { low = is.0; high = is.1; lead_free = lead_to i w same free }

  abbrev HasRow : List LinRow → CutShape → Type 0
  HasRow earlier cut = (row : LinRow) × OfProblem m (λ b w. IsCutRow m b w earlier cut row) × WithTotals m (λ b. IsSmallCut m b earlier cut)

  abbrev HasFault : List LinRow → CutShape → ℕ → Type 0
  HasFault earlier cut line = (at : ℕ) × (w : Why) × OfProblem m (λ b weight. IsCutFault m b weight earlier cut line at w)

  ls_form : (item last : ℕ) (chosen : List Bool) → Decided (IsLsForm m item last chosen)
  ls_form item last chosen =
      ⊎_elim
      (λ is. ⊎_elim
      (λ low. ⊎_elim
      (λ high. ⊎_elim
      (λ size. inl (record { item_exists = is; low = low; high = high; size = size }))
      (λ none. inr (λ f. none f.size))
      (cases_eq (length chosen) last))
      (λ none. inr (λ f. none f.high))
      (le_or_not last m.periods))
      (λ none. inr (λ f. none f.low))
      (le_or_not 1 last))
      (λ none. inr (λ f. none f.item_exists))
      (item_or_not item)

  ls_out : (earlier : List LinRow) (item last : ℕ) (chosen : List Bool) (line : ℕ) → HasRow earlier (LsCut item last chosen) ⊎ HasFault earlier (LsCut item last chosen) line
  ls_out earlier item last chosen line =
      ⊎_elim
      (λ form. ⊎_elim
      (λ free. inl (
        ls_row (echelon_in (echelon item)) last (marked chosen),
        (λ b w totals weights.
            let same = one_weight w weights item form.item_exists in (
              record { echelon = lead_free item w form.item_exists same free; low = form.low; high = form.high; size = form.size },
              (by.echelons m w item (echelon item) (is_echelon item w same)).0 last (marked chosen) form.high,
            )),
        (λ b totals. tt),
      ))
      (λ leads. inr (line, why.Lead, λ b w totals weights. (refl, form, λ free. leads (lead_from item w (one_weight w weights item form.item_exists) free))))
      (lead_or_not item))
      (λ none. inr (line, why.Range, λ b w totals weights. (refl, none)))
      (ls_form item last chosen)

  price_form : (item : ℕ) (l : PriceLists) → Decided (IsPriceForm m item l)
  price_form item l =
      ⊎_elim
      (λ is. ⊎_elim
      (λ price. ⊎_elim
      (λ prices. inl (record { item_exists = is; price = price; prices = prices }))
      (λ none. inr (λ f. none f.prices))
      (priced_or_not m.periods l.unit l.hold l.back))
      (λ none. inr (λ f. none f.price))
      (series_or_not m.periods MAX_PRICE l.price))
      (λ none. inr (λ f. none f.item_exists))
      (item_or_not item)

  price_out : (earlier : List LinRow) (item : ℕ) (l : PriceLists) (line : ℕ) → HasRow earlier (PriceCut item l) ⊎ HasFault earlier (PriceCut item l) line
  price_out earlier item l line =
      ⊎_elim
      (λ form. ⊎_elim
      (λ free. inl (
        price_row (echelon_in (echelon item)) l.price l.unit l.hold l.back,
        (λ b w totals weights.
            let same = one_weight w weights item form.item_exists in (
              record { echelon = lead_free item w form.item_exists same free; price = form.price; prices = form.prices },
              (by.echelons m w item (echelon item) (is_echelon item w same)).1 l.price l.unit l.hold l.back,
            )),
        (λ b totals. tt),
      ))
      (λ leads. inr (line, why.Lead, λ b w totals weights. (refl, form, λ free. leads (lead_from item w (one_weight w weights item form.item_exists) free))))
      (lead_or_not item))
      (λ none. inr (line, why.Range, λ b w totals weights. (refl, none)))
      (price_form item l)

  block_form : (item : ℕ) (l : BlockLists) → Decided (IsBlockForm m item l)
  block_form item l =
      ⊎_elim
      (λ is. ⊎_elim
      (λ setup. ⊎_elim
      (λ prices. ⊎_elim
      (λ steps. inl (record { item_exists = is; setup = setup; prices = prices; steps = steps }))
      (λ none. inr (λ f. none f.steps))
      (at_most_or_not MAX_STEP l.steps))
      (λ none. inr (λ f. none f.prices))
      (priced_or_not m.periods l.unit l.hold l.back))
      (λ none. inr (λ f. none f.setup))
      (series_or_not m.periods MAX_PRICE l.setup))
      (λ none. inr (λ f. none f.item_exists))
      (item_or_not item)

  single : ℕ → BlockLists → Single
  single item l = priced (echelon_in (echelon item)) l.setup l.unit l.hold l.back

  single_is : (item : ℕ) (l : BlockLists) (w : ℕ → ℕ → ℕ) → SameAt item w → single item l ≡ single_priced m w item l
  unfolding single
  single_is item l w same = (by.echelons m w item (echelon item) (is_echelon item w same)).3 l.setup l.unit l.hold l.back

  block_out : (earlier : List LinRow) (item : ℕ) (l : BlockLists) (line : ℕ) → HasRow earlier (BlockCut item l) ⊎ HasFault earlier (BlockCut item l) line
  block_out earlier item l line =
      ⊎_elim
      (λ form. ⊎_elim
      (λ free. ⊎_elim
      (λ size. ⊎_elim
      (λ rises. inl (good form free size rises))
      (λ found. inr (
        line,
        why.Block found.0 found.1 found.2,
        λ b w totals weights.
            let same = one_weight w weights item form.item_exists in
            let e = single_is item l w same in (
              refl,
              form,
              lead_to item w same free,
              subst (λ s. length l.steps ≡ position_count s) e size,
              subst (λ s. IsFirstBroken s l.steps (record { first = found.0; last = found.1; server = found.2 })) e found.3,
            ),
      ))
      (blocks_out (single item l) l.steps))
      (λ other. inr (
        line,
        why.Range,
        λ b w totals weights.
            let same = one_weight w weights item form.item_exists in
            (refl, inr (form, lead_to item w same free, λ size. other (subst (λ s. length l.steps ≡ position_count s) (sym (single_is item l w same)) size))),
      ))
      (cases_eq (length l.steps) (position_count (single item l))))
      (λ leads. inr (line, why.Lead, λ b w totals weights. (refl, form, λ free. leads (lead_from item w (one_weight w weights item form.item_exists) free))))
      (lead_or_not item))
      (λ none. inr (line, why.Range, λ b w totals weights. (refl, inl none)))
      (block_form item l)
    where
      good : IsBlockForm m item l → IsLeadFree m v item → length l.steps ≡ position_count (single item l) → ((b : Block) → IsBlock (single item l) b → HoldsOver (single item l) l.steps b) → HasRow earlier (BlockCut item l)
      good form free size rises = (
        block_row (echelon_in (echelon item)) l.setup l.unit l.hold l.back l.steps,
        (λ b w totals weights.
            let same = one_weight w weights item form.item_exists in (
              record {
                echelon = lead_free item w form.item_exists same free;
                setup = form.setup;
                prices = form.prices;
                steps = form.steps;
                potentials = subst (λ s. ArePotentials s l.steps) (single_is item l w same) (record { size = size; blocks = rises });
              },
              (by.echelons m w item (echelon item) (is_echelon item w same)).2 l.setup l.unit l.hold l.back l.steps,
            )),
        (λ b totals. tt),
      )

  round_out : (earlier : List LinRow) → AreOfProblem m earlier → (divisor : ℕ) (parts : List Part) (line : ℕ) → HasDivisor (RoundCut divisor parts) → HasRow earlier (RoundCut divisor parts) ⊎ HasFault earlier (RoundCut divisor parts) line
  round_out earlier of_rows divisor parts line some =
      ⊎_elim
      (λ exist. ⊎_elim
      (λ small.
      let rounded = has_rounded m limits (rows_of (names m a earlier []) parts) (times_of parts) divisor (rows_are m limits a one_total earlier [] of_rows nothing parts exist) some.0 in
      inl (
        rounded.0,
        (λ b w totals weights.
            let same = one_total b totals in (
              record { low = some.0; high = some.1; parts_exist = parts_same m limits a one_total earlier [] b same parts exist },
              subst (λ rows. IsRounded rows (times_of parts) divisor rounded.0) (rows_same m limits a one_total earlier [] b same parts exist) rounded.1,
            )),
        (λ b totals. small_same m limits a one_total earlier [] b (one_total b totals) parts exist small),
      ))
      (λ large. inr (
        line,
        why.TooLarge,
        λ b w totals weights.
            let same = one_total b totals in
            (refl, parts_same m limits a one_total earlier [] b same parts exist, λ small. large (small_back m limits a one_total earlier [] b same parts exist small)),
      ))
      (small_or_not m limits a one_total earlier [] of_rows nothing parts exist))
      (λ wrong. ⊎_elim
      (λ range. inr (line + 1 + range.0, why.Range, λ b w totals weights. range_wrong m limits a one_total earlier [] b (one_total b totals) parts line range))
      (λ sign. inr (line + 1 + sign.0, why.Sign, λ b w totals weights. sign_wrong m limits a one_total earlier [] b (one_total b totals) parts line sign))
      wrong)
      (parts_out m limits a one_total earlier [] parts)
    where
      nothing : AreChoices m []
      nothing = All-nil (λ (x : Bound). IsChoice m x.column)

  cut_out : (earlier : List LinRow) → AreOfProblem m earlier → (cut : CutShape) (line : ℕ) → HasDivisor cut → HasRow earlier cut ⊎ HasFault earlier cut line
  cut_out earlier of_rows (LsCut item last chosen) line some = ls_out earlier item last chosen line
  cut_out earlier of_rows (PriceCut item l) line some = price_out earlier item l line
  cut_out earlier of_rows (BlockCut item l) line some = block_out earlier item l line
  cut_out earlier of_rows (RoundCut divisor parts) line some = round_out earlier of_rows divisor parts line some

  -- ---- all cuts, one after the other
  pub rows_of_problem : (cuts : List CutShape) (rows : List LinRow) → HaveGoodRows m cuts rows → AreOfProblem m rows
  rows_of_problem cuts rows good = (by.hold m rank a v limits.some_period ranks are weigh cuts rows (good a v are weigh).are).1

  abbrev CutsFault : List CutShape → Type 0
  CutsFault cuts = (at : ℕ) × (w : Why) × OfProblem m (λ b weight. IsCutsFault m b weight cuts at w)

  abbrev CutsGood : List CutShape → Type 0
  CutsGood cuts = (rows : List LinRow) × HaveGoodRows m cuts rows

  take_front : (xs ys : List CutShape) → take (length xs) (xs ++ ys) ≡ xs
  take_front [] ys = refl
  take_front (x ∷ xs) ys = ap (λ zs. x ∷ zs) (take_front xs ys)

  faulty : (done rest : List CutShape) (cut : CutShape) (rows : List LinRow) → HaveGoodRows m done rows → HasFault rows cut (first_line + length (all_cut_values done)) → CutsFault (done ++ (cut ∷ rest))
  faulty done rest cut rows good fault = (
    fault.0,
    fault.1,
    λ b w totals weights.
        let front = take_front done (cut ∷ rest) in
        let here = good b w totals weights in
        record {
          place = length done;
          exists = omega (arith, length-append done (cut ∷ rest));
          rows = rows;
          before = subst (λ cs. AreCutRows m b w [] cs rows) (sym front) here.are;
          small = subst (λ cs. AreSmallCuts m b [] cs rows) (sym front) here.small;
          fault = subst (λ cs. IsCutFault m b w rows (slice_index_or (done ++ (cut ∷ rest)) (length done) no_cut) (first_line + length (all_cut_values cs)) fault.0 fault.1) (sym front)
              (subst (λ c. IsCutFault m b w rows c (first_line + length (all_cut_values done)) fault.0 fault.1) (sym (get_or-append_seam done cut rest no_cut)) (fault.2 b w totals weights));
        },
  )

  cuts_from : (done rest : List CutShape) (rows : List LinRow) → HaveGoodRows m done rows → All HasDivisor rest → CutsGood (done ++ rest) ⊎ CutsFault (done ++ rest)
  cuts_from done [] rows good some = subst (λ cs. CutsGood cs ⊎ CutsFault cs) (sym (append-nil done)) (inl (rows, good))
  cuts_from done (cut ∷ rest) rows good some =
      ⊎_elim
      (λ has. subst (λ cs. CutsGood cs ⊎ CutsFault cs) (append_assoc done (cut ∷ []) rest)
      (cuts_from (done ++ (cut ∷ [])) rest (rows ++ (has.0 ∷ [])) (λ b w totals weights.
      let here = good b w totals weights in
      record {
        are = by.go_on m b w done rows cut has.0 here.are (has.1 b w totals weights);
        small = by.small m b done rows cut has.0 here.small (has.2 b totals);
      })
      (All-tail HasDivisor cut rest some)))
      (λ fault. inr (faulty done rest cut rows good fault))
      (cut_out rows (rows_of_problem done rows good) cut (first_line + length (all_cut_values done)) (All-head HasDivisor cut rest some))

  pub cuts_out : (cuts : List CutShape) → All HasDivisor cuts → CutsGood cuts ⊎ CutsFault cuts
  cuts_out cuts some = cuts_from [] cuts [] (λ b w totals weights. record { are = tt; small = tt }) some
