-- Cuts of (l,S) rows, each with its row, and how they are put after others.
use Rattle.std.proofs.Common.{◌≡◌, ◌≤◌, ◌<◌, ◌+◌, ◌-◌, ◌∙◌, inl, inr, ℕ, zero, suc, refl, sym, ap, subst, arith, Bool, List, [], ◌∷◌, ◌++◌, append-nil, append_assoc, length, slice_index_or}
use Rattle.std.specs.Prelude.{map, Option, Some, None}
use Rattle.std.specs.List.{All}
use Rattle.std.proofs.lemmas.List.{map_push}
use Rattle.std.proofs.lemmas.List.Elements.{All-cons, All-nil}
use Rattle.lot_sizing.specs.Problem.{Problem}
use Rattle.lot_sizing.specs.Plan.{Plan, IsFeasible}
use Rattle.lot_sizing.specs.Bill.{AreWeights, bill_of}
use Rattle.lot_sizing.specs.Totals.{AreLargestTotals}
use Rattle.echelon.specs.declared.net.EchelonItem.{EchelonItem}
use Rattle.echelon.specs.Views.{marked}
use Rattle.lin_rows.specs.Columns.{value_in}
use Rattle.lin_rows.specs.Combining.{AllHold, AreOfProblem}
use Rattle.lin_rows.specs.Rows.{HoldsIn, LinRow, whole_point}
use Rattle.echelon_rows.specs.Plans.{AreColumnsOf, AtPlansOf}
use Rattle.echelon_rows.specs.Rows.{echelon_in}
use Rattle.ls_cuts.specs.Points.{Fractions}
use Rattle.ls_cuts.specs.Rows.{HasLsRow, ls_row}
use Rattle.ls_cuts.specs.Steps.{IsFound}
use Rattle.cert_lines.specs.declared.parts.Cut.{Cut}
use Rattle.cert_lines.specs.Shapes.{CutShape, LsCut, cut_shape}
use Rattle.cert_meaning.specs.CutRows.{AreCutRows}
use Rattle.cert_meaning.specs.Laws.{EchelonRowsAreOne, HoldAtPlans}
use Rattle.cert_checker.specs.Cuts.{IsCutEchelon, IsNotLeadFree}
use Rattle.lp_relaxation.specs.Laws.{HasSmallNumbers, LsRowsAreSmall}
use Rattle.lp_relaxation.specs.Rounds.{IsLs}
use Rattle.lp_root.specs.declared.separation.RootCuts.{RootCuts}
use Rattle.lp_root.specs.Rounds.{AreCutsAt, AreCutsOf, AreJoined, IsEchelonAt, PassesAt, PassesFirst}
use Rattle.lp_root.specs.RootSteps.{AreRootCuts, IsRootCut, Puts, PutsEchelon, PutsItem, WithWeights, shapes}

-- ---- one cut
module _ (m : Problem) (i : ℕ) (e : EchelonItem) (has : IsCutEchelon m i e) where
  pub as_long : length e.demand.items ≡ m.periods
  as_long = (has.of_item has.own.0 has.own.1).echelon.demand.size

  pub set_has_row : (l : ℕ) (marks : List Bool) → 1 ≤ l → l ≤ m.periods → length marks ≡ l → HasLsRow e l marks
  set_has_row l marks low high size = record { low = low; high = omega (arith, high, as_long); size = size }

  -- it has its row
  pub root_cut : EchelonRowsAreOne → LsRowsAreSmall → (l : ℕ) (marks : List Bool) (row : LinRow) → 1 ≤ l → l ≤ m.periods → length marks ≡ l → row ≡ ls_row (echelon_in e) l (marked marks) → AtPlansOf e (λ p. HoldsIn p row) → AreColumnsOf e row.terms → IsRootCut m (LsCut i l marks) row
  root_cut one small l marks row low high size is holds columns = record {
    ls = tt;
    row = λ earlier total weight totals are.
        let of = has.of_item weight are in (
          record { echelon = record { low = of.low; high = of.high; lead_free = has.lead_free weight are }; low = low; high = high; size = size },
          is ∙ (one m weight i e of.echelon).0 l (marked marks) high,
        );
    columns = columns m has.own.0 i (has.of_item has.own.0 has.own.1);
    holds = λ p f. holds m has.own.0 i (has.of_item has.own.0 has.own.1) p (has.plans p f);
    small = subst (λ r. HasSmallNumbers r) (sym is) (small e has.within l (marked marks) (omega (arith, high, as_long)));
    unequal = ap (λ r. r.equal) is;
  }

-- ---- lists of them
module _ (m : Problem) where
  pub root_append : (a b : List CutShape) (r s : List LinRow) → AreRootCuts m a r → AreRootCuts m b s → AreRootCuts m (a ++ b) (r ++ s)
  root_append [] b [] s is are = are
  root_append [] b (x ∷ r) s is are = absurd is
  root_append (c ∷ a) b [] s is are = absurd is
  root_append (c ∷ a) b (x ∷ r) s is are = (is.0, root_append a b r s is.1 are)

  pub root_many : (a : List CutShape) (r : List LinRow) → AreRootCuts m a r → length r ≡ length a
  root_many [] [] is = refl
  root_many [] (x ∷ r) is = absurd is
  root_many (c ∷ a) [] is = absurd is
  root_many (c ∷ a) (x ∷ r) is = ap suc (root_many a r is.1)

  pub root_ls : (a : List CutShape) (r : List LinRow) → AreRootCuts m a r → All IsLs a
  root_ls [] r is = All-nil IsLs
  root_ls (c ∷ a) [] is = absurd is
  root_ls (c ∷ a) (x ∷ r) is = All-cons IsLs c a is.0.ls (root_ls a r is.1)

  pub root_rows : (total : ℕ → ℕ) (weight : ℕ → ℕ → ℕ) → AreLargestTotals m total → AreWeights (bill_of m) weight → (earlier : List LinRow) (a : List CutShape) (r : List LinRow) → AreRootCuts m a r → AreCutRows m total weight earlier a r
  root_rows total weight totals are earlier [] [] is = tt
  root_rows total weight totals are earlier [] (x ∷ r) is = absurd is
  root_rows total weight totals are earlier (c ∷ a) [] is = absurd is
  root_rows total weight totals are earlier (c ∷ a) (x ∷ r) is = (is.0.row earlier total weight totals are, root_rows total weight totals are (earlier ++ (x ∷ [])) a r is.1)

  pub root_columns : (a : List CutShape) (r : List LinRow) → AreRootCuts m a r → AreOfProblem m r
  root_columns [] [] is = tt
  root_columns [] (x ∷ r) is = absurd is
  root_columns (c ∷ a) [] is = absurd is
  root_columns (c ∷ a) (x ∷ r) is = (is.0.columns, root_columns a r is.1)

  root_holds : (p : Plan) → IsFeasible m p → (a : List CutShape) (r : List LinRow) → AreRootCuts m a r → AllHold (whole_point (value_in p)) r
  root_holds p f [] [] is = tt
  root_holds p f [] (x ∷ r) is = absurd is
  root_holds p f (c ∷ a) [] is = absurd is
  root_holds p f (c ∷ a) (x ∷ r) is = (is.0.holds p f, root_holds p f a r is.1)

  pub root_hold : (a : List CutShape) (r : List LinRow) → AreRootCuts m a r → HoldAtPlans m r
  root_hold a r is p f = root_holds p f a r is

  -- the cut of a row by its place
  pub root_at : (a : List CutShape) (r : List LinRow) (k : ℕ) (d : LinRow) → k < length r → AreRootCuts m a r → (c : CutShape) × IsRootCut m c (slice_index_or r k d)
  root_at a [] k d less is = absurd (omega (arith, less))
  root_at [] (x ∷ r) k d less is = absurd is
  root_at (c ∷ a) (x ∷ r) zero d less is = (c, is.0)
  root_at (c ∷ a) (x ∷ r) (suc k) d less is = root_at a r k d (omega (arith, less)) is.1

  -- ---- put after others
  pub put_none : (P : List CutShape → Type 0) (list : RootCuts) → P [] → Puts m P list list
  put_none P list is = record { cuts = []; rows = []; cuts_are = sym (append-nil (shapes list)); rows_are = sym (append-nil list.rows.items); root_cuts = tt; are = is }

  pub put_weaker : (P Q : List CutShape → Type 0) (a b : RootCuts) → ((s : List CutShape) → P s → Q s) → Puts m P a b → Puts m Q a b
  put_weaker P Q a b so puts = record { cuts = puts.cuts; rows = puts.rows; cuts_are = puts.cuts_are; rows_are = puts.rows_are; root_cuts = puts.root_cuts; are = so puts.cuts puts.are }

  pub put_then : (P Q R : List CutShape → Type 0) (a b c : RootCuts) → ((s t : List CutShape) → P s → Q t → R (s ++ t)) → Puts m P a b → Puts m Q b c → Puts m R a c
  put_then P Q R a b c so first second = record {
    cuts = first.cuts ++ second.cuts;
    rows = first.rows ++ second.rows;
    cuts_are = second.cuts_are ∙ ap (λ s. s ++ second.cuts) first.cuts_are ∙ append_assoc (shapes a) first.cuts second.cuts;
    rows_are = second.rows_are ∙ ap (λ s. s ++ second.rows) first.rows_are ∙ append_assoc a.rows.items first.rows second.rows;
    root_cuts = root_append first.cuts second.cuts first.rows second.rows first.root_cuts second.root_cuts;
    are = so first.cuts second.cuts first.are second.are;
  }

  pub put_all : (P : List CutShape → Type 0) (a b : RootCuts) → AreRootCuts m (shapes a) a.rows.items → Puts m P a b → AreRootCuts m (shapes b) b.rows.items
  put_all P a b are puts =
      subst (λ s. AreRootCuts m s b.rows.items) (sym puts.cuts_are)
      (subst (AreRootCuts m (shapes a ++ puts.cuts)) (sym puts.rows_are) (root_append (shapes a) puts.cuts a.rows.items puts.rows are puts.root_cuts))

  -- the cut of a set that is found
  pub find_put : (e : EchelonItem) (read : Fractions) (l : ℕ) (marks : List Bool) (row : LinRow) (cut : Cut) (old new : RootCuts) → cut_shape cut ≡ LsCut e.item l marks → IsFound (echelon_in e) read l marks → IsRootCut m (LsCut e.item l marks) row → new.cuts.items ≡ old.cuts.items ++ (cut ∷ []) → new.rows.items ≡ old.rows.items ++ (row ∷ []) → Puts m (AreCutsAt e read l) old new
  find_put e read l marks row cut old new shape found is cuts_are rows_are = record {
    cuts = LsCut e.item l marks ∷ [];
    rows = row ∷ [];
    cuts_are = ap (map cut_shape) cuts_are ∙ map_push cut_shape old.cuts.items cut ∙ ap (λ s. shapes old ++ (s ∷ [])) shape;
    rows_are = rows_are;
    root_cuts = (is, tt);
    are = (marks, found, refl);
  }

  -- ---- joined one by one
  pub joined_next : (P : ℕ → List CutShape → Type 0) (n : ℕ) (a b : List CutShape) → 1 ≤ n → AreJoined (n - 1) P a → P n b → AreJoined (n + 1 - 1) P (a ++ b)
  joined_next P n a b low before last =
      let next : suc (n - 1) ≡ n + 1 - 1 = omega (arith, low) in
      let same : n ≡ suc (n - 1) = omega (arith, low) in
      subst (λ k. AreJoined k P (a ++ b)) next (a, b, before, subst (λ k. P k b) same last, refl)

  -- the cuts of one l more
  pub echelon_next : (e : EchelonItem) (read : Fractions) (l : ℕ) (a b c : RootCuts) → 1 ≤ l → Puts m (AreJoined (l - 1) (AreCutsAt e read)) a b → Puts m (AreCutsAt e read l) b c → Puts m (AreJoined (l + 1 - 1) (AreCutsAt e read)) a c
  echelon_next e read l a b c low = put_then _ _ _ a b c (λ s t. joined_next (AreCutsAt e read) l s t low)

  -- those of one item more
  pub items_next : (read : Fractions) (i : ℕ) (a b c : RootCuts) → 1 ≤ i → Puts m (λ s. WithWeights m (λ weight. AreJoined (i - 1) (AreCutsOf m weight read) s)) a b → Puts m (λ s. WithWeights m (λ weight. AreCutsOf m weight read i s)) b c → Puts m (λ s. WithWeights m (λ weight. AreJoined (i + 1 - 1) (AreCutsOf m weight read) s)) a c
  items_next read i a b c low = put_then _ _ _ a b c (λ s t first second weight are. joined_next (AreCutsOf m weight read) i s t low (first weight are) (second weight are))

  pub items_passed : (read : Fractions) (i l : ℕ) (a b c : RootCuts) → Puts m (λ s. WithWeights m (λ weight. AreJoined (i - 1) (AreCutsOf m weight read) s)) a b → Puts m (λ s. WithWeights m (λ weight. PassesAt m weight read i l s)) b c → Puts m (λ s. WithWeights m (λ weight. PassesFirst m weight read i l s)) a c
  items_passed read i l a b c = put_then _ _ _ a b c (λ s t first second weight are. (s, t, first weight are, second weight are, refl))

  -- ---- those of an item
  module _ (read : Fractions) (i : ℕ) where
    pub none_of_item : (list : RootCuts) → IsNotLeadFree m i → PutsItem m read i None list list
    none_of_item list not = put_none (λ s. WithWeights m (λ weight. AreCutsOf m weight read i s)) list (λ weight are. inl (λ has. not weight are has.lead_free, refl))

    module _ (e : EchelonItem) (has : IsCutEchelon m i e) where
      at_weight : (weight : ℕ → ℕ → ℕ) → AreWeights (bill_of m) weight → IsEchelonAt m weight i e
      at_weight weight are =
          let of = has.of_item weight are in
          record { exists = record { low = of.low; high = of.high; lead_free = has.lead_free weight are }; of_item = of }

      pub item_puts : (end : Option ℕ) (a b : RootCuts) → PutsEchelon m e read end a b → PutsItem m read i end a b
      item_puts None a b puts = put_weaker _ _ a b (λ s is weight are. inr (e, at_weight weight are, is)) puts
      item_puts (Some l) a b (low, high, passes, puts) =
          put_weaker _ _ a b (λ s is weight are. record { echelon = e; is_echelon = at_weight weight are; low = low; high = high; passes = passes; before = is }) puts
