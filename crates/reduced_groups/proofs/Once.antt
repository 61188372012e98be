-- A group has one number.
use Rattle.std.proofs.Common.{◌≡◌, ◌-◌, ◌∙◌, ⊎_elim, ℕ, refl, sym, ap, arith, List, [], ◌∷◌}
use Rattle.lot_sizing.specs.Problem.{Problem}
use Rattle.lin_rows.specs.declared.column.Column.{Column}
use Rattle.reduced_groups.specs.Groups.{ChainGroup, GroupShape, ItemGroup, Known, LateGroup, LateQuantityGroup, QuantityGroup, chain_levels, stocks_worth}
use Rattle.reduced_groups.specs.Numbers.{AreNumbersOf, IsNumberOf, LacksChoice, SomeLacksChoice}
use Rattle.reduced_groups.proofs.AlikeLevels.{one_least}

module _ (m : Problem) (known : Known) (price : Column → ℕ) where
  one_number : (s : GroupShape) (a b : ℕ) → IsNumberOf m known price s a → IsNumberOf m known price s b → a ≡ b
  one_number (ItemGroup i) a b is_a is_b =
      let (qa, choice_a, cost_a) = is_a.some in
      let (qb, choice_b, cost_b) = is_b.some in
      omega (arith, is_a.least qb choice_b, cost_b, is_b.least qa choice_a, cost_a)
  one_number (LateGroup i shares) a b is_a is_b =
      let (qa, short_a, choice_a, cost_a) = is_a.some in
      let (qb, short_b, choice_b, cost_b) = is_b.some in
      omega (arith, is_a.least qb short_b choice_b, cost_b, is_b.least qa short_a choice_a, cost_a)
  one_number (QuantityGroup i) a b is_a is_b =
      let (qa, choice_a, cost_a) = is_a.some in
      let (qb, choice_b, cost_b) = is_b.some in
      omega (arith, is_a.least qb choice_b, cost_b, is_b.least qa choice_a, cost_a)
  one_number (LateQuantityGroup i shares) a b is_a is_b =
      let (qa, choice_a, cost_a) = is_a.some in
      let (qb, choice_b, cost_b) = is_b.some in
      omega (arith, is_a.least qb choice_b, cost_b, is_b.least qa choice_a, cost_a)
  one_number (ChainGroup low rest) a b is_a is_b =
      is_a.left ∙ ap (λ c. c - stocks_worth m low rest) (one_least m.periods (chain_levels m known.start price low rest) is_a.cost is_b.cost is_a.least is_b.least) ∙ sym is_b.left

  pub one_list : (shapes : List GroupShape) (a b : List ℕ) → AreNumbersOf m known price shapes a → AreNumbersOf m known price shapes b → a ≡ b
  one_list [] [] [] is_a is_b = refl
  one_list [] (x ∷ a) b is_a is_b = absurd is_a
  one_list [] [] (y ∷ b) is_a is_b = absurd is_b
  one_list (s ∷ shapes) [] b is_a is_b = absurd is_a
  one_list (s ∷ shapes) (x ∷ a) [] is_a is_b = absurd is_b
  one_list (s ∷ shapes) (x ∷ a) (y ∷ b) is_a is_b = ap (λ z. z ∷ a) (one_number s x y is_a.0 is_b.0) ∙ ap (λ zs. y ∷ zs) (one_list shapes a b is_a.1 is_b.1)

  number_lacks : (s : GroupShape) (a : ℕ) → IsNumberOf m known price s a → LacksChoice m known price s → ⊥
  number_lacks (ItemGroup i) a is lacks = lacks
  number_lacks (LateGroup i shares) a is lacks = lacks
  number_lacks (QuantityGroup i) a is lacks = let (q, choice, costs) = is.some in lacks q choice
  number_lacks (LateQuantityGroup i shares) a is lacks = let (q, choice, costs) = is.some in lacks q choice
  number_lacks (ChainGroup low rest) a is lacks = lacks

  pub numbers_lack : (shapes : List GroupShape) (amounts : List ℕ) → AreNumbersOf m known price shapes amounts → SomeLacksChoice m known price shapes → ⊥
  numbers_lack [] amounts are lacks = lacks
  numbers_lack (s ∷ shapes) [] are lacks = are
  numbers_lack (s ∷ shapes) (a ∷ amounts) are lacks = ⊎_elim (λ own. number_lacks s a are.0 own) (λ rest. numbers_lack shapes amounts are.1 rest) lacks
