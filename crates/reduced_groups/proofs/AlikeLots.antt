-- Lots in whole quantities that are the same in each period have the same choices and the same least price.
use Rattle.std.proofs.Common.{◌≡◌, ◌≤◌, ◌+◌, ◌-◌, ◌*◌, ◌∙◌, ℕ, sym, ap, arith}
use Rattle.lot_sizing.specs.Sums.{sum_to}
use Rattle.lot_sizing.specs.Problem.{Problem}
use Rattle.lot_sizing.specs.Single.{NetPlan}
use Rattle.lot_sizing.proofs.Sums.{sum_to-same}
use Rattle.lin_rows.specs.declared.column.Column.{Column}
use Rattle.lin_rows.specs.declared.column.Column.TheVariants.{X, Y}
use Rattle.quantity_dp.specs.Lots.{HasNoChoice, IsChoice, IsLeastPrice, Lots, price, price_at}
use Rattle.reduced_groups.specs.Groups.{Known, lots_in, made_cost}

-- what must have been started and the largest lots are the same in each period
pub record HaveSameChoices (a b : Lots) : Type 0 where
  pub periods : a.periods ≡ b.periods
  pub need : (t : ℕ) → 1 ≤ t → t ≤ a.periods → a.need t ≡ b.need t
  pub largest : (t : ℕ) → 1 ≤ t → t ≤ a.periods → a.largest t ≡ b.largest t

-- and prices are, what is asked, and what a unit costs that falls short of it
pub record HaveSamePrices (a b : Lots) : Type 0 where
  pub setup : (t : ℕ) → 1 ≤ t → t ≤ a.periods → a.setup t ≡ b.setup t
  pub unit : (t : ℕ) → 1 ≤ t → t ≤ a.periods → a.unit t ≡ b.unit t
  pub asked : (t : ℕ) → 1 ≤ t → t ≤ a.periods → a.asked t ≡ b.asked t
  pub share : (t : ℕ) → 1 ≤ t → t ≤ a.periods → a.share t ≡ b.share t

choices_turned : (a b : Lots) → HaveSameChoices a b → HaveSameChoices b a
choices_turned a b same = record {
  periods = sym same.periods;
  need = λ t low high. sym (same.need t low (omega (arith, high, same.periods)));
  largest = λ t low high. sym (same.largest t low (omega (arith, high, same.periods)));
}

choice_same : (a b : Lots) (q : NetPlan) → HaveSameChoices a b → IsChoice a q → IsChoice b q
choice_same a b q same is = record {
  setup = λ t low high. is.setup t low (omega (arith, high, same.periods));
  lots = λ t low high. let h : t ≤ a.periods = omega (arith, high, same.periods) in omega (arith, is.lots t low h, ap (λ k. k * q.setup t) (same.largest t low h));
  started = λ t low high. let h : t ≤ a.periods = omega (arith, high, same.periods) in omega (arith, is.started t low h, same.need t low h);
}

pub none_same : (a b : Lots) → HaveSameChoices a b → HasNoChoice a → HasNoChoice b
none_same a b same none = λ q choice. none q (choice_same b a q (choices_turned a b same) choice)

price_same : (a b : Lots) (q : NetPlan) → a.periods ≡ b.periods → HaveSamePrices a b → price a q ≡ price b q
price_same a b q periods same =
    sum_to-same a.periods (price_at a q) (price_at b q) (λ t low high.
    omega (
      arith,
      ap (λ k. k * q.setup t) (same.setup t low high),
      ap (λ k. k * q.make t) (same.unit t low high),
      ap (λ k. k * (a.asked t - sum_to t q.make)) (same.share t low high),
      ap (λ k. b.share t * (k - sum_to t q.make)) (same.asked t low high),
    ))
    ∙ ap (λ n. sum_to n (price_at b q)) periods

pub least_price_same : (a b : Lots) (c : ℕ) → HaveSameChoices a b → HaveSamePrices a b → IsLeastPrice a c → IsLeastPrice b c
least_price_same a b c same prices is = record {
  some = let (q, choice, costs) = is.some in (q, choice_same a b q same choice, sym (price_same a b q same.periods prices) ∙ costs);
  least = λ q choice. omega (arith, is.least q (choice_same b a q (choices_turned a b same) choice), price_same a b q same.periods prices);
}

-- where nothing is asked, lots cost their setups and units alone
pub lots_cost : (m : Problem) (known : Known) (prices : Column → ℕ) (i : ℕ) (q : NetPlan) → price (lots_in m known prices i) q ≡ made_cost m prices i q
lots_cost m known prices i q = sum_to-same m.periods (price_at (lots_in m known prices i) q) (λ t. prices (Y i t) * q.setup t + prices (X i t) * q.make t) (λ t low high. omega arith)
