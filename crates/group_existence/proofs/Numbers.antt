-- Each group has a number or no choice, and so lists of groups.
use Rattle.std.proofs.Common.{◌⊎◌, ⊎_elim, inl, inr, ℕ, refl, List, [], ◌∷◌, map}
use Rattle.std.specs.Prelude.{◌-◌}
use Rattle.lot_sizing.specs.Problem.{Problem}
use Rattle.lin_rows.specs.declared.column.Column.{Column}
use Rattle.item_groups.specs.declared.group.ChainLink.{ChainLink}
use Rattle.item_groups.specs.declared.group.Group.{Group}
use Rattle.item_groups.specs.declared.group.Group.TheVariants as group
use Rattle.reduced_groups.specs.Groups.{Known, chain_levels, late_lots_in, lots_in, short_lots_in, stocks_worth}
use Rattle.reduced_groups.specs.Numbers.{AreNumbersOf, IsChainFloor, IsNumberOf, LacksChoice, SomeLacksChoice}
use Rattle.reduced_groups.specs.Floors.{shape_of}
use Rattle.group_existence.specs.Laws.{NumbersExist}
use Rattle.group_existence.proofs.Singles.{item_number, lots_number}
use Rattle.group_existence.proofs.Late.{late_number}
use Rattle.group_existence.proofs.Chains.{chain_number}

module _ (m : Problem) (known : Known) (price : Column → ℕ) where
  chain_floor : (low : ChainLink) (rest : List ChainLink) → (amount : ℕ) × IsChainFloor m known.start price low rest amount
  chain_floor low rest =
      let least = chain_number m.periods (chain_levels m known.start price low rest) in
      (least.0 - stocks_worth m low rest, record { cost = least.0; least = least.1; left = refl })

  number_of : (g : Group) → ((amount : ℕ) × IsNumberOf m known price (shape_of g) amount) ⊎ LacksChoice m known price (shape_of g)
  number_of (group.Item i) = inl (item_number m known.start price i)
  number_of (group.Late i share) = inl (late_number (late_lots_in m known price i share))
  number_of (group.Quantities i) = lots_number (lots_in m known price i)
  number_of (group.LateQuantities i shares) = lots_number (short_lots_in m known price i shares)
  number_of (group.Pair low top) = inl (chain_floor low (top ∷ []))
  number_of (group.Triple low mid top) = inl (chain_floor low (mid ∷ (top ∷ [])))

  numbers_of : (groups : List Group) → ((amounts : List ℕ) × AreNumbersOf m known price (map shape_of groups) amounts) ⊎ SomeLacksChoice m known price (map shape_of groups)
  numbers_of [] = inl ([], tt)
  numbers_of (g ∷ groups) =
      ⊎_elim
      (λ one. ⊎_elim
      (λ rest. inl (one.0 ∷ rest.0, (one.1, rest.1)))
      (λ lacks. inr (inr lacks))
      (numbers_of groups))
      (λ lacks. inr (inl lacks))
      (number_of g)

pub numbers_exist : NumbersExist
numbers_exist m known price groups = numbers_of m known price groups
