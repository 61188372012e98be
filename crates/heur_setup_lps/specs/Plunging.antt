-- Plunges over setups.
use Rattle.std.specs.Prelude.{⊤}
use Rattle.lot_sizing.specs.Problem.{Problem}
use Rattle.plan_rules.specs.Cells.{Fits}
use Rattle.own_plan.specs.Made.{IsMade}
use Rattle.heur_setup_lps.specs.declared.plunging.Dive.{Dive}
use Rattle.heur_setup_lps.specs.declared.plunging.After.{After}
use Rattle.heur_setup_lps.specs.declared.plunging.After.TheVariants.{Found, Open, Ended}

-- the numbers of setups are those of the problem's items and periods
pub record HasShape (m : Problem) (dive : Dive) : Type 0 where
  pub low : Fits m dive.low
  pub high : Fits m dive.high

-- a plan that is found was made
abbrev pub IsAfter : Problem → After → Type 0
IsAfter m (Found planned) = IsMade m planned
IsAfter m Open = ⊤
IsAfter m Ended = ⊤
