-- The certificate that an item has no room for what is left of its opening stock.
use Rattle.std.specs.Prelude.{ℕ, zero, suc, ℤ, pos, negsuc, None, List, [], ◌∷◌, ◌++◌}
use Rattle.lot_sizing.specs.Problem.{IsUncoupled, IsWithinLimits, Problem}
use Rattle.lin_rows.specs.declared.base.RowName.{RowName}
use Rattle.lin_rows.specs.declared.base.RowName.TheVariants.{Balance, EndMax}
use Rattle.cert_lines.specs.declared.limits.TheConstants.{FIRST_CERT_VERSION}
use Rattle.cert_lines.specs.declared.parts.Claim.TheVariants.{Infeasible}
use Rattle.cert_lines.specs.declared.parts.Part.{Part}
use Rattle.cert_lines.specs.Shapes.{FarkasLeaf}
use Rattle.certificate.specs.Shapes.{End, Shape}
use Rattle.uncoupled.specs.Items.{HasNoRoom}
use Rattle.cert_checker.specs.Checks.{IsCertified}

abbrev pub part : RowName → ℤ → Part
part row times = record { row = row; times = times }

-- the balances of an item in the first periods, each subtracted
abbrev pub balances : ℕ → ℕ → List Part
balances i zero = []
balances i (suc t) = balances i t ++ (part (Balance i (suc t)) (negsuc 0) ∷ [])

-- they add to: what is left in the end is the opening stock, and what is made, less all demand; but it is no more than the largest end stock
abbrev pub no_room_parts : ℕ → ℕ → List Part
no_room_parts periods i = balances i periods ++ (part (EndMax i) (pos 1) ∷ [])

abbrev pub no_room_shape : Problem → ℕ → Shape
no_room_shape m i = record { version = FIRST_CERT_VERSION; claim = Infeasible; cuts = []; tree = End (FarkasLeaf (no_room_parts m.periods i)) }

-- it is accepted, whatever the largest totals and the weights are
abbrev pub NoRoomIsCertified : Type 0
NoRoomIsCertified =
    (m : Problem) (total : ℕ → ℕ) (weight : ℕ → ℕ → ℕ) (i : ℕ) → IsWithinLimits m → IsUncoupled m → HasNoRoom m i
    → IsCertified m total weight (no_room_shape m i) None
