-- The plain list of words of a model that is drawn.
use Rattle.std.proofs.Common.{◌≡◌, ◌∙◌, ◌&&◌, true, false, [], ◌∷◌, Some, codes, refl}
use Rattle.std.specs.Str.Parse.{digits_value}
use Rattle.clap.specs.Words.{Kinds, Text, built, fault_of, subcommand_of}
use Rattle.clap.specs.Walk.{finished, nothing_held, rows_after}
use Rattle.clap.specs.Simple.{names_of}
use Rattle.clap.specs.Faults.{level_fault}
use Rattle.clap.proofs.OnLiterals.{clap_on_literals}
use Rattle.command_line.specs.Grammar.{planner_app}
use Rattle.lot_sizing.specs.declared.limits.TheConstants.{MAX_ITEMS}
use Rattle.instance_reader.specs.declared.versions.TheConstants.{FIRST_VERSION_PERIODS}
use Rattle.command_line.specs.Words.{request_if, request_in, command_of, is_file_name, is_number, is_seed, generating}
use Rattle.command_line.proofs.Leaves.{asks, held, leaf, takes}
use Rattle.command_line.proofs.Placed.{ArePlaced, EndsWell}

gen_placed : (a b d e : Text) → is_file_name a ≡ true → is_file_name b ≡ true → is_file_name d ≡ true → is_file_name e ≡ true → ArePlaced (leaf (codes "gen")) 1 nothing_held (a ∷ b ∷ d ∷ e ∷ [])
unfolding clap_on_literals
gen_placed a b d e p q r t = (record { name = p; goes = refl; well = refl }, (record { name = q; goes = refl; well = refl }, (record { name = r; goes = refl; well = refl }, (record { name = t; goes = refl; well = refl }, tt))))

gen_ends : (a b d e : Text) → EndsWell (leaf (codes "gen")) (held (codes "gen") (a ∷ b ∷ d ∷ e ∷ []))
unfolding clap_on_literals
gen_ends a b d e = refl

gen_top : (a b d e : Text) (below : Kinds) → below ≡ [] → level_fault (built planner_app).top (names_of (built planner_app)) nothing_held (codes "gen" ∷ a ∷ b ∷ d ∷ e ∷ []) true below ≡ []
unfolding clap_on_literals
gen_top a b d e below none = rw none refl

gen_fault : (a b d e : Text) → level_fault (leaf (codes "gen")) [] nothing_held (a ∷ b ∷ d ∷ e ∷ []) false [] ≡ [] → fault_of planner_app (codes "gen" ∷ a ∷ b ∷ d ∷ e ∷ []) ≡ []
unfolding clap_on_literals
gen_fault a b d e none = gen_top a b d e _ none

gen_subcommand : (a b d e : Text) → subcommand_of planner_app (codes "gen" ∷ a ∷ b ∷ d ∷ e ∷ []) ≡ Some (codes "gen", rows_after (leaf (codes "gen")).rules [] (a ∷ b ∷ d ∷ e ∷ []))
unfolding clap_on_literals
gen_subcommand a b d e = refl

gen_asks : (a b d e : Text) → request_in (codes "gen") (finished (leaf (codes "gen")).rules (held (codes "gen") (a ∷ b ∷ d ∷ e ∷ []))) ≡ request_if (is_seed a && (is_number 1 MAX_ITEMS b && (is_number 1 FIRST_VERSION_PERIODS d && is_file_name e))) (generating (digits_value 10 a) (digits_value 10 b) (digits_value 10 d) e)
unfolding clap_on_literals
gen_asks a b d e = refl

pub gen_words : (a b d e : Text) → is_file_name a ≡ true → is_file_name b ≡ true → is_file_name d ≡ true → is_file_name e ≡ true → command_of (codes "gen" ∷ a ∷ b ∷ d ∷ e ∷ []) ≡ request_if (is_seed a && (is_number 1 MAX_ITEMS b && (is_number 1 FIRST_VERSION_PERIODS d && is_file_name e))) (generating (digits_value 10 a) (digits_value 10 b) (digits_value 10 d) e)
gen_words a b d e p q r t =
    let taken = takes (codes "gen") (a ∷ b ∷ d ∷ e ∷ []) refl (gen_placed a b d e p q r t) (gen_ends a b d e) in
    asks (codes "gen") (a ∷ b ∷ d ∷ e ∷ []) _ (gen_fault a b d e taken.level) (gen_subcommand a b d e) taken.rows ∙ gen_asks a b d e
