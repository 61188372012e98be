-- The plain lists of words of commands with one text.
use Rattle.std.proofs.Common.{◌≡◌, ◌∙◌, true, false, [], ◌∷◌, Some, codes, refl}
use Rattle.std.specs.Str.Parse.{digits_value}
use Rattle.clap.specs.Words.{Kinds, Text, built, fault_of, subcommand_of}
use Rattle.clap.specs.Walk.{finished, nothing_held, rows_after}
use Rattle.clap.specs.Simple.{names_of}
use Rattle.clap.specs.Faults.{level_fault}
use Rattle.clap.proofs.OnLiterals.{clap_on_literals}
use Rattle.command_line.specs.Grammar.{planner_app}
use Rattle.command_line.specs.Words.{request_if, request_in, command_of, is_file_name, bounding, demonstrating, is_seed}
use Rattle.command_line.proofs.Leaves.{asks, held, leaf, takes}
use Rattle.command_line.proofs.Placed.{ArePlaced, EndsWell}

bound_placed : (a : Text) → is_file_name a ≡ true → ArePlaced (leaf (codes "bound")) 1 nothing_held (a ∷ [])
unfolding clap_on_literals
bound_placed a p = (record { name = p; goes = refl; well = refl }, tt)

bound_ends : (a : Text) → EndsWell (leaf (codes "bound")) (held (codes "bound") (a ∷ []))
unfolding clap_on_literals
bound_ends a = refl

bound_top : (a : Text) (below : Kinds) → below ≡ [] → level_fault (built planner_app).top (names_of (built planner_app)) nothing_held (codes "bound" ∷ a ∷ []) true below ≡ []
unfolding clap_on_literals
bound_top a below none = rw none refl

bound_fault : (a : Text) → level_fault (leaf (codes "bound")) [] nothing_held (a ∷ []) false [] ≡ [] → fault_of planner_app (codes "bound" ∷ a ∷ []) ≡ []
unfolding clap_on_literals
bound_fault a none = bound_top a _ none

bound_subcommand : (a : Text) → subcommand_of planner_app (codes "bound" ∷ a ∷ []) ≡ Some (codes "bound", rows_after (leaf (codes "bound")).rules [] (a ∷ []))
unfolding clap_on_literals
bound_subcommand a = refl

bound_asks : (a : Text) → request_in (codes "bound") (finished (leaf (codes "bound")).rules (held (codes "bound") (a ∷ []))) ≡ request_if (is_file_name a) (bounding a)
unfolding clap_on_literals
bound_asks a = refl

pub bound_words : (a : Text) → is_file_name a ≡ true → command_of (codes "bound" ∷ a ∷ []) ≡ request_if (is_file_name a) (bounding a)
bound_words a p =
    let taken = takes (codes "bound") (a ∷ []) refl (bound_placed a p) (bound_ends a) in
    asks (codes "bound") (a ∷ []) _ (bound_fault a taken.level) (bound_subcommand a) taken.rows ∙ bound_asks a

demo_placed : (a : Text) → is_file_name a ≡ true → ArePlaced (leaf (codes "demo")) 1 nothing_held (a ∷ [])
unfolding clap_on_literals
demo_placed a p = (record { name = p; goes = refl; well = refl }, tt)

demo_ends : (a : Text) → EndsWell (leaf (codes "demo")) (held (codes "demo") (a ∷ []))
unfolding clap_on_literals
demo_ends a = refl

demo_top : (a : Text) (below : Kinds) → below ≡ [] → level_fault (built planner_app).top (names_of (built planner_app)) nothing_held (codes "demo" ∷ a ∷ []) true below ≡ []
unfolding clap_on_literals
demo_top a below none = rw none refl

demo_fault : (a : Text) → level_fault (leaf (codes "demo")) [] nothing_held (a ∷ []) false [] ≡ [] → fault_of planner_app (codes "demo" ∷ a ∷ []) ≡ []
unfolding clap_on_literals
demo_fault a none = demo_top a _ none

demo_subcommand : (a : Text) → subcommand_of planner_app (codes "demo" ∷ a ∷ []) ≡ Some (codes "demo", rows_after (leaf (codes "demo")).rules [] (a ∷ []))
unfolding clap_on_literals
demo_subcommand a = refl

demo_asks : (a : Text) → request_in (codes "demo") (finished (leaf (codes "demo")).rules (held (codes "demo") (a ∷ []))) ≡ request_if (is_seed a) (demonstrating (digits_value 10 a))
unfolding clap_on_literals
demo_asks a = refl

pub demo_words : (a : Text) → is_file_name a ≡ true → command_of (codes "demo" ∷ a ∷ []) ≡ request_if (is_seed a) (demonstrating (digits_value 10 a))
demo_words a p =
    let taken = takes (codes "demo") (a ∷ []) refl (demo_placed a p) (demo_ends a) in
    asks (codes "demo") (a ∷ []) _ (demo_fault a taken.level) (demo_subcommand a) taken.rows ∙ demo_asks a
