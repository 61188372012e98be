-- The plain lists of words of commands with three names.
use Rattle.std.proofs.Common.{◌≡◌, ◌∙◌, true, false, [], ◌∷◌, Some, codes, refl}
use Rattle.clap.specs.Words.{Kinds, Text, built, fault_of, subcommand_of}
use Rattle.clap.specs.Walk.{finished, nothing_held, rows_after}
use Rattle.clap.specs.Simple.{names_of}
use Rattle.clap.specs.Faults.{level_fault}
use Rattle.clap.proofs.OnLiterals.{clap_on_literals}
use Rattle.command_line.specs.Grammar.{planner_app}
use Rattle.command_line.specs.declared.requests.TheConstants.{USUAL_BUDGET}
use Rattle.command_line.specs.Words.{request_if, request_in, command_of, is_file_name, are_file_names, checking, plain_search, planning}
use Rattle.command_line.proofs.Leaves.{asks, held, leaf, takes}
use Rattle.command_line.proofs.Placed.{ArePlaced, EndsWell}

pub plan_placed : (a b d : Text) → is_file_name a ≡ true → is_file_name b ≡ true → is_file_name d ≡ true → ArePlaced (leaf (codes "plan")) 1 nothing_held (a ∷ b ∷ d ∷ [])
unfolding clap_on_literals
plan_placed a b d p q r = (record { name = p; goes = refl; well = refl }, (record { name = q; goes = refl; well = refl }, (record { name = r; goes = refl; well = refl }, tt)))

plan_ends : (a b d : Text) → EndsWell (leaf (codes "plan")) (held (codes "plan") (a ∷ b ∷ d ∷ []))
unfolding clap_on_literals
plan_ends a b d = refl

plan_top : (a b d : Text) (below : Kinds) → below ≡ [] → level_fault (built planner_app).top (names_of (built planner_app)) nothing_held (codes "plan" ∷ a ∷ b ∷ d ∷ []) true below ≡ []
unfolding clap_on_literals
plan_top a b d below none = rw none refl

plan_fault : (a b d : Text) → level_fault (leaf (codes "plan")) [] nothing_held (a ∷ b ∷ d ∷ []) false [] ≡ [] → fault_of planner_app (codes "plan" ∷ a ∷ b ∷ d ∷ []) ≡ []
unfolding clap_on_literals
plan_fault a b d none = plan_top a b d _ none

plan_subcommand : (a b d : Text) → subcommand_of planner_app (codes "plan" ∷ a ∷ b ∷ d ∷ []) ≡ Some (codes "plan", rows_after (leaf (codes "plan")).rules [] (a ∷ b ∷ d ∷ []))
unfolding clap_on_literals
plan_subcommand a b d = refl

plan_asks : (a b d : Text) → request_in (codes "plan") (finished (leaf (codes "plan")).rules (held (codes "plan") (a ∷ b ∷ d ∷ []))) ≡ request_if (are_file_names a b d) (planning a b d (plain_search USUAL_BUDGET))
unfolding clap_on_literals
plan_asks a b d = refl

pub plan_words : (a b d : Text) → is_file_name a ≡ true → is_file_name b ≡ true → is_file_name d ≡ true → command_of (codes "plan" ∷ a ∷ b ∷ d ∷ []) ≡ request_if (are_file_names a b d) (planning a b d (plain_search USUAL_BUDGET))
plan_words a b d p q r =
    let taken = takes (codes "plan") (a ∷ b ∷ d ∷ []) refl (plan_placed a b d p q r) (plan_ends a b d) in
    asks (codes "plan") (a ∷ b ∷ d ∷ []) _ (plan_fault a b d taken.level) (plan_subcommand a b d) taken.rows ∙ plan_asks a b d

check_placed : (a b d : Text) → is_file_name a ≡ true → is_file_name b ≡ true → is_file_name d ≡ true → ArePlaced (leaf (codes "check")) 1 nothing_held (a ∷ b ∷ d ∷ [])
unfolding clap_on_literals
check_placed a b d p q r = (record { name = p; goes = refl; well = refl }, (record { name = q; goes = refl; well = refl }, (record { name = r; goes = refl; well = refl }, tt)))

check_ends : (a b d : Text) → EndsWell (leaf (codes "check")) (held (codes "check") (a ∷ b ∷ d ∷ []))
unfolding clap_on_literals
check_ends a b d = refl

check_top : (a b d : Text) (below : Kinds) → below ≡ [] → level_fault (built planner_app).top (names_of (built planner_app)) nothing_held (codes "check" ∷ a ∷ b ∷ d ∷ []) true below ≡ []
unfolding clap_on_literals
check_top a b d below none = rw none refl

check_fault : (a b d : Text) → level_fault (leaf (codes "check")) [] nothing_held (a ∷ b ∷ d ∷ []) false [] ≡ [] → fault_of planner_app (codes "check" ∷ a ∷ b ∷ d ∷ []) ≡ []
unfolding clap_on_literals
check_fault a b d none = check_top a b d _ none

check_subcommand : (a b d : Text) → subcommand_of planner_app (codes "check" ∷ a ∷ b ∷ d ∷ []) ≡ Some (codes "check", rows_after (leaf (codes "check")).rules [] (a ∷ b ∷ d ∷ []))
unfolding clap_on_literals
check_subcommand a b d = refl

check_asks : (a b d : Text) → request_in (codes "check") (finished (leaf (codes "check")).rules (held (codes "check") (a ∷ b ∷ d ∷ []))) ≡ request_if (are_file_names a b d) (checking a b d)
unfolding clap_on_literals
check_asks a b d = refl

pub check_words : (a b d : Text) → is_file_name a ≡ true → is_file_name b ≡ true → is_file_name d ≡ true → command_of (codes "check" ∷ a ∷ b ∷ d ∷ []) ≡ request_if (are_file_names a b d) (checking a b d)
check_words a b d p q r =
    let taken = takes (codes "check") (a ∷ b ∷ d ∷ []) refl (check_placed a b d p q r) (check_ends a b d) in
    asks (codes "check") (a ∷ b ∷ d ∷ []) _ (check_fault a b d taken.level) (check_subcommand a b d) taken.rows ∙ check_asks a b d
