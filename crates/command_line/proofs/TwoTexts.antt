-- The plain lists of words of commands with two names.
use Rattle.std.proofs.Common.{◌≡◌, ◌∙◌, true, false, [], ◌∷◌, Some, codes, refl}
use Rattle.clap.specs.Words.{Kinds, Text, built, fault_of, subcommand_of}
use Rattle.clap.specs.Walk.{finished, nothing_held, rows_after}
use Rattle.clap.specs.Simple.{names_of}
use Rattle.clap.specs.Faults.{level_fault}
use Rattle.clap.proofs.OnLiterals.{clap_on_literals}
use Rattle.command_line.specs.Grammar.{planner_app}
use Rattle.command_line.specs.declared.commands.ReportForm.TheVariants.{Summary}
use Rattle.command_line.specs.Words.{request_if, request_in, command_of, is_file_name, are_two_names, judging, reporting, upgrading}
use Rattle.command_line.proofs.Leaves.{asks, held, leaf, takes}
use Rattle.command_line.proofs.Placed.{ArePlaced, EndsWell}

judge_placed : (a b : Text) → is_file_name a ≡ true → is_file_name b ≡ true → ArePlaced (leaf (codes "judge")) 1 nothing_held (a ∷ b ∷ [])
unfolding clap_on_literals
judge_placed a b p q = (record { name = p; goes = refl; well = refl }, (record { name = q; goes = refl; well = refl }, tt))

judge_ends : (a b : Text) → EndsWell (leaf (codes "judge")) (held (codes "judge") (a ∷ b ∷ []))
unfolding clap_on_literals
judge_ends a b = refl

judge_top : (a b : Text) (below : Kinds) → below ≡ [] → level_fault (built planner_app).top (names_of (built planner_app)) nothing_held (codes "judge" ∷ a ∷ b ∷ []) true below ≡ []
unfolding clap_on_literals
judge_top a b below none = rw none refl

judge_fault : (a b : Text) → level_fault (leaf (codes "judge")) [] nothing_held (a ∷ b ∷ []) false [] ≡ [] → fault_of planner_app (codes "judge" ∷ a ∷ b ∷ []) ≡ []
unfolding clap_on_literals
judge_fault a b none = judge_top a b _ none

judge_subcommand : (a b : Text) → subcommand_of planner_app (codes "judge" ∷ a ∷ b ∷ []) ≡ Some (codes "judge", rows_after (leaf (codes "judge")).rules [] (a ∷ b ∷ []))
unfolding clap_on_literals
judge_subcommand a b = refl

judge_asks : (a b : Text) → request_in (codes "judge") (finished (leaf (codes "judge")).rules (held (codes "judge") (a ∷ b ∷ []))) ≡ request_if (are_two_names a b) (judging a b)
unfolding clap_on_literals
judge_asks a b = refl

pub judge_words : (a b : Text) → is_file_name a ≡ true → is_file_name b ≡ true → command_of (codes "judge" ∷ a ∷ b ∷ []) ≡ request_if (are_two_names a b) (judging a b)
judge_words a b p q =
    let taken = takes (codes "judge") (a ∷ b ∷ []) refl (judge_placed a b p q) (judge_ends a b) in
    asks (codes "judge") (a ∷ b ∷ []) _ (judge_fault a b taken.level) (judge_subcommand a b) taken.rows ∙ judge_asks a b

report_placed : (a b : Text) → is_file_name a ≡ true → is_file_name b ≡ true → ArePlaced (leaf (codes "report")) 1 nothing_held (a ∷ b ∷ [])
unfolding clap_on_literals
report_placed a b p q = (record { name = p; goes = refl; well = refl }, (record { name = q; goes = refl; well = refl }, tt))

report_ends : (a b : Text) → EndsWell (leaf (codes "report")) (held (codes "report") (a ∷ b ∷ []))
unfolding clap_on_literals
report_ends a b = refl

report_top : (a b : Text) (below : Kinds) → below ≡ [] → level_fault (built planner_app).top (names_of (built planner_app)) nothing_held (codes "report" ∷ a ∷ b ∷ []) true below ≡ []
unfolding clap_on_literals
report_top a b below none = rw none refl

report_fault : (a b : Text) → level_fault (leaf (codes "report")) [] nothing_held (a ∷ b ∷ []) false [] ≡ [] → fault_of planner_app (codes "report" ∷ a ∷ b ∷ []) ≡ []
unfolding clap_on_literals
report_fault a b none = report_top a b _ none

report_subcommand : (a b : Text) → subcommand_of planner_app (codes "report" ∷ a ∷ b ∷ []) ≡ Some (codes "report", rows_after (leaf (codes "report")).rules [] (a ∷ b ∷ []))
unfolding clap_on_literals
report_subcommand a b = refl

report_asks : (a b : Text) → request_in (codes "report") (finished (leaf (codes "report")).rules (held (codes "report") (a ∷ b ∷ []))) ≡ request_if (are_two_names a b) (reporting a b Summary)
unfolding clap_on_literals
report_asks a b = refl

pub report_words : (a b : Text) → is_file_name a ≡ true → is_file_name b ≡ true → command_of (codes "report" ∷ a ∷ b ∷ []) ≡ request_if (are_two_names a b) (reporting a b Summary)
report_words a b p q =
    let taken = takes (codes "report") (a ∷ b ∷ []) refl (report_placed a b p q) (report_ends a b) in
    asks (codes "report") (a ∷ b ∷ []) _ (report_fault a b taken.level) (report_subcommand a b) taken.rows ∙ report_asks a b

upgrade_placed : (a b : Text) → is_file_name a ≡ true → is_file_name b ≡ true → ArePlaced (leaf (codes "upgrade")) 1 nothing_held (a ∷ b ∷ [])
unfolding clap_on_literals
upgrade_placed a b p q = (record { name = p; goes = refl; well = refl }, (record { name = q; goes = refl; well = refl }, tt))

upgrade_ends : (a b : Text) → EndsWell (leaf (codes "upgrade")) (held (codes "upgrade") (a ∷ b ∷ []))
unfolding clap_on_literals
upgrade_ends a b = refl

upgrade_top : (a b : Text) (below : Kinds) → below ≡ [] → level_fault (built planner_app).top (names_of (built planner_app)) nothing_held (codes "upgrade" ∷ a ∷ b ∷ []) true below ≡ []
unfolding clap_on_literals
upgrade_top a b below none = rw none refl

upgrade_fault : (a b : Text) → level_fault (leaf (codes "upgrade")) [] nothing_held (a ∷ b ∷ []) false [] ≡ [] → fault_of planner_app (codes "upgrade" ∷ a ∷ b ∷ []) ≡ []
unfolding clap_on_literals
upgrade_fault a b none = upgrade_top a b _ none

upgrade_subcommand : (a b : Text) → subcommand_of planner_app (codes "upgrade" ∷ a ∷ b ∷ []) ≡ Some (codes "upgrade", rows_after (leaf (codes "upgrade")).rules [] (a ∷ b ∷ []))
unfolding clap_on_literals
upgrade_subcommand a b = refl

upgrade_asks : (a b : Text) → request_in (codes "upgrade") (finished (leaf (codes "upgrade")).rules (held (codes "upgrade") (a ∷ b ∷ []))) ≡ request_if (are_two_names a b) (upgrading a b)
unfolding clap_on_literals
upgrade_asks a b = refl

pub upgrade_words : (a b : Text) → is_file_name a ≡ true → is_file_name b ≡ true → command_of (codes "upgrade" ∷ a ∷ b ∷ []) ≡ request_if (are_two_names a b) (upgrading a b)
upgrade_words a b p q =
    let taken = takes (codes "upgrade") (a ∷ b ∷ []) refl (upgrade_placed a b p q) (upgrade_ends a b) in
    asks (codes "upgrade") (a ∷ b ∷ []) _ (upgrade_fault a b taken.level) (upgrade_subcommand a b) taken.rows ∙ upgrade_asks a b
