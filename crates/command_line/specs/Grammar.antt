-- The command line as it is declared: a table of subcommands, their arguments in order, and their options.
use Rattle.std.specs.Prelude.{Bool, true, false, List, [], ◌∷◌, Some, codes, if◌then◌else◌}
use Rattle.std.specs.List.{fold}
use Rattle.clap.specs.Words.{App, Rule, Text, new_app, new_rule, with_rule, with_subcommand}
use Rattle.clap.specs.Simple.{on_top}
use Rattle.clap.specs.declared.builder.action.ArgAction.TheVariants.{SetTrue}

-- an argument that is known by its place, and has to be there
abbrev pub argument_rule : Text → Rule
argument_rule id = record (new_rule id) { required = true }

-- an option with one text, which may be there once
abbrev pub option : Text → Rule
option id = record (new_rule id) { long = Some id; value_names = 1 }

-- an option without a text, which may be there once
abbrev pub flag : Text → Rule
flag id = record (new_rule id) { long = Some id; action = Some SetTrue }

-- an option of this name, with a text or without
abbrev pub choice : Text × Bool → Rule
choice o = if o.1 then option o.0 else flag o.0

-- a subcommand with these arguments and options
abbrev pub placed : Text → List Text → App
placed name ids = fold (λ a id. with_rule a (argument_rule id)) (new_app name) ids

abbrev pub subcommand : Text → List Text → List (Text × Bool) → App
subcommand name ids options = fold (λ a o. with_rule a (choice o)) (placed name ids) options

-- the options of a search
abbrev pub search_options : List (Text × Bool)
search_options = (codes "nodes", true) ∷ (codes "progress", false) ∷ []

-- and those of a plan, which may start from a plan, may end early, and may keep to an older version of certificates
abbrev pub plan_options : List (Text × Bool)
plan_options = (codes "nodes", true) ∷ (codes "progress", false) ∷ (codes "start", true) ∷ (codes "gap", true) ∷ (codes "seconds", true) ∷ (codes "certificate", true) ∷ []

-- the options of a report
abbrev pub report_options : List (Text × Bool)
report_options = (codes "full", false) ∷ (codes "table", false) ∷ []

-- the subcommands
abbrev pub subcommands : List App
subcommands =
    subcommand (codes "plan") (codes "M" ∷ codes "P" ∷ codes "C" ∷ []) plan_options
    ∷ subcommand (codes "judge") (codes "M" ∷ codes "P" ∷ []) []
    ∷ subcommand (codes "check") (codes "M" ∷ codes "P" ∷ codes "C" ∷ []) []
    ∷ subcommand (codes "report") (codes "M" ∷ codes "P" ∷ []) report_options
    ∷ subcommand (codes "gen") (codes "N" ∷ codes "ITEMS" ∷ codes "PERIODS" ∷ codes "M" ∷ []) []
    ∷ subcommand (codes "demo") (codes "N" ∷ []) []
    ∷ subcommand (codes "upgrade") (codes "M" ∷ codes "M2" ∷ []) []
    ∷ subcommand (codes "bound") (codes "M" ∷ []) []
    ∷ subcommand (codes "schedule") (codes "M" ∷ codes "P" ∷ codes "S" ∷ []) []
    ∷ subcommand (codes "schedcheck") (codes "M" ∷ codes "P" ∷ codes "S" ∷ []) []
    ∷ subcommand (codes "peg") (codes "M" ∷ codes "P" ∷ codes "Q" ∷ []) []
    ∷ subcommand (codes "complete") (codes "M" ∷ codes "P" ∷ codes "P2" ∷ []) []
    ∷ subcommand (codes "draw") (codes "M" ∷ codes "P" ∷ codes "H" ∷ []) ((codes "proof", true) ∷ [])
    ∷ subcommand (codes "replan") (codes "M" ∷ codes "P" ∷ codes "F" ∷ codes "M2" ∷ codes "P2" ∷ codes "C" ∷ []) search_options
    ∷ []

-- the program, whose words come without its own name, with a version and no subcommand `help`
abbrev pub base_app : App
base_app = on_top (λ s. record s { no_binary_name = true; disable_help_subcommand = true; has_version = true }) (new_app (codes "lotplan"))

-- the program with its subcommands
abbrev pub planner_app : App
planner_app = fold (λ a s. with_subcommand a s.top) base_app subcommands
