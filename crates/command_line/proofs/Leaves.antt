-- The declared subcommands, one after the other, at words that go to their arguments by their places.
use Rattle.std.proofs.Common.{◌≡◌, ◌∙◌, false, List, [], ◌∷◌, ◌++◌, Some, find, unwrap_or, sym, ap}
use Rattle.clap.specs.Words.{Row, Shape, Text, built, fault_of, subcommand_of}
use Rattle.clap.specs.Walk.{Held, answers_to, finished, nothing_held, rows_after, walk, walk_from}
use Rattle.clap.specs.Simple.{label_of, new_shape}
use Rattle.clap.specs.Faults.{level_fault, walk_fault}
use Rattle.command_line.specs.Grammar.{planner_app}
use Rattle.command_line.specs.Words.{request_in, command_of}
use Rattle.command_line.proofs.Matched.{given_by}
use Rattle.command_line.proofs.Placed.{ArePlaced, EndsWell, at, fault_placed, held_by, leaf_level, no_faults, place_after, walk_placed}

abbrev pub leaf : Text → Shape
leaf name = unwrap_or (find (λ s. answers_to name (label_of s)) (built planner_app).subs) (new_shape [])

abbrev pub held : Text → List Text → Held
held name words = held_by (leaf name) 1 nothing_held words

-- a subcommand of this name takes the words
pub record Takes (name : Text) (words : List Text) : Type 0 where
  pub level : level_fault (leaf name) [] nothing_held words false [] ≡ []
  pub rows : rows_after (leaf name).rules [] words ≡ finished (leaf name).rules (held name words)

walk_all : (name : Text) (words : List Text) → ArePlaced (leaf name) 1 nothing_held words
    → walk (leaf name).rules [] nothing_held (words ++ []) ≡ at (held name words) (place_after 1 words)
walk_all name words placed = walk_placed (leaf name) 1 nothing_held words [] placed

pub takes : (name : Text) (words : List Text) → words ++ [] ≡ words → ArePlaced (leaf name) 1 nothing_held words → EndsWell (leaf name) (held name words) → Takes name words
takes name words same placed ends =
    let walks : walk (leaf name).rules [] nothing_held words ≡ at (held name words) (place_after 1 words) = ap (λ ws. walk (leaf name).rules [] nothing_held ws) (sym same) ∙ walk_all name words placed in
    let turns : walk_fault (leaf name) [] (walk_from nothing_held) words ≡ [] = ap (λ ws. walk_fault (leaf name) [] (walk_from nothing_held) ws) (sym same)
    ∙ fault_placed (leaf name) 1 nothing_held words [] placed ∙ no_faults (leaf name) (at (held name words) (place_after 1 words)) in
    record {
      level = leaf_level (leaf name) words (at (held name words) (place_after 1 words)) turns walks ends;
      rows = ap (λ w. finished (leaf name).rules w.held) walks;
    }

-- the whole command line fails where the subcommand does, and its matches are the subcommand's
pub asks : (name : Text) (words : List Text) (rows : List Row) → fault_of planner_app (name ∷ words) ≡ [] → subcommand_of planner_app (name ∷ words) ≡ Some (name, rows_after (leaf name).rules [] words)
    → rows_after (leaf name).rules [] words ≡ rows → command_of (name ∷ words) ≡ request_in name rows
asks name words rows free entered same =
    sym (given_by (name ∷ words) (Some (name, rows_after (leaf name).rules [] words)) free (sym entered)) ∙ ap (λ r. request_in name r) same
