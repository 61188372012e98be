-- The words of a plan with `--nodes` and a number at their end.
use Rattle.std.proofs.Common.{◌≡◌, ◌∙◌, ◌==◌, ℕ, true, false, [], ◌∷◌, Some, None, codes, fold, refl, ap}
use Rattle.clap.specs.Words.{Kinds, Shape, Text, built, fault_of, subcommand_of}
use Rattle.clap.specs.Walk.{Held, Walk, finished, idle, next, nothing_held, option, pushed, rows_after, settled, walk, walk_from, walked, word_met}
use Rattle.clap.specs.Simple.{names_of}
use Rattle.clap.specs.Faults.{level_fault, turn_fault, walk_fault, word_fault}
use Rattle.clap.proofs.OnLiterals.{clap_on_literals}
use Rattle.command_line.specs.Grammar.{planner_app}
use Rattle.command_line.specs.Words.{request_in, command_of, is_file_name, planned, search_from}
use Rattle.command_line.proofs.Leaves.{asks, held, leaf}
use Rattle.command_line.proofs.Placed.{EndsWell, at, not_dash, fault_placed, leaf_level, walk_placed}
use Rattle.command_line.proofs.ThreeTexts.{plan_placed}

-- ---- the option and its number, after the three names

abbrev names_held : Text → Text → Text → Held
names_held a b d = held (codes "plan") (a ∷ b ∷ d ∷ [])

-- what `--nodes` leaves, and what the number after it leaves
abbrev waits_for : Held → Walk
waits_for h = record { held = h; waiting = option (codes "nodes"); position = 4; is_trailing = false; stopped = None }

abbrev option_met : Held → Held
option_met h = record (settled (leaf (codes "plan")).rules h) { pending = Some (codes "nodes", []) }

abbrev number_held : Text → Held → Held
number_held n h = pushed (codes "nodes") n (option_met h)

option_walked : (a b d : Text) → walked (leaf (codes "plan")).rules [] (at (names_held a b d) 4) (codes "--nodes") ≡ waits_for (option_met (names_held a b d))
unfolding clap_on_literals
option_walked a b d = refl

option_turn : (a b d : Text) → turn_fault (leaf (codes "plan")) [] (at (names_held a b d) 4) (codes "--nodes") ≡ []
unfolding clap_on_literals
option_turn a b d = refl

number_met : (a b d : Text) (x : ℕ) (xs : Text) → (x == 45) ≡ false
    → word_met (leaf (codes "plan")).rules [] false (option (codes "nodes")) 4 (x ∷ xs) (option_met (names_held a b d)) ≡ (number_held (x ∷ xs) (names_held a b d), next idle)
number_met a b d x xs e = rw (e, e) refl

number_walked : (a b d n : Text) → is_file_name n ≡ true
    → walked (leaf (codes "plan")).rules [] (waits_for (option_met (names_held a b d))) n ≡ at (number_held n (names_held a b d)) 4
unfolding walked
number_walked a b d [] is = absurd (cc is)
number_walked a b d (x ∷ xs) is = rw (number_met a b d x xs (not_dash x is)) refl

number_word : (a b d : Text) (x : ℕ) (xs : Text) → (x == 45) ≡ false → word_fault (leaf (codes "plan")) [] false (option (codes "nodes")) (x ∷ xs) (option_met (names_held a b d)) ≡ []
number_word a b d x xs e = rw (e, e) refl

number_turn : (a b d n : Text) → is_file_name n ≡ true → turn_fault (leaf (codes "plan")) [] (waits_for (option_met (names_held a b d))) n ≡ []
number_turn a b d [] is = absurd (cc is)
number_turn a b d (x ∷ xs) is = rw (number_word a b d x xs (not_dash x is), number_met a b d x xs (not_dash x is)) refl

two_more : (s : Shape) (w v u : Walk) (a b : Text) → turn_fault s [] w a ≡ [] → walked s.rules [] w a ≡ v → turn_fault s [] v b ≡ [] → walked s.rules [] v b ≡ u
    → (walk_fault s [] w (a ∷ b ∷ []) ≡ []) × (fold (walked s.rules []) w (a ∷ b ∷ []) ≡ u)
unfolding walk_fault
two_more s w v u a b p q r t = (rw (p, q, r) refl, ap (λ x. walked s.rules [] x b) q ∙ t)

last_two : (a b d n : Text) → is_file_name n ≡ true
    → (walk_fault (leaf (codes "plan")) [] (at (names_held a b d) 4) (codes "--nodes" ∷ n ∷ []) ≡ [])
    × (fold (walked (leaf (codes "plan")).rules []) (at (names_held a b d) 4) (codes "--nodes" ∷ n ∷ []) ≡ at (number_held n (names_held a b d)) 4)
last_two a b d n is = two_more (leaf (codes "plan")) (at (names_held a b d) 4) (waits_for (option_met (names_held a b d))) (at (number_held n (names_held a b d)) 4) (codes "--nodes") n
    (option_turn a b d) (option_walked a b d) (number_turn a b d n is) (number_walked a b d n is)

-- ---- the whole list

nodes_ends : (a b d n : Text) → EndsWell (leaf (codes "plan")) (number_held n (names_held a b d))
unfolding clap_on_literals
nodes_ends a b d n = refl

nodes_top : (a b d n : Text) (below : Kinds) → below ≡ []
    → level_fault (built planner_app).top (names_of (built planner_app)) nothing_held (codes "plan" ∷ a ∷ b ∷ d ∷ codes "--nodes" ∷ n ∷ []) true below ≡ []
unfolding clap_on_literals
nodes_top a b d n below e = rw e refl

nodes_fault : (a b d n : Text) → level_fault (leaf (codes "plan")) [] nothing_held (a ∷ b ∷ d ∷ codes "--nodes" ∷ n ∷ []) false [] ≡ []
    → fault_of planner_app (codes "plan" ∷ a ∷ b ∷ d ∷ codes "--nodes" ∷ n ∷ []) ≡ []
unfolding clap_on_literals
nodes_fault a b d n e = nodes_top a b d n _ e

nodes_subcommand : (a b d n : Text) → subcommand_of planner_app (codes "plan" ∷ a ∷ b ∷ d ∷ codes "--nodes" ∷ n ∷ [])
    ≡ Some (codes "plan", rows_after (leaf (codes "plan")).rules [] (a ∷ b ∷ d ∷ codes "--nodes" ∷ n ∷ []))
unfolding clap_on_literals
nodes_subcommand a b d n = refl

nodes_asks : (a b d n : Text) → request_in (codes "plan") (finished (leaf (codes "plan")).rules (number_held n (names_held a b d))) ≡ planned a b d (search_from (Some n) None None None None)
unfolding clap_on_literals
nodes_asks a b d n = refl

pub nodes_words : (a b d n : Text) → is_file_name a ≡ true → is_file_name b ≡ true → is_file_name d ≡ true → is_file_name n ≡ true
    → command_of (codes "plan" ∷ a ∷ b ∷ d ∷ codes "--nodes" ∷ n ∷ []) ≡ planned a b d (search_from (Some n) None None None None)
nodes_words a b d n p q r is =
    let placed = plan_placed a b d p q r in
    let last = last_two a b d n is in
    let words = a ∷ b ∷ d ∷ codes "--nodes" ∷ n ∷ [] in
    let walks : walk (leaf (codes "plan")).rules [] nothing_held words ≡ at (number_held n (names_held a b d)) 4 = walk_placed (leaf (codes "plan")) 1 nothing_held (a ∷ b ∷ d ∷ []) (codes "--nodes" ∷ n ∷ []) placed ∙ last.1 in
    let turns : walk_fault (leaf (codes "plan")) [] (walk_from nothing_held) words ≡ [] = fault_placed (leaf (codes "plan")) 1 nothing_held (a ∷ b ∷ d ∷ []) (codes "--nodes" ∷ n ∷ []) placed ∙ last.0 in
    asks (codes "plan") words _ (nodes_fault a b d n (leaf_level (leaf (codes "plan")) words (at (number_held n (names_held a b d)) 4) turns walks (nodes_ends a b d n))) (nodes_subcommand a b d n)
    (ap (λ w. finished (leaf (codes "plan")).rules w.held) walks)
    ∙ nodes_asks a b d n
