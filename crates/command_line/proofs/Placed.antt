-- Words that go to a subcommand's arguments by their places.
use Rattle.std.specs.Prelude.{⊤}
use Rattle.std.proofs.Common.{◌≡◌, ◌∙◌, ◌==◌, ◌++◌, ℕ, suc, Bool, true, false, not, List, [], ◌∷◌, None, fold, refl, ap}
use Rattle.std.specs.Option.{option_map_or}
use Rattle.clap.specs.Words.{Rule, Shape, Text}
use Rattle.clap.specs.Walk.{Held, Walk, arg_by_index, finished, idle, nothing_held, settled, to_positional, value, walk, walk_from, walked, word_met}
use Rattle.clap.specs.Faults.{check_fault, defaults_fault, level_fault, positional_fault, settle_fault, stray_fault, turn_fault, walk_fault, word_fault}
use Rattle.clap.specs.Kinds.{or_else}
use Rattle.command_line.specs.Words.{is_file_name}

-- no word so far is a flag's
abbrev pub at : Held → ℕ → Walk
at h n = record { held = h; waiting = idle; position = n; is_trailing = false; stopped = None }

-- a word that begins otherwise than with `-`
pub not_dash : (x : ℕ) → not (x == 45) ≡ true → (x == 45) ≡ false
not_dash x is = by (x == 45) is
  where
    by : (t : Bool) → not t ≡ true → t ≡ false
    by true is = absurd (cc is)
    by false is = refl

plain_met : (c : List Rule) (n x : ℕ) (xs : Text) (h : Held) → (x == 45) ≡ false → word_met c [] false idle n (x ∷ xs) h ≡ (h, value)
plain_met c n x xs h e = rw (e, e) refl

pub plain_walked : (c : List Rule) (h : Held) (n : ℕ) (a : Text) → is_file_name a ≡ true → walked c [] (at h n) a ≡ to_positional c (arg_by_index c n) a (at h n) h
unfolding walked
plain_walked c h n [] is = absurd (cc is)
plain_walked c h n (x ∷ xs) is = rw (plain_met c n x xs h (not_dash x is)) refl

no_word_fault : (s : Shape) (x : ℕ) (xs : Text) (h : Held) → (x == 45) ≡ false → word_fault s [] false idle (x ∷ xs) h ≡ []
no_word_fault s x xs h e = rw (e, e) refl

pub plain_turn : (s : Shape) (h : Held) (n : ℕ) (a : Text) → is_file_name a ≡ true
    → turn_fault s [] (at h n) a ≡ option_map_or (λ r. positional_fault s.rules s.args_override_self r h) (arg_by_index s.rules n) (stray_fault s)
plain_turn s h n [] is = absurd (cc is)
plain_turn s h n (x ∷ xs) is = rw (no_word_fault s x xs h (not_dash x is), plain_met s.rules n x xs h (not_dash x is)) refl

-- what is held after a word, and after some
abbrev pub held_after : Shape → ℕ → Text → Held → Held
held_after s n word h = (to_positional s.rules (arg_by_index s.rules n) word (at h n) h).held

abbrev pub held_by : Shape → ℕ → Held → List Text → Held
held_by s n h [] = h
held_by s n h (a ∷ rest) = held_by s (suc n) (held_after s n a h) rest

abbrev pub place_after : ℕ → List Text → ℕ
place_after n [] = n
place_after n (a ∷ rest) = place_after (suc n) rest

-- the word goes to the argument at its place, without a fault
pub record IsPlaced (s : Shape) (n : ℕ) (h : Held) (a : Text) : Type 0 where
  pub name : is_file_name a ≡ true
  pub goes : to_positional s.rules (arg_by_index s.rules n) a (at h n) h ≡ at (held_after s n a h) (suc n)
  pub well : option_map_or (λ r. positional_fault s.rules s.args_override_self r h) (arg_by_index s.rules n) (stray_fault s) ≡ []

abbrev pub ArePlaced : Shape → ℕ → Held → List Text → Type 0
ArePlaced s n h [] = ⊤
ArePlaced s n h (a ∷ rest) = IsPlaced s n h a × ArePlaced s (suc n) (held_after s n a h) rest

pub walk_placed : (s : Shape) (n : ℕ) (h : Held) (words rest : List Text) → ArePlaced s n h words
    → fold (walked s.rules []) (at h n) (words ++ rest) ≡ fold (walked s.rules []) (at (held_by s n h words) (place_after n words)) rest
walk_placed s n h [] rest placed = refl
walk_placed s n h (a ∷ words) rest placed =
    ap (λ w. fold (walked s.rules []) w (words ++ rest)) (plain_walked s.rules h n a placed.0.name ∙ placed.0.goes)
    ∙ walk_placed s (suc n) (held_after s n a h) words rest placed.1

one_more : (s : Shape) (w v : Walk) (a : Text) (rest : List Text) → turn_fault s [] w a ≡ [] → walked s.rules [] w a ≡ v → walk_fault s [] w (a ∷ rest) ≡ walk_fault s [] v rest
unfolding walk_fault
one_more s w v a rest turn walks = rw (turn, walks) refl

pub fault_placed : (s : Shape) (n : ℕ) (h : Held) (words rest : List Text) → ArePlaced s n h words
    → walk_fault s [] (at h n) (words ++ rest) ≡ walk_fault s [] (at (held_by s n h words) (place_after n words)) rest
fault_placed s n h [] rest placed = refl
fault_placed s n h (a ∷ words) rest placed =
    one_more s (at h n) (at (held_after s n a h) (suc n)) a (words ++ rest) (plain_turn s h n a placed.0.name ∙ placed.0.well) (plain_walked s.rules h n a placed.0.name ∙ placed.0.goes)
    ∙ fault_placed s (suc n) (held_after s n a h) words rest placed.1

-- nothing is at fault after the last word
abbrev pub EndsWell : Shape → Held → Type 0
EndsWell s h = or_else (settle_fault s.rules s.args_override_self h) (or_else (defaults_fault (settled s.rules h).rows s.rules) (check_fault s (finished s.rules h) false)) ≡ []

pub leaf_level : (s : Shape) (words : List Text) (w : Walk) → walk_fault s [] (walk_from nothing_held) words ≡ [] → walk s.rules [] nothing_held words ≡ w → EndsWell s w.held
    → level_fault s [] nothing_held words false [] ≡ []
leaf_level s words w turns walks ends = rw (turns, walks) ends

pub no_faults : (s : Shape) (w : Walk) → walk_fault s [] w [] ≡ []
unfolding walk_fault
no_faults s w = refl
