-- What the matches of the declared command line say of the command.
use Rattle.std.proofs.Common.{◌≡◌, ◌≢◌, ◌∙◌, true, List, [], ◌∷◌, Option, Some, None, Box, option_map, refl, sym, subst, ap, ap₂, inl, inr}
use Rattle.std.proofs.lemmas.Option.{none-some, same_Some}
use Rattle.std.specs.Box.{box_value}
use Rattle.clap.specs.Words.{App, HasKind, HasMatchesOf, Kinds, Row, Text, fault_of, is_simple, is_simple_and_free, kind_of, subcommand_of, subcommand_rows, subcommand_rows_of}
use Rattle.clap.specs.declared.error.Error.{Error}
use Rattle.clap.specs.declared.error.ErrorKind.TheVariants.{OutOfMemory}
use Rattle.clap.specs.declared.parser.matches.ArgMatches.{ArgMatches}
use Rattle.clap.specs.declared.parser.matches.SubCommand.{SubCommand}
use Rattle.clap.specs.declared.parser.matches.ArgMatches.TheViews.{out-SubCommand}
use Rattle.clap.proofs.OnLiterals.{clap_on_literals}
use Rattle.command_line.specs.Grammar.{planner_app}
use Rattle.command_line.specs.Words.{Request, AreTaken, request_by_matches, command_of, unless_refused}

is_planner_simple : is_simple planner_app ≡ true
unfolding clap_on_literals
is_planner_simple = refl

is_planner_free : is_simple_and_free planner_app ≡ true
unfolding clap_on_literals
is_planner_free = refl

-- ---- words that are taken

pub taken : (a : App) (words : List Text) → a ≡ planner_app → (is_simple_and_free a ≡ true → fault_of a words ≡ [])
    → fault_of planner_app words ≡ []
taken a words same kinds = subst (λ b. fault_of b words ≡ []) same (kinds (ap is_simple_and_free same ∙ is_planner_free))

entered : (a : App) (words : List Text) (m : ArgMatches) → a ≡ planner_app → HasMatchesOf a words m
    → subcommand_rows_of m ≡ subcommand_of planner_app words
entered a words m same matches = (matches (ap is_simple same ∙ is_planner_simple)).1 ∙ ap (λ b. subcommand_of b words) same

pub given_by : (words : List Text) (s : Option (Text × List Row)) → fault_of planner_app words ≡ [] → s ≡ subcommand_of planner_app words
    → request_by_matches s ≡ command_of words
unfolding command_of
given_by words s free same = rw (free, ← same) refl

-- what the matches ask for is the command
pub given : (a : App) (words : List Text) (m : ArgMatches) → a ≡ planner_app → (is_simple_and_free a ≡ true → fault_of a words ≡ []) → HasMatchesOf a words m
    → request_by_matches (subcommand_rows_of m) ≡ command_of words
given a words m same kinds matches = given_by words (subcommand_rows_of m) (taken a words same kinds) (entered a words m same matches)

-- ---- words that a step of the parse stops at

failed : (a : App) (words : List Text) (e : Error) → a ≡ planner_app → (is_simple_and_free a ≡ true → HasKind (fault_of a words) e)
    → HasKind (fault_of planner_app words) e
failed a words e same kinds = subst (λ b. HasKind (fault_of b words) e) same (kinds (ap is_simple_and_free same ∙ is_planner_free))

stopped_by : (ks : Kinds) (e : Error) (answer : Option Request) → HasKind ks e → kind_of e ≢ OutOfMemory → None ≡ unless_refused ks answer
stopped_by [] e answer kind other = elim kind [ inl memory ↦ absurd (other memory) | inr none ↦ absurd none ]
stopped_by (k ∷ ks) e answer kind other = refl

-- they are no command
pub stopped : (a : App) (words : List Text) (e : Error) → a ≡ planner_app → (is_simple_and_free a ≡ true → HasKind (fault_of a words) e) → kind_of e ≢ OutOfMemory
    → None ≡ command_of words
unfolding command_of
stopped a words e same kinds other = stopped_by (fault_of planner_app words) e _ (failed a words e same kinds) other

no_kind : (ks : Kinds) (e : Error) → HasKind ks e → kind_of e ≢ OutOfMemory → ks ≡ [] → ⊥
no_kind [] e kind other none = elim kind [ inl memory ↦ other memory | inr never ↦ never ]
no_kind (k ∷ ks) e kind other none = absurd (cc none)

-- they aren't taken
pub untaken : (a : App) (words : List Text) (e : Error) → a ≡ planner_app → (is_simple_and_free a ≡ true → HasKind (fault_of a words) e) → kind_of e ≢ OutOfMemory
    → AreTaken words → ⊥
unfolding AreTaken
untaken a words e same kinds other = no_kind (fault_of planner_app words) e (failed a words e same kinds) other

-- ---- the subcommand of matches

pub entered_rows : {Z : Type 0} (o : Option (Box SubCommand Z)) (n : Text) (r : List Row)
    → Some n ≡ option_map (λ b. (out-SubCommand (box_value b)).name.now) o
    → Some r ≡ option_map (λ p. p.1) (subcommand_rows o)
    → request_by_matches (subcommand_rows o) ≡ request_by_matches (Some (n, r))
entered_rows None n r a b = absurd (none-some n (sym a))
entered_rows (Some x) n r a b = ap₂ (λ p q. request_by_matches (Some (p, q))) (sym (same_Some _ _ a)) (sym (same_Some _ _ b))

pub no_rows : {Z : Type 0} (o : Option (Box SubCommand Z)) → None ≡ option_map (λ b. (out-SubCommand (box_value b)).name.now) o
    → request_by_matches (subcommand_rows o) ≡ request_by_matches None
no_rows None h = refl
no_rows (Some x) h = absurd (none-some _ h)
