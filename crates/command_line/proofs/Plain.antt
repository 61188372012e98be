-- The plain lists of words keep their meaning.
use Rattle.std.proofs.Common.{arith, ◌≡◌, ◌∙◌, ◌&&◌, Bool, true, false, not, ℕ, List, [], ◌∷◌, Option, Some, None, if◌then◌else◌, codes, refl, ap}
use Rattle.std.specs.Str.{bytes_eq}
use Rattle.std.specs.Str.Parse.{digits_value}
use Rattle.std.proofs.lemmas.Slice.Eq.{bytes_eq-Decides}
use Rattle.clap.proofs.OnLiterals.{clap_on_literals}
use Rattle.command_line.specs.Laws.{PlainWordsKeepTheirMeaning}
use Rattle.lot_sizing.specs.declared.limits.TheConstants.{MAX_ITEMS}
use Rattle.instance_reader.specs.declared.versions.TheConstants.{FIRST_VERSION_PERIODS}
use Rattle.command_line.specs.declared.commands.ReportForm.TheVariants.{Summary}
use Rattle.command_line.specs.declared.requests.TheConstants.{LARGEST_BUDGET, NEWEST_CERTIFICATE, USUAL_BUDGET}
use Rattle.command_line.specs.Words.{Request, are_file_names, are_two_names, request_if, bounding, checking, command_of, demonstrating, generating, is_budget, is_file_name, is_number, is_seed, judging, plain_search, planned, planning, reporting, search_with, upgrading, version}
use Rattle.command_line.proofs.Allowed.{first_true, rest_true}
use Rattle.command_line.proofs.Budgets.{nodes_words}
use Rattle.command_line.proofs.Numbers.{number_begins, seed_begins}
use Rattle.command_line.proofs.Drawn.{gen_words}
use Rattle.command_line.proofs.OneText.{bound_words, demo_words}
use Rattle.command_line.proofs.TwoTexts.{judge_words, report_words, upgrade_words}
use Rattle.command_line.proofs.ThreeTexts.{check_words, plan_words}

no_words : command_of [] ≡ Some version
unfolding clap_on_literals command_of
no_words = refl

-- a command that is asked for under a test is what the words ask for, where the test is met and where it isn't
by_test : (t : Bool) (x request : Request) (rest answer : Option Request) → (t ≡ true → answer ≡ Some x) → (rest ≡ Some request → answer ≡ Some request)
    → (if t then Some x else rest) ≡ Some request → answer ≡ Some request
by_test true x request rest answer h k is = h refl ∙ is
by_test false x request rest answer h k is = k is

never : (request : Request) (answer : Option Request) → None ≡ Some request → answer ≡ Some request
never request answer is = absurd (cc is)

-- the first word is this one, and the test of the names is met
named : (word name : List ℕ) (rest : List (List ℕ)) (t : Bool) (x : Request) → (t ≡ true → command_of (name ∷ rest) ≡ request_if t x) → (bytes_eq word name && t) ≡ true
    → command_of (word ∷ rest) ≡ Some x
named word name rest t x h is =
    let same : word ≡ name = (bytes_eq-Decides word name).0 (first_true (bytes_eq word name) t is) in
    let met : t ≡ true = rest_true (bytes_eq word name) t is in
    ap (λ w. command_of (w ∷ rest)) same ∙ h met ∙ ap (λ b. request_if b x) met

first_name : (m p : List ℕ) → are_two_names m p ≡ true → is_file_name m ≡ true
first_name m p is = first_true (is_file_name m) (is_file_name p && not (bytes_eq m p)) is

second_name : (m p : List ℕ) → are_two_names m p ≡ true → is_file_name p ≡ true
second_name m p is = first_true (is_file_name p) (not (bytes_eq m p)) (rest_true (is_file_name m) (is_file_name p && not (bytes_eq m p)) is)

-- the three names of files are each one
pub record AreNames (m p c : List ℕ) : Type 0 where
  pub first : is_file_name m ≡ true
  pub second : is_file_name p ≡ true
  pub third : is_file_name c ≡ true

are_names : (m p c : List ℕ) → are_file_names m p c ≡ true → AreNames m p c
are_names m p c is =
    let apart = not (bytes_eq m p) && (not (bytes_eq m c) && not (bytes_eq p c)) in
    let others : (is_file_name p && (is_file_name c && apart)) ≡ true = rest_true (is_file_name m) (is_file_name p && (is_file_name c && apart)) is in
    record {
      first = first_true (is_file_name m) (is_file_name p && (is_file_name c && apart)) is;
      second = first_true (is_file_name p) (is_file_name c && apart) others;
      third = first_true (is_file_name c) apart (rest_true (is_file_name p) (is_file_name c && apart) others);
    }

-- a plan with a number of nodes
with_nodes : (w m p c o n : List ℕ) → (bytes_eq w (codes "plan") && (are_file_names m p c && (bytes_eq o (codes "--nodes") && is_budget n))) ≡ true
    → command_of (w ∷ m ∷ p ∷ c ∷ o ∷ n ∷ []) ≡ Some (planning m p c (plain_search (digits_value 10 n)))
with_nodes w m p c o n is =
    let others : (are_file_names m p c && (bytes_eq o (codes "--nodes") && is_budget n)) ≡ true = rest_true (bytes_eq w (codes "plan")) _ is in
    let named : are_file_names m p c ≡ true = first_true (are_file_names m p c) _ others in
    let last : (bytes_eq o (codes "--nodes") && is_budget n) ≡ true = rest_true (are_file_names m p c) _ others in
    let number : is_budget n ≡ true = rest_true (bytes_eq o (codes "--nodes")) (is_budget n) last in
    let word : w ≡ codes "plan" = (bytes_eq-Decides w (codes "plan")).0 (first_true (bytes_eq w (codes "plan")) _ is) in
    let flag : o ≡ codes "--nodes" = (bytes_eq-Decides o (codes "--nodes")).0 (first_true (bytes_eq o (codes "--nodes")) (is_budget n) last) in
    let names = are_names m p c named in
    ap (λ x. command_of (x ∷ m ∷ p ∷ c ∷ o ∷ n ∷ [])) word ∙ ap (λ x. command_of (codes "plan" ∷ m ∷ p ∷ c ∷ x ∷ n ∷ [])) flag
    ∙ nodes_words m p c n names.first names.second names.third (number_begins 1 LARGEST_BUDGET n (omega arith) number)
    ∙ ap (λ t. planned m p c (search_with (if t then Some (digits_value 10 n) else None) None (Some None) (Some None) (Some NEWEST_CERTIFICATE))) number
    ∙ ap (λ t. request_if t (planning m p c (plain_search (digits_value 10 n)))) named

-- a model that is drawn
drawn : (w n items periods m : List ℕ) → (bytes_eq w (codes "gen") && (is_seed n && (is_number 1 MAX_ITEMS items && (is_number 1 FIRST_VERSION_PERIODS periods && is_file_name m)))) ≡ true
    → command_of (w ∷ n ∷ items ∷ periods ∷ m ∷ []) ≡ Some (generating (digits_value 10 n) (digits_value 10 items) (digits_value 10 periods) m)
drawn w n items periods m = named w (codes "gen") (n ∷ items ∷ periods ∷ m ∷ []) (is_seed n && (is_number 1 MAX_ITEMS items && (is_number 1 FIRST_VERSION_PERIODS periods && is_file_name m))) (generating (digits_value 10 n) (digits_value 10 items) (digits_value 10 periods) m) (λ met.
    let others : (is_number 1 MAX_ITEMS items && (is_number 1 FIRST_VERSION_PERIODS periods && is_file_name m)) ≡ true = rest_true (is_seed n) (is_number 1 MAX_ITEMS items && (is_number 1 FIRST_VERSION_PERIODS periods && is_file_name m)) met in
    let last : (is_number 1 FIRST_VERSION_PERIODS periods && is_file_name m) ≡ true = rest_true (is_number 1 MAX_ITEMS items) (is_number 1 FIRST_VERSION_PERIODS periods && is_file_name m) others in
    gen_words n items periods m (seed_begins n (first_true (is_seed n) (is_number 1 MAX_ITEMS items && (is_number 1 FIRST_VERSION_PERIODS periods && is_file_name m)) met))
    (number_begins 1 MAX_ITEMS items (omega arith) (first_true (is_number 1 MAX_ITEMS items) (is_number 1 FIRST_VERSION_PERIODS periods && is_file_name m) others))
    (number_begins 1 FIRST_VERSION_PERIODS periods (omega arith) (first_true (is_number 1 FIRST_VERSION_PERIODS periods) (is_file_name m) last))
    (rest_true (is_number 1 FIRST_VERSION_PERIODS periods) (is_file_name m) last))

pub plain_words : PlainWordsKeepTheirMeaning
plain_words [] request is = no_words ∙ is
plain_words (w ∷ []) request is = absurd (cc is)
plain_words (w ∷ m ∷ []) request is =
    let answer = command_of (w ∷ m ∷ []) in
    by_test (bytes_eq w (codes "bound") && is_file_name m) (bounding m) request _ answer (named w (codes "bound") (m ∷ []) (is_file_name m) (bounding m) (bound_words m))
    (by_test (bytes_eq w (codes "demo") && is_seed m) (demonstrating (digits_value 10 m)) request None answer
    (named w (codes "demo") (m ∷ []) (is_seed m) (demonstrating (digits_value 10 m)) (λ met. demo_words m (seed_begins m met))) (never request answer)) is
plain_words (w ∷ m ∷ p ∷ []) request is =
    let answer = command_of (w ∷ m ∷ p ∷ []) in
    by_test (bytes_eq w (codes "judge") && are_two_names m p) (judging m p) request _ answer
    (named w (codes "judge") (m ∷ p ∷ []) (are_two_names m p) (judging m p) (λ met. judge_words m p (first_name m p met) (second_name m p met)))
    (by_test (bytes_eq w (codes "upgrade") && are_two_names m p) (upgrading m p) request _ answer
    (named w (codes "upgrade") (m ∷ p ∷ []) (are_two_names m p) (upgrading m p) (λ met. upgrade_words m p (first_name m p met) (second_name m p met)))
    (by_test (bytes_eq w (codes "report") && are_two_names m p) (reporting m p Summary) request None answer
    (named w (codes "report") (m ∷ p ∷ []) (are_two_names m p) (reporting m p Summary) (λ met. report_words m p (first_name m p met) (second_name m p met))) (never request answer))) is
plain_words (w ∷ m ∷ p ∷ c ∷ []) request is =
    let answer = command_of (w ∷ m ∷ p ∷ c ∷ []) in
    by_test (bytes_eq w (codes "plan") && are_file_names m p c) (planning m p c (plain_search USUAL_BUDGET)) request _ answer
    (named w (codes "plan") (m ∷ p ∷ c ∷ []) (are_file_names m p c) (planning m p c (plain_search USUAL_BUDGET)) (λ met. let names = are_names m p c met in plan_words m p c names.first names.second names.third))
    (by_test (bytes_eq w (codes "check") && are_file_names m p c) (checking m p c) request None answer
    (named w (codes "check") (m ∷ p ∷ c ∷ []) (are_file_names m p c) (checking m p c) (λ met. let names = are_names m p c met in check_words m p c names.first names.second names.third)) (never request answer)) is
plain_words (w ∷ n ∷ items ∷ periods ∷ m ∷ []) request is =
    by_test (bytes_eq w (codes "gen") && (is_seed n && (is_number 1 MAX_ITEMS items && (is_number 1 FIRST_VERSION_PERIODS periods && is_file_name m))))
    (generating (digits_value 10 n) (digits_value 10 items) (digits_value 10 periods) m) request None (command_of (w ∷ n ∷ items ∷ periods ∷ m ∷ []))
    (drawn w n items periods m) (never request (command_of (w ∷ n ∷ items ∷ periods ∷ m ∷ []))) is
plain_words (w ∷ m ∷ p ∷ c ∷ o ∷ n ∷ []) request is =
    by_test (bytes_eq w (codes "plan") && (are_file_names m p c && (bytes_eq o (codes "--nodes") && is_budget n))) (planning m p c (plain_search (digits_value 10 n))) request None
    (command_of (w ∷ m ∷ p ∷ c ∷ o ∷ n ∷ [])) (with_nodes w m p c o n) (never request (command_of (w ∷ m ∷ p ∷ c ∷ o ∷ n ∷ []))) is
plain_words (w ∷ m ∷ p ∷ c ∷ o ∷ n ∷ f ∷ fs) request is = absurd (cc is)
