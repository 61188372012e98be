-- Commands have names that are apart, and numbers within their limits.
use Rattle.std.proofs.Common.{◌≡◌, ◌≢◌, ◌≤◌, ◌<◌, ◌^◌, Bool, true, false, not, ◌&&◌, ℕ, List, [], ◌∷◌, Option, Some, None, if◌then◌else◌, codes, decimal, nat_le, IfSome, refl, subst, arith}
use Rattle.std.specs.Int.{is_in_range}
use Rattle.std.specs.Str.{bytes_eq}
use Rattle.std.specs.Str.Parse.{digits_value}
use Rattle.std.proofs.lemmas.Bool.{leb-true}
use Rattle.std.proofs.lemmas.Slice.Eq.{bytes_eq-Decides}
use Rattle.clap.specs.Words.{Kinds, Row, first_of, fault_of, subcommand_of}
use Rattle.command_line.specs.Grammar.{planner_app}
use Rattle.command_line.specs.Laws.{CommandsAreAllowed}
use Rattle.lot_sizing.specs.declared.limits.TheConstants.{MAX_ITEMS}
use Rattle.instance_reader.specs.declared.versions.TheConstants.{FIRST_VERSION_PERIODS}
use Rattle.command_line.specs.declared.requests.TheConstants.{LARGEST_BUDGET, LARGEST_GAP, LARGEST_SECONDS, NEWEST_CERTIFICATE, OLDEST_CERTIFICATE, USUAL_BUDGET}
use Rattle.command_line.specs.Words.{AreApart, AreFiveApart, AreFourApart, Request, Search, IsAllowed, are_file_names, are_five_names, are_four_names, are_two_names, request_by_matches, request_if, request_in, bounding, bounding_from, budget_from, checking, checking_from, command_of, completing, completing_from, demonstrating, demonstrating_from, drawing, drawing_from, form_from, gap_from, generated, generating, generating_from, hundredths, is_budget, is_file_name, is_gap, is_number, is_percentage, is_seconds, is_seed, is_start, is_start_name, is_version, judging, judging_from, largest_seed, largest_start, newest_from, pegging, pegging_from, planned, planning, planning_from, reported, reporting, reporting_from, replanned, replanning, replanning_from, schedule_checking, schedule_checking_from, scheduling, scheduling_from, search_from, search_with, seconds_from, unless_refused, upgrading, upgrading_from, version}
use Rattle.command_line.specs.declared.commands.ReportForm.{ReportForm}

-- the parts of a test that came out true
pub first_true : (a b : Bool) → (a && b) ≡ true → a ≡ true
first_true true b is = refl
first_true false b is = absurd (cc is)

pub rest_true : (a b : Bool) → (a && b) ≡ true → b ≡ true
rest_true true b is = is
rest_true false b is = absurd (cc is)

not_both : (t : Bool) → t ≡ true → not t ≡ true → ⊥
not_both true is other = absurd (cc other)
not_both false is other = absurd (cc is)

unlike : (a b : List ℕ) → not (bytes_eq a b) ≡ true → a ≢ b
unlike a b is same = not_both (bytes_eq a b) ((bytes_eq-Decides a b).1 same) is

are_apart : (m p c : List ℕ) → are_file_names m p c ≡ true → AreApart m p c
are_apart m p c is =
    let mp = not (bytes_eq m p) in
    let mc = not (bytes_eq m c) in
    let pc = not (bytes_eq p c) in
    let unlikes : (mp && (mc && pc)) ≡ true = rest_true (is_file_name c) (mp && (mc && pc)) (rest_true (is_file_name p) (is_file_name c && (mp && (mc && pc))) (rest_true (is_file_name m) (is_file_name p && (is_file_name c && (mp && (mc && pc)))) is)) in
    let others : (mc && pc) ≡ true = rest_true mp (mc && pc) unlikes in
    record {
      plan = unlike m p (first_true mp (mc && pc) unlikes);
      certificate = unlike m c (first_true mc pc others);
      written = unlike p c (rest_true mc pc others);
    }

two_apart : (m p : List ℕ) → are_two_names m p ≡ true → m ≢ p
two_apart m p is = unlike m p (rest_true (is_file_name p) (not (bytes_eq m p)) (rest_true (is_file_name m) (is_file_name p && not (bytes_eq m p)) is))

four_apart : (m p h c : List ℕ) → are_four_names m p h c ≡ true → AreFourApart m p h c
four_apart m p h c is =
    let a = are_file_names m p h in
    let b = are_file_names m p c in
    let d = are_two_names h c in
    let later : (b && d) ≡ true = rest_true a (b && d) is in
    record {
      page = are_apart m p h (first_true a (b && d) is);
      proof = are_apart m p c (first_true b d later);
      other = two_apart h c (rest_true b d later);
    }

five_apart : (m p n q c : List ℕ) → are_five_names m p n q c ≡ true → AreFiveApart m p n q c
five_apart m p n q c is =
    let a = are_file_names m p n in
    let b = are_file_names m q c in
    let d = are_file_names p q c in
    let e = are_file_names n q c in
    let later : (b && (d && e)) ≡ true = rest_true a (b && (d && e)) is in
    let last : (d && e) ≡ true = rest_true b (d && e) later in
    record {
      first = are_apart m p n (first_true a (b && (d && e)) is);
      of_model = are_apart m q c (first_true b (d && e) later);
      of_plan = are_apart p q c (first_true d e last);
      of_next = are_apart n q c (rest_true d e last);
    }

-- a text that is one number's has it in its range
in_range : (least most n : ℕ) → is_in_range least most n ≡ true → (least ≤ n) × (n ≤ most)
in_range least most n is = (leb-true least n (first_true (nat_le least n) (nat_le n most) is), leb-true n most (rest_true (nat_le least n) (nat_le n most) is))

pub number_in_range : (least most : ℕ) (text : List ℕ) → is_number least most text ≡ true → (least ≤ digits_value 10 text) × (digits_value 10 text ≤ most)
number_in_range least most text is = in_range least most (digits_value 10 text) (rest_true (bytes_eq text (decimal (digits_value 10 text))) (is_in_range least most (digits_value 10 text)) is)

pub seed_has_bits : (n : ℕ) → n ≤ largest_seed → n < 2 ^ 64
seed_has_bits n is = omega (arith, is)

seed_fits : (text : List ℕ) → is_seed text ≡ true → digits_value 10 text ≤ largest_seed
seed_fits text is = (number_in_range 0 largest_seed text is).1

-- ---- what is asked for is allowed

abbrev Fine : Option Request → Type 0
Fine o = (request : Request) → o ≡ Some request → IsAllowed request

fine_none : Fine None
fine_none request is = absurd (cc is)

fine_some : (x : Request) → IsAllowed x → Fine (Some x)
fine_some x allowed request is = let same : x ≡ request = cc is in subst IsAllowed same allowed

fine_if : (t : Bool) (x : Request) → (t ≡ true → IsAllowed x) → Fine (request_if t x)
fine_if true x allowed = fine_some x (allowed refl)
fine_if false x allowed = fine_none

fine_either : (t : Bool) (x y : Option Request) → Fine x → Fine y → Fine (if t then x else y)
fine_either true x y p q = p
fine_either false x y p q = q

budget_if : (n k : ℕ) (text : List ℕ) (t : Bool) → (t ≡ true → (1 ≤ n) × (n ≤ LARGEST_BUDGET)) → (if t then Some n else None) ≡ Some k → (1 ≤ k) × (k ≤ LARGEST_BUDGET)
budget_if n k text true range is = let same : n ≡ k = cc is in subst (λ j. (1 ≤ j) × (j ≤ LARGEST_BUDGET)) same (range refl)
budget_if n k text false range is = absurd (cc is)

budget_in_range : (nodes : Option (List ℕ)) (k : ℕ) → budget_from nodes ≡ Some k → (1 ≤ k) × (k ≤ LARGEST_BUDGET)
budget_in_range None k is = let same : USUAL_BUDGET ≡ k = cc is in subst (λ j. (1 ≤ j) × (j ≤ LARGEST_BUDGET)) same (omega arith, omega arith)
budget_in_range (Some text) k is = budget_if (digits_value 10 text) k text (is_budget text) (number_in_range 1 LARGEST_BUDGET text) is

-- a gap and seconds are in their limits
abbrev HasGap : Option ℕ → Type 0
HasGap gap = IfSome gap (λ g. g ≤ LARGEST_GAP)

abbrev HasSeconds : Option ℕ → Type 0
HasSeconds seconds = IfSome seconds (λ s. (1 ≤ s) × (s ≤ LARGEST_SECONDS))

gap_if : (text : List ℕ) (g : Option ℕ) (t : Bool) → (t ≡ true → hundredths text ≤ LARGEST_GAP) → (if t then Some (Some (hundredths text)) else None) ≡ Some g → HasGap g
gap_if text g true range is = let same : Some (hundredths text) ≡ g = cc is in subst HasGap same (range refl)
gap_if text g false range is = absurd (cc is)

gap_in_range : (text : Option (List ℕ)) (g : Option ℕ) → gap_from text ≡ Some g → HasGap g
gap_in_range None g is = let same : None ≡ g = cc is in subst HasGap same tt
gap_in_range (Some text) g is = gap_if text g (is_gap text) (λ t. leb-true (hundredths text) LARGEST_GAP (rest_true (is_percentage text) (nat_le (hundredths text) LARGEST_GAP) t)) is

seconds_if : (n : ℕ) (s : Option ℕ) (t : Bool) → (t ≡ true → (1 ≤ n) × (n ≤ LARGEST_SECONDS)) → (if t then Some (Some n) else None) ≡ Some s → HasSeconds s
seconds_if n s true range is = let same : Some n ≡ s = cc is in subst HasSeconds same (range refl)
seconds_if n s false range is = absurd (cc is)

seconds_in_range : (text : Option (List ℕ)) (s : Option ℕ) → seconds_from text ≡ Some s → HasSeconds s
seconds_in_range None s is = let same : None ≡ s = cc is in subst HasSeconds same tt
seconds_in_range (Some text) s is = seconds_if (digits_value 10 text) s (is_seconds text) (number_in_range 1 LARGEST_SECONDS text) is

newest_if : (n k : ℕ) (t : Bool) → (t ≡ true → (OLDEST_CERTIFICATE ≤ n) × (n ≤ NEWEST_CERTIFICATE)) → (if t then Some n else None) ≡ Some k → (OLDEST_CERTIFICATE ≤ k) × (k ≤ NEWEST_CERTIFICATE)
newest_if n k true range is = let same : n ≡ k = cc is in subst (λ j. (OLDEST_CERTIFICATE ≤ j) × (j ≤ NEWEST_CERTIFICATE)) same (range refl)
newest_if n k false range is = absurd (cc is)

newest_in_range : (text : Option (List ℕ)) (k : ℕ) → newest_from text ≡ Some k → (OLDEST_CERTIFICATE ≤ k) × (k ≤ NEWEST_CERTIFICATE)
newest_in_range None k is = let same : NEWEST_CERTIFICATE ≡ k = cc is in subst (λ j. (OLDEST_CERTIFICATE ≤ j) × (j ≤ NEWEST_CERTIFICATE)) same (omega arith, omega arith)
newest_in_range (Some text) k is = newest_if (digits_value 10 text) k (is_version text) (number_in_range OLDEST_CERTIFICATE NEWEST_CERTIFICATE text) is

-- the numbers of a search are in their limits
record IsSearch (s : Search) : Type 0 where
  some : 1 ≤ s.budget
  limit : s.budget ≤ LARGEST_BUDGET
  gap : HasGap s.gap
  seconds : HasSeconds s.seconds
  oldest : OLDEST_CERTIFICATE ≤ s.newest
  newest : s.newest ≤ NEWEST_CERTIFICATE

-- the numbers of a search, where each is in its limits
record AreInRange (budget : Option ℕ) (gap seconds : Option (Option ℕ)) (newest : Option ℕ) : Type 0 where
  budgets : (k : ℕ) → budget ≡ Some k → (1 ≤ k) × (k ≤ LARGEST_BUDGET)
  gaps : (g : Option ℕ) → gap ≡ Some g → HasGap g
  times : (t : Option ℕ) → seconds ≡ Some t → HasSeconds t
  versions : (n : ℕ) → newest ≡ Some n → (OLDEST_CERTIFICATE ≤ n) × (n ≤ NEWEST_CERTIFICATE)

search_within : (budget : Option ℕ) (start : Option (List ℕ)) (gap seconds : Option (Option ℕ)) (newest : Option ℕ) (s : Search) → AreInRange budget gap seconds newest → search_with budget start gap seconds newest ≡ Some s → IsSearch s
search_within None start gap seconds newest s r is = absurd (cc is)
search_within (Some budget) start None seconds newest s r is = absurd (cc is)
search_within (Some budget) start (Some gap) None newest s r is = absurd (cc is)
search_within (Some budget) start (Some gap) (Some seconds) None s r is = absurd (cc is)
search_within (Some budget) start (Some gap) (Some seconds) (Some newest) s r is =
    let made : Search = record { budget = budget; start = start; gap = gap; seconds = seconds; newest = newest } in
    let same : made ≡ s = cc is in
    let b = r.budgets budget refl in
    let v = r.versions newest refl in
    subst IsSearch same (record { some = b.0; limit = b.1; gap = r.gaps gap refl; seconds = r.times seconds refl; oldest = v.0; newest = v.1 })

search_in_range : (nodes start gap seconds newest : Option (List ℕ)) (s : Search) → search_from nodes start gap seconds newest ≡ Some s → IsSearch s
search_in_range nodes start gap seconds newest s is = search_within (budget_from nodes) start (gap_from gap) (seconds_from seconds) (newest_from newest) s
    (record { budgets = budget_in_range nodes; gaps = gap_in_range gap; times = seconds_in_range seconds; versions = newest_in_range newest }) is

start_apart : (m c : List ℕ) (start : Option (List ℕ)) → is_start_name m c start ≡ true → IfSome start (λ f. AreApart m f c)
start_apart m c None is = tt
start_apart m c (Some f) is = are_apart m f c is

fine_planned : (m p c : List ℕ) (search : Option Search) → ((s : Search) → search ≡ Some s → IsSearch s) → Fine (planned m p c search)
fine_planned m p c None range = fine_none
fine_planned m p c (Some s) range = fine_if (is_start_name m c s.start && are_file_names m p c) (planning m p c s) (λ is.
    let r = range s refl in
    record {
      apart = are_apart m p c (rest_true (is_start_name m c s.start) (are_file_names m p c) is);
      some = r.some;
      limit = r.limit;
      start = start_apart m c s.start (first_true (is_start_name m c s.start) (are_file_names m p c) is);
      gap = r.gap;
      seconds = r.seconds;
      oldest = r.oldest;
      newest = r.newest;
    })

fine_planning : (m p c : Option (List ℕ)) (search : Option Search) → ((s : Search) → search ≡ Some s → IsSearch s) → Fine (planning_from m p c search)
fine_planning None p c search range = fine_none
fine_planning (Some m) None c search range = fine_none
fine_planning (Some m) (Some p) None search range = fine_none
fine_planning (Some m) (Some p) (Some c) search range = fine_planned m p c search range

fine_judging : (m p : Option (List ℕ)) → Fine (judging_from m p)
fine_judging None p = fine_none
fine_judging (Some m) None = fine_none
fine_judging (Some m) (Some p) = fine_if (are_two_names m p) (judging m p) (two_apart m p)

fine_checking : (m p c : Option (List ℕ)) → Fine (checking_from m p c)
fine_checking None p c = fine_none
fine_checking (Some m) None c = fine_none
fine_checking (Some m) (Some p) None = fine_none
fine_checking (Some m) (Some p) (Some c) = fine_if (are_file_names m p c) (checking m p c) (are_apart m p c)

fine_reported : (m p : List ℕ) (form : Option ReportForm) → Fine (reported m p form)
fine_reported m p None = fine_none
fine_reported m p (Some form) = fine_if (are_two_names m p) (reporting m p form) (two_apart m p)

fine_reporting : (m p full table : Option (List ℕ)) → Fine (reporting_from m p full table)
fine_reporting None p full table = fine_none
fine_reporting (Some m) None full table = fine_none
fine_reporting (Some m) (Some p) full table = fine_reported m p (form_from full table)

fine_generated : (n items periods m : List ℕ) → Fine (generated n items periods m)
fine_generated n items periods m = fine_if _ (generating (digits_value 10 n) (digits_value 10 items) (digits_value 10 periods) m) (λ is.
    let others : (is_number 1 MAX_ITEMS items && (is_number 1 FIRST_VERSION_PERIODS periods && is_file_name m)) ≡ true = rest_true (is_seed n) _ is in
    let last : (is_number 1 FIRST_VERSION_PERIODS periods && is_file_name m) ≡ true = rest_true (is_number 1 MAX_ITEMS items) _ others in
    let i = number_in_range 1 MAX_ITEMS items (first_true (is_number 1 MAX_ITEMS items) _ others) in
    let t = number_in_range 1 FIRST_VERSION_PERIODS periods (first_true (is_number 1 FIRST_VERSION_PERIODS periods) _ last) in
    record { seed_limit = seed_fits n (first_true (is_seed n) _ is); some_items = i.0; items_limit = i.1; some_periods = t.0; periods_limit = t.1 })

fine_generating : (n items periods m : Option (List ℕ)) → Fine (generating_from n items periods m)
fine_generating None items periods m = fine_none
fine_generating (Some n) None periods m = fine_none
fine_generating (Some n) (Some items) None m = fine_none
fine_generating (Some n) (Some items) (Some periods) None = fine_none
fine_generating (Some n) (Some items) (Some periods) (Some m) = fine_generated n items periods m

fine_demonstrating : (n : Option (List ℕ)) → Fine (demonstrating_from n)
fine_demonstrating None = fine_none
fine_demonstrating (Some n) = fine_if (is_seed n) (demonstrating (digits_value 10 n)) (seed_fits n)

fine_upgrading : (m n : Option (List ℕ)) → Fine (upgrading_from m n)
fine_upgrading None n = fine_none
fine_upgrading (Some m) None = fine_none
fine_upgrading (Some m) (Some n) = fine_if (are_two_names m n) (upgrading m n) (two_apart m n)

fine_bounding : (m : Option (List ℕ)) → Fine (bounding_from m)
fine_bounding None = fine_none
fine_bounding (Some m) = fine_if (is_file_name m) (bounding m) (λ is. tt)

fine_scheduling : (m p s : Option (List ℕ)) → Fine (scheduling_from m p s)
fine_scheduling None p s = fine_none
fine_scheduling (Some m) None s = fine_none
fine_scheduling (Some m) (Some p) None = fine_none
fine_scheduling (Some m) (Some p) (Some s) = fine_if (are_file_names m p s) (scheduling m p s) (are_apart m p s)

fine_schedule_checking : (m p s : Option (List ℕ)) → Fine (schedule_checking_from m p s)
fine_schedule_checking None p s = fine_none
fine_schedule_checking (Some m) None s = fine_none
fine_schedule_checking (Some m) (Some p) None = fine_none
fine_schedule_checking (Some m) (Some p) (Some s) = fine_if (are_file_names m p s) (schedule_checking m p s) (are_apart m p s)

fine_pegging : (m p q : Option (List ℕ)) → Fine (pegging_from m p q)
fine_pegging None p q = fine_none
fine_pegging (Some m) None q = fine_none
fine_pegging (Some m) (Some p) None = fine_none
fine_pegging (Some m) (Some p) (Some q) = fine_if (are_file_names m p q) (pegging m p q) (are_apart m p q)

fine_completing : (m p q : Option (List ℕ)) → Fine (completing_from m p q)
fine_completing None p q = fine_none
fine_completing (Some m) None q = fine_none
fine_completing (Some m) (Some p) None = fine_none
fine_completing (Some m) (Some p) (Some q) = fine_if (are_file_names m p q) (completing m p q) (are_apart m p q)

fine_drawing : (m p h c : Option (List ℕ)) → Fine (drawing_from m p h c)
fine_drawing None p h c = fine_none
fine_drawing (Some m) None h c = fine_none
fine_drawing (Some m) (Some p) None c = fine_none
fine_drawing (Some m) (Some p) (Some h) None = fine_if (are_file_names m p h) (drawing m p h None) (are_apart m p h)
fine_drawing (Some m) (Some p) (Some h) (Some c) = fine_if (are_four_names m p h c) (drawing m p h (Some c)) (four_apart m p h c)

fine_replanned : (m p f n q c : List ℕ) (budget : Option ℕ) → ((k : ℕ) → budget ≡ Some k → (1 ≤ k) × (k ≤ LARGEST_BUDGET)) → Fine (replanned m p f n q c budget)
fine_replanned m p f n q c None range = fine_none
fine_replanned m p f n q c (Some k) range = fine_if (are_five_names m p n q c && is_start f) (replanning m p (digits_value 10 f) n q c k) (λ is. record {
  apart = five_apart m p n q c (first_true (are_five_names m p n q c) (is_start f) is);
  start_limit = (number_in_range 0 largest_start f (rest_true (are_five_names m p n q c) (is_start f) is)).1;
  some = (range k refl).0;
  limit = (range k refl).1;
})

fine_replanning : (m p f n q c nodes : Option (List ℕ)) → Fine (replanning_from m p f n q c nodes)
fine_replanning None p f n q c nodes = fine_none
fine_replanning (Some m) None f n q c nodes = fine_none
fine_replanning (Some m) (Some p) None n q c nodes = fine_none
fine_replanning (Some m) (Some p) (Some f) None q c nodes = fine_none
fine_replanning (Some m) (Some p) (Some f) (Some n) None c nodes = fine_none
fine_replanning (Some m) (Some p) (Some f) (Some n) (Some q) None nodes = fine_none
fine_replanning (Some m) (Some p) (Some f) (Some n) (Some q) (Some c) nodes = fine_replanned m p f n q c (budget_from nodes) (budget_in_range nodes)

fine_in : (name : List ℕ) (rows : List Row) → Fine (request_in name rows)
fine_in name rows =
    fine_either (bytes_eq name (codes "plan")) _ _ (fine_planning (first_of (codes "M") rows) (first_of (codes "P") rows) (first_of (codes "C") rows) (search_from (first_of (codes "nodes") rows) (first_of (codes "start") rows) (first_of (codes "gap") rows) (first_of (codes "seconds") rows) (first_of (codes "certificate") rows))
    (search_in_range (first_of (codes "nodes") rows) (first_of (codes "start") rows) (first_of (codes "gap") rows) (first_of (codes "seconds") rows) (first_of (codes "certificate") rows)))
    (fine_either (bytes_eq name (codes "judge")) _ _ (fine_judging (first_of (codes "M") rows) (first_of (codes "P") rows))
    (fine_either (bytes_eq name (codes "check")) _ _ (fine_checking (first_of (codes "M") rows) (first_of (codes "P") rows) (first_of (codes "C") rows))
    (fine_either (bytes_eq name (codes "report")) _ _ (fine_reporting (first_of (codes "M") rows) (first_of (codes "P") rows) (first_of (codes "full") rows) (first_of (codes "table") rows))
    (fine_either (bytes_eq name (codes "gen")) _ _ (fine_generating (first_of (codes "N") rows) (first_of (codes "ITEMS") rows) (first_of (codes "PERIODS") rows) (first_of (codes "M") rows))
    (fine_either (bytes_eq name (codes "demo")) _ _ (fine_demonstrating (first_of (codes "N") rows))
    (fine_either (bytes_eq name (codes "upgrade")) _ _ (fine_upgrading (first_of (codes "M") rows) (first_of (codes "M2") rows))
    (fine_either (bytes_eq name (codes "bound")) _ _ (fine_bounding (first_of (codes "M") rows))
    (fine_either (bytes_eq name (codes "schedule")) _ _ (fine_scheduling (first_of (codes "M") rows) (first_of (codes "P") rows) (first_of (codes "S") rows))
    (fine_either (bytes_eq name (codes "schedcheck")) _ _ (fine_schedule_checking (first_of (codes "M") rows) (first_of (codes "P") rows) (first_of (codes "S") rows))
    (fine_either (bytes_eq name (codes "peg")) _ _ (fine_pegging (first_of (codes "M") rows) (first_of (codes "P") rows) (first_of (codes "Q") rows))
    (fine_either (bytes_eq name (codes "complete")) _ _ (fine_completing (first_of (codes "M") rows) (first_of (codes "P") rows) (first_of (codes "P2") rows))
    (fine_either (bytes_eq name (codes "draw")) _ _ (fine_drawing (first_of (codes "M") rows) (first_of (codes "P") rows) (first_of (codes "H") rows) (first_of (codes "proof") rows))
    (fine_either (bytes_eq name (codes "replan")) _ _ (fine_replanning (first_of (codes "M") rows) (first_of (codes "P") rows) (first_of (codes "F") rows) (first_of (codes "M2") rows) (first_of (codes "P2") rows) (first_of (codes "C") rows) (first_of (codes "nodes") rows)) fine_none)))))))))))))

fine_matches : (s : Option (List ℕ × List Row)) → Fine (request_by_matches s)
fine_matches None = fine_some version tt
fine_matches (Some s) = fine_in s.0 s.1

fine_unless : (ks : Kinds) (o : Option Request) → Fine o → Fine (unless_refused ks o)
fine_unless [] o fine = fine
fine_unless (k ∷ ks) o fine = fine_none

pub commands_are_allowed : CommandsAreAllowed
unfolding command_of
commands_are_allowed words = fine_unless (fault_of planner_app words) (request_by_matches (subcommand_of planner_app words)) (fine_matches (subcommand_of planner_app words))
