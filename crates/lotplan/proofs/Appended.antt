-- In how many pieces files were written.
use Rattle.std.proofs.Common.{◌≡◌, ◌≢◌, ◌∙◌, ◌≤◌, ◌+◌, ℕ, List, [], ◌∷◌, length, Some, IsTrue, inl, inr, refl, sym, ap, subst, arith}
use Rattle.std.specs.Prelude.{Result, Ok, Err, IfOk, OnErr}
use Rattle.std.specs.declared.alloc.AllocError.{AllocError}
use Rattle.lot_sizing.specs.Problem.{Problem}
use Rattle.lot_sizing.specs.Plan.{Plan}
use Rattle.lot_io.specs.Outside.{OnlyReads, Printed, Shelved, pieces_of}
use Rattle.plan_rules.specs.declared.plan.Plan.{Plan as Grids}
use Rattle.plan_page.specs.Page.{page_text}
use Rattle.plan_page.specs.declared.proving.Proved.{Proved}
use Rattle.command_line.specs.Words.{AreApart}
use Rattle.lotplan.specs.Status.{code_of}
use Rattle.lotplan.specs.Saying.{Ends, IsSaid}
use Rattle.lotplan.specs.Writing.{AppendsAs, IsWritten, WritesAll, pieces_in, size_of}
use Rattle.lotplan.specs.Extracting.{WritesAndSays}
use Rattle.lotplan.specs.Completing.{PutsAndSays}
use Rattle.lotplan.specs.Drawing.{PageSays}
use Rattle.lotplan.specs.declared.said.Said.{Said}
use Rattle.lotplan.specs.declared.status.Status.{Status}
use Rattle.lotplan.specs.declared.status.Status.TheVariants as status
use Rattle.lotplan.specs.declared.status.TheConstants.{UNWRITTEN, UNPRINTED}
use Rattle.lotplan.proofs.Outputs.{printed}
use Rattle.lotplan.proofs.Readings.{same_reads}
use Rattle.lotplan.proofs.Writings.{told_before, written_one, written_two}

-- ---- from a bound to what is said
module _ (names : List (List ℕ)) (old new : Shelved) where
  appends_as : (s : Status) → (IsTrue old.told → new.appends ≤ old.appends + pieces_in names new.file) → AppendsAs names s old new
  appends_as status.Unwritten x = tt
  appends_as _ x = x

  pub unwritten_appends : (text : List ℕ) (said : Said) → IsSaid text status.Unwritten said → AppendsAs names said.status old new
  unwritten_appends text said says = subst (λ s. AppendsAs names s old new) (sym says.status) tt

  -- of files that were only read
  pub reads_append : (r : Result Said AllocError) → OnlyReads old new → IfOk r (λ said. AppendsAs names said.status old new)
  reads_append (Ok said) reads = appends_as said.status (λ t. omega (arith, reads.appends))
  reads_append (Err e) reads = tt

-- and so before
pub appends_after : (names : List (List ℕ)) (old mid new : Shelved) (r : Result Said AllocError) → OnlyReads old mid → IfOk r (λ said. AppendsAs names said.status mid new) → IfOk r (λ said. AppendsAs names said.status old new)
appends_after names old mid new (Ok said) reads x = of said.status x
  where
    of : (s : Status) → AppendsAs names s mid new → AppendsAs names s old new
    of status.Unwritten y = tt
    of _ y = λ t. subst (λ n. new.appends ≤ n + pieces_in names new.file) reads.appends (y (told_before reads t))
appends_after names old mid new (Err e) reads x = tt

-- ---- one file
one_bound : (name bytes : List ℕ) (old new : Shelved) → new.file name ≡ Some bytes → new.appends ≤ old.appends + pieces_of (length bytes) → new.appends ≤ old.appends + pieces_in (name ∷ []) new.file
one_bound name bytes old new holds few =
    let e : pieces_of (size_of (new.file name)) ≡ pieces_of (length bytes) = ap (λ f. pieces_of (size_of f)) holds in
    let few_then : new.appends ≤ old.appends + pieces_of (size_of (new.file name)) = subst (λ n. new.appends ≤ old.appends + n) (sym e) few in
    omega (arith, few_then)

pub file_appends : (name bytes : List ℕ) (old new : Shelved) (s : Status) → (IsTrue old.told → new.file name ≡ Some bytes) → new.appends ≤ old.appends + pieces_of (length bytes) → AppendsAs (name ∷ []) s old new
file_appends name bytes old new s holds few = appends_as (name ∷ []) old new s (λ t. one_bound name bytes old new (holds t) few)

written_appends : (name bytes : List ℕ) (old new : Shelved) (s : Status) → IsWritten name bytes old new → AppendsAs (name ∷ []) s old new
written_appends name bytes old new s w = file_appends name bytes old new s w.written w.appends.1

-- an extract, a completed plan and a page
pub extract_appends : (word : List ℕ) (count : ℕ) (file bytes : List ℕ) (old new : Shelved) (r : Result Said AllocError) → IfOk r (WritesAndSays word count file bytes old new) → IfOk r (λ said. AppendsAs (file ∷ []) said.status old new)
extract_appends word count file bytes old new (Ok said) (inl (says, w)) = written_appends file bytes old new said.status w
extract_appends word count file bytes old new (Ok said) (inr (says, w)) = subst (λ s. AppendsAs (file ∷ []) s old new) (sym says.status) tt
extract_appends word count file bytes old new (Err e) x = tt

pub put_appends : (problem : Problem) (plan : Grids) (amount : ℕ) (file : List ℕ) (old new : Shelved) (r : Result Said AllocError) → IfOk r (PutsAndSays problem plan amount file old new) → IfOk r (λ said. AppendsAs (file ∷ []) said.status old new)
put_appends problem plan amount file old new (Ok said) (inl (says, bytes, short, is, w)) = written_appends file bytes old new said.status w
put_appends problem plan amount file old new (Ok said) (inr (says, w)) = subst (λ s. AppendsAs (file ∷ []) s old new) (sym says.status) tt
put_appends problem plan amount file old new (Err e) x = tt

pub page_appends : (problem : Problem) (plan : Plan) (shown : Proved) (h : List ℕ) (old new : Shelved) (r : Result Said AllocError) → IfOk r (PageSays problem plan shown h old new) → IfOk r (λ said. AppendsAs (h ∷ []) said.status old new)
page_appends problem plan shown h old new (Ok said) (inl (short, inl (says, w))) = written_appends h (page_text problem plan shown) old new said.status w
page_appends problem plan shown h old new (Ok said) (inl (short, inr (says, w))) = subst (λ s. AppendsAs (h ∷ []) s old new) (sym says.status) tt
page_appends problem plan shown h old new (Ok said) (inr (long, says, same)) = reads_append (h ∷ []) old new (Ok said) (same_reads old new same)
page_appends problem plan shown h old new (Err e) x = tt

-- ---- several files, of which the later ones leave the earlier ones as they are
-- the second of two alone, and both
pub second_appends : (p c bytes : List ℕ) (old new : Shelved) (s : Status) → WritesAll ((c, bytes) ∷ []) old new → AppendsAs (p ∷ c ∷ []) s old new
second_appends p c bytes old new s all =
    let w = written_one c bytes old new all in
    appends_as (p ∷ c ∷ []) old new s (λ t.
    let few = one_bound c bytes old new (w.written t) w.appends.1 in
    omega (arith, few))

pub both_append : (p text c bytes : List ℕ) (old new : Shelved) (s : Status) → p ≢ c → WritesAll ((p, text) ∷ (c, bytes) ∷ []) old new → AppendsAs (p ∷ c ∷ []) s old new
both_append p text c bytes old new s apart all =
    let (mid, first, second) = written_two p text c bytes old new all in
    appends_as (p ∷ c ∷ []) old new s (λ t.
    let told = subst IsTrue (sym first.touches.told) t in
    let kept = second.touches.others told p (apart, tt) in
    let few = one_bound p text old mid (first.written t) first.appends.1 in
    let more = one_bound c bytes mid new (second.written told) second.appends.1 in
    let same : pieces_of (size_of (new.file p)) ≡ pieces_of (size_of (mid.file p)) = ap (λ f. pieces_of (size_of f)) kept in
    omega (arith, few, more, same))

-- the first and the last of three, and all
pub ends_append : (n model q c bytes : List ℕ) (old new : Shelved) (s : Status) → AreApart n q c → WritesAll ((n, model) ∷ (c, bytes) ∷ []) old new → AppendsAs (n ∷ q ∷ c ∷ []) s old new
ends_append n model q c bytes old new s apart all =
    let (mid, first, second) = written_two n model c bytes old new all in
    appends_as (n ∷ q ∷ c ∷ []) old new s (λ t.
    let told = subst IsTrue (sym first.touches.told) t in
    let kept = second.touches.others told n (apart.certificate, tt) in
    let few = one_bound n model old mid (first.written t) first.appends.1 in
    let more = one_bound c bytes mid new (second.written told) second.appends.1 in
    let same : pieces_of (size_of (new.file n)) ≡ pieces_of (size_of (mid.file n)) = ap (λ f. pieces_of (size_of f)) kept in
    omega (arith, few, more, same))

pub all_append : (n model q text c bytes : List ℕ) (old new : Shelved) (s : Status) → AreApart n q c → WritesAll ((n, model) ∷ (q, text) ∷ (c, bytes) ∷ []) old new → AppendsAs (n ∷ q ∷ c ∷ []) s old new
all_append n model q text c bytes old new s apart (mid, first, more) =
    let (late, second, third) = written_two q text c bytes mid new more in
    appends_as (n ∷ q ∷ c ∷ []) old new s (λ t.
    let told = subst IsTrue (sym first.touches.told) t in
    let told_late = subst IsTrue (sym second.touches.told) told in
    let kept = third.touches.others told_late n (apart.certificate, tt) ∙ second.touches.others told n (apart.plan, tt) in
    let kept_text = third.touches.others told_late q (apart.written, tt) in
    let few = one_bound n model old mid (first.written t) first.appends.1 in
    let more = one_bound q text mid late (second.written told) second.appends.1 in
    let most = one_bound c bytes late new (third.written told_late) third.appends.1 in
    let same : pieces_of (size_of (new.file n)) ≡ pieces_of (size_of (mid.file n)) = ap (λ f. pieces_of (size_of f)) kept in
    let same_text : pieces_of (size_of (new.file q)) ≡ pieces_of (size_of (late.file q)) = ap (λ f. pieces_of (size_of f)) kept_text in
    omega (arith, few, more, most, same, same_text))

-- ---- the run
bound_of : (names : List (List ℕ)) (old new : Shelved) (s : Status) → code_of s ≢ UNWRITTEN → AppendsAs names s old new → IsTrue old.told → new.appends ≤ old.appends + pieces_in names new.file
bound_of names old new status.Unwritten some x = absurd (some refl)
bound_of names old new _ some x = x

pub run_appends : (names : List (List ℕ)) (old new : Shelved) (code : ℕ) (out_old out_new : Printed) (r : Result Said AllocError) → IfOk r (λ said. AppendsAs names said.status old new) → OnErr r (OnlyReads old new) → Ends r code out_old out_new → code ≢ UNWRITTEN → code ≢ UNPRINTED → IsTrue old.told → new.appends ≤ old.appends + pieces_in names new.file
run_appends names old new code out_old out_new (Ok said) x left ends some other t =
    let p = printed said.line.items said.status code out_old out_new ends other in
    bound_of names old new said.status (λ is. some (p.0 ∙ is)) x t
run_appends names old new code out_old out_new (Err e) x left ends some other t = omega (arith, left.appends)
