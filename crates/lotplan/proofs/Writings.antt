-- What the writing of a file leaves.
use Rattle.std.proofs.Common.{◌≡◌, ◌∙◌, ◌-◌, List, [], ◌∷◌, ℕ, zero, suc, IsTrue, refl, sym, ap, subst, arith}
use Rattle.std.specs.Prelude.{Result, Ok, Err, OnErr}
use Rattle.std.specs.declared.alloc.AllocError.{AllocError}
use Rattle.lot_io.specs.Outside.{Files, GrewBy, OnlyReads, Shelved}
use Rattle.lotplan.specs.Writing.{IsUnwritten, IsWritten, StartsAmong, StartsAtMost, StopsAt, WritesAll}
use Rattle.lotplan.specs.declared.said.Said.{Said}

-- after files that were only read
pub told_before : {old mid : Shelved} → OnlyReads old mid → IsTrue old.told → IsTrue mid.told
told_before reads t = subst IsTrue (sym reads.told) t

pub starts_after : (names : List (List ℕ)) (count : ℕ) (old mid new : Shelved) → OnlyReads old mid → StartsAmong names count mid new → StartsAmong names count old new
starts_after names count old mid new reads x = record {
  told = x.told ∙ reads.told;
  others = λ t other apart. x.others (told_before reads t) other apart ∙ ap (λ (f : Files). f other) reads.files;
  starts = subst (λ n. GrewBy count n new.starts) reads.starts x.starts;
}

pub memory_after : (old mid new : Shelved) (r : Result Said AllocError) → OnlyReads old mid → OnErr r (new ≡ mid) → OnErr r (OnlyReads old new)
memory_after old mid new (Ok said) reads same = tt
memory_after old mid new (Err e) reads same = subst (λ s. OnlyReads old s) (sym same) reads

-- no file is started, or at most those that may be
pub reads_at_most : (names : List (List ℕ)) (old new : Shelved) → OnlyReads old new → StartsAtMost names old new
reads_at_most names old new reads = record { others = λ t other apart. ap (λ (f : Files). f other) reads.files; starts = omega (arith, reads.starts) }

pub reads_none : (old new : Shelved) → OnlyReads old new → GrewBy 0 old.starts new.starts
reads_none old new reads = (omega (arith, reads.starts), omega (arith, reads.starts))

-- one of one file, one of two, the second of two, and both
pub one_at_most : (n : List ℕ) (old new : Shelved) → StartsAmong (n ∷ []) 1 old new → StartsAtMost (n ∷ []) old new
one_at_most n old new x = record { others = x.others; starts = x.starts.1 }

pub first_at_most : (p c : List ℕ) (old new : Shelved) → StartsAmong (p ∷ []) 1 old new → StartsAtMost (p ∷ c ∷ []) old new
first_at_most p c old new x = record { others = λ t other apart. x.others t other (apart.0, tt); starts = omega (arith, x.starts.1) }

pub second_at_most : (p c : List ℕ) (old new : Shelved) → StartsAmong (c ∷ []) 1 old new → StartsAtMost (p ∷ c ∷ []) old new
second_at_most p c old new x = record { others = λ t other apart. x.others t other apart.1; starts = omega (arith, x.starts.1) }

pub both_at_most : (p c : List ℕ) (old new : Shelved) → StartsAmong (p ∷ c ∷ []) 2 old new → StartsAtMost (p ∷ c ∷ []) old new
both_at_most p c old new x = record { others = x.others; starts = x.starts.1 }

-- one more file before others
grew_more : (n a b c : ℕ) → GrewBy 1 a b → GrewBy n b c → GrewBy (suc n) a c
grew_more n a b c x y = (omega (arith, x.0, x.1, y.0, y.1), omega (arith, x.1, y.1))

pub starts_more : (name : List ℕ) (names : List (List ℕ)) (count : ℕ) (old mid new : Shelved) → StartsAmong (name ∷ []) 1 old mid → StartsAmong names count mid new → StartsAmong (name ∷ names) (suc count) old new
starts_more name names count old mid new first more = record {
  told = more.told ∙ first.told;
  others = λ t other apart. more.others (subst IsTrue (sym first.told) t) other apart.1 ∙ first.others t other (apart.0, tt);
  starts = grew_more count old.starts mid.starts new.starts first.starts more.starts;
}

-- some of three files
pub one_of_three : (n q c : List ℕ) (old new : Shelved) → StartsAmong (n ∷ []) 1 old new → StartsAtMost (n ∷ q ∷ c ∷ []) old new
one_of_three n q c old new x = record { others = λ t other apart. x.others t other (apart.0, tt); starts = omega (arith, x.starts.1) }

pub two_of_three : (n q c : List ℕ) (old new : Shelved) → StartsAmong (n ∷ q ∷ []) 2 old new → StartsAtMost (n ∷ q ∷ c ∷ []) old new
two_of_three n q c old new x = record { others = λ t other apart. x.others t other (apart.0, (apart.1.0, tt)); starts = omega (arith, x.starts.1) }

pub ends_of_three : (n q c : List ℕ) (old new : Shelved) → StartsAmong (n ∷ c ∷ []) 2 old new → StartsAtMost (n ∷ q ∷ c ∷ []) old new
ends_of_three n q c old new x = record { others = λ t other apart. x.others t other (apart.0, apart.1.1); starts = omega (arith, x.starts.1) }

pub all_of_three : (n q c : List ℕ) (old new : Shelved) → StartsAmong (n ∷ q ∷ c ∷ []) 3 old new → StartsAtMost (n ∷ q ∷ c ∷ []) old new
all_of_three n q c old new x = record { others = x.others; starts = x.starts.1 }

-- ---- one file, and two
pub written_one : (name bytes : List ℕ) (old new : Shelved) → WritesAll ((name, bytes) ∷ []) old new → IsWritten name bytes old new
written_one name bytes old new (mid, first, same) = subst (IsWritten name bytes old) (sym same) first

pub stopped_one : (place : ℕ) (name bytes : List ℕ) (old new : Shelved) → StopsAt place ((name, bytes) ∷ []) old new → IsUnwritten name old new
stopped_one zero name bytes old new stop = stop
stopped_one (suc place) name bytes old new (mid, first, none) = absurd none

pub written_two : (name bytes other text : List ℕ) (old new : Shelved) → WritesAll ((name, bytes) ∷ (other, text) ∷ []) old new → (mid : Shelved) × IsWritten name bytes old mid × IsWritten other text mid new
written_two name bytes other text old new (mid, first, (last, second, same)) = (mid, first, subst (IsWritten other text mid) (sym same) second)

pub stopped_first : (place : ℕ) (name bytes other text : List ℕ) (old new : Shelved) → place ≡ 0 → StopsAt place ((name, bytes) ∷ (other, text) ∷ []) old new → IsUnwritten name old new
stopped_first zero name bytes other text old new is stop = stop
stopped_first (suc place) name bytes other text old new is stop = absurd (omega (arith, is))

pub stopped_second : (place : ℕ) (name bytes other text : List ℕ) (old new : Shelved) → (place ≡ 0 → ⊥) → StopsAt place ((name, bytes) ∷ (other, text) ∷ []) old new → (mid : Shelved) × IsWritten name bytes old mid × IsUnwritten other mid new
stopped_second zero name bytes other text old new not stop = absurd (not refl)
stopped_second (suc zero) name bytes other text old new not stop = stop
stopped_second (suc (suc place)) name bytes other text old new not (mid, first, (last, second, none)) = absurd none

-- the first of several, and those after it
pub stops_first : (place : ℕ) (name bytes : List ℕ) (more : List (List ℕ × List ℕ)) (old new : Shelved) → place ≡ 0 → StopsAt place ((name, bytes) ∷ more) old new → IsUnwritten name old new
stops_first zero name bytes more old new is stop = stop
stops_first (suc place) name bytes more old new is stop = absurd (omega (arith, is))

pub stops_later : (place : ℕ) (name bytes : List ℕ) (more : List (List ℕ × List ℕ)) (old new : Shelved) → (place ≡ 0 → ⊥) → StopsAt place ((name, bytes) ∷ more) old new → (mid : Shelved) × IsWritten name bytes old mid × StopsAt (place - 1) more mid new
stops_later zero name bytes more old new not stop = absurd (not refl)
stops_later (suc place) name bytes more old new not stop =
    let e : place ≡ suc place - 1 = omega arith in
    (stop.0, stop.1, subst (λ k. StopsAt k more stop.0 new) e stop.2)
