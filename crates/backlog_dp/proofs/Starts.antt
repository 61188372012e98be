-- The least start decides for all of them.
use Rattle.std.proofs.Common.{◌≡◌, ◌≤◌, ◌<◌, ◌+◌, ◌-◌, ◌*◌, ◌⊎◌, ⊎_elim, inl, inr, ℕ, zero, suc, sym, ap, subst, arith, Bool, true, false, List, length, Option, Some, None, IfSome}
use Rattle.std.specs.Prelude.{nat_le, nat_lt, if◌then◌else◌}
use Rattle.std.proofs.lemmas.Bool.{cases_Bool, cases_lt}
use Rattle.lot_sizing.specs.Sums.{sum_to}
use Rattle.lot_sizing.specs.Problem.{AllAtMost, entry}
use Rattle.lot_sizing.specs.Single.{potential}
use Rattle.lot_sizing.proofs.Sums.{sum_to-front, sum_to_at}
use Rattle.lot_sizing.specs.declared.limits.TheConstants.{MAX_PERIODS}
use Rattle.echelon_rows.specs.declared.limits.TheConstants.{MAX_STEP}
use Rattle.backlog_dp.specs.declared.rising.Start.{Start}
use Rattle.backlog_dp.specs.Search.{HoldsTo, IsAfter, IsKept, IsLeastStart, IsSmallStart, kept_of, lower_of, rise_most, rises_past, serves_at}
use Rattle.backlog_dp.proofs.Stretches.{potential_entry, stretch_between}

-- one of the first n or the next one
last_or_before : (p n : ℕ) → p ≤ suc n → (p ≤ n) ⊎ (p ≡ suc n)
last_or_before p n h = ⊎_elim (λ less. inl (omega (arith, less))) (λ no. inr (omega (arith, no, h))) (cases_lt p (suc n))

after_at : (g costs : List ℕ) (n : ℕ) (b : Start) → IsAfter g costs n b → IsAfter g costs (suc n - 1) b
after_at g costs n b is = let d : suc n - 1 ≡ n = omega arith in subst (λ k. IsAfter g costs k b) (sym d) is

-- a position from which no block may begin
stays : (g costs : List ℕ) (may : ℕ → Bool) (n : ℕ) (a : Start) → may (suc n) ≡ false → IsLeastStart g costs may n a → IsLeastStart g costs may (suc n) a
stays g costs may n a idle kept = record {
  some = (kept.some.0, kept.some.1, omega (arith, kept.some.2), kept.some.3, kept.some.4);
  least = λ p low high serves. ⊎_elim (λ before. kept.least p low before serves) (λ e. absurd (cc (ap may e, serves, idle))) (last_or_before p n high);
}

-- the next start against one from which a block may reach no more
at_next : (g costs : List ℕ) (n p : ℕ) (a b : Start) → p ≡ suc n → IsAfter g costs n b → a.potential + b.spent ≤ b.potential + a.spent → a.potential + sum_to (p - 1) (entry costs) ≤ potential g (p - 1) + a.spent
at_next g costs n p a b e is less =
    let d : p - 1 ≡ n = omega (arith, e) in
    omega (arith, less, is.potential, is.spent, ap (λ k. sum_to k (entry costs)) d, ap (potential g) d)

begins : (g costs : List ℕ) (may : ℕ → Bool) (n : ℕ) (b : Start) → may (suc n) ≡ true → IsAfter g costs n b → ((p : ℕ) → 1 ≤ p → p ≤ n → may p ≡ true → b.potential + sum_to (p - 1) (entry costs) ≤ potential g (p - 1) + b.spent) → IsLeastStart g costs may (suc n) b
begins g costs may n b serves is less = record {
  some = (suc n, omega arith, omega arith, serves, after_at g costs n b is);
  least = λ p low high ok. ⊎_elim (λ before. less p low before ok) (λ e. at_next g costs n p b b e is (omega arith)) (last_or_before p n high);
}

at_most_true : (x y : ℕ) → nat_le x y ≡ true → x ≤ y
at_most_true x y h = grind (arith, h)

at_most_false : (x y : ℕ) → nat_le x y ≡ false → y < x
at_most_false x y h = grind (arith, h)

less_true : (x y : ℕ) → nat_lt x y ≡ true → x < y
less_true x y h = grind (arith, h)

less_false : (x y : ℕ) → nat_lt x y ≡ false → y ≤ x
less_false x y h = grind (arith, h)

lower_starts : (g costs : List ℕ) (may : ℕ → Bool) (n : ℕ) (a b : Start) → may (suc n) ≡ true → IsAfter g costs n b → IsLeastStart g costs may n a → IsLeastStart g costs may (suc n) (lower_of a b)
lower_starts g costs may n a b serves is kept =
    let pick : Bool → Start = λ x. if x then b else a in
    ⊎_elim
    (λ yes.
    let less = at_most_true (b.potential + a.spent) (a.potential + b.spent) yes in
    subst (λ x. IsLeastStart g costs may (suc n) (pick x)) (sym yes) (begins g costs may n b serves is (λ p low high ok. omega (arith, kept.least p low high ok, less))))
    (λ no.
    let more = at_most_false (b.potential + a.spent) (a.potential + b.spent) no in
    let stay : IsLeastStart g costs may (suc n) a = record {
      some = (kept.some.0, kept.some.1, omega (arith, kept.some.2), kept.some.3, kept.some.4);
      least = λ p low high ok. ⊎_elim (λ before. kept.least p low before ok) (λ e. at_next g costs n p a b e is (omega (arith, more))) (last_or_before p n high);
    } in
    subst (λ x. IsLeastStart g costs may (suc n) (pick x)) (sym no) stay)
    (cases_Bool (nat_le (b.potential + a.spent) (a.potential + b.spent)))

kept_more : (g costs : List ℕ) (may : ℕ → Bool) (n : ℕ) (kept : Option Start) (b : Start) (serves : Bool) → serves ≡ may (suc n) → IsAfter g costs n b → IsKept g costs may n kept → IsKept g costs may (suc n) (kept_of kept b serves)
kept_more g costs may n None b true same is none = begins g costs may n b (sym same) is (λ p low high ok. absurd (none p low high ok))
kept_more g costs may n None b false same is none = λ p low high ok. ⊎_elim (λ before. none p low before ok) (λ e. absurd (cc (ap may e, ok, same))) (last_or_before p n high)
kept_more g costs may n (Some a) b true same is kept = lower_starts g costs may n a b (sym same) is kept
kept_more g costs may n (Some a) b false same is kept = stays g costs may n a (sym same) kept

-- what is kept takes the start of the next position
pub kept_next : (g costs : List ℕ) (may : ℕ → Bool) (p : ℕ) (kept : Option Start) (b : Start) (serves : Bool) → 1 ≤ p → serves ≡ may p → IsAfter g costs (p - 1) b → IsKept g costs may (p - 1) kept → IsKept g costs may p (kept_of kept b serves)
kept_next g costs may zero kept b serves low same is had = absurd (omega (arith, low))
kept_next g costs may (suc n) kept b serves low same is had =
    let d : suc n - 1 ≡ n = omega arith in
    kept_more g costs may n kept b serves same (subst (λ k. IsAfter g costs k b) d is) (subst (λ k. IsKept g costs may k kept) d had)

-- where the potentials don't rise past it, they don't from any position
pub holds_at : (g costs : List ℕ) (may : ℕ → Bool) (n setup : ℕ) (kept : Option Start) (b : Start) → IsKept g costs may n kept → IsAfter g costs n b → rises_past kept b setup ≡ false → (first : ℕ) → 1 ≤ first → first ≤ n → may first ≡ true → potential g n ≤ rise_most g costs setup first n
holds_at g costs may n setup None b none is past first low high ok = absurd (none first low high ok)
holds_at g costs may n setup (Some a) b kept is past first low high ok =
    omega (
      arith,
      kept.least first low high ok,
      less_false (a.potential + setup + b.spent) (b.potential + a.spent) past,
      is.potential,
      is.spent,
      stretch_between first n (entry costs) low high,
    )

-- and where they do, they rise from some position by more than a block costs
pub breaks_at : (g costs : List ℕ) (may : ℕ → Bool) (n setup : ℕ) (kept : Option Start) (b : Start) → IsKept g costs may n kept → IsAfter g costs n b → rises_past kept b setup ≡ true → (first : ℕ) × (1 ≤ first) × (first ≤ n) × (may first ≡ true) × (rise_most g costs setup first n < potential g n)
breaks_at g costs may n setup None b none is past = absurd (cc past)
breaks_at g costs may n setup (Some a) b kept is past =
    let at = kept.some in (
      at.0,
      at.1,
      at.2,
      at.3,
      omega (
        arith,
        at.4.potential,
        at.4.spent,
        less_true (a.potential + setup + b.spent) (b.potential + a.spent) past,
        is.potential,
        is.spent,
        stretch_between at.0 n (entry costs) at.1 at.2,
      ),
    )

pub potential_small : (most : ℕ) (g : List ℕ) (p : ℕ) → AllAtMost most g → p ≤ length g → potential g p ≤ most
potential_small most g zero small high = omega arith
potential_small most g (suc p) small high = small (suc p - 1) 0 (omega (arith, high))

pub after_small : (g costs : List ℕ) (p : ℕ) (a : Start) → AllAtMost MAX_STEP g → length costs ≡ length g → sum_to (length costs) (entry costs) ≤ MAX_PERIODS * MAX_STEP → p ≤ length g → IsAfter g costs p a → IsSmallStart a
after_small g costs p a small same cheap high is = record {
  potential = omega (arith, is.potential, potential_small MAX_STEP g p small high);
  spent = omega (arith, is.spent, sum_to-front p (length costs) (entry costs) (omega (arith, high, same)), cheap);
}

pub kept_small : (g costs : List ℕ) (may : ℕ → Bool) (n : ℕ) (kept : Option Start) → AllAtMost MAX_STEP g → length costs ≡ length g → sum_to (length costs) (entry costs) ≤ MAX_PERIODS * MAX_STEP → n ≤ length g → IsKept g costs may n kept → IfSome kept IsSmallStart
kept_small g costs may n None small same cheap high none = tt
kept_small g costs may n (Some a) small same cheap high kept = after_small g costs (kept.some.0 - 1) a small same cheap (omega (arith, high, kept.some.2)) kept.some.4

-- of one server's blocks, those that end one position later
pub holds_more : (g costs periods : List ℕ) (setup : ℕ) (owing : Bool) (server n : ℕ) → 1 ≤ n → HoldsTo g costs periods setup owing server (n - 1) → ((first : ℕ) → 1 ≤ first → first ≤ n → serves_at owing server periods first ≡ true → potential g n ≤ rise_most g costs setup first n) → HoldsTo g costs periods setup owing server n
holds_more g costs periods setup owing server n some before here first last low order high ok =
    ⊎_elim
    (λ less. before first last low order (omega (arith, less)) ok)
    (λ no.
    let e : n ≡ last = omega (arith, no, high) in
    subst (λ k. potential g k ≤ rise_most g costs setup first k) e (here first low (omega (arith, order, e)) ok))
    (cases_lt last n)

-- what the next position adds
pub after_next : (g costs : List ℕ) (p x y : ℕ) (b : Start) → 1 ≤ p → IsAfter g costs (p - 1) b → x ≡ entry g p → y ≡ b.spent + entry costs p → IsAfter g costs p (record { potential = x; spent = y })
after_next g costs p x y b low is same more = record {
  potential = omega (arith, same, potential_entry g p low);
  spent = omega (arith, more, is.spent, sum_to_at p (entry costs) low);
}
