-- Slots that take a line.
use Rattle.std.proofs.Common.{◌≡◌, ◌≤◌, ◌<◌, ◌+◌, ◌-◌, ◌^◌, ◌∙◌, ⊎_elim, ℕ, zero, suc, sym, ap, subst, arith, List, length, Option, Some, None, IfSome, slice_set}
use Rattle.std.specs.Prelude.{IsNone}
use Rattle.std.proofs.lemmas.List.{get_or-set_same, get_or-set_other, length-set}
use Rattle.std.proofs.lemmas.Bool.{cases_eq}
use Rattle.std.proofs.Math.Nat.{pow-suc}
use Rattle.lot_sizing.specs.Single.{Single, position_count}
use Rattle.wagner_whitin.specs.declared.lines.Line.{Line}
use Rattle.wagner_whitin.specs.Lines.{IsLine, AreLines, IsInserted, IsNoDearer, line_cost, slot_at, middle_of}
use Rattle.wagner_whitin.proofs.Reached.{IsPut, ArePaired, middle_low, middle_high, inserted_past, inserted_here, inserted_right, inserted_left}
use Rattle.wagner_whitin.proofs.Costs.{cheaper_before, cheaper_after}

pub put_is : (old : List (Option Line)) (m : ℕ) (l : Line) → 1 ≤ m → m ≤ length old → IsPut m l old (slice_set old (m - 1) (Some l))
put_is old m l low high = record {
  size = length-set old (m - 1) (Some l);
  here = get_or-set_same old (m - 1) (Some l) None (omega (arith, low, high));
  others = λ k k_low apart. get_or-set_other old (m - 1) (k - 1) (Some l) None (λ same. apart (omega (arith, same, low, k_low)));
}

pub line_there : (s : Single) (from m : ℕ) (slots : List (Option Line)) (l : Line) → AreLines s from slots → 1 ≤ m → slot_at slots m ≡ Some l → IsLine s from l
line_there s from m slots l are low there = subst (λ o. IfSome o (IsLine s from)) there (are m low)

pub lines_put : (s : Single) (from m : ℕ) (l : Line) (old new : List (Option Line)) → AreLines s from old → IsLine s from l → IsPut m l old new → AreLines s from new
lines_put s from m l old new are line put k k_low =
    ⊎_elim
    (λ same. subst (λ o. IfSome o (IsLine s from)) (sym (ap (slot_at new) same ∙ put.here)) line)
    (λ apart. subst (λ o. IfSome o (IsLine s from)) (sym (put.others k k_low apart)) (are k k_low))
    (cases_eq k m)

-- half of the positions, and one level less
pub record IsHalved (level low high : ℕ) : Type 0 where
  pub some : 1 ≤ level
  pub left : middle_of low high - low < 2 ^ (level - 1)
  pub right : high - (middle_of low high + 1) < 2 ^ (level - 1)

pub halved : (level low high : ℕ) → low < high → high - low < 2 ^ level → IsHalved level low high
halved zero low high some few = absurd (omega (arith, some, few))
halved (suc level) low high some few =
    let e : suc level - 1 ≡ level = omega arith in
    let power = ap (λ k. 2 ^ k) e in
    record { some = omega arith; left = omega (arith, few, power, pow-suc 2 level); right = omega (arith, few, power, pow-suc 2 level) }

pub both_lines : (s : Single) (from : ℕ) (line other kept rest : Line) → ArePaired line other kept rest → IsLine s from line → IsLine s from other → IsLine s from kept × IsLine s from rest
both_lines s from line other kept rest pair a b =
    ⊎_elim
    (λ same. (subst (IsLine s from) (sym same.0) a, subst (IsLine s from) (sym same.1) b))
    (λ swap. (subst (IsLine s from) (sym swap.0) b, subst (IsLine s from) (sym swap.1) a))
    pair.either

-- what is known where a slot has a line and a cheaper one takes its place
pub record IsSwapped (s : Single) (from level low high : ℕ) (line other kept rest : Line) (old : List (Option Line)) : Type 0 where
  pub halved : IsHalved level low high
  pub one : 1 ≤ middle_of low high
  pub last : middle_of low high < high
  pub put : IsPut (middle_of low high) kept old (slice_set old (middle_of low high - 1) (Some kept))
  pub kept_line : IsLine s from kept
  pub rest_line : IsLine s from rest
  pub lines : AreLines s from (slice_set old (middle_of low high - 1) (Some kept))
  pub size : length (slice_set old (middle_of low high - 1) (Some kept)) ≡ length old

pub swapped : (s : Single) (from level low high : ℕ) (line other kept rest : Line) (old : List (Option Line)) → 1 ≤ low → low < high → high ≤ length old + 1 → high - low < 2 ^ level → IsLine s from line → AreLines s from old → slot_at old (middle_of low high) ≡ Some other → ArePaired line other kept rest → IsSwapped s from level low high line other kept rest old
swapped s from level low high line other kept rest old low_one some top few is_line are there pair =
    let m = middle_of low high in
    let m_low : low ≤ m = middle_low low high some in
    let m_high : m < high = middle_high low high some in
    let both = both_lines s from line other kept rest pair is_line (line_there s from m old other are (omega (arith, low_one, m_low)) there) in
    let put = put_is old m kept (omega (arith, low_one, m_low)) (omega (arith, m_high, top)) in
    record {
      halved = halved level low high some few;
      one = omega (arith, low_one, m_low);
      last = m_high;
      put = put;
      kept_line = both.0;
      rest_line = both.1;
      lines = lines_put s from m kept old (slice_set old (m - 1) (Some kept)) are both.0 put;
      size = put.size;
    }

pub past : (value : Line → ℕ → ℕ) (from level low high : ℕ) (line : Line) (old new : List (Option Line)) → low < high → high - low < 2 ^ level → middle_of low high < from → IsInserted value from (level - 1) (middle_of low high + 1) high line old new → IsInserted value from level low high line old new
past value from level low high line old new some few before inner =
    let e : suc (level - 1) ≡ level = omega (arith, (halved level low high some few).some) in
    subst (λ k. IsInserted value from k low high line old new) e (inserted_past value from (level - 1) low high line old new some before inner)

pub placed : (value : Line → ℕ → ℕ) (from level low high : ℕ) (line : Line) (old : List (Option Line)) → 1 ≤ low → low < high → high ≤ length old + 1 → high - low < 2 ^ level → slot_at old (middle_of low high) ≡ None → IsInserted value from level low high line old (slice_set old (middle_of low high - 1) (Some line))
placed value from level low high line old low_one some top few empty =
    let m = middle_of low high in
    let m_low : low ≤ m = middle_low low high some in
    let m_high : m < high = middle_high low high some in
    let new = slice_set old (m - 1) (Some line) in
    let e : suc (level - 1) ≡ level = omega (arith, (halved level low high some few).some) in
    subst (λ k. IsInserted value from k low high line old new) e (inserted_here value from (level - 1) low high line old new low_one some empty (put_is old m line (omega (arith, low_one, m_low)) (omega (arith, m_high, top))))

pub went_right : (s : Single) (from level low high : ℕ) (line other kept rest : Line) (old new : List (Option Line)) → IsNone s.back → 1 ≤ low → low < high → high ≤ position_count s + 1 → IsSwapped s from level low high line other kept rest old → ArePaired line other kept rest → slot_at old (middle_of low high) ≡ Some other → line_cost s kept (middle_of low high) ≤ line_cost s rest (middle_of low high) → IsNoDearer s rest.server kept.server → IsInserted (line_cost s) from (level - 1) (middle_of low high + 1) high rest (slice_set old (middle_of low high - 1) (Some kept)) new → IsInserted (line_cost s) from level low high line old new
went_right s from level low high line other kept rest old new no_backlog low_one some top is pair there order slopes inner =
    let e : suc (level - 1) ≡ level = omega (arith, is.halved.some) in
    let cheaper = cheaper_before s from (middle_of low high) kept rest no_backlog is.kept_line is.rest_line (omega (arith, is.last, top)) order slopes in
    subst (λ k. IsInserted (line_cost s) from k low high line old new) e (inserted_right (line_cost s) from (level - 1) low high line other kept rest old (slice_set old (middle_of low high - 1) (Some kept)) new low_one some pair there is.put cheaper inner)

pub went_left : (s : Single) (from level low high : ℕ) (line other kept rest : Line) (old new : List (Option Line)) → IsNone s.back → 1 ≤ low → low < high → high ≤ position_count s + 1 → from ≤ middle_of low high → IsSwapped s from level low high line other kept rest old → ArePaired line other kept rest → slot_at old (middle_of low high) ≡ Some other → line_cost s kept (middle_of low high) ≤ line_cost s rest (middle_of low high) → IsNoDearer s kept.server rest.server → IsInserted (line_cost s) from (level - 1) low (middle_of low high) rest (slice_set old (middle_of low high - 1) (Some kept)) new → IsInserted (line_cost s) from level low high line old new
went_left s from level low high line other kept rest old new no_backlog low_one some top begun is pair there order slopes inner =
    let e : suc (level - 1) ≡ level = omega (arith, is.halved.some) in
    let cheaper = cheaper_after s from (middle_of low high) kept rest no_backlog is.kept_line is.rest_line begun order slopes in
    subst (λ k. IsInserted (line_cost s) from k low high line old new) e (inserted_left (line_cost s) from (level - 1) low high line other kept rest old (slice_set old (middle_of low high - 1) (Some kept)) new low_one some pair there is.put (λ p late p_high. cheaper p late (omega (arith, p_high, top))) inner)
