-- Laws of volume and height.
use Rattle.std.proofs.Common.{◌≡◌, ◌≤◌, ◌<◌, ◌+◌, ◌-◌, ◌*◌, ◌/◌, ⊎_elim, ℕ, zero, suc, ap, arith, List, [], ◌∷◌, length, set, take, add-one}
use Rattle.tree_search.specs.declared.node.Range.{Range}
use Rattle.tree_search.specs.Ranges.{AreOrdered, IsAllowed, IsLowered, IsPoint, IsSplitAt, digits, height, high_part, high_side, low_part, low_side, range_at, volume, width}
use Rattle.tree_search.proofs.Halves.{digits-half, digits-less}
use Rattle.std.proofs.lemmas.Bool.{cases_lt}
use Rattle.std.proofs.lemmas.Nat.{mul-le}

pub volume_some : (rs : List Range) → 1 ≤ volume rs
volume_some [] = omega arith
volume_some (r ∷ rs) = omega (arith, volume_some rs, mul-le 1 1 (width r + 1) (volume rs))

-- where one range is cut in two, the volume is that of both sides
pub volume_cut : (rs : List Range) (k : ℕ) (a b : Range) → k < length rs → width a + width b + 1 ≡ width (range_at rs k) → volume (set rs k a) + volume (set rs k b) ≡ volume rs
volume_cut [] k a b h e = absurd (omega arith)
volume_cut (r ∷ rs) zero a b h e = omega (arith, ap (λ w. (w + 1) * volume rs) e)
volume_cut (r ∷ rs) (suc k) a b h e = omega (arith, ap (λ v. (width r + 1) * v) (volume_cut rs k a b (omega arith) e))

pub volume_split : (rs : List Range) (k at : ℕ) → IsSplitAt rs k at → volume (low_side rs k at) + volume (high_side rs k at) ≡ volume rs
volume_split rs k at h = volume_cut rs k (low_part (range_at rs k) at) (high_part (range_at rs k) at) h.0 (omega arith)

pub point_of_volume : (rs : List Range) → AreOrdered rs → volume rs ≤ 1 → IsPoint rs
point_of_volume [] o h = tt
point_of_volume (r ∷ rs) o h =
    let some : 1 ≤ volume rs = volume_some rs in
    let low : r.low ≤ r.high = o.0 in
    let small : volume rs ≤ 1 = omega (arith, h, mul-le 1 (volume rs) (width r + 1) (volume rs)) in
    let same : width r + 1 ≤ width r + 1 = omega arith in
    let narrow : width r + 1 ≤ 1 = omega (arith, h, mul-le (width r + 1) 1 (width r + 1) (volume rs) same some) in
    (omega (arith, narrow, low), point_of_volume rs o.1 small)

pub height_set : (rs : List Range) (k : ℕ) (a : Range) → k < length rs → height (set rs k a) + digits (width (range_at rs k)) ≡ height rs + digits (width a)
height_set [] k a h = absurd (omega arith)
height_set (r ∷ rs) zero a h = omega arith
height_set (r ∷ rs) (suc k) a h = omega (arith, height_set rs k a (omega arith))

pub point_of_height : (rs : List Range) → AreOrdered rs → height rs ≡ 0 → IsPoint rs
point_of_height [] o h = tt
point_of_height (r ∷ rs) o h = (
  ⊎_elim
      (λ less. absurd (omega (arith, h, digits-half (width r) (omega (arith, less)))))
      (λ rest. omega (arith, rest, o.0))
      (cases_lt r.low r.high),
  point_of_height rs o.1 (omega arith),
)

ordered_set : (rs : List Range) (k : ℕ) (a : Range) → AreOrdered rs → a.low ≤ a.high → AreOrdered (set rs k a)
ordered_set [] k a o h = tt
ordered_set (r ∷ rs) zero a o h = (h, o.1)
ordered_set (r ∷ rs) (suc k) a o h = (o.0, ordered_set rs k a o.1 h)

pub ordered_low : (rs : List Range) (k at : ℕ) → AreOrdered rs → IsSplitAt rs k at → AreOrdered (low_side rs k at)
ordered_low rs k at o h = ordered_set rs k (low_part (range_at rs k) at) o h.1

pub ordered_high : (rs : List Range) (k at : ℕ) → AreOrdered rs → IsSplitAt rs k at → AreOrdered (high_side rs k at)
ordered_high rs k at o h = ordered_set rs k (high_part (range_at rs k) at) o (omega arith)

-- a branch lowers the height where both parts are at most half as wide
pub lowered_by_half : (rs : List Range) (k at : ℕ) → IsSplitAt rs k at → at - (range_at rs k).low ≤ width (range_at rs k) / 2 → (range_at rs k).high - (at + 1) ≤ width (range_at rs k) / 2 → IsLowered rs k at
lowered_by_half rs k at h low high =
    let r = range_at rs k in
    let wide : 1 ≤ width r = omega arith in (
      omega (arith, height_set rs k (low_part r at) h.0, digits-less (at - r.low) (width r) wide low),
      omega (arith, height_set rs k (high_part r at) h.0, digits-less (r.high - (at + 1)) (width r) wide high),
    )

-- the middle of a range
pub split_in_middle : (rs : List Range) (k at : ℕ) → k < length rs → (range_at rs k).low < (range_at rs k).high → at ≡ (range_at rs k).low + width (range_at rs k) / 2 → IsSplitAt rs k at × IsLowered rs k at
split_in_middle rs k at inside wide e =
    let h : IsSplitAt rs k at = (inside, omega arith, omega arith) in
    (h, lowered_by_half rs k at h (omega arith) (omega arith))

-- one more range that leaves one number
point_suc : (rs : List Range) (k : ℕ) → AreOrdered rs → k < length rs → (range_at rs k).high ≤ (range_at rs k).low → IsPoint (take k rs) → IsPoint (take (suc k) rs)
point_suc [] k o h e p = absurd (omega arith)
point_suc (r ∷ rs) zero o h e p = (let l : r.low ≤ r.high = o.0 in omega (arith, l, e), tt)
point_suc (r ∷ rs) (suc k) o h e p = (p.0, point_suc rs k o.1 (omega arith) e p.1)

pub point_more : (rs : List Range) (k : ℕ) → AreOrdered rs → k < length rs → (range_at rs k).high ≤ (range_at rs k).low → IsPoint (take k rs) → IsPoint (take (k + 1) rs)
point_more rs k o h e p = rw add-one (point_suc rs k o h e p)

-- a point has one number at each place
pub point_at : (rs : List Range) (k : ℕ) → k < length rs → IsPoint rs → (range_at rs k).low ≡ (range_at rs k).high
point_at [] k h p = absurd (omega arith)
point_at (r ∷ rs) zero h p = p.0
point_at (r ∷ rs) (suc k) h p = point_at rs k (omega arith) p.1

pub wide_no_point : (rs : List Range) (k : ℕ) → k < length rs → (range_at rs k).low < (range_at rs k).high → IsPoint rs → ⊥
wide_no_point rs k h w p = let e = point_at rs k h p in omega (arith, e, w)

-- what lowers the height is allowed below any number of branches
pub allowed_if_lowered : (depth : ℕ) (rs : List Range) (k at : ℕ) → IsLowered rs k at → IsAllowed depth rs k at
allowed_if_lowered depth rs k at l =
    let low : height (low_side rs k at) < height rs = l.0 in
    let high : height (high_side rs k at) < height rs = l.1 in
    (omega (arith, low), omega (arith, high))
