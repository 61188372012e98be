-- The steps by which a dictionary is searched and changed.
use Rattle.std.specs.Prelude.{◌≡◌, ◌≢◌, ◌⊎◌, ◌≤◌, ◌<◌, ◌+◌, ◌-ℤ◌, ℕ, zero, suc, List, length, slice_index_or, Option, Some, None, ⊤}
use Rattle.rational.specs.Rational.{ℚ, inv_ℚ, neg_ℚ, ◌*ℚ◌, ◌-ℚ◌, ◌≤ℚ◌}
use Rattle.frac128.specs.Limits.{divided_ℚ, Fits, SumFits}
use Rattle.tableau.specs.Program.{zero_ℚ}
use Rattle.tableau.specs.Dictionary.{Dictionary, basic_at, cell, factor_at, height, nonbasic_at, width}
use Rattle.tableau.specs.Run.{IsCandidate, IsNegative, OtherFits, RatioFits, RowFits, UpdateFits, ratio_at}

-- ---- the search for the leaving row
-- a row has a lower number than the best so far, if there is one
abbrev pub IsNumberedLower : Dictionary → ℕ → Option ℕ → Type 0
IsNumberedLower d i None = ⊤
IsNumberedLower d i (Some best) = basic_at d i < basic_at d best

-- of a row and the best before it the one that leaves
abbrev pub IsLower : Dictionary → Option ℕ → ℕ → Option ℕ → Type 0
IsLower d best i next =
    ((next ≡ Some i) × IsNegative (cell d i 0) × IsNumberedLower d i best)
    ⊎ ((next ≡ best) × (IsNegative (cell d i 0) → IsNumberedLower d i best → ⊥))

-- ---- the search for the entering column
abbrev pub HasNoneTo : Dictionary → ℕ → ℕ → Type 0
HasNoneTo d k to = (t : ℕ) → t < to → IsCandidate d k t → ⊥

abbrev pub RatiosFitTo : Dictionary → ℕ → ℕ → Type 0
RatiosFitTo d k to = (t : ℕ) → t < to → IsCandidate d k t → RatioFits d k t

-- a column of this ratio goes before the best so far, if there is one, with its own ratio
abbrev pub GoesBefore : Dictionary → ℕ → ℚ → Option (ℕ × ℚ) → Type 0
GoesBefore d t x None = ⊤
GoesBefore d t x (Some (j, y)) = (y ≤ℚ x → ⊥) ⊎ ((x ≡ y) × (nonbasic_at d t < nonbasic_at d j))

-- of a column and the best before it the one that enters, with its ratio
abbrev pub IsBetter : Dictionary → ℕ → Option (ℕ × ℚ) → ℕ → Option (ℕ × ℚ) → Type 0
IsBetter d k best t next =
    ((next ≡ best) × (IsCandidate d k t → ⊥))
    ⊎ (IsCandidate d k t × RatioFits d k t × (((next ≡ Some (t, ratio_at d k t)) × GoesBefore d t (ratio_at d k t) best) ⊎ ((next ≡ best) × (GoesBefore d t (ratio_at d k t) best → ⊥))))

-- a candidate whose ratio doesn't fit
pub record IsRefusedRatio (d : Dictionary) (k t : ℕ) : Type 0 where
  pub candidate : IsCandidate d k t
  pub refused : RatioFits d k t → ⊥

-- ---- the changes of a pivot
-- the same variables in the same places
pub record HasSameNames (d e : Dictionary) : Type 0 where
  pub basics : e.basic ≡ d.basic
  pub nonbasics : e.nonbasic ≡ d.nonbasic

-- one cell is another
pub record IsSet (d : Dictionary) (i t : ℕ) (x : ℚ) (e : Dictionary) : Type 0 where
  pub names : HasSameNames d e
  pub here : cell e i t ≡ x
  pub others : (h u : ℕ) → h < height d → u < width d → (h ≢ i) ⊎ (u ≢ t) → cell e h u ≡ cell d h u

-- a cell less a multiple of that in the pivot row
pub record CellFits (d : Dictionary) (k i t : ℕ) (factor : ℚ) : Type 0 where
  pub product : cell d k t ≢ zero_ℚ → Fits (factor *ℚ cell d k t)
  pub difference : cell d k t ≢ zero_ℚ → SumFits ◌-ℤ◌ (cell d i t) (factor *ℚ cell d k t)

-- a row has been updated
pub record IsRowUpdated (d : Dictionary) (k j i : ℕ) (e : Dictionary) : Type 0 where
  pub names : HasSameNames d e
  pub others : (h u : ℕ) → h < height d → u < width d → h ≢ i → cell e h u ≡ cell d h u
  pub cells : (u : ℕ) → u < width d → u ≢ j → cell e i u ≡ cell d i u -ℚ factor_at d k j i *ℚ cell d k u
  pub column : cell e i j ≡ factor_at d k j i
  pub fits : (u : ℕ) → u < width d → OtherFits d k j i u

-- the pivot row has been divided
pub record IsDivided (d : Dictionary) (k j : ℕ) (e : Dictionary) : Type 0 where
  pub names : HasSameNames d e
  pub others : (h u : ℕ) → h < height d → u < width d → h ≢ k → cell e h u ≡ cell d h u
  pub cells : (u : ℕ) → u < width d → u ≢ j → cell e k u ≡ divided_ℚ (cell d k u) (neg_ℚ (cell d k j))
  pub corner : cell e k j ≡ inv_ℚ (cell d k j)
  pub fits : (u : ℕ) → u < width d → RowFits d k j u

-- the variables of a row and a column have changed places
pub record AreExchanged (d : Dictionary) (k j : ℕ) (e : Dictionary) : Type 0 where
  pub rows : height e ≡ height d
  pub columns : width e ≡ width d
  pub cells : e.cells ≡ d.cells
  pub entered : basic_at e k ≡ nonbasic_at d j
  pub left : nonbasic_at e j ≡ basic_at d k
  pub basics : (i : ℕ) → i < height d → i ≢ k → basic_at e i ≡ basic_at d i
  pub nonbasics : (t : ℕ) → t < width d → t ≢ j → nonbasic_at e t ≡ nonbasic_at d t

abbrev pub UpdatesFit : Dictionary → ℕ → ℕ → Type 0
UpdatesFit d k j = (i t : ℕ) → i < height d → t < width d → UpdateFits d k j i t

-- ---- the columns of a row that aren't 0
-- from one column to before another a row has 0
pub record IsSkip (d : Dictionary) (k from to : ℕ) : Type 0 where
  pub low : from ≤ to
  pub zero : (u : ℕ) → from ≤ u → u < to → u < width d → cell d k u ≡ zero_ℚ

-- where the search goes on after the first so many columns of a list
abbrev pub from_place : List ℕ → ℕ → ℕ
from_place list zero = 0
from_place list (suc j) = slice_index_or list j 0 + 1

-- the first so many of a list rise and are below a column, and between them and up to it the row has 0
pub record AreListed (d : Dictionary) (k : ℕ) (list : List ℕ) (count to : ℕ) : Type 0 where
  pub few : count ≤ to
  pub below : (j : ℕ) → j < count → slice_index_or list j 0 < to
  pub between : (j : ℕ) → j < count → IsSkip d k (from_place list j) (slice_index_or list j 0)
  pub last : IsSkip d k (from_place list count) to

-- the columns of a row but for some that have 0, in order
abbrev pub AreColumns : Dictionary → ℕ → List ℕ → Type 0
AreColumns d k list = AreListed d k list (length list) (width d)

abbrev pub AreBelow : ℕ → List ℕ → Type 0
AreBelow to list = (j : ℕ) → j < length list → slice_index_or list j 0 < to

-- the cells of a row in the first so many columns of a list
abbrev pub AreCopied : Dictionary → ℕ → List ℕ → ℕ → List ℚ → Type 0
AreCopied d i list count copies = (j : ℕ) → j < count → slice_index_or copies j zero_ℚ ≡ cell d i (slice_index_or list j 0)
