-- What the bounds of a path say of setups, by item and period, both counted from 1.
use Rattle.std.specs.Prelude.{◌≡◌, ◌==◌, ◌&&◌, if◌then◌else◌, ℕ, zero, suc, ◌+◌, ◌-◌, ◌<◌, ◌≤◌, Bool, true, false, List, [], ◌∷◌, length, slice_index_or, slice_set}
use Rattle.lin_rows.specs.declared.bound.Bound.{Bound}
use Rattle.lin_rows.specs.declared.column.Column.{Column}
use Rattle.lin_rows.specs.declared.column.Column.TheVariants.{X, Y, S, R}
use Rattle.node_setups.specs.declared.fixed.Held.{Held}
use Rattle.node_setups.specs.declared.fixed.Held.TheVariants.{AtLeastOne, AtMostZero, Free}

-- the setups of an item
abbrev pub line_of : List (List Held) → ℕ → List Held
line_of lines item = slice_index_or lines (item - 1) []

-- what is said of a setup
abbrev pub held_at : List (List Held) → ℕ → ℕ → Held
held_at lines item period = slice_index_or (line_of lines item) (period - 1) Free

-- there is such a setup
abbrev pub HasCell : List (List Held) → ℕ → ℕ → Type 0
HasCell lines item period = (1 ≤ item) × (item ≤ length lines) × (1 ≤ period) × (period ≤ length (line_of lines item))

-- the same with another thing said of one setup
abbrev pub with_held : List (List Held) → ℕ → ℕ → Held → List (List Held)
with_held lines item period held = slice_set lines (item - 1) (slice_set (line_of lines item) (period - 1) held)

-- one thing of one setup, another of all others
abbrev pub held_or : ℕ → ℕ → Held → ℕ → ℕ → Held → Held
held_or item period held i t before = if (i == item) && (t == period) then held else before

-- the setups stay, and of one of them another thing is said
abbrev pub IsHeld : List (List Held) → ℕ → ℕ → Held → List (List Held) → Type 0
IsHeld lines item period held found = (i t : ℕ) → HasCell lines i t → HasCell found i t × (held_at found i t ≡ held_or item period held i t (held_at lines i t))

-- what a bound of a setup says, by its number on the path: most or least, and of which number
abbrev pub held_by : Bool → ℕ → ℕ → Held
held_by true zero n = AtMostZero n
held_by true (suc k) n = Free
held_by false zero n = Free
held_by false (suc k) n = AtLeastOne n

-- it says so of one column, and nothing of another
abbrev pub held_of : Column → Held → ℕ → ℕ → Held
held_of (Y i t) held item period = if (item == i) && (period == t) then held else Free
held_of (X i t) held item period = Free
held_of (S i t) held item period = Free
held_of (R i t) held item period = Free

-- what the bound of a number on the path says of a setup
abbrev pub says : Bound → ℕ → ℕ → ℕ → Held
says b n item period = held_of b.column (held_by b.most b.number n) item period

-- what the first says, and the second where the first says nothing
abbrev pub or_held : Held → Held → Held
or_held Free held = held
or_held (AtLeastOne n) held = AtLeastOne n
or_held (AtMostZero n) held = AtMostZero n

-- the setups stay, and of some of them something is said by a bound of a column
abbrev pub IsPutOver : Column → Held → List (List Held) → List (List Held) → Type 0
IsPutOver column held lines found = (i t : ℕ) → HasCell lines i t → HasCell found i t × (held_at found i t ≡ or_held (held_of column held i t) (held_at lines i t))

-- what the last of the bounds that says something of a setup says, where the first one has this number
abbrev pub last_held : List Bound → ℕ → ℕ → ℕ → Held
last_held [] n item period = Free
last_held (b ∷ bs) n item period = or_held (last_held bs (n + 1) item period) (says b n item period)

-- lists for these items and periods say what the path does
abbrev pub IsLastHeld : List Bound → List (List Held) → ℕ → ℕ → Type 0
IsLastHeld path lines item period = HasCell lines item period × (held_at lines item period ≡ last_held path 1 item period)
