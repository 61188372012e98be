-- Rounds grow by cuts.
use Rattle.std.proofs.Common.{◌≡◌, ◌≤◌, ◌+◌, ◌-◌, ◌∙◌, ℕ, suc, refl, sym, ap, arith, Bool, true, false, List, [], ◌∷◌, ◌++◌, length, slice_index_or, append_assoc, append-nil}
use Rattle.std.specs.Prelude.{map}
use Rattle.std.specs.List.{All}
use Rattle.std.proofs.Math.Seq.{get_or-append_seam}
use Rattle.std.proofs.lemmas.List.{get_or_append_left, length_push}
use Rattle.std.proofs.lemmas.List.Elements.{All-append, All-head, All-tail, All-weaker}
use Rattle.lot_sizing.specs.Problem.{Problem}
use Rattle.lin_rows.specs.declared.base.RowName.{RowName}
use Rattle.lin_rows.specs.declared.base.RowName.TheVariants.{Balance, Link, Capacity, EndMin, EndMax, Top, Least, Late, Path, Cut}
use Rattle.lin_rows.specs.Base.{HasRow, row_of}
use Rattle.lin_rows.specs.Rows.{LinRow}
use Rattle.tableau.specs.Program.{Program, with_row}
use Rattle.cert_meaning.specs.Named.{no_row, row_named}
use Rattle.lp_relaxation.specs.declared.program.Side.{Side}
use Rattle.lp_relaxation.specs.Names.{base_names, cut_names, round_names}
use Rattle.lp_relaxation.specs.Rounds.{IsRound, at_root, round_sides}
use Rattle.lp_relaxation.specs.Sides.{all_sides, program_rows, side, side_inequality, sides_of, turned_row}
use Rattle.lp_relaxation.proofs.Naming.{each_to, names_are}

pub map_length : {A B : Type 0} (f : A → B) (xs : List A) → length (map f xs) ≡ length xs
map_length f [] = refl
map_length f (x ∷ xs) = omega (arith, map_length f xs)

pub map_append : {A B : Type 0} (f : A → B) (xs ys : List A) → map f (xs ++ ys) ≡ map f xs ++ map f ys
map_append f [] ys = refl
map_append f (x ∷ xs) ys = ap (λ zs. f x ∷ zs) (map_append f xs ys)

pub sides_append : (row : RowName → LinRow) (names : List RowName) (name : RowName) → all_sides row (names ++ (name ∷ [])) ≡ all_sides row names ++ sides_of name (row name).equal
sides_append row [] name = append-nil (sides_of name (row name).equal)
sides_append row (first ∷ names) name = ap (λ ss. sides_of first (row first).equal ++ ss) (sides_append row names name) ∙ sym (append_assoc (sides_of first (row first).equal) (all_sides row names) (sides_of name (row name).equal))

pub same_sides : (m : Problem) (row : RowName → LinRow) (name : RowName) (e : Bool) → map (side_inequality m row) (sides_of name e) ≡ map (λ s. turned_row m s.turned (row name)) (sides_of name e)
same_sides m row name true = refl
same_sides m row name false = refl

pub rows_append : (m : Problem) (row : RowName → LinRow) (names : List RowName) (name : RowName) → program_rows m row (all_sides row (names ++ (name ∷ []))) ≡ program_rows m row (all_sides row names) ++ map (λ s. turned_row m s.turned (row name)) (sides_of name (row name).equal)
rows_append m row names name =
    ap (program_rows m row) (sides_append row names name) ∙ map_append (side_inequality m row) (all_sides row names) (sides_of name (row name).equal)
    ∙ ap (λ rows. program_rows m row (all_sides row names) ++ rows) (same_sides m row name (row name).equal)

-- ---- rows that agree at the names
pub sides_same : (row other : RowName → LinRow) (names : List RowName) → All (λ name. row name ≡ other name) names → all_sides row names ≡ all_sides other names
sides_same row other [] same = refl
sides_same row other (name ∷ names) same =
    let P = λ (n : RowName). row n ≡ other n in
    ap (λ r. sides_of name r.equal ++ all_sides row names) (All-head P name names same) ∙ ap (λ ss. sides_of name (other name).equal ++ ss) (sides_same row other names (All-tail P name names same))

pub one_same : (m : Problem) (row other : RowName → LinRow) (name : RowName) (e : Bool) → row name ≡ other name → program_rows m row (sides_of name e) ≡ program_rows m other (sides_of name e)
one_same m row other name true is = ap (λ r. turned_row m false r ∷ (turned_row m true r ∷ [])) is
one_same m row other name false is = ap (λ r. turned_row m false r ∷ []) is

pub rows_same : (m : Problem) (row other : RowName → LinRow) (names : List RowName) → All (λ name. row name ≡ other name) names → program_rows m row (all_sides row names) ≡ program_rows m other (all_sides other names)
rows_same m row other [] same = refl
rows_same m row other (name ∷ names) same =
    let P = λ (n : RowName). row n ≡ other n in
    let here = All-head P name names same in
    let e = (row name).equal in
    map_append (side_inequality m row) (sides_of name e) (all_sides row names)
    ∙ ap (λ rows. rows ++ program_rows m row (all_sides row names)) (one_same m row other name e here)
    ∙ ap (λ rows. program_rows m other (sides_of name e) ++ rows) (rows_same m row other names (All-tail P name names same))
    ∙ sym (map_append (side_inequality m other) (sides_of name e) (all_sides other names))
    ∙ ap (λ r. program_rows m other (sides_of name r.equal ++ all_sides other names)) here

-- ---- the names of a round
-- a base name means the problem's row, whatever the cuts
pub base_named : (m : Problem) (total : ℕ → ℕ) (rows : List LinRow) (name : RowName) → HasRow m name → row_named (at_root m total rows) name ≡ row_of m total name
base_named m total rows (Balance i t) has = refl
base_named m total rows (Link i t) has = refl
base_named m total rows (Capacity k t) has = refl
base_named m total rows (EndMin i) has = refl
base_named m total rows (EndMax i) has = refl
base_named m total rows (Top i t) has = refl
base_named m total rows (Least i t) has = refl
base_named m total rows (Late i t) has = refl
base_named m total rows (Path n) has = absurd has
base_named m total rows (Cut n) has = absurd has

-- what holds of base names and of the cuts' names
pub each_round : (P : RowName → Type 0) (m : Problem) (n : ℕ) → ((name : RowName) → HasRow m name → P name) → ((k : ℕ) → 1 ≤ k → k ≤ n → P (Cut k)) → All P (round_names m n)
each_round P m n base cuts = All-append P (base_names m) (cut_names n) (All-weaker (HasRow m) P base (base_names m) (names_are m).each) (each_to P n (λ k. Cut k) cuts)

module _ (m : Problem) (total : ℕ → ℕ) (rows : List LinRow) (r : LinRow) where
  abbrev more : List LinRow
  more = rows ++ (r ∷ [])

  abbrev before : RowName → LinRow
  before = row_named (at_root m total rows)

  abbrev after : RowName → LinRow
  after = row_named (at_root m total more)

  names_more : round_names m (length more) ≡ round_names m (length rows) ++ (Cut (length rows + 1) ∷ [])
  names_more =
      ap (round_names m) (long ∙ next)
      ∙ ap (λ k. base_names m ++ (cut_names (length rows) ++ (Cut k ∷ []))) (sym next)
      ∙ sym (append_assoc (base_names m) (cut_names (length rows)) (Cut (length rows + 1) ∷ []))
    where
      long : length more ≡ length rows + 1
      long = length_push rows r

      next : length rows + 1 ≡ suc (length rows)
      next = omega arith

  -- earlier names mean the same
  agree : All (λ name. after name ≡ before name) (round_names m (length rows))
  agree = each_round (λ name. after name ≡ before name) m (length rows)
      (λ name has. base_named m total more name has ∙ sym (base_named m total rows name has))
      (λ k low high. get_or_append_left rows (r ∷ []) no_row (k - 1) (omega (arith, low, high)))

  last_is : after (Cut (length rows + 1)) ≡ r
  last_is = ap (λ k. slice_index_or more k no_row) place ∙ get_or-append_seam rows r [] no_row
    where
      place : length rows + 1 - 1 ≡ length rows
      place = omega arith

  -- an inequality has one side
  last_sides : r.equal ≡ false → sides_of (Cut (length rows + 1)) (after (Cut (length rows + 1))).equal ≡ side (Cut (length rows + 1)) false ∷ []
  last_sides unequal = ap (sides_of (Cut (length rows + 1))) (ap (λ s. s.equal) last_is ∙ unequal)

  sides_more : r.equal ≡ false → round_sides m total more ≡ round_sides m total rows ++ (side (Cut (length rows + 1)) false ∷ [])
  sides_more unequal =
      ap (all_sides after) names_more ∙ sides_append after (round_names m (length rows)) (Cut (length rows + 1))
      ∙ ap (λ ss. ss ++ sides_of (Cut (length rows + 1)) (after (Cut (length rows + 1))).equal) (sides_same after before (round_names m (length rows)) agree)
      ∙ ap (λ ss. round_sides m total rows ++ ss) (last_sides unequal)

  rows_more : r.equal ≡ false → program_rows m after (round_sides m total more) ≡ program_rows m before (round_sides m total rows) ++ (turned_row m false r ∷ [])
  rows_more unequal =
      let name = Cut (length rows + 1) in
      let list = round_names m (length rows) in
      ap (λ names. program_rows m after (all_sides after names)) names_more ∙ rows_append m after list name
      ∙ ap (λ rs. rs ++ map (λ s. turned_row m s.turned (after name)) (sides_of name (after name).equal)) (rows_same m after before list agree)
      ∙ ap (λ ss. program_rows m before (round_sides m total rows) ++ map (λ s. turned_row m s.turned (after name)) ss) (last_sides unequal)
      ∙ ap (λ s. program_rows m before (round_sides m total rows) ++ (turned_row m false s ∷ [])) last_is

  pub round_more : (p : Program) (list : List Side) → r.equal ≡ false → IsRound m total rows p list → IsRound m total more (with_row p (turned_row m false r)) (list ++ (side (Cut (length rows + 1)) false ∷ []))
  round_more p list unequal is = record {
    program = record {
      costs_are = is.program.costs_are;
      rows_are = ap (λ rs. rs ++ (turned_row m false r ∷ [])) is.program.rows_are ∙ sym (rows_more unequal);
    };
    sides_are = ap (λ ss. ss ++ (side (Cut (length rows + 1)) false ∷ [])) is.sides_are ∙ sym (sides_more unequal);
  }
