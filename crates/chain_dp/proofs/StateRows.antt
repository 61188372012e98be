-- Rows of states: each goes on with one more lot of the third level, and is put into the table.
use Rattle.std.proofs.Common.{◌≡◌, ◌≤◌, ◌<◌, ◌+◌, ◌*◌, ◌⊎◌, ⊎_elim, inl, inr, ◌∙◌, ℕ, refl, sym, ap, subst, arith, min, List, [], ◌∷◌, ◌++◌, length}
use Rattle.std.proofs.lemmas.Bool.{cases_eq, cases_lt}
use Rattle.chain_dp.specs.declared.lists.LevelLists.{LevelLists}
use Rattle.chain_dp.specs.Lists.{asked_between, at, cell, plane_of, row_of, top_at}
use Rattle.chain_dp.specs.States.{AreGapRows, AreLotRows, AreServed, AreStates, AreTables, AreUnits, IsBegun, IsCompleted, IsNarrow, IsNarrowEnd, IsNarrowLeast, IsStateRow, ending, most_64, opening, state}
use Rattle.chain_dp.proofs.Narrowed.{narrow_sum, narrow_times}
use Rattle.chain_dp.proofs.Pushed.{each_pushed, old, pushed_length}

-- ONE MORE LOT OF THE THIRD LEVEL

-- what lot n of the third level offers
offer_is : (low mid top : LevelLists) (b v n z : ℕ) (row units : List ℕ) (paid price : ℕ) → AreUnits top n (length top.asked.items) units → IsNarrow (at row n + at top.setup_cost.items n) paid → IsNarrow (top_at low mid top v b n) price → z < length top.asked.items
    → IsNarrow (opening low mid top row b v z n) (min (paid + min (price * at units z) most_64) most_64)
offer_is low mid top b v n z row units paid price are first second high =
    narrow_sum (at row n + at top.setup_cost.items n) (top_at low mid top v b n * asked_between top n z) paid (min (price * at units z) most_64) (min (paid + min (price * at units z) most_64) most_64) first
    (narrow_times (top_at low mid top v b n) (asked_between top n z) price (at units z) (min (price * at units z) most_64) second (are.each z high) refl)
    refl

pub completed_more : (low mid top : LevelLists) (b v n : ℕ) (before row new units : List ℕ) (paid price : ℕ) → b ≤ n → n < length top.asked.items → length before ≡ length top.asked.items → IsCompleted low mid top b v n before row
    → AreUnits top n (length top.asked.items) units → IsNarrow (at row n + at top.setup_cost.items n) paid → IsNarrow (top_at low mid top v b n) price → AreServed (n + 1) (length row) paid price units row new → IsCompleted low mid top b v (n + 1) before new
completed_more low mid top b v n before row new units paid price order inside size is are first second served =
    let offer = λ (z : ℕ) (high : z < length top.asked.items). offer_is low mid top b v n z row units paid price are first second high in
    let same : (z : ℕ) → z ≤ n → at new z ≡ at row z = λ z low_z. served.same z (omega (arith, low_z)) in
    let falls : (z : ℕ) → z < length before → at new z ≤ at row z = λ z high.
    ⊎_elim
    (λ small. omega (arith, served.same z small))
    (λ large. omega (arith, served.done z large (omega (arith, high, is.size))))
    (cases_lt z (n + 1)) in
    record {
      size = served.size ∙ is.size;
      below = λ z low_z high. omega (arith, falls z high, is.below z low_z high);
      start = same b order ∙ is.start;
      opens = λ t z low_t high_t less high.
          ⊎_elim
          (λ it. omega (
            arith,
            subst (λ k. at new z ≤ opening low mid top row b v z k) (sym it) (omega (arith, served.done z (omega (arith, it, less)) (omega (arith, high, is.size)), (offer z (omega (arith, high, size))).within)),
            same t (omega (arith, high_t)),
          ))
          (λ apart. omega (arith, falls z high, is.opens t z low_t (omega (arith, high_t, apart)) less high, same t (omega (arith, high_t))))
          (cases_eq t n);
      some = λ z low_z high small.
          let kept : at new z ≡ at row z → (at before z ≤ at new z) ⊎ ((t : ℕ) × (b ≤ t) × (t < n + 1) × (t < z) × (opening low mid top new b v z t ≤ at new z)) = λ e.
          ⊎_elim
          (λ begins. inl (omega (arith, begins, e)))
          (λ step. inr (step.0, step.1, omega (arith, step.2), step.3, omega (arith, step.4, e, same step.0 (omega (arith, step.2)))))
          (is.some z low_z high (omega (arith, small, e))) in
          ⊎_elim
          (λ before_it. kept (served.same z before_it))
          (λ after.
          let value = served.done z after (omega (arith, high, is.size)) in
          ⊎_elim
          (λ old_one. kept (omega (arith, value, old_one)))
          (λ mine. inr (
            n,
            order,
            omega arith,
            omega (arith, after),
            omega (arith, (offer z (omega (arith, high, size))).fits (omega (arith, mine, value, small)), mine, value, same n (omega arith)),
          ))
          (cases_lt (at row z) (min (paid + min (price * at units z) most_64) most_64)))
          (cases_lt z (n + 1));
    }

-- THE ROW OF TWO LOTS

pub state_row_of : (low mid top : LevelLists) (stretches : List (List ℕ)) (table : List (List (List ℕ))) (gaps : List (List ℕ)) (b v : ℕ) (start row : List ℕ) → length mid.asked.items ≡ length top.asked.items → AreGapRows low mid table b b gaps
    → IsBegun gaps stretches (length top.asked.items) v b start → IsCompleted low mid top b v (length top.asked.items) start row → b < length top.asked.items → IsStateRow low mid top stretches table b v row
state_row_of low mid top stretches table gaps b v start row width are begins is inside = record {
  size = is.size ∙ begins.size;
  start = λ none. subst (λ k. at row k ≡ 0) none (is.start ∙ subst (λ k. at start k ≡ 0) (sym none) (begins.start none));
  enter = λ u e z order before within low_z high.
      omega (
        arith,
        is.below z low_z (omega (arith, high, begins.size)),
        begins.enter u z (omega (arith, order, before)) within low_z high,
        ((are.each u (omega (arith, order, before))).each z low_z (omega (arith, high, width))).within e order before,
      );
  opens = λ t z low_t less high. is.opens t z low_t (omega (arith, less, high)) less (omega (arith, high, begins.size));
  some = λ z first low_z high small.
      ⊎_elim
      (λ entered.
      let u = begins.some z first low_z high (omega (arith, entered, small)) in
      let e = ((are.each u.0 u.1).each z low_z (omega (arith, high, width))).some (omega (arith, u.3, entered, small)) in
      inr (record {
        served = u.0;
        lot = e.0;
        order = e.1;
        before = e.2;
        within = u.2;
        cost = omega (arith, e.3, u.3, entered);
      }))
      (λ step. inl (step.0, step.1, step.3, step.4))
      (is.some z low_z (omega (arith, high, begins.size)) small);
}

pub lot_row_pushed : (low mid top : LevelLists) (stretches : List (List ℕ)) (table : List (List (List ℕ))) (b n : ℕ) (rows : List (List ℕ)) (row : List ℕ) → AreLotRows low mid top stretches table b n rows → IsStateRow low mid top stretches table b n row
    → AreLotRows low mid top stretches table b (n + 1) (rows ++ row ∷ [])
lot_row_pushed low mid top stretches table b n rows row are here = record {
  size = pushed_length rows row n are.size;
  each = each_pushed (λ v it. IsStateRow low mid top stretches table b v it) rows row [] n are.size are.each here;
}

-- THE TABLE

same_state : (table : List (List (List ℕ))) (plane : List (List ℕ)) (b v z : ℕ) → b < length table → state (table ++ plane ∷ []) b v z ≡ state table b v z
same_state table plane b v z h = ap (λ rows. cell rows v z) (old table plane [] b h)

row_kept : (low mid top : LevelLists) (stretches : List (List ℕ)) (table : List (List (List ℕ))) (plane : List (List ℕ)) (b v : ℕ) (row : List ℕ) → b ≤ length table → IsStateRow low mid top stretches table b v row → IsStateRow low mid top stretches (table ++ plane ∷ []) b v row
row_kept low mid top stretches table plane b v row size is = record {
  size = is.size;
  start = is.start;
  enter = λ u e z order before within low_z high. omega (arith, is.enter u e z order before within low_z high, same_state table plane e u z (omega (arith, before, size)));
  opens = is.opens;
  some = λ z first low_z high small.
      ⊎_elim
      (λ step. inl step)
      (λ move. inr (record {
        served = move.served;
        lot = move.lot;
        order = move.order;
        before = move.before;
        within = move.within;
        cost = omega (arith, move.cost, same_state table plane move.lot move.served z (omega (arith, move.before, size)));
      }))
      (is.some z first low_z high small);
}

rows_kept : (low mid top : LevelLists) (stretches : List (List ℕ)) (table : List (List (List ℕ))) (plane : List (List ℕ)) (b count : ℕ) (rows : List (List ℕ)) → b ≤ length table → AreLotRows low mid top stretches table b count rows → AreLotRows low mid top stretches (table ++ plane ∷ []) b count rows
rows_kept low mid top stretches table plane b count rows size are = record {
  size = are.size;
  each = λ v h. row_kept low mid top stretches table plane b v (row_of rows v) size (are.each v h);
}

pub table_pushed : (low mid top : LevelLists) (stretches : List (List ℕ)) (table : List (List (List ℕ))) (plane : List (List ℕ)) (n : ℕ) → AreTables low mid top stretches n table → AreLotRows low mid top stretches table n (n + 1) plane → AreTables low mid top stretches (n + 1) (table ++ plane ∷ [])
table_pushed low mid top stretches table plane n are here = record {
  size = pushed_length table plane n are.size;
  each = each_pushed (λ b rows. AreLotRows low mid top stretches (table ++ plane ∷ []) b (b + 1) rows) table plane [] n are.size
      (λ b h. rows_kept low mid top stretches table plane b (b + 1) (plane_of table b) (omega (arith, h, are.size)) (are.each b h))
      (rows_kept low mid top stretches table plane n (n + 1) plane (omega (arith, are.size)) here);
}

pub table_shape : (low mid top : LevelLists) (stretches : List (List ℕ)) (table : List (List (List ℕ))) (n : ℕ) → AreTables low mid top stretches n table → AreStates (length top.asked.items) n table
table_shape low mid top stretches table n are = record {
  size = are.size;
  lots = λ b h. (are.each b h).size;
  rows = λ b v h order. ((are.each b h).each v (omega (arith, order))).size;
}

-- THE END

pub end_offered : (low mid : LevelLists) (stretches : List (List ℕ)) (table : List (List (List ℕ))) (last n least x new : ℕ) → IsNarrowEnd low mid stretches table last n least → IsNarrowLeast 0 (n + 1) (ending low mid stretches table last n) x → new ≡ min least x
    → IsNarrowEnd low mid stretches table last (n + 1) new
end_offered low mid stretches table last n least x new is here new_is = record {
  within = λ b v order high.
      ⊎_elim
      (λ it. subst (λ k. new ≤ ending low mid stretches table last k v) (sym it) (omega (arith, here.within v (omega arith) (omega (arith, order, it)), new_is)))
      (λ apart. omega (arith, is.within b v order (omega (arith, high, apart)), new_is))
      (cases_eq b n);
  some = λ small.
      ⊎_elim
      (λ old_one.
      let found = is.some (omega (arith, old_one, new_is, small)) in
      (found.0, found.1, found.2, omega (arith, found.3), omega (arith, found.4, old_one, new_is)))
      (λ mine.
      let found = here.some (omega (arith, mine, new_is, small)) in
      (n, found.0, omega (arith, found.2), omega arith, omega (arith, found.3, mine, new_is)))
      (cases_lt least x);
}
