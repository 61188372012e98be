-- Rows and planes to which an entry is added.
use Rattle.std.proofs.Common.{◌≡◌, ◌≤◌, ◌<◌, ◌+◌, ◌-◌, ⊎_elim, inl, inr, ◌∙◌, ℕ, zero, suc, refl, sym, ap, subst, arith, List, [], ◌∷◌, ◌++◌, length, get_or}
use Rattle.std.proofs.lemmas.List.{get_or_append_left, get_or-append_right, length-append}
use Rattle.std.proofs.lemmas.Bool.{cases_eq, cases_lt}
use Rattle.chain_dp.specs.declared.lists.LevelLists.{LevelLists}
use Rattle.chain_dp.specs.Numbers.{IsLeastOf}
use Rattle.chain_dp.specs.Lists.{AreTriangular, at, cell, plane_of, row_of}
use Rattle.chain_dp.specs.Tables.{AreChainPlanes, ArePlanes, AreTopFirsts, IsChainEntry, IsChainPlane, IsPairEntry, IsPairPlane, IsPairRow, IsStretchRow, lots_up_to, step_cost}
use Rattle.chain_dp.proofs.Leasts.{same_least}

past_one : (x k : ℕ) → 1 ≤ k → at (x ∷ []) k ≡ 0
past_one x zero h = absurd (omega (arith, h))
past_one x (suc k) h = refl

sub_self : (n : ℕ) → n - n ≡ 0
sub_self n = omega arith

pub pushed_length : {A : Type 0} → (xs : List A) (x : A) (n : ℕ) → length xs ≡ n → length (xs ++ x ∷ []) ≡ n + 1
pushed_length xs x n size = omega (arith, length-append xs (x ∷ []), size)

-- past the end there are zeros
past : (xs : List ℕ) (x v : ℕ) → length xs < v → at (xs ++ x ∷ []) v ≡ 0
past xs x v h =
    get_or-append_right xs (x ∷ []) (length xs) v 0 refl (omega (arith, h)) ∙ past_one x (v - length xs) (omega (arith, h))

-- entries before the last one stay
pub old : {A : Type 0} → (xs : List A) (x d : A) (w : ℕ) → w < length xs → get_or (xs ++ x ∷ []) w d ≡ get_or xs w d
old xs x d w h = get_or_append_left xs (x ∷ []) d w h

pub new : {A : Type 0} → (xs : List A) (x d : A) (n : ℕ) → length xs ≡ n → get_or (xs ++ x ∷ []) n d ≡ x
new xs x d n size = get_or-append_right xs (x ∷ []) n n d size (omega arith) ∙ ap (λ k. get_or (x ∷ []) k d) (sub_self n)

-- a fact of each entry
pub each_pushed : {A : Type 0} → (P : ℕ → A → Type 0) (xs : List A) (x d : A) (n : ℕ) → length xs ≡ n → ((k : ℕ) → k < n → P k (get_or xs k d)) → P n x → (k : ℕ) → k < n + 1 → P k (get_or (xs ++ x ∷ []) k d)
each_pushed P xs x d n size before here k h =
    ⊎_elim
    (λ same. subst (λ j. P j (get_or (xs ++ x ∷ []) j d)) (sym same) (subst (P n) (sym (new xs x d n size)) here))
    (λ apart. subst (P k) (sym (old xs x d k (omega (arith, h, apart, size)))) (before k (omega (arith, h, apart))))
    (cases_eq k n)

-- STRETCHES

pub step_pushed : (xs : List ℕ) (x : ℕ) (level : LevelLists) (from to least : ℕ) → to ≤ length xs → (fee : ℕ) → IsLeastOf from to (λ w. step_cost xs level to w + fee) least → IsLeastOf from to (λ w. step_cost (xs ++ x ∷ []) level to w + fee) least
step_pushed xs x level from to least size fee is =
    same_least from to (λ w. step_cost xs level to w + fee) (λ w. step_cost (xs ++ x ∷ []) level to w + fee) least (λ w low high. omega (arith, old xs x 0 w (omega (arith, high, size)))) is

pub stretch_pushed : (level : LevelLists) (v n x : ℕ) (xs : List ℕ) → length xs ≡ n → IsStretchRow level v xs → (n ≤ v → x ≡ 0) → (v < n → IsLeastOf v n (λ w. step_cost xs level n w + at level.setup_cost.items n) x) → IsStretchRow level v (xs ++ x ∷ [])
stretch_pushed level v n x xs size is none next = record {
  none =
      ⊎_elim
      (λ same. ap (at (xs ++ x ∷ [])) same ∙ new xs x 0 n size ∙ none (omega (arith, same)))
      (λ apart. ⊎_elim
      (λ before. old xs x 0 v (omega (arith, before, size)) ∙ is.none)
      (λ after. past xs x v (omega (arith, after, apart, size)))
      (cases_lt v n))
      (cases_eq v n);
  next = λ z low high.
      let long : length (xs ++ x ∷ []) ≡ n + 1 = pushed_length xs x n size in
      ⊎_elim
      (λ same.
      let low_n : v < n = omega (arith, low, same) in
      let here = step_pushed xs x level v n x (omega (arith, size)) (at level.setup_cost.items n) (next low_n) in
      let value : x ≡ at (xs ++ x ∷ []) n = sym (new xs x 0 n size) in
      let put = subst (λ k. IsLeastOf v n (λ w. step_cost (xs ++ x ∷ []) level n w + at level.setup_cost.items n) k) value here in
      subst (λ k. IsLeastOf v k (λ w. step_cost (xs ++ x ∷ []) level k w + at level.setup_cost.items k) (at (xs ++ x ∷ []) k)) (sym same) put)
      (λ apart.
      let before : z < length xs = omega (arith, high, long, apart, size) in
      let here = step_pushed xs x level v z (at xs z) (omega (arith, before)) (at level.setup_cost.items z) (is.next z low before) in
      subst (λ k. IsLeastOf v z (λ w. step_cost (xs ++ x ∷ []) level z w + at level.setup_cost.items z) k) (sym (old xs x 0 z before)) here)
      (cases_eq z n);
}

-- PAIRS

same_cell : (rows : List (List ℕ)) (row : List ℕ) (e u : ℕ) → e < length rows → cell (rows ++ row ∷ []) e u ≡ cell rows e u
same_cell rows row e u h = ap (λ xs. at xs u) (old rows row [] e h)

entry_pushed : (low mid : LevelLists) (stretches rows : List (List ℕ)) (row : List ℕ) (first v b x : ℕ) → b ≤ length rows → IsPairEntry low mid stretches rows first v b x → IsPairEntry low mid stretches (rows ++ row ∷ []) first v b x
entry_pushed low mid stretches rows row first v b x size is = record {
  start = is.start;
  enter = λ u e order before within. omega (arith, is.enter u e order before within, same_cell rows row e u (omega (arith, before, size)));
  some = λ small. ⊎_elim
      (λ begins. inl begins)
      (λ step. inr (record {
        served = step.served;
        lot = step.lot;
        order = step.order;
        before = step.before;
        within = step.within;
        cost = omega (arith, step.cost, same_cell rows row step.lot step.served (omega (arith, step.before, size)));
      }))
      (is.some small);
}

row_pushed : (low mid : LevelLists) (stretches rows : List (List ℕ)) (row firsts : List ℕ) (b : ℕ) (it : List ℕ) → b ≤ length rows → IsPairRow low mid stretches rows firsts b it → IsPairRow low mid stretches (rows ++ row ∷ []) firsts b it
row_pushed low mid stretches rows row firsts b it size is = record {
  size = is.size;
  each = λ v h. entry_pushed low mid stretches rows row (at firsts v) v b (at it v) size (is.each v h);
}

pub plane_pushed : (low mid : LevelLists) (stretches firsts rows : List (List ℕ)) (row : List ℕ) (n : ℕ) → IsPairPlane low mid stretches firsts n rows → IsPairRow low mid stretches rows (row_of firsts n) n row → IsPairPlane low mid stretches firsts (n + 1) (rows ++ row ∷ [])
plane_pushed low mid stretches firsts rows row n is here = record {
  size = pushed_length rows row n is.size;
  each = each_pushed (λ b it. IsPairRow low mid stretches (rows ++ row ∷ []) (row_of firsts b) b it) rows row [] n is.size
      (λ b h. row_pushed low mid stretches rows row (row_of firsts b) b (row_of rows b) (omega (arith, h, is.size)) (is.each b h))
      (row_pushed low mid stretches rows row (row_of firsts n) n row (omega (arith, is.size)) here);
}

-- rows of growing length
pub triangle : (low mid : LevelLists) (stretches firsts rows : List (List ℕ)) (n : ℕ) → IsPairPlane low mid stretches firsts n rows → AreTriangular rows
triangle low mid stretches firsts rows n is b h = (is.each b (omega (arith, h, is.size))).size

-- THREE LEVELS

same_plane_cell : (planes : List (List (List ℕ))) (plane : List (List ℕ)) (t b v : ℕ) → t < length planes → cell (plane_of (planes ++ plane ∷ []) t) b v ≡ cell (plane_of planes t) b v
same_plane_cell planes plane t b v h = ap (λ rows. cell rows b v) (old planes plane [] t h)

chain_entry_pushed : (low mid top : LevelLists) (stretches : List (List ℕ)) (planes : List (List (List ℕ))) (added plane : List (List ℕ)) (z v b x : ℕ) → z ≤ length planes
    → IsChainEntry low mid top stretches planes plane z v b x → IsChainEntry low mid top stretches (planes ++ added ∷ []) plane z v b x
chain_entry_pushed low mid top stretches planes added plane z v b x size is = record {
  opens = λ t first before. omega (arith, is.opens t first before, same_plane_cell planes added t b v (omega (arith, before, size)));
  enter = is.enter;
  some = λ small. ⊎_elim
      (λ step. inl (step.0, step.1, step.2, omega (arith, step.3, same_plane_cell planes added step.0 b v (omega (arith, step.2, size)))))
      (λ step. inr step)
      (is.some small);
}

chain_plane_pushed : (low mid top : LevelLists) (stretches : List (List ℕ)) (planes : List (List (List ℕ))) (added plane : List (List ℕ)) (width z : ℕ) → z ≤ length planes
    → IsChainPlane low mid top stretches planes width z plane → IsChainPlane low mid top stretches (planes ++ added ∷ []) width z plane
chain_plane_pushed low mid top stretches planes added plane width z size is = record {
  shape = is.shape;
  start = is.start;
  each = λ b v first before order. chain_entry_pushed low mid top stretches planes added plane z v b (cell plane b v) size (is.each b v first before order);
}

pub planes_pushed : (low mid top : LevelLists) (stretches : List (List ℕ)) (planes : List (List (List ℕ))) (added : List (List ℕ)) (width n : ℕ) → length planes ≡ n
    → AreChainPlanes low mid top stretches width planes → IsChainPlane low mid top stretches planes width n added → AreChainPlanes low mid top stretches width (planes ++ added ∷ [])
planes_pushed low mid top stretches planes added width n size are here z h =
    let long : length (planes ++ added ∷ []) ≡ n + 1 = pushed_length planes added n size in
    each_pushed (λ k plane. IsChainPlane low mid top stretches (planes ++ added ∷ []) width k plane) planes added [] n size
    (λ k high. chain_plane_pushed low mid top stretches planes added (plane_of planes k) width k (omega (arith, high, size)) (are k (omega (arith, high, size))))
    (chain_plane_pushed low mid top stretches planes added added width n (omega (arith, size)) here)
    z (omega (arith, h, long))

pub shapes : (low mid top : LevelLists) (stretches : List (List ℕ)) (planes : List (List (List ℕ))) (width : ℕ) → AreChainPlanes low mid top stretches width planes → ArePlanes width planes
shapes low mid top stretches planes width are z h = (are z h).shape

-- the plane of a lot after lot 0, by what its entries may begin with
pub later : (low mid top : LevelLists) (stretches : List (List ℕ)) (planes : List (List (List ℕ))) (firsts plane : List (List ℕ)) (width z count : ℕ) → count ≡ lots_up_to width z → 1 ≤ z → AreTopFirsts low mid top planes z count firsts
    → IsPairPlane low mid stretches firsts (length firsts) plane → IsChainPlane low mid top stretches planes width z plane
later low mid top stretches planes firsts plane width z count is_count some begins is = record {
  shape = record { size = omega (arith, is.size, begins.shape.size, is_count); rows = triangle low mid stretches firsts plane (length firsts) is };
  start = λ none. absurd (omega (arith, none, some));
  each = λ b v low_z high order.
      let inside : b < count = omega (arith, high, is_count) in
      let entry = (is.each b (omega (arith, inside, begins.shape.size))).each v order in
      let tops = begins.each b v inside order in
      record {
        opens = λ t first before. omega (arith, entry.start, tops.within t first before);
        enter = entry.enter;
        some = λ small. ⊎_elim
            (λ first.
            let found = tops.some (omega (arith, first, small)) in
            inl (found.0, found.1, found.2, omega (arith, found.3, first)))
            (λ step. inr step)
            (entry.some small);
      };
}
