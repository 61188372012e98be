-- The walk along supplies and needs finds each overlap.
use Rattle.std.proofs.Common.{◌≡◌, ◌≤◌, ◌<◌, ◌+◌, ◌-◌, ◌++◌, ◌∙◌, ℕ, List, [], ◌∷◌, length, get_or, drop, min, max, refl, sym, ap, arith, append_assoc, append-nil}
use Rattle.std.specs.List.{flat_map}
use Rattle.std.proofs.lemmas.List.{drop_all, drop_more, get_or_read}
use Rattle.pegging.specs.declared.pegs.Peg.{Peg}
use Rattle.pegging.specs.declared.pegs.Supply.{Supply}
use Rattle.pegging.specs.declared.pegs.Target.{Target}
use Rattle.pegging.specs.Pegs.{Interval, intervals, overlap, peg_of, pegs_along}

-- the pegs of supplies with needs
abbrev pub crossed : ℕ → List (Interval Supply) → List (Interval Target) → List Peg
crossed i given taken = flat_map (pegs_along i taken) given

-- intervals of these lengths, the first of them less what of it lies before here
abbrev pub ahead : {A : Type 0} → (A → ℕ) → ℕ → ℕ → List A → List (Interval A)
ahead size past here [] = []
ahead size past here (x ∷ xs) = record { what = x; start = here; end = here + (size x - past) } ∷ intervals size (here + (size x - past)) xs

pub ahead_whole : {A : Type 0} (size : A → ℕ) (here : ℕ) (xs : List A) → ahead size 0 here xs ≡ intervals size here xs
ahead_whole size here [] = refl
ahead_whole {A} size here (x ∷ xs) =
    let e : here + (size x - 0) ≡ here + size x = omega arith in
    let first : ℕ → Interval A = λ n. record { what = x; start = here; end = n } in
    ap (λ n. first n ∷ intervals size n xs) e

-- a supply ends before all that comes later
row_ends : (i : ℕ) (a : Interval Supply) (t : Target → ℕ) (here : ℕ) (ys : List Target) → a.end ≤ here → pegs_along i (intervals t here ys) a ≡ []
row_ends i a t here [] h = refl
row_ends i a t here (y ∷ ys) h =
    let none : min a.end (here + t y) - max a.start here ≡ 0 = omega (arith, h) in
    ap (λ q. peg_of i a.what y q ++ pegs_along i (intervals t (here + t y) ys) a) none ∙ row_ends i a t (here + t y) ys (omega (arith, h))

-- lists that agree on all that begins here or later
joins_agree : {A : Type 0} (f g : Interval A → List Peg) (size : A → ℕ) (least here : ℕ) (xs : List A) → least ≤ here → ((a : Interval A) → least ≤ a.start → f a ≡ g a) → flat_map f (intervals size here xs) ≡ flat_map g (intervals size here xs)
joins_agree f g size least here [] low same = refl
joins_agree {A} f g size least here (x ∷ xs) low same =
    let a : Interval A = record { what = x; start = here; end = here + size x } in
    ap (λ u. u ++ flat_map f (intervals size (here + size x) xs)) (same a low)
    ∙ ap (λ v. g a ++ v) (joins_agree f g size least (here + size x) xs (omega (arith, low)) same)

-- the supply ends first: it gives all of it to the need
supply_first : (i : ℕ) (s : Supply → ℕ) (t : Target → ℕ) (here l r : ℕ) (x : Supply) (xs : List Supply) (y : Target) (ys : List Target) → l ≤ r
    → crossed i (record { what = x; start = here; end = here + l } ∷ intervals s (here + l) xs) (record { what = y; start = here; end = here + r } ∷ intervals t (here + r) ys)
    ≡ peg_of i x y l ++ crossed i (intervals s (here + l) xs) (record { what = y; start = here + l; end = here + r } ∷ intervals t (here + r) ys)
supply_first i s t here l r x xs y ys less =
    let a : Interval Supply = record { what = x; start = here; end = here + l } in
    let b : Interval Target = record { what = y; start = here; end = here + r } in
    let b' : Interval Target = record { what = y; start = here + l; end = here + r } in
    let later = intervals t (here + r) ys in
    let others = intervals s (here + l) xs in
    let length_is : min (here + l) (here + r) - max here here ≡ l = omega (arith, less) in
    let row : pegs_along i (b ∷ later) a ≡ peg_of i x y l =
    ap (λ q. peg_of i x y q ++ pegs_along i later a) length_is
    ∙ ap (λ v. peg_of i x y l ++ v) (row_ends i a t (here + r) ys (omega (arith, less)))
    ∙ append-nil (peg_of i x y l) in
    let rows : crossed i others (b ∷ later) ≡ crossed i others (b' ∷ later) =
    joins_agree (pegs_along i (b ∷ later)) (pegs_along i (b' ∷ later)) s (here + l) (here + l) xs (omega arith)
    (λ c low. let e : min c.end (here + r) - max c.start here ≡ min c.end (here + r) - max c.start (here + l) = omega (arith, low) in ap (λ q. peg_of i c.what y q ++ pegs_along i later c) e) in
    ap (λ u. u ++ crossed i others (b ∷ later)) row ∙ ap (λ v. peg_of i x y l ++ v) rows

-- the need ends first: it takes all that it asks for from the supply
need_first : (i : ℕ) (s : Supply → ℕ) (t : Target → ℕ) (here l r : ℕ) (x : Supply) (xs : List Supply) (y : Target) (ys : List Target) → r ≤ l
    → crossed i (record { what = x; start = here; end = here + l } ∷ intervals s (here + l) xs) (record { what = y; start = here; end = here + r } ∷ intervals t (here + r) ys)
    ≡ peg_of i x y r ++ crossed i (record { what = x; start = here + r; end = here + l } ∷ intervals s (here + l) xs) (intervals t (here + r) ys)
need_first i s t here l r x xs y ys less =
    let a : Interval Supply = record { what = x; start = here; end = here + l } in
    let a' : Interval Supply = record { what = x; start = here + r; end = here + l } in
    let b : Interval Target = record { what = y; start = here; end = here + r } in
    let later = intervals t (here + r) ys in
    let others = intervals s (here + l) xs in
    let length_is : min (here + l) (here + r) - max here here ≡ r = omega (arith, less) in
    let rest : pegs_along i later a ≡ pegs_along i later a' =
    joins_agree (λ d. peg_of i x d.what (overlap a d)) (λ d. peg_of i x d.what (overlap a' d)) t (here + r) (here + r) ys (omega arith)
    (λ d low. let e : min (here + l) d.end - max here d.start ≡ min (here + l) d.end - max (here + r) d.start = omega (arith, low) in ap (λ q. peg_of i x d.what q) e) in
    let row : pegs_along i (b ∷ later) a ≡ peg_of i x y r ++ pegs_along i later a' =
    ap (λ q. peg_of i x y q ++ pegs_along i later a) length_is ∙ ap (λ v. peg_of i x y r ++ v) rest in
    let rows : crossed i others (b ∷ later) ≡ crossed i others later =
    joins_agree (pegs_along i (b ∷ later)) (pegs_along i later) s (here + l) (here + l) xs (omega arith)
    (λ c low. let e : min c.end (here + r) - max c.start here ≡ 0 = omega (arith, low, less) in ap (λ q. peg_of i c.what y q ++ pegs_along i later c) e) in
    ap (λ u. u ++ crossed i others (b ∷ later)) row
    ∙ append_assoc (peg_of i x y r) (pegs_along i later a') (crossed i others (b ∷ later))
    ∙ ap (λ v. peg_of i x y r ++ (pegs_along i later a' ++ v)) rows

-- the same of a supply of which some is used, and a need of which some is met
supply_next : (i : ℕ) (s : Supply → ℕ) (t : Target → ℕ) (here u v : ℕ) (x : Supply) (xs : List Supply) (y : Target) (ys : List Target) → s x - u ≤ t y - v
    → crossed i (ahead s u here (x ∷ xs)) (ahead t v here (y ∷ ys)) ≡ peg_of i x y (s x - u) ++ crossed i (ahead s 0 (here + (s x - u)) xs) (ahead t (v + (s x - u)) (here + (s x - u)) (y ∷ ys))
supply_next i s t here u v x xs y ys less =
    let l = s x - u in
    let e : here + (t y - v) ≡ here + l + (t y - (v + l)) = omega (arith, less) in
    let first : ℕ → Interval Target = λ n. record { what = y; start = here + l; end = n } in
    supply_first i s t here l (t y - v) x xs y ys less
    ∙ ap (λ n. peg_of i x y l ++ crossed i (intervals s (here + l) xs) (first n ∷ intervals t n ys)) e
    ∙ ap (λ given. peg_of i x y l ++ crossed i given (ahead t (v + l) (here + l) (y ∷ ys))) (sym (ahead_whole s (here + l) xs))

need_next : (i : ℕ) (s : Supply → ℕ) (t : Target → ℕ) (here u v : ℕ) (x : Supply) (xs : List Supply) (y : Target) (ys : List Target) → t y - v ≤ s x - u
    → crossed i (ahead s u here (x ∷ xs)) (ahead t v here (y ∷ ys)) ≡ peg_of i x y (t y - v) ++ crossed i (ahead s (u + (t y - v)) (here + (t y - v)) (x ∷ xs)) (ahead t 0 (here + (t y - v)) ys)
need_next i s t here u v x xs y ys less =
    let r = t y - v in
    let e : here + (s x - u) ≡ here + r + (s x - (u + r)) = omega (arith, less) in
    let first : ℕ → Interval Supply = λ n. record { what = x; start = here + r; end = n } in
    need_first i s t here (s x - u) r x xs y ys less
    ∙ ap (λ n. peg_of i x y r ++ crossed i (first n ∷ intervals s n xs) (intervals t (here + r) ys)) e
    ∙ ap (λ taken. peg_of i x y r ++ crossed i (ahead s (u + r) (here + r) (x ∷ xs)) taken) (sym (ahead_whole t (here + r) ys))

-- how far a walk has come: u of supply a is used and v of need b is met, and with the pegs of what lies ahead the list is whole
pub record IsWalked (i : ℕ) (s : Supply → ℕ) (t : Target → ℕ) (xs : List Supply) (ys : List Target) (whole : List Peg) (a b u v : ℕ) (pegs : List Peg) : Type 0 where
  pub used : (d : Supply) → a < length xs → u ≤ s (get_or xs a d)
  pub met : (d : Target) → b < length ys → v ≤ t (get_or ys b d)
  pub rest : (here : ℕ) × (pegs ++ crossed i (ahead s u here (drop a xs)) (ahead t v here (drop b ys)) ≡ whole)

pub walk_begins : (i : ℕ) (s : Supply → ℕ) (t : Target → ℕ) (xs : List Supply) (ys : List Target) (pegs : List Peg) → IsWalked i s t xs ys (pegs ++ crossed i (intervals s 0 xs) (intervals t 0 ys)) 0 0 0 0 pegs
walk_begins i s t xs ys pegs = record {
  used = λ d h. omega arith;
  met = λ d h. omega arith;
  rest = (0, ap (λ given. pegs ++ crossed i given (ahead t 0 0 ys)) (ahead_whole s 0 xs) ∙ ap (λ taken. pegs ++ crossed i (intervals s 0 xs) taken) (ahead_whole t 0 ys));
}

ahead_at : {A : Type 0} (size : A → ℕ) (past here : ℕ) (xs : List A) (n : ℕ) (x : A) → n < length xs → x ≡ get_or xs n x → ahead size past here (drop n xs) ≡ ahead size past here (x ∷ drop (n + 1) xs)
ahead_at size past here xs n x there is = ap (λ z. ahead size past here z) (drop_more xs n x there ∙ ap (λ z. z ∷ drop (n + 1) xs) (sym is))

-- the supply is used up
pub supply_goes : (i : ℕ) (s : Supply → ℕ) (t : Target → ℕ) (xs : List Supply) (ys : List Target) (whole : List Peg) (a b u v : ℕ) (pegs : List Peg) (x : Supply) (y : Target)
    → a < length xs → b < length ys → x ≡ get_or xs a x → y ≡ get_or ys b y → s x - u ≤ t y - v
    → IsWalked i s t xs ys whole a b u v pegs → IsWalked i s t xs ys whole (a + 1) b 0 (v + (s x - u)) (pegs ++ peg_of i x y (s x - u))
supply_goes i s t xs ys whole a b u v pegs x y a_in b_in x_is y_is less w =
    let l = s x - u in
    let here = w.rest.0 in
    let xs' = drop (a + 1) xs in
    let ys' = drop (b + 1) ys in
    let given = ahead s 0 (here + l) xs' in
    let step : crossed i (ahead s u here (drop a xs)) (ahead t v here (drop b ys)) ≡ peg_of i x y l ++ crossed i given (ahead t (v + l) (here + l) (drop b ys)) =
    ap (λ z. crossed i z (ahead t v here (drop b ys))) (ahead_at s u here xs a x a_in x_is)
    ∙ ap (λ z. crossed i (ahead s u here (x ∷ xs')) z) (ahead_at t v here ys b y b_in y_is)
    ∙ supply_next i s t here u v x xs' y ys' less
    ∙ ap (λ z. peg_of i x y l ++ crossed i given z) (sym (ahead_at t (v + l) (here + l) ys b y b_in y_is)) in
    record {
      used = λ d h. omega arith;
      met = λ d h. omega (arith, w.met d h, less, ap t (get_or_read ys b y b_in y_is d));
      rest = (here + l, append_assoc pegs (peg_of i x y l) (crossed i given (ahead t (v + l) (here + l) (drop b ys))) ∙ ap (λ z. pegs ++ z) (sym step) ∙ w.rest.1);
    }

-- the need is met
pub need_goes : (i : ℕ) (s : Supply → ℕ) (t : Target → ℕ) (xs : List Supply) (ys : List Target) (whole : List Peg) (a b u v : ℕ) (pegs : List Peg) (x : Supply) (y : Target)
    → a < length xs → b < length ys → x ≡ get_or xs a x → y ≡ get_or ys b y → t y - v ≤ s x - u
    → IsWalked i s t xs ys whole a b u v pegs → IsWalked i s t xs ys whole a (b + 1) (u + (t y - v)) 0 (pegs ++ peg_of i x y (t y - v))
need_goes i s t xs ys whole a b u v pegs x y a_in b_in x_is y_is less w =
    let r = t y - v in
    let here = w.rest.0 in
    let xs' = drop (a + 1) xs in
    let ys' = drop (b + 1) ys in
    let taken = ahead t 0 (here + r) ys' in
    let step : crossed i (ahead s u here (drop a xs)) (ahead t v here (drop b ys)) ≡ peg_of i x y r ++ crossed i (ahead s (u + r) (here + r) (drop a xs)) taken =
    ap (λ z. crossed i z (ahead t v here (drop b ys))) (ahead_at s u here xs a x a_in x_is)
    ∙ ap (λ z. crossed i (ahead s u here (x ∷ xs')) z) (ahead_at t v here ys b y b_in y_is)
    ∙ need_next i s t here u v x xs' y ys' less
    ∙ ap (λ z. peg_of i x y r ++ crossed i z taken) (sym (ahead_at s (u + r) (here + r) xs a x a_in x_is)) in
    record {
      used = λ d h. omega (arith, w.used d h, less, ap s (get_or_read xs a x a_in x_is d));
      met = λ d h. omega arith;
      rest = (here + r, append_assoc pegs (peg_of i x y r) (crossed i (ahead s (u + r) (here + r) (drop a xs)) taken) ∙ ap (λ z. pegs ++ z) (sym step) ∙ w.rest.1);
    }

-- where there are no needs there are no pegs
pub none_needed : (i : ℕ) (given : List (Interval Supply)) → crossed i given [] ≡ []
none_needed i [] = refl
none_needed i (a ∷ given) = none_needed i given

-- at the end of the supplies or of the needs the list is whole
pub supplies_end : (i : ℕ) (s : Supply → ℕ) (t : Target → ℕ) (xs : List Supply) (ys : List Target) (whole : List Peg) (a b u v : ℕ) (pegs : List Peg) → length xs ≤ a → IsWalked i s t xs ys whole a b u v pegs → pegs ≡ whole
supplies_end i s t xs ys whole a b u v pegs past w =
    sym (append-nil pegs) ∙ sym (ap (λ z. pegs ++ crossed i (ahead s u w.rest.0 z) (ahead t v w.rest.0 (drop b ys))) (drop_all a xs past)) ∙ w.rest.1

pub needs_end : (i : ℕ) (s : Supply → ℕ) (t : Target → ℕ) (xs : List Supply) (ys : List Target) (whole : List Peg) (a b u v : ℕ) (pegs : List Peg) → length ys ≤ b → IsWalked i s t xs ys whole a b u v pegs → pegs ≡ whole
needs_end i s t xs ys whole a b u v pegs past w =
    let here = w.rest.0 in
    sym (append-nil pegs)
    ∙ ap (λ z. pegs ++ z) (sym (none_needed i (ahead s u here (drop a xs))))
    ∙ sym (ap (λ z. pegs ++ crossed i (ahead s u here (drop a xs)) (ahead t v here z)) (drop_all b ys past))
    ∙ w.rest.1
