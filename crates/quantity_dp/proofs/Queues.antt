-- A queue of prices that rise has the least of its window.
use Rattle.std.proofs.Common.{◌≡◌, ◌≤◌, ◌<◌, ◌+◌, ◌-◌, ◌∙◌, ⊎_elim, ℕ, sym, ap, subst, arith, List, [], ◌∷◌, ◌++◌, length, take, Option, Some, None}
use Rattle.std.proofs.lemmas.Bool.{cases_eq, cases_lt}
use Rattle.std.proofs.lemmas.List.{get_or-take, get_or_append_left, get_or_push, length-take-le, length_push}
use Rattle.quantity_dp.specs.declared.window.Priced.{Priced}
use Rattle.quantity_dp.specs.Window.{IsLeastIn, IsLeastOf, IsQueue, KeepsCheaper, no_price, priced_at}

-- the entries of a queue that is cut and takes one more
size_of : (list : List Priced) (kept : ℕ) (x : Priced) → kept ≤ length list → length (take kept list ++ x ∷ []) ≡ kept + 1
size_of list kept x h = omega (arith, length_push (take kept list) x, length-take-le kept list h)

kept_at : (list : List Priced) (kept n : ℕ) (x : Priced) → kept ≤ length list → n < kept → priced_at (take kept list ++ x ∷ []) n ≡ priced_at list n
kept_at list kept n x h less = get_or_append_left (take kept list) (x ∷ []) no_price n (omega (arith, less, length-take-le kept list h)) ∙ get_or-take kept list n no_price less

last_at : (list : List Priced) (kept n : ℕ) (x : Priced) → kept ≤ length list → n ≡ kept → priced_at (take kept list ++ x ∷ []) n ≡ x
last_at list kept n x h e = get_or_push (take kept list) x no_price n (omega (arith, e, length-take-le kept list h))

-- all that are kept are no dearer
kept_cheaper : (w : ℕ → Option ℕ) (low high first kept price n : ℕ) (list : List Priced) → IsQueue w low high first list → KeepsCheaper list first price kept → first ≤ n → n < kept → (priced_at list n).price ≤ price
kept_cheaper w low high first kept price n list q keeps from less =
    let last : (priced_at list (kept - 1)).price < price = keeps.cheaper (omega (arith, from, less)) in
    ⊎_elim
    (λ before. omega (arith, last, q.rises n (kept - 1) from before (omega (arith, less, keeps.within))))
    (λ no. let e : n ≡ kept - 1 = omega (arith, no, less) in omega (arith, last, ap (λ k. (priced_at list k).price) e))
    (cases_lt n (kept - 1))

-- a queue takes the price of the next quantity
pub taken : (w : ℕ → Option ℕ) (low high first kept : ℕ) (list : List Priced) (x : Priced) → IsQueue w low high first list → low ≤ high → KeepsCheaper list first x.price kept → x.quantity ≡ high → w high ≡ Some x.price → IsQueue w low (high + 1) first (take kept list ++ x ∷ [])
taken w low high first kept list x q order keeps is_high is_price =
    let new = take kept list ++ x ∷ [] in
    let within = keeps.within in
    let size = size_of list kept x within in
    let old = λ (n : ℕ) (less : n < kept). kept_at list kept n x within less in
    let here = λ (n : ℕ) (no : kept ≤ n) (high_n : n < length new). last_at list kept n x within (omega (arith, no, high_n, size)) in
    let begins = keeps.begins q.begins in
    record {
      begins = omega (arith, begins, size);
      no_less = λ n from to. ⊎_elim
          (λ less. omega (arith, ap (λ e. e.quantity) (old n less), q.no_less n from (omega (arith, less, within))))
          (λ no. omega (arith, ap (λ e. e.quantity) (here n no to), is_high, order))
          (cases_lt n kept);
      less = λ n from to. ⊎_elim
          (λ less. omega (arith, ap (λ e. e.quantity) (old n less), q.less n from (omega (arith, less, within))))
          (λ no. omega (arith, ap (λ e. e.quantity) (here n no to), is_high))
          (cases_lt n kept);
      own = λ n from to. ⊎_elim
          (λ less. subst (λ e. w e.quantity ≡ Some e.price) (sym (old n less)) (q.own n from (omega (arith, less, within))))
          (λ no. subst (λ e. w e.quantity ≡ Some e.price) (sym (here n no to)) (ap w is_high ∙ is_price))
          (cases_lt n kept);
      later = λ n k from before to. ⊎_elim
          (λ less. omega (arith, ap (λ e. e.quantity) (old n (omega (arith, before, less))), ap (λ e. e.quantity) (old k less), q.later n k from before (omega (arith, less, within))))
          (λ no.
          let early : n < kept = omega (arith, before, to, size) in
          omega (arith, ap (λ e. e.quantity) (old n early), ap (λ e. e.quantity) (here k no to), is_high, q.less n from (omega (arith, early, within))))
          (cases_lt k kept);
      rises = λ n k from before to. ⊎_elim
          (λ less. omega (arith, ap (λ e. e.price) (old n (omega (arith, before, less))), ap (λ e. e.price) (old k less), q.rises n k from before (omega (arith, less, within))))
          (λ no.
          let early : n < kept = omega (arith, before, to, size) in
          omega (arith, ap (λ e. e.price) (old n early), ap (λ e. e.price) (here k no to), kept_cheaper w low high first kept x.price n list q keeps from early))
          (cases_lt k kept);
      covers = λ k c from to is. ⊎_elim
          (λ before.
          let (n, n_from, n_to, n_late, n_cheap) = q.covers k c from before is in
          ⊎_elim
          (λ less. (n, n_from, omega (arith, less, size), omega (arith, n_late, ap (λ e. e.quantity) (old n less)), omega (arith, n_cheap, ap (λ e. e.price) (old n less))))
          (λ no.
          let end = here kept (omega arith) (omega (arith, size)) in
          (kept, begins, omega (arith, size), omega (arith, before, ap (λ e. e.quantity) end, is_high), omega (arith, ap (λ e. e.price) end, keeps.dearer n no n_to, n_cheap)))
          (cases_lt n kept))
          (λ no.
          let e : k ≡ high = omega (arith, no, to) in
          let end = here kept (omega arith) (omega (arith, size)) in
          let same : c ≡ x.price = price_same c x.price (sym is ∙ ap w e ∙ is_price) in
          (kept, begins, omega (arith, size), omega (arith, e, ap (λ e. e.quantity) end, is_high), omega (arith, ap (λ e. e.price) end, same)))
          (cases_lt k high);
    }
  where
    price_same : (a b : ℕ) → Some a ≡ Some b → a ≡ b
    price_same a b e = cc e

-- or there is none
pub passed : (w : ℕ → Option ℕ) (low high first : ℕ) (list : List Priced) → IsQueue w low high first list → w high ≡ None → IsQueue w low (high + 1) first list
passed w low high first list q none = record {
  begins = q.begins;
  no_less = q.no_less;
  less = λ n from to. omega (arith, q.less n from to);
  own = q.own;
  later = q.later;
  rises = q.rises;
  covers = λ k c from to is. ⊎_elim
      (λ before. q.covers k c from before is)
      (λ no. let e : k ≡ high = omega (arith, no, to) in absurd (cc (sym is ∙ ap w e ∙ none)))
      (cases_lt k high);
}

-- the least quantity leaves
pub left : (w : ℕ → Option ℕ) (low high first least : ℕ) (list : List Priced) → IsQueue w low high first list → least ≤ low + 1 → first < length list → (priced_at list first).quantity < least → IsQueue w least high (first + 1) list
left w low high first least list q near some old =
    let at : low ≤ (priced_at list first).quantity = q.no_less first (omega arith) some in
    record {
      begins = omega (arith, some);
      no_less = λ n from to. omega (arith, near, at, q.later first n (omega arith) (omega (arith, from)) to);
      less = λ n from to. q.less n (omega (arith, from)) to;
      own = λ n from to. q.own n (omega (arith, from)) to;
      later = λ n k from before to. q.later n k (omega (arith, from)) before to;
      rises = λ n k from before to. q.rises n k (omega (arith, from)) before to;
      covers = λ k c from to is.
          let (n, n_from, n_to, n_late, n_cheap) = q.covers k c (omega (arith, from, at, old)) to is in
          let other : first < n = ⊎_elim (λ e. absurd (omega (arith, ap (λ j. (priced_at list j).quantity) e, n_late, from, old))) (λ no. omega (arith, n_from, no)) (cases_eq n first) in
          (n, omega (arith, other), n_to, n_late, n_cheap);
    }

-- or it isn't there
pub stays : (w : ℕ → Option ℕ) (low high first least : ℕ) (list : List Priced) → IsQueue w low high first list → low ≤ least → (first < length list → least ≤ (priced_at list first).quantity) → IsQueue w least high first list
stays w low high first least list q order there = record {
  begins = q.begins;
  no_less = λ n from to. ⊎_elim
      (λ e. omega (arith, ap (λ j. (priced_at list j).quantity) e, there (omega (arith, e, to))))
      (λ no. omega (arith, there (omega (arith, from, to)), q.later first n (omega arith) (omega (arith, from, no)) to))
      (cases_eq n first);
  less = q.less;
  own = q.own;
  later = q.later;
  rises = q.rises;
  covers = λ k c from to is. q.covers k c (omega (arith, from, order)) to is;
}

-- the first entry is the least
pub first_is_least : (w : ℕ → Option ℕ) (low high first : ℕ) (list : List Priced) → IsQueue w low high first list → first < length list → IsLeastOf w low high (priced_at list first).price
first_is_least w low high first list q some = record {
  some = ((priced_at list first).quantity, q.no_less first (omega arith) some, q.less first (omega arith) some, q.own first (omega arith) some);
  least = λ k d from to is.
      let (n, n_from, n_to, n_late, n_cheap) = q.covers k d from to is in
      ⊎_elim
      (λ e. omega (arith, ap (λ j. (priced_at list j).price) e, n_cheap))
      (λ no. omega (arith, n_cheap, q.rises first n (omega arith) (omega (arith, n_from, no)) n_to))
      (cases_eq n first);
}

pub none_is_least : (w : ℕ → Option ℕ) (low high first : ℕ) (list : List Priced) → IsQueue w low high first list → length list ≤ first → IsLeastIn w low high None
none_is_least w low high first list q none = λ k d from to is.
    let (n, n_from, n_to, n_late, n_cheap) = q.covers k d from to is in
    omega (arith, n_from, n_to, none)

pub empty : (w : ℕ → Option ℕ) (at first : ℕ) (list : List Priced) → list ≡ [] → first ≡ 0 → IsQueue w at at first list
empty w at first list none zero = record {
  begins = omega (arith, zero);
  no_less = λ n from to. absurd (omega (arith, to, ap length none));
  less = λ n from to. absurd (omega (arith, to, ap length none));
  own = λ n from to. absurd (omega (arith, to, ap length none));
  later = λ n k from before to. absurd (omega (arith, to, ap length none));
  rises = λ n k from before to. absurd (omega (arith, to, ap length none));
  covers = λ k c from to is. absurd (omega (arith, from, to));
}
