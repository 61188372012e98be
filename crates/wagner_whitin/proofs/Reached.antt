-- Lines on the way to a position.
use Rattle.std.proofs.Common.{◌≡◌, ◌≤◌, ◌<◌, ◌+◌, ◌∙◌, ◌⊎◌, ⊎_elim, inl, inr, ℕ, zero, suc, sym, ap, subst, arith, List, length, Option, Some, None}
use Rattle.std.proofs.lemmas.Bool.{cases_lt, cases_eq}
use Rattle.wagner_whitin.specs.declared.lines.Line.{Line}
use Rattle.wagner_whitin.specs.Lines.{slot_at, middle_of, CostsAtMost, IsReached, IsInserted}

pub middle_low : (low high : ℕ) → low < high → low ≤ middle_of low high
middle_low low high h = omega arith

pub middle_high : (low high : ℕ) → low < high → middle_of low high < high
middle_high low high h = omega arith

at_most_more : (value : Line → ℕ → ℕ) (o : Option Line) (p x y : ℕ) → x ≤ y → CostsAtMost value o p x → CostsAtMost value o p y
at_most_more value None p x y h costs = costs
at_most_more value (Some l) p x y h costs = omega (arith, h, costs)

reached_more : (value : Line → ℕ → ℕ) (slots : List (Option Line)) (level low high p x y : ℕ) → x ≤ y → IsReached value slots level low high p x → IsReached value slots level low high p y
reached_more value slots zero low high p x y h reached = reached
reached_more value slots (suc level) low high p x y h reached =
    ⊎_elim
    (λ here. inl (at_most_more value (slot_at slots (middle_of low high)) p x y h here))
    (λ side. ⊎_elim
    (λ left. inr (inl (left.0, reached_more value slots level low (middle_of low high) p x y h left.1)))
    (λ right. inr (inr (right.0, reached_more value slots level (middle_of low high + 1) high p x y h right.1)))
    side)
    reached

-- what is met depends on the slots from low to before high alone
reached_same : (value : Line → ℕ → ℕ) (xs ys : List (Option Line)) (level low high p x : ℕ) → low ≤ p → p < high → ((k : ℕ) → low ≤ k → k < high → slot_at ys k ≡ slot_at xs k) → IsReached value xs level low high p x → IsReached value ys level low high p x
reached_same value xs ys zero low high p x p_low p_high same reached = reached
reached_same value xs ys (suc level) low high p x p_low p_high same reached =
    let m = middle_of low high in
    let m_low : low ≤ m = middle_low low high (omega (arith, p_low, p_high)) in
    let m_high : m < high = middle_high low high (omega (arith, p_low, p_high)) in
    ⊎_elim
    (λ here. inl (subst (λ o. CostsAtMost value o p x) (sym (same m m_low m_high)) here))
    (λ side. ⊎_elim
    (λ left. inr (inl (left.0, reached_same value xs ys level low m p x p_low left.0 (λ k k_low k_high. same k k_low (omega (arith, k_high, m_high))) left.1)))
    (λ right. inr (inr (right.0, reached_same value xs ys level (m + 1) high p x (omega (arith, right.0)) p_high (λ k k_low k_high. same k (omega (arith, k_low, m_low)) k_high) right.1)))
    side)
    reached

-- one slot takes a line
pub record IsPut (m : ℕ) (kept : Line) (old new : List (Option Line)) : Type 0 where
  pub size : length new ≡ length old
  pub here : slot_at new m ≡ Some kept
  pub others : (k : ℕ) → 1 ≤ k → (k ≡ m → ⊥) → slot_at new k ≡ slot_at old k

-- an empty slot takes the line
pub inserted_here : (value : Line → ℕ → ℕ) (from level low high : ℕ) (line : Line) (old new : List (Option Line)) → 1 ≤ low → low < high → slot_at old (middle_of low high) ≡ None → IsPut (middle_of low high) line old new → IsInserted value from (suc level) low high line old new
inserted_here value from level low high line old new low_one some empty put =
    let m = middle_of low high in
    let m_low : low ≤ m = middle_low low high some in
    let m_high : m < high = middle_high low high some in
    record {
      size = put.size;
      others = λ k k_low out. put.others k k_low (λ same. ⊎_elim (λ a. omega (arith, a, same, m_low)) (λ b. omega (arith, b, same, m_high)) out);
      kept = λ p x begun p_low p_high reached. ⊎_elim
          (λ here. absurd (subst (λ o. CostsAtMost value o p x) empty here))
          (λ side. ⊎_elim
          (λ left. inr (inl (left.0, reached_same value old new level low m p x p_low left.0 (λ k k_low k_high. put.others k (omega (arith, low_one, k_low)) (λ same. omega (arith, same, k_high))) left.1)))
          (λ right. inr (inr (right.0, reached_same value old new level (m + 1) high p x (omega (arith, right.0)) p_high (λ k k_low k_high. put.others k (omega (arith, k_low)) (λ same. omega (arith, same, k_low))) right.1)))
          side)
          reached;
      reached = λ p begun p_low p_high. inl (subst (λ o. CostsAtMost value o p (value line p)) (sym put.here) (omega arith));
      origin = λ k k_low. ⊎_elim
          (λ same. inl (ap (slot_at new) same ∙ put.here))
          (λ apart. inr (k, k_low, put.others k k_low apart))
          (cases_eq k m);
    }

-- of two lines one is kept in the middle and one goes on
pub record ArePaired (line other kept rest : Line) : Type 0 where
  pub either : ((kept ≡ line) × (rest ≡ other)) ⊎ ((kept ≡ other) × (rest ≡ line))

-- what holds of both that are kept and go on holds of both that were there
paired : (P : Line → Type 0) (line other kept rest : Line) → ArePaired line other kept rest → P kept → P rest → P line × P other
paired P line other kept rest pair a b = ⊎_elim (λ same. (subst P same.0 a, subst P same.1 b)) (λ swap. (subst P swap.1 b, subst P swap.0 a)) pair.either

-- where slots come from, when one of the two lines was there
origin_of : (line other kept rest : Line) (m : ℕ) (old put new : List (Option Line)) → ArePaired line other kept rest → 1 ≤ m → slot_at old m ≡ Some other → IsPut m kept old put → ((k : ℕ) → 1 ≤ k → (slot_at new k ≡ Some rest) ⊎ ((j : ℕ) × (1 ≤ j) × (slot_at new k ≡ slot_at put j))) → (k : ℕ) → 1 ≤ k → (slot_at new k ≡ Some line) ⊎ ((j : ℕ) × (1 ≤ j) × (slot_at new k ≡ slot_at old j))
origin_of line other kept rest m old put new pair m_low there is_put inner k k_low =
    let known : (l : Line) → (l ≡ line) ⊎ (l ≡ other) → slot_at new k ≡ Some l → (slot_at new k ≡ Some line) ⊎ ((j : ℕ) × (1 ≤ j) × (slot_at new k ≡ slot_at old j)) = λ l which is. ⊎_elim (λ a. inl (is ∙ ap Some a)) (λ b. inr (m, m_low, is ∙ ap Some b ∙ sym there)) which in
    let kept_which : (kept ≡ line) ⊎ (kept ≡ other) = ⊎_elim (λ a. inl a.0) (λ b. inr b.0) pair.either in
    let rest_which : (rest ≡ line) ⊎ (rest ≡ other) = ⊎_elim (λ a. inr a.1) (λ b. inl b.1) pair.either in
    ⊎_elim
    (λ is. known rest rest_which is)
    (λ from. ⊎_elim
    (λ same. known kept kept_which (from.2 ∙ ap (slot_at put) same ∙ is_put.here))
    (λ apart. inr (from.0, from.1, from.2 ∙ is_put.others from.0 from.1 apart))
    (cases_eq from.0 m))
    (inner k k_low)

-- the middle comes before the positions in question: the line goes on to the right
pub inserted_past : (value : Line → ℕ → ℕ) (from level low high : ℕ) (line : Line) (old new : List (Option Line)) → low < high → middle_of low high < from → IsInserted value from level (middle_of low high + 1) high line old new → IsInserted value from (suc level) low high line old new
inserted_past value from level low high line old new some past inner =
    let m = middle_of low high in
    let m_low : low ≤ m = middle_low low high some in
    record {
      size = inner.size;
      others = λ k k_low out. inner.others k k_low (⊎_elim (λ a. inl (omega (arith, a, m_low))) inr out);
      kept = λ p x begun p_low p_high reached. ⊎_elim
          (λ here. inl (subst (λ o. CostsAtMost value o p x) (sym (inner.others m (omega (arith, past)) (inl (omega arith)))) here))
          (λ side. ⊎_elim
          (λ left. absurd (omega (arith, left.0, past, begun)))
          (λ right. inr (inr (right.0, inner.kept p x begun (omega (arith, right.0)) p_high right.1)))
          side)
          reached;
      reached = λ p begun p_low p_high. inr (inr (omega (arith, past, begun), inner.reached p begun (omega (arith, past, begun)) p_high));
      origin = inner.origin;
    }

-- the line that goes on to the right is nowhere cheaper on the left
pub inserted_right : (value : Line → ℕ → ℕ) (from level low high : ℕ) (line other kept rest : Line) (old put new : List (Option Line)) → 1 ≤ low → low < high → ArePaired line other kept rest → slot_at old (middle_of low high) ≡ Some other → IsPut (middle_of low high) kept old put → ((p : ℕ) → from ≤ p → p ≤ middle_of low high → value kept p ≤ value rest p) → IsInserted value from level (middle_of low high + 1) high rest put new → IsInserted value from (suc level) low high line old new
inserted_right value from level low high line other kept rest old put new low_one some pair there is_put cheaper inner =
    let m = middle_of low high in
    let m_low : low ≤ m = middle_low low high some in
    let m_high : m < high = middle_high low high some in
    let m_one : 1 ≤ m = omega (arith, low_one, m_low) in
    let here : slot_at new m ≡ Some kept = inner.others m m_one (inl (omega arith)) ∙ is_put.here in
    let kept_there : (p : ℕ) → from ≤ p → low ≤ p → p < high → IsReached value new (suc level) low high p (value kept p) = λ p begun p_low p_high. inl (subst (λ o. CostsAtMost value o p (value kept p)) (sym here) (omega arith)) in
    let rest_there : (p : ℕ) → from ≤ p → low ≤ p → p < high → IsReached value new (suc level) low high p (value rest p) = λ p begun p_low p_high. ⊎_elim
    (λ right. inr (inr (right, inner.reached p begun (omega (arith, right)) p_high)))
    (λ left. inl (subst (λ o. CostsAtMost value o p (value rest p)) (sym here) (cheaper p begun left)))
    (cases_lt m p) in
    let both : (p : ℕ) → from ≤ p → low ≤ p → p < high → IsReached value new (suc level) low high p (value line p) × IsReached value new (suc level) low high p (value other p) = λ p begun p_low p_high. paired (λ l. IsReached value new (suc level) low high p (value l p)) line other kept rest pair (kept_there p begun p_low p_high) (rest_there p begun p_low p_high) in
    record {
      size = inner.size ∙ is_put.size;
      others = λ k k_low out. inner.others k k_low (⊎_elim (λ a. inl (omega (arith, a, m_low))) inr out) ∙ is_put.others k k_low (λ same. ⊎_elim (λ a. omega (arith, a, same, m_low)) (λ b. omega (arith, b, same, m_high)) out);
      kept = λ p x begun p_low p_high reached. ⊎_elim
          (λ was. reached_more value new (suc level) low high p (value other p) x (subst (λ o. CostsAtMost value o p x) there was) (both p begun p_low p_high).1)
          (λ side. ⊎_elim
          (λ left. inr (inl (left.0, reached_same value old new level low m p x p_low left.0 (λ k k_low k_high. inner.others k (omega (arith, low_one, k_low)) (inl (omega (arith, k_high))) ∙ is_put.others k (omega (arith, low_one, k_low)) (λ same. omega (arith, same, k_high))) left.1)))
          (λ right. inr (inr (right.0, inner.kept p x begun (omega (arith, right.0)) p_high (reached_same value old put level (m + 1) high p x (omega (arith, right.0)) p_high (λ k k_low k_high. is_put.others k (omega (arith, k_low)) (λ same. omega (arith, same, k_low))) right.1))))
          side)
          reached;
      reached = λ p begun p_low p_high. (both p begun p_low p_high).0;
      origin = origin_of line other kept rest m old put new pair m_one there is_put inner.origin;
    }

-- the line that goes on to the left is nowhere cheaper on the right
pub inserted_left : (value : Line → ℕ → ℕ) (from level low high : ℕ) (line other kept rest : Line) (old put new : List (Option Line)) → 1 ≤ low → low < high → ArePaired line other kept rest → slot_at old (middle_of low high) ≡ Some other → IsPut (middle_of low high) kept old put → ((p : ℕ) → middle_of low high ≤ p → p < high → value kept p ≤ value rest p) → IsInserted value from level low (middle_of low high) rest put new → IsInserted value from (suc level) low high line old new
inserted_left value from level low high line other kept rest old put new low_one some pair there is_put cheaper inner =
    let m = middle_of low high in
    let m_low : low ≤ m = middle_low low high some in
    let m_high : m < high = middle_high low high some in
    let m_one : 1 ≤ m = omega (arith, low_one, m_low) in
    let here : slot_at new m ≡ Some kept = inner.others m m_one (inr (omega arith)) ∙ is_put.here in
    let kept_there : (p : ℕ) → from ≤ p → low ≤ p → p < high → IsReached value new (suc level) low high p (value kept p) = λ p begun p_low p_high. inl (subst (λ o. CostsAtMost value o p (value kept p)) (sym here) (omega arith)) in
    let rest_there : (p : ℕ) → from ≤ p → low ≤ p → p < high → IsReached value new (suc level) low high p (value rest p) = λ p begun p_low p_high. ⊎_elim
    (λ left. inr (inl (left, inner.reached p begun p_low left)))
    (λ right. inl (subst (λ o. CostsAtMost value o p (value rest p)) (sym here) (cheaper p right p_high)))
    (cases_lt p m) in
    let both : (p : ℕ) → from ≤ p → low ≤ p → p < high → IsReached value new (suc level) low high p (value line p) × IsReached value new (suc level) low high p (value other p) = λ p begun p_low p_high. paired (λ l. IsReached value new (suc level) low high p (value l p)) line other kept rest pair (kept_there p begun p_low p_high) (rest_there p begun p_low p_high) in
    record {
      size = inner.size ∙ is_put.size;
      others = λ k k_low out. inner.others k k_low (⊎_elim inl (λ b. inr (omega (arith, b, m_high))) out) ∙ is_put.others k k_low (λ same. ⊎_elim (λ a. omega (arith, a, same, m_low)) (λ b. omega (arith, b, same, m_high)) out);
      kept = λ p x begun p_low p_high reached. ⊎_elim
          (λ was. reached_more value new (suc level) low high p (value other p) x (subst (λ o. CostsAtMost value o p x) there was) (both p begun p_low p_high).1)
          (λ side. ⊎_elim
          (λ left. inr (inl (left.0, inner.kept p x begun p_low left.0 (reached_same value old put level low m p x p_low left.0 (λ k k_low k_high. is_put.others k (omega (arith, low_one, k_low)) (λ same. omega (arith, same, k_high))) left.1))))
          (λ right. inr (inr (right.0, reached_same value old new level (m + 1) high p x (omega (arith, right.0)) p_high (λ k k_low k_high. inner.others k (omega (arith, k_low)) (inr (omega (arith, k_low))) ∙ is_put.others k (omega (arith, k_low)) (λ same. omega (arith, same, k_low))) right.1)))
          side)
          reached;
      reached = λ p begun p_low p_high. (both p begun p_low p_high).0;
      origin = origin_of line other kept rest m old put new pair m_one there is_put inner.origin;
    }
