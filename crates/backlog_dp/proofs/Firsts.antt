-- The first broken block, by servers.
use Rattle.std.proofs.Common.{◌≡◌, ◌≤◌, ◌<◌, ◌+◌, ◌-◌, ◌⊎◌, ⊎_elim, inl, inr, ℕ, zero, suc, refl, sym, ap, subst, arith, Bool, true, false, List, length}
use Rattle.std.specs.Prelude.{Option, Some, None, IsNone, nat_le, nat_lt, ◌||◌, ◌&&◌, ◌==◌, if◌then◌else◌}
use Rattle.std.proofs.lemmas.Bool.{cases_Bool, cases_lt}
use Rattle.lot_sizing.specs.Sums.{sum_from}
use Rattle.lot_sizing.specs.Problem.{entry}
use Rattle.lot_sizing.specs.declared.Block.{Block}
use Rattle.lot_sizing.specs.Single.{IsBlock, Single, position_count, positions, potential, serving_cost}
use Rattle.lot_sizing.proofs.Positions.{count, count_idle, count_next}
use Rattle.lot_sizing.specs.Single.{net_demand, period_count}
use Rattle.echelon.specs.Views.{HasEach}
use Rattle.backlog_dp.specs.Broken.{IsEarlier, IsFirstBrokenOrNone}
use Rattle.backlog_dp.specs.Search.{AnswersOf, AnswersTo, BreaksOf, IsFirstTo, earlier_of, is_before, rise_most}
use Rattle.echelon_rows.specs.Rows.{single_with}

-- a sum over a stretch whose terms are the same
stretch_same : (u n : ℕ) (f g : ℕ → ℕ) → ((k : ℕ) → u ≤ k → k < u + n → f k ≡ g k) → sum_from u n f ≡ sum_from u n g
stretch_same u zero f g same = refl
stretch_same u (suc n) f g same = omega (arith, stretch_same u n f g (λ k low high. same k low (omega (arith, high))), same (u + n) (omega arith) (omega arith))

-- no more positions than periods
pub count_most : (s : Single) (t : ℕ) → count s t ≤ t
count_most s zero = omega arith
count_most s (suc t) = ⊎_elim (λ some. omega (arith, count_next s t some, count_most s t)) (λ none. omega (arith, count_idle s t (omega arith), count_most s t)) (cases_lt 0 (net_demand s (suc t)))

serves_yes : (owing : Bool) (back : List ℕ) (u t : ℕ) → (IsNone (if owing then Some back else None) → u ≤ t) → (owing || nat_le u t) ≡ true
serves_yes true back u t h = refl
serves_yes false back u t h = (let low : u ≤ t = h refl in grind (arith, low))

serves_in_time : (owing : Bool) (back : List ℕ) (u t : ℕ) → (owing || nat_le u t) ≡ true → IsNone (if owing then Some back else None) → u ≤ t
serves_in_time true back u t serves none = cc none
serves_in_time false back u t serves none = grind (arith, serves)

-- a block's cost by the list of costs
block_rise : (s : Single) (g costs : List ℕ) (setup first last u : ℕ) → HasEach (position_count s) (serving_cost s u) costs → setup ≡ entry s.setup u → 1 ≤ first → first ≤ last → last ≤ position_count s → rise_most g costs setup first last ≡ potential g (first - 1) + (entry s.setup u + sum_from first (suc last - first) (serving_cost s u))
block_rise s g costs setup first last u has is low order high = omega (arith, is, stretch_same first (suc last - first) (entry costs) (serving_cost s u) (λ k k_low k_high. has.each k (omega (arith, low, k_low)) (omega (arith, k_high, order, high))))

-- what is found by lists is so of the blocks of a server
pub answers_of : (net setup unit hold back : List ℕ) (owing : Bool) (g costs periods : List ℕ) (fee u count : ℕ) (o : Option Block)
    → HasEach (position_count (single_with net setup unit hold back owing)) (serving_cost (single_with net setup unit hold back owing) u) costs
    → periods ≡ positions (single_with net setup unit hold back owing) → count ≡ position_count (single_with net setup unit hold back owing)
    → fee ≡ entry setup u → 1 ≤ u → u ≤ length net → BreaksOf g costs periods fee owing u count o → AnswersOf (single_with net setup unit hold back owing) g u o
answers_of net setup unit hold back owing g costs periods fee u count None has are is_count is_fee low high breaks =
    let s = single_with net setup unit hold back owing in
    λ c block same.
    let serves = serves_yes owing back u (entry periods c.first) (λ none. omega (arith, block.server.in_time none, same, ap (λ ps. entry ps c.first) are)) in
    let holds = breaks c.first c.last block.low block.order (omega (arith, block.high, is_count)) serves in
    let rise = block_rise s g costs fee c.first c.last u has is_fee block.low block.order block.high in
    subst (λ k. potential g c.last ≤ potential g (c.first - 1) + (entry setup k + sum_from c.first (suc c.last - c.first) (serving_cost s k))) (sym same) (omega (arith, holds, rise))
answers_of net setup unit hold back owing g costs periods fee u count (Some b) has are is_count is_fee low high breaks =
    let s = single_with net setup unit hold back owing in
    let b_high : b.last ≤ position_count s = omega (arith, breaks.2, is_count) in
    let rise = block_rise s g costs fee b.first b.last u has is_fee breaks.0 breaks.1 b_high in
    let block : IsBlock s b = record {
      low = breaks.0;
      order = breaks.1;
      high = b_high;
      server = record {
        low = omega (arith, breaks.3, low);
        high = omega (arith, breaks.3, high);
        in_time = λ none. omega (arith, breaks.3, serves_in_time owing back u (entry periods b.first) breaks.4 none, ap (λ ps. entry ps b.first) are);
      };
    } in (
      block,
      breaks.3,
      λ holds. omega (arith, breaks.5, rise, subst (λ k. potential g b.last ≤ potential g (b.first - 1) + (entry setup k + sum_from b.first (suc b.last - b.first) (serving_cost s k))) breaks.3 holds),
      λ c c_block same earlier.
          let place : (c.first < b.first) ⊎ ((c.first ≡ b.first) × (c.last < b.last)) = ⊎_elim inl (λ rest. ⊎_elim (λ last. inr (rest.0, last)) (λ server. absurd (omega (arith, server.1, same, breaks.3))) rest.1) earlier in
          let serves = serves_yes owing back u (entry periods c.first) (λ none. omega (arith, c_block.server.in_time none, same, ap (λ ps. entry ps c.first) are)) in
          let holds = breaks.6 c.first c.last c_block.low c_block.order (omega (arith, c_block.high, is_count)) place serves in
          let more = block_rise s g costs fee c.first c.last u has is_fee c_block.low c_block.order c_block.high in
          subst (λ k. potential g c.last ≤ potential g (c.first - 1) + (entry setup k + sum_from c.first (suc c.last - c.first) (serving_cost s k))) (sym same) (omega (arith, holds, more)),
    )

-- a server that is one of the first ones or the next one
server_or : (k n : ℕ) → k ≤ n + 1 → (k ≤ n) ⊎ (k ≡ n + 1)
server_or k n h = ⊎_elim (λ before. inl (omega (arith, before))) (λ last. inr (omega (arith, last, h))) (cases_lt k (n + 1))

before_same : (af al bf bl : ℕ) → (nat_lt af bf || ((af == bf) && nat_lt al bl)) ≡ true → bf ≤ af → af ≡ bf
before_same af al bf bl is late = grind (arith, is, late)

before_last : (af al bf bl : ℕ) → (nat_lt af bf || ((af == bf) && nat_lt al bl)) ≡ true → bf ≤ af → al < bl
before_last af al bf bl is late = grind (arith, is, late)

before_parts : (a b : Block) → is_before a b ≡ true → (a.first < b.first) ⊎ ((a.first ≡ b.first) × (a.last < b.last))
before_parts a b is = ⊎_elim inl (λ late. inr (before_same a.first a.last b.first b.last is late, before_last a.first a.last b.first b.last is late)) (cases_lt a.first b.first)

not_before_first : (af al bf bl : ℕ) → (nat_lt af bf || ((af == bf) && nat_lt al bl)) ≡ false → bf ≤ af
not_before_first af al bf bl is = grind (arith, is)

not_before_last : (af al bf bl : ℕ) → (nat_lt af bf || ((af == bf) && nat_lt al bl)) ≡ false → af ≡ bf → bl ≤ al
not_before_last af al bf bl is same = grind (arith, is, same)

-- earlier than a block that isn't later
earlier_than : (c b a : Block) → (b.first < a.first) ⊎ ((b.first ≡ a.first) × (b.last < a.last)) → IsEarlier c b → IsEarlier c a
earlier_than c b a first earlier =
    ⊎_elim
    (λ less. inl (⊎_elim (λ x. omega (arith, x, less)) (λ x. omega (arith, x.0, less)) first))
    (λ rest. ⊎_elim
    (λ less. inl (omega (arith, rest.0, less)))
    (λ same. inr (omega (arith, rest.0, same.0), ⊎_elim (λ last. inl (omega (arith, last, same.1))) (λ server. inl (omega (arith, server.0, same.1))) rest.1))
    first)
    earlier

-- earlier than a block of an earlier server, which doesn't come after another one
earlier_to : (c a b : Block) → is_before b a ≡ false → a.server < c.server → c.server ≡ b.server → IsEarlier c a → IsEarlier c b
earlier_to c a b late less same earlier =
    let low = not_before_first b.first b.last a.first a.last late in
    ⊎_elim
    (λ before. inl (omega (arith, before, low)))
    (λ rest. ⊎_elim
    (λ last. ⊎_elim
    (λ first. inl (omega (arith, rest.0, first)))
    (λ equal.
    let e : b.first ≡ a.first = omega (arith, equal, low) in
    inr (omega (arith, rest.0, e), inl (omega (arith, last, not_before_last b.first b.last a.first a.last late e))))
    (cases_lt a.first b.first))
    (λ server. absurd (omega (arith, server.1, less)))
    rest.1)
    earlier

pub merge : (s : Single) (g : List ℕ) (n : ℕ) (a b : Option Block) → AnswersTo s g n a → AnswersOf s g (n + 1) b → AnswersTo s g (n + 1) (earlier_of a b)
merge s g n None None to one = λ c block within. ⊎_elim (λ before. to c block before) (λ last. one c block last) (server_or c.server n within)
merge s g n None (Some b) to one = record {
  block = one.0;
  server = omega (arith, one.1);
  broken = one.2;
  before = λ c block within earlier. ⊎_elim (λ first. to c block first) (λ last. one.3 c block last earlier) (server_or c.server n within);
}
merge s g n (Some a) None to one = record {
  block = to.block;
  server = omega (arith, to.server);
  broken = to.broken;
  before = λ c block within earlier. ⊎_elim (λ first. to.before c block first earlier) (λ last. one c block last) (server_or c.server n within);
}
merge s g n (Some a) (Some b) to one =
    ⊎_elim
    (λ yes.
    let part = before_parts b a yes in
    let found : IsFirstTo s g (n + 1) b = record {
      block = one.0;
      server = omega (arith, one.1);
      broken = one.2;
      before = λ c block within earlier. ⊎_elim (λ first. to.before c block first (earlier_than c b a part earlier)) (λ last. one.3 c block last earlier) (server_or c.server n within);
    } in
    subst (AnswersTo s g (n + 1)) (sym (ap (λ x. if x then Some b else Some a) yes)) found)
    (λ no.
    let found : IsFirstTo s g (n + 1) a = record {
      block = to.block;
      server = omega (arith, to.server);
      broken = to.broken;
      before = λ c block within earlier. ⊎_elim
          (λ first. to.before c block first earlier)
          (λ last. one.3 c block last (earlier_to c a b no (omega (arith, last, to.server)) (omega (arith, last, one.1)) earlier))
          (server_or c.server n within);
    } in
    subst (AnswersTo s g (n + 1)) (sym (ap (λ x. if x then Some b else Some a) no)) found)
    (cases_Bool (is_before b a))

-- with all servers these are all blocks
pub all_servers : (s : Single) (g : List ℕ) (o : Option Block) → AnswersTo s g (period_count s) o → IsFirstBrokenOrNone s g o
all_servers s g None to = λ b block. to b block block.server.high
all_servers s g (Some b) to = record { block = to.block; broken = to.broken; before = λ c block earlier. to.before c block block.server.high earlier }
