-- The table of least costs takes a position more, by the cheapest line.
use Rattle.std.proofs.Common.{◌≡◌, ◌≤◌, ◌<◌, ◌+◌, ◌-◌, ◌*◌, ◌^◌, ◌∙◌, ◌⊎◌, ⊎_elim, ℕ, suc, refl, sym, ap, subst, arith, List, [], ◌∷◌, ◌++◌, length, slice_index_or, Option, Some, None, IfSome}
use Rattle.std.specs.Prelude.{IsNone}
use Rattle.std.proofs.lemmas.List.{get_or_push, get_or_append_left}
use Rattle.std.proofs.lemmas.Bool.{cases_lt}
use Rattle.std.proofs.lemmas.Nat.{mul-le}
use Rattle.lot_sizing.specs.Problem.{entry}
use Rattle.lot_sizing.specs.Sums.{sum_from}
use Rattle.lot_sizing.specs.declared.Block.{Block}
use Rattle.lot_sizing.specs.Single.{Single, IsWithinBounds, IsBlock, period_count, position_count, positions, period_of, net_demand, unit_price, serving_cost, block_cost, potential}
use Rattle.wagner_whitin.specs.declared.plain.Candidate.{Candidate}
use Rattle.wagner_whitin.specs.Tables.{IsTable, IsCheapestLast, last_block, no_block, most_for_one}
use Rattle.wagner_whitin.proofs.Sums.{IsRead, read_is, entry_small}
use Rattle.lot_sizing.proofs.Blocks.{periods_rise}
use Rattle.wagner_whitin.proofs.Serving.{count_small, period_in}
use Rattle.wagner_whitin.proofs.Tabled.{potential_kept, potential_new, table_by_last}
use Rattle.wagner_whitin.specs.declared.lines.Line.{Line}
use Rattle.wagner_whitin.specs.Lines.{line_cost, line_of, entry_of, slot_at, IsLine, IsHull, IsInserted, IsReached, IsCheapest, BeginAtEntries}
use Rattle.wagner_whitin.proofs.Floors.{AreLeast, floor, span}
use Rattle.wagner_whitin.proofs.Costs.{price_is}
use Rattle.wagner_whitin.proofs.Entries.{entry_serves, serves_entry, orders}

-- lines stay as the potentials grow
pub line_kept : (s : Single) (g : List ℕ) (x u : ℕ) → entry_of s u ≤ length g + 1 → line_of s g u ≡ line_of s (g ++ x ∷ []) u
line_kept s g x u h = ap (λ (b : ℕ). record { before = b + entry s.setup u; first = entry_of s u; server = u }) (sym (potential_kept g x (entry_of s u - 1) (omega (arith, h))))

line_on : (s : Single) (p : ℕ) (o : Option Line) → IfSome o (IsLine s p) → IfSome o (IsLine s (p + 1))
line_on s p None line = tt
line_on s p (Some l) line = record { low = line.low; begun = omega (arith, line.begun); server = line.server; small = line.small }

own_on : (s : Single) (g : List ℕ) (x p : ℕ) (o : Option Line) → p ≡ length g + 1 → IfSome o (IsLine s p) → IfSome o (λ l. l ≡ line_of s g l.server) → IfSome o (λ l. l ≡ line_of s (g ++ x ∷ []) l.server)
own_on s g x p None at line own = tt
own_on s g x p (Some l) at line own =
    let first : l.first ≡ entry_of s l.server = ap (λ (k : Line). k.first) own in
    own ∙ line_kept s g x l.server (omega (arith, first, line.begun, at))

pub hull_later : (s : Single) (g : List ℕ) (x e p level : ℕ) (slots : List (Option Line)) → p ≡ length g + 1 → IsHull s g e p level slots → IsHull s (g ++ x ∷ []) e (p + 1) level slots
hull_later s g x e p level slots at hull = record {
  size = hull.size;
  lines = λ k k_low. line_on s p (slot_at slots k) (hull.lines k k_low);
  own = λ k k_low. own_on s g x p (slot_at slots k) at (hull.lines k k_low) (hull.own k k_low);
  begun = λ u low high. omega (arith, hull.begun u low high);
  met = λ u q low high q_low q_high. subst (λ (l : Line). IsReached (line_cost s) slots level 1 (position_count s + 1) q (line_cost s l q)) (line_kept s g x u (omega (arith, hull.begun u low high, at))) (hull.met u q low high (omega (arith, q_low)) q_high);
}

pub hull_entered : (s : Single) (g : List ℕ) (e p level : ℕ) (line : Line) (old new : List (Option Line)) → IsHull s g e p level old → 1 ≤ p → IsLine s p line → line ≡ line_of s g (e + 1) → entry_of s (e + 1) ≤ p → IsInserted (line_cost s) p level 1 (position_count s + 1) line old new → IsHull s g (e + 1) p level new
hull_entered s g e p level line old new hull some is_line is begun put =
    let server : line.server ≡ e + 1 = ap (λ (l : Line). l.server) is in
    let own_line : line ≡ line_of s g line.server = is ∙ ap (line_of s g) (sym server) in
    record {
      size = put.size ∙ hull.size;
      lines = λ k k_low. ⊎_elim
          (λ here. subst (λ o. IfSome o (IsLine s p)) (sym here) is_line)
          (λ from. subst (λ o. IfSome o (IsLine s p)) (sym from.2) (hull.lines from.0 from.1))
          (put.origin k k_low);
      own = λ k k_low. ⊎_elim
          (λ here. subst (λ o. IfSome o (λ l. l ≡ line_of s g l.server)) (sym here) own_line)
          (λ from. subst (λ o. IfSome o (λ l. l ≡ line_of s g l.server)) (sym from.2) (hull.own from.0 from.1))
          (put.origin k k_low);
      begun = λ u low high. ⊎_elim
          (λ before. hull.begun u low (omega (arith, before)))
          (λ last. let same : u ≡ e + 1 = omega (arith, last, high) in omega (arith, ap (entry_of s) same, begun))
          (cases_lt u (e + 1));
      met = λ u q low high q_low q_high. ⊎_elim
          (λ before. put.kept q (line_cost s (line_of s g u) q) q_low (omega (arith, some, q_low)) (omega (arith, q_high)) (hull.met u q low (omega (arith, before)) q_low q_high))
          (λ last.
          let same : e + 1 ≡ u = omega (arith, last, high) in
          subst (λ (l : Line). IsReached (line_cost s) new level 1 (position_count s + 1) q (line_cost s l q)) (is ∙ ap (line_of s g) same) (put.reached q q_low (omega (arith, some, q_low)) (omega (arith, q_high))))
          (cases_lt u (e + 1));
    }

-- the line that is found is the cheapest
pub found_is : (s : Single) (g : List ℕ) (e p level k : ℕ) (l : Line) (slots : List (Option Line)) → IsNone s.back → IsHull s g e p level slots → e ≡ period_of s p → 1 ≤ p → p ≤ position_count s → 1 ≤ k → slot_at slots k ≡ Some l → ((x : ℕ) → IsReached (line_cost s) slots level 1 (position_count s + 1) p x → line_cost s l p ≤ x) → IsCheapest s g p l
found_is s g e p level k l slots no_backlog hull last low high k_low is least = record {
  line = subst (λ o. IfSome o (IsLine s p)) is (hull.lines k k_low);
  own = subst (λ o. IfSome o (λ l. l ≡ line_of s g l.server)) is (hull.own k k_low);
  least = λ u u_low u_high begun. least (line_cost s (line_of s g u) p) (hull.met u p u_low (omega (arith, last, (entry_serves s u p no_backlog u_low u_high begun high).in_time no_backlog)) (omega arith) high);
}

-- a position's own period serves it for its unit cost
own_price : (s : Single) (p : ℕ) → IsWithinBounds s → 1 ≤ p → p ≤ position_count s → block_cost s (record { first = p; last = p; server = period_of s p }) ≤ most_for_one
own_price s p within low high =
    let t = period_of s p in
    let period = period_in s p within low high in
    let price = price_is s t t period.low (omega arith) in
    let unit = entry_small (period_count s) s.unit within.unit t period.low period.high in
    let setup = entry_small (period_count s) s.setup within.setup t period.low period.high in
    let serving = mul-le (net_demand s t) (unit_price s t t) (10 ^ 12) (10 ^ 9) period.net (omega (arith, price, unit)) in
    let one : suc p - p ≡ suc 0 = omega arith in
    let at : p + 0 ≡ p = omega arith in
    omega (arith, setup, serving, ap (λ k. sum_from p k (serving_cost s t)) one, ap (serving_cost s t) at)

-- the block of the cheapest line
pub cheapest_last : (s : Single) (p : ℕ) (g : List ℕ) (lasts : List Block) (l : Line) → IsWithinBounds s → IsNone s.back → IsTable s p g lasts → BeginAtEntries s p lasts → p < position_count s → IsCheapest s g (p + 1) l → IsCheapestLast s g (p + 1) (record { cost = line_cost s l (p + 1); block = record { first = l.first; last = p + 1; server = l.server } })
cheapest_last s p g lasts l within no_backlog table begins some is =
    let x = line_cost s l (p + 1) in
    let m = p + 1 in
    let new : potential (g ++ x ∷ []) m ≡ x = let e : suc (length g) ≡ m = omega (arith, table.size) in ap (potential (g ++ x ∷ [])) (sym e) ∙ potential_new g x in
    let kept : (k : ℕ) → k ≤ p → potential (g ++ x ∷ []) k ≡ potential g k = λ k high. potential_kept g x k (omega (arith, high, table.size)) in
    let first : l.first ≡ entry_of s l.server = ap (λ (k : Line). k.first) is.own in
    let cost_own : x ≡ line_cost s (line_of s g l.server) m = ap (λ (k : Line). line_cost s k m) is.own in
    let least : AreLeast (λ u. (1 ≤ u) × (u ≤ period_count s)) m (potential (g ++ x ∷ [])) (entry s.setup) (entry_of s) (serving_cost s) = record {
      low = λ u one. omega arith;
      least = λ u k one begun high. ⊎_elim
          (λ before.
          let block : IsBlock s (record { first = entry_of s u; last = k; server = u }) = record { low = omega arith; order = begun; high = omega (arith, before, some); server = entry_serves s u (entry_of s u) no_backlog one.0 one.1 (omega arith) (omega (arith, begun, before, some)) } in
          omega (arith, table.floor (record { first = entry_of s u; last = k; server = u }) block (omega (arith, before)), kept k (omega (arith, before)), kept (entry_of s u - 1) (omega (arith, begun, before))))
          (λ now.
          let e : k ≡ m = omega (arith, now, high) in
          omega (arith, ap (potential (g ++ x ∷ [])) e, new, is.least u one.0 one.1 (omega (arith, begun, e)), kept (entry_of s u - 1) (omega (arith, begun, high)), ap (λ j. span (entry_of s u) j (serving_cost s u)) e))
          (cases_lt k m);
      some = λ k low high. ⊎_elim
          (λ before.
          let last = table.last k low (omega (arith, before)) in
          let b = last_block lasts k in
          let u = b.server in
          let entry_is = begins k low (omega (arith, before)) in
          let server = last.block.server in
          (u, (server.low, server.high), omega (arith, entry_is, last.block.order, last.ends), omega (arith, last.cost, kept k (omega (arith, before)), kept (entry_of s u - 1) (omega (arith, entry_is, last.block.order, last.ends, before)), ap (λ j. potential g (j - 1)) entry_is, ap (λ j. span j b.last (serving_cost s u)) entry_is, ap (λ j. span (entry_of s u) j (serving_cost s u)) last.ends)))
          (λ now.
          let e : k ≡ m = omega (arith, now, high) in
          let u = l.server in
          (u, (is.line.server.low, is.line.server.high), omega (arith, first, is.line.begun, e), omega (arith, ap (potential (g ++ x ∷ [])) e, new, cost_own, kept (entry_of s u - 1) (omega (arith, first, is.line.begun)), ap (λ j. span (entry_of s u) j (serving_cost s u)) e)))
          (cases_lt k m);
      order = λ u w one_u one_w. orders s m u w no_backlog (omega (arith, some)) one_u.0 one_u.1 one_w.0 one_w.1;
    } in
    let cheapest : (b : Block) → IsBlock s b → b.last ≡ m → x ≤ potential g (b.first - 1) + block_cost s b = λ b block ends. omega (arith, floor (λ u. (1 ≤ u) × (u ≤ period_count s)) m (potential (g ++ x ∷ [])) (entry s.setup) (entry_of s) (serving_cost s) least b.first b.server b.last (block.server.low, block.server.high) (serves_entry s b.server b.first no_backlog block.low (omega (arith, block.order, block.high)) block.server) block.order (omega (arith, ends)), ap (potential (g ++ x ∷ [])) ends, new, kept (b.first - 1) (omega (arith, block.order, ends))) in
    let t = period_of s m in
    let period = period_in s m within (omega arith) (omega (arith, some)) in
    let own : IsBlock s (record { first = m; last = m; server = t }) = record { low = omega arith; order = omega arith; high = omega (arith, some); server = record { low = period.low; high = period.high; in_time = λ none. omega arith } } in
    let d : m - 1 ≡ p = omega arith in
    record {
      block = record { low = is.line.low; order = is.line.begun; high = omega (arith, some); server = is.line.server };
      ends = refl;
      cost = omega (arith, cost_own, first, ap (λ j. potential g (j - 1)) first, ap (λ j. span j m (serving_cost s l.server)) first);
      least = cheapest;
      small = omega (arith, cheapest (record { first = m; last = m; server = t }) own refl, own_price s m within (omega arith) (omega (arith, some)), table.small p (omega arith), ap (potential g) d);
    }

-- the table takes the position
pub record IsNext (s : Single) (p : ℕ) (g : List ℕ) (lasts : List Block) (l : Line) : Type 0 where
  pub table : IsTable s (p + 1) (g ++ line_cost s l (p + 1) ∷ []) (lasts ++ record { first = l.first; last = p + 1; server = l.server } ∷ [])
  pub begins : BeginAtEntries s (p + 1) (lasts ++ record { first = l.first; last = p + 1; server = l.server } ∷ [])

pub next_table : (s : Single) (p : ℕ) (g : List ℕ) (lasts : List Block) (l : Line) → IsWithinBounds s → IsNone s.back → IsTable s p g lasts → BeginAtEntries s p lasts → p < position_count s → IsCheapest s g (p + 1) l → IsNext s p g lasts l
next_table s p g lasts l within no_backlog table begins some is =
    let c : Candidate = record { cost = line_cost s l (p + 1); block = record { first = l.first; last = p + 1; server = l.server } } in
    let first : l.first ≡ entry_of s l.server = ap (λ (k : Line). k.first) is.own in
    record {
      table = table_by_last s p g lasts c table (cheapest_last s p g lasts l within no_backlog table begins some is);
      begins = λ k low high. ⊎_elim
          (λ before.
          let here : last_block (lasts ++ c.block ∷ []) k ≡ last_block lasts k = get_or_append_left lasts (c.block ∷ []) no_block (k - 1) (omega (arith, before, low, table.blocks)) in
          subst (λ (b : Block). b.first ≡ entry_of s b.server) (sym here) (begins k low (omega (arith, before))))
          (λ now.
          let here : last_block (lasts ++ c.block ∷ []) k ≡ c.block = get_or_push lasts c.block no_block (k - 1) (omega (arith, now, high, table.blocks)) in
          subst (λ (b : Block). b.first ≡ entry_of s b.server) (sym here) first)
          (cases_lt k (p + 1));
    }

abbrev pub new_line : List ℕ → ℕ → ℕ → ℕ → Line
new_line g u before setup = record { before = before + setup; first = length g + 1; server = u }

-- a line that begins with the next position
pub record IsNew (s : Single) (g : List ℕ) (u before setup : ℕ) : Type 0 where
  pub line : IsLine s (length g + 1) (new_line g u before setup)
  pub own : new_line g u before setup ≡ line_of s g u

pub new_is : (s : Single) (g : List ℕ) (u before setup : ℕ) → IsWithinBounds s → IsNone s.back → length g < position_count s → potential g (length g) ≤ 120 * most_for_one → 1 ≤ u → u ≤ period_count s → entry_of s u ≡ length g + 1 → before ≡ potential g (length g) → IsRead s.setup (u - 1) setup → IsNew s g u before setup
new_is s g u before setup within no_backlog some small low high begins is read =
    let setup_is = read_is s.setup (u - 1) setup (omega (arith, within.setup.size, low, high)) read in
    let d : length g + 1 - 1 ≡ length g = omega arith in
    let costs : before + setup ≡ potential g (length g + 1 - 1) + entry s.setup u = omega (arith, is, setup_is, ap (potential g) d) in
    record {
      line = record {
        low = omega arith;
        begun = omega arith;
        server = entry_serves s u (length g + 1) no_backlog low high (omega (arith, begins)) (omega (arith, some));
        small = omega (arith, is, small, setup_is, entry_small (period_count s) s.setup within.setup u low high);
      };
      own = ap (λ (b : ℕ). record { before = b; first = length g + 1; server = u }) costs ∙ ap (λ (f : ℕ). record { before = potential g (f - 1) + entry s.setup u; first = f; server = u }) (sym begins);
    }

pub hull_next : (s : Single) (g : List ℕ) (u level end : ℕ) (line : Line) (old new : List (Option Line)) → 1 ≤ u → end ≡ position_count s + 1 → IsHull s g (u - 1) (length g + 1) level old → IsLine s (length g + 1) line → line ≡ line_of s g u → entry_of s u ≡ length g + 1 → IsInserted (line_cost s) (length g + 1) level 1 end line old new → IsHull s g (u + 1 - 1) (length g + 1) level new
hull_next s g u level end line old new low top hull is_line is begins put =
    let e : u - 1 + 1 ≡ u = omega (arith, low) in
    let d : u - 1 + 1 ≡ u + 1 - 1 = omega (arith, low) in
    subst (λ k. IsHull s g k (length g + 1) level new) d (hull_entered s g (u - 1) (length g + 1) level line old new hull (omega arith) is_line (is ∙ ap (line_of s g) (sym e)) (omega (arith, ap (entry_of s) e, begins)) (subst (λ k. IsInserted (line_cost s) (length g + 1) level 1 k line old new) top put))

pub more_steps : (u entered level before now new : ℕ) → entered < u → now ≤ before + (u - 1 - entered) * level → new ≤ now + level → new ≤ before + (u + 1 - 1 - entered) * level
more_steps u entered level before now new low some more =
    let e : u + 1 - 1 - entered ≡ suc (u - 1 - entered) = omega (arith, low) in
    omega (arith, some, more, ap (λ k. k * level) e)

-- what is met at the next position, the slots ending where they do
pub met_here : (s : Single) (g : List ℕ) (t p level x : ℕ) (slots : List (Option Line)) → IsHull s g t p level slots → IsReached (line_cost s) slots level 1 (position_count s + 1) p x → IsReached (line_cost s) slots level 1 (length slots + 1) p x
met_here s g t p level x slots hull reached = let top : position_count s + 1 ≡ length slots + 1 = omega (arith, hull.size) in subst (λ k. IsReached (line_cost s) slots level 1 k p x) top reached

-- where the positions passed so far leave off
abbrev pub HasCome : Single → ℕ → ℕ → Type 0
HasCome s p e = ((p ≡ 0) × (e ≡ 0)) ⊎ ((1 ≤ p) × (e ≡ period_of s p))

-- the servers after those of the positions passed, up to the next position's period, begin with that position
pub record IsNextPeriod (s : Single) (p e t : ℕ) : Type 0 where
  pub order : e ≤ t
  pub entries : (u : ℕ) → e < u → u ≤ t → entry_of s u ≡ p + 1

pub next_period : (s : Single) (p e t : ℕ) → IsNone s.back → p < position_count s → t ≡ period_of s (p + 1) → t ≤ period_count s → HasCome s p e → IsNextPeriod s p e t
next_period s p e t no_backlog some at t_high come = record {
  order = ⊎_elim (λ none. omega (arith, none.1)) (λ come_to. omega (arith, come_to.1, at, periods_rise s p (p + 1) come_to.0 (omega arith) (omega (arith, some)))) come;
  entries = λ u low high.
      let early : entry_of s u ≤ p + 1 = serves_entry s u (p + 1) no_backlog (omega arith) (omega (arith, some)) (record { low = omega (arith, low); high = omega (arith, high, t_high); in_time = λ none. omega (arith, high, at) }) in
      ⊎_elim
      (λ before. absurd (⊎_elim
      (λ none. omega (arith, before, none.0))
      (λ come_to. omega (arith, low, come_to.1, (entry_serves s u p no_backlog (omega (arith, low)) (omega (arith, high, t_high)) (omega (arith, before)) (omega (arith, some))).in_time no_backlog))
      come))
      (λ late. omega (arith, early, late))
      (cases_lt (entry_of s u) (p + 1));
}

pub steps_of_position : (entered period place level before now entering found : ℕ) → entered ≤ period → now ≤ before + (entered + place) * level → entering ≤ now + (period - entered) * level → found ≤ entering + level → found ≤ before + (period + (place + 1)) * level
steps_of_position entered period place level before now entering found order a b d =
    let e : period + (place + 1) ≡ entered + place + (period - entered) + 1 = omega (arith, order) in
    omega (arith, a, b, d, ap (λ k. k * level) e)

-- the period of the next position, as it is read
pub record IsHere (s : Single) (p t : ℕ) : Type 0 where
  pub same : t ≡ period_of s (p + 1)
  pub high : t ≤ period_count s

pub period_here : (s : Single) (periods : List ℕ) (p : ℕ) → IsWithinBounds s → periods ≡ positions s → p < position_count s → IsHere s p (slice_index_or periods p 0)
period_here s periods p within same some =
    let d : p + 1 - 1 ≡ p = omega arith in
    let here : slice_index_or periods p 0 ≡ period_of s (p + 1) = ap (λ xs. slice_index_or xs p 0) same ∙ ap (λ k. slice_index_or (positions s) k 0) (sym d) in
    record { same = here; high = omega (arith, here, (period_in s (p + 1) within (omega arith) (omega (arith, some))).high) }

pub steps_within : (s : Single) (period place level before found : ℕ) → period ≤ period_count s → place < position_count s → found ≤ before + (period + (place + 1)) * level → found ≤ before + (period_count s + position_count s) * level
steps_within s period place level before found high some few = omega (arith, few, mul-le (period + (place + 1)) level (period_count s + position_count s) level (omega (arith, high, some)) (omega arith))

-- no more positions than periods
pub positions_few : (s : Single) → position_count s ≤ period_count s
positions_few s = count_small s (period_count s)

-- all steps, for any number of digits that is enough
pub steps_all : (s : Single) (level d before new : ℕ) → ((k : ℕ) → period_count s < 2 ^ k → level ≤ k) → new ≤ before + (period_count s + position_count s) * level → period_count s < 2 ^ d → new ≤ before + 4 * period_count s * (d + 1)
steps_all s level d before new least steps enough = omega (arith, steps, mul-le (period_count s + position_count s) level (2 * period_count s) d (omega (arith, positions_few s)) (least d enough))
