-- Lots and setups as blocks are put in a row.
use Rattle.std.proofs.Common.{◌≡◌, ◌≢◌, ◌≤◌, ◌<◌, ◌+◌, ◌-◌, ◌∙◌, ⊎_elim, inl, inr, ℕ, suc, refl, sym, ap, subst, arith, List, [], ◌∷◌, length, drop, slice_index_or}
use Rattle.std.specs.Prelude.{◌==◌, ◌||◌, if◌then◌else◌, true, false}
use Rattle.std.specs.List.{list_any}
use Rattle.std.proofs.lemmas.Bool.{cases_eq}
use Rattle.std.proofs.lemmas.List.{drop_all, drop_more}
use Rattle.lot_sizing.specs.declared.Block.{Block}
use Rattle.std.proofs.lemmas.List.Sums.{sum_by-cons}
use Rattle.lot_sizing.specs.declared.limits.TheConstants.{MAX_TOTAL}
use Rattle.lot_sizing.specs.Sums.{sum_from}
use Rattle.lot_sizing.specs.Single.{Cover, CoverFrom, IsBlock, IsWithinBounds, Single, block_lot, lot_in, net_demand, period_count, period_of, position_count, setup_in}
use Rattle.lot_sizing.proofs.Sums.{sum_to_at, sum_to-front}
use Rattle.uncoupled.specs.Rows.{HasItemCells, IsEmptyRow, IsPut, IsRowSoFar, IsSetUpSoFar}
use Rattle.plan_rules.specs.Cells.{Cells, table_of}
use Rattle.plan_rules.specs.Rows.{OtherRowsSame}

-- each block has a position
blocks_from : (s : Single) (p : ℕ) (bs : List Block) → p ≤ position_count s → CoverFrom s p bs → p + length bs ≤ position_count s
blocks_from s p [] h cover = omega (arith, h)
blocks_from s p (b ∷ bs) h cover = omega (arith, blocks_from s b.last bs cover.1.high cover.2, cover.0, cover.1.order)

pub few_blocks : (s : Single) (bs : List Block) → Cover s bs → length bs ≤ position_count s
few_blocks s bs cover = omega (arith, blocks_from s 0 bs (omega arith) cover)

-- the blocks from k on are block k and the others
pub record IsNext (s : Single) (blocks : List Block) (k : ℕ) (b : Block) : Type 0 where
  pub split : drop k blocks ≡ b ∷ drop (k + 1) blocks
  pub block : IsBlock s b
  pub cover : (p : ℕ) × CoverFrom s p (drop (k + 1) blocks)

pub next_block : (s : Single) (blocks : List Block) (k p : ℕ) (d : Block) → k < length blocks → CoverFrom s p (drop k blocks) → IsNext s blocks k (slice_index_or blocks k d)
next_block s blocks k p d h cover =
    let split = drop_more blocks k d h in
    let parts = subst (CoverFrom s p) split cover in
    record { split = split; block = parts.1; cover = ((slice_index_or blocks k d).last, parts.2) }

is_here : (a b : ℕ) → b ≡ a → (a == b) ≡ true
is_here a b h = grind (arith, h)

is_elsewhere : (a b : ℕ) → b ≢ a → (a == b) ≡ false
is_elsewhere a b h = grind (arith, h)

-- what stands in a period and what is still to come
pub lot_here : (s : Single) (b : Block) (rest : List Block) (old total t : ℕ) → old + lot_in s (b ∷ rest) t ≡ total → t ≡ b.server → old + block_lot s b + lot_in s rest t ≡ total
lot_here s b rest old total t so_far here =
    let cons = sum_by-cons (λ x. if x.server == t then block_lot s x else 0) b rest in
    let one : (if b.server == t then block_lot s b else 0) ≡ block_lot s b = rw (is_here b.server t here) refl in
    omega (arith, so_far, cons, one)

pub lot_elsewhere : (s : Single) (b : Block) (rest : List Block) (old total t : ℕ) → old + lot_in s (b ∷ rest) t ≡ total → t ≢ b.server → old + lot_in s rest t ≡ total
lot_elsewhere s b rest old total t so_far apart =
    let cons = sum_by-cons (λ x. if x.server == t then block_lot s x else 0) b rest in
    let none : (if b.server == t then block_lot s b else 0) ≡ 0 = rw (is_elsewhere b.server t apart) refl in
    omega (arith, so_far, cons, none)

setup_cons : (b : Block) (rest : List Block) (t : ℕ) → setup_in (b ∷ rest) t ≡ (if (b.server == t) || list_any (λ x. x.server == t) rest then 1 else 0)
setup_cons b rest t = refl

pub setup_here : (all rest : List Block) (b : Block) (t row : ℕ) → IsSetUpSoFar all (b ∷ rest) t row → t ≡ b.server → IsSetUpSoFar all rest t 1
setup_here all rest b t row so_far here =
    ⊎_elim (λ done. inl (refl, done.1)) (λ later. inl (refl, sym later.1 ∙ setup_cons b rest t ∙ rw (is_here b.server t here) refl)) so_far

pub setup_elsewhere : (all rest : List Block) (b : Block) (t row : ℕ) → IsSetUpSoFar all (b ∷ rest) t row → t ≢ b.server → IsSetUpSoFar all rest t row
setup_elsewhere all rest b t row so_far apart =
    ⊎_elim
    (λ done. inl done)
    (λ later.
    let same : setup_in (b ∷ rest) t ≡ setup_in rest t = setup_cons b rest t ∙ rw (is_elsewhere b.server t apart) refl in
    inr (later.0, sym same ∙ later.1))
    so_far

pub setup_last : (all : List Block) (t row : ℕ) → IsSetUpSoFar all [] t row → row ≡ setup_in all t
setup_last all t row so_far = ⊎_elim (λ done. done.0 ∙ sym done.1) (λ later. later.0 ∙ later.1) so_far

-- a net demand is part of all of them
pub net_at_most : (s : Single) (t : ℕ) → IsWithinBounds s → 1 ≤ t → t ≤ period_count s → net_demand s t ≤ MAX_TOTAL
net_at_most s t within low high = omega (arith, sum_to_at t (net_demand s) low, sum_to-front t (period_count s) (net_demand s) high, within.net)

-- a position more
pub lot_more : (s : Single) (first place t read lot : ℕ) → first ≤ place → t ≡ period_of s place → read ≡ net_demand s t → lot ≡ sum_from first (place - first) (λ p. net_demand s (period_of s p)) → lot + read ≡ sum_from first (place + 1 - first) (λ p. net_demand s (period_of s p))
lot_more s first place t read lot low same is so_far =
    let f = λ (p : ℕ). net_demand s (period_of s p) in
    let e : place + 1 - first ≡ suc (place - first) = omega (arith, low) in
    let i : first + (place - first) ≡ place = omega (arith, low) in
    omega (arith, so_far, is, ap (net_demand s) same, ap (λ k. sum_from first k f) e, ap f i)

other_rows : (a b c : Cells) (item : ℕ) → b.items ≡ a.items → b.periods ≡ a.periods → OtherRowsSame a b item → OtherRowsSame b c item → OtherRowsSame a c item
other_rows a b c item items periods one two j u j_low j_high u_low u_high apart = two j u j_low (omega (arith, j_high, items)) u_low (omega (arith, u_high, periods)) apart ∙ one j u j_low j_high u_low u_high apart

pub row_start : (s : Single) (blocks : List Block) (item : ℕ) (make setup : Cells) → Cover s blocks → HasItemCells (period_count s) item make → HasItemCells (period_count s) item setup → IsEmptyRow make item → IsEmptyRow setup item → IsRowSoFar s blocks 0 item make setup make setup
row_start s blocks item make setup cover has_make has_setup no_make no_setup = record {
  make_items = refl;
  make_periods = refl;
  setup_items = refl;
  setup_periods = refl;
  other_makes = λ j u j_low j_high u_low u_high apart. refl;
  other_setups = λ j u j_low j_high u_low u_high apart. refl;
  lots = λ t low high. omega (arith, no_make t low (omega (arith, high, has_make.size)));
  small = λ t low high. omega (arith, no_make t low (omega (arith, high, has_make.size)));
  setups = λ t low high. inr (no_setup t low (omega (arith, high, has_setup.size)), refl);
  cover = (0, cover);
}

pub row_more : (s : Single) (blocks : List Block) (k item : ℕ) (b : Block) (make_old setup_old make setup make_new setup_new : Cells) → IsRowSoFar s blocks k item make_old setup_old make setup → IsNext s blocks k b → IsPut s b item make setup make_new setup_new → IsRowSoFar s blocks (k + 1) item make_old setup_old make_new setup_new
row_more s blocks k item b make_old setup_old make setup make_new setup_new row next put = record {
  make_items = put.make_items ∙ row.make_items;
  make_periods = put.make_periods ∙ row.make_periods;
  setup_items = put.setup_items ∙ row.setup_items;
  setup_periods = put.setup_periods ∙ row.setup_periods;
  other_makes = other_rows make_old make make_new item row.make_items row.make_periods row.other_makes put.other_makes;
  other_setups = other_rows setup_old setup setup_new item row.setup_items row.setup_periods row.other_setups put.other_setups;
  lots = λ t low high.
      let rest = drop (k + 1) blocks in
      let so_far : table_of make item t + lot_in s (b ∷ rest) t ≡ lot_in s blocks t = ap (λ n. table_of make item t + n) (ap (λ bs. lot_in s bs t) (sym next.split)) ∙ row.lots t low high in
      ⊎_elim
      (λ here. omega (arith, lot_here s b rest (table_of make item t) (lot_in s blocks t) t so_far here, put.lot_here, ap (table_of make_new item) here, ap (table_of make item) here))
      (λ apart. omega (arith, lot_elsewhere s b rest (table_of make item t) (lot_in s blocks t) t so_far apart, put.lots_apart t low high apart))
      (cases_eq t b.server);
  small = λ t low high.
      ⊎_elim
      (λ here. omega (arith, put.lot_here, ap (table_of make_new item) here, ap (table_of make item) here, row.small t low high, put.lot_small))
      (λ apart. omega (arith, put.lots_apart t low high apart, row.small t low high))
      (cases_eq t b.server);
  setups = λ t low high.
      let rest = drop (k + 1) blocks in
      let so_far = subst (λ bs. IsSetUpSoFar blocks bs t (table_of setup item t)) next.split (row.setups t low high) in
      ⊎_elim
      (λ here. subst (IsSetUpSoFar blocks rest t) (sym (ap (table_of setup_new item) here ∙ put.setup_here)) (setup_here blocks rest b t (table_of setup item t) so_far here))
      (λ apart. subst (IsSetUpSoFar blocks rest t) (sym (put.setups_apart t low high apart)) (setup_elsewhere blocks rest b t (table_of setup item t) so_far apart))
      (cases_eq t b.server);
  cover = next.cover;
}

-- once all blocks stand in it
pub row_end : (s : Single) (blocks : List Block) (k item : ℕ) (make_old setup_old make setup : Cells) → IsRowSoFar s blocks k item make_old setup_old make setup → length blocks ≤ k → (t : ℕ) → 1 ≤ t → t ≤ period_count s → (table_of make item t ≡ lot_in s blocks t) × (table_of setup item t ≡ setup_in blocks t)
row_end s blocks k item make_old setup_old make setup row all t low high =
    let none : drop k blocks ≡ [] = drop_all k blocks all in
    (omega (arith, row.lots t low high, ap (λ bs. lot_in s bs t) none), setup_last blocks t (table_of setup item t) (subst (λ bs. IsSetUpSoFar blocks bs t (table_of setup item t)) none (row.setups t low high)))
