-- What is drawn is within its bounds.
use Rattle.std.proofs.Common.{◌≡◌, ◌≤◌, ◌+◌, ◌-◌, ◌%◌, ◌++◌, ◌∙◌, ⊎_elim, ℕ, zero, suc, List, [], ◌∷◌, length, slice_index_or, None, Bool, true, false, refl, sym, ap, subst, arith}
use Rattle.std.specs.Prelude.{IfSome}
use Rattle.std.proofs.lemmas.Bool.{cases_eq}
use Rattle.std.proofs.lemmas.Nat.{mod_below}
use Rattle.std.proofs.lemmas.List.{length-append}
use Rattle.std.proofs.lemmas.List.Elements.{All-append, All-nil}
use Rattle.std.proofs.Math.ListN.{get_or-append}
use Rattle.std.proofs.Math.Seq.{get_or-append_seam}
use Rattle.rand_pcg.specs.Lcg.{Lcg}
use Rattle.rand_pcg.specs.Pcg.{pcg32}
use Rattle.lot_sizing.specs.Problem.{AllAtMost, IsSeries}
use Rattle.report.specs.Draws.{Drawn, draw_item, draw_items, has_backlog, most_demand, pick, pick_if, picks}

-- number i of a model, within the bounds of what is drawn
pub record IsDrawn (coupled : Bool) (periods i : ℕ) (d : Drawn) : Type 0 where
  pub number : d.number ≡ i
  pub demand : IsSeries periods (most_demand coupled i) d.demand
  pub setup_cost : IsSeries periods 299 d.setup_cost
  pub hold_cost : d.hold_cost ≤ 3
  pub backlog_cost : IfSome d.backlog_cost (λ b. b ≤ 6)
  pub no_backlog : coupled ≡ true → d.backlog_cost ≡ None

abbrev pub no_drawn : Drawn
no_drawn = record { number = 0; demand = []; setup_cost = []; hold_cost = 0; backlog_cost = None }

abbrev pub drawn_at : List Drawn → ℕ → Drawn
drawn_at ds i = slice_index_or ds (i - 1) no_drawn

-- so many items, each within the bounds
pub record AreDrawn (coupled : Bool) (periods items : ℕ) (ds : List Drawn) : Type 0 where
  pub size : length ds ≡ items
  pub each : (i : ℕ) → 1 ≤ i → i ≤ items → IsDrawn coupled periods i (drawn_at ds i)

from_to : (a b w : ℕ) → a ≤ b → a + w % (b - a + 1) ≤ b
from_to a b w h = omega (arith, h, mod_below w (b - a + 1) (omega arith))

pick_high : (a b : ℕ) (g : Lcg) → a ≤ b → (pick a b g).0 ≤ b
pick_high a b g h = from_to a b (pcg32 g).0 h

only_small : (most x : ℕ) → x ≤ most → AllAtMost most (x ∷ [])
only_small most x h zero d less = h
only_small most x h (suc k) d less = absurd (omega (arith, less))

picks_series : (a b n : ℕ) (g : Lcg) → a ≤ b → IsSeries n b (picks a b n g).0
picks_series a b zero g h = record { size = refl; small = All-nil (λ x. x ≤ b) }
picks_series a b (suc n) g h =
    let before = picks_series a b n g h in
    let xs = (picks a b n g).0 in
    let x = (pick a b (picks a b n g).1).0 in
    record {
      size = omega (arith, length-append xs (x ∷ []), before.size);
      small = All-append (λ x. x ≤ b) xs (x ∷ []) before.small (only_small b x (pick_high a b (picks a b n g).1 h));
    }

pick_if_high : (wanted : Bool) (a b : ℕ) (g : Lcg) → a ≤ b → IfSome (pick_if wanted a b g).0 (λ n. n ≤ b)
pick_if_high false a b g h = tt
pick_if_high true a b g h = pick_high a b g h

none_coupled : (coupled : Bool) (a b i : ℕ) (g : Lcg) → coupled ≡ true → (pick_if (has_backlog coupled i) a b g).0 ≡ None
none_coupled true a b i g h = refl
none_coupled false a b i g h = absurd (cc h)

item_drawn : (coupled : Bool) (periods i : ℕ) (g : Lcg) → IsDrawn coupled periods i (draw_item coupled periods i g).0
item_drawn coupled periods i g =
    let g1 = (picks 0 (most_demand coupled i) periods g).1 in
    let g2 = (picks 100 299 periods g1).1 in
    let g3 = (pick 1 3 g2).1 in
    record {
      number = refl;
      demand = picks_series 0 (most_demand coupled i) periods g (omega arith);
      setup_cost = picks_series 100 299 periods g1 (omega arith);
      hold_cost = pick_high 1 3 g2 (omega arith);
      backlog_cost = pick_if_high (has_backlog coupled i) 2 6 g3 (omega arith);
      no_backlog = none_coupled coupled 2 6 i g3;
    }

one_more : (coupled : Bool) (periods n : ℕ) (ds : List Drawn) (d : Drawn) → AreDrawn coupled periods n ds → IsDrawn coupled periods (suc n) d → AreDrawn coupled periods (suc n) (ds ++ d ∷ [])
one_more coupled periods n ds d are is = record {
  size = omega (arith, length-append ds (d ∷ []), are.size);
  each = λ i low high. ⊎_elim
      (λ last. let e : i - 1 ≡ length ds = omega (arith, last, are.size) in subst (IsDrawn coupled periods i) (sym (ap (λ k. slice_index_or (ds ++ d ∷ []) k no_drawn) e ∙ get_or-append_seam ds d [] no_drawn)) (subst (λ k. IsDrawn coupled periods k d) (sym last) is))
      (λ other. subst (IsDrawn coupled periods i) (sym (get_or-append ds (d ∷ []) no_drawn (i - 1) (omega (arith, low, high, other, are.size)))) (are.each i low (omega (arith, high, other))))
      (cases_eq i (suc n));
}

pub all_drawn : (coupled : Bool) (periods n : ℕ) (g : Lcg) → AreDrawn coupled periods n (draw_items coupled periods n g).0
all_drawn coupled periods zero g = record { size = refl; each = λ i low high. absurd (omega (arith, low, high)) }
all_drawn coupled periods (suc n) g =
    one_more coupled periods n (draw_items coupled periods n g).0 (draw_item coupled periods (suc n) (draw_items coupled periods n g).1).0 (all_drawn coupled periods n g) (item_drawn coupled periods (suc n) (draw_items coupled periods n g).1)
