-- What is drawn, one number or item more at a time.
use Rattle.std.proofs.Common.{◌≡◌, ◌∙◌, ◌+◌, ◌++◌, ℕ, suc, List, [], ◌∷◌, Bool, refl, sym, ap, ap₂, arith}
use Rattle.toml.specs.Data.{Members, push_item, table}
use Rattle.toml.specs.View.{items_view, view}
use Rattle.toml.specs.declared.value.Value.{Value}
use Rattle.toml.proofs.Views.{items_view-push}
use Rattle.rand_pcg.specs.Lcg.{Lcg}
use Rattle.instance_reader.specs.Written.{tables_of}
use Rattle.report.specs.Draws.{Drawn, draw_item, draw_items, pick, picks}
use Rattle.report.proofs.GeneratedTables.{tables-last}

picks_more : (a b n m : ℕ) (g : Lcg) → m ≡ n + 1 → picks a b m g ≡ ((picks a b n g).0 ++ ((pick a b (picks a b n g).1).0 ∷ []), (pick a b (picks a b n g).1).1)
picks_more a b n m g e = let s : m ≡ suc n = omega (arith, e) in rw s refl

items_more : (coupled : Bool) (periods n m : ℕ) (g : Lcg) → m ≡ n + 1 → draw_items coupled periods m g ≡ ((draw_items coupled periods n g).0 ++ ((draw_item coupled periods m (draw_items coupled periods n g).1).0 ∷ []), (draw_item coupled periods m (draw_items coupled periods n g).1).1)
items_more coupled periods n m g e = let s : m ≡ suc n = omega (arith, e) in rw s refl

abbrev numbers_and : List ℕ → Lcg → List ℕ × Lcg
numbers_and xs g = (xs, g)

-- one number more
pub picks_step : (a b n : ℕ) (g old new : Lcg) (xs ys : List ℕ) (x : ℕ) → (xs, old) ≡ picks a b n g → (x, new) ≡ pick a b old → ys ≡ xs ++ x ∷ [] → (ys, new) ≡ picks a b (n + 1) g
picks_step a b n g old new xs ys x before is grown =
    let done = (picks a b n g).0 in
    let xs_is : xs ≡ done = ap (λ p. p.0) before in
    let old_is : old ≡ (picks a b n g).1 = ap (λ p. p.1) before in
    let step = is ∙ ap (pick a b) old_is in
    let x_is : x ≡ (pick a b (picks a b n g).1).0 = ap (λ p. p.0) step in
    let new_is : new ≡ (pick a b (picks a b n g).1).1 = ap (λ p. p.1) step in
    let list = grown ∙ ap (λ l. l ++ x ∷ []) xs_is ∙ ap (λ y. done ++ y ∷ []) x_is in
    ap₂ numbers_and list new_is ∙ sym (picks_more a b n (n + 1) g refl)

-- one item more
pub items_step : (f : Drawn → Members) (coupled : Bool) (periods n : ℕ) (g old new : Lcg) (xs ys : List Value) (d : Drawn) (v : Value)
    → items_view xs ≡ tables_of f (draw_items coupled periods n g).0
    → old ≡ (draw_items coupled periods n g).1
    → (d, new) ≡ draw_item coupled periods (n + 1) old
    → view v ≡ table (f d)
    → ys ≡ xs ++ v ∷ []
    → (items_view ys ≡ tables_of f (draw_items coupled periods (n + 1) g).0) × (new ≡ (draw_items coupled periods (n + 1) g).1)
items_step f coupled periods n g old new xs ys d v list old_is is value grown =
    let done = (draw_items coupled periods n g).0 in
    let more = items_more coupled periods n (n + 1) g refl in
    let step = is ∙ ap (draw_item coupled periods (n + 1)) old_is in
    let d_is : d ≡ (draw_item coupled periods (n + 1) (draw_items coupled periods n g).1).0 = ap (λ p. p.0) step in
    let new_is : new ≡ (draw_item coupled periods (n + 1) (draw_items coupled periods n g).1).1 = ap (λ p. p.1) step in (
      ap items_view grown
          ∙ items_view-push xs v
          ∙ ap₂ push_item list value
          ∙ sym (tables-last f done d)
          ∙ ap (λ y. tables_of f (done ++ y ∷ [])) d_is
          ∙ ap (λ p. tables_of f p.0) (sym more),
      new_is ∙ ap (λ p. p.1) (sym more),
    )
