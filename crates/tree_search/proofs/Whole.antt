-- The volume and the height of a whole problem.
use Rattle.std.proofs.Common.{◌≡◌, ◌+◌, ◌-◌, ◌*◌, ◌∙◌, ℕ, zero, suc, refl, sym, ap, arith, List, [], ◌∷◌, ◌++◌, replicate}
use Rattle.lot_sizing.specs.Sums.{sum_to}
use Rattle.lot_sizing.proofs.Sums.{sum_to-add, sum_to-same}
use Rattle.tree_search.specs.declared.node.Range.{Range}
use Rattle.tree_search.specs.Ranges.{digits, height, volume, width}
use Rattle.tree_search.specs.Whole.{WholeIsMeasured, item_ranges, product_to, up_to, whole_height, whole_volume}

volume-append : (xs ys : List Range) → volume (xs ++ ys) ≡ volume xs * volume ys
volume-append [] ys = omega arith
volume-append (x ∷ xs) ys = omega (arith, ap (λ v. (width x + 1) * v) (volume-append xs ys))

height-append : (xs ys : List Range) → height (xs ++ ys) ≡ height xs + height ys
height-append [] ys = omega arith
height-append (x ∷ xs) ys = omega (arith, height-append xs ys)

four : (a b c d : ℕ) → a * b * (c * d) ≡ a * c * (b * d)
four a b c d = omega arith

product_to-times : (n : ℕ) (f g : ℕ → ℕ) → product_to n (λ k. f k * g k) ≡ product_to n f * product_to n g
product_to-times zero f g = refl
product_to-times (suc n) f g = ap (λ x. x * (f (suc n) * g (suc n))) (product_to-times n f g) ∙ four (product_to n f) (product_to n g) (f (suc n)) (g (suc n))

product_to-same : (n : ℕ) (f g : ℕ → ℕ) → ((k : ℕ) → f k ≡ g k) → product_to n f ≡ product_to n g
product_to-same zero f g h = refl
product_to-same (suc n) f g h = ap (λ x. x * f (suc n)) (product_to-same n f g h) ∙ ap (λ x. product_to n g * x) (h (suc n))

product-last : (n a : ℕ) → a * product_to n (λ t. a) ≡ product_to n (λ t. a) * a
product-last n a = omega arith

volume-replicate : (n : ℕ) (r : Range) → volume (replicate n r) ≡ product_to n (λ t. width r + 1)
volume-replicate zero r = refl
volume-replicate (suc n) r = ap (λ x. (width r + 1) * x) (volume-replicate n r) ∙ product-last n (width r + 1)

height-replicate : (n : ℕ) (r : Range) → height (replicate n r) ≡ sum_to n (λ t. digits (width r))
height-replicate zero r = refl
height-replicate (suc n) r = omega (arith, height-replicate n r)

volume-up_to : (n a : ℕ) → volume (replicate n (up_to a)) ≡ product_to n (λ t. a + 1)
volume-up_to n a = volume-replicate n (up_to a) ∙ product_to-same n (λ t. width (up_to a) + 1) (λ t. a + 1) (λ t. omega arith)

no_less : (a : ℕ) → a - 0 ≡ a
no_less a = omega arith

height-up_to : (n a : ℕ) → height (replicate n (up_to a)) ≡ sum_to n (λ t. digits a)
height-up_to n a = height-replicate n (up_to a) ∙ sum_to-same n (λ t. digits (width (up_to a))) (λ t. digits a) (λ t _ _. ap digits (no_less a))

item_volume : (items periods : ℕ) (f : ℕ → ℕ) → volume (item_ranges items periods f) ≡ product_to items (λ i. product_to periods (λ t. f i + 1))
item_volume zero periods f = refl
item_volume (suc i) periods f =
    volume-append (item_ranges i periods f) (replicate periods (up_to (f (suc i))))
    ∙ (ap (λ x. x * volume (replicate periods (up_to (f (suc i))))) (item_volume i periods f)
    ∙ ap (λ x. product_to i (λ j. product_to periods (λ t. f j + 1)) * x) (volume-up_to periods (f (suc i))))

item_height : (items periods : ℕ) (f : ℕ → ℕ) → height (item_ranges items periods f) ≡ sum_to items (λ i. sum_to periods (λ t. digits (f i)))
item_height zero periods f = refl
item_height (suc i) periods f =
    height-append (item_ranges i periods f) (replicate periods (up_to (f (suc i))))
    ∙ (ap (λ x. x + height (replicate periods (up_to (f (suc i))))) (item_height i periods f)
    ∙ ap (λ x. sum_to i (λ j. sum_to periods (λ t. digits (f j))) + x) (height-up_to periods (f (suc i))))

two_times : (a : ℕ) → 2 * (a + 1) ≡ (a + 1) * 2
two_times a = omega arith

both_volumes : (items periods : ℕ) (total : ℕ → ℕ) → whole_volume items periods total ≡ product_to items (λ i. product_to periods (λ t. total i + 1)) * product_to items (λ i. product_to periods (λ t. 1 + 1))
both_volumes items periods total =
    product_to-same items (λ i. product_to periods (λ t. 2 * (total i + 1))) (λ i. product_to periods (λ t. total i + 1) * product_to periods (λ t. 1 + 1))
    (λ i. product_to-same periods (λ t. 2 * (total i + 1)) (λ t. (total i + 1) * (1 + 1)) (λ t. two_times (total i)) ∙ product_to-times periods (λ t. total i + 1) (λ t. 1 + 1))
    ∙ product_to-times items (λ i. product_to periods (λ t. total i + 1)) (λ i. product_to periods (λ t. 1 + 1))

both_heights : (items periods : ℕ) (total : ℕ → ℕ) → whole_height items periods total ≡ sum_to items (λ i. sum_to periods (λ t. digits (total i))) + sum_to items (λ i. sum_to periods (λ t. digits 1))
both_heights items periods total =
    sum_to-same items (λ i. sum_to periods (λ t. 1 + digits (total i))) (λ i. sum_to periods (λ t. digits (total i)) + sum_to periods (λ t. digits 1))
    (λ i low high. sum_to-same periods (λ t. 1 + digits (total i)) (λ t. digits (total i) + digits 1) (λ t _ _. omega arith) ∙ sum_to-add periods (λ t. digits (total i)) (λ t. digits 1))
    ∙ sum_to-add items (λ i. sum_to periods (λ t. digits (total i))) (λ i. sum_to periods (λ t. digits 1))

pub whole_is_measured : WholeIsMeasured
whole_is_measured items periods total = (
  volume-append (item_ranges items periods total) (item_ranges items periods (λ _. 1))
      ∙ (ap (λ x. x * volume (item_ranges items periods (λ _. 1))) (item_volume items periods total)
      ∙ (ap (λ x. product_to items (λ i. product_to periods (λ t. total i + 1)) * x) (item_volume items periods (λ _. 1))
      ∙ sym (both_volumes items periods total))),
  height-append (item_ranges items periods total) (item_ranges items periods (λ _. 1))
      ∙ (ap (λ x. x + height (item_ranges items periods (λ _. 1))) (item_height items periods total)
      ∙ (ap (λ x. sum_to items (λ i. sum_to periods (λ t. digits (total i))) + x) (item_height items periods (λ _. 1))
      ∙ sym (both_heights items periods total))),
)
