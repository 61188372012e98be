-- Tables and arrays as they grow.
use Rattle.std.proofs.Common.{◌≡◌, ◌∙◌, ℕ, List, [], ◌∷◌, ◌++◌, refl, ap}
use Rattle.toml.specs.Data.{Members, item, push_item, table}
use Rattle.instance_reader.specs.Written.{number, numbers, tables_of}

pub numbers-last : (ns : List ℕ) (n : ℕ) → numbers (ns ++ n ∷ []) ≡ push_item (numbers ns) (number n)
numbers-last [] n = refl
numbers-last (m ∷ ns) n = ap (item (number m)) (numbers-last ns n)

-- one table more
pub tables-last : {A : Type 0} (f : A → Members) (xs : List A) (x : A) → tables_of f (xs ++ x ∷ []) ≡ push_item (tables_of f xs) (table (f x))
tables-last f [] x = refl
tables-last f (y ∷ xs) x = ap (item (table (f y))) (tables-last f xs x)
