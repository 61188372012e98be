-- What a text needs next, as a program keeps it.
use Rattle.std.specs.Prelude.{◌≡◌, ◌≤◌, ◌<◌, ◌+◌, ℕ, Bool, true, false, List, [], ◌∷◌, ◌++◌, replicate}
use Rattle.cert_lines.specs.declared.limits.TheConstants.{MAX_BRANCHES}
use Rattle.certificate.specs.declared.dues.Dues.{Dues}
use Rattle.certificate.specs.Dues.{Due, a_cut, a_group, a_list, a_part, a_tree, the_end}

-- trees with so many branches above each, the last one first, and then the rest
abbrev pub trees_before : List ℕ → List Due → List Due
trees_before [] rest = rest
trees_before (above ∷ trees) rest = trees_before trees (a_tree above ∷ rest)

abbrev pub last_dues : Bool → List Due
last_dues true = the_end ∷ []
last_dues false = []

abbrev pub dues_in : Dues → List Due
dues_in n = replicate n.parts a_part ++ (replicate n.lists a_list ++ (replicate n.groups a_group ++ (replicate n.cuts a_cut ++ trees_before n.trees.items (last_dues n.end))))

-- in place of the first need, a tree that may be split, both of its sides are needed
abbrev pub SplitsTree : Dues → Dues → Type 0
SplitsTree old new =
    (above : ℕ) × (rest : List Due) × (dues_in old ≡ a_tree above ∷ rest) × (above < MAX_BRANCHES) × (dues_in new ≡ a_tree (above + 1) ∷ a_tree (above + 1) ∷ rest)

-- the first need is a tree with too many branches above it
abbrev pub HasDeepTree : Dues → Type 0
HasDeepTree n = (above : ℕ) × (rest : List Due) × (dues_in n ≡ a_tree above ∷ rest) × (MAX_BRANCHES ≤ above)

-- the first need is a tree, and what comes after it is still needed
abbrev pub EndsTree : Dues → Dues → Type 0
EndsTree old new = (above : ℕ) × (dues_in old ≡ a_tree above ∷ dues_in new)
