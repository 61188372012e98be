-- How a broken rule is written.
use Rattle.std.specs.Prelude.{ℕ, List, ◌++◌, codes, decimal}
use Rattle.std.specs.Fmt.{signed_decimal}
use Rattle.plan_rules.specs.declared.broken.Broken.{Broken}
use Rattle.plan_rules.specs.declared.broken.Broken.TheVariants as broken

abbrev pub cell_text : ℕ → ℕ → List ℕ
cell_text i t = codes " item " ++ (decimal i ++ (codes " period " ++ decimal t))

-- the rule's number, and where it is broken
abbrev pub broken_text : Broken → List ℕ
broken_text broken.Shape = codes "broken 1"
broken_text (broken.SetupRange i t) = codes "broken 2" ++ cell_text i t
broken_text (broken.Balance i t left right) = codes "broken 3" ++ (cell_text i t ++ (codes " left " ++ (signed_decimal left ++ (codes " right " ++ signed_decimal right))))
broken_text (broken.SetupMissing i t) = codes "broken 4" ++ cell_text i t
broken_text (broken.Capacity k t used) = codes "broken 5 resource " ++ (decimal k ++ (codes " period " ++ (decimal t ++ (codes " used " ++ decimal used))))
broken_text (broken.EndStock i) = codes "broken 6 item " ++ decimal i
broken_text (broken.BacklogNotAllowed i t) = codes "broken 7" ++ cell_text i t
broken_text (broken.Lot i t) = codes "broken 8" ++ cell_text i t
broken_text (broken.Late i t) = codes "broken 9" ++ cell_text i t
