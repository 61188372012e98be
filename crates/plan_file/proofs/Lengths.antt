-- How long the text of a plan is at most.
use Rattle.std.proofs.Common.{◌≡◌, ◌≤◌, ◌+◌, ◌*◌, ℕ, zero, suc, List, ◌++◌, decimal, length, arith}
use Rattle.std.specs.Prelude.{codes}
use Rattle.std.proofs.Math.Nat.{mul-le-mul, mul-le-mul_right}
use Rattle.std.proofs.lemmas.List.{length-append}
use Rattle.lot_sizing.specs.Problem.{IsName, IsWithinLimits, Problem, item_at, item_count}
use Rattle.lot_sizing.specs.Plan.{EachCell, Plan}
use Rattle.lot_sizing.specs.Texts.{item_records, join_to, plan_header, plan_record}
use Rattle.lot_sizing.specs.declared.limits.TheConstants.{MAX_ITEMS, MAX_NAME, MAX_PERIODS}
use Rattle.csv_records.proofs.Names.{name_short}
use Rattle.csv_records.proofs.Numbers.{number_short}
use Rattle.plan_file.specs.Written.{FitIn64}
use Rattle.plan_file.specs.Laws.{PlanTextsAreShort}

-- a name, five numbers, five commas and a line feed
abbrev longest_record : ℕ
longest_record = MAX_NAME + 5 * 20 + 6

fields_size : (a b c d e f : List ℕ) → length (a ++ (codes "," ++ (b ++ (codes "," ++ (c ++ (codes "," ++ (d ++ (codes "," ++ (e ++ (codes "," ++ (f ++ codes "\n"))))))))))) ≡ length a + length b + length c + length d + length e + length f + 6
fields_size a b c d e f = simp length-append (omega arith)

record_short : (m : Problem) (p : Plan) (i t : ℕ) → IsName (item_at m i).name → t ≤ MAX_PERIODS → FitIn64 p i t → length (plan_record m p i t) ≤ longest_record
record_short m p i t name period fits =
    omega (arith, fields_size (item_at m i).name (decimal t) (decimal (p.make i t)) (decimal (p.setup i t)) (decimal (p.stock i t)) (decimal (p.backlog i t)), name_short (item_at m i).name name, number_short t (omega (arith, period)), number_short (p.make i t) fits.make, number_short (p.setup i t) fits.setup, number_short (p.stock i t) fits.stock, number_short (p.backlog i t) fits.backlog)

-- so many texts, each at most so long
joined_short : (n most : ℕ) (g : ℕ → List ℕ) → ((k : ℕ) → 1 ≤ k → k ≤ n → length (g k) ≤ most) → length (join_to n g) ≤ n * most
joined_short zero most g each = omega arith
joined_short (suc n) most g each =
    omega (arith, length-append (join_to n g) (g (suc n)), joined_short n most g (λ k low high. each k low (omega (arith, high))), each (suc n) (omega arith) (omega arith))

item_short : (m : Problem) (p : Plan) (i : ℕ) → IsWithinLimits m → EachCell m (FitIn64 p) → 1 ≤ i → i ≤ item_count m → length (item_records m p i) ≤ m.periods * longest_record
item_short m p i within fits low high =
    joined_short m.periods longest_record (plan_record m p i) (λ t t_low t_high. record_short m p i t (within.each_item i low high).name (omega (arith, t_high, within.periods)) (fits i t low high t_low t_high))

pub texts_are_short : PlanTextsAreShort
texts_are_short m p within fits =
    let periods : m.periods * longest_record ≤ MAX_PERIODS * longest_record = mul-le-mul_right longest_record within.periods in
    let all : item_count m * (m.periods * longest_record) ≤ MAX_ITEMS * (MAX_PERIODS * longest_record) = mul-le-mul within.items periods in
    omega (arith, length-append plan_header (join_to (item_count m) (item_records m p)), joined_short (item_count m) (m.periods * longest_record) (item_records m p) (λ i low high. item_short m p i within fits low high), all)
