-- Tables of problems are no deeper than the reader's limit.
use Rattle.std.proofs.Common.{◌≡◌, ◌≤◌, ◌<◌, ℕ, suc, refl, arith, List, [], ◌∷◌, Option, Some, None, Ordering, Less, Equal, Greater, max}
use Rattle.std.specs.Prelude.{IfSome, option_map}
use Rattle.std.specs.Ordering.{nat_cmp, match_ordering}
use Rattle.std.specs.Cmp.Lexicographic.{slice_cmp}
use Rattle.toml.specs.Data.{Data, Members, no_members, member, array, string, depth, items_depth, members_depth}
use Rattle.lot_sizing.specs.declared.Need.{Need}
use Rattle.lot_sizing.specs.declared.Usage.{Usage}
use Rattle.lot_sizing.specs.Problem.{Item, Problem, Resource, item_at, resource_at}
use Rattle.instance_reader.specs.declared.versions.TheConstants.{NEWEST_VERSION}
use Rattle.lot_draft.specs.declared.fault.Key.{Key}
use Rattle.lot_draft.specs.declared.fault.Key.TheVariants as key
use Rattle.instance_reader.specs.Written.{item_table, model_table, need_table, number, number_list, numbers, plain_table, resource_table, some_tables, tables_of, use_table, with_key, with_member, with_some}

matched : (b : ℕ) (o : Ordering) (x y z : Members) → members_depth x ≤ b → members_depth y ≤ b → members_depth z ≤ b → members_depth (match_ordering o x y z) ≤ b
matched b Less x y z h i j = h
matched b Equal x y z h i j = i
matched b Greater x y z h i j = j

with_depth : (b : ℕ) (k : List ℕ) (d : Data) (ms : Members) → depth d ≤ b → members_depth ms ≤ b → members_depth (with_member k d ms) ≤ b
with_depth b k d no_members h i = omega (arith, h)
with_depth b k d (member l e ms) h i =
    let first : depth e ≤ b = omega (arith, i) in
    let rest : members_depth ms ≤ b = omega (arith, i) in
    matched b (slice_cmp nat_cmp k l) (member k d (member l e ms)) (member l d ms) (member l e (with_member k d ms)) (omega (arith, h, i)) (omega (arith, h, rest)) (omega (arith, first, with_depth b k d ms h rest))

key_depth : (b : ℕ) (k : Key) (d : Data) (ms : Members) → depth d ≤ b → members_depth ms ≤ b → members_depth (with_key k d ms) ≤ b
key_depth b k d ms h i = with_depth b _ d ms h i

some_depth : (b : ℕ) (k : Key) (o : Option Data) (ms : Members) → IfSome o (λ d. depth d ≤ b) → members_depth ms ≤ b → members_depth (with_some k o ms) ≤ b
some_depth b k None ms h i = i
some_depth b k (Some d) ms h i = key_depth b k d ms h i

no_depth : (ns : List ℕ) → items_depth (numbers ns) ≡ 0
no_depth [] = refl
no_depth (n ∷ ns) = omega (arith, no_depth ns)

list_depth : (ns : List ℕ) → depth (number_list ns) ≤ 1
list_depth ns = omega (arith, no_depth ns)

tables_depth : {A : Type 0} (b : ℕ) (f : A → Members) (xs : List A) → ((x : A) → members_depth (f x) ≤ b) → items_depth (tables_of f xs) ≤ suc b
tables_depth b f [] h = omega arith
tables_depth b f (x ∷ xs) h = omega (arith, h x, tables_depth b f xs h)

some_tables_depth : {A : Type 0} (b : ℕ) (f : A → Members) (xs : List A) → ((x : A) → members_depth (f x) ≤ b) → IfSome (some_tables f xs) (λ d. depth d ≤ suc (suc b))
some_tables_depth b f [] h = tt
some_tables_depth b f (x ∷ xs) h = omega (arith, tables_depth b f (x ∷ xs) h)

number_some : (o : Option ℕ) → IfSome (option_map number o) (λ d. depth d ≤ 3)
number_some None = tt
number_some (Some n) = omega arith

list_some : (o : Option (List ℕ)) → IfSome (option_map number_list o) (λ d. depth d ≤ 3)
list_some None = tt
list_some (Some ns) = omega (arith, list_depth ns)

need_depth : (p : Problem) (need : Need) → members_depth (need_table p need) ≤ 1
need_depth p need =
    let t1 = with_key key.Item (string (item_at p need.item).name) no_members in
    let h1 : members_depth t1 ≤ 1 = key_depth 1 key.Item (string (item_at p need.item).name) no_members (omega arith) (omega arith) in
    let t2 = with_key key.Quantity (number need.quantity) t1 in
    let h2 : members_depth t2 ≤ 1 = key_depth 1 key.Quantity (number need.quantity) t1 (omega arith) h1 in
    h2

use_depth : (p : Problem) (usage : Usage) → members_depth (use_table p usage) ≤ 1
use_depth p usage =
    let t1 = with_key key.Resource (string (resource_at p usage.resource).name) no_members in
    let h1 : members_depth t1 ≤ 1 = key_depth 1 key.Resource (string (resource_at p usage.resource).name) no_members (omega arith) (omega arith) in
    let t2 = with_key key.Unit (number usage.unit) t1 in
    let h2 : members_depth t2 ≤ 1 = key_depth 1 key.Unit (number usage.unit) t1 (omega arith) h1 in
    let t3 = with_key key.Setup (number usage.setup) t2 in
    let h3 : members_depth t3 ≤ 1 = key_depth 1 key.Setup (number usage.setup) t2 (omega arith) h2 in
    h3

resource_depth : (r : Resource) → members_depth (resource_table r) ≤ 1
resource_depth r =
    let t1 = with_key key.Name (string r.name) no_members in
    let h1 : members_depth t1 ≤ 1 = key_depth 1 key.Name (string r.name) no_members (omega arith) (omega arith) in
    let t2 = with_key key.Capacity (number_list r.capacity) t1 in
    let h2 : members_depth t2 ≤ 1 = key_depth 1 key.Capacity (number_list r.capacity) t1 (list_depth r.capacity) h1 in
    h2

plain_depth : (a : Item) → members_depth (plain_table a) ≤ 3
plain_depth a =
    let t1 = with_key key.Name (string a.name) no_members in
    let h1 : members_depth t1 ≤ 3 = key_depth 3 key.Name (string a.name) no_members (omega arith) (omega arith) in
    let t2 = with_key key.Demand (number_list a.demand) t1 in
    let h2 : members_depth t2 ≤ 3 = key_depth 3 key.Demand (number_list a.demand) t1 (omega (arith, list_depth a.demand)) h1 in
    let t3 = with_key key.UnitCost (number_list a.unit_cost) t2 in
    let h3 : members_depth t3 ≤ 3 = key_depth 3 key.UnitCost (number_list a.unit_cost) t2 (omega (arith, list_depth a.unit_cost)) h2 in
    let t4 = with_key key.SetupCost (number_list a.setup_cost) t3 in
    let h4 : members_depth t4 ≤ 3 = key_depth 3 key.SetupCost (number_list a.setup_cost) t3 (omega (arith, list_depth a.setup_cost)) h3 in
    let t5 = with_key key.HoldCost (number_list a.hold_cost) t4 in
    let h5 : members_depth t5 ≤ 3 = key_depth 3 key.HoldCost (number_list a.hold_cost) t4 (omega (arith, list_depth a.hold_cost)) h4 in
    let t6 = with_key key.Opening (number a.opening) t5 in
    let h6 : members_depth t6 ≤ 3 = key_depth 3 key.Opening (number a.opening) t5 (omega arith) h5 in
    let t7 = with_key key.EndMin (number a.end_min) t6 in
    let h7 : members_depth t7 ≤ 3 = key_depth 3 key.EndMin (number a.end_min) t6 (omega arith) h6 in
    let t8 = with_key key.EndMax (number a.end_max) t7 in
    let h8 : members_depth t8 ≤ 3 = key_depth 3 key.EndMax (number a.end_max) t7 (omega arith) h7 in
    let t9 = with_key key.Lead (number a.lead) t8 in
    let h9 : members_depth t9 ≤ 3 = key_depth 3 key.Lead (number a.lead) t8 (omega arith) h8 in
    let t10 = with_key key.MinLot (number a.min_lot) t9 in
    let h10 : members_depth t10 ≤ 3 = key_depth 3 key.MinLot (number a.min_lot) t9 (omega arith) h9 in
    h10

item_depth : (p : Problem) (a : Item) → members_depth (item_table p a) ≤ 3
item_depth p a =
    let t1 = with_some key.BacklogCost (option_map number_list a.backlog_cost) (plain_table a) in
    let h1 : members_depth t1 ≤ 3 = some_depth 3 key.BacklogCost (option_map number_list a.backlog_cost) (plain_table a) (list_some a.backlog_cost) (plain_depth a) in
    let t2 = with_some key.MaxLot (option_map number a.max_lot) t1 in
    let h2 : members_depth t2 ≤ 3 = some_depth 3 key.MaxLot (option_map number a.max_lot) t1 (number_some a.max_lot) h1 in
    let t3 = with_some key.Needs (some_tables (need_table p) a.needs) t2 in
    let h3 : members_depth t3 ≤ 3 = some_depth 3 key.Needs (some_tables (need_table p) a.needs) t2 (some_tables_depth 1 (need_table p) a.needs (need_depth p)) h2 in
    some_depth 3 key.Uses (some_tables (use_table p) a.uses) t3 (some_tables_depth 1 (use_table p) a.uses (use_depth p)) h3

resources_depth : (rs : List Resource) → IfSome (some_tables resource_table rs) (λ d. depth d ≤ 5)
resources_depth [] = tt
resources_depth (r ∷ rs) = omega (arith, tables_depth 1 resource_table (r ∷ rs) resource_depth)

pub model_depth : (p : Problem) → members_depth (model_table p) ≤ 80
model_depth p =
    let t1 = with_key key.Version (number NEWEST_VERSION) no_members in
    let h1 : members_depth t1 ≤ 5 = key_depth 5 key.Version (number NEWEST_VERSION) no_members (omega arith) (omega arith) in
    let t2 = with_key key.Periods (number p.periods) t1 in
    let h2 : members_depth t2 ≤ 5 = key_depth 5 key.Periods (number p.periods) t1 (omega arith) h1 in
    let items = array (tables_of (item_table p) p.items) in
    let t3 = with_key key.Item items t2 in
    let h3 : members_depth t3 ≤ 5 = key_depth 5 key.Item items t2 (omega (arith, tables_depth 3 (item_table p) p.items (item_depth p))) h2 in
    let small : members_depth (model_table p) ≤ 5 = some_depth 5 key.Resource (some_tables resource_table p.resources) t3 (resources_depth p.resources) h3 in
    omega (arith, small)
