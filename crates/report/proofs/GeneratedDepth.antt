-- Tables of generated models are no deeper than the reader's limit.
use Rattle.std.proofs.Common.{◌≤◌, ℕ, suc, arith, List, [], ◌∷◌, Option, Some, None, Ordering, Less, Equal, Greater, Bool}
use Rattle.std.specs.Prelude.{IfSome, option_map}
use Rattle.std.specs.Ordering.{nat_cmp, match_ordering}
use Rattle.std.specs.Cmp.Lexicographic.{slice_cmp}
use Rattle.toml.specs.Data.{Data, Members, no_members, member, array, string, depth, items_depth, members_depth}
use Rattle.lot_sizing.specs.declared.Need.{Need}
use Rattle.lot_sizing.specs.declared.Usage.{Usage}
use Rattle.lot_draft.specs.declared.fault.Key.{Key}
use Rattle.lot_draft.specs.declared.fault.Key.TheVariants as key
use Rattle.instance_reader.specs.Written.{number, number_list, numbers, some_tables, tables_of, with_key, with_member, with_some}
use Rattle.instance_reader.specs.declared.versions.TheConstants.{FIRST_VERSION}
use Rattle.report.specs.Draws.{Drawn}
use Rattle.report.specs.Generated.{capacities, item_name, item_table, need_table, needs_of, resource_name, resource_table, table_with, use_table, uses_of}

matched : (b : ℕ) (o : Ordering) (x y z : Members) → members_depth x ≤ b → members_depth y ≤ b → members_depth z ≤ b → members_depth (match_ordering o x y z) ≤ b
matched b Less x y z h i j = h
matched b Equal x y z h i j = i
matched b Greater x y z h i j = j

with_depth : (b : ℕ) (k : List ℕ) (d : Data) (ms : Members) → depth d ≤ b → members_depth ms ≤ b → members_depth (with_member k d ms) ≤ b
with_depth b k d no_members h i = omega (arith, h)
with_depth b k d (member l e ms) h i =
    let first : depth e ≤ b = omega (arith, i) in
    let rest : members_depth ms ≤ b = omega (arith, i) in
    matched b (slice_cmp nat_cmp k l) (member k d (member l e ms)) (member l d ms) (member l e (with_member k d ms)) (omega (arith, h, i)) (omega (arith, h, rest)) (omega (arith, first, with_depth b k d ms h rest))

key_depth : (b : ℕ) (k : Key) (d : Data) (ms : Members) → depth d ≤ b → members_depth ms ≤ b → members_depth (with_key k d ms) ≤ b
key_depth b k d ms h i = with_depth b _ d ms h i

some_depth : (b : ℕ) (k : Key) (o : Option Data) (ms : Members) → IfSome o (λ d. depth d ≤ b) → members_depth ms ≤ b → members_depth (with_some k o ms) ≤ b
some_depth b k None ms h i = i
some_depth b k (Some d) ms h i = key_depth b k d ms h i

no_depth : (ns : List ℕ) → items_depth (numbers ns) ≤ 0
no_depth [] = omega arith
no_depth (n ∷ ns) = omega (arith, no_depth ns)

list_depth : (ns : List ℕ) → depth (number_list ns) ≤ 1
list_depth ns = omega (arith, no_depth ns)

tables_depth : {A : Type 0} (b : ℕ) (f : A → Members) (xs : List A) → ((x : A) → members_depth (f x) ≤ b) → items_depth (tables_of f xs) ≤ suc b
tables_depth b f [] h = omega arith
tables_depth b f (x ∷ xs) h = omega (arith, h x, tables_depth b f xs h)

some_tables_depth : {A : Type 0} (b : ℕ) (f : A → Members) (xs : List A) → ((x : A) → members_depth (f x) ≤ b) → IfSome (some_tables f xs) (λ d. depth d ≤ suc (suc b))
some_tables_depth b f [] h = tt
some_tables_depth b f (x ∷ xs) h = omega (arith, tables_depth b f (x ∷ xs) h)

number_some : (o : Option ℕ) → IfSome (option_map number o) (λ d. depth d ≤ 3)
number_some None = tt
number_some (Some n) = omega arith

need_depth : (need : Need) → members_depth (need_table need) ≤ 1
need_depth need =
    let t1 = with_key key.Item (string (item_name need.item)) no_members in
    let h1 : members_depth t1 ≤ 1 = key_depth 1 key.Item (string (item_name need.item)) no_members (omega arith) (omega arith) in
    key_depth 1 key.Quantity (number need.quantity) t1 (omega arith) h1

use_depth : (usage : Usage) → members_depth (use_table usage) ≤ 1
use_depth usage =
    let t1 = with_key key.Resource (string resource_name) no_members in
    let h1 : members_depth t1 ≤ 1 = key_depth 1 key.Resource (string resource_name) no_members (omega arith) (omega arith) in
    let t2 = with_key key.Unit (number usage.unit) t1 in
    let h2 : members_depth t2 ≤ 1 = key_depth 1 key.Unit (number usage.unit) t1 (omega arith) h1 in
    key_depth 1 key.Setup (number usage.setup) t2 (omega arith) h2

resource_depth : (capacity : ℕ) → members_depth (resource_table capacity) ≤ 1
resource_depth capacity =
    let t1 = with_key key.Name (string resource_name) no_members in
    let h1 : members_depth t1 ≤ 1 = key_depth 1 key.Name (string resource_name) no_members (omega arith) (omega arith) in
    key_depth 1 key.Capacity (number capacity) t1 (omega arith) h1

item_depth : (coupled : Bool) (items : ℕ) (d : Drawn) → members_depth (item_table coupled items d) ≤ 3
item_depth coupled items d =
    let t1 = with_key key.Name (string (item_name d.number)) no_members in
    let h1 : members_depth t1 ≤ 3 = key_depth 3 key.Name (string (item_name d.number)) no_members (omega arith) (omega arith) in
    let t2 = with_key key.Demand (number_list d.demand) t1 in
    let h2 : members_depth t2 ≤ 3 = key_depth 3 key.Demand (number_list d.demand) t1 (omega (arith, list_depth d.demand)) h1 in
    let t3 = with_key key.SetupCost (number_list d.setup_cost) t2 in
    let h3 : members_depth t3 ≤ 3 = key_depth 3 key.SetupCost (number_list d.setup_cost) t2 (omega (arith, list_depth d.setup_cost)) h2 in
    let t4 = with_key key.HoldCost (number d.hold_cost) t3 in
    let h4 : members_depth t4 ≤ 3 = key_depth 3 key.HoldCost (number d.hold_cost) t3 (omega arith) h3 in
    let t5 = with_some key.BacklogCost (option_map number d.backlog_cost) t4 in
    let h5 : members_depth t5 ≤ 3 = some_depth 3 key.BacklogCost (option_map number d.backlog_cost) t4 (number_some d.backlog_cost) h4 in
    let t6 = with_some key.Needs (some_tables need_table (needs_of coupled items d.number)) t5 in
    let h6 : members_depth t6 ≤ 3 = some_depth 3 key.Needs (some_tables need_table (needs_of coupled items d.number)) t5 (some_tables_depth 1 need_table (needs_of coupled items d.number) need_depth) h5 in
    some_depth 3 key.Uses (some_tables use_table (uses_of coupled)) t6 (some_tables_depth 1 use_table (uses_of coupled) use_depth) h6

resources_depth : (rs : List ℕ) → IfSome (some_tables resource_table rs) (λ d. depth d ≤ 5)
resources_depth [] = tt
resources_depth (r ∷ rs) = omega (arith, tables_depth 1 resource_table (r ∷ rs) resource_depth)

pub model_depth : (coupled : Bool) (items periods : ℕ) (ds : List Drawn) → members_depth (table_with coupled items periods ds) ≤ 80
model_depth coupled items periods ds =
    let t1 = with_key key.Version (number FIRST_VERSION) no_members in
    let h1 : members_depth t1 ≤ 5 = key_depth 5 key.Version (number FIRST_VERSION) no_members (omega arith) (omega arith) in
    let t2 = with_key key.Periods (number periods) t1 in
    let h2 : members_depth t2 ≤ 5 = key_depth 5 key.Periods (number periods) t1 (omega arith) h1 in
    let list = array (tables_of (item_table coupled items) ds) in
    let t3 = with_key key.Item list t2 in
    let h3 : members_depth t3 ≤ 5 = key_depth 5 key.Item list t2 (omega (arith, tables_depth 3 (item_table coupled items) ds (item_depth coupled items))) h2 in
    let small : members_depth (table_with coupled items periods ds) ≤ 5 = some_depth 5 key.Resource (some_tables resource_table (capacities coupled items)) t3 (resources_depth (capacities coupled items)) h3 in
    omega (arith, small)
