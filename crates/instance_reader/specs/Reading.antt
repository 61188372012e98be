-- What is read from a value, or the fault where it is absent or of another kind.
use Rattle.std.specs.Prelude.{◌≡◌, ℕ, suc, ℤ, pos, List, [], ◌∷◌, replicate, Option, Some, None, Result, Ok, Err, ⊤}
use Rattle.toml.specs.Data.{Data, Items, item, no_items, Members, as_array, as_integer, as_str}
use Rattle.lot_draft.specs.declared.fault.ModelFault.{ModelFault}
use Rattle.lot_draft.specs.declared.fault.ModelCode.{ModelCode}
use Rattle.lot_draft.specs.declared.fault.ModelCode.TheVariants.{MissingKey, UnknownKey, WrongKind}
use Rattle.lot_draft.specs.declared.fault.Place.{Place}
use Rattle.lot_draft.specs.declared.fault.Key.{Key}
use Rattle.instance_reader.specs.Document.{value_at}
use Rattle.instance_reader.specs.declared.fault.ReadModelFault.{ReadModelFault}
use Rattle.instance_reader.specs.declared.fault.ReadModelFault.TheVariants.{Refused, Memory}

abbrev pub Read : Type 0 → Type 0
Read A = Result A ModelFault

-- the first fault, or what is read at last
abbrev pub then_read : {A B : Type 0} → Read A → (A → Read B) → Read B
then_read (Ok x) next = next x
then_read (Err f) next = Err f

abbrev pub map_read : {A B : Type 0} → (A → B) → Read A → Read B
map_read g (Ok x) = Ok (g x)
map_read g (Err f) = Err f

-- what each element of a list is read as, counted from n
abbrev pub each_read : {A : Type 0} → (ℕ → Data → Read A) → ℕ → Items → Read (List A)
each_read one n no_items = Ok []
each_read one n (item v rest) = then_read (one n v) (λ x. map_read (λ xs. x ∷ xs) (each_read one (suc n) rest))

-- this is why it isn't read, where memory isn't the cause
abbrev pub IsWhyNot : {A : Type 0} → Read A → ReadModelFault → Type 0
IsWhyNot read (Refused f) = read ≡ Err f
IsWhyNot read Memory = ⊤

abbrev pub fault_at : ModelCode → Place → Key → ModelFault
fault_at c p k = record { code = c; place = p; key = Some k; period = None }

abbrev pub unknown_key : Place → ModelFault
unknown_key p = record { code = UnknownKey; place = p; key = None; period = None }

-- an entry of a list that is no whole number
abbrev pub no_number : Place → Key → ℕ → ModelFault
no_number p k t = record { code = WrongKind; place = p; key = Some k; period = Some t }

-- what is there, or else the fault
abbrev pub or_fault : {A : Type 0} → Option A → ModelFault → Read A
or_fault (Some x) f = Ok x
or_fault None f = Err f

-- what a value is read as, and what is read where it is absent
abbrev pub where_absent : {A : Type 0} → Read A → (Data → Read A) → Option Data → Read A
where_absent none some None = none
where_absent none some (Some v) = some v

-- what must be there
abbrev pub needed : {A : Type 0} → Place → Key → (Data → Read A) → Members → Read A
needed p k f t = where_absent (Err (fault_at MissingKey p k)) f (value_at k t)

abbrev pub text : Place → Key → Data → Read (List ℕ)
text p k v = or_fault (as_str v) (fault_at WrongKind p k)

abbrev pub number : Place → Key → Data → Read ℤ
number p k v = or_fault (as_integer v) (fault_at WrongKind p k)

abbrev pub needed_text : Place → Key → Members → Read (List ℕ)
needed_text p k t = needed p k (text p k) t

abbrev pub needed_number : Place → Key → Members → Read ℤ
needed_number p k t = needed p k (number p k) t

abbrev pub number_or_zero : Place → Key → Members → Read ℤ
number_or_zero p k t = where_absent (Ok (pos 0)) (number p k) (value_at k t)

abbrev pub optional_number : Place → Key → Members → Read (Option ℤ)
optional_number p k t = where_absent (Ok None) (λ v. map_read Some (number p k v)) (value_at k t)

-- the entry of a list for a period
abbrev pub entry : Place → Key → ℕ → Data → Read ℤ
entry p k t v = or_fault (as_integer v) (no_number p k t)

-- the entries of a list
abbrev pub entries : Place → Key → Items → Read (List ℤ)
entries p k xs = each_read (entry p k) 1 xs

abbrev pub series_by : ℕ → Place → Key → Option Items → Option ℤ → Read (List ℤ)
series_by periods p k (Some xs) one = entries p k xs
series_by periods p k None (Some x) = Ok (replicate periods x)
series_by periods p k None None = Err (fault_at WrongKind p k)

-- a list, or one number that stands for every period
abbrev pub series : ℕ → Place → Key → Data → Read (List ℤ)
series periods p k v = series_by periods p k (as_array v) (as_integer v)

abbrev pub needed_series : ℕ → Place → Key → Members → Read (List ℤ)
needed_series periods p k t = needed p k (series periods p k) t

abbrev pub series_or_zeros : ℕ → Place → Key → Members → Read (List ℤ)
series_or_zeros periods p k t = where_absent (Ok (replicate periods (pos 0))) (series periods p k) (value_at k t)

abbrev pub optional_series : ℕ → Place → Key → Members → Read (Option (List ℤ))
optional_series periods p k t = where_absent (Ok None) (λ v. map_read Some (series periods p k v)) (value_at k t)
