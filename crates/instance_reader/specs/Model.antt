-- What bytes mean as a model: a problem, or the first rule that they break.
use Rattle.std.specs.Prelude.{◌≡◌, ◌⊎◌, ℕ, ◌-◌, Bool, false, List, Option, Some, None, Result, Ok, Err, is_some, option_and_then, if◌then◌else◌, ⊤}
use Rattle.toml.specs.Data.{Members, as_integer, as_table, at}
use Rattle.lot_sizing.specs.Problem.{Problem}
use Rattle.lot_draft.specs.Raw.{RawModel}
use Rattle.lot_draft.specs.declared.fault.ModelFault.{ModelFault}
use Rattle.lot_draft.specs.declared.fault.ModelCode.TheVariants.{NotToml}
use Rattle.lot_draft.specs.declared.fault.Place.{Place}
use Rattle.lot_draft.specs.declared.fault.Place.TheVariants as place
use Rattle.lot_draft.specs.declared.fault.Key.{Key}
use Rattle.lot_draft.specs.declared.fault.Key.TheVariants as key
use Rattle.lot_model.specs.Meaning.{Means}
use Rattle.instance_reader.specs.Document.{document_of, value_at}
use Rattle.instance_reader.specs.Tables.{model_read}
use Rattle.instance_reader.specs.declared.versions.TheConstants.{FIRST_VERSION, NEWEST_VERSION}
use Rattle.instance_reader.specs.declared.fault.ReadModelFault.{ReadModelFault}
use Rattle.instance_reader.specs.declared.fault.ReadModelFault.TheVariants.{Refused, Memory}

abbrev pub not_toml : ModelFault
not_toml = record { code = NotToml; place = place.Root; key = None; period = None }

-- table n of the array under a key
abbrev pub table_at : Key → ℕ → Members → Option Members
table_at k n t = option_and_then as_table (option_and_then (at (n - 1)) (value_at k t))

-- the table of a resource or an item
abbrev pub table_of : Place → Members → Option Members
table_of (place.Resource k) t = table_at key.Resource k t
table_of (place.Item i) t = table_at key.Item i t
table_of _ t = None

-- one number stands there for a whole list
abbrev pub is_single : Members → Place → Option Key → Bool
is_single t p None = false
is_single t p (Some k) = is_some (option_and_then as_integer (option_and_then (value_at k) (table_of p t)))

-- a fault as its document has it: that of a number which stands for a whole list has no period
abbrev pub fault_in : Members → ModelFault → ModelFault
fault_in t f = if is_single t f.place f.key then record { code = f.code; place = f.place; key = f.key; period = None } else f

-- a rule that the model of a document breaks
pub record IsDraftFault (newest : ℕ) (t : Members) (f : ModelFault) : Type 0 where
  pub model : RawModel
  pub is_read : model_read newest t ≡ Ok model
  pub fault : ModelFault
  pub breaks : Means model (Err fault)
  pub named : f ≡ fault_in t fault

-- the model of a document breaks no rule
pub record IsProblem (newest : ℕ) (t : Members) (p : Problem) : Type 0 where
  pub model : RawModel
  pub is_read : model_read newest t ≡ Ok model
  pub means : Means model (Ok p)

-- what a document means: its model's problem; or the first key that is unknown or absent or of another kind, or the first rule that its model breaks
abbrev pub DocumentMeans : ℕ → Members → Result Problem ModelFault → Type 0
DocumentMeans newest t (Ok p) = IsProblem newest t p
DocumentMeans newest t (Err f) = (model_read newest t ≡ Err f) ⊎ IsDraftFault newest t f

-- what bytes mean where versions are read up to the newest
abbrev pub MeanUpTo : ℕ → List ℕ → Result Problem ModelFault → Type 0
MeanUpTo newest bytes r = ((document_of bytes ≡ None) × (r ≡ Err not_toml)) ⊎ ((t : Members) × (document_of bytes ≡ Some t) × DocumentMeans newest t r)

-- what bytes mean
abbrev pub BytesMean : List ℕ → Result Problem ModelFault → Type 0
BytesMean = MeanUpTo NEWEST_VERSION

-- what bytes mean where only models of the first version are read
abbrev pub FirstVersionMeans : List ℕ → Result Problem ModelFault → Type 0
FirstVersionMeans = MeanUpTo FIRST_VERSION

-- the bytes mean a refusal, where memory isn't the cause
abbrev pub IsRefusalUpTo : ℕ → List ℕ → ReadModelFault → Type 0
IsRefusalUpTo newest bytes (Refused f) = MeanUpTo newest bytes (Err f)
IsRefusalUpTo newest bytes Memory = ⊤

abbrev pub IsRefusal : List ℕ → ReadModelFault → Type 0
IsRefusal = IsRefusalUpTo NEWEST_VERSION

abbrev pub IsFirstVersionRefusal : List ℕ → ReadModelFault → Type 0
IsFirstVersionRefusal = IsRefusalUpTo FIRST_VERSION

-- the bytes are no document, where memory isn't the cause
abbrev pub IsTableRefusal : List ℕ → ReadModelFault → Type 0
IsTableRefusal bytes (Refused f) = (f ≡ not_toml) × (document_of bytes ≡ None)
IsTableRefusal bytes Memory = ⊤
