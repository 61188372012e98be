-- What bytes mean as a TOML document (TOML 1.1), and what stands under its keys.
use Rattle.std.specs.Prelude.{ℕ, Bool, true, ◌&&◌, List, Option, None, if◌then◌else◌}
use Rattle.std.specs.Str.{is_utf8}
use Rattle.toml.specs.Data.{Data, Members, member, no_members, get_member}
use Rattle.toml.specs.Parse.{parse_document}
use Rattle.lot_draft.specs.Faults.{key_text}
use Rattle.lot_draft.specs.Refusals.{is_among}
use Rattle.lot_draft.specs.declared.fault.Key.{Key}

-- the table that bytes mean, where they are UTF-8 and a document
abbrev pub document_of : List ℕ → Option Members
document_of bytes = if is_utf8 bytes then parse_document bytes else None

-- each key of a table is one of these
abbrev pub has_only : List (List ℕ) → Members → Bool
has_only keys no_members = true
has_only keys (member key value rest) = is_among keys key && has_only keys rest

-- what stands under a key
abbrev pub value_at : Key → Members → Option Data
value_at k t = get_member (key_text k) t
