use Rattle.std.proofs.Common.{◌≡◌, List, ℕ, Some, None, refl, rules, inl, inr}
use Rattle.std.proofs.lemmas.Bool.{cases_Bool}
use Rattle.std.specs.Str.{is_utf8, IsUtf8}
use Rattle.std.proofs.lemmas.Str.{IsUtf8-from_is_utf8, is_utf8-from_IsUtf8}
use Rattle.toml.specs.Data.{Members}
use Rattle.toml.specs.Parse.{parse_document}
use Rattle.instance_reader.specs.Document.{document_of}
use Rattle.instance_reader.proofs.document.table_of.Goals as goal

is_document : (bytes : List ℕ) (t : Members) → IsUtf8 bytes → parse_document bytes ≡ Some t → document_of bytes ≡ Some t
is_document bytes t text read = rw (is_utf8-from_IsUtf8 bytes text) read

no_document : (bytes : List ℕ) → (IsUtf8 bytes → parse_document bytes ≡ None) → document_of bytes ≡ None
no_document bytes refused =
    elim (cases_Bool (is_utf8 bytes)) [
      | inl good ↦ rw good (refused (IsUtf8-from_is_utf8 bytes good))
      | inr bad ↦ rw bad refl
    ]

pub returns-in-Ok-clause-ok : goal.returns-in-Ok-clause-ok
returns-in-Ok-clause-ok c = is_document _ _ c.in-Ok.ensures.ok.0 c.in-Ok.ensures.ok.1

pub returns-else-is_memory-clause-refused : goal.returns-else-is_memory-clause-refused
returns-else-is_memory-clause-refused c = (c.not_toml.ensures, no_document c.args.bytes.now (c.in-Err.ensures.refused (search (rules, c.if-is_memory.false, c.is_memory.ensures))))
