-- Parts, lists and groups, each on a line of its own, one after the other.
use Rattle.std.proofs.Common.{◌≡◌, ◌<◌, ◌+◌, ◌∙◌, ℕ, refl, sym, ap, arith, List, [], ◌∷◌, ◌++◌, append_assoc, append-nil, length, length-append}
use Rattle.std.specs.Prelude.{map}
use Rattle.std.proofs.lemmas.List.{length-map}
use Rattle.lot_io.specs.Outside.{Shelved}
use Rattle.item_groups.specs.declared.group.Group.{Group}
use Rattle.cert_lines.specs.declared.parts.Part.{Part}
use Rattle.cert_lines.specs.Shapes.{GroupLine, LineShape, ListLine, ListShape, PartLine}
use Rattle.certificate.specs.Values.{Values, group_values, list_values, part_values}
use Rattle.cert_stream.specs.declared.lines.LineReader.{LineReader}
use Rattle.stream_check.specs.Nodes.{reduced_values}
use Rattle.stream_check.specs.Passes.{Awaits}

-- what stands on a line, by the values of these lines
module _ {A : Type 0} (value : A → LineShape) where
  -- where some of these are left, one comes next
  pub next_part : {shelf : Shelved} {name : List ℕ} {r : LineReader} {version : ℕ} (all done more : List A) (ls : Values) → all ≡ done ++ more → length done < length all → Awaits shelf name r version (map value more ++ ls) → (p : A) × (rest : List A) × (more ≡ p ∷ rest) × Awaits shelf name r version (value p ∷ (map value rest ++ ls))
  next_part all done [] ls is less awaits = absurd (omega (arith, less, ap length is, length-append done []))
  next_part all done (p ∷ rest) ls is less awaits = (p, rest, refl, awaits)

  -- in the end none is left
  pub all_parts : {shelf : Shelved} {name : List ℕ} {r : LineReader} {version : ℕ} (all done more : List A) (ls : Values) → all ≡ done ++ more → length done ≡ length all → Awaits shelf name r version (map value more ++ ls) → (done ≡ all) × Awaits shelf name r version ls
  all_parts all done [] ls is size awaits = (sym (is ∙ append-nil done), awaits)
  all_parts all done (p ∷ rest) ls is size awaits = absurd (omega (arith, size, ap length is, length-append done (p ∷ rest)))

-- the lines of a leaf over reduced costs before others
pub reduced_lines : (parts : List Part) (lists : List ListShape) (groups : List Group) (ls : Values) → reduced_values parts lists groups ++ ls ≡ part_values parts ++ (list_values lists ++ (group_values groups ++ ls))
reduced_lines parts lists groups ls =
    append_assoc (part_values parts) (list_values lists ++ group_values groups) ls ∙ ap (λ xs. part_values parts ++ xs) (append_assoc (list_values lists) (group_values groups) ls)

pub reduced_count : (parts : List Part) (lists : List ListShape) (groups : List Group) → length (reduced_values parts lists groups) ≡ length parts + (length lists + length groups)
reduced_count parts lists groups =
    omega (
      arith,
      length-append (part_values parts) (list_values lists ++ group_values groups),
      length-append (list_values lists) (group_values groups),
      length-map parts (λ (p : Part). PartLine p),
      length-map lists (λ (a : ListShape). ListLine a),
      length-map groups (λ (g : Group). GroupLine g),
    )

-- one that was read is then among those that were
pub part_moved : {A : Type 0} (all done more rest pushed : List A) (p read : A) → all ≡ done ++ more → more ≡ p ∷ rest → pushed ≡ done ++ (read ∷ []) → read ≡ p → all ≡ pushed ++ rest
part_moved all done more rest pushed p read is more_is is_pushed same =
    is ∙ ap (λ xs. done ++ xs) more_is ∙ sym (append_assoc done (p ∷ []) rest) ∙ ap (λ x. (done ++ (x ∷ [])) ++ rest) (sym same) ∙ ap (λ xs. xs ++ rest) (sym is_pushed)
