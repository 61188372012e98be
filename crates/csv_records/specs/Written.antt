-- The text of records, and what a writer has written.
use Rattle.std.specs.Prelude.{◌≡◌, ◌≢◌, ℕ, Bool, true, false, ◌==◌, ◌||◌, List, [], ◌∷◌, ◌++◌, Vec, codes}
use Rattle.std.specs.List.{flat_map, list_any}
use Rattle.csv.specs.Writing.{default_writer, fields_written, has_written, row_text, with_flexible, writer_pending, writer_setup, writer_under}
use Rattle.csv.specs.declared.writer.Writer.{Writer}
use Rattle.csv.specs.declared.writer.WriterBuilder.{WriterBuilder}
use Rattle.csv_records.specs.Records.{Record}

-- the text of records: fields with quotes where they need them, and a line feed after each record (RFC 4180)
abbrev pub records_text : List Record → List ℕ
records_text rs = flat_map (row_text default_writer) rs

-- the defaults of `csv`, for records of any number of fields
abbrev pub settings : WriterBuilder
settings = with_flexible default_writer true

-- the writer has written these records whole
pub record HasWritten {Z : Type 0} (w : Writer (Vec ℕ Z)) (rs : List Record) : Type 0 where
  pub setup : writer_setup w ≡ settings
  pub fields : fields_written w ≡ 0
  pub clean : has_written w ≡ false
  pub text : (writer_under w).items ++ writer_pending w ≡ records_text rs

-- between the two it has written these records more
abbrev pub HasAdded : {Z : Type 0} → Writer (Vec ℕ Z) → Writer (Vec ℕ Z) → List Record → Type 0
HasAdded before after more = (rs : List Record) → HasWritten before rs → HasWritten after (rs ++ more)

-- ---- fields that need no quotes
-- a byte that a reader of CSV takes for a mark: a comma, a quote, a carriage return, a line feed
abbrev pub is_mark : ℕ → Bool
is_mark b = (b == 44) || (b == 34) || (b == 13) || (b == 10)

-- whether a field has one
abbrev pub has_mark : List ℕ → Bool
has_mark text = list_any is_mark text

-- a field that has none is plain
abbrev pub IsPlain : List ℕ → Type 0
IsPlain text = has_mark text ≡ false

-- a record of plain fields that shows more than one empty field
pub record IsPlainRecord (r : Record) : Type 0 where
  pub some : r ≢ []
  pub shown : r ≢ [] ∷ []
  pub plain : list_any has_mark r ≡ false

-- the line of a record: its fields with a comma between two, and a line feed
abbrev pub line_of : Record → List ℕ
line_of [] = codes "\n"
line_of (f ∷ []) = f ++ codes "\n"
line_of (f ∷ next ∷ rest) = f ++ (codes "," ++ line_of (next ∷ rest))
