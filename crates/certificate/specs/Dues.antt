-- What a text needs, line by line.
use Rattle.std.specs.Prelude.{◌≡◌, ◌≢◌, ◌⊎◌, ◌≤◌, ◌+◌, ℕ, List, [], ◌∷◌, ◌++◌, length, replicate, ⊤}
use Rattle.cert_lines.specs.declared.limits.TheConstants.{MAX_BRANCHES}
use Rattle.cert_lines.specs.Shapes.{BranchLine, CutLine, EndLine, FarkasLine, GroupLine, LineShape, LinearLine, ListLine, PartLine, PointLine, ReducedLine, RoundLine}
use Rattle.certificate.specs.declared.fault.CertTextFault.{CertTextFault}
use Rattle.certificate.specs.declared.fault.CertTextFault.TheVariants as fault
use Rattle.cert_lines.specs.Line.{HasLine}
use Rattle.certificate.specs.Values.{AreLines, Values, value_text, values_text}

-- what stands where: a part, a list, a group, a cut, a tree with so many branches above it, the end
pub data Due : Type 0 where
  a_part : Due
  a_list : Due
  a_group : Due
  a_cut : Due
  a_tree : ℕ → Due
  the_end : Due

-- a line of this value may stand where this is needed
abbrev pub Takes : Due → LineShape → Type 0
Takes a_part (PartLine part) = ⊤
Takes a_list (ListLine a) = ⊤
Takes a_group (GroupLine g) = ⊤
Takes a_cut (CutLine c) = ⊤
Takes a_cut (RoundLine divisor parts) = ⊤
Takes (a_tree above) (BranchLine column at) = ⊤
Takes (a_tree above) (LinearLine den parts) = ⊤
Takes (a_tree above) (FarkasLine parts) = ⊤
Takes (a_tree above) PointLine = ⊤
Takes (a_tree above) (ReducedLine den parts lists groups) = ⊤
Takes the_end EndLine = ⊤
Takes _ _ = ⊥

-- a branch with too many branches above it
abbrev pub IsDeep : Due → LineShape → Type 0
IsDeep (a_tree above) (BranchLine column at) = MAX_BRANCHES ≤ above
IsDeep _ _ = ⊥

-- so many parts, lists and groups of a leaf over reduced costs
abbrev pub row_dues : ℕ → ℕ → ℕ → List Due
row_dues parts lists groups = replicate parts a_part ++ (replicate lists a_list ++ replicate groups a_group)

-- what is needed after the line, before all else
abbrev pub after : Due → LineShape → List Due
after due (RoundLine divisor parts) = replicate parts a_part
after due (LinearLine den parts) = replicate parts a_part
after due (FarkasLine parts) = replicate parts a_part
after due (ReducedLine den parts lists groups) = row_dues parts lists groups
after (a_tree above) (BranchLine column at) = a_tree (above + 1) ∷ a_tree (above + 1) ∷ []
after _ _ = []

-- these lines may stand where these are needed, and then the rest is needed
abbrev pub TakesAll : List Due → Values → List Due → Type 0
TakesAll dues [] left = dues ≡ left
TakesAll [] (l ∷ ls) left = ⊥
TakesAll (due ∷ later) (l ∷ ls) left = Takes due l × (IsDeep due l → ⊥) × TakesAll (after due l ++ later) ls left

-- the text's first line has this value
pub record StartsWith (version : ℕ) (bytes : List ℕ) (l : LineShape) : Type 0 where
  pub rest : List ℕ
  pub text : bytes ≡ value_text l ++ rest
  pub line : HasLine version l

-- another line is needed, or none
abbrev pub IsUnwanted : List Due → LineShape → Type 0
IsUnwanted [] l = ⊤
IsUnwanted (due ∷ later) l = Takes due l → ⊥

abbrev pub IsTooDeep : List Due → LineShape → Type 0
IsTooDeep [] l = ⊥
IsTooDeep (due ∷ later) l = IsDeep due l

-- the text ends, or its first line is another one
abbrev pub IsMisshapen : ℕ → List Due → List ℕ → Type 0
IsMisshapen version dues text = ((text ≡ []) × (dues ≢ [])) ⊎ ((l : LineShape) × StartsWith version text l × IsUnwanted dues l)

-- why the first line of the text, which has this number, isn't what is needed
abbrev pub IsStop : ℕ → List Due → List ℕ → ℕ → CertTextFault → Type 0
IsStop version dues text n (fault.Header m) = ⊥
IsStop version dues text n (fault.Line m) = (m ≡ n) × (text ≢ []) × ((l : LineShape) → StartsWith version text l → ⊥)
IsStop version dues text n (fault.Shape m) = (m ≡ n) × IsMisshapen version dues text
IsStop version dues text n (fault.Deep m) = (m ≡ n) × ((l : LineShape) × StartsWith version text l × IsTooDeep dues l)
IsStop version dues text n fault.Memory = ⊤

-- the first lines are as needed, and the next one isn't; the text's first line has this number
pub record IsFaultFrom (version : ℕ) (dues : List Due) (bytes : List ℕ) (n : ℕ) (f : CertTextFault) : Type 0 where
  pub read : Values
  pub rest : List ℕ
  pub left : List Due
  pub text : bytes ≡ values_text read ++ rest
  pub lines : AreLines version read
  pub taken : TakesAll dues read left
  pub stop : IsStop version left rest (n + length read) f
