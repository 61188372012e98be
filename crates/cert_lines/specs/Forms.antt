-- A later line by its words.
use Rattle.std.specs.Prelude.{◌≡◌, ◌≤◌, pos, ◌≤ℤ◌, unsigned_abs, [], ◌∷◌, codes, length}
use Rattle.cert_lines.specs.Text.{Lines}
use Rattle.cert_lines.specs.Limits.{Is32, Is64, IsSmallPart}
use Rattle.cert_lines.specs.Line.{IsSmallColumn, IsSmallGroup, IsSmallList, IsSmallName}
use Rattle.cert_lines.specs.Words.{HasWords, HasBlockWords, IsFour, branch_words, farkas_words, group_words, linear_words, ls_words, part_words, parts_words, reduced_words, round_words}
use Rattle.cert_lines.specs.Shapes.{BlockCut, BranchLine, CutLine, CutShape, EndLine, FarkasLine, GroupLine, LineShape, LinearLine, ListLine, LsCut, PartLine, PointLine, PriceCut, ReducedLine, RoundCut, RoundLine}
use Rattle.cert_lines.specs.declared.limits.TheConstants.{MAX_GROUPS, MAX_LISTS, MAX_PARTS, MAX_ROUND_PARTS}
use Rattle.round_cuts.specs.declared.rounding.TheConstants.{MAX_DIVISOR}
use Rattle.cert_lines.specs.Limits.{Is127}

-- these are the words of a cut of one line
abbrev pub IsCutOf : Lines → CutShape → Type 0
IsCutOf ws (LsCut item last chosen) = HasWords ws (ls_words item last chosen) × Is32 item × (1 ≤ last) × Is32 last × (length chosen ≡ last)
IsCutOf ws (PriceCut item a) = IsFour ws (codes "price") (codes "w") item a.price a.unit a.hold a.back (length ws)
IsCutOf ws (BlockCut item a) = HasBlockWords ws item a.setup a.unit a.hold a.back a.steps
IsCutOf ws (RoundCut divisor parts) = ⊥

-- these are the words of the line
abbrev pub IsLineOf : Lines → LineShape → Type 0
IsLineOf ws (CutLine c) = IsCutOf ws c
IsLineOf ws (RoundLine divisor parts) = HasWords ws (round_words divisor parts) × (1 ≤ divisor) × (divisor ≤ MAX_DIVISOR) × (parts ≤ MAX_ROUND_PARTS)
IsLineOf ws (PartLine part) = HasWords ws (part_words part.row part.times) × IsSmallName part.row × IsSmallPart part
IsLineOf ws (BranchLine column at) = HasWords ws (branch_words column at) × IsSmallColumn column × Is64 at
IsLineOf ws (LinearLine den parts) = HasWords ws (linear_words den parts) × (pos 1 ≤ℤ den) × (Is127 (unsigned_abs den)) × (parts ≤ MAX_PARTS)
IsLineOf ws (FarkasLine parts) = HasWords ws (farkas_words parts) × (parts ≤ MAX_PARTS)
IsLineOf ws PointLine = HasWords ws (codes "point" ∷ [])
IsLineOf ws (ReducedLine den parts lists groups) = HasWords ws (reduced_words den parts lists groups) × Is64 den × (parts ≤ MAX_PARTS) × (lists ≤ MAX_LISTS) × (groups ≤ MAX_GROUPS)
IsLineOf ws (ListLine a) = HasWords ws (parts_words a) × IsSmallList a
IsLineOf ws (GroupLine g) = HasWords ws (group_words g) × IsSmallGroup g
IsLineOf ws EndLine = HasWords ws (codes "end" ∷ [])
