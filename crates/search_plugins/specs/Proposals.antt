-- What a leaf is that is proposed.
use Rattle.cert_lines.specs.Shapes.{leaf_shape}
use Rattle.leaf_growth.specs.Growth.{IsOfRows}
use Rattle.search_plugins.specs.declared.proposer.Proposed.{Proposed}

-- its leaf takes rows by their names
abbrev pub IsProposal : Proposed → Type 0
IsProposal proposed = IsOfRows (leaf_shape proposed.leaf)
