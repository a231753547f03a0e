-- How a place in a source is printed, and what it is that a text with lines was written.
-- Source: our own.
use Rattle.std.specs.Prelude.{ℕ, List, ◌++◌, Option, codes}
use Rattle.std.specs.Fmt.{decimal}
use Rattle.std.specs.Io.KnownBytes.{Appends}
use Rattle.channels.specs.Sink.{AppendsPrefix}
use Rattle.lexer.specs.Position.{column_of, line_of}

-- the line, a colon and the column of a byte, and what follows
abbrev pub at_place : (source : List ℕ) → (at : ℕ) → (rest : List ℕ) → List ℕ
at_place source at rest = decimal (line_of source at) ++ (codes ":" ++ (decimal (column_of source at) ++ rest))

-- what a sink holds grew by a text of this kind, or by a prefix of one
abbrev pub Writes : (IsText : List ℕ → Type 0) → (old new : Option (List ℕ)) → Type 0
Writes IsText old new = (text : List ℕ) × IsText text × Appends old new text

abbrev pub WritesPrefix : (IsText : List ℕ → Type 0) → (old new : Option (List ℕ)) → Type 0
WritesPrefix IsText old new = (text : List ℕ) × IsText text × AppendsPrefix old new text
