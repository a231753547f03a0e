-- What it is to know the possible exits of a program: of each statement and block, by its number, the very exits that the rules give.
-- Source: our own; the path maps of JFlow (Myers 1999), of which these are the exits without labels.
use Rattle.std.specs.Prelude.{◌≡◌, ℕ, List, [], length, Some, slice_get, slice_index_or}
use Rattle.resolved.specs.declared.statement.Exit.{Exit}
use Rattle.resolved.specs.Program.{Program}
use Rattle.resolved.specs.Exits.{has_exit, statement_exits, block_exits}
use Rattle.path_map.specs.Pieces.{Piece, OfStatement, OfBlock, program_pieces}

-- the possible exits of a statement or block
abbrev pub piece_exits : Program → Piece → List Exit
piece_exits program (OfStatement statement) = statement_exits program statement
piece_exits program (OfBlock block) = block_exits program block

-- two lists of the same exits, each exception by its number
abbrev pub SameExits : List Exit → List Exit → Type 0
SameExits ends others = (exit : Exit) → has_exit ends exit ≡ has_exit others exit

-- the exits of each statement and block of a program
pub record AreEndsOf (program : Program) (found : List (List Exit)) : Type 0 where
  pub as_many : length found ≡ length (program_pieces program)
  pub each : (number : ℕ) (piece : Piece) → slice_get (program_pieces program) number ≡ Some piece
      → SameExits (slice_index_or found number []) (piece_exits program piece)
