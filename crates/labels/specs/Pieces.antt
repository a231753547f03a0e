-- Sets of numbers in pieces of 32 words of 64 bits: what is set in the pieces.
-- Source: our own.
use Rattle.std.specs.Prelude.{◌≡◌, ℕ, zero, suc, ◌+◌, ◌*◌, ◌<◌, ◌≤◌, ◌/◌, ◌%◌, List, [], ◌∷◌, length, map, Bool, false, slice_index_or}
use Rattle.std.specs.Arc.{arc_slice_items}
use Rattle.labels.specs.Words.{has_bit}
use Rattle.labels.specs.declared.pieces.PieceRow.TheInside.{Inside}

-- the words of each piece, and of one, none where there is none
abbrev pub pieces_of : Inside → List (List ℕ)
pieces_of inside = map arc_slice_items inside.pieces.items

abbrev pub piece_at : List (List ℕ) → ℕ → List ℕ
piece_at pieces p = slice_index_or pieces p []

-- whether the bit of a number is set
abbrev pub has_piece_bit : List (List ℕ) → ℕ → Bool
has_piece_bit pieces i = has_bit (piece_at pieces (i / 2048)) (i % 2048)

-- the bits of this many numbers, from one on
abbrev pub piece_bits : List (List ℕ) → (from count : ℕ) → List Bool
piece_bits pieces i zero = []
piece_bits pieces i (suc n) = has_piece_bit pieces i ∷ piece_bits pieces (suc i) n

-- no bit of a number beyond the last is set, and the pieces have no more words than a row of as many numbers
pub record ArePieces (inside : Inside) : Type 0 where
  pub clear : (i : ℕ) → inside.n ≤ i → has_piece_bit (pieces_of inside) i ≡ false
  pub short : (p : ℕ) → length (piece_at (pieces_of inside) p) ≤ 32
  pub fits : (p : ℕ) → p < length inside.pieces.items → 32 * p + length (piece_at (pieces_of inside) p) ≤ inside.n / 64 + 1
