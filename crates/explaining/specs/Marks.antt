-- Private: the places of a text that are kept.
-- Source: our own.
use Rattle.std.specs.Prelude.{ℕ, ◌+◌, ◌*◌, ◌/◌, List, length, map}
use Rattle.std.specs.List.{range_with_len}
use Rattle.lexer.specs.declared.token.Place.{Place}
use Rattle.lexer.specs.Position.{place_at}
use Rattle.explaining.specs.declared.marks.TheConstants.{STRIDE}

-- the places of the first byte of a text and of each byte a stride after one that is marked
abbrev pub marks_of : (text : List ℕ) → List Place
marks_of text = map (λ mark. place_at text (mark * STRIDE)) (range_with_len 0 (length text / STRIDE + 1))
