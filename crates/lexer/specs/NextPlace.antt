-- Private: how a place moves on byte by byte.
-- Source: our own.
use Rattle.std.specs.Prelude.{ℕ, ◌+◌, if◌then◌else◌}
use Rattle.lexer.specs.declared.token.Place.{Place}
use Rattle.lexer.specs.Position.{begins_character, is_line_feed}

-- the place after a byte at a place
abbrev pub next_place : Place → (byte : ℕ) → Place
next_place place byte =
    if is_line_feed byte then record { line = place.line + 1; column = 1 }
    else (if begins_character byte then record { line = place.line; column = place.column + 1 } else place)
