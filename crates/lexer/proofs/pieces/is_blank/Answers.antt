use Rattle.std.proofs.Common.{◌≡◌, ℕ, ◌==◌, ◌&&◌, ◌<◌, Bool, map, cond, get_or, refl, ap, ◌∙◌, arith}
use Rattle.std.specs.Prelude.{nat_lt}
use Rattle.std.proofs.lemmas.List.FromFn.{get_or-map-range_with_len}
use Rattle.std.specs.List.{range_with_len}
use Rattle.lexer.specs.Words.{is_white_space}
use Rattle.lexer.specs.declared.pieces.TheConstants.{BLANKS}
use Rattle.lexer.proofs.Steps.{marked}
use Rattle.lexer.proofs.pieces.is_blank.Goals as goal

abbrev is_blank : ℕ → Bool
is_blank byte = nat_lt byte 128 && is_white_space byte

abbrev mark : ℕ → ℕ
mark byte = cond (is_blank byte) 1 0

-- the table has the mark of each byte
table_is : BLANKS ≡ map mark (range_with_len 0 256)
table_is = refl

read : (byte : ℕ) → byte < 256 → (get_or BLANKS byte 0 == 1) ≡ is_blank byte
read byte h =
    ap (λ (n : ℕ). n == 1) (ap (λ t. get_or t byte 0) table_is ∙ get_or-map-range_with_len mark 0 256 byte byte 0 h (omega arith))
    ∙ marked (is_blank byte)

pub returns : goal.returns
returns c = rw c.from.ensures (read c.args.byte (omega arith))
