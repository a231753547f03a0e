use Rattle.std.proofs.Common.{◌≡◌, ℕ, ◌==◌, ◌&&◌, ◌||◌, ◌<◌, Bool, false, map, cond, get_or, refl, ap, sym, ◌∙◌, inl, inr, arith}
use Rattle.std.specs.Prelude.{nat_lt}
use Rattle.std.specs.Char.{is_ascii_alphanumeric}
use Rattle.std.proofs.lemmas.Bool.{cases_lt}
use Rattle.std.proofs.lemmas.Bool.Decides.{nat_tests}
use Rattle.std.proofs.lemmas.List.FromFn.{get_or-map-range_with_len}
use Rattle.std.specs.List.{range_with_len}
use Rattle.unicode_ident.proofs.IdentLemmas.{is_xid_continue-ascii}
use Rattle.unicode_ident.specs.Ident.{is_xid_continue}
use Rattle.lexer.specs.declared.pieces.TheConstants.{NAME_PARTS}
use Rattle.lexer.proofs.Steps.{marked}
use Rattle.lexer.proofs.pieces.is_name_part.Goals as goal

abbrev is_part : ℕ → Bool
is_part byte = nat_lt byte 128 && (is_ascii_alphanumeric byte || byte == 95)

abbrev mark : ℕ → ℕ
mark byte = cond (is_part byte) 1 0

-- the table has the mark of each byte
table_is : NAME_PARTS ≡ map mark (range_with_len 0 256)
table_is = refl

read : (byte : ℕ) → byte < 256 → (get_or NAME_PARTS byte 0 == 1) ≡ is_part byte
read byte h =
    ap (λ (n : ℕ). n == 1) (ap (λ t. get_or t byte 0) table_is ∙ get_or-map-range_with_len mark 0 256 byte byte 0 h (omega arith))
    ∙ marked (is_part byte)

-- among the ASCII characters, those go on with a name
same : (byte : ℕ) → is_part byte ≡ (nat_lt byte 128 && is_xid_continue byte)
same byte =
    elim (cases_lt byte 128) [
      | inl small ↦ ap (λ b. nat_lt byte 128 && b) (sym (is_xid_continue-ascii byte small))
      | inr large ↦
          let beyond : nat_lt byte 128 ≡ false = grind (arith, nat_tests) in
          ap (λ b. b && (is_ascii_alphanumeric byte || byte == 95)) beyond ∙ sym (ap (λ b. b && is_xid_continue byte) beyond)
    ]

pub returns : goal.returns
returns c = rw c.from.ensures (read c.args.byte (omega arith) ∙ same c.args.byte)
