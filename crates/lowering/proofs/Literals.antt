-- A literal of 32 bits read with a sign.
use Rattle.std.proofs.Common.{◌≡◌, ℕ, ◌<◌, ◌%◌, ℤ, sym, ap, ◌∙◌, arith}
use Rattle.std.specs.Int.{w32, int_wrap, cast_signed, cast_unsigned}
use Rattle.std.proofs.lemmas.Int.{of_z-to_z}
use Rattle.resolved.specs.Value.{literal_number}

signed_is : (n : ℕ) → n < 4294967296 → cast_signed w32 n ≡ literal_number n
unfolding int_wrap
signed_is n h =
    let rest : n % 4294967296 ≡ n = omega arith in
    ap (cast_signed w32) (sym rest)

pub literal-is : (n : ℕ) → n < 4294967296 → (z : ℤ) → z ≡ cast_signed w32 n → cast_signed w32 (cast_unsigned w32 z) ≡ literal_number n
literal-is n h z e = ap (λ (y : ℤ). cast_signed w32 (cast_unsigned w32 y)) e ∙ ap (cast_signed w32) (of_z-to_z w32 n h) ∙ signed_is n h
