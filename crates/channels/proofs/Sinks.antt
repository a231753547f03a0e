-- What was written of a text in part.
use Rattle.std.proofs.Common.{◌≡◌, ◌≢◌, ◌∙◌, ◌||◌, ◌&&◌, ◌==◌, ap, ℕ, Bool, List, ◌++◌, length, append_assoc, sym, Option, nat_lt, ne_eqb}
use Rattle.std.proofs.Math.Bool.{or-false}
use Rattle.channels.specs.Sink.{AppendsPrefix}

-- a prefix of a front is a prefix of all
pub cut_front : (old new : Option (List ℕ)) (front back line : List ℕ) → line ≡ front → AppendsPrefix old new line
    → AppendsPrefix old new (front ++ back)
cut_front old new front back line is part = (
  part.0,
  (part.1.0 ++ back, sym (append_assoc part.0 part.1.0 back) ∙ ap (λ text. text ++ back) (part.1.1 ∙ is)),
  part.2,
)

-- a write that took some bytes is no failure
pub not_failed : (failed : Bool) (count : ℕ) (bytes : List ℕ) → count ≢ 0 → (failed || ((count == 0) && nat_lt 0 (length bytes))) ≡ failed
not_failed failed count bytes some = rw (ne_eqb count 0 some) (or-false failed)
