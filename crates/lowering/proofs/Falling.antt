-- Normal exits by form, where one of two decides.
use Rattle.std.proofs.Common.{◌≡◌, sym, ap, ◌∙◌, List, [], ◌∷◌, length, ◌<◌, Bool, true, false, ◌||◌, arith}
use Rattle.std.proofs.Math.Bool.{and-true}
use Rattle.resolved.specs.declared.statement.Statement as S
use Rattle.resolved.specs.declared.statement.Handler.{Handler}
use Rattle.resolved.specs.TreeOf.{block_of, handlers_of}
use Rattle.lowering.specs.Code.{block_falls, jumps_over, jumps_after}

pub first-decides : (a b r : Bool) → r ≡ a → r ≡ true → r ≡ (a || b)
first-decides a b r is holds = holds ∙ sym (ap (λ (x : Bool). x || b) (sym is ∙ holds))

pub second-decides : (a b p r : Bool) → p ≡ a → p ≡ false → r ≡ b → r ≡ (a || b)
second-decides a b p r is fails same = same ∙ sym (ap (λ (x : Bool). x || b) (sym is ∙ fails))

pub over-filled : (first second : List S.Statement) (r : Bool) → 0 < length second → r ≡ block_falls (block_of first) → r ≡ jumps_over (block_of first) (block_of second)
over-filled first [] r h is = absurd (omega (arith, h))
over-filled first (s ∷ rest) r h is = is ∙ sym (and-true (block_falls (block_of first)))

pub beyond-filled : (block : List S.Statement) (beyond : List Handler) (r : Bool) → 0 < length beyond → r ≡ block_falls (block_of block) → r ≡ jumps_after (block_of block) (handlers_of beyond)
beyond-filled block [] r h is = absurd (omega (arith, h))
beyond-filled block (handler ∷ rest) r h is = is ∙ sym (and-true (block_falls (block_of block)))
