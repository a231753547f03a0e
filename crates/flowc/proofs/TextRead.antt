-- What was read from a source in part, and as a whole.
use Rattle.std.proofs.Common.{◌≡◌, ◌∙◌, ◌+◌, ◌≤◌, ap, sym, ℕ, List, ◌++◌, append-nil, length, take, take_all, Option, Some, None}
use Rattle.std.proofs.Math.Seq.{take-append_seam}
use Rattle.std.specs.Io.KnownBytes.{Consumes, IsAtEnd}
use Rattle.common.specs.declared.limits.TheConstants.{MAX_TEXT}
use Rattle.flowc.specs.Source.{IsTextOf}

-- what was read is as long as what is read of a text at most
pub read_most : (old new : Option (List ℕ)) (text : List ℕ) → Consumes old new text → length text ≡ MAX_TEXT + 1 → IsTextOf old text
read_most None new text given full = tt
read_most (Some bytes) None text given full = absurd given
read_most (Some bytes) (Some rest) text given full =
    sym (take-append_seam text rest) ∙ ap (λ n. take n (text ++ rest)) full ∙ ap (take (MAX_TEXT + 1)) (sym given)

-- what was read is all that there was
pub read_all : (old new : Option (List ℕ)) (text : List ℕ) → Consumes old new text → IsAtEnd new → length text ≤ MAX_TEXT + 1 → IsTextOf old text
read_all None new text given end short = tt
read_all (Some bytes) None text given end short = absurd given
read_all (Some bytes) (Some rest) text given end short =
    sym (take_all (MAX_TEXT + 1) text short) ∙ ap (take (MAX_TEXT + 1)) (sym (append-nil text) ∙ ap (λ l. text ++ l) (sym end) ∙ sym given)

-- the read that tells the end takes nothing of what is left
pub end_told : (old mid new : Option (List ℕ)) (text chunk : List ℕ) (count : ℕ) → Consumes old mid text → Consumes mid new (take count chunk) → count ≡ 0
    → Consumes old new text
end_told None mid new text chunk count given last none = tt
end_told (Some bytes) None new text chunk count given last none = absurd given
end_told (Some bytes) (Some rest) None text chunk count given last none = absurd last
end_told (Some bytes) (Some rest) (Some after) text chunk count given last none =
    given ∙ ap (λ l. text ++ l) (last ∙ ap (λ n. take n chunk ++ after) none)
