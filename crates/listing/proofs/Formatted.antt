-- What `format!` writes for each line.
use Rattle.std.proofs.Common.{◌≡◌, ◌∙◌, ap, subst, refl, ℕ, ◌-◌, ◌^◌, false, List, [], ◌++◌, append_assoc, Option, Some, Result, IfOk, IfSome}
use Rattle.std.proofs.Padding.{padded_integral_zeros}
use Rattle.std.specs.Fmt.{◌++?◌, digits, format_spec, padded_integral}
use Rattle.std.specs.Prelude.{codes}
use Rattle.listing.specs.Listing.{offset_text}

-- what is known of the text is known of the string
pub formatted : {S E : Type 0} (bytes : S → List ℕ) (made : Result S E) (output : Option (List ℕ)) (text : List ℕ)
    → IfOk made (λ s. IfSome output (λ written. bytes s ≡ written)) → output ≡ Some text → IfOk made (λ s. bytes s ≡ text)
formatted bytes made output text is same = subst (λ (o : Option (List ℕ)). IfOk made (λ s. IfSome o (λ written. bytes s ≡ written))) same is

padded_offset : (offset : ℕ) → padded_integral (format_spec 32 0 4 8 (2 ^ 64 - 1)) false [] (digits 16 false offset) ≡ offset_text offset
padded_offset offset = padded_integral_zeros (format_spec 32 0 4 8 (2 ^ 64 - 1)) (digits 16 false offset) refl refl

-- texts grouped to the right as `format!` writes them, and to the left
spaced : (front text back : List ℕ) → front ++ (codes " " ++ (text ++ back)) ≡ front ++ codes " " ++ text ++ back
spaced front text back = rw (append_assoc, append_assoc)

pub instruction_words : (offset : ℕ) (text : List ℕ)
    → Some (padded_integral (format_spec 32 0 4 8 (2 ^ 64 - 1)) false [] (digits 16 false offset)) ++? Some (codes " " ++ (text ++ codes "\n"))
    ≡ Some (offset_text offset ++ codes " " ++ text ++ codes "\n")
instruction_words offset text =
    ap (λ front. Some (front ++ (codes " " ++ (text ++ codes "\n")))) (padded_offset offset) ∙ ap Some (spaced (offset_text offset) text (codes "\n"))

pub channel_words : (direction word name called label printed : List ℕ) → direction ≡ word → name ≡ called → label ≡ printed
    → Some (direction ++ (codes " " ++ (name ++ (codes " " ++ (label ++ codes "\n"))))) ≡ Some (word ++ codes " " ++ called ++ codes " " ++ printed ++ codes "\n")
channel_words direction word name called label printed is named labelled = rw (is, named, labelled, append_assoc, append_assoc, append_assoc, append_assoc)

pub handler_words : (start end exception target : List ℕ)
    → Some (codes "handler " ++ (start ++ (codes " " ++ (end ++ (codes " " ++ (exception ++ (codes " " ++ (target ++ codes "\n"))))))))
    ≡ Some (codes "handler " ++ start ++ codes " " ++ end ++ codes " " ++ exception ++ codes " " ++ target ++ codes "\n")
handler_words start end exception target =
    rw (append_assoc, append_assoc, append_assoc, append_assoc, append_assoc, append_assoc, append_assoc)
