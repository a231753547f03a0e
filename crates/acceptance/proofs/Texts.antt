-- Why bytes are no text, by one test and by its cases.
use Rattle.std.proofs.Common.{◌≡◌, ℕ, refl, sym, ◌∙◌, subst, Bool, true, false, List, length, Option, None, Some}
use Rattle.std.specs.Prelude.{nat_lt, if◌then◌else◌}
use Rattle.std.specs.Str.{is_utf8}
use Rattle.std.proofs.lemmas.Bool.{lt-ltb, le-ltb, ltb-true, ltb-false}
use Rattle.acceptance.specs.Accepted.{text_fault, IsText}
use Rattle.acceptance.specs.Refused.{IsNoText, TooLong, NotUtf8}
use Rattle.acceptance.specs.declared.kind.RefusalKind.{RefusalKind}
use Rattle.acceptance.specs.declared.kind.RefusalKind.TheVariants as kinds
use Rattle.common.specs.declared.limits.TheConstants.{MAX_TEXT}

pub some_inside : {A : Type 0} (x y : A) → Some x ≡ Some y → x ≡ y
some_inside x y e = cc

not_holds : (b : Bool) → ¬ (b ≡ true) → b ≡ false
not_holds true wrong = absurd (wrong refl)
not_holds false wrong = refl

pub no_text_fault : (bytes : List ℕ) (kind : RefusalKind) (at : ℕ) → IsNoText bytes kind at → (text_fault bytes ≡ Some kind) × (at ≡ 0)
no_text_fault bytes _ _ (TooLong long) = (rw (lt-ltb MAX_TEXT (length bytes) long) refl, refl)
no_text_fault bytes _ _ (NotUtf8 short other) = (rw (le-ltb MAX_TEXT (length bytes) short, not_holds (is_utf8 bytes) other) refl, refl)

pub text_no_fault : (bytes : List ℕ) → IsText bytes → text_fault bytes ≡ None
text_no_fault bytes text = rw (le-ltb MAX_TEXT (length bytes) text.short, text.characters) refl

abbrev tested : Bool → Bool → Option RefusalKind
tested long utf8 = if long then Some kinds.TextTooLong else if utf8 then None else Some kinds.NotUtf8

pub fault_no_text : (bytes : List ℕ) (kind : RefusalKind) → text_fault bytes ≡ Some kind → IsNoText bytes kind 0
fault_no_text bytes kind fault = go (nat_lt MAX_TEXT (length bytes)) refl (is_utf8 bytes) refl fault
  where
    go : (long : Bool) → nat_lt MAX_TEXT (length bytes) ≡ long → (utf8 : Bool) → is_utf8 bytes ≡ utf8 → tested long utf8 ≡ Some kind → IsNoText bytes kind 0
    go true e utf8 f same = subst (λ k. IsNoText bytes k 0) (some_inside kinds.TextTooLong kind same) (TooLong (ltb-true MAX_TEXT (length bytes) e))
    go false e true f same = absurd (cc)
    go false e false f same =
        subst (λ k. IsNoText bytes k 0) (some_inside kinds.NotUtf8 kind same)
        (NotUtf8 (ltb-false MAX_TEXT (length bytes) e) (λ g. let i : false ≡ true = sym f ∙ g in cc))

pub no_fault_text : (bytes : List ℕ) → text_fault bytes ≡ None → IsText bytes
no_fault_text bytes none = go (nat_lt MAX_TEXT (length bytes)) refl (is_utf8 bytes) refl none
  where
    go : (long : Bool) → nat_lt MAX_TEXT (length bytes) ≡ long → (utf8 : Bool) → is_utf8 bytes ≡ utf8 → tested long utf8 ≡ None → IsText bytes
    go true e utf8 f same = absurd (cc)
    go false e true f same = record { short = ltb-false MAX_TEXT (length bytes) e; characters = f }
    go false e false f same = absurd (cc)
