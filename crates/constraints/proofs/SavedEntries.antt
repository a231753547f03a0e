-- Entries that were saved and put back.
use Rattle.std.proofs.Common.{◌≡◌, refl, sym, ap, ◌∙◌, ℕ, suc, zero, List, [], ◌∷◌, ◌++◌, set, get_or, length}
use Rattle.std.proofs.lemmas.List.{length-set}
use Rattle.constraints.specs.declared.exit_unknowns.ExitUnknown.{ExitUnknown}
use Rattle.constraints.specs.declared.exit_unknowns.Saved.{Saved}
use Rattle.constraints.specs.ExitUnknowns.{undone}

pub undone-append : (saved : List Saved) (s : Saved) (thrown : List ExitUnknown) → undone (saved ++ s ∷ []) thrown ≡ undone saved (set thrown s.exception s.entry)
undone-append [] s thrown = refl
undone-append (x ∷ saved) s thrown = ap (λ t. set t x.exception x.entry) (undone-append saved s thrown)

pub set-back : {A : Type 0} (xs : List A) (i : ℕ) (x d : A) → set (set xs i x) i (get_or xs i d) ≡ xs
set-back [] i x d = refl
set-back (y ∷ xs) zero x d = refl
set-back (y ∷ xs) (suc i) x d = ap (λ ys. y ∷ ys) (set-back xs i x d)

-- one more was saved
pub undone-more : (saved now : List Saved) (s : Saved) (old new : List ExitUnknown) (entry none : ExitUnknown)
    → now ≡ saved ++ s ∷ [] → new ≡ set old s.exception entry → s.entry ≡ get_or old s.exception none
    → undone now new ≡ undone saved old
undone-more saved now s old new entry none pushed changed was =
    ap (λ list. undone list new) pushed ∙ (undone-append saved s new
    ∙ (ap (λ t. undone saved (set t s.exception s.entry)) changed
    ∙ (ap (λ e. undone saved (set (set old s.exception entry) s.exception e)) was
    ∙ ap (undone saved) (set-back old s.exception entry none))))

-- to undo keeps the number of entries, and so does what can be undone
pub undone-length : (saved : List Saved) (thrown : List ExitUnknown) → length (undone saved thrown) ≡ length thrown
undone-length [] thrown = refl
undone-length (s ∷ saved) thrown = length-set (undone saved thrown) s.exception s.entry ∙ undone-length saved thrown

pub width-kept : (saved now : List Saved) (old new : List ExitUnknown) → undone now new ≡ undone saved old → length new ≡ length old
width-kept saved now old new same = sym (undone-length now new) ∙ (ap length same ∙ undone-length saved old)
