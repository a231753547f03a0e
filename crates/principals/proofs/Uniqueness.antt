-- A text has one hierarchy or one first refusal at most, and not both.
use Rattle.std.proofs.Common.{◌≡◌, ◌⊎◌, ℕ, ◌<◌, ◌≤◌, List, [], ◌∷◌, ◌++◌, length, refl, sym, ap, ◌∙◌, subst, inl, inr, ⊎_elim, append_assoc, arith}
use Rattle.std.specs.Prelude.{Result, Ok, Err, IfOk, IfErr}
use Rattle.common.specs.Answers.{Answers, IfRefused}
use Rattle.common.specs.declared.fault.OrNoMemory.{OrNoMemory}
use Rattle.common.proofs.Casting.{refusal-is, refused-weaker}
use Rattle.lexer.specs.Cut.{IsCut, IsTextRefused}
use Rattle.std.proofs.lemmas.Option.{some_pair_parts}
use Rattle.lexer.specs.Terminal.{Terminal}
use Rattle.lexer.specs.declared.fault.LexRefusalKind.{LexRefusalKind}
use Rattle.lexer.proofs.Cutting.{has_one_cut, not_cut_and_refused, has_one_refusal}
use Rattle.principals.specs.ActsFor.{PrincipalHierarchy}
use Rattle.principals.specs.HierarchyText.{Entry, built, IsPrefixOfForm, IsUnexpectedInHierarchyAt, HasEntries, IsHierarchyOf, IsRefusedText, Long, Tokenless, Formless, Formed, refusal_for}
use Rattle.principals.specs.Reading.{Ended, IsFormRefusal, IsHierarchyForm}
use Rattle.common.specs.declared.refusal.RefusalAt.{RefusalAt}
use Rattle.principals.specs.declared.fault.HierarchyRefusalKind.{HierarchyRefusalKind}
use Rattle.principals.specs.declared.fault.HierarchyRefusalKind.TheVariants as kind
use Rattle.principals.proofs.Automaton.{derived_is_read}
use Rattle.common.specs.declared.limits.TheConstants.{MAX_TEXT}

-- ---- two indices in one list

abbrev IsLater : {X : Type 0} → List X → X → List X → Type 0
IsLater {X} before x later = (between : List X) × (later ≡ before ++ x ∷ between)

two_places : {X : Type 0} (xs ys us vs : List X) (x y : X) → xs ++ x ∷ us ≡ ys ++ y ∷ vs →
    ((xs ≡ ys) × (x ≡ y)) ⊎ (IsLater xs x ys ⊎ IsLater ys y xs)
two_places [] [] us vs x y h = inl (refl, cc)
two_places [] (b ∷ ys) us vs x y h = let head : b ≡ x = cc in inr (inl (ys, ap (λ w. w ∷ ys) head))
two_places (a ∷ xs) [] us vs x y h = let head : a ≡ y = cc in inr (inr (xs, ap (λ w. w ∷ xs) head))
two_places (a ∷ xs) (b ∷ ys) us vs x y h =
    let head : a ≡ b = cc in
    let tail : xs ++ x ∷ us ≡ ys ++ y ∷ vs = cc in
    ⊎_elim
    (λ e. inl (ap (λ w. w ∷ xs) head ∙ ap (λ w. b ∷ w) e.0, e.1))
    (⊎_elim
    (λ l. inr (inl (l.0, ap (λ w. b ∷ w) l.1 ∙ ap (λ w. w ∷ xs ++ x ∷ l.0) (sym head))))
    (λ l. inr (inr (l.0, ap (λ w. w ∷ xs) head ∙ ap (λ w. b ∷ w) l.1))))
    (two_places xs ys us vs x y tail)

-- ---- entries

same_refusal : {X R : Type 0} (walked : Result X R) (f g : R) → walked ≡ Err f → walked ≡ Err g → f ≡ g
same_refusal walked f g a b = cc

not_both : {X R : Type 0} (walked : Result X R) (x : X) (f : R) → walked ≡ Ok x → walked ≡ Err f → ⊥
not_both walked x f a b = cc

same_end : {X R : Type 0} (walked : Result X R) (x y : X) → walked ≡ Ok x → walked ≡ Ok y → x ≡ y
same_end walked x y a b = cc

-- ---- the form

form_once : (tokens : List Terminal) (es fs : List Entry) → IsHierarchyForm tokens es → IsHierarchyForm tokens fs → es ≡ fs
form_once tokens es fs a b = (some_pair_parts Ended Ended es fs (sym (derived_is_read a) ∙ derived_is_read b)).1

form_is_expected : (tokens : List Terminal) (es : List Entry) (at : ℕ) → IsHierarchyForm tokens es → IsUnexpectedInHierarchyAt tokens at → ⊥
form_is_expected tokens es at form u =
    u.stops (
      u.after,
      es,
      subst (λ x. IsHierarchyForm x es) (u.tokens_are ∙ sym (append_assoc u.before (u.token ∷ []) u.after)) form,
    )

-- a front of a prefix of a text of the form is such a prefix
shorter_prefix : (front : List Terminal) (t : Terminal) (between whole : List Terminal) → whole ≡ front ++ t ∷ between → IsPrefixOfForm whole → IsPrefixOfForm (front ++ t ∷ [])
shorter_prefix front t between whole e (more, entries, form) = (
  between ++ more,
  entries,
  subst (λ x. IsHierarchyForm x entries)
      (ap (λ x. x ++ more) e ∙ append_assoc front (t ∷ between) more ∙ sym (append_assoc front (t ∷ []) (between ++ more))) form,
)

unexpected_once : (tokens : List Terminal) (at other : ℕ) → IsUnexpectedInHierarchyAt tokens at → IsUnexpectedInHierarchyAt tokens other → at ≡ other
unexpected_once tokens at other a b =
    ⊎_elim
    (λ same. a.place ∙ ap (λ t. t.start) same.1 ∙ sym b.place)
    (⊎_elim
    (λ later. absurd (a.stops (shorter_prefix a.before a.token later.0 b.before later.1 b.goes_on)))
    (λ later. absurd (b.stops (shorter_prefix b.before b.token later.0 a.before later.1 a.goes_on))))
    (two_places a.before b.before a.after b.after a.token b.token (sym a.tokens_are ∙ b.tokens_are))

-- ---- the text

entries_once : (text : List ℕ) (es fs : List Entry) → HasEntries text es → HasEntries text fs → es ≡ fs
entries_once text es fs a b =
    form_once a.tokens es fs a.form (subst (λ x. IsHierarchyForm x fs) (has_one_cut text b.tokens a.tokens b.cut a.cut) b.form)

-- a text without tokens, or the first token with which no text of this form goes on
abbrev IsSyntaxRefusal : List ℕ → ℕ → Type 0
IsSyntaxRefusal text at =
    ((refusal : RefusalAt LexRefusalKind) × IsTextRefused text refusal × (at ≡ refusal.at))
    ⊎ ((tokens : List Terminal) × IsCut text tokens × IsUnexpectedInHierarchyAt tokens at)

syntax_once : (text : List ℕ) (at other : ℕ) → IsSyntaxRefusal text at → IsSyntaxRefusal text other → at ≡ other
syntax_once text at other a b =
    ⊎_elim
    (λ la. ⊎_elim
    (λ lb. la.2 ∙ ap (λ (r : RefusalAt LexRefusalKind). r.at) (has_one_refusal text la.0 lb.0 la.1 lb.1) ∙ sym lb.2)
    (λ tb. absurd (not_cut_and_refused text tb.0 la.0 tb.1 la.1))
    b)
    (λ ta. ⊎_elim
    (λ lb. absurd (not_cut_and_refused text ta.0 lb.0 ta.1 lb.1))
    (λ tb. unexpected_once ta.0 at other ta.2 (subst (λ x. IsUnexpectedInHierarchyAt x other) (has_one_cut text tb.0 ta.0 tb.1 ta.1) tb.2))
    b)
    a

entries_not_syntax : (text : List ℕ) (es : List Entry) (at : ℕ) → HasEntries text es → IsSyntaxRefusal text at → ⊥
entries_not_syntax text es at has_entries s =
    ⊎_elim
    (λ l. not_cut_and_refused text has_entries.tokens l.0 has_entries.cut l.1)
    (λ t. form_is_expected has_entries.tokens es at has_entries.form (subst (λ x. IsUnexpectedInHierarchyAt x at) (has_one_cut text t.0 has_entries.tokens t.1 has_entries.cut) t.2))
    s

too_long : {P : Type 0} (text : List ℕ) → MAX_TEXT < length text → length text ≤ MAX_TEXT → P
too_long text h k = absurd (omega arith)

-- the two refusals of the form of a text
without_tokens : (text : List ℕ) (refusal : RefusalAt LexRefusalKind) → IsTextRefused text refusal → IsSyntaxRefusal text refusal.at
without_tokens text refusal refused = inl (refusal, refused, refl)

with_token : (text : List ℕ) (tokens : List Terminal) (at : ℕ) → IsCut text tokens → IsUnexpectedInHierarchyAt tokens at → IsSyntaxRefusal text at
with_token text tokens at cut unexpected = inr (tokens, cut, unexpected)

having : (text : List ℕ) (tokens : List Terminal) (entries : List Entry) → length text ≤ MAX_TEXT → IsCut text tokens → IsHierarchyForm tokens entries → HasEntries text entries
having text tokens entries fits cut form = record { fits = fits; tokens = tokens; cut = cut; form = form }

pub refused_text_once : (text : List ℕ) (f g : RefusalAt HierarchyRefusalKind) → IsRefusedText text f → IsRefusedText text g → f ≡ g
refused_text_once text _ _ (Long long) (Long again) = refl
refused_text_once text _ _ (Long long) (Tokenless r fits refused) = too_long text long fits
refused_text_once text _ _ (Long long) (Formless tokens at fits cut unexpected) = too_long text long fits
refused_text_once text _ g (Long long) (Formed ts es _ short whole form first) = too_long text long short
refused_text_once text _ _ (Tokenless r fits refused) (Long long) = too_long text long fits
refused_text_once text _ _ (Tokenless r fits refused) (Tokenless other again too) =
    ap (λ x. refusal_for kind.Syntax x) (syntax_once text r.at other.at (without_tokens text r refused) (without_tokens text other too))
refused_text_once text _ _ (Tokenless r fits refused) (Formless tokens at again cut unexpected) =
    ap (λ x. refusal_for kind.Syntax x) (syntax_once text r.at at (without_tokens text r refused) (with_token text tokens at cut unexpected))
refused_text_once text _ g (Tokenless r fits refused) (Formed ts es _ short whole form first) =
    absurd (entries_not_syntax text es r.at (having text ts es short whole form) (without_tokens text r refused))
refused_text_once text _ _ (Formless tokens at fits cut unexpected) (Long long) = too_long text long fits
refused_text_once text _ _ (Formless tokens at fits cut unexpected) (Tokenless other again too) =
    ap (λ x. refusal_for kind.Syntax x) (syntax_once text at other.at (with_token text tokens at cut unexpected) (without_tokens text other too))
refused_text_once text _ _ (Formless tokens at fits cut unexpected) (Formless others other again cut_too too) =
    ap (λ x. refusal_for kind.Syntax x) (syntax_once text at other (with_token text tokens at cut unexpected) (with_token text others other cut_too too))
refused_text_once text _ g (Formless tokens at fits cut unexpected) (Formed ts es _ short whole form first) =
    absurd (entries_not_syntax text es at (having text ts es short whole form) (with_token text tokens at cut unexpected))
refused_text_once text f _ (Formed ts es _ short whole form first) (Long long) = too_long text long short
refused_text_once text f _ (Formed ts es _ short whole form first) (Tokenless r fits refused) =
    absurd (entries_not_syntax text es r.at (having text ts es short whole form) (without_tokens text r refused))
refused_text_once text f _ (Formed ts es _ short whole form first) (Formless tokens at fits cut unexpected) =
    absurd (entries_not_syntax text es at (having text ts es short whole form) (with_token text tokens at cut unexpected))
refused_text_once text f g (Formed ts es _ short whole form first) (Formed us others _ short_too whole_too form_too first_too) =
    same_refusal (built es) f g first (subst (λ x. built x ≡ Err g) (entries_once text others es (having text us others short_too whole_too form_too) (having text ts es short whole form)) first_too)

pub hierarchy_not_refused : (text : List ℕ) (h : PrincipalHierarchy) (f : RefusalAt HierarchyRefusalKind) → IsHierarchyOf text h → IsRefusedText text f → ⊥
hierarchy_not_refused text h _ (Formed us others _ short_too whole_too form_too described) (Long long) = too_long text long short_too
hierarchy_not_refused text h _ (Formed us others _ short_too whole_too form_too described) (Tokenless r fits refused) =
    entries_not_syntax text others r.at (having text us others short_too whole_too form_too) (without_tokens text r refused)
hierarchy_not_refused text h _ (Formed us others _ short_too whole_too form_too described) (Formless tokens at fits cut unexpected) =
    entries_not_syntax text others at (having text us others short_too whole_too form_too) (with_token text tokens at cut unexpected)
hierarchy_not_refused text h f (Formed us others _ short_too whole_too form_too described) (Formed ts es _ short whole form first) =
    not_both (built others) h f described (subst (λ x. built x ≡ Err f) (entries_once text es others (having text ts es short whole form) (having text us others short_too whole_too form_too)) first)

pub hierarchy_once : (text : List ℕ) (h k : PrincipalHierarchy) → IsHierarchyOf text h → IsHierarchyOf text k → h ≡ k
hierarchy_once text h k (Formed ts es _ short whole form first) (Formed us others _ short_too whole_too form_too described) =
    same_end (built es) h k first (subst (λ x. built x ≡ Ok k) (entries_once text others es (having text us others short_too whole_too form_too) (having text ts es short whole form)) described)

-- ---- what refused tokens are of the text

pub tokens_refused : (text : List ℕ) (r : RefusalAt LexRefusalKind) (f : RefusalAt HierarchyRefusalKind) → length text ≤ MAX_TEXT → (f.kind ≡ kind.Syntax) × (f.at ≡ r.at) → IsTextRefused text r
    → IsRefusedText text f
tokens_refused text r f fits is refused = subst (IsRefusedText text) (sym (refusal-is f kind.Syntax r.at is.0 is.1)) (Tokenless r fits refused)

-- and what an unexpected token is
pub form_refused : (text : List ℕ) (tokens : List Terminal) (f : RefusalAt HierarchyRefusalKind) → length text ≤ MAX_TEXT → IsCut text tokens → IsFormRefusal tokens f
    → IsRefusedText text f
form_refused text tokens f fits cut (at, is, unexpected) = subst (IsRefusedText text) (sym is) (Formless tokens at fits cut unexpected)

-- ---- what a reader has to meet

pub read_complete : (text : List ℕ) (h : PrincipalHierarchy) → IsHierarchyOf text h → (r : Result PrincipalHierarchy (OrNoMemory (RefusalAt HierarchyRefusalKind))) →
    IfOk r (IsHierarchyOf text) → IfErr r (IfRefused (IsRefusedText text)) → Answers (λ found. found ≡ h) (λ _. ⊥) r
read_complete text h of (Ok found) a e = hierarchy_once text found h a of
read_complete text h of (Err f) a e = refused-weaker (IsRefusedText text) (λ _. ⊥) (λ g k. hierarchy_not_refused text h g of k) f e

pub read_first : (text : List ℕ) (f : RefusalAt HierarchyRefusalKind) → IsRefusedText text f → (r : Result PrincipalHierarchy (OrNoMemory (RefusalAt HierarchyRefusalKind))) →
    IfOk r (IsHierarchyOf text) → IfErr r (IfRefused (IsRefusedText text)) → Answers (λ _. ⊥) (λ found. found ≡ f) r
read_first text f first (Ok found) a e = hierarchy_not_refused text found f a first
read_first text f first (Err reported) a e = refused-weaker (IsRefusedText text) (λ g. g ≡ f) (λ g k. refused_text_once text g f k first) reported e
