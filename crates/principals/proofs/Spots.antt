-- The places of tokens and of refusals are character boundaries of the text.
use Rattle.std.proofs.Common.{◌≡◌, ℕ, Bool, true, false, List, [], ◌∷◌, ◌++◌, length, Option, None, Some, Result, Ok, Err, refl, sym, ◌∙◌, subst}
use Rattle.std.specs.Prelude.{nat_le}
use Rattle.std.specs.List.{AllByRecursion}
use Rattle.std.specs.Str.{IsUtf8, IsCharBoundary}
use Rattle.std.proofs.lemmas.List.Elements.{recursion_from_All}
use Rattle.std.proofs.lemmas.Str.{IsCharBoundary-start}
use Rattle.common.specs.Results.{along, ◌>>=◌}
use Rattle.common.specs.declared.limits.TheConstants.{MAX_PRINCIPALS}
use Rattle.lexer.specs.Cut.{IsCut}
use Rattle.lexer.specs.Terminal.{Terminal}
use Rattle.lexer.proofs.Listed.{listed, refused_at}
use Rattle.principals.specs.ActsFor.{PrincipalHierarchy, number_of}
use Rattle.principals.proofs.Automaton.{to_items}
use Rattle.principals.specs.HierarchyText.{Entry, Declares, Relates, with_entry, HasEntries, IsRefusedText, Long, Tokenless, Formless, Formed, IsUnexpectedInHierarchyAt, HasBoundary}
use Rattle.principals.specs.Reading.{Nonterminal, DerivesFrom, Finish, Declaration, PrincipalRelation, OneMore, Last, IsFirstRefusal}
use Rattle.common.specs.declared.refusal.RefusalAt.{RefusalAt}
use Rattle.principals.specs.declared.fault.HierarchyRefusalKind.{HierarchyRefusalKind}
use Rattle.principals.proofs.Building.{declares, relates, same_Err, no_answer}

-- ---- tokens

abbrev StartsIn : List ℕ → Terminal → Type 0
StartsIn source t = IsCharBoundary source t.start

token_spots : (text : List ℕ) (tokens : List Terminal) → IsUtf8 text → IsCut text tokens → AllByRecursion (StartsIn text) tokens
token_spots text tokens ok cut = recursion_from_All (StartsIn text) tokens (listed text tokens ok cut).at_characters

-- ---- entries

abbrev EntryStartsIn : List ℕ → Entry → Type 0
EntryStartsIn source (Declares name) = StartsIn source name
EntryStartsIn source (Relates left right) = StartsIn source left × StartsIn source right

entry_spots : (source : List ℕ) {n : Nonterminal} {tokens : List Terminal} {entries : List Entry} → DerivesFrom n tokens entries →
    AllByRecursion (StartsIn source) tokens → AllByRecursion (EntryStartsIn source) entries
entry_spots source (Finish end h) spots = tt
entry_spots source (Declaration word rest entries h d) spots = entry_spots source d spots.1
entry_spots source (PrincipalRelation left word right semicolon rest entries l w r s d) spots =
    ((spots.0, spots.1.1.0), entry_spots source d spots.1.1.1.1)
entry_spots source (OneMore name comma rest entries n c d) spots = (spots.0, entry_spots source d spots.1.1)
entry_spots source (Last name semicolon rest entries n s d) spots = (spots.0, entry_spots source d spots.1.1)

-- what holds of all holds of the one in the middle
middle : {X : Type 0} (P : X → Type 0) (before after : List X) (x : X) → AllByRecursion P (before ++ x ∷ after) → P x
middle P [] after x h = h.0
middle P (b ∷ before) after x h = middle P before after x h.1

-- of one entry, by the numbers of its names
name_spot : (text : List ℕ) (h : PrincipalHierarchy) (name : Terminal) (f : RefusalAt HierarchyRefusalKind) → StartsIn text name → with_entry h (Declares name) ≡ Err f → HasBoundary text f
name_spot text h name f spot stops = by (number_of h name.text) (nat_le MAX_PRINCIPALS (length h.names)) stops
  where
    by : (number : Option ℕ) (full : Bool) → declares h name number full ≡ Err f → HasBoundary text f
    by (Some n) full e = subst (HasBoundary text) (same_Err _ f e) spot
    by None true e = subst (HasBoundary text) (same_Err _ f e) spot
    by None false e = no_answer _ f e

pair_spot : (text : List ℕ) (h : PrincipalHierarchy) (left right : Terminal) (f : RefusalAt HierarchyRefusalKind) → StartsIn text left → StartsIn text right
    → with_entry h (Relates left right) ≡ Err f → HasBoundary text f
pair_spot text h left right f first_spot second_spot stops = by (number_of h left.text) (number_of h right.text) stops
  where
    by : (first second : Option ℕ) → relates h left right first second ≡ Err f → HasBoundary text f
    by None second e = subst (HasBoundary text) (same_Err _ f e) first_spot
    by (Some a) None e = subst (HasBoundary text) (same_Err _ f e) second_spot
    by (Some a) (Some b) e = no_answer _ f e

entry_spot : (text : List ℕ) (h : PrincipalHierarchy) (entry : Entry) (f : RefusalAt HierarchyRefusalKind) → EntryStartsIn text entry → with_entry h entry ≡ Err f → HasBoundary text f
entry_spot text h (Declares name) f spot stops = name_spot text h name f spot stops
entry_spot text h (Relates left right) f spot stops = pair_spot text h left right f spot.0 spot.1 stops

walk_spot : (text : List ℕ) (h : PrincipalHierarchy) (es : List Entry) (f : RefusalAt HierarchyRefusalKind) → AllByRecursion (EntryStartsIn text) es → along with_entry h es ≡ Err f → HasBoundary text f
walk_spot text h [] f spots stops = no_answer h f stops
walk_spot text h (entry ∷ es) f spots stops =
    let on : (o : Result PrincipalHierarchy (RefusalAt HierarchyRefusalKind)) → with_entry h entry ≡ o → (o >>= λ next. along with_entry next es) ≡ Err f → HasBoundary text f =
    λ o. elim o as (λ p. with_entry h entry ≡ p → (p >>= λ next. along with_entry next es) ≡ Err f → HasBoundary text f) [
      | Ok next ↦ λ step e. walk_spot text next es f spots.1 e
      | Err refusal ↦ λ step e. entry_spot text h entry f spots.0 (step ∙ e)
    ] in
    on (with_entry h entry) refl stops

wrong_spot : (text : List ℕ) (f : RefusalAt HierarchyRefusalKind) (es : List Entry) → IsUtf8 text → HasEntries text es → IsFirstRefusal es f → HasBoundary text f
wrong_spot text f es ok has_entries first =
    walk_spot text _ es f (entry_spots text (to_items has_entries.form) (token_spots text has_entries.tokens ok has_entries.cut)) first

token_spot : (text : List ℕ) (tokens : List Terminal) (at : ℕ) → IsUtf8 text → IsCut text tokens → IsUnexpectedInHierarchyAt tokens at → IsCharBoundary text at
token_spot text tokens at ok cut unexpected =
    subst (λ k. IsCharBoundary text k) (sym unexpected.place)
    (middle (StartsIn text) unexpected.before unexpected.after unexpected.token
    (subst (AllByRecursion (StartsIn text)) unexpected.tokens_are (token_spots text tokens ok cut)))

-- a refusal of a text stands at a boundary
pub refused_spot : (text : List ℕ) → IsUtf8 text → (f : RefusalAt HierarchyRefusalKind) → IsRefusedText text f → HasBoundary text f
refused_spot text ok _ (Long long) = IsCharBoundary-start text ok
refused_spot text ok _ (Tokenless r fits refused) = refused_at text r ok refused
refused_spot text ok _ (Formless tokens at fits cut unexpected) = token_spot text tokens at ok cut unexpected
refused_spot text ok f (Formed tokens es _ fits cut form first) = wrong_spot text f es ok (record { fits = fits; tokens = tokens; cut = cut; form = form }) first
