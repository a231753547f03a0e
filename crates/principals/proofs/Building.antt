-- What the entries of a text build, one after another.
use Rattle.std.proofs.Common.{◌≡◌, ◌≢◌, ℕ, ◌+◌, ◌<◌, Bool, true, false, List, [], ◌∷◌, ◌++◌, length, take, drop, get_or, Option, None, Some, Result, Ok, Err, refl, sym, ap, ◌∙◌, subst, append_assoc, append-nil, arith}
use Rattle.std.specs.Prelude.{Contains, slice_get, is_some, if◌then◌else◌, nat_le, ok_or}
use Rattle.std.proofs.lemmas.Bool.{false_from_ne_true, le-leb, leb-true, leb-false}
use Rattle.std.proofs.lemmas.List.{length_push, take-append-drop, drop_more, take_more, map-append, map_push}
use Rattle.std.proofs.lemmas.List.Elements.{All-push, All-weaker, Contains-get_or}
use Rattle.std.proofs.lemmas.List.Quantifiers.{all_pairs_push}
use Rattle.std.proofs.lemmas.Option.{slice_get_within}
use Rattle.common.proofs.Cases.{contained_place}
use Rattle.common.proofs.Results.{along-push, along-stop}
use Rattle.common.specs.Results.{along, ◌>>=◌}
use Rattle.common.specs.declared.limits.TheConstants.{MAX_PRINCIPALS}
use Rattle.lexer.specs.Terminal.{Terminal}
use Rattle.principals.specs.ActsFor.{PrincipalHierarchy, IsHierarchy, AllDifferent, number_of}
use Rattle.principals.specs.HierarchyText.{Entry, Declares, Relates, with_entry, refusal_for}
use Rattle.principals.specs.Reading.{declared, entry_of, entries_of, IsEntryRefusal, Twice, Crowded, UnknownLeft, UnknownRight, IsBuilt, IsFirstRefusal}
use Rattle.principals.specs.declared.reading.HierarchyStatement.{HierarchyStatement}
use Rattle.common.specs.declared.refusal.RefusalAt.{RefusalAt}
use Rattle.principals.specs.declared.fault.HierarchyRefusalKind.{HierarchyRefusalKind}
use Rattle.principals.specs.declared.fault.HierarchyRefusalKind.TheVariants as kind
use Rattle.principals.proofs.Names.{position_of_name, position_has_name, no_number}

-- ---- one entry

-- a declaration by the number of its name, if it has one, and by whether all numbers are taken
abbrev pub declares : PrincipalHierarchy → Terminal → Option ℕ → Bool → Result PrincipalHierarchy (RefusalAt HierarchyRefusalKind)
declares h name number full =
    if is_some number then Err (refusal_for kind.DeclaredTwice name.start)
    else (if full then Err (refusal_for kind.TooManyPrincipals name.start)
    else Ok (record h { names = h.names ++ name.text ∷ [] }))

-- a pair by the numbers of its names
abbrev pub relates : PrincipalHierarchy → Terminal → Terminal → Option ℕ → Option ℕ → Result PrincipalHierarchy (RefusalAt HierarchyRefusalKind)
relates h left right first second =
    ok_or first (refusal_for kind.UnknownPrincipal left.start)
    >>= λ a. ok_or second (refusal_for kind.UnknownPrincipal right.start) >>= λ b. Ok (record h { pairs = h.pairs ++ (a, b) ∷ [] })

by_both : {X Y Z : Type 0} (F : X → Y → Z) {a b : X} {c d : Y} → a ≡ b → c ≡ d → F a c ≡ F b d
by_both F {a} {b} {c} {d} e f = ap (λ x. F x c) e ∙ ap (F b) f

numbered : (names : List (List ℕ)) → AllDifferent names → (name : List ℕ) → Contains names name → (n : ℕ) × (number_of (record { names = names; pairs = [] }) name ≡ Some n)
numbered names different name there =
    let place = contained_place names name there in
    (place.0, position_of_name names different name place.0 place.1)

entry_refused : (h : PrincipalHierarchy) → AllDifferent h.names → (entry : Entry) (refusal : RefusalAt HierarchyRefusalKind) → IsEntryRefusal h.names entry refusal
    → with_entry h entry ≡ Err refusal
entry_refused h different _ _ (Twice name there) =
    let full : Bool = nat_le MAX_PRINCIPALS (length h.names) in
    by_both (declares h name) {c = full} (numbered h.names different name.text there).1 refl
entry_refused h different _ _ (Crowded name new full) =
    by_both (declares h name) (no_number h.names name.text new) (le-leb MAX_PRINCIPALS (length h.names) full)
entry_refused h different _ _ (UnknownLeft left right none) =
    let second : Option ℕ = number_of h right.text in
    by_both (relates h left right) {c = second} (no_number h.names left.text none) refl
entry_refused h different _ _ (UnknownRight left right first none) =
    by_both (relates h left right) (numbered h.names different left.text first).1 (no_number h.names right.text none)

-- ---- what is built is a hierarchy

no_hierarchy : IsHierarchy (record { names = []; pairs = [] })
no_hierarchy = record {
  few = omega arith;
  different = λ i j d l m. absurd (omega arith);
  there = λ k d l. absurd (omega arith);
}

-- a new name differs from each name before it
different-push : (names : List (List ℕ)) (name : List ℕ) → AllDifferent names → (Contains names name → ⊥) → AllDifferent (names ++ name ∷ [])
different-push names name different new =
    all_pairs_push (λ first second. first ≢ second) names name different
    (λ k d l e. new (subst (λ x. Contains names x) e (Contains-get_or names k d l)))

one_name : (h : PrincipalHierarchy) (name : List ℕ) → IsHierarchy h → (Contains h.names name → ⊥) → length h.names < 256
    → IsHierarchy (record h { names = h.names ++ name ∷ [] })
one_name h name kept new room = record {
  few = omega (arith, length_push h.names name, room);
  different = different-push h.names name kept.different new;
  there = All-weaker (λ pair. (pair.0 < length h.names) × (pair.1 < length h.names))
      (λ pair. (pair.0 < length (h.names ++ name ∷ [])) × (pair.1 < length (h.names ++ name ∷ [])))
      (λ pair below.
      let left : pair.0 < length (h.names ++ name ∷ []) = omega (arith, length_push h.names name, below.0) in
      let right : pair.1 < length (h.names ++ name ∷ []) = omega (arith, length_push h.names name, below.1) in
      (left, right))
      h.pairs kept.there;
}

one_pair : (h : PrincipalHierarchy) (a b : ℕ) → IsHierarchy h → a < length h.names → b < length h.names
    → IsHierarchy (record h { pairs = h.pairs ++ (a, b) ∷ [] })
one_pair h a b kept first second = record {
  few = kept.few;
  different = kept.different;
  there = All-push (λ pair. (pair.0 < length h.names) × (pair.1 < length h.names)) h.pairs (a, b) kept.there (first, second);
}

-- the answers, of one type
abbrev pub accepts : PrincipalHierarchy → Result PrincipalHierarchy (RefusalAt HierarchyRefusalKind)
accepts h = Ok h

abbrev pub refuses : RefusalAt HierarchyRefusalKind → Result PrincipalHierarchy (RefusalAt HierarchyRefusalKind)
refuses refusal = Err refusal

no_refusal : {P : Type 0} (refusal : RefusalAt HierarchyRefusalKind) (h : PrincipalHierarchy) → refuses refusal ≡ accepts h → P
no_refusal refusal h e = cc

pub no_answer : {P : Type 0} (h : PrincipalHierarchy) (refusal : RefusalAt HierarchyRefusalKind) → accepts h ≡ refuses refusal → P
no_answer h refusal e = cc

pub same_Err : (f g : RefusalAt HierarchyRefusalKind) → refuses f ≡ refuses g → f ≡ g
same_Err f g e = cc

same_Ok : (g h : PrincipalHierarchy) → accepts g ≡ accepts h → g ≡ h
same_Ok g h e = cc

number_within : (h : PrincipalHierarchy) (name : List ℕ) (n : ℕ) → number_of h name ≡ Some n → n < length h.names
number_within h name n e = slice_get_within h.names n name (position_has_name h.names name n e)

entry_keeps : (h : PrincipalHierarchy) (entry : Entry) (next : PrincipalHierarchy) → IsHierarchy h → with_entry h entry ≡ Ok next → IsHierarchy next
entry_keeps h (Declares name) next kept goes = by (number_of h name.text) refl (nat_le MAX_PRINCIPALS (length h.names)) refl goes
  where
    by : (number : Option ℕ) → number_of h name.text ≡ number → (full : Bool) → nat_le MAX_PRINCIPALS (length h.names) ≡ full
        → declares h name number full ≡ Ok next → IsHierarchy next
    by (Some n) is full f e = no_refusal _ next e
    by None is true f e = no_refusal _ next e
    by None is false f e =
        let new : Contains h.names name.text → ⊥ = λ there. apart is (numbered h.names kept.different name.text there) in
        let room : length h.names < 256 = leb-false MAX_PRINCIPALS (length h.names) f in
        subst IsHierarchy (same_Ok _ next e) (one_name h name.text kept new room)
      where
        apart : number_of h name.text ≡ None → ((n : ℕ) × (number_of h name.text ≡ Some n)) → ⊥
        apart none some = cc (none, some.1)
entry_keeps h (Relates left right) next kept goes = by (number_of h left.text) refl (number_of h right.text) refl goes
  where
    by : (first : Option ℕ) → number_of h left.text ≡ first → (second : Option ℕ) → number_of h right.text ≡ second
        → relates h left right first second ≡ Ok next → IsHierarchy next
    by None is second too e = no_refusal _ next e
    by (Some a) is None too e = no_refusal _ next e
    by (Some a) is (Some b) too e =
        subst IsHierarchy (same_Ok _ next e) (one_pair h a b kept (number_within h left.text a is) (number_within h right.text b too))

pub walk_keeps : (h : PrincipalHierarchy) (es : List Entry) (end : PrincipalHierarchy) → IsHierarchy h → along with_entry h es ≡ Ok end → IsHierarchy end
walk_keeps h [] end kept goes = subst IsHierarchy (same_Ok h end goes) kept
walk_keeps h (entry ∷ es) end kept goes =
    let on : (o : Result PrincipalHierarchy (RefusalAt HierarchyRefusalKind)) → with_entry h entry ≡ o → (o >>= λ next. along with_entry next es) ≡ Ok end → IsHierarchy end =
    λ o. elim o as (λ p. with_entry h entry ≡ p → (p >>= λ next. along with_entry next es) ≡ Ok end → IsHierarchy end) [
      | Ok next ↦ λ step e. walk_keeps next es end (entry_keeps h entry next kept step) e
      | Err refusal ↦ λ step e. no_refusal refusal end e
    ] in
    on (with_entry h entry) refl goes

pub built_kept : (es : List Entry) (h : PrincipalHierarchy) → IsBuilt es h → IsHierarchy h
built_kept es h is = walk_keeps (record { names = []; pairs = [] }) es h no_hierarchy is

-- ---- its names are the declared ones

declared-cons : (entry : Entry) (entries : List Entry) → declared (entry ∷ entries) ≡ declared (entry ∷ []) ++ declared entries
declared-cons (Declares name) entries = refl
declared-cons (Relates left right) entries = refl

entry_names : (h : PrincipalHierarchy) (entry : Entry) (next : PrincipalHierarchy) → with_entry h entry ≡ Ok next → next.names ≡ h.names ++ declared (entry ∷ [])
entry_names h (Declares name) next goes = by (number_of h name.text) (nat_le MAX_PRINCIPALS (length h.names)) goes
  where
    by : (number : Option ℕ) (full : Bool) → declares h name number full ≡ Ok next → next.names ≡ h.names ++ name.text ∷ []
    by (Some n) full e = no_refusal _ next e
    by None true e = no_refusal _ next e
    by None false e = sym (ap (λ (x : PrincipalHierarchy). x.names) (same_Ok _ next e))
entry_names h (Relates left right) next goes = by (number_of h left.text) (number_of h right.text) goes
  where
    by : (first second : Option ℕ) → relates h left right first second ≡ Ok next → next.names ≡ h.names ++ []
    by None second e = no_refusal _ next e
    by (Some a) None e = no_refusal _ next e
    by (Some a) (Some b) e = sym (ap (λ (x : PrincipalHierarchy). x.names) (same_Ok _ next e)) ∙ sym (append-nil h.names)

walk_names : (h : PrincipalHierarchy) (es : List Entry) (end : PrincipalHierarchy) → along with_entry h es ≡ Ok end → end.names ≡ h.names ++ declared es
walk_names h [] end goes = sym (ap (λ (x : PrincipalHierarchy). x.names) (same_Ok h end goes)) ∙ sym (append-nil h.names)
walk_names h (entry ∷ es) end goes =
    let on : (o : Result PrincipalHierarchy (RefusalAt HierarchyRefusalKind)) → with_entry h entry ≡ o → (o >>= λ next. along with_entry next es) ≡ Ok end → end.names ≡ h.names ++ declared (entry ∷ es) =
    λ o. elim o as (λ p. with_entry h entry ≡ p → (p >>= λ next. along with_entry next es) ≡ Ok end → end.names ≡ h.names ++ declared (entry ∷ es)) [
      | Ok next ↦ λ step e. walk_names next es end e ∙ ap (λ l. l ++ declared es) (entry_names h entry next step)
          ∙ append_assoc h.names (declared (entry ∷ [])) (declared es) ∙ ap (λ l. h.names ++ l) (sym (declared-cons entry es))
      | Err refusal ↦ λ step e. no_refusal refusal end e
    ] in
    on (with_entry h entry) refl goes

pub built_names : (es : List Entry) (h : PrincipalHierarchy) → IsBuilt es h → h.names ≡ declared es
built_names es h is = walk_names (record { names = []; pairs = [] }) es h is

-- ---- the steps

pub built_name : (es : List Entry) (names : List (List ℕ)) (pairs : List (ℕ × ℕ)) (name : Terminal) → IsBuilt es (record { names = names; pairs = pairs })
    → (Contains names name.text → ⊥) → length names < 256 → IsBuilt (es ++ Declares name ∷ []) (record { names = names ++ name.text ∷ []; pairs = pairs })
built_name es names pairs name is new room =
    let h : PrincipalHierarchy = record { names = names; pairs = pairs } in
    let few : nat_le MAX_PRINCIPALS (length names) ≡ false =
    false_from_ne_true (nat_le MAX_PRINCIPALS (length names)) (λ e. let full = leb-true MAX_PRINCIPALS (length names) e in absurd (omega (arith, full, room))) in
    along-push with_entry _ es (Declares name) h (record { names = names ++ name.text ∷ []; pairs = pairs }) is
    (by_both (declares h name) (no_number names name.text new) few)

pub built_pair : (es : List Entry) (names : List (List ℕ)) (pairs : List (ℕ × ℕ)) (left right : Terminal) (a b : ℕ) → IsBuilt es (record { names = names; pairs = pairs })
    → slice_get names a ≡ Some left.text → slice_get names b ≡ Some right.text → IsBuilt (es ++ Relates left right ∷ []) (record { names = names; pairs = pairs ++ (a, b) ∷ [] })
built_pair es names pairs left right a b is l r =
    let h : PrincipalHierarchy = record { names = names; pairs = pairs } in
    let different = (built_kept es h is).different in
    along-push with_entry _ es (Relates left right) h (record { names = names; pairs = pairs ++ (a, b) ∷ [] }) is
    (by_both (relates h left right) (position_of_name names different left.text a l) (position_of_name names different right.text b r))

-- the first entry that can't be added is the first refusal
pub built_refused : (es after : List Entry) (h : PrincipalHierarchy) (entry : Entry) (refusal : RefusalAt HierarchyRefusalKind) → IsBuilt es h → IsEntryRefusal h.names entry refusal
    → IsFirstRefusal (es ++ entry ∷ after) refusal
built_refused es after h entry refusal is refused =
    along-stop with_entry _ es after entry h refusal is (entry_refused h (built_kept es h is).different entry refusal refused)

-- ---- statements

-- the statements around one of them
pub entries_around : (statements : List HierarchyStatement) (i : ℕ) (d : HierarchyStatement) → i < length statements →
    entries_of statements ≡ entries_of (take i statements) ++ entry_of (get_or statements i d) ∷ entries_of (drop (i + 1) statements)
entries_around statements i d h =
    ap entries_of (sym (take-append-drop i statements) ∙ ap (λ x. take i statements ++ x) (drop_more statements i d h))
    ∙ map-append entry_of (take i statements) (get_or statements i d ∷ drop (i + 1) statements)

pub entries_more : (statements : List HierarchyStatement) (i : ℕ) (d : HierarchyStatement) → i < length statements →
    entries_of (take (i + 1) statements) ≡ entries_of (take i statements) ++ entry_of (get_or statements i d) ∷ []
entries_more statements i d h = ap entries_of (take_more statements i d h) ∙ map_push entry_of (take i statements) (get_or statements i d)

pub built_same : {es es' : List Entry} {names names' : List (List ℕ)} {pairs pairs' : List (ℕ × ℕ)} → es ≡ es' → names ≡ names' → pairs ≡ pairs' →
    IsBuilt es' (record { names = names'; pairs = pairs' }) → IsBuilt es (record { names = names; pairs = pairs })
built_same {es} {es'} {names} {names'} {pairs} {pairs'} e n p built =
    subst (λ x. IsBuilt x (record { names = names; pairs = pairs })) (sym e)
    (subst (λ x. IsBuilt es' (record { names = x; pairs = pairs })) (sym n) (subst (λ x. IsBuilt es' (record { names = names'; pairs = x })) (sym p) built))
