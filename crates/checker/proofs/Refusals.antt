-- What is refused of either text is the first fault of the two.
use Rattle.std.proofs.Common.{◌≡◌, ℕ, List, refl, sym, subst, arith}
use Rattle.std.specs.Prelude.{None}
use Rattle.principals.specs.ActsFor.{PrincipalHierarchy}
use Rattle.principals.specs.Laws.{IsNotReadAndRefused}
use Rattle.acceptance.specs.Accepted.{HasHierarchy}
use Rattle.acceptance.specs.Laws.{HasOneVerdict, Accepted, Refused}
use Rattle.acceptance.proofs.Phases.{hierarchy_refused, read_fits}
use Rattle.acceptance.proofs.Texts.{no_text_fault}
use Rattle.acceptance.specs.Refused.{IsHierarchyRefused, IsNoText, NoText, NotUtf8, Source, TooLong, Unreadable, Wrong}
use Rattle.acceptance.specs.declared.kind.RefusalKind.{RefusalKind}
use Rattle.acceptance.specs.declared.kind.RefusalKind.TheVariants as kinds
use Rattle.acceptance.specs.declared.kind.Text.{Text}
use Rattle.acceptance.specs.declared.kind.Text.TheVariants as texts
use Rattle.checker.specs.Read.{IsUnread}
use Rattle.checker.specs.Reported.{HasFlow, HasNoHierarchy, IsFirstFault, IsHierarchyFault, IsSourceFault, StandForNone, refusal_at}
use Rattle.checker.specs.declared.fault.Refusal.{Refusal}

pub in_hierarchy : (hierarchy source : List ℕ) (kind : RefusalKind) (at : ℕ) → IsHierarchyRefused hierarchy kind at →
    IsFirstFault hierarchy source (refusal_at texts.Hierarchy hierarchy kind at None)
in_hierarchy hierarchy source kind at refused = record {
  at = at;
  refused = hierarchy_refused hierarchy source kind at refused;
  place_of = refl;
}

-- bytes that are no text have no hierarchy
no_text_no_hierarchy : (text : List ℕ) (kind : RefusalKind) (at : ℕ) → IsNoText text kind at → (h : PrincipalHierarchy) → ¬ HasHierarchy text h
no_text_no_hierarchy text _ _ (TooLong long) h has = omega (arith, long, read_fits text h has.hierarchy_of)
no_text_no_hierarchy text _ _ (NotUtf8 short other) h has = other has.characters

-- nor has a text that is refused
no_hierarchy : IsNotReadAndRefused → (text : List ℕ) (kind : RefusalKind) (at : ℕ) → IsHierarchyRefused text kind at → HasNoHierarchy text
no_hierarchy one text _ _ (Unreadable kind at no_text) h has = no_text_no_hierarchy text kind at no_text h has
no_hierarchy one text _ _ (Wrong is_text refusal refused) h has = one text h refusal has.hierarchy_of refused

pub faulty_no_hierarchy : IsNotReadAndRefused → (text : List ℕ) (refusal : Refusal) → IsHierarchyFault text refusal → HasNoHierarchy text
faulty_no_hierarchy one text refusal fault = no_hierarchy one text fault.kind fault.at fault.refused

pub unread_fault : (text : List ℕ) (refusal : Refusal) → IsUnread texts.Hierarchy text refusal → IsHierarchyFault text refusal
unread_fault text refusal unread =
    record { kind = unread.kind; at = 0; refused = Unreadable unread.kind 0 unread.no_text; refusal_is = unread.refusal_is }

-- bytes of a hierarchy that are no text
pub unread_hierarchy : (hierarchy source : List ℕ) (refusal : Refusal) → IsUnread texts.Hierarchy hierarchy refusal → IsFirstFault hierarchy source refusal
unread_hierarchy hierarchy source refusal unread =
    subst (IsFirstFault hierarchy source) (sym unread.refusal_is)
    (in_hierarchy hierarchy source unread.kind 0 (Unreadable unread.kind 0 unread.no_text))

-- and of a source
pub unread_source : (h : PrincipalHierarchy) (source : List ℕ) (refusal : Refusal) → IsUnread texts.Source source refusal → IsSourceFault h source refusal
unread_source h source refusal unread =
    subst (IsSourceFault h source) (sym unread.refusal_is)
    (record { text_is = refl; at = 0; refused = NoText unread.kind (no_text_fault source unread.kind 0 unread.no_text).0; place_of = refl })

-- what is refused of the source under the hierarchy of the other text is the first fault of the two
pub in_source : (hierarchy source : List ℕ) (h : PrincipalHierarchy) → HasHierarchy hierarchy h → (refusal : Refusal) → IsSourceFault h source refusal →
    IsFirstFault hierarchy source refusal
in_source hierarchy source h has refusal fault = record {
  at = fault.at;
  refused = rw fault.text_is (Source h has refusal.kind fault.at fault.refused);
  place_of = rw fault.text_is fault.place_of;
}

-- two texts with a first fault stand for no program
pub stand_for_none : HasOneVerdict → (hierarchy source : List ℕ) (refusal : Refusal) → IsFirstFault hierarchy source refusal →
    StandForNone hierarchy source
stand_for_none one hierarchy source refusal first program stand =
    let refused = Refused refusal.text refusal.kind first.at in
    let same : Accepted program ≡ refused = one hierarchy source (Accepted program) refused stand first.refused in
    absurd (cc)

-- bytes that are no text are refused for no flow
no_text_no_flow : (bytes : List ℕ) (kind : RefusalKind) → IsNoText bytes kind 0 → kind ≡ kinds.FlowNotAllowed → ⊥
no_text_no_flow bytes _ (TooLong long) is = absurd (cc)
no_text_no_flow bytes _ (NotUtf8 short other) is = absurd (cc)

pub unread_no_flow : (text : Text) (bytes : List ℕ) (refusal : Refusal) → IsUnread text bytes refusal → HasFlow refusal
unread_no_flow text bytes refusal unread =
    subst HasFlow (sym unread.refusal_is)
    ((λ is. absurd (no_text_no_flow bytes unread.kind unread.no_text is)), (λ some. absurd (cc)))
