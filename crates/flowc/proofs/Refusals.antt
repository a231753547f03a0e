-- What is refused is wrong.
use Rattle.std.proofs.Common.{◌≡◌, ap, sym, ◌∙◌, subst, arith, Some, None, ℕ, List, [], ◌∷◌, refl, inl, inr, ◌⊎◌, Bool, true, false, IsTrue, ◌↔◌, Option, Result, Ok, Err, IfOk, IfErr, OnErr, MatchResult}
use Rattle.acceptance.proofs.Phases.{read_fits}
use Rattle.acceptance.specs.Accepted.{HasHierarchy}
use Rattle.acceptance.specs.Refused.{IsHierarchyRefused, IsNoText, NotUtf8, TooLong, Unreadable, Wrong}
use Rattle.acceptance.specs.declared.kind.RefusalKind.{RefusalKind}
use Rattle.channels.specs.View.{ShowsPrefix}
use Rattle.checker.specs.Reported.{HasNoHierarchy}
use Rattle.modules.specs.Contents.{ModuleContents}
use Rattle.channels.specs.World.{InputNumbers, input_names}
use Rattle.channels.specs.WorldText.{IsWorldRefusal, IsWorldText, world_of}
use Rattle.channels.specs.declared.kind.WorldRefusal.{WorldRefusal}
use Rattle.common.specs.declared.fault.OrNoMemory.{OrNoMemory}
use Rattle.common.specs.declared.fault.OrNoMemory.TheVariants as or
use Rattle.machine.specs.Run.{names_of}
use Rattle.machine.specs.declared.fault.NewRefusal.{NewRefusal}
use Rattle.machine.specs.declared.fault.NewRefusal.TheVariants.{UnknownChannel}
use Rattle.std.specs.Result.{IsErrAnd}
use Rattle.std.proofs.lemmas.Result.{err_from_is_err_and}
use Rattle.common.specs.declared.sent.Pair.{Pair}
use Rattle.principals.specs.ActsFor.{PrincipalHierarchy, ContainsHierarchy}
use Rattle.principals.specs.Laws.{HasOneHierarchy, IsNotReadAndRefused}
use Rattle.modules.specs.ByteFormat.{Spells}
use Rattle.modules.specs.Format.{module_file}
use Rattle.host.specs.Meaning.{hierarchy_under}
use Rattle.flowc.specs.View.{IsObserver}
use Rattle.flowc.specs.Stdout.{CannotRun, IsViewedUnder, ShowsRun, ShowsSome}
use Rattle.flowc.specs.Task.{status_of_fault}
use Rattle.flowc.specs.declared.ended.Ended.{Ended}
use Rattle.flowc.specs.declared.fault.PerformFault.{PerformFault}
use Rattle.flowc.specs.declared.fault.PerformFault.TheVariants.{Refused, CannotWrite, NoMemory}

-- a text with a wrong line is no world
pub wrong_is_no_world : (inputs : List (List ℕ)) (lines : List (List (List ℕ))) (refusal : WorldRefusal)
    → IsWorldRefusal inputs lines refusal → IsWorldText inputs lines → ⊥
wrong_is_no_world inputs lines refusal wrong right =
    let here = right wrong.index wrong.there in
    let there = wrong.wrong in
    cc

-- the world of a text has the inputs that it was read for
pub names_of-world_of : (inputs : List (List ℕ)) (lines : List (List (List ℕ))) → names_of (world_of inputs lines) ≡ inputs
names_of-world_of [] lines = refl
names_of-world_of (input ∷ inputs) lines = ap (λ rest. input ∷ rest) (names_of-world_of inputs lines)

-- the world that was read for a module is a world for it
pub named_world : (m w : ModuleContents) (numbers : List InputNumbers) (lines : List (List (List ℕ))) → w ≡ m
    → numbers ≡ world_of (input_names w) lines → names_of numbers ≡ input_names m
named_world m w numbers lines is read =
    ap names_of read ∙ names_of-world_of (input_names w) lines ∙ ap input_names is

-- a machine is refused for the names of the inputs alone
pub unknown_channel : {T : Type 0} (fault : OrNoMemory NewRefusal) (refusal : NewRefusal) → fault ≡ or.Refused refusal
    → ◌≡◌ {A = Result T (OrNoMemory NewRefusal)} (Err fault) (Err (or.Refused UnknownChannel))
unknown_channel fault UnknownChannel is = ap (λ f. Err f) is

-- what a run shows, or why it shows nothing
pub run_shows : (code text code' text' : List ℕ) (under under' name name' : Option (List ℕ)) (steps status : ℕ) (old new : Option (List ℕ)) (outcome : Result Ended PerformFault)
    → IfOk outcome (λ ended. ShowsRun code' text' under' name' steps ended.status old new)
    → IfErr outcome (λ fault. status_of_fault fault ≡ 1 → CannotRun code' text' under' name')
    → IfErr outcome (λ fault. status_of_fault fault ≡ 1 → old ≡ new)
    → OnErr outcome (ShowsSome code' text' under' name' steps old new)
    → MatchResult outcome (λ ended. status ≡ ended.status) (λ fault. status ≡ status_of_fault fault)
    → code' ≡ code → text' ≡ text → under' ≡ under → name' ≡ name
    → ((status ≡ 1) × (old ≡ new) × CannotRun code text under name)
    ⊎ (((status ≡ 3) × ShowsSome code text under name steps old new) ⊎ ShowsRun code text under name steps status old new)
run_shows code text code' text' under under' name name' steps status old new (Ok ended) shown refused quiet some is c t u n =
    inr (inr (rw (is, sym c, sym t, sym u, sym n) shown))
run_shows code text code' text' under under' name name' steps status old new (Err (Refused line)) shown refused quiet some is c t u n =
    inl (is, quiet refl, rw (sym c, sym t, sym u, sym n) (refused refl))
run_shows code text code' text' under under' name name' steps status old new (Err CannotWrite) shown refused quiet some is c t u n =
    inr (inl (is, rw (sym c, sym t, sym u, sym n) some))
run_shows code text code' text' under under' name name' steps status old new (Err NoMemory) shown refused quiet some is c t u n =
    inr (inl (is, rw (sym c, sym t, sym u, sym n) some))

-- ---- hierarchies of texts

no_text_no_hierarchy : (text : List ℕ) (kind : RefusalKind) (at : ℕ) → IsNoText text kind at → HasNoHierarchy text
no_text_no_hierarchy text _ _ (TooLong long) h has = omega (arith, long, read_fits text h has.hierarchy_of)
no_text_no_hierarchy text _ _ (NotUtf8 short other) h has = other has.characters

-- a text that is refused has no hierarchy
pub refused_no_hierarchy : IsNotReadAndRefused → (text : List ℕ) (kind : RefusalKind) (at : ℕ) → IsHierarchyRefused text kind at → HasNoHierarchy text
refused_no_hierarchy not_both text _ _ (Unreadable kind at no_text) h has = no_text_no_hierarchy text kind at no_text h has
refused_no_hierarchy not_both text _ _ (Wrong is_text refusal refused) h has = not_both text h refusal has.hierarchy_of refused

-- what was tested and is not so, of a module's hierarchy that was lent
pub not_contained_in : (h lent : PrincipalHierarchy) (m : ModuleContents) (contains : Bool) → (IsTrue contains ↔ ContainsHierarchy h lent) → contains ≡ false
    → lent ≡ m.hierarchy → ¬ ContainsHierarchy h m.hierarchy
not_contained_in h lent m contains tested is same contained =
    let holds = tested.1 (subst (ContainsHierarchy h) (sym same) contained) in
    absurd (let no : false ≡ true = sym is ∙ holds in cc)

-- then no run is viewed under the text
pub not_viewed : HasOneHierarchy → (m : ModuleContents) (text : List ℕ) (h : PrincipalHierarchy) → HasHierarchy text h → ¬ ContainsHierarchy h m.hierarchy
    → (k : PrincipalHierarchy) → ¬ IsViewedUnder m (Some text) k
not_viewed once m text h has outside k viewed =
    outside (subst (λ (x : PrincipalHierarchy). ContainsHierarchy x m.hierarchy) (once text k h viewed.0.hierarchy_of has.hierarchy_of) viewed.1)

-- what is viewed under the module's own hierarchy
pub viewed_own : {X E : Type 0} (outcome : Result X E) (larger : Option PrincipalHierarchy) (m lent : ModuleContents) (principal : Option ℕ) (sent got : List Pair)
    (old new : Option (List ℕ)) → larger ≡ None → lent ≡ m → got ≡ sent
    → OnErr outcome (ShowsPrefix lent.hierarchy lent principal got old new)
    → OnErr outcome (ShowsPrefix (hierarchy_under larger m) m principal sent old new)
viewed_own outcome larger m lent principal sent got old new none is same shows = rw (none, sym is, sym same) shows

-- ---- what is viewed under no hierarchy, or by no principal, cannot be run

-- a run is viewed under one hierarchy at most
pub viewed_once : HasOneHierarchy → (m : ModuleContents) (under : Option (List ℕ)) (h k : PrincipalHierarchy) → IsViewedUnder m under h → IsViewedUnder m under k → h ≡ k
viewed_once once m None h k is also = is ∙ sym also
viewed_once once m (Some text) h k is also = once text h k is.0.hierarchy_of also.0.hierarchy_of

-- whichever hierarchy a run of the one module of the bytes is viewed under is not there
pub viewed_by_none : {X : Type 0} (outcome : Result X PerformFault) (code text : List ℕ) (under name : Option (List ℕ)) (m lent : ModuleContents) (fault : PerformFault)
    → ((other : ModuleContents) → Spells module_file other code → m ≡ other) → lent ≡ m → IsErrAnd outcome (λ other. other ≡ fault)
    → (status_of_fault fault ≡ 1 → (h : PrincipalHierarchy) → ¬ IsViewedUnder lent under h)
    → IfErr outcome (λ other. status_of_fault other ≡ 1 → CannotRun code text under name)
viewed_by_none outcome code text under name m lent fault only is given none =
    let same = err_from_is_err_and outcome given in
    rw (same.1, same.2)
    (λ one program h principal can. none one h (subst (λ (w : ModuleContents). IsViewedUnder w under h) (sym (is ∙ only program can.spelled)) can.viewed))

-- nor is a principal of the name
pub observed_by_none : {X : Type 0} (outcome : Result X PerformFault) (code text : List ℕ) (under name : Option (List ℕ)) (m lent : ModuleContents) (larger : Option PrincipalHierarchy)
    (fault : PerformFault) → ((other : ModuleContents) → Spells module_file other code → m ≡ other) → lent ≡ m → IsViewedUnder m under (hierarchy_under larger m)
    → HasOneHierarchy → IsErrAnd outcome (λ other. other ≡ fault)
    → (status_of_fault fault ≡ 1 → (principal : Option ℕ) → ¬ IsObserver (hierarchy_under larger lent) name principal)
    → IfErr outcome (λ other. status_of_fault other ≡ 1 → CannotRun code text under name)
observed_by_none outcome code text under name m lent larger fault only is viewed once given none =
    let same = err_from_is_err_and outcome given in
    rw (same.1, same.2)
    (λ one program h principal can.
    let here = subst (λ (w : ModuleContents). IsViewedUnder w under h) (sym (only program can.spelled)) can.viewed in
    let one_view : h ≡ hierarchy_under larger m = viewed_once once m under h (hierarchy_under larger m) here viewed in
    none one principal
    (subst (λ (w : ModuleContents). IsObserver (hierarchy_under larger w) name principal) (sym is) (subst (λ (x : PrincipalHierarchy). IsObserver x name principal) one_view can.observed)))
