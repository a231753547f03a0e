-- What is written to standard error, from what the steps of a task report.
use Rattle.std.proofs.Common.{◌≡◌, ◌∙◌, sym, subst, arith, refl, ℕ, List, [], Bool, true, false, IsTrue, inl, inr, Option, Result, Ok, Err, IfOk, IfErr, MatchResult, Some}
use Rattle.std.specs.String.{string_bytes}
use Rattle.std.specs.Str.{IsUtf8}
use Rattle.std.proofs.lemmas.Result.{err_from_is_err_and}
use Rattle.principals.specs.ActsFor.{PrincipalHierarchy}
use Rattle.std.specs.Result.{IsErrAnd}
use Rattle.modules.specs.Contents.{ModuleContents}
use Rattle.modules.specs.ByteFormat.{Spells}
use Rattle.modules.specs.Format.{module_file}
use Rattle.common.specs.Answers.{IfRefused}
use Rattle.common.specs.declared.fault.OrNoMemory.{OrNoMemory}
use Rattle.common.specs.declared.fault.OrNoMemory.TheVariants as or
use Rattle.channels.specs.World.{input_names}
use Rattle.channels.specs.WorldText.{IsWorldRefusal, lines_of}
use Rattle.channels.specs.declared.kind.WorldRefusal.{WorldRefusal}
use Rattle.channels.specs.declared.sink.SinkFault.{SinkFault}
use Rattle.verifier.specs.Refusals.{IsNotRefused}
use Rattle.verifier.specs.Loaded.{CannotLoad}
use Rattle.verifier.specs.declared.loading.LoadRefusal.{LoadRefusal}
use Rattle.flowc.specs.Lines.{IsPerformFault, cannot_write, line_of_fault, module_line, no_memory, world_line}
use Rattle.flowc.specs.Task.{fault_of_view, status_of_fault}
use Rattle.flowc.specs.Compiled.{NamedText, bytes_of}
use Rattle.flowc.specs.Stdout.{IsViewedUnder}
use Rattle.flowc.specs.Messages.{AreSound, IsEndLine, IsFaultLine, IsHierarchyLine, IsModuleLine, IsObserverLine, IsRefusedLine, IsRunLine, IsTextsLine, IsUnderLine, IsWorldLine, WroteLine}
use Rattle.flowc.specs.Messages.IsRefusedLine.{of_hierarchy, of_module, of_observer, of_world}
use Rattle.flowc.specs.Messages.IsWorldLine.{wrong}
use Rattle.flowc.specs.declared.ended.Ended.{Ended}
use Rattle.flowc.specs.declared.fault.PerformFault.{PerformFault}
use Rattle.flowc.specs.declared.fault.PerformFault.TheVariants.{Refused, CannotWrite, NoMemory}

-- a fault that is passed on is reported in the same line, which may be one of another kind
as_other : (P Q : List ℕ → Type 0) (failed : Bool) (fault : PerformFault) → ((line : List ℕ) → P line → Q line) → IsPerformFault P false fault → IsPerformFault Q failed fault
as_other P Q failed (Refused line) also message = also (string_bytes line) message
as_other P Q failed CannotWrite also message = absurd (let no : false ≡ true = message in cc)
as_other P Q failed NoMemory also message = tt

passed_on : {X : Type 0} (outcome : Result X PerformFault) (P Q : List ℕ → Type 0) (failed : Bool) (fault : PerformFault) → ((line : List ℕ) → P line → Q line)
    → IsErrAnd outcome (λ other. other ≡ fault) → IsPerformFault P false fault → IfErr outcome (IsPerformFault Q failed)
passed_on outcome P Q failed fault also is message =
    let same = err_from_is_err_and outcome is in
    rw (same.1, same.2) (as_other P Q failed fault also message)

-- what is reported of the module, of the world, of the hierarchy and of the observer is reported of the run
abbrev AnyRefusedLine : (code world : NamedText) → List ℕ → Type 0
AnyRefusedLine code world line = (under : Option NamedText) (observer : Option (List ℕ)) → IsRefusedLine code world under observer line

pub module_message : {X : Type 0} (outcome : Result X PerformFault) (code world : NamedText) (fault : PerformFault)
    → IsErrAnd outcome (λ other. other ≡ fault) → IsPerformFault (IsModuleLine code.path code.bytes) false fault
    → IfErr outcome (IsPerformFault (AnyRefusedLine code world) false)
module_message outcome code world fault =
    passed_on outcome (IsModuleLine code.path code.bytes) (AnyRefusedLine code world) false fault (λ line wrong under observer. of_module wrong)

pub world_message : {X : Type 0} (outcome : Result X PerformFault) (m lent : ModuleContents) (code world : NamedText) (fault : PerformFault)
    → Spells module_file m code.bytes → IsNotRefused m → lent ≡ m
    → IsErrAnd outcome (λ other. other ≡ fault) → IsPerformFault (IsWorldLine lent world.path world.bytes) false fault
    → IfErr outcome (IsPerformFault (AnyRefusedLine code world) false)
world_message outcome m lent code world fault spelled not_refused is =
    passed_on outcome (IsWorldLine lent world.path world.bytes) (AnyRefusedLine code world) false fault
    (λ line wrong under observer. of_world m spelled not_refused (subst (λ (w : ModuleContents). IsWorldLine w world.path world.bytes line) is wrong))

pub start_message : {X : Type 0} (outcome : Result X PerformFault) (code world : NamedText) (under : Option NamedText) (observer : Option (List ℕ)) (failed : Bool)
    (fault : PerformFault) → IsErrAnd outcome (λ other. other ≡ fault)
    → IsPerformFault (λ line. (file : Option NamedText) (name : Option (List ℕ)) → IsRefusedLine code world file name line) false fault
    → IfErr outcome (IsPerformFault (IsRefusedLine code world under observer) failed)
start_message outcome code world under observer failed fault =
    passed_on outcome (λ line. (file : Option NamedText) (name : Option (List ℕ)) → IsRefusedLine code world file name line) (IsRefusedLine code world under observer) failed fault
    (λ line wrong. wrong under observer)

pub under_message : {X : Type 0} (outcome : Result X PerformFault) (m lent : ModuleContents) (code world : NamedText) (under : Option NamedText) (observer : Option (List ℕ))
    (failed : Bool) (fault : PerformFault) → AreSound code.bytes world.bytes m → lent ≡ m
    → IsErrAnd outcome (λ other. other ≡ fault) → IsPerformFault (IsUnderLine lent under) false fault
    → IfErr outcome (IsPerformFault (IsRefusedLine code world under observer) failed)
under_message outcome m lent code world under observer failed fault sound is =
    passed_on outcome (IsUnderLine lent under) (IsRefusedLine code world under observer) failed fault
    (λ line wrong. of_hierarchy m sound (subst (λ (w : ModuleContents). IsUnderLine w under line) is wrong))

-- what is reported of the hierarchy of a file is reported of one that is named
pub named_message : {X : Type 0} (outcome : Result X PerformFault) (m : ModuleContents) (file : NamedText) (under : Option NamedText) (fault : PerformFault)
    → under ≡ Some file → IsErrAnd outcome (λ other. other ≡ fault) → IsPerformFault (IsHierarchyLine m file) false fault
    → IfErr outcome (IsPerformFault (IsUnderLine m under) false)
named_message outcome m file under fault named =
    passed_on outcome (IsHierarchyLine m file) (IsUnderLine m under) false fault (λ line wrong. (file, named, wrong))

pub observer_message : {X : Type 0} (outcome : Result X PerformFault) (m : ModuleContents) (h : PrincipalHierarchy) (code world : NamedText) (under : Option NamedText)
    (observer : Option (List ℕ)) (failed : Bool) (fault : PerformFault) → AreSound code.bytes world.bytes m → IsViewedUnder m (bytes_of under) h
    → IsErrAnd outcome (λ other. other ≡ fault) → IsPerformFault (IsObserverLine h observer) false fault
    → IfErr outcome (IsPerformFault (IsRefusedLine code world under observer) failed)
observer_message outcome m h code world under observer failed fault sound viewed =
    passed_on outcome (IsObserverLine h observer) (IsRefusedLine code world under observer) failed fault
    (λ line unknown. of_observer m sound h viewed unknown)

-- ---- refusals

-- why bytes are not loaded
pub refused_module : (path code line : List ℕ) (fault : OrNoMemory LoadRefusal) (refusal : LoadRefusal) → fault ≡ or.Refused refusal
    → IfRefused (CannotLoad code) fault → line ≡ module_line path refusal → IsModuleLine path code line
refused_module path code line fault refusal is message says =
    record { refusal = refusal; refused = subst (IfRefused (CannotLoad code)) is message; says = says }

-- the first wrong line of a text, which is those bytes
pub wrong_line : (m : ModuleContents) (path text bytes line : List ℕ) (fault : OrNoMemory WorldRefusal) (refusal : WorldRefusal) → fault ≡ or.Refused refusal
    → IfRefused (IsWorldRefusal (input_names m) (lines_of text)) fault → text ≡ bytes → IsUtf8 bytes → line ≡ world_line path refusal
    → IsWorldLine m path bytes line
wrong_line m path text bytes line fault refusal is message same encoded says =
    wrong refusal encoded
    (subst (λ (b : List ℕ). IsWorldRefusal (input_names m) (lines_of b) refusal) same
    (subst (IfRefused (IsWorldRefusal (input_names m) (lines_of text))) is message))
    says

-- ---- texts that were not written to their end

view_message : (P : List ℕ → Type 0) (failed : Bool) (given : OrNoMemory SinkFault) → IfRefused (λ _. IsTrue failed) given → IsPerformFault P failed (fault_of_view given)
view_message P failed or.NoMemory holds = tt
view_message P failed (or.Refused fault) holds = holds

-- standard output has failed, or memory ran out
pub unwritten_message : {X : Type 0} (outcome : Result X PerformFault) (P : List ℕ → Type 0) (failed : Bool) (given : OrNoMemory SinkFault)
    → IsErrAnd outcome (λ other. other ≡ fault_of_view given) → IfRefused (λ _. IsTrue failed) given → IfErr outcome (IsPerformFault P failed)
unwritten_message outcome P failed given is holds =
    let same = err_from_is_err_and outcome is in
    rw (same.1, same.2) (view_message P failed given holds)

view_status : (given : OrNoMemory SinkFault) → status_of_fault (fault_of_view given) ≡ 1 → ⊥
view_status or.NoMemory one = omega (arith, one)
view_status (or.Refused fault) one = omega (arith, one)

-- which is no refusal
pub unwritten_status : {X : Type 0} (outcome : Result X PerformFault) (P : Type 0) (given : OrNoMemory SinkFault)
    → IsErrAnd outcome (λ other. other ≡ fault_of_view given) → IfErr outcome (λ fault. status_of_fault fault ≡ 1 → P)
unwritten_status outcome P given is =
    let same = err_from_is_err_and outcome is in
    rw (same.1, same.2) (λ one. absurd (view_status given one))

-- where memory ran out nothing is refused
pub memory_message : {X : Type 0} (outcome : Result X PerformFault) (P : List ℕ → Type 0) (failed : Bool) → IfErr outcome (λ fault. fault ≡ NoMemory)
    → IfErr outcome (IsPerformFault P failed)
memory_message (Ok x) P failed is = tt
memory_message (Err fault) P failed is = rw is tt

pub memory_status : {X : Type 0} (outcome : Result X PerformFault) (P : Type 0) → IfErr outcome (λ fault. fault ≡ NoMemory)
    → IfErr outcome (λ fault. status_of_fault fault ≡ 1 → P)
memory_status (Ok x) P is = tt
memory_status (Err fault) P is = rw is (λ one. absurd (omega (arith, one)))

-- ---- tasks

-- what a task reports that is silent where all is well
pub fault_message : {X : Type 0} (line_of : X → List ℕ) (status_of : X → ℕ) (outcome : Result X PerformFault) (P Q : List ℕ → Type 0)
    (status : ℕ) (out_failed : Bool) (old new : Option (List ℕ)) (failed : Bool)
    → IfOk outcome (λ x. line_of x ≡ []) → IfOk outcome (λ x. status_of x ≡ 0)
    → IfErr outcome (IsPerformFault P out_failed) → ((line : List ℕ) → P line → Q line)
    → MatchResult outcome (λ x. status ≡ status_of x) (λ fault. status ≡ status_of_fault fault)
    → MatchResult outcome (λ x. WroteLine (line_of x) old new failed) (λ fault. WroteLine (line_of_fault fault) old new failed)
    → (line : List ℕ) × IsFaultLine Q status out_failed line × WroteLine line old new failed
fault_message line_of status_of (Ok x) P Q status out_failed old new failed silent zero message also is out =
    (line_of x, inl (is ∙ zero, silent), out)
fault_message line_of status_of (Err (Refused line)) P Q status out_failed old new failed silent zero message also is out =
    (string_bytes line, inr (inl (is, also (string_bytes line) message)), out)
fault_message line_of status_of (Err CannotWrite) P Q status out_failed old new failed silent zero message also is out =
    (cannot_write, inr (inr (is, inl (message, refl))), out)
fault_message line_of status_of (Err NoMemory) P Q status out_failed old new failed silent zero message also is out =
    (no_memory, inr (inr (is, inr refl)), out)

-- a line that reports two texts reports the same texts under other names
pub texts_named : (hierarchy_path source_path hierarchy source hierarchy_path' source_path' hierarchy' source' : List ℕ)
    → hierarchy_path' ≡ hierarchy_path → source_path' ≡ source_path → hierarchy' ≡ hierarchy → source' ≡ source
    → (line : List ℕ) → IsTextsLine hierarchy_path' source_path' hierarchy' source' line → IsTextsLine hierarchy_path source_path hierarchy source line
texts_named hp sp h s hp' sp' h' s' p q e f line message = rw (sym p, sym q, sym e, sym f) message

pub module_named : (path code path' code' : List ℕ) → path' ≡ path → code' ≡ code → (line : List ℕ) → IsModuleLine path' code' line → IsModuleLine path code line
module_named path code path' code' p e line message = rw (sym p, sym e) message

-- what a run reports
pub run_message : (outcome : Result Ended PerformFault) (code world code' world' : NamedText) (under under' : Option NamedText)
    (name name' : Option (List ℕ)) (steps status : ℕ) (out_failed : Bool) (old new : Option (List ℕ)) (failed : Bool)
    → IfOk outcome (λ ended. IsEndLine code'.bytes world'.bytes (bytes_of under') name' steps ended.status (string_bytes ended.line))
    → IfErr outcome (IsPerformFault (IsRefusedLine code' world' under' name') out_failed)
    → MatchResult outcome (λ ended. status ≡ ended.status) (λ fault. status ≡ status_of_fault fault)
    → MatchResult outcome (λ ended. WroteLine (string_bytes ended.line) old new failed) (λ fault. WroteLine (line_of_fault fault) old new failed)
    → code' ≡ code → world' ≡ world → under' ≡ under → name' ≡ name
    → (line : List ℕ) × IsRunLine code world under name steps status out_failed line × WroteLine line old new failed
run_message (Ok ended) c w c' w' u u' n n' steps status out_failed old new failed end message is out e f g h =
    (string_bytes ended.line, inr (inr (rw (is, sym e, sym f, sym g, sym h) end)), out)
run_message (Err (Refused line)) c w c' w' u u' n n' steps status out_failed old new failed end message is out e f g h =
    (string_bytes line, inl (is, rw (sym e, sym f, sym g, sym h) message), out)
run_message (Err CannotWrite) c w c' w' u u' n n' steps status out_failed old new failed end message is out e f g h =
    (cannot_write, inr (inl (is, inl (message, refl))), out)
run_message (Err NoMemory) c w c' w' u u' n n' steps status out_failed old new failed end message is out e f g h =
    (no_memory, inr (inl (is, inr refl)), out)

-- bytes that are left for a file come with no line
pub ok_is_silent : {X : Type 0} (outcome : Result X PerformFault) → IfOk outcome (λ x. ◌≡◌ {A = List ℕ} [] [])
ok_is_silent (Ok x) = refl
ok_is_silent (Err fault) = tt
