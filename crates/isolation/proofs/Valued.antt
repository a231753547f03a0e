-- A call of a procedure with a value ends normally only with one, of its base type.
use Rattle.std.proofs.Common.{◌≡◌, refl, sym, ap, ◌∙◌, subst, ℕ, zero, suc, List, [], ◌∷◌, ◌++◌, Bool, true, false, not, ◌&&◌, flat_map, is_some}
use Rattle.std.specs.Prelude.{Option, Some, None, slice_get}
use Rattle.std.specs.List.{list_all}
use Rattle.resolved.specs.declared.statement.Exit.{Exit}
use Rattle.resolved.specs.declared.statement.Exit.TheVariants.{Normal, Return, Break, Continue, Throw}
use Rattle.resolved.specs.Program.{Program, ProcedureEntry, ResultEntry}
use Rattle.common.specs.Values.{kind_of}
use Rattle.resolved.specs.SourceState.{SourceState}
use Rattle.resolved.specs.Meaning.{Outcome, Ended, Stopped, leaving, entering, calls_with, block_meaning}
use Rattle.resolved.specs.Exits.{has_exit, block_exits, fault_unless}
use Rattle.resolved.specs.ExitFaults.{block_faults, procedure_faults}
use Rattle.resolved.specs.FaultParts.{may_exit}
use Rattle.resolved.specs.declared.fault.ExitRefusalKind.TheVariants.{NoValueReturned, Undeclared}
use Rattle.resolved.specs.WellFormed.{has_result, same_base}
use Rattle.resolved.specs.Kinds.{OutcomeFits}
use Rattle.resolved.proofs.WellFormedParts.{ProcedureParts, procedure_there, procedure_at_is}
use Rattle.resolved.proofs.Sound.Values.{same_base_is}
use Rattle.resolved.proofs.Sound.States.{entering_fits}
use Rattle.resolved.proofs.Sound.Meanings.{meaning_keeps_types}
use Rattle.resolved.proofs.Sound.Returning.{ReturnsSome, block_some}
use Rattle.isolation.specs.Runs.{GivesValue, CallsGiveTheirValue}
use Rattle.isolation.proofs.Among.{Among, block-among, calls-among}
use Rattle.isolation.proofs.Declared.{ends-as-declared}
use Rattle.common.proofs.Cases.{append_empty}
use Rattle.resolved.proofs.Exits.{no_fault-test}
use Rattle.resolved.proofs.Judged.{faults-apart}

-- a procedure with a value does not end normally
no-normal : (program : Program) (procedure : ProcedureEntry) (value : ResultEntry) → procedure_faults program procedure ≡ [] → procedure.result ≡ Some value →
    has_exit (block_exits program procedure.body) Normal ≡ false
no-normal program procedure value h is =
    let ends : List Exit = block_exits program procedure.body in
    let before = (append_empty
    (block_faults program false true procedure.body ++ fault_unless (not (is_some procedure.result && has_exit ends Normal)) NoValueReturned procedure.at)
    (fault_unless (list_all (may_exit procedure) ends) Undeclared procedure.at) h).0 in
    let own = (append_empty (block_faults program false true procedure.body)
    (fault_unless (not (is_some procedure.result && has_exit ends Normal)) NoValueReturned procedure.at) before).1 in
    turned (has_exit ends Normal) (sym (ap (λ (r : Option ResultEntry). not (is_some r && has_exit ends Normal)) is)
    ∙ no_fault-test (not (is_some procedure.result && has_exit ends Normal)) NoValueReturned procedure.at own)
  where
    turned : (b : Bool) → not (true && b) ≡ true → b ≡ false
    turned false e = refl
    turned true e = let no : false ≡ true = e in absurd (cc)

pub faultless-there : (program : Program) (procedures : List ProcedureEntry) → flat_map (procedure_faults program) procedures ≡ [] → (f : ℕ) (callee : ProcedureEntry) →
    slice_get procedures f ≡ Some callee → procedure_faults program callee ≡ []
faultless-there program [] none f callee there = absurd (let no : None ≡ Some callee = there in cc)
faultless-there program (first ∷ rest) none zero callee there =
    let is : Some first ≡ Some callee = there in let same : first ≡ callee = cc in
    subst (λ p. procedure_faults program p ≡ []) same (append_empty (procedure_faults program first) (flat_map (procedure_faults program) rest) none).0
faultless-there program (first ∷ rest) none (suc f) callee there =
    faultless-there program rest (append_empty (procedure_faults program first) (flat_map (procedure_faults program) rest) none).1 f callee there

leaving-gives : (program : Program) (callee : ProcedureEntry) (value : ResultEntry) (back : SourceState → SourceState) (o : Outcome) → callee.result ≡ Some value →
    has_exit (block_exits program callee.body) Normal ≡ false → Among (block_exits program callee.body) o → ReturnsSome o →
    OutcomeFits program callee Return callee.result o → GivesValue value.base (leaving back o)
leaving-gives program callee value back (Ended Normal r t) is never among some fits = let no : true ≡ false = sym among.among ∙ never in absurd (cc)
leaving-gives program callee value back (Ended Return None t) is never among some fits = absurd some
leaving-gives program callee value back (Ended Return (Some v) t) is never among some fits =
    let given : has_result callee.result (same_base (kind_of v)) ≡ true = fits.returned in
    same_base_is (kind_of v) value.base (sym (ap (λ (r : Option ResultEntry). has_result r (same_base (kind_of v))) is) ∙ given)
leaving-gives program callee value back (Ended Break r t) is never among some fits = tt
leaving-gives program callee value back (Ended Continue r t) is never among some fits = tt
leaving-gives program callee value back (Ended (Throw x) r t) is never among some fits = tt
leaving-gives program callee value back (Stopped stop t) is never among some fits = tt

pub calls-give : (program : Program) → CallsGiveTheirValue program
calls-give program formed none f callee value there is caller s state arguments fit zero k = tt
calls-give program formed none f callee value there is caller s state arguments fit (suc frames) k =
    let parts : ProcedureParts program callee = procedure_there program formed f callee there in
    let inner : SourceState = entering callee arguments s in
    let back : SourceState → SourceState = λ t. record t { locals = s.locals } in
    let P : ProcedureEntry → Type 0 = λ p. GivesValue value.base (leaving back (block_meaning (calls_with program k frames) k p.body (entering p arguments s))) in
    subst P (sym (procedure_at_is program f callee there))
    (leaving-gives program callee value back (block_meaning (calls_with program k frames) k callee.body inner) is
    (no-normal program callee value (faultless-there program program.procedures (sym (faults-apart program) ∙ none) f callee there) is)
    (block-among callee.body program (calls_with program k frames) k (calls-among program k frames (ends-as-declared program none)) inner)
    (block_some program callee value is k frames callee.body inner parts.body_fits)
    (meaning_keeps_types program formed callee callee.body parts.body_fits frames k inner
    (entering_fits program caller callee s arguments state fit parts.parameters_written)))
