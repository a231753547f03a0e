-- Where a program's exits have no fault, each procedure ends only normally, by a return or by an exception that it declares.
use Rattle.std.proofs.Common.{◌≡◌, refl, sym, ◌∙◌, ℕ, zero, suc, true, false, not, ◌&&◌, List, [], ◌∷◌, ◌++◌, flat_map, is_some}
use Rattle.std.specs.Prelude.{slice_index_or, None}
use Rattle.std.specs.List.{list_all}
use Rattle.resolved.specs.declared.statement.Exit.TheVariants.{Normal}
use Rattle.resolved.specs.Tree.{Empty}
use Rattle.resolved.specs.Program.{Program, ProcedureEntry}
use Rattle.resolved.specs.Exits.{has_exit, block_exits, fault_unless}
use Rattle.resolved.specs.ExitFaults.{block_faults, procedure_faults}
use Rattle.resolved.specs.Labelled.{exit_faults}
use Rattle.resolved.specs.FaultParts.{may_exit}
use Rattle.resolved.specs.declared.fault.ExitRefusalKind.TheVariants.{NoValueReturned, Undeclared}
use Rattle.isolation.proofs.Among.{EndsAsDeclared}
use Rattle.common.proofs.Cases.{append_empty}
use Rattle.resolved.proofs.Exits.{no_fault-test}
use Rattle.resolved.proofs.Judged.{faults-apart}

procedure-ends : (program : Program) (procedure : ProcedureEntry) → procedure_faults program procedure ≡ [] →
    list_all (may_exit procedure) (block_exits program procedure.body) ≡ true
procedure-ends program procedure h =
    let ends = block_exits program procedure.body in
    let parts = append_empty
    (block_faults program false true procedure.body ++ fault_unless
    (not (is_some procedure.result && has_exit ends Normal)) NoValueReturned procedure.at)
    (fault_unless (list_all (may_exit procedure) ends) Undeclared procedure.at) h in
    no_fault-test (list_all (may_exit procedure) ends) Undeclared procedure.at parts.1

each-ends : (program : Program) (none : ProcedureEntry) → list_all (may_exit none) (block_exits program none.body) ≡ true →
    (procedures : List ProcedureEntry) → flat_map (procedure_faults program) procedures ≡ [] → (f : ℕ) →
    list_all (may_exit (slice_index_or procedures f none)) (block_exits program (slice_index_or procedures f none).body) ≡ true
each-ends program none h [] faults f = h
each-ends program none h (procedure ∷ rest) faults zero =
    procedure-ends program procedure (append_empty (procedure_faults program procedure) (flat_map (procedure_faults program) rest) faults).0
each-ends program none h (procedure ∷ rest) faults (suc f) =
    each-ends program none h rest (append_empty (procedure_faults program procedure) (flat_map (procedure_faults program) rest) faults).1 f

pub ends-as-declared : (program : Program) → exit_faults program ≡ [] → EndsAsDeclared program
ends-as-declared program h f = each-ends program (record {
  at = 0;
  name = [];
  result = None;
  begin_label = [];
  end_label = [];
  throws = [];
  parameters = 0;
  slots = [];
  loops = 0;
  body = Empty;
}) refl program.procedures (sym (faults-apart program) ∙ h) f
