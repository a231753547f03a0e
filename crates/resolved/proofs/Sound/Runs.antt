-- A run begins in a state that fits.
use Rattle.std.proofs.Common.{◌≡◌, refl, sym, subst, take, ℕ, [], true, ◌&&◌, ◌==◌}
use Rattle.std.specs.Prelude.{Option, Some, None, slice_get}
use Rattle.std.specs.List.{list_all}
use Rattle.std.proofs.lemmas.Bool.{eqb-true, and_parts}
use Rattle.resolved.specs.declared.expression.Variable.{Variable}
use Rattle.resolved.specs.declared.expression.Variable.TheVariants.{Global, Local}
use Rattle.resolved.specs.Program.{Program, ProcedureEntry, GlobalEntry, procedure_at}
use Rattle.common.specs.Values.{kind_of}
use Rattle.resolved.specs.SourceState.{World, cells}
use Rattle.resolved.specs.Meaning.{entering, first_state, first_cells_of_globals}
use Rattle.resolved.specs.WellFormed.{VariableType, variable_type, global_type, same_base, size_fits, label_fits, first_fits, main_fits, well_formed}
use Rattle.resolved.specs.Kinds.{CellsFit, StateFits, RunsBeginTyped, ArgumentsFit}
use Rattle.resolved.proofs.WellFormedParts.{ProcedureParts, program_parts, procedure_there, procedure_at_is, passes_at}
use Rattle.resolved.proofs.Sound.Values.{same_base_is}
use Rattle.resolved.proofs.Sound.States.{some_same, cells_of_fit, entering_fits}

-- the frame of nobody
abbrev no_slots : ProcedureEntry → ProcedureEntry
no_slots procedure = record procedure { slots = [] }

first_state_fits : (program : Program) (procedure : ProcedureEntry) (world : World) → well_formed program ≡ true
    → StateFits program (no_slots procedure) (first_state program world)
first_state_fits program procedure world h = record { fits = go }
  where
    global_fits : (entry : Option GlobalEntry) (n : ℕ) (type : VariableType) → slice_get program.globals n ≡ entry
        → global_type entry ≡ Some type → CellsFit type (first_cells_of_globals entry)
    global_fits None n type e e' = cc
    global_fits (Some entry) n type e e' =
        let all_fit : list_all (λ (entry : GlobalEntry). size_fits entry.size && label_fits program.hierarchy entry.label && first_fits entry)
        program.globals ≡ true = (and_parts (list_all _ program.globals) _ (program_parts program h).globals_are).0 in
        let fit : first_fits entry ≡ true =
        (and_parts (size_fits entry.size && label_fits program.hierarchy entry.label) _ (passes_at _ program.globals n entry all_fit e)).1 in
        let same : record { base = entry.base; size = entry.size } ≡ type = some_same e' in
        subst (λ t. CellsFit t (first_cells_of_globals (Some entry))) same
        (cells_of_fit entry.base entry.size entry.first
        (same_base_is (kind_of entry.first) entry.base (and_parts (same_base (kind_of entry.first) entry.base) _ fit).0))

    go : (x : Variable) (type : VariableType) → variable_type program (no_slots procedure) x ≡ Some type
        → CellsFit type (cells (first_state program world) x)
    go (Global n) type e = global_fits (slice_get program.globals n) n type refl e
    go (Local n) type e = cc

pub runs_begin_typed : RunsBeginTyped
runs_begin_typed program h world = go (slice_get program.procedures program.main) refl (program_parts program h).main_is
  where
    begin_fits : (main : ProcedureEntry) → main.parameters ≡ 0 → ProcedureParts program main
        → StateFits program main (entering main [] (first_state program world))
    begin_fits main none parts =
        entering_fits program (no_slots main) main (first_state program world) [] (first_state_fits program main world h)
        (subst (λ n. ArgumentsFit (take n main.slots) []) (sym none) tt) parts.parameters_written

    go : (main : Option ProcedureEntry) → slice_get program.procedures program.main ≡ main → main_fits main ≡ true
        → StateFits program (procedure_at program program.main)
        (entering (procedure_at program program.main) [] (first_state program world))
    go None e fit = cc
    go (Some main) e fit =
        let P : ProcedureEntry → Type 0 = λ there. StateFits program there (entering there [] (first_state program world)) in
        subst P (sym (procedure_at_is program program.main main e))
        (begin_fits main (eqb-true main.parameters 0 (and_parts (main.parameters == 0) _ fit).0) (procedure_there program h program.main main e))
