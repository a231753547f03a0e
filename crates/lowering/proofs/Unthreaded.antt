-- The graph of a program before its code is threaded, and that it then is the graph of the program.
use Rattle.std.proofs.Common.{◌≡◌, refl, ap, List, [], ◌∷◌, map}
use Rattle.modules.specs.Contents.{ProcedureContents, ModuleContents}
use Rattle.resolved.specs.Program.{Program, ProcedureEntry}
use Rattle.lowering.specs.Graphs.{body_code, procedure_contents, graph_of}
use Rattle.lowering.specs.Threaded.{threaded}

abbrev pub threaded_procedure : ProcedureContents → ProcedureContents
threaded_procedure procedure = record procedure { code = threaded procedure.code }

abbrev pub threaded_graph : ModuleContents → ModuleContents
threaded_graph graph = record graph { procedures = map threaded_procedure graph.procedures }

abbrev pub unthreaded_procedure : Program → ProcedureEntry → ProcedureContents
unthreaded_procedure program procedure = record (procedure_contents program procedure) { code = body_code program procedure.body }

abbrev pub unthreaded_graph : Program → ModuleContents
unthreaded_graph program = record (graph_of program) { procedures = map (unthreaded_procedure program) program.procedures }

pub procedures-threaded : (program : Program) (procedures : List ProcedureEntry)
    → map (procedure_contents program) procedures ≡ map threaded_procedure (map (unthreaded_procedure program) procedures)
procedures-threaded program [] = refl
procedures-threaded program (procedure ∷ procedures) = ap (λ (rest : List ProcedureContents). procedure_contents program procedure ∷ rest) (procedures-threaded program procedures)

pub graph-threaded : (program : Program) → graph_of program ≡ threaded_graph (unthreaded_graph program)
graph-threaded program = ap (λ (procedures : List ProcedureContents). record (graph_of program) { procedures = procedures }) (procedures-threaded program program.procedures)
