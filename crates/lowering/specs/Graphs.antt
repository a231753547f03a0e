-- Private: the graph of a program: its version, the code of each procedure, and the tables of its globals, channels and exceptions.
-- Source: our own.
use Rattle.std.specs.Prelude.{Bool, true, false, List, [], ◌∷◌, ◌++◌, map}
use Rattle.resolved.specs.Tree.{Block}
use Rattle.resolved.specs.Program.{Program, ProcedureEntry}
use Rattle.modules.specs.declared.instruction.Instruction.{Instruction}
use Rattle.modules.specs.declared.instruction.Instruction.TheVariants.{Return}
use Rattle.modules.specs.Contents.{ProcedureContents, ModuleContents}
use Rattle.lowering.specs.Interface.{module_version, hierarchy_contents, global_contents, slot_contents, returned_kind}
use Rattle.lowering.specs.Code.{Loop, block_falls, block_code, block_table}
use Rattle.lowering.specs.Threaded.{threaded}

-- a return after a body that may end normally
abbrev pub end_code : (falls : Bool) → List Instruction
end_code true = Return ∷ []
end_code false = []

-- outside a loop, where no `break` and no `continue` stands
abbrev pub no_loop : Loop
no_loop = record { beyond = 0; test = 0 }

abbrev pub body_code : Program → Block → List Instruction
body_code program body = block_code program no_loop 0 body ++ end_code (block_falls body)

abbrev pub procedure_contents : Program → ProcedureEntry → ProcedureContents
procedure_contents program procedure = record {
  returned = returned_kind procedure.result;
  parameters = procedure.parameters;
  slots = map slot_contents procedure.slots;
  code = threaded (body_code program procedure.body);
  handlers = block_table program 0 procedure.body;
}

abbrev pub graph_of : Program → ModuleContents
graph_of program = record {
  version = module_version program;
  hierarchy = hierarchy_contents program.hierarchy;
  exceptions = program.exceptions;
  channels = program.channels;
  globals = map global_contents program.globals;
  procedures = map (procedure_contents program) program.procedures;
  main = program.main;
}
