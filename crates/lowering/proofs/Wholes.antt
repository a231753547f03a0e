-- A graph by its parts.
use Rattle.std.proofs.Common.{◌≡◌, ℕ, List, map}
use Rattle.principals.specs.ActsFor.{PrincipalHierarchy}
use Rattle.modules.specs.declared.declaration.Global.{Global}
use Rattle.modules.specs.declared.version.Version.{Version}
use Rattle.labels.specs.Channel.{ChannelContents}
use Rattle.modules.specs.Contents.{ProcedureContents, ModuleContents}
use Rattle.resolved.specs.Program.{Program}
use Rattle.lowering.specs.Interface.{module_version, hierarchy_contents, global_contents}
use Rattle.lowering.specs.Graphs.{procedure_contents, graph_of}

pub graph-made : (program : Program) (version : Version) (hierarchy : PrincipalHierarchy) (exceptions : List (List ℕ)) (channels : List ChannelContents) (globals : List Global) (procedures : List ProcedureContents)
    → version ≡ module_version program → hierarchy ≡ hierarchy_contents program.hierarchy → exceptions ≡ program.exceptions → channels ≡ program.channels
    → globals ≡ map global_contents program.globals → procedures ≡ map (procedure_contents program) program.procedures
    → ◌≡◌ {A = ModuleContents} (record {
      version = version;
      hierarchy = hierarchy;
      exceptions = exceptions;
      channels = channels;
      globals = globals;
      procedures = procedures;
      main = program.main;
    }) (graph_of program)
graph-made program version hierarchy exceptions channels globals procedures v h e c g p =
    λ i. record { version = v i; hierarchy = h i; exceptions = e i; channels = c i; globals = g i; procedures = p i; main = program.main }
