-- What a module contains, apart from how it lies in memory.
-- Source: our own.
use Rattle.std.specs.Prelude.{ℕ, List, Option}
use Rattle.principals.specs.ActsFor.{PrincipalHierarchy}
use Rattle.labels.specs.Channel.{ChannelContents}
use Rattle.modules.specs.declared.instruction.Instruction.{Instruction}
use Rattle.common.specs.declared.base_type.BaseType.{BaseType}
use Rattle.modules.specs.declared.version.Version.{Version}
use Rattle.modules.specs.declared.declaration.Slot.{Slot}
use Rattle.modules.specs.declared.declaration.Global.{Global}
use Rattle.modules.specs.declared.declaration.Handler.{Handler}

-- a procedure: the kind of value that it returns, if any; how many of its first slots are parameters; the slots of a frame;
-- the code; and the handlers, the first that fits being the one that is taken
pub record ProcedureContents : Type 0 where
  pub returned : Option BaseType
  pub parameters : ℕ
  pub slots : List Slot
  pub code : List Instruction
  pub handlers : List Handler

-- a module: the version of its file, the hierarchy, the names of the declared exceptions, which are numbered from 3, the channels, the globals, the
-- procedures, and the number of the procedure where a run starts
pub record ModuleContents : Type 0 where
  pub version : Version
  pub hierarchy : PrincipalHierarchy
  pub exceptions : List (List ℕ)
  pub channels : List ChannelContents
  pub globals : List Global
  pub procedures : List ProcedureContents
  pub main : ℕ
