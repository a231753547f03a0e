-- The program of the definitions that a program of the code stands for: each label that its tables name by a number is whole there.
-- Source: our own.
use Rattle.std.specs.Prelude.{ℕ, List, map, Option, Some, None, String, string_bytes}
use Rattle.std.specs.declared.alloc.Global.{Global}
use Rattle.principals.specs.ActsFor.{PrincipalHierarchy}
use Rattle.labels.specs.Label.{Label}
use Rattle.labels.specs.LabelTable.{label_at}
use Rattle.resolved.specs.declared.tables.Channel.{Channel}
use Rattle.resolved.specs.declared.tables.GlobalVariable.{GlobalVariable}
use Rattle.resolved.specs.declared.tables.Slot.{Slot}
use Rattle.resolved.specs.declared.tables.ResultType.{ResultType}
use Rattle.resolved.specs.declared.tables.Thrown.{Thrown}
use Rattle.resolved.specs.declared.tables.Procedure.{Procedure}
use Rattle.labels.specs.Channel.{ChannelContents}
use Rattle.resolved.specs.Program.{Program, GlobalEntry, SlotEntry, ResultEntry, ThrownEntry, ProcedureEntry}
use Rattle.resolved.specs.TreeOf.{block_of}

abbrev pub channel_entry : List Label → Channel → ChannelContents
channel_entry labels channel =
    record { direction = channel.direction; name = string_bytes channel.name; label = label_at labels channel.label }

abbrev pub global_entry : List Label → GlobalVariable → GlobalEntry
global_entry labels variable = record {
  name = string_bytes variable.name;
  base = variable.base;
  size = variable.size;
  label = label_at labels variable.label;
  first = variable.first;
}

-- the label that is written, if one is
abbrev pub written_at : List Label → Option ℕ → Option Label
written_at labels None = None
written_at labels (Some number) = Some (label_at labels number)

abbrev pub slot_entry : List Label → Slot → SlotEntry
slot_entry labels slot = record {
  base = slot.base;
  size = slot.size;
  written = written_at labels slot.written;
  at = slot.at;
  name = slot.name;
}

abbrev pub result_entry : List Label → Option ResultType → Option ResultEntry
result_entry labels None = None
result_entry labels (Some type) = Some (record { base = type.base; label = label_at labels type.label })

abbrev pub thrown_entry : List Label → Thrown → ThrownEntry
thrown_entry labels thrown = record { exception = thrown.exception; label = label_at labels thrown.label }

abbrev pub procedure_entry : List Label → Procedure → ProcedureEntry
procedure_entry labels procedure = record {
  at = procedure.at;
  name = string_bytes procedure.name;
  result = result_entry labels procedure.result;
  begin_label = label_at labels procedure.begin_label;
  end_label = label_at labels procedure.end_label;
  throws = map (thrown_entry labels) procedure.throws.items;
  parameters = procedure.parameters;
  slots = map (slot_entry labels) procedure.slots.items;
  loops = procedure.loops;
  body = block_of procedure.body.items;
}

-- the program with these tables
abbrev pub program_from : PrincipalHierarchy → (labels : List Label)
    → List Channel → (exceptions : List (String Global)) → List GlobalVariable → List Procedure → (main : ℕ) → Program
program_from hierarchy labels channels exceptions globals procedures main = record {
  hierarchy = hierarchy;
  channels = map (channel_entry labels) channels;
  exceptions = map string_bytes exceptions;
  globals = map (global_entry labels) globals;
  procedures = map (procedure_entry labels) procedures;
  main = main;
}
