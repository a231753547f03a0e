-- The number and the words of what is wrong in a module's code, and of what bytes are refused for.
-- Source: our own.
use Rattle.std.specs.Prelude.{codes}
use Rattle.common.specs.Message.{MessageContents, message}
use Rattle.modules.specs.RefusalKinds.{format_message}
use Rattle.verifier.specs.declared.fault.CodeRefusalKind.{CodeRefusalKind}
use Rattle.verifier.specs.declared.fault.CodeRefusalKind.TheVariants.{Jump, OperandKind, OperandDepth, SlotOrIndex, FallsOffEnd}
use Rattle.verifier.specs.declared.loading.LoadRefusal.{LoadRefusal}
use Rattle.verifier.specs.declared.loading.LoadRefusal.TheVariants.{Bytes, Code}

abbrev pub code_message : CodeRefusalKind → MessageContents
code_message Jump = message 811 (codes "jump")
code_message OperandKind = message 812 (codes "operand kind")
code_message OperandDepth = message 813 (codes "operand depth")
code_message SlotOrIndex = message 814 (codes "slot or index")
code_message FallsOffEnd = message 815 (codes "falls off the end")

abbrev pub load_message : LoadRefusal → MessageContents
load_message (Bytes refusal) = format_message refusal.kind
load_message (Code refusal) = code_message refusal.kind
