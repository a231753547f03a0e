-- The lines in which the program reports faults and the ends of runs. Numbers are in decimal.
-- Source: our own.
use Rattle.std.specs.Prelude.{ℕ, List, ◌++◌, codes, Bool, IsTrue}
use Rattle.std.specs.Fmt.{decimal}
use Rattle.std.specs.String.{string_bytes}
use Rattle.common.specs.Message.{MessageContents}
use Rattle.modules.specs.RefusalKinds.{format_message}
use Rattle.channels.specs.declared.kind.WorldRefusal.{WorldRefusal}
use Rattle.channels.specs.RefusalKinds.{world_message}
use Rattle.acceptance.specs.RefusalKinds.{refusal_message}
use Rattle.acceptance.specs.declared.kind.RefusalKind.TheVariants.{NotUtf8}
use Rattle.checker.specs.declared.fault.Refusal.{Refusal}
use Rattle.resolved.specs.Exceptions.{exception_name}
use Rattle.machine.specs.declared.status.Status.{Status}
use Rattle.machine.specs.declared.status.Status.TheVariants as status
use Rattle.verifier.specs.RefusalKinds.{code_message}
use Rattle.verifier.specs.declared.loading.LoadRefusal.{LoadRefusal}
use Rattle.verifier.specs.declared.loading.LoadRefusal.TheVariants.{Bytes, Code}
use Rattle.host.specs.RefusalKinds.{host_message}
use Rattle.host.specs.declared.fault.HostRefusal.TheVariants.{NotContained}
use Rattle.flowc.specs.declared.fault.PerformFault.{PerformFault}
use Rattle.flowc.specs.declared.fault.PerformFault.TheVariants.{Refused, CannotWrite, NoMemory}
use Rattle.principals.specs.declared.fault.HierarchyRefusalKind.TheVariants.{UnknownPrincipal}
use Rattle.principals.specs.RefusalKinds.{hierarchy_message}

-- ---- lines of refusals

-- what a line says after the place of a refusal: a colon, the number, the words, and a line feed
abbrev pub saying : MessageContents → List ℕ
saying message = codes ": " ++ (decimal message.number ++ (codes " " ++ (message.words ++ codes "\n")))

-- PATH:NUMBER and PATH:NUMBER:NUMBER, and what follows
abbrev pub at_one : (path : List ℕ) → (first : ℕ) → (rest : List ℕ) → List ℕ
at_one path first rest = path ++ (codes ":" ++ (decimal first ++ rest))

abbrev pub at_two : (path : List ℕ) → (first second : ℕ) → (rest : List ℕ) → List ℕ
at_two path first second rest = at_one path first (codes ":" ++ (decimal second ++ rest))

-- why the bytes of a module are refused: at a byte offset; or where its code is, at a procedure and a byte offset of it
abbrev pub module_line : (path : List ℕ) → LoadRefusal → List ℕ
module_line path (Bytes refusal) = at_one path refusal.at (saying (format_message refusal.kind))
module_line path (Code refusal) = at_two path refusal.procedure refusal.offset (saying (code_message refusal.kind))

-- bytes that are to be the text of a world and are no text
abbrev pub encoding_line : (path : List ℕ) → List ℕ
encoding_line path = at_one path 1 (saying (refusal_message NotUtf8))

-- what is wrong with the text of a world, at a line
abbrev pub world_line : (path : List ℕ) → WorldRefusal → List ℕ
world_line path refusal = at_one path refusal.line (saying (world_message refusal.kind))

-- what is wrong with a hierarchy text or a source, at a line and a column
abbrev pub text_line : (path : List ℕ) → Refusal → List ℕ
text_line path refusal = at_two path refusal.at.line refusal.at.column (saying (refusal_message refusal.kind))

-- the hierarchy of a text does not contain that of a module
abbrev pub not_contained_line : (path : List ℕ) → List ℕ
not_contained_line path = at_two path 1 1 (saying (host_message NotContained))

-- no principal of a hierarchy has the name of an observer
abbrev pub observer_line : (name : List ℕ) → List ℕ
observer_line name = name ++ saying (hierarchy_message UnknownPrincipal)

-- ---- failures

-- standard output did not take what was written, or memory ran out
abbrev pub cannot_write : List ℕ
cannot_write = codes "flowc: cannot write\n"

abbrev pub no_memory : List ℕ
no_memory = codes "flowc: no memory\n"

-- the line that reports a fault
abbrev pub line_of_fault : PerformFault → List ℕ
line_of_fault (Refused line) = string_bytes line
line_of_fault CannotWrite = cannot_write
line_of_fault NoMemory = no_memory

-- why a task was not done: what was read is refused, with one of these lines; or standard output failed; or memory ran out
abbrev pub IsPerformFault : (IsRefusal : List ℕ → Type 0) → (out_failed : Bool) → PerformFault → Type 0
IsPerformFault IsRefusal out_failed (Refused line) = IsRefusal (string_bytes line)
IsPerformFault IsRefusal out_failed CannotWrite = IsTrue out_failed
IsPerformFault IsRefusal out_failed NoMemory = Unit {0}

-- ---- ends of runs

-- how a run ended or stands
abbrev pub end_line : (declared : List (List ℕ)) → Status → List ℕ
end_line declared status.Finished = codes "finished\n"
end_line declared (status.Threw exception) = codes "threw " ++ (exception_name declared exception ++ codes "\n")
end_line declared status.Deep = codes "deep\n"
end_line declared status.Running = codes "running\n"
end_line declared status.NoMemory = codes "no memory\n"
