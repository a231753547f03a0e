use Rattle.std.proofs.Common.{length, take, ◌++◌, ◌≡◌}
use Rattle.std.specs.List.{flat_map}
use Rattle.bytecode.specs.Writing.{number_bytes}
use Rattle.modules.specs.Opcodes.{code_bytes, instruction_bytes}
use Rattle.bytecode.proofs.encoding.put_code.Given as goal

-- the length and the instructions up to here are written
abbrev pub invariant-loop-instruction : goal.invariant-loop-instruction
invariant-loop-instruction l = l.out.items ≡ l.fn.out.items ++ (number_bytes (length (code_bytes l.code)) ++ flat_map instruction_bytes (take l.instruction-index l.code))
