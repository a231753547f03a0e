use Rattle.std.proofs.Common.{[], length, ◌+◌, ◌-◌, ◌≡◌, ◌≤◌}
use Rattle.modules.specs.ByteFormat.{code_at}
use Rattle.modules.specs.Opcodes.{instructions}
use Rattle.bytecode.proofs.code.read_instructions.Given as goal

-- what is left to read goes on to what reading gives from the start
abbrev pub invariant-loop-room : goal.invariant-loop-room
invariant-loop-room l = record {
  goes_on : code_at (instructions l.version) (l.size - length l.code.items) l.room l.code.items l.rest ≡ code_at (instructions l.version) l.size l.size [] l.bytes;
  few : l.room + length l.code.items ≤ l.size;
}

abbrev pub decreases-loop-room : goal.decreases-loop-room
decreases-loop-room l = l.room
