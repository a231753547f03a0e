use Rattle.modules.proofs.Operands.{numbered_operand, big_number-four}
use Rattle.modules.proofs.opcode.instruction_of.Goals as goal

pub returns-in_default : goal.returns-in_default
returns-in_default c = rw (numbered_operand c.args.opcode c.args.operand.now c.in_default.len_at_least, ← big_number-four c.args.operand.now, ← c.read_u32.ensures) c.numbered_instruction.ensures
