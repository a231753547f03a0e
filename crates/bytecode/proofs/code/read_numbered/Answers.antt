use Rattle.bytecode.proofs.Widths.{numbered_firsts}
use Rattle.bytecode.proofs.code.read_numbered.Goals as goal

pub returns-clause-gives : goal.returns-clause-gives
returns-clause-gives c = numbered_firsts c.args.bytes.now c.first_number.result _ c.numbered_instruction.result c.requires c.first_number.ensures c.numbered_instruction.ensures
