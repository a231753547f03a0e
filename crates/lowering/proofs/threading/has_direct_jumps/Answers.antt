use Rattle.std.proofs.Common.{List, subst}
use Rattle.std.specs.Prelude.{All}
use Rattle.std.proofs.lemmas.List.{take_all}
use Rattle.std.proofs.lemmas.List.Elements.{All-more}
use Rattle.modules.specs.declared.instruction.Instruction.{Instruction}
use Rattle.lowering.specs.Direct.{IsDirect}
use Rattle.lowering.proofs.threading.has_direct_jumps.Goals as goal

pub loop-instruction-preserved : goal.loop-instruction-preserved
loop-instruction-preserved c =
    All-more (IsDirect c.args.code.now) c.args.code.now c.loop-instruction.instruction-index _ c.loop-instruction-test.true c.loop-instruction.invariant
    (c.is_direct.ensures c.if-not-is_direct.false)

pub returns : goal.returns
returns c = λ _.
    subst (λ (instructions : List Instruction). All (IsDirect c.args.code.now) instructions)
    (take_all c.loop-instruction.instruction-index c.args.code.now c.loop-instruction-test.false) c.loop-instruction.invariant
