use Rattle.std.proofs.Common.{◌≡◌, List, subst, sym}
use Rattle.std.specs.Prelude.{IfOk}
use Rattle.modules.specs.declared.instruction.Instruction.{Instruction}
use Rattle.modules.specs.Targets.{renamed_instruction}
use Rattle.layout.proofs.Tables.{made_more}
use Rattle.lowering.specs.Threaded.{final_position}
use Rattle.lowering.proofs.Finals.{threaded-by, threaded-same}
use Rattle.lowering.proofs.threading.thread.Goals as goal

pub returns-then-has_direct_jumps : goal.returns-then-has_direct_jumps
returns-then-has_direct_jumps c =
    subst (λ (code : List Instruction). IfOk c.from_slice.result (λ made. made.items ≡ code))
    (sym (threaded-same c.args.code.now (c.has_direct_jumps.ensures c.if-has_direct_jumps.true))) c.from_slice.ensures.items

pub loop-instruction-preserved : goal.loop-instruction-preserved
loop-instruction-preserved c =
    made_more (renamed_instruction (final_position c.args.code.now)) c.args.code.now c.loop-instruction.made.items c.push.new.self.items c.loop-instruction.instruction-index _ _
    c.loop-instruction-test.true c.in_ok-push.ensures.items c.loop-instruction.invariant
    (threaded-by c.args.code.now c.in_ok-finals.finals.items c.deref.result.now _ _ c.deref.ensures.value c.in_ok-finals.ensures.positions c.thread_instruction.ensures)
