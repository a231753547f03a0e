use Rattle.std.proofs.Common.{◌∙◌, refl}
use Rattle.channels.proofs.Views.{on_err}
use Rattle.listing.proofs.Listed.{code_left, code_next, cut, went_on}
use Rattle.listing.proofs.lister.write_code.Goals as goal

pub returns-in_err-write_all-clause-prefix : goal.returns-in_err-write_all-clause-prefix
returns-in_err-write_all-clause-prefix g c =
    on_err c.from_residual-in_err-write_all.result _
    (cut _ _ _ _ _ _ _
    (code_next c.args.code.now c.loop-instruction.instruction-index c.loop-instruction.offset _ _ _ c.loop-instruction-test.true (c.as_bytes.ensures.value ∙ c.in_ok-line.ensures) refl)
    c.loop-instruction.invariant.listed c.in_err-write_all.ensures.prefix)

pub loop-instruction-preserved : goal.loop-instruction-preserved
loop-instruction-preserved g c = record {
  listed = went_on _ _ _ _ _ _ _
      (code_next c.args.code.now c.loop-instruction.instruction-index c.loop-instruction.offset _ _ _ c.loop-instruction-test.true (c.as_bytes.ensures.value ∙ c.in_ok-line.ensures) c.width-offset.ensures)
      c.loop-instruction.invariant.listed c.in_ok-write_all.ensures.accepted;
  left = code_left c.args.code.now c.loop-instruction.instruction-index c.loop-instruction.offset _ _ c.loop-instruction-test.true c.width-offset.ensures
      c.loop-instruction.invariant.left;
  kept = c.in_ok-write_all.ensures.kept ∙ c.loop-instruction.invariant.kept;
}
