use Rattle.std.proofs.Common.{arith, ap, sym, ◌∙◌, ◌+◌, drop, length, take, pos, map}
use Rattle.modules.specs.Targets.{renamed_instruction}
use Rattle.verifier.specs.Positions.{position_of}
use Rattle.modules.specs.Code.{code_length}
use Rattle.modules.specs.declared.instruction.Instruction.TheVariants.{Push}
use Rattle.verifier.specs.Fixed.{instruction_refusals}
use Rattle.verifier.proofs.FixedRefusals.{instructions_on}
use Rattle.verifier.proofs.Positioned.{all_renamed, as_long, one_more}
use Rattle.modules.proofs.Widths.{code_length_more}
use Rattle.verifier.proofs.fixed.place_instructions.Goals as goal

pub put-requires : goal.put-requires
put-requires c =
    let code = c.code-code.result.now in
    omega (arith, c.loop-number-test.true, ap length c.loop-number.invariant.so_far, as_long (renamed_instruction (position_of c.args.body.now.procedure.now.code)) code c.loop-number.number c.loop-number-test.true)

pub refuse-requires-clause-short : goal.refuse-requires-clause-short
refuse-requires-clause-short c = omega (arith, ap code_length c.code-code.ensures, c.requires.body.short)

pub loop-number-preserved : goal.loop-number-preserved
loop-number-preserved c =
    let code = c.code-code.result.now in
    let m = c.args.body.now.program.now in
    let p = c.args.body.now.procedure.now in
    let n = c.loop-number.number in
    let v = c.loop-number.invariant in
    record {
      left =
          ap (λ w. instruction_refusals m c.args.procedure p w (drop (n + 1) code)) (code_length_more code n (Push (pos 0)) c.loop-number-test.true)
          ∙ sym (instructions_on m c.args.procedure p (code_length (take n code)) code n (Push (pos 0)) c.loop-number-test.true c.in-Ok.ensures.right)
          ∙ v.left;
      so_far = one_more (renamed_instruction (position_of p.code)) code c.loop-number.places c.put.new.places n (Push (pos 0)) c.in-Ok.instruction c.loop-number-test.true c.in-Ok.ensures.placed v.so_far c.put.ensures.stays c.put.ensures.changed;
    }

pub returns-clause-placed : goal.returns-clause-placed
returns-clause-placed c =
    let renamed = renamed_instruction (position_of c.args.body.now.procedure.now.code) in
    c.loop-number.invariant.so_far ∙ all_renamed renamed c.code-code.result.now c.loop-number.number (omega (arith, c.loop-number-test.false)) ∙ ap (map renamed) c.code-code.ensures
