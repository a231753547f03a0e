use Rattle.std.proofs.Common.{◌≡◌, ◌++◌, map, take, drop}
use Rattle.modules.specs.Code.{code_length}
use Rattle.modules.specs.Targets.{renamed_instruction}
use Rattle.verifier.specs.Fixed.{instruction_refusals}
use Rattle.verifier.specs.Positions.{position_of}
use Rattle.verifier.proofs.fixed.place_instructions.Given as goal

-- what is left to look at, and the code with positions as targets so far
abbrev pub invariant-loop-number : goal.invariant-loop-number
invariant-loop-number l = record {
  left : instruction_refusals l.body.program.now l.procedure l.body.procedure.now (code_length (take l.number l.code)) (drop l.number l.code) ≡ instruction_refusals l.body.program.now l.procedure l.body.procedure.now 0 l.code;
  so_far : l.places ≡ map (renamed_instruction (position_of l.body.procedure.now.code)) (take l.number l.code) ++ drop l.number l.code;
}
