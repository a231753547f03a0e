use Rattle.std.proofs.Common.{◌≡◌, ◌-◌, sym, arith, [], append-nil, drop, take, length}
use Rattle.std.proofs.lemmas.List.{length-drop, take_all}
use Rattle.bytecode.proofs.Widths.{inside_room, bytes_at-length}
use Rattle.bytecode.proofs.code.read_instruction.Goals as goal

-- an instruction without an operand
pub returns-clause-gives : goal.returns-clause-gives
returns-clause-gives c =
    let bytes = c.args.bytes.now in
    let rest : take (length bytes - 1) (drop 1 bytes) ≡ drop 1 bytes = take_all (length bytes - 1) (drop 1 bytes) (omega (arith, length-drop 1 bytes)) in
    rw rest (rw (append-nil bytes, append-nil (drop 1 bytes)) at (c.in-Some.ensures.gives c.args.room [] (omega (arith, c.if-room-gt0.true))))

pub returns-2-clause-inside : goal.returns-2-clause-inside
returns-2-clause-inside c = inside_room c.args.version c.in_ok-opcode.opcode c.in_ok-operand.operand.now c.in-Some-instruction_of.instruction c.in-Some-width_after.width c.args.room (sym c.in-Some-width_after.ensures.width) (bytes_at-length _ _ _ _ c.in_ok-operand.ensures) (sym c.in-Some-instruction_of.ensures) (omega arith)
