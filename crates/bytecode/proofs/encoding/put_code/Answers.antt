use Rattle.std.proofs.Common.{arith, subst, sym, ◌++◌, ◌∙◌, ◌≡◌, ℕ}
use Rattle.bytecode.specs.Writing.{number_bytes}
use Rattle.modules.proofs.Spelling.{bytes-length}
use Rattle.bytecode.proofs.encoding.put_code.Goals as goal

pub overflow_cast-code_length : goal.overflow_cast-code_length
overflow_cast-code_length c = omega (arith, bytes-length c.args.code.now, c.requires, c.code_length.ensures)

pub loop-instruction-init : goal.loop-instruction-init
loop-instruction-init c =
    let P : ℕ → Type 0 = λ n. c.put_number.new.out.items ≡ c.args.out.now.items ++ number_bytes n in
    subst P (c.code_length.ensures ∙ sym (bytes-length c.args.code.now)) c.in_ok-put_number.ensures
