use Rattle.std.proofs.Common.{Err, arith, sym, ◌∙◌, ◌≡◌}
use Rattle.modules.specs.ByteFormat.{read_all}
use Rattle.modules.specs.Format.{module_file}
use Rattle.modules.specs.ContentsOf.{contents_of}
use Rattle.bytecode.proofs.Both.{module_again, module_fits, module_taken}
use Rattle.bytecode.proofs.Inside.{stop_inside}
use Rattle.bytecode.proofs.Steps.{same_value}
use Rattle.bytecode.proofs.decoding.decode.Goals as goal

pub new-requires : goal.new-requires
new-requires c =
    module_fits (contents_of c.in-Ok.contents) c.args.bytes.now
    (module_taken c.args.bytes.now (contents_of c.in-Ok.contents) (record { below = λ i. omega (arith, c.type_inv.bytes i) }) c.in-Ok.ensures)

pub returns-in-Ok-clause-accepted : goal.returns-in-Ok-clause-accepted
returns-in-Ok-clause-accepted c =
    rw c.new.ensures (module_taken c.args.bytes.now (contents_of c.in-Ok.contents) (record { below = λ i. omega (arith, c.type_inv.bytes i) }) c.in-Ok.ensures)

pub returns-in-Ok-clause-complete : goal.returns-in-Ok-clause-complete
returns-in-Ok-clause-complete c = λ m spells.
    c.new.ensures ∙ same_value (contents_of c.in-Ok.contents) m (sym c.in-Ok.ensures ∙ module_again c.args.bytes.now m spells)

pub returns-in-Err-Refused-clause-complete : goal.returns-in-Err-Refused-clause-complete
returns-in-Err-Refused-clause-complete c = λ m spells.
    let stopped : read_all module_file c.args.bytes.now ≡ Err c.in-Err-Refused.stop = rw c.in-Err-Refused.field-0-is at c.in-Err-Refused.ensures in
    absurd (cc (stopped, module_again c.args.bytes.now m spells))

pub overflow_sub-at : goal.overflow_sub-at
overflow_sub-at c =
    let stopped : read_all module_file c.args.bytes.now ≡ Err c.in-Err-Refused.stop = rw c.in-Err-Refused.field-0-is at c.in-Err-Refused.ensures in
    omega (arith, stop_inside module_file c.args.bytes.now c.in-Err-Refused.stop stopped)
