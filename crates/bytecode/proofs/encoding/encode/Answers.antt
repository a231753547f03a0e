use Rattle.std.proofs.Common.{sym, ◌∙◌}
use Rattle.bytecode.proofs.Both.{module_spells}
use Rattle.bytecode.proofs.Written.{module-bytes}
use Rattle.bytecode.proofs.encoding.encode.Goals as goal

pub returns : goal.returns
returns c =
    module_spells c.args.program.now _ c.in_ok-put_module.ensures.spelled
    (rw c.new-out.ensures.items at c.in_ok-put_module.ensures.written ∙ sym (module-bytes c.args.program.now c.in_ok-put_module.ensures.spelled))
