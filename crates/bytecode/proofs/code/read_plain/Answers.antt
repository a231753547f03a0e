use Rattle.std.proofs.Common.{sym, ap, ◌∙◌}
use Rattle.modules.proofs.Spelling.{since_has}
use Rattle.modules.specs.Versions.{exists_in}
use Rattle.modules.specs.declared.version.Version.{Version}
use Rattle.bytecode.proofs.Widths.{plain_is_first}
use Rattle.bytecode.proofs.code.read_plain.Goals as goal

pub returns-then-has-clause-gives : goal.returns-then-has-clause-gives
returns-then-has-clause-gives c =
    let version = c.args.version in
    plain_is_first version c.args.bytes.now c.in_ok-instruction.instruction c.requires (sym c.instruction_of.ensures ∙ c.in_ok-instruction.was)
    (sym (since_has version c.in_ok-instruction.instruction)
    ∙ ap (λ (since : Version). exists_in since version) (sym c.entry_of.ensures.since) ∙ sym c.has.ensures ∙ c.if-has.true)
