use Rattle.std.proofs.Common.{ap, sym, ◌∙◌, ◌≡◌, true, false}
use Rattle.std.specs.Prelude.{if◌then◌else◌}
use Rattle.modules.specs.declared.version.Version.TheVariants.{One, Two}
use Rattle.resolved.specs.BitUse.{uses_bits}
use Rattle.resolved.specs.CoreOf.{program_of}
use Rattle.resolved.proofs.Judged.{bits-apart}
use Rattle.lowering.proofs.versions.module_version.Goals as goal

pub returns-then-uses_bits : goal.returns-then-uses_bits
returns-then-uses_bits c =
    let program = program_of c.args.core.now in
    let uses : uses_bits program ≡ true = bits-apart program ∙ sym c.uses_bits.ensures ∙ c.if-uses_bits.true in
    sym (ap (λ b. if b then Two else One) uses)

pub returns-else-uses_bits : goal.returns-else-uses_bits
returns-else-uses_bits c =
    let program = program_of c.args.core.now in
    let none : uses_bits program ≡ false = bits-apart program ∙ sym c.uses_bits.ensures ∙ c.if-uses_bits.false in
    sym (ap (λ b. if b then Two else One) none)
