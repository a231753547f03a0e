use Rattle.std.proofs.Common.{IsTrue}
use Rattle.std.proofs.lemmas.Result.{IfOk-at_ok}
use Rattle.common.specs.declared.limits.TheConstants.{MAX_TEXT}
use Rattle.syntax.specs.Written.{Anywhere, IsNameWithin}
use Rattle.resolved.specs.Program.{Program}
use Rattle.resolved.specs.WellFormed.{well_formed}
use Rattle.types.proofs.WellFormedPrograms.{resolution_keeps}
use Rattle.types.proofs.laws.found_programs_are_well_formed.Goals as goal

pub returns : goal.returns
returns c h tree program hierarchy is e =
    IfOk-at_ok (λ (one : Program). IsTrue (well_formed one)) e (resolution_keeps Anywhere (IsNameWithin MAX_TEXT) h tree hierarchy is.written is.few)
