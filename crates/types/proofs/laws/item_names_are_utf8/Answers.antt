use Rattle.std.specs.Prelude.{All, IsUtf8}
use Rattle.std.proofs.lemmas.Result.{IfOk-at_ok}
use Rattle.resolved.specs.Program.{Program}
use Rattle.types.specs.Laws.{item_names}
use Rattle.types.proofs.ItemNames.{names_hold}
use Rattle.types.proofs.laws.item_names_are_utf8.Goals as goal

pub returns : goal.returns
returns c h tree program utf8 e =
    IfOk-at_ok (λ (program : Program). All IsUtf8 (item_names program)) e (names_hold IsUtf8 h tree utf8)
