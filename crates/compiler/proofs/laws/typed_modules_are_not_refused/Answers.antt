use Rattle.compiler.proofs.Typed.{typed_is_not_refused}
use Rattle.compiler.proofs.laws.typed_modules_are_not_refused.Goals as goal

pub returns : goal.returns
returns c = typed_is_not_refused
