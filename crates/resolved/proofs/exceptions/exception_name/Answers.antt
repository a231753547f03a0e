use Rattle.std.proofs.Common.{◌≡◌, ◌∙◌, ap, sym, ◌-◌, suc, [], map, arith}
use Rattle.std.specs.Prelude.{unwrap_or}
use Rattle.std.specs.String.{string_bytes}
use Rattle.resolved.proofs.ExceptionNames.{declared_name}
use Rattle.resolved.proofs.exceptions.exception_name.Goals as goal

pub returns-in_default : goal.returns-in_default
returns-in_default c =
    let after : c.args.exception ≡ suc (suc (suc (c.args.exception - 3))) = omega arith in
    c.declared_name.ensures
    ∙ sym (ap (λ name. unwrap_or name []) (declared_name (map string_bytes c.args.declared.now) c.args.exception (c.args.exception - 3) after))
