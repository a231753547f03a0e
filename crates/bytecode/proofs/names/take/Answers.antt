use Rattle.std.proofs.Common.{◌≡◌}
use Rattle.std.specs.String.{string_bytes}
use Rattle.bytecode.proofs.NewNames.{taken_after}
use Rattle.bytecode.proofs.names.take.Goals as goal

pub returns : goal.returns
returns c = λ q.
    let same : string_bytes c.in_ok-from_str.field-0 ≡ c.args.name.now = c.in_ok-from_str.ensures.ok in
    rw (← same) (taken_after (string_bytes c.in_ok-from_str.field-0) c.args.taken.now c.insert.new.self c.in_ok-insert.ensures.updates q)
