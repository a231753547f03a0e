use Rattle.std.proofs.lemmas.Result.{err_from_is_err_and}
use Rattle.std.specs.BTreeSet.{contains_text}
use Rattle.bytecode.specs.Reading.{texts}
use Rattle.bytecode.proofs.NewNames.{declared-fails, declared-read}
use Rattle.bytecode.proofs.channels.read_declared.Goals as goal

pub returns-in_err-channels : goal.returns-in_err-channels
returns-in_err-channels c =
    let p = err_from_is_err_and c.from_residual-in_err-channels.result c.from_residual-in_err-channels.ensures.1 in
    rw (p.1, p.2, ← c.count.ensures.count) (declared-fails c.in_err-channels.field-0.0 c.count.result (contains_text c.read_exceptions.new.taken) c.args.bytes.now (texts c.in_ok-exceptions.exceptions.items) c.in_ok-exceptions.rest.now c.in_ok-exceptions.ensures.gives c.in_ok-exceptions.ensures.taken c.in_err-channels.ensures)

pub returns : goal.returns
returns c =
    rw (← c.count.ensures.count) (declared-read c.count.result (contains_text c.read_exceptions.new.taken) c.args.bytes.now (texts c.in_ok-exceptions.exceptions.items) c.in_ok-exceptions.rest.now c.in_ok-channels.channels.items c.in_ok-channels.rest.now c.in_ok-exceptions.ensures.gives c.in_ok-exceptions.ensures.taken c.in_ok-channels.ensures)
