use Rattle.std.proofs.Common.{[], ◌++◌, ◌∷◌, ◌≡◌}
use Rattle.std.specs.BTreeSet.{contains_text}
use Rattle.std.proofs.lemmas.List.{map_push}
use Rattle.std.proofs.lemmas.Result.{err_from_is_err_and}
use Rattle.std.specs.String.{string_bytes}
use Rattle.bytecode.specs.Reading.{texts}
use Rattle.bytecode.proofs.NewNames.{in_set_more, names_fails, names_go_on}
use Rattle.bytecode.proofs.names.read_names.Goals as goal

pub returns-in_err-name-clause-gives : goal.returns-in_err-name-clause-gives
returns-in_err-name-clause-gives c =
    let p = err_from_is_err_and c.from_residual.result c.from_residual.ensures.1 in
    rw (p.1, p.2) (names_fails c.in_err-name.field-0.0 (contains_text c.args.taken.now) (contains_text c.loop.taken) c.args.count c.loop.counter (texts c.loop.names.items) c.loop.rest.now _ c.loop-test.true c.loop.invariant.has c.in_err-name.ensures c.loop.invariant.goes_on)

pub loop-preserved : goal.loop-preserved
loop-preserved c =
    let items : texts c.push.new.self.items ≡ texts c.loop.names.items ++ string_bytes c.in_ok-name.name ∷ [] = rw c.in_ok-push.ensures.items (map_push _ c.loop.names.items c.in_ok-name.name) in
    record {
      goes_on = rw items (names_go_on (contains_text c.args.taken.now) (contains_text c.loop.taken) c.args.count c.loop.counter (texts c.loop.names.items) c.loop.rest.now (string_bytes c.in_ok-name.name) c.in_ok-name.after.now _ c.loop-test.true c.loop.invariant.has c.in_ok-name.ensures c.loop.invariant.goes_on);
      has = rw items (in_set_more (contains_text c.args.taken.now) (contains_text c.loop.taken) _ (texts c.loop.names.items) (string_bytes c.in_ok-name.name) c.loop.invariant.has (rw c.as_str.ensures.value at c.in_ok-take.ensures));
    }
