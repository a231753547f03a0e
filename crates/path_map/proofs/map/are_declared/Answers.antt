use Rattle.std.proofs.Common.{ℕ, ◌&&◌, not, take, get_or, ap, ◌∙◌, sym}
use Rattle.std.specs.Prelude.{◌==◌}
use Rattle.std.proofs.lemmas.List.{get_or_default}
use Rattle.resolved.specs.declared.tables.Thrown.{Thrown}
use Rattle.path_map.specs.Exceptions.{exceptions_of, is_one_of}
use Rattle.path_map.specs.Sets.{members}
use Rattle.path_map.proofs.Procedures.{declared-more}
use Rattle.path_map.proofs.map.are_declared.Goals as goal
use Rattle.path_map.proofs.Rows.{not-more}

pub loop-thrown-preserved : goal.loop-thrown-preserved
loop-thrown-preserved c = λ e.
    let i : ℕ = c.loop-thrown.thrown-index in
    let throws = c.args.throws.now in
    let none : Thrown = record { exception = 0; label = 0 } in
    let thrown : Thrown = get_or throws i none in
    c.remove-there.ensures.left e
    ∙ ap (λ b. b && not (e == thrown.exception)) (c.loop-thrown.invariant e)
    ∙ not-more (members c.args.set.now e) (is_one_of (exceptions_of (take i throws)) e) (e == thrown.exception)
    ∙ ap (λ b. members c.args.set.now e && not b) (sym (declared-more throws i thrown c.loop-thrown-test.true (get_or_default throws i none thrown c.loop-thrown-test.true) e))
