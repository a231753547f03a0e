use Rattle.std.proofs.Common.{refl}
use Rattle.path_map.proofs.Single.{answer}
use Rattle.path_map.proofs.exits.Exits.single.Goals as goal

pub returns-in-true-false-false-false-Nothing : goal.returns-in-true-false-false-false-Nothing
returns-in-true-false-false-false-Nothing c =
    answer c.args.self _ (rw (c.in-true-false-false-false-Nothing.is-0, c.in-true-false-false-false-Nothing.is-1, c.in-true-false-false-false-Nothing.is-2, c.in-true-false-false-false-Nothing.is-3, c.in-true-false-false-false-Nothing.is-4) refl)
