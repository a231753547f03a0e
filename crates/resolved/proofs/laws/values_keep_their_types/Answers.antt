use Rattle.resolved.proofs.Sound.Meanings.{meaning_keeps_types, values_have_their_types}
use Rattle.resolved.proofs.Sound.Runs.{runs_begin_typed}
use Rattle.resolved.proofs.laws.values_keep_their_types.Goals as goal

pub returns-clause-values : goal.returns-clause-values
returns-clause-values c = values_have_their_types

pub returns-clause-meaning : goal.returns-clause-meaning
returns-clause-meaning c = meaning_keeps_types

pub returns-clause-begin : goal.returns-clause-begin
returns-clause-begin c = runs_begin_typed
