use Rattle.std.proofs.Common.{[]}
use Rattle.isolation.proofs.Longer.{calls-go_on, prefix-longer}
use Rattle.isolation.proofs.runs.more_fuel_goes_on.Goals as goal
use Rattle.resolved.specs.Meaning.{first_state, frame_limit, run_within}

pub returns-clause-runs : goal.returns-clause-runs
returns-clause-runs c program frames world k m le = calls-go_on program k m le frames program.main [] (first_state program world)

pub returns-clause-sent : goal.returns-clause-sent
returns-clause-sent c program world k m le =
    prefix-longer (run_within frame_limit program world k) (run_within frame_limit program world m)
    (calls-go_on program k m le frame_limit program.main [] (first_state program world))
