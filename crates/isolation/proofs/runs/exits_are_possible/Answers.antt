use Rattle.isolation.proofs.Among.{statement-among, block-among, calls-among}
use Rattle.isolation.proofs.Declared.{ends-as-declared}
use Rattle.isolation.proofs.runs.exits_are_possible.Goals as goal
use Rattle.resolved.specs.Meaning.{calls_with}

pub returns-clause-statements : goal.returns-clause-statements
returns-clause-statements c program h frames k statement s =
    (statement-among statement program (calls_with program k frames) k (calls-among program k frames (ends-as-declared program h)) s).among

pub returns-clause-blocks : goal.returns-clause-blocks
returns-clause-blocks c program h frames k block s =
    (block-among block program (calls_with program k frames) k (calls-among program k frames (ends-as-declared program h)) s).among

pub returns-clause-calls : goal.returns-clause-calls
returns-clause-calls c program h frames k f arguments s = (calls-among program k frames (ends-as-declared program h) f arguments s).among
