use Rattle.host.proofs.Isolation.{can_be_opened, end_as_reported, fresh_runs, stand_as_reported}
use Rattle.host.proofs.laws.sessions_are_fresh_runs.Goals as goal

pub returns-clause-views : goal.returns-clause-views
returns-clause-views c = fresh_runs c.one_spelling.ensures.contents

pub returns-clause-stands : goal.returns-clause-stands
returns-clause-stands c = stand_as_reported c.one_spelling.ensures.contents

pub returns-clause-ended : goal.returns-clause-ended
returns-clause-ended c = end_as_reported c.one_spelling.ensures.contents

pub returns-clause-opened : goal.returns-clause-opened
returns-clause-opened c = can_be_opened c.one_spelling.ensures.contents
