use Rattle.std.proofs.Common.{◌∙◌}
use Rattle.constraints.proofs.Moments.{moments-none, moments-some}
use Rattle.constraints.proofs.journal.Journal.moments_of.Goals as goal

pub returns-in-None : goal.returns-in-None
returns-in-None c = moments-none c.args.self.now.moments.items c.deref.result.now c.args.exception c.deref.ensures.value c.in-None.ensures.lookup.3

pub returns-in-Some : goal.returns-in-Some
returns-in-Some c =
    c.deref-in-Some.ensures.value
    ∙ moments-some c.args.self.now.moments.items c.deref.result.now c.args.exception c.in-Some.moments.now c.deref.ensures.value c.in-Some.ensures.lookup.3.0 c.in-Some.ensures.lookup.1
