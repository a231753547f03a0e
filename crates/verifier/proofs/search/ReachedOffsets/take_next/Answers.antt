use Rattle.std.proofs.Common.{arith, subst}
use Rattle.verifier.specs.Search.{IsSearchingNext}
use Rattle.verifier.proofs.Reaching.{taken_count, taken_next}
use Rattle.verifier.proofs.search.ReachedOffsets.take_next.Goals as goal

pub returns-in-None-clause-next : goal.returns-in-None-clause-next
returns-in-None-clause-next c = λ m p g. taken_next m p c.args.self.now c.pop.new.self c.pop.result (subst (IsSearchingNext m p c.args.self.now) c.in-None.is g) c.pop.ensures.some c.pop.ensures.none c.pop.ensures.empty

pub returns-in-None-clause-left : goal.returns-in-None-clause-left
returns-in-None-clause-left c = omega (arith, taken_count c.args.self.now.work c.pop.new.self c.pop.result c.pop.ensures.some c.pop.ensures.empty)
