use Rattle.resolved.proofs.Flow.{least_labels, labels-least, least-decide, labelled-or_refused, chain-refuses}
use Rattle.resolved.proofs.laws.programs_are_labelled_or_refused.Goals as goal

pub returns-clause-least : goal.returns-clause-least
returns-clause-least c = λ program. (least_labels program, labels-least program)

pub returns-clause-unique : goal.returns-clause-unique
returns-clause-unique c = λ program labels others one other u occurs. (one.below others other.fits u occurs, other.below labels one.fits u occurs)

pub returns-clause-tried : goal.returns-clause-tried
returns-clause-tried c = least-decide

pub returns-clause-either : goal.returns-clause-either
returns-clause-either c = labelled-or_refused

pub returns-clause-ruled_out : goal.returns-clause-ruled_out
returns-clause-ruled_out c = chain-refuses
