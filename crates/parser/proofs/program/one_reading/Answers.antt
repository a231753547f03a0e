use Rattle.parser.proofs.Programs.{one_tree}
use Rattle.parser.proofs.Refusals.{spelled_or_refused, spelled_not_refused, one_refusal}
use Rattle.parser.proofs.program.one_reading.Goals as goal

pub returns-clause-spelled_or_refused : goal.returns-clause-spelled_or_refused
returns-clause-spelled_or_refused c = spelled_or_refused

pub returns-clause-one_tree : goal.returns-clause-one_tree
returns-clause-one_tree c = one_tree

pub returns-clause-not_both : goal.returns-clause-not_both
returns-clause-not_both c = spelled_not_refused

pub returns-clause-one_refusal : goal.returns-clause-one_refusal
returns-clause-one_refusal c = one_refusal
