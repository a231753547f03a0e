use Rattle.parser.proofs.Programs.{one_tree, spelled_terminated}
use Rattle.parser.proofs.Signs.{each_there}
use Rattle.parser.proofs.Spelled.{few_nodes, spelled_nested, spelled_written_there}
use Rattle.parser.proofs.program.spelling_laws.Goals as goal

pub returns-clause-one_tree : goal.returns-clause-one_tree
returns-clause-one_tree c = one_tree

pub returns-clause-terminated : goal.returns-clause-terminated
returns-clause-terminated c = spelled_terminated 0

pub returns-clause-few_nodes : goal.returns-clause-few_nodes
returns-clause-few_nodes c = few_nodes

pub returns-clause-nested : goal.returns-clause-nested
returns-clause-nested c = spelled_nested

pub returns-clause-written : goal.returns-clause-written
returns-clause-written c = spelled_written_there

pub returns-clause-each_there : goal.returns-clause-each_there
returns-clause-each_there c = each_there
