use Rattle.std.proofs.Common.{refl, []}
use Rattle.std.specs.Int.{int_wrap}
use Rattle.resolved.specs.Precise.{short_circuit, raising_argument, two_normal_exits, handler_of_one}
use Rattle.resolved.proofs.Demands.{labelled-from}
use Rattle.resolved.proofs.laws.precise_programs_are_accepted.Goals as goal

pub returns-clause-short_circuit : goal.returns-clause-short_circuit
unfolding int_wrap
returns-clause-short_circuit c = record { formed = refl; ended = refl; labelled = labelled-from short_circuit (λ unwritten. []) refl }

pub returns-clause-raising_argument : goal.returns-clause-raising_argument
unfolding int_wrap
returns-clause-raising_argument c = record { formed = refl; ended = refl; labelled = labelled-from raising_argument (λ unwritten. []) refl }

pub returns-clause-two_normal_exits : goal.returns-clause-two_normal_exits
unfolding int_wrap
returns-clause-two_normal_exits c = record { formed = refl; ended = refl; labelled = labelled-from two_normal_exits (λ unwritten. []) refl }

pub returns-clause-handler_of_one : goal.returns-clause-handler_of_one
unfolding int_wrap
returns-clause-handler_of_one c = record { formed = refl; ended = refl; labelled = labelled-from handler_of_one (λ unwritten. []) refl }
