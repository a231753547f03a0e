use Rattle.resolved.proofs.Judged.{exits-of, labels-of, demands-of, faults-of, bits-of, demands-apart, faults-apart, bits-apart}
use Rattle.resolved.proofs.laws.parts_are_those_of_the_rules.Goals as goal

pub returns-clause-exits : goal.returns-clause-exits
returns-clause-exits c = λ scope in_loop reached pc statement. exits-of scope statement in_loop reached pc

pub returns-clause-labels : goal.returns-clause-labels
returns-clause-labels c = λ scope in_loop reached pc statement. labels-of scope statement in_loop reached pc

pub returns-clause-demands : goal.returns-clause-demands
returns-clause-demands c = λ scope in_loop reached pc statement. demands-of scope statement in_loop reached pc

pub returns-clause-faults : goal.returns-clause-faults
returns-clause-faults c = λ scope in_loop reached pc statement. faults-of scope statement in_loop reached pc

pub returns-clause-bits : goal.returns-clause-bits
returns-clause-bits c = λ scope in_loop reached pc statement. bits-of scope statement in_loop reached pc

pub returns-clause-all_demands : goal.returns-clause-all_demands
returns-clause-all_demands c = demands-apart

pub returns-clause-all_faults : goal.returns-clause-all_faults
returns-clause-all_faults c = faults-apart

pub returns-clause-all_bits : goal.returns-clause-all_bits
returns-clause-all_bits c = bits-apart
