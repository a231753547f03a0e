use Rattle.std.proofs.Common.{arith}
use Rattle.modules.specs.Format.{label}
use Rattle.bytecode.proofs.Facts.{policies-ascend, policies-canonical}
use Rattle.bytecode.proofs.Lawful.{label-coherent}
use Rattle.bytecode.proofs.Taken.{taken}
use Rattle.bytecode.proofs.hierarchy.read_label.Goals as goal

pub of-requires-clause-ascending : goal.of-requires-clause-ascending
of-requires-clause-ascending c =
    policies-ascend c.args.principals c.in_ok-policies.policies.items (taken (label c.args.principals) (label-coherent c.args.principals) c.args.bytes.now c.in_ok-policies.policies.items c.in_ok-policies.rest.now (record { below = λ i. omega (arith, c.type_inv.bytes i) }) c.in_ok-policies.ensures).fits

pub of-requires-clause-each_canonical : goal.of-requires-clause-each_canonical
of-requires-clause-each_canonical c =
    policies-canonical c.args.principals c.in_ok-policies.policies.items (taken (label c.args.principals) (label-coherent c.args.principals) c.args.bytes.now c.in_ok-policies.policies.items c.in_ok-policies.rest.now (record { below = λ i. omega (arith, c.type_inv.bytes i) }) c.in_ok-policies.ensures).fits
