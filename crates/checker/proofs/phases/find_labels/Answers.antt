use Rattle.std.proofs.Common.{ℕ, subst}
use Rattle.labels.specs.Label.{Label}
use Rattle.labels.specs.LabelLattice.{label_lattice}
use Rattle.resolved.specs.CoreOf.{program_of}
use Rattle.gathering.specs.Names.{unwritten_number}
use Rattle.solver.specs.Constraints.{IsSolution, constraints_of, values_of}
use Rattle.checker.proofs.Labels.{fitting-labelled, least-labels}
use Rattle.checker.proofs.phases.find_labels.Goals as goal

pub flow_of-requires-clause-gathered : goal.flow_of-requires-clause-gathered
flow_of-requires-clause-gathered c = c.in_ok-system.ensures.gathered.gathered

pub of-requires : goal.of-requires
of-requires c =
    let program = program_of c.args.core in
    let l = label_lattice c.args.core.hierarchy in
    let values : ℕ → Label = values_of l c.args.core.labels c.in-Ok.solution.reached in
    let solved : IsSolution l c.args.core.labels c.in_ok-system.system.constraints.items c.in-Ok.solution =
    subst (λ cs. IsSolution l c.args.core.labels cs c.in-Ok.solution) c.deref.ensures.value c.in-Ok.ensures.accepted in
    record {
      ended = c.requires.ended;
      labelled = fitting-labelled program (constraints_of l c.args.core.labels c.in_ok-system.system.constraints.items) c.in_ok-system.ensures.gathered.gathered values solved.fits;
      least = least-labels program (constraints_of l c.args.core.labels c.in_ok-system.system.constraints.items) c.in_ok-system.ensures.gathered.gathered values
          (unwritten_number program) c.in_ok-system.ensures.gathered.numbered solved.least;
      names = c.requires.names;
    }
