use Rattle.std.proofs.Common.{ap, ◌∙◌}
use Rattle.solver.specs.declared.constraints.Atom.TheVariants.{Unknown, Written}
use Rattle.solver.proofs.EdgeCursors.{counted-left}
use Rattle.solver.proofs.edges.counts_of.Goals as goal

pub loop-constraint-preserved : goal.loop-constraint-preserved
loop-constraint-preserved g c =
    let i = c.loop-constraint.constraint-index in
    let item = c.constraint-item.result in
    let left_is = c.as_slice.ensures ∙ ap (λ x. x.left.items) c.constraint-item.is in
    record {
      written = counted-left Written c.args.constraints.now i item c.as_slice.result.now c.loop-constraint.counts.written.items c.add_left.new.self.written.items c.loop-constraint-test.true left_is
          c.loop-constraint.invariant.written c.add_left.ensures.written;
      unknown = counted-left Unknown c.args.constraints.now i item c.as_slice.result.now c.loop-constraint.counts.unknown.items c.add_left.new.self.unknown.items c.loop-constraint-test.true left_is
          c.loop-constraint.invariant.unknown c.add_left.ensures.unknown;
      written_count = c.add_left.ensures.written_count ∙ c.loop-constraint.invariant.written_count;
      unknown_count = c.add_left.ensures.unknown_count ∙ c.loop-constraint.invariant.unknown_count;
    }
