use Rattle.std.proofs.Common.{◌+◌, ap, arith, sym, subst, ◌∙◌}
use Rattle.std.proofs.lemmas.List.{take_all}
use Rattle.solver.specs.EdgeCursors.{MoreCounted, capped}
use Rattle.solver.specs.Links.{same}
use Rattle.solver.specs.Looks.{one}
use Rattle.solver.specs.declared.constraints.Atom.TheVariants.{Unknown, Written}
use Rattle.solver.proofs.EdgeCursors.{counted-more, counted-same}
use Rattle.solver.proofs.edges.EdgeCounts.add_left.Goals.{in-Written, in-Unknown}
use Rattle.solver.proofs.edges.EdgeCounts.add_left.Goals as goal

pub loop-atom-preserved : goal.loop-atom-preserved
loop-atom-preserved c =
    let i = c.loop-atom.atom-index in
    let before = c.loop-atom.invariant in
    elim c.match-atom.branch [
      | in-Written w ↦
          rw w.self-is (record {
            written = counted-more Written c.args.left.now i (Written 0) c.args.self.now.written.items c.loop-atom.self.written.items w.count_one.new.counts.items c.loop-atom-test.true before.written
                (λ k n is. w.count_one.ensures.more k n is ∙ ap (λ a. capped (n + one (same (Written k) a))) (sym w.in-Written.is));
            unknown = counted-same Unknown c.args.left.now i (Written 0) c.args.self.now.unknown.items c.loop-atom.self.unknown.items c.loop-atom-test.true (λ k. ap (same (Unknown k)) w.in-Written.is) before.unknown;
            written_count = w.count_one.ensures.count ∙ before.written_count;
            unknown_count = before.unknown_count;
          })
      | in-Unknown w ↦
          rw w.self-is (record {
            written = counted-same Written c.args.left.now i (Written 0) c.args.self.now.written.items c.loop-atom.self.written.items c.loop-atom-test.true (λ k. ap (same (Written k)) w.in-Unknown.is) before.written;
            unknown = counted-more Unknown c.args.left.now i (Written 0) c.args.self.now.unknown.items c.loop-atom.self.unknown.items w.count_one-in-Unknown.new.counts.items c.loop-atom-test.true before.unknown
                (λ k n is. w.count_one-in-Unknown.ensures.more k n is ∙ ap (λ a. capped (n + one (same (Unknown k) a))) (sym w.in-Unknown.is));
            written_count = before.written_count;
            unknown_count = w.count_one-in-Unknown.ensures.count ∙ before.unknown_count;
          })
    ]

pub returns-clause-written : goal.returns-clause-written
returns-clause-written c =
    subst (λ xs. MoreCounted Written xs c.args.self.now.written.items c.loop-atom.self.written.items) (take_all c.loop-atom.atom-index c.args.left.now (omega (arith, c.loop-atom-test.false))) c.loop-atom.invariant.written

pub returns-clause-unknown : goal.returns-clause-unknown
returns-clause-unknown c =
    subst (λ xs. MoreCounted Unknown xs c.args.self.now.unknown.items c.loop-atom.self.unknown.items) (take_all c.loop-atom.atom-index c.args.left.now (omega (arith, c.loop-atom-test.false))) c.loop-atom.invariant.unknown
