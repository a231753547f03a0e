use Rattle.std.proofs.Common.{subst}
use Rattle.resolved.specs.CoreOf.{program_of}
use Rattle.constraints.specs.Added.{AreAdded}
use Rattle.constraints.specs.Spreading.{fixed_flows}
use Rattle.constraints.proofs.PartRows.{on-ok}
use Rattle.constraints.proofs.spreading.Spreading.keep_fixed.Goals as goal

pub returns-clause-taken : goal.returns-clause-taken
returns-clause-taken c =
    let core = c.args.self.now.table.now.core.now in
    on-ok c.take_all.result (λ taken. record {
      own = c.add_fixed.new.made.constraints.items;
      holds = λ callee number part labelled. subst
          (λ xs. AreAdded core core.labels (fixed_flows (program_of core) c.args.self.now.journal.now c.args.called callee number c.args.fixed.now) xs c.add_fixed.new.made.constraints.items)
          c.new.ensures.items (c.in_ok-add_fixed.ensures.added callee number part labelled);
      are_taken = taken;
    })
    c.take_all.ensures.taken
