use Rattle.std.proofs.Common.{refl}
use Rattle.solver.specs.declared.constraints.Atom.TheVariants as stored
use Rattle.constraints.specs.Following.{IsOver}
use Rattle.constraints.specs.Merging.{rows_of}
use Rattle.constraints.proofs.Paths.{over-same, over-then}
use Rattle.constraints.proofs.SpreadTaken.{single-taken}
use Rattle.constraints.proofs.spreading.Spreading.single.Goals as goal

pub returns-clause-number : goal.returns-clause-number
returns-clause-number c = c.in_ok-keep_fixed.ensures.number

pub returns-clause-spread : goal.returns-clause-spread
returns-clause-spread c =
    let core = c.args.self.now.table.now.core.now in
    let following = c.args.self.now.following.now in
    single-taken (IsOver following) (over-same following) (over-then following) core core.labels c.args.self.now.journal.now
    c.args.labels.now c.args.called c.args.made.now.number c.keep_fixed.new.made.number
    (rows_of c.args.kept.now.items) (rows_of c.keep_fixed.new.kept.items) c.args.made.now.constraints.items c.keep_fixed.new.made.constraints.items
    (stored.Unknown c.args.called.own) refl c.in_ok-keep_fixed.ensures.number c.in_ok-keep_fixed.ensures.taken
