use Rattle.solver.proofs.Bits.{more-new}
use Rattle.solver.proofs.sharing.grown.Goals as goal

pub returns-then-has_beyond : goal.returns-then-has_beyond
returns-then-has_beyond c = record {
  short = c.include.ensures.bound;
  members = c.include.ensures.members;
  larger = more-new c.args.own.now c.args.row c.include.new.self c.include.ensures.members (c.has_beyond.ensures.some c.if-has_beyond.true);
}
