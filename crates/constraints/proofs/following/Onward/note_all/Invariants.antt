use Rattle.std.specs.Prelude.{Contains}
use Rattle.std.proofs.Common.{List}
use Rattle.constraints.specs.Added.{Stored}
use Rattle.constraints.specs.Following.{AreOnward}
use Rattle.constraints.proofs.following.Onward.note_all.Given as goal

abbrev pub invariant-loop-part : goal.invariant-loop-part
invariant-loop-part l = record {
  onward : (base : List Stored) → Contains base l.constraint → AreOnward l.real base l.fn.self → AreOnward l.real base l.self;
}
