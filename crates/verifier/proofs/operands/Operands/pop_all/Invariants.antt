use Rattle.std.proofs.Common.{◌≡◌, ◌<◌, ◌≤◌, length, drop}
use Rattle.verifier.specs.Flow.{all_popped}
use Rattle.verifier.specs.Operands.{list_of}
use Rattle.verifier.proofs.operands.Operands.pop_all.Given as goal

abbrev pub invariant-loop-kind : goal.invariant-loop-kind
invariant-loop-kind l = record {
  there : l.rest < length l.self;
  fewer : length (list_of l.self l.rest) ≤ length (list_of l.self l.list);
  same : all_popped l.kinds (list_of l.self l.list) ≡ all_popped (drop l.kind-index l.kinds) (list_of l.self l.rest);
}
