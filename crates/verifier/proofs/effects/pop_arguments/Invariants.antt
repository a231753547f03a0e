use Rattle.std.proofs.Common.{◌≡◌, ◌<◌, ◌≤◌, Some, length, map, reverse, take}
use Rattle.modules.specs.MachineParts.{kinds_of}
use Rattle.verifier.specs.Flow.{all_popped}
use Rattle.verifier.specs.Operands.{list_of}
use Rattle.verifier.proofs.effects.pop_arguments.Given as goal

abbrev pub invariant-loop-count : goal.invariant-loop-count
invariant-loop-count l = record {
  inside : l.count ≤ length l.slots;
  there : l.rest < length l.operands;
  fewer : length (list_of l.operands l.rest) ≤ length (list_of l.operands l.list);
  same : all_popped (map (λ kind. Some kind) (reverse (kinds_of (take l.callee.parameters l.callee.slots)))) (list_of l.operands l.list) ≡ all_popped (map (λ kind. Some kind) (reverse (kinds_of (take l.count l.slots)))) (list_of l.operands l.rest);
}

abbrev pub decreases-loop-count : goal.decreases-loop-count
decreases-loop-count l = l.count
