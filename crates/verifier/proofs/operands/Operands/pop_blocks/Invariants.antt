use Rattle.std.proofs.Common.{◌≡◌, ◌*◌, ◌<◌, ◌≤◌, List, Some, drop, length, map}
use Rattle.common.specs.declared.base_type.BaseType.{BaseType}
use Rattle.verifier.specs.Flow.{all_popped}
use Rattle.verifier.specs.Operands.{full_blocks, list_of}
use Rattle.verifier.proofs.operands.Operands.pop_blocks.Given as goal

abbrev pub invariant-loop-block : goal.invariant-loop-block
invariant-loop-block l = record {
  there : l.rest < length l.self;
  fewer : length (list_of l.self l.rest) ≤ length (list_of l.self l.list);
  count_is : l.count ≡ l.block-index;
  same : (kinds : List BaseType) → l.blocks ≡ full_blocks kinds → all_popped (map (λ kind. Some kind) kinds) (list_of l.self l.list) ≡ all_popped (map (λ kind. Some kind) (drop (l.count * 64) kinds)) (list_of l.self l.rest);
}
