use Rattle.std.proofs.Common.{◌≡◌, drop}
use Rattle.resolved.specs.TreeOf.{block_of, handlers_of}
use Rattle.lowering.specs.Code.{block_falls, handlers_fall}
use Rattle.lowering.proofs.endings.+falls.Given as goal

abbrev pub invariant-block_falls-loop-statement : goal.invariant-block_falls-loop-statement
invariant-block_falls-loop-statement l = block_falls (block_of (drop l.statement-index l.block)) ≡ block_falls (block_of l.block)

abbrev pub invariant-handlers_fall-loop-handler : goal.invariant-handlers_fall-loop-handler
invariant-handlers_fall-loop-handler l = handlers_fall (handlers_of (drop l.handler-index l.handlers)) ≡ handlers_fall (handlers_of l.handlers)
