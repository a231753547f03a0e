use Rattle.std.proofs.Common.{◌≡◌, map, take}
use Rattle.layout.specs.Offsets.{offset}
use Rattle.modules.specs.Targets.{renamed_handler}
use Rattle.layout.proofs.code.lay_out_handlers.Given as goal

-- the handlers so far
abbrev pub invariant-loop-handler : goal.invariant-loop-handler
invariant-loop-handler l = l.made.items ≡ map (renamed_handler (offset l.code)) (take l.handler-index l.handlers)
