-- The number and the words of why a machine is not made.
-- Source: our own.
use Rattle.common.specs.Message.{MessageContents}
use Rattle.channels.specs.RefusalKinds.{world_message}
use Rattle.channels.specs.declared.kind.WorldRefusalKind.TheVariants as world
use Rattle.machine.specs.declared.fault.NewRefusal.{NewRefusal}
use Rattle.machine.specs.declared.fault.NewRefusal.TheVariants.{UnknownChannel}

abbrev pub new_message : NewRefusal → MessageContents
new_message UnknownChannel = world_message world.UnknownChannel
