-- The numbers and the words of what a host refuses.
-- Source: our own.
use Rattle.std.specs.Prelude.{codes}
use Rattle.common.specs.Message.{MessageContents, message}
use Rattle.verifier.specs.RefusalKinds.{load_message}
use Rattle.machine.specs.RefusalKinds.{new_message}
use Rattle.host.specs.declared.fault.HostRefusal.{HostRefusal}
use Rattle.host.specs.declared.fault.HostRefusal.TheVariants.{Full, UnknownId, UnknownPrincipal, Load, New, NotContained}
use Rattle.principals.specs.declared.fault.HierarchyRefusalKind.TheVariants as hierarchy
use Rattle.principals.specs.RefusalKinds.{hierarchy_message}

abbrev pub host_message : HostRefusal → MessageContents
host_message Full = message 901 (codes "full")
host_message UnknownId = message 902 (codes "unknown id")
host_message UnknownPrincipal = hierarchy_message hierarchy.UnknownPrincipal
host_message (Load refusal) = load_message refusal
host_message (New refusal) = new_message refusal
host_message NotContained = message 903 (codes "hierarchy not contained")
