-- Private: how summaries of exits are put together.
-- Source: our own.
use Rattle.std.specs.Prelude.{ℕ, List, [], true, false, ◌==◌, ◌||◌, if◌then◌else◌, Option, Some, None}
use Rattle.resolved.specs.Tree.{Expression}
use Rattle.resolved.specs.Exits.{raises}
use Rattle.path_map.specs.declared.exits.Raised.{Raised}
use Rattle.path_map.specs.declared.exits.Raised.TheVariants.{Nothing, One, Several}
use Rattle.path_map.specs.Exits.{Exits, for_all}

-- of the exceptions of two lists
abbrev pub join_raised : Raised → Raised → Raised
join_raised Nothing other = other
join_raised (One exception) Nothing = One exception
join_raised (One exception) (One other) = if exception == other then One exception else Several
join_raised (One exception) Several = Several
join_raised Several other = Several

-- of the exits of two lists
abbrev pub join : Exits → Exits → Exits
join first other = record {
  normal = first.normal || other.normal;
  returns = first.returns || other.returns;
  breaks = first.breaks || other.breaks;
  continues = first.continues || other.continues;
  raised = join_raised first.raised other.raised;
}

-- of the exits of what is done after a first statement
abbrev pub after : Exits → Exits → Exits
after first rest = if first.normal then join (record first { normal = false }) rest else first

-- of no exit, and of some exceptions alone
abbrev pub only_raised : Raised → Exits
only_raised = for_all false

-- of a loop by those of its body
abbrev pub of_loop : Exits → Exits
of_loop body = record body { normal = true; breaks = false; continues = false }

-- the exceptions of an expression that may be there
abbrev pub raises_some : Option Expression → List ℕ
raises_some None = []
raises_some (Some e) = raises e
