-- A path map as a finite map from exits: the one definition of what it has for each of them.
-- Source: our own; the path maps of JFlow (Myers 1999).
use Rattle.std.specs.Prelude.{ℕ}
use Rattle.resolved.specs.declared.statement.Exit.{Exit}
use Rattle.resolved.specs.declared.statement.Exit.TheVariants.{Normal, Return, Break, Continue, Throw}
use Rattle.path_map.specs.declared.exits.PathMap.{PathMap}

-- what a path map has for an exit, where `of_raised` says what its `raised` has for each exception
abbrev pub value_at : {T : Type 0} {E : Type 0} → (of_raised : E → ℕ → T) → PathMap T E → Exit → T
value_at of_raised map Normal = map.normal
value_at of_raised map Return = map.returns
value_at of_raised map Break = map.breaks
value_at of_raised map Continue = map.continues
value_at of_raised map (Throw exception) = of_raised map.raised exception

-- the path map that has a function's value for each exit that is no exception
abbrev pub path_map_of : {T : Type 0} {E : Type 0} → (Exit → T) → (raised : E) → PathMap T E
path_map_of value raised = record {
  normal = value Normal;
  returns = value Return;
  breaks = value Break;
  continues = value Continue;
  raised = raised;
}
