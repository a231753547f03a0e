-- What a path map keeps of the possible exits of a statement or block, and what it answers of them.
-- Source: our own; the path maps of JFlow (Myers 1999), of which these are the exits without labels.
use Rattle.std.specs.Prelude.{ℕ, Bool, List, [], ◌∷◌, ◌==◌, if◌then◌else◌, Option, Some, None}
use Rattle.std.specs.List.{list_all}
use Rattle.resolved.specs.declared.statement.Exit.{Exit}
use Rattle.resolved.specs.declared.statement.Exit.TheVariants.{Normal, Return, Break, Continue, Throw}
use Rattle.resolved.specs.Exits.{same_exit, has_exit}
use Rattle.path_map.specs.declared.exits.Raised.{Raised}
use Rattle.path_map.specs.declared.exits.Raised.TheVariants.{Nothing, One, Several}
use Rattle.path_map.specs.declared.exits.PathMap.{PathMap}
use Rattle.path_map.specs.PathMaps.{path_map_of}

-- the same for each exit that is no exception
abbrev pub for_all : {T : Type 0} {E : Type 0} → T → E → PathMap T E
for_all value = path_map_of (λ exit. value)

-- whether each exit is among some, of exceptions by a summary
abbrev pub Exits : Type 0
Exits = PathMap Bool Raised

-- the exceptions among exits, in order
abbrev pub thrown_in : List Exit → List ℕ
thrown_in [] = []
thrown_in (Normal ∷ rest) = thrown_in rest
thrown_in (Return ∷ rest) = thrown_in rest
thrown_in (Break ∷ rest) = thrown_in rest
thrown_in (Continue ∷ rest) = thrown_in rest
thrown_in (Throw exception ∷ rest) = exception ∷ thrown_in rest

-- whether these, which may name one several times, are none, one exception only, or more than one
abbrev pub raised_by : List ℕ → Raised
raised_by [] = Nothing
raised_by (exception ∷ rest) = if list_all (λ other. exception == other) rest then One exception else Several

-- the summary of exits
abbrev pub exits_of : List Exit → Exits
exits_of ends = path_map_of (has_exit ends) (raised_by (thrown_in ends))

-- the one exit that these are, if they are one only
abbrev pub single_exit : List Exit → Option Exit
single_exit [] = None
single_exit (exit ∷ rest) = if list_all (same_exit exit) rest then Some exit else None
