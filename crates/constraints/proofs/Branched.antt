-- The pieces of what is gathered of statements with blocks.
use Rattle.std.proofs.Common.{◌≡◌, refl, List, [], ◌∷◌, Bool, true, false}
use Rattle.std.specs.Prelude.{Option, Some, None, if◌then◌else◌}
use Rattle.std.specs.List.{list_all}
use Rattle.resolved.specs.Exits.{one_exit, same_exit}
use Rattle.resolved.specs.declared.statement.Exit.{Exit}
use Rattle.gathering.specs.Names.{NamedAtom, NamedConstraint}
use Rattle.gathering.specs.Walk as walk
use Rattle.gathering.specs.Walk.{flow, single}
use Rattle.path_map.specs.Exits.{single_exit}

-- the flow to the exit unknown of the one exit, if there is one only
abbrev pub single_flow : (pc : NamedAtom) → walk.ExitUnknowns → Option Exit → List NamedConstraint
single_flow pc exit_unknowns None = []
single_flow pc exit_unknowns (Some exit) = flow (pc ∷ []) (exit_unknowns exit)

pub single-is : (ends : List Exit) (pc : NamedAtom) (exit_unknowns : walk.ExitUnknowns) → single (one_exit ends) pc exit_unknowns ends ≡ single_flow pc exit_unknowns (single_exit ends)
single-is [] pc exit_unknowns = none (one_exit [])
  where
    none : (b : Bool) → single b pc exit_unknowns [] ≡ []
    none true = refl
    none false = refl
single-is (exit ∷ rest) pc exit_unknowns = go (list_all (same_exit exit) rest)
  where
    go : (b : Bool) → single b pc exit_unknowns (exit ∷ rest) ≡ single_flow pc exit_unknowns (if b then Some exit else None)
    go true = refl
    go false = refl
