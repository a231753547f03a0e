-- Private: what a walk along blocks, statements and handlers does, where the path map has their exits from an entry on.
-- Source: our own.
use Rattle.std.specs.Prelude.{◌≡◌, ℕ, ◌+◌, List, ◌∷◌, ◌++◌, drop, length, map, true, false, Some, None, slice_index_or}
use Rattle.labels.specs.Label.{Label}
use Rattle.resolved.specs.declared.program.Core.{Core}
use Rattle.resolved.specs.declared.statement.Exit.{Exit}
use Rattle.resolved.specs.declared.statement.Handler.{Handler}
use Rattle.resolved.specs.CoreOf.{program_of}
use Rattle.resolved.specs.Exits.{handles, one_exit, raises, statement_exits}
use Rattle.resolved.specs.Labelled.{Scope, value_label}
use Rattle.resolved.specs.Tree.{Expression, Statement, Block, Handlers}
use Rattle.resolved.specs.TreeOf.{handlers_of}
use Rattle.path_map.specs.Exits.{Exits}
use Rattle.path_map.specs.Exits.{exits_of}
use Rattle.path_map.specs.Paths.{block_paths, handlers_paths, inner_paths, rest_paths, statement_paths}
use Rattle.gathering.specs.Names.{NamedAtom, NamedConstraint, named_atoms}
use Rattle.gathering.specs.Walk as walk
use Rattle.gathering.specs.Walk.{block_constraints, handler_count, handler_number, handlers_constraints, in_try, inner_block, inner_constraint, made_by_block, made_by_handlers, made_by_statement, raise_atoms, raised_flows, single, statement_constraints, with_normal, within_single}
use Rattle.solver.specs.declared.constraints.Atom.{Atom}
use Rattle.constraints.specs.LeftSides.{scope_of}
use Rattle.constraints.specs.Journals.{IsUpToDate}
use Rattle.constraints.specs.ExitUnknowns.{AreLevelled, no_entry, exit_unknowns_of, undone}
use Rattle.constraints.specs.Thinned.{AreNoted, IsThinnedAt}
use Rattle.constraints.specs.declared.pieces.Tried.{Tried}
use Rattle.constraints.specs.declared.progress.Progress.{Progress}
use Rattle.constraints.specs.declared.exit_unknowns.ExitUnknowns.{ExitUnknowns}

-- a walk that came past what is gathered thus and makes this many inner unknowns, with these entries of the path map left
pub record HasPassed (core : Core) (table : List Label) (entries : List Exits) (pc : Atom) (gathered : NamedAtom → List NamedConstraint) (made : ℕ) (left : List Exits) (old new : Progress) : Type 0 where
  pub added : IsThinnedAt core table pc gathered old new
  pub entries_left : drop new.index entries ≡ left
  pub number_is : new.number ≡ old.number + made
  pub thrown_is : new.thrown.items ≡ old.thrown.items

-- a walk past what has these paths, where the path map goes on with them
abbrev pub IsWalked : Core → (table : List Label) → (entries : List Exits) → (pc : Atom) → ExitUnknowns → (paths : List (List Exit)) → (gathered : NamedAtom → List NamedConstraint) → (made : ℕ) → (old new : Progress) → Type 0
IsWalked core table entries pc exit_unknowns paths gathered made old new =
    (left : List Exits) → drop old.index entries ≡ map exits_of paths ++ left → AreLevelled exit_unknowns old.thrown.items →
    HasPassed core table entries pc gathered made left old new

-- past a block of its own, and past its statements
abbrev pub IsBlockWalked : Core → (table : List Label) → (entries : List Exits) → (procedure : ℕ) → (pc : Atom) → ExitUnknowns → Block → (old new : Progress) → Type 0
IsBlockWalked core table entries procedure pc exit_unknowns block old new =
    IsWalked core table entries pc exit_unknowns (block_paths (program_of core) block)
    (λ named. inner_block (scope_of core procedure) named (exit_unknowns_of exit_unknowns old.thrown.items) old.number block)
    (made_by_block block) old new

abbrev pub AreStatementsWalked : Core → (table : List Label) → (entries : List Exits) → (procedure : ℕ) → (pc : Atom) → ExitUnknowns → Block → (old new : Progress) → Type 0
AreStatementsWalked core table entries procedure pc exit_unknowns block old new =
    IsWalked core table entries pc exit_unknowns (rest_paths (program_of core) block)
    (λ named. block_constraints (scope_of core procedure) true named (exit_unknowns_of exit_unknowns old.thrown.items) old.number block)
    (made_by_block block) old new

-- a statement of a block, whose normal exit has the exit unknown with this number: the flow of its pc where it has one exit only, and what
-- the rule of its form says
abbrev pub step_constraints : Scope → (pc : NamedAtom) → walk.ExitUnknowns → (normal inner : ℕ) → Statement → List NamedConstraint
step_constraints scope pc exit_unknowns normal inner statement =
    let ends : List Exit = statement_exits scope.program statement in
    single (one_exit ends) pc (with_normal None exit_unknowns) ends
    ++ statement_constraints scope pc (within_single (one_exit ends) (with_normal (Some normal) exit_unknowns)) inner statement

-- past a statement of a block, and past one by the rule of its form
abbrev pub IsStatementWalked : Core → (table : List Label) → (entries : List Exits) → (procedure : ℕ) → (pc : Atom) → ExitUnknowns → (normal : ℕ) → Statement → (old new : Progress) → Type 0
IsStatementWalked core table entries procedure pc exit_unknowns normal statement old new =
    IsWalked core table entries pc exit_unknowns (statement_paths (program_of core) statement)
    (λ named. step_constraints (scope_of core procedure) named (exit_unknowns_of exit_unknowns old.thrown.items) normal old.number statement)
    (made_by_statement statement) old new

abbrev pub IsFormWalked : Core → (table : List Label) → (entries : List Exits) → (procedure : ℕ) → (pc : Atom) → ExitUnknowns → Statement → (old new : Progress) → Type 0
IsFormWalked core table entries procedure pc exit_unknowns statement old new =
    IsWalked core table entries pc exit_unknowns (inner_paths (program_of core) statement)
    (λ named. statement_constraints (scope_of core procedure) named (exit_unknowns_of exit_unknowns old.thrown.items) old.number statement)
    (made_by_statement statement) old new

-- past the bodies of handlers, which are reached at the inner unknowns with these numbers
abbrev pub AreHandlersWalked : Core → (table : List Label) → (entries : List Exits) → (procedure : ℕ) → (pc : Atom) → ExitUnknowns → (number : ℕ → ℕ) → Handlers → (old new : Progress) → Type 0
AreHandlersWalked core table entries procedure pc exit_unknowns number handlers old new =
    IsWalked core table entries pc exit_unknowns (handlers_paths (program_of core) handlers)
    (λ named. handlers_constraints (scope_of core procedure) number (exit_unknowns_of exit_unknowns old.thrown.items) old.number handlers)
    (made_by_handlers handlers) old new

-- what is gathered of a branch before its blocks
abbrev pub branch_constraints : Scope → (pc : NamedAtom) → walk.ExitUnknowns → (inner : ℕ) → Expression → List NamedConstraint
branch_constraints scope pc exit_unknowns inner e =
    inner_constraint (pc ∷ named_atoms (value_label scope e)) inner
    ++ raised_flows (pc ∷ named_atoms (raise_atoms scope e)) exit_unknowns (raises e)

-- handlers that took their exceptions, with the inner unknowns that they made
pub record AreTaken (exit_unknowns : ExitUnknowns) (handlers : Handlers) (old new : Progress) (tried : Tried) : Type 0 where
  pub exit_unknowns_are : exit_unknowns_of tried.exit_unknowns new.thrown.items
      ≡ in_try (handler_number handlers old.number) handlers (exit_unknowns_of exit_unknowns old.thrown.items)
  pub levels_are : AreLevelled tried.exit_unknowns new.thrown.items

pub record IsTried (exit_unknowns : ExitUnknowns) (handlers : List Handler) (old new : Progress) (tried : Tried) : Type 0 where
  pub taken : AreLevelled exit_unknowns old.thrown.items → AreTaken exit_unknowns (handlers_of handlers) old new tried
  pub numbers_are : AreLevelled exit_unknowns old.thrown.items → tried.numbers.items
      ≡ map (λ (handler : Handler). handler_number (handlers_of handlers) old.number handler.exception) handlers
  pub count_is : length tried.numbers.items ≡ length handlers
  pub saved_is : undone tried.saved.items new.thrown.items ≡ old.thrown.items
  pub index_is : new.index ≡ old.index
  pub constraints_are : new.constraints ≡ old.constraints
  pub others_are : (x : ℕ) → handles (handlers_of handlers) x ≡ false →
      slice_index_or new.thrown.items x no_entry ≡ slice_index_or old.thrown.items x no_entry
  pub noted : IsUpToDate old.journal old.thrown.items → AreNoted old.journal new.journal new.thrown.items
  pub number_is : new.number ≡ old.number + handler_count (handlers_of handlers)
  pub level_is : tried.exit_unknowns.level ≡ exit_unknowns.level + 1
