-- What the states of a well-formed program hold: in each variable as many cells as it has, each with a value of its base type.
-- Source: type soundness as in Milner 1978, for our own language.
use Rattle.std.specs.Prelude.{◌≡◌, ℕ, List, [], ◌∷◌, length, All, Option, Some, None, IsTrue, ◌&&◌}
use Rattle.common.specs.declared.base_type.BaseType.{BaseType}
use Rattle.common.specs.declared.value.Value.{Value}
use Rattle.resolved.specs.declared.expression.Variable.{Variable}
use Rattle.resolved.specs.declared.statement.Exit.{Exit}
use Rattle.resolved.specs.declared.statement.Exit.TheVariants.{Return}
use Rattle.resolved.specs.Exits.{same_exit}
use Rattle.resolved.specs.Tree.{Expression, Block}
use Rattle.resolved.specs.Program.{Program, ProcedureEntry, ResultEntry, SlotEntry, procedure_at}
use Rattle.common.specs.Values.{kind_of}
use Rattle.resolved.specs.Value.{Evaluated, Yields, Raises}
use Rattle.resolved.specs.SourceState.{World, SourceState, cells, value_of}
use Rattle.resolved.specs.Meaning.{Outcome, Ended, Stopped, state_after, block_meaning, calls_with, entering, first_state}
use Rattle.resolved.specs.WellFormed.{VariableType, variable_type, cell_count, same_base, has_base, has_result, block_fits, well_formed}

-- the cells of a variable of a type
pub record CellsFit (type : VariableType) (values : List Value) : Type 0 where
  pub count : length values ≡ cell_count type.size
  pub kinds : All (λ v. kind_of v ≡ type.base) values

-- a state in which each variable of a procedure has the cells of its type
pub record StateFits (program : Program) (procedure : ProcedureEntry) (s : SourceState) : Type 0 where
  pub fits : (x : Variable) (type : VariableType) → variable_type program procedure x ≡ Some type → CellsFit type (cells s x)

-- arguments for parameters: as many, and each of its base type
abbrev pub ArgumentsFit : (parameters : List SlotEntry) → (arguments : List Value) → Type 0
ArgumentsFit [] [] = Unit {0}
ArgumentsFit [] (v ∷ rest) = ⊥
ArgumentsFit (parameter ∷ parameters) [] = ⊥
ArgumentsFit (parameter ∷ parameters) (v ∷ rest) = (kind_of v ≡ parameter.base) × ArgumentsFit parameters rest

-- a value of a base type, where evaluation gives a value
abbrev pub GivesBase : BaseType → Evaluated Value → Type 0
GivesBase base (Yields v) = kind_of v ≡ base
GivesBase base (Raises exception) = Unit {0}

-- a returned value stands at this exit alone, and has the base type of a procedure's value
abbrev pub ReturnedFits : Exit → Option ResultEntry → Outcome → Type 0
ReturnedFits result_exit result (Ended exit (Some v) s) = IsTrue (same_exit result_exit exit && has_result result (same_base (kind_of v)))
ReturnedFits result_exit result (Ended exit None s) = Unit {0}
ReturnedFits result_exit result (Stopped stop s) = Unit {0}

-- what a statement of a procedure, or a call in it, comes to: a state that fits, and a value only where and as it may be returned
pub record OutcomeFits (program : Program) (procedure : ProcedureEntry) (result_exit : Exit) (result : Option ResultEntry) (outcome : Outcome)
    : Type 0 where
  pub state : StateFits program procedure (state_after outcome)
  pub returned : ReturnedFits result_exit result outcome

-- every statement of a well-formed program keeps the types: from a state that fits, a block that fits comes to a state that fits and
-- returns a value of the procedure's base type only
abbrev pub MeaningKeepsTypes : Type 0
MeaningKeepsTypes = (program : Program) → IsTrue (well_formed program)
    → (procedure : ProcedureEntry) (block : Block) → IsTrue (block_fits program procedure block)
    → (frames k : ℕ) (s : SourceState) → StateFits program procedure s
    → OutcomeFits program procedure Return procedure.result (block_meaning (calls_with program k frames) k block s)

-- in a state that fits, a well-formed expression has a value of its base type or raises an exception
abbrev pub ValuesHaveTheirTypes : Type 0
ValuesHaveTheirTypes = (program : Program) (procedure : ProcedureEntry) (base : BaseType) (e : Expression)
    → IsTrue (has_base program procedure base e) → (s : SourceState) → StateFits program procedure s → GivesBase base (value_of s e)

-- a well-formed program begins in a state that fits
abbrev pub RunsBeginTyped : Type 0
RunsBeginTyped = (program : Program) → IsTrue (well_formed program) → (world : World)
    → StateFits program (procedure_at program program.main)
    (entering (procedure_at program program.main) [] (first_state program world))
