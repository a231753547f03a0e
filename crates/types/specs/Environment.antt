-- What names stand for at a point of a program, and what each use of a name asks of it.
-- Source: our own, environments in the usual sense. Channels, exceptions, globals and procedures share one space of names, in which
-- `Arith`, `Bounds` and `End` are declared from the start; the parameters and locals of a procedure join it in its body.
use Rattle.std.specs.Prelude.{ℕ, List, Option, Some, None, Err, bytes_eq, is_none, option_map, if◌then◌else◌}
use Rattle.common.specs.declared.base_type.BaseType.{BaseType}
use Rattle.resolved.specs.declared.expression.Variable.{Variable}
use Rattle.types.specs.declared.fault.TypeRefusalKind.TheVariants as refusals
use Rattle.types.specs.declared.scope.ItemKind.{ItemKind}
use Rattle.types.specs.contracts.scope.ItemKindPartialEq.TheImpl.{eq-value}
use Rattle.types.specs.declared.scope.Meaning.{Meaning}
use Rattle.types.specs.declared.scope.Meaning.TheVariants as meanings
use Rattle.types.specs.Finding.{Finding, require, found_or}

-- what each name stands for, if it is in scope
abbrev pub Environment : Type 0
Environment = List ℕ → Option Meaning

-- the same with one more declaration, which is the innermost one of its name
abbrev pub declaring : List ℕ → Meaning → Environment → Environment
declaring name meaning names other = if bytes_eq name other then Some meaning else names other

-- ---- uses

-- a declaration: nothing of that name is in scope yet (302)
unfoldable pub fresh_finding : Option Meaning → (at : ℕ) → Finding (Unit {0})
fresh_finding found at = require (is_none found) refusals.DeclaredTwice at

-- a name at a place that wants something of what it stands for: 301 where it is not in scope, 403 where it stands for something else
unfoldable pub use_as : {A : Type 0} → (Meaning → Option A) → Option Meaning → (at : ℕ) → Finding A
use_as wanted None at = Err (record { kind = refusals.UnknownName; at = at })
use_as wanted (Some meaning) at = found_or refusals.WrongUse at (wanted meaning)

-- an item of a kind, by its number
abbrev pub item_of : ItemKind → Meaning → Option ℕ
item_of kind (meanings.Item other number) = if eq-value.it other kind then Some number else None
item_of kind (meanings.Variable variable base size) = None

-- a variable, scalar or array
abbrev pub variable_of : Meaning → Option Variable
variable_of (meanings.Item kind number) = None
variable_of (meanings.Variable variable base size) = Some variable

-- a scalar variable, with the type of its values
abbrev pub scalar_of : Meaning → Option (Variable × BaseType)
scalar_of (meanings.Item kind number) = None
scalar_of (meanings.Variable variable base size) = if is_none size then Some (variable, base) else None

-- an array, with the type of its elements and its length
abbrev pub array_of : Meaning → Option (Variable × BaseType × ℕ)
array_of (meanings.Item kind number) = None
array_of (meanings.Variable variable base size) = option_map (λ length. (variable, base, length)) size
