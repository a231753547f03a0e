-- The label that a written label stands for: each principal by its number (303 where the hierarchy lacks it), each variable replaced
-- by the policies of its own label, in canonical form. What is refused stands where its name does, from the left.
-- Source: our own; labels after Myers and Liskov 1997/2000.
use Rattle.std.specs.Prelude.{ℕ, List, [], ◌∷◌, ◌++◌, Option, Some, None, Ok, slice_get}
use Rattle.principals.specs.ActsFor.{PrincipalHierarchy, number_of}
use Rattle.labels.specs.Label.{ReaderPolicy, Label}
use Rattle.labels.specs.Canonical.{written_policy, written_label}
use Rattle.resolved.specs.Program.{GlobalEntry, SlotEntry}
use Rattle.resolved.specs.declared.expression.Variable.{Variable}
use Rattle.resolved.specs.declared.expression.Variable.TheVariants.{Global, Local}
use Rattle.syntax.specs.Tree.{NameTree, ComponentTree, PolicyComponent, VariableComponent, LabelTree}
use Rattle.types.specs.declared.fault.TypeRefusalKind.TheVariants as refusals
use Rattle.types.specs.Environment.{Environment, use_as, variable_of}
use Rattle.common.specs.Results.{along, ◌>>=◌}
use Rattle.types.specs.Finding.{Finding, ◌gives◌, found_or, of_option, of_each}

-- what a label may name where it stands: the principals, and the variables among the names in scope, of which the globals are those
-- that are declared before it, and the slots those of the parameters and locals
pub record LabelScope : Type 0 where
  pub hierarchy : PrincipalHierarchy
  pub names : Environment
  pub globals : List GlobalEntry
  pub slots : List SlotEntry

-- ---- principals

unfoldable pub principal_finding : PrincipalHierarchy → NameTree → Finding ℕ
principal_finding h name = found_or refusals.UnknownPrincipal name.at (number_of h name.text)

-- ---- the labels of variables

-- of a global, which is declared before (301), or of a parameter or local, whose label is written (305)
unfoldable pub variable_label_finding : LabelScope → Variable → (at : ℕ) → Finding Label
variable_label_finding scope (Global number) at =
    found_or refusals.UnknownName at (slice_get scope.globals number) gives λ global. global.label
variable_label_finding scope (Local number) at = do
  slot ← found_or refusals.UnknownName at (slice_get scope.slots number)
  found_or refusals.LabelNotWritten at slot.written

-- ---- labels

unfoldable pub component_finding : LabelScope → ComponentTree → Finding (List ReaderPolicy)
component_finding scope (PolicyComponent owner readers) = do
  number ← principal_finding scope.hierarchy owner
  of_each (principal_finding scope.hierarchy) readers gives λ found. written_policy number found ∷ []
component_finding scope (VariableComponent name) = do
  variable ← use_as variable_of (scope.names name.text) name.at
  variable_label_finding scope variable name.at

unfoldable pub label_finding : LabelScope → LabelTree → Finding Label
label_finding scope label =
    along (λ found component. component_finding scope component gives λ more. found ++ more) [] label.components gives written_label

-- ---- parts of the rules, by which proofs speak of them

-- the policy of a component
unfoldable pub policy_finding : PrincipalHierarchy → (owner : NameTree) (readers : List NameTree) → Finding ReaderPolicy
policy_finding h owner readers = do
  number ← principal_finding h owner
  of_each (principal_finding h) readers gives written_policy number

-- a label that may be left out
abbrev pub optional_label_finding : LabelScope → Option LabelTree → Finding (Option Label)
optional_label_finding scope label = of_option (label_finding scope) label

-- the policies of one component more
abbrev pub next_component : LabelScope → List ReaderPolicy → ComponentTree → Finding (List ReaderPolicy)
next_component scope found component = component_finding scope component gives λ more. found ++ more
