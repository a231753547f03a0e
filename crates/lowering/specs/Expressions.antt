-- Private: the code of expressions for a stack machine: code that leaves the value of an expression on the operands, and code of a condition
-- that goes to a position where the condition has the truth that is asked for, and else goes on after it.
-- Positions are numbers of instructions in the code of a procedure, from 0 on; code is made for the position at which it is to stand.
-- Source: our own; jumping code for conditions as textbooks give it.
use Rattle.common.specs.Functions.{same_truth}
use Rattle.common.specs.Operators.{opposite, opposite_sameness}
use Rattle.std.specs.Prelude.{ℕ, ◌+◌, Bool, true, false, not, List, [], ◌∷◌, ◌++◌, if◌then◌else◌}
use Rattle.resolved.specs.declared.expression.Variable.{Variable}
use Rattle.resolved.specs.declared.expression.Variable.TheVariants as variable
use Rattle.common.specs.declared.operator.Prefix.{Prefix}
use Rattle.common.specs.declared.operator.Prefix.TheVariants as prefix
use Rattle.common.specs.declared.operator.Operator.{Operator}
use Rattle.common.specs.declared.operator.Operator.TheVariants as operator
use Rattle.common.specs.declared.operator.Connective.{Connective}
use Rattle.common.specs.declared.operator.Connective.TheVariants.{And, Or}
use Rattle.resolved.specs.Tree.{Expression, Integer, Logical, Read, Element, Unary, Binary, Short}
use Rattle.resolved.specs.Value.{literal_number}
use Rattle.modules.specs.declared.instruction.Instruction.{Instruction}
use Rattle.modules.specs.declared.instruction.MachineOperator.{MachineOperator}
use Rattle.modules.specs.declared.instruction.MachineOperator.TheVariants.{Compute, Compare, Match, Negate, Not}
use Rattle.modules.specs.declared.instruction.Storage.TheVariants as storage
use Rattle.modules.specs.declared.instruction.Instruction.TheVariants.{Push, PushBoolean, Load, Store, LoadElement, StoreElement, Operate, Jump, JumpIfFalse}

-- ---- single instructions
abbrev pub load_of : Variable → Instruction
load_of (variable.Global n) = Load storage.Global n
load_of (variable.Local n) = Load storage.Local n

abbrev pub store_of : Variable → Instruction
store_of (variable.Global n) = Store storage.Global n
store_of (variable.Local n) = Store storage.Local n

abbrev pub load_element_of : Variable → Instruction
load_element_of (variable.Global n) = LoadElement storage.Global n
load_element_of (variable.Local n) = LoadElement storage.Local n

abbrev pub store_element_of : Variable → Instruction
store_element_of (variable.Global n) = StoreElement storage.Global n
store_element_of (variable.Local n) = StoreElement storage.Local n

abbrev pub prefix_instruction : Prefix → Instruction
prefix_instruction prefix.Negate = Operate Negate
prefix_instruction prefix.Not = Operate Not

abbrev pub machine_operator : Operator → MachineOperator
machine_operator (operator.Compute computed) = Compute computed
machine_operator (operator.Compare compared) = Compare compared
machine_operator (operator.Match matched) = Match matched

abbrev pub operator_instruction : Operator → Instruction
operator_instruction operator = Operate (machine_operator operator)

-- ---- values
-- how many instructions the code of an expression's value has
abbrev pub value_size : Expression → ℕ
value_size (Integer n) = 1
value_size (Logical b) = 1
value_size (Read x) = 1
value_size (Element array length index) = value_size index + 1
value_size (Unary prefix e) = value_size e + 1
value_size (Binary operator d e) = value_size d + (value_size e + 1)
value_size (Short connective d e) = value_size d + (1 + (value_size e + 2))

-- after the left operand of a connective: where it decides, its value is pushed again; else the right operand's is
abbrev pub rest_of_short : Connective → (at : ℕ) → (right_size : ℕ) → ((at : ℕ) → List Instruction) → List Instruction
rest_of_short And at right_size right =
    JumpIfFalse (at + 1 + right_size + 1) ∷ (right (at + 1) ++ Jump (at + 1 + right_size + 1 + 1) ∷ PushBoolean false ∷ [])
rest_of_short Or at right_size right =
    JumpIfFalse (at + 1 + 1 + 1) ∷ PushBoolean true ∷ Jump (at + 1 + 1 + 1 + right_size) ∷ right (at + 1 + 1 + 1)

-- code that pushes the value of an expression, left operands first
abbrev pub value_code : (at : ℕ) → Expression → List Instruction
value_code at (Integer n) = Push (literal_number n) ∷ []
value_code at (Logical b) = PushBoolean b ∷ []
value_code at (Read x) = load_of x ∷ []
value_code at (Element array length index) = value_code at index ++ load_element_of array ∷ []
value_code at (Unary prefix e) = value_code at e ++ prefix_instruction prefix ∷ []
value_code at (Binary operator d e) =
    value_code at d ++ (value_code (at + value_size d) e ++ operator_instruction operator ∷ [])
value_code at (Short connective d e) =
    value_code at d ++ rest_of_short connective (at + value_size d) (value_size e) (λ position. value_code position e)

-- the values of arguments, from the left
abbrev pub arguments_size : List Expression → ℕ
arguments_size [] = 0
arguments_size (e ∷ rest) = value_size e + arguments_size rest

abbrev pub arguments_code : (at : ℕ) → List Expression → List Instruction
arguments_code at [] = []
arguments_code at (e ∷ rest) = value_code at e ++ arguments_code (at + value_size e) rest

-- ---- conditions
-- the operator that is true exactly where an operator is false; one that gives a number has none and stays
abbrev pub negated_operator : Operator → Operator
negated_operator (operator.Compute computed) = operator.Compute computed
negated_operator (operator.Compare compared) = operator.Compare (opposite compared)
negated_operator (operator.Match matched) = operator.Match (opposite_sameness matched)

-- a condition that is true exactly where a condition is false. A connective is negated as a whole here; the code of a condition never
-- asks for that
abbrev pub negated : Expression → Expression
negated (Integer n) = Unary prefix.Not (Integer n)
negated (Logical b) = Logical (not b)
negated (Read x) = Unary prefix.Not (Read x)
negated (Element array length index) = Unary prefix.Not (Element array length index)
negated (Unary sign e) = Unary prefix.Not (Unary sign e)
negated (Binary operator d e) = Binary (negated_operator operator) d e
negated (Short connective d e) = Unary prefix.Not (Short connective d e)

-- a condition as it is tested: code goes to a position where what is tested is false
abbrev pub tested : (wanted : Bool) → Expression → Expression
tested false e = e
tested true e = negated e

-- the truth at which the left operand of a connective decides
abbrev pub deciding : Connective → Bool
deciding And = false
deciding Or = true

abbrev pub branch_size : (wanted : Bool) → Expression → ℕ
branch_size wanted (Integer n) = value_size (tested wanted (Integer n)) + 1
branch_size wanted (Logical b) = value_size (tested wanted (Logical b)) + 1
branch_size wanted (Read x) = value_size (tested wanted (Read x)) + 1
branch_size wanted (Element array length index) = value_size (tested wanted (Element array length index)) + 1
branch_size wanted (Unary prefix.Negate e) = value_size (tested wanted (Unary prefix.Negate e)) + 1
branch_size wanted (Unary prefix.Not e) = branch_size (not wanted) e
branch_size wanted (Binary operator d e) = value_size (tested wanted (Binary operator d e)) + 1
branch_size wanted (Short connective d e) = branch_size (deciding connective) d + branch_size wanted e

abbrev pub test_code : (wanted : Bool) → (at target : ℕ) → Expression → List Instruction
test_code wanted at target e = value_code at (tested wanted e) ++ JumpIfFalse target ∷ []

-- code that goes to a position where the condition has the wanted truth, and else goes on after it. Where the left operand of a connective
-- decides, the whole condition has that truth
abbrev pub branch_code : (wanted : Bool) → (at target : ℕ) → Expression → List Instruction
branch_code wanted at target (Integer n) = test_code wanted at target (Integer n)
branch_code wanted at target (Logical b) = test_code wanted at target (Logical b)
branch_code wanted at target (Read x) = test_code wanted at target (Read x)
branch_code wanted at target (Element array length index) = test_code wanted at target (Element array length index)
branch_code wanted at target (Unary prefix.Negate e) = test_code wanted at target (Unary prefix.Negate e)
branch_code wanted at target (Unary prefix.Not e) = branch_code (not wanted) at target e
branch_code wanted at target (Binary operator d e) = test_code wanted at target (Binary operator d e)
branch_code wanted at target (Short connective d e) =
    branch_code (deciding connective) at
    (if same_truth wanted (deciding connective) then target
    else at + branch_size (deciding connective) d + branch_size wanted e) d
    ++ branch_code wanted (at + branch_size (deciding connective) d) target e
