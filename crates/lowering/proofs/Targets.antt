-- Where the code of expressions and conditions jumps: after itself at most.
use Rattle.common.specs.Functions.{same_truth}
use Rattle.std.proofs.Common.{ℕ, ◌+◌, ◌<◌, ◌≤◌, List, [], ◌∷◌, ◌++◌, All, Bool, true, false, arith}
use Rattle.common.proofs.Cases.{by_test}
use Rattle.std.specs.Prelude.{IfSome, Option, Some, None, not}
use Rattle.std.proofs.lemmas.List.Elements.{All-nil, All-cons, All-append}
use Rattle.resolved.specs.declared.expression.Variable.{Variable}
use Rattle.resolved.specs.declared.expression.Variable.TheVariants.{Global, Local}
use Rattle.common.specs.declared.operator.Prefix.{Prefix}
use Rattle.common.specs.declared.operator.Prefix.TheVariants as prefix
use Rattle.common.specs.declared.operator.Operator.{Operator}
use Rattle.common.specs.declared.operator.Operator.TheVariants as operator
use Rattle.common.specs.declared.operator.Connective.{Connective}
use Rattle.common.specs.declared.operator.Connective.TheVariants.{And, Or}
use Rattle.resolved.specs.Tree.{Expression, Integer, Logical, Read, Element, Unary, Binary, Short}
use Rattle.modules.specs.declared.instruction.Instruction.{Instruction}
use Rattle.modules.specs.declared.instruction.Instruction.TheVariants as instruction
use Rattle.modules.specs.Targets.{target_of}
use Rattle.lowering.specs.Expressions.{load_of, store_of, load_element_of, store_element_of, prefix_instruction, operator_instruction, value_size, value_code, rest_of_short, arguments_size, arguments_code, tested, deciding, branch_size, branch_code, test_code}
use Rattle.lowering.specs.Code.{kept_code}

-- an instruction that goes nowhere else, or to a position before n
abbrev pub Below : ℕ → Instruction → Type 0
Below n i = IfSome (target_of i) (λ target. target < n)

-- code that goes nowhere else, or to positions before n
pub record Stays (n : ℕ) (code : List Instruction) : Type 0 where
  pub each : All (Below n) code

pub none-below : (n : ℕ) → Stays n []
none-below n = record { each = All-nil (Below n) }

pub more-below : (n : ℕ) (i : Instruction) (code : List Instruction) → Below n i → Stays n code → Stays n (i ∷ code)
more-below n i code h k = record { each = All-cons (Below n) i code h k.each }

pub one-below : (n : ℕ) (i : Instruction) → Below n i → Stays n (i ∷ [])
one-below n i h = more-below n i [] h (none-below n)

pub both-below : (n : ℕ) (xs ys : List Instruction) → Stays n xs → Stays n ys → Stays n (xs ++ ys)
both-below n xs ys h k = record { each = All-append (Below n) xs ys h.each k.each }

load-below : (n : ℕ) (x : Variable) → Below n (load_of x)
load-below n (Global k) = tt
load-below n (Local k) = tt

pub store-below : (n : ℕ) (x : Variable) → Below n (store_of x)
store-below n (Global k) = tt
store-below n (Local k) = tt

load_element-below : (n : ℕ) (x : Variable) → Below n (load_element_of x)
load_element-below n (Global k) = tt
load_element-below n (Local k) = tt

pub store_element-below : (n : ℕ) (x : Variable) → Below n (store_element_of x)
store_element-below n (Global k) = tt
store_element-below n (Local k) = tt

pub kept-below : (n : ℕ) (target : Option Variable) → Below n (kept_code target)
kept-below n None = tt
kept-below n (Some x) = store-below n x

prefix-below : (n : ℕ) (sign : Prefix) → Below n (prefix_instruction sign)
prefix-below n prefix.Negate = tt
prefix-below n prefix.Not = tt

operator-below : (n : ℕ) (o : Operator) → Below n (operator_instruction o)
operator-below n (operator.Compute computed) = tt
operator-below n (operator.Compare compared) = tt
operator-below n (operator.Match matched) = tt

short-below : (connective : Connective) (at size n : ℕ) (right : ℕ → List Instruction) → at + (1 + (size + 2)) < n
    → ((position : ℕ) → position + size < n → Stays n (right position)) → Stays n (rest_of_short connective at size right)
short-below And at size n right room h =
    more-below n (instruction.JumpIfFalse (at + 1 + size + 1)) _ (omega (arith, room))
    (both-below n (right (at + 1)) _ (h (at + 1) (omega (arith, room)))
    (more-below n (instruction.Jump (at + 1 + size + 1 + 1)) _ (omega (arith, room)) (one-below n (instruction.PushBoolean false) tt)))
short-below Or at size n right room h =
    more-below n (instruction.JumpIfFalse (at + 1 + 1 + 1)) _ (omega (arith, room))
    (more-below n (instruction.PushBoolean true) _ tt
    (more-below n (instruction.Jump (at + 1 + 1 + 1 + size)) _ (omega (arith, room)) (h (at + 1 + 1 + 1) (omega (arith, room)))))

pub value-below : (e : Expression) (at n : ℕ) → at + value_size e < n → Stays n (value_code at e)
value-below (Integer k) at n room = one-below n _ tt
value-below (Logical b) at n room = one-below n _ tt
value-below (Read x) at n room = one-below n _ (load-below n x)
value-below (Element array length index) at n room =
    both-below n (value_code at index) _ (value-below index at n (omega (arith, room))) (one-below n _ (load_element-below n array))
value-below (Unary sign e) at n room =
    both-below n (value_code at e) _ (value-below e at n (omega (arith, room))) (one-below n _ (prefix-below n sign))
value-below (Binary o d e) at n room =
    both-below n (value_code at d) _ (value-below d at n (omega (arith, room)))
    (both-below n (value_code (at + value_size d) e) _ (value-below e (at + value_size d) n (omega (arith, room))) (one-below n _ (operator-below n o)))
value-below (Short connective d e) at n room =
    both-below n (value_code at d) _ (value-below d at n (omega (arith, room)))
    (short-below connective (at + value_size d) (value_size e) n (λ position. value_code position e) (omega (arith, room)) (λ position h. value-below e position n h))

pub arguments-below : (es : List Expression) (at n : ℕ) → at + arguments_size es < n → Stays n (arguments_code at es)
arguments-below [] at n room = none-below n
arguments-below (e ∷ rest) at n room =
    both-below n (value_code at e) _ (value-below e at n (omega (arith, room))) (arguments-below rest (at + value_size e) n (omega (arith, room)))

-- a condition has code
test-filled : (wanted : Bool) (e : Expression) → 1 ≤ value_size (tested wanted e) + 1
test-filled wanted e = omega arith

pub branch-filled : (e : Expression) (wanted : Bool) → 1 ≤ branch_size wanted e
branch-filled (Integer k) wanted = test-filled wanted (Integer k)
branch-filled (Logical b) wanted = test-filled wanted (Logical b)
branch-filled (Read x) wanted = test-filled wanted (Read x)
branch-filled (Element array length index) wanted = test-filled wanted (Element array length index)
branch-filled (Unary prefix.Negate e) wanted = test-filled wanted (Unary prefix.Negate e)
branch-filled (Unary prefix.Not e) wanted = branch-filled e (not wanted)
branch-filled (Binary o d e) wanted = test-filled wanted (Binary o d e)
branch-filled (Short connective d e) wanted = omega (arith, branch-filled d (deciding connective))

test-below : (wanted : Bool) (e : Expression) (at target n : ℕ) → at + (value_size (tested wanted e) + 1) ≤ n → target < n
    → Stays n (test_code wanted at target e)
test-below wanted e at target n room h =
    both-below n (value_code at (tested wanted e)) _ (value-below (tested wanted e) at n (omega (arith, room))) (one-below n (instruction.JumpIfFalse target) h)

pub branch-below : (e : Expression) (wanted : Bool) (at target n : ℕ) → at + branch_size wanted e < n → target < n → Stays n (branch_code wanted at target e)
branch-below (Integer k) wanted at target n room h = test-below wanted (Integer k) at target n (omega (arith, room)) h
branch-below (Logical b) wanted at target n room h = test-below wanted (Logical b) at target n (omega (arith, room)) h
branch-below (Read x) wanted at target n room h = test-below wanted (Read x) at target n (omega (arith, room)) h
branch-below (Element array length index) wanted at target n room h = test-below wanted (Element array length index) at target n (omega (arith, room)) h
branch-below (Unary prefix.Negate e) wanted at target n room h = test-below wanted (Unary prefix.Negate e) at target n (omega (arith, room)) h
branch-below (Unary prefix.Not e) wanted at target n room h = branch-below e (not wanted) at target n room h
branch-below (Binary o d e) wanted at target n room h = test-below wanted (Binary o d e) at target n (omega (arith, room)) h
branch-below (Short connective d e) wanted at target n room h =
    both-below n (branch_code (deciding connective) at _ d) _
    (branch-below d (deciding connective) at _ n (omega (arith, room))
    (by_test (same_truth wanted (deciding connective)) (λ e. rw e h) (λ e. rw e (omega (arith, room)))))
    (branch-below e wanted (at + branch_size (deciding connective) d) target n (omega (arith, room)) h)
