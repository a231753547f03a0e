-- The numbers in the code of statements and in its handlers, but for where it jumps, are within the limits of the module file.
use Rattle.std.proofs.Common.{◌≡◌, ℕ, pos, ◌+◌, ◌^◌, ◌<◌, ◌≤◌, Bool, true, false, ◌&&◌, List, [], ◌∷◌, ◌++◌, length, Option, Some, None, refl, arith, length-append}
use Rattle.std.specs.Prelude.{IsTrue, slice_get, is_none, not, nat_lt, ◌||◌, if◌then◌else◌}
use Rattle.std.specs.Int.{w32}
use Rattle.std.specs.List.{AllByRecursion, list_any}
use Rattle.std.proofs.lemmas.Bool.{ltb-true, and_parts}
use Rattle.std.proofs.lemmas.Int.{SFits-int_wrap}
use Rattle.std.proofs.lemmas.Option.{slice_get_within}
use Rattle.common.specs.declared.base_type.BaseType.{BaseType}
use Rattle.common.specs.declared.base_type.BaseType.TheVariants.{Int, Boolean}
use Rattle.resolved.specs.declared.expression.Variable.{Variable}
use Rattle.resolved.specs.declared.expression.Variable.TheVariants.{Global, Local}
use Rattle.common.specs.declared.operator.Prefix.{Prefix}
use Rattle.common.specs.declared.operator.Prefix.TheVariants as prefix
use Rattle.common.specs.declared.operator.Operator.{Operator}
use Rattle.common.specs.declared.operator.Operator.TheVariants as operator
use Rattle.common.specs.declared.operator.BitOperator.TheVariants as bits
use Rattle.common.specs.declared.operator.Arithmetic.TheVariants as arithmetic
use Rattle.common.specs.declared.operator.Comparison.TheVariants as comparison
use Rattle.common.specs.declared.operator.Order.TheVariants as order
use Rattle.common.specs.declared.operator.Sameness.TheVariants as sameness
use Rattle.common.specs.declared.operator.Connective.{Connective}
use Rattle.common.specs.declared.operator.Connective.TheVariants.{And, Or}
use Rattle.resolved.specs.declared.statement.Exit.{Exit}
use Rattle.resolved.specs.declared.statement.Exit.TheVariants.{Normal, Return, Break, Continue, Throw}
use Rattle.common.specs.declared.direction.Direction.{Direction}
use Rattle.common.specs.declared.direction.Direction.TheVariants.{Input, Output}
use Rattle.resolved.specs.Tree.{Expression, Integer, Logical, Read, Element, Unary, Binary, Short, Statement, Placed, Assign, Clear, Store, Receive, Send, Call, If, While, Leave, ReturnWith, Try, Nested, Block, Empty, Then, Handlers, NoMore, Catch}
use Rattle.labels.specs.Channel.{ChannelContents}
use Rattle.resolved.specs.Program.{Program, ProcedureEntry, SlotEntry, ResultEntry, GlobalEntry, procedure_at}
use Rattle.resolved.specs.BitUse.{is_bit_operator, expression_uses_bits, statement_uses_bits, block_uses_bits, handlers_use_bits}
use Rattle.resolved.specs.Value.{literal_number}
use Rattle.resolved.specs.WellFormed.{VariableType, same_base, slot_type, global_type, variable_type, scalar_by, has_length, array_by, has_base, prefix_base, operand_base, result_base, has_result, target_by, channel_is, arguments_match, parameters_of, call_matches, is_exception, may_leave_by, is_array, statement_fits, block_fits, handlers_fit, statement_nodes, block_nodes, handlers_nodes}
use Rattle.resolved.proofs.WellFormedParts.{result_some}
use Rattle.modules.specs.declared.instruction.Instruction.{Instruction}
use Rattle.modules.specs.declared.instruction.Instruction.TheVariants as instruction
use Rattle.modules.specs.declared.instruction.MachineOperator.TheVariants as machine
use Rattle.modules.specs.declared.declaration.Handler.{Handler}
use Rattle.modules.specs.declared.version.Version.{Version}
use Rattle.modules.specs.declared.version.Version.TheVariants.{Two}
use Rattle.modules.specs.Opcodes.{OperandFits, entry_of as opcode_entry, has_instruction}
use Rattle.lowering.specs.Expressions.{load_of, store_of, load_element_of, store_element_of, prefix_instruction, operator_instruction, negated_operator, value_size, value_code, rest_of_short, arguments_code, negated, deciding, branch_size, branch_code, test_code}
use Rattle.lowering.specs.Code.{Loop, jump_code, jumps_over, jumps_after, kept_code, result_code, leave_code, return_code, entry_of, no_position, test_position, handlers_position, statement_size, block_size, handlers_size, statement_code, block_code, handlers_code, statement_table, block_table, handlers_table}
use Rattle.lowering.specs.Graphs.{end_code}

-- ---- instructions

-- a version has an instruction, whose number, unless it is where that jumps, is within the limits
abbrev pub IsNumbered : Version → Instruction → Type 0
IsNumbered version (instruction.Jump target) = Unit {0}
IsNumbered version (instruction.JumpIfFalse target) = Unit {0}
IsNumbered version (instruction.Operate operator) = IsTrue (has_instruction version (instruction.Operate operator))
IsNumbered version x = OperandFits (opcode_entry x).operand

pub record AreNumbered (version : Version) (code : List Instruction) : Type 0 where
  pub each : AllByRecursion (IsNumbered version) code

-- what uses operators on bits has a version that has them
abbrev pub Allows : Version → (uses : Bool) → Type 0
Allows version uses = uses ≡ true → version ≡ Two

pub allows-first : (version : Version) (a b : Bool) → Allows version (a || b) → Allows version a
allows-first version true b k e = k refl
allows-first version false b k e = cc

pub allows-second : (version : Version) (a b : Bool) → Allows version (a || b) → Allows version b
allows-second version true b k e = k refl
allows-second version false b k e = k e

numbered-none : {version : Version} → AreNumbered version []
numbered-none = record { each = tt }

numbered-more : {version : Version} (x : Instruction) (code : List Instruction) → IsNumbered version x → AreNumbered version code → AreNumbered version (x ∷ code)
numbered-more x code h k = record { each = (h, k.each) }

numbered-one : {version : Version} (x : Instruction) → IsNumbered version x → AreNumbered version (x ∷ [])
numbered-one x h = numbered-more x [] h numbered-none

append-each : (version : Version) (xs ys : List Instruction) → AllByRecursion (IsNumbered version) xs → AllByRecursion (IsNumbered version) ys → AllByRecursion (IsNumbered version) (xs ++ ys)
append-each version [] ys h k = k
append-each version (x ∷ xs) ys h k = (h.0, append-each version xs ys h.1 k)

pub numbered-both : {version : Version} (xs ys : List Instruction) → AreNumbered version xs → AreNumbered version ys → AreNumbered version (xs ++ ys)
numbered-both {version = version} xs ys h k = record { each = append-each version xs ys h.each k.each }

literal-numbered : (version : Version) (n : ℕ) → IsNumbered version (instruction.Push (literal_number n))
literal-numbered version n = SFits-int_wrap w32 (pos n)

prefix-numbered : (version : Version) (sign : Prefix) → IsNumbered version (prefix_instruction sign)
prefix-numbered version prefix.Negate = refl
prefix-numbered version prefix.Not = refl

operator-numbered : (version : Version) (o : Operator) → Allows version (is_bit_operator o) → IsNumbered version (operator_instruction o)
operator-numbered version (operator.Compute (arithmetic.Bits bits.BitAnd)) k = rw (k refl) refl
operator-numbered version (operator.Compute (arithmetic.Bits made)) k = rw (k refl) refl
operator-numbered version (operator.Compute arithmetic.Add) k = refl
operator-numbered version (operator.Compare (comparison.Ordered order.LessThan)) k = refl
operator-numbered version (operator.Compare (comparison.Matched sameness.Same)) k = refl
operator-numbered version (operator.Match sameness.Same) k = refl
operator-numbered version o k = refl

negated-allows : (version : Version) (o : Operator) → Allows version (is_bit_operator o) → Allows version (is_bit_operator (negated_operator o))
negated-allows version (operator.Compute computed) k = k
negated-allows version (operator.Compare compared) k = k
negated-allows version (operator.Match matched) k = k

jump-numbered : {version : Version} (wanted : Bool) (target : ℕ) → AreNumbered version (jump_code wanted target)
jump-numbered true target = numbered-one (instruction.Jump target) tt
jump-numbered false target = numbered-none

pub end-numbered : {version : Version} (falls : Bool) → AreNumbered version (end_code falls)
end-numbered true = numbered-one instruction.Return tt
end-numbered false = numbered-none

short-numbered : {version : Version} (connective : Connective) (at size : ℕ) (right : ℕ → List Instruction) → ((position : ℕ) → AreNumbered version (right position)) → AreNumbered version (rest_of_short connective at size right)
short-numbered And at size right h =
    numbered-more (instruction.JumpIfFalse (at + 1 + size + 1)) _ tt
    (numbered-both (right (at + 1)) _ (h (at + 1)) (numbered-more (instruction.Jump (at + 1 + size + 1 + 1)) _ tt (numbered-one (instruction.PushBoolean false) tt)))
short-numbered Or at size right h =
    numbered-more (instruction.JumpIfFalse (at + 1 + 1 + 1)) _ tt
    (numbered-more (instruction.PushBoolean true) _ tt (numbered-more (instruction.Jump (at + 1 + 1 + 1 + size)) _ tt (h (at + 1 + 1 + 1))))

-- ---- variables

-- the number of a variable is within the limits
abbrev IsSmall : Variable → Type 0
IsSmall (Global n) = n < 2 ^ 32
IsSmall (Local n) = n < 2 ^ 32

load-numbered : (version : Version) (x : Variable) → IsSmall x → IsNumbered version (load_of x)
load-numbered version (Global n) h = h
load-numbered version (Local n) h = h

store-numbered : (version : Version) (x : Variable) → IsSmall x → IsNumbered version (store_of x)
store-numbered version (Global n) h = h
store-numbered version (Local n) h = h

load_element-numbered : (version : Version) (x : Variable) → IsSmall x → IsNumbered version (load_element_of x)
load_element-numbered version (Global n) h = h
load_element-numbered version (Local n) h = h

store_element-numbered : (version : Version) (x : Variable) → IsSmall x → IsNumbered version (store_element_of x)
store_element-numbered version (Global n) h = h
store_element-numbered version (Local n) h = h

scalar-is : (o : Option VariableType) (test : BaseType → Bool) → scalar_by o test ≡ true → (type : VariableType) × (o ≡ Some type) × (test type.base ≡ true)
scalar-is None test h = absurd (cc)
scalar-is (Some type) test h = (type, refl, (and_parts (is_none type.size) (test type.base) h).1)

array-is : (o : Option VariableType) (count : ℕ) (test : BaseType → Bool) → array_by o count test ≡ true → (type : VariableType) × (o ≡ Some type) × (test type.base ≡ true)
array-is None count test h = absurd (cc)
array-is (Some type) count test h = (type, refl, (and_parts (has_length type.size count) (test type.base) h).1)

-- ---- handlers

-- the number of a handler's exception is within the limits
abbrev pub IsOfException : Handler → Type 0
IsOfException handler = handler.exception < 2 ^ 32

pub record AreCatches (most : ℕ) (table : List Handler) : Type 0 where
  pub each : AllByRecursion IsOfException table
  pub few : length table ≤ most

catches-none : (most : ℕ) → AreCatches most []
catches-none most = record { each = tt; few = omega arith }

append-catches : (xs ys : List Handler) → AllByRecursion IsOfException xs → AllByRecursion IsOfException ys → AllByRecursion IsOfException (xs ++ ys)
append-catches [] ys h k = k
append-catches (x ∷ xs) ys h k = (h.0, append-catches xs ys h.1 k)

catches-both : (m n most : ℕ) (xs ys : List Handler) → AreCatches m xs → AreCatches n ys → m + n ≤ most → AreCatches most (xs ++ ys)
catches-both m n most xs ys h k room =
    record { each = append-catches xs ys h.each k.each; few = omega (arith, length-append xs ys, h.few, k.few, room) }

catches-more : (m most : ℕ) (xs : List Handler) → AreCatches m xs → m ≤ most → AreCatches most xs
catches-more m most xs h room = record { each = h.each; few = omega (arith, h.few, room) }

entry-catches : (start end exception target : ℕ) → exception < 2 ^ 32 → AreCatches 1 (entry_of start end exception target)
entry-catches start end exception target small = by (nat_lt start end)
  where
    by : (b : Bool) → AreCatches 1 (if b then (record { start = start; end = end; exception = exception; target = target } ∷ []) else [])
    by true = record { each = (small, tt); few = omega arith }
    by false = catches-none 1

-- ---- code of a program whose tables are not too long
pub record HasShortTables (program : Program) (procedure : ProcedureEntry) : Type 0 where
  pub globals : length program.globals < 2 ^ 32
  pub slots : length procedure.slots < 2 ^ 32
  pub channels : length program.channels < 2 ^ 32
  pub procedures : length program.procedures < 2 ^ 32
  pub exceptions : 3 + length program.exceptions < 2 ^ 32

module _ (version : Version) (program : Program) (procedure : ProcedureEntry) (short : HasShortTables program procedure) where
  global-small : (n : ℕ) (type : VariableType) (o : Option GlobalEntry) → slice_get program.globals n ≡ o → global_type o ≡ Some type → n < 2 ^ 32
  global-small n type None e h = absurd (cc)
  global-small n type (Some entry) e h = omega (arith, slice_get_within program.globals n entry e, short.globals)

  slot-small : (n : ℕ) (type : VariableType) (o : Option SlotEntry) → slice_get procedure.slots n ≡ o → slot_type o ≡ Some type → n < 2 ^ 32
  slot-small n type None e h = absurd (cc)
  slot-small n type (Some entry) e h = omega (arith, slice_get_within procedure.slots n entry e, short.slots)

  variable-small : (x : Variable) (type : VariableType) → variable_type program procedure x ≡ Some type → IsSmall x
  variable-small (Global n) type h = global-small n type (slice_get program.globals n) refl h
  variable-small (Local n) type h = slot-small n type (slice_get procedure.slots n) refl h

  scalar-small : (x : Variable) (test : BaseType → Bool) → scalar_by (variable_type program procedure x) test ≡ true → IsSmall x
  scalar-small x test h =
      let there = scalar-is (variable_type program procedure x) test h in
      variable-small x there.0 there.1

  array-small : (x : Variable) (count : ℕ) (test : BaseType → Bool) → array_by (variable_type program procedure x) count test ≡ true → IsSmall x
  array-small x count test h =
      let there = array-is (variable_type program procedure x) count test h in
      variable-small x there.0 there.1

  channel-small : (n : ℕ) (direction : Direction) (o : Option ChannelContents) → slice_get program.channels n ≡ o → channel_is o direction ≡ true → n < 2 ^ 32
  channel-small n direction None e h = absurd (cc)
  channel-small n direction (Some entry) e h = omega (arith, slice_get_within program.channels n entry e, short.channels)

  exception-small : (n : ℕ) → is_exception program n ≡ true → n < 2 ^ 32
  exception-small n h = omega (arith, ltb-true n (3 + length program.exceptions) h, short.exceptions)

  -- ---- values
  value-numbered : (e : Expression) (base : BaseType) (at : ℕ) → has_base program procedure base e ≡ true → Allows version (expression_uses_bits e)
      → AreNumbered version (value_code at e)
  value-numbered (Integer n) base at h k = numbered-one _ (literal-numbered version n)
  value-numbered (Logical b) base at h k = numbered-one _ tt
  value-numbered (Read x) base at h k = numbered-one _ (load-numbered version x (scalar-small x (same_base base) h))
  value-numbered (Element array count index) base at h k =
      let parts = and_parts (array_by (variable_type program procedure array) count (same_base base)) (has_base program procedure Int index) h in
      numbered-both (value_code at index) _ (value-numbered index Int at parts.1 k) (numbered-one _ (load_element-numbered version array (array-small array count (same_base base) parts.0)))
  value-numbered (Unary sign e) base at h k =
      numbered-both (value_code at e) _ (value-numbered e (prefix_base sign) at (and_parts (same_base (prefix_base sign) base) _ h).1 k) (numbered-one _ (prefix-numbered version sign))
  value-numbered (Binary o d e) base at h k =
      let parts = and_parts (same_base (result_base o) base && has_base program procedure (operand_base o) d) (has_base program procedure (operand_base o) e) h in
      let left = (and_parts (same_base (result_base o) base) (has_base program procedure (operand_base o) d) parts.0).1 in
      let front = allows-first version (is_bit_operator o || expression_uses_bits d) (expression_uses_bits e) k in
      numbered-both (value_code at d) _ (value-numbered d (operand_base o) at left (allows-second version (is_bit_operator o) (expression_uses_bits d) front))
      (numbered-both (value_code (at + value_size d) e) _ (value-numbered e (operand_base o) (at + value_size d) parts.1 (allows-second version (is_bit_operator o || expression_uses_bits d) (expression_uses_bits e) k))
      (numbered-one _ (operator-numbered version o (allows-first version (is_bit_operator o) (expression_uses_bits d) front))))
  value-numbered (Short connective d e) base at h k =
      let parts = and_parts (same_base Boolean base && has_base program procedure Boolean d) (has_base program procedure Boolean e) h in
      let left = (and_parts (same_base Boolean base) (has_base program procedure Boolean d) parts.0).1 in
      numbered-both (value_code at d) _ (value-numbered d Boolean at left (allows-first version (expression_uses_bits d) (expression_uses_bits e) k))
      (short-numbered connective (at + value_size d) (value_size e) (λ position. value_code position e) (λ position. value-numbered e Boolean position parts.1 (allows-second version (expression_uses_bits d) (expression_uses_bits e) k)))

  -- a condition that is negated as a whole
  not-numbered : (e : Expression) (at : ℕ) → has_base program procedure Boolean e ≡ true → Allows version (expression_uses_bits e)
      → AreNumbered version (value_code at (Unary prefix.Not e))
  not-numbered e at h k = numbered-both (value_code at e) _ (value-numbered e Boolean at h k) (numbered-one (instruction.Operate machine.Not) refl)

  negated-numbered : (e : Expression) (at : ℕ) → has_base program procedure Boolean e ≡ true → Allows version (expression_uses_bits e)
      → AreNumbered version (value_code at (negated e))
  negated-numbered (Integer n) at h k = not-numbered (Integer n) at h k
  negated-numbered (Logical b) at h k = numbered-one _ tt
  negated-numbered (Read x) at h k = not-numbered (Read x) at h k
  negated-numbered (Element array count index) at h k = not-numbered (Element array count index) at h k
  negated-numbered (Unary sign e) at h k = not-numbered (Unary sign e) at h k
  negated-numbered (Binary o d e) at h k =
      let parts = and_parts (same_base (result_base o) Boolean && has_base program procedure (operand_base o) d) (has_base program procedure (operand_base o) e) h in
      let left = (and_parts (same_base (result_base o) Boolean) (has_base program procedure (operand_base o) d) parts.0).1 in
      let front = allows-first version (is_bit_operator o || expression_uses_bits d) (expression_uses_bits e) k in
      numbered-both (value_code at d) _ (value-numbered d (operand_base o) at left (allows-second version (is_bit_operator o) (expression_uses_bits d) front))
      (numbered-both (value_code (at + value_size d) e) _ (value-numbered e (operand_base o) (at + value_size d) parts.1 (allows-second version (is_bit_operator o || expression_uses_bits d) (expression_uses_bits e) k))
      (numbered-one _ (operator-numbered version (negated_operator o) (negated-allows version o (allows-first version (is_bit_operator o) (expression_uses_bits d) front)))))
  negated-numbered (Short connective d e) at h k = not-numbered (Short connective d e) at h k

  test-numbered : (wanted : Bool) (e : Expression) (at target : ℕ) → has_base program procedure Boolean e ≡ true → Allows version (expression_uses_bits e)
      → AreNumbered version (test_code wanted at target e)
  test-numbered true e at target h k = numbered-both (value_code at (negated e)) _ (negated-numbered e at h k) (numbered-one (instruction.JumpIfFalse target) tt)
  test-numbered false e at target h k = numbered-both (value_code at e) _ (value-numbered e Boolean at h k) (numbered-one (instruction.JumpIfFalse target) tt)

  branch-numbered : (e : Expression) (wanted : Bool) (at target : ℕ) → has_base program procedure Boolean e ≡ true → Allows version (expression_uses_bits e)
      → AreNumbered version (branch_code wanted at target e)
  branch-numbered (Integer n) wanted at target h k = test-numbered wanted (Integer n) at target h k
  branch-numbered (Logical b) wanted at target h k = test-numbered wanted (Logical b) at target h k
  branch-numbered (Read x) wanted at target h k = test-numbered wanted (Read x) at target h k
  branch-numbered (Element array count index) wanted at target h k = test-numbered wanted (Element array count index) at target h k
  branch-numbered (Unary prefix.Negate e) wanted at target h k = test-numbered wanted (Unary prefix.Negate e) at target h k
  branch-numbered (Unary prefix.Not e) wanted at target h k =
      branch-numbered e (not wanted) at target (and_parts (same_base Boolean Boolean) (has_base program procedure Boolean e) h).1 k
  branch-numbered (Binary o d e) wanted at target h k = test-numbered wanted (Binary o d e) at target h k
  branch-numbered (Short connective d e) wanted at target h k =
      let parts = and_parts (same_base Boolean Boolean && has_base program procedure Boolean d) (has_base program procedure Boolean e) h in
      let left = (and_parts (same_base Boolean Boolean) (has_base program procedure Boolean d) parts.0).1 in
      numbered-both (branch_code (deciding connective) at _ d) _ (branch-numbered d (deciding connective) at _ left (allows-first version (expression_uses_bits d) (expression_uses_bits e) k))
      (branch-numbered e wanted (at + branch_size (deciding connective) d) target parts.1 (allows-second version (expression_uses_bits d) (expression_uses_bits e) k))

  arguments-numbered : (es : List Expression) (parameters : List SlotEntry) (at : ℕ) → arguments_match program procedure parameters es ≡ true
      → Allows version (list_any expression_uses_bits es) → AreNumbered version (arguments_code at es)
  arguments-numbered [] parameters at h k = numbered-none
  arguments-numbered (e ∷ rest) [] at h k = absurd (cc)
  arguments-numbered (e ∷ rest) (parameter ∷ parameters) at h k =
      let parts = and_parts (has_base program procedure parameter.base e) (arguments_match program procedure parameters rest) h in
      numbered-both (value_code at e) _ (value-numbered e parameter.base at parts.0 (allows-first version (expression_uses_bits e) _ k))
      (arguments-numbered rest parameters (at + value_size e) parts.1 (allows-second version (expression_uses_bits e) (list_any expression_uses_bits rest) k))

  kept-numbered : (target : Option Variable) (test : BaseType → Bool) → target_by program procedure target test ≡ true → IsNumbered version (kept_code target)
  kept-numbered None test h = tt
  kept-numbered (Some x) test h = store-numbered version x (scalar-small x test h)

  result-numbered : (result : Option ResultEntry) (target : Option Variable) (test : BaseType → Bool) → target_by program procedure target test ≡ true → AreNumbered version (result_code result target)
  result-numbered None target test h = numbered-none
  result-numbered (Some entry) target test h = numbered-one _ (kept-numbered target test h)

  leave-numbered : (loop : Loop) (exit : Exit) → may_leave_by program exit ≡ true → IsNumbered version (leave_code loop exit)
  leave-numbered loop Normal h = tt
  leave-numbered loop Return h = tt
  leave-numbered loop Break h = tt
  leave-numbered loop Continue h = tt
  leave-numbered loop (Throw exception) h = exception-small exception h

  -- ---- statements that hold no others
  assign-numbered : (x : Variable) (e : Expression) (at : ℕ) → scalar_by (variable_type program procedure x) (λ base. has_base program procedure base e) ≡ true
      → Allows version (expression_uses_bits e) → AreNumbered version (value_code at e ++ store_of x ∷ [])
  assign-numbered x e at h k =
      let there = scalar-is (variable_type program procedure x) (λ base. has_base program procedure base e) h in
      numbered-both (value_code at e) _ (value-numbered e there.0.base at there.2 k) (numbered-one _ (store-numbered version x (variable-small x there.0 there.1)))

  clear-numbered : (slot : ℕ) (o : Option SlotEntry) → slice_get procedure.slots slot ≡ o → is_array (slot_type o) ≡ true → IsNumbered version (instruction.Clear slot)
  clear-numbered slot None e h = absurd (cc)
  clear-numbered slot (Some entry) e h = omega (arith, slice_get_within procedure.slots slot entry e, short.slots)

  element-numbered : (array : Variable) (count : ℕ) (index e : Expression) (at : ℕ)
      → (array_by (variable_type program procedure array) count (λ base. has_base program procedure base e) && has_base program procedure Int index) ≡ true
      → Allows version (expression_uses_bits index || expression_uses_bits e) → AreNumbered version (value_code at index ++ (value_code (at + value_size index) e ++ store_element_of array ∷ []))
  element-numbered array count index e at h k =
      let parts = and_parts (array_by (variable_type program procedure array) count (λ base. has_base program procedure base e)) (has_base program procedure Int index) h in
      let there = array-is (variable_type program procedure array) count (λ base. has_base program procedure base e) parts.0 in
      numbered-both (value_code at index) _ (value-numbered index Int at parts.1 (allows-first version (expression_uses_bits index) (expression_uses_bits e) k))
      (numbered-both (value_code (at + value_size index) e) _ (value-numbered e there.0.base (at + value_size index) there.2 (allows-second version (expression_uses_bits index) (expression_uses_bits e) k))
      (numbered-one _ (store_element-numbered version array (variable-small array there.0 there.1))))

  call-numbered : (f : ℕ) (arguments : List Expression) (target : Option Variable) (at : ℕ) (result : Option ResultEntry) (o : Option ProcedureEntry)
      → slice_get program.procedures f ≡ o → call_matches program procedure o arguments target ≡ true
      → Allows version (list_any expression_uses_bits arguments) → AreNumbered version (arguments_code at arguments ++ instruction.Call f ∷ result_code result target)
  call-numbered f arguments target at result None e h k = absurd (cc)
  call-numbered f arguments target at result (Some callee) e h k =
      let test : BaseType → Bool = λ base. has_result callee.result (same_base base) in
      let parts = and_parts (arguments_match program procedure (parameters_of callee) arguments) (target_by program procedure target test) h in
      let small : f < 2 ^ 32 = omega (arith, slice_get_within program.procedures f callee e, short.procedures) in
      numbered-both (arguments_code at arguments) _ (arguments-numbered arguments (parameters_of callee) at parts.0 k)
      (numbered-more (instruction.Call f) _ small (result-numbered result target test parts.1))

  return-numbered : (e : Option Expression) (p at : ℕ) → statement_fits program procedure (Placed p (ReturnWith e)) ≡ true
      → Allows version (statement_uses_bits (Placed p (ReturnWith e))) → AreNumbered version (return_code at e)
  return-numbered None p at h k = numbered-one instruction.Return tt
  return-numbered (Some e) p at h k =
      let there = result_some procedure.result (λ base. has_base program procedure base e) h in
      numbered-both (value_code at e) _ (value-numbered e there.0 at there.1 k) (numbered-one instruction.ReturnValue tt)

  -- ---- statements, blocks and handlers
  mutual
    statement-numbered : (loop : Loop) (p : ℕ) (statement : Statement) → statement_fits program procedure statement ≡ true
        → Allows version (statement_uses_bits statement) → AreNumbered version (statement_code program loop p statement)
    statement-numbered loop p (Placed at (Assign x e)) h k = assign-numbered x e p h k
    statement-numbered loop p (Placed at (Clear slot)) h k = numbered-one _ (clear-numbered slot (slice_get procedure.slots slot) refl h)
    statement-numbered loop p (Placed at (Store array count index e)) h k = element-numbered array count index e p h k
    statement-numbered loop p (Placed at (Receive channel target)) h k =
        let parts = and_parts (channel_is (slice_get program.channels channel) Input) (target_by program procedure target (same_base Int)) h in
        numbered-more (instruction.Receive channel) _ (channel-small channel Input (slice_get program.channels channel) refl parts.0)
        (numbered-one _ (kept-numbered target (same_base Int) parts.1))
    statement-numbered loop p (Placed at (Send channel e)) h k =
        let parts = and_parts (channel_is (slice_get program.channels channel) Output) (has_base program procedure Int e) h in
        numbered-both (value_code p e) _ (value-numbered e Int p parts.1 k)
        (numbered-one (instruction.Send channel) (channel-small channel Output (slice_get program.channels channel) refl parts.0))
    statement-numbered loop p (Placed at (Call f arguments target)) h k =
        call-numbered f arguments target p (procedure_at program f).result (slice_get program.procedures f) refl h k
    statement-numbered loop p (Placed at (If e then_block else_block)) h k =
        let parts = and_parts (has_base program procedure Boolean e && block_fits program procedure then_block) (block_fits program procedure else_block) h in
        let first = and_parts (has_base program procedure Boolean e) (block_fits program procedure then_block) parts.0 in
        let front = allows-first version (expression_uses_bits e || block_uses_bits then_block) (block_uses_bits else_block) k in
        let no = no_position program p e then_block else_block in
        numbered-both (branch_code false p no e) _ (branch-numbered e false p no first.0 (allows-first version (expression_uses_bits e) (block_uses_bits then_block) front))
        (numbered-both (block_code program loop (p + branch_size false e) then_block) _ (block-numbered loop (p + branch_size false e) then_block first.1 (allows-second version (expression_uses_bits e) (block_uses_bits then_block) front))
        (numbered-both (jump_code (jumps_over then_block else_block) _) _ (jump-numbered (jumps_over then_block else_block) (no + block_size program else_block))
        (block-numbered loop no else_block parts.1 (allows-second version (expression_uses_bits e || block_uses_bits then_block) (block_uses_bits else_block) k))))
    statement-numbered loop p (Placed at (While number e body)) h k =
        let parts = and_parts (has_base program procedure Boolean e) (block_fits program procedure body) h in
        let test = test_position program p body in
        numbered-more (instruction.Jump test) _ tt
        (numbered-both (block_code program _ (p + 1) body) _
        (block-numbered (record { beyond = test + branch_size true e; test = test }) (p + 1) body parts.1 (allows-second version (expression_uses_bits e) (block_uses_bits body) k))
        (branch-numbered e true test (p + 1) parts.0 (allows-first version (expression_uses_bits e) (block_uses_bits body) k)))
    statement-numbered loop p (Placed at (Leave exit)) h k = numbered-one _ (leave-numbered loop exit h)
    statement-numbered loop p (Placed at (ReturnWith e)) h k = return-numbered e at p h k
    statement-numbered loop p (Placed at (Try block handlers)) h k =
        let parts = and_parts (block_fits program procedure block) (handlers_fit program procedure handlers) h in
        let position = handlers_position program p block handlers in
        numbered-both (block_code program loop p block) _ (block-numbered loop p block parts.0 (allows-first version (block_uses_bits block) (handlers_use_bits handlers) k))
        (numbered-both (jump_code (jumps_after block handlers) _) _ (jump-numbered (jumps_after block handlers) (position + handlers_size program handlers))
        (handlers-numbered loop (position + handlers_size program handlers) position handlers parts.1 (allows-second version (block_uses_bits block) (handlers_use_bits handlers) k)))
    statement-numbered loop p (Placed at (Nested block)) h k = block-numbered loop p block h k

    pub block-numbered : (loop : Loop) (p : ℕ) (block : Block) → block_fits program procedure block ≡ true
        → Allows version (block_uses_bits block) → AreNumbered version (block_code program loop p block)
    block-numbered loop p Empty h k = numbered-none
    block-numbered loop p (Then statement rest) h k =
        let parts = and_parts (statement_fits program procedure statement) (block_fits program procedure rest) h in
        numbered-both (statement_code program loop p statement) _ (statement-numbered loop p statement parts.0 (allows-first version (statement_uses_bits statement) (block_uses_bits rest) k))
        (block-numbered loop (p + statement_size program statement) rest parts.1 (allows-second version (statement_uses_bits statement) (block_uses_bits rest) k))

    handlers-numbered : (loop : Loop) (end p : ℕ) (handlers : Handlers) → handlers_fit program procedure handlers ≡ true
        → Allows version (handlers_use_bits handlers) → AreNumbered version (handlers_code program loop end p handlers)
    handlers-numbered loop end p NoMore h k = numbered-none
    handlers-numbered loop end p (Catch at exception body rest) h k =
        let parts = and_parts (is_exception program exception && block_fits program procedure body) (handlers_fit program procedure rest) h in
        let first = and_parts (is_exception program exception) (block_fits program procedure body) parts.0 in
        numbered-both (block_code program loop p body) _ (block-numbered loop p body first.1 (allows-first version (block_uses_bits body) (handlers_use_bits rest) k))
        (numbered-both (jump_code (jumps_after body rest) end) _ (jump-numbered (jumps_after body rest) end)
        (handlers-numbered loop end (handlers_position program p body rest) rest parts.1 (allows-second version (block_uses_bits body) (handlers_use_bits rest) k)))

  mutual
    statement-catches : (p : ℕ) (statement : Statement) → statement_fits program procedure statement ≡ true → AreCatches (statement_nodes statement) (statement_table program p statement)
    statement-catches p (Placed at (Assign x e)) h = catches-none _
    statement-catches p (Placed at (Clear slot)) h = catches-none _
    statement-catches p (Placed at (Store array count index e)) h = catches-none _
    statement-catches p (Placed at (Receive channel target)) h = catches-none _
    statement-catches p (Placed at (Send channel e)) h = catches-none _
    statement-catches p (Placed at (Call f arguments target)) h = catches-none _
    statement-catches p (Placed at (If e then_block else_block)) h =
        let parts = and_parts (has_base program procedure Boolean e && block_fits program procedure then_block) (block_fits program procedure else_block) h in
        let first = and_parts (has_base program procedure Boolean e) (block_fits program procedure then_block) parts.0 in
        catches-both (block_nodes then_block) (block_nodes else_block) _ _ _
        (block-catches (p + branch_size false e) then_block first.1) (block-catches (no_position program p e then_block else_block) else_block parts.1) (omega arith)
    statement-catches p (Placed at (While number e body)) h =
        let parts = and_parts (has_base program procedure Boolean e) (block_fits program procedure body) h in
        catches-more (block_nodes body) _ _ (block-catches (p + 1) body parts.1) (omega arith)
    statement-catches p (Placed at (Leave exit)) h = catches-none _
    statement-catches p (Placed at (ReturnWith e)) h = catches-none _
    statement-catches p (Placed at (Try block handlers)) h =
        let parts = and_parts (block_fits program procedure block) (handlers_fit program procedure handlers) h in
        catches-both (block_nodes block) (handlers_nodes handlers) _ _ _
        (block-catches p block parts.0)
        (handlers-catches p (p + block_size program block) (handlers_position program p block handlers) handlers parts.1) (omega arith)
    statement-catches p (Placed at (Nested block)) h = catches-more (block_nodes block) _ _ (block-catches p block h) (omega arith)

    pub block-catches : (p : ℕ) (block : Block) → block_fits program procedure block ≡ true → AreCatches (block_nodes block) (block_table program p block)
    block-catches p Empty h = catches-none _
    block-catches p (Then statement rest) h =
        let parts = and_parts (statement_fits program procedure statement) (block_fits program procedure rest) h in
        catches-both (statement_nodes statement) (block_nodes rest) _ _ _
        (statement-catches p statement parts.0) (block-catches (p + statement_size program statement) rest parts.1) (omega arith)

    handlers-catches : (start end p : ℕ) (handlers : Handlers) → handlers_fit program procedure handlers ≡ true → AreCatches (handlers_nodes handlers) (handlers_table program start end p handlers)
    handlers-catches start end p NoMore h = catches-none _
    handlers-catches start end p (Catch at exception body rest) h =
        let parts = and_parts (is_exception program exception && block_fits program procedure body) (handlers_fit program procedure rest) h in
        let first = and_parts (is_exception program exception) (block_fits program procedure body) parts.0 in
        catches-both 1 (block_nodes body + handlers_nodes rest) _ _ _
        (entry-catches start end exception p (exception-small exception first.0))
        (catches-both (block_nodes body) (handlers_nodes rest) _ _ _
        (block-catches p body first.1) (handlers-catches start end (handlers_position program p body rest) rest parts.1) (omega arith))
        (omega arith)
