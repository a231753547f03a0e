-- Code of a whole expression pushes its value, or raises what the expression raises: operators, connectives and arguments.
use Rattle.common.specs.Functions.{same_truth}
use Rattle.std.proofs.Common.{◌≡◌, ℕ, ◌+◌, ◌≤◌, Bool, true, false, not, ℤ, List, [], ◌∷◌, ◌++◌, length, refl, sym, ap, ◌∙◌, arith}
use Rattle.std.specs.Prelude.{Option, Some, None, if◌then◌else◌, ◌&&◌, ◌+ℤ◌, ◌-ℤ◌, ◌*ℤ◌, int_div, int_rem, neg_ℤ}
use Rattle.std.proofs.lemmas.Bool.{and_parts}
use Rattle.common.specs.declared.value.Value.{Value}
use Rattle.common.specs.declared.value.Value.TheVariants.{Int as Number, Bool as Truth}
use Rattle.common.specs.declared.base_type.BaseType.{BaseType}
use Rattle.common.specs.declared.base_type.BaseType.TheVariants as base
use Rattle.common.specs.declared.operator.Prefix.{Prefix}
use Rattle.common.specs.declared.operator.Prefix.TheVariants as prefix
use Rattle.common.specs.declared.operator.Operator.{Operator}
use Rattle.common.specs.declared.operator.Operator.TheVariants as operator
use Rattle.common.specs.declared.operator.Arithmetic.TheVariants as arithmetic
use Rattle.common.specs.declared.operator.Connective.{Connective}
use Rattle.common.specs.declared.operator.Connective.TheVariants.{And, Or}
use Rattle.resolved.specs.Tree.{Expression, Integer, Logical, Read, Element, Unary, Binary, Short}
use Rattle.resolved.specs.SourceState as source
use Rattle.resolved.specs.SourceState.{value_of}
use Rattle.common.specs.Values.{kind_of}
use Rattle.common.specs.Operators.{prefix_value}
use Rattle.resolved.specs.Value.{Evaluated, Yields, literal_number, operator_evaluated, or_arith, decides}
use Rattle.resolved.specs.WellFormed.{variable_type, has_base, same_base, array_by, prefix_base, operand_base, result_base}
use Rattle.resolved.specs.Kinds.{StateFits}
use Rattle.resolved.proofs.Sound.Values.{value_fits}
use Rattle.common.specs.declared.value.Value.{Value as Cell}
use Rattle.common.specs.declared.value.Value.TheVariants as cell
use Rattle.modules.specs.declared.instruction.Instruction.{Instruction}
use Rattle.modules.specs.declared.instruction.Instruction.TheVariants as instruction
use Rattle.modules.specs.Machine.{Machine, goes_on}
use Rattle.modules.specs.Transitions.{act}
use Rattle.modules.specs.MachineParts.{operates}
use Rattle.modules.specs.Operators as operators
use Rattle.std.specs.Option.{option_map}
use Rattle.lowering.specs.Expressions.{load_element_of, prefix_instruction, operator_instruction, value_size, value_code, rest_of_short}
use Rattle.lowering.proofs.CodePieces.{Stands, stands-front, stands-back}
use Rattle.lowering.proofs.Sizes.{value-sized}
use Rattle.lowering.proofs.Steps.{Leads, leads-through}
use Rattle.lowering.proofs.States.{Setting, state_at, position, cell_of, thrown_to, raised-is}
use Rattle.lowering.proofs.SingleSteps.{does, onward}
use Rattle.lowering.proofs.Values.{Finds, finds-part, ValueRuns, value-from, value-to, value-at, then-runs, read-runs, element-runs}
use Rattle.common.specs.Operators.{bits_of, compared, matched, wrapped}
use Rattle.common.specs.Integers.{is_zero}
use Rattle.resolved.proofs.Sound.Meanings.{base_given}

-- ---- single instructions

-- a number that was made of operands is pushed
abbrev pushes_made : Setting → ℕ → (operands before : List Cell) → source.SourceState → Option ℤ → Machine
pushes_made g at operands before s made = operates g.p (state_at g at before s) (Some (option_map (operators.cell_of base.Int) made, operands))

module _ (g : Setting) (h : ℕ → Option ℕ) (s : source.SourceState) where
  division-runs : (i : Instruction) (a z result : ℤ) (test : Bool) (at : ℕ) (operands : List Cell) (more : List Instruction)
      → is_zero z ≡ test → Stands g.code (i ∷ more) at → ((exception : ℕ) → g.p.find g.number at exception ≡ h exception)
      → act g.p i (state_at g at (cell.Int z ∷ cell.Int a ∷ operands) s)
      ≡ pushes_made g at operands (cell.Int z ∷ cell.Int a ∷ operands) s (if is_zero z then None else Some result)
      → ValueRuns g h operands (position g at (cell.Int z ∷ cell.Int a ∷ operands) s) (at + 1) s (or_arith (if test then None else Some result))
  division-runs i a z result true at operands more e stands finds acts =
      let before = cell.Int z ∷ cell.Int a ∷ operands in
      does g more i at before s _ stands
      (acts ∙ ap (λ (b : Bool). pushes_made g at operands before s (if b then None else Some result)) e
      ∙ raised-is g at before s 0 ∙ ap (λ (o : Option ℕ). thrown_to g o 0 s) (finds 0))
  division-runs i a z result false at operands more e stands finds acts =
      let before = cell.Int z ∷ cell.Int a ∷ operands in
      does g more i at before s _ stands
      (acts ∙ ap (λ (b : Bool). pushes_made g at operands before s (if b then None else Some result)) e
      ∙ onward g at before (cell.Int result ∷ operands) s)

  -- an instruction that pushes one value in place of some
  pub gives-runs : (i : Instruction) (at : ℕ) (before operands : List Cell) (v : Value) (more : List Instruction) → Stands g.code (i ∷ more) at
      → act g.p i (state_at g at before s) ≡ goes_on g.p (state_at g at before s) (cell_of v ∷ operands)
      → Leads g.p (position g at before s) (position g (at + 1) (cell_of v ∷ operands) s)
  gives-runs i at before operands v more stands acts = does g more i at before s _ stands (acts ∙ onward g at before (cell_of v ∷ operands) s)

  numbers-run : (op : Operator) (a b : ℤ) (at : ℕ) (operands : List Cell) (more : List Instruction) → operand_base op ≡ base.Int
      → Stands g.code (operator_instruction op ∷ more) at → ((exception : ℕ) → g.p.find g.number at exception ≡ h exception)
      → ValueRuns g h operands (position g at (cell.Int b ∷ cell.Int a ∷ operands) s) (at + 1) s (operator_evaluated op (Number a) (Number b))
  numbers-run (operator.Compute arithmetic.Add) a b at operands more ints stands finds = gives-runs _ at _ operands (Number (wrapped (a +ℤ b))) more stands refl
  numbers-run (operator.Compute arithmetic.Subtract) a b at operands more ints stands finds = gives-runs _ at _ operands (Number (wrapped (a -ℤ b))) more stands refl
  numbers-run (operator.Compute arithmetic.Multiply) a b at operands more ints stands finds = gives-runs _ at _ operands (Number (wrapped (a *ℤ b))) more stands refl
  numbers-run (operator.Compute arithmetic.Divide) a b at operands more ints stands finds =
      division-runs _ a b (wrapped (int_div a b)) (is_zero b) at operands more refl stands finds refl
  numbers-run (operator.Compute arithmetic.Remainder) a b at operands more ints stands finds =
      division-runs _ a b (int_rem a b) (is_zero b) at operands more refl stands finds refl
  numbers-run (operator.Compute (arithmetic.Bits made)) a b at operands more ints stands finds =
      gives-runs _ at _ operands (Number (bits_of made a b)) more stands refl
  numbers-run (operator.Compare comparison) a b at operands more ints stands finds =
      gives-runs _ at _ operands (Truth (compared comparison a b)) more stands refl
  numbers-run (operator.Match sameness) a b at operands more ints stands finds = cc

  truths-run : (op : Operator) (a b : Bool) (at : ℕ) (operands : List Cell) (more : List Instruction) → operand_base op ≡ base.Boolean
      → Stands g.code (operator_instruction op ∷ more) at
      → ValueRuns g h operands (position g at (cell.Bool b ∷ cell.Bool a ∷ operands) s) (at + 1) s (operator_evaluated op (Truth a) (Truth b))
  truths-run (operator.Match sameness) a b at operands more truths stands =
      gives-runs _ at _ operands (Truth (matched sameness (same_truth a b))) more stands refl
  truths-run _ a b at operands more truths stands = absurd (let no : base.Int ≡ base.Boolean = truths in cc)

  operator-runs : (op : Operator) (v w : Value) (at : ℕ) (operands : List Cell) (more : List Instruction)
      → kind_of v ≡ operand_base op → kind_of w ≡ operand_base op
      → Stands g.code (operator_instruction op ∷ more) at → ((exception : ℕ) → g.p.find g.number at exception ≡ h exception)
      → ValueRuns g h operands (position g at (cell_of w ∷ cell_of v ∷ operands) s) (at + 1) s (operator_evaluated op v w)
  operator-runs op (Number a) (Number b) at operands more left right stands finds = numbers-run op a b at operands more (sym left) stands finds
  operator-runs op (Truth a) (Truth b) at operands more left right stands finds = truths-run op a b at operands more (sym left) stands
  operator-runs op (Number a) (Truth b) at operands more left right stands finds = absurd (let no : base.Int ≡ base.Boolean = left ∙ sym right in cc)
  operator-runs op (Truth a) (Number b) at operands more left right stands finds = absurd (let no : base.Int ≡ base.Boolean = right ∙ sym left in cc)

  prefix-runs : (sign : Prefix) (v : Value) (at : ℕ) (operands : List Cell) (more : List Instruction)
      → kind_of v ≡ prefix_base sign → Stands g.code (prefix_instruction sign ∷ more) at
      → Leads g.p (position g at (cell_of v ∷ operands) s) (position g (at + 1) (cell_of (prefix_value sign v) ∷ operands) s)
  prefix-runs prefix.Negate (Number a) at operands more fits stands = gives-runs _ at _ operands (Number (wrapped (neg_ℤ a))) more stands refl
  prefix-runs prefix.Not (Truth b) at operands more fits stands = gives-runs _ at _ operands (Truth (not b)) more stands refl
  prefix-runs prefix.Negate (Truth b) at operands more fits stands = cc
  prefix-runs prefix.Not (Number a) at operands more fits stands = cc

  -- ---- connectives
  pub jump-runs : (target at : ℕ) (operands : List Cell) (more : List Instruction) → Stands g.code (instruction.Jump target ∷ more) at
      → Leads g.p (position g at operands s) (position g target operands s)
  jump-runs target at operands more stands = does g more (instruction.Jump target) at operands s _ stands refl

  pub branch-on : (target at : ℕ) (operands : List Cell) (more : List Instruction) → Stands g.code (instruction.JumpIfFalse target ∷ more) at
      → Leads g.p (position g at (cell.Bool true ∷ operands) s) (position g (at + 1) operands s)
  branch-on target at operands more stands =
      does g more (instruction.JumpIfFalse target) at (cell.Bool true ∷ operands) s _ stands (onward g at (cell.Bool true ∷ operands) operands s)

  pub branch-off : (target at : ℕ) (operands : List Cell) (more : List Instruction) → Stands g.code (instruction.JumpIfFalse target ∷ more) at
      → Leads g.p (position g at (cell.Bool false ∷ operands) s) (position g target operands s)
  branch-off target at operands more stands = does g more (instruction.JumpIfFalse target) at (cell.Bool false ∷ operands) s _ stands refl

  -- after the left operand, whose value is a truth
  short-runs : (connective : Connective) (t : Bool) (at n : ℕ) (right : ℕ → List Instruction) (operands : List Cell) (o : Evaluated Value)
      → ((q : ℕ) → length (right q) ≡ n) → Stands g.code (rest_of_short connective at n right) at
      → ((q : ℕ) → at ≤ q → q + n ≤ at + (1 + (n + 2)) → Stands g.code (right q) q → ValueRuns g h operands (position g q operands s) (q + n) s o)
      → ValueRuns g h operands (position g at (cell.Bool t ∷ operands) s) (at + (1 + (n + 2))) s (if decides connective (Truth t) then Yields (Truth t) else o)
  short-runs And true at n right operands o sized stands each =
      let second = stands-back g.code (instruction.JumpIfFalse (at + 1 + n + 1) ∷ []) (right (at + 1) ++ instruction.Jump (at + 1 + n + 1 + 1) ∷ instruction.PushBoolean false ∷ []) at 1 refl stands in
      let jump = stands-back g.code (right (at + 1)) (instruction.Jump (at + 1 + n + 1 + 1) ∷ instruction.PushBoolean false ∷ []) (at + 1) n (sized (at + 1)) second in
      value-at g h operands _ (at + 1 + n + 1 + 1) (at + (1 + (n + 2))) s o (omega arith)
      (value-from g h operands _ (position g (at + 1) operands s) (at + 1 + n + 1 + 1) s o
      (branch-on (at + 1 + n + 1) at operands (right (at + 1) ++ instruction.Jump (at + 1 + n + 1 + 1) ∷ instruction.PushBoolean false ∷ []) stands)
      (value-to g h operands _ (at + 1 + n) (at + 1 + n + 1 + 1) s o
      (each (at + 1) (omega arith) (omega arith) (stands-front g.code (right (at + 1)) (instruction.Jump (at + 1 + n + 1 + 1) ∷ instruction.PushBoolean false ∷ []) (at + 1) second))
      (λ v. jump-runs (at + 1 + n + 1 + 1) (at + 1 + n) (cell_of v ∷ operands) (instruction.PushBoolean false ∷ []) jump)))
  short-runs And false at n right operands o sized stands each =
      let second = stands-back g.code (instruction.JumpIfFalse (at + 1 + n + 1) ∷ []) (right (at + 1) ++ instruction.Jump (at + 1 + n + 1 + 1) ∷ instruction.PushBoolean false ∷ []) at 1 refl stands in
      let jump = stands-back g.code (right (at + 1)) (instruction.Jump (at + 1 + n + 1 + 1) ∷ instruction.PushBoolean false ∷ []) (at + 1) n (sized (at + 1)) second in
      let last = stands-back g.code (instruction.Jump (at + 1 + n + 1 + 1) ∷ []) (instruction.PushBoolean false ∷ []) (at + 1 + n) 1 refl jump in
      value-at g h operands _ (at + 1 + n + 1 + 1) (at + (1 + (n + 2))) s (Yields (Truth false)) (omega arith)
      (leads-through g.p _ _ _
      (branch-off (at + 1 + n + 1) at operands (right (at + 1) ++ instruction.Jump (at + 1 + n + 1 + 1) ∷ instruction.PushBoolean false ∷ []) stands)
      (gives-runs (instruction.PushBoolean false) (at + 1 + n + 1) operands operands (Truth false) [] last refl))
  short-runs Or true at n right operands o sized stands each =
      let rest = right (at + 1 + 1 + 1) in
      let second = stands-back g.code (instruction.JumpIfFalse (at + 1 + 1 + 1) ∷ []) (instruction.PushBoolean true ∷ instruction.Jump (at + 1 + 1 + 1 + n) ∷ rest) at 1 refl stands in
      let jump = stands-back g.code (instruction.PushBoolean true ∷ []) (instruction.Jump (at + 1 + 1 + 1 + n) ∷ rest) (at + 1) 1 refl second in
      value-at g h operands _ (at + 1 + 1 + 1 + n) (at + (1 + (n + 2))) s (Yields (Truth true)) (omega arith)
      (leads-through g.p _ _ _
      (branch-on (at + 1 + 1 + 1) at operands (instruction.PushBoolean true ∷ instruction.Jump (at + 1 + 1 + 1 + n) ∷ rest) stands)
      (leads-through g.p _ _ _
      (gives-runs (instruction.PushBoolean true) (at + 1) operands operands (Truth true) (instruction.Jump (at + 1 + 1 + 1 + n) ∷ rest) second refl)
      (jump-runs (at + 1 + 1 + 1 + n) (at + 1 + 1) (cell.Bool true ∷ operands) rest jump)))
  short-runs Or false at n right operands o sized stands each =
      let rest = right (at + 1 + 1 + 1) in
      let second = stands-back g.code (instruction.JumpIfFalse (at + 1 + 1 + 1) ∷ []) (instruction.PushBoolean true ∷ instruction.Jump (at + 1 + 1 + 1 + n) ∷ rest) at 1 refl stands in
      let jump = stands-back g.code (instruction.PushBoolean true ∷ []) (instruction.Jump (at + 1 + 1 + 1 + n) ∷ rest) (at + 1) 1 refl second in
      let last = stands-back g.code (instruction.Jump (at + 1 + 1 + 1 + n) ∷ []) rest (at + 1 + 1) 1 refl jump in
      value-at g h operands _ (at + 1 + 1 + 1 + n) (at + (1 + (n + 2))) s o (omega arith)
      (value-from g h operands _ (position g (at + 1 + 1 + 1) operands s) (at + 1 + 1 + 1 + n) s o
      (branch-off (at + 1 + 1 + 1) at operands (instruction.PushBoolean true ∷ instruction.Jump (at + 1 + 1 + 1 + n) ∷ rest) stands)
      (each (at + 1 + 1 + 1) (omega arith) (omega arith) last))

module _ (g : Setting) (h : ℕ → Option ℕ) (s : source.SourceState) (fit : StateFits g.program g.procedure s) where
  pub value-runs : (e : Expression) (b : BaseType) (at : ℕ) (operands : List Cell) → has_base g.program g.procedure b e ≡ true
      → Stands g.code (value_code at e) at → Finds g at (value_size e) h
      → ValueRuns g h operands (position g at operands s) (at + value_size e) s (value_of s e)
  value-runs (Integer n) b at operands typed stands finds = gives-runs g h s (instruction.Push (literal_number n)) at operands operands (Number (literal_number n)) [] stands refl
  value-runs (Logical t) b at operands typed stands finds = gives-runs g h s (instruction.PushBoolean t) at operands operands (Truth t) [] stands refl
  value-runs (Read x) b at operands typed stands finds = read-runs g h s fit x b at operands [] typed stands
  value-runs (Element array count index) b at operands typed stands finds =
      let parts : (array_by (variable_type g.program g.procedure array) count (same_base b) ≡ true) × (has_base g.program g.procedure base.Int index ≡ true) =
      and_parts (array_by (variable_type g.program g.procedure array) count (same_base b)) _ typed in
      let mid = at + value_size index in
      let back = stands-back g.code (value_code at index) (load_element_of array ∷ []) at (value_size index) (value-sized index at) stands in
      value-at g h operands _ (mid + 1) (at + (value_size index + 1)) s _ (omega arith)
      (then-runs g h operands operands _ mid (mid + 1) s (value_of s index) _
      (value-runs index base.Int at operands parts.1 (stands-front g.code (value_code at index) (load_element_of array ∷ []) at stands)
      (finds-part g at (value_size index + 1) h at (value_size index) (omega arith) (omega arith) finds))
      (λ v e. element-runs g h s fit array count b v mid operands [] parts.0
      (base_given base.Int (value_of s index) v e (value_fits g.program g.procedure s fit base.Int index parts.1)) back
      (finds.finds mid (omega arith) (omega arith))))
  value-runs (Unary sign e) b at operands typed stands finds =
      let parts : (same_base (prefix_base sign) b ≡ true) × (has_base g.program g.procedure (prefix_base sign) e ≡ true) =
      and_parts (same_base (prefix_base sign) b) _ typed in
      let mid = at + value_size e in
      let back = stands-back g.code (value_code at e) (prefix_instruction sign ∷ []) at (value_size e) (value-sized e at) stands in
      value-at g h operands _ (mid + 1) (at + (value_size e + 1)) s _ (omega arith)
      (then-runs g h operands operands _ mid (mid + 1) s (value_of s e) _
      (value-runs e (prefix_base sign) at operands parts.1 (stands-front g.code (value_code at e) (prefix_instruction sign ∷ []) at stands)
      (finds-part g at (value_size e + 1) h at (value_size e) (omega arith) (omega arith) finds))
      (λ v f. prefix-runs g h s sign v mid operands []
      (base_given (prefix_base sign) (value_of s e) v f (value_fits g.program g.procedure s fit (prefix_base sign) e parts.1)) back))
  value-runs (Binary op d e) b at operands typed stands finds =
      let outer : (same_base (result_base op) b && has_base g.program g.procedure (operand_base op) d ≡ true) × (has_base g.program g.procedure (operand_base op) e ≡ true) =
      and_parts (same_base (result_base op) b && has_base g.program g.procedure (operand_base op) d) _ typed in
      let left : has_base g.program g.procedure (operand_base op) d ≡ true = (and_parts (same_base (result_base op) b) _ outer.0).1 in
      let n = value_size d in
      let m = value_size e in
      let mid = at + n in
      let last = mid + m in
      let second = stands-back g.code (value_code at d) (value_code mid e ++ operator_instruction op ∷ []) at n (value-sized d at) stands in
      let third = stands-back g.code (value_code mid e) (operator_instruction op ∷ []) mid m (value-sized e mid) second in
      value-at g h operands _ (last + 1) (at + (n + (m + 1))) s _ (omega arith)
      (then-runs g h operands operands _ mid (last + 1) s (value_of s d) _
      (value-runs d (operand_base op) at operands left (stands-front g.code (value_code at d) (value_code mid e ++ operator_instruction op ∷ []) at stands)
      (finds-part g at (n + (m + 1)) h at n (omega arith) (omega arith) finds))
      (λ v f. then-runs g h (cell_of v ∷ operands) operands _ last (last + 1) s (value_of s e) _
      (value-runs e (operand_base op) mid (cell_of v ∷ operands) outer.1 (stands-front g.code (value_code mid e) (operator_instruction op ∷ []) mid second)
      (finds-part g at (n + (m + 1)) h mid m (omega arith) (omega arith) finds))
      (λ w f'. operator-runs g h s op v w last operands []
      (base_given (operand_base op) (value_of s d) v f (value_fits g.program g.procedure s fit (operand_base op) d left))
      (base_given (operand_base op) (value_of s e) w f' (value_fits g.program g.procedure s fit (operand_base op) e outer.1)) third
      (finds.finds last (omega arith) (omega arith)))))
  value-runs (Short connective d e) b at operands typed stands finds =
      let outer : (same_base base.Boolean b && has_base g.program g.procedure base.Boolean d ≡ true) × (has_base g.program g.procedure base.Boolean e ≡ true) =
      and_parts (same_base base.Boolean b && has_base g.program g.procedure base.Boolean d) _ typed in
      let left : has_base g.program g.procedure base.Boolean d ≡ true = (and_parts (same_base base.Boolean b) _ outer.0).1 in
      let n = value_size d in
      let m = value_size e in
      let mid = at + n in
      let right : ℕ → List Instruction = λ q. value_code q e in
      let rest = rest_of_short connective mid m right in
      let second = stands-back g.code (value_code at d) rest at n (value-sized d at) stands in
      value-at g h operands _ (mid + (1 + (m + 2))) (at + (n + (1 + (m + 2)))) s _ (omega arith)
      (then-runs g h operands operands _ mid (mid + (1 + (m + 2))) s (value_of s d) _
      (value-runs d base.Boolean at operands left (stands-front g.code (value_code at d) rest at stands)
      (finds-part g at (n + (1 + (m + 2))) h at n (omega arith) (omega arith) finds))
      (λ v f. decided connective v mid m right operands (value_of s e)
      (base_given base.Boolean (value_of s d) v f (value_fits g.program g.procedure s fit base.Boolean d left))
      (λ q. value-sized e q) second
      (λ q low high here. value-runs e base.Boolean q operands outer.1 here (finds-part g at (n + (1 + (m + 2))) h q m (omega (arith, low)) (omega (arith, high)) finds))))
    where
      decided : (connective : Connective) (v : Value) (mid m : ℕ) (right : ℕ → List Instruction) (operands : List Cell) (o : Evaluated Value) → kind_of v ≡ base.Boolean
          → ((q : ℕ) → length (right q) ≡ m) → Stands g.code (rest_of_short connective mid m right) mid
          → ((q : ℕ) → mid ≤ q → q + m ≤ mid + (1 + (m + 2)) → Stands g.code (right q) q → ValueRuns g h operands (position g q operands s) (q + m) s o)
          → ValueRuns g h operands (position g mid (cell_of v ∷ operands) s) (mid + (1 + (m + 2))) s (if decides connective v then Yields v else o)
      decided connective (Truth t) mid m right operands o typed sized stands each = short-runs g h s connective t mid m right operands o sized stands each
      decided connective (Number z) mid m right operands o typed sized stands each = absurd (let no : base.Int ≡ base.Boolean = typed in cc)
