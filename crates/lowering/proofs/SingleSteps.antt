-- Single steps of a machine that runs the code of a procedure.
use Rattle.std.proofs.Common.{◌≡◌, ℕ, ◌+◌, true, ℤ, List, [], ◌∷◌, refl, ap, ◌∙◌, arith}
use Rattle.std.specs.Prelude.{Option, Some, None}
use Rattle.common.specs.declared.value.Value.{Value}
use Rattle.resolved.specs.declared.expression.Variable.{Variable}
use Rattle.resolved.specs.declared.expression.Variable.TheVariants.{Global, Local}
use Rattle.resolved.specs.SourceState as source
use Rattle.resolved.specs.WellFormed.{variable_type}
use Rattle.modules.proofs.Tabled.{step-is}
use Rattle.common.specs.declared.value.Value.{Value as Cell}
use Rattle.common.specs.declared.base_type.BaseType.{BaseType}
use Rattle.common.specs.declared.value.Value.TheVariants as cell
use Rattle.modules.specs.declared.declaration.Slot.{Slot}
use Rattle.modules.specs.declared.declaration.Slot.TheVariants as slot
use Rattle.modules.specs.declared.instruction.Instruction.{Instruction}
use Rattle.modules.specs.Values.{has_kind}
use Rattle.modules.specs.Machine.{Machine, State, step, goes_on, with_element}
use Rattle.modules.specs.Transitions.{act, loads, stores, loads_element, stores_element}
use Rattle.modules.specs.MachineParts.{acts, with_slot, with_global, changes}
use Rattle.common.specs.declared.exceptions.TheConstants.{BOUNDS}
use Rattle.lowering.specs.Expressions.{load_of, store_of, load_element_of, store_element_of}
use Rattle.lowering.proofs.CodePieces.{Stands, stands-here}
use Rattle.lowering.specs.Direct.{jump_of}
use Rattle.lowering.proofs.Steps.{Leads, Strides, counted, leads-step}
use Rattle.lowering.proofs.States.{Setting, state_at, position, cell_of, cells_of, slot_of_type, with_slot-is, with_global-is, thrown_to, raised-is}

-- the instruction that stands at the position acts
pub stepped : (g : Setting) (more : List Instruction) (i : Instruction) (at : ℕ) (operands : List Cell) (s : source.SourceState)
    → Stands g.code (i ∷ more) at → step g.p (position g at operands s) ≡ act g.p i (state_at g at operands s)
stepped g more i at operands s h =
    step-is g.p (state_at g at operands s) ∙ ap (acts g.p (state_at g at operands s)) (g.fetched at ∙ stands-here g.code more i at h)

-- the machine at the next position
pub onward : (g : Setting) (at : ℕ) (before operands : List Cell) (s : source.SourceState)
    → goes_on g.p (state_at g at before s) operands ≡ position g (at + 1) operands s
onward g at before operands s = ap (λ (next : ℕ). position g next operands s) (g.goes_next at)

pub does : (g : Setting) (more : List Instruction) (i : Instruction) (at : ℕ) (operands : List Cell) (s : source.SourceState) (to : Machine)
    → Stands g.code (i ∷ more) at → act g.p i (state_at g at operands s) ≡ to → Leads g.p (position g at operands s) to
does g more i at operands s to h e = leads-step g.p _ _ (stepped g more i at operands s h ∙ e)

-- an instruction that is no unconditional jump
pub does_stride : (g : Setting) (more : List Instruction) (i : Instruction) (at : ℕ) (operands : List Cell) (s : source.SourceState) (to : Machine)
    → Stands g.code (i ∷ more) at → jump_of (Some i) ≡ None → act g.p i (state_at g at operands s) ≡ to → Strides g.p (position g at operands s) to
does_stride g more i at operands s to h none e =
    let one : counted (jump_of (g.p.fetch g.number at)) ≡ 1 =
    ap (λ (o : Option Instruction). counted (jump_of o)) (g.fetched at ∙ stands-here g.code more i at h) ∙ ap counted none in
    record { steps = 1; enough = omega (arith, one); reached = stepped g more i at operands s h ∙ e }

-- ---- variables

-- the slot of a variable
abbrev pub slot_for : Setting → Variable → Option Slot
slot_for g x = slot_of_type (variable_type g.program g.procedure x)

pub loads-is : (g : Setting) (x : Variable) (at : ℕ) (operands : List Cell) (s : source.SourceState)
    → act g.p (load_of x) (state_at g at operands s) ≡ loads g.p (state_at g at operands s) (slot_for g x) (cells_of (source.cells s x))
loads-is g (Global n) at operands s = ap (λ (o : Option Slot). loads g.p (state_at g at operands s) o (cells_of (s.globals n))) (g.globals_there n)
loads-is g (Local n) at operands s = ap (λ (o : Option Slot). loads g.p (state_at g at operands s) o (cells_of (s.locals n))) (g.locals_there n)

pub loads_element-is : (g : Setting) (x : Variable) (at : ℕ) (operands : List Cell) (s : source.SourceState)
    → act g.p (load_element_of x) (state_at g at operands s) ≡ loads_element g.p (state_at g at operands s) (slot_for g x) (cells_of (source.cells s x)) operands
loads_element-is g (Global n) at operands s = ap (λ (o : Option Slot). loads_element g.p (state_at g at operands s) o (cells_of (s.globals n)) operands) (g.globals_there n)
loads_element-is g (Local n) at operands s = ap (λ (o : Option Slot). loads_element g.p (state_at g at operands s) o (cells_of (s.locals n)) operands) (g.locals_there n)

-- a value of the kind goes into a scalar
stores_scalar : (g : Setting) (S : State) (kind : BaseType) (put : List Cell → State) (x : Cell) (operands : List Cell) → has_kind kind x ≡ true
    → stores g.p S (Some (slot.Scalar kind)) put (x ∷ operands) ≡ goes_on g.p (put (x ∷ [])) operands
stores_scalar g S kind put x operands h = rw h refl

pub stores-is : (g : Setting) (x : Variable) (kind : BaseType) (v : Value) (at : ℕ) (operands : List Cell) (s : source.SourceState)
    → slot_for g x ≡ Some (slot.Scalar kind) → has_kind kind (cell_of v) ≡ true
    → act g.p (store_of x) (state_at g at (cell_of v ∷ operands) s) ≡ position g (at + 1) operands (source.assigned s x v)
stores-is g (Global n) kind v at operands s e h =
    let S = state_at g at (cell_of v ∷ operands) s in
    ap (λ (o : Option Slot). stores g.p S o (with_global S n) (cell_of v ∷ operands)) (g.globals_there n ∙ e)
    ∙ stores_scalar g S kind (with_global S n) (cell_of v) operands h
    ∙ ap (λ (q : State). goes_on g.p q operands) (with_global-is g at (cell_of v ∷ operands) s n (v ∷ []))
    ∙ onward g at (cell_of v ∷ operands) operands (source.assigned s (Global n) v)
stores-is g (Local n) kind v at operands s e h =
    let S = state_at g at (cell_of v ∷ operands) s in
    ap (λ (o : Option Slot). stores g.p S o (with_slot S n) (cell_of v ∷ operands)) (g.locals_there n ∙ e)
    ∙ stores_scalar g S kind (with_slot S n) (cell_of v) operands h
    ∙ ap (λ (q : State). goes_on g.p q operands) (with_slot-is g at (cell_of v ∷ operands) s n (v ∷ []))
    ∙ onward g at (cell_of v ∷ operands) operands (source.assigned s (Local n) v)

-- a value of the kind goes into an element
stores_in_array : (g : Setting) (S : State) (kind : BaseType) (count : ℕ) (put : List Cell → State) (cells : List Cell) (x : Cell) (z : ℤ) (operands : List Cell) → has_kind kind x ≡ true
    → stores_element g.p S (Some (slot.Array kind count)) put cells (x ∷ cell.Int z ∷ operands) ≡ changes g.p S put operands (with_element cells z x)
stores_in_array g S kind count put cells x z operands h = rw h refl

pub stores_element-is : (g : Setting) (x : Variable) (kind : BaseType) (count : ℕ) (v : Value) (z : ℤ) (values : List Value) (at : ℕ) (operands : List Cell) (s : source.SourceState)
    → slot_for g x ≡ Some (slot.Array kind count) → has_kind kind (cell_of v) ≡ true
    → with_element (cells_of (source.cells s x)) z (cell_of v) ≡ Some (cells_of values)
    → act g.p (store_element_of x) (state_at g at (cell_of v ∷ cell.Int z ∷ operands) s) ≡ position g (at + 1) operands (source.with_cells s x values)
stores_element-is g (Global n) kind count v z values at operands s e h c =
    let S = state_at g at (cell_of v ∷ cell.Int z ∷ operands) s in
    ap (λ (o : Option Slot). stores_element g.p S o (with_global S n) (cells_of (s.globals n)) (cell_of v ∷ cell.Int z ∷ operands)) (g.globals_there n ∙ e)
    ∙ stores_in_array g S kind count (with_global S n) (cells_of (s.globals n)) (cell_of v) z operands h
    ∙ ap (changes g.p S (with_global S n) operands) c
    ∙ ap (λ (q : State). goes_on g.p q operands) (with_global-is g at (cell_of v ∷ cell.Int z ∷ operands) s n values)
    ∙ onward g at (cell_of v ∷ cell.Int z ∷ operands) operands (source.with_cells s (Global n) values)
stores_element-is g (Local n) kind count v z values at operands s e h c =
    let S = state_at g at (cell_of v ∷ cell.Int z ∷ operands) s in
    ap (λ (o : Option Slot). stores_element g.p S o (with_slot S n) (cells_of (s.locals n)) (cell_of v ∷ cell.Int z ∷ operands)) (g.locals_there n ∙ e)
    ∙ stores_in_array g S kind count (with_slot S n) (cells_of (s.locals n)) (cell_of v) z operands h
    ∙ ap (changes g.p S (with_slot S n) operands) c
    ∙ ap (λ (q : State). goes_on g.p q operands) (with_slot-is g at (cell_of v ∷ cell.Int z ∷ operands) s n values)
    ∙ onward g at (cell_of v ∷ cell.Int z ∷ operands) operands (source.with_cells s (Local n) values)

-- an element that is not there
pub stores_nowhere : (g : Setting) (x : Variable) (kind : BaseType) (count : ℕ) (v : Value) (z : ℤ) (at : ℕ) (operands : List Cell) (s : source.SourceState)
    → slot_for g x ≡ Some (slot.Array kind count) → has_kind kind (cell_of v) ≡ true
    → with_element (cells_of (source.cells s x)) z (cell_of v) ≡ None
    → act g.p (store_element_of x) (state_at g at (cell_of v ∷ cell.Int z ∷ operands) s) ≡ thrown_to g (g.p.find g.number at BOUNDS) BOUNDS s
stores_nowhere g (Global n) kind count v z at operands s e h c =
    let S = state_at g at (cell_of v ∷ cell.Int z ∷ operands) s in
    ap (λ (o : Option Slot). stores_element g.p S o (with_global S n) (cells_of (s.globals n)) (cell_of v ∷ cell.Int z ∷ operands)) (g.globals_there n ∙ e)
    ∙ stores_in_array g S kind count (with_global S n) (cells_of (s.globals n)) (cell_of v) z operands h
    ∙ ap (changes g.p S (with_global S n) operands) c
    ∙ raised-is g at (cell_of v ∷ cell.Int z ∷ operands) s BOUNDS
stores_nowhere g (Local n) kind count v z at operands s e h c =
    let S = state_at g at (cell_of v ∷ cell.Int z ∷ operands) s in
    ap (λ (o : Option Slot). stores_element g.p S o (with_slot S n) (cells_of (s.locals n)) (cell_of v ∷ cell.Int z ∷ operands)) (g.locals_there n ∙ e)
    ∙ stores_in_array g S kind count (with_slot S n) (cells_of (s.locals n)) (cell_of v) z operands h
    ∙ ap (changes g.p S (with_slot S n) operands) c
    ∙ raised-is g at (cell_of v ∷ cell.Int z ∷ operands) s BOUNDS
