-- The state of a machine that runs the code of a procedure of a program, by the state of the program.
use Rattle.std.proofs.Common.{◌≡◌, ℕ, ◌+◌, Bool, true, false, cond, eqb, ℤ, List, [], ◌∷◌, length, map, refl, ap, slice_get}
use Rattle.std.specs.Prelude.{Option, Some, None}
use Rattle.std.proofs.Math.Path.{fun_ext}
use Rattle.common.specs.declared.value.Value.{Value}
use Rattle.common.specs.declared.base_type.BaseType.{BaseType}
use Rattle.common.specs.declared.base_type.BaseType.TheVariants as base
use Rattle.resolved.specs.declared.expression.Variable.TheVariants.{Global, Local}
use Rattle.common.specs.declared.direction.Direction.{Direction}
use Rattle.common.specs.declared.direction.Direction.TheVariants.{Input, Output}
use Rattle.labels.specs.Channel.{ChannelContents}
use Rattle.resolved.specs.Program as resolved
use Rattle.resolved.specs.SourceState as source
use Rattle.common.specs.Values.{kind_of}
use Rattle.resolved.specs.WellFormed.{VariableType, variable_type}
use Rattle.common.specs.declared.value.Value.{Value as Cell}
use Rattle.common.specs.declared.value.Value.TheVariants as cell
use Rattle.modules.specs.declared.declaration.Slot.{Slot}
use Rattle.modules.specs.declared.instruction.Instruction.{Instruction}
use Rattle.modules.specs.Values.{has_kind}
use Rattle.modules.specs.Machine.{Machine, Running, State, Frame, Caller, MachineCode, Header, raised, unwound}
use Rattle.modules.specs.Transitions.{handled}
use Rattle.modules.specs.MachineParts.{slots_of, with_slot, with_global, leaves, leaves_value}
use Rattle.lowering.specs.Interface.{declared_slot, returned_kind}

abbrev pub cell_of : Value → Cell
cell_of (cell.Int z) = cell.Int z
cell_of (cell.Bool b) = cell.Bool b

abbrev pub cells_of : List Value → List Cell
cells_of values = map cell_of values

-- the slot of a variable of a type
abbrev pub slot_of_type : Option VariableType → Option Slot
slot_of_type None = None
slot_of_type (Some type) = Some (declared_slot type.base type.size)

abbrev pub direction_in : Option ChannelContents → Option Direction
direction_in None = None
direction_in (Some entry) = Some entry.direction

-- what is left of a channel: of an input what the program has left, of another channel what the world has
abbrev pub left_by : Direction → List ℤ → List ℤ → List ℤ
left_by Input left whole = left
left_by Output left whole = whole

abbrev pub left_of : Option ChannelContents → List ℤ → List ℤ → List ℤ
left_of None left whole = whole
left_of (Some entry) left whole = left_by entry.direction left whole

-- a machine that runs the code of a procedure of a program, under callers, on a world
pub record Setting : Type 0 where
  pub program : resolved.Program
  pub procedure : resolved.ProcedureEntry
  pub p : MachineCode
  pub number : ℕ
  pub world : source.World
  pub callers : List Caller
  pub code : List Instruction
  pub fetched : (i : ℕ) → p.fetch number i ≡ slice_get code i
  pub goes_next : (i : ℕ) → p.next number i ≡ i + 1
  pub header : Header
  pub header_is : slice_get p.headers number ≡ Some header
  pub returned_is : header.returned ≡ returned_kind procedure.result
  pub locals_there : (k : ℕ) → slice_get (slots_of (slice_get p.headers number)) k ≡ slot_of_type (variable_type program procedure (Local k))
  pub globals_there : (k : ℕ) → slice_get p.globals k ≡ slot_of_type (variable_type program procedure (Global k))
  pub channels_there : (k : ℕ) → slice_get p.directions k ≡ direction_in (slice_get program.channels k)
  pub exceptions_there : p.exceptions ≡ 3 + length program.exceptions

abbrev pub state_at : Setting → (at : ℕ) → List Cell → source.SourceState → State
state_at g at operands s = record {
  globals = λ n. cells_of (s.globals n);
  frame = record { procedure = g.number; slots = λ n. cells_of (s.locals n); operands = operands; position = at };
  callers = g.callers;
  rest = λ c. left_of (slice_get g.program.channels c) (s.inputs c) (g.world c);
  sent = s.sent;
}

-- the machine at a position
abbrev pub position : Setting → (at : ℕ) → List Cell → source.SourceState → Machine
position g at operands s = Running (state_at g at operands s)

-- ---- exceptions

-- where an exception goes that the procedure's table sends to a handler, or out of it
abbrev pub thrown_to : Setting → Option ℕ → (exception : ℕ) → source.SourceState → Machine
thrown_to g None exception s = unwound g.p (state_at g 0 [] s) exception g.callers
thrown_to g (Some target) exception s = position g target [] s

handled_same : (S T : State) (frame : Frame) (callers : List Caller) (o : Option ℕ) (m n : Machine) → m ≡ n
    → ((target : ℕ) → handled S frame callers (Some target) m ≡ handled T frame callers (Some target) n)
    → handled S frame callers o m ≡ handled T frame callers o n
handled_same S T frame callers None m n e each = e
handled_same S T frame callers (Some target) m n e each = each target

unwound_same : (g : Setting) (at : ℕ) (operands : List Cell) (s : source.SourceState) (exception : ℕ) (callers : List Caller)
    → unwound g.p (state_at g at operands s) exception callers ≡ unwound g.p (state_at g 0 [] s) exception callers
unwound_same g at operands s exception [] = refl
unwound_same g at operands s exception (caller ∷ callers) =
    handled_same (state_at g at operands s) (state_at g 0 [] s) caller.frame callers
    (g.p.find caller.frame.procedure caller.frame.position exception) _ _ (unwound_same g at operands s exception callers) (λ target. refl)

pub raised-is : (g : Setting) (at : ℕ) (operands : List Cell) (s : source.SourceState) (exception : ℕ)
    → raised g.p (state_at g at operands s) exception ≡ thrown_to g (g.p.find g.number at exception) exception s
raised-is g at operands s exception = go (g.p.find g.number at exception)
  where
    go : (o : Option ℕ) → handled (state_at g at operands s) (state_at g at operands s).frame g.callers o (unwound g.p (state_at g at operands s) exception g.callers)
        ≡ thrown_to g o exception s
    go None = unwound_same g at operands s exception g.callers
    go (Some target) = refl

-- ---- returns

abbrev pub returned_to : Setting → Option Value → source.SourceState → Machine
returned_to g None s = leaves (state_at g 0 [] s) g.callers
returned_to g (Some v) s = leaves_value (state_at g 0 [] s) (cell_of v) g.callers

pub leaves-is : (g : Setting) (at : ℕ) (operands : List Cell) (s : source.SourceState) → leaves (state_at g at operands s) g.callers ≡ returned_to g None s
leaves-is g at operands s = go g.callers
  where
    go : (callers : List Caller) → leaves (state_at g at operands s) callers ≡ leaves (state_at g 0 [] s) callers
    go [] = refl
    go (caller ∷ callers) = refl

pub leaves_value-is : (g : Setting) (at : ℕ) (operands : List Cell) (v : Value) (s : source.SourceState) → leaves_value (state_at g at operands s) (cell_of v) g.callers ≡ returned_to g (Some v) s
leaves_value-is g at operands v s = go g.callers
  where
    go : (callers : List Caller) → leaves_value (state_at g at operands s) (cell_of v) callers ≡ leaves_value (state_at g 0 [] s) (cell_of v) callers
    go [] = refl
    go (caller ∷ callers) = refl

-- ---- kinds

pub kind-same : (v : Value) (b : BaseType) → kind_of v ≡ b → has_kind b (cell_of v) ≡ true
kind-same (cell.Int z) base.Int h = refl
kind-same (cell.Bool b) base.Boolean h = refl
kind-same (cell.Int z) base.Boolean h = cc
kind-same (cell.Bool b) base.Int h = cc

-- ---- changed cells

choice_of : (b : Bool) (values others : List Value) → cond b (cells_of values) (cells_of others) ≡ cells_of (cond b values others)
choice_of true values others = refl
choice_of false values others = refl

pub with_slot-is : (g : Setting) (at : ℕ) (operands : List Cell) (s : source.SourceState) (n : ℕ) (values : List Value)
    → with_slot (state_at g at operands s) n (cells_of values) ≡ state_at g at operands (source.with_cells s (Local n) values)
with_slot-is g at operands s n values =
    ap (λ (slots : ℕ → List Cell). record (state_at g at operands s) { frame = record (state_at g at operands s).frame { slots = slots } })
    (fun_ext (λ m. choice_of (eqb m n) values (s.locals m)))

pub with_global-is : (g : Setting) (at : ℕ) (operands : List Cell) (s : source.SourceState) (n : ℕ) (values : List Value)
    → with_global (state_at g at operands s) n (cells_of values) ≡ state_at g at operands (source.with_cells s (Global n) values)
with_global-is g at operands s n values =
    ap (λ (globals : ℕ → List Cell). record (state_at g at operands s) { globals = globals })
    (fun_ext (λ m. choice_of (eqb m n) values (s.globals m)))
