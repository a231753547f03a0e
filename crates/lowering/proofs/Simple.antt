-- Code of simple statements does what they do.
use Rattle.common.specs.Functions.{updated}
use Rattle.std.proofs.Common.{◌≡◌, ℕ, suc, ◌+◌, Bool, true, false, cond, eqb, ℤ, List, [], ◌∷◌, length, map, refl, sym, ap, ◌∙◌, slice_get, subst, arith, nat_lt, eqb-true, All}
use Rattle.std.specs.Prelude.{Option, Some, None, if◌then◌else◌, is_none, replicate}
use Rattle.std.proofs.Math.Path.{fun_ext}
use Rattle.common.specs.declared.value.Value.{Value}
use Rattle.common.specs.declared.value.Value.TheVariants.{Int as Number}
use Rattle.common.specs.declared.base_type.BaseType.{BaseType}
use Rattle.common.specs.declared.base_type.BaseType.TheVariants as base
use Rattle.resolved.specs.declared.expression.Variable.{Variable}
use Rattle.resolved.specs.declared.statement.Exit.{Exit}
use Rattle.resolved.specs.declared.statement.Exit.TheVariants as exit
use Rattle.common.specs.declared.direction.Direction.{Direction}
use Rattle.common.specs.declared.direction.Direction.TheVariants.{Input, Output}
use Rattle.common.proofs.Cases.{none_there}
use Rattle.labels.specs.Channel.{ChannelContents}
use Rattle.resolved.specs.Program as resolved
use Rattle.resolved.specs.SourceState as source
use Rattle.resolved.specs.SourceState.{value_of, cells, cell_at, assigned, stored, cleared, with_cells}
use Rattle.common.specs.Values.{kind_of, zero_of}
use Rattle.resolved.specs.Meaning.{Ended, given_to}
use Rattle.resolved.specs.WellFormed.{VariableType, variable_type, has_base, same_base, scalar_by, array_by, target_by, channel_is, is_array, may_leave_by, is_exception, has_result, cell_count}
use Rattle.resolved.proofs.Sound.Values.{same_base_is}
use Rattle.common.specs.declared.value.Value.{Value as Cell}
use Rattle.common.specs.declared.value.Value.TheVariants as cell
use Rattle.modules.specs.declared.declaration.Slot.TheVariants as slot
use Rattle.modules.specs.declared.instruction.Instruction.{Instruction}
use Rattle.modules.specs.declared.instruction.Instruction.TheVariants as instruction
use Rattle.common.specs.Values.{zero_of}
use Rattle.modules.specs.Values.{has_kind}
use Rattle.modules.specs.Machine.{State, raised, stuck}
use Rattle.modules.specs.Transitions.{leaves_without, gives_back}
use Rattle.modules.specs.MachineParts.{returns_nothing, returns_value, leaves_value}
use Rattle.lowering.specs.Interface.{returned_kind}
use Rattle.lowering.specs.Expressions.{store_of}
use Rattle.lowering.specs.Code.{Loop, kept_code, leave_code}
use Rattle.lowering.proofs.CodePieces.{Stands}
use Rattle.lowering.proofs.Steps.{Leads}
use Rattle.lowering.proofs.States.{Setting, state_at, position, cell_of, cells_of, thrown_to, returned_to, raised-is, leaves-is, leaves_value-is, kind-same, left_of, left_by, direction_in}
use Rattle.lowering.proofs.SingleSteps.{does, onward, slot_for, stores-is}
use Rattle.lowering.proofs.Values.{scalar-there}
use Rattle.lowering.proofs.Expressions.{jump-runs}
use Rattle.lowering.proofs.Outcomes.{Runs}

-- ---- cells

pub cleared_cells : (b : BaseType) (values : List Value) (count : ℕ) → length values ≡ count → ((v : Value) → kind_of v ≡ b → kind_of v ≡ b) → All (λ v. kind_of v ≡ b) values
    → replicate count (zero_of b) ≡ cells_of (map (λ v. zero_of (kind_of v)) values)
cleared_cells b values count size same kinds = subst (λ n. replicate n (zero_of b) ≡ cells_of (map (λ v. zero_of (kind_of v)) values)) size (go values kinds)
  where
    zero : (b : BaseType) → cell_of (zero_of b) ≡ zero_of b
    zero base.Int = refl
    zero base.Boolean = refl

    one : (b c : BaseType) → c ≡ b → zero_of b ≡ cell_of (zero_of c)
    one b c e = sym (zero b) ∙ ap (λ x. cell_of (zero_of x)) (sym e)

    go : (values : List Value) → All (λ v. kind_of v ≡ b) values → replicate (length values) (zero_of b) ≡ cells_of (map (λ v. zero_of (kind_of v)) values)
    go [] all = refl
    go (v ∷ rest) all =
        ap (λ (c : Cell). c ∷ replicate (length rest) (zero_of b)) (one b (kind_of v) (all 0 v (omega arith)))
        ∙ ap (λ (l : List Cell). cell_of (zero_of (kind_of v)) ∷ l) (go rest (λ i d below. all (suc i) d (omega (arith, below))))

module _ (g : Setting) (loop : Loop) (h : ℕ → Option ℕ) (k : ℕ) (s : source.SourceState) where
  -- a value goes into a scalar of its base type
  pub stores-scalar : (x : Variable) (v : Value) (at : ℕ) (operands : List Cell) (more : List Instruction) (test : BaseType → Bool)
      → scalar_by (variable_type g.program g.procedure x) test ≡ true → ((b : BaseType) → test b ≡ true → kind_of v ≡ b)
      → Stands g.code (store_of x ∷ more) at → Leads g.p (position g at (cell_of v ∷ operands) s) (position g (at + 1) operands (assigned s x v))
  stores-scalar x v at operands more test typed same stands =
      let there = scalar-there (variable_type g.program g.procedure x) test typed in
      let type : VariableType = there.0 in
      does g more (store_of x) at (cell_of v ∷ operands) s _ stands
      (stores-is g x type.base v at operands s (slot_is type there.1 there.2) (kind-same v type.base (same type.base there.3)))
    where
      slot_is : (type : VariableType) → variable_type g.program g.procedure x ≡ Some type → type.size ≡ None → slot_for g x ≡ Some (slot.Scalar type.base)
      slot_is type e f = rw (e, f) refl

  -- ---- leaving
  pub leaves-runs : (way : Exit) (at : ℕ) (more : List Instruction) → may_leave_by g.program way ≡ true → Stands g.code (leave_code loop way ∷ more) at
      → ((exception : ℕ) → g.p.find g.number at exception ≡ h exception) → Runs g loop h k (position g at [] s) (at + 1) (Ended way None s)
  leaves-runs exit.Normal at more may stands finds = absurd (let no : false ≡ true = may in cc)
  leaves-runs exit.Return at more may stands finds = absurd (let no : false ≡ true = may in cc)
  leaves-runs exit.Break at more may stands finds = jump-runs g h s loop.beyond at [] more stands
  leaves-runs exit.Continue at more may stands finds = jump-runs g h s loop.test at [] more stands
  leaves-runs (exit.Throw exception) at more may stands finds =
      does g more (instruction.Throw exception) at [] s _ stands
      (ap (λ (n : ℕ). if nat_lt exception n then raised g.p (state_at g at [] s) exception else stuck (state_at g at [] s)) g.exceptions_there
      ∙ ap (λ (b : Bool). if b then raised g.p (state_at g at [] s) exception else stuck (state_at g at [] s)) may
      ∙ raised-is g at [] s exception ∙ ap (λ (o : Option ℕ). thrown_to g o exception s) (finds exception))

  pub returns-nothing : (at : ℕ) (more : List Instruction) → is_none g.procedure.result ≡ true → Stands g.code (instruction.Return ∷ more) at
      → Leads g.p (position g at [] s) (returned_to g None s)
  returns-nothing at more none stands =
      does g more instruction.Return at [] s _ stands
      (ap (returns_nothing (state_at g at [] s)) g.header_is ∙ ap (leaves_without (state_at g at [] s)) (g.returned_is ∙ ap returned_kind (none_there g.procedure.result none))
      ∙ leaves-is g at [] s)

  gives_kind : (at : ℕ) (v : Value) (kind : BaseType) → has_kind kind (cell_of v) ≡ true
      → gives_back (state_at g at (cell_of v ∷ []) s) (Some kind) (cell_of v ∷ []) ≡ leaves_value (state_at g at (cell_of v ∷ []) s) (cell_of v) g.callers
  gives_kind at v kind e = rw e refl

  pub returns-value : (at : ℕ) (more : List Instruction) (v : Value) (entry : resolved.ResultEntry) → g.procedure.result ≡ Some entry → kind_of v ≡ entry.base
      → Stands g.code (instruction.ReturnValue ∷ more) at → Leads g.p (position g at (cell_of v ∷ []) s) (returned_to g (Some v) s)
  returns-value at more v entry result same stands =
      let S = state_at g at (cell_of v ∷ []) s in
      does g more instruction.ReturnValue at (cell_of v ∷ []) s _ stands
      (ap (returns_value S) g.header_is ∙ ap (λ (o : Option BaseType). gives_back S o (cell_of v ∷ [])) (g.returned_is ∙ ap returned_kind result)
      ∙ gives_kind at v entry.base (kind-same v entry.base same) ∙ leaves_value-is g at (cell_of v ∷ []) v s)

  -- ---- channels
  pub taken_state : (channel : ℕ) (numbers : List ℤ) (at : ℕ) (operands : List Cell) → channel_is (slice_get g.program.channels channel) Input ≡ true
      → ◌≡◌ {A = State} (record (state_at g at operands s) { rest = updated (state_at g at operands s).rest channel numbers })
      (state_at g at operands (record s { inputs = updated s.inputs channel numbers }))
  taken_state channel numbers at operands is_input =
      ap (λ (rest : ℕ → List ℤ). record (state_at g at operands s) { rest = rest }) (fun_ext (λ m. go m (eqb m channel) refl))
    where
      input_left : (o : Option ChannelContents) (whole : List ℤ) → channel_is o Input ≡ true → left_of o numbers whole ≡ numbers
      input_left None whole e = absurd (let no : false ≡ true = e in cc)
      input_left (Some entry) whole e = by entry.direction e
        where
          by : (d : Direction) → Rattle.resolved.specs.WellFormed.same_direction d Input ≡ true → left_by d numbers whole ≡ numbers
          by Input e = refl
          by Output e = absurd (let no : false ≡ true = e in cc)

      go : (m : ℕ) (b : Bool) → eqb m channel ≡ b → cond b numbers (left_of (slice_get g.program.channels m) (s.inputs m) (g.world m))
          ≡ left_of (slice_get g.program.channels m) (cond b numbers (s.inputs m)) (g.world m)
      go m true e =
          let same : m ≡ channel = eqb-true m channel e in
          sym (input_left (slice_get g.program.channels m) (g.world m) (subst (λ c. channel_is (slice_get g.program.channels c) Input ≡ true) (sym same) is_input))
      go m false e = refl

  pub input_rest : (channel : ℕ) → channel_is (slice_get g.program.channels channel) Input ≡ true
      → (left_of (slice_get g.program.channels channel) (s.inputs channel) (g.world channel) ≡ s.inputs channel)
      × (direction_in (slice_get g.program.channels channel) ≡ Some Input)
  input_rest channel is_input = go (slice_get g.program.channels channel) is_input
    where
      by : (d : Direction) → Rattle.resolved.specs.WellFormed.same_direction d Input ≡ true
          → (left_by d (s.inputs channel) (g.world channel) ≡ s.inputs channel)
          × (◌≡◌ {A = Option Direction} (Some d) (Some Input))
      by Input e = (refl, refl)
      by Output e = absurd (let no : false ≡ true = e in cc)

      go : (o : Option ChannelContents) → channel_is o Input ≡ true
          → (left_of o (s.inputs channel) (g.world channel) ≡ s.inputs channel) × (direction_in o ≡ Some Input)
      go None e = absurd (let no : false ≡ true = e in cc)
      go (Some entry) e = by entry.direction e

  pub kept-runs : (target : Option Variable) (z : ℤ) (at : ℕ) (more : List Instruction) → target_by g.program g.procedure target (same_base base.Int) ≡ true
      → Stands g.code (kept_code target ∷ more) at → Leads g.p (position g at (cell.Int z ∷ []) s) (position g (at + 1) [] (given_to target (Some (Number z)) s))
  kept-runs None z at more typed stands = does g more instruction.Pop at (cell.Int z ∷ []) s _ stands (onward g at (cell.Int z ∷ []) [] s)
  kept-runs (Some x) z at more typed stands = stores-scalar x (Number z) at [] more (same_base base.Int) typed (λ b e. same_base_is base.Int b e) stands
