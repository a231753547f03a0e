-- Code of assignments, stores, receives, sends, clears and returns does what they do.
use Rattle.common.specs.Functions.{updated}
use Rattle.std.proofs.Common.{◌≡◌, ℕ, ◌+◌, Bool, true, false, not, ℤ, pos, negsuc, List, [], ◌∷◌, ◌++◌, length, map, refl, sym, ap, ◌∙◌, slice_get, subst, arith, nat_lt}
use Rattle.std.specs.Prelude.{Option, Some, None, if◌then◌else◌, is_none, slice_set}
use Rattle.std.proofs.lemmas.List.{map-set, length-map}
use Rattle.common.specs.declared.value.Value.{Value}
use Rattle.common.specs.declared.value.Value.TheVariants.{Int as Number, Bool as Truth}
use Rattle.common.specs.declared.base_type.BaseType.TheVariants as base
use Rattle.resolved.specs.declared.expression.Variable.{Variable}
use Rattle.resolved.specs.declared.expression.Variable.TheVariants.{Local}
use Rattle.resolved.specs.declared.statement.Exit.TheVariants as exit
use Rattle.common.specs.declared.direction.Direction.{Direction}
use Rattle.common.specs.declared.direction.Direction.TheVariants.{Input, Output}
use Rattle.resolved.specs.Tree.{Expression}
use Rattle.labels.specs.Channel.{ChannelContents}
use Rattle.resolved.specs.Program as resolved
use Rattle.resolved.specs.SourceState as source
use Rattle.resolved.specs.SourceState.{value_of, cells, cell_at, assigned, stored, cleared, with_cells}
use Rattle.common.specs.Values.{kind_of, zero_of}
use Rattle.resolved.specs.Value.{Yields, Raises, checked_index}
use Rattle.resolved.specs.Meaning.{Ended, normally, evaluated, received, given_to, sending}
use Rattle.resolved.specs.WellFormed.{VariableType, variable_type, has_base, same_base, scalar_by, array_by, target_by, channel_is, is_array, may_leave_by, is_exception, has_result, cell_count}
use Rattle.resolved.specs.Kinds.{StateFits, CellsFit}
use Rattle.resolved.proofs.Sound.Values.{value_fits}
use Rattle.resolved.proofs.Sound.Meanings.{base_given}
use Rattle.common.specs.declared.value.Value.{Value as Cell}
use Rattle.common.specs.declared.base_type.BaseType.{BaseType}
use Rattle.common.specs.declared.value.Value.TheVariants as cell
use Rattle.modules.specs.declared.declaration.Slot.{Slot}
use Rattle.modules.specs.declared.declaration.Slot.TheVariants as slot
use Rattle.modules.specs.declared.instruction.Instruction.{Instruction}
use Rattle.modules.specs.declared.instruction.Instruction.TheVariants as instruction
use Rattle.modules.specs.Transitions as transitions
use Rattle.modules.specs.Machine.{State, with_element, goes_on}
use Rattle.modules.specs.Transitions.{clears, sends, leaves_without, gives_back}
use Rattle.modules.specs.MachineParts.{with_slot, takes, receives}
use Rattle.common.specs.declared.exceptions.TheConstants.{BOUNDS, END}
use Rattle.lowering.specs.Expressions.{store_of, store_element_of, value_size, value_code}
use Rattle.lowering.specs.Code.{Loop, kept_code}
use Rattle.lowering.proofs.CodePieces.{Stands, stands-front, stands-back}
use Rattle.lowering.proofs.Sizes.{value-sized}
use Rattle.lowering.proofs.Steps.{Leads, leads-through}
use Rattle.lowering.proofs.States.{Setting, state_at, position, cell_of, cells_of, thrown_to, raised-is, kind-same, left_of, direction_in, with_slot-is}
use Rattle.lowering.proofs.SingleSteps.{does, onward, slot_for, stores_element-is, stores_nowhere}
use Rattle.lowering.proofs.Values.{Finds, finds-part, scalar-there, array-there}
use Rattle.lowering.proofs.Expressions.{value-runs}
use Rattle.lowering.proofs.Outcomes.{Runs, runs-at, evaluated-runs}
use Rattle.lowering.proofs.Simple.{cleared_cells, stores-scalar, returns-value, taken_state, input_rest, kept-runs}

module _ (g : Setting) (loop : Loop) (h : ℕ → Option ℕ) (k : ℕ) (s : source.SourceState) (fit : StateFits g.program g.procedure s) where
  pub assign-runs : (x : Variable) (e : Expression) (at : ℕ) → scalar_by (variable_type g.program g.procedure x) (λ b. has_base g.program g.procedure b e) ≡ true
      → Stands g.code (value_code at e ++ store_of x ∷ []) at → Finds g at (value_size e + 1) h
      → Runs g loop h k (position g at [] s) (at + (value_size e + 1)) (evaluated (value_of s e) s (λ v. normally (assigned s x v)))
  assign-runs x e at typed stands finds =
      let there = scalar-there (variable_type g.program g.procedure x) (λ b. has_base g.program g.procedure b e) typed in
      let type : VariableType = there.0 in
      let n = value_size e in
      runs-at g loop h k (position g at [] s) (at + n + 1) (at + (n + 1)) (evaluated (value_of s e) s (λ v. normally (assigned s x v))) (omega arith)
      (evaluated-runs g loop h k [] (position g at [] s) (at + n) (at + n + 1) s (value_of s e) (λ v. normally (assigned s x v))
      (value-runs g h s fit e type.base at [] there.3 (stands-front g.code (value_code at e) (store_of x ∷ []) at stands)
      (finds-part g at (n + 1) h at n (omega arith) (omega arith) finds))
      (λ v f. stores-scalar g loop h k s x v (at + n) [] [] (λ b. has_base g.program g.procedure b e) typed
      (λ b has. base_given b (value_of s e) v f (value_fits g.program g.procedure s fit b e has))
      (stands-back g.code (value_code at e) (store_of x ∷ []) at n (value-sized e at) stands)))

  send-channel : (channel : ℕ) → channel_is (slice_get g.program.channels channel) Output ≡ true → slice_get g.p.directions channel ≡ Some Output
  send-channel channel is_output = g.channels_there channel ∙ go (slice_get g.program.channels channel) is_output
    where
      by : (d : Direction) → Rattle.resolved.specs.WellFormed.same_direction d Output ≡ true
          → ◌≡◌ {A = Option Direction} (Some d) (Some Output)
      by Output e = refl
      by Input e = absurd (let no : false ≡ true = e in cc)

      go : (o : Option ChannelContents) → channel_is o Output ≡ true → direction_in o ≡ Some Output
      go None e = absurd (let no : false ≡ true = e in cc)
      go (Some entry) e = by entry.direction e

  send-value : (channel at : ℕ) (v : Value) (more : List Instruction) → channel_is (slice_get g.program.channels channel) Output ≡ true → kind_of v ≡ base.Int
      → Stands g.code (instruction.Send channel ∷ more) at → Leads g.p (position g at (cell_of v ∷ []) s) (position g (at + 1) [] (sending channel v s))
  send-value channel at (Number z) more is_output typed stands =
      does g more (instruction.Send channel) at (cell.Int z ∷ []) s _ stands
      (ap (λ (o : Option Direction). sends g.p (state_at g at (cell.Int z ∷ []) s) channel o (cell.Int z ∷ [])) (send-channel channel is_output)
      ∙ onward g at (cell.Int z ∷ []) [] (sending channel (Number z) s))
  send-value channel at (Truth b) more is_output typed stands = absurd (let no : base.Boolean ≡ base.Int = typed in cc)

  pub send-runs : (channel : ℕ) (e : Expression) (at : ℕ) → channel_is (slice_get g.program.channels channel) Output ≡ true → has_base g.program g.procedure base.Int e ≡ true
      → Stands g.code (value_code at e ++ instruction.Send channel ∷ []) at → Finds g at (value_size e + 1) h
      → Runs g loop h k (position g at [] s) (at + (value_size e + 1)) (evaluated (value_of s e) s (λ v. normally (sending channel v s)))
  send-runs channel e at is_output typed stands finds =
      let n = value_size e in
      runs-at g loop h k (position g at [] s) (at + n + 1) (at + (n + 1)) (evaluated (value_of s e) s (λ v. normally (sending channel v s))) (omega arith)
      (evaluated-runs g loop h k [] (position g at [] s) (at + n) (at + n + 1) s (value_of s e) (λ v. normally (sending channel v s))
      (value-runs g h s fit e base.Int at [] typed (stands-front g.code (value_code at e) (instruction.Send channel ∷ []) at stands)
      (finds-part g at (n + 1) h at n (omega arith) (omega arith) finds))
      (λ v f. send-value channel (at + n) v [] is_output (base_given base.Int (value_of s e) v f (value_fits g.program g.procedure s fit base.Int e typed))
      (stands-back g.code (value_code at e) (instruction.Send channel ∷ []) at n (value-sized e at) stands)))

  pub return-runs : (e : Expression) (at end : ℕ) → has_result g.procedure.result (λ b. has_base g.program g.procedure b e) ≡ true
      → Stands g.code (value_code at e ++ instruction.ReturnValue ∷ []) at → Finds g at (value_size e + 1) h
      → Runs g loop h k (position g at [] s) end (evaluated (value_of s e) s (λ v. Ended exit.Return (Some v) s))
  return-runs e at end typed stands finds = go g.procedure.result refl typed
    where
      go : (result : Option resolved.ResultEntry) → g.procedure.result ≡ result → has_result result (λ b. has_base g.program g.procedure b e) ≡ true
          → Runs g loop h k (position g at [] s) end (evaluated (value_of s e) s (λ v. Ended exit.Return (Some v) s))
      go None is has = absurd (let no : false ≡ true = has in cc)
      go (Some entry) is has =
          let n = value_size e in
          evaluated-runs g loop h k [] (position g at [] s) (at + n) end s (value_of s e) (λ v. Ended exit.Return (Some v) s)
          (value-runs g h s fit e entry.base at [] has (stands-front g.code (value_code at e) (instruction.ReturnValue ∷ []) at stands)
          (finds-part g at (n + 1) h at n (omega arith) (omega arith) finds))
          (λ v f. returns-value g loop h k s (at + n) [] v entry is (base_given entry.base (value_of s e) v f (value_fits g.program g.procedure s fit entry.base e has))
          (stands-back g.code (value_code at e) (instruction.ReturnValue ∷ []) at n (value-sized e at) stands))

  pub receive-runs : (channel at : ℕ) (target : Option Variable) → channel_is (slice_get g.program.channels channel) Input ≡ true
      → target_by g.program g.procedure target (same_base base.Int) ≡ true → Stands g.code (instruction.Receive channel ∷ kept_code target ∷ []) at → Finds g at 2 h
      → Runs g loop h k (position g at [] s) (at + 2) (received (s.inputs channel) channel target s)
  receive-runs channel at target is_input typed stands finds = go (s.inputs channel) (taken ∙ ap (takes g.p S channel) left.0)
    where
      S : State
      S = state_at g at [] s

      left : (left_of (slice_get g.program.channels channel) (s.inputs channel) (g.world channel) ≡ s.inputs channel) × (direction_in (slice_get g.program.channels channel) ≡ Some Input)
      left = input_rest g loop h k s channel is_input

      taken : transitions.act g.p (instruction.Receive channel) S ≡ takes g.p S channel (left_of (slice_get g.program.channels channel) (s.inputs channel) (g.world channel))
      taken = ap (receives g.p S channel) (g.channels_there channel ∙ left.1)

      go : (numbers : List ℤ) → transitions.act g.p (instruction.Receive channel) S ≡ takes g.p S channel numbers
          → Runs g loop h k (position g at [] s) (at + 2) (received numbers channel target s)
      go [] acts =
          does g (kept_code target ∷ []) (instruction.Receive channel) at [] s _ stands
          (acts ∙ raised-is g at [] s END ∙ ap (λ (o : Option ℕ). thrown_to g o END s) (finds.finds at (omega arith) (omega arith) END))
      go (z ∷ rest) acts =
          let t : source.SourceState = record s { inputs = updated s.inputs channel rest } in
          let got : Leads g.p (position g at [] s) (position g (at + 1) (cell.Int z ∷ []) t) =
          does g (kept_code target ∷ []) (instruction.Receive channel) at [] s _ stands
          (acts ∙ ap (λ (q : State). goes_on g.p q (cell.Int z ∷ [])) (taken_state g loop h k s channel rest at [] is_input) ∙ onward g at [] (cell.Int z ∷ []) t) in
          let back = stands-back g.code (instruction.Receive channel ∷ []) (kept_code target ∷ []) at 1 refl stands in
          let end : at + 1 + 1 ≡ at + 2 = omega arith in
          subst (λ (q : ℕ). Leads g.p (position g at [] s) (position g q [] (given_to target (Some (Number z)) t))) end
          (leads-through g.p _ _ _ got (kept-runs g loop h k t target z (at + 1) [] typed back))

  pub clear-runs : (slot at : ℕ) (more : List Instruction) → is_array (variable_type g.program g.procedure (Local slot)) ≡ true → Stands g.code (instruction.Clear slot ∷ more) at
      → Leads g.p (position g at [] s) (position g (at + 1) [] (cleared s slot))
  clear-runs slot at more typed stands = go (variable_type g.program g.procedure (Local slot)) refl typed
    where
      sized : (type : VariableType) → variable_type g.program g.procedure (Local slot) ≡ Some type → (size : Option ℕ) → type.size ≡ size → not (is_none size) ≡ true
          → Leads g.p (position g at [] s) (position g (at + 1) [] (cleared s slot))
      sized type is None e some = absurd (let no : false ≡ true = some in cc)
      sized type is (Some count) e some =
          let S = state_at g at [] s in
          let fits : CellsFit type (s.locals slot) = fit.fits (Local slot) type is in
          let slot_is : slot_for g (Local slot) ≡ Some (Rattle.modules.specs.declared.declaration.Slot.TheVariants.Array type.base count) = rw (is, e) refl in
          does g more (instruction.Clear slot) at [] s _ stands
          (ap (clears g.p S slot) (g.locals_there slot ∙ slot_is)
          ∙ ap (λ (cells : List Cell). goes_on g.p (with_slot S slot cells) []) (cleared_cells type.base (s.locals slot) count (fits.count ∙ ap cell_count e) (λ v f. f) fits.kinds)
          ∙ ap (λ (q : State). goes_on g.p q []) (with_slot-is g at [] s slot (map (λ v. zero_of (kind_of v)) (s.locals slot)))
          ∙ onward g at [] [] (cleared s slot))

      go : (o : Option VariableType) → variable_type g.program g.procedure (Local slot) ≡ o → is_array o ≡ true → Leads g.p (position g at [] s) (position g (at + 1) [] (cleared s slot))
      go None is e = absurd (let no : false ≡ true = e in cc)
      go (Some type) is e = sized type is type.size refl e

  element-stored : (x : Variable) (count : ℕ) (v w : Value) (at : ℕ) (more : List Instruction) (type : VariableType) → variable_type g.program g.procedure x ≡ Some type
      → type.size ≡ Some count → kind_of v ≡ base.Int → kind_of w ≡ type.base → Stands g.code (store_element_of x ∷ more) at → ((exception : ℕ) → g.p.find g.number at exception ≡ h exception)
      → Runs g loop h k (position g at (cell_of w ∷ cell_of v ∷ []) s) (at + 1) (evaluated (checked_index v count) s (λ i. normally (stored s x i w)))
  element-stored x count (Truth b) w at more type is size is_int same stands finds = absurd (let no : base.Boolean ≡ base.Int = is_int in cc)
  element-stored x count (Number z) w at more type is size is_int same stands finds = go z
    where
      kind : BaseType
      kind = type.base

      slot_is : slot_for g x ≡ Some (Rattle.modules.specs.declared.declaration.Slot.TheVariants.Array type.base count)
      slot_is = rw (is, size) refl

      fits : CellsFit type (cells s x)
      fits = fit.fits x type is

      many : length (cells s x) ≡ count
      many = fits.count ∙ ap cell_count size

      nowhere : (z : ℤ) → with_element (cells_of (cells s x)) z (cell_of w) ≡ None → Leads g.p (position g at (cell_of w ∷ cell.Int z ∷ []) s) (thrown_to g (h BOUNDS) BOUNDS s)
      nowhere z none =
          does g more (store_element_of x) at (cell_of w ∷ cell.Int z ∷ []) s _ stands
          (stores_nowhere g x kind count w z at [] s slot_is (kind-same w type.base same) none ∙ ap (λ (o : Option ℕ). thrown_to g o BOUNDS s) (finds BOUNDS))

      inside : (i : ℕ) (test : Bool) → nat_lt i count ≡ test
          → Runs g loop h k (position g at (cell_of w ∷ cell.Int (pos i) ∷ []) s) (at + 1) (evaluated (if test then Yields i else Raises 1) s (λ i. normally (stored s x i w)))
      inside i true e =
          let there : nat_lt i (length (cells_of (cells s x))) ≡ true = ap (λ n. nat_lt i n) (length-map (cells s x) cell_of ∙ many) ∙ e in
          does g more (store_element_of x) at (cell_of w ∷ cell.Int (pos i) ∷ []) s _ stands
          (stores_element-is g x kind count w (pos i) (slice_set (cells s x) i w) at [] s slot_is (kind-same w type.base same)
          (rw there (ap (λ (l : List Cell). Some l) (sym (map-set cell_of (cells s x) i w)))))
      inside i false e =
          let away : nat_lt i (length (cells_of (cells s x))) ≡ false = ap (λ n. nat_lt i n) (length-map (cells s x) cell_of ∙ many) ∙ e in
          nowhere (pos i) (rw away refl)

      go : (z : ℤ) → Runs g loop h k (position g at (cell_of w ∷ cell.Int z ∷ []) s) (at + 1) (evaluated (checked_index (Number z) count) s (λ i. normally (stored s x i w)))
      go (pos i) = inside i (nat_lt i count) refl
      go (negsuc i) = nowhere (negsuc i) refl

  pub store-runs : (x : Variable) (count : ℕ) (index e : Expression) (at : ℕ) → array_by (variable_type g.program g.procedure x) count (λ b. has_base g.program g.procedure b e) ≡ true
      → has_base g.program g.procedure base.Int index ≡ true
      → Stands g.code (value_code at index ++ (value_code (at + value_size index) e ++ store_element_of x ∷ [])) at → Finds g at (value_size index + (value_size e + 1)) h
      → Runs g loop h k (position g at [] s) (at + (value_size index + (value_size e + 1)))
      (evaluated (value_of s index) s (λ v. evaluated (value_of s e) s (λ w. evaluated (checked_index v count) s (λ i. normally (stored s x i w)))))
  store-runs x count index e at typed is_int stands finds =
      let there = array-there (variable_type g.program g.procedure x) count (λ b. has_base g.program g.procedure b e) typed in
      let type : VariableType = there.0 in
      let n = value_size index in
      let m = value_size e in
      let mid = at + n in
      let last = mid + m in
      let second = stands-back g.code (value_code at index) (value_code mid e ++ store_element_of x ∷ []) at n (value-sized index at) stands in
      let third = stands-back g.code (value_code mid e) (store_element_of x ∷ []) mid m (value-sized e mid) second in
      runs-at g loop h k (position g at [] s) (last + 1) (at + (n + (m + 1)))
      (evaluated (value_of s index) s (λ v. evaluated (value_of s e) s (λ w. evaluated (checked_index v count) s (λ i. normally (stored s x i w))))) (omega arith)
      (evaluated-runs g loop h k [] (position g at [] s) mid (last + 1) s (value_of s index) (λ v. evaluated (value_of s e) s (λ w. evaluated (checked_index v count) s (λ i. normally (stored s x i w))))
      (value-runs g h s fit index base.Int at [] is_int (stands-front g.code (value_code at index) (value_code mid e ++ store_element_of x ∷ []) at stands)
      (finds-part g at (n + (m + 1)) h at n (omega arith) (omega arith) finds))
      (λ v f. evaluated-runs g loop h k (cell_of v ∷ []) (position g mid (cell_of v ∷ []) s) last (last + 1) s (value_of s e) (λ w. evaluated (checked_index v count) s (λ i. normally (stored s x i w)))
      (value-runs g h s fit e type.base mid (cell_of v ∷ []) there.3 (stands-front g.code (value_code mid e) (store_element_of x ∷ []) mid second)
      (finds-part g at (n + (m + 1)) h mid m (omega arith) (omega arith) finds))
      (λ w f'. element-stored x count v w last [] type there.1 there.2
      (base_given base.Int (value_of s index) v f (value_fits g.program g.procedure s fit base.Int index is_int))
      (base_given type.base (value_of s e) w f' (value_fits g.program g.procedure s fit type.base e there.3)) third
      (finds.finds last (omega arith) (omega arith)))))
