-- The code of an expression pushes a value of its kind, and that of a condition leaves the operands as they were.
use Rattle.common.specs.Functions.{same_truth}
use Rattle.std.proofs.Common.{◌≡◌, refl, sym, ◌∙◌, subst, ℕ, ◌+◌, Bool, true, false, ◌&&◌, List, [], ◌∷◌, ◌++◌, length, map, reverse}
use Rattle.std.proofs.lemmas.Bool.{and_parts}
use Rattle.std.specs.Prelude.{not, if◌then◌else◌}
use Rattle.common.specs.declared.base_type.BaseType.{BaseType}
use Rattle.common.specs.declared.base_type.BaseType.TheVariants as base
use Rattle.common.specs.declared.operator.Prefix.TheVariants as prefix
use Rattle.common.specs.declared.operator.Connective.{Connective}
use Rattle.common.specs.declared.operator.Connective.TheVariants.{And, Or}
use Rattle.resolved.specs.Tree.{Expression, Integer, Logical, Read, Element, Unary, Binary, Short}
use Rattle.resolved.specs.Program.{Program, ProcedureEntry, SlotEntry}
use Rattle.resolved.specs.Value.{literal_number}
use Rattle.resolved.specs.WellFormed.{has_base, same_base, prefix_base, operand_base, result_base, variable_type, array_by, arguments_match}
use Rattle.resolved.proofs.Sound.Values.{same_base_is}
use Rattle.modules.specs.Contents.{ProcedureContents, ModuleContents}
use Rattle.modules.specs.declared.instruction.Instruction.{Instruction}
use Rattle.modules.specs.declared.instruction.Instruction.TheVariants as instruction
use Rattle.common.specs.declared.base_type.BaseType.TheVariants.{Boolean}
use Rattle.lowering.specs.Expressions.{tested, deciding, value_size, value_code, rest_of_short, arguments_code, branch_size, branch_code, test_code}
use Rattle.lowering.proofs.Sizes.{value-sized, branch-sized}
use Rattle.lowering.proofs.Flowing.{Flows, kinds_at, here-back, here-end, flows-none, flows-both, flows-given, flows-free, flows-one, flows-jump, flows-test}
use Rattle.lowering.proofs.Frames.{reverse_more}
use Rattle.lowering.proofs.Negated.{operands-fit, tested-fits}
use Rattle.lowering.proofs.Kinded.{scalar-type, array-type, Stated, load-does, load_element-does, push-does, push_boolean-does, prefix-does, operator-does}

-- ---- values
module _ (m : ModuleContents) (p : ProcedureContents) (whole : List Instruction) where
  -- after the left operand of a connective
  short-flows : (connective : Connective) (at n : ℕ) (right : ℕ → List Instruction) (kinds : List BaseType) → ((position : ℕ) → length (right position) ≡ n)
      → ((position : ℕ) → Flows m p whole position (right position) (Unit {0}) kinds (Boolean ∷ kinds))
      → Flows m p whole at (rest_of_short connective at n right) (Unit {0}) (Boolean ∷ kinds) (Boolean ∷ kinds)
  short-flows And at n right kinds size flows =
      flows-given m p whole ((kinds_at m p whole (at + 1 + n + 1) ≡ kinds) × (kinds_at m p whole (at + 1 + n + 1 + 1) ≡ Boolean ∷ kinds))
      (λ h g.
      let one = here-back m p whole (instruction.JumpIfFalse (at + 1 + n + 1) ∷ []) (right (at + 1) ++ instruction.Jump (at + 1 + n + 1 + 1) ∷ instruction.PushBoolean false ∷ [])
      at 1 (Boolean ∷ kinds) kinds refl refl h in
      let two = here-back m p whole (right (at + 1)) (instruction.Jump (at + 1 + n + 1 + 1) ∷ instruction.PushBoolean false ∷ [])
      (at + 1) n kinds (Boolean ∷ kinds) (size (at + 1)) (flows (at + 1)).passes one in
      let three = here-back m p whole (instruction.Jump (at + 1 + n + 1 + 1) ∷ []) (instruction.PushBoolean false ∷ []) (at + 1 + n) 1 (Boolean ∷ kinds) kinds refl refl two in
      (three.kinds_are, here-end m p whole (instruction.PushBoolean false ∷ []) (at + 1 + n + 1) 1 kinds (Boolean ∷ kinds) refl refl three))
      (flows-both m p whole 1 refl (flows-test m p whole (at + 1 + n + 1) (λ aims. aims.0))
      (flows-both m p whole n (size (at + 1)) (flows-free m p whole (flows (at + 1)))
      (flows-both m p whole 1 refl (flows-jump m p whole (at + 1 + n + 1 + 1) (λ aims. aims.1)) (flows-one m p whole (push_boolean-does m p false kinds)))))
  short-flows Or at n right kinds size flows =
      flows-given m p whole ((kinds_at m p whole (at + 1 + 1 + 1) ≡ kinds) × (kinds_at m p whole (at + 1 + 1 + 1 + n) ≡ Boolean ∷ kinds))
      (λ h g.
      let one = here-back m p whole (instruction.JumpIfFalse (at + 1 + 1 + 1) ∷ []) (instruction.PushBoolean true ∷ instruction.Jump (at + 1 + 1 + 1 + n) ∷ right (at + 1 + 1 + 1))
      at 1 (Boolean ∷ kinds) kinds refl refl h in
      let two = here-back m p whole (instruction.PushBoolean true ∷ []) (instruction.Jump (at + 1 + 1 + 1 + n) ∷ right (at + 1 + 1 + 1)) (at + 1) 1 kinds (Boolean ∷ kinds) refl refl one in
      let three = here-back m p whole (instruction.Jump (at + 1 + 1 + 1 + n) ∷ []) (right (at + 1 + 1 + 1)) (at + 1 + 1) 1 (Boolean ∷ kinds) kinds refl refl two in (
        three.kinds_are,
        here-end m p whole (right (at + 1 + 1 + 1)) (at + 1 + 1 + 1) n kinds (Boolean ∷ kinds) (size (at + 1 + 1 + 1)) (flows (at + 1 + 1 + 1)).passes three,
      ))
      (flows-both m p whole 1 refl (flows-test m p whole (at + 1 + 1 + 1) (λ aims. aims.0))
      (flows-both m p whole 1 refl (flows-one m p whole (push_boolean-does m p true kinds))
      (flows-both m p whole 1 refl (flows-jump m p whole (at + 1 + 1 + 1 + n) (λ aims. aims.1)) (flows-free m p whole (flows (at + 1 + 1 + 1))))))

module _ (program : Program) (procedure : ProcedureEntry) (m : ModuleContents) (p : ProcedureContents) (whole : List Instruction) (stated : Stated program procedure m p) where
  -- code whose value has another name for its base type
  as-base : {at : ℕ} {code : List Instruction} {kinds : List BaseType} (a b : BaseType) → a ≡ b → Flows m p whole at code (Unit {0}) kinds (a ∷ kinds)
      → Flows m p whole at code (Unit {0}) kinds (b ∷ kinds)
  as-base {at = at} {code = code} {kinds = kinds} a b same f = subst (λ c. Flows m p whole at code (Unit {0}) kinds (c ∷ kinds)) same f

  pub value-flows : (e : Expression) (wanted : BaseType) (at : ℕ) (kinds : List BaseType) → has_base program procedure wanted e ≡ true
      → Flows m p whole at (value_code at e) (Unit {0}) kinds (wanted ∷ kinds)
  value-flows (Integer n) wanted at kinds typed =
      as-base base.Int wanted (same_base_is base.Int wanted (and_parts (same_base base.Int wanted) _ typed).0) (flows-one m p whole (push-does m p (literal_number n) kinds))
  value-flows (Logical b) wanted at kinds typed =
      as-base base.Boolean wanted (same_base_is base.Boolean wanted typed) (flows-one m p whole (push_boolean-does m p b kinds))
  value-flows (Read x) wanted at kinds typed =
      let found = scalar-type (variable_type program procedure x) (same_base wanted) typed in
      as-base found.base wanted (sym (same_base_is wanted found.base found.passes))
      (flows-one m p whole (load-does m p x found.base kinds (stated.variables_there x ∙ found.is)))
  value-flows (Element array size index) wanted at kinds typed =
      let parts = and_parts (array_by (variable_type program procedure array) size (same_base wanted)) (has_base program procedure base.Int index) typed in
      let found = array-type (variable_type program procedure array) size (same_base wanted) parts.0 in
      as-base found.base wanted (sym (same_base_is wanted found.base found.passes))
      (flows-both m p whole (value_size index) (value-sized index at) (value-flows index base.Int at kinds parts.1)
      (flows-one m p whole (load_element-does m p array found.base found.count kinds (stated.variables_there array ∙ found.is))))
  value-flows (Unary sign e) wanted at kinds typed =
      let parts = and_parts (same_base (prefix_base sign) wanted) (has_base program procedure (prefix_base sign) e) typed in
      as-base (prefix_base sign) wanted (same_base_is (prefix_base sign) wanted parts.0)
      (flows-both m p whole (value_size e) (value-sized e at) (value-flows e (prefix_base sign) at kinds parts.1) (flows-one m p whole (prefix-does m p sign kinds)))
  value-flows (Binary op d e) wanted at kinds typed =
      let parts = operands-fit program procedure wanted op d e typed in
      let side = operand_base op in
      as-base (result_base op) wanted parts.result
      (flows-both m p whole (value_size d) (value-sized d at) (value-flows d side at kinds parts.left)
      (flows-both m p whole (value_size e) (value-sized e (at + value_size d)) (value-flows e side (at + value_size d) (side ∷ kinds) parts.right)
      (flows-one m p whole (operator-does m p op kinds))))
  value-flows (Short connective d e) wanted at kinds typed =
      let outer = and_parts (same_base base.Boolean wanted && has_base program procedure base.Boolean d) (has_base program procedure base.Boolean e) typed in
      let inner = and_parts (same_base base.Boolean wanted) (has_base program procedure base.Boolean d) outer.0 in
      as-base base.Boolean wanted (same_base_is base.Boolean wanted inner.0)
      (flows-both m p whole (value_size d) (value-sized d at) (value-flows d base.Boolean at kinds inner.1)
      (short-flows m p whole connective (at + value_size d) (value_size e) (λ position. value_code position e) kinds
      (λ position. value-sized e position) (λ position. value-flows e base.Boolean position kinds outer.1)))

  -- arguments, from the left: the last one is on the top
  pub arguments-flow : (parameters : List SlotEntry) (es : List Expression) (at : ℕ) (kinds : List BaseType) → arguments_match program procedure parameters es ≡ true
      → Flows m p whole at (arguments_code at es) (Unit {0}) kinds (reverse (map (λ (s : SlotEntry). s.base) parameters) ++ kinds)
  arguments-flow [] [] at kinds typed = flows-none m p whole
  arguments-flow [] (e ∷ rest) at kinds typed = absurd (let no : false ≡ true = typed in cc)
  arguments-flow (parameter ∷ parameters) [] at kinds typed = absurd (let no : false ≡ true = typed in cc)
  arguments-flow (parameter ∷ parameters) (e ∷ rest) at kinds typed =
      let parts = and_parts (has_base program procedure parameter.base e) (arguments_match program procedure parameters rest) typed in
      let kind = parameter.base in
      let others = map (λ (s : SlotEntry). s.base) parameters in
      subst (Flows m p whole at (arguments_code at (e ∷ rest)) (Unit {0}) kinds) (sym (reverse_more kind others kinds))
      (flows-both m p whole (value_size e) (value-sized e at) (value-flows e parameter.base at kinds parts.0)
      (arguments-flow parameters rest (at + value_size e) (kind ∷ kinds) parts.1))

  -- ---- conditions
  test-flows : (e : Expression) (wanted : Bool) (at target : ℕ) (kinds : List BaseType) → has_base program procedure base.Boolean e ≡ true
      → Flows m p whole at (test_code wanted at target e) (kinds_at m p whole target ≡ kinds) kinds kinds
  test-flows e wanted at target kinds typed =
      flows-both m p whole (value_size (tested wanted e)) (value-sized (tested wanted e) at)
      (flows-free m p whole (value-flows (tested wanted e) base.Boolean at kinds (tested-fits program procedure wanted e typed)))
      (flows-test m p whole target (λ aims. aims))

  either-at : (b : Bool) (first second : ℕ) (kinds : List BaseType) → kinds_at m p whole first ≡ kinds → kinds_at m p whole second ≡ kinds
      → kinds_at m p whole (if b then first else second) ≡ kinds
  either-at true first second kinds h k = h
  either-at false first second kinds h k = k

  pub branch-flows : (e : Expression) (wanted : Bool) (at target : ℕ) (kinds : List BaseType) → has_base program procedure base.Boolean e ≡ true
      → Flows m p whole at (branch_code wanted at target e) (kinds_at m p whole target ≡ kinds) kinds kinds
  branch-flows (Integer n) wanted at target kinds typed = test-flows (Integer n) wanted at target kinds typed
  branch-flows (Logical b) wanted at target kinds typed = test-flows (Logical b) wanted at target kinds typed
  branch-flows (Read x) wanted at target kinds typed = test-flows (Read x) wanted at target kinds typed
  branch-flows (Element array size index) wanted at target kinds typed = test-flows (Element array size index) wanted at target kinds typed
  branch-flows (Unary prefix.Negate e) wanted at target kinds typed = test-flows (Unary prefix.Negate e) wanted at target kinds typed
  branch-flows (Unary prefix.Not e) wanted at target kinds typed = branch-flows e (not wanted) at target kinds typed
  branch-flows (Binary op d e) wanted at target kinds typed = test-flows (Binary op d e) wanted at target kinds typed
  branch-flows (Short connective d e) wanted at target kinds typed =
      let left = branch_size (deciding connective) d in
      let beyond = at + left + branch_size wanted e in
      let decided = (if same_truth wanted (deciding connective) then target else beyond) in
      let outer = and_parts (same_base base.Boolean base.Boolean && has_base program procedure base.Boolean d) (has_base program procedure base.Boolean e) typed in
      let first = branch-flows d (deciding connective) at decided kinds outer.0 in
      let second = branch-flows e wanted (at + left) target kinds outer.1 in
      let first_code = branch_code (deciding connective) at decided d in
      let second_code = branch_code wanted (at + left) target e in
      let sized = branch-sized d (deciding connective) at decided in
      flows-given m p whole ((kinds_at m p whole decided ≡ kinds) × (kinds_at m p whole target ≡ kinds))
      (λ h arrives.
      let next = here-back m p whole first_code second_code at left kinds kinds sized first.passes h in
      let ends = here-end m p whole second_code (at + left) (branch_size wanted e) kinds kinds (branch-sized e wanted (at + left) target) second.passes next in
      (either-at (same_truth wanted (deciding connective)) target beyond kinds arrives ends, arrives))
      (flows-both m p whole left sized (flows-given m p whole (kinds_at m p whole decided ≡ kinds) (λ h aims. aims.0) first)
      (flows-given m p whole (kinds_at m p whole target ≡ kinds) (λ h aims. aims.1) second))
