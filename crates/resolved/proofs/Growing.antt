-- What fits a program and a procedure still fits others that have as much: the same channels, exceptions and signatures, and at least
-- the variables. So a body that was built while the tables still grew fits the whole program.
use Rattle.std.proofs.Common.{◌≡◌, refl, sym, ◌∙◌, ap, subst, ℕ, List, [], ◌∷◌, length, Bool, true, ◌&&◌}
use Rattle.std.proofs.lemmas.Bool.{and_from, and_parts}
use Rattle.std.specs.Prelude.{Option, Some, None, is_none, slice_get}
use Rattle.common.specs.declared.base_type.BaseType.{BaseType}
use Rattle.common.specs.declared.base_type.BaseType.TheVariants.{Int, Boolean}
use Rattle.resolved.specs.declared.expression.Variable.{Variable}
use Rattle.resolved.specs.declared.expression.Variable.TheVariants.{Local}
use Rattle.common.specs.declared.direction.Direction.{Direction}
use Rattle.common.specs.declared.direction.Direction.TheVariants.{Input, Output}
use Rattle.resolved.specs.declared.statement.Exit.{Exit}
use Rattle.resolved.specs.declared.statement.Exit.TheVariants.{Normal, Return, Break, Continue, Throw}
use Rattle.resolved.specs.Tree.{Expression, Integer, Logical, Read, Element, Unary, Binary, Short, Statement, Placed, Assign, Clear, Store, Receive, Send, Call, If, While, Leave, ReturnWith, Try, Nested, Block, Empty, Then, Handlers, NoMore, Catch}
use Rattle.resolved.specs.Program.{Program, ProcedureEntry, ResultEntry, SlotEntry}
use Rattle.resolved.specs.WellFormed.{VariableType, variable_type, scalar_by, has_length, array_by, is_array, same_base, prefix_base, operand_base, result_base, has_base, has_result, target_by, channel_is, arguments_match, parameters_of, call_matches, is_exception, may_leave_by, statement_fits, block_fits, handlers_fit}

-- a program and a procedure that have as much as others
pub record HasAsMuch (program : Program) (procedure : ProcedureEntry) (more : Program) (whole : ProcedureEntry) : Type 0 where
  pub variables : (x : Variable) (type : VariableType) → variable_type program procedure x ≡ Some type → variable_type more whole x ≡ Some type
  pub channels : (channel : ℕ) (direction : Direction) → channel_is (slice_get program.channels channel) direction ≡ true
      → channel_is (slice_get more.channels channel) direction ≡ true
  pub exceptions : (exception : ℕ) → is_exception program exception ≡ true → is_exception more exception ≡ true
  pub procedures : (f : ℕ) (callee : ProcedureEntry) → slice_get program.procedures f ≡ Some callee
      → (there : ProcedureEntry) × (slice_get more.procedures f ≡ Some there) × (parameters_of there ≡ parameters_of callee)
      × (there.result ≡ callee.result)
  pub result : whole.result ≡ procedure.result

module _ (program : Program) (procedure : ProcedureEntry) (more : Program) (whole : ProcedureEntry) (as_much : HasAsMuch program procedure more whole) where
  scalar_kept : (x : Variable) (test larger : BaseType → Bool) → ((base : BaseType) → test base ≡ true → larger base ≡ true)
      → scalar_by (variable_type program procedure x) test ≡ true → scalar_by (variable_type more whole x) larger ≡ true
  scalar_kept x test larger keep h = go (variable_type program procedure x) refl h
    where
      go : (found : Option VariableType) → variable_type program procedure x ≡ found → scalar_by found test ≡ true
          → scalar_by (variable_type more whole x) larger ≡ true
      go None e h = cc
      go (Some type) e h =
          let parts : (is_none type.size ≡ true) × (test type.base ≡ true) = and_parts (is_none type.size) _ h in
          subst (λ found. scalar_by found larger ≡ true) (sym (as_much.variables x type e))
          (and_from (is_none type.size) (larger type.base) parts.0 (keep type.base parts.1))

  array_kept : (array : Variable) (length : ℕ) (test larger : BaseType → Bool) → ((base : BaseType) → test base ≡ true → larger base ≡ true)
      → array_by (variable_type program procedure array) length test ≡ true → array_by (variable_type more whole array) length larger ≡ true
  array_kept array length test larger keep h = go (variable_type program procedure array) refl h
    where
      go : (found : Option VariableType) → variable_type program procedure array ≡ found → array_by found length test ≡ true
          → array_by (variable_type more whole array) length larger ≡ true
      go None e h = cc
      go (Some type) e h =
          let parts : (has_length type.size length ≡ true) × (test type.base ≡ true) = and_parts (has_length type.size length) _ h in
          subst (λ found. array_by found length larger ≡ true) (sym (as_much.variables array type e))
          (and_from (has_length type.size length) (larger type.base) parts.0 (keep type.base parts.1))

  pub has_base_kept : (base : BaseType) (e : Expression) → has_base program procedure base e ≡ true → has_base more whole base e ≡ true
  has_base_kept base (Integer n) h = h
  has_base_kept base (Logical b) h = h
  has_base_kept base (Read x) h = scalar_kept x (same_base base) (same_base base) (λ b k. k) h
  has_base_kept base (Element array length index) h =
      let parts : (array_by (variable_type program procedure array) length (same_base base) ≡ true)
      × (has_base program procedure Int index ≡ true) =
      and_parts (array_by (variable_type program procedure array) length (same_base base)) _ h in
      and_from (array_by (variable_type more whole array) length (same_base base)) (has_base more whole Int index)
      (array_kept array length (same_base base) (same_base base) (λ b k. k) parts.0) (has_base_kept Int index parts.1)
  has_base_kept base (Unary prefix e) h =
      let parts : (same_base (prefix_base prefix) base ≡ true) × (has_base program procedure (prefix_base prefix) e ≡ true) =
      and_parts (same_base (prefix_base prefix) base) _ h in
      and_from (same_base (prefix_base prefix) base) (has_base more whole (prefix_base prefix) e)
      parts.0 (has_base_kept (prefix_base prefix) e parts.1)
  has_base_kept base (Binary operator d e) h =
      let outer : (same_base (result_base operator) base && has_base program procedure (operand_base operator) d ≡ true)
      × (has_base program procedure (operand_base operator) e ≡ true) =
      and_parts (same_base (result_base operator) base && has_base program procedure (operand_base operator) d) _ h in
      let inner : (same_base (result_base operator) base ≡ true) × (has_base program procedure (operand_base operator) d ≡ true) =
      and_parts (same_base (result_base operator) base) _ outer.0 in
      and_from (same_base (result_base operator) base && has_base more whole (operand_base operator) d) (has_base more whole (operand_base operator) e)
      (and_from (same_base (result_base operator) base) (has_base more whole (operand_base operator) d)
      inner.0 (has_base_kept (operand_base operator) d inner.1))
      (has_base_kept (operand_base operator) e outer.1)
  has_base_kept base (Short connective d e) h =
      let outer : (same_base Boolean base && has_base program procedure Boolean d ≡ true) × (has_base program procedure Boolean e ≡ true) =
      and_parts (same_base Boolean base && has_base program procedure Boolean d) _ h in
      let inner : (same_base Boolean base ≡ true) × (has_base program procedure Boolean d ≡ true) = and_parts (same_base Boolean base) _ outer.0 in
      and_from (same_base Boolean base && has_base more whole Boolean d) (has_base more whole Boolean e)
      (and_from (same_base Boolean base) (has_base more whole Boolean d) inner.0 (has_base_kept Boolean d inner.1))
      (has_base_kept Boolean e outer.1)

  arguments_kept : (parameters : List SlotEntry) (arguments : List Expression)
      → arguments_match program procedure parameters arguments ≡ true → arguments_match more whole parameters arguments ≡ true
  arguments_kept [] [] h = refl
  arguments_kept [] (e ∷ rest) h = cc
  arguments_kept (parameter ∷ parameters) [] h = cc
  arguments_kept (parameter ∷ parameters) (e ∷ rest) h =
      let parts : (has_base program procedure parameter.base e ≡ true) × (arguments_match program procedure parameters rest ≡ true) =
      and_parts (has_base program procedure parameter.base e) _ h in
      and_from (has_base more whole parameter.base e) (arguments_match more whole parameters rest)
      (has_base_kept parameter.base e parts.0) (arguments_kept parameters rest parts.1)

  target_kept : (target : Option Variable) (test : BaseType → Bool) → target_by program procedure target test ≡ true
      → target_by more whole target test ≡ true
  target_kept None test h = refl
  target_kept (Some x) test h = scalar_kept x test test (λ b k. k) h

  call_kept : (f : ℕ) (callee : Option ProcedureEntry) (arguments : List Expression) (target : Option Variable)
      → slice_get program.procedures f ≡ callee → call_matches program procedure callee arguments target ≡ true
      → call_matches more whole (slice_get more.procedures f) arguments target ≡ true
  call_kept f None arguments target e h = cc
  call_kept f (Some callee) arguments target e h =
      let (there, found, same, result) = as_much.procedures f callee e in
      let parts : (arguments_match program procedure (parameters_of callee) arguments ≡ true)
      × (target_by program procedure target (λ base. has_result callee.result (same_base base)) ≡ true) =
      and_parts (arguments_match program procedure (parameters_of callee) arguments) _ h in
      subst (λ entry. call_matches more whole entry arguments target ≡ true) (sym found)
      (and_from (arguments_match more whole (parameters_of there) arguments)
      (target_by more whole target (λ base. has_result there.result (same_base base)))
      (subst (λ parameters. arguments_match more whole parameters arguments ≡ true) (sym same)
      (arguments_kept (parameters_of callee) arguments parts.0))
      (subst (λ entry. target_by more whole target (λ base. has_result entry (same_base base)) ≡ true) (sym result)
      (target_kept target (λ base. has_result callee.result (same_base base)) parts.1)))

  array_there : (x : Variable) → is_array (variable_type program procedure x) ≡ true → is_array (variable_type more whole x) ≡ true
  array_there x h = go (variable_type program procedure x) refl h
    where
      go : (found : Option VariableType) → variable_type program procedure x ≡ found → is_array found ≡ true
          → is_array (variable_type more whole x) ≡ true
      go None e h = cc
      go (Some type) e h = subst (λ found. is_array found ≡ true) (sym (as_much.variables x type e)) h

  exit_kept : (exit : Exit) → may_leave_by program exit ≡ true → may_leave_by more exit ≡ true
  exit_kept Normal h = cc
  exit_kept Return h = cc
  exit_kept Break h = refl
  exit_kept Continue h = refl
  exit_kept (Throw exception) h = as_much.exceptions exception h

  returned_kept : (result : Option ResultEntry) (e : Expression) → has_result result (λ base. has_base program procedure base e) ≡ true
      → has_result result (λ base. has_base more whole base e) ≡ true
  returned_kept None e h = h
  returned_kept (Some entry) e h = has_base_kept entry.base e h

  mutual
    pub statement_fits_kept : (statement : Statement) → statement_fits program procedure statement ≡ true
        → statement_fits more whole statement ≡ true
    statement_fits_kept (Placed at (Assign x e)) h = scalar_kept x _ _ (λ base k. has_base_kept base e k) h
    statement_fits_kept (Placed at (Clear slot)) h = array_there (Local slot) h
    statement_fits_kept (Placed at (Store array length index e)) h =
        let parts : (array_by (variable_type program procedure array) length (λ base. has_base program procedure base e) ≡ true)
        × (has_base program procedure Int index ≡ true) =
        and_parts (array_by (variable_type program procedure array) length (λ base. has_base program procedure base e)) _ h in
        and_from (array_by (variable_type more whole array) length (λ base. has_base more whole base e)) (has_base more whole Int index)
        (array_kept array length (λ base. has_base program procedure base e) (λ base. has_base more whole base e)
        (λ base k. has_base_kept base e k) parts.0)
        (has_base_kept Int index parts.1)
    statement_fits_kept (Placed at (Receive channel target)) h =
        let parts : (channel_is (slice_get program.channels channel) Input ≡ true) × (target_by program procedure target (same_base Int) ≡ true) =
        and_parts (channel_is (slice_get program.channels channel) Input) _ h in
        and_from (channel_is (slice_get more.channels channel) Input) (target_by more whole target (same_base Int))
        (as_much.channels channel Input parts.0) (target_kept target (same_base Int) parts.1)
    statement_fits_kept (Placed at (Send channel e)) h =
        let parts : (channel_is (slice_get program.channels channel) Output ≡ true) × (has_base program procedure Int e ≡ true) =
        and_parts (channel_is (slice_get program.channels channel) Output) _ h in
        and_from (channel_is (slice_get more.channels channel) Output) (has_base more whole Int e)
        (as_much.channels channel Output parts.0) (has_base_kept Int e parts.1)
    statement_fits_kept (Placed at (Call f arguments target)) h = call_kept f (slice_get program.procedures f) arguments target refl h
    statement_fits_kept (Placed at (If e then_block else_block)) h =
        let outer : (has_base program procedure Boolean e && block_fits program procedure then_block ≡ true)
        × (block_fits program procedure else_block ≡ true) =
        and_parts (has_base program procedure Boolean e && block_fits program procedure then_block) _ h in
        let inner : (has_base program procedure Boolean e ≡ true) × (block_fits program procedure then_block ≡ true) =
        and_parts (has_base program procedure Boolean e) _ outer.0 in
        and_from (has_base more whole Boolean e && block_fits more whole then_block) (block_fits more whole else_block)
        (and_from (has_base more whole Boolean e) (block_fits more whole then_block)
        (has_base_kept Boolean e inner.0) (block_fits_kept then_block inner.1))
        (block_fits_kept else_block outer.1)
    statement_fits_kept (Placed at (While loop e body)) h =
        let parts : (has_base program procedure Boolean e ≡ true) × (block_fits program procedure body ≡ true) =
        and_parts (has_base program procedure Boolean e) _ h in
        and_from (has_base more whole Boolean e) (block_fits more whole body) (has_base_kept Boolean e parts.0) (block_fits_kept body parts.1)
    statement_fits_kept (Placed at (Leave exit)) h = exit_kept exit h
    statement_fits_kept (Placed at (ReturnWith None)) h = ap (λ (result : Option ResultEntry). is_none result) as_much.result ∙ h
    statement_fits_kept (Placed at (ReturnWith (Some e))) h =
        ap (λ result. has_result result (λ base. has_base more whole base e)) as_much.result ∙ returned_kept procedure.result e h
    statement_fits_kept (Placed at (Try block handlers)) h =
        let parts : (block_fits program procedure block ≡ true) × (handlers_fit program procedure handlers ≡ true) =
        and_parts (block_fits program procedure block) _ h in
        and_from (block_fits more whole block) (handlers_fit more whole handlers) (block_fits_kept block parts.0) (handlers_fit_kept handlers parts.1)
    statement_fits_kept (Placed at (Nested block)) h = block_fits_kept block h

    pub block_fits_kept : (block : Block) → block_fits program procedure block ≡ true → block_fits more whole block ≡ true
    block_fits_kept Empty h = refl
    block_fits_kept (Then statement rest) h =
        let parts : (statement_fits program procedure statement ≡ true) × (block_fits program procedure rest ≡ true) =
        and_parts (statement_fits program procedure statement) _ h in
        and_from (statement_fits more whole statement) (block_fits more whole rest)
        (statement_fits_kept statement parts.0) (block_fits_kept rest parts.1)

    pub handlers_fit_kept : (handlers : Handlers) → handlers_fit program procedure handlers ≡ true → handlers_fit more whole handlers ≡ true
    handlers_fit_kept NoMore h = refl
    handlers_fit_kept (Catch at handled body rest) h =
        let outer : (is_exception program handled && block_fits program procedure body ≡ true) × (handlers_fit program procedure rest ≡ true) =
        and_parts (is_exception program handled && block_fits program procedure body) _ h in
        let inner : (is_exception program handled ≡ true) × (block_fits program procedure body ≡ true) =
        and_parts (is_exception program handled) _ outer.0 in
        and_from (is_exception more handled && block_fits more whole body) (handlers_fit more whole rest)
        (and_from (is_exception more handled) (block_fits more whole body) (as_much.exceptions handled inner.0) (block_fits_kept body inner.1))
        (handlers_fit_kept rest outer.1)
