-- Code of every statement does what the statement does, where calls do what they do.
use Rattle.std.proofs.Common.{◌≡◌, ℕ, ◌+◌, true, false, List, [], ◌∷◌, ◌++◌, refl, sym, ap, ◌∙◌, subst, arith, slice_get}
use Rattle.std.proofs.lemmas.Bool.{and_parts}
use Rattle.std.specs.Prelude.{Option, Some, None}
use Rattle.common.specs.declared.value.Value.{Value}
use Rattle.resolved.specs.declared.expression.Variable.{Variable}
use Rattle.resolved.specs.declared.statement.Exit.TheVariants.{Normal, Return, Break, Continue, Throw}
use Rattle.resolved.specs.Tree.{Expression}
use Rattle.resolved.specs.Program.{ProcedureEntry, SlotEntry, ResultEntry, procedure_at}
use Rattle.resolved.specs.SourceState as source
use Rattle.resolved.specs.SourceState.{value_of, values_of, assigned}
use Rattle.common.specs.Values.{kind_of}
use Rattle.resolved.specs.Value.{Evaluated, Yields, Raises, then_with}
use Rattle.resolved.specs.Meaning.{Outcome, Ended, Stopped, Deep, OutOfFuel, Calls, evaluated, returned_to}
use Rattle.resolved.specs.WellFormed.{has_base, has_result, same_base, target_by, call_matches, arguments_match, parameters_of}
use Rattle.resolved.specs.Kinds.{StateFits, ArgumentsFit}
use Rattle.resolved.proofs.WellFormedParts.{procedure_at_is}
use Rattle.resolved.proofs.Sound.Values.{same_base_is, values_match, GivesMatch}
use Rattle.common.specs.declared.value.Value.{Value as Cell}
use Rattle.modules.specs.declared.instruction.Instruction.{Instruction}
use Rattle.modules.specs.declared.instruction.Instruction.TheVariants as instruction
use Rattle.modules.specs.Machine as machine
use Rattle.modules.specs.Machine.{Machine}
use Rattle.lowering.specs.Expressions.{value_size, value_code, arguments_size, arguments_code}
use Rattle.lowering.specs.Code.{Loop, result_size, result_code}
use Rattle.lowering.proofs.CodePieces.{Stands, stands-front, stands-back}
use Rattle.lowering.proofs.Sizes.{value-sized, arguments-sized}
use Rattle.lowering.proofs.Steps.{Leads, Waits, leads-through, waits-through}
use Rattle.lowering.proofs.States.{Setting, position, cell_of, thrown_to}
use Rattle.lowering.proofs.SingleSteps.{does, onward}
use Rattle.lowering.proofs.Values.{Finds, finds-part, ValueRuns}
use Rattle.lowering.proofs.Expressions.{value-runs}
use Rattle.lowering.proofs.Outcomes.{Runs, runs-at}
use Rattle.lowering.proofs.Simple.{stores-scalar}

-- ---- arguments

-- the operands with values pushed one after another
abbrev pub pushed : List Value → List Cell → List Cell
pushed [] operands = operands
pushed (v ∷ rest) operands = pushed rest (cell_of v ∷ operands)

abbrev pub ArgumentsRun : Setting → (ℕ → Option ℕ) → List Cell → Machine → (end : ℕ) → source.SourceState → Evaluated (List Value) → Type 0
ArgumentsRun g h operands from end s (Yields vs) = Leads g.p from (position g end (pushed vs operands) s)
ArgumentsRun g h operands from end s (Raises exception) = Leads g.p from (thrown_to g (h exception) exception s)

more-run : (g : Setting) (h : ℕ → Option ℕ) (operands : List Cell) (from : Machine) (mid end : ℕ) (s : source.SourceState) (first : Evaluated Value) (rest : Evaluated (List Value))
    → ValueRuns g h operands from mid s first → ((v : Value) → ArgumentsRun g h (cell_of v ∷ operands) (position g mid (cell_of v ∷ operands) s) end s rest)
    → ArgumentsRun g h operands from end s (then_with first (λ v. then_with rest (λ vs. Yields (v ∷ vs))))
more-run g h operands from mid end s (Yields v) (Yields vs) run each = leads-through g.p from _ _ run (each v)
more-run g h operands from mid end s (Yields v) (Raises exception) run each = leads-through g.p from _ _ run (each v)
more-run g h operands from mid end s (Raises exception) rest run each = run

module _ (g : Setting) (h : ℕ → Option ℕ) (s : source.SourceState) (fit : StateFits g.program g.procedure s) where
  pub arguments-run : (parameters : List SlotEntry) (es : List Expression) (at : ℕ) (operands : List Cell) → arguments_match g.program g.procedure parameters es ≡ true
      → Stands g.code (arguments_code at es) at → Finds g at (arguments_size es) h
      → ArgumentsRun g h operands (position g at operands s) (at + arguments_size es) s (values_of s es)
  arguments-run [] [] at operands matches stands finds = record { steps = 0; reached = ap (λ (q : ℕ). position g q operands s) (omega arith) }
  arguments-run [] (e ∷ es) at operands matches stands finds = absurd (let no : false ≡ true = matches in cc)
  arguments-run (parameter ∷ parameters) [] at operands matches stands finds = absurd (let no : false ≡ true = matches in cc)
  arguments-run (parameter ∷ parameters) (e ∷ es) at operands matches stands finds =
      let parts = and_parts (has_base g.program g.procedure parameter.base e) (arguments_match g.program g.procedure parameters es) matches in
      let n = value_size e in
      let m = arguments_size es in
      let mid = at + n in
      let end : mid + m ≡ at + (n + m) = omega arith in
      subst (λ (q : ℕ). ArgumentsRun g h operands (position g at operands s) q s (values_of s (e ∷ es))) end
      (more-run g h operands (position g at operands s) mid (mid + m) s (value_of s e) (values_of s es)
      (value-runs g h s fit e parameter.base at operands parts.0 (stands-front g.code (value_code at e) (arguments_code mid es) at stands)
      (finds-part g at (n + m) h at n (omega arith) (omega arith) finds))
      (λ v. arguments-run parameters es mid (cell_of v ∷ operands) parts.1
      (stands-back g.code (value_code at e) (arguments_code mid es) at n (value-sized e at) stands)
      (finds-part g at (n + m) h mid m (omega arith) (omega arith) finds)))

-- ---- calls

-- a call comes back with the value of the procedure, if it has one, on the operands
abbrev pub Called : Setting → (k : ℕ) → Machine → (at : ℕ) → Option ResultEntry → Outcome → Type 0
Called g k from at None (Ended Normal None t) = Leads g.p from (position g (at + 1) [] t)
Called g k from at None (Ended Normal (Some v) t) = ⊥
Called g k from at (Some entry) (Ended Normal None t) = ⊥
Called g k from at (Some entry) (Ended Normal (Some v) t) = (kind_of v ≡ entry.base) × Leads g.p from (position g (at + 1) (cell_of v ∷ []) t)
Called g k from at result (Ended Return returned t) = ⊥
Called g k from at result (Ended Break returned t) = ⊥
Called g k from at result (Ended Continue returned t) = ⊥
Called g k from at result (Ended (Throw exception) returned t) = Leads g.p from (thrown_to g (g.p.find g.number at exception) exception t)
Called g k from at result (Stopped Deep t) = Leads g.p from (machine.Ended machine.Deep t.sent)
Called g k from at result (Stopped OutOfFuel t) = Waits g.p k from t.sent

-- each call in a setting does what calls do
abbrev pub CallsRun : Setting → Calls → (k : ℕ) → Type 0
CallsRun g calls k = (f at : ℕ) (callee : ProcedureEntry) (more : List Instruction) (vs : List Value) (s : source.SourceState)
    → slice_get g.program.procedures f ≡ Some callee → ArgumentsFit (parameters_of callee) vs → StateFits g.program g.procedure s
    → Stands g.code (instruction.Call f ∷ more) at → Called g k (position g at (pushed vs []) s) at callee.result (calls f vs s)

module _ (g : Setting) (loop : Loop) (h : ℕ → Option ℕ) (k : ℕ) where
  -- after the call its value is stored or dropped
  result-runs : (result : Option ResultEntry) (target : Option Variable) (from : Machine) (at : ℕ) (o : Outcome)
      → target_by g.program g.procedure target (λ b. has_result result (same_base b)) ≡ true
      → ((exception : ℕ) → g.p.find g.number at exception ≡ h exception) → Stands g.code (result_code result target) (at + 1)
      → Called g k from at result o → Runs g loop h k from (at + (1 + result_size result)) (returned_to target o)
  result-runs None None from at (Ended Normal None t) typed finds stands run =
      let end : at + 1 ≡ at + (1 + 0) = omega arith in subst (λ (q : ℕ). Leads g.p from (position g q [] t)) end run
  result-runs None (Some x) from at (Ended Normal None t) typed finds stands run =
      let end : at + 1 ≡ at + (1 + 0) = omega arith in subst (λ (q : ℕ). Leads g.p from (position g q [] t)) end run
  result-runs (Some entry) None from at (Ended Normal (Some v) t) typed finds stands run =
      let end : at + 1 + 1 ≡ at + (1 + 1) = omega arith in
      subst (λ (q : ℕ). Leads g.p from (position g q [] t)) end
      (leads-through g.p from _ _ run.1 (does g [] instruction.Pop (at + 1) (cell_of v ∷ []) t _ stands (onward g (at + 1) (cell_of v ∷ []) [] t)))
  result-runs (Some entry) (Some x) from at (Ended Normal (Some v) t) typed finds stands run =
      let end : at + 1 + 1 ≡ at + (1 + 1) = omega arith in
      subst (λ (q : ℕ). Leads g.p from (position g q [] (assigned t x v))) end
      (leads-through g.p from _ _ run.1 (stores-scalar g loop h k t x v (at + 1) [] [] (λ b. has_result (Some entry) (same_base b)) typed
      (λ b e. run.0 ∙ sym (same_base_is b entry.base e)) stands))
  result-runs None target from at (Ended Normal (Some v) t) typed finds stands run = absurd run
  result-runs (Some entry) target from at (Ended Normal None t) typed finds stands run = absurd run
  result-runs result target from at (Ended Return returned t) typed finds stands run = absurd run
  result-runs result target from at (Ended Break returned t) typed finds stands run = absurd run
  result-runs result target from at (Ended Continue returned t) typed finds stands run = absurd run
  result-runs result target from at (Ended (Throw exception) returned t) typed finds stands run =
      subst (λ (o : Option ℕ). Leads g.p from (thrown_to g o exception t)) (finds exception) run
  result-runs result target from at (Stopped Deep t) typed finds stands run = run
  result-runs result target from at (Stopped OutOfFuel t) typed finds stands run = run

  pub called-from : (from mid : Machine) (at : ℕ) (result : Option ResultEntry) (o : Outcome) → Leads g.p from mid → Called g k mid at result o → Called g k from at result o
  called-from from mid at None (Ended Normal None t) first run = leads-through g.p from mid _ first run
  called-from from mid at None (Ended Normal (Some v) t) first run = run
  called-from from mid at (Some entry) (Ended Normal None t) first run = run
  called-from from mid at (Some entry) (Ended Normal (Some v) t) first run = (run.0, leads-through g.p from mid _ first run.1)
  called-from from mid at result (Ended Return returned t) first run = absurd run
  called-from from mid at result (Ended Break returned t) first run = absurd run
  called-from from mid at result (Ended Continue returned t) first run = absurd run
  called-from from mid at result (Ended (Throw exception) returned t) first run = leads-through g.p from mid _ first run
  called-from from mid at result (Stopped Deep t) first run = leads-through g.p from mid _ first run
  called-from from mid at result (Stopped OutOfFuel t) first run = waits-through g.p k from mid t.sent first run

  pub call-runs : (calls : Calls) → CallsRun g calls k → (f at : ℕ) (callee : Option ProcedureEntry) (arguments : List Expression) (target : Option Variable) (s : source.SourceState)
      → StateFits g.program g.procedure s → slice_get g.program.procedures f ≡ callee → call_matches g.program g.procedure callee arguments target ≡ true
      → Stands g.code (arguments_code at arguments ++ instruction.Call f ∷ result_code (procedure_at g.program f).result target) at
      → Finds g at (arguments_size arguments + (1 + result_size (procedure_at g.program f).result)) h
      → Runs g loop h k (position g at [] s) (at + (arguments_size arguments + (1 + result_size (procedure_at g.program f).result)))
      (evaluated (values_of s arguments) s (λ vs. returned_to target (calls f vs s)))
  call-runs calls run f at None arguments target s fit there matches stands finds = absurd (let no : false ≡ true = matches in cc)
  call-runs calls run f at (Some callee) arguments target s fit there matches stands finds =
      let parts = and_parts (arguments_match g.program g.procedure (parameters_of callee) arguments) (target_by g.program g.procedure target (λ b. has_result callee.result (same_base b))) matches in
      let n = arguments_size arguments in
      let is : procedure_at g.program f ≡ callee = procedure_at_is g.program f callee there in
      let beyond = instruction.Call f ∷ result_code (procedure_at g.program f).result target in
      go parts.1 (subst (λ (p : ProcedureEntry). Stands g.code (instruction.Call f ∷ result_code p.result target) (at + n)) is
      (stands-back g.code (arguments_code at arguments) beyond at n (arguments-sized arguments at) stands))
      (subst (λ (p : ProcedureEntry). Finds g at (n + (1 + result_size p.result)) h) is finds) is
      (values_of s arguments) (values_match g.program g.procedure s fit (parameters_of callee) arguments parts.0)
      (arguments-run g h s fit (parameters_of callee) arguments at [] parts.0 (stands-front g.code (arguments_code at arguments) beyond at stands)
      (finds-part g at (n + (1 + result_size (procedure_at g.program f).result)) h at n (omega arith) (omega arith) finds))
    where
      go : target_by g.program g.procedure target (λ b. has_result callee.result (same_base b)) ≡ true
          → Stands g.code (instruction.Call f ∷ result_code callee.result target) (at + arguments_size arguments)
          → Finds g at (arguments_size arguments + (1 + result_size callee.result)) h → procedure_at g.program f ≡ callee
          → (o : Evaluated (List Value)) → GivesMatch (parameters_of callee) o
          → ArgumentsRun g h [] (position g at [] s) (at + arguments_size arguments) s o
          → Runs g loop h k (position g at [] s) (at + (arguments_size arguments + (1 + result_size (procedure_at g.program f).result))) (evaluated o s (λ vs. returned_to target (calls f vs s)))
      go typed here all is (Raises exception) given first = first
      go typed here all is (Yields vs) given first =
          let mid = at + arguments_size arguments in
          let called : Called g k (position g at [] s) mid callee.result (calls f vs s) =
          called-from (position g at [] s) (position g mid (pushed vs []) s) mid callee.result (calls f vs s) first
          (run f mid callee (result_code callee.result target) vs s there given fit here) in
          let end : mid + (1 + result_size callee.result) ≡ at + (arguments_size arguments + (1 + result_size (procedure_at g.program f).result)) =
          omega (arith, ap (λ (p : ProcedureEntry). result_size p.result) is) in
          runs-at g loop h k (position g at [] s) (mid + (1 + result_size callee.result)) (at + (arguments_size arguments + (1 + result_size (procedure_at g.program f).result))) (returned_to target (calls f vs s)) end
          (result-runs callee.result target (position g at [] s) mid (calls f vs s) typed
          (all.finds mid (omega arith) (omega arith))
          (stands-back g.code (instruction.Call f ∷ []) (result_code callee.result target) mid 1 refl here) called)
