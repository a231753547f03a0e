-- In a procedure with a value no statement returns without one.
use Rattle.std.proofs.Common.{◌≡◌, sym, ap, ◌∙◌, ℕ, zero, suc, List, [], ◌∷◌, Bool, true, false, ◌&&◌, ◌==◌}
use Rattle.std.specs.Prelude.{Option, Some, None, is_none, if◌then◌else◌, ℤ}
use Rattle.std.proofs.lemmas.Bool.{and_parts}
use Rattle.common.specs.declared.value.Value.{Value}
use Rattle.common.specs.declared.base_type.BaseType.TheVariants.{Boolean}
use Rattle.resolved.specs.declared.expression.Variable.{Variable}
use Rattle.resolved.specs.declared.statement.Exit.TheVariants.{Normal, Return, Break, Continue, Throw}
use Rattle.resolved.specs.Tree.{Statement, Placed, Assign, Clear, Store, Receive, Send, Call, If, While, Leave, ReturnWith, Try, Nested, Block, Empty, Then, Handlers, NoMore, Catch}
use Rattle.resolved.specs.Program.{Program, ProcedureEntry, ResultEntry}
use Rattle.common.specs.Values.{truth_in}
use Rattle.resolved.specs.Value.{Evaluated, Yields, Raises, checked_index}
use Rattle.resolved.specs.SourceState.{SourceState, value_of, values_of}
use Rattle.resolved.specs.Meaning.{Outcome, Ended, Stopped, after, evaluated, looped, fuel, caught, received, leaving, returned_to, calls_with, statement_meaning, block_meaning, handlers_meaning}
use Rattle.resolved.specs.WellFormed.{has_base, statement_fits, block_fits, handlers_fit, is_exception}

-- whatever is returned is a value
abbrev pub ReturnsSome : Outcome → Type 0
ReturnsSome (Ended Normal returned s) = Unit {0}
ReturnsSome (Ended Return None s) = ⊥
ReturnsSome (Ended Return (Some v) s) = Unit {0}
ReturnsSome (Ended Break returned s) = Unit {0}
ReturnsSome (Ended Continue returned s) = Unit {0}
ReturnsSome (Ended (Throw exception) returned s) = Unit {0}
ReturnsSome (Stopped stop s) = Unit {0}

after_some : (outcome : Outcome) (next : SourceState → Outcome) → ReturnsSome outcome → ((s : SourceState) → ReturnsSome (next s)) → ReturnsSome (after outcome next)
after_some (Ended Normal returned s) next h each = each s
after_some (Ended Return returned s) next h each = h
after_some (Ended Break returned s) next h each = tt
after_some (Ended Continue returned s) next h each = tt
after_some (Ended (Throw exception) returned s) next h each = tt
after_some (Stopped stop s) next h each = tt

evaluated_some : {A : Type 0} (first : Evaluated A) (s : SourceState) (next : A → Outcome) → ((v : A) → ReturnsSome (next v)) → ReturnsSome (evaluated first s next)
evaluated_some (Yields v) s next each = each v
evaluated_some (Raises exception) s next each = tt

either_some : (test : Bool) (first second : Outcome) → ReturnsSome first → ReturnsSome second → ReturnsSome (if test then first else second)
either_some true first second h k = h
either_some false first second h k = k

looped_some : (outcome : Outcome) (again : SourceState → Outcome) → ReturnsSome outcome → ((s : SourceState) → ReturnsSome (again s)) → ReturnsSome (looped outcome again)
looped_some (Ended Normal returned s) again h each = each s
looped_some (Ended Return returned s) again h each = h
looped_some (Ended Break returned s) again h each = tt
looped_some (Ended Continue returned s) again h each = each s
looped_some (Ended (Throw exception) returned s) again h each = tt
looped_some (Stopped stop s) again h each = tt

fuel_some : (k : ℕ) (condition : SourceState → Evaluated Value) (body : SourceState → Outcome) → ((s : SourceState) → ReturnsSome (body s)) → (s : SourceState) →
    ReturnsSome (fuel k condition body s)
fuel_some zero condition body each s = evaluated_some (condition s) s _ (λ v. either_some (truth_in v) _ _ tt tt)
fuel_some (suc k) condition body each s =
    evaluated_some (condition s) s _ (λ v. either_some (truth_in v) _ _ (looped_some (body s) _ (each s) (fuel_some k condition body each)) tt)

caught_some : (outcome : Outcome) (handle : ℕ → SourceState → Outcome) → ReturnsSome outcome → ((exception : ℕ) (s : SourceState) → ReturnsSome (handle exception s)) →
    ReturnsSome (caught outcome handle)
caught_some (Ended Normal returned s) handle h each = tt
caught_some (Ended Return returned s) handle h each = h
caught_some (Ended Break returned s) handle h each = tt
caught_some (Ended Continue returned s) handle h each = tt
caught_some (Ended (Throw exception) returned s) handle h each = each exception s
caught_some (Stopped stop s) handle h each = tt

received_some : (numbers : List ℤ) (channel : ℕ) (target : Option Variable) (s : SourceState) → ReturnsSome (received numbers channel target s)
received_some [] channel target s = tt
received_some (z ∷ rest) channel target s = tt

returned_to_some : (target : Option Variable) (outcome : Outcome) → ReturnsSome outcome → ReturnsSome (returned_to target outcome)
returned_to_some target (Ended Normal returned s) h = tt
returned_to_some target (Ended Return returned s) h = h
returned_to_some target (Ended Break returned s) h = tt
returned_to_some target (Ended Continue returned s) h = tt
returned_to_some target (Ended (Throw exception) returned s) h = tt
returned_to_some target (Stopped stop s) h = tt

-- a return is the normal exit of its call
leaving_some : (back : SourceState → SourceState) (outcome : Outcome) → ReturnsSome (leaving back outcome)
leaving_some back (Ended Normal returned s) = tt
leaving_some back (Ended Return returned s) = tt
leaving_some back (Ended Break returned s) = tt
leaving_some back (Ended Continue returned s) = tt
leaving_some back (Ended (Throw exception) returned s) = tt
leaving_some back (Stopped stop s) = tt

calls_some : (program : Program) (k frames f : ℕ) (arguments : List Value) (s : SourceState) → ReturnsSome (calls_with program k frames f arguments s)
calls_some program k zero f arguments s = tt
calls_some program k (suc frames) f arguments s = leaving_some (λ t. record t { locals = s.locals }) _

module _ (program : Program) (procedure : ProcedureEntry) (entry : ResultEntry) (is : procedure.result ≡ Some entry) (k frames : ℕ) where
  mutual
    statement_some : (statement : Statement) (s : SourceState) → statement_fits program procedure statement ≡ true →
        ReturnsSome (statement_meaning (calls_with program k frames) k statement s)
    statement_some (Placed at (Assign x e)) s fit = evaluated_some (value_of s e) s _ (λ v. tt)
    statement_some (Placed at (Clear slot)) s fit = tt
    statement_some (Placed at (Store array length index e)) s fit =
        evaluated_some (value_of s index) s _ (λ v. evaluated_some (value_of s e) s _ (λ w. evaluated_some (checked_index v length) s _ (λ i. tt)))
    statement_some (Placed at (Receive channel target)) s fit = received_some (s.inputs channel) channel target s
    statement_some (Placed at (Send channel e)) s fit = evaluated_some (value_of s e) s _ (λ v. tt)
    statement_some (Placed at (Call f arguments target)) s fit =
        evaluated_some (values_of s arguments) s _ (λ values. returned_to_some target _ (calls_some program k frames f values s))
    statement_some (Placed at (If e then_block else_block)) s fit =
        let parts = and_parts (has_base program procedure Boolean e && block_fits program procedure then_block) (block_fits program procedure else_block) fit in
        let first = and_parts (has_base program procedure Boolean e) (block_fits program procedure then_block) parts.0 in
        evaluated_some (value_of s e) s _ (λ v. either_some (truth_in v) _ _ (block_some then_block s first.1) (block_some else_block s parts.1))
    statement_some (Placed at (While loop e body)) s fit =
        let parts = and_parts (has_base program procedure Boolean e) (block_fits program procedure body) fit in
        fuel_some k (λ t. value_of t e) (block_meaning (calls_with program k frames) k body) (λ t. block_some body t parts.1) s
    statement_some (Placed at (Leave Normal)) s fit = tt
    statement_some (Placed at (Leave Return)) s fit = let no : false ≡ true = fit in absurd (cc)
    statement_some (Placed at (Leave Break)) s fit = tt
    statement_some (Placed at (Leave Continue)) s fit = tt
    statement_some (Placed at (Leave (Throw exception))) s fit = tt
    statement_some (Placed at (ReturnWith None)) s fit = let no : false ≡ true = sym (ap is_none is) ∙ fit in absurd (cc)
    statement_some (Placed at (ReturnWith (Some e))) s fit = evaluated_some (value_of s e) s _ (λ v. tt)
    statement_some (Placed at (Try block handlers)) s fit =
        let parts = and_parts (block_fits program procedure block) (handlers_fit program procedure handlers) fit in
        caught_some (block_meaning (calls_with program k frames) k block s) _ (block_some block s parts.0) (λ exception t. handlers_some handlers exception t parts.1)
    statement_some (Placed at (Nested block)) s fit = block_some block s fit

    pub block_some : (block : Block) (s : SourceState) → block_fits program procedure block ≡ true → ReturnsSome (block_meaning (calls_with program k frames) k block s)
    block_some Empty s fit = tt
    block_some (Then statement rest) s fit =
        let parts = and_parts (statement_fits program procedure statement) (block_fits program procedure rest) fit in
        after_some (statement_meaning (calls_with program k frames) k statement s) _ (statement_some statement s parts.0) (λ t. block_some rest t parts.1)

    handlers_some : (handlers : Handlers) (exception : ℕ) (s : SourceState) → handlers_fit program procedure handlers ≡ true →
        ReturnsSome (handlers_meaning (calls_with program k frames) k handlers exception s)
    handlers_some NoMore exception s fit = tt
    handlers_some (Catch at handled body rest) exception s fit =
        let parts = and_parts (is_exception program handled && block_fits program procedure body) (handlers_fit program procedure rest) fit in
        let first = and_parts (is_exception program handled) (block_fits program procedure body) parts.0 in
        either_some (exception == handled) _ _ (block_some body s first.1) (handlers_some rest exception s parts.1)
