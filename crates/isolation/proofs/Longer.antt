-- More fuel changes no exit that was reached, and takes nothing back of what was sent.
use Rattle.std.proofs.Common.{◌≡◌, refl, ℕ, zero, suc, ◌≤◌, Bool, true, false, List, arith}
use Rattle.std.specs.Prelude.{Option, Some, None, if◌then◌else◌, ◌==◌}
use Rattle.labels.specs.Sent.{IsPrefix}
use Rattle.resolved.specs.declared.expression.Variable.{Variable}
use Rattle.common.specs.declared.value.Value.{Value}
use Rattle.resolved.specs.declared.statement.Exit.TheVariants.{Normal, Return, Break, Continue, Throw}
use Rattle.resolved.specs.Tree.{Statement, Placed, Call, If, While, ReturnWith, Try, Nested, Block, Empty, Then, Handlers, NoMore, Catch}
use Rattle.resolved.specs.Program.{Program, procedure_at}
use Rattle.common.specs.Values.{truth_in}
use Rattle.resolved.specs.Value.{Evaluated, Yields, Raises}
use Rattle.resolved.specs.SourceState.{SourceState, value_of, values_of}
use Rattle.resolved.specs.Meaning.{Deep, OutOfFuel, Outcome, Ended, Stopped, normally, thrown, after, evaluated, looped, fuel, caught, leaving, returned_to, Calls, statement_meaning, block_meaning, handlers_meaning, frame_of, calls_with, state_after}
use Rattle.isolation.specs.Runs.{GoesOn}
use Rattle.labels.proofs.Prefixes.{prefix-itself}
use Rattle.isolation.proofs.Grows.{Grows, CallsGrow, grows-after, grows-looped, grows-fuel, grows-caught, grows-leaving, grows-returned_to, block-grows, handlers-grow, calls-grow}

-- a run and the same run with more fuel
record Longer (o more : Outcome) : Type 0 where
  goes_on : GoesOn o more

longer-itself : (o : Outcome) → Longer o o
longer-itself (Ended exit r s) = record { goes_on = refl }
longer-itself (Stopped Deep s) = record { goes_on = refl }
longer-itself (Stopped OutOfFuel s) = record { goes_on = prefix-itself s.sent }

-- what has sent more goes on after a run that was out of fuel in the same state
longer-grown : (s : SourceState) (more : Outcome) → Grows s more → Longer (Stopped OutOfFuel s) more
longer-grown s more h = record { goes_on = h.sent }

longer-after : (o more : Outcome) (next further : SourceState → Outcome) → Longer o more → ((t : SourceState) → Longer (next t) (further t)) →
    ((t : SourceState) → Grows t (further t)) → Longer (after o next) (after more further)
longer-after (Ended Normal r s) more next further h rest grows = rw h.goes_on (rest s)
longer-after (Ended Return r s) more next further h rest grows = rw h.goes_on (longer-itself (Ended Return r s))
longer-after (Ended Break r s) more next further h rest grows = rw h.goes_on (longer-itself (Ended Break r s))
longer-after (Ended Continue r s) more next further h rest grows = rw h.goes_on (longer-itself (Ended Continue r s))
longer-after (Ended (Throw x) r s) more next further h rest grows = rw h.goes_on (longer-itself (Ended (Throw x) r s))
longer-after (Stopped Deep s) more next further h rest grows = rw h.goes_on (longer-itself (Stopped Deep s))
longer-after (Stopped OutOfFuel s) more next further h rest grows =
    longer-grown s (after more further) (grows-after s more further (record { sent = h.goes_on }) grows)

longer-looped : (o more : Outcome) (next further : SourceState → Outcome) → Longer o more → ((t : SourceState) → Longer (next t) (further t)) →
    ((t : SourceState) → Grows t (further t)) → Longer (looped o next) (looped more further)
longer-looped (Ended Normal r s) more next further h rest grows = rw h.goes_on (rest s)
longer-looped (Ended Return r s) more next further h rest grows = rw h.goes_on (longer-itself (Ended Return r s))
longer-looped (Ended Break r s) more next further h rest grows = rw h.goes_on (longer-itself (normally s))
longer-looped (Ended Continue r s) more next further h rest grows = rw h.goes_on (rest s)
longer-looped (Ended (Throw x) r s) more next further h rest grows = rw h.goes_on (longer-itself (Ended (Throw x) r s))
longer-looped (Stopped Deep s) more next further h rest grows = rw h.goes_on (longer-itself (Stopped Deep s))
longer-looped (Stopped OutOfFuel s) more next further h rest grows =
    longer-grown s (looped more further) (grows-looped s more further (record { sent = h.goes_on }) grows)

longer-caught : (o more : Outcome) (next further : ℕ → SourceState → Outcome) → Longer o more →
    ((x : ℕ) (t : SourceState) → Longer (next x t) (further x t)) → ((x : ℕ) (t : SourceState) → Grows t (further x t)) →
    Longer (caught o next) (caught more further)
longer-caught (Ended (Throw x) r s) more next further h rest grows = rw h.goes_on (rest x s)
longer-caught (Ended Normal r s) more next further h rest grows = rw h.goes_on (longer-itself (Ended Normal r s))
longer-caught (Ended Return r s) more next further h rest grows = rw h.goes_on (longer-itself (Ended Return r s))
longer-caught (Ended Break r s) more next further h rest grows = rw h.goes_on (longer-itself (Ended Break r s))
longer-caught (Ended Continue r s) more next further h rest grows = rw h.goes_on (longer-itself (Ended Continue r s))
longer-caught (Stopped Deep s) more next further h rest grows = rw h.goes_on (longer-itself (Stopped Deep s))
longer-caught (Stopped OutOfFuel s) more next further h rest grows =
    longer-grown s (caught more further) (grows-caught s more further (record { sent = h.goes_on }) grows)

longer-evaluated : {A : Type 0} (e : Evaluated A) (s : SourceState) (next further : A → Outcome) →
    ((v : A) → Longer (next v) (further v)) → Longer (evaluated e s next) (evaluated e s further)
longer-evaluated (Yields v) s next further h = h v
longer-evaluated (Raises x) s next further h = longer-itself (thrown x s)

longer-if : (b : Bool) (x y x' y' : Outcome) → Longer x x' → Longer y y' → Longer (if b then x else y) (if b then x' else y')
longer-if true x y x' y' h i = h
longer-if false x y x' y' h i = i

longer-leaving : (back : SourceState → SourceState) → ((t : SourceState) → t.sent ≡ (back t).sent) → (o more : Outcome) → Longer o more →
    Longer (leaving back o) (leaving back more)
longer-leaving back e (Ended exit r s) more h = rw h.goes_on (longer-itself (leaving back (Ended exit r s)))
longer-leaving back e (Stopped Deep s) more h = rw h.goes_on (longer-itself (Stopped Deep (back s)))
longer-leaving back e (Stopped OutOfFuel s) more h =
    longer-grown (back s) (leaving back more) (record { sent = rw (← e s) (grows-leaving s back more e (record { sent = h.goes_on })).sent })

longer-returned_to : (target : Option Variable) (o more : Outcome) → Longer o more →
    Longer (returned_to target o) (returned_to target more)
longer-returned_to target (Ended exit r s) more h = rw h.goes_on (longer-itself (returned_to target (Ended exit r s)))
longer-returned_to None (Stopped Deep s) more h = rw h.goes_on (longer-itself (Stopped Deep s))
longer-returned_to (Some x) (Stopped Deep s) more h = rw h.goes_on (longer-itself (Stopped Deep s))
longer-returned_to None (Stopped OutOfFuel s) more h =
    longer-grown s (returned_to None more) (grows-returned_to s None more (record { sent = h.goes_on }))
longer-returned_to (Some x) (Stopped OutOfFuel s) more h =
    longer-grown s (returned_to (Some x) more) (grows-returned_to s (Some x) more (record { sent = h.goes_on }))

longer-fuel : (k m : ℕ) → k ≤ m → (condition : SourceState → Evaluated Value) (body further : SourceState → Outcome) →
    ((t : SourceState) → Longer (body t) (further t)) → ((t : SourceState) → Grows t (further t)) → (s : SourceState) →
    Longer (fuel k condition body s) (fuel m condition further s)
longer-fuel zero zero le condition body further h grows s =
    longer-itself (fuel zero condition body s)
longer-fuel zero (suc m) le condition body further h grows s =
    longer-evaluated (condition s) s (λ v. if truth_in v then Stopped OutOfFuel s else normally s)
    (λ v. if truth_in v then looped (further s) (fuel m condition further) else normally s) (λ v.
    longer-if (truth_in v) (Stopped OutOfFuel s) (normally s) (looped (further s) (fuel m condition further)) (normally s)
    (longer-grown s (looped (further s) (fuel m condition further))
    (grows-looped s (further s) (fuel m condition further) (grows s) (grows-fuel m condition further grows)))
    (longer-itself (normally s)))
longer-fuel (suc k) zero le condition body further h grows s = absurd (omega (arith, le))
longer-fuel (suc k) (suc m) le condition body further h grows s =
    longer-evaluated (condition s) s (λ v. if truth_in v then looped (body s) (fuel k condition body) else normally s)
    (λ v. if truth_in v then looped (further s) (fuel m condition further) else normally s) (λ v.
    longer-if (truth_in v) (looped (body s) (fuel k condition body)) (normally s) (looped (further s) (fuel m condition further)) (normally s)
    (longer-looped (body s) (further s) (fuel k condition body) (fuel m condition further) (h s)
    (longer-fuel k m (omega (arith, le)) condition body further h grows) (grows-fuel m condition further grows))
    (longer-itself (normally s)))

-- calls with less fuel and with more
record LongerCalls (calls further : Calls) : Type 0 where
  longer : (f : ℕ) (vs : List Value) (s : SourceState) → Longer (calls f vs s) (further f vs s)
  grows : CallsGrow further

mutual
  statement-longer : (statement : Statement) (calls further : Calls) (k m : ℕ) → k ≤ m → LongerCalls calls further → (s : SourceState) →
      Longer (statement_meaning calls k statement s) (statement_meaning further m statement s)
  statement-longer (Placed at (If e then_block else_block)) calls further k m le h s =
      longer-evaluated (value_of s e) s (λ v. if truth_in v then block_meaning calls k then_block s else block_meaning calls k else_block s)
      (λ v. if truth_in v then block_meaning further m then_block s else block_meaning further m else_block s) (λ v.
      longer-if (truth_in v) (block_meaning calls k then_block s) (block_meaning calls k else_block s) (block_meaning further m then_block s)
      (block_meaning further m else_block s)
      (block-longer then_block calls further k m le h s) (block-longer else_block calls further k m le h s))
  statement-longer (Placed at (While loop e body)) calls further k m le h s =
      longer-fuel k m le (λ t. value_of t e) (block_meaning calls k body) (block_meaning further m body)
      (block-longer body calls further k m le h) (block-grows body further m h.grows) s
  statement-longer (Placed at (Call procedure arguments target)) calls further k m le h s =
      longer-evaluated (values_of s arguments) s (λ vs. returned_to target (calls procedure vs s))
      (λ vs. returned_to target (further procedure vs s)) (λ vs.
      longer-returned_to target (calls procedure vs s) (further procedure vs s) (h.longer procedure vs s))
  statement-longer (Placed at (Try block handlers)) calls further k m le h s =
      longer-caught (block_meaning calls k block s) (block_meaning further m block s) (handlers_meaning calls k handlers)
      (handlers_meaning further m handlers) (block-longer block calls further k m le h s)
      (handlers-longer handlers calls further k m le h) (handlers-grow handlers further m h.grows)
  statement-longer (Placed at (Nested block)) calls further k m le h s = block-longer block calls further k m le h s
  statement-longer (Placed at (ReturnWith None)) calls further k m le h s = longer-itself (Ended Return None s)
  statement-longer (Placed at (ReturnWith (Some e))) calls further k m le h s =
      longer-itself (evaluated (value_of s e) s (λ v. Ended Return (Some v) s))
  statement-longer other calls further k m le h s = longer-itself (statement_meaning calls k other s)

  block-longer : (block : Block) (calls further : Calls) (k m : ℕ) → k ≤ m → LongerCalls calls further → (s : SourceState) →
      Longer (block_meaning calls k block s) (block_meaning further m block s)
  block-longer Empty calls further k m le h s = longer-itself (normally s)
  block-longer (Then statement rest) calls further k m le h s =
      longer-after (statement_meaning calls k statement s) (statement_meaning further m statement s) (block_meaning calls k rest)
      (block_meaning further m rest) (statement-longer statement calls further k m le h s) (block-longer rest calls further k m le h)
      (block-grows rest further m h.grows)

  handlers-longer : (handlers : Handlers) (calls further : Calls) (k m : ℕ) → k ≤ m → LongerCalls calls further →
      (x : ℕ) (s : SourceState) → Longer (handlers_meaning calls k handlers x s) (handlers_meaning further m handlers x s)
  handlers-longer NoMore calls further k m le h x s = longer-itself (thrown x s)
  handlers-longer (Catch at handled body rest) calls further k m le h x s =
      longer-if (x == handled) (block_meaning calls k body s) (handlers_meaning calls k rest x s) (block_meaning further m body s)
      (handlers_meaning further m rest x s) (block-longer body calls further k m le h s)
      (handlers-longer rest calls further k m le h x s)

calls-longer : (program : Program) (k m : ℕ) → k ≤ m → (frames : ℕ) →
    LongerCalls (calls_with program k frames) (calls_with program m frames)
calls-longer program k m le zero = record {
  longer = λ f vs s. longer-itself (Stopped Deep s);
  grows = calls-grow program m zero;
}
calls-longer program k m le (suc frames) = record {
  longer = λ f vs s.
      let inner : SourceState = record s { locals = frame_of (procedure_at program f).slots vs } in
      longer-leaving (λ t. record t { locals = s.locals }) (λ t. refl)
      (block_meaning (calls_with program k frames) k (procedure_at program f).body inner)
      (block_meaning (calls_with program m frames) m (procedure_at program f).body inner)
      (block-longer (procedure_at program f).body (calls_with program k frames) (calls_with program m frames) k m le
      (calls-longer program k m le frames) inner);
  grows = calls-grow program m (suc frames);
}

-- a call with more fuel goes on after the same call with less
pub calls-go_on : (program : Program) (k m : ℕ) → k ≤ m → (frames f : ℕ) (vs : List Value) (s : SourceState) →
    GoesOn (calls_with program k frames f vs s) (calls_with program m frames f vs s)
calls-go_on program k m le frames f vs s = ((calls-longer program k m le frames).longer f vs s).goes_on

-- and has sent what that had, and perhaps more
pub prefix-longer : (o more : Outcome) → GoesOn o more → IsPrefix (state_after o).sent (state_after more).sent
prefix-longer (Ended exit r s) more h = rw h (prefix-itself s.sent)
prefix-longer (Stopped Deep s) more h = rw h (prefix-itself s.sent)
prefix-longer (Stopped OutOfFuel s) more h = h
