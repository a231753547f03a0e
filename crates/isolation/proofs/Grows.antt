-- What was sent stays sent: each outcome's list is begun by the list of the state in which the statement began.
use Rattle.common.specs.Functions.{updated}
use Rattle.std.proofs.Common.{◌≡◌, refl, ◌∙◌, ℕ, zero, suc, Bool, true, false, List, [], ◌∷◌}
use Rattle.std.specs.Prelude.{Option, Some, None, if◌then◌else◌, ◌==◌, ℤ}
use Rattle.std.proofs.lemmas.List.{append-nil}
use Rattle.labels.specs.Sent.{IsPrefix}
use Rattle.labels.proofs.Prefixes.{prefix-through}
use Rattle.resolved.specs.declared.expression.Variable.{Variable}
use Rattle.resolved.specs.declared.expression.Variable.TheVariants.{Global, Local}
use Rattle.common.specs.declared.value.Value.{Value}
use Rattle.common.specs.declared.value.Value.TheVariants.{Int as Number}
use Rattle.resolved.specs.declared.statement.Exit.TheVariants.{Normal, Return, Break, Continue, Throw}
use Rattle.resolved.specs.Tree.{Statement, Placed, Assign, Clear, Store, Receive, Send, Call, If, While, Leave, ReturnWith, Try, Nested, Block, Empty, Then, Handlers, NoMore, Catch}
use Rattle.resolved.specs.Program.{Program, procedure_at}
use Rattle.common.specs.Values.{number_in, truth_in}
use Rattle.resolved.specs.Value.{Evaluated, Yields, Raises, checked_index}
use Rattle.resolved.specs.SourceState.{SourceState, with_cells, assigned, stored, cleared, value_of, values_of}
use Rattle.resolved.specs.Meaning.{Deep, OutOfFuel, Outcome, Ended, Stopped, normally, thrown, after, evaluated, looped, fuel, caught, given_to, received, sending, leaving, returned_to, Calls, statement_meaning, block_meaning, handlers_meaning, frame_of, calls_with, state_after}

-- from a state on, an outcome has only sent more
pub record Grows (s : SourceState) (o : Outcome) : Type 0 where
  pub sent : IsPrefix s.sent (state_after o).sent

pub grows-after : (s : SourceState) (o : Outcome) (next : SourceState → Outcome) → Grows s o → ((t : SourceState) → Grows t (next t)) →
    Grows s (after o next)
grows-after s (Ended Normal r t) next h rest = record { sent = prefix-through s.sent t.sent (state_after (next t)).sent h.sent (rest t).sent }
grows-after s (Ended Return r t) next h rest = record { sent = h.sent }
grows-after s (Ended Break r t) next h rest = record { sent = h.sent }
grows-after s (Ended Continue r t) next h rest = record { sent = h.sent }
grows-after s (Ended (Throw x) r t) next h rest = record { sent = h.sent }
grows-after s (Stopped stop t) next h rest = record { sent = h.sent }

pub grows-itself : (s t : SourceState) → s.sent ≡ t.sent → (o : Outcome) → t.sent ≡ (state_after o).sent → Grows s o
grows-itself s t e o f = record { sent = ([], append-nil s.sent ∙ e ∙ f) }

pub grows-evaluated : {A : Type 0} (s : SourceState) (e : Evaluated A) (next : A → Outcome) → ((v : A) → Grows s (next v)) →
    Grows s (evaluated e s next)
grows-evaluated s (Yields v) next h = h v
grows-evaluated s (Raises x) next h = grows-itself s s refl (thrown x s) refl

pub grows-if : (s : SourceState) (b : Bool) (x y : Outcome) → Grows s x → Grows s y → Grows s (if b then x else y)
grows-if s true x y h i = h
grows-if s false x y h i = i

pub grows-looped : (s : SourceState) (o : Outcome) (again : SourceState → Outcome) → Grows s o → ((t : SourceState) → Grows t (again t)) →
    Grows s (looped o again)
grows-looped s (Ended Normal r t) again h rest = record { sent = prefix-through s.sent t.sent (state_after (again t)).sent h.sent (rest t).sent }
grows-looped s (Ended Return r t) again h rest = record { sent = h.sent }
grows-looped s (Ended Break r t) again h rest = record { sent = h.sent }
grows-looped s (Ended Continue r t) again h rest = record { sent = prefix-through s.sent t.sent (state_after (again t)).sent h.sent (rest t).sent }
grows-looped s (Ended (Throw x) r t) again h rest = record { sent = h.sent }
grows-looped s (Stopped stop t) again h rest = record { sent = h.sent }

pub grows-fuel : (k : ℕ) (condition : SourceState → Evaluated Value) (body : SourceState → Outcome) → ((t : SourceState) → Grows t (body t)) →
    (s : SourceState) → Grows s (fuel k condition body s)
grows-fuel zero condition body h s =
    grows-evaluated s (condition s) (λ v. if truth_in v then Stopped OutOfFuel s else normally s) (λ v.
    grows-if s (truth_in v) (Stopped OutOfFuel s) (normally s) (grows-itself s s refl (Stopped OutOfFuel s) refl)
    (grows-itself s s refl (normally s) refl))
grows-fuel (suc k) condition body h s =
    grows-evaluated s (condition s) (λ v. if truth_in v then looped (body s) (fuel k condition body) else normally s) (λ v.
    grows-if s (truth_in v) (looped (body s) (fuel k condition body)) (normally s)
    (grows-looped s (body s) (fuel k condition body) (h s) (grows-fuel k condition body h))
    (grows-itself s s refl (normally s) refl))

pub grows-caught : (s : SourceState) (o : Outcome) (handle : ℕ → SourceState → Outcome) → Grows s o →
    ((x : ℕ) (t : SourceState) → Grows t (handle x t)) → Grows s (caught o handle)
grows-caught s (Ended (Throw x) r t) handle h rest = record {
  sent = prefix-through s.sent t.sent (state_after (handle x t)).sent h.sent
      (rest x t).sent;
}
grows-caught s (Ended Normal r t) handle h rest = record { sent = h.sent }
grows-caught s (Ended Return r t) handle h rest = record { sent = h.sent }
grows-caught s (Ended Break r t) handle h rest = record { sent = h.sent }
grows-caught s (Ended Continue r t) handle h rest = record { sent = h.sent }
grows-caught s (Stopped stop t) handle h rest = record { sent = h.sent }

sent-with_cells : (s : SourceState) (x : Variable) (values : List Value) → s.sent ≡ (with_cells s x values).sent
sent-with_cells s (Global n) values = refl
sent-with_cells s (Local n) values = refl

sent-given_to : (target : Option Variable) (v : Value) (s : SourceState) → s.sent ≡ (given_to target (Some v) s).sent
sent-given_to None v s = refl
sent-given_to (Some x) v s = sent-with_cells s x (v ∷ [])

pub grows-received : (numbers : List ℤ) (channel : ℕ) (target : Option Variable) (s : SourceState) →
    Grows s (received numbers channel target s)
grows-received [] channel target s = grows-itself s s refl (received [] channel target s) refl
grows-received (z ∷ rest) channel target s =
    grows-itself s (record s { inputs = updated s.inputs channel rest }) refl (received (z ∷ rest) channel target s)
    (sent-given_to target (Number z) (record s { inputs = updated s.inputs channel rest }))

pub grows-leaving : (s : SourceState) (back : SourceState → SourceState) (o : Outcome) → ((t : SourceState) → t.sent ≡ (back t).sent) → Grows s o →
    Grows s (leaving back o)
grows-leaving s back (Ended Normal r t) e h = record { sent = (h.sent.0, h.sent.1 ∙ e t) }
grows-leaving s back (Ended Return r t) e h = record { sent = (h.sent.0, h.sent.1 ∙ e t) }
grows-leaving s back (Ended Break r t) e h = record { sent = (h.sent.0, h.sent.1 ∙ e t) }
grows-leaving s back (Ended Continue r t) e h = record { sent = (h.sent.0, h.sent.1 ∙ e t) }
grows-leaving s back (Ended (Throw x) r t) e h = record { sent = (h.sent.0, h.sent.1 ∙ e t) }
grows-leaving s back (Stopped stop t) e h = record { sent = (h.sent.0, h.sent.1 ∙ e t) }

pub grows-returned_to : (s : SourceState) (target : Option Variable) (o : Outcome) → Grows s o → Grows s (returned_to target o)
grows-returned_to s (Some x) (Ended Normal (Some v) t) h = record { sent = (h.sent.0, h.sent.1 ∙ sent-with_cells t x (v ∷ [])) }
grows-returned_to s (Some x) (Ended Normal None t) h = record { sent = h.sent }
grows-returned_to s (Some x) (Ended Return r t) h = record { sent = h.sent }
grows-returned_to s (Some x) (Ended Break r t) h = record { sent = h.sent }
grows-returned_to s (Some x) (Ended Continue r t) h = record { sent = h.sent }
grows-returned_to s (Some x) (Ended (Throw e) r t) h = record { sent = h.sent }
grows-returned_to s (Some x) (Stopped stop t) h = record { sent = h.sent }
grows-returned_to s None (Ended Normal r t) h = record { sent = h.sent }
grows-returned_to s None (Ended Return r t) h = record { sent = h.sent }
grows-returned_to s None (Ended Break r t) h = record { sent = h.sent }
grows-returned_to s None (Ended Continue r t) h = record { sent = h.sent }
grows-returned_to s None (Ended (Throw e) r t) h = record { sent = h.sent }
grows-returned_to s None (Stopped stop t) h = record { sent = h.sent }

-- calls only send more
abbrev pub CallsGrow : Calls → Type 0
CallsGrow calls = (f : ℕ) (vs : List Value) (s : SourceState) → Grows s (calls f vs s)

mutual
  pub statement-grows : (statement : Statement) (calls : Calls) (k : ℕ) → CallsGrow calls → (s : SourceState) →
      Grows s (statement_meaning calls k statement s)
  statement-grows (Placed at (Assign x e)) calls k h s =
      grows-evaluated s (value_of s e) (λ v. normally (assigned s x v))
      (λ v. grows-itself s s refl (normally (assigned s x v)) (sent-with_cells s x (v ∷ [])))
  statement-grows (Placed at (Clear slot)) calls k h s = grows-itself s s refl (normally (cleared s slot)) refl
  statement-grows (Placed at (Store array length index e)) calls k h s =
      grows-evaluated s (value_of s index) _ (λ v.
      grows-evaluated s (value_of s e) _ (λ w.
      grows-evaluated s (checked_index v length) (λ i. normally (stored s array i w)) (λ i.
      grows-itself s s refl (normally (stored s array i w)) (sent-with_cells s array _))))
  statement-grows (Placed at (Receive channel target)) calls k h s = grows-received (s.inputs channel) channel target s
  statement-grows (Placed at (Send channel e)) calls k h s =
      grows-evaluated s (value_of s e) (λ v. normally (sending channel v s)) (λ v.
      record { sent = (record { channel = channel; number = number_in v } ∷ [], refl) })
  statement-grows (Placed at (Call procedure arguments target)) calls k h s =
      grows-evaluated s (values_of s arguments) (λ vs. returned_to target (calls procedure vs s)) (λ vs.
      grows-returned_to s target (calls procedure vs s) (h procedure vs s))
  statement-grows (Placed at (If e then_block else_block)) calls k h s =
      grows-evaluated s (value_of s e) (λ v. if truth_in v then block_meaning calls k then_block s else block_meaning calls k else_block s) (λ v.
      grows-if s (truth_in v) (block_meaning calls k then_block s) (block_meaning calls k else_block s) (block-grows then_block calls k h s)
      (block-grows else_block calls k h s))
  statement-grows (Placed at (While loop e body)) calls k h s = grows-fuel k (λ t. value_of t e) (block_meaning calls k body) (block-grows body calls k h) s
  statement-grows (Placed at (Leave exit)) calls k h s = grows-itself s s refl (Ended exit None s) refl
  statement-grows (Placed at (ReturnWith None)) calls k h s = grows-itself s s refl (Ended Return None s) refl
  statement-grows (Placed at (ReturnWith (Some e))) calls k h s =
      grows-evaluated s (value_of s e) (λ v. Ended Return (Some v) s) (λ v. grows-itself s s refl (Ended Return (Some v) s) refl)
  statement-grows (Placed at (Try block handlers)) calls k h s =
      grows-caught s (block_meaning calls k block s) (handlers_meaning calls k handlers) (block-grows block calls k h s)
      (handlers-grow handlers calls k h)
  statement-grows (Placed at (Nested block)) calls k h s = block-grows block calls k h s

  pub block-grows : (block : Block) (calls : Calls) (k : ℕ) → CallsGrow calls → (s : SourceState) →
      Grows s (block_meaning calls k block s)
  block-grows Empty calls k h s = grows-itself s s refl (normally s) refl
  block-grows (Then statement rest) calls k h s =
      grows-after s (statement_meaning calls k statement s) (block_meaning calls k rest) (statement-grows statement calls k h s)
      (block-grows rest calls k h)

  pub handlers-grow : (handlers : Handlers) (calls : Calls) (k : ℕ) → CallsGrow calls → (x : ℕ) (s : SourceState) →
      Grows s (handlers_meaning calls k handlers x s)
  handlers-grow NoMore calls k h x s = grows-itself s s refl (thrown x s) refl
  handlers-grow (Catch at handled body rest) calls k h x s =
      grows-if s (x == handled) (block_meaning calls k body s) (handlers_meaning calls k rest x s) (block-grows body calls k h s)
      (handlers-grow rest calls k h x s)

pub calls-grow : (program : Program) (k frames : ℕ) → CallsGrow (calls_with program k frames)
calls-grow program k zero f vs s = grows-itself s s refl (Stopped Deep s) refl
calls-grow program k (suc frames) f vs s =
    let inner : SourceState = record s { locals = frame_of (procedure_at program f).slots vs } in
    grows-leaving s (λ t. record t { locals = s.locals })
    (block_meaning (calls_with program k frames) k (procedure_at program f).body inner)
    (λ t. refl)
    (record { sent = (block-grows (procedure_at program f).body (calls_with program k frames) k (calls-grow program k frames) inner).sent })
