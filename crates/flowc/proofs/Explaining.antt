-- What an explanation shows of two texts.
use Rattle.std.proofs.Common.{◌≡◌, refl, sym, subst, ◌∙◌, ◌⊎◌, inl, inr, ℕ, List, Result, Ok, Err, IfOk, OnErr, OnOk}
use Rattle.std.specs.Prelude.{Option, Some, None, IfErr, IfSome, MatchResult}
use Rattle.std.specs.Io.KnownBytes.{Appends}
use Rattle.channels.specs.Sink.{AppendsPrefix}
use Rattle.checker.specs.declared.fault.RefusedFlow.{RefusedFlow}
use Rattle.checker.specs.Reported.{HasFlow, IsFirstFault, TextsAskForFlow}
use Rattle.checker.specs.declared.fault.Refusal.{Refusal}
use Rattle.explaining.specs.Flow.{flow_text}
use Rattle.flowc.specs.Explained.{AreTextsRefusedFor, Explains, ExplainsRefusal, ExplainsSome, ShowsChain}
use Rattle.flowc.specs.Explained.ExplainsSome.{chain}
use Rattle.flowc.specs.Task.{status_of_fault}
use Rattle.flowc.specs.declared.ended.Ended.{Ended}
use Rattle.flowc.specs.declared.fault.PerformFault.{PerformFault}
use Rattle.flowc.specs.declared.fault.PerformFault.TheVariants.{Refused, CannotWrite, NoMemory}

-- what is known of a refusal
module _ (h s : List ℕ) (refusal : Refusal) (old new : Option (List ℕ)) (first : IsFirstFault h s refusal) (has : HasFlow refusal)
    (asked : IfSome refusal.flow (TextsAskForFlow h s refusal)) where
  refused_for : AreTextsRefusedFor h s refusal
  refused_for = record { first = first; has_flow = has; asked = asked }

  -- a prefix of the chain of the flow went out
  pub chain_of : (flow : RefusedFlow) → refusal.flow ≡ Some flow → AppendsPrefix old new (flow_text s flow) → ExplainsSome h s old new
  chain_of flow is out = chain refusal flow refused_for is out

  -- the whole chain went out, and then its refusal is reported
  pub reported_chain : (flow : RefusedFlow) → refusal.flow ≡ Some flow → Appends old new (flow_text s flow) → ExplainsRefusal h s old new
  reported_chain flow is out = (refusal, refused_for, subst (λ (f : Option RefusedFlow). ShowsChain s f old new) (sym is) out)

  -- another refusal is reported, and nothing went out
  pub reported_other : refusal.flow ≡ None → old ≡ new → ExplainsRefusal h s old new
  reported_other is same = (refusal, refused_for, subst (λ (f : Option RefusedFlow). ShowsChain s f old new) (sym is) same)

-- what an explanation shows, or why it shows nothing
pub explain_shows : (h s h' s' : List ℕ) (status : ℕ) (old new : Option (List ℕ)) (outcome : Result Ended PerformFault)
    → OnOk outcome (Explains h' s' old new)
    → IfErr outcome (λ fault. status_of_fault fault ≡ 1 → ExplainsRefusal h' s' old new)
    → OnErr outcome (ExplainsSome h' s' old new)
    → IfOk outcome (λ ended. ended.status ≡ 0)
    → MatchResult outcome (λ ended. status ≡ ended.status) (λ fault. status ≡ status_of_fault fault)
    → h' ≡ h → s' ≡ s
    → ((status ≡ 1) × ExplainsRefusal h s old new) ⊎ (((status ≡ 3) × ExplainsSome h s old new) ⊎ ((status ≡ 0) × Explains h s old new))
explain_shows h s h' s' status old new (Ok ended) shown refused some zero is e f = inr (inr (is ∙ zero, rw (sym e, sym f) shown))
explain_shows h s h' s' status old new (Err (Refused line)) shown refused some zero is e f = inl (is, rw (sym e, sym f) (refused refl))
explain_shows h s h' s' status old new (Err CannotWrite) shown refused some zero is e f = inr (inl (is, rw (sym e, sym f) some))
explain_shows h s h' s' status old new (Err NoMemory) shown refused some zero is e f = inr (inl (is, rw (sym e, sym f) some))
