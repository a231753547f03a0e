-- What an explanation of two texts shows: the least labels of an accepted source, or the chain of a flow that is refused.
-- Source: our own; labels of locals may be left out, and are then inferred, as in JFlow (Myers 1999).
use Rattle.std.specs.Prelude.{◌≡◌, ℕ, List, Option, Some, None, IfSome}
use Rattle.std.specs.Io.KnownBytes.{Appends}
use Rattle.acceptance.specs.Accepted.{StandFor}
use Rattle.channels.specs.Sink.{AppendsPrefix}
use Rattle.checker.specs.Checked.{CheckedProgram, least_label}
use Rattle.checker.specs.Reported.{HasFlow, IsFirstFault, TextsAskForFlow}
use Rattle.checker.specs.declared.fault.RefusedFlow.{RefusedFlow}
use Rattle.checker.specs.declared.fault.Refusal.{Refusal}
use Rattle.explaining.specs.Flow.{flow_text}
use Rattle.explaining.specs.Locals.{WritesLabels, WritesSomeLabels}
use Rattle.resolved.specs.CoreOf.{program_of}
use Rattle.resolved.specs.Flow.{AreLeast}

-- a checked source: the two texts stand for its program, and its labels are the least
pub record IsCheckOf (hierarchy source : List ℕ) (checked : CheckedProgram) : Type 0 where
  pub stands : StandFor hierarchy source (program_of checked.core)
  pub least : AreLeast (program_of checked.core) (least_label checked)

-- the least label of each local that is written without one went out
abbrev pub Explains : (hierarchy source : List ℕ) → (old new : Option (List ℕ)) → Type 0
Explains hierarchy source old new =
    (checked : CheckedProgram) × IsCheckOf hierarchy source checked × WritesLabels checked source old new

-- the first fault of two texts, with the flow where one is not allowed
pub record AreTextsRefusedFor (hierarchy source : List ℕ) (refusal : Refusal) : Type 0 where
  pub first : IsFirstFault hierarchy source refusal
  pub has_flow : HasFlow refusal
  pub asked : IfSome refusal.flow (TextsAskForFlow hierarchy source refusal)

-- the chain of a flow that is not allowed went out; of another refusal nothing
abbrev pub ShowsChain : (source : List ℕ) → Option RefusedFlow → (old new : Option (List ℕ)) → Type 0
ShowsChain source None old new = old ≡ new
ShowsChain source (Some flow) old new = Appends old new (flow_text source flow)

abbrev pub ExplainsRefusal : (hierarchy source : List ℕ) → (old new : Option (List ℕ)) → Type 0
ExplainsRefusal hierarchy source old new =
    (refusal : Refusal) × AreTextsRefusedFor hierarchy source refusal × ShowsChain source refusal.flow old new

-- where a stream failed or memory ran out: nothing was written, or a prefix of one of these
pub data ExplainsSome (hierarchy source : List ℕ) (old new : Option (List ℕ)) : Type 0 where
  nothing : old ≡ new → ExplainsSome hierarchy source old new
  labels : (checked : CheckedProgram) → IsCheckOf hierarchy source checked
      → WritesSomeLabels checked source old new → ExplainsSome hierarchy source old new
  chain : (refusal : Refusal) (flow : RefusedFlow) → AreTextsRefusedFor hierarchy source refusal → refusal.flow ≡ Some flow
      → AppendsPrefix old new (flow_text source flow) → ExplainsSome hierarchy source old new
