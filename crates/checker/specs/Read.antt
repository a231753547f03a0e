-- Why the bytes of one of two texts are not read.
-- Source: our own.
use Rattle.std.specs.Prelude.{◌≡◌, ◌≢◌, ℕ, List, None}
use Rattle.acceptance.specs.Refused.{IsNoText}
use Rattle.acceptance.specs.declared.kind.RefusalKind.{RefusalKind}
use Rattle.acceptance.specs.declared.kind.RefusalKind.TheVariants as kinds
use Rattle.acceptance.specs.declared.kind.Text.{Text}
use Rattle.checker.specs.Reported.{refusal_at}
use Rattle.checker.specs.declared.fault.Refusal.{Refusal}

-- the bytes are no text
pub record IsUnread (text : Text) (bytes : List ℕ) (refusal : Refusal) : Type 0 where
  pub kind : RefusalKind
  pub no_text : IsNoText bytes kind 0
  pub refusal_is : refusal ≡ refusal_at text bytes kind 0 None

-- the refusal is of no flow
pub record IsOfNoFlow (refusal : Refusal) : Type 0 where
  pub other_kind : refusal.kind ≢ kinds.FlowNotAllowed
  pub none : refusal.flow ≡ None
