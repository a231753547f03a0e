-- What an outcome says of a refusal, in numbers.
-- Source: our own.
use Rattle.std.specs.Prelude.{◌≡◌, ℕ, List}
use Rattle.acceptance.specs.RefusalKinds.{refusal_message}
use Rattle.acceptance.specs.declared.kind.Text.{Text}
use Rattle.acceptance.specs.declared.kind.Text.TheVariants as texts
use Rattle.checker.specs.Reported.{IsFirstFault}
use Rattle.checker.specs.declared.fault.Refusal.{Refusal}
use Rattle.verifier.specs.Loaded.{CannotLoad}
use Rattle.verifier.specs.RefusalKinds.{load_message}
use Rattle.verifier.specs.declared.loading.LoadRefusal.{LoadRefusal}
use Rattle.verifier.specs.declared.loading.LoadRefusal.TheVariants.{Bytes, Code}
use Rattle.flowc_c.specs.Buffer.{IsPutIfFits}
use Rattle.flowc_c.specs.declared.outcome.Outcome.{Outcome}

-- ---- two texts

-- the number of one of the two texts
abbrev pub text_number : Text → ℕ
text_number texts.Hierarchy = 0
text_number texts.Source = 1

-- the outcome has the number of the refusal's kind, its text and its place
pub record SaysRefusal (refusal : Refusal) (outcome : Outcome) : Type 0 where
  pub number : outcome.number ≡ (refusal_message refusal.kind).number
  pub text : outcome.text ≡ text_number refusal.text
  pub line : outcome.line ≡ refusal.at.line
  pub column : outcome.column ≡ refusal.at.column

-- the outcome says the first fault of two texts
pub record SaysFirstFault (hierarchy source : List ℕ) (outcome : Outcome) : Type 0 where
  pub refusal : Refusal
  pub first : IsFirstFault hierarchy source refusal
  pub says : SaysRefusal refusal outcome

-- and the buffer has its words
pub record TellsFirstFault (hierarchy source : List ℕ) (outcome : Outcome) (old new : List ℕ) : Type 0 where
  pub refusal : Refusal
  pub first : IsFirstFault hierarchy source refusal
  pub says : SaysRefusal refusal outcome
  pub words : IsPutIfFits (refusal_message refusal.kind).words outcome.length old new

-- ---- modules

-- the outcome says where bytes are wrong: they spell no module from this byte on, or the code of a procedure is refused at a byte
abbrev pub SaysPlaceOf : LoadRefusal → Outcome → Type 0
SaysPlaceOf (Bytes refusal) outcome = (outcome.text ≡ 2) × (outcome.offset ≡ refusal.at)
SaysPlaceOf (Code refusal) outcome =
    (outcome.text ≡ 3) × (outcome.procedure ≡ refusal.procedure) × (outcome.offset ≡ refusal.offset)

pub record SaysModuleRefusal (refusal : LoadRefusal) (outcome : Outcome) : Type 0 where
  pub number : outcome.number ≡ (load_message refusal).number
  pub place : SaysPlaceOf refusal outcome

-- the outcome says why bytes are not loaded, and the buffer has the words
pub record TellsModuleRefusal (bytes : List ℕ) (outcome : Outcome) (old new : List ℕ) : Type 0 where
  pub refusal : LoadRefusal
  pub cannot : CannotLoad bytes refusal
  pub says : SaysModuleRefusal refusal outcome
  pub words : IsPutIfFits (load_message refusal).words outcome.length old new
