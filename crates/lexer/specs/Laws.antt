-- Laws of the cut: each text has one cut or one refusal, and not both.
-- Source: our own; that longest match leaves no choice is folklore.
use Rattle.std.specs.Prelude.{◌≡◌, ◌⊎◌, ℕ, List}
use Rattle.std.specs.Str.{IsUtf8}
use Rattle.lexer.specs.Cut.{IsCut, IsTextRefused}
use Rattle.lexer.specs.Terminal.{Terminal}
use Rattle.common.specs.declared.refusal.RefusalAt.{RefusalAt}
use Rattle.lexer.specs.declared.fault.LexRefusalKind.{LexRefusalKind}

-- a text is cut in one way at most
abbrev pub HasOneCut : Type 0
HasOneCut = (text : List ℕ) (tokens others : List Terminal) → IsCut text tokens → IsCut text others → tokens ≡ others

-- a text that is cut is not refused
abbrev pub IsNotCutAndRefused : Type 0
IsNotCutAndRefused = (text : List ℕ) (tokens : List Terminal) (refusal : RefusalAt LexRefusalKind) → IsCut text tokens → IsTextRefused text refusal → ⊥

-- a text is refused for one reason at most
abbrev pub TextsHaveOneRefusal : Type 0
TextsHaveOneRefusal = (text : List ℕ) (refusal other : RefusalAt LexRefusalKind) → IsTextRefused text refusal → IsTextRefused text other → refusal ≡ other

-- a text is cut, or it is refused
abbrev pub IsCutOrRefused : Type 0
IsCutOrRefused =
    (text : List ℕ) → IsUtf8 text
    → ((tokens : List Terminal) × IsCut text tokens) ⊎ ((refusal : RefusalAt LexRefusalKind) × IsTextRefused text refusal)
