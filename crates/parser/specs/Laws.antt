-- Laws of refusals: tokens with their end marker have one tree or one refusal, and not both.
-- Source: our own; that a predictive parser decides its grammar is folklore.
use Rattle.std.specs.Prelude.{◌≡◌, ◌⊎◌, List}
use Rattle.lexer.specs.Terminal.{Terminal, IsTerminated}
use Rattle.common.specs.declared.refusal.RefusalAt.{RefusalAt}
use Rattle.parser.specs.declared.fault.ParseRefusalKind.{ParseRefusalKind}
use Rattle.parser.specs.Refusal.{AreTokensRefused}
use Rattle.syntax.specs.Grammar.{SpellsProgram}
use Rattle.syntax.specs.Tree.{ProgramTree}

-- tokens spell a tree, or they are refused
abbrev pub IsSpelledOrRefused : Type 0
IsSpelledOrRefused =
    (tokens : List Terminal) → IsTerminated tokens
    → ((tree : ProgramTree) × SpellsProgram tokens tree) ⊎ ((refusal : RefusalAt ParseRefusalKind) × AreTokensRefused tokens refusal)

-- tokens that spell a tree are not refused
abbrev pub IsNotSpelledAndRefused : Type 0
IsNotSpelledAndRefused = (tokens : List Terminal) (tree : ProgramTree) (refusal : RefusalAt ParseRefusalKind) → SpellsProgram tokens tree → AreTokensRefused tokens refusal → ⊥

-- tokens are refused for one reason at most, at one token
abbrev pub TokensHaveOneRefusal : Type 0
TokensHaveOneRefusal = (tokens : List Terminal) (refusal other : RefusalAt ParseRefusalKind) → AreTokensRefused tokens refusal → AreTokensRefused tokens other → refusal ≡ other
