-- Where tokens are refused: at the first token with which they can't go on.
-- Source: the viable prefix property of parsing.
use Rattle.std.specs.Prelude.{◌≡◌, ℕ, List, [], ◌∷◌, ◌++◌}
use Rattle.lexer.specs.Terminal.{Terminal}

-- tokens are refused at this byte: a token begins there, what stands before it is viable, and with it the tokens are at fault
pub record AreRefusedAt (IsViable IsAtFault : List Terminal → Type 0) (tokens : List Terminal) (at : ℕ) : Type 0 where
  pub before : List Terminal
  pub token : Terminal
  pub after : List Terminal
  pub tokens_are : tokens ≡ before ++ token ∷ after
  pub place : at ≡ token.start
  pub goes_on : IsViable before
  pub stops : IsAtFault (before ++ token ∷ [])
