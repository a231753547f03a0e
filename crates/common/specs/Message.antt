-- The number and the words by which a refusal is reported.
-- Source: our own.
use Rattle.std.specs.Prelude.{ℕ, List}

pub record MessageContents : Type 0 where
  pub number : ℕ
  pub words : List ℕ

abbrev pub message : ℕ → List ℕ → MessageContents
message number words = record { number = number; words = words }
