-- Which names principals have: names of the language, as a module file holds them.
-- Source: our own.
use Rattle.std.specs.Prelude.{ℕ, ◌≤◌, List, length, IsTrue, IsUtf8}
use Rattle.lexer.specs.Words.{is_name_text}

-- a name in UTF-8, of at most this many bytes
pub record IsUtf8NameWithin (longest : ℕ) (name : List ℕ) : Type 0 where
  pub named : IsTrue (is_name_text name)
  pub characters : IsUtf8 name
  pub short : length name ≤ longest

-- a name whose bytes are counted by four bytes, so that a module file can hold it
abbrev pub IsKeptName : List ℕ → Type 0
IsKeptName name = IsUtf8NameWithin 0xffff_ffff name
