-- What a buffer of the caller holds, into which the result of a call goes.
-- Source: our own.
use Rattle.std.specs.Prelude.{◌≡◌, ◌≤◌, ◌<◌, ℕ, List, length, take, drop}

-- a result stands at the head of the buffer, and its length was said; after it the buffer is as it was
pub record IsPut {A : Type 0} (text : List A) (said : ℕ) (old new : List A) : Type 0 where
  pub said_length : said ≡ length text
  pub fits : said ≤ length old
  pub head : take said new ≡ text
  pub after : drop said new ≡ drop said old

-- a result is longer than the buffer, and its length was said
pub record IsTooShort {A : Type 0} (text : List A) (said : ℕ) (old : List A) : Type 0 where
  pub said_length : said ≡ length text
  pub beyond : length old < said

-- a text stands at the head of the buffer where it fits; where it does not the buffer is as it was
pub record IsPutIfFits (text : List ℕ) (said : ℕ) (old new : List ℕ) : Type 0 where
  pub said_length : said ≡ length text
  pub put : said ≤ length old → IsPut text said old new
  pub kept : length old < said → new ≡ old
