-- Sets of numbers in words of 64 bits, and how the words of one are joined into those of another.
-- Source: our own.
use Rattle.std.specs.Prelude.{◌≡◌, ◌≢◌, ℕ, zero, suc, ◌+◌, ◌*◌, ◌<◌, ◌≤◌, ◌/◌, ◌%◌, ◌^◌, List, [], ◌∷◌, length, Bool, true, false, ◌==◌, slice_index_or, bit_and, bit_or, IsTrue, Option, Some, None}
use Rattle.std.specs.Int.{bit_at}
use Rattle.labels.specs.declared.rows.Row.TheInside.{Inside}

-- a word, 0 beyond the last one
abbrev pub word : List ℕ → ℕ → ℕ
word words j = slice_index_or words j 0

-- each word has 64 bits
abbrev pub AreWords : List ℕ → Type 0
AreWords words = (j : ℕ) → word words j < 2 ^ 64

-- a piece: the words, 32 at most, that stand there
pub record IsWordPiece (words : List ℕ) (number : ℕ) (piece : List ℕ) : Type 0 where
  pub each : (j : ℕ) → j < 32 → word piece j ≡ word words (32 * number + j)
  pub short : length piece ≤ 32
  pub fits : 32 * number ≤ length words → 32 * number + length piece ≤ length words

-- whether the bit of a number is set
abbrev pub has_bit : List ℕ → ℕ → Bool
has_bit words i = bit_at (word words (i / 64)) (i % 64) == 1

-- the bits of this many numbers, from one on
abbrev pub bits_of : List ℕ → (from count : ℕ) → List Bool
bits_of words i zero = []
bits_of words i (suc n) = has_bit words i ∷ bits_of words (suc i) n

-- there are words enough for the numbers below n, and no bit of another number is set
pub record IsStoredRow (inside : Inside) : Type 0 where
  pub enough : length inside.words.items ≡ inside.n / 64 + 1
  pub clear : (i : ℕ) → inside.n ≤ i → has_bit inside.words.items i ≡ false

-- joined with another word, a word stays as it is
abbrev pub WordStays : (words others : List ℕ) → ℕ → Type 0
WordStays words others j = bit_or (word words j) (word others j) ≡ word words j

-- some of these words do not stay as they are
pub record SomeGrow (words others : List ℕ) (first last : ℕ) : Type 0 where
  pub at : ℕ
  pub from : first ≤ at
  pub to : at < last
  pub grows : bit_or (word words at) (word others at) ≢ word words at

-- whether some of these words do not stay as they are
abbrev pub GrowBetween : (words others : List ℕ) → (first last : ℕ) → Bool → Type 0
GrowBetween words others first last true = SomeGrow words others first last
GrowBetween words others first last false = (j : ℕ) → first ≤ j → j < last → WordStays words others j

-- the words between two indices are joined with others, and the other words stay
pub record AreJoined (old others new : List ℕ) (first last : ℕ) (grew : Bool) : Type 0 where
  pub count : length new ≡ length old
  pub joined : (j : ℕ) → first ≤ j → j < last → word new j ≡ bit_or (word old j) (word others j)
  pub before : (j : ℕ) → j < first → word new j ≡ word old j
  pub after : (j : ℕ) → last ≤ j → word new j ≡ word old j
  pub grow : GrowBetween old others first last grew

-- this many words, from an index on, are joined with others, and the other words stay
pub record AreJoinedAt (old others new : List ℕ) (at count : ℕ) : Type 0 where
  pub same : length new ≡ length old
  pub joined : (j : ℕ) → j < count → word new (at + j) ≡ bit_or (word old (at + j)) (word others j)
  pub before : (j : ℕ) → j < at → word new j ≡ word old j
  pub after : (j : ℕ) → at + count ≤ j → word new j ≡ word old j

-- the words below an index keep the bits that others have too, and the other words stay
pub record AreWordsMet (old others new : List ℕ) (last : ℕ) : Type 0 where
  pub count : length new ≡ length old
  pub met : (j : ℕ) → j < last → word new j ≡ bit_and (word old j) (word others j)
  pub after : (j : ℕ) → last ≤ j → word new j ≡ word old j

-- each number from one on and below another one whose bit is set here has it set in others too
abbrev pub NoneNew : (words others : List ℕ) → (from to : ℕ) → Type 0
NoneNew words others from to = (i : ℕ) → from ≤ i → i < to → IsTrue (has_bit words i) → IsTrue (has_bit others i)

-- the least number between two whose bit is set here and not in others
pub record IsFirstNew (words others : List ℕ) (from to i : ℕ) : Type 0 where
  pub from_on : from ≤ i
  pub inside : i < to
  pub there : IsTrue (has_bit words i)
  pub missing : has_bit others i ≡ false
  pub before : NoneNew words others from i

-- the same, where there is one
abbrev pub FirstNew : (words others : List ℕ) → (from to : ℕ) → Option ℕ → Type 0
FirstNew words others from to None = NoneNew words others from to
FirstNew words others from to (Some i) = IsFirstNew words others from to i
