-- Where the instructions of code begin, as a bit for each byte, and how many begin before each word of bits.
-- Source: our own; a bit vector with counts, as it is used for rank queries.
use Rattle.std.specs.Prelude.{◌≡◌, ℕ, zero, suc, ◌*◌, ◌/◌, ◌<◌, ◌≤◌, ◌^◌, false, if◌then◌else◌, List, [], ◌∷◌, length, slice_index_or, Option, Some, None}
use Rattle.labels.specs.Words.{has_bit}
use Rattle.modules.specs.Code.{code_length}
use Rattle.modules.specs.declared.instruction.Instruction.{Instruction}
use Rattle.verifier.specs.Index.{index_of}
use Rattle.verifier.specs.declared.index.Index.TheInside.{Inside}

-- how many bits are set before that of a byte
abbrev pub starts_before : List ℕ → ℕ → ℕ
starts_before starts zero = 0
starts_before starts (suc at) = if has_bit starts at then suc (starts_before starts at) else starts_before starts at

-- the number of the instruction that begins at a byte, if one does: how many begin before it
abbrev pub number_at : List ℕ → ℕ → Option ℕ
number_at starts at = if has_bit starts at then Some (starts_before starts at) else None

-- the same for each of this many bytes, from one on
abbrev pub numbers_of : List ℕ → (from count : ℕ) → List (Option ℕ)
numbers_of starts from zero = []
numbers_of starts from (suc count) = number_at starts from ∷ numbers_of starts (suc from) count

-- the bits of code, where no other one is set
pub record AreCodeStarts (code : List Instruction) (starts : List ℕ) : Type 0 where
  pub enough : code_length code / 64 < length starts
  pub numbers : numbers_of starts 0 (code_length code) ≡ index_of code
  pub clear : (at : ℕ) → code_length code ≤ at → has_bit starts at ≡ false

-- for each word of bits how many are set before it
pub record HasCounts (starts counts : List ℕ) : Type 0 where
  pub long : length starts ≤ length counts
  pub counted : (j : ℕ) → j < length starts → slice_index_or counts j 0 ≡ starts_before starts (64 * j)

-- the bits of fewer than 2^32 bytes, and their counts
pub record IsStoredIndex (inside : Inside) : Type 0 where
  pub short : inside.size < 2 ^ 32
  pub enough : inside.size / 64 < length inside.starts.items
  pub counts : HasCounts inside.starts.items inside.counts.items
