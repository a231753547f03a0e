-- Formats of fields that are read from left to right, each as one value: which bytes spell a value, and the first refusal of
-- bytes that spell none. A list of bytes is a list of numbers below 256.
-- Source: our own.
use Rattle.std.specs.Prelude.{◌≡◌, ℕ, zero, suc, ◌-◌, ◌^◌, ◌<◌, Bool, true, List, [], ◌∷◌, ◌++◌, length, take, drop, Option, Some, None, Result, Ok, Err, nat_lt, ◌==◌, if◌then◌else◌}
use Rattle.std.specs.Int.{w32, to_be_bytes, from_be_bytes}
use Rattle.std.specs.List.{flat_map, position_or_len, slice_get, AllByRecursion}
use Rattle.modules.specs.Opcodes.{Coding, instructions, code_bytes, HasSpelling}
use Rattle.modules.specs.declared.version.Version.{Version}
use Rattle.modules.specs.declared.instruction.Instruction.{Instruction}
use Rattle.modules.specs.declared.fault.FormatRefusalKind.{FormatRefusalKind}
use Rattle.modules.specs.declared.fault.ReadRefusal.{ReadRefusal}
use Rattle.modules.specs.declared.fault.FormatRefusalKind.TheVariants.{Short, BadValue, Trailing}

-- a format of values of a type
pub data ByteFormat : Type 0 → Type 1 where
  -- one byte, which is the number of one of these values, told apart by a test
  OneOf : {A : Type 0} → (A → A → Bool) → List A → ByteFormat A
  -- a number in four bytes, the highest first
  Number : ByteFormat ℕ
  -- a length, and that many bytes
  Text : ByteFormat (List ℕ)
  -- no byte at all, for one value
  Nothing : {A : Type 0} → A → ByteFormat A
  -- a given number in four bytes, whose absence is the given refusal, and then a value
  Marked : {A : Type 0} → FormatRefusalKind → ℕ → ByteFormat A → ByteFormat A
  -- a value that passes a test, whose failure is the given refusal at the value's first byte
  Checked : {A : Type 0} → FormatRefusalKind → (A → Bool) → ByteFormat A → ByteFormat A
  -- a value, and then another one of a format that may depend on the first
  Then : {A B : Type 0} → ByteFormat A → (A → ByteFormat B) → ByteFormat (A × B)
  -- a count that passes a test, and then that many values, each of a format that may depend on those before it
  Counted : {A : Type 0} → (ℕ → Bool) → (List A → ByteFormat A) → ByteFormat (List A)
  -- a length, and instructions of a version, of that many bytes
  Code : Version → ByteFormat (List Instruction)
  -- a value that is made of fields, and taken apart
  Named : {A B : Type 0} → (A → B) → (B → A) → ByteFormat A → ByteFormat B

-- ---- which bytes spell a value

-- a number in four bytes, the highest first
abbrev pub SpellsNumber : ℕ → List ℕ → Type 0
SpellsNumber n bytes = (n < 2 ^ 32) × (bytes ≡ to_be_bytes w32 n)

-- bytes of the one kind, and then bytes of the other
abbrev pub AreInTurn : (first second : List ℕ → Type 0) → List ℕ → Type 0
AreInTurn first second bytes = (front : List ℕ) × (back : List ℕ) × first front × second back × (bytes ≡ front ++ back)

-- the values one after the other, each spelled with those before it at hand
abbrev pub SpellsEach : {A : Type 0} → (List A → A → List ℕ → Type 0) → List A → List A → List ℕ → Type 0
SpellsEach one before [] bytes = bytes ≡ []
SpellsEach one before (x ∷ xs) bytes = AreInTurn (one before x) (SpellsEach one (before ++ x ∷ []) xs) bytes

-- the bytes are the spelling of the value, each of them
abbrev pub Spells : {A : Type 0} → ByteFormat A → A → List ℕ → Type 0
Spells (OneOf same values) x bytes = (number : ℕ) × (slice_get values number ≡ Some x) × (bytes ≡ number ∷ [])
Spells Number n bytes = SpellsNumber n bytes
Spells Text text bytes = AreInTurn (SpellsNumber (length text)) (λ rest. rest ≡ text) bytes
Spells (Nothing a) x bytes = (x ≡ a) × (bytes ≡ [])
Spells (Marked kind n form) x bytes = AreInTurn (SpellsNumber n) (Spells form x) bytes
Spells (Checked kind test form) x bytes = (test x ≡ true) × Spells form x bytes
Spells (Then first second) x bytes = AreInTurn (Spells first x.0) (Spells (second x.0) x.1) bytes
Spells (Counted test one) xs bytes =
    (test (length xs) ≡ true) × AreInTurn (SpellsNumber (length xs)) (SpellsEach (λ before x. Spells (one before) x) [] xs) bytes
Spells (Code version) code bytes =
    AllByRecursion (HasSpelling version) code × AreInTurn (SpellsNumber (length (code_bytes code))) (λ rest. rest ≡ code_bytes code) bytes
Spells (Named make fields form) x bytes = (make (fields x) ≡ x) × Spells form (fields x) bytes

-- ---- reading, and the first refusal

-- a refusal at the offset where these bytes are left
abbrev pub stop_at : FormatRefusalKind → List ℕ → ReadRefusal
stop_at kind bytes = record { kind = kind; left = length bytes }

-- the bytes end inside a field or before it: nothing is left at the end
abbrev pub short : ReadRefusal
short = record { kind = Short; left = 0 }

infixl 10 ◌>>=◌
abbrev pub ◌>>=◌ : {A B : Type 0} → Result A ReadRefusal → (A → Result B ReadRefusal) → Result B ReadRefusal
(Ok x) >>= f = f x
(Err stop) >>= f = Err stop

-- a field gives a value and the bytes after it
abbrev pub Read : Type 0 → Type 0
Read A = Result (A × List ℕ) ReadRefusal

abbrev pub byte_at : List ℕ → Read ℕ
byte_at [] = Err short
byte_at (b ∷ rest) = Ok (b, rest)

abbrev pub number_at : List ℕ → Read ℕ
number_at bytes = if nat_lt (length bytes) 4 then Err short else Ok (from_be_bytes w32 (take 4 bytes), drop 4 bytes)

-- this many bytes
abbrev pub bytes_at : ℕ → List ℕ → Read (List ℕ)
bytes_at n bytes = if nat_lt (length bytes) n then Err short else Ok (take n bytes, drop n bytes)

-- an opcode and its operand
abbrev pub spelled_instruction : {A : Type 0} → Coding A → A → List ℕ
spelled_instruction coding x = coding.opcode x ∷ coding.operand x

abbrev pub spelled_code : {A : Type 0} → Coding A → List A → List ℕ
spelled_code coding xs = flat_map (spelled_instruction coding) xs

-- an instruction is the one that its opcode and its operand spell
pub record IsCoded {A : Type 0} (coding : Coding A) (x : A) : Type 0 where
  pub byte : coding.opcode x < 256
  pub width : coding.operand_width (coding.opcode x) ≡ Some (length (coding.operand x))
  pub itself : coding.instruction (coding.opcode x) (coding.operand x) ≡ Some x

-- this many values, after those before
abbrev pub each_at : {A : Type 0} → (List A → List ℕ → Read A) → ℕ → List A → List ℕ → Read (List A)
each_at one zero before bytes = Ok (before, bytes)
each_at one (suc count) before bytes = do
  x ← one before bytes
  each_at one count (before ++ x.0 ∷ []) x.1

-- what a byte or an operand was found to spell; where it has no meaning, a refusal at it
abbrev pub meant : {A : Type 0} → Option A → List ℕ → List ℕ → Read A
meant None bytes rest = Err (stop_at BadValue bytes)
meant (Some x) bytes rest = Ok (x, rest)

-- the instruction of an opcode and the width of its operand, within the room that the code has: it must end there
abbrev pub operand_at : {A : Type 0} → Coding A → ℕ → ℕ → List ℕ → Option ℕ → List ℕ → Read A
operand_at coding room opcode bytes None rest = Err (stop_at BadValue bytes)
operand_at coding room opcode bytes (Some width) rest =
    if nat_lt width room
    then (bytes_at width rest >>= λ operand. meant (coding.instruction opcode operand.0) rest operand.1)
    else Err (stop_at BadValue bytes)

abbrev pub instruction_in : {A : Type 0} → Coding A → ℕ → List ℕ → Read A
instruction_in coding room bytes = do
  opcode ← byte_at bytes
  operand_at coding room opcode.0 bytes (coding.operand_width opcode.0) opcode.1

-- the instructions in the room that is left, after those before; the first number is at least the room
abbrev pub code_at : {A : Type 0} → Coding A → ℕ → ℕ → List A → List ℕ → Read (List A)
code_at coding zero room before bytes = Ok (before, bytes)
code_at coding (suc more) zero before bytes = Ok (before, bytes)
code_at coding (suc more) (suc room) before bytes = do
  x ← instruction_in coding (suc room) bytes
  code_at coding more (suc room - length (spelled_instruction coding x.0)) (before ++ x.0 ∷ []) x.1

-- a value of the format at the front, and the bytes after it, or the first refusal
abbrev pub read : {A : Type 0} → ByteFormat A → List ℕ → Read A
read (OneOf same values) bytes = do
  number ← byte_at bytes
  meant (slice_get values number.0) bytes number.1
read Number bytes = number_at bytes
read Text bytes = do
  size ← number_at bytes
  bytes_at size.0 size.1
read (Nothing a) bytes = Ok (a, bytes)
read (Marked kind n form) bytes = do
  found ← number_at bytes
  if found.0 == n then read form found.1 else Err (stop_at kind bytes)
read (Checked kind test form) bytes = do
  found ← read form bytes
  if test found.0 then Ok found else Err (stop_at kind bytes)
read (Then first second) bytes = do
  a ← read first bytes
  b ← read (second a.0) a.1
  Ok ((a.0, b.0), b.1)
read (Counted test one) bytes = do
  count ← number_at bytes
  if test count.0 then each_at (λ before rest. read (one before) rest) count.0 [] count.1 else Err (stop_at BadValue bytes)
read (Code version) bytes = do
  size ← number_at bytes
  code_at (instructions version) size.0 size.0 [] size.1
read (Named make fields form) bytes = do
  found ← read form bytes
  Ok (make found.0, found.1)

-- all of the bytes
abbrev pub read_all : {A : Type 0} → ByteFormat A → List ℕ → Result A ReadRefusal
read_all form bytes = do
  found ← read form bytes
  if length found.1 == 0 then Ok found.0 else Err (stop_at Trailing found.1)

-- ---- parts of the rules, by which proofs speak of them

abbrev pub spelled_each : {A : Type 0} → (List A → A → List ℕ) → List A → List A → List ℕ
spelled_each one before [] = []
spelled_each one before (x ∷ xs) = one before x ++ spelled_each one (before ++ x ∷ []) xs

-- the bytes that spell a value that fits the format
abbrev pub spelled : {A : Type 0} → ByteFormat A → A → List ℕ
spelled (OneOf same values) x = position_or_len (same x) values ∷ []
spelled Number n = to_be_bytes w32 n
spelled Text text = to_be_bytes w32 (length text) ++ text
spelled (Nothing a) x = []
spelled (Marked kind n form) x = to_be_bytes w32 n ++ spelled form x
spelled (Checked kind test form) x = spelled form x
spelled (Then first second) x = spelled first x.0 ++ spelled (second x.0) x.1
spelled (Counted test one) xs = to_be_bytes w32 (length xs) ++ spelled_each (λ before x. spelled (one before) x) [] xs
spelled (Code version) code = to_be_bytes w32 (length (code_bytes code)) ++ code_bytes code
spelled (Named make fields form) x = spelled form (fields x)

abbrev pub FitEach : {A : Type 0} → (List A → A → Type 0) → List A → List A → Type 0
FitEach one before [] = Unit {0}
FitEach one before (x ∷ xs) = one before x × FitEach one (before ++ x ∷ []) xs

-- the values of the format: those that have a spelling
abbrev pub Fits : {A : Type 0} → ByteFormat A → A → Type 0
Fits (OneOf same values) x = slice_get values (position_or_len (same x) values) ≡ Some x
Fits Number n = n < 2 ^ 32
Fits Text text = length text < 2 ^ 32
Fits (Nothing a) x = x ≡ a
Fits (Marked kind n form) x = Fits form x
Fits (Checked kind test form) x = Fits form x × (test x ≡ true)
Fits (Then first second) x = Fits first x.0 × Fits (second x.0) x.1
Fits (Counted test one) xs = (length xs < 2 ^ 32) × (test (length xs) ≡ true) × FitEach (λ before x. Fits (one before) x) [] xs
Fits (Code version) code = (length (code_bytes code) < 2 ^ 32) × AllByRecursion (HasSpelling version) code
Fits (Named make fields form) x = Fits form (fields x) × (make (fields x) ≡ x)
