-- A refusal stands inside the bytes or at their end, and so does what is left after a value.
use Rattle.std.proofs.Common.{◌≡◌, ℕ, zero, suc, ◌-◌, ◌≤◌, Bool, true, false, cond, ltb, eqb, List, [], ◌∷◌, ◌++◌, length, drop, take, Option, Some, None, Result, Ok, Err, subst, arith}
use Rattle.std.proofs.lemmas.List.{length-drop}
use Rattle.std.specs.Int.{w32, from_be_bytes}
use Rattle.std.specs.List.{slice_get}
use Rattle.modules.specs.declared.fault.ReadRefusal.{ReadRefusal}
use Rattle.modules.specs.declared.fault.FormatRefusalKind.TheVariants.{BadValue, Trailing}
use Rattle.modules.specs.Opcodes.{Coding, instructions}
use Rattle.modules.specs.ByteFormat.{ByteFormat, OneOf, Number, Text, Nothing, Marked, Checked, Then, Counted, Code, Named, stop_at, short, ◌>>=◌, Read, number_at, bytes_at, each_at, meant, operand_at, instruction_in, code_at, spelled_instruction, read, read_all}

-- at most this many bytes are left, after the value or at the refusal
abbrev IsInside : {A : Type 0} → ℕ → Read A → Type 0
IsInside n (Ok x) = length x.1 ≤ n
IsInside n (Err stop) = stop.left ≤ n

fewer : {A : Type 0} (m n : ℕ) (r : Read A) → m ≤ n → IsInside m r → IsInside n r
fewer m n (Ok x) le h = omega arith
fewer m n (Err stop) le h = omega arith

bound : {A B : Type 0} (n : ℕ) (r : Read A) (f : A × List ℕ → Read B) → IsInside n r → ((x : A × List ℕ) → length x.1 ≤ n → IsInside n (f x)) → IsInside n (r >>= f)
bound n (Ok x) f h next = next x h
bound n (Err stop) f h next = h

-- the next step begins with what is left
next_at : {A B : Type 0} (n : ℕ) (r : Read A) (f : A × List ℕ → Read B) → IsInside n r → ((x : A × List ℕ) → IsInside (length x.1) (f x)) → IsInside n (r >>= f)
next_at n r f h next = bound n r f h (λ x le. fewer (length x.1) n (f x) le (next x))

tested : {A : Type 0} (n : ℕ) (b : Bool) (r : Read A) (stop : ReadRefusal) → IsInside n r → stop.left ≤ n → IsInside n (cond b r (Err stop))
tested n true r stop h s = h
tested n false r stop h s = s

spared_inside : {A : Type 0} (n : ℕ) (b : Bool) (r : Read A) (stop : ReadRefusal) → IsInside n r → stop.left ≤ n → IsInside n (cond b (Err stop) r)
spared_inside n true r stop h s = s
spared_inside n false r stop h s = h

number_inside : (bytes : List ℕ) → IsInside (length bytes) (number_at bytes)
number_inside bytes = spared_inside (length bytes) (ltb (length bytes) 4) (Ok (from_be_bytes w32 (take 4 bytes), drop 4 bytes)) short (omega (arith, length-drop 4 bytes)) (omega arith)

bytes_inside : (n : ℕ) (bytes : List ℕ) → IsInside (length bytes) (bytes_at n bytes)
bytes_inside n bytes = spared_inside (length bytes) (ltb (length bytes) n) (Ok (take n bytes, drop n bytes)) short (omega (arith, length-drop n bytes)) (omega arith)

each_inside : {A : Type 0} (one : List A → List ℕ → Read A) → ((before : List A) (bytes : List ℕ) → IsInside (length bytes) (one before bytes)) → (count : ℕ) (before : List A) (bytes : List ℕ) → IsInside (length bytes) (each_at one count before bytes)
each_inside one inside zero before bytes = omega arith
each_inside one inside (suc count) before bytes =
    next_at (length bytes) (one before bytes) (λ x. each_at one count (before ++ x.0 ∷ []) x.1) (inside before bytes) (λ x. each_inside one inside count (before ++ x.0 ∷ []) x.1)

meant_inside : {A : Type 0} (found : Option A) (bytes rest : List ℕ) (n : ℕ) → length bytes ≤ n → length rest ≤ n → IsInside n (meant found bytes rest)
meant_inside None bytes rest n b r = b
meant_inside (Some x) bytes rest n b r = r

operand_inside : {A : Type 0} (coding : Coding A) (room opcode : ℕ) (bytes : List ℕ) (width : Option ℕ) (rest : List ℕ) → length rest ≤ length bytes → IsInside (length bytes) (operand_at coding room opcode bytes width rest)
operand_inside coding room opcode bytes None rest le = omega arith
operand_inside coding room opcode bytes (Some width) rest le =
    tested (length bytes) (ltb width room) (bytes_at width rest >>= λ operand. meant (coding.instruction opcode operand.0) rest operand.1) (stop_at BadValue bytes)
    (fewer (length rest) (length bytes) (bytes_at width rest >>= λ operand. meant (coding.instruction opcode operand.0) rest operand.1) le
    (bound (length rest) (bytes_at width rest) (λ operand. meant (coding.instruction opcode operand.0) rest operand.1) (bytes_inside width rest) (λ x after. meant_inside (coding.instruction opcode x.0) rest x.1 (length rest) (omega arith) after)))
    (omega arith)

instruction_inside : {A : Type 0} (coding : Coding A) (room : ℕ) (bytes : List ℕ) → IsInside (length bytes) (instruction_in coding room bytes)
instruction_inside coding room [] = omega arith
instruction_inside coding room (opcode ∷ rest) = operand_inside coding room opcode (opcode ∷ rest) (coding.operand_width opcode) rest (omega arith)

code_inside : {A : Type 0} (coding : Coding A) (most room : ℕ) (before : List A) (bytes : List ℕ) → IsInside (length bytes) (code_at coding most room before bytes)
code_inside coding zero room before bytes = omega arith
code_inside coding (suc most) zero before bytes = omega arith
code_inside coding (suc most) (suc room) before bytes =
    next_at (length bytes) (instruction_in coding (suc room) bytes) (λ x. code_at coding most (suc room - length (spelled_instruction coding x.0)) (before ++ x.0 ∷ []) x.1) (instruction_inside coding (suc room) bytes) (λ x. code_inside coding most (suc room - length (spelled_instruction coding x.0)) (before ++ x.0 ∷ []) x.1)

inside : {A : Type 0} (form : ByteFormat A) (bytes : List ℕ) → IsInside (length bytes) (read form bytes)
inside (OneOf same values) [] = omega arith
inside (OneOf same values) (b ∷ bytes) = meant_inside (slice_get values b) (b ∷ bytes) bytes (length (b ∷ bytes)) (omega arith) (omega arith)
inside Number bytes = number_inside bytes
inside Text bytes = next_at (length bytes) (number_at bytes) (λ size. bytes_at size.0 size.1) (number_inside bytes) (λ size. bytes_inside size.0 size.1)
inside (Nothing a) bytes = omega arith
inside (Marked kind n form) bytes =
    bound (length bytes) (number_at bytes) (λ found. cond (eqb found.0 n) (read form found.1) (Err (stop_at kind bytes))) (number_inside bytes)
    (λ found le. tested (length bytes) (eqb found.0 n) (read form found.1) (stop_at kind bytes) (fewer (length found.1) (length bytes) (read form found.1) le (inside form found.1)) (omega arith))
inside (Checked kind test form) bytes =
    bound (length bytes) (read form bytes) (λ found. cond (test found.0) (Ok found) (Err (stop_at kind bytes))) (inside form bytes)
    (λ found le. tested (length bytes) (test found.0) (Ok found) (stop_at kind bytes) le (omega arith))
inside (Then first second) bytes =
    next_at (length bytes) (read first bytes) (λ a. read (second a.0) a.1 >>= λ b. Ok ((a.0, b.0), b.1)) (inside first bytes)
    (λ a. bound (length a.1) (read (second a.0) a.1) (λ b. Ok ((a.0, b.0), b.1)) (inside (second a.0) a.1) (λ b le. le))
inside (Counted test one) bytes =
    bound (length bytes) (number_at bytes) (λ count. cond (test count.0) (each_at (λ before rest. read (one before) rest) count.0 [] count.1) (Err (stop_at BadValue bytes))) (number_inside bytes)
    (λ count le. tested (length bytes) (test count.0) (each_at (λ before rest. read (one before) rest) count.0 [] count.1) (stop_at BadValue bytes)
    (fewer (length count.1) (length bytes) (each_at (λ before rest. read (one before) rest) count.0 [] count.1) le (each_inside (λ before rest. read (one before) rest) (λ before rest. inside (one before) rest) count.0 [] count.1)) (omega arith))
inside (Code version) bytes = next_at (length bytes) (number_at bytes) (λ size. code_at (instructions version) size.0 size.0 [] size.1) (number_inside bytes) (λ size. code_inside (instructions version) size.0 size.0 [] size.1)
inside (Named make fields form) bytes = bound (length bytes) (read form bytes) (λ found. Ok (make found.0, found.1)) (inside form bytes) (λ found le. le)

abbrev answer : {A : Type 0} → Bool → A → ReadRefusal → Result A ReadRefusal
answer b x other = cond b (Ok x) (Err other)

trailing : {A : Type 0} (b : Bool) (x : A) (other stop : ReadRefusal) (n : ℕ) → answer b x other ≡ Err stop → other.left ≤ n → stop.left ≤ n
trailing true x other stop n e h = absurd cc
trailing false x other stop n e h = let same : other ≡ stop = cc in subst (λ (s : ReadRefusal). s.left ≤ n) same h

-- all of the bytes as a value of the format
all_inside : {A : Type 0} (form : ByteFormat A) (bytes : List ℕ) (r : Read A) → IsInside (length bytes) r → (stop : ReadRefusal) → (r >>= λ found. cond (eqb (length found.1) 0) (Ok found.0) (Err (stop_at Trailing found.1))) ≡ Err stop → stop.left ≤ length bytes
all_inside form bytes (Ok x) h stop e = trailing (eqb (length x.1) 0) x.0 (stop_at Trailing x.1) stop (length bytes) e h
all_inside form bytes (Err other) h stop e = let same : other ≡ stop = cc in subst (λ (s : ReadRefusal). s.left ≤ length bytes) same h

pub stop_inside : {A : Type 0} (form : ByteFormat A) (bytes : List ℕ) (stop : ReadRefusal) → read_all form bytes ≡ Err stop → stop.left ≤ length bytes
stop_inside form bytes stop e = all_inside form bytes (read form bytes) (inside form bytes) stop e
