-- What is spelled so is read, whatever follows.
use Rattle.std.proofs.Common.{◌≡◌, ℕ, zero, suc, ◌+◌, ◌-◌, ◌≤◌, Bool, true, cond, ltb, eqb, List, [], ◌∷◌, ◌++◌, length, Option, None, Ok, Err, refl, sym, ap, ◌∙◌, append_assoc, arith, length-append}
use Rattle.std.specs.Int.{w32, to_be_bytes}
use Rattle.std.specs.List.{AllByRecursion, position_or_len}
use Rattle.std.proofs.lemmas.Bool.{lt-ltb, eq-eqb}
use Rattle.std.proofs.lemmas.List.{append-nil}
use Rattle.modules.specs.declared.fault.FormatRefusalKind.TheVariants.{BadValue}
use Rattle.modules.specs.Opcodes.{Coding, code_bytes, instructions}
use Rattle.modules.specs.declared.instruction.Instruction.{Instruction}
use Rattle.modules.specs.declared.version.Version.{Version}
use Rattle.modules.specs.ByteFormat.{number_at, stop_at, ByteFormat, OneOf, Number, Text, Nothing, Marked, Checked, Then, Counted, Code, Named, spelled_each, spelled_instruction, spelled_code, spelled, FitEach, IsCoded, Fits, ◌>>=◌, Read, bytes_at, each_at, meant, operand_at, instruction_in, code_at, read}
use Rattle.modules.proofs.Spelling.{all_coded, code-bytes}
use Rattle.bytecode.proofs.Steps.{bytes_again, number_again}
use Rattle.bytecode.proofs.Coherent.{Coherent}

abbrev IsReadAgain : {A : Type 0} → ByteFormat A → Type 0
IsReadAgain {A} form = (x : A) (rest : List ℕ) → Fits form x → read form (spelled form x ++ rest) ≡ Ok (x, rest)

each_again : {A : Type 0} (one : List A → ByteFormat A) → ((before : List A) → IsReadAgain (one before)) → (before xs : List A) (rest : List ℕ) → FitEach (λ seen x. Fits (one seen) x) before xs
    → each_at (λ seen left. read (one seen) left) (length xs) before (spelled_each (λ seen x. spelled (one seen) x) before xs ++ rest) ≡ Ok (before ++ xs, rest)
each_again one law before [] rest fits = ap (λ l. Ok (l, rest)) (sym (append-nil before))
each_again {A} one law before (x ∷ xs) rest fits =
    let first = spelled (one before) x in
    let others = spelled_each (λ seen y. spelled (one seen) y) (before ++ x ∷ []) xs in
    let goes = λ (r : Read A). r >>= λ y. each_at (λ seen left. read (one seen) left) (length xs) (before ++ y.0 ∷ []) y.1 in
    ap (λ (bytes : List ℕ). goes (read (one before) bytes)) (append_assoc first others rest)
    ∙ ap goes (law before x (others ++ rest) fits.0)
    ∙ each_again one law (before ++ x ∷ []) xs rest fits.1
    ∙ ap (λ l. Ok (l, rest)) (append_assoc before (x ∷ []) xs)

pub instruction_again : {A : Type 0} (coding : Coding A) (room : ℕ) (x : A) (rest : List ℕ) → IsCoded coding x → length (spelled_instruction coding x) ≤ room
    → instruction_in coding room (spelled_instruction coding x ++ rest) ≡ Ok (x, rest)
instruction_again {A} coding room x rest coded inside =
    let operand = coding.operand x in
    let all = coding.opcode x ∷ (operand ++ rest) in
    let fits : ltb (length operand) room ≡ true = lt-ltb _ _ (omega arith) in
    ap (λ (w : Option ℕ). operand_at coding room (coding.opcode x) all w (operand ++ rest)) coded.width
    ∙ ap (λ (b : Bool). cond b (bytes_at (length operand) (operand ++ rest) >>= λ found. meant (coding.instruction (coding.opcode x) found.0) (operand ++ rest) found.1) (operand_at coding room (coding.opcode x) all None (operand ++ rest))) fits
    ∙ ap (λ (r : Read (List ℕ)). r >>= λ found. meant (coding.instruction (coding.opcode x) found.0) (operand ++ rest) found.1) (bytes_again operand rest (length operand) refl)
    ∙ ap (λ (found : Option A). meant found (operand ++ rest) rest) coded.itself

code_again : {A : Type 0} (coding : Coding A) (most : ℕ) (before xs : List A) (rest : List ℕ) → AllByRecursion (IsCoded coding) xs → length (spelled_code coding xs) ≤ most
    → code_at coding most (length (spelled_code coding xs)) before (spelled_code coding xs ++ rest) ≡ Ok (before ++ xs, rest)
code_again coding zero before [] rest coded inside = ap (λ l. Ok (l, rest)) (sym (append-nil before))
code_again coding (suc most) before [] rest coded inside = ap (λ l. Ok (l, rest)) (sym (append-nil before))
code_again coding zero before (x ∷ xs) rest coded inside = absurd (omega arith)
code_again {A} coding (suc most) before (x ∷ xs) rest coded inside =
    let first = spelled_instruction coding x in
    let others = spelled_code coding xs in
    let size : length (first ++ others) ≡ length first + length others = length-append first others in
    let left : length (first ++ others) - length first ≡ length others = omega (arith, size) in
    let goes = λ (r : Read A). r >>= λ y. code_at coding most (length (first ++ others) - length (spelled_instruction coding y.0)) (before ++ y.0 ∷ []) y.1 in
    ap (λ (bytes : List ℕ). goes (instruction_in coding (length (first ++ others)) bytes)) (append_assoc first others rest)
    ∙ ap goes (instruction_again coding (length (first ++ others)) x (others ++ rest) coded.0 (omega (arith, size)))
    ∙ ap (λ (n : ℕ). code_at coding most n (before ++ x ∷ []) (others ++ rest)) left
    ∙ code_again coding most (before ++ x ∷ []) xs rest coded.1 (omega (arith, size, inside))
    ∙ ap (λ l. Ok (l, rest)) (append_assoc before (x ∷ []) xs)

-- the bytes of code are those that readers of its version take
version_again : (version : Version) (code : List Instruction) (rest : List ℕ) → Fits (Code version) code → read (Code version) (spelled (Code version) code ++ rest) ≡ Ok (code, rest)
version_again version code rest fits =
    let coding = instructions version in
    let bytes = code_bytes code in
    let read_code = λ (size : ℕ × List ℕ). code_at coding size.0 size.0 [] size.1 in
    let goes = λ (spelling : List ℕ). code_at coding (length bytes) (length spelling) [] (spelling ++ rest) in
    let same = code-bytes version code in
    ap (λ (w : List ℕ). read (Code version) w) (append_assoc (to_be_bytes w32 (length bytes)) bytes rest)
    ∙ ap (λ (r : Read ℕ). r >>= read_code) (number_again (length bytes) (bytes ++ rest) fits.0)
    ∙ ap goes (sym same)
    ∙ code_again coding (length bytes) [] code rest (all_coded version code fits.1) (omega (arith, ap length same))

pub again : {A : Type 0} (form : ByteFormat A) → Coherent form → IsReadAgain form
again (OneOf {A} same values) coherent x rest fits = ap (λ (found : Option A). meant found (position_or_len (same x) values ∷ rest) rest) fits
again Number coherent x rest fits = number_again x rest fits
again Text coherent x rest fits =
    ap (λ (bytes : List ℕ). read Text bytes) (append_assoc (to_be_bytes w32 (length x)) x rest)
    ∙ ap (λ (r : Read ℕ). r >>= λ size. bytes_at size.0 size.1) (number_again (length x) (x ++ rest) fits)
    ∙ bytes_again x rest (length x) refl
again (Nothing a) coherent x rest fits = ap (λ b. Ok (b, rest)) (sym fits)
again (Marked {A} kind n form) coherent x rest fits =
    let left = spelled form x ++ rest in
    let complete = (to_be_bytes w32 n ++ spelled form x) ++ rest in
    let number : number_at complete ≡ Ok (n, left) = ap number_at (append_assoc (to_be_bytes w32 n) (spelled form x) rest) ∙ number_again n left coherent.0 in
    let fault : Read A = Err (stop_at kind complete) in
    ap (λ (r : Read ℕ). r >>= λ found. cond (eqb found.0 n) (read form found.1) fault) number
    ∙ ap (λ (b : Bool). cond b (read form left) fault) (eq-eqb n n refl)
    ∙ again form coherent.1 x rest fits
again (Checked {A} kind test form) coherent x rest fits =
    let fault : Read A = Err (stop_at kind (spelled form x ++ rest)) in
    let found : Read A = Ok (x, rest) in
    ap (λ (r : Read A). r >>= λ y. cond (test y.0) (Ok y) fault) (again form coherent x rest fits.0)
    ∙ ap (λ (b : Bool). cond b found fault) fits.1
again (Then {A} {B} first second) coherent x rest fits =
    let one = spelled first x.0 in
    let two = spelled (second x.0) x.1 in
    ap (λ (bytes : List ℕ). read (Then first second) bytes) (append_assoc one two rest)
    ∙ ap (λ (r : Read A). r >>= λ a. read (second a.0) a.1 >>= λ b. Ok ((a.0, b.0), b.1)) (again first coherent.0 x.0 (two ++ rest) fits.0)
    ∙ ap (λ (r : Read B). r >>= λ b. Ok ((x.0, b.0), b.1)) (again (second x.0) (coherent.1 x.0) x.1 rest fits.1)
again (Counted {A} test one) coherent x rest fits =
    let elements = spelled_each (λ seen y. spelled (one seen) y) [] x in
    let complete = (to_be_bytes w32 (length x) ++ elements) ++ rest in
    let number : number_at complete ≡ Ok (length x, elements ++ rest) = ap number_at (append_assoc (to_be_bytes w32 (length x)) elements rest) ∙ number_again (length x) (elements ++ rest) fits.0 in
    let each = λ (count : ℕ) (left : List ℕ). each_at (λ seen after. read (one seen) after) count [] left in
    let fault : Read (List A) = Err (stop_at BadValue complete) in
    ap (λ (r : Read ℕ). r >>= λ count. cond (test count.0) (each count.0 count.1) fault) number
    ∙ ap (λ (b : Bool). cond b (each (length x) (elements ++ rest)) fault) fits.1
    ∙ each_again one (λ before. again (one before) (coherent before)) [] x rest fits.2
again (Code version) coherent x rest fits = version_again version x rest fits
again (Named {A} {B} make fields form) coherent x rest fits =
    ap (λ (r : Read A). r >>= λ found. Ok (make found.0, found.1)) (again form coherent.0 (fields x) rest fits.0)
    ∙ ap (λ (y : B). Ok (y, rest)) fits.1
