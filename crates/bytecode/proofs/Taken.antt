-- What is read is spelled so, and fits.
use Rattle.std.proofs.Common.{◌≡◌, ℕ, zero, suc, ◌-◌, ◌<◌, ◌≤◌, cond, ltb, eqb, List, [], ◌∷◌, ◌++◌, length, Option, Some, None, Ok, Err, refl, sym, ap, subst, ◌∙◌, append_assoc, arith, length-append}
use Rattle.std.specs.Int.{w32, to_be_bytes}
use Rattle.std.specs.List.{AllByRecursion, position_or_len, slice_get}
use Rattle.std.proofs.lemmas.Bool.{ltb-true, eqb-true}
use Rattle.std.proofs.lemmas.List.{append-nil}
use Rattle.modules.specs.declared.fault.FormatRefusalKind.TheVariants.{BadValue}
use Rattle.modules.specs.Opcodes.{Coding, code_bytes, instructions}
use Rattle.modules.specs.declared.instruction.Instruction.{Instruction}
use Rattle.modules.specs.declared.version.Version.{Version}
use Rattle.modules.specs.ByteFormat.{ByteFormat, OneOf, Number, Text, Nothing, Marked, Checked, Then, Counted, Code, Named, spelled_each, spelled_instruction, spelled_code, spelled, FitEach, IsCoded, Fits, stop_at, ◌>>=◌, number_at, bytes_at, each_at, meant, operand_at, instruction_in, code_at, read}
use Rattle.modules.proofs.Spelling.{all_spelled, code-bytes}
use Rattle.bytecode.proofs.Steps.{IsBytes, bytes_rest, step, passed, same_value, bytes_taken_at, number_taken_at}
use Rattle.bytecode.proofs.Coherent.{IsLawful, Coherent}

-- what a reading of a format gives
pub record Takes {A : Type 0} (form : ByteFormat A) (bytes : List ℕ) (x : A) (rest : List ℕ) : Type 0 where
  pub fits : Fits form x
  pub joined : bytes ≡ spelled form x ++ rest
  pub after : IsBytes rest

-- ---- values one after the other

pub record TakesEach {A : Type 0} (one : List A → ByteFormat A) (count : ℕ) (before : List A) (bytes : List ℕ) (xs : List A) (rest : List ℕ) : Type 0 where
  pub tail : List A
  pub complete : xs ≡ before ++ tail
  pub many : length tail ≡ count
  pub fits : FitEach (λ seen x. Fits (one seen) x) before tail
  pub joined : bytes ≡ spelled_each (λ seen x. spelled (one seen) x) before tail ++ rest
  pub after : IsBytes rest

abbrev IsTaken : {A : Type 0} → ByteFormat A → Type 0
IsTaken {A} form = (bytes : List ℕ) (x : A) (rest : List ℕ) → IsBytes bytes → read form bytes ≡ Ok (x, rest) → Takes form bytes x rest

each_taken : {A : Type 0} (one : List A → ByteFormat A) → ((before : List A) → IsTaken (one before)) → (count : ℕ) (before : List A) (bytes : List ℕ) (xs : List A) (rest : List ℕ) → IsBytes bytes
    → each_at (λ seen left. read (one seen) left) count before bytes ≡ Ok (xs, rest) → TakesEach one count before bytes xs rest
each_taken one law zero before bytes xs rest fits e =
    let both = same_value (before, bytes) (xs, rest) e in
    record {
      tail = [];
      complete = sym (ap (λ p. p.0) both) ∙ sym (append-nil before);
      many = refl;
      fits = tt;
      joined = ap (λ p. p.1) both;
      after = subst IsBytes (ap (λ p. p.1) both) fits;
    }
each_taken {A} one law (suc count) before bytes xs rest fits e =
    let s = step (read (one before) bytes) (λ x. each_at (λ seen left. read (one seen) left) count (before ++ x.0 ∷ []) x.1) (xs, rest) e in
    let x = s.0.0 in
    let t = law before bytes x s.0.1 fits s.1 in
    let u = each_taken one law count (before ++ x ∷ []) s.0.1 xs rest t.after s.2 in
    record {
      tail = x ∷ u.tail;
      complete = u.complete ∙ append_assoc before (x ∷ []) u.tail;
      many = omega (arith, u.many);
      fits = (t.fits, u.fits);
      joined = t.joined ∙ ap (λ (w : List ℕ). spelled (one before) x ++ w) u.joined ∙ sym (append_assoc (spelled (one before) x) (spelled_each (λ seen y. spelled (one seen) y) (before ++ x ∷ []) u.tail) rest);
      after = u.after;
    }

-- ---- code

pub record TakesInstruction {A : Type 0} (coding : Coding A) (room : ℕ) (bytes : List ℕ) (x : A) (rest : List ℕ) : Type 0 where
  pub coded : IsCoded coding x
  pub inside : length (spelled_instruction coding x) ≤ room
  pub joined : bytes ≡ spelled_instruction coding x ++ rest
  pub after : IsBytes rest

meant_taken : {A : Type 0} (found : Option A) (bytes rest : List ℕ) (x : A) (after : List ℕ) → meant found bytes rest ≡ Ok (x, after) → (found ≡ Some x) × (rest ≡ after)
meant_taken None bytes rest x after e = absurd cc
meant_taken (Some y) bytes rest x after e =
    let both = same_value (y, rest) (x, after) e in
    (ap (λ p. Some p.0) both, ap (λ p. p.1) both)

operand_taken : {A : Type 0} (coding : Coding A) → IsLawful coding → (room opcode : ℕ) (width : Option ℕ) (bytes rest : List ℕ) (x : A) (after : List ℕ) → coding.operand_width opcode ≡ width → opcode < 256 → IsBytes rest → bytes ≡ opcode ∷ rest
    → operand_at coding room opcode bytes width rest ≡ Ok (x, after) → TakesInstruction coding room bytes x after
operand_taken coding lawful room opcode None bytes rest x after w byte fits front e = absurd cc
operand_taken coding lawful room opcode (Some width) bytes rest x after w byte fits front e =
    let p = passed (ltb width room) (bytes_at width rest >>= λ operand. meant (coding.instruction opcode operand.0) rest operand.1) (stop_at BadValue bytes) (x, after) e in
    let room_is : width < room = ltb-true _ _ p.0 in
    let s = step (bytes_at width rest) (λ operand. meant (coding.instruction opcode operand.0) rest operand.1) (x, after) p.1 in
    let operand = s.0.0 in
    let t = bytes_taken_at width rest operand s.0.1 fits s.1 in
    let m = meant_taken (coding.instruction opcode operand) rest s.0.1 x after s.2 in
    let wide : coding.operand_width opcode ≡ Some (length operand) = w ∙ ap Some (sym t.1) in
    let opcode-is : coding.opcode x ≡ opcode = lawful.opcode opcode operand x t.2 wide m.0 in
    let operand-is : coding.operand x ≡ operand = lawful.operand opcode operand x t.2 wide m.0 in
    record {
      coded = record {
        byte = rw opcode-is byte;
        width = rw (opcode-is, operand-is) wide;
        itself = rw (opcode-is, operand-is) m.0;
      };
      inside = rw operand-is (omega (arith, t.1, room_is));
      joined = front ∙ ap (λ (r : List ℕ). opcode ∷ r) t.0.joined ∙ ap (λ (r : List ℕ). opcode ∷ (operand ++ r)) m.1 ∙ ap (λ (o : ℕ). o ∷ (operand ++ after)) (sym opcode-is) ∙ ap (λ (o : List ℕ). coding.opcode x ∷ (o ++ after)) (sym operand-is);
      after = subst IsBytes m.1 t.0.after;
    }

pub instruction_taken : {A : Type 0} (coding : Coding A) → IsLawful coding → (room : ℕ) (bytes : List ℕ) (x : A) (after : List ℕ) → IsBytes bytes → instruction_in coding room bytes ≡ Ok (x, after) → TakesInstruction coding room bytes x after
instruction_taken coding lawful room [] x after fits e = absurd cc
instruction_taken coding lawful room (opcode ∷ rest) x after fits e =
    operand_taken coding lawful room opcode (coding.operand_width opcode) (opcode ∷ rest) rest x after refl (fits.below 0) (bytes_rest opcode rest fits) refl e

pub record TakesCode {A : Type 0} (coding : Coding A) (room : ℕ) (before : List A) (bytes : List ℕ) (xs : List A) (rest : List ℕ) : Type 0 where
  pub tail : List A
  pub complete : xs ≡ before ++ tail
  pub size : length (spelled_code coding tail) ≡ room
  pub coded : AllByRecursion (IsCoded coding) tail
  pub joined : bytes ≡ spelled_code coding tail ++ rest
  pub after : IsBytes rest

no_code : {A : Type 0} (coding : Coding A) (before : List A) (bytes : List ℕ) (xs : List A) (rest : List ℕ) → IsBytes bytes → code_at coding 0 0 before bytes ≡ Ok (xs, rest) → TakesCode coding 0 before bytes xs rest
no_code coding before bytes xs rest fits e = let both = same_value (before, bytes) (xs, rest) e in record {
  tail = [];
  complete = sym (ap (λ p. p.0) both) ∙ sym (append-nil before);
  size = refl;
  coded = tt;
  joined = ap (λ p. p.1) both;
  after = subst IsBytes (ap (λ p. p.1) both) fits;
}

code_taken : {A : Type 0} (coding : Coding A) → IsLawful coding → (most room : ℕ) (before : List A) (bytes : List ℕ) (xs : List A) (rest : List ℕ) → IsBytes bytes → room ≤ most
    → code_at coding most room before bytes ≡ Ok (xs, rest) → TakesCode coding room before bytes xs rest
code_taken coding lawful zero zero before bytes xs rest fits le e = no_code coding before bytes xs rest fits e
code_taken coding lawful zero (suc room) before bytes xs rest fits le e = absurd (omega arith)
code_taken coding lawful (suc most) zero before bytes xs rest fits le e = no_code coding before bytes xs rest fits e
code_taken coding lawful (suc most) (suc room) before bytes xs rest fits le e =
    let s = step (instruction_in coding (suc room) bytes) (λ x. code_at coding most (suc room - length (spelled_instruction coding x.0)) (before ++ x.0 ∷ []) x.1) (xs, rest) e in
    let x = s.0.0 in
    let t = instruction_taken coding lawful (suc room) bytes x s.0.1 fits s.1 in
    let less : suc room - length (spelled_instruction coding x) ≤ most = omega arith in
    let u = code_taken coding lawful most (suc room - length (spelled_instruction coding x)) (before ++ x ∷ []) s.0.1 xs rest t.after less s.2 in
    record {
      tail = x ∷ u.tail;
      complete = u.complete ∙ append_assoc before (x ∷ []) u.tail;
      size = omega (arith, length-append (spelled_instruction coding x) (spelled_code coding u.tail), u.size, t.inside);
      coded = (t.coded, u.coded);
      joined = t.joined ∙ ap (λ (w : List ℕ). spelled_instruction coding x ++ w) u.joined ∙ sym (append_assoc (spelled_instruction coding x) (spelled_code coding u.tail) rest);
      after = u.after;
    }

-- ---- every format

version_taken : (version : Version) → IsLawful (instructions version) → (bytes : List ℕ) (code : List Instruction) (rest : List ℕ) → IsBytes bytes → read (Code version) bytes ≡ Ok (code, rest) → Takes (Code version) bytes code rest
version_taken version lawful bytes code rest fits e =
    let coding = instructions version in
    let s = step (number_at bytes) (λ size. code_at coding size.0 size.0 [] size.1) (code, rest) e in
    let t = number_taken_at bytes s.0.0 s.0.1 fits s.1 in
    let u = code_taken coding lawful s.0.0 s.0.0 [] s.0.1 code rest t.0.after (omega arith) s.2 in
    let complete : code ≡ u.tail = u.complete in
    let spelling : spelled_code coding u.tail ≡ code_bytes code = code-bytes version u.tail ∙ ap code_bytes (sym complete) in
    let size-is : length (code_bytes code) ≡ s.0.0 = ap length (sym spelling) ∙ u.size in
    let left : s.0.1 ≡ code_bytes code ++ rest = u.joined ∙ ap (λ (w : List ℕ). w ++ rest) spelling in
    let number = to_be_bytes w32 (length (code_bytes code)) in
    record {
      fits = (rw size-is t.1, rw complete (all_spelled version u.tail u.coded));
      joined = t.0.joined ∙ ap (λ (n : ℕ). to_be_bytes w32 n ++ s.0.1) (sym size-is) ∙ ap (λ (w : List ℕ). number ++ w) left ∙ sym (append_assoc number (code_bytes code) rest);
      after = u.after;
    }

pub taken : {A : Type 0} (form : ByteFormat A) → Coherent form → IsTaken form
taken (OneOf same values) coherent [] x rest fits e = absurd cc
taken (OneOf same values) coherent (b ∷ bytes) x rest fits e =
    let m = meant_taken (slice_get values b) (b ∷ bytes) bytes x rest e in
    let number : position_or_len (same x) values ≡ b = coherent b x m.0 in
    record {
      fits = ap (slice_get values) number ∙ m.0;
      joined = λ i. sym number i ∷ m.1 i;
      after = subst IsBytes m.1 (bytes_rest b bytes fits);
    }
taken Number coherent bytes x rest fits e =
    let t = number_taken_at bytes x rest fits e in
    record { fits = t.1; joined = t.0.joined; after = t.0.after }
taken Text coherent bytes x rest fits e =
    let s = step (number_at bytes) (λ size. bytes_at size.0 size.1) (x, rest) e in
    let t = number_taken_at bytes s.0.0 s.0.1 fits s.1 in
    let u = bytes_taken_at s.0.0 s.0.1 x rest t.0.after s.2 in
    record {
      fits = rw u.1 t.1;
      joined = t.0.joined ∙ ap (λ (n : ℕ). to_be_bytes w32 n ++ s.0.1) (sym u.1) ∙ ap (λ (w : List ℕ). to_be_bytes w32 (length x) ++ w) u.0.joined ∙ sym (append_assoc (to_be_bytes w32 (length x)) x rest);
      after = u.0.after;
    }
taken (Nothing a) coherent bytes x rest fits e =
    let both = same_value (a, bytes) (x, rest) e in
    record { fits = sym (ap (λ p. p.0) both); joined = ap (λ p. p.1) both; after = subst IsBytes (ap (λ p. p.1) both) fits }
taken (Marked kind n form) coherent bytes x rest fits e =
    let s = step (number_at bytes) (λ found. cond (eqb found.0 n) (read form found.1) (Err (stop_at kind bytes))) (x, rest) e in
    let t = number_taken_at bytes s.0.0 s.0.1 fits s.1 in
    let p = passed (eqb s.0.0 n) (read form s.0.1) (stop_at kind bytes) (x, rest) s.2 in
    let n-is : s.0.0 ≡ n = eqb-true _ _ p.0 in
    let u = taken form coherent.1 s.0.1 x rest t.0.after p.1 in
    record {
      fits = u.fits;
      joined = t.0.joined ∙ ap (λ (k : ℕ). to_be_bytes w32 k ++ s.0.1) n-is ∙ ap (λ (w : List ℕ). to_be_bytes w32 n ++ w) u.joined ∙ sym (append_assoc (to_be_bytes w32 n) (spelled form x) rest);
      after = u.after;
    }
taken (Checked {A} kind test form) coherent bytes x rest fits e =
    let s = step (read form bytes) (λ found. cond (test found.0) (Ok found) (Err (stop_at kind bytes))) (x, rest) e in
    let p = passed (test s.0.0) (Ok s.0) (stop_at kind bytes) (x, rest) s.2 in
    let t = taken form coherent bytes s.0.0 s.0.1 fits s.1 in
    let both = same_value s.0 (x, rest) p.1 in
    subst (λ (q : A × List ℕ). Takes (Checked kind test form) bytes q.0 q.1) both (record { fits = (t.fits, p.0); joined = t.joined; after = t.after })
taken (Then {A} {B} first second) coherent bytes x rest fits e =
    let s = step (read first bytes) (λ a. read (second a.0) a.1 >>= λ b. Ok ((a.0, b.0), b.1)) (x, rest) e in
    let u = step (read (second s.0.0) s.0.1) (λ b. Ok ((s.0.0, b.0), b.1)) (x, rest) s.2 in
    let t = taken first coherent.0 bytes s.0.0 s.0.1 fits s.1 in
    let v = taken (second s.0.0) (coherent.1 s.0.0) s.0.1 u.0.0 u.0.1 t.after u.1 in
    let both = same_value ((s.0.0, u.0.0), u.0.1) (x, rest) u.2 in
    subst (λ (q : (A × B) × List ℕ). Takes (Then first second) bytes q.0 q.1) both (record {
      fits = (t.fits, v.fits);
      joined = t.joined ∙ ap (λ (w : List ℕ). spelled first s.0.0 ++ w) v.joined ∙ sym (append_assoc (spelled first s.0.0) (spelled (second s.0.0) u.0.0) u.0.1);
      after = v.after;
    })
taken (Counted {A} test one) coherent bytes x rest fits e =
    let s = step (number_at bytes) (λ count. cond (test count.0) (each_at (λ seen left. read (one seen) left) count.0 [] count.1) (Err (stop_at BadValue bytes))) (x, rest) e in
    let p = passed (test s.0.0) (each_at (λ seen left. read (one seen) left) s.0.0 [] s.0.1) (stop_at BadValue bytes) (x, rest) s.2 in
    let t = number_taken_at bytes s.0.0 s.0.1 fits s.1 in
    let u = each_taken one (λ before. taken (one before) (coherent before)) s.0.0 [] s.0.1 x rest t.0.after p.1 in
    let count-is : length x ≡ s.0.0 = ap length u.complete ∙ u.many in
    record {
      fits = (rw count-is t.1, rw count-is p.0, rw u.complete u.fits);
      joined = t.0.joined ∙ ap (λ (n : ℕ). to_be_bytes w32 n ++ s.0.1) (sym count-is) ∙ ap (λ (w : List ℕ). to_be_bytes w32 (length x) ++ w) u.joined ∙ sym (append_assoc (to_be_bytes w32 (length x)) (spelled_each (λ seen y. spelled (one seen) y) [] u.tail) rest) ∙ ap (λ (l : List A). to_be_bytes w32 (length x) ++ spelled_each (λ seen y. spelled (one seen) y) [] l ++ rest) (sym u.complete);
      after = u.after;
    }
taken (Code version) coherent bytes x rest fits e = version_taken version coherent bytes x rest fits e
taken (Named {A} {B} make fields form) coherent bytes x rest fits e =
    let s = step (read form bytes) (λ found. Ok (make found.0, found.1)) (x, rest) e in
    let t = taken form coherent.0 bytes s.0.0 s.0.1 fits s.1 in
    let back : fields (make s.0.0) ≡ s.0.0 = coherent.1 s.0.0 t.fits in
    let both = same_value (make s.0.0, s.0.1) (x, rest) s.2 in
    subst (λ (q : B × List ℕ). Takes (Named make fields form) bytes q.0 q.1) both (record {
      fits = (rw back t.fits, ap make back);
      joined = t.joined ∙ ap (λ (a : A). spelled form a ++ s.0.1) (sym back);
      after = t.after;
    })
