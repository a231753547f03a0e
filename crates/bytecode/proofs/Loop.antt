-- Reading values one after the other, as a loop does.
use Rattle.std.proofs.Common.{◌≡◌, ℕ, suc, ◌-◌, ◌+◌, ◌<◌, List, [], ◌∷◌, ◌++◌, Result, Ok, Err, sym, ap, ◌∙◌, arith}
use Rattle.common.specs.Answers.{IfRefused}
use Rattle.common.specs.declared.fault.OrNoMemory.{OrNoMemory}
use Rattle.common.specs.declared.fault.OrNoMemory.TheVariants.{NoMemory, Refused}
use Rattle.modules.specs.ByteFormat.{Read, each_at, ◌>>=◌}
use Rattle.modules.specs.declared.fault.ReadRefusal.{ReadRefusal}

-- a function fails as reading does, or because memory ran out
abbrev pub ReadingFails : {B : Type 0} → OrNoMemory ReadRefusal → Result B ReadRefusal → Type 0
ReadingFails fault read = IfRefused (λ stop. read ≡ Err stop) fault

-- one more value
pub each_goes_on : {A : Type 0} (one : List A → List ℕ → Read A) (count i : ℕ) (before : List A) (bytes : List ℕ) (x : A) (after : List ℕ) (total : Read (List A)) → i < count → one before bytes ≡ Ok (x, after)
    → each_at one (count - i) before bytes ≡ total → each_at one (count - (i + 1)) (before ++ x ∷ []) after ≡ total
each_goes_on {A} one count i before bytes x after total lt read so_far =
    let left : count - i ≡ suc (count - (i + 1)) = omega arith in
    let goes = λ (r : Read A). r >>= λ y. each_at one (count - (i + 1)) (before ++ y.0 ∷ []) y.1 in
    sym (ap (λ (n : ℕ). each_at one n before bytes) left ∙ ap goes read) ∙ so_far

-- a value that was not read
pub each_fails : {A : Type 0} (e : OrNoMemory ReadRefusal) (one : List A → List ℕ → Read A) (count i : ℕ) (before : List A) (bytes : List ℕ) (total : Read (List A)) → i < count → ReadingFails e (one before bytes)
    → each_at one (count - i) before bytes ≡ total → ReadingFails e total
each_fails NoMemory one count i before bytes total lt fails so_far = tt
each_fails {A} (Refused stop) one count i before bytes total lt fails so_far =
    let left : count - i ≡ suc (count - (i + 1)) = omega arith in
    let goes = λ (r : Read A). r >>= λ y. each_at one (count - (i + 1)) (before ++ y.0 ∷ []) y.1 in
    sym so_far ∙ (ap (λ (n : ℕ). each_at one n before bytes) left ∙ ap goes fails)
