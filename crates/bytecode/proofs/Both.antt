-- The two laws of the module file, over all of the bytes.
use Rattle.std.proofs.Common.{◌≡◌, ◌⊎◌, inl, inr, ℕ, ◌-◌, cond, eqb, List, [], ◌++◌, length, Result, Ok, Err, Some, refl, sym, ap, subst, ◌∙◌, arith}
use Rattle.std.proofs.lemmas.Bool.{cases_lt, eqb-true}
use Rattle.std.proofs.lemmas.List.{append-nil, get_or_past, nil_from_length}
use Rattle.modules.specs.Contents.{ModuleContents}
use Rattle.modules.specs.ByteFormat.{ByteFormat, Fits, Spells, spelled, Read, read, read_all, stop_at, ◌>>=◌}
use Rattle.modules.specs.Format.{module_file}
use Rattle.modules.specs.declared.fault.FormatRefusalKind.TheVariants.{Trailing}
use Rattle.modules.specs.declared.fault.ReadRefusal.{ReadRefusal}
use Rattle.bytecode.specs.Decoded.{first_refusal, refusal_of}
use Rattle.bytecode.specs.Laws.{BytesAreSpelledOrRefused}
use Rattle.common.specs.declared.refusal.RefusalAt.{RefusalAt}
use Rattle.modules.specs.declared.fault.FormatRefusalKind.{FormatRefusalKind}
use Rattle.bytecode.proofs.Again.{again}
use Rattle.bytecode.proofs.Coherent.{Coherent}
use Rattle.bytecode.proofs.Lawful.{module_file-coherent}
use Rattle.bytecode.proofs.Spelt.{own, spells}
use Rattle.bytecode.proofs.Steps.{IsBytes, step, passed, same_value}
use Rattle.bytecode.proofs.Taken.{taken}

pub all_taken : {A : Type 0} (form : ByteFormat A) → Coherent form → (bytes : List ℕ) (x : A) → IsBytes bytes → read_all form bytes ≡ Ok x → Spells form x bytes
all_taken form coherent bytes x fits e =
    let s = step (read form bytes) (λ found. cond (eqb (length found.1) 0) (Ok found.0) (Err (stop_at Trailing found.1))) x e in
    let p = passed (eqb (length s.0.1) 0) (Ok s.0.0) (stop_at Trailing s.0.1) x s.2 in
    let t = taken form coherent bytes s.0.0 s.0.1 fits s.1 in
    let ended : s.0.1 ≡ [] = nil_from_length s.0.1 (eqb-true _ _ p.0) in
    let same : s.0.0 ≡ x = same_value s.0.0 x p.1 in
    let joined : bytes ≡ spelled form s.0.0 = t.joined ∙ ap (λ (rest : List ℕ). spelled form s.0.0 ++ rest) ended ∙ append-nil (spelled form s.0.0) in
    rw (← same) (subst (Spells form s.0.0) (sym joined) (spells form coherent s.0.0 t.fits))

pub all_again : {A : Type 0} (form : ByteFormat A) → Coherent form → (bytes : List ℕ) (x : A) → Spells form x bytes → read_all form bytes ≡ Ok x
all_again {A} form coherent bytes x h =
    let is = own form coherent x bytes h in
    let found : read form bytes ≡ Ok (x, []) = ap (read form) (is.1 ∙ sym (append-nil (spelled form x))) ∙ again form coherent x [] is.0 in
    ap (λ (r : Read A). r >>= λ y. cond (eqb (length y.1) 0) (Ok y.0) (Err (stop_at Trailing y.1))) found

pub module_taken : (bytes : List ℕ) (m : ModuleContents) → IsBytes bytes → read_all module_file bytes ≡ Ok m → Spells module_file m bytes
module_taken bytes m fits e = all_taken module_file module_file-coherent bytes m fits e

pub module_fits : (m : ModuleContents) (bytes : List ℕ) → Spells module_file m bytes → Fits module_file m
module_fits m bytes h = (own module_file module_file-coherent m bytes h).0

pub module_spells : (m : ModuleContents) (bytes : List ℕ) → Fits module_file m → bytes ≡ spelled module_file m → Spells module_file m bytes
module_spells m bytes fits is = subst (Spells module_file m) (sym is) (spells module_file module_file-coherent m fits)

pub module_again : (bytes : List ℕ) (m : ModuleContents) → Spells module_file m bytes → read_all module_file bytes ≡ Ok m
module_again bytes m h = all_again module_file module_file-coherent bytes m h

-- the spellings of two values, of which one is a prefix of the other, are one, and so are the values
pub one_spelling : {A : Type 0} (form : ByteFormat A) → Coherent form → (x y : A) (a b more others : List ℕ) → Spells form x a → Spells form y b → a ++ more ≡ b ++ others → (x ≡ y) × (a ≡ b)
one_spelling {A} form coherent x y a b more others h k e =
    let p = own form coherent x a h in
    let q = own form coherent y b k in
    let left : read form (a ++ more) ≡ Ok (x, more) = ap (λ (bytes : List ℕ). read form (bytes ++ more)) p.1 ∙ again form coherent x more p.0 in
    let right : read form (b ++ others) ≡ Ok (y, others) = ap (λ (bytes : List ℕ). read form (bytes ++ others)) q.1 ∙ again form coherent y others q.0 in
    let both = same_value (x, more) (y, others) (sym left ∙ ap (read form) e ∙ right) in
    let same : x ≡ y = ap (λ (p : A × List ℕ). p.0) both in
    (same, p.1 ∙ ap (spelled form) same ∙ sym q.1)

-- bytes that are read spell what is read, and others have a first refusal
read_or_refused : (bytes : List ℕ) → IsBytes bytes → (r : Result ModuleContents ReadRefusal) → read_all module_file bytes ≡ r
    → ((m : ModuleContents) × Spells module_file m bytes) ⊎ ((refusal : RefusalAt FormatRefusalKind) × (first_refusal bytes ≡ Some refusal))
read_or_refused bytes fits (Ok m) e = inl (m, module_taken bytes m fits e)
read_or_refused bytes fits (Err stop) e = inr (record { kind = stop.kind; at = length bytes - stop.left }, ap (refusal_of bytes) e)

pub spelled_or_refused : BytesAreSpelledOrRefused
spelled_or_refused bytes each =
    let fits : IsBytes bytes = record {
      below = λ i. elim (cases_lt i (length bytes)) [
        | inl inside ↦ each i 0 inside
        | inr outside ↦ rw (get_or_past bytes i 0 outside) (omega arith)
      ];
    } in
    read_or_refused bytes fits (read_all module_file bytes) refl
