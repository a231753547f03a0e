-- A value is spelled by bytes exactly where it fits, and they are the bytes that it is spelled by.
use Rattle.std.proofs.Common.{◌≡◌, ℕ, List, [], ◌∷◌, ◌++◌, refl, sym, ap, ◌∙◌}
use Rattle.std.specs.List.{position_or_len, slice_get}
use Rattle.modules.specs.ByteFormat.{ByteFormat, OneOf, Number, Text, Nothing, Marked, Checked, Then, Counted, Code, Named, FitEach, Fits, Spells, SpellsEach, spelled, spelled_each}
use Rattle.bytecode.proofs.Coherent.{Coherent}

-- the value fits, and the bytes are its own
abbrev IsOwn : {A : Type 0} → ByteFormat A → A → List ℕ → Type 0
IsOwn form x bytes = Fits form x × (bytes ≡ spelled form x)

each_own : {A : Type 0} (one : List A → ByteFormat A) → ((before : List A) (x : A) (bytes : List ℕ) → Spells (one before) x bytes → IsOwn (one before) x bytes)
    → (before xs : List A) (bytes : List ℕ) → SpellsEach (λ seen x. Spells (one seen) x) before xs bytes
    → FitEach (λ seen x. Fits (one seen) x) before xs × (bytes ≡ spelled_each (λ seen x. spelled (one seen) x) before xs)
each_own one law before [] bytes h = (tt, h)
each_own one law before (x ∷ xs) bytes (front, back, a, b, joined) =
    let here = law before x front a in
    let more = each_own one law (before ++ x ∷ []) xs back b in
    ((here.0, more.0), joined ∙ λ i. here.1 i ++ more.1 i)

pub own : {A : Type 0} (form : ByteFormat A) → Coherent form → (x : A) (bytes : List ℕ) → Spells form x bytes → IsOwn form x bytes
own (OneOf same values) coherent x bytes (number, at, is) =
    let place : position_or_len (same x) values ≡ number = coherent number x at in
    (ap (slice_get values) place ∙ at, is ∙ λ i. sym place i ∷ [])
own Number coherent x bytes h = h
own Text coherent x bytes (front, back, a, b, joined) = (a.0, joined ∙ λ i. a.1 i ++ b i)
own (Nothing a) coherent x bytes h = h
own (Marked kind n form) coherent x bytes (front, back, a, b, joined) =
    let rest = own form coherent.1 x back b in
    (rest.0, joined ∙ λ i. a.1 i ++ rest.1 i)
own (Checked kind test form) coherent x bytes (passes, b) = let rest = own form coherent x bytes b in ((rest.0, passes), rest.1)
own (Then first second) coherent x bytes (front, back, a, b, joined) =
    let one = own first coherent.0 x.0 front a in
    let two = own (second x.0) (coherent.1 x.0) x.1 back b in
    ((one.0, two.0), joined ∙ λ i. one.1 i ++ two.1 i)
own (Counted test one) coherent x bytes (passes, (front, back, a, b, joined)) =
    let each = each_own one (λ before. own (one before) (coherent before)) [] x back b in
    ((a.0, passes, each.0), joined ∙ λ i. a.1 i ++ each.1 i)
own (Code version) coherent x bytes (have, (front, back, a, b, joined)) = ((a.0, have), joined ∙ λ i. a.1 i ++ b i)
own (Named make fields form) coherent x bytes (same, b) = let rest = own form coherent.0 (fields x) bytes b in ((rest.0, same), rest.1)

each_spelled : {A : Type 0} (one : List A → ByteFormat A) → ((before : List A) (x : A) → Fits (one before) x → Spells (one before) x (spelled (one before) x))
    → (before xs : List A) → FitEach (λ seen x. Fits (one seen) x) before xs
    → SpellsEach (λ seen x. Spells (one seen) x) before xs (spelled_each (λ seen x. spelled (one seen) x) before xs)
each_spelled one law before [] h = refl
each_spelled one law before (x ∷ xs) h = (_, _, law before x h.0, each_spelled one law (before ++ x ∷ []) xs h.1, refl)

pub spells : {A : Type 0} (form : ByteFormat A) → Coherent form → (x : A) → Fits form x → Spells form x (spelled form x)
spells (OneOf same values) coherent x h = (_, h, refl)
spells Number coherent x h = (h, refl)
spells Text coherent x h = (_, _, (h, refl), refl, refl)
spells (Nothing a) coherent x h = (h, refl)
spells (Marked kind n form) coherent x h = (_, _, (coherent.0, refl), spells form coherent.1 x h, refl)
spells (Checked kind test form) coherent x h = (h.1, spells form coherent x h.0)
spells (Then first second) coherent x h = (_, _, spells first coherent.0 x.0 h.0, spells (second x.0) (coherent.1 x.0) x.1 h.1, refl)
spells (Counted test one) coherent x h =
    (h.1, (_, _, (h.0, refl), each_spelled one (λ before. spells (one before) (coherent before)) [] x h.2, refl))
spells (Code version) coherent x h = (h.1, (_, _, (h.0, refl), refl, refl))
spells (Named make fields form) coherent x h = (h.1, spells form coherent.0 (fields x) h.0)
