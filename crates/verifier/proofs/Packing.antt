-- Kinds as bits: 64 of them are the same where their bits are.
use Rattle.std.proofs.Common.{◌≡◌, ◌⊎◌, inl, inr, ℕ, zero, suc, ◌+◌, ◌*◌, ◌/◌, ◌%◌, ◌<◌, ◌≤◌, ◌^◌, List, [], ◌∷◌, ◌++◌, length, map, drop, get_or, Some, refl, sym, ap, ◌∙◌, arith}
use Rattle.std.proofs.Math.Seq.{drop-nil}
use Rattle.std.proofs.lemmas.Nat.{pow_pos}
use Rattle.std.proofs.lemmas.List.{length-drop}
use Rattle.common.specs.declared.base_type.BaseType.{BaseType}
use Rattle.common.specs.declared.base_type.BaseType.TheVariants.{Int, Boolean}
use Rattle.verifier.specs.Flow.{all_popped}
use Rattle.verifier.specs.Operands.{bit, packed, blocks, full_blocks}

-- ---- bits

pub packed_small : (n : ℕ) (kinds : List BaseType) → packed n kinds < 2 ^ n
packed_small zero kinds = omega arith
packed_small (suc n) [] = omega (arith, pow_pos (suc n))
packed_small (suc n) (Int ∷ kinds) = omega (arith, packed_small n kinds)
packed_small (suc n) (Boolean ∷ kinds) = omega (arith, packed_small n kinds)

-- one more kind is one more bit, above the others
packed_more : (n : ℕ) (kinds : List BaseType) → (packed (suc n) kinds ≡ packed n kinds) ⊎ (packed (suc n) kinds ≡ packed n kinds + 2 ^ n)
packed_more zero [] = inl refl
packed_more zero (Int ∷ kinds) = inl refl
packed_more zero (Boolean ∷ kinds) = inr refl
packed_more (suc n) [] = inl refl
packed_more (suc n) (Int ∷ kinds) = elim (packed_more n kinds) [ inl e ↦ inl (omega (arith, e)) | inr e ↦ inr (omega (arith, e)) ]
packed_more (suc n) (Boolean ∷ kinds) = elim (packed_more n kinds) [ inl e ↦ inl (omega (arith, e)) | inr e ↦ inr (omega (arith, e)) ]

-- what the bits are with one more kind below them
pub packed_with : (kinds : List BaseType) (kind : BaseType) (bits : ℕ) → bits ≡ packed 64 kinds → bits % 2 ^ 63 * 2 + bit kind ≡ packed 64 (kind ∷ kinds)
packed_with kinds kind bits is = elim (packed_more 63 kinds) [
  | inl e ↦ omega (arith, is, e, packed_small 63 kinds)
  | inr e ↦ omega (arith, is, e, packed_small 63 kinds)
]

-- the kind after the first this many, which the bits tell
pub int_next : (n : ℕ) (kinds : List BaseType) → n < length kinds → packed (suc n) kinds < 2 ^ n → drop n kinds ≡ Int ∷ drop (suc n) kinds
int_next n [] h l = absurd (omega arith)
int_next zero (Int ∷ kinds) h l = refl
int_next zero (Boolean ∷ kinds) h l = absurd (omega arith)
int_next (suc n) (Int ∷ kinds) h l = int_next n kinds (omega arith) (omega arith)
int_next (suc n) (Boolean ∷ kinds) h l = int_next n kinds (omega arith) (omega arith)

pub boolean_next : (n : ℕ) (kinds : List BaseType) → n < length kinds → 2 ^ n ≤ packed (suc n) kinds → drop n kinds ≡ Boolean ∷ drop (suc n) kinds
boolean_next n [] h l = absurd (omega arith)
boolean_next zero (Int ∷ kinds) h l = absurd (omega arith)
boolean_next zero (Boolean ∷ kinds) h l = refl
boolean_next (suc n) (Int ∷ kinds) h l = boolean_next n kinds (omega arith) (omega arith)
boolean_next (suc n) (Boolean ∷ kinds) h l = boolean_next n kinds (omega arith) (omega arith)

-- ---- pops

-- kinds whose bits are the same are popped all
pub popped_same : (n : ℕ) (wanted kinds : List BaseType) → n ≤ length wanted → n ≤ length kinds → packed n wanted ≡ packed n kinds → all_popped (map (λ kind. Some kind) wanted) kinds ≡ all_popped (map (λ kind. Some kind) (drop n wanted)) (drop n kinds)
popped_same zero wanted kinds a b e = refl
popped_same (suc n) [] kinds a b e = absurd (omega arith)
popped_same (suc n) (kind ∷ wanted) [] a b e = absurd (omega arith)
popped_same (suc n) (Int ∷ wanted) (Int ∷ kinds) a b e = popped_same n wanted kinds (omega arith) (omega arith) (omega (arith, e))
popped_same (suc n) (Int ∷ wanted) (Boolean ∷ kinds) a b e = absurd (omega (arith, e))
popped_same (suc n) (Boolean ∷ wanted) (Int ∷ kinds) a b e = absurd (omega (arith, e))
popped_same (suc n) (Boolean ∷ wanted) (Boolean ∷ kinds) a b e = popped_same n wanted kinds (omega arith) (omega arith) (omega (arith, e))

-- ---- blocks

pub drop_drop : {A : Type 0} (n m : ℕ) (xs : List A) → drop m (drop n xs) ≡ drop (n + m) xs
drop_drop zero m xs = let e : m ≡ 0 + m = omega arith in ap (λ (j : ℕ). drop j xs) e
drop_drop (suc n) m [] = drop-nil m ∙ sym (drop-nil (suc n + m))
drop_drop (suc n) m (x ∷ xs) = drop_drop n m xs ∙ (let e : suc (n + m) ≡ suc n + m = omega arith in ap (λ (j : ℕ). drop j (x ∷ xs)) e)

pub length-blocks : (count : ℕ) (kinds : List BaseType) → length (blocks count kinds) ≡ count
length-blocks zero kinds = refl
length-blocks (suc count) kinds = ap suc (length-blocks count (drop 64 kinds))

block_at : (count j d : ℕ) (kinds : List BaseType) → j < count → get_or (blocks count kinds) j d ≡ packed 64 (drop (j * 64) kinds)
block_at zero j d kinds h = absurd (omega arith)
block_at (suc count) zero d kinds h = refl
block_at (suc count) (suc j) d kinds h = block_at count j d (drop 64 kinds) (omega arith) ∙ ap (packed 64) (drop_drop 64 (j * 64) kinds ∙ (let e : 64 + j * 64 ≡ suc j * 64 = omega arith in ap (λ (n : ℕ). drop n kinds) e))

pub blocks_more : (count : ℕ) (kinds : List BaseType) → blocks (count + 1) kinds ≡ blocks count kinds ++ packed 64 (drop (count * 64) kinds) ∷ []
blocks_more zero kinds = refl
blocks_more (suc count) kinds =
    (let n : suc count + 1 ≡ suc (count + 1) = omega arith in ap (λ (j : ℕ). blocks j kinds) n)
    ∙ ap (λ bs. packed 64 kinds ∷ bs) (blocks_more count (drop 64 kinds)
    ∙ ap (λ ks. blocks count (drop 64 kinds) ++ packed 64 ks ∷ []) (drop_drop 64 (count * 64) kinds ∙ (let e : 64 + count * 64 ≡ suc count * 64 = omega arith in ap (λ (n : ℕ). drop n kinds) e)))

-- a block is popped
pub block_popped : (bs : List ℕ) (wanted kinds below : List BaseType) (j d block : ℕ) → bs ≡ full_blocks wanted → j < length bs → block ≡ get_or bs j d → 64 ≤ length kinds → block ≡ packed 64 kinds → below ≡ drop 64 kinds → all_popped (map (λ kind. Some kind) (drop (j * 64) wanted)) kinds ≡ all_popped (map (λ kind. Some kind) (drop ((j + 1) * 64) wanted)) below
block_popped bs wanted kinds below j d block is inside at long bits rest =
    let count : length bs ≡ length wanted / 64 = ap length is ∙ length-blocks (length wanted / 64) wanted in
    let there : packed 64 (drop (j * 64) wanted) ≡ packed 64 kinds =
    sym (block_at (length wanted / 64) j d wanted (omega (arith, count))) ∙ ap (λ l. get_or l j d) (sym is) ∙ sym at ∙ bits in
    let more : j * 64 + 64 ≡ (j + 1) * 64 = omega arith in
    popped_same 64 (drop (j * 64) wanted) kinds (omega (arith, count, length-drop (j * 64) wanted)) long there
    ∙ ap (λ ks. all_popped (map (λ kind. Some kind) ks) (drop 64 kinds)) (drop_drop (j * 64) 64 wanted ∙ ap (λ n. drop n wanted) more)
    ∙ ap (all_popped (map (λ kind. Some kind) (drop ((j + 1) * 64) wanted))) (sym rest)
