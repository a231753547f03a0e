-- The table of offsets: how it is made, entry by entry, and what code becomes by it.
use Rattle.std.proofs.Common.{◌≡◌, ℕ, ◌+◌, ◌<◌, ◌≤◌, ◌∙◌, refl, sym, ap, List, [], ◌∷◌, ◌++◌, All, length, get_or, set, zero, suc, arith, add-one, below_more, length-append, map, take, drop}
use Rattle.std.proofs.lemmas.List.{get_or_append_left, get_or_default, get_or_push, map_more}
use Rattle.std.proofs.lemmas.List.Edits.{map_over_more}
use Rattle.std.proofs.lemmas.Option.{slice_get-get_or}
use Rattle.modules.specs.declared.instruction.Instruction.{Instruction}
use Rattle.modules.specs.declared.instruction.Instruction.TheVariants.{Jump, JumpIfFalse}
use Rattle.modules.specs.Code.{width_of, code_length}
use Rattle.modules.specs.Targets.{renamed_instruction}
use Rattle.layout.specs.Offsets.{offset}
use Rattle.layout.specs.Graph.{HasTargetIn}
use Rattle.layout.specs.Tables.{IsTableOf}
use Rattle.layout.proofs.Offsets.{next_at, offset-most}

pub offset-end : (code : List Instruction) → offset code (length code) ≡ code_length code
offset-end [] = refl
offset-end (x ∷ code) = ap (λ (n : ℕ). width_of x + n) (offset-end code)

-- no offset is after the bytes of the code
pub offset-within : (code : List Instruction) (k : ℕ) → k ≤ length code → offset code k ≤ code_length code
offset-within code k h = omega (arith, offset-most code k (length code) h, offset-end code)

-- the offset after an instruction
pub next-offset : (code : List Instruction) (i : ℕ) (d : Instruction) → i < length code → offset code i + width_of (get_or code i d) ≡ offset code (i + 1)
next-offset code i d below = next_at code i (get_or code i d) (slice_get-get_or code i d below) ∙ ap (offset code) (sym (add-one i))

-- a table with one more entry after the others
pub length_more : (table new : List ℕ) (i n : ℕ) → length table ≡ i → new ≡ table ++ n ∷ [] → length new ≡ i + 1
length_more table new i n size pushed = ap length pushed ∙ length-append table (n ∷ []) ∙ ap (λ (k : ℕ). k + 1) size

pub entries_more : (code : List Instruction) (table new : List ℕ) (i n : ℕ) → length table ≡ i → new ≡ table ++ n ∷ [] → n ≡ offset code i → ((k : ℕ) → k < i → get_or table k 0 ≡ offset code k) → (k : ℕ) → k < i + 1 → get_or new k 0 ≡ offset code k
entries_more code table new i n size pushed is before =
    below_more (λ (k : ℕ). get_or new k 0 ≡ offset code k) i
    (λ k h. ap (λ (l : List ℕ). get_or l k 0) pushed ∙ get_or_append_left table (n ∷ []) 0 k (omega (arith, size)) ∙ before k h)
    (ap (λ (l : List ℕ). get_or l i 0) pushed ∙ get_or_push table n 0 i size ∙ is)

-- ---- code by a table

pub instruction-by_table : (code : List Instruction) (table : List ℕ) (x : Instruction) → IsTableOf code table → HasTargetIn code x → renamed_instruction (λ position. get_or table position 0) x ≡ renamed_instruction (offset code) x
instruction-by_table code table (Jump target) h below = ap (λ (k : ℕ). Jump k) (h.entries target (omega (arith, below)))
instruction-by_table code table (JumpIfFalse target) h below = ap (λ (k : ℕ). JumpIfFalse k) (h.entries target (omega (arith, below)))
instruction-by_table code table x h below = refl

-- an element of a list of which a function was written over the first elements, and not yet over this one
unwritten : {X : Type 0} (f : X → X) (xs : List X) (i : ℕ) (d : X) → i < length xs → get_or (map f (take i xs) ++ drop i xs) i d ≡ get_or xs i d
unwritten f [] i d below = absurd (omega (arith, below))
unwritten f (x ∷ xs) zero d below = refl
unwritten f (x ∷ xs) (suc i) d below = unwritten f xs i d (omega (arith, below))

-- code whose first instructions have their offsets, with one more
pub written_more : (code items : List Instruction) (table : List ℕ) (i : ℕ) (d y : Instruction) → IsTableOf code table → All (HasTargetIn code) code → i < length code
    → items ≡ map (renamed_instruction (offset code)) (take i code) ++ drop i code → y ≡ renamed_instruction (λ position. get_or table position 0) (get_or items i d)
    → set items i y ≡ map (renamed_instruction (offset code)) (take (i + 1) code) ++ drop (i + 1) code
written_more code items table i d y is_table targets below before made =
    let f = renamed_instruction (offset code) in
    let here : get_or items i d ≡ get_or code i d = ap (λ (l : List Instruction). get_or l i d) before ∙ unwritten f code i d below in
    let x = get_or code i d in
    let read : get_or items i x ≡ x = ap (λ (l : List Instruction). get_or l i x) before ∙ unwritten f code i x below ∙ get_or_default code i x d below in
    let same : y ≡ f x = made ∙ ap (renamed_instruction (λ position. get_or table position 0)) here ∙ instruction-by_table code table x is_table (targets i d below) in
    ap (set items i) same ∙ map_over_more f code items i x below before (sym read)

-- a list of what a function makes of the first elements, with one more
pub made_more : {X Y : Type 0} (f : X → Y) (xs : List X) (made new : List Y) (i : ℕ) (d : X) (y : Y) → i < length xs → new ≡ made ++ y ∷ [] → made ≡ map f (take i xs) → y ≡ f (get_or xs i d) → new ≡ map f (take (i + 1) xs)
made_more f xs made new i d y below pushed before same =
    pushed ∙ ap (λ l. l ++ y ∷ []) before ∙ ap (λ z. map f (take i xs) ++ z ∷ []) same ∙ sym (map_more f xs i d below)
