-- The arguments of a call are popped the last one first: whole blocks, and then one after another.
use Rattle.std.proofs.Common.{◌≡◌, ℕ, ◌+◌, ◌<◌, zero, suc, ◌*◌, ◌-◌, ◌≤◌, ◌/◌, List, [], ◌∷◌, ◌++◌, length, map, reverse, take, drop, get_or, min, Some, refl, sym, ap, ◌∙◌, arith, length-append}
use Rattle.std.proofs.lemmas.List.{length-reverse, length-take, reverse-append, take_min, take_more}
use Rattle.modules.specs.MachineParts.{kinds_of}
use Rattle.common.specs.declared.base_type.BaseType.{BaseType}
use Rattle.common.specs.declared.base_type.BaseType.TheVariants.{Int}
use Rattle.modules.specs.declared.declaration.Slot.{Slot}
use Rattle.modules.specs.declared.declaration.Slot.TheVariants.{Scalar, Array}
use Rattle.verifier.specs.Flow.{Effect, Leaves, Misses, all_popped, and_then, popped}
use Rattle.verifier.specs.Signatures.{slot_kind}
use Rattle.verifier.specs.Operands.{bit, packed, blocks, full_blocks}
use Rattle.verifier.specs.declared.fault.CodeRefusalKind.{CodeRefusalKind}
use Rattle.verifier.proofs.Packing.{blocks_more, drop_drop, length-blocks}

kinds_of-push : (slots : List Slot) (slot : Slot) → kinds_of (slots ++ slot ∷ []) ≡ kinds_of slots ++ slot_kind (Some slot) ∷ []
kinds_of-push [] (Scalar kind) = refl
kinds_of-push [] (Array kind count) = refl
kinds_of-push (Scalar kind ∷ slots) slot = ap (λ kinds. kind ∷ kinds) (kinds_of-push slots slot)
kinds_of-push (Array kind count ∷ slots) slot = ap (λ kinds. kind ∷ kinds) (kinds_of-push slots slot)

pub length-kinds_of : (slots : List Slot) → length (kinds_of slots) ≡ length slots
length-kinds_of [] = refl
length-kinds_of (Scalar kind ∷ slots) = ap suc (length-kinds_of slots)
length-kinds_of (Array kind count ∷ slots) = ap suc (length-kinds_of slots)

-- the kinds of the first this many slots, the last one first
abbrev pub reversed : ℕ → List Slot → List BaseType
reversed count slots = reverse (kinds_of (take count slots))

pub length-reversed : (count : ℕ) (slots : List Slot) → count ≤ length slots → length (reversed count slots) ≡ count
length-reversed count slots h = omega (arith, length-reverse (kinds_of (take count slots)), length-kinds_of (take count slots), length-take count slots)

pub reversed_more : (slots : List Slot) (k count : ℕ) (d : Slot) → count ≡ k + 1 → k < length slots → reversed count slots ≡ slot_kind (Some (get_or slots k d)) ∷ reversed k slots
reversed_more slots k count d more inside =
    ap (λ n. reverse (kinds_of (take n slots))) more
    ∙ ap (λ front. reverse (kinds_of front)) (take_more slots k d inside)
    ∙ ap reverse (kinds_of-push (take k slots) (get_or slots k d))
    ∙ reverse-append (kinds_of (take k slots)) (slot_kind (Some (get_or slots k d)) ∷ [])

pub drop_reversed : (slots : List Slot) (n k count : ℕ) (d : Slot) → count ≡ k + n → count ≤ length slots → drop n (reversed count slots) ≡ reversed k slots
drop_reversed slots zero k count d is inside = let same : count ≡ k = omega (arith, is) in ap (λ (j : ℕ). reversed j slots) same
drop_reversed slots (suc n) k count d is inside =
    ap (drop (suc n)) (reversed_more slots (k + n) count d (omega (arith, is)) (omega (arith, is, inside)))
    ∙ drop_reversed slots n k (k + n) d refl (omega (arith, is, inside))

module _ (slots : List Slot) (k count : ℕ) (d : Slot) (more : count ≡ k + 1) (inside : k < length slots) where
  pub wanted_more : map (λ kind. Some kind) (reverse (kinds_of (take count slots))) ≡ Some (slot_kind (Some (get_or slots k d))) ∷ map (λ kind. Some kind) (reverse (kinds_of (take k slots)))
  wanted_more = ap (map (λ kind. Some kind)) (reversed_more slots k count d more inside)

  -- one more slot is one more bit
  pub packed_step : (n bits kind : ℕ) → packed n (reversed k slots) ≡ bits → kind ≡ bit (slot_kind (Some (get_or slots k d))) → bits * 2 + kind ≡ packed (n + 1) (reversed count slots)
  packed_step n bits kind is same =
      let one : suc n ≡ n + 1 = omega arith in
      let sum : bits * 2 + kind ≡ packed (suc n) (slot_kind (Some (get_or slots k d)) ∷ reversed k slots) = omega (arith, is, same) in
      sum ∙ ap (λ (j : ℕ). packed j (slot_kind (Some (get_or slots k d)) ∷ reversed k slots)) one ∙ ap (packed (n + 1)) (sym (reversed_more slots k count d more inside))

  module _ (kind : BaseType) (is : kind ≡ slot_kind (Some (get_or slots k d))) (kinds : List BaseType) where
    first_of : (e : Effect) → popped (Some kind) kinds ≡ e → all_popped (map (λ kind. Some kind) (reverse (kinds_of (take count slots)))) kinds ≡ and_then e (all_popped (map (λ kind. Some kind) (reverse (kinds_of (take k slots)))))
    first_of e popped_is =
        ap (λ wanted. all_popped wanted kinds) wanted_more
        ∙ ap (λ first. and_then (popped (Some first) kinds) (all_popped (map (λ kind. Some kind) (reverse (kinds_of (take k slots)))))) (sym is)
        ∙ ap (λ first. and_then first (all_popped (map (λ kind. Some kind) (reverse (kinds_of (take k slots)))))) popped_is

    pub pop_step : (rest : List BaseType) → popped (Some kind) kinds ≡ Leaves rest → all_popped (map (λ kind. Some kind) (reverse (kinds_of (take count slots)))) kinds ≡ all_popped (map (λ kind. Some kind) (reverse (kinds_of (take k slots)))) rest
    pop_step rest e = first_of (Leaves rest) e

    pub pop_fail : (wrong : CodeRefusalKind) → popped (Some kind) kinds ≡ Misses wrong → all_popped (map (λ kind. Some kind) (reverse (kinds_of (take count slots)))) kinds ≡ Misses wrong
    pop_fail wrong e = first_of (Misses wrong) e

-- ---- the blocks of parameters

-- the blocks so far, and the slots that are left
pub record IsPacking (kinds : List BaseType) (slots : List Slot) (bs : List ℕ) (count : ℕ) : Type 0 where
  pub inside : count ≤ length slots
  pub many : length bs * 64 + count ≡ length kinds
  pub left : drop (length bs * 64) kinds ≡ reversed count slots
  pub blocks_are : bs ≡ blocks (length bs) kinds

pub packing_more : (kinds : List BaseType) (slots : List Slot) (bs more : List ℕ) (block count : ℕ) (d : Slot) → IsPacking kinds slots bs count → 64 ≤ count → block ≡ packed 64 (reversed count slots) → more ≡ bs ++ block ∷ [] → IsPacking kinds slots more (count - 64)
packing_more kinds slots bs more block count d p full is e =
    let one : length more ≡ length bs + 1 = omega (arith, ap length e, length-append bs (block ∷ [])) in
    let at : length bs * 64 + 64 ≡ length more * 64 = omega (arith, one) in
    record {
      inside = omega (arith, p.inside);
      many = omega (arith, p.many, one);
      left =
          ap (λ n. drop n kinds) (sym at) ∙ sym (drop_drop (length bs * 64) 64 kinds) ∙ ap (drop 64) p.left
          ∙ drop_reversed slots 64 (count - 64) count d (omega arith) p.inside;
      blocks_are =
          e ∙ ap (λ l. l ++ block ∷ []) p.blocks_are ∙ ap (λ (b : ℕ). blocks (length bs) kinds ++ b ∷ []) (is ∙ ap (packed 64) (sym p.left))
          ∙ sym (blocks_more (length bs) kinds) ∙ ap (λ n. blocks n kinds) (sym one);
    }

-- this many as there are
take_least : {A : Type 0} (xs : List A) (n count : ℕ) → count ≡ min (length xs) n → take n xs ≡ take count xs
take_least xs n count h = sym (take_min n xs) ∙ (let least : min n (length xs) ≡ count = omega (arith, h) in ap (λ (j : ℕ). take j xs) least)

pub reversed_least : (slots : List Slot) (parameters count : ℕ) → count ≡ min (length slots) parameters → reversed parameters slots ≡ reversed count slots
reversed_least slots parameters count h = ap (λ front. reverse (kinds_of front)) (take_least slots parameters count h)

pub packing_start : (slots : List Slot) (parameters count : ℕ) (bs : List ℕ) → count ≡ min (length slots) parameters → bs ≡ [] → IsPacking (reversed parameters slots) slots bs count
packing_start slots parameters count bs h none =
    let inside : count ≤ length slots = omega (arith, h) in
    let empty : length bs ≡ 0 = ap length none in
    record {
      inside = inside;
      many = omega (arith, empty, ap length (reversed_least slots parameters count h), length-reversed count slots inside);
      left = ap (λ n. drop (n * 64) (reversed parameters slots)) empty ∙ reversed_least slots parameters count h;
      blocks_are = none ∙ ap (λ n. blocks n (reversed parameters slots)) (sym empty);
    }

-- ---- the parameters that are left when blocks were popped

module _ (slots : List Slot) (parameters count popped : ℕ) (bs : List ℕ) (is : bs ≡ full_blocks (reversed parameters slots)) (least : count ≡ min (length slots) parameters) (few : popped ≤ length bs) where
  pub popped_inside : popped * 64 ≤ count
  popped_inside =
      let inside : count ≤ length slots = omega (arith, least) in
      omega (arith, few, ap length is, length-blocks (length (reversed parameters slots) / 64) (reversed parameters slots), ap length (reversed_least slots parameters count least), length-reversed count slots inside)

  pub popped_left : drop (popped * 64) (reversed parameters slots) ≡ reversed (count - popped * 64) slots
  popped_left =
      ap (drop (popped * 64)) (reversed_least slots parameters count least)
      ∙ drop_reversed slots (popped * 64) (count - popped * 64) count (Scalar Int) (omega (arith, popped_inside)) (omega (arith, least))
