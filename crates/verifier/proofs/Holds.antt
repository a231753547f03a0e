-- Cells of one kind, and slots that hold cells of their kinds.
use Rattle.common.specs.Functions.{updated}
use Rattle.std.proofs.Common.{◌≡◌, ℕ, zero, suc, ◌==◌, Bool, true, false, if◌then◌else◌, List, [], ◌∷◌, length, map, take, replicate, slice_get, slice_set, Option, Some, None, refl, sym, ap, ◌∙◌, subst, pos, negsuc, ℤ}
use Rattle.std.specs.Prelude.{nat_lt}
use Rattle.std.proofs.lemmas.Bool.{eqb-true}
use Rattle.modules.specs.Transitions.{scalar_cell}
use Rattle.modules.specs.Machine.{element_at, with_element, first_cells, first_slots, first_global}
use Rattle.modules.specs.MachineParts.{slot_of, first_slot, cells_of_global, kinds_of}
use Rattle.common.specs.Values.{kind_of, zero_of}
use Rattle.modules.specs.Values.{is_same_kind}
use Rattle.common.specs.declared.base_type.BaseType.{BaseType}
use Rattle.common.specs.declared.base_type.BaseType.TheVariants as kind
use Rattle.common.specs.declared.value.Value.{Value as Cell}
use Rattle.modules.specs.declared.declaration.Slot.{Slot}
use Rattle.modules.specs.declared.declaration.Slot.TheVariants as slot
use Rattle.modules.specs.declared.declaration.Global.{Global}
use Rattle.modules.specs.declared.declaration.Global.TheVariants as global
use Rattle.verifier.specs.Signatures.{slot_kind}

abbrev pub AllOf : BaseType → List Cell → Type 0
AllOf kind [] = Unit {0}
AllOf kind (x ∷ cells) = (kind_of x ≡ kind) × AllOf kind cells

pub same_of : (a b : BaseType) → is_same_kind a b ≡ true → a ≡ b
same_of kind.Int kind.Int e = refl
same_of kind.Int kind.Boolean e = absurd (let no : false ≡ true = e in cc)
same_of kind.Boolean kind.Int e = absurd (let no : false ≡ true = e in cc)
same_of kind.Boolean kind.Boolean e = refl

zero_kind : (q : BaseType) → kind_of (zero_of q) ≡ q
zero_kind kind.Int = refl
zero_kind kind.Boolean = refl

pub all_zero : (n : ℕ) (q : BaseType) → AllOf q (replicate n (zero_of q))
all_zero zero q = tt
all_zero (suc n) q = (zero_kind q, all_zero n q)

all_get : (q : BaseType) (cells : List Cell) (k : ℕ) (x : Cell) → AllOf q cells → slice_get cells k ≡ Some x → kind_of x ≡ q
all_get q [] k x h e = absurd (let no : None ≡ Some x = e in cc)
all_get q (y ∷ cells) zero x h e = let same : y ≡ x = cc in ap kind_of (sym same) ∙ h.0
all_get q (y ∷ cells) (suc k) x h e = all_get q cells k x h.1 e

all_set : (q : BaseType) (cells : List Cell) (k : ℕ) (x : Cell) → AllOf q cells → kind_of x ≡ q → AllOf q (slice_set cells k x)
all_set q [] k x h e = tt
all_set q (y ∷ cells) zero x h e = (e, h.1)
all_set q (y ∷ cells) (suc k) x h e = (h.0, all_set q cells k x h.1 e)

pub element_kind : (q : BaseType) (cells : List Cell) (i : ℤ) (x : Cell) → AllOf q cells → element_at cells i ≡ Some x → kind_of x ≡ q
element_kind q cells (pos k) x h e = all_get q cells k x h e
element_kind q cells (negsuc k) x h e = absurd (let no : None ≡ Some x = e in cc)

pub with_element_kind : (q : BaseType) (cells : List Cell) (i : ℤ) (x : Cell) (new : List Cell) → AllOf q cells → kind_of x ≡ q → with_element cells i x ≡ Some new → AllOf q new
with_element_kind q cells (pos k) x new h e is = split (nat_lt k (length cells)) is
  where
    split : (b : Bool) → (if b then Some (slice_set cells k x) else None) ≡ Some new → AllOf q new
    split true is = let same : slice_set cells k x ≡ new = cc in subst (AllOf q) same (all_set q cells k x h e)
    split false is = absurd (let no : None ≡ Some new = is in cc)
with_element_kind q cells (negsuc k) x new h e is = absurd (let no : None ≡ Some new = is in cc)

pub scalar_kind : (q : BaseType) (cells : List Cell) → AllOf q cells → kind_of (scalar_cell q cells) ≡ q
scalar_kind q [] h = zero_kind q
scalar_kind q (x ∷ cells) h = h.0

-- ---- slots and globals

-- each slot that is there holds cells of its kind
abbrev pub Holds : List Slot → (ℕ → List Cell) → Type 0
Holds slots cells = (k : ℕ) (s : Slot) → slice_get slots k ≡ Some s → AllOf (slot_kind (Some s)) (cells k)

-- one slot with other cells of its kind
pub holds_changed : (slots : List Slot) (cells : ℕ → List Cell) (k : ℕ) (new : List Cell) → Holds slots cells → AllOf (slot_kind (slice_get slots k)) new → Holds slots (updated cells k new)
holds_changed slots cells k new h all j s is = split (j == k) refl
  where
    split : (b : Bool) → j == k ≡ b → AllOf (slot_kind (Some s)) (if b then new else cells j)
    split true e = subst (λ o. AllOf (slot_kind o) new) (ap (slice_get slots) (sym (eqb-true j k e)) ∙ is) all
    split false e = h j s is

-- ---- arguments

first_kind : (s : Slot) → AllOf (slot_kind (Some s)) (first_cells s)
first_kind (slot.Scalar q) = (zero_kind q, tt)
first_kind (slot.Array q count) = all_zero count q

parameter_kind : (slots : List Slot) (n k : ℕ) (q : BaseType) (s : Slot) → slice_get (kinds_of (take n slots)) k ≡ Some q → slice_get slots k ≡ Some s → q ≡ slot_kind (Some s)
parameter_kind [] n k q s e is = absurd (let no : None ≡ Some s = is in cc)
parameter_kind (x ∷ slots) zero k q s e is = absurd (let no : None ≡ Some q = e in cc)
parameter_kind (slot.Scalar r ∷ slots) (suc n) zero q s e is = let same : r ≡ q = cc in let slot_is : slot.Scalar r ≡ s = cc in sym same ∙ ap (λ (x : Slot). slot_kind (Some x)) slot_is
parameter_kind (slot.Array r count ∷ slots) (suc n) zero q s e is = let same : r ≡ q = cc in let slot_is : slot.Array r count ≡ s = cc in sym same ∙ ap (λ (x : Slot). slot_kind (Some x)) slot_is
parameter_kind (slot.Scalar r ∷ slots) (suc n) (suc k) q s e is = parameter_kind slots n k q s e is
parameter_kind (slot.Array r count ∷ slots) (suc n) (suc k) q s e is = parameter_kind slots n k q s e is

get_map : (cells : List Cell) (k : ℕ) (x : Cell) → slice_get cells k ≡ Some x → slice_get (map kind_of cells) k ≡ Some (kind_of x)
get_map [] k x e = absurd (let no : None ≡ Some x = e in cc)
get_map (y ∷ cells) zero x e = let same : y ≡ x = cc in ap (λ c. Some (kind_of c)) same
get_map (y ∷ cells) (suc k) x e = get_map cells k x e

-- the slots of a new frame
pub holds_first : (slots : List Slot) (n : ℕ) (arguments : List Cell) → map kind_of arguments ≡ kinds_of (take n slots) → Holds slots (first_slots slots arguments)
holds_first slots n arguments kinds k s is = split (slice_get arguments k) refl
  where
    split : (o : Option Cell) → slice_get arguments k ≡ o → AllOf (slot_kind (Some s)) (first_slot o (slice_get slots k))
    split None e = subst (λ o. AllOf (slot_kind (Some s)) (first_slot None o)) (sym is) (first_kind s)
    split (Some x) e = (parameter_kind slots n k (kind_of x) s (ap (λ qs. slice_get qs k) (sym kinds) ∙ get_map arguments k x e) is, tt)

pub holds_empty : (slots : List Slot) → Holds slots (first_slots slots [])
holds_empty slots k s is = subst (λ o. AllOf (slot_kind (Some s)) (first_slot None o)) (sym is) (first_kind s)

-- the globals at the start
global_first : (g : Global) → AllOf (slot_kind (Some (slot_of g))) (first_global g)
global_first (global.Int n) = (refl, tt)
global_first (global.Boolean b) = (refl, tt)
global_first (global.Array q count) = all_zero count q

pub holds_globals : (globals : List Global) → Holds (map slot_of globals) (λ k. cells_of_global (slice_get globals k))
holds_globals [] k s is = absurd (let no : None ≡ Some s = is in cc)
holds_globals (g ∷ globals) zero s is = let same : slot_of g ≡ s = cc in subst (λ (x : Slot). AllOf (slot_kind (Some x)) (first_global g)) same (global_first g)
holds_globals (g ∷ globals) (suc k) s is = holds_globals globals k s is
