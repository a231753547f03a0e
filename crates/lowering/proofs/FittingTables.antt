-- The globals and slots of a graph are within the limits of the module file.
use Rattle.std.proofs.Common.{◌≡◌, ℕ, ◌+◌, ◌<◌, ◌≤◌, Bool, true, false, ◌&&◌, ◌||◌, ltb, leb, eqb, List, [], ◌∷◌, ◌++◌, length, map, take, Option, Some, None, refl, sym, ap, ◌∙◌, subst, arith, sum_by}
use Rattle.std.specs.Prelude.{All, FitsSigned, is_none, if◌then◌else◌}
use Rattle.std.specs.Int.{w32}
use Rattle.std.specs.List.{list_all}
use Rattle.std.proofs.lemmas.Bool.{and_from, and_parts, false_from_ne_true, le-leb, leb-true, leb-false, ltb-true, eqb-true}
use Rattle.std.proofs.lemmas.Int.{to_z-of_z}
use Rattle.std.proofs.lemmas.List.{length-map}
use Rattle.std.proofs.lemmas.List.Sums.{sum_by-cons}
use Rattle.std.proofs.Math.Facts.{Fits-of_z, Fits-lt-pow}
use Rattle.std.proofs.Math.Bool.{or-true}
use Rattle.principals.specs.ActsFor.{PrincipalHierarchy}
use Rattle.common.specs.declared.value.Value.{Value}
use Rattle.common.specs.declared.value.Value.TheVariants.{Int as Number, Bool as Truth}
use Rattle.resolved.specs.Program.{GlobalEntry, SlotEntry}
use Rattle.resolved.specs.WellFormed.{size_fits, cell_count, label_fits, first_fits, written_fits, parameter_fits}
use Rattle.common.specs.declared.base_type.BaseType.{BaseType}
use Rattle.common.specs.declared.base_type.BaseType.TheVariants as kind
use Rattle.modules.specs.declared.declaration.Slot.{Slot}
use Rattle.modules.specs.declared.declaration.Slot.TheVariants as slot
use Rattle.modules.specs.declared.declaration.Global.{Global}
use Rattle.modules.specs.declared.declaration.Global.TheVariants as global
use Rattle.modules.specs.ByteFormat.{Fits}
use Rattle.modules.specs.Format.{any, cells_of_size, is_size, variable_kind, slot_beside, global_fields, global_after, slot_of, slot_fields, slot_cells, slots}
use Rattle.modules.specs.FormatParts.{global_cells, globals, slot_after}
use Rattle.lowering.specs.Interface.{declared_slot, slot_contents, scalar_global, declared_global, global_contents}
use Rattle.lowering.specs.Fitting.{IsShortValue}
use Rattle.lowering.proofs.Fronts.{FitEach-made, All-at_seam, passes_at_seam, passes_among_first, sum_at_seam}

-- ---- sizes

pub kind-fits : (k : BaseType) → Fits variable_kind k
unfolding variable_kind
kind-fits kind.Int = refl
kind-fits kind.Boolean = refl

size-tested : (cells size : ℕ) → size ≤ 65536 → cells + cells_of_size size ≤ 1048576 → is_size cells size ≡ true
size-tested cells size few room = and_from _ _ (le-leb size 65536 few) (le-leb (cells + cells_of_size size) 1048576 room)

not_none : (size : ℕ) → 0 < size → eqb size 0 ≡ false
not_none size some = false_from_ne_true (eqb size 0) (λ e. let zero_is = eqb-true size 0 e in absurd (omega (arith, some, zero_is)))

-- a length of an array is at least 1 and at most the limit
record IsLength (size : ℕ) : Type 0 where
  some : 0 < size
  few : size ≤ 65536

length-from : (size : ℕ) → size_fits (Some size) ≡ true → IsLength size
length-from size h =
    let parts = and_parts (ltb 0 size) (leb size 65536) h in
    record { some = ltb-true 0 size parts.0; few = leb-true size 65536 parts.1 }

cells-are : (size : ℕ) → 0 < size → cells_of_size size ≡ size
cells-are size some = ap (λ b. if b then 1 else size) (not_none size some)

-- what a function makes takes no more cells than is counted
cells-mapped : {A B : Type 0} (f : B → ℕ) (g : A → B) (h : A → ℕ) (test : A → Bool) → ((x : A) → test x ≡ true → f (g x) ≤ h x)
    → (xs : List A) → list_all test xs ≡ true → sum_by f (map g xs) ≤ sum_by h xs
cells-mapped f g h test each [] passed = omega arith
cells-mapped f g h test each (x ∷ xs) passed =
    let parts = and_parts (test x) (list_all test xs) passed in
    omega (arith, sum_by-cons f (g x) (map g xs), sum_by-cons h x xs, each x parts.0, cells-mapped f g h test each xs parts.1)

-- ---- slots after others

scalar-beside : (cells : ℕ) (test : ℕ → Bool) (k : BaseType) → cells + 1 ≤ 1048576 → test 0 ≡ true → Fits (slot_beside cells test) (slot.Scalar k)
unfolding slot_beside
scalar-beside cells test k room passes =
    ((kind-fits k, (omega arith, and_from _ _ (size-tested cells 0 (omega arith) room) passes)), refl)

array-again : (k : BaseType) (size : ℕ) → 0 < size → slot_of (k, size) ≡ slot.Array k size
array-again k size some = ap (λ b. if b then slot.Scalar k else slot.Array k size) (not_none size some)

array-beside : (cells : ℕ) (test : ℕ → Bool) (k : BaseType) (size : ℕ) → IsLength size → cells + cells_of_size size ≤ 1048576 → test size ≡ true → Fits (slot_beside cells test) (slot.Array k size)
unfolding slot_beside
array-beside cells test k size long room passes =
    ((kind-fits k, (omega (arith, long.few), and_from _ _ (size-tested cells size long.few room) passes)), array-again k size long.some)

-- ---- globals

int_global-fits : (before : List Global) (z : _) → FitsSigned w32 z → global_cells before + 1 ≤ 1048576 → Fits (global_after before) (global.Int z)
unfolding global_after
int_global-fits before z short room =
    ((scalar-beside (global_cells before) any kind.Int room refl, Fits-lt-pow (Fits-of_z short)), ap (λ n. global.Int n) (to_z-of_z w32 z short))

boolean_global-fits : (before : List Global) (b : Bool) → global_cells before + 1 ≤ 1048576 → Fits (global_after before) (global.Boolean b)
unfolding global_after
boolean_global-fits before true room = ((scalar-beside (global_cells before) any kind.Boolean room refl, (omega arith, refl)), refl)
boolean_global-fits before false room = ((scalar-beside (global_cells before) any kind.Boolean room refl, (omega arith, refl)), refl)

array_global-fits : (before : List Global) (k : BaseType) (size : ℕ) → IsLength size → global_cells before + cells_of_size size ≤ 1048576 → Fits (global_after before) (global.Array k size)
unfolding global_after
array_global-fits before k size long room = ((array-beside (global_cells before) any k size long room refl, refl), refl)

-- the cells of a slot of a graph, and of a global
abbrev cells_of_slot : Slot → ℕ
cells_of_slot s = cells_of_size (slot_fields s).1

abbrev slot_in : Global → Slot
slot_in g = (global_fields g).0

abbrev cells_of_global : Global → ℕ
cells_of_global g = cells_of_size (slot_fields (global_fields g).0).1

-- those of some globals, one by one
global_cells-sum : (all : List Global) → global_cells all ≡ sum_by cells_of_global all
global_cells-sum [] = refl
global_cells-sum (g ∷ all) = omega (arith, sum_by-cons cells_of_slot (slot_in g) (map slot_in all), sum_by-cons cells_of_global g all, global_cells-sum all)

global_cells-are : (entry : GlobalEntry) (size : Option ℕ) → size_fits size ≡ true → cells_of_global (declared_global entry.base size entry.first) ≡ cell_count size
global_cells-are entry None h = by entry.first
  where
    by : (v : Value) → cells_of_global (scalar_global v) ≡ 1
    by (Number z) = refl
    by (Truth b) = refl
global_cells-are entry (Some size) h = cells-are size (length-from size h).some

global-fits : (before : List Global) (entry : GlobalEntry) (size : Option ℕ) → size_fits size ≡ true → IsShortValue entry.first
    → global_cells before + cell_count size ≤ 1048576 → Fits (global_after before) (declared_global entry.base size entry.first)
global-fits before entry None h short room = by entry.first short
  where
    by : (v : Value) → IsShortValue v → Fits (global_after before) (scalar_global v)
    by (Number z) small = int_global-fits before z small room
    by (Truth b) small = boolean_global-fits before b room
global-fits before entry (Some size) h short room =
    let long = length-from size h in
    array_global-fits before entry.base size long (omega (arith, room, cells-are size long.some))

-- a global as a well-formed program has it
abbrev pub is_fit_global : PrincipalHierarchy → GlobalEntry → Bool
is_fit_global h entry = size_fits entry.size && label_fits h entry.label && first_fits entry

global_size : (h : PrincipalHierarchy) (entry : GlobalEntry) → is_fit_global h entry ≡ true → size_fits entry.size ≡ true
global_size h entry fits = (and_parts (size_fits entry.size) _ (and_parts (size_fits entry.size && label_fits h entry.label) _ fits).0).0

abbrev counted_global : GlobalEntry → ℕ
counted_global entry = cell_count entry.size

pub globals-fit : (h : PrincipalHierarchy) (entries : List GlobalEntry) → length entries ≤ 1048576
    → list_all (λ (entry : GlobalEntry). size_fits entry.size && label_fits h entry.label && first_fits entry) entries ≡ true
    → sum_by (λ (entry : GlobalEntry). cell_count entry.size) entries ≤ 1048576
    → All (λ (entry : GlobalEntry). IsShortValue entry.first) entries → Fits globals (map global_contents entries)
unfolding globals
globals-fit h entries few fits room short = (
  omega (arith, few, length-map entries global_contents),
  refl,
  FitEach-made _ global_contents entries (λ front entry rest e.
      let all = subst (λ l. list_all (is_fit_global h) l ≡ true) e fits in
      let size = global_size h entry (passes_at_seam (is_fit_global h) front entry rest all) in
      let total : sum_by counted_global entries ≡ sum_by counted_global (front ++ entry ∷ rest) = ap (sum_by counted_global) e in
      let cells = cells-mapped cells_of_global global_contents counted_global (λ (entry : GlobalEntry). size_fits entry.size) (λ entry h. let same = global_cells-are entry entry.size h in omega (arith, same)) front
      (front-sizes front entry rest all) in
      global-fits (map global_contents front) entry entry.size size (All-at_seam front entry rest (λ (entry : GlobalEntry). IsShortValue entry.first) (subst (All (λ (entry : GlobalEntry). IsShortValue entry.first)) e short))
      (omega (arith, room, total, cells, global_cells-sum (map global_contents front), sum_at_seam counted_global front entry rest))),
)
  where
    front-sizes : (front : List GlobalEntry) (entry : GlobalEntry) (rest : List GlobalEntry) → list_all (is_fit_global h) (front ++ entry ∷ rest) ≡ true → list_all (λ (entry : GlobalEntry). size_fits entry.size) front ≡ true
    front-sizes [] entry rest all = refl
    front-sizes (x ∷ front) entry rest all =
        let parts = and_parts (is_fit_global h x) _ all in
        and_from _ _ (global_size h x parts.0) (front-sizes front entry rest parts.1)

-- ---- slots

scalar_slot-fits : (parameters : ℕ) (before : List Slot) (k : BaseType) → slot_cells before + 1 ≤ 1048576 → Fits (slot_after parameters before) (slot.Scalar k)
unfolding slot_after
scalar_slot-fits parameters before k room = scalar-beside (slot_cells before) _ k room (or-true (leb parameters (length before)))

array_slot-fits : (parameters : ℕ) (before : List Slot) (k : BaseType) (size : ℕ) → IsLength size → parameters ≤ length before → slot_cells before + cells_of_size size ≤ 1048576 → Fits (slot_after parameters before) (slot.Array k size)
unfolding slot_after
array_slot-fits parameters before k size long beyond room =
    array-beside (slot_cells before) _ k size long room (ap (λ b. b || eqb size 0) (le-leb parameters (length before) beyond))

slot_cells-are : (entry : SlotEntry) (size : Option ℕ) → size_fits size ≡ true → cells_of_slot (declared_slot entry.base size) ≡ cell_count size
slot_cells-are entry None h = refl
slot_cells-are entry (Some size) h = cells-are size (length-from size h).some

slot-fits : (parameters : ℕ) (before : List Slot) (entry : SlotEntry) (size : Option ℕ) → size_fits size ≡ true → (length before < parameters → size ≡ None)
    → slot_cells before + cell_count size ≤ 1048576 → Fits (slot_after parameters before) (declared_slot entry.base size)
slot-fits parameters before entry None h scalar room = scalar_slot-fits parameters before entry.base room
slot-fits parameters before entry (Some size) h scalar room =
    let long = length-from size h in
    array_slot-fits parameters before entry.base size long (beyond (leb parameters (length before)) refl) (omega (arith, room, cells-are size long.some))
  where
    beyond : (b : Bool) → leb parameters (length before) ≡ b → parameters ≤ length before
    beyond true e = leb-true parameters (length before) e
    beyond false e = absurd (let none = scalar (leb-false parameters (length before) e) in cc)

abbrev pub is_fit_slot : PrincipalHierarchy → SlotEntry → Bool
is_fit_slot h entry = size_fits entry.size && written_fits h entry.written

abbrev counted_slot : SlotEntry → ℕ
counted_slot entry = cell_count entry.size

none_from : (entry : SlotEntry) (size : Option ℕ) → entry.size ≡ size → parameter_fits entry ≡ true → entry.size ≡ None
none_from entry None e h = e
none_from entry (Some n) e h =
    let scalar : is_none entry.size ≡ true = (and_parts (is_none entry.size) _ h).0 in
    absurd (let no : false ≡ true = sym (ap is_none e) ∙ scalar in cc)

pub slots-fit : (h : PrincipalHierarchy) (parameters : ℕ) (entries : List SlotEntry) → length entries ≤ 1048576 → parameters ≤ length entries
    → list_all parameter_fits (take parameters entries) ≡ true
    → list_all (λ (entry : SlotEntry). size_fits entry.size && written_fits h entry.written) entries ≡ true
    → sum_by (λ (entry : SlotEntry). cell_count entry.size) entries ≤ 1048576 → Fits (slots parameters) (map slot_contents entries)
unfolding slots slot_after
slots-fit h parameters entries few there written fits room = (
  omega (arith, few, length-map entries slot_contents),
  le-leb _ _ (omega (arith, there, length-map entries slot_contents)),
  FitEach-made _ slot_contents entries (λ front entry rest e.
      let all = subst (λ l. list_all (is_fit_slot h) l ≡ true) e fits in
      let first = subst (λ l. list_all parameter_fits (take parameters l) ≡ true) e written in
      let size : size_fits entry.size ≡ true = (and_parts (size_fits entry.size) _ (passes_at_seam (is_fit_slot h) front entry rest all)).0 in
      let total : sum_by counted_slot entries ≡ sum_by counted_slot (front ++ entry ∷ rest) = ap (sum_by counted_slot) e in
      let cells = cells-mapped cells_of_slot slot_contents counted_slot (λ (entry : SlotEntry). size_fits entry.size) (λ entry h. let same = slot_cells-are entry entry.size h in omega (arith, same)) front
      (front-sizes front entry rest all) in
      slot-fits parameters (map slot_contents front) entry entry.size size
      (λ below. none_from entry entry.size refl (passes_among_first parameter_fits parameters front entry rest (omega (arith, below, length-map front slot_contents)) first))
      (omega (arith, room, total, cells, sum_at_seam counted_slot front entry rest))),
)
  where
    front-sizes : (front : List SlotEntry) (entry : SlotEntry) (rest : List SlotEntry) → list_all (is_fit_slot h) (front ++ entry ∷ rest) ≡ true → list_all (λ (entry : SlotEntry). size_fits entry.size) front ≡ true
    front-sizes [] entry rest all = refl
    front-sizes (x ∷ front) entry rest all =
        let parts = and_parts (is_fit_slot h x) _ all in
        and_from _ _ (and_parts (size_fits x.size) _ parts.0).0 (front-sizes front entry rest parts.1)
