-- The final positions of code: each follows from those after it, they stay in the code, and where all unconditional jumps go forward none
-- stands there.
use Rattle.std.proofs.Common.{◌≡◌, ℕ, zero, suc, ◌+◌, ◌<◌, ◌≤◌, refl, sym, ap, ◌∙◌, subst, arith, Bool, true, false, cond, ltb, List, length, get_or, set, Option, Some, None, slice_get}
use Rattle.std.specs.Prelude.{All, IfSome}
use Rattle.std.specs.Option.{option_map}
use Rattle.std.proofs.lemmas.Bool.{ltb-true, ltb-false}
use Rattle.std.proofs.lemmas.List.{get_or_past, get_or-set_same, get_or-set_other, length-map}
use Rattle.std.proofs.lemmas.List.Elements.{All-map}
use Rattle.std.proofs.lemmas.List.Folds.{map_fixed}
use Rattle.std.proofs.lemmas.Option.{slice_get_past, slice_get_within, slice_get-map, get_or_from_slice_get}
use Rattle.modules.specs.declared.instruction.Instruction.{Instruction}
use Rattle.modules.specs.declared.instruction.Instruction.TheVariants.{Jump, JumpIfFalse}
use Rattle.modules.specs.Contents.{ProcedureContents}
use Rattle.modules.specs.Targets.{target_of, renamed_instruction}
use Rattle.layout.specs.Graph.{IsHandlerIn, HasTargetIn, HasPositions}
use Rattle.lowering.specs.Threaded.{onward, followed, final_position, threaded}
use Rattle.lowering.proofs.Unthreaded.{threaded_procedure}
use Rattle.lowering.specs.Direct.{IsDirect, jump_of}
use Rattle.lowering.proofs.Following.{jump-is}

-- two ways on that agree after the position
pub onward-same : (position : ℕ) (on other : ℕ → ℕ) (jump : Option ℕ) → ((target : ℕ) → position < target → on target ≡ other target) → onward position on jump ≡ onward position other jump
onward-same position on other None same = refl
onward-same position on other (Some target) same = by (ltb position target) refl
  where
    by : (b : Bool) → ltb position target ≡ b → cond b (on target) position ≡ cond b (other target) position
    by true e = same target (ltb-true position target e)
    by false e = refl

pub onward-end : (code : List Instruction) (position : ℕ) (on : ℕ → ℕ) → length code ≤ position → onward position on (jump_of (slice_get code position)) ≡ position
onward-end code position on h = ap (λ (o : Option Instruction). onward position on (jump_of o)) (slice_get_past code position h)

-- as many jumps as there are instructions after a position are enough
enough : (code : List Instruction) (j k position : ℕ) → length code ≤ j + position → length code ≤ k + position → followed j code position ≡ followed k code position
enough code zero zero position h i = refl
enough code zero (suc k) position h i = sym (onward-end code position (followed k code) (omega (arith, h)))
enough code (suc j) zero position h i = onward-end code position (followed j code) (omega (arith, i))
enough code (suc j) (suc k) position h i =
    onward-same position (followed j code) (followed k code) (jump_of (slice_get code position))
    (λ target below. enough code j k target (omega (arith, h, below)) (omega (arith, i, below)))

pub final-next : (code : List Instruction) (position : ℕ) → final_position code position ≡ onward position (final_position code) (jump_of (slice_get code position))
final-next code position = enough code (length code) (suc (length code)) position (omega arith) (omega arith)

pub final-end : (code : List Instruction) (position : ℕ) → length code ≤ position → final_position code position ≡ position
final-end code position h = final-next code position ∙ onward-end code position (final_position code) h

-- ---- instructions that are renamed

pub target-renamed : (f : ℕ → ℕ) (i : Instruction) → target_of (renamed_instruction f i) ≡ option_map f (target_of i)
target-renamed f (Jump target) = refl
target-renamed f (JumpIfFalse target) = refl
target-renamed f i = refl

jump-renamed : (f : ℕ → ℕ) (o : Option Instruction) → jump_of o ≡ None → jump_of (option_map (renamed_instruction f) o) ≡ None
jump-renamed f None e = refl
jump-renamed f (Some (Jump target)) e = absurd (let no : Some target ≡ None = e in cc)
jump-renamed f (Some i) e = refl

-- ---- targets stay in the code

pub all-at : {A : Type 0} (P : A → Type 0) (xs : List A) (k : ℕ) (x : A) → All P xs → slice_get xs k ≡ Some x → P x
all-at P xs k x h e = subst P (get_or_from_slice_get xs k x x e) (h k x (slice_get_within xs k x e))

jump-inside : (code : List Instruction) (position target : ℕ) → All (HasTargetIn code) code → jump_of (slice_get code position) ≡ Some target → target < length code
jump-inside code position target each e = all-at (HasTargetIn code) code position (Jump target) each (jump-is (slice_get code position) target e)

onward-inside : (n position : ℕ) (on : ℕ → ℕ) (jump : Option ℕ) → ((target : ℕ) → target < n → on target < n) → position < n → ((target : ℕ) → jump ≡ Some target → target < n)
    → onward position on jump < n
onward-inside n position on None later below inside = below
onward-inside n position on (Some target) later below inside = by (ltb position target)
  where
    by : (b : Bool) → cond b (on target) position < n
    by true = later target (inside target refl)
    by false = below

followed-inside : (code : List Instruction) (jumps position : ℕ) → All (HasTargetIn code) code → position < length code → followed jumps code position < length code
followed-inside code zero position each below = below
followed-inside code (suc jumps) position each below =
    onward-inside (length code) position (followed jumps code) (jump_of (slice_get code position)) (λ target h. followed-inside code jumps target each h) below
    (λ target e. jump-inside code position target each e)

pub length-threaded : (code : List Instruction) → length (threaded code) ≡ length code
length-threaded code = length-map code (renamed_instruction (final_position code))

target-inside : (code : List Instruction) (i : Instruction) → All (HasTargetIn code) code → HasTargetIn code i → HasTargetIn (threaded code) (renamed_instruction (final_position code) i)
target-inside code i each inside =
    subst (λ (o : Option ℕ). IfSome o (λ target. target < length (threaded code))) (sym (target-renamed (final_position code) i)) (by (target_of i) inside)
  where
    by : (o : Option ℕ) → IfSome o (λ target. target < length code) → IfSome (option_map (final_position code) o) (λ target. target < length (threaded code))
    by None h = tt
    by (Some target) h = omega (arith, followed-inside code (length code) target each h, length-threaded code)

pub threaded-positioned : (g : ProcedureContents) → HasPositions g → HasPositions (threaded_procedure g)
threaded-positioned g h = record {
  targets = All-map (HasTargetIn (threaded g.code)) (renamed_instruction (final_position g.code)) g.code
      (λ k d below. target-inside g.code (get_or g.code k d) h.targets (h.targets k d below));
  handlers = subst (λ n. All (IsHandlerIn n) g.handlers) (sym (length-threaded g.code)) h.handlers;
}

-- ---- no jump to a jump

-- all unconditional jumps go forward
abbrev pub GoForward : List Instruction → Type 0
GoForward code = (position target : ℕ) → jump_of (slice_get code position) ≡ Some target → position < target

onward-stops : (code : List Instruction) (position : ℕ) (on : ℕ → ℕ) (jump : Option ℕ) → jump_of (slice_get code position) ≡ jump
    → ((target : ℕ) → position < target → jump_of (slice_get code (on target)) ≡ None) → ((target : ℕ) → jump ≡ Some target → position < target)
    → jump_of (slice_get code (onward position on jump)) ≡ None
onward-stops code position on None is later ahead = is
onward-stops code position on (Some target) is later ahead = by (ltb position target) refl
  where
    by : (b : Bool) → ltb position target ≡ b → jump_of (slice_get code (cond b (on target) position)) ≡ None
    by true e = later target (ahead target refl)
    by false e = absurd (omega (arith, ltb-false position target e, ahead target refl))

followed-stops : (code : List Instruction) (jumps position : ℕ) → GoForward code → length code ≤ jumps + position → jump_of (slice_get code (followed jumps code position)) ≡ None
followed-stops code zero position forward few = ap jump_of (slice_get_past code position (omega (arith, few)))
followed-stops code (suc jumps) position forward few =
    onward-stops code position (followed jumps code) (jump_of (slice_get code position)) refl
    (λ target ahead. followed-stops code jumps target forward (omega (arith, few, ahead))) (λ target e. forward position target e)

pub threaded-direct : (code : List Instruction) → GoForward code → All (IsDirect (threaded code)) (threaded code)
threaded-direct code forward =
    All-map (IsDirect (threaded code)) (renamed_instruction (final_position code)) code
    (λ k d below. subst (λ (o : Option ℕ). IfSome o (λ target. jump_of (slice_get (threaded code) target) ≡ None)) (sym (target-renamed (final_position code) (get_or code k d)))
    (by (target_of (get_or code k d))))
  where
    by : (o : Option ℕ) → IfSome (option_map (final_position code) o) (λ target. jump_of (slice_get (threaded code) target) ≡ None)
    by None = tt
    by (Some target) =
        ap jump_of (slice_get-map (renamed_instruction (final_position code)) code (final_position code target))
        ∙ jump-renamed (final_position code) (slice_get code (final_position code target)) (followed-stops code (length code) target forward (omega arith))

-- ---- code that no jump of which leads to a jump stays as it is

followed-none : (code : List Instruction) (jumps position : ℕ) → jump_of (slice_get code position) ≡ None → followed jumps code position ≡ position
followed-none code zero position none = refl
followed-none code (suc jumps) position none = ap (onward position (followed jumps code)) none

direct-same : (code : List Instruction) (i : Instruction) → IsDirect code i → renamed_instruction (final_position code) i ≡ i
direct-same code (Jump target) direct = ap (λ n. Jump n) (followed-none code (length code) target direct)
direct-same code (JumpIfFalse target) direct = ap (λ n. JumpIfFalse n) (followed-none code (length code) target direct)
direct-same code i direct = refl

pub threaded-same : (code : List Instruction) → All (IsDirect code) code → threaded code ≡ code
threaded-same code direct =
    map_fixed (renamed_instruction (final_position code)) code (λ k d below. direct-same code (get_or code k d) (direct k d below))

-- ---- the table of final positions, which is filled from its end

pub finals-begin : (code : List Instruction) (finals : List ℕ) → length finals ≡ length code → (k : ℕ) → length code ≤ k → get_or finals k k ≡ final_position code k
finals-begin code finals size k beyond = get_or_past finals k k (omega (arith, size, beyond)) ∙ sym (final-end code k beyond)

pub finals-more : (code : List Instruction) (finals read : List ℕ) (position value : ℕ) (i : Instruction) → length finals ≡ length code → read ≡ finals
    → ((k : ℕ) → position < k → get_or finals k k ≡ final_position code k) → position < length code → slice_get code position ≡ Some i
    → value ≡ onward position (λ target. get_or read target target) (jump_of (Some i))
    → (k : ℕ) → position ≤ k → get_or (set finals position value) k k ≡ final_position code k
finals-more code finals read position value i size same_table beyond below there is k h = by (ltb position k) refl
  where
    here : value ≡ final_position code position
    here =
        is ∙ ap (λ (table : List ℕ). onward position (λ target. get_or table target target) (jump_of (Some i))) same_table
        ∙ ap (λ (o : Option Instruction). onward position (λ target. get_or finals target target) (jump_of o)) (sym there)
        ∙ onward-same position (λ target. get_or finals target target) (final_position code) (jump_of (slice_get code position)) beyond
        ∙ sym (final-next code position)

    by : (b : Bool) → ltb position k ≡ b → get_or (set finals position value) k k ≡ final_position code k
    by true e =
        let after : position < k = ltb-true position k e in
        get_or-set_other finals position k value k (λ same. absurd (omega (arith, same, after))) ∙ beyond k after
    by false e =
        let same : position ≡ k = omega (arith, h, ltb-false position k e) in
        subst (λ n. get_or (set finals position value) n n ≡ final_position code n) same
        (get_or-set_same finals position value position (omega (arith, size, below)) ∙ here)

-- ---- code by the table
renamed-same : (f g : ℕ → ℕ) (i : Instruction) → ((n : ℕ) → f n ≡ g n) → renamed_instruction f i ≡ renamed_instruction g i
renamed-same f g (Jump target) same = ap (λ n. Jump n) (same target)
renamed-same f g (JumpIfFalse target) same = ap (λ n. JumpIfFalse n) (same target)
renamed-same f g i same = refl

pub threaded-by : (code : List Instruction) (finals read : List ℕ) (i j : Instruction) → read ≡ finals → ((n : ℕ) → get_or finals n n ≡ final_position code n)
    → j ≡ renamed_instruction (λ target. get_or read target target) i → j ≡ renamed_instruction (final_position code) i
threaded-by code finals read i j same_table each is =
    is ∙ renamed-same (λ target. get_or read target target) (final_position code) i (λ n. ap (λ (table : List ℕ). get_or table n n) same_table ∙ each n)
