-- The kinds of the operands along code. They follow from the first instruction to the last: after one at which control goes on they are
-- what it leaves, and after another what it leaves without the top. So each position has one list, and code flows where each instruction
-- finds its operands and leaves what the position has to which it jumps.
use Rattle.std.proofs.Common.{◌≡◌, refl, sym, ap, ◌∙◌, subst, ℕ, zero, suc, ◌+◌, Bool, true, false, List, [], ◌∷◌, ◌++◌, length, take, Some, None, slice_get, arith, append_assoc, length-append}
use Rattle.std.proofs.Math.Seq.{take-append_seam}
use Rattle.std.proofs.lemmas.Option.{none-some, same_Some}
use Rattle.modules.specs.Contents.{ProcedureContents, ModuleContents}
use Rattle.modules.specs.declared.instruction.Instruction.{Instruction}
use Rattle.modules.specs.declared.instruction.Instruction.TheVariants as instruction
use Rattle.common.specs.declared.base_type.BaseType.{BaseType}
use Rattle.common.specs.declared.base_type.BaseType.TheVariants.{Boolean}
use Rattle.verifier.specs.Fixed.{instruction_refusal}
use Rattle.modules.specs.Targets.{goes_on, target_of}
use Rattle.verifier.specs.Flow.{Effect, Leaves, Misses, effect}
use Rattle.lowering.proofs.CodePieces.{Stands, stands-front, stands-back}

abbrev pub below_top : List BaseType → List BaseType
below_top [] = []
below_top (kind ∷ kinds) = kinds

abbrev pub following : (goes : Bool) → Effect → List BaseType
following true (Leaves after) = after
following false (Leaves after) = below_top after
following true (Misses wrong) = []
following false (Misses wrong) = []

taken : (whole before beyond : List Instruction) (k : ℕ) → whole ≡ before ++ beyond → length before ≡ k → take k whole ≡ before
taken whole before beyond k parts size =
    ap (take k) parts ∙ (ap (λ (n : ℕ). take n (before ++ beyond)) (sym size) ∙ take-append_seam before beyond)

module _ (m : ModuleContents) (p : ProcedureContents) where
  -- the kinds after an instruction, and after code
  abbrev pub onward : Instruction → List BaseType → List BaseType
  onward i kinds = following (goes_on i) (effect m p i kinds)

  abbrev pub along : List Instruction → List BaseType → List BaseType
  along [] kinds = kinds
  along (i ∷ code) kinds = along code (onward i kinds)

  pub along-append : (xs ys : List Instruction) (kinds : List BaseType) → along (xs ++ ys) kinds ≡ along ys (along xs kinds)
  along-append [] ys kinds = refl
  along-append (x ∷ xs) ys kinds = along-append xs ys (onward x kinds)

  -- an instruction that jumps nowhere, finds its operands and is not refused by itself, with the kinds before and after it
  pub record Does (i : Instruction) (before beyond : List BaseType) : Type 0 where
    pub after : List BaseType
    pub leaves : effect m p i before ≡ Leaves after
    pub follows : following (goes_on i) (Leaves after) ≡ beyond
    pub no_target : target_of i ≡ None
    pub fixed : instruction_refusal m p i ≡ None

-- the kinds at the positions of the code of a procedure
module _ (m : ModuleContents) (p : ProcedureContents) (whole : List Instruction) where
  abbrev pub kinds_at : ℕ → List BaseType
  kinds_at k = along m p (take k whole) []

  reaches : (code : List Instruction) (at n : ℕ) → length code ≡ n → Stands whole code at → kinds_at (at + n) ≡ along m p code (kinds_at at)
  reaches code at n size h =
      ap (λ c. along m p c [])
      (taken whole (h.before ++ code) h.beyond (at + n) (h.parts ∙ sym (append_assoc h.before code h.beyond)) (length-append h.before code ∙ omega (arith, size, h.position)))
      ∙ (along-append m p h.before code [] ∙ ap (λ c. along m p code (along m p c [])) (sym (taken whole h.before (code ++ h.beyond) at h.parts h.position)))

  -- an instruction at a position with some kinds
  pub record IsSound (i : Instruction) (kinds : List BaseType) : Type 0 where
    pub after : List BaseType
    pub leaves : effect m p i kinds ≡ Leaves after
    pub jumps : (to : ℕ) → target_of i ≡ Some to → kinds_at to ≡ after
    pub fixed : target_of i ≡ None → instruction_refusal m p i ≡ None

  abbrev pub EachSound : List Instruction → List BaseType → Type 0
  EachSound [] kinds = Unit {0}
  EachSound (i ∷ code) kinds = IsSound i kinds × EachSound code (onward m p i kinds)

  sound-append : (xs ys : List Instruction) (kinds : List BaseType) → EachSound xs kinds → EachSound ys (along m p xs kinds) → EachSound (xs ++ ys) kinds
  sound-append [] ys kinds h k = k
  sound-append (x ∷ xs) ys kinds h k = (h.0, sound-append xs ys (onward m p x kinds) h.1 k)

  pub sound-at : (code : List Instruction) (kinds : List BaseType) (k : ℕ) (i : Instruction) → EachSound code kinds → slice_get code k ≡ Some i
      → IsSound i (along m p (take k code) kinds)
  sound-at [] kinds k i h e = absurd (let no : None ≡ Some i = e in cc)
  sound-at (x ∷ code) kinds zero i h e = let same : x ≡ i = cc in subst (λ y. IsSound y kinds) same h.0
  sound-at (x ∷ code) kinds (suc k) i h e = sound-at code (onward m p x kinds) k i h.1 e

  -- a piece of the code at a position to which control comes with some kinds
  pub record Here (code : List Instruction) (at : ℕ) (kinds : List BaseType) : Type 0 where
    pub stands : Stands whole code at
    pub kinds_are : kinds_at at ≡ kinds

  pub here-front : (xs ys : List Instruction) (at : ℕ) (a : List BaseType) → Here (xs ++ ys) at a → Here xs at a
  here-front xs ys at a h = record { stands = stands-front whole xs ys at h.stands; kinds_are = h.kinds_are }

  pub here-end : (xs : List Instruction) (at n : ℕ) (a b : List BaseType) → length xs ≡ n → along m p xs a ≡ b → Here xs at a → kinds_at (at + n) ≡ b
  here-end xs at n a b size passes h = reaches xs at n size h.stands ∙ (ap (along m p xs) h.kinds_are ∙ passes)

  pub here-back : (xs ys : List Instruction) (at n : ℕ) (a b : List BaseType) → length xs ≡ n → along m p xs a ≡ b → Here (xs ++ ys) at a → Here ys (at + n) b
  here-back xs ys at n a b size passes h =
      record { stands = stands-back whole xs ys at n size h.stands; kinds_are = here-end xs at n a b size passes (here-front xs ys at a h) }

  -- a piece of code for a position, with the kinds before and after it; its instructions are fine wherever it stands, given some aims
  pub record Flows (at : ℕ) (code : List Instruction) (aims : Type 0) (before beyond : List BaseType) : Type 0 where
    pub passes : along m p code before ≡ beyond
    pub each : Here code at before → aims → EachSound code before

  pub flows-none : {at : ℕ} {aims : Type 0} {a : List BaseType} → Flows at [] aims a a
  flows-none = record { passes = refl; each = λ h g. tt }

  pub flows-both : {at : ℕ} {xs ys : List Instruction} {aims : Type 0} {a b c : List BaseType} (n : ℕ) → length xs ≡ n
      → Flows at xs aims a b → Flows (at + n) ys aims b c → Flows at (xs ++ ys) aims a c
  flows-both {at = at} {xs = xs} {ys = ys} {a = a} {b = b} n size first second = record {
    passes = along-append m p xs ys a ∙ (ap (along m p ys) first.passes ∙ second.passes);
    each = λ h g. sound-append xs ys a (first.each (here-front xs ys at a h) g)
        (subst (EachSound ys) (sym first.passes) (second.each (here-back xs ys at n a b size first.passes h) g));
  }

  -- with other aims, which give the ones that are wanted
  pub flows-given : {at : ℕ} {code : List Instruction} {given : Type 0} {a b : List BaseType} (aims : Type 0)
      → (Here code at a → given → aims) → Flows at code aims a b → Flows at code given a b
  flows-given aims make f = record { passes = f.passes; each = λ h g. f.each h (make h g) }

  -- code without aims
  pub flows-free : {at : ℕ} {code : List Instruction} {given : Type 0} {a b : List BaseType} → Flows at code (Unit {0}) a b → Flows at code given a b
  flows-free f = flows-given (Unit {0}) (λ h g. tt) f

  pub flows-one : {at : ℕ} {aims : Type 0} {i : Instruction} {a b : List BaseType} → Does m p i a b → Flows at (i ∷ []) aims a b
  flows-one {i = i} d = record {
    passes = ap (following (goes_on i)) d.leaves ∙ d.follows;
    each = λ h g. (record { after = d.after; leaves = d.leaves; jumps = λ to e. absurd (none-some to (sym d.no_target ∙ e)); fixed = λ none. d.fixed }, tt);
  }

  pub flows-jump : {at : ℕ} {aims : Type 0} {a : List BaseType} (target : ℕ) → (aims → kinds_at target ≡ a)
      → Flows at (instruction.Jump target ∷ []) aims a (below_top a)
  flows-jump {a = a} target arrives = record {
    passes = refl;
    each = λ h g. (
      record {
        after = a;
        leaves = refl;
        jumps = λ to e. subst (λ t. kinds_at t ≡ a) (same_Some target to e) (arrives g);
        fixed = λ none. absurd (none-some target (sym none));
      },
      tt,
    );
  }

  pub flows-test : {at : ℕ} {aims : Type 0} {a : List BaseType} (target : ℕ) → (aims → kinds_at target ≡ a)
      → Flows at (instruction.JumpIfFalse target ∷ []) aims (Boolean ∷ a) a
  flows-test {a = a} target arrives = record {
    passes = refl;
    each = λ h g. (
      record {
        after = a;
        leaves = refl;
        jumps = λ to e. subst (λ t. kinds_at t ≡ a) (same_Some target to e) (arrives g);
        fixed = λ none. absurd (none-some target (sym none));
      },
      tt,
    );
  }
