-- The refusals that instructions and handlers have by themselves: the loops that look for the first one, and what is known where
-- there is none.
use Rattle.std.proofs.Common.{◌≡◌, inl, inr, ℕ, zero, suc, ◌+◌, ◌<◌, ◌≤◌, ◌-◌, ◌==◌, if◌then◌else◌, Bool, true, false, List, [], ◌∷◌, ◌++◌, length, drop, get_or, slice_get, Option, Some, None, refl, sym, ap, ◌∙◌, subst, arith}
use Rattle.std.specs.List.{Contains}
use Rattle.std.specs.Prelude.{◌&&◌, is_some, nat_lt}
use Rattle.std.proofs.lemmas.Bool.{and_parts}
use Rattle.std.proofs.lemmas.List.{drop_more}
use Rattle.modules.specs.Code.{width_of, code_length, instruction_at}
use Rattle.modules.specs.Contents.{ProcedureContents, ModuleContents}
use Rattle.modules.specs.declared.instruction.Instruction.{Instruction}
use Rattle.modules.specs.declared.declaration.Handler.{Handler}
use Rattle.verifier.specs.Fixed.{instruction_refusal, instruction_refusals, handler_refusal, handler_refusals, procedure_refusals, fixed_refusals, refusals_at, unless, is_start, is_end, has_right_offsets}
use Rattle.verifier.specs.Verified.{own_refusals}
use Rattle.modules.specs.declared.instruction.Instruction.TheVariants.{Jump, JumpIfFalse}
use Rattle.modules.specs.Machine.{machine_code}
use Rattle.modules.specs.Targets.{target_of}
use Rattle.verifier.specs.Boundaries.{IsBoundary, KeepsBoundaries}
use Rattle.verifier.specs.declared.fault.CodeRefusalKind.{CodeRefusalKind}
use Rattle.verifier.specs.declared.fault.CodeRefusalKind.TheVariants as kind
use Rattle.verifier.proofs.Offsets.{next_boundary}
use Rattle.verifier.specs.declared.fault.CodeRefusal.{CodeRefusal}
use Rattle.common.proofs.Cases.{append_empty}

module _ (m : ModuleContents) (number : ℕ) (procedure : ProcedureContents) where
  -- ---- the loop over instructions

  -- an instruction that is not refused adds none
  pub instructions_on : (offset : ℕ) (code : List Instruction) (k : ℕ) (d : Instruction) → k < length code → instruction_refusal m procedure (get_or code k d) ≡ None → instruction_refusals m number procedure offset (drop k code) ≡ instruction_refusals m number procedure (offset + width_of (get_or code k d)) (drop (k + 1) code)
  instructions_on offset code k d h e =
      ap (instruction_refusals m number procedure offset) (drop_more code k d h)
      ∙ ap (λ o. refusals_at number offset o ++ instruction_refusals m number procedure (offset + width_of (get_or code k d)) (drop (k + 1) code)) e

  -- ---- the loop over handlers

  pub handlers_on : (handlers : List Handler) (k : ℕ) (d : Handler) → k < length handlers → handler_refusal m procedure (get_or handlers k d) ≡ None → handler_refusals m number procedure (drop k handlers) ≡ handler_refusals m number procedure (drop (k + 1) handlers)
  handlers_on handlers k d h e =
      ap (handler_refusals m number procedure) (drop_more handlers k d h)
      ∙ ap (λ o. refusals_at number (get_or handlers k d).start o ++ handler_refusals m number procedure (drop (k + 1) handlers)) e

  pub first_handler : (handlers : List Handler) (k : ℕ) (d : Handler) (wrong : CodeRefusalKind) → k < length handlers → handler_refusal m procedure (get_or handlers k d) ≡ Some wrong → slice_get (handler_refusals m number procedure (drop k handlers)) 0 ≡ Some (record { kind = wrong; procedure = number; offset = (get_or handlers k d).start })
  first_handler handlers k d wrong h e =
      ap (λ refusals. slice_get refusals 0)
      (ap (handler_refusals m number procedure) (drop_more handlers k d h)
      ∙ ap (λ o. refusals_at number (get_or handlers k d).start o ++ handler_refusals m number procedure (drop (k + 1) handlers)) e)

-- the first of two lists together
pub first_of_both : (xs ys : List CodeRefusal) → slice_get xs 0 ≡ None → slice_get (xs ++ ys) 0 ≡ slice_get ys 0
first_of_both [] ys e = refl
first_of_both (x ∷ xs) ys e = absurd (let no : Some x ≡ None = e in cc)

pub first_of_front : (xs ys : List CodeRefusal) (x : CodeRefusal) → slice_get xs 0 ≡ Some x → slice_get (xs ++ ys) 0 ≡ Some x
first_of_front [] ys x e = absurd (let no : None ≡ Some x = e in cc)
first_of_front (y ∷ xs) ys x e = e

pub nothing_first : (xs : List CodeRefusal) → slice_get xs 0 ≡ None → xs ≡ []
nothing_first [] e = refl
nothing_first (x ∷ xs) e = absurd (let no : Some x ≡ None = e in cc)

-- ---- the loop over procedures

module _ (m : ModuleContents) (number : ℕ) where
  pub procedures_on : (procedures : List ProcedureContents) (k : ℕ) (d : ProcedureContents) → k < length procedures → slice_get (own_refusals m number (get_or procedures k d)) 0 ≡ None → slice_get (procedure_refusals m number (drop k procedures)) 0 ≡ slice_get (procedure_refusals m (number + 1) (drop (k + 1) procedures)) 0
  procedures_on procedures k d h e =
      ap (λ (ps : List ProcedureContents). slice_get (procedure_refusals m number ps) 0) (drop_more procedures k d h)
      ∙ first_of_both (own_refusals m number (get_or procedures k d)) (procedure_refusals m (number + 1) (drop (k + 1) procedures)) e

  pub first_procedure : (procedures : List ProcedureContents) (k : ℕ) (d : ProcedureContents) (x : CodeRefusal) → k < length procedures → slice_get (own_refusals m number (get_or procedures k d)) 0 ≡ Some x → slice_get (procedure_refusals m number (drop k procedures)) 0 ≡ Some x
  first_procedure procedures k d x h e =
      ap (λ (ps : List ProcedureContents). slice_get (procedure_refusals m number ps) 0) (drop_more procedures k d h)
      ∙ first_of_front (own_refusals m number (get_or procedures k d)) (procedure_refusals m (number + 1) (drop (k + 1) procedures)) x e

-- ---- where there is no refusal

not_refused : (number offset : ℕ) (o : Option CodeRefusalKind) → refusals_at number offset o ≡ [] → o ≡ None
not_refused number offset None e = refl
not_refused number offset (Some wrong) e = absurd (cc)

module _ (m : ModuleContents) (number : ℕ) (procedure : ProcedureContents) where
  instructions_right : (offset : ℕ) (code : List Instruction) → instruction_refusals m number procedure offset code ≡ [] → (k : ℕ) (i : Instruction) → slice_get code k ≡ Some i → instruction_refusal m procedure i ≡ None
  instructions_right offset [] e k i is = absurd (let no : None ≡ Some i = is in cc)
  instructions_right offset (x ∷ code) e zero i is =
      let both = append_empty (refusals_at number offset (instruction_refusal m procedure x)) (instruction_refusals m number procedure (offset + width_of x) code) e in
      let same : x ≡ i = cc in
      ap (instruction_refusal m procedure) (sym same) ∙ not_refused number offset (instruction_refusal m procedure x) both.0
  instructions_right offset (x ∷ code) e (suc k) i is =
      let both = append_empty (refusals_at number offset (instruction_refusal m procedure x)) (instruction_refusals m number procedure (offset + width_of x) code) e in
      instructions_right (offset + width_of x) code both.1 k i is

  handlers_right : (handlers : List Handler) → handler_refusals m number procedure handlers ≡ [] → (h : Handler) (k : ℕ) → k < length handlers → get_or handlers k h ≡ h → handler_refusal m procedure h ≡ None
  handlers_right [] e h k inside is = absurd (omega arith)
  handlers_right (x ∷ handlers) e h zero inside is =
      let both = append_empty (refusals_at number x.start (handler_refusal m procedure x)) (handler_refusals m number procedure handlers) e in
      let same : x ≡ h = is in
      ap (handler_refusal m procedure) (sym same) ∙ not_refused number x.start (handler_refusal m procedure x) both.0
  handlers_right (x ∷ handlers) e h (suc k) inside is =
      let both = append_empty (refusals_at number x.start (handler_refusal m procedure x)) (handler_refusals m number procedure handlers) e in
      handlers_right handlers both.1 h k (omega arith) is

procedures_right : (m : ModuleContents) (number : ℕ) (procedures : List ProcedureContents) → procedure_refusals m number procedures ≡ [] → (k : ℕ) (p : ProcedureContents) → slice_get procedures k ≡ Some p → (instruction_refusals m (number + k) p 0 p.code ≡ []) × (handler_refusals m (number + k) p p.handlers ≡ [])
procedures_right m number [] e k p is = absurd (let no : None ≡ Some p = is in cc)
procedures_right m number (x ∷ procedures) e zero p is =
    let both = append_empty (instruction_refusals m number x 0 x.code ++ handler_refusals m number x x.handlers) (procedure_refusals m (number + 1) procedures) e in
    let own = append_empty (instruction_refusals m number x 0 x.code) (handler_refusals m number x x.handlers) both.0 in
    let same : x ≡ p = cc in
    let at : number ≡ number + 0 = omega arith in
    subst (λ (n : ℕ). (instruction_refusals m n p 0 p.code ≡ []) × (handler_refusals m n p p.handlers ≡ [])) at
    (subst (λ (q : ProcedureContents). (instruction_refusals m number q 0 q.code ≡ []) × (handler_refusals m number q q.handlers ≡ [])) same own)
procedures_right m number (x ∷ procedures) e (suc k) p is =
    let both = append_empty (instruction_refusals m number x 0 x.code ++ handler_refusals m number x x.handlers) (procedure_refusals m (number + 1) procedures) e in
    let there = procedures_right m (number + 1) procedures both.1 k p is in
    let at : number + 1 + k ≡ number + suc k = omega arith in
    subst (λ (n : ℕ). (instruction_refusals m n p 0 p.code ≡ []) × (handler_refusals m n p p.handlers ≡ [])) at there

-- an instruction that is found is one of the code
later : (x : Instruction) (code : List Instruction) (at : ℕ) (i : Instruction) → (instruction_at code (at - width_of x) ≡ Some i → (k : ℕ) × (slice_get code k ≡ Some i)) → (first before : Bool) → (if first then Some x else if before then None else instruction_at code (at - width_of x)) ≡ Some i → (k : ℕ) × (slice_get (x ∷ code) k ≡ Some i)
later x code at i more true before e = (0, e)
later x code at i more false true e = absurd (let no : None ≡ Some i = e in cc)
later x code at i more false false e = let h = more e in (suc h.0, h.1)

index_of : (code : List Instruction) (at : ℕ) (i : Instruction) → instruction_at code at ≡ Some i → (k : ℕ) × (slice_get code k ≡ Some i)
index_of [] at i e = absurd (let no : None ≡ Some i = e in cc)
index_of (x ∷ code) at i e = later x code at i (λ h. index_of code (at - width_of x) i h) (at == 0) (nat_lt at (width_of x)) e

-- a procedure whose instructions and handlers are not refused by themselves
pub record IsRight (m : ModuleContents) (p : ProcedureContents) : Type 0 where
  pub instructions : (at : ℕ) (i : Instruction) → instruction_at p.code at ≡ Some i → instruction_refusal m p i ≡ None
  pub handlers : (h : Handler) → Contains p.handlers h → handler_refusal m p h ≡ None

right : (m : ModuleContents) (number : ℕ) (p : ProcedureContents) → instruction_refusals m number p 0 p.code ≡ [] → handler_refusals m number p p.handlers ≡ [] → IsRight m p
right m number p instructions handlers = record {
  instructions = λ at i there. let h = index_of p.code at i there in instructions_right m number p 0 p.code instructions h.0 i h.1;
  handlers = λ h there. handlers_right m number p p.handlers handlers h there.0 there.1 there.2;
}

pub all_right : (m : ModuleContents) → fixed_refusals m ≡ [] → (k : ℕ) (p : ProcedureContents) → slice_get m.procedures k ≡ Some p → IsRight m p
all_right m e k p is = let none = procedures_right m 0 m.procedures e k p is in right m (0 + k) p none.0 none.1

pub own_right : (m : ModuleContents) (number : ℕ) (p : ProcedureContents) → None ≡ slice_get (own_refusals m number p) 0 → IsRight m p
own_right m number p e =
    let both = append_empty (instruction_refusals m number p 0 p.code) (handler_refusals m number p p.handlers) (nothing_first (own_refusals m number p) (sym e)) in
    right m number p both.0 both.1

-- ---- so control goes to instructions or to the end

pub started : (o : Option Instruction) → is_some o ≡ true → (i : Instruction) × (o ≡ Some i)
started None e = absurd (let no : false ≡ true = e in cc)
started (Some i) e = (i, refl)

pub right_of_unless : (b : Bool) (wrong : CodeRefusalKind) → unless b wrong ≡ None → b ≡ true
right_of_unless true wrong e = refl
right_of_unless false wrong e = absurd (let no : Some wrong ≡ None = e in cc)

pub jump_right : (m : ModuleContents) (p : ProcedureContents) (i : Instruction) (to : ℕ) → instruction_refusal m p i ≡ None → target_of i ≡ Some to → is_start p to ≡ true
jump_right m p (Jump target) to e is = let same : target ≡ to = cc in ap (is_start p) (sym same) ∙ right_of_unless (is_start p target) kind.Jump e
jump_right m p (JumpIfFalse target) to e is = let same : target ≡ to = cc in ap (is_start p) (sym same) ∙ right_of_unless (is_start p target) kind.Jump e
jump_right m p _ to e is = absurd (let no : None ≡ Some to = is in cc)

pub handler_parts : (m : ModuleContents) (p : ProcedureContents) (h : Handler) → handler_refusal m p h ≡ None → has_right_offsets p h ≡ true
handler_parts m p h e = split (has_right_offsets p h) refl e
  where
    split : (b : Bool) → has_right_offsets p h ≡ b → (if b then unless (nat_lt h.exception (machine_code m).exceptions) kind.SlotOrIndex else Some kind.Jump) ≡ None → has_right_offsets p h ≡ true
    split true is e = is
    split false is e = absurd (let no : Some kind.Jump ≡ None = e in cc)

first_boundary : (p : ProcedureContents) (code : List Instruction) → p.code ≡ code → IsBoundary p 0
first_boundary p [] e = inl (sym (ap code_length e))
first_boundary p (i ∷ code) e = inr (i, ap (λ (c : List Instruction). instruction_at c 0) e)

pub boundaries : (m : ModuleContents) (p : ProcedureContents) → IsRight m p → KeepsBoundaries p
boundaries m p right = record {
  next = λ at i there. next_boundary p.code at i there;
  jumps = λ at i to there is. started (instruction_at p.code to) (jump_right m p i to (right.instructions at i there) is);
  caught = λ h there.
      let both = and_parts (is_start p h.start) _ (handler_parts m p h (right.handlers h there)) in
      inr (started (instruction_at p.code h.target) (and_parts (is_start p h.target) (is_end p h.end && nat_lt h.start h.end) both.1).0);
  first = first_boundary p p.code refl;
}

-- ---- the loop over procedures, step by step

pub drop_none : {A : Type 0} (xs : List A) (k : ℕ) → length xs ≤ k → drop k xs ≡ []
drop_none [] zero h = refl
drop_none [] (suc k) h = refl
drop_none (x ∷ xs) zero h = absurd (omega arith)
drop_none (x ∷ xs) (suc k) h = drop_none xs k (omega arith)

module _ (m q : ModuleContents) (number index : ℕ) (procedures : List ProcedureContents) (item body : ProcedureContents) (same_module : q ≡ m) (same_procedure : body ≡ item) (is : item ≡ get_or procedures index item) (inside : index < length procedures) (o : Option CodeRefusal) (found : o ≡ slice_get (own_refusals q number body) 0) where
  own_are : o ≡ slice_get (own_refusals m number (get_or procedures index item)) 0
  own_are =
      found ∙ ap (λ x. slice_get (own_refusals x number body) 0) same_module
      ∙ ap (λ x. slice_get (own_refusals m number x) 0) (same_procedure ∙ is)

  pub procedure_some : (refusal : CodeRefusal) → o ≡ Some refusal → slice_get (procedure_refusals m number (drop index procedures)) 0 ≡ Some refusal
  procedure_some refusal e = first_procedure m number procedures index item refusal inside (sym own_are ∙ e)

  pub procedure_none : o ≡ None → slice_get (procedure_refusals m number (drop index procedures)) 0 ≡ slice_get (procedure_refusals m (number + 1) (drop (index + 1) procedures)) 0
  procedure_none e = procedures_on m number procedures index item inside (sym own_are ∙ e)

-- after the last procedure there is none
pub none_left : (m : ModuleContents) (number index : ℕ) (procedures : List ProcedureContents) → procedures ≡ m.procedures → length procedures ≤ index → slice_get (procedure_refusals m number (drop index procedures)) 0 ≡ slice_get (procedure_refusals m 0 procedures) 0 → fixed_refusals m ≡ []
none_left m number index procedures are past same =
    nothing_first (fixed_refusals m)
    (ap (λ all. slice_get (procedure_refusals m 0 all) 0) (sym are) ∙ sym same ∙ ap (λ all. slice_get (procedure_refusals m number all) 0) (drop_none procedures index past))
