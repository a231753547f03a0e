-- A procedure of a graph whose instructions are fine and whose handlers begin without operands has no fault when it is laid out: the kinds
-- at the offset of a position are those at the position.
use Rattle.std.proofs.Common.{◌≡◌, refl, sym, ap, ◌∙◌, subst, ℕ, zero, suc, ◌+◌, ◌-◌, ◌<◌, ◌≤◌, Bool, true, false, cond, eqb, ltb, ◌&&◌, ◌||◌, List, [], ◌∷◌, ◌++◌, All, length, map, take, get_or, Option, Some, None, slice_get, arith}
use Rattle.std.specs.Prelude.{IfSome, nat_lt, if◌then◌else◌}
use Rattle.std.specs.Option.{option_map}
use Rattle.std.proofs.lemmas.Bool.{lt-ltb, le-ltb, ltb-true, ltb-false, ne_eqb, or_right}
use Rattle.std.proofs.lemmas.Bool.Decides.{nat_tests}
use Rattle.std.proofs.lemmas.List.Elements.{All-head, All-tail, All-map, All-contains}
use Rattle.std.proofs.lemmas.Option.{slice_get-get_or, same_Some}
use Rattle.modules.proofs.Spelling.{bytes-length}
use Rattle.modules.specs.Code.{width_of, code_length, instruction_at}
use Rattle.modules.specs.Contents.{ProcedureContents, ModuleContents}
use Rattle.modules.specs.Machine.{machine_code}
use Rattle.modules.specs.declared.declaration.Handler.{Handler}
use Rattle.modules.specs.declared.instruction.Instruction.{Instruction}
use Rattle.modules.specs.declared.instruction.Instruction.TheVariants.{Jump, JumpIfFalse, Return}
use Rattle.common.specs.declared.base_type.BaseType.{BaseType}
use Rattle.layout.specs.Graph.{IsHandlerIn, HasPositions}
use Rattle.layout.specs.Offsets.{offset, laid_out_procedure}
use Rattle.modules.specs.Targets.{goes_on, target_of, renamed_instruction, renamed_handler}
use Rattle.layout.proofs.Fitting.{length-renamed}
use Rattle.layout.proofs.Offsets.{width-renamed, offset-start, offset-less, fetched, next_at}
use Rattle.layout.proofs.Starts.{start-at}
use Rattle.layout.proofs.Tables.{offset-end}
use Rattle.verifier.specs.declared.fault.CodeRefusalKind.{CodeRefusalKind}
use Rattle.verifier.specs.declared.fault.CodeRefusalKind.TheVariants as kind
use Rattle.verifier.specs.Fixed.{unless, is_start, is_end, instruction_refusal, handler_refusal, refusals_at, instruction_refusals, handler_refusals}
use Rattle.verifier.specs.Flow.{Edge, next, jumps, caught, Leaves, Misses, effect, FlowsWell}
use Rattle.verifier.proofs.Laws.{flows_well}
use Rattle.lowering.proofs.Flowing.{IsSound, EachSound, sound-at, kinds_at, along, onward, following}
use Rattle.lowering.proofs.Settled.{Catches}
use Rattle.modules.proofs.Widths.{width_of-pos}
use Rattle.lowering.proofs.Finals.{target-renamed}

-- a procedure of a graph whose code flows and stays inside
pub record Sound (m : ModuleContents) (g : ProcedureContents) : Type 0 where
  pub fine : EachSound m (laid_out_procedure g) g.code g.code []
  pub catches : All (Catches m (laid_out_procedure g) g.code) g.handlers
  pub positions : HasPositions g
  pub starts : 0 < length g.code
  pub stays : (k : ℕ) (i : Instruction) → slice_get g.code k ≡ Some i → goes_on i ≡ true → k + 1 < length g.code

-- ---- lists by position, at the offsets of the positions
abbrev listed : List Instruction → (ℕ → List BaseType) → ℕ → Option (List BaseType)
listed [] kinds at = None
listed (i ∷ code) kinds at =
    cond (eqb at 0) (Some (kinds 0)) (cond (ltb at (width_of i)) None (listed code (λ k. kinds (suc k)) (at - width_of i)))

skip : {A : Type 0} (n w : ℕ) (first inside other : A) → 0 < n → w ≤ n → cond (eqb n 0) first (cond (ltb n w) inside other) ≡ other
skip n w first inside other some most =
    let not_first : eqb n 0 ≡ false = ne_eqb n 0 (λ e. absurd (omega (arith, some, e))) in
    let not_inside : ltb n w ≡ false = le-ltb n w most in
    rw (not_first, not_inside) refl

listed-past : (i : Instruction) (code : List Instruction) (kinds : ℕ → List BaseType) (n : ℕ) → listed (i ∷ code) kinds (width_of i + n) ≡ listed code (λ k. kinds (suc k)) n
listed-past i code kinds n =
    let back : width_of i + n - width_of i ≡ n = omega arith in
    skip (width_of i + n) (width_of i) (Some (kinds 0)) None (listed code (λ k. kinds (suc k)) (width_of i + n - width_of i)) (omega (arith, width_of-pos i)) (omega arith)
    ∙ ap (listed code (λ k. kinds (suc k))) back

listed-at : (code : List Instruction) (kinds : ℕ → List BaseType) (k : ℕ) → k < length code → listed code kinds (offset code k) ≡ Some (kinds k)
listed-at [] kinds k below = absurd (omega (arith, below))
listed-at (i ∷ code) kinds zero below = refl
listed-at (i ∷ code) kinds (suc k) below =
    listed-past i code kinds (offset code k) ∙ listed-at code (λ n. kinds (suc n)) k (omega (arith, below))

listed-end : (code : List Instruction) (kinds : ℕ → List BaseType) → listed code kinds (code_length code) ≡ None
listed-end [] kinds = refl
listed-end (i ∷ code) kinds = listed-past i code kinds (code_length code) ∙ listed-end code (λ k. kinds (suc k))

-- the position of an offset that has a list
record Found (code : List Instruction) (kinds : ℕ → List BaseType) (at : ℕ) (list : List BaseType) : Type 0 where
  position : ℕ
  below : position < length code
  is : at ≡ offset code position
  same : kinds position ≡ list

zero-is : (n : ℕ) → eqb n 0 ≡ true → n ≡ 0
zero-is n e = grind (arith, nat_tests)

listed-found : (code : List Instruction) (kinds : ℕ → List BaseType) (at : ℕ) (list : List BaseType) → listed code kinds at ≡ Some list → Found code kinds at list
listed-found [] kinds at list h = absurd (let no : None ≡ Some list = h in cc)
listed-found (i ∷ code) kinds at list h =
    by (eqb at 0) (ltb at (width_of i)) refl refl h (λ e. listed-found code (λ k. kinds (suc k)) (at - width_of i) list e)
  where
    rest : Option (List BaseType)
    rest = listed code (λ k. kinds (suc k)) (at - width_of i)

    by : (first inside : Bool) → eqb at 0 ≡ first → ltb at (width_of i) ≡ inside → cond first (Some (kinds 0)) (cond inside None rest) ≡ Some list
        → (rest ≡ Some list → Found code (λ k. kinds (suc k)) (at - width_of i) list) → Found (i ∷ code) kinds at list
    by true inside e f h more = record { position = 0; below = omega arith; is = zero-is at e; same = same_Some (kinds 0) list h }
    by false true e f h more = absurd (let no : None ≡ Some list = h in cc)
    by false false e f h more =
        let r = more h in
        record { position = suc r.position; below = omega (arith, r.below); is = omega (arith, r.is, ltb-false at (width_of i) f); same = r.same }

-- ---- instructions that are renamed
pub same-effect : (m : ModuleContents) (p : ProcedureContents) (f : ℕ → ℕ) (x : Instruction) (kinds : List BaseType) → effect m p (renamed_instruction f x) kinds ≡ effect m p x kinds
same-effect m p f (Jump target) kinds = refl
same-effect m p f (JumpIfFalse target) kinds = refl
same-effect m p f x kinds = refl

pub same-goes : (f : ℕ → ℕ) (x : Instruction) → goes_on (renamed_instruction f x) ≡ goes_on x
same-goes f (Jump target) = refl
same-goes f (JumpIfFalse target) = refl
same-goes f x = refl

target-inside : (n : ℕ) (x : Instruction) → IfSome (target_of x) (λ target. target < n) → (t : ℕ) → target_of x ≡ Some t → t < n
target-inside n x h t e = subst (λ (o : Option ℕ). IfSome o (λ target. target < n)) e h

-- a target that was renamed
pub renamed-from : (f : ℕ → ℕ) (o : Option ℕ) (to : ℕ) → option_map f o ≡ Some to → (t : ℕ) × (o ≡ Some t) × (f t ≡ to)
renamed-from f None to h = absurd (let no : None ≡ Some to = h in cc)
renamed-from f (Some t) to h = (t, refl, let same : Some (f t) ≡ Some to = h in cc)

along-next : (m : ModuleContents) (p : ProcedureContents) (code : List Instruction) (kinds : List BaseType) (k : ℕ) (x : Instruction) → slice_get code k ≡ Some x
    → along m p (take (suc k) code) kinds ≡ onward m p x (along m p (take k code) kinds)
along-next m p [] kinds k x e = absurd (let no : None ≡ Some x = e in cc)
along-next m p (y ∷ code) kinds zero x e = let same : y ≡ x = cc in ap (λ z. onward m p z kinds) same
along-next m p (y ∷ code) kinds (suc k) x e = along-next m p code (onward m p y kinds) k x e

-- ---- the flow
module _ (m : ModuleContents) (g : ProcedureContents) (s : Sound m g) where
  kinds : ℕ → List BaseType
  kinds k = kinds_at m (laid_out_procedure g) g.code k

  done : ℕ → Option (List BaseType)
  done at = listed g.code kinds at

  -- an offset that has a list is that of an instruction of the graph
  record AtInstruction (at : ℕ) (list : List BaseType) : Type 0 where
    position : ℕ
    is : at ≡ offset g.code position
    instruction : Instruction
    there : slice_get g.code position ≡ Some instruction
    below : position < length g.code
    same : kinds position ≡ list
    fine : IsSound m (laid_out_procedure g) g.code instruction list
    inside : (t : ℕ) → target_of instruction ≡ Some t → t < length g.code

  at-instruction : (at : ℕ) (list : List BaseType) → done at ≡ Some list → AtInstruction at list
  unfolding done kinds
  at-instruction at list has =
      let found = listed-found g.code kinds at list has in
      let x = get_or g.code found.position Return in
      let there = slice_get-get_or g.code found.position Return found.below in
      record {
        position = found.position;
        is = found.is;
        instruction = x;
        there = there;
        below = found.below;
        same = found.same;
        fine = subst (IsSound m (laid_out_procedure g) g.code x) found.same (sound-at m (laid_out_procedure g) g.code g.code [] found.position x s.fine there);
        inside = target-inside (length g.code) x (s.positions.targets found.position Return found.below);
      }

  renamed-there : (at : ℕ) (list : List BaseType) (h : AtInstruction at list) (i : Instruction) → instruction_at (laid_out_procedure g).code at ≡ Some i
      → renamed_instruction (offset g.code) h.instruction ≡ i
  renamed-there at list h i e =
      same_Some (renamed_instruction (offset g.code) h.instruction) i
      (sym (fetched (offset g.code) g.code h.position ∙ ap (option_map (renamed_instruction (offset g.code))) h.there)
      ∙ (ap (instruction_at (laid_out_procedure g).code) (sym h.is) ∙ e))

  effect-there : (at : ℕ) (list : List BaseType) (h : AtInstruction at list) (i : Instruction) → instruction_at (laid_out_procedure g).code at ≡ Some i
      → effect m (laid_out_procedure g) i list ≡ Leaves h.fine.after
  effect-there at list h i e =
      ap (λ (x : Instruction). effect m (laid_out_procedure g) x list) (sym (renamed-there at list h i e))
      ∙ (same-effect m (laid_out_procedure g) (offset g.code) h.instruction list ∙ h.fine.leaves)

  left-there : (at : ℕ) (list : List BaseType) (h : AtInstruction at list) (i : Instruction) (after : List BaseType) → instruction_at (laid_out_procedure g).code at ≡ Some i
      → effect m (laid_out_procedure g) i list ≡ Leaves after → h.fine.after ≡ after
  left-there at list h i after e leaves =
      let both : Leaves h.fine.after ≡ Leaves after = sym (effect-there at list h i e) ∙ leaves in
      cc

  goes-next : (at : ℕ) (list : List BaseType) (h : AtInstruction at list) (i : Instruction) → instruction_at (laid_out_procedure g).code at ≡ Some i → goes_on i ≡ true
      → done (at + width_of i) ≡ Some h.fine.after
  unfolding done kinds
  goes-next at list h i e goes =
      let x = h.instruction in
      let renamed = renamed-there at list h i e in
      let x_goes : goes_on x ≡ true = sym (same-goes (offset g.code) x) ∙ (ap goes_on renamed ∙ goes) in
      let width : width_of i ≡ width_of x = ap width_of (sym renamed) ∙ width-renamed (offset g.code) x in
      let room : suc h.position < length g.code = omega (arith, s.stays h.position x h.there x_goes) in
      let position : at + width_of i ≡ offset g.code (suc h.position) = ap (λ (n : ℕ). n + width_of i) h.is ∙ (ap (λ (n : ℕ). offset g.code h.position + n) width ∙ next_at g.code h.position x h.there) in
      let p = laid_out_procedure g in
      let beyond : kinds (suc h.position) ≡ h.fine.after =
      along-next m p g.code [] h.position x h.there ∙ (ap (onward m p x) h.same ∙ (ap (λ (b : Bool). following b (effect m p x list)) x_goes ∙ ap (following true) h.fine.leaves)) in
      ap (listed g.code kinds) position ∙ (listed-at g.code kinds (suc h.position) room ∙ ap (λ l. Some l) beyond)

  goes-there : (at : ℕ) (list : List BaseType) (h : AtInstruction at list) (i : Instruction) (to : ℕ) → instruction_at (laid_out_procedure g).code at ≡ Some i → target_of i ≡ Some to
      → done to ≡ Some h.fine.after
  unfolding done kinds
  goes-there at list h i to e target =
      let x = h.instruction in
      let from = renamed-from (offset g.code) (target_of x) to (sym (target-renamed (offset g.code) x) ∙ (ap target_of (renamed-there at list h i e) ∙ target)) in
      ap (listed g.code kinds) (sym from.2) ∙ (listed-at g.code kinds from.0 (h.inside from.0 from.1) ∙ ap (λ l. Some l) (h.fine.jumps from.0 from.1))

  -- each handler goes to where there are no operands
  handlers-empty : All (λ (handler : Handler). done handler.target ≡ Some []) (laid_out_procedure g).handlers
  unfolding done kinds
  handlers-empty =
      All-map (λ (handler : Handler). done handler.target ≡ Some []) (renamed_handler (offset g.code)) g.handlers
      (λ k d below. listed-at g.code kinds (get_or g.handlers k d).target (s.positions.handlers k d below).target ∙ ap (λ l. Some l) (s.catches k d below).empty)

  keeps : (at : ℕ) (list : List BaseType) (to : ℕ) (after : List BaseType) → done at ≡ Some list → Edge m (laid_out_procedure g) at list to after → done to ≡ Some after
  keeps at list to after has (next i _ _ e leaves goes there) =
      let h = at-instruction at list has in
      ap done there ∙ (goes-next at list h i e goes ∙ ap (λ l. Some l) (left-there at list h i after e leaves))
  keeps at list to after has (jumps i _ _ e leaves target) =
      let h = at-instruction at list has in
      goes-there at list h i to e target ∙ ap (λ l. Some l) (left-there at list h i after e leaves)
  keeps at list _ _ has (caught i handler e found start end) =
      All-contains (λ (handler : Handler). done handler.target ≡ Some []) (laid_out_procedure g).handlers handler handlers-empty found

  first-done : done 0 ≡ Some []
  unfolding done kinds
  first-done = ap (listed g.code kinds) (sym (offset-start g.code)) ∙ listed-at g.code kinds 0 s.starts

  end-none : done (code_length (laid_out_procedure g).code) ≡ None
  unfolding done
  end-none = ap (listed g.code kinds) (length-renamed (offset g.code) g.code) ∙ listed-end g.code kinds

  pub sound-flows : FlowsWell m (laid_out_procedure g)
  sound-flows = flows_well m (laid_out_procedure g) done (record {
    first = first-done;
    finds = λ at list i wrong has e misses.
        let no : Leaves (at-instruction at list has).fine.after ≡ Misses wrong = sym (effect-there at list (at-instruction at list has) i e) ∙ misses in
        cc;
    keeps = keeps;
    none_at_end = end-none;
  })

  -- ---- instructions and handlers by themselves
  jump-right : (t : ℕ) → t < length g.code → unless (is_start (laid_out_procedure g) (offset g.code t)) kind.Jump ≡ None
  jump-right t below = ap (λ (b : Bool). unless b kind.Jump) (start-at g.code t below)

  instruction-right : (x : Instruction) (list : List BaseType) → IsSound m (laid_out_procedure g) g.code x list → IfSome (target_of x) (λ target. target < length g.code)
      → instruction_refusal m (laid_out_procedure g) (renamed_instruction (offset g.code) x) ≡ None
  instruction-right (Jump target) list f below = jump-right target below
  instruction-right (JumpIfFalse target) list f below = jump-right target below
  instruction-right x list f below = f.fixed refl

  instructions-right : (number at : ℕ) (code : List Instruction)
      → ((k : ℕ) (x : Instruction) → slice_get code k ≡ Some x → instruction_refusal m (laid_out_procedure g) (renamed_instruction (offset g.code) x) ≡ None)
      → instruction_refusals m number (laid_out_procedure g) at (map (renamed_instruction (offset g.code)) code) ≡ []
  instructions-right number at [] right = refl
  instructions-right number at (x ∷ code) right =
      ap (λ (o : Option CodeRefusalKind). refusals_at number at o ++ instruction_refusals m number (laid_out_procedure g) (at + width_of (renamed_instruction (offset g.code) x)) (map (renamed_instruction (offset g.code)) code))
      (right 0 x refl)
      ∙ instructions-right number (at + width_of (renamed_instruction (offset g.code) x)) code (λ k y e. right (suc k) y e)

  ends-right : (k : ℕ) (inside : Bool) → ltb k (length g.code) ≡ inside → k ≤ length g.code
      → (is_start (laid_out_procedure g) (offset g.code k) || eqb (offset g.code k) (code_length (laid_out_procedure g).code)) ≡ true
  ends-right k true e most = ap (λ (b : Bool). b || eqb (offset g.code k) (code_length (laid_out_procedure g).code)) (start-at g.code k (ltb-true k (length g.code) e))
  ends-right k false e most =
      let last : k ≡ length g.code = omega (arith, ltb-false k (length g.code) e, most) in
      let ends : offset g.code k ≡ code_length (laid_out_procedure g).code = ap (offset g.code) last ∙ (offset-end g.code ∙ sym (length-renamed (offset g.code) g.code)) in
      or_right (is_start (laid_out_procedure g) (offset g.code k)) (eqb (offset g.code k) (code_length (laid_out_procedure g).code)) (equal (offset g.code k) (code_length (laid_out_procedure g).code) ends)
    where
      equal : (a b : ℕ) → a ≡ b → eqb a b ≡ true
      equal a b h = grind (arith, nat_tests)

  end-right : (k : ℕ) (inside : Bool) → ltb k (length g.code) ≡ inside → k ≤ length g.code → is_end (laid_out_procedure g) (offset g.code k) ≡ true
  end-right k inside e most =
      ap (λ n. is_start (laid_out_procedure g) (offset g.code k) || eqb (offset g.code k) n) (bytes-length (laid_out_procedure g).code)
      ∙ ends-right k inside e most

  handler-right : (x : Handler) → IsHandlerIn (length g.code) x → Catches m (laid_out_procedure g) g.code x
      → handler_refusal m (laid_out_procedure g) (renamed_handler (offset g.code) x) ≡ None
  handler-right x h c =
      let starts : is_start (laid_out_procedure g) (offset g.code x.start) ≡ true = start-at g.code x.start (omega (arith, h.not_empty, h.within)) in
      let goes : is_start (laid_out_procedure g) (offset g.code x.target) ≡ true = start-at g.code x.target h.target in
      let ends : is_end (laid_out_procedure g) (offset g.code x.end) ≡ true = end-right x.end (ltb x.end (length g.code)) refl h.within in
      let less : nat_lt (offset g.code x.start) (offset g.code x.end) ≡ true = lt-ltb (offset g.code x.start) (offset g.code x.end) (offset-less g.code x.start x.end h.not_empty) in
      all (is_start (laid_out_procedure g) (offset g.code x.start)) (is_start (laid_out_procedure g) (offset g.code x.target))
      (is_end (laid_out_procedure g) (offset g.code x.end)) (nat_lt (offset g.code x.start) (offset g.code x.end)) (nat_lt x.exception (machine_code m).exceptions)
      starts goes ends less c.there
    where
      all : (a b c d e : Bool) → a ≡ true → b ≡ true → c ≡ true → d ≡ true → e ≡ true
          → (if a && (b && (c && d)) then unless e kind.SlotOrIndex else Some kind.Jump) ≡ None
      all a b c d e h1 h2 h3 h4 h5 = rw (h1, h2, h3, h4, h5) refl

  handlers-right : (number : ℕ) (table : List Handler) → All (λ (x : Handler). handler_refusal m (laid_out_procedure g) (renamed_handler (offset g.code) x) ≡ None) table
      → handler_refusals m number (laid_out_procedure g) (map (renamed_handler (offset g.code)) table) ≡ []
  handlers-right number [] right = refl
  handlers-right number (x ∷ table) right =
      let Right : Handler → Type 0 = λ (x : Handler). handler_refusal m (laid_out_procedure g) (renamed_handler (offset g.code) x) ≡ None in
      ap (λ (o : Option CodeRefusalKind). refusals_at number (offset g.code x.start) o ++ handler_refusals m number (laid_out_procedure g) (map (renamed_handler (offset g.code)) table))
      (All-head Right x table right)
      ∙ handlers-right number table (All-tail Right x table right)

  pub sound-instructions : (number : ℕ) → instruction_refusals m number (laid_out_procedure g) 0 (laid_out_procedure g).code ≡ []
  sound-instructions number =
      instructions-right number 0 g.code
      (λ k x e. instruction-right x (along m (laid_out_procedure g) (take k g.code) []) (sound-at m (laid_out_procedure g) g.code g.code [] k x s.fine e) (targets k x e))
    where
      below : (code : List Instruction) (k : ℕ) (x : Instruction) → slice_get code k ≡ Some x → k < length code
      below [] k x e = absurd (let no : None ≡ Some x = e in cc)
      below (y ∷ code) zero x e = omega arith
      below (y ∷ code) (suc k) x e = omega (arith, below code k x e)

      targets : (k : ℕ) (x : Instruction) → slice_get g.code k ≡ Some x → IfSome (target_of x) (λ target. target < length g.code)
      targets k x e =
          let there = slice_get-get_or g.code k Return (below g.code k x e) in
          subst (λ (y : Instruction). IfSome (target_of y) (λ target. target < length g.code)) (same_Some (get_or g.code k Return) x (sym there ∙ e))
          (s.positions.targets k Return (below g.code k x e))

  pub sound-handlers : (number : ℕ) → handler_refusals m number (laid_out_procedure g) (laid_out_procedure g).handlers ≡ []
  sound-handlers number = handlers-right number g.handlers (λ k d below. handler-right (get_or g.handlers k d) (s.positions.handlers k d below) (s.catches k d below))
