-- Calls and returns: a call makes a frame that stands at the start of the flow, and its own frame waits for what is returned.
use Rattle.std.proofs.Common.{◌≡◌, ℕ, zero, suc, ◌+◌, Bool, true, false, if◌then◌else◌, List, [], ◌∷◌, ◌++◌, length, map, reverse, slice_get, Option, Some, None, refl, sym, ap, ◌∙◌, subst, append-nil, append_assoc}
use Rattle.std.specs.Prelude.{nat_lt, is_none, is_some}
use Rattle.std.proofs.lemmas.List.{reverse-append}
use Rattle.modules.specs.Code.{width_of, instruction_at}
use Rattle.modules.specs.Contents.{ProcedureContents, ModuleContents}
use Rattle.modules.specs.Machine as machine
use Rattle.modules.specs.Transitions as transitions
use Rattle.modules.specs.MachineParts as pieces
use Rattle.modules.specs.Machine.{State, Caller, Machine, Running, Ended, Deep, Header, machine_code, header_of, parameter_kinds}
use Rattle.modules.specs.MachineParts.{code_of, position_after, kinds_of}
use Rattle.common.specs.Values.{kind_of}
use Rattle.modules.specs.Values.{is_same_kind}
use Rattle.modules.specs.declared.instruction.Instruction.TheVariants.{Call, Return, ReturnValue}
use Rattle.common.specs.declared.base_type.BaseType.{BaseType}
use Rattle.common.specs.declared.value.Value.{Value as Cell}
use Rattle.verifier.specs.Refusals.{IsNotRefused}
use Rattle.verifier.specs.Flow.{Effect, Leaves, Misses, and_then, all_popped, effect, exchanged}
use Rattle.verifier.specs.SignatureParts.{pushed}
use Rattle.verifier.specs.Signatures.{called}
use Rattle.verifier.specs.SignatureParts.{value_kinds}
use Rattle.verifier.specs.declared.fault.CodeRefusalKind.TheVariants.{OperandKind}
use Rattle.verifier.proofs.Holds.{same_of, holds_first}
use Rattle.verifier.proofs.Laws.{start_in_flow}
use Rattle.verifier.proofs.Transitions.{right_kind}
use Rattle.verifier.proofs.Runs.{Waits, inner, Stands, Good, runs, over, leaves_same, leaves_good, value_good}
use Rattle.common.specs.declared.limits.TheConstants.{MAX_FRAMES}

-- the machine pops what the effect pops
record Pops (kinds : List BaseType) (before operands : List Cell) (rest : List BaseType) : Type 0 where
  arguments : List Cell
  left : List Cell
  popped : transitions.popped kinds before operands ≡ Some (arguments, left)
  kinds_are : map kind_of arguments ≡ reverse kinds ++ map kind_of before
  rest_is : map kind_of left ≡ rest

pops : (kinds : List BaseType) (before operands : List Cell) (rest : List BaseType) → all_popped (map (λ kind. Some kind) kinds) (map kind_of operands) ≡ Leaves rest → Pops kinds before operands rest
pops [] before operands rest e = record { arguments = before; left = operands; popped = refl; kinds_are = refl; rest_is = leaves_same (map kind_of operands) rest e }
pops (q ∷ kinds) before [] rest e = absurd (cc)
pops (q ∷ kinds) before (x ∷ operands) rest e =
    let r = right_kind (is_same_kind q (kind_of x)) (map kind_of operands) rest (all_popped (map (λ kind. Some kind) kinds)) e in
    let more = pops kinds (x ∷ before) operands rest r.1 in
    record {
      arguments = more.arguments;
      left = more.left;
      popped = ap (λ (b : Bool). if b then transitions.popped kinds (x ∷ before) operands else None) r.0 ∙ more.popped;
      kinds_are =
          more.kinds_are
          ∙ ap (λ (k : BaseType). reverse kinds ++ k ∷ map kind_of before) (sym (same_of q (kind_of x) r.0))
          ∙ sym (append_assoc (reverse kinds) (q ∷ []) (map kind_of before))
          ∙ ap (λ l. l ++ map kind_of before) (sym (reverse-append (q ∷ []) kinds));
      rest_is = more.rest_is;
    }

reverse-reverse : (xs : List BaseType) → reverse (reverse xs) ≡ xs
reverse-reverse [] = refl
reverse-reverse (x ∷ xs) =
    ap reverse (reverse-append (x ∷ []) xs) ∙ reverse-append (reverse xs) (x ∷ []) ∙ ap (λ l. x ∷ l) (reverse-reverse xs)

-- what was left was made of something
and_then_leaves : (e : Effect) (more : List BaseType → Effect) (after : List BaseType) → and_then e more ≡ Leaves after → (rest : List BaseType) × ((e ≡ Leaves rest) × (more rest ≡ Leaves after))
and_then_leaves (Leaves rest) more after h = (rest, (refl, h))
and_then_leaves (Misses wrong) more after h = absurd (let no : Misses wrong ≡ Leaves after = h in cc)

pub get_header : (procedures : List ProcedureContents) (k : ℕ) (p : ProcedureContents) → slice_get procedures k ≡ Some p → slice_get (map header_of procedures) k ≡ Some (header_of p)
get_header [] k p e = absurd (let no : None ≡ Some p = e in cc)
get_header (x ∷ procedures) zero p e = let same : x ≡ p = cc in ap (λ (q : ProcedureContents). Some (header_of q)) same
get_header (x ∷ procedures) (suc k) p e = get_header procedures k p e

module _ (m : ModuleContents) (free : IsNotRefused m) (p : ProcedureContents) (s : State) where
  -- ---- a call

  enters_good : (callee : ProcedureContents) (number : ℕ) (rest : List BaseType) → Stands m p s (Call number) (map kind_of s.frame.operands) → slice_get m.procedures number ≡ Some callee → effect m p (Call number) (map kind_of s.frame.operands) ≡ Leaves (pushed callee.returned rest) → (arguments left : List Cell) → map kind_of arguments ≡ parameter_kinds callee → map kind_of left ≡ rest → Good m (transitions.enters (machine_code m) s number callee.slots (Some (arguments, left)))
  enters_good callee number rest st there e arguments left kinds is = split (nat_lt (length s.callers + 1) MAX_FRAMES)
    where
      resumes : position_after (instruction_at (code_of (slice_get m.procedures s.frame.procedure)) s.frame.position) s.frame.position ≡ s.frame.position + width_of (Call number)
      resumes = ap (λ o. position_after (instruction_at (code_of o) s.frame.position) s.frame.position) st.there ∙ ap (λ o. position_after o s.frame.position) st.instruction

      caller : Caller
      caller = record { frame = record s.frame { operands = left }; resume = (machine_code m).next s.frame.procedure s.frame.position }

      waits : Waits m p callee caller
      waits = record {
        there = st.there;
        slots = st.slots;
        kinds = map kind_of s.frame.operands;
        flow = st.flow;
        number = number;
        calls = st.instruction;
        effect = e ∙ ap (λ l. Leaves (pushed callee.returned l)) (sym is);
        resumes = resumes;
      }

      split : (b : Bool) → Good m (if b then Running (record s { frame = machine.new_frame number callee.slots arguments; callers = caller ∷ s.callers }) else Ended Deep s.sent)
      split false = over Deep s.sent
      split true =
          runs _ (record {
            procedure = callee;
            there = there;
            flow = start_in_flow m callee;
            slots = holds_first callee.slots callee.parameters arguments kinds;
            globals = st.globals;
            callers = inner callee p caller s.callers waits st.callers;
          })

  pub calls_good : (number : ℕ) (callee : ProcedureContents) (after : List BaseType) → Stands m p s (Call number) (map kind_of s.frame.operands) → slice_get m.procedures number ≡ Some callee → effect m p (Call number) (map kind_of s.frame.operands) ≡ Leaves after → Good m (pieces.calls (machine_code m) s number (slice_get (machine_code m).headers number))
  calls_good number callee after st there e =
      let kinds = map kind_of s.frame.operands in
      let parameters = parameter_kinds callee in
      let own : exchanged (called (Some callee)) kinds ≡ Leaves after = ap (λ o. if (called o).own then exchanged (called o) kinds else Misses OperandKind) (sym there) ∙ e in
      let popped_first = and_then_leaves (all_popped (map (λ kind. Some kind) (reverse parameters)) kinds) (λ rest. Leaves (pushed callee.returned rest)) after own in
      let all = pops (reverse parameters) [] s.frame.operands popped_first.0 popped_first.1.0 in
      let arguments_are : map kind_of all.arguments ≡ parameters = all.kinds_are ∙ append-nil (reverse (reverse parameters)) ∙ reverse-reverse parameters in
      subst (λ o. Good m (pieces.calls (machine_code m) s number o)) (sym (get_header m.procedures number callee there))
      (subst (λ o. Good m (transitions.enters (machine_code m) s number callee.slots o)) (sym all.popped)
      (enters_good callee number popped_first.0 st there (e ∙ sym popped_first.1.1) all.arguments all.left arguments_are all.rest_is))

  -- ---- returns

  none_of : (o : Option BaseType) → is_none o ≡ true → o ≡ None
  none_of None e = refl
  none_of (Some q) e = absurd (let no : false ≡ true = e in cc)

  own_of : (b : Bool) (e : Effect) (after : List BaseType) → (if b then e else Misses OperandKind) ≡ Leaves after → (b ≡ true) × (e ≡ Leaves after)
  own_of true e after h = (refl, h)
  own_of false e after h = absurd (let no : Misses OperandKind ≡ Leaves after = h in cc)

  pub returns_good : (kinds after : List BaseType) → Stands m p s Return kinds → effect m p Return kinds ≡ Leaves after → Good m (pieces.returns_nothing s (slice_get (machine_code m).headers s.frame.procedure))
  returns_good kinds after st e =
      let none = none_of p.returned (own_of (is_none p.returned) _ after e).0 in
      subst (λ o. Good m (pieces.returns_nothing s o)) (sym (get_header m.procedures s.frame.procedure p st.there))
      (subst (λ o. Good m (transitions.leaves_without s o)) (sym none) (leaves_good m free s st.globals p s.callers none st.callers))

  gives_good : (o : Option BaseType) (operands : List Cell) (after : List BaseType) → Stands m p s ReturnValue (map kind_of s.frame.operands) → p.returned ≡ o → is_some o ≡ true → and_then (all_popped (map (λ kind. Some kind) (value_kinds o)) (map kind_of operands)) (λ rest. Leaves rest) ≡ Leaves after → Good m (transitions.gives_back s o operands)
  gives_good None operands after st is some e = absurd (let no : false ≡ true = some in cc)
  gives_good (Some q) [] after st is some e = absurd (cc)
  gives_good (Some q) (x ∷ operands) after st is some e =
      let all = and_then_leaves (all_popped (Some q ∷ []) (kind_of x ∷ map kind_of operands)) (λ rest. Leaves rest) after e in
      let r = right_kind (is_same_kind q (kind_of x)) (map kind_of operands) all.0 (all_popped []) all.1.0 in
      subst (λ (b : Bool). Good m (if b then pieces.leaves_value s x s.callers else machine.stuck s)) (sym r.0)
      (value_good m free s x st.globals p s.callers (is ∙ ap (λ (k : BaseType). Some k) (same_of q (kind_of x) r.0)) st.callers)

  pub gives_back_good : (after : List BaseType) → Stands m p s ReturnValue (map kind_of s.frame.operands) → effect m p ReturnValue (map kind_of s.frame.operands) ≡ Leaves after → Good m (pieces.returns_value s (slice_get (machine_code m).headers s.frame.procedure))
  gives_back_good after st e =
      let own = own_of (is_some p.returned) _ after e in
      subst (λ o. Good m (pieces.returns_value s o)) (sym (get_header m.procedures s.frame.procedure p st.there))
      (gives_good p.returned s.frame.operands after st refl own.0 own.1)
