-- Code is typed exactly where no rule refuses it.
use Rattle.std.proofs.Common.{◌≡◌, inl, inr, refl, sym, ap, ◌∙◌, subst, ℕ, ◌+◌, ◌==◌, Bool, true, false, ◌&&◌, if◌then◌else◌, List, [], ◌∷◌, ◌++◌, get_or, Option, Some, None, arith}
use Rattle.std.specs.Prelude.{All, IsTrue, is_some, nat_lt}
use Rattle.std.specs.Option.{option_map_or}
use Rattle.std.proofs.lemmas.Bool.{and_parts, eqb-true, cases_eq}
use Rattle.std.proofs.lemmas.List.Elements.{All-head, All-tail, Contains-get_or}
use Rattle.std.proofs.lemmas.Option.{slice_get-get_or, get_or_from_slice_get, same_Some}
use Rattle.common.specs.Functions.{updated}
use Rattle.common.specs.declared.base_type.BaseType.{BaseType}
use Rattle.modules.specs.Code.{code_length, width_of, offset_at, instruction_at}
use Rattle.modules.specs.Contents.{ModuleContents, ProcedureContents}
use Rattle.modules.specs.Machine.{machine_code}
use Rattle.modules.specs.Opcodes.{entry_of}
use Rattle.modules.specs.declared.declaration.Handler.{Handler}
use Rattle.modules.specs.declared.instruction.Instruction.{Instruction}
use Rattle.verifier.specs.declared.fault.CodeRefusal.{CodeRefusal}
use Rattle.verifier.specs.declared.fault.CodeRefusalKind.{CodeRefusalKind}
use Rattle.verifier.specs.declared.fault.CodeRefusalKind.TheVariants as kind
use Rattle.verifier.specs.Boundaries.{IsBoundary}
use Rattle.verifier.specs.Fixed.{is_start, unless, has_right_offsets, refusals_at, instruction_refusals, handler_refusals, procedure_refusals}
use Rattle.verifier.specs.Flow.{Edge, next, jumps, caught, Flow, starts, grows, Effect, Leaves, Misses, effect, IsRefusedForOperands, misses, meets, falls, between, FlowsWell}
use Rattle.verifier.specs.Refusals.{IsNotRefused}
use Rattle.verifier.specs.SignatureParts.{nowhere}
use Rattle.verifier.specs.Signatures.{signature}
use Rattle.verifier.proofs.FixedRefusals.{IsRight, all_right, boundaries, right_of_unless}
use Rattle.verifier.proofs.Indices.{numbered_at}
use Rattle.verifier.proofs.Laws.{changed_cases, changed_at, same_or_not, IsInFlow, start_in_flow, along_in_flow, flow_finds, flow_stays}
use Rattle.verifier.proofs.Offsets.{start_inside}
use Rattle.verifier.proofs.Reported.{all_flow}
use Rattle.verifier.proofs.Runs.{flows}
use Rattle.compiler.proofs.Rules.{effect-is, left-is, there-is}
use Rattle.compiler.specs.Laws.{TypedIsNotRefused}
use Rattle.compiler.specs.TypedCode.{Reaches, IsTyped, kinds_left, rule_in}
use Rattle.compiler.specs.TypedCode as typed

-- ---- what is typed is not refused

module _ (m : ModuleContents) (p : ProcedureContents) where
  abbrev Right : Instruction → Type 0
  Right i = IsTrue (option_map_or (is_start p) (entry_of i).target true && is_some (rule_in m p i))

  abbrev RightHandler : Handler → Type 0
  RightHandler h = IsTrue (has_right_offsets p h && nat_lt h.exception (machine_code m).exceptions)

  -- what an instruction leaves that was reached is its effect
  leaves : IsTyped m p → (at : ℕ) (kinds after : List BaseType) (i : Instruction) → Reaches m p at kinds → instruction_at p.code at ≡ Some i → effect m p i kinds ≡ Leaves after
      → kinds_left m p i kinds ≡ Some after
  leaves t at kinds after i r is e =
      let found = t.finds at kinds r in
      let same : i ≡ found.0 = same_Some i found.0 (sym is ∙ found.2.0) in
      let left : kinds_left m p i kinds ≡ Some found.1 = ap (λ x. kinds_left m p x kinds) same ∙ found.2.1 in
      let both : Leaves found.1 ≡ Leaves after = sym (effect-is m p i kinds found.1 left) ∙ e in
      let equal : found.1 ≡ after = cc in
      left ∙ ap (λ l. Some l) equal

  -- along an edge
  along : IsTyped m p → (at : ℕ) (kinds : List BaseType) (to : ℕ) (after : List BaseType) → Reaches m p at kinds → Edge m p at kinds to after → Reaches m p to after
  along t at kinds to after r (next i _ _ is e goes to_is) =
      subst (λ a. Reaches m p a after) (sym to_is) (typed.next at kinds after i r (is, leaves t at kinds after i r is e) goes)
  along t at kinds to after r (jumps i _ _ is e target) = typed.jumps at to kinds after i r (is, leaves t at kinds after i r is e) target
  along t at kinds _ _ r (caught i handler is found start end) = typed.caught at kinds handler r found start end

  -- what a flow has control may reach
  reached : IsTyped m p → (table : ℕ → Option (List BaseType)) → Flow m p table → (at : ℕ) (kinds : List BaseType) → table at ≡ Some kinds → Reaches m p at kinds
  reached t _ starts at kinds e =
      elim (changed_cases nowhere 0 [] at kinds e) [
        | inl h ↦ subst (λ a. Reaches m p a kinds) (sym h.0) (subst (Reaches m p 0) h.1 typed.starts)
        | inr h ↦ absurd (let no : ◌≡◌ {A = Option (List BaseType)} None (Some kinds) = h in cc)
      ]
  reached t _ (grows table from before to after f has edge none) at kinds e =
      elim (changed_cases table to after at kinds e) [
        | inl h ↦ subst (λ a. Reaches m p a kinds) (sym h.0) (subst (Reaches m p to) h.1 (along t from before to after (reached t table f from before has) edge))
        | inr h ↦ reached t table f at kinds h
      ]

  well : IsTyped m p → (offset : ℕ) (wrong : CodeRefusalKind) → IsRefusedForOperands m p offset wrong → ⊥
  well t _ _ (misses table at kinds i wrong f has is e) =
      let found = t.finds at kinds (reached t table f at kinds has) in
      let same : i ≡ found.0 = same_Some i found.0 (sym is ∙ found.2.0) in
      let no : Misses wrong ≡ Leaves found.1 = sym e ∙ (ap (λ x. effect m p x kinds) same ∙ effect-is m p found.0 kinds found.1 found.2.1) in
      absurd (cc)
  well t _ _ (meets table at kinds to after others f has edge inside there ne) =
      ne (t.one to after others (along t at kinds to after (reached t table f at kinds has) edge) (reached t table f to others there))
  well t _ _ (falls table kinds f has) =
      let found = t.finds (code_length p.code) kinds (reached t table f (code_length p.code) kinds has) in
      absurd (omega (arith, start_inside p.code (code_length p.code) found.0 found.2.0))

  both_right : (a b : Bool) → IsTrue (a && b) → (if a then unless b kind.SlotOrIndex else Some kind.Jump) ≡ None
  both_right a b h = let parts = and_parts a b h in rw (parts.0, parts.1) refl

  no_instructions : (number offset : ℕ) (code : List Instruction) → All Right code → instruction_refusals m number p offset code ≡ []
  no_instructions number offset [] right = refl
  no_instructions number offset (i ∷ code) right =
      ap (λ (o : Option CodeRefusalKind). refusals_at number offset o ++ instruction_refusals m number p (offset + width_of i) code)
      (both_right (option_map_or (is_start p) (entry_of i).target true) (signature m p i).there
      (subst (λ (b : Bool). IsTrue (option_map_or (is_start p) (entry_of i).target true && b)) (there-is m p i) (All-head Right i code right)))
      ∙ no_instructions number (offset + width_of i) code (All-tail Right i code right)

  no_handlers : (number : ℕ) (handlers : List Handler) → All RightHandler handlers → handler_refusals m number p handlers ≡ []
  no_handlers number [] right = refl
  no_handlers number (h ∷ handlers) right =
      ap (λ (o : Option CodeRefusalKind). refusals_at number h.start o ++ handler_refusals m number p handlers)
      (both_right (has_right_offsets p h) (nat_lt h.exception (machine_code m).exceptions) (All-head RightHandler h handlers right))
      ∙ no_handlers number handlers (All-tail RightHandler h handlers right)

no_procedures : (m : ModuleContents) (number : ℕ) (procedures : List ProcedureContents) → All (IsTyped m) procedures → procedure_refusals m number procedures ≡ []
no_procedures m number [] t = refl
no_procedures m number (p ∷ procedures) t =
    let one = All-head (IsTyped m) p procedures t in
    let rest = procedure_refusals m (number + 1) procedures in
    ap (λ (l : List CodeRefusal). l ++ handler_refusals m number p p.handlers ++ rest) (no_instructions m p number 0 p.code one.instructions)
    ∙ (ap (λ (l : List CodeRefusal). l ++ rest) (no_handlers m p number p.handlers one.handlers) ∙ no_procedures m (number + 1) procedures (All-tail (IsTyped m) p procedures t))

not_refused_from : (m : ModuleContents) → All (IsTyped m) m.procedures → IsNotRefused m
not_refused_from m t =
    all_flow m (no_procedures m 0 m.procedures t)
    (λ k p inside there. well m p (subst (IsTyped m) (get_or_from_slice_get m.procedures k p p there) (t k p inside)))

-- ---- what is not refused is typed

-- a table of the flow has the start, and what it has stays where an offset without a list gets one
kept : (table : ℕ → Option (List BaseType)) (to : ℕ) (after : List BaseType) → table to ≡ None → (at : ℕ) (kinds : List BaseType) → table at ≡ Some kinds
    → updated table to (Some after) at ≡ Some kinds
kept table to after none at kinds has = by (at == to) refl
  where
    by : (b : Bool) → at == to ≡ b → (if b then Some after else table at) ≡ Some kinds
    by true e = absurd (let no : None ≡ Some kinds = sym none ∙ (ap table (sym (eqb-true at to e)) ∙ has) in cc)
    by false e = has

module _ (m : ModuleContents) (p : ProcedureContents) (right : IsRight m p) (free : FlowsWell m p) where
  has_start : (table : ℕ → Option (List BaseType)) → Flow m p table → table 0 ≡ Some []
  has_start _ starts = changed_at nowhere 0 []
  has_start _ (grows table from before to after f has edge none) = kept table to after none 0 [] (has_start table f)

  -- a table of the flow that has all that two of them have
  record Joined (first second : ℕ → Option (List BaseType)) : Type 0 where
    table : ℕ → Option (List BaseType)
    flow : Flow m p table
    has_first : (at : ℕ) (kinds : List BaseType) → first at ≡ Some kinds → table at ≡ Some kinds
    has_second : (at : ℕ) (kinds : List BaseType) → second at ≡ Some kinds → table at ≡ Some kinds

  -- with one list more, which an edge brings
  extended : (first second : ℕ → Option (List BaseType)) (from : ℕ) (before : List BaseType) (to : ℕ) (after : List BaseType) → second from ≡ Some before
      → Edge m p from before to after → (j : Joined first second) (o : Option (List BaseType)) → j.table to ≡ o → Joined first (updated second to (Some after))
  extended first second from before to after has edge j None e = record {
    table = updated j.table to (Some after);
    flow = grows j.table from before to after j.flow (j.has_second from before has) edge e;
    has_first = λ at kinds is. kept j.table to after e at kinds (j.has_first at kinds is);
    has_second = λ at kinds is. elim (changed_cases second to after at kinds is) [
      | inl h ↦ ap (updated j.table to (Some after)) h.0 ∙ (changed_at j.table to after ∙ ap Some h.1)
      | inr h ↦ kept j.table to after e at kinds (j.has_second at kinds h)
    ];
  }
  extended first second from before to after has edge j (Some others) e =
      elim (same_or_not after others) [
        | inl same ↦ record {
          table = j.table;
          flow = j.flow;
          has_first = j.has_first;
          has_second = λ at kinds is. elim (changed_cases second to after at kinds is) [
            | inl h ↦ ap j.table h.0 ∙ (e ∙ ap Some (sym same ∙ h.1))
            | inr h ↦ j.has_second at kinds h
          ];
        }
        | inr ne ↦ elim (cases_eq to (code_length p.code)) [
          | inl ends ↦ absurd (free (code_length p.code) kind.FallsOffEnd (falls j.table others j.flow (ap j.table (sym ends) ∙ e)))
          | inr inside ↦ absurd (free to (between after others) (meets j.table from before to after others j.flow (j.has_second from before has) edge inside e ne))
        ]
      ]

  join : (first second : ℕ → Option (List BaseType)) → Flow m p first → Flow m p second → Joined first second
  join first _ f starts = record {
    table = first;
    flow = f;
    has_first = λ at kinds e. e;
    has_second = λ at kinds e. elim (changed_cases nowhere 0 [] at kinds e) [
      | inl h ↦ ap first h.0 ∙ (has_start first f ∙ ap Some h.1)
      | inr h ↦ absurd (let no : ◌≡◌ {A = Option (List BaseType)} None (Some kinds) = h in cc)
    ];
  }
  join first _ f (grows second from before to after g has edge none) =
      let j = join first second f g in extended first second from before to after has edge j (j.table to) refl

  -- what is in the flow at a boundary is at an instruction
  stands : (at : ℕ) (kinds : List BaseType) → IsInFlow m p at kinds → IsBoundary p at → (i : Instruction) × (instruction_at p.code at ≡ Some i)
  stands at kinds flows boundary =
      elim boundary [
        | inl ends ↦ absurd (flow_stays m p free kinds (subst (λ a. IsInFlow m p a kinds) ends flows))
        | inr there ↦ there
      ]

  -- what is reached is in the flow, at a boundary
  in_flow : (at : ℕ) (kinds : List BaseType) → Reaches m p at kinds → IsInFlow m p at kinds × IsBoundary p at
  in_flow _ _ typed.starts = (start_in_flow m p, (boundaries m p right).first)
  in_flow _ _ (typed.next at kinds after i r leaves goes) = (
    along_in_flow m p free at kinds (at + width_of i) after (in_flow at kinds r).0 (next i (at + width_of i) after leaves.0 (effect-is m p i kinds after leaves.1) goes refl),
    (boundaries m p right).next at i leaves.0,
  )
  in_flow _ _ (typed.jumps at to kinds after i r leaves target) = (
    along_in_flow m p free at kinds to after (in_flow at kinds r).0 (jumps i to after leaves.0 (effect-is m p i kinds after leaves.1) target),
    inr ((boundaries m p right).jumps at i to leaves.0 target),
  )
  in_flow _ _ (typed.caught at kinds handler r found start end) =
      let before = in_flow at kinds r in
      let here = stands at kinds before.0 before.1 in (
        along_in_flow m p free at kinds handler.target [] before.0 (caught here.0 handler here.1 found start end),
        (boundaries m p right).caught handler found,
      )

  right_parts : (a b : Bool) → (if a then unless b kind.SlotOrIndex else Some kind.Jump) ≡ None → IsTrue (a && b)
  right_parts true b e = right_of_unless b kind.SlotOrIndex e
  right_parts false b e = absurd (let no : Some kind.Jump ≡ None = e in cc)

  right_at : (at : ℕ) (i : Instruction) → instruction_at p.code at ≡ Some i → IsTrue (option_map_or (is_start p) (entry_of i).target true && (signature m p i).there)
  right_at at i is = right_parts (option_map_or (is_start p) (entry_of i).target true) (signature m p i).there (right.instructions at i is)

  finds : (at : ℕ) (kinds : List BaseType) → Reaches m p at kinds → (i : Instruction) × (after : List BaseType) × typed.Leaves m p at kinds i after
  finds at kinds r = by (stands at kinds (in_flow at kinds r).0 (in_flow at kinds r).1)
    where
      by : ((i : Instruction) × (instruction_at p.code at ≡ Some i)) → (i : Instruction) × (after : List BaseType) × typed.Leaves m p at kinds i after
      by (i, there) = go (effect m p i kinds) refl
        where
          go : (e : Effect) → effect m p i kinds ≡ e → (i : Instruction) × (after : List BaseType) × typed.Leaves m p at kinds i after
          go (Leaves after) e =
              let named = and_parts (option_map_or (is_start p) (entry_of i).target true) (signature m p i).there (right_at at i there) in
              (i, after, (there, left-is m p i kinds after named.1 e))
          go (Misses wrong) e = absurd (flow_finds m p free at kinds i wrong (in_flow at kinds r).0 there e)

  one : (at : ℕ) (kinds others : List BaseType) → Reaches m p at kinds → Reaches m p at others → kinds ≡ others
  one at kinds others r s =
      let a = (in_flow at kinds r).0 in
      let b = (in_flow at others s).0 in
      let j = join a.table b.table a.flow b.flow in
      let same : Some kinds ≡ Some others = sym (j.has_first at kinds a.has) ∙ j.has_second at others b.has in
      cc

  typed_procedure : IsTyped m p
  typed_procedure = record {
    instructions = λ n x inside.
        let i = get_or p.code n x in
        subst (λ (b : Bool). IsTrue (option_map_or (is_start p) (entry_of i).target true && b)) (sym (there-is m p i))
        (right_at (offset_at p.code n) i (numbered_at p.code n ∙ slice_get-get_or p.code n x inside));
    handlers = λ n x inside.
        right_parts (has_right_offsets p (get_or p.handlers n x)) (nat_lt (get_or p.handlers n x).exception (machine_code m).exceptions)
        (right.handlers (get_or p.handlers n x) (Contains-get_or p.handlers n x inside));
    finds = finds;
    one = one;
  }

pub typed_from : (m : ModuleContents) → IsNotRefused m → All (IsTyped m) m.procedures
typed_from m free = λ k p inside.
    let there = slice_get-get_or m.procedures k p inside in
    typed_procedure m (get_or m.procedures k p) (all_right m free.fixed k (get_or m.procedures k p) there) (flows m free k (get_or m.procedures k p) there)

pub typed_is_not_refused : TypedIsNotRefused
typed_is_not_refused m = (not_refused_from m, typed_from m)
