-- The rule of an instruction is its signature: what it names is there where it has a rule, and the kinds that it leaves are those of its
-- effect.
use Rattle.std.proofs.Common.{◌≡◌, ℕ, zero, suc, Bool, true, false, List, [], ◌∷◌, map, reverse, slice_get, Option, Some, None, refl, sym, ap, ◌∙◌, subst}
use Rattle.std.specs.Prelude.{◌++◌, if◌then◌else◌, is_some, nat_lt}
use Rattle.std.specs.Option.{option_map, option_map_or, option_to_list}
use Rattle.common.specs.declared.base_type.BaseType.{BaseType}
use Rattle.common.specs.declared.base_type.BaseType.TheVariants as kind
use Rattle.common.specs.contracts.direction.DirectionPartialEq.TheImpl.{eq-value as same_direction}
use Rattle.common.specs.declared.direction.Direction.{Direction}
use Rattle.common.specs.declared.direction.Direction.TheVariants.{Input, Output}
use Rattle.modules.specs.Contents.{ModuleContents, ProcedureContents}
use Rattle.modules.specs.Machine.{MachineCode, Rule, array, header_of, machine_code, opens, parameter_kinds, popped_by, rule, scalar, split_off}
use Rattle.modules.specs.declared.declaration.Slot.{Slot}
use Rattle.modules.specs.declared.declaration.Slot.TheVariants as slot
use Rattle.modules.specs.declared.instruction.Instruction.{Instruction}
use Rattle.modules.specs.declared.instruction.Instruction.TheVariants.{Push, PushBoolean, Pop, Load, Store, LoadElement, StoreElement, Clear, Operate, Jump, JumpIfFalse, Call, Return, ReturnValue, Receive, Send, Throw}
use Rattle.modules.specs.declared.instruction.MachineOperator.TheVariants.{Compute, Compare, Match, Negate, Not}
use Rattle.verifier.specs.Flow.{Effect, Leaves, Misses, all_popped, and_then, effect}
use Rattle.verifier.specs.Signatures as signatures
use Rattle.verifier.specs.Signatures.{InstructionSignature, declared_in, exchange, naming, signature}
use Rattle.verifier.specs.declared.fault.CodeRefusalKind.TheVariants.{OperandKind}
use Rattle.compiler.specs.TypedCode.{kinds_left, rule_in}

-- what an instruction of a signature pops, where the procedure may have it
abbrev due : InstructionSignature → Option (List (Option BaseType))
due s = if s.own then Some s.pops else None

-- a rule and a signature say the same
abbrev Agrees : Option Rule → InstructionSignature → Type 0
Agrees None s = s.there ≡ false
Agrees (Some r) s = (s.there ≡ true) × (r.pops ≡ due s) × (r.pushes ≡ option_to_list s.pushes)

-- ---- each instruction

scalars-agree : (o : Option Slot) (s : BaseType → InstructionSignature) (r : BaseType → Rule)
    → ((q : BaseType) → Agrees (Some (r q)) (s q)) → Agrees (scalar o r) (naming (signatures.is_scalar o) (s (signatures.slot_kind o)))
scalars-agree (Some (slot.Scalar q)) s r h = (refl, (h q).1, (h q).2)
scalars-agree (Some (slot.Array q count)) s r h = refl
scalars-agree None s r h = refl

arrays-agree : (o : Option Slot) (s : BaseType → InstructionSignature) (r : BaseType → ℕ → Rule)
    → ((q : BaseType) (count : ℕ) → Agrees (Some (r q count)) (s q)) → Agrees (array o r) (naming (signatures.is_array o) (s (signatures.slot_kind o)))
arrays-agree (Some (slot.Array q count)) s r h = (refl, (h q count).1, (h q count).2)
arrays-agree (Some (slot.Scalar q)) s r h = refl
arrays-agree None s r h = refl

-- the rule of what names a channel with a direction
abbrev directed_by : Direction → Option Direction → Rule → Option Rule
directed_by wanted found rule = if option_map_or (same_direction.it wanted) found false then Some rule else None

inputs-agree : (o : Option Direction) (s : InstructionSignature) (r : Rule) → Agrees (Some r) s → Agrees (directed_by Input o r) (naming (signatures.is_input o) s)
inputs-agree (Some Input) s r h = (refl, h.1, h.2)
inputs-agree (Some Output) s r h = refl
inputs-agree None s r h = refl

outputs-agree : (o : Option Direction) (s : InstructionSignature) (r : Rule) → Agrees (Some r) s → Agrees (directed_by Output o r) (naming (signatures.is_output o) s)
outputs-agree (Some Output) s r h = (refl, h.1, h.2)
outputs-agree (Some Input) s r h = refl
outputs-agree None s r h = refl

throws-agree : (there : Bool) (s : InstructionSignature) (r : Rule) → Agrees (Some r) s → Agrees (if there then Some r else None) (naming there s)
throws-agree true s r h = (refl, h.1, h.2)
throws-agree false s r h = refl

headers : (procedures : List ProcedureContents) (k : ℕ) → slice_get (map header_of procedures) k ≡ option_map header_of (slice_get procedures k)
headers [] k = refl
headers (p ∷ procedures) zero = refl
headers (p ∷ procedures) (suc k) = headers procedures k

calls-agree : (p : MachineCode) (number : ℕ) (o : Option ProcedureContents)
    → Agrees (option_map (λ callee. rule (reverse (parameter_kinds callee)) (option_to_list callee.returned) (opens p number callee.slots)) (option_map header_of o)) (naming (is_some o) (signatures.called o))
calls-agree p number None = refl
calls-agree p number (Some c) = (refl, refl, refl)

-- what a return pops is what is due
value-due : (returned : Option BaseType) (s : InstructionSignature) → s.own ≡ is_some returned → s.pops ≡ map (λ q. Some q) (option_to_list returned)
    → option_map (λ kind. Some kind ∷ []) returned ≡ due s
value-due None s own pops = rw own refl
value-due (Some q) s own pops = rw (own, pops) refl

agrees : (m : ModuleContents) (p : ProcedureContents) (i : Instruction) → Agrees (rule_in m p i) (signature m p i)
agrees m p (Push n) = (refl, refl, refl)
agrees m p (PushBoolean b) = (refl, refl, refl)
agrees m p Pop = (refl, refl, refl)
agrees m p (Load storage k) = scalars-agree (declared_in m p storage k) (λ q. exchange [] (Some q)) _ (λ q. (refl, refl, refl))
agrees m p (Store storage k) = scalars-agree (declared_in m p storage k) (λ q. exchange (q ∷ []) None) _ (λ q. (refl, refl, refl))
agrees m p (LoadElement storage k) = arrays-agree (declared_in m p storage k) (λ q. exchange (kind.Int ∷ []) (Some q)) _ (λ q count. (refl, refl, refl))
agrees m p (StoreElement storage k) = arrays-agree (declared_in m p storage k) (λ q. exchange (q ∷ kind.Int ∷ []) None) _ (λ q count. (refl, refl, refl))
agrees m p (Clear k) = arrays-agree (slice_get p.slots k) (λ q. exchange [] None) _ (λ q count. (refl, refl, refl))
agrees m p (Operate (Compute operator)) = (refl, refl, refl)
agrees m p (Operate (Compare comparison)) = (refl, refl, refl)
agrees m p (Operate (Match sameness)) = (refl, refl, refl)
agrees m p (Operate Negate) = (refl, refl, refl)
agrees m p (Operate Not) = (refl, refl, refl)
agrees m p (Jump target) = (refl, refl, refl)
agrees m p (JumpIfFalse target) = (refl, refl, refl)
agrees m p (Call number) =
    subst (λ o. Agrees (option_map (λ callee. rule (reverse (parameter_kinds callee)) (option_to_list callee.returned) (opens (machine_code m) number callee.slots)) o) (signature m p (Call number)))
    (sym (headers m.procedures number)) (calls-agree (machine_code m) number (slice_get m.procedures number))
agrees m p Return = (refl, refl, refl)
agrees m p ReturnValue = (refl, value-due p.returned (signature m p ReturnValue) refl refl, refl)
agrees m p (Receive k) = inputs-agree (slice_get (machine_code m).directions k) (exchange [] (Some kind.Int)) _ (refl, refl, refl)
agrees m p (Send k) = outputs-agree (slice_get (machine_code m).directions k) (exchange (kind.Int ∷ []) None) _ (refl, refl, refl)
agrees m p (Throw exception) = throws-agree (nat_lt exception (machine_code m).exceptions) (exchange [] None) _ (refl, refl, refl)

-- ---- what it leaves

abbrev Pops : Effect → Option (List BaseType × List BaseType) → Type 0
Pops (Leaves rest) (Some (taken, left)) = rest ≡ left
Pops (Misses wrong) None = Unit {0}
Pops (Leaves rest) None = ⊥
Pops (Misses wrong) (Some popped) = ⊥

pops : (wanted : List (Option BaseType)) (taken kinds : List BaseType) → Pops (all_popped wanted kinds) (split_off (λ q. q) wanted taken kinds)
pops [] taken kinds = refl
pops (None ∷ more) taken [] = tt
pops (None ∷ more) taken (q ∷ kinds) = pops more (q ∷ taken) kinds
pops (Some q ∷ more) taken [] = tt
pops (Some kind.Int ∷ more) taken (kind.Int ∷ kinds) = pops more (kind.Int ∷ taken) kinds
pops (Some kind.Int ∷ more) taken (kind.Boolean ∷ kinds) = tt
pops (Some kind.Boolean ∷ more) taken (kind.Int ∷ kinds) = tt
pops (Some kind.Boolean ∷ more) taken (kind.Boolean ∷ kinds) = pops more (kind.Boolean ∷ taken) kinds

abbrev Same : Effect → Option (List BaseType) → Type 0
Same (Leaves after) (Some left) = after ≡ left
Same (Misses wrong) None = Unit {0}
Same (Leaves after) None = ⊥
Same (Misses wrong) (Some left) = ⊥

pushes : (e : Effect) (o : Option (List BaseType × List BaseType)) (pushed : Option BaseType) → Pops e o
    → Same (and_then e (λ rest. Leaves (option_map_or (λ q. q ∷ rest) pushed rest))) (option_map (λ popped. option_to_list pushed ++ popped.1) o)
pushes (Leaves rest) (Some (taken, left)) None h = h
pushes (Leaves rest) (Some (taken, left)) (Some q) h = ap (λ l. q ∷ l) h
pushes (Misses wrong) None pushed h = tt
pushes (Leaves rest) None pushed h = absurd h
pushes (Misses wrong) (Some popped) pushed h = absurd h

-- by what the rule says
by_rule : (s : InstructionSignature) (r : Rule) (kinds : List BaseType) (own : Bool) → s.own ≡ own → r.pops ≡ (if own then Some s.pops else None) → r.pushes ≡ option_to_list s.pushes
    → Same (if s.own then and_then (all_popped s.pops kinds) (λ rest. Leaves (option_map_or (λ q. q ∷ rest) s.pushes rest)) else Misses OperandKind)
    (option_map (λ popped. r.pushes ++ popped.1) (popped_by (λ q. q) r kinds))
by_rule s r kinds true s_own same pushed =
    rw (s_own, same, pushed) (pushes (all_popped s.pops kinds) (split_off (λ q. q) s.pops [] kinds) s.pushes (pops s.pops [] kinds))
by_rule s r kinds false s_own same pushed = rw (s_own, same) tt

same_as : (m : ModuleContents) (p : ProcedureContents) (i : Instruction) (kinds : List BaseType) (o : Option Rule) → Agrees o (signature m p i) → (signature m p i).there ≡ true
    → Same (effect m p i kinds) (option_map_or (λ r. option_map (λ popped. r.pushes ++ popped.1) (popped_by (λ q. q) r kinds)) o None)
same_as m p i kinds None h there = absurd (let no : true ≡ false = sym there ∙ h in cc)
same_as m p i kinds (Some r) h there = by_rule (signature m p i) r kinds (signature m p i).own refl h.1 h.2

-- ---- as it is used

-- what an instruction names is there where it has a rule
there-agrees : (o : Option Rule) (s : InstructionSignature) → Agrees o s → is_some o ≡ s.there
there-agrees None s h = sym h
there-agrees (Some r) s h = sym h.0

pub there-is : (m : ModuleContents) (p : ProcedureContents) (i : Instruction) → is_some (rule_in m p i) ≡ (signature m p i).there
there-is m p i = there-agrees (rule_in m p i) (signature m p i) (agrees m p i)

to_left : (e : Effect) (o : Option (List BaseType)) → Same e o → (after : List BaseType) → e ≡ Leaves after → o ≡ Some after
to_left (Leaves rest) (Some left) h after e = let same : rest ≡ after = cc in ap (λ l. Some l) (sym h ∙ same)
to_left (Misses wrong) o h after e = absurd (let no : Misses wrong ≡ Leaves after = e in cc)
to_left (Leaves rest) None h after e = absurd h

from_left : (e : Effect) (o : Option (List BaseType)) → Same e o → (after : List BaseType) → o ≡ Some after → e ≡ Leaves after
from_left (Leaves rest) (Some left) h after e = let same : left ≡ after = cc in ap (λ l. Leaves l) (h ∙ same)
from_left e None h after is = absurd (let no : ◌≡◌ {A = Option (List BaseType)} None (Some after) = is in cc)
from_left (Misses wrong) (Some left) h after e = absurd h

-- where it is there, it leaves the kinds of its effect
pub left-is : (m : ModuleContents) (p : ProcedureContents) (i : Instruction) (kinds after : List BaseType) → (signature m p i).there ≡ true
    → effect m p i kinds ≡ Leaves after → kinds_left m p i kinds ≡ Some after
left-is m p i kinds after there e = to_left (effect m p i kinds) (kinds_left m p i kinds) (same_as m p i kinds (rule_in m p i) (agrees m p i) there) after e

-- and what it leaves is its effect
has_rule : (o : Option Rule) (kinds after : List BaseType) → option_map_or (λ r. option_map (λ popped. r.pushes ++ popped.1) (popped_by (λ q. q) r kinds)) o None ≡ Some after → is_some o ≡ true
has_rule None kinds after e = absurd (let no : ◌≡◌ {A = Option (List BaseType)} None (Some after) = e in cc)
has_rule (Some r) kinds after e = refl

pub effect-is : (m : ModuleContents) (p : ProcedureContents) (i : Instruction) (kinds after : List BaseType)
    → kinds_left m p i kinds ≡ Some after → effect m p i kinds ≡ Leaves after
effect-is m p i kinds after e =
    let there : (signature m p i).there ≡ true = sym (there-is m p i) ∙ has_rule (rule_in m p i) kinds after e in
    from_left (effect m p i kinds) (kinds_left m p i kinds) (same_as m p i kinds (rule_in m p i) (agrees m p i) there) after e
