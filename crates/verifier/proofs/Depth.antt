-- The longest list that a search reached is as long as any that an instruction finds or leaves.
use Rattle.std.proofs.Common.{◌≡◌, ◌⊎◌, inl, inr, ◌+◌, ◌≤◌, Bool, true, false, if◌then◌else◌, List, [], length, Option, None, refl, ap, arith}
use Rattle.modules.specs.Contents.{ProcedureContents, ModuleContents}
use Rattle.modules.specs.Code.{width_of}
use Rattle.modules.specs.declared.instruction.Instruction.{Instruction}
use Rattle.modules.specs.declared.instruction.Instruction.TheVariants.{Jump, Return, ReturnValue, Throw}
use Rattle.common.specs.declared.base_type.BaseType.{BaseType}
use Rattle.verifier.specs.Depth.{IsMet, IsGreatestDepth, found, left}
use Rattle.verifier.specs.Flow.{Effect, Leaves, Misses, all_popped, and_then, exchanged, next}
use Rattle.verifier.specs.SignatureParts.{pushed}
use Rattle.verifier.specs.Signatures.{InstructionSignature, signature}
use Rattle.modules.specs.Targets.{goes_on}
use Rattle.verifier.specs.Operands.{list_of}
use Rattle.verifier.specs.Search.{table, IsSearching}
use Rattle.verifier.specs.declared.fault.CodeRefusalKind.TheVariants.{OperandKind}
use Rattle.verifier.specs.declared.search.ReachedOffsets.{ReachedOffsets}
use Rattle.verifier.proofs.Laws.{flow_within}
use Rattle.verifier.proofs.Reaching.{table_finished}
use Rattle.verifier.proofs.Runs.{leaves_same, popped_less}

-- ---- where nothing is pushed, no more is left than was found

left_less : (b : Bool) (s : InstructionSignature) (kinds after : List BaseType) → (if b then exchanged s kinds else Misses OperandKind) ≡ Leaves after → s.pushes ≡ None → length after ≤ length kinds
left_less false s kinds after e none = absurd (cc)
left_less true s kinds after e none = split (all_popped s.pops kinds) refl e
  where
    split : (popped : Effect) → all_popped s.pops kinds ≡ popped → and_then popped (λ rest. Leaves (pushed s.pushes rest)) ≡ Leaves after → length after ≤ length kinds
    split (Misses wrong) is e = absurd (cc)
    split (Leaves rest) is e = omega (arith, popped_less s.pops kinds rest is, ap length (leaves_same (pushed s.pushes rest) after e), ap (λ (o : Option BaseType). length (pushed o rest)) none)

-- an instruction after which control does not go on pushes nothing
settles : (m : ModuleContents) (p : ProcedureContents) (i : Instruction) → (goes_on i ≡ true) ⊎ ((signature m p i).pushes ≡ None)
settles m p (Jump target) = inr refl
settles m p Return = inr refl
settles m p ReturnValue = inr refl
settles m p (Throw exception) = inr refl
settles m p i = inl refl

-- ---- a search that is finished

pub run_greatest : (m : ModuleContents) (p : ProcedureContents) (s : ReachedOffsets) → IsSearching m p s [] → s.work ≡ [] → IsGreatestDepth m p s.deepest
run_greatest m p s g empty = record { bounds = along; met = (list_of s.operands s.longest, (g.longest.met, g.longest.depth)) }
  where
    along : (kinds : List BaseType) → IsMet m p kinds → length kinds ≤ s.deepest
    along _ (found flowing at kinds f has) = g.deep at kinds (flow_within m p (table p s) flowing (table_finished m p s g empty) f at kinds has)
    along _ (left flowing at kinds i after f has is e) =
        let finished = table_finished m p s g empty in
        let here = flow_within m p (table p s) flowing finished f at kinds has in
        elim (settles m p i) [
          | inl goes ↦ g.deep (at + width_of i) after (finished.keeps at kinds (at + width_of i) after here (next i (at + width_of i) after is e goes refl))
          | inr none ↦ omega (arith, g.deep at kinds here, left_less (signature m p i).own (signature m p i) kinds after e none)
        ]
