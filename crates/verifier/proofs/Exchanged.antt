-- What an instruction makes of kinds, by what it pops.
use Rattle.std.proofs.Common.{◌≡◌, Bool, ℕ, true, false, if◌then◌else◌, List, Option, Some, None, refl, ap, sym, ◌∙◌}
use Rattle.modules.specs.Code.{width_of}
use Rattle.modules.specs.Targets.{goes_on}
use Rattle.modules.specs.declared.instruction.Instruction.{Instruction}
use Rattle.modules.specs.Contents.{ProcedureContents}
use Rattle.common.specs.declared.base_type.BaseType.{BaseType}
use Rattle.verifier.specs.Flow.{Leaves, Misses, all_popped, and_then, exchanged}
use Rattle.verifier.specs.SignatureParts.{next_of, pushed}
use Rattle.verifier.specs.Signatures.{InstructionSignature, called}
use Rattle.verifier.specs.declared.fault.CodeRefusalKind.{CodeRefusalKind}

pub exchanged_leaves : (s : InstructionSignature) (kinds rest : List BaseType) → all_popped s.pops kinds ≡ Leaves rest → exchanged s kinds ≡ Leaves (pushed s.pushes rest)
exchanged_leaves s kinds rest e = ap (λ o. and_then o (λ rest. Leaves (pushed s.pushes rest))) e

pub exchanged_misses : (s : InstructionSignature) (kinds : List BaseType) (wrong : CodeRefusalKind) → all_popped s.pops kinds ≡ Misses wrong → exchanged s kinds ≡ Misses wrong
exchanged_misses s kinds wrong e = ap (λ o. and_then o (λ rest. Leaves (pushed s.pushes rest))) e

pub called_own : (callee : Option ProcedureContents) → (called callee).own ≡ true
called_own None = refl
called_own (Some c) = refl

-- where control goes on, it goes on after the instruction's width
some_when : (goes : Bool) (width next : ℕ) → (if goes then Some width else None) ≡ Some next → (goes ≡ true) × (next ≡ width)
some_when true width next e = (refl, let same : Some width ≡ Some next = e in cc)
some_when false width next e = absurd (let no : None ≡ Some next = e in cc)

none_when : (goes : Bool) (width : ℕ) → (if goes then Some width else None) ≡ None → goes ≡ false
none_when true width e = absurd (let no : Some width ≡ None = e in cc)
none_when false width e = refl

pub next_goes : (i : Instruction) (next : Option ℕ) (width : ℕ) → next ≡ next_of i → next ≡ Some width → (goes_on i ≡ true) × (width ≡ width_of i)
next_goes i next width is some = some_when (goes_on i) (width_of i) width (sym is ∙ some)

pub next_stays : (i : Instruction) (next : Option ℕ) → next ≡ next_of i → next ≡ None → goes_on i ≡ false
next_stays i next is none = none_when (goes_on i) (width_of i) (sym is ∙ none)
