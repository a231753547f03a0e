-- What the answer of a call says of its input: a value, a refusal of the input, or that memory ran out, which says nothing of it.
-- Source: our own.
use Rattle.std.specs.Prelude.{◌≡◌, ℕ, List, Option, Some, Result, MatchResult, codes}
use Rattle.common.specs.declared.fault.OrNoMemory.{OrNoMemory}
use Rattle.common.specs.declared.fault.OrNoMemory.TheVariants.{NoMemory, Refused}
use Rattle.common.specs.declared.refusal.RefusalAt.{RefusalAt}

-- the fault is out of memory, or a refusal of which P holds
abbrev pub IfRefused : {R : Type 0} → (R → Type 0) → OrNoMemory R → Type 0
IfRefused P NoMemory = Unit {0}
IfRefused P (Refused refusal) = P refusal

-- the answer is a value of which P holds, a refusal of which Q holds, or out of memory
abbrev pub Answers : {T R : Type 0} → (T → Type 0) → (R → Type 0) → Result T (OrNoMemory R) → Type 0
Answers P Q result = MatchResult result P (IfRefused Q)

-- one fault is the other with its refusal in another type
abbrev pub IsCast : {R S : Type 0} → (R → S → Type 0) → OrNoMemory R → OrNoMemory S → Type 0
IsCast Becomes NoMemory fault = fault ≡ NoMemory
IsCast {S = S} Becomes (Refused refusal) fault = (other : S) × (fault ≡ Refused other) × Becomes refusal other

-- one refusal is the other at the same byte with its kind in another type
abbrev pub HasKind : {K L : Type 0} → (K → L → Type 0) → RefusalAt K → RefusalAt L → Type 0
HasKind Becomes refusal other = Becomes refusal.kind other.kind × (other.at ≡ refusal.at)

-- what is printed of a fault
abbrev pub fault_text : {R : Type 0} → (R → Option (List ℕ)) → OrNoMemory R → Option (List ℕ)
fault_text print NoMemory = Some (codes "no memory")
fault_text print (Refused refusal) = print refusal
