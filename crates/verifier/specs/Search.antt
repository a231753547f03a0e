-- Private: what the search for a refusal of the flow keeps.
-- Source: our own; a work list over the offsets that control reaches.
use Rattle.std.specs.Prelude.{◌≡◌, ℕ, suc, ◌+◌, ◌≤◌, ◌<◌, ◌^◌, true, List, [], ◌∷◌, ◌++◌, length, slice_index_or, Option, Some, None, ◌⊎◌}
use Rattle.std.specs.List.{Contains}
use Rattle.modules.specs.Contents.{ProcedureContents, ModuleContents}
use Rattle.modules.specs.Code.{width_of, code_length, instruction_at, offset_at}
use Rattle.modules.specs.declared.instruction.Instruction.{Instruction}
use Rattle.common.specs.declared.base_type.BaseType.{BaseType}
use Rattle.modules.specs.declared.declaration.Handler.{Handler}
use Rattle.modules.specs.Targets.{goes_on, target_of}
use Rattle.verifier.specs.Flow.{Edge, Flow, Leaves, effect, IsRefusedForOperands}
use Rattle.verifier.specs.Boundaries.{KeepsBoundaries}
use Rattle.verifier.specs.Coverage.{IsCoverage, Waits}
use Rattle.verifier.specs.Depth.{IsMet}
use Rattle.verifier.specs.Index.{index_of}
use Rattle.verifier.specs.Operands.{StartsWithEmpty, list_of}
use Rattle.verifier.specs.declared.search.ReachedOffsets.{ReachedOffsets}
use Rattle.verifier.specs.SignatureParts.{next_of}
use Rattle.verifier.specs.declared.search.FlowRefusal.{FlowRefusal}
use Rattle.verifier.specs.declared.search.Leaving.{Leaving}
use Rattle.verifier.specs.declared.work.ListedOffset.{ListedOffset}
use Rattle.verifier.specs.declared.body.IndexedProcedure.{IndexedProcedure}
use Rattle.verifier.specs.declared.coverage.Coverage.{Coverage}

-- a procedure that the search may look at: the index is that of its code, which has less than 4 GiB
pub record IsSearchableBody (b : IndexedProcedure) : Type 0 where
  pub index : b.index.now ≡ index_of b.procedure.now.code
  pub short : code_length b.procedure.now.code < 2 ^ 32

-- ---- the table that was found so far

abbrev pub list_for : List (List BaseType) → Option ℕ → Option (List BaseType)
list_for lists None = None
list_for lists (Some list) = Some (list_of lists list)

-- what stands for the number of an instruction, if there is one
abbrev pub shape_for : List (Option ℕ) → Option ℕ → Option ℕ
shape_for shapes None = None
shape_for shapes (Some number) = slice_index_or shapes number None

abbrev pub shape_at : ProcedureContents → ReachedOffsets → ℕ → Option ℕ
shape_at p s offset = shape_for s.shapes (slice_index_or (index_of p.code) offset None)

-- the list of the offset where an instruction begins
abbrev pub table : ProcedureContents → ReachedOffsets → ℕ → Option (List BaseType)
table p s offset = list_for s.operands (shape_at p s offset)

-- a offset whose instruction finds its operands, and from which each edge was followed
pub record HasFollowedEdges (m : ModuleContents) (p : ProcedureContents) (s : ReachedOffsets) (at : ℕ) (kinds : List BaseType) : Type 0 where
  pub instruction : Instruction
  pub there : instruction_at p.code at ≡ Some instruction
  pub after : List BaseType
  pub finds : effect m p instruction kinds ≡ Leaves after
  pub next : goes_on instruction ≡ true → table p s (at + width_of instruction) ≡ Some after
  pub jumps : (to : ℕ) → target_of instruction ≡ Some to → table p s to ≡ Some after
  pub caught : (h : Handler) → Contains p.handlers h → h.start ≤ at → at < h.end → table p s h.target ≡ Some []

-- how many instructions have no list
abbrev pub unset : List (Option ℕ) → ℕ
unset [] = 0
unset (None ∷ shapes) = suc (unset shapes)
unset (Some list ∷ shapes) = unset shapes

-- how many instructions may still be looked at: each without a list, and each that waits
abbrev pub left : ReachedOffsets → ℕ
left s = unset s.shapes + length s.work

-- the instruction of a number stands at an offset; where there is none more, the code ends there
pub record StandsAt (p : ProcedureContents) (number offset : ℕ) : Type 0 where
  pub inside : number ≤ length p.code
  pub there : offset_at p.code number ≡ offset

-- a listed offset has the number of its instruction and its list
pub record IsListed (p : ProcedureContents) (s : ReachedOffsets) (listed : ListedOffset) : Type 0 where
  pub number : offset_at p.code listed.number ≡ listed.at
  pub list : table p s listed.at ≡ Some (list_of s.operands listed.list)
  pub inside : listed.list < length s.operands

-- an offset waits
pub record IsQueued (s : ReachedOffsets) (at : ℕ) : Type 0 where
  pub listed : ListedOffset
  pub there : Contains s.work listed
  pub is : listed.at ≡ at

-- the longest list that control reached is one that an instruction finds or leaves, and has so many operands
pub record IsLongest (m : ModuleContents) (p : ProcedureContents) (s : ReachedOffsets) : Type 0 where
  pub there : s.longest < length s.operands
  pub met : IsMet m p (list_of s.operands s.longest)
  pub depth : length (list_of s.operands s.longest) ≡ s.deepest

-- a search at work: its table is one of the flow, none of its lists is longer than the longest one, and each offset that has a list
-- waits, is being looked at, or is kept
pub record IsSearching (m : ModuleContents) (p : ProcedureContents) (s : ReachedOffsets) (busy : List ℕ) : Type 0 where
  pub root : StartsWithEmpty s.operands
  pub sized : length s.shapes ≡ length p.code
  pub numbers : (number list : ℕ) → slice_index_or s.shapes number None ≡ Some list → list < length s.operands
  pub begins : (offset : ℕ) (kinds : List BaseType) → table p s offset ≡ Some kinds → (i : Instruction) × (instruction_at p.code offset ≡ Some i)
  pub first : table p s 0 ≡ Some []
  pub flow : Flow m p (table p s)
  pub deep : (offset : ℕ) (kinds : List BaseType) → table p s offset ≡ Some kinds → length kinds ≤ s.deepest
  pub longest : IsLongest m p s
  pub pending : (at : ℕ) (kinds : List BaseType) → table p s at ≡ Some kinds → IsQueued s at ⊎ (Contains busy at ⊎ HasFollowedEdges m p s at kinds)
  pub waits : (listed : ListedOffset) → Contains s.work listed → IsListed p s listed

-- ---- steps

-- a search in which one more offset waits
abbrev pub waiting : ReachedOffsets → ListedOffset → ReachedOffsets
waiting s listed = record s { work = s.work ++ listed ∷ [] }

-- where the instruction of a number jumps, if it may
abbrev pub jump_of : Option Instruction → Option ℕ
jump_of None = None
jump_of (Some i) = target_of i

-- an edge from a offset that has a list
pub record IsAtEdge (m : ModuleContents) (p : ProcedureContents) (s : ReachedOffsets) (at to : ℕ) (after : List BaseType) : Type 0 where
  pub kinds : List BaseType
  pub has : table p s at ≡ Some kinds
  pub edge : Edge m p at kinds to after

-- control went to a offset with a list
pub record Flowed (m : ModuleContents) (p : ProcedureContents) (old new : ReachedOffsets) (at to list : ℕ) : Type 0 where
  pub searching : IsSearching m p new (at ∷ [])
  pub keeps : (offset : ℕ) (kinds : List BaseType) → table p old offset ≡ Some kinds → table p new offset ≡ Some kinds
  pub arrives : table p new to ≡ Some (list_of old.operands list)
  pub same : new.operands ≡ old.operands
  pub deepest : new.deepest ≡ old.deepest
  pub left : left new ≤ left old

-- control went on from a offset: lists were kept, and none was made
pub record KeepsSearching (m : ModuleContents) (p : ProcedureContents) (old new : ReachedOffsets) (at : ℕ) : Type 0 where
  pub searching : IsSearching m p new (at ∷ [])
  pub keeps : (offset : ℕ) (kinds : List BaseType) → table p old offset ≡ Some kinds → table p new offset ≡ Some kinds
  pub same : new.operands ≡ old.operands
  pub deepest : new.deepest ≡ old.deepest
  pub left : left new ≤ left old

-- a list is noted as the longest one
pub record IsNewLongest (s : ReachedOffsets) (kinds : List BaseType) : Type 0 where
  pub there : s.longest < length s.operands
  pub list : list_of s.operands s.longest ≡ kinds
  pub depth : s.deepest ≡ length kinds

-- the longest list stays
pub record KeepsLongest (old new : ReachedOffsets) : Type 0 where
  pub longest : new.longest ≡ old.longest
  pub depth : new.deepest ≡ old.deepest

-- a list was noted as the longest one, if none was as long
pub record IsLengthened (old new : ReachedOffsets) (kinds : List BaseType) : Type 0 where
  pub least : length kinds ≤ new.deepest
  pub deeper : old.deepest ≤ new.deepest
  pub either : IsNewLongest new kinds ⊎ KeepsLongest old new

-- an instruction changed the list of its offset, and control went where it jumps
pub record IsApplied (m : ModuleContents) (p : ProcedureContents) (old new : ReachedOffsets) (at : ℕ) : Type 0 where
  pub searching : IsSearching m p new (at ∷ [])
  pub keeps : (offset : ℕ) (kinds : List BaseType) → table p old offset ≡ Some kinds → table p new offset ≡ Some kinds
  pub few : length new.operands ≤ length old.operands + 1
  pub left : left new ≤ left old

-- a offset whose instruction leaves a list
pub record HasEffect (m : ModuleContents) (p : ProcedureContents) (s : ReachedOffsets) (at : ℕ) (i : Instruction) (after : List BaseType) : Type 0 where
  pub there : instruction_at p.code at ≡ Some i
  pub kinds : List BaseType
  pub has : table p s at ≡ Some kinds
  pub effect : effect m p i kinds ≡ Leaves after

-- what an instruction at an offset leaves, once control went where it jumps
pub record HasLeft (m : ModuleContents) (p : ProcedureContents) (s : ReachedOffsets) (at : ℕ) (leaving : Leaving) : Type 0 where
  pub instruction : Instruction
  pub effect : HasEffect m p s at instruction (list_of s.operands leaving.list)
  pub next : leaving.next ≡ next_of instruction
  pub jumps : (to : ℕ) → target_of instruction ≡ Some to → table p s to ≡ Some (list_of s.operands leaving.list)

-- a offset that has a list and an instruction
pub record HasInstruction (p : ProcedureContents) (s : ReachedOffsets) (at : ℕ) : Type 0 where
  pub instruction : Instruction
  pub there : instruction_at p.code at ≡ Some instruction
  pub kinds : List BaseType
  pub has : table p s at ≡ Some kinds

-- a search at work that goes straight on to an offset, or to none
abbrev pub IsSearchingNext : ModuleContents → ProcedureContents → ReachedOffsets → Option ListedOffset → Type 0
IsSearchingNext m p s None = IsSearching m p s []
IsSearchingNext m p s (Some listed) = (IsSearching m p s (listed.at ∷ [])) × (HasInstruction p s listed.at × IsListed p s listed)

-- 1 where there is an offset to go straight on to
abbrev pub count : Option ListedOffset → ℕ
count None = 0
count (Some listed) = 1

-- the handlers that wait are the procedure's, and control went to each other one that covers an offset
pub record IsWaiting (p : ProcedureContents) (c : Coverage) (s : ReachedOffsets) : Type 0 where
  pub coverage : IsCoverage c
  pub real : (h : Handler) → Waits c h → Contains p.handlers h
  pub waits_or_entered : (h : Handler) (at : ℕ) → Contains p.handlers h → h.start ≤ at → at < h.end → Waits c h ⊎ (table p s h.target ≡ Some [])

-- a refusal of a procedure for its flow
abbrev pub IsOperandFlowRefusal : ModuleContents → ProcedureContents → FlowRefusal → Type 0
IsOperandFlowRefusal m p refusal = IsRefusedForOperands m p refusal.offset refusal.kind

-- control may go to the handlers of an offset that is being looked at
pub record IsRaising (b : IndexedProcedure) (c : Coverage) (s : ReachedOffsets) (at : ℕ) : Type 0 where
  pub body : IsSearchableBody b
  pub boundaries : KeepsBoundaries b.procedure.now
  pub searching : IsSearching b.program.now b.procedure.now s (at ∷ [])
  pub there : HasInstruction b.procedure.now s at
  pub waiting : IsWaiting b.procedure.now c s
  pub room : length s.operands + left s ≤ 2 ^ 32

-- control went to each of them
pub record HasRaised (b : IndexedProcedure) (c : Coverage) (old new : ReachedOffsets) (at : ℕ) : Type 0 where
  pub steps : KeepsSearching b.program.now b.procedure.now old new at
  pub waiting : IsWaiting b.procedure.now c new
  pub caught : (h : Handler) → Contains b.procedure.now.handlers h → h.start ≤ at → at < h.end → table b.procedure.now new h.target ≡ Some []
