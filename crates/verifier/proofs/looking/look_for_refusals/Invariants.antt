use Rattle.std.proofs.Common.{◌≡◌, ◌<◌, ◌≤◌, ℕ, Some, None, get_or, length, slice_get, map, take, drop}
use Rattle.std.specs.Vec.{vec_capacity, vec_len}
use Rattle.modules.specs.Contents.{ProcedureContents}
use Rattle.verifier.specs.Refusals.{IsOperandRefusal}
use Rattle.verifier.specs.Fixed.{procedure_refusals}
use Rattle.verifier.specs.Flow.{FlowsWell}
use Rattle.verifier.specs.Verified.{IsVerifiedCode}
use Rattle.verifier.specs.declared.positions.Code.{Code}
use Rattle.verifier.specs.declared.fault.CodeRefusal.{CodeRefusal}
use Rattle.verifier.proofs.Positioned.{index_at}
use Rattle.verifier.proofs.looking.look_for_refusals.Given as goal

-- a fixed refusal is in what is left; and the procedures so far flow well and their code is there, unless the flow was refused
abbrev pub invariant-loop-procedure : goal.invariant-loop-procedure
invariant-loop-procedure l = record {
  number_is : l.number ≡ l.procedure-index;
  same : slice_get (procedure_refusals l.program l.number (drop l.procedure-index l.procedures)) 0 ≡ slice_get (procedure_refusals l.program 0 l.procedures) 0;
  found : (refusal : CodeRefusal) → l.found ≡ Some refusal → IsOperandRefusal l.program refusal;
  flow : l.found ≡ None → (k : ℕ) (p : ProcedureContents) → k < l.procedure-index → slice_get l.procedures k ≡ Some p → FlowsWell l.program p;
  many : length l.codes.items ≡ l.procedure-index;
  codes_are : l.found ≡ None → (k : ℕ) (p : ProcedureContents) (d : Code) → k < l.procedure-index → slice_get l.procedures k ≡ Some p → IsVerifiedCode l.program p l.placed.items (get_or l.codes.items k d);
  codes_count : vec_len l.codes ≡ l.procedure-index;
  codes_room : length l.procedures ≤ vec_capacity l.codes;
  indexes_count : vec_len l.indexes ≡ l.procedure-index;
  indexes_room : length l.procedures ≤ vec_capacity l.indexes;
  indexes_are : l.indexes.items ≡ map index_at (take l.procedure-index l.procedures);
}
