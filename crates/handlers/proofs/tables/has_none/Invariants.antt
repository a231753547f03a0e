use Rattle.std.proofs.Common.{◌≡◌, ℕ, ◌<◌, [], slice_get, Some}
use Rattle.modules.specs.Contents.{ProcedureContents}
use Rattle.handlers.proofs.tables.has_none.Given as goal

-- the procedures so far have none
abbrev pub invariant-loop-procedure : goal.invariant-loop-procedure
invariant-loop-procedure l = (k : ℕ) (p : ProcedureContents) → k < l.procedure-index → slice_get l.procedures k ≡ Some p → p.handlers ≡ []
