-- Private: the parameters of a procedure, as a call pops them: in blocks of 64 kinds.
-- Source: our own.
use Rattle.std.specs.Prelude.{ℕ, List, reverse}
use Rattle.modules.specs.Contents.{ProcedureContents}
use Rattle.modules.specs.Machine.{parameter_kinds}
use Rattle.verifier.specs.Operands.{full_blocks}

-- the kinds of the parameters, the last one first, in all blocks that they fill
abbrev pub parameter_blocks : ProcedureContents → List ℕ
parameter_blocks procedure = full_blocks (reverse (parameter_kinds procedure))
