-- Worked cases of the code of programs, computed.
use Rattle.std.proofs.Common.{◌≡◌, refl, List, [], ◌∷◌, None}
use Rattle.resolved.specs.declared.expression.Variable.TheVariants.{Local}
use Rattle.common.specs.declared.operator.Operator.TheVariants as operator
use Rattle.common.specs.declared.operator.Arithmetic.TheVariants.{Divide}
use Rattle.resolved.specs.Tree as tree
use Rattle.resolved.specs.Program.{Program}
use Rattle.modules.specs.declared.instruction.Instruction.{Instruction}
use Rattle.modules.specs.declared.instruction.MachineOperator.TheVariants.{Not}
use Rattle.modules.specs.declared.instruction.Storage.TheVariants as storage
use Rattle.modules.specs.declared.instruction.Instruction.TheVariants.{Load, Operate, Jump, JumpIfFalse, Return}
use Rattle.modules.specs.declared.declaration.Handler.{Handler}
use Rattle.lowering.specs.Code.{block_table}
use Rattle.lowering.specs.Graphs.{body_code}
use Rattle.lowering.specs.Threaded.{threaded}

abbrev x : tree.Expression
x = tree.Read (Local 0)

abbrev y : tree.Expression
y = tree.Read (Local 1)

-- `while (x) { while (y) { } }`: from the test of the outer loop control goes on at that of the inner one
nested : (p : Program) → ◌≡◌ {A = List Instruction}
    (threaded (body_code p (tree.Then (tree.Placed 0 (tree.While 0 x (tree.Then (tree.Placed 0 (tree.While 0 y tree.Empty)) tree.Empty))) tree.Empty)))
    (Jump 5 ∷ Jump 2 ∷ Load storage.Local 1 ∷ Operate Not ∷ JumpIfFalse 2 ∷ Load storage.Local 0 ∷ Operate Not ∷ JumpIfFalse 2 ∷ Return ∷ [])
nested p = refl

caught : (p : Program) → ◌≡◌ {A = List Handler}
    (block_table p 0 (tree.Then (tree.Placed 0 (tree.Try (tree.Then (tree.Placed 0 (tree.Send 0 (tree.Binary (operator.Compute Divide) (tree.Integer 1) x))) tree.Empty)
    (tree.Catch 0 0 (tree.Then (tree.Placed 0 (tree.ReturnWith None)) tree.Empty) tree.NoMore))) tree.Empty))
    (record { start = 0; end = 4; exception = 0; target = 5 } ∷ [])
caught p = refl
