use Rattle.std.proofs.Common.{arith}
use Rattle.resolved.specs.CoreOf.{program_of}
use Rattle.gathering.proofs.Few.{before-few}
use Rattle.constraints.proofs.Tables.{loop-missing, loop-named}
use Rattle.constraints.proofs.table.Table.loop_atom.Goals as goal

pub overflow_add-result : goal.overflow_add-result
overflow_add-result c =
    let table = c.args.self.now in
    let few = before-few (program_of table.core.now) table.core.now.well_formed c.args.procedure in
    omega (arith, few, c.row-row.ensures.loops_is, c.row-row.ensures.loop_count_is, c.if-number-row.true)

pub returns-then-number-row : goal.returns-then-number-row
returns-then-number-row c =
    let table = c.args.self.now in
    loop-named (program_of table.core.now) table.core.now.labels c.args.procedure c.args.number c.row-row.result.now c.row-row.ensures c.if-number-row.true

pub returns : goal.returns
returns c =
    let table = c.args.self.now in
    loop-missing (program_of table.core.now) table.core.now.labels c.args.procedure c.args.number c.row-row.result.now table.nothing
    c.row-row.ensures table.are.nothing_is c.if-number-row.false
