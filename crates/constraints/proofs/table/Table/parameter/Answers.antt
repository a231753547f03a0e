use Rattle.resolved.specs.CoreOf.{program_of}
use Rattle.constraints.proofs.Tables.{parameter-named}
use Rattle.constraints.proofs.table.Table.parameter.Goals as goal

pub returns : goal.returns
returns c =
    let table = c.args.self.now in
    parameter-named (program_of table.core.now) table.core.now.labels c.args.procedure c.args.parameter c.row.result.now c.deref.result.now table.nothing c.at.result c.written_or.result
    c.row.ensures table.are.nothing_is c.deref.ensures.value c.at.ensures c.written_or.ensures
