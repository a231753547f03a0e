use Rattle.resolved.specs.CoreOf.{program_of}
use Rattle.constraints.proofs.Tables.{slot-named}
use Rattle.constraints.proofs.table.Table.slot.Goals as goal

pub returns : goal.returns
returns c =
    let table = c.args.self.now in
    let program = program_of table.core.now in
    slot-named program table.core.now.labels c.args.procedure c.args.slot c.row.result.now c.deref.result.now table.nothing c.at.result
    c.row.ensures table.are.nothing_is c.deref.ensures.value c.at.ensures
