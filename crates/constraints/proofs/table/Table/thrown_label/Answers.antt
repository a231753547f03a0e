use Rattle.resolved.specs.CoreOf.{program_of}
use Rattle.constraints.proofs.Tables.{thrown-named}
use Rattle.constraints.proofs.table.Table.thrown_label.Goals as goal

pub returns : goal.returns
returns c =
    let table = c.args.self.now in
    thrown-named (program_of table.core.now) table.core.now.labels c.args.procedure c.args.exception c.row.result.now c.deref.result.now table.nothing c.label_in.result
    c.row.ensures table.are.nothing_is c.deref.ensures.value c.label_in.ensures
