use Rattle.std.proofs.Common.{◌<◌, ◌∙◌, [], arith, length, sym}
use Rattle.std.proofs.lemmas.List.{get_or-map, length-map}
use Rattle.common.proofs.Cases.{drop_next}
use Rattle.path_map.specs.Exits.{exits_of}
use Rattle.constraints.specs.Ready.{entries_of}
use Rattle.constraints.proofs.statements.ProcedureWalk.next_exits.Goals as goal

pub returns-clause-found : goal.returns-clause-found
returns-clause-found c =
    let map = c.args.self.now.map.now in
    let at = c.args.progress.now.index in
    let inside : at < length map = omega (arith, c.requires, length-map map exits_of) in
    drop_next (entries_of map) at c.exits-exits.result c.requires
    (c.exits-exits.ensures ∙ sym (get_or-map exits_of map at [] c.exits-exits.result inside))
