use Rattle.std.proofs.Common.{◌<◌, ◌∙◌, ◌+◌, [], ap, arith, drop, length, sym}
use Rattle.std.proofs.lemmas.List.{get_or-map, length-drop, length-map}
use Rattle.common.proofs.Cases.{drop_next, same_heads}
use Rattle.path_map.specs.Exits.{exits_of}
use Rattle.constraints.specs.Ready.{entries_of}
use Rattle.constraints.proofs.statements.ProcedureWalk.exits_at.Goals as goal

pub returns : goal.returns
returns c = λ exits rest before.
    let map = c.args.self.now.map.now in
    let at = c.args.number in
    let inside : at < length map = omega (arith, ap length before, length-drop at (entries_of map), length-map map exits_of) in
    let there : at < length (entries_of map) = omega (arith, inside, length-map map exits_of) in
    same_heads c.exits.result exits (drop (at + 1) (entries_of map)) rest
    (sym (drop_next (entries_of map) at c.exits.result there (c.exits.ensures ∙ sym (get_or-map exits_of map at [] c.exits.result inside))) ∙ before)
