use Rattle.std.proofs.Common.{◌∙◌, ap, ℕ, ℤ, List, [], Bor, Option, Some, None, get_or}
use Rattle.std.specs.Option.{option_map}
use Rattle.std.specs.declared.alloc.Global.{Global}
use Rattle.std.specs.declared.vec.Vec.{Vec}
use Rattle.std.proofs.lemmas.Map.Text.{btree_map_updates_str}
use Rattle.channels.proofs.Tables.{empty_more}
use Rattle.channels.proofs.world_read.empty_table.Goals as goal

pub loop-name-preserved : goal.loop-name-preserved
loop-name-preserved c = λ name.
    let d : Bor (List ℕ) = record { ref_ptr = (0, 0); now = [] } in
    let k = c.loop-name.name-index in
    let entry = λ (e : Option (Vec ℤ Global)). option_map (λ (numbers : Vec ℤ Global). numbers.items) e in
    ap (option_map entry) (btree_map_updates_str (get_or c.args.names.now k d).now c.loop-name.inputs c.insert.new.self (Some None) c.in_ok-insert.ensures.updates name)
    ∙ empty_more c.args.names.now k d c.loop-name.inputs name c.loop-name-test.true (c.loop-name.invariant name)
