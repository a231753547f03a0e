use Rattle.path_map.proofs.Kept.{kept-append, room-kept}
use Rattle.path_map.proofs.table.Ends.reserve.Goals as goal

pub invariant_of-self-2 : goal.invariant_of-self-2
invariant_of-self-2 c =
    rw c.in_ok-push.ensures.items
    (c.self.invariant.0, kept-append c.self.inside.rows.items c.self.inside.entries.items _ c.self.invariant.1 (room-kept c.self.inside.rows.items c.raise_only.result c.raise_only.ensures c.self.invariant.0))
