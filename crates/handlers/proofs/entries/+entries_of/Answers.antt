use Rattle.std.proofs.Common.{◌≡◌, ◌++◌, ◌-◌, ◌/◌, length, take, drop}
use Rattle.std.proofs.lemmas.List.{take_rest, take-append-drop}
use Rattle.handlers.proofs.Halves.{Arranges-merged}
use Rattle.handlers.proofs.entries.+entries_of.Goals as goal

pub returns : goal.returns
returns t c =
    let handlers = c.args.handlers.now in
    let middle = length handlers / 2 in
    let both : take middle handlers ++ take (length handlers - middle) (drop middle handlers) ≡ handlers = rw take_rest (take-append-drop middle handlers) in
    Arranges-merged (λ entries. entries.items) c.merge.result c.deref.result.now c.deref-2.result.now (take middle handlers) (take (length handlers - middle) (drop middle handlers)) handlers both
    (rw c.deref.ensures.value c.in_ok-first.ensures) (rw c.deref-2.ensures.value c.in_ok-second.ensures) c.merge.ensures.ascends c.merge.ensures.targets
