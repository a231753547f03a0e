use Rattle.std.proofs.Common.{◌∙◌, sym}
use Rattle.solver.proofs.Alone.{only-left, some-left}
use Rattle.solver.proofs.sharing.only_written.Goals as goal

pub returns : goal.returns
returns c = λ rows n.
    let left = c.args.left.now in
    only-left rows n c.in-Written.number left (some-left left (sym c.is_empty.ensures ∙ c.if-is_empty.false)) (c.are_all.ensures c.if-not-are_all.false)
