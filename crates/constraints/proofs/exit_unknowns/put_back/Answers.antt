use Rattle.std.proofs.Common.{sym, ap, ◌∙◌}
use Rattle.constraints.specs.ExitUnknowns.{undone}
use Rattle.constraints.proofs.SavedEntries.{undone-append}
use Rattle.constraints.proofs.exit_unknowns.put_back.Goals as goal

pub loop-last-preserved : goal.loop-last-preserved
loop-last-preserved c =
    ap (undone c.pop.new.self.items) c.put.ensures
    ∙ (sym (undone-append c.pop.new.self.items c.in-Some.last c.loop-last.thrown.items)
    ∙ (sym (ap (λ saved. undone saved c.loop-last.thrown.items) c.in-Some.ensures.items) ∙ c.loop-last.invariant))
