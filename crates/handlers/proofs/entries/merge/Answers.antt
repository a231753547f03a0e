use Rattle.std.proofs.Common.{Option, ℕ, [], ◌∷◌, ◌++◌, sym, ap, ◌∙◌}
use Rattle.handlers.proofs.Merging.{Merged-first, Merged-second, Merged-end, with_target}
use Rattle.handlers.proofs.entries.merge.Goals as goal

pub merge-preserved-in-First : goal.merge-preserved-in-First
merge-preserved-in-First c =
    Merged-first c.args.first.now c.args.second.now c.merge.entries.items c.push.new.self.items c.merge.i c.merge.j c.merge.first_target c.merge.second_target c.merge.invariant c.in-First.entry
    (rw (← c.entry_at.ensures, ← c.entry_at-in-merge.ensures) (sym c.in-First.ensures))
    (c.in_ok-push-in-First.ensures.items ∙ ap (λ (target : Option ℕ). c.merge.entries.items ++ with_target c.in-First.entry target ∷ []) c.or-target.ensures)

pub merge-preserved : goal.merge-preserved
merge-preserved c =
    Merged-second c.args.first.now c.args.second.now c.merge.entries.items c.push-in-Second.new.self.items c.merge.i c.merge.j c.merge.first_target c.merge.second_target c.merge.invariant c.in-Second.entry
    (rw (← c.entry_at.ensures, ← c.entry_at-in-merge.ensures) (sym c.in-Second.ensures))
    (c.in_ok-push-in-Second.ensures.items ∙ ap (λ (target : Option ℕ). c.merge.entries.items ++ with_target c.in-Second.entry target ∷ []) c.or-target-in-Second.ensures)

pub returns-in-Neither : goal.returns-in-Neither
returns-in-Neither c =
    let end = Merged-end c.args.first.now c.args.second.now c.merge.entries.items c.merge.i c.merge.j c.merge.first_target c.merge.second_target c.merge.invariant
    (rw (← c.entry_at.ensures, ← c.entry_at-in-merge.ensures) (sym c.in-Neither.ensures)) in
    record { ascends = end.0; targets = end.1 }
