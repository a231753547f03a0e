use Rattle.std.proofs.Common.{refl, sym, ap, arith, ◌∙◌, subst}
use Rattle.constraints.specs.Ready.{AreHandledInside}
use Rattle.constraints.specs.declared.progress.Progress.{Progress}
use Rattle.constraints.specs.ExitUnknowns.{undone}
use Rattle.constraints.specs.declared.exit_unknowns.ExitUnknowns.{ExitUnknowns}
use Rattle.constraints.proofs.Begun.{try-begun}
use Rattle.constraints.proofs.statements.ProcedureWalk.begin_try.Goals as goal

pub returns : goal.returns
returns c =
    try-begun c.args.exit_unknowns c.args.handlers.now c.deref-2.result.now c.deref.result.now c.make-first.result c.in_try-inner.result.level c.args.progress.now c.make-first.new.self
    (record c.make-first.new.self { thrown = c.take_handled.new.thrown; journal = c.note_exceptions.new.self })
    (record { exit_unknowns = c.in_try-inner.result; numbers = c.in_ok-numbers.numbers; saved = c.take_handled.new.saved })
    c.make-first.ensures.made c.make-first.ensures.first c.in_try-inner.ensures (ap (λ (t : ExitUnknowns). t.level) c.in_try-inner.ensures)
    (c.in_ok-take_handled.ensures.undone ∙ ap (λ list. undone list c.make-first.new.self.thrown.items) c.new-saved.ensures.items)
    c.in_ok-take_handled.ensures.taken c.in_ok-numbers.ensures c.deref-2.ensures.value refl refl refl
    c.in_ok-note_exceptions.ensures.calls c.in_ok-note_exceptions.ensures.moments c.in_ok-note_exceptions.ensures.count c.deref.ensures.value

pub take_handled-requires : goal.take_handled-requires
take_handled-requires c =
    record {
      inside = subst (λ (p : Progress). AreHandledInside c.args.handlers.now p.thrown.items) (sym c.make-first.ensures.made) c.requires.inside;
      room = omega (arith, c.requires.room, c.make-first.ensures.first);
    }

pub in_try-inner-requires : goal.in_try-inner-requires
in_try-inner-requires c = omega (arith, c.requires.room, c.requires.deep)
