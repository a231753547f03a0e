use Rattle.std.proofs.Common.{◌==◌, List, map, set, refl, sym, ap, ◌∙◌}
use Rattle.std.specs.Prelude.{position}
use Rattle.machine.specs.Run.{machine_of}
use Rattle.host.specs.Meaning.{with_machine}
use Rattle.host.specs.Next.{next_of}
use Rattle.host.specs.Values.{HostRuns, SessionRun, contents_of}
use Rattle.host.proofs.Sessions.{is_not_open, is_open, turned, of_parts}
use Rattle.host.proofs.hosts.Host.turn.Goals as goal

pub returns-in_default : goal.returns-in_default
returns-in_default c =
    let are = c.deref.ensures.value ∙ ap (λ (h : HostRuns). h.sessions) c.self.view_is in
    ((refl, is_not_open c.args.self.now c.deref.result.now are c.args.id c.find.result c.find.ensures c.in_default.is), refl)

pub returns : goal.returns
returns c =
    let are = c.deref.ensures.value ∙ ap (λ (h : HostRuns). h.sessions) c.self.view_is in
    let kept = c.self.inside.sessions.items in
    let old = c.index_mut-session.result.now in
    let new = c.turn.new.self in
    let at = c.index_mut-session.ensures.value in
    let found = c.find.ensures ∙ ap (λ (l : List SessionRun). position (λ session. session.id == c.args.id) l) c.deref.ensures.value in (
      contents_of old,
      is_open c.args.self.now kept (ap (λ (h : HostRuns). h.sessions) c.self.view_is) c.args.id c.find.result c.in-Some.index old found c.in-Some.is at,
      (
        machine_of new.run,
        c.turn.ensures.takes,
        of_parts (next_of c.self.inside.next) c.args.self.now.next (map contents_of (set kept c.in-Some.index new)) (with_machine c.args.id (machine_of new.run) (map contents_of c.args.self.now.sessions))
            (ap (λ (h : HostRuns). h.next) c.self.view_is)
            (turned c.args.id kept c.in-Some.index old new (sym found ∙ c.in-Some.is) at c.turn.ensures.id c.turn.ensures.program c.turn.ensures.under
            ∙ ap (λ (h : HostRuns). with_machine c.args.id (machine_of new.run) (map contents_of h.sessions)) c.self.view_is),
      ),
    )
