use Rattle.std.proofs.Common.{List, map, refl, ap, ◌∙◌}
use Rattle.host.specs.Meaning.{without}
use Rattle.host.specs.Next.{next_of}
use Rattle.host.specs.Values.{HostRuns, SessionRun, contents_of}
use Rattle.host.proofs.Sessions.{is_not_open, is_open_somewhere, filtered, of_parts}
use Rattle.host.proofs.hosts.Host.close.Goals as goal

pub returns-in_default : goal.returns-in_default
returns-in_default c =
    let are = c.deref.ensures.value ∙ ap (λ (h : HostRuns). h.sessions) c.self.view_is in
    ((refl, is_not_open c.args.self.now c.deref.result.now are c.args.id c.find.result c.find.ensures c.in_default.is), refl)

pub returns : goal.returns
returns c =
    let are = c.deref.ensures.value ∙ ap (λ (h : HostRuns). h.sessions) c.self.view_is in (
      is_open_somewhere c.args.self.now c.deref.result.now are c.args.id c.find.result c.in-Some.field-0 c.find.ensures c.in-Some.is,
      of_parts (next_of c.self.inside.next) c.args.self.now.next (map contents_of c.remove.new.sessions.items) (without c.args.id (map contents_of c.args.self.now.sessions))
          (ap (λ (h : HostRuns). h.next) c.self.view_is)
          (ap (λ (l : List SessionRun). map contents_of l) c.remove.ensures
          ∙ filtered c.args.id c.self.inside.sessions.items
          ∙ ap (λ (h : HostRuns). without c.args.id (map contents_of h.sessions)) c.self.view_is),
    )
