use Rattle.std.proofs.Common.{◌==◌, List, refl, ap, ◌∙◌}
use Rattle.std.specs.Prelude.{position}
use Rattle.host.specs.Values.{HostRuns, SessionRun, contents_of}
use Rattle.host.proofs.Sessions.{is_not_open, is_open}
use Rattle.host.proofs.hosts.Host.sent.Goals as goal

pub returns-in_default-clause-rejected : goal.returns-in_default-clause-rejected
returns-in_default-clause-rejected c =
    let are = c.deref.ensures.value ∙ ap (λ (h : HostRuns). h.sessions) c.self.view_is in
    (refl, is_not_open c.args.self.now c.deref.result.now are c.args.id c.find.result c.find.ensures c.in_default.is)

pub returns-clause-sent : goal.returns-clause-sent
returns-clause-sent c =
    let index = c.find.ensures ∙ ap (λ (l : List SessionRun). position (λ session. session.id == c.args.id) l) c.deref.ensures.value in (
      contents_of c.index-session.result.now,
      is_open c.args.self.now c.self.inside.sessions.items (ap (λ (h : HostRuns). h.sessions) c.self.view_is) c.args.id c.find.result c.in-Some.index c.index-session.result.now index c.in-Some.is c.index-session.ensures,
      c.sent.ensures,
    )
