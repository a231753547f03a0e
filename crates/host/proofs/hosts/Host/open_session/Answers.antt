use Rattle.std.proofs.Common.{◌≡◌, ◌<◌, List, length, sym, ap, ◌∙◌, refl, arith}
use Rattle.std.proofs.lemmas.Result.{err_from_is_err_and}
use Rattle.host.specs.Meaning.{HasRoom}
use Rattle.host.specs.Next.{next_of}
use Rattle.host.specs.Values.{HostRuns, SessionRun, host_of}
use Rattle.host.specs.declared.hosts.TheConstants.{MAX_SESSIONS}
use Rattle.host.proofs.Sessions.{has_room, refused_with_room, opened_as}
use Rattle.host.proofs.hosts.Host.open_session.Goals as goal
use Rattle.host.proofs.hosts.Host.open_session.Goals.{After-first_session}

room : (c : After-first_session) → HasRoom MAX_SESSIONS (host_of c.args.self.now)
room c =
    let inside : length c.self.inside.sessions.items < MAX_SESSIONS = omega arith in
    has_room MAX_SESSIONS c.args.self.now c.self.inside.next c.self.inside.sessions.items c.self.view_is c.in-Some.id c.in-Some.is c.next_id-after.ensures.within inside

pub returns-in_err-session : goal.returns-in_err-session
returns-in_err-session c =
    let p = err_from_is_err_and c.from_residual.result c.from_residual.ensures.1 in
    rw (p.1, p.2)
    (refused_with_room MAX_SESSIONS (host_of c.args.self.now) c.args.bytes.now c.args.world c.args.under c.in_err-session.field-0.0 (room (goal.at.returns-in_err-session c).After-first_session) c.in_err-session.ensures.rejected, refl)

pub returns-in_err-insert : goal.returns-in_err-insert
returns-in_err-insert c =
    let p = err_from_is_err_and c.from_residual-in_err-insert.result c.from_residual-in_err-insert.ensures.1 in
    let unchanged : host_of (record { next = next_of c.self.inside.next; sessions = c.insert.new.self.items }) ≡ host_of c.args.self.now =
    ap (λ (xs : List SessionRun). host_of (record { next = next_of c.self.inside.next; sessions = xs })) c.in_err-insert.ensures.items ∙ ap host_of c.self.view_is in
    rw (p.1, p.2) (room (goal.at.returns-in_err-insert c).After-first_session, unchanged)

pub returns : goal.returns
returns c =
    let new = c.in_ok-session.session in (
      room (goal.at.returns c).After-first_session,
      sym (ap next_of c.in-Some.is) ∙ ap (λ (h : HostRuns). h.next) c.self.view_is,
      (
        new.run.program,
        c.in_ok-session.ensures.accepted,
        opened_as c.args.self.now c.self.inside.next c.next_id-after.result c.self.inside.sessions.items c.insert.new.self.items c.self.view_is c.in-Some.id c.in-Some.is c.next_id-after.ensures.next new c.in_ok-insert.ensures.items c.args.world c.args.under c.in_ok-session.ensures.first,
      ),
    )
