use Rattle.std.proofs.Common.{◌≡◌, ◌<◌, ◌==◌, List, length, refl, ap, ◌∙◌, subst, arith}
use Rattle.std.specs.Prelude.{position}
use Rattle.std.proofs.lemmas.Result.{err_from_is_err_and}
use Rattle.principals.specs.ActsFor.{PrincipalHierarchy}
use Rattle.host.specs.Meaning.{IsOpen}
use Rattle.host.specs.Values.{HostRuns, SessionRun, contents_of, host_of}
use Rattle.host.proofs.Sessions.{is_not_open, is_open}
use Rattle.host.proofs.hosts.Host.view.Goals as goal
use Rattle.host.proofs.hosts.Host.view.Goals.{After-count}

-- the session that was found, and how many principals its hierarchy has
found : (c : After-count) → IsOpen (host_of c.args.self.now) c.args.id (contents_of c.index-session.result.now)
found c =
    let index = c.find.ensures ∙ ap (λ (l : List SessionRun). position (λ session. session.id == c.args.id) l) c.deref.ensures.value in
    is_open c.args.self.now c.self.inside.sessions.items (ap (λ (h : HostRuns). h.sessions) c.self.view_is) c.args.id c.find.result c.in-Some.index c.index-session.result.now index c.in-Some.is c.index-session.ensures

counted : (c : After-count) → c.count.result ≡ length (contents_of c.index-session.result.now).hierarchy.names
counted c = c.count.ensures.count ∙ ap (λ (h : PrincipalHierarchy). length h.names) c.hierarchy.ensures

pub returns-in_default : goal.returns-in_default
returns-in_default c =
    let are = c.deref.ensures.value ∙ ap (λ (h : HostRuns). h.sessions) c.self.view_is in
    (is_not_open c.args.self.now c.deref.result.now are c.args.id c.find.result c.find.ensures c.in_default.is, refl)

pub returns-then-principal-count : goal.returns-then-principal-count
returns-then-principal-count c =
    let after = (goal.at.returns-then-principal-count c).After-count in
    let count = counted after in
    ((contents_of c.index-session.result.now, found after, λ h. let low = c.if-principal-count.true in omega arith), refl)

pub returns-in_err-pairs : goal.returns-in_err-pairs
returns-in_err-pairs c =
    let after = (goal.at.returns-in_err-pairs c).After-count in
    let count = counted after in
    let p = err_from_is_err_and c.from_residual.result c.from_residual.ensures.1 in
    rw (p.1, p.2)
    ((contents_of c.index-session.result.now, found after, subst (λ n. c.args.principal < n) count c.if-principal-count.false), refl)

pub returns : goal.returns
returns c =
    let after = (goal.at.returns c).After-count in
    let count = counted after in (
      contents_of c.index-session.result.now,
      found after,
      subst (λ n. c.args.principal < n) count c.if-principal-count.false,
      c.in_ok-pairs.ensures,
      refl,
    )
