use Rattle.std.proofs.Common.{refl, sym, subst, None, Ok}
use Rattle.std.proofs.lemmas.Result.{err_from_is_err_and, IfErr-at_err}
use Rattle.common.specs.Answers.{IfRefused}
use Rattle.common.proofs.Casting.{cast-answer, mapped-ok}
use Rattle.verifier.specs.Loaded.{CannotLoad, IsLoaded}
use Rattle.host.specs.Meaning.{CannotOpen}
use Rattle.host.specs.declared.fault.HostRefusal.TheVariants.{New}
use Rattle.host.proofs.Sessions.{not_made}
use Rattle.host.proofs.session.first_run.Goals as goal

pub returns-in_err-verified-clause-rejected : goal.returns-in_err-verified-clause-rejected
returns-in_err-verified-clause-rejected c =
    let p = err_from_is_err_and c.from_residual.result c.from_residual.ensures.1 in
    let cannot = CannotOpen c.args.bytes.now c.args.world None in
    rw (p.1, p.2)
    (IfErr-at_err (IfRefused cannot) c.in_err-verified.was
    (cast-answer (CannotLoad c.args.bytes.now) cannot (λ r s becomes holds. subst cannot (sym becomes) holds) c.load.result c.map_err.result c.map_err.ensures.cases c.load.ensures.rejected))

pub returns-clause-rejected : goal.returns-clause-rejected
returns-clause-rejected c =
    let cannot = CannotOpen c.args.bytes.now c.args.world None in
    let loaded = mapped-ok c.load.result (Ok c.in_ok-verified.verified) c.in_ok-verified.verified (IsLoaded c.args.bytes.now) refl c.in_ok-verified.ensures.cases (λ fault no. no) c.load.ensures.accepted in
    cast-answer (λ refusal. cannot (New refusal)) cannot (λ r s becomes holds. subst cannot (sym becomes) holds) c.new.result c.map_err-2.result c.map_err-2.ensures.cases
    (not_made c.args.bytes.now c.args.world c.in_ok-verified.verified c.new.result loaded c.new.ensures.unknown)
