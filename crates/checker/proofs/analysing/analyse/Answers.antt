use Rattle.std.proofs.Common.{arith}
use Rattle.std.proofs.lemmas.Result.{err_from_is_err_and, IfErr-at_err}
use Rattle.std.proofs.lemmas.Str.{is_utf8-from_IsUtf8}
use Rattle.acceptance.proofs.Texts.{no_text_fault, text_no_fault}
use Rattle.acceptance.specs.Refused.{NoText, TooLong}
use Rattle.acceptance.specs.declared.kind.RefusalKind.TheVariants as kinds
use Rattle.common.proofs.Casting.{cast-answer}
use Rattle.common.specs.Answers.{IfRefused}
use Rattle.path_map.specs.FirstFault.{IsFirstEndFault}
use Rattle.resolved.specs.CoreOf.{program_of}
use Rattle.resolved.specs.Labelled.{exit_faults}
use Rattle.checker.proofs.Faults.{ended}
use Rattle.checker.specs.Found.{IsFoundRefusal}
use Rattle.checker.proofs.analysing.analyse.Goals as goal

pub returns-then-source-gt-MAX_TEXT-clause-first_fault : goal.returns-then-source-gt-MAX_TEXT-clause-first_fault
returns-then-source-gt-MAX_TEXT-clause-first_fault c =
    NoText kinds.TextTooLong (no_text_fault c.args.source.now kinds.TextTooLong 0 (TooLong (omega (arith, c.if-source-gt-MAX_TEXT.true)))).0

pub resolve_source-requires : goal.resolve_source-requires
resolve_source-requires c = record {
  text = text_no_fault c.args.source.now (record {
    short = omega (arith, c.if-source-gt-MAX_TEXT.false);
    characters = is_utf8-from_IsUtf8 c.args.source.now c.utf8.source;
  });
}

pub returns-in_err-ends-clause-first_fault : goal.returns-in_err-ends-clause-first_fault
returns-in_err-ends-clause-first_fault c =
    let p = err_from_is_err_and c.from_residual-in_err-ends.result c.from_residual-in_err-ends.ensures.1 in
    let h = c.args.hierarchy.now in
    let source = c.args.source.now in
    let program = program_of c.in_ok-core.core in
    rw (p.1, p.2) (IfErr-at_err (IfRefused (IsFoundRefusal h source)) c.in_err-ends.was
    (cast-answer (IsFirstEndFault (exit_faults program)) (IsFoundRefusal h source) (λ r s is first. rw (is.0, is.1) (ended h source program r c.in_ok-core.ensures.resolved first))
    c.ends.result c.map_err.result c.map_err.ensures.cases c.ends.ensures.first_fault))
