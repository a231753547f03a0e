use Rattle.std.proofs.Common.{◌∙◌, ◌<◌, ◌^◌, subst, sym}
use Rattle.modules.specs.Code.{code_length}
use Rattle.modules.specs.Contents.{ProcedureContents}
use Rattle.channels.proofs.Views.{on_err}
use Rattle.listing.proofs.Listed.{cut, procedures_next, went_on}
use Rattle.listing.proofs.lister.write_procedures.Goals as goal

pub write_procedure-requires : goal.write_procedure-requires
write_procedure-requires g c =
    subst (λ (p : ProcedureContents). code_length p.code < 2 ^ 32) (sym c.index-procedures-number.is)
    (c.requires c.loop-number.number c.index-procedures-number.result c.loop-number-test.true)

pub returns-in_err-write_procedure-clause-prefix : goal.returns-in_err-write_procedure-clause-prefix
returns-in_err-write_procedure-clause-prefix g c =
    on_err c.from_residual.result _
    (cut _ _ _ _ _ _ _ (procedures_next c.args.procedures.now c.loop-number.number _ _ c.loop-number-test.true c.index-procedures-number.is)
    c.loop-number.invariant.listed c.in_err-write_procedure.ensures.prefix)

pub loop-number-preserved : goal.loop-number-preserved
loop-number-preserved g c = record {
  listed = went_on _ _ _ _ _ _ _ (procedures_next c.args.procedures.now c.loop-number.number _ _ c.loop-number-test.true c.index-procedures-number.is)
      c.loop-number.invariant.listed c.in_ok-write_procedure.ensures.accepted;
  kept = c.in_ok-write_procedure.ensures.kept ∙ c.loop-number.invariant.kept;
}
