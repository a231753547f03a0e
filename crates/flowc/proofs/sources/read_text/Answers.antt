use Rattle.std.proofs.Common.{rules, ◌++◌, take}
use native.Mathlib.Omega.{arith}
use Rattle.std.proofs.KnownBytes.{Consumes-trans}
use Rattle.channels.proofs.Views.{on_err}
use Rattle.flowc.proofs.TextRead.{end_told, read_all, read_most}
use Rattle.flowc.proofs.sources.read_text.Goals as goal
use Rattle.flowc.proofs.sources.read_text.Goals.{else-loop-chunk-test, then-loop-chunk-test+in_ok-count+then-count-eq0}

pub returns-in_err-extend_from_slice-clause-prefix :
    goal.returns-in_err-extend_from_slice-clause-prefix
returns-in_err-extend_from_slice-clause-prefix g c = on_err c.from_residual-in_err-extend_from_slice.result _ (
  c.loop-chunk.text.items ++ take c.in_ok-count.count c.read.new.buffer,
  Consumes-trans _ _ _ _ _ c.loop-chunk.invariant.0 c.in_ok-count.ensures.bytes.0,
)

pub returns-clause-text : goal.returns-clause-text
returns-clause-text g c = elim c.loop-chunk-test.branch [
  | else-loop-chunk-test w ↦ read_most _ _ _ c.loop-chunk.invariant.0 (omega (arith, w.loop-chunk-test, c.len.ensures, c.loop-chunk.invariant))
  | then-loop-chunk-test+in_ok-count+then-count-eq0 w ↦
      read_all _ _ _ (end_told _ _ _ _ _ _ c.loop-chunk.invariant.0 w.in_ok-count.ensures.bytes.0 w.if-count-eq0.true)
      (w.in_ok-count.ensures.bytes.1 w.if-count-eq0.true (search (rules, w))) c.loop-chunk.invariant.1
]
