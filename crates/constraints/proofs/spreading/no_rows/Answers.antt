use Rattle.std.proofs.Common.{ap, ◌∙◌, ◌+◌, length, arith}
use Rattle.std.proofs.lemmas.List.{length_push}
use Rattle.constraints.specs.Spreading.{all_calls}
use Rattle.constraints.proofs.CallRows.{all-push, rows-made}
use Rattle.constraints.proofs.spreading.no_rows.Goals as goal

pub loop-i-preserved : goal.loop-i-preserved
loop-i-preserved c = record {
  none = ap all_calls c.in_ok-push.ensures.items ∙ all-push c.loop-i.rows.items c.new.result c.new.ensures.items c.loop-i.invariant.none;
  count = ap length c.in_ok-push.ensures.items ∙ (length_push c.loop-i.rows.items c.new.result ∙ ap (λ n. n + 1) c.loop-i.invariant.count);
}

pub returns : goal.returns
returns c = rows-made c.loop-i.rows.items c.args.count (omega (arith, c.loop-i.invariant.count, c.loop-i-test.false, c.loop-i.auto._i-end)) c.loop-i.invariant.none
