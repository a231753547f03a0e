use Rattle.std.proofs.Common.{ap, ◌∙◌, ◌+◌, length}
use Rattle.std.proofs.lemmas.List.{length_push}
use Rattle.constraints.specs.Journals.{moments_at}
use Rattle.constraints.proofs.Moments.{moments-more}
use Rattle.constraints.proofs.journal.empty_rows.Goals as goal

pub loop-i-preserved : goal.loop-i-preserved
loop-i-preserved c = record {
  empty = λ k. ap (λ rows. moments_at rows k) c.in_ok-push.ensures.items ∙ moments-more c.loop-i.rows.items c.new.result c.new.ensures.items c.loop-i.invariant.empty k;
  count = ap length c.in_ok-push.ensures.items ∙ (length_push c.loop-i.rows.items c.new.result ∙ ap (λ n. n + 1) c.loop-i.invariant.count);
}
