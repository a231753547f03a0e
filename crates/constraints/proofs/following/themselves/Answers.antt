use Rattle.std.proofs.Common.{◌+◌, ap, length, sym, ◌∙◌}
use Rattle.std.specs.Prelude.{slice_index_or}
use Rattle.std.proofs.lemmas.List.{length_push}
use Rattle.solver.specs.declared.constraints.Atom.TheVariants.{Unknown}
use Rattle.constraints.specs.Merging.{itself}
use Rattle.constraints.proofs.Paths.{pushed-itself}
use Rattle.constraints.proofs.following.themselves.Goals as goal

pub loop-unknown-preserved : goal.loop-unknown-preserved
loop-unknown-preserved c = record {
  each = pushed-itself c.loop-unknown.rows.items c.push.new.self.items c.loop-unknown.unknown c.in_ok-push.ensures.items c.loop-unknown.invariant.count c.loop-unknown.invariant.each;
  count = ap length c.in_ok-push.ensures.items ∙ (length_push c.loop-unknown.rows.items c.loop-unknown.unknown ∙ ap (λ n. n + 1) c.loop-unknown.invariant.count);
}

pub returns : goal.returns
returns c = λ real base u. itself (Unknown (slice_index_or c.loop-unknown.rows.items u u)) (ap (λ k. Unknown k) (sym (c.loop-unknown.invariant.each u)))
