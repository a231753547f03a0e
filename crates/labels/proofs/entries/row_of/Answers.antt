use Rattle.std.proofs.Common.{◌≡◌, sym, ap, ◌∙◌, ◌||◌, ◌<◌, subst, length, get_or, false, arith}
use Rattle.std.specs.Prelude.{All}
use Rattle.std.proofs.lemmas.List.{take_all}
use Rattle.std.proofs.lemmas.Simd.{length-replicate}
use Rattle.labels.specs.Entries.{made_of, some_made_of}
use Rattle.labels.specs.Row.{has}
use Rattle.labels.proofs.Held.{has-none, some-more}
use Rattle.labels.proofs.entries.row_of.Goals as goal

pub loop-label-init : goal.loop-label-init
loop-label-init c =
    let count : length c.in_ok-row.row ≡ c.bound_of.result = ap length c.in_ok-row.ensures ∙ length-replicate c.bound_of.result false in
    record {
      above = subst (λ n. All (λ label. label < n) c.args.named.now) (sym count) c.bound_of.ensures.above;
      short = let least = c.bound_of.ensures.least (length c.args.entries.now) c.requires.inside in omega (arith, least, count);
      parts = λ part. ap (λ row. has row part) c.in_ok-row.ensures ∙ has-none c.bound_of.result part;
    }

pub loop-label-preserved : goal.loop-label-preserved
loop-label-preserved c = record {
  above = subst (λ n. All (λ label. label < n) c.args.named.now) (sym c.add_parts.ensures.bound) c.loop-label.invariant.above;
  short = omega (arith, c.add_parts.ensures.bound, c.loop-label.invariant.short);
  parts = λ part.
      c.add_parts.ensures.parts part
      ∙ (ap (λ t. t || made_of c.args.entries.now (get_or c.args.named.now c.loop-label.label-index 0) part) (c.loop-label.invariant.parts part)
      ∙ sym (some-more c.args.entries.now c.args.named.now c.loop-label.label-index 0 part c.loop-label-test.true));
}

pub add_parts-requires-clause-inside : goal.add_parts-requires-clause-inside
add_parts-requires-clause-inside c = c.requires.inside c.loop-label.label-index 0 c.loop-label-test.true

pub add_parts-requires-clause-room : goal.add_parts-requires-clause-room
add_parts-requires-clause-room c = c.loop-label.invariant.above c.loop-label.label-index 0 c.loop-label-test.true

pub returns-clause-parts : goal.returns-clause-parts
returns-clause-parts c = λ part.
    c.loop-label.invariant.parts part
    ∙ ap (λ named. some_made_of c.args.entries.now named part) (take_all c.loop-label.label-index c.args.named.now (omega (arith, c.loop-label-test.false)))
