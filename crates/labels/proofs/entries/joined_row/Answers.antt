use Rattle.std.proofs.Common.{sym, ap, ◌∙◌, ◌||◌, length, take, get_or, false, arith}
use Rattle.std.proofs.lemmas.List.{take_all}
use Rattle.std.proofs.lemmas.Simd.{length-replicate}
use Rattle.labels.specs.Entries.{made_of, some_made_of}
use Rattle.labels.specs.Row.{has}
use Rattle.labels.proofs.Held.{has-none, none-made, or-none, some-more}
use Rattle.labels.proofs.entries.joined_row.Goals.{then-label-entries, else-label-entries}
use Rattle.labels.proofs.entries.joined_row.Goals as goal

pub loop-label-init : goal.loop-label-init
loop-label-init c = record {
  bound = ap length c.in_ok-row.ensures ∙ length-replicate (length c.args.entries.now) false;
  parts = λ part inside. ap (λ row. has row part) c.in_ok-row.ensures ∙ has-none (length c.args.entries.now) part;
}

pub add_parts-requires-clause-room : goal.add_parts-requires-clause-room
add_parts-requires-clause-room c = omega (arith, c.loop-label.invariant.bound, c.if-label-entries.true)

pub loop-label-preserved : goal.loop-label-preserved
loop-label-preserved c =
    let es = c.args.entries.now in
    let i = c.loop-label.label-index in
    let label = get_or c.args.labels.now i 0 in
    elim c.if-label-entries.branch [
      | then-label-entries w ↦ record {
        bound = ap length w.row-is ∙ (w.add_parts.ensures.bound ∙ c.loop-label.invariant.bound);
        parts = λ part inside.
            ap (λ row. has row part) w.row-is ∙ (w.add_parts.ensures.parts part
            ∙ (ap (λ t. t || made_of es label part) (c.loop-label.invariant.parts part inside)
            ∙ sym (some-more es c.args.labels.now i 0 part c.loop-label-test.true)));
      }
      | else-label-entries w ↦ record {
        bound = ap length w.row-is ∙ c.loop-label.invariant.bound;
        parts = λ part inside.
            ap (λ row. has row part) w.row-is ∙ (c.loop-label.invariant.parts part inside
            ∙ (sym (or-none (some_made_of es (take i c.args.labels.now) part))
            ∙ (ap (λ t. some_made_of es (take i c.args.labels.now) part || t) (sym (none-made es label part (omega (arith, w.if-label-entries.false)) inside))
            ∙ sym (some-more es c.args.labels.now i 0 part c.loop-label-test.true))));
      }
    ]

pub returns-clause-parts : goal.returns-clause-parts
returns-clause-parts c = λ part inside.
    c.loop-label.invariant.parts part inside
    ∙ ap (λ labels. some_made_of c.args.entries.now labels part) (take_all c.loop-label.label-index c.args.labels.now (omega (arith, c.loop-label-test.false)))
