use Rattle.std.proofs.Common.{◌<◌, List, slice_get, sym, ap, ◌∙◌, arith}
use Rattle.stack.specs.Slab.{spans_in}
use Rattle.stack.specs.declared.shape.CellRange.{CellRange}
use Rattle.stack.specs.declared.shape.Spans.{Spans}
use Rattle.stack.proofs.Cuts.{array_total, span_after_array, span_past_array}
use Rattle.stack.proofs.shape.span_at.Goals as goal

pub returns-then-number-scalars : goal.returns-then-number-scalars
returns-then-number-scalars c =
    span_past_array c.args.start c.in-OfArray.count c.in-OfArray.scalars c.args.number c.if-number-scalars.true
    ∙ ap (λ (spans : Spans). slice_get (spans_in c.args.start spans) c.args.number) (sym c.in-OfArray.is)

pub overflow_add-result-in-OfArray : goal.overflow_add-result-in-OfArray
overflow_add-result-in-OfArray c =
    let all = array_total c.args.start c.in-OfArray.count c.in-OfArray.scalars c.args.spans.now c.in-OfArray.is in
    omega (arith, c.requires, all, c.if-number-scalars.false)

pub returns-else-number-scalars : goal.returns-else-number-scalars
returns-else-number-scalars c =
    let some : 0 < c.args.number = omega (arith, c.if-number-eq0.false) in
    span_after_array c.args.start c.in-OfArray.count c.in-OfArray.scalars c.args.number some c.if-number-scalars.false
    ∙ ap (λ (spans : Spans). slice_get (spans_in c.args.start spans) c.args.number) (sym c.in-OfArray.is)

pub returns-in-Listed : goal.returns-in-Listed
returns-in-Listed c =
    c.listed_at.ensures ∙ ap (λ (spans : List CellRange). slice_get spans c.args.number) c.deref.ensures.value
    ∙ ap (λ (spans : Spans). slice_get (spans_in c.args.start spans) c.args.number) (sym c.in-Listed.is)
