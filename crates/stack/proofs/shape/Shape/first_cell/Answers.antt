use Rattle.std.proofs.Common.{List, Some, ℕ, map, sym, ap, ◌∙◌}
use Rattle.std.proofs.lemmas.Option.{same_Some}
use Rattle.stack.specs.Slab.{cell_index_in, spans_in}
use Rattle.stack.specs.declared.shape.CellRange.{CellRange}
use Rattle.stack.proofs.Cuts.{first_span, scalar_first}
use Rattle.stack.proofs.shape.Shape.first_cell.Goals as goal

pub returns-then-slot-self : goal.returns-then-slot-self
returns-then-slot-self c =
    let n = c.self.inside.scalars in
    ap (λ (ns : List ℕ). cell_index_in ns c.args.slot 0) (sym c.self.view_is)
    ∙ scalar_first n c.args.slot (map (λ (span : CellRange). span.count) (spans_in n c.self.inside.spans)) c.if-slot-self.true

pub unreachable-requires : goal.unreachable-requires
unreachable-requires c =
    let n = c.self.inside.scalars in
    let found = first_span n (spans_in n c.self.inside.spans) c.args.self.now c.args.slot c.self.invariant c.self.view_is c.if-slot-self.false c.requires in
    c.in_default.not-Some found.0 (c.span_at.ensures ∙ found.1)

pub returns : goal.returns
returns c =
    let n = c.self.inside.scalars in
    let found = first_span n (spans_in n c.self.inside.spans) c.args.self.now c.args.slot c.self.invariant c.self.view_is c.if-slot-self.false c.requires in
    found.2 ∙ ap (λ (span : CellRange). Some span.start) (same_Some found.0 c.in-Some.span (sym found.1 ∙ sym c.span_at.ensures ∙ c.in-Some.is))
