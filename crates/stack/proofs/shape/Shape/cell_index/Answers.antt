use Rattle.std.proofs.Common.{refl, ◌≡◌, ◌+◌, ◌-◌, ◌<◌, ◌^◌, sym, ap, ◌∙◌, map, List, ℕ, arith}
use Rattle.stack.specs.Slab.{cell_index_in, spans_in}
use Rattle.stack.specs.declared.shape.CellRange.{CellRange}
use Rattle.stack.proofs.Cuts.{placed, by_span_in, by_span_out, scalar_first, scalar_past, span_within}
use Rattle.stack.proofs.shape.Shape.cell_index.Goals as goal

pub returns-then-index-eq0 : goal.returns-then-index-eq0
returns-then-index-eq0 c =
    let n = c.self.inside.scalars in
    let inside : c.args.slot < n = omega arith in
    sym (scalar_first n c.args.slot (map (λ (span : CellRange). span.count) (spans_in n c.self.inside.spans)) inside)
    ∙ ap (λ (ns : List ℕ). cell_index_in ns c.args.slot 0) c.self.view_is ∙ ap (cell_index_in c.args.self.now c.args.slot) (let none : 0 ≡ c.args.index = omega arith in none)

pub returns-else-index-eq0 : goal.returns-else-index-eq0
returns-else-index-eq0 c =
    let n = c.self.inside.scalars in
    let inside : c.args.slot < n = omega arith in
    let some : 0 < c.args.index = omega arith in
    sym (scalar_past n c.args.slot c.args.index (map (λ (span : CellRange). span.count) (spans_in n c.self.inside.spans)) inside some)
    ∙ ap (λ (ns : List ℕ). cell_index_in ns c.args.slot c.args.index) c.self.view_is

pub returns-in_default : goal.returns-in_default
returns-in_default c =
    let n = c.self.inside.scalars in
    placed n (spans_in n c.self.inside.spans) c.args.self.now c.args.slot (c.args.slot - n) c.args.index c.self.invariant c.self.view_is
    (omega arith) _ c.in_default.ensures _ refl

pub overflow_add-result : goal.overflow_add-result
overflow_add-result c =
    let n = c.self.inside.scalars in
    let small : c.in-Some.span.start + c.args.index < 2 ^ 64 =
    span_within n (spans_in n c.self.inside.spans) (c.args.slot - n) c.args.index c.in-Some.span c.self.invariant (sym c.in-Some.ensures) c.if-index-span.true in
    omega arith

pub returns-then-index-span : goal.returns-then-index-span
returns-then-index-span c =
    let n = c.self.inside.scalars in
    placed n (spans_in n c.self.inside.spans) c.args.self.now c.args.slot (c.args.slot - n) c.args.index c.self.invariant c.self.view_is
    (omega arith) _ c.in-Some.ensures _ (by_span_in c.in-Some.span c.args.index c.if-index-span.true)

pub returns-else-index-span : goal.returns-else-index-span
returns-else-index-span c =
    let n = c.self.inside.scalars in
    placed n (spans_in n c.self.inside.spans) c.args.self.now c.args.slot (c.args.slot - n) c.args.index c.self.invariant c.self.view_is
    (omega arith) _ c.in-Some.ensures _ (by_span_out c.in-Some.span c.args.index c.if-index-span.false)
