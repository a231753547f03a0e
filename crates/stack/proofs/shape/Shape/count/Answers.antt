use Rattle.std.proofs.Common.{◌≡◌, ◌+◌, ◌<◌, ◌^◌, List, [], length, map, sym, ap, ◌∙◌, arith}
use Rattle.std.proofs.lemmas.Bool.Decides.{nat_tests}
use Rattle.std.proofs.lemmas.List.{nil_from_length}
use Rattle.stack.specs.Slab.{counts_in, spans_in, total}
use Rattle.stack.specs.declared.shape.CellRange.{CellRange}
use Rattle.stack.proofs.Cuts.{array_total, last_is, total_scalars}
use Rattle.stack.proofs.shape.Shape.count.Goals as goal

pub overflow_add-result-in-OfArray : goal.overflow_add-result-in-OfArray
overflow_add-result-in-OfArray c =
    let n = c.self.inside.scalars in
    let all = array_total n c.in-OfArray.count c.in-OfArray.scalars c.self.inside.spans c.in-OfArray.is in
    omega (arith, c.self.invariant.counted, all)

pub returns-in-OfArray : goal.returns-in-OfArray
returns-in-OfArray c =
    let n = c.self.inside.scalars in
    let all = array_total n c.in-OfArray.count c.in-OfArray.scalars c.self.inside.spans c.in-OfArray.is in
    let whole = total_scalars n (map (λ (span : CellRange). span.count) (spans_in n c.self.inside.spans)) in
    let sum : n + c.in-OfArray.count + c.in-OfArray.scalars ≡ total (counts_in n (spans_in n c.self.inside.spans)) = omega (arith, whole, all) in
    sum ∙ ap total c.self.view_is

pub overflow_add-result-in-Some : goal.overflow_add-result-in-Some
overflow_add-result-in-Some c =
    let n = c.self.inside.scalars in
    let span = c.in-Some.span.now in
    let listed : c.deref.result.now ≡ spans_in n c.self.inside.spans = c.deref.ensures.value ∙ sym (ap (spans_in n) c.in-Listed.is) in
    let end = last_is n (spans_in n c.self.inside.spans) c.deref.result.now c.args.self.now span c.self.invariant c.self.view_is listed c.in-Some.ensures.item.0 c.in-Some.ensures.item.1 in
    let small : span.start + span.count < 2 ^ 64 = end.1 in
    omega arith

pub returns-in-Some : goal.returns-in-Some
returns-in-Some c =
    let n = c.self.inside.scalars in
    let listed : c.deref.result.now ≡ spans_in n c.self.inside.spans = c.deref.ensures.value ∙ sym (ap (spans_in n) c.in-Listed.is) in
    (last_is n (spans_in n c.self.inside.spans) c.deref.result.now c.args.self.now c.in-Some.span.now c.self.invariant c.self.view_is listed c.in-Some.ensures.item.0 c.in-Some.ensures.item.1).0

pub returns-in-None : goal.returns-in-None
returns-in-None c =
    let n = c.self.inside.scalars in
    let none : length c.deref.result.now ≡ 0 = grind (arith, nat_tests, c.in-None.ensures.item) in
    let empty : spans_in n c.self.inside.spans ≡ [] = ap (spans_in n) c.in-Listed.is ∙ sym c.deref.ensures.value ∙ nil_from_length c.deref.result.now none in
    let ends : total (counts_in n (spans_in n c.self.inside.spans)) ≡ n + 0 =
    total_scalars n (map (λ (span : CellRange). span.count) (spans_in n c.self.inside.spans))
    ∙ ap (λ (spans : List CellRange). n + total (map (λ (span : CellRange). span.count) spans)) empty in
    let all : n ≡ total (counts_in n (spans_in n c.self.inside.spans)) = omega (arith, ends) in
    all ∙ ap total c.self.view_is
