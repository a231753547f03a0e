use Rattle.std.proofs.Common.{◌≡◌, ℕ, ◌+◌, ◌-◌, ◌++◌, map, length, take, drop, replicate, ap, sym, ◌∙◌, List, arith, length-drop}
use Rattle.std.proofs.lemmas.List.{take_all}
use Rattle.stack.specs.Slab.{cells_in, total}
use Rattle.stack.specs.declared.shape.CellRange.{CellRange}
use Rattle.modules.specs.declared.declaration.Slot.{Slot}
use Rattle.stack.proofs.Cuts.{scalars_split, shape_is, counts_are, total_scalars}
use Rattle.stack.proofs.shape.Shape.of.Goals as goal

-- the slots from the first array on, and how many cells all have
others_are : (slots : List Slot) (n : ℕ) → take (length slots - n) (drop n slots) ≡ drop n slots
others_are slots n = take_all (length slots - n) (drop n slots) (omega (arith, length-drop n slots))

all_cells : (slots : List Slot) (n : ℕ) → map cells_in (take n slots) ≡ replicate n 1 → total (map cells_in slots) ≡ n + total (map cells_in (take (length slots - n) (drop n slots)))
all_cells slots n scalars =
    ap total (scalars_split n slots scalars) ∙ total_scalars n (map cells_in (drop n slots)) ∙ ap (λ (xs : List Slot). n + total (map cells_in xs)) (sym (others_are slots n))

pub spans_of-requires : goal.spans_of-requires
spans_of-requires c =
    omega (arith, c.requires, all_cells c.args.slots.now c.count_scalars-scalars.result c.count_scalars-scalars.ensures.scalars)

pub invariant_of-result : goal.invariant_of-result
invariant_of-result c =
    let n = c.count_scalars-scalars.result in
    let slots = c.args.slots.now in
    shape_is n _ (map cells_in (take (length slots - n) (drop n slots))) c.in_ok-spans.ensures
    (omega (arith, c.requires, all_cells slots n c.count_scalars-scalars.ensures.scalars))

pub returns : goal.returns
returns c =
    let n = c.count_scalars-scalars.result in
    let slots = c.args.slots.now in
    ap (λ (spans : List CellRange). replicate n 1 ++ map (λ (span : CellRange). span.count) spans) c.in_ok-spans.ensures
    ∙ ap (λ (ns : List ℕ). replicate n 1 ++ ns) (counts_are n (map cells_in (take (length slots - n) (drop n slots))))
    ∙ ap (λ (xs : List Slot). replicate n 1 ++ map cells_in xs) (others_are slots n)
    ∙ sym (scalars_split n slots c.count_scalars-scalars.ensures.scalars)
