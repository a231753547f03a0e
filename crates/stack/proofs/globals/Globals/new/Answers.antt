use Rattle.std.proofs.Common.{◌≡◌, ◌<◌, ◌^◌, List, map, ap, ◌∙◌, length, arith}
use Rattle.std.specs.List.{flat_map}
use Rattle.std.proofs.lemmas.List.{take_all}
use Rattle.modules.specs.Machine.{first_global}
use Rattle.modules.specs.MachineParts.{slot_of}
use Rattle.modules.specs.declared.declaration.Global.{Global}
use Rattle.modules.specs.declared.declaration.Slot.{Slot}
use Rattle.stack.specs.Slab.{cells_in, cut, total}
use Rattle.stack.proofs.OfGlobals.{cut_first, total_first}
use Rattle.stack.proofs.globals.Globals.new.Goals as goal

-- the cells are there already, so there are not more of them than a list may have
pub of-requires : goal.of-requires
of-requires c =
    let whole = take_all c.loop-global.global-index c.args.globals.now c.loop-global-test.false in
    let slots : c.deref.result.now ≡ map slot_of c.args.globals.now = c.deref.ensures.value ∙ c.loop-global.invariant.slots_are ∙ ap (λ (gs : List Global). map slot_of gs) whole in
    let cells : c.loop-global.cells.items ≡ flat_map first_global c.args.globals.now = c.loop-global.invariant.cells_are ∙ ap (λ (gs : List Global). flat_map first_global gs) whole in
    let few : length c.loop-global.cells.items < 2 ^ 63 = omega (arith, c.loop-global.cells.small) in
    omega (arith, few, ap (λ (ss : List Slot). total (map cells_in ss)) slots, total_first c.args.globals.now, ap length cells)

pub invariant_of-result : goal.invariant_of-result
invariant_of-result c =
    let whole = take_all c.loop-global.global-index c.args.globals.now c.loop-global-test.false in
    let shape : c.in_ok-shape.shape ≡ map cells_in (map slot_of c.args.globals.now) =
    c.in_ok-shape.ensures ∙ ap (map cells_in) (c.deref.ensures.value ∙ c.loop-global.invariant.slots_are ∙ ap (λ (gs : List Global). map slot_of gs) whole) in
    let cells : c.loop-global.cells.items ≡ flat_map first_global c.args.globals.now = c.loop-global.invariant.cells_are ∙ ap (λ (gs : List Global). flat_map first_global gs) whole in
    omega (arith, ap total shape, total_first c.args.globals.now, ap length cells)

pub returns : goal.returns
returns c =
    let whole = take_all c.loop-global.global-index c.args.globals.now c.loop-global-test.false in
    let shape : c.in_ok-shape.shape ≡ map cells_in (map slot_of c.args.globals.now) =
    c.in_ok-shape.ensures ∙ ap (map cells_in) (c.deref.ensures.value ∙ c.loop-global.invariant.slots_are ∙ ap (λ (gs : List Global). map slot_of gs) whole) in
    let cells : c.loop-global.cells.items ≡ flat_map first_global c.args.globals.now = c.loop-global.invariant.cells_are ∙ ap (λ (gs : List Global). flat_map first_global gs) whole in
    ap (λ ns. cut ns c.loop-global.cells.items) shape ∙ ap (cut (map cells_in (map slot_of c.args.globals.now))) cells ∙ cut_first c.args.globals.now
