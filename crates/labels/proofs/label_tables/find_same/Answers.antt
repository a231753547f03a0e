use Rattle.std.proofs.Common.{◌≡◌, ◌<◌, sym, ◌∙◌, length}
use Rattle.std.specs.Arc.{arc_slice_items}
use Rattle.std.proofs.lemmas.Bool.{ltb-true}
use Rattle.labels.specs.Entries.{numbers_in, own_of}
use Rattle.labels.proofs.Held.{held-as, same-policies}
use Rattle.labels.proofs.label_tables.find_same.Goals as goal

pub returns : goal.returns
returns c =
    let e = c.in_ok-entry.entry.now in
    let n = c.in_ok-number.field-0.now in
    let inside : n < length c.args.entries.now = ltb-true n (length c.args.entries.now) (sym c.in_ok-entry.ensures.lookup.0) in
    let own : own_of e ≡ arc_slice_items c.args.key.now.own =
    sym c.as_slice.ensures.value ∙ (same-policies c.as_slice.result.now c.as_slice-2.result.now c.ne.result c.ne.ensures c.if-ne.false ∙ c.as_slice-2.ensures.value) in
    held-as c.args.entries.now n e (arc_slice_items c.args.key.now.own) (numbers_in c.args.row.now) inside c.in_ok-entry.ensures.lookup.1 own
    (c.is_same_row.ensures c.if-not-is_same_row.false)
