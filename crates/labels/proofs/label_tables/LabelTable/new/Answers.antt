use Rattle.std.proofs.Common.{refl, sym, ap, ◌∙◌, ◌++◌, ◌∷◌, [], List, None, subst}
use Rattle.labels.specs.Entries.{IsTable}
use Rattle.labels.specs.declared.entries.Entry.{Entry}
use Rattle.labels.proofs.Held.{first-is, first-table}
use Rattle.labels.proofs.label_tables.LabelTable.new.Goals as goal

pub returns : goal.returns
returns c =
    let e : Entry = record { key = record { named = c.in_ok-from_vec.field-0; own = c.in_ok-from_vec-2.field-0 }; row = None } in
    first-is e c.push.new.self.items (c.in_ok-push.ensures.items ∙ ap (λ (xs : List Entry). xs ++ e ∷ []) c.new-entries.ensures.items) (c.in_ok-from_vec-2.ensures ∙ c.new-2.ensures.items) refl

pub invariant_of-result : goal.invariant_of-result
invariant_of-result c =
    let e : Entry = record { key = record { named = c.in_ok-from_vec.field-0; own = c.in_ok-from_vec-2.field-0 }; row = None } in
    subst IsTable (sym (c.in_ok-push.ensures.items ∙ ap (λ (xs : List Entry). xs ++ e ∷ []) c.new-entries.ensures.items)) (first-table e (c.in_ok-from_vec-2.ensures ∙ c.new-2.ensures.items) refl)
