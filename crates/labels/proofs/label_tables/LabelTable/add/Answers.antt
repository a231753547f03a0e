use Rattle.std.proofs.Common.{◌≡◌, sym, ap, ◌∙◌, ◌++◌, ◌≤◌, ◌<◌, ℕ, List, length, subst, arith}
use Rattle.std.specs.Arc.{arc_slice_items}
use Rattle.std.proofs.lemmas.List.{length_push}
use Rattle.labels.specs.Canonical.{IsCanonicalPolicy, written_label}
use Rattle.std.specs.Prelude.{All}
use Rattle.labels.specs.Entries.{IsHeldAs, IsOnlyName, IsTable, labels_in, numbers_in, row_of, some_made_of}
use Rattle.labels.specs.Label.{Label, ReaderPolicy}
use Rattle.labels.specs.LabelTable.{Extends, label_at, labels_of}
use Rattle.labels.specs.Row.{has}
use Rattle.labels.specs.Sets.{SameSet}
use Rattle.labels.specs.declared.entries.Entry.{Entry}
use Rattle.labels.proofs.Held.{extends-pushed, extends-same, found-is, kept-same, length-labels, only-inside, only-is, pushed-is, table-pushed}
use Rattle.labels.proofs.Written.{IsCanonicalLabel-written}
use Rattle.labels.proofs.label_tables.LabelTable.add.Goals as goal

-- ---- one name alone, or none

pub returns-in-Some-clause-label : goal.returns-in-Some-clause-label
returns-in-Some-clause-label c =
    let es = c.self.inside.entries.items in
    let kept = c.names_of-named.result.items in
    let same : SameSet (labels_of (labels_in es) kept) (labels_of (labels_in es) c.args.named.items) =
    kept-same es kept c.args.named.items c.len.result c.self.invariant (c.len.ensures ∙ c.self.inside.entries.ok.0) c.names_of-named.ensures.all c.names_of-named.ensures.only in
    let only : IsOnlyName c.each_once-own.result.items kept c.in-Some.number = rw (c.as_slice.ensures.value, c.as_slice-2.ensures.value) at c.in-Some.ensures in
    subst (λ (labels : List Label). label_at labels c.in-Some.number ≡ written_label (c.args.own.items ++ labels_of labels c.args.named.items)) c.self.view_is
    (only-is es c.args.own.items c.each_once-own.result.items kept c.args.named.items c.in-Some.number c.each_once-own.ensures c.self.invariant only same)

pub returns-in-Some-clause-extended : goal.returns-in-Some-clause-extended
returns-in-Some-clause-extended c = extends-same c.args.self.now

pub returns-in-Some-clause-inside : goal.returns-in-Some-clause-inside
returns-in-Some-clause-inside c =
    let es = c.self.inside.entries.items in
    let kept = c.names_of-named.result.items in
    let only : IsOnlyName c.each_once-own.result.items kept c.in-Some.number = rw (c.as_slice.ensures.value, c.as_slice-2.ensures.value) at c.in-Some.ensures in
    subst (λ n. c.in-Some.number < n) (sym (length-labels es) ∙ ap length c.self.view_is)
    (only-inside es c.each_once-own.result.items kept c.in-Some.number c.len.result c.self.invariant (c.len.ensures ∙ c.self.inside.entries.ok.0) c.names_of-named.ensures.inside only)

-- ---- an entry that was there

pub returns-in-Some-find_same-clause-label : goal.returns-in-Some-find_same-clause-label
returns-in-Some-find_same-clause-label c =
    let es = c.self.inside.entries.items in
    let kept = c.names_of-named.result.items in
    let same : SameSet (labels_of (labels_in es) kept) (labels_of (labels_in es) c.args.named.items) =
    kept-same es kept c.args.named.items c.len.result c.self.invariant (c.len.ensures ∙ c.self.inside.entries.ok.0) c.names_of-named.ensures.all c.names_of-named.ensures.only in
    let parts : (part : ℕ) → has (numbers_in c.in_ok-row.row) part ≡ some_made_of es kept part =
    rw (c.as_slice-3.ensures.value, c.as_slice-4.ensures.value) at c.in_ok-row.ensures.parts in
    let own : arc_slice_items c.in_ok-from_vec-2.field-0 ≡ written_label c.args.own.items = c.in_ok-from_vec-2.ensures ∙ c.each_once-own.ensures in
    let held : IsHeldAs es c.in-Some-find_same.number (arc_slice_items c.in_ok-from_vec-2.field-0) (numbers_in c.in_ok-row.row) = rw c.as_slice-5.ensures.value at c.in-Some-find_same.ensures in
    subst (λ (labels : List Label). label_at labels c.in-Some-find_same.number ≡ written_label (c.args.own.items ++ labels_of labels c.args.named.items)) c.self.view_is
    (found-is es c.args.own.items (arc_slice_items c.in_ok-from_vec-2.field-0) (numbers_in c.in_ok-row.row) kept c.args.named.items c.in-Some-find_same.number held own parts same)

-- ---- a further entry

pub returns-clause-label : goal.returns-clause-label
returns-clause-label c =
    let es = c.self.inside.entries.items in
    let kept = c.names_of-named.result.items in
    let same : SameSet (labels_of (labels_in es) kept) (labels_of (labels_in es) c.args.named.items) =
    kept-same es kept c.args.named.items c.len.result c.self.invariant (c.len.ensures ∙ c.self.inside.entries.ok.0) c.names_of-named.ensures.all c.names_of-named.ensures.only in
    let parts : (part : ℕ) → has (numbers_in c.in_ok-row.row) part ≡ some_made_of es kept part =
    rw (c.as_slice-3.ensures.value, c.as_slice-4.ensures.value) at c.in_ok-row.ensures.parts in
    let own : arc_slice_items c.in_ok-from_vec-2.field-0 ≡ written_label c.args.own.items = c.in_ok-from_vec-2.ensures ∙ c.each_once-own.ensures in
    let e : Entry = record { key = record { named = c.in_ok-from_vec.field-0; own = c.in_ok-from_vec-2.field-0 }; row = c.in_ok-held.held } in
    let short : length (row_of e) ≤ length es = omega (arith, ap length c.in_ok-held.ensures, c.in_ok-row.ensures.short, ap length c.as_slice-3.ensures.value) in
    subst (λ (labels : List Label). label_at (labels_in c.push.new.self.items) c.len-number.result ≡ written_label (c.args.own.items ++ labels_of labels c.args.named.items)) c.self.view_is
    (pushed-is es c.push.new.self.items e c.args.own.items kept c.args.named.items c.len-number.result c.in_ok-push.ensures.items c.self.invariant.are short
    (c.len-number.ensures ∙ c.self.inside.entries.ok.0) own (λ part. ap (λ row. has row part) c.in_ok-held.ensures ∙ parts part) same)

pub returns-clause-extended : goal.returns-clause-extended
returns-clause-extended c =
    let es = c.self.inside.entries.items in
    let e : Entry = record { key = record { named = c.in_ok-from_vec.field-0; own = c.in_ok-from_vec-2.field-0 }; row = c.in_ok-held.held } in
    let short : length (row_of e) ≤ length es = omega (arith, ap length c.in_ok-held.ensures, c.in_ok-row.ensures.short, ap length c.as_slice-3.ensures.value) in
    subst (λ (labels : List Label). Extends labels (labels_in c.push.new.self.items)) c.self.view_is (extends-pushed es c.push.new.self.items e c.in_ok-push.ensures.items c.self.invariant.are short)

pub returns-clause-few : goal.returns-clause-few
returns-clause-few c =
    let es = c.self.inside.entries.items in
    let e : Entry = record { key = record { named = c.in_ok-from_vec.field-0; own = c.in_ok-from_vec-2.field-0 }; row = c.in_ok-held.held } in
    omega (arith, length-labels c.push.new.self.items, length-labels es, ap length c.in_ok-push.ensures.items, length_push es e, ap length c.self.view_is)

pub returns-clause-inside : goal.returns-clause-inside
returns-clause-inside c =
    let es = c.self.inside.entries.items in
    let e : Entry = record { key = record { named = c.in_ok-from_vec.field-0; own = c.in_ok-from_vec-2.field-0 }; row = c.in_ok-held.held } in
    omega (arith, length-labels c.push.new.self.items, ap length c.in_ok-push.ensures.items, length_push es e, c.len-number.ensures, c.self.inside.entries.ok.0)

pub invariant_of-self : goal.invariant_of-self
invariant_of-self c = c.self.invariant

pub invariant_of-self-2 : goal.invariant_of-self-2
invariant_of-self-2 c =
    let es = c.self.inside.entries.items in
    let e : Entry = record { key = record { named = c.in_ok-from_vec.field-0; own = c.in_ok-from_vec-2.field-0 }; row = c.in_ok-held.held } in
    let short : length (row_of e) ≤ length es = omega (arith, ap length c.in_ok-held.ensures, c.in_ok-row.ensures.short, ap length c.as_slice-3.ensures.value) in
    let own : arc_slice_items c.in_ok-from_vec-2.field-0 ≡ written_label c.args.own.items = c.in_ok-from_vec-2.ensures ∙ c.each_once-own.ensures in
    let canonical : All IsCanonicalPolicy (arc_slice_items c.in_ok-from_vec-2.field-0) =
    subst (λ (list : List ReaderPolicy). All IsCanonicalPolicy list) (sym own) (IsCanonicalLabel-written c.args.own.items c.requires.canonical).each_canonical in
    subst IsTable (sym c.in_ok-push.ensures.items)
    (table-pushed es e c.self.invariant short canonical (omega (arith, c.requires.room, length-labels es, ap length c.self.view_is)))
