use Rattle.std.proofs.Common.{◌≡◌, ◌∙◌, ap, sym, subst, ℕ, true, false, cond, rules}
use Rattle.std.specs.Prelude.{nat_eq}
use Rattle.std.proofs.lemmas.List.Elements.{All-push}
use Rattle.indexmap.specs.IndexSet.{contains}
use Rattle.labels.specs.LabelTable.{label_at}
use Rattle.resolved.specs.declared.tables.Thrown.{Thrown}
use Rattle.resolved.specs.ProgramOf.{thrown_entry}
use Rattle.syntax.specs.Tree.{thrown_tree}
use Rattle.types.specs.Resolution.{is_thrown}
use Rattle.types.specs.VariableEntries.{IsInside}
use Rattle.types.specs.Views.{item_scope, throws_view}
use Rattle.types.proofs.LabelNumbers.{thrown_still_inside}
use Rattle.types.proofs.Procedures.{thrown_found, thrown_or_last, thrown_pushed}
use Rattle.types.proofs.procedure.add_thrown.Goals as goal

pub returns-clause-made : goal.returns-clause-made
returns-clause-made c =
    let before = c.args.variables.now in
    let after = c.add_label.new.variables in
    let one : Thrown = record { exception = c.in_ok-number.number; label = c.in_ok-label.label } in
    let new : is_thrown (throws_view before.labels c.args.throws.now) c.in_ok-number.number ≡ false = sym (c.requires.same c.in_ok-number.number) ∙ search rules in
    thrown_found (item_scope c.args.context.now before) (throws_view before.labels c.args.throws.now) (throws_view after.labels c.push.new.self) (thrown_tree c.args.written.now)
    c.in_ok-number.number (label_at after.labels c.in_ok-label.label) (search rules) new c.in_ok-label.ensures.made
    (thrown_pushed before.labels after.labels c.in_ok-label.ensures.more.extended c.args.throws.now.items c.push.new.self.items one c.requires.inside c.in_ok-push.ensures.items)

pub returns-clause-same : goal.returns-clause-same
returns-clause-same c =
    let before = c.args.variables.now in
    let after = c.add_label.new.variables in
    let one : Thrown = record { exception = c.in_ok-number.number; label = c.in_ok-label.label } in
    let all = thrown_pushed before.labels after.labels c.in_ok-label.ensures.more.extended c.args.throws.now.items c.push.new.self.items one c.requires.inside c.in_ok-push.ensures.items in
    subst (λ throws. (number : ℕ) → contains nat_eq c.insert.new.self number ≡ is_thrown throws number) (sym all)
    (λ number. c.in_ok-insert.ensures.updates.0 number ∙ ap (cond (nat_eq c.in_ok-number.number number) true) (c.requires.same number)
    ∙ sym (thrown_or_last (throws_view before.labels c.args.throws.now) (thrown_entry after.labels one) number))

pub returns-clause-inside : goal.returns-clause-inside
returns-clause-inside c =
    let before = c.args.variables.now in
    let after = c.add_label.new.variables in
    rw c.in_ok-push.ensures.items (All-push (λ (thrown : Thrown). IsInside after.labels thrown.label) _ _
    (thrown_still_inside before.labels after.labels c.in_ok-label.ensures.more.extended c.args.throws.now.items c.requires.inside) c.in_ok-label.ensures.inside)
