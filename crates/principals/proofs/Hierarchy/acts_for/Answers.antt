use Rattle.std.proofs.Common.{◌≡◌, ◌<◌, ◌≤◌, ◌↔◌, Bool, ℕ, List, length, map, get_or, eqb, ap, sym, subst, ◌∙◌, arith}
use Rattle.std.specs.Prelude.{IsTrue, string_bytes}
use Rattle.std.proofs.lemmas.List.{length-map}
use Rattle.principals.specs.ActsFor.{ActsFor, acts_for}
use Rattle.principals.specs.Table.{has}
use Rattle.principals.proofs.Closure.{acts_for-decides, acts_for-outside}
use Rattle.principals.proofs.Rows.{related-get_or}
use Rattle.principals.proofs.Hierarchy.acts_for.Goals as goal

decided : (pairs : List (ℕ × ℕ)) (a b : ℕ) (answer : Bool) → answer ≡ acts_for pairs a b → IsTrue answer ↔ ActsFor pairs a b
decided pairs a b answer e = subst (λ x. IsTrue x ↔ ActsFor pairs a b) (sym e) (acts_for-decides pairs a b)

pub returns-in-Some-clause-value : goal.returns-in-Some-clause-value
returns-in-Some-clause-value c =
    let rows = c.self.inside.table.items in
    let within : c.args.a < length rows = subst (λ x. c.args.a < length x) c.deref.ensures.value c.in-Some.ensures.lookup.3.0 in
    let there : c.args.a < length c.self.inside.names.keys = subst (λ x. c.args.a < x) c.self.invariant.rows within in
    c.has.ensures ∙ ap (λ x. has x c.args.b) (c.in-Some.ensures.lookup.1)
    ∙ ap (λ x. has (get_or x c.args.a c.in-Some.row.now) c.args.b) c.deref.ensures.value
    ∙ sym (related-get_or rows c.args.a c.args.b c.in-Some.row.now within)
    ∙ c.self.invariant.answers c.args.a c.args.b there
    ∙ ap (λ h. acts_for h.pairs c.args.a c.args.b) c.self.view_is

pub returns-in-Some-clause-acts : goal.returns-in-Some-clause-acts
returns-in-Some-clause-acts c = decided c.args.self.now.pairs c.args.a c.args.b c.has.result (returns-in-Some-clause-value c)

pub returns-in-None-clause-value : goal.returns-in-None-clause-value
returns-in-None-clause-value c =
    let rows = c.self.inside.table.items in
    let names = c.self.inside.names.keys in
    let none : length rows ≤ c.args.a = subst (λ x. length x ≤ c.args.a) c.deref.ensures.value c.in-None.ensures.lookup.3 in
    let past : length (map (λ name. string_bytes name) names) ≤ c.args.a =
    omega (arith, length-map names (λ name. string_bytes name), c.self.invariant.rows) in
    acts_for-outside (length (map (λ name. string_bytes name) names)) c.self.inside.pairs.items c.self.invariant.hierarchy.there c.args.a c.args.b past
    ∙ ap (λ h. acts_for h.pairs c.args.a c.args.b) c.self.view_is

pub returns-in-None-clause-acts : goal.returns-in-None-clause-acts
returns-in-None-clause-acts c = decided c.args.self.now.pairs c.args.a c.args.b (eqb c.args.a c.args.b) (returns-in-None-clause-value c)
