use Rattle.std.proofs.Common.{◌≡◌, ◌<◌, ◌≤◌, ◌↔◌, Bool, ℕ, List, length, map, get_or, eqb, eqb-true, ap, sym, subst, ◌∙◌, arith}
use Rattle.std.specs.Prelude.{IsTrue, string_bytes}
use Rattle.std.proofs.lemmas.List.{length-map}
use Rattle.principals.specs.ActsFor.{ActsFor, acts_for, itself}
use Rattle.principals.specs.Table.{has}
use Rattle.principals.proofs.Closure.{acts_for-decides, acts_for-outside}
use Rattle.principals.proofs.Rows.{related-get_or}
use Rattle.principals.proofs.Hierarchy.acts_for_some.Goals as goal

-- some number of a set that is in a row is one that is acted for
by_row : (row numbers : ℕ → Bool) (pairs : List (ℕ × ℕ)) (a : ℕ) (answer : Bool) → ((b : ℕ) → row b ≡ acts_for pairs a b) →
    IsTrue answer ↔ ((b : ℕ) × IsTrue (row b) × IsTrue (numbers b)) →
    IsTrue answer ↔ ((b : ℕ) × IsTrue (numbers b) × ActsFor pairs a b)
by_row row numbers pairs a answer each meets = (
  λ h. let found = meets.0 h in (found.0, found.2, (acts_for-decides pairs a found.0).0 (sym (each found.0) ∙ found.1)),
  λ found. meets.1 (found.0, each found.0 ∙ (acts_for-decides pairs a found.0).1 found.2, found.1),
)

-- of a number that acts for itself alone
by_itself : (numbers : ℕ → Bool) (pairs : List (ℕ × ℕ)) (a : ℕ) → ((b : ℕ) → eqb a b ≡ acts_for pairs a b) →
    IsTrue (numbers a) ↔ ((b : ℕ) × IsTrue (numbers b) × ActsFor pairs a b)
by_itself numbers pairs a alone = (
  λ h. (a, h, itself a),
  λ found. subst (λ b. IsTrue (numbers b)) (sym (eqb-true a found.0 (alone found.0 ∙ (acts_for-decides pairs a found.0).1 found.2))) found.1,
)

pub returns-in-Some : goal.returns-in-Some
returns-in-Some c =
    let rows = c.self.inside.table.items in
    let a = c.args.a in
    let row = c.in-Some.row.now in
    let within : a < length rows = subst (λ x. a < length x) c.deref.ensures.value c.in-Some.ensures.lookup.3.0 in
    let there : a < length c.self.inside.names.keys = subst (λ x. a < x) c.self.invariant.rows within in
    by_row (has row) (has c.args.numbers.now) c.args.self.now.pairs a c.meets.result
    (λ b. ap (λ x. has x b) (c.in-Some.ensures.lookup.1)
    ∙ ap (λ x. has (get_or x a row) b) c.deref.ensures.value
    ∙ sym (related-get_or rows a b row within)
    ∙ c.self.invariant.answers a b there
    ∙ ap (λ h. acts_for h.pairs a b) c.self.view_is)
    c.meets.ensures

pub returns-in-None : goal.returns-in-None
returns-in-None c =
    let rows = c.self.inside.table.items in
    let names = c.self.inside.names.keys in
    let a = c.args.a in
    let none : length rows ≤ a = subst (λ x. length x ≤ a) c.deref.ensures.value c.in-None.ensures.lookup.3 in
    let past : length (map (λ name. string_bytes name) names) ≤ a =
    omega (arith, length-map names (λ name. string_bytes name), c.self.invariant.rows) in
    subst (λ x. IsTrue x ↔ ((b : ℕ) × IsTrue (has c.args.numbers.now b) × ActsFor c.args.self.now.pairs a b)) (sym c.has.ensures)
    (by_itself (has c.args.numbers.now) c.args.self.now.pairs a
    (λ b. acts_for-outside (length (map (λ name. string_bytes name) names)) c.self.inside.pairs.items c.self.invariant.hierarchy.there a b past
    ∙ ap (λ h. acts_for h.pairs a b) c.self.view_is))
