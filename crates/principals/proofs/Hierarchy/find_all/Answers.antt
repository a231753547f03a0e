use Rattle.std.proofs.Common.{◌≡◌, ◌≢◌, ◌<◌, length, map, get_or, refl, sym, ap, subst, ◌∙◌, ⊎_elim, arith, get_or-set_other}
use Rattle.std.specs.Prelude.{string_bytes}
use Rattle.std.proofs.lemmas.Bool.{cases_eq}
use Rattle.std.proofs.lemmas.Grind.{get_or-set_at}
use Rattle.std.proofs.lemmas.List.{length-map}
use Rattle.std.proofs.lemmas.Option.{slice_get_within}
use Rattle.principals.specs.ActsFor.{HasName}
use Rattle.principals.proofs.Names.{bytes_at}
use Rattle.principals.proofs.Hierarchy.find_all.Goals as goal

pub loop-number-preserved : goal.loop-number-preserved
loop-number-preserved c k name l h =
    let here = c.loop-number.here in
    let i = c.loop-number.number in
    let found = c.in-Some.found in
    let hierarchy = c.args.self.now in
    ⊎_elim
    (λ (e : k ≡ i).
    let room : i < length here = omega arith in
    let at = bytes_at (λ text. string_bytes text) c.args.names.now k c.index-names-number.result name h in
    let text : name ≡ c.as_str.result.now =
    at.1 ∙ ap (λ x. string_bytes (get_or c.args.names.now x c.index-names-number.result)) e
    ∙ ap (λ x. string_bytes x) (sym c.index-names-number.is) ∙ sym c.as_str.ensures.value in
    let has : HasName hierarchy found name = subst (λ x. HasName hierarchy found x) (sym text) ((c.in-Some.ensures.number found).0 refl) in
    subst (λ x. HasName hierarchy x name) (sym (get_or-set_at here i k found 0 e room)) has)
    (λ (ne : k ≢ i).
    let below : k < i = omega arith in
    subst (λ x. HasName hierarchy x name) (sym (get_or-set_other here i k found 0 ne)) (c.loop-number.invariant k name below h))
    (cases_eq k i)

pub returns-clause-numbers : goal.returns-clause-numbers
returns-clause-numbers c truth number name h =
    let within : number < length (map (λ text. string_bytes text) c.args.names.now) =
    slice_get_within (map (λ text. string_bytes text) c.args.names.now) number name h in
    let below : number < c.loop-number.number = omega (arith, length-map c.args.names.now (λ text. string_bytes text)) in
    c.loop-number.invariant number name below h
