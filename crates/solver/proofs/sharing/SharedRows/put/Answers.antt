use Rattle.std.proofs.Common.{◌≡◌, ◌<◌, ap, sym, subst, ◌∙◌, ℕ, List, Bool, [], ◌∷◌, ◌++◌, map, set, length, arith}
use Rattle.std.proofs.lemmas.List.{length_push, map-set}
use Rattle.std.proofs.lemmas.List.Elements.{All-set}
use Rattle.solver.specs.Sharing.{AreShared, IsKeptAs, bits_of}
use Rattle.solver.specs.declared.sharing.Kept.{Kept}
use Rattle.solver.proofs.Standing.{bits-last, forms-more, inside-put, map-put}
use Rattle.solver.proofs.sharing.SharedRows.put.Goals as goal

pub invariant_of-self-2 : goal.invariant_of-self-2
invariant_of-self-2 c =
    let kept = c.self.inside.kept.items in
    let of = c.self.inside.of.items in
    let form = c.in_ok-form.form in
    let kept_as = subst (λ (all : List Kept). IsKeptAs all c.args.row form) c.as_slice-3.ensures.value c.in_ok-form.ensures in
    let two = c.self.invariant.two in
    let number : c.len-number.result ≡ length kept = omega (arith, c.len-number.ensures, c.self.inside.kept.ok.0) in
    let shared : AreShared (kept ++ form ∷ []) (set of c.args.unknown (length kept)) = record {
      forms = forms-more kept c.self.invariant.forms form kept_as.fits;
      two = omega (arith, two, length_push kept form);
      inside = inside-put kept c.self.invariant.forms form of c.self.invariant.inside c.args.unknown;
    } in
    subst (λ (all : List Kept). AreShared all (set of c.args.unknown c.len-number.result)) (sym c.in_ok-push.ensures.items)
    (subst (λ (n : ℕ). AreShared (kept ++ form ∷ []) (set of c.args.unknown n)) (sym number) shared)

pub returns : goal.returns
returns c =
    let kept = c.self.inside.kept.items in
    let of = c.self.inside.of.items in
    let form = c.in_ok-form.form in
    let kept_as = subst (λ (all : List Kept). IsKeptAs all c.args.row form) c.as_slice-3.ensures.value c.in_ok-form.ensures in
    let number : c.len-number.result ≡ length kept = omega (arith, c.len-number.ensures, c.self.inside.kept.ok.0) in
    ap (λ (all : List Kept). map (bits_of all) (set of c.args.unknown c.len-number.result)) c.in_ok-push.ensures.items
    ∙ (ap (λ (n : ℕ). map (bits_of (kept ++ form ∷ [])) (set of c.args.unknown n)) number
    ∙ (map-put kept c.self.invariant.forms form of c.self.invariant.inside c.args.unknown c.args.row (bits-last kept c.self.invariant.forms form kept_as.fits ∙ kept_as.is)
    ∙ ap (λ (rows : List (List Bool)). set rows c.args.unknown c.args.row) c.self.view_is))

pub invariant_of-self : goal.invariant_of-self
invariant_of-self c =
    let kept = c.self.inside.kept.items in
    let inside : c.in-Some.same < length kept = subst (λ (all : List Kept). c.in-Some.same < length all) c.as_slice.ensures.value c.in-Some.ensures.number in
    record {
      forms = c.self.invariant.forms;
      two = c.self.invariant.two;
      inside = All-set (λ k. k < length kept) c.self.inside.of.items c.args.unknown c.in-Some.same inside c.self.invariant.inside;
    }

pub returns-in-Some : goal.returns-in-Some
returns-in-Some c =
    let kept = c.self.inside.kept.items in
    let of = c.self.inside.of.items in
    let same : bits_of kept c.in-Some.same ≡ c.args.row = subst (λ (all : List Kept). bits_of all c.in-Some.same ≡ c.args.row) c.as_slice.ensures.value c.in-Some.ensures.same in
    map-set (bits_of kept) of c.args.unknown c.in-Some.same
    ∙ (ap (set (map (bits_of kept) of) c.args.unknown) same
    ∙ ap (λ (rows : List (List Bool)). set rows c.args.unknown c.args.row) c.self.view_is)
