use Rattle.std.proofs.Common.{sym, subst, ap, ◌∙◌, ℕ, List, Bool, map, set}
use Rattle.std.proofs.lemmas.List.{map-set}
use Rattle.solver.specs.Rows.{AreSized}
use Rattle.solver.specs.Sharing.{bits_of}
use Rattle.solver.specs.Work.{IsMore}
use Rattle.solver.specs.declared.sharing.Kept.{Kept}
use Rattle.solver.proofs.sharing.SharedRows.take_over.Goals as goal

pub returns-in-Some-clause-taken : goal.returns-in-Some-clause-taken
returns-in-Some-clause-taken c = λ _ count sized.
    let kept = c.self.inside.kept.items in
    let of = c.self.inside.of.items in
    let unknown = c.args.unknown in
    let left = c.args.left.now in
    let taken = c.in-Some.taken in
    let by_kept = subst (λ (ks : List Kept). (n : ℕ) → AreSized n (map (bits_of ks) c.as_slice-2.result.now) → IsMore (map (bits_of ks) c.as_slice-2.result.now) n unknown left (bits_of ks taken))
    c.as_slice.ensures.value c.in-Some.ensures.more in
    let by_of = subst (λ (os : List ℕ). (n : ℕ) → AreSized n (map (bits_of kept) os) → IsMore (map (bits_of kept) os) n unknown left (bits_of kept taken))
    c.as_slice-2.ensures.value by_kept in
    record {
      row = bits_of kept taken;
      more = subst (λ (rows : List (List Bool)). IsMore rows count unknown left (bits_of kept taken)) c.self.view_is
          (by_of count (subst (AreSized count) (sym c.self.view_is) sized));
      put = map-set (bits_of kept) of unknown taken ∙ ap (λ (rows : List (List Bool)). set rows unknown (bits_of kept taken)) c.self.view_is;
    }
