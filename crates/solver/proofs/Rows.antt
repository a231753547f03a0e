-- The edges of links that are put together, and those of parts that no link has.
use Rattle.std.proofs.Common.{◌≡◌, refl, sym, ap, ◌∙◌, ℕ, suc, ◌<◌, ◌≤◌, ◌+◌, length, get_or, List, [], ◌∷◌, ◌++◌, Bool, true, false, nat_eq, arith, take, add-zero, zero-add, append_assoc, append-nil}
use Rattle.std.specs.Prelude.{All}
use Rattle.std.proofs.lemmas.Bool.{eqb-true}
use Rattle.std.proofs.lemmas.List.{take_more, length-take-le}
use Rattle.solver.specs.Links.{InRange, IsBelow, Link, edges_at, link, left_links, links_of, same}
use Rattle.solver.specs.Looks.{count_of}
use Rattle.solver.specs.declared.edges.Edge.{Edge}
use Rattle.solver.specs.declared.constraints.Atom.{Atom}
use Rattle.solver.specs.declared.constraints.Atom.TheVariants.{Unknown, Written}
use Rattle.solver.specs.declared.constraints.Constraint.{Constraint}

pub edges_at-append : (from : Atom) (a b : List Link) → edges_at from (a ++ b) ≡ edges_at from a ++ edges_at from b
edges_at-append from [] b = refl
edges_at-append from (link ∷ a) b = go (same from link.from) refl (edges_at-append from a b)
  where
    go : (t : Bool) → same from link.from ≡ t → edges_at from (a ++ b) ≡ edges_at from a ++ edges_at from b →
        edges_at from ((link ∷ a) ++ b) ≡ edges_at from (link ∷ a) ++ edges_at from b
    go true e more = rw e (ap (λ (x : List Edge). record { by = link.by; to = link.to } ∷ x) more)
    go false e more = rw e more

pub links_of-append : {T : Type 0} (by : ℕ) (a b : List (Constraint T)) → links_of by (a ++ b) ≡ links_of by a ++ links_of (by + length a) b
links_of-append {T} by [] b = ap (λ n. links_of n b) (sym (add-zero by))
links_of-append {T} by (c ∷ a) b =
    let e : suc by + length a ≡ by + length (c ∷ a) = omega arith in
    ap (λ x. left_links by c.right c.left.items ++ x) (links_of-append (suc by) a b ∙ ap (λ n. links_of (suc by) a ++ links_of n b) e)
    ∙ sym (append_assoc (left_links by c.right c.left.items) (links_of (suc by) a) (links_of (by + length (c ∷ a)) b))

-- the edges of one more constraint
pub edges_at-links_more : {T : Type 0} (from : Atom) (cs : List (Constraint T)) (i : ℕ) (c : Constraint T) → i < length cs →
    edges_at from (links_of 0 (take (i + 1) cs)) ≡
    edges_at from (links_of 0 (take i cs)) ++ edges_at from (left_links i (get_or cs i c).right (get_or cs i c).left.items)
edges_at-links_more {T} from cs i c h =
    let last = get_or cs i c in
    let len : 0 + length (take i cs) ≡ i = zero-add (length (take i cs)) ∙ length-take-le i cs (omega (arith, h)) in
    ap (λ x. edges_at from (links_of 0 x)) (take_more cs i c h)
    ∙ (ap (edges_at from) (links_of-append 0 (take i cs) (last ∷ []) ∙ ap (λ n. links_of 0 (take i cs) ++ links_of n (last ∷ [])) len)
    ∙ (edges_at-append from (links_of 0 (take i cs)) (links_of i (last ∷ []))
    ∙ ap (λ x. edges_at from (links_of 0 (take i cs)) ++ edges_at from x) (append-nil (left_links i last.right last.left.items))))

-- ---- the links of the first constraints, and those of the others
pub links_of-more : {T : Type 0} (cs : List (Constraint T)) (i : ℕ) (c : Constraint T) → i < length cs →
    links_of 0 (take (i + 1) cs) ≡ links_of 0 (take i cs) ++ left_links i (get_or cs i c).right (get_or cs i c).left.items
links_of-more {T} cs i c h =
    let last = get_or cs i c in
    let len : 0 + length (take i cs) ≡ i = zero-add (length (take i cs)) ∙ length-take-le i cs (omega (arith, h)) in
    ap (links_of 0) (take_more cs i c h)
    ∙ (links_of-append 0 (take i cs) (last ∷ [])
    ∙ (ap (λ n. links_of 0 (take i cs) ++ links_of n (last ∷ [])) len
    ∙ ap (λ x. links_of 0 (take i cs) ++ x) (append-nil (left_links i last.right last.left.items))))

-- ---- how many edges a part has from one left side
pub count-left : (from : Atom) (by : ℕ) (to : Atom) (left : List Atom) → length (edges_at from (left_links by to left)) ≡ count_of (same from) left
count-left from by to [] = refl
count-left from by to (a ∷ left) = go (same from a) refl (count-left from by to left)
  where
    go : (t : Bool) → same from a ≡ t → length (edges_at from (left_links by to left)) ≡ count_of (same from) left →
        length (edges_at from (left_links by to (a ∷ left))) ≡ count_of (same from) (a ∷ left)
    go true e rest = rw e (let more : suc (length (edges_at from (left_links by to left))) ≡ 1 + count_of (same from) left = omega (arith, rest) in more)
    go false e rest = rw e (let more : length (edges_at from (left_links by to left)) ≡ 0 + count_of (same from) left = omega (arith, rest) in more)

-- ---- a part with a number that is not below the count of its kind has no edges
apart : (n k : ℕ) → n < k → nat_eq k n ≡ false
apart n k h = go (nat_eq k n) refl
  where
    go : (t : Bool) → nat_eq k n ≡ t → nat_eq k n ≡ false
    go true e = let is = eqb-true k n e in absurd (omega (arith, is, h))
    go false e = e

written-apart : (k written unknowns : ℕ) (a : Atom) → written ≤ k → IsBelow written unknowns a → same (Written k) a ≡ false
written-apart k written unknowns (Written n) h below = apart n k (omega (arith, below, h))
written-apart k written unknowns (Unknown u) h below = refl

unknown-apart : (k written unknowns : ℕ) (a : Atom) → unknowns ≤ k → IsBelow written unknowns a → same (Unknown k) a ≡ false
unknown-apart k written unknowns (Written n) h below = refl
unknown-apart k written unknowns (Unknown u) h below = apart u k (omega (arith, below, h))

none-left : (from : Atom) (by : ℕ) (to : Atom) (left : List Atom) → All (λ a. same from a ≡ false) left → edges_at from (left_links by to left) ≡ []
none-left from by to [] all = refl
none-left from by to (a ∷ left) all = rw (all 0 a (omega arith)) (none-left from by to left (λ i d h. all (suc i) d (omega (arith, h))))

none-at : {T : Type 0} (from : Atom) (by : ℕ) (cs : List (Constraint T)) → All (λ (c : Constraint T). All (λ a. same from a ≡ false) c.left.items) cs → edges_at from (links_of by cs) ≡ []
none-at from by [] all = refl
none-at {T} from by (c ∷ cs) all =
    edges_at-append from (left_links by c.right c.left.items) (links_of (suc by) cs)
    ∙ (ap (λ x. x ++ edges_at from (links_of (suc by) cs)) (none-left from by c.right c.left.items (all 0 c (omega arith)))
    ∙ none-at from (suc by) cs (λ i d h. all (suc i) d (omega (arith, h))))

pub none-written : {T : Type 0} (cs : List (Constraint T)) (written unknowns k : ℕ) → InRange written unknowns cs → written ≤ k → edges_at (Written k) (links_of 0 cs) ≡ []
none-written {T} cs written unknowns k range h = none-at (Written k) 0 cs (λ i d lt j a lt'. written-apart k written unknowns _ h ((range i d lt).0 j a lt'))

pub none-unknown : {T : Type 0} (cs : List (Constraint T)) (written unknowns k : ℕ) → InRange written unknowns cs → unknowns ≤ k → edges_at (Unknown k) (links_of 0 cs) ≡ []
none-unknown {T} cs written unknowns k range h = none-at (Unknown k) 0 cs (λ i d lt j a lt'. unknown-apart k written unknowns _ h ((range i d lt).0 j a lt'))
