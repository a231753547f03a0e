-- How often constraints may come to wait: once for each edge from an unknown and each number that may still come to its row.
use Rattle.std.proofs.Common.{◌≡◌, refl, sym, ap, ◌∙◌, subst, ℕ, zero, suc, ◌<◌, ◌≤◌, ◌+◌, ◌*◌, ◌-◌, length, set, get_or, List, [], ◌∷◌, ◌++◌, Bool, true, false, arith, nat_eq, add-zero}
use Rattle.std.proofs.lemmas.Bool.{eqb-true}
use Rattle.std.proofs.Math.Nat.{mul-le-mul_right, suc-mul}
use Rattle.solver.specs.Links.{Link, edges_at, left_links, link, links_of}
use Rattle.solver.specs.EdgeRows.{row_at}
use Rattle.solver.specs.Looks.{count_of, is_unknown, one, unknowns_left}
use Rattle.solver.specs.Work.{room}
use Rattle.solver.specs.declared.edges.Edge.{Edge}
use Rattle.solver.specs.declared.constraints.Atom.{Atom}
use Rattle.solver.specs.declared.constraints.Atom.TheVariants.{Unknown, Written}
use Rattle.solver.specs.declared.constraints.Constraint.{Constraint}
use Rattle.solver.proofs.Bits.{size}

-- a row has grown
pub room-grows : (most : ℕ) (edges : List (List Edge)) (rows : List (List Bool)) (u : ℕ) (row d : List Bool) → u < length rows → length rows ≡ length edges →
    size (get_or rows u d) < size row → size row ≤ most → room most edges (set rows u row) + length (row_at edges u) ≤ room most edges rows
room-grows most edges [] u row d h e more small = absurd (omega (arith, h))
room-grows most [] (r ∷ rows) u row d h e more small = absurd (omega (arith, e))
room-grows most (es ∷ edges) (r ∷ rows) zero row d h e more small =
    let fewer : suc (most - size row) ≤ most - size r = omega (arith, more, small) in
    let times : suc (most - size row) * length es ≤ (most - size r) * length es = mul-le-mul_right (length es) fewer in
    let first : suc (most - size row) * length es ≡ (most - size row) * length es + length es = suc-mul (most - size row) (length es) in
    omega (arith, times, first)
room-grows most (es ∷ edges) (r ∷ rows) (suc u) row d h e more small =
    let rest = room-grows most edges rows u row d (omega (arith, h)) (omega (arith, e)) more small in
    omega (arith, rest)

-- all edges
abbrev all_edges : List (List Edge) → ℕ
all_edges [] = 0
all_edges (es ∷ edges) = length es + all_edges edges

room-at_most : (most : ℕ) (edges : List (List Edge)) (rows : List (List Bool)) → room most edges rows ≤ all_edges edges * most
room-at_most most [] rows = omega arith
room-at_most most (es ∷ edges) [] = omega arith
room-at_most most (es ∷ edges) (row ∷ rows) =
    let rest = room-at_most most edges rows in
    let fewer : most - size row ≤ most = omega arith in
    let times : (most - size row) * length es ≤ most * length es = mul-le-mul_right (length es) fewer in
    let all : (length es + all_edges edges) * most ≡ most * length es + all_edges edges * most = omega arith in
    omega (arith, rest, times, all)

-- the edges from unknowns are the links from unknowns
abbrev tally : (from count : ℕ) → List Link → ℕ
tally k zero links = 0
tally k (suc n) links = length (edges_at (Unknown k) links) + tally (suc k) n links

abbrev unknown_links : List Link → ℕ
unknown_links links = count_of (λ l. is_unknown l.from) links

edges-tally : (k : ℕ) (edges : List (List Edge)) (links : List Link) → ((i : ℕ) → row_at edges i ≡ edges_at (Unknown (k + i)) links) → all_edges edges ≡ tally k (length edges) links
edges-tally k [] links each = refl
edges-tally k (es ∷ edges) links each =
    let first : es ≡ edges_at (Unknown k) links = each 0 ∙ ap (λ n. edges_at (Unknown n) links) (add-zero k) in
    let len : length es ≡ length (edges_at (Unknown k) links) = ap length first in
    let rest = edges-tally (suc k) edges links (λ i. let e : k + suc i ≡ suc k + i = omega arith in each (suc i) ∙ ap (λ n. edges_at (Unknown n) links) e) in
    omega (arith, len, rest)

tally-none : (k n : ℕ) → tally k n [] ≡ 0
tally-none k zero = refl
tally-none k (suc n) = let rest = tally-none (suc k) n in omega (arith, rest)

tally-written : (k n m by : ℕ) (to : Atom) (links : List Link) → tally k n (link (Written m) by to ∷ links) ≡ tally k n links
tally-written k zero m by to links = refl
tally-written k (suc n) m by to links = ap (λ t. length (edges_at (Unknown k) links) + t) (tally-written (suc k) n m by to links)

tally-before : (k n w by : ℕ) (to : Atom) (links : List Link) → w < k → tally k n (link (Unknown w) by to ∷ links) ≡ tally k n links
tally-before k zero w by to links h = refl
tally-before k (suc n) w by to links h = go (nat_eq k w) refl (tally-before (suc k) n w by to links (omega (arith, h)))
  where
    go : (t : Bool) → nat_eq k w ≡ t → tally (suc k) n (link (Unknown w) by to ∷ links) ≡ tally (suc k) n links →
        tally k (suc n) (link (Unknown w) by to ∷ links) ≡ tally k (suc n) links
    go true e more = let is : k ≡ w = eqb-true k w e in absurd (omega (arith, is, h))
    go false e more = rw e (ap (λ t. length (edges_at (Unknown k) links) + t) more)

tally-unknown : (k n w by : ℕ) (to : Atom) (links : List Link) → tally k n (link (Unknown w) by to ∷ links) ≤ suc (tally k n links)
tally-unknown k zero w by to links = omega arith
tally-unknown k (suc n) w by to links = go (nat_eq k w) refl (tally-unknown (suc k) n w by to links)
  where
    go : (t : Bool) → nat_eq k w ≡ t → tally (suc k) n (link (Unknown w) by to ∷ links) ≤ suc (tally (suc k) n links) →
        tally k (suc n) (link (Unknown w) by to ∷ links) ≤ suc (tally k (suc n) links)
    go true e more =
        let is : k ≡ w = eqb-true k w e in
        let rest = tally-before (suc k) n w by to links (omega (arith, is)) in
        rw e (omega (arith, rest))
    go false e more = rw e (omega (arith, more))

tally-at_most : (k n : ℕ) (links : List Link) → tally k n links ≤ unknown_links links
tally-at_most k n [] = let none = tally-none k n in omega (arith, none)
tally-at_most k n (l ∷ links) = go l.from refl (tally-at_most k n links)
  where
    go : (from : Atom) → l.from ≡ from → tally k n links ≤ unknown_links links → tally k n (l ∷ links) ≤ unknown_links (l ∷ links)
    go (Written m) e rest =
        let is : l ≡ link (Written m) l.by l.to = ap (λ f. link f l.by l.to) e in
        let t : tally k n (l ∷ links) ≡ tally k n links = ap (λ (x : Link). tally k n (x ∷ links)) is ∙ tally-written k n m l.by l.to links in
        omega (arith, t, rest)
    go (Unknown w) e rest =
        let is : l ≡ link (Unknown w) l.by l.to = ap (λ f. link f l.by l.to) e in
        let here : one (is_unknown l.from) ≡ 1 = ap (λ a. one (is_unknown a)) e in
        let t : tally k n (l ∷ links) ≤ suc (tally k n links) = subst (λ (x : Link). tally k n (x ∷ links) ≤ suc (tally k n links)) (sym is) (tally-unknown k n w l.by l.to links) in
        omega (arith, t, rest, here)

pub count-append : {X : Type 0} (test : X → Bool) (xs ys : List X) → count_of test (xs ++ ys) ≡ count_of test xs + count_of test ys
count-append test [] ys = omega arith
count-append test (x ∷ xs) ys = let rest = count-append test xs ys in omega (arith, rest)

left-links : (by : ℕ) (to : Atom) (left : List Atom) → unknown_links (left_links by to left) ≡ count_of is_unknown left
left-links by to [] = refl
left-links by to (a ∷ left) = ap (λ n. one (is_unknown a) + n) (left-links by to left)

links-unknowns : {T : Type 0} (by : ℕ) (cs : List (Constraint T)) → unknown_links (links_of by cs) ≡ unknowns_left cs
links-unknowns by [] = refl
links-unknowns {T} by (c ∷ cs) =
    let first = left-links by c.right c.left.items in
    let rest = links-unknowns (suc by) cs in
    let both = count-append (λ (l : Link). is_unknown l.from) (left_links by c.right c.left.items) (links_of (suc by) cs) in
    omega (arith, first, rest, both)

pub room-first : {T : Type 0} (cs : List (Constraint T)) (most : ℕ) (edges : List (List Edge)) (rows : List (List Bool)) →
    ((i : ℕ) → row_at edges i ≡ edges_at (Unknown i) (links_of 0 cs)) → room most edges rows ≤ most * unknowns_left cs
room-first {T} cs most edges rows each =
    let links = links_of 0 cs in
    let all = edges-tally 0 edges links (λ i. each i ∙ ap (λ n. edges_at (Unknown n) links) (let e : i ≡ 0 + i = omega arith in e)) in
    let few = tally-at_most 0 (length edges) links in
    let is = links-unknowns 0 cs in
    let fewer : all_edges edges ≤ unknowns_left cs = omega (arith, all, few, is) in
    let times : all_edges edges * most ≤ unknowns_left cs * most = mul-le-mul_right most fewer in
    let turned : unknowns_left cs * most ≡ most * unknowns_left cs = omega arith in
    let room_is = room-at_most most edges rows in
    omega (arith, times, turned, room_is)
