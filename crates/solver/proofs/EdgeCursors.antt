-- Rows of edges in one list: how each is read, that edges are counted, and that rows are filled with the edges of links.
use Rattle.std.proofs.Common.{◌≡◌, refl, sym, ap, ◌∙◌, subst, ℕ, zero, suc, ◌<◌, ◌≤◌, ◌+◌, ◌-◌, ◌^◌, length, set, get_or, take, drop, replicate, List, [], ◌∷◌, ◌++◌, Bool, true, false, nat_eq, arith, add-zero, append_assoc, append-nil, ◌⊎◌, inl, inr}
use Rattle.std.specs.Prelude.{slice_range}
use Rattle.std.proofs.lemmas.Bool.{cases_lt, eqb-true, eq-eqb}
use Rattle.std.proofs.lemmas.List.{drop_more, get_or_read, take_all, drop_all, map-append, take_more, length-append, length_push, length-drop, length-replicate, replicate-append-replicate, set_at, take_at, drop_at}
use Rattle.solver.specs.EdgeCursors.{AreCounted, AreFilled, AreFilledTo, HaveEdges, MoreCounted, PartRow, capped, end_from, list_of, cursors_from, starts_from}
use Rattle.solver.specs.EdgeRows.{AreEnds, row_at, rows_from}
use Rattle.solver.specs.Links.{AreBelow, InRange, IsBelow, Link, edges_at, left_links, link, links_of, same}
use Rattle.solver.specs.Looks.{count_of, one}
use Rattle.solver.specs.Reach.{edge}
use Rattle.solver.specs.declared.edges.Edge.{Edge}
use Rattle.solver.specs.declared.constraints.Atom.{Atom}
use Rattle.solver.specs.declared.constraints.Atom.TheVariants.{Unknown, Written}
use Rattle.solver.specs.declared.constraints.Constraint.{Constraint}
use Rattle.solver.proofs.Counting.{count-append}
use Rattle.solver.proofs.Rows.{count-left, edges_at-append, edges_at-links_more, links_of-more}

-- ---- reading a row
pub row-ends : (start : ℕ) (ends : List ℕ) (count k : ℕ) → AreEnds start ends count → k < length ends → (get_or (start ∷ ends) k 0 ≤ get_or ends k 0) × (get_or ends k 0 ≤ count)
row-ends start [] count k h lt = absurd (omega (arith, lt))
row-ends start (end ∷ ends) count zero h lt = (h.0, h.1)
row-ends start (end ∷ ends) count (suc k) h lt = row-ends end ends count k h.2 (omega (arith, lt))

pub row-read : (start : ℕ) (ends : List ℕ) (list : List Edge) (k : ℕ) → k < length ends → slice_range list (get_or (start ∷ ends) k 0) (get_or ends k 0) ≡ row_at (rows_from start ends list) k
row-read start [] list k lt = absurd (omega (arith, lt))
row-read start (end ∷ ends) list zero lt = refl
row-read start (end ∷ ends) list (suc k) lt = row-read end ends list k (omega (arith, lt))

pub rows-count : (start : ℕ) (ends : List ℕ) (list : List Edge) → length (rows_from start ends list) ≡ length ends
rows-count start [] list = refl
rows-count start (end ∷ ends) list = ap suc (rows-count end ends list)

pub row_at-past : (rows : List (List Edge)) (k : ℕ) → length rows ≤ k → row_at rows k ≡ []
row_at-past [] k h = refl
row_at-past (row ∷ rows) zero h = absurd (omega (arith, h))
row_at-past (row ∷ rows) (suc k) h = row_at-past rows k (omega (arith, h))

pub row-inside : (ends : List ℕ) (list : List Edge) (now : List (List Edge)) (part : ℕ) → rows_from 0 ends list ≡ now → part < length now → part < length ends
row-inside ends list now part is h = let count = rows-count 0 ends list in let len = ap length is in omega (arith, count, len, h)

pub row-bounds : (ends slice : List ℕ) (count part start end : ℕ) → AreEnds 0 ends count → slice ≡ ends → part < length ends → start ≡ get_or (0 ∷ slice) part 0 → end ≡ get_or ends part end →
    (start ≤ end) × (end ≤ count)
row-bounds ends slice count part start end rise is h start_is end_is =
    let both = row-ends 0 ends count part rise h in
    let first = start_is ∙ ap (λ x. get_or (0 ∷ x) part 0) is in
    let last = get_or_read ends part end h end_is 0 in
    (omega (arith, both.0, first, last), omega (arith, both.1, last))

pub row-is : (ends slice : List ℕ) (list edges : List Edge) (now : List (List Edge)) (part start end : ℕ) → rows_from 0 ends list ≡ now → slice ≡ ends → edges ≡ list → part < length ends →
    start ≡ get_or (0 ∷ slice) part 0 → end ≡ get_or ends part end → slice_range edges start end ≡ row_at now part
row-is ends slice list edges now part start end view is edges_is h start_is end_is =
    let first = start_is ∙ ap (λ x. get_or (0 ∷ x) part 0) is in
    let last = get_or_read ends part end h end_is 0 in
    ap (λ x. slice_range x start end) edges_is
    ∙ (ap (λ n. slice_range list n end) first
    ∙ (ap (λ n. slice_range list (get_or (0 ∷ ends) part 0) n) last
    ∙ (row-read 0 ends list part h ∙ ap (λ rows. row_at rows part) view)))

-- ---- counting
pub counted-more : (part : ℕ → Atom) (left : List Atom) (i : ℕ) (d : Atom) (old before after : List ℕ) → i < length left → MoreCounted part (take i left) old before →
    ((k n : ℕ) → get_or before k 0 ≡ capped n → get_or after k 0 ≡ capped (n + one (same (part k) (get_or left i d)))) → MoreCounted part (take (i + 1) left) old after
counted-more part left i d old before after h so_far more = λ k n is.
    let count = count-append (same (part k)) (take i left) (get_or left i d ∷ []) in
    let all : n + count_of (same (part k)) (take i left) + one (same (part k) (get_or left i d)) ≡ n + count_of (same (part k)) (take i left ++ get_or left i d ∷ []) = omega (arith, count) in
    more k (n + count_of (same (part k)) (take i left)) (so_far k n is)
    ∙ (ap capped all ∙ ap (λ xs. capped (n + count_of (same (part k)) xs)) (sym (take_more left i d h)))

pub counted-same : (part : ℕ → Atom) (left : List Atom) (i : ℕ) (d : Atom) (old before : List ℕ) → i < length left → ((k : ℕ) → same (part k) (get_or left i d) ≡ false) →
    MoreCounted part (take i left) old before → MoreCounted part (take (i + 1) left) old before
counted-same part left i d old before h never so_far =
    counted-more part left i d old before before h so_far (λ k n is. is ∙ rw (never k) (ap capped (sym (add-zero n))))

pub counted-left : {T : Type 0} (part : ℕ → Atom) (cs : List (Constraint T)) (i : ℕ) (d : Constraint T) (left : List Atom) (before after : List ℕ) → i < length cs → left ≡ (get_or cs i d).left.items →
    AreCounted part (links_of 0 (take i cs)) before → MoreCounted part left before after → AreCounted part (links_of 0 (take (i + 1) cs)) after
counted-left {T} part cs i d left before after h is so_far more = λ k.
    let last = get_or cs i d in
    let early = edges_at (part k) (links_of 0 (take i cs)) in
    let own = edges_at (part k) (left_links i last.right last.left.items) in
    let size = ap length (edges_at-links_more (part k) cs i d h) ∙ length-append early own in
    let count = count-left (part k) i last.right last.left.items ∙ ap (count_of (same (part k))) (sym is) in
    let all : length early + count_of (same (part k)) left ≡ length (edges_at (part k) (links_of 0 (take (i + 1) cs))) = omega (arith, size, count) in
    more k (length early) (so_far k) ∙ ap capped all

-- ---- where rows begin

-- ---- rows without edges, with room for these counts
abbrev pub no_edges : Edge → List ℕ → List PartRow
no_edges e [] = []
no_edges e (count ∷ counts) = record { edges = []; free = replicate count e } ∷ no_edges e counts

end-low : (start : ℕ) (counts : List ℕ) → start ≤ 2 ^ 64 - 1 → start ≤ end_from start counts
end-low start [] h = omega arith
end-low start (count ∷ counts) h =
    let rest = end-low (capped (start + count)) counts (omega arith) in
    omega (arith, rest, h)

exact : (start count : ℕ) (counts : List ℕ) → end_from (capped (start + count)) counts < 2 ^ 64 - 1 → capped (start + count) ≡ start + count
exact start count counts h =
    let low = end-low (capped (start + count)) counts (omega arith) in
    omega (arith, low, h)

cursors-empty : (e : Edge) (start : ℕ) (counts : List ℕ) → end_from start counts < 2 ^ 64 - 1 → starts_from start counts ≡ cursors_from start (no_edges e counts)
cursors-empty e start [] h = refl
cursors-empty e start (count ∷ counts) h =
    let is = exact start count counts h in
    let len = length-replicate count e in
    let next : start + 0 + length (replicate count e) ≡ capped (start + count) = omega (arith, is, len) in
    let first : start + 0 ≡ start = add-zero start in
    ap (λ x. start ∷ x) (cursors-empty e (capped (start + count)) counts h)
    ∙ (ap (λ n. start ∷ cursors_from n (no_edges e counts)) (sym next)
    ∙ ap (λ n. n ∷ cursors_from (start + 0 + length (replicate count e)) (no_edges e counts)) (sym first))

list-empty : (e : Edge) (start n : ℕ) (counts : List ℕ) → end_from start counts < 2 ^ 64 - 1 → start + n ≡ end_from start counts → replicate n e ≡ list_of (no_edges e counts)
list-empty e start n [] h is = let none : n ≡ 0 = omega (arith, is) in ap (λ m. replicate m e) none
list-empty e start n (count ∷ counts) h is =
    let sum = exact start count counts h in
    let low = end-low (capped (start + count)) counts (omega arith) in
    let parts : count + (n - count) ≡ n = omega (arith, is, sum, low) in
    let rest = list-empty e (capped (start + count)) (n - count) counts h (omega (arith, is, sum, low)) in
    ap (λ m. replicate m e) (sym parts) ∙ (sym (replicate-append-replicate count (n - count) e) ∙ ap (λ x. replicate count e ++ x) rest)

have-empty : (part : ℕ → Atom) (k : ℕ) (links : List Link) (e : Edge) (start : ℕ) (counts : List ℕ) → end_from start counts < 2 ^ 64 - 1 →
    ((i : ℕ) → get_or counts i 0 ≡ capped (length (edges_at (part (k + i)) links))) → HaveEdges part k [] links (no_edges e counts)
have-empty part k links e start [] h each = tt
have-empty part k links e start (count ∷ counts) h each =
    let sum = exact start count counts h in
    let low = end-low (capped (start + count)) counts (omega arith) in
    let here : count ≡ capped (length (edges_at (part k) links)) = each 0 ∙ ap (λ n. capped (length (edges_at (part n) links))) (add-zero k) in
    let len = length-replicate count e in (
      refl,
      omega (arith, len, here, sum, low, h),
      have-empty part (suc k) links e (capped (start + count)) counts h
          (λ i. let next : k + suc i ≡ suc k + i = omega arith in each (suc i) ∙ ap (λ n. capped (length (edges_at (part n) links))) next),
    )

pub filled-empty : (part : ℕ → Atom) (links : List Link) (e : Edge) (counts cursors : List ℕ) (end : ℕ) (list : List Edge) → ((k : ℕ) → get_or counts k 0 ≡ capped (length (edges_at (part k) links))) →
    cursors ≡ starts_from 0 counts → end ≡ end_from 0 counts → list ≡ replicate end e → length list < 2 ^ 63 → AreFilled part [] links cursors list
filled-empty part links e counts cursors end list each cursors_is end_is list_is small =
    let len = ap length list_is ∙ length-replicate end e in
    let low : end_from 0 counts < 2 ^ 64 - 1 = omega (arith, len, end_is, small) in
    record {
      rows = no_edges e counts;
      have = have-empty part 0 links e 0 counts low (λ i. let next : i ≡ 0 + i = omega arith in each i ∙ ap (λ n. capped (length (edges_at (part n) links))) next);
      cursors_are = cursors_is ∙ cursors-empty e 0 counts low;
      list_is = list_is ∙ list-empty e 0 end counts low (omega (arith, end_is));
    }

-- ---- one more edge
take-one : (from : Atom) (l : Link) (done left : List Link) → same from l.from ≡ true →
    (edges_at from (done ++ l ∷ []) ≡ edges_at from done ++ edge l.by l.to ∷ []) × (edges_at from (l ∷ left) ≡ edge l.by l.to ∷ edges_at from left)
take-one from l done left t = (edges_at-append from done (l ∷ []) ∙ rw t refl, rw t refl)

skip-one : (from : Atom) (l : Link) (done left : List Link) → same from l.from ≡ false →
    (edges_at from (done ++ l ∷ []) ≡ edges_at from done) × (edges_at from (l ∷ left) ≡ edges_at from left)
skip-one from l done left t = (edges_at-append from done (l ∷ []) ∙ rw t (append-nil (edges_at from done)), rw t refl)

-- the rows of parts that it does not come from
others : (part : ℕ → Atom) (k : ℕ) (l : Link) (done left : List Link) (rows : List PartRow) → ((j : ℕ) → k ≤ j → same (part j) l.from ≡ false) →
    HaveEdges part k done (l ∷ left) rows → HaveEdges part k (done ++ l ∷ []) left rows
others part k l done left [] apart have = tt
others part k l done left (row ∷ rows) apart have =
    let skip = skip-one (part k) l done left (apart k (omega arith)) in
    (have.0 ∙ sym skip.0, have.1 ∙ ap length skip.1, others part (suc k) l done left rows (λ j h. apart j (omega (arith, h))) have.2)

abbrev put : List PartRow → ℕ → Edge → List PartRow
put [] at e = []
put (row ∷ rows) zero e = record { edges = row.edges ++ e ∷ []; free = drop 1 row.free } ∷ rows
put (row ∷ rows) (suc at) e = row ∷ put rows at e

abbrev free_at : List PartRow → ℕ → ℕ
free_at [] at = 0
free_at (row ∷ rows) zero = length row.free
free_at (row ∷ rows) (suc at) = free_at rows at

-- parts with different numbers are not the same
abbrev pub AreApart : (part : ℕ → Atom) → Type 0
AreApart part = (i j : ℕ) → same (part i) (part j) ≡ nat_eq i j

apart : (i j : ℕ) → (i ≡ j → ⊥) → nat_eq i j ≡ false
apart i j ne = go (nat_eq i j) refl
  where
    go : (t : Bool) → nat_eq i j ≡ t → nat_eq i j ≡ false
    go true e = absurd (ne (eqb-true i j e))
    go false e = e

module _ (part : ℕ → Atom) (are_apart : AreApart part) (n by : ℕ) (to : Atom) (done left : List Link) where
  abbrev here : Link
  here = link (part n) by to

  not-here : (j : ℕ) → (j ≡ n → ⊥) → same (part j) (part n) ≡ false
  not-here j ne = are_apart j n ∙ apart j n ne

  put-have : (k at : ℕ) (rows : List PartRow) → n ≡ k + at → at < length rows → HaveEdges part k done (here ∷ left) rows → HaveEdges part k (done ++ here ∷ []) left (put rows at (edge by to))
  put-have k at [] e h have = absurd (omega (arith, h))
  put-have k zero (row ∷ rows) e h have =
      let is : k ≡ n = omega (arith, e) in
      let one = take-one (part k) here done left (are_apart k n ∙ eq-eqb k n is) in
      let len = length-drop 1 row.free in
      let all : length row.free ≡ suc (length (edges_at (part k) left)) = have.1 ∙ ap length one.1 in
      (ap (λ x. x ++ edge by to ∷ []) have.0 ∙ sym one.0, omega (arith, len, all), others part (suc k) here done left rows (λ j lt. not-here j (λ same. omega (arith, same, is, lt))) have.2)
  put-have k (suc at) (row ∷ rows) e h have =
      let skip = skip-one (part k) here done left (not-here k (λ same. omega (arith, same, e))) in
      (have.0 ∙ sym skip.0, have.1 ∙ ap length skip.1, put-have (suc k) at rows (omega (arith, e)) (omega (arith, h)) have.2)

  has-free : (k at : ℕ) (rows : List PartRow) → n ≡ k + at → at < length rows → HaveEdges part k done (here ∷ left) rows → 0 < free_at rows at
  has-free k at [] e h have = absurd (omega (arith, h))
  has-free k zero (row ∷ rows) e h have =
      let is : k ≡ n = omega (arith, e) in
      let one = take-one (part k) here done left (are_apart k n ∙ eq-eqb k n is) in
      let all : length row.free ≡ suc (length (edges_at (part k) left)) = have.1 ∙ ap length one.1 in
      omega (arith, all)
  has-free k (suc at) (row ∷ rows) e h have = has-free (suc k) at rows (omega (arith, e)) (omega (arith, h)) have.2

cursors-count : (start : ℕ) (rows : List PartRow) → length (cursors_from start rows) ≡ length rows
cursors-count start [] = refl
cursors-count start (row ∷ rows) = ap suc (cursors-count (start + length row.edges + length row.free) rows)

put-cursors : (start at : ℕ) (rows : List PartRow) (e : Edge) → 0 < free_at rows at →
    set (cursors_from start rows) at (get_or (cursors_from start rows) at 0 + 1) ≡ cursors_from start (put rows at e)
put-cursors start at [] e h = absurd (omega (arith, h))
put-cursors start zero (row ∷ rows) e h =
    let len = length_push row.edges e in
    let fewer = length-drop 1 row.free in
    let first : start + length row.edges + 1 ≡ start + length (row.edges ++ e ∷ []) = omega (arith, len) in
    let next : start + length row.edges + length row.free ≡ start + length (row.edges ++ e ∷ []) + length (drop 1 row.free) = omega (arith, len, fewer, h) in
    ap (λ m. m ∷ cursors_from (start + length row.edges + length row.free) rows) first
    ∙ ap (λ m. (start + length (row.edges ++ e ∷ [])) ∷ cursors_from m rows) next
put-cursors start (suc at) (row ∷ rows) e h = ap (λ x. (start + length row.edges) ∷ x) (put-cursors (start + length row.edges + length row.free) at rows e h)

join-three : (a b c d : List Edge) → a ++ (b ++ (c ++ d)) ≡ ((a ++ b) ++ c) ++ d
join-three a b c d = sym (append_assoc (a ++ b) c d ∙ append_assoc a b (c ++ d))

put-list : (before : List Edge) (start at : ℕ) (rows : List PartRow) (e : Edge) → length before ≡ start → 0 < free_at rows at →
    set (before ++ list_of rows) (get_or (cursors_from start rows) at 0) e ≡ before ++ list_of (put rows at e)
put-list before start at [] e len h = absurd (omega (arith, h))
put-list before start zero (row ∷ rows) e len h = go row.free refl
  where
    both : length (before ++ row.edges) ≡ start + length row.edges
    both = length-append before row.edges ∙ ap (λ n. n + length row.edges) len

    go : (free : List Edge) → row.free ≡ free →
        set (before ++ (row.edges ++ (row.free ++ list_of rows))) (start + length row.edges) e ≡ before ++ ((row.edges ++ e ∷ []) ++ (drop 1 row.free ++ list_of rows))
    go [] is = let none = ap length is in absurd (omega (arith, none, h))
    go (f ∷ free) is =
        rw is
        (ap (λ x. set x (start + length row.edges) e) (sym (append_assoc before row.edges (f ∷ (free ++ list_of rows))))
        ∙ (set_at (before ++ row.edges) f (free ++ list_of rows) e (start + length row.edges) both
        ∙ (append_assoc before row.edges (e ∷ (free ++ list_of rows))
        ∙ ap (λ x. before ++ x) (sym (append_assoc row.edges (e ∷ []) (free ++ list_of rows))))))
put-list before start (suc at) (row ∷ rows) e len h =
    let early = (before ++ row.edges) ++ row.free in
    let len' : length early ≡ start + length row.edges + length row.free =
    length-append (before ++ row.edges) row.free ∙ ap (λ n. n + length row.free) (length-append before row.edges ∙ ap (λ n. n + length row.edges) len) in
    let cursor = get_or (cursors_from (start + length row.edges + length row.free) rows) at 0 in
    ap (λ x. set x cursor e) (join-three before row.edges row.free (list_of rows))
    ∙ (put-list early (start + length row.edges + length row.free) at rows e len' h
    ∙ sym (join-three before row.edges row.free (list_of (put rows at e))))

cursor-inside : (start at : ℕ) (rows : List PartRow) → 0 < free_at rows at → get_or (cursors_from start rows) at 0 < start + length (list_of rows)
cursor-inside start at [] h = absurd (omega (arith, h))
cursor-inside start zero (row ∷ rows) h =
    let len = length-append row.edges (row.free ++ list_of rows) in
    let len' = length-append row.free (list_of rows) in
    omega (arith, len, len', h)
cursor-inside start (suc at) (row ∷ rows) h =
    let len = length-append row.edges (row.free ++ list_of rows) in
    let len' = length-append row.free (list_of rows) in
    let rest = cursor-inside (start + length row.edges + length row.free) at rows h in
    omega (arith, len, len', rest)

module _ (part : ℕ → Atom) (done left : List Link) (cursors : List ℕ) (list : List Edge) where
  pub filled-skip : (l : Link) → ((j : ℕ) → same (part j) l.from ≡ false) → AreFilled part done (l ∷ left) cursors list → AreFilled part (done ++ l ∷ []) left cursors list
  filled-skip l never filled = record {
    rows = filled.rows;
    have = others part 0 l done left filled.rows (λ j h. never j) filled.have;
    cursors_are = filled.cursors_are;
    list_is = filled.list_is;
  }

  module _ (are_apart : AreApart part) (n by : ℕ) (to : Atom) (h : n < length cursors) (filled : AreFilled part done (link (part n) by to ∷ left) cursors list) where
    inside : n < length filled.rows
    inside = let len = ap length filled.cursors_are ∙ cursors-count 0 filled.rows in omega (arith, len, h)

    free : 0 < free_at filled.rows n
    free = has-free part are_apart n by to done left 0 n filled.rows (omega arith) inside filled.have

    pub filled-inside : get_or cursors n 0 < length list
    filled-inside =
        let lt = cursor-inside 0 n filled.rows free in
        let cursor = ap (λ x. get_or x n 0) filled.cursors_are in
        let len = ap length filled.list_is in
        omega (arith, lt, cursor, len)

    pub filled-put : (cursors' : List ℕ) (list' : List Edge) → cursors' ≡ set cursors n (get_or cursors n 0 + 1) → list' ≡ set list (get_or cursors n 0) (edge by to) →
        AreFilled part (done ++ link (part n) by to ∷ []) left cursors' list'
    filled-put cursors' list' cursors_is list_is = record {
      rows = put filled.rows n (edge by to);
      have = put-have part are_apart n by to done left 0 n filled.rows (omega arith) inside filled.have;
      cursors_are = cursors_is ∙ (ap (λ x. set x n (get_or x n 0 + 1)) filled.cursors_are ∙ put-cursors 0 n filled.rows (edge by to) free);
      list_is = list_is
          ∙ (ap (λ x. set x (get_or cursors n 0) (edge by to)) filled.list_is
          ∙ (ap (λ x. set (list_of filled.rows) (get_or x n 0) (edge by to)) filled.cursors_are ∙ put-list [] 0 n filled.rows (edge by to) refl free));
    }

-- ---- once all are full
ends-rise : (from start count : ℕ) (rows : List PartRow) → from ≤ start → start + length (list_of rows) ≤ count → AreEnds from (cursors_from start rows) count
ends-rise from start count [] h fits = tt
ends-rise from start count (row ∷ rows) h fits =
    let len = length-append row.edges (row.free ++ list_of rows) ∙ ap (λ n. length row.edges + n) (length-append row.free (list_of rows)) in
    (omega (arith, h), omega (arith, len, fits), ends-rise (start + length row.edges) (start + length row.edges + length row.free) count rows (omega arith) (omega (arith, len, fits)))

pub filled-ends : (part : ℕ → Atom) (done left : List Link) (cursors : List ℕ) (list : List Edge) → AreFilled part done left cursors list → AreEnds 0 cursors (length list)
filled-ends part done left cursors list filled =
    let len = ap length filled.list_is in
    subst (λ x. AreEnds 0 x (length list)) (sym filled.cursors_are) (ends-rise 0 0 (length list) filled.rows (omega arith) (omega (arith, len)))

nothing : (xs : List Edge) → length xs ≡ 0 → xs ≡ []
nothing [] e = refl
nothing (x ∷ xs) e = absurd (omega (arith, e))

module _ (done : List Link) (before : List Edge) (start : ℕ) (row : PartRow) (rows : List PartRow) (len : length before ≡ start) (full : length row.free ≡ 0) where
  free-none : row.free ≡ []
  free-none = nothing row.free full

  next-start : start + length row.edges + length row.free ≡ start + length row.edges
  next-start = omega (arith, full)

  next-list : before ++ list_of (row ∷ rows) ≡ (before ++ row.edges) ++ list_of rows
  next-list = ap (λ x. before ++ (row.edges ++ (x ++ list_of rows))) free-none ∙ sym (append_assoc before row.edges (list_of rows))

  next-long : length (before ++ row.edges) ≡ start + length row.edges
  next-long = length-append before row.edges ∙ ap (λ n. n + length row.edges) len

  first-row : slice_range (before ++ list_of (row ∷ rows)) start (start + length row.edges) ≡ row.edges
  first-row =
      let size : start + length row.edges - start ≡ length row.edges = omega arith in
      ap (λ n. take n (drop start (before ++ list_of (row ∷ rows)))) size
      ∙ (ap (take (length row.edges)) (drop_at before (list_of (row ∷ rows)) start len)
      ∙ take_at row.edges (row.free ++ list_of rows) (length row.edges) refl)

full-row : (part : ℕ → Atom) (k : ℕ) (done : List Link) (before : List Edge) (start : ℕ) (rows : List PartRow) → length before ≡ start → HaveEdges part k done [] rows → (i : ℕ) → i < length rows →
    row_at (rows_from start (cursors_from start rows) (before ++ list_of rows)) i ≡ edges_at (part (k + i)) done
full-row part k done before start [] len have i h = absurd (omega (arith, h))
full-row part k done before start (row ∷ rows) len have zero h =
    first-row done before start row rows len have.1 ∙ (have.0 ∙ ap (λ n. edges_at (part n) done) (sym (add-zero k)))
full-row part k done before start (row ∷ rows) len have (suc i) h =
    let e : suc k + i ≡ k + suc i = omega arith in
    ap (λ n. row_at (rows_from (start + length row.edges) (cursors_from n rows) (before ++ list_of (row ∷ rows))) i) (next-start done before start row rows len have.1)
    ∙ (ap (λ x. row_at (rows_from (start + length row.edges) (cursors_from (start + length row.edges) rows) x) i) (next-list done before start row rows len have.1)
    ∙ (full-row part (suc k) done (before ++ row.edges) (start + length row.edges) rows (next-long done before start row rows len have.1) have.2 i (omega (arith, h))
    ∙ ap (λ n. edges_at (part n) done) e))

-- the edges of a part below the count, and those of one past it
pub filled-row : (part : ℕ → Atom) (done : List Link) (cursors : List ℕ) (list : List Edge) (k : ℕ) → AreFilled part done [] cursors list → (length cursors ≤ k → edges_at (part k) done ≡ []) →
    row_at (rows_from 0 cursors list) k ≡ edges_at (part k) done
filled-row part done cursors list k filled past = go (cases_lt k (length cursors))
  where
    count : length cursors ≡ length filled.rows
    count = ap length filled.cursors_are ∙ cursors-count 0 filled.rows

    go : (k < length cursors) ⊎ (length cursors ≤ k) → row_at (rows_from 0 cursors list) k ≡ edges_at (part k) done
    go (inl h) =
        let e : 0 + k ≡ k = omega arith in
        ap (λ x. row_at (rows_from 0 x list) k) filled.cursors_are
        ∙ (ap (λ x. row_at (rows_from 0 (cursors_from 0 filled.rows) x) k) filled.list_is
        ∙ (full-row part 0 done [] 0 filled.rows refl filled.have k (omega (arith, h, count)) ∙ ap (λ n. edges_at (part n) done) e))
    go (inr h) = let len = rows-count 0 cursors list in row_at-past (rows_from 0 cursors list) k (omega (arith, len, h)) ∙ sym (past h)

-- ---- the links of the first constraints and of a part of the next one
abbrev pub done_to : {T : Type 0} → List (Constraint T) → (by : ℕ) → Atom → List Atom → (i : ℕ) → List Link
done_to cs by to left i = links_of 0 (take by cs) ++ left_links by to (take i left)

abbrev pub left_from : {T : Type 0} → List (Constraint T) → (by : ℕ) → Atom → List Atom → (i : ℕ) → List Link
left_from cs by to left i = left_links by to (drop i left) ++ links_of (by + 1) (drop (by + 1) cs)

module _ {T : Type 0} (part : ℕ → Atom) (cs : List (Constraint T)) (by : ℕ) (to : Atom) (left : List Atom) (cursors : List ℕ) (list : List Edge) where
  pub left-ends : (d : Constraint T) (i : ℕ) → by < length cs → to ≡ (get_or cs by d).right → left ≡ (get_or cs by d).left.items → length left ≤ i → AreFilled part (done_to cs by to left i) (left_from cs by to left i) cursors list →
      AreFilled part (links_of 0 (take (by + 1) cs)) (links_of (by + 1) (drop (by + 1) cs)) cursors list
  left-ends d i h to_is left_is all filled =
      let done : done_to cs by to left i ≡ links_of 0 (take (by + 1) cs) =
      ap (λ x. links_of 0 (take by cs) ++ left_links by to x) (take_all i left all)
      ∙ (ap (λ x. links_of 0 (take by cs) ++ left_links by to x) left_is
      ∙ (ap (λ x. links_of 0 (take by cs) ++ left_links by x (get_or cs by d).left.items) to_is ∙ sym (links_of-more cs by d h))) in
      let rest : left_from cs by to left i ≡ links_of (by + 1) (drop (by + 1) cs) = ap (λ x. left_links by to x ++ links_of (by + 1) (drop (by + 1) cs)) (drop_all i left all) in
      subst (λ x. AreFilled part x (links_of (by + 1) (drop (by + 1) cs)) cursors list) done
      (subst (λ x. AreFilled part (done_to cs by to left i) x cursors list) rest filled)

  -- the next link, before it is done and after
  pub left-next : (i : ℕ) (d : Atom) → i < length left → AreFilled part (done_to cs by to left i) (left_from cs by to left i) cursors list →
      AreFilled part (done_to cs by to left i) (link (get_or left i d) by to ∷ left_from cs by to left (i + 1)) cursors list
  left-next i d h filled =
      subst (λ x. AreFilled part (done_to cs by to left i) x cursors list) (ap (λ x. left_links by to x ++ links_of (by + 1) (drop (by + 1) cs)) (drop_more left i d h)) filled

  pub left-done : (i : ℕ) (d : Atom) → i < length left → AreFilled part (done_to cs by to left i ++ link (get_or left i d) by to ∷ []) (left_from cs by to left (i + 1)) cursors list →
      AreFilled part (done_to cs by to left (i + 1)) (left_from cs by to left (i + 1)) cursors list
  left-done i d h filled =
      let done : done_to cs by to left i ++ link (get_or left i d) by to ∷ [] ≡ done_to cs by to left (i + 1) =
      append_assoc (links_of 0 (take by cs)) (left_links by to (take i left)) (link (get_or left i d) by to ∷ [])
      ∙ (ap (λ x. links_of 0 (take by cs) ++ x) (sym (map-append (λ a. link a by to) (take i left) (get_or left i d ∷ [])))
      ∙ ap (λ x. links_of 0 (take by cs) ++ left_links by to x) (sym (take_more left i d h))) in
      subst (λ x. AreFilled part x (left_from cs by to left (i + 1)) cursors list) done filled

  -- ---- the atom there, by its number
  pub left-inside : AreApart part → (i n : ℕ) (d : Atom) → i < length left → get_or left i d ≡ part n → n < length cursors → AreFilled part (done_to cs by to left i) (left_from cs by to left i) cursors list →
      get_or cursors n 0 < length list
  left-inside are_apart i n d h is lt filled =
      filled-inside part (done_to cs by to left i) (left_from cs by to left (i + 1)) cursors list are_apart n by to lt
      (subst (λ a. AreFilled part (done_to cs by to left i) (link a by to ∷ left_from cs by to left (i + 1)) cursors list) is (left-next i d h filled))

  pub left-skip : (i : ℕ) (d : Atom) → i < length left → ((j : ℕ) → same (part j) (get_or left i d) ≡ false) → AreFilled part (done_to cs by to left i) (left_from cs by to left i) cursors list →
      AreFilled part (done_to cs by to left (i + 1)) (left_from cs by to left (i + 1)) cursors list
  left-skip i d h never filled =
      left-done i d h (filled-skip part (done_to cs by to left i) (left_from cs by to left (i + 1)) cursors list (link (get_or left i d) by to) never (left-next i d h filled))

pub left-put : {T : Type 0} (part : ℕ → Atom) (cs : List (Constraint T)) (by : ℕ) (to : Atom) (left : List Atom) (cursors : List ℕ) (list : List Edge) → AreApart part → (i n : ℕ) (d : Atom) → i < length left →
    get_or left i d ≡ part n → n < length cursors → AreFilled part (done_to cs by to left i) (left_from cs by to left i) cursors list → (cursors' : List ℕ) (list' : List Edge) →
    cursors' ≡ set cursors n (get_or cursors n 0 + 1) → list' ≡ set list (get_or cursors n 0) (edge by to) → AreFilled part (done_to cs by to left (i + 1)) (left_from cs by to left (i + 1)) cursors' list'
left-put part cs by to left cursors list are_apart i n d h is lt filled cursors' list' cursors_is list_is =
    left-done part cs by to left cursors' list' i d h
    (subst (λ a. AreFilled part (done_to cs by to left i ++ link a by to ∷ []) (left_from cs by to left (i + 1)) cursors' list') (sym is)
    (filled-put part (done_to cs by to left i) (left_from cs by to left (i + 1)) cursors list are_apart n by to lt
    (subst (λ a. AreFilled part (done_to cs by to left i) (link a by to ∷ left_from cs by to left (i + 1)) cursors list) is (left-next part cs by to left cursors list i d h filled))
    cursors' list' cursors_is list_is))

pub starts-count : (start : ℕ) (counts : List ℕ) → length (starts_from start counts) ≡ length counts
starts-count start [] = refl
starts-count start (count ∷ counts) = ap suc (starts-count (capped (start + count)) counts)

pub filled-all : {T : Type 0} (part : ℕ → Atom) (cs : List (Constraint T)) (by : ℕ) (cursors : List ℕ) (list : List Edge) → length cs ≤ by → AreFilledTo part cs by cursors list → AreFilled part (links_of 0 cs) [] cursors list
filled-all part cs by cursors list h filled =
    subst (λ xs. AreFilled part (links_of 0 xs) [] cursors list) (take_all by cs h)
    (subst (λ xs. AreFilled part (links_of 0 (take by cs)) (links_of by xs) cursors list) (drop_all by cs h) filled)

pub atom-below : {T : Type 0} (written unknowns : ℕ) (cs : List (Constraint T)) (by i : ℕ) (d : Constraint T) (left : List Atom) (e : Atom) → InRange written unknowns cs → by < length cs →
    left ≡ (get_or cs by d).left.items → i < length left → IsBelow written unknowns (get_or left i e)
atom-below {T} written unknowns cs by i d left e range h is lt = subst (λ xs. AreBelow written unknowns xs) (sym is) (range by d h).0 i e lt

pub written-numbers : AreApart Written
written-numbers i j = refl

pub unknown-numbers : AreApart Unknown
unknown-numbers i j = refl
