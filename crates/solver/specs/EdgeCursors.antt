-- Private: No public clause cites it. How rows of edges are filled: by counting how many edges each will have.
-- Source: our own; the order is that of a counting sort.
use Rattle.std.specs.Prelude.{◌≡◌, ℕ, suc, ◌+◌, ◌-◌, ◌^◌, List, [], ◌∷◌, ◌++◌, length, take, drop, min, slice_index_or}
use Rattle.solver.specs.Links.{Link, edges_at, links_of, same}
use Rattle.solver.specs.Looks.{count_of}
use Rattle.solver.specs.declared.edges.Edge.{Edge}
use Rattle.solver.specs.declared.constraints.Atom.{Atom}
use Rattle.solver.specs.declared.constraints.Constraint.{Constraint}

-- ---- counting: the number of edges from each part, but no more than fit into 64 bits
abbrev pub capped : ℕ → ℕ
capped n = min n (2 ^ 64 - 1)

abbrev pub AreCounted : (part : ℕ → Atom) → List Link → (counts : List ℕ) → Type 0
AreCounted part links counts = (k : ℕ) → slice_index_or counts k 0 ≡ capped (length (edges_at (part k) links))

abbrev pub MoreCounted : (part : ℕ → Atom) → List Atom → (old new : List ℕ) → Type 0
MoreCounted part left old new =
    (k n : ℕ) → slice_index_or old k 0 ≡ capped n → slice_index_or new k 0 ≡ capped (n + count_of (same (part k)) left)

-- where rows of these lengths begin, one after another from an index on, and where the last one ends
abbrev pub starts_from : (start : ℕ) → (counts : List ℕ) → List ℕ
starts_from start [] = []
starts_from start (count ∷ counts) = start ∷ starts_from (capped (start + count)) counts

abbrev pub end_from : (start : ℕ) → (counts : List ℕ) → ℕ
end_from start [] = start
end_from start (count ∷ counts) = end_from (capped (start + count)) counts

-- ---- filling: the edges that a row has, and what stands in the room for those to come
pub record PartRow : Type 0 where
  pub edges : List Edge
  pub free : List Edge

-- the rows in a list, and where the next edge of each goes
abbrev pub list_of : List PartRow → List Edge
list_of [] = []
list_of (row ∷ rows) = row.edges ++ (row.free ++ list_of rows)

abbrev pub cursors_from : (start : ℕ) → List PartRow → List ℕ
cursors_from start [] = []
cursors_from start (row ∷ rows) = (start + length row.edges) ∷ cursors_from (start + length row.edges + length row.free) rows

-- from a part on, each row has the edges of the first links, and room for those of the others
abbrev pub HaveEdges : (part : ℕ → Atom) → (k : ℕ) → (done left : List Link) → List PartRow → Type 0
HaveEdges part k done left [] = Unit {0}
HaveEdges part k done left (row ∷ rows) =
    (row.edges ≡ edges_at (part k) done) × (length row.free ≡ length (edges_at (part k) left)) × HaveEdges part (suc k) done left rows

pub record AreFilled (part : ℕ → Atom) (done left : List Link) (cursors : List ℕ) (list : List Edge) : Type 0 where
  pub rows : List PartRow
  pub have : HaveEdges part 0 done left rows
  pub cursors_are : cursors ≡ cursors_from 0 rows
  pub list_is : list ≡ list_of rows

-- the links of the first constraints are done
abbrev pub AreFilledTo : {T : Type 0} → (part : ℕ → Atom) → List (Constraint T) → (by : ℕ) → (cursors : List ℕ) → List Edge → Type 0
AreFilledTo part constraints by cursors list = AreFilled part (links_of 0 (take by constraints)) (links_of by (drop by constraints)) cursors list
