-- Private: handlers by the offsets that they cover: a tree over their ends, in the order of their starts.
-- Source: our own; a tree in which each node is the greater one of its children.
use Rattle.std.specs.Prelude.{◌≡◌, ℕ, zero, suc, ◌+◌, ◌≤◌, ◌<◌, List, length, slice_index_or, ◌⊎◌}
use Rattle.std.specs.List.Sorted.{IsNonDecreasingBy, IsPermutation}
use Rattle.modules.specs.declared.declaration.Handler.{Handler}
use Rattle.verifier.specs.declared.coverage.Coverage.{Coverage}
use Rattle.verifier.specs.declared.ends.MaximumTree.{MaximumTree}

-- ---- numbers

abbrev pub node : List ℕ → ℕ → ℕ
node nodes i = slice_index_or nodes i 0

-- a number of the tree
abbrev pub leaf : MaximumTree → ℕ → ℕ
leaf ends k = node ends.nodes.items (ends.width + k)

-- a number that is doubled this many times
abbrev pub doubled : ℕ → ℕ → ℕ
doubled zero n = n
doubled (suc times) n = doubled times (n + n)

-- the greater one of two numbers
pub record IsGreater (most one other : ℕ) : Type 0 where
  pub low : one ≤ most
  pub high : other ≤ most
  pub is : (most ≡ one) ⊎ (most ≡ other)

-- this many leaves, and above them nodes of which each is the greater one of its children
pub record IsTree (nodes : List ℕ) (width : ℕ) : Type 0 where
  pub height : ℕ
  pub full : width ≡ doubled height 1
  pub long : length nodes ≡ width + width
  pub greatest : (i : ℕ) → 0 < i → i < width → IsGreater (node nodes i) (node nodes (i + i)) (node nodes (i + i + 1))

-- ---- handlers

-- the same handlers in the order of their starts
pub record IsSortedByStart (handlers sorted : List Handler) : Type 0 where
  pub same : IsPermutation handlers sorted
  pub rises : IsNonDecreasingBy (λ handler. handler.start) sorted

-- a handler that waits
pub record Waits (c : Coverage) (h : Handler) : Type 0 where
  pub index : ℕ
  pub inside : index < length c.handlers.items
  pub there : slice_index_or c.handlers.items index h ≡ h
  pub waits : 0 < leaf c.ends index

-- handlers in the order of their starts, and for each its end or, where it waits no more, 0; and offsets that none that waits covers.
-- Where there is no handler, the tree is any one
pub record IsCoverage (c : Coverage) : Type 0 where
  pub rises : IsNonDecreasingBy (λ handler. handler.start) c.handlers.items
  pub tree : 0 < length c.handlers.items → IsTree c.ends.nodes.items c.ends.width
  pub room : length c.handlers.items ≤ c.ends.width
  pub ends : (k : ℕ) (h : Handler) → k < length c.handlers.items → slice_index_or c.handlers.items k h ≡ h → (leaf c.ends k ≡ 0) ⊎ (leaf c.ends k ≡ h.end)
  pub after : 0 < length c.handlers.items → (k : ℕ) → length c.handlers.items ≤ k → leaf c.ends k ≡ 0
  pub quiet : (h : Handler) (at : ℕ) → Waits c h → c.quiet.0 ≤ at → at < c.quiet.1 → h.start ≤ at → at < h.end → ⊥

-- the sum of the first numbers
abbrev pub total : (ℕ → ℕ) → ℕ → ℕ
total number zero = 0
total number (suc k) = total number k + number k

-- how many offsets the handlers that wait end at, summed: it gets less with each that is taken
abbrev pub left : Coverage → ℕ
left c = total (leaf c.ends) c.ends.width
