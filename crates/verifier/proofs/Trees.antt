-- Trees in which each node is the greater one of its children.
use Rattle.std.proofs.Common.{◌≡◌, ◌≢◌, ◌⊎◌, inl, inr, ℕ, suc, zero, ◌+◌, ◌*◌, ◌/◌, ◌<◌, ◌≤◌, List, length, refl, ap, ◌∙◌, arith}
use Rattle.verifier.specs.Coverage.{IsGreater, IsTree, doubled, node}

-- ---- widths

pub doubled_twice : (times n : ℕ) → doubled times (n + n) ≡ doubled times n + doubled times n
doubled_twice zero n = refl
doubled_twice (suc times) n = doubled_twice times (n + n)

doubled_most : (times n : ℕ) → n ≤ doubled times n
doubled_most zero n = omega arith
doubled_most (suc times) n = omega (arith, doubled_most times (n + n))

-- a power of two
pub record IsWidth (width : ℕ) : Type 0 where
  pub height : ℕ
  pub full : width ≡ doubled height 1

pub width_twice : (width : ℕ) → IsWidth width → IsWidth (width * 2)
width_twice width w = record { height = suc w.height; full = omega (arith, w.full, doubled_twice w.height 1) }

pub tree_positive : (nodes : List ℕ) (width : ℕ) → IsTree nodes width → 0 < width
tree_positive nodes width t = omega (arith, t.full, doubled_most t.height 1)

-- ---- the way down

-- a node that is greater than a number, where no earlier node of its level is
pub record IsDescent (nodes : List ℕ) (width low first n : ℕ) : Type 0 where
  pub rest : ℕ
  pub full : width ≡ doubled rest first
  pub positive : 0 < first
  pub from : first ≤ n
  pub to : n < first + first
  pub above : low < node nodes n
  pub before : (i : ℕ) → first ≤ i → i < n → node nodes i ≤ low

pub descent_start : (nodes : List ℕ) (width low : ℕ) → IsTree nodes width → low < node nodes 1 → IsDescent nodes width low 1 1
descent_start nodes width low t h = record {
  rest = t.height;
  full = t.full;
  positive = omega arith;
  from = omega arith;
  to = omega arith;
  above = h;
  before = λ i a b. absurd (omega arith);
}

pub record HasLevel (width first : ℕ) : Type 0 where
  pub rest : ℕ
  pub full : width ≡ doubled rest (first * 2)
  pub most : first + first ≤ width

twice : (n : ℕ) → n + n ≡ n * 2
twice n = omega arith

next_level : (width first rest : ℕ) → width ≡ doubled rest first → first < width → HasLevel width first
next_level width first zero e h = absurd (omega arith)
next_level width first (suc rest) e h = record { rest = rest; full = e ∙ ap (doubled rest) (twice first); most = omega (arith, e, doubled_most rest (first + first)) }

pub level_below : (nodes : List ℕ) (width low first n : ℕ) → IsDescent nodes width low first n → first < width → HasLevel width first
level_below nodes width low first n d h = next_level width first d.rest d.full h

halves : (i : ℕ) → (i ≡ i / 2 + i / 2) ⊎ (i ≡ i / 2 + i / 2 + 1)
halves i = grind arith

-- no earlier node of the next level is greater
below_before : (nodes : List ℕ) (width low first n : ℕ) → IsTree nodes width → IsDescent nodes width low first n → n < width → (i : ℕ) → first + first ≤ i → i < n + n → node nodes i ≤ low
below_before nodes width low first n t d inside i a b =
    let p = i / 2 in
    let g = t.greatest p (omega (arith, d.positive)) (omega arith) in
    let l = d.before p (omega arith) (omega arith) in
    elim (halves i) [
      | inl e ↦ omega (arith, ap (node nodes) e, g.low, l)
      | inr e ↦ omega (arith, ap (node nodes) e, g.high, l)
    ]

module _ (nodes : List ℕ) (width low first n : ℕ) (t : IsTree nodes width) (d : IsDescent nodes width low first n) (h : first < width) where
  level : HasLevel width first
  level = level_below nodes width low first n d h

  pub left_child : low < node nodes (n * 2) → IsDescent nodes width low (first * 2) (n * 2)
  left_child above = record {
    rest = level.rest;
    full = level.full;
    positive = omega (arith, d.positive);
    from = omega (arith, d.from);
    to = omega (arith, d.to);
    above = above;
    before = λ i a b. below_before nodes width low first n t d (omega (arith, d.to, level.most)) i (omega arith) (omega arith);
  }

  right_above : node nodes (n * 2) ≤ low → low < node nodes (n * 2 + 1)
  right_above small =
      let g = t.greatest n (omega (arith, d.positive, d.from)) (omega (arith, d.to, level.most)) in
      elim g.is [
        | inl e ↦ absurd (omega (arith, e, ap (node nodes) (twice n), small, d.above))
        | inr e ↦ omega (arith, e, ap (λ (k : ℕ). node nodes (k + 1)) (twice n), d.above)
      ]

  pub right_child : node nodes (n * 2) ≤ low → IsDescent nodes width low (first * 2) (n * 2 + 1)
  right_child small = record {
    rest = level.rest;
    full = level.full;
    positive = omega (arith, d.positive);
    from = omega (arith, d.from);
    to = omega (arith, d.to);
    above = right_above small;
    before = λ i a b. elim (last i b) [
      | inl less ↦ below_before nodes width low first n t d (omega (arith, d.to, level.most)) i (omega arith) (omega (arith, less))
      | inr is ↦ omega (arith, ap (node nodes) is, small)
    ];
  }
    where
      last : (i : ℕ) → i < n * 2 + 1 → (i < n * 2) ⊎ (i ≡ n * 2)
      last i b = grind arith

-- at the leaves
pub descent_end : (nodes : List ℕ) (width low first n : ℕ) → IsDescent nodes width low first n → width ≤ first → first ≡ width
descent_end nodes width low first n d h = omega (arith, h, d.full, doubled_most d.rest first)

-- no node is greater than the root
under_root : (nodes : List ℕ) (width : ℕ) → IsTree nodes width → (fuel i : ℕ) → i ≤ fuel → 0 < i → i < width + width → node nodes i ≤ node nodes 1
under_root nodes width t zero i h a b = absurd (omega arith)
under_root nodes width t (suc fuel) i h a b = elim (small i) [
  | inl one ↦ omega (arith, ap (node nodes) one)
  | inr more ↦
      let p = i / 2 in
      let up = under_root nodes width t fuel p (omega (arith, more)) (omega (arith, more)) (omega arith) in
      let g = t.greatest p (omega (arith, more)) (omega arith) in
      elim (halves i) [
        | inl e ↦ omega (arith, ap (node nodes) e, g.low, up)
        | inr e ↦ omega (arith, ap (node nodes) e, g.high, up)
      ]
]
  where
    small : (i : ℕ) → (i ≡ 1) ⊎ (i ≢ 1)
    small zero = inr (λ e. omega (arith, e))
    small (suc zero) = inl refl
    small (suc (suc k)) = inr (λ e. omega (arith, e))

pub none_above : (nodes : List ℕ) (width low : ℕ) → IsTree nodes width → node nodes 1 ≤ low → (k : ℕ) → k < width → node nodes (width + k) ≤ low
none_above nodes width low t h k b = omega (arith, h, under_root nodes width t (width + k) (width + k) (omega arith) (omega arith) (omega arith))

-- ---- the way up

-- a tree of which a leaf was changed, and the nodes above it are to be mended from the parent of a node on
pub record IsMending (old nodes : List ℕ) (width index number n : ℕ) : Type 0 where
  pub inside : n < width + width
  pub positive : 0 < n
  pub long : length nodes ≡ width + width
  pub greatest : (i : ℕ) → 0 < i → i < width → i ≢ n / 2 → IsGreater (node nodes i) (node nodes (i + i)) (node nodes (i + i + 1))
  pub changed : node nodes (width + index) ≡ number
  pub others : (k : ℕ) → k ≢ index → node nodes (width + k) ≡ node old (width + k)
