-- Handlers that wait until control comes to an offset that they cover.
use Rattle.std.proofs.Common.{◌≡◌, ◌≢◌, inl, inr, ℕ, suc, zero, ◌<◌, ◌≤◌, List, length, get_or, refl, ap, ◌∙◌, arith}
use Rattle.std.specs.List.{Contains}
use Rattle.std.proofs.lemmas.List.Sorted.{Contains-permutation, IsPermutation-sym}
use Rattle.std.proofs.lemmas.Bool.{cases_eq, cases_lt}
use Rattle.modules.specs.declared.declaration.Handler.{Handler}
use Rattle.verifier.specs.Coverage.{IsCoverage, IsSortedByStart, IsTree, Waits, leaf, left, total}
use Rattle.verifier.specs.declared.coverage.Coverage.{Coverage}
use Rattle.verifier.specs.declared.ends.MaximumTree.{MaximumTree}
use Rattle.verifier.proofs.Shared.{any_default}

-- ---- sums

total_same : (f g : ℕ → ℕ) (n : ℕ) → ((k : ℕ) → k < n → g k ≡ f k) → total g n ≡ total f n
total_same f g zero h = refl
total_same f g (suc n) h = omega (arith, total_same f g n (λ k b. h k (omega arith)), h n (omega arith))

-- one number got less, and the others are the same
pub total_less : (f g : ℕ → ℕ) (n index : ℕ) → index < n → g index < f index → ((k : ℕ) → k ≢ index → g k ≡ f k) → total g n < total f n
total_less f g zero index h less others = absurd (omega arith)
total_less f g (suc n) index h less others = elim (cases_eq n index) [
  | inl last ↦ omega (arith, total_same f g n (λ k b. others k (λ e. omega (arith, e, last))), ap f last, ap g last, less)
  | inr before ↦ omega (arith, total_less f g n index (omega (arith, before_last before)) less others, others n before)
]
  where
    before_last : n ≢ index → index < n
    before_last ne = grind arith

-- ---- in order

pub sorted_contains : (handlers sorted : List Handler) (h : Handler) → IsSortedByStart handlers sorted → Contains handlers h → Contains sorted h
sorted_contains handlers sorted h o c = Contains-permutation handlers sorted h o.same c

pub contains_sorted : (handlers sorted : List Handler) (h : Handler) → IsSortedByStart handlers sorted → Contains sorted h → Contains handlers h
contains_sorted handlers sorted h o c = Contains-permutation sorted handlers h (IsPermutation-sym handlers sorted o.same) c

-- ---- those that wait

-- a handler that covers an offset is there only if one of its end is
module _ (c : Coverage) (at : ℕ) (good : IsCoverage c) where
  -- the first number above the offset is the end of a handler that starts after it
  pub later_waits : (index : ℕ) (h : Handler) → index < length c.handlers.items → h ≡ get_or c.handlers.items index h → at < h.start → ((k : ℕ) → k < index → leaf c.ends k ≤ at) → (x : Handler) → Waits c x → x.start ≤ at → at < x.end → ⊥
  later_waits index h inside is later first x w low high = elim (good.ends w.index x w.inside w.there) [
    | inl zero_is ↦ omega (arith, zero_is, w.waits)
    | inr end ↦ elim (cases_lt w.index index) [
      | inl less ↦ omega (arith, first w.index less, end)
      | inr from ↦
          let rises = good.rises index w.index h from w.inside in
          let other : get_or c.handlers.items w.index h ≡ x = any_default c.handlers.items w.index h x w.inside ∙ w.there in
          omega (arith, rises, ap (λ (y : Handler). y.start) is, ap (λ (y : Handler). y.start) other, later, low)
    ]
  ]

  -- where no number is above the offset, each handler that waits ends before it
  pub all_over : ((k : ℕ) → k < c.ends.width → leaf c.ends k ≤ at) → (x : Handler) → Waits c x → x.end ≤ at
  all_over low x w = elim (good.ends w.index x w.inside w.there) [
    | inl zero_is ↦ absurd (omega (arith, zero_is, w.waits))
    | inr end ↦ omega (arith, end, low w.index (omega (arith, w.inside, good.room)))
  ]

  pub above_inside : (index : ℕ) → 0 < length c.handlers.items → at < leaf c.ends index → index < length c.handlers.items
  above_inside index some above = elim (cases_lt index (length c.handlers.items)) [
    | inl less ↦ less
    | inr from ↦ absurd (omega (arith, good.after some index from, above))
  ]

-- with offsets that none that waits covers
pub quieted : (c : Coverage) (quiet : ℕ × ℕ) → IsCoverage c → ((h : Handler) (at : ℕ) → Waits c h → quiet.0 ≤ at → at < quiet.1 → h.start ≤ at → at < h.end → ⊥) → IsCoverage (record { handlers = c.handlers; ends = c.ends; quiet = quiet })
quieted c quiet good none = record {
  rises = good.rises;
  tree = good.tree;
  room = good.room;
  ends = good.ends;
  after = good.after;
  quiet = λ h at w low high. none h at (record { index = w.index; inside = w.inside; there = w.there; waits = w.waits }) low high;
}

-- none from an offset on, where no number is above it
pub quiet_to_end : (c : Coverage) (from to : ℕ) → IsCoverage c → ((k : ℕ) → k < c.ends.width → leaf c.ends k ≤ from) → IsCoverage (record { handlers = c.handlers; ends = c.ends; quiet = (from, to) })
quiet_to_end c from to good low =
    quieted c (from, to) good (λ h at w after before starts ends. omega (arith, all_over c from good low h w, after, ends))

-- none from an offset on up to where the first handler starts whose number is above it
pub quiet_to_start : (c : Coverage) (from : ℕ) → IsCoverage c → (index : ℕ) (first : Handler) → index < length c.handlers.items → first ≡ get_or c.handlers.items index first → ((k : ℕ) → k < index → leaf c.ends k ≤ from)
    → IsCoverage (record { handlers = c.handlers; ends = c.ends; quiet = (from, first.start) })
quiet_to_start c from good index first inside is low =
    quieted c (from, first.start) good (λ h at w after before starts ends. later_waits c at good index first inside is before (λ k below. omega (arith, low k below, after)) h w starts ends)

-- a handler was taken: its number is 0
pub taken_left : (c new : Coverage) (index : ℕ) → new.ends.width ≡ c.ends.width → leaf new.ends index ≡ 0 → ((k : ℕ) → k ≢ index → leaf new.ends k ≡ leaf c.ends k) → index < c.ends.width → 0 < leaf c.ends index → left new < left c
taken_left c new index width changed others inside positive =
    let less = total_less (leaf c.ends) (leaf new.ends) c.ends.width index inside (omega (arith, changed, positive)) others in
    omega (arith, less, ap (total (leaf new.ends)) width)

-- a handler was taken, and no other one waits for it
pub taken_coverage : (c : Coverage) (ends : MaximumTree) (index : ℕ) → IsCoverage c → IsTree ends.nodes.items ends.width → ends.width ≡ c.ends.width → leaf ends index ≡ 0 → ((k : ℕ) → k ≢ index → leaf ends k ≡ leaf c.ends k) → IsCoverage (record { handlers = c.handlers; ends = ends; quiet = c.quiet })
taken_coverage c ends index good tree width changed others = record {
  rises = good.rises;
  tree = λ some. tree;
  room = omega (arith, good.room, width);
  ends = λ k h inside there. elim (cases_eq k index) [
    | inl same ↦ inl (ap (leaf ends) same ∙ changed)
    | inr ne ↦ elim (good.ends k h inside there) [ inl none ↦ inl (others k ne ∙ none) | inr end ↦ inr (others k ne ∙ end) ]
  ];
  after = λ some k from. elim (cases_eq k index) [
    | inl same ↦ ap (leaf ends) same ∙ changed
    | inr ne ↦ others k ne ∙ good.after some k from
  ];
  quiet = λ h at w after before. good.quiet h at (still h w) after before;
}
  where
    still : (h : Handler) → Waits (record { handlers = c.handlers; ends = ends; quiet = c.quiet }) h → Waits c h
    still h w = elim (cases_eq w.index index) [
      | inl same ↦ absurd (omega (arith, w.waits, ap (leaf ends) same, changed))
      | inr ne ↦ record { index = w.index; inside = w.inside; there = w.there; waits = omega (arith, w.waits, others w.index ne) }
    ]

-- ---- all wait

module _ (handlers : List Handler) (c : Coverage) (order : IsSortedByStart handlers c.handlers.items) where
  pub real_waits : (h : Handler) → Waits c h → Contains handlers h
  real_waits h w = contains_sorted handlers c.handlers.items h order (w.index, w.inside, w.there)

  pub all_wait : ((k : ℕ) (h : Handler) → k < length c.handlers.items → get_or c.handlers.items k h ≡ h → leaf c.ends k ≡ h.end) → (h : Handler) (at : ℕ) → Contains handlers h → at < h.end → Waits c h
  all_wait ends h at there high =
      let s = sorted_contains handlers c.handlers.items h order there in
      record { index = s.0; inside = s.1; there = s.2; waits = omega (arith, ends s.0 h s.1 s.2, high) }

  pub restarted : IsTree c.ends.nodes.items c.ends.width → length c.handlers.items ≤ c.ends.width → ((k : ℕ) (h : Handler) → k < length c.handlers.items → get_or c.handlers.items k h ≡ h → leaf c.ends k ≡ h.end) → ((k : ℕ) → length c.handlers.items ≤ k → leaf c.ends k ≡ 0) → c.quiet.1 ≡ 0 → IsCoverage c
  restarted tree room done after loud = record {
    rises = order.rises;
    tree = λ some. tree;
    room = room;
    ends = λ k h inside there. inr (done k h inside there);
    after = λ some. after;
    quiet = λ h at w from before. absurd (omega (arith, before, loud));
  }
