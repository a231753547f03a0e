-- A work list: a constraint was looked at, and what follows when no constraint waits.
use Rattle.std.proofs.Common.{◌≡◌, ◌≢◌, refl, sym, ap, ◌∙◌, subst, ℕ, zero, suc, min, ◌<◌, ◌≤◌, ◌+◌, ◌*◌, length, set, get_or, get_or-set_other, List, [], ◌∷◌, Bool, true, false, arith, nat_eq, ◌||◌, ◌⊎◌, inl, inr, ⊎_elim, Some}
use Rattle.std.specs.Prelude.{Contains, IsTrue, slice_get}
use Rattle.std.proofs.lemmas.Bool.{eqb-true, eqb-false, or_left, or_right, or_cases, eq-eqb}
use Rattle.std.proofs.lemmas.List.{length-set, set-get_or}
use Rattle.std.proofs.lemmas.List.Elements.{All-contains, All-set}
use Rattle.std.proofs.lemmas.Option.{same_Some}
use Rattle.std.specs.List.{list_any}
use Rattle.common.proofs.Elements.{none_in_nil, Contains-cons_cases, Contains-later}
use Rattle.labels.specs.Row.{has}
use Rattle.solver.specs.Links.{AreBelow, InRange, IsBelow}
use Rattle.solver.specs.Constraints.{Solved}
use Rattle.solver.specs.Looks.{AreLooks, is_element, looked_at, stands_left, unknowns_left, written_left}
use Rattle.solver.specs.Queue.{Added, AllSeeded, RightIsUnknown, flag}
use Rattle.solver.specs.Reach.{AreEdges, LeadsTo, ReachesBy, directly, onward, row_of}
use Rattle.solver.specs.Rows.{AreRows, AreSized, atom_has, has_at, left_has}
use Rattle.solver.specs.Work.{AreSoFar, IsWork, room}
use Rattle.solver.specs.declared.edges.Edges.{Edges}
use Rattle.solver.specs.declared.constraints.Atom.{Atom}
use Rattle.solver.specs.declared.constraints.Atom.TheVariants.{Unknown, Written}
use Rattle.solver.specs.declared.constraints.Constraint.{Constraint}
use Rattle.solver.proofs.Bits.{size, size-at_most, written_left-more}
use Rattle.solver.proofs.Comparing.{slice_get-at, slice_get-inside}
use Rattle.solver.proofs.Counting.{room-first, room-grows}
use Rattle.solver.proofs.Filling.{has_at-other, has_at-read, has_at-same}
use Rattle.solver.proofs.Meaning.{leads-part, part-leads}
use Rattle.solver.proofs.Queued.{looked-at_most, seeded-count}
use Rattle.solver.proofs.Solved.{list_any-has, list_any-only}
use Rattle.common.proofs.Cases.{by_test, contained_at}

pub true-false : {P : Type 0} → true ≡ false → P
true-false e = absurd (cc)

-- what a look at a constraint comes to
pub record IsLooked {T : Type 0} (cs : List (Constraint T)) (edges : Edges) (rows : List (List Bool)) (order : List ℕ) (rows' : List (List Bool)) (waits' : List Bool) (order' : List ℕ) : Type 0 where
  pub work : IsWork cs edges rows' waits' order' (length cs)
  pub longer : length order ≤ length order'
  pub less : length order' + room (written_left cs 0 (length edges.written)) edges.unknown rows' ≤
      length order + room (written_left cs 0 (length edges.written)) edges.unknown rows

-- the constraint that is read
pub read-right : {T : Type 0} (cs : List (Constraint T)) (i : ℕ) (c : Constraint T) → RightIsUnknown cs i → c ≡ get_or cs i c → slice_get cs i ≡ Some c
read-right cs i c r is = r.at ∙ ap Some (sym (is ∙ slice_get-at cs i r.constraint c r.at))

pub right-inside : {T : Type 0} (cs : List (Constraint T)) (written unknowns : ℕ) → InRange written unknowns cs → (i : ℕ) (c : Constraint T) (u : ℕ) → slice_get cs i ≡ Some c → c.right ≡ Unknown u → u < unknowns
right-inside {T} cs written unknowns range i c u at right =
    let below = (All-contains (λ (c : Constraint T). AreBelow written unknowns c.left.items × IsBelow written unknowns c.right) cs c range (contained_at cs i c at)).1 in
    subst (λ a. IsBelow written unknowns a) right below

pub led-inside : {T : Type 0} (cs : List (Constraint T)) (edges : Edges) → AreEdges cs edges → (u i v : ℕ) → LeadsTo edges (Unknown u) i (Unknown v) → i < length cs
led-inside cs edges are u i v step =
    let part = leads-part cs edges are (Unknown u) i (Unknown v) step in
    slice_get-inside cs i part.constraint part.at

module _ {T : Type 0} (cs : List (Constraint T)) (edges : Edges) (are : AreEdges cs edges) where
  abbrev most : ℕ
  most = written_left cs 0 (length edges.written)

  -- what reaches an unknown stands in a left side
  reached-stands : (n u : ℕ) → ReachesBy edges n u → IsTrue (stands_left cs n)
  reached-stands n u (directly by _ leads) =
      let part = leads-part cs edges are (Written n) by (Unknown u) leads in
      list_any-has (λ (c : Constraint T). list_any (is_element n) c.left.items) cs part.constraint (contained_at cs by part.constraint part.at)
      (list_any-has (is_element n) part.constraint.left.items (Written n) part.part (eq-eqb n n refl))
  reached-stands n u (onward by w _ r leads) = reached-stands n w r

  -- ---- a constraint was looked at
  module _ (range : InRange (length edges.written) (length edges.unknown) cs) (rows : List (List Bool)) (waits : List Bool) (order : List ℕ) (i : ℕ)
      (work : IsWork cs edges rows waits order i) (c : Constraint T) (at : slice_get cs i ≡ Some c) (u : ℕ) (right : c.right ≡ Unknown u)
      (d : List Bool) (row : List Bool) (row_length : length row ≤ length edges.written) (row_has : (n : ℕ) → has row n ≡ (has (get_or rows u d) n || left_has rows c.left.items n)) where
    abbrev old : List Bool
    old = get_or rows u d

    abbrev rows' : List (List Bool)
    rows' = set rows u row

    inside : u < length rows
    inside =
        let h = right-inside cs (length edges.written) (length edges.unknown) range i c u at right in
        let e = work.all in
        omega (arith, h, e)

    has-row : (n : ℕ) → has_at rows' u n ≡ (has_at rows u n || left_has rows c.left.items n)
    has-row n =
        has_at-same rows u n row inside
        ∙ (row_has n ∙ ap (λ b. b || left_has rows c.left.items n) (has_at-read rows u n d inside))

    has-left : (n : ℕ) → IsTrue (left_has rows c.left.items n) → IsTrue (has_at rows' u n)
    has-left n t = has-row n ∙ or_right (has_at rows u n) (left_has rows c.left.items n) t

    has-more : (w n : ℕ) → IsTrue (has_at rows w n) → IsTrue (has_at rows' w n)
    has-more w n t = by_test (nat_eq w u)
        (λ e. let is : w ≡ u = eqb-true w u e in
        subst (λ x. IsTrue (has_at rows' x n)) (sym is) (has-row n ∙ or_left (has_at rows u n) (left_has rows c.left.items n) (subst (λ x. IsTrue (has_at rows x n)) is t)))
        (λ e. has_at-other rows u w n row (eqb-false w u e) ∙ t)

    has-cases : (w n : ℕ) → IsTrue (has_at rows' w n) → IsTrue (has_at rows w n) ⊎ ((w ≡ u) × IsTrue (left_has rows c.left.items n))
    has-cases w n t = by_test (nat_eq w u)
        (λ e. let is : w ≡ u = eqb-true w u e in
        ⊎_elim (λ before. inl (subst (λ x. IsTrue (has_at rows x n)) (sym is) before)) (λ now. inr (is, now))
        (or_cases (has_at rows u n) (left_has rows c.left.items n) (sym (has-row n) ∙ subst (λ x. IsTrue (has_at rows' x n)) is t)))
        (λ e. inl (sym (has_at-other rows u w n row (eqb-false w u e)) ∙ t))

    leads : (a : Atom) → Contains c.left.items a → LeadsTo edges a i (Unknown u)
    leads a part = subst (λ r. LeadsTo edges a i r) right (part-leads cs edges are i c a at part)

    left-reaches : (n : ℕ) (a : Atom) → Contains c.left.items a → IsTrue (atom_has rows n a) → ReachesBy edges n u
    left-reaches n (Written m) part t =
        let is : n ≡ m = eqb-true n m t in
        directly i u (subst (λ k. LeadsTo edges (Written k) i (Unknown u)) (sym is) (leads (Written m) part))
    left-reaches n (Unknown w) part t = onward i w u (work.sound w n t) (leads (Unknown w) part)

    sound : (w n : ℕ) → IsTrue (has_at rows' w n) → ReachesBy edges n w
    sound w n t = ⊎_elim (λ before. work.sound w n before)
        (λ now. let part = list_any-only (atom_has rows n) c.left.items now.1 in
        subst (λ x. ReachesBy edges n x) (sym now.0) (left-reaches n part.0 part.1 part.2))
        (has-cases w n t)

    -- a constraint that does not wait fits, where its left side did not grow
    fits-still : (j : ℕ) (e : Constraint T) (v n : ℕ) → slice_get cs j ≡ Some e → e.right ≡ Unknown v → flag waits j ≡ false → IsTrue (left_has rows e.left.items n) → IsTrue (has_at rows' v n)
    fits-still j e v n at' right' off t = by_test (nat_eq j i)
        (λ same. let is : j ≡ i = eqb-true j i same in
        let here : e ≡ c = same_Some e c (sym at' ∙ (ap (slice_get cs) is ∙ at)) in
        let right_same : Unknown v ≡ Unknown u = sym right' ∙ (ap (λ (x : Constraint T). x.right) here ∙ right) in
        let v_is : v ≡ u = ap number right_same in
        subst (λ x. IsTrue (has_at rows' x n)) (sym v_is) (has-left n (subst (λ (x : Constraint T). IsTrue (left_has rows x.left.items n)) here t)))
        (λ other. has-more v n (work.settled j e v n at' right' (eqb-false j i other) off t))
      where
        number : Atom → ℕ
        number (Written m) = m
        number (Unknown w) = w

    -- no row grew
    work-kept : row ≡ old → IsWork cs edges rows' waits order (length cs)
    work-kept same = record {
      all = length-set rows u row ∙ work.all;
      sized = sized-kept;
      sound = sound;
      count = work.count;
      listed = work.listed;
      rights = work.rights;
      settled = λ j e v n at' right' _ off t. fits-still j e v n at' right' off
          (subst (λ (rs : List (List Bool)). IsTrue (left_has rs e.left.items n)) rows_same t);
    }
      where
        rows_same : rows' ≡ rows
        rows_same = ap (λ (r : List Bool). set rows u r) same ∙ set-get_or rows u d

        sized-kept : AreSized (length edges.written) rows'
        sized-kept = subst (λ (rs : List (List Bool)). AreSized (length edges.written) rs) (sym rows_same) work.sized

    -- the row of the right side grew, and the constraints with it on the left wait
    module _ (waits' : List Bool) (order' : List ℕ) (added : Added (row_of edges (Unknown u)) waits order waits' order') where
      still-off : (j : ℕ) → flag waits' j ≡ false → flag waits j ≡ false
      still-off j off = by_test (flag waits j) (λ t. true-false (sym (added.kept j t) ∙ off)) (λ e. e)

      left-kept : (j : ℕ) (e : Constraint T) (v n : ℕ) → slice_get cs j ≡ Some e → e.right ≡ Unknown v → flag waits' j ≡ false → IsTrue (left_has rows' e.left.items n) → IsTrue (left_has rows e.left.items n)
      left-kept j e v n at' right' off t =
          let part = list_any-only (atom_has rows' n) e.left.items t in
          list_any-has (atom_has rows n) e.left.items part.0 part.1 (atom part.0 part.1 part.2)
        where
          atom : (a : Atom) → Contains e.left.items a → IsTrue (atom_has rows' n a) → IsTrue (atom_has rows n a)
          atom (Written m) part t' = t'
          atom (Unknown w) part t' = ⊎_elim (λ before. before)
              (λ now. let there : LeadsTo edges (Unknown u) j (Unknown v) =
              subst (λ x. LeadsTo edges (Unknown x) j (Unknown v)) now.0 (subst (λ r. LeadsTo edges (Unknown w) j r) right' (part-leads cs edges are j e (Unknown w) at' part)) in
              true-false (sym (added.marked j v there) ∙ off))
              (has-cases w n t')

      work-grown : IsWork cs edges rows' waits' order' (length cs)
      work-grown = record {
        all = length-set rows u row ∙ work.all;
        sized = All-set (λ (r : List Bool). length r ≤ length edges.written) rows u row row_length work.sized;
        sound = sound;
        count = added.count ∙ work.count;
        listed = λ j t. ⊎_elim (λ before. added.waiting j (work.listed j before)) (λ now. now) (added.listed j t);
        rights = λ j h. ⊎_elim (λ before. work.rights j before)
            (λ now. let part = leads-part cs edges are (Unknown u) j (Unknown now.0) now.1 in
            record { constraint = part.constraint; at = part.at; unknown = now.0; right = part.right })
            (added.only j h);
        settled = λ j e v n at' right' _ off t. fits-still j e v n at' right' (still-off j off) (left-kept j e v n at' right' off t);
      }

    -- ---- the counts
    row-small : size row ≤ most
    row-small =
        let few = size-at_most cs 0 row (λ n t. subst (λ m. IsTrue (stands_left cs m)) (zero_plus n) (reached-stands n u (sound u n (has_at-same rows u n row inside ∙ t)))) in
        let more = written_left-more cs 0 (length row) (length edges.written) row_length in
        omega (arith, few, more)
      where
        zero_plus : (n : ℕ) → n ≡ 0 + n
        zero_plus n = omega arith

    room-after : size old < size row → room most edges.unknown rows' + length (row_of edges (Unknown u)) ≤ room most edges.unknown rows
    room-after more = room-grows most edges.unknown rows u row d inside work.all more row-small

    pub looked-kept : row ≡ old → IsLooked cs edges rows order rows' waits order
    looked-kept same =
        let room_is : room most edges.unknown rows' ≡ room most edges.unknown rows =
        ap (room most edges.unknown) (ap (λ (r : List Bool). set rows u r) same ∙ set-get_or rows u d) in
        record { work = work-kept same; longer = omega arith; less = omega (arith, room_is) }

    pub looked-grown : size old < size row → (waits' : List Bool) (order' : List ℕ) → Added (row_of edges (Unknown u)) waits order waits' order' → IsLooked cs edges rows order rows' waits' order'
    looked-grown more waits' order' added =
        let after = room-after more in
        let low = added.at_least in
        let high = added.at_most in
        record { work = work-grown waits' order' added; longer = low; less = omega (arith, after, high) }

  -- ---- the first and the last step
  pub work-first : (rows : List (List Bool)) (waits : List Bool) (order : List ℕ) → length rows ≡ length edges.unknown → AreSized (length edges.written) rows →
      ((u n : ℕ) → has_at rows u n ≡ false) → AllSeeded cs waits order → IsWork cs edges rows waits order (length cs)
  work-first rows waits order all sized none s = record {
    all = all;
    sized = sized;
    sound = λ u n t. true-false (sym t ∙ none u n);
    count = s.seeded.count;
    listed = s.seeded.listed;
    rights = s.seeded.rights;
    settled = λ i c u n at right _ off t. true-false (sym (s.all i (record { constraint = c; at = at; unknown = u; right = right })) ∙ off);
  }

  pub so-far-first : (rows : List (List Bool)) (waits : List Bool) (order : List ℕ) → AllSeeded cs waits order → AreSoFar cs edges rows order 0
  so-far-first rows waits order s =
      let count : size waits ≡ looked_at cs = seeded-count cs waits s.seeded.count s.seeded.marked s.all in
      let is = s.seeded.counted in
      let first = room-first cs most edges.unknown rows (λ k. are.row (Unknown k)) in
      record { at_least = omega (arith, count, is); at_most = omega (arith, count, is, first); greatest = omega arith }

  pub rows-last : (rows : List (List Bool)) (waits : List Bool) → IsWork cs edges rows waits [] (length cs) → AreRows edges rows
  rows-last rows waits work = record { all = work.all; sized = work.sized; sound = work.sound; complete = λ u n r. complete n u r }
    where
      off : (i : ℕ) → flag waits i ≡ false
      off i = by_test (flag waits i) (λ t. absurd (none_in_nil i (work.listed i t))) (λ e. e)

      fits : (i : ℕ) (c : Constraint T) (u n : ℕ) (a : Atom) → slice_get cs i ≡ Some c → c.right ≡ Unknown u → Contains c.left.items a → IsTrue (atom_has rows n a) → IsTrue (has_at rows u n)
      fits i c u n a at right part t =
          let inside = slice_get-inside cs i c at in
          work.settled i c u n at right (let ne : i ≢ length cs = omega (arith, inside) in ne) (off i) (list_any-has (atom_has rows n) c.left.items a part t)

      complete : (n u : ℕ) → ReachesBy edges n u → IsTrue (has_at rows u n)
      complete n u (directly by _ step) =
          let part = leads-part cs edges are (Written n) by (Unknown u) step in
          fits by part.constraint u n (Written n) part.at part.right part.part (eq-eqb n n refl)
      complete n u (onward by w _ r step) =
          let part = leads-part cs edges are (Unknown w) by (Unknown u) step in
          fits by part.constraint u n (Unknown w) part.at part.right part.part (complete n w r)

  -- the first that waited is taken
  pub work-next : (rows : List (List Bool)) (waits : List Bool) (order : List ℕ) (i : ℕ) → IsWork cs edges rows waits (i ∷ order) (length cs) → IsWork cs edges rows (set waits i false) order i
  work-next rows waits order i work = record {
    all = work.all;
    sized = work.sized;
    sound = work.sound;
    count = length-set waits i false ∙ work.count;
    listed = λ j t. by_test (nat_eq j i)
        (λ e. true-false (sym (subst (λ k. IsTrue (flag (set waits i false) k)) (eqb-true j i e) t) ∙ set-off waits i))
        (λ e. ⊎_elim (λ (is : i ≡ j). absurd (eqb-false j i e (sym is))) (λ later. later)
        (Contains-cons_cases i order j (work.listed j (sym (get_or-set_other waits i j false false (eqb-false j i e)) ∙ t))));
    rights = λ j h. work.rights j (Contains-later i order j h);
    settled = λ j c u n at right ne off t.
        let inside = slice_get-inside cs j c at in
        work.settled j c u n at right (let apart : j ≢ length cs = omega (arith, inside) in apart) (sym (get_or-set_other waits i j false false ne) ∙ off) t;
  }
    where
      set-off : (ws : List Bool) (k : ℕ) → flag (set ws k false) k ≡ false
      set-off [] k = refl
      set-off (b ∷ ws) zero = refl
      set-off (b ∷ ws) (suc k) = set-off ws k

-- ---- a number of looks that stays at the greatest one
pub looked-more : {T : Type 0} (cs : List (Constraint T)) (edges : Edges) (rows rows' : List (List Bool)) (i : ℕ) (order order' : List ℕ) (looks looks' : ℕ) →
    AreSoFar cs edges rows (i ∷ order) looks → looks' ≡ min (looks + 1) 18446744073709551615 → length cs ≤ 18446744073709551615 → length order ≤ length order' →
    length order' + room (written_left cs 0 (length edges.written)) edges.unknown rows' ≤ length order + room (written_left cs 0 (length edges.written)) edges.unknown rows →
    AreSoFar cs edges rows' order' looks'
looked-more cs edges rows rows' i order order' looks looks' so_far is fits longer less =
    let low = so_far.at_least in
    let high = so_far.at_most in
    let few = looked-at_most cs in
    let len : length (i ∷ order) ≡ length order + 1 = omega arith in
    record {
      at_least = omega (arith, low, is, fits, few, longer, len);
      at_most = omega (arith, high, is, less, len);
      greatest = omega (arith, is);
    }

-- at the end
abbrev pub solved : List (List ℕ) → ℕ → Solved
solved reached looks = record { reached = reached; looks = looks }

pub looks-last : {T : Type 0} (elements : ℕ) (cs : List (Constraint T)) (edges : Edges) (rows : List (List Bool)) (looks : ℕ) → length edges.written ≡ elements →
    AreSoFar cs edges rows [] looks → AreLooks elements cs looks
looks-last elements cs edges rows looks count so_far =
    let low = so_far.at_least in
    let high = so_far.at_most in
    let is : written_left cs 0 (length edges.written) * unknowns_left cs ≡ written_left cs 0 elements * unknowns_left cs = ap (λ n. written_left cs 0 n * unknowns_left cs) count in
    record { at_least = omega (arith, low); at_most = omega (arith, high, is); greatest = so_far.greatest }
