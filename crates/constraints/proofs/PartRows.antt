-- Constraints whose parts are kept for their right sides, and then laid out.
use Rattle.std.proofs.Common.{◌≡◌, ◌≢◌, refl, sym, ap, ◌∙◌, subst, ℕ, zero, suc, ◌<◌, List, [], ◌∷◌, ◌++◌, length, get_or, set, arith, inl, inr, ⊎_elim}
use Rattle.std.specs.Prelude.{Contains, None, OnOk, Result, Ok, Err}
use Rattle.std.proofs.lemmas.Bool.{cases_eq}
use Rattle.std.proofs.lemmas.List.{append_assoc, append-nil}
use Rattle.std.proofs.lemmas.List.Elements.{Contains-append_cases, Contains-append_left, Contains-append_right}
use Rattle.common.proofs.Elements.{none_in_nil, Contains-cons_cases, Contains-first}
use Rattle.labels.specs.Label.{Label}
use Rattle.resolved.specs.declared.program.Core.{Core}
use Rattle.solver.specs.declared.constraints.Atom.{Atom}
use Rattle.solver.specs.declared.constraints.Atom.TheVariants.{Unknown}
use Rattle.constraints.specs.Added.{Stored}
use Rattle.constraints.specs.Merging.{AreSpreadSoFar, AreTaken, Flows, HasMore, IsCovered, IsInnerWithPart, IsLaidOut, Row, parts_at, unknowns_at}
use Rattle.constraints.specs.Spreading.{Declares, IsSpreadWhole}
use Rattle.constraints.specs.declared.journal.Called.{Called}
use Rattle.constraints.specs.declared.journal.Journal.{Journal}
use Rattle.constraints.specs.declared.spreading.Made.{Made}

pub on-ok : {T E A B : Type 0} (result : Result T E) → (A → B) → OnOk result A → OnOk result B
on-ok (Ok x) f h = f h
on-ok (Err e) f h = tt

-- ---- more parts, of which one covers another
module _ (Over : Atom → Atom → Type 0) (same : (a : Atom) → Over a a) (then : (a b c : Atom) → Over a b → Over b c → Over a c) where
  pub itself-covered : (parts : List Atom) (part : Atom) → Contains parts part → IsCovered Over parts part
  itself-covered parts part h = record { by = part; over = same part; among = h }

  covered-more : (parts more : List Atom) (part : Atom) → ((p : Atom) → Contains parts p → Contains more p) → IsCovered Over parts part → IsCovered Over more part
  covered-more parts more part all covered = record { by = covered.by; over = covered.over; among = all covered.by covered.among }

  pub covered-then : (parts more : List Atom) (part : Atom) → ((p : Atom) → Contains parts p → IsCovered Over more p) → IsCovered Over parts part → IsCovered Over more part
  covered-then parts more part all covered =
      let on = all covered.by covered.among in
      record { by = on.by; over = then part covered.by on.by covered.over on.over; among = on.among }

  pub more-both : (a b old middle new : List Atom) → HasMore Over a old middle → HasMore Over b middle new → HasMore Over (a ++ b) old new
  more-both a b old middle new first second = record {
    stays = λ p h. covered-then middle new p second.stays (first.stays p h);
    goes = λ p h. ⊎_elim (λ k. covered-then middle new p second.stays (first.goes p k)) (λ k. second.goes p k) (Contains-append_cases a b p h);
    came = λ p h. ⊎_elim
        (λ k. ⊎_elim (λ o. inl o) (λ n. inr (Contains-append_left a b p n)) (first.came p k))
        (λ n. inr (Contains-append_right a b p n)) (second.came p h);
  }

  pub more-front : (more old new rest : List Atom) → HasMore Over more old new → HasMore Over more (old ++ rest) (new ++ rest)
  more-front more old new rest has = record {
    stays = λ p h. ⊎_elim (λ k. covered-more new (new ++ rest) p (Contains-append_left new rest) (has.stays p k))
        (λ k. itself-covered (new ++ rest) p (Contains-append_right new rest p k)) (Contains-append_cases old rest p h);
    goes = λ p h. covered-more new (new ++ rest) p (Contains-append_left new rest) (has.goes p h);
    came = λ p h. ⊎_elim
        (λ k. ⊎_elim (λ o. inl (Contains-append_left old rest p o)) (λ n. inr n) (has.came p k))
        (λ k. inl (Contains-append_right old rest p k)) (Contains-append_cases new rest p h);
  }

  pub more-back : (more old new first : List Atom) → HasMore Over more old new → HasMore Over more (first ++ old) (first ++ new)
  more-back more old new first has = record {
    stays = λ p h. ⊎_elim (λ k. itself-covered (first ++ new) p (Contains-append_left first new p k))
        (λ k. covered-more new (first ++ new) p (Contains-append_right first new) (has.stays p k)) (Contains-append_cases first old p h);
    goes = λ p h. covered-more new (first ++ new) p (Contains-append_right first new) (has.goes p h);
    came = λ p h. ⊎_elim (λ k. inl (Contains-append_left first old p k))
        (λ k. ⊎_elim (λ o. inl (Contains-append_right first old p o)) (λ n. inr n) (has.came p k)) (Contains-append_cases first new p h);
  }

  -- a part is there already, or is pushed
  pub more-none : (parts : List Atom) → HasMore Over [] parts parts
  more-none parts = record {
    stays = itself-covered parts;
    goes = λ p h. absurd (none_in_nil p h);
    came = λ p h. inl h;
  }

  pub more-pushed : (part : Atom) (parts : List Atom) → HasMore Over (part ∷ []) parts (parts ++ part ∷ [])
  more-pushed part parts = record {
    stays = λ p h. itself-covered (parts ++ part ∷ []) p (Contains-append_left parts (part ∷ []) p h);
    goes = λ p h. itself-covered (parts ++ part ∷ []) p (Contains-append_right parts (part ∷ []) p h);
    came = λ p h. Contains-append_cases parts (part ∷ []) p h;
  }

  one-part : (part p : Atom) → Contains (part ∷ []) p → part ≡ p
  one-part part p h = ⊎_elim (λ is. is) (λ none. absurd (none_in_nil p none)) (Contains-cons_cases part [] p h)

  -- it flows on to the last part
  pub more-covered : (part last : Atom) (front : List Atom) → Over part last → HasMore Over (part ∷ []) (front ++ last ∷ []) (front ++ last ∷ [])
  more-covered part last front over = record {
    stays = itself-covered (front ++ last ∷ []);
    goes = λ p h. subst (IsCovered Over (front ++ last ∷ [])) (one-part part p h)
        (record { by = last; over = over; among = Contains-append_right front (last ∷ []) last (Contains-first last []) });
    came = λ p h. inl h;
  }

  -- the last part flows on to it, and is left out
  pub more-replaced : (part last : Atom) (front : List Atom) → Over last part → HasMore Over (part ∷ []) (front ++ last ∷ []) (front ++ part ∷ [])
  more-replaced part last front over = record {
    stays = λ p h. ⊎_elim (λ k. itself-covered (front ++ part ∷ []) p (Contains-append_left front (part ∷ []) p k))
        (λ k. subst (IsCovered Over (front ++ part ∷ [])) (one-part last p k)
        (record { by = part; over = over; among = Contains-append_right front (part ∷ []) part (Contains-first part []) }))
        (Contains-append_cases front (last ∷ []) p h);
    goes = λ p h. itself-covered (front ++ part ∷ []) p (Contains-append_right front (part ∷ []) p h);
    came = λ p h. ⊎_elim (λ k. inl (Contains-append_left front (last ∷ []) p k)) (λ k. inr k) (Contains-append_cases front (part ∷ []) p h);
  }

-- ---- rows of parts
pub parts-here : (rows : List Row) (k : ℕ) (parts none : Row) → k < length rows → parts ≡ get_or rows k none → parts_at rows k ≡ parts.unknowns ++ parts.written
parts-here [] k parts none inside is = absurd (omega (arith, inside))
parts-here (row ∷ rows) zero parts none inside is = ap (λ (r : Row). r.unknowns ++ r.written) (sym is)
parts-here (row ∷ rows) (suc k) parts none inside is = parts-here rows k parts none (omega (arith, inside)) is

pub unknowns-here : (rows : List Row) (k : ℕ) (parts none : Row) → k < length rows → parts ≡ get_or rows k none → unknowns_at rows k ≡ parts.unknowns
unknowns-here [] k parts none inside is = absurd (omega (arith, inside))
unknowns-here (row ∷ rows) zero parts none inside is = ap (λ (p : Row). p.unknowns) (sym is)
unknowns-here (row ∷ rows) (suc k) parts none inside is = unknowns-here rows k parts none (omega (arith, inside)) is

pub parts-set : (rows : List Row) (k : ℕ) (parts : Row) → k < length rows → parts_at (set rows k parts) k ≡ parts.unknowns ++ parts.written
parts-set [] k parts inside = absurd (omega (arith, inside))
parts-set (row ∷ rows) zero parts inside = refl
parts-set (row ∷ rows) (suc k) parts inside = parts-set rows k parts (omega (arith, inside))

pub parts-others : (rows : List Row) (k : ℕ) (parts : Row) (j : ℕ) → j ≢ k → parts_at (set rows k parts) j ≡ parts_at rows j
parts-others [] k parts j differs = refl
parts-others (row ∷ rows) zero parts zero differs = absurd (differs refl)
parts-others (row ∷ rows) zero parts (suc j) differs = refl
parts-others (row ∷ rows) (suc k) parts zero differs = refl
parts-others (row ∷ rows) (suc k) parts (suc j) differs = parts-others rows k parts j (λ same. differs (ap suc same))

pub parts-push : (rows : List Row) (parts : Row) → parts.unknowns ++ parts.written ≡ [] → ((k : ℕ) → parts_at rows k ≡ []) → (k : ℕ) → parts_at (rows ++ parts ∷ []) k ≡ []
parts-push [] parts none all zero = none
parts-push [] parts none all (suc k) = refl
parts-push (row ∷ rows) parts none all zero = all zero
parts-push (row ∷ rows) parts none all (suc k) = parts-push rows parts none (λ j. all (suc j)) k

pub parts-inside : (rows : List Row) (k : ℕ) (part : Atom) → Contains (parts_at rows k) part → k < length rows
parts-inside [] k part h = absurd (none_in_nil part h)
parts-inside (row ∷ rows) zero part h = omega arith
parts-inside (row ∷ rows) (suc k) part h = let rest : k < length rows = parts-inside rows k part h in omega (arith, rest)

-- ---- flows
pub flows-more : (xs ys : List Stored) (part to : Atom) → ((c : Stored) → Contains xs c → Contains ys c) → Flows xs part to → Flows ys part to
flows-more xs ys part to more flow = record { by = flow.by; among = more flow.by flow.among; starts = flow.starts; ends = flow.ends }

one-only : (c d : Stored) → Contains (c ∷ []) d → c ≡ d
one-only c d h = ⊎_elim (λ same. same) (λ none. absurd (none_in_nil d none)) (Contains-cons_cases c [] d h)

-- ---- constraints that are taken
pub taken-none : (Over : Atom → Atom → Type 0) (same : (a : Atom) → Over a a) (rows : List Row) (rest : List Stored) → AreTaken Over [] rows rows rest rest
taken-none Over same rows rest = record {
  rest = [];
  rest_is = sym (append-nil rest);
  only = λ c h. h;
  stays = λ k p h. record { by = p; over = same p; among = h };
  goes = λ p to flow. absurd (none_in_nil flow.by flow.among);
  came = λ k p h. inl h;
}

pub taken-stays : (Over : Atom → Atom → Type 0) (same : (a : Atom) → Over a a) (c : Stored) (rows : List Row) (rest new : List Stored) → new ≡ rest ++ c ∷ [] → AreTaken Over (c ∷ []) rows rows rest new
taken-stays Over same c rows rest new is = record {
  rest = c ∷ [];
  rest_is = is;
  only = λ d h. h;
  stays = λ k p h. record { by = p; over = same p; among = h };
  goes = λ p to flow. inl flow;
  came = λ k p h. inl h;
}

pub taken-kept : (Over : Atom → Atom → Type 0) (same : (a : Atom) → Over a a) (c : Stored) (k : ℕ) (old new : List Row) (rest : List Stored) → c.right ≡ Unknown k
    → HasMore Over c.left.items (parts_at old k) (parts_at new k) → ((j : ℕ) → j ≢ k → parts_at new j ≡ parts_at old j) → AreTaken Over (c ∷ []) old new rest rest
taken-kept Over reflexive c k old new rest is has others = record {
  rest = [];
  rest_is = sym (append-nil rest);
  only = λ d h. absurd (none_in_nil d h);
  stays = λ j p h. ⊎_elim
      (λ (same : j ≡ k). subst (λ i. IsCovered Over (parts_at new i) p) (sym same) (has.stays p (subst (λ i. Contains (parts_at old i) p) same h)))
      (λ (differs : j ≢ k). record { by = p; over = reflexive p; among = subst (λ list. Contains list p) (sym (others j differs)) h }) (cases_eq j k);
  goes = λ p to flow.
      let same : c ≡ flow.by = one-only c flow.by flow.among in
      inr (k, sym flow.ends ∙ (ap (λ (d : Stored). d.right) (sym same) ∙ is), has.goes p (subst (λ (d : Stored). Contains d.left.items p) (sym same) flow.starts));
  came = λ j p h. ⊎_elim
      (λ (same : j ≡ k). ⊎_elim
      (λ o. inl (subst (λ i. Contains (parts_at old i) p) (sym same) o))
      (λ n. inr (record { by = c; among = Contains-first c []; starts = n; ends = is ∙ ap Unknown (sym same) }))
      (has.came p (subst (λ i. Contains (parts_at new i) p) same h)))
      (λ (differs : j ≢ k). inl (subst (λ list. Contains list p) (others j differs) h)) (cases_eq j k);
}

pub taken-both : (Over : Atom → Atom → Type 0) (same : (a : Atom) → Over a a) (then : (a b c : Atom) → Over a b → Over b c → Over a c) (a b : List Stored) (old middle new : List Row) (before between after : List Stored)
    → AreTaken Over a old middle before between → AreTaken Over b middle new between after → AreTaken Over (a ++ b) old new before after
taken-both Over same then a b old middle new before between after first second = record {
  rest = first.rest ++ second.rest;
  rest_is = second.rest_is ∙ (ap (λ xs. xs ++ second.rest) first.rest_is ∙ append_assoc before first.rest second.rest);
  only = λ c h. ⊎_elim (λ k. Contains-append_left a b c (first.only c k)) (λ k. Contains-append_right a b c (second.only c k)) (Contains-append_cases first.rest second.rest c h);
  stays = λ k p h. covered-then Over same then (parts_at middle k) (parts_at new k) p (second.stays k) (first.stays k p h);
  goes = λ p to flow. ⊎_elim
      (λ in_a. ⊎_elim
      (λ (stays : Flows first.rest p to). inl (flows-more first.rest (first.rest ++ second.rest) p to (Contains-append_left first.rest second.rest) stays))
      (λ kept. inr (kept.0, kept.1, covered-then Over same then (parts_at middle kept.0) (parts_at new kept.0) p (second.stays kept.0) kept.2))
      (first.goes p to (record { by = flow.by; among = in_a; starts = flow.starts; ends = flow.ends })))
      (λ in_b. ⊎_elim
      (λ (stays : Flows second.rest p to). inl (flows-more second.rest (first.rest ++ second.rest) p to (Contains-append_right first.rest second.rest) stays))
      (λ kept. inr kept)
      (second.goes p to (record { by = flow.by; among = in_b; starts = flow.starts; ends = flow.ends })))
      (Contains-append_cases a b flow.by flow.among);
  came = λ k p h. ⊎_elim
      (λ had. ⊎_elim (λ o. inl o) (λ (flow : Flows a p (Unknown k)). inr (flows-more a (a ++ b) p (Unknown k) (Contains-append_left a b) flow)) (first.came k p had))
      (λ (flow : Flows b p (Unknown k)). inr (flows-more b (a ++ b) p (Unknown k) (Contains-append_right a b) flow))
      (second.came k p h);
}

-- ---- parts that are laid out

pub first-part : (xs : List Atom) → 0 < length xs → (part : Atom) × Contains xs part
first-part [] some = absurd (omega (arith, some))
first-part (x ∷ xs) some = (x, Contains-first x xs)

pub laid-one : (k : ℕ) (parts : List Atom) (c : Stored) (old new : List Stored) → new ≡ old ++ c ∷ [] → c.left.items ≡ parts → c.right ≡ Unknown k → c.target ≡ None
    → 0 < length parts → IsLaidOut k parts old new
laid-one k parts c old new is left right target some = record {
  laid = c ∷ [];
  laid_is = is;
  goes = λ p h. record { by = c; among = Contains-first c []; starts = subst (λ list. Contains list p) (sym left) h; ends = right };
  came = λ p to flow.
      let same : c ≡ flow.by = one-only c flow.by flow.among in
      (sym flow.ends ∙ (ap (λ (d : Stored). d.right) (sym same) ∙ right), subst (λ list. Contains list p) (ap (λ (d : Stored). d.left.items) (sym same) ∙ left) flow.starts);
  inner = λ d h. subst IsInnerWithPart (one-only c d h)
      (target, ((first-part parts some).0, subst (λ list. Contains list (first-part parts some).0) (sym left) (first-part parts some).1));
}

-- nothing asks for no constraint
pub laid-none : (k : ℕ) (old : List Stored) → IsLaidOut k [] old old
laid-none k old = record {
  laid = [];
  laid_is = sym (append-nil old);
  goes = λ p h. absurd (none_in_nil p h);
  came = λ p to flow. absurd (none_in_nil flow.by flow.among);
  inner = λ d h. absurd (none_in_nil d h);
}

-- ---- so far
pub so-far-next : (Over : Atom → Atom → Type 0) (same : (a : Atom) → Over a a) (then : (a b c : Atom) → Over a b → Over b c → Over a c) (core : Core) (table : List Label) (journal : Journal) (calls more : List Called) (start middle rows : List Row) (taken : List Stored) (old between new : Made)
    → (so_far : AreSpreadSoFar Over core table journal calls start middle old between)
    → IsSpreadWhole core table journal (Declares core) more old.number new.number (so_far.spread ++ taken)
    → AreTaken Over taken middle rows between.constraints.items new.constraints.items → AreSpreadSoFar Over core table journal more start rows old new
so-far-next Over same then core table journal calls more start middle rows taken old between new so_far spread are_taken = record {
  spread = so_far.spread ++ taken;
  are_spread = spread;
  are_taken = taken-both Over same then so_far.spread taken start middle rows old.constraints.items between.constraints.items new.constraints.items so_far.are_taken are_taken;
}
