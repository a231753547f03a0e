-- What was gathered stays gathered when its unknowns get other names, different ones where they stand in the constraints.
use Rattle.std.proofs.Common.{◌≡◌, refl, sym, ap, ◌∙◌, subst, Bool, true, false, List, [], ◌∷◌, ◌⊎◌, inl, inr}
use Rattle.std.specs.Prelude.{IsTrue, Contains, Option, None, if◌then◌else◌, map}
use Rattle.common.proofs.Elements.{Contains-later, Contains-first}
use Rattle.lattices.specs.Constraints.{Atom, Written, Unknown, Constraint, Occurs, renamed, is_inner, outer, Feeds, itself, through, StandsFor, OneByOne, IsGathered}
use Rattle.lattices.proofs.Gathered.{occurs-there, outer-only}
use Rattle.common.proofs.Cases.{contained_map, contained_map_only}

renamed-twice : {U W X V : Type 0} (f : W → X) (g : U → W) (a : Atom U V) → renamed f (renamed g a) ≡ renamed (λ u. f (g u)) a
renamed-twice f g (Written v) = refl
renamed-twice f g (Unknown u) = refl

abbrev unknown_or : {U V : Type 0} → U → Atom U V → U
unknown_or u (Written v) = u
unknown_or u (Unknown w) = w

-- a part of a left side, or a right side, of constraints
abbrev pub Stands : {N W V : Type 0} → List (Constraint N W V) → Atom W V → Type 0
Stands {N} {W} {V} cs a = (c : Constraint N W V) × Contains cs c × (Contains c.left a ⊎ (c.right ≡ a))

module _ {N U W X V : Type 0} (ds : List (Constraint N U V)) (cs : List (Constraint (Option N) W V)) (gathered : IsGathered ds cs) (f : W → X) (back : X → W) (inner : X → Bool) where
  abbrev pub other : Constraint (Option N) W V → Constraint (Option N) X V
  other c = record { at = c.at; rule = c.rule; left = map (renamed f) c.left; target = c.target; right = renamed f c.right }

  module _ (kept : (a : Atom W V) → Stands cs a → is_inner inner (renamed f a) ≡ is_inner gathered.inner a)
      (returns : (a : Atom W V) → Stands cs a → renamed back (renamed f a) ≡ a) where
    distinct : (a b : Atom W V) → Stands cs a → Stands cs b → renamed f a ≡ renamed f b → a ≡ b
    distinct a b h k same = sym (returns a h) ∙ ap (renamed back) same ∙ returns b k

    feeds-up : (from to : Atom W V) → Stands cs to → Feeds gathered.inner cs from to → Feeds inner (map other cs) (renamed f from) (renamed f to)
    feeds-up from to there (itself _ e same) =
        itself (renamed f to) (kept from (subst (Stands cs) (sym same) there) ∙ e) (ap (renamed f) same)
    feeds-up from to there (through c part _ fed h left is e) =
        through (other c) (renamed f part) (renamed f to) (feeds-up from part (c, h, inl left) fed) (contained_map other cs c h) (contained_map (renamed f) c.left part left)
        (ap (renamed f) is) (kept to there ∙ e)

    feeds-down : (from : Atom X V) (to' : Atom X V) → Feeds inner (map other cs) from to' → (to : Atom W V) → Stands cs to → renamed f to ≡ to' →
        (a : Atom W V) × Feeds gathered.inner cs a to × (renamed f a ≡ from)
    feeds-down from to' (itself _ e same) to there is =
        (to, itself to (sym (kept to there) ∙ ap (is_inner inner) (is ∙ sym same) ∙ e) refl, is ∙ sym same)
    feeds-down from to' (through c' part' _ fed h left at e) to there is =
        let c = contained_map_only other cs c' h in
        let part = contained_map_only (renamed f) c.0.left part' (subst (λ z. Contains z part') (sym (ap (λ (z : Constraint (Option N) X V). z.left) c.2)) left) in
        let found = feeds-down from part' fed part.0 (c.0, c.1, inl part.1) part.2 in
        let right : c.0.right ≡ to = distinct c.0.right to (c.0, c.1, inr refl) there (ap (λ (z : Constraint (Option N) X V). z.right) c.2 ∙ at ∙ sym is) in
        (found.0, through c.0 part.0 to found.1 c.1 part.1 right (sym (kept to there) ∙ ap (is_inner inner) is ∙ e), found.2)

    abbrev pub count : U → X
    count u = f (gathered.number u)

    stands-same : (d : Constraint N U V) (c : Constraint (Option N) W V) → Contains cs c → StandsFor gathered.number gathered.inner cs d c → StandsFor count inner (map other cs) d (other c)
    stands-same d c h stands = record {
      at_is = stands.at_is;
      rule_is = stands.rule_is;
      target_is = stands.target_is;
      right_is = ap (renamed f) stands.right_is ∙ renamed-twice f gathered.number d.right;
      left = record {
        has = λ a there. let found = stands.left.has a there in (
          renamed f found.0,
          contained_map (renamed f) c.left found.0 found.1,
          subst (λ z. Feeds inner (map other cs) z (renamed f found.0)) (renamed-twice f gathered.number a) (feeds-up (renamed gathered.number a) found.0 (c, h, inl found.1) found.2),
        );
        only = λ part' from there feeds.
            let part = contained_map_only (renamed f) c.left part' there in
            let fed = feeds-down from part' feeds part.0 (c, h, inl part.1) part.2 in
            let found = stands.left.only part.0 fed.0 part.1 fed.1 in
            (found.0, found.1, sym (renamed-twice f gathered.number found.0) ∙ ap (renamed f) found.2 ∙ fed.2);
      };
    }

    one-same : (es : List (Constraint N U V)) (xs : List (Constraint (Option N) W V)) → ((c : Constraint (Option N) W V) → Contains xs c → Contains cs c) →
        OneByOne gathered.number gathered.inner cs es xs → OneByOne count inner (map other cs) es (map other xs)
    one-same [] [] within h = tt
    one-same [] (x ∷ xs) within h = absurd h
    one-same (d ∷ es) [] within h = absurd h
    one-same (d ∷ es) (x ∷ xs) within h =
        (stands-same d x (within x (Contains-first x xs)) h.0, one-same es xs (λ c t. within c (Contains-later x xs c t)) h.1)

    outer-same : (xs : List (Constraint (Option N) W V)) → ((c : Constraint (Option N) W V) → Contains xs c → Contains cs c) →
        map other (outer gathered.inner xs) ≡ outer inner (map other xs)
    outer-same [] within = refl
    outer-same (x ∷ xs) within =
        go (is_inner gathered.inner x.right) (is_inner inner (renamed f x.right)) (kept x.right (x, within x (Contains-first x xs), inr refl)) (outer-same xs (λ c t. within c (Contains-later x xs c t)))
      where
        go : (a b : Bool) → b ≡ a → map other (outer gathered.inner xs) ≡ outer inner (map other xs) →
            map other (if a then outer gathered.inner xs else (x ∷ outer gathered.inner xs)) ≡ (if b then outer inner (map other xs) else (other x ∷ outer inner (map other xs)))
        go true true e next = next
        go true false e next = let i : false ≡ true = e in absurd (cc)
        go false true e next = let i : true ≡ false = e in absurd (cc)
        go false false e next = ap (λ z. other x ∷ z) next

    pub renamed-gathered : IsGathered ds (map other cs)
    renamed-gathered = record {
      number = count;
      name = λ k. gathered.name (back k);
      inner = inner;
      named = λ u occurs. there u (occurs-there ds cs gathered u occurs) ∙ gathered.named u occurs;
      one_by_one = subst (λ z. OneByOne count inner (map other cs) ds z) (outer-same cs (λ c h. h))
          (one-same ds (outer gathered.inner cs) (λ c h. (outer-only gathered.inner cs c h).0) gathered.one_by_one);
      no_target = λ c' h e. untargeted c' (contained_map_only other cs c' h) e;
    }
      where
        there : (u : U) → Occurs cs (gathered.number u) → gathered.name (back (f (gathered.number u))) ≡ gathered.name (gathered.number u)
        there u (c, h, k) = ap (λ a. gathered.name (unknown_or (gathered.number u) a)) (returns (Unknown (gathered.number u)) (c, h, k))

        untargeted : (c' : Constraint (Option N) X V) → ((c : Constraint (Option N) W V) × Contains cs c × (other c ≡ c')) → IsTrue (is_inner inner c'.right) → c'.target ≡ None
        untargeted c' (c, h, is) e =
            sym (ap (λ (z : Constraint (Option N) X V). z.target) is)
            ∙ gathered.no_target c h (sym (kept c.right (c, h, inr refl)) ∙ ap (λ (z : Constraint (Option N) X V). is_inner inner z.right) is ∙ e)

    -- the number of an unknown is the new name of its old one
    pub renamed-number : (u : U) → renamed-gathered.number u ≡ count u
    unfolding renamed-gathered
    renamed-number u = refl

    -- and an inner unknown is one by its new name
    pub renamed-inner : renamed-gathered.inner ≡ inner
    unfolding renamed-gathered
    renamed-inner = refl
