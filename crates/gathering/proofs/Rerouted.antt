-- What is gathered stays gathered where some flows go by further inner unknowns.
use Rattle.std.proofs.Common.{◌≡◌, refl, sym, ap, ◌∙◌, subst, Bool, true, false, List, [], ◌∷◌, ◌++◌, ⊎_elim}
use Rattle.std.specs.Prelude.{IsTrue, IsFalse, Contains, Option, if◌then◌else◌}
use Rattle.std.proofs.lemmas.List.Elements.{Contains-append_cases, Contains-append_left}
use Rattle.common.proofs.Elements.{Contains-later, Contains-first}
use Rattle.lattices.specs.Constraints.{Atom, Written, Unknown, Constraint, renamed, is_inner, outer, Feeds, through, LeftStandsFor, StandsFor, OneByOne, IsGathered}
use Rattle.lattices.specs.Constraints as formal
use Rattle.lattices.proofs.Gathered.{outer-only}
use Rattle.common.proofs.Cases.{by_test}
use Rattle.gathering.specs.Rerouted.{LeadsInside, ended, led, Brings, itself, others, IsRerouted}

not-both : (b : Bool) → IsTrue b → IsFalse b → ⊥
not-both true e f = let i : true ≡ false = f in absurd (cc)
not-both false e f = let i : false ≡ true = e in absurd (cc)

pub outer-joined : {N U V : Type 0} (inner : U → Bool) (xs ys : List (Constraint N U V)) → ((c : Constraint N U V) → Contains ys c → IsTrue (is_inner inner c.right)) →
    outer inner (xs ++ ys) ≡ outer inner xs
outer-joined inner [] [] each = refl
outer-joined inner [] (y ∷ ys) each = go (is_inner inner y.right) (each y (Contains-first y ys)) (outer-joined inner [] ys (λ c h. each c (Contains-later y ys c h)))
  where
    go : (b : Bool) → IsTrue b → outer inner ys ≡ [] → (if b then outer inner ys else (y ∷ outer inner ys)) ≡ []
    go true e next = next
    go false e next = let i : false ≡ true = e in absurd (cc)
outer-joined inner (x ∷ xs) ys each = go (is_inner inner x.right) (outer-joined inner xs ys each)
  where
    go : (b : Bool) → outer inner (xs ++ ys) ≡ outer inner xs → (if b then outer inner (xs ++ ys) else (x ∷ outer inner (xs ++ ys))) ≡ (if b then outer inner xs else (x ∷ outer inner xs))
    go true next = next
    go false next = ap (λ z. x ∷ z) next

module _ {N U W V : Type 0} (ds : List (Constraint N U V)) (cs base added : List (Constraint (Option N) W V)) (gathered : IsGathered ds cs) (further : W → Bool)
    (rerouted : IsRerouted gathered.inner further cs base added) where
  abbrev inner : W → Bool
  inner = gathered.inner

  added-inner : (c : Constraint (Option N) W V) → Contains added c → IsTrue (is_inner inner c.right)
  added-inner c h =
      let is = rerouted.each c h in
      subst (λ a. IsTrue (is_inner inner a)) (sym is.right_is) is.inner_is

  not-further : (a : Atom W V) → IsFalse (is_inner inner a) → IsFalse (is_inner further a)
  not-further (Written v) e = refl
  not-further (Unknown u) e = by_test (further u) (λ f. absurd (not-both (inner u) (rerouted.inside u f) e)) (λ f. f)

  brings-old : (part old : Atom W V) → IsFalse (is_inner further part) → Brings further rerouted.stands part old → part ≡ old
  brings-old part old e (itself f same) = same
  brings-old part old e (others u is f stands) = absurd (not-both (further u) f (subst (λ a. IsFalse (is_inner further a)) is e))

  -- along a path of constraints
  along : (from part to : Atom W V) → LeadsInside inner (base ++ added) part to → Feeds inner (base ++ added) from part → Feeds inner (base ++ added) from to
  along from part to (ended _ same) fed = subst (λ a. Feeds inner (base ++ added) from a) same fed
  along from part to (led middle _ leads link e) fed =
      through link.by middle to (along from part middle leads fed) link.among link.starts link.ends e

  feeds-up : (from to : Atom W V) → Feeds inner cs from to → Feeds inner (base ++ added) from to
  feeds-up from to (formal.itself _ e same) = formal.itself to e same
  feeds-up from to (through c part _ fed h left is e) = ⊎_elim
      (λ stays. through c part to (feeds-up from part fed) (Contains-append_left base added c stays) left is e)
      (λ leads. subst (λ a. Feeds inner (base ++ added) from a) is (along from part c.right (leads part left) (feeds-up from part fed)))
      (rerouted.goes c h (subst (λ a. IsTrue (is_inner inner a)) (sym is) e))

  -- what feeds a part brought itself or something else that it feeds
  abbrev Brought : (from to : Atom W V) → Type 0
  Brought from to = (old : Atom W V) × Brings further rerouted.stands to old × Feeds inner cs from old

  brought : (from to : Atom W V) → Feeds inner (base ++ added) from to → Brought from to
  brought from to (formal.itself _ e same) =
      (to, itself (not-further to (subst (λ a. IsFalse (is_inner inner a)) same e)) refl, formal.itself to e same)
  brought from to (through c part _ fed h left is e) = ⊎_elim
      (λ stays.
      let old = brought from part fed in
      let among = rerouted.stays c stays in
      let same : part ≡ old.0 = brings-old part old.0 (rerouted.old_parts c among part left) old.1 in (
        to,
        itself (subst (λ a. IsFalse (is_inner further a)) is (rerouted.old_right c among)) refl,
        through c part to (subst (λ a. Feeds inner cs from a) (sym same) old.2) among left is e,
      ))
      (λ more.
      let old = brought from part fed in
      let adds = rerouted.each c more in
      let right : to ≡ Unknown adds.to = sym is ∙ adds.right_is in
      by_test (further adds.to)
      (λ f. (old.0, others adds.to right f (adds.to_further f part old.0 left old.1), old.2))
      (λ f.
      let link = adds.to_old f part old.0 left old.1 in (
        to,
        itself (subst (λ a. IsFalse (is_inner further a)) (sym right) f) refl,
        through link.by old.0 to old.2 link.among link.starts (link.ends ∙ is) e,
      )))
      (Contains-append_cases base added c h)

  feeds-down : (from to : Atom W V) → IsFalse (is_inner further to) → Feeds inner (base ++ added) from to → Feeds inner cs from to
  feeds-down from to e fed =
      let old = brought from to fed in
      subst (λ a. Feeds inner cs from a) (sym (brings-old to old.0 e old.1)) old.2

  stands-same : (d : Constraint N U V) (c : Constraint (Option N) W V) → Contains cs c → StandsFor gathered.number inner cs d c → StandsFor gathered.number inner (base ++ added) d c
  stands-same d c h stands = record {
    at_is = stands.at_is;
    rule_is = stands.rule_is;
    target_is = stands.target_is;
    right_is = stands.right_is;
    left = record {
      has = λ a there. let found = stands.left.has a there in (found.0, found.1, feeds-up (renamed gathered.number a) found.0 found.2);
      only = λ part from there fed. stands.left.only part from there (feeds-down from part (rerouted.old_parts c h part there) fed);
    };
  }

  one-same : (es : List (Constraint N U V)) (xs : List (Constraint (Option N) W V)) → ((c : Constraint (Option N) W V) → Contains xs c → Contains cs c) →
      OneByOne gathered.number inner cs es xs → OneByOne gathered.number inner (base ++ added) es xs
  one-same [] [] within h = tt
  one-same [] (x ∷ xs) within h = absurd h
  one-same (d ∷ es) [] within h = absurd h
  one-same (d ∷ es) (x ∷ xs) within h =
      (stands-same d x (within x (Contains-first x xs)) h.0, one-same es xs (λ c t. within c (Contains-later x xs c t)) h.1)

  pub rerouted-gathered : IsGathered ds (base ++ added)
  rerouted-gathered = record {
    number = gathered.number;
    name = gathered.name;
    inner = gathered.inner;
    named = gathered.named;
    one_by_one = subst (λ z. OneByOne gathered.number gathered.inner (base ++ added) ds z)
        (sym (outer-joined gathered.inner base added added-inner ∙ rerouted.outer_is))
        (one-same ds (outer gathered.inner cs) (λ c h. (outer-only gathered.inner cs c h).0) gathered.one_by_one);
    no_target = λ c h e. ⊎_elim
        (λ stays. gathered.no_target c (rerouted.stays c stays) e)
        (λ more. (rerouted.each c more).no_target)
        (Contains-append_cases base added c h);
  }

  -- the unknowns keep their numbers
  pub rerouted-number : (u : U) → rerouted-gathered.number u ≡ gathered.number u
  unfolding rerouted-gathered
  rerouted-number u = refl
