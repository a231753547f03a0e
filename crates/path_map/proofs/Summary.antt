-- The summary of exits, of lists that are put together.
use Rattle.std.proofs.Common.{◌≡◌, ◌≢◌, refl, sym, ap, ◌∙◌, ℕ, List, [], ◌∷◌, ◌++◌, Bool, true, false, not, ◌&&◌, ◌||◌, filter, append_assoc}
use Rattle.std.specs.Prelude.{◌==◌, if◌then◌else◌}
use Rattle.std.specs.List.{list_all}
use Rattle.std.proofs.lemmas.Bool.{eqb-true, eqb-false, eq-eqb, and_parts}
use Rattle.std.proofs.Math.Bool.{or-true, or-false, and-false, or_assoc}
use Rattle.std.proofs.lemmas.List.Folds.{list_any-append, list_all-append}
use Rattle.resolved.specs.declared.statement.Exit.{Exit}
use Rattle.resolved.specs.declared.statement.Exit.TheVariants.{Normal, Return, Break, Continue, Throw}
use Rattle.resolved.specs.Tree.{Handlers}
use Rattle.resolved.specs.Exits.{same_exit, has_exit, thrown_exits, then_exits, leaves_loop, handles, passes}
use Rattle.path_map.specs.declared.exits.Raised.{Raised}
use Rattle.path_map.specs.declared.exits.Raised.TheVariants.{Nothing, One, Several}
use Rattle.path_map.specs.Exits.{Exits}
use Rattle.path_map.specs.Exits.{thrown_in, raised_by, exits_of}
use Rattle.path_map.specs.Joins.{join_raised, join, after, only_raised, of_loop}
use Rattle.path_map.specs.Exceptions.{is_one_of}
use Rattle.path_map.specs.Sets.{IsSummaryOf, throws}

pub same-number : (n : ℕ) → (n == n) ≡ true
same-number n = eq-eqb n n refl

pub thrown-append : (xs ys : List Exit) → thrown_in (xs ++ ys) ≡ thrown_in xs ++ thrown_in ys
thrown-append [] ys = refl
thrown-append (Normal ∷ xs) ys = thrown-append xs ys
thrown-append (Return ∷ xs) ys = thrown-append xs ys
thrown-append (Break ∷ xs) ys = thrown-append xs ys
thrown-append (Continue ∷ xs) ys = thrown-append xs ys
thrown-append (Throw exception ∷ xs) ys = ap (λ es. exception ∷ es) (thrown-append xs ys)

-- the exceptions of two lists
first-with : (x : ℕ) (ys : List ℕ)
    → (if list_all (λ other. x == other) ys then One x else Several) ≡ join_raised (One x) (raised_by ys)
first-with x [] = refl
first-with x (y ∷ ys) = go (x == y) refl (list_all (λ other. y == other) ys) refl
  where
    go : (same : Bool) → (x == y) ≡ same → (all : Bool) → list_all (λ other. y == other) ys ≡ all
        → (if (x == y) && list_all (λ other. x == other) ys then One x else Several)
        ≡ join_raised (One x) (if list_all (λ other. y == other) ys then One y else Several)
    go false e false f = rw (e, f) refl
    go false e true f = rw (e, f, e) refl
    go true e true f =
        let is : x ≡ y = eqb-true x y e in
        let g : list_all (λ other. x == other) ys ≡ true = rw is f in
        rw (e, g, f, e) refl
    go true e false f =
        let is : x ≡ y = eqb-true x y e in
        let g : list_all (λ other. x == other) ys ≡ false = rw is f in
        rw (e, g, f) refl

pub raised-append : (xs ys : List ℕ) → raised_by (xs ++ ys) ≡ join_raised (raised_by xs) (raised_by ys)
raised-append [] ys = refl
raised-append (x ∷ xs) ys = go (list_all (λ other. x == other) xs) refl
  where
    go : (all : Bool) → list_all (λ other. x == other) xs ≡ all
        → (if list_all (λ other. x == other) (xs ++ ys) then One x else Several)
        ≡ join_raised (if list_all (λ other. x == other) xs then One x else Several) (raised_by ys)
    go false e = rw (list_all-append (λ other. x == other) xs ys, e) refl
    go true e = rw (list_all-append (λ other. x == other) xs ys, e) (first-with x ys)

-- exits that are put together
pub exits-append : (xs ys : List Exit) → exits_of (xs ++ ys) ≡ join (exits_of xs) (exits_of ys)
exits-append xs ys =
    rw (
      list_any-append (same_exit Normal) xs ys,
      list_any-append (same_exit Return) xs ys,
      list_any-append (same_exit Break) xs ys,
      list_any-append (same_exit Continue) xs ys,
      thrown-append xs ys,
      raised-append (thrown_in xs) (thrown_in ys),
    ) refl

-- exceptions as exits
pub thrown-thrown : (es : List ℕ) → thrown_in (thrown_exits es) ≡ es
thrown-thrown [] = refl
thrown-thrown (e ∷ es) = ap (λ rest. e ∷ rest) (thrown-thrown es)

pub throws-thrown : (es : List ℕ) (e : ℕ) → throws (thrown_exits es) e ≡ is_one_of es e
throws-thrown [] e = refl
throws-thrown (x ∷ es) e = ap (λ b. (e == x) || b) (throws-thrown es e)

pub none-thrown : (exit : Exit) → ((e : ℕ) → same_exit exit (Throw e) ≡ false) → (es : List ℕ) → has_exit (thrown_exits es) exit ≡ false
none-thrown exit differs [] = refl
none-thrown exit differs (e ∷ es) = rw (differs e) (none-thrown exit differs es)

pub exits-thrown : (es : List ℕ) → exits_of (thrown_exits es) ≡ only_raised (raised_by es)
exits-thrown es =
    rw (
      none-thrown Normal (λ _. refl) es,
      none-thrown Return (λ _. refl) es,
      none-thrown Break (λ _. refl) es,
      none-thrown Continue (λ _. refl) es,
      thrown-thrown es,
    ) refl

-- the exceptions of exits, by tests
pub throws-in : (ends : List Exit) (e : ℕ) → is_one_of (thrown_in ends) e ≡ throws ends e
throws-in [] e = refl
throws-in (Normal ∷ ends) e = throws-in ends e
throws-in (Return ∷ ends) e = throws-in ends e
throws-in (Break ∷ ends) e = throws-in ends e
throws-in (Continue ∷ ends) e = throws-in ends e
throws-in (Throw x ∷ ends) e = ap (λ b. (e == x) || b) (throws-in ends e)

-- the summary of a set of exceptions
all-same : (x : ℕ) (xs : List ℕ) → ((other : ℕ) → is_one_of xs other ≡ true → other ≡ x) → list_all (λ other. x == other) xs ≡ true
all-same x [] each = refl
all-same x (y ∷ xs) each =
    let is : y ≡ x = each y (rw (same-number y) refl) in
    rw (eq-eqb x y (sym is)) (all-same x xs (λ other there. each other (rw there (or-true (other == y)))))

same-all : (x : ℕ) (xs : List ℕ) → list_all (λ other. x == other) xs ≡ true → (other : ℕ) → is_one_of xs other ≡ true → other ≡ x
same-all x [] all other there = absurd (let no : false ≡ true = there in cc)
same-all x (y ∷ xs) all other there =
    let parts = and_parts (x == y) (list_all (λ z. x == z) xs) all in
    go parts.0 (other == y) refl (λ more. same-all x xs parts.1 other more)
  where
    go : (x == y) ≡ true → (same : Bool) → (other == y) ≡ same → (is_one_of xs other ≡ true → other ≡ x) → other ≡ x
    go first true e more = eqb-true other y e ∙ sym (eqb-true x y first)
    go first false e more = more (rw e at there)

pub summary-is : (xs : List ℕ) (set : ℕ → Bool) → ((e : ℕ) → is_one_of xs e ≡ set e) → (raised : Raised) → IsSummaryOf set raised → raised ≡ raised_by xs
summary-is [] set same Nothing summary = refl
summary-is (x ∷ xs) set same Nothing summary =
    absurd (let there : true ≡ false = sym (rw (same-number x) refl) ∙ (same x ∙ summary x) in cc)
summary-is [] set same (One e) summary = absurd (let no : false ≡ true = same e ∙ summary.has in cc)
summary-is (x ∷ xs) set same (One e) summary =
    let first : x ≡ e = summary.only x (sym (same x) ∙ rw (same-number x) refl) in
    let all : list_all (λ other. x == other) xs ≡ true =
    all-same x xs (λ other there. summary.only other (sym (same other) ∙ rw there (or-true (other == x))) ∙ sym first) in
    rw (all, first) refl
summary-is [] set same Several summary = absurd (let no : false ≡ true = same summary.first ∙ summary.has_first in cc)
summary-is (x ∷ xs) set same Several summary = go (list_all (λ other. x == other) xs) refl
  where
    there : (e : ℕ) → set e ≡ true → list_all (λ other. x == other) xs ≡ true → e ≡ x
    there e has all = same-all x (x ∷ xs) (rw (same-number x) all) e (same e ∙ has)

    go : (all : Bool) → list_all (λ other. x == other) xs ≡ all → Several ≡ (if list_all (λ other. x == other) xs then One x else Several)
    go false f = rw f refl
    go true f = absurd (summary.differ (there summary.first summary.has_first f ∙ sym (there summary.second summary.has_second f)))

-- the summary of a list is that of its set
not-all : (x : ℕ) (xs : List ℕ) → list_all (λ other. x == other) xs ≡ false → (y : ℕ) × (is_one_of xs y ≡ true) × (x ≢ y)
not-all x [] some = absurd (let no : true ≡ false = some in cc)
not-all x (y ∷ xs) some = go (x == y) refl (λ rest. not-all x xs rest)
  where
    go : (same : Bool) → (x == y) ≡ same
        → (list_all (λ other. x == other) xs ≡ false → (z : ℕ) × (is_one_of xs z ≡ true) × (x ≢ z))
        → (z : ℕ) × (is_one_of (y ∷ xs) z ≡ true) × (x ≢ z)
    go false e more = (y, rw (same-number y) refl, eqb-false x y e)
    go true e more =
        let found = more (rw e at some) in
        (found.0, rw found.1 (or-true (found.0 == y)), found.2)

pub summary-of : (xs : List ℕ) → IsSummaryOf (is_one_of xs) (raised_by xs)
summary-of [] = λ e. refl
summary-of (x ∷ xs) = go (list_all (λ other. x == other) xs) refl
  where
    here : is_one_of (x ∷ xs) x ≡ true
    here = rw (same-number x) refl

    go : (all : Bool) → list_all (λ other. x == other) xs ≡ all
        → IsSummaryOf (is_one_of (x ∷ xs)) (if list_all (λ other. x == other) xs then One x else Several)
    go true e = rw e (record { has = here; only = λ other there. same-all x (x ∷ xs) (rw (same-number x) e) other there })
    go false e =
        let found = not-all x xs e in
        rw e (record {
          first = x;
          second = found.0;
          has_first = here;
          has_second = rw found.1 (or-true (found.0 == x));
          differ = found.2;
        })

-- lists with the same exceptions
pub raised-same : (xs ys : List ℕ) → ((e : ℕ) → is_one_of xs e ≡ is_one_of ys e) → raised_by xs ≡ raised_by ys
raised-same xs ys same = summary-is ys (is_one_of xs) (λ e. sym (same e)) (raised_by xs) (summary-of xs)

-- to join is associative
list-of : Raised → List ℕ
list-of Nothing = []
list-of (One e) = e ∷ []
list-of Several = 0 ∷ 1 ∷ []

raised-list-of : (r : Raised) → raised_by (list-of r) ≡ r
unfolding list-of
raised-list-of Nothing = refl
raised-list-of (One e) = refl
raised-list-of Several = refl

pub join-assoc : (a b c : Raised) → join_raised (join_raised a b) c ≡ join_raised a (join_raised b c)
join-assoc a b c =
    let x : List ℕ = list-of a in
    let y : List ℕ = list-of b in
    let z : List ℕ = list-of c in
    let left : raised_by ((x ++ y) ++ z) ≡ join_raised (join_raised a b) c =
    raised-append (x ++ y) z
    ∙ ap (λ r. join_raised r (raised_by z)) (raised-append x y)
    ∙ ap (λ r. join_raised (join_raised r (raised_by y)) (raised_by z)) (raised-list-of a)
    ∙ ap (λ r. join_raised (join_raised a r) (raised_by z)) (raised-list-of b)
    ∙ ap (λ r. join_raised (join_raised a b) r) (raised-list-of c) in
    let right : raised_by (x ++ (y ++ z)) ≡ join_raised a (join_raised b c) =
    raised-append x (y ++ z)
    ∙ ap (λ r. join_raised (raised_by x) r) (raised-append y z)
    ∙ ap (λ r. join_raised r (join_raised (raised_by y) (raised_by z))) (raised-list-of a)
    ∙ ap (λ r. join_raised a (join_raised r (raised_by z))) (raised-list-of b)
    ∙ ap (λ r. join_raised a (join_raised b r)) (raised-list-of c) in
    sym left ∙ (ap raised_by (append_assoc x y z) ∙ right)

pub exits-assoc : (a b c : Exits) → join (join a b) c ≡ join a (join b c)
exits-assoc a b c =
    rw (
      or_assoc a.normal b.normal c.normal,
      or_assoc a.returns b.returns c.returns,
      or_assoc a.breaks b.breaks c.breaks,
      or_assoc a.continues b.continues c.continues,
      join-assoc a.raised b.raised c.raised,
    ) refl

-- what follows, and what follows that
pub after-assoc : (a b c : Exits) → after (after a b) c ≡ after a (after b c)
after-assoc a b c = go a.normal refl b.normal refl
  where
    go : (p : Bool) → a.normal ≡ p → (q : Bool) → b.normal ≡ q → after (after a b) c ≡ after a (after b c)
    go false e q f = rw e refl
    go true e false f = rw (e, f) refl
    go true e true f = rw (e, f) (exits-assoc (record a { normal = false }) (record b { normal = false }) c)

join-nothing : (r : Raised) → join_raised r Nothing ≡ r
join-nothing Nothing = refl
join-nothing (One e) = refl
join-nothing Several = refl

pub join-none : (x : Exits) → join x (only_raised Nothing) ≡ x
join-none x =
    rw (or-false x.normal, or-false x.returns, or-false x.breaks, or-false x.continues, join-nothing x.raised) refl

-- what is followed by nothing
pub after-normal : (x : Exits) → x ≡ after x (exits_of (Normal ∷ []))
after-normal x = go x.normal refl
  where
    go : (b : Bool) → x.normal ≡ b → x ≡ after x (exits_of (Normal ∷ []))
    go false e = rw e refl
    go true e = rw (e, or-false x.returns, or-false x.breaks, or-false x.continues, join-nothing x.raised) refl

-- the summary of a statement and what follows it
normal-out : (ends : List Exit) → exits_of (filter (λ exit. not (same_exit Normal exit)) ends) ≡ record (exits_of ends) { normal = false }
normal-out [] = refl
normal-out (Normal ∷ ends) = normal-out ends
normal-out (Return ∷ ends) = ap (λ (x : Exits). record x { returns = true }) (normal-out ends)
normal-out (Break ∷ ends) = ap (λ (x : Exits). record x { breaks = true }) (normal-out ends)
normal-out (Continue ∷ ends) = ap (λ (x : Exits). record x { continues = true }) (normal-out ends)
normal-out (Throw e ∷ ends) =
    exits-append (Throw e ∷ []) (filter (λ exit. not (same_exit Normal exit)) ends)
    ∙ ap (λ x. join (exits_of (Throw e ∷ [])) x) (normal-out ends)
    ∙ ap (λ (x : Exits). record x { normal = false }) (sym (exits-append (Throw e ∷ []) ends))

pub exits-then : (first rest : List Exit) → exits_of (then_exits first rest) ≡ after (exits_of first) (exits_of rest)
exits-then first rest = go (has_exit first Normal) refl
  where
    go : (b : Bool) → has_exit first Normal ≡ b → exits_of (then_exits first rest) ≡ after (exits_of first) (exits_of rest)
    go false e = rw e (ap (λ b. record (exits_of first) { normal = b }) e)
    go true e =
        rw e (exits-append (filter (λ exit. not (same_exit Normal exit)) first) rest
        ∙ ap (λ x. join x (exits_of rest)) (normal-out first))

throws-out : (ends : List Exit) (e : ℕ) → throws (filter (λ exit. not (same_exit Normal exit)) ends) e ≡ throws ends e
throws-out [] e = refl
throws-out (Normal ∷ ends) e = throws-out ends e
throws-out (Return ∷ ends) e = throws-out ends e
throws-out (Break ∷ ends) e = throws-out ends e
throws-out (Continue ∷ ends) e = throws-out ends e
throws-out (Throw x ∷ ends) e = ap (λ b. (e == x) || b) (throws-out ends e)

pub throws-then : (first rest : List Exit) (e : ℕ) → throws (then_exits first rest) e ≡ (throws first e || (has_exit first Normal && throws rest e))
throws-then first rest e = go (has_exit first Normal) refl
  where
    go : (b : Bool) → has_exit first Normal ≡ b → throws (then_exits first rest) e ≡ (throws first e || (has_exit first Normal && throws rest e))
    go false f = rw f (sym (or-false (throws first e)))
    go true f =
        rw f (list_any-append (same_exit (Throw e)) (filter (λ exit. not (same_exit Normal exit)) first) rest
        ∙ ap (λ b. b || throws rest e) (throws-out first e))

-- the summary of a loop
thrown-loop : (ends : List Exit) → thrown_in (filter leaves_loop ends) ≡ thrown_in ends
thrown-loop [] = refl
thrown-loop (Normal ∷ ends) = thrown-loop ends
thrown-loop (Return ∷ ends) = thrown-loop ends
thrown-loop (Break ∷ ends) = thrown-loop ends
thrown-loop (Continue ∷ ends) = thrown-loop ends
thrown-loop (Throw e ∷ ends) = ap (λ es. e ∷ es) (thrown-loop ends)

return-loop : (ends : List Exit) → has_exit (filter leaves_loop ends) Return ≡ has_exit ends Return
return-loop [] = refl
return-loop (Normal ∷ ends) = return-loop ends
return-loop (Return ∷ ends) = refl
return-loop (Break ∷ ends) = return-loop ends
return-loop (Continue ∷ ends) = return-loop ends
return-loop (Throw e ∷ ends) = return-loop ends

break-loop : (ends : List Exit) → has_exit (filter leaves_loop ends) Break ≡ false
break-loop [] = refl
break-loop (Normal ∷ ends) = break-loop ends
break-loop (Return ∷ ends) = break-loop ends
break-loop (Break ∷ ends) = break-loop ends
break-loop (Continue ∷ ends) = break-loop ends
break-loop (Throw e ∷ ends) = break-loop ends

continue-loop : (ends : List Exit) → has_exit (filter leaves_loop ends) Continue ≡ false
continue-loop [] = refl
continue-loop (Normal ∷ ends) = continue-loop ends
continue-loop (Return ∷ ends) = continue-loop ends
continue-loop (Break ∷ ends) = continue-loop ends
continue-loop (Continue ∷ ends) = continue-loop ends
continue-loop (Throw e ∷ ends) = continue-loop ends

pub loop-summary : (ends : List Exit) → exits_of (Normal ∷ filter leaves_loop ends) ≡ of_loop (exits_of ends)
loop-summary ends = rw (return-loop ends, break-loop ends, continue-loop ends, thrown-loop ends) refl

pub loop-throws : (ends : List Exit) (e : ℕ) → throws (Normal ∷ filter leaves_loop ends) e ≡ throws ends e
loop-throws [] e = refl
loop-throws (Normal ∷ ends) e = loop-throws ends e
loop-throws (Return ∷ ends) e = loop-throws ends e
loop-throws (Break ∷ ends) e = loop-throws ends e
loop-throws (Continue ∷ ends) e = loop-throws ends e
loop-throws (Throw x ∷ ends) e = ap (λ b. (e == x) || b) (loop-throws ends e)

pub loop-thrown : (es : List ℕ) (ends : List Exit) → filter leaves_loop (thrown_exits es ++ ends) ≡ thrown_exits es ++ filter leaves_loop ends
loop-thrown [] ends = refl
loop-thrown (e ∷ es) ends = ap (λ rest. Throw e ∷ rest) (loop-thrown es ends)

-- the summary of the exits that pass handlers
pub throws-pass : (handlers : Handlers) (ends : List Exit) (e : ℕ)
    → throws (filter (passes handlers) ends) e ≡ (throws ends e && not (handles handlers e))
throws-pass handlers [] e = refl
throws-pass handlers (Normal ∷ ends) e = throws-pass handlers ends e
throws-pass handlers (Return ∷ ends) e = throws-pass handlers ends e
throws-pass handlers (Break ∷ ends) e = throws-pass handlers ends e
throws-pass handlers (Continue ∷ ends) e = throws-pass handlers ends e
throws-pass handlers (Throw x ∷ ends) e = go (handles handlers x) refl (e == x) refl (throws-pass handlers ends e)
  where
    go : (taken : Bool) → handles handlers x ≡ taken → (same : Bool) → (e == x) ≡ same
        → throws (filter (passes handlers) ends) e ≡ (throws ends e && not (handles handlers e))
        → throws (filter (passes handlers) (Throw x ∷ ends)) e ≡ (((e == x) || throws ends e) && not (handles handlers e))
    go false f false g rest = rw (f, g) rest
    go false f true g rest = let is : e ≡ x = eqb-true e x g in rw (f, g) (rw (is, f) refl)
    go true f false g rest = rw (f, g) rest
    go true f true g rest =
        let is : e ≡ x = eqb-true e x g in
        let taken : handles handlers e ≡ true = rw is f in
        rw (f, g) (rest ∙ rw taken (and-false (throws ends e)))

module _ (handlers : Handlers) where
  normal-pass : (ends : List Exit) → has_exit (filter (passes handlers) ends) Normal ≡ has_exit ends Normal
  normal-pass [] = refl
  normal-pass (Normal ∷ ends) = refl
  normal-pass (Return ∷ ends) = normal-pass ends
  normal-pass (Break ∷ ends) = normal-pass ends
  normal-pass (Continue ∷ ends) = normal-pass ends
  normal-pass (Throw e ∷ ends) = go (handles handlers e) refl (normal-pass ends)
    where
      go : (b : Bool) → handles handlers e ≡ b → has_exit (filter (passes handlers) ends) Normal ≡ has_exit ends Normal
          → has_exit (filter (passes handlers) (Throw e ∷ ends)) Normal ≡ has_exit ends Normal
      go true f rest = rw f rest
      go false f rest = rw f rest

  return-pass : (ends : List Exit) → has_exit (filter (passes handlers) ends) Return ≡ has_exit ends Return
  return-pass [] = refl
  return-pass (Normal ∷ ends) = return-pass ends
  return-pass (Return ∷ ends) = refl
  return-pass (Break ∷ ends) = return-pass ends
  return-pass (Continue ∷ ends) = return-pass ends
  return-pass (Throw e ∷ ends) = go (handles handlers e) refl (return-pass ends)
    where
      go : (b : Bool) → handles handlers e ≡ b → has_exit (filter (passes handlers) ends) Return ≡ has_exit ends Return
          → has_exit (filter (passes handlers) (Throw e ∷ ends)) Return ≡ has_exit ends Return
      go true f rest = rw f rest
      go false f rest = rw f rest

  break-pass : (ends : List Exit) → has_exit (filter (passes handlers) ends) Break ≡ has_exit ends Break
  break-pass [] = refl
  break-pass (Normal ∷ ends) = break-pass ends
  break-pass (Return ∷ ends) = break-pass ends
  break-pass (Break ∷ ends) = refl
  break-pass (Continue ∷ ends) = break-pass ends
  break-pass (Throw e ∷ ends) = go (handles handlers e) refl (break-pass ends)
    where
      go : (b : Bool) → handles handlers e ≡ b → has_exit (filter (passes handlers) ends) Break ≡ has_exit ends Break
          → has_exit (filter (passes handlers) (Throw e ∷ ends)) Break ≡ has_exit ends Break
      go true f rest = rw f rest
      go false f rest = rw f rest

  continue-pass : (ends : List Exit) → has_exit (filter (passes handlers) ends) Continue ≡ has_exit ends Continue
  continue-pass [] = refl
  continue-pass (Normal ∷ ends) = continue-pass ends
  continue-pass (Return ∷ ends) = continue-pass ends
  continue-pass (Break ∷ ends) = continue-pass ends
  continue-pass (Continue ∷ ends) = refl
  continue-pass (Throw e ∷ ends) = go (handles handlers e) refl (continue-pass ends)
    where
      go : (b : Bool) → handles handlers e ≡ b → has_exit (filter (passes handlers) ends) Continue ≡ has_exit ends Continue
          → has_exit (filter (passes handlers) (Throw e ∷ ends)) Continue ≡ has_exit ends Continue
      go true f rest = rw f rest
      go false f rest = rw f rest

  pub exits-pass : (ends : List Exit) (raised : Raised) → raised ≡ raised_by (thrown_in (filter (passes handlers) ends))
      → record (exits_of ends) { raised = raised } ≡ exits_of (filter (passes handlers) ends)
  exits-pass ends raised is = rw (normal-pass ends, return-pass ends, break-pass ends, continue-pass ends, is) refl
