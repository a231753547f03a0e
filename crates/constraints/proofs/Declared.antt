-- The exit unknowns of declared exceptions, and the demands on them.
use Rattle.std.proofs.Common.{◌≡◌, refl, sym, ap, ◌∙◌, subst, ℕ, suc, ◌+◌, ◌<◌, ◌≤◌, List, [], ◌∷◌, ◌++◌, map, take, length, get_or, Bool, true, false, arith, eq-eqb, eqb-true}
use Rattle.std.specs.Prelude.{Some, None, if◌then◌else◌, ◌==◌, ◌||◌}
use Rattle.std.proofs.lemmas.Bool.{lt-ltb, le-ltb, or_right}
use Rattle.std.proofs.lemmas.List.{length-map, length-take-le}
use Rattle.common.proofs.Cases.{map_next}
use Rattle.labels.specs.Label.{Label}
use Rattle.resolved.specs.Labelled.{Scope, here}
use Rattle.resolved.specs.Program.{ThrownEntry}
use Rattle.resolved.specs.ProgramOf.{thrown_entry}
use Rattle.resolved.specs.declared.program.Core.{Core}
use Rattle.resolved.specs.declared.statement.Exit.{Exit}
use Rattle.resolved.specs.declared.statement.Exit.TheVariants.{Normal, Return, Break, Continue, Throw}
use Rattle.resolved.specs.declared.tables.Thrown.{Thrown}
use Rattle.resolved.specs.declared.target.Target.TheVariants.{ToThrown}
use Rattle.gathering.specs.Names.{NamedConstraint}
use Rattle.gathering.specs.Walk.{at_end, declares, inner_atom, nowhere, rule_constraint, thrown_constraints, thrown_number}
use Rattle.constraints.specs.Added.{AreAdded, Stored}
use Rattle.constraints.specs.LeftSides.{scope_of}
use Rattle.constraints.specs.Procedures.{AreDeclaredExitUnknowns, declared_entry, end_exit_unknowns_of, number_in}
use Rattle.constraints.specs.ExitUnknowns.{AreWithin, entry_after, no_entry, exit_unknown_of, exit_unknowns_of}
use Rattle.constraints.specs.declared.exit_unknowns.ExitUnknown.{ExitUnknown}
use Rattle.constraints.proofs.Added.{added-same, added-then}

abbrev entry_at : (n level : ℕ) → ExitUnknown
entry_at n level = record { number = n; level = level }

-- ---- one more
declared-append : (xs : List ThrownEntry) (x : ThrownEntry) (n level e : ℕ) (old : ExitUnknown) → (old.level == level) ≡ false
    → declared_entry (xs ++ x ∷ []) n level e old ≡ entry_after x.exception (entry_at (n + length xs) level) e (declared_entry xs n level e old)
declared-append [] x n level e old free =
    let same : n + 0 ≡ n = omega arith in
    go (e == x.exception) (old.level == level) free
  where
    go : (test has : Bool) → has ≡ false
        → (if test then entry_at n level else old) ≡ (if test then (if has then old else entry_at (n + 0) level) else old)
    go true true is = absurd (cc)
    go true false is = ap (λ k. entry_at k level) (let same : n ≡ n + 0 = omega arith in same)
    go false has is = refl
declared-append (y ∷ xs) x n level e old free =
    go (e == y.exception) (declared-append xs x (suc n) level e old free)
  where
    same : (level == level) ≡ true
    same = eq-eqb level level refl

    total : suc n + length xs ≡ n + suc (length xs)
    total = omega arith

    taken : (b : Bool) → entry_at n level ≡ (if b then (if level == level then entry_at n level else entry_at (n + suc (length xs)) level) else entry_at n level)
    taken true = sym (ap (λ t. if t then entry_at n level else entry_at (n + suc (length xs)) level) same)
    taken false = refl

    go : (test : Bool)
        → declared_entry (xs ++ x ∷ []) (suc n) level e old ≡ entry_after x.exception (entry_at (suc n + length xs) level) e (declared_entry xs (suc n) level e old)
        → (if test then entry_at n level else declared_entry (xs ++ x ∷ []) (suc n) level e old)
        ≡ entry_after x.exception (entry_at (n + suc (length xs)) level) e (if test then entry_at n level else declared_entry xs (suc n) level e old)
    go true rest = taken (e == x.exception)
    go false rest = rest ∙ ap (λ k. entry_after x.exception (entry_at k level) e (declared_entry xs (suc n) level e old)) total

pub declared-next : (labels : List Label) (throws : List Thrown) (i : ℕ) (x : Thrown) (n number level e : ℕ) (before after old : ExitUnknown)
    → i < length throws → x ≡ get_or throws i x → number ≡ n + i → (old.level == level) ≡ false
    → before ≡ declared_entry (map (thrown_entry labels) (take i throws)) n level e old
    → after ≡ entry_after x.exception (entry_at number level) e before
    → after ≡ declared_entry (map (thrown_entry labels) (take (i + 1) throws)) n level e old
declared-next labels throws i x n number level e before after old inside is counted free was taken =
    let xs : List ThrownEntry = map (thrown_entry labels) (take i throws) in
    let within : i ≤ length throws = omega (arith, inside) in
    let count : length xs ≡ i = length-map (take i throws) (thrown_entry labels) ∙ length-take-le i throws within in
    taken ∙ (ap (entry_after x.exception (entry_at number level) e) was
    ∙ (ap (λ k. entry_after x.exception (entry_at k level) e (declared_entry xs n level e old)) (counted ∙ ap (λ k. n + k) (sym count))
    ∙ (sym (declared-append xs (thrown_entry labels x) n level e old free)
    ∙ ap (λ list. declared_entry list n level e old) (sym (map_next (thrown_entry labels) throws i x inside is)))))

-- a level that no entry has
pub level-free : (barrier level : ℕ) (old : ExitUnknown) → barrier < level → old.level ≤ barrier → (old.level == level) ≡ false
level-free barrier level old below within = go (old.level == level) refl
  where
    go : (b : Bool) → (old.level == level) ≡ b → b ≡ false
    go true is = let same : old.level ≡ level = eqb-true old.level level is in absurd (omega (arith, same, below, within))
    go false is = refl

-- ---- the exit unknowns of a procedure's exits
declared-exit_unknown : (throws : List ThrownEntry) (n barrier level e : ℕ) (old : ExitUnknown) → barrier < level → old.level ≤ barrier
    → exit_unknown_of barrier (declared_entry throws n level e old) ≡ (if declares throws e then Some (thrown_number throws n e) else None)
declared-exit_unknown [] n barrier level e old below within = ap (λ b. if b then Some old.number else None) (le-ltb barrier old.level within)
declared-exit_unknown (x ∷ xs) n barrier level e old below within =
    go (e == x.exception) (declared-exit_unknown xs (suc n) barrier level e old below within)
  where
    go : (test : Bool)
        → exit_unknown_of barrier (declared_entry xs (suc n) level e old) ≡ (if declares xs e then Some (thrown_number xs (suc n) e) else None)
        → exit_unknown_of barrier (if test then entry_at n level else declared_entry xs (suc n) level e old)
        ≡ (if test || declares xs e then Some (if test then n else thrown_number xs (suc n) e) else None)
    go true rest = ap (λ b. if b then Some n else None) (lt-ltb barrier level below)
    go false rest = rest

pub exit_unknowns-at-end : (throws : List ThrownEntry) (n barrier level : ℕ) (only : Bool) (old new : List ExitUnknown) → barrier < level → AreWithin barrier old
    → AreWithin level new → AreDeclaredExitUnknowns throws (suc n) level old new
    → exit_unknowns_of (end_exit_unknowns_of n barrier level only) new ≡ (if only then nowhere else at_end n throws)
exit_unknowns-at-end throws n barrier level true old new below within levelled taken = λ i exit. each exit i
  where
    each : (exit : Exit) → exit_unknowns_of (end_exit_unknowns_of n barrier level true) new exit ≡ nowhere exit
    each Normal = refl
    each Return = refl
    each Break = refl
    each Continue = refl
    each (Throw e) =
        let entry : ExitUnknown = get_or new e no_entry in
        ap (λ b. if b then Some entry.number else None) (le-ltb level entry.level (levelled e))
exit_unknowns-at-end throws n barrier level false old new below within levelled taken = λ i exit. each exit i
  where
    each : (exit : Exit) → exit_unknowns_of (end_exit_unknowns_of n barrier level false) new exit ≡ at_end n throws exit
    each Normal = refl
    each Return = refl
    each Break = refl
    each Continue = refl
    each (Throw e) =
        ap (exit_unknown_of barrier) (taken e) ∙ declared-exit_unknown throws (suc n) barrier level e (get_or old e no_entry) below (within e)

-- no level is above that of the procedure
declared-within : (throws : List ThrownEntry) (n level e : ℕ) (old : ExitUnknown) → old.level ≤ level → (declared_entry throws n level e old).level ≤ level
declared-within [] n level e old within = within
declared-within (x ∷ xs) n level e old within = go (e == x.exception) (declared-within xs (suc n) level e old within)
  where
    go : (test : Bool) → (declared_entry xs (suc n) level e old).level ≤ level → (if test then entry_at n level else declared_entry xs (suc n) level e old).level ≤ level
    go true rest = omega arith
    go false rest = rest

pub taken-within : (throws : List ThrownEntry) (n barrier level : ℕ) (old new : List ExitUnknown) → barrier ≤ level → AreWithin barrier old
    → AreDeclaredExitUnknowns throws n level old new → AreWithin level new
taken-within throws n barrier level old new below within taken = λ e.
    let had : (get_or old e no_entry).level ≤ barrier = within e in
    subst (λ (entry : ExitUnknown). entry.level ≤ level) (sym (taken e)) (declared-within throws n level e (get_or old e no_entry) (omega (arith, had, below)))

-- ---- the demands on declared exceptions
declared-number : (throws : List ThrownEntry) (n level e : ℕ) (old : ExitUnknown) → declares throws e ≡ true
    → (declared_entry throws n level e old).number ≡ thrown_number throws n e
declared-number [] n level e old is = absurd (cc)
declared-number (x ∷ xs) n level e old is = go (e == x.exception) (declared-number xs (suc n) level e old) is
  where
    go : (test : Bool) → (declares xs e ≡ true → (declared_entry xs (suc n) level e old).number ≡ thrown_number xs (suc n) e) → (test || declares xs e) ≡ true
        → (if test then entry_at n level else declared_entry xs (suc n) level e old).number ≡ (if test then n else thrown_number xs (suc n) e)
    go true rest has = refl
    go false rest has = rest has

thrown-same : (scope : Scope) (f g : ℕ → ℕ) (throws : List ThrownEntry) → ((e : ℕ) → declares throws e ≡ true → f e ≡ g e)
    → thrown_constraints scope f throws ≡ thrown_constraints scope g throws
thrown-same scope f g [] same = refl
thrown-same scope f g (x ∷ xs) same =
    let first : declares (x ∷ xs) x.exception ≡ true = ap (λ b. b || declares xs x.exception) (eq-eqb x.exception x.exception refl) in
    ap (λ k. rule_constraint scope (here scope).at 13 (inner_atom k ∷ []) (ToThrown scope.number x.exception) ++ thrown_constraints scope f xs) (same x.exception first)
    ∙ ap (λ cs. rule_constraint scope (here scope).at 13 (inner_atom (g x.exception) ∷ []) (ToThrown scope.number x.exception) ++ cs)
    (thrown-same scope f g xs (λ e has. same e (or_right (e == x.exception) (declares xs e) has)))

pub thrown-numbers : (scope : Scope) (throws : List ThrownEntry) (n level : ℕ) (old new : List ExitUnknown) → AreDeclaredExitUnknowns throws n level old new
    → thrown_constraints scope (number_in new) throws ≡ thrown_constraints scope (λ x. thrown_number throws n x) throws
thrown-numbers scope throws n level old new taken =
    thrown-same scope (number_in new) (λ x. thrown_number throws n x) throws
    (λ e has. ap (λ (entry : ExitUnknown). entry.number) (taken e) ∙ declared-number throws n level e (get_or old e no_entry) has)

thrown-append : (scope : Scope) (f : ℕ → ℕ) (xs : List ThrownEntry) (x : ThrownEntry)
    → thrown_constraints scope f (xs ++ x ∷ [])
    ≡ thrown_constraints scope f xs ++ rule_constraint scope (here scope).at 13 (inner_atom (f x.exception) ∷ []) (ToThrown scope.number x.exception)
thrown-append scope f [] x = refl
thrown-append scope f (y ∷ xs) x =
    ap (λ cs. rule_constraint scope (here scope).at 13 (inner_atom (f y.exception) ∷ []) (ToThrown scope.number y.exception) ++ cs) (thrown-append scope f xs x)

pub demands-next : (core : Core) (table : List Label) (f at : ℕ) (number : ℕ → ℕ) (throws : List Thrown) (i : ℕ) (x : Thrown) (old middle new : List Stored)
    → i < length throws → x ≡ get_or throws i x → at ≡ (here (scope_of core f)).at
    → AreAdded core table (thrown_constraints (scope_of core f) number (map (thrown_entry core.labels) (take i throws))) old middle
    → AreAdded core table (rule_constraint (scope_of core f) at 13 (inner_atom (number x.exception) ∷ []) (ToThrown f x.exception)) middle new
    → AreAdded core table (thrown_constraints (scope_of core f) number (map (thrown_entry core.labels) (take (i + 1) throws))) old new
demands-next core table f at number throws i x old middle new inside is stands first second =
    let scope : Scope = scope_of core f in
    let before : List ThrownEntry = map (thrown_entry core.labels) (take i throws) in
    let last : ℕ → List NamedConstraint = λ a. rule_constraint scope a 13 (inner_atom (number x.exception) ∷ []) (ToThrown f x.exception) in
    added-same core table (thrown_constraints scope number (map (thrown_entry core.labels) (take (i + 1) throws))) (thrown_constraints scope number before ++ last at) old new
    (ap (thrown_constraints scope number) (map_next (thrown_entry core.labels) throws i x inside is)
    ∙ (thrown-append scope number before (thrown_entry core.labels x) ∙ ap (λ a. thrown_constraints scope number before ++ last a) (sym stands)))
    (added-then core table (thrown_constraints scope number before) (last at) old middle new first second)
