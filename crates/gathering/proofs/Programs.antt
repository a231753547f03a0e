-- Whole procedures and programs: what is gathered of a program of which each statement is reached stands for its demands.
use Rattle.std.proofs.Common.{◌≡◌, refl, sym, ap, ◌∙◌, subst, ℕ, suc, ◌+◌, ◌-◌, length, length-append, Bool, true, false, ◌||◌, List, [], ◌∷◌, ◌++◌, ⊎_elim, arith}
use Rattle.std.specs.Prelude.{IsTrue, Contains, Some, None, if◌then◌else◌, ◌==◌, flat_map}
use Rattle.std.proofs.lemmas.Bool.{or_left, or_right, eq-eqb}
use Rattle.std.proofs.lemmas.List.Elements.{Contains-append_cases, Contains-append_left, Contains-append_right}
use Rattle.lattices.specs.Constraints.{Written, Unknown, renamed, is_inner, IsGathered}
use Rattle.resolved.specs.declared.statement.Exit.{Exit}
use Rattle.resolved.specs.declared.statement.Exit.TheVariants.{Normal, Return, Break, Continue, Throw}
use Rattle.resolved.specs.declared.target.Target.TheVariants.{ToBegin, ToEnd, ToThrown}
use Rattle.resolved.specs.Program.{Program, ProcedureEntry, ThrownEntry, procedure_at}
use Rattle.resolved.specs.Exits.{one_exit}
use Rattle.resolved.specs.Labelled.{Unwritten, OfLoop, Scope, here, Join, one, label_of, ExitLabels, demand, exit_demands, program_demands}
use Rattle.resolved.specs.LabelRules.{block_rule, block_exit_labels, block_demands, procedure_demands, demands_from}
use Rattle.resolved.proofs.Judged.{demands-apart}
use Rattle.gathering.specs.Names.{Name, Real, Inner, is_inner_name, NamedAtom, NamedConstraint, real_unknowns}
use Rattle.gathering.specs.Walk.{inner_atom, rule_constraint, ExitUnknowns, nowhere, single, within_single, inner_block, block_constraints, thrown_number, declares, at_end, body_exits, has_one_exit, end_exit_unknowns, thrown_constraints, exit_constraints, procedure_constraints, made_by_procedure, constraints_from, program_constraints}
use Rattle.gathering.proofs.Atoms.{sub-same}
use Rattle.gathering.proofs.Reached.{PartIn, AgreesIn}
use Rattle.gathering.proofs.Closed.{Below, closed_by, Closed, Take, below-named, below-inner, closed-nil, closed-append, closed-rule_constraint, closed-block, closed-statements}
use Rattle.gathering.proofs.Fed.{Within, Fed, GivesAll, within-left, within-right, fed-named, fed-inner_atom, fed-block, fed-statements}
use Rattle.gathering.proofs.Stands.{One, one-append, one-single, one-rule, one-statements}
use Rattle.gathering.proofs.Meanings.{nth, Starts, starts-left, starts-right, starts-where, meanings_in, meanings_in-made, agrees_in-from}

abbrev pub begin_of : Scope → Join
begin_of scope = one (label_of scope.program (ToBegin scope.number))

abbrev pub begin_pc : Scope → NamedAtom
begin_pc scope = renamed Real (label_of scope.program (ToBegin scope.number))

abbrev pub exits_of : Scope → ExitLabels
exits_of scope = block_exit_labels scope (begin_of scope) (here scope).body

abbrev pub first_within : Scope → ℕ → ℕ
first_within scope n = suc n + length (here scope).throws

-- each statement of the procedures from number f on is reached
abbrev pub PartsFrom : Program → (f : ℕ) → List ProcedureEntry → Type 0
PartsFrom program f [] = Unit {0}
PartsFrom program f (procedure ∷ rest) = PartIn program (procedure_at program f).body × PartsFrom program (suc f) rest

-- what the inner unknowns of a procedure stand for
module _ (m : ℕ → Join) where
  abbrev AgreesOf : Scope → ℕ → Type 0
  AgreesOf scope n =
      (m n ≡ (exits_of scope Normal ++ exits_of scope Return))
      × ((x : ℕ) → declares (here scope).throws x ≡ true → m (thrown_number (here scope).throws (suc n) x) ≡ exits_of scope (Throw x))
      × AgreesIn scope m (first_within scope n) (begin_of scope) (here scope).body

  abbrev AgreesFrom : Program → (f n : ℕ) → List ProcedureEntry → Type 0
  AgreesFrom program f n [] = Unit {0}
  AgreesFrom program f n (procedure ∷ rest) =
      AgreesOf (record { program = program; number = f }) n × AgreesFrom program (suc f) (n + made_by_procedure (record { program = program; number = f })) rest

  at_end-take : (scope : Scope) (n : ℕ) → AgreesOf scope n → (ends : List Exit) → Take m ends (at_end n (here scope).throws) (exits_of scope)
  at_end-take scope n agrees ends Normal k h is a there =
      let same : n ≡ k = cc in subst (λ z. Contains (m z) a) same (sub-same _ (m n) (sym agrees.0) a (Contains-append_left (exits_of scope Normal) (exits_of scope Return) a there))
  at_end-take scope n agrees ends Return k h is a there =
      let same : n ≡ k = cc in subst (λ z. Contains (m z) a) same (sub-same _ (m n) (sym agrees.0) a (Contains-append_right (exits_of scope Normal) (exits_of scope Return) a there))
  at_end-take scope n agrees ends Break k h is a there = absurd (cc)
  at_end-take scope n agrees ends Continue k h is a there = absurd (cc)
  at_end-take scope n agrees ends (Throw x) k h is a there = go (declares (here scope).throws x) refl is
    where
      go : (b : Bool) → declares (here scope).throws x ≡ b → (if b then Some (thrown_number (here scope).throws (suc n) x) else None) ≡ Some k → Contains (m k) a
      go true e is =
          let same : thrown_number (here scope).throws (suc n) x ≡ k = cc in
          subst (λ z. Contains (m z) a) same (sub-same (exits_of scope (Throw x)) (m (thrown_number (here scope).throws (suc n) x)) (sym (agrees.1 x e)) a there)
      go false e is = absurd (cc)

  end-take : (scope : Scope) (n : ℕ) → AgreesOf scope n → Take m (body_exits scope) (end_exit_unknowns scope n) (exits_of scope)
  end-take scope n agrees = go (has_one_exit scope)
    where
      go : (b : Bool) → Take m (body_exits scope) (if b then nowhere else at_end n (here scope).throws) (exits_of scope)
      go true = λ e k h is a there. let i : None ≡ Some k = is in absurd (cc)
      go false = at_end-take scope n agrees (body_exits scope)

  closed-thrown : (scope : Scope) (number : ℕ → ℕ) (throws : List ThrownEntry) → Closed m (thrown_constraints scope number throws)
  closed-thrown scope number [] = closed-nil m
  closed-thrown scope number (entry ∷ rest) =
      closed-append m (rule_constraint scope (here scope).at 13 (inner_atom (number entry.exception) ∷ []) (ToThrown scope.number entry.exception)) (thrown_constraints scope number rest)
      (closed-rule_constraint m scope (here scope).at 13 (inner_atom (number entry.exception) ∷ []) (ToThrown scope.number entry.exception)) (closed-thrown scope number rest)

  closed-ends : (scope : Scope) (n : ℕ) → Closed m (exit_constraints scope n)
  closed-ends scope n = go (has_one_exit scope)
    where
      go : (b : Bool) → Closed m (if b then [] else (rule_constraint scope (here scope).at 13 (inner_atom n ∷ []) (ToEnd scope.number) ++ thrown_constraints scope (λ x. thrown_number (here scope).throws (suc n) x) (here scope).throws))
      go true = closed-nil m
      go false = closed-append m (rule_constraint scope (here scope).at 13 (inner_atom n ∷ []) (ToEnd scope.number)) (thrown_constraints scope (λ x. thrown_number (here scope).throws (suc n) x) (here scope).throws)
          (closed-rule_constraint m scope (here scope).at 13 (inner_atom n ∷ []) (ToEnd scope.number)) (closed-thrown scope (λ x. thrown_number (here scope).throws (suc n) x) (here scope).throws)

  closed-procedure : (scope : Scope) (n : ℕ) → PartIn scope.program (here scope).body → AgreesOf scope n → Closed m (procedure_constraints scope n)
  closed-procedure scope n part agrees =
      let p : NamedAtom = begin_pc scope in
      closed-append m (inner_block scope p (end_exit_unknowns scope n) (first_within scope n) (here scope).body) (exit_constraints scope n)
      (closed-block m (body_exits scope) p (end_exit_unknowns scope n) (begin_of scope) (block_rule scope (begin_of scope) (here scope).body)
      (λ t. block_constraints scope true p t (first_within scope n) (here scope).body) (below-named m (begin_of scope)) (end-take scope n agrees)
      (λ t fit. closed-statements m scope (here scope).body true p (begin_of scope) t (first_within scope n) part agrees.2 (below-named m (begin_of scope)) fit))
      (closed-ends scope n)

  closed-from : (program : Program) (f n : ℕ) (ps : List ProcedureEntry) → PartsFrom program f ps → AgreesFrom program f n ps → Closed m (constraints_from program f n ps)
  closed-from program f n [] parts agrees = closed-nil m
  closed-from program f n (procedure ∷ rest) parts agrees =
      let scope : Scope = record { program = program; number = f } in
      closed-append m (procedure_constraints scope n) (constraints_from program (suc f) (n + made_by_procedure scope) rest)
      (closed-procedure scope n parts.0 agrees.0) (closed-from program (suc f) (n + made_by_procedure scope) rest parts.1 agrees.1)

  module _ (cs : List NamedConstraint) (closed : Closed m cs) where
    one-thrown : (scope : Scope) (number : ℕ → ℕ) (x : ExitLabels) (throws : List ThrownEntry) →
        ((y : ℕ) → declares throws y ≡ true → Below m (inner_atom (number y) ∷ []) (x (Throw y)) × Fed cs (inner_atom (number y) ∷ []) (x (Throw y))) →
        One cs (flat_map (λ (entry : ThrownEntry). demand scope.program (here scope).at 13 (x (Throw entry.exception)) (ToThrown scope.number entry.exception)) throws) (thrown_constraints scope number throws)
    one-thrown scope number x [] each = tt
    one-thrown scope number x (entry ∷ rest) each =
        let own : Below m (inner_atom (number entry.exception) ∷ []) (x (Throw entry.exception)) × Fed cs (inner_atom (number entry.exception) ∷ []) (x (Throw entry.exception)) =
        each entry.exception (or_left (entry.exception == entry.exception) (declares rest entry.exception) (eq-eqb entry.exception entry.exception refl)) in
        one-append cs (demand scope.program (here scope).at 13 (x (Throw entry.exception)) (ToThrown scope.number entry.exception))
        (flat_map (λ (entry : ThrownEntry). demand scope.program (here scope).at 13 (x (Throw entry.exception)) (ToThrown scope.number entry.exception)) rest)
        (rule_constraint scope (here scope).at 13 (inner_atom (number entry.exception) ∷ []) (ToThrown scope.number entry.exception)) (thrown_constraints scope number rest)
        (one-rule cs m closed scope (here scope).at 13 (inner_atom (number entry.exception) ∷ []) (x (Throw entry.exception)) (ToThrown scope.number entry.exception) own.0 own.1)
        (one-thrown scope number x rest (λ y h. each y (or_right (y == entry.exception) (declares rest y) h)))

    one-ends : (scope : Scope) (n : ℕ) → AgreesOf scope n → GivesAll cs (end_exit_unknowns scope n) (exits_of scope) → One cs (exit_demands scope (body_exits scope) (exits_of scope)) (exit_constraints scope n)
    one-ends scope n agrees gives = go (has_one_exit scope) gives
      where
        go : (b : Bool) → GivesAll cs (if b then nowhere else at_end n (here scope).throws) (exits_of scope) →
            One cs (if b then [] else (demand scope.program (here scope).at 13 (exits_of scope Normal ++ exits_of scope Return) (ToEnd scope.number)
            ++ flat_map (λ (entry : ThrownEntry). demand scope.program (here scope).at 13 (exits_of scope (Throw entry.exception)) (ToThrown scope.number entry.exception)) (here scope).throws))
            (if b then [] else (rule_constraint scope (here scope).at 13 (inner_atom n ∷ []) (ToEnd scope.number) ++ thrown_constraints scope (λ x. thrown_number (here scope).throws (suc n) x) (here scope).throws))
        go true given = tt
        go false given =
            let number : ℕ → ℕ = λ x. thrown_number (here scope).throws (suc n) x in
            let whole : Join = exits_of scope Normal ++ exits_of scope Return in
            one-append cs (demand scope.program (here scope).at 13 whole (ToEnd scope.number))
            (flat_map (λ (entry : ThrownEntry). demand scope.program (here scope).at 13 (exits_of scope (Throw entry.exception)) (ToThrown scope.number entry.exception)) (here scope).throws)
            (rule_constraint scope (here scope).at 13 (inner_atom n ∷ []) (ToEnd scope.number)) (thrown_constraints scope number (here scope).throws)
            (one-rule cs m closed scope (here scope).at 13 (inner_atom n ∷ []) whole (ToEnd scope.number) (below-inner m n whole agrees.0)
            (fed-inner_atom cs n whole (λ a there. ⊎_elim (λ t. given Normal n refl a t) (λ t. given Return n refl a t) (Contains-append_cases (exits_of scope Normal) (exits_of scope Return) a there))))
            (one-thrown scope number (exits_of scope) (here scope).throws (λ y h.
            (below-inner m (number y) (exits_of scope (Throw y)) (agrees.1 y h), fed-inner_atom cs (number y) (exits_of scope (Throw y)) (given (Throw y) (number y) (rw h refl)))))

    one-procedure : (scope : Scope) (n : ℕ) → PartIn scope.program (here scope).body → AgreesOf scope n → Within cs (procedure_constraints scope n) → One cs (procedure_demands scope) (procedure_constraints scope n)
    one-procedure scope n part agrees within =
        let p : NamedAtom = begin_pc scope in
        let ends : List Exit = body_exits scope in
        let exit_unknowns : ExitUnknowns = end_exit_unknowns scope n in
        let own : List NamedConstraint = single (one_exit ends) p exit_unknowns ends in
        let walked : List NamedConstraint = block_constraints scope true p (within_single (one_exit ends) exit_unknowns) (first_within scope n) (here scope).body in
        let in_body : Within cs (own ++ walked) = within-left cs (own ++ walked) (exit_constraints scope n) within in
        let gives : GivesAll cs exit_unknowns (exits_of scope) = fed-block cs ends p exit_unknowns (begin_of scope) (block_rule scope (begin_of scope) (here scope).body)
        (λ t. block_constraints scope true p t (first_within scope n) (here scope).body) in_body (fed-named cs (begin_of scope))
        (λ t w. fed-statements cs scope (here scope).body true p (begin_of scope) t (first_within scope n) part (λ i. absurd (cc)) (fed-named cs (begin_of scope)) w) in
        one-append cs (block_demands scope (begin_of scope) (here scope).body) (exit_demands scope ends (exits_of scope)) (own ++ walked) (exit_constraints scope n)
        (one-append cs [] (block_demands scope (begin_of scope) (here scope).body) own walked (one-single cs (one_exit ends) p exit_unknowns ends)
        (one-statements cs m closed scope (here scope).body true p (begin_of scope) (within_single (one_exit ends) exit_unknowns) (first_within scope n) part agrees.2
        (below-named m (begin_of scope)) (fed-named cs (begin_of scope)) (within-right cs own walked in_body)))
        (one-ends scope n agrees gives)

    one-from : (program : Program) (f n : ℕ) (ps : List ProcedureEntry) → PartsFrom program f ps → AgreesFrom program f n ps → Within cs (constraints_from program f n ps) →
        One cs (demands_from program f ps) (constraints_from program f n ps)
    one-from program f n [] parts agrees within = tt
    one-from program f n (procedure ∷ rest) parts agrees within =
        let scope : Scope = record { program = program; number = f } in
        one-append cs (procedure_demands scope) (demands_from program (suc f) rest) (procedure_constraints scope n) (constraints_from program (suc f) (n + made_by_procedure scope) rest)
        (one-procedure scope n parts.0 agrees.0 (within-left cs (procedure_constraints scope n) (constraints_from program (suc f) (n + made_by_procedure scope) rest) within))
        (one-from program (suc f) (n + made_by_procedure scope) rest parts.1 agrees.1 (within-right cs (procedure_constraints scope n) (constraints_from program (suc f) (n + made_by_procedure scope) rest) within))

abbrev pub real_of : Name → Unwritten
real_of (Real u) = u
real_of (Inner k) = OfLoop 0 0

-- what makes a program's constraints gathered, by the names of the unknowns
pub record Gathers (program : Program) : Type 0 where
  pub one_by_one : One (program_constraints program) (program_demands program) (program_constraints program)
  pub no_target : (c : NamedConstraint) → Contains (program_constraints program) c → IsTrue (is_inner is_inner_name c.right) → c.target ≡ None

abbrev pub gathered_by : (program : Program) → Gathers program → IsGathered (program_demands program) (program_constraints program)
gathered_by program gathers = record {
  number = Real;
  name = real_of;
  inner = is_inner_name;
  named = λ u occurs. refl;
  one_by_one = gathers.one_by_one;
  no_target = gathers.no_target;
}

-- where there are meanings for the inner unknowns
program-gathers : (program : Program) (m : ℕ → Join) → PartsFrom program 0 program.procedures → AgreesFrom m program 0 (real_unknowns program) program.procedures → Gathers program
program-gathers program m parts agrees =
    let cs : List NamedConstraint = program_constraints program in
    let closed : Closed m cs = closed-from m program 0 (real_unknowns program) program.procedures parts agrees in
    record {
      one_by_one = subst (λ demands. One cs demands cs) (sym (demands-apart program))
          (one-from m cs closed program 0 (real_unknowns program) program.procedures parts agrees (λ c h. h));
      no_target = λ c h e. untargeted c c.right refl e (closed c h);
    }
  where
    untargeted : (c : NamedConstraint) (r : NamedAtom) → c.right ≡ r → IsTrue (is_inner is_inner_name c.right) → closed_by m c.right c.left c.target → c.target ≡ None
    untargeted c (Written v) is e closed = let i : false ≡ true = sym (ap (is_inner is_inner_name) is) ∙ e in absurd (cc)
    untargeted c (Unknown (Real u)) is e closed = let i : false ≡ true = sym (ap (is_inner is_inner_name) is) ∙ e in absurd (cc)
    untargeted c (Unknown (Inner k)) is e closed = let both : Below m c.left (m k) × (c.target ≡ None) = subst (λ r. closed_by m r c.left c.target) is closed in both.1

-- ---- meanings for the inner unknowns of a program
abbrev thrown_at : ExitLabels → List ThrownEntry → List Join
thrown_at x [] = []
thrown_at x (entry ∷ rest) = x (Throw entry.exception) ∷ thrown_at x rest

thrown-length : (x : ExitLabels) (throws : List ThrownEntry) → length (thrown_at x throws) ≡ length throws
thrown-length x [] = refl
thrown-length x (entry ∷ rest) = ap suc (thrown-length x rest)

abbrev meanings_of : Scope → List Join
meanings_of scope =
    (exits_of scope Normal ++ exits_of scope Return) ∷ (thrown_at (exits_of scope) (here scope).throws ++ meanings_in scope (begin_of scope) (here scope).body)

meanings_of-made : (scope : Scope) → length (meanings_of scope) ≡ made_by_procedure scope
meanings_of-made scope =
    ap suc (length-append (thrown_at (exits_of scope) (here scope).throws) (meanings_in scope (begin_of scope) (here scope).body)
    ∙ ap (λ k. k + length (meanings_in scope (begin_of scope) (here scope).body)) (thrown-length (exits_of scope) (here scope).throws)
    ∙ ap (λ k. length (here scope).throws + k) (meanings_in-made scope (here scope).body (begin_of scope)))

abbrev meanings_from : Program → (f : ℕ) → List ProcedureEntry → List Join
meanings_from program f [] = []
meanings_from program f (procedure ∷ rest) = meanings_of (record { program = program; number = f }) ++ meanings_from program (suc f) rest

module _ (m : ℕ → Join) where
  thrown-named : (throws : List ThrownEntry) (x : ExitLabels) (n : ℕ) → Starts m n (thrown_at x throws) → (y : ℕ) → declares throws y ≡ true → m (thrown_number throws n y) ≡ x (Throw y)
  thrown-named [] x n h y is = let i : false ≡ true = is in absurd (cc)
  thrown-named (entry ∷ rest) x n h y is = go (y == entry.exception) refl is (thrown-named rest x (suc n) h.1 y)
    where
      go : (b : Bool) → (y == entry.exception) ≡ b → (b || declares rest y) ≡ true → (declares rest y ≡ true → m (thrown_number rest (suc n) y) ≡ x (Throw y)) →
          m (if b then n else thrown_number rest (suc n) y) ≡ x (Throw y)
      go true e k next = let same : entry.exception ≡ y = grind (arith, e) in h.0 ∙ ap (λ z. x (Throw z)) same
      go false e k next = next k

  agrees_of-from : (scope : Scope) (n : ℕ) → Starts m n (meanings_of scope) → AgreesOf m scope n
  agrees_of-from scope n h =
      let xs : List Join = thrown_at (exits_of scope) (here scope).throws in
      let ys : List Join = meanings_in scope (begin_of scope) (here scope).body in (
        h.0,
        thrown-named (here scope).throws (exits_of scope) (suc n) (starts-left m (suc n) xs ys h.1),
        agrees_in-from scope m (here scope).body (first_within scope n) (begin_of scope)
            (subst (λ k. Starts m (suc n + k) ys) (thrown-length (exits_of scope) (here scope).throws) (starts-right m (suc n) xs ys h.1)),
      )

  agrees_from-from : (program : Program) (f n : ℕ) (ps : List ProcedureEntry) → Starts m n (meanings_from program f ps) → AgreesFrom m program f n ps
  agrees_from-from program f n [] h = tt
  agrees_from-from program f n (procedure ∷ rest) h =
      let scope : Scope = record { program = program; number = f } in (
        agrees_of-from scope n (starts-left m n (meanings_of scope) (meanings_from program (suc f) rest) h),
        agrees_from-from program (suc f) (n + made_by_procedure scope) rest
            (subst (λ k. Starts m (n + k) (meanings_from program (suc f) rest)) (meanings_of-made scope) (starts-right m n (meanings_of scope) (meanings_from program (suc f) rest) h)),
      )

-- a program of which each statement is reached is gathered
pub all-gathers : (program : Program) → PartsFrom program 0 program.procedures → Gathers program
all-gathers program parts =
    let js : List Join = meanings_from program 0 program.procedures in
    let first : ℕ = real_unknowns program in
    let m : ℕ → Join = λ k. nth js (k - first) in
    program-gathers program m parts (agrees_from-from m program 0 first program.procedures
    (starts-where m js first (λ i. let e : (first + i) - first ≡ i = omega arith in ap (nth js) e)))
