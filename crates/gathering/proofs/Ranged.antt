-- What is gathered of a well-formed program has unknowns that are in range: labels of its locals and loops, and inner unknowns
-- that were made.
use Rattle.std.proofs.Common.{◌≡◌, refl, subst, ℕ, zero, suc, ◌+◌, ◌<◌, ◌≤◌, length, Bool, true, false, ◌&&◌, ◌||◌, List, [], ◌∷◌, ◌++◌, ⊎_elim, arith}
use Rattle.std.specs.Prelude.{Contains, Option, Some, None, if◌then◌else◌, ◌==◌, slice_get}
use Rattle.std.proofs.lemmas.Bool.{and_parts, or_left, or_right, eq-eqb}
use Rattle.std.proofs.lemmas.List.Elements.{Contains-append_cases, Contains-append_left, Contains-append_right}
use Rattle.common.proofs.Elements.{none_in_nil, Contains-cons_cases, Contains-later, Contains-first}
use Rattle.labels.specs.Label.{Label}
use Rattle.lattices.specs.Constraints.{Written, Unknown, renamed}
use Rattle.common.specs.declared.base_type.BaseType.{BaseType}
use Rattle.common.specs.declared.base_type.BaseType.TheVariants.{Int, Boolean}
use Rattle.resolved.specs.declared.expression.Variable.{Variable}
use Rattle.resolved.specs.declared.expression.Variable.TheVariants.{Global, Local}
use Rattle.resolved.specs.declared.statement.Exit.{Exit}
use Rattle.resolved.specs.declared.statement.Exit.TheVariants.{Normal, Return, Break, Continue, Throw}
use Rattle.resolved.specs.declared.target.Target.{Target}
use Rattle.resolved.specs.declared.target.Target.TheVariants.{ToVariable, ToChannel, ToBegin, ToParameter, ToValue, ToEnd, ToThrown, ToLoop}
use Rattle.resolved.specs.Tree.{Expression, Integer, Logical, Read, Element, Unary, Binary, Short, Statement, Placed, Assign, Clear, Store, Receive, Send, Call, If, While, Leave, ReturnWith, Try, Nested, Block, Empty, Then, Handlers, NoMore, Catch}
use Rattle.resolved.specs.Program.{Program, ProcedureEntry, SlotEntry, ThrownEntry, procedure_at, slot_at}
use Rattle.common.specs.declared.exceptions.TheConstants.{END}
use Rattle.resolved.specs.Exits.{has_exit, one_exit, index_can_raise, index_raises, handles, raises, thrown_exits, statement_exits, block_exits, list_if}
use Rattle.resolved.specs.Labelled.{OfLocal, OfLoop, Scope, Join, LabelAtom, one, label_of, written_or, variable_label, value_label, any_of}
use Rattle.resolved.specs.WellFormed.{VariableType, slot_type, variable_type, scalar_by, array_by, has_base, has_result, target_by, parameters_of, arguments_match, call_matches, is_array, same_base, prefix_base, operand_base, result_base, statement_fits, block_fits, handlers_fit, is_exception, statement_loops, block_loops, handlers_loops}
use Rattle.resolved.proofs.WellFormedParts.{result_some}
use Rattle.gathering.specs.Names.{Real, Inner, NamedAtom, NamedConstraint, named_atoms, real_unknowns, IsUnwrittenOf}
use Rattle.gathering.specs.Walk.{inner_atom, rule_constraint, target_constraint, inner_constraint, ExitUnknowns, nowhere, with_normal, in_loop, handler_count, handler_number, in_try, at_end, thrown_number, declares, flow, flows, raised_once, raised_flows, single, within_single, by_exits, onward_pc, raise_atoms, raise_atoms_all, store_atoms, call_atoms, made_by_statement, made_by_block, made_by_handlers, argument_constraints, call_flows, call_exits, call_constraints, statement_constraints, block_constraints, handlers_constraints}
use Rattle.gathering.proofs.Atoms.{Sub, raise-value, atoms-below}

-- ---- what is there
abbrev There : Option VariableType → Type 0
There None = ⊥
There (Some type) = Unit {0}

scalar-there : (o : Option VariableType) (test : BaseType → Bool) → scalar_by o test ≡ true → There o
scalar-there None test h = let i : false ≡ true = h in absurd (cc)
scalar-there (Some type) test h = tt

array-there : (o : Option VariableType) (len : ℕ) (test : BaseType → Bool) → array_by o len test ≡ true → There o
array-there None len test h = let i : false ≡ true = h in absurd (cc)
array-there (Some type) len test h = tt

is_array-there : (o : Option VariableType) → is_array o ≡ true → There o
is_array-there None h = let i : false ≡ true = h in absurd (cc)
is_array-there (Some type) h = tt

slot-there : (slots : List SlotEntry) (n : ℕ) → There (slot_type (slice_get slots n)) → n < length slots
slot-there [] n h = absurd h
slot-there (s ∷ ss) zero h = omega arith
slot-there (s ∷ ss) (suc n) h = let i : n < length ss = slot-there ss n h in omega (arith, i)

-- a test on the base type of an expression that is given by a test on its target
scalar-some : (o : Option VariableType) (test : BaseType → Bool) → scalar_by o test ≡ true → (base : BaseType) × (test base ≡ true)
scalar-some None test h = let i : false ≡ true = h in absurd (cc)
scalar-some (Some type) test h = (type.base, (and_parts _ (test type.base) h).1)

array-some : (o : Option VariableType) (len : ℕ) (test : BaseType → Bool) → array_by o len test ≡ true → (base : BaseType) × (test base ≡ true)
array-some None len test h = let i : false ≡ true = h in absurd (cc)
array-some (Some type) len test h = (type.base, (and_parts _ (test type.base) h).1)

module _ (program : Program) (bound : ℕ) where
  -- an inner unknown that was made, and this many numbers that are left to be made
  abbrev pub IsMade : ℕ → Type 0
  IsMade k = (real_unknowns program ≤ k) × (k < bound)

  abbrev pub HasRoom : (n made : ℕ) → Type 0
  HasRoom n made = (real_unknowns program ≤ n) × (n + made ≤ bound)

  abbrev pub InRange : NamedAtom → Type 0
  InRange (Written v) = Unit {0}
  InRange (Unknown (Real u)) = IsUnwrittenOf program u
  InRange (Unknown (Inner k)) = IsMade k

  abbrev pub AllInRange : List NamedAtom → Type 0
  AllInRange xs = (a : NamedAtom) → Contains xs a → InRange a

  abbrev pub Ranged : List NamedConstraint → Type 0
  Ranged cs = (c : NamedConstraint) → Contains cs c → AllInRange c.left × InRange c.right

  abbrev pub JoinInRange : Join → Type 0
  JoinInRange j = (a : LabelAtom) → Contains j a → InRange (renamed Real a)

  abbrev pub ExitUnknownsInRange : ExitUnknowns → Type 0
  ExitUnknownsInRange exit_unknowns = (e : Exit) (k : ℕ) → exit_unknowns e ≡ Some k → IsMade k

  pub join-nil : JoinInRange []
  join-nil a h = absurd (none_in_nil a h)

  pub join-one : (a : LabelAtom) → InRange (renamed Real a) → JoinInRange (one a)
  join-one a ok b h = ⊎_elim (λ same. subst (λ z. InRange (renamed Real z)) same ok) (λ t. absurd (none_in_nil b t)) (Contains-cons_cases a [] b h)

  pub join-append : (x y : Join) → JoinInRange x → JoinInRange y → JoinInRange (x ++ y)
  join-append x y f g a h = ⊎_elim (λ t. f a t) (λ t. g a t) (Contains-append_cases x y a h)

  pub join-sub : (x y : Join) → JoinInRange y → Sub x y → JoinInRange x
  join-sub x y f s a h = f a (s a h)

  pub atoms-nil : AllInRange []
  atoms-nil a h = absurd (none_in_nil a h)

  pub atoms-cons : (p : NamedAtom) (rest : List NamedAtom) → InRange p → AllInRange rest → AllInRange (p ∷ rest)
  atoms-cons p rest ok f a h = ⊎_elim (λ same. subst InRange same ok) (λ t. f a t) (Contains-cons_cases p rest a h)

  pub atoms-named : (j : Join) → JoinInRange j → AllInRange (named_atoms j)
  atoms-named [] f = atoms-nil
  atoms-named (a ∷ rest) f =
      atoms-cons (renamed Real a) (named_atoms rest) (f a (Contains-first a rest)) (atoms-named rest (λ b h. f b (Contains-later a rest b h)))

  pub pc-atoms : (p : NamedAtom) (j : Join) → InRange p → JoinInRange j → AllInRange (p ∷ named_atoms j)
  pc-atoms p j ok f = atoms-cons p (named_atoms j) ok (atoms-named j f)

  pub alone : (p : NamedAtom) → InRange p → AllInRange (p ∷ [])
  alone p ok = atoms-cons p [] ok atoms-nil

  pub ranged-nil : Ranged []
  ranged-nil c h = absurd (none_in_nil c h)

  pub ranged-append : (xs ys : List NamedConstraint) → Ranged xs → Ranged ys → Ranged (xs ++ ys)
  ranged-append xs ys f g c h = ⊎_elim (λ t. f c t) (λ t. g c t) (Contains-append_cases xs ys c h)

  pub ranged-one : (c : NamedConstraint) → AllInRange c.left → InRange c.right → Ranged (c ∷ [])
  ranged-one c f ok d h =
      ⊎_elim (λ same. subst (λ (z : NamedConstraint). AllInRange z.left × InRange z.right) same (f, ok)) (λ t. absurd (none_in_nil d t)) (Contains-cons_cases c [] d h)

  pub ranged-inner : (left : List NamedAtom) (k : ℕ) → AllInRange left → IsMade k → Ranged (inner_constraint left k)
  ranged-inner left k f ok = ranged-one _ f ok

  pub ranged-flow : (left : List NamedAtom) (o : Option ℕ) → AllInRange left → ((k : ℕ) → o ≡ Some k → IsMade k) → Ranged (flow left o)
  ranged-flow left None f ok = ranged-nil
  ranged-flow left (Some k) f ok = ranged-inner left k f (ok k refl)

  pub ranged-flows : (left : List NamedAtom) (exit_unknowns : ExitUnknowns) (ends : List Exit) → AllInRange left → ExitUnknownsInRange exit_unknowns → Ranged (flows left exit_unknowns ends)
  ranged-flows left exit_unknowns [] f ok = ranged-nil
  ranged-flows left exit_unknowns (e ∷ rest) f ok =
      ranged-append (flow left (exit_unknowns e)) (flows left exit_unknowns rest) (ranged-flow left (exit_unknowns e) f (ok e)) (ranged-flows left exit_unknowns rest f ok)

  pub ranged-raised : (q : List NamedAtom) (exit_unknowns : ExitUnknowns) (raised : List ℕ) → AllInRange q → ExitUnknownsInRange exit_unknowns → Ranged (raised_flows q exit_unknowns raised)
  ranged-raised q exit_unknowns raised f ok = ranged-flows q exit_unknowns (thrown_exits (raised_once raised)) f ok

  pub ranged-own : (q : List NamedAtom) (exit_unknowns : ExitUnknowns) (first : Exit) (raised : List ℕ) → AllInRange q → ExitUnknownsInRange exit_unknowns → Ranged (flow q (exit_unknowns first) ++ raised_flows q exit_unknowns raised)
  ranged-own q exit_unknowns first raised f ok =
      ranged-append (flow q (exit_unknowns first)) (raised_flows q exit_unknowns raised) (ranged-flow q (exit_unknowns first) f (ok first)) (ranged-raised q exit_unknowns raised f ok)

  pub ranged-single : (b : Bool) (p : NamedAtom) (exit_unknowns : ExitUnknowns) (ends : List Exit) → InRange p → ExitUnknownsInRange exit_unknowns → Ranged (single b p exit_unknowns ends)
  ranged-single false p exit_unknowns ends ok fit = ranged-nil
  ranged-single true p exit_unknowns [] ok fit = ranged-nil
  ranged-single true p exit_unknowns (e ∷ rest) ok fit = ranged-flow (p ∷ []) (exit_unknowns e) (alone p ok) (fit e)

  -- exit unknowns
  pub nowhere-fits : ExitUnknownsInRange nowhere
  nowhere-fits e k is = let i : None ≡ Some k = is in absurd (cc)

  pub within-fits : (b : Bool) (exit_unknowns : ExitUnknowns) → ExitUnknownsInRange exit_unknowns → ExitUnknownsInRange (within_single b exit_unknowns)
  within-fits true exit_unknowns fit = nowhere-fits
  within-fits false exit_unknowns fit = fit

  pub normal-fits : (o : Option ℕ) (exit_unknowns : ExitUnknowns) → ((k : ℕ) → o ≡ Some k → IsMade k) → ExitUnknownsInRange exit_unknowns → ExitUnknownsInRange (with_normal o exit_unknowns)
  normal-fits o exit_unknowns f fit Normal k is = f k is
  normal-fits o exit_unknowns f fit Return k is = fit Return k is
  normal-fits o exit_unknowns f fit Break k is = fit Break k is
  normal-fits o exit_unknowns f fit Continue k is = fit Continue k is
  normal-fits o exit_unknowns f fit (Throw x) k is = fit (Throw x) k is

  pub same-number : (n k : ℕ) → IsMade n → Some n ≡ Some k → IsMade k
  same-number n k h is = let same : n ≡ k = cc in subst IsMade same h

  pub loop-fits : (back : ℕ) (exit_unknowns : ExitUnknowns) → IsMade back → ExitUnknownsInRange exit_unknowns → ExitUnknownsInRange (in_loop back exit_unknowns)
  loop-fits back exit_unknowns h fit Normal k is = same-number back k h is
  loop-fits back exit_unknowns h fit Return k is = fit Return k is
  loop-fits back exit_unknowns h fit Break k is = fit Normal k is
  loop-fits back exit_unknowns h fit Continue k is = same-number back k h is
  loop-fits back exit_unknowns h fit (Throw x) k is = fit (Throw x) k is

  pub try-fits : (number : ℕ → ℕ) (handlers : Handlers) (exit_unknowns : ExitUnknowns) → ((x : ℕ) → handles handlers x ≡ true → IsMade (number x)) → ExitUnknownsInRange exit_unknowns → ExitUnknownsInRange (in_try number handlers exit_unknowns)
  try-fits number handlers exit_unknowns f fit Normal k is = fit Normal k is
  try-fits number handlers exit_unknowns f fit Return k is = fit Return k is
  try-fits number handlers exit_unknowns f fit Break k is = fit Break k is
  try-fits number handlers exit_unknowns f fit Continue k is = fit Continue k is
  try-fits number handlers exit_unknowns f fit (Throw x) k is = go (handles handlers x) refl is
    where
      go : (b : Bool) → handles handlers x ≡ b → (if b then Some (number x) else exit_unknowns (Throw x)) ≡ Some k → IsMade k
      go true h is = same-number (number x) k (f x h) is
      go false h is = fit (Throw x) k is

  pub handler-number : (handlers : Handlers) (n x : ℕ) → handles handlers x ≡ true → (n ≤ handler_number handlers n x) × (handler_number handlers n x < n + handler_count handlers)
  handler-number NoMore n x h = let i : false ≡ true = h in absurd (cc)
  handler-number (Catch at handled body rest) n x h = go (x == handled) refl h (handler-number rest (suc n) x)
    where
      go : (b : Bool) → (x == handled) ≡ b → (b || handles rest x) ≡ true →
          (handles rest x ≡ true → (suc n ≤ handler_number rest (suc n) x) × (handler_number rest (suc n) x < suc n + handler_count rest)) →
          (n ≤ (if b then n else handler_number rest (suc n) x)) × ((if b then n else handler_number rest (suc n) x) < n + suc (handler_count rest))
      go true e k next = (omega arith, omega arith)
      go false e k next =
          let least : suc n ≤ handler_number rest (suc n) x = (next k).0 in
          let i : handler_number rest (suc n) x < suc n + handler_count rest = (next k).1 in
          (omega (arith, least), omega (arith, i))

  pub thrown-inside : (throws : List ThrownEntry) (n x : ℕ) → declares throws x ≡ true → (n ≤ thrown_number throws n x) × (thrown_number throws n x < n + length throws)
  thrown-inside [] n x h = let i : false ≡ true = h in absurd (cc)
  thrown-inside (entry ∷ rest) n x h = go (x == entry.exception) refl h (thrown-inside rest (suc n) x)
    where
      go : (b : Bool) → (x == entry.exception) ≡ b → (b || declares rest x) ≡ true →
          (declares rest x ≡ true → (suc n ≤ thrown_number rest (suc n) x) × (thrown_number rest (suc n) x < suc n + length rest)) →
          (n ≤ (if b then n else thrown_number rest (suc n) x)) × ((if b then n else thrown_number rest (suc n) x) < n + suc (length rest))
      go true e k next = (omega arith, omega arith)
      go false e k next =
          let least : suc n ≤ thrown_number rest (suc n) x = (next k).0 in
          let i : thrown_number rest (suc n) x < suc n + length rest = (next k).1 in
          (omega (arith, least), omega (arith, i))

  pub end-fits : (throws : List ThrownEntry) (n : ℕ) → HasRoom n (suc (length throws)) → ExitUnknownsInRange (at_end n throws)
  end-fits throws n h Normal k is = same-number n k (omega (arith, h.0), omega (arith, h.1)) is
  end-fits throws n h Return k is = same-number n k (omega (arith, h.0), omega (arith, h.1)) is
  end-fits throws n h Break k is = let i : None ≡ Some k = is in absurd (cc)
  end-fits throws n h Continue k is = let i : None ≡ Some k = is in absurd (cc)
  end-fits throws n h (Throw x) k is = go (declares throws x) refl is
    where
      go : (b : Bool) → declares throws x ≡ b → (if b then Some (thrown_number throws (suc n) x) else None) ≡ Some k → IsMade k
      go true e is =
          let inside = thrown-inside throws (suc n) x e in
          let least : suc n ≤ thrown_number throws (suc n) x = inside.0 in
          let i : thrown_number throws (suc n) x < suc n + length throws = inside.1 in
          same-number (thrown_number throws (suc n) x) k (omega (arith, h.0, least), omega (arith, h.1, i)) is
      go false e is = let i : None ≡ Some k = is in absurd (cc)

  module _ (f : ℕ) (there : f < length program.procedures) where
    abbrev pub own_scope : Scope
    own_scope = record { program = program; number = f }

    abbrev pub own : ProcedureEntry
    own = procedure_at program f

    pub slot-ok : (o : Option Label) (n : ℕ) → n < length own.slots → InRange (renamed Real (written_or o (OfLocal f n)))
    slot-ok None n h = (there, h)
    slot-ok (Some label) n h = tt

    pub variable-ok : (x : Variable) → There (variable_type program own x) → InRange (renamed Real (label_of program (ToVariable f x)))
    variable-ok (Global n) h = tt
    variable-ok (Local n) h = slot-ok (slot_at own n).written n (slot-there own.slots n h)

    pub value-ok : (base : BaseType) (e : Expression) → has_base program own base e ≡ true → JoinInRange (value_label own_scope e)
    value-ok base (Integer n) h = join-nil
    value-ok base (Logical b) h = join-nil
    value-ok base (Read x) h =
        join-one (label_of program (ToVariable f x)) (variable-ok x (scalar-there (variable_type program own x) (same_base base) h))
    value-ok base (Element array len index) h =
        let parts = and_parts (array_by (variable_type program own array) len (same_base base)) (has_base program own Int index) h in
        join-append (variable_label own_scope array) (value_label own_scope index)
        (join-one (label_of program (ToVariable f array)) (variable-ok array (array-there (variable_type program own array) len (same_base base) parts.0))) (value-ok Int index parts.1)
    value-ok base (Unary prefix e) h =
        value-ok (prefix_base prefix) e (and_parts (same_base (prefix_base prefix) base) (has_base program own (prefix_base prefix) e) h).1
    value-ok base (Binary operator d e) h =
        let outer = and_parts (same_base (result_base operator) base && has_base program own (operand_base operator) d) (has_base program own (operand_base operator) e) h in
        let inner = and_parts (same_base (result_base operator) base) (has_base program own (operand_base operator) d) outer.0 in
        join-append (value_label own_scope d) (value_label own_scope e) (value-ok (operand_base operator) d inner.1) (value-ok (operand_base operator) e outer.1)
    value-ok base (Short connective d e) h =
        let outer = and_parts (same_base Boolean base && has_base program own Boolean d) (has_base program own Boolean e) h in
        let inner = and_parts (same_base Boolean base) (has_base program own Boolean d) outer.0 in
        join-append (value_label own_scope d) (value_label own_scope e) (value-ok Boolean d inner.1) (value-ok Boolean e outer.1)

    pub raise-ok : (e : Expression) → JoinInRange (value_label own_scope e) → JoinInRange (raise_atoms own_scope e)
    raise-ok e ok = join-sub (raise_atoms own_scope e) (value_label own_scope e) ok (λ a h. raise-value own_scope e a (atoms-below own_scope e a h))

    pub if-ok : (b : Bool) (x y : Join) → JoinInRange x → JoinInRange y → JoinInRange (if b then x else y)
    if-ok true x y h k = h
    if-ok false x y h k = k

    pub ranged-rule : (at rule : ℕ) (left : List NamedAtom) (target : Target) → AllInRange left → InRange (renamed Real (label_of program target)) → Ranged (rule_constraint own_scope at rule left target)
    ranged-rule at rule left target h ok = ranged-one _ h ok

    pub ranged-target : (at rule : ℕ) (left : List NamedAtom) (target : Option Variable) (test : BaseType → Bool) → AllInRange left → target_by program own target test ≡ true → Ranged (target_constraint own_scope at rule left target)
    ranged-target at rule left None test h fits = ranged-nil
    ranged-target at rule left (Some x) test h fits = ranged-rule at rule left (ToVariable f x) h (variable-ok x (scalar-there (variable_type program own x) test fits))

    -- a statement with one demand, and its exits
    pub ranged-demanding : (at rule : ℕ) (p : NamedAtom) (left q : Join) (target : Target) (exit_unknowns : ExitUnknowns) (first : Exit) (raised : List ℕ) → InRange p → JoinInRange left → JoinInRange q →
        InRange (renamed Real (label_of program target)) → ExitUnknownsInRange exit_unknowns →
        Ranged (rule_constraint own_scope at rule (p ∷ named_atoms left) target ++ (flow (p ∷ named_atoms q) (exit_unknowns first) ++ raised_flows (p ∷ named_atoms q) exit_unknowns raised))
    ranged-demanding at rule p left q target exit_unknowns first raised ok left_ok q_ok target_ok fit =
        ranged-append (rule_constraint own_scope at rule (p ∷ named_atoms left) target) (flow (p ∷ named_atoms q) (exit_unknowns first) ++ raised_flows (p ∷ named_atoms q) exit_unknowns raised)
        (ranged-rule at rule (p ∷ named_atoms left) target (pc-atoms p left ok left_ok) target_ok)
        (ranged-own (p ∷ named_atoms q) exit_unknowns first raised (pc-atoms p q ok q_ok) fit)

    -- calls
    pub call_atoms-ok : (callee : ℕ) (e : Exit) → JoinInRange (call_atoms program callee e)
    call_atoms-ok callee Normal = go (any_of (procedure_at program callee).throws)
      where
        go : (b : Bool) → JoinInRange (list_if b (one (label_of program (ToEnd callee))))
        go true = join-one (label_of program (ToEnd callee)) tt
        go false = join-nil
    call_atoms-ok callee Return = join-nil
    call_atoms-ok callee Break = join-nil
    call_atoms-ok callee Continue = join-nil
    call_atoms-ok callee (Throw x) = join-one (label_of program (ToThrown callee x)) tt

    pub ranged-call_flows : (callee n : ℕ) (exit_unknowns : ExitUnknowns) (ends : List Exit) → IsMade n → ExitUnknownsInRange exit_unknowns → Ranged (call_flows program callee n exit_unknowns ends)
    ranged-call_flows callee n exit_unknowns [] h fit = ranged-nil
    ranged-call_flows callee n exit_unknowns (e ∷ rest) h fit =
        let left : List NamedAtom = inner_atom n ∷ named_atoms (call_atoms program callee e) in
        ranged-append (flow left (exit_unknowns e)) (call_flows program callee n exit_unknowns rest)
        (ranged-flow left (exit_unknowns e) (pc-atoms (inner_atom n) (call_atoms program callee e) h (call_atoms-ok callee e)) (fit e)) (ranged-call_flows callee n exit_unknowns rest h fit)

    pub ranged-arguments : (at n callee i : ℕ) (parameters : List SlotEntry) (es : List Expression) → IsMade n → arguments_match program own parameters es ≡ true →
        Ranged (argument_constraints own_scope at n callee i es) × JoinInRange (raise_atoms_all own_scope es)
    ranged-arguments at n callee i parameters [] h fits = (ranged-nil, join-nil)
    ranged-arguments at n callee i [] (e ∷ rest) h fits = let i : false ≡ true = fits in absurd (cc)
    ranged-arguments at n callee i (parameter ∷ parameters) (e ∷ rest) h fits =
        let parts = and_parts (has_base program own parameter.base e) (arguments_match program own parameters rest) fits in
        let v : JoinInRange (value_label own_scope e) = value-ok parameter.base e parts.0 in
        let more : Ranged (argument_constraints own_scope at n callee (suc i) rest) × JoinInRange (raise_atoms_all own_scope rest) = ranged-arguments at n callee (suc i) parameters rest h parts.1 in
        let left : List NamedAtom = inner_atom n ∷ named_atoms (value_label own_scope e) in (
          ranged-append (rule_constraint own_scope at 6 left (ToParameter callee i)) (argument_constraints own_scope at n callee (suc i) rest)
              (ranged-rule at 6 left (ToParameter callee i) (pc-atoms (inner_atom n) (value_label own_scope e) h v) tt) more.0,
          join-append (raise_atoms own_scope e) (raise_atoms_all own_scope rest) (raise-ok e v) more.1,
        )

    pub ranged-call : (o : Option ProcedureEntry) (at callee n : ℕ) (arguments : List Expression) (target : Option Variable) (p : NamedAtom) (exit_unknowns : ExitUnknowns) →
        call_matches program own o arguments target ≡ true → InRange p → ExitUnknownsInRange exit_unknowns → IsMade n → Ranged (call_constraints own_scope p exit_unknowns n at callee arguments target)
    ranged-call None at callee n arguments target p exit_unknowns fits ok fit h = let i : false ≡ true = fits in absurd (cc)
    ranged-call (Some entry) at callee n arguments target p exit_unknowns fits ok fit h =
        let parts = and_parts (arguments_match program own (parameters_of entry) arguments) (target_by program own target (λ base. has_result entry.result (same_base base))) fits in
        let passed : Ranged (argument_constraints own_scope at n callee 0 arguments) × JoinInRange (raise_atoms_all own_scope arguments) = ranged-arguments at n callee 0 (parameters_of entry) arguments h parts.0 in
        let x : Join = call_atoms program callee Normal in
        let v : Join = one (label_of program (ToValue callee)) in
        let pc : NamedAtom = inner_atom n in
        let entered : List NamedConstraint = inner_constraint (p ∷ named_atoms (raise_atoms_all own_scope arguments)) n in
        let first : List NamedConstraint = rule_constraint own_scope at 6 (pc ∷ []) (ToBegin callee) in
        let second : List NamedConstraint = argument_constraints own_scope at n callee 0 arguments in
        let third : List NamedConstraint = target_constraint own_scope at 6 (pc ∷ named_atoms (x ++ v)) target in
        let fourth : List NamedConstraint = call_flows program callee n exit_unknowns (call_exits program callee arguments) in
        ranged-append entered (first ++ (second ++ (third ++ fourth)))
        (ranged-inner (p ∷ named_atoms (raise_atoms_all own_scope arguments)) n (pc-atoms p (raise_atoms_all own_scope arguments) ok passed.1) h)
        (ranged-append first (second ++ (third ++ fourth)) (ranged-rule at 6 (pc ∷ []) (ToBegin callee) (alone pc h) tt)
        (ranged-append second (third ++ fourth) passed.0
        (ranged-append third fourth
        (ranged-target at 6 (pc ∷ named_atoms (x ++ v)) target (λ base. has_result entry.result (same_base base))
        (pc-atoms pc (x ++ v) h (join-append x v (call_atoms-ok callee Normal) (join-one (label_of program (ToValue callee)) tt))) parts.1)
        (ranged-call_flows callee n exit_unknowns (call_exits program callee arguments) h fit))))

    -- a block of its own
    pub ranged-by_exits : (ends : List Exit) (p : NamedAtom) (exit_unknowns : ExitUnknowns) (walked : ExitUnknowns → List NamedConstraint) → InRange p → ExitUnknownsInRange exit_unknowns →
        ((t : ExitUnknowns) → ExitUnknownsInRange t → Ranged (walked t)) → Ranged (by_exits ends p exit_unknowns walked)
    ranged-by_exits ends p exit_unknowns walked ok fit each =
        ranged-append (single (one_exit ends) p exit_unknowns ends) (walked (within_single (one_exit ends) exit_unknowns))
        (ranged-single (one_exit ends) p exit_unknowns ends ok fit) (each (within_single (one_exit ends) exit_unknowns) (within-fits (one_exit ends) exit_unknowns fit))

    abbrev pub LoopsFit : List ℕ → Type 0
    LoopsFit xs = (l : ℕ) → Contains xs l → l < own.loops

    pub loops-left : (xs ys : List ℕ) → LoopsFit (xs ++ ys) → LoopsFit xs
    loops-left xs ys h l i = h l (Contains-append_left xs ys l i)

    pub loops-right : (xs ys : List ℕ) → LoopsFit (xs ++ ys) → LoopsFit ys
    loops-right xs ys h l i = h l (Contains-append_right xs ys l i)

    pub onward-ok : (b : Bool) (p : NamedAtom) (n : ℕ) → InRange p → IsMade n → InRange (onward_pc b p n)
    onward-ok true p n ok h = ok
    onward-ok false p n ok h = h

    mutual
      pub ranged-statement : (s : Statement) (p : NamedAtom) (exit_unknowns : ExitUnknowns) (n : ℕ) → statement_fits program own s ≡ true → LoopsFit (statement_loops s) → InRange p → ExitUnknownsInRange exit_unknowns →
          HasRoom n (made_by_statement s) → Ranged (statement_constraints own_scope p exit_unknowns n s)
      ranged-statement (Placed at (Assign x e)) p exit_unknowns n fits loops ok fit h =
          let base = scalar-some (variable_type program own x) (λ base. has_base program own base e) fits in
          let v : JoinInRange (value_label own_scope e) = value-ok base.0 e base.1 in
          ranged-demanding at 1 p (value_label own_scope e) (raise_atoms own_scope e) (ToVariable f x) exit_unknowns Normal (raises e) ok v (raise-ok e v)
          (variable-ok x (scalar-there (variable_type program own x) (λ base. has_base program own base e) fits)) fit
      ranged-statement (Placed at (Clear slot)) p exit_unknowns n fits loops ok fit h =
          ranged-append (rule_constraint own_scope at 2 (p ∷ []) (ToVariable f (Local slot))) (flow (p ∷ []) (exit_unknowns Normal))
          (ranged-rule at 2 (p ∷ []) (ToVariable f (Local slot)) (alone p ok) (variable-ok (Local slot) (is_array-there (variable_type program own (Local slot)) fits)))
          (ranged-flow (p ∷ []) (exit_unknowns Normal) (alone p ok) (fit Normal))
      ranged-statement (Placed at (Store array len index e)) p exit_unknowns n fits loops ok fit h =
          let parts = and_parts (array_by (variable_type program own array) len (λ base. has_base program own base e)) (has_base program own Int index) fits in
          let base = array-some (variable_type program own array) len (λ base. has_base program own base e) parts.0 in
          let v : JoinInRange (value_label own_scope e) = value-ok base.0 e base.1 in
          let i : JoinInRange (value_label own_scope index) = value-ok Int index parts.1 in
          ranged-demanding at 3 p (value_label own_scope index ++ value_label own_scope e) (store_atoms own_scope len index e) (ToVariable f array) exit_unknowns Normal (raises index ++ raises e ++ index_raises index len) ok
          (join-append (value_label own_scope index) (value_label own_scope e) i v)
          (join-append (if index_can_raise index len then value_label own_scope index else raise_atoms own_scope index) (raise_atoms own_scope e)
          (if-ok (index_can_raise index len) (value_label own_scope index) (raise_atoms own_scope index) i (raise-ok index i)) (raise-ok e v))
          (variable-ok array (array-there (variable_type program own array) len (λ base. has_base program own base e) parts.0)) fit
      ranged-statement (Placed at (Receive channel target)) p exit_unknowns n fits loops ok fit h =
          let label : Join = one (label_of program (ToChannel channel)) in
          let q : List NamedAtom = p ∷ named_atoms label in
          let q_ok : AllInRange q = pc-atoms p label ok (join-one (label_of program (ToChannel channel)) tt) in
          let out : List NamedConstraint = flow q (exit_unknowns Normal) ++ flow q (exit_unknowns (Throw END)) in
          ranged-append (rule_constraint own_scope at 4 (p ∷ []) (ToChannel channel)) (target_constraint own_scope at 4 q target ++ out)
          (ranged-rule at 4 (p ∷ []) (ToChannel channel) (alone p ok) tt)
          (ranged-append (target_constraint own_scope at 4 q target) out
          (ranged-target at 4 q target (same_base Int) q_ok (and_parts _ (target_by program own target (same_base Int)) fits).1)
          (ranged-append (flow q (exit_unknowns Normal)) (flow q (exit_unknowns (Throw END)))
          (ranged-flow q (exit_unknowns Normal) q_ok (fit Normal)) (ranged-flow q (exit_unknowns (Throw END)) q_ok (fit (Throw END)))))
      ranged-statement (Placed at (Send channel e)) p exit_unknowns n fits loops ok fit h =
          let v : JoinInRange (value_label own_scope e) = value-ok Int e (and_parts _ (has_base program own Int e) fits).1 in
          ranged-demanding at 5 p (value_label own_scope e) (raise_atoms own_scope e) (ToChannel channel) exit_unknowns Normal (raises e) ok v (raise-ok e v) tt fit
      ranged-statement (Placed at (Call callee arguments target)) p exit_unknowns n fits loops ok fit h =
          ranged-call (slice_get program.procedures callee) at callee n arguments target p exit_unknowns fits ok fit (omega (arith, h.0), omega (arith, h.1))
      ranged-statement (Placed at (If e then_block else_block)) p exit_unknowns n fits loops ok fit h =
          let outer = and_parts (has_base program own Boolean e && block_fits program own then_block) (block_fits program own else_block) fits in
          let inner = and_parts (has_base program own Boolean e) (block_fits program own then_block) outer.0 in
          let v : JoinInRange (value_label own_scope e) = value-ok Boolean e inner.0 in
          let pc : NamedAtom = inner_atom n in
          let made : IsMade n = (omega (arith, h.0), omega (arith, h.1)) in
          let first : List NamedConstraint = inner_constraint (p ∷ named_atoms (value_label own_scope e)) n in
          let second : List NamedConstraint = raised_flows (p ∷ named_atoms (raise_atoms own_scope e)) exit_unknowns (raises e) in
          let third : List NamedConstraint = by_exits (block_exits program then_block) pc exit_unknowns (λ t. block_constraints own_scope true pc t (suc n) then_block) in
          let fourth : List NamedConstraint = by_exits (block_exits program else_block) pc exit_unknowns (λ t. block_constraints own_scope true pc t (suc n + made_by_block then_block) else_block) in
          ranged-append first (second ++ (third ++ fourth))
          (ranged-inner (p ∷ named_atoms (value_label own_scope e)) n (pc-atoms p (value_label own_scope e) ok v) made)
          (ranged-append second (third ++ fourth)
          (ranged-raised (p ∷ named_atoms (raise_atoms own_scope e)) exit_unknowns (raises e) (pc-atoms p (raise_atoms own_scope e) ok (raise-ok e v)) fit)
          (ranged-append third fourth
          (ranged-by_exits (block_exits program then_block) pc exit_unknowns (λ t. block_constraints own_scope true pc t (suc n) then_block) made fit
          (λ t k. ranged-block then_block true pc t (suc n) inner.1 (loops-left (block_loops then_block) (block_loops else_block) loops) made k (omega (arith, h.0), omega (arith, h.1))))
          (ranged-by_exits (block_exits program else_block) pc exit_unknowns (λ t. block_constraints own_scope true pc t (suc n + made_by_block then_block) else_block) made fit
          (λ t k. ranged-block else_block true pc t (suc n + made_by_block then_block) outer.1 (loops-right (block_loops then_block) (block_loops else_block) loops) made k (omega (arith, h.0), omega (arith, h.1))))))
      ranged-statement (Placed at (While loop e body)) p exit_unknowns n fits loops ok fit h =
          let parts = and_parts (has_base program own Boolean e) (block_fits program own body) fits in
          let v : JoinInRange (value_label own_scope e) = value-ok Boolean e parts.0 in
          let loop_atom : NamedAtom = Unknown (Real (OfLoop f loop)) in
          let turn_ok : InRange loop_atom = (there, loops loop (Contains-first loop (block_loops body))) in
          let pc : NamedAtom = inner_atom n in
          let made : IsMade n = (omega (arith, h.0), omega (arith, h.1)) in
          let back : IsMade (suc n) = (omega (arith, h.0), omega (arith, h.1)) in
          let first : List NamedConstraint = rule_constraint own_scope at 8 (p ∷ []) (ToLoop f loop) in
          let entry : List NamedConstraint = inner_constraint (loop_atom ∷ named_atoms (value_label own_scope e)) n in
          let out : List NamedConstraint = flow (pc ∷ []) (exit_unknowns Normal) in
          let raising : List NamedConstraint = raised_flows (loop_atom ∷ named_atoms (raise_atoms own_scope e)) exit_unknowns (raises e) in
          let third : List NamedConstraint = by_exits (block_exits program body) pc (in_loop (suc n) exit_unknowns) (λ t. block_constraints own_scope true pc t (suc (suc n)) body) in
          let fourth : List NamedConstraint = rule_constraint own_scope at 8 (inner_atom (suc n) ∷ []) (ToLoop f loop) in
          ranged-append first (entry ++ (out ++ (raising ++ (third ++ fourth)))) (ranged-rule at 8 (p ∷ []) (ToLoop f loop) (alone p ok) turn_ok)
          (ranged-append entry (out ++ (raising ++ (third ++ fourth)))
          (ranged-inner (loop_atom ∷ named_atoms (value_label own_scope e)) n (pc-atoms loop_atom (value_label own_scope e) turn_ok v) made)
          (ranged-append out (raising ++ (third ++ fourth)) (ranged-flow (pc ∷ []) (exit_unknowns Normal) (alone pc made) (fit Normal))
          (ranged-append raising (third ++ fourth)
          (ranged-raised (loop_atom ∷ named_atoms (raise_atoms own_scope e)) exit_unknowns (raises e) (pc-atoms loop_atom (raise_atoms own_scope e) turn_ok (raise-ok e v)) fit)
          (ranged-append third fourth
          (ranged-by_exits (block_exits program body) pc (in_loop (suc n) exit_unknowns) (λ t. block_constraints own_scope true pc t (suc (suc n)) body) made (loop-fits (suc n) exit_unknowns back fit)
          (λ t k. ranged-block body true pc t (suc (suc n)) parts.1 (λ l i. loops l (Contains-later loop (block_loops body) l i)) made k (omega (arith, h.0), omega (arith, h.1))))
          (ranged-rule at 8 (inner_atom (suc n) ∷ []) (ToLoop f loop) (alone (inner_atom (suc n)) back) turn_ok)))))
      ranged-statement (Placed at (Leave exit)) p exit_unknowns n fits loops ok fit h = ranged-flow (p ∷ []) (exit_unknowns exit) (alone p ok) (fit exit)
      ranged-statement (Placed at (ReturnWith (Some e))) p exit_unknowns n fits loops ok fit h =
          let base = result_some own.result (λ base. has_base program own base e) fits in
          let v : JoinInRange (value_label own_scope e) = value-ok base.0 e base.1 in
          ranged-demanding at 10 p (value_label own_scope e) (raise_atoms own_scope e) (ToValue f) exit_unknowns Return (raises e) ok v (raise-ok e v) tt fit
      ranged-statement (Placed at (ReturnWith None)) p exit_unknowns n fits loops ok fit h = ranged-flow (p ∷ []) (exit_unknowns Return) (alone p ok) (fit Return)
      ranged-statement (Placed at (Try block handlers)) p exit_unknowns n fits loops ok fit h =
          let parts = and_parts (block_fits program own block) (handlers_fit program own handlers) fits in
          let number : ℕ → ℕ = λ x. handler_number handlers n x in
          let numbers : (x : ℕ) → handles handlers x ≡ true → IsMade (number x) =
          λ x k.
          let inside = handler-number handlers n x k in
          let least : n ≤ handler_number handlers n x = inside.0 in
          let i : handler_number handlers n x < n + handler_count handlers = inside.1 in
          (omega (arith, h.0, least), omega (arith, h.1, i)) in
          let first : List NamedConstraint = by_exits (block_exits program block) p (in_try number handlers exit_unknowns) (λ t. block_constraints own_scope true p t (n + handler_count handlers) block) in
          ranged-append first (handlers_constraints own_scope number exit_unknowns ((n + handler_count handlers) + made_by_block block) handlers)
          (ranged-by_exits (block_exits program block) p (in_try number handlers exit_unknowns) (λ t. block_constraints own_scope true p t (n + handler_count handlers) block) ok (try-fits number handlers exit_unknowns numbers fit)
          (λ t k. ranged-block block true p t (n + handler_count handlers) parts.0 (loops-left (block_loops block) (handlers_loops handlers) loops) ok k (omega (arith, h.0), omega (arith, h.1))))
          (ranged-handlers handlers number exit_unknowns ((n + handler_count handlers) + made_by_block block) parts.1 (loops-right (block_loops block) (handlers_loops handlers) loops) numbers fit (omega (arith, h.0), omega (arith, h.1)))
      ranged-statement (Placed at (Nested block)) p exit_unknowns n fits loops ok fit h =
          ranged-by_exits (block_exits program block) p exit_unknowns (λ t. block_constraints own_scope true p t n block) ok fit
          (λ t k. ranged-block block true p t n fits loops ok k h)

      pub ranged-block : (block : Block) (reached : Bool) (p : NamedAtom) (exit_unknowns : ExitUnknowns) (n : ℕ) → block_fits program own block ≡ true → LoopsFit (block_loops block) → InRange p → ExitUnknownsInRange exit_unknowns →
          HasRoom n (made_by_block block) → Ranged (block_constraints own_scope reached p exit_unknowns n block)
      ranged-block Empty true p exit_unknowns n fits loops ok fit h = ranged-flow (p ∷ []) (exit_unknowns Normal) (alone p ok) (fit Normal)
      ranged-block Empty false p exit_unknowns n fits loops ok fit h = ranged-nil
      ranged-block (Then s rest) reached p exit_unknowns n fits loops ok fit h =
          let parts = and_parts (statement_fits program own s) (block_fits program own rest) fits in
          let ends : List Exit = statement_exits program s in
          let made : IsMade n = (omega (arith, h.0), omega (arith, h.1)) in
          let inside : ExitUnknowns = with_normal (Some n) exit_unknowns in
          let first : List NamedConstraint = single (one_exit ends) p (with_normal None exit_unknowns) ends in
          let second : List NamedConstraint = statement_constraints own_scope p (within_single (one_exit ends) inside) (suc n) s in
          let third : List NamedConstraint = block_constraints own_scope (has_exit ends Normal) (onward_pc (one_exit ends) p n) exit_unknowns (suc n + made_by_statement s) rest in
          ranged-append first (second ++ third)
          (ranged-single (one_exit ends) p (with_normal None exit_unknowns) ends ok (normal-fits None exit_unknowns (λ k is. let i : None ≡ Some k = is in absurd (cc)) fit))
          (ranged-append second third
          (ranged-statement s p (within_single (one_exit ends) inside) (suc n) parts.0 (loops-left (statement_loops s) (block_loops rest) loops) ok
          (within-fits (one_exit ends) inside (normal-fits (Some n) exit_unknowns (λ k is. same-number n k made is) fit)) (omega (arith, h.0), omega (arith, h.1)))
          (ranged-block rest (has_exit ends Normal) (onward_pc (one_exit ends) p n) exit_unknowns (suc n + made_by_statement s) parts.1 (loops-right (statement_loops s) (block_loops rest) loops)
          (onward-ok (one_exit ends) p n ok made) fit (omega (arith, h.0), omega (arith, h.1))))

      pub ranged-handlers : (handlers : Handlers) (number : ℕ → ℕ) (exit_unknowns : ExitUnknowns) (n : ℕ) → handlers_fit program own handlers ≡ true → LoopsFit (handlers_loops handlers) →
          ((x : ℕ) → handles handlers x ≡ true → IsMade (number x)) → ExitUnknownsInRange exit_unknowns → HasRoom n (made_by_handlers handlers) → Ranged (handlers_constraints own_scope number exit_unknowns n handlers)
      ranged-handlers NoMore number exit_unknowns n fits loops numbers fit h = ranged-nil
      ranged-handlers (Catch at handled body rest) number exit_unknowns n fits loops numbers fit h =
          let outer = and_parts (is_exception program handled && block_fits program own body) (handlers_fit program own rest) fits in
          let inner = and_parts (is_exception program handled) (block_fits program own body) outer.0 in
          let p : NamedAtom = inner_atom (number handled) in
          let ok : IsMade (number handled) = numbers handled (or_left (handled == handled) (handles rest handled) (eq-eqb handled handled refl)) in
          let first : List NamedConstraint = by_exits (block_exits program body) p exit_unknowns (λ t. block_constraints own_scope true p t n body) in
          ranged-append first (handlers_constraints own_scope number exit_unknowns (n + made_by_block body) rest)
          (ranged-by_exits (block_exits program body) p exit_unknowns (λ t. block_constraints own_scope true p t n body) ok fit
          (λ t k. ranged-block body true p t n inner.1 (loops-left (block_loops body) (handlers_loops rest) loops) ok k (omega (arith, h.0), omega (arith, h.1))))
          (ranged-handlers rest number exit_unknowns (n + made_by_block body) outer.1 (loops-right (block_loops body) (handlers_loops rest) loops)
          (λ x i. numbers x (or_right (x == handled) (handles rest x) i)) fit (omega (arith, h.0), omega (arith, h.1)))
