-- What flows to an inner unknown is part of what it stands for.
use Rattle.std.proofs.Common.{◌≡◌, refl, sym, ap, ◌∙◌, subst, ℕ, suc, ◌+◌, Bool, true, false, not, List, [], ◌∷◌, ◌++◌, ⊎_elim}
use Rattle.std.specs.Prelude.{Contains, Option, Some, None, ◌==◌, filter, flat_map}
use Rattle.std.proofs.lemmas.Bool.{or_left, or_right, eq-eqb}
use Rattle.std.proofs.lemmas.List.Elements.{Contains-append_cases, Contains-append_left, Contains-append_right}
use Rattle.common.proofs.Elements.{none_in_nil, Contains-cons_cases, Contains-later, Contains-first}
use Rattle.lattices.specs.Constraints.{Written, Unknown, renamed}
use Rattle.resolved.specs.declared.expression.Variable.{Variable}
use Rattle.resolved.specs.declared.expression.Variable.TheVariants.{Local}
use Rattle.resolved.specs.declared.statement.Exit.{Exit}
use Rattle.resolved.specs.declared.statement.Exit.TheVariants.{Normal, Return, Break, Continue, Throw}
use Rattle.resolved.specs.declared.target.Target.{Target}
use Rattle.resolved.specs.declared.target.Target.TheVariants.{ToVariable, ToChannel, ToBegin, ToParameter, ToValue, ToLoop}
use Rattle.resolved.specs.Tree.{Expression, Statement, Placed, Assign, Clear, Store, Receive, Send, Call, If, While, Leave, ReturnWith, Try, Nested, Block, Empty, Then, Handlers, NoMore, Catch}
use Rattle.resolved.specs.Program.{Program, procedure_at}
use Rattle.common.specs.declared.exceptions.TheConstants.{END}
use Rattle.resolved.specs.Exits.{same_exit, has_exit, one_exit, index_raises, raises, thrown_exits, declared_by, leaves_loop, handles, passes, statement_exits, block_exits, handlers_exits, list_if}
use Rattle.resolved.specs.Labelled.{Scope, Join, LabelAtom, one, label_of, value_label, raise_label, call_exit_labels, ExitLabels}
use Rattle.resolved.specs.LabelRules.{at_exits, raised_exit_labels, loop_exit_labels, statement_rule, block_rule, handlers_rule, statement_exit_labels, block_exit_labels}
use Rattle.gathering.specs.Names.{Real, Inner, NamedAtom, NamedConstraint, named_atoms}
use Rattle.gathering.specs.Walk.{inner_atom, rule_constraint, target_constraint, inner_constraint, ExitUnknowns, with_normal, in_loop, handler_count, handler_number, in_try, flow, flows, raised_once, raised_flows, single, within_single, by_exits, onward_pc, raise_atoms, raise_atoms_all, store_atoms, call_atoms, made_by_statement, made_by_block, argument_constraints, call_flows, call_exits, call_constraints, statement_constraints, block_constraints, handlers_constraints}
use Rattle.gathering.proofs.Exits.{has-left, has-right, has-filter, then-rest, normal_or_other, exits-single, exits-many, taken_or_passed, in_try-taken, AmongTwo, same-thrown, raises-two, store-two, once-same, call-same}
use Rattle.gathering.proofs.Atoms.{Sub, sub-same, sub-left, sub-right, alike-raise, alike-value, alike-arguments, store_label, alike-store, alike-call}
use Rattle.gathering.proofs.Reached.{Goes, Part, PartIn, PartBy, Agrees, AgreesIn, AgreesBy}
use Rattle.common.proofs.Cases.{by_test}
use Rattle.resolved.proofs.Exits.{same_exit-itself, then-other}

pub then-exits : (scope : Scope) (pc : Join) (s : Statement) (rest : Block) (e : Exit) → same_exit Normal e ≡ false →
    Sub (statement_exit_labels scope pc s e) (block_rule scope pc (Then s rest) e)
then-exits scope pc s rest e other a h =
    Contains-append_left (list_if (not (same_exit Normal e)) (statement_exit_labels scope pc s e)) (block_rule scope (statement_exit_labels scope pc s Normal) rest e) a (rw other h)

-- ---- closed: what flows to an inner unknown is part of what it stands for
module _ (m : ℕ → Join) where
  abbrev pub atoms_of : NamedAtom → Join
  atoms_of (Written v) = Written v ∷ []
  atoms_of (Unknown (Real u)) = Unknown u ∷ []
  atoms_of (Unknown (Inner k)) = m k

  abbrev pub Below : List NamedAtom → Join → Type 0
  Below p pc = (b : NamedAtom) → Contains p b → Sub (atoms_of b) pc

  abbrev pub closed_by : NamedAtom → List NamedAtom → Option Target → Type 0
  closed_by (Written v) left target = Unit {0}
  closed_by (Unknown (Real u)) left target = Unit {0}
  closed_by (Unknown (Inner k)) left target = Below left (m k) × (target ≡ None)

  abbrev pub Closed : List NamedConstraint → Type 0
  Closed cs = (c : NamedConstraint) → Contains cs c → closed_by c.right c.left c.target

  pub below-append : (p q : List NamedAtom) (x y : Join) → Below p x → Below q y → Below (p ++ q) (x ++ y)
  below-append p q x y h k b there a i =
      ⊎_elim (λ t. Contains-append_left x y a (h b t a i)) (λ t. Contains-append_right x y a (k b t a i)) (Contains-append_cases p q b there)

  pub atoms-wire : (x : LabelAtom) → Sub (atoms_of (renamed Real x)) (x ∷ [])
  atoms-wire (Written v) a h = h
  atoms-wire (Unknown u) a h = h

  pub below-named : (j : Join) → Below (named_atoms j) j
  below-named [] b there a i = absurd (none_in_nil b there)
  below-named (x ∷ rest) b there a i =
      ⊎_elim
      (λ same. let k = atoms-wire x a (subst (λ y. Contains (atoms_of y) a) (sym same) i) in
      ⊎_elim (λ e. subst (λ y. Contains (x ∷ rest) y) e (Contains-first x rest)) (λ n. absurd (none_in_nil a n)) (Contains-cons_cases x [] a k))
      (λ t. Contains-later x rest a (below-named rest b t a i))
      (Contains-cons_cases (renamed Real x) (named_atoms rest) b there)

  pub below-sub : (p : List NamedAtom) (x y : Join) → Below p x → Sub x y → Below p y
  below-sub p x y h s b there a i = s a (h b there a i)

  pub below-inner : (n : ℕ) (j : Join) → m n ≡ j → Below (inner_atom n ∷ []) j
  below-inner n j e b there a i =
      ⊎_elim (λ same. subst (λ y. Contains y a) e (subst (λ y. Contains (atoms_of y) a) (sym same) i)) (λ t. absurd (none_in_nil b t))
      (Contains-cons_cases (Unknown (Inner n)) [] b there)

  pub closed-nil : Closed []
  closed-nil c h = absurd (none_in_nil c h)

  pub closed-append : (xs ys : List NamedConstraint) → Closed xs → Closed ys → Closed (xs ++ ys)
  closed-append xs ys h k c there = ⊎_elim (λ t. h c t) (λ t. k c t) (Contains-append_cases xs ys c there)

  pub closed-one : (c : NamedConstraint) → closed_by c.right c.left c.target → Closed (c ∷ [])
  closed-one c h x there = ⊎_elim (λ same. subst (λ (y : NamedConstraint). closed_by y.right y.left y.target) same h) (λ t. absurd (none_in_nil x t)) (Contains-cons_cases c [] x there)

  pub closed_by-real : (a : LabelAtom) (left : List NamedAtom) (target : Option Target) → closed_by (renamed Real a) left target
  closed_by-real (Written v) left target = tt
  closed_by-real (Unknown u) left target = tt

  pub closed-rule_constraint : (scope : Scope) (at rule : ℕ) (left : List NamedAtom) (target : Target) → Closed (rule_constraint scope at rule left target)
  closed-rule_constraint scope at rule left target = closed-one _ (closed_by-real (label_of scope.program target) left (Some target))

  pub closed-target : (scope : Scope) (at rule : ℕ) (left : List NamedAtom) (target : Option Variable) → Closed (target_constraint scope at rule left target)
  closed-target scope at rule left None = closed-nil
  closed-target scope at rule left (Some x) = closed-rule_constraint scope at rule left (ToVariable scope.number x)

  pub closed-inner : (left : List NamedAtom) (k : ℕ) → Below left (m k) → Closed (inner_constraint left k)
  closed-inner left k h = closed-one _ (h, refl)

  pub closed-flow : (left : List NamedAtom) (o : Option ℕ) → ((k : ℕ) → o ≡ Some k → Below left (m k)) → Closed (flow left o)
  closed-flow left None h = closed-nil
  closed-flow left (Some k) h = closed-inner left k (h k refl)

  pub closed-flows : (left : List NamedAtom) (exit_unknowns : ExitUnknowns) (ends : List Exit) → ((e : Exit) (k : ℕ) → has_exit ends e ≡ true → exit_unknowns e ≡ Some k → Below left (m k)) →
      Closed (flows left exit_unknowns ends)
  closed-flows left exit_unknowns [] h = closed-nil
  closed-flows left exit_unknowns (e ∷ rest) h =
      closed-append (flow left (exit_unknowns e)) (flows left exit_unknowns rest)
      (closed-flow left (exit_unknowns e) (λ k i. h e k (or_left (same_exit e e) (has_exit rest e) (same_exit-itself e)) i))
      (closed-flows left exit_unknowns rest (λ x k i. h x k (or_right (same_exit x e) (has_exit rest x) i)))

  -- a named_pc with parts of the text
  pub pc-below : (p : NamedAtom) (pc x j : Join) → Below (p ∷ []) pc → Sub (pc ++ x) j → Below (p ∷ named_atoms x) j
  pc-below p pc x j below sub =
      below-sub (p ∷ named_atoms x) (pc ++ x) j (below-append (p ∷ []) (named_atoms x) pc x below (below-named x)) sub

  pub closed-arguments : (scope : Scope) (at own callee i : ℕ) (es : List Expression) → Closed (argument_constraints scope at own callee i es)
  closed-arguments scope at own callee i [] = closed-nil
  closed-arguments scope at own callee i (e ∷ rest) =
      let left : List NamedAtom = inner_atom own ∷ named_atoms (value_label scope e) in
      closed-append (rule_constraint scope at 6 left (ToParameter callee i)) (argument_constraints scope at own callee (suc i) rest)
      (closed-rule_constraint scope at 6 left (ToParameter callee i)) (closed-arguments scope at own callee (suc i) rest)

  pub closed-call_flows : (program : Program) (callee own : ℕ) (exit_unknowns : ExitUnknowns) (ends : List Exit) →
      ((e : Exit) (k : ℕ) → has_exit ends e ≡ true → exit_unknowns e ≡ Some k → Below (inner_atom own ∷ named_atoms (call_atoms program callee e)) (m k)) →
      Closed (call_flows program callee own exit_unknowns ends)
  closed-call_flows program callee own exit_unknowns [] h = closed-nil
  closed-call_flows program callee own exit_unknowns (e ∷ rest) h =
      let left : List NamedAtom = inner_atom own ∷ named_atoms (call_atoms program callee e) in
      closed-append (flow left (exit_unknowns e)) (call_flows program callee own exit_unknowns rest)
      (closed-flow left (exit_unknowns e) (λ k i. h e k (or_left (same_exit e e) (has_exit rest e) (same_exit-itself e)) i))
      (closed-call_flows program callee own exit_unknowns rest (λ x k i. h x k (or_right (same_exit x e) (has_exit rest x) i)))

  -- the exit unknowns of exits stand for no less than their exits
  abbrev pub Take : List Exit → ExitUnknowns → ExitLabels → Type 0
  Take ends exit_unknowns exits = (e : Exit) (k : ℕ) → has_exit ends e ≡ true → exit_unknowns e ≡ Some k → Sub (exits e) (m k)

  pub take-within : (b : Bool) (ends : List Exit) (exit_unknowns : ExitUnknowns) (pc : Join) (exits : ExitLabels) → one_exit ends ≡ b → Take ends exit_unknowns (at_exits ends pc exits) →
      Take ends (within_single b exit_unknowns) exits
  take-within true ends exit_unknowns pc exits one take e k h is a there = let i : None ≡ Some k = is in absurd (cc)
  take-within false ends exit_unknowns pc exits one take e k h is a there =
      take e k h is a (subst (λ x. Contains x a) (sym (exits-many ends pc exits e one h)) there)

  pub closed-single : (b : Bool) (ends : List Exit) (p : NamedAtom) (exit_unknowns : ExitUnknowns) (pc : Join) (exits : ExitLabels) → one_exit ends ≡ b → Below (p ∷ []) pc →
      Take ends exit_unknowns (at_exits ends pc exits) → Closed (single b p exit_unknowns ends)
  closed-single false ends p exit_unknowns pc exits one below take = closed-nil
  closed-single true [] p exit_unknowns pc exits one below take = closed-nil
  closed-single true (e ∷ rest) p exit_unknowns pc exits one below take =
      closed-flow (p ∷ []) (exit_unknowns e) (λ k is. below-sub (p ∷ []) pc (m k) below (λ a h.
      let there : has_exit (e ∷ rest) e ≡ true = or_left (same_exit e e) (has_exit rest e) (same_exit-itself e) in
      take e k there is a (subst (λ x. Contains x a) (sym (exits-single (e ∷ rest) pc exits e one there)) h)))

  -- a block within a statement, by its walk
  pub closed-block : (ends : List Exit) (p : NamedAtom) (exit_unknowns : ExitUnknowns) (pc : Join) (exits : ExitLabels) (walked : ExitUnknowns → List NamedConstraint) → Below (p ∷ []) pc →
      Take ends exit_unknowns (at_exits ends pc exits) → ((t : ExitUnknowns) → Take ends t exits → Closed (walked t)) →
      Closed (single (one_exit ends) p exit_unknowns ends ++ walked (within_single (one_exit ends) exit_unknowns))
  closed-block ends p exit_unknowns pc exits walked below take each =
      closed-append (single (one_exit ends) p exit_unknowns ends) (walked (within_single (one_exit ends) exit_unknowns))
      (closed-single (one_exit ends) ends p exit_unknowns pc exits refl below take)
      (each (within_single (one_exit ends) exit_unknowns) (take-within (one_exit ends) ends exit_unknowns pc exits refl take))

  pub raised-has : (e : Expression) (q : Join) (exit : Exit) → has_exit (thrown_exits (raises e)) exit ≡ true → Sub q (raised_exit_labels e q exit)
  raised-has e q exit h = sub-same q (raised_exit_labels e q exit) (rw h refl)

  pub onward-below : (b : Bool) (ends : List Exit) (p : NamedAtom) (n : ℕ) (pc : Join) (exits : ExitLabels) → has_exit ends Normal ≡ true → one_exit ends ≡ b →
      m n ≡ at_exits ends pc exits Normal → Below (p ∷ []) pc → Below (onward_pc b p n ∷ []) (at_exits ends pc exits Normal)
  onward-below true ends p n pc exits has one is below = below-sub (p ∷ []) pc (at_exits ends pc exits Normal) below (sub-same pc _ (sym (exits-single ends pc exits Normal one has)))
  onward-below false ends p n pc exits has one is below = below-inner n (at_exits ends pc exits Normal) is

  pub closed-raised : (q : List NamedAtom) (j : Join) (exit_unknowns : ExitUnknowns) (raised : List ℕ) → AmongTwo raised → Below q j →
      Take (thrown_exits raised) exit_unknowns (λ y. j) → Closed (raised_flows q exit_unknowns raised)
  closed-raised q j exit_unknowns raised two below take =
      closed-flows q exit_unknowns (thrown_exits (raised_once raised)) (λ y k h is. below-sub q j (m k) below
      (take y k (sym (same-thrown (raised_once raised) raised (once-same raised two) y) ∙ h) is))

  -- the first exit of a statement and its exceptions, at the same label
  pub closed-own : (q : List NamedAtom) (j : Join) (exit_unknowns : ExitUnknowns) (first : Exit) (raised : List ℕ) → AmongTwo raised → Below q j →
      Take (first ∷ thrown_exits raised) exit_unknowns (λ y. j) → Closed (flow q (exit_unknowns first) ++ raised_flows q exit_unknowns raised)
  closed-own q j exit_unknowns first raised two below take =
      closed-append (flow q (exit_unknowns first)) (raised_flows q exit_unknowns raised)
      (closed-flow q (exit_unknowns first) (λ k is. below-sub q j (m k) below (take first k (or_left (same_exit first first) (has_exit (thrown_exits raised) first) (same_exit-itself first)) is)))
      (closed-raised q j exit_unknowns raised two below (λ y k h is. take y k (or_right (same_exit y first) (has_exit (thrown_exits raised) y) h) is))

  module _ (scope : Scope) where
    pub closed-unreached : (s : Statement) (rest : Block) (p : NamedAtom) (exit_unknowns : ExitUnknowns) (n : ℕ) → Goes scope.program s rest → has_exit (statement_exits scope.program s) Normal ≡ false →
        Closed (block_constraints scope false p exit_unknowns n rest)
    closed-unreached s Empty p exit_unknowns n goes e = closed-nil
    closed-unreached s (Then next rest) p exit_unknowns n goes e = let i : true ≡ false = sym goes ∙ e in absurd (cc)

    pub take-statement : (pc : Join) (s : Statement) (rest : Block) (exit_unknowns : ExitUnknowns) → Take (block_exits scope.program (Then s rest)) exit_unknowns (block_rule scope pc (Then s rest)) →
        (normal : Option ℕ) → ((k : ℕ) → normal ≡ Some k → m k ≡ statement_exit_labels scope pc s Normal) →
        Take (statement_exits scope.program s) (with_normal normal exit_unknowns) (statement_exit_labels scope pc s)
    take-statement pc s rest exit_unknowns take normal named e k h is = ⊎_elim
        (λ same a there. subst (λ x. Contains x a) (sym (named k (subst (λ x. with_normal normal exit_unknowns x ≡ Some k) (sym same) is)))
        (subst (λ x. Contains (statement_exit_labels scope pc s x) a) (sym same) there))
        (λ other a there. take e k (then-other (statement_exits scope.program s) (block_exits scope.program rest) e other.0 h) (sym (other.1 normal exit_unknowns) ∙ is) a
        (then-exits scope pc s rest e other.0 a there))
        (normal_or_other e)

    pub loop-leaving : (xs : List ℕ) (ends : List Exit) (y : Exit) → leaves_loop y ≡ true → has_exit ends y ≡ true → has_exit (Normal ∷ (thrown_exits xs ++ filter leaves_loop ends)) y ≡ true
    loop-leaving xs ends y leaves h =
        or_right (same_exit y Normal) (has_exit (thrown_exits xs ++ filter leaves_loop ends) y) (has-right (thrown_exits xs) (filter leaves_loop ends) y (has-filter leaves_loop ends y leaves h))

    -- what the exit unknowns of a loop's body stand for
    pub in_body : (ends : List Exit) (exit_unknowns : ExitUnknowns) (n : ℕ) (x : ExitLabels) (b : Join) (e : Expression) (q : Join) → m (suc n) ≡ (x Normal ++ x Continue) →
        Take (Normal ∷ (thrown_exits (raises e) ++ filter leaves_loop ends)) exit_unknowns (λ y. raised_exit_labels e q y ++ loop_exit_labels b x y) → Take ends (in_loop (suc n) exit_unknowns) x
    in_body ends exit_unknowns n x b e q is take Normal k h at a i =
        let same : suc n ≡ k = cc in subst (λ z. Contains (m z) a) same (sub-same _ (m (suc n)) (sym is) a (sub-left (x Normal) (x Continue) a i))
    in_body ends exit_unknowns n x b e q is take Continue k h at a i =
        let same : suc n ≡ k = cc in subst (λ z. Contains (m z) a) same (sub-same _ (m (suc n)) (sym is) a (sub-right (x Normal) (x Continue) a i))
    in_body ends exit_unknowns n x b e q is take Break k h at a i =
        take Normal k refl at a (sub-right (raised_exit_labels e q Normal) (b ++ x Break) a (sub-right b (x Break) a i))
    in_body ends exit_unknowns n x b e q is take Return k h at a i =
        take Return k (loop-leaving (raises e) ends Return refl h) at a (sub-right (raised_exit_labels e q Return) (x Return) a i)
    in_body ends exit_unknowns n x b e q is take (Throw y) k h at a i =
        take (Throw y) k (loop-leaving (raises e) ends (Throw y) refl h) at a (sub-right (raised_exit_labels e q (Throw y)) (x (Throw y)) a i)

    -- what the exit unknowns of a try's block stand for
    pub in_block : (ends others : List Exit) (handlers : Handlers) (number : ℕ → ℕ) (exit_unknowns : ExitUnknowns) (x rest : ExitLabels) → ((y : ℕ) → handles handlers y ≡ true → m (number y) ≡ x (Throw y)) →
        Take (filter (passes handlers) ends ++ others) exit_unknowns (λ y. list_if (passes handlers y) (x y) ++ rest y) → Take ends (in_try number handlers exit_unknowns) x
    in_block ends others handlers number exit_unknowns x rest named take e k h is a there = ⊎_elim
        (λ taken. let to : Some (number taken.0) ≡ Some k = sym (in_try-taken number handlers exit_unknowns taken.0 taken.2) ∙ ap (in_try number handlers exit_unknowns) taken.1 ∙ is in
        let same : number taken.0 ≡ k = cc in
        subst (λ z. Contains (m z) a) same (sub-same (x (Throw taken.0)) (m (number taken.0)) (sym (named taken.0 taken.2)) a (subst (λ z. Contains (x z) a) (sym taken.1) there)))
        (λ passed. take e k (has-left (filter (passes handlers) ends) others e (has-filter (passes handlers) ends e passed.0 h)) (sym passed.1 ∙ is) a
        (sub-left (list_if (passes handlers e) (x e)) (rest e) a (sub-same (x e) (list_if (passes handlers e) (x e)) (rw passed.0 refl) a there)))
        (taken_or_passed number handlers exit_unknowns e)

    -- a statement with one demand, and its exits
    pub closed-demanding : (at rule : ℕ) (left : List NamedAtom) (target : Target) (q : List NamedAtom) (j : Join) (exit_unknowns : ExitUnknowns) (first : Exit) (raised : List ℕ) →
        AmongTwo raised → Below q j → Take (first ∷ thrown_exits raised) exit_unknowns (λ y. j) →
        Closed (rule_constraint scope at rule left target ++ (flow q (exit_unknowns first) ++ raised_flows q exit_unknowns raised))
    closed-demanding at rule left target q j exit_unknowns first raised two below take =
        closed-append (rule_constraint scope at rule left target) (flow q (exit_unknowns first) ++ raised_flows q exit_unknowns raised)
        (closed-rule_constraint scope at rule left target) (closed-own q j exit_unknowns first raised two below take)

    pub closed-call : (at callee : ℕ) (arguments : List Expression) (target : Option Variable) (p : NamedAtom) (pc : Join) (exit_unknowns : ExitUnknowns) (n : ℕ) →
        m n ≡ (pc ++ flat_map (raise_label scope) arguments) → Below (p ∷ []) pc →
        Take (statement_exits scope.program (Placed at (Call callee arguments target))) exit_unknowns (call_exit_labels scope.program callee (pc ++ flat_map (raise_label scope) arguments)) →
        Closed (call_constraints scope p exit_unknowns n at callee arguments target)
    closed-call at callee arguments target p pc exit_unknowns n is below take =
        let j : Join = pc ++ flat_map (raise_label scope) arguments in
        let ends : List Exit = call_exits scope.program callee arguments in
        let own : Below (inner_atom n ∷ []) j = below-inner n j is in
        let entry : List NamedConstraint = inner_constraint (p ∷ named_atoms (raise_atoms_all scope arguments)) n in
        let first : List NamedConstraint = rule_constraint scope at 6 (inner_atom n ∷ []) (ToBegin callee) in
        let second : List NamedConstraint = argument_constraints scope at n callee 0 arguments in
        let left : List NamedAtom = inner_atom n ∷ named_atoms (call_atoms scope.program callee Normal ++ one (label_of scope.program (ToValue callee))) in
        let third : List NamedConstraint = target_constraint scope at 6 left target in
        let fourth : List NamedConstraint = call_flows scope.program callee n exit_unknowns ends in
        closed-append entry (first ++ (second ++ (third ++ fourth)))
        (closed-inner (p ∷ named_atoms (raise_atoms_all scope arguments)) n
        (pc-below p pc (raise_atoms_all scope arguments) (m n) below (λ a h. sub-same j (m n) (sym is) a ((alike-arguments scope pc arguments).0 a h))))
        (closed-append first (second ++ (third ++ fourth)) (closed-rule_constraint scope at 6 (inner_atom n ∷ []) (ToBegin callee))
        (closed-append second (third ++ fourth) (closed-arguments scope at n callee 0 arguments)
        (closed-append third fourth (closed-target scope at 6 left target)
        (closed-call_flows scope.program callee n exit_unknowns ends (λ y k h at_k.
        pc-below (inner_atom n) j (call_atoms scope.program callee y) (m k) own (λ a i.
        take y k (call-there callee arguments y h) at_k a ((alike-call scope.program callee j y).0 a i)))))))
      where
        call-there : (callee : ℕ) (arguments : List Expression) (y : Exit) → has_exit (call_exits scope.program callee arguments) y ≡ true →
            has_exit (Normal ∷ thrown_exits (flat_map raises arguments ++ declared_by (procedure_at scope.program callee).throws)) y ≡ true
        call-there callee arguments y h = sym (call-same scope.program callee arguments y) ∙ h

    mutual
      pub closed-statement : (s : Statement) (p : NamedAtom) (pc : Join) (exit_unknowns : ExitUnknowns) (n : ℕ) → Part scope.program s → Agrees scope m n pc s → Below (p ∷ []) pc →
          Take (statement_exits scope.program s) exit_unknowns (statement_rule scope pc s) → Closed (statement_constraints scope p exit_unknowns n s)
      closed-statement (Placed at (Assign x e)) p pc exit_unknowns n part agrees below take =
          closed-demanding at 1 (p ∷ named_atoms (value_label scope e)) (ToVariable scope.number x) (p ∷ named_atoms (raise_atoms scope e)) (pc ++ raise_label scope e)
          exit_unknowns Normal (raises e) (raises-two e) (pc-below p pc (raise_atoms scope e) (pc ++ raise_label scope e) below (alike-raise scope pc e).0) take
      closed-statement (Placed at (Clear slot)) p pc exit_unknowns n part agrees below take =
          closed-append (rule_constraint scope at 2 (p ∷ []) (ToVariable scope.number (Local slot))) (flow (p ∷ []) (exit_unknowns Normal))
          (closed-rule_constraint scope at 2 (p ∷ []) (ToVariable scope.number (Local slot)))
          (closed-flow (p ∷ []) (exit_unknowns Normal) (λ k is. below-sub (p ∷ []) pc (m k) below (take Normal k refl is)))
      closed-statement (Placed at (Store array len index e)) p pc exit_unknowns n part agrees below take =
          let j : Join = store_label scope pc len index e in
          closed-demanding at 3 (p ∷ named_atoms (value_label scope index ++ value_label scope e)) (ToVariable scope.number array) (p ∷ named_atoms (store_atoms scope len index e)) j
          exit_unknowns Normal (raises index ++ raises e ++ index_raises index len) (store-two index e len) (pc-below p pc (store_atoms scope len index e) j below (alike-store scope pc len index e).0) take
      closed-statement (Placed at (Receive channel target)) p pc exit_unknowns n part agrees below take =
          let label : Join = one (label_of scope.program (ToChannel channel)) in
          let q : List NamedAtom = p ∷ named_atoms label in
          let q_below : Below q (pc ++ label) = below-append (p ∷ []) (named_atoms label) pc label below (below-named label) in
          closed-append (rule_constraint scope at 4 (p ∷ []) (ToChannel channel)) (target_constraint scope at 4 q target ++ (flow q (exit_unknowns Normal) ++ flow q (exit_unknowns (Throw END))))
          (closed-rule_constraint scope at 4 (p ∷ []) (ToChannel channel))
          (closed-append (target_constraint scope at 4 q target) (flow q (exit_unknowns Normal) ++ flow q (exit_unknowns (Throw END)))
          (closed-target scope at 4 q target)
          (closed-append (flow q (exit_unknowns Normal)) (flow q (exit_unknowns (Throw END)))
          (closed-flow q (exit_unknowns Normal) (λ k is. below-sub q (pc ++ label) (m k) q_below (take Normal k refl is)))
          (closed-flow q (exit_unknowns (Throw END)) (λ k is. below-sub q (pc ++ label) (m k) q_below (take (Throw END) k refl is)))))
      closed-statement (Placed at (Send channel e)) p pc exit_unknowns n part agrees below take =
          closed-demanding at 5 (p ∷ named_atoms (value_label scope e)) (ToChannel channel) (p ∷ named_atoms (raise_atoms scope e)) (pc ++ raise_label scope e)
          exit_unknowns Normal (raises e) (raises-two e) (pc-below p pc (raise_atoms scope e) (pc ++ raise_label scope e) below (alike-raise scope pc e).0) take
      closed-statement (Placed at (Call procedure arguments target)) p pc exit_unknowns n part agrees below take = closed-call at procedure arguments target p pc exit_unknowns n agrees below take
      closed-statement (Placed at (If e then_block else_block)) p pc exit_unknowns n part agrees below take =
          let r : Join = raise_label scope e in
          let v : Join = value_label scope e in
          let branch : Join = (pc ++ r) ++ v in
          let thrown : List Exit = thrown_exits (raises e) in
          let yes_exits : List Exit = block_exits scope.program then_block in
          let no_exits : List Exit = block_exits scope.program else_block in
          let yes_exit_labels : ExitLabels = block_exit_labels scope branch then_block in
          let no_exit_labels : ExitLabels = block_exit_labels scope branch else_block in
          let q : List NamedAtom = p ∷ named_atoms (raise_atoms scope e) in
          let q_below : Below q (pc ++ r) = pc-below p pc (raise_atoms scope e) (pc ++ r) below (alike-raise scope pc e).0 in
          let b_below : Below (inner_atom n ∷ []) branch = below-inner n branch agrees.0 in
          let first : List NamedConstraint = inner_constraint (p ∷ named_atoms v) n in
          let second : List NamedConstraint = raised_flows q exit_unknowns (raises e) in
          let third : List NamedConstraint = by_exits yes_exits (inner_atom n) exit_unknowns (λ t. block_constraints scope true (inner_atom n) t (suc n) then_block) in
          let fourth : List NamedConstraint = by_exits no_exits (inner_atom n) exit_unknowns (λ t. block_constraints scope true (inner_atom n) t (suc n + made_by_block then_block) else_block) in
          closed-append first (second ++ (third ++ fourth))
          (closed-inner (p ∷ named_atoms v) n (pc-below p pc v (m n) below (λ a h. sub-same branch (m n) (sym agrees.0) a ((alike-value scope pc e).0 a h))))
          (closed-append second (third ++ fourth)
          (closed-raised q (pc ++ r) exit_unknowns (raises e) (raises-two e) q_below (λ y k h is a i.
          take y k (has-left (thrown ++ yes_exits) no_exits y (has-left thrown yes_exits y h)) is a
          (sub-left (raised_exit_labels e (pc ++ r) y ++ yes_exit_labels y) (no_exit_labels y) a (sub-left (raised_exit_labels e (pc ++ r) y) (yes_exit_labels y) a (raised-has e (pc ++ r) y h a i)))))
          (closed-append third fourth
          (closed-block yes_exits (inner_atom n) exit_unknowns branch (block_rule scope branch then_block) (λ t. block_constraints scope true (inner_atom n) t (suc n) then_block) b_below
          (λ y k h is a i. take y k (has-left (thrown ++ yes_exits) no_exits y (has-right thrown yes_exits y h)) is a
          (sub-left (raised_exit_labels e (pc ++ r) y ++ yes_exit_labels y) (no_exit_labels y) a (sub-right (raised_exit_labels e (pc ++ r) y) (yes_exit_labels y) a i)))
          (λ t fit. closed-statements then_block true (inner_atom n) branch t (suc n) part.0 agrees.1 b_below fit))
          (closed-block no_exits (inner_atom n) exit_unknowns branch (block_rule scope branch else_block) (λ t. block_constraints scope true (inner_atom n) t (suc n + made_by_block then_block) else_block) b_below
          (λ y k h is a i. take y k (has-right (thrown ++ yes_exits) no_exits y h) is a
          (sub-right (raised_exit_labels e (pc ++ r) y ++ yes_exit_labels y) (no_exit_labels y) a i))
          (λ t fit. closed-statements else_block true (inner_atom n) branch t (suc n + made_by_block then_block) part.1 agrees.2 b_below fit))))
      closed-statement (Placed at (While loop e body)) p pc exit_unknowns n part agrees below take =
          let l : Join = one (label_of scope.program (ToLoop scope.number loop)) in
          let loop_atom : NamedAtom = renamed Real (label_of scope.program (ToLoop scope.number loop)) in
          let r : Join = raise_label scope e in
          let v : Join = value_label scope e in
          let q : List NamedAtom = loop_atom ∷ named_atoms (raise_atoms scope e) in
          let b : Join = (l ++ r) ++ v in
          let thrown : List Exit = thrown_exits (raises e) in
          let ends : List Exit = block_exits scope.program body in
          let x : ExitLabels = block_exit_labels scope b body in
          let q_below : Below q (l ++ r) = pc-below loop_atom l (raise_atoms scope e) (l ++ r) (below-named l) (alike-raise scope l e).0 in
          let b_below : Below (inner_atom n ∷ []) b = below-inner n b agrees.0 in
          let all_ends : List Exit = thrown ++ filter leaves_loop ends in
          let first : List NamedConstraint = rule_constraint scope at 8 (p ∷ []) (ToLoop scope.number loop) in
          let entry : List NamedConstraint = inner_constraint (loop_atom ∷ named_atoms v) n in
          let out : List NamedConstraint = flow (inner_atom n ∷ []) (exit_unknowns Normal) in
          let raising : List NamedConstraint = raised_flows q exit_unknowns (raises e) in
          let third : List NamedConstraint = by_exits ends (inner_atom n) (in_loop (suc n) exit_unknowns) (λ t. block_constraints scope true (inner_atom n) t (suc (suc n)) body) in
          let fourth : List NamedConstraint = rule_constraint scope at 8 (inner_atom (suc n) ∷ []) (ToLoop scope.number loop) in
          closed-append first (entry ++ (out ++ (raising ++ (third ++ fourth))))
          (closed-rule_constraint scope at 8 (p ∷ []) (ToLoop scope.number loop))
          (closed-append entry (out ++ (raising ++ (third ++ fourth)))
          (closed-inner (loop_atom ∷ named_atoms v) n (pc-below loop_atom l v (m n) (below-named l) (λ a h. sub-same b (m n) (sym agrees.0) a ((alike-value scope l e).0 a h))))
          (closed-append out (raising ++ (third ++ fourth))
          (closed-flow (inner_atom n ∷ []) (exit_unknowns Normal) (λ k is. below-sub (inner_atom n ∷ []) b (m k) b_below (λ a i.
          take Normal k refl is a (sub-right (raised_exit_labels e (l ++ r) Normal) (b ++ x Break) a (sub-left b (x Break) a i)))))
          (closed-append raising (third ++ fourth)
          (closed-raised q (l ++ r) exit_unknowns (raises e) (raises-two e) q_below (λ y k h is a i.
          take y k (or_right (same_exit y Normal) (has_exit all_ends y) (has-left thrown (filter leaves_loop ends) y h)) is a
          (sub-left (raised_exit_labels e (l ++ r) y) (loop_exit_labels b x y) a (raised-has e (l ++ r) y h a i))))
          (closed-append third fourth
          (closed-block ends (inner_atom n) (in_loop (suc n) exit_unknowns) b (block_rule scope b body) (λ t. block_constraints scope true (inner_atom n) t (suc (suc n)) body) b_below
          (in_body ends exit_unknowns n x b e (l ++ r) agrees.1 take)
          (λ t fit. closed-statements body true (inner_atom n) b t (suc (suc n)) part agrees.2 b_below fit))
          (closed-rule_constraint scope at 8 (inner_atom (suc n) ∷ []) (ToLoop scope.number loop))))))
      closed-statement (Placed at (Leave exit)) p pc exit_unknowns n part agrees below take =
          closed-flow (p ∷ []) (exit_unknowns exit) (λ k is. below-sub (p ∷ []) pc (m k) below (take exit k (or_left (same_exit exit exit) false (same_exit-itself exit)) is))
      closed-statement (Placed at (ReturnWith (Some e))) p pc exit_unknowns n part agrees below take =
          closed-demanding at 10 (p ∷ named_atoms (value_label scope e)) (ToValue scope.number) (p ∷ named_atoms (raise_atoms scope e)) (pc ++ raise_label scope e)
          exit_unknowns Return (raises e) (raises-two e) (pc-below p pc (raise_atoms scope e) (pc ++ raise_label scope e) below (alike-raise scope pc e).0) take
      closed-statement (Placed at (ReturnWith None)) p pc exit_unknowns n part agrees below take =
          closed-flow (p ∷ []) (exit_unknowns Return) (λ k is. below-sub (p ∷ []) pc (m k) below (take Return k refl is))
      closed-statement (Placed at (Try block handlers)) p pc exit_unknowns n part agrees below take =
          let ends : List Exit = block_exits scope.program block in
          let x : ExitLabels = block_exit_labels scope pc block in
          let number : ℕ → ℕ = λ y. handler_number handlers n y in
          let inside : ExitUnknowns = in_try number handlers exit_unknowns in
          closed-append (by_exits ends p inside (λ t. block_constraints scope true p t (n + handler_count handlers) block))
          (handlers_constraints scope number exit_unknowns ((n + handler_count handlers) + made_by_block block) handlers)
          (closed-block ends p inside pc (block_rule scope pc block) (λ t. block_constraints scope true p t (n + handler_count handlers) block) below
          (in_block ends (handlers_exits scope.program handlers) handlers number exit_unknowns x (handlers_rule scope x handlers) agrees.0 take)
          (λ t fit. closed-statements block true p pc t (n + handler_count handlers) part.0 agrees.1 below fit))
          (closed-handlers handlers number x exit_unknowns ((n + handler_count handlers) + made_by_block block) part.1 agrees.2 agrees.0 (λ y k h is a i.
          take y k (has-right (filter (passes handlers) ends) (handlers_exits scope.program handlers) y h) is a
          (sub-right (list_if (passes handlers y) (x y)) (handlers_rule scope x handlers y) a i)))
      closed-statement (Placed at (Nested block)) p pc exit_unknowns n part agrees below take =
          closed-block (block_exits scope.program block) p exit_unknowns pc (block_rule scope pc block) (λ t. block_constraints scope true p t n block) below take
          (λ t fit. closed-statements block true p pc t n part agrees below fit)

      pub closed-statements : (block : Block) (reached : Bool) (p : NamedAtom) (pc : Join) (exit_unknowns : ExitUnknowns) (n : ℕ) → PartIn scope.program block → AgreesIn scope m n pc block → Below (p ∷ []) pc →
          Take (block_exits scope.program block) exit_unknowns (block_rule scope pc block) → Closed (block_constraints scope reached p exit_unknowns n block)
      closed-statements Empty true p pc exit_unknowns n part agrees below take =
          closed-flow (p ∷ []) (exit_unknowns Normal) (λ k is. below-sub (p ∷ []) pc (m k) below (take Normal k refl is))
      closed-statements Empty false p pc exit_unknowns n part agrees below take = closed-nil
      closed-statements (Then s rest) reached p pc exit_unknowns n part agrees below take =
          let ends : List Exit = statement_exits scope.program s in
          let x : ExitLabels = statement_exit_labels scope pc s in
          let named_pc : NamedAtom = onward_pc (one_exit ends) p n in
          let first : List NamedConstraint = single (one_exit ends) p (with_normal None exit_unknowns) ends in
          let second : List NamedConstraint = statement_constraints scope p (within_single (one_exit ends) (with_normal (Some n) exit_unknowns)) (suc n) s in
          let third : List NamedConstraint = block_constraints scope (has_exit ends Normal) named_pc exit_unknowns (suc n + made_by_statement s) rest in
          closed-append first (second ++ third)
          (closed-single (one_exit ends) ends p (with_normal None exit_unknowns) pc (statement_rule scope pc s) refl below
          (take-statement pc s rest exit_unknowns take None (λ k i. absurd (cc))))
          (closed-append second third
          (closed-statement s p pc (within_single (one_exit ends) (with_normal (Some n) exit_unknowns)) (suc n) part.0 agrees.1 below
          (take-within (one_exit ends) ends (with_normal (Some n) exit_unknowns) pc (statement_rule scope pc s) refl
          (take-statement pc s rest exit_unknowns take (Some n) (λ k i. let same : n ≡ k = cc in subst (λ y. m y ≡ x Normal) same agrees.0))))
          (by_test (has_exit ends Normal)
          (λ h. closed-statements rest (has_exit ends Normal) named_pc (x Normal) exit_unknowns (suc n + made_by_statement s) part.2 agrees.2
          (onward-below (one_exit ends) ends p n pc (statement_rule scope pc s) h refl agrees.0 below)
          (λ e k there is a i. take e k (then-rest ends (block_exits scope.program rest) e h there) is a
          (sub-right (list_if (not (same_exit Normal e)) (x e)) (block_rule scope (x Normal) rest e) a i)))
          (λ h. subst (λ b. Closed (block_constraints scope b named_pc exit_unknowns (suc n + made_by_statement s) rest)) (sym h)
          (closed-unreached s rest named_pc exit_unknowns (suc n + made_by_statement s) part.1 h))))

      pub closed-handlers : (handlers : Handlers) (number : ℕ → ℕ) (x : ExitLabels) (exit_unknowns : ExitUnknowns) (n : ℕ) → PartBy scope.program handlers → AgreesBy scope m n x handlers →
          ((y : ℕ) → handles handlers y ≡ true → m (number y) ≡ x (Throw y)) → Take (handlers_exits scope.program handlers) exit_unknowns (handlers_rule scope x handlers) →
          Closed (handlers_constraints scope number exit_unknowns n handlers)
      closed-handlers NoMore number x exit_unknowns n part agrees named take = closed-nil
      closed-handlers (Catch at handled body rest) number x exit_unknowns n part agrees named take =
          let ends : List Exit = block_exits scope.program body in
          let pc : Join = x (Throw handled) in
          let p : NamedAtom = inner_atom (number handled) in
          let first : List NamedConstraint = by_exits ends p exit_unknowns (λ t. block_constraints scope true p t n body) in
          let below : Below (p ∷ []) pc = below-inner (number handled) pc (named handled (or_left (handled == handled) (handles rest handled) (eq-eqb handled handled refl))) in
          closed-append first (handlers_constraints scope number exit_unknowns (n + made_by_block body) rest)
          (closed-block ends p exit_unknowns pc (block_rule scope pc body) (λ t. block_constraints scope true p t n body) below
          (λ e k h is a i. take e k (has-left ends (handlers_exits scope.program rest) e h) is a (sub-left (block_exit_labels scope pc body e) (handlers_rule scope x rest e) a i))
          (λ t fit. closed-statements body true p pc t n part.0 agrees.0 below fit))
          (closed-handlers rest number x exit_unknowns (n + made_by_block body) part.1 agrees.1 (λ y h. named y (or_right (y == handled) (handles rest y) h))
          (λ e k h is a i. take e k (has-right ends (handlers_exits scope.program rest) e h) is a (sub-right (block_exit_labels scope pc body e) (handlers_rule scope x rest e) a i)))
