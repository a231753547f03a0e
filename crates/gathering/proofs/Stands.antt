-- What is gathered stands for the demands, one by one and in order.
use Rattle.std.proofs.Common.{◌≡◌, refl, sym, ap, ◌∙◌, subst, ℕ, suc, ◌+◌, Bool, true, false, List, [], ◌∷◌, ◌++◌, ⊎_elim}
use Rattle.std.specs.Prelude.{IsTrue, IsFalse, Contains, Option, Some, None, if◌then◌else◌, ◌==◌, flat_map}
use Rattle.std.proofs.lemmas.Bool.{or_left, or_right, eq-eqb}
use Rattle.std.proofs.lemmas.List.Elements.{Contains-append_cases}
use Rattle.common.proofs.Elements.{Contains-first}
use Rattle.lattices.specs.Constraints.{Written, Unknown, renamed, is_inner, outer, Feeds, itself, through, LeftStandsFor, OneByOne}
use Rattle.resolved.specs.declared.expression.Variable.{Variable}
use Rattle.resolved.specs.declared.expression.Variable.TheVariants.{Local}
use Rattle.resolved.specs.declared.statement.Exit.{Exit}
use Rattle.resolved.specs.declared.statement.Exit.TheVariants.{Normal, Return, Continue, Throw}
use Rattle.resolved.specs.declared.target.Target.{Target}
use Rattle.resolved.specs.declared.target.Target.TheVariants.{ToVariable, ToChannel, ToBegin, ToParameter, ToValue, ToLoop}
use Rattle.resolved.specs.Tree.{Expression, Statement, Placed, Assign, Clear, Store, Receive, Send, Call, If, While, Leave, ReturnWith, Try, Nested, Block, Empty, Then, Handlers, NoMore, Catch}
use Rattle.resolved.specs.Program.{Program}
use Rattle.common.specs.declared.exceptions.TheConstants.{END}
use Rattle.resolved.specs.Exits.{has_exit, one_exit, index_raises, raises, thrown_exits, handles, statement_exits, block_exits}
use Rattle.resolved.specs.Labelled.{Scope, Join, LabelAtom, one, label_of, value_label, raise_label, call_exit_labels, ExitLabels, argument_demands, Demand, demand, target_demand}
use Rattle.resolved.specs.LabelRules.{statement_rule, block_rule, statement_exit_labels, block_exit_labels, statement_demands, block_demands, handlers_demands}
use Rattle.gathering.specs.Names.{Real, Inner, is_inner_name, NamedAtom, NamedConstraint, named_atoms}
use Rattle.gathering.specs.Walk.{inner_atom, rule_constraint, target_constraint, inner_constraint, ExitUnknowns, with_normal, in_loop, handler_count, handler_number, in_try, flow, flows, raised_once, raised_flows, single, within_single, onward_pc, raise_atoms, raise_atoms_all, store_atoms, call_atoms, made_by_statement, made_by_block, argument_constraints, call_flows, call_exits, call_constraints, statement_constraints, block_constraints, handlers_constraints}
use Rattle.gathering.proofs.Exits.{in_try-taken}
use Rattle.gathering.proofs.Atoms.{Alike, alike-itself, alike-value, store_label, alike-stored, alike-three}
use Rattle.gathering.proofs.Reached.{Goes, Part, PartIn, PartBy, Agrees, AgreesIn, AgreesBy}
use Rattle.gathering.proofs.Closed.{atoms_of, Below, closed_by, Closed, pc-below, below-inner, onward-below}
use Rattle.gathering.proofs.Fed.{outer_atom, Within, Fed, FedTo, GivesAll, within-left, within-right, pc-fed, fed-named, fed-inner_atom, fed-inner_constraint, fed-block, fed-onward, fed-call, fed-statement, fed-statements}
use Rattle.common.proofs.Cases.{by_test}

outer-append : (xs ys : List NamedConstraint) → outer is_inner_name (xs ++ ys) ≡ (outer is_inner_name xs ++ outer is_inner_name ys)
outer-append [] ys = refl
outer-append (x ∷ xs) ys = go (is_inner is_inner_name x.right) (outer-append xs ys)
  where
    go : (b : Bool) → outer is_inner_name (xs ++ ys) ≡ (outer is_inner_name xs ++ outer is_inner_name ys) →
        (if b then outer is_inner_name (xs ++ ys) else (x ∷ outer is_inner_name (xs ++ ys))) ≡ ((if b then outer is_inner_name xs else (x ∷ outer is_inner_name xs)) ++ outer is_inner_name ys)
    go true e = e
    go false e = ap (λ z. x ∷ z) e

module _ (cs : List NamedConstraint) where
  abbrev pub One : List Demand → List NamedConstraint → Type 0
  One ds xs = OneByOne Real is_inner_name cs ds (outer is_inner_name xs)

  pub one_by_one-append : (ds es : List Demand) (xs ys : List NamedConstraint) → OneByOne Real is_inner_name cs ds xs → OneByOne Real is_inner_name cs es ys → OneByOne Real is_inner_name cs (ds ++ es) (xs ++ ys)
  one_by_one-append [] es [] ys h k = k
  one_by_one-append [] es (x ∷ xs) ys h k = absurd h
  one_by_one-append (d ∷ ds) es [] ys h k = absurd h
  one_by_one-append (d ∷ ds) es (x ∷ xs) ys h k = (h.0, one_by_one-append ds es xs ys h.1 k)

  pub one-append : (ds es : List Demand) (xs ys : List NamedConstraint) → One ds xs → One es ys → One (ds ++ es) (xs ++ ys)
  one-append ds es xs ys h k =
      subst (λ z. OneByOne Real is_inner_name cs (ds ++ es) z) (sym (outer-append xs ys)) (one_by_one-append ds es (outer is_inner_name xs) (outer is_inner_name ys) h k)

  pub one-flow : (left : List NamedAtom) (o : Option ℕ) → One [] (flow left o)
  one-flow left None = tt
  one-flow left (Some k) = tt

  pub one-flows : (left : List NamedAtom) (exit_unknowns : ExitUnknowns) (ends : List Exit) → One [] (flows left exit_unknowns ends)
  one-flows left exit_unknowns [] = tt
  one-flows left exit_unknowns (e ∷ rest) = one-append [] [] (flow left (exit_unknowns e)) (flows left exit_unknowns rest) (one-flow left (exit_unknowns e)) (one-flows left exit_unknowns rest)

  pub one-single : (b : Bool) (p : NamedAtom) (exit_unknowns : ExitUnknowns) (ends : List Exit) → One [] (single b p exit_unknowns ends)
  one-single false p exit_unknowns ends = tt
  one-single true p exit_unknowns [] = tt
  one-single true p exit_unknowns (e ∷ rest) = one-flow (p ∷ []) (exit_unknowns e)

  pub one-raised : (q : List NamedAtom) (exit_unknowns : ExitUnknowns) (raised : List ℕ) → One [] (raised_flows q exit_unknowns raised)
  one-raised q exit_unknowns raised = one-flows q exit_unknowns (thrown_exits (raised_once raised))

  pub one-own : (q : List NamedAtom) (exit_unknowns : ExitUnknowns) (first : Exit) (raised : List ℕ) → One [] (flow q (exit_unknowns first) ++ raised_flows q exit_unknowns raised)
  one-own q exit_unknowns first raised = one-append [] [] (flow q (exit_unknowns first)) (raised_flows q exit_unknowns raised) (one-flow q (exit_unknowns first)) (one-raised q exit_unknowns raised)

  pub one-call_flows : (program : Program) (callee own : ℕ) (exit_unknowns : ExitUnknowns) (ends : List Exit) → One [] (call_flows program callee own exit_unknowns ends)
  one-call_flows program callee own exit_unknowns [] = tt
  one-call_flows program callee own exit_unknowns (e ∷ rest) =
      let left : List NamedAtom = inner_atom own ∷ named_atoms (call_atoms program callee e) in
      one-append [] [] (flow left (exit_unknowns e)) (call_flows program callee own exit_unknowns rest) (one-flow left (exit_unknowns e)) (one-call_flows program callee own exit_unknowns rest)

  module _ (m : ℕ → Join) (closed : Closed m cs) where
    -- what feeds a part is an atom of what it stands for
    pub feeds-in : (from to : NamedAtom) → Feeds is_inner_name cs from to → (a : LabelAtom) × Contains (atoms_of m to) a × (renamed Real a ≡ from)
    feeds-in from to (itself _ e same) = go from e same
      where
        go : (from : NamedAtom) → IsFalse (is_inner is_inner_name from) → from ≡ to → (a : LabelAtom) × Contains (atoms_of m to) a × (renamed Real a ≡ from)
        go (Written v) e same = (Written v, subst (λ x. Contains (atoms_of m x) (Written v)) same (Contains-first (Written v) []), refl)
        go (Unknown (Real u)) e same = (Unknown u, subst (λ x. Contains (atoms_of m x) (Unknown u)) same (Contains-first (Unknown u) []), refl)
        go (Unknown (Inner k)) e same = let i : true ≡ false = e in absurd (cc)
    feeds-in from to (through c part _ fed h left is e) = go to is e (feeds-in from part fed)
      where
        go : (to : NamedAtom) → c.right ≡ to → IsTrue (is_inner is_inner_name to) → ((a : LabelAtom) × Contains (atoms_of m part) a × (renamed Real a ≡ from)) →
            (a : LabelAtom) × Contains (atoms_of m to) a × (renamed Real a ≡ from)
        go (Written v) is e found = let i : false ≡ true = e in absurd (cc)
        go (Unknown (Real u)) is e found = let i : false ≡ true = e in absurd (cc)
        go (Unknown (Inner k)) is e found =
            let below : Below m c.left (m k) × (c.target ≡ None) = subst (λ r. closed_by m r c.left c.target) is (closed c h) in
            (found.0, below.0 part left found.0 found.1, found.2)

    pub left-stands : (p : List NamedAtom) (j : Join) → Below m p j → Fed cs p j → LeftStandsFor Real is_inner_name cs j p
    left-stands p j below fed = record {
      has = fed;
      only = λ part from h feeds. let found = feeds-in from part feeds in (found.0, below part h found.0 found.1, found.2);
    }

    pub one-rule : (scope : Scope) (at rule : ℕ) (p : List NamedAtom) (j : Join) (target : Target) → Below m p j → Fed cs p j → One (demand scope.program at rule j target) (rule_constraint scope at rule p target)
    one-rule scope at rule p j target below fed =
        let c : NamedConstraint = record { at = at; rule = rule; left = p; target = Some target; right = renamed Real (label_of scope.program target) } in
        let is : outer is_inner_name (c ∷ []) ≡ (c ∷ []) = rw (outer_atom (label_of scope.program target)) refl in
        subst (λ z. OneByOne Real is_inner_name cs (demand scope.program at rule j target) z) (sym is)
        (record { at_is = refl; rule_is = refl; target_is = refl; right_is = refl; left = left-stands p j below fed }, tt)

    -- a target's demand with what is not told after it
    pub one-target_more : (scope : Scope) (at rule : ℕ) (p : List NamedAtom) (j : Join) (target : Option Variable) (xs : List NamedConstraint) → Below m p j → Fed cs p j → One [] xs →
        One (target_demand scope at rule j target) (target_constraint scope at rule p target ++ xs)
    one-target_more scope at rule p j None xs below fed rest = rest
    one-target_more scope at rule p j (Some x) xs below fed rest =
        one-append (demand scope.program at rule j (ToVariable scope.number x)) [] (rule_constraint scope at rule p (ToVariable scope.number x)) xs
        (one-rule scope at rule p j (ToVariable scope.number x) below fed) rest

    -- a named_pc with parts of the text, alike the rule's left side
    pub one-end : (scope : Scope) (at rule : ℕ) (p : NamedAtom) (pc x j : Join) (target : Target) → Below m (p ∷ []) pc → Fed cs (p ∷ []) pc → Alike (pc ++ x) j →
        One (demand scope.program at rule j target) (rule_constraint scope at rule (p ∷ named_atoms x) target)
    one-end scope at rule p pc x j target below fed alike =
        one-rule scope at rule (p ∷ named_atoms x) j target (pc-below m p pc x j below alike.0) (pc-fed cs p pc x j fed alike.1)

    pub one-arguments : (scope : Scope) (at own : ℕ) (j : Join) (callee i : ℕ) (es : List Expression) → Below m (inner_atom own ∷ []) j → Fed cs (inner_atom own ∷ []) j →
        One (argument_demands scope at j callee i es) (argument_constraints scope at own callee i es)
    one-arguments scope at own j callee i [] below fed = tt
    one-arguments scope at own j callee i (e ∷ rest) below fed =
        let v : Join = value_label scope e in
        one-append (demand scope.program at 6 (j ++ v) (ToParameter callee i)) (argument_demands scope at j callee (suc i) rest)
        (rule_constraint scope at 6 (inner_atom own ∷ named_atoms v) (ToParameter callee i)) (argument_constraints scope at own callee (suc i) rest)
        (one-end scope at 6 (inner_atom own) j v (j ++ v) (ToParameter callee i) below fed (alike-itself (j ++ v)))
        (one-arguments scope at own j callee (suc i) rest below fed)

    -- a statement with one demand, and its exits
    pub one-demanding : (scope : Scope) (at rule : ℕ) (p : NamedAtom) (pc x j : Join) (target : Target) (xs : List NamedConstraint) → Below m (p ∷ []) pc → Fed cs (p ∷ []) pc → Alike (pc ++ x) j →
        One [] xs → One (demand scope.program at rule j target) (rule_constraint scope at rule (p ∷ named_atoms x) target ++ xs)
    one-demanding scope at rule p pc x j target xs below fed alike rest =
        one-append (demand scope.program at rule j target) [] (rule_constraint scope at rule (p ∷ named_atoms x) target) xs
        (one-end scope at rule p pc x j target below fed alike) rest

    pub one-call : (scope : Scope) (at callee : ℕ) (arguments : List Expression) (target : Option Variable) (p : NamedAtom) (pc : Join) (exit_unknowns : ExitUnknowns) (n : ℕ) →
        m n ≡ (pc ++ flat_map (raise_label scope) arguments) → Fed cs (inner_atom n ∷ []) (pc ++ flat_map (raise_label scope) arguments) →
        One (statement_demands scope pc (Placed at (Call callee arguments target))) (call_constraints scope p exit_unknowns n at callee arguments target)
    one-call scope at callee arguments target p pc exit_unknowns n is own_fed =
        let j : Join = pc ++ flat_map (raise_label scope) arguments in
        let own : NamedAtom = inner_atom n in
        let own_below : Below m (own ∷ []) j = below-inner m n j is in
        let x : Join = call_atoms scope.program callee Normal in
        let v : Join = one (label_of scope.program (ToValue callee)) in
        let whole : Join = call_exit_labels scope.program callee j Normal ++ v in
        let entry : List NamedConstraint = inner_constraint (p ∷ named_atoms (raise_atoms_all scope arguments)) n in
        let first : List NamedConstraint = rule_constraint scope at 6 (own ∷ []) (ToBegin callee) in
        let second : List NamedConstraint = argument_constraints scope at n callee 0 arguments in
        let third : List NamedConstraint = target_constraint scope at 6 (own ∷ named_atoms (x ++ v)) target in
        let fourth : List NamedConstraint = call_flows scope.program callee n exit_unknowns (call_exits scope.program callee arguments) in
        let begun : List Demand = demand scope.program at 6 j (ToBegin callee) in
        let passed : List Demand = argument_demands scope at j callee 0 arguments in
        let given : List Demand = target_demand scope at 6 whole target in
        one-append [] (begun ++ (passed ++ given)) entry (first ++ (second ++ (third ++ fourth))) tt
        (one-append begun (passed ++ given) first (second ++ (third ++ fourth)) (one-rule scope at 6 (own ∷ []) j (ToBegin callee) own_below own_fed)
        (one-append passed given second (third ++ fourth) (one-arguments scope at n j callee 0 arguments own_below own_fed)
        (one-target_more scope at 6 (own ∷ named_atoms (x ++ v)) whole target fourth
        (pc-below m own j (x ++ v) whole own_below (alike-three j x v).0) (pc-fed cs own j (x ++ v) whole own_fed (alike-three j x v).1)
        (one-call_flows scope.program callee n exit_unknowns (call_exits scope.program callee arguments)))))

    module _ (scope : Scope) where
      one-unreached : (s : Statement) (rest : Block) (p : NamedAtom) (pc : Join) (exit_unknowns : ExitUnknowns) (n : ℕ) → Goes scope.program s rest → has_exit (statement_exits scope.program s) Normal ≡ false →
          One (block_demands scope pc rest) (block_constraints scope false p exit_unknowns n rest)
      one-unreached s Empty p pc exit_unknowns n goes e = tt
      one-unreached s (Then next rest) p pc exit_unknowns n goes e = let i : true ≡ false = sym goes ∙ e in absurd (cc)

      mutual
        pub one-statement : (s : Statement) (p : NamedAtom) (pc : Join) (exit_unknowns : ExitUnknowns) (n : ℕ) → Part scope.program s → Agrees scope m n pc s → Below m (p ∷ []) pc → Fed cs (p ∷ []) pc →
            Within cs (statement_constraints scope p exit_unknowns n s) → One (statement_demands scope pc s) (statement_constraints scope p exit_unknowns n s)
        one-statement (Placed at (Assign x e)) p pc exit_unknowns n part agrees below fed within =
            one-demanding scope at 1 p pc (value_label scope e) ((pc ++ raise_label scope e) ++ value_label scope e) (ToVariable scope.number x)
            (flow (p ∷ named_atoms (raise_atoms scope e)) (exit_unknowns Normal) ++ raised_flows (p ∷ named_atoms (raise_atoms scope e)) exit_unknowns (raises e)) below fed (alike-value scope pc e)
            (one-own (p ∷ named_atoms (raise_atoms scope e)) exit_unknowns Normal (raises e))
        one-statement (Placed at (Clear slot)) p pc exit_unknowns n part agrees below fed within =
            one-append (demand scope.program at 2 pc (ToVariable scope.number (Local slot))) [] (rule_constraint scope at 2 (p ∷ []) (ToVariable scope.number (Local slot)))
            (flow (p ∷ []) (exit_unknowns Normal))
            (one-rule scope at 2 (p ∷ []) pc (ToVariable scope.number (Local slot)) below fed) (one-flow (p ∷ []) (exit_unknowns Normal))
        one-statement (Placed at (Store array len index e)) p pc exit_unknowns n part agrees below fed within =
            let q : List NamedAtom = p ∷ named_atoms (store_atoms scope len index e) in
            let raised : List ℕ = raises index ++ raises e ++ index_raises index len in
            one-demanding scope at 3 p pc (value_label scope index ++ value_label scope e) ((store_label scope pc len index e ++ value_label scope index) ++ value_label scope e) (ToVariable scope.number array)
            (flow q (exit_unknowns Normal) ++ raised_flows q exit_unknowns raised) below fed (alike-stored scope pc len index e) (one-own q exit_unknowns Normal raised)
        one-statement (Placed at (Receive channel target)) p pc exit_unknowns n part agrees below fed within =
            let label : Join = one (label_of scope.program (ToChannel channel)) in
            let q : List NamedAtom = p ∷ named_atoms label in
            let out : List NamedConstraint = flow q (exit_unknowns Normal) ++ flow q (exit_unknowns (Throw END)) in
            one-append (demand scope.program at 4 pc (ToChannel channel)) (target_demand scope at 4 (pc ++ label) target) (rule_constraint scope at 4 (p ∷ []) (ToChannel channel))
            (target_constraint scope at 4 q target ++ out)
            (one-rule scope at 4 (p ∷ []) pc (ToChannel channel) below fed)
            (one-target_more scope at 4 q (pc ++ label) target out (pc-below m p pc label (pc ++ label) below (alike-itself (pc ++ label)).0)
            (pc-fed cs p pc label (pc ++ label) fed (alike-itself (pc ++ label)).1)
            (one-append [] [] (flow q (exit_unknowns Normal)) (flow q (exit_unknowns (Throw END))) (one-flow q (exit_unknowns Normal)) (one-flow q (exit_unknowns (Throw END)))))
        one-statement (Placed at (Send channel e)) p pc exit_unknowns n part agrees below fed within =
            one-demanding scope at 5 p pc (value_label scope e) ((pc ++ raise_label scope e) ++ value_label scope e) (ToChannel channel)
            (flow (p ∷ named_atoms (raise_atoms scope e)) (exit_unknowns Normal) ++ raised_flows (p ∷ named_atoms (raise_atoms scope e)) exit_unknowns (raises e)) below fed (alike-value scope pc e)
            (one-own (p ∷ named_atoms (raise_atoms scope e)) exit_unknowns Normal (raises e))
        one-statement (Placed at (Call procedure arguments target)) p pc exit_unknowns n part agrees below fed within =
            one-call scope at procedure arguments target p pc exit_unknowns n agrees (fed-call cs scope at procedure arguments target p pc exit_unknowns n fed within).0
        one-statement (Placed at (If e then_block else_block)) p pc exit_unknowns n part agrees below fed within =
            let r : Join = raise_label scope e in
            let v : Join = value_label scope e in
            let branch : Join = (pc ++ r) ++ v in
            let yes_exits : List Exit = block_exits scope.program then_block in
            let no_exits : List Exit = block_exits scope.program else_block in
            let q : List NamedAtom = p ∷ named_atoms (raise_atoms scope e) in
            let first : List NamedConstraint = inner_constraint (p ∷ named_atoms v) n in
            let second : List NamedConstraint = raised_flows q exit_unknowns (raises e) in
            let yes_one : List NamedConstraint = single (one_exit yes_exits) (inner_atom n) exit_unknowns yes_exits in
            let yes_walk : List NamedConstraint = block_constraints scope true (inner_atom n) (within_single (one_exit yes_exits) exit_unknowns) (suc n) then_block in
            let no_one : List NamedConstraint = single (one_exit no_exits) (inner_atom n) exit_unknowns no_exits in
            let no_walk : List NamedConstraint = block_constraints scope true (inner_atom n) (within_single (one_exit no_exits) exit_unknowns) (suc n + made_by_block then_block) else_block in
            let third : List NamedConstraint = yes_one ++ yes_walk in
            let fourth : List NamedConstraint = no_one ++ no_walk in
            let after : Within cs (second ++ (third ++ fourth)) = within-right cs first (second ++ (third ++ fourth)) within in
            let branches : Within cs (third ++ fourth) = within-right cs second (third ++ fourth) after in
            let b_below : Below m (inner_atom n ∷ []) branch = below-inner m n branch agrees.0 in
            let b_fed : Fed cs (inner_atom n ∷ []) branch = fed-inner_atom cs n branch (fed-inner_constraint cs (p ∷ named_atoms v) n branch (within-left cs first (second ++ (third ++ fourth)) within)
            (pc-fed cs p pc v branch fed (alike-value scope pc e).1)) in
            let yes_demands : List Demand = block_demands scope branch then_block in
            let no_demands : List Demand = block_demands scope branch else_block in
            one-append [] (yes_demands ++ no_demands) first (second ++ (third ++ fourth)) tt
            (one-append [] (yes_demands ++ no_demands) second (third ++ fourth) (one-raised q exit_unknowns (raises e))
            (one-append yes_demands no_demands third fourth
            (one-append [] yes_demands yes_one yes_walk (one-single (one_exit yes_exits) (inner_atom n) exit_unknowns yes_exits)
            (one-statements then_block true (inner_atom n) branch (within_single (one_exit yes_exits) exit_unknowns) (suc n) part.0 agrees.1 b_below b_fed
            (within-right cs yes_one yes_walk (within-left cs third fourth branches))))
            (one-append [] no_demands no_one no_walk (one-single (one_exit no_exits) (inner_atom n) exit_unknowns no_exits)
            (one-statements else_block true (inner_atom n) branch (within_single (one_exit no_exits) exit_unknowns) (suc n + made_by_block then_block) part.1 agrees.2 b_below b_fed
            (within-right cs no_one no_walk (within-right cs third fourth branches))))))
        one-statement (Placed at (While loop e body)) p pc exit_unknowns n part agrees below fed within =
            let l : Join = one (label_of scope.program (ToLoop scope.number loop)) in
            let loop_atom : NamedAtom = renamed Real (label_of scope.program (ToLoop scope.number loop)) in
            let r : Join = raise_label scope e in
            let v : Join = value_label scope e in
            let q : List NamedAtom = loop_atom ∷ named_atoms (raise_atoms scope e) in
            let b : Join = (l ++ r) ++ v in
            let ends : List Exit = block_exits scope.program body in
            let x : ExitLabels = block_exit_labels scope b body in
            let first : List NamedConstraint = rule_constraint scope at 8 (p ∷ []) (ToLoop scope.number loop) in
            let entry : List NamedConstraint = inner_constraint (loop_atom ∷ named_atoms v) n in
            let out : List NamedConstraint = flow (inner_atom n ∷ []) (exit_unknowns Normal) in
            let raising : List NamedConstraint = raised_flows q exit_unknowns (raises e) in
            let own : List NamedConstraint = single (one_exit ends) (inner_atom n) (in_loop (suc n) exit_unknowns) ends in
            let walked : List NamedConstraint = block_constraints scope true (inner_atom n) (within_single (one_exit ends) (in_loop (suc n) exit_unknowns)) (suc (suc n)) body in
            let third : List NamedConstraint = own ++ walked in
            let fourth : List NamedConstraint = rule_constraint scope at 8 (inner_atom (suc n) ∷ []) (ToLoop scope.number loop) in
            let after : Within cs (entry ++ (out ++ (raising ++ (third ++ fourth)))) = within-right cs first (entry ++ (out ++ (raising ++ (third ++ fourth)))) within in
            let in_entry : Within cs entry = within-left cs entry (out ++ (raising ++ (third ++ fourth))) after in
            let in_third : Within cs third = within-left cs third fourth (within-right cs raising (third ++ fourth) (within-right cs out (raising ++ (third ++ fourth))
            (within-right cs entry (out ++ (raising ++ (third ++ fourth))) after))) in
            let b_below : Below m (inner_atom n ∷ []) b = below-inner m n b agrees.0 in
            let b_fed : Fed cs (inner_atom n ∷ []) b = fed-inner_atom cs n b (fed-inner_constraint cs (loop_atom ∷ named_atoms v) n b in_entry (pc-fed cs loop_atom l v b (fed-named cs l) (alike-value scope l e).1)) in
            let gives : GivesAll cs (in_loop (suc n) exit_unknowns) x = fed-block cs ends (inner_atom n) (in_loop (suc n) exit_unknowns) b (block_rule scope b body) (λ t. block_constraints scope true (inner_atom n) t (suc (suc n)) body)
            in_third b_fed (λ t w. fed-statements cs scope body true (inner_atom n) b t (suc (suc n)) part (λ i. absurd (cc)) b_fed w) in
            let back : Fed cs (inner_atom (suc n) ∷ []) (x Normal ++ x Continue) = fed-inner_atom cs (suc n) (x Normal ++ x Continue) (λ a there. ⊎_elim
            (λ t. gives Normal (suc n) refl a t) (λ t. gives Continue (suc n) refl a t) (Contains-append_cases (x Normal) (x Continue) a there)) in
            let within_body : List Demand = block_demands scope b body in
            let last : List Demand = demand scope.program at 8 (x Normal ++ x Continue) (ToLoop scope.number loop) in
            one-append (demand scope.program at 8 pc (ToLoop scope.number loop)) (within_body ++ last) first (entry ++ (out ++ (raising ++ (third ++ fourth))))
            (one-rule scope at 8 (p ∷ []) pc (ToLoop scope.number loop) below fed)
            (one-append [] (within_body ++ last) entry (out ++ (raising ++ (third ++ fourth))) tt
            (one-append [] (within_body ++ last) out (raising ++ (third ++ fourth)) (one-flow (inner_atom n ∷ []) (exit_unknowns Normal))
            (one-append [] (within_body ++ last) raising (third ++ fourth) (one-raised q exit_unknowns (raises e))
            (one-append within_body last third fourth
            (one-append [] within_body own walked (one-single (one_exit ends) (inner_atom n) (in_loop (suc n) exit_unknowns) ends)
            (one-statements body true (inner_atom n) b (within_single (one_exit ends) (in_loop (suc n) exit_unknowns)) (suc (suc n)) part agrees.2 b_below b_fed (within-right cs own walked in_third)))
            (one-rule scope at 8 (inner_atom (suc n) ∷ []) (x Normal ++ x Continue) (ToLoop scope.number loop) (below-inner m (suc n) (x Normal ++ x Continue) agrees.1) back)))))
        one-statement (Placed at (Leave exit)) p pc exit_unknowns n part agrees below fed within = one-flow (p ∷ []) (exit_unknowns exit)
        one-statement (Placed at (ReturnWith (Some e))) p pc exit_unknowns n part agrees below fed within =
            one-demanding scope at 10 p pc (value_label scope e) ((pc ++ raise_label scope e) ++ value_label scope e) (ToValue scope.number)
            (flow (p ∷ named_atoms (raise_atoms scope e)) (exit_unknowns Return) ++ raised_flows (p ∷ named_atoms (raise_atoms scope e)) exit_unknowns (raises e)) below fed (alike-value scope pc e)
            (one-own (p ∷ named_atoms (raise_atoms scope e)) exit_unknowns Return (raises e))
        one-statement (Placed at (ReturnWith None)) p pc exit_unknowns n part agrees below fed within = one-flow (p ∷ []) (exit_unknowns Return)
        one-statement (Placed at (Try block handlers)) p pc exit_unknowns n part agrees below fed within =
            let ends : List Exit = block_exits scope.program block in
            let x : ExitLabels = block_exit_labels scope pc block in
            let number : ℕ → ℕ = λ z. handler_number handlers n z in
            let inside : ExitUnknowns = in_try number handlers exit_unknowns in
            let own : List NamedConstraint = single (one_exit ends) p inside ends in
            let walked : List NamedConstraint = block_constraints scope true p (within_single (one_exit ends) inside) (n + handler_count handlers) block in
            let second : List NamedConstraint = handlers_constraints scope number exit_unknowns ((n + handler_count handlers) + made_by_block block) handlers in
            let in_first : Within cs (own ++ walked) = within-left cs (own ++ walked) second within in
            let gives : GivesAll cs inside x = fed-block cs ends p inside pc (block_rule scope pc block) (λ t. block_constraints scope true p t (n + handler_count handlers) block)
            in_first fed (λ t w. fed-statements cs scope block true p pc t (n + handler_count handlers) part.0 (λ i. absurd (cc)) fed w) in
            one-append (block_demands scope pc block) (handlers_demands scope x handlers) (own ++ walked) second
            (one-append [] (block_demands scope pc block) own walked (one-single (one_exit ends) p inside ends)
            (one-statements block true p pc (within_single (one_exit ends) inside) (n + handler_count handlers) part.0 agrees.1 below fed (within-right cs own walked in_first)))
            (one-handlers handlers number x exit_unknowns ((n + handler_count handlers) + made_by_block block) part.1 agrees.2 agrees.0
            (λ z h. gives (Throw z) (number z) (in_try-taken number handlers exit_unknowns z h)) (within-right cs (own ++ walked) second within))
        one-statement (Placed at (Nested block)) p pc exit_unknowns n part agrees below fed within =
            let ends : List Exit = block_exits scope.program block in
            let own : List NamedConstraint = single (one_exit ends) p exit_unknowns ends in
            let walked : List NamedConstraint = block_constraints scope true p (within_single (one_exit ends) exit_unknowns) n block in
            one-append [] (block_demands scope pc block) own walked (one-single (one_exit ends) p exit_unknowns ends)
            (one-statements block true p pc (within_single (one_exit ends) exit_unknowns) n part agrees below fed (within-right cs own walked within))

        pub one-statements : (block : Block) (reached : Bool) (p : NamedAtom) (pc : Join) (exit_unknowns : ExitUnknowns) (n : ℕ) → PartIn scope.program block → AgreesIn scope m n pc block → Below m (p ∷ []) pc → Fed cs (p ∷ []) pc →
            Within cs (block_constraints scope reached p exit_unknowns n block) → One (block_demands scope pc block) (block_constraints scope reached p exit_unknowns n block)
        one-statements Empty true p pc exit_unknowns n part agrees below fed within = one-flow (p ∷ []) (exit_unknowns Normal)
        one-statements Empty false p pc exit_unknowns n part agrees below fed within = tt
        one-statements (Then s rest) reached p pc exit_unknowns n part agrees below fed within =
            let ends : List Exit = statement_exits scope.program s in
            let exits : ExitLabels = statement_rule scope pc s in
            let x : ExitLabels = statement_exit_labels scope pc s in
            let t : ExitUnknowns = within_single (one_exit ends) (with_normal (Some n) exit_unknowns) in
            let named_pc : NamedAtom = onward_pc (one_exit ends) p n in
            let first : List NamedConstraint = single (one_exit ends) p (with_normal None exit_unknowns) ends in
            let second : List NamedConstraint = statement_constraints scope p t (suc n) s in
            let third : List NamedConstraint = block_constraints scope (has_exit ends Normal) named_pc exit_unknowns (suc n + made_by_statement s) rest in
            let after : Within cs (second ++ third) = within-right cs first (second ++ third) within in
            let in_second : Within cs second = within-left cs second third after in
            one-append [] (statement_demands scope pc s ++ block_demands scope (x Normal) rest) first (second ++ third) (one-single (one_exit ends) p (with_normal None exit_unknowns) ends)
            (one-append (statement_demands scope pc s) (block_demands scope (x Normal) rest) second third
            (one-statement s p pc t (suc n) part.0 agrees.1 below fed in_second)
            (by_test (has_exit ends Normal)
            (λ h. one-statements rest (has_exit ends Normal) named_pc (x Normal) exit_unknowns (suc n + made_by_statement s) part.2 agrees.2
            (onward-below m (one_exit ends) ends p n pc exits h refl agrees.0 below)
            (fed-onward cs (has_exit ends Normal) (one_exit ends) ends p n exit_unknowns pc exits refl refl fed (fed-statement cs scope s p pc t (suc n) part.0 fed in_second))
            (within-right cs second third after))
            (λ h. subst (λ b. One (block_demands scope (x Normal) rest) (block_constraints scope b named_pc exit_unknowns (suc n + made_by_statement s) rest)) (sym h)
            (one-unreached s rest named_pc (x Normal) exit_unknowns (suc n + made_by_statement s) part.1 h))))

        pub one-handlers : (handlers : Handlers) (number : ℕ → ℕ) (x : ExitLabels) (exit_unknowns : ExitUnknowns) (n : ℕ) → PartBy scope.program handlers → AgreesBy scope m n x handlers →
            ((y : ℕ) → handles handlers y ≡ true → m (number y) ≡ x (Throw y)) → ((z : ℕ) → handles handlers z ≡ true → FedTo cs (number z) (x (Throw z))) →
            Within cs (handlers_constraints scope number exit_unknowns n handlers) → One (handlers_demands scope x handlers) (handlers_constraints scope number exit_unknowns n handlers)
        one-handlers NoMore number x exit_unknowns n part agrees named fed within = tt
        one-handlers (Catch at handled body rest) number x exit_unknowns n part agrees named fed within =
            let ends : List Exit = block_exits scope.program body in
            let pc : Join = x (Throw handled) in
            let p : NamedAtom = inner_atom (number handled) in
            let own : List NamedConstraint = single (one_exit ends) p exit_unknowns ends in
            let walked : List NamedConstraint = block_constraints scope true p (within_single (one_exit ends) exit_unknowns) n body in
            let second : List NamedConstraint = handlers_constraints scope number exit_unknowns (n + made_by_block body) rest in
            let there : handles (Catch at handled body rest) handled ≡ true = or_left (handled == handled) (handles rest handled) (eq-eqb handled handled refl) in
            one-append (block_demands scope pc body) (handlers_demands scope x rest) (own ++ walked) second
            (one-append [] (block_demands scope pc body) own walked (one-single (one_exit ends) p exit_unknowns ends)
            (one-statements body true p pc (within_single (one_exit ends) exit_unknowns) n part.0 agrees.0 (below-inner m (number handled) pc (named handled there))
            (fed-inner_atom cs (number handled) pc (fed handled there)) (within-right cs own walked (within-left cs (own ++ walked) second within))))
            (one-handlers rest number x exit_unknowns (n + made_by_block body) part.1 agrees.1 (λ y h. named y (or_right (y == handled) (handles rest y) h))
            (λ z h. fed z (or_right (z == handled) (handles rest z) h)) (within-right cs (own ++ walked) second within))
