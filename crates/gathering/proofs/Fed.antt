-- What an inner unknown stands for feeds it.
use Rattle.std.proofs.Common.{◌≡◌, refl, sym, ap, ◌∙◌, subst, ℕ, suc, ◌+◌, Bool, true, false, not, List, [], ◌∷◌, ◌++◌, ⊎_elim}
use Rattle.std.specs.Prelude.{IsFalse, Contains, Option, Some, None, ◌==◌, flat_map}
use Rattle.std.proofs.lemmas.Bool.{or_left, or_right, or_cases, eq-eqb}
use Rattle.std.proofs.lemmas.List.Elements.{Contains-append_cases, Contains-append_left, Contains-append_right}
use Rattle.common.proofs.Elements.{none_in_nil, Contains-cons_cases, Contains-later, Contains-first}
use Rattle.lattices.specs.Constraints.{Written, Unknown, renamed, is_inner, Feeds, itself, through}
use Rattle.resolved.specs.declared.expression.Variable.{Variable}
use Rattle.resolved.specs.declared.expression.Variable.TheVariants.{Local}
use Rattle.resolved.specs.declared.statement.Exit.{Exit}
use Rattle.resolved.specs.declared.statement.Exit.TheVariants.{Normal, Return, Break, Continue, Throw}
use Rattle.resolved.specs.declared.target.Target.TheVariants.{ToVariable, ToChannel, ToBegin, ToValue, ToLoop}
use Rattle.resolved.specs.Tree.{Expression, Statement, Placed, Assign, Clear, Store, Receive, Send, Call, If, While, Leave, ReturnWith, Try, Nested, Block, Empty, Then, Handlers, NoMore, Catch}
use Rattle.resolved.specs.Program.{Program}
use Rattle.common.specs.declared.exceptions.TheConstants.{END}
use Rattle.resolved.specs.Exits.{same_exit, has_exit, one_exit, index_raises, raises, thrown_exits, handles, passes, statement_exits, block_exits, list_if}
use Rattle.resolved.specs.Labelled.{Scope, Join, LabelAtom, one, label_of, value_label, raise_label, call_exit_labels, ExitLabels}
use Rattle.resolved.specs.LabelRules.{at_exits, raised_exit_labels, loop_exit_labels, statement_rule, block_rule, handlers_rule, statement_exit_labels, block_exit_labels}
use Rattle.gathering.specs.Names.{Real, Inner, is_inner_name, NamedAtom, NamedConstraint, named_atoms}
use Rattle.gathering.specs.Walk.{inner_atom, rule_constraint, target_constraint, inner_constraint, ExitUnknowns, with_normal, in_loop, handler_count, handler_number, in_try, flow, flows, raised_once, raised_flows, single, within_single, by_exits, onward_pc, raise_atoms, raise_atoms_all, store_atoms, call_atoms, made_by_statement, made_by_block, argument_constraints, call_flows, call_exits, call_constraints, statement_constraints, block_constraints, handlers_constraints}
use Rattle.gathering.proofs.Exits.{normal_or_other, exits-single, exits-many, exits-none, taken_or_passed, in_try-taken, single-end, AmongTwo, same-thrown, raises-two, store-two, once-same, call-same}
use Rattle.gathering.proofs.Atoms.{Sub, sub-same, alike-raise, alike-value, alike-arguments, store_label, alike-store, alike-call}
use Rattle.gathering.proofs.Reached.{Part, PartIn, PartBy}
use Rattle.common.proofs.Cases.{by_test}
use Rattle.resolved.proofs.Exits.{same-exit}

list_if-none : (b : Bool) → Sub (list_if b []) []
list_if-none true a h = h
list_if-none false a h = h

pub outer_atom : (a : LabelAtom) → IsFalse (is_inner is_inner_name (renamed Real a))
outer_atom (Written v) = refl
outer_atom (Unknown u) = refl

module _ (cs : List NamedConstraint) where
  abbrev pub Within : List NamedConstraint → Type 0
  Within xs = (c : NamedConstraint) → Contains xs c → Contains cs c

  abbrev pub Fed : List NamedAtom → Join → Type 0
  Fed p pc = (a : LabelAtom) → Contains pc a → (b : NamedAtom) × Contains p b × Feeds is_inner_name cs (renamed Real a) b

  abbrev pub FedTo : ℕ → Join → Type 0
  FedTo k j = (a : LabelAtom) → Contains j a → Feeds is_inner_name cs (renamed Real a) (Unknown (Inner k))

  pub within-left : (xs ys : List NamedConstraint) → Within (xs ++ ys) → Within xs
  within-left xs ys within c h = within c (Contains-append_left xs ys c h)

  pub within-right : (xs ys : List NamedConstraint) → Within (xs ++ ys) → Within ys
  within-right xs ys within c h = within c (Contains-append_right xs ys c h)

  pub fed-append : (p q : List NamedAtom) (x y : Join) → Fed p x → Fed q y → Fed (p ++ q) (x ++ y)
  fed-append p q x y h k a there = ⊎_elim
      (λ t. let found = h a t in (found.0, Contains-append_left p q found.0 found.1, found.2))
      (λ t. let found = k a t in (found.0, Contains-append_right p q found.0 found.1, found.2))
      (Contains-append_cases x y a there)

  pub fed-named : (j : Join) → Fed (named_atoms j) j
  fed-named [] a there = absurd (none_in_nil a there)
  fed-named (x ∷ rest) a there = ⊎_elim
      (λ same. (renamed Real x, Contains-first (renamed Real x) (named_atoms rest), itself (renamed Real x) (outer_atom a) (ap (renamed Real) (sym same))))
      (λ t. let found = fed-named rest a t in (found.0, Contains-later (renamed Real x) (named_atoms rest) found.0 found.1, found.2))
      (Contains-cons_cases x rest a there)

  pub fed-inner_atom : (n : ℕ) (j : Join) → FedTo n j → Fed (inner_atom n ∷ []) j
  fed-inner_atom n j h a there = (Unknown (Inner n), Contains-first (Unknown (Inner n)) [], h a there)

  pub fed-inner_constraint : (left : List NamedAtom) (k : ℕ) (j : Join) → Within (inner_constraint left k) → Fed left j → FedTo k j
  fed-inner_constraint left k j within fed a there =
      let found = fed a there in
      through (record { at = 0; rule = 0; left = left; target = None; right = Unknown (Inner k) }) found.0 (Unknown (Inner k)) found.2
      (within _ (Contains-first _ [])) found.1 refl refl

  pub fed-flow : (left : List NamedAtom) (o : Option ℕ) (j : Join) → Within (flow left o) → Fed left j → (k : ℕ) → o ≡ Some k → FedTo k j
  fed-flow left None j within fed k is = let i : None ≡ Some k = is in absurd (cc)
  fed-flow left (Some x) j within fed k is = let same : x ≡ k = cc in subst (λ y. FedTo y j) same (fed-inner_constraint left x j within fed)

  pub fed-flows : (left : List NamedAtom) (exit_unknowns : ExitUnknowns) (ends : List Exit) (j : Join) → Within (flows left exit_unknowns ends) → Fed left j →
      (e : Exit) (k : ℕ) → has_exit ends e ≡ true → exit_unknowns e ≡ Some k → FedTo k j
  fed-flows left exit_unknowns [] j within fed e k has is = let i : false ≡ true = has in absurd (cc)
  fed-flows left exit_unknowns (x ∷ rest) j within fed e k has is = ⊎_elim
      (λ same. fed-flow left (exit_unknowns x) j (within-left (flow left (exit_unknowns x)) (flows left exit_unknowns rest) within) fed k (ap exit_unknowns (sym (same-exit e x same)) ∙ is))
      (λ h. fed-flows left exit_unknowns rest j (within-right (flow left (exit_unknowns x)) (flows left exit_unknowns rest) within) fed e k h is)
      (or_cases (same_exit e x) (has_exit rest e) has)

  -- a named_pc with parts of the text
  pub pc-fed : (p : NamedAtom) (pc x j : Join) → Fed (p ∷ []) pc → Sub j (pc ++ x) → Fed (p ∷ named_atoms x) j
  pc-fed p pc x j fed sub a there = fed-append (p ∷ []) (named_atoms x) pc x fed (fed-named x) a (sub a there)

  pub fed-call_flows : (program : Program) (callee own : ℕ) (exit_unknowns : ExitUnknowns) (ends : List Exit) (j : Join) → Within (call_flows program callee own exit_unknowns ends) → Fed (inner_atom own ∷ []) j →
      (e : Exit) (k : ℕ) → has_exit ends e ≡ true → exit_unknowns e ≡ Some k → FedTo k (call_exit_labels program callee j e)
  fed-call_flows program callee own exit_unknowns [] j within fed e k has is = let i : false ≡ true = has in absurd (cc)
  fed-call_flows program callee own exit_unknowns (x ∷ rest) j within fed e k has is =
      let left : List NamedAtom = inner_atom own ∷ named_atoms (call_atoms program callee x) in
      ⊎_elim
      (λ same. subst (λ y. FedTo k (call_exit_labels program callee j y)) (sym (same-exit e x same))
      (fed-flow left (exit_unknowns x) (call_exit_labels program callee j x) (within-left (flow left (exit_unknowns x)) (call_flows program callee own exit_unknowns rest) within)
      (pc-fed (inner_atom own) j (call_atoms program callee x) (call_exit_labels program callee j x) fed (alike-call program callee j x).1) k (ap exit_unknowns (sym (same-exit e x same)) ∙ is)))
      (λ h. fed-call_flows program callee own exit_unknowns rest j (within-right (flow left (exit_unknowns x)) (call_flows program callee own exit_unknowns rest) within) fed e k h is)
      (or_cases (same_exit e x) (has_exit rest e) has)

  abbrev pub Gives : List Exit → ExitUnknowns → ExitLabels → Type 0
  Gives ends exit_unknowns exits = (e : Exit) (k : ℕ) → has_exit ends e ≡ true → exit_unknowns e ≡ Some k → FedTo k (exits e)

  abbrev pub GivesAll : ExitUnknowns → ExitLabels → Type 0
  GivesAll exit_unknowns exits = (e : Exit) (k : ℕ) → exit_unknowns e ≡ Some k → FedTo k (exits e)

  pub fed-single : (ends : List Exit) (p : NamedAtom) (exit_unknowns : ExitUnknowns) (pc : Join) → Within (single true p exit_unknowns ends) → Fed (p ∷ []) pc → one_exit ends ≡ true →
      (e : Exit) (k : ℕ) → has_exit ends e ≡ true → exit_unknowns e ≡ Some k → FedTo k pc
  fed-single [] p exit_unknowns pc within fed one e k has is = let i : false ≡ true = has in absurd (cc)
  fed-single (h ∷ rest) p exit_unknowns pc within fed one e k has is =
      fed-flow (p ∷ []) (exit_unknowns h) pc within fed k (ap exit_unknowns (sym (single-end h rest e one has)) ∙ is)

  -- the exits of what is walked or gathered within, and of itself
  pub fed-ends : (b : Bool) (ends : List Exit) (p : NamedAtom) (alone exit_unknowns : ExitUnknowns) (pc : Join) (exits : ExitLabels) → one_exit ends ≡ b →
      Within (single b p alone ends) → Fed (p ∷ []) pc → Gives ends (within_single b exit_unknowns) exits → (e : Exit) (k : ℕ) → alone e ≡ Some k → exit_unknowns e ≡ Some k →
      FedTo k (at_exits ends pc exits e)
  fed-ends b ends p alone exit_unknowns pc exits one within fed gives e k is is' a there = by_test (has_exit ends e)
      (λ has. go b one within gives has)
      (λ not_there. absurd (none_in_nil a (subst (λ x. Contains x a) (exits-none ends pc exits e not_there) there)))
    where
      go : (b : Bool) → one_exit ends ≡ b → Within (single b p alone ends) → Gives ends (within_single b exit_unknowns) exits → has_exit ends e ≡ true → Feeds is_inner_name cs (renamed Real a) (Unknown (Inner k))
      go true one within gives has = fed-single ends p alone pc within fed one e k has is a (subst (λ x. Contains x a) (exits-single ends pc exits e one has) there)
      go false one within gives has = gives e k has is' a (subst (λ x. Contains x a) (exits-many ends pc exits e one has) there)

  pub fed-block : (ends : List Exit) (p : NamedAtom) (exit_unknowns : ExitUnknowns) (pc : Join) (exits : ExitLabels) (walked : ExitUnknowns → List NamedConstraint) →
      Within (single (one_exit ends) p exit_unknowns ends ++ walked (within_single (one_exit ends) exit_unknowns)) → Fed (p ∷ []) pc →
      ((t : ExitUnknowns) → Within (walked t) → GivesAll t exits) → GivesAll exit_unknowns (at_exits ends pc exits)
  fed-block ends p exit_unknowns pc exits walked within fed each e k is =
      fed-ends (one_exit ends) ends p exit_unknowns exit_unknowns pc exits refl (within-left (single (one_exit ends) p exit_unknowns ends) (walked (within_single (one_exit ends) exit_unknowns)) within) fed
      (λ y z has at. each (within_single (one_exit ends) exit_unknowns) (within-right (single (one_exit ends) p exit_unknowns ends) (walked (within_single (one_exit ends) exit_unknowns)) within) y z at)
      e k is is

  pub fed-onward : (normal b : Bool) (ends : List Exit) (p : NamedAtom) (n : ℕ) (exit_unknowns : ExitUnknowns) (pc : Join) (exits : ExitLabels) → has_exit ends Normal ≡ normal → one_exit ends ≡ b →
      Fed (p ∷ []) pc → Gives ends (within_single b (with_normal (Some n) exit_unknowns)) exits → Fed (onward_pc b p n ∷ []) (at_exits ends pc exits Normal)
  fed-onward false b ends p n exit_unknowns pc exits has one fed gives a there = absurd (none_in_nil a (subst (λ x. Contains x a) (exits-none ends pc exits Normal has) there))
  fed-onward true true ends p n exit_unknowns pc exits has one fed gives a there = fed a (subst (λ x. Contains x a) (exits-single ends pc exits Normal one has) there)
  fed-onward true false ends p n exit_unknowns pc exits has one fed gives a there =
      fed-inner_atom n (at_exits ends pc exits Normal) (λ a there. gives Normal n has refl a (subst (λ x. Contains x a) (exits-many ends pc exits Normal one has) there)) a there

  -- the first exit of a statement and its exceptions, at the same label
  pub fed-raised : (q : List NamedAtom) (j : Join) (exit_unknowns : ExitUnknowns) (raised : List ℕ) → AmongTwo raised → Within (raised_flows q exit_unknowns raised) → Fed q j →
      Gives (thrown_exits raised) exit_unknowns (λ y. j)
  fed-raised q j exit_unknowns raised two within fed e k has is =
      fed-flows q exit_unknowns (thrown_exits (raised_once raised)) j within fed e k (same-thrown (raised_once raised) raised (once-same raised two) e ∙ has) is

  pub fed-own : (q : List NamedAtom) (j : Join) (exit_unknowns : ExitUnknowns) (first : Exit) (raised : List ℕ) → AmongTwo raised → Within (flow q (exit_unknowns first) ++ raised_flows q exit_unknowns raised) → Fed q j →
      Gives (first ∷ thrown_exits raised) exit_unknowns (λ y. j)
  fed-own q j exit_unknowns first raised two within fed e k has is = ⊎_elim
      (λ same. fed-flow q (exit_unknowns first) j (within-left (flow q (exit_unknowns first)) (raised_flows q exit_unknowns raised) within) fed k (ap exit_unknowns (sym (same-exit e first same)) ∙ is))
      (λ h. fed-raised q j exit_unknowns raised two (within-right (flow q (exit_unknowns first)) (raised_flows q exit_unknowns raised) within) fed e k h is)
      (or_cases (same_exit e first) (has_exit (thrown_exits raised) e) has)

  module _ (scope : Scope) where
    -- a join of three, by its parts
    pub three : (x y z : Join) (k : ℕ) → FedTo k x → FedTo k y → FedTo k z → FedTo k (x ++ y ++ z)
    three x y z k f g h a there = ⊎_elim (λ t. ⊎_elim (λ i. f a i) (λ i. g a i) (Contains-append_cases x y a t)) (λ t. h a t) (Contains-append_cases (x ++ y) z a there)

    pub raised-fed : (e : Expression) (q : Join) (left : List NamedAtom) (exit_unknowns : ExitUnknowns) → Within (raised_flows left exit_unknowns (raises e)) → Fed left q → GivesAll exit_unknowns (raised_exit_labels e q)
    raised-fed e q left exit_unknowns within fed y k is a there = by_test (has_exit (thrown_exits (raises e)) y)
        (λ has. fed-raised left q exit_unknowns (raises e) (raises-two e) within fed y k has is a (sub-same (raised_exit_labels e q y) q (rw has refl) a there))
        (λ none. absurd (none_in_nil a (sub-same (raised_exit_labels e q y) [] (rw none refl) a there)))

    pub loop-fed : (b : Join) (x : ExitLabels) (n : ℕ) (exit_unknowns : ExitUnknowns) → ((k : ℕ) → exit_unknowns Normal ≡ Some k → FedTo k b) → GivesAll (in_loop n exit_unknowns) x → GivesAll exit_unknowns (loop_exit_labels b x)
    loop-fed b x n exit_unknowns fed each Normal k is a there = ⊎_elim (λ t. fed k is a t) (λ t. each Break k is a t) (Contains-append_cases b (x Break) a there)
    loop-fed b x n exit_unknowns fed each Return k is a there = each Return k is a there
    loop-fed b x n exit_unknowns fed each Break k is a there = absurd (none_in_nil a there)
    loop-fed b x n exit_unknowns fed each Continue k is a there = absurd (none_in_nil a there)
    loop-fed b x n exit_unknowns fed each (Throw y) k is a there = each (Throw y) k is a there

    -- what goes past the handlers is given to its exit unknown
    pub past : (handlers : Handlers) (number : ℕ → ℕ) (exit_unknowns : ExitUnknowns) (x : ExitLabels) → GivesAll (in_try number handlers exit_unknowns) x → GivesAll exit_unknowns (λ y. list_if (passes handlers y) (x y))
    past handlers number exit_unknowns x gives e k is a there = ⊎_elim
        (λ taken. absurd (none_in_nil a (sub-same (list_if (passes handlers e) (x e)) []
        (subst (λ z. list_if (passes handlers z) (x z) ≡ []) taken.1 (not_past taken.0 taken.2)) a there)))
        (λ passed. gives e k (passed.1 ∙ is) a (sub-same (list_if (passes handlers e) (x e)) (x e) (rw passed.0 refl) a there))
        (taken_or_passed number handlers exit_unknowns e)
      where
        not_past : (z : ℕ) → handles handlers z ≡ true → list_if (passes handlers (Throw z)) (x (Throw z)) ≡ []
        not_past z h = rw h refl

    pub fed-call : (at callee : ℕ) (arguments : List Expression) (target : Option Variable) (p : NamedAtom) (pc : Join) (exit_unknowns : ExitUnknowns) (n : ℕ) → Fed (p ∷ []) pc →
        Within (call_constraints scope p exit_unknowns n at callee arguments target) →
        Fed (inner_atom n ∷ []) (pc ++ flat_map (raise_label scope) arguments)
        × Gives (statement_exits scope.program (Placed at (Call callee arguments target))) exit_unknowns (call_exit_labels scope.program callee (pc ++ flat_map (raise_label scope) arguments))
    fed-call at callee arguments target p pc exit_unknowns n fed within =
        let j : Join = pc ++ flat_map (raise_label scope) arguments in
        let ends : List Exit = call_exits scope.program callee arguments in
        let left : List NamedAtom = p ∷ named_atoms (raise_atoms_all scope arguments) in
        let entry : List NamedConstraint = inner_constraint left n in
        let first : List NamedConstraint = rule_constraint scope at 6 (inner_atom n ∷ []) (ToBegin callee) in
        let second : List NamedConstraint = argument_constraints scope at n callee 0 arguments in
        let third : List NamedConstraint = target_constraint scope at 6 (inner_atom n ∷ named_atoms (call_atoms scope.program callee Normal ++ one (label_of scope.program (ToValue callee)))) target in
        let fourth : List NamedConstraint = call_flows scope.program callee n exit_unknowns ends in
        let own : Fed (inner_atom n ∷ []) j = fed-inner_atom n j (fed-inner_constraint left n j (within-left entry (first ++ (second ++ (third ++ fourth))) within)
        (pc-fed p pc (raise_atoms_all scope arguments) j fed (alike-arguments scope pc arguments).1)) in
        let last : Within fourth = within-right third fourth (within-right second (third ++ fourth) (within-right first (second ++ (third ++ fourth))
        (within-right entry (first ++ (second ++ (third ++ fourth))) within))) in
        (own, λ y k has is. fed-call_flows scope.program callee n exit_unknowns ends j last own y k (call-same scope.program callee arguments y ∙ has) is)

    mutual
      pub fed-statement : (s : Statement) (p : NamedAtom) (pc : Join) (exit_unknowns : ExitUnknowns) (n : ℕ) → Part scope.program s → Fed (p ∷ []) pc → Within (statement_constraints scope p exit_unknowns n s) →
          Gives (statement_exits scope.program s) exit_unknowns (statement_rule scope pc s)
      fed-statement (Placed at (Assign x e)) p pc exit_unknowns n part fed within y k has is =
          let q : List NamedAtom = p ∷ named_atoms (raise_atoms scope e) in
          fed-own q (pc ++ raise_label scope e) exit_unknowns Normal (raises e) (raises-two e)
          (within-right (rule_constraint scope at 1 (p ∷ named_atoms (value_label scope e)) (ToVariable scope.number x)) (flow q (exit_unknowns Normal) ++ raised_flows q exit_unknowns (raises e)) within)
          (pc-fed p pc (raise_atoms scope e) (pc ++ raise_label scope e) fed (alike-raise scope pc e).1) y k has is
      fed-statement (Placed at (Clear slot)) p pc exit_unknowns n part fed within y k has is =
          fed-flow (p ∷ []) (exit_unknowns Normal) pc (within-right (rule_constraint scope at 2 (p ∷ []) (ToVariable scope.number (Local slot))) (flow (p ∷ []) (exit_unknowns Normal)) within) fed k
          (ap exit_unknowns (sym (single-end Normal [] y refl has)) ∙ is)
      fed-statement (Placed at (Store array len index e)) p pc exit_unknowns n part fed within y k has is =
          let q : List NamedAtom = p ∷ named_atoms (store_atoms scope len index e) in
          let raised : List ℕ = raises index ++ raises e ++ index_raises index len in
          fed-own q (store_label scope pc len index e) exit_unknowns Normal raised (store-two index e len)
          (within-right (rule_constraint scope at 3 (p ∷ named_atoms (value_label scope index ++ value_label scope e)) (ToVariable scope.number array)) (flow q (exit_unknowns Normal) ++ raised_flows q exit_unknowns raised) within)
          (pc-fed p pc (store_atoms scope len index e) (store_label scope pc len index e) fed (alike-store scope pc len index e).1) y k has is
      fed-statement (Placed at (Receive channel target)) p pc exit_unknowns n part fed within y k has is =
          let label : Join = one (label_of scope.program (ToChannel channel)) in
          let q : List NamedAtom = p ∷ named_atoms label in
          let out : List NamedConstraint = flow q (exit_unknowns Normal) in
          let end : List NamedConstraint = flow q (exit_unknowns (Throw END)) in
          let q_fed : Fed q (pc ++ label) = fed-append (p ∷ []) (named_atoms label) pc label fed (fed-named label) in
          let last : Within (out ++ end) = within-right (target_constraint scope at 4 q target) (out ++ end)
          (within-right (rule_constraint scope at 4 (p ∷ []) (ToChannel channel)) (target_constraint scope at 4 q target ++ (out ++ end)) within) in
          ⊎_elim
          (λ same. fed-flow q (exit_unknowns Normal) (pc ++ label) (within-left out end last) q_fed k (ap exit_unknowns (sym (same-exit y Normal same)) ∙ is))
          (λ h. fed-flow q (exit_unknowns (Throw END)) (pc ++ label) (within-right out end last) q_fed k (ap exit_unknowns (sym (single-end (Throw END) [] y refl h)) ∙ is))
          (or_cases (same_exit y Normal) (has_exit (Throw END ∷ []) y) has)
      fed-statement (Placed at (Send channel e)) p pc exit_unknowns n part fed within y k has is =
          let q : List NamedAtom = p ∷ named_atoms (raise_atoms scope e) in
          fed-own q (pc ++ raise_label scope e) exit_unknowns Normal (raises e) (raises-two e)
          (within-right (rule_constraint scope at 5 (p ∷ named_atoms (value_label scope e)) (ToChannel channel)) (flow q (exit_unknowns Normal) ++ raised_flows q exit_unknowns (raises e)) within)
          (pc-fed p pc (raise_atoms scope e) (pc ++ raise_label scope e) fed (alike-raise scope pc e).1) y k has is
      fed-statement (Placed at (Call procedure arguments target)) p pc exit_unknowns n part fed within y k has is = (fed-call at procedure arguments target p pc exit_unknowns n fed within).1 y k has is
      fed-statement (Placed at (If e then_block else_block)) p pc exit_unknowns n part fed within y k has is =
          let r : Join = raise_label scope e in
          let v : Join = value_label scope e in
          let branch : Join = (pc ++ r) ++ v in
          let yes_exits : List Exit = block_exits scope.program then_block in
          let no_exits : List Exit = block_exits scope.program else_block in
          let q : List NamedAtom = p ∷ named_atoms (raise_atoms scope e) in
          let q_fed : Fed q (pc ++ r) = pc-fed p pc (raise_atoms scope e) (pc ++ r) fed (alike-raise scope pc e).1 in
          let first : List NamedConstraint = inner_constraint (p ∷ named_atoms v) n in
          let second : List NamedConstraint = raised_flows q exit_unknowns (raises e) in
          let third : List NamedConstraint = by_exits yes_exits (inner_atom n) exit_unknowns (λ t. block_constraints scope true (inner_atom n) t (suc n) then_block) in
          let fourth : List NamedConstraint = by_exits no_exits (inner_atom n) exit_unknowns (λ t. block_constraints scope true (inner_atom n) t (suc n + made_by_block then_block) else_block) in
          let in_first : Within first = within-left first (second ++ (third ++ fourth)) within in
          let after : Within (second ++ (third ++ fourth)) = within-right first (second ++ (third ++ fourth)) within in
          let in_second : Within second = within-left second (third ++ fourth) after in
          let branches : Within (third ++ fourth) = within-right second (third ++ fourth) after in
          let b_fed : Fed (inner_atom n ∷ []) branch = fed-inner_atom n branch (fed-inner_constraint (p ∷ named_atoms v) n branch in_first (pc-fed p pc v branch fed (alike-value scope pc e).1)) in
          three (raised_exit_labels e (pc ++ r) y) (block_exit_labels scope branch then_block y) (block_exit_labels scope branch else_block y) k
          (raised-fed e (pc ++ r) q exit_unknowns in_second q_fed y k is)
          (fed-block yes_exits (inner_atom n) exit_unknowns branch (block_rule scope branch then_block) (λ t. block_constraints scope true (inner_atom n) t (suc n) then_block)
          (within-left third fourth branches) b_fed (λ t w. fed-statements then_block true (inner_atom n) branch t (suc n) part.0 (λ i. absurd (cc)) b_fed w) y k is)
          (fed-block no_exits (inner_atom n) exit_unknowns branch (block_rule scope branch else_block) (λ t. block_constraints scope true (inner_atom n) t (suc n + made_by_block then_block) else_block)
          (within-right third fourth branches) b_fed (λ t w. fed-statements else_block true (inner_atom n) branch t (suc n + made_by_block then_block) part.1 (λ i. absurd (cc)) b_fed w) y k is)
      fed-statement (Placed at (While loop e body)) p pc exit_unknowns n part fed within y k has is =
          let l : Join = one (label_of scope.program (ToLoop scope.number loop)) in
          let loop_atom : NamedAtom = renamed Real (label_of scope.program (ToLoop scope.number loop)) in
          let r : Join = raise_label scope e in
          let v : Join = value_label scope e in
          let q : List NamedAtom = loop_atom ∷ named_atoms (raise_atoms scope e) in
          let b : Join = (l ++ r) ++ v in
          let ends : List Exit = block_exits scope.program body in
          let x : ExitLabels = block_exit_labels scope b body in
          let q_fed : Fed q (l ++ r) = pc-fed loop_atom l (raise_atoms scope e) (l ++ r) (fed-named l) (alike-raise scope l e).1 in
          let first : List NamedConstraint = rule_constraint scope at 8 (p ∷ []) (ToLoop scope.number loop) in
          let entry : List NamedConstraint = inner_constraint (loop_atom ∷ named_atoms v) n in
          let out : List NamedConstraint = flow (inner_atom n ∷ []) (exit_unknowns Normal) in
          let raising : List NamedConstraint = raised_flows q exit_unknowns (raises e) in
          let third : List NamedConstraint = by_exits ends (inner_atom n) (in_loop (suc n) exit_unknowns) (λ t. block_constraints scope true (inner_atom n) t (suc (suc n)) body) in
          let fourth : List NamedConstraint = rule_constraint scope at 8 (inner_atom (suc n) ∷ []) (ToLoop scope.number loop) in
          let after : Within (entry ++ (out ++ (raising ++ (third ++ fourth)))) = within-right first (entry ++ (out ++ (raising ++ (third ++ fourth)))) within in
          let in_entry : Within entry = within-left entry (out ++ (raising ++ (third ++ fourth))) after in
          let leaving : Within (out ++ (raising ++ (third ++ fourth))) = within-right entry (out ++ (raising ++ (third ++ fourth))) after in
          let in_out : Within out = within-left out (raising ++ (third ++ fourth)) leaving in
          let last : Within (raising ++ (third ++ fourth)) = within-right out (raising ++ (third ++ fourth)) leaving in
          let in_raising : Within raising = within-left raising (third ++ fourth) last in
          let in_third : Within third = within-left third fourth (within-right raising (third ++ fourth) last) in
          let b_fed : Fed (inner_atom n ∷ []) b = fed-inner_atom n b (fed-inner_constraint (loop_atom ∷ named_atoms v) n b in_entry (pc-fed loop_atom l v b (fed-named l) (alike-value scope l e).1)) in
          λ a there. ⊎_elim
          (λ t. raised-fed e (l ++ r) q exit_unknowns in_raising q_fed y k is a t)
          (λ t. loop-fed b x (suc n) exit_unknowns (λ z at. fed-flow (inner_atom n ∷ []) (exit_unknowns Normal) b in_out b_fed z at)
          (fed-block ends (inner_atom n) (in_loop (suc n) exit_unknowns) b (block_rule scope b body) (λ t. block_constraints scope true (inner_atom n) t (suc (suc n)) body)
          in_third b_fed (λ t w. fed-statements body true (inner_atom n) b t (suc (suc n)) part (λ i. absurd (cc)) b_fed w)) y k is a t)
          (Contains-append_cases (raised_exit_labels e (l ++ r) y) (loop_exit_labels b x y) a there)
      fed-statement (Placed at (Leave exit)) p pc exit_unknowns n part fed within y k has is =
          fed-flow (p ∷ []) (exit_unknowns exit) pc within fed k (ap exit_unknowns (sym (single-end exit [] y refl has)) ∙ is)
      fed-statement (Placed at (ReturnWith (Some e))) p pc exit_unknowns n part fed within y k has is =
          let q : List NamedAtom = p ∷ named_atoms (raise_atoms scope e) in
          fed-own q (pc ++ raise_label scope e) exit_unknowns Return (raises e) (raises-two e)
          (within-right (rule_constraint scope at 10 (p ∷ named_atoms (value_label scope e)) (ToValue scope.number)) (flow q (exit_unknowns Return) ++ raised_flows q exit_unknowns (raises e)) within)
          (pc-fed p pc (raise_atoms scope e) (pc ++ raise_label scope e) fed (alike-raise scope pc e).1) y k has is
      fed-statement (Placed at (ReturnWith None)) p pc exit_unknowns n part fed within y k has is =
          fed-flow (p ∷ []) (exit_unknowns Return) pc within fed k (ap exit_unknowns (sym (single-end Return [] y refl has)) ∙ is)
      fed-statement (Placed at (Try block handlers)) p pc exit_unknowns n part fed within y k has is = λ a there.
          let ends : List Exit = block_exits scope.program block in
          let x : ExitLabels = block_exit_labels scope pc block in
          let number : ℕ → ℕ = λ z. handler_number handlers n z in
          let inside : ExitUnknowns = in_try number handlers exit_unknowns in
          let first : List NamedConstraint = by_exits ends p inside (λ t. block_constraints scope true p t (n + handler_count handlers) block) in
          let second : List NamedConstraint = handlers_constraints scope number exit_unknowns ((n + handler_count handlers) + made_by_block block) handlers in
          let gives : GivesAll inside x = fed-block ends p inside pc (block_rule scope pc block) (λ t. block_constraints scope true p t (n + handler_count handlers) block)
          (within-left first second within) fed (λ t w. fed-statements block true p pc t (n + handler_count handlers) part.0 (λ i. absurd (cc)) fed w) in
          ⊎_elim
          (λ t. past handlers number exit_unknowns x gives y k is a t)
          (λ t. fed-handlers handlers number x exit_unknowns ((n + handler_count handlers) + made_by_block block) part.1
          (λ z h. gives (Throw z) (number z) (in_try-taken number handlers exit_unknowns z h)) (within-right first second within) y k is a t)
          (Contains-append_cases (list_if (passes handlers y) (x y)) (handlers_rule scope x handlers y) a there)
      fed-statement (Placed at (Nested block)) p pc exit_unknowns n part fed within y k has is =
          fed-block (block_exits scope.program block) p exit_unknowns pc (block_rule scope pc block) (λ t. block_constraints scope true p t n block) within fed
          (λ t w. fed-statements block true p pc t n part (λ i. absurd (cc)) fed w) y k is

      pub fed-statements : (block : Block) (reached : Bool) (p : NamedAtom) (pc : Join) (exit_unknowns : ExitUnknowns) (n : ℕ) → PartIn scope.program block → (reached ≡ false → pc ≡ []) → Fed (p ∷ []) pc →
          Within (block_constraints scope reached p exit_unknowns n block) → GivesAll exit_unknowns (block_rule scope pc block)
      fed-statements Empty true p pc exit_unknowns n part none fed within y k is a there =
          ⊎_elim (λ same. fed-flow (p ∷ []) (exit_unknowns Normal) pc within fed k (ap exit_unknowns same ∙ is) a (subst (λ z. Contains (list_if (same_exit Normal z) pc) a) (sym same) there))
          (λ other. absurd (none_in_nil a (sub-same (list_if (same_exit Normal y) pc) [] (rw other.0 refl) a there))) (normal_or_other y)
      fed-statements Empty false p pc exit_unknowns n part none fed within y k is a there =
          absurd (none_in_nil a (list_if-none (same_exit Normal y) a (subst (λ z. Contains (list_if (same_exit Normal y) z) a) (none refl) there)))
      fed-statements (Then s rest) reached p pc exit_unknowns n part none fed within y k is a there =
          let ends : List Exit = statement_exits scope.program s in
          let exits : ExitLabels = statement_rule scope pc s in
          let x : ExitLabels = statement_exit_labels scope pc s in
          let named_pc : NamedAtom = onward_pc (one_exit ends) p n in
          let first : List NamedConstraint = single (one_exit ends) p (with_normal None exit_unknowns) ends in
          let second : List NamedConstraint = statement_constraints scope p (within_single (one_exit ends) (with_normal (Some n) exit_unknowns)) (suc n) s in
          let third : List NamedConstraint = block_constraints scope (has_exit ends Normal) named_pc exit_unknowns (suc n + made_by_statement s) rest in
          let after : Within (second ++ third) = within-right first (second ++ third) within in
          let gives : Gives ends (within_single (one_exit ends) (with_normal (Some n) exit_unknowns)) exits =
          fed-statement s p pc (within_single (one_exit ends) (with_normal (Some n) exit_unknowns)) (suc n) part.0 fed (within-left second third after) in
          ⊎_elim
          (λ t. ⊎_elim
          (λ same. absurd (none_in_nil a (sub-same (list_if (not (same_exit Normal y)) (x y)) [] (ap (λ z. list_if (not (same_exit Normal z)) (x z)) (sym same)) a t)))
          (λ other. fed-ends (one_exit ends) ends p (with_normal None exit_unknowns) (with_normal (Some n) exit_unknowns) pc exits refl (within-left first (second ++ third) within) fed gives y k
          (other.1 None exit_unknowns ∙ is) (other.1 (Some n) exit_unknowns ∙ is) a (sub-same (list_if (not (same_exit Normal y)) (x y)) (x y) (rw other.0 refl) a t))
          (normal_or_other y))
          (λ t. fed-statements rest (has_exit ends Normal) named_pc (x Normal) exit_unknowns (suc n + made_by_statement s) part.2 (λ h. exits-none ends pc exits Normal h)
          (fed-onward (has_exit ends Normal) (one_exit ends) ends p n exit_unknowns pc exits refl refl fed gives) (within-right second third after) y k is a t)
          (Contains-append_cases (list_if (not (same_exit Normal y)) (x y)) (block_rule scope (x Normal) rest y) a there)

      pub fed-handlers : (handlers : Handlers) (number : ℕ → ℕ) (x : ExitLabels) (exit_unknowns : ExitUnknowns) (n : ℕ) → PartBy scope.program handlers →
          ((z : ℕ) → handles handlers z ≡ true → FedTo (number z) (x (Throw z))) → Within (handlers_constraints scope number exit_unknowns n handlers) →
          GivesAll exit_unknowns (handlers_rule scope x handlers)
      fed-handlers NoMore number x exit_unknowns n part fed within y k is a there = absurd (none_in_nil a there)
      fed-handlers (Catch at handled body rest) number x exit_unknowns n part fed within y k is a there =
          let ends : List Exit = block_exits scope.program body in
          let pc : Join = x (Throw handled) in
          let p : NamedAtom = inner_atom (number handled) in
          let first : List NamedConstraint = by_exits ends p exit_unknowns (λ t. block_constraints scope true p t n body) in
          let second : List NamedConstraint = handlers_constraints scope number exit_unknowns (n + made_by_block body) rest in
          let p_fed : Fed (p ∷ []) pc = fed-inner_atom (number handled) pc (fed handled (or_left (handled == handled) (handles rest handled) (eq-eqb handled handled refl))) in
          ⊎_elim
          (λ t. fed-block ends p exit_unknowns pc (block_rule scope pc body) (λ u. block_constraints scope true p u n body) (within-left first second within) p_fed
          (λ u w. fed-statements body true p pc u n part.0 (λ i. absurd (cc)) p_fed w) y k is a t)
          (λ t. fed-handlers rest number x exit_unknowns (n + made_by_block body) part.1 (λ z h. fed z (or_right (z == handled) (handles rest z) h)) (within-right first second within) y k is a t)
          (Contains-append_cases (block_exit_labels scope pc body y) (handlers_rule scope x rest y) a there)
