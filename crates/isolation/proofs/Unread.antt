-- At a label that an observer does not read, every possible exit of a labelled statement without a fault of its exits has a label that
-- it does not read.
use Rattle.std.proofs.Common.{◌≡◌, refl, sym, ap, ◌∙◌, ℕ, Bool, true, false, not, List, [], ◌++◌, ◌⊎◌, inl, inr, ⊎_elim}
use Rattle.std.specs.Prelude.{Some, None, filter}
use Rattle.std.proofs.lemmas.Bool.{or_cases, and_parts}
use Rattle.std.proofs.lemmas.List.Folds.{list_any-append}
use Rattle.principals.specs.ActsFor.{PrincipalHierarchy}
use Rattle.resolved.specs.FaultParts.{place_of, may_stand, inner_faults}
use Rattle.resolved.specs.declared.statement.Exit.{Exit}
use Rattle.resolved.specs.declared.statement.Exit.TheVariants.{Normal, Return, Break, Continue, Throw}
use Rattle.resolved.specs.Tree.{Statement, Placed, Call, If, While, ReturnWith, Try, Nested, Block, Empty, Then, Handlers, NoMore, Catch}
use Rattle.resolved.specs.Exits.{same_exit, has_exit, raises, thrown_exits, leaves_loop, passes, then_exits, statement_exits, block_exits, handlers_exits, fault_unless, list_if}
use Rattle.resolved.specs.ExitFaults.{block_faults, handlers_faults}
use Rattle.resolved.specs.declared.fault.ExitRefusalKind.TheVariants.{OutsideLoop, Unreachable, NeverRaised}
use Rattle.resolved.specs.declared.target.Target.TheVariants.{ToLoop}
use Rattle.resolved.specs.Labelled.{Scope, ExitLabels, demand, FitsDemands, value_label, Labelling, Join, one, label_of}
use Rattle.resolved.specs.LabelRules.{at_exits, raised_exit_labels, loop_exit_labels, statement_rule, block_rule, handlers_rule, statement_demands, block_demands, handlers_demands}
use Rattle.isolation.proofs.OwnLabel.{own_label}
use Rattle.isolation.proofs.Observer.{Reader, unread-left, unread-right}
use Rattle.isolation.proofs.Closed.{closed-unread}
use Rattle.isolation.proofs.Confined.{fits-left, fits-right, unread-list_if, unread-call, own-unread}
use Rattle.common.proofs.Cases.{append_empty}
use Rattle.resolved.proofs.Exits.{same-exit, no_fault-test, end-filter, faults-in_parts}

either-end : (xs ys : List Exit) (exit : Exit) → has_exit (xs ++ ys) exit ≡ true →
    (has_exit xs exit ≡ true) ⊎ (has_exit ys exit ≡ true)
either-end xs ys exit h = or_cases (has_exit xs exit) (has_exit ys exit) (sym (list_any-append (same_exit exit) xs ys) ∙ h)

filtered-end : (p : Exit → Bool) (ends : List Exit) (exit : Exit) → has_exit (filter p ends) exit ≡ true →
    (p exit ≡ true) × (has_exit ends exit ≡ true)
filtered-end p ends exit h = and_parts (p exit) (has_exit ends exit) (sym (end-filter p ends exit) ∙ h)

-- the exits of a first part and of what follows
then-cases : (first rest : List Exit) (exit : Exit) → has_exit (then_exits first rest) exit ≡ true →
    ((not (same_exit Normal exit) ≡ true) × (has_exit first exit ≡ true)) ⊎ ((has_exit first Normal ≡ true) × (has_exit rest exit ≡ true))
then-cases first rest exit h = go (has_exit first Normal) refl
  where
    other : (b : Bool) → same_exit Normal exit ≡ b → has_exit first Normal ≡ false → has_exit first exit ≡ true →
        not (same_exit Normal exit) ≡ true
    other true e none f =
        let same : Normal ≡ exit = same-exit Normal exit e in
        let i : true ≡ false = sym (rw same f) ∙ none in absurd (cc)
    other false e none f = ap not e

    go : (b : Bool) → has_exit first Normal ≡ b →
        ((not (same_exit Normal exit) ≡ true) × (has_exit first exit ≡ true)) ⊎ ((has_exit first Normal ≡ true) × (has_exit rest exit ≡ true))
    go true e =
        ⊎_elim
        (λ f. inl (filtered-end (λ x. not (same_exit Normal x)) first exit f))
        (λ f. inr (e, f))
        (either-end (filter (λ x. not (same_exit Normal x)) first) rest exit (rw e at h))
    go false e = let f : has_exit first exit ≡ true = rw e at h in inl (other (same_exit Normal exit) refl e f, f)

module _ (h : PrincipalHierarchy) (labelling : Labelling) (reader : Reader h labelling) (scope : Scope) where
  -- what is raised, and what leaves a loop
  raised-end : (xs : List ℕ) (q : Join) (exit : Exit) → reader.reads q ≡ false → has_exit (thrown_exits xs) exit ≡ true →
      reader.reads (list_if (has_exit (thrown_exits xs) exit) q) ≡ false
  raised-end xs q exit unread e = unread-list_if reader (has_exit (thrown_exits xs) exit) q e unread

  loop-end : (b : Join) (x : ExitLabels) (exit : Exit) → leaves_loop exit ≡ true → reader.reads (x exit) ≡ false →
      reader.reads (loop_exit_labels b x exit) ≡ false
  loop-end b x Normal e unread = let i : true ≡ false = sym e in absurd (cc)
  loop-end b x Return e unread = unread
  loop-end b x Break e unread = let i : true ≡ false = sym e in absurd (cc)
  loop-end b x Continue e unread = let i : true ≡ false = sym e in absurd (cc)
  loop-end b x (Throw y) e unread = unread

  mutual
    pub statement-ends-unread : (statement : Statement) (pc : Join) (in_loop : Bool) →
        inner_faults scope.program in_loop statement ≡ [] → FitsDemands h labelling (statement_demands scope pc statement) →
        reader.reads pc ≡ false → (exit : Exit) → has_exit (statement_exits scope.program statement) exit ≡ true →
        reader.reads (statement_rule scope pc statement exit) ≡ false
    statement-ends-unread (Placed at (Call f arguments target)) pc in_loop faults fits unread exit among =
        unread-call reader scope.program f (own_label scope pc (Placed at (Call f arguments target)))
        (own-unread reader scope pc (Placed at (Call f arguments target)) fits unread) exit
    statement-ends-unread (Placed at (If e then_block else_block)) pc in_loop faults fits unread exit among =
        let q : Join = own_label scope pc (Placed at (If e then_block else_block)) in
        let b : Join = q ++ value_label scope e in
        let unread_q = own-unread reader scope pc (Placed at (If e then_block else_block)) fits unread in
        let unread_b = unread-left reader q (value_label scope e) unread_q in
        let yes_exits = block_exits scope.program then_block in
        let no_exits = block_exits scope.program else_block in
        let yes_exit_labels : ExitLabels = at_exits yes_exits b (block_rule scope b then_block) in
        let no_exit_labels : ExitLabels = at_exits no_exits b (block_rule scope b else_block) in
        let parts = append_empty (block_faults scope.program in_loop true then_block) (block_faults scope.program in_loop true else_block) faults in
        ⊎_elim
        (λ front. ⊎_elim
        (λ raised. unread-left reader (raised_exit_labels e q exit ++ yes_exit_labels exit) (no_exit_labels exit)
        (unread-left reader (raised_exit_labels e q exit) (yes_exit_labels exit) (raised-end (raises e) q exit unread_q raised)))
        (λ yes. unread-left reader (raised_exit_labels e q exit ++ yes_exit_labels exit) (no_exit_labels exit)
        (unread-right reader (raised_exit_labels e q exit) (yes_exit_labels exit)
        (closed-unread reader yes_exits b (block_rule scope b then_block) exit (λ one. unread_b) yes
        (block-ends-unread then_block b in_loop true parts.0 (fits-left h labelling (block_demands scope b then_block)
        (block_demands scope b else_block) fits) unread_b exit yes))))
        (either-end (thrown_exits (raises e)) yes_exits exit front))
        (λ no. unread-right reader (raised_exit_labels e q exit ++ yes_exit_labels exit) (no_exit_labels exit)
        (closed-unread reader no_exits b (block_rule scope b else_block) exit (λ one. unread_b) no
        (block-ends-unread else_block b in_loop true parts.1 (fits-right h labelling (block_demands scope b then_block)
        (block_demands scope b else_block) fits) unread_b exit no)))
        (either-end (thrown_exits (raises e) ++ yes_exits) no_exits exit among)
    statement-ends-unread (Placed at (While loop e body)) pc in_loop faults fits unread exit among =
        let l : Join = one (label_of scope.program (ToLoop scope.number loop)) in
        let q : Join = own_label scope pc (Placed at (While loop e body)) in
        let b : Join = q ++ value_label scope e in
        let unread_q = own-unread reader scope pc (Placed at (While loop e body)) fits unread in
        let unread_b = unread-left reader q (value_label scope e) unread_q in
        let ends = block_exits scope.program body in
        let x : ExitLabels = at_exits ends b (block_rule scope b body) in
        let body_fits = fits-right h labelling (demand scope.program at 8 pc (ToLoop scope.number loop)) (block_demands scope b body)
        (fits-left h labelling (demand scope.program at 8 pc (ToLoop scope.number loop) ++ block_demands scope b body) (demand scope.program at 8 (x Normal ++ x Continue) (ToLoop scope.number loop)) fits) in
        ⊎_elim
        (λ normal. rw (same-exit exit Normal normal) (unread-right reader (raised_exit_labels e q Normal) (b ++ x Break)
        (unread-left reader b (x Break) unread_b)))
        (λ other. ⊎_elim
        (λ raised. unread-left reader (raised_exit_labels e q exit) (loop_exit_labels b x exit) (raised-end (raises e) q exit unread_q raised))
        (λ leaves. let found = filtered-end leaves_loop ends exit leaves in
        unread-right reader (raised_exit_labels e q exit) (loop_exit_labels b x exit) (loop-end b x exit found.0
        (closed-unread reader ends b (block_rule scope b body) exit (λ one. unread_b) found.1
        (block-ends-unread body b true true faults body_fits unread_b exit found.1))))
        (either-end (thrown_exits (raises e)) (filter leaves_loop ends) exit other))
        (or_cases (same_exit exit Normal) (has_exit (thrown_exits (raises e) ++ filter leaves_loop ends) exit) among)
    statement-ends-unread (Placed at (Try block handlers)) pc in_loop faults fits unread exit among =
        let ends = block_exits scope.program block in
        let x : ExitLabels = at_exits ends pc (block_rule scope pc block) in
        let parts = append_empty (block_faults scope.program in_loop true block) (handlers_faults scope.program in_loop ends handlers) faults in
        let block_fits = fits-left h labelling (block_demands scope pc block) (handlers_demands scope x handlers) fits in
        let inner : (e : Exit) → has_exit ends e ≡ true → reader.reads (x e) ≡ false = λ e found. closed-unread reader ends pc
        (block_rule scope pc block) e (λ one. unread) found
        (block-ends-unread block pc in_loop true parts.0 block_fits unread e found) in
        ⊎_elim
        (λ passing. let found = filtered-end (passes handlers) ends exit passing in
        unread-left reader (list_if (passes handlers exit) (x exit)) (handlers_rule scope x handlers exit)
        (unread-list_if reader (passes handlers exit) (x exit) found.0 (inner exit found.1)))
        (λ handled. unread-right reader (list_if (passes handlers exit) (x exit)) (handlers_rule scope x handlers exit)
        (handlers-ends-unread handlers x in_loop ends parts.1 (fits-right h labelling (block_demands scope pc block)
        (handlers_demands scope x handlers) fits) (λ y found. inner (Throw y) found) exit handled))
        (either-end (filter (passes handlers) ends) (handlers_exits scope.program handlers) exit among)
    statement-ends-unread (Placed at (Nested block)) pc in_loop faults fits unread exit among =
        closed-unread reader (block_exits scope.program block) pc (block_rule scope pc block) exit (λ one. unread) among
        (block-ends-unread block pc in_loop true faults fits unread exit among)
    statement-ends-unread (Placed at (ReturnWith None)) pc in_loop faults fits unread exit among = unread
    statement-ends-unread (Placed at (ReturnWith (Some e))) pc in_loop faults fits unread exit among = own-unread reader scope pc
        (Placed at (ReturnWith (Some e))) fits unread
    statement-ends-unread other pc in_loop faults fits unread exit among = own-unread reader scope pc other fits unread

    pub block-ends-unread : (block : Block) (pc : Join) (in_loop reached : Bool) →
        block_faults scope.program in_loop reached block ≡ [] → FitsDemands h labelling (block_demands scope pc block) → reader.reads pc ≡ false →
        (exit : Exit) → has_exit (block_exits scope.program block) exit ≡ true → reader.reads (block_rule scope pc block exit) ≡ false
    block-ends-unread Empty pc in_loop reached faults fits unread exit among =
        ⊎_elim
        (λ normal. rw (same-exit exit Normal normal) unread)
        (λ none. let i : true ≡ false = sym none in absurd (cc))
        (or_cases (same_exit exit Normal) false among)
    block-ends-unread (Then statement rest) pc in_loop reached faults fits unread exit among =
        let ends = statement_exits scope.program statement in
        let x : ExitLabels = at_exits ends pc (statement_rule scope pc statement) in
        let first = fault_unless (may_stand in_loop statement) OutsideLoop (place_of statement) ++ fault_unless reached Unreachable
        (place_of statement) in
        let later = block_faults scope.program in_loop (has_exit ends Normal) rest in
        let both = append_empty (first ++ inner_faults scope.program in_loop statement) later
        (sym (faults-in_parts scope.program in_loop reached rest statement) ∙ faults) in
        let here = append_empty first (inner_faults scope.program in_loop statement) both.0 in
        let statement_fits = fits-left h labelling (statement_demands scope pc statement) (block_demands scope (x Normal) rest) fits in
        let inner : (e : Exit) → has_exit ends e ≡ true → reader.reads (x e) ≡ false = λ e found. closed-unread reader ends pc
        (statement_rule scope pc statement) e (λ one. unread) found
        (statement-ends-unread statement pc in_loop here.1 statement_fits unread e found) in
        ⊎_elim
        (λ other. unread-left reader (list_if (not (same_exit Normal exit)) (x exit)) (block_rule scope (x Normal) rest exit)
        (unread-list_if reader (not (same_exit Normal exit)) (x exit) other.0 (inner exit other.1)))
        (λ after. unread-right reader (list_if (not (same_exit Normal exit)) (x exit)) (block_rule scope (x Normal) rest exit)
        (block-ends-unread rest (x Normal) in_loop (has_exit ends Normal) both.1
        (fits-right h labelling (statement_demands scope pc statement) (block_demands scope (x Normal) rest) fits)
        (inner Normal after.0) exit after.1))
        (then-cases ends (block_exits scope.program rest) exit among)

    pub handlers-ends-unread : (handlers : Handlers) (x : ExitLabels) (in_loop : Bool) (ends : List Exit) →
        handlers_faults scope.program in_loop ends handlers ≡ [] → FitsDemands h labelling (handlers_demands scope x handlers) →
        ((y : ℕ) → has_exit ends (Throw y) ≡ true → reader.reads (x (Throw y)) ≡ false) → (exit : Exit) →
        has_exit (handlers_exits scope.program handlers) exit ≡ true → reader.reads (handlers_rule scope x handlers exit) ≡ false
    handlers-ends-unread NoMore x in_loop ends faults fits unread exit among = let i : true ≡ false = sym among in absurd (cc)
    handlers-ends-unread (Catch at handled body rest) x in_loop ends faults fits unread exit among =
        let body_exits = block_exits scope.program body in
        let pc : Join = x (Throw handled) in
        let exits : ExitLabels = at_exits body_exits pc (block_rule scope pc body) in
        let others = filter (λ e. not (same_exit (Throw handled) e)) ends in
        let raised = fault_unless (has_exit ends (Throw handled)) NeverRaised at in
        let both = append_empty (raised ++ block_faults scope.program in_loop true body) (handlers_faults scope.program in_loop others rest) faults in
        let here = append_empty raised (block_faults scope.program in_loop true body) both.0 in
        let unread_pc : reader.reads pc ≡ false = unread handled (no_fault-test (has_exit ends (Throw handled)) NeverRaised at here.0) in
        ⊎_elim
        (λ found. unread-left reader (exits exit) (handlers_rule scope x rest exit)
        (closed-unread reader body_exits pc (block_rule scope pc body) exit (λ one. unread_pc) found
        (block-ends-unread body pc in_loop true here.1 (fits-left h labelling (block_demands scope pc body)
        (handlers_demands scope x rest) fits) unread_pc exit found)))
        (λ later. unread-right reader (exits exit) (handlers_rule scope x rest exit)
        (handlers-ends-unread rest x in_loop others both.1 (fits-right h labelling (block_demands scope pc body) (handlers_demands scope x rest) fits)
        (λ y found. unread y (filtered-end (λ e. not (same_exit (Throw handled) e)) ends (Throw y) found).1) exit later))
        (either-end body_exits (handlers_exits scope.program rest) exit among)
