-- What the judgements say, part by part: their exits, labels, demands and faults are those that code and proofs walk apart.
use Rattle.std.proofs.Common.{◌≡◌, refl, sym, ap, ◌∙◌, ℕ, suc, Bool, true, false, not, List, [], ◌∷◌, ◌++◌, filter, length, append_assoc, append-nil, add-one, length-append}
use Rattle.std.specs.Prelude.{flat_map, fold, map, ◌+◌, if◌then◌else◌, slice_index_or, Some, None}
use Rattle.std.specs.Prelude.{◌||◌}
use Rattle.std.specs.List.{list_any, enumerate_from}
use Rattle.std.proofs.Math.Bool.{or_assoc, or-false}
use Rattle.std.proofs.lemmas.Bool.{or_parts}
use Rattle.std.proofs.lemmas.List.Folds.{list_any-append}
use Rattle.resolved.specs.declared.statement.Exit.{Exit}
use Rattle.resolved.specs.declared.statement.Exit.TheVariants.{Normal, Return, Break, Continue, Throw}
use Rattle.resolved.specs.declared.target.Target.TheVariants.{ToBegin, ToParameter, ToEnd, ToThrown, ToLoop}
use Rattle.resolved.specs.Tree.{Expression, Statement, Placed, Assign, Clear, Store, Receive, Send, Call, If, While, Leave, ReturnWith, Try, Nested, Block, Empty, Then, Handlers, NoMore, Catch}
use Rattle.resolved.specs.Program.{Program, ProcedureEntry, ThrownEntry, procedure_at}
use Rattle.resolved.specs.BitUse.{expression_uses_bits, statement_uses_bits, block_uses_bits, handlers_use_bits, uses_bits, procedures_use_bits}
use Rattle.resolved.specs.Exits.{same_exit, has_exit, one_exit, list_if, leaves_loop, raises, thrown_exits, taken_by, declared_by, handles, passes, then_exits, statement_exits, block_exits, handlers_exits}
use Rattle.resolved.specs.ExitFaults.{statement_faults, block_faults, handlers_faults, procedure_faults}
use Rattle.resolved.specs.Labelled.{Scope, here, Join, one, label_of, value_label, raise_label, ExitLabels, Demand, demand, Judgement, ◌&◌, ending, whole, without, own, rule_of, rule_of_block, rule_of_handlers, argument_demands, exit_demands, procedure_judgement, judgement_from, program_judgement, program_demands, exit_faults}
use Rattle.resolved.specs.LabelRules.{at_exits, block_rule, handlers_rule, statement_exit_labels, block_exit_labels, statement_demands, block_demands, handlers_demands, procedure_demands, demands_from}
use Rattle.resolved.proofs.Exits.{thrown-normal}

both : {A : Type 0} (a b c d : List A) → a ≡ b → c ≡ d → (a ++ c) ≡ (b ++ d)
both a b c d e f = rw (e, f) refl

-- ---- exits
filter-alike : (p q : Exit → Bool) → ((exit : Exit) → p exit ≡ q exit) → (exits : List Exit) → filter p exits ≡ filter q exits
filter-alike p q same [] = refl
filter-alike p q same (exit ∷ rest) = rw (same exit, filter-alike p q same rest) refl

stays-normal : (exit : Exit) → not (has_exit (Normal ∷ []) exit) ≡ not (same_exit Normal exit)
stays-normal Normal = refl
stays-normal Return = refl
stays-normal Break = refl
stays-normal Continue = refl
stays-normal (Throw x) = refl

taken-handled : (handlers : Handlers) (x : ℕ) → has_exit (taken_by handlers) (Throw x) ≡ handles handlers x
taken-handled NoMore x = refl
taken-handled (Catch at handled body rest) x = rw (taken-handled rest x) refl

-- handlers take no exit but an exception
module _ (exit : Exit) (other : (x : ℕ) → same_exit exit (Throw x) ≡ false) where
  taken-other : (handlers : Handlers) → has_exit (taken_by handlers) exit ≡ false
  taken-other NoMore = refl
  taken-other (Catch at handled body rest) = rw (other handled, taken-other rest) refl

stays-passes : (handlers : Handlers) (exit : Exit) → not (has_exit (taken_by handlers) exit) ≡ passes handlers exit
stays-passes handlers Normal = ap not (taken-other Normal (λ x. refl) handlers)
stays-passes handlers Return = ap not (taken-other Return (λ x. refl) handlers)
stays-passes handlers Break = ap not (taken-other Break (λ x. refl) handlers)
stays-passes handlers Continue = ap not (taken-other Continue (λ x. refl) handlers)
stays-passes handlers (Throw x) = ap not (taken-handled handlers x)

without-normal : (exits : List Exit) → has_exit exits Normal ≡ false → filter (λ exit. not (same_exit Normal exit)) exits ≡ exits
without-normal [] none = refl
without-normal (exit ∷ rest) none =
    let parts = or_parts (same_exit Normal exit) (has_exit rest Normal) none in
    rw (parts.0, without-normal rest parts.1) refl

then-same : (first rest : List Exit)
    → (filter (λ exit. not (has_exit (Normal ∷ []) exit)) first ++ list_if (has_exit first Normal) rest) ≡ then_exits first rest
then-same first rest =
    ap (λ exits. exits ++ list_if (has_exit first Normal) rest)
    (filter-alike (λ exit. not (has_exit (Normal ∷ []) exit)) (λ exit. not (same_exit Normal exit)) stays-normal first)
    ∙ go (has_exit first Normal) refl
  where
    others : List Exit
    others = filter (λ exit. not (same_exit Normal exit)) first

    go : (b : Bool) → has_exit first Normal ≡ b → (others ++ list_if b rest) ≡ (if b then others ++ rest else first)
    go true e = refl
    go false e = append-nil others ∙ without-normal first e

-- ---- labels
abbrev Alike : ExitLabels → ExitLabels → Type 0
Alike x y = (exit : Exit) → x exit ≡ y exit

whole-alike : (pc : Join) (inner : Judgement) (exits : List Exit) (x : ExitLabels) → inner.exits ≡ exits → Alike inner.labels x
    → Alike (whole pc inner).labels (at_exits exits pc x)
whole-alike pc inner exits x e same exit = rw (e, same exit) refl

own-alike : (reached : Bool) (at : ℕ) (evaluated : List Expression) (exits : List Exit) (pc q : Join) (demands : List Demand)
    → Alike (whole pc (own reached at evaluated exits q demands)).labels (at_exits exits pc (λ exit. q))
own-alike reached at evaluated exits pc q demands exit = go (has_exit exits exit) (one_exit exits)
  where
    go : (has single : Bool) → list_if has (if single then pc else list_if has q) ≡ list_if has (if single then pc else q)
    go true single = refl
    go false single = refl

loop-alike : (ends : List ℕ) (q ended : Join) (x : ExitLabels) → Alike
    (λ exit. list_if (has_exit (Normal ∷ []) exit) ended ++ list_if (has_exit (thrown_exits ends) exit) q
    ++ list_if (not (has_exit (Normal ∷ Break ∷ Continue ∷ []) exit)) (x exit))
    (λ exit. list_if (has_exit (thrown_exits ends) exit) q
    ++ (if leaves_loop exit then x exit else list_if (same_exit Normal exit) ended))
loop-alike ends q ended x Normal = rw (thrown-normal ends) (append-nil (ended ++ []) ∙ append-nil ended)
loop-alike ends q ended x Return = refl
loop-alike ends q ended x Break = refl
loop-alike ends q ended x Continue = refl
loop-alike ends q ended x (Throw e) = refl

module _ (scope : Scope) where
  -- the demands on arguments, one by one from parameter i on
  arguments-of : (at : ℕ) (q : Join) (callee i : ℕ) (arguments : List Expression)
      → flat_map (λ (i, e). demand scope.program at 6 (q ++ value_label scope e) (ToParameter callee i)) (enumerate_from i arguments)
      ≡ argument_demands scope at q callee i arguments
  arguments-of at q callee i [] = refl
  arguments-of at q callee i (e ∷ rest) =
      ap (λ demands. demand scope.program at 6 (q ++ value_label scope e) (ToParameter callee i) ++ demands)
      (arguments-of at q callee (i + 1) rest ∙ ap (λ next. argument_demands scope at q callee next rest) (add-one i))

  mutual
    pub exits-of : (s : Statement) (loop reached : Bool) (pc : Join)
        → (rule_of scope loop reached pc s).exits ≡ statement_exits scope.program s
    exits-of (Placed at (Assign x e)) loop reached pc = refl
    exits-of (Placed at (Clear slot)) loop reached pc = refl
    exits-of (Placed at (Store array count index e)) loop reached pc = refl
    exits-of (Placed at (Receive channel target)) loop reached pc = refl
    exits-of (Placed at (Send channel e)) loop reached pc = refl
    exits-of (Placed at (Call procedure arguments target)) loop reached pc = refl
    exits-of (Placed at (If e then_block else_block)) loop reached pc =
        let branch : Join = pc ++ raise_label scope e ++ value_label scope e in
        rw (block_exits-of then_block loop true branch, block_exits-of else_block loop true branch) refl
    exits-of (Placed at (While l e body)) loop reached pc =
        let b : Join = one (label_of scope.program (ToLoop scope.number l)) ++ raise_label scope e ++ value_label scope e in
        rw (block_exits-of body true true b) refl
    exits-of (Placed at (Leave exit)) loop reached pc = refl
    exits-of (Placed at (ReturnWith None)) loop reached pc = refl
    exits-of (Placed at (ReturnWith (Some e))) loop reached pc = refl
    exits-of (Placed at (Try block handlers)) loop reached pc =
        let inner : Judgement = whole pc (rule_of_block scope loop true pc block) in
        both (filter (λ exit. not (has_exit (taken_by handlers) exit)) inner.exits)
        (filter (passes handlers) (block_exits scope.program block))
        (rule_of_handlers scope loop inner.exits inner.labels handlers).exits (handlers_exits scope.program handlers)
        (filter-alike (λ exit. not (has_exit (taken_by handlers) exit)) (passes handlers) (stays-passes handlers) inner.exits
        ∙ ap (filter (passes handlers)) (block_exits-of block loop true pc))
        (handlers_exits-of handlers loop inner.exits inner.labels)
    exits-of (Placed at (Nested block)) loop reached pc = block_exits-of block loop true pc

    block_exits-of : (block : Block) (loop reached : Bool) (pc : Join)
        → (rule_of_block scope loop reached pc block).exits ≡ block_exits scope.program block
    block_exits-of Empty loop reached pc = refl
    block_exits-of (Then s rest) loop reached pc =
        let first : Judgement = whole pc (rule_of scope loop reached pc s) in
        ap (λ exits. (without (Normal ∷ []) first).exits ++ list_if (has_exit first.exits Normal) exits)
        (block_exits-of rest loop (has_exit first.exits Normal) (first.labels Normal))
        ∙ then-same first.exits (block_exits scope.program rest)
        ∙ ap (λ exits. then_exits exits (block_exits scope.program rest)) (exits-of s loop reached pc)

    handlers_exits-of : (handlers : Handlers) (loop : Bool) (left : List Exit) (x : ExitLabels)
        → (rule_of_handlers scope loop left x handlers).exits ≡ handlers_exits scope.program handlers
    handlers_exits-of NoMore loop left x = refl
    handlers_exits-of (Catch at handled body rest) loop left x =
        rw (
          block_exits-of body loop true (x (Throw handled)),
          handlers_exits-of rest loop (filter (λ exit. not (same_exit (Throw handled) exit)) left) x,
        ) refl

  -- ---- faults
  mutual
    pub faults-of : (s : Statement) (loop reached : Bool) (pc : Join)
        → (rule_of scope loop reached pc s).faults ≡ statement_faults scope.program loop reached s
    faults-of (Placed at (Assign x e)) loop reached pc = refl
    faults-of (Placed at (Clear slot)) loop reached pc = refl
    faults-of (Placed at (Store array count index e)) loop reached pc = refl
    faults-of (Placed at (Receive channel target)) loop reached pc = refl
    faults-of (Placed at (Send channel e)) loop reached pc = refl
    faults-of (Placed at (Call procedure arguments target)) loop reached pc = refl
    faults-of (Placed at (If e then_block else_block)) loop reached pc =
        let branch : Join = pc ++ raise_label scope e ++ value_label scope e in
        rw (block_faults-of then_block loop true branch, block_faults-of else_block loop true branch) refl
    faults-of (Placed at (While l e body)) loop reached pc =
        let b : Join = one (label_of scope.program (ToLoop scope.number l)) ++ raise_label scope e ++ value_label scope e in
        rw (block_faults-of body true true b) refl
    faults-of (Placed at (Leave exit)) loop reached pc = refl
    faults-of (Placed at (ReturnWith None)) loop reached pc = refl
    faults-of (Placed at (ReturnWith (Some e))) loop reached pc = refl
    faults-of (Placed at (Try block handlers)) loop reached pc =
        let inner : Judgement = whole pc (rule_of_block scope loop true pc block) in
        rw (block_faults-of block loop true pc, handlers_faults-of handlers loop inner.exits inner.labels, block_exits-of block loop true pc) refl
    faults-of (Placed at (Nested block)) loop reached pc = rw (block_faults-of block loop true pc) refl

    block_faults-of : (block : Block) (loop reached : Bool) (pc : Join)
        → (rule_of_block scope loop reached pc block).faults ≡ block_faults scope.program loop reached block
    block_faults-of Empty loop reached pc = refl
    block_faults-of (Then s rest) loop reached pc =
        let first : Judgement = whole pc (rule_of scope loop reached pc s) in
        let later : Judgement = rule_of_block scope loop (has_exit first.exits Normal) (first.labels Normal) rest in
        both first.faults (statement_faults scope.program loop reached s) later.faults
        (block_faults scope.program loop (has_exit (statement_exits scope.program s) Normal) rest)
        (faults-of s loop reached pc)
        (block_faults-of rest loop (has_exit first.exits Normal) (first.labels Normal)
        ∙ ap (λ exits. block_faults scope.program loop (has_exit exits Normal) rest) (exits-of s loop reached pc))

    handlers_faults-of : (handlers : Handlers) (loop : Bool) (left : List Exit) (x : ExitLabels)
        → (rule_of_handlers scope loop left x handlers).faults ≡ handlers_faults scope.program loop left handlers
    handlers_faults-of NoMore loop left x = refl
    handlers_faults-of (Catch at handled body rest) loop left x =
        rw (
          block_faults-of body loop true (x (Throw handled)),
          handlers_faults-of rest loop (filter (λ exit. not (same_exit (Throw handled) exit)) left) x,
        ) refl

  -- ---- bits
  abbrev any_bits : List Expression → Bool
  any_bits es = list_any expression_uses_bits es

  mutual
    pub bits-of : (s : Statement) (loop reached : Bool) (pc : Join)
        → any_bits (rule_of scope loop reached pc s).expressions ≡ statement_uses_bits s
    bits-of (Placed at (Assign x e)) loop reached pc = or-false (expression_uses_bits e)
    bits-of (Placed at (Clear slot)) loop reached pc = refl
    bits-of (Placed at (Store array count index e)) loop reached pc = ap (λ b. expression_uses_bits index || b) (or-false (expression_uses_bits e))
    bits-of (Placed at (Receive channel target)) loop reached pc = refl
    bits-of (Placed at (Send channel e)) loop reached pc = or-false (expression_uses_bits e)
    bits-of (Placed at (Call procedure arguments target)) loop reached pc = refl
    bits-of (Placed at (If e then_block else_block)) loop reached pc =
        let branch : Join = pc ++ raise_label scope e ++ value_label scope e in
        let first : List Expression = (rule_of_block scope loop true branch then_block).expressions in
        let second : List Expression = (rule_of_block scope loop true branch else_block).expressions in
        ap (λ b. expression_uses_bits e || b) (list_any-append expression_uses_bits first second)
        ∙ rw (block_bits-of then_block loop true branch, block_bits-of else_block loop true branch)
        (sym (or_assoc (expression_uses_bits e) (block_uses_bits then_block) (block_uses_bits else_block)))
    bits-of (Placed at (While l e body)) loop reached pc =
        let b : Join = one (label_of scope.program (ToLoop scope.number l)) ++ raise_label scope e ++ value_label scope e in
        ap (λ b. expression_uses_bits e || b) (block_bits-of body true true b)
    bits-of (Placed at (Leave exit)) loop reached pc = refl
    bits-of (Placed at (ReturnWith None)) loop reached pc = refl
    bits-of (Placed at (ReturnWith (Some e))) loop reached pc = or-false (expression_uses_bits e)
    bits-of (Placed at (Try block handlers)) loop reached pc =
        let inner : Judgement = whole pc (rule_of_block scope loop true pc block) in
        list_any-append expression_uses_bits inner.expressions (rule_of_handlers scope loop inner.exits inner.labels handlers).expressions
        ∙ rw (block_bits-of block loop true pc, handlers_bits-of handlers loop inner.exits inner.labels) refl
    bits-of (Placed at (Nested block)) loop reached pc = block_bits-of block loop true pc

    block_bits-of : (block : Block) (loop reached : Bool) (pc : Join)
        → any_bits (rule_of_block scope loop reached pc block).expressions ≡ block_uses_bits block
    block_bits-of Empty loop reached pc = refl
    block_bits-of (Then s rest) loop reached pc =
        let first : Judgement = whole pc (rule_of scope loop reached pc s) in
        let later : Judgement = rule_of_block scope loop (has_exit first.exits Normal) (first.labels Normal) rest in
        list_any-append expression_uses_bits first.expressions later.expressions
        ∙ rw (bits-of s loop reached pc, block_bits-of rest loop (has_exit first.exits Normal) (first.labels Normal)) refl

    handlers_bits-of : (handlers : Handlers) (loop : Bool) (left : List Exit) (x : ExitLabels)
        → any_bits (rule_of_handlers scope loop left x handlers).expressions ≡ handlers_use_bits handlers
    handlers_bits-of NoMore loop left x = refl
    handlers_bits-of (Catch at handled body rest) loop left x =
        let untaken : List Exit = filter (λ exit. not (same_exit (Throw handled) exit)) left in
        let inner : Judgement = rule_of_block scope loop true (x (Throw handled)) body in
        list_any-append expression_uses_bits inner.expressions (rule_of_handlers scope loop untaken x rest).expressions
        ∙ rw (block_bits-of body loop true (x (Throw handled)), handlers_bits-of rest loop untaken x) refl

  -- ---- labels and demands
  block_whole-of : (block : Block) (loop reached : Bool) (pc : Join)
      → Alike (rule_of_block scope loop reached pc block).labels (block_rule scope pc block)
      → Alike (whole pc (rule_of_block scope loop reached pc block)).labels (block_exit_labels scope pc block)
  block_whole-of block loop reached pc same =
      whole-alike pc (rule_of_block scope loop reached pc block) (block_exits scope.program block) (block_rule scope pc block)
      (block_exits-of block loop reached pc) same

  mutual
    pub labels-of : (s : Statement) (loop reached : Bool) (pc : Join)
        → Alike (whole pc (rule_of scope loop reached pc s)).labels (statement_exit_labels scope pc s)
    labels-of (Placed at (Assign x e)) loop reached pc =
        let q : Join = pc ++ raise_label scope e in own-alike reached at (e ∷ []) (Normal ∷ thrown_exits (raises e)) pc q []
    labels-of (Placed at (Clear slot)) loop reached pc = own-alike reached at [] (Normal ∷ []) pc pc []
    labels-of (Placed at (Store array count index e)) loop reached pc = own-alike reached at [] (statement_exits scope.program (Placed at (Store array count index e))) pc _ []
    labels-of (Placed at (Receive channel target)) loop reached pc = own-alike reached at [] (statement_exits scope.program (Placed at (Receive channel target))) pc _ []
    labels-of (Placed at (Send channel e)) loop reached pc =
        let q : Join = pc ++ raise_label scope e in own-alike reached at (e ∷ []) (Normal ∷ thrown_exits (raises e)) pc q []
    labels-of (Placed at (Call procedure arguments target)) loop reached pc = λ exit. refl
    labels-of (Placed at (If e then_block else_block)) loop reached pc =
        let branch : Join = pc ++ raise_label scope e ++ value_label scope e in
        let s : Statement = Placed at (If e then_block else_block) in
        whole-alike pc (rule_of scope loop reached pc s) (statement_exits scope.program s) _ (exits-of s loop reached pc)
        (λ exit. rw (
          block_whole-of then_block loop true branch (block_labels-of then_block loop true branch) exit,
          block_whole-of else_block loop true branch (block_labels-of else_block loop true branch) exit,
        ) refl)
    labels-of (Placed at (While l e body)) loop reached pc =
        let q : Join = one (label_of scope.program (ToLoop scope.number l)) ++ raise_label scope e in
        let b : Join = q ++ value_label scope e in
        let s : Statement = Placed at (While l e body) in
        let inner : Alike (whole b (rule_of_block scope true true b body)).labels (block_exit_labels scope b body) =
        block_whole-of body true true b (block_labels-of body true true b) in
        whole-alike pc (rule_of scope loop reached pc s) (statement_exits scope.program s) _ (exits-of s loop reached pc)
        (λ exit. rw (inner exit, inner Break) (loop-alike (raises e) q (b ++ block_exit_labels scope b body Break) (block_exit_labels scope b body) exit))
    labels-of (Placed at (Leave exit)) loop reached pc = own-alike reached at [] (exit ∷ []) pc pc []
    labels-of (Placed at (ReturnWith None)) loop reached pc = own-alike reached at [] (Return ∷ []) pc pc []
    labels-of (Placed at (ReturnWith (Some e))) loop reached pc =
        let q : Join = pc ++ raise_label scope e in own-alike reached at (e ∷ []) (Return ∷ thrown_exits (raises e)) pc q []
    labels-of (Placed at (Try block handlers)) loop reached pc =
        let s : Statement = Placed at (Try block handlers) in
        let block_whole : Judgement = whole pc (rule_of_block scope loop true pc block) in
        let inner : Alike block_whole.labels (block_exit_labels scope pc block) =
        block_whole-of block loop true pc (block_labels-of block loop true pc) in
        whole-alike pc (rule_of scope loop reached pc s) (statement_exits scope.program s) _ (exits-of s loop reached pc)
        (λ exit. rw (
          stays-passes handlers exit,
          inner exit,
          handlers_labels-of handlers loop block_whole.exits block_whole.labels (block_exit_labels scope pc block) inner exit,
        ) refl)
    labels-of (Placed at (Nested block)) loop reached pc =
        let s : Statement = Placed at (Nested block) in
        whole-alike pc (rule_of scope loop reached pc s) (statement_exits scope.program s) (block_exit_labels scope pc block) (exits-of s loop reached pc)
        (block_whole-of block loop true pc (block_labels-of block loop true pc))

    block_labels-of : (block : Block) (loop reached : Bool) (pc : Join)
        → Alike (rule_of_block scope loop reached pc block).labels (block_rule scope pc block)
    block_labels-of Empty loop reached pc Normal = refl
    block_labels-of Empty loop reached pc Return = refl
    block_labels-of Empty loop reached pc Break = refl
    block_labels-of Empty loop reached pc Continue = refl
    block_labels-of Empty loop reached pc (Throw x) = refl
    block_labels-of (Then s rest) loop reached pc exit =
        let first : Judgement = whole pc (rule_of scope loop reached pc s) in
        let later : Judgement = rule_of_block scope loop (has_exit first.exits Normal) (first.labels Normal) rest in
        let x : ExitLabels = statement_exit_labels scope pc s in
        both (list_if (not (has_exit (Normal ∷ []) exit)) (first.labels exit)) (list_if (not (same_exit Normal exit)) (x exit))
        (later.labels exit) (block_rule scope (x Normal) rest exit)
        (rw (stays-normal exit, labels-of s loop reached pc exit) refl)
        (block_labels-of rest loop (has_exit first.exits Normal) (first.labels Normal) exit
        ∙ ap (λ label. block_rule scope label rest exit) (labels-of s loop reached pc Normal))

    handlers_labels-of : (handlers : Handlers) (loop : Bool) (left : List Exit) (x y : ExitLabels) → Alike x y
        → Alike (rule_of_handlers scope loop left x handlers).labels (handlers_rule scope y handlers)
    handlers_labels-of NoMore loop left x y same exit = refl
    handlers_labels-of (Catch at handled body rest) loop left x y same exit =
        let pc : Join = x (Throw handled) in
        let untaken : List Exit = filter (λ exit. not (same_exit (Throw handled) exit)) left in
        both ((whole pc (rule_of_block scope loop true pc body)).labels exit) (block_exit_labels scope (y (Throw handled)) body exit)
        ((rule_of_handlers scope loop untaken x rest).labels exit) (handlers_rule scope y rest exit)
        (block_whole-of body loop true pc (block_labels-of body loop true pc) exit
        ∙ ap (λ label. block_exit_labels scope label body exit) (same (Throw handled)))
        (handlers_labels-of rest loop untaken x y same exit)

  inner_labels-of : (block : Block) (loop : Bool) (pc : Join)
      → Alike (whole pc (rule_of_block scope loop true pc block)).labels (block_exit_labels scope pc block)
  inner_labels-of block loop pc = block_whole-of block loop true pc (block_labels-of block loop true pc)

  mutual
    pub demands-of : (s : Statement) (loop reached : Bool) (pc : Join)
        → (rule_of scope loop reached pc s).demands ≡ statement_demands scope pc s
    demands-of (Placed at (Assign x e)) loop reached pc = refl
    demands-of (Placed at (Clear slot)) loop reached pc = refl
    demands-of (Placed at (Store array count index e)) loop reached pc = refl
    demands-of (Placed at (Receive channel target)) loop reached pc = refl
    demands-of (Placed at (Send channel e)) loop reached pc = refl
    demands-of (Placed at (Call procedure arguments target)) loop reached pc =
        rw (arguments-of at (pc ++ flat_map (raise_label scope) arguments) procedure 0 arguments) refl
    demands-of (Placed at (If e then_block else_block)) loop reached pc =
        let branch : Join = pc ++ raise_label scope e ++ value_label scope e in
        rw (block_demands-of then_block loop true branch, block_demands-of else_block loop true branch) refl
    demands-of (Placed at (While l e body)) loop reached pc =
        let b : Join = one (label_of scope.program (ToLoop scope.number l)) ++ raise_label scope e ++ value_label scope e in
        rw (block_demands-of body true true b, inner_labels-of body true b Normal, inner_labels-of body true b Continue) refl
    demands-of (Placed at (Leave exit)) loop reached pc = refl
    demands-of (Placed at (ReturnWith None)) loop reached pc = refl
    demands-of (Placed at (ReturnWith (Some e))) loop reached pc = refl
    demands-of (Placed at (Try block handlers)) loop reached pc =
        let inner : Judgement = whole pc (rule_of_block scope loop true pc block) in
        both inner.demands (block_demands scope pc block) (rule_of_handlers scope loop inner.exits inner.labels handlers).demands
        (handlers_demands scope (block_exit_labels scope pc block) handlers) (block_demands-of block loop true pc)
        (handlers_demands-of handlers loop inner.exits inner.labels (block_exit_labels scope pc block) (inner_labels-of block loop pc))
    demands-of (Placed at (Nested block)) loop reached pc = block_demands-of block loop true pc

    block_demands-of : (block : Block) (loop reached : Bool) (pc : Join)
        → (rule_of_block scope loop reached pc block).demands ≡ block_demands scope pc block
    block_demands-of Empty loop reached pc = refl
    block_demands-of (Then s rest) loop reached pc =
        let first : Judgement = whole pc (rule_of scope loop reached pc s) in
        let later : Judgement = rule_of_block scope loop (has_exit first.exits Normal) (first.labels Normal) rest in
        both first.demands (statement_demands scope pc s) later.demands (block_demands scope (statement_exit_labels scope pc s Normal) rest)
        (demands-of s loop reached pc)
        (block_demands-of rest loop (has_exit first.exits Normal) (first.labels Normal)
        ∙ ap (λ label. block_demands scope label rest) (labels-of s loop reached pc Normal))

    handlers_demands-of : (handlers : Handlers) (loop : Bool) (left : List Exit) (x y : ExitLabels) → Alike x y
        → (rule_of_handlers scope loop left x handlers).demands ≡ handlers_demands scope y handlers
    handlers_demands-of NoMore loop left x y same = refl
    handlers_demands-of (Catch at handled body rest) loop left x y same =
        let pc : Join = x (Throw handled) in
        let untaken : List Exit = filter (λ exit. not (same_exit (Throw handled) exit)) left in
        both (rule_of_block scope loop true pc body).demands (block_demands scope (y (Throw handled)) body)
        (rule_of_handlers scope loop untaken x rest).demands (handlers_demands scope y rest)
        (block_demands-of body loop true pc ∙ ap (λ label. block_demands scope label body) (same (Throw handled)))
        (handlers_demands-of rest loop untaken x y same)

  -- ---- procedures
  thrown-alike : (x y : ExitLabels) → Alike x y → (throws : List ThrownEntry) →
      flat_map (λ exception. demand scope.program (here scope).at 13 (x (Throw exception)) (ToThrown scope.number exception)) (declared_by throws)
      ≡ flat_map (λ (entry : ThrownEntry). demand scope.program (here scope).at 13 (y (Throw entry.exception)) (ToThrown scope.number entry.exception)) throws
  thrown-alike x y same [] = refl
  thrown-alike x y same (entry ∷ rest) = rw (same (Throw entry.exception), thrown-alike x y same rest) refl

  -- the demands on the exits of a procedure, as the judgement lists them
  abbrev at_ends : List Exit → ExitLabels → List Demand
  at_ends exits x =
      if one_exit (map (λ exit. if same_exit Return exit then Normal else exit) exits) then []
      else (demand scope.program (here scope).at 13 (x Normal ++ x Return) (ToEnd scope.number)
      ++ flat_map (λ exception. demand scope.program (here scope).at 13 (x (Throw exception)) (ToThrown scope.number exception))
      (declared_by (here scope).throws))

  exit_demands-alike : (ends exits : List Exit) (x y : ExitLabels) → ends ≡ exits → Alike x y → at_ends ends x ≡ exit_demands scope exits y
  exit_demands-alike ends exits x y e same =
      rw (e, same Normal, same Return, thrown-alike x y same (here scope).throws) refl

  abbrev begin : Join
  begin = one (label_of scope.program (ToBegin scope.number))

  procedure_demands-of : (procedure_judgement scope).demands ≡ procedure_demands scope
  procedure_demands-of =
      let body : Block = (here scope).body in
      let inner : Judgement = whole begin (rule_of_block scope false true begin body) in
      both inner.demands (block_demands scope begin body) (at_ends inner.exits inner.labels)
      (exit_demands scope (block_exits scope.program body) (block_exit_labels scope begin body))
      (block_demands-of body false true begin)
      (exit_demands-alike inner.exits (block_exits scope.program body) inner.labels (block_exit_labels scope begin body)
      (block_exits-of body false true begin) (inner_labels-of body false begin))

  procedure_bits-of : any_bits (procedure_judgement scope).expressions ≡ block_uses_bits (here scope).body
  procedure_bits-of = block_bits-of (here scope).body false true begin

  procedure_faults-of : (procedure_judgement scope).faults ≡ procedure_faults scope.program (here scope)
  procedure_faults-of =
      rw (block_faults-of (here scope).body false true begin, block_exits-of (here scope).body false true begin) refl

-- ---- programs

-- what is judged of a program's procedures one after the other, after what was judged before, is what is judged of them from the first on
module _ (program : Program) where
  abbrev judged : Judgement → ℕ → List ProcedureEntry → Judgement
  judged before f procedures =
      fold (λ before (number, _). before & procedure_judgement (record { program = program; number = number })) before (enumerate_from f procedures)

  judged-one : {A : Type 0} (part : Judgement → List A) → ((first second : Judgement) → part (first & second) ≡ part first ++ part second) → part (ending [] []) ≡ []
      → (before : Judgement) (f : ℕ) (procedures : List ProcedureEntry) → part (judged before f procedures) ≡ part before ++ part (judgement_from program f procedures)
  judged-one part both none before f [] = sym (append-nil (part before)) ∙ ap (λ list. part before ++ list) (sym none)
  judged-one part both none before f (procedure ∷ rest) =
      let own : Judgement = procedure_judgement (record { program = program; number = f }) in
      judged-one part both none (before & own) (f + 1) rest
      ∙ rw (both before own, both own (judgement_from program (suc f) rest), add-one f) (append_assoc (part before) (part own) (part (judgement_from program (suc f) rest)))

  whole-is : {A : Type 0} (part : Judgement → List A) → ((first second : Judgement) → part (first & second) ≡ part first ++ part second) → part (ending [] []) ≡ []
      → part (program_judgement program) ≡ part (judgement_from program 0 program.procedures)
  whole-is part both none = judged-one part both none (ending [] []) 0 program.procedures ∙ rw none refl

demands-from : (program : Program) (f : ℕ) (procedures : List ProcedureEntry)
    → (judgement_from program f procedures).demands ≡ demands_from program f procedures
demands-from program f [] = refl
demands-from program f (procedure ∷ rest) =
    let scope : Scope = record { program = program; number = f } in
    rw (procedure_demands-of scope, demands-from program (suc f) rest) refl

pub demands-apart : (program : Program) → program_demands program ≡ demands_from program 0 program.procedures
demands-apart program = whole-is program (λ (j : Judgement). j.demands) (λ first second. refl) refl ∙ demands-from program 0 program.procedures

there : (before : List ProcedureEntry) (procedure : ProcedureEntry) (rest : List ProcedureEntry) (none : ProcedureEntry)
    → slice_index_or (before ++ procedure ∷ rest) (length before) none ≡ procedure
there [] procedure rest none = refl
there (first ∷ before) procedure rest none = there before procedure rest none

faults-from : (program : Program) (f : ℕ) (before procedures : List ProcedureEntry) → f ≡ length before → program.procedures ≡ (before ++ procedures)
    → (judgement_from program f procedures).faults ≡ flat_map (procedure_faults program) procedures
faults-from program f before [] e all = refl
faults-from program f before (procedure ∷ rest) e all =
    let scope : Scope = record { program = program; number = f } in
    let own_is : procedure_at program f ≡ procedure = rw (all, e) (there before procedure rest _) in
    let past : suc f ≡ length (before ++ procedure ∷ []) = rw e (sym (add-one (length before)) ∙ sym (length-append before (procedure ∷ []))) in
    both (procedure_judgement scope).faults (procedure_faults program procedure) (judgement_from program (suc f) rest).faults
    (flat_map (procedure_faults program) rest)
    (procedure_faults-of scope ∙ ap (procedure_faults program) own_is)
    (faults-from program (suc f) (before ++ procedure ∷ []) rest past (all ∙ sym (append_assoc before (procedure ∷ []) rest)))

pub faults-apart : (program : Program) → exit_faults program ≡ flat_map (procedure_faults program) program.procedures
faults-apart program =
    whole-is program (λ (j : Judgement). j.faults) (λ first second. refl) refl ∙ faults-from program 0 [] program.procedures refl refl

bits-from : (program : Program) (f : ℕ) (before procedures : List ProcedureEntry) → f ≡ length before → program.procedures ≡ (before ++ procedures)
    → list_any expression_uses_bits (judgement_from program f procedures).expressions ≡ procedures_use_bits procedures
bits-from program f before [] e all = refl
bits-from program f before (procedure ∷ rest) e all =
    let scope : Scope = record { program = program; number = f } in
    let own_is : procedure_at program f ≡ procedure = rw (all, e) (there before procedure rest _) in
    let past : suc f ≡ length (before ++ procedure ∷ []) = rw e (sym (add-one (length before)) ∙ sym (length-append before (procedure ∷ []))) in
    list_any-append expression_uses_bits (procedure_judgement scope).expressions (judgement_from program (suc f) rest).expressions
    ∙ rw (
      procedure_bits-of scope ∙ ap (λ (entry : ProcedureEntry). block_uses_bits entry.body) own_is,
      bits-from program (suc f) (before ++ procedure ∷ []) rest past (all ∙ sym (append_assoc before (procedure ∷ []) rest)),
    ) refl

pub bits-apart : (program : Program) → uses_bits program ≡ procedures_use_bits program.procedures
bits-apart program =
    ap (list_any expression_uses_bits) (whole-is program (λ (j : Judgement). j.expressions) (λ first second. refl) refl)
    ∙ bits-from program 0 [] program.procedures refl refl
