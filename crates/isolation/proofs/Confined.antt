-- Confinement: where an observer does not read the label at which a labelled statement has evaluated its own expressions, nothing
-- of its run is seen, and it ends at labels that the observer does not read.
use Rattle.std.proofs.Common.{arith, ◌≡◌, refl, sym, ap, ◌∙◌, ℕ, Bool, true, false, not, List, [], ◌∷◌, ◌++◌, ℤ}
use Rattle.std.specs.Prelude.{Option, Some, None, if◌then◌else◌, ◌==◌, IsTrue, flat_map}
use Rattle.std.specs.List.{list_all}
use Rattle.std.proofs.lemmas.Bool.{and_parts}
use Rattle.std.proofs.lemmas.List.Folds.{list_all-append}
use Rattle.principals.specs.ActsFor.{PrincipalHierarchy}
use Rattle.labels.specs.Label.{flows}
use Rattle.resolved.specs.declared.expression.Variable.{Variable}
use Rattle.resolved.specs.declared.expression.Variable.TheVariants.{Local}
use Rattle.common.specs.declared.value.Value.{Value}
use Rattle.common.specs.declared.value.Value.TheVariants.{Int as Number}
use Rattle.resolved.specs.declared.statement.Exit.{Exit}
use Rattle.resolved.specs.declared.statement.Exit.TheVariants.{Normal, Return, Break, Continue, Throw}
use Rattle.resolved.specs.Tree.{Expression, Statement, Placed, Assign, Clear, Store, Receive, Send, Call, If, While, Leave, ReturnWith, Try, Nested, Block, Empty, Then, Handlers, NoMore, Catch}
use Rattle.resolved.specs.Program.{Program, ProcedureEntry, procedure_at}
use Rattle.common.specs.Values.{truth_in}
use Rattle.resolved.specs.Value.{Raises, checked_index}
use Rattle.resolved.specs.SourceState.{SourceState, assigned, stored, cleared, value_of, values_of}
use Rattle.resolved.specs.Meaning.{Stop, Outcome, Ended, Stopped, normally, after, caught, given_to, received, sending, returned_to, Calls, statement_meaning, block_meaning, handlers_meaning, state_after}
use Rattle.resolved.specs.Exits.{same_exit, has_exit, raises, thrown_exits, leaves_loop, handles, passes, statement_exits, block_exits, index_can_raise, list_if}
use Rattle.resolved.specs.declared.target.Target.{Target}
use Rattle.resolved.specs.declared.target.Target.TheVariants.{ToEnd, ToThrown, ToValue, ToVariable, ToChannel, ToBegin, ToValue, ToLoop}
use Rattle.resolved.specs.Labelled.{Scope, ExitLabels, Demand, demand, join_under, label_under, FitsDemands, variable_label, channel_label, result_label, value_label, raise_label, call_exit_labels, any_of, target_demand, argument_demands, Labelling, Join, one, label_of, here, LabelAtom}
use Rattle.resolved.specs.LabelRules.{at_exits, raised_exit_labels, loop_exit_labels, statement_rule, block_rule, handlers_rule, block_exit_labels, statement_demands, block_demands, handlers_demands}
use Rattle.isolation.proofs.OwnLabel.{own_label}
use Rattle.lattices.specs.Constraints.{holds}
use Rattle.labels.specs.LabelLattice.{label_lattice}
use Rattle.isolation.proofs.Among.{CallsAmong, expression-raises, thrown-among, statement-among, block-among}
use Rattle.isolation.proofs.Observer.{Reader, View, view_of, AgreeFor, agree-itself, agree-through, agree-unread, agree-unread_input, agree-unread_sending, with_input, unread-left, unread-right, unread-flowing}
use Rattle.isolation.proofs.Unseen.{hidden_exit, hidden_return, Unseen, LoopExitLabels, unseen-weaker, unseen-from, unseen-end, unseen-stop, unseen-evaluated, unseen-if, unseen-after, unseen-fuel, unseen-caught}
use Rattle.isolation.proofs.Closed.{read_exits, unseen-closed}
use Rattle.common.specs.declared.exceptions.TheConstants.{END}

-- demands that hold hold in both parts of their list
pub fits-left : (h : PrincipalHierarchy) (labelling : Labelling) (xs ys : List Demand) → FitsDemands h labelling (xs ++ ys) → FitsDemands h labelling xs
fits-left h labelling xs ys fits =
    (and_parts (list_all (λ (d : Demand). holds (label_lattice h) labelling d) xs) (list_all (λ (d : Demand). holds (label_lattice h) labelling d) ys)
    (sym (list_all-append (λ (d : Demand). holds (label_lattice h) labelling d) xs ys) ∙ fits)).0

pub fits-right : (h : PrincipalHierarchy) (labelling : Labelling) (xs ys : List Demand) → FitsDemands h labelling (xs ++ ys) → FitsDemands h labelling ys
fits-right h labelling xs ys fits =
    (and_parts (list_all (λ (d : Demand). holds (label_lattice h) labelling d) xs) (list_all (λ (d : Demand). holds (label_lattice h) labelling d) ys)
    (sym (list_all-append (λ (d : Demand). holds (label_lattice h) labelling d) xs ys) ∙ fits)).1

pub fits-one : (h : PrincipalHierarchy) (labelling : Labelling) (program : Program) (at rule : ℕ) (left : Join) (target : Target) →
    FitsDemands h labelling (demand program at rule left target) →
    IsTrue (flows h (join_under labelling left) (label_under labelling (label_of program target)))
fits-one h labelling program at rule left target fits =
    (and_parts (flows h (join_under labelling left) (label_under labelling (label_of program target))) true fits).0

-- what an observer does not read flows only to what it does not read
pub unread-demand : {h : PrincipalHierarchy} {labelling : Labelling} (reader : Reader h labelling) (program : Program) (at rule : ℕ) (left : Join) (target : Target) →
    FitsDemands h labelling (demand program at rule left target) → reader.reads left ≡ false → reader.reads (one (label_of program target)) ≡ false
unread-demand {h} {labelling} reader program at rule left target fits unread =
    unread-flowing reader left (label_of program target) (fits-one h labelling program at rule left target fits) unread

-- a label under a test that holds
pub unread-list_if : {h : PrincipalHierarchy} {labelling : Labelling} (reader : Reader h labelling) (test : Bool) (label : Join) → test ≡ true →
    reader.reads label ≡ false → reader.reads (list_if test label) ≡ false
unread-list_if reader test label e unread = rw e unread

-- what is raised is raised at q
pub unread-raised : {h : PrincipalHierarchy} {labelling : Labelling} (reader : Reader h labelling) (s : SourceState) (e : Expression) (q : Join) (x : ℕ) →
    value_of s e ≡ Raises x → reader.reads q ≡ false → reader.reads (raised_exit_labels e q (Throw x)) ≡ false
unread-raised reader s e q x f unread =
    unread-list_if reader (has_exit (thrown_exits (raises e)) (Throw x)) q (thrown-among (raises e) x ((expression-raises s e).among x f)) unread

-- whether an observer reads the value of a procedure
abbrev pub reads_result : {h : PrincipalHierarchy} {labelling : Labelling} → Reader h labelling → ProcedureEntry → Bool
reads_result reader procedure = reader.label (result_label procedure.result)

-- A call ends normally, perhaps with a value, or by an exception; of one of which the observer does not read the label of the end,
-- no value is seen
pub data HiddenCall (value : Bool) (exits : Exit → Bool) : Outcome → Type 0 where
  call_exit : (r : Option Value) (t : SourceState) → exits Normal ≡ false → (value ≡ true → r ≡ None) →
      HiddenCall value exits (Ended Normal r t)
  call_thrown : (x : ℕ) (t : SourceState) → exits (Throw x) ≡ false → HiddenCall value exits (Ended (Throw x) None t)
  call_stop : (stop : Stop) (t : SourceState) → HiddenCall value exits (Stopped stop t)

pub record UnseenCall (view : View) (value : Bool) (exits : Exit → Bool) (s : SourceState) (o : Outcome) : Type 0 where
  pub agree : AgreeFor view s (state_after o)
  pub hidden : HiddenCall value exits o

-- nothing is read
abbrev pub unread_exits : Exit → Bool
unread_exits exit = false

-- what the calls of a program do: they end as declared, and at a begin label that the observer does not read nothing is seen
pub record Confines {h : PrincipalHierarchy} {labelling : Labelling} (reader : Reader h labelling) (scope : Scope) (calls : Calls) : Type 0 where
  pub among : CallsAmong scope.program calls
  pub unseen : (f : ℕ) (vs : List Value) (s : SourceState) → reader.reads (one (label_of scope.program (ToBegin f))) ≡ false →
      UnseenCall (view_of reader scope) (reads_result reader (procedure_at scope.program f)) unread_exits s (calls f vs s)

-- the value of such a call goes to a target that the observer does not read
pub unseen-returned_to : (view : View) (result value : Bool) (exits more : Exit → Bool) (target : Option Variable) (o : Outcome) →
    HiddenCall result exits o → ((exit : Exit) → exits exit ≡ false → more exit ≡ false) →
    (exits Normal ≡ false → (x : Variable) → target ≡ Some x → view.variable x ≡ false) →
    Unseen view value more (state_after o) (returned_to target o)
unseen-returned_to view result value exits more None o (call_exit r t m none) weaker unread = unseen-end view value more t Normal (weaker Normal m)
unseen-returned_to view result value exits more None o (call_thrown x t m) weaker unread = unseen-end view value more t (Throw x) (weaker (Throw x) m)
unseen-returned_to view result value exits more None o (call_stop stop t) weaker unread = unseen-stop view value more t stop
unseen-returned_to view result value exits more (Some x) o (call_exit None t m none) weaker unread = unseen-end view value more t Normal (weaker Normal m)
unseen-returned_to view result value exits more (Some x) o (call_exit (Some v) t m none) weaker unread =
    record { agree = agree-unread view t x (v ∷ []) (unread m x refl); hidden = hidden_exit Normal (assigned t x v) (weaker Normal m) }
unseen-returned_to view result value exits more (Some x) o (call_thrown y t m) weaker unread = unseen-end view value more t (Throw y) (weaker (Throw y) m)
unseen-returned_to view result value exits more (Some x) o (call_stop stop t) weaker unread = unseen-stop view value more t stop

-- a target that is demanded to be above an unread label is not read
pub unread-target : {h : PrincipalHierarchy} {labelling : Labelling} (reader : Reader h labelling) (scope : Scope) (at rule : ℕ) (left : Join) (target : Option Variable) →
    FitsDemands h labelling (target_demand scope at rule left target) → reader.reads left ≡ false → (x : Variable) → target ≡ Some x →
    reader.reads (variable_label scope x) ≡ false
unread-target reader scope at rule left None fits unread x e = absurd (cc)
unread-target reader scope at rule left (Some y) fits unread x e =
    let same : y ≡ x = cc in rw (← same) (unread-demand reader scope.program at rule left (ToVariable scope.number y) fits unread)

unseen-given_to : (view : View) (target : Option Variable) (v : Value) (s : SourceState) →
    ((x : Variable) → target ≡ Some x → view.variable x ≡ false) → AgreeFor view s (given_to target (Some v) s)
unseen-given_to view None v s unread = agree-itself view s
unseen-given_to view (Some x) v s unread = agree-unread view s x (v ∷ []) (unread x refl)

unseen-received : (view : View) (value : Bool) (exits : Exit →
    Bool) (channel : ℕ) (target : Option Variable) (s : SourceState) (numbers : List ℤ) → ((exit : Exit) → exits exit ≡ false) →
    view.channel channel ≡ false → ((x : Variable) → target ≡ Some x → view.variable x ≡ false) →
    Unseen view value exits s (received numbers channel target s)
unseen-received view value exits channel target s [] unread unread_channel unread_target = unseen-end view value exits s (Throw END)
    (unread (Throw END))
unseen-received view value exits channel target s (z ∷ rest) unread unread_channel unread_target =
    record {
      agree = agree-through view s (with_input s channel rest) (given_to target (Some (Number z)) (with_input s channel rest))
          (agree-unread_input view s channel rest unread_channel)
          (unseen-given_to view target (Number z) (with_input s channel rest) unread_target);
      hidden = hidden_exit Normal (given_to target (Some (Number z)) (with_input s channel rest)) (unread Normal);
    }

-- a label that is above one which, joined with it, is not read
unread-above : {h : PrincipalHierarchy} {labelling : Labelling} (reader : Reader h labelling) (a : Join) (b : LabelAtom) →
    IsTrue (flows h (join_under labelling a) (label_under labelling b)) → reader.reads (a ++ one b) ≡ false →
    reader.reads (one b) ≡ false
unread-above reader a b flow unread = go (reader.reads (one b)) refl
  where
    go : (x : Bool) → reader.reads (one b) ≡ x → reader.reads (one b) ≡ false
    go false e = e
    go true e =
        let both : reader.reads (a ++ one b) ≡ true = reader.joined a (one b) ∙ rw (reader.flowing a b flow e, e) refl in
        let i : true ≡ false = sym both ∙ unread in absurd (cc)

-- where the program-counter label of a statement is not read, neither is its own
pub own-unread : {h : PrincipalHierarchy} {labelling : Labelling} (reader : Reader h labelling) (scope : Scope) (pc : Join) (statement : Statement) →
    FitsDemands h labelling (statement_demands scope pc statement) → reader.reads pc ≡ false → reader.reads (own_label scope pc statement) ≡ false
own-unread reader scope pc (Placed at (Assign x e)) fits unread = unread-left reader pc (raise_label scope e) unread
own-unread reader scope pc (Placed at (Clear slot)) fits unread = unread
own-unread reader scope pc (Placed at (Store array len index e)) fits unread =
    unread-left reader (pc ++ raise_label scope index ++ raise_label scope e) (list_if (index_can_raise index len) (value_label scope index))
    (unread-left reader (pc ++ raise_label scope index) (raise_label scope e) (unread-left reader pc (raise_label scope index) unread))
own-unread reader scope pc (Placed at (Receive channel target)) fits unread = unread-left reader pc (one (label_of scope.program (ToChannel channel))) unread
own-unread reader scope pc (Placed at (Send channel e)) fits unread = unread-left reader pc (raise_label scope e) unread
own-unread reader scope pc (Placed at (Call f arguments target)) fits unread = unread-left reader pc (flat_map (raise_label scope) arguments) unread
own-unread reader scope pc (Placed at (If e then_block else_block)) fits unread = unread-left reader pc (raise_label scope e) unread
own-unread {h} {labelling} reader scope pc (Placed at (While loop e body)) fits unread =
    let l : Join = one (label_of scope.program (ToLoop scope.number loop)) in
    let b : Join = own_label scope pc (Placed at (While loop e body)) ++ value_label scope e in
    let x : ExitLabels = block_exit_labels scope b body in
    unread-left reader l (raise_label scope e)
    (unread-demand reader scope.program at 8 pc (ToLoop scope.number loop) (fits-left h labelling (demand scope.program at 8 pc (ToLoop scope.number loop)) (block_demands scope b body)
    (fits-left h labelling (demand scope.program at 8 pc (ToLoop scope.number loop) ++ block_demands scope b body) (demand scope.program at 8 (x Normal ++ x Continue) (ToLoop scope.number loop)) fits)) unread)
own-unread reader scope pc (Placed at (Leave exit)) fits unread = unread
own-unread reader scope pc (Placed at (ReturnWith None)) fits unread = unread
own-unread reader scope pc (Placed at (ReturnWith (Some e))) fits unread = unread-left reader pc (raise_label scope e) unread
own-unread reader scope pc (Placed at (Try block handlers)) fits unread = unread
own-unread reader scope pc (Placed at (Nested block)) fits unread = unread

-- the exits of a loop by those of its body
pub loop-read : {h : PrincipalHierarchy} {labelling : Labelling} (reader : Reader h labelling) (raised : ExitLabels) (b : Join) (x : ExitLabels) →
    LoopExitLabels (read_exits reader x) (λ exit. reader.reads (raised exit ++ loop_exit_labels b x exit))
loop-read reader raised b x = record {
  leaving = leaving;
  broken = λ m. unread-right reader (raised Normal) (b ++ x Break) (unread-right reader b (x Break) m);
}
  where
    leaving : (exit : Exit) → leaves_loop exit ≡ true → reader.reads (x exit) ≡ false →
        reader.reads (raised exit ++ loop_exit_labels b x exit) ≡ false
    leaving Normal e m = let i : true ≡ false = sym e in absurd (cc)
    leaving Return e m = unread-right reader (raised Return) (x Return) m
    leaving Break e m = let i : true ≡ false = sym e in absurd (cc)
    leaving Continue e m = let i : true ≡ false = sym e in absurd (cc)
    leaving (Throw y) e m = unread-right reader (raised (Throw y)) (x (Throw y)) m

-- one handler and those after it
unseen-handler : (view : View) (value : Bool) (more : Exit → Bool) (exception handled : ℕ) (s : SourceState) (x y : Outcome) →
    (exception ≡ handled → Unseen view value more s x) → ((exception == handled) ≡ false → Unseen view value more s y) →
    Unseen view value more s (if exception == handled then x else y)
unseen-handler view value more exception handled s x y h i = go (exception == handled) refl
  where
    go : (b : Bool) → (exception == handled) ≡ b → Unseen view value more s (if exception == handled then x else y)
    go true e = let same : exception ≡ handled = grind (arith, e) in rw e (h same)
    go false e = rw e (i e)

-- each exit of a call is above q
pub unread-call : {h : PrincipalHierarchy} {labelling : Labelling} (reader : Reader h labelling) (program : Program) (f : ℕ) (q : Join) → reader.reads q ≡ false →
    (exit : Exit) → reader.reads (call_exit_labels program f q exit) ≡ false
unread-call reader program f q unread Normal =
    unread-left reader q (list_if (any_of (procedure_at program f).throws) (one (label_of program (ToEnd f)))) unread
unread-call reader program f q unread Return = unread
unread-call reader program f q unread Break = unread
unread-call reader program f q unread Continue = unread
unread-call reader program f q unread (Throw x) = unread-left reader q (one (label_of program (ToThrown f x))) unread

module _ (h : PrincipalHierarchy) (labelling : Labelling) (reader : Reader h labelling) (scope : Scope) (calls : Calls) (k : ℕ) (confines : Confines reader scope calls) where
  mutual
    pub statement-unseen : (statement : Statement) (pc : Join) → FitsDemands h labelling (statement_demands scope pc statement) →
        reader.reads (own_label scope pc statement) ≡ false → (s : SourceState) →
        Unseen (view_of reader scope) (reads_result reader (here scope)) (read_exits reader (statement_rule scope pc statement)) s
        (statement_meaning calls k statement s)
    statement-unseen (Placed at (Assign x e)) pc fits unread s =
        let view = view_of reader scope in
        let value = reads_result reader (here scope) in
        let q = own_label scope pc (Placed at (Assign x e)) in
        let exits = read_exits reader (statement_rule scope pc (Placed at (Assign x e))) in
        let unread_x : reader.reads (variable_label scope x) ≡ false = unread-demand reader scope.program at 1 (q ++ value_label scope e)
        (ToVariable scope.number x) fits (unread-left reader q (value_label scope e) unread) in
        unseen-evaluated view value exits s (value_of s e) (λ v. normally (assigned s x v)) (λ y f. unread) (λ v f.
        record { agree = agree-unread view s x (v ∷ []) unread_x; hidden = hidden_exit Normal (assigned s x v) unread })
    statement-unseen (Placed at (Clear slot)) pc fits unread s =
        record {
          agree = agree-unread (view_of reader scope) s (Local slot) _ (unread-demand reader scope.program at 2 pc (ToVariable scope.number (Local slot)) fits unread);
          hidden = hidden_exit Normal (cleared s slot) unread;
        }
    statement-unseen (Placed at (Store array len index e)) pc fits unread s =
        let view = view_of reader scope in
        let value = reads_result reader (here scope) in
        let q = own_label scope pc (Placed at (Store array len index e)) in
        let exits = read_exits reader (statement_rule scope pc (Placed at (Store array len index e))) in
        let unread_array : reader.reads (variable_label scope array) ≡ false = unread-demand reader scope.program at 3
        (q ++ value_label scope index ++ value_label scope e) (ToVariable scope.number array) fits
        (unread-left reader (q ++ value_label scope index) (value_label scope e) (unread-left reader q (value_label scope index) unread)) in
        unseen-evaluated view value exits s (value_of s index) _ (λ y f. unread) (λ v f.
        unseen-evaluated view value exits s (value_of s e) _ (λ y g. unread) (λ w g.
        unseen-evaluated view value exits s (checked_index v len) (λ i. normally (stored s array i w)) (λ y g. unread) (λ i j.
        record { agree = agree-unread view s array _ unread_array; hidden = hidden_exit Normal (stored s array i w) unread })))
    statement-unseen (Placed at (Receive channel target)) pc fits unread s =
        let view = view_of reader scope in
        let value = reads_result reader (here scope) in
        let q = own_label scope pc (Placed at (Receive channel target)) in
        let exits = read_exits reader (statement_rule scope pc (Placed at (Receive channel target))) in
        unseen-received view value exits channel target s (s.inputs channel) (λ exit. unread)
        (sym (reader.written (channel_label scope.program channel)) ∙ unread-above reader pc (label_of scope.program (ToChannel channel)) (fits-one h labelling scope.program at 4 pc (ToChannel channel) (fits-left h labelling (demand scope.program at 4 pc (ToChannel channel)) (target_demand scope at 4 q target) fits)) unread)
        (unread-target reader scope at 4 q target (fits-right h labelling (demand scope.program at 4 pc (ToChannel channel)) (target_demand scope at 4 q target) fits) unread)
    statement-unseen (Placed at (Send channel e)) pc fits unread s =
        let view = view_of reader scope in
        let value = reads_result reader (here scope) in
        let q = own_label scope pc (Placed at (Send channel e)) in
        let exits = read_exits reader (statement_rule scope pc (Placed at (Send channel e))) in
        let unread_channel : reader.label (channel_label scope.program channel) ≡ false = sym (reader.written _) ∙ unread-demand reader scope.program at 5
        (q ++ value_label scope e) (ToChannel channel) fits (unread-left reader q (value_label scope e) unread) in
        unseen-evaluated view value exits s (value_of s e) (λ v. normally (sending channel v s)) (λ y f. unread) (λ v f.
        record { agree = agree-unread_sending view s channel v unread_channel; hidden = hidden_exit Normal (sending channel v s) unread })
    statement-unseen (Placed at (Call f arguments target)) pc fits unread s =
        let view = view_of reader scope in
        let value = reads_result reader (here scope) in
        let q = own_label scope pc (Placed at (Call f arguments target)) in
        let callee = procedure_at scope.program f in
        let exits = read_exits reader (statement_rule scope pc (Placed at (Call f arguments target))) in
        let ds = argument_demands scope at q f 0 arguments in
        let ts = target_demand scope at 6 (call_exit_labels scope.program f q Normal ++ one (label_of scope.program (ToValue f))) target in
        let front = fits-left h labelling (demand scope.program at 6 q (ToBegin f) ++ ds) ts fits in
        let unread_begin : reader.reads (one (label_of scope.program (ToBegin f))) ≡ false = unread-demand reader scope.program at 6 q (ToBegin f)
        (fits-left h labelling (demand scope.program at 6 q (ToBegin f)) ds front) unread in
        let each : (exit : Exit) → exits exit ≡ false = unread-call reader scope.program f q unread in
        unseen-evaluated view value exits s (values_of s arguments) (λ vs. returned_to target (calls f vs s)) (λ y g. each (Throw y)) (λ vs g.
        let call = confines.unseen f vs s unread_begin in
        unseen-from view value exits s (state_after (calls f vs s)) (returned_to target (calls f vs s)) call.agree
        (unseen-returned_to view (reads_result reader callee) value unread_exits exits target (calls f vs s) call.hidden (λ exit m. each exit)
        (λ m. unread-target reader scope at 6 (call_exit_labels scope.program f q Normal ++ one (label_of scope.program (ToValue f))) target
        (fits-right h labelling (demand scope.program at 6 q (ToBegin f) ++ ds) ts fits)
        (unread-left reader (call_exit_labels scope.program f q Normal) (one (label_of scope.program (ToValue f))) (each Normal)))))
    statement-unseen (Placed at (If e then_block else_block)) pc fits unread s =
        let view = view_of reader scope in
        let value = reads_result reader (here scope) in
        let q : Join = own_label scope pc (Placed at (If e then_block else_block)) in
        let b : Join = q ++ value_label scope e in
        let unread_b : reader.reads b ≡ false = unread-left reader q (value_label scope e) unread in
        let exits = read_exits reader (statement_rule scope pc (Placed at (If e then_block else_block))) in
        let yes_exits = block_exits scope.program then_block in
        let no_exits = block_exits scope.program else_block in
        let yes_exit_labels : ExitLabels = at_exits yes_exits b (block_rule scope b then_block) in
        let no_exit_labels : ExitLabels = at_exits no_exits b (block_rule scope b else_block) in
        unseen-evaluated view value exits s (value_of s e)
        (λ v. if truth_in v then block_meaning calls k then_block s else block_meaning calls k else_block s)
        (λ y f. unread-left reader (raised_exit_labels e q (Throw y) ++ yes_exit_labels (Throw y)) (no_exit_labels (Throw y))
        (unread-left reader (raised_exit_labels e q (Throw y)) (yes_exit_labels (Throw y)) (unread-raised reader s e q y f unread))) (λ v f.
        unseen-if view value exits s (truth_in v) (block_meaning calls k then_block s) (block_meaning calls k else_block s)
        (unseen-weaker view value (read_exits reader yes_exit_labels) exits s (block_meaning calls k then_block s)
        (unseen-closed reader view value yes_exits b (block_rule scope b then_block) s (block_meaning calls k then_block s) unread_b
        (block-among then_block scope.program calls k confines.among s)
        (block-unseen then_block b (fits-left h labelling (block_demands scope b then_block) (block_demands scope b else_block) fits) unread_b s))
        (λ exit m. unread-left reader (raised_exit_labels e q exit ++ yes_exit_labels exit) (no_exit_labels exit)
        (unread-right reader (raised_exit_labels e q exit) (yes_exit_labels exit) m)))
        (unseen-weaker view value (read_exits reader no_exit_labels) exits s (block_meaning calls k else_block s)
        (unseen-closed reader view value no_exits b (block_rule scope b else_block) s (block_meaning calls k else_block s) unread_b
        (block-among else_block scope.program calls k confines.among s)
        (block-unseen else_block b (fits-right h labelling (block_demands scope b then_block) (block_demands scope b else_block) fits) unread_b s))
        (λ exit m. unread-right reader (raised_exit_labels e q exit ++ yes_exit_labels exit) (no_exit_labels exit) m)))
    statement-unseen (Placed at (While loop e body)) pc fits unread s =
        let view = view_of reader scope in
        let value = reads_result reader (here scope) in
        let l : Join = one (label_of scope.program (ToLoop scope.number loop)) in
        let q : Join = own_label scope pc (Placed at (While loop e body)) in
        let b : Join = q ++ value_label scope e in
        let unread_b : reader.reads b ≡ false = unread-left reader q (value_label scope e) unread in
        let ends = block_exits scope.program body in
        let x : ExitLabels = at_exits ends b (block_rule scope b body) in
        let exits = read_exits reader (statement_rule scope pc (Placed at (While loop e body))) in
        let front = fits-left h labelling (demand scope.program at 8 pc (ToLoop scope.number loop) ++ block_demands scope b body) (demand scope.program at 8 (x Normal ++ x Continue) (ToLoop scope.number loop)) fits in
        unseen-fuel view value (read_exits reader x) exits k (λ t. value_of t e) (block_meaning calls k body)
        (λ t y f. unread-left reader (raised_exit_labels e q (Throw y)) (loop_exit_labels b x (Throw y)) (unread-raised reader t e q y f unread))
        (unread-right reader (raised_exit_labels e q Normal) (b ++ x Break) (unread-left reader b (x Break) unread_b))
        (loop-read reader (raised_exit_labels e q) b x)
        (λ t. unseen-closed reader view value ends b (block_rule scope b body) t (block_meaning calls k body t) unread_b
        (block-among body scope.program calls k confines.among t)
        (block-unseen body b (fits-right h labelling (demand scope.program at 8 pc (ToLoop scope.number loop)) (block_demands scope b body) front) unread_b t)) s
    statement-unseen (Placed at (Leave exit)) pc fits unread s =
        unseen-end (view_of reader scope) (reads_result reader (here scope))
        (read_exits reader (statement_rule scope pc (Placed at (Leave exit)))) s exit unread
    statement-unseen (Placed at (ReturnWith None)) pc fits unread s =
        unseen-end (view_of reader scope) (reads_result reader (here scope))
        (read_exits reader (statement_rule scope pc (Placed at (ReturnWith None)))) s Return unread
    statement-unseen (Placed at (ReturnWith (Some e))) pc fits unread s =
        let view = view_of reader scope in
        let value = reads_result reader (here scope) in
        let q = own_label scope pc (Placed at (ReturnWith (Some e))) in
        let exits = read_exits reader (statement_rule scope pc (Placed at (ReturnWith (Some e)))) in
        let unread_result : value ≡ false = sym (reader.written _) ∙ unread-demand reader scope.program at 10 (q ++ value_label scope e) (ToValue scope.number) fits
        (unread-left reader q (value_label scope e) unread) in
        unseen-evaluated view value exits s (value_of s e) (λ v. Ended Return (Some v) s) (λ y f. unread) (λ v f.
        record {
          agree = agree-itself view s;
          hidden = hidden_return (Some v) s unread
              (λ i. let j : true ≡ false = sym i ∙ unread_result in absurd (cc));
        })
    statement-unseen (Placed at (Try block handlers)) pc fits unread s =
        let view = view_of reader scope in
        let value = reads_result reader (here scope) in
        let ends = block_exits scope.program block in
        let x : ExitLabels = at_exits ends pc (block_rule scope pc block) in
        let exits = read_exits reader (statement_rule scope pc (Placed at (Try block handlers))) in
        let inner = unseen-closed reader view value ends pc (block_rule scope pc block) s (block_meaning calls k block s) unread
        (block-among block scope.program calls k confines.among s)
        (block-unseen block pc (fits-left h labelling (block_demands scope pc block) (handlers_demands scope x handlers) fits) unread s) in
        let others : (exit : Exit) → passes handlers exit ≡ true → reader.reads (x exit) ≡ false → exits exit ≡ false =
        λ exit passing m. unread-left reader (list_if (passes handlers exit) (x exit)) (handlers_rule scope x handlers exit)
        (unread-list_if reader (passes handlers exit) (x exit) passing m) in
        unseen-from view value exits s (state_after (block_meaning calls k block s))
        (caught (block_meaning calls k block s) (handlers_meaning calls k handlers)) inner.agree
        (unseen-caught view value handlers (read_exits reader x) exits (block_meaning calls k block s)
        (handlers_meaning calls k handlers) inner.hidden others
        (λ y t m. handlers-unseen handlers x (fits-right h labelling (block_demands scope pc block) (handlers_demands scope x handlers) fits) y t m exits
        (λ exit n. unread-right reader (list_if (passes handlers exit) (x exit)) (handlers_rule scope x handlers exit) n)
        (λ none. others (Throw y) (rw none refl) m)))
    statement-unseen (Placed at (Nested block)) pc fits unread s =
        unseen-closed reader (view_of reader scope) (reads_result reader (here scope)) (block_exits scope.program block) pc
        (block_rule scope pc block) s (block_meaning calls k block s) unread
        (block-among block scope.program calls k confines.among s)
        (block-unseen block pc fits unread s)

    pub block-unseen : (block : Block) (pc : Join) → FitsDemands h labelling (block_demands scope pc block) → reader.reads pc ≡ false → (s : SourceState) →
        Unseen (view_of reader scope) (reads_result reader (here scope)) (read_exits reader (block_rule scope pc block)) s
        (block_meaning calls k block s)
    block-unseen Empty pc fits unread s = unseen-end (view_of reader scope) (reads_result reader (here scope))
        (read_exits reader (block_rule scope pc Empty)) s Normal unread
    block-unseen (Then statement rest) pc fits unread s =
        let view = view_of reader scope in
        let value = reads_result reader (here scope) in
        let ends = statement_exits scope.program statement in
        let x : ExitLabels = at_exits ends pc (statement_rule scope pc statement) in
        let exits = read_exits reader (block_rule scope pc (Then statement rest)) in
        let here = fits-left h labelling (statement_demands scope pc statement) (block_demands scope (x Normal) rest) fits in
        let first = unseen-closed reader view value ends pc (statement_rule scope pc statement) s (statement_meaning calls k statement s) unread
        (statement-among statement scope.program calls k confines.among s)
        (statement-unseen statement pc here (own-unread reader scope pc statement here unread) s) in
        unseen-from view value exits s (state_after (statement_meaning calls k statement s))
        (after (statement_meaning calls k statement s) (block_meaning calls k rest)) first.agree
        (unseen-after view value (read_exits reader x) exits (statement_meaning calls k statement s) (block_meaning calls k rest) first.hidden
        (λ exit other m. unread-left reader (list_if (not (same_exit Normal exit)) (x exit)) (block_rule scope (x Normal) rest exit)
        (unread-list_if reader (not (same_exit Normal exit)) (x exit) (ap not other) m))
        (λ t m. unseen-weaker view value (read_exits reader (block_rule scope (x Normal) rest)) exits t (block_meaning calls k rest t)
        (block-unseen rest (x Normal) (fits-right h labelling (statement_demands scope pc statement) (block_demands scope (x Normal) rest) fits) m t)
        (λ exit n. unread-right reader (list_if (not (same_exit Normal exit)) (x exit)) (block_rule scope (x Normal) rest exit) n)))

    pub handlers-unseen : (handlers : Handlers) (x : ExitLabels) → FitsDemands h labelling (handlers_demands scope x handlers) →
        (exception : ℕ) (s : SourceState) → reader.reads (x (Throw exception)) ≡ false → (more : Exit → Bool) →
        ((exit : Exit) → reader.reads (handlers_rule scope x handlers exit) ≡ false → more exit ≡ false) →
        (handles handlers exception ≡ false → more (Throw exception) ≡ false) →
        Unseen (view_of reader scope) (reads_result reader (here scope)) more s (handlers_meaning calls k handlers exception s)
    handlers-unseen NoMore x fits exception s unread more weaker passing =
        unseen-end (view_of reader scope) (reads_result reader (here scope)) more s (Throw exception) (passing refl)
    handlers-unseen (Catch at handled body rest) x fits exception s unread more weaker passing =
        let view = view_of reader scope in
        let value = reads_result reader (here scope) in
        let ends = block_exits scope.program body in
        let pc : Join = x (Throw handled) in
        let body_exit_labels : ExitLabels = at_exits ends pc (block_rule scope pc body) in
        unseen-handler view value more exception handled s (block_meaning calls k body s) (handlers_meaning calls k rest exception s)
        (λ same.
        let unread_pc : reader.reads pc ≡ false = ap (λ y. reader.reads (x (Throw y))) (sym same) ∙ unread in
        unseen-weaker view value (read_exits reader body_exit_labels) more s (block_meaning calls k body s)
        (unseen-closed reader view value ends pc (block_rule scope pc body) s (block_meaning calls k body s) unread_pc
        (block-among body scope.program calls k confines.among s)
        (block-unseen body pc (fits-left h labelling (block_demands scope pc body) (handlers_demands scope x rest) fits) unread_pc s))
        (λ exit m. weaker exit (unread-left reader (body_exit_labels exit) (handlers_rule scope x rest exit) m)))
        (λ other. handlers-unseen rest x (fits-right h labelling (block_demands scope pc body) (handlers_demands scope x rest) fits) exception s unread more
        (λ exit m. weaker exit (unread-right reader (body_exit_labels exit) (handlers_rule scope x rest exit) m))
        (λ none. passing (rw (other, none) refl)))
