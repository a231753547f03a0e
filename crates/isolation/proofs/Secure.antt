-- Two runs of a labelled statement from states that are the same for an observer are related, at whatever label they begin.
use Rattle.std.proofs.Common.{arith, ◌≡◌, refl, sym, ap, ◌∙◌, ℕ, zero, suc, ◌+◌, Bool, true, false, not, List, [], ◌∷◌, ◌++◌, ℤ}
use Rattle.std.specs.Prelude.{Option, Some, None, if◌then◌else◌, ◌==◌, slice_get, slice_set, map, flat_map}
use Rattle.principals.specs.ActsFor.{PrincipalHierarchy}
use Rattle.resolved.specs.declared.expression.Variable.{Variable}
use Rattle.resolved.specs.declared.expression.Variable.TheVariants.{Local}
use Rattle.common.specs.declared.value.Value.{Value}
use Rattle.common.specs.declared.value.Value.TheVariants.{Int as Number}
use Rattle.resolved.specs.declared.statement.Exit.{Exit}
use Rattle.resolved.specs.declared.statement.Exit.TheVariants.{Normal, Return, Break, Continue, Throw}
use Rattle.resolved.specs.Tree.{Expression, Statement, Placed, Assign, Clear, Store, Receive, Send, Call, If, While, Leave, ReturnWith, Try, Nested, Block, Empty, Then, Handlers, NoMore, Catch}
use Rattle.resolved.specs.Program.{Program, procedure_at}
use Rattle.common.specs.Values.{truth_in, zero_of, kind_of}
use Rattle.resolved.specs.Value.{checked_index}
use Rattle.resolved.specs.SourceState.{SourceState, assigned, stored, cleared, cells, value_of, values_of}
use Rattle.resolved.specs.Meaning.{Ended, normally, given_to, received, sending, returned_to, Calls, statement_meaning, block_meaning, handlers_meaning}
use Rattle.resolved.specs.Exits.{same_exit, passes, statement_exits, block_exits, index_can_raise, list_if}
use Rattle.resolved.specs.declared.target.Target.{Target}
use Rattle.resolved.specs.declared.target.Target.TheVariants.{ToParameter, ToValue, ToVariable, ToChannel, ToBegin, ToValue, ToLoop}
use Rattle.resolved.specs.Labelled.{Scope, ExitLabels, demand, FitsDemands, variable_label, value_label, raise_label, call_exit_labels, target_demand, argument_demands, Labelling, Join, one, label_of, here}
use Rattle.resolved.specs.LabelRules.{at_exits, raised_exit_labels, statement_rule, block_rule, handlers_rule, statement_demands, block_demands, handlers_demands}
use Rattle.isolation.proofs.OwnLabel.{own_label}
use Rattle.isolation.proofs.Grows.{CallsGrow, block-grows, handlers-grow}
use Rattle.isolation.proofs.Among.{statement-among, block-among}
use Rattle.isolation.proofs.Observer.{Reader, View, view_of, AgreeFor, agree-with_cells, agree-with_input, agree-sending, with_input, read-left, read-right, unread-left, unread-right}
use Rattle.isolation.proofs.Values.{SameIf, index-alike, expression-alike, ArgumentsAlike, no_arguments, one_more, arguments-alike, read-list_if}
use Rattle.isolation.proofs.Unseen.{unseen-weaker, unseen-if}
use Rattle.isolation.proofs.Related.{Related, agreed_exit, same_return, both-unseen, related-evaluated, related-if, related-weaker, related-after, related-fuel, related-once, related-caught}
use Rattle.isolation.proofs.Closed.{read_exits, unseen-closed, related-closed}
use Rattle.isolation.proofs.Confined.{Confines, reads_result, fits-left, fits-right, fits-one, unread-list_if, unread-target, loop-read, statement-unseen, block-unseen, handlers-unseen}
use Rattle.isolation.proofs.Calls.{RelatedCall, related-returned_to, declared_label}
use Rattle.common.specs.declared.exceptions.TheConstants.{END}

-- what flows to a label that is read is read
pub read-demand : {h : PrincipalHierarchy} {labelling : Labelling} (reader : Reader h labelling) (program : Program) (at rule : ℕ) (left : Join) (target : Target) →
    FitsDemands h labelling (demand program at rule left target) → reader.reads (one (label_of program target)) ≡ true → reader.reads left ≡ true
read-demand {h} {labelling} reader program at rule left target fits e = reader.flowing left (label_of program target) (fits-one h labelling program at rule left target fits) e

-- arguments that are the same where the label of their parameter is read
abbrev pub ParametersAlike : {h : PrincipalHierarchy} {labelling : Labelling} → Reader h labelling → Program → (callee : ℕ) → List Value → List Value → Type 0
ParametersAlike reader program callee vs ws = (n : ℕ) → reader.reads (one (label_of program (ToParameter callee n))) ≡ true → slice_get vs n ≡ slice_get ws n

parameters-from : {h : PrincipalHierarchy} {labelling : Labelling} (reader : Reader h labelling) (scope : Scope) (at : ℕ) (q : Join) (callee i : ℕ) (es : List Expression) (vs ws : List Value) → FitsDemands h labelling (argument_demands scope at q callee i es) → ArgumentsAlike reader scope es vs ws → (j n : ℕ) → n ≡ i + j → reader.reads (one (label_of scope.program (ToParameter callee n))) ≡ true → slice_get vs j ≡ slice_get ws j
parameters-from reader scope at q callee i es vs ws fits no_arguments j n e reads = refl
parameters-from {h} {labelling} reader scope at q callee i es vs ws fits (one_more e rest v w vs' ws' same more) zero n f reads =
    let here : n ≡ i = omega arith in
    let front = fits-left h labelling (demand scope.program at 6 (q ++ value_label scope e) (ToParameter callee i))
    (argument_demands scope at q callee (suc i) rest) fits in
    let both = read-demand reader scope.program at 6 (q ++ value_label scope e) (ToParameter callee i) front (rw here at reads) in
    ap (λ x. Some x) (same (read-right reader q (value_label scope e) both))
parameters-from {h} {labelling} reader scope at q callee i es vs ws fits (one_more e rest v w vs' ws' same more) (suc j) n f reads =
    parameters-from reader scope at q callee (suc i) rest vs' ws'
    (fits-right h labelling (demand scope.program at 6 (q ++ value_label scope e) (ToParameter callee i))
    (argument_demands scope at q callee (suc i) rest) fits) more j n (omega arith) reads

-- what the calls of a program do in two runs
pub record Secures {h : PrincipalHierarchy} {labelling : Labelling} (reader : Reader h labelling) (scope : Scope) (calls further : Calls) : Type 0 where
  pub first : Confines reader scope calls
  pub second : Confines reader scope further
  pub grows_first : CallsGrow calls
  pub grows_second : CallsGrow further
  pub related : (f : ℕ) (vs ws : List Value) (s t : SourceState) → AgreeFor (view_of reader scope) s t →
      ParametersAlike reader scope.program f vs ws →
      RelatedCall (view_of reader scope) (reads_result reader (procedure_at scope.program f))
      (read_exits reader (declared_label scope.program f)) (calls f vs s) (further f ws t)

by-reading : {P : Type 0} (b : Bool) → (b ≡ false → P) → (b ≡ true → P) → P
by-reading true unread read = read refl
by-reading false unread read = unread refl

-- the exits that a callee declares are among those of the call
unread-declared : {h : PrincipalHierarchy} {labelling : Labelling} (reader : Reader h labelling) (program : Program) (callee : ℕ) (q : Join) (exit : Exit) →
    reader.reads (declared_label program callee exit) ≡ false → reader.reads (call_exit_labels program callee q exit) ≡ false
unread-declared reader program callee q Normal m = unread-right reader q (declared_label program callee Normal) m
unread-declared reader program callee q Return m = let i : true ≡ false = sym reader.nothing ∙ m in absurd (cc)
unread-declared reader program callee q Break m = let i : true ≡ false = sym reader.nothing ∙ m in absurd (cc)
unread-declared reader program callee q Continue m = let i : true ≡ false = sym reader.nothing ∙ m in absurd (cc)
unread-declared reader program callee q (Throw x) m = unread-right reader q (declared_label program callee (Throw x)) m

-- a target that is read has a read label demanded of what goes to it
target-read : {h : PrincipalHierarchy} {labelling : Labelling} (reader : Reader h labelling) (scope : Scope) (at rule : ℕ) (left : Join) (target : Option Variable) →
    FitsDemands h labelling (target_demand scope at rule left target) → (x : Variable) → target ≡ Some x →
    reader.reads (variable_label scope x) ≡ true → reader.reads left ≡ true
target-read reader scope at rule left None fits x e reads = absurd (cc)
target-read reader scope at rule left (Some y) fits x e reads =
    let same : y ≡ x = cc in read-demand reader scope.program at rule left (ToVariable scope.number y) fits (rw same reads)

agree-given_to : (view : View) (target : Option Variable) (v : Value) (s t : SourceState) → AgreeFor view s t →
    AgreeFor view (given_to target (Some v) s) (given_to target (Some v) t)
agree-given_to view None v s t agree = agree
agree-given_to view (Some x) v s t agree = agree-with_cells view s t x (v ∷ []) (v ∷ []) agree (λ e. refl)

related-received : (view : View) (value : Bool) (exits : Exit →
    Bool) (channel : ℕ) (target : Option Variable) (s t : SourceState) (numbers others : List ℤ) → numbers ≡ others → AgreeFor view s t →
    Related view value exits (received numbers channel target s) (received others channel target t)
related-received view value exits channel target s t numbers [] e agree = rw e (agreed_exit (Throw END) s t agree)
related-received view value exits channel target s t numbers (z ∷ rest) e agree =
    rw e (agreed_exit Normal (given_to target (Some (Number z)) (with_input s channel rest)) (given_to target (Some (Number z)) (with_input t channel rest))
    (agree-given_to view target (Number z) (with_input s channel rest) (with_input t channel rest) (agree-with_input view s t channel rest agree)))

module _ (h : PrincipalHierarchy) (labelling : Labelling) (reader : Reader h labelling) (scope : Scope) (calls further : Calls) (k m : ℕ)
    (secures : Secures reader scope calls further) where
  -- where the own label of a statement is not read nothing is seen of either run
  both-hidden : (statement : Statement) (pc : Join) → FitsDemands h labelling (statement_demands scope pc statement) → (s t : SourceState) →
      AgreeFor (view_of reader scope) s t → reader.reads (own_label scope pc statement) ≡ false →
      Related (view_of reader scope) (reads_result reader (here scope)) (read_exits reader (statement_rule scope pc statement))
      (statement_meaning calls k statement s) (statement_meaning further m statement t)
  both-hidden statement pc fits s t agree unread =
      both-unseen (view_of reader scope) (reads_result reader (here scope)) (read_exits reader (statement_rule scope pc statement)) s t
      (statement_meaning calls k statement s) (statement_meaning further m statement t) agree
      (statement-unseen h labelling reader scope calls k secures.first statement pc fits unread s)
      (statement-unseen h labelling reader scope further m secures.second statement pc fits unread t)

  mutual
    pub statement-secure : (statement : Statement) (pc : Join) → FitsDemands h labelling (statement_demands scope pc statement) → (s t : SourceState) →
        AgreeFor (view_of reader scope) s t →
        Related (view_of reader scope) (reads_result reader (here scope)) (read_exits reader (statement_rule scope pc statement))
        (statement_meaning calls k statement s) (statement_meaning further m statement t)
    statement-secure (Placed at (Assign x e)) pc fits s t agree =
        let view = view_of reader scope in
        let value = reads_result reader (here scope) in
        let q : Join = own_label scope pc (Placed at (Assign x e)) in
        let exits = read_exits reader (statement_rule scope pc (Placed at (Assign x e))) in
        by-reading (reader.reads q) (both-hidden (Placed at (Assign x e)) pc fits s t agree) (λ read.
        related-evaluated (SameIf (reader.reads (value_label scope e))) view value exits s t (value_of s e) (value_of t e)
        (λ v. normally (assigned s x v)) (λ v. normally (assigned t x v)) agree
        (expression-alike reader scope s t agree e (read-right reader pc (raise_label scope e) read)) (λ v w f g same.
        agreed_exit Normal (assigned s x v) (assigned t x w) (agree-with_cells view s t x (v ∷ []) (w ∷ []) agree (λ reads.
        ap (λ u. u ∷ []) (same (read-right reader q (value_label scope e)
        (read-demand reader scope.program at 1 (q ++ value_label scope e) (ToVariable scope.number x) fits reads)))))))
    statement-secure (Placed at (Clear slot)) pc fits s t agree =
        agreed_exit Normal (cleared s slot) (cleared t slot) (agree-with_cells (view_of reader scope) s t (Local slot) _ _ agree
        (λ reads. ap (λ l. map (λ v. zero_of (kind_of v)) l) (agree.variables (Local slot) reads)))
    statement-secure (Placed at (Store array len index e)) pc fits s t agree =
        let view = view_of reader scope in
        let value = reads_result reader (here scope) in
        let ri : Join = raise_label scope index in
        let re : Join = raise_label scope e in
        let vi : Join = value_label scope index in
        let ve : Join = value_label scope e in
        let test : Bool = index_can_raise index len in
        let q : Join = own_label scope pc (Placed at (Store array len index e)) in
        let exits = read_exits reader (statement_rule scope pc (Placed at (Store array len index e))) in
        by-reading (reader.reads q) (both-hidden (Placed at (Store array len index e)) pc fits s t agree) (λ read.
        let front = read-left reader (pc ++ ri ++ re) (list_if test vi) read in
        let covered : test ≡ true → reader.reads vi ≡ true = read-list_if reader test vi
        (read-right reader (pc ++ ri ++ re) (list_if test vi) read) in
        related-evaluated (SameIf (reader.reads vi)) view value exits s t (value_of s index) (value_of t index) _ _ agree
        (expression-alike reader scope s t agree index (read-right reader pc ri (read-left reader (pc ++ ri) re front))) (λ v v' f f' same_index.
        related-evaluated (SameIf (reader.reads ve)) view value exits s t (value_of s e) (value_of t e) _ _ agree
        (expression-alike reader scope s t agree e (read-right reader (pc ++ ri) re front)) (λ w w' g g' same.
        related-evaluated (SameIf (reader.reads vi)) view value exits s t (checked_index v len) (checked_index v' len)
        (λ i. normally (stored s array i w)) (λ i. normally (stored t array i w')) agree
        (index-alike s t index len (reader.reads vi) v v' covered f f' same_index) (λ i j d d' same_place.
        agreed_exit Normal (stored s array i w) (stored t array j w')
        (agree-with_cells view s t array (slice_set (cells s array) i w) (slice_set (cells t array) j w') agree (λ reads.
        let all = read-demand reader scope.program at 3 (q ++ vi ++ ve) (ToVariable scope.number array) fits reads in
        let left = read-left reader (q ++ vi) ve all in
        rw (agree.variables array reads, same_place (read-right reader q vi left), same (read-right reader (q ++ vi) ve all)) refl))))))
    statement-secure (Placed at (Receive channel target)) pc fits s t agree =
        let view = view_of reader scope in
        let value = reads_result reader (here scope) in
        let exits = read_exits reader (statement_rule scope pc (Placed at (Receive channel target))) in
        by-reading (reader.reads (own_label scope pc (Placed at (Receive channel target)))) (both-hidden (Placed at (Receive channel target)) pc fits s t agree) (λ read.
        related-received view value exits channel target s t (s.inputs channel) (t.inputs channel)
        (agree.inputs channel (sym (reader.written _) ∙ read-right reader pc (one (label_of scope.program (ToChannel channel))) read)) agree)
    statement-secure (Placed at (Send channel e)) pc fits s t agree =
        let view = view_of reader scope in
        let value = reads_result reader (here scope) in
        let q : Join = own_label scope pc (Placed at (Send channel e)) in
        let exits = read_exits reader (statement_rule scope pc (Placed at (Send channel e))) in
        by-reading (reader.reads q) (both-hidden (Placed at (Send channel e)) pc fits s t agree) (λ read.
        related-evaluated (SameIf (reader.reads (value_label scope e))) view value exits s t (value_of s e) (value_of t e)
        (λ v. normally (sending channel v s)) (λ v. normally (sending channel v t)) agree
        (expression-alike reader scope s t agree e (read-right reader pc (raise_label scope e) read)) (λ v w f g same.
        agreed_exit Normal (sending channel v s) (sending channel w t) (agree-sending view s t channel v w agree (λ reads.
        same (read-right reader q (value_label scope e) (read-demand reader scope.program at 5 (q ++ value_label scope e)
        (ToChannel channel) fits (reader.written _ ∙ reads)))))))
    statement-secure (Placed at (Call f arguments target)) pc fits s t agree =
        let view = view_of reader scope in
        let value = reads_result reader (here scope) in
        let q : Join = own_label scope pc (Placed at (Call f arguments target)) in
        let callee = procedure_at scope.program f in
        let exits = read_exits reader (statement_rule scope pc (Placed at (Call f arguments target))) in
        let ds = argument_demands scope at q f 0 arguments in
        let left : Join = call_exit_labels scope.program f q Normal ++ one (label_of scope.program (ToValue f)) in
        let ts = target_demand scope at 6 left target in
        let front = fits-left h labelling (demand scope.program at 6 q (ToBegin f) ++ ds) ts fits in
        let last = fits-right h labelling (demand scope.program at 6 q (ToBegin f) ++ ds) ts fits in
        by-reading (reader.reads q) (both-hidden (Placed at (Call f arguments target)) pc fits s t agree) (λ read.
        related-evaluated (ArgumentsAlike reader scope arguments) view value exits s t (values_of s arguments) (values_of t arguments)
        (λ vs. returned_to target (calls f vs s)) (λ vs. returned_to target (further f vs t)) agree
        (arguments-alike reader scope s t agree arguments (read-right reader pc (flat_map (raise_label scope) arguments) read)) (λ vs ws g g' same.
        related-returned_to view (reads_result reader callee) value (read_exits reader (declared_label scope.program f)) exits target (calls f vs s)
        (further f ws t)
        (secures.related f vs ws s t agree (λ n reads. parameters-from reader scope at q f 0 arguments vs ws
        (fits-right h labelling (demand scope.program at 6 q (ToBegin f)) ds front) same n n (omega arith) reads))
        (λ exit u. unread-declared reader scope.program f q exit u)
        (λ u. unread-target reader scope at 6 left target last (unread-left reader (call_exit_labels scope.program f q Normal) (one (label_of scope.program (ToValue f)))
        (unread-declared reader scope.program f q Normal u)))
        (λ x e reads. sym (reader.written _) ∙ read-right reader (call_exit_labels scope.program f q Normal) (one (label_of scope.program (ToValue f)))
        (target-read reader scope at 6 left target last x e reads))))
    statement-secure (Placed at (If e then_block else_block)) pc fits s t agree =
        let view = view_of reader scope in
        let value = reads_result reader (here scope) in
        let q : Join = own_label scope pc (Placed at (If e then_block else_block)) in
        let b : Join = q ++ value_label scope e in
        let exits = read_exits reader (statement_rule scope pc (Placed at (If e then_block else_block))) in
        let yes_exits = block_exits scope.program then_block in
        let no_exits = block_exits scope.program else_block in
        let yes_exit_labels : ExitLabels = at_exits yes_exits b (block_rule scope b then_block) in
        let no_exit_labels : ExitLabels = at_exits no_exits b (block_rule scope b else_block) in
        let yes_fits = fits-left h labelling (block_demands scope b then_block) (block_demands scope b else_block) fits in
        let no_fits = fits-right h labelling (block_demands scope b then_block) (block_demands scope b else_block) fits in
        let yes_more : (exit : Exit) → reader.reads (yes_exit_labels exit) ≡ false → exits exit ≡ false = λ exit u. unread-left reader
        (raised_exit_labels e q exit ++ yes_exit_labels exit) (no_exit_labels exit) (unread-right reader (raised_exit_labels e q exit) (yes_exit_labels exit) u) in
        let no_more : (exit : Exit) → reader.reads (no_exit_labels exit) ≡ false → exits exit ≡ false = λ exit u. unread-right reader
        (raised_exit_labels e q exit ++ yes_exit_labels exit) (no_exit_labels exit) u in
        by-reading (reader.reads q) (both-hidden (Placed at (If e then_block else_block)) pc fits s t agree) (λ read.
        related-evaluated (SameIf (reader.reads (value_label scope e))) view value exits s t (value_of s e) (value_of t e)
        (λ v. if truth_in v then block_meaning calls k then_block s else block_meaning calls k else_block s)
        (λ v. if truth_in v then block_meaning further m then_block t else block_meaning further m else_block t) agree
        (expression-alike reader scope s t agree e (read-right reader pc (raise_label scope e) read)) (λ v w f g same.
        by-reading (reader.reads (value_label scope e))
        (λ unread.
        let unread_b : reader.reads b ≡ false = unread-right reader q (value_label scope e) unread in
        both-unseen view value exits s t (if truth_in v then block_meaning calls k then_block s else block_meaning calls k else_block s)
        (if truth_in w then block_meaning further m then_block t else block_meaning further m else_block t) agree
        (unseen-if view value exits s (truth_in v) (block_meaning calls k then_block s) (block_meaning calls k else_block s)
        (unseen-weaker view value (read_exits reader yes_exit_labels) exits s (block_meaning calls k then_block s)
        (unseen-closed reader view value yes_exits b (block_rule scope b then_block) s (block_meaning calls k then_block s) unread_b
        (block-among then_block scope.program calls k secures.first.among s)
        (block-unseen h labelling reader scope calls k secures.first then_block b yes_fits unread_b s)) yes_more)
        (unseen-weaker view value (read_exits reader no_exit_labels) exits s (block_meaning calls k else_block s)
        (unseen-closed reader view value no_exits b (block_rule scope b else_block) s (block_meaning calls k else_block s) unread_b
        (block-among else_block scope.program calls k secures.first.among s)
        (block-unseen h labelling reader scope calls k secures.first else_block b no_fits unread_b s)) no_more))
        (unseen-if view value exits t (truth_in w) (block_meaning further m then_block t) (block_meaning further m else_block t)
        (unseen-weaker view value (read_exits reader yes_exit_labels) exits t (block_meaning further m then_block t)
        (unseen-closed reader view value yes_exits b (block_rule scope b then_block) t (block_meaning further m then_block t) unread_b
        (block-among then_block scope.program further m secures.second.among t)
        (block-unseen h labelling reader scope further m secures.second then_block b yes_fits unread_b t)) yes_more)
        (unseen-weaker view value (read_exits reader no_exit_labels) exits t (block_meaning further m else_block t)
        (unseen-closed reader view value no_exits b (block_rule scope b else_block) t (block_meaning further m else_block t) unread_b
        (block-among else_block scope.program further m secures.second.among t)
        (block-unseen h labelling reader scope further m secures.second else_block b no_fits unread_b t)) no_more)))
        (λ seen.
        related-if view value exits (truth_in v) (truth_in w) (block_meaning calls k then_block s) (block_meaning calls k else_block s)
        (block_meaning further m then_block t) (block_meaning further m else_block t) (ap (λ x. truth_in x) (same seen))
        (related-weaker view value (read_exits reader yes_exit_labels) exits (block_meaning calls k then_block s) (block_meaning further m then_block t)
        (related-closed reader view value yes_exits b (block_rule scope b then_block) (block_meaning calls k then_block s)
        (block_meaning further m then_block t) (block-among then_block scope.program calls k secures.first.among s)
        (block-among then_block scope.program further m secures.second.among t) (block-secure then_block b yes_fits s t agree)) yes_more)
        (related-weaker view value (read_exits reader no_exit_labels) exits (block_meaning calls k else_block s) (block_meaning further m else_block t)
        (related-closed reader view value no_exits b (block_rule scope b else_block) (block_meaning calls k else_block s)
        (block_meaning further m else_block t) (block-among else_block scope.program calls k secures.first.among s)
        (block-among else_block scope.program further m secures.second.among t) (block-secure else_block b no_fits s t agree)) no_more))))
    statement-secure (Placed at (While loop e body)) pc fits s t agree =
        let view = view_of reader scope in
        let value = reads_result reader (here scope) in
        let l : Join = one (label_of scope.program (ToLoop scope.number loop)) in
        let q : Join = own_label scope pc (Placed at (While loop e body)) in
        let b : Join = q ++ value_label scope e in
        let ends = block_exits scope.program body in
        let x : ExitLabels = at_exits ends b (block_rule scope b body) in
        let exits = read_exits reader (statement_rule scope pc (Placed at (While loop e body))) in
        let front = fits-left h labelling (demand scope.program at 8 pc (ToLoop scope.number loop) ++ block_demands scope b body) (demand scope.program at 8 (x Normal ++ x Continue) (ToLoop scope.number loop)) fits in
        let body_fits = fits-right h labelling (demand scope.program at 8 pc (ToLoop scope.number loop)) (block_demands scope b body) front in
        let back = fits-right h labelling (demand scope.program at 8 pc (ToLoop scope.number loop) ++ block_demands scope b body) (demand scope.program at 8 (x Normal ++ x Continue) (ToLoop scope.number loop)) fits in
        let loop_exit_labels_read = loop-read reader (raised_exit_labels e q) b x in
        by-reading (reader.reads q) (both-hidden (Placed at (While loop e body)) pc fits s t agree) (λ read.
        let read_l : reader.reads l ≡ true = read-left reader l (raise_label scope e) read in
        let read_r : reader.reads (raise_label scope e) ≡ true = read-right reader l (raise_label scope e) read in
        let comes_back : reader.reads (x Normal ++ x Continue) ≡ true = read-demand reader scope.program at 8 (x Normal ++ x Continue) (ToLoop scope.number loop) back read_l in
        let normal : reader.reads (x Normal) ≡ false → ⊥ = λ u. let i : true ≡ false = sym
        (read-left reader (x Normal) (x Continue) comes_back) ∙ u in cc in
        let continued : reader.reads (x Continue) ≡ false → ⊥ = λ u. let i : true ≡ false = sym
        (read-right reader (x Normal) (x Continue) comes_back) ∙ u in cc in
        by-reading (reader.reads (value_label scope e))
        (λ unread.
        let unread_b : reader.reads b ≡ false = unread-right reader q (value_label scope e) unread in
        let over : exits Normal ≡ false = unread-right reader (raised_exit_labels e q Normal) (b ++ x Break) (unread-left reader b (x Break) unread_b) in
        related-once view value (read_exits reader x) exits (reader.reads (value_label scope e)) (λ u. value_of u e)
        (block_meaning calls k body) (block_meaning further m body)
        (record {
          loop = loop_exit_labels_read;
          over = over;
          normal = normal;
          continued = continued;
          each =
              λ u. unseen-closed reader view value ends b (block_rule scope b body) u (block_meaning calls k body u) unread_b
              (block-among body scope.program calls k secures.first.among u)
              (block-unseen h labelling reader scope calls k secures.first body b body_fits unread_b u);
        })
        (record {
          loop = loop_exit_labels_read;
          over = over;
          normal = normal;
          continued = continued;
          each =
              λ u. unseen-closed reader view value ends b (block_rule scope b body) u (block_meaning further m body u) unread_b
              (block-among body scope.program further m secures.second.among u)
              (block-unseen h labelling reader scope further m secures.second body b body_fits unread_b u);
        })
        k m s t agree (expression-alike reader scope s t agree e read_r))
        (λ seen.
        related-fuel view value (read_exits reader x) exits (λ u. value_of u e) (block_meaning calls k body) (block_meaning further m body)
        (record {
          condition_alike = λ u u' same. rw seen at (expression-alike reader scope u u' same e read_r);
          loop = loop_exit_labels_read;
          normal = normal;
          continued = continued;
          ways = record {
            related = λ u u' same. related-closed reader view value ends b (block_rule scope b body) (block_meaning calls k body u)
                (block_meaning further m body u') (block-among body scope.program calls k secures.first.among u)
                (block-among body scope.program further m secures.second.among u') (block-secure body b body_fits u u' same);
            grows_first = block-grows body calls k secures.grows_first;
            grows_second = block-grows body further m secures.grows_second;
          };
        })
        k m s t agree))
    statement-secure (Placed at (Leave exit)) pc fits s t agree = agreed_exit exit s t agree
    statement-secure (Placed at (ReturnWith None)) pc fits s t agree = agreed_exit Return s t agree
    statement-secure (Placed at (ReturnWith (Some e))) pc fits s t agree =
        let view = view_of reader scope in
        let value = reads_result reader (here scope) in
        let q : Join = own_label scope pc (Placed at (ReturnWith (Some e))) in
        let exits = read_exits reader (statement_rule scope pc (Placed at (ReturnWith (Some e)))) in
        by-reading (reader.reads q) (both-hidden (Placed at (ReturnWith (Some e))) pc fits s t agree) (λ read.
        related-evaluated (SameIf (reader.reads (value_label scope e))) view value exits s t (value_of s e) (value_of t e)
        (λ v. Ended Return (Some v) s) (λ v. Ended Return (Some v) t) agree
        (expression-alike reader scope s t agree e (read-right reader pc (raise_label scope e) read)) (λ v w f g same.
        same_return (Some v) (Some w) s t agree (λ reads.
        ap (λ u. Some u) (same (read-right reader q (value_label scope e)
        (read-demand reader scope.program at 10 (q ++ value_label scope e) (ToValue scope.number) fits (reader.written _ ∙ reads)))))))
    statement-secure (Placed at (Try block handlers)) pc fits s t agree =
        let view = view_of reader scope in
        let value = reads_result reader (here scope) in
        let ends = block_exits scope.program block in
        let x : ExitLabels = at_exits ends pc (block_rule scope pc block) in
        let exits = read_exits reader (statement_rule scope pc (Placed at (Try block handlers))) in
        let block_fits = fits-left h labelling (block_demands scope pc block) (handlers_demands scope x handlers) fits in
        let handlers_fit = fits-right h labelling (block_demands scope pc block) (handlers_demands scope x handlers) fits in
        let others : (exit : Exit) → passes handlers exit ≡ true → reader.reads (x exit) ≡ false → exits exit ≡ false =
        λ exit passing u. unread-left reader (list_if (passes handlers exit) (x exit)) (handlers_rule scope x handlers exit)
        (unread-list_if reader (passes handlers exit) (x exit) passing u) in
        let more : (exit : Exit) → reader.reads (handlers_rule scope x handlers exit) ≡ false → exits exit ≡ false =
        λ exit u. unread-right reader (list_if (passes handlers exit) (x exit)) (handlers_rule scope x handlers exit) u in
        related-caught view value handlers (read_exits reader x) exits (block_meaning calls k block s) (block_meaning further m block t)
        (handlers_meaning calls k handlers) (handlers_meaning further m handlers)
        (related-closed reader view value ends pc (block_rule scope pc block) (block_meaning calls k block s)
        (block_meaning further m block t) (block-among block scope.program calls k secures.first.among s)
        (block-among block scope.program further m secures.second.among t) (block-secure block pc block_fits s t agree))
        others
        (λ y u unread. handlers-unseen h labelling reader scope calls k secures.first handlers x handlers_fit y u unread exits more
        (λ none. others (Throw y) (rw none refl) unread))
        (λ y u unread. handlers-unseen h labelling reader scope further m secures.second handlers x handlers_fit y u unread exits more
        (λ none. others (Throw y) (rw none refl) unread))
        (record {
          related = λ y u u' same. handlers-secure handlers x handlers_fit y u u' same exits more;
          grows_first = handlers-grow handlers calls k secures.grows_first;
          grows_second = handlers-grow handlers further m secures.grows_second;
        })
    statement-secure (Placed at (Nested block)) pc fits s t agree =
        related-closed reader (view_of reader scope) (reads_result reader (here scope)) (block_exits scope.program block) pc
        (block_rule scope pc block) (block_meaning calls k block s) (block_meaning further m block t)
        (block-among block scope.program calls k secures.first.among s) (block-among block scope.program further m secures.second.among t)
        (block-secure block pc fits s t agree)

    pub block-secure : (block : Block) (pc : Join) → FitsDemands h labelling (block_demands scope pc block) → (s t : SourceState) →
        AgreeFor (view_of reader scope) s t →
        Related (view_of reader scope) (reads_result reader (here scope)) (read_exits reader (block_rule scope pc block))
        (block_meaning calls k block s) (block_meaning further m block t)
    block-secure Empty pc fits s t agree = agreed_exit Normal s t agree
    block-secure (Then statement rest) pc fits s t agree =
        let view = view_of reader scope in
        let value = reads_result reader (here scope) in
        let ends = statement_exits scope.program statement in
        let x : ExitLabels = at_exits ends pc (statement_rule scope pc statement) in
        let exits = read_exits reader (block_rule scope pc (Then statement rest)) in
        let here = fits-left h labelling (statement_demands scope pc statement) (block_demands scope (x Normal) rest) fits in
        let later = fits-right h labelling (statement_demands scope pc statement) (block_demands scope (x Normal) rest) fits in
        let more : (exit : Exit) → reader.reads (block_rule scope (x Normal) rest exit) ≡ false → exits exit ≡ false =
        λ exit u. unread-right reader (list_if (not (same_exit Normal exit)) (x exit)) (block_rule scope (x Normal) rest exit) u in
        related-after view value (read_exits reader x) exits (statement_meaning calls k statement s)
        (statement_meaning further m statement t) (block_meaning calls k rest) (block_meaning further m rest)
        (related-closed reader view value ends pc (statement_rule scope pc statement) (statement_meaning calls k statement s)
        (statement_meaning further m statement t) (statement-among statement scope.program calls k secures.first.among s)
        (statement-among statement scope.program further m secures.second.among t) (statement-secure statement pc here s t agree))
        (λ exit other u. unread-left reader (list_if (not (same_exit Normal exit)) (x exit)) (block_rule scope (x Normal) rest exit)
        (unread-list_if reader (not (same_exit Normal exit)) (x exit) (ap not other) u))
        (λ unread u. unseen-weaker view value (read_exits reader (block_rule scope (x Normal) rest)) exits u (block_meaning calls k rest u)
        (block-unseen h labelling reader scope calls k secures.first rest (x Normal) later unread u) more)
        (λ unread u. unseen-weaker view value (read_exits reader (block_rule scope (x Normal) rest)) exits u (block_meaning further m rest u)
        (block-unseen h labelling reader scope further m secures.second rest (x Normal) later unread u) more)
        (record {
          related = λ u u' same. related-weaker view value (read_exits reader (block_rule scope (x Normal) rest)) exits
              (block_meaning calls k rest u) (block_meaning further m rest u') (block-secure rest (x Normal) later u u' same) more;
          grows_first = block-grows rest calls k secures.grows_first;
          grows_second = block-grows rest further m secures.grows_second;
        })

    pub handlers-secure : (handlers : Handlers) (x : ExitLabels) → FitsDemands h labelling (handlers_demands scope x handlers) →
        (exception : ℕ) (s t : SourceState) → AgreeFor (view_of reader scope) s t → (exits : Exit → Bool) →
        ((exit : Exit) → reader.reads (handlers_rule scope x handlers exit) ≡ false → exits exit ≡ false) →
        Related (view_of reader scope) (reads_result reader (here scope)) exits (handlers_meaning calls k handlers exception s)
        (handlers_meaning further m handlers exception t)
    handlers-secure NoMore x fits exception s t agree exits more = agreed_exit (Throw exception) s t agree
    handlers-secure (Catch at handled body rest) x fits exception s t agree exits more =
        let view = view_of reader scope in
        let value = reads_result reader (here scope) in
        let ends = block_exits scope.program body in
        let pc : Join = x (Throw handled) in
        let body_exit_labels : ExitLabels = at_exits ends pc (block_rule scope pc body) in
        related-if view value exits (exception == handled) (exception == handled) (block_meaning calls k body s)
        (handlers_meaning calls k rest exception s) (block_meaning further m body t) (handlers_meaning further m rest exception t) refl
        (related-weaker view value (read_exits reader body_exit_labels) exits (block_meaning calls k body s) (block_meaning further m body t)
        (related-closed reader view value ends pc (block_rule scope pc body) (block_meaning calls k body s) (block_meaning further m body t)
        (block-among body scope.program calls k secures.first.among s) (block-among body scope.program further m secures.second.among t)
        (block-secure body pc (fits-left h labelling (block_demands scope pc body) (handlers_demands scope x rest) fits) s t agree))
        (λ exit u. more exit (unread-left reader (body_exit_labels exit) (handlers_rule scope x rest exit) u)))
        (handlers-secure rest x (fits-right h labelling (block_demands scope pc body) (handlers_demands scope x rest) fits) exception s t agree exits
        (λ exit u. more exit (unread-right reader (body_exit_labels exit) (handlers_rule scope x rest exit) u)))
