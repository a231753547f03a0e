-- Two calls of one procedure from states that are the same for an observer, by the two runs of its body.
use Rattle.std.proofs.Common.{arith, ◌≡◌, refl, sym, ap, ◌∙◌, ℕ, Bool, true, false, List, [], ◌∷◌, ◌++◌, ◌||◌, map, flat_map}
use Rattle.std.specs.Prelude.{Option, Some, None, ◌==◌}
use Rattle.std.specs.List.{list_all}
use Rattle.std.proofs.lemmas.Bool.{and_parts, or_right, and_from}
use Rattle.principals.specs.ActsFor.{PrincipalHierarchy}
use Rattle.common.specs.declared.sent.Pair.{Pair}
use Rattle.labels.specs.Sent.{IsPrefix}
use Rattle.resolved.specs.declared.expression.Variable.{Variable}
use Rattle.resolved.specs.declared.expression.Variable.TheVariants.{Global, Local}
use Rattle.common.specs.declared.value.Value.{Value}
use Rattle.resolved.specs.declared.statement.Exit.{Exit}
use Rattle.resolved.specs.declared.statement.Exit.TheVariants.{Normal, Return, Break, Continue, Throw}
use Rattle.resolved.specs.Program.{Program, ProcedureEntry, ThrownEntry, procedure_at}
use Rattle.resolved.specs.SourceState.{SourceState, assigned, cells}
use Rattle.resolved.specs.Meaning.{Stop, Outcome, Ended, Stopped, leaving, returned_to, state_after}
use Rattle.resolved.specs.Exits.{same_exit, has_exit, one_exit, thrown_exits, declared_by, list_if}
use Rattle.resolved.specs.FaultParts.{may_exit}
use Rattle.resolved.specs.declared.target.Target.TheVariants.{ToEnd, ToThrown}
use Rattle.resolved.specs.Labelled.{Labelling, ExitLabels, Demand, demand, FitsDemands, any_of, one, label_of, join_under, Scope, here, as_one_exit, exit_demands, one}
use Rattle.isolation.proofs.Grows.{Grows, grows-itself, grows-returned_to}
use Rattle.isolation.proofs.Among.{Among, raised_in, thrown-is}
use Rattle.isolation.proofs.Observer.{LabelReader, under, Reader, View, view_of, shown, AgreeFor, agree-back, agree-through, agree-unread, agree-with_cells, unread-left, unread-right}
use Rattle.isolation.proofs.Unseen.{Hidden, hidden_exit, hidden_return, hidden_stop, Unseen}
use Rattle.isolation.proofs.Related.{Related, agreed_exit, same_return, apart, first_stops, second_stops, both-unseen, stopped-prefix, agree-prefix}
use Rattle.isolation.proofs.Closed.{read_exits, one-same}
use Rattle.isolation.proofs.Confined.{UnseenCall, HiddenCall, call_exit, call_thrown, call_stop, unread_exits, unseen-returned_to, unread-list_if, fits-left, fits-right, unread-demand}
use Rattle.resolved.proofs.Exits.{same-exit, same_exit-itself, all-has, thrown-break, thrown-continue}

-- two calls: they end in the same way, or the observer reads the label of neither exit; and what is seen of a stopped one is a prefix
pub data RelatedCall (view : View) (value : Bool) (exits : Exit → Bool) : Outcome → Outcome → Type 0 where
  same_call : (r q : Option Value) (s t : SourceState) → AgreeFor view s t → (value ≡ true → r ≡ q) →
      RelatedCall view value exits (Ended Normal r s) (Ended Normal q t)
  same_thrown : (x : ℕ) (s t : SourceState) → AgreeFor view s t →
      RelatedCall view value exits (Ended (Throw x) None s) (Ended (Throw x) None t)
  apart_calls : (o p : Outcome) → HiddenCall value exits o → HiddenCall value exits p →
      AgreeFor view (state_after o) (state_after p) → RelatedCall view value exits o p
  first_call_stops : (stop : Stop) (s : SourceState) (p : Outcome) → IsPrefix (shown view s.sent) (shown view (state_after p).sent) →
      RelatedCall view value exits (Stopped stop s) p
  second_call_stops : (o : Outcome) (stop : Stop) (t : SourceState) → IsPrefix (shown view t.sent) (shown view (state_after o).sent) →
      RelatedCall view value exits o (Stopped stop t)

grown-returned_to : (target : Option Variable) (o : Outcome) → Grows (state_after o) (returned_to target o)
grown-returned_to target o = grows-returned_to (state_after o) target o (grows-itself (state_after o) (state_after o) refl o refl)

-- a target of which the value is the same where it is read
target-unread : (view : View) (result : Bool) (x : Variable) (r q : Option Value) → (view.variable x ≡ true → result ≡ true) →
    (result ≡ true → r ≡ q) → (r ≡ q → ⊥) → view.variable x ≡ false
target-unread view result x r q read same differ = go (view.variable x) refl
  where
    go : (b : Bool) → view.variable x ≡ b → view.variable x ≡ false
    go true e = absurd (differ (same (read e)))
    go false e = e

returned-same : (view : View) (result value : Bool) (more : Exit → Bool) (x : Variable) (r q : Option Value) (s t : SourceState) →
    AgreeFor view s t → (view.variable x ≡ true → result ≡ true) → (result ≡ true → r ≡ q) →
    Related view value more (returned_to (Some x) (Ended Normal r s)) (returned_to (Some x) (Ended Normal q t))
returned-same view result value more x None None s t agree read same = agreed_exit Normal s t agree
returned-same view result value more x (Some v) (Some w) s t agree read same =
    agreed_exit Normal (assigned s x v) (assigned t x w) (agree-with_cells view s t x (v ∷ []) (w ∷ []) agree (λ e.
    let both : Some v ≡ Some w = same (read e) in
    let values : v ≡ w = cc in ap (λ u. u ∷ []) values))
returned-same view result value more x (Some v) None s t agree read same =
    let unread = target-unread view result x (Some v) None read same (λ e. cc) in
    agreed_exit Normal (assigned s x v) t (agree-through view (assigned s x v) s t
    (agree-back view s (assigned s x v) (agree-unread view s x (v ∷ []) unread)) agree)
returned-same view result value more x None (Some w) s t agree read same =
    let unread = target-unread view result x None (Some w) read same (λ e. cc) in
    agreed_exit Normal s (assigned t x w) (agree-through view s t (assigned t x w) agree (agree-unread view t x (w ∷ []) unread))

pub related-returned_to : (view : View) (result value : Bool) (exits more : Exit →
    Bool) (target : Option Variable) (o p : Outcome) → RelatedCall view result exits o p →
    ((exit : Exit) → exits exit ≡ false → more exit ≡ false) →
    (exits Normal ≡ false → (x : Variable) → target ≡ Some x → view.variable x ≡ false) →
    ((x : Variable) → target ≡ Some x → view.variable x ≡ true → result ≡ true) →
    Related view value more (returned_to target o) (returned_to target p)
related-returned_to view result value exits more None o p (same_call r q s t h i) weaker unread read = agreed_exit Normal s t h
related-returned_to view result value exits more (Some x) o p (same_call r q s t h i) weaker unread read =
    returned-same view result value more x r q s t h (read x refl) i
related-returned_to view result value exits more None o p (same_thrown y s t h) weaker unread read = agreed_exit (Throw y) s t h
related-returned_to view result value exits more (Some x) o p (same_thrown y s t h) weaker unread read = agreed_exit (Throw y) s t h
related-returned_to view result value exits more target o p (apart_calls _ _ h i j) weaker unread read =
    both-unseen view value more (state_after o) (state_after p) (returned_to target o) (returned_to target p) j
    (unseen-returned_to view result value exits more target o h weaker unread)
    (unseen-returned_to view result value exits more target p i weaker unread)
related-returned_to view result value exits more None o p (first_call_stops stop s _ h) weaker unread read =
    first_stops stop s (returned_to None p) (stopped-prefix view s p (returned_to None p) h (grown-returned_to None p))
related-returned_to view result value exits more (Some x) o p (first_call_stops stop s _ h) weaker unread read =
    first_stops stop s (returned_to (Some x) p) (stopped-prefix view s p (returned_to (Some x) p) h (grown-returned_to (Some x) p))
related-returned_to view result value exits more None o p (second_call_stops _ stop t h) weaker unread read =
    second_stops (returned_to None o) stop t (stopped-prefix view t o (returned_to None o) h (grown-returned_to None o))
related-returned_to view result value exits more (Some x) o p (second_call_stops _ stop t h) weaker unread read =
    second_stops (returned_to (Some x) o) stop t (stopped-prefix view t o (returned_to (Some x) o) h (grown-returned_to (Some x) o))

-- what a procedure declares of its exits, for its callers
abbrev pub declared_label : Program → (callee : ℕ) → ExitLabels
declared_label program f Normal = list_if (any_of (procedure_at program f).throws) (one (label_of program (ToEnd f)))
declared_label program f (Throw exception) = one (label_of program (ToThrown f exception))
declared_label program f Return = []
declared_label program f Break = []
declared_label program f Continue = []

-- these are the same under every labelling
pub declared-under : {h : PrincipalHierarchy} (base : LabelReader h) (labels inner : Labelling) (program : Program) (f : ℕ) (exit : Exit) →
    read_exits (under base inner) (declared_label program f) exit ≡ false → read_exits (under base labels) (declared_label program f) exit ≡ false
declared-under base labels inner program f Normal m = go (any_of (procedure_at program f).throws) m
  where
    go : (b : Bool) → base.reads (join_under inner (list_if b (one (label_of program (ToEnd f))))) ≡ false →
        base.reads (join_under labels (list_if b (one (label_of program (ToEnd f))))) ≡ false
    go true m = m
    go false m = m
declared-under base labels inner program f Return m = m
declared-under base labels inner program f Break m = m
declared-under base labels inner program f Continue m = m
declared-under base labels inner program f (Throw x) m = m

hidden_call-weaker : (value : Bool) (exits more : Exit → Bool) (o : Outcome) → ((exit : Exit) → exits exit ≡ false → more exit ≡ false) →
    HiddenCall value exits o → HiddenCall value more o
hidden_call-weaker value exits more o weaker (call_exit r t m none) = call_exit r t (weaker Normal m) none
hidden_call-weaker value exits more o weaker (call_thrown x t m) = call_thrown x t (weaker (Throw x) m)
hidden_call-weaker value exits more o weaker (call_stop stop t) = call_stop stop t

pub related_call-weaker : (view : View) (value : Bool) (exits more : Exit → Bool) (o p : Outcome) →
    ((exit : Exit) → exits exit ≡ false → more exit ≡ false) → RelatedCall view value exits o p → RelatedCall view value more o p
related_call-weaker view value exits more o p weaker (same_call r q s t h i) = same_call r q s t h i
related_call-weaker view value exits more o p weaker (same_thrown x s t h) = same_thrown x s t h
related_call-weaker view value exits more o p weaker (apart_calls _ _ h i j) =
    apart_calls o p (hidden_call-weaker value exits more o weaker h) (hidden_call-weaker value exits more p weaker i) j
related_call-weaker view value exits more o p weaker (first_call_stops stop s _ h) = first_call_stops stop s p h
related_call-weaker view value exits more o p weaker (second_call_stops _ stop t h) = second_call_stops o stop t h

-- the state of a caller that has its frame again
abbrev pub home : SourceState → SourceState → SourceState
home s t = record t { locals = s.locals }

-- the same for the observer in the callee is the same in the caller
pub agree-home : {h : PrincipalHierarchy} (base : LabelReader h) (program : Program) (caller callee : ℕ) (labels inner : Labelling) (s t s' t' : SourceState) → AgreeFor (view_of (under base labels) (record { program = program; number = caller })) s t → AgreeFor (view_of (under base inner) (record { program = program; number = callee })) s' t' → AgreeFor (view_of (under base labels) (record { program = program; number = caller })) (home s s') (home t t')
agree-home base program caller callee labels inner s t s' t' outer within = record {
  variables = variables;
  inputs = within.inputs;
  sent = within.sent;
}
  where
    variables : (x : Variable) → (view_of (under base labels) (record { program = program; number = caller })).variable x ≡ true →
        cells (home s s') x ≡ cells (home t t') x
    variables (Global n) e = within.variables (Global n) e
    variables (Local n) e = outer.variables (Local n) e

-- no procedure may end by `break` or `continue`
never-may : false ≡ true → ⊥
never-may e = cc

-- a body that ends as it may, of which nothing is seen
module _ (callee : ProcedureEntry) (ends : List Exit) (declared : list_all (may_exit callee) ends ≡ true) (back : SourceState → SourceState) (value : Bool) where
  pub hidden-shape : (exits : Exit → Bool) (o : Outcome) → Among ends o → Hidden value exits o →
      HiddenCall value unread_exits (leaving back o)
  hidden-shape exits o among (hidden_exit Normal t m) = call_exit None (back t) refl (λ e. refl)
  hidden-shape exits o among (hidden_exit Return t m) = call_exit None (back t) refl (λ e. refl)
  hidden-shape exits o among (hidden_exit Break t m) = absurd (never-may (sym (thrown-break (declared_by callee.throws)) ∙ all-has (may_exit callee) ends Break declared among.among))
  hidden-shape exits o among (hidden_exit Continue t m) = absurd (never-may (sym (thrown-continue (declared_by callee.throws)) ∙ all-has (may_exit callee) ends Continue declared among.among))
  hidden-shape exits o among (hidden_exit (Throw x) t m) = call_thrown x (back t) refl
  hidden-shape exits o among (hidden_return r t m none) = call_exit r (back t) refl none
  hidden-shape exits o among (hidden_stop stop t) = call_stop stop (back t)

-- normal and return counted as one exit
as_one-has : (ends : List Exit) (exit : Exit) → has_exit ends exit ≡ true → has_exit (map as_one_exit ends) (as_one_exit exit) ≡ true
as_one-has [] exit h = h
as_one-has (first ∷ rest) exit h = go (same_exit exit first) refl (as_one-has rest exit)
  where
    go : (b : Bool) → same_exit exit first ≡ b → (has_exit rest exit ≡ true →
        has_exit (map as_one_exit rest) (as_one_exit exit) ≡ true) →
        (same_exit (as_one_exit exit) (as_one_exit first) || has_exit (map as_one_exit rest) (as_one_exit exit)) ≡ true
    go true e later = rw (same-exit exit first e, same_exit-itself (as_one_exit first)) refl
    go false e later = or_right (same_exit (as_one_exit exit) (as_one_exit first)) (has_exit (map as_one_exit rest) (as_one_exit exit)) (later (rw e at h))

among-as_one : (ends : List Exit) (back : SourceState → SourceState) (o : Outcome) → Among ends o → Among (map as_one_exit ends) (leaving back o)
among-as_one ends back (Ended Normal r s) h = record { among = as_one-has ends Normal h.among }
among-as_one ends back (Ended Return r s) h = record { among = as_one-has ends Return h.among }
among-as_one ends back (Ended Break r s) h = record { among = as_one-has ends Break h.among }
among-as_one ends back (Ended Continue r s) h = record { among = as_one-has ends Continue h.among }
among-as_one ends back (Ended (Throw x) r s) h = record { among = as_one-has ends (Throw x) h.among }
among-as_one ends back (Stopped stop s) h = record { among = tt }

-- two hidden calls that have one exit only
calls-one : (view : View) (value : Bool) (exits more : Exit → Bool) (ends : List Exit) (o p : Outcome) → one_exit ends ≡ true →
    Among ends o → Among ends p → HiddenCall value exits o → HiddenCall value exits p →
    AgreeFor view (state_after o) (state_after p) → RelatedCall view value more o p
calls-one view value exits more ends o p one among among' (call_exit r s m none) (call_exit q t m' none') agree =
    same_call r q s t agree (λ e. none e ∙ sym (none' e))
calls-one view value exits more ends o p one among among' (call_exit r s m none) (call_thrown x t m') agree =
    let e : Normal ≡ Throw x = one-same ends Normal (Throw x) one among.among among'.among in absurd (cc)
calls-one view value exits more ends o p one among among' (call_thrown x s m) (call_exit q t m' none') agree =
    let e : Throw x ≡ Normal = one-same ends (Throw x) Normal one among.among among'.among in absurd (cc)
calls-one view value exits more ends o p one among among' (call_thrown x s m) (call_thrown y t m') agree =
    let e : Throw x ≡ Throw y = one-same ends (Throw x) (Throw y) one among.among among'.among in
    let same : x ≡ y = cc in rw same (same_thrown y s t agree)
calls-one view value exits more ends o p one among among' (call_stop stop s) h agree =
    first_call_stops stop s p (agree-prefix view s (state_after p) agree)
calls-one view value exits more ends o p one among among' h (call_stop stop t) agree =
    second_call_stops o stop t (agree-prefix view t (state_after o) (agree-back view (state_after o) t agree))

-- where no exception is declared, a body that ends as it may has one exit only
no_throws-one : (callee : ProcedureEntry) (ends : List Exit) → any_of callee.throws ≡ false →
    list_all (may_exit callee) ends ≡ true → list_all (same_exit Normal) (map as_one_exit ends) ≡ true
no_throws-one callee [] none declared = refl
no_throws-one callee (first ∷ rest) none declared =
    let parts = and_parts (may_exit callee first) (list_all (may_exit callee) rest) declared in
    and_from (same_exit Normal (as_one_exit first)) (list_all (same_exit Normal) (map as_one_exit rest)) (one first parts.0)
    (no_throws-one callee rest none parts.1)
  where
    nothing : (throws : List ThrownEntry) (exit : Exit) → any_of throws ≡ false →
        has_exit (thrown_exits (declared_by throws)) exit ≡ true → ⊥
    nothing [] exit e f = let i : true ≡ false = sym f in cc
    nothing (entry ∷ more) exit e f = let i : true ≡ false = e in cc

    one : (exit : Exit) → may_exit callee exit ≡ true → same_exit Normal (as_one_exit exit) ≡ true
    one Normal e = refl
    one Return e = refl
    one Break e = absurd (nothing callee.throws Break none e)
    one Continue e = absurd (nothing callee.throws Continue none e)
    one (Throw x) e = absurd (nothing callee.throws (Throw x) none e)

some-throws : (callee : ProcedureEntry) (ends : List Exit) (exit : Exit) → list_all (may_exit callee) ends ≡ true →
    has_exit ends exit ≡ true → one_exit (map as_one_exit ends) ≡ false → any_of callee.throws ≡ true
some-throws callee [] exit declared h several = let i : true ≡ false = sym h in absurd (cc)
some-throws callee (first ∷ rest) exit declared h several = go (any_of callee.throws) refl
  where
    normal : (e : Exit) → same_exit Normal e ≡ true → Normal ≡ e
    normal e f = same-exit Normal e f

    go : (b : Bool) → any_of callee.throws ≡ b → any_of callee.throws ≡ true
    go true e = e
    go false e =
        let all = no_throws-one callee (first ∷ rest) e declared in
        let parts = and_parts (same_exit Normal (as_one_exit first)) (list_all (same_exit Normal) (map as_one_exit rest)) all in
        let single : one_exit (map as_one_exit (first ∷ rest)) ≡ true = rw (← same-exit Normal (as_one_exit first) parts.0) parts.1 in
        let i : true ≡ false = sym single ∙ several in absurd (cc)

-- the label that is declared of an exception which is not read
unread-thrown : {h : PrincipalHierarchy} {labelling : Labelling} (reader : Reader h labelling) (program : Program) (f at : ℕ) (x : ExitLabels) (throws : List ThrownEntry) (y : ℕ) →
    FitsDemands h labelling (flat_map (λ (entry : ThrownEntry). demand program at 13 (x (Throw entry.exception)) (ToThrown f entry.exception)) throws) →
    raised_in (declared_by throws) y ≡ true → reader.reads (x (Throw y)) ≡ false → reader.reads (one (label_of program (ToThrown f y))) ≡ false
unread-thrown reader program f at x [] y fits declared unread = let i : true ≡ false = sym declared in absurd (cc)
unread-thrown {h} {labelling} reader program f at x (entry ∷ rest) y fits declared unread = go (y == entry.exception) refl
    (unread-thrown reader program f at x rest y (fits-right h labelling first others fits))
  where
    first : List Demand
    first = demand program at 13 (x (Throw entry.exception)) (ToThrown f entry.exception)

    others : List Demand
    others = flat_map (λ (entry : ThrownEntry). demand program at 13 (x (Throw entry.exception)) (ToThrown f entry.exception)) rest

    go : (b : Bool) → (y == entry.exception) ≡ b → (raised_in (declared_by rest) y ≡ true → reader.reads (x (Throw y)) ≡ false →
        reader.reads (one (label_of program (ToThrown f y))) ≡ false) → reader.reads (one (label_of program (ToThrown f y))) ≡ false
    go true e later =
        let same : y ≡ entry.exception = grind (arith, e) in
        rw same (unread-demand reader program at 13 (x (Throw entry.exception)) (ToThrown f entry.exception) (fits-left h labelling first others fits)
        (ap (λ z. reader.reads (x (Throw z))) (sym same) ∙ unread))
    go false e later = later (rw e at declared) unread

-- the demands on the exits of a procedure that has several
abbrev several : Scope → ExitLabels → List Demand
several scope x = demand scope.program (here scope).at 13 (x Normal ++ x Return) (ToEnd scope.number)

abbrev on_thrown : Scope → ExitLabels → List Demand
on_thrown scope x = flat_map (λ (entry : ThrownEntry). demand scope.program (here scope).at 13 (x (Throw entry.exception)) (ToThrown scope.number entry.exception)) (here scope).throws

several-demands : (h : PrincipalHierarchy) (labelling : Labelling) (scope : Scope) (ends : List Exit) (x : ExitLabels) →
    one_exit (map as_one_exit ends) ≡ false → FitsDemands h labelling (exit_demands scope ends x) →
    FitsDemands h labelling (several scope x ++ on_thrown scope x)
several-demands h labelling scope ends x more fits = rw more at fits

module _ {h : PrincipalHierarchy} {labelling : Labelling} (reader : Reader h labelling) (scope : Scope) (ends : List Exit)
    (declared : list_all (may_exit (here scope)) ends ≡ true) (x : ExitLabels) (fits : FitsDemands h labelling (exit_demands scope ends x)) (back : SourceState → SourceState)
    (value : Bool) where
  normal-unread : one_exit (map as_one_exit ends) ≡ false → (exit : Exit) → has_exit ends exit ≡ true →
      reader.reads (x Normal ++ x Return) ≡ false → reader.reads (declared_label scope.program scope.number Normal) ≡ false
  normal-unread more exit among unread =
      let front = fits-left h labelling (several scope x) (on_thrown scope x) (several-demands h labelling scope ends x more fits) in
      unread-list_if reader (any_of (here scope).throws) (one (label_of scope.program (ToEnd scope.number))) (some-throws (here scope) ends exit declared among more)
      (unread-demand reader scope.program (here scope).at 13 (x Normal ++ x Return) (ToEnd scope.number) front unread)

  hidden-leaving : (o : Outcome) → one_exit (map as_one_exit ends) ≡ false → Among ends o → Hidden value (read_exits reader x) o →
      HiddenCall value (read_exits reader (declared_label scope.program scope.number)) (leaving back o)
  hidden-leaving o more among (hidden_exit Normal t m) =
      call_exit None (back t) (normal-unread more Normal among.among (unread-left reader (x Normal) (x Return) m)) (λ e. refl)
  hidden-leaving o more among (hidden_exit Return t m) =
      call_exit None (back t) (normal-unread more Return among.among (unread-right reader (x Normal) (x Return) m)) (λ e. refl)
  hidden-leaving o more among (hidden_exit Break t m) = absurd (never-may (sym (thrown-break (declared_by (here scope).throws)) ∙ all-has (may_exit (here scope)) ends Break declared among.among))
  hidden-leaving o more among (hidden_exit Continue t m) = absurd (never-may (sym (thrown-continue (declared_by (here scope).throws)) ∙ all-has (may_exit (here scope)) ends Continue declared among.among))
  hidden-leaving o more among (hidden_exit (Throw y) t m) =
      call_thrown y (back t) (unread-thrown reader scope.program scope.number (here scope).at x (here scope).throws y
      (fits-right h labelling (several scope x) (on_thrown scope x) (several-demands h labelling scope ends x more fits))
      (sym (thrown-is (declared_by (here scope).throws) y) ∙ all-has (may_exit (here scope)) ends (Throw y) declared among.among) m)
  hidden-leaving o more among (hidden_return r t m none) =
      call_exit r (back t) (normal-unread more Return among.among (unread-right reader (x Normal) (x Return) m)) none
  hidden-leaving o more among (hidden_stop stop t) = call_stop stop (back t)

after-leaving : (back : SourceState → SourceState) (o : Outcome) → state_after (leaving back o) ≡ back (state_after o)
after-leaving back (Ended Normal r s) = refl
after-leaving back (Ended Return r s) = refl
after-leaving back (Ended Break r s) = refl
after-leaving back (Ended Continue r s) = refl
after-leaving back (Ended (Throw x) r s) = refl
after-leaving back (Stopped stop s) = refl

prefix-outside : (inner outer : View) (xs ys : List Pair) → ((zs : List Pair) → shown inner zs ≡ shown outer zs) →
    IsPrefix (shown inner xs) (shown inner ys) → IsPrefix (shown outer xs) (shown outer ys)
prefix-outside inner outer xs ys same h = (h.0, ap (λ l. l ++ h.0) (sym (same xs)) ∙ h.1 ∙ same ys)

-- one run of a body of which nothing is seen, for the caller
pub unseen-leaving : (callee : ProcedureEntry) (ends : List Exit) (inner outer : View) (value : Bool) (exits : Exit →
    Bool) (s u : SourceState) (o : Outcome) → list_all (may_exit callee) ends ≡ true →
    ((t' : SourceState) → AgreeFor inner u t' → AgreeFor outer s (home s t')) → Among ends o → Unseen inner value exits u o →
    UnseenCall outer value unread_exits s (leaving (home s) o)
unseen-leaving callee ends inner outer value exits s u o declared back among h = record {
  agree = rw (after-leaving (home s) o) (back (state_after o) h.agree);
  hidden = hidden-shape callee ends declared (home s) value exits o among h.hidden;
}

-- two runs of a body, seen by the caller
pub related-leaving : {h : PrincipalHierarchy} {labelling : Labelling} (reader : Reader h labelling) (scope : Scope) (ends : List Exit) (x : ExitLabels) (inner outer : View) (value : Bool) (s t : SourceState) (o p : Outcome) → list_all (may_exit (here scope)) ends ≡ true → FitsDemands h labelling (exit_demands scope ends x) → ((s' t' : SourceState) → AgreeFor inner s' t' → AgreeFor outer (home s s') (home t t')) → ((xs : List Pair) → shown inner xs ≡ shown outer xs) → Among ends o → Among ends p → Related inner value (read_exits reader x) o p → RelatedCall outer value (read_exits reader (declared_label scope.program scope.number)) (leaving (home s) o) (leaving (home t) p)
related-leaving reader scope ends x inner outer value s t o p declared fits back same_shown among among' (agreed_exit Normal u w h) =
    same_call None None (home s u) (home t w) (back u w h) (λ e. refl)
related-leaving reader scope ends x inner outer value s t o p declared fits back same_shown among among' (agreed_exit Return u w h) =
    same_call None None (home s u) (home t w) (back u w h) (λ e. refl)
related-leaving reader scope ends x inner outer value s t o p declared fits back same_shown among among' (agreed_exit Break u w h) =
    absurd (never-may (sym (thrown-break (declared_by (here scope).throws)) ∙ all-has (may_exit (here scope)) ends Break declared among.among))
related-leaving reader scope ends x inner outer value s t o p declared fits back same_shown among among' (agreed_exit Continue u w h) =
    absurd (never-may (sym (thrown-continue (declared_by (here scope).throws)) ∙ all-has (may_exit (here scope)) ends Continue declared among.among))
related-leaving reader scope ends x inner outer value s t o p declared fits back same_shown among among' (agreed_exit (Throw y) u w h) =
    same_thrown y (home s u) (home t w) (back u w h)
related-leaving reader scope ends x inner outer value s t o p declared fits back same_shown among among' (same_return r q u w h i) =
    same_call r q (home s u) (home t w) (back u w h) i
related-leaving reader scope ends x inner outer value s t o p declared fits back same_shown among among' (apart _ _ h i j) = go
    (one_exit (map as_one_exit ends)) refl
  where
    agree : AgreeFor outer (state_after (leaving (home s) o)) (state_after (leaving (home t) p))
    agree = rw (after-leaving (home s) o, after-leaving (home t) p) (back (state_after o) (state_after p) j)

    go : (b : Bool) → one_exit (map as_one_exit ends) ≡ b →
        RelatedCall outer value (read_exits reader (declared_label scope.program scope.number)) (leaving (home s) o) (leaving (home t) p)
    go true e = calls-one outer value unread_exits (read_exits reader (declared_label scope.program scope.number)) (map as_one_exit ends) (leaving (home s) o)
        (leaving (home t) p) e
        (among-as_one ends (home s) o among) (among-as_one ends (home t) p among')
        (hidden-shape (here scope) ends declared (home s) value (read_exits reader x) o among h)
        (hidden-shape (here scope) ends declared (home t) value (read_exits reader x) p among' i) agree
    go false e = apart_calls (leaving (home s) o) (leaving (home t) p)
        (hidden-leaving reader scope ends declared x fits (home s) value o e among h)
        (hidden-leaving reader scope ends declared x fits (home t) value p e among' i) agree
related-leaving reader scope ends x inner outer value s t o p declared fits back same_shown among among' (first_stops stop u _ h) =
    first_call_stops stop (home s u) (leaving (home t) p) (rw (after-leaving (home t) p)
    (prefix-outside inner outer u.sent (state_after p).sent same_shown h))
related-leaving reader scope ends x inner outer value s t o p declared fits back same_shown among among' (second_stops _ stop u h) =
    second_call_stops (leaving (home s) o) stop (home t u) (rw (after-leaving (home s) o)
    (prefix-outside inner outer u.sent (state_after o).sent same_shown h))
