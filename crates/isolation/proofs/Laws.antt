-- The laws of confinement and isolation for principals.
use Rattle.std.proofs.Common.{◌≡◌, refl, sym, ◌∙◌, ℕ, Bool, true, false, [], inl, inr}
use Rattle.labels.specs.Label.{may_read}
use Rattle.labels.proofs.Isolated.{views-isolated}
use Rattle.labels.proofs.Tests.{may_read-decides}
use Rattle.resolved.specs.SourceState.{SourceState}
use Rattle.principals.specs.ActsFor.{PrincipalHierarchy}
use Rattle.resolved.specs.Program.{Program}
use Rattle.resolved.specs.Meaning.{Outcome, Ended, Stopped, statement_meaning, calls_with, state_after, frame_limit, sent_by}
use Rattle.resolved.specs.Exits.{statement_exits}
use Rattle.resolved.specs.Labelled.{Scope, here, Labelling, ExitLabels, Labelled, channel_label, result_label, exit_faults}
use Rattle.resolved.proofs.Demands.{labelled-fits}
use Rattle.resolved.specs.LabelRules.{statement_rule, statement_exit_labels}
use Rattle.resolved.specs.Isolated.{Isolated}
use Rattle.isolation.specs.Confinement.{SameFor, UnreadExit, StatementsAreConfined, PossibleEndsAreUnread}
use Rattle.isolation.specs.TwoRuns.{OutcomesAgree, StatementsAgree}
use Rattle.isolation.specs.Larger.{IsolatedCarried}
use Rattle.labels.specs.Carried.{KeepsActsFor, carried_label}
use Rattle.isolation.proofs.Among.{statement-among}
use Rattle.isolation.proofs.Declared.{ends-as-declared}
use Rattle.isolation.proofs.Observer.{under, view_of, AgreeFor, agree-back}
use Rattle.isolation.proofs.Unseen.{Hidden, hidden_exit, hidden_return, hidden_stop}
use Rattle.isolation.proofs.Related.{Related, agreed_exit, same_return, apart, first_stops, second_stops, agree-prefix}
use Rattle.isolation.proofs.Closed.{read_exits, closed-unread, unseen-closed, related-closed}
use Rattle.isolation.proofs.Confined.{reads_result, own-unread, statement-unseen}
use Rattle.isolation.proofs.Unread.{statement-ends-unread}
use Rattle.isolation.proofs.Secure.{statement-secure}
use Rattle.isolation.proofs.Isolated.{Accepted, procedure-fits, calls-confine, calls-secure, runs-prefix}
use Rattle.isolation.proofs.Readers.{principal-reader, carried-reader}

accepted-from : (program : Program) → exit_faults program ≡ [] → (labelled : Labelled program) → Accepted program labelled.0
accepted-from program faults labelled = record {
  declared = ends-as-declared program faults;
  fits = procedure-fits program labelled.0 (labelled-fits program labelled);
}

unread-end : (scope : Scope) (labelling : Labelling) (p : ℕ) (exits : ExitLabels) (value : Bool) (o : Outcome) →
    Hidden value (read_exits (under (principal-reader scope.program.hierarchy p) labelling) exits) o → UnreadExit scope labelling p exits o
unread-end scope labelling p exits value o (hidden_exit exit t m) = m
unread-end scope labelling p exits value o (hidden_return r t m none) = m
unread-end scope labelling p exits value o (hidden_stop stop t) = tt

pub confined : (scope : Scope) (labelling : Labelling) → StatementsAreConfined scope labelling
confined scope labelling faults labelled p pc unread statement fits frames k s =
    let reader = under (principal-reader scope.program.hierarchy p) labelling in
    let accepted = accepted-from scope.program faults labelled in
    let calls = calls_with scope.program k frames in
    let confines = calls-confine scope.program labelled.0 accepted (principal-reader scope.program.hierarchy p) k frames scope.number labelling in
    let o : Outcome = statement_meaning calls k statement s in
    let unseen = unseen-closed reader (view_of reader scope) (reads_result reader (here scope)) (statement_exits scope.program statement) pc
    (statement_rule scope pc statement) s o unread
    (statement-among statement scope.program calls k confines.among s)
    (statement-unseen scope.program.hierarchy labelling reader scope calls k confines statement pc fits (own-unread reader scope pc statement fits unread) s) in (
      record { variables = unseen.agree.variables; inputs = unseen.agree.inputs; sent = unseen.agree.sent },
      unread-end scope labelling p (statement_exit_labels scope pc statement) (reads_result reader (here scope)) o unseen.hidden,
    )

pub isolated : (program : Program) → exit_faults program ≡ [] → Labelled program → Isolated program
isolated program faults labelled =
    views-isolated program.hierarchy (channel_label program) program.channels (sent_by program) (λ p first second agree k m.
    runs-prefix program labelled.0 (accepted-from program faults labelled) (principal-reader program.hierarchy p) first second
    (λ n channel there input reads. agree n channel there input ((may_read-decides program.hierarchy p (channel_label program n)).0 reads)) frame_limit k m)

pub isolated-carried : (program : Program) (larger : PrincipalHierarchy) (carry : ℕ → ℕ) → exit_faults program ≡ [] →
    Labelled program → KeepsActsFor program.hierarchy larger carry → IsolatedCarried program larger carry
isolated-carried program larger carry faults labelled keeps =
    views-isolated larger (λ n. carried_label carry (channel_label program n)) program.channels (sent_by program) (λ p first second agree k m.
    runs-prefix program labelled.0 (accepted-from program faults labelled) (carried-reader program.hierarchy larger carry keeps p) first second
    (λ n channel there input reads. agree n channel there input ((may_read-decides larger p (carried_label carry (channel_label program n))).0 reads)) frame_limit k m)

pub ends-unread : (scope : Scope) (labelling : Labelling) → PossibleEndsAreUnread scope labelling
ends-unread scope labelling p pc unread in_loop statement faults fits exit among =
    let reader = under (principal-reader scope.program.hierarchy p) labelling in
    closed-unread reader (statement_exits scope.program statement) pc (statement_rule scope pc statement) exit (λ one. unread) among
    (statement-ends-unread scope.program.hierarchy labelling reader scope statement pc in_loop faults fits unread exit among)

-- from what is read as a test to the same for a principal, and back
same-from : (scope : Scope) (labelling : Labelling) (p : ℕ) (s t : SourceState) → AgreeFor (view_of (under (principal-reader scope.program.hierarchy p) labelling) scope) s t →
    SameFor scope labelling p s t
same-from scope labelling p s t agree = record { variables = agree.variables; inputs = agree.inputs; sent = agree.sent }

agree-from : (scope : Scope) (labelling : Labelling) (p : ℕ) (s t : SourceState) → SameFor scope labelling p s t →
    AgreeFor (view_of (under (principal-reader scope.program.hierarchy p) labelling) scope) s t
agree-from scope labelling p s t same = record { variables = same.variables; inputs = same.inputs; sent = same.sent }

-- two outcomes of which the principal reads the label of neither exit
apart-agree : (scope : Scope) (labelling : Labelling) (p : ℕ) (exits : ExitLabels) (value : Bool) →
    value ≡ may_read scope.program.hierarchy p (result_label (here scope).result) → (o q : Outcome) →
    Hidden value (read_exits (under (principal-reader scope.program.hierarchy p) labelling) exits) o →
    Hidden value (read_exits (under (principal-reader scope.program.hierarchy p) labelling) exits) q →
    AgreeFor (view_of (under (principal-reader scope.program.hierarchy p) labelling) scope) (state_after o) (state_after q) →
    OutcomesAgree scope labelling p exits o q
apart-agree scope labelling p exits value is o q (hidden_exit exit s m) (hidden_exit other t n) agree = (
  same-from scope labelling p s t agree,
  λ reads. let i : true ≡ false = sym reads ∙ m in absurd (cc),
  λ reads. let i : true ≡ false = sym reads
      ∙ n in absurd (cc),
  λ reads. refl,
)
apart-agree scope labelling p exits value is o q (hidden_exit exit s m) (hidden_return r t n none) agree = (
  same-from scope labelling p s t agree,
  λ reads. let i : true ≡ false = sym reads ∙ m in absurd (cc),
  λ reads. let i : true ≡ false = sym reads
      ∙ n in absurd (cc),
  λ reads. sym (none (is ∙ reads)),
)
apart-agree scope labelling p exits value is o q (hidden_return r s m none) (hidden_exit other t n) agree = (
  same-from scope labelling p s t agree,
  λ reads. let i : true ≡ false = sym reads ∙ m in absurd (cc),
  λ reads. let i : true ≡ false = sym reads
      ∙ n in absurd (cc),
  λ reads. none (is ∙ reads),
)
apart-agree scope labelling p exits value is o q (hidden_return r s m none) (hidden_return r' t n none') agree =
    (same-from scope labelling p s t agree, λ reads. refl, λ reads. refl, λ reads. none (is ∙ reads) ∙ sym (none' (is ∙ reads)))
apart-agree scope labelling p exits value is o q (hidden_stop stop s) (hidden_exit other t n) agree = agree-prefix
    (view_of (under (principal-reader scope.program.hierarchy p) labelling) scope) s t agree
apart-agree scope labelling p exits value is o q (hidden_stop stop s) (hidden_return r t n none) agree = agree-prefix
    (view_of (under (principal-reader scope.program.hierarchy p) labelling) scope) s t agree
apart-agree scope labelling p exits value is o q (hidden_exit exit s m) (hidden_stop stop t) agree =
    agree-prefix (view_of (under (principal-reader scope.program.hierarchy p) labelling) scope) t s
    (agree-back (view_of (under (principal-reader scope.program.hierarchy p) labelling) scope) s t agree)
apart-agree scope labelling p exits value is o q (hidden_return r s m none) (hidden_stop stop t) agree =
    agree-prefix (view_of (under (principal-reader scope.program.hierarchy p) labelling) scope) t s
    (agree-back (view_of (under (principal-reader scope.program.hierarchy p) labelling) scope) s t agree)
apart-agree scope labelling p exits value is o q (hidden_stop stop s) (hidden_stop other t) agree =
    inl (agree-prefix (view_of (under (principal-reader scope.program.hierarchy p) labelling) scope) s t agree)

outcomes-agree : (scope : Scope) (labelling : Labelling) (p : ℕ) (exits : ExitLabels) (o q : Outcome) →
    Related (view_of (under (principal-reader scope.program.hierarchy p) labelling) scope)
    (reads_result (under (principal-reader scope.program.hierarchy p) labelling) (here scope))
    (read_exits (under (principal-reader scope.program.hierarchy p) labelling) exits) o q → OutcomesAgree scope labelling p exits o q
outcomes-agree scope labelling p exits o q (agreed_exit exit s t agree) = (same-from scope labelling p s t agree, λ reads. refl, λ reads. refl, λ reads. refl)
outcomes-agree scope labelling p exits o q (same_return r r' s t agree same) = (same-from scope labelling p s t agree, λ reads. refl, λ reads. refl, same)
outcomes-agree scope labelling p exits o q (apart _ _ h i agree) =
    apart-agree scope labelling p exits (reads_result (under (principal-reader scope.program.hierarchy p) labelling) (here scope)) refl o q h i agree
outcomes-agree scope labelling p exits o (Ended exit r t) (first_stops stop s _ prefix) = prefix
outcomes-agree scope labelling p exits o (Stopped other t) (first_stops stop s _ prefix) = inl prefix
outcomes-agree scope labelling p exits (Ended exit r s) q (second_stops _ stop t prefix) = prefix
outcomes-agree scope labelling p exits (Stopped other s) q (second_stops _ stop t prefix) = inr prefix

pub statements-agree : (scope : Scope) (labelling : Labelling) → StatementsAgree scope labelling
statements-agree scope labelling faults labelled p pc statement fits frames k m s t same =
    let reader = under (principal-reader scope.program.hierarchy p) labelling in
    let accepted = accepted-from scope.program faults labelled in
    let calls = calls_with scope.program k frames in
    let further = calls_with scope.program m frames in
    let secures = calls-secure scope.program labelled.0 accepted (principal-reader scope.program.hierarchy p) k m frames scope.number labelling in
    let o : Outcome = statement_meaning calls k statement s in
    let q : Outcome = statement_meaning further m statement t in
    outcomes-agree scope labelling p (statement_exit_labels scope pc statement) o q
    (related-closed reader (view_of reader scope) (reads_result reader (here scope)) (statement_exits scope.program statement) pc
    (statement_rule scope pc statement) o q
    (statement-among statement scope.program calls k secures.first.among s) (statement-among statement scope.program further m secures.second.among t)
    (statement-secure scope.program.hierarchy labelling reader scope calls further k m secures statement pc fits s t (agree-from scope labelling p s t same)))
