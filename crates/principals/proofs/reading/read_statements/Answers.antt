use Rattle.std.proofs.Common.{◌≡◌, ℕ, ◌<◌, ◌+◌, ◌++◌, ◌∷◌, [], ◌≤◌, List, Some, None, length, get_or, take, drop, append-nil, sym, ap, ◌∙◌, refl, arith}
use Rattle.std.proofs.lemmas.List.{take-append-drop, drop_more, take_more, take_all, map-append, map_push}
use Rattle.lexer.specs.declared.token.Token.{Token}
use Rattle.lexer.specs.declared.token.Kind.TheVariants.{Boolean}
use Rattle.principals.specs.declared.reading.ItemState.{ItemState}
use Rattle.lexer.specs.Terminal.{terminal_of, terminals_of}
use Rattle.principals.specs.HierarchyText.{Entry}
use Rattle.principals.specs.Reading.{ReadingState, Fresh, Ended, next, run, finished_entries, state_of, entry_of, entries_of}
use Rattle.principals.specs.declared.reading.HierarchyStatement.{HierarchyStatement}
use Rattle.principals.proofs.Automaton.{run-push, read_is_form, is_prefix, stops, run_ends}
use Rattle.principals.proofs.reading.read_statements.Goals as goal
use Rattle.principals.proofs.reading.read_statements.Goals.{In-Some, in-Some-finish+in_ok-push, in_default-finish}

one_more : (tokens : List Token) (i : ℕ) (d : Token) → i < length tokens →
    terminals_of (take (i + 1) tokens) ≡ terminals_of (take i tokens) ++ terminal_of (get_or tokens i d) ∷ []
one_more tokens i d h = ap terminals_of (take_more tokens i d h) ∙ map-append terminal_of (take i tokens) (get_or tokens i d ∷ [])

-- the state and the entries after one more token
step : (tokens : List Token) (i : ℕ) (d : Token) (before after : ReadingState) (es now : List Entry) → i < length tokens →
    run Fresh (terminals_of (take i tokens)) ≡ Some (before, es) → Some after ≡ next before (terminal_of (get_or tokens i d)) →
    now ≡ es ++ finished_entries before (terminal_of (get_or tokens i d)) →
    run Fresh (terminals_of (take (i + 1) tokens)) ≡ Some (after, now)
step tokens i d before after es now within h k s =
    ap (run Fresh) (one_more tokens i d within)
    ∙ run-push Fresh (terminals_of (take i tokens)) (terminal_of (get_or tokens i d)) before after es h (sym k)
    ∙ ap (λ x. Some (after, x)) (sym s)

-- a list around one of its tokens
cut : (tokens : List Token) (i : ℕ) (d : Token) → i < length tokens →
    terminals_of tokens ≡ terminals_of (take i tokens) ++ terminal_of (get_or tokens i d) ∷ terminals_of (drop (i + 1) tokens)
cut tokens i d h =
    ap terminals_of (sym (take-append-drop i tokens) ∙ ap (λ x. take i tokens ++ x) (drop_more tokens i d h))
    ∙ map-append terminal_of (take i tokens) (get_or tokens i d ∷ drop (i + 1) tokens)

-- the token that is read past the end of the list
abbrev past : Token
past = record { kind = Boolean; text = record { ref_ptr = (0, 0); now = [] }; start = 0 }

after_token : (c : In-Some) (now : List Entry) →
    now ≡ entries_of c.loop-token.statements.items ++ finished_entries (state_of c.loop-token.progress) (terminal_of (get_or c.args.tokens.now c.loop-token.token-index past)) →
    run Fresh (terminals_of (take (c.loop-token.token-index + 1) c.args.tokens.now)) ≡ Some (state_of c.in-Some.after, now)
after_token c now h =
    step c.args.tokens.now c.loop-token.token-index past (state_of c.loop-token.progress) (state_of c.in-Some.after)
    (entries_of c.loop-token.statements.items) now c.loop-token-test.true c.loop-token.invariant c.in-Some.ensures h

pub loop-token-preserved : goal.loop-token-preserved
loop-token-preserved c =
    let items = c.loop-token.statements.items in
    let at_branch : (p : ItemState) (statements : List HierarchyStatement) → c.match-finish.progress ≡ p → c.match-finish.statements.items ≡ statements →
    run Fresh (terminals_of (take (c.loop-token.token-index + 1) c.args.tokens.now)) ≡ Some (state_of p, entries_of statements) →
    run Fresh (terminals_of (take (c.loop-token.token-index + 1) c.args.tokens.now)) ≡ Some (state_of c.match-finish.progress, entries_of c.match-finish.statements.items) =
    λ p statements e f h. h ∙ (λ i. Some (state_of (sym e i), entries_of (sym f i))) in
    elim c.match-finish.branch [
      | in-Some-finish+in_ok-push w ↦
          at_branch c.in-Some.after (items ++ w.in-Some-finish.statement ∷ []) w.progress-is
          (ap (λ v. v.items) w.statements-is ∙ w.in_ok-push.ensures.items)
          (after_token (goal.at.loop-token-preserved c).In-Some (entries_of (items ++ w.in-Some-finish.statement ∷ []))
          (map_push entry_of items w.in-Some-finish.statement ∙ ap (λ x. entries_of items ++ x) w.in-Some-finish.ensures))
      | in_default-finish w ↦
          at_branch c.in-Some.after items w.progress-is (ap (λ v. v.items) w.statements-is)
          (after_token (goal.at.loop-token-preserved c).In-Some (entries_of items) (sym (append-nil (entries_of items)) ∙ ap (λ x. entries_of items ++ x) w.in_default-finish.ensures))
    ]

pub returns-clause-form : goal.returns-clause-form
returns-clause-form c =
    let tokens = c.args.tokens.now in
    let all : length tokens ≤ c.loop-token.token-index = omega arith in
    let whole : run Fresh (terminals_of tokens) ≡ Some (state_of c.loop-token.progress, entries_of c.loop-token.statements.items) =
    ap (λ x. run Fresh (terminals_of x)) (sym (take_all c.loop-token.token-index tokens all)) ∙ c.loop-token.invariant in
    let ended : state_of c.loop-token.progress ≡ Ended = run_ends (terminals_of tokens) Fresh (state_of c.loop-token.progress) (entries_of c.loop-token.statements.items) c.requires whole in
    read_is_form (terminals_of tokens) (entries_of c.loop-token.statements.items) (whole ∙ ap (λ x. Some (x, entries_of c.loop-token.statements.items)) ended)

pub returns-in_default-clause-rejected : goal.returns-in_default-clause-rejected
returns-in_default-clause-rejected c =
    let tokens = c.args.tokens.now in
    let i = c.loop-token.token-index in
    let front = terminals_of (take i tokens) in
    let token = terminal_of (get_or tokens i past) in
    let state = state_of c.loop-token.progress in
    let es = entries_of c.loop-token.statements.items in
    let stop : next state token ≡ None = sym c.in_default.ensures in (
      _,
      refl,
      record {
        before = front;
        token = token;
        after = terminals_of (drop (i + 1) tokens);
        tokens_are = cut tokens i past c.loop-token-test.true;
        goes_on = is_prefix front state es c.loop-token.invariant;
        stops = stops front token state es c.loop-token.invariant stop;
        place = refl;
      },
    )
