use Rattle.std.specs.Prelude.{All, List}
use Rattle.std.proofs.Common.{◌≡◌, ◌≤◌, ◌+◌, ◌++◌, ◌∷◌, [], Some, Ok, Err, slice_get, length, take, drop, refl, sym, ap, subst, ◌∙◌, arith}
use Rattle.std.proofs.lemmas.List.{take_all}
use Rattle.std.proofs.lemmas.Result.{err_from_is_err_and}
use Rattle.lexer.specs.Terminal.{terminal_of}
use Rattle.principals.specs.ActsFor.{PrincipalHierarchy, AllBelow, AllDifferent}
use Rattle.common.specs.Answers.{IfRefused}
use Rattle.common.specs.declared.fault.OrNoMemory.TheVariants.{Refused}
use Rattle.common.proofs.Casting.{map-answer, mapped-ok, refused-weaker}
use Rattle.principals.specs.HierarchyText.{Declares, Relates}
use Rattle.principals.specs.Named.{IsKeptName}
use Rattle.principals.specs.Reading.{declared, entry_of, entries_of, IsEntryRefusal, IsFirstRefusal}
use Rattle.principals.specs.Table.{names_of}
use Rattle.principals.specs.declared.reading.HierarchyStatement.{HierarchyStatement}
use Rattle.principals.proofs.Building.{built_name, built_names, built_pair, built_kept, built_refused, built_same, entries_around, entries_more}
use Rattle.principals.proofs.declaring.hierarchy_of.Goals as goal
use Rattle.principals.proofs.declaring.hierarchy_of.Goals.{in-Declares+in_ok-declare-in-Declares, in-Relates+in_ok-pair-in-Relates+in_ok-push-in-Relates}

pub returns-in_err-declare-in-Declares-clause-first_fault : goal.returns-in_err-declare-in-Declares-clause-first_fault
returns-in_err-declare-in-Declares-clause-first_fault c =
    let p = err_from_is_err_and c.from_residual.result c.from_residual.ensures.1 in
    let statements = c.args.statements.now in
    let i = c.loop-statement.statement-index in
    let fault = c.in_err-declare-in-Declares.field-0.0 in
    let whole : entries_of statements ≡ entries_of (take i statements) ++ Declares (terminal_of c.in-Declares.name) ∷ entries_of (drop (i + 1) statements) =
    entries_around statements i _ c.loop-statement-test.true
    ∙ ap (λ x. entries_of (take i statements) ++ entry_of x ∷ entries_of (drop (i + 1) statements)) c.in-Declares.is in
    rw (p.1, p.2) (subst (λ x. IfRefused (IsFirstRefusal x) fault) (sym whole)
    (refused-weaker (IsEntryRefusal (names_of c.loop-statement.names) (Declares (terminal_of c.in-Declares.name)))
    (IsFirstRefusal (entries_of (take i statements) ++ Declares (terminal_of c.in-Declares.name) ∷ entries_of (drop (i + 1) statements)))
    (λ r h. built_refused (entries_of (take i statements)) (entries_of (drop (i + 1) statements)) (record { names = names_of c.loop-statement.names; pairs = c.loop-statement.pairs.items })
    (Declares (terminal_of c.in-Declares.name)) r c.loop-statement.invariant h) fault c.in_err-declare-in-Declares.ensures.rejected))

pub returns-in_err-pair-in-Relates-clause-first_fault : goal.returns-in_err-pair-in-Relates-clause-first_fault
returns-in_err-pair-in-Relates-clause-first_fault c =
    let p = err_from_is_err_and c.from_residual-in_err-pair-in-Relates.result c.from_residual-in_err-pair-in-Relates.ensures.1 in
    let statements = c.args.statements.now in
    let i = c.loop-statement.statement-index in
    let fault = c.in_err-pair-in-Relates.field-0.0 in
    let entry = Relates (terminal_of c.in-Relates.left) (terminal_of c.in-Relates.right) in
    let whole : entries_of statements ≡ entries_of (take i statements) ++ entry ∷ entries_of (drop (i + 1) statements) =
    entries_around statements i _ c.loop-statement-test.true
    ∙ ap (λ x. entries_of (take i statements) ++ entry_of x ∷ entries_of (drop (i + 1) statements)) c.in-Relates.is in
    let refused = map-answer (IsEntryRefusal (names_of c.loop-statement.names) entry) (IfRefused (IsFirstRefusal (entries_of statements)))
    (λ r f (is : f ≡ Refused r) h. rw is (subst (λ x. IsFirstRefusal x r) (sym whole)
    (built_refused (entries_of (take i statements)) (entries_of (drop (i + 1) statements)) (record { names = names_of c.loop-statement.names; pairs = c.loop-statement.pairs.items })
    entry r c.loop-statement.invariant h))) c.find_pair.result (Err fault) c.in_err-pair-in-Relates.ensures.cases c.find_pair.ensures.rejected in
    rw (p.1, p.2) refused

pub loop-statement-preserved : goal.loop-statement-preserved
loop-statement-preserved c =
    let statements = c.args.statements.now in
    let i = c.loop-statement.statement-index in
    let es = entries_of (take i statements) in
    let names = names_of c.loop-statement.names in
    let pairs = c.loop-statement.pairs.items in
    elim c.match-statement.branch [
      | in-Declares+in_ok-declare-in-Declares w ↦
          let more : entries_of (take (i + 1) statements) ≡ es ++ Declares (terminal_of w.in-Declares.name) ∷ [] =
          entries_more statements i _ c.loop-statement-test.true ∙ ap (λ x. es ++ entry_of x ∷ []) w.in-Declares.is in
          let same_names : names_of c.match-statement.names ≡ names ++ w.in-Declares.name.text.now ∷ [] =
          ap (λ x. names_of x) w.names-is ∙ w.in_ok-declare-in-Declares.ensures.added in
          let same_pairs : c.match-statement.pairs.items ≡ pairs = ap (λ x. x.items) w.pairs-is in
          built_same more same_names same_pairs
          (built_name es names pairs (terminal_of w.in-Declares.name) c.loop-statement.invariant
          w.in_ok-declare-in-Declares.ensures.fresh w.in_ok-declare-in-Declares.ensures.room)
      | in-Relates+in_ok-pair-in-Relates+in_ok-push-in-Relates w ↦
          let left = terminal_of w.in-Relates.left in
          let right = terminal_of w.in-Relates.right in
          let pair = w.in_ok-pair-in-Relates.pair in
          let more : entries_of (take (i + 1) statements) ≡ es ++ Relates left right ∷ [] =
          entries_more statements i _ c.loop-statement-test.true ∙ ap (λ x. es ++ entry_of x ∷ []) w.in-Relates.is in
          let same_names : names_of c.match-statement.names ≡ names = ap (λ x. names_of x) w.names-is in
          let same_pairs : c.match-statement.pairs.items ≡ pairs ++ pair ∷ [] =
          ap (λ x. x.items) w.pairs-is ∙ w.in_ok-push-in-Relates.ensures.items in
          built_same more same_names same_pairs
          (built_pair es names pairs left right pair.0 pair.1 c.loop-statement.invariant
          (mapped-ok w.find_pair.result (Ok pair) pair (λ p. slice_get names p.0 ≡ Some left.text) refl w.in_ok-pair-in-Relates.ensures.cases (λ fault no. no) w.find_pair.ensures.left)
          (mapped-ok w.find_pair.result (Ok pair) pair (λ p. slice_get names p.1 ≡ Some right.text) refl w.in_ok-pair-in-Relates.ensures.cases (λ fault no. no) w.find_pair.ensures.right))
    ]

pub find_pair-requires : goal.find_pair-requires
find_pair-requires c =
    (built_kept (entries_of (take c.loop-statement.statement-index c.args.statements.now))
    (record { names = names_of c.loop-statement.names; pairs = c.loop-statement.pairs.items }) c.loop-statement.invariant).few

pub close-requires-clause-few : goal.close-requires-clause-few
close-requires-clause-few c =
    (built_kept (entries_of (take c.loop-statement.statement-index c.args.statements.now))
    (record { names = names_of c.loop-statement.names; pairs = c.loop-statement.pairs.items }) c.loop-statement.invariant).few

pub close-requires-clause-different : goal.close-requires-clause-different
close-requires-clause-different c =
    (built_kept (entries_of (take c.loop-statement.statement-index c.args.statements.now))
    (record { names = names_of c.loop-statement.names; pairs = c.loop-statement.pairs.items }) c.loop-statement.invariant).different

pub close-requires-clause-there : goal.close-requires-clause-there
close-requires-clause-there c =
    (built_kept (entries_of (take c.loop-statement.statement-index c.args.statements.now))
    (record { names = names_of c.loop-statement.names; pairs = c.loop-statement.pairs.items }) c.loop-statement.invariant).there

pub close-requires-clause-named : goal.close-requires-clause-named
close-requires-clause-named c =
    let statements = c.args.statements.now in
    let past : length statements ≤ c.loop-statement.statement-index = omega arith in
    let h : PrincipalHierarchy = record { names = names_of c.loop-statement.names; pairs = c.loop-statement.pairs.items } in
    subst (All IsKeptName) (sym (built_names (entries_of (take c.loop-statement.statement-index statements)) h c.loop-statement.invariant))
    (subst (λ (x : List HierarchyStatement). All IsKeptName (declared (entries_of x))) (sym (take_all c.loop-statement.statement-index statements past)) c.requires)

pub returns-clause-described : goal.returns-clause-described
returns-clause-described c =
    let statements = c.args.statements.now in
    let past : length statements ≤ c.loop-statement.statement-index = omega arith in
    let whole : entries_of statements ≡ entries_of (take c.loop-statement.statement-index statements) =
    ap entries_of (sym (take_all c.loop-statement.statement-index statements past)) in
    built_same whole c.in_ok-close.ensures.names c.in_ok-close.ensures.pairs c.loop-statement.invariant

pub returns-clause-kept : goal.returns-clause-kept
returns-clause-kept c =
    let h : PrincipalHierarchy = record { names = names_of c.loop-statement.names; pairs = c.loop-statement.pairs.items } in
    let built = built_kept (entries_of (take c.loop-statement.statement-index c.args.statements.now)) h c.loop-statement.invariant in
    let hierarchy = c.in_ok-close.field-0 in
    record {
      few = subst (λ x. length x ≤ 256) (sym c.in_ok-close.ensures.names) built.few;
      different = subst AllDifferent (sym c.in_ok-close.ensures.names) built.different;
      there = subst (λ x. AllBelow (length x) hierarchy.pairs) (sym c.in_ok-close.ensures.names)
          (subst (λ x. AllBelow (length (names_of c.loop-statement.names)) x) (sym c.in_ok-close.ensures.pairs) built.there);
    }
