-- A walk past each form of statement with blocks, from walks past its pieces.
use Rattle.std.proofs.Common.{◌≡◌, refl, sym, ap, ◌∙◌, subst, ℕ, suc, ◌+◌, List, [], ◌∷◌, ◌++◌, map, drop, arith, append_assoc, append-nil, Bool, true}
use Rattle.std.specs.Prelude.{Some, None, false, length, slice_index_or, OnOk, Result}
use Rattle.labels.specs.Label.{Label}
use Rattle.lattices.specs.Constraints.{renamed}
use Rattle.resolved.specs.CoreOf.{program_of}
use Rattle.resolved.specs.declared.program.Core.{Core}
use Rattle.resolved.specs.declared.statement.Exit.{Exit}
use Rattle.std.proofs.lemmas.Result.{on_ok_weaker}
use Rattle.constraints.specs.ByTable.{IsGatheredBy}
use Rattle.constraints.specs.ByWalk.{IsFormWalkedBy, IsSimpleBy, scope_in}
use Rattle.constraints.specs.declared.around.Context.{Context}
use Rattle.constraints.specs.declared.statements.ProcedureWalk.{ProcedureWalk}
use Rattle.resolved.specs.declared.statement.Statement as S
use Rattle.resolved.specs.declared.statement.Handler.{Handler}
use Rattle.resolved.specs.declared.statement.Exit.TheVariants.{Normal}
use Rattle.resolved.specs.declared.target.Target.TheVariants.{ToLoop}
use Rattle.resolved.specs.Program.{Program}
use Rattle.resolved.specs.Labelled.{Scope, label_of, value_label}
use Rattle.resolved.specs.Tree.{Expression, Statement, Placed, If, While, Try, Block, Handlers}
use Rattle.resolved.specs.TreeOf.{handlers_of, statement_of}
use Rattle.resolved.specs.Exits.{block_exits, handles, one_exit, raises, statement_exits}
use Rattle.path_map.specs.Exits.{Exits, exits_of}
use Rattle.path_map.specs.Paths.{block_paths, handlers_paths, inner_paths, rest_paths}
use Rattle.gathering.specs.Names.{NamedAtom, NamedConstraint, Real, named_atoms}
use Rattle.gathering.specs.Walk as walk
use Rattle.gathering.specs.Walk.{block_constraints, flow, handler_count, handler_number, handlers_constraints, in_loop, in_try, inner_atom, inner_block, inner_constraint, made_by_block, made_by_handlers, made_by_statement, raise_atoms, raised_flows, rule_constraint, single, statement_constraints, with_normal, within_single}
use Rattle.solver.specs.Rule.{rule_number}
use Rattle.solver.specs.declared.constraints.Atom.{Atom}
use Rattle.constraints.specs.Added.{IsPart, Stored}
use Rattle.constraints.specs.Journals.{IsUpToDate, moments_at, noted_all}
use Rattle.constraints.specs.LeftSides.{scope_of}
use Rattle.constraints.specs.Ready.{entries_of}
use Rattle.constraints.specs.ExitUnknowns.{AreLevelled, AreWithin, no_entry, exit_unknowns_around, exit_unknowns_of, undone}
use Rattle.constraints.specs.Thinned.{AreNoted}
use Rattle.constraints.specs.Walks.{IsSimple, loop_head_constraints, valued_constraints}
use Rattle.constraints.specs.Walked.{AreHandlersWalked, AreStatementsWalked, HasPassed, IsBlockWalked, IsFormWalked, IsStatementWalked, IsTried, IsWalked, branch_constraints, step_constraints}
use Rattle.constraints.specs.declared.around.Around.{Around}
use Rattle.constraints.specs.declared.forms.Demand.{Demand}
use Rattle.constraints.specs.declared.pieces.Tried.{Tried}
use Rattle.constraints.specs.declared.progress.Progress.{Progress}
use Rattle.constraints.specs.declared.exit_unknowns.ExitUnknown.{ExitUnknown}
use Rattle.constraints.specs.declared.exit_unknowns.ExitUnknowns.{ExitUnknowns}
use Rattle.constraints.proofs.InContext.{gathered-around}
use Rattle.constraints.proofs.Noted.{handled-ones, noted-journal}
use Rattle.constraints.proofs.SavedEntries.{undone-length}
use Rattle.constraints.proofs.Thinned.{walks-noted, walks-same, walks-then}
use Rattle.constraints.proofs.Passed.{alone-passed, levels-same, passed-at, passed-same, passed-then, paths-then, walked-on}

append-four : {A : Type 0} (a b c d e : List A) → (a ++ (b ++ (c ++ d))) ++ e ≡ a ++ (b ++ (c ++ (d ++ e)))
append-four a b c d e =
    append_assoc a (b ++ (c ++ d)) e
    ∙ ap (λ xs. a ++ xs) (append_assoc b (c ++ d) e ∙ ap (λ xs. b ++ xs) (append_assoc c d e))

module _ (core : Core) (table : List Label) (entries : List Exits) (procedure : ℕ) where
  -- a block that is reached at a pc of its own, or at this one
  pub block-at : (pc own : Atom) (named : NamedAtom) (exit_unknowns : ExitUnknowns) (meant : walk.ExitUnknowns) (block : Block) (left : List Exits) (old new : Progress) (thrown : List ExitUnknown) (number : ℕ)
      → IsPart core table named own → old.thrown.items ≡ thrown → old.number ≡ number → AreLevelled exit_unknowns thrown → exit_unknowns_of exit_unknowns thrown ≡ meant
      → drop old.index entries ≡ map exits_of (block_paths (program_of core) block) ++ left
      → IsBlockWalked core table entries procedure own exit_unknowns block old new
      → HasPassed core table entries pc (λ other. inner_block (scope_of core procedure) named meant number block) (made_by_block block) left old new
  block-at pc own named exit_unknowns meant block left old new thrown number stands thrown_is number_is levelled meant_is before walked =
      passed-same core table entries pc (λ other. inner_block (scope_of core procedure) named meant number block)
      (λ other. inner_block (scope_of core procedure) named (exit_unknowns_of exit_unknowns thrown) number block) (made_by_block block) (made_by_block block) left old new
      (λ other. ap (λ t. inner_block (scope_of core procedure) named t number block) (sym meant_is)) refl
      (passed-at core table entries pc own named (λ other. inner_block (scope_of core procedure) other (exit_unknowns_of exit_unknowns thrown) number block) (made_by_block block) left old new stands
      (walked-on core table entries own exit_unknowns (block_paths (program_of core) block)
      (λ t k other. inner_block (scope_of core procedure) other (exit_unknowns_of exit_unknowns t) k block) (made_by_block block) left old new thrown number thrown_is number_is levelled before walked))

  pub block-on : (pc : Atom) (exit_unknowns : ExitUnknowns) (meant : walk.ExitUnknowns) (block : Block) (left : List Exits) (old new : Progress) (thrown : List ExitUnknown) (number : ℕ)
      → old.thrown.items ≡ thrown → old.number ≡ number → AreLevelled exit_unknowns thrown → exit_unknowns_of exit_unknowns thrown ≡ meant
      → drop old.index entries ≡ map exits_of (block_paths (program_of core) block) ++ left
      → IsBlockWalked core table entries procedure pc exit_unknowns block old new
      → HasPassed core table entries pc (λ named. inner_block (scope_of core procedure) named meant number block) (made_by_block block) left old new
  block-on pc exit_unknowns meant block left old new thrown number thrown_is number_is levelled meant_is before walked =
      passed-same core table entries pc (λ named. inner_block (scope_of core procedure) named meant number block)
      (λ named. inner_block (scope_of core procedure) named (exit_unknowns_of exit_unknowns thrown) number block) (made_by_block block) (made_by_block block) left old new
      (λ named. ap (λ t. inner_block (scope_of core procedure) named t number block) (sym meant_is)) refl
      (walked-on core table entries pc exit_unknowns (block_paths (program_of core) block)
      (λ t k named. inner_block (scope_of core procedure) named (exit_unknowns_of exit_unknowns t) k block) (made_by_block block) left old new thrown number thrown_is number_is levelled before walked)

  pub if-walked : (at : ℕ) (e : Expression) (then_block else_block : Block) (pc inner : Atom) (exit_unknowns : ExitUnknowns) (number : ℕ) (old begun middle new : Progress)
      → number ≡ old.number → IsPart core table (inner_atom number) inner
      → IsWalked core table entries pc exit_unknowns [] (λ named. branch_constraints (scope_of core procedure) named (exit_unknowns_of exit_unknowns old.thrown.items) old.number e) 1 old begun
      → IsBlockWalked core table entries procedure inner exit_unknowns then_block begun middle
      → IsBlockWalked core table entries procedure inner exit_unknowns else_block middle new
      → IsFormWalked core table entries procedure pc exit_unknowns (Placed at (If e then_block else_block)) old new
  if-walked at e then_block else_block pc inner exit_unknowns number old begun middle new number_is stands head chosen other = λ left before levelled.
      let program : Program = program_of core in
      let scope : Scope = scope_of core procedure in
      let t : walk.ExitUnknowns = exit_unknowns_of exit_unknowns old.thrown.items in
      let n : ℕ = old.number in
      let part : IsPart core table (inner_atom n) inner = subst (λ k. IsPart core table (inner_atom k) inner) number_is stands in
      let branch : NamedAtom → List NamedConstraint = λ named. branch_constraints scope named t n e in
      let first : List NamedConstraint = inner_block scope (inner_atom n) t (suc n) then_block in
      let second : List NamedConstraint = inner_block scope (inner_atom n) t (suc n + made_by_block then_block) else_block in
      let rest : List Exits = map exits_of (block_paths program else_block) ++ left in
      let one : HasPassed core table entries pc branch 1 (map exits_of (block_paths program then_block) ++ rest) old begun =
      head (map exits_of (block_paths program then_block) ++ rest)
      (paths-then (block_paths program then_block) (block_paths program else_block) (drop old.index entries) left before) levelled in
      let two : HasPassed core table entries pc (λ named. first) (made_by_block then_block) rest begun middle =
      block-at pc inner (inner_atom n) exit_unknowns t then_block rest begun middle old.thrown.items (suc n) part one.thrown_is (omega (arith, one.number_is)) levelled refl one.entries_left chosen in
      let three : HasPassed core table entries pc (λ named. second) (made_by_block else_block) left middle new =
      block-at pc inner (inner_atom n) exit_unknowns t else_block left middle new old.thrown.items (suc n + made_by_block then_block) part (two.thrown_is ∙ one.thrown_is)
      (omega (arith, one.number_is, two.number_is)) levelled refl two.entries_left other in
      passed-same core table entries pc (λ named. statement_constraints scope named t n (Placed at (If e then_block else_block))) (λ named. branch named ++ (first ++ second))
      (suc (made_by_block then_block + made_by_block else_block)) (1 + (made_by_block then_block + made_by_block else_block)) left old new
      (λ named. sym (append_assoc (inner_constraint (named ∷ named_atoms (value_label scope e)) n)
      (raised_flows (named ∷ named_atoms (raise_atoms scope e)) t (raises e)) (first ++ second))) (omega arith)
      (passed-then core table entries pc branch (λ named. first ++ second) 1 (made_by_block then_block + made_by_block else_block) (map exits_of (block_paths program then_block) ++ rest) left old begun new one
      (passed-then core table entries pc (λ named. first) (λ named. second) (made_by_block then_block) (made_by_block else_block) rest left begun middle new two three))

  pub while-walked : (at loop : ℕ) (e : Expression) (body : Block) (pc inside : Atom) (exit_unknowns inner : ExitUnknowns) (number back : ℕ) (old begun middle new : Progress)
      → number ≡ old.number → back ≡ old.number + 1 → IsPart core table (inner_atom number) inside
      → ((thrown : List ExitUnknown) → exit_unknowns_of inner thrown ≡ in_loop back (exit_unknowns_of exit_unknowns thrown))
      → ((thrown : List ExitUnknown) → AreLevelled exit_unknowns thrown → AreLevelled inner thrown)
      → IsWalked core table entries pc exit_unknowns [] (λ named. loop_head_constraints (scope_of core procedure) named (exit_unknowns_of exit_unknowns old.thrown.items) old.number at loop e) 2 old begun
      → IsBlockWalked core table entries procedure inside inner body begun middle
      → ((other : Atom) (any : ExitUnknowns) → IsWalked core table entries other any [] (λ named. rule_constraint (scope_of core procedure) at 8 (inner_atom back ∷ []) (ToLoop procedure loop)) 0 middle new)
      → IsFormWalked core table entries procedure pc exit_unknowns (Placed at (While loop e body)) old new
  while-walked at loop e body pc inside exit_unknowns inner number back old begun middle new number_is back_is stands exit_unknowns_are levels_are head walked loop_atom = λ left before levelled.
      let program : Program = program_of core in
      let scope : Scope = scope_of core procedure in
      let t : walk.ExitUnknowns = exit_unknowns_of exit_unknowns old.thrown.items in
      let n : ℕ = old.number in
      let turn_atom : NamedAtom = renamed Real (label_of program (ToLoop procedure loop)) in
      let back_number : back ≡ suc n = omega (arith, back_is) in
      let part : IsPart core table (inner_atom n) inside = subst (λ k. IsPart core table (inner_atom k) inside) number_is stands in
      let meant : exit_unknowns_of inner old.thrown.items ≡ in_loop (suc n) t = exit_unknowns_are old.thrown.items ∙ ap (λ k. in_loop k t) back_number in
      let opening : NamedAtom → List NamedConstraint = λ named. loop_head_constraints scope named t n at loop e in
      let inside_it : List NamedConstraint = inner_block scope (inner_atom n) (in_loop (suc n) t) (suc (suc n)) body in
      let turning : ℕ → List NamedConstraint = λ k. rule_constraint scope at 8 (inner_atom k ∷ []) (ToLoop procedure loop) in
      let one : HasPassed core table entries pc opening 2 (map exits_of (block_paths program body) ++ left) old begun =
      head (map exits_of (block_paths program body) ++ left) before levelled in
      let two : HasPassed core table entries pc (λ named. inside_it) (made_by_block body) left begun middle =
      block-at pc inside (inner_atom n) inner (in_loop (suc n) t) body left begun middle old.thrown.items (suc (suc n)) part one.thrown_is (omega (arith, one.number_is))
      (levels_are old.thrown.items levelled) meant one.entries_left walked in
      let three : HasPassed core table entries pc (λ named. turning (suc n)) 0 left middle new =
      passed-same core table entries pc (λ named. turning (suc n)) (λ named. turning back) 0 0 left middle new (λ named. ap turning (sym back_number)) refl
      (loop_atom pc exit_unknowns left two.entries_left (levels-same exit_unknowns old.thrown.items middle.thrown.items (two.thrown_is ∙ one.thrown_is) levelled)) in
      passed-same core table entries pc (λ named. statement_constraints scope named t n (Placed at (While loop e body))) (λ named. opening named ++ (inside_it ++ turning (suc n)))
      (suc (suc (made_by_block body))) (2 + (made_by_block body + 0)) left old new
      (λ named. sym (append-four (rule_constraint scope at 8 (named ∷ []) (ToLoop procedure loop))
      (inner_constraint (turn_atom ∷ named_atoms (value_label scope e)) n) (flow (inner_atom n ∷ []) (t Normal))
      (raised_flows (turn_atom ∷ named_atoms (raise_atoms scope e)) t (raises e)) (inside_it ++ turning (suc n)))) (omega arith)
      (passed-then core table entries pc opening (λ named. inside_it ++ turning (suc n)) 2 (made_by_block body + 0) (map exits_of (block_paths program body) ++ left) left old begun new one
      (passed-then core table entries pc (λ named. inside_it) (λ named. turning (suc n)) (made_by_block body) 0 left left begun middle new two three))

  pub try-walked : (at : ℕ) (block : Block) (handlers : List Handler) (pc : Atom) (exit_unknowns : ExitUnknowns) (tried : Tried) (noting : List ExitUnknown) (old begun middle after new : Progress)
      → IsTried exit_unknowns handlers old begun tried
      → IsBlockWalked core table entries procedure pc tried.exit_unknowns block begun middle
      → after.index ≡ middle.index → after.number ≡ middle.number → after.constraints.items ≡ middle.constraints.items
      → after.thrown.items ≡ undone tried.saved.items middle.thrown.items
      → after.journal.calls ≡ middle.journal.calls
      → ((x : ℕ) → moments_at after.journal.moments.items x ≡ noted_all (length middle.journal.moments.items) (length middle.journal.calls.items) noting
      (map (λ (handler : Handler). handler.exception) handlers) x (moments_at middle.journal.moments.items x))
      → length after.journal.moments.items ≡ length middle.journal.moments.items → noting ≡ after.thrown.items
      → ((number : ℕ → ℕ) (other : Atom) → tried.numbers.items ≡ map (λ (handler : Handler). number handler.exception) handlers
      → AreHandlersWalked core table entries procedure other exit_unknowns number (handlers_of handlers) after new)
      → IsFormWalked core table entries procedure pc exit_unknowns (Placed at (Try block (handlers_of handlers))) old new
  try-walked at block list pc exit_unknowns tried noting old begun middle after new begins walked index_is number_is constraints_are thrown_is calls moments counted noted_are handled = λ left before levelled.
      let program : Program = program_of core in
      let scope : Scope = scope_of core procedure in
      let t : walk.ExitUnknowns = exit_unknowns_of exit_unknowns old.thrown.items in
      let n : ℕ = old.number in
      let handlers : Handlers = handlers_of list in
      let number : ℕ → ℕ = handler_number handlers n in
      let count : ℕ = handler_count handlers in
      let rest : List Exits = map exits_of (handlers_paths program handlers) ++ left in
      let trying : NamedAtom → List NamedConstraint = λ named. inner_block scope named (in_try number handlers t) (n + count) block in
      let handling : List NamedConstraint = handlers_constraints scope number t ((n + count) + made_by_block block) handlers in
      let inner : HasPassed core table entries pc trying (made_by_block block) rest begun middle =
      block-on pc tried.exit_unknowns (in_try number handlers t) block rest begun middle begun.thrown.items (n + count) refl begins.number_is
      (begins.taken levelled).levels_are (begins.taken levelled).exit_unknowns_are
      (ap (λ i. drop i entries) begins.index_is ∙ paths-then (block_paths program block) (handlers_paths program handlers) (drop old.index entries) left before) walked in
      let back : after.thrown.items ≡ old.thrown.items = thrown_is ∙ (ap (undone tried.saved.items) inner.thrown_is ∙ begins.saved_is) in
      let others : (x : ℕ) → handles handlers x ≡ false → slice_index_or after.thrown.items x no_entry ≡ slice_index_or middle.thrown.items x no_entry = λ x none.
      ap (λ es. slice_index_or es x no_entry) back ∙ (sym (begins.others_are x none) ∙ ap (λ es. slice_index_or es x no_entry) (sym inner.thrown_is)) in
      let noted : IsUpToDate middle.journal middle.thrown.items → AreNoted middle.journal after.journal after.thrown.items =
      noted-journal middle.journal after.journal middle.thrown.items after.thrown.items (map (λ (handler : Handler). handler.exception) list) calls
      (λ x. moments x ∙ ap (λ es. noted_all (length middle.journal.moments.items) (length middle.journal.calls.items) es (map (λ (handler : Handler). handler.exception) list) x
      (moments_at middle.journal.moments.items x)) noted_are)
      counted (ap length thrown_is ∙ undone-length tried.saved.items middle.thrown.items) (λ x none. others x (sym (handled-ones list x) ∙ none)) in
      let one : HasPassed core table entries pc trying (count + made_by_block block) rest old after = record {
        added = λ named stands. walks-same core table (trying named) ([] ++ (trying named ++ [])) old after (sym (append-nil (trying named)))
            (walks-then core table [] (trying named ++ []) old begun after (walks-noted core table old begun (ap (λ (v : _). v.items) begins.constraints_are) begins.noted)
            (walks-then core table (trying named) [] begun middle after (inner.added named stands) (walks-noted core table middle after constraints_are noted)));
        entries_left = ap (λ i. drop i entries) index_is ∙ inner.entries_left;
        number_is = omega (arith, number_is, inner.number_is, begins.number_is);
        thrown_is = back;
      } in
      let two : HasPassed core table entries pc (λ named. handling) (made_by_handlers handlers) left after new =
      walked-on core table entries pc exit_unknowns (handlers_paths program handlers) (λ thrown k named. handlers_constraints scope number (exit_unknowns_of exit_unknowns thrown) k handlers)
      (made_by_handlers handlers) left after new old.thrown.items ((n + count) + made_by_block block) one.thrown_is (omega (arith, one.number_is)) levelled one.entries_left
      (handled number pc (begins.numbers_are levelled)) in
      passed-same core table entries pc (λ named. statement_constraints scope named t n (Placed at (Try block handlers))) (λ named. trying named ++ handling)
      (count + (made_by_block block + made_by_handlers handlers)) ((count + made_by_block block) + made_by_handlers handlers) left old new
      (λ named. refl) (omega arith)
      (passed-then core table entries pc trying (λ named. handling) (count + made_by_block block) (made_by_handlers handlers) rest left old after new one two)

  -- a statement without inner unknowns, which takes no entry of the path map but its own
  pub simple-walked : (tree : Statement) (pc : Atom) (exit_unknowns : ExitUnknowns) (around : Around) (thrown : List ExitUnknown) (old new : Progress)
      → inner_paths (program_of core) tree ≡ [] → made_by_statement tree ≡ 0 → thrown ≡ old.thrown.items
      → new.index ≡ old.index → new.number ≡ old.number → new.thrown.items ≡ old.thrown.items → new.journal ≡ old.journal
      → around.pc ≡ pc → exit_unknowns_around around ≡ exit_unknowns_of exit_unknowns thrown
      → IsSimple core table procedure around.pc (exit_unknowns_around around) tree old.constraints.items new.constraints.items
      → IsFormWalked core table entries procedure pc exit_unknowns tree old new
  simple-walked tree pc exit_unknowns around thrown old new none made_none same index number thrown_is journal pc_is exit_unknowns_are simple = λ left before levelled.
      passed-same core table entries pc (λ named. statement_constraints (scope_of core procedure) named (exit_unknowns_of exit_unknowns old.thrown.items) old.number tree)
      (λ named. statement_constraints (scope_of core procedure) named (exit_unknowns_of exit_unknowns thrown) old.number tree) (made_by_statement tree) 0 left old new
      (λ named. ap (λ t. statement_constraints (scope_of core procedure) named (exit_unknowns_of exit_unknowns t) old.number tree) (sym same)) made_none
      (alone-passed core table entries pc (λ named. statement_constraints (scope_of core procedure) named (exit_unknowns_of exit_unknowns thrown) old.number tree) 0 left old new
      (before ∙ ap (λ (paths : List (List Exit)). map exits_of paths ++ left) none) index (omega (arith, number)) thrown_is journal
      (gathered-around core table (λ t named. statement_constraints (scope_of core procedure) named t old.number tree) around pc (exit_unknowns_of exit_unknowns thrown) _ _ pc_is exit_unknowns_are (simple old.number)))

  pub form-at : (s : S.Statement) (tree : Statement) (pc : Atom) (exit_unknowns : ExitUnknowns) (old new : Progress) → statement_of s ≡ tree
      → IsFormWalked core table entries procedure pc exit_unknowns tree old new → IsFormWalked core table entries procedure pc exit_unknowns (statement_of s) old new
  form-at s tree pc exit_unknowns old new is walked = subst (λ tree'. IsFormWalked core table entries procedure pc exit_unknowns tree' old new) (sym is) walked

  -- a block, from its entry and its statements
  pub block-walked : (block : Block) (pc : Atom) (exit_unknowns inner : ExitUnknowns) (exits : Exits) (only : Bool) (old begun new : Progress)
      → ((first : Exits) (left : List Exits) → drop old.index entries ≡ first ∷ left → exits ≡ first)
      → ((ends : List Exit) → IsWalked core table entries pc exit_unknowns (ends ∷ []) (λ named. single (one_exit ends) named (exit_unknowns_of exit_unknowns old.thrown.items) ends) 0 old begun)
      → ((ends : List Exit) → exits ≡ exits_of ends → only ≡ one_exit ends)
      → ((thrown : List ExitUnknown) → AreLevelled exit_unknowns thrown → AreLevelled inner thrown)
      → ((thrown : List ExitUnknown) → AreWithin exit_unknowns.level thrown → exit_unknowns_of inner thrown ≡ within_single only (exit_unknowns_of exit_unknowns thrown))
      → AreStatementsWalked core table entries procedure pc inner block begun new
      → IsBlockWalked core table entries procedure pc exit_unknowns block old new
  block-walked block pc exit_unknowns inner exits only old begun new exits_are begins only_is levels_are exit_unknowns_are walked = λ left before levelled.
      let program : Program = program_of core in
      let scope : Scope = scope_of core procedure in
      let ends : List Exit = block_exits program block in
      let beyond : List Exits = map exits_of (rest_paths program block) ++ left in
      let t : walk.ExitUnknowns = exit_unknowns_of exit_unknowns old.thrown.items in
      let meant : exit_unknowns_of inner old.thrown.items ≡ within_single (one_exit ends) t =
      exit_unknowns_are old.thrown.items levelled.entries_are_within ∙ ap (λ b. within_single b t) (only_is ends (exits_are (exits_of ends) beyond before)) in
      let one : HasPassed core table entries pc (λ named. single (one_exit ends) named t ends) 0 beyond old begun = begins ends beyond before levelled in
      let two : HasPassed core table entries pc (λ named. block_constraints scope true named (exit_unknowns_of inner old.thrown.items) old.number block) (made_by_block block) left begun new =
      walked-on core table entries pc inner (rest_paths program block) (λ thrown k named. block_constraints scope true named (exit_unknowns_of inner thrown) k block)
      (made_by_block block) left begun new old.thrown.items old.number one.thrown_is (omega (arith, one.number_is)) (levels_are old.thrown.items levelled) one.entries_left walked in
      passed-same core table entries pc (λ named. inner_block scope named t old.number block)
      (λ named. single (one_exit ends) named t ends ++ block_constraints scope true named (exit_unknowns_of inner old.thrown.items) old.number block) (made_by_block block) (0 + made_by_block block) left old new
      (λ named. ap (λ t'. single (one_exit ends) named t ends ++ block_constraints scope true named t' old.number block) (sym meant)) (omega arith)
      (passed-then core table entries pc (λ named. single (one_exit ends) named t ends) (λ named. block_constraints scope true named (exit_unknowns_of inner old.thrown.items) old.number block)
      0 (made_by_block block) beyond left old begun new one two)

  -- a statement of a block, from its entry and its form
  pub statement-walked : (tree : Statement) (pc : Atom) (exit_unknowns none some inner : ExitUnknowns) (exits : Exits) (only : Bool) (number : ℕ) (old begun new : Progress)
      → ((first : Exits) (left : List Exits) → drop old.index entries ≡ first ∷ left → exits ≡ first)
      → ((ends : List Exit) → IsWalked core table entries pc none (ends ∷ []) (λ named. single (one_exit ends) named (exit_unknowns_of none old.thrown.items) ends) 0 old begun)
      → ((ends : List Exit) → exits ≡ exits_of ends → only ≡ one_exit ends)
      → ((thrown : List ExitUnknown) → AreLevelled exit_unknowns thrown → AreLevelled none thrown)
      → ((thrown : List ExitUnknown) → exit_unknowns_of none thrown ≡ with_normal None (exit_unknowns_of exit_unknowns thrown))
      → ((thrown : List ExitUnknown) → AreLevelled exit_unknowns thrown → AreLevelled some thrown)
      → ((thrown : List ExitUnknown) → exit_unknowns_of some thrown ≡ with_normal (Some number) (exit_unknowns_of exit_unknowns thrown))
      → ((thrown : List ExitUnknown) → AreLevelled some thrown → AreLevelled inner thrown)
      → ((thrown : List ExitUnknown) → AreWithin some.level thrown → exit_unknowns_of inner thrown ≡ within_single only (exit_unknowns_of some thrown))
      → IsFormWalked core table entries procedure pc inner tree begun new
      → IsStatementWalked core table entries procedure pc exit_unknowns number tree old new
  statement-walked tree pc exit_unknowns none some inner exits only number old begun new exits_are begins only_is none_levels none_is some_levels some_is levels_are exit_unknowns_are walked = λ left before levelled.
      let program : Program = program_of core in
      let scope : Scope = scope_of core procedure in
      let ends : List Exit = statement_exits program tree in
      let beyond : List Exits = map exits_of (inner_paths program tree) ++ left in
      let start : List ExitUnknown = old.thrown.items in
      let t : walk.ExitUnknowns = exit_unknowns_of exit_unknowns start in
      let some_levelled : AreLevelled some start = some_levels start levelled in
      let meant : exit_unknowns_of inner start ≡ within_single (one_exit ends) (with_normal (Some number) t) =
      exit_unknowns_are start some_levelled.entries_are_within ∙ (ap (λ b. within_single b (exit_unknowns_of some start)) (only_is ends (exits_are (exits_of ends) beyond before))
      ∙ ap (within_single (one_exit ends)) (some_is start)) in
      let first : walk.ExitUnknowns → NamedAtom → List NamedConstraint = λ t' named. single (one_exit ends) named t' ends in
      let second : walk.ExitUnknowns → NamedAtom → List NamedConstraint = λ t' named. statement_constraints scope named t' old.number tree in
      let one : HasPassed core table entries pc (first (exit_unknowns_of none start)) 0 beyond old begun = begins ends beyond before (none_levels start levelled) in
      let two : HasPassed core table entries pc (second (exit_unknowns_of inner start)) (made_by_statement tree) left begun new =
      walked-on core table entries pc inner (inner_paths program tree) (λ thrown k named. statement_constraints scope named (exit_unknowns_of inner thrown) k tree)
      (made_by_statement tree) left begun new start old.number one.thrown_is (omega (arith, one.number_is)) (levels_are start some_levelled) one.entries_left walked in
      passed-same core table entries pc (λ named. step_constraints scope named t number old.number tree)
      (λ named. first (exit_unknowns_of none start) named ++ second (exit_unknowns_of inner start) named) (made_by_statement tree) (0 + made_by_statement tree) left old new
      (λ named. ap (λ t'. first t' named ++ second (within_single (one_exit ends) (with_normal (Some number) t)) named) (sym (none_is start))
      ∙ ap (λ t'. first (exit_unknowns_of none start) named ++ second t' named) (sym meant)) (omega arith)
      (passed-then core table entries pc (first (exit_unknowns_of none start)) (second (exit_unknowns_of inner start)) 0 (made_by_statement tree) beyond left old begun new one two)

-- a statement by its tree, for a walk that came past the tree
pub form-by : {A E : Type 0} (walk : ProcedureWalk) (context : Context) (s : S.Statement) (tree : Statement) (old new : Progress) (result : Result A E)
    → statement_of s ≡ tree → OnOk result (IsFormWalkedBy walk context tree old new) → OnOk result (IsFormWalkedBy walk context (statement_of s) old new)
form-by walk context s tree old new result is walked =
    on_ok_weaker result (λ one. subst (λ tree'. IsFormWalkedBy walk context tree' old new) (sym is) one) walked

-- a statement without inner unknowns by its tree, where what is gathered of the tree was added
pub form-simple : {A E : Type 0} (walk : ProcedureWalk) (context : Context) (around : Around) (thrown : List ExitUnknown) (s : S.Statement) (tree : Statement) (old new : Progress) (result : Result A E)
    → statement_of s ≡ tree → inner_paths (program_of walk.table.now.core.now) tree ≡ [] → made_by_statement tree ≡ 0
    → thrown ≡ old.thrown.items → new ≡ record old { constraints = new.constraints }
    → around.pc ≡ context.pc → exit_unknowns_around around ≡ exit_unknowns_of context.exit_unknowns.now thrown
    → OnOk result (IsSimpleBy walk around tree old.constraints.items new.constraints.items) → OnOk result (IsFormWalkedBy walk context (statement_of s) old new)
form-simple walk context around thrown s tree old new result is none made_none same kept pc_is exit_unknowns_are added =
    form-by walk context s tree old new result is (on_ok_weaker result
    (λ simple. simple-walked walk.table.now.core.now walk.table.now.core.now.labels (entries_of walk.map.now) walk.procedure tree context.pc context.exit_unknowns.now around thrown old new
    none made_none same (ap (λ (p : Progress). p.index) kept) (ap (λ (p : Progress). p.number) kept) (ap (λ (p : Progress). p.thrown.items) kept) (ap (λ (p : Progress). p.journal) kept) pc_is exit_unknowns_are simple)
    added)

-- what a demand on a value and the exits of its statement ask for was added
abbrev pub IsValued : ProcedureWalk → Around → Expression → Exit → (old new : List Stored) → Demand → Type 0
IsValued walk around value exit old new demand =
    IsGatheredBy walk.table.now around.pc (λ named. valued_constraints (scope_in walk) named (exit_unknowns_around around) demand.at (rule_number demand.rule) value demand.target exit) old new
