-- What a walk asks for before a piece, from what it asks for before the whole and what it did up to there.
use Rattle.std.proofs.Common.{◌≡◌, refl, sym, ap, ◌∙◌, subst, ℕ, suc, ◌+◌, ◌<◌, ◌≤◌, List, [], ◌∷◌, ◌++◌, map, drop, get_or, length, arith, Bool, true, ◌&&◌}
use Rattle.std.specs.Prelude.{IsTrue, not, ◌==◌}
use Rattle.std.specs.List.{All, list_any}
use Rattle.std.proofs.lemmas.Bool.{and_parts, ltb-true}
use Rattle.std.proofs.lemmas.List.{length-drop}
use Rattle.std.proofs.lemmas.List.Elements.{All-cons, All-nil}
use Rattle.common.specs.declared.exceptions.TheConstants.{BUILT_IN}
use Rattle.labels.specs.Label.{Label}
use Rattle.labels.specs.LabelTable.{label_at}
use Rattle.resolved.specs.CoreOf.{program_of}
use Rattle.resolved.specs.declared.program.Core.{Core}
use Rattle.resolved.specs.declared.statement.Exit.{Exit}
use Rattle.resolved.specs.declared.statement.Handler.{Handler}
use Rattle.resolved.specs.declared.statement.Statement as S
use Rattle.resolved.specs.declared.tables.Thrown.{Thrown}
use Rattle.resolved.specs.Program.{ProcedureEntry, Program, ThrownEntry}
use Rattle.resolved.specs.ProgramOf.{thrown_entry}
use Rattle.resolved.specs.Tree.{Expression, Statement, Placed, If, While, Try, Nested, Block, Then, Handlers, Catch}
use Rattle.resolved.specs.TreeOf.{block_of, handlers_of, statement_of}
use Rattle.common.specs.declared.base_type.BaseType.TheVariants.{Boolean}
use Rattle.resolved.specs.Exits.{block_exits, one_exit, statement_exits}
use Rattle.resolved.specs.Labelled.{here}
use Rattle.resolved.specs.WellFormed.{block_fits, handlers_fit, has_base, is_exception, label_fits, statement_fits, throws_fit}
use Rattle.path_map.specs.Exits.{Exits}
use Rattle.path_map.specs.Exits.{exits_of}
use Rattle.path_map.specs.Paths.{block_paths, handlers_paths, inner_paths, rest_paths, statement_paths}
use Rattle.path_map.specs.Walks.{exception_count}
use Rattle.gathering.specs.Names.{NamedAtom, NamedConstraint}
use Rattle.gathering.specs.Walk.{handler_count, inner_block, made_by_block, made_by_handlers, made_by_statement, single}
use Rattle.solver.specs.declared.constraints.Atom.{Atom}
use Rattle.constraints.specs.Ready.{AreHandledInside, AreHandlersReady, AreStatementsReady, MayMakeUnknowns, IsBlockReady, IsFormReady, IsReady, IsStatementReady}
use Rattle.constraints.specs.ExitUnknowns.{AreLevelled, exit_unknowns_of, undone}
use Rattle.constraints.specs.LeftSides.{scope_of}
use Rattle.constraints.specs.Walked.{HasPassed, IsBlockWalked, IsStatementWalked, IsTried, IsWalked, step_constraints}
use Rattle.constraints.specs.declared.pieces.Tried.{Tried}
use Rattle.constraints.specs.declared.progress.Progress.{Progress}
use Rattle.constraints.specs.declared.exit_unknowns.ExitUnknown.{ExitUnknown}
use Rattle.constraints.specs.declared.exit_unknowns.ExitUnknowns.{ExitUnknowns}
use Rattle.constraints.proofs.Passed.{levels-same, paths-then}
use Rattle.constraints.proofs.SavedEntries.{undone-length}

-- each handler makes one unknown
pub count-of : (handlers : List Handler) → length handlers ≡ handler_count (handlers_of handlers)
count-of [] = refl
count-of (handler ∷ rest) = ap suc (count-of rest)

-- an entry of a path map that has not ended
pub there-is-next : (entries : List Exits) (i : ℕ) (first : Exits) (rest : List Exits) → drop i entries ≡ first ∷ rest → i < length entries
there-is-next entries i first rest is =
    let count : length (drop i entries) ≡ length (first ∷ rest) = ap length is in
    omega (arith, length-drop i entries, count)

module _ (core : Core) (entries : List Exits) where
  -- for the first piece of several
  pub ready-first : (exit_unknowns : ExitUnknowns) (first second : List (List Exit)) (fits fitting : Bool) (made own more : ℕ) (now : Progress)
      → IsReady core entries exit_unknowns (first ++ second) fits made more now → IsTrue fitting → own ≤ made → IsReady core entries exit_unknowns first fitting own more now
  ready-first exit_unknowns first second fits fitting made own more now ready fit within = record {
    left = map exits_of second ++ ready.left;
    goes_on = paths-then first second (drop now.index entries) ready.left ready.goes_on;
    levelled = ready.levelled;
    wide = ready.wide;
    fitting = fit;
    room = omega (arith, ready.room, within);
    deep = ready.deep;
  }

  -- where only inner unknowns were made
  pub ready-made : (exit_unknowns : ExitUnknowns) (paths : List (List Exit)) (fits : Bool) (whole k rest more : ℕ) (now made : Progress)
      → made ≡ record now { number = now.number + k } → IsReady core entries exit_unknowns paths fits whole more now → k + rest ≤ whole
      → IsReady core entries exit_unknowns paths fits rest (more + k) made
  ready-made exit_unknowns paths fits whole k rest more now made made_is ready within =
      let same : IsReady core entries exit_unknowns paths fits rest (more + k) (record now { number = now.number + k }) = record {
        left = ready.left;
        goes_on = ready.goes_on;
        levelled = ready.levelled;
        wide = ready.wide;
        fitting = ready.fitting;
        room = omega (arith, ready.room, within);
        deep = omega (arith, ready.deep);
      } in
      subst (IsReady core entries exit_unknowns paths fits rest (more + k)) (sym made_is) same

  -- where the exit unknowns of exceptions are the same
  pub ready-moved : (exit_unknowns inner : ExitUnknowns) (first second : List (List Exit)) (fits fitting : Bool) (made own more deeper : ℕ) (old new : Progress)
      → (ready : IsReady core entries exit_unknowns (first ++ second) fits made more old)
      → (drop old.index entries ≡ map exits_of first ++ (map exits_of second ++ ready.left) → drop new.index entries ≡ map exits_of second ++ ready.left)
      → new.thrown.items ≡ old.thrown.items → AreLevelled inner old.thrown.items → IsTrue fitting
      → MayMakeUnknowns own new → inner.level + deeper ≤ new.number
      → IsReady core entries inner second fitting own deeper new
  ready-moved exit_unknowns inner first second fits fitting made own more deeper old new ready moved thrown levelled fit room deep = record {
    left = ready.left;
    goes_on = moved (paths-then first second (drop old.index entries) ready.left ready.goes_on);
    levelled = levels-same inner old.thrown.items new.thrown.items thrown levelled;
    wide = subst (λ list. exception_count core ≤ length list) (sym thrown) ready.wide;
    fitting = fit;
    room = room;
    deep = deep;
  }

  -- for what comes after a piece that was walked past
  pub ready-then : (table : List Label) (pc : Atom) (exit_unknowns own inner : ExitUnknowns) (first second : List (List Exit)) (gathered : NamedAtom → List NamedConstraint) (made : ℕ) (fits fitting : Bool) (whole rest more deeper : ℕ) (old new : Progress)
      → IsReady core entries exit_unknowns (first ++ second) fits whole more old
      → IsWalked core table entries pc own first gathered made old new
      → AreLevelled own old.thrown.items → AreLevelled inner old.thrown.items → IsTrue fitting
      → made + rest ≤ whole → inner.level + deeper ≤ exit_unknowns.level + (more + made)
      → IsReady core entries inner second fitting rest deeper new
  ready-then table pc exit_unknowns own inner first second gathered made fits fitting whole rest more deeper old new ready walked own_levelled levelled fit within levels =
      let passed : HasPassed core table entries pc gathered made (map exits_of second ++ ready.left) old new =
      walked (map exits_of second ++ ready.left) (paths-then first second (drop old.index entries) ready.left ready.goes_on) own_levelled in
      ready-moved exit_unknowns inner first second fits fitting whole rest more deeper old new ready (λ before. passed.entries_left) passed.thrown_is levelled fit
      (omega (arith, ready.room, passed.number_is, within)) (omega (arith, ready.deep, passed.number_is, levels))

  pub form-ready-at : (procedure : ℕ) (s : S.Statement) (tree : Statement) (exit_unknowns : ExitUnknowns) (now : Progress) → statement_of s ≡ tree
      → IsFormReady core entries procedure exit_unknowns (statement_of s) now → IsFormReady core entries procedure exit_unknowns tree now
  form-ready-at procedure s tree exit_unknowns now is ready = subst (λ tree'. IsFormReady core entries procedure exit_unknowns tree' now) is ready

-- the three tests of a branch
pub and-three : (a b c : Bool) → (a && b && c) ≡ true → (a ≡ true) × (b ≡ true) × (c ≡ true)
and-three a b c h =
    let two : ((a && b) ≡ true) × (c ≡ true) = and_parts (a && b) c h in
    let one : (a ≡ true) × (b ≡ true) = and_parts a b two.0 in
    (one.0, one.1, two.1)

-- exceptions that are there have entries
abbrev exceptions : Program → ℕ
exceptions program = BUILT_IN + length program.exceptions

module _ (program : Program) (width : ℕ) (wide : exceptions program ≤ width) where
  pub handled-inside : (procedure : ProcedureEntry) (handlers : List Handler) → handlers_fit program procedure (handlers_of handlers) ≡ true
      → All (λ (handler : Handler). handler.exception < width) handlers
  handled-inside procedure [] fit = All-nil (λ (handler : Handler). handler.exception < width)
  handled-inside procedure (handler ∷ rest) fit =
      let parts = and-three (is_exception program handler.exception) (block_fits program procedure (block_of handler.body.items)) (handlers_fit program procedure (handlers_of rest)) fit in
      let below : handler.exception < exceptions program = ltb-true handler.exception (exceptions program) parts.0 in
      All-cons (λ (h : Handler). h.exception < width) handler rest (omega (arith, below, wide)) (handled-inside procedure rest parts.2)

  pub thrown-inside : (labels : List Label) (throws : List Thrown) → throws_fit program (map (thrown_entry labels) throws) ≡ true
      → All (λ (declared : Thrown). declared.exception < width) throws
  thrown-inside labels [] fit = All-nil (λ (declared : Thrown). declared.exception < width)
  thrown-inside labels (declared ∷ rest) fit =
      let last = and_parts (is_exception program declared.exception && label_fits program.hierarchy (label_at labels declared.label) && not (list_any (λ (other : ThrownEntry). other.exception == declared.exception) (map (thrown_entry labels) rest)))
      (throws_fit program (map (thrown_entry labels) rest)) fit in
      let first = and-three (is_exception program declared.exception) (label_fits program.hierarchy (label_at labels declared.label)) (not (list_any (λ (other : ThrownEntry). other.exception == declared.exception) (map (thrown_entry labels) rest))) last.0 in
      let below : declared.exception < exceptions program = ltb-true declared.exception (exceptions program) first.0 in
      All-cons (λ (d : Thrown). d.exception < width) declared rest (omega (arith, below, wide)) (thrown-inside labels rest last.1)

-- what holds of each element of a list, of the one at an index
pub held-at : {X : Type 0} (P : X → Type 0) (xs : List X) (i : ℕ) (x : X) → All P xs → i < length xs → x ≡ get_or xs i x → P x
held-at P xs i x all inside is = subst P (sym is) (all i x inside)

-- ---- the pieces of each form
module _ (core : Core) (table : List Label) (entries : List Exits) (procedure : ℕ) where
  abbrev fits-block : Block → Bool
  fits-block block = block_fits (program_of core) (here (scope_of core procedure)) block

  abbrev fits-statement : Statement → Bool
  fits-statement tree = statement_fits (program_of core) (here (scope_of core procedure)) tree

  abbrev fits-handlers : Handlers → Bool
  fits-handlers handlers = handlers_fit (program_of core) (here (scope_of core procedure)) handlers

  -- the statements of a block, and what is in a statement, after their own entry
  pub block-goes : (block : Block) (pc : Atom) (exit_unknowns inner : ExitUnknowns) (old begun : Progress)
      → IsBlockReady core entries procedure exit_unknowns block old
      → ((ends : List Exit) → IsWalked core table entries pc exit_unknowns (ends ∷ []) (λ named. single (one_exit ends) named (exit_unknowns_of exit_unknowns old.thrown.items) ends) 0 old begun)
      → ((thrown : List ExitUnknown) → AreLevelled exit_unknowns thrown → AreLevelled inner thrown) → inner.level ≡ exit_unknowns.level
      → AreStatementsReady core entries procedure inner block begun
  block-goes block pc exit_unknowns inner old begun ready begins levels_are level_is =
      let ends : List Exit = block_exits (program_of core) block in
      ready-then core entries table pc exit_unknowns exit_unknowns inner (ends ∷ []) (rest_paths (program_of core) block)
      (λ named. single (one_exit ends) named (exit_unknowns_of exit_unknowns old.thrown.items) ends) 0 (fits-block block) (fits-block block) (made_by_block block) (made_by_block block) 0 0 old begun ready (begins ends)
      ready.levelled (levels_are old.thrown.items ready.levelled) ready.fitting (omega arith) (omega (arith, level_is))

  pub statement-goes : (tree : Statement) (pc : Atom) (exit_unknowns none some inner : ExitUnknowns) (old begun : Progress)
      → IsStatementReady core entries procedure exit_unknowns tree old
      → ((ends : List Exit) → IsWalked core table entries pc none (ends ∷ []) (λ named. single (one_exit ends) named (exit_unknowns_of none old.thrown.items) ends) 0 old begun)
      → ((thrown : List ExitUnknown) → AreLevelled exit_unknowns thrown → AreLevelled none thrown)
      → ((thrown : List ExitUnknown) → AreLevelled exit_unknowns thrown → AreLevelled some thrown)
      → ((thrown : List ExitUnknown) → AreLevelled some thrown → AreLevelled inner thrown) → some.level ≡ exit_unknowns.level → inner.level ≡ some.level
      → IsFormReady core entries procedure inner tree begun
  statement-goes tree pc exit_unknowns none some inner old begun ready begins none_levels some_levels levels_are some_level inner_level =
      let ends : List Exit = statement_exits (program_of core) tree in
      ready-then core entries table pc exit_unknowns none inner (ends ∷ []) (inner_paths (program_of core) tree)
      (λ named. single (one_exit ends) named (exit_unknowns_of none old.thrown.items) ends) 0 (fits-statement tree) (fits-statement tree) (made_by_statement tree) (made_by_statement tree) 1 1 old begun ready (begins ends)
      (none_levels old.thrown.items ready.levelled) (levels_are old.thrown.items (some_levels old.thrown.items ready.levelled)) ready.fitting
      (omega arith) (omega (arith, some_level, inner_level))

  -- the blocks of a branch
  pub if-goes : (at : ℕ) (e : Expression) (then_block else_block : Block) (pc : Atom) (exit_unknowns : ExitUnknowns) (gathered : NamedAtom → List NamedConstraint) (old begun : Progress)
      → IsFormReady core entries procedure exit_unknowns (Placed at (If e then_block else_block)) old
      → IsWalked core table entries pc exit_unknowns [] gathered 1 old begun
      → IsReady core entries exit_unknowns (block_paths (program_of core) then_block ++ block_paths (program_of core) else_block) true
      (made_by_block then_block + made_by_block else_block) 0 begun
  if-goes at e then_block else_block pc exit_unknowns gathered old begun ready walked =
      ready-then core entries table pc exit_unknowns exit_unknowns exit_unknowns [] (block_paths (program_of core) then_block ++ block_paths (program_of core) else_block)
      gathered 1 (fits-statement (Placed at (If e then_block else_block))) true (made_by_statement (Placed at (If e then_block else_block))) (made_by_block then_block + made_by_block else_block) 1 0
      old begun ready walked ready.levelled ready.levelled refl (omega arith) (omega arith)

  pub if-fits : (at : ℕ) (e : Expression) (then_block else_block : Block) → IsTrue (fits-statement (Placed at (If e then_block else_block)))
      → IsTrue (fits-block then_block) × IsTrue (fits-block else_block)
  if-fits at e then_block else_block fit =
      let parts = and-three (has_base (program_of core) (here (scope_of core procedure)) Boolean e) (fits-block then_block) (fits-block else_block) fit in
      (parts.1, parts.2)

  pub if-first : (at : ℕ) (e : Expression) (then_block else_block : Block) (pc : Atom) (exit_unknowns : ExitUnknowns) (gathered : NamedAtom → List NamedConstraint) (old begun : Progress)
      → IsFormReady core entries procedure exit_unknowns (Placed at (If e then_block else_block)) old
      → IsWalked core table entries pc exit_unknowns [] gathered 1 old begun
      → IsBlockReady core entries procedure exit_unknowns then_block begun
  if-first at e then_block else_block pc exit_unknowns gathered old begun ready walked =
      ready-first core entries exit_unknowns (block_paths (program_of core) then_block) (block_paths (program_of core) else_block) true (fits-block then_block)
      (made_by_block then_block + made_by_block else_block) (made_by_block then_block) 0 begun
      (if-goes at e then_block else_block pc exit_unknowns gathered old begun ready walked) (if-fits at e then_block else_block ready.fitting).0 (omega arith)

  pub if-second : (at : ℕ) (e : Expression) (then_block else_block : Block) (pc inner : Atom) (exit_unknowns : ExitUnknowns) (gathered : NamedAtom → List NamedConstraint) (old begun middle : Progress)
      → IsFormReady core entries procedure exit_unknowns (Placed at (If e then_block else_block)) old
      → IsWalked core table entries pc exit_unknowns [] gathered 1 old begun
      → IsBlockWalked core table entries procedure inner exit_unknowns then_block begun middle
      → IsBlockReady core entries procedure exit_unknowns else_block middle
  if-second at e then_block else_block pc inner exit_unknowns gathered old begun middle ready walked first =
      let goes : IsReady core entries exit_unknowns (block_paths (program_of core) then_block ++ block_paths (program_of core) else_block) true
      (made_by_block then_block + made_by_block else_block) 0 begun =
      if-goes at e then_block else_block pc exit_unknowns gathered old begun ready walked in
      ready-then core entries table inner exit_unknowns exit_unknowns exit_unknowns (block_paths (program_of core) then_block) (block_paths (program_of core) else_block)
      (λ named. inner_block (scope_of core procedure) named (exit_unknowns_of exit_unknowns begun.thrown.items) begun.number then_block) (made_by_block then_block)
      true (fits-block else_block) (made_by_block then_block + made_by_block else_block) (made_by_block else_block) 0 0
      begun middle goes first goes.levelled goes.levelled (if-fits at e then_block else_block ready.fitting).1 (omega arith) (omega arith)

  -- the body of a loop
  pub while-goes : (at loop : ℕ) (e : Expression) (body : Block) (pc : Atom) (exit_unknowns inner : ExitUnknowns) (gathered : NamedAtom → List NamedConstraint) (old begun : Progress)
      → IsFormReady core entries procedure exit_unknowns (Placed at (While loop e body)) old
      → IsWalked core table entries pc exit_unknowns [] gathered 2 old begun
      → ((thrown : List ExitUnknown) → AreLevelled exit_unknowns thrown → AreLevelled inner thrown) → inner.level ≡ exit_unknowns.level
      → IsBlockReady core entries procedure inner body begun
  while-goes at loop e body pc exit_unknowns inner gathered old begun ready walked levels_are level_is =
      ready-then core entries table pc exit_unknowns exit_unknowns inner [] (block_paths (program_of core) body) gathered 2
      (fits-statement (Placed at (While loop e body))) (fits-block body) (made_by_statement (Placed at (While loop e body))) (made_by_block body) 1 0 old begun ready walked ready.levelled (levels_are old.thrown.items ready.levelled)
      (and_parts (has_base (program_of core) (here (scope_of core procedure)) Boolean e) (fits-block body) ready.fitting).1 (omega arith) (omega (arith, level_is))

  -- the block and the handlers of a `try`
  pub try-fits : (at : ℕ) (block : Block) (handlers : Handlers) → IsTrue (fits-statement (Placed at (Try block handlers))) → IsTrue (fits-block block) × IsTrue (fits-handlers handlers)
  try-fits at block handlers fit = and_parts (fits-block block) (fits-handlers handlers) fit

  pub try-inside : (at : ℕ) (block : Block) (handlers : List Handler) (exit_unknowns : ExitUnknowns) (old : Progress)
      → IsFormReady core entries procedure exit_unknowns (Placed at (Try block (handlers_of handlers))) old → AreHandledInside handlers old.thrown.items
  try-inside at block handlers exit_unknowns old ready =
      handled-inside (program_of core) (length old.thrown.items) ready.wide (here (scope_of core procedure)) handlers (try-fits at block (handlers_of handlers) ready.fitting).1

  -- there are numbers for its handlers, and a level
  pub try-room : (at : ℕ) (block : Block) (handlers : List Handler) (exit_unknowns : ExitUnknowns) (old : Progress)
      → IsFormReady core entries procedure exit_unknowns (Placed at (Try block (handlers_of handlers))) old → MayMakeUnknowns (length handlers) old × (exit_unknowns.level < old.number)
  try-room at block handlers exit_unknowns old ready = (omega (arith, ready.room, count-of handlers), omega (arith, ready.deep))

  pub try-first : (at : ℕ) (block : Block) (handlers : List Handler) (exit_unknowns : ExitUnknowns) (tried : Tried) (old begun : Progress)
      → IsFormReady core entries procedure exit_unknowns (Placed at (Try block (handlers_of handlers))) old → IsTried exit_unknowns handlers old begun tried
      → IsBlockReady core entries procedure tried.exit_unknowns block begun
  try-first at block handlers exit_unknowns tried old begun ready begins =
      let program : Program = program_of core in
      let paths : List (List Exit) = handlers_paths program (handlers_of handlers) in
      let width : length begun.thrown.items ≡ length old.thrown.items = sym (undone-length tried.saved.items begun.thrown.items) ∙ ap length begins.saved_is in
      record {
        left = map exits_of paths ++ ready.left;
        goes_on = ap (λ i. drop i entries) begins.index_is ∙ paths-then (block_paths program block) paths (drop old.index entries) ready.left ready.goes_on;
        levelled = (begins.taken ready.levelled).levels_are;
        wide = omega (arith, width, ready.wide);
        fitting = (try-fits at block (handlers_of handlers) ready.fitting).0;
        room = omega (arith, ready.room, begins.number_is);
        deep = omega (arith, ready.deep, begins.number_is, begins.level_is);
      }

  pub try-second : (at : ℕ) (block : Block) (handlers : List Handler) (pc : Atom) (exit_unknowns : ExitUnknowns) (tried : Tried) (old begun middle after : Progress)
      → IsFormReady core entries procedure exit_unknowns (Placed at (Try block (handlers_of handlers))) old → IsTried exit_unknowns handlers old begun tried
      → IsBlockWalked core table entries procedure pc tried.exit_unknowns block begun middle
      → after.index ≡ middle.index → after.number ≡ middle.number → after.thrown.items ≡ undone tried.saved.items middle.thrown.items
      → AreHandlersReady core entries procedure exit_unknowns (handlers_of handlers) after
  try-second at block handlers pc exit_unknowns tried old begun middle after ready begins walked index number thrown =
      let program : Program = program_of core in
      let paths : List (List Exit) = handlers_paths program (handlers_of handlers) in
      let beyond : List Exits = map exits_of paths ++ ready.left in
      let passed : HasPassed core table entries pc
      (λ named. inner_block (scope_of core procedure) named (exit_unknowns_of tried.exit_unknowns begun.thrown.items) begun.number block)
      (made_by_block block) beyond begun middle =
      walked beyond (ap (λ i. drop i entries) begins.index_is ∙ paths-then (block_paths program block) paths (drop old.index entries) ready.left ready.goes_on)
      (begins.taken ready.levelled).levels_are in
      ready-moved core entries exit_unknowns exit_unknowns (block_paths program block) paths (fits-statement (Placed at (Try block (handlers_of handlers)))) (fits-handlers (handlers_of handlers))
      (made_by_statement (Placed at (Try block (handlers_of handlers)))) (made_by_handlers (handlers_of handlers)) 1 0 old after ready
      (λ before. ap (λ i. drop i entries) index ∙ passed.entries_left)
      (thrown ∙ (ap (undone tried.saved.items) passed.thrown_is ∙ begins.saved_is)) ready.levelled (try-fits at block (handlers_of handlers) ready.fitting).1
      (omega (arith, ready.room, begins.number_is, passed.number_is, number)) (omega (arith, ready.deep, begins.number_is, passed.number_is, number))

  -- a block in a block
  pub nested-goes : (at : ℕ) (block : Block) (exit_unknowns : ExitUnknowns) (now : Progress)
      → IsFormReady core entries procedure exit_unknowns (Placed at (Nested block)) now → IsBlockReady core entries procedure exit_unknowns block now
  nested-goes at block exit_unknowns now ready = record {
    left = ready.left;
    goes_on = ready.goes_on;
    levelled = ready.levelled;
    wide = ready.wide;
    fitting = ready.fitting;
    room = ready.room;
    deep = omega (arith, ready.deep);
  }

  -- the next statement of a block, and those after it
  pub along-first : (exit_unknowns : ExitUnknowns) (statement : Statement) (rest : Block) (now made : Progress)
      → AreStatementsReady core entries procedure exit_unknowns (Then statement rest) now → made ≡ record now { number = now.number + 1 }
      → IsStatementReady core entries procedure exit_unknowns statement made
  along-first exit_unknowns statement rest now made ready made_is =
      let program : Program = program_of core in
      ready-first core entries exit_unknowns (statement_paths program statement) (rest_paths program rest) (fits-block (Then statement rest)) (fits-statement statement)
      (made_by_statement statement + made_by_block rest) (made_by_statement statement) 1 made
      (ready-made core entries exit_unknowns (rest_paths program (Then statement rest)) (fits-block (Then statement rest)) (made_by_block (Then statement rest)) 1 (made_by_statement statement + made_by_block rest) 0 now made made_is ready (omega arith))
      (and_parts (fits-statement statement) (fits-block rest) ready.fitting).0 (omega arith)

  pub along-second : (pc : Atom) (exit_unknowns : ExitUnknowns) (number : ℕ) (statement : Statement) (rest : Block) (now made new : Progress)
      → AreStatementsReady core entries procedure exit_unknowns (Then statement rest) now → made ≡ record now { number = now.number + 1 }
      → IsStatementWalked core table entries procedure pc exit_unknowns number statement made new
      → AreStatementsReady core entries procedure exit_unknowns rest new
  along-second pc exit_unknowns number statement rest now made new ready made_is walked =
      let program : Program = program_of core in
      let before : IsReady core entries exit_unknowns (statement_paths program statement ++ rest_paths program rest) (fits-block (Then statement rest))
      (made_by_statement statement + made_by_block rest) 1 made =
      ready-made core entries exit_unknowns (rest_paths program (Then statement rest)) (fits-block (Then statement rest)) (made_by_block (Then statement rest)) 1 (made_by_statement statement + made_by_block rest) 0 now made made_is ready (omega arith) in
      ready-then core entries table pc exit_unknowns exit_unknowns exit_unknowns (statement_paths program statement) (rest_paths program rest)
      (λ named. step_constraints (scope_of core procedure) named (exit_unknowns_of exit_unknowns made.thrown.items) number made.number statement) (made_by_statement statement)
      (fits-block (Then statement rest)) (fits-block rest) (made_by_statement statement + made_by_block rest) (made_by_block rest) 1 0 made new before walked before.levelled before.levelled
      (and_parts (fits-statement statement) (fits-block rest) ready.fitting).1 (omega arith) (omega arith)

  -- there is a number for the normal exit of a statement
  pub along-room : (exit_unknowns : ExitUnknowns) (statement : Statement) (rest : Block) (now : Progress)
      → AreStatementsReady core entries procedure exit_unknowns (Then statement rest) now → MayMakeUnknowns 1 now
  along-room exit_unknowns statement rest now ready = omega (arith, ready.room)

  -- and what a statement makes itself
  pub form-room : (exit_unknowns : ExitUnknowns) (tree : Statement) (made : ℕ) (now : Progress)
      → IsFormReady core entries procedure exit_unknowns tree now → made ≤ made_by_statement tree → MayMakeUnknowns made now
  form-room exit_unknowns tree made now ready within = omega (arith, ready.room, within)

  -- the next handler, and those after it
  pub handling-first : (exit_unknowns : ExitUnknowns) (at handled : ℕ) (body : Block) (rest : Handlers) (now : Progress)
      → AreHandlersReady core entries procedure exit_unknowns (Catch at handled body rest) now → IsBlockReady core entries procedure exit_unknowns body now
  handling-first exit_unknowns at handled body rest now ready =
      let program : Program = program_of core in
      ready-first core entries exit_unknowns (block_paths program body) (handlers_paths program rest) (fits-handlers (Catch at handled body rest)) (fits-block body)
      (made_by_handlers (Catch at handled body rest)) (made_by_block body) 0 now ready
      (and-three (is_exception program handled) (fits-block body) (fits-handlers rest) ready.fitting).1 (omega arith)

  pub handling-second : (pc : Atom) (exit_unknowns : ExitUnknowns) (at handled : ℕ) (body : Block) (rest : Handlers) (now new : Progress)
      → AreHandlersReady core entries procedure exit_unknowns (Catch at handled body rest) now
      → IsBlockWalked core table entries procedure pc exit_unknowns body now new
      → AreHandlersReady core entries procedure exit_unknowns rest new
  handling-second pc exit_unknowns at handled body rest now new ready walked =
      let program : Program = program_of core in
      ready-then core entries table pc exit_unknowns exit_unknowns exit_unknowns (block_paths program body) (handlers_paths program rest)
      (λ named. inner_block (scope_of core procedure) named (exit_unknowns_of exit_unknowns now.thrown.items) now.number body) (made_by_block body)
      (fits-handlers (Catch at handled body rest)) (fits-handlers rest) (made_by_handlers (Catch at handled body rest)) (made_by_handlers rest) 0 0
      now new ready walked ready.levelled ready.levelled
      (and-three (is_exception program handled) (fits-block body) (fits-handlers rest) ready.fitting).2 (omega arith) (omega arith)
