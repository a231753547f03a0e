-- What the rules of statements find wrong with exits, alone and without labels, by which code and proofs speak of it.
-- Source: our own.
use Rattle.std.specs.Prelude.{List, [], ◌∷◌, ◌++◌, Bool, true, false, not, ◌&&◌, ◌||◌, filter, is_some}
use Rattle.std.specs.List.{list_all}
use Rattle.resolved.specs.declared.fault.ExitRefusalKind.{ExitRefusalKind}
use Rattle.resolved.specs.declared.fault.ExitRefusalKind.TheVariants.{OutsideLoop, Unreachable, NeverRaised, NoValueReturned, Undeclared}
use Rattle.common.specs.declared.refusal.RefusalAt.{RefusalAt}
use Rattle.resolved.specs.declared.statement.Exit.{Exit}
use Rattle.resolved.specs.declared.statement.Exit.TheVariants.{Normal, Return, Break, Continue, Throw}
use Rattle.resolved.specs.Tree.{Statement, Placed, Assign, Clear, Store, Receive, Send, Call, If, While, Leave, ReturnWith, Try, Nested, Block, Empty, Then, Handlers, NoMore, Catch}
use Rattle.resolved.specs.Program.{Program, ProcedureEntry}
use Rattle.resolved.specs.Exits.{same_exit, has_exit, thrown_exits, fault_unless, declared_by, statement_exits, block_exits}

-- the faults of statements, blocks and handlers. A statement is reached where the one before it can end normally; `break` and
-- `continue` stand in a loop; the exits are those that the handlers before have not taken
abbrev mutual
  pub statement_faults : Program → (in_loop reached : Bool) → Statement → List (RefusalAt ExitRefusalKind)
  statement_faults program in_loop reached (Placed at (Assign x e)) = fault_unless reached Unreachable at
  statement_faults program in_loop reached (Placed at (Clear slot)) = fault_unless reached Unreachable at
  statement_faults program in_loop reached (Placed at (Store array length index e)) = fault_unless reached Unreachable at
  statement_faults program in_loop reached (Placed at (Receive channel target)) = fault_unless reached Unreachable at
  statement_faults program in_loop reached (Placed at (Send channel e)) = fault_unless reached Unreachable at
  statement_faults program in_loop reached (Placed at (Call procedure arguments target)) = fault_unless reached Unreachable at
  statement_faults program in_loop reached (Placed at (If e then_block else_block)) =
      fault_unless reached Unreachable at
      ++ block_faults program in_loop true then_block ++ block_faults program in_loop true else_block
  statement_faults program in_loop reached (Placed at (While loop e body)) =
      fault_unless reached Unreachable at ++ block_faults program true true body
  statement_faults program in_loop reached (Placed at (Leave exit)) =
      fault_unless (not (has_exit (Break ∷ Continue ∷ []) exit) || in_loop) OutsideLoop at ++ fault_unless reached Unreachable at
  statement_faults program in_loop reached (Placed at (ReturnWith value)) = fault_unless reached Unreachable at
  statement_faults program in_loop reached (Placed at (Try block handlers)) =
      fault_unless reached Unreachable at
      ++ block_faults program in_loop true block ++ handlers_faults program in_loop (block_exits program block) handlers
  statement_faults program in_loop reached (Placed at (Nested block)) =
      fault_unless reached Unreachable at ++ block_faults program in_loop true block

  pub block_faults : Program → (in_loop reached : Bool) → Block → List (RefusalAt ExitRefusalKind)
  block_faults program in_loop reached Empty = []
  block_faults program in_loop reached (Then statement rest) =
      statement_faults program in_loop reached statement
      ++ block_faults program in_loop (has_exit (statement_exits program statement) Normal) rest

  pub handlers_faults : Program → (in_loop : Bool) → (exits : List Exit) → Handlers → List (RefusalAt ExitRefusalKind)
  handlers_faults program in_loop exits NoMore = []
  handlers_faults program in_loop exits (Catch at handled body rest) =
      fault_unless (has_exit exits (Throw handled)) NeverRaised at
      ++ block_faults program in_loop true body
      ++ handlers_faults program in_loop (filter (λ exit. not (same_exit (Throw handled) exit)) exits) rest

-- the faults of a procedure: those of its body and then those of its own exits, which stand at its name. It ends normally, by a
-- return or by an exception that it declares
abbrev pub procedure_faults : Program → ProcedureEntry → List (RefusalAt ExitRefusalKind)
procedure_faults program procedure =
    let exits : List Exit = block_exits program procedure.body in
    block_faults program false true procedure.body
    ++ fault_unless (not (is_some procedure.result && has_exit exits Normal)) NoValueReturned procedure.at
    ++ fault_unless (list_all (has_exit (Normal ∷ Return ∷ thrown_exits (declared_by procedure.throws))) exits) Undeclared procedure.at
