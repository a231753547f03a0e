-- The byte at which a statement is reported, and its faults in three parts, by which contracts and proofs speak of them: that it does
-- not stand in a loop, that it is not reached, and what is wrong with the blocks in it; and how a procedure may end.
-- Source: our own.
use Rattle.std.specs.Prelude.{ℕ, List, [], ◌∷◌, ◌++◌, Bool, true, not, ◌||◌}
use Rattle.common.specs.declared.refusal.RefusalAt.{RefusalAt}
use Rattle.resolved.specs.declared.fault.ExitRefusalKind.{ExitRefusalKind}
use Rattle.resolved.specs.declared.statement.Exit.{Exit}
use Rattle.resolved.specs.declared.statement.Exit.TheVariants.{Normal, Return, Break, Continue}
use Rattle.resolved.specs.Tree.{Statement, Placed, Assign, Clear, Store, Receive, Send, Call, If, While, Leave, ReturnWith, Try, Nested}
use Rattle.resolved.specs.Program.{Program, ProcedureEntry}
use Rattle.resolved.specs.Exits.{has_exit, thrown_exits, declared_by, block_exits}
use Rattle.resolved.specs.ExitFaults.{block_faults, handlers_faults}

-- where a statement begins
abbrev pub place_of : Statement → ℕ
place_of (Placed at form) = at

-- whether a statement may stand here: `break` and `continue` in a loop, and every other statement anywhere
abbrev pub may_stand : (in_loop : Bool) → Statement → Bool
may_stand in_loop (Placed at (Leave exit)) = not (has_exit (Break ∷ Continue ∷ []) exit) || in_loop
may_stand in_loop other = true

-- whether a procedure may end in such a way: normally, by a return or by an exception that it declares
abbrev pub may_exit : ProcedureEntry → Exit → Bool
may_exit procedure exit = has_exit (Normal ∷ Return ∷ thrown_exits (declared_by procedure.throws)) exit

-- what is wrong with the blocks in a statement
abbrev pub inner_faults : Program → (in_loop : Bool) → Statement → List (RefusalAt ExitRefusalKind)
inner_faults program in_loop (Placed at (Assign x e)) = []
inner_faults program in_loop (Placed at (Clear slot)) = []
inner_faults program in_loop (Placed at (Store array length index e)) = []
inner_faults program in_loop (Placed at (Receive channel target)) = []
inner_faults program in_loop (Placed at (Send channel e)) = []
inner_faults program in_loop (Placed at (Call procedure arguments target)) = []
inner_faults program in_loop (Placed at (If e then_block else_block)) =
    block_faults program in_loop true then_block ++ block_faults program in_loop true else_block
inner_faults program in_loop (Placed at (While loop e body)) = block_faults program true true body
inner_faults program in_loop (Placed at (Leave exit)) = []
inner_faults program in_loop (Placed at (ReturnWith value)) = []
inner_faults program in_loop (Placed at (Try block handlers)) =
    block_faults program in_loop true block ++ handlers_faults program in_loop (block_exits program block) handlers
inner_faults program in_loop (Placed at (Nested block)) = block_faults program in_loop true block
