-- There are no more unknowns than four times the nodes of a well-formed program.
use Rattle.std.proofs.Common.{◌≡◌, refl, subst, ℕ, suc, ◌+◌, ◌*◌, ◌≤◌, length, length-append, true, List, [], ◌∷◌, ◌++◌, arith}
use Rattle.std.specs.Prelude.{IsTrue, Some, sum_by, slice_get}
use Rattle.std.specs.List.{list_all}
use Rattle.std.proofs.lemmas.Bool.{and_parts}
use Rattle.std.proofs.lemmas.List.Recursion.{is_sum_by}
use Rattle.resolved.specs.Tree.{Statement, Placed, Assign, Clear, Store, Receive, Send, Call, If, While, Leave, ReturnWith, Try, Nested, Block, Empty, Then, Handlers, NoMore, Catch}
use Rattle.resolved.specs.Program.{Program, ProcedureEntry}
use Rattle.resolved.specs.Labelled.{Scope, here}
use Rattle.resolved.specs.WellFormed.{statement_nodes, block_nodes, handlers_nodes, procedure_nodes, program_nodes, statement_loops, block_loops, handlers_loops, procedure_fits, well_formed}
use Rattle.resolved.proofs.WellFormedParts.{ProcedureParts, procedure_parts, program_parts, procedure_at_is}
use Rattle.gathering.specs.Names.{own_unknowns, real_unknowns}
use Rattle.gathering.specs.Walk.{handler_count, made_by_statement, made_by_block, made_by_handlers, made_by_procedure, made_from, unknown_count}
use Rattle.gathering.proofs.Numbers.{total, total-sum}
use Rattle.gathering.proofs.Small.{nodes_in}

mutual
  made-statement : (s : Statement) → made_by_statement s + 1 ≤ 3 * statement_nodes s
  made-statement (Placed at (Assign x e)) = omega arith
  made-statement (Placed at (Clear slot)) = omega arith
  made-statement (Placed at (Store array len index e)) = omega arith
  made-statement (Placed at (Receive channel target)) = omega arith
  made-statement (Placed at (Send channel e)) = omega arith
  made-statement (Placed at (Call callee arguments target)) = omega arith
  made-statement (Placed at (If e then_block else_block)) =
      let i : made_by_block then_block ≤ 3 * block_nodes then_block = made-block then_block in
      let j : made_by_block else_block ≤ 3 * block_nodes else_block = made-block else_block in
      omega (arith, i, j)
  made-statement (Placed at (While loop e body)) = let i : made_by_block body ≤ 3 * block_nodes body = made-block body in omega (arith, i)
  made-statement (Placed at (Leave exit)) = omega arith
  made-statement (Placed at (ReturnWith e)) = omega arith
  made-statement (Placed at (Try block handlers)) =
      let i : made_by_block block ≤ 3 * block_nodes block = made-block block in
      let j : handler_count handlers + made_by_handlers handlers ≤ 3 * handlers_nodes handlers = made-handlers handlers in
      omega (arith, i, j)
  made-statement (Placed at (Nested block)) = let i : made_by_block block ≤ 3 * block_nodes block = made-block block in omega (arith, i)

  made-block : (block : Block) → made_by_block block ≤ 3 * block_nodes block
  made-block Empty = omega arith
  made-block (Then s rest) =
      let i : made_by_statement s + 1 ≤ 3 * statement_nodes s = made-statement s in
      let j : made_by_block rest ≤ 3 * block_nodes rest = made-block rest in
      omega (arith, i, j)

  made-handlers : (handlers : Handlers) → handler_count handlers + made_by_handlers handlers ≤ 3 * handlers_nodes handlers
  made-handlers NoMore = omega arith
  made-handlers (Catch at handled body rest) =
      let i : made_by_block body ≤ 3 * block_nodes body = made-block body in
      let j : handler_count rest + made_by_handlers rest ≤ 3 * handlers_nodes rest = made-handlers rest in
      omega (arith, i, j)

mutual
  loops-statement : (s : Statement) → length (statement_loops s) ≤ statement_nodes s
  loops-statement (Placed at (Assign x e)) = omega arith
  loops-statement (Placed at (Clear slot)) = omega arith
  loops-statement (Placed at (Store array len index e)) = omega arith
  loops-statement (Placed at (Receive channel target)) = omega arith
  loops-statement (Placed at (Send channel e)) = omega arith
  loops-statement (Placed at (Call callee arguments target)) = omega arith
  loops-statement (Placed at (If e then_block else_block)) =
      let i : length (block_loops then_block) ≤ block_nodes then_block = loops-block then_block in
      let j : length (block_loops else_block) ≤ block_nodes else_block = loops-block else_block in
      let k : length (block_loops then_block ++ block_loops else_block) ≡ length (block_loops then_block) + length (block_loops else_block) = length-append (block_loops then_block) (block_loops else_block) in
      omega (arith, i, j, k)
  loops-statement (Placed at (While loop e body)) = let i : length (block_loops body) ≤ block_nodes body = loops-block body in omega (arith, i)
  loops-statement (Placed at (Leave exit)) = omega arith
  loops-statement (Placed at (ReturnWith e)) = omega arith
  loops-statement (Placed at (Try block handlers)) =
      let i : length (block_loops block) ≤ block_nodes block = loops-block block in
      let j : length (handlers_loops handlers) ≤ handlers_nodes handlers = loops-handlers handlers in
      let k : length (block_loops block ++ handlers_loops handlers) ≡ length (block_loops block) + length (handlers_loops handlers) = length-append (block_loops block) (handlers_loops handlers) in
      omega (arith, i, j, k)
  loops-statement (Placed at (Nested block)) = let i : length (block_loops block) ≤ block_nodes block = loops-block block in omega (arith, i)

  loops-block : (block : Block) → length (block_loops block) ≤ block_nodes block
  loops-block Empty = omega arith
  loops-block (Then s rest) =
      let i : length (statement_loops s) ≤ statement_nodes s = loops-statement s in
      let j : length (block_loops rest) ≤ block_nodes rest = loops-block rest in
      let k : length (statement_loops s ++ block_loops rest) ≡ length (statement_loops s) + length (block_loops rest) = length-append (statement_loops s) (block_loops rest) in
      omega (arith, i, j, k)

  loops-handlers : (handlers : Handlers) → length (handlers_loops handlers) ≤ handlers_nodes handlers
  loops-handlers NoMore = omega arith
  loops-handlers (Catch at handled body rest) =
      let i : length (block_loops body) ≤ block_nodes body = loops-block body in
      let j : length (handlers_loops rest) ≤ handlers_nodes rest = loops-handlers rest in
      let k : length (block_loops body ++ handlers_loops rest) ≡ length (block_loops body) + length (handlers_loops rest) = length-append (block_loops body) (handlers_loops rest) in
      omega (arith, i, j, k)

own-count : (program : Program) (procedure : ProcedureEntry) → ProcedureParts program procedure → own_unknowns procedure ≤ procedure_nodes procedure
own-count program procedure parts =
    let i : length (block_loops procedure.body) ≤ block_nodes procedure.body = loops-block procedure.body in
    let j : length (block_loops procedure.body) ≡ procedure.loops = grind (arith, parts.loops_are_all) in
    omega (arith, i, j)

pub real-count : (program : Program) (ps : List ProcedureEntry) → list_all (procedure_fits program) ps ≡ true → total ps ≤ nodes_in ps
real-count program [] h = omega arith
real-count program (p ∷ ps) h =
    let parts = and_parts (procedure_fits program p) (list_all (procedure_fits program) ps) h in
    let i : own_unknowns p ≤ procedure_nodes p = own-count program p (procedure_parts program p parts.0) in
    let j : total ps ≤ nodes_in ps = real-count program ps parts.1 in
    omega (arith, i, j)

procedure-made : (scope : Scope) → made_by_procedure scope ≤ 3 * procedure_nodes (here scope)
procedure-made scope = let i : made_by_block (here scope).body ≤ 3 * block_nodes (here scope).body = made-block (here scope).body in omega (arith, i)

from-made : (program : Program) (ps : List ProcedureEntry) (f : ℕ) → ((k : ℕ) (p : ProcedureEntry) → slice_get ps k ≡ Some p → slice_get program.procedures (f + k) ≡ Some p) →
    made_from program f ps ≤ 3 * nodes_in ps
from-made program [] f same = omega arith
from-made program (p ∷ ps) f same =
    let scope : Scope = record { program = program; number = f } in
    let e : f + 0 ≡ f = omega arith in
    let there : slice_get program.procedures f ≡ Some p = subst (λ z. slice_get program.procedures z ≡ Some p) e (same 0 p refl) in
    let i : made_by_procedure scope ≤ 3 * procedure_nodes p =
    subst (λ (z : ProcedureEntry). made_by_procedure scope ≤ 3 * procedure_nodes z) (procedure_at_is program f p there) (procedure-made scope) in
    let j : made_from program (suc f) ps ≤ 3 * nodes_in ps =
    from-made program ps (suc f) (λ k q at. let g : f + suc k ≡ suc f + k = omega arith in subst (λ z. slice_get program.procedures z ≡ Some q) g (same (suc k) q at)) in
    omega (arith, i, j)

pub unknowns-counted : (program : Program) → IsTrue (well_formed program) → unknown_count program ≤ 4 * program_nodes program
unknowns-counted program formed =
    let i : total program.procedures ≤ nodes_in program.procedures = real-count program program.procedures (program_parts program formed).procedures_fit in
    let j : total program.procedures ≡ real_unknowns program = total-sum program.procedures in
    let k : made_from program 0 program.procedures ≤ 3 * nodes_in program.procedures =
    from-made program program.procedures 0 (λ k p at. let e : k ≡ 0 + k = omega arith in subst (λ z. slice_get program.procedures z ≡ Some p) e at) in
    let l : nodes_in program.procedures ≡ sum_by procedure_nodes program.procedures = is_sum_by nodes_in procedure_nodes refl (λ x xs. refl) program.procedures in
    omega (arith, i, j, k, l)
