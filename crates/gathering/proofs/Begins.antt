-- Three for each unknown and two for each call are no more than eight for each node of a well-formed program.
use Rattle.std.proofs.Common.{◌≡◌, refl, sym, subst, ℕ, suc, ◌+◌, ◌*◌, ◌≤◌, length, length-append, Bool, true, false, List, [], ◌∷◌, ◌++◌, arith}
use Rattle.std.specs.Prelude.{IsTrue, Option, Some, None, if◌then◌else◌, sum_by, slice_get}
use Rattle.std.specs.List.{list_all}
use Rattle.std.proofs.lemmas.Bool.{and_parts}
use Rattle.std.proofs.lemmas.List.Recursion.{is_sum_by}
use Rattle.lattices.specs.Constraints.{renamed}
use Rattle.resolved.specs.declared.expression.Variable.{Variable}
use Rattle.resolved.specs.declared.statement.Exit.{Exit}
use Rattle.resolved.specs.declared.statement.Exit.TheVariants.{Normal, Return, Throw}
use Rattle.resolved.specs.declared.target.Target.TheVariants.{ToBegin, ToChannel, ToEnd, ToLoop, ToValue}
use Rattle.resolved.specs.Tree.{Expression, Integer, Logical, Read, Element, Unary, Binary, Short, Statement, Placed, Assign, Clear, Store, Receive, Send, Call, If, While, Leave, ReturnWith, Try, Nested, Block, Empty, Then, Handlers, NoMore, Catch}
use Rattle.resolved.specs.Program.{Program, ProcedureEntry, ThrownEntry}
use Rattle.common.specs.declared.exceptions.TheConstants.{END}
use Rattle.resolved.specs.Exits.{has_exit, one_exit, index_raises, raises, statement_exits, block_exits}
use Rattle.resolved.specs.Labelled.{Scope, here, one, label_of}
use Rattle.resolved.specs.WellFormed.{expression_nodes, statement_nodes, block_nodes, handlers_nodes, procedure_nodes, program_nodes, statement_loops, block_loops, handlers_loops, procedure_fits, well_formed}
use Rattle.resolved.proofs.WellFormedParts.{procedure_parts, program_parts, procedure_at_is}
use Rattle.gathering.specs.Names.{Real, NamedAtom, NamedConstraint, named_atoms, own_unknowns, real_unknowns}
use Rattle.gathering.specs.Size.{begins}
use Rattle.gathering.specs.Walk.{inner_atom, rule_constraint, target_constraint, ExitUnknowns, with_normal, in_loop, handler_count, handler_number, in_try, thrown_number, flow, flows, raised_flows, single, within_single, by_exits, onward_pc, raise_atoms, store_atoms, call_atoms, call_exits, made_by_statement, made_by_block, made_by_handlers, made_by_procedure, made_from, argument_constraints, call_flows, statement_constraints, block_constraints, handlers_constraints, has_one_exit, end_exit_unknowns, thrown_constraints, exit_constraints, inner_block, procedure_constraints, constraints_from, program_constraints, unknown_count}
use Rattle.gathering.proofs.Numbers.{total, total-sum}
use Rattle.gathering.proofs.Small.{nodes_in}

pub begins-append : (xs ys : List NamedConstraint) → begins (xs ++ ys) ≡ begins xs + begins ys
begins-append [] ys = omega arith
begins-append (x ∷ xs) ys = let i : begins (xs ++ ys) ≡ begins xs + begins ys = begins-append xs ys in omega (arith, i)

begins-flow : (left : List NamedAtom) (o : Option ℕ) → begins (flow left o) ≡ 0
begins-flow left None = refl
begins-flow left (Some k) = refl

begins-flows : (left : List NamedAtom) (exit_unknowns : ExitUnknowns) (ends : List Exit) → begins (flows left exit_unknowns ends) ≡ 0
begins-flows left exit_unknowns [] = refl
begins-flows left exit_unknowns (a ∷ rest) =
    let i : begins (flow left (exit_unknowns a)) ≡ 0 = begins-flow left (exit_unknowns a) in
    let j : begins (flows left exit_unknowns rest) ≡ 0 = begins-flows left exit_unknowns rest in
    let s : begins (flow left (exit_unknowns a) ++ flows left exit_unknowns rest) ≡ begins (flow left (exit_unknowns a)) + begins (flows left exit_unknowns rest) = begins-append (flow left (exit_unknowns a)) (flows left exit_unknowns rest) in
    omega (arith, i, j, s)

begins-single : (b : Bool) (p : NamedAtom) (exit_unknowns : ExitUnknowns) (ends : List Exit) → begins (single b p exit_unknowns ends) ≡ 0
begins-single false p exit_unknowns ends = refl
begins-single true p exit_unknowns [] = refl
begins-single true p exit_unknowns (e ∷ rest) = begins-flow (p ∷ []) (exit_unknowns e)

-- the exits of a statement with a value
begins-own : (q : List NamedAtom) (exit_unknowns : ExitUnknowns) (first : Exit) (raised : List ℕ) → begins (flow q (exit_unknowns first) ++ raised_flows q exit_unknowns raised) ≡ 0
begins-own q exit_unknowns first raised =
    let i : begins (flow q (exit_unknowns first)) ≡ 0 = begins-flow q (exit_unknowns first) in
    let j : begins (raised_flows q exit_unknowns raised) ≡ 0 = begins-flows q exit_unknowns _ in
    let s : begins (flow q (exit_unknowns first) ++ raised_flows q exit_unknowns raised) ≡ begins (flow q (exit_unknowns first)) + begins (raised_flows q exit_unknowns raised) = begins-append (flow q (exit_unknowns first)) (raised_flows q exit_unknowns raised) in
    omega (arith, i, j, s)

-- a block of its own
within : (ends : List Exit) (p : NamedAtom) (exit_unknowns : ExitUnknowns) (walked : ExitUnknowns → List NamedConstraint) (made n : ℕ) → ((t : ExitUnknowns) → 2 * begins (walked t) + made ≤ n) → 2 * begins (by_exits ends p exit_unknowns walked) + made ≤ n
within ends p exit_unknowns walked made n each =
    let t : ExitUnknowns = within_single (one_exit ends) exit_unknowns in
    let i : begins (single (one_exit ends) p exit_unknowns ends) ≡ 0 = begins-single (one_exit ends) p exit_unknowns ends in
    let j : 2 * begins (walked t) + made ≤ n = each t in
    let s : begins (single (one_exit ends) p exit_unknowns ends ++ walked t) ≡ begins (single (one_exit ends) p exit_unknowns ends) + begins (walked t) = begins-append (single (one_exit ends) p exit_unknowns ends) (walked t) in
    omega (arith, i, j, s)

-- an expression has a node
some-nodes : (e : Expression) → 1 ≤ expression_nodes e
some-nodes (Integer n) = omega arith
some-nodes (Logical b) = omega arith
some-nodes (Read x) = omega arith
some-nodes (Element array len index) = omega arith
some-nodes (Unary prefix e) = omega arith
some-nodes (Binary operator d e) = omega arith
some-nodes (Short connective d e) = omega arith

module _ (scope : Scope) where
  begins-target : (at rule : ℕ) (left : List NamedAtom) (target : Option Variable) → begins (target_constraint scope at rule left target) ≡ 0
  begins-target at rule left None = refl
  begins-target at rule left (Some x) = refl

  begins-arguments : (at n callee i : ℕ) (es : List Expression) → begins (argument_constraints scope at n callee i es) ≡ 0
  begins-arguments at n callee i [] = refl
  begins-arguments at n callee i (e ∷ rest) = let j : begins (argument_constraints scope at n callee (suc i) rest) ≡ 0 = begins-arguments at n callee (suc i) rest in omega (arith, j)

  begins-calls : (callee n : ℕ) (exit_unknowns : ExitUnknowns) (ends : List Exit) → begins (call_flows scope.program callee n exit_unknowns ends) ≡ 0
  begins-calls callee n exit_unknowns [] = refl
  begins-calls callee n exit_unknowns (e ∷ rest) =
      let left : List NamedAtom = inner_atom n ∷ named_atoms (call_atoms scope.program callee e) in
      let i : begins (flow left (exit_unknowns e)) ≡ 0 = begins-flow left (exit_unknowns e) in
      let j : begins (call_flows scope.program callee n exit_unknowns rest) ≡ 0 = begins-calls callee n exit_unknowns rest in
      let s : begins (flow left (exit_unknowns e) ++ call_flows scope.program callee n exit_unknowns rest) ≡ begins (flow left (exit_unknowns e)) + begins (call_flows scope.program callee n exit_unknowns rest) =
      begins-append (flow left (exit_unknowns e)) (call_flows scope.program callee n exit_unknowns rest) in
      omega (arith, i, j, s)

  -- statements, with the unknowns that they make and one more in their block
  mutual
    begins-statement : (s : Statement) (p : NamedAtom) (exit_unknowns : ExitUnknowns) (n : ℕ) → 2 * begins (statement_constraints scope p exit_unknowns n s) + 3 * (made_by_statement s + 1) + 3 * length (statement_loops s) ≤ 8 * statement_nodes s
    begins-statement (Placed at (Assign x e)) p exit_unknowns n =
        let i = begins-own (p ∷ named_atoms (raise_atoms scope e)) exit_unknowns Normal (raises e) in
        omega (arith, i)
    begins-statement (Placed at (Clear slot)) p exit_unknowns n =
        let i : begins (flow (p ∷ []) (exit_unknowns Normal)) ≡ 0 = begins-flow (p ∷ []) (exit_unknowns Normal) in omega (arith, i)
    begins-statement (Placed at (Store array len index e)) p exit_unknowns n =
        let i = begins-own (p ∷ named_atoms (store_atoms scope len index e)) exit_unknowns Normal (raises index ++ raises e ++ index_raises index len) in
        omega (arith, i)
    begins-statement (Placed at (Receive channel target)) p exit_unknowns n =
        let q : List NamedAtom = p ∷ named_atoms (one (label_of scope.program (ToChannel channel))) in
        let third : List NamedConstraint = flow q (exit_unknowns Normal) in
        let fourth : List NamedConstraint = flow q (exit_unknowns (Throw END)) in
        let second : List NamedConstraint = target_constraint scope at 4 q target in
        let i : begins second ≡ 0 = begins-target at 4 q target in
        let j : begins third ≡ 0 = begins-flow q (exit_unknowns Normal) in
        let k : begins fourth ≡ 0 = begins-flow q (exit_unknowns (Throw END)) in
        let s : begins (second ++ (third ++ fourth)) ≡ begins second + begins (third ++ fourth) = begins-append second (third ++ fourth) in
        let t : begins (third ++ fourth) ≡ begins third + begins fourth = begins-append third fourth in
        omega (arith, i, j, k, s, t)
    begins-statement (Placed at (Send channel e)) p exit_unknowns n =
        let i = begins-own (p ∷ named_atoms (raise_atoms scope e)) exit_unknowns Normal (raises e) in
        omega (arith, i)
    begins-statement (Placed at (Call callee arguments target)) p exit_unknowns n =
        let given : List NamedAtom = inner_atom n ∷ named_atoms (call_atoms scope.program callee Normal ++ one (label_of scope.program (ToValue callee))) in
        let second : List NamedConstraint = argument_constraints scope at n callee 0 arguments in
        let third : List NamedConstraint = target_constraint scope at 6 given target in
        let fourth : List NamedConstraint = call_flows scope.program callee n exit_unknowns (call_exits scope.program callee arguments) in
        let c : begins second ≡ 0 = begins-arguments at n callee 0 arguments in
        let d : begins third ≡ 0 = begins-target at 6 given target in
        let h : begins fourth ≡ 0 = begins-calls callee n exit_unknowns (call_exits scope.program callee arguments) in
        let s : begins (second ++ (third ++ fourth)) ≡ begins second + begins (third ++ fourth) = begins-append second (third ++ fourth) in
        let t : begins (third ++ fourth) ≡ begins third + begins fourth = begins-append third fourth in
        omega (arith, c, d, h, s, t)
    begins-statement (Placed at (If e then_block else_block)) p exit_unknowns n =
        let pc : NamedAtom = inner_atom n in
        let second : List NamedConstraint = raised_flows (p ∷ named_atoms (raise_atoms scope e)) exit_unknowns (raises e) in
        let third : List NamedConstraint = by_exits (block_exits scope.program then_block) pc exit_unknowns (λ t. block_constraints scope true pc t (suc n) then_block) in
        let fourth : List NamedConstraint = by_exits (block_exits scope.program else_block) pc exit_unknowns (λ t. block_constraints scope true pc t (suc n + made_by_block then_block) else_block) in
        let i : begins second ≡ 0 = begins-flows (p ∷ named_atoms (raise_atoms scope e)) exit_unknowns _ in
        let j : 2 * begins third + (3 * made_by_block then_block + 3 * length (block_loops then_block)) ≤ 8 * block_nodes then_block =
        within (block_exits scope.program then_block) pc exit_unknowns (λ t. block_constraints scope true pc t (suc n) then_block) (3 * made_by_block then_block + 3 * length (block_loops then_block)) (8 * block_nodes then_block)
        (λ t. begins-block then_block true pc t (suc n)) in
        let k : 2 * begins fourth + (3 * made_by_block else_block + 3 * length (block_loops else_block)) ≤ 8 * block_nodes else_block =
        within (block_exits scope.program else_block) pc exit_unknowns (λ t. block_constraints scope true pc t (suc n + made_by_block then_block) else_block) (3 * made_by_block else_block + 3 * length (block_loops else_block)) (8 * block_nodes else_block)
        (λ t. begins-block else_block true pc t (suc n + made_by_block then_block)) in
        let s : begins (second ++ (third ++ fourth)) ≡ begins second + begins (third ++ fourth) = begins-append second (third ++ fourth) in
        let t : begins (third ++ fourth) ≡ begins third + begins fourth = begins-append third fourth in
        let w : length (block_loops then_block ++ block_loops else_block) ≡ length (block_loops then_block) + length (block_loops else_block) = length-append (block_loops then_block) (block_loops else_block) in
        omega (arith, i, j, k, s, t, w)
    begins-statement (Placed at (While loop e body)) p exit_unknowns n =
        let pc : NamedAtom = inner_atom n in
        let loop_atom : NamedAtom = renamed Real (label_of scope.program (ToLoop scope.number loop)) in
        let out : List NamedConstraint = flow (pc ∷ []) (exit_unknowns Normal) in
        let raising : List NamedConstraint = raised_flows (loop_atom ∷ named_atoms (raise_atoms scope e)) exit_unknowns (raises e) in
        let third : List NamedConstraint = by_exits (block_exits scope.program body) pc (in_loop (suc n) exit_unknowns) (λ t. block_constraints scope true pc t (suc (suc n)) body) in
        let fourth : List NamedConstraint = rule_constraint scope at 8 (inner_atom (suc n) ∷ []) (ToLoop scope.number loop) in
        let h : begins out ≡ 0 = begins-flow (pc ∷ []) (exit_unknowns Normal) in
        let i : begins raising ≡ 0 = begins-flows (loop_atom ∷ named_atoms (raise_atoms scope e)) exit_unknowns _ in
        let j : 2 * begins third + (3 * made_by_block body + 3 * length (block_loops body)) ≤ 8 * block_nodes body =
        within (block_exits scope.program body) pc (in_loop (suc n) exit_unknowns) (λ t. block_constraints scope true pc t (suc (suc n)) body) (3 * made_by_block body + 3 * length (block_loops body)) (8 * block_nodes body)
        (λ t. begins-block body true pc t (suc (suc n))) in
        let s : begins (out ++ (raising ++ (third ++ fourth))) ≡ begins out + begins (raising ++ (third ++ fourth)) = begins-append out (raising ++ (third ++ fourth)) in
        let t : begins (raising ++ (third ++ fourth)) ≡ begins raising + begins (third ++ fourth) = begins-append raising (third ++ fourth) in
        let u : begins (third ++ fourth) ≡ begins third + 0 = begins-append third fourth in
        let x : 1 ≤ expression_nodes e = some-nodes e in
        omega (arith, h, i, j, s, t, u, x)
    begins-statement (Placed at (Leave exit)) p exit_unknowns n = let i : begins (flow (p ∷ []) (exit_unknowns exit)) ≡ 0 = begins-flow (p ∷ []) (exit_unknowns exit) in omega (arith, i)
    begins-statement (Placed at (ReturnWith (Some e))) p exit_unknowns n =
        let i = begins-own (p ∷ named_atoms (raise_atoms scope e)) exit_unknowns Return (raises e) in
        omega (arith, i)
    begins-statement (Placed at (ReturnWith None)) p exit_unknowns n = let i : begins (flow (p ∷ []) (exit_unknowns Return)) ≡ 0 = begins-flow (p ∷ []) (exit_unknowns Return) in omega (arith, i)
    begins-statement (Placed at (Try block handlers)) p exit_unknowns n =
        let number : ℕ → ℕ = λ x. handler_number handlers n x in
        let inside : ExitUnknowns = in_try number handlers exit_unknowns in
        let first : List NamedConstraint = by_exits (block_exits scope.program block) p inside (λ t. block_constraints scope true p t (n + handler_count handlers) block) in
        let second : List NamedConstraint = handlers_constraints scope number exit_unknowns ((n + handler_count handlers) + made_by_block block) handlers in
        let i : 2 * begins first + (3 * made_by_block block + 3 * length (block_loops block)) ≤ 8 * block_nodes block =
        within (block_exits scope.program block) p inside (λ t. block_constraints scope true p t (n + handler_count handlers) block) (3 * made_by_block block + 3 * length (block_loops block)) (8 * block_nodes block)
        (λ t. begins-block block true p t (n + handler_count handlers)) in
        let j : 2 * begins second + (3 * (handler_count handlers + made_by_handlers handlers) + 3 * length (handlers_loops handlers)) ≤ 8 * handlers_nodes handlers = begins-handlers handlers number exit_unknowns ((n + handler_count handlers) + made_by_block block) in
        let s : begins (first ++ second) ≡ begins first + begins second = begins-append first second in
        let w : length (block_loops block ++ handlers_loops handlers) ≡ length (block_loops block) + length (handlers_loops handlers) = length-append (block_loops block) (handlers_loops handlers) in
        omega (arith, i, j, s, w)
    begins-statement (Placed at (Nested block)) p exit_unknowns n =
        let i : 2 * begins (statement_constraints scope p exit_unknowns n (Placed at (Nested block))) + (3 * made_by_block block + 3 * length (block_loops block)) ≤ 8 * block_nodes block =
        within (block_exits scope.program block) p exit_unknowns (λ t. block_constraints scope true p t n block) (3 * made_by_block block + 3 * length (block_loops block)) (8 * block_nodes block) (λ t. begins-block block true p t n) in
        omega (arith, i)

    begins-block : (block : Block) (reached : Bool) (p : NamedAtom) (exit_unknowns : ExitUnknowns) (n : ℕ) → 2 * begins (block_constraints scope reached p exit_unknowns n block) + (3 * made_by_block block + 3 * length (block_loops block)) ≤ 8 * block_nodes block
    begins-block Empty true p exit_unknowns n = let i : begins (flow (p ∷ []) (exit_unknowns Normal)) ≡ 0 = begins-flow (p ∷ []) (exit_unknowns Normal) in omega (arith, i)
    begins-block Empty false p exit_unknowns n = omega arith
    begins-block (Then s rest) reached p exit_unknowns n =
        let ends : List Exit = statement_exits scope.program s in
        let inside : ExitUnknowns = within_single (one_exit ends) (with_normal (Some n) exit_unknowns) in
        let pc : NamedAtom = onward_pc (one_exit ends) p n in
        let first : List NamedConstraint = single (one_exit ends) p (with_normal None exit_unknowns) ends in
        let second : List NamedConstraint = statement_constraints scope p inside (suc n) s in
        let third : List NamedConstraint = block_constraints scope (has_exit ends Normal) pc exit_unknowns (suc n + made_by_statement s) rest in
        let i : begins first ≡ 0 = begins-single (one_exit ends) p (with_normal None exit_unknowns) ends in
        let j : 2 * begins second + 3 * (made_by_statement s + 1) + 3 * length (statement_loops s) ≤ 8 * statement_nodes s = begins-statement s p inside (suc n) in
        let k : 2 * begins third + (3 * made_by_block rest + 3 * length (block_loops rest)) ≤ 8 * block_nodes rest = begins-block rest (has_exit ends Normal) pc exit_unknowns (suc n + made_by_statement s) in
        let t : begins (first ++ (second ++ third)) ≡ begins first + begins (second ++ third) = begins-append first (second ++ third) in
        let u : begins (second ++ third) ≡ begins second + begins third = begins-append second third in
        let w : length (statement_loops s ++ block_loops rest) ≡ length (statement_loops s) + length (block_loops rest) = length-append (statement_loops s) (block_loops rest) in
        omega (arith, i, j, k, t, u, w)

    begins-handlers : (handlers : Handlers) (number : ℕ → ℕ) (exit_unknowns : ExitUnknowns) (n : ℕ) → 2 * begins (handlers_constraints scope number exit_unknowns n handlers) + (3 * (handler_count handlers + made_by_handlers handlers) + 3 * length (handlers_loops handlers)) ≤ 8 * handlers_nodes handlers
    begins-handlers NoMore number exit_unknowns n = omega arith
    begins-handlers (Catch at handled body rest) number exit_unknowns n =
        let pc : NamedAtom = inner_atom (number handled) in
        let first : List NamedConstraint = by_exits (block_exits scope.program body) pc exit_unknowns (λ t. block_constraints scope true pc t n body) in
        let second : List NamedConstraint = handlers_constraints scope number exit_unknowns (n + made_by_block body) rest in
        let i : 2 * begins first + (3 * made_by_block body + 3 * length (block_loops body)) ≤ 8 * block_nodes body =
        within (block_exits scope.program body) pc exit_unknowns (λ t. block_constraints scope true pc t n body) (3 * made_by_block body + 3 * length (block_loops body)) (8 * block_nodes body) (λ t. begins-block body true pc t n) in
        let j : 2 * begins second + (3 * (handler_count rest + made_by_handlers rest) + 3 * length (handlers_loops rest)) ≤ 8 * handlers_nodes rest = begins-handlers rest number exit_unknowns (n + made_by_block body) in
        let s : begins (first ++ second) ≡ begins first + begins second = begins-append first second in
        let w : length (block_loops body ++ handlers_loops rest) ≡ length (block_loops body) + length (handlers_loops rest) = length-append (block_loops body) (handlers_loops rest) in
        omega (arith, i, j, s, w)

  -- procedures
  begins-thrown : (number : ℕ → ℕ) (throws : List ThrownEntry) → begins (thrown_constraints scope number throws) ≡ 0
  begins-thrown number [] = refl
  begins-thrown number (entry ∷ rest) = let i : begins (thrown_constraints scope number rest) ≡ 0 = begins-thrown number rest in omega (arith, i)

  begins-end : (n : ℕ) → begins (exit_constraints scope n) ≡ 0
  begins-end n = go (has_one_exit scope)
    where
      rest : List NamedConstraint
      rest = thrown_constraints scope (λ x. thrown_number (here scope).throws (suc n) x) (here scope).throws

      go : (b : Bool) → begins (if b then [] else (rule_constraint scope (here scope).at 13 (inner_atom n ∷ []) (ToEnd scope.number) ++ rest)) ≡ 0
      go true = refl
      go false = let i : begins rest ≡ 0 = begins-thrown (λ x. thrown_number (here scope).throws (suc n) x) (here scope).throws in omega (arith, i)

  begins-procedure : (n : ℕ) → length (block_loops (here scope).body) ≡ (here scope).loops → 2 * begins (procedure_constraints scope n) + 3 * made_by_procedure scope + 3 * own_unknowns (here scope) ≤ 8 * procedure_nodes (here scope)
  begins-procedure n loops =
      let body : Block = (here scope).body in
      let pc : NamedAtom = renamed Real (label_of scope.program (ToBegin scope.number)) in
      let m : ℕ = suc n + length (here scope).throws in
      let first : List NamedConstraint = inner_block scope pc (end_exit_unknowns scope n) m body in
      let i : 2 * begins first + (3 * made_by_block body + 3 * length (block_loops body)) ≤ 8 * block_nodes body =
      within (block_exits scope.program body) pc (end_exit_unknowns scope n) (λ t. block_constraints scope true pc t m body) (3 * made_by_block body + 3 * length (block_loops body)) (8 * block_nodes body) (λ t. begins-block body true pc t m) in
      let j : begins (exit_constraints scope n) ≡ 0 = begins-end n in
      let s : begins (first ++ exit_constraints scope n) ≡ begins first + begins (exit_constraints scope n) = begins-append first (exit_constraints scope n) in
      omega (arith, i, j, s)

from-begins : (program : Program) (ps : List ProcedureEntry) (f n : ℕ) → list_all (procedure_fits program) ps ≡ true →
    ((k : ℕ) (p : ProcedureEntry) → slice_get ps k ≡ Some p → slice_get program.procedures (f + k) ≡ Some p) →
    2 * begins (constraints_from program f n ps) + 3 * made_from program f ps + 3 * total ps ≤ 8 * nodes_in ps
from-begins program [] f n fit same = omega arith
from-begins program (p ∷ ps) f n fit same =
    let scope : Scope = record { program = program; number = f } in
    let e : f + 0 ≡ f = omega arith in
    let there : slice_get program.procedures f ≡ Some p = subst (λ z. slice_get program.procedures z ≡ Some p) e (same 0 p refl) in
    let parts = and_parts (procedure_fits program p) (list_all (procedure_fits program) ps) fit in
    let is : here scope ≡ p = procedure_at_is program f p there in
    let loops : length (block_loops p.body) ≡ p.loops = grind (arith, (procedure_parts program p parts.0).loops_are_all) in
    let rest : List NamedConstraint = constraints_from program (suc f) (n + made_by_procedure scope) ps in
    let i : 2 * begins (procedure_constraints scope n) + 3 * made_by_procedure scope + 3 * own_unknowns p ≤ 8 * procedure_nodes p =
    subst (λ (z : ProcedureEntry). 2 * begins (procedure_constraints scope n) + 3 * made_by_procedure scope + 3 * own_unknowns z ≤ 8 * procedure_nodes z) is
    (begins-procedure scope n (subst (λ (z : ProcedureEntry). length (block_loops z.body) ≡ z.loops) (sym is) loops)) in
    let j : 2 * begins rest + 3 * made_from program (suc f) ps + 3 * total ps ≤ 8 * nodes_in ps =
    from-begins program ps (suc f) (n + made_by_procedure scope) parts.1 (λ k q at. let g : f + suc k ≡ suc f + k = omega arith in subst (λ z. slice_get program.procedures z ≡ Some q) g (same (suc k) q at)) in
    let s : begins (procedure_constraints scope n ++ rest) ≡ begins (procedure_constraints scope n) + begins rest = begins-append (procedure_constraints scope n) rest in
    omega (arith, i, j, s)

pub calls-counted : (program : Program) → IsTrue (well_formed program) → 3 * unknown_count program + 2 * begins (program_constraints program) ≤ 8 * program_nodes program
calls-counted program formed =
    let j : total program.procedures ≡ real_unknowns program = total-sum program.procedures in
    let k : 2 * begins (program_constraints program) + 3 * made_from program 0 program.procedures + 3 * total program.procedures ≤ 8 * nodes_in program.procedures =
    from-begins program program.procedures 0 (real_unknowns program) (program_parts program formed).procedures_fit (λ k p at. let e : k ≡ 0 + k = omega arith in subst (λ z. slice_get program.procedures z ≡ Some p) e at) in
    let l : nodes_in program.procedures ≡ sum_by procedure_nodes program.procedures = is_sum_by nodes_in procedure_nodes refl (λ x xs. refl) program.procedures in
    omega (arith, j, k, l)
