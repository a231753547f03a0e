-- What is gathered is no larger than the program, up to a factor, and the exceptions that callees declare.
use Rattle.std.proofs.Common.{◌≡◌, refl, ap, subst, ℕ, zero, suc, ◌+◌, ◌*◌, ◌≤◌, length, length-append, Bool, true, false, ◌&&◌, List, [], ◌∷◌, ◌++◌, arith}
use Rattle.std.specs.Prelude.{Option, Some, None, if◌then◌else◌, ◌==◌, map, sum_by, slice_get, flat_map}
use Rattle.std.specs.List.{list_any}
use Rattle.std.proofs.lemmas.List.{length-map}
use Rattle.std.proofs.lemmas.List.Recursion.{is_sum_by}
use Rattle.common.proofs.Cases.{filtered_length}
use Rattle.lattices.specs.Constraints.{renamed}
use Rattle.resolved.specs.declared.expression.Variable.{Variable}
use Rattle.resolved.specs.declared.statement.Exit.{Exit}
use Rattle.resolved.specs.declared.statement.Exit.TheVariants.{Normal, Return, Break, Continue, Throw}
use Rattle.resolved.specs.declared.target.Target.{Target}
use Rattle.resolved.specs.declared.target.Target.TheVariants.{ToVariable, ToChannel, ToBegin, ToValue, ToEnd, ToLoop}
use Rattle.resolved.specs.Tree.{Expression, Integer, Logical, Read, Element, Unary, Binary, Short, Statement, Placed, Assign, Clear, Store, Receive, Send, Call, If, While, Leave, ReturnWith, Try, Nested, Block, Empty, Then, Handlers, NoMore, Catch}
use Rattle.resolved.specs.Program.{Program, ProcedureEntry, ThrownEntry, procedure_at}
use Rattle.common.specs.declared.exceptions.TheConstants.{ARITH, BOUNDS, END}
use Rattle.resolved.specs.Exits.{has_exit, one_exit, index_can_raise, divisor_can_raise, is_division, index_raises, raises, thrown_exits, declared_by, statement_exits, block_exits, list_if}
use Rattle.resolved.specs.Labelled.{Scope, here, Join, one, label_of, value_label, any_of}
use Rattle.resolved.specs.WellFormed.{expression_nodes, statement_nodes, block_nodes, handlers_nodes, procedure_nodes, program_nodes}
use Rattle.resolved.proofs.WellFormedParts.{procedure_at_is}
use Rattle.gathering.specs.Names.{Real, NamedAtom, NamedConstraint, named_atoms, numbered, real_unknowns}
use Rattle.gathering.specs.Walk.{inner_atom, rule_constraint, target_constraint, ExitUnknowns, with_normal, in_loop, handler_count, handler_number, in_try, thrown_number, flow, flows, raised_once, raised_flows, single, within_single, by_exits, inner_block, onward_pc, raise_atoms, raise_atoms_all, store_atoms, call_atoms, made_by_statement, made_by_block, made_by_procedure, argument_constraints, call_flows, call_exits, call_constraints, statement_constraints, block_constraints, handlers_constraints, has_one_exit, end_exit_unknowns, thrown_constraints, exit_constraints, procedure_constraints, constraints_from, program_constraints, gathered_constraints}
use Rattle.gathering.specs.Size.{size_of, declared_at, declared_in, declared_under, declared_at_calls}

size-append : (xs ys : List NamedConstraint) → size_of (xs ++ ys) ≡ size_of xs + size_of ys
size-append [] ys = omega arith
size-append (x ∷ xs) ys = let i : size_of (xs ++ ys) ≡ size_of xs + size_of ys = size-append xs ys in omega (arith, i)

named-length : (j : Join) → length (named_atoms j) ≡ length j
named-length [] = refl
named-length (a ∷ rest) = ap suc (named-length rest)

-- ---- left sides
module _ (scope : Scope) where
  value-length : (e : Expression) → length (value_label scope e) ≤ expression_nodes e
  value-length (Integer n) = omega arith
  value-length (Logical b) = omega arith
  value-length (Read x) = omega arith
  value-length (Element array len index) = let i : length (value_label scope index) ≤ expression_nodes index = value-length index in omega (arith, i)
  value-length (Unary prefix e) = let i : length (value_label scope e) ≤ expression_nodes e = value-length e in omega (arith, i)
  value-length (Binary operator d e) =
      let i : length (value_label scope d) ≤ expression_nodes d = value-length d in
      let j : length (value_label scope e) ≤ expression_nodes e = value-length e in
      let k : length (value_label scope d ++ value_label scope e) ≡ length (value_label scope d) + length (value_label scope e) = length-append (value_label scope d) (value_label scope e) in
      omega (arith, i, j, k)
  value-length (Short connective d e) =
      let i : length (value_label scope d) ≤ expression_nodes d = value-length d in
      let j : length (value_label scope e) ≤ expression_nodes e = value-length e in
      let k : length (value_label scope d ++ value_label scope e) ≡ length (value_label scope d) + length (value_label scope e) = length-append (value_label scope d) (value_label scope e) in
      omega (arith, i, j, k)

  if-length : (b : Bool) (x y : Join) (n : ℕ) → length x ≤ n → length y ≤ n → length (if b then x else y) ≤ n
  if-length true x y n h k = h
  if-length false x y n h k = k

  raise-length : (e : Expression) → length (raise_atoms scope e) ≤ expression_nodes e
  raise-length (Integer n) = omega arith
  raise-length (Logical b) = omega arith
  raise-length (Read x) = omega arith
  raise-length (Element array len index) =
      let i : length (if index_can_raise index len then value_label scope index else raise_atoms scope index) ≤ expression_nodes index =
      if-length (index_can_raise index len) (value_label scope index) (raise_atoms scope index) (expression_nodes index) (value-length index) (raise-length index) in
      omega (arith, i)
  raise-length (Unary prefix e) = let i : length (raise_atoms scope e) ≤ expression_nodes e = raise-length e in omega (arith, i)
  raise-length (Binary operator d e) =
      let x : Join = if is_division operator && divisor_can_raise e then value_label scope e else raise_atoms scope e in
      let i : length (raise_atoms scope d) ≤ expression_nodes d = raise-length d in
      let j : length x ≤ expression_nodes e =
      if-length (is_division operator && divisor_can_raise e) (value_label scope e) (raise_atoms scope e) (expression_nodes e) (value-length e) (raise-length e) in
      let k : length (raise_atoms scope d ++ x) ≡ length (raise_atoms scope d) + length x = length-append (raise_atoms scope d) x in
      omega (arith, i, j, k)
  raise-length (Short connective d e) =
      let x : Join = if any_of (raises e) then value_label scope d else raise_atoms scope d in
      let i : length (raise_atoms scope e) ≤ expression_nodes e = raise-length e in
      let j : length x ≤ expression_nodes d = if-length (any_of (raises e)) (value_label scope d) (raise_atoms scope d) (expression_nodes d) (value-length d) (raise-length d) in
      let k : length (raise_atoms scope e ++ x) ≡ length (raise_atoms scope e) + length x = length-append (raise_atoms scope e) x in
      omega (arith, i, j, k)

-- ---- flows
flow-size : (left : List NamedAtom) (o : Option ℕ) → size_of (flow left o) ≤ suc (length left)
flow-size left None = omega arith
flow-size left (Some k) = omega arith

flows-size : (left : List NamedAtom) (exit_unknowns : ExitUnknowns) (ends : List Exit) → length ends ≤ 2 → size_of (flows left exit_unknowns ends) ≤ 2 * suc (length left)
flows-size left exit_unknowns [] h = omega arith
flows-size left exit_unknowns (a ∷ []) h =
    let i : size_of (flow left (exit_unknowns a)) ≤ suc (length left) = flow-size left (exit_unknowns a) in
    let s : size_of (flow left (exit_unknowns a) ++ []) ≡ size_of (flow left (exit_unknowns a)) + 0 = size-append (flow left (exit_unknowns a)) [] in
    omega (arith, i, s)
flows-size left exit_unknowns (a ∷ b ∷ []) h =
    let i : size_of (flow left (exit_unknowns a)) ≤ suc (length left) = flow-size left (exit_unknowns a) in
    let j : size_of (flow left (exit_unknowns b)) ≤ suc (length left) = flow-size left (exit_unknowns b) in
    let s : size_of (flow left (exit_unknowns a) ++ (flow left (exit_unknowns b) ++ [])) ≡ size_of (flow left (exit_unknowns a)) + size_of (flow left (exit_unknowns b) ++ []) = size-append (flow left (exit_unknowns a)) (flow left (exit_unknowns b) ++ []) in
    let t : size_of (flow left (exit_unknowns b) ++ []) ≡ size_of (flow left (exit_unknowns b)) + 0 = size-append (flow left (exit_unknowns b)) [] in
    omega (arith, i, j, s, t)
flows-size left exit_unknowns (a ∷ b ∷ c ∷ rest) h = absurd (omega (arith, h))

once-length : (raised : List ℕ) → length (raised_once raised) ≤ 2
once-length raised = filtered_length (λ x. list_any (λ y. x == y) raised) (ARITH ∷ BOUNDS ∷ [])

raised-size : (left : List NamedAtom) (exit_unknowns : ExitUnknowns) (raised : List ℕ) → size_of (raised_flows left exit_unknowns raised) ≤ 2 * suc (length left)
raised-size left exit_unknowns raised =
    let i : length (raised_once raised) ≤ 2 = once-length raised in
    let e : length (thrown_exits (raised_once raised)) ≡ length (raised_once raised) = length-map (raised_once raised) (λ exception. Throw exception) in
    flows-size left exit_unknowns (thrown_exits (raised_once raised)) (omega (arith, i, e))

own-size : (q : List NamedAtom) (exit_unknowns : ExitUnknowns) (first : Exit) (raised : List ℕ) → size_of (flow q (exit_unknowns first) ++ raised_flows q exit_unknowns raised) ≤ 3 * suc (length q)
own-size q exit_unknowns first raised =
    let i : size_of (flow q (exit_unknowns first)) ≤ suc (length q) = flow-size q (exit_unknowns first) in
    let j : size_of (raised_flows q exit_unknowns raised) ≤ 2 * suc (length q) = raised-size q exit_unknowns raised in
    let s : size_of (flow q (exit_unknowns first) ++ raised_flows q exit_unknowns raised) ≡ size_of (flow q (exit_unknowns first)) + size_of (raised_flows q exit_unknowns raised) = size-append (flow q (exit_unknowns first)) (raised_flows q exit_unknowns raised) in
    omega (arith, i, j, s)

single-size : (b : Bool) (p : NamedAtom) (exit_unknowns : ExitUnknowns) (ends : List Exit) → size_of (single b p exit_unknowns ends) ≤ 2
single-size false p exit_unknowns ends = omega arith
single-size true p exit_unknowns [] = omega arith
single-size true p exit_unknowns (e ∷ rest) = let i : size_of (flow (p ∷ []) (exit_unknowns e)) ≤ suc (suc zero) = flow-size (p ∷ []) (exit_unknowns e) in omega (arith, i)

-- a block of its own, by the size of its statements
by_exits-size : (ends : List Exit) (p : NamedAtom) (exit_unknowns : ExitUnknowns) (walked : ExitUnknowns → List NamedConstraint) (n : ℕ) → ((t : ExitUnknowns) → size_of (walked t) ≤ n) → size_of (by_exits ends p exit_unknowns walked) ≤ 2 + n
by_exits-size ends p exit_unknowns walked n each =
    let t : ExitUnknowns = within_single (one_exit ends) exit_unknowns in
    let i : size_of (single (one_exit ends) p exit_unknowns ends) ≤ 2 = single-size (one_exit ends) p exit_unknowns ends in
    let j : size_of (walked t) ≤ n = each t in
    let s : size_of (single (one_exit ends) p exit_unknowns ends ++ walked t) ≡ size_of (single (one_exit ends) p exit_unknowns ends) + size_of (walked t) = size-append (single (one_exit ends) p exit_unknowns ends) (walked t) in
    omega (arith, i, j, s)

module _ (scope : Scope) where
  -- a statement with one demand, and its exits
  demanding-size : (at rule : ℕ) (p : NamedAtom) (left q : Join) (target : Target) (exit_unknowns : ExitUnknowns) (first : Exit) (raised : List ℕ) (n : ℕ) → length left ≤ n → length q ≤ n →
      size_of (rule_constraint scope at rule (p ∷ named_atoms left) target ++ (flow (p ∷ named_atoms q) (exit_unknowns first) ++ raised_flows (p ∷ named_atoms q) exit_unknowns raised)) ≤ 8 + 4 * n
  demanding-size at rule p left q target exit_unknowns first raised n h k =
      let own : List NamedAtom = p ∷ named_atoms q in
      let out : List NamedConstraint = flow own (exit_unknowns first) ++ raised_flows own exit_unknowns raised in
      let i : size_of out ≤ 3 * suc (suc (length (named_atoms q))) = own-size own exit_unknowns first raised in
      let l : length (named_atoms left) ≡ length left = named-length left in
      let m : length (named_atoms q) ≡ length q = named-length q in
      omega (arith, i, l, m, h, k)

  target-size : (at rule : ℕ) (left : List NamedAtom) (target : Option Variable) → size_of (target_constraint scope at rule left target) ≤ suc (length left)
  target-size at rule left None = omega arith
  target-size at rule left (Some x) = omega arith

  -- calls
  call_atoms-length : (callee : ℕ) (e : Exit) → length (call_atoms scope.program callee e) ≤ 1
  call_atoms-length callee Normal = go (any_of (procedure_at scope.program callee).throws)
    where
      go : (b : Bool) → length (list_if b (one (label_of scope.program (ToEnd callee)))) ≤ 1
      go true = omega arith
      go false = omega arith
  call_atoms-length callee Return = omega arith
  call_atoms-length callee Break = omega arith
  call_atoms-length callee Continue = omega arith
  call_atoms-length callee (Throw x) = omega arith

  call_flows-size : (callee n : ℕ) (exit_unknowns : ExitUnknowns) (ends : List Exit) → size_of (call_flows scope.program callee n exit_unknowns ends) ≤ 3 * length ends
  call_flows-size callee n exit_unknowns [] = omega arith
  call_flows-size callee n exit_unknowns (e ∷ rest) =
      let left : List NamedAtom = inner_atom n ∷ named_atoms (call_atoms scope.program callee e) in
      let i : size_of (flow left (exit_unknowns e)) ≤ suc (suc (length (named_atoms (call_atoms scope.program callee e)))) = flow-size left (exit_unknowns e) in
      let l : length (named_atoms (call_atoms scope.program callee e)) ≡ length (call_atoms scope.program callee e) = named-length (call_atoms scope.program callee e) in
      let k : length (call_atoms scope.program callee e) ≤ 1 = call_atoms-length callee e in
      let j : size_of (call_flows scope.program callee n exit_unknowns rest) ≤ 3 * length rest = call_flows-size callee n exit_unknowns rest in
      let s : size_of (flow left (exit_unknowns e) ++ call_flows scope.program callee n exit_unknowns rest) ≡ size_of (flow left (exit_unknowns e)) + size_of (call_flows scope.program callee n exit_unknowns rest) = size-append (flow left (exit_unknowns e)) (call_flows scope.program callee n exit_unknowns rest) in
      omega (arith, i, l, k, j, s)

  abbrev nodes_of : List Expression → ℕ
  nodes_of [] = 0
  nodes_of (e ∷ rest) = expression_nodes e + nodes_of rest

  nodes-one : (e : Expression) → 1 ≤ expression_nodes e
  nodes-one (Integer n) = omega arith
  nodes-one (Logical b) = omega arith
  nodes-one (Read x) = omega arith
  nodes-one (Element array len index) = omega arith
  nodes-one (Unary prefix e) = omega arith
  nodes-one (Binary operator d e) = omega arith
  nodes-one (Short connective d e) = omega arith

  arguments-size : (at n callee i : ℕ) (es : List Expression) → size_of (argument_constraints scope at n callee i es) ≤ 3 * nodes_of es
  arguments-size at n callee i [] = omega arith
  arguments-size at n callee i (e ∷ rest) =
      let j : size_of (argument_constraints scope at n callee (suc i) rest) ≤ 3 * nodes_of rest = arguments-size at n callee (suc i) rest in
      let l : length (named_atoms (value_label scope e)) ≡ length (value_label scope e) = named-length (value_label scope e) in
      let v : length (value_label scope e) ≤ expression_nodes e = value-length scope e in
      let o : 1 ≤ expression_nodes e = nodes-one e in
      omega (arith, j, l, v, o)

  raise_all-length : (es : List Expression) → length (raise_atoms_all scope es) ≤ nodes_of es
  raise_all-length [] = omega arith
  raise_all-length (e ∷ rest) =
      let i : length (raise_atoms scope e) ≤ expression_nodes e = raise-length scope e in
      let j : length (raise_atoms_all scope rest) ≤ nodes_of rest = raise_all-length rest in
      let k : length (raise_atoms scope e ++ raise_atoms_all scope rest) ≡ length (raise_atoms scope e) + length (raise_atoms_all scope rest) = length-append (raise_atoms scope e) (raise_atoms_all scope rest) in
      omega (arith, i, j, k)

  pub call-size : (p : NamedAtom) (exit_unknowns : ExitUnknowns) (n at callee : ℕ) (arguments : List Expression) (target : Option Variable) →
      size_of (call_constraints scope p exit_unknowns n at callee arguments target) ≤ 17 + (4 * nodes_of arguments + 3 * length (procedure_at scope.program callee).throws)
  call-size p exit_unknowns n at callee arguments target =
      let throws : List ThrownEntry = (procedure_at scope.program callee).throws in
      let x : Join = call_atoms scope.program callee Normal in
      let v : Join = one (label_of scope.program (ToValue callee)) in
      let given : List NamedAtom = inner_atom n ∷ named_atoms (x ++ v) in
      let ends : List Exit = call_exits scope.program callee arguments in
      let second : List NamedConstraint = argument_constraints scope at n callee 0 arguments in
      let third : List NamedConstraint = target_constraint scope at 6 given target in
      let fourth : List NamedConstraint = call_flows scope.program callee n exit_unknowns ends in
      let a : length (named_atoms (raise_atoms_all scope arguments)) ≡ length (raise_atoms_all scope arguments) = named-length (raise_atoms_all scope arguments) in
      let b : length (raise_atoms_all scope arguments) ≤ nodes_of arguments = raise_all-length arguments in
      let c : size_of second ≤ 3 * nodes_of arguments = arguments-size at n callee 0 arguments in
      let d : size_of third ≤ suc (suc (length (named_atoms (x ++ v)))) = target-size at 6 given target in
      let e : length (named_atoms (x ++ v)) ≡ length (x ++ v) = named-length (x ++ v) in
      let f : length (x ++ v) ≡ length x + 1 = length-append x v in
      let g : length x ≤ 1 = call_atoms-length callee Normal in
      let h : size_of fourth ≤ 3 * length ends = call_flows-size callee n exit_unknowns ends in
      let raised : List ℕ = raised_once (flat_map raises arguments) in
      let i : length (raised ++ declared_by throws) ≡ length raised + length (declared_by throws) = length-append raised (declared_by throws) in
      let j : length (declared_by throws) ≡ length throws = length-map throws (λ (entry : ThrownEntry). entry.exception) in
      let k : length raised ≤ 2 = once-length (flat_map raises arguments) in
      let l : length ends ≡ suc (length (thrown_exits (raised ++ declared_by throws))) = refl in
      let m : length (thrown_exits (raised ++ declared_by throws)) ≡ length (raised ++ declared_by throws) = length-map (raised ++ declared_by throws) (λ exception. Throw exception) in
      let s : size_of (second ++ (third ++ fourth)) ≡ size_of second + size_of (third ++ fourth) = size-append second (third ++ fourth) in
      let t : size_of (third ++ fourth) ≡ size_of third + size_of fourth = size-append third fourth in
      omega (arith, a, b, c, d, e, f, g, h, i, j, k, l, m, s, t)

  -- ---- statements, of which each has two more in its block
  mutual
    statement-size : (s : Statement) (p : NamedAtom) (exit_unknowns : ExitUnknowns) (n : ℕ) → size_of (statement_constraints scope p exit_unknowns n s) + 2 ≤ 20 * statement_nodes s + 3 * declared_at scope.program s
    statement-size (Placed at (Assign x e)) p exit_unknowns n =
        let i : size_of (statement_constraints scope p exit_unknowns n (Placed at (Assign x e))) ≤ 8 + 4 * expression_nodes e =
        demanding-size at 1 p (value_label scope e) (raise_atoms scope e) (ToVariable scope.number x) exit_unknowns Normal (raises e) (expression_nodes e) (value-length scope e) (raise-length scope e) in
        omega (arith, i)
    statement-size (Placed at (Clear slot)) p exit_unknowns n =
        let i : size_of (flow (p ∷ []) (exit_unknowns Normal)) ≤ suc (suc zero) = flow-size (p ∷ []) (exit_unknowns Normal) in omega (arith, i)
    statement-size (Placed at (Store array len index e)) p exit_unknowns n =
        let x : Join = if index_can_raise index len then value_label scope index else raise_atoms scope index in
        let nodes : ℕ = expression_nodes index + expression_nodes e in
        let a : length (value_label scope index) ≤ expression_nodes index = value-length scope index in
        let b : length (value_label scope e) ≤ expression_nodes e = value-length scope e in
        let c : length (value_label scope index ++ value_label scope e) ≡ length (value_label scope index) + length (value_label scope e) = length-append (value_label scope index) (value_label scope e) in
        let d : length x ≤ expression_nodes index = if-length scope (index_can_raise index len) (value_label scope index) (raise_atoms scope index) (expression_nodes index) a (raise-length scope index) in
        let f : length (raise_atoms scope e) ≤ expression_nodes e = raise-length scope e in
        let g : length (x ++ raise_atoms scope e) ≡ length x + length (raise_atoms scope e) = length-append x (raise_atoms scope e) in
        let i : size_of (statement_constraints scope p exit_unknowns n (Placed at (Store array len index e))) ≤ 8 + 4 * nodes =
        demanding-size at 3 p (value_label scope index ++ value_label scope e) (store_atoms scope len index e) (ToVariable scope.number array) exit_unknowns Normal (raises index ++ raises e ++ index_raises index len) nodes
        (omega (arith, a, b, c)) (omega (arith, d, f, g)) in
        omega (arith, i)
    statement-size (Placed at (Receive channel target)) p exit_unknowns n =
        let q : List NamedAtom = p ∷ named_atoms (one (label_of scope.program (ToChannel channel))) in
        let third : List NamedConstraint = flow q (exit_unknowns Normal) in
        let fourth : List NamedConstraint = flow q (exit_unknowns (Throw END)) in
        let second : List NamedConstraint = target_constraint scope at 4 q target in
        let i : size_of second ≤ 3 = target-size at 4 q target in
        let j : size_of third ≤ 3 = flow-size q (exit_unknowns Normal) in
        let k : size_of fourth ≤ 3 = flow-size q (exit_unknowns (Throw END)) in
        let s : size_of (second ++ (third ++ fourth)) ≡ size_of second + size_of (third ++ fourth) = size-append second (third ++ fourth) in
        let t : size_of (third ++ fourth) ≡ size_of third + size_of fourth = size-append third fourth in
        omega (arith, i, j, k, s, t)
    statement-size (Placed at (Send channel e)) p exit_unknowns n =
        let i : size_of (statement_constraints scope p exit_unknowns n (Placed at (Send channel e))) ≤ 8 + 4 * expression_nodes e =
        demanding-size at 5 p (value_label scope e) (raise_atoms scope e) (ToChannel channel) exit_unknowns Normal (raises e) (expression_nodes e) (value-length scope e) (raise-length scope e) in
        omega (arith, i)
    statement-size (Placed at (Call callee arguments target)) p exit_unknowns n =
        let i : size_of (call_constraints scope p exit_unknowns n at callee arguments target) ≤ 17 + (4 * nodes_of arguments + 3 * length (procedure_at scope.program callee).throws) = call-size p exit_unknowns n at callee arguments target in
        let j : nodes_of arguments ≡ sum_by expression_nodes arguments = is_sum_by nodes_of expression_nodes refl (λ x xs. refl) arguments in
        omega (arith, i, j)
    statement-size (Placed at (If e then_block else_block)) p exit_unknowns n =
        let pc : NamedAtom = inner_atom n in
        let second : List NamedConstraint = raised_flows (p ∷ named_atoms (raise_atoms scope e)) exit_unknowns (raises e) in
        let third : List NamedConstraint = by_exits (block_exits scope.program then_block) pc exit_unknowns (λ t. block_constraints scope true pc t (suc n) then_block) in
        let fourth : List NamedConstraint = by_exits (block_exits scope.program else_block) pc exit_unknowns (λ t. block_constraints scope true pc t (suc n + made_by_block then_block) else_block) in
        let yes : ℕ = 2 + (20 * block_nodes then_block + 3 * declared_in scope.program then_block) in
        let no : ℕ = 2 + (20 * block_nodes else_block + 3 * declared_in scope.program else_block) in
        let a : length (named_atoms (value_label scope e)) ≡ length (value_label scope e) = named-length (value_label scope e) in
        let b : length (value_label scope e) ≤ expression_nodes e = value-length scope e in
        let c : length (named_atoms (raise_atoms scope e)) ≡ length (raise_atoms scope e) = named-length (raise_atoms scope e) in
        let d : length (raise_atoms scope e) ≤ expression_nodes e = raise-length scope e in
        let i : size_of second ≤ 2 * suc (suc (length (named_atoms (raise_atoms scope e)))) = raised-size (p ∷ named_atoms (raise_atoms scope e)) exit_unknowns (raises e) in
        let j : size_of third ≤ 2 + yes = by_exits-size (block_exits scope.program then_block) pc exit_unknowns (λ t. block_constraints scope true pc t (suc n) then_block) yes (λ t. block-size then_block true pc t (suc n)) in
        let k : size_of fourth ≤ 2 + no = by_exits-size (block_exits scope.program else_block) pc exit_unknowns (λ t. block_constraints scope true pc t (suc n + made_by_block then_block) else_block) no
        (λ t. block-size else_block true pc t (suc n + made_by_block then_block)) in
        let s : size_of (second ++ (third ++ fourth)) ≡ size_of second + size_of (third ++ fourth) = size-append second (third ++ fourth) in
        let t : size_of (third ++ fourth) ≡ size_of third + size_of fourth = size-append third fourth in
        omega (arith, a, b, c, d, i, j, k, s, t)
    statement-size (Placed at (While loop e body)) p exit_unknowns n =
        let pc : NamedAtom = inner_atom n in
        let loop_atom : NamedAtom = renamed Real (label_of scope.program (ToLoop scope.number loop)) in
        let out : List NamedConstraint = flow (pc ∷ []) (exit_unknowns Normal) in
        let raising : List NamedConstraint = raised_flows (loop_atom ∷ named_atoms (raise_atoms scope e)) exit_unknowns (raises e) in
        let third : List NamedConstraint = by_exits (block_exits scope.program body) pc (in_loop (suc n) exit_unknowns) (λ t. block_constraints scope true pc t (suc (suc n)) body) in
        let fourth : List NamedConstraint = rule_constraint scope at 8 (inner_atom (suc n) ∷ []) (ToLoop scope.number loop) in
        let within : ℕ = 2 + (20 * block_nodes body + 3 * declared_in scope.program body) in
        let a : length (named_atoms (value_label scope e)) ≡ length (value_label scope e) = named-length (value_label scope e) in
        let b : length (value_label scope e) ≤ expression_nodes e = value-length scope e in
        let c : length (named_atoms (raise_atoms scope e)) ≡ length (raise_atoms scope e) = named-length (raise_atoms scope e) in
        let d : length (raise_atoms scope e) ≤ expression_nodes e = raise-length scope e in
        let h : size_of out ≤ 2 = flow-size (pc ∷ []) (exit_unknowns Normal) in
        let i : size_of raising ≤ 2 * suc (suc (length (named_atoms (raise_atoms scope e)))) = raised-size (loop_atom ∷ named_atoms (raise_atoms scope e)) exit_unknowns (raises e) in
        let j : size_of third ≤ 2 + within = by_exits-size (block_exits scope.program body) pc (in_loop (suc n) exit_unknowns) (λ t. block_constraints scope true pc t (suc (suc n)) body) within
        (λ t. block-size body true pc t (suc (suc n))) in
        let s : size_of (out ++ (raising ++ (third ++ fourth))) ≡ size_of out + size_of (raising ++ (third ++ fourth)) = size-append out (raising ++ (third ++ fourth)) in
        let t : size_of (raising ++ (third ++ fourth)) ≡ size_of raising + size_of (third ++ fourth) = size-append raising (third ++ fourth) in
        let u : size_of (third ++ fourth) ≡ size_of third + 2 = size-append third fourth in
        omega (arith, a, b, c, d, h, i, j, s, t, u)
    statement-size (Placed at (Leave exit)) p exit_unknowns n = let i : size_of (flow (p ∷ []) (exit_unknowns exit)) ≤ 2 = flow-size (p ∷ []) (exit_unknowns exit) in omega (arith, i)
    statement-size (Placed at (ReturnWith (Some e))) p exit_unknowns n =
        let i : size_of (statement_constraints scope p exit_unknowns n (Placed at (ReturnWith (Some e)))) ≤ 8 + 4 * expression_nodes e =
        demanding-size at 10 p (value_label scope e) (raise_atoms scope e) (ToValue scope.number) exit_unknowns Return (raises e) (expression_nodes e) (value-length scope e) (raise-length scope e) in
        omega (arith, i)
    statement-size (Placed at (ReturnWith None)) p exit_unknowns n = let i : size_of (flow (p ∷ []) (exit_unknowns Return)) ≤ 2 = flow-size (p ∷ []) (exit_unknowns Return) in omega (arith, i)
    statement-size (Placed at (Try block handlers)) p exit_unknowns n =
        let number : ℕ → ℕ = λ x. handler_number handlers n x in
        let inside : ExitUnknowns = in_try number handlers exit_unknowns in
        let first : List NamedConstraint = by_exits (block_exits scope.program block) p inside (λ t. block_constraints scope true p t (n + handler_count handlers) block) in
        let second : List NamedConstraint = handlers_constraints scope number exit_unknowns ((n + handler_count handlers) + made_by_block block) handlers in
        let within : ℕ = 2 + (20 * block_nodes block + 3 * declared_in scope.program block) in
        let i : size_of first ≤ 2 + within = by_exits-size (block_exits scope.program block) p inside (λ t. block_constraints scope true p t (n + handler_count handlers) block) within
        (λ t. block-size block true p t (n + handler_count handlers)) in
        let j : size_of second ≤ 20 * handlers_nodes handlers + 3 * declared_under scope.program handlers = handlers-size handlers number exit_unknowns ((n + handler_count handlers) + made_by_block block) in
        let s : size_of (first ++ second) ≡ size_of first + size_of second = size-append first second in
        omega (arith, i, j, s)
    statement-size (Placed at (Nested block)) p exit_unknowns n =
        let within : ℕ = 2 + (20 * block_nodes block + 3 * declared_in scope.program block) in
        let i : size_of (statement_constraints scope p exit_unknowns n (Placed at (Nested block))) ≤ 2 + within =
        by_exits-size (block_exits scope.program block) p exit_unknowns (λ t. block_constraints scope true p t n block) within (λ t. block-size block true p t n) in
        omega (arith, i)

    pub block-size : (block : Block) (reached : Bool) (p : NamedAtom) (exit_unknowns : ExitUnknowns) (n : ℕ) → size_of (block_constraints scope reached p exit_unknowns n block) ≤ 2 + (20 * block_nodes block + 3 * declared_in scope.program block)
    block-size Empty true p exit_unknowns n = let i : size_of (flow (p ∷ []) (exit_unknowns Normal)) ≤ 2 = flow-size (p ∷ []) (exit_unknowns Normal) in omega (arith, i)
    block-size Empty false p exit_unknowns n = omega arith
    block-size (Then s rest) reached p exit_unknowns n =
        let ends : List Exit = statement_exits scope.program s in
        let within : ExitUnknowns = within_single (one_exit ends) (with_normal (Some n) exit_unknowns) in
        let pc : NamedAtom = onward_pc (one_exit ends) p n in
        let first : List NamedConstraint = single (one_exit ends) p (with_normal None exit_unknowns) ends in
        let second : List NamedConstraint = statement_constraints scope p within (suc n) s in
        let third : List NamedConstraint = block_constraints scope (has_exit ends Normal) pc exit_unknowns (suc n + made_by_statement s) rest in
        let i : size_of first ≤ 2 = single-size (one_exit ends) p (with_normal None exit_unknowns) ends in
        let j : size_of second + 2 ≤ 20 * statement_nodes s + 3 * declared_at scope.program s = statement-size s p within (suc n) in
        let k : size_of third ≤ 2 + (20 * block_nodes rest + 3 * declared_in scope.program rest) = block-size rest (has_exit ends Normal) pc exit_unknowns (suc n + made_by_statement s) in
        let t : size_of (first ++ (second ++ third)) ≡ size_of first + size_of (second ++ third) = size-append first (second ++ third) in
        let u : size_of (second ++ third) ≡ size_of second + size_of third = size-append second third in
        omega (arith, i, j, k, t, u)

    handlers-size : (handlers : Handlers) (number : ℕ → ℕ) (exit_unknowns : ExitUnknowns) (n : ℕ) → size_of (handlers_constraints scope number exit_unknowns n handlers) ≤ 20 * handlers_nodes handlers + 3 * declared_under scope.program handlers
    handlers-size NoMore number exit_unknowns n = omega arith
    handlers-size (Catch at handled body rest) number exit_unknowns n =
        let pc : NamedAtom = inner_atom (number handled) in
        let first : List NamedConstraint = by_exits (block_exits scope.program body) pc exit_unknowns (λ t. block_constraints scope true pc t n body) in
        let second : List NamedConstraint = handlers_constraints scope number exit_unknowns (n + made_by_block body) rest in
        let within : ℕ = 2 + (20 * block_nodes body + 3 * declared_in scope.program body) in
        let i : size_of first ≤ 2 + within = by_exits-size (block_exits scope.program body) pc exit_unknowns (λ t. block_constraints scope true pc t n body) within (λ t. block-size body true pc t n) in
        let j : size_of second ≤ 20 * handlers_nodes rest + 3 * declared_under scope.program rest = handlers-size rest number exit_unknowns (n + made_by_block body) in
        let s : size_of (first ++ second) ≡ size_of first + size_of second = size-append first second in
        omega (arith, i, j, s)

  -- ---- procedures
  thrown-size : (number : ℕ → ℕ) (throws : List ThrownEntry) → size_of (thrown_constraints scope number throws) ≡ 2 * length throws
  thrown-size number [] = omega arith
  thrown-size number (entry ∷ rest) = let i : size_of (thrown_constraints scope number rest) ≡ 2 * length rest = thrown-size number rest in omega (arith, i)

  end-size : (n : ℕ) → size_of (exit_constraints scope n) ≤ 2 + 2 * length (here scope).throws
  end-size n = go (has_one_exit scope)
    where
      rest : List NamedConstraint
      rest = thrown_constraints scope (λ x. thrown_number (here scope).throws (suc n) x) (here scope).throws

      go : (b : Bool) → size_of (if b then [] else (rule_constraint scope (here scope).at 13 (inner_atom n ∷ []) (ToEnd scope.number) ++ rest)) ≤ 2 + 2 * length (here scope).throws
      go true = omega arith
      go false = let i : size_of rest ≡ 2 * length (here scope).throws = thrown-size (λ x. thrown_number (here scope).throws (suc n) x) (here scope).throws in omega (arith, i)

  pub procedure-size : (n : ℕ) → size_of (procedure_constraints scope n) ≤ 20 * procedure_nodes (here scope) + 3 * declared_in scope.program (here scope).body
  procedure-size n =
      let body : Block = (here scope).body in
      let pc : NamedAtom = renamed Real (label_of scope.program (ToBegin scope.number)) in
      let m : ℕ = suc n + length (here scope).throws in
      let first : List NamedConstraint = inner_block scope pc (end_exit_unknowns scope n) m body in
      let within : ℕ = 2 + (20 * block_nodes body + 3 * declared_in scope.program body) in
      let i : size_of first ≤ 2 + within = by_exits-size (block_exits scope.program body) pc (end_exit_unknowns scope n) (λ t. block_constraints scope true pc t m body) within (λ t. block-size body true pc t m) in
      let j : size_of (exit_constraints scope n) ≤ 2 + 2 * length (here scope).throws = end-size n in
      let s : size_of (first ++ exit_constraints scope n) ≡ size_of first + size_of (exit_constraints scope n) = size-append first (exit_constraints scope n) in
      omega (arith, i, j, s)

-- ---- programs
abbrev pub nodes_in : List ProcedureEntry → ℕ
nodes_in [] = 0
nodes_in (p ∷ ps) = procedure_nodes p + nodes_in ps

abbrev all_declared : Program → List ProcedureEntry → ℕ
all_declared program [] = 0
all_declared program (p ∷ ps) = declared_in program p.body + all_declared program ps

from-size : (program : Program) (ps : List ProcedureEntry) (f n : ℕ) → ((k : ℕ) (p : ProcedureEntry) → slice_get ps k ≡ Some p → slice_get program.procedures (f + k) ≡ Some p) →
    size_of (constraints_from program f n ps) ≤ 20 * nodes_in ps + 3 * all_declared program ps
from-size program [] f n same = omega arith
from-size program (p ∷ ps) f n same =
    let scope : Scope = record { program = program; number = f } in
    let e : f + 0 ≡ f = omega arith in
    let there : slice_get program.procedures f ≡ Some p = subst (λ z. slice_get program.procedures z ≡ Some p) e (same 0 p refl) in
    let is : procedure_at program f ≡ p = procedure_at_is program f p there in
    let i : size_of (procedure_constraints scope n) ≤ 20 * procedure_nodes p + 3 * declared_in program p.body =
    subst (λ (z : ProcedureEntry). size_of (procedure_constraints scope n) ≤ 20 * procedure_nodes z + 3 * declared_in program z.body) is (procedure-size scope n) in
    let j : size_of (constraints_from program (suc f) (n + made_by_procedure scope) ps) ≤ 20 * nodes_in ps + 3 * all_declared program ps =
    from-size program ps (suc f) (n + made_by_procedure scope)
    (λ k q at. let g : f + suc k ≡ suc f + k = omega arith in subst (λ z. slice_get program.procedures z ≡ Some q) g (same (suc k) q at)) in
    let s : size_of (procedure_constraints scope n ++ constraints_from program (suc f) (n + made_by_procedure scope) ps)
    ≡ size_of (procedure_constraints scope n) + size_of (constraints_from program (suc f) (n + made_by_procedure scope) ps) =
    size-append (procedure_constraints scope n) (constraints_from program (suc f) (n + made_by_procedure scope) ps) in
    omega (arith, i, j, s)

numbered-size : (program : Program) (cs : List NamedConstraint) → size_of (map (numbered program) cs) ≡ size_of cs
numbered-size program [] = refl
numbered-size program (c ∷ rest) =
    let i : size_of (map (numbered program) rest) ≡ size_of rest = numbered-size program rest in
    let j : length (numbered program c).left ≡ length c.left = length-map c.left _ in
    omega (arith, i, j)

pub program-small : (program : Program) → size_of (gathered_constraints program) ≤ 20 * program_nodes program + 3 * declared_at_calls program
program-small program =
    let i : size_of (program_constraints program) ≤ 20 * nodes_in program.procedures + 3 * all_declared program program.procedures =
    from-size program program.procedures 0 (real_unknowns program) (λ k p at. let e : k ≡ 0 + k = omega arith in subst (λ z. slice_get program.procedures z ≡ Some p) e at) in
    let j : size_of (gathered_constraints program) ≡ size_of (program_constraints program) = numbered-size program (program_constraints program) in
    let k : nodes_in program.procedures ≡ sum_by procedure_nodes program.procedures = is_sum_by nodes_in procedure_nodes refl (λ x xs. refl) program.procedures in
    let l : all_declared program program.procedures ≡ declared_at_calls program =
    is_sum_by (all_declared program) (λ (procedure : ProcedureEntry). declared_in program procedure.body) refl (λ x xs. refl) program.procedures in
    omega (arith, i, j, k, l)
