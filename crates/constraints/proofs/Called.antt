-- What is gathered of calls.
use Rattle.std.proofs.Common.{map, ◌≡◌, refl, sym, ap, ◌∙◌, List, [], ◌∷◌, ◌++◌, Bool, true, false, ℕ, suc, ◌+◌, ◌<◌, ◌≤◌, length, take, get_or, arith, append_assoc, append-nil}
use Rattle.std.proofs.lemmas.List.{length-map, length-take-le}
use Rattle.common.proofs.Cases.{map_next}
use Rattle.labels.specs.Label.{Label}
use Rattle.resolved.specs.CoreOf.{program_of}
use Rattle.resolved.specs.Program.{Program}
use Rattle.resolved.specs.Exits.{thrown_exits}
use Rattle.resolved.specs.Labelled.{Join, Scope, value_label}
use Rattle.resolved.specs.Tree.{Expression}
use Rattle.resolved.specs.TreeOf.{expression_of}
use Rattle.resolved.specs.declared.program.Core.{Core}
use Rattle.resolved.specs.declared.expression.Expression as E
use Rattle.resolved.specs.declared.statement.Exit.{Exit}
use Rattle.resolved.specs.declared.statement.Exit.TheVariants.{Throw}
use Rattle.resolved.specs.declared.target.Target.TheVariants.{ToParameter}
use Rattle.gathering.specs.Names.{NamedConstraint, named_atoms}
use Rattle.gathering.specs.Walk as walk
use Rattle.gathering.specs.Walk.{argument_constraints, call_atoms, call_flows, flow, inner_atom, raised_once, rule_constraint}
use Rattle.path_map.specs.declared.raises.Raises.{Raises}
use Rattle.path_map.specs.Exceptions.{AreRaised, raised_list}
use Rattle.solver.specs.declared.constraints.Atom.{Atom}
use Rattle.constraints.specs.Added.{AreAdded, IsLeftFrom, Stored, flow_if}
use Rattle.constraints.specs.LeftSides.{IsJoined, joined, scope_of, wanted_part}
use Rattle.constraints.proofs.Added.{added-then, added-same, raised-once}
use Rattle.constraints.proofs.Joined.{joined-append}

-- a left side to which a join was added
pub left-then : (core : Core) (table : List Label) (pc : Atom) (a b : Join) (first left : List Atom)
    → IsLeftFrom core table pc a first → IsJoined core table b first left → IsLeftFrom core table pc (a ++ b) left
left-then core table pc a b first left from joined-is named stands =
    let program : Program = program_of core in
    joined-is ∙ (ap (λ ps. ps ++ joined program b) (from named stands)
    ∙ ap (λ ps. wanted_part program named ∷ ps) (sym (joined-append program a b)))

-- one more argument
arguments-append : (scope : Scope) (at own callee i : ℕ) (xs : List Expression) (x : Expression)
    → argument_constraints scope at own callee i (xs ++ x ∷ [])
    ≡ argument_constraints scope at own callee i xs ++ rule_constraint scope at 6 (inner_atom own ∷ named_atoms (value_label scope x)) (ToParameter callee (i + length xs))
arguments-append scope at own callee i [] x =
    let e : i ≡ i + 0 = omega arith in
    ap (λ n. rule_constraint scope at 6 (inner_atom own ∷ named_atoms (value_label scope x)) (ToParameter callee n)) e
arguments-append scope at own callee i (y ∷ xs) x =
    let first : List NamedConstraint = rule_constraint scope at 6 (inner_atom own ∷ named_atoms (value_label scope y)) (ToParameter callee i) in
    let e : suc i + length xs ≡ i + suc (length xs) = omega arith in
    ap (λ cs. first ++ cs) (arguments-append scope at own callee (suc i) xs x
    ∙ ap (λ n. argument_constraints scope at own callee (suc i) xs ++ rule_constraint scope at 6 (inner_atom own ∷ named_atoms (value_label scope x)) (ToParameter callee n)) e)

pub argument-next : (core : Core) (table : List Label) (f at k callee parameter : ℕ) (xs : List E.Expression) (i : ℕ) (x : E.Expression) (old middle new : List Stored)
    → i < length xs → x ≡ get_or xs i x → parameter ≡ i
    → AreAdded core table (argument_constraints (scope_of core f) at k callee 0 (map expression_of (take i xs))) old middle
    → AreAdded core table (rule_constraint (scope_of core f) at 6 (inner_atom k ∷ named_atoms (value_label (scope_of core f) (expression_of x))) (ToParameter callee parameter)) middle new
    → AreAdded core table (argument_constraints (scope_of core f) at k callee 0 (map expression_of (take (i + 1) xs))) old new
argument-next core table f at k callee parameter xs i x old middle new inside is counted first second =
    let scope : Scope = scope_of core f in
    let before : List Expression = map expression_of (take i xs) in
    let last : ℕ → List NamedConstraint = λ n. rule_constraint scope at 6 (inner_atom k ∷ named_atoms (value_label scope (expression_of x))) (ToParameter callee n) in
    let within : i ≤ length xs = omega (arith, inside) in
    let same : length before ≡ parameter = length-map (take i xs) expression_of ∙ (length-take-le i xs within ∙ sym counted) in
    let count : 0 + length before ≡ parameter = omega (arith, same) in
    added-same core table (argument_constraints scope at k callee 0 (map expression_of (take (i + 1) xs))) (argument_constraints scope at k callee 0 before ++ last parameter) old new
    (ap (argument_constraints scope at k callee 0) (map_next expression_of xs i x inside is)
    ∙ (arguments-append scope at k callee 0 before (expression_of x) ∙ ap (λ n. argument_constraints scope at k callee 0 before ++ last n) count))
    (added-then core table (argument_constraints scope at k callee 0 before) (last parameter) old middle new first second)

-- flows of several exits
pub flows-append : (program : Program) (callee own : ℕ) (exit_unknowns : walk.ExitUnknowns) (xs ys : List Exit)
    → call_flows program callee own exit_unknowns (xs ++ ys) ≡ call_flows program callee own exit_unknowns xs ++ call_flows program callee own exit_unknowns ys
flows-append program callee own exit_unknowns [] ys = refl
flows-append program callee own exit_unknowns (x ∷ xs) ys =
    ap (λ cs. flow (inner_atom own ∷ named_atoms (call_atoms program callee x)) (exit_unknowns x) ++ cs) (flows-append program callee own exit_unknowns xs ys)
    ∙ sym (append_assoc (flow (inner_atom own ∷ named_atoms (call_atoms program callee x)) (exit_unknowns x)) (call_flows program callee own exit_unknowns xs) (call_flows program callee own exit_unknowns ys))

-- the exceptions of the arguments
called-list : (program : Program) (callee k : ℕ) (exit_unknowns : walk.ExitUnknowns) (a b : Bool)
    → call_flows program callee k exit_unknowns (thrown_exits (raised_list a b))
    ≡ flow_if a (inner_atom k ∷ named_atoms (call_atoms program callee (Throw 0))) (exit_unknowns (Throw 0))
    ++ flow_if b (inner_atom k ∷ named_atoms (call_atoms program callee (Throw 1))) (exit_unknowns (Throw 1))
called-list program callee k exit_unknowns true true =
    ap (λ cs. flow (inner_atom k ∷ named_atoms (call_atoms program callee (Throw 0))) (exit_unknowns (Throw 0)) ++ cs)
    (append-nil (flow (inner_atom k ∷ named_atoms (call_atoms program callee (Throw 1))) (exit_unknowns (Throw 1))))
called-list program callee k exit_unknowns true false = refl
called-list program callee k exit_unknowns false true = append-nil (flow (inner_atom k ∷ named_atoms (call_atoms program callee (Throw 1))) (exit_unknowns (Throw 1)))
called-list program callee k exit_unknowns false false = refl

pub called-raised : (core : Core) (table : List Label) (callee k : ℕ) (exit_unknowns : walk.ExitUnknowns) (found : Raises) (exceptions : List ℕ) (old middle new : List Stored)
    → AreRaised found exceptions
    → AreAdded core table (flow_if found.arith (inner_atom k ∷ named_atoms (call_atoms (program_of core) callee (Throw 0))) (exit_unknowns (Throw 0))) old middle
    → AreAdded core table (flow_if found.bounds (inner_atom k ∷ named_atoms (call_atoms (program_of core) callee (Throw 1))) (exit_unknowns (Throw 1))) middle new
    → AreAdded core table (call_flows (program_of core) callee k exit_unknowns (thrown_exits (raised_once exceptions))) old new
called-raised core table callee k exit_unknowns found exceptions old middle new are first second =
    let program : Program = program_of core in
    let one : List NamedConstraint = flow_if found.arith (inner_atom k ∷ named_atoms (call_atoms program callee (Throw 0))) (exit_unknowns (Throw 0)) in
    let two : List NamedConstraint = flow_if found.bounds (inner_atom k ∷ named_atoms (call_atoms program callee (Throw 1))) (exit_unknowns (Throw 1)) in
    added-same core table (call_flows program callee k exit_unknowns (thrown_exits (raised_once exceptions))) (one ++ two) old new
    (ap (λ es. call_flows program callee k exit_unknowns (thrown_exits es)) (raised-once found exceptions are) ∙ called-list program callee k exit_unknowns found.arith found.bounds)
    (added-then core table one two old middle new first second)
