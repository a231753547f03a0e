-- Private: what is gathered of statements.
-- Source: our own.
use Rattle.std.specs.Prelude.{ℕ, List, [], ◌∷◌, ◌++◌, Option, flat_map}
use Rattle.labels.specs.Label.{Label}
use Rattle.lattices.specs.Constraints.{renamed}
use Rattle.resolved.specs.declared.expression.Variable.{Variable}
use Rattle.resolved.specs.declared.program.Core.{Core}
use Rattle.resolved.specs.declared.statement.Exit.{Exit}
use Rattle.resolved.specs.declared.statement.Exit.TheVariants.{Normal}
use Rattle.resolved.specs.declared.target.Target.{Target}
use Rattle.resolved.specs.declared.target.Target.TheVariants.{ToBegin, ToLoop, ToValue}
use Rattle.resolved.specs.Tree.{Expression, Statement}
use Rattle.resolved.specs.Exits.{raises, thrown_exits}
use Rattle.resolved.specs.Labelled.{Scope, label_of, one, value_label}
use Rattle.gathering.specs.Names.{NamedAtom, NamedConstraint, Real, named_atoms}
use Rattle.gathering.specs.Walk as walk
use Rattle.gathering.specs.Walk.{argument_constraints, call_atoms, call_flows, flow, inner_atom, inner_constraint, raise_atoms, raise_atoms_all, raised_flows, raised_once, rule_constraint, statement_constraints, target_constraint}
use Rattle.solver.specs.declared.constraints.Atom.{Atom}
use Rattle.constraints.specs.Added.{IsGatheredAt, Stored}
use Rattle.constraints.specs.LeftSides.{scope_of}

-- a statement that works a value out and goes on at an exit: what the value flows to, and its exits
abbrev pub valued_constraints : Scope → (pc : NamedAtom) → walk.ExitUnknowns → (at rule : ℕ) → Expression → Target → Exit → List NamedConstraint
valued_constraints scope pc exit_unknowns at rule e target exit =
    let q : List NamedAtom = pc ∷ named_atoms (raise_atoms scope e) in
    rule_constraint scope at rule (pc ∷ named_atoms (value_label scope e)) target
    ++ (flow q (exit_unknowns exit) ++ raised_flows q exit_unknowns (raises e))

-- what is gathered of a statement without inner unknowns was added
abbrev pub IsSimple : Core → (table : List Label) → (procedure : ℕ) → (pc : Atom) → walk.ExitUnknowns → Statement → (old new : List Stored) → Type 0
IsSimple core table procedure pc exit_unknowns statement old new =
    (n : ℕ) → IsGatheredAt core table pc (λ named. statement_constraints (scope_of core procedure) named exit_unknowns n statement) old new

-- what is gathered of a loop before its body
abbrev pub loop_head_constraints : Scope → (pc : NamedAtom) → walk.ExitUnknowns → (inner : ℕ) → (at loop : ℕ) → Expression → List NamedConstraint
loop_head_constraints scope pc exit_unknowns inner at loop e =
    let loop_atom : NamedAtom = renamed Real (label_of scope.program (ToLoop scope.number loop)) in
    rule_constraint scope at 8 (pc ∷ []) (ToLoop scope.number loop)
    ++ (inner_constraint (loop_atom ∷ named_atoms (value_label scope e)) inner
    ++ (flow (inner_atom inner ∷ []) (exit_unknowns Normal)
    ++ raised_flows (loop_atom ∷ named_atoms (raise_atoms scope e)) exit_unknowns (raises e)))

-- the exits of a call but for the exceptions that its callee declares, and what is gathered of it but for their flows
abbrev pub kept_exits : List Expression → List Exit
kept_exits arguments = Normal ∷ thrown_exits (raised_once (flat_map raises arguments))

abbrev pub kept_call : Scope → (pc : NamedAtom) → walk.ExitUnknowns → ℕ → (at callee : ℕ) → List Expression → Option Variable → List NamedConstraint
kept_call scope pc exit_unknowns n at callee arguments target =
    inner_constraint (pc ∷ named_atoms (raise_atoms_all scope arguments)) n
    ++ (rule_constraint scope at 6 (inner_atom n ∷ []) (ToBegin callee)
    ++ (argument_constraints scope at n callee 0 arguments
    ++ (target_constraint scope at 6
    (inner_atom n ∷ named_atoms (call_atoms scope.program callee Normal ++ one (label_of scope.program (ToValue callee)))) target
    ++ call_flows scope.program callee n exit_unknowns (kept_exits arguments))))
