-- Constraints that were added one after the other.
use Rattle.std.proofs.Common.{map, ◌≡◌, refl, sym, ap, ◌∙◌, List, [], ◌∷◌, ◌++◌, Bool, true, false, ℕ, append_assoc, append-nil}
use Rattle.std.specs.Prelude.{Option, None, if◌then◌else◌}
use Rattle.std.proofs.lemmas.List.{map-append}
use Rattle.labels.specs.Label.{Label}
use Rattle.resolved.specs.CoreOf.{program_of}
use Rattle.resolved.specs.Exits.{thrown_exits}
use Rattle.resolved.specs.declared.program.Core.{Core}
use Rattle.resolved.specs.declared.statement.Exit.{Exit}
use Rattle.resolved.specs.declared.statement.Exit.TheVariants.{Throw}
use Rattle.gathering.specs.Names.{NamedAtom, NamedConstraint}
use Rattle.gathering.specs.Walk as walk
use Rattle.gathering.specs.Walk.{flow, flows, raised_flows, raised_once}
use Rattle.path_map.specs.declared.raises.Raises.{Raises}
use Rattle.path_map.specs.Exceptions.{AreRaised, is_one_of, raised_list}
use Rattle.solver.specs.declared.constraints.Atom.{Atom}
use Rattle.solver.specs.Rule.{rule_number}
use Rattle.constraints.specs.LeftSides.{part, left_parts}
use Rattle.constraints.specs.Added.{AreAdded, IsLeft, IsPart, PartConstraint, Stored, flow_if, stand_for, stands_for, wanted_constraint}

pub added-none : (core : Core) (table : List Label) (old : List Stored) → AreAdded core table [] old old
added-none core table old = sym (append-nil (stand_for table old))

-- one more
pub stands-made : (table : List Label) (c : Stored) (wanted : PartConstraint) → c.at ≡ wanted.at → rule_number c.rule ≡ wanted.rule → left_parts table c.left.items ≡ wanted.left
    → c.target ≡ wanted.target → part table c.right ≡ wanted.right → stands_for table c ≡ wanted
stands-made table c wanted at rule left target right = rw (at, rule, left, target, right) refl

pub added-one : (core : Core) (table : List Label) (c : Stored) (named : NamedConstraint) (old new : List Stored)
    → new ≡ old ++ c ∷ [] → stands_for table c ≡ wanted_constraint (program_of core) named → AreAdded core table (named ∷ []) old new
added-one core table c named old new pushed is =
    ap (stand_for table) pushed ∙ (map-append (stands_for table) old (c ∷ []) ∙ ap (λ x. stand_for table old ++ x ∷ []) is)

pub added-then : (core : Core) (table : List Label) (a b : List NamedConstraint) (old middle new : List Stored)
    → AreAdded core table a old middle → AreAdded core table b middle new → AreAdded core table (a ++ b) old new
added-then core table a b old middle new first second =
    let program = program_of core in
    second ∙ (ap (λ cs. cs ++ map (wanted_constraint program) b) first
    ∙ (append_assoc (stand_for table old) (map (wanted_constraint program) a) (map (wanted_constraint program) b)
    ∙ ap (λ cs. stand_for table old ++ cs) (sym (map-append (wanted_constraint program) a b))))

pub added-same : (core : Core) (table : List Label) (a b : List NamedConstraint) (old new : List Stored)
    → a ≡ b → AreAdded core table b old new → AreAdded core table a old new
added-same core table a b old new same added = added ∙ ap (λ cs. stand_for table old ++ map (wanted_constraint (program_of core)) cs) (sym same)

-- exceptions of expressions, each once
once-list : (a b : Bool) → (if a then (0 ∷ (if b then 1 ∷ [] else [])) else (if b then 1 ∷ [] else [])) ≡ raised_list a b
once-list true true = refl
once-list true false = refl
once-list false true = refl
once-list false false = refl

zero-raised : (a b : Bool) → is_one_of (raised_list a b) 0 ≡ a
zero-raised true true = refl
zero-raised true false = refl
zero-raised false true = refl
zero-raised false false = refl

one-raised : (a b : Bool) → is_one_of (raised_list a b) 1 ≡ b
one-raised true true = refl
one-raised true false = refl
one-raised false true = refl
one-raised false false = refl

pub raised-once : (found : Raises) (exceptions : List ℕ) → AreRaised found exceptions → raised_once exceptions ≡ raised_list found.arith found.bounds
raised-once found exceptions are =
    let first : is_one_of exceptions 0 ≡ found.arith = sym (are 0) ∙ zero-raised found.arith found.bounds in
    let second : is_one_of exceptions 1 ≡ found.bounds = sym (are 1) ∙ one-raised found.arith found.bounds in
    rw (first, second) (once-list found.arith found.bounds)

flows-list : (atoms : List NamedAtom) (exit_unknowns : walk.ExitUnknowns) (a b : Bool)
    → flows atoms exit_unknowns (thrown_exits (raised_list a b)) ≡ flow_if a atoms (exit_unknowns (Throw 0)) ++ flow_if b atoms (exit_unknowns (Throw 1))
flows-list atoms exit_unknowns true true = ap (λ cs. flow atoms (exit_unknowns (Throw 0)) ++ cs) (append-nil (flow atoms (exit_unknowns (Throw 1))))
flows-list atoms exit_unknowns true false = refl
flows-list atoms exit_unknowns false true = append-nil (flow atoms (exit_unknowns (Throw 1)))
flows-list atoms exit_unknowns false false = refl

-- nothing was added where neither an exit nor what is raised has an exit unknown
pub added-nowhere : (core : Core) (table : List Label) (atoms : List NamedAtom) (exit_unknowns : walk.ExitUnknowns) (exit : Exit) (exceptions : List ℕ) (old : List Stored)
    → exit_unknowns exit ≡ None → raised_flows atoms exit_unknowns exceptions ≡ []
    → AreAdded core table (flow atoms (exit_unknowns exit) ++ raised_flows atoms exit_unknowns exceptions) old old
added-nowhere core table atoms exit_unknowns exit exceptions old none empty =
    added-same core table (flow atoms (exit_unknowns exit) ++ raised_flows atoms exit_unknowns exceptions) [] old old
    (ap (λ unknown. flow atoms unknown ++ raised_flows atoms exit_unknowns exceptions) none ∙ empty) (added-none core table old)

pub raised-flows : (atoms : List NamedAtom) (exit_unknowns : walk.ExitUnknowns) (found : Raises) (exceptions : List ℕ) → AreRaised found exceptions
    → raised_flows atoms exit_unknowns exceptions ≡ flow_if found.arith atoms (exit_unknowns (Throw 0)) ++ flow_if found.bounds atoms (exit_unknowns (Throw 1))
raised-flows atoms exit_unknowns found exceptions are =
    ap (λ es. flows atoms exit_unknowns (thrown_exits es)) (raised-once found exceptions are) ∙ flows-list atoms exit_unknowns found.arith found.bounds

pub left-same : (core : Core) (table : List Label) (atoms : List NamedAtom) (given found : List Atom)
    → found ≡ given → IsLeft core table atoms given → IsLeft core table atoms found
left-same core table atoms given found same is = ap (left_parts table) same ∙ is

pub raised-added : (core : Core) (table : List Label) (atoms : List NamedAtom) (exit_unknowns : walk.ExitUnknowns) (found : Raises) (exceptions : List ℕ) (arith bounds : Option ℕ) (old middle new : List Stored)
    → AreRaised found exceptions → arith ≡ exit_unknowns (Throw 0) → bounds ≡ exit_unknowns (Throw 1)
    → AreAdded core table (flow_if found.arith atoms arith) old middle → AreAdded core table (flow_if found.bounds atoms bounds) middle new
    → AreAdded core table (raised_flows atoms exit_unknowns exceptions) old new
raised-added core table atoms exit_unknowns found exceptions arith bounds old middle new are is is' first second =
    added-same core table (raised_flows atoms exit_unknowns exceptions) (flow_if found.arith atoms arith ++ flow_if found.bounds atoms bounds) old new
    (raised-flows atoms exit_unknowns found exceptions are ∙ ap (λ o. flow_if found.arith atoms o ++ flow_if found.bounds atoms (exit_unknowns (Throw 1))) (sym is)
    ∙ ap (λ o. flow_if found.arith atoms arith ++ flow_if found.bounds atoms o) (sym is'))
    (added-then core table (flow_if found.arith atoms arith) (flow_if found.bounds atoms bounds) old middle new first second)

-- a flow to the exit unknown of an exit
pub flow-added : (core : Core) (table : List Label) (atoms : List NamedAtom) (exit_unknown wanted : Option ℕ) (old new : List Stored)
    → exit_unknown ≡ wanted → AreAdded core table (flow atoms exit_unknown) old new → AreAdded core table (flow atoms wanted) old new
flow-added core table atoms exit_unknown wanted old new is added = added-same core table (flow atoms wanted) (flow atoms exit_unknown) old new (ap (flow atoms) (sym is)) added

-- the left side of the pc alone
pub alone-left : (core : Core) (table : List Label) (named : NamedAtom) (pc : Atom) (left : List Atom)
    → left ≡ pc ∷ [] → IsPart core table named pc → IsLeft core table (named ∷ []) left
alone-left core table named pc left is stands = ap (left_parts table) is ∙ ap (λ p. p ∷ []) stands
