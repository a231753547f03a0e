-- The rules of statements, each in one place: the exits that a statement may have, found without running it, and what is wrong with
-- them; what it demands at the program-counter label (pc) with which it is reached, and which labels its exits have; and when a
-- program is labelled. The rules are symbolic: a join lists written labels and labels that are not written,
-- and a labelling says what the latter are. V is the label of an expression's value, R that of whether it raises an exception, q
-- that at which a statement has evaluated its expressions, and X gives each exit of a statement its label. The rules are numbered:
-- 1 assignment, 2 declaration of an array, 3 store, 4 receive, 5 send, 6 call, 7 if, 8 while, 9 leave, 10 return, 11 try, 12 block
-- (in braces), and 13 the exits of a procedure.
-- Source: our own rules; several exits of a statement, with a label for each, as in JFlow (Myers 1999), simple security and confinement after Volpano,
-- Smith and Irvine 1996.
use Rattle.std.specs.Prelude.{ℕ, suc, List, [], ◌∷◌, ◌++◌, All, Bool, true, false, not, map, filter, flat_map, fold, ◌==◌, ◌&&◌, ◌||◌, if◌then◌else◌, Option, Some, None, is_some, unwrap_or, option_map, option_to_list, find}
use Rattle.std.specs.List.{list_all, list_any, enumerate_from}
use Rattle.principals.specs.ActsFor.{PrincipalHierarchy}
use Rattle.labels.specs.Label.{Label, FlowsTo}
use Rattle.lattices.specs.Constraints.{Atom, Written, Unknown, Constraint, FitsAll, join_of, value}
use Rattle.labels.specs.LabelLattice.{label_lattice}
use Rattle.resolved.specs.declared.expression.Variable.{Variable}
use Rattle.resolved.specs.declared.expression.Variable.TheVariants.{Global, Local}
use Rattle.common.specs.declared.exceptions.TheConstants.{BOUNDS, END}
use Rattle.common.specs.declared.refusal.RefusalAt.{RefusalAt}
use Rattle.resolved.specs.declared.fault.ExitRefusalKind.{ExitRefusalKind}
use Rattle.resolved.specs.declared.fault.ExitRefusalKind.TheVariants.{OutsideLoop, Unreachable, NeverRaised, NoValueReturned, Undeclared}
use Rattle.resolved.specs.declared.statement.Exit.{Exit}
use Rattle.resolved.specs.declared.statement.Exit.TheVariants.{Normal, Return, Break, Continue, Throw}
use Rattle.resolved.specs.declared.target.Target.{Target}
use Rattle.resolved.specs.declared.target.Target.TheVariants.{ToVariable, ToChannel, ToBegin, ToParameter, ToValue, ToEnd, ToThrown, ToLoop}
use Rattle.resolved.specs.Tree.{Expression, Integer, Logical, Read, Element, Unary, Binary, Short, Statement, Placed, Assign, Clear, Store, Receive, Send, Call, If, While, Leave, ReturnWith, Try, Nested, Block, Empty, Then, Handlers, NoMore, Catch}
use Rattle.resolved.specs.Program.{Program, ProcedureEntry, ResultEntry, ThrownEntry, channel_at, global_at, slot_at, procedure_at}
use Rattle.resolved.specs.Exits.{same_exit, has_exit, one_exit, taken_by, index_can_raise, divisor_can_raise, is_division, list_if, raises, declared_by, fault_unless}

-- a label that is not written: of a local without a written one, or of a loop, each by the number of its procedure and its own
pub data Unwritten : Type 0 where
  OfLocal : (procedure local : ℕ) → Unwritten
  OfLoop : (procedure loop : ℕ) → Unwritten

-- the join of labels that are written or not: the join of two joins is `++`, the least is `[]`
abbrev pub Join : Type 0
Join = List (Atom Unwritten Label)

-- where a statement stands: its program and the number of its procedure
pub record Scope : Type 0 where
  pub program : Program
  pub number : ℕ

-- the label of what stands on the right side of a demand; that of a parameter is always written
abbrev pub label_of : Program → Target → Atom Unwritten Label
label_of program (ToVariable f (Global n)) = Written (global_at program n).label
label_of program (ToVariable f (Local n)) = unwrap_or (option_map Written (slot_at (procedure_at program f) n).written) (Unknown (OfLocal f n))
label_of program (ToChannel channel) = Written (channel_at program channel).label
label_of program (ToBegin f) = Written (procedure_at program f).begin_label
label_of program (ToParameter f i) = Written (unwrap_or (slot_at (procedure_at program f) i).written [])
label_of program (ToValue f) = Written (unwrap_or (option_map (λ (entry : ResultEntry). entry.label) (procedure_at program f).result) [])
label_of program (ToEnd f) = Written (procedure_at program f).end_label
label_of program (ToThrown f exception) = Written (unwrap_or (option_map (λ (entry : ThrownEntry). entry.label)
    (find (λ (entry : ThrownEntry). exception == entry.exception) (procedure_at program f).throws)) [])
label_of program (ToLoop f loop) = Unknown (OfLoop f loop)

-- V: the label of an expression's value
abbrev pub value_label : Scope → Expression → Join
value_label scope (Integer n) = []
value_label scope (Logical b) = []
value_label scope (Read x) = label_of scope.program (ToVariable scope.number x) ∷ []
value_label scope (Element array length index) = label_of scope.program (ToVariable scope.number array) ∷ value_label scope index
value_label scope (Unary prefix e) = value_label scope e
value_label scope (Binary operator d e) = value_label scope d ++ value_label scope e
value_label scope (Short connective d e) = value_label scope d ++ value_label scope e

-- whether there are any
abbrev pub any_of : {A : Type 0} → List A → Bool
any_of list = list_any (λ element. true) list

-- R: the label of whether an expression raises an exception
abbrev pub raise_label : Scope → Expression → Join
raise_label scope (Integer n) = []
raise_label scope (Logical b) = []
raise_label scope (Read x) = []
raise_label scope (Element array length index) = raise_label scope index ++ list_if (index_can_raise index length) (value_label scope index)
raise_label scope (Unary prefix e) = raise_label scope e
raise_label scope (Binary operator d e) =
    raise_label scope d ++ raise_label scope e ++ list_if (is_division operator && divisor_can_raise e) (value_label scope e)
raise_label scope (Short connective d e) = raise_label scope d ++ raise_label scope e ++ list_if (any_of (raises e)) (value_label scope d)

-- X: a label for each exit
abbrev pub ExitLabels : Type 0
ExitLabels = Exit → Join

-- X of a call whose arguments were evaluated at q: the end label of the procedure counts where it declares exceptions
abbrev pub call_exit_labels : Program → (callee : ℕ) → (q : Join) → ExitLabels
call_exit_labels program callee q Normal =
    q ++ list_if (any_of (procedure_at program callee).throws) (label_of program (ToEnd callee) ∷ [])
call_exit_labels program callee q Return = q
call_exit_labels program callee q Break = q
call_exit_labels program callee q Continue = q
call_exit_labels program callee q (Throw exception) = q ++ label_of program (ToThrown callee exception) ∷ []

-- a demand: what is on the left flows to the label of its target; with the first byte of its statement, and its rule
abbrev pub Demand : Type 0
Demand = Constraint Target Unwritten Label

abbrev pub demand : Program → (at rule : ℕ) → (left : Join) → Target → List Demand
demand program at rule left target = record { at = at; rule = rule; left = left; target = target; right = label_of program target } ∷ []

-- the demand on a target, if there is one
abbrev pub target_demand : Scope → (at rule : ℕ) → Join → Option Variable → List Demand
target_demand scope at rule left target = flat_map (λ x. demand scope.program at rule left (ToVariable scope.number x)) (option_to_list target)

-- the judgement on what is reached at pc: the expressions in it; its possible exits, of which one may be named several times; X; the
-- demands, in the order in which its rule lists them; and what is wrong with its exits, in the order in which they are looked at
pub record Judgement : Type 0 where
  pub expressions : List Expression
  pub exits : List Exit
  pub labels : ExitLabels
  pub demands : List Demand
  pub faults : List (RefusalAt ExitRefusalKind)

-- two judgements together: what the first says comes before what the second does
infixl 50 ◌&◌
abbrev pub ◌&◌ : Judgement → Judgement → Judgement
first & second = record {
  expressions = first.expressions ++ second.expressions;
  exits = first.exits ++ second.exits;
  labels = λ exit. first.labels exit ++ second.labels exit;
  demands = first.demands ++ second.demands;
  faults = first.faults ++ second.faults;
}

-- a judgement without some of its exits
abbrev pub without : List Exit → Judgement → Judgement
without taken inner =
    let stays : Exit → Bool = λ exit. not (has_exit taken exit) in
    record inner { exits = filter stays inner.exits; labels = λ exit. list_if (stays exit) (inner.labels exit) }

-- the judgement on a whole statement or block, by what its rule says: only possible exits have a label, and where there is one
-- possible exit only, it has pc (the rule of the single path)
abbrev pub whole : (pc : Join) → Judgement → Judgement
whole pc inner =
    record inner { labels = λ exit. list_if (has_exit inner.exits exit) (if one_exit inner.exits then pc else inner.labels exit) }

-- what ends by one of these exits, at q
abbrev pub ending : List Exit → (q : Join) → Judgement
ending exits q = record { expressions = []; exits = exits; labels = λ exit. list_if (has_exit exits exit) q; demands = []; faults = [] }

-- what a statement does beside the blocks in it: it evaluates these expressions, ends by these exits at q, and demands this; and it is
-- at fault if it is not reached
abbrev pub own : (reached : Bool) → (at : ℕ) → List Expression → List Exit → (q : Join) → List Demand → Judgement
own reached at evaluated exits q demands =
    record (ending exits q) { expressions = evaluated; demands = demands; faults = fault_unless reached Unreachable at }

-- what a statement does that evaluates an expression and ends by an exit: the value flows to a target
abbrev pub own_value : Scope → (reached : Bool) → (pc : Join) → (at rule : ℕ) → Exit → Expression → Target → Judgement
own_value scope reached pc at rule exit e target =
    let q : Join = pc ++ raise_label scope e in
    own reached at (e ∷ []) (exit ∷ map Throw (raises e)) q (demand scope.program at rule (q ++ value_label scope e) target)

-- the rules of statements, blocks and handlers, each in one clause. A statement stands in a loop or not, and is reached where the one
-- before it can end normally. q is the label at which it has evaluated its own expressions, and at which these raise exceptions; that of
-- a loop has the loop's own label in place of pc. Of the exits of the block of a `try` some are left for a handler, those that no handler
-- before it took; the handler is reached at the label of its exception
abbrev mutual
  pub rule_of : Scope → (in_loop reached : Bool) → (pc : Join) → Statement → Judgement
  rule_of scope in_loop reached pc (Placed at (Assign x e)) = own_value scope reached pc at 1 Normal e (ToVariable scope.number x)
  rule_of scope in_loop reached pc (Placed at (Clear slot)) =
      own reached at [] (Normal ∷ []) pc (demand scope.program at 2 pc (ToVariable scope.number (Local slot)))
  rule_of scope in_loop reached pc (Placed at (Store array length index e)) =
      let out_of_range : Join = list_if (index_can_raise index length) (value_label scope index) in
      let q : Join = pc ++ raise_label scope index ++ raise_label scope e ++ out_of_range in
      let left : Join = q ++ value_label scope index ++ value_label scope e in
      let exceptions : List ℕ = raises index ++ raises e ++ list_if (index_can_raise index length) (BOUNDS ∷ []) in
      own reached at (index ∷ e ∷ []) (Normal ∷ map Throw exceptions) q (demand scope.program at 3 left (ToVariable scope.number array))
  rule_of scope in_loop reached pc (Placed at (Receive channel target)) =
      let q : Join = pc ++ label_of scope.program (ToChannel channel) ∷ [] in
      own reached at [] (Normal ∷ Throw END ∷ []) q (demand scope.program at 4 pc (ToChannel channel) ++ target_demand scope at 4 q target)
  rule_of scope in_loop reached pc (Placed at (Send channel e)) = own_value scope reached pc at 5 Normal e (ToChannel channel)
  rule_of scope in_loop reached pc (Placed at (Call procedure arguments target)) =
      let q : Join = pc ++ flat_map (raise_label scope) arguments in
      let x : ExitLabels = call_exit_labels scope.program procedure q in
      let given : ℕ × Expression → List Demand = λ (i, e). demand scope.program at 6 (q ++ value_label scope e) (ToParameter procedure i) in
      let asked : List Demand = demand scope.program at 6 q (ToBegin procedure) ++ flat_map given (enumerate_from 0 arguments)
      ++ target_demand scope at 6 (x Normal ++ label_of scope.program (ToValue procedure) ∷ []) target in
      let exceptions : List ℕ = flat_map raises arguments ++ declared_by (procedure_at scope.program procedure).throws in
      record (own reached at arguments (Normal ∷ map Throw exceptions) q asked) { labels = x }
  rule_of scope in_loop reached pc (Placed at (If e then_block else_block)) =
      let q : Join = pc ++ raise_label scope e in
      let branch : Join = q ++ value_label scope e in
      own reached at (e ∷ []) (map Throw (raises e)) q [] & whole branch (rule_of_block scope in_loop true branch then_block)
      & whole branch (rule_of_block scope in_loop true branch else_block)
  rule_of scope in_loop reached pc (Placed at (While loop e body)) =
      let to_loop : Join → List Demand = λ left. demand scope.program at 8 left (ToLoop scope.number loop) in
      let q : Join = label_of scope.program (ToLoop scope.number loop) ∷ raise_label scope e in
      let b : Join = q ++ value_label scope e in
      let inner : Judgement = whole b (rule_of_block scope true true b body) in
      let back : List Demand = to_loop (inner.labels Normal ++ inner.labels Continue) in
      ending (Normal ∷ []) (b ++ inner.labels Break) & own reached at (e ∷ []) (map Throw (raises e)) q (to_loop pc)
      & without (Normal ∷ Break ∷ Continue ∷ []) (record inner { demands = inner.demands ++ back })
  rule_of scope in_loop reached pc (Placed at (Leave taken)) =
      let may_stand : Bool = not (has_exit (Break ∷ Continue ∷ []) taken) || in_loop in
      record (ending [] pc) { faults = fault_unless may_stand OutsideLoop at } & own reached at [] (taken ∷ []) pc []
  rule_of scope in_loop reached pc (Placed at (ReturnWith (Some e))) = own_value scope reached pc at 10 Return e (ToValue scope.number)
  rule_of scope in_loop reached pc (Placed at (ReturnWith None)) = own reached at [] (Return ∷ []) pc []
  rule_of scope in_loop reached pc (Placed at (Try block handlers)) =
      let inner : Judgement = whole pc (rule_of_block scope in_loop true pc block) in
      own reached at [] [] pc [] & without (taken_by handlers) inner & rule_of_handlers scope in_loop inner.exits inner.labels handlers
  rule_of scope in_loop reached pc (Placed at (Nested block)) = own reached at [] [] pc [] & whole pc (rule_of_block scope in_loop true pc block)

  pub rule_of_block : Scope → (in_loop reached : Bool) → (pc : Join) → Block → Judgement
  rule_of_block scope in_loop reached pc Empty = ending (Normal ∷ []) pc
  rule_of_block scope in_loop reached pc (Then statement rest) =
      let first : Judgement = whole pc (rule_of scope in_loop reached pc statement) in
      let goes_on : Bool = has_exit first.exits Normal in
      let later : Judgement = rule_of_block scope in_loop goes_on (first.labels Normal) rest in
      without (Normal ∷ []) first & record later { exits = list_if goes_on later.exits }

  pub rule_of_handlers : Scope → (in_loop : Bool) → (left : List Exit) → ExitLabels → Handlers → Judgement
  rule_of_handlers scope in_loop left x NoMore = ending [] []
  rule_of_handlers scope in_loop left x (Catch at handled body rest) =
      let pc : Join = x (Throw handled) in
      let untaken : List Exit = filter (λ exit. not (same_exit (Throw handled) exit)) left in
      record (ending [] pc) { faults = fault_unless (has_exit left (Throw handled)) NeverRaised at }
      & whole pc (rule_of_block scope in_loop true pc body) & rule_of_handlers scope in_loop untaken x rest

-- the judgement on a procedure. Its body is reached at the begin label; it ends normally, where it has no value, by a return or by an
-- exception that it declares, and what is wrong with that stands at its name. 13: where it has more than one exit, its normal exit and its
-- return being one, these two flow to the end label, and each exception that is declared to its own, in their order
abbrev pub procedure_judgement : Scope → Judgement
procedure_judgement scope =
    let procedure : ProcedureEntry = procedure_at scope.program scope.number in
    let begin : Join = label_of scope.program (ToBegin scope.number) ∷ [] in
    let inner : Judgement = whole begin (rule_of_block scope false true begin procedure.body) in
    let end : Join → Target → List Demand = demand scope.program procedure.at 13 in
    let ends : List Demand = end (inner.labels Normal ++ inner.labels Return) (ToEnd scope.number)
    ++ flat_map (λ exception. end (inner.labels (Throw exception)) (ToThrown scope.number exception)) (declared_by procedure.throws) in
    let one_end : Bool = one_exit (map (λ exit. if same_exit Return exit then Normal else exit) inner.exits) in
    let valued : Bool = not (is_some procedure.result && has_exit inner.exits Normal) in
    let declared : Bool = list_all (has_exit (Normal ∷ Return ∷ map Throw (declared_by procedure.throws))) inner.exits in
    record inner {
      demands = inner.demands ++ (if one_end then [] else ends);
      faults = inner.faults ++ fault_unless valued NoValueReturned procedure.at ++ fault_unless declared Undeclared procedure.at;
    }

-- the judgement on a program, procedure by procedure; the first fault is the one that is reported
abbrev pub program_judgement : Program → Judgement
program_judgement program =
    fold (λ before (number, _). before & procedure_judgement (record { program = program; number = number })) (ending [] [])
    (enumerate_from 0 program.procedures)

-- a demand holds under a labelling, which gives each label that is not written: what is on its left flows to what is on its right
abbrev pub Holds : PrincipalHierarchy → (labelling : Unwritten → Label) → Demand → Type 0
Holds h labelling d = FlowsTo h (flat_map (value labelling) d.left) (value labelling d.right)

-- a labelled program: all that it demands holds under some labelling
abbrev pub Labelled : Program → Type 0
Labelled program = (labelling : Unwritten → Label) × All (Holds program.hierarchy labelling) (program_judgement program).demands

-- ---- the parts of the rules, by which proofs speak of them

-- the demands on arguments that are evaluated at q, from parameter i on
abbrev pub argument_demands : Scope → (at : ℕ) → (q : Join) → (callee i : ℕ) → List Expression → List Demand
argument_demands scope at q callee i [] = []
argument_demands scope at q callee i (e ∷ rest) =
    demand scope.program at 6 (q ++ value_label scope e) (ToParameter callee i) ++ argument_demands scope at q callee (suc i) rest

-- the judgement on a program's procedures from number f on
abbrev pub judgement_from : Program → (f : ℕ) → List ProcedureEntry → Judgement
judgement_from program f [] = ending [] []
judgement_from program f (procedure ∷ rest) =
    procedure_judgement (record { program = program; number = f }) & judgement_from program (suc f) rest

-- what a program demands, and all faults of its exits
abbrev pub program_demands : Program → List Demand
program_demands program = (program_judgement program).demands

abbrev pub exit_faults : Program → List (RefusalAt ExitRefusalKind)
exit_faults program = (program_judgement program).faults

-- the label of a variable
abbrev pub variable_label : Scope → Variable → Join
variable_label scope x = label_of scope.program (ToVariable scope.number x) ∷ []

-- the join of one label
abbrev pub one : Atom Unwritten Label → Join
one atom = atom ∷ []

abbrev pub here : Scope → ProcedureEntry
here scope = procedure_at scope.program scope.number

-- the demands on the exits of a procedure's body
abbrev pub exit_demands : Scope → (exits : List Exit) → ExitLabels → List Demand
exit_demands scope exits x =
    if one_exit (map (λ exit. if same_exit Return exit then Normal else exit) exits) then []
    else (demand scope.program (here scope).at 13 (x Normal ++ x Return) (ToEnd scope.number)
    ++ flat_map (λ (entry : ThrownEntry). demand scope.program (here scope).at 13 (x (Throw entry.exception)) (ToThrown scope.number entry.exception))
    (here scope).throws)

-- a label that is written, or one that is not; and the written one, or else the other
abbrev pub LabelAtom : Type 0
LabelAtom = Atom Unwritten Label

abbrev pub written_or : Option Label → Unwritten → LabelAtom
written_or written other = unwrap_or (option_map (λ label. Written label) written) (Unknown other)

-- the label of an exception among declared ones
abbrev pub thrown_label : List ThrownEntry → (exception : ℕ) → Label
thrown_label entries exception = unwrap_or (option_map (λ (entry : ThrownEntry). entry.label)
    (find (λ (entry : ThrownEntry). exception == entry.exception) entries)) []

-- the label of a procedure's value
abbrev pub result_label : Option ResultEntry → Label
result_label result = unwrap_or (option_map (λ (entry : ResultEntry). entry.label) result) []

-- for a procedure, normal and return are one exit
abbrev pub as_one_exit : Exit → Exit
as_one_exit exit = if same_exit Return exit then Normal else exit

-- the label of a channel
abbrev pub channel_label : Program → (channel : ℕ) → Label
channel_label program channel = (channel_at program channel).label

-- a labelling: a label for each that is not written; and what a label and a join are under it
abbrev pub Labelling : Type 0
Labelling = Unwritten → Label

abbrev pub label_under : Labelling → LabelAtom → Label
label_under labelling atom = value labelling atom

abbrev pub join_under : Labelling → Join → Label
join_under labelling join = join_of (λ a b. a ++ b) [] labelling join

-- demands that hold under a labelling by the test of flow, and a program that is labelled by it
abbrev pub FitsDemands : PrincipalHierarchy → Labelling → List Demand → Type 0
FitsDemands h labelling demands = FitsAll (label_lattice h) demands labelling

abbrev pub LabelledByTests : Program → Type 0
LabelledByTests program = (labelling : Labelling) × FitsDemands program.hierarchy labelling (program_demands program)
