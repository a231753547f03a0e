-- The text that says why a flow is refused: the policy that flows, and each step of its chain by its place, its rule and the name of
-- what it flows to.
-- Source: our own.
use Rattle.std.specs.Prelude.{ℕ, List, [], ◌∷◌, ◌++◌, codes, flat_map}
use Rattle.std.specs.Fmt.{decimal}
use Rattle.principals.specs.ActsFor.{PrincipalHierarchy}
use Rattle.labels.specs.Label.{ReaderPolicy}
use Rattle.labels.specs.Printed.{printed_label}
use Rattle.resolved.specs.CoreOf.{program_of}
use Rattle.resolved.specs.Exceptions.{exception_name}
use Rattle.resolved.specs.Program.{Program, channel_at, global_at, procedure_at, slot_at}
use Rattle.resolved.specs.declared.expression.Variable.{Variable}
use Rattle.resolved.specs.declared.expression.Variable.TheVariants.{Global, Local}
use Rattle.resolved.specs.declared.target.Target.{Target}
use Rattle.resolved.specs.declared.target.Target.TheVariants.{ToVariable, ToChannel, ToBegin, ToParameter, ToValue, ToEnd, ToThrown, ToLoop}
use Rattle.solver.specs.Rule.{rule_number}
use Rattle.checker.specs.declared.fault.RefusedFlow.{RefusedFlow}
use Rattle.checker.specs.declared.fault.Step.{Step}
use Rattle.explaining.specs.Text.{at_place}

-- ---- names

-- a variable of a procedure
abbrev pub variable_name : Program → (procedure : ℕ) → Variable → List ℕ
variable_name program f (Global n) = (global_at program n).name
variable_name program f (Local n) = (slot_at (procedure_at program f) n).name

-- what a step flows to; the label of a loop, to which no step of a chain is reported, has no name
abbrev pub target_name : Program → Target → List ℕ
target_name program (ToVariable f x) = variable_name program f x
target_name program (ToChannel channel) = (channel_at program channel).name
target_name program (ToBegin f) = codes "begin " ++ (procedure_at program f).name
target_name program (ToParameter f i) = (slot_at (procedure_at program f) i).name
target_name program (ToValue f) = codes "return " ++ (procedure_at program f).name
target_name program (ToEnd f) = codes "end " ++ (procedure_at program f).name
target_name program (ToThrown f exception) =
    codes "throws " ++ ((procedure_at program f).name ++ (codes " " ++ exception_name program.exceptions exception))
target_name program (ToLoop f loop) = []

-- ---- lines

-- the line of the policy: the label of that policy alone
abbrev pub policy_line : PrincipalHierarchy → ReaderPolicy → List ℕ
policy_line h policy = codes "policy " ++ (printed_label h (policy ∷ []) ++ codes "\n")

-- the line of a step
abbrev pub step_line : (source : List ℕ) → Program → Step → List ℕ
step_line source program step =
    at_place source step.at
    (codes " rule " ++ (decimal (rule_number step.rule) ++ (codes " to " ++ (target_name program step.target ++ codes "\n"))))

-- the text of a flow that is refused
abbrev pub flow_text : (source : List ℕ) → RefusedFlow → List ℕ
flow_text source flow =
    policy_line (program_of flow.core).hierarchy flow.policy
    ++ flat_map (step_line source (program_of flow.core)) flow.steps.items
