-- Private: how large constraints are, how many exceptions the callees of a program declare, each as often as it is called, and how many
-- calls there are.
-- Source: our own.
use Rattle.std.specs.Prelude.{ℕ, suc, ◌+◌, List, [], ◌∷◌, length, sum_by, Option, Some, None}
use Rattle.lattices.specs.Constraints.{Constraint}
use Rattle.resolved.specs.declared.target.Target.{Target}
use Rattle.resolved.specs.declared.target.Target.TheVariants.{ToVariable, ToChannel, ToBegin, ToParameter, ToValue, ToEnd, ToThrown, ToLoop}
use Rattle.resolved.specs.Tree.{Statement, Placed, Assign, Clear, Store, Receive, Send, Call, If, While, Leave, ReturnWith, Try, Nested, Block, Empty, Then, Handlers, NoMore, Catch}
use Rattle.resolved.specs.Program.{Program, ProcedureEntry, procedure_at}
use Rattle.gathering.specs.Names.{NamedConstraint}

-- each counts one, and one for each part of its left side
abbrev pub size_of : {N U V : Type 0} → List (Constraint N U V) → ℕ
size_of [] = 0
size_of (c ∷ rest) = suc (length c.left) + size_of rest

abbrev mutual
  pub declared_at : Program → Statement → ℕ
  declared_at program (Placed at (Assign x e)) = 0
  declared_at program (Placed at (Clear slot)) = 0
  declared_at program (Placed at (Store array len index e)) = 0
  declared_at program (Placed at (Receive channel target)) = 0
  declared_at program (Placed at (Send channel e)) = 0
  declared_at program (Placed at (Call callee arguments target)) = length (procedure_at program callee).throws
  declared_at program (Placed at (If e then_block else_block)) = declared_in program then_block + declared_in program else_block
  declared_at program (Placed at (While loop e body)) = declared_in program body
  declared_at program (Placed at (Leave exit)) = 0
  declared_at program (Placed at (ReturnWith value)) = 0
  declared_at program (Placed at (Try block handlers)) = declared_in program block + declared_under program handlers
  declared_at program (Placed at (Nested block)) = declared_in program block

  pub declared_in : Program → Block → ℕ
  declared_in program Empty = 0
  declared_in program (Then statement rest) = declared_at program statement + declared_in program rest

  pub declared_under : Program → Handlers → ℕ
  declared_under program NoMore = 0
  declared_under program (Catch at handled body rest) = declared_in program body + declared_under program rest

abbrev pub declared_at_calls : Program → ℕ
declared_at_calls program = sum_by (λ (procedure : ProcedureEntry). declared_in program procedure.body) program.procedures

-- the demands on the labels at which procedures begin: one for each call
abbrev pub begins_at : Option Target → ℕ
begins_at None = 0
begins_at (Some (ToVariable f x)) = 0
begins_at (Some (ToChannel channel)) = 0
begins_at (Some (ToBegin f)) = 1
begins_at (Some (ToParameter f n)) = 0
begins_at (Some (ToValue f)) = 0
begins_at (Some (ToEnd f)) = 0
begins_at (Some (ToThrown f x)) = 0
begins_at (Some (ToLoop f loop)) = 0

abbrev pub begins : List NamedConstraint → ℕ
begins [] = 0
begins (c ∷ rest) = begins_at c.target + begins rest
