-- Programs of which each statement is reached, and what the inner unknowns stand for in them.
use Rattle.std.specs.Prelude.{flat_map}
use Rattle.std.proofs.Common.{◌≡◌, ℕ, suc, ◌+◌, true, ◌++◌}
use Rattle.resolved.specs.declared.statement.Exit.TheVariants.{Normal, Continue, Throw}
use Rattle.resolved.specs.declared.target.Target.TheVariants.{ToLoop}
use Rattle.resolved.specs.Tree.{Statement, Placed, Assign, Clear, Store, Receive, Send, Call, If, While, Leave, ReturnWith, Try, Nested, Block, Empty, Then, Handlers, NoMore, Catch}
use Rattle.resolved.specs.Program.{Program}
use Rattle.resolved.specs.Exits.{has_exit, handles, statement_exits}
use Rattle.resolved.specs.Labelled.{Scope, Join, one, label_of, value_label, raise_label, ExitLabels}
use Rattle.resolved.specs.LabelRules.{statement_exit_labels, block_exit_labels}
use Rattle.gathering.specs.Walk.{handler_count, handler_number, made_by_statement, made_by_block}

-- each statement is reached: the one before it can end normally
abbrev pub Goes : Program → Statement → Block → Type 0
Goes program statement Empty = Unit {0}
Goes program statement (Then next rest) = has_exit (statement_exits program statement) Normal ≡ true

abbrev mutual
  pub Part : Program → Statement → Type 0
  Part program (Placed at (Assign x e)) = Unit {0}
  Part program (Placed at (Clear slot)) = Unit {0}
  Part program (Placed at (Store array length index e)) = Unit {0}
  Part program (Placed at (Receive channel target)) = Unit {0}
  Part program (Placed at (Send channel e)) = Unit {0}
  Part program (Placed at (Call procedure arguments target)) = Unit {0}
  Part program (Placed at (If e then_block else_block)) = PartIn program then_block × PartIn program else_block
  Part program (Placed at (While loop e body)) = PartIn program body
  Part program (Placed at (Leave exit)) = Unit {0}
  Part program (Placed at (ReturnWith value)) = Unit {0}
  Part program (Placed at (Try block handlers)) = PartIn program block × PartBy program handlers
  Part program (Placed at (Nested block)) = PartIn program block

  pub PartIn : Program → Block → Type 0
  PartIn program Empty = Unit {0}
  PartIn program (Then statement rest) = Part program statement × Goes program statement rest × PartIn program rest

  pub PartBy : Program → Handlers → Type 0
  PartBy program NoMore = Unit {0}
  PartBy program (Catch at handled body rest) = PartIn program body × PartBy program rest

-- ---- what an inner unknown stands for, and that the gathering keeps it
module _ (scope : Scope) (m : ℕ → Join) where
  abbrev mutual
    pub Agrees : (n : ℕ) → (pc : Join) → Statement → Type 0
    Agrees n pc (Placed at (Assign x e)) = Unit {0}
    Agrees n pc (Placed at (Clear slot)) = Unit {0}
    Agrees n pc (Placed at (Store array length index e)) = Unit {0}
    Agrees n pc (Placed at (Receive channel target)) = Unit {0}
    Agrees n pc (Placed at (Send channel e)) = Unit {0}
    Agrees n pc (Placed at (Call procedure arguments target)) = m n ≡ (pc ++ flat_map (raise_label scope) arguments)
    Agrees n pc (Placed at (If e then_block else_block)) =
        let branch : Join = (pc ++ raise_label scope e) ++ value_label scope e in
        (m n ≡ branch) × AgreesIn (suc n) branch then_block × AgreesIn (suc n + made_by_block then_block) branch else_block
    Agrees n pc (Placed at (While loop e body)) =
        let b : Join = (one (label_of scope.program (ToLoop scope.number loop)) ++ raise_label scope e) ++ value_label scope e in
        (m n ≡ b) × (m (suc n) ≡ (block_exit_labels scope b body Normal ++ block_exit_labels scope b body Continue)) × AgreesIn (suc (suc n)) b body
    Agrees n pc (Placed at (Leave exit)) = Unit {0}
    Agrees n pc (Placed at (ReturnWith value)) = Unit {0}
    Agrees n pc (Placed at (Try block handlers)) =
        let x : ExitLabels = block_exit_labels scope pc block in
        ((y : ℕ) → handles handlers y ≡ true → m (handler_number handlers n y) ≡ x (Throw y))
        × AgreesIn (n + handler_count handlers) pc block × AgreesBy ((n + handler_count handlers) + made_by_block block) x handlers
    Agrees n pc (Placed at (Nested block)) = AgreesIn n pc block

    pub AgreesIn : (n : ℕ) → (pc : Join) → Block → Type 0
    AgreesIn n pc Empty = Unit {0}
    AgreesIn n pc (Then statement rest) =
        (m n ≡ statement_exit_labels scope pc statement Normal) × Agrees (suc n) pc statement
        × AgreesIn (suc n + made_by_statement statement) (statement_exit_labels scope pc statement Normal) rest

    pub AgreesBy : (n : ℕ) → ExitLabels → Handlers → Type 0
    AgreesBy n x NoMore = Unit {0}
    AgreesBy n x (Catch at handled body rest) = AgreesIn n (x (Throw handled)) body × AgreesBy (n + made_by_block body) x rest
