-- Private: the possible exits of every statement and block of a program in one list, in the order in which the walk meets them, and
-- what it is to have found the exits of such a list.
-- Source: our own.
use Rattle.std.specs.Prelude.{List, [], ◌∷◌, ◌++◌, flat_map, ⊤}
use Rattle.resolved.specs.declared.statement.Exit.{Exit}
use Rattle.resolved.specs.Tree.{Statement, Placed, Assign, Clear, Store, Receive, Send, Call, If, While, Leave, ReturnWith, Try, Nested, Block, Empty, Then, Handlers, NoMore, Catch}
use Rattle.resolved.specs.Program.{Program, ProcedureEntry}
use Rattle.resolved.specs.Exits.{statement_exits, block_exits}
use Rattle.path_map.specs.EndsOf.{SameExits}

-- of the blocks in a statement, of the statements of a block, and of the bodies of handlers, each with what is in it
abbrev mutual
  pub inner_paths : Program → Statement → List (List Exit)
  inner_paths program (Placed at (Assign x e)) = []
  inner_paths program (Placed at (Clear slot)) = []
  inner_paths program (Placed at (Store array length index e)) = []
  inner_paths program (Placed at (Receive channel target)) = []
  inner_paths program (Placed at (Send channel e)) = []
  inner_paths program (Placed at (Call procedure arguments target)) = []
  inner_paths program (Placed at (If e then_block else_block)) =
      (block_exits program then_block ∷ rest_paths program then_block) ++ (block_exits program else_block ∷ rest_paths program else_block)
  inner_paths program (Placed at (While loop e body)) = block_exits program body ∷ rest_paths program body
  inner_paths program (Placed at (Leave exit)) = []
  inner_paths program (Placed at (ReturnWith value)) = []
  inner_paths program (Placed at (Try block handlers)) =
      (block_exits program block ∷ rest_paths program block) ++ handlers_paths program handlers
  inner_paths program (Placed at (Nested block)) = block_exits program block ∷ rest_paths program block

  pub rest_paths : Program → Block → List (List Exit)
  rest_paths program Empty = []
  rest_paths program (Then statement rest) =
      (statement_exits program statement ∷ inner_paths program statement) ++ rest_paths program rest

  pub handlers_paths : Program → Handlers → List (List Exit)
  handlers_paths program NoMore = []
  handlers_paths program (Catch at handled body rest) =
      (block_exits program body ∷ rest_paths program body) ++ handlers_paths program rest

-- of a statement and what is in it, and of a block and what is in it
abbrev pub statement_paths : Program → Statement → List (List Exit)
statement_paths program statement = statement_exits program statement ∷ inner_paths program statement

abbrev pub block_paths : Program → Block → List (List Exit)
block_paths program block = block_exits program block ∷ rest_paths program block

-- lists of exits of which each has the same exits as the other's
abbrev pub HaveSameExits : List (List Exit) → List (List Exit) → Type 0
HaveSameExits [] [] = ⊤
HaveSameExits [] (y ∷ ys) = ⊥
HaveSameExits (x ∷ xs) [] = ⊥
HaveSameExits (x ∷ xs) (y ∷ ys) = SameExits x y × HaveSameExits xs ys

-- of the bodies of all procedures
abbrev pub program_paths : Program → List (List Exit)
program_paths program =
    flat_map (λ (procedure : ProcedureEntry). block_paths program procedure.body) program.procedures
