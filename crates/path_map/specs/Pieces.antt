-- The statements and blocks of a program by their numbers, which count in the order of the text: a block comes before its
-- statements, a statement before the blocks in it, and the body of a procedure before that of the next.
-- Source: our own.
use Rattle.std.specs.Prelude.{List, [], ◌∷◌, ◌++◌, flat_map}
use Rattle.resolved.specs.Tree.{Statement, Placed, Assign, Clear, Store, Receive, Send, Call, If, While, Leave, ReturnWith, Try, Nested, Block, Empty, Then, Handlers, NoMore, Catch}
use Rattle.resolved.specs.Program.{Program, ProcedureEntry}

-- a statement or a block
pub data Piece : Type 0 where
  OfStatement : Statement → Piece
  OfBlock : Block → Piece

-- in a statement, in a block, and in handlers, in their order
abbrev mutual
  pub pieces_in_statement : Statement → List Piece
  pieces_in_statement (Placed at (Assign x e)) = []
  pieces_in_statement (Placed at (Clear slot)) = []
  pieces_in_statement (Placed at (Store array length index e)) = []
  pieces_in_statement (Placed at (Receive channel target)) = []
  pieces_in_statement (Placed at (Send channel e)) = []
  pieces_in_statement (Placed at (Call procedure arguments target)) = []
  pieces_in_statement (Placed at (If e then_block else_block)) =
      (OfBlock then_block ∷ pieces_in_block then_block) ++ (OfBlock else_block ∷ pieces_in_block else_block)
  pieces_in_statement (Placed at (While loop e body)) = OfBlock body ∷ pieces_in_block body
  pieces_in_statement (Placed at (Leave exit)) = []
  pieces_in_statement (Placed at (ReturnWith value)) = []
  pieces_in_statement (Placed at (Try block handlers)) = (OfBlock block ∷ pieces_in_block block) ++ pieces_in_handlers handlers
  pieces_in_statement (Placed at (Nested block)) = OfBlock block ∷ pieces_in_block block

  pub pieces_in_block : Block → List Piece
  pieces_in_block Empty = []
  pieces_in_block (Then statement rest) = (OfStatement statement ∷ pieces_in_statement statement) ++ pieces_in_block rest

  pub pieces_in_handlers : Handlers → List Piece
  pieces_in_handlers NoMore = []
  pieces_in_handlers (Catch at handled body rest) = (OfBlock body ∷ pieces_in_block body) ++ pieces_in_handlers rest

-- all of a program
abbrev pub program_pieces : Program → List Piece
program_pieces program =
    flat_map (λ (procedure : ProcedureEntry). OfBlock procedure.body ∷ pieces_in_block procedure.body) program.procedures
