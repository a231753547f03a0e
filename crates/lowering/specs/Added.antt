-- Private: what the code of a part of a procedure adds to the instructions and the handlers that are there.
-- Source: our own.
use Rattle.std.specs.Prelude.{ℕ, List, length, ◌++◌, ◌≡◌}
use Rattle.resolved.specs.Tree.{Statement, Block, Handlers}
use Rattle.resolved.specs.Program.{Program}
use Rattle.modules.specs.declared.instruction.Instruction.{Instruction}
use Rattle.modules.specs.declared.declaration.Handler.{Handler}
use Rattle.lowering.specs.Code.{Loop, statement_code, statement_table, block_code, block_table, handlers_code, handlers_table}

-- instructions for the position after those that were there, and handlers for it
pub record IsCodeAdded (piece : ℕ → List Instruction) (entries : ℕ → List Handler) (before after : List Instruction) (table_before table_after : List Handler) : Type 0 where
  pub code : after ≡ before ++ piece (length before)
  pub handlers : table_after ≡ table_before ++ entries (length before)

abbrev pub IsStatementAdded : Program → Loop → Statement → (before after : List Instruction) (table_before table_after : List Handler) → Type 0
IsStatementAdded program loop statement =
    IsCodeAdded (λ position. statement_code program loop position statement) (λ position. statement_table program position statement)

abbrev pub IsBlockAdded : Program → Loop → Block → (before after : List Instruction) (table_before table_after : List Handler) → Type 0
IsBlockAdded program loop block =
    IsCodeAdded (λ position. block_code program loop position block) (λ position. block_table program position block)

-- handlers of a block from start to end, with the code after them
abbrev pub AreHandlersAdded : Program → Loop → (beyond start end : ℕ) → Handlers → (before after : List Instruction) (table_before table_after : List Handler) → Type 0
AreHandlersAdded program loop beyond start end handlers =
    IsCodeAdded (λ position. handlers_code program loop beyond position handlers) (λ position. handlers_table program start end position handlers)
