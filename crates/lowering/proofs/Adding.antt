-- Pieces of code with their handlers, added one after the other.
use Rattle.std.proofs.Common.{◌≡◌, refl, sym, ap, ◌∙◌, ℕ, ◌+◌, List, [], ◌++◌, length, append_assoc, append-nil}
use Rattle.modules.specs.declared.instruction.Instruction.{Instruction}
use Rattle.modules.specs.declared.declaration.Handler.{Handler}
use Rattle.std.specs.Prelude.{Bool}
use Rattle.resolved.specs.Program.{Program}
use Rattle.resolved.specs.Tree.{Statement, Block, Then}
use Rattle.lowering.specs.Code.{Loop, statement_size, statement_code, statement_table, block_size, block_code, block_table, jump_code, jump_size}
use Rattle.lowering.specs.Added.{IsCodeAdded, IsStatementAdded, IsBlockAdded}
use Rattle.lowering.proofs.Sizes.{statement-sized, block-sized, jump-sized}
use Rattle.lowering.proofs.Appending.{both, longer}

-- two pieces, the second for the position after the first
pub added-both : (first second : ℕ → List Instruction) (front back : ℕ → List Handler) (n : ℕ) (before middle after : List Instruction) (table_before table_middle table_after : List Handler)
    → length (first (length before)) ≡ n
    → IsCodeAdded first front before middle table_before table_middle → IsCodeAdded second back middle after table_middle table_after
    → IsCodeAdded (λ position. first position ++ second (position + n)) (λ position. front position ++ back (position + n)) before after table_before table_after
added-both first second front back n before middle after table_before table_middle table_after size a b = record {
  code = both before middle after first second n a.code size b.code;
  handlers = b.handlers
      ∙ (ap (λ m. table_middle ++ back m) (longer before middle (first (length before)) n a.code size)
      ∙ (ap (λ table. table ++ back (length before + n)) a.handlers ∙ append_assoc table_before (front (length before)) (back (length before + n))));
}

-- a piece without handlers
pub added-code : (piece : ℕ → List Instruction) (before after : List Instruction) (table : List Handler)
    → after ≡ before ++ piece (length before) → IsCodeAdded piece (λ position. []) before after table table
added-code piece before after table is = record { code = is; handlers = sym (append-nil table) }

-- what was added so far, and what is left to be added, is the whole
pub record AreLeft (whole : ℕ → List Instruction) (entries : ℕ → List Handler) (left : ℕ → List Instruction) (left_entries : ℕ → List Handler)
    (before now : List Instruction) (table_before table : List Handler) : Type 0 where
  pub code : now ++ left (length now) ≡ before ++ whole (length before)
  pub handlers : table ++ left_entries (length now) ≡ table_before ++ entries (length before)

pub left-next : (whole first left : ℕ → List Instruction) (entries front left_entries : ℕ → List Handler) (n : ℕ) (before now after : List Instruction) (table_before table table_after : List Handler)
    → length (first (length now)) ≡ n
    → AreLeft whole entries (λ position. first position ++ left (position + n)) (λ position. front position ++ left_entries (position + n)) before now table_before table
    → IsCodeAdded first front now after table table_after
    → AreLeft whole entries left left_entries before after table_before table_after
left-next whole first left entries front left_entries n before now after table_before table table_after size so_far a =
    let next = added-both first left front left_entries n now after (after ++ left (length after)) table table_after (table_after ++ left_entries (length after)) size a (record { code = refl; handlers = refl }) in
    record { code = next.code ∙ so_far.code; handlers = next.handlers ∙ so_far.handlers }

-- how long code is after what was added
pub statement_grown : (program : Program) (loop : Loop) (statement : Statement) (before after : List Instruction) (table_before table_after : List Handler)
    → IsStatementAdded program loop statement before after table_before table_after → length after ≡ length before + statement_size program statement
statement_grown program loop statement before after table_before table_after a =
    longer before after (statement_code program loop (length before) statement) (statement_size program statement) a.code (statement-sized program loop (length before) statement)

pub block_grown : (program : Program) (loop : Loop) (block : Block) (before after : List Instruction) (table_before table_after : List Handler)
    → IsBlockAdded program loop block before after table_before table_after → length after ≡ length before + block_size program block
block_grown program loop block before after table_before table_after a =
    longer before after (block_code program loop (length before) block) (block_size program block) a.code (block-sized program loop (length before) block)

pub jump_grown : (wanted : Bool) (target : ℕ) (before after : List Instruction) → after ≡ before ++ jump_code wanted target → length after ≡ length before + jump_size wanted
jump_grown wanted target before after is = longer before after (jump_code wanted target) (jump_size wanted) is (jump-sized wanted target)

-- the next statement of a block
pub block-next : (program : Program) (loop : Loop) (all left : Block) (statement : Statement) (before now after : List Instruction) (table_before table table_after : List Handler)
    → AreLeft (λ position. block_code program loop position all) (λ position. block_table program position all)
    (λ position. block_code program loop position (Then statement left)) (λ position. block_table program position (Then statement left)) before now table_before table
    → IsStatementAdded program loop statement now after table table_after
    → AreLeft (λ position. block_code program loop position all) (λ position. block_table program position all)
    (λ position. block_code program loop position left) (λ position. block_table program position left) before after table_before table_after
block-next program loop all left statement before now after table_before table table_after so_far a =
    left-next (λ position. block_code program loop position all) (λ position. statement_code program loop position statement) (λ position. block_code program loop position left)
    (λ position. block_table program position all) (λ position. statement_table program position statement) (λ position. block_table program position left)
    (statement_size program statement) before now after table_before table table_after (statement-sized program loop (length now) statement) so_far a

pub ruleset grown = (statement_grown, block_grown, jump_grown)
