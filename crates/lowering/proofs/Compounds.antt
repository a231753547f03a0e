-- The code of statements with blocks, as the pieces that are added for them, and what is left of a block or of handlers after the first.
use Rattle.std.proofs.Common.{◌≡◌, refl, sym, ap, subst, ◌∙◌, ℕ, ◌+◌, Bool, true, false, List, [], ◌∷◌, ◌++◌, length, arith, append_assoc, append-nil}
use Rattle.modules.specs.declared.instruction.Instruction.{Instruction}
use Rattle.modules.specs.declared.instruction.Instruction.TheVariants.{Jump}
use Rattle.modules.specs.declared.declaration.Handler.{Handler}
use Rattle.resolved.specs.Program.{Program}
use Rattle.resolved.specs.Tree.{Expression, Statement, Placed, If, While, Try, Nested, Block, Then, Handlers, Catch}
use Rattle.lowering.specs.Expressions.{branch_size, branch_code}
use Rattle.lowering.specs.Code.{Loop, jump_size, jump_code, jumps_over, jumps_after, entry_of, block_size, block_code, block_table, handlers_size, handlers_code, handlers_table}
use Rattle.lowering.specs.Added.{IsStatementAdded, IsBlockAdded, AreHandlersAdded}
use Rattle.lowering.proofs.Sizes.{branch-sized, jump-sized, block-sized}
use Rattle.lowering.proofs.Appending.{branch_grown}
use Rattle.lowering.proofs.Adding.{AreLeft, added-both, added-code, block-next, block_grown}

-- ---- where a statement stands in its text does not show in its code
pub if-placed : (program : Program) (loop : Loop) (s : Statement) (at : ℕ) (e : Expression) (then_block else_block : Block) (before after : List Instruction) (table_before table_after : List Handler)
    → s ≡ Placed at (If e then_block else_block)
    → IsStatementAdded program loop (Placed 0 (If e then_block else_block)) before after table_before table_after → IsStatementAdded program loop s before after table_before table_after
if-placed program loop s at e then_block else_block before after table_before table_after is made =
    subst (λ t. IsStatementAdded program loop t before after table_before table_after) (sym is) (record { code = made.code; handlers = made.handlers })

pub while-placed : (program : Program) (loop : Loop) (s : Statement) (at number : ℕ) (e : Expression) (body : Block) (before after : List Instruction) (table_before table_after : List Handler)
    → s ≡ Placed at (While number e body)
    → IsStatementAdded program loop (Placed 0 (While 0 e body)) before after table_before table_after → IsStatementAdded program loop s before after table_before table_after
while-placed program loop s at number e body before after table_before table_after is made =
    subst (λ t. IsStatementAdded program loop t before after table_before table_after) (sym is) (record { code = made.code; handlers = made.handlers })

pub try-placed : (program : Program) (loop : Loop) (s : Statement) (at : ℕ) (block : Block) (handlers : Handlers) (before after : List Instruction) (table_before table_after : List Handler)
    → s ≡ Placed at (Try block handlers)
    → IsStatementAdded program loop (Placed 0 (Try block handlers)) before after table_before table_after → IsStatementAdded program loop s before after table_before table_after
try-placed program loop s at block handlers before after table_before table_after is made =
    subst (λ t. IsStatementAdded program loop t before after table_before table_after) (sym is) (record { code = made.code; handlers = made.handlers })

pub nested-placed : (program : Program) (loop : Loop) (s : Statement) (at : ℕ) (block : Block) (before after : List Instruction) (table_before table_after : List Handler)
    → s ≡ Placed at (Nested block)
    → IsBlockAdded program loop block before after table_before table_after → IsStatementAdded program loop s before after table_before table_after
nested-placed program loop s at block before after table_before table_after is made =
    subst (λ t. IsStatementAdded program loop t before after table_before table_after) (sym is) (record { code = made.code; handlers = made.handlers })

-- ---- the pieces of a statement
pub if-added : (program : Program) (loop : Loop) (e : Expression) (then_block else_block : Block) (jumps : Bool) (second end : ℕ)
    (before tested first jumped after : List Instruction) (table_before table_first table_after : List Handler)
    → jumps ≡ jumps_over then_block else_block
    → second ≡ length before + branch_size false e + block_size program then_block + jump_size (jumps_over then_block else_block)
    → end ≡ second + block_size program else_block
    → tested ≡ before ++ branch_code false (length before) second e
    → IsBlockAdded program loop then_block tested first table_before table_first
    → jumped ≡ first ++ jump_code jumps end
    → IsBlockAdded program loop else_block jumped after table_first table_after
    → IsStatementAdded program loop (Placed 0 (If e then_block else_block)) before after table_before table_after
if-added program loop e then_block else_block jumps second end before tested first jumped after table_before table_first table_after is_jumps is_second is_end test made jump made_too =
    let n = branch_size false e in
    let m = block_size program then_block in
    let j = jumps_over then_block else_block in
    let k = jump_size j in
    let s = block_size program else_block in
    let branched : tested ≡ before ++ branch_code false (length before) (length before + n + m + k) e =
    test ∙ ap (λ (p : ℕ). before ++ branch_code false (length before) p e) is_second in
    let tested_size : length tested ≡ length before + n = branch_grown before tested false (length before + n + m + k) e branched in
    let first_size : length first ≡ length tested + m = block_grown program loop then_block tested first table_before table_first made in
    let position : end ≡ length first + k + s = omega (arith, is_second, is_end, tested_size, first_size) in
    let over : jumped ≡ first ++ jump_code j (length first + k + s) =
    jump ∙ (ap (λ (b : Bool). first ++ jump_code b end) is_jumps ∙ ap (λ (p : ℕ). first ++ jump_code j p) position) in
    let last = added-both (λ p. jump_code j (p + k + s)) (λ p. block_code program loop p else_block) (λ p. []) (λ p. block_table program p else_block) k
    first jumped after table_first table_first table_after (jump-sized j (length first + k + s))
    (added-code (λ p. jump_code j (p + k + s)) first jumped table_first over) made_too in
    let blocks = added-both (λ p. block_code program loop p then_block) (λ p. jump_code j (p + k + s) ++ block_code program loop (p + k) else_block)
    (λ p. block_table program p then_block) (λ p. block_table program (p + k) else_block) m
    tested first after table_before table_first table_after (block-sized program loop (length tested) then_block) made last in
    let whole = added-both (λ p. branch_code false p (p + n + m + k) e)
    (λ p. block_code program loop p then_block ++ (jump_code j (p + m + k + s) ++ block_code program loop (p + m + k) else_block))
    (λ p. []) (λ p. block_table program p then_block ++ block_table program (p + m + k) else_block) n
    before tested after table_before table_before table_after (branch-sized e false (length before) (length before + n + m + k))
    (added-code (λ p. branch_code false p (p + n + m + k) e) before tested table_before branched) blocks in
    record { code = whole.code; handlers = whole.handlers }

pub while-added : (program : Program) (loop : Loop) (e : Expression) (body : Block) (start test beyond : ℕ)
    (before jumped first after : List Instruction) (table_before table_after : List Handler)
    → start ≡ length before + 1
    → test ≡ length before + 1 + block_size program body
    → beyond ≡ test + branch_size true e
    → jumped ≡ before ++ Jump test ∷ []
    → IsBlockAdded program (record { beyond = beyond; test = test }) body jumped first table_before table_after
    → after ≡ first ++ branch_code true (length first) start e
    → IsStatementAdded program loop (Placed 0 (While 0 e body)) before after table_before table_after
while-added program loop e body start test beyond before jumped first after table_before table_after is_start is_test is_after jump made back =
    let m = block_size program body in
    let b = branch_size true e in
    let inner : Loop = record { beyond = beyond; test = test } in
    let last = added-both (λ p. block_code program inner p body) (λ p. branch_code true p start e) (λ p. block_table program p body) (λ p. []) m
    jumped first after table_before table_after table_after (block-sized program inner (length jumped) body) made
    (added-code (λ p. branch_code true p start e) first after table_after back) in
    let whole = added-both (λ p. Jump test ∷ []) (λ p. block_code program inner p body ++ branch_code true (p + m) start e)
    (λ p. []) (λ p. block_table program p body ++ []) 1
    before jumped after table_before table_before table_after refl (added-code (λ p. Jump test ∷ []) before jumped table_before jump) last in
    record {
      code = whole.code
          ∙ (ap (λ (n : ℕ). before ++ (Jump test ∷ (block_code program inner (length before + 1) body ++ branch_code true (length before + 1 + m) n e))) is_start
          ∙ (ap (λ (n : ℕ). before ++ (Jump test ∷ (block_code program (record { beyond = n; test = test }) (length before + 1) body
          ++ branch_code true (length before + 1 + m) (length before + 1) e))) is_after
          ∙ ap (λ (n : ℕ). before ++ (Jump n ∷ (block_code program (record { beyond = n + b; test = n }) (length before + 1) body
          ++ branch_code true (length before + 1 + m) (length before + 1) e))) is_test));
      handlers = whole.handlers ∙ ap (λ (list : List Handler). table_before ++ list) (append-nil (block_table program (length before + 1) body));
    }

pub try-added : (program : Program) (loop : Loop) (block : Block) (handlers : Handlers) (jumps : Bool) (start end beyond : ℕ)
    (before tried jumped after : List Instruction) (table_before table_tried table_after : List Handler)
    → jumps ≡ jumps_after block handlers
    → start ≡ length before
    → end ≡ length tried
    → beyond ≡ end + jump_size (jumps_after block handlers) + handlers_size program handlers
    → IsBlockAdded program loop block before tried table_before table_tried
    → jumped ≡ tried ++ jump_code jumps beyond
    → AreHandlersAdded program loop beyond start end handlers jumped after table_tried table_after
    → IsStatementAdded program loop (Placed 0 (Try block handlers)) before after table_before table_after
try-added program loop block handlers jumps start end beyond before tried jumped after table_before table_tried table_after is_jumps is_start is_end is_after made jump caught =
    let m = block_size program block in
    let j = jumps_after block handlers in
    let k = jump_size j in
    let s = handlers_size program handlers in
    let over : jumped ≡ tried ++ jump_code j beyond = jump ∙ ap (λ (b : Bool). tried ++ jump_code b beyond) is_jumps in
    let tried_size : length tried ≡ length before + m = block_grown program loop block before tried table_before table_tried made in
    let end_position : end ≡ length before + m = is_end ∙ tried_size in
    let after_position : beyond ≡ length before + m + k + s = is_after ∙ ap (λ (n : ℕ). n + k + s) end_position in
    let last = added-both (λ p. jump_code j beyond) (λ p. handlers_code program loop beyond p handlers) (λ p. []) (λ p. handlers_table program start end p handlers) k
    tried jumped after table_tried table_tried table_after (jump-sized j beyond) (added-code (λ p. jump_code j beyond) tried jumped table_tried over) caught in
    let whole = added-both (λ p. block_code program loop p block) (λ p. jump_code j beyond ++ handlers_code program loop beyond (p + k) handlers)
    (λ p. block_table program p block) (λ p. handlers_table program start end (p + k) handlers) m
    before tried after table_before table_tried table_after (block-sized program loop (length before) block) made last in
    record {
      code = whole.code
          ∙ ap (λ (n : ℕ). before ++ (block_code program loop (length before) block ++ (jump_code j n ++ handlers_code program loop n (length before + m + k) handlers))) after_position;
      handlers = whole.handlers
          ∙ (ap (λ (n : ℕ). table_before ++ (block_table program (length before) block ++ handlers_table program n end (length before + m + k) handlers)) is_start
          ∙ ap (λ (n : ℕ). table_before ++ (block_table program (length before) block ++ handlers_table program (length before) n (length before + m + k) handlers)) end_position);
    }

-- ---- what is left after the first
pub block-left : (program : Program) (loop : Loop) (all left rest : Block) (statement : Statement) (before now after : List Instruction) (table_before table table_after : List Handler)
    → left ≡ Then statement rest
    → AreLeft (λ position. block_code program loop position all) (λ position. block_table program position all)
    (λ position. block_code program loop position left) (λ position. block_table program position left) before now table_before table
    → IsStatementAdded program loop statement now after table table_after
    → AreLeft (λ position. block_code program loop position all) (λ position. block_table program position all)
    (λ position. block_code program loop position rest) (λ position. block_table program position rest) before after table_before table_after
block-left program loop all left rest statement before now after table_before table table_after is so_far made =
    block-next program loop all rest statement before now after table_before table table_after
    (subst (λ b. AreLeft (λ position. block_code program loop position all) (λ position. block_table program position all)
    (λ position. block_code program loop position b) (λ position. block_table program position b) before now table_before table) is so_far)
    made

pub handlers-left : (program : Program) (loop : Loop) (beyond start end : ℕ) (all left rest : Handlers) (at exception target : ℕ) (body : Block) (jumps : Bool)
    (before now first after : List Instruction) (table_before table table_entry table_after : List Handler)
    → left ≡ Catch at exception body rest
    → target ≡ length now
    → jumps ≡ jumps_after body rest
    → AreLeft (λ position. handlers_code program loop beyond position all) (λ position. handlers_table program start end position all)
    (λ position. handlers_code program loop beyond position left) (λ position. handlers_table program start end position left) before now table_before table
    → table_entry ≡ table ++ entry_of start end exception target
    → IsBlockAdded program loop body now first table_entry table_after
    → after ≡ first ++ jump_code jumps beyond
    → AreLeft (λ position. handlers_code program loop beyond position all) (λ position. handlers_table program start end position all)
    (λ position. handlers_code program loop beyond position rest) (λ position. handlers_table program start end position rest) before after table_before table_after
handlers-left program loop beyond start end all left rest at exception target body jumps before now first after table_before table table_entry table_after is is_target is_jumps so_far entry made jump =
    let m = block_size program body in
    let j = jumps_after body rest in
    let k = jump_size j in
    let over : after ≡ first ++ jump_code j beyond = jump ∙ ap (λ (b : Bool). first ++ jump_code b beyond) is_jumps in
    let entered : table_entry ≡ table ++ entry_of start end exception (length now) =
    entry ∙ ap (λ (p : ℕ). table ++ entry_of start end exception p) is_target in
    let code_left = handlers_code program loop beyond (length after) rest in
    let table_left = handlers_table program start end (length after) rest in
    let last = added-both (λ p. jump_code j beyond) (λ p. handlers_code program loop beyond p rest) (λ p. []) (λ p. handlers_table program start end p rest) k
    first after (after ++ code_left) table_after table_after (table_after ++ table_left) (jump-sized j beyond)
    (added-code (λ p. jump_code j beyond) first after table_after over) (record { code = refl; handlers = refl }) in
    let whole = added-both (λ p. block_code program loop p body) (λ p. jump_code j beyond ++ handlers_code program loop beyond (p + k) rest)
    (λ p. block_table program p body) (λ p. handlers_table program start end (p + k) rest) m
    now first (after ++ code_left) table_entry table_after (table_after ++ table_left) (block-sized program loop (length now) body) made last in
    let after_entry = block_table program (length now) body ++ handlers_table program start end (length now + m + k) rest in
    record {
      code = whole.code ∙ (ap (λ h. now ++ handlers_code program loop beyond (length now) h) (sym is) ∙ so_far.code);
      handlers = whole.handlers
          ∙ (ap (λ t. t ++ after_entry) entered
          ∙ (append_assoc table (entry_of start end exception (length now)) after_entry
          ∙ (ap (λ h. table ++ handlers_table program start end (length now) h) (sym is) ∙ so_far.handlers)));
    }
