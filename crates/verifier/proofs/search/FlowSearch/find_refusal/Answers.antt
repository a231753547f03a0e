use Rattle.modules.specs.declared.instruction.Instruction.{Instruction}
use Rattle.std.proofs.Common.{List, ◌≡◌, suc, ◌-◌, length, set, replicate, Some, None, arith, ap, subst, sym, ◌∙◌}
use Rattle.modules.specs.Code.{code_length}
use Rattle.verifier.proofs.Offsets.{code_length_least}
use Rattle.verifier.proofs.Reaching.{empty_falls, no_items, started, start_left, waiting_start}
use Rattle.verifier.specs.Depth.{IsGreatestDepth}
use Rattle.verifier.proofs.search.FlowSearch.find_refusal.Goals as goal
use Rattle.verifier.proofs.search.FlowSearch.find_refusal.Goals.{then-is_empty+in_ok-run, else-is_empty+in_ok-run-2}

pub returns-then-count-eq0-clause-rejected : goal.returns-then-count-eq0-clause-rejected
returns-then-count-eq0-clause-rejected c =
    let code = c.args.body.now.procedure.now.code in
    rw c.refuse.ensures (empty_falls c.args.body.now.program.now c.args.body.now.procedure.now (ap code_length (no_items code (omega (arith, ap (λ (xs : List Instruction). length xs) c.code-count.ensures, c.if-count-eq0.true)))))

pub run-requires-clause-searching : goal.run-requires-clause-searching
run-requires-clause-searching c =
    let n : length c.code-count.result.now ≡ suc (length c.code-count.result.now - 1) = omega arith in
    let size : length c.args.body.now.procedure.now.code ≡ suc (length c.code-count.result.now - 1) = omega (arith, ap (λ (xs : List Instruction). length xs) c.code-count.ensures, c.if-count-eq0.false) in
    let r = c.in_ok-restart-2.ensures in
    started c.args.body.now.program.now c.args.body.now.procedure.now _ (length c.code-count.result.now - 1) size c.requires.boundaries r.lists r.longest r.deepest (r.shapes ∙ ap (λ k. set (replicate k None) 0 (Some 0)) n) r.work

pub run-requires-else-is_empty-clause-searching : goal.run-requires-else-is_empty-clause-searching
run-requires-else-is_empty-clause-searching c =
    let n : length c.code-count.result.now ≡ suc (length c.code-count.result.now - 1) = omega arith in
    let size : length c.args.body.now.procedure.now.code ≡ suc (length c.code-count.result.now - 1) = omega (arith, ap (λ (xs : List Instruction). length xs) c.code-count.ensures, c.if-count-eq0.false) in
    let r = c.in_ok-restart-2.ensures in
    started c.args.body.now.program.now c.args.body.now.procedure.now _ (length c.code-count.result.now - 1) size c.requires.boundaries r.lists r.longest r.deepest (r.shapes ∙ ap (λ k. set (replicate k None) 0 (Some 0)) n) r.work

pub run-requires-clause-room : goal.run-requires-clause-room
run-requires-clause-room c =
    let n : length c.code-count.result.now ≡ suc (length c.code-count.result.now - 1) = omega arith in
    let size : length c.args.body.now.procedure.now.code ≡ suc (length c.code-count.result.now - 1) = omega (arith, ap (λ (xs : List Instruction). length xs) c.code-count.ensures, c.if-count-eq0.false) in
    let r = c.in_ok-restart-2.ensures in
    omega (arith, r.room, start_left c.args.body.now.program.now c.args.body.now.procedure.now c.restart-2.new.self (length c.code-count.result.now - 1) size c.requires.boundaries r.lists r.longest r.deepest (r.shapes ∙ ap (λ k. set (replicate k None) 0 (Some 0)) n) r.work)

pub run-requires-else-is_empty-clause-room : goal.run-requires-else-is_empty-clause-room
run-requires-else-is_empty-clause-room c =
    let n : length c.code-count.result.now ≡ suc (length c.code-count.result.now - 1) = omega arith in
    let size : length c.args.body.now.procedure.now.code ≡ suc (length c.code-count.result.now - 1) = omega (arith, ap (λ (xs : List Instruction). length xs) c.code-count.ensures, c.if-count-eq0.false) in
    let r = c.in_ok-restart-2.ensures in
    omega (arith, r.room, start_left c.args.body.now.program.now c.args.body.now.procedure.now c.restart-2.new.self (length c.code-count.result.now - 1) size c.requires.boundaries r.lists r.longest r.deepest (r.shapes ∙ ap (λ k. set (replicate k None) 0 (Some 0)) n) r.work)

pub restart-requires-2-clause-few : goal.restart-requires-2-clause-few
restart-requires-2-clause-few c = omega (arith, ap (λ (xs : List Instruction). length xs) c.code-count.ensures, c.requires.body.short, code_length_least c.args.body.now.procedure.now.code)

pub run-requires-clause-waiting : goal.run-requires-clause-waiting
run-requires-clause-waiting c =
    waiting_start c.args.body.now.procedure.now c.restart.new.self _ c.handlers.result.now c.handlers.ensures c.in_ok-restart.ensures.coverage c.in_ok-restart.ensures.real c.in_ok-restart.ensures.all

pub run-requires-else-is_empty-clause-waiting : goal.run-requires-else-is_empty-clause-waiting
run-requires-else-is_empty-clause-waiting c =
    waiting_start c.args.body.now.procedure.now c.restart.new.self _ c.handlers.result.now c.handlers.ensures c.in_ok-restart.ensures.coverage c.in_ok-restart.ensures.real c.in_ok-restart.ensures.all

pub returns-clause-depth : goal.returns-clause-depth
returns-clause-depth c = subst (IsGreatestDepth c.args.body.now.program.now c.args.body.now.procedure.now) (sym c.depth.ensures.value)
    (elim c.if-is_empty.branch [
      | then-is_empty+in_ok-run w ↦ rw w.self-is w.in_ok-run.ensures.depth
      | else-is_empty+in_ok-run-2 w ↦ rw w.self-is w.in_ok-run-2.ensures.depth
    ])
