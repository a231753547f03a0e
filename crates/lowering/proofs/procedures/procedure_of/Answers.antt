use Rattle.std.proofs.Common.{◌≡◌, ◌+◌, ◌<◌, ◌^◌, ◌++◌, ◌∙◌, length, List, ap, map, subst, sym}
use Rattle.modules.specs.declared.instruction.Instruction.{Instruction}
use Rattle.resolved.specs.CoreOf.{program_of}
use Rattle.resolved.specs.ProgramOf.{slot_entry}
use Rattle.resolved.specs.TreeOf.{block_of}
use Rattle.lowering.specs.Code.{block_code, block_falls, block_size, block_table}
use Rattle.lowering.specs.Graphs.{body_code, end_code, no_loop}
use Rattle.lowering.specs.Interface.{slot_contents}
use Rattle.lowering.specs.Threaded.{threaded}
use Rattle.lowering.proofs.Room.{body-short}
use Rattle.lowering.proofs.procedures.procedure_of.Goals as goal

pub thread-requires : goal.thread-requires
thread-requires c =
    body-short (program_of c.args.core.now) (record { beyond = 0; test = 0 }) (block_of c.deref.result.now) _ _ _ _ _
    (subst (λ body. block_size (program_of c.args.core.now) (block_of body) + 1 < 2 ^ 32) (sym c.deref.ensures.value) c.requires)
    c.clear.ensures.items c.in_ok-push_block.ensures.code c.in_ok-push_end.ensures c.deref-3.ensures.value

pub returns : goal.returns
returns c =
    let program = program_of c.args.core.now in
    let labels = c.args.core.now.labels in
    let body = c.args.procedure.now.body.items in
    let block : c.push_block.new.code.items ≡ block_code program no_loop 0 (block_of body) =
    c.in_ok-push_block.ensures.code
    ∙ (ap (λ (none : List Instruction). none ++ block_code program no_loop (length none) (block_of c.deref.result.now)) c.clear.ensures.items
    ∙ ap (λ statements. block_code program no_loop 0 (block_of statements)) c.deref.ensures.value) in
    let falls = c.block_falls.ensures ∙ ap (λ statements. block_falls (block_of statements)) c.deref-2.ensures.value in
    let code : c.in_ok-code.code.items ≡ threaded (body_code program (block_of body)) =
    c.in_ok-code.ensures
    ∙ ap threaded (c.deref-3.ensures.value ∙ (c.in_ok-push_end.ensures ∙ (λ i. block i ++ end_code (falls i)))) in
    let table : c.push_block.new.table.items ≡ block_table program 0 (block_of body) =
    c.in_ok-push_block.ensures.handlers
    ∙ ((λ i. c.new-handlers.ensures.items i ++ block_table program (length (c.clear.ensures.items i)) (block_of c.deref.result.now))
    ∙ ap (λ statements. block_table program 0 (block_of statements)) c.deref.ensures.value) in
    let slots = c.in_ok-slots.ensures labels ∙ ap (λ list. map slot_contents (map (slot_entry labels) list)) c.deref-4.ensures.value in
    c.new.ensures ∙ (λ i. record {
      returned = c.returned_kind-returned.ensures labels i;
      parameters = c.args.procedure.now.parameters;
      slots = slots i;
      code = code i;
      handlers = table i;
    })
