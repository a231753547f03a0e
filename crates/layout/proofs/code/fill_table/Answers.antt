use Rattle.std.proofs.Common.{◌≡◌, ℕ, ◌+◌, length, sym, ap, ◌∙◌, arith}
use Rattle.layout.specs.Offsets.{offset}
use Rattle.layout.proofs.Offsets.{offset-start}
use Rattle.layout.proofs.Tables.{next-offset, offset-within, length_more, entries_more}
use Rattle.layout.proofs.code.fill_table.Goals as goal
use Rattle.layout.proofs.code.fill_table.Goals.{After-width}

pub loop-instruction-init : goal.loop-instruction-init
loop-instruction-init c = (sym (offset-start c.args.code.now), ap length (c.reserve.ensures.items ∙ c.clear.ensures.items), λ k h. absurd (omega arith))

next_is : (c : After-width) → c.loop-instruction.next + c.width.result ≡ offset c.args.code.now (c.loop-instruction.instruction-index + 1)
next_is c =
    ap (λ (n : ℕ). n + c.width.result) c.loop-instruction.invariant.0
    ∙ ap (λ (n : ℕ). offset c.args.code.now c.loop-instruction.instruction-index + n) c.width.ensures
    ∙ next-offset c.args.code.now c.loop-instruction.instruction-index _ c.loop-instruction-test.true

pub overflow_add-next : goal.overflow_add-next
overflow_add-next c =
    let next = next_is c in
    let most = offset-within c.args.code.now (c.loop-instruction.instruction-index + 1) (omega arith) in
    omega (arith, next, most)

pub loop-instruction-preserved : goal.loop-instruction-preserved
loop-instruction-preserved c = (
  next_is c,
  length_more c.loop-instruction.table.items c.push.new.self.items c.loop-instruction.instruction-index c.loop-instruction.next
      c.loop-instruction.invariant.1 c.in_ok-push.ensures.items,
  entries_more c.args.code.now c.loop-instruction.table.items c.push.new.self.items c.loop-instruction.instruction-index c.loop-instruction.next
      c.loop-instruction.invariant.1 c.in_ok-push.ensures.items c.loop-instruction.invariant.0 c.loop-instruction.invariant.2,
)
