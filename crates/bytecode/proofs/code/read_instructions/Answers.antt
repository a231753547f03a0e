use Rattle.std.proofs.lemmas.Result.{err_from_is_err_and}
use Rattle.std.proofs.Common.{◌≡◌, refl, arith, length-append, length-take, ◌∷◌, []}
use Rattle.bytecode.proofs.Widths.{code_goes_on, code_fails, most_done, some_width}
use Rattle.bytecode.proofs.code.read_instructions.Goals as goal
use Rattle.bytecode.proofs.code.read_instructions.Goals.{then-len-capacity+in_ok-code-2, else-len-capacity}

pub overflow_sub-count : goal.overflow_sub-count
overflow_sub-count c = c.in_ok-more.ensures.rest.0

pub returns-in_err-next : goal.returns-in_err-next
returns-in_err-next c =
    let l = c.loop-room in
    let most = c.in_ok-more.ensures in
    let p = err_from_is_err_and c.from_residual-in_err-next.result c.from_residual-in_err-next.ensures.1 in
    rw (p.1, p.2) (code_fails c.args.version c.in_err-next.field-0.0 c.args.size _ c.in_ok-more.more.items _ _ c.if-room-gt0.true (omega (arith, most.few, most.rest.0, l.invariant.few, c.min.ensures, length-take c.min.result l.rest.now)) c.in_err-next.ensures.gives
    (most_done c.args.version c.args.size l.room c.min.result l.code.items c.in_ok-more.more.items l.rest.now c.in_ok-more.left.now (omega (arith, c.min.ensures)) (omega (arith, c.min.ensures)) l.invariant.few most.goes_on most.rest _ l.invariant.goes_on))

pub loop-room-preserved-then-room-gt0 : goal.loop-room-preserved-then-room-gt0
loop-room-preserved-then-room-gt0 c =
    let l = c.loop-room in
    let most = c.in_ok-more.ensures in
    let next = c.in_ok-next.next in
    let same : c.if-len-capacity.code.items ≡ c.in_ok-more.more.items = elim c.if-len-capacity.branch [
      | then-len-capacity+in_ok-code-2 w ↦ rw w.code-is w.in_ok-code-2.ensures.same
      | else-len-capacity w ↦ rw w.code-is refl
    ] in
    record {
      goes_on = rw (c.push_reserved.ensures.items, same, c.width-room.ensures) (code_goes_on c.args.version c.args.size _ c.in_ok-more.more.items _ next c.in_ok-next.after.now _ c.if-room-gt0.true (omega (arith, most.few, most.rest.0, l.invariant.few, c.min.ensures, length-take c.min.result l.rest.now)) c.in_ok-next.ensures.gives
          (most_done c.args.version c.args.size l.room c.min.result l.code.items c.in_ok-more.more.items l.rest.now c.in_ok-more.left.now (omega (arith, c.min.ensures)) (omega (arith, c.min.ensures)) l.invariant.few most.goes_on most.rest _ l.invariant.goes_on));
      few = rw (c.push_reserved.ensures.items, same) (omega (arith, length-append c.in_ok-more.more.items (next ∷ []), c.in_ok-next.ensures.inside, c.width-room.ensures, some_width next, most.few, most.rest.0, l.invariant.few, c.min.ensures, length-take c.min.result l.rest.now));
    }

pub loop-room-preserved : goal.loop-room-preserved
loop-room-preserved c =
    let l = c.loop-room in
    let most = c.in_ok-more.ensures in
    record {
      goes_on = most_done c.args.version c.args.size l.room c.min.result l.code.items c.in_ok-more.more.items l.rest.now c.in_ok-more.left.now (omega (arith, c.min.ensures)) (omega (arith, c.min.ensures)) l.invariant.few most.goes_on most.rest _ l.invariant.goes_on;
      few = omega (arith, most.few, most.rest.0, l.invariant.few, c.min.ensures, length-take c.min.result l.rest.now);
    }
