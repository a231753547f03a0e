use Rattle.std.proofs.Common.{arith, ◌∙◌, ap, ◌≡◌, ◌+◌, ℕ, List, [], Bor}
use Rattle.channels.specs.Table.{table_of}
use Rattle.channels.specs.WorldText.{texts_of}
use Rattle.channels.proofs.Tables.{right_more, table_on, line_reported}
use Rattle.channels.proofs.world_read.read_lines.Goals as goal

pub returns-in-Err-clause-first_fault : goal.returns-in-Err-clause-first_fault
returns-in-Err-clause-first_fault c =
    let d : Bor (List ℕ) = record { ref_ptr = (0, 0); now = [] } in
    let counted : c.loop-line.number + 1 ≡ c.loop-line.line-index + 1 = omega (arith, c.loop-line.invariant.counted) in
    line_reported c.args.text.now c.deref-line-items.result.now (ap texts_of c.deref-line-items.ensures.value ∙ c.in_ok-lines.ensures) c.loop-line.line-index d c.loop-line-test.true (texts_of c.deref.result.now) (ap texts_of c.deref.ensures.value ∙ c.in_ok-words.ensures)
    (texts_of c.args.names.now) (table_of c.loop-line.inputs) c.loop-line.invariant.table c.in-Err.fault (c.loop-line.number + 1) c.at_line.result counted c.loop-line.invariant.right c.at_line.ensures c.in-Err.ensures.rejected

pub loop-line-preserved : goal.loop-line-preserved
loop-line-preserved c =
    let d : Bor (List ℕ) = record { ref_ptr = (0, 0); now = [] } in
    let cut = ap texts_of c.deref-line-items.ensures.value ∙ c.in_ok-lines.ensures in
    let words = ap texts_of c.deref.ensures.value ∙ c.in_ok-words.ensures in
    record {
      counted = omega (arith, c.loop-line.invariant.counted);
      right = right_more c.args.text.now c.deref-line-items.result.now cut c.loop-line.line-index d c.loop-line-test.true (texts_of c.deref.result.now) words (texts_of c.args.names.now) (table_of c.loop-line.inputs) c.loop-line.invariant.table c.loop-line.invariant.right c.in-Ok.ensures.accepted;
      table = table_on c.args.text.now c.deref-line-items.result.now cut c.loop-line.line-index d c.loop-line-test.true (texts_of c.deref.result.now) words (texts_of c.args.names.now) (table_of c.loop-line.inputs) c.loop-line.invariant.table (table_of c.read_line.new.inputs) c.in-Ok.ensures.accepted c.in-Ok.ensures.table;
    }
