use Rattle.std.proofs.Common.{ap, arith, length, ◌∙◌}
use Rattle.solver.specs.EdgeRows.{row_at}
use Rattle.solver.specs.Links.{links_of}
use Rattle.solver.specs.declared.constraints.Atom.TheVariants.{Unknown, Written}
use Rattle.solver.proofs.EdgeCursors.{filled-all, filled-ends, filled-row, rows-count}
use Rattle.solver.proofs.Rows.{none-unknown, none-written}
use Rattle.solver.proofs.edges.edges_of.Goals as goal

pub end-requires : goal.end-requires
end-requires g c = filled-ends Written _ _ c.loop-by.filling.written.cursors.items c.loop-by.filling.written.list.items c.loop-by.invariant.written

pub end-requires-2 : goal.end-requires-2
end-requires-2 g c = filled-ends Unknown _ _ c.loop-by.filling.unknown.cursors.items c.loop-by.filling.unknown.list.items c.loop-by.invariant.unknown

pub returns-clause-written : goal.returns-clause-written
returns-clause-written g c = λ k.
    let rows = c.loop-by.filling.written in
    let all = filled-all Written c.args.constraints.now c.loop-by.by rows.cursors.items rows.list.items (omega (arith, c.loop-by-test.false)) c.loop-by.invariant.written in
    let count = c.loop-by.invariant.written_count in
    ap (λ x. row_at x k) c.end.ensures
    ∙ filled-row Written (links_of 0 c.args.constraints.now) rows.cursors.items rows.list.items k all (λ h. none-written c.args.constraints.now c.args.written c.args.unknowns k c.requires (omega (arith, h, count)))

pub returns-clause-unknown : goal.returns-clause-unknown
returns-clause-unknown g c = λ k.
    let rows = c.loop-by.filling.unknown in
    let all = filled-all Unknown c.args.constraints.now c.loop-by.by rows.cursors.items rows.list.items (omega (arith, c.loop-by-test.false)) c.loop-by.invariant.unknown in
    let count = c.loop-by.invariant.unknown_count in
    ap (λ x. row_at x k) c.end-2.ensures
    ∙ filled-row Unknown (links_of 0 c.args.constraints.now) rows.cursors.items rows.list.items k all (λ h. none-unknown c.args.constraints.now c.args.written c.args.unknowns k c.requires (omega (arith, h, count)))

pub returns-clause-written_count : goal.returns-clause-written_count
returns-clause-written_count g c =
    ap length c.end.ensures ∙ (rows-count 0 c.loop-by.filling.written.cursors.items c.loop-by.filling.written.list.items ∙ c.loop-by.invariant.written_count)

pub returns-clause-unknown_count : goal.returns-clause-unknown_count
returns-clause-unknown_count g c =
    ap length c.end-2.ensures ∙ (rows-count 0 c.loop-by.filling.unknown.cursors.items c.loop-by.filling.unknown.list.items ∙ c.loop-by.invariant.unknown_count)
