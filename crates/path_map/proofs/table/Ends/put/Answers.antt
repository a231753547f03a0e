use Rattle.std.proofs.Common.{arith, map, set, subst, List}
use Rattle.resolved.specs.declared.statement.Exit.{Exit}
use Rattle.path_map.specs.Entries.{IsEntryWritten, entry_exits}
use Rattle.path_map.specs.Sets.{members}
use Rattle.path_map.proofs.Kept.{kept-grown, put-is, put-kept}
use Rattle.path_map.proofs.table.Ends.put.Goals as goal

pub invariant_of-self : goal.invariant_of-self
invariant_of-self c =
    let grown = c.row_of.ensures.grown in (
      omega (arith, c.self.invariant.0, grown.more),
      kept-grown c.self.inside.rows.items c.row_of.new.rows.items grown c.self.inside.entries.items c.self.invariant.1,
    )

pub invariant_of-self-in_err-note : goal.invariant_of-self-in_err-note
invariant_of-self-in_err-note c =
    let grown = c.row_of.ensures.grown in (
      omega (arith, c.self.invariant.0, grown.more),
      put-kept c.self.inside.rows.items c.row_of.new.rows.items c.self.inside.entries.items c.args.at c.args.exits c.with.result (members c.args.raised) c.in_ok-row.row
          c.summary-summary.result grown c.self.invariant.1 c.in_ok-row.ensures.row c.summary-summary.ensures c.with.ensures,
    )

pub invariant_of-self-2 : goal.invariant_of-self-2
invariant_of-self-2 c =
    let grown = c.row_of.ensures.grown in (
      omega (arith, c.self.invariant.0, grown.more),
      put-kept c.self.inside.rows.items c.row_of.new.rows.items c.self.inside.entries.items c.args.at c.args.exits c.with.result (members c.args.raised) c.in_ok-row.row
          c.summary-summary.result grown c.self.invariant.1 c.in_ok-row.ensures.row c.summary-summary.ensures c.with.ensures,
    )

pub returns : goal.returns
returns c =
    let grown = c.row_of.ensures.grown in
    let rows = c.self.inside.rows.items in
    let entries = c.self.inside.entries.items in
    let new = c.row_of.new.rows.items in
    subst (λ (old : List (List Exit)). IsEntryWritten c.args.at c.args.exits (members c.args.raised) old (map (entry_exits new) (set entries c.args.at (record { exits = c.with.result; row = c.in_ok-row.row }))))
    c.self.view_is
    (put-is rows new entries c.args.at c.args.exits c.with.result (members c.args.raised) c.in_ok-row.row
    c.summary-summary.result grown c.self.invariant.1 c.in_ok-row.ensures.row c.summary-summary.ensures c.with.ensures)
