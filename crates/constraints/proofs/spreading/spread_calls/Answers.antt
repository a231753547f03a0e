use Rattle.std.proofs.Common.{ap, arith, length, refl, subst, sym, List, ◌∙◌, ◌≡◌, ◌*◌, ◌+◌, ◌<◌, ◌≤◌, [], take}
use Rattle.std.proofs.lemmas.List.{length-map}
use Rattle.constraints.specs.Merging.{AreLaidOut, AreSpreadSoFar, row_of, rows_of}
use Rattle.constraints.specs.declared.merging.Parts.{Parts}
use Rattle.constraints.specs.Spreading.{AreRowsOf, Declares, all_calls, made_list}
use Rattle.constraints.proofs.Bodies.{procedures-numbered}
use Rattle.gathering.specs.Names.{real_unknowns}
use Rattle.resolved.specs.CoreOf.{program_of}
use Rattle.constraints.specs.Following.{AreCallPaths, IsOver}
use Rattle.constraints.proofs.CallRows.{calls-more, calls-upto}
use Rattle.constraints.proofs.Paths.{over-same, over-then}
use Rattle.constraints.proofs.LaidRows.{shared-all}
use Rattle.constraints.proofs.PartRows.{so-far-next, taken-none}
use Rattle.constraints.proofs.Spread.{whole-none}
use Rattle.constraints.proofs.SpreadRows.{calls-all, calls-next}
use Rattle.constraints.proofs.spreading.spread_calls.Goals as goal

pub loop-i-init : goal.loop-i-init
loop-i-init c = record {
  spread = record {
    spread = [];
    are_spread = whole-none c.args.table.now.core.now c.args.table.now.core.now.labels c.args.journal.now (Declares c.args.table.now.core.now) [] c.args.made.now.number refl;
    are_taken = taken-none (IsOver c.in_ok-following.following) (over-same c.in_ok-following.following) (rows_of c.in_ok-kept.kept.items) c.args.made.now.constraints.items;
  };
  count = omega (arith, c.in_ok-kept.ensures.count, c.kept_count-count.ensures);
  few = omega arith;
}

pub loop-i-preserved : goal.loop-i-preserved
loop-i-preserved c =
    let core = c.args.table.now.core.now in
    let table = c.args.table.now.core.now.labels in
    let journal = c.args.journal.now in
    let rows = c.deref-row-items.result.now in
    let following = c.in_ok-following.following in
    let i = c.loop-i.i in
    let made = c.spread_row.new.made in
    let so_far = c.loop-i.invariant.spread in
    let taken = c.in_ok-spread_row.ensures.spread in
    record {
      spread =
          so-far-next (IsOver following) (over-same following) (over-then following) core table journal (all_calls (take i rows)) (all_calls (take (i + 1) rows)) (rows_of c.in_ok-kept.kept.items) (rows_of c.loop-i.kept.items) (rows_of c.spread_row.new.kept.items) taken.own
          c.args.made.now c.loop-i.made made so_far
          (calls-next core table journal rows c.len.result i c.row-item.result c.deref-in-loop-i.result.now c.deref.result.now c.args.made.now.number so_far.spread
          (made_list c.loop-i.made.number []) (made_list made.number taken.own)
          c.loop-i-test.true c.row-item.is c.deref-in-loop-i.ensures.value (subst (AreRowsOf c.len.result c.deref.result.now) (sym c.deref-row-items.ensures.value) c.in_ok-rows.ensures)
          so_far.are_spread taken.holds refl)
          taken.are_taken;
      count = omega (arith, c.in_ok-spread_row.ensures.count, c.loop-i.invariant.count);
      few =
          let more = calls-more rows i c.row-item.result c.deref-in-loop-i.result.now c.loop-i-test.true c.row-item.is c.deref-in-loop-i.ensures.value in
          omega (arith, c.loop-i.invariant.few, c.in_ok-spread_row.ensures.few, more);
    }

pub spread_row-requires-clause-room : goal.spread_row-requires-clause-room
spread_row-requires-clause-room c =
    let are = subst (AreRowsOf c.len.result c.deref.result.now) (sym c.deref-row-items.ensures.value) c.in_ok-rows.ensures in
    let more = calls-more c.deref-row-items.result.now c.loop-i.i c.row-item.result c.deref-in-loop-i.result.now c.loop-i-test.true c.row-item.is c.deref-in-loop-i.ensures.value in
    let upto = calls-upto c.deref-row-items.result.now (c.loop-i.i + 1) in
    let whole = ap length c.deref.ensures.value in
    omega (arith, c.loop-i.invariant.few, more, upto, are.no_more, whole, c.requires.room)

pub overflow_cast-i : goal.overflow_cast-i
overflow_cast-i c =
    let few = procedures-numbered c.args.table.now.core.now in
    let count = c.in_ok-rows.ensures.count_is in
    let inside = subst (λ list. c.loop-i.i < length list) c.deref-row-items.ensures.value c.loop-i-test.true in
    omega (arith, few, inside, count, c.len.ensures, c.args.table.now.core.now.procedures.ok.0)

pub returns : goal.returns
returns c =
    let core = c.args.table.now.core.now in
    let table = c.args.table.now.core.now.labels in
    let journal = c.args.journal.now in
    let are = subst (AreRowsOf c.len.result c.deref.result.now) (sym c.deref-row-items.ensures.value) c.in_ok-rows.ensures in
    let so_far = c.loop-i.invariant.spread in
    let following = c.in_ok-following.following in
    let base = c.args.made.now.constraints.items in
    let ways : AreCallPaths (real_unknowns (program_of core)) base following =
    subst (λ n. AreCallPaths n base following) c.args.table.now.count (subst (λ list. AreCallPaths c.args.table.now.unknowns list following) c.deref-3.ensures.value c.in_ok-following.ensures) in
    let whole : AreSpreadSoFar (IsOver following) core table journal journal.calls.items (rows_of c.in_ok-kept.kept.items) (rows_of c.loop-i.kept.items) c.args.made.now c.loop-i.made = record {
      spread = so_far.spread;
      are_spread = calls-all core table journal c.deref-row-items.result.now c.len.result c.loop-i.i journal.calls.items c.args.made.now.number c.loop-i.made.number so_far.spread
          c.loop-i-test.false (c.len.ensures ∙ core.procedures.ok.0)
          (subst (λ list. AreRowsOf c.len.result list c.deref-row-items.result.now) c.deref.ensures.value are) so_far.are_spread;
      are_taken = so_far.are_taken;
    } in
    let kept_is : c.deref-5.result.now ≡ c.loop-i.kept.items = c.deref-5.ensures.value in
    let laid : AreLaidOut (rows_of c.loop-i.kept.items) (length c.loop-i.kept.items) c.loop-i.made.number c.lay_out.new.made.number c.loop-i.made.constraints.items c.lay_out.new.made.constraints.items =
    subst (λ (kept : List Parts). AreLaidOut (rows_of kept) (length kept) c.loop-i.made.number c.lay_out.new.made.number c.loop-i.made.constraints.items c.lay_out.new.made.constraints.items) kept_is c.in_ok-lay_out.ensures.laid in
    let few : 2 * c.lay_out.new.made.number ≤ 2 * c.loop-i.made.number + length c.loop-i.kept.items + 1 = omega (arith, c.in_ok-lay_out.ensures.few, ap length kept_is) in
    shared-all (IsOver following) core table journal journal.calls.items (rows_of c.in_ok-kept.kept.items) (rows_of c.loop-i.kept.items) (length c.loop-i.kept.items) c.args.made.now c.loop-i.made
    c.lay_out.new.made (λ a b over. over (real_unknowns (program_of core)) base ways) c.in_ok-kept.ensures.nothing (length-map c.loop-i.kept.items row_of) c.loop-i.invariant.count whole laid few
