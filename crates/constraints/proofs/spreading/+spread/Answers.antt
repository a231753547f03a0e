use Rattle.std.proofs.Common.{arith, get_or, length, subst, sym, []}
use Rattle.std.specs.Prelude.{IfOk, Ok}
use Rattle.std.proofs.lemmas.Bool.{eqb-true}
use Rattle.std.proofs.lemmas.List.{get_or_default}
use Rattle.constraints.specs.Following.{IsOver}
use Rattle.constraints.specs.Merging.{AreSomeTaken, rows_of}
use Rattle.constraints.specs.Spreading.{AreSpreadTo, made_list}
use Rattle.constraints.specs.declared.journal.Called.{Called}
use Rattle.constraints.proofs.Paths.{over-same, over-then}
use Rattle.constraints.proofs.SpreadTaken.{all-taken, parted-taken, single-call, two-taken}
use Rattle.constraints.proofs.spreading.+spread.Goals as goal

pub returns-then-calls-eq1-clause-spread : goal.returns-then-calls-eq1-clause-spread
returns-then-calls-eq1-clause-spread t c =
    let core = c.args.of.now.table.now.core.now in
    let none : Called = record { callee = 0; barrier = 0; own = 0; call = 0 } in
    subst
    (λ calls. IfOk c.single.result (λ atom. AreSomeTaken (IsOver c.args.of.now.following.now)
    (λ own. AreSpreadTo core core.labels c.args.of.now.journal.now c.args.labels.now calls (made_list c.args.made.now.number []) (made_list c.single.new.made.number own) atom)
    (rows_of c.args.kept.now.items) (rows_of c.single.new.kept.items) c.args.made.now.constraints.items c.single.new.made.constraints.items))
    (sym (single-call c.args.calls.now none (omega (arith, c.if-calls-eq1.true)))) c.single.ensures.spread

pub returns-then-is_empty-clause-spread : goal.returns-then-is_empty-clause-spread
returns-then-is_empty-clause-spread t c =
    let core = c.args.of.now.table.now.core.now in
    let following = c.args.of.now.following.now in
    let none : Called = record { callee = 0; barrier = 0; own = 0; call = 0 } in
    parted-taken (IsOver following) (over-same following) (over-then following) core core.labels c.args.of.now.journal.now
    c.args.labels.now c.in_ok-parted.parted.varied.items c.in_ok-parted.parted.fixed.items
    c.deref-varied.result.now c.deref-fixed.result.now c.args.calls.now (get_or c.args.calls.now 0 none)
    c.args.made.now.number c.keep_joined.new.made.number c.keep_fixed.new.made.number
    (rows_of c.args.kept.now.items) (rows_of c.keep_joined.new.kept.items) (rows_of c.keep_fixed.new.kept.items)
    c.args.made.now.constraints.items c.keep_joined.new.made.constraints.items c.keep_fixed.new.made.constraints.items c.in_ok-node.node
    c.deref-fixed.ensures.value c.deref-varied.ensures.value c.requires.some (get_or_default c.args.calls.now 0 none _ c.requires.some)
    c.in_ok-parted.ensures.fixed c.in_ok-parted.ensures.all c.in_ok-parted.ensures.fixed_of c.in_ok-parted.ensures.varied_of
    c.in_ok-keep_fixed.ensures.number c.in_ok-keep_fixed.ensures.taken
    (all-taken (IsOver following) (over-same following) (over-then following) core core.labels c.args.of.now.journal.now
    c.deref-varied.result.now c.args.calls.now c.in_ok-owns.owns.items c.args.made.now.number c.keep_joined.new.made.number
    (rows_of c.args.kept.now.items) (rows_of c.keep_joined.new.kept.items) c.args.made.now.constraints.items c.keep_joined.new.made.constraints.items
    (Ok c.in_ok-node.node) (eqb-true (length c.deref-varied.result.now) 0 (sym c.if-is_empty.ensures)) (omega (arith, c.if-calls-eq1.false, c.requires.some)) c.in_ok-owns.ensures
    c.in_ok-node.ensures.number c.in_ok-node.ensures.taken c.in_ok-node.ensures.part)

pub returns-clause-spread : goal.returns-clause-spread
returns-clause-spread t c =
    let core = c.args.of.now.table.now.core.now in
    let following = c.args.of.now.following.now in
    let none : Called = record { callee = 0; barrier = 0; own = 0; call = 0 } in
    parted-taken (IsOver following) (over-same following) (over-then following) core core.labels c.args.of.now.journal.now
    c.args.labels.now c.in_ok-parted.parted.varied.items c.in_ok-parted.parted.fixed.items
    c.deref-varied.result.now c.deref-fixed.result.now c.args.calls.now (get_or c.args.calls.now 0 none)
    c.args.made.now.number c.keep_joined-2.new.made.number c.keep_fixed-2.new.made.number
    (rows_of c.args.kept.now.items) (rows_of c.keep_joined-2.new.kept.items) (rows_of c.keep_fixed-2.new.kept.items)
    c.args.made.now.constraints.items c.keep_joined-2.new.made.constraints.items c.keep_fixed-2.new.made.constraints.items c.in_ok-node-2.node
    c.deref-fixed.ensures.value c.deref-varied.ensures.value c.requires.some (get_or_default c.args.calls.now 0 none _ c.requires.some)
    c.in_ok-parted.ensures.fixed c.in_ok-parted.ensures.all c.in_ok-parted.ensures.fixed_of c.in_ok-parted.ensures.varied_of
    c.in_ok-keep_fixed-2.ensures.number c.in_ok-keep_fixed-2.ensures.taken
    (two-taken (IsOver following) (over-same following) (over-then following) core core.labels c.args.of.now.journal.now
    c.deref-varied.result.now _ c.args.calls.now c.split_at.result.0.now c.split_at.result.1.now c.in_ok-both.both.items
    c.args.made.now.number c.spread.new.made.number c.spread-2.new.made.number c.keep_joined-2.new.made.number
    (rows_of c.args.kept.now.items) (rows_of c.spread.new.kept.items) (rows_of c.spread-2.new.kept.items) (rows_of c.keep_joined-2.new.kept.items)
    c.args.made.now.constraints.items c.spread.new.made.constraints.items c.spread-2.new.made.constraints.items c.keep_joined-2.new.made.constraints.items
    c.in_ok-left.left c.in_ok-right.right
    (Ok c.in_ok-node-2.node) c.split_at.ensures.front c.split_at.ensures.back c.in_ok-both.ensures.items c.in_ok-left.ensures.spread c.in_ok-right.ensures.spread
    c.in_ok-node-2.ensures.number c.in_ok-node-2.ensures.taken c.in_ok-node-2.ensures.part)
