use Rattle.std.proofs.Common.{◌≡◌, ◌<◌, refl, sym, ◌∙◌, subst, arith, [], length, get_or, List, Bool, Some, None}
use Rattle.std.specs.Prelude.{Contains, slice_get}
use Rattle.std.proofs.lemmas.List.{set-get_or}
use Rattle.solver.proofs.Bits.{kept-all}
use Rattle.solver.proofs.Standing.{has_at-row}
use Rattle.solver.specs.Queue.{Added, order_in}
use Rattle.solver.specs.Reach.{edge}
use Rattle.solver.specs.Rows.{left_has}
use Rattle.solver.specs.Work.{IsBrought, IsBroughtTo, IsMore, MayBeMore}
use Rattle.solver.specs.declared.constraints.Atom.TheVariants.{Unknown}
use Rattle.solver.specs.declared.edges.Edge.{Edge}
use Rattle.solver.proofs.Working.{IsLooked, led-inside, looked-grown, looked-kept, looked-more, read-right, right-inside}
use Rattle.solver.proofs.worklist.Reached.look.Given.{Over}
use Rattle.solver.proofs.worklist.Reached.look.Goals as goal
use Rattle.solver.proofs.worklist.Reached.look.Goals.{After-bring, In_ok-add_all, Else-is_more}

at_is : (g : Over) (c : After-bring g) → slice_get c.args.constraints.now c.args.by ≡ Some c.index-constraints-by.result
at_is g c = read-right c.args.constraints.now c.args.by c.index-constraints-by.result c.requires.right c.index-constraints-by.is

inside : (g : Over) (c : After-bring g) → c.in-Unknown.unknown < length c.args.edges.now.unknown
inside g c = right-inside c.args.constraints.now (length c.args.edges.now.written) (length c.args.edges.now.unknown) c.requires.range c.args.by c.index-constraints-by.result c.in-Unknown.unknown (at_is g c) c.in-Unknown.is

pub add_all-requires : goal.add_all-requires
add_all-requires g c = λ i u h.
    let lt = led-inside c.args.constraints.now c.args.edges.now c.requires.edges c.in-Unknown.unknown i u (subst (λ es. Contains es (edge i (Unknown u))) c.row.ensures h) in
    let count = c.requires.work.count in
    omega (arith, lt, count)

more : (g : Over) (c : In_ok-add_all g) → IsLooked c.args.constraints.now c.args.edges.now c.args.self.now.rows (order_in c.args.queue.now.order)
    c.bring.new.rows c.add_all.new.self.waits.items (order_in c.add_all.new.self.order)
more g c =
    let at = (goal.at.returns-in_ok-add_all-clause-work g c).After-bring in
    let brought : IsBroughtTo c.args.self.now.rows c.len-count.result c.in-Unknown.unknown c.as_slice-left.result.now c.bring.new.rows =
    subst (IsBrought c.args.self.now.rows c.len-count.result c.in-Unknown.unknown c.as_slice-left.result.now c.bring.new.rows) c.if-is_more.true c.in_ok-is_more.ensures in
    let is : IsMore c.args.self.now.rows (length c.args.edges.now.written) c.in-Unknown.unknown c.index-constraints-by.result.left.items brought.row =
    rw (← c.len-count.ensures, ← c.as_slice-left.ensures) brought.more in
    subst (λ (rows : List (List Bool)). IsLooked c.args.constraints.now c.args.edges.now c.args.self.now.rows (order_in c.args.queue.now.order) rows c.add_all.new.self.waits.items (order_in c.add_all.new.self.order))
    (sym brought.put)
    (looked-grown c.args.constraints.now c.args.edges.now c.requires.edges c.requires.range c.args.self.now.rows c.args.queue.now.waits.items (order_in c.args.queue.now.order) c.args.by c.requires.work
    c.index-constraints-by.result (at_is g at) c.in-Unknown.unknown c.in-Unknown.is [] brought.row is.short is.members is.larger c.add_all.new.self.waits.items (order_in c.add_all.new.self.order)
    (subst (λ (edges : List Edge). Added edges c.args.queue.now.waits.items (order_in c.args.queue.now.order) c.add_all.new.self.waits.items (order_in c.add_all.new.self.order)) c.row.ensures c.in_ok-add_all.ensures))

kept : (g : Over) (c : Else-is_more g) → IsLooked c.args.constraints.now c.args.edges.now c.args.self.now.rows (order_in c.args.queue.now.order)
    c.bring.new.rows c.args.queue.now.waits.items (order_in c.args.queue.now.order)
kept g c =
    let at = (goal.at.returns-else-is_more-clause-work g c).After-bring in
    let own = get_or c.args.self.now.rows c.in-Unknown.unknown [] in
    let brought : (c.bring.new.rows ≡ c.args.self.now.rows) × MayBeMore c.args.self.now.rows c.len-count.result c.in-Unknown.unknown c.as_slice-left.result.now None =
    subst (IsBrought c.args.self.now.rows c.len-count.result c.in-Unknown.unknown c.as_slice-left.result.now c.bring.new.rows) c.if-is_more.false c.in_ok-is_more.ensures in
    subst (λ (rows : List (List Bool)). IsLooked c.args.constraints.now c.args.edges.now c.args.self.now.rows (order_in c.args.queue.now.order) rows c.args.queue.now.waits.items (order_in c.args.queue.now.order))
    (set-get_or c.args.self.now.rows c.in-Unknown.unknown [] ∙ sym brought.0)
    (looked-kept c.args.constraints.now c.args.edges.now c.requires.edges c.requires.range c.args.self.now.rows c.args.queue.now.waits.items (order_in c.args.queue.now.order) c.args.by c.requires.work
    c.index-constraints-by.result (at_is g at) c.in-Unknown.unknown c.in-Unknown.is [] own
    (let h = inside g at in let all = c.requires.work.all in c.requires.work.sized c.in-Unknown.unknown [] (omega (arith, h, all)))
    (λ n. kept-all own (left_has c.args.self.now.rows c.index-constraints-by.result.left.items) (λ n held. has_at-row c.args.self.now.rows c.in-Unknown.unknown n ∙ brought.1 n (rw c.as_slice-left.ensures held)) n) refl)

pub returns-in_ok-add_all-clause-work : goal.returns-in_ok-add_all-clause-work
returns-in_ok-add_all-clause-work g c = (more g c).work

pub returns-in_ok-add_all-clause-less : goal.returns-in_ok-add_all-clause-less
returns-in_ok-add_all-clause-less g c = (more g c).less

pub returns-in_ok-add_all-clause-so_far : goal.returns-in_ok-add_all-clause-so_far
returns-in_ok-add_all-clause-so_far g c =
    let all = more g c in
    let count = c.requires.work.count in
    looked-more c.args.constraints.now c.args.edges.now c.args.self.now.rows c.bring.new.rows c.args.by
    (order_in c.args.queue.now.order) (order_in c.add_all.new.self.order) c.args.self.now.looks c.saturating_add-self.result c.requires.so_far c.saturating_add-self.ensures
    (omega (arith, count, c.args.queue.now.waits.small, c.args.queue.now.waits.ok.0, c.args.queue.now.waits.ok.1)) all.longer all.less

pub returns-else-is_more-clause-work : goal.returns-else-is_more-clause-work
returns-else-is_more-clause-work g c = (kept g c).work

pub returns-else-is_more-clause-less : goal.returns-else-is_more-clause-less
returns-else-is_more-clause-less g c = (kept g c).less

pub returns-else-is_more-clause-so_far : goal.returns-else-is_more-clause-so_far
returns-else-is_more-clause-so_far g c =
    let all = kept g c in
    let count = c.requires.work.count in
    looked-more c.args.constraints.now c.args.edges.now c.args.self.now.rows c.bring.new.rows c.args.by
    (order_in c.args.queue.now.order) (order_in c.args.queue.now.order) c.args.self.now.looks c.saturating_add-self.result c.requires.so_far c.saturating_add-self.ensures
    (omega (arith, count, c.args.queue.now.waits.small, c.args.queue.now.waits.ok.0, c.args.queue.now.waits.ok.1)) all.longer all.less
