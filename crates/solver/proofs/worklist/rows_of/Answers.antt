use Rattle.std.proofs.Common.{◌≡◌, ◌+◌, ap, ◌∙◌, sym, subst, arith, length, set, false, ◌≤◌, ◌∷◌, [], ℕ, List, Bool}
use Rattle.std.specs.Prelude.{Contains}
use Rattle.std.proofs.lemmas.List.{length-replicate}
use Rattle.std.proofs.lemmas.List.Elements.{All-replicate}
use Rattle.common.proofs.Elements.{Contains-first}
use Rattle.solver.specs.Rows.{AreSized, has_at}
use Rattle.solver.specs.Work.{AreSoFar, IsWork}
use Rattle.solver.proofs.Comparing.{slice_get-inside}
use Rattle.solver.proofs.Standing.{has_at-none}
use Rattle.solver.proofs.Queued.{next-none, next-some}
use Rattle.solver.proofs.Working.{rows-last, so-far-first, work-first, work-next}
use Rattle.solver.specs.Queue.{order_in}
use Rattle.solver.proofs.worklist.rows_of.Given.{Over}
use Rattle.solver.proofs.worklist.rows_of.Goals as goal
use Rattle.solver.proofs.worklist.rows_of.Goals.{In-Some}

pub loop-by-init : goal.loop-by-init
loop-by-init g c =
    let rows = c.in_ok-new.field-0 in
    let is = c.in_ok-new.ensures in
    let all : length rows ≡ length c.args.edges.now.unknown = ap length is ∙ (length-replicate _ _ ∙ c.len-2.ensures) in
    let sized : AreSized (length c.args.edges.now.written) rows =
    subst (λ (r : List (List Bool)). AreSized (length c.args.edges.now.written) r) (sym is) (All-replicate (λ (row : List Bool). length row ≤ length c.args.edges.now.written) _ [] (omega arith)) in
    let empty : (u n : ℕ) → has_at rows u n ≡ false = λ u n. ap (λ (r : List (List Bool)). has_at r u n) is ∙ has_at-none _ u n in
    record {
      work = work-first c.args.constraints.now c.args.edges.now c.requires.edges rows c.in_ok-queue.queue.waits.items (order_in c.in_ok-queue.queue.order) all sized empty c.in_ok-queue.ensures;
      so_far = so-far-first c.args.constraints.now c.args.edges.now c.requires.edges rows c.in_ok-queue.queue.waits.items (order_in c.in_ok-queue.queue.order) c.in_ok-queue.ensures;
    }

pub next-requires : goal.next-requires
next-requires g c = λ i h.
    let right = c.loop-by.invariant.work.rights i h in
    let lt = slice_get-inside c.args.constraints.now i right.constraint right.at in
    let count = c.loop-by.invariant.work.count in
    omega (arith, lt, count)

next_is : (g : Over) (c : In-Some g) → ((order_in c.loop-by.queue.order) ≡ c.in-Some.by ∷ (order_in c.next.new.self.order)) × (c.next.new.self.waits.items ≡ set c.loop-by.queue.waits.items c.in-Some.by false)
next_is g c = next-some c.loop-by.queue.waits.items (order_in c.loop-by.queue.order) c.next.new.self.waits.items (order_in c.next.new.self.order) c.in-Some.by c.in-Some.ensures

pub look-requires-clause-right : goal.look-requires-clause-right
look-requires-clause-right g c =
    let is = next_is g (goal.at.look-requires-clause-right g c).In-Some in
    c.loop-by.invariant.work.rights c.in-Some.by (subst (λ xs. Contains xs c.in-Some.by) (sym is.0) (Contains-first c.in-Some.by (order_in c.next.new.self.order)))

pub look-requires-clause-work : goal.look-requires-clause-work
look-requires-clause-work g c =
    let is = next_is g (goal.at.look-requires-clause-work g c).In-Some in
    rw is.1
    (work-next c.args.constraints.now c.args.edges.now c.requires.edges c.loop-by.reached.rows c.loop-by.queue.waits.items (order_in c.next.new.self.order) c.in-Some.by
    (subst (λ (xs : List ℕ). IsWork c.args.constraints.now c.args.edges.now c.loop-by.reached.rows c.loop-by.queue.waits.items xs (length c.args.constraints.now)) is.0 c.loop-by.invariant.work))

pub look-requires-clause-so_far : goal.look-requires-clause-so_far
look-requires-clause-so_far g c =
    let is = next_is g (goal.at.look-requires-clause-so_far g c).In-Some in
    subst (λ (xs : List ℕ). AreSoFar c.args.constraints.now c.args.edges.now c.loop-by.reached.rows xs c.loop-by.reached.looks) is.0 c.loop-by.invariant.so_far

pub loop-by-smaller : goal.loop-by-smaller
loop-by-smaller g c =
    let is = next_is g (goal.at.loop-by-smaller g c).In-Some in
    let len : length (order_in c.loop-by.queue.order) ≡ length (order_in c.next.new.self.order) + 1 = ap length is.0 ∙ omega arith in
    let less = c.in_ok-look.ensures.less in
    omega (arith, len, less)

pub returns-clause-rows : goal.returns-clause-rows
returns-clause-rows g c =
    let empty = next-none c.loop-by.queue.waits.items (order_in c.loop-by.queue.order) c.next.new.self.waits.items (order_in c.next.new.self.order) c.in_default.ensures in
    rows-last c.args.constraints.now c.args.edges.now c.requires.edges c.loop-by.reached.rows c.loop-by.queue.waits.items
    (subst (λ (xs : List ℕ). IsWork c.args.constraints.now c.args.edges.now c.loop-by.reached.rows c.loop-by.queue.waits.items xs (length c.args.constraints.now)) empty c.loop-by.invariant.work)

pub returns-clause-looks : goal.returns-clause-looks
returns-clause-looks g c =
    let empty = next-none c.loop-by.queue.waits.items (order_in c.loop-by.queue.order) c.next.new.self.waits.items (order_in c.next.new.self.order) c.in_default.ensures in
    subst (λ (xs : List ℕ). AreSoFar c.args.constraints.now c.args.edges.now c.loop-by.reached.rows xs c.loop-by.reached.looks) empty c.loop-by.invariant.so_far
