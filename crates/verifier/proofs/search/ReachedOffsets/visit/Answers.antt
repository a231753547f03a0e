use Rattle.std.proofs.Common.{Some, ap, length, sym, ◌∙◌, arith}
use Rattle.verifier.specs.Operands.{list_of}
use Rattle.verifier.proofs.Reaching.{waiting_kept}
use Rattle.verifier.proofs.search.ReachedOffsets.visit.Goals as goal

pub raise-requires-clause-raising : goal.raise-requires-clause-raising
raise-requires-clause-raising g c =
    record {
      body = c.requires.body;
      boundaries = c.requires.boundaries;
      searching = c.requires.searching;
      there = record { instruction = c.args.instruction; there = c.requires.instruction; kinds = list_of c.args.self.now.operands c.args.listed.list; has = c.requires.listed.list };
      waiting = c.requires.waiting;
      room = omega (arith, c.requires.room);
    }

pub apply-requires-clause-listed : goal.apply-requires-clause-listed
apply-requires-clause-listed g c =
    let steps = c.in_ok-raise.ensures.accepted.steps in
    record {
      number = c.requires.listed.number;
      list = steps.keeps c.args.listed.at _ c.requires.listed.list ∙ ap Some (ap (λ ls. list_of ls c.args.listed.list) (sym steps.same));
      inside = omega (arith, c.requires.listed.inside, ap length steps.same);
    }

pub apply-requires-clause-room : goal.apply-requires-clause-room
apply-requires-clause-room g c =
    let steps = c.in_ok-raise.ensures.accepted.steps in
    omega (arith, c.requires.room, ap length steps.same, steps.left)

pub go_on-requires-clause-leaves : goal.go_on-requires-clause-leaves
go_on-requires-clause-leaves g c =
    let applied = c.in_ok-leaving.ensures in
    record { instruction = c.args.instruction; effect = applied.effect; next = applied.next; jumps = applied.jumps }

pub go_on-requires-clause-caught : goal.go_on-requires-clause-caught
go_on-requires-clause-caught g c =
    λ h has low high. c.in_ok-leaving.ensures.accepted.keeps h.target _ (c.in_ok-raise.ensures.accepted.caught h has low high)

pub go_on-requires-clause-room : goal.go_on-requires-clause-room
go_on-requires-clause-room g c =
    let steps = c.in_ok-raise.ensures.accepted.steps in
    let applied = c.in_ok-leaving.ensures.accepted in
    omega (arith, c.requires.room, ap length steps.same, steps.left, applied.few, applied.left)

pub returns-clause-waiting : goal.returns-clause-waiting
returns-clause-waiting g c =
    waiting_kept c.args.body.now.procedure.now c.raise.new.coverage c.raise.new.self c.go_on.new.self
    (λ offset kinds has. c.in_ok-next.ensures.keeps offset kinds (c.in_ok-leaving.ensures.accepted.keeps offset kinds has))
    c.in_ok-raise.ensures.accepted.waiting

pub returns-clause-left : goal.returns-clause-left
returns-clause-left g c =
    omega (arith, c.in_ok-raise.ensures.accepted.steps.left, c.in_ok-leaving.ensures.accepted.left, c.in_ok-next.ensures.left)

pub returns-clause-few : goal.returns-clause-few
returns-clause-few g c =
    omega (arith, ap length c.in_ok-raise.ensures.accepted.steps.same, c.in_ok-leaving.ensures.accepted.few, ap length c.in_ok-next.ensures.same)
