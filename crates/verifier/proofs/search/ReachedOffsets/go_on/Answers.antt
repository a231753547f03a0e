use Rattle.std.proofs.Common.{◌≡◌, ◌+◌, true, false, refl, ap, sym, arith, ◌∙◌}
use Rattle.modules.specs.Targets.{goes_on}
use Rattle.verifier.specs.Operands.{list_of}
use Rattle.verifier.specs.Search.{table, waiting}
use Rattle.verifier.specs.Work.{listed_at}
use Rattle.verifier.proofs.Exchanged.{next_goes, next_stays}
use Rattle.verifier.proofs.Indices.{next_offset, number_inside, number_is}
use Rattle.verifier.proofs.Offsets.{code_length_least, ends_inside}
use Rattle.verifier.proofs.Reaching.{edge_next, all_followed, taken, taken_instruction, taken_listed}
use Rattle.verifier.proofs.search.ReachedOffsets.go_on.Goals as goal

pub overflow_add-to : goal.overflow_add-to
overflow_add-to c = omega (arith, ends_inside c.args.body.now.procedure.now.code c.args.at c.requires.leaves.instruction c.requires.leaves.effect.there, c.requires.short, (next_goes c.requires.leaves.instruction _ _ c.requires.leaves.next c.in-Some.is).1)

pub overflow_add-number : goal.overflow_add-number
overflow_add-number c =
    let code = c.args.body.now.procedure.now.code in
    omega (arith, number_inside code c.args.number c.args.at c.requires.leaves.instruction c.requires.number c.requires.leaves.effect.there, code_length_least code, c.requires.short)

pub arrive-requires-clause-place : goal.arrive-requires-clause-place
arrive-requires-clause-place c =
    let code = c.args.body.now.procedure.now.code in
    let is = number_is code c.args.number c.args.at c.requires.leaves.instruction c.requires.number c.requires.leaves.effect.there in
    record {
      inside = omega (arith, number_inside code c.args.number c.args.at c.requires.leaves.instruction c.requires.number c.requires.leaves.effect.there);
      there = next_offset code c.args.number c.requires.leaves.instruction is ∙ omega (arith, c.requires.number, (next_goes c.requires.leaves.instruction _ _ c.requires.leaves.next c.in-Some.is).1);
    }

pub arrive-requires-clause-edge : goal.arrive-requires-clause-edge
arrive-requires-clause-edge c =
    edge_next c.args.body.now.program.now c.args.body.now.procedure.now c.args.self.now c.args.at _ c.requires.leaves.instruction _ c.requires.leaves.effect (next_goes c.requires.leaves.instruction _ _ c.requires.leaves.next c.in-Some.is).0 (ap (λ w. c.args.at + w) (next_goes c.requires.leaves.instruction _ _ c.requires.leaves.next c.in-Some.is).1)

pub returns-in_default-clause-next : goal.returns-in_default-clause-next
returns-in_default-clause-next c =
    let stays : goes_on c.requires.leaves.instruction ≡ false = next_stays c.requires.leaves.instruction _ c.requires.leaves.next c.in_default.is in
    all_followed c.args.body.now.program.now c.args.body.now.procedure.now c.args.self.now c.args.self.now c.args.at c.requires.leaves.instruction (list_of c.args.self.now.operands c.args.leaving.list) c.requires.leaves.effect c.requires.leaves.jumps c.requires.caught (λ offset kinds has. has)
    (λ goes. absurd (let no : false ≡ true = sym stays ∙ goes in cc)) c.requires.searching

pub returns-then-branch-clause-next : goal.returns-then-branch-clause-next
returns-then-branch-clause-next c =
    let to = c.args.at + c.in-Some.width in
    let next = listed_at to (c.args.number + 1) c.args.leaving.list in
    let f = c.in_ok-arrive.ensures.first c.if-branch.true in
    let g = all_followed c.args.body.now.program.now c.args.body.now.procedure.now c.args.self.now (waiting c.arrive.new.self next) c.args.at c.requires.leaves.instruction (list_of c.args.self.now.operands c.args.leaving.list) c.requires.leaves.effect c.requires.leaves.jumps c.requires.caught f.keeps
    (λ goes. ap (λ w. table c.args.body.now.procedure.now c.arrive.new.self (c.args.at + w)) (sym (next_goes c.requires.leaves.instruction _ _ c.requires.leaves.next c.in-Some.is).1) ∙ f.arrives) f.searching in (
      taken c.args.body.now.program.now c.args.body.now.procedure.now (waiting c.arrive.new.self next) c.arrive.new.self next g refl refl refl refl refl,
      (
        taken_instruction c.args.body.now.program.now c.args.body.now.procedure.now (waiting c.arrive.new.self next) c.arrive.new.self next g refl refl refl refl refl,
        taken_listed c.args.body.now.program.now c.args.body.now.procedure.now (waiting c.arrive.new.self next) c.arrive.new.self next g refl refl refl refl refl,
      ),
    )

pub returns-else-branch-clause-next : goal.returns-else-branch-clause-next
returns-else-branch-clause-next c =
    let f = c.in_ok-arrive.ensures.other c.if-branch.false in
    all_followed c.args.body.now.program.now c.args.body.now.procedure.now c.args.self.now c.arrive.new.self c.args.at c.requires.leaves.instruction (list_of c.args.self.now.operands c.args.leaving.list) c.requires.leaves.effect c.requires.leaves.jumps c.requires.caught f.keeps
    (λ goes. ap (λ w. table c.args.body.now.procedure.now c.arrive.new.self (c.args.at + w)) (sym (next_goes c.requires.leaves.instruction _ _ c.requires.leaves.next c.in-Some.is).1) ∙ f.arrives) f.searching
