use Rattle.std.proofs.Common.{◌≡◌, ◌∷◌, [], Some, arith, is_some, length, slice_get, sym, ap, subst, ◌∙◌}
use Rattle.verifier.specs.Flow.{Leaves, effect}
use Rattle.verifier.specs.Operands.{list_of}
use Rattle.verifier.specs.Positions.{position_of}
use Rattle.verifier.specs.Search.{StandsAt, jump_of}
use Rattle.verifier.proofs.Indices.{number_is}
use Rattle.verifier.proofs.Reaching.{applied, edge_jump, effect_of, jump_placed, leaves_more, leaves_rest, misses_by, pushed_by, stands_position}
use Rattle.verifier.proofs.search.ReachedOffsets.apply.Goals as goal

pub returns-in-Err-clause-rejected : goal.returns-in-Err-clause-rejected
returns-in-Err-clause-rejected c =
    rw c.refuse.ensures (misses_by c.args.body.now.program.now c.args.body.now.procedure.now c.args.self.now (c.args.listed.at ∷ []) c.args.listed.at _ c.args.instruction c.in-Err.kind c.requires.searching c.requires.listed.list c.requires.instruction c.in-Err.ensures.rejected)

pub target_in-number-requires : goal.target_in-number-requires
target_in-number-requires c =
    let code = c.args.body.now.procedure.now.code in
    let is = number_is code c.args.listed.number c.args.listed.at c.args.instruction c.requires.listed.number c.requires.instruction in
    ap is_some (ap (λ l. jump_of (slice_get l c.args.listed.number)) c.requires.placed ∙ jump_placed (position_of code) code c.args.listed.number c.args.instruction c.in-Some-target.to is (sym c.target.ensures ∙ c.in-Some-target.is))

pub reach-requires-clause-place : goal.reach-requires-clause-place
reach-requires-clause-place c =
    let p = c.args.body.now.procedure.now in
    let is = number_is p.code c.args.listed.number c.args.listed.at c.args.instruction c.requires.listed.number c.requires.instruction in
    let goes = sym c.target.ensures ∙ c.in-Some-target.is in
    let both : Some (position_of p.code c.in-Some-target.to) ≡ Some c.target_in-number.result =
    sym (ap (λ l. jump_of (slice_get l c.args.listed.number)) c.requires.placed ∙ jump_placed (position_of p.code) p.code c.args.listed.number c.args.instruction c.in-Some-target.to is goes) ∙ c.target_in-number.ensures in
    let same : position_of p.code c.in-Some-target.to ≡ c.target_in-number.result = cc in
    subst (λ n. StandsAt p n c.in-Some-target.to) same (stands_position p c.in-Some-target.to (c.requires.boundaries.jumps c.args.listed.at c.args.instruction c.in-Some-target.to c.requires.instruction goes))

pub reach-requires-clause-edge : goal.reach-requires-clause-edge
reach-requires-clause-edge c =
    let m = c.args.body.now.program.now in
    let p = c.args.body.now.procedure.now in
    edge_jump m p c.args.self.now c.args.listed.at c.in-Some-target.to c.args.instruction _
    (record {
      there = c.requires.instruction;
      kinds = list_of c.args.self.now.operands c.args.listed.list;
      has = c.requires.listed.list;
      effect = leaves_rest _ _ _ c.in-Ok.ensures.accepted c.in-None.is;
    })
    (sym c.target.ensures ∙ c.in-Some-target.is)

pub reach-requires-clause-deep : goal.reach-requires-clause-deep
reach-requires-clause-deep c = omega (arith, c.in-Ok.ensures.fewer, c.requires.searching.deep c.args.listed.at _ c.requires.listed.list)

pub returns-in_ok-list-in-Some-clause-accepted : goal.returns-in_ok-list-in-Some-clause-accepted
returns-in_ok-list-in-Some-clause-accepted c =
    let m = c.args.body.now.program.now in
    let p = c.args.body.now.procedure.now in
    let pushed = c.in_ok-list-in-Some.ensures in
    let more = c.in-Ok in
    applied m p c.args.self.now _ c.args.listed.at c.requires.searching pushed.longer pushed.few pushed.shapes pushed.work pushed.longest.deeper
    (pushed_by m p c.args.self.now _ (c.args.listed.at ∷ []) c.args.listed.at (list_of c.args.self.now.operands c.args.listed.list) _ c.args.instruction c.requires.searching c.requires.listed.list c.requires.instruction (leaves_more _ _ _ _ more.ensures.accepted c.in-Some.is) pushed.longer pushed.longest)

pub returns-in_ok-list-in-Some-clause-deep : goal.returns-in_ok-list-in-Some-clause-deep
returns-in_ok-list-in-Some-clause-deep c =
    let pushed = c.in_ok-list-in-Some.ensures in
    omega (arith, ap length pushed.made, pushed.longest.least)

pub returns-in_ok-list-in-Some-clause-effect : goal.returns-in_ok-list-in-Some-clause-effect
returns-in_ok-list-in-Some-clause-effect c =
    let m = c.args.body.now.program.now in
    let p = c.args.body.now.procedure.now in
    let pushed = c.in_ok-list-in-Some.ensures in
    let more = c.in-Ok in
    let left = leaves_more more.exchanged.pushes (effect m p c.args.instruction (list_of c.args.self.now.operands c.args.listed.list)) (list_of c.args.self.now.operands more.exchanged.rest) c.in-Some.kind more.ensures.accepted c.in-Some.is in
    effect_of m p c.args.self.now _ c.args.listed.at (list_of c.args.self.now.operands c.args.listed.list) _ c.args.instruction
    (applied m p c.args.self.now _ c.args.listed.at c.requires.searching pushed.longer pushed.few pushed.shapes pushed.work pushed.longest.deeper
    (pushed_by m p c.args.self.now _ (c.args.listed.at ∷ []) c.args.listed.at (list_of c.args.self.now.operands c.args.listed.list) _ c.args.instruction c.requires.searching c.requires.listed.list c.requires.instruction left pushed.longer pushed.longest))
    c.requires.listed.list c.requires.instruction (left ∙ ap Leaves (sym pushed.made))
