use Rattle.std.proofs.Common.{◌≡◌, ◌<◌, ◌∷◌, [], length, Some, arith, refl, sym, ap, ◌∙◌}
use Rattle.modules.specs.Code.{offset_at}
use Rattle.verifier.specs.Operands.{list_of}
use Rattle.verifier.specs.Search.{list_for, shape_at}
use Rattle.verifier.proofs.Indices.{last_offset}
use Rattle.verifier.proofs.Offsets.{start_inside}
use Rattle.verifier.proofs.Reaching.{falls_at, meets_at, flowed, flowed_there, stands_for, stands_there, unset_set}
use Rattle.verifier.proofs.search.ReachedOffsets.arrive.Goals as goal

pub returns-then-number-len-clause-rejected : goal.returns-then-number-len-clause-rejected
returns-then-number-len-clause-rejected c =
    let p = c.args.body.now.procedure.now in
    let last : c.args.number ≡ length p.code = omega (arith, c.requires.place.inside, c.if-number-len.true, c.len.ensures, c.requires.searching.sized) in
    rw c.refuse.ensures (falls_at c.args.body.now.program.now p c.args.self.now (c.args.at ∷ []) c.args.at c.args.to _ c.requires.searching c.requires.edge (sym c.requires.place.there ∙ ap (offset_at p.code) last ∙ last_offset p.code))

pub set-requires-clause-index : goal.set-requires-clause-index
set-requires-clause-index c =
    let l : c.args.number < length c.args.body.now.procedure.now.code = omega (arith, c.if-number-len.false, c.len.ensures, c.requires.searching.sized) in
    omega (arith, l, c.requires.searching.sized)

pub set-requires-clause-number : goal.set-requires-clause-number
set-requires-clause-number c =
    let l : c.args.number < length c.args.body.now.procedure.now.code = omega (arith, c.if-number-len.false, c.len.ensures, c.requires.searching.sized) in
    let within : c.args.number < length c.args.self.now.shapes = omega (arith, l, c.requires.searching.sized) in
    omega (arith, c.requires.list, c.requires.room, unset_set c.args.self.now.shapes c.args.number c.args.list within (sym c.at.ensures ∙ c.in-None.is))

pub meet-requires-clause-other : goal.meet-requires-clause-other
meet-requires-clause-other c = c.requires.searching.numbers c.args.number c.in-Some.other (sym c.at.ensures ∙ c.in-Some.is)

pub returns-in-None-clause-first : goal.returns-in-None-clause-first
returns-in-None-clause-first c =
    let l : c.args.number < length c.args.body.now.procedure.now.code = omega (arith, c.if-number-len.false, c.len.ensures, c.requires.searching.sized) in
    let within : c.args.number < length c.args.self.now.shapes = omega (arith, l, c.requires.searching.sized) in
    λ _. flowed c.args.body.now.program.now c.args.body.now.procedure.now c.args.self.now _ c.args.at c.args.to c.args.number c.args.list c.requires.searching c.requires.edge c.requires.list c.requires.place within (sym c.at.ensures ∙ c.in-None.is) c.requires.deep refl refl refl c.set.ensures refl

pub returns-in-Ok-clause-other : goal.returns-in-Ok-clause-other
returns-in-Ok-clause-other c =
    let p = c.args.body.now.procedure.now in
    let l : c.args.number < length c.args.body.now.procedure.now.code = omega (arith, c.if-number-len.false, c.len.ensures, c.requires.searching.sized) in
    let there : shape_at p c.args.self.now c.args.to ≡ Some c.in-Some.other = stands_for p c.args.self.now c.args.number c.args.to c.requires.place l ∙ (sym c.at.ensures ∙ c.in-Some.is) in
    λ _. flowed_there c.args.body.now.program.now p c.args.self.now _ c.args.at c.args.to c.args.list c.in-Some.other c.requires.searching there c.in-Ok.ensures.accepted refl

pub returns-in-Err-clause-rejected : goal.returns-in-Err-clause-rejected
returns-in-Err-clause-rejected c =
    let p = c.args.body.now.procedure.now in
    let l : c.args.number < length c.args.body.now.procedure.now.code = omega (arith, c.if-number-len.false, c.len.ensures, c.requires.searching.sized) in
    let begins = stands_there p c.args.number c.args.to c.requires.place l in
    let there : shape_at p c.args.self.now c.args.to ≡ Some c.in-Some.other = stands_for p c.args.self.now c.args.number c.args.to c.requires.place l ∙ (sym c.at.ensures ∙ c.in-Some.is) in
    rw c.refuse-in-Err.ensures (meets_at c.args.body.now.program.now p c.args.self.now (c.args.at ∷ []) c.args.at c.args.to _ (list_of c.args.self.now.operands c.in-Some.other) c.in-Err.kind c.requires.searching c.requires.edge (λ e. omega (arith, e, start_inside p.code c.args.to begins.0 begins.1)) (ap (λ o. list_for c.args.self.now.operands o) there) c.in-Err.ensures.differ c.in-Err.ensures.rejected)
