use Rattle.std.proofs.Common.{sym, subst, ◌∙◌, ◌<◌, List, length}
use Rattle.std.specs.Prelude.{Contains}
use Rattle.std.proofs.lemmas.Bool.{ltb-true}
use Rattle.constraints.specs.declared.laying.Further.{Further}
use Rattle.constraints.proofs.LaidRows.{found-held, found-new, found-none}
use Rattle.constraints.proofs.laying.further_of.Goals as goal

pub returns-then-are_same-clause-found : goal.returns-then-are_same-clause-found
returns-then-are_same-clause-found c = λ rows k first old in_row before.
    let further = c.in-Some.further.now in
    let inside : c.args.at < length c.deref.result.now = ltb-true c.args.at (length c.deref.result.now) (sym c.in-Some.ensures.lookup.0) in
    let among : Contains c.deref.result.now further = (c.args.at, inside, sym c.in-Some.ensures.lookup.1) in
    let there : Contains c.args.held.now.items further = subst (λ (list : List Further). Contains list further) c.deref.ensures.value among in
    found-held rows k first c.args.made.now.number c.args.held.now.items old c.args.made.now.constraints.items before c.args.piece.now further there
    (sym c.deref-in-Some.ensures.value ∙ c.are_same.ensures c.if-are_same.true)

pub returns-then-not-wanted-clause-found : goal.returns-then-not-wanted-clause-found
returns-then-not-wanted-clause-found c = λ rows k first old in_row before.
    found-none rows k first c.args.made.now.number c.args.held.now.items old c.args.made.now.constraints.items before c.args.piece.now

pub returns-clause-found : goal.returns-clause-found
returns-clause-found c = λ rows k first old in_row before.
    found-new rows k first c.args.made.now.number c.open.new.made.number c.args.held.now.items c.hold.new.held.items old c.args.made.now.constraints.items c.open.new.made.constraints.items before c.args.piece.now
    c.in_ok-further.further in_row c.in_ok-further.ensures.next c.in_ok-further.ensures.number c.in_ok-further.ensures.parts c.in_ok-further.ensures.laid c.in_ok-hold.ensures
