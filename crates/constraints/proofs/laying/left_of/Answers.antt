use Rattle.std.proofs.Common.{arith, sym, ap, subst, ◌∙◌, ◌≡◌, ◌+◌, ◌++◌, [], List, length, take}
use Rattle.std.proofs.lemmas.List.{take_all}
use Rattle.solver.specs.declared.constraints.Atom.{Atom}
use Rattle.constraints.specs.Laying.{IsPieceOf, IsRowBegun}
use Rattle.constraints.proofs.LaidRows.{begun-more, begun-none, piece-among, taken-more}
use Rattle.constraints.proofs.laying.left_of.Goals as goal

pub loop-from-init : goal.loop-from-init
loop-from-init c = record {
  some = c.piece_length-size.ensures;
  at_most = omega arith;
  within = omega arith;
  few = c.requires.few;
  begun = λ rows k first old in_row before.
      subst (λ (left : List Atom). IsRowBegun rows k first c.args.made.now.number c.args.held.now.items old c.args.made.now.constraints.items [] left) (sym c.new-left.ensures.items)
      (begun-none rows k first c.args.made.now.number c.args.held.now.items old c.args.made.now.constraints.items before);
}

pub loop-from-preserved : goal.loop-from-preserved
loop-from-preserved c =
    let from = c.loop-from.from in
    let unknowns = c.args.unknowns.now in
    let piece = c.piece_from-piece.result.now in
    let within = c.piece_from-piece.ensures.within c.loop-from.invariant.within in
    let some = c.piece_from-piece.ensures.more c.loop-from-test.true c.loop-from.invariant.some in
    let is = c.piece_from-piece.ensures.piece c.loop-from.invariant.within in
    record {
      some = c.loop-from.invariant.some;
      at_most = omega (arith, c.loop-from.invariant.at_most, some);
      within = within;
      few = c.in_ok-found.ensures.few c.args.most c.loop-from.invariant.few c.is_wanted-wanted.ensures;
      begun = λ rows k first old in_row before.
          let b = c.loop-from.invariant.begun rows k first old in_row before in
          let of_row : IsPieceOf rows k piece = λ p h. in_row p (piece-among unknowns piece from (length piece) is p h) in
          let found = c.in_ok-found.ensures.found rows k first old of_row b.so_far in
          let taken : take (from + length piece) unknowns ≡ take from unknowns ++ piece = taken-more unknowns from (length piece) ∙ ap (λ xs. take from unknowns ++ xs) (sym is) in
          subst (λ done. IsRowBegun rows k first c.further_of.new.made.number c.further_of.new.held.items old c.further_of.new.made.constraints.items done c.add_found.new.left.items) (sym taken)
          (subst (λ left. IsRowBegun rows k first c.further_of.new.made.number c.further_of.new.held.items old c.further_of.new.made.constraints.items (take from unknowns ++ piece) left) (sym c.in_ok-add_found.ensures)
          (begun-more rows k first c.loop-from.made.number c.further_of.new.made.number c.loop-from.held.items c.further_of.new.held.items old c.loop-from.made.constraints.items c.further_of.new.made.constraints.items
          (take from unknowns) c.loop-from.left.items piece c.in_ok-found.found b of_row some found));
    }

pub returns-clause-left : goal.returns-clause-left
returns-clause-left c = λ rows k first old in_row before.
    subst (λ done. IsRowBegun rows k first c.loop-from.made.number c.loop-from.held.items old c.loop-from.made.constraints.items done c.loop-from.left.items)
    (take_all c.loop-from.from c.args.unknowns.now (omega (arith, c.loop-from-test.false))) (c.loop-from.invariant.begun rows k first old in_row before)
