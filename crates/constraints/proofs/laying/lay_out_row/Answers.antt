use Rattle.std.proofs.Common.{sym, ap, subst, ◌∙◌, ◌≡◌, ◌++◌, []}
use Rattle.std.proofs.lemmas.List.Elements.{Contains-append_left}
use Rattle.constraints.specs.Laying.{IsPieceOf}
use Rattle.constraints.specs.Merging.{IsLaidOut, parts_at, row_of, rows_of}
use Rattle.std.specs.Prelude.{Contains}
use Rattle.constraints.proofs.KeptRows.{row-there}
use Rattle.constraints.proofs.LaidRows.{begun-none, row-laid}
use Rattle.constraints.proofs.PartRows.{laid-none, parts-here}
use Rattle.constraints.proofs.laying.lay_out_row.Goals as goal

-- a row without parts
pub returns-then-are_none-clause-laid : goal.returns-then-are_none-clause-laid
returns-then-are_none-clause-laid c = λ first old so_far.
    let rows = rows_of c.args.rows.now in
    let number = c.args.number in
    let row = c.index-rows-number.result in
    let there = row-there c.args.rows.now number row c.requires.inside c.index-rows-number.is in
    let none : row.unknowns.items ++ row.written.items ≡ [] =
    ap (λ xs. xs ++ row.written.items) (sym c.deref.ensures.value) ∙ ap (λ xs. c.deref.result.now ++ xs) (sym c.deref-2.ensures.value) ∙ c.are_none.ensures c.if-are_none.true in
    row-laid rows number first c.args.made.now.number c.args.held.now.items old c.args.made.now.constraints.items c.args.made.now.constraints.items [] [] []
    (parts-here rows number (row_of row) (row_of row) there.0 there.1 ∙ none)
    (begun-none rows number first c.args.made.now.number c.args.held.now.items old c.args.made.now.constraints.items so_far) (laid-none number c.args.made.now.constraints.items)

pub returns-clause-laid : goal.returns-clause-laid
returns-clause-laid c = λ first old so_far.
    let rows = rows_of c.args.rows.now in
    let number = c.args.number in
    let row = c.index-rows-number.result in
    let unknowns = c.deref-3.result.now in
    let written = c.deref-4.result.now in
    let there = row-there c.args.rows.now number row c.requires.inside c.index-rows-number.is in
    let is : parts_at rows number ≡ unknowns ++ written =
    parts-here rows number (row_of row) (row_of row) there.0 there.1
    ∙ (ap (λ xs. xs ++ row.written.items) (sym c.deref-3.ensures.value) ∙ ap (λ xs. unknowns ++ xs) (sym c.deref-4.ensures.value)) in
    let of_row : IsPieceOf rows number unknowns = λ p h. subst (λ list. Contains list p) (sym is) (Contains-append_left unknowns written p h) in
    let begun = c.in_ok-left.ensures.left rows number first old of_row so_far in
    let laid : IsLaidOut number (c.in_ok-left.left.items ++ written) c.left_of.new.made.constraints.items c.lay_out_one.new.constraints.items =
    subst (λ xs. IsLaidOut number xs c.left_of.new.made.constraints.items c.lay_out_one.new.constraints.items) c.in_ok-add_written.ensures c.in_ok-lay_out_one.ensures in
    row-laid rows number first c.left_of.new.made.number c.left_of.new.held.items old c.left_of.new.made.constraints.items c.lay_out_one.new.constraints.items unknowns c.in_ok-left.left.items written is begun laid
