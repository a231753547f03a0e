use Rattle.std.proofs.Common.{◌<◌, length, sym, ap, ◌∙◌, subst, List, Bool, map}
use Rattle.std.specs.Prelude.{IsTrue}
use Rattle.std.proofs.lemmas.Bool.{eqb-true, ltb-true}
use Rattle.labels.specs.Row.{has}
use Rattle.solver.specs.Rows.{atom_has}
use Rattle.solver.specs.Sharing.{bits_of}
use Rattle.solver.specs.declared.constraints.Atom.{Atom}
use Rattle.solver.proofs.Standing.{has_at-row, map-read}
use Rattle.solver.proofs.sharing.covers_part.Goals as goal

pub returns-in-Some : goal.returns-in-Some
returns-in-Some c = λ same n held.
    let bits = bits_of c.args.kept.now in
    let of = c.args.of.now in
    let unknown = c.in-Unknown.unknown in
    let own = c.in-Some.own.now in
    let is = c.in-Some.ensures.lookup.1 in
    let there : unknown < length of = ltb-true unknown (length of) (sym c.in-Some.ensures.lookup.0) in
    let here = subst (λ (part : Atom). IsTrue (atom_has (map bits of) n part)) c.in-Unknown.is held in
    let row = map-read bits of unknown own there ∙ ap bits (sym is ∙ eqb-true own c.args.number same) in
    ap (λ (row : List Bool). has row n) (sym row) ∙ (has_at-row (map bits of) unknown n ∙ here)
