-- Rows of parts that are kept for unknowns: what they have where a row changes.
use Rattle.std.proofs.Common.{◌≡◌, sym, ap, ◌∙◌, subst, ℕ, zero, suc, ◌<◌, List, [], ◌∷◌, length, get_or, set, arith}
use Rattle.std.proofs.lemmas.List.{map-set}
use Rattle.solver.specs.declared.constraints.Atom.{Atom}
use Rattle.solver.specs.declared.constraints.Atom.TheVariants.{Unknown}
use Rattle.constraints.specs.Added.{Stored}
use Rattle.constraints.specs.Merging.{AreTaken, HasMore, parts_at, parts_of, row_of, rows_of}
use Rattle.constraints.specs.declared.merging.Parts.{Parts}
use Rattle.constraints.proofs.PartRows.{parts-here, parts-others, parts-set, taken-kept}

pub row-there : (rows : List Parts) (k : ℕ) (parts : Parts) → k < length rows → parts ≡ get_or rows k parts
    → (k < length (rows_of rows)) × (row_of parts ≡ get_or (rows_of rows) k (row_of parts))
row-there [] k parts inside is = absurd (omega (arith, inside))
row-there (first ∷ rows) zero parts inside is = (omega arith, ap row_of is)
row-there (first ∷ rows) (suc k) parts inside is =
    let rest = row-there rows k parts (omega (arith, inside)) is in
    (omega (arith, rest.0), rest.1)

-- the parts of a constraint are kept in the row of its right side
pub row-taken : (Over : Atom → Atom → Type 0) (same : (a : Atom) → Over a a) (c : Stored) (k : ℕ) (old new : List Parts) (was now : Parts) (rest : List Stored)
    → c.right ≡ Unknown k → k < length old → was ≡ get_or old k was → new ≡ set old k now → HasMore Over c.left.items (parts_of was) (parts_of now)
    → AreTaken Over (c ∷ []) (rows_of old) (rows_of new) rest rest
row-taken Over same c k old new was now rest right inside is set_is has =
    let there = row-there old k was inside is in
    let rows : rows_of new ≡ set (rows_of old) k (row_of now) = ap rows_of set_is ∙ map-set row_of old k now in
    let before : parts_at (rows_of old) k ≡ parts_of was = parts-here (rows_of old) k (row_of was) (row_of was) there.0 there.1 in
    let after : parts_at (rows_of new) k ≡ parts_of now = ap (λ rs. parts_at rs k) rows ∙ parts-set (rows_of old) k (row_of now) there.0 in
    taken-kept Over same c k (rows_of old) (rows_of new) rest right
    (subst (λ xs. HasMore Over c.left.items xs (parts_at (rows_of new) k)) (sym before) (subst (HasMore Over c.left.items (parts_of was)) (sym after) has))
    (λ j differs. ap (λ rs. parts_at rs j) rows ∙ parts-others (rows_of old) k (row_of now) j differs)
