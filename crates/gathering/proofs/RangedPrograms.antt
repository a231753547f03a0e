-- What is gathered of a well-formed program has unknowns that are in range.
use Rattle.std.proofs.Common.{◌≡◌, refl, sym, ◌∙◌, ℕ, suc, ◌+◌, ◌<◌, ◌≤◌, length, Bool, true, false, List, [], ◌∷◌, ◌++◌, ⊎_elim, arith}
use Rattle.std.specs.Prelude.{Contains, if◌then◌else◌, ◌==◌, IsTrue}
use Rattle.std.proofs.lemmas.Bool.{and_parts, or_left, or_right, eq-eqb}
use Rattle.std.proofs.lemmas.Option.{slice_get-get_or}
use Rattle.common.proofs.Elements.{none_in_nil, Contains-cons_cases}
use Rattle.lattices.specs.Constraints.{renamed}
use Rattle.resolved.specs.declared.target.Target.TheVariants.{ToBegin, ToEnd, ToThrown}
use Rattle.resolved.specs.Program.{Program, ProcedureEntry, ThrownEntry, procedure_at}
use Rattle.resolved.specs.Exits.{block_exits}
use Rattle.resolved.specs.Labelled.{Scope, label_of}
use Rattle.resolved.specs.WellFormed.{counts_from, block_loops, well_formed}
use Rattle.resolved.proofs.WellFormedParts.{ProcedureParts, procedure_there}
use Rattle.gathering.specs.Names.{Real, NamedAtom, NamedConstraint, real_unknowns}
use Rattle.gathering.specs.Walk.{inner_atom, rule_constraint, nowhere, thrown_number, declares, at_end, has_one_exit, end_exit_unknowns, inner_block, block_constraints, thrown_constraints, exit_constraints, procedure_constraints, made_by_procedure, constraints_from, program_constraints, made_from, unknown_count}
use Rattle.gathering.proofs.Ranged.{IsMade, HasRoom, Ranged, ExitUnknownsInRange, nowhere-fits, end-fits, alone, ranged-nil, ranged-append, thrown-inside, own_scope, own, ranged-rule, ranged-by_exits, ranged-block}

-- numbers that count up from n
counts-below : (xs : List ℕ) (n : ℕ) → counts_from n xs ≡ true → (l : ℕ) → Contains xs l → l < n + length xs
counts-below [] n h l there = absurd (none_in_nil l there)
counts-below (m ∷ rest) n h l there =
    let parts = and_parts (m == n) (counts_from (suc n) rest) h in
    let first : m ≡ n = grind (arith, parts.0) in
    ⊎_elim
    (λ same. let i : l ≡ n = sym same ∙ first in omega (arith, i))
    (λ t. let i : l < suc n + length rest = counts-below rest (suc n) parts.1 l t in omega (arith, i))
    (Contains-cons_cases m rest l there)

loops-fit : (program : Program) (procedure : ProcedureEntry) → ProcedureParts program procedure → (l : ℕ) → Contains (block_loops procedure.body) l → l < procedure.loops
loops-fit program procedure parts l there =
    let i : l < 0 + length (block_loops procedure.body) = counts-below (block_loops procedure.body) 0 parts.loops_count_up l there in
    let same : length (block_loops procedure.body) ≡ procedure.loops = grind (arith, parts.loops_are_all) in
    omega (arith, i, same)

module _ (program : Program) (bound : ℕ) where
  module _ (f : ℕ) (there : f < length program.procedures) where
    ranged-thrown : (number : ℕ → ℕ) (throws : List ThrownEntry) → ((x : ℕ) → declares throws x ≡ true → IsMade program bound (number x)) →
        Ranged program bound (thrown_constraints (own_scope program bound f there) number throws)
    ranged-thrown number [] h = ranged-nil program bound
    ranged-thrown number (entry ∷ rest) h =
        let x : ℕ = entry.exception in
        ranged-append program bound (rule_constraint (own_scope program bound f there) (own program bound f there).at 13 (inner_atom (number x) ∷ []) (ToThrown f x)) (thrown_constraints (own_scope program bound f there) number rest)
        (ranged-rule program bound f there (own program bound f there).at 13 (inner_atom (number x) ∷ []) (ToThrown f x)
        (alone program bound (inner_atom (number x)) (h x (or_left (x == x) (declares rest x) (eq-eqb x x refl)))) tt)
        (ranged-thrown number rest (λ y k. h y (or_right (y == x) (declares rest y) k)))

    ranged-ends : (n : ℕ) → HasRoom program bound n (suc (length (own program bound f there).throws)) → Ranged program bound (exit_constraints (own_scope program bound f there) n)
    ranged-ends n h = go (has_one_exit (own_scope program bound f there))
      where
        throws : List ThrownEntry
        throws = (own program bound f there).throws

        first : List NamedConstraint
        first = rule_constraint (own_scope program bound f there) (own program bound f there).at 13 (inner_atom n ∷ []) (ToEnd f)

        go : (b : Bool) → Ranged program bound (if b then [] else (first ++ thrown_constraints (own_scope program bound f there) (λ x. thrown_number throws (suc n) x) throws))
        go true = ranged-nil program bound
        go false =
            ranged-append program bound first (thrown_constraints (own_scope program bound f there) (λ x. thrown_number throws (suc n) x) throws)
            (ranged-rule program bound f there (own program bound f there).at 13 (inner_atom n ∷ []) (ToEnd f) (alone program bound (inner_atom n) (omega (arith, h.0), omega (arith, h.1))) tt)
            (ranged-thrown (λ x. thrown_number throws (suc n) x) throws
            (λ x k.
            let inside = thrown-inside program bound throws (suc n) x k in
            let least : suc n ≤ thrown_number throws (suc n) x = inside.0 in
            let i : thrown_number throws (suc n) x < suc n + length throws = inside.1 in
            (omega (arith, h.0, least), omega (arith, h.1, i))))

    end_exit_unknowns-fit : (n : ℕ) → HasRoom program bound n (suc (length (own program bound f there).throws)) → ExitUnknownsInRange program bound (end_exit_unknowns (own_scope program bound f there) n)
    end_exit_unknowns-fit n h = go (has_one_exit (own_scope program bound f there))
      where
        go : (b : Bool) → ExitUnknownsInRange program bound (if b then nowhere else at_end n (own program bound f there).throws)
        go true = nowhere-fits program bound
        go false = end-fits program bound (own program bound f there).throws n h

    ranged-procedure : (n : ℕ) → ProcedureParts program (own program bound f there) → HasRoom program bound n (made_by_procedure (own_scope program bound f there)) →
        Ranged program bound (procedure_constraints (own_scope program bound f there) n)
    ranged-procedure n parts h =
        let scope : Scope = own_scope program bound f there in
        let procedure : ProcedureEntry = own program bound f there in
        let pc : NamedAtom = renamed Real (label_of program (ToBegin f)) in
        let m : ℕ = suc n + length procedure.throws in
        let ended : HasRoom program bound n (suc (length procedure.throws)) = (omega (arith, h.0), omega (arith, h.1)) in
        ranged-append program bound (inner_block scope pc (end_exit_unknowns scope n) m procedure.body) (exit_constraints scope n)
        (ranged-by_exits program bound f there (block_exits program procedure.body) pc (end_exit_unknowns scope n) (λ t. block_constraints scope true pc t m procedure.body) tt (end_exit_unknowns-fit n ended)
        (λ t k. ranged-block program bound f there procedure.body true pc t m parts.body_fits (loops-fit program procedure parts) tt k (omega (arith, h.0), omega (arith, h.1))))
        (ranged-ends n ended)

  ranged-from : (ps : List ProcedureEntry) (f n : ℕ) → ((g : ℕ) → g < length program.procedures → ProcedureParts program (procedure_at program g)) → f + length ps ≤ length program.procedures →
      HasRoom program bound n (made_from program f ps) → Ranged program bound (constraints_from program f n ps)
  ranged-from [] f n fits inside h = ranged-nil program bound
  ranged-from (p ∷ ps) f n fits inside h =
      let there : f < length program.procedures = omega (arith, inside) in
      let scope : Scope = own_scope program bound f there in
      ranged-append program bound (procedure_constraints scope n) (constraints_from program (suc f) (n + made_by_procedure scope) ps)
      (ranged-procedure f there n (fits f there) (omega (arith, h.0), omega (arith, h.1)))
      (ranged-from ps (suc f) (n + made_by_procedure scope) fits (omega (arith, inside)) (omega (arith, h.0), omega (arith, h.1)))

pub ranged-program : (program : Program) → IsTrue (well_formed program) → Ranged program (unknown_count program) (program_constraints program)
ranged-program program formed =
    ranged-from program (unknown_count program) program.procedures 0 (real_unknowns program)
    (λ g there. procedure_there program formed g (procedure_at program g) (slice_get-get_or program.procedures g _ there))
    (omega arith) (omega arith, omega arith)
