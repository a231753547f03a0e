-- A walk along the statements of a block, and along handlers, up to one of them.
use Rattle.std.proofs.Common.{◌≡◌, refl, sym, ap, ◌∙◌, subst, ℕ, suc, ◌+◌, List, [], ◌∷◌, ◌++◌, map, drop, arith, append_assoc, Bool, true}
use Rattle.std.specs.Prelude.{Some, None}
use Rattle.labels.specs.Label.{Label}
use Rattle.resolved.specs.CoreOf.{program_of}
use Rattle.resolved.specs.declared.program.Core.{Core}
use Rattle.resolved.specs.declared.statement.Exit.{Exit}
use Rattle.resolved.specs.declared.statement.Exit.TheVariants.{Normal}
use Rattle.resolved.specs.Exits.{has_exit, one_exit, statement_exits}
use Rattle.resolved.specs.Program.{Program}
use Rattle.resolved.specs.Labelled.{Scope}
use Rattle.resolved.specs.Tree.{Statement, Block, Empty, Then, Handlers, NoMore, Catch}
use Rattle.path_map.specs.Exits.{Exits}
use Rattle.path_map.specs.Exits.{exits_of}
use Rattle.path_map.specs.Paths.{block_paths, handlers_paths, inner_paths, rest_paths, statement_paths}
use Rattle.gathering.specs.Names.{NamedAtom, NamedConstraint}
use Rattle.gathering.specs.Walk as walk
use Rattle.gathering.specs.Walk.{block_constraints, handlers_constraints, inner_atom, inner_block, made_by_block, made_by_handlers, made_by_statement, onward_pc, single, statement_constraints, with_normal, within_single}
use Rattle.solver.specs.declared.constraints.Atom.{Atom}
use Rattle.constraints.specs.Added.{IsPart}
use Rattle.constraints.specs.LeftSides.{scope_of}
use Rattle.constraints.specs.ExitUnknowns.{AreLevelled, exit_unknowns_of}
use Rattle.constraints.specs.Thinned.{Thinned}
use Rattle.constraints.specs.Walked.{AreHandlersWalked, AreStatementsWalked, HasPassed, IsBlockWalked, IsStatementWalked, IsWalked, step_constraints}
use Rattle.constraints.specs.declared.progress.Progress.{Progress}
use Rattle.constraints.specs.declared.exit_unknowns.ExitUnknowns.{ExitUnknowns}
use Rattle.constraints.proofs.Thinned.{walks-none, walks-same, walks-then}
use Rattle.constraints.proofs.Formed.{block-at}
use Rattle.constraints.proofs.Passed.{passed-from, paths-then, walked-on}

-- what is still to be added, for the whole to have been added
pub record Adds (core : Core) (table : List Label) (procedure : ℕ) (exit_unknowns : walk.ExitUnknowns) (named : NamedAtom) (block : Block) (old : Progress) (rest : Block) (reached : Bool) (pc : Atom) (now : Progress) : Type 0 where
  pub here : NamedAtom
  pub stands : IsPart core table here pc
  pub added : (last : Progress)
      → Thinned core table (block_constraints (scope_of core procedure) reached here exit_unknowns now.number rest) now last
      → Thinned core table (block_constraints (scope_of core procedure) true named exit_unknowns old.number block) old last

-- what a walk has come to, with these statements of the block left
pub record Comes (core : Core) (table : List Label) (entries : List Exits) (procedure : ℕ) (pc : Atom) (exit_unknowns : ExitUnknowns) (block : Block) (left : List Exits) (old : Progress) (rest : Block) (reached : Bool) (onward : Atom) (now : Progress) : Type 0 where
  pub entries_left : drop now.index entries ≡ map exits_of (rest_paths (program_of core) rest) ++ left
  pub number_is : now.number + made_by_block rest ≡ old.number + made_by_block block
  pub thrown_is : now.thrown.items ≡ old.thrown.items
  pub adds : (named : NamedAtom) → IsPart core table named pc → Adds core table procedure (exit_unknowns_of exit_unknowns old.thrown.items) named block old rest reached onward now

abbrev pub Along : Core → (table : List Label) → (entries : List Exits) → (procedure : ℕ) → (pc : Atom) → ExitUnknowns → (block : Block) → (old : Progress) → (rest : Block) → (reached : Bool) → (onward : Atom) → (now : Progress) → Type 0
Along core table entries procedure pc exit_unknowns block old rest reached onward now =
    (left : List Exits) → drop old.index entries ≡ map exits_of (rest_paths (program_of core) block) ++ left → AreLevelled exit_unknowns old.thrown.items →
    Comes core table entries procedure pc exit_unknowns block left old rest reached onward now

-- with these handlers left
pub record Handles (core : Core) (table : List Label) (entries : List Exits) (procedure : ℕ) (number : ℕ → ℕ) (exit_unknowns : ExitUnknowns) (handlers : Handlers) (left : List Exits) (old : Progress) (rest : Handlers) (now : Progress) : Type 0 where
  pub entries_left : drop now.index entries ≡ map exits_of (handlers_paths (program_of core) rest) ++ left
  pub number_is : now.number + made_by_handlers rest ≡ old.number + made_by_handlers handlers
  pub thrown_is : now.thrown.items ≡ old.thrown.items
  pub added : (last : Progress)
      → Thinned core table (handlers_constraints (scope_of core procedure) number (exit_unknowns_of exit_unknowns old.thrown.items) now.number rest) now last
      → Thinned core table (handlers_constraints (scope_of core procedure) number (exit_unknowns_of exit_unknowns old.thrown.items) old.number handlers) old last

abbrev pub Handling : Core → (table : List Label) → (entries : List Exits) → (procedure : ℕ) → (number : ℕ → ℕ) → ExitUnknowns → (handlers : Handlers) → (old : Progress) → (rest : Handlers) → (now : Progress) → Type 0
Handling core table entries procedure number exit_unknowns handlers old rest now =
    (left : List Exits) → drop old.index entries ≡ map exits_of (handlers_paths (program_of core) handlers) ++ left → AreLevelled exit_unknowns old.thrown.items →
    Handles core table entries procedure number exit_unknowns handlers left old rest now

module _ (core : Core) (table : List Label) (entries : List Exits) (procedure : ℕ) where
  pub along-start : (pc : Atom) (exit_unknowns : ExitUnknowns) (block : Block) (old : Progress) → Along core table entries procedure pc exit_unknowns block old block true pc old
  along-start pc exit_unknowns block old = λ left before levelled. record {
    entries_left = before;
    number_is = refl;
    thrown_is = refl;
    adds = λ named stands. record { here = named; stands = stands; added = λ last added. added };
  }

  pub along-step : (pc : Atom) (exit_unknowns : ExitUnknowns) (block : Block) (old : Progress) (statement : Statement) (rest : Block) (reached : Bool) (onward next : Atom) (now made new : Progress) (exits : Exits) (number : ℕ)
      → Along core table entries procedure pc exit_unknowns block old (Then statement rest) reached onward now
      → made ≡ record now { number = now.number + 1 } → number ≡ now.number
      → ((first : Exits) (left : List Exits) → drop made.index entries ≡ first ∷ left → exits ≡ first)
      → IsStatementWalked core table entries procedure onward exit_unknowns number statement made new
      → ((ends : List Exit) (named : NamedAtom) → exits ≡ exits_of ends → IsPart core table named onward → IsPart core table (onward_pc (one_exit ends) named number) next)
      → Along core table entries procedure pc exit_unknowns block old rest exits.normal next new
  along-step pc exit_unknowns block old statement rest reached onward next now made new exits number along made_is number_is exits_are walked goes = λ left before levelled.
      let program : Program = program_of core in
      let scope : Scope = scope_of core procedure in
      let ends : List Exit = statement_exits program statement in
      let t : walk.ExitUnknowns = exit_unknowns_of exit_unknowns old.thrown.items in
      let comes : Comes core table entries procedure pc exit_unknowns block left old (Then statement rest) reached onward now = along left before levelled in
      let beyond : List Exits = map exits_of (rest_paths program rest) ++ left in
      let ahead : drop made.index entries ≡ map exits_of (statement_paths program statement) ++ beyond =
      ap (λ (p : Progress). drop p.index entries) made_is
      ∙ paths-then (statement_paths program statement) (rest_paths program rest) (drop now.index entries) left comes.entries_left in
      let kept : exits ≡ exits_of ends = exits_are (exits_of ends) (map exits_of (inner_paths program statement) ++ beyond) ahead in
      let step : ℕ → NamedAtom → List NamedConstraint = λ k named. step_constraints scope named t k (suc now.number) statement in
      let passed : HasPassed core table entries onward (step number) (made_by_statement statement) beyond made new =
      walked-on core table entries onward exit_unknowns (statement_paths program statement) (λ thrown k named. step_constraints scope named (exit_unknowns_of exit_unknowns thrown) number k statement)
      (made_by_statement statement) beyond made new old.thrown.items (suc now.number) (ap (λ (p : Progress). p.thrown.items) made_is ∙ comes.thrown_is)
      (ap (λ (p : Progress). p.number) made_is ∙ omega arith) levelled ahead walked in
      let from : HasPassed core table entries onward (step number) (1 + made_by_statement statement) beyond now new =
      passed-from core table entries onward (step number) 1 (made_by_statement statement) beyond now made new made_is passed in
      let sum : now.number + suc (made_by_statement statement + made_by_block rest) ≡ old.number + made_by_block block = comes.number_is in
      record {
        entries_left = from.entries_left;
        number_is = omega (arith, sum, from.number_is);
        thrown_is = from.thrown_is ∙ comes.thrown_is;
        adds = λ named stands.
            let adds : Adds core table procedure t named block old (Then statement rest) reached onward now = comes.adds named stands in
            let tail : Bool → ℕ → ℕ → List NamedConstraint = λ b k m. block_constraints scope b (onward_pc (one_exit ends) adds.here k) t m rest in
            record {
              here = onward_pc (one_exit ends) adds.here number;
              stands = goes ends adds.here kept adds.stands;
              added = λ last added. adds.added last
                  (walks-same core table (block_constraints scope reached adds.here t now.number (Then statement rest)) (step number adds.here ++ tail exits.normal number new.number) now last
                  (sym (append_assoc (single (one_exit ends) adds.here (with_normal None t) ends)
                  (statement_constraints scope adds.here (within_single (one_exit ends) (with_normal (Some now.number) t)) (suc now.number) statement)
                  (tail (has_exit ends Normal) now.number (suc now.number + made_by_statement statement)))
                  ∙ ap (λ k. step k adds.here ++ tail (has_exit ends Normal) k (suc now.number + made_by_statement statement)) (sym number_is)
                  ∙ ap (λ b. step number adds.here ++ tail b number (suc now.number + made_by_statement statement)) (sym (ap (λ (x : Exits). x.normal) kept))
                  ∙ ap (λ m. step number adds.here ++ tail exits.normal number m) (omega (arith, from.number_is)))
                  (walks-then core table (step number adds.here) (tail exits.normal number new.number) now new last
                  (from.added adds.here adds.stands) added));
            };
      }

  pub along-end : (pc : Atom) (exit_unknowns : ExitUnknowns) (block : Block) (old : Progress) (reached : Bool) (onward : Atom) (now new : Progress)
      → Along core table entries procedure pc exit_unknowns block old Empty reached onward now
      → ((n : ℕ) → IsWalked core table entries onward exit_unknowns [] (λ named. block_constraints (scope_of core procedure) reached named (exit_unknowns_of exit_unknowns now.thrown.items) n Empty) 0 now new)
      → AreStatementsWalked core table entries procedure pc exit_unknowns block old new
  along-end pc exit_unknowns block old reached onward now new along ended = λ left before levelled.
      let scope : Scope = scope_of core procedure in
      let comes : Comes core table entries procedure pc exit_unknowns block left old Empty reached onward now = along left before levelled in
      let passed : HasPassed core table entries onward (λ named. block_constraints scope reached named (exit_unknowns_of exit_unknowns old.thrown.items) now.number Empty) 0 left now new =
      walked-on core table entries onward exit_unknowns [] (λ thrown k named. block_constraints scope reached named (exit_unknowns_of exit_unknowns thrown) k Empty)
      0 left now new old.thrown.items now.number comes.thrown_is refl levelled comes.entries_left (ended now.number) in
      let sum : now.number + 0 ≡ old.number + made_by_block block = comes.number_is in
      record {
        added = λ named stands.
            let adds : Adds core table procedure (exit_unknowns_of exit_unknowns old.thrown.items) named block old Empty reached onward now = comes.adds named stands in
            adds.added new (passed.added adds.here adds.stands);
        entries_left = passed.entries_left;
        number_is = omega (arith, passed.number_is, sum);
        thrown_is = passed.thrown_is ∙ comes.thrown_is;
      }

  pub handling-start : (number : ℕ → ℕ) (exit_unknowns : ExitUnknowns) (handlers : Handlers) (old : Progress) → Handling core table entries procedure number exit_unknowns handlers old handlers old
  handling-start number exit_unknowns handlers old = λ left before levelled. record {
    entries_left = before;
    number_is = refl;
    thrown_is = refl;
    added = λ last added. added;
  }

  pub handling-step : (number : ℕ → ℕ) (exit_unknowns : ExitUnknowns) (handlers : Handlers) (old : Progress) (at handled : ℕ) (body : Block) (rest : Handlers) (pc : Atom) (named : ℕ) (now new : Progress)
      → Handling core table entries procedure number exit_unknowns handlers old (Catch at handled body rest) now
      → named ≡ number handled → IsPart core table (inner_atom named) pc
      → IsBlockWalked core table entries procedure pc exit_unknowns body now new
      → Handling core table entries procedure number exit_unknowns handlers old rest new
  handling-step number exit_unknowns handlers old at handled body rest pc named now new along is stands walked = λ left before levelled.
      let program : Program = program_of core in
      let scope : Scope = scope_of core procedure in
      let t : walk.ExitUnknowns = exit_unknowns_of exit_unknowns old.thrown.items in
      let comes : Handles core table entries procedure number exit_unknowns handlers left old (Catch at handled body rest) now = along left before levelled in
      let beyond : List Exits = map exits_of (handlers_paths program rest) ++ left in
      let part : IsPart core table (inner_atom (number handled)) pc = subst (λ k. IsPart core table (inner_atom k) pc) is stands in
      let inside : List NamedConstraint = inner_block scope (inner_atom (number handled)) t now.number body in
      let passed : HasPassed core table entries pc (λ other. inside) (made_by_block body) beyond now new =
      block-at core table entries procedure pc pc (inner_atom (number handled)) exit_unknowns t body beyond now new old.thrown.items now.number part comes.thrown_is refl levelled refl
      (paths-then (block_paths program body) (handlers_paths program rest) (drop now.index entries) left comes.entries_left) walked in
      let tail : ℕ → List NamedConstraint = λ k. handlers_constraints scope number t k rest in
      let sum : now.number + (made_by_block body + made_by_handlers rest) ≡ old.number + made_by_handlers handlers = comes.number_is in
      record {
        entries_left = passed.entries_left;
        number_is = omega (arith, sum, passed.number_is);
        thrown_is = passed.thrown_is ∙ comes.thrown_is;
        added = λ last added. comes.added last
            (walks-same core table (inside ++ tail (now.number + made_by_block body)) (inside ++ tail new.number) now last
            (ap (λ k. inside ++ tail k) (sym passed.number_is))
            (walks-then core table inside (tail new.number) now new last (passed.added (inner_atom (number handled)) part) added));
      }

  pub handling-end : (number : ℕ → ℕ) (exit_unknowns : ExitUnknowns) (handlers : Handlers) (old now : Progress) (pc : Atom)
      → Handling core table entries procedure number exit_unknowns handlers old NoMore now → AreHandlersWalked core table entries procedure pc exit_unknowns number handlers old now
  handling-end number exit_unknowns handlers old now pc along = λ left before levelled.
      let comes : Handles core table entries procedure number exit_unknowns handlers left old NoMore now = along left before levelled in
      let sum : now.number + 0 ≡ old.number + made_by_handlers handlers = comes.number_is in
      record {
        added = λ named stands. comes.added now (walks-none core table now);
        entries_left = comes.entries_left;
        number_is = omega (arith, sum);
        thrown_is = comes.thrown_is;
      }
