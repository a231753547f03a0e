-- Where no fault of the exits is found, each statement is reached, and so a program without one is gathered.
use Rattle.std.proofs.Common.{◌≡◌, refl, ℕ, zero, suc, Bool, true, false, not, ◌&&◌, List, [], ◌∷◌, ◌++◌, sym, ◌∙◌}
use Rattle.std.specs.Prelude.{filter, flat_map, is_some, slice_index_or}
use Rattle.std.specs.List.{list_all}
use Rattle.lattices.specs.Constraints.{IsGathered}
use Rattle.resolved.specs.FaultParts.{place_of, may_stand, inner_faults, may_exit}
use Rattle.resolved.specs.declared.statement.Exit.{Exit}
use Rattle.resolved.specs.declared.statement.Exit.TheVariants.{Normal, Throw}
use Rattle.resolved.specs.Tree.{Statement, Placed, Assign, Clear, Store, Receive, Send, Call, If, While, Leave, ReturnWith, Try, Nested, Block, Empty, Then, Handlers, NoMore, Catch}
use Rattle.resolved.specs.Program.{Program, ProcedureEntry}
use Rattle.resolved.specs.Exits.{same_exit, has_exit, statement_exits, block_exits, fault_unless}
use Rattle.resolved.specs.ExitFaults.{block_faults, handlers_faults, procedure_faults}
use Rattle.resolved.specs.declared.fault.ExitRefusalKind.TheVariants.{OutsideLoop, Unreachable, NeverRaised, NoValueReturned, Undeclared}
use Rattle.common.specs.declared.refusal.RefusalAt.{RefusalAt}
use Rattle.resolved.specs.declared.fault.ExitRefusalKind.{ExitRefusalKind}
use Rattle.resolved.specs.Labelled.{program_demands, exit_faults}
use Rattle.gathering.specs.Walk.{program_constraints}
use Rattle.gathering.proofs.Reached.{Goes, Part, PartIn, PartBy}
use Rattle.gathering.proofs.Programs.{PartsFrom, Gathers, gathered_by, all-gathers}
use Rattle.resolved.proofs.Exits.{no_fault-test, faults-in_parts}
use Rattle.resolved.proofs.Judged.{faults-apart}

none-left : (xs ys : List (RefusalAt ExitRefusalKind)) → (xs ++ ys) ≡ [] → xs ≡ []
none-left [] ys e = refl
none-left (x ∷ xs) ys e = absurd (cc)

none-right : (xs ys : List (RefusalAt ExitRefusalKind)) → (xs ++ ys) ≡ [] → ys ≡ []
none-right [] ys e = e
none-right (x ∷ xs) ys e = absurd (cc)

module _ (program : Program) where
  reached-first : (loop b : Bool) (s : Statement) (rest : Block) → block_faults program loop b (Then s rest) ≡ [] → b ≡ true
  reached-first loop b s rest none =
      let a : List (RefusalAt ExitRefusalKind) = fault_unless (may_stand loop s) OutsideLoop (place_of s) in
      let r : List (RefusalAt ExitRefusalKind) = fault_unless b Unreachable (place_of s) in
      let parts = sym (faults-in_parts program loop b rest s) ∙ none in
      no_fault-test b Unreachable (place_of s) (none-right a r (none-left (a ++ r) (inner_faults program loop s)
      (none-left ((a ++ r) ++ inner_faults program loop s) (block_faults program loop (has_exit (statement_exits program s) Normal) rest) parts)))

  goes-on : (loop : Bool) (s : Statement) (rest : Block) → block_faults program loop (has_exit (statement_exits program s) Normal) rest ≡ [] → Goes program s rest
  goes-on loop s Empty none = tt
  goes-on loop s (Then next more) none = reached-first loop (has_exit (statement_exits program s) Normal) next more none

  mutual
    part-from : (s : Statement) (loop : Bool) → inner_faults program loop s ≡ [] → Part program s
    part-from (Placed at (Assign x e)) loop none = tt
    part-from (Placed at (Clear slot)) loop none = tt
    part-from (Placed at (Store array len index e)) loop none = tt
    part-from (Placed at (Receive channel target)) loop none = tt
    part-from (Placed at (Send channel e)) loop none = tt
    part-from (Placed at (Call procedure arguments target)) loop none = tt
    part-from (Placed at (If e then_block else_block)) loop none =
        let yes : List (RefusalAt ExitRefusalKind) = block_faults program loop true then_block in
        let no : List (RefusalAt ExitRefusalKind) = block_faults program loop true else_block in
        (part_in-from then_block loop true (none-left yes no none), part_in-from else_block loop true (none-right yes no none))
    part-from (Placed at (While l e body)) loop none = part_in-from body true true none
    part-from (Placed at (Leave exit)) loop none = tt
    part-from (Placed at (ReturnWith value)) loop none = tt
    part-from (Placed at (Try block handlers)) loop none =
        let own : List (RefusalAt ExitRefusalKind) = block_faults program loop true block in
        let more : List (RefusalAt ExitRefusalKind) = handlers_faults program loop (block_exits program block) handlers in
        (part_in-from block loop true (none-left own more none), part_by-from handlers loop (block_exits program block) (none-right own more none))
    part-from (Placed at (Nested block)) loop none = part_in-from block loop true none

    pub part_in-from : (block : Block) (loop b : Bool) → block_faults program loop b block ≡ [] → PartIn program block
    part_in-from Empty loop b none = tt
    part_in-from (Then s rest) loop b none =
        let a : List (RefusalAt ExitRefusalKind) = fault_unless (may_stand loop s) OutsideLoop (place_of s) in
        let r : List (RefusalAt ExitRefusalKind) = fault_unless b Unreachable (place_of s) in
        let own : List (RefusalAt ExitRefusalKind) = inner_faults program loop s in
        let more : List (RefusalAt ExitRefusalKind) = block_faults program loop (has_exit (statement_exits program s) Normal) rest in
        let parts = sym (faults-in_parts program loop b rest s) ∙ none in (
          part-from s loop (none-right (a ++ r) own (none-left ((a ++ r) ++ own) more parts)),
          goes-on loop s rest (none-right ((a ++ r) ++ own) more parts),
          part_in-from rest loop (has_exit (statement_exits program s) Normal) (none-right ((a ++ r) ++ own) more parts),
        )

    part_by-from : (handlers : Handlers) (loop : Bool) (ends : List Exit) → handlers_faults program loop ends handlers ≡ [] → PartBy program handlers
    part_by-from NoMore loop ends none = tt
    part_by-from (Catch at handled body rest) loop ends none =
        let a : List (RefusalAt ExitRefusalKind) = fault_unless (has_exit ends (Throw handled)) NeverRaised at in
        let own : List (RefusalAt ExitRefusalKind) = block_faults program loop true body in
        let more : List (RefusalAt ExitRefusalKind) = handlers_faults program loop (filter (λ exit. not (same_exit (Throw handled) exit)) ends) rest in (
          part_in-from body loop true (none-right a own (none-left (a ++ own) more none)),
          part_by-from rest loop (filter (λ exit. not (same_exit (Throw handled) exit)) ends) (none-right (a ++ own) more none),
        )

procedure-part : (program : Program) (procedure : ProcedureEntry) → procedure_faults program procedure ≡ [] → PartIn program procedure.body
procedure-part program procedure none =
    let ends : List Exit = block_exits program procedure.body in
    let own : List (RefusalAt ExitRefusalKind) = block_faults program false true procedure.body in
    let valued : List (RefusalAt ExitRefusalKind) = fault_unless (not (is_some procedure.result && has_exit ends Normal)) NoValueReturned procedure.at in
    let declared : List (RefusalAt ExitRefusalKind) = fault_unless (list_all (may_exit procedure) ends) Undeclared procedure.at in
    part_in-from program procedure.body false true (none-left own valued (none-left (own ++ valued) declared none))

each-part : (program : Program) (absent : ProcedureEntry) → PartIn program absent.body → (ps : List ProcedureEntry) →
    flat_map (procedure_faults program) ps ≡ [] → (f : ℕ) → PartIn program (slice_index_or ps f absent).body
each-part program absent part [] none f = part
each-part program absent part (p ∷ ps) none zero =
    procedure-part program p (none-left (procedure_faults program p) (flat_map (procedure_faults program) ps) none)
each-part program absent part (p ∷ ps) none (suc f) =
    each-part program absent part ps (none-right (procedure_faults program p) (flat_map (procedure_faults program) ps) none) f

pub faultless-parts : (program : Program) → exit_faults program ≡ [] → (f : ℕ) (ps : List ProcedureEntry) → PartsFrom program f ps
faultless-parts program none f [] = tt
faultless-parts program none f (p ∷ ps) = (each-part program _ tt program.procedures (sym (faults-apart program) ∙ none) f, faultless-parts program none (suc f) ps)

-- so a program without a fault of its exits is gathered
pub faultless-gathers : (program : Program) → exit_faults program ≡ [] → Gathers program
faultless-gathers program none = all-gathers program (faultless-parts program none 0 program.procedures)

pub faultless-gathered : (program : Program) → exit_faults program ≡ [] → IsGathered (program_demands program) (program_constraints program)
faultless-gathered program none = gathered_by program (faultless-gathers program none)
