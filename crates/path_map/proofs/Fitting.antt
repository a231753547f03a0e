-- The exceptions of a well-formed program are below their count: which pieces of a piece that fits fit too.
use Rattle.std.proofs.Common.{◌≡◌, sym, ap, ◌∙◌, subst, ℕ, zero, suc, ◌+◌, ◌<◌, List, [], ◌∷◌, map, get_or, length, arith, true, ◌&&◌}
use Rattle.std.specs.Prelude.{IsTrue, not, ◌==◌, string_bytes}
use Rattle.std.specs.List.{list_all, list_any}
use Rattle.std.proofs.lemmas.Bool.{and_parts, ltb-true}
use Rattle.std.proofs.lemmas.List.{length-map}
use Rattle.std.proofs.lemmas.List.Elements.{All-cons, All-nil}
use Rattle.common.specs.declared.exceptions.TheConstants.{BUILT_IN}
use Rattle.labels.specs.Label.{Label}
use Rattle.labels.specs.LabelTable.{label_at}
use Rattle.resolved.specs.CoreOf.{program_of}
use Rattle.resolved.specs.declared.program.Core.{Core}
use Rattle.resolved.specs.declared.statement.Handler.{Handler}
use Rattle.resolved.specs.declared.statement.Statement as S
use Rattle.resolved.specs.declared.tables.Procedure.{Procedure}
use Rattle.resolved.specs.declared.tables.Thrown.{Thrown}
use Rattle.common.specs.declared.base_type.BaseType.TheVariants.{Boolean}
use Rattle.resolved.specs.Program.{ProcedureEntry, Program, ThrownEntry}
use Rattle.resolved.specs.ProgramOf.{procedure_entry, thrown_entry}
use Rattle.resolved.specs.Tree.{Expression, Statement, Placed, If, While, Try, Nested, Block, Handlers}
use Rattle.resolved.specs.TreeOf.{block_of, handlers_of, statement_of}
use Rattle.resolved.specs.WellFormed.{block_fits, handlers_fit, has_base, is_exception, label_fits, procedure_fits, statement_fits, throws_fit}
use Rattle.resolved.proofs.WellFormedParts.{procedure_parts, program_parts}
use Rattle.path_map.specs.Walks.{AreThrownInside, BlockFits, FitsSome, exception_count}

module _ (program : Program) where
  -- the pieces of each form
  module _ (s : S.Statement) (tree : Statement) (is : statement_of s ≡ tree)
      (some : FitsSome (λ procedure. statement_fits program procedure (statement_of s))) where
    fits-at : IsTrue (statement_fits program some.procedure tree)
    fits-at = subst (λ t. IsTrue (statement_fits program some.procedure t)) is some.fits

  module _ (s : S.Statement) (at : ℕ) (e : Expression) (then_block else_block : Block) (is : statement_of s ≡ Placed at (If e then_block else_block))
      (some : FitsSome (λ procedure. statement_fits program procedure (statement_of s))) where
    parts : IsTrue (has_base program some.procedure Boolean e && block_fits program some.procedure then_block)
        × IsTrue (block_fits program some.procedure else_block)
    parts = and_parts (has_base program some.procedure Boolean e && block_fits program some.procedure then_block)
        (block_fits program some.procedure else_block) (fits-at s (Placed at (If e then_block else_block)) is some)

    pub yes-fits : FitsSome (λ procedure. block_fits program procedure then_block)
    yes-fits = record {
      procedure = some.procedure;
      fits = (and_parts (has_base program some.procedure Boolean e) (block_fits program some.procedure then_block) parts.0).1;
    }

    pub no-fits : FitsSome (λ procedure. block_fits program procedure else_block)
    no-fits = record { procedure = some.procedure; fits = parts.1 }

  pub body-fits : (s : S.Statement) (at loop : ℕ) (e : Expression) (body : Block) → statement_of s ≡ Placed at (While loop e body)
      → FitsSome (λ procedure. statement_fits program procedure (statement_of s)) → FitsSome (λ procedure. block_fits program procedure body)
  body-fits s at loop e body is some = record {
    procedure = some.procedure;
    fits = (and_parts (has_base program some.procedure Boolean e) (block_fits program some.procedure body) (fits-at s (Placed at (While loop e body)) is some)).1;
  }

  module _ (s : S.Statement) (at : ℕ) (block : Block) (handlers : Handlers) (is : statement_of s ≡ Placed at (Try block handlers))
      (some : FitsSome (λ procedure. statement_fits program procedure (statement_of s))) where
    pub tried-fits : FitsSome (λ procedure. block_fits program procedure block)
    tried-fits = record {
      procedure = some.procedure;
      fits = (and_parts (block_fits program some.procedure block) (handlers_fit program some.procedure handlers) (fits-at s (Placed at (Try block handlers)) is some)).0;
    }

    pub handlers-fit : FitsSome (λ procedure. handlers_fit program procedure handlers)
    handlers-fit = record {
      procedure = some.procedure;
      fits = (and_parts (block_fits program some.procedure block) (handlers_fit program some.procedure handlers) (fits-at s (Placed at (Try block handlers)) is some)).1;
    }

  pub nested-fits : (s : S.Statement) (at : ℕ) (block : Block) → statement_of s ≡ Placed at (Nested block)
      → FitsSome (λ procedure. statement_fits program procedure (statement_of s)) → FitsSome (λ procedure. block_fits program procedure block)
  nested-fits s at block is some = record { procedure = some.procedure; fits = fits-at s (Placed at (Nested block)) is some }

  -- one statement of a block, and the body of one handler of several
  statement-at : (procedure : ProcedureEntry) (block : List S.Statement) (i : ℕ) (s : S.Statement) → i < length block → s ≡ get_or block i s
      → block_fits program procedure (block_of block) ≡ true → statement_fits program procedure (statement_of s) ≡ true
  statement-at procedure [] i s inside is fits = absurd (omega (arith, inside))
  statement-at procedure (x ∷ block) zero s inside is fits =
      ap (λ y. statement_fits program procedure (statement_of y)) is
      ∙ (and_parts (statement_fits program procedure (statement_of x)) (block_fits program procedure (block_of block)) fits).0
  statement-at procedure (x ∷ block) (suc i) s inside is fits =
      statement-at procedure block i s (omega (arith, inside)) is
      (and_parts (statement_fits program procedure (statement_of x)) (block_fits program procedure (block_of block)) fits).1

  pub statement-fits : (block : List S.Statement) (i : ℕ) (s : S.Statement) → i < length block → s ≡ get_or block i s
      → FitsSome (λ procedure. block_fits program procedure (block_of block)) → FitsSome (λ procedure. statement_fits program procedure (statement_of s))
  statement-fits block i s inside is some = record { procedure = some.procedure; fits = statement-at some.procedure block i s inside is some.fits }

  handler-at : (procedure : ProcedureEntry) (handlers : List Handler) (i : ℕ) (handler : Handler) → i < length handlers → handler ≡ get_or handlers i handler
      → handlers_fit program procedure (handlers_of handlers) ≡ true → block_fits program procedure (block_of handler.body.items) ≡ true
  handler-at procedure [] i handler inside is fits = absurd (omega (arith, inside))
  handler-at procedure (x ∷ handlers) zero handler inside is fits =
      let some = and_parts (is_exception program x.exception && block_fits program procedure (block_of x.body.items)) (handlers_fit program procedure (handlers_of handlers)) fits in
      ap (λ (y : Handler). block_fits program procedure (block_of y.body.items)) is
      ∙ (and_parts (is_exception program x.exception) (block_fits program procedure (block_of x.body.items)) some.0).1
  handler-at procedure (x ∷ handlers) (suc i) handler inside is fits =
      handler-at procedure handlers i handler (omega (arith, inside)) is
      (and_parts (is_exception program x.exception && block_fits program procedure (block_of x.body.items)) (handlers_fit program procedure (handlers_of handlers)) fits).1

  pub handler-fits : (handlers : List Handler) (i : ℕ) (handler : Handler) (body : List S.Statement) → i < length handlers → handler ≡ get_or handlers i handler
      → body ≡ handler.body.items → FitsSome (λ procedure. handlers_fit program procedure (handlers_of handlers)) → FitsSome (λ procedure. block_fits program procedure (block_of body))
  handler-fits handlers i handler body inside is lent some = record {
    procedure = some.procedure;
    fits = subst (λ list. IsTrue (block_fits program some.procedure (block_of list))) (sym lent) (handler-at some.procedure handlers i handler inside is some.fits);
  }

  -- declared exceptions
  pub declared-inside : (labels : List Label) (throws : List Thrown) → throws_fit program (map (thrown_entry labels) throws) ≡ true
      → AreThrownInside (BUILT_IN + length program.exceptions) throws
  declared-inside labels [] fit = All-nil (λ (declared : Thrown). declared.exception < BUILT_IN + length program.exceptions)
  declared-inside labels (declared ∷ rest) fit =
      let bound : ℕ = BUILT_IN + length program.exceptions in
      let named = not (list_any (λ (other : ThrownEntry). other.exception == declared.exception) (map (thrown_entry labels) rest)) in
      let last = and_parts (is_exception program declared.exception && label_fits program.hierarchy (label_at labels declared.label) && named) (throws_fit program (map (thrown_entry labels) rest)) fit in
      let two = and_parts (is_exception program declared.exception && label_fits program.hierarchy (label_at labels declared.label)) named last.0 in
      let one = and_parts (is_exception program declared.exception) (label_fits program.hierarchy (label_at labels declared.label)) two.0 in
      All-cons (λ (d : Thrown). d.exception < bound) declared rest (ltb-true declared.exception bound one.0) (declared-inside labels rest last.1)

  procedure-at : (entry : Procedure → ProcedureEntry) (procedures : List Procedure) (i : ℕ) (procedure : Procedure)
      → i < length procedures → procedure ≡ get_or procedures i procedure
      → list_all (procedure_fits program) (map entry procedures) ≡ true → procedure_fits program (entry procedure) ≡ true
  procedure-at entry [] i procedure inside is fits = absurd (omega (arith, inside))
  procedure-at entry (x ∷ procedures) zero procedure inside is fits =
      ap (λ y. procedure_fits program (entry y)) is
      ∙ (and_parts (procedure_fits program (entry x)) (list_all (procedure_fits program) (map entry procedures)) fits).0
  procedure-at entry (x ∷ procedures) (suc i) procedure inside is fits =
      procedure-at entry procedures i procedure (omega (arith, inside)) is
      (and_parts (procedure_fits program (entry x)) (list_all (procedure_fits program) (map entry procedures)) fits).1

-- the procedures of a program that is well-formed
module _ (core : Core) (i : ℕ) (procedure : Procedure) (inside : i < length core.procedures.items) (is : procedure ≡ get_or core.procedures.items i procedure) where
  pub procedure-fits : IsTrue (procedure_fits (program_of core) (procedure_entry core.labels procedure))
  procedure-fits =
      procedure-at (program_of core) (procedure_entry core.labels) core.procedures.items i procedure inside is (program_parts (program_of core) core.well_formed).procedures_fit

  pub thrown-inside : AreThrownInside (exception_count core) procedure.throws.items
  thrown-inside = declared-inside (program_of core) core.labels procedure.throws.items (procedure_parts (program_of core) (procedure_entry core.labels procedure) procedure-fits).throws_are

-- the body of a procedure, which may be lent
pub lent-body-fits : (core : Core) (procedure : Procedure) (body : List S.Statement) → body ≡ procedure.body.items
    → IsTrue (procedure_fits (program_of core) (procedure_entry core.labels procedure)) → BlockFits core body
lent-body-fits core procedure body lent fits = record {
  procedure = procedure_entry core.labels procedure;
  fits = subst (λ list. IsTrue (block_fits (program_of core) (procedure_entry core.labels procedure) (block_of list))) (sym lent)
      (procedure_parts (program_of core) (procedure_entry core.labels procedure) fits).body_fits;
}

pub counted : (core : Core) → exception_count core ≡ BUILT_IN + length core.exceptions.items
counted core = ap (λ n. BUILT_IN + n) (length-map core.exceptions.items string_bytes)
