use Rattle.std.proofs.Common.{◌≡◌, ◌∙◌, ap, sym, subst, IsTrue, arith}
use Rattle.std.proofs.lemmas.Result.{IfOk-at_ok}
use Rattle.principals.specs.ActsFor.{PrincipalHierarchy}
use Rattle.common.specs.declared.limits.TheConstants.{MAX_TEXT}
use Rattle.syntax.specs.Tree.{program_tree}
use Rattle.syntax.specs.Written.{Anywhere, IsNameWithin}
use Rattle.resolved.specs.Program.{Program}
use Rattle.resolved.specs.ProgramOf.{program_from}
use Rattle.resolved.specs.WellFormed.{well_formed}
use Rattle.types.specs.Views.{program_with, tables_view}
use Rattle.types.proofs.WellFormedPrograms.{resolution_keeps}
use Rattle.types.proofs.program.resolve.Goals as goal

pub resolve_tables-requires-clause-written : goal.resolve_tables-requires-clause-written
resolve_tables-requires-clause-written c = rw c.items.ensures.same c.requires.of_text.written

pub resolve_tables-requires-clause-room : goal.resolve_tables-requires-clause-room
resolve_tables-requires-clause-room c = rw c.items.ensures.same (omega (arith, c.requires.of_text.few))

pub invariant_of-result : goal.invariant_of-result
invariant_of-result c =
    let e = rw c.items.ensures.same at c.in_ok-tables.ensures in
    let fits = resolution_keeps Anywhere (IsNameWithin MAX_TEXT) c.args.hierarchy.now (program_tree c.args.program) c.count.ensures.kept c.requires.of_text.written c.requires.of_text.few in
    let tables = c.in_ok-tables.tables in
    let main = c.in_ok-tables.main in
    let globals = c.into_tables-labels.result.1.items in
    let same : program_with c.in_ok-clone.field-0 (tables_view tables) main ≡ program_from c.in_ok-clone.field-0 c.into_tables-labels.result.0 tables.channels.items tables.exceptions.items globals tables.procedures.items main =
    (λ i. record (program_with c.in_ok-clone.field-0 (tables_view tables) main) { globals = sym c.into_tables-labels.ensures.globals i })
    ∙ ap (λ labels. program_from c.in_ok-clone.field-0 labels tables.channels.items tables.exceptions.items globals tables.procedures.items main) (sym c.into_tables-labels.ensures.labels) in
    record {
      well_formed =
          subst (λ (program : Program). IsTrue (well_formed program)) same
          (subst (λ (h : PrincipalHierarchy). IsTrue (well_formed (program_with h (tables_view tables) main))) (sym c.in_ok-clone.ensures.cases)
          (IfOk-at_ok (λ (program : Program). IsTrue (well_formed program)) e fits));
    }
