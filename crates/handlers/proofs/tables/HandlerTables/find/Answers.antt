use Rattle.std.proofs.Common.{◌≡◌, ◌-◌, ℕ, [], List, Option, length, take, drop, slice_index_or, sym, ap, ◌∙◌, arith}
use Rattle.modules.specs.declared.declaration.Handler.{Handler}
use Rattle.handlers.specs.Procedures.{arranged}
use Rattle.handlers.specs.Targets.{target_in}
use Rattle.handlers.specs.declared.entries.TableEntry.{TableEntry}
use Rattle.handlers.proofs.Few.{entries_at, within_at}
use Rattle.handlers.proofs.Laying.{arranged_finds}
use Rattle.handlers.proofs.tables.HandlerTables.find.Goals as goal

pub range_of-requires-clause-ordered : goal.range_of-requires-clause-ordered
range_of-requires-clause-ordered c =
    let at = c.in_ok-start.ensures.lookup in
    (within_at c.self.inside.few.items c.self.inside.procedures.items c.deref.result.now c.args.procedure c.in_ok-start.field-0.now c.deref.ensures.value at.3.0 at.1
    c.in-Few.start c.in-Few.end c.in-Few.is c.self.invariant).0

pub range_of-requires-clause-within : goal.range_of-requires-clause-within
range_of-requires-clause-within c =
    let at = c.in_ok-start.ensures.lookup in
    let within = within_at c.self.inside.few.items c.self.inside.procedures.items c.deref.result.now c.args.procedure c.in_ok-start.field-0.now c.deref.ensures.value at.3.0 at.1
    c.in-Few.start c.in-Few.end c.in-Few.is c.self.invariant in
    omega (arith, within.1, ap length c.deref-in-Few.ensures.value)

pub returns-in-Few : goal.returns-in-Few
returns-in-Few c =
    let at = c.in_ok-start.ensures.lookup in
    let few = c.self.inside.few.items in
    let range : c.range_of.result.now ≡ take (c.in-Few.end - c.in-Few.start) (drop c.in-Few.start few) =
    c.range_of.ensures ∙ ap (λ (hs : List Handler). take (c.in-Few.end - c.in-Few.start) (drop c.in-Few.start hs)) c.deref-in-Few.ensures.value in
    let entries : slice_index_or c.args.self.now c.args.procedure [] ≡ arranged c.range_of.result.now =
    ap (λ (tables : List (List TableEntry)). slice_index_or tables c.args.procedure []) (sym c.self.view_is)
    ∙ entries_at few c.self.inside.procedures.items c.deref.result.now c.args.procedure c.in_ok-start.field-0.now c.deref.ensures.value at.3.0 at.1
    c.in-Few.start c.in-Few.end c.in-Few.is ∙ ap arranged (sym range) in
    c.first_target.ensures
    ∙ ap (λ (f : ℕ → ℕ → Option ℕ). f c.args.offset c.args.exception) (sym (arranged_finds c.range_of.result.now))
    ∙ ap (λ (es : List TableEntry). target_in es c.args.offset c.args.exception) (sym entries)
