use Rattle.std.proofs.Common.{◌++◌, ◌∷◌, [], map, sym, ap, ◌∙◌, subst, arith}
use Rattle.handlers.specs.Procedures.{AreWithin}
use Rattle.handlers.specs.Targets.{target_in}
use Rattle.handlers.specs.declared.tables.ProcedureHandlers.TheVariants.{Many}
use Rattle.modules.specs.Machine.{handler_for}
use Rattle.handlers.proofs.Few.{few_added, few_within, grown_within, targets, within_more}
use Rattle.handlers.proofs.tables.HandlerTables.add.Goals as goal

pub invariant_of-self-then-handlers-gt-FEW : goal.invariant_of-self-then-handlers-gt-FEW
invariant_of-self-then-handlers-gt-FEW c =
    subst (AreWithin c.self.inside.few.items) (sym c.in_ok-push.ensures.items)
    (within_more c.self.inside.few.items c.self.inside.procedures.items (Many c.in_ok-table.table) c.self.invariant tt)

pub invariant_of-self-in_err-push-2 : goal.invariant_of-self-in_err-push-2
invariant_of-self-in_err-push-2 c =
    subst (AreWithin c.extend_from_slice.new.self.items) (sym c.in_err-push-2.ensures.items)
    (grown_within c.self.inside.few.items c.args.handlers.now c.extend_from_slice.new.self.items c.in_ok-extend_from_slice.ensures.items c.self.inside.procedures.items c.self.invariant)

pub invariant_of-self-2 : goal.invariant_of-self-2
invariant_of-self-2 c =
    subst (AreWithin c.extend_from_slice.new.self.items) (sym c.in_ok-push-2.ensures.items)
    (few_within c.self.inside.few.items c.args.handlers.now c.extend_from_slice.new.self.items c.in_ok-extend_from_slice.ensures.items c.self.inside.procedures.items c.self.invariant
    c.len-start.result c.len.result (omega (arith, c.len-start.ensures, c.self.inside.few.ok)) (omega (arith, c.len.ensures, c.extend_from_slice.new.self.ok)))

pub returns : goal.returns
returns c =
    ap (targets c.extend_from_slice.new.self.items) c.in_ok-push-2.ensures.items
    ∙ few_added c.self.inside.few.items c.args.handlers.now c.extend_from_slice.new.self.items c.in_ok-extend_from_slice.ensures.items c.self.inside.procedures.items c.self.invariant
    c.len-start.result c.len.result (omega (arith, c.len-start.ensures, c.self.inside.few.ok)) (omega (arith, c.len.ensures, c.extend_from_slice.new.self.ok))
    ∙ ap (λ entries. map target_in entries ++ handler_for c.args.handlers.now ∷ []) c.self.view_is
