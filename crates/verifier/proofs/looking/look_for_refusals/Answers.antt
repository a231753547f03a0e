use Rattle.std.proofs.lemmas.Result.{err_from_is_err_and}
use Rattle.common.specs.Answers.{IfRefused}
use Rattle.common.specs.declared.fault.OrNoMemory.{OrNoMemory}
use Rattle.common.specs.declared.fault.OrNoMemory.TheVariants.{NoMemory, Refused}
use Rattle.modules.specs.Contents.{ModuleContents}
use Rattle.verifier.specs.Refusals.{IsCodeRefusal}
use Rattle.verifier.specs.Verified.{own_refusals}
use Rattle.std.proofs.lemmas.List.{length_push}
use Rattle.std.proofs.Common.{rules, ◌≡◌, ◌+◌, ◌<◌, ◌^◌, refl, get_or, drop, [], ℕ, Some, None, slice_get, length, arith, ap, sym, subst, ◌∙◌, ◌++◌, ◌∷◌, List, Option, ◌⊎◌, inl, inr}
use Rattle.std.specs.Prelude.{IfNone, IfSome}
use Rattle.modules.specs.Code.{code_length}
use Rattle.modules.specs.declared.instruction.Instruction.{Instruction}
use Rattle.verifier.specs.Index.{index_of}
use Rattle.modules.specs.Contents.{ProcedureContents}
use Rattle.verifier.specs.Fixed.{fixed_refusals, procedure_refusals}
use Rattle.verifier.specs.Verified.{FlowsOn, IsOperandRefusalOf}
use Rattle.verifier.specs.declared.fault.CodeRefusal.{CodeRefusal}
use Rattle.verifier.proofs.Reported.{item_at, item_refusal, flow_more, code_more, there_inside, all_flow, is_verified, reported_first, reported_flow}
use Rattle.verifier.proofs.Bounds.{bounded}
use Rattle.verifier.proofs.FixedRefusals.{boundaries, own_right, none_left, procedure_some, procedure_none}
use Rattle.verifier.proofs.Positioned.{indexes_more, all_indexes}
use Rattle.verifier.proofs.looking.look_for_refusals.Goals as goal

pub of-requires : goal.of-requires
of-requires c =
    subst (λ (code : List Instruction). code_length code < 2 ^ 32) (sym c.code.ensures)
    ((bounded c.args.program.now c.procedures-procedures.ensures.spelled).short c.loop-procedure.procedure-index c.procedure-item.result
    (item_at c.args.program.now c.procedures-procedures.result.now c.procedures-procedures.ensures.procedures c.loop-procedure.procedure-index c.procedure-item.result c.procedure-item.is c.loop-procedure-test.true))

pub new-body-requires-clause-short : goal.new-body-requires-clause-short
new-body-requires-clause-short c =
    (bounded c.args.program.now c.procedures-procedures.ensures.spelled).short c.loop-procedure.procedure-index c.procedure-item.result
    (item_at c.args.program.now c.procedures-procedures.result.now c.procedures-procedures.ensures.procedures c.loop-procedure.procedure-index c.procedure-item.result c.procedure-item.is c.loop-procedure-test.true)

pub overflow_add-number : goal.overflow_add-number
overflow_add-number c = omega (arith, c.loop-procedure.invariant.number_is, c.loop-procedure-test.true, ap length c.procedures-procedures.ensures.procedures, (bounded c.args.program.now c.procedures-procedures.ensures.spelled).few)

pub look_for_flow_refusal-requires-clause-few : goal.look_for_flow_refusal-requires-clause-few
look_for_flow_refusal-requires-clause-few c =
    subst (λ (p : ProcedureContents). length p.handlers < 2 ^ 32) (sym (c.new-body.ensures.procedure))
    ((bounded c.args.program.now c.procedures-procedures.ensures.spelled).handled c.loop-procedure.procedure-index c.procedure-item.result
    (item_at c.args.program.now c.procedures-procedures.result.now c.procedures-procedures.ensures.procedures c.loop-procedure.procedure-index c.procedure-item.result c.procedure-item.is c.loop-procedure-test.true))

pub look_for_flow_refusal-requires-clause-boundaries : goal.look_for_flow_refusal-requires-clause-boundaries
look_for_flow_refusal-requires-clause-boundaries c =
    boundaries c.new-body.result.program.now c.new-body.result.procedure.now
    (own_right c.new-body.result.program.now c.loop-procedure.number c.new-body.result.procedure.now (sym c.in_ok-place_code.ensures.right))

-- a procedure that is refused by itself makes its module refused
module _ (m q : ModuleContents) (number index : ℕ) (procedures : List ProcedureContents) (item body : ProcedureContents) (same_module : q ≡ m) (same_procedure : body ≡ item) (is : item ≡ get_or procedures index item) (inside : index < length procedures) (are : procedures ≡ m.procedures) (same : slice_get (procedure_refusals m number (drop index procedures)) 0 ≡ slice_get (procedure_refusals m 0 procedures) 0) where
  refused : (fault : OrNoMemory CodeRefusal) → IfRefused (λ refusal. slice_get (own_refusals q number body) 0 ≡ Some refusal) fault → IfRefused (IsCodeRefusal m) fault
  refused NoMemory wrong = tt
  refused (Refused refusal) wrong =
      reported_first m refusal
      (sym (ap (λ (all : List ProcedureContents). slice_get (procedure_refusals m 0 all) 0) (sym are)
      ∙ sym same
      ∙ procedure_some m q number index procedures item body same_module same_procedure is inside (Some refusal) (sym wrong) refusal refl))

pub returns-in_err-place_code-clause-rejected : goal.returns-in_err-place_code-clause-rejected
returns-in_err-place_code-clause-rejected c =
    let l = c.loop-procedure in
    let p = err_from_is_err_and c.from_residual-in_err-place_code.result c.from_residual-in_err-place_code.ensures.1 in
    rw (p.1, p.2) (refused c.args.program.now c.new-body.result.program.now l.number l.procedure-index c.procedures-procedures.result.now c.procedure-item.result c.new-body.result.procedure.now c.new-body.ensures.program c.new-body.ensures.procedure c.procedure-item.is c.loop-procedure-test.true c.procedures-procedures.ensures.procedures l.invariant.same c.in_err-place_code.field-0.0 c.in_err-place_code.ensures.wrong)

pub loop-procedure-preserved : goal.loop-procedure-preserved
loop-procedure-preserved c =
    let m = c.args.program.now in
    let l = c.loop-procedure in
    let b = c.new-body in
    let procedures = c.procedures-procedures.result.now in
    let are = c.procedures-procedures.ensures.procedures in
    let now = c.in_ok-flow in
    let flows : now.flow.0 ≡ None → FlowsOn b.result.program.now b.result.procedure.now l.found now.flow.1 =
    λ e. subst (λ (o : Option CodeRefusal). IfNone o (FlowsOn b.result.program.now b.result.procedure.now l.found now.flow.1)) e now.ensures.none in
    record {
      number_is = omega (arith, l.invariant.number_is);
      same =
          sym (procedure_none m b.result.program.now l.number l.procedure-index procedures c.procedure-item.result b.result.procedure.now b.ensures.program b.ensures.procedure c.procedure-item.is c.loop-procedure-test.true None (sym c.in_ok-place_code.ensures.right) refl)
          ∙ l.invariant.same;
      found = λ refusal e. elim (subst (λ (o : Option CodeRefusal). IfSome o (λ f. (l.found ≡ Some f) ⊎ IsOperandRefusalOf b.result.program.now l.number b.result.procedure.now f)) e now.ensures.some) [
        | inl before ↦ l.invariant.found refusal before
        | inr here ↦ item_refusal m procedures are l.procedure-index c.procedure-item.result b.result.procedure.now c.procedure-item.is b.ensures.procedure c.loop-procedure-test.true b.result.program.now l.number refusal b.ensures.program l.invariant.number_is here
      ];
      flow = λ e. flow_more m procedures are l.procedure-index c.procedure-item.result b.result.procedure.now c.procedure-item.is b.ensures.procedure c.loop-procedure-test.true b.result.program.now b.ensures.program (flows e).flow (l.invariant.flow (flows e).none_before);
      many = ap length c.push_reserved-in-loop-procedure.ensures.items ∙ length_push l.codes.items _ ∙ ap (λ n. n + 1) l.invariant.many;
      codes_count = omega (arith, c.push_reserved-in-loop-procedure.ensures.len, l.invariant.codes_count);
      codes_room = omega (arith, c.push_reserved-in-loop-procedure.ensures.capacity, l.invariant.codes_room);
      indexes_count = omega (arith, c.push_reserved.ensures.len, l.invariant.indexes_count);
      indexes_room = omega (arith, c.push_reserved.ensures.capacity, l.invariant.indexes_room);
      codes_are = λ e. code_more m procedures are l.procedure-index c.procedure-item.result b.result.procedure.now c.procedure-item.is b.ensures.procedure c.loop-procedure-test.true b.result.program.now b.ensures.program
          l.codes.items c.push_reserved-in-loop-procedure.new.self.items l.placed.items c.place_code.new.placed.items _ l.invariant.many c.push_reserved-in-loop-procedure.ensures.items c.in_ok-place_code.ensures.placed (search (rules, c.len-start.ensures)) (flows e).greatest (l.invariant.codes_are (flows e).none_before);
      indexes_are = indexes_more procedures l.indexes.items c.push_reserved.new.self.items l.procedure-index _ b.result.procedure.now c.loop-procedure-test.true l.invariant.indexes_are
          (c.push_reserved.ensures.items ∙ ap (λ (i : List (Option ℕ)). l.indexes.items ++ i ∷ []) (c.in_ok-of.ensures ∙ ap index_of (c.code.ensures ∙ ap (λ (p : ProcedureContents). p.code) (sym b.ensures.procedure)))) (b.ensures.procedure ∙ c.procedure-item.is);
    }

pub returns-in-Some-clause-rejected : goal.returns-in-Some-clause-rejected
returns-in-Some-clause-rejected c =
    let m = c.args.program.now in
    let l = c.loop-procedure in
    let none : fixed_refusals m ≡ [] = none_left m l.number l.procedure-index c.procedures-procedures.result.now c.procedures-procedures.ensures.procedures c.loop-procedure-test.false l.invariant.same in
    reported_flow m c.in-Some.refusal none (l.invariant.found c.in-Some.refusal c.in-Some.is)

pub returns-in-None-clause-accepted : goal.returns-in-None-clause-accepted
returns-in-None-clause-accepted c =
    let m = c.args.program.now in
    let l = c.loop-procedure in
    let are = c.procedures-procedures.ensures.procedures in
    let bounds = bounded m c.procedures-procedures.ensures.spelled in
    let none : fixed_refusals m ≡ [] = none_left m l.number l.procedure-index c.procedures-procedures.result.now are c.loop-procedure-test.false l.invariant.same in
    record {
      many = omega (arith, l.invariant.many, c.loop-procedure-test.false, ap length are, l.auto.procedure-index-end);
      indexes_are = all_indexes m.procedures c.procedures-procedures.result.now l.indexes.items l.procedure-index are c.loop-procedure-test.false l.invariant.indexes_are;
      codes_are = λ k p d there.
          l.invariant.codes_are c.in-None.is k p d (omega (arith, there_inside m.procedures k p there, c.loop-procedure-test.false, ap length are)) (ap (λ (all : List ProcedureContents). slice_get all k) are ∙ there);
      verified = is_verified m bounds (all_flow m none (λ k p below there.
          l.invariant.flow c.in-None.is k p (omega (arith, below, c.loop-procedure-test.false, ap length are)) (ap (λ (all : List ProcedureContents). slice_get all k) are ∙ there)));
    }
