use Rattle.std.proofs.Common.{rules, ◌≡◌, ℕ, ◌+◌, ◌-◌, ◌<◌, ◌≤◌, List, Option, Some, drop, length, slice_get, take, slice_index_or, arith, ap, sym, subst, ◌∙◌}
use Rattle.std.proofs.lemmas.List.{length-map}
use Rattle.std.proofs.lemmas.Option.{slice_get-get_or}
use Rattle.modules.specs.Contents.{ProcedureContents, ModuleContents}
use Rattle.modules.specs.MachineParts.{code_of}
use Rattle.modules.specs.Targets.{renamed_instruction}
use Rattle.modules.specs.declared.instruction.Instruction.{Instruction}
use Rattle.verifier.specs.Positions.{position_of, positioned}
use Rattle.verifier.specs.Verified.{HasCodes, IsVerifiedCode}
use Rattle.verifier.specs.declared.positions.Code.{Code}
use Rattle.verifier.proofs.Positioned.{cut_inside, cut_out}
use Rattle.verifier.proofs.verified.Verified.code.Goals as goal

module _ (m : ModuleContents) (placed : List Instruction) (codes : List Code) (indexes : List (List (Option ℕ))) (h : HasCodes m placed codes indexes) (k : ℕ) (procedures : List ProcedureContents) (are : procedures ≡ m.procedures) (inside : k < length procedures) (p : ProcedureContents) (is : p ≡ slice_index_or procedures k p) (code : Code) (code_is : code ≡ slice_index_or codes k code) (count : ℕ) (counts : count ≡ length p.code) where
  there : slice_get m.procedures k ≡ Some p
  there = ap (λ all. slice_get all k) (sym are) ∙ slice_get-get_or procedures k p inside ∙ ap Some (sym is)

  here : IsVerifiedCode m p placed code
  here = subst (IsVerifiedCode m p placed) (sym code_is) (h.codes_are k p code there)

  as_many : count ≡ length (positioned p.code)
  as_many = omega (arith, counts, length-map p.code (renamed_instruction (position_of p.code)))

  within : code.start + count ≤ length placed
  within = cut_inside placed here.before (positioned p.code) here.after code.start count here.there here.start as_many

  found : take (code.start + count - code.start) (drop code.start placed) ≡ positioned (code_of (slice_get m.procedures k))
  found =
      cut_out placed here.before (positioned p.code) here.after code.start (code.start + count - code.start) here.there here.start (omega (arith, as_many))
      ∙ ap (λ o. positioned (code_of o)) (sym there)

pub overflow_add-result : goal.overflow_add-result
overflow_add-result c =
    let end = within c.self.inside.inner c.self.inside.placed.items c.self.inside.codes.items _ c.self.invariant c.args.procedure c.procedures.result.now c.procedures.ensures.procedures (omega (arith, c.requires, ap length c.procedures.ensures.procedures, ap (λ (m : ModuleContents). length m.procedures) c.self.view_is)) c.index-procedures-procedure.result c.index-procedures-procedure.is c.index.result.now c.index.ensures (length c.code-count.result.now) (ap length c.code-count.ensures) in
    omega (arith, end, ap length c.deref.ensures.value, c.deref.type_inv)

pub offset_bounds-deref-start : goal.offset_bounds-deref-start
offset_bounds-deref-start c =
    let end = within c.self.inside.inner c.self.inside.placed.items c.self.inside.codes.items _ c.self.invariant c.args.procedure c.procedures.result.now c.procedures.ensures.procedures (omega (arith, c.requires, ap length c.procedures.ensures.procedures, ap (λ (m : ModuleContents). length m.procedures) c.self.view_is)) c.index-procedures-procedure.result c.index-procedures-procedure.is c.index.result.now c.index.ensures (length c.code-count.result.now) (ap length c.code-count.ensures) in
    omega (arith, end, ap length c.deref.ensures.value, c.deref.type_inv)

pub slice_bounds-result-end : goal.slice_bounds-result-end
slice_bounds-result-end c =
    let end = within c.self.inside.inner c.self.inside.placed.items c.self.inside.codes.items _ c.self.invariant c.args.procedure c.procedures.result.now c.procedures.ensures.procedures (omega (arith, c.requires, ap length c.procedures.ensures.procedures, ap (λ (m : ModuleContents). length m.procedures) c.self.view_is)) c.index-procedures-procedure.result c.index-procedures-procedure.is c.index.result.now c.index.ensures (length c.code-count.result.now) (ap length c.code-count.ensures) in
    let long = ap length c.deref.ensures.value in
    search (rules, end, long)

pub returns : goal.returns
returns c =
    let k = c.args.procedure in
    ap (λ l. take (c.index.result.now.start + length c.code-count.result.now - c.index.result.now.start) (drop c.index.result.now.start l)) c.deref.ensures.value
    ∙ found c.self.inside.inner c.self.inside.placed.items c.self.inside.codes.items _ c.self.invariant k c.procedures.result.now c.procedures.ensures.procedures (omega (arith, c.requires, ap length c.procedures.ensures.procedures, ap (λ (m : ModuleContents). length m.procedures) c.self.view_is)) c.index-procedures-procedure.result c.index-procedures-procedure.is c.index.result.now c.index.ensures (length c.code-count.result.now) (ap length c.code-count.ensures)
    ∙ ap (λ (m : ModuleContents). positioned (code_of (slice_get m.procedures k))) c.self.view_is
