-- What the verifier reports.
use Rattle.std.proofs.Common.{◌≡◌, inl, inr, ℕ, zero, suc, ◌+◌, ◌<◌, List, [], ◌∷◌, ◌++◌, length, get_or, slice_get, Some, None, sym, ap, ◌∙◌, subst, arith}
use Rattle.modules.specs.Contents.{ProcedureContents, ModuleContents}
use Rattle.verifier.specs.Refusals.{IsNotRefused, IsOperandRefusal, IsCodeRefusal, IsCodeRefusalAfter}
use Rattle.verifier.specs.Fixed.{fixed_refusals}
use Rattle.verifier.specs.Flow.{FlowsWell, IsRefusedForOperands}
use Rattle.verifier.specs.declared.fault.CodeRefusal.{CodeRefusal}
use Rattle.std.proofs.lemmas.List.{append-nil, append_assoc, get_or_append_left}
use Rattle.std.proofs.lemmas.Option.{slice_get-get_or}
use Rattle.std.proofs.Math.Seq.{get_or-append_seam}
use Rattle.verifier.specs.Depth.{IsGreatestDepth}
use Rattle.verifier.specs.Positions.{positioned}
use Rattle.verifier.specs.declared.positions.Code.{Code}
use Rattle.modules.specs.declared.instruction.Instruction.{Instruction}
use Rattle.verifier.specs.Verified.{IsOperandRefusalOf, IsVerified, IsVerifiedCode}
use Rattle.verifier.proofs.Bounds.{IsBounded}
use Rattle.verifier.proofs.NeverStuck.{never_stuck}
use Rattle.common.proofs.Cases.{last_cases}

-- where a refusal is answered a rule is broken
pub excluded : (m : ModuleContents) (refusal : CodeRefusal) → IsCodeRefusal m refusal → IsNotRefused m → ⊥
excluded m refusal reported free = free.flow refusal (subst (λ (refusals : List CodeRefusal). IsCodeRefusalAfter m refusals refusal) free.fixed reported)

-- the first fixed refusal may be reported, and one of the flow where there is no fixed one
pub reported_first : (m : ModuleContents) (refusal : CodeRefusal) → Some refusal ≡ slice_get (fixed_refusals m) 0 → IsCodeRefusal m refusal
reported_first m refusal e = split (fixed_refusals m) e
  where
    split : (refusals : List CodeRefusal) → Some refusal ≡ slice_get refusals 0 → IsCodeRefusalAfter m refusals refusal
    split [] e = absurd (let no : Some refusal ≡ None = e in cc)
    split (x ∷ refusals) e = cc

pub reported_flow : (m : ModuleContents) (refusal : CodeRefusal) → fixed_refusals m ≡ [] → IsOperandRefusal m refusal → IsCodeRefusal m refusal
reported_flow m refusal none e = subst (λ (refusals : List CodeRefusal). IsCodeRefusalAfter m refusals refusal) (sym none) e

pub there_inside : (all : List ProcedureContents) (k : ℕ) (p : ProcedureContents) → slice_get all k ≡ Some p → k < length all
there_inside [] k p e = absurd (let no : None ≡ Some p = e in cc)
there_inside (x ∷ all) zero p e = omega arith
there_inside (x ∷ all) (suc k) p e = omega (arith, there_inside all k p e)

-- each procedure flows well
pub all_flow : (m : ModuleContents) → fixed_refusals m ≡ [] → ((k : ℕ) (p : ProcedureContents) → k < length m.procedures → slice_get m.procedures k ≡ Some p → FlowsWell m p) → IsNotRefused m
all_flow m none flow = record {
  fixed = none;
  flow = λ refusal there. flow refusal.procedure there.procedure (there_inside m.procedures refusal.procedure there.procedure there.there) there.there refusal.offset refusal.kind there.kind;
}

-- ---- the loop over procedures

pub item_at : (m : ModuleContents) (procedures : List ProcedureContents) → procedures ≡ m.procedures → (index : ℕ) (item : ProcedureContents) → item ≡ get_or procedures index item → index < length procedures → slice_get m.procedures index ≡ Some item
item_at m procedures are index item is inside = ap (λ all. slice_get all index) (sym are) ∙ slice_get-get_or procedures index item inside ∙ ap Some (sym is)

pub is_verified : (m : ModuleContents) → IsBounded m → IsNotRefused m → IsVerified m
is_verified m bounds free = record { not_refused = free; never_stuck = never_stuck m bounds free }

module _ (m : ModuleContents) (procedures : List ProcedureContents) (are : procedures ≡ m.procedures) (index : ℕ) (item body : ProcedureContents) (is : item ≡ get_or procedures index item) (same : body ≡ item) (inside : index < length procedures) where
  pub item_there : slice_get m.procedures index ≡ Some body
  item_there = ap (λ all. slice_get all index) (sym are) ∙ slice_get-get_or procedures index item inside ∙ ap Some (sym is ∙ sym same)

  pub item_refusal : (q : ModuleContents) (number : ℕ) (refusal : CodeRefusal) → q ≡ m → number ≡ index → IsOperandRefusalOf q number body refusal → IsOperandRefusal m refusal
  item_refusal q number refusal same_module number_is e = record {
    procedure = body;
    there = ap (slice_get m.procedures) (e.procedure ∙ number_is) ∙ item_there;
    kind = subst (λ (x : ModuleContents). IsRefusedForOperands x body refusal.offset refusal.kind) same_module e.kind;
  }

  pub flow_more : (q : ModuleContents) → q ≡ m → FlowsWell q body → ((k : ℕ) (p : ProcedureContents) → k < index → slice_get procedures k ≡ Some p → FlowsWell m p) → (k : ℕ) (p : ProcedureContents) → k < index + 1 → slice_get procedures k ≡ Some p → FlowsWell m p
  flow_more q same_module flow before k p below there =
      elim (last_cases k index below) [
        | inl less ↦ before k p less there
        | inr last ↦
            let found : Some body ≡ Some p = sym item_there ∙ ap (λ all. slice_get all index) (sym are) ∙ ap (slice_get procedures) (sym last) ∙ there in
            let body_is : body ≡ p = cc in
            subst (λ (x : ProcedureContents). FlowsWell m x) body_is (subst (λ (x : ModuleContents). FlowsWell x body) same_module flow)
      ]

  -- one more code
  pub code_more : (q : ModuleContents) → q ≡ m → (codes new : List Code) (placed more : List Instruction) (code : Code) → length codes ≡ index → new ≡ codes ++ code ∷ [] → more ≡ placed ++ positioned body.code → code.start ≡ length placed → IsGreatestDepth q body code.greatest_depth → ((k : ℕ) (p : ProcedureContents) (d : Code) → k < index → slice_get procedures k ≡ Some p → IsVerifiedCode m p placed (get_or codes k d)) → (k : ℕ) (p : ProcedureContents) (d : Code) → k < index + 1 → slice_get procedures k ≡ Some p → IsVerifiedCode m p more (get_or new k d)
  code_more q same_module codes new placed more code long pushed added start depth earlier k p d below there =
      subst (λ (cs : List Code). IsVerifiedCode m p more (get_or cs k d)) (sym pushed) (elim (last_cases k index below) [
        | inl less ↦
            let c = earlier k p d less there in
            subst (IsVerifiedCode m p more) (sym (get_or_append_left codes (code ∷ []) d k (omega (arith, long, less)))) (record {
              before = c.before;
              after = c.after ++ positioned body.code;
              there = added ∙ ap (λ l. l ++ positioned body.code) c.there ∙ append_assoc (c.before ++ positioned p.code) c.after (positioned body.code);
              start = c.start;
              depth = c.depth;
            })
        | inr last ↦
            let found : Some body ≡ Some p = sym item_there ∙ ap (λ all. slice_get all index) (sym are) ∙ ap (slice_get procedures) (sym last) ∙ there in
            let body_is : body ≡ p = cc in
            let at : get_or (codes ++ code ∷ []) k d ≡ code = ap (λ (j : ℕ). get_or (codes ++ code ∷ []) j d) (last ∙ sym long) ∙ get_or-append_seam codes code [] d in
            subst (IsVerifiedCode m p more) (sym at) (subst (λ (x : ProcedureContents). IsVerifiedCode m x more code) body_is (record {
              before = placed;
              after = [];
              there = added ∙ sym (append-nil (placed ++ positioned body.code));
              start = start;
              depth = subst (λ (x : ModuleContents). IsGreatestDepth x body code.greatest_depth) same_module depth;
            }))
      ])
