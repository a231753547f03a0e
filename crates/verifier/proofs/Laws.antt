-- A table that keeps every edge has every list that the flow may give.
use Rattle.common.specs.Functions.{updated}
use Rattle.std.proofs.Common.{◌≡◌, ◌≢◌, ◌⊎◌, inl, inr, ℕ, ◌==◌, Bool, true, false, if◌then◌else◌, List, [], ◌∷◌, Option, Some, None, refl, sym, ap, ◌∙◌, subst, arith}
use Rattle.std.proofs.lemmas.Bool.Decides.{nat_tests}
use Rattle.std.proofs.lemmas.Bool.{eqb-true, cases_eq}
use Rattle.modules.specs.Contents.{ProcedureContents, ModuleContents}
use Rattle.modules.specs.Code.{code_length, instruction_at}
use Rattle.common.specs.declared.base_type.BaseType.{BaseType}
use Rattle.modules.specs.declared.instruction.Instruction.{Instruction}
use Rattle.verifier.specs.declared.fault.CodeRefusalKind.{CodeRefusalKind}
use Rattle.verifier.specs.Flow.{Edge, Flow, starts, grows, effect, Misses, IsRefusedForOperands, misses, meets, falls, FlowsWell, between}
use Rattle.verifier.specs.SignatureParts.{nowhere}
use Rattle.common.specs.declared.base_type.BaseType.TheVariants.{Int, Boolean}
use Rattle.verifier.specs.declared.fault.CodeRefusalKind.TheVariants.{FallsOffEnd}

-- a table that is finished: it has the start, keeps every edge, each of its instructions finds its operands, and none is at the end
pub record IsFinished (m : ModuleContents) (p : ProcedureContents) (table : ℕ → Option (List BaseType)) : Type 0 where
  pub first : table 0 ≡ Some []
  pub finds : (at : ℕ) (kinds : List BaseType) (i : Instruction) (wrong : CodeRefusalKind) → table at ≡ Some kinds → instruction_at p.code at ≡ Some i → effect m p i kinds ≡ Misses wrong → ⊥
  pub keeps : (at : ℕ) (kinds : List BaseType) (to : ℕ) (after : List BaseType) → table at ≡ Some kinds → Edge m p at kinds to after → table to ≡ Some after
  pub none_at_end : table (code_length p.code) ≡ None

pub same_self : (a : ℕ) → a == a ≡ true
same_self a = grind (arith, nat_tests)

-- a changed table has the new list or an old one
pub changed_cases : (table : ℕ → Option (List BaseType)) (to : ℕ) (after : List BaseType) (at : ℕ) (kinds : List BaseType) → updated table to (Some after) at ≡ Some kinds → ((at ≡ to) × (after ≡ kinds)) ⊎ (table at ≡ Some kinds)
changed_cases table to after at kinds e = split (at == to) refl e
  where
    split : (b : Bool) → at == to ≡ b → (if b then Some after else table at) ≡ Some kinds → ((at ≡ to) × (after ≡ kinds)) ⊎ (table at ≡ Some kinds)
    split true t e = inl (eqb-true at to t, (cc))
    split false f e = inr e

pub changed_at : (table : ℕ → Option (List BaseType)) (to : ℕ) (after : List BaseType) → updated table to (Some after) to ≡ Some after
changed_at table to after = ap (λ (b : Bool). if b then Some after else table to) (same_self to)

pub flow_within : (m : ModuleContents) (p : ProcedureContents) (finished table : ℕ → Option (List BaseType)) → IsFinished m p finished → Flow m p table → (at : ℕ) (kinds : List BaseType) → table at ≡ Some kinds → finished at ≡ Some kinds
flow_within m p finished _ d starts at kinds e =
    elim (changed_cases nowhere 0 [] at kinds e) [
      | inl h ↦ subst (λ a. finished a ≡ Some kinds) (sym h.0) (d.first ∙ ap Some h.1)
      | inr h ↦ absurd (let no : ◌≡◌ {A = Option (List BaseType)} None (Some kinds) = h in cc)
    ]
flow_within m p finished _ d (grows table from before to after f has edge none) at kinds e =
    elim (changed_cases table to after at kinds e) [
      | inl h ↦ subst (λ a. finished a ≡ Some kinds) (sym h.0) (d.keeps from before to after (flow_within m p finished table d f from before has) edge ∙ ap Some h.1)
      | inr h ↦ flow_within m p finished table d f at kinds h
    ]

pub flows_well : (m : ModuleContents) (p : ProcedureContents) (finished : ℕ → Option (List BaseType)) → IsFinished m p finished → FlowsWell m p
flows_well m p finished d offset kind wrong = none offset kind wrong
  where
    none : (offset : ℕ) (kind : CodeRefusalKind) → IsRefusedForOperands m p offset kind → ⊥
    none _ _ (misses table at kinds i wrong f has is e) = d.finds at kinds i wrong (flow_within m p finished table d f at kinds has) is e
    none _ _ (meets table at kinds to after others f has edge inside there ne) =
        let a = flow_within m p finished table d f at kinds has in
        let b : finished to ≡ Some after = d.keeps at kinds to after a edge in
        let c : finished to ≡ Some others = flow_within m p finished table d f to others there in
        ne (let same : Some after ≡ Some others = sym b ∙ c in cc)
    none _ _ (falls table kinds f has) =
        let a : finished (code_length p.code) ≡ Some kinds = flow_within m p finished table d f (code_length p.code) kinds has in
        absurd (let no : None ≡ Some kinds = sym d.none_at_end ∙ a in cc)

-- ---- where no rule refuses, each list that comes along edges stands in a table of the flow

kind_cases : (a b : BaseType) → (a ≡ b) ⊎ (a ≢ b)
kind_cases Int Int = inl refl
kind_cases Int Boolean = inr (λ e. cc)
kind_cases Boolean Int = inr (λ e. cc)
kind_cases Boolean Boolean = inl refl

pub same_or_not : (a b : List BaseType) → (a ≡ b) ⊎ (a ≢ b)
same_or_not [] [] = inl refl
same_or_not [] (k ∷ b) = inr (λ e. let no : ◌≡◌ {A = List BaseType} [] (k ∷ b) = e in cc)
same_or_not (k ∷ a) [] = inr (λ e. let no : ◌≡◌ {A = List BaseType} (k ∷ a) [] = e in cc)
same_or_not (k ∷ a) (l ∷ b) =
    elim (kind_cases k l) [
      | inr ne ↦ inr (λ e. ne (let h : ◌≡◌ {A = List BaseType} (k ∷ a) (l ∷ b) = e in cc))
      | inl same ↦ elim (same_or_not a b) [
        | inr ne ↦ inr (λ e. ne (let h : ◌≡◌ {A = List BaseType} (k ∷ a) (l ∷ b) = e in cc))
        | inl rest ↦ inl (cc)
      ]
    ]

pub record IsInFlow (m : ModuleContents) (p : ProcedureContents) (at : ℕ) (kinds : List BaseType) : Type 0 where
  pub table : ℕ → Option (List BaseType)
  pub flow : Flow m p table
  pub has : table at ≡ Some kinds

-- the start is in a flow
pub start_in_flow : (m : ModuleContents) (p : ProcedureContents) → IsInFlow m p 0 []
start_in_flow m p = record { table = updated nowhere 0 (Some []); flow = starts; has = changed_at nowhere 0 [] }

-- and so is what an edge leads to
pub along_in_flow : (m : ModuleContents) (p : ProcedureContents) → FlowsWell m p → (at : ℕ) (kinds : List BaseType) (to : ℕ) (after : List BaseType) → IsInFlow m p at kinds → Edge m p at kinds to after → IsInFlow m p to after
along_in_flow m p free at kinds to after h edge = cases (h.table to) refl
  where
    cases : (o : Option (List BaseType)) → h.table to ≡ o → IsInFlow m p to after
    cases None e = record { table = updated h.table to (Some after); flow = grows h.table at kinds to after h.flow h.has edge e; has = changed_at h.table to after }
    cases (Some others) e =
        elim (same_or_not after others) [
          | inl same ↦ record { table = h.table; flow = h.flow; has = e ∙ ap Some (sym same) }
          | inr ne ↦ elim (cases_eq to (code_length p.code)) [
            | inl ends ↦ absurd (free (code_length p.code) FallsOffEnd (falls h.table others h.flow (ap h.table (sym ends) ∙ e)))
            | inr inside ↦ absurd (free to (between after others) (meets h.table at kinds to after others h.flow h.has edge inside e ne))
          ]
        ]

-- so an instruction finds its operands, and control does not come to the end
pub flow_finds : (m : ModuleContents) (p : ProcedureContents) → FlowsWell m p → (at : ℕ) (kinds : List BaseType) (i : Instruction) (wrong : CodeRefusalKind) → IsInFlow m p at kinds → instruction_at p.code at ≡ Some i → effect m p i kinds ≡ Misses wrong → ⊥
flow_finds m p free at kinds i wrong h is e = free at wrong (misses h.table at kinds i wrong h.flow h.has is e)

pub flow_stays : (m : ModuleContents) (p : ProcedureContents) → FlowsWell m p → (kinds : List BaseType) → IsInFlow m p (code_length p.code) kinds → ⊥
flow_stays m p free kinds h = free (code_length p.code) FallsOffEnd (falls h.table kinds h.flow h.has)
