-- A procedure that is threaded is sound where its own code flows: each position has the same kinds as before, since at an unconditional jump
-- they are those at its target.
use Rattle.std.proofs.Common.{◌≡◌, refl, sym, ap, ◌∙◌, subst, ℕ, zero, suc, ◌+◌, ◌<◌, Bool, true, false, cond, ltb, List, [], ◌∷◌, All, length, map, take, get_or, Option, Some, None, slice_get, arith}
use Rattle.std.specs.Option.{option_map}
use Rattle.std.proofs.lemmas.List.{take-map}
use Rattle.std.proofs.lemmas.Option.{slice_get-map}
use Rattle.modules.specs.Contents.{ProcedureContents, ModuleContents}
use Rattle.modules.specs.declared.declaration.Handler.{Handler}
use Rattle.modules.specs.declared.instruction.Instruction.{Instruction}
use Rattle.modules.specs.declared.instruction.Instruction.TheVariants.{Jump, JumpIfFalse}
use Rattle.common.specs.declared.base_type.BaseType.{BaseType}
use Rattle.modules.specs.Targets.{goes_on, target_of, renamed_instruction}
use Rattle.layout.specs.Graph.{HasPositions}
use Rattle.layout.specs.Offsets.{laid_out_procedure}
use Rattle.verifier.specs.Fixed.{instruction_refusal}
use Rattle.verifier.specs.Flow.{Leaves, effect}
use Rattle.lowering.specs.Direct.{jump_of}
use Rattle.lowering.specs.Threaded.{onward as onward_position, followed, final_position, threaded}
use Rattle.lowering.proofs.Unthreaded.{threaded_procedure}
use Rattle.lowering.proofs.Finals.{length-threaded, target-renamed}
use Rattle.lowering.proofs.Flowing.{IsSound, EachSound, sound-at, kinds_at, along, onward, following}
use Rattle.lowering.proofs.Following.{jump-is}
use Rattle.lowering.proofs.Settled.{Catches}
use Rattle.lowering.proofs.Standing.{Sound, same-effect, same-goes, renamed-from}

-- an instruction that still has no target is the same
same_without : (f : ℕ → ℕ) (i : Instruction) → target_of (renamed_instruction f i) ≡ None → renamed_instruction f i ≡ i
same_without f (Jump target) none = absurd (let no : Some (f target) ≡ None = none in cc)
same_without f (JumpIfFalse target) none = absurd (let no : Some (f target) ≡ None = none in cc)
same_without f i none = refl

module _ (m : ModuleContents) (p : ProcedureContents) (code : List Instruction) where
  abbrev f : ℕ → ℕ
  f position = final_position code position

  onward-renamed : (i : Instruction) (kinds : List BaseType) → onward m p (renamed_instruction f i) kinds ≡ onward m p i kinds
  onward-renamed i kinds =
      ap (λ (b : Bool). following b (effect m p (renamed_instruction f i) kinds)) (same-goes f i) ∙ ap (following (goes_on i)) (same-effect m p f i kinds)

  along-renamed : (xs : List Instruction) (kinds : List BaseType) → along m p (map (renamed_instruction f) xs) kinds ≡ along m p xs kinds
  along-renamed [] kinds = refl
  along-renamed (i ∷ xs) kinds = ap (along m p (map (renamed_instruction f) xs)) (onward-renamed i kinds) ∙ along-renamed xs (onward m p i kinds)

  kinds-same : (k : ℕ) → kinds_at m p (threaded code) k ≡ kinds_at m p code k
  kinds-same k = ap (λ (xs : List Instruction). along m p xs []) (take-map (renamed_instruction f) k code) ∙ along-renamed (take k code) []

  -- the kinds at an unconditional jump are those at its target
  kinds-jumped : EachSound m p code code [] → (position target : ℕ) → jump_of (slice_get code position) ≡ Some target → kinds_at m p code target ≡ kinds_at m p code position
  kinds-jumped fine position target e =
      let here = sound-at m p code code [] position (Jump target) fine (jump-is (slice_get code position) target e) in
      let left : Leaves (kinds_at m p code position) ≡ Leaves here.after = here.leaves in
      let after : here.after ≡ kinds_at m p code position = cc in
      here.jumps target refl ∙ after

  kinds-onward : (position : ℕ) (on : ℕ → ℕ) (jump : Option ℕ) → ((target : ℕ) → kinds_at m p code (on target) ≡ kinds_at m p code target)
      → ((target : ℕ) → jump ≡ Some target → kinds_at m p code target ≡ kinds_at m p code position) → kinds_at m p code (onward_position position on jump) ≡ kinds_at m p code position
  kinds-onward position on None later jumped = refl
  kinds-onward position on (Some target) later jumped = by (ltb position target)
    where
      by : (b : Bool) → kinds_at m p code (cond b (on target) position) ≡ kinds_at m p code position
      by true = later target ∙ jumped target refl
      by false = refl

  kinds-followed : EachSound m p code code [] → (jumps position : ℕ) → kinds_at m p code (followed jumps code position) ≡ kinds_at m p code position
  kinds-followed fine zero position = refl
  kinds-followed fine (suc jumps) position =
      kinds-onward position (followed jumps code) (jump_of (slice_get code position)) (kinds-followed fine jumps) (λ target e. kinds-jumped fine position target e)

  sound-renamed : EachSound m p code code [] → (i : Instruction) (kinds : List BaseType) → IsSound m p code i kinds → IsSound m p (threaded code) (renamed_instruction f i) kinds
  sound-renamed fine i kinds h = record {
    after = h.after;
    leaves = same-effect m p f i kinds ∙ h.leaves;
    jumps = λ to e.
        let from = renamed-from f (target_of i) to (sym (target-renamed f i) ∙ e) in
        kinds-same to ∙ ap (kinds_at m p code) (sym from.2) ∙ kinds-followed fine (length code) from.0 ∙ h.jumps from.0 from.1;
    fixed = λ none.
        let same : renamed_instruction f i ≡ i = same_without f i none in
        ap (instruction_refusal m p) same ∙ h.fixed (ap target_of (sym same) ∙ none);
  }

  each-renamed : EachSound m p code code [] → (xs : List Instruction) (kinds : List BaseType) → EachSound m p code xs kinds
      → EachSound m p (threaded code) (map (renamed_instruction f) xs) kinds
  each-renamed fine [] kinds h = tt
  each-renamed fine (i ∷ xs) kinds h =
      (sound-renamed fine i kinds h.0, subst (EachSound m p (threaded code) (map (renamed_instruction f) xs)) (sym (onward-renamed i kinds)) (each-renamed fine xs (onward m p i kinds) h.1))

  catches-same : (handlers : List Handler) → All (Catches m p code) handlers → All (Catches m p (threaded code)) handlers
  catches-same handlers each k d below =
      let h = each k d below in
      record { empty = kinds-same (get_or handlers k d).target ∙ h.empty; there = h.there }

-- where control goes on, an instruction stands after
abbrev pub StaysIn : List Instruction → Type 0
StaysIn code = (k : ℕ) (i : Instruction) → slice_get code k ≡ Some i → goes_on i ≡ true → k + 1 < length code

stays-threaded : (code : List Instruction) → StaysIn code → StaysIn (threaded code)
stays-threaded code stays k i there goes =
    by (slice_get code k) refl (sym (slice_get-map (renamed_instruction (final_position code)) code k) ∙ there)
  where
    by : (o : Option Instruction) → slice_get code k ≡ o → option_map (renamed_instruction (final_position code)) o ≡ Some i → k + 1 < length (threaded code)
    by None e h = absurd (let no : None ≡ Some i = h in cc)
    by (Some x) e h =
        let same : renamed_instruction (final_position code) x ≡ i = cc in
        let x_goes : goes_on x ≡ true = sym (same-goes (final_position code) x) ∙ ap goes_on same ∙ goes in
        omega (arith, stays k x e x_goes, length-threaded code)

pub threaded-sound : (m : ModuleContents) (g : ProcedureContents) → EachSound m (laid_out_procedure (threaded_procedure g)) g.code g.code []
    → All (Catches m (laid_out_procedure (threaded_procedure g)) g.code) g.handlers → HasPositions (threaded_procedure g) → 0 < length g.code → StaysIn g.code
    → Sound m (threaded_procedure g)
threaded-sound m g fine catches positions starts stays =
    let p = laid_out_procedure (threaded_procedure g) in
    record {
      fine = each-renamed m p g.code fine g.code [] fine;
      catches = catches-same m p g.code g.handlers catches;
      positions = positions;
      starts = omega (arith, starts, length-threaded g.code);
      stays = stays-threaded g.code stays;
    }
