-- The targets of the module that a graph is laid out as are instructions' first bytes.
use Rattle.std.proofs.Common.{◌≡◌, ◌⊎◌, ℕ, ◌<◌, ◌≤◌, ◌∙◌, inl, inr, refl, sym, ap, Bool, true, false, ltb, List, length, map, get_or, Some, arith, All, IfSome}
use Rattle.std.specs.Option.{is_some, option_map}
use Rattle.std.proofs.lemmas.Bool.{ltb-true, ltb-false}
use Rattle.std.proofs.lemmas.List.Elements.{All-map}
use Rattle.std.proofs.lemmas.Option.{slice_get-get_or}
use Rattle.modules.specs.declared.instruction.Instruction.{Instruction}
use Rattle.modules.specs.declared.instruction.Instruction.TheVariants.{Jump, JumpIfFalse, Return}
use Rattle.modules.specs.declared.declaration.Handler.{Handler}
use Rattle.modules.specs.Code.{code_length, instruction_at}
use Rattle.modules.specs.Contents.{ProcedureContents, ModuleContents}
use Rattle.modules.specs.Targets.{target_of, renamed_instruction, renamed_handler}
use Rattle.layout.specs.Offsets.{offset, laid_out_procedure, laid_out}
use Rattle.layout.specs.Graph.{IsHandlerIn, HasPositions, IsGraph}
use Rattle.layout.specs.Starts.{IsStart, IsHandlerOf, HasStarts}
use Rattle.layout.proofs.Offsets.{fetched, offset-less}
use Rattle.layout.proofs.Tables.{offset-end}
use Rattle.layout.proofs.Fitting.{length-renamed}

-- the code with offsets for targets
abbrev placed : List Instruction → List Instruction
placed code = map (renamed_instruction (offset code)) code

pub start-at : (code : List Instruction) (k : ℕ) → k < length code → IsStart (placed code) (offset code k)
start-at code k below =
    let here : instruction_at (placed code) (offset code k) ≡ Some (renamed_instruction (offset code) (get_or code k Return)) =
    fetched (offset code) code k ∙ ap (option_map (renamed_instruction (offset code))) (slice_get-get_or code k Return below) in
    ap is_some here

end_by : (code : List Instruction) (k : ℕ) (inside : Bool) → ltb k (length code) ≡ inside → k ≤ length code → IsStart (placed code) (offset code k) ⊎ (offset code k ≡ code_length (placed code))
end_by code k true e most = inl (start-at code k (ltb-true k (length code) e))
end_by code k false e most =
    let last : k ≡ length code = omega (arith, ltb-false k (length code) e) in
    inr (ap (offset code) last ∙ offset-end code ∙ sym (length-renamed (offset code) code))

target-starts : (code : List Instruction) (x : Instruction) → IfSome (target_of x) (λ target. target < length code) → IfSome (target_of (renamed_instruction (offset code) x)) (IsStart (placed code))
target-starts code (Jump target) below = start-at code target below
target-starts code (JumpIfFalse target) below = start-at code target below
target-starts code x below = tt

handler-starts : (code : List Instruction) (x : Handler) → IsHandlerIn (length code) x → IsHandlerOf (placed code) (renamed_handler (offset code) x)
handler-starts code x h = record {
  start = start-at code x.start (omega (arith, h.not_empty, h.within));
  end = end_by code x.end (ltb x.end (length code)) refl h.within;
  target = start-at code x.target h.target;
  not_empty = offset-less code x.start x.end h.not_empty;
}

procedure-starts : (p : ProcedureContents) → HasPositions p → HasStarts (laid_out_procedure p)
procedure-starts p h = record {
  targets = All-map (λ (x : Instruction). IfSome (target_of x) (IsStart (placed p.code))) (renamed_instruction (offset p.code)) p.code
      (λ k d below. target-starts p.code (get_or p.code k d) (h.targets k d below));
  handlers = All-map (IsHandlerOf (placed p.code)) (renamed_handler (offset p.code)) p.handlers
      (λ k d below. handler-starts p.code (get_or p.handlers k d) (h.handlers k d below));
}

pub starts-laid_out : (graph : ModuleContents) → IsGraph graph → All HasStarts (laid_out graph).procedures
starts-laid_out graph h =
    All-map HasStarts laid_out_procedure graph.procedures (λ k d below. procedure-starts (get_or graph.procedures k d) (h.positions k d below))
