-- The frames of a run have no more operands than the greatest depth of their procedures.
use Rattle.std.proofs.Common.{◌≡◌, ℕ, zero, suc, ◌<◌, ◌≤◌, List, length, map, get_or, slice_get, Option, Some, None, sym, ◌∙◌, subst, arith}
use Rattle.std.proofs.lemmas.List.{length-map}
use Rattle.modules.specs.Contents.{ProcedureContents, ModuleContents}
use Rattle.modules.specs.Machine.{Caller, Frame, Machine}
use Rattle.common.specs.Values.{kind_of}
use Rattle.modules.specs.declared.instruction.Instruction.TheVariants.{Call}
use Rattle.common.specs.declared.base_type.BaseType.{BaseType}
use Rattle.verifier.specs.Depth.{IsMet, IsWithinDepth, FramesAreWithin, IsNeverDeeper, found, left}
use Rattle.verifier.specs.Refusals.{IsNotRefused}
use Rattle.verifier.specs.SignatureParts.{pushed}
use Rattle.verifier.proofs.Bounds.{IsBounded}
use Rattle.verifier.proofs.NeverStuck.{good_after}
use Rattle.verifier.proofs.Runs.{Callers, outermost, inner, Good, runs, over, Waits}

-- kinds of the operands of a frame that are met, or more
within : (m : ModuleContents) (frame : Frame) (p : ProcedureContents) (kinds : List BaseType) → slice_get m.procedures frame.procedure ≡ Some p → IsMet m p kinds → length frame.operands ≤ length kinds → IsWithinDepth m frame
within m frame p kinds there met enough = λ q depth q_there greatest.
    let some : Some p ≡ Some q = sym there ∙ q_there in
    let same : p ≡ q = cc in
    omega (arith, enough, greatest.bounds kinds (subst (λ (x : ProcedureContents). IsMet m x kinds) same met))

longer_pushed : (o : Option BaseType) (kinds : List BaseType) → length kinds ≤ length (pushed o kinds)
longer_pushed None kinds = omega arith
longer_pushed (Some kind) kinds = omega arith

waits_within : (m : ModuleContents) (p callee : ProcedureContents) (c : Caller) → Waits m p callee c → IsWithinDepth m c.frame
waits_within m p callee c w =
    within m c.frame p (pushed callee.returned (map kind_of c.frame.operands)) w.there
    (left w.flow.table c.frame.position w.kinds (Call w.number) (pushed callee.returned (map kind_of c.frame.operands)) w.flow.flow w.flow.has w.calls w.effect)
    (omega (arith, length-map c.frame.operands kind_of, longer_pushed callee.returned (map kind_of c.frame.operands)))

callers_within : (m : ModuleContents) (p : ProcedureContents) (callers : List Caller) → Callers m p callers → (c : Caller) (k : ℕ) → k < length callers → get_or callers k c ≡ c → IsWithinDepth m c.frame
callers_within m _ _ (outermost p none) c k inside is = absurd (omega arith)
callers_within m _ _ (inner callee p d callers waits more) c zero inside is = subst (λ (x : Caller). IsWithinDepth m x.frame) is (waits_within m p callee d waits)
callers_within m _ _ (inner callee p d callers waits more) c (suc k) inside is = callers_within m p callers more c k (omega arith) is

frames_within : (m : ModuleContents) (machine : Machine) → Good m machine → FramesAreWithin m machine
frames_within m _ (runs s g) = (
  within m s.frame g.procedure (map kind_of s.frame.operands) g.there
      (found g.flow.table s.frame.position (map kind_of s.frame.operands) g.flow.flow g.flow.has)
      (omega (arith, length-map s.frame.operands kind_of)),
  λ c there. callers_within m g.procedure s.callers g.callers c there.0 there.1 there.2,
)
frames_within m _ (over ending sent) = tt

pub never_deeper : (m : ModuleContents) → IsBounded m → IsNotRefused m → IsNeverDeeper m
never_deeper m bounded free = λ world n. frames_within m _ (good_after m bounded free world n)
