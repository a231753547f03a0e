-- A module that has a spelling has one as a file of the last version too.
use Rattle.std.proofs.Common.{◌≡◌, ◌||◌, Bool, true, false, List, [], ◌∷◌, ◌++◌, refl, lit<}
use Rattle.std.specs.Prelude.{nat_lt}
use Rattle.std.specs.List.{AllByRecursion}
use Rattle.modules.specs.Contents.{ProcedureContents, ModuleContents}
use Rattle.modules.specs.ByteFormat.{Fits, FitEach}
use Rattle.modules.specs.Format.{procedure, version, module_file}
use Rattle.modules.specs.FormatParts.{procedures}
use Rattle.modules.specs.Opcodes.{HasSpelling, entry_of}
use Rattle.modules.specs.declared.instruction.Instruction.{Instruction}
use Rattle.modules.specs.declared.version.Version.{Version}
use Rattle.modules.specs.declared.version.Version.TheVariants.{Two}

-- the last version has all
early : (b : Bool) → (b || true) ≡ true
early true = refl
early false = refl

later_code : (v : Version) (code : List Instruction) → AllByRecursion (HasSpelling v) code → AllByRecursion (HasSpelling Two) code
later_code v [] h = tt
later_code v (x ∷ code) h = ((early (nat_lt (entry_of x).byte 0x28), h.0.1), later_code v code h.1)

later_procedure : (v : Version) (p : ProcedureContents) → Fits (procedure v) p → Fits (procedure Two) p
unfolding procedure
later_procedure v p h =
    let code = h.0.1.1.1.0 in
    ((h.0.0, (h.0.1.0, (h.0.1.1.0, ((code.0, later_code v p.code code.1), h.0.1.1.1.1)))), refl)

each_later : (v : Version) (before all : List ProcedureContents) → FitEach (λ seen p. Fits (procedure v) p) before all → FitEach (λ seen p. Fits (procedure Two) p) before all
each_later v before [] h = tt
each_later v before (p ∷ all) h = (later_procedure v p h.0, each_later v (before ++ p ∷ []) all h.1)

later_procedures : (v : Version) (all : List ProcedureContents) → Fits (procedures v) all → Fits (procedures Two) all
unfolding procedures
later_procedures v all h = (h.0, h.1, each_later v [] all h.2)

second : Fits version Two
unfolding version
second = ((lit< tt, refl), refl)

pub later_module : (m : ModuleContents) → Fits module_file m → Fits module_file (record m { version = Two })
unfolding module_file procedures
later_module m h =
    let all = h.0.1.1.1 in
    ((second, (h.0.1.0, (h.0.1.1.0, (all.0, (later_procedures m.version m.procedures all.1.0, all.1.1))))), refl)
