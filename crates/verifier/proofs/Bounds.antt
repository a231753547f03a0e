-- What a module that has a spelling keeps to: lengths of four bytes, and a procedure in which a run may start.
use Rattle.std.proofs.Common.{◌≡◌, ℕ, zero, suc, ◌<◌, ◌^◌, true, List, [], ◌∷◌, ◌++◌, length, slice_get, Some, None, subst}
use Rattle.modules.specs.Code.{code_length}
use Rattle.modules.specs.Contents.{ProcedureContents, ModuleContents}
use Rattle.modules.specs.ByteFormat.{Fits, FitEach}
use Rattle.modules.specs.Format.{main, procedure, module_file}
use Rattle.modules.specs.FormatParts.{may_start, procedures}
use Rattle.modules.specs.declared.version.Version.{Version}
use Rattle.modules.proofs.Widths.{procedure_short}

pub record IsBounded (m : ModuleContents) : Type 0 where
  pub few : length m.procedures < 2 ^ 32
  pub short : (k : ℕ) (p : ProcedureContents) → slice_get m.procedures k ≡ Some p → code_length p.code < 2 ^ 32
  pub handled : (k : ℕ) (p : ProcedureContents) → slice_get m.procedures k ≡ Some p → length p.handlers < 2 ^ 32
  pub starts : may_start (slice_get m.procedures m.main) ≡ true

handlers_few : (version : Version) (p : ProcedureContents) → Fits (procedure version) p → length p.handlers < 2 ^ 32
unfolding procedure
handlers_few version p h = h.0.1.1.1.1.0

each_fits : (version : Version) (before all : List ProcedureContents) → FitEach (λ seen p. Fits (procedure version) p) before all → (k : ℕ) (p : ProcedureContents) → slice_get all k ≡ Some p → Fits (procedure version) p
each_fits version before [] h k p is = absurd (let no : None ≡ Some p = is in cc)
each_fits version before (x ∷ all) h zero p is = let same : x ≡ p = cc in subst (Fits (procedure version)) same h.0
each_fits version before (x ∷ all) h (suc k) p is = each_fits version (before ++ x ∷ []) all h.1 k p is

procedures_fit : (version : Version) (all : List ProcedureContents) → Fits (procedures version) all → (length all < 2 ^ 32) × ((k : ℕ) (p : ProcedureContents) → slice_get all k ≡ Some p → Fits (procedure version) p)
unfolding procedures
procedures_fit version all h = (h.0, each_fits version [] all h.2)

pub main_starts : (all : List ProcedureContents) (number : ℕ) → Fits (main all) number → may_start (slice_get all number) ≡ true
unfolding main
main_starts all number h = h.1

pub bounded : (m : ModuleContents) → Fits module_file m → IsBounded m
unfolding module_file procedures
bounded m h =
    let all = h.0.1.1.1.1 in
    let b = procedures_fit m.version m.procedures all.0 in
    record { few = b.0; short = λ k p there. procedure_short m.version p (b.1 k p there); handled = λ k p there. handlers_few m.version p (b.1 k p there); starts = main_starts m.procedures m.main all.1 }
