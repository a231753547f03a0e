-- The module that a graph is laid out as has a spelling.
use Rattle.std.proofs.Common.{◌≡◌, ℕ, ◌^◌, ◌<◌, ◌∙◌, refl, ap, List, [], ◌∷◌, ◌++◌, length, map, Option, Some, None, arith, All, IfSome}
use Rattle.std.specs.Prelude.{slice_get}
use Rattle.std.specs.List.{AllByRecursion}
use Rattle.std.specs.Option.{option_map}
use Rattle.std.proofs.lemmas.List.{length-map}
use Rattle.std.proofs.lemmas.List.Elements.{All-head, All-tail}
use Rattle.std.proofs.lemmas.Option.{slice_get-map}
use Rattle.modules.specs.declared.instruction.Instruction.{Instruction}
use Rattle.modules.specs.declared.instruction.Instruction.TheVariants.{Jump, JumpIfFalse}
use Rattle.modules.specs.declared.version.Version.{Version}
use Rattle.modules.specs.declared.declaration.Handler.{Handler}
use Rattle.modules.specs.Code.{code_length}
use Rattle.modules.specs.Contents.{ProcedureContents, ModuleContents}
use Rattle.modules.specs.ByteFormat.{Fits, FitEach, Code}
use Rattle.modules.specs.Opcodes.{HasSpelling}
use Rattle.modules.specs.Format.{handler, procedure, main, module_file}
use Rattle.modules.specs.FormatParts.{handlers, procedures, may_start}
use Rattle.modules.proofs.Spelling.{bytes-length}
use Rattle.modules.specs.Targets.{target_of, renamed_instruction, renamed_handler}
use Rattle.layout.specs.Offsets.{offset, laid_out_procedure, laid_out}
use Rattle.layout.specs.Graph.{HasTargetIn, IsHandlerIn, HasPositions, IsGraph}
use Rattle.layout.proofs.Offsets.{width-renamed}
use Rattle.layout.proofs.Tables.{offset-within}
use Rattle.modules.proofs.Widths.{procedures_short}

-- ---- code

pub length-renamed : (f : ℕ → ℕ) (code : List Instruction) → code_length (map (renamed_instruction f) code) ≡ code_length code
length-renamed f [] = refl
length-renamed f (x ∷ code) = omega (arith, width-renamed f x, length-renamed f code)

coded : (version : Version) (f : ℕ → ℕ) (x : Instruction) → IfSome (target_of x) (λ target. f target < 2 ^ 32) → HasSpelling version x → HasSpelling version (renamed_instruction f x)
coded version f (Jump target) small h = (refl, small)
coded version f (JumpIfFalse target) small h = (refl, small)
coded version f x small h = h

target-small : (code : List Instruction) (target : Option ℕ) → code_length code < 2 ^ 32 → IfSome target (λ t. t < length code) → IfSome target (λ t. offset code t < 2 ^ 32)
target-small code None short below = below
target-small code (Some t) short below = omega (arith, offset-within code t (omega (arith, below)))

all_coded : (version : Version) (code rest : List Instruction) → code_length code < 2 ^ 32 → All (HasTargetIn code) rest → AllByRecursion (HasSpelling version) rest → AllByRecursion (HasSpelling version) (map (renamed_instruction (offset code)) rest)
all_coded version code [] short targets h = tt
all_coded version code (x ∷ rest) short targets h = (
  coded version (offset code) x (target-small code (target_of x) short (All-head (HasTargetIn code) x rest targets)) h.0,
  all_coded version code rest short (All-tail (HasTargetIn code) x rest targets) h.1,
)

code_short : (version : Version) (code : List Instruction) → Fits (Code version) code → code_length code < 2 ^ 32
code_short version code h = omega (arith, h.0, bytes-length code)

code_fits : (version : Version) (code : List Instruction) → All (HasTargetIn code) code → Fits (Code version) code → Fits (Code version) (map (renamed_instruction (offset code)) code)
code_fits version code targets h = (
  omega (arith, code_short version code h, length-renamed (offset code) code, bytes-length (map (renamed_instruction (offset code)) code)),
  all_coded version code code (code_short version code h) targets h.1,
)

-- ---- handlers

handler_fits : (code : List Instruction) (x : Handler) → code_length code < 2 ^ 32 → IsHandlerIn (length code) x → Fits handler x → Fits handler (renamed_handler (offset code) x)
unfolding handler
handler_fits code x short within h =
    let starts = offset-within code x.start (omega (arith, within.not_empty, within.within)) in
    let ends = offset-within code x.end within.within in
    let goes = offset-within code x.target (omega (arith, within.target)) in
    ((omega arith, (omega arith, (h.0.1.1.0, omega arith))), refl)

each_handler : (code : List Instruction) (before other rest : List Handler) → code_length code < 2 ^ 32 → All (IsHandlerIn (length code)) rest → FitEach (λ _ x. Fits handler x) before rest → FitEach (λ _ x. Fits handler x) other (map (renamed_handler (offset code)) rest)
each_handler code before other [] short within h = tt
each_handler code before other (x ∷ rest) short within h = (
  handler_fits code x short (All-head (IsHandlerIn (length code)) x rest within) h.0,
  each_handler code (before ++ x ∷ []) (other ++ renamed_handler (offset code) x ∷ []) rest short (All-tail (IsHandlerIn (length code)) x rest within) h.1,
)

handlers_fit : (code : List Instruction) (hs : List Handler) → code_length code < 2 ^ 32 → All (IsHandlerIn (length code)) hs → Fits handlers hs → Fits handlers (map (renamed_handler (offset code)) hs)
unfolding handlers
handlers_fit code hs short within h =
    (omega (arith, h.0, length-map hs (renamed_handler (offset code))), refl, each_handler code [] [] hs short within h.2)

-- ---- procedures

procedure_fits : (version : Version) (p : ProcedureContents) → HasPositions p → Fits (procedure version) p → Fits (procedure version) (laid_out_procedure p)
unfolding procedure handlers
procedure_fits version p positions h =
    let code = code_fits version p.code positions.targets h.0.1.1.1.0 in
    let handlers = handlers_fit p.code p.handlers (code_short version p.code h.0.1.1.1.0) positions.handlers h.0.1.1.1.1 in
    ((h.0.0, (h.0.1.0, (h.0.1.1.0, (code, handlers)))), refl)

each_procedure : (version : Version) (before other rest : List ProcedureContents) → All HasPositions rest → FitEach (λ _ p. Fits (procedure version) p) before rest → FitEach (λ _ p. Fits (procedure version) p) other (map laid_out_procedure rest)
each_procedure version before other [] positions h = tt
each_procedure version before other (p ∷ rest) positions h = (
  procedure_fits version p (All-head HasPositions p rest positions) h.0,
  each_procedure version (before ++ p ∷ []) (other ++ laid_out_procedure p ∷ []) rest (All-tail HasPositions p rest positions) h.1,
)

procedures_fit : (version : Version) (ps : List ProcedureContents) → All HasPositions ps → Fits (procedures version) ps → Fits (procedures version) (map laid_out_procedure ps)
unfolding procedures
procedures_fit version ps positions h = (omega (arith, h.0, length-map ps laid_out_procedure), refl, each_procedure version [] [] ps positions h.2)

start-same : (p : Option ProcedureContents) → may_start (option_map laid_out_procedure p) ≡ may_start p
start-same None = refl
start-same (Some p) = refl

main_fits : (ps : List ProcedureContents) (number : ℕ) → Fits (main ps) number → Fits (main (map laid_out_procedure ps)) number
unfolding main
main_fits ps number h = (h.0, ap may_start (slice_get-map laid_out_procedure ps number) ∙ start-same (slice_get ps number) ∙ h.1)

-- ---- graphs

pub codes-short : (graph : ModuleContents) → IsGraph graph → All (λ (p : ProcedureContents). code_length p.code < 2 ^ 32) graph.procedures
unfolding module_file procedures
codes-short graph h = procedures_short graph.version graph.procedures h.limits.0.1.1.1.1.0

pub Fits-laid_out : (graph : ModuleContents) → IsGraph graph → Fits module_file (laid_out graph)
unfolding module_file procedures
Fits-laid_out graph h =
    let all = h.limits.0 in
    let made = procedures_fit graph.version graph.procedures h.positions all.1.1.1.1.0 in
    ((all.0, (all.1.0, (all.1.1.0, (all.1.1.1.0, (made, main_fits graph.procedures graph.main all.1.1.1.1.1))))), refl)
