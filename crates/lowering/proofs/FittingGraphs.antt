-- The graph of a program is within the limits of the module file.
use Rattle.std.proofs.Common.{◌≡◌, ℕ, ◌+◌, ◌^◌, ◌<◌, ◌≤◌, Bool, true, false, ◌&&◌, List, [], ◌∷◌, ◌++◌, All, length, map, get_or, Option, Some, None, refl, ap, ◌∙◌, subst, arith, sum_by}
use Rattle.std.specs.Prelude.{IsTrue, ◌==◌, slice_get, is_none, if◌then◌else◌}
use Rattle.std.specs.List.{AllByRecursion, list_all}
use Rattle.std.specs.Option.{option_map}
use Rattle.std.proofs.lemmas.Bool.{and_parts, leb-true}
use Rattle.std.proofs.lemmas.List.{length-map, get_or-map}
use Rattle.std.proofs.lemmas.List.Elements.{All-head, All-tail}
use Rattle.std.proofs.lemmas.List.Sums.{get_or-le-sum_by}
use Rattle.std.proofs.lemmas.List.Folds.{list_any_at}
use Rattle.std.proofs.lemmas.Option.{slice_get-map, slice_get_within, slice_get-get_or}
use Rattle.resolved.specs.BitUse.{block_uses_bits, uses_bits}
use Rattle.resolved.proofs.Judged.{bits-apart}
use Rattle.resolved.specs.Names.{HasNames}
use Rattle.resolved.specs.Program.{Program, ProcedureEntry, ResultEntry, GlobalEntry, SlotEntry}
use Rattle.resolved.specs.WellFormed.{size_fits, cell_count, label_fits, first_fits, procedure_fits, procedure_nodes, program_nodes, node_limit, main_fits, well_formed}
use Rattle.resolved.proofs.WellFormedParts.{ProcedureParts, procedure_parts, program_parts, passes_at}
use Rattle.modules.specs.declared.instruction.Instruction.{Instruction}
use Rattle.modules.specs.declared.instruction.Instruction.TheVariants as instruction
use Rattle.modules.specs.declared.instruction.Storage.TheVariants.{Local}
use Rattle.modules.specs.declared.declaration.Handler.{Handler}
use Rattle.common.specs.declared.base_type.BaseType.{BaseType}
use Rattle.common.specs.declared.base_type.BaseType.TheVariants as kind
use Rattle.modules.specs.ByteFormat.{Fits, FitEach, Code}
use Rattle.modules.specs.Format.{returned, handler, procedure, main, version as version_field, module_file}
use Rattle.modules.specs.FormatParts.{globals, handlers, procedures, may_start}
use Rattle.modules.specs.declared.version.Version.{Version}
use Rattle.modules.specs.declared.version.Version.TheVariants.{One, Two}
use Rattle.modules.specs.Targets.{renamed_instruction}
use Rattle.modules.specs.Opcodes.{HasSpelling, OperandFits, entry_of, has_instruction}
use Rattle.modules.proofs.Spelling.{bytes-length}
use Rattle.layout.specs.Graph.{IsHandlerIn, HasTargetIn, HasPositions}
use Rattle.lowering.specs.Interface.{module_version, returned_kind}
use Rattle.lowering.specs.Code.{block_falls, block_size, block_code, block_table}
use Rattle.lowering.specs.Fitting.{HasShortValues}
use Rattle.lowering.specs.Graphs.{end_code, no_loop, body_code, procedure_contents, graph_of}
use Rattle.lowering.specs.Threaded.{final_position, threaded}
use Rattle.lowering.proofs.Finals.{length-threaded}
use Rattle.lowering.proofs.FittingChannels.{declared-fits}
use Rattle.lowering.proofs.FittingCode.{Allows, IsNumbered, numbered-both, end-numbered, IsOfException, HasShortTables, block-numbered, block-catches}
use Rattle.lowering.proofs.FittingHierarchy.{hierarchy-fits}
use Rattle.lowering.proofs.FittingLabels.{length_by_sum}
use Rattle.lowering.proofs.FittingTables.{globals-fit, slots-fit}
use Rattle.lowering.proofs.Fronts.{FitEach-made, All-at_seam}
use Rattle.lowering.proofs.Room.{block-room, end-room}
use Rattle.lowering.proofs.Sizes.{both_sized, block-sized}
use Rattle.lowering.proofs.Targets.{Below}
use Rattle.modules.proofs.Widths.{code_length_most}
use Rattle.common.specs.declared.limits.TheConstants.{MAX_CELLS}

-- ---- code

numbered-there : (version : Version) (x : Instruction) → IsNumbered version x → IsTrue (has_instruction version x)
numbered-there version (instruction.Operate operator) h = h
numbered-there version (instruction.Load Local k) h = refl
numbered-there version (instruction.Store Local k) h = refl
numbered-there version (instruction.LoadElement Local k) h = refl
numbered-there version (instruction.StoreElement Local k) h = refl
numbered-there version x h = refl

numbered-fits : (version : Version) (n : ℕ) (x : Instruction) → n < 2 ^ 32 → IsNumbered version x → Below n x → OperandFits (entry_of x).operand
numbered-fits version n (instruction.Jump target) room h there = omega (arith, there, room)
numbered-fits version n (instruction.JumpIfFalse target) room h there = omega (arith, there, room)
numbered-fits version n (instruction.Operate operator) room h there = tt
numbered-fits version n x room h there = h

-- with its target below the length of short code, an instruction has its spelling
numbered-coded : (version : Version) (n : ℕ) (x : Instruction) → n < 2 ^ 32 → IsNumbered version x → Below n x → HasSpelling version x
numbered-coded version n x room h there = (numbered-there version x h, numbered-fits version n x room h there)

code-coded : (version : Version) (n : ℕ) (code : List Instruction) → n < 2 ^ 32 → AllByRecursion (IsNumbered version) code → All (Below n) code → AllByRecursion (HasSpelling version) code
code-coded version n [] room each there = tt
code-coded version n (x ∷ code) room each there =
    (numbered-coded version n x room each.0 (All-head (Below n) x code there), code-coded version n code room each.1 (All-tail (Below n) x code there))

code-fits : (version : Version) (code : List Instruction) → length code ≤ 4194305 → AllByRecursion (IsNumbered version) code → All (HasTargetIn code) code
    → Fits (Code version) code
code-fits version code few each there =
    (omega (arith, few, code_length_most code, bytes-length code), code-coded version (length code) code (omega (arith, few)) each there)

-- ---- handlers

handler-fits : (n : ℕ) (entry : Handler) → n < 2 ^ 32 → IsHandlerIn n entry → IsOfException entry → Fits handler entry
unfolding handler
handler-fits n entry room there small =
    ((omega (arith, room, there.not_empty, there.within), (omega (arith, room, there.within), (small, omega (arith, room, there.target)))), refl)

each-handler : (n : ℕ) (before table : List Handler) → n < 2 ^ 32 → All (IsHandlerIn n) table → AllByRecursion IsOfException table → FitEach (λ front x. Fits handler x) before table
each-handler n before [] room there small = tt
each-handler n before (entry ∷ table) room there small = (
  handler-fits n entry room (All-head (IsHandlerIn n) entry table there) small.0,
  each-handler n (before ++ entry ∷ []) table room (All-tail (IsHandlerIn n) entry table there) small.1,
)

handlers-fits : (n : ℕ) (table : List Handler) → n < 2 ^ 32 → length table < 2 ^ 32 → All (IsHandlerIn n) table → AllByRecursion IsOfException table → Fits handlers table
unfolding handlers
handlers-fits n table room few there small = (few, refl, each-handler n [] table room there small)

-- ---- procedures

-- other targets change no number
renamed-numbered : (version : Version) (f : ℕ → ℕ) (x : Instruction) → IsNumbered version x → IsNumbered version (renamed_instruction f x)
renamed-numbered version f (instruction.Jump target) h = tt
renamed-numbered version f (instruction.JumpIfFalse target) h = tt
renamed-numbered version f x h = h

renamed-each : (version : Version) (f : ℕ → ℕ) (code : List Instruction) → AllByRecursion (IsNumbered version) code
    → AllByRecursion (IsNumbered version) (map (renamed_instruction f) code)
renamed-each version f [] h = tt
renamed-each version f (x ∷ code) h = (renamed-numbered version f x h.0, renamed-each version f code h.1)

returned-fits : (result : Option BaseType) → Fits returned result
unfolding returned
returned-fits None = refl
returned-fits (Some kind.Int) = refl
returned-fits (Some kind.Boolean) = refl

-- a procedure of a program whose tables are not too long
procedure-fits : (version : Version) (program : Program) (entry : ProcedureEntry) → HasShortTables program entry → procedure_nodes entry ≤ 1048576
    → ProcedureParts program entry → HasPositions (procedure_contents program entry) → Allows version (block_uses_bits entry.body)
    → Fits (procedure version) (procedure_contents program entry)
unfolding procedure handlers
procedure-fits version program entry short few parts placed allowed =
    let body = entry.body in
    let code = threaded (body_code program body) in
    let size : length code ≡ block_size program body + length (end_code (block_falls body)) =
    length-threaded (body_code program body)
    ∙ both_sized (block_code program no_loop 0 body) (end_code (block_falls body)) (block_size program body) (length (end_code (block_falls body))) (block-sized program no_loop 0 body) refl in
    let long : length code ≤ 4194305 = omega (arith, few, size, block-room program body, end-room (block_falls body)) in
    let numbers = numbered-both (block_code program no_loop 0 body) (end_code (block_falls body)) (block-numbered version program entry short no_loop 0 body parts.body_fits allowed) (end-numbered (block_falls body)) in
    let catches = block-catches version program entry short 0 body parts.body_fits in
    let parameters = leb-true entry.parameters (length entry.slots) parts.parameters_there in (
      (
        returned-fits (returned_kind entry.result),
        (
          omega (arith, few, parameters),
          (
            slots-fit program.hierarchy entry.parameters entry.slots (omega (arith, few)) parameters parts.parameters_written parts.slots_fit
                (leb-true (sum_by (λ (slot : SlotEntry). cell_count slot.size) entry.slots) MAX_CELLS parts.frame_cells),
            (
              code-fits version code long (renamed-each version (final_position (body_code program body)) (body_code program body) numbers.each) placed.targets,
              handlers-fits (length code) (block_table program 0 body) (omega (arith, long)) (omega (arith, few, catches.few)) placed.handlers catches.each,
            ),
          ),
        ),
      ),
      refl,
    )

-- ---- programs

procedures-fits : (version : Version) (program : Program) (entries : List ProcedureEntry) → length entries ≤ 1048576
    → All (λ (entry : ProcedureEntry). Fits (procedure version) (procedure_contents program entry)) entries
    → Fits (procedures version) (map (procedure_contents program) entries)
unfolding procedures
procedures-fits version program entries few each = (
  omega (arith, few, length-map entries (procedure_contents program)),
  refl,
  FitEach-made _ (procedure_contents program) entries (λ front entry rest e.
      All-at_seam front entry rest (λ (entry : ProcedureEntry). Fits (procedure version) (procedure_contents program entry))
      (subst (All (λ (entry : ProcedureEntry). Fits (procedure version) (procedure_contents program entry))) e each)),
)

starts : (program : Program) (o : Option ProcedureEntry) → main_fits o ≡ true → may_start (option_map (procedure_contents program) o) ≡ true
starts program None h = absurd (cc)
starts program (Some entry) h = ap (λ b. (entry.parameters == 0) && b) (same entry.result) ∙ h
  where
    same : (result : Option ResultEntry) → is_none (returned_kind result) ≡ is_none result
    same None = refl
    same (Some type) = refl

main-there : (program : Program) (o : Option ProcedureEntry) → slice_get program.procedures program.main ≡ o → main_fits o ≡ true → program.main < length program.procedures
main-there program None e h = absurd (cc)
main-there program (Some entry) e h = slice_get_within program.procedures program.main entry e

main-fits : (program : Program) → length program.procedures ≤ 1048576 → main_fits (slice_get program.procedures program.main) ≡ true
    → Fits (main (map (procedure_contents program) program.procedures)) program.main
unfolding main
main-fits program few h = (
  omega (arith, few, main-there program (slice_get program.procedures program.main) refl h),
  ap may_start (slice_get-map (procedure_contents program) program.procedures program.main) ∙ starts program (slice_get program.procedures program.main) h,
)

-- the numbers of nodes
record HasCounts (program : Program) : Type 0 where
  channels : length program.channels ≤ 1048576
  exceptions : length program.exceptions ≤ 1048576
  globals : length program.globals ≤ 1048576
  procedures : sum_by procedure_nodes program.procedures ≤ 1048576

counts-from : (program : Program) → program_nodes program ≤ node_limit → HasCounts program
counts-from program few =
    record { channels = omega (arith, few); exceptions = omega (arith, few); globals = omega (arith, few); procedures = omega (arith, few) }

procedure-some : (entry : ProcedureEntry) → 1 ≤ procedure_nodes entry
procedure-some entry = omega arith

tables-from : (program : Program) (entry : ProcedureEntry) → HasCounts program → procedure_nodes entry ≤ 1048576 → HasShortTables program entry
tables-from program entry counts few = record {
  globals = omega (arith, counts.globals);
  slots = omega (arith, few);
  channels = omega (arith, counts.channels);
  procedures = omega (arith, counts.procedures, length_by_sum procedure_nodes program.procedures procedure-some);
  exceptions = omega (arith, counts.exceptions);
}

each-procedure : (program : Program) → HasCounts program → list_all (procedure_fits program) program.procedures ≡ true → All HasPositions (map (procedure_contents program) program.procedures)
    → All (λ (entry : ProcedureEntry). Fits (procedure (module_version program)) (procedure_contents program entry)) program.procedures
each-procedure program counts fits placed k d below =
    let entry = get_or program.procedures k d in
    let few : procedure_nodes entry ≤ 1048576 = omega (arith, counts.procedures, get_or-le-sum_by procedure_nodes program.procedures k d below) in
    let here : HasPositions (procedure_contents program entry) =
    subst HasPositions (get_or-map (procedure_contents program) program.procedures k d (procedure_contents program d) below)
    (placed k (procedure_contents program d) (omega (arith, below, length-map program.procedures (procedure_contents program)))) in
    let allowed : Allows (module_version program) (block_uses_bits entry.body) = λ uses.
    chosen (uses_bits program) (bits-apart program ∙ list_any_at (λ (procedure : ProcedureEntry). block_uses_bits procedure.body) program.procedures k d below uses) in
    procedure-fits (module_version program) program entry (tables-from program entry counts few) few
    (procedure_parts program entry (passes_at (procedure_fits program) program.procedures k (get_or program.procedures k d) fits (slice_get-get_or program.procedures k d below)))
    here allowed
  where
    chosen : (uses : Bool) → uses ≡ true → (if uses then Two else One) ≡ Two
    chosen true e = refl
    chosen false e = cc

version-fits : (v : Version) → Fits version_field v
unfolding version_field
version-fits One = ((omega arith, refl), refl)
version-fits Two = ((omega arith, refl), refl)

pub graph-fits : (program : Program) → well_formed program ≡ true → HasNames program → HasShortValues program
    → All HasPositions (graph_of program).procedures → Fits module_file (graph_of program)
unfolding module_file globals procedures
graph-fits program formed names values placed =
    let parts = program_parts program formed in
    let counts = counts-from program (leb-true (program_nodes program) node_limit parts.nodes_fit) in
    let few = length_by_sum procedure_nodes program.procedures procedure-some in
    let tables = and_parts (list_all (λ (entry : GlobalEntry). size_fits entry.size && label_fits program.hierarchy entry.label && first_fits entry) program.globals) _ parts.globals_are in (
      (
        version-fits (module_version program),
        (
          hierarchy-fits program.hierarchy names.hierarchy names.principals,
          (
            declared-fits program.hierarchy program.exceptions program.channels names.hierarchy.few counts.exceptions counts.channels parts.labels_fit parts.channels_fit names.items names.different names.labels,
            (
              globals-fit program.hierarchy program.globals counts.globals tables.0 (leb-true (sum_by (λ (entry : GlobalEntry). cell_count entry.size) program.globals) MAX_CELLS tables.1) values,
              (
                procedures-fits (module_version program) program program.procedures (omega (arith, few, counts.procedures)) (each-procedure program counts parts.procedures_fit placed),
                main-fits program (omega (arith, few, counts.procedures)) parts.main_is,
              ),
            ),
          ),
        ),
      ),
      refl,
    )
