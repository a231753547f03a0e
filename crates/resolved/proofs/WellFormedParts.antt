-- The parts of being well formed, one by one.
use Rattle.std.proofs.Common.{◌≡◌, subst, ℕ, zero, suc, List, [], ◌∷◌, length, Bool, true, ◌&&◌}
use Rattle.std.specs.Prelude.{Option, None, Some, ◌==◌, slice_get, nat_le, sum_by}
use Rattle.std.specs.List.{list_all}
use Rattle.std.proofs.lemmas.Option.{get_or_from_slice_get}
use Rattle.std.proofs.lemmas.Bool.{and_from, and_parts}
use Rattle.common.specs.declared.base_type.BaseType.{BaseType}
use Rattle.labels.specs.Channel.{ChannelContents}
use Rattle.resolved.specs.Program.{Program, ProcedureEntry, ResultEntry, SlotEntry, procedure_at}
use Rattle.resolved.specs.WellFormed.{has_result, parameter_fits, parameters_of, size_fits, written_fits, cell_count, result_fits, label_fits, label_nodes, throws_fit, block_fits, block_loops, counts_from, procedure_fits, globals_fit, main_fits, program_nodes, node_limit, well_formed}
use Rattle.common.specs.declared.limits.TheConstants.{MAX_CELLS, MAX_PRINCIPALS}

eleven : (a b c d e f g i j k l : Bool) → (a && b && c && d && e && f && g && i && j && k && l) ≡ true
    → (a ≡ true) × (b ≡ true) × (c ≡ true) × (d ≡ true) × (e ≡ true) × (f ≡ true) × (g ≡ true) × (i ≡ true) × (j ≡ true) × (k ≡ true) × (l ≡ true)
eleven a b c d e f g i j k l h =
    let h10 : ((a && b && c && d && e && f && g && i && j && k) ≡ true) × (l ≡ true) = and_parts (a && b && c && d && e && f && g && i && j && k) l h in
    let h9 : ((a && b && c && d && e && f && g && i && j) ≡ true) × (k ≡ true) = and_parts (a && b && c && d && e && f && g && i && j) k h10.0 in
    let h8 : ((a && b && c && d && e && f && g && i) ≡ true) × (j ≡ true) = and_parts (a && b && c && d && e && f && g && i) j h9.0 in
    let h7 : ((a && b && c && d && e && f && g) ≡ true) × (i ≡ true) = and_parts (a && b && c && d && e && f && g) i h8.0 in
    let h6 : ((a && b && c && d && e && f) ≡ true) × (g ≡ true) = and_parts (a && b && c && d && e && f) g h7.0 in
    let h5 : ((a && b && c && d && e) ≡ true) × (f ≡ true) = and_parts (a && b && c && d && e) f h6.0 in
    let h4 : ((a && b && c && d) ≡ true) × (e ≡ true) = and_parts (a && b && c && d) e h5.0 in
    let h3 : ((a && b && c) ≡ true) × (d ≡ true) = and_parts (a && b && c) d h4.0 in
    let h2 : ((a && b) ≡ true) × (c ≡ true) = and_parts (a && b) c h3.0 in
    let h1 : ((a) ≡ true) × (b ≡ true) = and_parts (a) b h2.0 in
    (h1.0, h1.1, h2.1, h3.1, h4.1, h5.1, h6.1, h7.1, h8.1, h9.1, h10.1)

eleven_back : (a b c d e f g i j k l : Bool)
    → a ≡ true
    → b ≡ true
    → c ≡ true
    → d ≡ true
    → e ≡ true
    → f ≡ true
    → g ≡ true
    → i ≡ true
    → j ≡ true
    → k ≡ true
    → l ≡ true
    → (a && b && c && d && e && f && g && i && j && k && l) ≡ true
eleven_back a b c d e f g i j k l h0 h1 h2 h3 h4 h5 h6 h7 h8 h9 h10 =
    and_from (a && b && c && d && e && f && g && i && j && k) l (and_from (a && b && c && d && e && f && g && i && j) k (and_from (a && b && c && d && e && f && g && i) j (and_from (a && b && c && d && e && f && g) i (and_from (a && b && c && d && e && f) g (and_from (a && b && c && d && e) f (and_from (a && b && c && d) e (and_from (a && b && c) d (and_from (a && b) c (and_from a b h0 h1) h2) h3) h4) h5) h6) h7) h8) h9) h10

seven : (a b c d e f g : Bool) → (a && b && c && d && e && f && g) ≡ true
    → (a ≡ true) × (b ≡ true) × (c ≡ true) × (d ≡ true) × (e ≡ true) × (f ≡ true) × (g ≡ true)
seven a b c d e f g h =
    let h6 : ((a && b && c && d && e && f) ≡ true) × (g ≡ true) = and_parts (a && b && c && d && e && f) g h in
    let h5 : ((a && b && c && d && e) ≡ true) × (f ≡ true) = and_parts (a && b && c && d && e) f h6.0 in
    let h4 : ((a && b && c && d) ≡ true) × (e ≡ true) = and_parts (a && b && c && d) e h5.0 in
    let h3 : ((a && b && c) ≡ true) × (d ≡ true) = and_parts (a && b && c) d h4.0 in
    let h2 : ((a && b) ≡ true) × (c ≡ true) = and_parts (a && b) c h3.0 in
    let h1 : ((a) ≡ true) × (b ≡ true) = and_parts (a) b h2.0 in
    (h1.0, h1.1, h2.1, h3.1, h4.1, h5.1, h6.1)

seven_back : (a b c d e f g : Bool)
    → a ≡ true
    → b ≡ true
    → c ≡ true
    → d ≡ true
    → e ≡ true
    → f ≡ true
    → g ≡ true
    → (a && b && c && d && e && f && g) ≡ true
seven_back a b c d e f g h0 h1 h2 h3 h4 h5 h6 =
    and_from (a && b && c && d && e && f) g (and_from (a && b && c && d && e) f (and_from (a && b && c && d) e (and_from (a && b && c) d (and_from (a && b) c (and_from a b h0 h1) h2) h3) h4) h5) h6

-- a procedure that fits
pub record ProcedureParts (program : Program) (procedure : ProcedureEntry) : Type 0 where
  pub parameters_there : nat_le procedure.parameters (length procedure.slots) ≡ true
  pub parameters_written : list_all parameter_fits (parameters_of procedure) ≡ true
  pub slots_fit : list_all (λ (slot : SlotEntry). size_fits slot.size && written_fits program.hierarchy slot.written) procedure.slots ≡ true
  pub frame_cells : nat_le (sum_by (λ (slot : SlotEntry). cell_count slot.size) procedure.slots) MAX_CELLS ≡ true
  pub result_label_fits : result_fits program.hierarchy procedure.result ≡ true
  pub begin_label_fits : label_fits program.hierarchy procedure.begin_label ≡ true
  pub end_label_fits : label_fits program.hierarchy procedure.end_label ≡ true
  pub throws_are : throws_fit program procedure.throws ≡ true
  pub body_fits : block_fits program procedure procedure.body ≡ true
  pub loops_count_up : counts_from 0 (block_loops procedure.body) ≡ true
  pub loops_are_all : (length (block_loops procedure.body) == procedure.loops) ≡ true

pub procedure_parts : (program : Program) (procedure : ProcedureEntry) → procedure_fits program procedure ≡ true → ProcedureParts program procedure
procedure_parts program procedure h =
    let parts = eleven
    (nat_le procedure.parameters (length procedure.slots))
    (list_all parameter_fits (parameters_of procedure))
    (list_all (λ (slot : SlotEntry). size_fits slot.size && written_fits program.hierarchy slot.written) procedure.slots)
    (nat_le (sum_by (λ (slot : SlotEntry). cell_count slot.size) procedure.slots) MAX_CELLS)
    (result_fits program.hierarchy procedure.result)
    (label_fits program.hierarchy procedure.begin_label)
    (label_fits program.hierarchy procedure.end_label)
    (throws_fit program procedure.throws)
    (block_fits program procedure procedure.body)
    (counts_from 0 (block_loops procedure.body))
    ((length (block_loops procedure.body) == procedure.loops))
    h in
    record {
      parameters_there = parts.0;
      parameters_written = parts.1;
      slots_fit = parts.2;
      frame_cells = parts.3;
      result_label_fits = parts.4;
      begin_label_fits = parts.5;
      end_label_fits = parts.6;
      throws_are = parts.7;
      body_fits = parts.8;
      loops_count_up = parts.9;
      loops_are_all = parts.10;
    }

pub procedure_from_parts : (program : Program) (procedure : ProcedureEntry) → ProcedureParts program procedure → procedure_fits program procedure ≡ true
procedure_from_parts program procedure parts =
    eleven_back
    (nat_le procedure.parameters (length procedure.slots))
    (list_all parameter_fits (parameters_of procedure))
    (list_all (λ (slot : SlotEntry). size_fits slot.size && written_fits program.hierarchy slot.written) procedure.slots)
    (nat_le (sum_by (λ (slot : SlotEntry). cell_count slot.size) procedure.slots) MAX_CELLS)
    (result_fits program.hierarchy procedure.result)
    (label_fits program.hierarchy procedure.begin_label)
    (label_fits program.hierarchy procedure.end_label)
    (throws_fit program procedure.throws)
    (block_fits program procedure procedure.body)
    (counts_from 0 (block_loops procedure.body))
    ((length (block_loops procedure.body) == procedure.loops))
    parts.parameters_there parts.parameters_written parts.slots_fit parts.frame_cells parts.result_label_fits parts.begin_label_fits parts.end_label_fits parts.throws_are parts.body_fits parts.loops_count_up parts.loops_are_all

-- a well-formed program
pub record ProgramParts (program : Program) : Type 0 where
  pub principals_fit : nat_le (length program.hierarchy.names) MAX_PRINCIPALS ≡ true
  pub channels_fit : list_all (λ (entry : ChannelContents). label_fits program.hierarchy entry.label) program.channels ≡ true
  pub globals_are : globals_fit program ≡ true
  pub procedures_fit : list_all (procedure_fits program) program.procedures ≡ true
  pub main_is : main_fits (slice_get program.procedures program.main) ≡ true
  pub nodes_fit : nat_le (program_nodes program) node_limit ≡ true
  pub labels_fit : list_all (λ (entry : ChannelContents). nat_le (label_nodes entry.label) node_limit) program.channels ≡ true

pub program_parts : (program : Program) → well_formed program ≡ true → ProgramParts program
program_parts program h =
    let parts = seven
    (nat_le (length program.hierarchy.names) MAX_PRINCIPALS)
    (list_all (λ (entry : ChannelContents). label_fits program.hierarchy entry.label) program.channels)
    (globals_fit program)
    (list_all (procedure_fits program) program.procedures)
    (main_fits (slice_get program.procedures program.main))
    (nat_le (program_nodes program) node_limit)
    (list_all (λ (entry : ChannelContents). nat_le (label_nodes entry.label) node_limit) program.channels)
    h in
    record {
      principals_fit = parts.0;
      channels_fit = parts.1;
      globals_are = parts.2;
      procedures_fit = parts.3;
      main_is = parts.4;
      nodes_fit = parts.5;
      labels_fit = parts.6;
    }

pub program_from_parts : (program : Program) → ProgramParts program → well_formed program ≡ true
program_from_parts program parts =
    seven_back
    (nat_le (length program.hierarchy.names) MAX_PRINCIPALS)
    (list_all (λ (entry : ChannelContents). label_fits program.hierarchy entry.label) program.channels)
    (globals_fit program)
    (list_all (procedure_fits program) program.procedures)
    (main_fits (slice_get program.procedures program.main))
    (nat_le (program_nodes program) node_limit)
    (list_all (λ (entry : ChannelContents). nat_le (label_nodes entry.label) node_limit) program.channels)
    parts.principals_fit parts.channels_fit parts.globals_are parts.procedures_fit parts.main_is parts.nodes_fit parts.labels_fit

-- what passes a test that all elements pass
pub passes_at : {A : Type 0} (test : A → Bool) (xs : List A) (i : ℕ) (x : A) → list_all test xs ≡ true → slice_get xs i ≡ Some x
    → test x ≡ true
passes_at test [] i x h e = cc
passes_at test (y ∷ ys) zero x h e =
    let same : y ≡ x = cc in
    subst (λ z. test z ≡ true) same (and_parts (test y) _ h).0
passes_at test (y ∷ ys) (suc i) x h e = passes_at test ys i x (and_parts (test y) _ h).1 e

-- a procedure of a well-formed program fits, and is what stands in the table
pub procedure_there : (program : Program) → well_formed program ≡ true → (f : ℕ) (procedure : ProcedureEntry)
    → slice_get program.procedures f ≡ Some procedure → ProcedureParts program procedure
procedure_there program h f procedure e =
    procedure_parts program procedure (passes_at (procedure_fits program) program.procedures f procedure (program_parts program h).procedures_fit e)

pub procedure_at_is : (program : Program) (f : ℕ) (procedure : ProcedureEntry) → slice_get program.procedures f ≡ Some procedure
    → procedure_at program f ≡ procedure
procedure_at_is program f procedure e = get_or_from_slice_get program.procedures f procedure _ e

-- where a result passes a test, a type does
pub result_some : (result : Option ResultEntry) (test : BaseType → Bool) → has_result result test ≡ true → (base : BaseType) × (test base ≡ true)
result_some None test h = absurd (cc)
result_some (Some entry) test h = (entry.base, h)
