-- The machine of a graph, procedure by procedure, and calls: the code of a call does what the call does.
use Rattle.std.proofs.Common.{◌≡◌, ℕ, zero, suc, true, ◌&&◌, List, [], ◌∷◌, ◌++◌, map, refl, sym, ap, ◌∙◌, slice_get, append_assoc, take}
use Rattle.std.specs.Prelude.{Option, Some, None, reverse, replicate}
use Rattle.std.specs.Option.{option_map}
use Rattle.std.specs.List.{list_all}
use Rattle.std.proofs.Math.Path.{fun_ext}
use Rattle.std.proofs.lemmas.List.{append-nil, reverse-append}
use Rattle.std.proofs.lemmas.Option.{slice_get-map}
use Rattle.std.proofs.lemmas.Bool.{and_parts}
use Rattle.common.specs.declared.value.Value.{Value}
use Rattle.common.specs.declared.value.Value.TheVariants.{Int as Number, Bool as Truth}
use Rattle.common.specs.declared.base_type.BaseType.{BaseType}
use Rattle.common.specs.declared.base_type.BaseType.TheVariants as base
use Rattle.labels.specs.Channel.{ChannelContents}
use Rattle.resolved.specs.Program.{Program, ProcedureEntry, SlotEntry, GlobalEntry}
use Rattle.resolved.specs.SourceState as source
use Rattle.common.specs.Values.{kind_of, zero_of}
use Rattle.resolved.specs.Meaning.{cells_of as first_cells_of, first_cells_of_slots, frame_of}
use Rattle.resolved.specs.WellFormed.{slot_type, global_type, first_fits, size_fits, label_fits, same_base, well_formed, parameters_of}
use Rattle.resolved.specs.Kinds.{ArgumentsFit}
use Rattle.resolved.proofs.WellFormedParts.{program_parts, passes_at}
use Rattle.resolved.proofs.Sound.Values.{same_base_is}
use Rattle.common.specs.declared.value.Value.{Value as Cell}
use Rattle.modules.specs.declared.declaration.Slot.{Slot}
use Rattle.modules.specs.declared.declaration.Slot.TheVariants as slot
use Rattle.common.specs.Values.{zero_of}
use Rattle.modules.specs.Values.{has_kind}
use Rattle.modules.specs.Contents.{ProcedureContents}
use Rattle.modules.specs.Machine.{Caller, Header, header_of, handler_for, first_cells, first_slots}
use Rattle.modules.specs.Transitions.{popped}
use Rattle.modules.specs.MachineParts.{slot_of, code_of, handlers_of, slots_of, kinds_of, first_slot}
use Rattle.layout.specs.Runs.{graph_program}
use Rattle.lowering.specs.Interface.{declared_slot, slot_contents, global_contents, scalar_global}
use Rattle.lowering.specs.Code.{block_table}
use Rattle.lowering.specs.Graphs.{body_code}
use Rattle.lowering.proofs.Unthreaded.{unthreaded_procedure, unthreaded_graph}
use Rattle.lowering.proofs.States.{Setting, cell_of, cells_of, slot_of_type, direction_in, kind-same}
use Rattle.lowering.proofs.Statements.{pushed}

-- ---- tables

pub slot_same : (o : Option SlotEntry) → option_map slot_contents o ≡ slot_of_type (slot_type o)
slot_same None = refl
slot_same (Some entry) = refl

scalar_same : (v : Value) (b : BaseType) → kind_of v ≡ b → slot_of (scalar_global v) ≡ slot.Scalar b
scalar_same (Number z) base.Int e = refl
scalar_same (Truth t) base.Boolean e = refl
scalar_same (Number z) base.Boolean e = cc
scalar_same (Truth t) base.Int e = cc

global_same : (entry : GlobalEntry) (size : Option ℕ) → entry.size ≡ size → kind_of entry.first ≡ entry.base
    → slot_of (global_contents entry) ≡ declared_slot entry.base entry.size
global_same entry None e h = rw e (scalar_same entry.first entry.base h)
global_same entry (Some count) e h = rw e refl

pub global_there : (program : Program) → well_formed program ≡ true → (k : ℕ) (o : Option GlobalEntry) → slice_get program.globals k ≡ o
    → option_map (λ entry. slot_of (global_contents entry)) o ≡ slot_of_type (global_type o)
global_there program formed k None e = refl
global_there program formed k (Some entry) e =
    let all_fit : list_all (λ (entry : GlobalEntry). size_fits entry.size && label_fits program.hierarchy entry.label && first_fits entry) program.globals ≡ true =
    (and_parts (list_all _ program.globals) _ (program_parts program formed).globals_are).0 in
    let fit : first_fits entry ≡ true =
    (and_parts (size_fits entry.size && label_fits program.hierarchy entry.label) _ (passes_at _ program.globals k entry all_fit e)).1 in
    ap (λ (s : Slot). Some s) (global_same entry entry.size refl (same_base_is (kind_of entry.first) entry.base (and_parts (same_base (kind_of entry.first) entry.base) _ fit).0))

pub direction_same : (o : Option ChannelContents) → option_map (λ (entry : ChannelContents). entry.direction) o ≡ direction_in o
direction_same None = refl
direction_same (Some entry) = refl

pub option_twice : {A B C : Type 0} (f : A → B) (h : B → C) (o : Option A) → option_map h (option_map f o) ≡ option_map (λ x. h (f x)) o
option_twice f h None = refl
option_twice f h (Some x) = refl

pub procedure_there : (program : Program) (f : ℕ) (entry : ProcedureEntry) → slice_get program.procedures f ≡ Some entry
    → slice_get (unthreaded_graph program).procedures f ≡ Some (unthreaded_procedure program entry)
procedure_there program f entry there = slice_get-map (unthreaded_procedure program) program.procedures f ∙ ap (option_map (unthreaded_procedure program)) there

-- a procedure of the program in its graph, under callers
abbrev pub setting_of : (program : Program) → well_formed program ≡ true → source.World → (f : ℕ) (entry : ProcedureEntry)
    → slice_get program.procedures f ≡ Some entry → List Caller → Setting
setting_of program formed world f entry there callers =
    let graph = unthreaded_graph program in
    let is : slice_get graph.procedures f ≡ Some (unthreaded_procedure program entry) = procedure_there program f entry there in
    let heads : slice_get (map header_of graph.procedures) f ≡ Some (header_of (unthreaded_procedure program entry)) =
    slice_get-map header_of graph.procedures f ∙ ap (option_map header_of) is in
    record {
      program = program;
      procedure = entry;
      p = graph_program graph;
      number = f;
      world = world;
      callers = callers;
      code = body_code program entry.body;
      fetched = λ i. ap (λ (o : Option ProcedureContents). slice_get (code_of o) i) is;
      goes_next = λ i. refl;
      header = header_of (unthreaded_procedure program entry);
      header_is = heads;
      returned_is = refl;
      locals_there = λ k. ap (λ (o : Option Header). slice_get (slots_of o) k) heads ∙ slice_get-map slot_contents entry.slots k ∙ slot_same (slice_get entry.slots k);
      globals_there = λ k. slice_get-map slot_of (map global_contents program.globals) k ∙ ap (option_map slot_of) (slice_get-map global_contents program.globals k)
          ∙ option_twice global_contents slot_of (slice_get program.globals k) ∙ global_there program formed k (slice_get program.globals k) refl;
      channels_there = λ k. slice_get-map (λ (channel : ChannelContents). channel.direction) program.channels k ∙ direction_same (slice_get program.channels k);
      exceptions_there = refl;
    }

pub found-there : (program : Program) (f : ℕ) (entry : ProcedureEntry) → slice_get program.procedures f ≡ Some entry → (i e : ℕ)
    → (graph_program (unthreaded_graph program)).find f i e ≡ handler_for (block_table program 0 entry.body) i e
found-there program f entry there i e = ap (λ (o : Option ProcedureContents). handler_for (handlers_of o) i e) (procedure_there program f entry there)

-- ---- arguments

pub reverse_more : {A : Type 0} (x : A) (xs more : List A) → reverse (x ∷ xs) ++ more ≡ reverse xs ++ x ∷ more
reverse_more x xs more = ap (λ l. l ++ more) (reverse-append (x ∷ []) xs) ∙ append_assoc (reverse xs) (x ∷ []) more

-- values of these kinds, as many
abbrev pub KindsAre : List BaseType → List Value → Type 0
KindsAre [] [] = Unit {0}
KindsAre [] (v ∷ vs) = ⊥
KindsAre (kind ∷ kinds) [] = ⊥
KindsAre (kind ∷ kinds) (v ∷ vs) = (has_kind kind (cell_of v) ≡ true) × KindsAre kinds vs

popped_more : (kinds more : List BaseType) (vs : List Value) (arguments operands : List Cell) → KindsAre kinds vs
    → popped (reverse kinds ++ more) arguments (pushed vs operands) ≡ popped more (cells_of vs ++ arguments) operands
popped_more [] more [] arguments operands h = refl
popped_more [] more (v ∷ vs) arguments operands h = absurd h
popped_more (kind ∷ kinds) more [] arguments operands h = absurd h
popped_more (kind ∷ kinds) more (v ∷ vs) arguments operands h =
    ap (λ (l : List BaseType). popped l arguments (pushed vs (cell_of v ∷ operands))) (reverse_more kind kinds more)
    ∙ popped_more kinds (kind ∷ more) vs arguments (cell_of v ∷ operands) h.1
    ∙ last h.0
  where
    last : has_kind kind (cell_of v) ≡ true → popped (kind ∷ more) (cells_of vs ++ arguments) (cell_of v ∷ operands) ≡ popped more (cell_of v ∷ (cells_of vs ++ arguments)) operands
    last e = rw e refl

kinds_are : (n : ℕ) (slots : List SlotEntry) (vs : List Value) → ArgumentsFit (take n slots) vs → KindsAre (kinds_of (take n (map slot_contents slots))) vs
kinds_are zero slots [] h = tt
kinds_are zero slots (v ∷ vs) h = absurd h
kinds_are (suc n) [] [] h = tt
kinds_are (suc n) [] (v ∷ vs) h = absurd h
kinds_are (suc n) (entry ∷ slots) [] h = absurd h
kinds_are (suc n) (entry ∷ slots) (v ∷ vs) h = by (kinds_are n slots vs h.1) entry.size refl
  where
    by : KindsAre (kinds_of (take n (map slot_contents slots))) vs → (size : Option ℕ) → entry.size ≡ size → KindsAre (kinds_of (slot_contents entry ∷ take n (map slot_contents slots))) (v ∷ vs)
    by more None e = rw e (kind-same v entry.base h.0, more)
    by more (Some count) e = rw e (kind-same v entry.base h.0, more)

pub popped-all : (entry : ProcedureEntry) (vs : List Value) → ArgumentsFit (parameters_of entry) vs
    → popped (reverse (kinds_of (take entry.parameters (map slot_contents entry.slots)))) [] (pushed vs []) ≡ Some (cells_of vs, [])
popped-all entry vs h =
    let kinds = kinds_of (take entry.parameters (map slot_contents entry.slots)) in
    ap (λ (l : List BaseType). popped l [] (pushed vs [])) (sym (append-nil (reverse kinds)))
    ∙ popped_more kinds [] vs [] [] (kinds_are entry.parameters entry.slots vs h)
    ∙ ap (λ (l : List Cell). Some (l, [])) (append-nil (cells_of vs))

-- ---- new frames

zero_cell : (b : BaseType) → cell_of (zero_of b) ≡ zero_of b
zero_cell base.Int = refl
zero_cell base.Boolean = refl

pub cells_replicated : (n : ℕ) (v : Value) → cells_of (replicate n v) ≡ replicate n (cell_of v)
cells_replicated zero v = refl
cells_replicated (suc n) v = ap (λ (l : List Cell). cell_of v ∷ l) (cells_replicated n v)

first_same : (b : BaseType) (size : Option ℕ) → first_cells (declared_slot b size) ≡ cells_of (first_cells_of size (zero_of b))
first_same b None = ap (λ (c : Cell). c ∷ []) (sym (zero_cell b))
first_same b (Some count) = ap (replicate count) (sym (zero_cell b)) ∙ sym (cells_replicated count (zero_of b))

-- no argument without a parameter
argument_there : (m : ℕ) (slots : List SlotEntry) (vs : List Value) (n : ℕ) (v : Value) → ArgumentsFit (take m slots) vs → slice_get slots n ≡ None → slice_get vs n ≡ Some v → ⊥
argument_there zero slots [] n v h e f = cc
argument_there zero slots (w ∷ vs) n v h e f = absurd h
argument_there (suc m) [] [] n v h e f = cc
argument_there (suc m) [] (w ∷ vs) n v h e f = absurd h
argument_there (suc m) (entry ∷ slots) [] n v h e f = absurd h
argument_there (suc m) (entry ∷ slots) (w ∷ vs) zero v h e f = cc
argument_there (suc m) (entry ∷ slots) (w ∷ vs) (suc n) v h e f = argument_there m slots vs n v h.1 e f

slot_begins : (o : Option SlotEntry) (argument : Option Value) → ((v : Value) → o ≡ None → argument ≡ Some v → ⊥)
    → first_slot (option_map cell_of argument) (option_map slot_contents o) ≡ cells_of (first_cells_of_slots o argument)
slot_begins None None none = refl
slot_begins None (Some v) none = absurd (none v refl refl)
slot_begins (Some entry) None none = first_same entry.base entry.size
slot_begins (Some entry) (Some v) none = refl

pub slots-begin : (entry : ProcedureEntry) (vs : List Value) → ArgumentsFit (parameters_of entry) vs
    → first_slots (map slot_contents entry.slots) (cells_of vs) ≡ (λ n. cells_of (frame_of entry.slots vs n))
slots-begin entry vs h = fun_ext (λ n.
    ap (λ (o : Option Cell). first_slot o (slice_get (map slot_contents entry.slots) n)) (slice_get-map cell_of vs n)
    ∙ ap (first_slot (option_map cell_of (slice_get vs n))) (slice_get-map slot_contents entry.slots n)
    ∙ slot_begins (slice_get entry.slots n) (slice_get vs n) (λ v e f. argument_there entry.parameters entry.slots vs n v h e f))
