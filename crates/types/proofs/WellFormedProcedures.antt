-- The procedures that are found fit the program, where their frames have few enough cells.
use Rattle.std.proofs.Common.{◌≡◌, refl, sym, ◌∙◌, subst, ap, ℕ, ◌+◌, ◌≤◌, List, [], ◌∷◌, ◌++◌, map, length, take, Bool, true, false, append-nil, append_assoc, arith}
use Rattle.std.specs.Prelude.{IfOk, Option, Some, None, ◌==◌, ◌&&◌, not, nat_le, sum_by, unwrap_or}
use Rattle.std.specs.List.{list_all, list_any}
use Rattle.std.proofs.lemmas.Bool.{eq-eqb, eqb-true, le-leb, or_parts, or_from, and_from, and_parts, not-true}
use Rattle.std.proofs.lemmas.List.{length-map, length-append, map_push}
use Rattle.std.proofs.lemmas.List.Folds.{list_all-append}
use Rattle.std.proofs.lemmas.List.Sums.{sum_by-cons}
use Rattle.std.proofs.Math.Seq.{take-append_seam}
use Rattle.principals.specs.ActsFor.{PrincipalHierarchy}
use Rattle.labels.specs.Label.{Label}
use Rattle.syntax.specs.Nodes as tree
use Rattle.syntax.specs.Tree.{WrittenResultTree, ParameterTree, ThrownTree, ProcedureTree, LabelTree}
use Rattle.syntax.specs.Written.{IsInteger, IsWrittenProcedure}
use Rattle.common.specs.declared.base_type.BaseType.{BaseType}
use Rattle.resolved.specs.declared.expression.Variable.TheVariants.{Local}
use Rattle.resolved.specs.Program.{Program, GlobalEntry, ProcedureEntry, SlotEntry, ResultEntry, ThrownEntry}
use Rattle.resolved.specs.Tree.{Block}
use Rattle.resolved.specs.WellFormed.{is_exception, label_fits, written_fits, result_fits, size_fits, parameter_fits, throws_fit, block_loops, counts_from, procedure_fits, procedure_nodes, cell_count}
use Rattle.resolved.proofs.WellFormedParts.{procedure_from_parts}
use Rattle.types.specs.declared.scope.ItemKind.TheVariants.{Exception}
use Rattle.types.specs.declared.scope.Meaning.TheVariants as meanings
use Rattle.common.specs.Results.{along}
use Rattle.types.specs.Finding.{require, of_option, ◌gives◌}
use Rattle.types.specs.Environment.{Environment, fresh_finding, use_as, item_of}
use Rattle.types.specs.Labels.{LabelScope, label_finding, optional_label_finding}
use Rattle.types.specs.Statements.{Signature, Setting, Point, block_finding, slot_of, declared_finding, with_local}
use Rattle.types.specs.Views.{setting_within}
use Rattle.types.specs.Resolution.{TopLevel, heads, result_base_of, signature_of, result_finding, next_parameter, is_thrown, next_thrown, procedure_entry_finding, joined_all}
use Rattle.types.proofs.Passing.{then_finds, require_finds, any_finds, finds_for_all}
use Rattle.types.proofs.WellFormedExpressions.{given_base, slot_base, Signed, Stands, Means, means_declaring, item_found}
use Rattle.types.proofs.WellFormedLabels.{GlobalsFit, SlotsFit, label_there, optional_label_there, joined_all_there, all_pushed}
use Rattle.types.proofs.WellFormedStatements.{slot_fits, IsPrefix, IsWellFormedBlock, prefix_before, local_there, block_keeps}
use Rattle.common.specs.declared.limits.TheConstants.{MAX_CELLS}

-- ---- lists of exceptions

not_same : (m n : ℕ) → (m == n) ≡ false → (n == m) ≡ false
not_same m n e = go (n == m) refl
  where
    go : (test : Bool) → (n == m) ≡ test → test ≡ false
    go false f = refl
    go true f =
        let same : n ≡ m = eqb-true n m f in
        let yes : (m == n) ≡ true = eq-eqb m n (sym same) in
        absurd (cc)

any_pushed : {X : Type 0} (test : X → Bool) (xs : List X) (x : X) → list_any test xs ≡ false → test x ≡ false → list_any test (xs ++ x ∷ []) ≡ false
any_pushed test [] x e f = or_from (test x) false f refl
any_pushed test (y ∷ xs) x e f =
    let parts = or_parts (test y) (list_any test xs) e in
    or_from (test y) (list_any test (xs ++ x ∷ [])) parts.0 (any_pushed test xs x parts.1 f)

throws_pushed : (program : Program) (throws : List ThrownEntry) (new : ThrownEntry) → throws_fit program throws ≡ true
    → is_thrown throws new.exception ≡ false → is_exception program new.exception ≡ true → label_fits program.hierarchy new.label ≡ true
    → throws_fit program (throws ++ new ∷ []) ≡ true
throws_pushed program [] new fit absent there labelled =
    and_from (is_exception program new.exception && label_fits program.hierarchy new.label && true) true
    (and_from (is_exception program new.exception && label_fits program.hierarchy new.label) true
    (and_from (is_exception program new.exception) (label_fits program.hierarchy new.label) there labelled) refl) refl
throws_pushed program (entry ∷ rest) new fit absent there labelled =
    let names_it = λ (other : ThrownEntry). other.exception == entry.exception in
    let a = is_exception program entry.exception && label_fits program.hierarchy entry.label in
    let outer = and_parts (a && not (list_any names_it rest)) (throws_fit program rest) fit in
    let inner = and_parts a (not (list_any names_it rest)) outer.0 in
    let absent_parts = or_parts (entry.exception == new.exception) (is_thrown rest new.exception) absent in
    let once : list_any names_it (rest ++ new ∷ []) ≡ false =
    any_pushed names_it rest new (not-true (list_any names_it rest) inner.1) (not_same entry.exception new.exception absent_parts.0) in
    and_from (a && not (list_any names_it (rest ++ new ∷ []))) (throws_fit program (rest ++ new ∷ []))
    (and_from a (not (list_any names_it (rest ++ new ∷ []))) inner.0 (ap not once))
    (throws_pushed program rest new outer.1 absent_parts.1 there labelled)

-- ---- parts of a procedure

abbrev pub parameter_base : ParameterTree → BaseType
parameter_base parameter = parameter.base

-- the point after parameters of these types, of which each has a label
record Begun (program : Program) (procedure : ProcedureEntry) (setting : Setting) (names : Environment) (bases : List BaseType) (point : Point) : Type 0 where
  pub slots_fit : list_all (slot_fits setting) point.slots ≡ true
  pub parameters_fit : list_all parameter_fits point.slots ≡ true
  pub bases_are : map slot_base point.slots ≡ bases
  pub no_loops : point.loops ≡ 0
  pub means : IsPrefix program procedure setting point.slots → Means program procedure setting.signatures names → Means program procedure setting.signatures point.names

-- a label that stands there
one_label_there : (scope : LabelScope) (globals_fit : GlobalsFit scope.hierarchy scope.globals) (slots_fit : SlotsFit scope.hierarchy scope.slots) (label : LabelTree)
    → IfOk (optional_label_finding scope (Some label)) (λ written. (found : Label) × (written ≡ Some found) × (label_fits scope.hierarchy found ≡ true))
unfolding of_option
one_label_there scope globals_fit slots_fit label =
    then_finds (label_finding scope label) _ (λ found. label_fits scope.hierarchy found ≡ true) _ (label_there scope globals_fit slots_fit label)
    (λ found there. (found, refl, there))

parameters_begin : (program : Program) (procedure : ProcedureEntry) (setting : Setting) (scope : LabelScope) (same : scope.hierarchy ≡ setting.outer.hierarchy) (globals_fit : GlobalsFit scope.hierarchy scope.globals)
    (slots_fit : SlotsFit scope.hierarchy scope.slots) (names : Environment) (bases all : List BaseType) (point : Point) (parameters : List ParameterTree)
    → all ≡ bases ++ map parameter_base parameters → Begun program procedure setting names bases point
    → IfOk (along (next_parameter scope) point parameters) (Begun program procedure setting names all)
unfolding declared_finding
parameters_begin program procedure setting scope same globals_fit slots_fit names bases all point [] e begun =
    subst (λ one. Begun program procedure setting names one point) (sym (e ∙ append-nil bases)) begun
parameters_begin program procedure setting scope same globals_fit slots_fit names bases all point (parameter ∷ parameters) e begun =
    let base = parameter_base parameter in
    then_finds (next_parameter scope point parameter) (λ next. along (next_parameter scope) next parameters)
    (Begun program procedure setting names (bases ++ base ∷ [])) _
    (then_finds (optional_label_finding scope (Some parameter.label)) _
    (λ written. (label : Label) × (written ≡ Some label) × (label_fits scope.hierarchy label ≡ true)) _
    (one_label_there scope globals_fit slots_fit parameter.label) (λ written (label, written_is, there).
    subst (λ written. IfOk (fresh_finding (point.names parameter.name.text) parameter.name.at gives λ _. with_local point (slot_of parameter.at base written parameter.name.text None))
    (Begun program procedure setting names (bases ++ base ∷ []))) (sym written_is)
    (then_finds (fresh_finding (point.names parameter.name.text) parameter.name.at) _ (λ one. Unit {0}) _
    (any_finds (fresh_finding (point.names parameter.name.text) parameter.name.at)) (λ one nothing.
    let slot = slot_of parameter.at base (Some label) parameter.name.text None in
    record {
      slots_fit = all_pushed (slot_fits setting) point.slots slot begun.slots_fit (and_from true (label_fits setting.outer.hierarchy label) refl (subst (λ h. label_fits h label ≡ true) same there));
      parameters_fit = all_pushed parameter_fits point.slots slot begun.parameters_fit refl;
      bases_are = map_push slot_base point.slots slot ∙ ap (λ one. one ++ base ∷ []) begun.bases_are;
      no_loops = begun.no_loops;
      means =
          λ is means. means_declaring program procedure setting.signatures parameter.name.text (meanings.Variable (Local (length point.slots)) base None) point.names
          (local_there program procedure setting point.slots slot is)
          (begun.means (prefix_before program procedure setting point.slots (slot ∷ []) (point.slots ++ slot ∷ []) refl is) means);
    }))))
    (λ next begun_next.
    parameters_begin program procedure setting scope same globals_fit slots_fit names (bases ++ base ∷ []) all next parameters
    (e ∙ sym (append_assoc bases (base ∷ []) (map parameter_base parameters))) begun_next)

-- exceptions that are there where names mean what they do
record AreWellFormedThrows (program : Program) (procedure : ProcedureEntry) (signatures : List Signature) (h : PrincipalHierarchy) (names : Environment) (nodes : ℕ) (throws : List ThrownEntry) : Type 0 where
  pub fit : program.hierarchy ≡ h → Means program procedure signatures names → throws_fit program throws ≡ true
  pub labels : list_all (λ (thrown : ThrownEntry). label_fits h thrown.label) throws ≡ true
  pub few : length throws ≤ nodes

throws_keep : (program : Program) (procedure : ProcedureEntry) (signatures : List Signature) (scope : LabelScope) (globals_fit : GlobalsFit scope.hierarchy scope.globals)
    (slots_fit : SlotsFit scope.hierarchy scope.slots) (before nodes : ℕ) (throws : List ThrownEntry) (written : List ThrownTree)
    → nodes ≡ before + sum_by tree.thrown_nodes written → AreWellFormedThrows program procedure signatures scope.hierarchy scope.names before throws
    → IfOk (along (next_thrown scope) throws written) (AreWellFormedThrows program procedure signatures scope.hierarchy scope.names nodes)
throws_keep program procedure signatures scope globals_fit slots_fit before nodes throws [] e kept =
    record { fit = kept.fit; labels = kept.labels; few = omega (arith, e, kept.few) }
throws_keep program procedure signatures scope globals_fit slots_fit before nodes throws (thrown ∷ written) e kept =
    then_finds (next_thrown scope throws thrown) (λ next. along (next_thrown scope) next written)
    (AreWellFormedThrows program procedure signatures scope.hierarchy scope.names (before + tree.thrown_nodes thrown)) _
    (then_finds (use_as (item_of Exception) (scope.names thrown.0.text) thrown.0.at) _
    (λ number. Means program procedure signatures scope.names → Stands program procedure signatures (meanings.Item Exception number)) _
    (item_found program procedure signatures Exception scope.names thrown.0) (λ exception stands.
    then_finds (require (not (is_thrown throws exception)) _ thrown.0.at) _ (λ one. not (is_thrown throws exception) ≡ true) _
    (require_finds (not (is_thrown throws exception)) _ thrown.0.at) (λ one absent.
    then_finds (label_finding scope thrown.1) _ (λ found. label_fits scope.hierarchy found ≡ true) _
    (label_there scope globals_fit slots_fit thrown.1) (λ label there.
    let new : ThrownEntry = record { exception = exception; label = label } in
    record {
      fit =
          λ same means. throws_pushed program throws new (kept.fit same means) (not-true (is_thrown throws exception) absent) (stands means)
          (subst (λ one. label_fits one label ≡ true) (sym same) there);
      labels = all_pushed (λ (thrown : ThrownEntry). label_fits scope.hierarchy thrown.label) throws new kept.labels there;
      few = omega (arith, length-append throws (new ∷ []), kept.few);
    }))))
    (λ next kept_next.
    throws_keep program procedure signatures scope globals_fit slots_fit (before + tree.thrown_nodes thrown) nodes next written
    (omega (arith, e, sum_by-cons tree.thrown_nodes thrown written)) kept_next)

result_there : (scope : LabelScope) (globals_fit : GlobalsFit scope.hierarchy scope.globals) (slots_fit : SlotsFit scope.hierarchy scope.slots) (finding : WrittenResultTree)
    → IfOk (result_finding scope finding) (λ found. (result_fits scope.hierarchy found ≡ true) × (given_base found ≡ result_base_of finding))
unfolding of_option
result_there scope globals_fit slots_fit None = (refl, refl)
result_there scope globals_fit slots_fit (Some (base, label)) =
    then_finds (label_finding scope label gives λ written. record { base = base; label = written }) _
    (λ (entry : ResultEntry). (label_fits scope.hierarchy entry.label ≡ true) × (entry.base ≡ base)) _
    (then_finds (label_finding scope label) _ (λ found. label_fits scope.hierarchy found ≡ true) _ (label_there scope globals_fit slots_fit label)
    (λ found there. (there, refl)))
    (λ entry kept. (kept.0, ap Some kept.1))

begin_there : (h : PrincipalHierarchy) (written : Option Label) → written_fits h written ≡ true → label_fits h (unwrap_or written []) ≡ true
begin_there h None e = refl
begin_there h (Some label) e = e

end_there : (h : PrincipalHierarchy) (written : Option Label) (begin : Label) (throws : List ThrownEntry) → written_fits h written ≡ true
    → label_fits h begin ≡ true → list_all (λ (thrown : ThrownEntry). label_fits h thrown.label) throws ≡ true
    → label_fits h (unwrap_or written (joined_all begin throws)) ≡ true
end_there h None begin throws e f g = joined_all_there h begin throws f g
end_there h (Some label) begin throws e f g = e

-- ---- procedures

-- a whole program of a hierarchy, in which the names of the items mean what they do
pub record World (h : PrincipalHierarchy) (top : TopLevel) : Type 0 where
  pub program : Program
  pub hierarchy : program.hierarchy ≡ h
  pub means : (procedure : ProcedureEntry) → Means program procedure top.signatures top.names

pub record IsWellFormedProcedure (h : PrincipalHierarchy) (top : TopLevel) (written : ProcedureTree) (entry : ProcedureEntry) : Type 0 where
  pub fits : (world : World h top) → nat_le (sum_by (λ (slot : SlotEntry). cell_count slot.size) entry.slots) MAX_CELLS ≡ true → procedure_fits world.program entry ≡ true
  pub signed : Signed entry (signature_of written)
  pub few : procedure_nodes entry ≤ tree.procedure_nodes written

-- a procedure of a program, which gives a value of the type that is wanted
record Bucket (h : PrincipalHierarchy) (top : TopLevel) (result : Option BaseType) : Type 0 where
  pub program : Program
  pub procedure : ProcedureEntry
  pub value : given_base procedure.result ≡ result

abbrev setting_for : PrincipalHierarchy → TopLevel → List GlobalEntry → ProcedureTree → Setting
setting_for h top globals written = setting_within (heads h top globals) top.signatures written

-- what was found of the parts of a procedure
record AreWellFormedParts (h : PrincipalHierarchy) (top : TopLevel) (globals : List GlobalEntry) (written : ProcedureTree) (result : Option ResultEntry) (begin : Option Label) (point : Point) (end : Option Label) (throws : List ThrownEntry) (done : Point × Block) : Type 0 where
  pub result_there : (result_fits h result ≡ true) × (given_base result ≡ result_base_of written.result)
  pub begin_there : written_fits h begin ≡ true
  pub begun : (place : Bucket h top (result_base_of written.result)) → Begun place.program place.procedure (setting_for h top globals written) top.names (map parameter_base written.parameters) point
  pub end_there : written_fits h end ≡ true
  pub throws_kept : (place : Bucket h top (result_base_of written.result)) → AreWellFormedThrows place.program place.procedure top.signatures h top.names (sum_by tree.thrown_nodes written.throws) throws
  pub done_kept : (place : Bucket h top (result_base_of written.result)) → IsWellFormedBlock place.program place.procedure (setting_for h top globals written) point (tree.block_nodes written.body) done

abbrev entry_with : ProcedureTree → Option ResultEntry → Option Label → Option Label → List ThrownEntry → Point × Block → ProcedureEntry
entry_with written result begin end throws done = record {
  at = written.name.at;
  name = written.name.text;
  result = result;
  begin_label = unwrap_or begin [];
  end_label = unwrap_or end (joined_all (unwrap_or begin []) throws);
  throws = throws;
  parameters = length written.parameters;
  slots = done.0.slots;
  loops = done.0.loops;
  body = done.1;
}

parameters_cost : (parameters : List ParameterTree) → length parameters ≤ sum_by tree.parameter_nodes parameters
parameters_cost [] = omega arith
parameters_cost (parameter ∷ parameters) = omega (arith, sum_by-cons tree.parameter_nodes parameter parameters, parameters_cost parameters)

module _ (h : PrincipalHierarchy) (top : TopLevel) (globals : List GlobalEntry) (globals_fit : GlobalsFit h globals) (written : ProcedureTree) (result : Option ResultEntry) (begin : Option Label) (point : Point) (end : Option Label) (throws : List ThrownEntry) (done : Point × Block) (parts : AreWellFormedParts h top globals written result begin point end throws done) where
  abbrev setting : Setting
  setting = setting_for h top globals written

  abbrev entry : ProcedureEntry
  entry = entry_with written result begin end throws done

  parts_fit : (world : World h top) → nat_le (sum_by (λ (slot : SlotEntry). cell_count slot.size) done.0.slots) MAX_CELLS ≡ true → procedure_fits world.program entry ≡ true
  parts_fit world few_cells =
      let place : Bucket h top (result_base_of written.result) = record { program = world.program; procedure = entry; value = parts.result_there.1 } in
      let begun = parts.begun place in
      let kept = parts.done_kept place in
      let thrown = parts.throws_kept place in
      let long : length (map slot_base point.slots) ≡ length (map parameter_base written.parameters) = ap length begun.bases_are in
      let count : length point.slots ≡ length written.parameters =
      omega (arith, long, length-map point.slots slot_base, length-map written.parameters parameter_base) in
      let first : take (length written.parameters) done.0.slots ≡ point.slots =
      ap (λ n. take n done.0.slots) (sym count) ∙ ap (λ one. take (length point.slots) one) kept.slots ∙ take-append_seam point.slots kept.more in
      let counted : length done.0.slots ≡ length point.slots + length kept.more = ap length kept.slots ∙ length-append point.slots kept.more in
      let whole : IsPrefix world.program entry setting done.0.slots = ([], sym (append-nil done.0.slots)) in
      let all : list_all (slot_fits setting) done.0.slots ≡ true =
      ap (list_all (slot_fits setting)) kept.slots ∙ list_all-append (slot_fits setting) point.slots kept.more
      ∙ and_from (list_all (slot_fits setting) point.slots) (list_all (slot_fits setting) kept.more) begun.slots_fit (kept.slots_fit (globals_fit, begun.slots_fit)) in
      let before : IsPrefix world.program entry setting point.slots =
      prefix_before world.program entry setting point.slots kept.more done.0.slots kept.slots whole in
      let begins : label_fits h (unwrap_or begin []) ≡ true = begin_there h begin parts.begin_there in
      let loops : done.0.loops ≡ point.loops + length (block_loops done.1) = kept.loops_all in
      let none : point.loops ≡ 0 = begun.no_loops in
      procedure_from_parts world.program entry (record {
        parameters_there = le-leb (length written.parameters) (length done.0.slots) (omega (arith, count, counted));
        parameters_written = ap (list_all parameter_fits) first ∙ begun.parameters_fit;
        slots_fit =
            subst (λ one. list_all (λ (slot : SlotEntry). size_fits slot.size && written_fits one slot.written) done.0.slots ≡ true)
            (sym world.hierarchy) all;
        frame_cells = few_cells;
        result_label_fits = subst (λ one. result_fits one result ≡ true) (sym world.hierarchy) parts.result_there.0;
        begin_label_fits = subst (λ one. label_fits one (unwrap_or begin []) ≡ true) (sym world.hierarchy) begins;
        end_label_fits =
            subst (λ one. label_fits one (unwrap_or end (joined_all (unwrap_or begin []) throws)) ≡ true) (sym world.hierarchy)
            (end_there h end (unwrap_or begin []) throws parts.end_there begins thrown.labels);
        throws_are = thrown.fit world.hierarchy (world.means entry);
        body_fits = kept.fits whole (begun.means before (world.means entry));
        loops_count_up = subst (λ n. counts_from n (block_loops done.1) ≡ true) none kept.loops_count;
        loops_are_all = eq-eqb (length (block_loops done.1)) done.0.loops (omega (arith, loops, none));
      })

  -- the rest does not depend on the program
  parts_signed : (program : Program) → Signed entry (signature_of written)
  parts_signed program =
      let place : Bucket h top (result_base_of written.result) = record { program = program; procedure = entry; value = parts.result_there.1 } in
      let begun = parts.begun place in
      let kept = parts.done_kept place in
      let long : length (map slot_base point.slots) ≡ length (map parameter_base written.parameters) = ap length begun.bases_are in
      let count : length point.slots ≡ length written.parameters =
      omega (arith, long, length-map point.slots slot_base, length-map written.parameters parameter_base) in
      let first : take (length written.parameters) done.0.slots ≡ point.slots =
      ap (λ n. take n done.0.slots) (sym count) ∙ ap (λ one. take (length point.slots) one) kept.slots ∙ take-append_seam point.slots kept.more in
      record { parameters = ap (map slot_base) first ∙ begun.bases_are; value = parts.result_there.1 }

  parts_few : (program : Program) → procedure_nodes entry ≤ tree.procedure_nodes written
  parts_few program =
      let place : Bucket h top (result_base_of written.result) = record { program = program; procedure = entry; value = parts.result_there.1 } in
      let begun = parts.begun place in
      let kept = parts.done_kept place in
      let thrown = parts.throws_kept place in
      let long : length (map slot_base point.slots) ≡ length (map parameter_base written.parameters) = ap length begun.bases_are in
      let counted : length done.0.slots ≡ length point.slots + length kept.more = ap length kept.slots ∙ length-append point.slots kept.more in
      omega (
        arith,
        long,
        length-map point.slots slot_base,
        length-map written.parameters parameter_base,
        counted,
        kept.few,
        thrown.few,
        parameters_cost written.parameters,
      )

-- any program
some_program : PrincipalHierarchy → Program
some_program h = record { hierarchy = h; channels = []; exceptions = []; globals = []; procedures = []; main = 0 }

pub procedure_keeps : (placed : ℕ → Type 0) (word : List ℕ → Type 0) (h : PrincipalHierarchy) (top : TopLevel) (globals : List GlobalEntry) → GlobalsFit h globals → (written : ProcedureTree)
    → IsWrittenProcedure placed word IsInteger written → IfOk (procedure_entry_finding (heads h top globals) top.signatures written) (IsWellFormedProcedure h top written)
unfolding procedure_entry_finding
procedure_keeps placed word h top globals globals_fit written is =
    let setting = setting_for h top globals written in
    let scope = heads h top globals in
    let Here = Bucket h top (result_base_of written.result) in
    let begin_point : Point = record { names = top.names; slots = []; loops = 0 } in
    then_finds (result_finding scope written.result) _ (λ found. (result_fits h found ≡ true) × (given_base found ≡ result_base_of written.result)) _
    (result_there scope globals_fit refl written.result) (λ result result_is.
    then_finds (optional_label_finding scope written.begin) _ (λ found. written_fits h found ≡ true) _ (optional_label_there scope globals_fit refl written.begin) (λ begin begin_is.
    then_finds (along (next_parameter scope) begin_point written.parameters) _
    (λ point. (place : Here) → Begun place.program place.procedure setting top.names (map parameter_base written.parameters) point) _
    (finds_for_all (along (next_parameter scope) begin_point written.parameters)
    (λ (place : Here) point. Begun place.program place.procedure setting top.names (map parameter_base written.parameters) point)
    (λ place. parameters_begin place.program place.procedure setting scope refl globals_fit refl top.names [] (map parameter_base written.parameters) begin_point written.parameters refl
    (record { slots_fit = refl; parameters_fit = refl; bases_are = refl; no_loops = refl; means = λ is means. means }))) (λ point begun.
    then_finds (optional_label_finding scope written.end) _ (λ found. written_fits h found ≡ true) _ (optional_label_there scope globals_fit refl written.end) (λ end end_is.
    then_finds (along (next_thrown scope) [] written.throws) _
    (λ throws. (place : Here) → AreWellFormedThrows place.program place.procedure top.signatures h top.names (sum_by tree.thrown_nodes written.throws) throws) _
    (finds_for_all (along (next_thrown scope) [] written.throws)
    (λ (place : Here) throws. AreWellFormedThrows place.program place.procedure top.signatures h top.names (sum_by tree.thrown_nodes written.throws) throws)
    (λ place. throws_keep place.program place.procedure top.signatures scope globals_fit refl 0 (sum_by tree.thrown_nodes written.throws) [] written.throws (omega arith)
    (record { fit = λ same means. refl; labels = refl; few = omega arith }))) (λ throws throws_kept.
    then_finds (block_finding setting point written.body) _
    (λ done. (place : Here) → IsWellFormedBlock place.program place.procedure setting point (tree.block_nodes written.body) done) _
    (finds_for_all (block_finding setting point written.body)
    (λ (place : Here) done. IsWellFormedBlock place.program place.procedure setting point (tree.block_nodes written.body) done)
    (λ place. block_keeps place.program place.procedure setting placed word place.value point written.body is.body)) (λ done done_kept.
    let parts : AreWellFormedParts h top globals written result begin point end throws done = record {
      result_there = result_is;
      begin_there = begin_is;
      begun = begun;
      end_there = end_is;
      throws_kept = throws_kept;
      done_kept = done_kept;
    } in
    record {
      fits = λ world few. parts_fit h top globals globals_fit written result begin point end throws done parts world few;
      signed = parts_signed h top globals globals_fit written result begin point end throws done parts (some_program h);
      few = parts_few h top globals globals_fit written result begin point end throws done parts (some_program h);
    }))))))
