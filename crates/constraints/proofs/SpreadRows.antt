-- Flows that were spread of the calls of a procedure, and of those of all procedures.
use Rattle.std.proofs.Common.{◌≡◌, refl, sym, ap, ◌∙◌, subst, ℕ, zero, suc, ◌+◌, ◌<◌, ◌≤◌, List, [], ◌∷◌, ◌++◌, Bool, true, false, ◌&&◌, not, length, map, get_or, take, arith, ⊎_elim}
use Rattle.std.specs.Prelude.{Contains, if◌then◌else◌, ◌==◌, nat_lt}
use Rattle.std.specs.List.{list_all, list_any}
use Rattle.std.specs.declared.vec.Vec.{Vec}
use Rattle.std.specs.Global.{Global}
use Rattle.std.proofs.lemmas.Bool.{and_parts, eq-eqb, eqb-true, false_from_ne_true, ltb-false, ltb-true, not-true, or_parts}
use Rattle.std.proofs.lemmas.List.{length-map, take_all}
use Rattle.common.proofs.Elements.{none_in_nil, Contains-cons_cases}
use Rattle.common.proofs.Cases.{by_test, contained_map}
use Rattle.labels.specs.Label.{Label}
use Rattle.resolved.specs.declared.program.Core.{Core}
use Rattle.resolved.specs.CoreOf.{program_of}
use Rattle.resolved.specs.Exits.{declared_by}
use Rattle.resolved.specs.Labelled.{thrown_label}
use Rattle.resolved.specs.Program.{Program, ProcedureEntry, ThrownEntry, procedure_at}
use Rattle.resolved.specs.ProgramOf.{procedure_entry}
use Rattle.resolved.specs.WellFormed.{is_exception, label_fits, procedure_fits, throws_fit}
use Rattle.resolved.proofs.WellFormedParts.{procedure_parts, program_parts}
use Rattle.resolved.proofs.Exits.{thrown_label-first}
use Rattle.gathering.specs.Names.{unknowns_before}
use Rattle.solver.specs.declared.constraints.Atom.{Atom}
use Rattle.constraints.specs.Added.{Stored}
use Rattle.constraints.specs.LeftSides.{Written, part}
use Rattle.constraints.specs.Rows.{IsRow, thrown_parts}
use Rattle.constraints.specs.Spreading.{AreCallsOf, AreLabelsOf, AreRowsOf, AreSpread, AreSpreadTo, Declares, IsSpreadTo, IsSpreadWhole, MadeList, all_calls, exceptions_of}
use Rattle.constraints.specs.declared.journal.Called.{Called}
use Rattle.constraints.specs.declared.journal.Journal.{Journal}
use Rattle.constraints.specs.declared.rows.ProcedureLabels.{ProcedureLabels}
use Rattle.constraints.specs.declared.rows.ThrownLabel.{ThrownLabel}
use Rattle.constraints.proofs.CallRows.{all-next, row-calls}
use Rattle.constraints.proofs.Spread.{none-spread, raises-less, whole-less, whole-then}
use Rattle.constraints.proofs.Tables.{no_procedure}

-- ---- the labels of a procedure's exceptions: each of them is declared once
none-among : (x : ℕ) (entries : List ThrownEntry) → list_any (λ (other : ThrownEntry). other.exception == x) entries ≡ false → Contains (declared_by entries) x → ⊥
none-among x [] e h = none_in_nil x h
none-among x (entry ∷ rest) e h =
    let parts = or_parts (entry.exception == x) (list_any (λ (other : ThrownEntry). other.exception == x) rest) e in
    ⊎_elim
    (λ same. let i : true ≡ false = sym (eq-eqb entry.exception x same) ∙ parts.0 in absurd (cc))
    (λ k. none-among x rest parts.1 k)
    (Contains-cons_cases entry.exception (declared_by rest) x h)

labels-are : (program : Program) (table : List Label) (entries : List ThrownEntry) (labels : List ThrownLabel) → throws_fit program entries ≡ true
    → exceptions_of labels ≡ declared_by entries → thrown_parts table labels ≡ map (λ (entry : ThrownEntry). Written entry.label) entries
    → (x : ThrownLabel) → Contains labels x → part table x.label ≡ Written (thrown_label entries x.exception)
labels-are program table entries [] fits es ls x h = absurd (none_in_nil x h)
labels-are program table [] (label ∷ labels) fits es ls x h = absurd (cc)
labels-are program table (entry ∷ entries) (label ∷ labels) fits es ls x h =
    let once : Bool = list_any (λ (other : ThrownEntry). other.exception == entry.exception) entries in
    let all = and_parts (is_exception program entry.exception && label_fits program.hierarchy entry.label && not once) (throws_fit program entries) fits in
    let first = and_parts (is_exception program entry.exception && label_fits program.hierarchy entry.label) (not once) all.0 in
    let same : label.exception ≡ entry.exception = cc in
    let here : part table label.label ≡ Written entry.label = cc in
    let more : exceptions_of labels ≡ declared_by entries = cc in
    let rest : thrown_parts table labels ≡ map (λ (e : ThrownEntry). Written e.label) entries = cc in
    ⊎_elim
    (λ is. subst (λ (y : ThrownLabel). part table y.label ≡ Written (thrown_label (entry ∷ entries) y.exception)) is
    (here ∙ ap (λ b. Written (if b then entry.label else thrown_label entries label.exception)) (sym (eq-eqb label.exception entry.exception same))
    ∙ ap Written (sym (thrown_label-first entry entries label.exception))))
    (λ k.
    let among : Contains (declared_by entries) x.exception =
    subst (λ list. Contains list x.exception) more (contained_map (λ (thrown : ThrownLabel). thrown.exception) labels x k) in
    let other : (x.exception == entry.exception) ≡ false = false_from_ne_true (x.exception == entry.exception)
    (λ e. none-among entry.exception entries (not-true once first.1) (subst (Contains (declared_by entries)) (eqb-true x.exception entry.exception e) among)) in
    labels-are program table entries labels all.1 more rest x k
    ∙ ap (λ b. Written (if b then entry.label else thrown_label entries x.exception)) (sym other)
    ∙ ap Written (sym (thrown_label-first entry entries x.exception)))
    (Contains-cons_cases label labels x h)

all-fit : (program : Program) (ps : List ProcedureEntry) (f : ℕ) → list_all (procedure_fits program) ps ≡ true → throws_fit program (get_or ps f no_procedure).throws ≡ true
all-fit program [] f h = refl
all-fit program (p ∷ ps) zero h = (procedure_parts program p (and_parts (procedure_fits program p) (list_all (procedure_fits program) ps) h).0).throws_are
all-fit program (p ∷ ps) (suc f) h = all-fit program ps f (and_parts (procedure_fits program p) (list_all (procedure_fits program) ps) h).1

pub labels-of : (core : Core) (table : List Label) (callee : ℕ) (row : ProcedureLabels) (labels : List ThrownLabel)
    → IsRow table (unknowns_before (program_of core) callee) (procedure_at (program_of core) callee) row → labels ≡ row.throws.items → AreLabelsOf core table callee labels
labels-of core table callee row labels is same x h =
    let program : Program = program_of core in
    let there : Contains row.throws.items x = subst (λ list. Contains list x) same h in (
      subst (λ list. Contains list x.exception) is.exceptions_are (contained_map (λ (thrown : ThrownLabel). thrown.exception) row.throws.items x there),
      labels-are program table (procedure_at program callee).throws row.throws.items
          (all-fit program program.procedures callee (program_parts program core.well_formed).procedures_fit) is.exceptions_are is.labels_are x there,
    )

-- ---- the calls of one procedure
pub row-spread : (core : Core) (table : List Label) (journal : Journal) (callee : ℕ) (row : ProcedureLabels) (labels : List ThrownLabel) (calls : List Called) (old new : MadeList) (atom : Atom)
    → IsRow table (unknowns_before (program_of core) callee) (procedure_at (program_of core) callee) row → labels ≡ row.throws.items
    → AreSpreadTo core table journal labels calls old new atom → AreCallsOf callee calls → AreSpread core table journal (Declares core) calls old new
row-spread core table journal callee row labels calls old new atom is same to of =
    let made : IsSpreadTo core table journal labels calls old new atom = to callee of (labels-of core table callee row labels is same) in
    let declared : exceptions_of labels ≡ declared_by (procedure_at (program_of core) callee).throws = ap exceptions_of same ∙ is.exceptions_are in
    raises-less core table journal (λ called x. Contains (exceptions_of labels) x) (Declares core) calls calls old new (omega arith) (λ called h. h)
    (λ called x inside raised. (
      inside,
      subst (λ list. Contains list x) (sym declared) (subst (λ f. Contains (declared_by (procedure_at (program_of core) f).throws) x) (of called inside) raised),
    ))
    made.spread

pub row-none : (core : Core) (table : List Label) (journal : Journal) (calls : List Called) (made : MadeList)
    → length calls ≡ 0 → AreSpread core table journal (Declares core) calls made made
row-none core table journal calls made none =
    none-spread core table journal (Declares core) calls made (λ called x inside raised. let below = inside.1 in absurd (omega (arith, none, below)))

pub row-quiet : (core : Core) (table : List Label) (journal : Journal) (callee : ℕ) (row : ProcedureLabels) (labels : List ThrownLabel) (calls : List Called) (made : MadeList)
    → IsRow table (unknowns_before (program_of core) callee) (procedure_at (program_of core) callee) row → labels ≡ row.throws.items → length labels ≡ 0
    → AreCallsOf callee calls → AreSpread core table journal (Declares core) calls made made
row-quiet core table journal callee row labels calls made is same none of =
    let declared : exceptions_of labels ≡ declared_by (procedure_at (program_of core) callee).throws = ap exceptions_of same ∙ is.exceptions_are in
    none-spread core table journal (Declares core) calls made
    (λ called x inside raised.
    let there : Contains (exceptions_of labels) x =
    subst (λ list. Contains list x) (sym declared) (subst (λ f. Contains (declared_by (procedure_at (program_of core) f).throws) x) (of called inside) raised) in
    let below = there.1 in
    absurd (omega (arith, none, below, length-map labels (λ (thrown : ThrownLabel). thrown.exception))))

-- ---- those of all procedures
pub calls-next : (core : Core) (table : List Label) (journal : Journal) (rows : List (Vec Called Global)) (count i : ℕ) (row : Vec Called Global) (own calls : List Called)
    (first : ℕ) (before : List Stored) (old new : MadeList)
    → i < length rows → row ≡ get_or rows i row → own ≡ row.items → AreRowsOf count calls rows
    → IsSpreadWhole core table journal (Declares core) (all_calls (take i rows)) first old.number before
    → (AreCallsOf i own → AreSpread core table journal (Declares core) own old new) → old.constraints ≡ []
    → IsSpreadWhole core table journal (Declares core) (all_calls (take (i + 1) rows)) first new.number (before ++ new.constraints)
calls-next core table journal rows count i row own calls first before old new inside found same are so_far step none =
    subst (λ list. IsSpreadWhole core table journal (Declares core) list first new.number (before ++ new.constraints))
    (ap (λ xs. all_calls (take i rows) ++ xs) same ∙ sym (all-next rows i row inside found))
    (whole-then core table journal (Declares core) (all_calls (take i rows)) own first before old new so_far
    (step (subst (AreCallsOf i) (sym same) (row-calls rows i row count calls inside found are))) none)

not-there : (program : Program) (f x : ℕ) → length program.procedures ≤ f → Contains (declared_by (procedure_at program f).throws) x → ⊥
not-there program f x outside h = none_in_nil x (subst (λ (p : ProcedureEntry). Contains (declared_by p.throws) x) (past program.procedures f outside) h)
  where
    past : (ps : List ProcedureEntry) (f : ℕ) → length ps ≤ f → get_or ps f no_procedure ≡ no_procedure
    past [] f h = refl
    past (p ∷ ps) zero h = absurd (omega (arith, h))
    past (p ∷ ps) (suc f) h = past ps f (omega (arith, h))

pub calls-all : (core : Core) (table : List Label) (journal : Journal) (rows : List (Vec Called Global)) (count i : ℕ) (calls : List Called) (first next : ℕ) (stored : List Stored)
    → length rows ≤ i → count ≡ length core.procedures.items → AreRowsOf count calls rows
    → IsSpreadWhole core table journal (Declares core) (all_calls (take i rows)) first next stored
    → IsSpreadWhole core table journal (Declares core) calls first next stored
calls-all core table journal rows count i calls first next stored outside counted are spread =
    let whole : IsSpreadWhole core table journal (Declares core) (all_calls rows) first next stored =
    subst (λ list. IsSpreadWhole core table journal (Declares core) (all_calls list) first next stored) (take_all i rows outside) spread in
    whole-less core table journal (Declares core) (Declares core) (all_calls rows) calls first next stored are.no_more are.only
    (λ called x inside raised. by_test (nat_lt called.callee count)
    (λ e. (are.all called inside (ltb-true called.callee count e), raised))
    (λ e.
    let least : count ≤ called.callee = ltb-false called.callee count e in
    absurd (not-there (program_of core) called.callee x (omega (arith, least, counted, length-map core.procedures.items (procedure_entry core.labels))) raised)))
    whole
