-- Tables of parts that stand for labels, and what stands in them.
use Rattle.std.proofs.Common.{◌≡◌, refl, sym, ap, ◌∙◌, subst, ℕ, suc, zero, ◌+◌, ◌<◌, ◌≤◌, List, [], ◌∷◌, ◌++◌, map, take, length, get_or, arith}
use Rattle.std.specs.Prelude.{Option, Some, None, Bool, true, false, sum_by, if◌then◌else◌, nat_lt, ◌==◌, unwrap_or}
use Rattle.std.proofs.lemmas.Bool.{le-ltb, lt-ltb, ltb-false, ltb-true}
use Rattle.std.proofs.lemmas.List.{get_or-map, get_or_past, map-append, length-map, length-take-le}
use Rattle.std.proofs.lemmas.Option.{slice_get-get_or}
use Rattle.std.proofs.lemmas.List.Sums.{sum_by-cons}
use Rattle.common.proofs.Cases.{by_test, map_next}
use Rattle.labels.specs.Label.{Label}
use Rattle.labels.specs.LabelTable.{label_at}
use Rattle.lattices.specs.Constraints.{renamed}
use Rattle.lattices.specs.Constraints as formal
use Rattle.resolved.specs.Program.{Program, ProcedureEntry, SlotEntry, ThrownEntry, procedure_at, slot_at}
use Rattle.resolved.specs.ProgramOf.{procedure_entry, result_entry, slot_entry, thrown_entry}
use Rattle.resolved.specs.CoreOf.{program_of}
use Rattle.resolved.specs.declared.program.Core.{Core}
use Rattle.resolved.specs.declared.tables.Procedure.{Procedure}
use Rattle.resolved.specs.declared.tables.Slot.{Slot}
use Rattle.resolved.specs.declared.tables.Thrown.{Thrown}
use Rattle.resolved.specs.declared.expression.Variable.TheVariants.{Local}
use Rattle.resolved.specs.declared.target.Target.TheVariants.{ToLoop, ToVariable, ToParameter}
use Rattle.resolved.specs.Labelled.{OfLocal, result_label, thrown_label, written_or}
use Rattle.resolved.specs.Exits.{declared_by}
use Rattle.resolved.specs.Tree.{Empty}
use Rattle.resolved.proofs.Exits.{thrown_label-first}
use Rattle.gathering.specs.Names.{Real, own_unknowns, unknowns_before}
use Rattle.path_map.specs.Exceptions.{exceptions_of}
use Rattle.path_map.proofs.Declared.{declared-same}
use Rattle.solver.specs.declared.constraints.Atom.{Atom}
use Rattle.solver.specs.declared.constraints.Atom.TheVariants as stored
use Rattle.constraints.specs.LeftSides.{Part, Unknown, Written, part, part_of, left_parts, wanted_part}
use Rattle.constraints.specs.Rows.{AreProcedureRows, IsRow, IsPartTable, label_among, slot_parts, thrown_parts, written_atom, written_part}
use Rattle.constraints.specs.declared.rows.ProcedureLabels.{ProcedureLabels}
use Rattle.constraints.specs.declared.rows.ThrownLabel.{ThrownLabel}

-- a label of a table: what is under its number, and the least one under number 0
pub part-there : (labels : List Label) (n : ℕ) → n < length labels → part labels (stored.Written n) ≡ Written (label_at labels n)
part-there labels n inside = ap (λ found. formal.Written found) (slice_get-get_or labels n [] inside)

pub part-least : (labels : List Label) (n : ℕ) → 0 < length labels → label_at labels 0 ≡ [] → n ≡ 0 → part labels (stored.Written n) ≡ Written []
part-least labels n some least zero-is = ap (λ k. part labels (stored.Written k)) zero-is ∙ (part-there labels 0 some ∙ ap (λ l. Written l) least)

-- parts: one more
pub parts-next : (labels : List Label) (atoms atoms' : List Atom) (atom : Atom) (ms : List Part) (m : Part)
    → atoms' ≡ atoms ++ atom ∷ [] → left_parts labels atoms ≡ ms → part labels atom ≡ m → left_parts labels atoms' ≡ ms ++ m ∷ []
parts-next labels atoms atoms' atom ms m pushed before here =
    ap (left_parts labels) pushed
    ∙ (map-append (part labels) atoms (atom ∷ [])
    ∙ (ap (λ xs. xs ++ (part labels atom ∷ [])) before
    ∙ ap (λ x. ms ++ (x ∷ [])) here))

-- declared exceptions: one more
pub exceptions-next : (throws : List Thrown) (i : ℕ) (x : Thrown) (found found' : List ThrownLabel) (label : Atom)
    → i < length throws → x ≡ get_or throws i x → found' ≡ found ++ record { exception = x.exception; label = label } ∷ []
    → map (λ (thrown : ThrownLabel). thrown.exception) found ≡ exceptions_of (take i throws)
    → map (λ (thrown : ThrownLabel). thrown.exception) found' ≡ exceptions_of (take (i + 1) throws)
exceptions-next throws i x found found' label inside is pushed before =
    ap (map (λ (thrown : ThrownLabel). thrown.exception)) pushed
    ∙ (map-append (λ (thrown : ThrownLabel). thrown.exception) found (record { exception = x.exception; label = label } ∷ [])
    ∙ (ap (λ es. es ++ (x.exception ∷ [])) before
    ∙ sym (map_next (λ (thrown : Thrown). thrown.exception) throws i x inside is)))

pub labels-next : (labels : List Label) (throws : List Thrown) (i : ℕ) (x : Thrown) (found found' : List ThrownLabel) (label : Atom)
    → i < length throws → x ≡ get_or throws i x → found' ≡ found ++ record { exception = x.exception; label = label } ∷ []
    → thrown_parts labels found ≡ map (λ (entry : ThrownEntry). Written entry.label) (map (thrown_entry labels) (take i throws))
    → part labels label ≡ Written (label_at labels x.label)
    → thrown_parts labels found' ≡ map (λ (entry : ThrownEntry). Written entry.label) (map (thrown_entry labels) (take (i + 1) throws))
labels-next labels throws i x found found' label inside is pushed before here =
    let written : ThrownEntry → Part = λ (entry : ThrownEntry). Written entry.label in
    let entries : List ThrownEntry = map (thrown_entry labels) (take i throws) in
    ap (thrown_parts labels) pushed
    ∙ (map-append (λ (thrown : ThrownLabel). part labels thrown.label) found (record { exception = x.exception; label = label } ∷ [])
    ∙ (ap (λ ys. ys ++ (part labels label ∷ [])) before
    ∙ (ap (λ y. map written entries ++ (y ∷ [])) here
    ∙ (sym (map-append written entries (thrown_entry labels x ∷ []))
    ∙ ap (map written) (sym (map_next (thrown_entry labels) throws i x inside is))))))

-- slots: one more
pub slots-append : (first : ℕ) (xs : List SlotEntry) (x : SlotEntry)
    → slot_parts first (xs ++ x ∷ []) ≡ slot_parts first xs ++ written_part x.written (first + length xs) ∷ []
slots-append first [] x = ap (λ n. written_part x.written n ∷ []) (let e : first ≡ first + 0 = omega arith in e)
slots-append first (y ∷ xs) x =
    ap (λ rest. written_part y.written first ∷ rest)
    (slots-append (suc first) xs x
    ∙ ap (λ n. slot_parts (suc first) xs ++ written_part x.written n ∷ []) (let e : suc first + length xs ≡ first + suc (length xs) = omega arith in e))

pub slots-next : (labels : List Label) (slots : List Slot) (i : ℕ) (x : Slot) (first number : ℕ) (atoms atoms' : List Atom) (atom : Atom)
    → i < length slots → x ≡ get_or slots i x → number ≡ first + i → atoms' ≡ atoms ++ atom ∷ []
    → left_parts labels atoms ≡ slot_parts first (map (slot_entry labels) (take i slots))
    → part labels atom ≡ written_part (slot_entry labels x).written number
    → left_parts labels atoms' ≡ slot_parts first (map (slot_entry labels) (take (i + 1) slots))
slots-next labels slots i x first number atoms atoms' atom inside is counted pushed mean means =
    let before : List SlotEntry = map (slot_entry labels) (take i slots) in
    let count : length before ≡ i =
    length-map (take i slots) (slot_entry labels) ∙ length-take-le i slots (let le : i ≤ length slots = omega (arith, inside) in le) in
    parts-next labels atoms atoms' atom (slot_parts first before) (written_part (slot_entry labels x).written number) pushed mean means
    ∙ (ap (λ n. slot_parts first before ++ written_part (slot_entry labels x).written n ∷ []) (counted ∙ ap (λ k. first + k) (sym count))
    ∙ (sym (slots-append first before (slot_entry labels x))
    ∙ ap (slot_parts first) (sym (map_next (slot_entry labels) slots i x inside is))))

-- rows
step-count : (first : ℕ) (p : ProcedureEntry) (procedures : List ProcedureEntry)
    → first + sum_by own_unknowns (p ∷ procedures) ≡ (first + own_unknowns p) + sum_by own_unknowns procedures
step-count first p procedures = omega (arith, sum_by-cons own_unknowns p procedures)

pub rows-append : (table : List Label) (first : ℕ) (procedures : List ProcedureEntry) (procedure : ProcedureEntry) (rows : List ProcedureLabels) (row : ProcedureLabels)
    → AreProcedureRows table first procedures rows → IsRow table (first + sum_by own_unknowns procedures) procedure row
    → AreProcedureRows table first (procedures ++ procedure ∷ []) (rows ++ row ∷ [])
rows-append table first [] procedure [] row are is =
    (subst (λ n. IsRow table n procedure row) (let e : first + 0 ≡ first = omega arith in e) is, tt)
rows-append table first (p ∷ procedures) procedure (r ∷ rows) row are is = (
  are.0,
  rows-append table (first + own_unknowns p) procedures procedure rows row are.1
      (subst (λ n. IsRow table n procedure row) (step-count first p procedures) is),
)
rows-append table first [] procedure (r ∷ rows) row are is = absurd are
rows-append table first (p ∷ procedures) procedure [] row are is = absurd are

pub row-made : (labels : List Label) (procedure : Procedure) (first : ℕ) (begin end value : Atom) (slots : List Slot) (atoms : List Atom)
    (throws : List Thrown) (found : List ThrownLabel) (count loops : ℕ)
    → part labels begin ≡ Written (label_at labels procedure.begin_label) → part labels end ≡ Written (label_at labels procedure.end_label)
    → part labels value ≡ Written (result_label (result_entry labels procedure.result))
    → slots ≡ procedure.slots.items → left_parts labels atoms ≡ slot_parts first (map (slot_entry labels) slots)
    → throws ≡ procedure.throws.items
    → map (λ (thrown : ThrownLabel). thrown.exception) found ≡ exceptions_of throws
    → thrown_parts labels found ≡ map (λ (entry : ThrownEntry). Written entry.label) (map (thrown_entry labels) throws)
    → count ≡ length procedure.slots.items → loops ≡ first + count
    → (row : ProcedureLabels) → row.begin ≡ begin → row.end ≡ end → row.value ≡ value → row.slots.items ≡ atoms → row.throws.items ≡ found → row.loops ≡ loops → row.loop_count ≡ procedure.loops
    → IsRow labels first (procedure_entry labels procedure) row
row-made labels procedure first begin end value slots atoms throws found count loops b e v same-slots ss same-throws es ls counted summed row rb re rv rs rt rl rc = record {
  begin_is = ap (part labels) rb ∙ b;
  end_is = ap (part labels) re ∙ e;
  value_is = ap (part labels) rv ∙ v;
  slots_are = ap (left_parts labels) rs ∙ (ss ∙ ap (λ xs. slot_parts first (map (slot_entry labels) xs)) same-slots);
  exceptions_are = ap (map (λ (thrown : ThrownLabel). thrown.exception)) rt
      ∙ (es ∙ (ap exceptions_of same-throws ∙ sym (declared-same labels procedure.throws.items)));
  labels_are = ap (thrown_parts labels) rt
      ∙ (ls ∙ ap (λ xs. map (λ (entry : ThrownEntry). Written entry.label) (map (thrown_entry labels) xs)) same-throws);
  loops_is =
      let all : length (map (slot_entry labels) procedure.slots.items) ≡ length procedure.slots.items = length-map procedure.slots.items (slot_entry labels) in
      rl ∙ (summed ∙ ap (λ n. first + n) (counted ∙ sym all));
  loop_count_is = rc;
}

pub rows-next : (labels : List Label) (procedures : List Procedure) (i : ℕ) (p : Procedure) (rows rows' : List ProcedureLabels) (row : ProcedureLabels) (first : ℕ)
    → i < length procedures → p ≡ get_or procedures i p → rows' ≡ rows ++ row ∷ []
    → AreProcedureRows labels 0 (map (procedure_entry labels) (take i procedures)) rows
    → IsRow labels first (procedure_entry labels p) row
    → first ≡ sum_by own_unknowns (map (procedure_entry labels) (take i procedures))
    → AreProcedureRows labels 0 (map (procedure_entry labels) (take (i + 1) procedures)) rows'
rows-next labels procedures i p rows rows' row first inside is pushed are each counted =
    let entry : Procedure → ProcedureEntry = procedure_entry labels in
    let before : List ProcedureEntry = map entry (take i procedures) in
    subst (λ all. AreProcedureRows labels 0 all rows') (sym (map_next entry procedures i p inside is))
    (subst (λ all. AreProcedureRows labels 0 (before ++ entry p ∷ []) all) (sym pushed)
    (rows-append labels 0 before (entry p) rows row are
    (subst (λ n. IsRow labels n (entry p) row)
    (counted ∙ (let e : sum_by own_unknowns before ≡ 0 + sum_by own_unknowns before = omega arith in e)) each)))

-- what stands in a list under a number, of lists that mean the same
pub looked-up : {A B C : Type 0} (f : A → C) (g : B → C) (xs : List A) (ys : List B) (n : ℕ) (d : A) (e : B)
    → map f xs ≡ map g ys → f d ≡ g e → f (get_or xs n d) ≡ g (get_or ys n e)
looked-up f g [] [] n d e same default = default
looked-up f g [] (y ∷ ys) n d e same default = absurd (cc)
looked-up f g (x ∷ xs) [] n d e same default = absurd (cc)
looked-up f g (x ∷ xs) (y ∷ ys) zero d e same default = cc
looked-up f g (x ∷ xs) (y ∷ ys) (suc n) d e same default = looked-up f g xs ys n d e (let tails : map f xs ≡ map g ys = cc in tails) default

pub row-at : (table : List Label) (first : ℕ) (procedures : List ProcedureEntry) (rows : List ProcedureLabels) (f : ℕ) (empty : ProcedureEntry) (outside : ProcedureLabels)
    → AreProcedureRows table first procedures rows → IsRow table (first + sum_by own_unknowns procedures) empty outside
    → IsRow table (first + sum_by own_unknowns (take f procedures)) (get_or procedures f empty) (get_or rows f outside)
row-at table first [] [] zero empty outside are is = is
row-at table first [] [] (suc f) empty outside are is = is
row-at table first (p ∷ procedures) (r ∷ rows) zero empty outside are is =
    subst (λ n. IsRow table n p r) (let e : first ≡ first + 0 = omega arith in e) are.0
row-at table first (p ∷ procedures) (r ∷ rows) (suc f) empty outside are is =
    subst (λ n. IsRow table n (get_or procedures f empty) (get_or rows f outside))
    (sym (step-count first p (take f procedures)))
    (row-at table (first + own_unknowns p) procedures rows f empty outside are.1
    (subst (λ n. IsRow table n empty outside) (step-count first p procedures) is))
row-at table first [] (r ∷ rows) f empty outside are is = absurd are
row-at table first (p ∷ procedures) [] f empty outside are is = absurd are

-- a map of a map
pub map-map : {A B C : Type 0} (f : A → B) (g : B → C) (xs : List A) → map (λ x. g (f x)) xs ≡ map g (map f xs)
map-map f g [] = refl
map-map f g (x ∷ xs) = ap (λ ys. g (f x) ∷ ys) (map-map f g xs)

-- the label of a slot, and what is after the last one
pub slot-at : (first : ℕ) (slots : List SlotEntry) (n : ℕ) (empty : SlotEntry) (d : Part) → n < length slots
    → get_or (slot_parts first slots) n d ≡ written_part (get_or slots n empty).written (first + n)
slot-at first [] n empty d inside = absurd (omega (arith, inside))
slot-at first (slot ∷ slots) zero empty d inside = ap (written_part slot.written) (let e : first ≡ first + 0 = omega arith in e)
slot-at first (slot ∷ slots) (suc n) empty d inside =
    slot-at (suc first) slots n empty d (omega (arith, inside))
    ∙ ap (written_part (get_or slots n empty).written) (let e : suc first + n ≡ first + suc n = omega arith in e)

slot-beyond : (first : ℕ) (slots : List SlotEntry) (n : ℕ) (d : Part) → length slots ≤ n → get_or (slot_parts first slots) n d ≡ d
slot-beyond first [] zero d past = refl
slot-beyond first [] (suc n) d past = refl
slot-beyond first (slot ∷ slots) zero d past = absurd (omega (arith, past))
slot-beyond first (slot ∷ slots) (suc n) d past = slot-beyond (suc first) slots n d (omega (arith, past))

slots-beyond : (slots : List SlotEntry) (n : ℕ) (d : SlotEntry) → length slots ≤ n → get_or slots n d ≡ d
slots-beyond [] zero d past = refl
slots-beyond [] (suc n) d past = refl
slots-beyond (slot ∷ slots) zero d past = absurd (omega (arith, past))
slots-beyond (slot ∷ slots) (suc n) d past = slots-beyond slots n d (omega (arith, past))

pub part-at : (table : List Label) (atoms : List Atom) (n : ℕ) (d : Atom)
    → part table (get_or atoms n d) ≡ get_or (left_parts table atoms) n (part table d)
part-at table atoms n d = looked-up (part table) (λ m. m) atoms (left_parts table atoms) n d (part table d) (sym (map-same (left_parts table atoms))) refl
  where
    map-same : {A : Type 0} (xs : List A) → map (λ x. x) xs ≡ xs
    map-same [] = refl
    map-same (x ∷ xs) = ap (λ ys. x ∷ ys) (map-same xs)

-- the label of a parameter
pub parameter-at : (table : List Label) (first : ℕ) (slots : List SlotEntry) (atoms : List Atom) (n : ℕ) (nothing : Atom) (empty : SlotEntry)
    → empty.written ≡ None → part table nothing ≡ Written [] → left_parts table atoms ≡ slot_parts first slots
    → part table (written_atom (get_or atoms n nothing) nothing) ≡ Written (unwrap_or (get_or slots n empty).written [])
parameter-at table first [] [] n nothing empty none is same = rw none (neither nothing is)
  where
    neither : (atom : Atom) → part table atom ≡ Written [] → part table (written_atom atom nothing) ≡ Written []
    neither (stored.Written m) e = e
    neither (stored.Unknown u) e = is
parameter-at table first (slot ∷ slots) (atom ∷ atoms) zero nothing empty none is same = go slot.written atom (let head : part table atom ≡ written_part slot.written first = cc in head)
  where
    go : (written : Option Label) (a : Atom) → part table a ≡ written_part written first
        → part table (written_atom a nothing) ≡ Written (unwrap_or written [])
    go (Some label) (stored.Written m) e = e
    go None (stored.Unknown u) e = is
    go (Some label) (stored.Unknown u) e = absurd (cc)
    go None (stored.Written m) e = absurd (cc)
parameter-at table first (slot ∷ slots) (atom ∷ atoms) (suc n) nothing empty none is same =
    parameter-at table (suc first) slots atoms n nothing empty none is (let tails : left_parts table atoms ≡ slot_parts (suc first) slots = cc in tails)
parameter-at table first [] (atom ∷ atoms) n nothing empty none is same = absurd (cc)
parameter-at table first (slot ∷ slots) [] n nothing empty none is same = absurd (cc)

-- the label of a declared exception
pub thrown-at : (table : List Label) (entries : List ThrownEntry) (labels : List ThrownLabel) (x : ℕ) (nothing : Atom)
    → map (λ (thrown : ThrownLabel). thrown.exception) labels ≡ declared_by entries
    → thrown_parts table labels ≡ map (λ (entry : ThrownEntry). Written entry.label) entries
    → part table nothing ≡ Written []
    → part table (label_among labels x nothing) ≡ Written (thrown_label entries x)
thrown-at table [] [] x nothing es ls is = is
thrown-at table (entry ∷ entries) (label ∷ labels) x nothing es ls is =
    let same : label.exception ≡ entry.exception = cc in
    let here : part table label.label ≡ Written entry.label = cc in
    let more : map (λ (thrown : ThrownLabel). thrown.exception) labels ≡ declared_by entries = cc in
    let rest : thrown_parts table labels ≡ map (λ (e : ThrownEntry). Written e.label) entries = cc in
    let inner : part table (label_among labels x nothing) ≡ Written (thrown_label entries x) = thrown-at table entries labels x nothing more rest is in
    go label.exception same (x == entry.exception) refl here inner ∙ ap Written (sym (thrown_label-first entry entries x))
  where
    go : (e : ℕ) → e ≡ entry.exception → (b : Bool) → (x == entry.exception) ≡ b
        → part table label.label ≡ Written entry.label → part table (label_among labels x nothing) ≡ Written (thrown_label entries x)
        → part table (if x == e then label.label else label_among labels x nothing)
        ≡ Written (if x == entry.exception then entry.label else thrown_label entries x)
    go e same true f here inner = rw (same, f) here
    go e same false f here inner = rw (same, f) inner
thrown-at table [] (label ∷ labels) x nothing es ls is = absurd (cc)
thrown-at table (entry ∷ entries) [] x nothing es ls is = absurd (cc)

-- the same of a procedure of a program
abbrev local_part : Program → (f n : ℕ) → Bool → Part
local_part program f n there = if there then Unknown (unknowns_before program f + n) else Written []

named-part : (program : Program) (f n : ℕ) (written : Option Label) → nat_lt n (length (procedure_at program f).slots) ≡ true
    → written_part written (unknowns_before program f + n) ≡ wanted_part program (renamed Real (written_or written (OfLocal f n)))
named-part program f n (Some label) there = refl
named-part program f n None there = sym (ap (local_part program f n) there)

missing-part : (program : Program) (f n : ℕ) (written : Option Label) → nat_lt n (length (procedure_at program f).slots) ≡ false → written ≡ None
    → Written [] ≡ wanted_part program (renamed Real (written_or written (OfLocal f n)))
missing-part program f n written missing none =
    sym (ap (λ w. wanted_part program (renamed Real (written_or w (OfLocal f n)))) none ∙ ap (local_part program f n) missing)

pub slot-named : (program : Program) (table : List Label) (f n : ℕ) (row : ProcedureLabels) (atoms : List Atom) (nothing found : Atom)
    → IsRow table (unknowns_before program f) (procedure_at program f) row → part table nothing ≡ Written [] → atoms ≡ row.slots.items
    → found ≡ get_or atoms n nothing
    → part table found ≡ part_of program (ToVariable f (Local n))
slot-named program table f n row atoms nothing found is none same found-is =
    let first : ℕ = unknowns_before program f in
    let procedure : ProcedureEntry = procedure_at program f in
    let written : Option Label = (slot_at procedure n).written in
    let own : get_or (slot_parts first procedure.slots) n (Written []) ≡ wanted_part program (renamed Real (written_or written (OfLocal f n))) =
    by_test (nat_lt n (length procedure.slots))
    (λ e. slot-at first procedure.slots n _ (Written []) (ltb-true n (length procedure.slots) e) ∙ named-part program f n written e)
    (λ e.
    let past : length procedure.slots ≤ n = ltb-false n (length procedure.slots) e in
    slot-beyond first procedure.slots n (Written []) past
    ∙ missing-part program f n written e (ap (λ (slot : SlotEntry). slot.written) (slots-beyond procedure.slots n _ past))) in
    ap (part table) found-is
    ∙ (part-at table atoms n nothing
    ∙ (ap (λ list. get_or (left_parts table list) n (part table nothing)) same
    ∙ (ap (λ list. get_or list n (part table nothing)) is.slots_are
    ∙ (ap (get_or (slot_parts first procedure.slots) n) none ∙ own))))

-- the label of a loop, which is empty where there is no loop
pub loop-named : (program : Program) (table : List Label) (f n : ℕ) (row : ProcedureLabels)
    → IsRow table (unknowns_before program f) (procedure_at program f) row → n < row.loop_count
    → part table (stored.Unknown (row.loops + n)) ≡ part_of program (ToLoop f n)
loop-named program table f n row is inside =
    let within : n < (procedure_at program f).loops = omega (arith, inside, is.loop_count_is) in
    let there : nat_lt n (procedure_at program f).loops ≡ true = lt-ltb n (procedure_at program f).loops within in
    let number : row.loops + n ≡ unknowns_before program f + (length (procedure_at program f).slots + n) = omega (arith, is.loops_is) in
    ap (λ k. Unknown k) number
    ∙ sym (ap (λ b. if b then Unknown (unknowns_before program f + (length (procedure_at program f).slots + n)) else Written []) there)

pub loop-missing : (program : Program) (table : List Label) (f n : ℕ) (row : ProcedureLabels) (nothing : Atom)
    → IsRow table (unknowns_before program f) (procedure_at program f) row → part table nothing ≡ Written [] → row.loop_count ≤ n
    → part table nothing ≡ part_of program (ToLoop f n)
loop-missing program table f n row nothing is none past =
    let without : (procedure_at program f).loops ≤ n = omega (arith, past, is.loop_count_is) in
    let missing : nat_lt n (procedure_at program f).loops ≡ false = le-ltb n (procedure_at program f).loops without in
    none ∙ sym (ap (λ b. if b then Unknown (unknowns_before program f + (length (procedure_at program f).slots + n)) else Written []) missing)

pub parameter-named : (program : Program) (table : List Label) (f n : ℕ) (row : ProcedureLabels) (atoms : List Atom) (nothing found result : Atom)
    → IsRow table (unknowns_before program f) (procedure_at program f) row → part table nothing ≡ Written []
    → atoms ≡ row.slots.items → found ≡ get_or atoms n nothing → result ≡ written_atom found nothing
    → part table result ≡ part_of program (ToParameter f n)
parameter-named program table f n row atoms nothing found result is none same found-is result-is =
    ap (part table) (result-is ∙ ap (λ a. written_atom a nothing) (found-is ∙ ap (λ list. get_or list n nothing) same))
    ∙ parameter-at table (unknowns_before program f) (procedure_at program f).slots row.slots.items n nothing _ refl none is.slots_are

pub thrown-named : (program : Program) (table : List Label) (f x : ℕ) (row : ProcedureLabels) (labels : List ThrownLabel) (nothing found : Atom)
    → IsRow table (unknowns_before program f) (procedure_at program f) row → part table nothing ≡ Written []
    → labels ≡ row.throws.items → found ≡ label_among labels x nothing
    → part table found ≡ Written (thrown_label (procedure_at program f).throws x)
thrown-named program table f x row labels nothing found is none same found-is =
    ap (part table) (found-is ∙ ap (λ list. label_among list x nothing) same)
    ∙ thrown-at table (procedure_at program f).throws row.throws.items x nothing is.exceptions_are is.labels_are none

-- the entry of a procedure that is not there
abbrev pub no_procedure : ProcedureEntry
no_procedure = record {
  at = 0;
  name = [];
  result = None;
  begin_label = [];
  end_label = [];
  throws = [];
  parameters = 0;
  slots = [];
  loops = 0;
  body = Empty;
}

-- the parts of a whole program
pub table-made : (core : Core) (nothing : Atom) (rows : List ProcedureLabels) (outside : ProcedureLabels) (ps : List Procedure) (unknowns : ℕ)
    → part core.labels nothing ≡ Written []
    → AreProcedureRows core.labels 0 (map (procedure_entry core.labels) ps) rows
    → unknowns ≡ sum_by own_unknowns (map (procedure_entry core.labels) ps)
    → ps ≡ core.procedures.items
    → outside.begin ≡ nothing → outside.end ≡ nothing → outside.value ≡ nothing → outside.slots.items ≡ [] → outside.throws.items ≡ []
    → outside.loops ≡ unknowns → outside.loop_count ≡ 0
    → IsPartTable core nothing rows outside
table-made core nothing rows outside ps unknowns none are counted same-ps ob oe ov os ot ol oc =
    let labels : List Label = core.labels in
    let program : Program = program_of core in
    let rows-here : AreProcedureRows labels 0 program.procedures rows =
    subst (λ list. AreProcedureRows labels 0 (map (procedure_entry labels) list) rows) same-ps are in
    let total : unknowns ≡ sum_by own_unknowns program.procedures = counted ∙ ap (λ list. sum_by own_unknowns (map (procedure_entry labels) list)) same-ps in
    let all : 0 + sum_by own_unknowns program.procedures ≡ unknowns = omega (arith, total) in
    record {
      nothing_is = none;
      rows_are = λ f.
          subst (λ n. IsRow labels n (procedure_at program f) (get_or rows f outside))
          (let e : 0 + sum_by own_unknowns (take f program.procedures) ≡ unknowns_before program f = omega arith in e)
          (row-at labels 0 program.procedures rows f no_procedure outside rows-here
          (subst (λ n. IsRow labels n no_procedure outside) (sym all) (record {
            begin_is = ap (part labels) ob ∙ none;
            end_is = ap (part labels) oe ∙ none;
            value_is = ap (part labels) ov ∙ none;
            slots_are = ap (left_parts labels) os;
            exceptions_are = ap (map (λ (thrown : ThrownLabel). thrown.exception)) ot;
            labels_are = ap (thrown_parts labels) ot;
            loops_is = ol ∙ (let e : unknowns ≡ unknowns + 0 = omega arith in e);
            loop_count_is = oc;
          })));
    }

-- the label of a channel or a global, which is the least one where there is none
pub label-there : {X Y : Type 0} (labels : List Label) (entry : X → Y) (label : Y → Label) (xs : List X) (n : ℕ) (x : X) (none : Y) (found : Atom)
    → n < length xs → x ≡ get_or xs n x → part labels found ≡ Written (label (entry x))
    → part labels found ≡ Written (label (get_or (map entry xs) n none))
label-there labels entry label xs n x none found inside is here =
    here ∙ ap (λ y. Written (label y)) (sym (get_or-map entry xs n x none inside ∙ ap entry (sym is)))

pub label-past : {X Y : Type 0} (labels : List Label) (entry : X → Y) (label : Y → Label) (xs : List X) (n : ℕ) (none : Y) (nothing : Atom)
    → length xs ≤ n → label none ≡ [] → part labels nothing ≡ Written []
    → part labels nothing ≡ Written (label (get_or (map entry xs) n none))
label-past labels entry label xs n none nothing past empty is =
    is ∙ ap (λ l. Written l) (sym (ap label (get_or_past (map entry xs) n none (let far : length (map entry xs) ≤ n = omega (arith, past, length-map xs entry) in far)) ∙ empty))
