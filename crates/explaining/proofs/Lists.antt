-- Lines of locals, put together.
use Rattle.std.proofs.Common.{◌≡◌, ℕ, suc, ◌+◌, ◌<◌, List, [], ◌∷◌, ◌++◌, length, map, take, drop, get_or, ap, sym, ◌∙◌, subst, refl, append_assoc, Option, Some, None, true, false, arith}
use Rattle.std.specs.Option.{is_some}
use Rattle.std.proofs.KnownBytes.{Appends-nil, Appends-trans}
use Rattle.std.proofs.lemmas.List.{append-nil, length-map, length-take-le, map-append, map_more, take-append-drop}
use Rattle.std.specs.Io.KnownBytes.{Appends}
use Rattle.labels.specs.Label.{Label}
use Rattle.labels.proofs.Prefixes.{prefix-itself}
use Rattle.resolved.specs.CoreOf.{program_of}
use Rattle.resolved.specs.Labelled.{OfLocal}
use Rattle.resolved.specs.Program.{ProcedureEntry, SlotEntry}
use Rattle.resolved.specs.ProgramOf.{procedure_entry, slot_entry, written_at}
use Rattle.resolved.specs.declared.tables.Procedure.{Procedure}
use Rattle.resolved.specs.declared.tables.Slot.{Slot}
use Rattle.channels.specs.Sink.{AppendsPrefix}
use Rattle.checker.specs.Checked.{CheckedProgram, least_label}
use Rattle.explaining.proofs.Canonical.{canonical, canonical-above, canonical-below, IsCanonicalLabel-canonical}
use Rattle.explaining.specs.Text.{Writes, WritesPrefix}
use Rattle.explaining.specs.Locals.{AreLines, IsLocalLine, LocalEntry, if_unlabelled, local_line, local_of, locals_from, locals_in}
use Rattle.explaining.specs.Locals.AreLines.{none, one_more}

-- ---- the locals of one more slot, of one more procedure, and of the rest
locals_in-append : (f n : ℕ) (xs ys : List SlotEntry) → locals_in f n (xs ++ ys) ≡ locals_in f n xs ++ locals_in f (n + length xs) ys
locals_in-append f n [] ys = ap (λ k. locals_in f k ys) (omega arith)
locals_in-append f n (x ∷ xs) ys =
    let on : suc n + length xs ≡ n + suc (length xs) = omega arith in
    let one = if_unlabelled (local_of f n x) x.written in
    ap (λ locals. one ++ locals) (locals_in-append f (suc n) xs ys ∙ ap (λ k. locals_in f (suc n) xs ++ locals_in f k ys) on)
    ∙ sym (append_assoc one (locals_in f (suc n) xs) (locals_in f (n + suc (length xs)) ys))

locals_from-append : (f : ℕ) (xs ys : List ProcedureEntry) → locals_from f (xs ++ ys) ≡ locals_from f xs ++ locals_from (f + length xs) ys
locals_from-append f [] ys = ap (λ k. locals_from k ys) (omega arith)
locals_from-append f (x ∷ xs) ys =
    let on : suc f + length xs ≡ f + suc (length xs) = omega arith in
    let one = locals_in f 0 x.slots in
    ap (λ locals. one ++ locals) (locals_from-append (suc f) xs ys ∙ ap (λ k. locals_from (suc f) xs ++ locals_from k ys) on)
    ∙ sym (append_assoc one (locals_from (suc f) xs) (locals_from (f + suc (length xs)) ys))

so_many : {X Y : Type 0} (g : X → Y) (xs : List X) (i : ℕ) → i < length xs → 0 + length (map g (take i xs)) ≡ i
so_many g xs i within =
    let e : length (map g (take i xs)) ≡ i = length-map (take i xs) g ∙ length-take-le i xs (omega arith) in
    omega (arith, e)

module _ (labels : List Label) (f : ℕ) (slots : List Slot) (i : ℕ) where
  abbrev first_slots : List LocalEntry
  first_slots = locals_in f 0 (map (slot_entry labels) (take i slots))

  pub slots-more : (d : Slot) → i < length slots
      → first_slots ++ if_unlabelled (local_of f i (slot_entry labels (get_or slots i d))) (slot_entry labels (get_or slots i d)).written
      ≡ locals_in f 0 (map (slot_entry labels) (take (i + 1) slots))
  slots-more d within =
      let x = slot_entry labels (get_or slots i d) in
      sym (ap (locals_in f 0) (map_more (slot_entry labels) slots i d within)
      ∙ locals_in-append f 0 (map (slot_entry labels) (take i slots)) (x ∷ [])
      ∙ ap (λ k. first_slots ++ (if_unlabelled (local_of f k x) x.written ++ [])) (so_many (slot_entry labels) slots i within)
      ∙ ap (λ locals. first_slots ++ locals) (append-nil (if_unlabelled (local_of f i x) x.written)))

  pub slots-rest : first_slots ++ locals_in f (0 + length (map (slot_entry labels) (take i slots))) (map (slot_entry labels) (drop i slots))
      ≡ locals_in f 0 (map (slot_entry labels) slots)
  slots-rest =
      sym (locals_in-append f 0 (map (slot_entry labels) (take i slots)) (map (slot_entry labels) (drop i slots)))
      ∙ ap (locals_in f 0) (sym (map-append (slot_entry labels) (take i slots) (drop i slots)) ∙ ap (map (slot_entry labels)) (take-append-drop i slots))

module _ (labels : List Label) (procedures : List Procedure) (i : ℕ) where
  abbrev first_procedures : List LocalEntry
  first_procedures = locals_from 0 (map (procedure_entry labels) (take i procedures))

  pub procedures-more : (d : Procedure) → i < length procedures
      → first_procedures ++ locals_in i 0 (procedure_entry labels (get_or procedures i d)).slots
      ≡ locals_from 0 (map (procedure_entry labels) (take (i + 1) procedures))
  procedures-more d within =
      let x = procedure_entry labels (get_or procedures i d) in
      sym (ap (locals_from 0) (map_more (procedure_entry labels) procedures i d within)
      ∙ locals_from-append 0 (map (procedure_entry labels) (take i procedures)) (x ∷ [])
      ∙ ap (λ k. first_procedures ++ (locals_in k 0 x.slots ++ [])) (so_many (procedure_entry labels) procedures i within)
      ∙ ap (λ locals. first_procedures ++ locals) (append-nil (locals_in i 0 x.slots)))

  pub procedures-rest : first_procedures ++ locals_from (0 + length (map (procedure_entry labels) (take i procedures))) (map (procedure_entry labels) (drop i procedures))
      ≡ locals_from 0 (map (procedure_entry labels) procedures)
  procedures-rest =
      sym (locals_from-append 0 (map (procedure_entry labels) (take i procedures)) (map (procedure_entry labels) (drop i procedures)))
      ∙ ap (locals_from 0) (sym (map-append (procedure_entry labels) (take i procedures) (drop i procedures)) ∙ ap (map (procedure_entry labels)) (take-append-drop i procedures))

-- ---- a local with and without a written label
pub some-written : (labels : List Label) (written : Option ℕ) → is_some (written_at labels written) ≡ is_some written
some-written labels None = refl
some-written labels (Some number) = refl

pub with_label : (local : LocalEntry) (written : Option Label) → is_some written ≡ true → [] ≡ if_unlabelled local written
with_label local None is = cc
with_label local (Some label) is = refl

without_label : (local : LocalEntry) (written : Option Label) → is_some written ≡ false → if_unlabelled local written ≡ local ∷ []
without_label local None is = refl
without_label local (Some label) is = cc

-- ---- their lines
module _ (source : List ℕ) (checked : CheckedProgram) where
  lines-append : (xs ys : List LocalEntry) (text more : List ℕ) → AreLines source checked xs text → AreLines source checked ys more
      → AreLines source checked (xs ++ ys) (text ++ more)
  lines-append [] ys [] more none after = after
  lines-append [] ys (_ ∷ _) more lines after = elim lines [ ]
  lines-append (x ∷ xs) ys _ more (one_more local locals line text is rest) after =
      subst (λ (t : List ℕ). AreLines source checked (local ∷ (locals ++ ys)) t) (sym (append_assoc line text more))
      (one_more local (locals ++ ys) line (text ++ more) is (lines-append locals ys text more rest after))

  -- there are such lines for all locals
  lines-there : (locals : List LocalEntry) → (text : List ℕ) × AreLines source checked locals text
  lines-there [] = ([], none)
  lines-there (local ∷ locals) =
      let h = (program_of checked.core).hierarchy in
      let least = least_label checked (OfLocal local.procedure local.number) in
      let line = local_line source h local (canonical least) in
      let rest = lines-there locals in (
        line ++ rest.0,
        one_more local locals line rest.0
            (canonical least, IsCanonicalLabel-canonical least, record { to = canonical-above h least; from = canonical-below h least }, refl) rest.1,
      )

  -- the line of a local that has no written label
  module _ (mid new : Option (List ℕ)) (local : LocalEntry) (written : Option Label) (unlabelled : is_some written ≡ false) (line : List ℕ)
      (is : IsLocalLine source checked local line) where
    alone : AreLines source checked (if_unlabelled local written) line
    alone = subst (λ (locals : List LocalEntry). AreLines source checked locals line) (sym (without_label local written unlabelled))
        (subst (λ (t : List ℕ). AreLines source checked (local ∷ []) t) (append-nil line) (one_more local [] line [] is none))

    pub writes_one : Appends mid new line → Writes (AreLines source checked (if_unlabelled local written)) mid new
    writes_one now = (line, alone, now)

    pub writes_part : AppendsPrefix mid new line → WritesPrefix (AreLines source checked (if_unlabelled local written)) mid new
    writes_part part = (line, alone, part)

  -- no line
  pub writes_none : (locals : List LocalEntry) → [] ≡ locals → (old : Option (List ℕ)) → Writes (AreLines source checked locals) old old
  writes_none locals none_are old =
      subst (λ (list : List LocalEntry). Writes (AreLines source checked list) old old) none_are ([], none, Appends-nil old)

  pub part_of_none : (locals : List LocalEntry) (old : Option (List ℕ)) → WritesPrefix (AreLines source checked locals) old old
  part_of_none locals old = let there = lines-there locals in (there.0, there.1, ([], (there.0, refl), Appends-nil old))

  -- lines and more lines
  module _ (front back all : List LocalEntry) (joined : front ++ back ≡ all) (old mid new : Option (List ℕ))
      (before : Writes (AreLines source checked front) old mid) where
    pub writes_more : Writes (AreLines source checked back) mid new → Writes (AreLines source checked all) old new
    writes_more now = (
      before.0 ++ now.0,
      subst (λ (locals : List LocalEntry). AreLines source checked locals (before.0 ++ now.0)) joined (lines-append front back before.0 now.0 before.1 now.1),
      Appends-trans old mid new before.0 now.0 before.2 now.2,
    )

    pub writes_some : WritesPrefix (AreLines source checked back) mid new → WritesPrefix (AreLines source checked all) old new
    writes_some part = (
      before.0 ++ part.0,
      subst (λ (locals : List LocalEntry). AreLines source checked locals (before.0 ++ part.0)) joined (lines-append front back before.0 part.0 before.1 part.1),
      (
        before.0 ++ part.2.0,
        (part.2.1.0, append_assoc before.0 part.2.0 part.2.1.0 ∙ ap (λ text. before.0 ++ text) part.2.1.1),
        Appends-trans old mid new before.0 part.2.0 before.2 part.2.2,
      ),
    )

  -- a prefix of some lines is one of more
  pub cut_lines : (front back all : List LocalEntry) → front ++ back ≡ all → (old new : Option (List ℕ))
      → WritesPrefix (AreLines source checked front) old new → WritesPrefix (AreLines source checked all) old new
  cut_lines front back all joined old new part =
      let there = lines-there back in (
        part.0 ++ there.0,
        subst (λ (locals : List LocalEntry). AreLines source checked locals (part.0 ++ there.0)) joined (lines-append front back part.0 there.0 part.1 there.1),
        (
          part.2.0,
          (part.2.1.0 ++ there.0, sym (append_assoc part.2.0 part.2.1.0 there.0) ∙ ap (λ text. text ++ there.0) part.2.1.1),
          part.2.2,
        ),
      )

  -- the lines of one more slot, or a part of them
  module _ (f : ℕ) (slots : List Slot) (i : ℕ) (x : Slot) (old mid new : Option (List ℕ)) (within : i < length slots) (is : x ≡ get_or slots i x)
      (before : Writes (AreLines source checked (first_slots checked.core.labels f slots i)) old mid) where
    slot_joined : first_slots checked.core.labels f slots i ++ if_unlabelled (local_of f i (slot_entry checked.core.labels x)) (slot_entry checked.core.labels x).written ≡ first_slots checked.core.labels f slots (i + 1)
    slot_joined =
        ap (λ s. first_slots checked.core.labels f slots i ++ if_unlabelled (local_of f i (slot_entry checked.core.labels s)) (slot_entry checked.core.labels s).written) is ∙ slots-more checked.core.labels f slots i x within

    pub writes_slot : Writes (AreLines source checked (if_unlabelled (local_of f i (slot_entry checked.core.labels x)) (slot_entry checked.core.labels x).written)) mid new
        → Writes (AreLines source checked (first_slots checked.core.labels f slots (i + 1))) old new
    writes_slot now = writes_more (first_slots checked.core.labels f slots i) _ (first_slots checked.core.labels f slots (i + 1)) slot_joined old mid new before now

    pub writes_some_slots : WritesPrefix (AreLines source checked (if_unlabelled (local_of f i (slot_entry checked.core.labels x)) (slot_entry checked.core.labels x).written)) mid new
        → WritesPrefix (AreLines source checked (locals_in f 0 (map (slot_entry checked.core.labels) slots))) old new
    writes_some_slots part =
        cut_lines (first_slots checked.core.labels f slots (i + 1)) _ _ (slots-rest checked.core.labels f slots (i + 1)) old new
        (writes_some (first_slots checked.core.labels f slots i) _ (first_slots checked.core.labels f slots (i + 1)) slot_joined old mid new before part)

  -- the lines of one more procedure, or a part of them
  module _ (procedures : List Procedure) (i : ℕ) (x : Procedure) (slots : List Slot) (old mid new : Option (List ℕ)) (within : i < length procedures)
      (is : x ≡ get_or procedures i x) (slots_are : slots ≡ x.slots.items)
      (before : Writes (AreLines source checked (first_procedures checked.core.labels procedures i)) old mid) where
    procedure_joined : first_procedures checked.core.labels procedures i ++ locals_in i 0 (map (slot_entry checked.core.labels) slots) ≡ first_procedures checked.core.labels procedures (i + 1)
    procedure_joined =
        ap (λ list. first_procedures checked.core.labels procedures i ++ locals_in i 0 (map (slot_entry checked.core.labels) list)) slots_are
        ∙ ap (λ p. first_procedures checked.core.labels procedures i ++ locals_in i 0 (procedure_entry checked.core.labels p).slots) is
        ∙ procedures-more checked.core.labels procedures i x within

    pub writes_procedure : (text : List ℕ) → text ≡ source → Writes (AreLines text checked (locals_in i 0 (map (slot_entry checked.core.labels) slots))) mid new
        → Writes (AreLines source checked (first_procedures checked.core.labels procedures (i + 1))) old new
    writes_procedure text same now =
        writes_more (first_procedures checked.core.labels procedures i) _ (first_procedures checked.core.labels procedures (i + 1)) procedure_joined old mid new before
        (subst (λ (t : List ℕ). Writes (AreLines t checked (locals_in i 0 (map (slot_entry checked.core.labels) slots))) mid new) same now)

    pub writes_some_procedures : (text : List ℕ) → text ≡ source
        → WritesPrefix (AreLines text checked (locals_in i 0 (map (slot_entry checked.core.labels) slots))) mid new
        → WritesPrefix (AreLines source checked (locals_from 0 (map (procedure_entry checked.core.labels) procedures))) old new
    writes_some_procedures text same part =
        cut_lines (first_procedures checked.core.labels procedures (i + 1)) _ _ (procedures-rest checked.core.labels procedures (i + 1)) old new
        (writes_some (first_procedures checked.core.labels procedures i) _ (first_procedures checked.core.labels procedures (i + 1)) procedure_joined old mid new before
        (subst (λ (t : List ℕ). WritesPrefix (AreLines t checked (locals_in i 0 (map (slot_entry checked.core.labels) slots))) mid new) same part))

    -- these are the first of all lines
    pub writes_procedures : (text : List ℕ) → text ≡ source → Writes (AreLines text checked (locals_in i 0 (map (slot_entry checked.core.labels) slots))) mid new
        → WritesPrefix (AreLines source checked (locals_from 0 (map (procedure_entry checked.core.labels) procedures))) old new
    writes_procedures text same now =
        let there = writes_procedure text same now in
        cut_lines (first_procedures checked.core.labels procedures (i + 1)) _ _ (procedures-rest checked.core.labels procedures (i + 1)) old new
        (there.0, there.1, (there.0, prefix-itself there.0, there.2))
