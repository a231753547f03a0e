-- Flows that were spread and taken in portions: what some of these are together.
use Rattle.std.proofs.Common.{◌≡◌, refl, ap, ◌∙◌, ℕ, ◌+◌, ◌<◌, List, [], ◌∷◌, ◌++◌, length, map, take, drop, get_or, arith, ◌⊎◌}
use Rattle.std.specs.declared.alloc.AllocError.{AllocError}
use Rattle.std.specs.Prelude.{Contains, IfOk, OnOk, Result, Ok, Err}
use Rattle.std.proofs.lemmas.List.{map-append}
use Rattle.labels.specs.Label.{Label}
use Rattle.resolved.specs.declared.program.Core.{Core}
use Rattle.resolved.specs.CoreOf.{program_of}
use Rattle.resolved.specs.Program.{procedure_at}
use Rattle.gathering.specs.Names.{NamedAtom, NamedConstraint, unknowns_before}
use Rattle.gathering.specs.Walk.{inner_atom, inner_constraint}
use Rattle.solver.specs.declared.constraints.Atom as stored
use Rattle.constraints.specs.Added.{AreAdded, IsLeft, IsPart, Stored, stand_for, stands_for}
use Rattle.constraints.specs.Journals.{HasOneExitUnknown}
use Rattle.constraints.specs.Merging.{AreSomeTaken, Row}
use Rattle.constraints.specs.Rows.{IsRow}
use Rattle.constraints.specs.Spreading.{AreCallsOf, AreLabelsOf, AreSpread, AreSpreadTo, Declares, IsSpreadTo, fixed_flows, made_list}
use Rattle.constraints.specs.declared.journal.Called.{Called}
use Rattle.constraints.specs.declared.journal.Journal.{Journal}
use Rattle.constraints.specs.declared.rows.ProcedureLabels.{ProcedureLabels}
use Rattle.constraints.specs.declared.rows.ThrownLabel.{ThrownLabel}
use Rattle.constraints.proofs.PartRows.{taken-both, taken-none}
use Rattle.constraints.proofs.Spread.{joined-all, joined-two, parted-spread, single-spread}
use Rattle.constraints.proofs.SpreadRows.{row-none, row-quiet, row-spread}

-- ---- constraints that stand by themselves, after others
added-after : (core : Core) (table : List Label) (added : List NamedConstraint) (before own : List Stored)
    → AreAdded core table added [] own → AreAdded core table added before (before ++ own)
added-after core table added before own are = map-append (stands_for table) before own ∙ ap (λ xs. stand_for table before ++ xs) are

to-after : (core : Core) (table : List Label) (journal : Journal) (labels : List ThrownLabel) (calls : List Called) (first next : ℕ) (before own : List Stored) (atom : stored.Atom)
    → IsSpreadTo core table journal labels calls (made_list first []) (made_list next own) atom
    → IsSpreadTo core table journal labels calls (made_list first before) (made_list next (before ++ own)) atom
to-after core table journal labels calls first next before own atom to = record {
  spread = record {
    added = to.spread.added;
    meanings = to.spread.meanings;
    are_added = added-after core table to.spread.added before own to.spread.are_added;
    number_is = to.spread.number_is;
    few = to.spread.few;
    each = to.spread.each;
    leads = to.spread.leads;
  };
  node = to.node;
  is_part = to.is_part;
  is_node = to.is_node;
  stands_for = to.stands_for;
  reaches = to.reaches;
  fewer = to.fewer;
}

-- a single call
pub single-call : (calls : List Called) (d : Called) → length calls ≡ 1 → calls ≡ get_or calls 0 d ∷ []
single-call [] d one = absurd (omega (arith, one))
single-call (x ∷ []) d one = refl
single-call (x ∷ y ∷ calls) d one = absurd (omega (arith, one))

module _ (Over : stored.Atom → stored.Atom → Type 0) (same : (a : stored.Atom) → Over a a) (then : (a b c : stored.Atom) → Over a b → Over b c → Over a c)
    (core : Core) (table : List Label) (journal : Journal) where
  -- the flows of exceptions by a part
  abbrev Fixed : Called → List ThrownLabel → stored.Atom → List Stored → Type 0
  Fixed called labels atom own =
      (callee number : ℕ) → IsPart core table (inner_atom number) atom → AreLabelsOf core table callee labels →
      AreAdded core table (fixed_flows (program_of core) journal called callee number labels) [] own

  -- a new inner unknown
  abbrev Joined : List stored.Atom → (number : ℕ) → List Stored → Type 0
  Joined parts number own = (atoms : List NamedAtom) → IsLeft core table atoms parts → AreAdded core table (inner_constraint atoms number) [] own

  pub single-taken : (labels : List ThrownLabel) (called : Called) (first next : ℕ) (old_rows rows : List Row) (old new : List Stored) (atom : stored.Atom)
      → IsPart core table (inner_atom called.own) atom → next ≡ first
      → AreSomeTaken Over (Fixed called labels atom) old_rows rows old new
      → AreSomeTaken Over (λ own. AreSpreadTo core table journal labels (called ∷ []) (made_list first []) (made_list next own) atom) old_rows rows old new
  single-taken labels called first next old_rows rows old new atom part number taken = record {
    own = taken.own;
    holds = single-spread core table journal labels called (made_list first []) (made_list next taken.own) atom part number taken.holds;
    are_taken = taken.are_taken;
  }

  pub parted-taken : (labels varied fixed varied' fixed' : List ThrownLabel) (calls : List Called) (one : Called)
      (first number next : ℕ) (old_rows middle_rows rows : List Row) (old middle new : List Stored) (atom : stored.Atom)
      → fixed' ≡ fixed → varied' ≡ varied → 0 < length calls → one ≡ get_or calls 0 one
      → ((x : ThrownLabel) → Contains fixed x → HasOneExitUnknown journal calls x.exception)
      → ((x : ThrownLabel) → Contains labels x → Contains fixed x ⊎ Contains varied x)
      → ((x : ThrownLabel) → Contains fixed x → Contains labels x) → ((x : ThrownLabel) → Contains varied x → Contains labels x)
      → next ≡ number
      → AreSomeTaken Over (Fixed one fixed' atom) middle_rows rows middle new
      → AreSomeTaken Over (λ own. AreSpreadTo core table journal varied' calls (made_list first []) (made_list number own) atom) old_rows middle_rows old middle
      → AreSomeTaken Over (λ own. AreSpreadTo core table journal labels calls (made_list first []) (made_list next own) atom) old_rows rows old new
  parted-taken labels varied fixed varied' fixed' calls one first number next old_rows middle_rows rows old middle new atom is_fixed is_varied some at_first once parts fixed_of varied_of number_is taken halves = record {
    own = halves.own ++ taken.own;
    holds = parted-spread core table journal labels varied fixed varied' fixed' calls one
        (made_list first []) (made_list number halves.own) (made_list next (halves.own ++ taken.own)) atom
        is_fixed is_varied some at_first once parts fixed_of varied_of number_is
        (λ callee n part labelled. added-after core table (fixed_flows (program_of core) journal one callee n fixed') halves.own taken.own (taken.holds callee n part labelled))
        halves.holds;
    are_taken = taken-both Over same then halves.own taken.own old_rows middle_rows rows old middle new halves.are_taken taken.are_taken;
  }

  pub all-taken : (labels : List ThrownLabel) (calls : List Called) (parts : List stored.Atom) (first next : ℕ) (old_rows rows : List Row) (old new : List Stored)
      (result : Result stored.Atom AllocError)
      → length labels ≡ 0 → 1 < length calls → IsLeft core table (map (λ (called : Called). inner_atom called.own) calls) parts
      → OnOk result (next ≡ first + 1)
      → OnOk result (AreSomeTaken Over (Joined parts first) old_rows rows old new)
      → IfOk result (λ atom. IsPart core table (inner_atom first) atom)
      → IfOk result (λ atom. AreSomeTaken Over (λ own. AreSpreadTo core table journal labels calls (made_list first []) (made_list next own) atom) old_rows rows old new)
  all-taken labels calls parts first next old_rows rows old new (Err e) none several left number taken part = tt
  all-taken labels calls parts first next old_rows rows old new (Ok atom) none several left number taken part = record {
    own = taken.own;
    holds = joined-all core table journal labels calls parts (made_list first []) (made_list next taken.own) (Ok atom) none several left number taken.holds part;
    are_taken = taken.are_taken;
  }

  pub two-taken : (labels : List ThrownLabel) (n : ℕ) (calls a b : List Called) (parts : List stored.Atom) (first second third next : ℕ)
      (old_rows middle_rows late_rows rows : List Row) (old middle late new : List Stored) (one_atom other_atom : stored.Atom) (result : Result stored.Atom AllocError)
      → a ≡ take n calls → b ≡ drop n calls → parts ≡ one_atom ∷ other_atom ∷ []
      → AreSomeTaken Over (λ own. AreSpreadTo core table journal labels a (made_list first []) (made_list second own) one_atom) old_rows middle_rows old middle
      → AreSomeTaken Over (λ own. AreSpreadTo core table journal labels b (made_list second []) (made_list third own) other_atom) middle_rows late_rows middle late
      → OnOk result (next ≡ third + 1)
      → OnOk result (AreSomeTaken Over (Joined parts third) late_rows rows late new)
      → IfOk result (λ atom. IsPart core table (inner_atom third) atom)
      → IfOk result (λ atom. AreSomeTaken Over (λ own. AreSpreadTo core table journal labels calls (made_list first []) (made_list next own) atom) old_rows rows old new)
  two-taken labels n calls a b parts first second third next old_rows middle_rows late_rows rows old middle late new one_atom other_atom (Err e) front back are one other number taken part = tt
  two-taken labels n calls a b parts first second third next old_rows middle_rows late_rows rows old middle late new one_atom other_atom (Ok atom) front back are one other number taken part =
      let both : List Stored = one.own ++ other.own in
      record {
        own = both ++ taken.own;
        holds = joined-two core table journal labels n calls a b parts (made_list first []) (made_list second one.own) (made_list third both) (made_list next (both ++ taken.own))
            one_atom other_atom (Ok atom) front back are one.holds
            (λ callee of labelled. to-after core table journal labels b second third one.own other.own other_atom (other.holds callee of labelled))
            number (λ atoms left. added-after core table (inner_constraint atoms third) both taken.own (taken.holds atoms left)) part;
        are_taken = taken-both Over same then both taken.own old_rows late_rows rows old late new
            (taken-both Over same then one.own other.own old_rows middle_rows late_rows old middle late one.are_taken other.are_taken) taken.are_taken;
      }

  -- ---- of the calls of one procedure
  abbrev OfRow : (callee : ℕ) → List Called → (first next : ℕ) → List Stored → Type 0
  OfRow callee calls first next own = AreCallsOf callee calls → AreSpread core table journal (Declares core) calls (made_list first []) (made_list next own)

  pub row-taken : (callee : ℕ) (row : ProcedureLabels) (labels : List ThrownLabel) (calls : List Called) (first next : ℕ) (old_rows rows : List Row) (old new : List Stored) (atom : stored.Atom)
      → IsRow table (unknowns_before (program_of core) callee) (procedure_at (program_of core) callee) row → labels ≡ row.throws.items
      → AreSomeTaken Over (λ own. AreSpreadTo core table journal labels calls (made_list first []) (made_list next own) atom) old_rows rows old new
      → AreSomeTaken Over (OfRow callee calls first next) old_rows rows old new
  row-taken callee row labels calls first next old_rows rows old new atom is throws taken = record {
    own = taken.own;
    holds = row-spread core table journal callee row labels calls (made_list first []) (made_list next taken.own) atom is throws taken.holds;
    are_taken = taken.are_taken;
  }

  pub no-calls-taken : (callee : ℕ) (calls : List Called) (first : ℕ) (rows : List Row) (old : List Stored)
      → length calls ≡ 0 → AreSomeTaken Over (OfRow callee calls first first) rows rows old old
  no-calls-taken callee calls first rows old none = record {
    own = [];
    holds = λ of. row-none core table journal calls (made_list first []) none;
    are_taken = taken-none Over same rows old;
  }

  pub no-throws-taken : (callee : ℕ) (row : ProcedureLabels) (labels : List ThrownLabel) (calls : List Called) (first : ℕ) (rows : List Row) (old : List Stored)
      → IsRow table (unknowns_before (program_of core) callee) (procedure_at (program_of core) callee) row → labels ≡ row.throws.items → length labels ≡ 0
      → AreSomeTaken Over (OfRow callee calls first first) rows rows old old
  no-throws-taken callee row labels calls first rows old is throws none = record {
    own = [];
    holds = row-quiet core table journal callee row labels calls (made_list first []) is throws none;
    are_taken = taken-none Over same rows old;
  }
