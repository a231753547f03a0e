-- Flows that were spread: what two of them are together, and how they are made.
use Rattle.std.proofs.Common.{◌≡◌, refl, sym, ap, ◌∙◌, subst, ℕ, suc, ◌+◌, ◌<◌, ◌≤◌, List, [], ◌∷◌, ◌++◌, length, map, take, drop, get_or, arith, ◌⊎◌, inl, inr, ⊎_elim}
use Rattle.std.specs.declared.alloc.AllocError.{AllocError}
use Rattle.std.specs.Prelude.{Contains, IfOk, OnOk, Result, Some, Ok, Err}
use Rattle.std.proofs.lemmas.List.{length-append, map-append, take-append-drop}
use Rattle.std.proofs.lemmas.List.Elements.{Contains-append_cases, Contains-append_left, Contains-append_right}
use Rattle.common.proofs.Elements.{none_in_nil, Contains-cons_cases, Contains-first, Contains-later}
use Rattle.common.proofs.Cases.{contained_map, contained_map_only}
use Rattle.labels.specs.Label.{Label}
use Rattle.lattices.specs.Constraints.{Atom, Constraint}
use Rattle.resolved.specs.declared.program.Core.{Core}
use Rattle.resolved.specs.declared.statement.Exit.TheVariants.{Throw}
use Rattle.resolved.specs.CoreOf.{program_of}
use Rattle.resolved.specs.Program.{Program}
use Rattle.gathering.specs.Names.{NamedAtom, NamedConstraint, named_atoms}
use Rattle.gathering.specs.Rerouted.{Leads, arrived, onward}
use Rattle.gathering.specs.Walk.{call_atoms, inner_atom, inner_constraint}
use Rattle.solver.specs.declared.constraints.Atom as stored
use Rattle.constraints.specs.Added.{AreAdded, IsLeft, IsPart, PartConstraint, Stored, stand_for, stands_for, wanted_constraint}
use Rattle.constraints.specs.LeftSides.{left_parts, part as part-of, wanted_part}
use Rattle.constraints.specs.Journals.{HasOneExitUnknown, raised_flow, exit_unknown_at}
use Rattle.constraints.specs.Spreading.{AreCallsOf, AreLabelsOf, AreSpread, AreSpreadTo, IsNode, IsSpread, IsSpreadTo, IsSpreadWhole, MadeList, StandForThemselves, StandFrom, exceptions_of, fixed_flows, joining_flow, owns_of}
use Rattle.constraints.specs.declared.journal.Called.{Called}
use Rattle.constraints.specs.declared.journal.Journal.{Journal}
use Rattle.constraints.specs.declared.rows.ThrownLabel.{ThrownLabel}
use Rattle.constraints.proofs.Added.{added-none, added-then}
use Rattle.constraints.proofs.FixedFlows.{fixed-in, in-fixed}
use Rattle.constraints.proofs.Tables.{map-map}

-- ---- paths of constraints
pub leads-more : {N U V : Type 0} (xs ys : List (Constraint N U V)) → ((c : Constraint N U V) → Contains xs c → Contains ys c)
    → (from to : Atom U V) → Leads xs from to → Leads ys from to
leads-more xs ys more from to (arrived _ same) = arrived to same
leads-more xs ys more from to (onward middle _ leads link) =
    onward middle to (leads-more xs ys more from middle leads)
    (record { by = link.by; among = more link.by link.among; starts = link.starts; ends = link.ends })

pub leads-by : {N U V : Type 0} (xs : List (Constraint N U V)) (c : Constraint N U V) (from middle to : Atom U V)
    → Leads xs from middle → Contains xs c → Contains c.left middle → c.right ≡ to → Leads xs from to
leads-by xs c from middle to leads among starts ends = onward middle to leads (record { by = c; among = among; starts = starts; ends = ends })

-- ---- what unknowns stand for
module _ (stands : ℕ → List ℕ) where
  stand-left : (n : ℕ) (xs ys : List (List ℕ)) → StandFrom stands n (xs ++ ys) → StandFrom stands n xs
  stand-left n [] ys h = tt
  stand-left n (x ∷ xs) ys h = (h.0, stand-left (suc n) xs ys h.1)

  stand-right : (n next : ℕ) (xs ys : List (List ℕ)) → next ≡ n + length xs → StandFrom stands n (xs ++ ys) → StandFrom stands next ys
  stand-right n next [] ys is h = let e : n ≡ next = omega (arith, is) in subst (λ k. StandFrom stands k ys) e h
  stand-right n next (x ∷ xs) ys is h = stand-right (suc n) next xs ys (omega (arith, is)) h.1

-- ---- in a wider range, among more calls
node-more : (first next first' next' : ℕ) (calls more : List Called) (node : ℕ) → first' ≤ first → next ≤ next'
    → ((called : Called) → Contains calls called → Contains more called) → IsNode first next calls node → IsNode first' next' more node
node-more first next first' next' calls more node least most within (inl own) = inl (own.0, within own.0 own.1, own.2)
node-more first next first' next' calls more node least most within (inr made) = inr (omega (arith, least, made.0), omega (arith, most, made.1))

pub spread-more : (core : Core) (journal : Journal) (stands : ℕ → List ℕ) (first next first' next' : ℕ) (calls more : List Called) (c : NamedConstraint) → first' ≤ first → next ≤ next'
    → ((called : Called) → Contains calls called → Contains more called) → IsSpread core journal stands first next calls c → IsSpread core journal stands first' next' more c
spread-more core journal stands first next first' next' calls more c least most within (inl join) = inl (record {
  to = join.to;
  parts = join.parts;
  from_first = omega (arith, least, join.from_first);
  below_next = omega (arith, most, join.below_next);
  nodes = λ node h. node-more first next first' next' calls more node least most within (join.nodes node h);
  brings = join.brings;
  is = join.is;
})
spread-more core journal stands first next first' next' calls more c least most within (inr raise) = inr (record {
  node = raise.node;
  of = raise.of;
  callee = raise.callee;
  exception = raise.exception;
  exit_unknown = raise.exit_unknown;
  is_node = node-more first next first' next' calls more raise.node least most within raise.is_node;
  stands_for = raise.stands_for;
  some = raise.some;
  among = λ called h. within called (raise.among called h);
  of_callee = raise.of_callee;
  takes = raise.takes;
  declared = raise.declared;
  is = raise.is;
})

-- ---- one after the other
pub both-spread : (core : Core) (table : List Label) (journal : Journal) (raises : Called → ℕ → Type 0) (a b : List Called) (old middle new : MadeList)
    → AreSpread core table journal raises a old middle → AreSpread core table journal raises b middle new → AreSpread core table journal raises (a ++ b) old new
both-spread core table journal raises a b old middle new first second = record {
  added = first.added ++ second.added;
  meanings = first.meanings ++ second.meanings;
  are_added = added-then core table first.added second.added old.constraints middle.constraints new.constraints first.are_added second.are_added;
  number_is = omega (arith, first.number_is, second.number_is, length-append first.meanings second.meanings);
  few = omega (arith, first.few, second.few, length-append first.meanings second.meanings, length-append a b);
  each = λ stands themselves from c h. ⊎_elim
      (λ k. spread-more core journal stands old.number middle.number old.number new.number a (a ++ b) c (omega arith) (omega (arith, second.number_is)) (Contains-append_left a b)
      (first.each stands (λ called inside. themselves called (Contains-append_left a b called inside)) (stand-left stands old.number first.meanings second.meanings from) c k))
      (λ k. spread-more core journal stands middle.number new.number old.number new.number b (a ++ b) c (omega (arith, first.number_is)) (omega arith) (Contains-append_right a b)
      (second.each stands (λ called inside. themselves called (Contains-append_right a b called inside))
      (stand-right stands old.number middle.number first.meanings second.meanings first.number_is from) c k))
      (Contains-append_cases first.added second.added c h);
  leads = λ called inside exception raised exit_unknown takes from in_left. ⊎_elim
      (λ k. leads-more first.added (first.added ++ second.added) (Contains-append_left first.added second.added) from (inner_atom exit_unknown)
      (first.leads called k exception raised exit_unknown takes from in_left))
      (λ k. leads-more second.added (first.added ++ second.added) (Contains-append_right first.added second.added) from (inner_atom exit_unknown)
      (second.leads called k exception raised exit_unknown takes from in_left))
      (Contains-append_cases a b called inside);
}

-- ---- nothing, where nothing is raised
pub none-spread : (core : Core) (table : List Label) (journal : Journal) (raises : Called → ℕ → Type 0) (calls : List Called) (made : MadeList)
    → ((called : Called) (exception : ℕ) → Contains calls called → raises called exception → ⊥) → AreSpread core table journal raises calls made made
none-spread core table journal raises calls made none = record {
  added = [];
  meanings = [];
  are_added = added-none core table made.constraints;
  number_is = omega arith;
  few = omega arith;
  each = λ stands themselves from c h. absurd (none_in_nil c h);
  leads = λ called inside exception raised exit_unknown takes from in_left. absurd (none called exception inside raised);
}

-- the same of other exceptions, each one of those, and of other calls
pub raises-less : (core : Core) (table : List Label) (journal : Journal) (raises raises' : Called → ℕ → Type 0) (calls calls' : List Called) (old new : MadeList)
    → length calls ≤ length calls' → ((called : Called) → Contains calls called → Contains calls' called)
    → ((called : Called) (exception : ℕ) → Contains calls' called → raises' called exception → Contains calls called × raises called exception)
    → AreSpread core table journal raises calls old new → AreSpread core table journal raises' calls' old new
raises-less core table journal raises raises' calls calls' old new fewer within is spread = record {
  added = spread.added;
  meanings = spread.meanings;
  are_added = spread.are_added;
  number_is = spread.number_is;
  few = omega (arith, fewer, spread.few);
  each = λ stands themselves from c h. spread-more core journal stands old.number new.number old.number new.number calls calls' c (omega arith) (omega arith) within
      (spread.each stands (λ called inside. themselves called (within called inside)) from c h);
  leads = λ called inside exception raised.
      let had = is called exception inside raised in
      spread.leads called had.0 exception had.1;
}

-- ---- to one unknown: a single call
pub one-spread : (core : Core) (table : List Label) (journal : Journal) (called : Called) (made : MadeList) (atom : stored.Atom)
    → IsPart core table (inner_atom called.own) atom → IsSpreadTo core table journal [] (called ∷ []) made made atom
unfolding none-spread
one-spread core table journal called made atom part = record {
  spread = none-spread core table journal (λ called x. Contains (exceptions_of []) x) (called ∷ []) made (λ one x inside h. none_in_nil x h);
  node = called.own;
  is_part = part;
  is_node = inl (called, Contains-first called [], refl);
  stands_for = λ stands themselves from. themselves called (Contains-first called []);
  reaches = λ one inside. arrived (inner_atom called.own)
      (⊎_elim (λ same. ap (λ (c : Called). inner_atom c.own) (sym same)) (λ none. absurd (none_in_nil one none)) (Contains-cons_cases called [] one inside));
  fewer = omega arith;
}

-- all calls at once, where no exception is left
join-brings : (stands : ℕ → List ℕ) (calls : List Called) (to : ℕ) → StandForThemselves stands calls → stands to ≡ owns_of calls
    → (node own : ℕ) → Contains (owns_of calls) node → Contains (stands node) own → Contains (stands to) own
join-brings stands calls to themselves is node own h k =
    let of = contained_map_only (λ (called : Called). called.own) calls node h in
    let alone : stands node ≡ node ∷ [] = subst (λ n. stands n ≡ n ∷ []) of.2 (themselves of.0 of.1) in
    let same : node ≡ own = ⊎_elim (λ e. e) (λ none. absurd (none_in_nil own none)) (Contains-cons_cases node [] own (subst (λ list. Contains list own) alone k)) in
    subst (λ list. Contains list own) (sym is) (subst (Contains (owns_of calls)) same h)

pub all-spread : (core : Core) (table : List Label) (journal : Journal) (calls : List Called) (old new : MadeList) (atom : stored.Atom)
    → 1 < length calls → new.number ≡ old.number + 1
    → AreAdded core table (inner_constraint (map (λ (called : Called). inner_atom called.own) calls) old.number) old.constraints new.constraints
    → IsPart core table (inner_atom old.number) atom → IsSpreadTo core table journal [] calls old new atom
all-spread core table journal calls old new atom several number added part =
    let join : NamedConstraint = joining_flow (owns_of calls) old.number in
    let same : map (λ (called : Called). inner_atom called.own) calls ≡ map inner_atom (owns_of calls) = map-map (λ (called : Called). called.own) inner_atom calls in
    record {
      spread = record {
        added = join ∷ [];
        meanings = owns_of calls ∷ [];
        are_added = subst (λ atoms. AreAdded core table (inner_constraint atoms old.number) old.constraints new.constraints) same added;
        number_is = number;
        few = omega (arith, several);
        each = λ stands themselves from c h. inl (record {
          to = old.number;
          parts = owns_of calls;
          from_first = omega arith;
          below_next = omega (arith, number);
          nodes = λ node k. inl (contained_map_only (λ (called : Called). called.own) calls node k);
          brings = join-brings stands calls old.number themselves from.0;
          is = ⊎_elim sym (λ none. absurd (none_in_nil c none)) (Contains-cons_cases join [] c h);
        });
        leads = λ called inside exception raised. absurd (none_in_nil exception raised);
      };
      node = old.number;
      is_part = part;
      is_node = inr (omega arith, omega (arith, number));
      stands_for = λ stands themselves from. from.0;
      reaches = λ called inside. leads-by (join ∷ []) join (inner_atom called.own) (inner_atom called.own) (inner_atom old.number) (arrived (inner_atom called.own) refl)
          (Contains-first join [])
          (contained_map inner_atom (owns_of calls) called.own (contained_map (λ (called : Called). called.own) calls called inside)) refl;
      fewer = several;
    }

-- ---- exceptions that have one exit unknown at all of the calls
abbrev label_part : Program → (callee exception : ℕ) → List NamedAtom
label_part program f x = named_atoms (call_atoms program f (Throw x))

raised-leads : (program : Program) (xs : List NamedConstraint) (callee callee' own node exception exception' exit_unknown : ℕ) → callee' ≡ callee → exception' ≡ exception
    → Contains xs (raised_flow program callee node exception exit_unknown) → Leads xs (inner_atom own) (inner_atom node)
    → (from : NamedAtom) → Contains (raised_flow program callee' own exception' exit_unknown).left from → Leads xs from (inner_atom exit_unknown)
raised-leads program xs callee callee' own node exception exception' exit_unknown same same' among reaches from h =
    let flow : NamedConstraint = raised_flow program callee node exception exit_unknown in
    ⊎_elim
    (λ is. leads-by xs flow from (inner_atom node) (inner_atom exit_unknown) (subst (λ a. Leads xs a (inner_atom node)) is reaches) among (Contains-first (inner_atom node) (label_part program callee exception)) refl)
    (λ k. leads-by xs flow from from (inner_atom exit_unknown) (arrived from refl) among
    (Contains-later (inner_atom node) (label_part program callee exception) from
    (subst (λ f. Contains (label_part program f exception) from) same (subst (λ x. Contains (label_part program callee' x) from) same' k))) refl)
    (Contains-cons_cases (inner_atom own) (label_part program callee' exception') from h)

pub fixed-spread : (core : Core) (table : List Label) (journal : Journal) (labels varied fixed : List ThrownLabel) (calls : List Called) (one : Called) (callee : ℕ)
    (old middle new : MadeList) (atom : stored.Atom)
    → Contains calls one → AreCallsOf callee calls → AreLabelsOf core table callee fixed
    → ((x : ThrownLabel) → Contains fixed x → HasOneExitUnknown journal calls x.exception)
    → ((x : ThrownLabel) → Contains labels x → Contains fixed x ⊎ Contains varied x)
    → new.number ≡ middle.number
    → ((number : ℕ) → IsPart core table (inner_atom number) atom →
    AreAdded core table (fixed_flows (program_of core) journal one callee number fixed) middle.constraints new.constraints)
    → IsSpreadTo core table journal varied calls old middle atom → IsSpreadTo core table journal labels calls old new atom
fixed-spread core table journal labels varied fixed calls one callee old middle new atom inside-one of labelled once parts number added to =
    let program : Program = program_of core in
    let was : AreSpread core table journal (λ called x. Contains (exceptions_of varied) x) calls old middle = to.spread in
    let node : ℕ = to.node in
    let flows : List NamedConstraint = fixed_flows program journal one callee node fixed in
    let all : List NamedConstraint = was.added ++ flows in
    let reaches : (called : Called) → Contains calls called → Leads all (inner_atom called.own) (inner_atom node) = λ called inside.
    leads-more was.added all (Contains-append_left was.added flows) (inner_atom called.own) (inner_atom node) (to.reaches called inside) in
    let is_node : IsNode old.number new.number calls node =
    node-more old.number middle.number old.number new.number calls calls node (omega arith) (omega (arith, number)) (λ called h. h) to.is_node in
    record {
      spread = record {
        added = all;
        meanings = was.meanings;
        are_added = added-then core table was.added flows old.constraints middle.constraints new.constraints was.are_added (added node to.is_part);
        number_is = number ∙ was.number_is;
        few = was.few;
        each = λ stands themselves from c h. ⊎_elim
            (λ k. spread-more core journal stands old.number middle.number old.number new.number calls calls c (omega arith) (omega (arith, number)) (λ called i. i)
            (was.each stands themselves from c k))
            (λ k.
            let flow = in-fixed program journal one callee node fixed c k in
            inr (record {
              node = node;
              of = calls;
              callee = callee;
              exception = flow.label.exception;
              exit_unknown = flow.exit_unknown;
              is_node = is_node;
              stands_for = to.stands_for stands themselves from;
              some = omega (arith, inside-one.1);
              among = λ called i. i;
              of_callee = of;
              takes = λ called i. once flow.label flow.among called one i inside-one ∙ flow.takes;
              declared = (labelled flow.label flow.among).0;
              is = flow.is;
            }))
            (Contains-append_cases was.added flows c h);
        leads = λ called inside exception raised exit_unknown takes from in_left.
            let x = contained_map_only (λ (thrown : ThrownLabel). thrown.exception) labels exception raised in
            ⊎_elim
            (λ k.
            let takes-one : exit_unknown_at journal one x.0.exception ≡ Some exit_unknown = once x.0 k one called inside-one inside ∙ (ap (exit_unknown_at journal called) x.2 ∙ takes) in
            raised-leads program all callee called.callee called.own node x.0.exception exception exit_unknown (of called inside) (sym x.2)
            (Contains-append_right was.added flows (raised_flow program callee node x.0.exception exit_unknown) (fixed-in program journal one callee node fixed x.0 exit_unknown k takes-one))
            (reaches called inside) from in_left)
            (λ k. leads-more was.added all (Contains-append_left was.added flows) from (inner_atom exit_unknown)
            (was.leads called inside exception
            (subst (Contains (exceptions_of varied)) x.2 (contained_map (λ (thrown : ThrownLabel). thrown.exception) varied x.0 k)) exit_unknown takes from in_left))
            (parts x.0 x.1);
      };
      node = node;
      is_part = to.is_part;
      is_node = is_node;
      stands_for = to.stands_for;
      reaches = reaches;
      fewer = to.fewer;
    }

pub single-spread : (core : Core) (table : List Label) (journal : Journal) (labels : List ThrownLabel) (called : Called) (old new : MadeList) (atom : stored.Atom)
    → IsPart core table (inner_atom called.own) atom → new.number ≡ old.number
    → ((callee number : ℕ) → IsPart core table (inner_atom number) atom → AreLabelsOf core table callee labels →
    AreAdded core table (fixed_flows (program_of core) journal called callee number labels) old.constraints new.constraints)
    → AreSpreadTo core table journal labels (called ∷ []) old new atom
single-spread core table journal labels called old new atom part number added callee of labelled =
    fixed-spread core table journal labels [] labels (called ∷ []) called callee old old new atom (Contains-first called []) of labelled
    (λ x h a b i k. ap (λ (c : Called). exit_unknown_at journal c x.exception) (sym (itself a i) ∙ itself b k))
    (λ x h. inl h) number (λ n is. added callee n is labelled) (one-spread core table journal called old atom part)
  where
    itself : (one : Called) → Contains (called ∷ []) one → called ≡ one
    itself one h = ⊎_elim (λ same. same) (λ none. absurd (none_in_nil one none)) (Contains-cons_cases called [] one h)

-- ---- two halves
two-are : (P : ℕ → Type 0) (a b : ℕ) → P a → P b → (node : ℕ) → Contains (a ∷ b ∷ []) node → P node
two-are P a b first second node h =
    ⊎_elim (λ same. subst P same first)
    (λ k. ⊎_elim (λ same. subst P same second) (λ none. absurd (none_in_nil node none)) (Contains-cons_cases b [] node k))
    (Contains-cons_cases a (b ∷ []) node h)

two-bring : (stands : ℕ → List ℕ) (owns xs ys : List ℕ) (a b : ℕ) → owns ≡ xs ++ ys → stands a ≡ xs → stands b ≡ ys
    → (node own : ℕ) → Contains (a ∷ b ∷ []) node → Contains (stands node) own → Contains owns own
two-bring stands owns xs ys a b split first second node own h k =
    subst (λ list. Contains list own) (sym split)
    (two-are (λ n. Contains (stands n) own → Contains (xs ++ ys) own) a b
    (λ i. Contains-append_left xs ys own (subst (λ list. Contains list own) first i))
    (λ i. Contains-append_right xs ys own (subst (λ list. Contains list own) second i))
    node h k)

pub two-spread : (core : Core) (table : List Label) (journal : Journal) (labels : List ThrownLabel) (a b : List Called) (parts : List stored.Atom)
    (old middle late new : MadeList) (first second atom : stored.Atom)
    → parts ≡ first ∷ second ∷ [] → new.number ≡ late.number + 1
    → ((atoms : List NamedAtom) → IsLeft core table atoms parts → AreAdded core table (inner_constraint atoms late.number) late.constraints new.constraints)
    → IsPart core table (inner_atom late.number) atom
    → IsSpreadTo core table journal labels a old middle first → IsSpreadTo core table journal labels b middle late second
    → IsSpreadTo core table journal labels (a ++ b) old new atom
unfolding both-spread
two-spread core table journal labels a b parts old middle late new first second atom parts_are number added part one other =
    let raises : Called → ℕ → Type 0 = λ called x. Contains (exceptions_of labels) x in
    let both : AreSpread core table journal raises (a ++ b) old late = both-spread core table journal raises a b old middle late one.spread other.spread in
    let nodes : List ℕ = one.node ∷ other.node ∷ [] in
    let join : NamedConstraint = joining_flow nodes late.number in
    let all : List NamedConstraint = both.added ++ join ∷ [] in
    let owns : List ℕ = owns_of (a ++ b) in
    let split : owns ≡ owns_of a ++ owns_of b = map-append (λ (called : Called). called.own) a b in
    let here : Contains all join = Contains-append_right both.added (join ∷ []) join (Contains-first join []) in
    let counted : length (both.meanings ++ owns ∷ []) ≡ length both.meanings + 1 = length-append both.meanings (owns ∷ []) in
    let left : IsLeft core table (inner_atom one.node ∷ inner_atom other.node ∷ []) parts =
    ap (left_parts table) parts_are ∙ (ap (λ p. p ∷ part-of table second ∷ []) one.is_part ∙ ap (λ p. wanted_part (program_of core) (inner_atom one.node) ∷ p ∷ []) other.is_part) in
    let whole : (stands : ℕ → List ℕ) → StandForThemselves stands (a ++ b) → StandFrom stands old.number both.meanings →
    (node own : ℕ) → Contains nodes node → Contains (stands node) own → Contains owns own = λ stands themselves from node own i bring.
    two-bring stands owns (owns_of a) (owns_of b) one.node other.node split
    (one.stands_for stands (λ called h. themselves called (Contains-append_left a b called h)) (stand-left stands old.number one.spread.meanings other.spread.meanings from))
    (other.stands_for stands (λ called h. themselves called (Contains-append_right a b called h))
    (stand-right stands old.number middle.number one.spread.meanings other.spread.meanings one.spread.number_is from)) node own i bring in
    let stands-late : (stands : ℕ → List ℕ) → StandFrom stands old.number (both.meanings ++ owns ∷ []) → stands late.number ≡ owns = λ stands from.
    (stand-right stands old.number late.number both.meanings (owns ∷ []) both.number_is from).0 in
    record {
      spread = record {
        added = all;
        meanings = both.meanings ++ owns ∷ [];
        are_added = added-then core table both.added (join ∷ []) old.constraints late.constraints new.constraints both.are_added (added (map inner_atom nodes) left);
        number_is = omega (arith, number, both.number_is, counted);
        few = omega (arith, counted, one.fewer, other.fewer, length-append one.spread.meanings other.spread.meanings, length-append a b);
        each = λ stands themselves from c h. ⊎_elim
            (λ k. spread-more core journal stands old.number late.number old.number new.number (a ++ b) (a ++ b) c (omega arith) (omega (arith, number)) (λ called i. i)
            (both.each stands themselves (stand-left stands old.number both.meanings (owns ∷ []) from) c k))
            (λ k. inl (record {
              to = late.number;
              parts = nodes;
              from_first = omega (arith, both.number_is);
              below_next = omega (arith, number);
              nodes = λ node i. two-are (IsNode old.number new.number (a ++ b)) one.node other.node
                  (node-more old.number middle.number old.number new.number a (a ++ b) one.node (omega arith) (omega (arith, number, other.spread.number_is)) (Contains-append_left a b) one.is_node)
                  (node-more middle.number late.number old.number new.number b (a ++ b) other.node (omega (arith, one.spread.number_is)) (omega (arith, number)) (Contains-append_right a b) other.is_node)
                  node i;
              brings = λ node own i bring. subst (λ list. Contains list own) (sym (stands-late stands from))
                  (whole stands themselves (stand-left stands old.number both.meanings (owns ∷ []) from) node own i bring);
              is = ⊎_elim sym (λ none. absurd (none_in_nil c none)) (Contains-cons_cases join [] c k);
            }))
            (Contains-append_cases both.added (join ∷ []) c h);
        leads = λ called inside exception raised exit_unknown takes from in_left.
            leads-more both.added all (Contains-append_left both.added (join ∷ [])) from (inner_atom exit_unknown) (both.leads called inside exception raised exit_unknown takes from in_left);
      };
      node = late.number;
      is_part = part;
      is_node = inr (omega (arith, both.number_is), omega (arith, number));
      stands_for = λ stands themselves from. stands-late stands from;
      reaches = λ called inside. ⊎_elim
          (λ k. leads-by all join (inner_atom called.own) (inner_atom one.node) (inner_atom late.number)
          (leads-more one.spread.added all (λ c i. Contains-append_left both.added (join ∷ []) c (Contains-append_left one.spread.added other.spread.added c i))
          (inner_atom called.own) (inner_atom one.node) (one.reaches called k)) here (Contains-first (inner_atom one.node) (inner_atom other.node ∷ [])) refl)
          (λ k. leads-by all join (inner_atom called.own) (inner_atom other.node) (inner_atom late.number)
          (leads-more other.spread.added all (λ c i. Contains-append_left both.added (join ∷ []) c (Contains-append_right one.spread.added other.spread.added c i))
          (inner_atom called.own) (inner_atom other.node) (other.reaches called k)) here
          (Contains-later (inner_atom one.node) (inner_atom other.node ∷ []) (inner_atom other.node) (Contains-first (inner_atom other.node) [])) refl)
          (Contains-append_cases a b called inside);
      fewer = omega (arith, counted, one.fewer, other.fewer, length-append one.spread.meanings other.spread.meanings, length-append a b);
    }

-- ---- where exceptions were parted
first-in : (calls : List Called) (d : Called) → 0 < length calls → Contains calls (get_or calls 0 d)
first-in [] d h = absurd (omega (arith, h))
first-in (x ∷ xs) d h = Contains-first x xs

pub parted-spread : (core : Core) (table : List Label) (journal : Journal) (labels varied fixed varied' fixed' : List ThrownLabel) (calls : List Called) (one : Called)
    (old middle new : MadeList) (atom : stored.Atom)
    → fixed' ≡ fixed → varied' ≡ varied → 0 < length calls → one ≡ get_or calls 0 one
    → ((x : ThrownLabel) → Contains fixed x → HasOneExitUnknown journal calls x.exception)
    → ((x : ThrownLabel) → Contains labels x → Contains fixed x ⊎ Contains varied x)
    → ((x : ThrownLabel) → Contains fixed x → Contains labels x) → ((x : ThrownLabel) → Contains varied x → Contains labels x)
    → new.number ≡ middle.number
    → ((callee number : ℕ) → IsPart core table (inner_atom number) atom → AreLabelsOf core table callee fixed' →
    AreAdded core table (fixed_flows (program_of core) journal one callee number fixed') middle.constraints new.constraints)
    → AreSpreadTo core table journal varied' calls old middle atom
    → AreSpreadTo core table journal labels calls old new atom
parted-spread core table journal labels varied fixed varied' fixed' calls one old middle new atom same same' some first once parts fixed_of varied_of number added to callee of labelled =
    let here : Contains calls one = subst (Contains calls) (sym first) (first-in calls one some) in
    let known : AreLabelsOf core table callee fixed' = λ x h. labelled x (fixed_of x (subst (λ list. Contains list x) same h)) in
    fixed-spread core table journal labels varied' fixed' calls one callee old middle new atom here of known
    (λ x h. once x (subst (λ list. Contains list x) same h))
    (λ x h. ⊎_elim (λ k. inl (subst (λ list. Contains list x) (sym same) k)) (λ k. inr (subst (λ list. Contains list x) (sym same') k)) (parts x h))
    number (λ n part. added callee n part known)
    (to callee of (λ x h. labelled x (varied_of x (subst (λ list. Contains list x) same' h))))

-- ---- what a new unknown gives, if there is one
pub joined-all : (core : Core) (table : List Label) (journal : Journal) (labels : List ThrownLabel) (calls : List Called) (parts : List stored.Atom) (old new : MadeList)
    (result : Result stored.Atom AllocError)
    → length labels ≡ 0 → 1 < length calls → IsLeft core table (map (λ (called : Called). inner_atom called.own) calls) parts
    → OnOk result (new.number ≡ old.number + 1)
    → OnOk result ((atoms : List NamedAtom) → IsLeft core table atoms parts → AreAdded core table (inner_constraint atoms old.number) old.constraints new.constraints)
    → IfOk result (λ atom. IsPart core table (inner_atom old.number) atom)
    → IfOk result (λ atom. AreSpreadTo core table journal labels calls old new atom)
joined-all core table journal (x ∷ labels) calls parts old new result none several left number added part = absurd (omega (arith, none))
joined-all core table journal [] calls parts old new (Err e) none several left number added part = tt
joined-all core table journal [] calls parts old new (Ok atom) none several left number added part = λ callee of labelled.
    all-spread core table journal calls old new atom several number (added (map (λ (called : Called). inner_atom called.own) calls) left) part

pub joined-two : (core : Core) (table : List Label) (journal : Journal) (labels : List ThrownLabel) (n : ℕ) (calls a b : List Called) (parts : List stored.Atom)
    (old middle late new : MadeList) (first second : stored.Atom) (result : Result stored.Atom AllocError)
    → a ≡ take n calls → b ≡ drop n calls → parts ≡ first ∷ second ∷ []
    → AreSpreadTo core table journal labels a old middle first → AreSpreadTo core table journal labels b middle late second
    → OnOk result (new.number ≡ late.number + 1)
    → OnOk result ((atoms : List NamedAtom) → IsLeft core table atoms parts → AreAdded core table (inner_constraint atoms late.number) late.constraints new.constraints)
    → IfOk result (λ atom. IsPart core table (inner_atom late.number) atom)
    → IfOk result (λ atom. AreSpreadTo core table journal labels calls old new atom)
joined-two core table journal labels n calls a b parts old middle late new first second (Err e) front back are one other number added part = tt
joined-two core table journal labels n calls a b parts old middle late new first second (Ok atom) front back are one other number added part = λ callee of labelled.
    let whole : a ++ b ≡ calls = rw (front, back) (take-append-drop n calls) in
    let of' : AreCallsOf callee (a ++ b) = subst (AreCallsOf callee) (sym whole) of in
    subst (λ list. IsSpreadTo core table journal labels list old new atom) whole
    (two-spread core table journal labels a b parts old middle late new first second atom are number added part
    (one callee (λ called h. of' called (Contains-append_left a b called h)) labelled)
    (other callee (λ called h. of' called (Contains-append_right a b called h)) labelled))

-- ---- constraints that stand by themselves
pub whole-none : (core : Core) (table : List Label) (journal : Journal) (raises : Called → ℕ → Type 0) (calls : List Called) (first : ℕ)
    → length calls ≡ 0 → IsSpreadWhole core table journal raises calls first first []
whole-none core table journal raises calls first none = record {
  added = [];
  meanings = [];
  stored_are = refl;
  number_is = omega arith;
  few = omega arith;
  each = λ stands themselves from c h. absurd (none_in_nil c h);
  leads = λ called inside exception raised. let below = inside.1 in absurd (omega (arith, none, below));
}

pub whole-then : (core : Core) (table : List Label) (journal : Journal) (raises : Called → ℕ → Type 0) (a b : List Called) (first : ℕ) (before : List Stored) (old new : MadeList)
    → IsSpreadWhole core table journal raises a first old.number before → AreSpread core table journal raises b old new → old.constraints ≡ []
    → IsSpreadWhole core table journal raises (a ++ b) first new.number (before ++ new.constraints)
whole-then core table journal raises a b first before old new one other none =
    let wanted : NamedConstraint → PartConstraint = wanted_constraint (program_of core) in
    record {
      added = one.added ++ other.added;
      meanings = one.meanings ++ other.meanings;
      stored_are = map-append (stands_for table) before new.constraints
          ∙ (ap (λ xs. xs ++ stand_for table new.constraints) one.stored_are
          ∙ (ap (λ ys. map wanted one.added ++ ys) (other.are_added ∙ ap (λ xs. stand_for table xs ++ map wanted other.added) none)
          ∙ sym (map-append wanted one.added other.added)));
      number_is = omega (arith, one.number_is, other.number_is, length-append one.meanings other.meanings);
      few = omega (arith, one.few, other.few, length-append one.meanings other.meanings, length-append a b);
      each = λ stands themselves from c h. ⊎_elim
          (λ k. spread-more core journal stands first old.number first new.number a (a ++ b) c (omega arith) (omega (arith, other.number_is)) (Contains-append_left a b)
          (one.each stands (λ called inside. themselves called (Contains-append_left a b called inside)) (stand-left stands first one.meanings other.meanings from) c k))
          (λ k. spread-more core journal stands old.number new.number first new.number b (a ++ b) c (omega (arith, one.number_is)) (omega arith) (Contains-append_right a b)
          (other.each stands (λ called inside. themselves called (Contains-append_right a b called inside))
          (stand-right stands first old.number one.meanings other.meanings one.number_is from) c k))
          (Contains-append_cases one.added other.added c h);
      leads = λ called inside exception raised exit_unknown takes from in_left. ⊎_elim
          (λ k. leads-more one.added (one.added ++ other.added) (Contains-append_left one.added other.added) from (inner_atom exit_unknown)
          (one.leads called k exception raised exit_unknown takes from in_left))
          (λ k. leads-more other.added (one.added ++ other.added) (Contains-append_right one.added other.added) from (inner_atom exit_unknown)
          (other.leads called k exception raised exit_unknown takes from in_left))
          (Contains-append_cases a b called inside);
    }

pub whole-less : (core : Core) (table : List Label) (journal : Journal) (raises raises' : Called → ℕ → Type 0) (calls calls' : List Called) (first next : ℕ) (stored : List Stored)
    → length calls ≤ length calls' → ((called : Called) → Contains calls called → Contains calls' called)
    → ((called : Called) (exception : ℕ) → Contains calls' called → raises' called exception → Contains calls called × raises called exception)
    → IsSpreadWhole core table journal raises calls first next stored → IsSpreadWhole core table journal raises' calls' first next stored
whole-less core table journal raises raises' calls calls' first next stored fewer within is spread = record {
  added = spread.added;
  meanings = spread.meanings;
  stored_are = spread.stored_are;
  number_is = spread.number_is;
  few = omega (arith, fewer, spread.few);
  each = λ stands themselves from c h. spread-more core journal stands first next first next calls calls' c (omega arith) (omega arith) within
      (spread.each stands (λ called inside. themselves called (within called inside)) from c h);
  leads = λ called inside exception raised.
      let had = is called exception inside raised in
      spread.leads called had.0 exception had.1;
}
