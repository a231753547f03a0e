-- The flows of exceptions by one unknown, to the exit unknowns that they have at a call.
use Rattle.std.proofs.Common.{◌≡◌, refl, sym, ap, ◌∙◌, subst, ℕ, ◌+◌, ◌<◌, List, [], ◌∷◌, ◌++◌, length, take, get_or, append_assoc, append-nil, ⊎_elim}
use Rattle.std.specs.Prelude.{Contains, Option, None, Some}
use Rattle.std.proofs.lemmas.List.{take_more}
use Rattle.std.proofs.lemmas.List.Elements.{Contains-append_cases, Contains-append_left, Contains-append_right}
use Rattle.common.proofs.Elements.{none_in_nil, Contains-cons_cases, Contains-first}
use Rattle.labels.specs.Label.{Label}
use Rattle.resolved.specs.declared.program.Core.{Core}
use Rattle.resolved.specs.declared.statement.Exit.TheVariants.{Throw}
use Rattle.resolved.specs.CoreOf.{program_of}
use Rattle.resolved.specs.Program.{Program}
use Rattle.gathering.specs.Names.{NamedAtom, NamedConstraint, named_atoms}
use Rattle.gathering.specs.Walk.{call_atoms, flow, inner_atom}
use Rattle.solver.specs.declared.constraints.Atom.{Atom}
use Rattle.constraints.specs.Added.{AreAdded, IsPart, Stored}
use Rattle.constraints.specs.Journals.{entry_at, raised_flow, exit_unknown_at}
use Rattle.constraints.specs.Spreading.{AreLabelsOf, fixed_flows}
use Rattle.constraints.specs.ExitUnknowns.{exit_unknown_of}
use Rattle.constraints.specs.declared.journal.Called.{Called}
use Rattle.constraints.specs.declared.journal.Journal.{Journal}
use Rattle.constraints.specs.declared.rows.ThrownLabel.{ThrownLabel}
use Rattle.constraints.specs.declared.exit_unknowns.ExitUnknown.{ExitUnknown}
use Rattle.constraints.proofs.Added.{added-same, added-then}

-- to the exit unknown of one exception
abbrev pub label_atoms : Program → (callee : ℕ) → ThrownLabel → List NamedAtom
label_atoms program callee x = named_atoms (call_atoms program callee (Throw x.exception))

in-flow : (left : List NamedAtom) (exit_unknown : Option ℕ) (c : NamedConstraint) → Contains (flow left exit_unknown) c
    → (to : ℕ) × (exit_unknown ≡ Some to) × (c ≡ record { at = 0; rule = 0; left = left; target = None; right = inner_atom to })
in-flow left None c h = absurd (none_in_nil c h)
in-flow left (Some to) c h =
    (to, refl, ⊎_elim sym (λ none. absurd (none_in_nil c none)) (Contains-cons_cases _ [] c h))

module _ (program : Program) (journal : Journal) (called : Called) (callee node : ℕ) where
  abbrev flows_of : List ThrownLabel → List NamedConstraint
  flows_of labels = fixed_flows program journal called callee node labels

  abbrev flow_of : ThrownLabel → List NamedConstraint
  flow_of x = flow (inner_atom node ∷ label_atoms program callee x) (exit_unknown_at journal called x.exception)

  fixed-append : (xs : List ThrownLabel) (x : ThrownLabel) → flows_of (xs ++ x ∷ []) ≡ flows_of xs ++ flow_of x
  fixed-append [] x = append-nil (flow_of x)
  fixed-append (y ∷ xs) x = ap (λ cs. flow_of y ++ cs) (fixed-append xs x) ∙ sym (append_assoc (flow_of y) (flows_of xs) (flow_of x))

  -- the exception from which one comes
  pub record IsFixedFlow (labels : List ThrownLabel) (c : NamedConstraint) : Type 0 where
    pub label : ThrownLabel
    pub among : Contains labels label
    pub exit_unknown : ℕ
    pub takes : exit_unknown_at journal called label.exception ≡ Some exit_unknown
    pub is : c ≡ raised_flow program callee node label.exception exit_unknown

  pub in-fixed : (labels : List ThrownLabel) (c : NamedConstraint) → Contains (flows_of labels) c → IsFixedFlow labels c
  in-fixed [] c h = absurd (none_in_nil c h)
  in-fixed (x ∷ xs) c h =
      ⊎_elim
      (λ k.
      let found = in-flow (inner_atom node ∷ label_atoms program callee x) (exit_unknown_at journal called x.exception) c k in
      record { label = x; among = Contains-first x xs; exit_unknown = found.0; takes = found.1; is = found.2 })
      (λ k.
      let found = in-fixed xs c k in
      record { label = found.label; among = Contains-append_right (x ∷ []) xs found.label found.among; exit_unknown = found.exit_unknown; takes = found.takes; is = found.is })
      (Contains-append_cases (flow_of x) (flows_of xs) c h)

  pub fixed-in : (labels : List ThrownLabel) (x : ThrownLabel) (exit_unknown : ℕ) → Contains labels x → exit_unknown_at journal called x.exception ≡ Some exit_unknown
      → Contains (flows_of labels) (raised_flow program callee node x.exception exit_unknown)
  fixed-in [] x exit_unknown h takes = absurd (none_in_nil x h)
  fixed-in (y ∷ ys) x exit_unknown h takes =
      ⊎_elim
      (λ same.
      let here : Contains (flow (inner_atom node ∷ label_atoms program callee x) (Some exit_unknown)) (raised_flow program callee node x.exception exit_unknown) = Contains-first _ [] in
      let there : Contains (flow_of x) (raised_flow program callee node x.exception exit_unknown) =
      subst (λ t. Contains (flow (inner_atom node ∷ label_atoms program callee x) t) (raised_flow program callee node x.exception exit_unknown)) (sym takes) here in
      Contains-append_left (flow_of y) (flows_of ys) _ (subst (λ z. Contains (flow_of z) (raised_flow program callee node x.exception exit_unknown)) (sym same) there))
      (λ k. Contains-append_right (flow_of y) (flows_of ys) _ (fixed-in ys x exit_unknown k takes))
      (Contains-cons_cases y ys x h)

-- one more was added
pub fixed-next : (core : Core) (table : List Label) (journal : Journal) (called : Called) (callee number : ℕ) (labels : List ThrownLabel) (i : ℕ) (x : ThrownLabel)
    (node : Atom) (entry : ExitUnknown) (exit_unknown : Option ℕ) (old middle new : List Stored)
    → i < length labels → ((d : ThrownLabel) → get_or labels i d ≡ x) → IsPart core table (inner_atom number) node → AreLabelsOf core table callee labels
    → entry ≡ entry_at journal x.exception called.call → exit_unknown ≡ exit_unknown_of called.barrier entry
    → AreAdded core table (fixed_flows (program_of core) journal called callee number (take i labels)) old middle
    → ((named of_label : NamedAtom) → IsPart core table named node → IsPart core table of_label x.label → AreAdded core table (flow (named ∷ of_label ∷ []) exit_unknown) middle new)
    → AreAdded core table (fixed_flows (program_of core) journal called callee number (take (i + 1) labels)) old new
fixed-next core table journal called callee number labels i x node entry exit_unknown old middle new inside at part labelled entry_is exit_unknown_is before step =
    let program : Program = program_of core in
    let there : Contains labels x = (i, inside, at x) in
    let atoms : List NamedAtom = inner_atom number ∷ label_atoms program callee x in
    let same : exit_unknown ≡ exit_unknown_at journal called x.exception = exit_unknown_is ∙ ap (exit_unknown_of called.barrier) entry_is in
    let last : AreAdded core table (flow atoms (exit_unknown_at journal called x.exception)) middle new =
    subst (λ t. AreAdded core table (flow atoms t) middle new) same
    (step (inner_atom number) (get_or (label_atoms program callee x) 0 (inner_atom number)) part (labelled x there).1) in
    added-same core table (fixed_flows program journal called callee number (take (i + 1) labels))
    (fixed_flows program journal called callee number (take i labels) ++ flow atoms (exit_unknown_at journal called x.exception)) old new
    (ap (fixed_flows program journal called callee number) (take_more labels i x inside ∙ ap (λ y. take i labels ++ y ∷ []) (at x))
    ∙ fixed-append program journal called callee number (take i labels) x)
    (added-then core table _ _ old middle new before last)
